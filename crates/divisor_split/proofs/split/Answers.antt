use Rattle.divisor_split.proofs.Parts.{neutral_none, one_none}
use Rattle.divisor_split.proofs.split.Goals as goal

pub returns-in-Neutral : goal.returns-in-Neutral
returns-in-Neutral c = rw c.in-Neutral.is (neutral_none c.args.prime.m)

pub returns-in-One : goal.returns-in-One
returns-in-One c = rw c.in-One.is (one_none c.args.prime.m _)
