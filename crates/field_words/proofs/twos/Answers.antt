use Rattle.std.proofs.Common.{arith}
use lib.Count.{trailing_le}
use Rattle.field_words.proofs.Trailing.{twos_is}
use Rattle.field_words.proofs.twos.Goals as goal

pub returns : goal.returns
returns c = twos_is c.args.n c.requires (omega arith)
