use native.Mathlib.Omega.{arith}
use native.Mathlib.Nat.{mod-lt}
use Rattle.field_montgomery.proofs.Constants.{word_is}
use Rattle.field_montgomery.proofs.word.Goals as goal

pub returns : goal.returns
returns c = word_is c.args.p c.requires
