use native.Mathlib.Omega.{arith}
use mathlib.Core.Path.{refl}
use Rattle.field_words.proofs.Newton.{closer_is}
use Rattle.field_words.proofs.closer.Goals as goal

pub returns : goal.returns
returns c = closer_is _ _ _ _ _ refl (omega arith) refl
