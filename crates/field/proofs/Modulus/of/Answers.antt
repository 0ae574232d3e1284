use native.Mathlib.Omega.{arith}
use Rattle.field_words.proofs.Bounds.{room}
use Rattle.field_montgomery.proofs.Constants.{square_requires}
use Rattle.field.proofs.Constants.{turns_of, constants_of}
use Rattle.field.proofs.Modulus.of.Goals as goal

pub invariant_of-result-clause-constants : goal.invariant_of-result-clause-constants
invariant_of-result-clause-constants c = constants_of _ _ c.requires (turns_of _ _ c.requires c.word_inverse-q.ensures) _ _ _ c.word-one.ensures c.squared-x.ensures c.lower-square.ensures c.product.ensures c.lower-cube.ensures
