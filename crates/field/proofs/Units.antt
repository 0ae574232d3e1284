-- A product of residues that have an inverse has one: `product-unit`.
use mathlib.Core.Path.{sym, ◌∙◌}
use Rattle.algebra.proofs.Ring.Field.{no_zero_divisors}
use Rattle.algebra.proofs.Zmod.Zmod.{zmod}
use Rattle.field.specs.declared.PrimeModulus.{PrimeModulus}
use Rattle.field.specs.declared.Residue.{Residue}
use Rattle.field.specs.Residues.{el, HasInverse, Stands}
use Rattle.field.proofs.Laws.{residue_field}

pub product-unit : (k : PrimeModulus) (a b c : Residue) → let m = k.m in HasInverse m a → HasInverse m b → Stands m c ((zmod m.p).mul (el m a) (el m b)) → HasInverse m c
product-unit k a b c ha hb hc = let m = k.m in record { kept = hc.kept; nonzero = λ e. no_zero_divisors (residue_field k.m k.prime) (el m a) (el m b) ha.nonzero hb.nonzero (sym hc.is ∙ e) }
