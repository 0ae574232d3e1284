-- What the theorems suppose of a curve, in two records. `OverField E`: K is a field. `Accepted E`: also 1 + 1 ≠ 0, f has degree 2g + 1, and
-- f is square-free. Gives: both for any field, and for the whole numbers modulo an odd prime; the degree of f.
-- Open: `field_of`, so that the rules on E are rules at the field's own arithmetic.
use Prim.Native.Nat.{ℕ, suc, ◌+◌, ◌<◌}
use mathlib.Core.Path.{◌≡◌, subst}
use mathlib.Core.List.{List}
use mathlib.Core.Logic.{◌≢◌}
use lib.ListN.{length}
use Rattle.algebra.proofs.Ring.Field.{Field}
use Rattle.algebra.proofs.Zmod.Zmod.{zmod}
use Rattle.algebra.proofs.Zmod.Prime.{Prime}
use Rattle.algebra.proofs.Zmod.PrimeField.{modulo, prime_field, two_ne_zero}
use Rattle.algebra.proofs.Poly.Degree.{Degree}
use Rattle.algebra.proofs.List.Euclid.{mon_degree}
use Rattle.rules.specs.Curve.{Curve, f, SquareFree}

pub record OverField (E : Curve) : Type 0 where
  pub mul_inv : (a : E.K.base.El) → a ≢ E.K.base.zer → E.K.base.mul a (E.K.inv a) ≡ E.K.base.one
  pub one_ne : E.K.base.one ≢ E.K.base.zer

pub record Accepted (E : Curve) : Type 0 where
  pub over : OverField E
  pub two_ne : E.K.base.add E.K.base.one E.K.base.one ≢ E.K.base.zer
  pub odd : length E.low ≡ suc (E.g + E.g)
  pub square_free : SquareFree E

abbrev pub field_of : (E : Curve) → OverField E → Field
field_of E h = record { arith = E.K; mul_inv = h.mul_inv; one_ne = h.one_ne }

pub f_degree : (E : Curve) (o : OverField E) → length E.low ≡ suc (E.g + E.g) → Degree (field_of E o) (suc (E.g + E.g)) (f E)
f_degree E o odd = subst (λ (n : ℕ). Degree (field_of E o) n (f E)) odd (mon_degree (field_of E o) E.low)

-- ---- any field with 1 + 1 ≠ 0
module _ (K : Field) (g : ℕ) (low : List K.arith.base.El) where
  abbrev pub over : Curve
  over = record { K = K.arith; g = g; low = low }

  pub accepted_over : K.arith.base.add K.arith.base.one K.arith.base.one ≢ K.arith.base.zer
      → length low ≡ suc (g + g) → SquareFree over → Accepted over
  accepted_over two odd sf = record { over = record { mul_inv = K.mul_inv; one_ne = K.one_ne }; two_ne = two; odd = odd; square_free = sf }

-- ---- the whole numbers modulo an odd prime
module _ (p : ℕ) (g : ℕ) (low : List (zmod p).El) where
  abbrev pub mod_p : Curve
  mod_p = record { K = modulo p; g = g; low = low }

  pub accepted_mod_p : Prime p → 2 < p → length low ≡ suc (g + g) → SquareFree mod_p → Accepted mod_p
  accepted_mod_p prime l odd sf = accepted_over (prime_field p prime) g low (two_ne_zero p prime l) odd sf
