-- A Poly of one coefficient. Gives: it is that constant (`constant_is`), which isn't zero, and it divides every polynomial.
use Prim.Native.Nat.{ℕ, zero, suc, ◌-◌}
use mathlib.Core.Path.{◌≡◌, refl, sym, ap, ◌∙◌}
use mathlib.Core.Logic.{◌≢◌}
use native.Mathlib.Omega.{arith}
use Rattle.algebra.proofs.Ring.CRing.{mul-one}
use Rattle.algebra.proofs.Ring.Divides.{Divides}
use Rattle.algebra.proofs.Ring.Field.{Field}
use Rattle.algebra.proofs.Poly.Series.{con}
use Rattle.algebra.proofs.Poly.Poly.{coef, poly_ext}
use Rattle.algebra.proofs.Poly.Term.{at, C, coef_C, constants}
use Rattle.algebra.proofs.Zmod.Prime.{Prime}
use Rattle.field.specs.declared.Modulus.{Modulus}
use Rattle.field.proofs.Laws.{residue_field}
use Rattle.poly.specs.declared.Poly.{Poly}
use Rattle.poly.specs.Polys.{K, P, pol, Ok}

module _ (m : Modulus) (prime : Prime m.p) {g : Poly} (h : Ok m g) (e : g.n ≡ 1) where
  open K m use {El as A, mul as ◌⊗◌, zer as 𝟘, mul_comm}
  open P m use {El as Po, mul as ◌*P◌}

  infixl 70 ◌⊗◌
  infixl 70 ◌*P◌
  abbrev F : Field
  F = residue_field m prime

  abbrev pub head : A
  head = coef (K m) (pol m g) 0

  pub head_ne : head ≢ 𝟘
  head_ne z = h.size.top (omega arith) (ap (coef (K m) (pol m g)) {x = g.n - 1} {y = 0} (omega arith) ∙ z)

  pub constant_is : pol m g ≡ C (K m) head
  unfolding con
  constant_is = poly_ext (K m) (λ k. go k ∙ sym (at (K m) (coef_C (K m) head) k))
    where
      go : (k : ℕ) → coef (K m) (pol m g) k ≡ con (K m) head k
      go zero = refl
      go (suc k) = h.size.end (suc k) (omega arith)

  pub divides_all : (w : Po) → Divides (P m) (pol m g) w
  divides_all w = record { factor = w *P C (K m) back; is = sym ((P m).mul_assoc w (C (K m) back) (pol m g) ∙ ap (λ t. w *P t) one_is ∙ mul-one (P m) w) }
    where
      back : A
      back = F.arith.inv head

      one_is : C (K m) back *P pol m g ≡ (P m).one
      one_is = ap (λ t. C (K m) back *P t) constant_is ∙ sym ((constants (K m)).h_mul back head) ∙ ap (C (K m)) (mul_comm back head ∙ F.mul_inv head head_ne) ∙ (constants (K m)).h_one
