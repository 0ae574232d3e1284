-- The engine's steps on the curve in code. Gives: a tuple doubled or added to is again one where its Z isn't 0 (`free_double`, `free_add`); what is taken to plain form and back (`plain_of`, `kept_free`).
use Prim.Native.Nat.{ℕ}
use mathlib.Core.Path.{◌≡◌, refl, sym, ap, ap₂, ◌∙◌, subst}
use mathlib.Core.Logic.{◌≢◌}
use mathlib.Core.List.{List, [], ◌∷◌}
use Rattle.algebra.proofs.Zmod.Zmod.{zmod}
use Rattle.algebra.proofs.Zmod.PrimeField.{modulo}
use Rattle.rules.specs.Curve.{Curve as RuleCurve}
use Rattle.rules.specs.Pair.{Pair, Valid}
use Rattle.rules.specs.Sum.{sum, double}
use Rattle.rules.proofs.IsSum.{double_is}
use Rattle.rules.proofs.Cantor.Accepted.{Accepted}
use Rattle.rules.proofs.Cantor.Sum.{sum_valid}
use Rattle.field.specs.declared.Modulus.{Modulus}
use Rattle.field.specs.declared.Residue.{Residue}
use Rattle.field.specs.Residues.{el, Stands, HasInverse}
use Rattle.divisor.specs.declared.Divisor.{Divisor}
use Rattle.divisor.specs.declared.Divisor.TheVariants.{Two}
use Rattle.divisor.specs.declared.Quadratic.{Quadratic}
use Rattle.divisor.specs.Divisors.{elements, pair}
use Rattle.curve.specs.declared.Curve.{Curve}
use Rattle.curve.specs.Curves.{curve_of, lows, Holds, Gives}
use Rattle.curve.proofs.Above.{of_genus}
use Rattle.curve.proofs.Contains.{accepted}
use Rattle.multiple_tuple.specs.declared.Tuple.{Tuple}
use Rattle.multiple_tuple.specs.Tuples.{Quotients, Mixed, Doubled, Lifted, Divided}
use Rattle.multiple_tuple_step.specs.declared.State.{State}
use Rattle.multiple_tuple_step.specs.declared.State.TheVariants.{Free}
use Rattle.multiple_tuple_step.specs.States.{IsFree, Means, SomeFree, Some}

module _ (c : Curve) where
  abbrev m : Modulus
  m = c.prime.m

  abbrev A : Type 0
  A = (zmod c.prime.m.p).El

  abbrev P : Type 0
  P = Pair (modulo c.prime.m.p)

  abbrev at : ℕ → List A → RuleCurve
  at n l = record { K = modulo c.prime.m.p; g = n; low = l }

  -- on the curve of genus 2 with the coefficients l, and on this one
  moved : (Says : ℕ → List A → Type 0) → c.g ≡ 2 → (l : List A) → l ≡ el c.prime.m c.f0 ∷ el c.prime.m c.f1 ∷ el c.prime.m c.f2 ∷ el c.prime.m c.f3 ∷ el c.prime.m c.f4 ∷ [] → Says 2 l → Says c.g (elements c.prime.m (lows c))
  moved Says e l q x = of_genus c Says 2 e (subst (λ (j : List A). Says 2 j) q x)

  -- ---- tuples
  module _ (t : Tuple) (r : Tuple) (nz : el m r.z ≢ (zmod c.prime.m.p).zer) where
    pub free_double : (f2 f3 f4 : Residue) → Stands m f2 (el c.prime.m c.f2) → Stands m f3 (el c.prime.m c.f3) → Stands m f4 (el c.prime.m c.f4) → Doubled m f2 f3 f4 t r → (x : P) → IsFree c t x → IsFree c r (double (curve_of c) x)
    free_double f2 f3 f4 h2 h3 h4 hr x hx = subst (IsFree c r) (sym (double_is (curve_of c) x)) (record {
      genus = hx.genus;
      kept = hr.kept;
      quotients = moved (λ k j. Accepted (at k j) → Valid (at k j) x → Quotients m r (sum (at k j) x x)) hx.genus (el c.prime.m c.f0 ∷ el c.prime.m c.f1 ∷ el m f2 ∷ el m f3 ∷ el m f4 ∷ [])
          (ap₂ (λ (i j : A). el c.prime.m c.f0 ∷ el c.prime.m c.f1 ∷ i ∷ j ∷ el m f4 ∷ []) h2.is h3.is ∙ ap (λ (i : A). el c.prime.m c.f0 ∷ el c.prime.m c.f1 ∷ el c.prime.m c.f2 ∷ el c.prime.m c.f3 ∷ i ∷ []) h4.is)
          (λ ok v. hr.is nz x hx.quotients (el c.prime.m c.f0) (el c.prime.m c.f1) ok v) (accepted c) hx.valid;
      valid = sum_valid (curve_of c) (accepted c) x x hx.valid hx.valid;
    })

    pub free_add : (f4 : Residue) → Stands m f4 (el c.prime.m c.f4) → (q : Quadratic) → Holds c (Two q) → Mixed m f4 t q r → (x : P) → IsFree c t x → IsFree c r (sum (curve_of c) x (pair m (Two q)))
    free_add f4 h4 q hq hr x hx = record {
      genus = hx.genus;
      kept = hr.kept;
      quotients = moved (λ k j. Accepted (at k j) → Valid (at k j) x → Valid (at k j) (pair m (Two q)) → Quotients m r (sum (at k j) x (pair m (Two q)))) hx.genus (el c.prime.m c.f0 ∷ el c.prime.m c.f1 ∷ el c.prime.m c.f2 ∷ el c.prime.m c.f3 ∷ el m f4 ∷ [])
          (ap (λ (i : A). el c.prime.m c.f0 ∷ el c.prime.m c.f1 ∷ el c.prime.m c.f2 ∷ el c.prime.m c.f3 ∷ i ∷ []) h4.is)
          (λ ok v w. hr.is nz x hx.quotients (el c.prime.m c.f0) (el c.prime.m c.f1) (el c.prime.m c.f2) (el c.prime.m c.f3) ok v w) (accepted c) hx.valid hq.valid;
      valid = sum_valid (curve_of c) (accepted c) x (pair m (Two q)) hx.valid hq.valid;
    }

  -- ---- to plain form
  pub unit : (t : Tuple) → SomeFree c t → HasInverse m t.z
  unit t y = record { kept = y.free.kept.z; nonzero = y.free.quotients.nonzero }

  pub plain_of : (t : Tuple) (q : Quadratic) → Divided m t q → (x : P) → IsFree c t x → Gives c (Two q) x
  plain_of t q hq x hx = record {
    holds = record { held = hq.held; valid = subst (Valid (curve_of c)) (sym (hq.is x hx.quotients)) hx.valid };
    is = hq.is x hx.quotients;
  }

  pub itself : (d : Divisor) → Holds c d → Gives c d (pair m d)
  itself d hd = record { holds = hd; is = refl }

  pub kept_free : c.g ≡ 2 → (d : Divisor) (q : Quadratic) → d ≡ Two q → Holds c d → (t : Tuple) → Lifted m q t → IsFree c t (pair m d)
  kept_free e d q p hd t ht = record { genus = e; kept = ht.kept; quotients = subst (λ (b : Divisor). Quotients m t (pair m b)) (sym p) ht.is; valid = hd.valid }

-- ---- of values known by their cases
pub some-free : (c : Curve) (s : State) (t : Tuple) → s ≡ Free t → Some c s → SomeFree c t
some-free c s t e y = record { x = y.x; free = subst (λ (r : State). Means c r y.x) e y.means }

pub known : (c : Curve) (s s' : State) → s ≡ s' → (x : Pair (modulo c.prime.m.p)) → Means c s x → Means c s' x
known c s s' e x y = subst (λ (r : State). Means c r x) e y
