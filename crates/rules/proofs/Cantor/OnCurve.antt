-- The test `is_on_curve` decides whether u divides f - v², over any K (`on_curve_decides`).
use Prim.Native.Nat.{ℕ, zero, suc}
use mathlib.Core.Path.{◌≡◌, refl, sym, ap, ap₂, ◌∙◌}
use mathlib.Core.List.{List, [], ◌∷◌}
use mathlib.Core.Bool.{true, false, false≢true}
use mathlib.Core.Logic.{◌↔◌}
use lib.ListN.{length, replicate}
use Rattle.algebra.proofs.Ring.Quote.{ring, quote, by}
use Rattle.algebra.proofs.Ring.Divides.{Divides}
use Rattle.algebra.proofs.Poly.Term.{C, X, constants}
use Rattle.algebra.proofs.List.Ops.{quotient, remainder, is_zero}
use Rattle.algebra.proofs.List.Value.{pol, pol_whole, pol_add, pol_neg, pol_mul, pol_nil, pol_cons}
use Rattle.algebra.proofs.List.Division.{divided, no_rest}
use Rattle.rules.specs.Curve.{Curve, Kx}
use Rattle.rules.specs.Pair.{Pair, u_of, f_minus_v²}
use Rattle.rules.specs.Sum.{f_minus_v²_list}
use Rattle.rules.specs.Tests.{is_on_curve}

module _ (E : Curve) where
  open E.K use {base as F}
  open F use {El as A}
  open Kx E use {add as ◌+◌, mul as ◌*◌, one as 1P}

  infixl 65 ◌+◌
  infixl 70 ◌*◌
  zero_sound : (l : List A) → is_zero E.K l ≡ true → pol F l ≡ (Kx E).zer
  unfolding is_zero
  zero_sound [] h = pol_nil F
  zero_sound (x ∷ l) h = go (E.K.dec x F.zer) h (zero_sound l)
    where
      go : (d : Dec (x ≡ F.zer)) → elim d [ yes e ↦ is_zero E.K l | no n ↦ false ] ≡ true → (is_zero E.K l ≡ true → pol F l ≡ (Kx E).zer) → pol F (x ∷ l) ≡ (Kx E).zer
      go (yes e) h rec = pol_cons F x l ∙ ap₂ (λ s t. C F s + X F * t) e (rec h) ∙ ap (λ s. s + X F * (Kx E).zer) (constants F).h_zer
          ∙ ring (Kx E) (X F ∷ []) (search quote depth 40) refl
      go (no n) h rec = absurd (false≢true h)

  zero_complete : (n : ℕ) → is_zero E.K (replicate n F.zer) ≡ true
  unfolding is_zero
  zero_complete zero = refl
  zero_complete (suc n) = go (E.K.dec F.zer F.zer) (zero_complete n)
    where
      go : (d : Dec (F.zer ≡ F.zer)) → is_zero E.K (replicate n F.zer) ≡ true → elim d [ yes e ↦ is_zero E.K (replicate n F.zer) | no n ↦ false ] ≡ true
      go (yes e) h = h
      go (no n) h = absurd (n refl)

  pub f_v²_is : (a : Pair E.K) → pol F (f_minus_v²_list E a) ≡ f_minus_v² E a
  f_v²_is a = simp (pol_add F, pol_neg F, pol_mul F, pol_whole F)

  pub on_curve_decides : (a : Pair E.K) → (is_on_curve E a ≡ true) ↔ Divides (Kx E) (u_of E a) (f_minus_v² E a)
  unfolding is_on_curve
  on_curve_decides a = (
    λ h. record {
      factor = pol F (quotient F a.u (f_minus_v²_list E a));
      is = sym (f_v²_is a) ∙ divided F a.u (f_minus_v²_list E a)
          ∙ by (Kx E) 1P (zero_sound (remainder F a.u (f_minus_v²_list E a)) h)
          (ring (Kx E) (pol F (quotient F a.u (f_minus_v²_list E a)) ∷ u_of E a ∷ pol F (remainder F a.u (f_minus_v²_list E a)) ∷ []) (search quote depth 40) refl);
    },
    λ d. ap (is_zero E.K) (no_rest F a.u (f_minus_v²_list E a) d.factor (f_v²_is a ∙ d.is)) ∙ zero_complete (length a.u),
  )
