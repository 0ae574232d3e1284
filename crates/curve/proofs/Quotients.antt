-- What f - v² leaves, by the quotient's coefficients q: they are the numbers that the division from the top takes off, one after the other. Gives: `quotients_two` and
-- `quotients_three`, and `quotient_three`: the quotient itself in genus 3.
use mathlib.Core.Path.{◌≡◌, refl, sym, ap, ap₂, ◌∙◌}
use mathlib.Core.List.{List, [], ◌∷◌, ◌++◌}
use native.Mathlib.Omega.{arith}
use Rattle.algebra.proofs.Ring.CRing.{CRing}
use Rattle.algebra.proofs.Ring.Quote.{ring, quote}
use Rattle.algebra.proofs.List.Ops.{add_l, neg_l, scale_l, slide, divmod, remainder, whole}
use Rattle.algebra.proofs.List.Division.{own_rest}
use Rattle.field.specs.declared.Residue.{Residue}
use Rattle.field.specs.Residues.{el}
use Rattle.divisor.specs.declared.Divisor.TheVariants.{Two, Three}
use Rattle.divisor.specs.declared.Quadratic.{Quadratic}
use Rattle.divisor.specs.declared.Cubic.{Cubic}
use Rattle.divisor.specs.Divisors.{elements, pair}
use Rattle.divisor.specs.declared.Duo.{Duo}
use Rattle.divisor.specs.declared.Trio.{Trio}
use Rattle.curve.specs.division.Turns.{K, AllKept, two, three}
use Rattle.curve.specs.declared.Curve.{Curve}
use Rattle.curve.specs.Curves.{above}
use Rattle.curve.specs.Rests.{Rests}
use Rattle.curve.specs.Quotient.{Quotient}
use Rattle.curve.proofs.Squares.{square_two, square_three}
use Rattle.curve.proofs.Rests.{in_two, in_three}

module _ (F : CRing) where
  open F use {El as A, add as ◌⊕◌, mul as ◌⊗◌, neg as opp, one as 𝟙}

  infixl 65 ◌⊕◌
  infixl 65 ◌⊖◌
  infixl 70 ◌⊗◌
  abbrev ◌⊖◌ : A → A → A
  a ⊖ b = a ⊕ opp b

  pub less : {a b s t : A} → a ≡ s → b ≡ t → a ⊖ b ≡ s ⊖ t
  less h k = ap₂ ◌⊖◌ h k

  -- one coefficient more
  turn_two : (u0 u1 c x0 x1 y0 y1 : A) (l : List A) → remainder F (u0 ∷ u1 ∷ []) l ≡ x0 ∷ x1 ∷ [] → y0 ≡ c ⊖ x1 ⊗ u0 → y1 ≡ x0 ⊖ x1 ⊗ u1 → remainder F (u0 ∷ u1 ∷ []) (c ∷ l) ≡ y0 ∷ y1 ∷ []
  unfolding remainder divmod slide add_l neg_l scale_l
  turn_two u0 u1 c x0 x1 y0 y1 l h e0 e1 = ap (λ (r : List A). add_l F (slide F c r).0 (neg_l F (scale_l F (slide F c r).1 (u0 ∷ u1 ∷ [])))) h ∙ sym (ap₂ (λ (s t : A). s ∷ t ∷ []) e0 e1)

  turn_three : (u0 u1 u2 c x0 x1 x2 y0 y1 y2 : A) (l : List A) → remainder F (u0 ∷ u1 ∷ u2 ∷ []) l ≡ x0 ∷ x1 ∷ x2 ∷ [] → y0 ≡ c ⊖ x2 ⊗ u0 → y1 ≡ x0 ⊖ x2 ⊗ u1 → y2 ≡ x1 ⊖ x2 ⊗ u2
      → remainder F (u0 ∷ u1 ∷ u2 ∷ []) (c ∷ l) ≡ y0 ∷ y1 ∷ y2 ∷ []
  unfolding remainder divmod slide add_l neg_l scale_l
  turn_three u0 u1 u2 c x0 x1 x2 y0 y1 y2 l h e0 e1 e2 = ap (λ (r : List A). add_l F (slide F c r).0 (neg_l F (scale_l F (slide F c r).1 (u0 ∷ u1 ∷ u2 ∷ [])))) h
      ∙ sym (ap₂ (λ (s t : A). s ∷ t ∷ y2 ∷ []) e0 e1 ∙ ap (λ (t : A). (c ⊖ x2 ⊗ u0) ∷ (x0 ⊖ x2 ⊗ u1) ∷ t ∷ []) e2)

  pub left_two : (u0 u1 v0 v1 f0 f1 f2 f3 f4 w0 q2 q1 q0 r1 r0 : A) → w0 ≡ v0 ⊕ v0 → q2 ≡ f4 ⊖ u1 → q1 ≡ f3 ⊖ u0 ⊖ q2 ⊗ u1 → q0 ≡ f2 ⊖ (v1 ⊗ v1 ⊕ q2 ⊗ u0) ⊖ q1 ⊗ u1
      → r1 ≡ f1 ⊖ (w0 ⊗ v1 ⊕ q1 ⊗ u0) ⊖ q0 ⊗ u1 → r0 ≡ f0 ⊖ (v0 ⊗ v0 ⊕ q0 ⊗ u0)
      → remainder F (u0 ∷ u1 ∷ []) ((f0 ⊖ v0 ⊗ v0) ∷ (f1 ⊖ (v0 ⊕ v0) ⊗ v1) ∷ (f2 ⊖ v1 ⊗ v1) ∷ f3 ∷ f4 ∷ 𝟙 ∷ []) ≡ r0 ∷ r1 ∷ []
  left_two u0 u1 v0 v1 f0 f1 f2 f3 f4 w0 q2 q1 q0 r1 r0 hw h2 h1 h0 k1 k0 =
      turn_two u0 u1 (f0 ⊖ v0 ⊗ v0) (f1 ⊖ (v0 ⊕ v0) ⊗ v1 ⊖ q1 ⊗ u0) q0 r0 r1 _
      (turn_two u0 u1 (f1 ⊖ (v0 ⊕ v0) ⊗ v1) (f2 ⊖ v1 ⊗ v1 ⊖ q2 ⊗ u0) q1 (f1 ⊖ (v0 ⊕ v0) ⊗ v1 ⊖ q1 ⊗ u0) q0 _
      (turn_two u0 u1 (f2 ⊖ v1 ⊗ v1) (f3 ⊖ u0) q2 (f2 ⊖ v1 ⊗ v1 ⊖ q2 ⊗ u0) q1 _
      (turn_two u0 u1 f3 f4 𝟙 (f3 ⊖ u0) q2 _ (own_rest F (u0 ∷ u1 ∷ []) (f4 ∷ 𝟙 ∷ []) refl)
      (ring F (f3 ∷ u0 ∷ []) (search quote depth 40) refl)
      (h2 ∙ ring F (f4 ∷ u1 ∷ []) (search quote depth 40) refl))
      refl h1)
      refl (h0 ∙ ring F (f2 ∷ v1 ∷ q2 ∷ u0 ∷ q1 ∷ u1 ∷ []) (search quote depth 40) refl))
      (k0 ∙ ring F (f0 ∷ v0 ∷ q0 ∷ u0 ∷ []) (search quote depth 40) refl)
      (k1 ∙ ap (λ (t : A). f1 ⊖ (t ⊗ v1 ⊕ q1 ⊗ u0) ⊖ q0 ⊗ u1) hw ∙ ring F (f1 ∷ v0 ∷ v1 ∷ q1 ∷ u0 ∷ q0 ∷ u1 ∷ []) (search quote depth 40) refl)

  pub left_three : (u0 u1 u2 v0 v1 v2 f0 f1 f2 f3 f4 f5 f6 w0 w2 q3 q2 q1 q0 r2 r1 r0 : A) → w0 ≡ v0 ⊕ v0 → w2 ≡ v2 ⊕ v2 → q3 ≡ f6 ⊖ u2 → q2 ≡ f5 ⊖ u1 ⊖ q3 ⊗ u2 → q1 ≡ f4 ⊖ u0 ⊖ (v2 ⊗ v2 ⊕ q3 ⊗ u1) ⊖ q2 ⊗ u2
      → q0 ≡ f3 ⊖ (v1 ⊗ (v2 ⊕ v2) ⊕ q3 ⊗ u0) ⊖ (q2 ⊗ u1 ⊕ q1 ⊗ u2) → r2 ≡ f2 ⊖ (v0 ⊗ w2 ⊕ v1 ⊗ v1) ⊖ (q2 ⊗ u0 ⊕ q1 ⊗ u1) ⊖ q0 ⊗ u2 → r1 ≡ f1 ⊖ (w0 ⊗ v1 ⊕ q1 ⊗ u0) ⊖ q0 ⊗ u1 → r0 ≡ f0 ⊖ (v0 ⊗ v0 ⊕ q0 ⊗ u0)
      → remainder F (u0 ∷ u1 ∷ u2 ∷ []) ((f0 ⊖ v0 ⊗ v0) ∷ (f1 ⊖ (v0 ⊕ v0) ⊗ v1) ∷ (f2 ⊖ v1 ⊗ v1 ⊖ (v0 ⊕ v0) ⊗ v2) ∷ (f3 ⊖ (v1 ⊕ v1) ⊗ v2) ∷ (f4 ⊖ v2 ⊗ v2) ∷ f5 ∷ f6 ∷ 𝟙 ∷ []) ≡ r0 ∷ r1 ∷ r2 ∷ []
  left_three u0 u1 u2 v0 v1 v2 f0 f1 f2 f3 f4 f5 f6 w0 w2 q3 q2 q1 q0 r2 r1 r0 hw hx h3 h2 h1 h0 k2 k1 k0 =
      turn_three u0 u1 u2 (f0 ⊖ v0 ⊗ v0) (f1 ⊖ (v0 ⊕ v0) ⊗ v1 ⊖ q1 ⊗ u0) (f2 ⊖ v1 ⊗ v1 ⊖ (v0 ⊕ v0) ⊗ v2 ⊖ q2 ⊗ u0 ⊖ q1 ⊗ u1) q0 r0 r1 r2 _
      (turn_three u0 u1 u2 (f1 ⊖ (v0 ⊕ v0) ⊗ v1) (f2 ⊖ v1 ⊗ v1 ⊖ (v0 ⊕ v0) ⊗ v2 ⊖ q2 ⊗ u0) (f3 ⊖ (v1 ⊕ v1) ⊗ v2 ⊖ q3 ⊗ u0 ⊖ q2 ⊗ u1) q1 (f1 ⊖ (v0 ⊕ v0) ⊗ v1 ⊖ q1 ⊗ u0) (f2 ⊖ v1 ⊗ v1 ⊖ (v0 ⊕ v0) ⊗ v2 ⊖ q2 ⊗ u0 ⊖ q1 ⊗ u1) q0 _
      (turn_three u0 u1 u2 (f2 ⊖ v1 ⊗ v1 ⊖ (v0 ⊕ v0) ⊗ v2) (f3 ⊖ (v1 ⊕ v1) ⊗ v2 ⊖ q3 ⊗ u0) (f4 ⊖ v2 ⊗ v2 ⊖ u0 ⊖ q3 ⊗ u1) q2 (f2 ⊖ v1 ⊗ v1 ⊖ (v0 ⊕ v0) ⊗ v2 ⊖ q2 ⊗ u0) (f3 ⊖ (v1 ⊕ v1) ⊗ v2 ⊖ q3 ⊗ u0 ⊖ q2 ⊗ u1) q1 _
      (turn_three u0 u1 u2 (f3 ⊖ (v1 ⊕ v1) ⊗ v2) (f4 ⊖ v2 ⊗ v2 ⊖ u0) (f5 ⊖ u1) q3 (f3 ⊖ (v1 ⊕ v1) ⊗ v2 ⊖ q3 ⊗ u0) (f4 ⊖ v2 ⊗ v2 ⊖ u0 ⊖ q3 ⊗ u1) q2 _
      (turn_three u0 u1 u2 (f4 ⊖ v2 ⊗ v2) f5 f6 𝟙 (f4 ⊖ v2 ⊗ v2 ⊖ u0) (f5 ⊖ u1) q3 _ (own_rest F (u0 ∷ u1 ∷ u2 ∷ []) (f5 ∷ f6 ∷ 𝟙 ∷ []) refl)
      (ring F (f4 ∷ v2 ∷ u0 ∷ []) (search quote depth 40) refl)
      (ring F (f5 ∷ u1 ∷ []) (search quote depth 40) refl)
      (h3 ∙ ring F (f6 ∷ u2 ∷ []) (search quote depth 40) refl))
      refl refl h2)
      refl refl (h1 ∙ ring F (f4 ∷ u0 ∷ v2 ∷ q3 ∷ u1 ∷ q2 ∷ u2 ∷ []) (search quote depth 40) refl))
      refl refl (h0 ∙ ring F (f3 ∷ v1 ∷ v2 ∷ q3 ∷ u0 ∷ q2 ∷ u1 ∷ q1 ∷ u2 ∷ []) (search quote depth 40) refl))
      (k0 ∙ ring F (f0 ∷ v0 ∷ q0 ∷ u0 ∷ []) (search quote depth 40) refl)
      (k1 ∙ ap (λ (t : A). f1 ⊖ (t ⊗ v1 ⊕ q1 ⊗ u0) ⊖ q0 ⊗ u1) hw ∙ ring F (f1 ∷ v0 ∷ v1 ∷ q1 ∷ u0 ∷ q0 ∷ u1 ∷ []) (search quote depth 40) refl)
      (k2 ∙ ap (λ (t : A). f2 ⊖ (v0 ⊗ t ⊕ v1 ⊗ v1) ⊖ (q2 ⊗ u0 ⊕ q1 ⊗ u1) ⊖ q0 ⊗ u2) hx ∙ ring F (f2 ∷ v0 ∷ v1 ∷ v2 ∷ q2 ∷ u0 ∷ q1 ∷ u1 ∷ q0 ∷ u2 ∷ []) (search quote depth 40) refl)

module _ (c : Curve) where
  open K c.prime.m use {El as A, add as ◌⊕◌, mul as ◌⊗◌, neg as opp, one as 𝟙}

  infixl 65 ◌⊕◌
  infixl 65 ◌⊟◌
  infixl 70 ◌⊗◌
  abbrev ◌⊟◌ : A → A → A
  a ⊟ b = a ⊕ opp b

  abbrev e : Residue → A
  e x = el c.prime.m x

  pub quotient_three : (d : Cubic) (w2 q3 : Residue) (q : Trio) → AllKept c.prime.m (three q) → e w2 ≡ e d.v2 ⊕ e d.v2 → e q3 ≡ e c.f6 ⊟ e d.u2
      → e q.c2 ≡ e c.f5 ⊟ e d.u1 ⊟ e q3 ⊗ e d.u2 → e q.c1 ≡ e c.f4 ⊟ e d.u0 ⊟ (e d.v2 ⊗ e d.v2 ⊕ e q3 ⊗ e d.u1) ⊟ e q.c2 ⊗ e d.u2
      → e q.c0 ≡ e c.f3 ⊟ (e d.v1 ⊗ e w2 ⊕ e q3 ⊗ e d.u0) ⊟ (e q.c2 ⊗ e d.u1 ⊕ e q.c1 ⊗ e d.u2) → Quotient c d q
  quotient_three d w2 q3 q k hx h3 h2 h1 h0 = record {
    kept = k;
    q2 = h2 ∙ ap (λ (t : A). e c.f5 ⊟ e d.u1 ⊟ t ⊗ e d.u2) h3;
    q1 = h1 ∙ ap (λ (t : A). e c.f4 ⊟ e d.u0 ⊟ (e d.v2 ⊗ e d.v2 ⊕ t ⊗ e d.u1) ⊟ e q.c2 ⊗ e d.u2) h3;
    q0 = h0 ∙ ap₂ (λ (s t : A). e c.f3 ⊟ (e d.v1 ⊗ s ⊕ t ⊗ e d.u0) ⊟ (e q.c2 ⊗ e d.u1 ⊕ e q.c1 ⊗ e d.u2)) hx h3;
  }

  pub quotients_two : (d : Quadratic) (r : Duo) → c.g ≡ 2 → AllKept c.prime.m (two r)
      → remainder (K c.prime.m) (e d.u0 ∷ e d.u1 ∷ []) ((e c.f0 ⊟ e d.v0 ⊗ e d.v0) ∷ (e c.f1 ⊟ (e d.v0 ⊕ e d.v0) ⊗ e d.v1) ∷ (e c.f2 ⊟ e d.v1 ⊗ e d.v1) ∷ e c.f3 ∷ e c.f4 ∷ 𝟙 ∷ []) ≡ e r.c0 ∷ e r.c1 ∷ []
      → Rests c (Two d) (two r)
  unfolding pair whole
  quotients_two d r g k q = record {
    list = (e c.f0 ⊟ e d.v0 ⊗ e d.v0) ∷ (e c.f1 ⊟ (e d.v0 ⊕ e d.v0) ⊗ e d.v1) ∷ (e c.f2 ⊟ e d.v1 ⊗ e d.v1) ∷ e c.f3 ∷ e c.f4 ∷ (elements c.prime.m (above c) ++ (𝟙 ∷ []));
    is = square_two (K c.prime.m) (e c.f3 ∷ e c.f4 ∷ elements c.prime.m (above c)) (e c.f0) (e d.v0) (e c.f1) (e c.f2) (e d.v1);
    leaves = record {
      kept = k;
      is = sym (in_two c (λ l. remainder (K c.prime.m) (e d.u0 ∷ e d.u1 ∷ []) ((e c.f0 ⊟ e d.v0 ⊗ e d.v0) ∷ (e c.f1 ⊟ (e d.v0 ⊕ e d.v0) ⊗ e d.v1) ∷ (e c.f2 ⊟ e d.v1 ⊗ e d.v1) ∷ e c.f3 ∷ e c.f4 ∷ (l ++ (𝟙 ∷ []))) ≡ e r.c0 ∷ e r.c1 ∷ []) g q);
    };
  }

  pub quotients_three : (d : Cubic) (r : Trio) → c.g ≡ 3 → AllKept c.prime.m (three r)
      → remainder (K c.prime.m) (e d.u0 ∷ e d.u1 ∷ e d.u2 ∷ []) ((e c.f0 ⊟ e d.v0 ⊗ e d.v0) ∷ (e c.f1 ⊟ (e d.v0 ⊕ e d.v0) ⊗ e d.v1) ∷ (e c.f2 ⊟ e d.v1 ⊗ e d.v1 ⊟ (e d.v0 ⊕ e d.v0) ⊗ e d.v2) ∷ (e c.f3 ⊟ (e d.v1 ⊕ e d.v1) ⊗ e d.v2) ∷ (e c.f4 ⊟ e d.v2 ⊗ e d.v2) ∷ e c.f5 ∷ e c.f6 ∷ 𝟙 ∷ []) ≡ e r.c0 ∷ e r.c1 ∷ e r.c2 ∷ []
      → Rests c (Three d) (three r)
  unfolding pair whole
  quotients_three d r g k q = record {
    list = (e c.f0 ⊟ e d.v0 ⊗ e d.v0) ∷ (e c.f1 ⊟ (e d.v0 ⊕ e d.v0) ⊗ e d.v1) ∷ (e c.f2 ⊟ e d.v1 ⊗ e d.v1 ⊟ (e d.v0 ⊕ e d.v0) ⊗ e d.v2) ∷ (e c.f3 ⊟ (e d.v1 ⊕ e d.v1) ⊗ e d.v2) ∷ (e c.f4 ⊟ e d.v2 ⊗ e d.v2) ∷ (elements c.prime.m (above c) ++ (𝟙 ∷ []));
    is = square_three (K c.prime.m) (elements c.prime.m (above c)) (e c.f0) (e d.v0) (e c.f1) (e c.f2) (e d.v1) (e c.f3) (e c.f4) (e d.v2);
    leaves = record {
      kept = k;
      is = sym (in_three c (λ l. remainder (K c.prime.m) (e d.u0 ∷ e d.u1 ∷ e d.u2 ∷ []) ((e c.f0 ⊟ e d.v0 ⊗ e d.v0) ∷ (e c.f1 ⊟ (e d.v0 ⊕ e d.v0) ⊗ e d.v1) ∷ (e c.f2 ⊟ e d.v1 ⊗ e d.v1 ⊟ (e d.v0 ⊕ e d.v0) ⊗ e d.v2) ∷ (e c.f3 ⊟ (e d.v1 ⊕ e d.v1) ⊗ e d.v2) ∷ (e c.f4 ⊟ e d.v2 ⊗ e d.v2) ∷ (l ++ (𝟙 ∷ []))) ≡ e r.c0 ∷ e r.c1 ∷ e r.c2 ∷ []) (λ z. omega arith) q);
    };
  }
