-- The sum by a formula, over every degree: pairs of weight g, composed as v + s·u (Chord), one step or two (Turns). Gives: `one_turn`, where the first
-- step ends it (genus 2), `two_turns`, where it takes another (genus 3). That the answer is valid comes with it.
use Prim.Native.Nat.{ℕ, ◌+◌, ◌≤◌}
use mathlib.Core.Path.{◌≡◌, refl, sym, subst}
use mathlib.Core.List.{List, [], ◌∷◌}
use native.Mathlib.Omega.{arith}
use lib.ListN.{length}
use Rattle.algebra.proofs.Ring.CRing.{CRing}
use Rattle.algebra.proofs.Ring.Quote.{ring, quote, by}
use Rattle.algebra.proofs.Poly.Bound.{Below}
use Rattle.algebra.proofs.Poly.Poly.{coef}
use Rattle.algebra.proofs.List.Value.{mon, pol_below, mon_monic}
use Rattle.algebra.proofs.Ideal.Joined.{OnCurve}
use Rattle.algebra.proofs.Ideal.Composed.{Composed}
use Rattle.rules.specs.Curve.{Curve, Kx, f}
use Rattle.rules.specs.Pair.{Pair, Valid, u_of, v_of}
use Rattle.rules.specs.Sum.{sum}
use Rattle.rules.proofs.IsSum.{Reached, reached_on, is_sum}
use Rattle.rules.proofs.Cantor.Accepted.{Accepted}
use Rattle.rules.proofs.Cantor.Pairs.{valid_on, on_valid}
use Rattle.rules.proofs.Cantor.Composition.{composed_on}
use Rattle.algebra.proofs.Poly.Term.{C}
use Rattle.sum_formulas.proofs.Turns.{turn_top, first_turn, main_tops}

module _ (E : Curve) (ok : Accepted E) (a b : Pair E.K) (va : Valid E a) (vb : Valid E b) where
  abbrev F : CRing
  F = E.K.base

  open Kx E use {El as P, add as ◌⊕◌, mul as ◌*◌, neg, one as 1P}

  infixl 65 ◌⊕◌
  infixl 65 ◌⊖◌
  infixl 70 ◌*◌
  abbrev ◌⊖◌ : P → P → P
  a ⊖ b = a ⊕ neg b

  abbrev u : P
  u = u_of E a

  abbrev v : P
  v = v_of E a

  abbrev u' : P
  u' = u_of E b

  -- (u·u', v + s·u) composed, and its first quotient, h being (f - v²)/u from place g on: conditions of every table
  pub record Composes (s h ut vt : P) : Type 0 where
    pub weights : length a.u ≡ length b.u
    pub composed : Composed (Kx E) (f E) u v u' (v_of E b) (u * u') (v ⊕ s * u)
    pub e : P
    pub e' : P
    pub unit : e * e' ≡ 1P
    pub tops_f : Below F (length a.u + length b.u) (coef F (f E ⊖ u * h))
    pub tops : Below F (length b.u) (coef F (h ⊖ s * (v ⊕ v ⊕ s * u) ⊖ e * (u' * ut)))
    pub q : P
    pub rest : v ⊕ s * u ≡ q * ut ⊕ vt

  -- the main case: s = w·S, and wi = 1/w
  pub main_case : (S h ut vt q : P) (w wi : F.El) → length a.u ≡ length b.u → Composed (Kx E) (f E) u v u' (v_of E b) (u * u') (v ⊕ C F w * S * u) → C F w * C F wi ≡ 1P
      → Below F (length a.u + length b.u) (coef F (f E ⊖ u * h)) → Below F (length b.u) (coef F (S * (S * u ⊕ C F wi * (v ⊕ v)) ⊖ C F wi * (C F wi * h) ⊖ u' * ut))
      → v ⊕ C F w * S * u ≡ q * ut ⊕ vt → Composes (C F w * S) h ut vt
  main_case S h ut vt q w wi weights composed unit tops_f tops rest = record {
    weights = weights;
    composed = composed;
    e = neg (C F w * C F w);
    e' = neg (C F wi * C F wi);
    unit = by (Kx E) (C F w * C F wi ⊕ 1P) unit (ring (Kx E) (C F w ∷ C F wi ∷ []) (search quote depth 40) refl);
    tops_f = tops_f;
    tops = main_tops E (length b.u) u v u' S h ut w wi unit tops;
    q = q;
    rest = rest;
  }

  module _ (s h ut vt : P) (x : Composes s h ut vt) where
    on : OnCurve (Kx E) (f E) (u * u') (v ⊕ s * u)
    on = composed_on E ok.over a b (valid_on E va) (valid_on E vb) (u * u') (v ⊕ s * u) x.composed

    pub first : Reached E (u * u') (v ⊕ s * u) ut (neg vt)
    first = first_turn E (length a.u) (length b.u) u v u' s h ut vt x.e x.e' x.q (mon_monic F a.u) (mon_monic F b.u)
        (subst (λ (n : ℕ). Below F n (coef F v)) va.fits (pol_below F a.v)) (omega (arith, x.weights)) on x.unit x.tops_f x.tops x.rest

    -- whatever pair the steps end with
    pub ends : (c : Pair E.K) → length c.v ≡ length c.u → length c.u ≤ E.g → Reached E (u * u') (v ⊕ s * u) (u_of E c) (v_of E c) → sum E a b ≡ c
    ends c fits small r = is_sum E ok a b c va vb (on_valid E {a = c} (record { fits = fits; on = reached_on E on r }) small) x.composed r

  -- one step
  pub one_turn : (c : Pair E.K) → length c.v ≡ length c.u → length c.u ≤ E.g → (s h vt : P) → v_of E c ≡ neg vt → Composes s h (u_of E c) vt → sum E a b ≡ c
  one_turn c fits small s h vt e x = ends s h (u_of E c) vt x c fits small (subst (λ (t : P). Reached E (u * u') (v ⊕ s * u) (u_of E c) t) (sym e) (first s h (u_of E c) vt x))

  -- two steps: the second quotient, and vt modulo it
  pub two_turns : (c : Pair E.K) → length c.v ≡ length c.u → length c.u ≤ E.g → (s h : P) (lt : List F.El) (vt q : P) → Composes s h (mon F lt) vt
      → Below F (length lt) (coef F (f E ⊖ vt * vt ⊖ mon F lt * u_of E c)) → vt ≡ q * u_of E c ⊕ v_of E c → sum E a b ≡ c
  two_turns c fits small s h lt vt q x tops rest = ends s h (mon F lt) vt x c fits small
      (turn_top E (length lt) (mon F lt) (neg vt) (u_of E c) (v_of E c) 1P 1P (neg q) (first s h (mon F lt) vt x)
      (reached_on E (on s h (mon F lt) vt x) (first s h (mon F lt) vt x)) (mon_monic F lt) ((Kx E).one-mul 1P)
      (subst (λ (t : P). Below F (length lt) (coef F t)) (ring (Kx E) (f E ∷ vt ∷ mon F lt ∷ u_of E c ∷ []) (search quote depth 40) refl) tops)
      (by (Kx E) (neg 1P) rest (ring (Kx E) (vt ∷ q ∷ u_of E c ∷ v_of E c ∷ []) (search quote depth 40) refl)))
