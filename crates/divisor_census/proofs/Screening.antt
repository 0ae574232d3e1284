-- The screen of weight 3. Gives: where u divides f - v², it is zero (`screens_by`); its value in code (`passes_by`); what the search for a number that passes keeps (`Passing`), from its begin (`pass_begin`) over a turn (`pass_turn`) to its ends.
use Prim.Native.Nat.{ℕ, suc, ◌+◌, ◌-◌, ◌≤◌, ◌<◌}
use mathlib.Core.Path.{◌≡◌, refl, sym, ap, ◌∙◌, subst}
use mathlib.Core.List.{List, [], ◌∷◌}
use mathlib.Core.Bool.{Bool}
use mathlib.Core.Logic.{◌≢◌}
use native.Mathlib.Decide.{dec_lt}
use native.Mathlib.Omega.{arith}
use lib.ListN.{get_or, take}
use Rattle.algebra.proofs.Ring.CRing.{CRing}
use Rattle.algebra.proofs.Ring.Quote.{ring, quote}
use Rattle.algebra.proofs.List.Ops.{remainder, whole}
use Rattle.algebra.proofs.List.Division.{no_rest}
use Rattle.algebra.proofs.Zmod.Zmod.{zmod, emb, num, emb_num}
use Rattle.field.specs.declared.Modulus.{Modulus}
use Rattle.field.specs.declared.Residue.{Residue}
use Rattle.field.specs.Residues.{el, Settled, Settles}
use Rattle.field.specs.Primes.{Decides}
use Rattle.divisor.specs.declared.Cubic.{Cubic}
use Rattle.divisor.specs.Divisors.{elements}
use Rattle.curve.specs.declared.Curve.{Curve}
use Rattle.curve.specs.Curves.{above}
use Rattle.curve.proofs.Squares.{square_three}
use Rattle.curve.proofs.Quotients.{left_three}
use Rattle.divisor_census.specs.declared.Screen.{Screen}
use Rattle.divisor_census.specs.Screens.{value, Ready, Passed, Screens}
use Rattle.divisor_census.proofs.Raising.{raised_below}

module _ (F : CRing) where
  open F use {El as A, add as ◌⊕◌, mul as ◌⊗◌, neg as opp, zer as 𝟘, one as 𝟙}

  infixl 65 ◌⊕◌
  infixl 65 ◌⊖◌
  infixl 70 ◌⊗◌
  abbrev ◌⊖◌ : A → A → A
  a ⊖ b = a ⊕ opp b

  -- nothing is left, so its first coefficient is zero
  first_left : (u0 u1 u2 v0 v1 v2 f0 f1 f2 f3 f4 f5 f6 q3 q2 a b q c0 c1 c2 : A) → q3 ≡ f6 ⊖ u2 → q2 ≡ f5 ⊖ u1 ⊖ q3 ⊗ u2 → a ≡ f4 ⊖ u0 ⊖ (q3 ⊗ u1 ⊕ q2 ⊗ u2) → b ≡ f3 ⊖ (q3 ⊗ u0 ⊕ q2 ⊗ u1) → q ≡ b ⊖ a ⊗ u2
      → c0 ≡ f0 ⊖ (v0 ⊗ v0 ⊕ q ⊗ u0) → c1 ≡ (u0 ⊕ u0) ⊗ v1 → c2 ≡ opp (u0 ⊗ u2)
      → remainder F (u0 ∷ u1 ∷ u2 ∷ []) ((f0 ⊖ v0 ⊗ v0) ∷ (f1 ⊖ (v0 ⊕ v0) ⊗ v1) ∷ (f2 ⊖ v1 ⊗ v1 ⊖ (v0 ⊕ v0) ⊗ v2) ∷ (f3 ⊖ (v1 ⊕ v1) ⊗ v2) ∷ (f4 ⊖ v2 ⊗ v2) ∷ f5 ∷ f6 ∷ 𝟙 ∷ []) ≡ 𝟘 ∷ 𝟘 ∷ 𝟘 ∷ []
      → v2 ⊗ (c2 ⊗ v2 ⊕ c1) ⊕ c0 ≡ 𝟘
  first_left u0 u1 u2 v0 v1 v2 f0 f1 f2 f3 f4 f5 f6 q3 q2 a b q c0 c1 c2 h3 h2 ha hb hq k0 k1 k2 none = same ∙ ap (λ (l : List A). get_or l 0 𝟘)
      (sym (left_three F u0 u1 u2 v0 v1 v2 f0 f1 f2 f3 f4 f5 f6 (v0 ⊕ v0) (v2 ⊕ v2) q3 q2 q1 q0 r2 r1 (f0 ⊖ (v0 ⊗ v0 ⊕ q0 ⊗ u0)) refl refl h3 h2 refl refl refl refl refl) ∙ none)
    where
      q1 : A
      q1 = f4 ⊖ u0 ⊖ (v2 ⊗ v2 ⊕ q3 ⊗ u1) ⊖ q2 ⊗ u2

      q0 : A
      q0 = f3 ⊖ (v1 ⊗ (v2 ⊕ v2) ⊕ q3 ⊗ u0) ⊖ (q2 ⊗ u1 ⊕ q1 ⊗ u2)

      r1 : A
      r1 = f1 ⊖ ((v0 ⊕ v0) ⊗ v1 ⊕ q1 ⊗ u0) ⊖ q0 ⊗ u1

      r2 : A
      r2 = f2 ⊖ (v0 ⊗ (v2 ⊕ v2) ⊕ v1 ⊗ v1) ⊖ (q2 ⊗ u0 ⊕ q1 ⊗ u1) ⊖ q0 ⊗ u2

      same : v2 ⊗ (c2 ⊗ v2 ⊕ c1) ⊕ c0 ≡ f0 ⊖ (v0 ⊗ v0 ⊕ q0 ⊗ u0)
      same = rw (k0, k1, k2, hq, ha, hb) (ring F (f0 ∷ f3 ∷ f4 ∷ u0 ∷ u1 ∷ u2 ∷ v0 ∷ v1 ∷ v2 ∷ q3 ∷ q2 ∷ []) (search quote depth 40) refl)

module _ (c : Curve) (g : c.g ≡ 3) (d : Cubic) (s : Screen) (ready : Ready c.prime.m s) where
  open zmod c.prime.m.p use {El as A, add as ◌⊕◌, mul as ◌⊗◌, neg as opp, zer as 𝟘}

  infixl 65 ◌⊕◌
  infixl 65 ◌⊟◌
  infixl 70 ◌⊗◌
  abbrev ◌⊟◌ : A → A → A
  a ⊟ b = a ⊕ opp b

  abbrev e : Residue → A
  e r = el c.prime.m r

  top_is : elements c.prime.m (above c) ≡ e c.f5 ∷ e c.f6 ∷ []
  top_is = ap (λ (n : ℕ). elements c.prime.m (take (n + n - 4) (c.f5 ∷ c.f6 ∷ []))) g

  pub screens_by : (q3 q2 a b q : Residue) → e q3 ≡ e c.f6 ⊟ e d.u2 → e q2 ≡ e c.f5 ⊟ e d.u1 ⊟ e q3 ⊗ e d.u2 → e a ≡ e c.f4 ⊟ e d.u0 ⊟ (e q3 ⊗ e d.u1 ⊕ e q2 ⊗ e d.u2)
      → e b ≡ e c.f3 ⊟ (e q3 ⊗ e d.u0 ⊕ e q2 ⊗ e d.u1) → e q ≡ e b ⊟ e a ⊗ e d.u2
      → e s.c0 ≡ e c.f0 ⊟ (e d.v0 ⊗ e d.v0 ⊕ e q ⊗ e d.u0) → e s.c1 ≡ (e d.u0 ⊕ e d.u0) ⊗ e d.v1 → e s.c2 ≡ opp (e d.u0 ⊗ e d.u2)
      → Screens c d s
  unfolding whole
  screens_by q3 q2 a b q h3 h2 ha hb hq k0 k1 k2 = record {
    ready = ready;
    zero = λ v2 x.
        let t : List A = elements c.prime.m (above c) in
        let us : List A = e d.u0 ∷ e d.u1 ∷ e d.u2 ∷ [] in
        first_left (zmod c.prime.m.p) _ _ _ _ _ v2 _ _ _ _ _ _ _ _ _ _ _ _ _ _ _ h3 h2 ha hb hq k0 k1 k2
        (subst (λ (l : List A). remainder (zmod c.prime.m.p) us ((e c.f0 ⊟ e d.v0 ⊗ e d.v0) ∷ (e c.f1 ⊟ (e d.v0 ⊕ e d.v0) ⊗ e d.v1) ∷ (e c.f2 ⊟ e d.v1 ⊗ e d.v1 ⊟ (e d.v0 ⊕ e d.v0) ⊗ v2) ∷ (e c.f3 ⊟ (e d.v1 ⊕ e d.v1) ⊗ v2) ∷ (e c.f4 ⊟ v2 ⊗ v2) ∷ whole (zmod c.prime.m.p) l) ≡ 𝟘 ∷ 𝟘 ∷ 𝟘 ∷ []) top_is
        (no_rest (zmod c.prime.m.p) us _ x.factor (square_three (zmod c.prime.m.p) t (e c.f0) (e d.v0) (e c.f1) (e c.f2) (e d.v1) (e c.f3) (e c.f4) v2 ∙ x.is)));
  }

module _ (m : Modulus) where
  pub passes_by : (s : Screen) (t : Residue) {z : (zmod m.p).El} → z ≡ value m s (el m t) → (b : Bool) → Decides b (z ≡ (zmod m.p).zer) → Decides b (value m s (el m t) ≡ (zmod m.p).zer)
  passes_by s t e b h = subst (λ (y : (zmod m.p).El). Decides b (y ≡ (zmod m.p).zer)) e h

  -- ---- the search: n is x's number
  pub record Passing (s : Screen) (t x : Residue) (n : ℕ) : Type 0 where
    pub passed : Passed m s t x
    pub is : num m.p (el m x) ≡ n

  pub pass_begin : (s : Screen) (t : Residue) → Settled m t → {n : ℕ} → n ≡ num m.p (el m t) → Passing s t t n
  pass_begin s t h {n} e = record { passed = record { settled = h; from = omega arith; none = λ k l u. absurd (omega arith) }; is = sym e }

  pub pass_turn : (s : Screen) (t x : Residue) (n : ℕ) → Passing s t x n → suc n < m.p → value m s (el m x) ≢ (zmod m.p).zer → (y : Residue) → Settles m y ((zmod m.p).add (el m x) (zmod m.p).one) → Passing s t y (n + 1)
  pass_turn s t x n h l ne y hy = record {
    passed = record { settled = hy.settled; from = omega (arith, next, h.passed.from); none = λ k a u. go k a (omega (arith, next, u)) (dec_lt k (num m.p (el m x))) };
    is = omega (arith, next, h.is);
  }
    where
      next : num m.p (el m y) ≡ suc (num m.p (el m x))
      next = ap (num m.p) hy.is ∙ raised_below m.p (omega (arith, l)) (el m x) (omega (arith, h.is, l))

      go : (k : ℕ) → num m.p (el m t) ≤ k → k ≤ num m.p (el m x) → Dec (k < num m.p (el m x)) → value m s (emb m.p k) ≢ (zmod m.p).zer
      go k a u (yes i) = h.passed.none k a i
      go k a u (no i) = let e : k ≡ num m.p (el m x) = omega arith in λ z. ne (ap (value m s) (sym (ap (emb m.p) e ∙ emb_num m.p (el m x))) ∙ z)
