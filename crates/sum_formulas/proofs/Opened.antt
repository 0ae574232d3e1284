-- From what a table finds before it divides to the composed pair, in any ring of coefficients and over every degree: i·h + j·n = r, c·i = q·n + s', and r has an
-- inverse. Gives: `Through`, that v + σ·u over u·u' is the composition; `opened`, that it is, for every σ with r·σ = s', of two pairs; `opened_twice`, the
-- same of a pair with itself, on a curve that has it, where c is (f - v²)/u modulo u, right from place n on.
use mathlib.Core.Path.{◌≡◌, sym, ap, ◌∙◌, subst}
use lib.ListN.{length}
use Rattle.algebra.proofs.Ring.CRing.{CRing}
use Rattle.algebra.proofs.Poly.Bound.{Below}
use Rattle.algebra.proofs.Poly.Poly.{poly, coef}
use Rattle.algebra.proofs.Poly.Term.{C, constants}
use Rattle.algebra.proofs.List.Value.{mon_monic}
use Rattle.algebra.proofs.Ideal.Composed.{Composed}
use Rattle.rules.specs.Curve.{Curve, Kx, f}
use Rattle.rules.specs.Pair.{Pair, Valid, u_of, v_of}
use Rattle.rules.proofs.Cantor.Pairs.{valid_on}
use Rattle.sum_formulas.proofs.Chord.{Solves, chord, tangent}
use Rattle.sum_formulas.proofs.Turns.{quotient_top}

module _ (F : CRing) where
  open F use {El as A, mul as ◌*◌, one as 𝟙}
  open poly F use {El as P, add as ◌⊕◌, mul as ◌⊗◌, neg as negP}

  infixl 70 ◌*◌
  infixl 65 ◌⊕◌
  infixl 70 ◌⊗◌
  abbrev pub Through : P → P → P → P → P → P → Type 0
  Through fE u v u' v' σ = Composed (poly F) fE u v u' v' (u ⊗ u') (v ⊕ σ ⊗ u)

  solves : (h n c i j q s' : P) (r ri : A) → r * ri ≡ 𝟙 → i ⊗ h ⊕ j ⊗ n ≡ C F r → c ⊗ i ≡ q ⊗ n ⊕ s' → (σ : P) → C F r ⊗ σ ≡ s' → Solves (poly F) h n c σ
  solves h n c i j q s' r ri unit bezout modulo σ scaled = record {
    r = C F r;
    ri = C F ri;
    i = i;
    j = j;
    q = q;
    s' = s';
    unit = sym ((constants F).h_mul r ri) ∙ ap (C F) unit ∙ (constants F).h_one;
    bezout = bezout;
    modulo = modulo;
    scaled = scaled;
  }

  -- two pairs: c is v' - v
  pub opened : (fE u v u' v' c i j q s' : P) (r ri : A) → r * ri ≡ 𝟙 → i ⊗ u ⊕ j ⊗ u' ≡ C F r → c ≡ v' ⊕ negP v → c ⊗ i ≡ q ⊗ u' ⊕ s' → (σ : P) → C F r ⊗ σ ≡ s' → Through fE u v u' v' σ
  opened fE u v u' v' c i j q s' r ri unit bezout gap modulo σ scaled =
      chord (poly F) fE u v u' v' σ (subst (λ (t : P). Solves (poly F) u u' t σ) gap (solves u u' c i j q s' r ri unit bezout modulo σ scaled))

module _ (E : Curve) (a : Pair E.K) (va : Valid E a) where
  abbrev F : CRing
  F = E.K.base

  open F use {El as A, mul as ◌*◌, one as 𝟙}
  open Kx E use {El as P, add as ◌⊕◌, mul as ◌⊗◌, neg as negP}

  infixl 70 ◌*◌
  infixl 65 ◌⊕◌
  infixl 65 ◌⊖◌
  infixl 70 ◌⊗◌
  abbrev ◌⊖◌ : P → P → P
  a ⊖ b = a ⊕ negP b

  abbrev u : P
  u = u_of E a

  abbrev v : P
  v = v_of E a

  -- a pair with itself: k·u + c is (f - v²)/u
  pub opened_twice : (k c i j q s' : P) (r ri : A) → r * ri ≡ 𝟙 → i ⊗ (v ⊕ v) ⊕ j ⊗ u ≡ C F r → Below F (length a.u) (coef F (f E ⊖ v ⊗ v ⊖ u ⊗ (k ⊗ u ⊕ c))) → c ⊗ i ≡ q ⊗ u ⊕ s'
      → (σ : P) → C F r ⊗ σ ≡ s' → Through F (f E) u v u v σ
  opened_twice k c i j q s' r ri unit bezout tops modulo σ scaled = tangent (Kx E) (f E) u v (valid_on E va).on.0 k c σ (valid_on E va).on.1
      (quotient_top E (length a.u) u v (valid_on E va).on.0 (k ⊗ u ⊕ c) (mon_monic F a.u) (valid_on E va).on.1 tops)
      (solves F (v ⊕ v) u c i j q s' r ri unit bezout modulo σ scaled)
