-- The loop of the derivative: an instance of `Built` from zero, beside a residue that runs through 1, 2, ..
use Prim.Native.Nat.{ℕ, suc, ◌+◌, ◌-◌, ◌<◌, ◌≤◌}
use mathlib.Core.Path.{◌≡◌, refl, sym, ap, ap₂, ◌∙◌}
use mathlib.Core.List.{List, [], ◌∷◌}
use native.Mathlib.Omega.{arith}
use lib.ListN.{set, length}
use Rattle.algebra.proofs.Ring.Quote.{ring, quote}
use Rattle.algebra.proofs.Poly.Bound.{Below}
use Rattle.algebra.proofs.Poly.Poly.{coef, coef_zer}
use Rattle.algebra.proofs.Poly.Term.{at, term_one}
use Rattle.algebra.proofs.Poly.Derivative.{der_p, coef_der, der_zero, der_at, count}
use Rattle.field.specs.declared.Residue.{Residue}
use Rattle.field.specs.declared.Modulus.{Modulus}
use Rattle.field.specs.Residues.{el, Stands, Settles, Everywhere}
use Rattle.field.proofs.Laws.{zero_settles, settles_stands}
use Rattle.poly.specs.declared.Poly.{Poly}
use Rattle.poly.specs.Polys.{room, K, P, pol_l, pol, Ok, Is}
use Rattle.poly.specs.Operations.{FilledTo, Size}
use Rattle.poly.proofs.Build.{Built, build_begin, build_turn, build_next, build_held, build_end}
use Rattle.poly.proofs.Lengths.{recast}

module _ (m : Modulus) (a : Poly) where
  open K m use {El as A, add as ◌⊕◌, mul as ◌⊗◌, zer as 𝟘, one as 𝟙}
  open P m use {El as Po, add as ◌+P◌, mul as ◌*P◌, zer as 0P}

  infixl 65 ◌⊕◌
  infixl 70 ◌⊗◌
  infixl 65 ◌+P◌
  infixl 70 ◌*P◌
  abbrev cf : Po → ℕ → A
  cf v = coef (K m) v

  abbrev D : Po
  D = der_p (K m) (pol m a)

  -- k coefficients are stored, and i is k
  pub record Deriving (l : List Residue) (i : Residue) (k : ℕ) : Type 0 where
    pub built : Built m 0P D 0 (a.n - 1) l k
    pub counted : Stands m i (count (K m) k)

  module _ (h : Ok m a) where
    der_below : Below (K m) (a.n - 1) (cf D)
    der_below k l = at (K m) (coef_der (K m) (pol m a)) k ∙ der_zero (K m) (cf (pol m a)) k (λ i g. h.size.end i (omega arith))

    pub derive_begin : {z : Poly} {i : Residue} → Is m z 0P 0 → length z.c ≡ room → Everywhere i 0 → Deriving z.c i 0
    unfolding count
    derive_begin {z} {i} hz e hi = record { built = build_begin m 0P D 0 (a.n - 1) e hz.ok.fill hz.is; counted = settles_stands m (zero_settles m i hi) }

    -- the place to be stored at holds nothing yet
    fresh : {l : List Residue} {i : Residue} {k : ℕ} → Deriving l i k → cf (pol_l m l) k ≡ 𝟘
    fresh {l} {i} {k} v = ap (cf (pol_l m l)) {x = k} {y = 0 + k} (omega arith) ∙ build_next m 0P D 0 (a.n - 1) v.built ∙ at (K m) (coef_zer (K m)) (0 + k)

    pub derive_turn : {l : List Residue} {i o j c y : Residue} {k : ℕ} → Deriving l i k → k + 1 < a.n → Settles m o 𝟙 → Stands m j (el m i ⊕ el m o) → Stands m c (cf (pol m a) (k + 1)) → Stands m y (el m j ⊗ el m c) → Deriving (set l k y) j (k + 1)
    unfolding count
    derive_turn {l} {i} {o} {j} {c} {y} {k} v lt ho hj hc hy = record {
      built = build_turn m 0P D 0 (a.n - 1) v.built (omega arith) (omega (arith, h.len)) (omega arith)
          (record { kept = hy.kept; is = hy.is ∙ ap₂ ◌⊗◌ next (hc.is ∙ ap (cf (pol m a)) {x = k + 1} {y = suc k} (omega arith)) ∙ sym (der_at (K m) (cf (pol m a)) k) ∙ sym (at (K m) (coef_der (K m) (pol m a)) k) ∙ sym (ap (λ t. t ⊕ cf D k) (fresh v) ∙ (K m).zer_add (cf D k)) });
      counted = record { kept = hj.kept; is = next ∙ ap (count (K m)) {x = suc k} {y = k + 1} (omega arith) };
    }
      where
        next : el m j ≡ count (K m) (suc k)
        next = hj.is ∙ ap₂ ◌⊕◌ v.counted.is ho.is

    module _ {l : List Residue} {i : Residue} {k : ℕ} (v : Deriving l i k) (over : a.n ≤ k + 1) where
      pub derive_held : FilledTo m l k
      derive_held = build_held m 0P D 0 (a.n - 1) der_below 0 (λ j g. at (K m) (coef_zer (K m)) j) v.built (omega arith) (omega (arith, v.built.within)) (omega arith) (omega (arith, h.len))

      pub derive_end : {r : ℕ} → Size m l k r → Is m (record { c = l; n = r }) D (a.n - 1)
      derive_end z = recast m (build_end m 0P D 0 (a.n - 1) der_below 0 (λ j g. at (K m) (coef_zer (K m)) j) v.built (omega arith) (omega (arith, v.built.within)) (omega (arith, v.built.within, h.len)) z
          (ap (λ t. 0P +P t *P D) (term_one (K m)) ∙ ring (P m) (D ∷ []) (search quote depth 40) refl)) refl (omega arith)
