-- The parts of a divisor are the rule's. Gives: the part at y, from what v leaves there (`point_is`); the rest at a root, from the other factor of u (`rest_from`); of weight 2, from both roots (`two_parts`); of weight 3, at
-- the largest root (`three_parts`); where there is none (`neutral_none` to `three_none`).
use Prim.Native.Nat.{ℕ, ◌+◌, ◌≤◌}
use mathlib.Core.Path.{◌≡◌, refl, sym, ap, ap₂, ◌∙◌}
use mathlib.Core.List.{List, [], ◌∷◌}
use mathlib.Core.Logic.{◌≢◌, ◌⊎◌, inl, inr}
use native.Mathlib.Omega.{arith}
use lib.ListN.{get_or, length}
use Rattle.algebra.proofs.Ring.CRing.{add_neg, zer_mul, eq_of_sub}
use Rattle.algebra.proofs.Ring.Field.{no_zero_divisors}
use Rattle.algebra.proofs.Zmod.Zmod.{zmod, zmod_dec, emb, num}
use Rattle.algebra.proofs.Zmod.PrimeField.{modulo, mul_inv, one_ne_zero}
use Rattle.algebra.proofs.Zmod.Prime.{Prime}
use Rattle.algebra.proofs.List.Value.{mon}
use Rattle.algebra.proofs.List.Ops.{remainder}
use Rattle.rules.specs.Roots.Roots.{value}
use Rattle.rules.proofs.Roots.Factor.{quadratic_less}
use Rattle.rules.specs.Curve.{Curve, Kx}
use Rattle.rules.specs.Pair.{Pair}
use Rattle.rules.specs.Split.{part_at}
use Rattle.rules.proofs.Cantor.Accepted.{OverField}
use Rattle.rules.proofs.Cantor.Split.{rest_is}
use Rattle.rules.proofs.Calls.SplitRoots.{NoSplit}
use Rattle.field.specs.declared.Modulus.{Modulus}
use Rattle.field.specs.declared.Residue.{Residue}
use Rattle.field.specs.Residues.{el, Settles, Stands}
use Rattle.field.proofs.Laws.{residue_field, settled_kept}
use Rattle.divisor.specs.declared.Divisor.{Divisor}
use Rattle.divisor.specs.declared.Divisor.TheVariants.{Neutral, One, Two, Three}
use Rattle.divisor.specs.declared.Linear.{Linear}
use Rattle.divisor.specs.declared.Quadratic.{Quadratic}
use Rattle.divisor.specs.declared.Cubic.{Cubic}
use Rattle.divisor.specs.Divisors.{us, vs, elements, pair, Held}
use Rattle.curve.specs.division.Turns.{Leaves}
use Rattle.curve.proofs.division.Turned.{Less, turned_one, turned_two, begun}
use Rattle.field_root.specs.Squares.{Splits}
use Rattle.poly_root.specs.Roots.{LargestRoot}
use Rattle.divisor_split.specs.Splits.{PartAt, RestAt, PartsOf}
use Rattle.divisor_split.proofs.Products.{product2, product3}

module _ (m : Modulus) where
  open zmod m.p use {El as A, neg, zer as 𝟘}

  pub neutral_none : NoSplit m.p (pair m Neutral)
  unfolding pair
  neutral_none = inl (omega arith)

  pub one_none : (d : Linear) → NoSplit m.p (pair m (One d))
  unfolding pair
  one_none d = inl (omega arith)

  -- ---- the part at y: its u0 is -y, its v0 what is left of v
  pub point_is : (d : Divisor) {y : A} {a : Linear} {r : Residue} → Settles m a.u0 (neg y) → Leaves m (One a) (elements m (vs d)) (r ∷ []) → Settles m a.v0 (el m r) → PartAt m d y (One a)
  unfolding pair part_at
  point_is d {y} {a} {r} hu left hv = record {
    held = record { u = (hu.settled, tt); v = (hv.settled, tt) };
    is = ap₂ (λ (s : A) (l : List A). record { u = s ∷ []; v = l }) hu.is
        (ap (λ (s : A). s ∷ []) hv.is ∙ left.is ∙ ap (λ (s : A). remainder (zmod m.p) (s ∷ []) (elements m (vs d))) hu.is);
  }

  u0_is : (d : Divisor) {y : A} {a : Linear} → PartAt m d y (One a) → el m a.u0 ≡ neg y
  unfolding pair part_at
  u0_is d h = ap (λ (x : Pair (modulo m.p)). get_or x.u 0 𝟘) h.is

module _ (m : Modulus) (prime : Prime m.p) where
  abbrev p : ℕ
  p = m.p

  open zmod p use {El as A, add as ◌⊕◌, mul as ◌⊗◌, neg, zer as 𝟘}

  infixl 65 ◌⊕◌
  infixl 70 ◌⊗◌
  -- the laws of parts ask for no more of a curve than its field
  abbrev E : Curve
  E = record { K = modulo p; g = 0; low = [] }

  over : OverField E
  over = record { mul_inv = mul_inv p prime; one_ne = one_ne_zero p prime }

  -- ---- the rest at a root y: u is its u and x - y multiplied, and its v what is left of v
  pub rest_from : (d b : Divisor) (y : A) {r : List Residue} → value (zmod p) (elements m (us d)) y ≡ 𝟘 → Held m b → length (elements m (us d)) ≡ 1 + length (elements m (us b))
      → mon (zmod p) (elements m (us d)) ≡ (Kx E).mul (mon (zmod p) (neg y ∷ [])) (mon (zmod p) (elements m (us b))) → Leaves m b (elements m (vs d)) r → elements m (vs b) ≡ elements m r → RestAt m d y b
  unfolding pair
  rest_from d b y root held weight product left same = record {
    held = held;
    is = ap (λ (l : List A). record { u = elements m (us b); v = l }) (same ∙ left.is) ∙ sym (rest_is E over (pair m d) y root (elements m (us b)) weight product);
  }

  -- ---- weight 2
  module _ (d : Quadratic) where
    abbrev U : List A
    U = el m d.u0 ∷ el m d.u1 ∷ []

    pub two_none : ((y : A) → value (zmod p) U y ≢ 𝟘) → NoSplit p (pair m (Two d))
    unfolding pair
    two_none f = inr (λ k l r. f (emb p k) r)

    module _ {r t : Residue} (split : Splits m d.u1 d.u0 r t) where
      pub turned : Splits m d.u1 d.u0 t r
      turned = record { kept_r = split.kept_t; kept_t = split.kept_r; sum = (zmod p).add_comm (el m t) (el m r) ∙ split.sum; product = (zmod p).mul_comm (el m t) (el m r) ∙ split.product }

      factors : (y : A) → value (zmod p) U y ≡ (y ⊕ neg (el m r)) ⊗ (y ⊕ neg (el m t))
      factors y = quadratic_less (zmod p) (el m d.u1) (el m d.u0) (el m r) (el m t) y split.sum split.product

      r_root : value (zmod p) U (el m r) ≡ 𝟘
      r_root = factors (el m r) ∙ ap (λ x. x ⊗ (el m r ⊕ neg (el m t))) (add_neg (zmod p) (el m r)) ∙ zer_mul (zmod p) (el m r ⊕ neg (el m t))

      either : (y : A) → value (zmod p) U y ≡ 𝟘 → (y ≡ el m r) ⊎ (y ≡ el m t)
      either y e = go (zmod_dec p (y ⊕ neg (el m r)) 𝟘) (zmod_dec p (y ⊕ neg (el m t)) 𝟘)
        where
          go : Dec (y ⊕ neg (el m r) ≡ 𝟘) → Dec (y ⊕ neg (el m t) ≡ 𝟘) → (y ≡ el m r) ⊎ (y ≡ el m t)
          go (yes x) b = inl (eq_of_sub (zmod p) y (el m r) x)
          go (no x) (yes b) = inr (eq_of_sub (zmod p) y (el m t) b)
          go (no x) (no b) = absurd (no_zero_divisors (residue_field m prime) (y ⊕ neg (el m r)) (y ⊕ neg (el m t)) x b (sym (factors y) ∙ e))

      -- the part at t is the rest at r
      other_part : {b : Linear} → PartAt m (Two d) (el m t) (One b) → RestAt m (Two d) (el m r) (One b)
      unfolding pair part_at
      other_part h = record {
        held = h.held;
        is = h.is ∙ sym (rest_is E over (pair m (Two d)) (el m r) r_root (neg (el m t) ∷ []) refl (product2 (zmod p) (el m d.u0) (el m d.u1) (el m r) (el m t) split.sum split.product));
      }

      pub two_parts : {a b : Linear} → PartAt m (Two d) (el m r) (One a) → PartAt m (Two d) (el m t) (One b) → num p (el m a.u0) ≤ num p (el m b.u0) → PartsOf m (Two d) (One a) (One b)
      unfolding pair
      two_parts ha hb l = record {
        y = el m r;
        at = record {
          weight = omega arith;
          root = r_root;
          smaller = λ w z e. least z (either z e);
          larger = λ w z e. absurd (omega arith);
        };
        first = ha;
        second = other_part hb;
      }
        where
          least : (z : A) → (z ≡ el m r) ⊎ (z ≡ el m t) → num p (neg (el m r)) ≤ num p (neg z)
          least z (inl e) = omega (arith, ap (λ (s : A). num p (neg s)) e)
          least z (inr e) = omega (arith, l, ap (num p) (u0_is m (Two d) ha), ap (num p) (u0_is m (Two d) hb), ap (λ (s : A). num p (neg s)) e)

  -- ---- weight 3
  module _ (d : Cubic) where
    pub three_none : ((y : A) → value (zmod p) (elements m (us (Three d))) y ≡ 𝟘 → ⊥) → NoSplit p (pair m (Three d))
    unfolding pair
    three_none f = inr (λ k l r. f (emb p k) r)

    pub three_rest : {y : A} {b : Quadratic} {r0 r1 : Residue} → value (zmod p) (elements m (us (Three d))) y ≡ 𝟘 → Settles m b.u1 (el m d.u2 ⊕ y) → Settles m b.u0 (y ⊗ (el m d.u2 ⊕ y) ⊕ el m d.u1)
        → Leaves m (Two b) (elements m (vs (Three d))) (r0 ∷ r1 ∷ []) → Settles m b.v0 (el m r0) → Settles m b.v1 (el m r1) → RestAt m (Three d) y (Two b)
    three_rest {y} {b} root h1 h0 left k0 k1 = rest_from (Three d) (Two b) y root (record { u = (h0.settled, (h1.settled, tt)); v = (k0.settled, (k1.settled, tt)) }) refl
        (product3 (zmod p) (el m d.u0) (el m d.u1) (el m d.u2) y root ∙ ap₂ (λ (s t : A). (Kx E).mul (mon (zmod p) (neg y ∷ [])) (mon (zmod p) (s ∷ t ∷ []))) (sym h0.is) (sym h1.is))
        left (ap₂ (λ (s t : A). s ∷ t ∷ []) k0.is k1.is)

    pub three_parts : {y : Residue} {a : Linear} {b : Quadratic} → LargestRoot m (record { u0 = d.u0; u1 = d.u1; u2 = d.u2 }) y → PartAt m (Three d) (el m y) (One a) → RestAt m (Three d) (el m y) (Two b)
        → PartsOf m (Three d) (One a) (Two b)
    unfolding pair
    three_parts {y} h ha hb = record {
      y = el m y;
      at = record {
        weight = omega arith;
        root = h.is;
        smaller = λ w z e. absurd (omega arith);
        larger = λ w z e. h.most z e;
      };
      first = ha;
      second = hb;
    }

-- ---- what v leaves, by the code's steps: from its top coefficient down
module _ (m : Modulus) where
  open zmod m.p use {El as A, add as ◌⊕◌, mul as ◌⊗◌}

  infixl 65 ◌⊕◌
  infixl 70 ◌⊗◌
  pub left_of_two : (d : Quadratic) → Held m (Two d) → (a : Linear) {r : Residue} → Less m r (el m d.v0) (el m d.v1) (el m a.u0) → Leaves m (One a) (elements m (vs (Two d))) (r ∷ [])
  left_of_two d h a {r} l = (turned_one m a d.v0 d.v1 r l).leaves (el m d.v1 ∷ []) (begun m (One a) (d.v1 ∷ []) (settled_kept m h.v.1.0, tt) refl)

  pub left_of_three : (d : Cubic) → Held m (Three d) → (a : Linear) {w r : Residue} → Less m w (el m d.v1) (el m d.v2) (el m a.u0) → Less m r (el m d.v0) (el m w) (el m a.u0)
      → Leaves m (One a) (elements m (vs (Three d))) (r ∷ [])
  left_of_three d h a {w} {r} k l = (turned_one m a d.v0 w r l).leaves (el m d.v1 ∷ el m d.v2 ∷ [])
      ((turned_one m a d.v1 d.v2 w k).leaves (el m d.v2 ∷ []) (begun m (One a) (d.v2 ∷ []) (settled_kept m h.v.1.1.0, tt) refl))

  pub left_of_rest : (d : Cubic) → Held m (Three d) → (b : Quadratic) {r0 r1 : Residue} → Less m r0 (el m d.v0) (el m d.v2) (el m b.u0) → Less m r1 (el m d.v1) (el m d.v2) (el m b.u1)
      → Leaves m (Two b) (elements m (vs (Three d))) (r0 ∷ r1 ∷ [])
  left_of_rest d h b {r0} {r1} k l = (turned_two m b d.v0 (record { c0 = d.v1; c1 = d.v2 }) (record { c0 = r0; c1 = r1 }) k l).leaves (el m d.v1 ∷ el m d.v2 ∷ [])
      (begun m (Two b) (d.v1 ∷ d.v2 ∷ []) (settled_kept m h.v.1.0, (settled_kept m h.v.1.1.0, tt)) refl)

  pub settled_as : {r s : Residue} {t : A} → Stands m r t → Settles m s (el m r) → Settles m s t
  settled_as h k = record { settled = k.settled; is = k.is ∙ h.is }

  -- y b + a, settled
  pub times_plus : (a y : Residue) {b k r s : Residue} {t : A} → Settles m b t → Stands m k (el m y ⊗ el m b) → Stands m r (el m k ⊕ el m a) → Settles m s (el m r) → Settles m s (el m y ⊗ t ⊕ el m a)
  times_plus a y hb hk hr hs = record { settled = hs.settled; is = hs.is ∙ hr.is ∙ ap (λ x. x ⊕ el m a) (hk.is ∙ ap (λ x. el m y ⊗ x) hb.is) }
