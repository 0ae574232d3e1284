-- Powers by squaring modulo a cubic: what x times the k-th power of y leaves stays what was asked for, while k falls to 0 (`Raising`).
use Prim.Native.Nat.{ℕ, zero, suc, ◌-◌, ◌/◌, ◌%◌, ◌≤◌, ◌<◌}
use mathlib.Core.Path.{◌≡◌, refl, sym, ap, ap₂, ◌∙◌}
use mathlib.Core.List.{[], ◌∷◌}
use native.Mathlib.Omega.{arith}
use Rattle.algebra.proofs.Ring.CRing.{CRing}
use Rattle.algebra.proofs.Ring.Quote.{ring, quote, by}
use Rattle.algebra.proofs.Ring.Power.{power, power_none, power_more, power_even}
use Rattle.algebra.proofs.Poly.Term.{C, X, constants}
use Rattle.field.specs.declared.Modulus.{Modulus}
use Rattle.field.specs.declared.Residue.{Residue}
use Rattle.field.specs.Residues.{Settles}
use Rattle.field.proofs.Laws.{settled_kept}
use Rattle.poly_root.specs.declared.rests.MonicCubic.{MonicCubic}
use Rattle.poly_root.specs.declared.rests.Rest.{Rest}
use Rattle.poly_root.specs.rests.Rests.{K, P, cubic, rest, KeptRest, Leaves}
use Rattle.poly_root.proofs.rests.Times.{rest_is}

-- ---- in any ring: powers of what is alike modulo c are alike
module _ (R : CRing) (c : R.El) where
  open R use {El as A, add as ◌+◌, mul as ◌*◌, neg, zer as 𝟘, one as 𝟙}

  infixl 65 ◌+◌
  infixl 70 ◌*◌
  times_alike : (a b q s t w : A) → a ≡ q * c + b → s ≡ w * c + t → a * s ≡ (q * s + b * w) * c + b * t
  times_alike a b q s t w h k = by R s h (by R b k (ring R (a ∷ b ∷ q ∷ s ∷ t ∷ w ∷ c ∷ []) (search quote depth 40) refl))

  powers_alike : (a b q : A) → a ≡ q * c + b → (n : ℕ) → (w : A) × (power R a n ≡ w * c + power R b n)
  unfolding power
  powers_alike a b q h zero = (𝟘, sort c)
    where
      sort : (c : A) → 𝟙 ≡ 𝟘 * c + 𝟙
      sort c = ring R (c ∷ []) (search quote depth 40) refl
  powers_alike a b q h (suc n) = let r = powers_alike a b q h n in (q * power R a n + b * r.0, times_alike a b q (power R a n) (power R b n) r.0 h r.1)

  odd_turn : (v q x y s t z w : A) → v ≡ q * c + x * s → s ≡ y * t → x * y ≡ w * c + z → v ≡ (q + w * t) * c + z * t
  odd_turn v q x y s t z w h k e = by R 𝟙 h (by R x k (by R t e (ring R (v ∷ q ∷ x ∷ y ∷ s ∷ t ∷ z ∷ w ∷ c ∷ []) (search quote depth 40) refl)))

  even_turn : (v q x s t w : A) → v ≡ q * c + x * s → s ≡ w * c + t → v ≡ (q + x * w) * c + x * t
  even_turn v q x s t w h k = by R 𝟙 h (by R x k (ring R (v ∷ q ∷ x ∷ s ∷ t ∷ w ∷ c ∷ []) (search quote depth 40) refl))

  start : (v : A) → v ≡ 𝟘 * c + 𝟙 * v
  start v = ring R (v ∷ c ∷ []) (search quote depth 40) refl

  ended : (v q x s : A) → v ≡ q * c + x * s → s ≡ 𝟙 → v ≡ q * c + x
  ended v q x s h k = by R 𝟙 h (by R x k (ring R (v ∷ q ∷ x ∷ s ∷ c ∷ []) (search quote depth 40) refl))

pub record Raising (m : Modulus) (u : MonicCubic) (a : Rest) (n : ℕ) (x y : Rest) (k : ℕ) : Type 0 where
  pub left : KeptRest m x
  pub right : KeptRest m y
  pub q : (P m).El
  pub is : power (P m) (rest m a) n ≡ (P m).add ((P m).mul q (cubic m u)) ((P m).mul (rest m x) (power (P m) (rest m y) k))

module _ (m : Modulus) where
  open P m use {El as Po, add as ◌+P◌, mul as ◌*P◌, neg, zer as 0P, one as 1P}

  infixl 65 ◌+P◌
  infixl 70 ◌*P◌
  -- the rest 1
  pub one_rest : (o z : Residue) → Settles m o (K m).one → Settles m z (K m).zer → rest m (record { c0 = o; c1 = z; c2 = z }) ≡ 1P
  one_rest o z ho hz = rest_is m (record { c0 = o; c1 = z; c2 = z })
      ∙ ap₂ (λ s t. s +P X (K m) *P (t +P X (K m) *P t)) (ap (C (K m)) ho.is ∙ (constants (K m)).h_one) (ap (C (K m)) hz.is ∙ (constants (K m)).h_zer)
      ∙ sort (X (K m))
    where
      sort : (x : Po) → 1P +P x *P (0P +P x *P 0P) ≡ 1P
      sort x = ring (P m) (x ∷ []) (search quote depth 40) refl

  pub raising_begin : (u : MonicCubic) (a : Rest) (n : ℕ) (o z : Residue) → KeptRest m a → Settles m o (K m).one → Settles m z (K m).zer → Raising m u a n (record { c0 = o; c1 = z; c2 = z }) a n
  raising_begin u a n o z h ho hz = record {
    left = record { k0 = settled_kept m ho.settled; k1 = settled_kept m hz.settled; k2 = settled_kept m hz.settled };
    right = h;
    q = 0P;
    is = start (P m) (cubic m u) (power (P m) (rest m a) n) ∙ ap (λ t. 0P *P cubic m u +P t *P power (P m) (rest m a) n) (sym (one_rest o z ho hz));
  }

  module _ {u : MonicCubic} {a : Rest} {n : ℕ} {x y : Rest} {k : ℕ} (h : Raising m u a n x y k) where
    pub raising_odd : {z : Rest} → 0 < k → Leaves m u (rest m x *P rest m y) z → Raising m u a n z y (k - 1)
    raising_odd {z} l e = record {
      left = e.kept;
      right = h.right;
      q = h.q +P e.q *P power (P m) (rest m y) (k - 1);
      is = odd_turn (P m) (cubic m u) (power (P m) (rest m a) n) h.q (rest m x) (rest m y) (power (P m) (rest m y) k) (power (P m) (rest m y) (k - 1)) (rest m z) e.q h.is (power_more (P m) (rest m y) k l) e.is;
    }

    pub raising_even : {z : Rest} → k % 2 ≡ 0 → Leaves m u (rest m y *P rest m y) z → Raising m u a n x z (k / 2)
    raising_even {z} even e =
        let w = powers_alike (P m) (cubic m u) (rest m y *P rest m y) (rest m z) e.q e.is (k / 2) in
        record {
          left = h.left;
          right = e.kept;
          q = h.q +P rest m x *P w.0;
          is = even_turn (P m) (cubic m u) (power (P m) (rest m a) n) h.q (rest m x) (power (P m) (rest m y) k) (power (P m) (rest m z) (k / 2)) w.0 h.is (sym (power_even (P m) (rest m y) k even) ∙ w.1);
        }

    pub raised : k ≤ 0 → Leaves m u (power (P m) (rest m a) n) x
    raised l = record {
      kept = h.left;
      q = h.q;
      is = ended (P m) (cubic m u) (power (P m) (rest m a) n) h.q (rest m x) (power (P m) (rest m y) k) h.is (ap (power (P m) (rest m y)) {x = k} {y = 0} (omega arith) ∙ power_none (P m) (rest m y));
    }
