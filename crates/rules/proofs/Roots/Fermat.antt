-- Fermat's little theorem: y^p = y modulo a prime p (`fermat`), and y^(p-1) = 1 where y isn't 0 (`fermat_unit`); so every y is a
-- root of x^p - x (`every_root`). By (x + 1)^p = x^p + 1, as the
-- binomial coefficients between the ends are 0 modulo p.
use Prim.Native.Nat.{ℕ, zero, suc, ◌-◌, ◌<◌}
use mathlib.Core.Path.{◌≡◌, refl, sym, ap, ap₂, ◌∙◌}
use mathlib.Core.List.{[], ◌∷◌}
use mathlib.Core.Logic.{◌≢◌}
use native.Mathlib.Omega.{arith}
use native.Mathlib.Numerals.{add-one}
use Rattle.algebra.proofs.Ring.CRing.{CRing, add_zer, add_neg, zer_mul}
use Rattle.algebra.proofs.Ring.Quote.{ring, quote, by}
use Rattle.algebra.proofs.Ring.Power.{power, power_suc, power_of_zer}
use Rattle.algebra.proofs.Ring.Field.{no_zero_divisors}
use Rattle.algebra.proofs.Zmod.Zmod.{zmod, zmod_dec, emb, num, emb_num, emb_add, emb_one, emb_zero, emb_p, emb_inj}
use Rattle.algebra.proofs.Zmod.Prime.{Prime}
use Rattle.algebra.proofs.Zmod.PrimeField.{inv, mul_inv, prime_field}
use Rattle.algebra.proofs.Poly.Poly.{poly}
use Rattle.algebra.proofs.Poly.Term.{X}
use Rattle.rules.proofs.Roots.Value.{ev, ev_hom, ev_X, ev_pow}
use Rattle.rules.proofs.Roots.Binomial.{binomial, binomial_first, binomial_last, binomial_theorem, val_top}

-- ---- k + 1 times a coefficient is n + 1 times the one before it
module _ (R : CRing) where
  open R use {El as A, add as ◌⊕◌, mul as ◌⊗◌, neg, zer as 𝟘, one as 𝟙}

  infixl 65 ◌⊕◌
  infixl 70 ◌⊗◌
  rule : (e m x y z : A) → e ⊗ (x ⊕ y) ≡ m ⊗ x → (e ⊕ 𝟙) ⊗ z ≡ m ⊗ y → (e ⊕ 𝟙) ⊗ (x ⊕ y ⊕ z) ≡ (m ⊕ 𝟙) ⊗ (x ⊕ y)
  rule e m x y z h k = by R 𝟙 h (by R 𝟙 k (ring R (e ∷ m ∷ x ∷ y ∷ z ∷ []) (search quote depth 40) refl))

  first : (o x m b : A) → o ≡ 𝟙 → b ≡ 𝟙 → o ⊗ x ≡ m ⊗ b → o ⊗ (𝟙 ⊕ x) ≡ (m ⊕ 𝟙) ⊗ 𝟙
  first o x m b h k e = by R 𝟙 h (by R m k (by R 𝟙 e (ring R (o ∷ x ∷ m ∷ b ∷ []) (search quote depth 40) refl)))

  undo : (a y i : A) → y ⊗ a ≡ y → y ⊗ i ≡ 𝟙 → a ≡ 𝟙
  undo a y i h k = by R i h (by R (neg a ⊕ 𝟙) k (ring R (a ∷ y ∷ i ∷ []) (search quote depth 40) refl))

  none : (e m : A) → e ⊗ (𝟘 ⊕ 𝟘) ≡ m ⊗ 𝟘
  none e m = ring R (e ∷ m ∷ []) (search quote depth 40) refl

module _ (p : ℕ) where
  open zmod p use {El as A, add as ◌⊕◌, mul as ◌⊗◌, zer as 𝟘, one as 𝟙}

  infixl 65 ◌⊕◌
  infixl 70 ◌⊗◌
  pub emb_suc : (k : ℕ) → emb p (suc k) ≡ emb p k ⊕ 𝟙
  emb_suc k = ap (emb p) (sym (add-one k)) ∙ emb_add p k 1 ∙ ap (λ t. emb p k ⊕ t) (emb_one p)

  absorb : (n k : ℕ) → emb p (suc k) ⊗ binomial (zmod p) (suc n) (suc k) ≡ emb p (suc n) ⊗ binomial (zmod p) n k
  absorb zero zero = ap (λ t. emb p 1 ⊗ t) (add_zer (zmod p) 𝟙)
  absorb zero (suc k) = none (zmod p) (emb p (suc (suc k))) (emb p 1)
  absorb (suc n) zero = first (zmod p) (emb p 1) (binomial (zmod p) (suc n) 1) (emb p (suc n)) (binomial (zmod p) n 0) (emb_one p) (binomial_first (zmod p) n) (absorb n zero)
      ∙ ap (λ t. t ⊗ 𝟙) (sym (emb_suc (suc n)))
  absorb (suc n) (suc k) = ap (λ t. t ⊗ binomial (zmod p) (suc (suc n)) (suc (suc k))) (emb_suc (suc k))
      ∙ rule (zmod p) (emb p (suc k)) (emb p (suc n)) (binomial (zmod p) n k) (binomial (zmod p) n (suc k)) (binomial (zmod p) (suc n) (suc (suc k)))
      (absorb n k) (ap (λ t. t ⊗ binomial (zmod p) (suc n) (suc (suc k))) (sym (emb_suc (suc k))) ∙ absorb n (suc k))
      ∙ ap (λ t. t ⊗ binomial (zmod p) (suc n) (suc k)) (sym (emb_suc (suc n)))

-- ---- p = n + 1, a prime
module _ (n : ℕ) (prime : Prime (suc n)) where
  abbrev p : ℕ
  p = suc n

  open zmod p use {El as A, add as ◌⊕◌, mul as ◌⊗◌, zer as 𝟘, one as 𝟙}

  infixl 65 ◌⊕◌
  infixl 70 ◌⊗◌
  middle : (k : ℕ) → k < n → binomial (zmod p) p (suc k) ≡ 𝟘
  middle k l = go (zmod_dec p (binomial (zmod p) p (suc k)) 𝟘)
    where
      apart : emb p (suc k) ≢ 𝟘
      apart e = absurd (omega (arith, emb_inj p (omega arith) (suc k) 0 (omega arith) (omega arith) (e ∙ sym (emb_zero p))))

      go : Dec (binomial (zmod p) p (suc k) ≡ 𝟘) → binomial (zmod p) p (suc k) ≡ 𝟘
      go (yes e) = e
      go (no f) = absurd (no_zero_divisors (prime_field p prime) (emb p (suc k)) (binomial (zmod p) p (suc k)) apart f
          (absorb p n k ∙ ap (λ t. t ⊗ binomial (zmod p) n k) (emb_p p (omega arith)) ∙ zer_mul (zmod p) (binomial (zmod p) n k)))

  next : (x : A) → power (zmod p) (x ⊕ 𝟙) p ≡ power (zmod p) x p ⊕ 𝟙
  next x = binomial_theorem (zmod p) p x
      ∙ ap₂ (λ s t. s ⊕ x ⊗ t) (binomial_first (zmod p) p) (val_top (zmod p) n (λ k. binomial (zmod p) p (suc k)) x middle ∙ ap (λ t. power (zmod p) x n ⊗ t) (binomial_last (zmod p) p))
      ∙ sort (power (zmod p) x n) x ∙ ap (λ t. t ⊕ 𝟙) (sym (power_suc (zmod p) x n))
    where
      sort : (a x : A) → 𝟙 ⊕ x ⊗ (a ⊗ 𝟙) ≡ x ⊗ a ⊕ 𝟙
      sort a x = ring (zmod p) (a ∷ x ∷ []) (search quote depth 40) refl

  of_numbers : (k : ℕ) → power (zmod p) (emb p k) p ≡ emb p k
  of_numbers zero = ap (λ t. power (zmod p) t p) (emb_zero p) ∙ power_of_zer (zmod p) n ∙ sym (emb_zero p)
  of_numbers (suc k) = ap (λ t. power (zmod p) t p) (emb_suc p k) ∙ next (emb p k) ∙ ap (λ t. t ⊕ 𝟙) (of_numbers k) ∙ sym (emb_suc p k)

pub fermat : (p : ℕ) → Prime p → (y : (zmod p).El) → power (zmod p) y p ≡ y
fermat zero prime y = absurd (omega (arith, prime.two))
fermat (suc n) prime y = ap (λ t. power (zmod (suc n)) t (suc n)) (sym (emb_num (suc n) y)) ∙ of_numbers n prime (num (suc n) y) ∙ emb_num (suc n) y

pub fermat_unit : (p : ℕ) → Prime p → (y : (zmod p).El) → y ≢ (zmod p).zer → power (zmod p) y (p - 1) ≡ (zmod p).one
fermat_unit zero prime y h = absurd (omega (arith, prime.two))
fermat_unit (suc n) prime y h = ap (power R y) {x = suc n - 1} {y = n} (omega arith) ∙ undo R (power R y n) y (inv (suc n) y) (sym (power_suc R y n) ∙ fermat (suc n) prime y) (mul_inv (suc n) prime y h)
  where
    R : CRing
    R = zmod (suc n)

-- ---- so every element is a root of x^p - x
pub every_root : (p : ℕ) → Prime p → (y : (zmod p).El) → ev (zmod p) y ((poly (zmod p)).add (power (poly (zmod p)) (X (zmod p)) p) ((poly (zmod p)).neg (X (zmod p)))) ≡ (zmod p).zer
every_root p prime y = (ev_hom (zmod p) y).h_add (power (poly (zmod p)) (X (zmod p)) p) ((poly (zmod p)).neg (X (zmod p)))
    ∙ ap₂ (zmod p).add (ev_pow (zmod p) y (X (zmod p)) p ∙ ap (λ t. power (zmod p) t p) (ev_X (zmod p) y) ∙ fermat p prime y)
    ((ev_hom (zmod p) y).h_neg (X (zmod p)) ∙ ap (zmod p).neg (ev_X (zmod p) y))
    ∙ add_neg (zmod p) y
