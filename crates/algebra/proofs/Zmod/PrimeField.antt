-- Z/p is a field where p is prime. Gives: `modulo p`, the arithmetic of `zmod p` for any p; `prime_field p`, a Field over it where p is
-- prime; and that 1 + 1 isn't 0 in it but for p = 2. The inverse comes from a⁻¹ = -(p / a) · (p % a)⁻¹: primality is used only as
-- p % a ≠ 0. It computes, so closed sums over small fields do.
-- Open (`abbrev`): `modulo`, `prime_field`, whose ring is thus `zmod p` itself. Shut: `inv`.
use Prim.Native.Nat.{ℕ, zero, suc, ◌*◌, ◌-◌, ◌/◌, ◌%◌, ◌≤◌, ◌<◌}
use mathlib.Core.Path.{◌≡◌, refl, sym, ap, ap₂, ◌∙◌}
use mathlib.Core.List.{[], ◌∷◌}
use mathlib.Core.Logic.{◌≢◌, ◌⊎◌, inl, inr}
use native.Mathlib.Omega.{arith}
use native.Mathlib.Nat.{mod-lt, div-add-mod, eq-zero-or-pos}
use Rattle.algebra.proofs.Ring.Quote.{ring, quote, by}
use Rattle.algebra.proofs.Ring.Field.{Arith, Field}
use Rattle.algebra.proofs.Zmod.Zmod.{zmod, zmod_dec, emb, num, emb_num, num_inj, num_lt, num_zero, emb_add, emb_mul, emb_one, emb_zero, emb_p, emb_mod, emb_less, emb_inj}
use Rattle.algebra.proofs.Zmod.Prime.{Prime}

-- the inverse of a modulo p, in at most f steps
unfoldable pub inverse_of : ℕ → ℕ → ℕ → ℕ
inverse_of p zero a = 0
inverse_of p (suc f) zero = 0
inverse_of p (suc f) (suc zero) = 1
inverse_of p (suc f) (suc (suc a)) = p - (p / suc (suc a)) * inverse_of p f (p % suc (suc a)) % p

unfoldable pub inv : (p : ℕ) → (zmod p).El → (zmod p).El
unfolding inverse_of num emb
inv p a = emb p (inverse_of p (num p a) (num p a))

abbrev pub modulo : ℕ → Arith
modulo p = record { base = zmod p; dec = zmod_dec p; inv = inv p }

module _ (p : ℕ) (prime : Prime p) where
  open zmod p use {El as A, add as ◌⊕◌, mul as ◌⊗◌, neg as ng, zer as 𝟘, one as 𝟙}

  infixl 65 ◌⊕◌
  infixl 70 ◌⊗◌
  pos : 0 < p
  pos = omega (arith, prime.two)

  -- one step: from the inverse r of p % n to that of n
  step : (n r : ℕ) → emb p (p % n) ⊗ emb p r ≡ 𝟙 → emb p n ⊗ emb p (p - (p / n) * r % p) ≡ 𝟙
  step n r h =
      ap (λ t. emb p n ⊗ t) (emb_less p pos ((p / n) * r % p) (omega (arith, mod-lt ((p / n) * r) {m = p} pos)) ∙ ap ng (emb_mod p pos ((p / n) * r) ∙ emb_mul p (p / n) r))
      ∙ by (zmod p) (ng (emb p r)) whole (by (zmod p) 𝟙 h (ring (zmod p) (emb p n ∷ emb p (p / n) ∷ emb p (p % n) ∷ emb p r ∷ []) (search quote depth 40) refl))
    where
      whole : emb p n ⊗ emb p (p / n) ⊕ emb p (p % n) ≡ 𝟘
      whole = ap (λ t. t ⊕ emb p (p % n)) (sym (emb_mul p n (p / n))) ∙ sym (emb_add p (n * (p / n)) (p % n)) ∙ ap (emb p) (div-add-mod p n) ∙ emb_p p pos

  pub inverse_ok : (f a : ℕ) → a ≤ f → 0 < a → a < p → emb p a ⊗ emb p (inverse_of p f a) ≡ 𝟙
  unfolding inverse_of
  inverse_ok zero a h0 h1 h2 = absurd (omega arith)
  inverse_ok (suc f) zero h0 h1 h2 = absurd (omega arith)
  inverse_ok (suc f) (suc zero) h0 h1 h2 = ap₂ ◌⊗◌ (emb_one p) (emb_one p) ∙ (zmod p).one-mul 𝟙
  inverse_ok (suc f) (suc (suc a)) h0 h1 h2 =
      let l : p % suc (suc a) < suc (suc a) = mod-lt p {m = suc (suc a)} (omega arith) in
      step (suc (suc a)) (inverse_of p f (p % suc (suc a))) (inverse_ok f (p % suc (suc a)) (omega arith) (prime.none (suc (suc a)) (omega arith) h2) (omega arith))

  pub mul_inv : (a : A) → a ≢ 𝟘 → a ⊗ inv p a ≡ 𝟙
  unfolding inv
  mul_inv a k = ap (λ t. t ⊗ inv p a) (sym (emb_num p a)) ∙ inverse_ok (num p a) (num p a) (omega arith) (go (eq-zero-or-pos (num p a))) (num_lt p pos a)
    where
      go : (num p a ≡ 0) ⊎ (0 < num p a) → 0 < num p a
      go (inl e) = absurd (k (num_inj p (e ∙ sym (num_zero p pos))))
      go (inr l) = l

  -- different numbers below p are different elements
  apart : (a b : ℕ) → a < p → b < p → (a ≡ b → ⊥) → emb p a ≢ emb p b
  apart a b ha hb n e = n (emb_inj p pos a b ha hb e)

  pub one_ne_zero : 𝟙 ≢ 𝟘
  one_ne_zero e = apart 1 0 prime.two pos (λ q. omega arith) (emb_one p ∙ e ∙ sym (emb_zero p))

  abbrev pub prime_field : Field
  prime_field = record { arith = modulo p; mul_inv = mul_inv; one_ne = one_ne_zero }

  pub two_ne_zero : 2 < p → 𝟙 ⊕ 𝟙 ≢ 𝟘
  two_ne_zero l e = apart 2 0 l pos (λ q. omega arith) (emb_add p 1 1 ∙ ap₂ ◌⊕◌ (emb_one p) (emb_one p) ∙ e ∙ sym (emb_zero p))
