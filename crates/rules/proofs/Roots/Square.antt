-- Squares modulo an odd prime p. Gives: with any z ≠ 0 that has z^((p-1)/2) ≠ 1, Tonelli and Shanks' loop roots every a that has a^((p-1)/2) = 1
-- (`square_root`); and an a ≠ 0 has a root exactly when it does (`square_iff`).
use Prim.Native.Nat.{ℕ, zero, suc, ◌+◌, ◌*◌, ◌-◌, ◌/◌, ◌%◌, ◌^◌, ◌≤◌, ◌<◌}
use mathlib.Core.Path.{◌≡◌, sym, ap, ◌∙◌}
use mathlib.Core.Logic.{◌≢◌, ◌↔◌}
use native.Mathlib.Decide.{ℕ_discrete}
use native.Mathlib.Omega.{arith}
use native.Mathlib.Nat.{pow-suc, mul_assoc}
use Rattle.algebra.proofs.Ring.CRing.{mul_zer}
use Rattle.algebra.proofs.Ring.Field.{Field}
use Rattle.algebra.proofs.Ring.Power.{power, power_add, power_of_mul}
use Rattle.algebra.proofs.Zmod.Zmod.{zmod, emb, emb_zero, emb_inj}
use Rattle.algebra.proofs.Zmod.Prime.{Prime}
use Rattle.algebra.proofs.Zmod.PrimeField.{prime_field}
use Rattle.rules.proofs.Roots.Fermat.{fermat_unit}
use Rattle.rules.proofs.Roots.Count.{nonresidue}
use Rattle.rules.proofs.Roots.Tonelli.{other_root, begin, roots, roots_ok}

-- n > 0 as an odd number times a power of 2
pub record Odd (n : ℕ) : Type 0 where
  pub k : ℕ
  pub i : ℕ
  pub n_is : n ≡ (2 * k + 1) * 2 ^ i

pub odd_part : (f n : ℕ) → n ≤ f → 0 < n → Odd n
odd_part zero n h pos = absurd (omega arith)
odd_part (suc f) n h pos = go (ℕ_discrete (n % 2) 0) (λ l. odd_part f (n / 2) (omega arith) l)
  where
    go : Dec (n % 2 ≡ 0) → (0 < n / 2 → Odd (n / 2)) → Odd n
    go (no g) rec = record { k = n / 2; i = 0; n_is = omega arith }
    go (yes e) rec = more (rec (omega arith))
      where
        more : Odd (n / 2) → Odd n
        more o = record {
          k = o.k;
          i = suc o.i;
          n_is = twice ∙ ap (λ (t : ℕ). t * 2) o.n_is ∙ mul_assoc (2 * o.k + 1) (2 ^ o.i) 2 ∙ ap (λ (t : ℕ). (2 * o.k + 1) * t) (sym (pow-suc 2 o.i));
        }
          where
            twice : n ≡ n / 2 * 2
            twice = omega arith

module _ (p : ℕ) (prime : Prime p) (odd : 2 < p) where
  open zmod p use {El as A, mul as ◌⊗◌, zer as 𝟘, one as 𝟙}

  infixl 70 ◌⊗◌
  abbrev half : ℕ
  half = (p - 1) / 2

  halves : half + half ≡ p - 1
  halves = omega (arith, prime.none 2 (omega arith) odd)

  pub power_half : (y : A) → y ≢ 𝟘 → power (zmod p) y half ⊗ power (zmod p) y half ≡ 𝟙
  power_half y ne = sym (power_add (zmod p) y half half) ∙ ap (power (zmod p) y) halves ∙ fermat_unit p prime y ne

  pub square_root : (z : A) → z ≢ 𝟘 → power (zmod p) z half ≢ 𝟙 → (a : A) → power (zmod p) a half ≡ 𝟙 → (k i : ℕ) → half ≡ (2 * k + 1) * 2 ^ i
      → let x : A = roots (prime_field p prime) i (power (zmod p) a (k + 1)) (power (zmod p) a (2 * k + 1)) (power (zmod p) z (2 * k + 1)) in x ⊗ x ≡ a
  square_root z ne f a h k i e = roots_ok K i (power (zmod p) a (k + 1)) (power (zmod p) a (2 * k + 1)) (power (zmod p) z (2 * k + 1))
      (begin K a z k i (ap (power (zmod p) a) (sym e) ∙ h) (ap (power (zmod p) z) (sym e) ∙ other_root K (power (zmod p) z half) (power_half z ne) f))
    where
      K : Field
      K = prime_field p prime

  pub square_iff : (a : A) → a ≢ 𝟘 → ((s : A) × (s ⊗ s ≡ a)) ↔ (power (zmod p) a half ≡ 𝟙)
  square_iff a ne = (to, back)
    where
      to : (s : A) × (s ⊗ s ≡ a) → power (zmod p) a half ≡ 𝟙
      to x = ap (λ t. power (zmod p) t half) (sym x.1) ∙ power_of_mul (zmod p) x.0 x.0 half
          ∙ power_half x.0 (λ e. ne (sym x.1 ∙ ap (λ t. x.0 ⊗ t) e ∙ mul_zer (zmod p) x.0))

      back : power (zmod p) a half ≡ 𝟙 → (s : A) × (s ⊗ s ≡ a)
      back h = let o = odd_part half half (omega arith) (omega (arith, halves)) in let z = nonresidue p prime (half - 1) (omega (arith, halves)) in (
        roots (prime_field p prime) o.i (power (zmod p) a (o.k + 1)) (power (zmod p) a (2 * o.k + 1)) (power (zmod p) (emb p z.0) (2 * o.k + 1)),
        square_root (emb p z.0) (λ e. omega (arith, emb_inj p (omega arith) z.0 0 z.2 (omega arith) (e ∙ sym (emb_zero p)), z.1))
            (λ e. z.3 (ap (power (zmod p) (emb p z.0)) {x = suc (half - 1)} {y = half} (omega (arith, halves)) ∙ e)) a h o.k o.i o.n_is,
      )
