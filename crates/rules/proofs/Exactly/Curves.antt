-- What is asked of a curve record, one after the other, in mathematical words (`curve_asks`): 1 to 7 and 18. Both versions are one list; what is asked of one version alone says so. Gives: a number is given exactly when what is asked before it is so and
-- what is asked under it isn't (`curve_given`); the record is taken exactly when all of it is so (`curve_taken`).
-- Open: all that is asked.
use Prim.Native.Nat.{ℕ, suc, ◌+◌, ◌*◌, ◌≤◌}
use mathlib.Core.Path.{◌≡◌, refl, sym, ap, ◌∙◌}
use mathlib.Core.List.{List, [], ◌∷◌, ◌++◌}
use mathlib.Core.Bool.{Bool, true, false}
use mathlib.Core.Logic.{◌↔◌, ◌⊎◌, inl, inr}
use native.Mathlib.Omega.{arith}
use lib.Dec.{eqb, leb}
use lib.ListN.{length}
use borrow.Author.Tests.{eq-eqb, ne_eqb}
use Rattle.algebra.proofs.Zmod.Prime.{Prime, OddPrime}
use Rattle.rules.specs.Bytes.{words}
use Rattle.rules.specs.Curve.{SquareFree}
use Rattle.rules.specs.Tests.{is_square_free}
use Rattle.rules.specs.Checks.{refused, taken, choose, Check, first_failed}
use Rattle.rules.specs.Records.{curve, both, is_below, is_odd_prime, is_odd_number, is_witnessed, is_marked, has_version, has_genus, version_of, curve_of, base_of, count_of, primes_of, unwitnessed_checks, witnessed_checks, read_curve}
use Rattle.rules.proofs.Demand3.{square_free_test}
use Rattle.rules.proofs.Calls.Elements.{AllBelow, below_decides}
use Rattle.rules.proofs.Calls.CurveRecords.{OddTo}
use Rattle.rules.proofs.Calls.Given.{Ask, ask, Given, Decides, always, given_exactly, AllSo, all_exactly}
use Rattle.rules.proofs.Calls.Decided.{both_decides, either_decides, eq_decides, le_decides, Marked, marked_decides, odd_prime_decides, odd_number_decides, Witness, witness_decides, witness_prime}

-- ---- a test by the version v, and one of version 2 alone
module _ (v : ℕ) (known : (v ≡ 1) ⊎ (v ≡ 2)) where
  apart : v ≡ 1 → v ≡ 2 → ⊥
  apart e z = omega (arith, e, z)

  version_decides : (a b : Bool) {P Q : Type 0} → (a ≡ true) ↔ P → (b ≡ true) ↔ Q → (choose (eqb v 1) a b ≡ true) ↔ ((v ≡ 1 → P) × (v ≡ 2 → Q))
  version_decides a b {P} {Q} h k = go known
    where
      by : (t : Bool) → eqb v 1 ≡ t → choose (eqb v 1) a b ≡ choose t a b
      by t e = ap (λ x. choose x a b) e

      go : (v ≡ 1) ⊎ (v ≡ 2) → (choose (eqb v 1) a b ≡ true) ↔ ((v ≡ 1 → P) × (v ≡ 2 → Q))
      go (inl e) = let q = by true (eq-eqb v 1 e) in (λ t. (λ z. h.0 (sym q ∙ t), λ z. absurd (apart e z)), λ t. q ∙ h.1 (t.0 e))
      go (inr e) = let q = by false (ne_eqb v 1 (λ z. apart z e)) in (λ t. (λ z. absurd (apart z e), λ z. k.0 (sym q ∙ t)), λ t. q ∙ k.1 (t.1 e))

  second_decides : (b : Bool) {Q : Type 0} → (b ≡ true) ↔ Q → (choose (eqb v 1) true b ≡ true) ↔ (v ≡ 2 → Q)
  second_decides b k = let d = version_decides true b {P = Unit {0}} (λ e. tt, λ e. refl) k in (λ t. (d.0 t).1, λ t. d.1 (λ z. tt, t))

module _ (s : List ℕ) where
  abbrev pub p_of : ℕ
  p_of = (curve_of s).p

  abbrev pub g_of : ℕ
  g_of = (curve_of s).g

  abbrev pub f_of : List ℕ
  f_of = words s 14 (suc (g_of + g_of))

  -- ---- what is asked
  abbrev pub Six : Type 0
  Six = 6 ≤ length s

  abbrev pub Versioned : Type 0
  Versioned = (version_of s ≡ 1) ⊎ (version_of s ≡ 2)

  abbrev pub Genus : Type 0
  Genus = (g_of ≡ 2) ⊎ (g_of ≡ 3)

  -- it doesn't end before its count k of primes, and k is 1 to 15
  abbrev pub ToCount : Type 0
  ToCount = version_of s ≡ 2 → 31 + 16 * g_of ≤ length s

  abbrev pub Count : Type 0
  Count = version_of s ≡ 2 → (1 ≤ count_of s) × (count_of s ≤ 15)

  -- 54 or 70 bytes, as g says; 63 + 8k or 79 + 8k
  abbrev pub Long : Type 0
  Long = (version_of s ≡ 1 → length s ≡ 22 + 16 * g_of) × (version_of s ≡ 2 → length s ≡ 31 + 16 * g_of + 8 * count_of s)

  -- an odd prime up to 2^31 - 1; an odd number from 3 to 2^61 - 1
  abbrev pub Odd : Type 0
  Odd = (version_of s ≡ 1 → OddPrime 2147483647 p_of) × (version_of s ≡ 2 → OddTo p_of)

  abbrev pub Witnessed : Type 0
  Witnessed = version_of s ≡ 2 → Witness p_of (base_of s) (primes_of s)

  abbrev pub Below : Type 0
  Below = AllBelow p_of f_of

  abbrev pub Free : Type 0
  Free = SquareFree (curve (curve_of s))

  abbrev pub curve_asks : List Ask
  curve_asks = ask Six 1 ∷ ask (Marked s) 2 ∷ ask Versioned 3 ∷ ask Genus 4 ∷ ask ToCount 1 ∷ ask Count 18 ∷ ask Long 1 ∷ ask Odd 5 ∷ ask Witnessed 18 ∷ ask Below 6 ∷ ask Free 7 ∷ []

  -- ---- the rule's checks, in one list for both versions: what is asked of version 2 alone passes in version 1
  abbrev is_counted : Bool
  is_counted = both (leb 1 (count_of s)) (leb (count_of s) 15)

  abbrev checks_by : Bool → List Check
  checks_by first =
      (leb 6 (length s), 1, 0) ∷
      (is_marked s, 2, 0) ∷
      (has_version (version_of s), 3, 0) ∷
      (has_genus g_of, 4, 0) ∷
      (choose first true (leb (31 + 16 * g_of) (length s)), 1, 0) ∷
      (choose first true is_counted, 18, 0) ∷
      (choose first (eqb (length s) (22 + 16 * g_of)) (eqb (length s) (31 + 16 * g_of + 8 * count_of s)), 1, 0) ∷
      (choose first (is_odd_prime p_of) (is_odd_number p_of), 5, 0) ∷
      (choose first true (is_witnessed p_of (base_of s) (primes_of s)), 18, 0) ∷
      (is_below p_of f_of, 6, 0) ∷
      (is_square_free (curve (curve_of s)), 7, 0) ∷
      []

  in_one_list : read_curve s ≡ first_failed (checks_by (eqb (version_of s) 1)) (curve_of s)
  unfolding read_curve
  in_one_list = go (eqb (version_of s) 1)
    where
      go : (first : Bool) → first_failed (
          (leb 6 (length s), 1, 0) ∷ (is_marked s, 2, 0) ∷ (has_version (version_of s), 3, 0) ∷ (has_genus g_of, 4, 0) ∷ (choose first (unwitnessed_checks s) (witnessed_checks s) ++
          ((is_below p_of f_of, 6, 0) ∷ (is_square_free (curve (curve_of s)), 7, 0) ∷ []))) (curve_of s) ≡ first_failed (checks_by first) (curve_of s)
      go true = refl
      go false = refl

  -- whichever way p was shown
  prime_of : Versioned → Odd → Witnessed → Prime p_of
  prime_of (inl v) o w = (o.0 v).is
  prime_of (inr v) o w = witness_prime p_of (base_of s) (primes_of s) (o.1 v) (w v)

  decides : Decides (always 0) (checks_by (eqb (version_of s) 1)) curve_asks
  decides = (
    le_decides 6 (length s),
    refl,
    refl,
    λ a. (
      marked_decides s,
      refl,
      refl,
      λ m. (
        either_decides _ _ (eq_decides _ _) (eq_decides _ _),
        refl,
        refl,
        λ v. (
          either_decides _ _ (eq_decides _ _) (eq_decides _ _),
          refl,
          refl,
          λ g. (
            second_decides (version_of s) v _ (le_decides _ _),
            refl,
            refl,
            λ c. (
              second_decides (version_of s) v _ (both_decides _ _ (le_decides _ _) (le_decides _ _)),
              refl,
              refl,
              λ k. (
                version_decides (version_of s) v _ _ (eq_decides _ _) (eq_decides _ _),
                refl,
                refl,
                λ l. (
                  version_decides (version_of s) v _ _ (odd_prime_decides p_of) (odd_number_decides p_of),
                  refl,
                  refl,
                  λ o. (
                    second_decides (version_of s) v _ (witness_decides p_of (base_of s) (primes_of s)),
                    refl,
                    refl,
                    λ w.
                        (below_decides p_of f_of, refl, refl, λ b. (square_free_test p_of (prime_of v o w) g_of (curve_of s).low, refl, refl, λ f. tt)),
                  ),
                ),
              ),
            ),
          ),
        ),
      ),
    ),
  )

  -- ---- given exactly when, and taken exactly when
  pub curve_given : (n : ℕ) → (read_curve s ≡ refused n 0) ↔ Given n curve_asks
  curve_given n = let g = given_exactly (curve_of s) (always 0) n (checks_by (eqb (version_of s) 1)) curve_asks decides in (λ q. g.0 (sym in_one_list ∙ q), λ h. in_one_list ∙ g.1 h)

  pub curve_taken : (read_curve s ≡ taken (curve_of s)) ↔ AllSo curve_asks
  curve_taken = let g = all_exactly (curve_of s) (always 0) (checks_by (eqb (version_of s) 1)) curve_asks decides in (λ q. g.0 (sym in_one_list ∙ q), λ h. in_one_list ∙ g.1 h)
