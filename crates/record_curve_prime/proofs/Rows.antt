-- The loop over numbers in a row: the first i are in their places, and take i of them is what the rules read.
use Prim.Native.Nat.{ℕ, suc, ◌+◌, ◌*◌, ◌≤◌, ◌<◌}
use mathlib.Core.Path.{◌≡◌, refl, sym, ap, ap₂, ◌∙◌}
use mathlib.Core.List.{List, [], ◌∷◌, ◌++◌}
use native.Mathlib.Omega.{arith}
use lib.ListN.{length, take, set, replicate, length-set}
use lib.Seq.{take-suc-set}
use Rattle.rules.specs.Bytes.{word64, words}
use Rattle.record_bytes.proofs.Rows.{words_append}

pub record Filled (s : List ℕ) (a k : ℕ) (q : List ℕ) (i : ℕ) : Type 0 where
  pub within : i ≤ k
  pub long : length q ≡ 15
  pub is : take i q ≡ words s a i

module _ (s : List ℕ) (a k : ℕ) where
  pub fill_begin : Filled s a k (replicate 15 0) 0
  unfolding words
  fill_begin = record { within = omega arith; long = refl; is = refl }

  one_more : (i : ℕ) → words s a (suc i) ≡ words s a i ++ (word64 s (a + 8 * i) ∷ [])
  unfolding words
  one_more i = ap (words s a) {x = suc i} {y = i + 1} (omega arith) ∙ words_append s a i 1

  pub fill_turn : (q : List ℕ) (i x : ℕ) → k ≤ 15 → i < k → Filled s a k q i → x ≡ word64 s (a + 8 * i) → Filled s a k (set q i x) (i + 1)
  fill_turn q i x room l h e = record {
    within = omega arith;
    long = length-set q i x ∙ h.long;
    is = ap (λ (n : ℕ). take n (set q i x)) {x = i + 1} {y = suc i} (omega arith) ∙ take-suc-set q i x (omega (arith, h.long)) ∙ ap₂ (λ (z : List ℕ) (y : ℕ). z ++ (y ∷ [])) h.is e
        ∙ sym (one_more i) ∙ ap (words s a) {x = suc i} {y = i + 1} (omega arith);
  }

  pub fill_end : (q : List ℕ) (i : ℕ) → Filled s a k q i → k ≤ i → take k q ≡ words s a k
  fill_end q i h l = ap (λ (n : ℕ). take n q) e ∙ h.is ∙ ap (words s a) (sym e)
    where
      e : k ≡ i
      e = omega (arith, h.within)
