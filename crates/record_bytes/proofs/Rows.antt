-- Numbers of eight bytes in a row. Gives: one number more at the end, two rows as one, whether all of them are below p by their places,
-- and their elements of Z/p.
use Prim.Native.Nat.{ℕ, zero, suc, ◌+◌, ◌*◌, ◌≤◌, ◌<◌}
use mathlib.Core.Path.{◌≡◌, refl, sym, ap, ap₂, ◌∙◌}
use mathlib.Core.List.{List, [], ◌∷◌, ◌++◌}
use mathlib.Core.Bool.{Bool, true, false}
use native.Mathlib.Omega.{arith}
use borrow.Author.Tests.{lt-ltb, le-ltb}
use lib.Dec.{ltb}
use lib.ListN.{length}
use Rattle.rules.specs.Bytes.{word64, words}
use Rattle.rules.specs.Records.{both, is_below, elements}
use Rattle.rules.proofs.Calls.Bytes.{length-words}
use Rattle.rules.proofs.Calls.Elements.{length_elements}

both_assoc : (a b c : Bool) → both (both a b) c ≡ both a (both b c)
both_assoc true b c = refl
both_assoc false b c = refl

both_false : (b : Bool) → both b false ≡ false
both_false true = refl
both_false false = refl

pub below-append : (p : ℕ) (l m : List ℕ) → is_below p (l ++ m) ≡ both (is_below p l) (is_below p m)
unfolding is_below
below-append p [] m = refl
below-append p (x ∷ l) m = ap (both (ltb x p)) (below-append p l m) ∙ sym (both_assoc (ltb x p) (is_below p l) (is_below p m))

module _ (s : List ℕ) where
  first : (a : ℕ) → word64 s (a + 8 * 0) ≡ word64 s a
  first a = ap (word64 s) {x = a + 8 * 0} {y = a} (omega arith)

  next : (a k : ℕ) → word64 s (a + 8 + 8 * k) ≡ word64 s (a + 8 * suc k)
  next a k = ap (word64 s) {x = a + 8 + 8 * k} {y = a + 8 * suc k} (omega arith)

  words_snoc : (a k : ℕ) → words s a (suc k) ≡ words s a k ++ (word64 s (a + 8 * k) ∷ [])
  unfolding words
  words_snoc a zero = ap (λ t. t ∷ []) (sym (first a))
  words_snoc a (suc k) = ap (λ l. word64 s a ∷ l) (words_snoc (a + 8) k ∙ ap (λ t. words s (a + 8) k ++ (t ∷ [])) (next a k))

  pub words_append : (a m n : ℕ) → words s a (m + n) ≡ words s a m ++ words s (a + 8 * m) n
  unfolding words
  words_append a zero n = ap₂ (words s) {x = a} {y = a + 8 * 0} {u = 0 + n} {v = n} (omega arith) (omega arith)
  words_append a (suc m) n = ap (words s a) {x = suc m + n} {y = suc (m + n)} (omega arith)
      ∙ ap (λ l. word64 s a ∷ l) (words_append (a + 8) m n ∙ ap (λ b. words s (a + 8) m ++ words s b n) {x = a + 8 + 8 * m} {y = a + 8 * suc m} (omega arith))

  module _ (p : ℕ) where
    -- all below p: by their places
    pub all_below : (a n : ℕ) → ((k : ℕ) → k < n → word64 s (a + 8 * k) < p) → is_below p (words s a n) ≡ true
    unfolding words is_below
    all_below a zero h = refl
    all_below a (suc n) h = ap₂ both (lt-ltb (word64 s a) p (omega (arith, h 0 (omega arith), first a))) (all_below (a + 8) n (λ k l. omega (arith, h (suc k) (omega arith), next a k)))

    pub one_above : (a n k : ℕ) → k < n → p ≤ word64 s (a + 8 * k) → is_below p (words s a n) ≡ false
    unfolding words is_below
    one_above a zero k l h = absurd (omega arith)
    one_above a (suc n) zero l h = ap (λ b. both b (is_below p (words s (a + 8) n))) (le-ltb (word64 s a) p (omega (arith, first a)))
    one_above a (suc n) (suc k) l h = ap (both (ltb (word64 s a) p)) (one_above (a + 8) n k (omega arith) (omega (arith, next a k))) ∙ both_false (ltb (word64 s a) p)

    -- their elements
    pub length_row : (a n : ℕ) → length (elements p (words s a n)) ≡ n
    length_row a n = length_elements p (words s a n) ∙ length-words s n a
