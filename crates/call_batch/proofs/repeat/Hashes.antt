-- What the bytes of two records tell before any is read again. Gives: the loop over u's coefficients makes the chain (`mixing_begin`, `mixing_turn`, `mixing_end`), one
-- of 4,096 (`chain_below`); equal numbers of eight bytes are equal with the lowest byte first (`same_lowest`), so that two records
-- whose bytes differ there differ in u (`same_weight`, `other_word`, `last_word`).
use Prim.Native.Nat.{ℕ, zero, suc, ◌+◌, ◌-◌, ◌*◌, ◌/◌, ◌%◌, ◌≤◌, ◌<◌}
use mathlib.Core.Path.{◌≡◌, refl, sym, ap, ap₂, ◌∙◌, subst}
use mathlib.Core.Bool.{Bool, true, false}
use mathlib.Core.List.{List, [], ◌∷◌, ◌++◌}
use native.Mathlib.Omega.{arith}
use native.Mathlib.Nat.{mod-lt}
use borrow.Author.Tests.{eqb-false}
use lib.Dec.{eqb}
use lib.ListN.{get_or, length, drop}
use lib.Seq.{get_or-drop}
use Rattle.rules.specs.Bytes.{word64, words, bytes64}
use Rattle.rules.specs.Records.{us_at}
use Rattle.rules.proofs.Calls.Bytes.{AreBytes, bytes_word, length-words}
use Rattle.call_batch.specs.repeat.Chains.{mix, mixes, chain_of, Whole, Excludes, lowest64}

-- ---- the hash
pub mix-small : (h x : ℕ) → mix h x < 4294967296
unfolding mix
mix-small h x = mod-lt ((h + x % 4294967296 + x / 4294967296) * 1013904223) (omega arith)

mixes-small : (l : List ℕ) (h : ℕ) → h < 4294967296 → mixes h l < 4294967296
unfolding mixes
mixes-small [] h b = b
mixes-small (x ∷ l) h b = mixes-small l (mix h x) (mix-small h x)

chain_small : (l : List ℕ) → chain_of l < 4096
chain_small l = omega (arith, mixes-small l 0 (omega arith))

pub chain_below : (l : List ℕ) {b : ℕ} → b ≡ chain_of l → b < 4096
chain_below l e = omega (arith, e, chain_small l)

-- after k of w numbers from a on: the hash of those that are left, from here, is that of all
pub record Mixing (s : List ℕ) (a w k h : ℕ) : Type 0 where
  pub on : k ≤ w
  pub small : h < 4294967296
  pub same : mixes h (words s (a + 8 * k) (w - k)) ≡ mixes 0 (words s a w)

first : (s : List ℕ) (a n h : ℕ) → mixes (mix h (word64 s a)) (words s (a + 8) n) ≡ mixes h (words s a (suc n))
unfolding mixes words
first s a n h = refl

none : (s : List ℕ) (a h : ℕ) → h ≡ mixes h (words s a 0)
unfolding mixes words
none s a h = refl

module _ (s : List ℕ) (a w : ℕ) where
  pub mixing_begin : Mixing s a w 0 0
  mixing_begin = record { on = omega arith; small = omega arith; same = ap₂ (λ (n k : ℕ). mixes 0 (words s n k)) {x = a + 8 * 0} {y = a} {u = w - 0} {v = w} (omega arith) (omega arith) }

  pub mixing_turn : (k h h' : ℕ) → k < w → Mixing s a w k h → h' ≡ mix h (word64 s (a + 8 * k)) → Mixing s a w (k + 1) h'
  mixing_turn k h h' l m e = record {
    on = omega arith;
    small = subst (λ (n : ℕ). n < 4294967296) (sym e) (mix-small h (word64 s (a + 8 * k)));
    same = ap (λ (n : ℕ). mixes n (words s (a + 8 * (k + 1)) (w - (k + 1)))) e ∙ one ∙ m.same;
  }
    where
      one : mixes (mix h (word64 s (a + 8 * k))) (words s (a + 8 * (k + 1)) (w - (k + 1))) ≡ mixes h (words s (a + 8 * k) (w - k))
      one = ap (λ (n : ℕ). mixes (mix h (word64 s (a + 8 * k))) (words s n (w - (k + 1)))) {x = a + 8 * (k + 1)} {y = a + 8 * k + 8} (omega arith)
          ∙ first s (a + 8 * k) (w - (k + 1)) h ∙ ap (λ (n : ℕ). mixes h (words s (a + 8 * k) n)) {x = suc (w - (k + 1))} {y = w - k} (omega arith)

  pub mixing_end : (k h : ℕ) → w ≤ k → Mixing s a w k h → h ≡ mixes 0 (words s a w)
  mixing_end k h l m = none s (a + 8 * k) h ∙ ap (λ (n : ℕ). mixes h (words s (a + 8 * k) n)) {x = 0} {y = w - k} (omega arith) ∙ m.same

-- ---- the lowest byte first
module _ (s : List ℕ) (bytes : AreBytes s) where
  lowest_of : (a : ℕ) → a + 8 ≤ length s → lowest64 s a ≡ lowest64 (bytes64 (word64 s a) ++ []) 0
  unfolding lowest64 bytes64
  lowest_of a h =
      omega (
        arith,
        go 0 a (omega arith),
        go 1 (a + 1) (omega arith),
        go 2 (a + 2) (omega arith),
        go 3 (a + 3) (omega arith),
        go 4 (a + 4) (omega arith),
        go 5 (a + 4 + 1) (omega arith),
        go 6 (a + 4 + 2) (omega arith),
        go 7 (a + 4 + 3) (omega arith),
      )
    where
      go : (i x : ℕ) → x ≡ a + i → get_or s x 0 ≡ get_or (bytes64 (word64 s a) ++ drop (a + 8) s) i 0
      go i x e = ap (λ (k : ℕ). get_or s k 0) e ∙ sym (get_or-drop a s i 0) ∙ ap (λ (l : List ℕ). get_or l i 0) (bytes_word s bytes a h)

  pub same_lowest : (a b : ℕ) → a + 8 ≤ length s → b + 8 ≤ length s → word64 s a ≡ word64 s b → lowest64 s a ≡ lowest64 s b
  same_lowest a b ha hb e = lowest_of a ha ∙ ap (λ (x : ℕ). lowest64 (bytes64 x ++ []) 0) e ∙ sym (lowest_of b hb)

-- ---- equal u
word_at : (s : List ℕ) (n a k : ℕ) → k < n → get_or (words s a n) k 0 ≡ word64 s (a + 8 * k)
unfolding words
word_at s zero a k l = absurd (omega arith)
word_at s (suc n) a zero l = ap (word64 s) {x = a} {y = a + 8 * 0} (omega arith)
word_at s (suc n) a (suc k) l = word_at s n (a + 8) k (omega arith) ∙ ap (word64 s) {x = a + 8 + 8 * k} {y = a + 8 * suc k} (omega arith)

module _ (s : List ℕ) (a b : ℕ) (e : us_at s a ≡ us_at s b) where
  pub same_weight : get_or s a 0 ≡ get_or s b 0
  same_weight = sym (length-words s (get_or s a 0) (a + 1)) ∙ ap length e ∙ length-words s (get_or s b 0) (b + 1)

  same_word : (k : ℕ) → k < get_or s a 0 → word64 s (a + 1 + 8 * k) ≡ word64 s (b + 1 + 8 * k)
  same_word k l = sym (word_at s (get_or s a 0) (a + 1) k l) ∙ ap (λ (t : List ℕ). get_or t k 0) e ∙ word_at s (get_or s b 0) (b + 1) k (omega (arith, same_weight))

-- ---- what differs
module _ (s : List ℕ) (bytes : AreBytes s) (a b : ℕ) (wa : Whole s a) (wb : Whole s b) where
  -- the k-th numbers, q and r with the lowest byte first
  module _ (k x y q r : ℕ) (l : k < get_or s a 0) (ex : x ≡ a + 1 + 8 * k) (ey : y ≡ b + 1 + 8 * k) (eq : q ≡ lowest64 s x) (er : r ≡ lowest64 s y) where
    pub other_word : (q ≡ r → ⊥) → us_at s a ≡ us_at s b → ⊥
    other_word n e = n (eq ∙ same_lowest s bytes x y (omega (arith, wa.long)) (omega (arith, wb.long, same_weight s a b e))
        (ap (word64 s) ex ∙ same_word s a b e k l ∙ ap (word64 s) (sym ey)) ∙ sym er)

    pub last_word : Excludes (eqb q r) (us_at s a ≡ us_at s b)
    last_word = go (eqb q r) refl
      where
        go : (t : Bool) → eqb q r ≡ t → Excludes t (us_at s a ≡ us_at s b)
        go true e = tt
        go false e = other_word (eqb-false q r e)
