-- Big-endian numbers. Gives, of any length: one byte more (`number_more`); of eight bytes: the number of the bytes of x is x, for x below 2^64 (`word_bytes`); the bytes of the number of
-- eight bytes are those bytes (`bytes_word`); the same of many numbers (`words_bytes`, `bytes_words`). And the bytes from a place on, as a part of a slice (`part-from`).
use Prim.Native.Nat.{ℕ, zero, suc, ◌+◌, ◌*◌, ◌-◌, ◌/◌, ◌%◌, ◌≤◌, ◌<◌}
use mathlib.Core.Path.{◌≡◌, refl, sym, ap, ap₂, ◌∙◌}
use mathlib.Core.List.{List, [], ◌∷◌, ◌++◌, append_assoc, foldl-append}
use mathlib.Core.Bool.{true}
use native.Mathlib.Numerals.{add-one}
use native.Mathlib.Omega.{arith}
use lib.Dec.{ltb}
use lib.ListN.{get_or, length, take, drop, length-drop}
use lib.Seq.{take_all, take-suc, drop-cons, get_or-append-add}
use borrow.Author.Tests.{ltb-true}
use Rattle.rules.specs.Bytes.{number, word64, words, bytes64, all_bytes}
use Rattle.rules.specs.Records.{is_below}
use Rattle.rules.proofs.Calls.Tests.{both_true}

-- every one is below 256
abbrev pub AreBytes : List ℕ → Type 0
AreBytes s = (i : ℕ) → get_or s i 0 < 256

-- what stands from e on, as code has it
pub part-from : (s : List ℕ) (e : ℕ) → take (length s - e) (drop e s) ≡ drop e s
part-from s e = take_all (length s - e) (drop e s) (omega (arith, length-drop e s))

-- ---- one byte more of a number of any length
pub number_more : (s : List ℕ) (i : ℕ) → i < length s → number (take (i + 1) s) ≡ 256 * number (take i s) + get_or s i 0
unfolding number
number_more s i l = ap (λ n. number (take n s)) (add-one i) ∙ ap number (take-suc s i 0 l) ∙ foldl-append (λ n b. 256 * n + b) 0 (take i s) (get_or s i 0 ∷ [])

-- ---- one number
-- digits to the base 256, the highest last
digits : (q0 q1 q2 q3 q4 q5 q6 q7 r0 r1 r2 r3 r4 r5 r6 r7 : ℕ) → q1 * 256 + r0 ≡ q0 → q2 * 256 + r1 ≡ q1 → q3 * 256 + r2 ≡ q2 → q4 * 256 + r3 ≡ q3
    → q5 * 256 + r4 ≡ q4 → q6 * 256 + r5 ≡ q5 → q7 * 256 + r6 ≡ q6 → r7 ≡ q7
    → (((r7 * 256 + r6) * 256 + r5) * 256 + r4) * 4294967296 + (((r3 * 256 + r2) * 256 + r1) * 256 + r0) ≡ q0
digits q0 q1 q2 q3 q4 q5 q6 q7 r0 r1 r2 r3 r4 r5 r6 r7 e0 e1 e2 e3 e4 e5 e6 e7 = omega arith

pub word_bytes : (x : ℕ) (l : List ℕ) → x < 18446744073709551616 → word64 (bytes64 x ++ l) 0 ≡ x
unfolding word64 bytes64
word_bytes x l h = digits x (x / 256) (x / 65536) (x / 16777216) (x / 4294967296) (x / 1099511627776) (x / 281474976710656) (x / 72057594037927936)
    (x % 256) (x / 256 % 256) (x / 65536 % 256) (x / 16777216 % 256) (x / 4294967296 % 256) (x / 1099511627776 % 256) (x / 281474976710656 % 256) (x / 72057594037927936 % 256)
    (omega arith) (omega arith) (omega arith) (omega arith) (omega arith) (omega arith) (omega arith) (omega arith)

bytes_of : (b0 b1 b2 b3 b4 b5 b6 b7 : ℕ) → b0 < 256 → b1 < 256 → b2 < 256 → b3 < 256 → b4 < 256 → b5 < 256 → b6 < 256 → b7 < 256
    → bytes64 ((((b0 * 256 + b1) * 256 + b2) * 256 + b3) * 4294967296 + (((b4 * 256 + b5) * 256 + b6) * 256 + b7)) ≡ b0 ∷ b1 ∷ b2 ∷ b3 ∷ b4 ∷ b5 ∷ b6 ∷ b7 ∷ []
unfolding bytes64
bytes_of b0 b1 b2 b3 b4 b5 b6 b7 h0 h1 h2 h3 h4 h5 h6 h7 =
    ap₂ ◌∷◌ (omega arith) (ap₂ ◌∷◌ (omega arith) (ap₂ ◌∷◌ (omega arith) (ap₂ ◌∷◌ (omega arith)
    (ap₂ ◌∷◌ (omega arith) (ap₂ ◌∷◌ (omega arith) (ap₂ ◌∷◌ (omega arith) (ap₂ ◌∷◌ (omega arith) refl)))))))

module _ (s : List ℕ) where
  pub one_off : (a b : ℕ) → suc a ≡ b → a < length s → drop a s ≡ get_or s a 0 ∷ drop b s
  one_off a b e h = drop-cons s a 0 h ∙ ap (λ (k : ℕ). get_or s a 0 ∷ drop k s) e

  eight_off : (a : ℕ) → a + 8 ≤ length s
      → drop a s ≡ get_or s a 0 ∷ get_or s (a + 1) 0 ∷ get_or s (a + 2) 0 ∷ get_or s (a + 3) 0 ∷ get_or s (a + 4) 0 ∷ get_or s (a + 4 + 1) 0 ∷ get_or s (a + 4 + 2) 0
      ∷ get_or s (a + 4 + 3) 0 ∷ drop (a + 8) s
  eight_off a h = one_off a (a + 1) (omega arith) (omega arith) ∙ ap (◌∷◌ (get_or s a 0)) (
      one_off (a + 1) (a + 2) (omega arith) (omega arith) ∙ ap (◌∷◌ (get_or s (a + 1) 0)) (
      one_off (a + 2) (a + 3) (omega arith) (omega arith) ∙ ap (◌∷◌ (get_or s (a + 2) 0)) (
      one_off (a + 3) (a + 4) (omega arith) (omega arith) ∙ ap (◌∷◌ (get_or s (a + 3) 0)) (
      one_off (a + 4) (a + 4 + 1) (omega arith) (omega arith) ∙ ap (◌∷◌ (get_or s (a + 4) 0)) (
      one_off (a + 4 + 1) (a + 4 + 2) (omega arith) (omega arith) ∙ ap (◌∷◌ (get_or s (a + 4 + 1) 0)) (
      one_off (a + 4 + 2) (a + 4 + 3) (omega arith) (omega arith) ∙ ap (◌∷◌ (get_or s (a + 4 + 2) 0)) (
      one_off (a + 4 + 3) (a + 8) (omega arith) (omega arith))))))))

  module _ (bytes : AreBytes s) where
    pub bytes_word : (a : ℕ) → a + 8 ≤ length s → drop a s ≡ bytes64 (word64 s a) ++ drop (a + 8) s
    unfolding word64
    bytes_word a h = eight_off a h ∙ sym (ap (λ l. l ++ drop (a + 8) s)
        (bytes_of (get_or s a 0) (get_or s (a + 1) 0) (get_or s (a + 2) 0) (get_or s (a + 3) 0) (get_or s (a + 4) 0) (get_or s (a + 4 + 1) 0)
        (get_or s (a + 4 + 2) 0) (get_or s (a + 4 + 3) 0) (bytes a) (bytes (a + 1)) (bytes (a + 2)) (bytes (a + 3)) (bytes (a + 4)) (bytes (a + 4 + 1))
        (bytes (a + 4 + 2)) (bytes (a + 4 + 3))))

    -- ---- many
    pub bytes_words : (n a : ℕ) → a + 8 * n ≤ length s → drop a s ≡ all_bytes (words s a n) ++ drop (a + 8 * n) s
    unfolding words all_bytes
    bytes_words zero a h = ap (λ (k : ℕ). drop k s) {x = a} {y = a + 8 * 0} (omega arith)
    bytes_words (suc n) a h = bytes_word a (omega arith) ∙ ap (◌++◌ (bytes64 (word64 s a)))
        (bytes_words n (a + 8) (omega arith) ∙ ap (λ (k : ℕ). all_bytes (words s (a + 8) n) ++ drop k s) {x = a + 8 + 8 * n} {y = a + 8 * suc n} (omega arith))
        ∙ sym (append_assoc (bytes64 (word64 s a)) (all_bytes (words s (a + 8) n)) (drop (a + 8 * suc n) s))

pub length-bytes : (l : List ℕ) → length (all_bytes l) ≡ 8 * length l
unfolding bytes64 all_bytes
length-bytes [] = refl
length-bytes (x ∷ l) = omega (arith, length-bytes l)

-- ---- the same bytes elsewhere
module _ (s t : List ℕ) where
  -- the n bytes of s from a on are those of t from b on
  abbrev pub Alike : ℕ → ℕ → ℕ → Type 0
  Alike a b n = (i : ℕ) → i < n → get_or s (a + i) 0 ≡ get_or t (b + i) 0

  -- places written otherwise
  pub alike_at : (a b n : ℕ) → Alike a b n → (i x y : ℕ) → i < n → x ≡ a + i → y ≡ b + i → get_or s x 0 ≡ get_or t y 0
  alike_at a b n h i x y l e e' = ap (λ (k : ℕ). get_or s k 0) e ∙ h i l ∙ sym (ap (λ (k : ℕ). get_or t k 0) e')

  pub word_same : (a b : ℕ) → Alike a b 8 → word64 s a ≡ word64 t b
  unfolding word64
  word_same a b h =
      omega (
        arith,
        go 0 a b (omega arith) (omega arith) (omega arith),
        go 1 (a + 1) (b + 1) (omega arith) (omega arith) (omega arith),
        go 2 (a + 2) (b + 2) (omega arith) (omega arith) (omega arith),
        go 3 (a + 3) (b + 3) (omega arith) (omega arith) (omega arith),
        go 4 (a + 4) (b + 4) (omega arith) (omega arith) (omega arith),
        go 5 (a + 4 + 1) (b + 4 + 1) (omega arith) (omega arith) (omega arith),
        go 6 (a + 4 + 2) (b + 4 + 2) (omega arith) (omega arith) (omega arith),
        go 7 (a + 4 + 3) (b + 4 + 3) (omega arith) (omega arith) (omega arith),
      )
    where
      go : (i x y : ℕ) → i < 8 → x ≡ a + i → y ≡ b + i → get_or s x 0 ≡ get_or t y 0
      go = alike_at a b 8 h

  pub words_same : (n a b : ℕ) → Alike a b (8 * n) → words s a n ≡ words t b n
  unfolding words
  words_same zero a b h = refl
  words_same (suc n) a b h = ap₂ ◌∷◌ (word_same a b (λ i l. h i (omega arith)))
      (words_same n (a + 8) (b + 8) (λ i l. alike_at a b (8 * suc n) h (8 + i) (a + 8 + i) (b + 8 + i) (omega arith) (omega arith) (omega arith)))

pub length-words : (s : List ℕ) (n a : ℕ) → length (words s a n) ≡ n
unfolding words
length-words s zero a = refl
length-words s (suc n) a = ap suc (length-words s n (a + 8))

-- what stands behind a front of a bytes
pub behind : (front z : List ℕ) (a i : ℕ) → length front ≡ a → get_or (front ++ z) (a + i) 0 ≡ get_or z (0 + i) 0
behind front z a i e = ap (λ (k : ℕ). get_or (front ++ z) k 0) {x = a + i} {y = length front + i} (omega arith) ∙ get_or-append-add front z i 0
    ∙ ap (λ (k : ℕ). get_or z k 0) {x = i} {y = 0 + i} (omega arith)

-- numbers below 2^64 are read as they were written, wherever they stand
pub word-behind : (front r : List ℕ) (x a : ℕ) → length front ≡ a → x < 18446744073709551616 → word64 (front ++ (bytes64 x ++ r)) a ≡ x
word-behind front r x a e h = word_same (front ++ (bytes64 x ++ r)) (bytes64 x ++ r) a 0 (λ i l. behind front (bytes64 x ++ r) a i e) ∙ word_bytes x r h

module _ (p : ℕ) (h : p ≤ 18446744073709551616) where
  pub words_bytes : (l r : List ℕ) → is_below p l ≡ true → words (all_bytes l ++ r) 0 (length l) ≡ l
  unfolding words all_bytes is_below
  words_bytes [] r e = refl
  words_bytes (x ∷ l) r e =
      let t = both_true (ltb x p) (is_below p l) e in
      let small : x < p = ltb-true x p t.0 in
      let z : List ℕ = all_bytes l ++ r in
      ap (λ y. words y 0 (suc (length l))) (append_assoc (bytes64 x) (all_bytes l) r)
      ∙ ap₂ ◌∷◌ (word_bytes x z (omega arith)) (words_same (bytes64 x ++ z) z (length l) 8 0 (λ i b. behind (bytes64 x) z 8 i refl) ∙ words_bytes l r t.1)

  pub words_behind : (front l r : List ℕ) (n a : ℕ) → length front ≡ a → length l ≡ n → is_below p l ≡ true → words (front ++ (all_bytes l ++ r)) a n ≡ l
  words_behind front l r n a e m b = ap (words (front ++ (all_bytes l ++ r)) a) (sym m)
      ∙ words_same (front ++ (all_bytes l ++ r)) (all_bytes l ++ r) (length l) a 0 (λ i k. behind front (all_bytes l ++ r) a i e) ∙ words_bytes l r b
