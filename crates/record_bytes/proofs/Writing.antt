-- Numbers written one after the other: what `sets` does with one list after another, and the loops that write.
use Prim.Native.Nat.{ℕ, suc, ◌+◌, ◌-◌, ◌*◌, ◌≤◌, ◌<◌}
use mathlib.Core.Path.{◌≡◌, refl, sym, ap, ◌∙◌}
use mathlib.Core.List.{List, [], ◌∷◌, ◌++◌, append-nil, append_assoc}
use native.Mathlib.Omega.{arith}
use borrow.Rule.Slice.PartMut.{put_mid, Post-is}
use lib.ListN.{length, get_or, set, take, drop}
use lib.Seq.{sets, sets-eq, take-suc, length-take-le}
use Rattle.rules.specs.Bytes.{bytes64, all_bytes}
use Rattle.rules.proofs.Calls.Bytes.{length-bytes}

pub sets_append : (l x y : List ℕ) (i j : ℕ) → j ≡ i + length x → sets l i (x ++ y) ≡ sets (sets l i x) j y
sets_append l [] y i j e = ap (λ (k : ℕ). sets l k y) (omega arith)
sets_append l (a ∷ x) y i j e = sets_append (set l i a) x y (suc i) j (omega arith)

pub all_append : (l m : List ℕ) → all_bytes (l ++ m) ≡ all_bytes l ++ all_bytes m
unfolding all_bytes
all_append [] m = refl
all_append (x ∷ l) m = ap (λ t. bytes64 x ++ t) (all_append l m) ∙ sym (append_assoc (bytes64 x) (all_bytes l) (all_bytes m))

-- one number more
module _ (out : List ℕ) (a : ℕ) (x : List ℕ) (k : ℕ) (h : k < length x) where
  pub write_more : sets (sets out a (all_bytes (take k x))) (a + 8 * k) (bytes64 (get_or x k 0)) ≡ sets out a (all_bytes (take (k + 1) x))
  unfolding all_bytes
  write_more = sym (ap (λ l. sets out a (all_bytes l)) one
      ∙ ap (sets out a) (all_append (take k x) (get_or x k 0 ∷ []) ∙ ap (λ t. all_bytes (take k x) ++ t) (append-nil (bytes64 (get_or x k 0))))
      ∙ sets_append out (all_bytes (take k x)) (bytes64 (get_or x k 0)) a (a + 8 * k) (omega (arith, length-bytes (take k x), length-take-le k x (omega arith))))
    where
      one : take (k + 1) x ≡ take k x ++ (get_or x k 0 ∷ [])
      one = ap (λ (n : ℕ). take n x) {x = k + 1} {y = suc k} (omega arith) ∙ take-suc x k 0 h

-- a part of the output written over
pub part_written : (out s : List ℕ) (a : ℕ) {part : List ℕ} → part ≡ s → a + length s ≤ length out → put_mid a (a + length s - a) out part ≡ sets out a s
part_written out s a e h = ap (put_mid a (a + length s - a) out) e ∙ ap (λ l. take a out ++ (s ++ l)) (Post-is a (a + length s) out (omega arith))
    ∙ sym (append_assoc (take a out) s (drop (a + length s) out)) ∙ sym (sets-eq s out a h)

-- one byte more of s
pub put-more : (out s : List ℕ) (a k : ℕ) → k < length s → set (sets out a (take k s)) (a + k) (get_or s k 0) ≡ sets out a (take (k + 1) s)
put-more out s a k h = sym (ap (sets out a) one ∙ sets_append out (take k s) (get_or s k 0 ∷ []) a (a + k) (omega (arith, length-take-le k s (omega arith))))
  where
    one : take (k + 1) s ≡ take k s ++ (get_or s k 0 ∷ [])
    one = ap (λ (n : ℕ). take n s) {x = k + 1} {y = suc k} (omega arith) ∙ take-suc s k 0 h
