-- The order of rows of numbers. Gives: no row is below itself (`lower_not`), the order goes on (`lower_trans`); rows with the same front, or with fronts in order; rows of bytes are in the order of their numbers (`number_lower`), and so
-- rows of numbers below 2^64 are in the order of their bytes (`bytes_lower`).
use Prim.Native.Nat.{ℕ, ◌+◌, ◌*◌, ◌<◌}
use mathlib.Core.Path.{◌≡◌, refl, sym, ◌∙◌, subst}
use mathlib.Core.List.{List, [], ◌∷◌, ◌++◌, foldl}
use mathlib.Core.Logic.{◌⊎◌, inl, inr}
use native.Mathlib.Decide.{dec_lt}
use native.Mathlib.Omega.{arith}
use lib.ListN.{length}
use Rattle.rules.specs.Bytes.{number, word64, bytes64, all_bytes}
use Rattle.rules.proofs.Calls.Bytes.{word_bytes}
use Rattle.rules.specs.Census.{Lower}
use Rattle.rules.proofs.Census.Rising.{All}

pub lower_not : (l : List ℕ) → Lower l l → ⊥
unfolding Lower
lower_not [] h = h
lower_not (x ∷ l) (inl h) = omega arith
lower_not (x ∷ l) (inr h) = lower_not l h.1

pub lower_trans : (l m n : List ℕ) → Lower l m → Lower m n → Lower l n
unfolding Lower
lower_trans [] [] n h k = absurd h
lower_trans [] (y ∷ m) [] h k = absurd k
lower_trans [] (y ∷ m) (z ∷ n) h k = tt
lower_trans (x ∷ l) [] n h k = absurd h
lower_trans (x ∷ l) (y ∷ m) [] h k = absurd k
lower_trans (x ∷ l) (y ∷ m) (z ∷ n) (inl h) (inl k) = inl (omega arith)
lower_trans (x ∷ l) (y ∷ m) (z ∷ n) (inl h) (inr k) = inl (omega arith)
lower_trans (x ∷ l) (y ∷ m) (z ∷ n) (inr h) (inl k) = inl (omega arith)
lower_trans (x ∷ l) (y ∷ m) (z ∷ n) (inr h) (inr k) = inr (h.0 ∙ k.0, lower_trans l m n h.1 k.1)

pub lower_behind : (a l m : List ℕ) → Lower l m → Lower (a ++ l) (a ++ m)
unfolding Lower
lower_behind [] l m h = h
lower_behind (x ∷ a) l m h = inr (refl, lower_behind a l m h)

pub lower_front : (a b l m : List ℕ) → length a ≡ length b → Lower a b → Lower (a ++ l) (b ++ m)
unfolding Lower
lower_front [] [] l m e h = absurd h
lower_front [] (y ∷ b) l m e h = absurd (omega arith)
lower_front (x ∷ a) [] l m e h = absurd h
lower_front (x ∷ a) (y ∷ b) l m e (inl h) = inl h
lower_front (x ∷ a) (y ∷ b) l m e (inr h) = inr (h.0, lower_front a b l m (omega arith) h.1)

-- ---- bytes and their number
abbrev from : ℕ → List ℕ → ℕ
from n s = foldl (λ (n b : ℕ). 256 * n + b) n s

more : (l m : List ℕ) (a b : ℕ) → length l ≡ length m → All (λ x. x < 256) l → a < b → from a l < from b m
more [] [] a b e h k = k
more [] (y ∷ m) a b e h k = absurd (omega arith)
more (x ∷ l) [] a b e h k = absurd (omega arith)
more (x ∷ l) (y ∷ m) a b e h k = more l m (256 * a + x) (256 * b + y) (omega arith) h.1 (omega (arith, h.0))

from_lower : (l m : List ℕ) (a : ℕ) → length l ≡ length m → All (λ x. x < 256) l → All (λ x. x < 256) m → from a l < from a m → Lower l m
unfolding Lower
from_lower [] [] a e h k u = omega arith
from_lower [] (y ∷ m) a e h k u = absurd (omega arith)
from_lower (x ∷ l) [] a e h k u = absurd (omega arith)
from_lower (x ∷ l) (y ∷ m) a e h k u = go (dec_lt x y) (dec_lt y x) (λ q. from_lower l m (256 * a + x) (omega arith) h.1 k.1 (subst (λ t. from (256 * a + x) l < from (256 * a + t) m) (sym q) u))
  where
    go : Dec (x < y) → Dec (y < x) → (x ≡ y → Lower l m) → (x < y) ⊎ ((x ≡ y) × Lower l m)
    go (yes b) d rec = inl b
    go (no b) (yes d) rec = absurd (omega (arith, u, more m l (256 * a + y) (256 * a + x) (omega arith) k.1 (omega arith)))
    go (no b) (no d) rec = let q : x ≡ y = omega arith in inr (q, rec q)

pub number_lower : (l m : List ℕ) → length l ≡ length m → All (λ x. x < 256) l → All (λ x. x < 256) m → number l < number m → Lower l m
unfolding number
number_lower l m e h k u = from_lower l m 0 e h k u

eight : (a b c d e f g h : ℕ) → number (a ∷ b ∷ c ∷ d ∷ e ∷ f ∷ g ∷ h ∷ []) ≡ word64 (a ∷ b ∷ c ∷ d ∷ e ∷ f ∷ g ∷ h ∷ []) 0
unfolding number word64
eight a b c d e f g h = omega arith

number-bytes : (x : ℕ) → x < 18446744073709551616 → number (bytes64 x) ≡ x
unfolding bytes64
number-bytes x u = eight _ _ _ _ _ _ _ _ ∙ word_bytes x [] u

low : (x : ℕ) → All (λ b. b < 256) (bytes64 x)
unfolding bytes64
low x = (omega arith, (omega arith, (omega arith, (omega arith, (omega arith, (omega arith, (omega arith, (omega arith, tt))))))))

same_size : (x y : ℕ) → length (bytes64 x) ≡ length (bytes64 y)
unfolding bytes64
same_size x y = refl

pub bytes_lower : (l m : List ℕ) → length l ≡ length m → All (λ x. x < 18446744073709551616) l → All (λ x. x < 18446744073709551616) m → Lower l m → Lower (all_bytes l) (all_bytes m)
unfolding Lower all_bytes
bytes_lower [] [] e h k u = absurd u
bytes_lower [] (y ∷ m) e h k u = absurd (omega arith)
bytes_lower (x ∷ l) [] e h k u = absurd u
bytes_lower (x ∷ l) (y ∷ m) e h k (inl u) = lower_front (bytes64 x) (bytes64 y) (all_bytes l) (all_bytes m) (same_size x y)
    (number_lower (bytes64 x) (bytes64 y) (same_size x y) (low x) (low y) (omega (arith, number-bytes x h.0, number-bytes y k.0)))
bytes_lower (x ∷ l) (y ∷ m) e h k (inr u) = subst (λ t. Lower (bytes64 x ++ all_bytes l) (bytes64 t ++ all_bytes m)) u.0 (lower_behind (bytes64 x) (all_bytes l) (all_bytes m) (bytes_lower l m (omega arith) h.1 k.1 u.1))
