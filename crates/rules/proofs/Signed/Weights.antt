-- Weights without signs: what the digits 1 of a string weigh (`ups`) and what its digits -1 weigh (`downs`), each a natural number. Gives: the string weighs the one less the other
-- (`weight_is`); so it weighs n exactly where `ups l` is n + `downs l` (`Weighs`).
-- Open: all but the laws.
use Prim.Native.Nat.{ℕ, ◌+◌, ◌*◌}
use mathlib.Core.Path.{◌≡◌, refl, sym, ap, ap₂, ◌∙◌}
use mathlib.Core.List.{List, [], ◌∷◌}
use native.Mathlib.Omega.{arith}
use lib.IntN.{ℤ, pos, negsuc, neg_ℤ, nat_abs, ◌+ℤ◌, +ℤ_idl, +ℤ_assoc, +ℤ_comm, +ℤ_invl, pos-+ℤ-pos}
use Rattle.rules.specs.Signed.Digits.{Digit, minus, null, plus, weight}

abbrev pub ups : List Digit → ℕ
ups [] = 0
ups (minus ∷ l) = 2 * ups l
ups (null ∷ l) = 2 * ups l
ups (plus ∷ l) = 2 * ups l + 1

abbrev pub downs : List Digit → ℕ
downs [] = 0
downs (minus ∷ l) = 2 * downs l + 1
downs (null ∷ l) = 2 * downs l
downs (plus ∷ l) = 2 * downs l

abbrev pub Weighs : List Digit → ℕ → Type 0
Weighs l n = ups l ≡ n + downs l

left_comm : (a b c : ℤ) → a +ℤ (b +ℤ c) ≡ b +ℤ (a +ℤ c)
left_comm a b c = sym (+ℤ_assoc a b c) ∙ ap (λ (t : ℤ). t +ℤ c) (+ℤ_comm a b) ∙ +ℤ_assoc b a c

-- what comes of one digit more, on either side
both : (e f : ℕ) (v w : ℤ) (d u : ℕ) → pos e +ℤ v ≡ pos f → pos d +ℤ w ≡ pos u → pos (2 * d + e) +ℤ (v +ℤ (w +ℤ w)) ≡ pos (2 * u + f)
both e f v w d u h k = ap (λ (t : ℤ). t +ℤ (v +ℤ (w +ℤ w))) (parts d e) ∙ sort (pos d) (pos e) v w ∙ ap₂ (λ (s t : ℤ). s +ℤ s +ℤ t) k h ∙ sym (parts u f)
  where
    parts : (m r : ℕ) → pos (2 * m + r) ≡ pos m +ℤ pos m +ℤ pos r
    parts m r = ap pos {x = 2 * m + r} {y = m + m + r} (omega arith) ∙ sym (pos-+ℤ-pos (m + m) r) ∙ ap (λ (t : ℤ). t +ℤ pos r) (sym (pos-+ℤ-pos m m))

    sort : (a b c x : ℤ) → a +ℤ a +ℤ b +ℤ (c +ℤ (x +ℤ x)) ≡ (a +ℤ x) +ℤ (a +ℤ x) +ℤ (b +ℤ c)
    sort a b c x = simp (+ℤ_assoc, +ℤ_comm, left_comm)

pub weight_is : (l : List Digit) → pos (downs l) +ℤ weight l ≡ pos (ups l)
weight_is [] = refl
weight_is (minus ∷ l) = both 1 0 (negsuc 0) (weight l) (downs l) (ups l) refl (weight_is l) ∙ ap pos {x = 2 * ups l + 0} {y = 2 * ups l} (omega arith)
weight_is (null ∷ l) = ap (λ (k : ℕ). pos k +ℤ weight (null ∷ l)) {x = 2 * downs l} {y = 2 * downs l + 0} (omega arith) ∙ both 0 0 (pos 0) (weight l) (downs l) (ups l) refl (weight_is l) ∙ ap pos {x = 2 * ups l + 0} {y = 2 * ups l} (omega arith)
weight_is (plus ∷ l) = ap (λ (k : ℕ). pos k +ℤ weight (plus ∷ l)) {x = 2 * downs l} {y = 2 * downs l + 0} (omega arith) ∙ both 0 1 (pos 1) (weight l) (downs l) (ups l) refl (weight_is l)

cancel : (a b c : ℤ) → a +ℤ b ≡ a +ℤ c → b ≡ c
cancel a b c h = back b ∙ ap (λ (t : ℤ). neg_ℤ a +ℤ t) h ∙ sym (back c)
  where
    back : (x : ℤ) → x ≡ neg_ℤ a +ℤ (a +ℤ x)
    back x = sym (+ℤ_idl x) ∙ ap (λ (t : ℤ). t +ℤ x) (sym (+ℤ_invl a)) ∙ +ℤ_assoc (neg_ℤ a) a x

pub weighs-weight : (l : List Digit) (n : ℕ) → Weighs l n → weight l ≡ pos n
weighs-weight l n h = cancel (pos (downs l)) (weight l) (pos n) (weight_is l ∙ ap pos {x = ups l} {y = downs l + n} (omega arith) ∙ sym (pos-+ℤ-pos (downs l) n))

-- two strings of one weight
pub same_weight : (l m : List Digit) → weight l ≡ weight m → ups l + downs m ≡ ups m + downs l
same_weight l m h = ap nat_abs (sym (pos-+ℤ-pos (ups l) (downs m)) ∙ ap (λ (t : ℤ). t +ℤ pos (downs m)) (sym (weight_is l) ∙ ap (λ (t : ℤ). pos (downs l) +ℤ t) h)
    ∙ turn (pos (downs l)) (weight m) (pos (downs m)) ∙ ap (λ (t : ℤ). t +ℤ pos (downs l)) (weight_is m) ∙ pos-+ℤ-pos (ups m) (downs l))
  where
    turn : (a b c : ℤ) → a +ℤ b +ℤ c ≡ c +ℤ b +ℤ a
    turn a b c = ap (λ (t : ℤ). t +ℤ c) (+ℤ_comm a b) ∙ +ℤ_comm (b +ℤ a) c ∙ sym (+ℤ_assoc c b a)
