-- Numbers by their bytes, from the highest on. Gives: what the loops over the bytes keep: bytes copied behind zeros (`Copied`), a number
-- looked at up to its first nonzero byte (`Capping`), a number divided (`Dividing`); and so their results.
use Prim.Native.Nat.{ℕ, zero, suc, ◌+◌, ◌*◌, ◌/◌, ◌%◌, ◌≤◌, ◌<◌}
use mathlib.Core.Path.{◌≡◌, refl, sym, ap, ◌∙◌}
use mathlib.Core.List.{List, [], ◌∷◌, foldl, foldl-append}
use native.Mathlib.Numerals.{add-one}
use native.Mathlib.Omega.{arith}
use native.Mathlib.Nat.{div-add-mod, mod-lt, div-lt_iff_lt-mul, mul-add-div, mul-add-mod_self_left, mod-eq_of_lt, div-eq_of_lt}
use lib.ListN.{length, take, drop, get_or, set, replicate, length-set}
use lib.Seq.{take-suc-set, take_all, split_at}
use Rattle.std.specs.Prelude.{Some, None}
use Rattle.rules.specs.Bytes.{number}
use Rattle.rules.proofs.Calls.Bytes.{number_more}
use Rattle.scalar.specs.numbers.Numbers.{Capped, DividedBy}

-- ---- one byte more
abbrev step : ℕ → ℕ → ℕ
step n b = 256 * n + b

number_put : (n : List ℕ) (k b : ℕ) → k < length n → number (take (k + 1) (set n k b)) ≡ 256 * number (take k n) + b
unfolding number
number_put n k b l = ap (λ i. number (take i (set n k b))) (add-one k) ∙ ap number (take-suc-set n k b l) ∙ foldl-append step 0 (take k n) (b ∷ [])

number_all : (n : List ℕ) (k : ℕ) → length n ≤ k → number (take k n) ≡ number n
number_all n k l = ap number (take_all k n l)

number-none : (s : List ℕ) → number (take 0 s) ≡ 0
unfolding number
number-none s = refl

-- ---- zeros in front
zeros : (k n : ℕ) → number (take k (replicate n 0)) ≡ 0
unfolding number
zeros zero n = refl
zeros (suc k) zero = refl
zeros (suc k) (suc n) = zeros k n

pub record Copied (s n : List ℕ) (from k : ℕ) : Type 0 where
  pub within : k ≤ length s
  pub room : length n ≡ 32
  pub is : number (take (from + k) n) ≡ number (take k s)

pub copy_begin : (s : List ℕ) (from : ℕ) → Copied s (replicate 32 0) from 0
copy_begin s from = record { within = omega arith; room = refl; is = zeros (from + 0) 32 ∙ sym (number-none s) }

module _ (s n : List ℕ) (from k : ℕ) (h : Copied s n from k) (e : from + length s ≡ 32) where
  pub copy_turn : k < length s → Copied s (set n (from + k) (get_or s k 0)) from (k + 1)
  copy_turn l = record {
    within = omega arith;
    room = length-set n (from + k) (get_or s k 0) ∙ h.room;
    is = ap (λ (i : ℕ). number (take i (set n (from + k) (get_or s k 0)))) {x = from + (k + 1)} {y = from + k + 1} (omega arith)
        ∙ number_put n (from + k) (get_or s k 0) (omega (arith, h.room)) ∙ ap (λ (i : ℕ). 256 * i + get_or s k 0) h.is ∙ sym (number_more s k l);
  }

  pub copy_end : length s ≤ k → number n ≡ number s
  copy_end l = sym (number_all n (from + k) (omega (arith, h.room))) ∙ h.is ∙ number_all s k l

-- ---- up to the first byte other than 0
pub record Capping (n : List ℕ) (t k : ℕ) : Type 0 where
  pub within : k ≤ 32
  pub byte : t < 256
  pub is : number (take k n) ≡ t

pub capping_begin : (n : List ℕ) → Capping n 0 0
capping_begin n = record { within = omega arith; byte = omega arith; is = number-none n }

grows : (a : ℕ) (l : List ℕ) → a ≤ foldl step a l
grows a [] = omega arith
grows a (b ∷ l) = omega (arith, grows (256 * a + b) l)

large : (n : List ℕ) (k : ℕ) → k < length n → 0 < number (take k n) → 256 ≤ number n
unfolding number
large n k l some = omega (
  arith,
  grows (256 * number (take k n) + get_or n k 0) (drop (suc k) n),
  ap number (split_at n k 0 l) ∙ foldl-append step 0 (take k n) (get_or n k 0 ∷ drop (suc k) n),
)

module _ (n : List ℕ) (room : length n ≡ 32) (t k : ℕ) (h : Capping n t k) where
  pub capping_stop : k < 32 → (t ≡ 0 → ⊥) → Capped (number n) None
  capping_stop l some = large n k (omega arith) (omega (arith, h.is))

  pub capping_turn : k < 32 → t ≡ 0 → (b : ℕ) → b ≡ get_or n k 0 → b < 256 → Capping n b (k + 1)
  capping_turn l z b e less = record { within = omega arith; byte = less; is = number_more n k (omega arith) ∙ omega (arith, h.is, z, e) }

  pub capping_end : 32 ≤ k → Capped (number n) (Some t)
  capping_end l = (sym h.is ∙ number_all n k (omega arith), h.byte)

-- ---- divided
pub record Dividing (n : List ℕ) (q : ℕ) (out : List ℕ) (left k : ℕ) : Type 0 where
  pub within : k ≤ 32
  pub room : length out ≡ 32
  pub less : left < q
  pub is : number (take k n) ≡ q * number (take k out) + left

pub dividing_begin : (n : List ℕ) (q : ℕ) → 0 < q → Dividing n q (replicate 32 0) 0 0
dividing_begin n q l = record { within = omega arith; room = refl; less = l; is = number-none n ∙ omega (arith, ap (λ (x : ℕ). q * x) (number-none (replicate 32 0))) }

-- the byte that a quotient goes on with
pub next_byte : (q left b : ℕ) → left < q → b < 256 → (left * 256 + b) / q < 256
next_byte q left b l h = (div-lt_iff_lt-mul {k = q} {x = left * 256 + b} {y = 256} (omega arith)).1 (omega arith)

module _ (n : List ℕ) (q : ℕ) (out : List ℕ) (left k : ℕ) (h : Dividing n q out left k) (room : length n ≡ 32) where
  pub dividing_turn : k < 32 → (b : ℕ) → b ≡ get_or n k 0 → Dividing n q (set out k ((left * 256 + b) / q)) ((left * 256 + b) % q) (k + 1)
  dividing_turn l b e = let t : ℕ = left * 256 + b in record {
    within = omega arith;
    room = length-set out k (t / q) ∙ h.room;
    less = mod-lt t (omega (arith, h.less));
    is = number_more n k (omega arith) ∙ omega (arith, h.is, div-add-mod t q, e, ap (λ (x : ℕ). q * x) (number_put out k (t / q) (omega (arith, h.room))));
  }

  pub dividing_end : 32 ≤ k → DividedBy (number n) q (record { quotient = out; remainder = left })
  dividing_end l = record { is = sym quotient; left = sym rest; room = h.room }
    where
      all : number n ≡ q * number out + left
      all = sym (number_all n k (omega arith)) ∙ h.is ∙ ap (λ (x : ℕ). q * x + left) (number_all out k (omega (arith, h.room)))

      quotient : number n / q ≡ number out
      quotient = ap (λ (x : ℕ). x / q) all ∙ mul-add-div {m = q} (omega (arith, h.less)) (number out) left ∙ omega (arith, div-eq_of_lt h.less)

      rest : number n % q ≡ left
      rest = ap (λ (x : ℕ). x % q) all ∙ mul-add-mod_self_left q (number out) left ∙ mod-eq_of_lt h.less
