-- What the walk over a scalar's bytes keeps, from the lowest: 3n so far, as what is written and a carry; the ones of 3n xor n; and the place of the highest one of 3n. Gives: how it begins, a turn, and that it ends
-- with the two counts of the non-adjacent form.
use Prim.Native.Nat.{ℕ, suc, ◌+◌, ◌-◌, ◌*◌, ◌/◌, ◌%◌, ◌^◌, ◌≤◌, ◌<◌}
use mathlib.Core.Path.{◌≡◌, refl, sym, ap, ap₂, ◌∙◌, subst}
use mathlib.Core.Logic.{◌⊎◌, inl, inr}
use mathlib.Core.List.{List}
use native.Mathlib.Omega.{arith}
use native.Mathlib.Nat.{mul-le-mul_right, eq-zero-or-pos, mod-lt, mod-eq_of_lt, mod-one, pow-suc}
use lib.ListN.{length, get_or}
use lib.Pow.{pow_pos, pow-add, mod-pow-add}
use lib.Bits.{bit_xor, xor_block, xor_lt, xor_zero_r}
use lib.Count.{ones, ones_cat, ones-le, count_leading_zeros, leading_top}
use Rattle.rules.specs.Bytes.{number}
use Rattle.rules.proofs.Calls.Bytes.{AreBytes}
use Rattle.rules.specs.Signed.Digits.{nonzeros, recode}
use Rattle.rules.proofs.Signed.Unique.{recode-zero}
use Rattle.scalar.specs.Recoded.{Risen}
use Rattle.scalar.proofs.Bytes.{byte_is, below}
use Rattle.rules.proofs.Signed.Ones.{recode_ones, recode-places}

-- ---- the place of the highest one of x; 0 where x is 0
pub record Top (x m : ℕ) : Type 0 where
  pub none : x ≡ 0 → m ≡ 0
  pub low : 0 < x → 2 ^ m ≤ x
  pub high : x < 2 ^ suc m

-- a number other than 0 has a one
pub leading_most : (t : ℕ) → 0 < t → t < 65536 → count_leading_zeros 16 t ≤ 15
leading_most t p w = omega (arith, (leading_top 16 t p w).1)

-- bytes have at most 8 ones
pub few_ones : (x b : ℕ) → b < 256 → ones (bit_xor (x % 256) b) ≤ 8
few_ones x b l = ones-le 8 (bit_xor (x % 256) b) (xor_lt 8 (x % 256) b (omega arith) l)

pub few_carried : (carry : ℕ) → carry ≤ 2 → ones carry ≤ 8
few_carried carry l = ones-le 8 carry (omega arith)

-- of t above k digits l, 0 < t
top_above : (t k l m : ℕ) → 0 < t → t < 2 ^ 16 → l < 2 ^ k → m + count_leading_zeros 16 t ≡ k + 15 → Top (t * 2 ^ k + l) m
top_above t k l m p w h e = go (leading_top 16 t p w)
  where
    go : (j : ℕ) × (count_leading_zeros 16 t + suc j ≡ 16) × (2 ^ j ≤ t) × (t < 2 ^ suc j) → Top (t * 2 ^ k + l) m
    go (j, a, b, c) = record {
      none = λ z. absurd (omega (arith, z, lower, pow_pos k, pow_pos m, power));
      low = λ z. omega (arith, lower, power);
      high = omega (arith, upper, h, power, pow-suc 2 m, pow-suc 2 j, next);
    }
      where
        place : m ≡ j + k
        place = omega (arith, a, e)

        power : 2 ^ m ≡ 2 ^ j * 2 ^ k
        power = ap (λ (i : ℕ). 2 ^ i) place ∙ pow-add 2 j k

        lower : 2 ^ j * 2 ^ k ≤ t * 2 ^ k
        lower = mul-le-mul_right (2 ^ k) b

        upper : suc t * 2 ^ k ≤ 2 ^ suc j * 2 ^ k
        upper = mul-le-mul_right (2 ^ k) c

        next : 2 ^ suc j * 2 ^ k ≡ 2 ^ j * 2 ^ k * 2
        next = ap (λ (x : ℕ). x * 2 ^ k) (pow-suc 2 j) ∙ omega arith

-- ---- the lowest k digits of n read
pub record Counting (n k carry size found : ℕ) : Type 0 where
  pub written : ℕ
  pub small : written < 2 ^ k
  pub carried : carry ≤ 2
  pub thrice : 3 * (n % 2 ^ k) ≡ carry * 2 ^ k + written
  pub top : Top (3 * (n % 2 ^ k)) size
  pub found_is : found ≡ ones (bit_xor written (n % 2 ^ k))
  pub found_most : found ≤ k

nothing : (n : ℕ) → n % 2 ^ 0 ≡ 0
nothing n = mod-one n

begin : (n : ℕ) → Counting n 0 0 0 0
unfolding ones
begin n = record {
  written = 0;
  small = omega arith;
  carried = omega arith;
  thrice = omega (arith, nothing n);
  top = record { none = λ z. refl; low = λ z. absurd (omega (arith, z, nothing n)); high = omega (arith, nothing n) };
  found_is = sym (ap (λ (x : ℕ). ones (bit_xor 0 x)) (nothing n));
  found_most = omega arith;
}

module _ (n k carry size found : ℕ) (h : Counting n k carry size found) (b : ℕ) (eb : b ≡ n / 2 ^ k % 256) where
  abbrev low : ℕ
  low = h.written

  abbrev t : ℕ
  t = 3 * b + carry

  byte : b < 256
  byte = omega (arith, eb)

  more : n % 2 ^ (8 + k) ≡ b * 2 ^ k + n % 2 ^ k
  more = mod-pow-add n 8 k ∙ ap (λ (x : ℕ). x * 2 ^ k + n % 2 ^ k) (sym eb)

  rest : n % 2 ^ k < 2 ^ k
  rest = mod-lt n (pow_pos k)

  wider : 2 ^ (8 + k) ≡ 256 * 2 ^ k
  wider = pow-add 2 8 k

  -- 3n by t, and by the byte and the carry that t comes to
  by_t : 3 * (n % 2 ^ (8 + k)) ≡ t * 2 ^ k + low
  by_t = omega (arith, ap (λ (x : ℕ). 3 * x) more, h.thrice)

  parts : t * 2 ^ k ≡ t / 256 * 2 ^ (8 + k) + t % 256 * 2 ^ k
  parts = ap (λ (x : ℕ). x * 2 ^ k) {x = t} {y = t / 256 * 256 + t % 256} (omega arith) ∙ omega (arith, ap (λ (x : ℕ). t / 256 * x) wider)

  size' : (r : ℕ) → Risen size k t r → (t ≡ 0) ⊎ (0 < t) → Top (3 * (n % 2 ^ (8 + k))) r
  size' r g (inl z) = subst (λ (x : ℕ). Top x r) (sym same) (subst (Top (3 * (n % 2 ^ k))) (sym (g.none z)) h.top)
    where
      same : 3 * (n % 2 ^ (8 + k)) ≡ 3 * (n % 2 ^ k)
      same = by_t ∙ ap (λ (x : ℕ). x * 2 ^ k + low) z ∙ sym (h.thrice ∙ ap (λ (x : ℕ). x * 2 ^ k + low) {x = carry} {y = 0} (omega (arith, z)))
  size' r g (inr p) = subst (λ (x : ℕ). Top x r) (sym by_t) (top_above t k low r p (omega (arith, byte, h.carried)) h.small (g.some p))

  found' : found + ones (bit_xor (t % 256) b) ≡ ones (bit_xor (t % 256 * 2 ^ k + low) (n % 2 ^ (8 + k)))
  found' = sym (ap (λ (x : ℕ). ones (bit_xor (t % 256 * 2 ^ k + low) x)) more ∙ ap ones (xor_block k (t % 256) b low (n % 2 ^ k) h.small rest)
      ∙ ones_cat k (bit_xor (t % 256) b) (bit_xor low (n % 2 ^ k)) (xor_lt k low (n % 2 ^ k) h.small rest) ∙ omega (arith, h.found_is))

  most : ones (bit_xor (t % 256) b) ≤ 8
  most = few_ones t b byte

  room : t % 256 * 2 ^ k + low < 2 ^ (8 + k)
  room = omega (arith, wider, h.small, mul-le-mul_right {m = t % 256} {n = 255} (2 ^ k) (omega arith))

  turn : (r : ℕ) → Risen size k t r → Counting n (8 + k) (t / 256) r (found + ones (bit_xor (t % 256) b))
  turn r g = record {
    written = t % 256 * 2 ^ k + low;
    small = room;
    carried = omega (arith, byte, h.carried);
    thrice = omega (arith, by_t, parts);
    top = size' r g (eq-zero-or-pos t);
    found_is = found';
    found_most = omega (arith, h.found_most, most);
  }

-- ---- all read
module _ (n k carry size found : ℕ) (h : Counting n k carry size found) (below : n < 2 ^ k) where
  whole : n % 2 ^ k ≡ n
  whole = mod-eq_of_lt below

  ends_ones : found + ones carry ≡ nonzeros (recode n)
  ends_ones = sym (recode_ones n ∙ ap₂ (λ (x y : ℕ). ones (bit_xor x y)) three none
      ∙ ap ones (xor_block k carry 0 h.written n h.small below) ∙ ones_cat k (bit_xor carry 0) (bit_xor h.written n) (xor_lt k h.written n h.small below)
      ∙ ap₂ (λ (x y : ℕ). ones x + y) (xor_zero_r carry) (sym (h.found_is ∙ ap (λ (x : ℕ). ones (bit_xor h.written x)) whole)) ∙ omega arith)
    where
      three : 3 * n ≡ carry * 2 ^ k + h.written
      three = ap (λ (x : ℕ). 3 * x) (sym whole) ∙ h.thrice

      none : n ≡ 0 * 2 ^ k + n
      none = omega arith

  top_whole : Top (3 * n) size
  top_whole = subst (λ (x : ℕ). Top (3 * x) size) whole h.top

  ends_length : size ≡ length (recode n)
  ends_length = go (eq-zero-or-pos n)
    where
      go : (n ≡ 0) ⊎ (0 < n) → size ≡ length (recode n)
      go (inl z) = top_whole.none (omega (arith, z)) ∙ sym (ap (λ (m : ℕ). length (recode m)) z ∙ ap length recode-zero)
      go (inr p) = sym (recode-places n size p (top_whole.low (omega arith)) top_whole.high)

-- ---- of a scalar, the lowest j bytes read
module _ (s : List ℕ) where
  pub record Reading (carry size found j : ℕ) : Type 0 where
    pub place : j ≤ length s
    pub counting : Counting (number s) (j * 8) carry size found

  pub reading_begins : Reading 0 0 0 0
  reading_begins = record { place = omega arith; counting = begin (number s) }

  module _ (bytes : AreBytes s) (carry size found j : ℕ) (h : Reading carry size found j) where
    abbrev b : ℕ
    b = get_or s (length s - 1 - j) 0

    pub reading_turns : j < length s → (r : ℕ) → Risen size (8 * j) (3 * b + carry) r → Reading ((3 * b + carry) / 256) r (found + ones (bit_xor ((3 * b + carry) % 256) b)) (j + 1)
    reading_turns l r g =
        let k : ℕ = j * 8 in
        let eb : b ≡ number s / 2 ^ k % 256 = byte_is s bytes j (length s - 1 - j) (omega arith) in
        let g' : Risen size k (3 * b + carry) r = subst (λ (i : ℕ). Risen size i (3 * b + carry) r) {x = 8 * j} {y = k} (omega arith) g in
        record {
          place = omega arith;
          counting = subst (λ (i : ℕ). Counting (number s) i ((3 * b + carry) / 256) r (found + ones (bit_xor ((3 * b + carry) % 256) b))) {x = 8 + k} {y = (j + 1) * 8} (omega arith)
              (turn (number s) k carry size found h.counting b eb r g');
        }

    pub reading_ends : length s ≤ j → (size ≡ length (recode (number s))) × (found + ones carry ≡ nonzeros (recode (number s)))
    reading_ends l =
        let below' : number s < 2 ^ (j * 8) = subst (λ (k : ℕ). number s < 2 ^ k) {x = length s * 8} {y = j * 8} (omega (arith, h.place)) (below s bytes) in
        (ends_length (number s) (j * 8) carry size found h.counting below', ends_ones (number s) (j * 8) carry size found h.counting below')
