-- A scalar by its bytes, in order. Gives: bit k of the whole number is bit k % 8 of the byte that is k / 8 bytes from the end (`bit_is`; a whole byte: `byte_is`), and 0 where there is no such byte (`bit_above`); how large the
-- number can be (`below`).
use Prim.Native.Nat.{ℕ, zero, suc, ◌+◌, ◌-◌, ◌*◌, ◌/◌, ◌%◌, ◌^◌, ◌≤◌, ◌<◌}
use mathlib.Core.Path.{◌≡◌, sym, ap, ◌∙◌}
use mathlib.Core.List.{List}
use native.Mathlib.Omega.{arith}
use native.Mathlib.Nat.{mod-lt, div-one, div-add-mod, zero-div, div-lt_iff_lt-mul}
use lib.ListN.{length, take, get_or}
use lib.Seq.{take-length}
use lib.Pow.{pow_pos, shr-shr, high, low}
use lib.Bits.{block_half, block_odd}
use Rattle.rules.specs.Bytes.{number}
use Rattle.rules.proofs.Calls.Bytes.{AreBytes, number_more}

-- ---- the bits below a block
bit_below : (w r a b : ℕ) → r < w → (a * 2 ^ w + b) / 2 ^ r % 2 ≡ b / 2 ^ r % 2
bit_below zero r a b l = absurd (omega arith)
bit_below (suc w) zero a b l = ap (λ n. n % 2) (div-one (a * 2 ^ suc w + b)) ∙ block_odd a w b ∙ ap (λ n. n % 2) (sym (div-one b))
bit_below (suc w) (suc r) a b l = ap (λ n. n % 2) (lower (a * 2 ^ suc w + b) ∙ ap (λ n. n / 2 ^ r) (block_half a w b)) ∙ bit_below w r a (b / 2) (omega arith) ∙ ap (λ n. n % 2) (sym (lower b))
  where
    lower : (n : ℕ) → n / 2 ^ suc r ≡ n / 2 / 2 ^ r
    lower n = ap (λ k. n / 2 ^ k) {x = suc r} {y = 1 + r} (omega arith) ∙ sym (shr-shr n 1 r)

module _ (s : List ℕ) where
  -- ---- one byte more, in bits
  more_bits : (i : ℕ) → i < length s → number (take (i + 1) s) ≡ number (take i s) * 2 ^ 8 + get_or s i 0
  more_bits i l = omega (arith, number_more s i l)

  number_all : number (take (length s) s) ≡ number s
  number_all = ap number (take-length s)

  module _ (bytes : AreBytes s) where
    -- ---- the last j bytes taken off
    front : (j : ℕ) → j ≤ length s → number s / 2 ^ (j * 8) ≡ number (take (length s - j) s)
    front zero l = div-one (number s) ∙ sym number_all ∙ ap (λ k. number (take k s)) {x = length s} {y = length s - 0} (omega arith)
    front (suc j) l = ap (λ k. number s / 2 ^ k) {x = suc j * 8} {y = j * 8 + 8} (omega arith) ∙ sym (shr-shr (number s) (j * 8) 8)
        ∙ ap (λ n. n / 2 ^ 8) (front j (omega arith) ∙ ap (λ k. number (take k s)) {x = length s - j} {y = length s - suc j + 1} (omega arith) ∙ more_bits (length s - suc j) (omega arith))
        ∙ high (number (take (length s - suc j) s)) 8 (bytes (length s - suc j))

    pub bit_is : (k i : ℕ) → i + k / 8 + 1 ≡ length s → get_or s i 0 / 2 ^ (k % 8) % 2 ≡ number s / 2 ^ k % 2
    bit_is k i e = sym (ap (λ n. n % 2) (split ∙ ap (λ n. n / 2 ^ (k % 8)) here) ∙ bit_below 8 (k % 8) (number (take i s)) (get_or s i 0) (mod-lt k (omega arith)))
      where
        split : number s / 2 ^ k ≡ number s / 2 ^ (k / 8 * 8) / 2 ^ (k % 8)
        split = ap (λ j. number s / 2 ^ j) {x = k} {y = k / 8 * 8 + k % 8} (omega (arith, div-add-mod k 8)) ∙ sym (shr-shr (number s) (k / 8 * 8) (k % 8))

        here : number s / 2 ^ (k / 8 * 8) ≡ number (take i s) * 2 ^ 8 + get_or s i 0
        here = front (k / 8) (omega arith) ∙ ap (λ j. number (take j s)) {x = length s - k / 8} {y = i + 1} (omega arith) ∙ more_bits i (omega arith)

    -- ---- a byte
    pub byte_is : (j i : ℕ) → i + j + 1 ≡ length s → get_or s i 0 ≡ number s / 2 ^ (j * 8) % 256
    byte_is j i e = sym (ap (λ n. n % 256) (front j (omega arith) ∙ ap (λ k. number (take k s)) {x = length s - j} {y = i + 1} (omega arith) ∙ more_bits i (omega arith)) ∙ low (number (take i s)) 8 (bytes i))

    -- ---- above the highest byte
    all_off : number s / 2 ^ (length s * 8) ≡ 0
    unfolding number
    all_off = front (length s) (omega arith) ∙ ap (λ k. number (take k s)) {x = length s - length s} {y = 0} (omega arith)

    pub below : number s < 2 ^ (length s * 8)
    below = let h = (div-lt_iff_lt-mul {k = 2 ^ (length s * 8)} {x = number s} {y = 1} (pow_pos (length s * 8))).0 (omega (arith, all_off)) in omega arith

    pub bit_above : (k : ℕ) → length s ≤ k / 8 → number s / 2 ^ k % 2 ≡ 0
    bit_above k l = ap (λ n. n % 2) (ap (λ j. number s / 2 ^ j) {x = k} {y = length s * 8 + (k - length s * 8)} (omega (arith, div-add-mod k 8)) ∙ sym (shr-shr (number s) (length s * 8) (k - length s * 8))
        ∙ ap (λ n. n / 2 ^ (k - length s * 8)) all_off ∙ zero-div (2 ^ (k - length s * 8)))
