-- What the walk over a scalar's bits keeps: the digits found so far, and zeros above them. Gives: how it begins, a turn, and that it ends with the non-adjacent form.
use Prim.Native.Nat.{ℕ, zero, suc, ◌+◌, ◌-◌, ◌*◌, ◌/◌, ◌%◌, ◌^◌, ◌≤◌, ◌<◌}
use mathlib.Core.Path.{◌≡◌, refl, sym, ap, ◌∙◌, subst}
use mathlib.Core.List.{List}
use native.Mathlib.Decide.{dec_lt}
use native.Mathlib.Omega.{arith}
use lib.ListN.{length, get_or, set, replicate, get_or-replicate, length-set, get_or-eq_default}
use lib.Seq.{get_or-set_same, get_or-set_other}
use Rattle.rules.specs.Signed.Digits.{null, of_four, recode}
use Rattle.rules.proofs.Signed.Length.{at_most_one_more}
use Rattle.rules.proofs.Signed.Walk.{Walked, begin as walk_begin, digit_at, next as walk-next}
use Rattle.rules.specs.Bytes.{number}
use Rattle.rules.proofs.Calls.Bytes.{AreBytes}
use Rattle.scalar.specs.declared.Counts.{Counts}
use Rattle.scalar.specs.Recoded.{digit, digits, Counted, Recoded}
use Rattle.scalar.proofs.Bytes.{below}
use Rattle.scalar.proofs.Upper.{read_at, past}

-- ---- a digit as it is kept, of bits b₀ and b₁ and a carry c
bits : (P : ℕ → ℕ → ℕ → Type 0) → P 0 0 0 → P 0 0 1 → P 0 1 0 → P 0 1 1 → P 1 0 0 → P 1 0 1 → P 1 1 0 → P 1 1 1 → (a b c : ℕ) → a ≤ 1 → b ≤ 1 → c ≤ 1 → P a b c
bits P x₀ x₁ x₂ x₃ x₄ x₅ x₆ x₇ a b c ha hb hc = one (λ a. P a b c) a ha (one (λ b. P 0 b c) b hb (one (λ c. P 0 0 c) c hc x₀ x₁) (one (λ c. P 0 1 c) c hc x₂ x₃)) (one (λ b. P 1 b c) b hb (one (λ c. P 1 0 c) c hc x₄ x₅) (one (λ c. P 1 1 c) c hc x₆ x₇))
  where
    one : (Q : ℕ → Type 0) (b : ℕ) → b ≤ 1 → Q 0 → Q 1 → Q b
    one Q zero l x y = x
    one Q (suc zero) l x y = y
    one Q (suc (suc b)) l x y = absurd (omega arith)

record Kept (b₀ b₁ c : ℕ) : Type 0 where
  is : digit (b₀ + c + 1 - 2 * ((b₀ + c + b₁) / 2)) ≡ of_four ((2 * b₁ + b₀ + c) % 4)
  carries : (b₀ + b₁ + c) / 2 ≡ (b₀ + c + b₁) / 2

kept : (b₀ b₁ c : ℕ) → b₀ ≤ 1 → b₁ ≤ 1 → c ≤ 1 → Kept b₀ b₁ c
kept =
    bits Kept
    (record { is = refl; carries = refl })
    (record { is = refl; carries = refl })
    (record { is = refl; carries = refl })
    (record { is = refl; carries = refl })
    (record { is = refl; carries = refl })
    (record { is = refl; carries = refl })
    (record { is = refl; carries = refl })
    (record { is = refl; carries = refl })

module _ (s : List ℕ) where
  abbrev n : ℕ
  n = number s

  pub record Recoding (at : List ℕ) (next carry k : ℕ) : Type 0 where
    pub place : k ≤ 8 * length s + 1
    pub room : length at ≡ 257
    pub next_is : next ≡ n / 2 ^ k % 2
    pub walked : Walked n k carry
    pub done : (i : ℕ) → i < k → digit (get_or at i 0) ≡ get_or (recode n) i null
    pub rest : (i : ℕ) → k ≤ i → i < 257 → get_or at i 0 ≡ 1

  pub begin : (next : ℕ) → next ≡ n / 2 ^ 0 % 2 → Recoding (replicate 257 1) next 0 0
  begin next e = record {
    place = omega arith;
    room = refl;
    next_is = e;
    walked = walk_begin n;
    done = λ i l. absurd (omega arith);
    rest = λ i l h. get_or-replicate 257 i 1 0 h;
  }

  module _ (at : List ℕ) (next carry k : ℕ) (h : Recoding at next carry k) (short : length s ≤ 32) where
    -- ---- a turn, by the next bit b
    module _ (more : k < 8 * length s + 1) (b : ℕ) (eb : b ≡ n / 2 ^ (k + 1) % 2) where
      abbrev t : ℕ
      t = next + carry

      abbrev carry' : ℕ
      carry' = (t + b) / 2

      after : b ≡ n / 2 ^ suc k % 2
      after = eb ∙ ap (λ (j : ℕ). n / 2 ^ j % 2) {x = k + 1} {y = suc k} (omega arith)

      q : Kept next b carry
      q = kept next b carry (omega (arith, h.next_is)) (omega arith) h.walked.small

      this : get_or (recode n) k null ≡ of_four ((2 * b + next + carry) % 4)
      this = digit_at n k carry next b h.walked h.next_is after

      walked' : Walked n (k + 1) carry'
      walked' = subst (λ (j : ℕ). Walked n j carry') {x = suc k} {y = k + 1} (omega arith) (subst (Walked n (suc k)) q.carries (walk-next n k carry next b h.walked h.next_is after))

      done' : (i : ℕ) → i < k + 1 → digit (get_or (set at k (t + 1 - 2 * carry')) i 0) ≡ get_or (recode n) i null
      done' i l = go (dec_lt i k)
        where
          go : Dec (i < k) → digit (get_or (set at k (t + 1 - 2 * carry')) i 0) ≡ get_or (recode n) i null
          go (yes m) = ap digit (get_or-set_other at k i (t + 1 - 2 * carry') 0 (λ e. absurd (omega arith))) ∙ h.done i m
          go (no m) = subst (λ (j : ℕ). digit (get_or (set at k (t + 1 - 2 * carry')) j 0) ≡ get_or (recode n) j null) {x = k} {y = i} (omega arith)
              (ap digit (get_or-set_same at k (t + 1 - 2 * carry') 0 (omega (arith, h.room))) ∙ q.is ∙ sym this)

      pub turn : Recoding (set at k (t + 1 - 2 * carry')) b carry' (k + 1)
      turn = record {
        place = omega arith;
        room = length-set at k (t + 1 - 2 * carry') ∙ h.room;
        next_is = eb;
        walked = walked';
        done = done';
        rest = λ i l m. get_or-set_other at k i (t + 1 - 2 * carry') 0 (λ e. absurd (omega arith)) ∙ h.rest i (omega arith) m;
      }

    -- ---- the end
    module _ (bytes : AreBytes s) (over : 8 * length s + 1 ≤ k) where
      below' : n < 2 ^ (length s * 8)
      below' = below s bytes

      all : length (recode n) ≤ k
      all = omega (arith, at_most_one_more n (length s * 8) below')

      places : (i : ℕ) → Dec (i < 257) → Dec (i < k) → get_or (digits at) i null ≡ get_or (recode n) i null
      places i (yes l) (yes m) = read_at at i (omega (arith, h.room)) ∙ h.done i m
      places i (yes l) (no m) = read_at at i (omega (arith, h.room)) ∙ ap digit (h.rest i (omega arith) l) ∙ sym (get_or-eq_default (recode n) null {n = i} (omega (arith, all)))
      places i (no l) m = past at i (omega (arith, h.room)) ∙ sym (get_or-eq_default (recode n) null {n = i} (omega (arith, all, h.place)))

      pub recoded : (r : Counts) → Counted n r → Recoded n (record { at = at; length = r.length; nonzeros = r.nonzeros })
      recoded r c = record {
        places = λ i. places i (dec_lt i 257) (dec_lt i k);
        length_is = c.length_is;
        nonzeros_is = c.nonzeros_is;
        within = omega (arith, c.length_is, all, h.place);
        room = h.room;
      }
