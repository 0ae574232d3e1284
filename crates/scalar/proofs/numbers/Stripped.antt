-- A number of 32 bytes divided by a prime as often as it goes (`strip_turn`, `strip_end`), and tested for being made up of primes that stand in a row of four bytes each (`Looking`): from crate witness'
-- laws on plain numbers (Listed). The row itself, one of it after the other (`row_next`).
-- Open: `row`.
use Prim.Native.Nat.{ℕ, suc, ◌+◌, ◌-◌, ◌*◌, ◌≤◌, ◌<◌}
use mathlib.Core.Path.{◌≡◌, sym, ap, ap₂, ◌∙◌, subst}
use mathlib.Core.Bool.{Bool, true, false, true≢false, false≢true}
use mathlib.Core.List.{List, [], ◌∷◌}
use native.Mathlib.Omega.{arith}
use lib.Dec.{eqb}
use borrow.Author.Tests.{eqb-true, eq-eqb, ne_eqb}
use Rattle.std.specs.Prelude.{Option, Some, None}
use Rattle.std.specs.Option.{option_eq}
use Rattle.rules.specs.Bytes.{number, word32, words32}
use Rattle.field.specs.Primes.{Decides}
use Rattle.field.proofs.Decide.{decided_no}
use Rattle.field_witness.specs.Witness.{SmallPrime, Stripped, MadeOf}
use Rattle.field_witness.proofs.Listed.{Out, out_turn, out_less, out_end, Left, left_begin, not_above, not_prime, not_divided, left_turn, left_end}
use Rattle.scalar.specs.declared.numbers.Divided.{Divided}
use Rattle.scalar.specs.numbers.Numbers.{Capped, DividedBy}

module _ (n q k : ℕ) (d : Divided) (h : DividedBy k q d) (l : 1 < q) (o : Out n q k) where
  pub strip_turn : d.remainder ≡ 0 → Out n q (number d.quotient)
  strip_turn z = subst (Out n q) (sym h.is) (out_turn n q k l o (sym h.left ∙ z))

  pub strip_less : number d.quotient < k
  strip_less = omega (arith, h.is, out_less n q k l o)

  pub strip_end : (d.remainder ≡ 0 → ⊥) → Stripped n q k
  strip_end ne = out_end n q k l o (λ z. ne (h.left ∙ z))

-- ---- the listed numbers from the i-th on, of k
abbrev pub row : List ℕ → ℕ → ℕ → List ℕ
row s k i = words32 s (4 * i) (k - i)

module _ (s : List ℕ) (k : ℕ) where
  pub row_all : row s k 0 ≡ words32 s 0 k
  row_all = ap₂ (words32 s) {x = 4 * 0} {y = 0} {u = k - 0} {v = k} (omega arith) (omega arith)

  pub row_next : (i : ℕ) → i < k → (x : ℕ) → x ≡ word32 s (4 * i) → row s k i ≡ x ∷ row s k (i + 1)
  unfolding words32
  row_next i l x e = ap (words32 s (4 * i)) {x = k - i} {y = suc (k - (i + 1))} (omega arith)
      ∙ ap₂ (λ (y a : ℕ). y ∷ words32 s a (k - (i + 1))) {x = word32 s (4 * i)} {y = x} {u = 4 * i + 4} {v = 4 * (i + 1)} (sym e) (omega arith)

  pub row_end : (i : ℕ) → k ≤ i → row s k i ≡ []
  unfolding words32
  row_end i l = ap (words32 s (4 * i)) {x = k - i} {y = 0} (omega arith)

-- the tests for 0 and for 1
capped_is : (k : ℕ) → k < 256 → (n : ℕ) (r : Option ℕ) → Capped n r → option_eq eqb r (Some k) ≡ eqb n k
capped_is k l n (Some t) h = ap (λ (x : ℕ). eqb x k) h.0
capped_is k l n None h = sym (ne_eqb n k (λ e. omega (arith, h)))

-- what the test for k tells, whichever k it is
module _ (n k : ℕ) (r : Option ℕ) (h : Capped n r) (b : Bool) (e : b ≡ option_eq eqb r (Some k)) where
  pub capped_none : b ≡ true → (n ≡ k) × (n < 256)
  capped_none t = go r h (sym e ∙ t)
    where
      go : (r : Option ℕ) → Capped n r → option_eq eqb r (Some k) ≡ true → (n ≡ k) × (n < 256)
      go (Some x) c q = (sym c.0 ∙ eqb-true x k q, omega (arith, c.0, c.1))
      go None c q = absurd (false≢true q)

  pub capped_some : b ≡ false → k < 256 → n ≡ k → ⊥
  capped_some f l z = true≢false (sym (eq-eqb n k z) ∙ sym (capped_is k l n r h) ∙ sym e ∙ f)

-- ---- what the loop over the list keeps
pub record Looking (s : List ℕ) (k n last left i : ℕ) : Type 0 where
  pub within : i ≤ k
  pub is : Left n (words32 s 0 k) (row s k i) last left

pub looking_begin : (s : List ℕ) (k n : ℕ) → 0 < n → Looking s k n 0 n 0
looking_begin s k n h = record { within = omega arith; is = subst (λ (d : List ℕ). Left n (words32 s 0 k) d 0 n) (sym (row_all s k)) (left_begin n (words32 s 0 k) h) }

module _ (s : List ℕ) (k n last left i : ℕ) (h : Looking s k n last left i) where
  module _ (l : i < k) (x : ℕ) (e : x ≡ word32 s (4 * i)) where
    pub too_low : x ≤ last → MadeOf n (words32 s 0 k) → ⊥
    too_low = not_above n (words32 s 0 k) _ last left x _ h.is (row_next s k i l x e)

    pub no_prime : (b : Bool) → b ≡ false → Decides b (SmallPrime x) → MadeOf n (words32 s 0 k) → ⊥
    no_prime b q g = not_prime n (words32 s 0 k) _ last left x _ h.is (row_next s k i l x e) (decided_no {A = SmallPrime x} {b = b} q g)

    pub no_divisor : (d : Divided) → DividedBy left x d → (d.remainder ≡ 0 → ⊥) → MadeOf n (words32 s 0 k) → ⊥
    no_divisor d g ne = not_divided n (words32 s 0 k) _ last left x _ h.is (row_next s k i l x e) (λ z. ne (g.left ∙ z))

    pub looking_turn : last < x → SmallPrime x → (d : Divided) → DividedBy left x d → d.remainder ≡ 0 → (r : ℕ) → Stripped left x r → Looking s k n x r (i + 1)
    looking_turn a p d g z r t = record {
      within = omega arith;
      is = left_turn n (words32 s 0 k) _ last left x _ h.is (row_next s k i l x e) a p (sym g.left ∙ z) r t;
    }

  pub looking_end : k ≤ i → (r : Option ℕ) → Capped left r → (b : Bool) → b ≡ option_eq eqb r (Some 1) → Decides b (MadeOf n (words32 s 0 k))
  looking_end l r c b e = subst (λ (b : Bool). Decides b (MadeOf n (words32 s 0 k))) (sym (capped_is 1 (omega arith) left r c) ∙ sym e) (left_end n (words32 s 0 k) _ last left h.is (row_end s k i l))
