-- Folds of a divisor in code. Gives: that a multiple's weight tells whether it is neutral (`folded`); what the loop over the listed primes keeps (`Looking`), to the rules' test; and that test with those
-- of n and of the list, as the rule has them together (`not_zero` and its like, `decided`).
use Prim.Native.Nat.{ℕ, ◌+◌, ◌*◌, ◌/◌, ◌%◌, ◌≤◌, ◌<◌}
use mathlib.Core.Path.{◌≡◌, sym, ap, ◌∙◌, subst}
use mathlib.Core.Bool.{Bool, true, false, not, true≢false, false≢true}
use mathlib.Core.List.{List, ◌∷◌}
use native.Mathlib.Decide.{ℕ_discrete}
use native.Mathlib.Omega.{arith}
use lib.Dec.{eqb}
use lib.ListN.{length}
use borrow.Author.Tests.{eq-eqb, ne_eqb}
use Rattle.rules.specs.Orders.Tests.{is_order, is_none_below}
use Rattle.rules.specs.Bytes.{number, word32, words32}
use Rattle.rules.specs.Tests.{is_weight}
use Rattle.rules.specs.Calls.{listed}
use Rattle.rules.proofs.Calls.Orders.{Tested}
use Rattle.field.specs.Primes.{Decides}
use Rattle.divisor.specs.declared.Divisor.{Divisor}
use Rattle.divisor.specs.Divisors.{weight_of, pair}
use Rattle.curve.specs.declared.Curve.{Curve}
use Rattle.curve.specs.Record.{record_of}
use Rattle.field_witness.specs.Witness.{AllSome, MadeOf}
use Rattle.field_witness.proofs.Listed.{none_stop, none_turn, none_end}
use Rattle.field_witness.proofs.Accepted.{parts, comes_to}
use Rattle.multiple_affine.specs.declared.promise.Multiple.{Multiple}
use Rattle.multiple_affine.specs.promise.Contracts.{Multiplied}
use Rattle.scalar.specs.declared.numbers.Divided.{Divided}
use Rattle.scalar.specs.numbers.Numbers.{DividedBy}
use Rattle.scalar.proofs.numbers.Stripped.{row, row_all, row_next, row_end}
use Rattle.call_multiply.proofs.factors.Multiples.{weightless, weighty}
use Rattle.record_curve_prime.proofs.Prime.{all_small, small_all}
use Rattle.call_multiply.specs.order.Folds.{is_neutral_fold_by, Folded, NoneBelow}

-- ---- one fold
pub folded : (c : Curve) (a : Divisor) (n : ℕ) (y : Multiple) → Multiplied c a n y → (w : ℕ) → w ≡ weight_of y.divisor → Folded c a n (eqb w 0)
folded c a n y h w e = record { is = go (ℕ_discrete w 0) }
  where
    same : not (is_weight (pair c.prime.m y.divisor)) ≡ is_neutral_fold_by c a n
    same = ap (λ t. not (is_weight t)) h.gives.is

    go : Dec (w ≡ 0) → eqb w 0 ≡ is_neutral_fold_by c a n
    go (yes z) = eq-eqb w 0 z ∙ sym (ap not (weightless c.prime.m y.divisor (sym e ∙ z))) ∙ same
    go (no z) = ne_eqb w 0 z ∙ sym (ap not (weighty c.prime.m y.divisor (λ q. z (e ∙ q)))) ∙ same

-- ---- none below, one of the row after the other
pub record Looking (c : Curve) (a : Divisor) (n : ℕ) (s : List ℕ) (k j : ℕ) : Type 0 where
  pub within : j ≤ k
  pub some : AllSome (row s k j)
  pub is : is_none_below (is_neutral_fold_by c a) n (row s k j) ≡ is_none_below (is_neutral_fold_by c a) n (words32 s 0 k)

pub look_begin : (c : Curve) (a : Divisor) (n : ℕ) (s : List ℕ) (k : ℕ) → AllSome (words32 s 0 k) → Looking c a n s k 0
look_begin c a n s k h = record { within = omega arith; some = subst AllSome (sym (row_all s k)) h; is = ap (is_none_below (is_neutral_fold_by c a) n) (row_all s k) }

module _ (c : Curve) (a : Divisor) (n : ℕ) (s : List ℕ) (k j : ℕ) (h : Looking c a n s k j) where
  module _ (l : j < k) (q : ℕ) (e : q ≡ word32 s (4 * j)) where
    front : row s k j ≡ q ∷ row s k (j + 1)
    front = row_next s k j l q e

    pub look_some : 0 < q
    look_some = (subst AllSome front h.some).0

    module _ (d : Divided) (g : DividedBy n q d) (b : Bool) (f : Folded c a (number d.quotient) b) where
      looked : is_neutral_fold_by c a (n / q) ≡ b
      looked = ap (is_neutral_fold_by c a) (sym g.is) ∙ sym f.is

      pub look_stop : b ≡ true → NoneBelow c a n (words32 s 0 k) false
      look_stop t = record { is = none_stop (is_neutral_fold_by c a) n (words32 s 0 k) _ _ q h.is front (looked ∙ t) }

      pub look_turn : b ≡ false → Looking c a n s k (j + 1)
      look_turn t = record { within = omega arith; some = (subst AllSome front h.some).1; is = none_turn (is_neutral_fold_by c a) n (words32 s 0 k) _ _ q h.is front (looked ∙ t) }

  pub look_end : k ≤ j → NoneBelow c a n (words32 s 0 k) true
  look_end l = record { is = none_end (is_neutral_fold_by c a) n (words32 s 0 k) _ h.is (row_end s k j l) }

-- ---- the whole test: m is the order's number
module _ (c : Curve) (a : Divisor) (order primes : List ℕ) (m : ℕ) (m-is : m ≡ number order) where
  abbrev Is : Type 0
  Is = Tested (record_of c) (pair c.prime.m a) order primes

  passes : Is → is_order (is_neutral_fold_by c a) m (listed primes) ≡ true
  passes o = ap (λ (k : ℕ). is_order (is_neutral_fold_by c a) k (listed primes)) m-is ∙ o.is

  pub not_zero : m ≡ 0 → Is → ⊥
  unfolding is_order
  not_zero z o = false≢true (sym (ap (λ (k : ℕ). is_order (is_neutral_fold_by c a) k (listed primes)) z) ∙ passes o)

  pub not_made : (MadeOf m (listed primes) → ⊥) → Is → ⊥
  not_made g o = g (record { is = (parts (is_neutral_fold_by c a) m (listed primes) (passes o)).made; small = small_all (listed primes) o.small })

  pub not_here : is_neutral_fold_by c a m ≡ false → Is → ⊥
  not_here e o = true≢false (sym (parts (is_neutral_fold_by c a) m (listed primes) (passes o)).here ∙ e)

  pub decided : 0 < m → length primes % 4 ≡ 0 → length primes ≤ 128 → MadeOf m (listed primes) → is_neutral_fold_by c a m ≡ true → (b : Bool) → b ≡ is_none_below (is_neutral_fold_by c a) m (listed primes) → Decides b Is
  decided pos w f made here true e = record {
    whole = w;
    few = f;
    small = all_small (listed primes) made.small;
    is = ap (λ (k : ℕ). is_order (is_neutral_fold_by c a) k (listed primes)) (sym m-is) ∙ comes_to (is_neutral_fold_by c a) m (listed primes) pos made.is here ∙ sym e;
  }
  decided pos w f made here false e = λ o. true≢false (sym (passes o) ∙ comes_to (is_neutral_fold_by c a) m (listed primes) pos made.is here ∙ sym e)
