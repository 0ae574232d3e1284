-- Document 01, "Street corners": those with a star, A1 to A9 and B1 to B3, as rows of a single list under a single claim that is
-- computed. A row is a curve, an operation, its operands and its answer, all in numbers. A second list has two sums of a separate
-- implementation, for slips that no starred corner shows: a u that isn't monic before it is made so, and a second reduction. Last, W-214's order of (x, 1), by the call.
use Prim.Native.Nat.{ℕ}
use mathlib.Core.Path.{◌≡◌, refl}
use mathlib.Core.List.{List, [], ◌∷◌, ◌++◌, map}
use Rattle.algebra.proofs.Zmod.Zmod.{zmod, emb, num, zmod_dec}
use Rattle.algebra.proofs.Zmod.Prime.{is_prime}
use Rattle.algebra.proofs.Zmod.PrimeField.{modulo, inv}
use Rattle.rules.specs.Pair.{Pair}
use Rattle.rules.specs.Sum.{sum, double}
use Rattle.rules.specs.Multiple.{multiple}
use Rattle.rules.specs.Records.{divisor_at}
use Rattle.rules.specs.Calls.{refusal, done, check_order}

-- (u, v) by lower coefficients, the constant's first
pub record Numbers : Type 0 where
  pub u : List ℕ
  pub v : List ℕ

infix 60 ◌plus◌
infix 60 ◌fold◌
pub data Asked : Type 0 where
  ◌plus◌ : Numbers → Numbers → Asked
  twice : Numbers → Asked
  ◌fold◌ : ℕ → Numbers → Asked

pub record Row : Type 0 where
  pub g : ℕ
  pub p : ℕ
  pub low : List ℕ
  pub asked : Asked
  pub answer : Numbers

-- ---- the rules, in numbers
module _ (p : ℕ) where
  read : Numbers → Pair (modulo p)
  read n = record { u = map (emb p) n.u; v = map (emb p) n.v }

  write : Pair (modulo p) → Numbers
  write a = record { u = map (num p) a.u; v = map (num p) a.v }

apply : (g p : ℕ) → List ℕ → Asked → Numbers
unfolding read write
apply g p low (a plus b) = write p (sum (record { K = modulo p; g = g; low = map (emb p) low }) (read p a) (read p b))
apply g p low (twice a) = write p (double (record { K = modulo p; g = g; low = map (emb p) low }) (read p a))
apply g p low (n fold a) = write p (multiple (record { K = modulo p; g = g; low = map (emb p) low }) n (read p a))

pub ruled : Row → Numbers
unfolding apply
ruled r = apply r.g r.p r.low r.asked

-- ---- the corners
abbrev pair : List ℕ → List ℕ → Numbers
pair u v = record { u = u; v = v }

-- g = 2, p = 7, f = x^5 + 1; and g = 3, p = 11, f = x^7 + 1
abbrev A : Asked → Numbers → Row
A asked answer = record { g = 2; p = 7; low = 1 ∷ 0 ∷ 0 ∷ 0 ∷ 0 ∷ []; asked = asked; answer = answer }

abbrev B : Asked → Numbers → Row
B asked answer = record { g = 3; p = 11; low = 1 ∷ 0 ∷ 0 ∷ 0 ∷ 0 ∷ 0 ∷ 0 ∷ []; asked = asked; answer = answer }

abbrev x : Numbers
x = pair (0 ∷ []) (1 ∷ [])

abbrev none : Numbers
none = pair [] []

abbrev pub rows : List Row
rows =
    A (x plus pair (6 ∷ []) (3 ∷ [])) (pair (0 ∷ 6 ∷ []) (1 ∷ 2 ∷ []))  -- A1
    ∷ A (twice x) (pair (0 ∷ 0 ∷ []) (1 ∷ 0 ∷ []))  -- A2
    ∷ A (3 fold x) (pair (0 ∷ 0 ∷ []) (6 ∷ 0 ∷ []))  -- A3
    ∷ A (4 fold x) (pair (0 ∷ []) (6 ∷ []))  -- A4
    ∷ A (5 fold x) none  -- A5
    ∷ A (x plus pair (0 ∷ []) (6 ∷ [])) none  -- A6
    ∷ A (twice (pair (1 ∷ []) (0 ∷ []))) none  -- A7
    ∷ A (pair (0 ∷ 6 ∷ []) (1 ∷ 2 ∷ []) plus pair (0 ∷ []) (6 ∷ [])) (pair (6 ∷ []) (3 ∷ []))  -- A8
    ∷ A (pair (0 ∷ 6 ∷ []) (1 ∷ 2 ∷ []) plus x) (pair (4 ∷ 4 ∷ []) (0 ∷ 1 ∷ []))  -- A9
    ∷ B (twice (pair (0 ∷ 0 ∷ 0 ∷ []) (1 ∷ 0 ∷ 0 ∷ []))) (pair (0 ∷ []) (10 ∷ []))  -- B1
    ∷ B (4 fold x) (pair (0 ∷ 0 ∷ 0 ∷ []) (10 ∷ 0 ∷ 0 ∷ []))  -- B2
    ∷ B (7 fold x) none  -- B3
    ∷ []

-- the claim: each row's answer is what the rules yield
pub corners : map ruled rows ≡ map (λ r. r.answer) rows
unfolding ruled zmod emb num zmod_dec inv sum double multiple
corners = refl

abbrev pub more_rows : List Row
more_rows =
    A (pair (1 ∷ 0 ∷ []) (4 ∷ 1 ∷ []) plus pair (0 ∷ 2 ∷ []) (6 ∷ 2 ∷ [])) (pair (5 ∷ 1 ∷ []) (6 ∷ 4 ∷ []))
    ∷ B (pair (3 ∷ 1 ∷ 1 ∷ []) (6 ∷ 4 ∷ 9 ∷ []) plus pair (0 ∷ 1 ∷ 10 ∷ []) (1 ∷ 3 ∷ 3 ∷ [])) (pair (10 ∷ 5 ∷ 2 ∷ []) (10 ∷ 6 ∷ 5 ∷ []))
    ∷ []

pub more_corners : map ruled more_rows ≡ map (λ r. r.answer) more_rows
unfolding ruled zmod emb num zmod_dec inv sum
more_corners = refl

-- ---- W-214, by the call's rule: on curve A the record of (x, 1) has order 5, with the list of the one prime 5; with 10, and 2 and 5, it is refused
abbrev word : ℕ → List ℕ
word n = 0 ∷ 0 ∷ 0 ∷ 0 ∷ 0 ∷ 0 ∷ 0 ∷ n ∷ []

abbrev curve_A : List ℕ
curve_A = 72 ∷ 74 ∷ 67 ∷ 0 ∷ 1 ∷ 2 ∷ (word 7 ++ (word 1 ++ (word 0 ++ (word 0 ++ (word 0 ++ word 0)))))

abbrev x_A : List ℕ
x_A = 1 ∷ (word 0 ++ word 1)

pub order_corner : check_order curve_A x_A (5 ∷ []) (0 ∷ 0 ∷ 0 ∷ 5 ∷ []) ≡ done 0
unfolding check_order divisor_at is_prime zmod emb num zmod_dec inv
order_corner = refl

pub not_order_corner : check_order curve_A x_A (10 ∷ []) (0 ∷ 0 ∷ 0 ∷ 2 ∷ 0 ∷ 0 ∷ 0 ∷ 5 ∷ []) ≡ refusal 27 0
unfolding check_order divisor_at is_prime zmod emb num zmod_dec inv
not_order_corner = refl
