-- "Place is k for 8 to 11 where the k-th divisor (from 1) is at fault, otherwise 0": of each call's rule. What a call delivers has the place of what was refused
-- (`delivered_place`); here is what each call may refuse, and where.
-- Open: `Alone`, `OfTwo`, `On`.
use Prim.Native.Nat.{ℕ, ◌<◌}
use mathlib.Core.Path.{◌≡◌, refl, ap, ◌∙◌}
use mathlib.Core.List.{List, [], ◌∷◌, ◌++◌}
use mathlib.Core.Bool.{true}
use mathlib.Core.Logic.{◌⊎◌, inl, inr}
use native.Mathlib.Omega.{arith}
use lib.ListN.{drop}
use Rattle.rules.specs.Bytes.{number}
use Rattle.rules.specs.Pair.{neutral, opposite}
use Rattle.rules.specs.Sum.{sum, double}
use Rattle.rules.specs.Multiple.{multiple}
use Rattle.rules.specs.Checks.{Checked, refused, taken, go_on}
use Rattle.rules.specs.Records.{CurveRecord, curve, PairOf, read_curve, read_divisor}
use Rattle.rules.specs.Lists.{batch}
use Rattle.rules.specs.Split.{split_root}
use Rattle.rules.specs.Census.{next}
use Rattle.rules.specs.Calls.{order_checks, check_order, split_call, training_checks, read_training, next_call}
use Rattle.rules.specs.Calls.{Reply, deliver, check_curve, check_divisor, rewrite_curve, from_one, rewrite_divisor, double_call, opposite_call, add_call, multiply_checks, multiply_call, total_call, repeat_call, Running, resume, scan_checks, scan_record, scan_call}
use Rattle.rules.proofs.Calls.Checks.{refused_as}
use Rattle.rules.proofs.Calls.Places.{At, None, Placed, elsewhere, placed_on, placed_taken, curve-place, divisor_place, resume_place, Faulty, batch_place}
use Rattle.rules.proofs.Calls.Delivered.{delivered_place}
use Rattle.rules.proofs.Calls.Written.{only}
use Rattle.rules.proofs.Calls.Taken.{no_counts, multiple-result}
use Rattle.rules.proofs.Calls.CurveRecords.{accepts}
use Rattle.rules.proofs.Calls.SplitRoots.{split_refused}
use Rattle.rules.proofs.Calls.Splits.{pos_of}
use Rattle.rules.proofs.Census.Census.{next-number}

-- the one divisor of a call; the first or the second of two
abbrev pub Alone : ℕ → ℕ → Type 0
Alone n j = j ≡ 1

abbrev pub OfTwo : CurveRecord → List ℕ → List ℕ → ℕ → ℕ → Type 0
OfTwo c a b n j = ((j ≡ 1) × (read_divisor c 1 a ≡ refused n 1)) ⊎ ((j ≡ 2) × (read_divisor c 2 b ≡ refused n 2))

-- on the curve of the record s
abbrev pub On : List ℕ → (CurveRecord → ℕ → ℕ → Type 0) → ℕ → ℕ → Type 0
On s K n j = (c : CurveRecord) × (read_curve s ≡ taken c) × K c n j

-- the place of what a call answers
abbrev pub Stands : {N : Type 0} → (ℕ → ℕ → Type 0) → Reply N → Type 0
Stands K r = At K r.answer.number r.answer.place

-- the curve comes first in every call, and is refused at place 0
on_curve : {B : Type 0} (K : ℕ → ℕ → Type 0) (s : List ℕ) (go : CurveRecord → Checked B) → ((c : CurveRecord) → read_curve s ≡ taken c → Placed K (go c)) → Placed K (go_on (read_curve s) go)
on_curve K s go rest = placed_on K None (read_curve s) go (curve-place s) (λ n j e h. absurd h) rest

alone : {B : Type 0} (c : CurveRecord) (a : List ℕ) (go : PairOf c → Checked B) → ((x : PairOf c) → Placed Alone (go x)) → Placed Alone (go_on (read_divisor c 1 a) go)
alone c a go rest = placed_on Alone (λ n j. j ≡ 1) (read_divisor c 1 a) go (divisor_place c 1 true a 0) (λ n j e h. h) (λ x e. rest x)

module _ (s : List ℕ) where
  pub check_curve_place : At None (check_curve s).number (check_curve s).place
  unfolding check_curve
  check_curve_place = delivered_place tt [] None _ (on_curve None s _ (λ c e. placed_taken None _))

  pub check_divisor_place : (a : List ℕ) → At Alone (check_divisor s a).number (check_divisor s a).place
  unfolding check_divisor
  check_divisor_place a = delivered_place tt [] Alone _ (on_curve Alone s _ (λ c e. alone c a _ (λ x. placed_taken Alone _)))

module _ (s out : List ℕ) where
  pub rewrite_curve_place : Stands None (rewrite_curve s out)
  unfolding rewrite_curve
  rewrite_curve_place = delivered_place tt out None _ (on_curve None s _ (λ c e. placed_taken None _))

  one_place : (f : (c : CurveRecord) → PairOf c → PairOf c) (a : List ℕ) → Stands Alone (deliver tt out (from_one f s a))
  one_place f a = delivered_place tt out Alone _ (on_curve Alone s _ (λ c e. alone c a _ (λ x. placed_taken Alone _)))

  pub rewrite_place : (a : List ℕ) → Stands Alone (rewrite_divisor s a out)
  unfolding rewrite_divisor
  rewrite_place a = one_place (λ c x. x) a

  pub double_place : (a : List ℕ) → Stands Alone (double_call s a out)
  unfolding double_call
  double_place a = one_place (λ c x. double (curve c) x) a

  pub opposite_place : (a : List ℕ) → Stands Alone (opposite_call s a out)
  unfolding opposite_call
  opposite_place a = one_place (λ c x. opposite x) a

  pub add_place : (a b : List ℕ) → Stands (On s (λ c. OfTwo c a b)) (add_call s a b out)
  unfolding add_call
  add_place a b = delivered_place tt out K _ (on_curve K s _ (λ c e.
      placed_on K (λ n j. j ≡ 1) (read_divisor c 1 a) _ (divisor_place c 1 true a 0) (λ n j q h. (c, e, inl (h, q ∙ ap (refused n) h))) (λ x q.
      placed_on K (λ n j. j ≡ 2) (read_divisor c 2 b) _ (divisor_place c 2 true b 0) (λ n j q h. (c, e, inr (h, q ∙ ap (refused n) h))) (λ y q.
      placed_taken K _))))
    where
      K : ℕ → ℕ → Type 0
      K = On s (λ c. OfTwo c a b)

  -- 26 has place 0
  pub split_place : (a : List ℕ) → Stands Alone (split_call s a out)
  unfolding split_call
  split_place a = delivered_place tt out Alone _ (on_curve Alone s _ (λ c e. alone c a _ (λ x.
      placed_on Alone None (split_root c.p x) _ (λ n k q. let r = split_refused c.p x (pos_of c (accepts s e)) q in elsewhere None (λ l u. omega (arith, r.0)) r.1) (λ n j q h. absurd h) (λ y q. placed_taken Alone _))))

  -- 12 and 19 have place 0
  pub multiply_place : (a scalar : List ℕ) → Stands Alone (multiply_call s a scalar out)
  unfolding multiply_call
  multiply_place a scalar = delivered_place no_counts out Alone _ (on_curve Alone s _ (λ c e. alone c a _ (λ x n j q.
      refused_as (multiple-result c (number scalar) x) (At Alone) (multiply_checks c scalar x (multiple (curve c) (number scalar) x))
      (elsewhere Alone (λ l u. omega arith) refl, (elsewhere Alone (λ l u. omega arith) refl, (elsewhere Alone (λ l u. omega arith) refl, tt))) q)))

  -- 24 and 25 have place 0
  pub training_place : Placed None (read_training s)
  training_place = on_curve None s _ (λ c e n j q. refused_as c (At None) (training_checks c) (elsewhere None (λ l u. omega arith) refl, tt) q)

  pub next_place : (a : List ℕ) → Stands Alone (next_call s a out)
  unfolding next_call
  next_place a = delivered_place tt out Alone _ (placed_on Alone None (read_training s) _ training_place (λ n j e h. absurd h) (λ c e.
      alone c a _ (λ x. placed_on Alone None (next c x) _ (λ n j q. let t = next-number c x q in elsewhere None (λ l u. omega (arith, t.0)) t.1) (λ n j e h. absurd h) (λ y e. placed_taken Alone _))))

  pub total_place : (records : List ℕ) → Stands (On s (λ c. Faulty c records)) (total_call s records out)
  unfolding total_call
  total_place records = delivered_place 0 out K _ (on_curve K s _ (λ c e.
      placed_on K (Faulty c records) (batch c (sum (curve c)) records neutral) _ (batch_place c (sum (curve c)) records neutral) (λ n j q h. (c, e, h)) (λ b q. placed_taken K _)))
    where
      K : ℕ → ℕ → Type 0
      K = On s (λ c. Faulty c records)

module _ (s : List ℕ) where
  pub repeat_place : (records : List ℕ) → Stands (On s (λ c. Faulty c records)) (repeat_call s records)
  unfolding repeat_call
  repeat_place records = delivered_place (record { first = 0; second = 0 }) [] K _ (on_curve K s _ (λ c e.
      placed_on K (Faulty c records) (batch c (λ l d. l ++ (d ∷ [])) records []) _ (batch_place c (λ l d. l ++ (d ∷ [])) records []) (λ n j q h. (c, e, h)) (λ b q. placed_taken K _)))
    where
      K : ℕ → ℕ → Type 0
      K = On s (λ c. Faulty c records)

  -- 8 where the pole's 4 bytes aren't there has place 1, 20 has place 0
  pole_place : (pole : ℕ) (a : List ℕ) → Placed Alone (scan_record pole a)
  pole_place pole a n j q = refused_as (drop 4 a) (At Alone) (scan_checks pole a) ((λ l u. refl, λ l. absurd (omega arith), λ l. absurd (omega arith)), (elsewhere Alone (λ l u. omega arith) refl, tt)) q

  pub scan_place : (t : Running) (a : List ℕ) → Stands Alone (scan_call t s a)
  unfolding scan_call
  scan_place t a = delivered_place t [] Alone _ (on_curve Alone s _ (λ c e.
      placed_on Alone None (resume c t) _ (resume_place c t) (λ n j e h. absurd h) (λ x e.
      placed_on Alone Alone (scan_record t.pole a) _ (pole_place t.pole a) (λ n j e h. h) (λ r q. alone c r _ (λ y. placed_taken Alone _)))))

  -- 12 and 27 have place 0
  pub order_place : (a order primes : List ℕ) → At Alone (check_order s a order primes).number (check_order s a order primes).place
  unfolding check_order
  order_place a order primes = delivered_place tt [] Alone _ (on_curve Alone s _ (λ c e. alone c a _ (λ x n j q.
      refused_as (only []) (At Alone) (order_checks c order primes x) (high 12 (omega arith), (high 27 (omega arith), (high 27 (omega arith), (high 27 (omega arith), (high 27 (omega arith), tt))))) q)))
    where
      high : (n : ℕ) → 11 < n → At Alone n 0
      high n h = elsewhere Alone (λ l u. omega arith) refl
