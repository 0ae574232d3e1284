-- From what was read and split to the rule's answer; and two records one after the other at the front of an output.
use Prim.Native.Nat.{ℕ, ◌+◌, ◌-◌, ◌*◌, ◌≤◌, ◌<◌}
use mathlib.Core.Path.{◌≡◌, refl, sym, ap, ap₂, ◌∙◌}
use mathlib.Core.List.{List, [], ◌++◌, append_assoc, append-nil}
use native.Mathlib.Omega.{arith}
use lib.ListN.{length, take, drop, length-append, length-drop}
use lib.Seq.{sets, sets-eq, take_at, drop_at, drop-drop, take_all, drop-length}
use Rattle.rules.specs.Checks.{taken, go_on}
use Rattle.rules.specs.Records.{PairOf, divisor_bytes}
use Rattle.rules.specs.Split.{split_root}
use Rattle.rules.specs.Calls.{deliver, write, split_result, split_call}
use Rattle.rules.proofs.Calls.SplitRoots.{NoSplit, split_at, split_none}
use Rattle.field.specs.declared.Modulus.{Modulus}
use Rattle.divisor.specs.declared.Divisor.{Divisor}
use Rattle.divisor.specs.Divisors.{weight_of, pair}
use Rattle.curve.specs.declared.Curve.{Curve}
use Rattle.curve.specs.Record.{record_of}
use Rattle.divisor_split.specs.Splits.{PartsOf, SplitIs}
use Rattle.std.specs.Prelude.{Option, Some, None, Result as Outcome, Ok, Err, ok_or}
use Rattle.refusals.specs.declared.Refusal.{Refusal}
use Rattle.refusals.specs.declared.Refused.{Refused}
use Rattle.refusals.specs.declared.Refusal.TheVariants.{NoRoot, OutputLength}
use Rattle.call_answer.specs.Answers.{Firsts, Wrote}
use Rattle.call_answer.proofs.Written.{divisor_length, wrote_none, wrote_all}

-- ---- a divisor that was read, split or not
module _ (s a out : List ℕ) (c : Curve) (x : Divisor) (h : Firsts s a c x) where
  abbrev p : ℕ
  p = c.prime.m.p

  abbrev d : PairOf (record_of c)
  d = pair c.prime.m x

  pos : 0 < p
  pos = omega (arith, c.prime.m.odd)

  goes : split_call s a out ≡ deliver tt out (go_on (split_root p d) (λ y. taken (split_result (record_of c) d y)))
  unfolding split_call
  goes = rw (h.curve, h.divisor) refl

  nowhere : NoSplit p d → Wrote (Err (record { by = NoRoot; place = 0 })) out (split_call s a out)
  nowhere n = sym (goes ∙ ap (λ t. deliver tt out (go_on t (λ y. taken (split_result (record_of c) d y)))) (split_none p d pos n))

  -- behind `ok_or`
  pub split_nowhere : (o : Option (Divisor × Divisor)) (by : Refusal) → SplitIs c.prime.m x o → Err by ≡ ok_or o NoRoot → Wrote (Err (record { by = by; place = 0 })) out (split_call s a out)
  split_nowhere None by n e = let q : by ≡ NoRoot = cc in rw q (nowhere n)
  split_nowhere (Some y) by n e = absurd (cc)

  pub split_done : (r : Outcome ℕ Refused) (o : List ℕ) (e f : Divisor) → PartsOf c.prime.m x e f → Wrote r o (write out (divisor_bytes p (pair c.prime.m e) ++ divisor_bytes p (pair c.prime.m f))) → Wrote r o (split_call s a out)
  split_done r o e f k w = w ∙ sym (goes ∙ ap (λ t. deliver tt out (go_on t (λ y. taken (split_result (record_of c) d y)))) (split_at p d pos k.y k.at) ∙ ap₂ (λ s t. write out (divisor_bytes p s ++ divisor_bytes p t)) (sym k.first.is) (sym k.second.is))

-- ---- one behind the other
module _ (out a b : List ℕ) (n : ℕ) (long : length a ≡ n) (room : n + length b ≤ length out) where
  first_is : sets out 0 a ≡ a ++ drop n out
  first_is = sets-eq a out 0 (omega arith) ∙ ap (λ (k : ℕ). a ++ drop k out) {x = 0 + length a} {y = n} (omega arith)

  pub behind : take n (sets out 0 a) ++ sets (drop n (sets out 0 a)) 0 b ≡ sets out 0 (a ++ b)
  behind = ap₂ (λ s t. s ++ sets t 0 b) (ap (take n) first_is ∙ take_at a (drop n out) n long) (ap (drop n) first_is ∙ drop_at a (drop n out) n long)
      ∙ ap (λ t. a ++ t) (sets-eq b (drop n out) 0 (omega (arith, length-drop n out)) ∙ ap (λ (k : ℕ). b ++ drop k (drop n out)) {x = 0 + length b} {y = length b} (omega arith))
      ∙ sym (append_assoc a b (drop (length b) (drop n out)))
      ∙ sym (sets-eq (a ++ b) out 0 (omega (arith, length-append a b)) ∙ ap (λ t. (a ++ b) ++ t) (ap (λ (k : ℕ). drop k out) {x = 0 + length (a ++ b)} {y = n + length b} (omega (arith, length-append a b)) ∙ sym (past n (length b))))
    where
      past : (i j : ℕ) → drop j (drop i out) ≡ drop (i + j) out
      past i j = drop-drop j i out

  -- with the part of the output that was lent put back
  pub put_back : (o y : List ℕ) → o ≡ sets out 0 a → y ≡ sets (take (length o - n) (drop n o)) 0 b → take n o ++ (y ++ drop (length o - n) (drop n o)) ≡ sets out 0 (a ++ b)
  put_back o y e h = ap₂ (λ s t. take n o ++ (s ++ t)) (h ∙ ap (λ t. sets t 0 b) (take_all (length o - n) (drop n o) (omega (arith, length-drop n o)))) none
      ∙ ap (λ t. take n o ++ t) (append-nil (sets (drop n o) 0 b))
      ∙ ap (λ t. take n t ++ sets (drop n t) 0 b) e
      ∙ behind
    where
      none : drop (length o - n) (drop n o) ≡ []
      none = ap (λ (k : ℕ). drop k (drop n o)) {x = length o - n} {y = length (drop n o)} (omega (arith, length-drop n o)) ∙ drop-length (drop n o)

module _ (m : Modulus) (e f : Divisor) (out : List ℕ) {i j : ℕ} (hi : i ≡ 1 + 16 * weight_of e) (hj : j ≡ 1 + 16 * weight_of f) where
  abbrev one : List ℕ
  one = divisor_bytes m.p (pair m e)

  abbrev two : List ℕ
  two = divisor_bytes m.p (pair m f)

  together : length (one ++ two) ≡ i + j
  together = omega (arith, length-append one two, divisor_length m e, divisor_length m f)

  pub both_none : length out < i + j → Wrote (Err (record { by = OutputLength; place = 0 })) out (write out (one ++ two))
  both_none l = wrote_none out (one ++ two) together l

  pub both_all : (o y : List ℕ) → i + j ≤ length out → o ≡ sets out 0 one → y ≡ sets (take (length o - i) (drop i o)) 0 two
      → Wrote (Ok (i + j)) (take i o ++ (y ++ drop (length o - i) (drop i o))) (write out (one ++ two))
  both_all o y l h k = wrote_all out (one ++ two) together l (put_back out one two i (divisor_length m e ∙ sym hi) (omega (arith, divisor_length m f)) o y h k)
