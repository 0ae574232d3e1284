-- Each call where all that it reads is taken, and what it then writes: `check_is`, `one_is` of a call on one divisor, `add_is`, `multiply_is`, `total_is`.
use Prim.Native.Nat.{ℕ, ◌≤◌}
use mathlib.Core.Path.{◌≡◌, refl, ap, ◌∙◌}
use mathlib.Core.List.{List, [], ◌∷◌}
use mathlib.Core.Bool.{Bool, true, false}
use lib.ListN.{length}
use borrow.Author.Tests.{le-leb}
use Rattle.rules.specs.Bytes.{number}
use Rattle.rules.specs.Pair.{neutral}
use Rattle.rules.specs.Sum.{sum}
use Rattle.rules.specs.Multiple.{multiple, doublings, additions}
use Rattle.rules.specs.Tests.{is_weight}
use Rattle.rules.specs.Checks.{Checked, refused, choose, first_failed}
use Rattle.rules.specs.Records.{taken, CurveRecord, curve, PairOf, read_curve, read_divisor, divisor_bytes}
use Rattle.rules.specs.Lists.{Batch, batch}
use Rattle.rules.specs.Calls.{done, Result, stop, put, deliver, write, check_divisor, from_one, add_call, multiply_call, total_call}
use Rattle.rules.proofs.Calls.Refusals.{on_taken}
use Rattle.rules.proofs.Calls.Written.{Written, bare, bare_put}

-- what a multiple and a total come to
abbrev pub multiple-result : (c : CurveRecord) → ℕ → PairOf c → Result (ℕ × ℕ)
multiple-result c n x = record { bytes = divisor_bytes c.p (multiple (curve c) n x); own = (doublings n, additions n) }

-- and what is left to check of it once it is made: 19 where it is neutral
abbrev pub keyed : (c : CurveRecord) → ℕ → PairOf c → Checked (Result (ℕ × ℕ))
keyed c n x = first_failed ((is_weight (multiple (curve c) n x), 19, 0) ∷ []) (multiple-result c n x)

-- the multiple y written, or 19
abbrev pub write_key : (c : CurveRecord) → List ℕ → PairOf c → Written
write_key c out y = choose (is_weight y) (write out (divisor_bytes c.p y)) (stop tt out 19 0)

abbrev pub total-result : (c : CurveRecord) → PairOf c → ℕ → Result ℕ
total-result c x n = record { bytes = divisor_bytes c.p x; own = n }

abbrev pub no_counts : ℕ × ℕ
no_counts = (0, 0)

module _ (s : List ℕ) {c : CurveRecord} (e : read_curve s ≡ taken c) where
  pub check_is : (a : List ℕ) {x : PairOf c} → read_divisor c 1 a ≡ taken x → check_divisor s a ≡ done 0
  unfolding check_divisor
  check_is a ea = ap (λ z. (deliver tt [] z).answer) (on_taken _ _ e ∙ on_taken _ _ ea)

  module _ (a : List ℕ) {x : PairOf c} (ea : read_divisor c 1 a ≡ taken x) (out : List ℕ) where
    pub one_is : (f : (c : CurveRecord) → PairOf c → PairOf c) → deliver tt out (from_one f s a) ≡ write out (divisor_bytes c.p (f c x))
    one_is f = ap (deliver tt out) (on_taken _ _ e ∙ on_taken _ _ ea)

    pub add_is : (b : List ℕ) {y : PairOf c} → read_divisor c 2 b ≡ taken y → add_call s a b out ≡ write out (divisor_bytes c.p (sum (curve c) x y))
    unfolding add_call
    add_is b eb = ap (deliver tt out) (on_taken _ _ e ∙ on_taken _ _ ea ∙ on_taken _ _ eb)

    module _ (scalar : List ℕ) (l : length scalar ≤ 32) where
      -- past the scalar's length
      past_length : multiply_call s a scalar out ≡ deliver no_counts out (choose (is_weight x) (keyed c (number scalar) x) (refused 19 0))
      unfolding multiply_call
      past_length = ap (deliver no_counts out) (on_taken _ _ e ∙ on_taken _ _ ea
          ∙ ap (λ (t : Bool). choose t (choose (is_weight x) (keyed c (number scalar) x) (refused 19 0)) (refused 12 0)) (le-leb (length scalar) 32 l))

      -- and past the divisor's weight
      pub multiply_is : is_weight x ≡ true → multiply_call s a scalar out ≡ deliver no_counts out (keyed c (number scalar) x)
      multiply_is w = past_length ∙ ap (λ (t : Bool). deliver no_counts out (choose t (keyed c (number scalar) x) (refused 19 0))) w

      pub multiply_written : is_weight x ≡ true → bare (multiply_call s a scalar out) ≡ write_key c out (multiple (curve c) (number scalar) x)
      multiply_written w = ap bare (multiply_is w) ∙ go (is_weight (multiple (curve c) (number scalar) x))
        where
          go : (t : Bool) → bare (deliver no_counts out (choose t (taken (multiple-result c (number scalar) x)) (refused 19 0)))
              ≡ choose t (write out (divisor_bytes c.p (multiple (curve c) (number scalar) x))) (stop tt out 19 0)
          go true = bare_put no_counts out (multiple-result c (number scalar) x)
          go false = refl

  pub total_is : (records out : List ℕ) {b : Batch (PairOf c)} → batch c (sum (curve c)) records neutral ≡ taken b
      → total_call s records out ≡ put 0 out (total-result c b.result b.count)
  unfolding total_call
  total_is records out eb = ap (deliver 0 out) (on_taken _ _ e ∙ on_taken _ _ eb)

  pub total_written : (records out : List ℕ) {b : Batch (PairOf c)} → batch c (sum (curve c)) records neutral ≡ taken b
      → bare (total_call s records out) ≡ write out (divisor_bytes c.p b.result)
  total_written records out {b} eb = ap bare (total_is records out eb) ∙ bare_put 0 out (total-result c b.result b.count)
