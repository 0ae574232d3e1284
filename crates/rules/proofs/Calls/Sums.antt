-- Demand 3 of the calls' rules, of sums and multiples: what one call wrote is handed to the next. Gives: doubles and the neutral record on
-- any bytes (`add_self`, `add_neutral`); where the calls before answered 0, `add_comm`, `add_assoc`, `add_opposite`, `multiply_mul`, `multiply_add`.
use Prim.Native.Nat.{ℕ, ◌+◌, ◌*◌, ◌≤◌}
use mathlib.Core.Path.{◌≡◌, refl, sym, ap, ◌∙◌}
use mathlib.Core.List.{List, [], ◌∷◌}
use mathlib.Core.Bool.{Bool, true, false}
use lib.ListN.{length}
use Rattle.rules.specs.Bytes.{number}
use Rattle.rules.specs.Pair.{neutral}
use Rattle.rules.specs.Sum.{sum, double}
use Rattle.rules.specs.Multiple.{multiple}
use Rattle.rules.specs.Tests.{is_weight}
use Rattle.rules.specs.Checks.{Checked, refused, taken, choose, go_on}
use Rattle.rules.specs.Records.{CurveRecord, curve, PairOf, read_curve, read_divisor, divisor_bytes}
use Rattle.rules.specs.Calls.{stop, deliver, write, from_one, rewrite_divisor, double_call, opposite_call, add_call, multiply_call}
use Rattle.rules.proofs.Cantor.Pairs.{neutral_valid}
use Rattle.rules.proofs.Calls.Tests.{taken_inj}
use Rattle.rules.proofs.Calls.CurveRecords.{Accepts, accepts}
use Rattle.rules.proofs.Calls.Accepted.{curve_laws}
use Rattle.rules.proofs.Calls.DivisorRecords.{divisor_read, divisor_taken, divisor_valid, divisor_reread}
use Rattle.rules.proofs.Calls.Refusals.{on_taken}
use Rattle.rules.proofs.Calls.Written.{only, front, answered, bare}
use Rattle.rules.proofs.Calls.Taken.{write_key, add_is, multiply_written}
use Rattle.rules.proofs.Calls.Done.{add_done, opposite_done, multiply_done, add_took, opposite_took, multiply_took}

-- two that go on alike are alike
on_same : {A B : Type 0} (x : Checked A) (f g : A → Checked B) → ((a : A) → x ≡ taken a → f a ≡ g a) → go_on x f ≡ go_on x g
on_same (refused n k) f g h = refl
on_same (taken a) f g h = h a refl

-- the single byte 00 is the neutral divisor's record
pub neutral-bytes : (p : ℕ) → divisor_bytes p neutral ≡ 0 ∷ []
unfolding divisor_bytes
neutral-bytes p = refl

pub neutral_read : (c : CurveRecord) → Accepts c → (k : ℕ) → read_divisor c k (0 ∷ []) ≡ taken neutral
neutral_read c ok k = ap (read_divisor c k) (sym (neutral-bytes c.p)) ∙ divisor_reread c ok neutral (neutral_valid (curve c)) k

-- a record is read alike at every place
elsewhere : (c : CurveRecord) (k j : ℕ) (a : List ℕ) {x : PairOf c} → read_divisor c k a ≡ taken x → read_divisor c j a ≡ taken x
elsewhere c k j a e = let r = divisor_read c k true a 0 e in divisor_taken c j true a 0 r.0 ∙ ap taken r.1

-- a multiple that isn't refused 19 is written
key_kept : (c : CurveRecord) (out : List ℕ) (y : PairOf c) → (answered (write_key c out y) ≡ 19 → ⊥) → write out (divisor_bytes c.p y) ≡ write_key c out y
key_kept c out y some = go (is_weight y) some
  where
    go : (t : Bool) → (answered (choose t (write out (divisor_bytes c.p y)) (stop tt out 19 0)) ≡ 19 → ⊥)
        → write out (divisor_bytes c.p y) ≡ choose t (write out (divisor_bytes c.p y)) (stop tt out 19 0)
    go true some = refl
    go false some = absurd (some refl)

module _ (s : List ℕ) where
  -- ---- whatever the bytes are
  -- where the second one is taken whenever the first is, a sum is a call on the first
  add_one_way : (f : (c : CurveRecord) → PairOf c → PairOf c) (a b out : List ℕ)
      → ((c : CurveRecord) → read_curve s ≡ taken c → (x : PairOf c) → read_divisor c 1 a ≡ taken x → (y : PairOf c) × (read_divisor c 2 b ≡ taken y) × (sum (curve c) x y ≡ f c x))
      → add_call s a b out ≡ deliver tt out (from_one f s a)
  unfolding add_call
  add_one_way f a b out h = ap (deliver tt out) (on_same (read_curve s) _ _ (λ c ec. on_same (read_divisor c 1 a) _ _ (λ x ea. let r = h c ec x ea in
      on_taken (read_divisor c 2 b) _ {a = r.0} r.1 ∙ ap (λ (d : PairOf c). taken (only (divisor_bytes c.p d))) r.2)))

  -- a double is the sum of a divisor with itself
  pub add_self : (a out : List ℕ) → add_call s a a out ≡ double_call s a out
  unfolding double_call double
  add_self a out = add_one_way (λ c x. double (curve c) x) a a out (λ c ec x ea. (x, elsewhere c 1 2 a ea, refl))

  -- to add the neutral divisor is to rewrite
  pub add_neutral : (a out : List ℕ) → add_call s a (0 ∷ []) out ≡ rewrite_divisor s a out
  unfolding rewrite_divisor
  add_neutral a out = add_one_way (λ c x. x) a (0 ∷ []) out (λ c ec x ea.
      (neutral, neutral_read c (accepts s ec) 2, (curve_laws s ec).neutral_right x (divisor_valid c 1 true a 0 ea)))

  -- ---- where the calls before answered 0
  pub add_comm : (a b out : List ℕ) → answered (add_call s a b out) ≡ 0 → add_call s b a out ≡ add_call s a b out
  add_comm a b out e = let t = add_took s a b out e in go t.0 t.1
    where
      go : (c : CurveRecord) → read_curve s ≡ taken c → add_call s b a out ≡ add_call s a b out
      go c ec = let m = add_done s a b out ec e in
          add_is s ec b (elsewhere c 2 1 b m.b_is) out a (elsewhere c 1 2 a m.a_is)
          ∙ ap (λ (d : PairOf c). write out (divisor_bytes c.p d))
          ((curve_laws s ec).commutative m.y m.x (divisor_valid c 2 true b 0 m.b_is) (divisor_valid c 1 true a 0 m.a_is))
          ∙ sym m.is

  pub add_assoc : (a b d o1 o2 out : List ℕ) → answered (add_call s a b o1) ≡ 0 → answered (add_call s b d o2) ≡ 0
      → add_call s (front (add_call s a b o1)) d out ≡ add_call s a (front (add_call s b d o2)) out
  add_assoc a b d o1 o2 out e e' = let t = add_took s a b o1 e in go t.0 t.1
    where
      go : (c : CurveRecord) → read_curve s ≡ taken c → add_call s (front (add_call s a b o1)) d out ≡ add_call s a (front (add_call s b d o2)) out
      go c ec = let m = add_done s a b o1 ec e in let n = add_done s b d o2 ec e' in
          add_is s ec (front (add_call s a b o1)) (m.back 1) out d n.b_is
          ∙ ap (λ (z : PairOf c). write out (divisor_bytes c.p z))
          ((curve_laws s ec).associative m.x m.y n.y (divisor_valid c 1 true a 0 m.a_is) (divisor_valid c 2 true b 0 m.b_is) (divisor_valid c 2 true d 0 n.b_is)
          ∙ ap (λ (z : PairOf c). sum (curve c) m.x (sum (curve c) z n.y)) (taken_inj (sym m.b_is ∙ elsewhere c 1 2 b n.a_is)))
          ∙ sym (add_is s ec a m.a_is out (front (add_call s b d o2)) (n.back 2))

  -- a divisor and its opposite make the neutral record
  pub add_opposite : (a o1 out : List ℕ) → answered (opposite_call s a o1) ≡ 0 → add_call s a (front (opposite_call s a o1)) out ≡ write out (0 ∷ [])
  add_opposite a o1 out e = let t = opposite_took s a o1 e in go t.0 t.1
    where
      go : (c : CurveRecord) → read_curve s ≡ taken c → add_call s a (front (opposite_call s a o1)) out ≡ write out (0 ∷ [])
      go c ec = let m = opposite_done s a o1 ec e in
          add_is s ec a m.a_is out (front (opposite_call s a o1)) (m.back 2)
          ∙ ap (write out) (ap (divisor_bytes c.p) ((curve_laws s ec).with_opposite m.x (divisor_valid c 1 true a 0 m.a_is)) ∙ neutral-bytes c.p)

  -- ---- multiples; m, n and k are scalars
  module _ (a : List ℕ) where
    -- n-fold and then m-fold is mn-fold, and 19 where that is neutral, both ways
    pub multiply_mul : (m n k o1 out : List ℕ) → answered (multiply_call s a n o1) ≡ 0 → length m ≤ 32 → length k ≤ 32 → number k ≡ number m * number n
        → bare (multiply_call s (front (multiply_call s a n o1)) m out) ≡ bare (multiply_call s a k out)
    multiply_mul m n k o1 out e lm lk is = let t = multiply_took s a n o1 e in go t.0 t.1
      where
        go : (c : CurveRecord) → read_curve s ≡ taken c → bare (multiply_call s (front (multiply_call s a n o1)) m out) ≡ bare (multiply_call s a k out)
        go c ec = let d = multiply_done s a o1 ec n e in let r = d.one in
            multiply_written s ec (front (multiply_call s a n o1)) (r.back 1) out m lm d.made
            ∙ ap (write_key c out)
            (sym (ap (λ (i : ℕ). multiple (curve c) i r.x) is ∙ (curve_laws s ec).fold_mul (number m) (number n) r.x (divisor_valid c 1 true a 0 r.a_is)))
            ∙ sym (multiply_written s ec a r.a_is out k lk d.given)

    -- m-fold and n-fold added is (m + n)-fold, where that isn't refused 19
    pub multiply_add : (m n k o1 o2 out : List ℕ) → answered (multiply_call s a m o1) ≡ 0 → answered (multiply_call s a n o2) ≡ 0
        → length k ≤ 32 → number k ≡ number m + number n → (answered (multiply_call s a k out) ≡ 19 → ⊥)
        → add_call s (front (multiply_call s a m o1)) (front (multiply_call s a n o2)) out ≡ bare (multiply_call s a k out)
    multiply_add m n k o1 o2 out e e' lk is some = let t = multiply_took s a n o2 e' in go t.0 t.1
      where
        go : (c : CurveRecord) → read_curve s ≡ taken c → add_call s (front (multiply_call s a m o1)) (front (multiply_call s a n o2)) out ≡
            bare (multiply_call s a k out)
        go c ec = let q = (multiply_done s a o1 ec m e).one in let d = multiply_done s a o2 ec n e' in let r = d.one in
            let is_key = multiply_written s ec a r.a_is out k lk d.given in
            add_is s ec (front (multiply_call s a m o1)) (q.back 1) out (front (multiply_call s a n o2)) (r.back 2)
            ∙ ap (λ (d : PairOf c). write out (divisor_bytes c.p d))
            (ap (λ (x : PairOf c). sum (curve c) (multiple (curve c) (number m) x) (multiple (curve c) (number n) r.x)) (taken_inj (sym q.a_is ∙ r.a_is))
            ∙ sym (ap (λ (i : ℕ). multiple (curve c) i r.x) is ∙ (curve_laws s ec).fold_add (number m) (number n) r.x (divisor_valid c 1 true a 0 r.a_is)))
            ∙ key_kept c out (multiple (curve c) (number k) r.x) (λ z. some (ap answered is_key ∙ z)) ∙ sym is_key
