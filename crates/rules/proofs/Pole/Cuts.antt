-- A good file cut short, at any byte: 1 where the cut is in its curve record, 23 anywhere else (`cut_number`; by parts `cut_in_head`, `cut_in_curve`, `cut_behind`).
use Prim.Native.Nat.{ℕ, zero, suc, ◌+◌, ◌*◌, ◌-◌, ◌≤◌, ◌<◌}
use mathlib.Core.Path.{◌≡◌, refl, sym, ap, ap₂, ◌∙◌}
use mathlib.Core.Bool.{Bool, true, false}
use mathlib.Core.List.{List, ◌++◌}
use native.Mathlib.Omega.{arith}
use lib.Dec.{leb, ltb}
use lib.ListN.{get_or, length, take, drop, length-append, length-drop, take-append-drop}
use lib.Seq.{length-take-le, get_or-take, take-add, take-append-le, take-append-add, drop-append-le, drop_at}
use borrow.Author.Tests.{leb-true, leb-false, ltb-true, ltb-false, le-leb, lt-leb, lt-ltb, le-ltb}
use Rattle.rules.specs.Bytes.{word32}
use Rattle.rules.specs.Checks.{Checked, refused, taken, choose, first_failed, go_on}
use Rattle.rules.specs.Records.{both, CurveRecord, PairOf, read_curve, divisor_at}
use Rattle.rules.specs.Calls.{stop, deliver}
use Rattle.rules.proofs.Calls.Tests.{passed}
use Rattle.rules.proofs.Calls.DivisorRecords.{DivisorBytes, divisor_read, pair_at_row, record_out, alone_out, taken_among}
use Rattle.rules.proofs.Calls.Refusals.{went_on, on_taken, on_refused}
use Rattle.rules.proofs.Calls.Written.{answered}
use Rattle.rules.specs.Pole.PoleFile.{word16, head_checks, curve_length, curve_part, behind_curve, or_cut, records_from, read_parts, read_behind, read_file}
use Rattle.rules.proofs.Pole.Counted.{no_count}
use Rattle.rules.proofs.Pole.CurveParts.{curve_part_is, behind_is}
use Rattle.rules.proofs.Pole.CurveCut.{curve_cut, part_cut}
use Rattle.rules.proofs.Pole.Longer.{or_cut_taken}
use Rattle.rules.proofs.Pole.Files.{Parts, parts_of}
use Rattle.rules.proofs.Pole.Laws.{parts_on, head_on}

-- the front of what is behind
drop-take : (a n : ℕ) (s : List ℕ) → a ≤ n → n ≤ length s → drop a (take n s) ≡ take (n - a) (drop a s)
drop-take a n s h l = ap (λ (k : ℕ). drop a (take k s)) {x = n} {y = a + (n - a)} (omega arith) ∙ ap (drop a) (take-add a (n - a) s) ∙ drop_at (take a s) (take (n - a) (drop a s)) a (length-take-le a s (omega arith))

-- ---- the records
module _ (c : CurveRecord) (s : List ℕ) (j : ℕ) (l : j < length s) where
  abbrev t : List ℕ
  t = take j s

  long : length t ≡ j
  long = length-take-le j s (omega arith)

  module _ (a : ℕ) (b : DivisorBytes c false s a) where
    abbrev n : ℕ
    n = 1 + 16 * get_or s a 0

    abbrev r : List ℕ
    r = record_out c s a b

    -- a record that is still whole
    module _ (h : a + 1 + 16 * get_or s a 0 ≤ j) where
      r_is : r ≡ take n (drop a t)
      r_is = ap (λ (x : List ℕ). take n (drop a x)) (sym (take-append-drop j s)) ∙ ap (take n) (drop-append-le a t (drop j s) (omega (arith, long)))
          ∙ take-append-le n (drop a t) (drop j s) (omega (arith, long, length-drop a t))

      split : t ≡ take a t ++ (r ++ drop n (drop a t))
      split = sym (take-append-drop a t) ∙ ap (◌++◌ (take a t)) (sym (take-append-drop n (drop a t)) ∙ ap (λ (x : List ℕ). x ++ drop n (drop a t)) (sym r_is))

      still_whole : (k : ℕ) → divisor_at c k false t a ≡ taken (pair_at_row c r 0)
      still_whole k = ap₂ (divisor_at c k false) split (sym (length-take-le a t (omega (arith, long)))) ∙ taken_among c (take a t) r (drop n (drop a t)) (alone_out c s a b) k

    -- one that is cut
    module _ (h : j < a + 1 + 16 * get_or s a 0) (k : ℕ) where
      gone : j ≤ a → divisor_at c k false t a ≡ refused 8 k
      unfolding divisor_at
      gone u = rw (le-ltb a (length t) (omega (arith, long))) refl

      short : a < j → divisor_at c k false t a ≡ refused 8 k
      unfolding divisor_at
      short u = let w : get_or t a 0 ≡ get_or s a 0 = get_or-take j s a 0 u in
          rw (lt-ltb a (length t) (omega (arith, long)), le-leb (get_or t a 0) c.g (omega (arith, w, b.small)), lt-leb (a + 1 + 16 * get_or t a 0) (length t) (omega (arith, w, long))) refl

      cut_8 : divisor_at c k false t a ≡ refused 8 k
      cut_8 = go (leb j a) refl
        where
          go : (q : Bool) → leb j a ≡ q → divisor_at c k false t a ≡ refused 8 k
          go true q = gone (leb-true j a q)
          go false q = short (leb-false j a q)

  cut_from : (left a k : ℕ) → a ≤ j → records_from c s left a k ≡ taken tt → records_from c t left a k ≡ refused 23 0
  unfolding records_from
  cut_from zero a k h e = absurd (omega (arith, leb-true (length s) a (passed (leb (length s) a) (taken tt) 23 0 e).0))
  cut_from (suc left) a k h e =
      let q = went_on (or_cut (divisor_at c (k + 1) false s a)) (λ d. records_from c s left (a + 1 + 16 * get_or s a 0) (k + 1)) e in
      let b = (divisor_read c (k + 1) false s a (or_cut_taken _ q.1)).0 in
      go (leb (a + 1 + 16 * get_or s a 0) j) refl b (λ u. cut_from left (a + 1 + 16 * get_or s a 0) (k + 1) u q.2)
    where
      rest : PairOf c → Checked (Unit {0})
      rest d = records_from c t left (a + 1 + 16 * get_or t a 0) (k + 1)

      go : (p : Bool) → leb (a + 1 + 16 * get_or s a 0) j ≡ p → DivisorBytes c false s a
          → (a + 1 + 16 * get_or s a 0 ≤ j → records_from c t left (a + 1 + 16 * get_or s a 0) (k + 1) ≡ refused 23 0)
          → go_on (or_cut (divisor_at c (k + 1) false t a)) rest ≡ refused 23 0
      go true p b more = let u : a + 1 + 16 * get_or s a 0 ≤ j = leb-true _ _ p in
          ap (λ x. go_on (or_cut x) rest) (still_whole a b u (k + 1)) ∙ ap (λ (w : ℕ). records_from c t left (a + 1 + 16 * w) (k + 1)) (get_or-take j s a 0 (omega arith)) ∙ more u
      go false p b more = ap (λ x. go_on (or_cut x) rest) (cut_8 a b (leb-false _ _ p) (k + 1))

  pub records_cut : (n : ℕ) → records_from c s n 0 0 ≡ taken tt → records_from c t n 0 0 ≡ refused 23 0
  records_cut n e = cut_from n 0 0 (omega arith) e

-- ---- the file
module _ (file o : List ℕ) (z : answered (read_file file o) ≡ 0) (n : ℕ) (l : n < length file) (out : List ℕ) where
  abbrev cut : List ℕ
  cut = take n file

  abbrev rest : List ℕ
  rest = drop 9 file

  abbrev s : List ℕ
  s = curve_part rest

  abbrev tail : List ℕ
  tail = behind_curve rest

  h : Parts file
  h = parts_of file o z

  long_cut : length cut ≡ n
  long_cut = length-take-le n file (omega arith)

  pub cut_in_head : n < 9 → read_file cut out ≡ stop 0 out 23 0
  unfolding read_file
  cut_in_head u = ap (deliver 0 out) (on_refused (first_failed (head_checks cut) (word32 cut 5)) (λ pole. read_behind pole (drop 9 cut)) (rw (lt-leb 9 (length cut) (omega (arith, long_cut))) refl))

  module _ (nine : 9 ≤ n) where
    abbrev m : ℕ
    m = n - 9

    same : (i : ℕ) → i < 9 → get_or cut i 0 ≡ get_or file i 0
    same i u = get_or-take n file i 0 (omega arith)

    head_read : read_file cut out ≡ deliver 0 out (read_behind (word32 cut 5) (drop 9 cut))
    head_read = head_on cut out (omega (arith, long_cut)) (rw (same 0 (omega arith), same 1 (omega arith), same 2 (omega arith)) h.marked) (omega (arith, h.version, same 3 (omega arith), same 4 (omega arith)))

    abbrev parts : List ℕ → Checked (Unit {0})
    parts x = read_parts (curve_part x) (behind_curve x)

    stops : (x : List ℕ) (k : ℕ) → drop 9 cut ≡ x → parts x ≡ refused k 0 → read_file cut out ≡ stop 0 out k 0
    stops x k e q = head_read ∙ ap (λ (y : List ℕ). deliver 0 out (read_behind (word32 cut 5) y)) e ∙ ap (deliver 0 out) (on_refused (parts x) _ q)

    rest_is : rest ≡ s ++ tail
    rest_is = sym (take-append-drop (curve_length rest) rest)

    behind_cut : drop 9 cut ≡ take m (s ++ tail)
    behind_cut = drop-take 9 n file nine (omega arith) ∙ ap (take m) rest_is

    pub cut_in_curve : n < 9 + length s → read_file cut out ≡ stop 0 out 1 0
    unfolding read_parts
    cut_in_curve u = stops (take m s) 1 (behind_cut ∙ take-append-le m s tail (omega arith))
        (on_refused (read_curve (curve_part (take m s))) _ (ap read_curve (part_cut s h.curve m (omega arith)) ∙ curve_cut s h.curve m (omega arith)))

    module _ (u : 9 + length s ≤ n) where
      abbrev d : ℕ
      d = m - length s

      shorter : d < length tail
      shorter = omega (arith, length-drop 9 file, ap length rest_is, length-append s tail, h.long)

      x_is : drop 9 cut ≡ s ++ take d tail
      x_is = behind_cut ∙ ap (λ (k : ℕ). take k (s ++ tail)) {x = m} {y = length s + d} (omega arith) ∙ take-append-add s tail d

      parts_are : parts (s ++ take d tail) ≡ read_parts s (take d tail)
      parts_are = ap₂ read_parts (curve_part_is s h.curve (take d tail)) (behind_is s h.curve (take d tail))

      long_tail : length (take d tail) ≡ d
      long_tail = length-take-le d tail (omega (arith, shorter))

      no_count_left : d < 2 → read_parts s (take d tail) ≡ refused 23 0
      no_count_left v = no_count s (take d tail) (rw (lt-leb 2 (length (take d tail)) (omega (arith, long_tail))) refl) ∙ on_taken (read_curve s) (λ c. refused 23 0) h.curve

      records_left : 2 ≤ d → read_parts s (take d tail) ≡ refused 23 0
      records_left v =
          let w : word16 (take d tail) 0 ≡ word16 tail 0 = omega (arith, get_or-take d tail 0 0 (omega arith), get_or-take d tail 1 0 (omega arith)) in
          parts_on s (take d tail) h.curve (omega (arith, long_tail)) (omega (arith, w, h.few))
          ∙ ap₂ (λ (y : List ℕ) (k : ℕ). records_from h.c y k 0 0) (drop-take 2 d tail v (omega (arith, shorter))) w
          ∙ records_cut h.c (drop 2 tail) (d - 2) (omega (arith, shorter, length-drop 2 tail)) (word16 tail 0) h.records

      pub cut_behind : read_file cut out ≡ stop 0 out 23 0
      cut_behind = stops (s ++ take d tail) 23 x_is (parts_are ∙ go (leb 2 d) refl)
        where
          go : (b : Bool) → leb 2 d ≡ b → read_parts s (take d tail) ≡ refused 23 0
          go true q = records_left (leb-true 2 d q)
          go false q = no_count_left (leb-false 2 d q)

  -- the number, by the byte
  pub cut_number : read_file cut out ≡ stop 0 out (choose (both (leb 9 n) (ltb n (9 + length s))) 1 23) 0
  cut_number = go (leb 9 n) refl (ltb n (9 + length s)) refl
    where
      go : (b : Bool) → leb 9 n ≡ b → (d : Bool) → ltb n (9 + length s) ≡ d → read_file cut out ≡ stop 0 out (choose (both b d) 1 23) 0
      go false q d r = cut_in_head (leb-false 9 n q)
      go true q true r = cut_in_curve (leb-true 9 n q) (ltb-true n (9 + length s) r)
      go true q false r = cut_behind (leb-true 9 n q) (ltb-false n (9 + length s) r)
