-- The text by what its parts answer: the file's bytes, the curve, the batch's total, its first repeat.
use Prim.Native.Nat.{ℕ, ◌≤◌, ◌<◌}
use mathlib.Core.Path.{◌≡◌, sym, ap, subst, ◌∙◌}
use mathlib.Core.List.{List, ◌++◌}
use mathlib.Core.Bool.{Bool}
use native.Mathlib.Omega.{arith}
use borrow.Author.Tests.{lt-ltb, le-ltb}
use lib.Dec.{ltb}
use lib.ListN.{length, length-append}
use Rattle.std.specs.Prelude.{Option, Some, None, Result, Ok, Err, IsErrAnd}
use Rattle.std.specs.Borrow.{Bor}
use Rattle.rules.specs.Pair.{neutral}
use Rattle.rules.specs.Sum.{sum}
use Rattle.rules.specs.Records.{Checked, CurveRecord, PairOf, choose, curve}
use Rattle.rules.specs.Lists.{Batch, batch, Repeat}
use Rattle.rules.proofs.Calls.Refusals.{check}
use Rattle.rules.specs.Calls.{Reply, repeat_call}
use Rattle.refusals.specs.declared.Refusal.{Refusal}
use Rattle.refusals.specs.declared.Refusal.TheVariants.{Unreadable, FileLength}
use Rattle.refusals.specs.declared.Refused.{Refused}
use Rattle.field.specs.declared.Modulus.{Modulus}
use Rattle.divisor.specs.declared.Divisor.{Divisor}
use Rattle.divisor.specs.Divisors.{pair}
use Rattle.divisor.proofs.Laws.{weight_le, weight_is, weight_is_v}
use Rattle.curve.specs.declared.Curve.{Curve}
use Rattle.curve.specs.Record.{record_of}
use Rattle.record_curve.specs.Read.{CurveIs}
use Rattle.call_total.specs.declared.Total.{Total}
use Rattle.call_total.specs.Totals.{TotalIs}
use Rattle.call_batch.specs.declared.places.Repeat.{Repeat as Found}
use Rattle.call_batch.specs.repeat.Repeats.{repeat_on, RepeatIs}
use Rattle.call_batch.proofs.repeat.Calls.{on_curve as repeat-called}
use Rattle.text_lines.specs.declared.Places.{Places}
use Rattle.text_lines.specs.Lines.{count_line, repeat_line, total_line, refused_line}
use Rattle.text_lines.specs.Rule.Text.{File, with_file, text, text_of, lines_of, census_of, census_text}
use Rattle.text_lines.specs.digits.Put.{PutAt, Room}
use Rattle.text_lines.specs.Printed.{Printed, places_of}
use Rattle.text_tally.specs.Read.{file_of, FileIs, FilesAre}
use Rattle.text_tally.specs.Tallied.{OwnPlaces, ShortPlaces, Shows}
use Rattle.text_tally.specs.census.Opened.{TrainingOf}
use Rattle.call_census.specs.Training.{TrainingIs}
use Rattle.refusals.proofs.Exits.{exit_err}
use Rattle.text_lines.proofs.digits.Decimals.{Word}
use Rattle.text_lines.proofs.Lengths.{count-short, repeat_short, total-short}
use Rattle.text_lines.proofs.Printing.{printed}
use Rattle.text_lines.proofs.digits.Putting.{room-first, room_next, put_then}

-- ---- three lines, and room for them
module _ (n : ℕ) (q : Option Places) (m : Modulus) (d : Divisor) where
  abbrev pub three : List ℕ
  three = count_line n ++ (repeat_line (places_of q) ++ total_line m.p (pair m d))

  module _ (hn : Word n) (hi : Word (places_of q).first) (hj : Word (places_of q).second) where
    three_room : Room 0 three
    three_room =
        omega (
          arith,
          length-append (count_line n) (repeat_line (places_of q) ++ total_line m.p (pair m d)),
          length-append (repeat_line (places_of q)) (total_line m.p (pair m d)),
          count-short n hn,
          repeat_short (places_of q) hi hj,
          total-short m.p (pair m d) (omega (arith, weight_is m d, weight_le d)) (omega (arith, weight_is_v m d, weight_le d)),
        )

    pub count_room : Room 0 (count_line n)
    count_room = room-first 0 (count_line n) (repeat_line (places_of q) ++ total_line m.p (pair m d)) three_room

    module _ {out o : List ℕ} {a : ℕ} (h : PutAt out 0 (count_line n) o a) where
      pub repeat_room : Room a (repeat_line (places_of q))
      repeat_room = room-first a (repeat_line (places_of q)) (total_line m.p (pair m d)) (room_next h (repeat_line (places_of q) ++ total_line m.p (pair m d)) three_room)

      module _ {o' : List ℕ} {b : ℕ} (k : PutAt o a (repeat_line (places_of q)) o' b) where
        pub total_room : Room b (total_line m.p (pair m d))
        total_room = room_next k (total_line m.p (pair m d)) (room_next h (repeat_line (places_of q) ++ total_line m.p (pair m d)) three_room)

        pub three_printed : {o'' : List ℕ} {r : ℕ} → PutAt o' b (total_line m.p (pair m d)) o'' r → Printed out three o'' r
        three_printed l = printed three_room (put_then h (put_then k l))

-- ---- of the bytes of a curve and of a batch
module _ (s b : List ℕ) where
  abbrev after : (c : CurveRecord) → Checked (Batch (PairOf c)) → List ℕ
  after c x = check x refused_line (λ y. count_line y.count ++ (repeat_line (repeat_call s b).own ++ total_line c.p y.result))

  abbrev next : CurveRecord → List ℕ
  next c = after c (batch c (sum (curve c)) b neutral)

  pub no_curve : (by : Refusal) → CurveIs s (Err by) → Shows (text_of s b) (Err (record { by = by; place = 0 }))
  unfolding text_of
  no_curve by h = (tt, sym (ap (λ (x : Checked CurveRecord). check x refused_line next) h))

  module _ (c : Curve) (h : CurveIs s (Ok c)) where
    on_curve : text_of s b ≡ next (record_of c)
    unfolding text_of
    on_curve = ap (λ (x : Checked CurveRecord). check x refused_line next) h

    pub no_total : (r : Refused) → TotalIs c b (Err r) → Shows (text_of s b) (Err r)
    no_total r e = (tt, sym (on_curve ∙ ap (after (record_of c)) e))

    pub tallied : (t : Total) → TotalIs c b (Ok t) → (a : Result (Option Found) Refused) → RepeatIs a (repeat_on c b) → (q : Option Places) → OwnPlaces a q → ShortPlaces q
        → Shows (text_of s b) (Ok (record { count = t.count; repeat = q; total = t.divisor; m = c.prime.m }))
    tallied t e a f q g w = (
      (e.0.held, w),
      sym (on_curve ∙ ap (after (record_of c)) e.1
          ∙ ap (λ (x : Repeat). count_line t.count ++ (repeat_line x ++ total_line c.prime.m.p (pair c.prime.m t.divisor)))
          (sym (g ∙ ap (λ (x : Reply Repeat). x.own) (repeat-called s b c h a f)))),
    )

-- ---- of a file's bytes, and what goes on from them
module _ (q : Option (Bor (List ℕ))) where
  pub no_file : (r : Result (Bor (List ℕ)) Refusal) → (q ≡ None) × (r ≡ Err Unreadable) → FileIs (file_of q) r
  unfolding with_file
  no_file r h = subst (FileIs (file_of q)) (sym h.1) (λ go. ap (λ (x : Option (Bor (List ℕ))). with_file (file_of x) go) h.0)

  module _ (s : Bor (List ℕ)) (e : q ≡ Some s) where
    long_or : (List ℕ → List ℕ) → Bool → List ℕ
    long_or go b = choose b (refused_line 16 0) (go s.now)

    file_is : (go : List ℕ → List ℕ) → with_file (file_of q) go ≡ long_or go (ltb 65536 (length s.now))
    unfolding with_file long_or
    file_is go = ap (λ (x : Option (Bor (List ℕ))). with_file (file_of x) go) e

    pub long_file : 65536 < length s.now → FileIs (file_of q) (Err FileLength)
    unfolding long_or
    long_file l go = file_is go ∙ ap (long_or go) (lt-ltb 65536 (length s.now) l)

    pub whole_file : length s.now ≤ 65536 → FileIs (file_of q) (Ok s)
    unfolding long_or
    whole_file l go = file_is go ∙ ap (long_or go) (le-ltb 65536 (length s.now) l)

-- ---- of two files, the curve's first
module _ (f g : File) where
  pub curve_file : (by : Refusal) → FileIs f (Err by) → FilesAre f g (Err (record { by = by; place = 0 }))
  unfolding text
  curve_file by h = sym (h (λ s. with_file g (λ b. text_of s b)))

  module _ (s : Bor (List ℕ)) (h : FileIs f (Ok s)) where
    pub batch_file : (by : Refusal) → FileIs g (Err by) → FilesAre f g (Err (record { by = by; place = 0 }))
    unfolding text
    batch_file by k = sym (h (λ x. with_file g (λ b. text_of x b)) ∙ k (λ b. text_of s.now b))

    pub both_files : (t : Bor (List ℕ)) → FileIs g (Ok t) → FilesAre f g (Ok (s, t))
    unfolding text
    both_files t k = h (λ x. with_file g (λ b. text_of x b)) ∙ k (λ b. text_of s.now b)

-- ---- of a training curve's file
module _ (f : File) where
  pub no_training_file : (by : Refusal) → FileIs f (Err by) → TrainingOf (census_text f) (Err (record { by = by; place = 0 }))
  unfolding census_text
  no_training_file by h = sym (h census_of)

  module _ (s : Bor (List ℕ)) (h : FileIs f (Ok s)) where
    pub no_training : (by : Refusal) → TrainingIs s.now (Err by) → TrainingOf (census_text f) (Err (record { by = by; place = 0 }))
    unfolding census_text census_of
    no_training by k = sym (h census_of ∙ ap (λ (x : Checked CurveRecord). check x refused_line lines_of) k)

    pub training : (c : Curve) → TrainingIs s.now (Ok c) → TrainingOf (census_text f) (Ok c)
    unfolding census_text census_of
    training c k = h census_of ∙ ap (λ (x : Checked CurveRecord). check x refused_line lines_of) k

-- what leaves by `?`
pub left_by : {T : Type 0} (P : Result T Refused → Type 0) (r : Result T Refused) (d : Refused) → IsErrAnd r (λ y. y ≡ d) → P (Err d) → P r
left_by P r d h p = subst P (sym (exit_err r h)) p
