-- The three lines speak of one list of meters: of a batch of at most 4,096 good records the text is their count, the first repeat among their
-- divisors and the total of their divisors; and a batch that isn't refused is such a list.
use Prim.Native.Nat.{ℕ, ◌≤◌}
use mathlib.Core.Path.{◌≡◌, refl, sym, ap, ◌∙◌}
use mathlib.Core.List.{List, ◌++◌, map, flatten}
use lib.ListN.{length}
use Rattle.rules.specs.Pair.{neutral}
use Rattle.rules.specs.Sum.{sum}
use Rattle.rules.specs.Multiple.{total}
use Rattle.rules.specs.Records.{Checked, refused, taken, CurveRecord, PairOf, curve, read_curve}
use Rattle.rules.specs.Lists.{Batch, Repeat, batch, first_repeat}
use Rattle.rules.proofs.Calls.Refusals.{check}
use Rattle.rules.specs.Calls.{Reply, repeat_call}
use Rattle.rules.proofs.Calls.Batches.{pair_of, AllRecords, MadeOf, batch_records, batch_made}
use Rattle.rules.proofs.Calls.Repeats.{repeat_records}
use Rattle.text_lines.specs.Lines.{count_line, repeat_line, total_line, refused_line}
use Rattle.text_lines.specs.Rule.Text.{text_of}

module _ (s : List ℕ) {c : CurveRecord} (ec : read_curve s ≡ taken c) where
  abbrev pub lines_of : List (List ℕ) → List ℕ
  lines_of rs = count_line (length rs) ++ (repeat_line (first_repeat c.p (map (pair_of c) rs)) ++ total_line c.p (total (curve c) (map (pair_of c) rs)))

  abbrev after : (b : List ℕ) → Checked (Batch (PairOf c)) → List ℕ
  after b x = check x refused_line (λ t. count_line t.count ++ (repeat_line (repeat_call s b).own ++ total_line c.p t.result))

  on_curve : (b : List ℕ) → text_of s b ≡ after b (batch c (sum (curve c)) b neutral)
  unfolding text_of
  on_curve b = ap (λ (x : Checked CurveRecord). check x refused_line (λ d. check (batch d (sum (curve d)) b neutral) refused_line (λ t. count_line t.count ++ (repeat_line (repeat_call s b).own ++ total_line d.p t.result)))) ec

  pub three_of : (rs : List (List ℕ)) → AllRecords c rs → length rs ≤ 4096 → text_of s (flatten rs) ≡ lines_of rs
  unfolding total
  three_of rs good l = on_curve (flatten rs) ∙ ap (after (flatten rs)) (batch_records c (sum (curve c)) rs neutral good l)
      ∙ ap (λ (x : Reply Repeat). count_line (length rs) ++ (repeat_line x.own ++ total_line c.p (total (curve c) (map (pair_of c) rs)))) (repeat_records s ec rs good l)

  pub data Said (b : List ℕ) : Type 0 where
    refuses : (n k : ℕ) → text_of s b ≡ refused_line n k → Said b
    lists : (m : MadeOf c b) → text_of s b ≡ lines_of m.records → Said b

  pub said : (b : List ℕ) → Said b
  said b = go (batch c (sum (curve c)) b neutral) refl
    where
      go : (x : Checked (Batch (PairOf c))) → batch c (sum (curve c)) b neutral ≡ x → Said b
      go (refused n k) e = refuses n k (on_curve b ∙ ap (after b) e)
      go (taken t) e = let m : MadeOf c b = batch_made c (sum (curve c)) b neutral e in lists m (ap (text_of s) (sym m.bytes) ∙ three_of m.records m.good m.few)
