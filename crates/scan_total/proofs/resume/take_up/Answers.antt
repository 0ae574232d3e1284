use native.Mathlib.Omega.{arith}
use borrow.Author.Tests.{not-true, not-false}
use Rattle.std.proofs.Common.{ap, not}
use Rattle.field.proofs.Decide.{decided_yes, decided_no}
use Rattle.scan_total.proofs.resume.Resumed.{heavy, out_of_range, off_curve, overfull, full, goes_on}
use Rattle.scan_total.proofs.resume.take_up.Goals.{then-g-weight-via-then-g-weight, then-g-weight-via-else-g-weight+then-not-in_range, then-not-contains-via-then-not-contains, then-not-contains-via-else-not-contains+then-too_many}
use Rattle.scan_total.proofs.resume.take_up.Goals as goal

pub returns-then-g-weight : goal.returns-then-g-weight
returns-then-g-weight c = elim c.then-g-weight.branch [
  | then-g-weight-via-then-g-weight w ↦ heavy c.args.c c.args.d c.args.count _ c.weight.ensures w.if-g-weight.true
  | then-g-weight-via-else-g-weight+then-not-in_range w ↦ out_of_range c.args.c c.args.d c.args.count _ c.weight.ensures w.if-g-weight.false (decided_no {b = w.in_range.result} (not-true _ (ap not w.if-not-in_range.true)) w.in_range.ensures)
]

pub returns-then-not-contains : goal.returns-then-not-contains
returns-then-not-contains c =
    let all = decided_yes {b = c.in_range.result} (not-false _ (ap not c.if-not-in_range.false)) c.in_range.ensures in
    elim c.then-not-contains.branch [
      | then-not-contains-via-then-not-contains w ↦ off_curve c.args.c c.args.d c.args.count _ c.weight.ensures c.if-g-weight.false all _ c.residues_of-x.ensures (decided_no {b = c.contains.result} (not-true _ (ap not w.if-not-contains.true)) c.contains.ensures)
      | then-not-contains-via-else-not-contains+then-too_many w ↦ overfull c.args.c c.args.d c.args.count _ c.weight.ensures c.if-g-weight.false all _ c.residues_of-x.ensures (decided_yes {b = c.contains.result} (not-false _ (ap not w.if-not-contains.false)) c.contains.ensures) (omega (arith, w.if-too_many.true))
    ]

pub returns-then-count-eq-MOST_COUNT : goal.returns-then-count-eq-MOST_COUNT
returns-then-count-eq-MOST_COUNT c = full c.args.c c.args.d c.args.count _ c.weight.ensures c.if-g-weight.false (decided_yes {b = c.in_range.result} (not-false _ (ap not c.if-not-in_range.false)) c.in_range.ensures) _ c.residues_of-x.ensures (decided_yes {b = c.contains.result} (not-false _ (ap not c.if-not-contains.false)) c.contains.ensures) c.if-count-eq-MOST_COUNT.true

pub returns : goal.returns
returns c = goes_on c.args.c c.args.d c.args.count _ c.weight.ensures c.if-g-weight.false (decided_yes {b = c.in_range.result} (not-false _ (ap not c.if-not-in_range.false)) c.in_range.ensures) _ c.residues_of-x.ensures (decided_yes {b = c.contains.result} (not-false _ (ap not c.if-not-contains.false)) c.contains.ensures) (omega (arith, c.if-count-eq-MOST_COUNT.false, c.if-too_many.false))
