use Rattle.field.proofs.Decide.{decided_yes, decided_no}
use Rattle.sum_formulas.proofs.look.Goals as goal

pub returns-then-is_zero : goal.returns-then-is_zero
returns-then-is_zero c = decided_yes c.if-is_zero.true c.is_zero.ensures

pub returns-then-is_zero-2 : goal.returns-then-is_zero-2
returns-then-is_zero-2 c = (decided_no c.if-is_zero.false c.is_zero.ensures, decided_yes c.if-is_zero-2.true c.is_zero-2.ensures)

pub returns : goal.returns
returns c = (decided_no c.if-is_zero.false c.is_zero.ensures, decided_no c.if-is_zero-2.false c.is_zero-2.ensures)
