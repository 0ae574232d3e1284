use native.Mathlib.Omega.{arith}
use Rattle.call_pole.proofs.Ends.{ends_short, ends_first, ends_early, ends_second}
use Rattle.call_pole.proofs.curve_end.Goals as goal

pub returns-then-all-lt6 : goal.returns-then-all-lt6
returns-then-all-lt6 c = ends_short c.args.s.now c.if-all-lt6.true

pub returns-then-read16-eq1 : goal.returns-then-read16-eq1
returns-then-read16-eq1 c = ends_first c.args.s.now c.wide.ensures.0 c.read16.ensures c.if-read16-eq1.true c.min.ensures

pub returns-then-all-n : goal.returns-then-all-n
returns-then-all-n c = ends_early c.args.s.now c.wide.ensures.0 c.read16.ensures c.if-read16-eq1.false (omega arith)

pub returns : goal.returns
returns c =
    ends_second c.args.s.now c.wide.ensures.0 c.read16.ensures c.if-read16-eq1.false c.wide-2.ensures.0 c.min-2.ensures
