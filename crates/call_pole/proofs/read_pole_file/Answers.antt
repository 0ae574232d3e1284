use native.Mathlib.Omega.{arith}
use mathlib.Core.Path.{sym, ◌∙◌}
use borrow.Author.Tests.{not-true, not-false}
use Rattle.call_pole.proofs.Parts.{head_short, unmarked, other_version, head_done}
use Rattle.std.proofs.Common.{ap}
use Rattle.std.proofs.Common.{not}
use Rattle.call_pole.proofs.read_pole_file.Goals as goal

pub returns-then-file-lt9 : goal.returns-then-file-lt9
returns-then-file-lt9 c = rw c.at.ensures (head_short c.args.file.now c.args.out.now (omega arith))

pub returns-then-not-marked : goal.returns-then-not-marked
returns-then-not-marked c = rw c.at-then-not-marked.ensures (unmarked c.args.file.now c.args.out.now (omega arith) (sym c.marked.ensures ∙ not-true _ (ap not c.if-not-marked.true)))

pub returns-then-read16-ne-VERSION : goal.returns-then-read16-ne-VERSION
returns-then-read16-ne-VERSION c = rw c.at-then-read16-ne-VERSION.ensures (other_version c.args.file.now c.args.out.now (omega arith) (sym c.marked.ensures ∙ not-false _ (ap not c.if-not-marked.false)) (λ z. c.if-read16-ne-VERSION.true (c.read16.ensures ∙ z)))

pub returns : goal.returns
returns c =
    head_done c.args.file.now c.args.out.now (omega arith) (sym c.marked.ensures ∙ not-false _ (ap not c.if-not-marked.false)) (omega (arith, c.read16.ensures)) c.read_rest.result c.read_rest.new.out _ c.read32.ensures.word c.read_rest.ensures
