use mathlib.Core.Path.{ap}
use Rattle.rules.specs.Signed.Digits.{minus, null, plus}
use Rattle.multiple_affine.proofs.promise.Folds.{with_one, taken, itself_given}
use Rattle.scalar.proofs.Upper.{plus_else}
use Rattle.scalar.specs.Recoded.{digit}
use Rattle.multiple_affine.proofs.step.Goals as goal

pub returns-then-digit-eq-MINUS : goal.returns-then-digit-eq-MINUS
returns-then-digit-eq-MINUS c = λ k e. with_one c.args.c c.args.a c.requires.right c.args.r c.double-t.result c.double-t.ensures k e c.args.digit minus (ap digit c.if-digit-eq-MINUS.true) c.sum.result (taken c.args.c c.args.a c.args.b c.requires.opposed c.double-t.result c.sum.result c.sum.ensures)

pub returns-then-digit-eq-NULL : goal.returns-then-digit-eq-NULL
returns-then-digit-eq-NULL c = λ k e. with_one c.args.c c.args.a c.requires.right c.args.r c.double-t.result c.double-t.ensures k e c.args.digit null (ap digit c.if-digit-eq-NULL.true) c.double-t.result (itself_given c.args.c c.double-t.result c.double-t.ensures.holds)

pub returns : goal.returns
returns c = λ k e. with_one c.args.c c.args.a c.requires.right c.args.r c.double-t.result c.double-t.ensures k e c.args.digit plus (plus_else c.args.digit c.if-digit-eq-MINUS.false c.if-digit-eq-NULL.false) c.sum-2.result c.sum-2.ensures
