use Rattle.field.proofs.Decide.{decided_yes, decided_no}
use Rattle.divisor.specs.declared.Divisor.TheVariants.{Three}
use Rattle.divisor_repeat.proofs.alike.Compared.{other_u, same_by_v, same_by_turned}
use Rattle.divisor_repeat.proofs.alike.same_cubics.Goals as goal

pub returns-then-not-equal_u : goal.returns-then-not-equal_u
returns-then-not-equal_u c = other_u c.args.m (Three c.args.a) (Three c.args.b) c.requires (decided_no c.if-not-equal_u.true c.equal_u.ensures)

pub returns-then-equal_v : goal.returns-then-equal_v
returns-then-equal_v c = same_by_v c.args.m (Three c.args.a) (Three c.args.b) c.requires (decided_yes c.if-not-equal_u.false c.equal_u.ensures) (decided_yes c.if-equal_v.true c.equal_v.ensures)

pub returns : goal.returns
returns c = same_by_turned c.args.m (Three c.args.a) (Three c.args.b) c.requires c.opposite_v.result (decided_yes c.if-not-equal_u.false c.equal_u.ensures) (decided_no c.if-equal_v.false c.equal_v.ensures) c.opposite_v.ensures
