use Rattle.divisor_census.proofs.Advancing.{advance_raised, advance_over}
use Rattle.divisor_census.proofs.advance.Goals as goal

pub returns-in-Some : goal.returns-in-Some
returns-in-Some c = advance_raised c.args.m c.args.w c.args.row c.in-Some.r c.in-Some.ensures

pub returns-in-None : goal.returns-in-None
returns-in-None c = advance_over c.args.m c.args.w c.args.row c.in-None.ensures c.zero.result c.zero.ensures
