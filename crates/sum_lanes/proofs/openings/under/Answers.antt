use mathlib.Core.Path.{refl}
use Rattle.sum_lanes.proofs.openings.Sums.{fit_known, under_none, under_some}
use Rattle.sum_lanes.proofs.openings.under.Goals as goal

pub returns-in-Special : goal.returns-in-Special
returns-in-Special c = under_none c.args.prime.m c.in-Special.is c.one.result c.one.ensures

pub returns-in-ByTwo : goal.returns-in-ByTwo
returns-in-ByTwo c = let k = fit_known c.args.prime.m c.in-ByTwo.is c.requires in under_some c.args.prime c.in-ByTwo.is _ _ k.0 k.1 c.mul.result c.mul.ensures refl

pub returns-in-ByThree : goal.returns-in-ByThree
returns-in-ByThree c = let k = fit_known c.args.prime.m c.in-ByThree.is c.requires in under_some c.args.prime c.in-ByThree.is _ _ k.0 k.1 c.mul-in-ByThree.result c.mul-in-ByThree.ensures refl
