use Rattle.poly_root.proofs.Largest.{alone, largest}
use Rattle.poly_root.proofs.largest_from.Goals as goal

pub returns-in-Some : goal.returns-in-Some
returns-in-Some c = largest c.args.prime.m c.args.prime.prime c.args.u c.args.r c.requires.root c.add-b.ensures c.mul.ensures c.add-c.ensures c.in-Some.ensures c.larger.ensures c.larger-in-Some.ensures

pub returns-in-None : goal.returns-in-None
returns-in-None c = alone c.args.prime.m c.args.prime.prime c.args.u c.args.r c.requires.root c.add-b.ensures c.mul.ensures c.add-c.ensures c.in-None.ensures c.settle.ensures
