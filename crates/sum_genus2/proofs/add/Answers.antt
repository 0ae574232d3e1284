use mathlib.Core.Logic.{inl}
use borrow.Author.Rules.{rules}
use Rattle.divisor.specs.declared.Divisor.TheVariants.{One, Two}
use Rattle.field.proofs.Laws.{settled_kept}
use Rattle.sum_genus2.proofs.Found.{unit_r, unit_both, undoes, told, is_sum}
use Rattle.sum_genus2.proofs.add.Goals as goal

pub inverse-i-requires-in-Main : goal.inverse-i-requires-in-Main
inverse-i-requires-in-Main c = let main = told c.args.prime.m c.chord-o.result c.in-Main.is c.look-k.ensures in
    unit_both c.args.prime.m c.args.prime.prime c.chord-o.result c.chord-o.ensures.ready main.0 main.1 c.mul.result c.mul.ensures

pub returns-in-Flat : goal.returns-in-Flat
returns-in-Flat c = is_sum c.args.prime.m c.args.f4 c.args.a c.args.b c.chord-o.result c.chord-o.ensures (told c.args.prime.m c.chord-o.result c.in-Flat.is c.look-k.ensures).0
    (One c.close_flat-d.result) c.close_flat-d.ensures

pub returns-in-Main : goal.returns-in-Main
returns-in-Main c = is_sum c.args.prime.m c.args.f4 c.args.a c.args.b c.chord-o.result c.chord-o.ensures (told c.args.prime.m c.chord-o.result c.in-Main.is c.look-k.ensures).0
    (Two c.close-d.result) c.close-d.ensures
