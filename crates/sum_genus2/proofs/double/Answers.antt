use mathlib.Core.Logic.{inl}
use borrow.Author.Rules.{rules}
use Rattle.divisor.specs.declared.Divisor.TheVariants.{One, Two}
use Rattle.field.proofs.Laws.{settled_kept}
use Rattle.sum_genus2.proofs.Found.{unit_r, unit_both, undoes, told, is_double}
use Rattle.sum_genus2.proofs.double.Goals as goal

pub inverse-i-requires-in-Main : goal.inverse-i-requires-in-Main
inverse-i-requires-in-Main c = let main = told c.args.prime.m c.tangent-o.result c.in-Main.is c.look-k.ensures in
    unit_both c.args.prime.m c.args.prime.prime c.tangent-o.result c.tangent-o.ensures.ready main.0 main.1 c.mul.result c.mul.ensures
