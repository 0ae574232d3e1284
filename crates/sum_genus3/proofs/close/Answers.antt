use mathlib.Core.Path.{sym, subst}
use Rattle.algebra.proofs.Poly.Poly.{poly}
use Rattle.sum_genus3_open.specs.Opens.{K}
use Rattle.sum_genus3.specs.Steps.{Quotient}
use Rattle.sum_genus3.proofs.Ends.{ends}
use Rattle.sum_genus3.proofs.close.Goals as goal

pub returns : goal.returns
returns c =
    record {
      held = c.second.ensures.held;
      is = ends c.args.m c.args.f4 c.args.f5 c.args.f6 c.args.a c.args.b c.args.o c.divide-y.result c.divide-y.ensures c.stretch-z.result c.stretch-z.ensures c.new_u-n.result
          (subst (λ (p : (poly (K c.args.m)).El). Quotient c.args.m c.args.f6 c.args.a c.args.b c.divide-y.result p c.new_u-n.result) (sym c.stretch-z.ensures.is) c.new_u-n.ensures)
          c.new_v-t.result c.new_v-t.ensures c.second.result c.second.ensures;
    }
