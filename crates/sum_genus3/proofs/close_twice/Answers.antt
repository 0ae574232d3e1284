use Rattle.sum_genus3.proofs.Ends.{ends}
use Rattle.sum_genus3.proofs.close_twice.Goals as goal

pub returns : goal.returns
returns c =
    record {
      held = c.second.ensures.held;
      is = ends c.args.m c.args.f4 c.args.f5 c.args.f6 c.args.a c.args.a c.args.o c.divide-y.result c.divide-y.ensures c.stretch-z.result c.stretch-z.ensures c.new_u_twice-n.result c.new_u_twice-n.ensures
          c.new_v-t.result c.new_v-t.ensures c.second.result c.second.ensures;
    }
