use Rattle.algebra.proofs.Zmod.Zmod.{zmod}
use Rattle.field.proofs.Laws.{settled_kept}
use Rattle.sum_formulas.proofs.Close3.{quotient_twice}
use Rattle.sum_genus3.proofs.Chains.{dot_last, plus}
use Rattle.sum_genus3.proofs.new_u_twice.Goals as goal

pub returns : goal.returns
returns c =
    let K = zmod c.args.m.p in
    record {
      kept = record { c0 = c.dot-n0.ensures.kept; c1 = c.dot-n1.ensures.kept; c2 = c.add-n2.ensures.kept; c3 = c.dbl-n3.ensures.kept };
      tops = quotient_twice K _ _ _ _ _ _ _ _ _ _ _ _ _ _ _ _
          c.dbl-n3.ensures.is
          (plus K _ _ _ _ _ c.sqr.ensures.is c.dbl.ensures.is c.add-n2.ensures.is)
          c.dbl-d.ensures.is
          (dot_last K _ _ _ _ _ _ c.sub.ensures.is c.dot-n1.ensures.is)
          c.over_u-q.ensures.is
          c.dot-n0.ensures.is;
    }
