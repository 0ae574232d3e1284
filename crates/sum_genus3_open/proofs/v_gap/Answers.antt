use Rattle.algebra.proofs.Zmod.Zmod.{zmod}
use Rattle.field.proofs.Laws.{settled_kept}
use Rattle.sum_formulas.proofs.Open3.{gap_is}
use Rattle.sum_genus3_open.proofs.v_gap.Goals as goal

pub returns : goal.returns
returns c =
    let K = zmod c.args.m.p in
    record {
      kept = record { c0 = c.sub-c0.ensures.kept; c1 = c.sub-c1.ensures.kept; c2 = c.sub-c2.ensures.kept };
      is = gap_is K _ _ _ _ _ _ _ _ _
          c.sub-c0.ensures.is
          c.sub-c1.ensures.is
          c.sub-c2.ensures.is;
    }
