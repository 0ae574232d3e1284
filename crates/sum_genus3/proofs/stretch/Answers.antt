use Rattle.algebra.proofs.Zmod.Zmod.{zmod}
use Rattle.field.proofs.Laws.{settled_kept}
use Rattle.sum_formulas.proofs.Close3.{stretch_is}
use Rattle.sum_genus3.proofs.Chains.{plus_first}
use Rattle.sum_genus3.proofs.stretch.Goals as goal

pub returns : goal.returns
returns c =
    let K = zmod c.args.m.p in
    record {
      kept = record { c0 = c.mul-z0.ensures.kept; c1 = c.dot-z1.ensures.kept; c2 = c.add-z2.ensures.kept; c3 = c.add-z3.ensures.kept; c4 = c.add-z4.ensures.kept };
      is = stretch_is K _ _ _ _ _ _ _ _ _ _
          c.mul-z0.ensures.is
          c.dot-z1.ensures.is
          (plus_first K _ _ _ _ c.dot.ensures.is c.add-z2.ensures.is)
          (plus_first K _ _ _ _ (plus_first K _ _ _ _ c.mul.ensures.is c.add.ensures.is) c.add-z3.ensures.is)
          c.add-z4.ensures.is;
    }
