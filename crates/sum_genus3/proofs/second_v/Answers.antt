use mathlib.Core.Path.{refl}
use Rattle.algebra.proofs.Zmod.Zmod.{zmod}
use Rattle.field.proofs.Laws.{settled_kept}
use Rattle.sum_formulas.proofs.Close3.{second_rest}
use Rattle.sum_genus3.proofs.Chains.{less_last, same}
use Rattle.sum_genus3.proofs.second_v.Goals as goal

pub returns : goal.returns
returns c =
    let K = zmod c.args.m.p in
    record {
      held = record { u = (c.requires.0, (c.requires.1.0, (c.requires.1.1.0, tt))); v = (c.settle-q0.ensures.settled, (c.settle-q1.ensures.settled, (c.settle-q2.ensures.settled, tt))) };
      u = refl;
      q = _;
      is = second_rest K _ _ _ _ _ _ _ _ _ _
          (same K _ _ _ (less_last K _ _ _ _ c.mul.ensures.is c.sub.ensures.is) c.settle-q2.ensures.is)
          (same K _ _ _ (less_last K _ _ _ _ c.mul-2.ensures.is c.sub-2.ensures.is) c.settle-q1.ensures.is)
          (same K _ _ _ (less_last K _ _ _ _ c.mul-3.ensures.is c.sub-3.ensures.is) c.settle-q0.ensures.is);
    }
