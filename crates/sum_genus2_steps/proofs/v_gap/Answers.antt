use Rattle.algebra.proofs.Zmod.Zmod.{zmod}
use Rattle.field.proofs.Laws.{settled_kept}
use Rattle.sum_formulas.proofs.Genus2.{gap2_is}
use Rattle.sum_genus2_steps.proofs.v_gap.Goals as goal

pub returns : goal.returns
returns c = record { kept = record { c0 = c.sub-c0.ensures.kept; c1 = c.sub-c1.ensures.kept }; is = gap2_is (zmod c.args.m.p) _ _ _ _ _ _ c.sub-c0.ensures.is c.sub-c1.ensures.is }
