use mathlib.Core.Path.{refl, ap, ap₂, ◌∙◌}
use Rattle.algebra.proofs.Zmod.Zmod.{zmod}
use Rattle.field.proofs.Laws.{one_ne, settled_kept}
use Rattle.sum_formulas.proofs.Coprime.{r2_none}
use Rattle.sum_formulas.proofs.Genus2.{invert2_is}
use Rattle.sum_genus2_steps.proofs.invert_u.Goals as goal

pub returns : goal.returns
returns c =
    let K = zmod c.args.m.p in
    let h3 = c.add-i0.ensures.is ∙ ap₂ K.add c.mul.ensures.is refl in
    let h0 = h3 ∙ ap (K.add _) c.sub-e.ensures.is in
    let is = invert2_is K _ _ _ _ _ _ _ _ c.sub-i1.ensures.is c.sub-e.ensures.is h3
    (c.settle-r.ensures.is ∙ c.dot.ensures.is ∙ ap₂ K.add refl (ap₂ K.mul c.sqr.ensures.is refl)) in (
      record {
        eased = record { i = record { c0 = c.add-i0.ensures.kept; c1 = c.sub-i1.ensures.kept }; e = c.sub-e.ensures.kept; is = h3 };
        settled = c.settle-r.ensures.settled;
        j = _;
        is = is;
        none = λ z. r2_none K (one_ne c.args.m) _ _ _ _ _ _ _ _ c.sub-i1.ensures.is h0 is z;
      },
      record { c1 = c.sub-i1.ensures.is; c0 = h0 },
    )
