use mathlib.Core.Path.{refl, ap, ap₂, ◌∙◌}
use Rattle.algebra.proofs.Zmod.Zmod.{zmod}
use Rattle.field.proofs.Laws.{one_ne, settled_kept}
use Rattle.sum_formulas.proofs.Coprime.{r2_none_twice}
use Rattle.sum_genus2_steps.proofs.Tables.{tangent_is}
use Rattle.sum_genus2_steps.proofs.invert_twice_v.Goals as goal

pub returns : goal.returns
returns c =
    let K = zmod c.args.m.p in
    let h0 = c.add-i0.ensures.is ∙ ap₂ K.add c.mul.ensures.is refl in
    let is = tangent_is K _ _ _ _ _ _ _ _ c.requires.1.is c.neg-i1.ensures.is h0 (c.settle-r.ensures.is ∙ c.dbl.ensures.is ∙ ap (λ x. K.add x x) c.dot.ensures.is) in
    record {
      eased = record { i = record { c0 = c.add-i0.ensures.kept; c1 = c.neg-i1.ensures.kept }; e = settled_kept c.args.m c.requires.0.v.0; is = h0 };
      settled = c.settle-r.ensures.settled;
      j = _;
      is = is;
      none = λ z. r2_none_twice K (one_ne c.args.m) _ _ _ _ _ _ _ _ c.neg-i1.ensures.is h0 is z;
    }
