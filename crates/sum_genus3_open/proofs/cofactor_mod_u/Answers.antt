use mathlib.Core.Path.{refl, ap₂, ◌∙◌}
use Rattle.algebra.proofs.Zmod.Zmod.{zmod}
use Rattle.field.proofs.Laws.{settled_kept}
use Rattle.sum_formulas.proofs.Open3.{right_tops}
use Rattle.sum_genus3_open.proofs.cofactor_mod_u.Goals as goal

pub returns : goal.returns
returns c =
    let K = zmod c.args.m.p in
    record {
      kept = record { c0 = c.cofactor_0-k0.ensures.kept; c1 = c.cofactor_1-k1.ensures.kept; c2 = c.sub-k2.ensures.kept };
      q = _;
      tops = λ g0 g1 g2. right_tops K _ _ _ _ _ _ _ _ _ _ _ _ _ _ _ _ _ _ _ _ _ _
          c.dbl-t1.ensures.is
          c.dbl-t2.ensures.is
          c.sqr-t3.ensures.is
          refl
          c.mul-p.ensures.is
          (c.sub-t5.ensures.is ∙ ap₂ (λ c t. K.add c (K.neg t)) (c.sub.ensures.is ∙ ap₂ (λ c t. K.add c (K.neg t)) c.add.ensures.is refl) refl)
          (c.sub-k2.ensures.is ∙ ap₂ (λ c t. K.add c (K.neg t)) (c.add-2.ensures.is ∙ ap₂ K.add refl c.dbl.ensures.is) refl)
          c.cofactor_1-k1.ensures.is
          c.cofactor_0-k0.ensures.is;
    }
