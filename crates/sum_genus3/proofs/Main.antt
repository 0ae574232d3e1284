-- Genus 3, where the formula is taken: r and s'2 have inverses (`taken`), and the inverse of their product is what `close` asks for (`divisible`).
use mathlib.Core.Path.{◌≡◌, sym, ap, ◌∙◌, subst}
use Rattle.algebra.proofs.Zmod.Zmod.{zmod}
use Rattle.algebra.proofs.Zmod.Prime.{Prime}
use Rattle.field.specs.declared.Modulus.{Modulus}
use Rattle.field.specs.declared.Residue.{Residue}
use Rattle.field.specs.Residues.{el, HasInverse, Stands, Inverts}
use Rattle.field.proofs.Laws.{settled_kept}
use Rattle.sum_formulas.specs.declared.Condition.{Condition}
use Rattle.sum_formulas.specs.declared.Condition.TheVariants.{Main}
use Rattle.sum_formulas.specs.Conditions.{Looked}
use Rattle.sum_genus3_open.specs.declared.Opened.{Opened}
use Rattle.sum_genus3_open.specs.Opens.{Ready}
use Rattle.sum_genus3.specs.Steps.{Divisible}

module _ (m : Modulus) (good : Prime m.p) (o : Opened) (h : Ready m o) where
  pub told : {k k' : Condition} → k ≡ k' → Looked m o.r o.s.c2 k → Looked m o.r o.s.c2 k'
  told e h = subst (λ (t : Condition). Looked m o.r o.s.c2 t) e h

  pub taken : (k : Condition) → Looked m o.r o.s.c2 k → k ≡ Main → HasInverse m o.r × HasInverse m o.s.c2
  taken k l e =
      let n : Looked m o.r o.s.c2 Main = subst (λ (x : Condition). Looked m o.r o.s.c2 x) e l in
      (record { kept = settled_kept m h.r; nonzero = n.0 }, record { kept = settled_kept m h.s.c2; nonzero = n.1 })

  pub divisible : (p i : Residue) → Stands m p ((zmod m.p).mul (el m o.r) (el m o.s.c2)) → Inverts m p i → Divisible m o i
  divisible p i hp hi = record { ready = h; kept = hi.kept; is = sym (ap (λ (x : (zmod m.p).El). (zmod m.p).mul x (el m i)) hp.is) ∙ hi.is }
