-- What is known of r and of the top coefficient of s' before a formula divides by them; and where a formula has no answer.
use Rattle.std.specs.Prelude.{◌≡◌, ◌≢◌, ◌⊎◌}
use Rattle.algebra.proofs.Ring.CRing.{CRing}
use Rattle.algebra.proofs.Zmod.Zmod.{zmod}
use Rattle.algebra.proofs.Poly.Poly.{poly}
use Rattle.field.specs.declared.Modulus.{Modulus}
use Rattle.field.specs.declared.Residue.{Residue}
use Rattle.field.specs.Residues.{el}
use Rattle.sum_formulas.specs.declared.Condition.{Condition}
use Rattle.sum_formulas.specs.declared.Condition.TheVariants.{Special, Flat, Main}

abbrev pub Looked : (m : Modulus) → Residue → Residue → Condition → Type 0
Looked m r top Special = el m r ≡ (zmod m.p).zer
Looked m r top Flat = (el m r ≢ (zmod m.p).zer) × (el m top ≡ (zmod m.p).zer)
Looked m r top Main = (el m r ≢ (zmod m.p).zer) × (el m top ≢ (zmod m.p).zer)

-- a combination of them is 1
pub record Coprime (F : CRing) (a b : (poly F).El) : Type 0 where
  pub s : (poly F).El
  pub t : (poly F).El
  pub is : (poly F).add ((poly F).mul s a) ((poly F).mul t b) ≡ (poly F).one

-- conditions 2 and 3 (src/lib.rt), once for every table: what was to be inverted, h, is coprime to u, and the slope isn't short. Where a formula has no answer one of them fails (`short` is never so in genus 2)
abbrev pub Unfit : (m : Modulus) → (h u : (poly (zmod m.p)).El) → (short : Type 0) → Type 0
Unfit m h u short = (Coprime (zmod m.p) h u → ⊥) ⊎ short
