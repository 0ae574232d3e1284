-- What the operations without a loop stand for: constant, one, opposite.
use Prim.Native.Nat.{◌+◌, max}
use mathlib.Core.Path.{ap, ◌∙◌}
use native.Mathlib.Omega.{arith}
use Rattle.algebra.proofs.Poly.Term.{C, term_one}
use Rattle.field.specs.declared.Residue.{Residue}
use Rattle.field.specs.declared.Modulus.{Modulus}
use Rattle.field.specs.Residues.{el, Settles}
use Rattle.poly.specs.declared.Poly.{Poly}
use Rattle.poly.specs.Polys.{K, P, pol, Is}
use Rattle.poly.proofs.Lengths.{recast}

module _ (m : Modulus) where
  open P m use {El as Po, add as ◌+P◌, neg as negP, zer as 0P, one as 1P}

  infixl 65 ◌+P◌
  abbrev co : Residue → Po
  co x = C (K m) (el m x)

  pub constant_is : {z r : Poly} (x : Residue) → Is m z 0P 0 → Is m r (pol m z +P co x) (max z.n (0 + 1)) → Is m r (co x) 1
  constant_is x hz h = recast m h (ap (λ t. t +P co x) hz.is ∙ (P m).zer_add (co x)) (omega (arith, hz.short))

  pub one_is : {r : Poly} {x : Residue} → Settles m x (K m).one → Is m r (co x) 1 → Is m r 1P 1
  one_is hx h = recast m h (ap (C (K m)) hx.is ∙ term_one (K m)) (omega arith)

  pub neg_is : (a : Poly) {z r : Poly} → Is m z 0P 0 → Is m r (pol m z +P negP (pol m a)) (max z.n a.n) → Is m r (negP (pol m a)) a.n
  neg_is a hz h = recast m h (ap (λ t. t +P negP (pol m a)) hz.is ∙ (P m).zer_add (negP (pol m a))) (omega (arith, hz.short))
