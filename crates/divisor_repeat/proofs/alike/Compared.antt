-- Why `same_cubics` decides whether two divisors are equal or opposite: by u (`other_u`), and then by v (`same_by_v`) or -v (`same_by_turned`).
use mathlib.Core.Path.{◌≡◌, refl, sym, ap, ap₂, ◌∙◌}
use mathlib.Core.List.{List, [], ◌∷◌}
use mathlib.Core.Bool.{Bool, true, false}
use mathlib.Core.Logic.{inl, inr}
use native.Mathlib.Omega.{arith}
use lib.ListN.{length}
use Rattle.algebra.proofs.Ring.CRing.{neg_unique}
use Rattle.algebra.proofs.Ring.Field.{Arith}
use Rattle.algebra.proofs.Zmod.Zmod.{zmod}
use Rattle.algebra.proofs.Zmod.PrimeField.{modulo}
use Rattle.algebra.proofs.List.Ops.{neg_l}
use Rattle.rules.specs.Pair.{Pair, opposite}
use Rattle.rules.specs.Lists.{Same}
use Rattle.field.specs.declared.Modulus.{Modulus}
use Rattle.field.specs.declared.Residue.{Residue}
use Rattle.field.specs.Primes.{Decides}
use Rattle.field.specs.Residues.{el, Stands, Settles}
use Rattle.field.proofs.Laws.{settled_unique}
use Rattle.divisor.specs.declared.Divisor.{Divisor}
use Rattle.divisor.specs.Divisors.{us, vs, elements, pair, AllSettled, Held}

-- a test that decides A decides what holds exactly where A does
pub decides_as : {A B : Type 0} (r : Bool) → (A → B) → (B → A) → Decides r A → Decides r B
decides_as true to from h = to h
decides_as false to from h = λ b. h (from b)

module _ (K : Arith) where
  pub same_u : (a b : Pair K) → Same a b → a.u ≡ b.u
  unfolding opposite
  same_u a b (inl e) = ap (λ (x : Pair K). x.u) e
  same_u a b (inr e) = ap (λ (x : Pair K). x.u) e

module _ (m : Modulus) where
  -- a sum that is 0
  pub cancels_is : (a b : Residue) {s t : Residue} (r : Bool) → Stands m s ((zmod m.p).add (el m a) (el m b)) → Settles m t (el m s) → Decides r (el m t ≡ (zmod m.p).zer) → Decides r (el m a ≡ (zmod m.p).neg (el m b))
  cancels_is a b r h k = decides_as r
      (λ z. neg_unique (zmod m.p) (el m b) (el m a) ((zmod m.p).add_comm (el m b) (el m a) ∙ sym (k.is ∙ h.is) ∙ z))
      (λ z. k.is ∙ h.is ∙ ap (λ t. (zmod m.p).add t (el m b)) z ∙ (zmod m.p).neg_add (el m b))

  -- one element is one number, where all are below p
  one_list : (k l : List Residue) → AllSettled m k → AllSettled m l → elements m k ≡ elements m l → k ≡ l
  one_list [] [] f g q = refl
  one_list [] (y ∷ l) f g q = absurd (omega (arith, ap length q))
  one_list (x ∷ k) [] f g q = absurd (omega (arith, ap length q))
  one_list (x ∷ k) (y ∷ l) f g q = ap₂ ◌∷◌ (settled_unique m x y f.0 g.0 (cc)) (one_list k l f.1 g.1 (cc))

  -- ---- by u, and then v or -v
  module _ (d e : Divisor) (h : Held m d × Held m e) where
    one_v : elements m (vs d) ≡ elements m (vs e) → vs d ≡ vs e
    one_v = one_list (vs d) (vs e) h.0.v h.1.v

    pub other_u : (us d ≡ us e → ⊥) → Same (pair m d) (pair m e) → ⊥
    unfolding pair
    other_u n s = n (one_list (us d) (us e) h.0.u h.1.u (same_u (modulo m.p) (pair m d) (pair m e) s))

    pub same_by_v : us d ≡ us e → vs d ≡ vs e → Same (pair m d) (pair m e)
    unfolding pair
    same_by_v p q = inl (ap₂ (λ u v. record { u = elements m u; v = elements m v }) p q)

    pub same_by_turned : (r : Bool) → us d ≡ us e → (vs d ≡ vs e → ⊥) → Decides r (elements m (vs d) ≡ neg_l (zmod m.p) (elements m (vs e))) → Decides r (Same (pair m d) (pair m e))
    unfolding pair opposite
    same_by_turned r p n = decides_as r (λ q. inr (ap₂ (λ u v. record { u = elements m u; v = v }) p q)) back
      where
        back : Same (pair m d) (pair m e) → elements m (vs d) ≡ neg_l (zmod m.p) (elements m (vs e))
        back (inl q) = absurd (n (one_v (ap (λ (x : Pair (modulo m.p)). x.v) q)))
        back (inr q) = ap (λ (x : Pair (modulo m.p)). x.v) q
