-- What a polynomial leaves when it is divided by u. Gives: one coefficient more (`turned_one`, `turned_two`), and the first ones (`begun`, `topped`).
use mathlib.Core.Path.{◌≡◌, sym, ap, ap₂, ◌∙◌, subst}
use mathlib.Core.List.{List, [], ◌∷◌, ◌++◌}
use lib.ListN.{length}
use Rattle.algebra.proofs.List.Ops.{add_l, neg_l, scale_l, slide, divmod, remainder}
use Rattle.algebra.proofs.List.Division.{own_rest}
use Rattle.field.specs.declared.Modulus.{Modulus}
use Rattle.field.specs.declared.Residue.{Residue}
use Rattle.field.specs.Residues.{el, Stands}
use Rattle.divisor.specs.declared.Divisor.{Divisor}
use Rattle.divisor.specs.declared.Divisor.TheVariants.{One, Two}
use Rattle.divisor.specs.declared.Linear.{Linear}
use Rattle.divisor.specs.declared.Quadratic.{Quadratic}
use Rattle.divisor.specs.Divisors.{us, elements}
use Rattle.divisor.proofs.Laws.{length_elements}
use Rattle.divisor.specs.declared.Duo.{Duo}
use Rattle.curve.specs.division.Turns.{K, two, AllKept, Leaves, Turned}

module _ (m : Modulus) where
  open K m use {El as A, add as ◌⊕◌, mul as ◌⊗◌, neg as opp, one as 𝟙}

  infixl 65 ◌⊕◌
  infixl 70 ◌⊗◌
  -- the division's step
  abbrev step : List A → A → List A → List A
  step b c r = add_l (K m) (slide (K m) c r).0 (neg_l (K m) (scale_l (K m) (slide (K m) c r).1 b))

  turned_by : (d : Divisor) (c : Residue) (a r : List Residue) → AllKept m r → elements m r ≡ step (elements m (us d)) (el m c) (elements m a) → Turned m d c a r
  unfolding remainder divmod
  turned_by d c a r k e = record { kept = k; leaves = λ l h. record { kept = k; is = e ∙ ap (step (elements m (us d)) (el m c)) h.is } }

  abbrev pub Less : Residue → A → A → A → Type 0
  Less r c t u = Stands m r (c ⊕ opp (t ⊗ u))

  pub less_stands : (c t u : Residue) {p r : Residue} → Stands m p (el m t ⊗ el m u) → Stands m r (el m c ⊕ opp (el m p)) → Less r (el m c) (el m t) (el m u)
  less_stands c t u h k = record { kept = k.kept; is = k.is ∙ ap (λ (s : A). el m c ⊕ opp s) h.is }

  abbrev pub Twice : Residue → Residue → Type 0
  Twice r a = Stands m r (el m a ⊕ el m a)

  pub turned_one : (d : Linear) (c a r : Residue) → Less r (el m c) (el m a) (el m d.u0) → Turned m (One d) c (a ∷ []) (r ∷ [])
  unfolding slide add_l neg_l scale_l
  turned_one d c a r h = turned_by (One d) c (a ∷ []) (r ∷ []) (h.kept, tt) (ap (λ (s : A). s ∷ []) h.is)

  pub turned_two : (d : Quadratic) (c : Residue) (a r : Duo) → Less r.c0 (el m c) (el m a.c1) (el m d.u0) → Less r.c1 (el m a.c0) (el m a.c1) (el m d.u1) → Turned m (Two d) c (two a) (two r)
  unfolding slide add_l neg_l scale_l
  turned_two d c a r h k = turned_by (Two d) c (two a) (two r) (h.kept, (k.kept, tt)) (ap₂ (λ (s t : A). s ∷ t ∷ []) h.is k.is)

  -- as many coefficients as u has are their own rest
  pub begun : (d : Divisor) (l : List Residue) → AllKept m l → length l ≡ length (us d) → Leaves m d (elements m l) l
  begun d l k e = record { kept = k; is = sym (own_rest (K m) (elements m (us d)) (elements m l) (length_elements m l ∙ e ∙ sym (length_elements m (us d)))) }

  -- the last of them being 1
  pub topped : (d : Divisor) (l : List A) {r : List Residue} (o : Residue) → Leaves m d (l ++ (el m o ∷ [])) r → el m o ≡ 𝟙 → Leaves m d (l ++ (𝟙 ∷ [])) r
  topped d l {r} o h e = subst (λ (t : A). Leaves m d (l ++ (t ∷ [])) r) e h
