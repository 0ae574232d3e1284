-- Parts of a cubic. Gives: the gcd of the polynomials of u and of a rest (`shared`); the gcd of u with what d leaves is that of u and d (`part_of`); what x^p - x and (x + a)^((p-1)/2) - 1 leave
-- (`field_leaves`, `shift_leaves`).
use Prim.Native.Nat.{ℕ, ◌+◌, ◌-◌, ◌/◌, ◌<◌, max}
use mathlib.Core.Path.{◌≡◌, refl, sym, ap, ap₂, ◌∙◌, subst}
use mathlib.Core.List.{[], ◌∷◌}
use native.Mathlib.Omega.{arith}
use native.Mathlib.Decide.{ℕ_discrete}
use Rattle.algebra.proofs.Ring.CRing.{CRing, mul_zer}
use Rattle.algebra.proofs.Ring.Quote.{ring, quote, by}
use Rattle.algebra.proofs.Ring.Divides.{Divides, divides_add, divides_mul, divides_eq}
use Rattle.algebra.proofs.Ring.Power.{power}
use Rattle.algebra.proofs.Poly.Bound.{Monic}
use Rattle.algebra.proofs.Poly.Poly.{coef}
use Rattle.algebra.proofs.Poly.Term.{C, X, term, constants}
use Rattle.algebra.proofs.Poly.Degree.{Degree, deg_monic, deg_ne}
use Rattle.algebra.proofs.List.Ops.{whole}
use Rattle.algebra.proofs.List.Value.{pol as list-pol, mon, mon_monic}
use Rattle.algebra.proofs.Zmod.Prime.{Prime}
use Rattle.field.specs.declared.Modulus.{Modulus}
use Rattle.field.specs.declared.Residue.{Residue}
use Rattle.field.specs.Residues.{el, Settles, Stands}
use Rattle.field.proofs.Laws.{residue_field}
use Rattle.poly.specs.declared.Poly.{Poly}
use Rattle.poly.specs.Polys.{pol, Is}
use Rattle.poly.proofs.Lengths.{none_is}
use Rattle.poly.proofs.Division.{monic_of}
use Rattle.poly_euclid.specs.Euclid.{Gcd}
use Rattle.curve.proofs.polynomials.Few.{next_term}
use Rattle.rules.proofs.Roots.Factor.{same_degree}
use Rattle.rules.proofs.Roots.Value.{linear, root_iff, root_factor, root_rest}
use Rattle.poly_root.specs.declared.rests.MonicCubic.{MonicCubic}
use Rattle.poly_root.specs.declared.rests.Rest.{Rest}
use Rattle.poly_root.specs.rests.Rests.{K, P, lows, cubic, rest, Leaves}
use Rattle.poly_root.proofs.rests.Times.{co, rest_is}
use Rattle.poly_root.specs.parts.Parts.{Shared, Part, all_roots, shifted}

module _ (m : Modulus) where
  open K m use {El as A, add as ◌⊕◌, neg as ng, zer as 𝟘, one as 𝟙}
  open P m use {El as Po, add as ◌+P◌, mul as ◌*P◌, neg, zer as 0P, one as 1P}

  infixl 65 ◌⊕◌
  infixl 65 ◌+P◌
  infixl 70 ◌*P◌
  -- ---- u and a rest as Polys
  pub cubic_poly : (u : MonicCubic) {x r : Poly} (o : Residue) → Settles m o 𝟙 → Is m x (list-pol (K m) (lows m u)) 3 → Is m r (pol m x +P term (K m) (el m o) 3) (max x.n (3 + 1)) → Is m r (cubic m u) 4
  unfolding mon whole
  cubic_poly u o ho hx hr = let h = next_term m (lows m u) (el m o) hx hr in record { ok = h.ok; is = h.is ∙ ap (λ t. list-pol (K m) (el m u.u0 ∷ el m u.u1 ∷ el m u.u2 ∷ t ∷ [])) ho.is; short = h.short }

  pub rest_poly : (r : Rest) {a b c : Residue} {x : Poly} → Settles m a (el m r.c0) → Settles m b (el m r.c1) → Settles m c (el m r.c2) → Is m x (list-pol (K m) (el m a ∷ el m b ∷ el m c ∷ [])) 3 → Is m x (rest m r) 3
  rest_poly r {a} {b} {c} ha hb hc h = record { ok = h.ok; is = h.is ∙ ap₂ (λ s t. list-pol (K m) (s ∷ t ∷ el m c ∷ [])) ha.is hb.is ∙ ap (λ t. list-pol (K m) (el m r.c0 ∷ el m r.c1 ∷ t ∷ [])) hc.is; short = h.short }

  module _ (prime : Prime m.p) where
    pub cubic_degree : (u : MonicCubic) → Degree (residue_field m prime) 3 (cubic m u)
    cubic_degree u = deg_monic (residue_field m prime) (mon_monic (K m) (lows m u))

    pub shared : (u : MonicCubic) (r : Rest) {a b g : Poly} → Is m a (cubic m u) 4 → Is m b (rest m r) 3 → Gcd m a b g → Shared m u r g
    shared u r {a} {b} {g} ha hb h = record {
      ok = h.ok;
      monic = h.lead some;
      most = omega (arith, h.short, ha.short, hb.short);
      left = divides_eq (P m) ha.is h.left;
      right = divides_eq (P m) hb.is h.right;
      greatest = λ d x y. h.greatest d (divides_eq (P m) (sym ha.is) x) (divides_eq (P m) (sym hb.is) y);
    }
      where
        some : 0 < g.n
        some = go (ℕ_discrete g.n 0)
          where
            go : Dec (g.n ≡ 0) → 0 < g.n
            go (no n) = omega arith
            go (yes e) = absurd (deg_ne (residue_field m prime) (cubic_degree u) (sym ha.is ∙ h.left.is ∙ ap (λ t. h.left.factor *P t) (none_is m h.ok e) ∙ mul_zer (P m) h.left.factor))

    -- ---- the gcd with what d leaves
    pub part_of : (u : MonicCubic) (r : Rest) {g : Poly} → Shared m u r g → (d q : Po) → d ≡ q *P cubic m u +P rest m r → Part m u d g
    part_of u r {g} h d q e = record {
      ok = h.ok;
      monic = h.monic;
      most = h.most;
      divides = h.left;
      keeps = λ y z. (
        λ k. root_rest (K m) y d q (cubic m u) (rest m r) e z ∙ root_factor (K m) y (pol m g) (rest m r) h.right k,
        λ k. (root_iff (K m) y (pol m g)).0 (h.greatest (linear (K m) y) ((root_iff (K m) y (cubic m u)).1 z) ((root_iff (K m) y (rest m r)).1 (sym (root_rest (K m) y d q (cubic m u) (rest m r) e z) ∙ k))),
      );
      whole = λ n. divides_eq (P m) (sym e) (divides_add (P m) (divides_mul (P m) q (record { factor = 1P; is = sym ((P m).one-mul (cubic m u)) })) (divides_eq_left n h.right));
    }
      where
        divides_eq_left : g.n ≡ 4 → Divides (P m) (pol m g) (rest m r) → Divides (P m) (cubic m u) (rest m r)
        divides_eq_left n v = subst (λ (t : Po). Divides (P m) t (rest m r)) (sym (same_degree (K m) 3 (cubic m u) h.left.factor (pol m g) (mon_monic (K m) (lows m u)) (subst (λ (j : ℕ). Monic (K m) j (coef (K m) (pol m g))) {x = g.n - 1} {y = 3} (omega arith) (monic_of m h.ok h.monic)) h.left.is)) v

  -- ---- what x^p - x and (x + a)^((p-1)/2) - 1 leave
  less : (R : CRing) (v q c w r t : R.El) → v ≡ R.add (R.mul q c) w → r ≡ R.add w (R.neg t) → R.add v (R.neg t) ≡ R.add (R.mul q c) r
  less R v q c w r t h k = by R R.one h (by R (R.neg R.one) k (ring R (v ∷ q ∷ c ∷ w ∷ r ∷ t ∷ []) (search quote depth 40) refl))

  abbrev x' : Po
  x' = X (K m)

  -- a residue of 0, of 1, of a difference, as constants
  co_zero : {z : Residue} → Settles m z 𝟘 → co m z ≡ 0P
  co_zero h = ap (C (K m)) h.is ∙ (constants (K m)).h_zer

  co_one : {o : Residue} → Settles m o 𝟙 → co m o ≡ 1P
  co_one h = ap (C (K m)) h.is ∙ (constants (K m)).h_one

  co_less : {c : Residue} (w : Residue) {o : Residue} → Settles m o 𝟙 → Stands m c (el m w ⊕ ng (el m o)) → co m c ≡ co m w +P neg 1P
  co_less {c} w {o} ho h = ap (C (K m)) h.is ∙ (constants (K m)).h_add (el m w) (ng (el m o)) ∙ ap (λ t. co m w +P t) ((constants (K m)).h_neg (el m o) ∙ ap neg (co_one ho))

  module _ (u : MonicCubic) {o z : Residue} (ho : Settles m o 𝟙) (hz : Settles m z 𝟘) {w : Rest} where
    pub field_leaves : (n : ℕ) → n ≡ m.p → {c : Residue} → (h : Leaves m u (power (P m) (rest m (record { c0 = z; c1 = o; c2 = z })) n) w) → Stands m c (el m w.c1 ⊕ ng (el m o))
        → all_roots m ≡ h.q *P cubic m u +P rest m (record { c0 = w.c0; c1 = c; c2 = w.c2 })
    field_leaves n e {c} h k = less (P m) (power (P m) x' m.p) h.q (cubic m u) (rest m w) (rest m (record { c0 = w.c0; c1 = c; c2 = w.c2 })) x'
        (sym (ap₂ (power (P m)) base e) ∙ h.is)
        (rest_is m (record { c0 = w.c0; c1 = c; c2 = w.c2 }) ∙ ap (λ t. co m w.c0 +P x' *P (t +P x' *P co m w.c2)) (co_less w.c1 ho k) ∙ sort (co m w.c0) (co m w.c1) (co m w.c2) x' ∙ ap (λ t. t +P neg x') (sym (rest_is m w)))
      where
        sort : (a b c x : Po) → a +P x *P (b +P neg 1P +P x *P c) ≡ a +P x *P (b +P x *P c) +P neg x
        sort a b c x = ring (P m) (a ∷ b ∷ c ∷ x ∷ []) (search quote depth 40) refl

        from : (x : Po) → 0P +P x *P (1P +P x *P 0P) ≡ x
        from x = ring (P m) (x ∷ []) (search quote depth 40) refl

        base : rest m (record { c0 = z; c1 = o; c2 = z }) ≡ x'
        base = rest_is m (record { c0 = z; c1 = o; c2 = z }) ∙ ap₂ (λ s t. s +P x' *P (t +P x' *P s)) (co_zero hz) (co_one ho) ∙ from x'

    pub shift_leaves : (a : Residue) (n : ℕ) → n ≡ m.p → {c : Residue} → (h : Leaves m u (power (P m) (rest m (record { c0 = a; c1 = o; c2 = z })) ((n - 1) / 2)) w) → Stands m c (el m w.c0 ⊕ ng (el m o))
        → shifted m (el m a) ≡ h.q *P cubic m u +P rest m (record { c0 = c; c1 = w.c1; c2 = w.c2 })
    shift_leaves a n e {c} h k = less (P m) (power (P m) (x' +P co m a) ((m.p - 1) / 2)) h.q (cubic m u) (rest m w) (rest m (record { c0 = c; c1 = w.c1; c2 = w.c2 })) 1P
        (sym (ap₂ (power (P m)) base (ap (λ (j : ℕ). (j - 1) / 2) e)) ∙ h.is)
        (rest_is m (record { c0 = c; c1 = w.c1; c2 = w.c2 }) ∙ ap (λ t. t +P x' *P (co m w.c1 +P x' *P co m w.c2)) (co_less w.c0 ho k) ∙ sort (co m w.c0) (co m w.c1) (co m w.c2) x' ∙ ap (λ t. t +P neg 1P) (sym (rest_is m w)))
      where
        sort : (a b c x : Po) → a +P neg 1P +P x *P (b +P x *P c) ≡ a +P x *P (b +P x *P c) +P neg 1P
        sort a b c x = ring (P m) (a ∷ b ∷ c ∷ x ∷ []) (search quote depth 40) refl

        from : (a x : Po) → a +P x *P (1P +P x *P 0P) ≡ x +P a
        from a x = ring (P m) (a ∷ x ∷ []) (search quote depth 40) refl

        base : rest m (record { c0 = a; c1 = o; c2 = z }) ≡ x' +P co m a
        base = rest_is m (record { c0 = a; c1 = o; c2 = z }) ∙ ap₂ (λ s t. co m a +P x' *P (t +P x' *P s)) (co_zero hz) (co_one ho) ∙ from (co m a) x'
