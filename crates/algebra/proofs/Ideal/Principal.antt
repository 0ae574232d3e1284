-- L6, first half: where a I = b I', and I·Ī' = d·J and I'·Ī' = ⟨u⟩, J has one generator (`principal`). If J is I(u, v), the norm of its
-- generator divides u (`norm∣u`), and a generator with no y in it is a unit of R (`unit`).
use mathlib.Core.Path.{◌≡◌, refl, sym, ap, ◌∙◌, subst}
use mathlib.Core.List.{[], ◌∷◌}
use Rattle.algebra.proofs.Ring.CRing.{CRing, mul_zer, mul-one, neg_neg}
use Rattle.algebra.proofs.Ring.Quote.{ring, quote, by}
use Rattle.algebra.proofs.Ring.Divides.{Divides}
use Rattle.algebra.proofs.Ideal.Ideal.{Sub, ◌⊆◌, IsIdeal, Prod, prod_out, Scaled}
use Rattle.algebra.proofs.Ideal.Quad.{quad, two_path, pr, ι, y, rea, ima, re_pr, conj, norm, norm_conj, conj_mul, conj_conj, re_scaled}
use Rattle.algebra.proofs.Ideal.Member.{Mumford}
use Rattle.algebra.proofs.Ideal.Class.{Whole, Regular, Moved, swap}

module _ (S : CRing) where
  open S use {El as A, mul as ◌*◌, one as 𝟙}

  infixl 70 ◌*◌
  pub record Principal (J : Sub S) : Type 0 where
    pub gen : A
    pub gen_in : J gen
    pub all : (x : A) → J x → (r : A) × (x ≡ gen * r)

  pub principal : {I I' K J : Sub S} (a b d u : A)
      → ((i : A) → I i → Moved S a b i I') → ((i : A) → I' i → Moved S b a i I)
      → ◌⊆◌ S (Prod S I K) (Scaled S d J) → ◌⊆◌ S (Scaled S d J) (Prod S I K)
      → ◌⊆◌ S (Prod S I' K) (Scaled S u (Whole S)) → ◌⊆◌ S (Scaled S u (Whole S)) (Prod S I' K)
      → Regular S (a * d) → Principal J
  principal {I} {I'} {K} {J} a b d u ab ba c1 c2 e1 e2 reg = go (swap S b a ba (e2 (u * 𝟙) (record { part = 𝟙; inside = tt; is = refl })))
    where
      go : Moved S b a (u * 𝟙) (Prod S I K) → Principal J
      go m = done (c1 m.to m.inside)
        where
          done : Scaled S d J m.to → Principal J
          done z = record { gen = z.part; gen_in = z.inside; all = λ x hx. each x (swap S a b ab (c2 (d * x) (record { part = x; inside = hx; is = refl }))) }
            where
              each : (x : A) → Moved S a b (d * x) (Prod S I' K) → (r : A) × (x ≡ z.part * r)
              each x n = last (e1 n.to n.inside)
                where
                  last : Scaled S u (Whole S) n.to → (r : A) × (x ≡ z.part * r)
                  last r = (
                    r.part,
                    reg x (z.part * r.part)
                        (by S 𝟙 n.is (by S b r.is (by S r.part m.is (by S (a * r.part) z.is
                        (ring S (a ∷ b ∷ d ∷ u ∷ x ∷ n.to ∷ r.part ∷ m.to ∷ z.part ∷ []) (search quote depth 40) refl))))),
                  )

-- ---- in R[y]/(y² - f), J = ⟨u, y - v⟩ and its conjugate
module _ (R : CRing) (f : R.El) where
  open R use {El as A, neg, zer as 𝟘, one as 𝟙}
  open quad R f use {El as S, add as ◌⊕◌, mul as ◌⊗◌, neg as ⊖, one as 𝟙S}

  infixl 65 ◌⊕◌
  infixl 70 ◌⊗◌
  conj_in : (u v : A) (x : S) → Mumford R f u v x → Mumford R f u (neg v) (conj R f x)
  unfolding quad pr rea ima conj
  conj_in u v x m = record {
    at_g = conj R f m.at_g;
    at_h = ⊖ (conj R f m.at_h);
    is = ap (conj R f) m.is ∙ two_path R f
        (ring R (u ∷ v ∷ f ∷ m.at_g.re ∷ m.at_g.im ∷ m.at_h.re ∷ m.at_h.im ∷ []) (search quote depth 40) refl)
        (ring R (u ∷ v ∷ f ∷ m.at_g.re ∷ m.at_g.im ∷ m.at_h.re ∷ m.at_h.im ∷ []) (search quote depth 40) refl);
  }

  module _ (u v : A) (pri : Principal (quad R f) (Mumford R f u v))
      (n1 : ◌⊆◌ (quad R f) (Prod (quad R f) (Mumford R f u v) (Mumford R f u (neg v))) (Scaled (quad R f) (ι R f u) (Whole (quad R f))))
      (n2 : ◌⊆◌ (quad R f) (Scaled (quad R f) (ι R f u) (Whole (quad R f))) (Prod (quad R f) (Mumford R f u v) (Mumford R f u (neg v)))) where
    j : S
    j = pri.gen

    Multiple : S → Type 0
    Multiple x = (r : S) × (x ≡ j ⊗ conj R f j ⊗ r)

    multiple_ideal : IsIdeal (quad R f) Multiple
    unfolding Multiple
    multiple_ideal = record {
      i_zer = ((quad R f).zer, sym (mul_zer (quad R f) (j ⊗ conj R f j)));
      i_add = λ x z p q. (
        p.0 ⊕ q.0,
        by (quad R f) 𝟙S p.1 (by (quad R f) 𝟙S q.1
            (ring (quad R f) (x ∷ z ∷ p.0 ∷ q.0 ∷ j ∷ conj R f j ∷ []) (search quote depth 40) refl)),
      );
      i_mul = λ c x p. (c ⊗ p.0, by (quad R f) c p.1 (ring (quad R f) (x ∷ c ∷ p.0 ∷ j ∷ conj R f j ∷ []) (search quote depth 40) refl));
    }

    back : (q : S) → Mumford R f u (neg v) q → (r : S) × (q ≡ conj R f j ⊗ r)
    unfolding j
    back q m = go (pri.all (conj R f q) (subst (λ (t : A). Mumford R f u t (conj R f q)) (neg_neg R v) (conj_in u (neg v) q m)))
      where
        go : ((r : S) × (conj R f q ≡ pri.gen ⊗ r)) → (r : S) × (q ≡ conj R f j ⊗ r)
        go p = (conj R f p.0, sym (conj_conj R f q) ∙ ap (conj R f) p.1 ∙ conj_mul R f j p.0)

    pub norm∣u : Divides R (norm R f pri.gen) u
    unfolding j Multiple
    norm∣u = go (prod_out (quad R f) multiple_ideal pair (ι R f u ⊗ 𝟙S) (n2 (ι R f u ⊗ 𝟙S) (record { part = 𝟙S; inside = tt; is = refl })))
      where
        pair : (p q : S) → Mumford R f u v p → Mumford R f u (neg v) q → Multiple (p ⊗ q)
        pair p q hp hq = both (pri.all p hp) (back q hq)
          where
            both : ((r : S) × (p ≡ j ⊗ r)) → ((r : S) × (q ≡ conj R f j ⊗ r)) → Multiple (p ⊗ q)
            both a b = (
              a.0 ⊗ b.0,
              by (quad R f) q a.1 (by (quad R f) (j ⊗ a.0) b.1
                  (ring (quad R f) (p ∷ q ∷ j ∷ conj R f j ∷ a.0 ∷ b.0 ∷ []) (search quote depth 40) refl)),
            )

        go : Multiple (ι R f u ⊗ 𝟙S) → Divides R (norm R f j) u
        go m = record { factor = rea R f m.0; is = sym re_u ∙ ap (rea R f) (m.1 ∙ ap (λ t. t ⊗ m.0) (norm_conj R f j)) ∙ re_scaled R f (norm R f j) m.0 }
          where
            re_u : rea R f (ι R f u ⊗ 𝟙S) ≡ u
            re_u = ap (rea R f) (mul-one (quad R f) (ι R f u)) ∙ re_pr R f u 𝟘

    -- if the generator has no y in it, then its other part is a unit
    pub unit : ima R f pri.gen ≡ 𝟘 → Divides R (rea R f pri.gen) 𝟙
    unfolding quad pr rea ima j
    unit e = go (pri.all (y R f ⊕ ⊖ (ι R f v)) (record {
      at_g = (quad R f).zer;
      at_h = 𝟙S;
      is = ring (quad R f) ((y R f ⊕ ⊖ (ι R f v)) ∷ ι R f u ∷ []) (search quote depth 40) refl;
    }))
      where
        go : ((r : S) × (y R f ⊕ ⊖ (ι R f v) ≡ pri.gen ⊗ r)) → Divides R (rea R f pri.gen) 𝟙
        go p = record {
          factor = ima R f p.0;
          is = by R 𝟙 (ap (ima R f) p.1) (by R p.0.re e
              (ring R (p.0.re ∷ p.0.im ∷ pri.gen.re ∷ pri.gen.im ∷ []) (search quote depth 40) refl));
        }
