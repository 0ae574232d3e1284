-- Ideals of a commutative ring, as predicates on its elements. Gives: inclusion, products (an inductive family: sums of products, no
-- truncation), ideals with two generators `Span g h`, multiples `Scaled d I`; products are commutative and associative.
-- The ground of the steps L0 to L7 (docs/proofs/GROUP.md, "The chain of the proof").
-- Open: `Sub`, `◌⊆◌`.
use mathlib.Core.Path.{◌≡◌, refl, sym, ap, subst}
use mathlib.Core.List.{[], ◌∷◌}
use Rattle.algebra.proofs.Ring.CRing.{CRing, add_zer, zer_mul, mul_zer}
use Rattle.algebra.proofs.Ring.Quote.{ring, quote, by}

module _ (R : CRing) where
  open R use {El as A, add as ◌+◌, mul as ◌*◌, zer as 𝟘, one as 𝟙, zer_add}

  infixl 65 ◌+◌
  infixl 70 ◌*◌
  abbrev pub Sub : Type 1
  Sub = A → Type 0

  infix 50 ◌⊆◌
  abbrev pub ◌⊆◌ : Sub → Sub → Type 0
  I ⊆ J = (x : A) → I x → J x

  pub record IsIdeal (I : Sub) : Type 0 where
    pub i_zer : I 𝟘
    pub i_add : (x y : A) → I x → I y → I (x + y)
    pub i_mul : (c x : A) → I x → I (c * x)

  -- the product of two ideals: sums of products
  pub data Prod (I J : Sub) : A → Type 0 where
    p_nil : Prod I J 𝟘
    p_cons : {i j x : A} → I i → J j → Prod I J x → Prod I J (i * j + x)

  pub prod_one : {I J : Sub} {i j : A} → I i → J j → Prod I J (i * j)
  prod_one {I} {J} {i} {j} p q = subst (Prod I J) (add_zer R (i * j)) (p_cons p q p_nil)

  pub prod_add : {I J : Sub} {x y : A} → Prod I J x → Prod I J y → Prod I J (x + y)
  prod_add {I} {J} {y = y} p_nil q = subst (Prod I J) (sym (zer_add y)) q
  prod_add {I} {J} {y = y} (p_cons {i = i} {j = j} {x = x} h k p) q = subst (Prod I J) (sym (R.add_assoc (i * j) x y)) (p_cons h k (prod_add p q))

  pub prod_mul : {I J : Sub} → IsIdeal I → (c : A) {x : A} → Prod I J x → Prod I J (c * x)
  prod_mul {I} {J} hI c p_nil = subst (Prod I J) (sym (mul_zer R c)) p_nil
  prod_mul {I} {J} hI c (p_cons {i = i} {j = j} {x = x} h k p) = subst (Prod I J)
      (ring R (c ∷ i ∷ j ∷ x ∷ []) (search quote depth 40) refl) (p_cons (hI.i_mul c i h) k (prod_mul hI c p))

  prod_ideal : {I J : Sub} → IsIdeal I → IsIdeal (Prod I J)
  prod_ideal hI = record { i_zer = p_nil; i_add = λ x y p q. prod_add p q; i_mul = λ c x p. prod_mul hI c p }

  -- to map out of a product, map the products
  pub prod_out : {I J K : Sub} → IsIdeal K → ((i j : A) → I i → J j → K (i * j)) → Prod I J ⊆ K
  prod_out hK h x p_nil = hK.i_zer
  prod_out hK h _ (p_cons {i = i} {j = j} {x = x} a b p) = hK.i_add (i * j) x (h i j a b) (prod_out hK h x p)

  pub prod_comm : {I J : Sub} → Prod I J ⊆ Prod J I
  prod_comm x p_nil = p_nil
  prod_comm {I} {J} _ (p_cons {i = i} {j = j} {x = x} h k p) = subst (Prod J I) (ap (λ t. t + x) (R.mul_comm j i)) (p_cons k h (prod_comm x p))

  pub prod_assoc : {I J K : Sub} → IsIdeal I → Prod (Prod I J) K ⊆ Prod I (Prod J K)
  prod_assoc {I} {J} {K} hI = prod_out (prod_ideal hI) (λ x k p q. inner x k p q)
    where
      inner : (x k : A) → Prod I J x → K k → Prod I (Prod J K) (x * k)
      inner x k p_nil q = subst (Prod I (Prod J K)) (sym (zer_mul R k)) p_nil
      inner _ k (p_cons {i = i} {j = j} {x = x} h l p) q = subst (Prod I (Prod J K))
          (ring R (i ∷ j ∷ x ∷ k ∷ []) (search quote depth 40) refl) (p_cons h (prod_one l q) (inner x k p q))

  -- ---- the ideal ⟨g, h⟩ of two generators, with its coefficients
  pub record Span (g h x : A) : Type 0 where
    pub at_g : A
    pub at_h : A
    pub is : x ≡ at_g * g + at_h * h

  pub span_ideal : (g h : A) → IsIdeal (Span g h)
  span_ideal g h = record {
    i_zer = record { at_g = 𝟘; at_h = 𝟘; is = ring R (g ∷ h ∷ []) (search quote depth 40) refl };
    i_add = λ x y p q. record {
      at_g = p.at_g + q.at_g;
      at_h = p.at_h + q.at_h;
      is = by R 𝟙 p.is (by R 𝟙 q.is
          (ring R (g ∷ h ∷ x ∷ y ∷ p.at_g ∷ p.at_h ∷ q.at_g ∷ q.at_h ∷ []) (search quote depth 40) refl));
    };
    i_mul = λ c x p. record { at_g = c * p.at_g; at_h = c * p.at_h; is = by R c p.is (ring R (g ∷ h ∷ x ∷ c ∷ p.at_g ∷ p.at_h ∷ []) (search quote depth 40) refl) };
  }

  -- the multiples d · i of an ideal's elements
  pub record Scaled (d : A) (I : Sub) (x : A) : Type 0 where
    pub part : A
    pub inside : I part
    pub is : x ≡ d * part

  pub scaled_ideal : (d : A) {I : Sub} → IsIdeal I → IsIdeal (Scaled d I)
  scaled_ideal d h = record {
    i_zer = record { part = 𝟘; inside = h.i_zer; is = sym (mul_zer R d) };
    i_add = λ x y p q. record {
      part = p.part + q.part;
      inside = h.i_add p.part q.part p.inside q.inside;
      is = by R 𝟙 p.is (by R 𝟙 q.is
          (ring R (d ∷ x ∷ y ∷ p.part ∷ q.part ∷ []) (search quote depth 40) refl));
    };
    i_mul = λ c x p. record { part = c * p.part; inside = h.i_mul c p.part p.inside; is = by R c p.is (ring R (d ∷ x ∷ c ∷ p.part ∷ []) (search quote depth 40) refl) };
  }

  -- a product of two ideals with two generators each is inside K when the four products are
  pub span_prod : {K : Sub} → IsIdeal K → (g h g' h' : A) → K (g * g') → K (g * h') → K (h * g') → K (h * h') → Prod (Span g h) (Span g' h') ⊆ K
  span_prod {K} hK g h g' h' k1 k2 k3 k4 = prod_out hK (λ i j p q. subst K
      (sym (by R j p.is (by R (p.at_g * g + p.at_h * h) q.is (ring R (i ∷ j ∷ g ∷ h ∷ g' ∷ h' ∷ p.at_g ∷ p.at_h ∷ q.at_g ∷ q.at_h ∷ []) (search quote depth 40) refl))))
      (hK.i_add (p.at_g * q.at_g * (g * g') + p.at_g * q.at_h * (g * h')) (p.at_h * q.at_g * (h * g') + p.at_h * q.at_h * (h * h'))
      (hK.i_add (p.at_g * q.at_g * (g * g')) (p.at_g * q.at_h * (g * h')) (hK.i_mul (p.at_g * q.at_g) (g * g') k1) (hK.i_mul (p.at_g * q.at_h) (g * h') k2))
      (hK.i_add (p.at_h * q.at_g * (h * g')) (p.at_h * q.at_h * (h * h')) (hK.i_mul (p.at_h * q.at_g) (h * g') k3) (hK.i_mul (p.at_h * q.at_h) (h * h') k4))))
