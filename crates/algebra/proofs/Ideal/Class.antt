-- Classes of ideals: I and J are in one class when a I = b J with a and b that cancel (L5 makes that "not zero" where it is used). Gives:
-- `Same I J`, an equivalence that products respect.
-- Open: `Whole`, `Regular`.
use mathlib.Core.Path.{◌≡◌, refl, sym, ◌∙◌}
use mathlib.Core.List.{[], ◌∷◌}
use Rattle.algebra.proofs.Ring.CRing.{CRing}
use Rattle.algebra.proofs.Ring.Quote.{ring, quote, by}
use Rattle.algebra.proofs.Ideal.Ideal.{Sub, ◌⊆◌, IsIdeal, Prod, p_nil, p_cons, prod_comm, prod_assoc, Scaled}

module _ (S : CRing) where
  open S use {El as A, add as ◌+◌, mul as ◌*◌, zer as 𝟘, one as 𝟙, mul_assoc, one-mul}

  infixl 65 ◌+◌
  infixl 70 ◌*◌
  abbrev pub Whole : Sub S
  Whole x = Unit {0}

  -- a cancels
  abbrev pub Regular : A → Type 0
  Regular a = (x z : A) → a * x ≡ a * z → x ≡ z

  -- a x is b times an element of J
  pub record Moved (a b x : A) (J : Sub S) : Type 0 where
    pub to : A
    pub inside : J to
    pub is : a * x ≡ b * to

  -- a I ⊆ b I' carries over to products with K
  pub swap : {I I' K : Sub S} (a b : A) → ((i : A) → I i → Moved a b i I') → {x : A} → Prod S I K x → Moved a b x (Prod S I' K)
  swap a b h p_nil = record { to = 𝟘; inside = p_nil; is = ring S (a ∷ b ∷ []) (search quote depth 40) refl }
  swap {I} {I'} {K} a b h (p_cons {i = i} {j = k} {x = x} hi hk p) = go (h i hi) (swap a b h p)
    where
      go : Moved a b i I' → Moved a b x (Prod S I' K) → Moved a b (i * k + x) (Prod S I' K)
      go m n = record {
        to = m.to * k + n.to;
        inside = p_cons m.inside hk n.inside;
        is = by S k m.is (by S 𝟙 n.is
            (ring S (a ∷ b ∷ i ∷ k ∷ x ∷ m.to ∷ n.to ∷ []) (search quote depth 40) refl));
      }

  -- a I = b J
  pub record Same (I J : Sub S) : Type 0 where
    pub a : A
    pub b : A
    pub ra : Regular a
    pub rb : Regular b
    pub to : (i : A) → I i → Moved a b i J
    pub from : (j : A) → J j → Moved b a j I

  one_regular : Regular 𝟙
  one_regular x z e = sym (one-mul x) ∙ e ∙ one-mul z

  pub mul_regular : (a b : A) → Regular a → Regular b → Regular (a * b)
  mul_regular a b ha hb x z e = hb x z (ha (b * x) (b * z) (sym (mul_assoc a b x) ∙ e ∙ mul_assoc a b z))

  pub same_sym : {I J : Sub S} → Same I J → Same J I
  same_sym h = record { a = h.b; b = h.a; ra = h.rb; rb = h.ra; to = h.from; from = h.to }

  moved_trans : (a b c d : A) {I J K : Sub S} → ((i : A) → I i → Moved a b i J) → ((j : A) → J j → Moved c d j K) → (i : A) → I i → Moved (c * a) (d * b) i K
  moved_trans a b c d {I} {J} {K} h k i hi = go (h i hi)
    where
      go : Moved a b i J → Moved (c * a) (d * b) i K
      go m = last (k m.to m.inside)
        where
          last : Moved c d m.to K → Moved (c * a) (d * b) i K
          last n = record { to = n.to; inside = n.inside; is = by S c m.is (by S b n.is (ring S (a ∷ b ∷ c ∷ d ∷ i ∷ m.to ∷ n.to ∷ []) (search quote depth 40) refl)) }

  pub same_trans : {I J K : Sub S} → Same I J → Same J K → Same I K
  same_trans {I} {J} {K} h k = record {
    a = k.a * h.a;
    b = k.b * h.b;
    ra = mul_regular k.a h.a k.ra h.ra;
    rb = mul_regular k.b h.b k.rb h.rb;
    to = moved_trans h.a h.b k.a k.b h.to k.to;
    from = λ j hj. flip j (moved_trans k.b k.a h.b h.a k.from h.from j hj);
  }
    where
      flip : (j : A) → Moved (h.b * k.b) (h.a * k.a) j I → Moved (k.b * h.b) (k.a * h.a) j I
      flip j m = record { to = m.to; inside = m.inside; is = by S 𝟙 m.is (ring S (h.a ∷ h.b ∷ k.a ∷ k.b ∷ j ∷ m.to ∷ []) (search quote depth 40) refl) }

  -- a scaled ideal, and equal ideals
  pub same_scaled : {I J : Sub S} (d : A) → Regular d → ◌⊆◌ S I (Scaled S d J) → ◌⊆◌ S (Scaled S d J) I → Same I J
  same_scaled {I} {J} d rd h k = record {
    a = 𝟙;
    b = d;
    ra = one_regular;
    rb = rd;
    to = λ i hi. record { to = (h i hi).part; inside = (h i hi).inside; is = one-mul i ∙ (h i hi).is };
    from = λ j hj. record { to = d * j; inside = k (d * j) (record { part = j; inside = hj; is = refl }); is = sym (one-mul (d * j)) };
  }

  pub same_of : {I J : Sub S} → ◌⊆◌ S I J → ◌⊆◌ S J I → Same I J
  same_of h k = record {
    a = 𝟙;
    b = 𝟙;
    ra = one_regular;
    rb = one_regular;
    to = λ i hi. record { to = i; inside = h i hi; is = refl };
    from = λ j hj. record { to = j; inside = k j hj; is = refl };
  }

  -- products
  pub same_left : {I J K : Sub S} → Same I J → Same (Prod S I K) (Prod S J K)
  same_left h = record { a = h.a; b = h.b; ra = h.ra; rb = h.rb; to = λ x p. swap h.a h.b h.to p; from = λ x p. swap h.b h.a h.from p }

  pub same_comm : {I J : Sub S} → Same (Prod S I J) (Prod S J I)
  same_comm = same_of (prod_comm S) (prod_comm S)

  pub same_right : {I J K : Sub S} → Same I J → Same (Prod S K I) (Prod S K J)
  same_right h = same_trans same_comm (same_trans (same_left h) same_comm)

  pub same_assoc : {I J K : Sub S} → IsIdeal S I → IsIdeal S J → IsIdeal S K → Same (Prod S (Prod S I J) K) (Prod S I (Prod S J K))
  same_assoc hI hJ hK = same_of (prod_assoc S hI) (λ x p. prod_comm S x (prod_assoc S hK x (prod_comm S x (prod_assoc S hJ x (prod_comm S x p)))))
