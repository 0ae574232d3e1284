-- Equal quotients give equal answers, on any tuples with Z ≠ 0. Gives `same_sum`, `same_mixed` and `same_double`: where the answer of one has Z ≠ 0 so has that of the other, and both have one plain form.
use mathlib.Core.Path.{◌≡◌, refl, sym, ap, ◌∙◌, subst}
use mathlib.Core.Logic.{◌≢◌}
use mathlib.Core.List.{[], ◌∷◌}
use lib.ListN.{get_or}
use Rattle.algebra.proofs.Ring.CRing.{CRing, mul_zer}
use Rattle.algebra.proofs.Ring.Quote.{ring, quote, by}
use Rattle.algebra.proofs.Ring.Field.{no_zero_divisors}
use Rattle.algebra.proofs.Zmod.PrimeField.{modulo}
use Rattle.rules.specs.Pair.{Pair}
use Rattle.sum_formulas.proofs.Tuples.Affine2.{answer}
use Rattle.algebra.proofs.Zmod.Prime.{Prime}
use Rattle.field.specs.declared.Modulus.{Modulus}
use Rattle.field.specs.declared.Residue.{Residue}
use Rattle.field.specs.Residues.{el}
use Rattle.field.proofs.Laws.{residue_field}
use Rattle.divisor.specs.declared.Quadratic.{Quadratic}
use Rattle.divisor.specs.declared.Divisor.TheVariants.{Two}
use Rattle.multiple_tuple.specs.declared.Tuple.{Tuple}
use Rattle.multiple_tuple.specs.Tuples.{K, Over, Quotients, Tabled, last, Added, Mixed, Doubled, Divided}
use Rattle.multiple_tuple.proofs.Plain.{same_plain}

module _ (F : CRing) where
  open F use {El as A, mul as ◌*◌, neg, one as 𝟙}

  infixl 70 ◌*◌
  -- what is multiplied by a unit is determined
  only : (u i a b c : A) → u * i ≡ 𝟙 → u * a ≡ c → u * b ≡ c → a ≡ b
  only u i a b c one ha hb = by F i ha (by F (neg i) hb (by F (F.add b (neg a)) one (ring F (u ∷ i ∷ a ∷ b ∷ c ∷ []) (search quote depth 40) refl)))

  top_unit : (r ri w wi t : A) → r * ri ≡ 𝟙 → r * w ≡ t → w * wi ≡ 𝟙 → t * (ri * wi) ≡ 𝟙
  top_unit r ri w wi t hr hw hi = by F (neg (ri * wi)) hw (by F (w * wi) hr (by F 𝟙 hi (ring F (r ∷ ri ∷ w ∷ wi ∷ t ∷ []) (search quote depth 40) refl)))

module _ (m : Modulus) (prime : Prime m.p) where
  open K m use {El as A, mul as ◌*◌, zer as 𝟘}

  infixl 70 ◌*◌
  -- ---- the quotients of a tuple, however they are given
  abbrev P : Type 0
  P = Pair (modulo m.p)

  over_at : (t t' : Tuple) (x : P) (q : Quotients m t x) (q' : Quotients m t' x) → Over m (el m t'.z) t' q.a0 q.a1 q.c0 q.c1
  over_at t t' x q q' = record { u0 = q'.over.u0 ∙ put (ap (λ (y : P). get_or y.u 0 𝟘) e); u1 = q'.over.u1 ∙ put (ap (λ (y : P). get_or y.u 1 𝟘) e); v0 = q'.over.v0 ∙ put (ap (λ (y : P). get_or y.v 0 𝟘) e); v1 = q'.over.v1 ∙ put (ap (λ (y : P). get_or y.v 1 𝟘) e) }
    where
      e : ◌≡◌ {A = P} (record { u = q'.a0 ∷ q'.a1 ∷ []; v = q'.c0 ∷ q'.c1 ∷ [] }) (record { u = q.a0 ∷ q.a1 ∷ []; v = q.c0 ∷ q.c1 ∷ [] })
      e = sym q'.is ∙ q.is

      put : {a b : A} → a ≡ b → el m t'.z * a ≡ el m t'.z * b
      put h = ap (λ (y : A). el m t'.z * y) h

  -- ---- the affine table has one answer
  module _ (f4 r1 t1 l1 a0 a1 c0 c1 b0 b1 : A) where
    abbrev Table : Tuple → Type 0
    Table r = Tabled m f4 r1 t1 l1 a0 a1 c0 c1 b0 b1 r

    answer_of : (r : Tuple) → Table r → P
    answer_of r h = answer (modulo m.p) a0 a1 c0 c1 b0 b1 h.t h.w h.wi f4

    quotients_of : (r : Tuple) → el m r.z ≢ 𝟘 → (h : Table r) → Quotients m r (answer_of r h)
    unfolding answer_of
    quotients_of r nz h = record { nonzero = nz; a0 = _; a1 = _; c0 = _; c1 = _; is = refl; over = h.over }

    one_answer : (r r' : Tuple) (h : Table r) (h' : Table r') → answer_of r' h' ≡ answer_of r h
    unfolding answer_of
    one_answer r r' h h' = λ i. answer (modulo m.p) a0 a1 c0 c1 b0 b1 (t_is i) (w_is i) (wi_is i) f4
      where
        w_is : h'.w ≡ h.w
        w_is = only (K m) r1 h.ri h'.w h.w t1 h.unit_r h'.top h.top

        t_is : h'.t ≡ h.t
        t_is = only (K m) t1 (h.ri * h.wi) h'.t h.t l1 (top_unit (K m) r1 h.ri h.w h.wi t1 h.unit_r h.top h.unit) h'.low h.low

        wi_is : h'.wi ≡ h.wi
        wi_is = only (K m) h.w h.wi h'.wi h.wi (K m).one h.unit (ap (λ (y : A). y * h'.wi) (sym w_is) ∙ h'.unit) h.unit

    one_plain : (r r' : Tuple) → el m r.z ≢ 𝟘 → el m r'.z ≢ 𝟘 → Table r → Table r' → (q q' : Quadratic) → Divided m r q → Divided m r' q' → Two q ≡ Two q'
    one_plain r r' nz nz' h h' q q' d d' = same_plain m r r' q q' d d' (answer_of r h) (quotients_of r nz h) (subst (Quotients m r') (one_answer r r' h h') (quotients_of r' nz' h'))

  -- ---- the last Z
  product : (a b : A) → a ≢ 𝟘 → b ≢ 𝟘 → a * b ≢ 𝟘
  product a b = no_zero_divisors (residue_field m prime) a b

  fourth : (z : A) → z ≢ 𝟘 → z * z * z * z ≢ 𝟘
  fourth z h = product (z * z * z) z (product (z * z) z (product z z h h) h) h

  third : (z : A) → z ≢ 𝟘 → z * z * z ≢ 𝟘
  third z h = product (z * z) z (product z z h h) h

  scale_add : (x y : A) → x ≢ 𝟘 → y ≢ 𝟘 → x * y * (x * y) * y ≢ 𝟘
  scale_add x y hx hy = product (x * y * (x * y)) y (product (x * y) (x * y) (product x y hx hy) (product x y hx hy)) hy

  last_ne : (z k z' k' r1 t1 : A) → z' ≢ 𝟘 → k' ≢ 𝟘 → last m z k r1 t1 ≢ 𝟘 → last m z' k' r1 t1 ≢ 𝟘
  last_ne z k z' k' r1 t1 hz hk h = product (z' * z' * z' * z' * (k' * k' * k' * k')) (r1 * (t1 * t1 * t1)) (product (z' * z' * z' * z') (k' * k' * k' * k') (fourth z' hz) (fourth k' hk))
      (λ e. h (ap (λ (y : A). z * z * z * z * (k * k * k * k) * y) e ∙ mul_zer (K m) (z * z * z * z * (k * k * k * k))))

  -- ---- the answers, where the first has Z ≠ 0
  pub record Alike (r r' : Tuple) : Type 0 where
    pub nonzero : el m r'.z ≢ 𝟘
    pub plain : (q q' : Quadratic) → Divided m r q → Divided m r' q' → Two q ≡ Two q'

  pub same_sum : (f4 : Residue) (a b r a' b' r' : Tuple) → Added m f4 a b r → Added m f4 a' b' r' → (x y : P) → Quotients m a x → Quotients m a' x → Quotients m b y → Quotients m b' y → el m r.z ≢ 𝟘 → Alike r r'
  same_sum f4 a b r a' b' r' h h' x y qa qa' qb qb' nz = record { nonzero = nz'; plain = one_plain (el m f4) _ _ _ _ _ _ _ _ _ r r' nz nz' (h.table nz _ _ _ _ _ _ _ _ qa.over qb.over) (h'.table nz' _ _ _ _ _ _ _ _ (over_at a a' x qa qa') (over_at b b' y qb qb')) }
    where
      nz' : el m r'.z ≢ 𝟘
      nz' e = last_ne (el m a.z * el m b.z) (el m a.z * el m b.z * (el m a.z * el m b.z) * el m b.z) (el m a'.z * el m b'.z) (el m a'.z * el m b'.z * (el m a'.z * el m b'.z) * el m b'.z) _ _
          (product (el m a'.z) (el m b'.z) qa'.nonzero qb'.nonzero) (scale_add (el m a'.z) (el m b'.z) qa'.nonzero qb'.nonzero)
          (λ e'. nz (h.z_is qa.a0 qa.a1 qa.c0 qa.c1 qb.a0 qb.a1 qb.c0 qb.c1 qa.over qb.over ∙ e'))
          (sym (h'.z_is qa.a0 qa.a1 qa.c0 qa.c1 qb.a0 qb.a1 qb.c0 qb.c1 (over_at a a' x qa qa') (over_at b b' y qb qb')) ∙ e)

  -- the engine's own sum, where the second one is plain
  pub same_mixed : (f4 : Residue) (a : Tuple) (b : Quadratic) (r a' r' : Tuple) → Mixed m f4 a b r → Mixed m f4 a' b r' → (x : P) → Quotients m a x → Quotients m a' x → el m r.z ≢ 𝟘 → Alike r r'
  same_mixed f4 a b r a' r' h h' x qa qa' nz = record { nonzero = nz'; plain = one_plain (el m f4) _ _ _ _ _ _ _ _ _ r r' nz nz' (h.table nz _ _ _ _ qa.over) (h'.table nz' _ _ _ _ (over_at a a' x qa qa')) }
    where
      nz' : el m r'.z ≢ 𝟘
      nz' e = last_ne (el m a.z) (el m a.z * el m a.z * el m a.z) (el m a'.z) (el m a'.z * el m a'.z * el m a'.z) _ _ qa'.nonzero (third (el m a'.z) qa'.nonzero)
          (λ e'. nz (h.z_is qa.a0 qa.a1 qa.c0 qa.c1 qa.over ∙ e'))
          (sym (h'.z_is qa.a0 qa.a1 qa.c0 qa.c1 (over_at a a' x qa qa')) ∙ e)

  pub same_double : (f2 f3 f4 : Residue) (a r a' r' : Tuple) → Doubled m f2 f3 f4 a r → Doubled m f2 f3 f4 a' r' → (x : P) → Quotients m a x → Quotients m a' x → el m r.z ≢ 𝟘 → Alike r r'
  same_double f2 f3 f4 a r a' r' h h' x qa qa' nz = record { nonzero = nz'; plain = one_plain (el m f4) _ _ _ _ _ _ _ _ _ r r' nz nz' (h.table nz _ _ _ _ qa.over) (h'.table nz' _ _ _ _ (over_at a a' x qa qa')) }
    where
      nz' : el m r'.z ≢ 𝟘
      nz' e = last_ne (el m a.z) (el m a.z * el m a.z * el m a.z * el m a.z) (el m a'.z) (el m a'.z * el m a'.z * el m a'.z * el m a'.z) _ _ qa'.nonzero (fourth (el m a'.z) qa'.nonzero)
          (λ e'. nz (h.z_is qa.a0 qa.a1 qa.c0 qa.c1 qa.over ∙ e'))
          (sym (h'.z_is qa.a0 qa.a1 qa.c0 qa.c1 (over_at a a' x qa qa')) ∙ e)
