-- The loops over coefficients, each an instance of `Built`: a term put in, a row added, a multiple, sum, difference. Gives for each its
-- turn, what the scan for the length asks, and its end.
use Prim.Native.Nat.{ℕ, ◌+◌, ◌<◌, ◌≤◌, max, zero-le}
use mathlib.Core.Path.{◌≡◌, refl, sym, ap, ap₂, ◌∙◌}
use mathlib.Core.List.{List, [], ◌∷◌}
use native.Mathlib.Omega.{arith}
use lib.ListN.{set, length}
use Rattle.algebra.proofs.Ring.CRing.{mul_zer, neg_mul, neg_zer}
use Rattle.algebra.proofs.Ring.Quote.{ring, quote}
use Rattle.algebra.proofs.Poly.Bound.{Below}
use Rattle.algebra.proofs.Poly.Poly.{coef, coef_neg, coef_zer}
use Rattle.algebra.proofs.Poly.Term.{at, term, C, coef_term, termS_at, termS_off, coef_shift, term_mul, term_one}
use Rattle.field.specs.declared.Residue.{Residue}
use Rattle.field.specs.declared.Modulus.{Modulus}
use Rattle.field.specs.Residues.{el, Stands}
use Rattle.poly.specs.declared.Poly.{Poly}
use Rattle.poly.specs.Polys.{room, K, P, pol_l, pol, Filled, Ok, Is}
use Rattle.poly.specs.Operations.{FilledTo, Size, Put}
use Rattle.poly.proofs.Lengths.{recast}
use Rattle.poly.proofs.Build.{Built, build_begin, build_turn, build_next, build_is, sum_below, build_held, build_end}

module _ (m : Modulus) where
  open K m use {El as A, add as ◌⊕◌, mul as ◌⊗◌, neg as ng, one as 𝟙}
  open P m use {El as Po, add as ◌+P◌, mul as ◌*P◌, neg as negP, zer as 0P}

  infixl 65 ◌⊕◌
  infixl 70 ◌⊗◌
  infixl 65 ◌+P◌
  infixl 70 ◌*P◌
  abbrev cf : Po → ℕ → A
  cf v = coef (K m) v

  abbrev te : A → ℕ → Po
  te x k = term (K m) x k

  -- ---- a + x · y^k
  module _ (a : Poly) (k : ℕ) (x : Residue) (h : Put m a k x) where
    term_below : Below (K m) 1 (cf (C (K m) (el m x)))
    term_below j l = at (K m) (coef_term (K m) (el m x) 0) j ∙ termS_off (K m) (el m x) 0 j (λ e. omega arith)

    put_built : {g y : Residue} → length a.c ≡ room → Stands m g (cf (pol m a) k) → Stands m y (el m g ⊕ el m x) → Built m (pol m a) (C (K m) (el m x)) k 1 (set a.c k y) (0 + 1)
    put_built {g} {y} e hg hy = build_turn m (pol m a) (C (K m) (el m x)) k 1 (build_begin m (pol m a) (C (K m) (el m x)) k 1 e h.left.fill refl) (omega arith) (omega (arith, h.fits)) (omega arith)
        (record { kept = hy.kept; is = hy.is ∙ ap₂ ◌⊕◌ hg.is (sym (at (K m) (coef_term (K m) (el m x) 0) 0 ∙ termS_at (K m) (el m x) 0)) })

    module _ {g y : Residue} {top : ℕ} (e : length a.c ≡ room) (hg : Stands m g (cf (pol m a) k)) (hy : Stands m y (el m g ⊕ el m x)) (et : top ≡ max a.n (k + 1)) where
      pub put_held : FilledTo m (set a.c k y) top
      put_held = build_held m (pol m a) (C (K m) (el m x)) k 1 term_below a.n h.left.size.end (put_built e hg hy) (omega arith) et h.left.len (omega (arith, h.fits))

      pub put_end : {r : ℕ} → Size m (set a.c k y) top r → Is m (record { c = set a.c k y; n = r }) (pol m a +P te (el m x) k) (max a.n (k + 1))
      put_end z = build_end m (pol m a) (C (K m) (el m x)) k 1 term_below a.n h.left.size.end (put_built e hg hy) (omega arith) et (omega (arith, h.left.len, h.fits)) z
          (ap (λ t. pol m a +P t) (term_mul (K m) 𝟙 (el m x) k 0 ∙ ap₂ te ((K m).one-mul (el m x)) (omega arith)))

  -- ---- w + x · y^s · b, w being what the row is added to
  abbrev pub Rowing : Po → A → ℕ → Poly → List Residue → ℕ → Type 0
  Rowing w x s b l k = Built m w (C (K m) x *P pol m b) s b.n l k

  module _ (w : Po) (x : A) (s : ℕ) (b : Poly) (hb : Ok m b) (fits : s + b.n ≤ room) where
    abbrev rows : Po
    rows = C (K m) x *P pol m b

    row_at : (k : ℕ) → cf rows k ≡ x ⊗ cf (pol m b) k
    row_at k = ap (cf rows) {x = k} {y = 0 + k} (omega arith) ∙ coef_shift (K m) x 0 k (pol m b)

    row_below : Below (K m) b.n (cf rows)
    row_below k l = row_at k ∙ ap (λ t. x ⊗ t) (hb.size.end k l) ∙ mul_zer (K m) x

    pub row_begin : {l : List Residue} → length l ≡ room → Filled m l → pol_l m l ≡ w → Rowing w x s b l 0
    row_begin e f h = build_begin m w rows s b.n e f h

    pub row_turn : {l : List Residue} {k j : ℕ} {y : Residue} → Rowing w x s b l k → k < b.n → j ≡ s + k → Stands m y (cf (pol_l m l) j ⊕ x ⊗ cf (pol m b) k) → Rowing w x s b (set l j y) (k + 1)
    row_turn {l} {k} {j} v lt e hy = build_turn m w rows s b.n v lt fits e (record { kept = hy.kept; is = hy.is ∙ ap (λ t. cf (pol_l m l) j ⊕ t) (sym (row_at k)) })

    row_sum : w +P te 𝟙 s *P rows ≡ w +P te x s *P pol m b
    row_sum = ring (P m) (w ∷ te 𝟙 s ∷ C (K m) x ∷ pol m b ∷ []) (search quote depth 40) refl
        ∙ ap (λ t. w +P t *P pol m b) (term_mul (K m) 𝟙 x s 0 ∙ ap₂ te ((K m).one-mul x) (omega arith))

    pub row_sum_below : (i : ℕ) → Below (K m) i (cf w) → Below (K m) (max i (s + b.n)) (cf (w +P te x s *P pol m b))
    row_sum_below i start k l = ap (λ t. cf t k) (sym row_sum) ∙ sum_below m w rows s b.n row_below i start k l

    module _ {l : List Residue} {k : ℕ} (v : Rowing w x s b l k) (over : b.n ≤ k) where
      pub row_is : pol_l m l ≡ w +P te x s *P pol m b
      row_is = build_is m w rows s b.n row_below v over ∙ row_sum

  -- what a turn stores: x times a coefficient added, or taken away
  pub row_plus : {u w : A} (x : Residue) {g o t y : Residue} → Stands m g u → Stands m o w → Stands m t (el m x ⊗ el m o) → Stands m y (el m g ⊕ el m t) → Stands m y (u ⊕ el m x ⊗ w)
  row_plus x hg ho ht hy = record { kept = hy.kept; is = hy.is ∙ ap₂ ◌⊕◌ hg.is (ht.is ∙ ap (λ u. el m x ⊗ u) ho.is) }

  pub row_less : {u w : A} (x : Residue) {g o t y : Residue} → Stands m g u → Stands m o w → Stands m t (el m x ⊗ el m o) → Stands m y (el m g ⊕ ng (el m t)) → Stands m y (u ⊕ ng (el m x) ⊗ w)
  row_less {w = w} x hg ho ht hy = record { kept = hy.kept; is = hy.is ∙ ap₂ ◌⊕◌ hg.is (ap ng (ht.is ∙ ap (λ u. el m x ⊗ u) ho.is) ∙ sym (neg_mul (K m) (el m x) w)) }

  -- ---- x · b: one row, added to nothing
  module _ (x : Residue) (b : Poly) (hb : Ok m b) where
    abbrev multiple : Po
    multiple = C (K m) (el m x) *P pol m b

    nothing : Below (K m) 0 (cf 0P)
    nothing k l = at (K m) (coef_zer (K m)) k

    pub scale_begin : {z : Poly} → Is m z 0P 0 → length z.c ≡ room → Rowing 0P (el m x) 0 b z.c 0
    scale_begin hz e = row_begin 0P (el m x) 0 b hb (omega (arith, hb.len)) e hz.ok.fill hz.is

    pub scale_turn : {l : List Residue} {k : ℕ} {o y : Residue} → Rowing 0P (el m x) 0 b l k → k < b.n → Stands m o (cf (pol m b) k) → Stands m y (el m x ⊗ el m o) → Rowing 0P (el m x) 0 b (set l k y) (k + 1)
    scale_turn {l} {k} v lt ho hy = row_turn 0P (el m x) 0 b hb (omega (arith, hb.len)) v lt (omega arith)
        (record { kept = hy.kept; is = hy.is ∙ ap (λ t. el m x ⊗ t) ho.is ∙ sym (ap (λ t. t ⊕ el m x ⊗ cf (pol m b) k) (ap (cf (pol_l m l)) {x = k} {y = 0 + k} (omega arith) ∙ build_next m 0P multiple 0 b.n v ∙ nothing (0 + k) zero-le) ∙ (K m).zer_add (el m x ⊗ cf (pol m b) k)) })

    module _ {l : List Residue} {k : ℕ} (v : Rowing 0P (el m x) 0 b l k) (over : b.n ≤ k) where
      pub scale_held : FilledTo m l b.n
      scale_held = build_held m 0P multiple 0 b.n (row_below 0P (el m x) 0 b hb (omega (arith, hb.len))) 0 nothing v over (omega arith) zero-le (omega (arith, hb.len))

      pub scale_end : {r : ℕ} → Size m l b.n r → Is m (record { c = l; n = r }) multiple b.n
      scale_end z = recast m (build_end m 0P multiple 0 b.n (row_below 0P (el m x) 0 b hb (omega (arith, hb.len))) 0 nothing v over (omega arith) hb.len z
          (ap (λ t. 0P +P t *P multiple) (term_one (K m)) ∙ (P m).zer_add ((P m).one *P multiple) ∙ (P m).one-mul multiple)) refl (omega arith)

  -- ---- a + T, T being b or its opposite
  module _ (a b : Poly) (T : Po) (ha : Ok m a) (hb : Ok m b) (hT : Below (K m) b.n (cf T)) where
    pub sum_begin : length a.c ≡ room → Built m (pol m a) T 0 b.n a.c 0
    sum_begin e = build_begin m (pol m a) T 0 b.n e ha.fill refl

    pub sum_turn : {l : List Residue} {k : ℕ} {y : Residue} → Built m (pol m a) T 0 b.n l k → k < b.n → Stands m y (cf (pol_l m l) k ⊕ cf T k) → Built m (pol m a) T 0 b.n (set l k y) (k + 1)
    sum_turn v lt hy = build_turn m (pol m a) T 0 b.n v lt (omega (arith, hb.len)) (omega arith) hy

    module _ {l : List Residue} {k top : ℕ} (v : Built m (pol m a) T 0 b.n l k) (over : b.n ≤ k) (et : top ≡ max a.n b.n) where
      pub sum_held : FilledTo m l top
      sum_held = build_held m (pol m a) T 0 b.n hT a.n ha.size.end v over (omega arith) ha.len (omega (arith, hb.len))

      pub sum_end : {r : ℕ} → Size m l top r → Is m (record { c = l; n = r }) (pol m a +P T) (max a.n b.n)
      sum_end z = let w : Is m (record { c = l; n = _ }) (pol m a +P T) (max a.n (0 + b.n)) = build_end m (pol m a) T 0 b.n hT a.n ha.size.end v over (omega arith) (omega (arith, ha.len, hb.len)) z
          (ap (λ t. pol m a +P t *P T) (term_one (K m)) ∙ ap (λ t. pol m a +P t) ((P m).one-mul T)) in record { ok = w.ok; is = w.is; short = omega (arith, w.short) }

  pub add_term : {u w : A} {g o y : Residue} → Stands m g u → Stands m o w → Stands m y (el m g ⊕ el m o) → Stands m y (u ⊕ w)
  add_term hg ho hy = record { kept = hy.kept; is = hy.is ∙ ap₂ ◌⊕◌ hg.is ho.is }

  neg_at : (b : Poly) (k : ℕ) → cf (negP (pol m b)) k ≡ ng (cf (pol m b) k)
  neg_at b k = at (K m) (coef_neg (K m) (pol m b)) k

  pub sub_term : {u : A} {g o y : Residue} (b : Poly) (k : ℕ) → Stands m g u → Stands m o (cf (pol m b) k) → Stands m y (el m g ⊕ ng (el m o)) → Stands m y (u ⊕ cf (negP (pol m b)) k)
  sub_term b k hg ho hy = record { kept = hy.kept; is = hy.is ∙ ap₂ ◌⊕◌ hg.is (ap ng ho.is ∙ sym (neg_at b k)) }

  pub neg_below : (b : Poly) → Ok m b → Below (K m) b.n (cf (negP (pol m b)))
  neg_below b h k l = neg_at b k ∙ ap ng (h.size.end k l) ∙ neg_zer (K m)
