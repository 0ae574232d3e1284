-- The extended Euclid: both lines are combinations of a and b, and how long the cofactors are. A column is that of the s, bounded by the
-- length of b, or that of the t, bounded by the length of a. Lines with the t alone come first; whole lines are those with the s kept.
use Prim.Native.Nat.{ℕ, ◌+◌, ◌-◌, ◌<◌, ◌≤◌, max}
use mathlib.Core.Path.{◌≡◌, refl, sym, ap, ap₂, ◌∙◌, subst}
use mathlib.Core.List.{[], ◌∷◌}
use native.Mathlib.Omega.{arith}
use native.Mathlib.Decide.{ℕ_discrete}
use native.Mathlib.Nat.{le_trans}
use Rattle.algebra.proofs.Ring.Quote.{ring, quote, by}
use Rattle.algebra.proofs.Poly.Term.{C}
use Rattle.algebra.proofs.Zmod.Prime.{Prime}
use Rattle.field.specs.declared.Modulus.{Modulus}
use Rattle.poly.specs.declared.Poly.{Poly}
use Rattle.poly.specs.Polys.{room, K, P, pol, Ok, Is}
use Rattle.poly.specs.Operations.{Divided}
use Rattle.poly_euclid.specs.declared.Line.{Line}
use Rattle.poly_euclid.specs.declared.RightLine.{RightLine}
use Rattle.poly_euclid.specs.Euclid.{OkL, OkH, Lessens, MinusMultiple, Less, Scaled, ScaledH, Gcd, Xgcd, XgcdRight}
use Rattle.poly_euclid.proofs.Common.{Euclid, euclid_begin, euclid_turn, euclid_end, euclid_stop, shared_monic}

-- lengths: xr, yr of the two r, and xs, ys of their cofactors in one column
pub record Column (B xr yr xs ys : ℕ) : Type 0 where
  pub x_short : xs ≤ B + 1 - yr
  pub y_short : ys ≤ B + 1 - xr
  pub x_end : xs ≤ max 1 (B - xr)
  pub y_end : ys ≤ max 1 (B - yr)

-- the arithmetic of a turn, apart from the records, where `omega` has less to split
wider : (B xr er ys : ℕ) → er ≤ xr → ys ≤ B + 1 - xr → ys ≤ B + 1 - er
wider B xr er ys l h = omega arith

at_end : (B yr er w : ℕ) → er < yr → w ≤ B + 1 - yr → w ≤ max 1 (B - er)
at_end B yr er w l h = omega arith

under : (a b c : ℕ) → a ≤ b - c → (a ≡ 0 → ⊥) → a + c ≤ b
under a b c h n = omega arith

added : (B xr yr c q d w : ℕ) → w ≤ max c (q + d - 1) → c ≤ B + 1 - yr → d + xr ≤ B + 1 → q + yr ≤ xr + 1 → w ≤ B + 1 - yr
added B xr yr c q d w hw hc hd hq = omega arith

longest : (B xr yr c q d w : ℕ) → w ≤ max c (q + d - 1) → c ≤ B + 1 - yr → d ≤ B + 1 - xr → q ≤ xr + 1 - yr → (q ≡ 0 → ⊥) → (d ≡ 0 → ⊥) → w ≤ B + 1 - yr
longest B xr yr c q d w hw hc hd hq nq nd = added B xr yr c q d w hw hc (under d (B + 1) xr hd nd) (under q (xr + 1) yr hq nq)

-- the last size n of a remainder: it isn't 0 and at most 1
pub last-size : {k n : ℕ} → (k ≡ 0 → ⊥) → k ≤ 1 → k ≡ n → n ≡ 1
last-size z l e = omega arith

module _ (m : Modulus) where
  open P m use {El as Po, add as ◌+P◌, mul as ◌*P◌, neg as negP, zer as 0P, one as 1P}

  infixl 65 ◌+P◌
  infixl 70 ◌*P◌
  -- w takes the place of d, and d that of c
  column_turn : {B xr yr er : ℕ} {c q d w : Poly} → Column B xr yr c.n d.n → MinusMultiple m c q d w → q.n ≤ xr + 1 - yr → er < yr → er ≤ xr → Column B yr er d.n w.n
  column_turn {B} {xr} {yr} {er} {c} {q} {d} {w} v t hq he hx = record { x_short = wider B xr er d.n hx v.y_short; y_short = next; x_end = v.y_end; y_end = at_end B yr er w.n he next }
    where
      go : Dec (q.n ≡ 0) → Dec (d.n ≡ 0) → w.n ≤ B + 1 - yr
      go (yes z) g = le_trans (t.none_q z) v.x_short
      go (no z) (yes g) = le_trans (t.none_d g) v.x_short
      go (no z) (no g) = longest B xr yr c.n q.n d.n w.n t.short v.x_short v.y_short hq z g

      next : w.n ≤ B + 1 - yr
      next = go (ℕ_discrete q.n 0) (ℕ_discrete d.n 0)

  -- ---- lines without s, which stand for some xs and ys
  pub record Halved (a b : Poly) (x y : RightLine) (xs ys : Po) : Type 0 where
    pub core : Euclid m a b x.r y.r
    pub ok_x : OkH m x
    pub ok_y : OkH m y
    pub x_is : pol m x.r ≡ xs *P pol m a +P pol m x.t *P pol m b
    pub y_is : pol m y.r ≡ ys *P pol m a +P pol m y.t *P pol m b
    pub t : Column a.n x.r.n y.r.n x.t.n y.t.n

  pub record Halving (a b : Poly) (x y : RightLine) : Type 0 where
    pub xs : Po
    pub ys : Po
    pub lines : Halved a b x y xs ys

  pub half_begin : {a b o z : Poly} {xs ys : Po} → Ok m a → Ok m b → Is m o 1P 1 → Is m z 0P 0 → xs ≡ 1P → ys ≡ 0P → Halved a b (record { r = a; t = z }) (record { r = b; t = o }) xs ys
  half_begin {a} {b} {o} {z} ha hb ho hz ex ey = record {
    core = euclid_begin m a b ha hb;
    ok_x = record { r = ha; t = hz.ok };
    ok_y = record { r = hb; t = ho.ok };
    x_is = sym (ap₂ (λ s t. s *P pol m a +P t *P pol m b) ex hz.is ∙ ring (P m) (pol m a ∷ pol m b ∷ []) (search quote depth 40) refl);
    y_is = sym (ap₂ (λ s t. s *P pol m a +P t *P pol m b) ey ho.is ∙ ring (P m) (pol m a ∷ pol m b ∷ []) (search quote depth 40) refl);
    t = record { x_short = omega (arith, hz.short); y_short = omega (arith, ho.short); x_end = omega (arith, hz.short); y_end = omega (arith, ho.short) };
  }

  -- one turn: the product of the quotient with a cofactor fits
  module _ {a b : Poly} {x y : RightLine} {xs ys : Po} {q e : Poly} (ha : Ok m a) (v : Halved a b x y xs ys) (l : 0 < y.r.n) (d : Divided m x.r y.r q e) where
    pub half_fits : q.n + y.t.n ≤ room + 1
    half_fits = omega (arith, d.short, v.t.y_short, v.ok_x.r.len, ha.len)

    pub half_turn : {w : Poly} {zs : Po} → MinusMultiple m x.t q y.t w → zs ≡ xs +P negP (pol m q *P ys) → Halved a b y (record { r = e; t = w }) ys zs
    half_turn {w} {zs} h ez = record {
      core = euclid_turn m v.core d;
      ok_x = v.ok_y;
      ok_y = record { r = d.ok_r; t = h.ok };
      x_is = v.y_is;
      y_is = by (P m) (negP 1P) d.is (by (P m) 1P v.x_is (by (P m) (negP (pol m q)) v.y_is
          (ring (P m) (pol m e ∷ pol m x.r ∷ pol m y.r ∷ pol m q ∷ xs ∷ pol m x.t ∷ ys ∷ pol m y.t ∷ pol m a ∷ pol m b ∷ []) (search quote depth 40) refl)))
          ∙ sym (ap₂ (λ s t. s *P pol m a +P t *P pol m b) ez h.is);
      t = column_turn v.t h d.short d.rest d.less;
    }

  -- z, one of the two, made monic
  combined : (a b : Poly) {z u : RightLine} (zs : Po) → pol m z.r ≡ zs *P pol m a +P pol m z.t *P pol m b → (h : ScaledH m z u) → pol m u.r ≡ C (K m) h.up *P zs *P pol m a +P pol m u.t *P pol m b
  combined a b {z} {u} zs e h = let up : Po = C (K m) h.up in h.r.is ∙ ap (λ t. up *P t) e
      ∙ ring (P m) (up ∷ zs ∷ pol m a ∷ pol m z.t ∷ pol m b ∷ []) (search quote depth 40) refl
      ∙ ap (λ t. up *P zs *P pol m a +P t *P pol m b) (sym h.t.is)

  half_finish : {a b : Poly} {z u : RightLine} (zs : Po) → Gcd m a b u.r → pol m z.r ≡ zs *P pol m a +P pol m z.t *P pol m b → z.t.n ≤ max 1 (a.n - z.r.n) → ScaledH m z u → XgcdRight m a b u
  half_finish {a} {b} zs g e ht h = record { gcd = g; ok_t = h.t.ok; s = C (K m) h.up *P zs; is = combined a b zs e h; short_t = omega (arith, h.r.same, h.t.short, ht) }

  pub half_end : {a b : Poly} {x y u : RightLine} {xs ys : Po} → Halved a b x y xs ys → y.r.n ≡ 0 → ScaledH m x u → XgcdRight m a b u
  half_end {xs = xs} v e h = half_finish xs (shared_monic m (euclid_end m v.core e) h.r) v.x_is v.t.x_end h

  pub half_stop : Prime m.p → {a b : Poly} {x y u : RightLine} {xs ys : Po} → Halved a b x y xs ys → y.r.n ≡ 1 → ScaledH m y u → XgcdRight m a b u
  half_stop prime {ys = ys} v e h = half_finish ys (shared_monic m (euclid_stop m v.core prime e) h.r) v.y_is v.t.y_end h

  -- ---- whole lines: the same, with the s kept
  abbrev upper : Line → RightLine
  upper x = record { r = x.r; t = x.t }

  pub record Extended (a b : Poly) (x y : Line) : Type 0 where
    pub half : Halved a b (upper x) (upper y) (pol m x.s) (pol m y.s)
    pub ok_x : Ok m x.s
    pub ok_y : Ok m y.s
    pub s : Column b.n x.r.n y.r.n x.s.n y.s.n

  pub extended_begin : {a b o z : Poly} → Ok m a → Ok m b → Is m o 1P 1 → Is m z 0P 0 → Extended a b (record { r = a; s = o; t = z }) (record { r = b; s = z; t = o })
  extended_begin {a} {b} {o} {z} ha hb ho hz = record {
    half = half_begin ha hb ho hz ho.is hz.is;
    ok_x = ho.ok;
    ok_y = hz.ok;
    s = record { x_short = omega (arith, ho.short); y_short = omega (arith, hz.short); x_end = omega (arith, ho.short); y_end = omega (arith, hz.short) };
  }

  module _ {a b : Poly} {x y : Line} (v : Extended a b x y) where
    pub first_ok : OkL m x
    first_ok = record { r = v.half.ok_x.r; s = v.ok_x; t = v.half.ok_x.t }

    pub second_ok : OkL m y
    second_ok = record { r = v.half.ok_y.r; s = v.ok_y; t = v.half.ok_y.t }

  module _ {a b : Poly} {x y : Line} {q e : Poly} (ha : Ok m a) (hb : Ok m b) (v : Extended a b x y) (l : 0 < y.r.n) (d : Divided m x.r y.r q e) where
    pub turn_fits : Lessens m x q y e
    turn_fits = record {
      ok_x = first_ok v;
      ok_q = d.ok_q;
      ok_u = second_ok v;
      ok_e = d.ok_r;
      fits_s = omega (arith, d.short, v.s.y_short, v.half.ok_x.r.len, hb.len);
      fits_t = half_fits ha v.half l d;
    }

    pub turn_is : {z : Line} → Less m x q y e z → Extended a b y z
    turn_is {z} h = subst (λ (r : Poly). Extended a b y (record { r = r; s = z.s; t = z.t })) (sym h.r_is)
        (record { half = half_turn ha v.half l d h.t h.s.is; ok_x = v.ok_y; ok_y = h.s.ok; s = column_turn v.s h.s d.short d.rest d.less })

  finish : {a b : Poly} {z u : Line} → Gcd m a b u.r → pol m z.r ≡ pol m z.s *P pol m a +P pol m z.t *P pol m b
      → z.s.n ≤ max 1 (b.n - z.r.n) → z.t.n ≤ max 1 (a.n - z.r.n) → Scaled m z u → Xgcd m a b u
  finish {a} {b} {z} {u} g e hs ht h = record {
    gcd = g;
    ok_s = h.s.ok;
    ok_t = h.t.ok;
    is = combined a b {z = upper z} {u = upper u} (pol m z.s) e (record { up = h.up; r = h.r; t = h.t }) ∙ ap (λ t. t *P pol m a +P pol m u.t *P pol m b) (sym h.s.is);
    short_s = omega (arith, h.r.same, h.s.short, hs);
    short_t = omega (arith, h.r.same, h.t.short, ht);
  }

  pub extended_end : {a b : Poly} {x y u : Line} → Extended a b x y → y.r.n ≡ 0 → Scaled m x u → Xgcd m a b u
  extended_end v e h = finish (shared_monic m (euclid_end m v.half.core e) h.r) v.half.x_is v.s.x_end v.half.t.x_end h

  pub extended_stop : Prime m.p → {a b : Poly} {x y u : Line} → Extended a b x y → y.r.n ≡ 1 → Scaled m y u → Xgcd m a b u
  extended_stop prime v e h = finish (shared_monic m (euclid_stop m v.half.core prime e) h.r) v.half.y_is v.s.y_end v.half.t.y_end h
