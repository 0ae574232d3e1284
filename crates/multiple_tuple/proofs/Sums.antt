-- What the steps promise adds up to the affine table's answer, and that is the rule's sum. Gives: `through_is` from both pairs over one Z, `added_is` of two tuples, `mixed_is` of a tuple and a plain divisor,
-- `doubled_is` of a tuple with itself.
use mathlib.Core.Path.{◌≡◌, sym, ap, ap₂, ◌∙◌, subst}
use mathlib.Core.Logic.{◌≢◌}
use Rattle.algebra.proofs.Zmod.PrimeField.{modulo}
use Rattle.rules.specs.Curve.{Curve}
use Rattle.rules.specs.Pair.{Pair, Valid}
use Rattle.rules.specs.Sum.{sum}
use Rattle.rules.proofs.Cantor.Accepted.{Accepted}
use Rattle.rules.proofs.Cantor.Group.{sum_comm}
use Rattle.sum_formulas.proofs.Tuples.Affine2.{r2, top2, low2, rd, topd, lowd, n0, n1, m0, m1, pair_of, affine_add2, affine_double2}
use Rattle.sum_formulas.proofs.Tuples.Projective2.{differ_1, differ_2, both_1, last_z}
use Rattle.sum_formulas.proofs.Tuples.Shares2.{Shares, shares}
use Rattle.algebra.proofs.Zmod.Prime.{Prime}
use Rattle.field.specs.declared.Modulus.{Modulus}
use Rattle.field.specs.declared.Residue.{Residue}
use Rattle.field.specs.Residues.{el}
use Rattle.field.proofs.Laws.{residue_field}
use Rattle.divisor.specs.declared.Quadratic.{Quadratic}
use Rattle.divisor.specs.declared.Divisor.TheVariants.{Two}
use Rattle.divisor.specs.Divisors.{pair}
use Rattle.multiple_tuple.specs.declared.Tuple.{Tuple}
use Rattle.multiple_tuple.specs.declared.Gap.{Gap}
use Rattle.multiple_tuple.specs.declared.Line.{Line}
use Rattle.multiple_tuple.specs.declared.RightSide.{RightSide}
use Rattle.divisor.specs.declared.Duo.{Duo}
use Rattle.multiple_tuple.specs.declared.Powers.{Powers}
use Rattle.multiple_tuple.specs.Tuples.{K, Over, Quotients, Tabled, last, curve2, Added, Mixed, Doubled}
use Rattle.multiple_tuple.specs.Steps.{Widened, WidenedPlain, Differ, Scaled, Chorded, Righted, Touched, Prepared, Quotes, TimesS3, MakesU, MakesUTwice, MakesV, Through}

module _ (m : Modulus) (prime : Prime m.p) where
  open K m use {El as A, mul as ◌*◌}

  infixl 70 ◌*◌
  -- where the last Z isn't 0
  shared : (b : Tuple) (s : Line) (p : Powers) → Prepared m b s p → (Z : A) → Z ≡ el m p.ra * el m p.ss → Z ≢ (K m).zer → (k r1 t1 l1 : A) → Scaled m (el m b.z) k s r1 t1 l1
      → Shares (K m) (el m b.z) (el m s.r) (el m s.s1) (el m s.s0) r1 t1 l1
  shared b s p hp Z e nz k r1 t1 l1 h = shares (K m) (el m b.z) (el m s.r) (el m s.s1) (el m p.rz) (el m p.s3) (el m p.ra) (el m p.ss) Z ((residue_field m prime).arith.inv Z)
      hp.rz hp.s3 hp.ra e ((residue_field m prime).mul_inv Z nz) k (el m s.s0) r1 t1 l1 h.r h.s1 h.s0

  quotes : {z : A} {s : Line} {r1 t1 l1 : A} (q : Shares (K m) z (el m s.r) (el m s.s1) (el m s.s0) r1 t1 l1) → Quotes m z s q.t q.wi
  quotes q = record { r = q.r_is; s0 = q.s_is }

  -- the last Z, and the affine table's answer
  module _ (b : Tuple) (s : Line) (p : Powers) (hp : Prepared m b s p) (r : Tuple) (h : Duo) (hr : MakesV m b s p h r) (k r1 t1 l1 : A) (hs : Scaled m (el m b.z) k s r1 t1 l1) where
    z_by : el m r.z ≡ last m (el m b.z) k r1 t1
    z_by = last_z (K m) (el m b.z) k r1 t1 _ _ _ _ _ _ _ hs.r hs.s1 hp.rz hp.s3 hp.ra hp.ss hr.z_is

    table_by : (f4 a0 a1 c0 c1 b0 b1 : A) → Over m (el m b.z) b a0 a1 c0 c1 → el m r.z ≢ (K m).zer
        → ((t wi : A) → Quotes m (el m b.z) s t wi → TimesS3 m p h (n0 (modulo m.p) a0 a1 c0 c1 b0 b1 t wi f4) (n1 (modulo m.p) a0 a1 c0 c1 b0 b1 t wi f4)) → Tabled m f4 r1 t1 l1 a0 a1 c0 c1 b0 b1 r
    table_by f4 a0 a1 c0 c1 b0 b1 hb nz hh = let q = shared b s p hp (el m r.z) hr.z_is nz k r1 t1 l1 hs in record {
      ri = q.ri;
      w = q.w;
      wi = q.wi;
      t = q.t;
      unit_r = q.unit_r;
      top = q.top;
      low = q.low;
      unit = q.unit;
      over = hr.is hp a0 a1 c0 c1 (n0 (modulo m.p) a0 a1 c0 c1 b0 b1 q.t q.wi f4) (n1 (modulo m.p) a0 a1 c0 c1 b0 b1 q.t q.wi f4) q.t q.w q.wi hb (quotes q) q.unit (hh q.t q.wi (quotes q));
    }

  pub through_is : (o w b : Tuple) (f4 : Residue) (g : Gap) → Differ m w b g → (s : Line) → Chorded m o w b s → (p : Powers) → Prepared m b s p → (h : Duo) → MakesU m b s g p f4 h → (r : Tuple) → MakesV m b s p h r
      → Through m o w b f4 r
  through_is o w b f4 g hg s hs p hp h hh r hr = record {
    kept = hr.kept;
    settled = hr.settled;
    z_is = λ a0 a1 c0 c1 b0 b1 d0 d1 ho hw hb. z_by b s p hp r h hr _ _ _ _ (hs.is a0 a1 c0 c1 b0 b1 d0 d1 ho hw hb);
    table = λ nz a0 a1 c0 c1 b0 b1 d0 d1 ho hw hb. table_by b s p hp r h hr _ _ _ _ (hs.is a0 a1 c0 c1 b0 b1 d0 d1 ho hw hb) (el m f4) a0 a1 c0 c1 b0 b1 hb nz
        (λ t wi q. hh.is a0 a1 c0 c1 b0 b1 t wi hb (differ_1 (K m) (el m b.z) a1 b1 _ _ _ hw.u1 hb.u1 hg.z1) (differ_2 (K m) (el m b.z) a0 b0 _ _ _ hw.u0 hb.u0 hg.z2) (both_1 (K m) (el m b.z) a1 b1 _ _ _ hw.u1 hb.u1 hg.both) q);
  }

  -- the affine table's answer is the rule's sum
  summed : (f4 f0 f1 f2 f3 a0 a1 c0 c1 b0 b1 d0 d1 : A) (r : Tuple) → el m r.z ≢ (K m).zer
      → Tabled m f4 (r2 (modulo m.p) a0 a1 c0 c1 b0 b1 d0 d1) (top2 (modulo m.p) a0 a1 c0 c1 b0 b1 d0 d1) (low2 (modulo m.p) a0 a1 c0 c1 b0 b1 d0 d1) a0 a1 c0 c1 b0 b1 r
      → Accepted (curve2 m f0 f1 f2 f3 f4) → Valid (curve2 m f0 f1 f2 f3 f4) (pair_of (modulo m.p) a0 a1 c0 c1) → Valid (curve2 m f0 f1 f2 f3 f4) (pair_of (modulo m.p) b0 b1 d0 d1)
      → Quotients m r (sum (curve2 m f0 f1 f2 f3 f4) (pair_of (modulo m.p) a0 a1 c0 c1) (pair_of (modulo m.p) b0 b1 d0 d1))
  summed f4 f0 f1 f2 f3 a0 a1 c0 c1 b0 b1 d0 d1 r nz q ok va vb = record {
    nonzero = nz;
    a0 = n0 (modulo m.p) a0 a1 c0 c1 b0 b1 q.t q.wi f4;
    a1 = n1 (modulo m.p) a0 a1 c0 c1 b0 b1 q.t q.wi f4;
    c0 = m0 (modulo m.p) a0 a1 c0 c1 q.t q.w (n0 (modulo m.p) a0 a1 c0 c1 b0 b1 q.t q.wi f4) (n1 (modulo m.p) a0 a1 c0 c1 b0 b1 q.t q.wi f4);
    c1 = m1 (modulo m.p) a0 a1 c0 c1 q.t q.w (n0 (modulo m.p) a0 a1 c0 c1 b0 b1 q.t q.wi f4) (n1 (modulo m.p) a0 a1 c0 c1 b0 b1 q.t q.wi f4);
    is = affine_add2 (modulo m.p) a0 a1 c0 c1 b0 b1 d0 d1 f0 f1 f2 f3 f4 ok va vb q.ri q.w q.wi q.t q.unit_r q.top q.low q.unit;
    over = q.over;
  }

  summed_twice : (f2 f3 f4 f0 f1 a0 a1 c0 c1 : A) (r : Tuple) → el m r.z ≢ (K m).zer
      → Tabled m f4 (rd (modulo m.p) a0 a1 c0 c1) (topd (modulo m.p) a0 a1 c0 c1 f2 f3 f4) (lowd (modulo m.p) a0 a1 c0 c1 f2 f3 f4) a0 a1 c0 c1 a0 a1 r
      → Accepted (curve2 m f0 f1 f2 f3 f4) → Valid (curve2 m f0 f1 f2 f3 f4) (pair_of (modulo m.p) a0 a1 c0 c1)
      → Quotients m r (sum (curve2 m f0 f1 f2 f3 f4) (pair_of (modulo m.p) a0 a1 c0 c1) (pair_of (modulo m.p) a0 a1 c0 c1))
  summed_twice f2 f3 f4 f0 f1 a0 a1 c0 c1 r nz q ok va = record {
    nonzero = nz;
    a0 = n0 (modulo m.p) a0 a1 c0 c1 a0 a1 q.t q.wi f4;
    a1 = n1 (modulo m.p) a0 a1 c0 c1 a0 a1 q.t q.wi f4;
    c0 = m0 (modulo m.p) a0 a1 c0 c1 q.t q.w (n0 (modulo m.p) a0 a1 c0 c1 a0 a1 q.t q.wi f4) (n1 (modulo m.p) a0 a1 c0 c1 a0 a1 q.t q.wi f4);
    c1 = m1 (modulo m.p) a0 a1 c0 c1 q.t q.w (n0 (modulo m.p) a0 a1 c0 c1 a0 a1 q.t q.wi f4) (n1 (modulo m.p) a0 a1 c0 c1 a0 a1 q.t q.wi f4);
    is = affine_double2 (modulo m.p) a0 a1 c0 c1 f2 f3 f4 f0 f1 ok va q.ri q.w q.wi q.t q.unit_r q.top q.low q.unit;
    over = q.over;
  }

  -- the same tuple, for an equal pair
  moved : {r : Tuple} {x y : Pair (modulo m.p)} → x ≡ y → Quotients m r y → Quotients m r x
  moved {r} e q = subst (Quotients m r) (sym e) q

  at : {z z' : Residue} {t : Tuple} {a0 a1 c0 c1 : A} → z' ≡ z → Over m (el m z) t a0 a1 c0 c1 → Over m (el m z') t a0 a1 c0 c1
  at {z} {z'} {t} {a0} {a1} {c0} {c1} e h = subst (λ (y : Residue). Over m (el m y) t a0 a1 c0 c1) (sym e) h

  pub doubled_is : (f2 f3 f4 : Residue) (a : Tuple) (k : RightSide) → Righted m a f2 f3 f4 k → (s : Line) → Touched m a k s → (p : Powers) → Prepared m a s p → (h : Duo) → MakesUTwice m a s p k.d h → (r : Tuple) → MakesV m a s p h r
      → Doubled m f2 f3 f4 a r
  doubled_is f2 f3 f4 a k hk s hs p hp h hh r hr = record {
    kept = hr.kept;
    settled = hr.settled;
    z_is = λ a0 a1 c0 c1 ha. z_by a s p hp r h hr _ _ _ _ (hs.is f2 f3 f4 hk a0 a1 c0 c1 ha);
    table = table;
    is = λ nz x qx f0 f1 ok vx.
        let E : Curve = curve2 m f0 f1 (el m f2) (el m f3) (el m f4) in
        moved (ap₂ (sum E) qx.is qx.is) (summed_twice (el m f2) (el m f3) (el m f4) f0 f1 qx.a0 qx.a1 qx.c0 qx.c1 r nz (table nz qx.a0 qx.a1 qx.c0 qx.c1 qx.over) ok (subst (Valid E) qx.is vx));
  }
    where
      table : el m r.z ≢ (K m).zer → (a0 a1 c0 c1 : A) → Over m (el m a.z) a a0 a1 c0 c1
          → Tabled m (el m f4) (rd (modulo m.p) a0 a1 c0 c1) (topd (modulo m.p) a0 a1 c0 c1 (el m f2) (el m f3) (el m f4)) (lowd (modulo m.p) a0 a1 c0 c1 (el m f2) (el m f3) (el m f4)) a0 a1 c0 c1 a0 a1 r
      table nz a0 a1 c0 c1 ha = table_by a s p hp r h hr _ _ _ _ (hs.is f2 f3 f4 hk a0 a1 c0 c1 ha) (el m f4) a0 a1 c0 c1 a0 a1 ha nz (λ t wi q. hh.is a0 a1 c0 c1 t wi (el m f4) ha (hk.d_is a0 a1 c0 c1 ha) q)

  module _ (f4 : Residue) (a b : Tuple) (z : Residue) (e : el m z ≡ el m a.z * el m b.z) (p : Tuple) (hp : Widened m a b.z z p) (w : Tuple) (hw : Widened m b a.z z w) (r : Tuple) (hr : Through m b w p f4 r) where
    over_w : (b0 b1 d0 d1 : A) → Over m (el m b.z) b b0 b1 d0 d1 → Over m (el m p.z) w b0 b1 d0 d1
    over_w b0 b1 d0 d1 h = at hp.z_is (hw.is b0 b1 d0 d1 h (e ∙ (K m).mul_comm (el m a.z) (el m b.z)))

    over_p : (a0 a1 c0 c1 : A) → Over m (el m a.z) a a0 a1 c0 c1 → Over m (el m p.z) p a0 a1 c0 c1
    over_p a0 a1 c0 c1 h = at hp.z_is (hp.is a0 a1 c0 c1 h e)

    common : el m p.z ≡ el m a.z * el m b.z
    common = ap (el m) hp.z_is ∙ e

    table : el m r.z ≢ (K m).zer → (a0 a1 c0 c1 b0 b1 d0 d1 : A) → Over m (el m a.z) a a0 a1 c0 c1 → Over m (el m b.z) b b0 b1 d0 d1
        → Tabled m (el m f4) (r2 (modulo m.p) a0 a1 c0 c1 b0 b1 d0 d1) (top2 (modulo m.p) a0 a1 c0 c1 b0 b1 d0 d1) (low2 (modulo m.p) a0 a1 c0 c1 b0 b1 d0 d1) a0 a1 c0 c1 b0 b1 r
    table nz a0 a1 c0 c1 b0 b1 d0 d1 ha hb = hr.table nz a0 a1 c0 c1 b0 b1 d0 d1 hb (over_w b0 b1 d0 d1 hb) (over_p a0 a1 c0 c1 ha)

    pub added_is : Added m f4 a b r
    added_is = record {
      kept = hr.kept;
      settled = hr.settled;
      z_is = λ a0 a1 c0 c1 b0 b1 d0 d1 ha hb. hr.z_is a0 a1 c0 c1 b0 b1 d0 d1 hb (over_w b0 b1 d0 d1 hb) (over_p a0 a1 c0 c1 ha)
          ∙ ap (λ (y : A). last m y (y * y * el m b.z) (r2 (modulo m.p) a0 a1 c0 c1 b0 b1 d0 d1) (top2 (modulo m.p) a0 a1 c0 c1 b0 b1 d0 d1)) common;
      table = table;
      is = λ nz x y qx qy f0 f1 f2 f3 ok vx vy.
          let E : Curve = curve2 m f0 f1 f2 f3 (el m f4) in
          moved (ap₂ (sum E) qx.is qy.is) (summed (el m f4) f0 f1 f2 f3 qx.a0 qx.a1 qx.c0 qx.c1 qy.a0 qy.a1 qy.c0 qy.c1 r nz
          (table nz qx.a0 qx.a1 qx.c0 qx.c1 qy.a0 qy.a1 qy.c0 qy.c1 qx.over qy.over) ok (subst (Valid E) qx.is vx) (subst (Valid E) qy.is vy));
    }

  pub mixed_is : (f4 : Residue) (a : Tuple) (b : Quadratic) (p : Tuple) → WidenedPlain m b a.z p → (r : Tuple) → Through m a a p f4 r → Mixed m f4 a b r
  unfolding pair
  mixed_is f4 a b p hp r hr = record {
    kept = hr.kept;
    settled = hr.settled;
    z_is = λ a0 a1 c0 c1 ha. hr.z_is (el m b.u0) (el m b.u1) (el m b.v0) (el m b.v1) a0 a1 c0 c1 ha (at hp.z_is ha) (at hp.z_is hp.is)
        ∙ ap (λ (y : A). last m y (y * y * el m a.z) (r2 (modulo m.p) (el m b.u0) (el m b.u1) (el m b.v0) (el m b.v1) a0 a1 c0 c1) (top2 (modulo m.p) (el m b.u0) (el m b.u1) (el m b.v0) (el m b.v1) a0 a1 c0 c1)) (ap (el m) hp.z_is);
    table = λ nz a0 a1 c0 c1 ha. hr.table nz (el m b.u0) (el m b.u1) (el m b.v0) (el m b.v1) a0 a1 c0 c1 ha (at hp.z_is ha) (at hp.z_is hp.is);
    is = λ nz x qx f0 f1 f2 f3 ok vx vb.
        let E : Curve = curve2 m f0 f1 f2 f3 (el m f4) in
        moved (sum_comm E ok x (pair m (Two b)) vx vb ∙ ap (sum E (pair m (Two b))) qx.is) (summed (el m f4) f0 f1 f2 f3 (el m b.u0) (el m b.u1) (el m b.v0) (el m b.v1) qx.a0 qx.a1 qx.c0 qx.c1 r nz
        (hr.table nz (el m b.u0) (el m b.u1) (el m b.v0) (el m b.v1) qx.a0 qx.a1 qx.c0 qx.c1 qx.over (at hp.z_is qx.over) (at hp.z_is hp.is)) ok vb (subst (Valid E) qx.is vx));
  }
