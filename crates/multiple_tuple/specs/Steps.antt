-- What the steps of 001's two tables promise: each value is a power of Z times the affine table's (W-204) at the quotients, for whatever quotients the inputs have.
use Rattle.std.specs.Prelude.{◌≡◌, ◌≢◌}
use Rattle.algebra.proofs.Zmod.PrimeField.{modulo}
use Rattle.sum_formulas.proofs.Tuples.Affine2.{r2, top2, low2, rd, topd, lowd, k0, k1, n0, n1, m0, m1}
use Rattle.field.specs.declared.Modulus.{Modulus}
use Rattle.field.specs.declared.Residue.{Residue}
use Rattle.field.specs.Residues.{el, Kept, Settled}
use Rattle.divisor.specs.declared.Quadratic.{Quadratic}
use Rattle.multiple_tuple.specs.declared.Tuple.{Tuple}
use Rattle.multiple_tuple.specs.declared.Gap.{Gap}
use Rattle.multiple_tuple.specs.declared.Line.{Line}
use Rattle.multiple_tuple.specs.declared.RightSide.{RightSide}
use Rattle.divisor.specs.declared.Duo.{Duo}
use Rattle.multiple_tuple.specs.declared.Powers.{Powers}
use Rattle.multiple_tuple.specs.Tuples.{K, KeptTuple, Over, Tabled, last}

module _ (m : Modulus) where
  open K m use {El as A, add as ◌+◌, mul as ◌*◌, neg, one as 𝟙}

  infixl 65 ◌+◌
  infixl 65 ◌-◌
  infixl 70 ◌*◌
  abbrev ◌-◌ : A → A → A
  a - b = a + neg b

  pub record KeptGap (g : Gap) : Type 0 where
    pub z1 : Kept m g.z1
    pub z2 : Kept m g.z2
    pub both : Kept m g.both

  pub record KeptDuo (h : Duo) : Type 0 where
    pub c0 : Kept m h.c0
    pub c1 : Kept m h.c1

  pub record KeptRight (k : RightSide) : Type 0 where
    pub k0 : Kept m k.k0
    pub k1 : Kept m k.k1
    pub d : Kept m k.d

  pub record KeptLine (s : Line) : Type 0 where
    pub r : Kept m s.r
    pub s1 : Kept m s.s1
    pub s0 : Kept m s.s0

  pub record KeptPowers (p : Powers) : Type 0 where
    pub rz : Kept m p.rz
    pub s3 : Kept m p.s3
    pub ra : Kept m p.ra
    pub ss : Kept m p.ss
    pub t : Kept m p.t

  -- the same quotients over another Z, which is the old one times x
  pub record Widened (t : Tuple) (x z : Residue) (r : Tuple) : Type 0 where
    pub kept : KeptTuple m r
    pub z_is : r.z ≡ z
    pub is : (a0 a1 c0 c1 : A) → Over m (el m t.z) t a0 a1 c0 c1 → el m z ≡ el m t.z * el m x → Over m (el m z) r a0 a1 c0 c1

  pub record WidenedPlain (q : Quadratic) (x : Residue) (r : Tuple) : Type 0 where
    pub kept : KeptTuple m r
    pub z_is : r.z ≡ x
    pub is : Over m (el m x) r (el m q.u0) (el m q.u1) (el m q.v0) (el m q.v1)

  -- u of w less u of b, over one Z: u1 so, u0 with its sign turned; and the sum of both u1
  pub record Differ (w b : Tuple) (g : Gap) : Type 0 where
    pub kept : KeptGap g
    pub z1 : el m g.z1 ≡ el m w.u1 - el m b.u1
    pub z2 : el m g.z2 ≡ el m b.u0 - el m w.u0
    pub both : el m g.both ≡ el m w.u1 + el m b.u1

  -- r, s1 and s0 of an affine table, times k; the last one times z too
  pub record Scaled (z k : A) (s : Line) (r1 t1 l1 : A) : Type 0 where
    pub r : el m s.r ≡ k * r1
    pub s1 : el m s.s1 ≡ k * t1
    pub s0 : el m s.s0 ≡ k * z * l1

  -- o is the other pair, w the same over the Z of b
  pub record Chorded (o w b : Tuple) (s : Line) : Type 0 where
    pub kept : KeptLine s
    pub is : (a0 a1 c0 c1 b0 b1 d0 d1 : A) → Over m (el m o.z) o b0 b1 d0 d1 → Over m (el m b.z) w b0 b1 d0 d1 → Over m (el m b.z) b a0 a1 c0 c1
        → Scaled (el m b.z) (el m b.z * el m b.z * el m o.z) s (r2 (modulo m.p) a0 a1 c0 c1 b0 b1 d0 d1) (top2 (modulo m.p) a0 a1 c0 c1 b0 b1 d0 d1) (low2 (modulo m.p) a0 a1 c0 c1 b0 b1 d0 d1)

  pub record Righted (t : Tuple) (f2 f3 f4 : Residue) (k : RightSide) : Type 0 where
    pub kept : KeptRight k
    pub d_is : (a0 a1 c0 c1 : A) → Over m (el m t.z) t a0 a1 c0 c1 → el m k.d ≡ el m t.z * (a1 + a1 - el m f4)
    pub k1_is : (a0 a1 c0 c1 : A) → Over m (el m t.z) t a0 a1 c0 c1 → el m k.k1 ≡ el m t.z * el m t.z * k1 (modulo m.p) a0 a1 c0 c1 (el m f2) (el m f3) (el m f4)
    pub k0_is : (a0 a1 c0 c1 : A) → Over m (el m t.z) t a0 a1 c0 c1 → el m k.k0 ≡ el m t.z * el m t.z * el m t.z * k0 (modulo m.p) a0 a1 c0 c1 (el m f2) (el m f3) (el m f4)

  pub record Touched (t : Tuple) (k : RightSide) (s : Line) : Type 0 where
    pub kept : KeptLine s
    pub is : (f2 f3 f4 : Residue) → Righted t f2 f3 f4 k → (a0 a1 c0 c1 : A) → Over m (el m t.z) t a0 a1 c0 c1
        → Scaled (el m t.z) (el m t.z * el m t.z * el m t.z * el m t.z) s (rd (modulo m.p) a0 a1 c0 c1) (topd (modulo m.p) a0 a1 c0 c1 (el m f2) (el m f3) (el m f4)) (lowd (modulo m.p) a0 a1 c0 c1 (el m f2) (el m f3) (el m f4))

  -- 001's R, s3, R~ of its step 9 and S3; and s1·u1
  pub record Prepared (b : Tuple) (x : Line) (p : Powers) : Type 0 where
    pub kept : KeptPowers p
    pub rz : el m p.rz ≡ el m b.z * el m x.r
    pub s3 : el m p.s3 ≡ el m x.s1 * el m b.z
    pub ra : el m p.ra ≡ el m p.rz * el m p.s3
    pub ss : el m p.ss ≡ el m p.s3 * el m p.s3
    pub t : el m p.t ≡ el m x.s1 * el m b.u1

  -- r and s0 by the quotients wi = r/s1 and t = s0/s1
  pub record Quotes (z : A) (s : Line) (t wi : A) : Type 0 where
    pub r : el m s.r ≡ wi * el m s.s1
    pub s0 : el m s.s0 ≡ t * el m s.s1 * z

  -- the new u, times S3
  pub record TimesS3 (p : Powers) (h : Duo) (k0 k1 : A) : Type 0 where
    pub n0 : el m h.c0 ≡ el m p.ss * k0
    pub n1 : el m h.c1 ≡ el m p.ss * k1

  pub record MakesU (b : Tuple) (s : Line) (g : Gap) (p : Powers) (f4 : Residue) (h : Duo) : Type 0 where
    pub kept : KeptDuo h
    pub is : (a0 a1 c0 c1 b0 b1 t wi : A) → Over m (el m b.z) b a0 a1 c0 c1 → el m g.z1 ≡ el m b.z * (b1 - a1) → el m g.z2 ≡ el m b.z * (a0 - b0) → el m g.both ≡ el m b.z * (b1 + a1) → Quotes (el m b.z) s t wi
        → TimesS3 p h (n0 (modulo m.p) a0 a1 c0 c1 b0 b1 t wi (el m f4)) (n1 (modulo m.p) a0 a1 c0 c1 b0 b1 t wi (el m f4))

  -- d is 2 u1 - f4, times Z
  pub record MakesUTwice (b : Tuple) (s : Line) (p : Powers) (d : Residue) (h : Duo) : Type 0 where
    pub kept : KeptDuo h
    pub is : (a0 a1 c0 c1 t wi f4 : A) → Over m (el m b.z) b a0 a1 c0 c1 → el m d ≡ el m b.z * (a1 + a1 - f4) → Quotes (el m b.z) s t wi
        → TimesS3 p h (n0 (modulo m.p) a0 a1 c0 c1 a0 a1 t wi f4) (n1 (modulo m.p) a0 a1 c0 c1 a0 a1 t wi f4)

  -- the answer
  pub record MakesV (b : Tuple) (s : Line) (p : Powers) (h : Duo) (r : Tuple) : Type 0 where
    pub kept : KeptTuple m r
    pub settled : Settled m r.z
    pub z_is : el m r.z ≡ el m p.ra * el m p.ss
    pub is : Prepared b s p → (a0 a1 c0 c1 x0 x1 t w wi : A) → Over m (el m b.z) b a0 a1 c0 c1 → Quotes (el m b.z) s t wi → w * wi ≡ 𝟙 → TimesS3 p h x0 x1
        → Over m (el m r.z) r x0 x1 (m0 (modulo m.p) a0 a1 c0 c1 t w x0 x1) (m1 (modulo m.p) a0 a1 c0 c1 t w x0 x1)

  -- from the first half on
  pub record Through (o w b : Tuple) (f4 : Residue) (r : Tuple) : Type 0 where
    pub kept : KeptTuple m r
    pub settled : Settled m r.z
    pub z_is : (a0 a1 c0 c1 b0 b1 d0 d1 : A) → Over m (el m o.z) o b0 b1 d0 d1 → Over m (el m b.z) w b0 b1 d0 d1 → Over m (el m b.z) b a0 a1 c0 c1
        → el m r.z ≡ last m (el m b.z) (el m b.z * el m b.z * el m o.z) (r2 (modulo m.p) a0 a1 c0 c1 b0 b1 d0 d1) (top2 (modulo m.p) a0 a1 c0 c1 b0 b1 d0 d1)
    pub table : el m r.z ≢ (K m).zer → (a0 a1 c0 c1 b0 b1 d0 d1 : A) → Over m (el m o.z) o b0 b1 d0 d1 → Over m (el m b.z) w b0 b1 d0 d1 → Over m (el m b.z) b a0 a1 c0 c1
        → Tabled m (el m f4) (r2 (modulo m.p) a0 a1 c0 c1 b0 b1 d0 d1) (top2 (modulo m.p) a0 a1 c0 c1 b0 b1 d0 d1) (low2 (modulo m.p) a0 a1 c0 c1 b0 b1 d0 d1) a0 a1 c0 c1 b0 b1 r
