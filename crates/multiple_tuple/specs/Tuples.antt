-- What a tuple stands for: (U1, U0, V1, V0, Z) with Z ≠ 0 is the pair of weight 2 with the quotients U/Z and V/Z. Then what the sums of tuples promise. (W-206, source 001.)
use Rattle.std.specs.Prelude.{◌≡◌, ◌≢◌, [], ◌∷◌}
use Rattle.algebra.proofs.Ring.CRing.{CRing}
use Rattle.algebra.proofs.Zmod.Zmod.{zmod}
use Rattle.algebra.proofs.Zmod.PrimeField.{modulo}
use Rattle.rules.specs.Curve.{Curve}
use Rattle.rules.specs.Pair.{Pair, Valid}
use Rattle.rules.specs.Sum.{sum}
use Rattle.rules.proofs.Cantor.Accepted.{Accepted}
use Rattle.sum_formulas.proofs.Tuples.Affine2.{r2, top2, low2, rd, topd, lowd, n0, n1, m0, m1}
use Rattle.field.specs.declared.Modulus.{Modulus}
use Rattle.field.specs.declared.Residue.{Residue}
use Rattle.field.specs.Residues.{el, Kept, Settled}
use Rattle.divisor.specs.declared.Quadratic.{Quadratic}
use Rattle.divisor.specs.declared.Divisor.TheVariants.{Two}
use Rattle.divisor.specs.Divisors.{Held, pair}
use Rattle.multiple_tuple.specs.declared.Tuple.{Tuple}

module _ (m : Modulus) where
  abbrev pub K : CRing
  K = zmod m.p

  open K use {El as A, mul as ◌*◌}

  infixl 70 ◌*◌
  pub record KeptTuple (t : Tuple) : Type 0 where
    pub u1 : Kept m t.u1
    pub u0 : Kept m t.u0
    pub v1 : Kept m t.v1
    pub v0 : Kept m t.v0
    pub z : Kept m t.z

  -- z times x² + a1 x + a0, c1 x + c0
  pub record Over (z : A) (t : Tuple) (a0 a1 c0 c1 : A) : Type 0 where
    pub u0 : el m t.u0 ≡ z * a0
    pub u1 : el m t.u1 ≡ z * a1
    pub v0 : el m t.v0 ≡ z * c0
    pub v1 : el m t.v1 ≡ z * c1

  pub record Quotients (t : Tuple) (x : Pair (modulo m.p)) : Type 0 where
    pub nonzero : el m t.z ≢ K.zer
    pub a0 : A
    pub a1 : A
    pub c0 : A
    pub c1 : A
    pub is : x ≡ record { u = a0 ∷ a1 ∷ []; v = c0 ∷ c1 ∷ [] }
    pub over : Over (el m t.z) t a0 a1 c0 c1

  -- t has the affine table's answer from r1, t1 = s1' and l1 = s0': s = s'/r = w·(x + t)
  pub record Tabled (f4 r1 t1 l1 a0 a1 c0 c1 b0 b1 : A) (r : Tuple) : Type 0 where
    pub ri : A
    pub w : A
    pub wi : A
    pub t : A
    pub unit_r : r1 * ri ≡ K.one
    pub top : r1 * w ≡ t1
    pub low : t1 * t ≡ l1
    pub unit : w * wi ≡ K.one
    pub over : Over (el m r.z) r (n0 (modulo m.p) a0 a1 c0 c1 b0 b1 t wi f4) (n1 (modulo m.p) a0 a1 c0 c1 b0 b1 t wi f4)
        (m0 (modulo m.p) a0 a1 c0 c1 t w (n0 (modulo m.p) a0 a1 c0 c1 b0 b1 t wi f4) (n1 (modulo m.p) a0 a1 c0 c1 b0 b1 t wi f4))
        (m1 (modulo m.p) a0 a1 c0 c1 t w (n0 (modulo m.p) a0 a1 c0 c1 b0 b1 t wi f4) (n1 (modulo m.p) a0 a1 c0 c1 b0 b1 t wi f4))

  -- what the last Z is of the common one, the scale k of r and s1, and the affine r and s1'
  abbrev pub last : A → A → A → A → A
  last z k r1 t1 = z * z * z * z * (k * k * k * k) * (r1 * (t1 * t1 * t1))

  -- a curve of genus 2
  abbrev pub curve2 : A → A → A → A → A → Curve
  curve2 f0 f1 f2 f3 f4 = record { K = modulo m.p; g = 2; low = f0 ∷ f1 ∷ f2 ∷ f3 ∷ f4 ∷ [] }

  -- r is a tuple whose Z can be tested, and isn't 0 just where the affine r and s1' aren't (`z_is`); then r has the affine table's quotients (`table`), and stands for the rule's sum of whatever valid pairs the inputs stand for, on every curve with this f4
  pub record Added (f4 : Residue) (a b r : Tuple) : Type 0 where
    pub kept : KeptTuple r
    pub settled : Settled m r.z
    pub z_is : (a0 a1 c0 c1 b0 b1 d0 d1 : A) → Over (el m a.z) a a0 a1 c0 c1 → Over (el m b.z) b b0 b1 d0 d1
        → el m r.z ≡ last (el m a.z * el m b.z) (el m a.z * el m b.z * (el m a.z * el m b.z) * el m b.z) (r2 (modulo m.p) a0 a1 c0 c1 b0 b1 d0 d1) (top2 (modulo m.p) a0 a1 c0 c1 b0 b1 d0 d1)
    pub table : el m r.z ≢ K.zer → (a0 a1 c0 c1 b0 b1 d0 d1 : A) → Over (el m a.z) a a0 a1 c0 c1 → Over (el m b.z) b b0 b1 d0 d1
        → Tabled (el m f4) (r2 (modulo m.p) a0 a1 c0 c1 b0 b1 d0 d1) (top2 (modulo m.p) a0 a1 c0 c1 b0 b1 d0 d1) (low2 (modulo m.p) a0 a1 c0 c1 b0 b1 d0 d1) a0 a1 c0 c1 b0 b1 r
    pub is : el m r.z ≢ K.zer → (x y : Pair (modulo m.p)) → Quotients a x → Quotients b y
        → (f0 f1 f2 f3 : A) → Accepted (curve2 f0 f1 f2 f3 (el m f4)) → Valid (curve2 f0 f1 f2 f3 (el m f4)) x → Valid (curve2 f0 f1 f2 f3 (el m f4)) y
        → Quotients r (sum (curve2 f0 f1 f2 f3 (el m f4)) x y)

  -- the same where the second one is plain: it is the base of the table
  pub record Mixed (f4 : Residue) (a : Tuple) (b : Quadratic) (r : Tuple) : Type 0 where
    pub kept : KeptTuple r
    pub settled : Settled m r.z
    pub z_is : (a0 a1 c0 c1 : A) → Over (el m a.z) a a0 a1 c0 c1
        → el m r.z ≡ last (el m a.z) (el m a.z * el m a.z * el m a.z) (r2 (modulo m.p) (el m b.u0) (el m b.u1) (el m b.v0) (el m b.v1) a0 a1 c0 c1) (top2 (modulo m.p) (el m b.u0) (el m b.u1) (el m b.v0) (el m b.v1) a0 a1 c0 c1)
    pub table : el m r.z ≢ K.zer → (a0 a1 c0 c1 : A) → Over (el m a.z) a a0 a1 c0 c1
        → Tabled (el m f4) (r2 (modulo m.p) (el m b.u0) (el m b.u1) (el m b.v0) (el m b.v1) a0 a1 c0 c1) (top2 (modulo m.p) (el m b.u0) (el m b.u1) (el m b.v0) (el m b.v1) a0 a1 c0 c1) (low2 (modulo m.p) (el m b.u0) (el m b.u1) (el m b.v0) (el m b.v1) a0 a1 c0 c1) (el m b.u0) (el m b.u1) (el m b.v0) (el m b.v1) a0 a1 r
    pub is : el m r.z ≢ K.zer → (x : Pair (modulo m.p)) → Quotients a x
        → (f0 f1 f2 f3 : A) → Accepted (curve2 f0 f1 f2 f3 (el m f4)) → Valid (curve2 f0 f1 f2 f3 (el m f4)) x → Valid (curve2 f0 f1 f2 f3 (el m f4)) (pair m (Two b))
        → Quotients r (sum (curve2 f0 f1 f2 f3 (el m f4)) x (pair m (Two b)))

  pub record Doubled (f2 f3 f4 : Residue) (a r : Tuple) : Type 0 where
    pub kept : KeptTuple r
    pub settled : Settled m r.z
    pub z_is : (a0 a1 c0 c1 : A) → Over (el m a.z) a a0 a1 c0 c1
        → el m r.z ≡ last (el m a.z) (el m a.z * el m a.z * el m a.z * el m a.z) (rd (modulo m.p) a0 a1 c0 c1) (topd (modulo m.p) a0 a1 c0 c1 (el m f2) (el m f3) (el m f4))
    pub table : el m r.z ≢ K.zer → (a0 a1 c0 c1 : A) → Over (el m a.z) a a0 a1 c0 c1
        → Tabled (el m f4) (rd (modulo m.p) a0 a1 c0 c1) (topd (modulo m.p) a0 a1 c0 c1 (el m f2) (el m f3) (el m f4)) (lowd (modulo m.p) a0 a1 c0 c1 (el m f2) (el m f3) (el m f4)) a0 a1 c0 c1 a0 a1 r
    pub is : el m r.z ≢ K.zer → (x : Pair (modulo m.p)) → Quotients a x
        → (f0 f1 : A) → Accepted (curve2 f0 f1 (el m f2) (el m f3) (el m f4)) → Valid (curve2 f0 f1 (el m f2) (el m f3) (el m f4)) x
        → Quotients r (sum (curve2 f0 f1 (el m f2) (el m f3) (el m f4)) x x)

  -- to a tuple and back
  pub record Lifted (q : Quadratic) (r : Tuple) : Type 0 where
    pub kept : KeptTuple r
    pub is : Quotients r (pair m (Two q))

  pub record Divided (t : Tuple) (q : Quadratic) : Type 0 where
    pub held : Held m (Two q)
    pub is : (x : Pair (modulo m.p)) → Quotients t x → pair m (Two q) ≡ x
