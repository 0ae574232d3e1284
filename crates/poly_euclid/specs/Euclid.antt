-- What Euclid's calls promise: the greatest common divisor of a and b, with and without cofactors, and one step of a line r = s · a + t · b.
use Rattle.std.specs.Prelude.{◌+◌, ◌-◌, ◌<◌, ◌≤◌, max, ◌≡◌}
use Rattle.algebra.proofs.Ring.Divides.{Divides}
use Rattle.algebra.proofs.Poly.Term.{C}
use Rattle.field.specs.declared.Modulus.{Modulus}
use Rattle.poly.specs.declared.Poly.{Poly}
use Rattle.poly.specs.Polys.{room, K, P, pol, Ok, Is}
use Rattle.poly.specs.Operations.{IsMonic, MonicBy}
use Rattle.poly_euclid.specs.declared.Line.{Line}
use Rattle.poly_euclid.specs.declared.RightLine.{RightLine}

-- what division by any u but zero asks
pub record ToDivideBy (m : Modulus) (a u : Poly) : Type 0 where
  pub left : Ok m a
  pub right : Ok m u
  pub some : 0 < u.n

module _ (m : Modulus) where
  open K m use {El as A}
  open P m use {El as Po, add as ◌+P◌, mul as ◌*P◌, neg as negP}

  infixl 65 ◌+P◌
  infixl 70 ◌*P◌
  -- g divides a and b, and whatever divides both divides g: their greatest common divisor up to a constant
  pub record Shared (a b g : Poly) : Type 0 where
    pub ok : Ok m g
    pub left : Divides (P m) (pol m g) (pol m a)
    pub right : Divides (P m) (pol m g) (pol m b)
    pub greatest : (h : Po) → Divides (P m) h (pol m a) → Divides (P m) h (pol m b) → Divides (P m) h (pol m g)
    pub short : g.n ≤ max a.n b.n

  -- g divides a and b, whatever divides both divides g, and g is monic, or zero
  pub record Gcd (a b g : Poly) : Type 0 where
    pub ok : Ok m g
    pub left : Divides (P m) (pol m g) (pol m a)
    pub right : Divides (P m) (pol m g) (pol m b)
    pub greatest : (h : Po) → Divides (P m) h (pol m a) → Divides (P m) h (pol m b) → Divides (P m) h (pol m g)
    pub lead : 0 < g.n → IsMonic m g
    pub short : g.n ≤ max a.n b.n

  -- .. and is s · a + t · b, with short s and t
  pub record Xgcd (a b : Poly) (x : Line) : Type 0 where
    pub gcd : Gcd a b x.r
    pub ok_s : Ok m x.s
    pub ok_t : Ok m x.t
    pub is : pol m x.r ≡ pol m x.s *P pol m a +P pol m x.t *P pol m b
    pub short_s : x.s.n ≤ max 1 (b.n - x.r.n)
    pub short_t : x.t.n ≤ max 1 (a.n - x.r.n)

  -- .. with t alone, for some s
  pub record XgcdRight (a b : Poly) (x : RightLine) : Type 0 where
    pub gcd : Gcd a b x.r
    pub ok_t : Ok m x.t
    pub s : Po
    pub is : pol m x.r ≡ s *P pol m a +P pol m x.t *P pol m b
    pub short_t : x.t.n ≤ max 1 (a.n - x.r.n)

  pub record OkH (x : RightLine) : Type 0 where
    pub r : Ok m x.r
    pub t : Ok m x.t

  pub record OkL (x : Line) : Type 0 where
    pub r : Ok m x.r
    pub s : Ok m x.s
    pub t : Ok m x.t

  -- what a line x less q times u asks, where that leaves e
  pub record Lessens (x : Line) (q : Poly) (u : Line) (e : Poly) : Type 0 where
    pub ok_x : OkL x
    pub ok_q : Ok m q
    pub ok_u : OkL u
    pub ok_e : Ok m e
    pub fits_s : q.n + u.s.n ≤ room + 1
    pub fits_t : q.n + u.t.n ≤ room + 1

  -- w is c less q times d; a factor of no coefficients takes nothing away
  pub record MinusMultiple (c q d w : Poly) : Type 0 where
    pub ok : Ok m w
    pub is : pol m w ≡ pol m c +P negP (pol m q *P pol m d)
    pub short : w.n ≤ max c.n (q.n + d.n - 1)
    pub none_q : q.n ≡ 0 → w.n ≤ c.n
    pub none_d : d.n ≡ 0 → w.n ≤ c.n

  pub record Less (x : Line) (q : Poly) (u : Line) (e : Poly) (z : Line) : Type 0 where
    pub r_is : z.r ≡ e
    pub s : MinusMultiple x.s q u.s z.s
    pub t : MinusMultiple x.t q u.t z.t

  -- y is x times a constant that has an inverse, and its r is monic, or zero
  pub record Scaled (x y : Line) : Type 0 where
    pub up : A
    pub r : MonicBy m up x.r y.r
    pub s : Is m y.s (C (K m) up *P pol m x.s) x.s.n
    pub t : Is m y.t (C (K m) up *P pol m x.t) x.t.n

  pub record ScaledH (x y : RightLine) : Type 0 where
    pub up : A
    pub r : MonicBy m up x.r y.r
    pub t : Is m y.t (C (K m) up *P pol m x.t) x.t.n
