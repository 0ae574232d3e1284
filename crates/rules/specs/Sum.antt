-- Document 01, "The sum": composition with its d, s1, s2, s3, reduction, sum and double, by lists of coefficients (algebra, list.Ops): `+L`, `-L`, `*L`. `/M`
-- is the quotient and `%M` the remainder by a monic polynomial, given by its lower coefficients; `monic` makes a polynomial monic and gives its lower
-- coefficients.
use Prim.Native.Nat.{ℕ, zero, suc}
use Rattle.std.specs.Prelude.{List, length}
use Rattle.std.proofs.Math.Decide.{dec_le}
use Rattle.algebra.proofs.List.Ops.{add_l, mul_l, neg_l, whole, quotient, remainder, monic, Bezout, gcd}
use Rattle.rules.specs.Curve.{Curve}
use Rattle.rules.specs.Pair.{Pair}

module _ (E : Curve) where
  open E use {K, low}
  open K use {base as F}

  -- all coefficients; and of a monic polynomial those below its leading 1
  abbrev Poly : Type 0
  Poly = List F.El

  abbrev Monic : Type 0
  Monic = List F.El

  infixl 65 ◌+L◌
  infixl 65 ◌-L◌
  infixl 70 ◌*L◌
  infixl 70 ◌/M◌
  infixl 70 ◌%M◌
  abbrev ◌+L◌ : Poly → Poly → Poly
  a +L b = add_l F a b

  abbrev ◌-L◌ : Poly → Poly → Poly
  a -L b = add_l F a (neg_l F b)

  abbrev ◌*L◌ : Poly → Poly → Poly
  a *L b = mul_l F a b

  abbrev ◌/M◌ : Poly → Monic → Poly
  a /M m = quotient F m a

  abbrev ◌%M◌ : Poly → Monic → Poly
  a %M m = remainder F m a

  -- all coefficients of f, its leading 1 among them
  abbrev pub f_list : Poly
  f_list = whole F low

  abbrev pub f_minus_v²_list : Pair K → Poly
  f_minus_v²_list a = f_list -L a.v *L a.v

  unfoldable pub composition : Pair K → Pair K → Pair K
  unfolding add_l mul_l whole quotient remainder monic gcd
  composition a b =
      let u1 : Poly = whole F a.u in
      let v1 : Poly = a.v in
      let u2 : Poly = whole F b.u in
      let v2 : Poly = b.v in
      -- d by Euclid, of u1 and u2, then of what that finds and v1 + v2
      let first : Bezout K = gcd K a.u u2 in
      let second : Bezout K = gcd K first.d (v1 +L v2) in
      let d : Monic = second.d in
      let s1 : Poly = second.s *L first.s in
      let s2 : Poly = second.s *L first.t in
      let s3 : Poly = second.t in
      -- (u1·u2/d² is monic: `monic` drops its leading zeros, and the leading 1, which a pair doesn't hold)
      let u : Monic = monic K (u1 *L u2 /M d /M d) in
      record { u = u; v = (s1 *L u1 *L v2 +L s2 *L u2 *L v1 +L s3 *L (v1 *L v2 +L f_list)) /M d %M u }

  -- u by (f - v²)/u made monic, then v by -v modulo the new u
  unfoldable pub step : Pair K → Pair K
  unfolding add_l mul_l neg_l whole quotient remainder monic
  step a = let u : Monic = monic K (f_minus_v²_list a /M a.u) in record { u = u; v = neg_l F a.v %M u }

  -- while deg u > g, for at most n turns
  unfoldable pub reduce_at_most : ℕ → Pair K → Pair K
  unfolding step dec_le
  reduce_at_most zero a = a
  reduce_at_most (suc n) a = elim (dec_le (length a.u) E.g) [ yes l ↦ a | no l ↦ reduce_at_most n (step a) ]

  -- each turn lowers the degree, so deg u turns are enough
  unfoldable pub reduction : Pair K → Pair K
  unfolding reduce_at_most
  reduction a = reduce_at_most (length a.u) a

  unfoldable pub sum : Pair K → Pair K → Pair K
  unfolding composition reduction
  sum a b = reduction (composition a b)

  unfoldable pub double : Pair K → Pair K
  unfolding sum
  double a = sum a a
