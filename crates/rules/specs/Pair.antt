-- Document 01, "The sum": pairs (u, v), which of them are valid, the neutral one and the opposite. u is monic, given by its lower
-- coefficients, and v has as many: so deg u is the length of the list, and deg v < deg u is that both have one length.
use Rattle.std.specs.Prelude.{◌≤◌, ◌≡◌, List, [], length}
use Rattle.algebra.proofs.Ring.Field.{Arith}
use Rattle.algebra.proofs.Ring.Divides.{Divides}
use Rattle.algebra.proofs.List.Ops.{neg_l}
use Rattle.algebra.proofs.List.Value.{pol, mon}
use Rattle.rules.specs.Curve.{Curve, Kx, f}

pub record Pair (K : Arith) : Type 0 where
  pub u : List K.base.El
  pub v : List K.base.El

-- u = 1, v = 0
abbrev pub neutral : {K : Arith} → Pair K
neutral = record { u = []; v = [] }

-- (u, -v)
unfoldable pub opposite : {K : Arith} → Pair K → Pair K
unfolding neg_l
opposite {K} a = record { u = a.u; v = neg_l K.base a.v }

module _ (E : Curve) (a : Pair E.K) where
  -- u, v and f - v² in K[x]
  abbrev pub u_of : (Kx E).El
  u_of = mon E.K.base a.u

  abbrev pub v_of : (Kx E).El
  v_of = pol E.K.base a.v

  abbrev pub f_minus_v² : (Kx E).El
  f_minus_v² = (Kx E).add (f E) ((Kx E).neg ((Kx E).mul v_of v_of))

  -- u monic, deg v < deg u ≤ g, and u divides f - v²
  pub record Valid : Type 0 where
    pub fits : length a.v ≡ length a.u
    pub small : length a.u ≤ E.g
    pub divides : Divides (Kx E) u_of f_minus_v²
