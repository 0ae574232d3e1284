-- The plain sum is the rule's, on every pair of valid divisors of a sound curve, of either genus. The answer's validity comes from the pair that the
-- reduction ends with.
use Prim.Native.Nat.{◌+◌, ◌≤◌}
use mathlib.Core.Path.{◌≡◌, sym, ap₂, ◌∙◌, subst}
use native.Mathlib.Omega.{arith}
use Rattle.algebra.proofs.Ideal.Joined.{OnCurve}
use Rattle.algebra.proofs.Ideal.Composed.{Composed}
use Rattle.rules.specs.Curve.{Kx, f}
use Rattle.rules.specs.Pair.{Valid, u_of, v_of}
use Rattle.rules.specs.Sum.{sum, double}
use Rattle.rules.proofs.IsSum.{Reached, is_sum, double_is}
use Rattle.rules.proofs.Cantor.Pairs.{valid_on, on_valid}
use Rattle.field.specs.declared.Modulus.{Modulus}
use Rattle.poly.specs.declared.Poly.{Poly}
use Rattle.poly.specs.Polys.{P, pol}
use Rattle.divisor.specs.declared.Divisor.{Divisor}
use Rattle.divisor.specs.Divisors.{pair}
use Rattle.divisor.proofs.Laws.{weight_is, weight_is_v}
use Rattle.sum_cantor.specs.declared.composing.Mumford.{Mumford}
use Rattle.sum_cantor.specs.composing.Pairs.{OnCurvePair}
use Rattle.sum_cantor.specs.Reducing.{ToSum, Summed}
use Rattle.curve.specs.declared.Curve.{Curve}
use Rattle.curve.specs.Curves.{curve_of, equation_of, Holds, Gives}
use Rattle.curve.proofs.Contains.{accepted}
use Rattle.curve.specs.polynomials.Few.{OfEquation}
use Rattle.sum_plain.specs.Pairs.{AsPair, FromPair}
use Rattle.sum_plain.proofs.Chain.{composed_by, composed_at, reached_by}

module _ (c : Curve) (d : Divisor) (x : Mumford) (hx : AsPair c.prime.m d x) where
  u_is : u_of (curve_of c) (pair c.prime.m d) ≡ pol c.prime.m x.u
  unfolding pair
  u_is = sym hx.u_is

  v_is : v_of (curve_of c) (pair c.prime.m d) ≡ pol c.prime.m x.v
  unfolding pair
  v_is = sym hx.v_is

module _ (c : Curve) (q : Poly) (hq : OfEquation (equation_of c) q) where
  abbrev m : Modulus
  m = c.prime.m

  open P m use {add as ◌+P◌, mul as ◌*P◌}

  infixl 65 ◌+P◌
  infixl 70 ◌*P◌
  -- ---- a divisor and its polynomials
  module _ (d : Divisor) (x : Mumford) (hx : AsPair m d x) where
    fine : Holds c d → OnCurvePair m q x
    fine hd = let o : OnCurve (Kx (curve_of c)) (f (curve_of c)) (u_of (curve_of c) (pair m d)) (v_of (curve_of c) (pair m d)) = (valid_on (curve_of c) hd.valid).on in record {
      ok_u = hx.ok_u;
      ok_v = hx.ok_v;
      monic = hx.monic;
      shorter = omega (arith, hx.n_u, hx.n_v);
      on = (o.0, hq.is ∙ o.1 ∙ ap₂ (λ s t. t *P t +P s *P o.0) (u_is c d x hx) (v_is c d x hx));
    }

    small : Holds c d → x.u.n ≤ c.g + 1
    small hd = omega (arith, hx.n_u, hd.valid.small, weight_is m d)

    valid : OnCurvePair m q x → x.u.n ≤ c.g + 1 → Valid (curve_of c) (pair m d)
    valid k l = on_valid (curve_of c) (record { fits = weight_is_v m d ∙ sym (weight_is m d); on = (k.on.0, sym hq.is ∙ k.on.1 ∙ sym (ap₂ (λ s t. t *P t +P s *P k.on.0) (u_is c d x hx) (v_is c d x hx))) }) (omega (arith, weight_is m d, hx.n_u))

  -- ---- the sum
  module _ (a b : Divisor) (x y : Mumford) (hx : AsPair m a x) (hy : AsPair m b y) (ha : Holds c a) (hb : Holds c b) where
    pub to_sum : ToSum m q c.g x y
    to_sum = record {
      ok_f = hq.ok;
      genus = c.genus.most;
      odd = hq.odd;
      left = fine a x hx ha;
      right = fine b y hy hb;
      n_a = small a x hx ha;
      n_b = small b y hy hb;
    }

    module _ (z : Mumford) (hz : Summed m q c.g x y z) where
      pub sum_gives : (r : Divisor) → FromPair m z r → Gives c r (sum (curve_of c) (pair m a) (pair m b))
      sum_gives r hr = record {
        holds = record { held = hr.held; valid = vr };
        is = sym (is_sum (curve_of c) (accepted c) (pair m a) (pair m b) (pair m r) ha.valid hb.valid vr composed reached);
      }
        where
          vr : Valid (curve_of c) (pair m r)
          vr = valid r z hr.is hz.reduced.fine hz.reduced.short

          composed : Composed (Kx (curve_of c)) (f (curve_of c)) (u_of (curve_of c) (pair m a)) (v_of (curve_of c) (pair m a)) (u_of (curve_of c) (pair m b)) (v_of (curve_of c) (pair m b)) (pol m hz.mid.u) (pol m hz.mid.v)
          composed = composed_at (P m) hq.is (sym (u_is c a x hx)) (sym (v_is c a x hx)) (sym (u_is c b y hy)) (sym (v_is c b y hy))
              (composed_by (P m) (pol m q) (pol m x.u) (pol m x.v) (pol m y.u) (pol m y.v) (pol m hz.mid.u) hz.composed.v0 (pol m hz.mid.v) hz.composed.k hz.composed.joined hz.composed.v_is)

          reached : Reached (curve_of c) (pol m hz.mid.u) (pol m hz.mid.v) (u_of (curve_of c) (pair m r)) (v_of (curve_of c) (pair m r))
          reached = subst (λ t. Reached (curve_of c) (pol m hz.mid.u) (pol m hz.mid.v) t (v_of (curve_of c) (pair m r))) (sym (u_is c r z hr.is))
              (subst (λ t. Reached (curve_of c) (pol m hz.mid.u) (pol m hz.mid.v) (pol m z.u) t) (sym (v_is c r z hr.is)) (reached_by c q hq hz.reduced.steps))

pub double-gives : (c : Curve) (a r : Divisor) → Gives c r (sum (curve_of c) (pair c.prime.m a) (pair c.prime.m a)) → Gives c r (double (curve_of c) (pair c.prime.m a))
double-gives c a r k = record { holds = k.holds; is = k.is ∙ sym (double_is (curve_of c) (pair c.prime.m a)) }
