-- Genus 3: where r isn't 0, r and s' compose. Gives: `joins` of two pairs, `joins_twice` of one with itself, by formulas' laws over the degree.
use mathlib.Core.Logic.{◌≢◌}
use Rattle.algebra.proofs.Zmod.Zmod.{zmod}
use Rattle.algebra.proofs.Poly.Poly.{poly}
use Rattle.rules.specs.Curve.{f}
use Rattle.rules.specs.Pair.{Valid}
use Rattle.sum_formulas.proofs.Opened.{opened, opened_twice}
use Rattle.algebra.proofs.Zmod.Prime.{Prime}
use Rattle.field.specs.declared.Modulus.{Modulus}
use Rattle.field.specs.declared.Residue.{Residue}
use Rattle.field.specs.Residues.{el}
use Rattle.field.proofs.Laws.{residue_field}
use Rattle.divisor.specs.declared.Cubic.{Cubic}
use Rattle.divisor.specs.declared.Divisor.TheVariants.{Three}
use Rattle.divisor.specs.Divisors.{pair}
use Rattle.divisor.specs.declared.Trio.{Trio}
use Rattle.sum_genus3_open.specs.declared.Bezout.{Bezout}
use Rattle.sum_genus3_open.specs.Opens.{K, tri_of, u_of, v_of, twice, curve_with, inner, Inverts, Gap, Right, Times, Joins}

module _ (m : Modulus) (good : Prime m.p) where
  open poly (K m) use {El as P}

  -- 1/r
  abbrev back : Bezout → (zmod m.p).El
  back x = (residue_field m good).arith.inv (el m x.r)

  -- two pairs
  pub joins : (a b : Cubic) (x : Bezout) → Inverts m (u_of m a) b x → (c : Trio) → Gap m a b c → (s : Trio) → Times m c x b s → el m x.r ≢ (zmod m.p).zer → (f' : P)
      → Joins m f' a b (record { r = x.r; s = s })
  joins a b x hx c hc s hs nz f' σ e = opened (K m) f' (u_of m a) (v_of m a) (u_of m b) (v_of m b) (tri_of m c) (inner m b x) hx.j hs.q (tri_of m s) (el m x.r) (back x)
      ((residue_field m good).mul_inv (el m x.r) nz) hx.is hc.is hs.is σ e

  -- a pair with itself: c is (f - v²)/u modulo u
  pub joins_twice : (f3 f4 f5 f6 : Residue) (a : Cubic) (x : Bezout) → Inverts m (twice m a) a x → (c : Trio) → Right m a f3 f4 f5 f6 c → (s : Trio) → Times m c x a s → el m x.r ≢ (zmod m.p).zer
      → (g0 g1 g2 : (zmod m.p).El) → Valid (curve_with m f4 f5 f6 g0 g1 g2 (el m f3)) (pair m (Three a)) → Joins m (f (curve_with m f4 f5 f6 g0 g1 g2 (el m f3))) a a (record { r = x.r; s = s })
  unfolding pair
  joins_twice f3 f4 f5 f6 a x hx c hc s hs nz g0 g1 g2 va σ e =
      opened_twice (curve_with m f4 f5 f6 g0 g1 g2 (el m f3)) (pair m (Three a)) va hc.q (tri_of m c) (inner m a x) hx.j hs.q (tri_of m s) (el m x.r) (back x)
      ((residue_field m good).mul_inv (el m x.r) nz) hx.is (hc.tops g0 g1 g2) hs.is σ e
