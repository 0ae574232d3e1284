-- An equation's f as a polynomial: its coefficients one after the other, and the leading 1 behind them.
use Prim.Native.Nat.{ℕ, suc, ◌+◌, ◌-◌}
use mathlib.Core.Path.{◌≡◌, ap, ◌∙◌, subst}
use mathlib.Core.List.{List, [], ◌∷◌, ◌++◌}
use native.Mathlib.Omega.{arith}
use lib.ListN.{length, take}
use Rattle.algebra.proofs.Poly.Poly.{coef}
use Rattle.algebra.proofs.List.Ops.{whole}
use Rattle.algebra.proofs.List.Value.{pol as list-pol, mon, mon_monic}
use Rattle.field.specs.declared.Residue.{Residue}
use Rattle.field.specs.Residues.{el, Settles}
use Rattle.poly.specs.declared.Poly.{Poly}
use Rattle.poly.specs.Polys.{K, pol, Is}
use Rattle.poly.proofs.Monic.{exact, monic_at}
use Rattle.divisor.specs.Divisors.{elements}
use Rattle.curve.specs.declared.Equation.{Equation}
use Rattle.curve.proofs.Contains.{low-long}
use Rattle.curve.specs.polynomials.Few.{OfEquation}

module _ (c : Equation) where
  -- n of f_5 and f_6
  abbrev pub up_to : ℕ → List (K c.prime.m).El
  up_to n = elements c.prime.m (c.f0 ∷ c.f1 ∷ c.f2 ∷ c.f3 ∷ c.f4 ∷ take n (c.f5 ∷ c.f6 ∷ []))

  abbrev low : List (K c.prime.m).El
  low = up_to (c.g + c.g - 4)

  top_is : (r : Poly) → Is c.prime.m r (mon (K c.prime.m) (low)) (c.g + c.g + 2) → coef (K c.prime.m) (pol c.prime.m r) (suc (c.g + c.g)) ≡ (K c.prime.m).one
  top_is r k = ap (λ t. coef (K c.prime.m) t (suc (c.g + c.g))) k.is
      ∙ subst (λ (n : ℕ). coef (K c.prime.m) (mon (K c.prime.m) (low)) n ≡ (K c.prime.m).one) (low-long c) (mon_monic (K c.prime.m) (low)).top

  of_curve : (r : Poly) → Is c.prime.m r (mon (K c.prime.m) (low)) (c.g + c.g + 2) → OfEquation c r
  of_curve r k = record {
    ok = k.ok;
    odd = exact c.prime.m {r = r} {n = suc (c.g + c.g)} k.ok (omega (arith, k.short)) (top_is r k) ∙ omega arith;
    monic = monic_at c.prime.m {r = r} {n = suc (c.g + c.g)} k.ok (omega (arith, k.short)) (top_is r k);
    is = k.is;
  }

  -- n coefficients above f4
  module _ (n : ℕ) (e : c.g + c.g - 4 ≡ n) (o : Residue) (ho : Settles c.prime.m o (K c.prime.m).one) (r : Poly) where
    pub f_is : length (up_to n) ≡ suc (c.g + c.g) → Is c.prime.m r (list-pol (K c.prime.m) (up_to n ++ (el c.prime.m o ∷ []))) (length (up_to n) + 1) → OfEquation c r
    unfolding mon whole
    f_is l k = of_curve r (subst (λ (j : ℕ). Is c.prime.m r (mon (K c.prime.m) (up_to j)) (c.g + c.g + 2)) {x = n} {y = c.g + c.g - 4} (omega arith)
        (record { ok = k.ok; is = k.is ∙ ap (λ t. list-pol (K c.prime.m) (up_to n ++ (t ∷ []))) ho.is; short = omega (arith, k.short, l) }))
