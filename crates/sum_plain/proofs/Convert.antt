-- Divisors to pairs of polynomials and back. Gives: a divisor's polynomials are those of its lists (`pair_is`, `pair_neutral`); a pair is that of
-- the divisor made of its settled coefficients (`divisor_is`).
use Prim.Native.Nat.{ℕ, zero, suc, ◌+◌, ◌<◌}
use mathlib.Core.Path.{◌≡◌, sym, ap, ◌∙◌, subst}
use mathlib.Core.List.{List, [], ◌∷◌, ◌++◌}
use native.Mathlib.Omega.{arith}
use lib.ListN.{get_or, length}
use Rattle.algebra.proofs.Poly.Series.{Ser, tail}
use Rattle.algebra.proofs.Poly.Bound.{Monic}
use Rattle.algebra.proofs.Poly.Poly.{coef}
use Rattle.algebra.proofs.List.Ops.{whole}
use Rattle.algebra.proofs.List.Value.{pol as list-pol, mon, pol_nil, mon_nil, mon_monic}
use Rattle.algebra.proofs.List.Coefs.{pol_of, mon_of}
use Rattle.field.specs.declared.Modulus.{Modulus}
use Rattle.field.specs.declared.Residue.{Residue}
use Rattle.field.specs.Residues.{el, Settles, Stands}
use Rattle.poly.specs.Polys.{K, P, pol, Is}
use Rattle.poly.proofs.Division.{monic_of}
use Rattle.poly.proofs.Monic.{exact, monic_at}
use Rattle.divisor.specs.declared.Divisor.{Divisor}
use Rattle.divisor.specs.declared.Divisor.TheVariants.{Neutral}
use Rattle.divisor.specs.Divisors.{weight_of, us, vs, elements, AllSettled}
use Rattle.divisor.proofs.Laws.{length-us, length-vs, length_elements}
use Rattle.sum_cantor.specs.declared.composing.Mumford.{Mumford}
use Rattle.sum_plain.specs.Pairs.{AsPair, ToDivisor, FromPair}

module _ (m : Modulus) where
  open K m use {El as A, one as 𝟙}
  open P m use {one as 1P, zer as 0P}

  -- ---- to a pair
  module _ (d : Divisor) (x : Mumford) where
    lengths : length (elements m (us d)) ≡ weight_of d
    lengths = length_elements m (us d) ∙ length-us d

    pair_by : Is m x.u (mon (K m) (elements m (us d))) (weight_of d + 1) → Is m x.v (list-pol (K m) (elements m (vs d))) (weight_of d) → AsPair m d x
    pair_by hu hv = record {
      ok_u = hu.ok;
      ok_v = hv.ok;
      monic = monic_at m hu.ok (omega (arith, hu.short)) top;
      n_u = exact m {n = weight_of d} hu.ok (omega (arith, hu.short)) top ∙ omega arith;
      n_v = hv.short;
      u_is = hu.is;
      v_is = hv.is;
    }
      where
        top : coef (K m) (pol m x.u) (weight_of d) ≡ 𝟙
        top = ap (λ t. coef (K m) t (weight_of d)) hu.is ∙ ap (coef (K m) (mon (K m) (elements m (us d)))) (sym lengths) ∙ (mon_monic (K m) (elements m (us d))).top

    -- the leading 1 as a residue
    pub pair_is : (o : Residue) → Settles m o 𝟙 → Is m x.u (list-pol (K m) (elements m (us d) ++ (el m o ∷ []))) (weight_of d + 1)
        → Is m x.v (list-pol (K m) (elements m (vs d))) (weight_of d) → AsPair m d x
    unfolding mon whole
    pair_is o ho hu hv = pair_by (record { ok = hu.ok; is = hu.is ∙ ap (λ t. list-pol (K m) (elements m (us d) ++ (t ∷ []))) ho.is; short = hu.short }) hv

  pub pair_neutral : (x : Mumford) → Is m x.u 1P 1 → Is m x.v 0P 0 → AsPair m Neutral x
  pair_neutral x hu hv = pair_by Neutral x (record { ok = hu.ok; is = hu.is ∙ sym (mon_nil (K m)); short = hu.short }) (record { ok = hv.ok; is = hv.is ∙ sym (pol_nil (K m)); short = hv.short })

  -- ---- and back: residues that settle a series, one after the other
  pub settle_once : {g s : Residue} {t : A} → Stands m g t → Settles m s (el m g) → Settles m s t
  settle_once h k = record { settled = k.settled; is = k.is ∙ h.is }

  abbrev pub SettleAll : List Residue → Ser (K m) → Type 0
  SettleAll [] s = Unit {0}
  SettleAll (r ∷ l) s = Settles m r (s 0) × SettleAll l (tail (K m) s)

  all_settled : (l : List Residue) (s : Ser (K m)) → SettleAll l s → AllSettled m l
  all_settled [] s h = tt
  all_settled (r ∷ l) s h = (h.0.settled, all_settled l (tail (K m) s) h.1)

  at_place : (l : List Residue) (s : Ser (K m)) → SettleAll l s → (k : ℕ) → k < length l → get_or (elements m l) k (K m).zer ≡ s k
  at_place [] s h k i = absurd (omega arith)
  at_place (r ∷ l) s h zero i = h.0.is
  at_place (r ∷ l) s h (suc k) i = at_place l (tail (K m) s) h.1 k (omega arith)

  pub divisor_is : (x : Mumford) (d : Divisor) → ToDivisor m x → weight_of d + 1 ≡ x.u.n → SettleAll (us d) (coef (K m) (pol m x.u)) → SettleAll (vs d) (coef (K m) (pol m x.v)) → FromPair m x d
  divisor_is x d h n hu hv = record {
    held = record { u = all_settled (us d) _ hu; v = all_settled (vs d) _ hv };
    is = record {
      ok_u = h.ok_u;
      ok_v = h.ok_v;
      monic = h.monic;
      n_u = sym n;
      n_v = omega (arith, h.shorter);
      u_is = sym (mon_of (K m) (elements m (us d)) (pol m x.u) monic (λ k i. at_place (us d) _ hu k (omega (arith, length_elements m (us d)))));
      v_is = sym (pol_of (K m) (elements m (vs d)) (pol m x.v) (λ k i. h.ok_v.size.end k (omega (arith, h.shorter, length_elements m (vs d), length-vs d))) (λ k i. at_place (vs d) _ hv k (omega (arith, length_elements m (vs d)))));
    };
  }
    where
      monic : Monic (K m) (length (elements m (us d))) (coef (K m) (pol m x.u))
      monic = subst (λ (k : ℕ). Monic (K m) k (coef (K m) (pol m x.u))) (omega (arith, length_elements m (us d), length-us d)) (monic_of m h.ok_u h.monic)
