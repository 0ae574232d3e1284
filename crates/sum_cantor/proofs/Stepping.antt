-- One step of the reduction, and the loop. f has odd degree, so it is no square and f - v² isn't zero: the cofactor can be made monic.
use Prim.Native.Nat.{ℕ, suc, ◌+◌, ◌-◌, ◌≤◌, ◌<◌}
use mathlib.Core.Path.{◌≡◌, refl, sym, ap, ◌∙◌, subst}
use mathlib.Core.List.{[], ◌∷◌}
use native.Mathlib.Omega.{arith}
use native.Mathlib.Decide.{ℕ_discrete}
use Rattle.algebra.proofs.Ring.Quote.{ring, quote, by}
use Rattle.algebra.proofs.Poly.Degree.{Degree}
use Rattle.algebra.proofs.Poly.Term.{C, constants}
use Rattle.algebra.proofs.Ideal.Step.{cofactor_ne}
use Rattle.algebra.proofs.Zmod.Prime.{Prime}
use Rattle.field.specs.declared.Modulus.{Modulus}
use Rattle.field.proofs.Laws.{residue_field}
use Rattle.poly.specs.declared.Poly.{Poly}
use Rattle.poly.specs.Polys.{K, P, pol, Is}
use Rattle.poly.specs.Operations.{IsMonic, MadeMonic, Divided}
use Rattle.poly.proofs.Lengths.{none_is, degree_of}
use Rattle.sum_cantor.specs.declared.composing.Mumford.{Mumford}
use Rattle.sum_cantor.specs.composing.Pairs.{OnCurvePair}
use Rattle.sum_cantor.specs.composing.Cofactors.{Cofactor}
use Rattle.sum_cantor.specs.Reducing.{ToStep, Stepped, Steps, ToReduce}
use Rattle.sum_cantor.proofs.composing.Cofactors.{on_modulo}

module _ (m : Modulus) where
  open P m use {add as ◌+P◌, mul as ◌*P◌, neg as negP, one as 1P}

  infixl 65 ◌+P◌
  infixl 70 ◌*P◌
  -- ---- one step
  module _ (good : Prime m.p) (f : Poly) (x : Mumford) (h : ToStep m f x) (w : Poly) (hw : Cofactor m f x w) (u : Poly) (hu : MadeMonic m w u) where
    f_degree : Degree (residue_field m good) (suc (h.g + h.g)) (pol m f)
    f_degree = subst (λ n. Degree (residue_field m good) n (pol m f)) {x = f.n - 1} {y = suc (h.g + h.g)} (omega (arith, h.odd)) (degree_of m good f h.to.ok_f (omega (arith, h.odd)))

    some : 0 < w.n
    some = go (ℕ_discrete w.n 0)
      where
        go : Dec (w.n ≡ 0) → 0 < w.n
        go (yes z) = absurd (cofactor_ne (residue_field m good) h.g (pol m f) f_degree (pol m x.u) (pol m x.v) (pol m w) hw.is (none_is m hw.ok z))
        go (no n) = omega arith

    pub step_monic : IsMonic m u
    step_monic = hu.made.lead (omega (arith, hu.made.same, some))

    unit : C (K m) hu.made.down *P C (K m) hu.up ≡ 1P
    unit = sym ((constants (K m)).h_mul hu.made.down hu.up) ∙ ap (C (K m)) hu.made.unit ∙ (constants (K m)).h_one

    pub step_is : (n q r : Poly) → Is m n (negP (pol m x.v)) x.v.n → Divided m n u q r → Stepped m f x (record { u = u; v = r })
    step_is n q r hn hd = record {
      w = pol m w;
      w_is = hw.is;
      up = hu.up;
      down = hu.made.down;
      unit = hu.made.unit;
      u_is = hu.made.is;
      k = pol m q;
      v_is = v_is;
      fine = record {
        ok_u = hu.made.ok;
        ok_v = hd.ok_r;
        monic = step_monic;
        shorter = hd.rest;
        on = on_modulo m (pol m f) (pol m u) (negP (pol m x.v)) (pol m r) (pol m q) (C (K m) hu.made.down *P pol m x.u)
            (by (P m) 1P hw.is (by (P m) (negP (C (K m) hu.made.down *P pol m x.u)) hu.made.is (by (P m) (negP (pol m x.u *P pol m w)) unit
            (ring (P m) (pol m f ∷ pol m x.u ∷ pol m x.v ∷ pol m w ∷ pol m u ∷ C (K m) hu.up ∷ C (K m) hu.made.down ∷ []) (search quote depth 40) refl))))
            v_is;
      };
      n_u = omega (arith, hu.made.same, hw.short);
    }
      where
        v_is : negP (pol m x.v) ≡ pol m q *P pol m u +P pol m r
        v_is = sym hn.is ∙ hd.is

  -- ---- while deg u > g
  pub record Reducing (f : Poly) (x0 x : Mumford) (n : ℕ) : Type 0 where
    pub steps : Steps m f x0 x
    pub fine : OnCurvePair m f x
    pub n_is : n ≡ x.u.n
    pub within : n ≤ 7

  pub reduce_begin : (f : Poly) (g : ℕ) (x : Mumford) → ToReduce m f g x → Reducing f x x x.u.n
  reduce_begin f g x h = record { steps = Steps.none; fine = h.to.fine; n_is = refl; within = h.to.n_u }

  module _ (f : Poly) (g n : ℕ) (x0 x : Mumford) (h : ToReduce m f g x0) (v : Reducing f x0 x n) where
    pub reduce_to : ToStep m f x
    reduce_to = record { to = record { ok_f = h.to.ok_f; fine = v.fine; n_f = h.to.n_f; n_u = omega (arith, v.n_is, v.within) }; g = g; odd = h.odd }

    module _ (y : Mumford) (l : g + 1 < n) (s : Stepped m f x y) where
      pub reduce_falls : y.u.n < n
      reduce_falls = omega (arith, h.odd, s.n_u, v.n_is, v.fine.shorter)

      pub reduce_turn : Reducing f x0 y y.u.n
      reduce_turn = record { steps = Steps.more v.steps s; fine = s.fine; n_is = refl; within = omega (arith, reduce_falls, v.within) }
