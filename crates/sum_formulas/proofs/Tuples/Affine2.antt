-- The affine addition and doubling of genus 2 (W-204), each as one theorem on elements, for every field: (a, c) is the base pair, (b, d) the other. What makes it answer is that r
-- has an inverse and s' = r·w·(x + t) with w ≠ 0. Code that keeps other numbers, as tuples over a common Z, cites it at their quotients.
use mathlib.Core.Path.{◌≡◌, refl, sym, ap, ◌∙◌}
use mathlib.Core.List.{[], ◌∷◌}
use native.Mathlib.Omega.{arith}
use Rattle.algebra.proofs.Ring.Quote.{ring, quote, by}
use Rattle.algebra.proofs.Ring.Field.{Arith}
use Rattle.algebra.proofs.Poly.Poly.{poly}
use Rattle.algebra.proofs.Poly.Term.{C, constants}
use Rattle.algebra.proofs.List.Ops.{add_l, mul_l, neg_l, scale_l, whole}
use Rattle.algebra.proofs.List.Value.{pol, mon, mon_monic}
use Rattle.algebra.proofs.Ideal.Composed.{Composed}
use Rattle.rules.specs.Curve.{Curve, f}
use Rattle.rules.specs.Pair.{Pair, Valid}
use Rattle.rules.specs.Sum.{sum}
use Rattle.rules.proofs.Cantor.Accepted.{Accepted}
use Rattle.rules.proofs.Cantor.Pairs.{valid_on}
use Rattle.sum_formulas.proofs.Chord.{chord, tangent}
use Rattle.sum_formulas.proofs.Turns.{quotient_top}
use Rattle.sum_formulas.proofs.Lists.{lo, mo, co, ti, equal_by}
use Rattle.sum_formulas.proofs.Formula.{one_turn, main_case}
use Rattle.sum_formulas.proofs.Genus2.{invert2_is, times2_is, gap2_is, tops_f2, quotient2_is, rest2_is, tangent2_is, right2_tops}

module _ (Q : Arith) where
  open Q use {base as F}
  open F use {El as A, add as ◌+◌, mul as ◌*◌, neg, one as 𝟙}

  infixl 65 ◌+◌
  infixl 65 ◌-◌
  infixl 70 ◌*◌
  abbrev ◌-◌ : A → A → A
  a - b = a + neg b

  open poly F use {El as P, add as ◌⊕◌, mul as ◌⊗◌, neg as negP, one as 1P}

  infixl 65 ◌⊕◌
  infixl 70 ◌⊗◌
  scaled2 : (r w t s0 s1 : A) → r * w ≡ s1 → s1 * t ≡ s0 → C F r ⊗ (C F w ⊗ mon F (t ∷ [])) ≡ pol F (s0 ∷ s1 ∷ [])
  unfolding add_l mul_l neg_l scale_l whole
  scaled2 r w t s0 s1 h1 h0 = equal_by F (ti (co r) (ti (co w) (mo (t ∷ [])))) (lo (s0 ∷ s1 ∷ [])) (
    by F 𝟙 h0 (by F t h1 (ring F (r ∷ w ∷ t ∷ s0 ∷ s1 ∷ []) (search quote depth 40) refl)),
    (by F 𝟙 h1 (ring F (r ∷ w ∷ t ∷ s0 ∷ s1 ∷ []) (search quote depth 40) refl), tt),
  )

  constant_unit : (a b : A) → a * b ≡ 𝟙 → C F a ⊗ C F b ≡ 1P
  constant_unit a b h = sym ((constants F).h_mul a b) ∙ ap (C F) h ∙ (constants F).h_one

  -- the lines of this table in the form that code keeps
  top_as : (i0 i1 p0 p1 b1 : A) → (i0 + i1) * (p0 + p1) - i0 * p0 - i1 * p1 - i1 * p1 * b1 ≡ i0 * p1 + i1 * (p0 - p1 * b1)
  top_as i0 i1 p0 p1 b1 = ring F (i0 ∷ i1 ∷ p0 ∷ p1 ∷ b1 ∷ []) (search quote depth 40) refl

  n0_as : (a0 a1 c1 b0 b1 t wi f4 : A) → (t - b1) * (t - (b1 - a1)) - b0 + (a1 * t + a0) + (c1 + c1) * wi + (a1 + a1 + (b1 - a1) - f4) * (wi * wi)
      ≡ t * (t - (b1 - a1 + (b1 - a1))) + b1 * (b1 - a1) + ((c1 + c1) * wi + (a1 + b1 - f4) * (wi * wi)) + a0 - b0
  n0_as a0 a1 c1 b0 b1 t wi f4 = ring F (a0 ∷ a1 ∷ c1 ∷ b0 ∷ b1 ∷ t ∷ wi ∷ f4 ∷ []) (search quote depth 40) refl

  m1_as : (a0 a1 c1 t w n0 n1 : A) → (n1 * (a1 + t - n1) + n0 - (a1 * t + a0)) * w - c1 ≡ w * (n1 * (a1 + t - n1) - a1 * t + n0 - a0) - c1
  m1_as a0 a1 c1 t w n0 n1 = ring F (a0 ∷ a1 ∷ c1 ∷ t ∷ w ∷ n0 ∷ n1 ∷ []) (search quote depth 40) refl

  m0_as : (x c0 w : A) → x * w - c0 ≡ w * x - c0
  m0_as x c0 w = ring F (x ∷ c0 ∷ w ∷ []) (search quote depth 40) refl

  rd_as : (a0 c1 y : A) → a0 * (c1 * c1 + c1 * c1 + (c1 * c1 + c1 * c1)) + y ≡ a0 * ((c1 + c1) * (c1 + c1)) + y
  rd_as a0 c1 y = ring F (a0 ∷ c1 ∷ y ∷ []) (search quote depth 40) refl

  k1_as : (a0 a1 f3 f4 : A) → a1 * a1 - f4 * a1 + (a1 * a1 - f4 * a1) + (f3 + a1 * a1) - (a0 + a0) ≡ a1 * (a1 - f4) + a1 * (a1 - f4) + (a1 * a1 + f3) - (a0 + a0)
  k1_as a0 a1 f3 f4 = ring F (a0 ∷ a1 ∷ f3 ∷ f4 ∷ []) (search quote depth 40) refl

  k0_as : (a0 a1 c1 f2 f3 f4 : A) → a1 * (a0 + a0 + (a0 + a0) - (f3 + a1 * a1) + f4 * a1) + f2 - c1 * c1 - (f4 * a0 + f4 * a0)
      ≡ a1 * (a0 + a0 + (a0 + a0) - (f3 + a1 * (a1 - f4))) - c1 * c1 + f2 - f4 * (a0 + a0)
  k0_as a0 a1 c1 f2 f3 f4 = ring F (a0 ∷ a1 ∷ c1 ∷ f2 ∷ f3 ∷ f4 ∷ []) (search quote depth 40) refl

  -- a curve and a pair by their coefficients
  abbrev pub curve_of : A → A → A → A → A → Curve
  curve_of f0 f1 f2 f3 f4 = record { K = Q; g = 2; low = f0 ∷ f1 ∷ f2 ∷ f3 ∷ f4 ∷ [] }

  abbrev pub pair_of : A → A → A → A → Pair Q
  pair_of a0 a1 c0 c1 = record { u = a0 ∷ a1 ∷ []; v = c0 ∷ c1 ∷ [] }

  -- ---- the answer, where v + w·(x + t)·u goes through both pairs: its u, of two and of one with itself, and its v, whatever its u is
  module _ (a0 a1 c0 c1 : A) where
    module _ (b0 b1 t wi f4 : A) where
      abbrev pub n1 : A
      n1 = t + t - (b1 - a1) - wi * wi

      abbrev pub n0 : A
      n0 = (t - b1) * (t - (b1 - a1)) - b0 + (a1 * t + a0) + (c1 + c1) * wi + (a1 + a1 + (b1 - a1) - f4) * (wi * wi)

    module _ (t w k0 k1 : A) where
      abbrev pub m1 : A
      m1 = (k1 * (a1 + t - k1) + k0 - (a1 * t + a0)) * w - c1

      abbrev pub m0 : A
      m0 = (k0 * (a1 + t - k1) - a0 * t) * w - c0

    abbrev pub answer : A → A → A → A → A → A → Pair Q
    answer b0 b1 t w wi f4 = pair_of (n0 b0 b1 t wi f4) (n1 b0 b1 t wi f4) (m0 t w (n0 b0 b1 t wi f4) (n1 b0 b1 t wi f4)) (m1 t w (n0 b0 b1 t wi f4) (n1 b0 b1 t wi f4))

    pub ends2 : (b0 b1 d0 d1 f0 f1 f2 f3 f4 : A) → Accepted (curve_of f0 f1 f2 f3 f4) → Valid (curve_of f0 f1 f2 f3 f4) (pair_of a0 a1 c0 c1) → Valid (curve_of f0 f1 f2 f3 f4) (pair_of b0 b1 d0 d1)
        → (w wi t : A) → w * wi ≡ 𝟙
        → Composed (poly F) (f (curve_of f0 f1 f2 f3 f4)) (mon F (a0 ∷ a1 ∷ [])) (pol F (c0 ∷ c1 ∷ [])) (mon F (b0 ∷ b1 ∷ [])) (pol F (d0 ∷ d1 ∷ [])) (mon F (a0 ∷ a1 ∷ []) ⊗ mon F (b0 ∷ b1 ∷ [])) (pol F (c0 ∷ c1 ∷ []) ⊕ C F w ⊗ mon F (t ∷ []) ⊗ mon F (a0 ∷ a1 ∷ []))
        → sum (curve_of f0 f1 f2 f3 f4) (pair_of a0 a1 c0 c1) (pair_of b0 b1 d0 d1) ≡ answer b0 b1 t w wi f4
    ends2 b0 b1 d0 d1 f0 f1 f2 f3 f4 ok va vb w wi t hi composed =
        let E : Curve = curve_of f0 f1 f2 f3 f4 in
        let a : Pair Q = pair_of a0 a1 c0 c1 in
        let b : Pair Q = pair_of b0 b1 d0 d1 in
        let k0 : A = n0 b0 b1 t wi f4 in
        let k1 : A = n1 b0 b1 t wi f4 in
        let m : P = pol F (m0 t w k0 k1 ∷ m1 t w k0 k1 ∷ []) in
        one_turn E ok a b va vb (answer b0 b1 t w wi f4) refl (omega arith) (C F w ⊗ mon F (t ∷ [])) _ (negP m) (ring (poly F) (m ∷ []) (search quote depth 40) refl)
        (main_case E ok a b va vb (mon F (t ∷ [])) _ (mon F (k0 ∷ k1 ∷ [])) (negP m) _ w wi refl composed
        (constant_unit w wi hi) (tops_f2 F a0 a1 f0 f1 f2 f3 f4)
        (quotient2_is F a0 a1 c0 c1 b0 b1 t wi f4 (b1 - a1) (wi * wi) k1 k0 refl refl refl (n0_as a0 a1 c1 b0 b1 t wi f4))
        (rest2_is F a0 a1 c0 c1 t w k0 k1 (a1 + t - k1) (m1 t w k0 k1) (m0 t w k0 k1) refl (m1_as a0 a1 c1 t w k0 k1) (m0_as (k0 * (a1 + t - k1) - a0 * t) c0 w)))

  -- ---- two pairs
  module _ (a0 a1 c0 c1 b0 b1 d0 d1 : A) where
    -- the table up to s'
    abbrev pub e1 : A
    e1 = b1 - a1

    abbrev pub e2 : A
    e2 = a0 - b0

    abbrev pub e3 : A
    e3 = b1 * e1 + e2

    abbrev pub r2 : A
    r2 = e2 * e3 + e1 * e1 * b0

    abbrev pub top2 : A
    top2 = (e3 + e1) * (d0 - c0 + (d1 - c1)) - e3 * (d0 - c0) - e1 * (d1 - c1) - e1 * (d1 - c1) * b1

    abbrev pub low2 : A
    low2 = e3 * (d0 - c0) - b0 * (e1 * (d1 - c1))

    pub affine_add2 : (f0 f1 f2 f3 f4 : A) → Accepted (curve_of f0 f1 f2 f3 f4) → Valid (curve_of f0 f1 f2 f3 f4) (pair_of a0 a1 c0 c1) → Valid (curve_of f0 f1 f2 f3 f4) (pair_of b0 b1 d0 d1)
        → (ri w wi t : A) → r2 * ri ≡ 𝟙 → r2 * w ≡ top2 → top2 * t ≡ low2 → w * wi ≡ 𝟙
        → sum (curve_of f0 f1 f2 f3 f4) (pair_of a0 a1 c0 c1) (pair_of b0 b1 d0 d1) ≡ answer a0 a1 c0 c1 b0 b1 t w wi f4
    affine_add2 f0 f1 f2 f3 f4 ok va vb ri w wi t hr hw ht hi = ends2 a0 a1 c0 c1 b0 b1 d0 d1 f0 f1 f2 f3 f4 ok va vb w wi t hi
        (chord (poly F) (f (curve_of f0 f1 f2 f3 f4)) (mon F (a0 ∷ a1 ∷ [])) (pol F (c0 ∷ c1 ∷ [])) (mon F (b0 ∷ b1 ∷ [])) (pol F (d0 ∷ d1 ∷ [])) (C F w ⊗ mon F (t ∷ [])) (record {
          r = C F r2;
          ri = C F ri;
          i = pol F (e3 ∷ e1 ∷ []);
          j = _;
          q = _;
          s' = pol F (low2 ∷ top2 ∷ []);
          unit = constant_unit r2 ri hr;
          bezout = invert2_is F a0 a1 b0 b1 e1 e2 e3 r2 refl refl refl refl;
          modulo = ap (λ (z : P). z ⊗ pol F (e3 ∷ e1 ∷ [])) (sym (gap2_is F c0 c1 d0 d1 (d0 - c0) (d1 - c1) refl refl))
              ∙ times2_is F (d0 - c0) (d1 - c1) e3 e1 b0 b1 ((d1 - c1) * b1) (e1 * (d1 - c1)) top2 low2 refl refl (top_as e3 e1 (d0 - c0) (d1 - c1) b1) refl;
          scaled = scaled2 r2 w t low2 top2 hw ht;
        }))

  -- ---- a pair with itself
  module _ (a0 a1 c0 c1 : A) where
    abbrev pub i1 : A
    i1 = neg (c1 + c1)

    abbrev pub i0 : A
    i0 = c0 + c0 - a1 * (c1 + c1)

    abbrev pub rd : A
    rd = a0 * (c1 * c1 + c1 * c1 + (c1 * c1 + c1 * c1)) + (c0 + c0) * i0

    module _ (f2 f3 f4 : A) where
      abbrev pub k1 : A
      k1 = a1 * a1 - f4 * a1 + (a1 * a1 - f4 * a1) + (f3 + a1 * a1) - (a0 + a0)

      abbrev pub k0 : A
      k0 = a1 * (a0 + a0 + (a0 + a0) - (f3 + a1 * a1) + f4 * a1) + f2 - c1 * c1 - (f4 * a0 + f4 * a0)

      abbrev pub topd : A
      topd = (i0 + i1) * (k0 + k1) - i0 * k0 - i1 * k1 - i1 * k1 * a1

      abbrev pub lowd : A
      lowd = i0 * k0 - a0 * (i1 * k1)

      pub affine_double2 : (f0 f1 : A) → Accepted (curve_of f0 f1 f2 f3 f4) → Valid (curve_of f0 f1 f2 f3 f4) (pair_of a0 a1 c0 c1)
          → (ri w wi t : A) → rd * ri ≡ 𝟙 → rd * w ≡ topd → topd * t ≡ lowd → w * wi ≡ 𝟙
          → sum (curve_of f0 f1 f2 f3 f4) (pair_of a0 a1 c0 c1) (pair_of a0 a1 c0 c1) ≡ answer a0 a1 c0 c1 a0 a1 t w wi f4
      affine_double2 f0 f1 ok va ri w wi t hr hw ht hi =
          let E : Curve = curve_of f0 f1 f2 f3 f4 in
          let u : P = mon F (a0 ∷ a1 ∷ []) in
          let v : P = pol F (c0 ∷ c1 ∷ []) in
          let on = (valid_on E va).on in
          ends2 a0 a1 c0 c1 a0 a1 c0 c1 f0 f1 f2 f3 f4 ok va va w wi t hi
          (tangent (poly F) (f E) u v on.0 (pol F ((f4 - (a1 + a1)) ∷ 𝟙 ∷ [])) (pol F (k0 ∷ k1 ∷ [])) (C F w ⊗ mon F (t ∷ [])) on.1
          (quotient_top E 2 u v on.0 (pol F ((f4 - (a1 + a1)) ∷ 𝟙 ∷ []) ⊗ u ⊕ pol F (k0 ∷ k1 ∷ [])) (mon_monic F (a0 ∷ a1 ∷ [])) on.1
          (right2_tops F a0 a1 c0 c1 f0 f1 f2 f3 f4 (a1 * a1) (a1 * (a1 - f4)) (a0 + a0) k1 k0 refl refl refl (k1_as a0 a1 f3 f4) (k0_as a0 a1 c1 f2 f3 f4)))
          (record {
            r = C F rd;
            ri = C F ri;
            i = pol F (i0 ∷ i1 ∷ []);
            j = _;
            q = _;
            s' = pol F (lowd ∷ topd ∷ []);
            unit = constant_unit rd ri hr;
            bezout = tangent2_is F a0 a1 c0 c1 (c1 + c1) (c0 + c0) (a1 * (c1 + c1)) i0 rd i1 refl refl refl refl (rd_as a0 c1 ((c0 + c0) * i0)) refl;
            modulo = times2_is F k0 k1 i0 i1 a0 a1 (k1 * a1) (i1 * k1) topd lowd refl refl (top_as i0 i1 k0 k1 a1) refl;
            scaled = scaled2 rd w t lowd topd hw ht;
          }))
