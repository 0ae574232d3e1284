-- The flat total: the divisor cut from it (`…-cut`), the total flattened (`flat-…`), and which totals can have been.
use Prim.Native.Nat.{ℕ, zero, suc, ◌≤◌, ◌<◌}
use native.Mathlib.Omega.{arith}
use mathlib.Core.Path.{◌≡◌, refl, sym, ap, ◌∙◌}
use mathlib.Core.List.{[], ◌∷◌}
use lib.ListN.{get_or, length, take}
use Rattle.field.specs.Residues.{raw}
use Rattle.divisor.specs.declared.Divisor.{Divisor}
use Rattle.divisor.specs.declared.Divisor.TheVariants.{Neutral, One, Two, Three}
use Rattle.divisor.specs.declared.Linear.{Linear}
use Rattle.divisor.specs.declared.Quadratic.{Quadratic}
use Rattle.divisor.specs.declared.Cubic.{Cubic}
use Rattle.scan_total.specs.resume.Resumes.{total_of}
use Rattle.scan_total.specs.declared.Running.{Running}
use Rattle.scan_flat.specs.declared.YubiRunning.{YubiRunning}
use Rattle.scan_flat.specs.Flats.{flat_running, first_u, first_v, unflat, Flattened, Cut}

-- a weight that isn't 0, 1 or 2 leaves all three
all_three : (w : ℕ) (a b c : ℕ) → (w ≡ 0 → ⊥) → (w ≡ 1 → ⊥) → (w ≡ 2 → ⊥) → a ∷ b ∷ c ∷ [] ≡ take w (a ∷ b ∷ c ∷ [])
all_three zero a b c z o t = absurd (z refl)
all_three (suc zero) a b c z o t = absurd (o refl)
all_three (suc (suc zero)) a b c z o t = absurd (t refl)
all_three (suc (suc (suc zero))) a b c z o t = refl
all_three (suc (suc (suc (suc w)))) a b c z o t = refl

module _ (t : YubiRunning) where
  cut_u : (w : ℕ) → t.weight ≡ w → take w (t.u0 ∷ t.u1 ∷ t.u2 ∷ []) ≡ take t.weight (t.u0 ∷ t.u1 ∷ t.u2 ∷ [])
  cut_u w e = sym (ap (λ k. take k (t.u0 ∷ t.u1 ∷ t.u2 ∷ [])) e)

  cut_v : (w : ℕ) → t.weight ≡ w → take w (t.v0 ∷ t.v1 ∷ t.v2 ∷ []) ≡ take t.weight (t.v0 ∷ t.v1 ∷ t.v2 ∷ [])
  cut_v w e = sym (ap (λ k. take k (t.v0 ∷ t.v1 ∷ t.v2 ∷ [])) e)

  pub neutral_cut : t.weight ≡ 0 → Cut t Neutral
  neutral_cut e = record { u = cut_u 0 e; v = cut_v 0 e }

  pub linear_cut : (d : Linear) → t.weight ≡ 1 → raw d.u0 ≡ t.u0 → raw d.v0 ≡ t.v0 → Cut t (One d)
  linear_cut d e a x = record { u = (λ i. a i ∷ []) ∙ cut_u 1 e; v = (λ i. x i ∷ []) ∙ cut_v 1 e }

  pub quadratic_cut : (d : Quadratic) → t.weight ≡ 2 → raw d.u0 ≡ t.u0 → raw d.u1 ≡ t.u1 → raw d.v0 ≡ t.v0 → raw d.v1 ≡ t.v1 → Cut t (Two d)
  quadratic_cut d e a b x y = record { u = (λ i. a i ∷ b i ∷ []) ∙ cut_u 2 e; v = (λ i. x i ∷ y i ∷ []) ∙ cut_v 2 e }

  pub cubic_cut : (d : Cubic) → (t.weight ≡ 0 → ⊥) → (t.weight ≡ 1 → ⊥) → (t.weight ≡ 2 → ⊥) → raw d.u0 ≡ t.u0 → raw d.u1 ≡ t.u1 → raw d.u2 ≡ t.u2 → raw d.v0 ≡ t.v0 → raw d.v1 ≡ t.v1 → raw d.v2 ≡ t.v2 → Cut t (Three d)
  cubic_cut d e0 e1 e2 a b c x y z = record { u = (λ i. a i ∷ b i ∷ c i ∷ []) ∙ all_three t.weight t.u0 t.u1 t.u2 e0 e1 e2; v = (λ i. x i ∷ y i ∷ z i ∷ []) ∙ all_three t.weight t.v0 t.v1 t.v2 e0 e1 e2 }

abbrev flat_of : Divisor → ℕ → ℕ → YubiRunning
flat_of d n pole = flat_running (total_of d n pole)

module _ (t : Running) where
  pub flat_neutral : t.divisor ≡ Neutral → flat_of Neutral t.count t.pole ≡ flat_of t.divisor t.count t.pole
  flat_neutral e = sym (ap (λ d. flat_of d t.count t.pole) e)

  pub flat_linear : (d : Linear) → t.divisor ≡ One d → (a x : ℕ) → a ≡ raw d.u0 → x ≡ raw d.v0 → record { weight = 1; u0 = a; u1 = 0; u2 = 0; v0 = x; v1 = 0; v2 = 0; count = t.count; pole = t.pole } ≡ flat_of t.divisor t.count t.pole
  flat_linear d e a x p r = (λ i. record { weight = 1; u0 = p i; u1 = 0; u2 = 0; v0 = r i; v1 = 0; v2 = 0; count = t.count; pole = t.pole }) ∙ sym (ap (λ d. flat_of d t.count t.pole) e)

  pub flat_quadratic : (d : Quadratic) → t.divisor ≡ Two d → (a b x y : ℕ) → a ≡ raw d.u0 → b ≡ raw d.u1 → x ≡ raw d.v0 → y ≡ raw d.v1 → record { weight = 2; u0 = a; u1 = b; u2 = 0; v0 = x; v1 = y; v2 = 0; count = t.count; pole = t.pole } ≡ flat_of t.divisor t.count t.pole
  flat_quadratic d e a b x y p q r s = (λ i. record { weight = 2; u0 = p i; u1 = q i; u2 = 0; v0 = r i; v1 = s i; v2 = 0; count = t.count; pole = t.pole }) ∙ sym (ap (λ d. flat_of d t.count t.pole) e)

  pub flat_cubic : (d : Cubic) → t.divisor ≡ Three d → (a b c x y z : ℕ) → a ≡ raw d.u0 → b ≡ raw d.u1 → c ≡ raw d.u2 → x ≡ raw d.v0 → y ≡ raw d.v1 → z ≡ raw d.v2 → record { weight = 3; u0 = a; u1 = b; u2 = c; v0 = x; v1 = y; v2 = z; count = t.count; pole = t.pole } ≡ flat_of t.divisor t.count t.pole
  flat_cubic d e a b c x y z p q o r s l = (λ i. record { weight = 3; u0 = p i; u1 = q i; u2 = o i; v0 = r i; v1 = s i; v2 = l i; count = t.count; pole = t.pole }) ∙ sym (ap (λ d. flat_of d t.count t.pole) e)

all_same : (a b : YubiRunning) → a.weight ≡ b.weight → a.u0 ≡ b.u0 → a.u1 ≡ b.u1 → a.u2 ≡ b.u2 → a.v0 ≡ b.v0 → a.v1 ≡ b.v1 → a.v2 ≡ b.v2 → a.count ≡ b.count → a.pole ≡ b.pole → a ≡ b
all_same a b w p q o r s l n k = λ i. record { weight = w i; u0 = p i; u1 = q i; u2 = o i; v0 = r i; v1 = s i; v2 = l i; count = n i; pole = k i }

-- ---- which totals can have been flattened
few : (w a b c : ℕ) → length (take w (a ∷ b ∷ c ∷ [])) ≤ 3
few zero a b c = omega arith
few (suc zero) a b c = omega arith
few (suc (suc zero)) a b c = omega arith
few (suc (suc (suc zero))) a b c = omega arith
few (suc (suc (suc (suc w)))) a b c = omega arith

no_third : (w a b c : ℕ) → w ≤ 2 → get_or (take w (a ∷ b ∷ c ∷ [])) 2 0 ≡ 0
no_third zero a b c l = refl
no_third (suc zero) a b c l = refl
no_third (suc (suc zero)) a b c l = refl
no_third (suc (suc (suc w))) a b c l = absurd (omega arith)

no_second : (w a b c : ℕ) → w ≤ 1 → get_or (take w (a ∷ b ∷ c ∷ [])) 1 0 ≡ 0
no_second zero a b c l = refl
no_second (suc zero) a b c l = refl
no_second (suc (suc w)) a b c l = absurd (omega arith)

no_first : (w a b c : ℕ) → w ≡ 0 → get_or (take w (a ∷ b ∷ c ∷ [])) 0 0 ≡ 0
no_first zero a b c l = refl
no_first (suc w) a b c l = absurd (omega arith)

module _ (t : YubiRunning) where
  pub too_heavy : 3 < t.weight → Flattened t → ⊥
  too_heavy l f = omega (arith, few t.weight t.u0 t.u1 t.u2, ap (λ (x : YubiRunning). x.weight) f, l)

  pub third_u : t.weight ≤ 2 → (t.u2 ≡ 0 → ⊥) → Flattened t → ⊥
  third_u l n f = n (sym (ap (λ (x : YubiRunning). x.u2) f) ∙ no_third t.weight t.u0 t.u1 t.u2 l)

  pub third_v : t.weight ≤ 2 → (t.v2 ≡ 0 → ⊥) → Flattened t → ⊥
  third_v l n f = n (sym (ap (λ (x : YubiRunning). x.v2) f) ∙ no_third t.weight t.v0 t.v1 t.v2 l)

  pub second_u : t.weight ≤ 1 → (t.u1 ≡ 0 → ⊥) → Flattened t → ⊥
  second_u l n f = n (sym (ap (λ (x : YubiRunning). x.u1) f) ∙ no_second t.weight t.u0 t.u1 t.u2 l)

  pub second_v : t.weight ≤ 1 → (t.v1 ≡ 0 → ⊥) → Flattened t → ⊥
  second_v l n f = n (sym (ap (λ (x : YubiRunning). x.v1) f) ∙ no_second t.weight t.v0 t.v1 t.v2 l)

  pub first_u_used : t.weight ≡ 0 → (t.u0 ≡ 0 → ⊥) → Flattened t → ⊥
  first_u_used l n f = n (sym (ap (λ (x : YubiRunning). x.u0) f) ∙ no_first t.weight t.u0 t.u1 t.u2 l)

  pub first_v_used : t.weight ≡ 0 → (t.v0 ≡ 0 → ⊥) → Flattened t → ⊥
  first_v_used l n f = n (sym (ap (λ (x : YubiRunning). x.v0) f) ∙ no_first t.weight t.v0 t.v1 t.v2 l)

  -- where the weight is w: how many coefficients, and the one at place k
  weight_at : (w : ℕ) → t.weight ≡ w → length (first_u t) ≡ length (take w (t.u0 ∷ t.u1 ∷ t.u2 ∷ []))
  weight_at w e = ap (λ (n : ℕ). length (take n (t.u0 ∷ t.u1 ∷ t.u2 ∷ []))) e

  u_at : (w k : ℕ) → t.weight ≡ w → get_or (first_u t) k 0 ≡ get_or (take w (t.u0 ∷ t.u1 ∷ t.u2 ∷ [])) k 0
  u_at w k e = ap (λ (n : ℕ). get_or (take n (t.u0 ∷ t.u1 ∷ t.u2 ∷ [])) k 0) e

  v_at : (w k : ℕ) → t.weight ≡ w → get_or (first_v t) k 0 ≡ get_or (take w (t.v0 ∷ t.v1 ∷ t.v2 ∷ [])) k 0
  v_at w k e = ap (λ (n : ℕ). get_or (take n (t.v0 ∷ t.v1 ∷ t.v2 ∷ [])) k 0) e

  pub flat_three : t.weight ≡ 3 → Flattened t
  flat_three e = all_same (flat_running (unflat t)) t (weight_at 3 e ∙ sym e) (u_at 3 0 e) (u_at 3 1 e) (u_at 3 2 e) (v_at 3 0 e) (v_at 3 1 e) (v_at 3 2 e) refl refl

  module _ (c : t.u2 ≡ 0) (z : t.v2 ≡ 0) where
    pub flat_two : t.weight ≡ 2 → Flattened t
    flat_two e = all_same (flat_running (unflat t)) t (weight_at 2 e ∙ sym e) (u_at 2 0 e) (u_at 2 1 e) (u_at 2 2 e ∙ sym c) (v_at 2 0 e) (v_at 2 1 e) (v_at 2 2 e ∙ sym z) refl refl

    module _ (b : t.u1 ≡ 0) (y : t.v1 ≡ 0) where
      pub flat_one : t.weight ≡ 1 → Flattened t
      flat_one e = all_same (flat_running (unflat t)) t (weight_at 1 e ∙ sym e) (u_at 1 0 e) (u_at 1 1 e ∙ sym b) (u_at 1 2 e ∙ sym c) (v_at 1 0 e) (v_at 1 1 e ∙ sym y) (v_at 1 2 e ∙ sym z) refl refl

      pub flat_none : t.weight ≡ 0 → t.u0 ≡ 0 → t.v0 ≡ 0 → Flattened t
      flat_none e a x = all_same (flat_running (unflat t)) t (weight_at 0 e ∙ sym e) (u_at 0 0 e ∙ sym a) (u_at 0 1 e ∙ sym b) (u_at 0 2 e ∙ sym c) (v_at 0 0 e ∙ sym x) (v_at 0 1 e ∙ sym y) (v_at 0 2 e ∙ sym z) refl refl
