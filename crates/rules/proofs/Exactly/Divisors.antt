-- What is asked of a divisor record, alone or in a batch (`divisor_asks`: 8 to 11), and of a running total (`running_asks`: 15 and 14), in mathematical words. Gives: a number is given exactly when what is asked before it is so and what is asked under it
-- isn't (`divisor_given`, `running_given`); either is taken exactly when all of it is so (`divisor_taken`, `running_taken`).
-- Open: all that is asked.
use Prim.Native.Nat.{ℕ, ◌+◌, ◌*◌, ◌≤◌, ◌<◌}
use mathlib.Core.Path.{◌≡◌, refl, sym, ◌∙◌}
use mathlib.Core.List.{List, [], ◌∷◌}
use mathlib.Core.Bool.{Bool}
use mathlib.Core.Logic.{◌↔◌}
use lib.Dec.{eqb, leb, ltb}
use lib.ListN.{get_or, length}
use Rattle.algebra.proofs.Ring.Divides.{Divides}
use Rattle.rules.specs.Curve.{Kx}
use Rattle.rules.specs.Pair.{u_of, f_minus_v²}
use Rattle.rules.specs.Tests.{is_on_curve}
use Rattle.rules.specs.Checks.{refused, taken, Check, first_failed}
use Rattle.rules.specs.Records.{CurveRecord, curve, PairOf, made_of, both, is_below, us_at, vs_at, divisor_checks, divisor_at}
use Rattle.rules.specs.Calls.{Running, resume}
use Rattle.rules.proofs.Demand3.{on_curve_test}
use Rattle.rules.proofs.Calls.Elements.{AllBelow, below_decides}
use Rattle.rules.proofs.Calls.Given.{Ask, ask, Given, Decides, always, given_exactly, AllSo, all_exactly, joined}
use Rattle.rules.proofs.Calls.Decided.{both_decides, le_decides, lt_decides, Fits, fits_decides, Whole, is_whole, whole_decides}

-- ---- a divisor record, from byte a on: its first byte w is there; w is at most g; its 1 + 16w bytes are those that there are (`whole`: it is alone) or not more (in a batch)
abbrev pub Some : List ℕ → ℕ → Type 0
Some s a = a < length s

abbrev pub Weight : CurveRecord → List ℕ → ℕ → Type 0
Weight c s a = get_or s a 0 ≤ c.g

abbrev pub Length : Bool → List ℕ → ℕ → Type 0
Length whole s a = Fits whole (a + 1 + 16 * get_or s a 0) (length s)

-- every u_i and v_i is below p
abbrev pub Residues : CurveRecord → List ℕ → ℕ → Type 0
Residues c s a = AllBelow c.p (us_at s a) × AllBelow c.p (vs_at s a)

-- u divides f - v²
abbrev pub OnCurve : CurveRecord → List ℕ → ℕ → Type 0
OnCurve c s a = let d : PairOf c = made_of c (us_at s a) (vs_at s a) in Divides (Kx (curve c)) (u_of (curve c) d) (f_minus_v² (curve c) d)

-- the k-th of them
module _ (c : CurveRecord) (k : ℕ) (whole : Bool) (s : List ℕ) (a : ℕ) where
  abbrev pub divisor_asks : List Ask
  divisor_asks = ask (Some s a) 8 ∷ ask (Weight c s a) 9 ∷ ask (Length whole s a) 8 ∷ ask (Residues c s a) 10 ∷ ask (OnCurve c s a) 11 ∷ []

  decides_divisor : Decides (always k) (divisor_checks c k whole s a) divisor_asks
  decides_divisor = (
    lt_decides _ _,
    refl,
    refl,
    λ i. (
      le_decides _ _,
      refl,
      refl,
      λ w. (
        fits_decides whole _ _,
        refl,
        refl,
        λ l.
            (both_decides _ _ (below_decides c.p (us_at s a)) (below_decides c.p (vs_at s a)), refl, refl, λ b. (on_curve_test (curve c) (made_of c (us_at s a) (vs_at s a)), refl, refl, λ o. tt)),
      ),
    ),
  )

  pub divisor_given : (n : ℕ) → (divisor_at c k whole s a ≡ refused n k) ↔ Given n divisor_asks
  unfolding divisor_at
  divisor_given n = given_exactly (made_of c (us_at s a) (vs_at s a)) (always k) n (divisor_checks c k whole s a) divisor_asks decides_divisor

  pub divisor_taken : (divisor_at c k whole s a ≡ taken (made_of c (us_at s a) (vs_at s a))) ↔ AllSo divisor_asks
  unfolding divisor_at
  divisor_taken = all_exactly (made_of c (us_at s a) (vs_at s a)) (always k) (divisor_checks c k whole s a) divisor_asks decides_divisor

-- ---- a running total: `Whole` says that its numbers are below p, its divisor is valid on the curve, and its count is at most 4,096
module _ (c : CurveRecord) (t : Running) where
  abbrev pub running_asks : List Ask
  running_asks = ask (Whole c t) 15 ∷ ask (t.count < 4096) 14 ∷ []

  abbrev d : PairOf c
  d = made_of c t.u t.v

  abbrev room : List Check
  room = (ltb t.count 4096, 14, 0) ∷ []

  -- five tests under one number are one
  all_five : (x1 x2 x3 x4 x5 : Bool) → first_failed ((x1, 15, 0) ∷ (x2, 15, 0) ∷ (x3, 15, 0) ∷ (x4, 15, 0) ∷ (x5, 15, 0) ∷ room) d
      ≡ first_failed ((both (both (both (both x1 x2) x3) x4) x5, 15, 0) ∷ room) d
  all_five x1 x2 x3 x4 x5 = joined d x1 x2 15 0 ((x3, 15, 0) ∷ (x4, 15, 0) ∷ (x5, 15, 0) ∷ room) ∙ joined d (both x1 x2) x3 15 0 ((x4, 15, 0) ∷ (x5, 15, 0) ∷ room)
      ∙ joined d (both (both x1 x2) x3) x4 15 0 ((x5, 15, 0) ∷ room) ∙ joined d (both (both (both x1 x2) x3) x4) x5 15 0 room

  as_one : resume c t ≡ first_failed ((is_whole c t, 15, 0) ∷ room) d
  unfolding resume
  as_one = all_five (leb (length t.u) c.g) (eqb (length t.v) (length t.u)) (both (is_below c.p t.u) (is_below c.p t.v)) (is_on_curve (curve c) d) (leb t.count 4096)

  decides_running : Decides (always 0) ((is_whole c t, 15, 0) ∷ room) running_asks
  decides_running = (whole_decides c t, refl, refl, λ w. (lt_decides _ _, refl, refl, λ l. tt))

  pub running_given : (n : ℕ) → (resume c t ≡ refused n 0) ↔ Given n running_asks
  running_given n = let g = given_exactly d (always 0) n ((is_whole c t, 15, 0) ∷ room) running_asks decides_running in (λ q. g.0 (sym as_one ∙ q), λ h. as_one ∙ g.1 h)

  pub running_taken : (resume c t ≡ taken d) ↔ AllSo running_asks
  running_taken = let g = all_exactly d (always 0) ((is_whole c t, 15, 0) ∷ room) running_asks decides_running in (λ q. g.0 (sym as_one ∙ q), λ h. as_one ∙ g.1 h)
