-- Candidates of weight 3 that the screen turns away. Gives: a walk may go past them, its last number raised one after the other (`skipped_three`), and may stay (`skipped_none`).
use Prim.Native.Nat.{ℕ, zero, suc, ◌+◌, ◌-◌, ◌*◌, ◌≤◌, ◌<◌}
use mathlib.Core.Path.{◌≡◌, refl, sym, ap, ◌∙◌, subst}
use mathlib.Core.List.{List, [], ◌∷◌, ◌++◌}
use mathlib.Core.Bool.{Bool, false}
use native.Mathlib.Omega.{arith}
use lib.ListN.{length, take, set}
use lib.Seq.{take_all}
use Rattle.algebra.proofs.Zmod.Zmod.{emb, num, emb_num, num_lt}
use Rattle.rules.specs.Records.{CurveRecord, PairOf, elements}
use Rattle.rules.specs.Tests.{is_on_curve}
use Rattle.rules.proofs.Demand3.{on_curve_test}
use Rattle.rules.specs.Census.{passing, pair_from}
use Rattle.rules.proofs.Census.Rising.{passing_no}
use Rattle.rules.proofs.Census.Pairs.{later_raise}
use Rattle.field.specs.declared.Residue.{Residue}
use Rattle.field.specs.Residues.{el}
use Rattle.field.proofs.Decide.{otherwise}
use Rattle.divisor.specs.declared.Divisor.{Divisor}
use Rattle.divisor.specs.declared.Divisor.TheVariants.{Three}
use Rattle.divisor.specs.declared.Cubic.{Cubic}
use Rattle.divisor.specs.Divisors.{weight_of, coefficients, RowOf}
use Rattle.curve.specs.declared.Curve.{Curve}
use Rattle.curve.specs.Curves.{curve_of}
use Rattle.curve.specs.Record.{record_of}
use Rattle.divisor_census.specs.declared.Screen.{Screen}
use Rattle.divisor_census.specs.Rows.{Rowed, ahead}
use Rattle.divisor_census.specs.Screens.{Passed, ended, Screens, Skipped}
use Rattle.divisor_census.proofs.Advancing.{ahead_in}

module _ (c : Curve) where
  pub skipped_none : (w : ℕ) (l : List Residue) → Rowed c.prime.m (2 * w) l → Skipped c w l l
  skipped_none w l h = record { rowed = h; same = refl; fewer = omega arith }

  abbrev R : CurveRecord
  R = record_of c

  abbrev p : ℕ
  p = c.prime.m.p

  abbrev T : PairOf R → Bool
  T = is_on_curve (curve_of c)

  -- ---- from one last number to a later one
  module _ (some : 0 < p) (w : ℕ) (light : w ≤ c.g) (front : List ℕ) where
    abbrev from : ℕ → List (PairOf R)
    from n = ahead R w (front ++ (n ∷ []))

    abbrev at : ℕ → PairOf R
    at n = pair_from R w (front ++ (n ∷ []))

    one_on : (n : ℕ) → suc n < p → from n ≡ at n ∷ from (suc n)
    one_on n u = ahead_in R w (front ++ (n ∷ [])) light ∙ ap (λ t. at n ∷ t) (later_raise R some w front n [] u tt ∙ sym (ahead_in R w (front ++ (suc n ∷ [])) light))

    -- k numbers on, where none of these stands on the curve
    many_on : (k n : ℕ) → n + k < p → ((i : ℕ) → n ≤ i → i < n + k → T (at i) ≡ false) → (passing T (from (n + k)) ≡ passing T (from n)) × (length (from (n + k)) ≤ length (from n))
    many_on zero n u h = let e : n + 0 ≡ n = omega arith in subst (λ i. (passing T (from i) ≡ passing T (from n)) × (length (from i) ≤ length (from n))) (sym e) (refl, omega arith)
    many_on (suc k) n u h =
        let e : suc n + k ≡ n + suc k = omega arith in
        let rec = many_on k (suc n) (omega arith) (λ i a b. h i (omega arith) (omega arith)) in
        let step = one_on n (omega arith) in
        subst (λ i. (passing T (from i) ≡ passing T (from n)) × (length (from i) ≤ length (from n))) e
        (rec.0 ∙ sym (ap (passing T) step ∙ passing_no T (at n) (from (suc n)) (h n (omega arith) (omega arith))), omega (arith, rec.1, ap length step))

  -- ---- by the screen
  module _ (d : Cubic) (s : Screen) (h : Screens c d s) (t : Residue) (k : Passed c.prime.m s d.v2 t) where
    abbrev digit : Residue → ℕ
    digit r = num p (el c.prime.m r)

    abbrev front_of : List ℕ
    front_of = digit d.u0 ∷ digit d.u1 ∷ digit d.u2 ∷ digit d.v0 ∷ digit d.v1 ∷ []

    abbrev row_with : Residue → List Residue
    row_with r = d.u0 ∷ d.u1 ∷ d.u2 ∷ d.v0 ∷ d.v1 ∷ r ∷ []

    named : (i : ℕ) → pair_from R 3 (front_of ++ (i ∷ [])) ≡ ended c d (emb p i)
    unfolding pair_from elements
    named i = rw (emb_num p (el c.prime.m d.u0), emb_num p (el c.prime.m d.u1), emb_num p (el c.prime.m d.u2), emb_num p (el c.prime.m d.v0), emb_num p (el c.prime.m d.v1)) refl

    turned_away : (i : ℕ) → digit d.v2 ≤ i → i < digit t → T (pair_from R 3 (front_of ++ (i ∷ []))) ≡ false
    turned_away i a b = ap T (named i) ∙ otherwise (T (ended c d (emb p i))) (λ y. k.none i a b (h.zero (emb p i) ((on_curve_test (curve_of c) (ended c d (emb p i))).0 y)))

    pub skipped_row : 3 ≤ c.g → Rowed c.prime.m 6 (row_with d.v2) → Skipped c 3 (row_with d.v2) (row_with t)
    skipped_row light r =
        let some : 0 < p = omega (arith, c.prime.m.odd.from) in
        let e : digit d.v2 + (digit t - digit d.v2) ≡ digit t = omega (arith, k.from) in
        let q = many_on some 3 light front_of (digit t - digit d.v2) (digit d.v2) (omega (arith, e, num_lt p some (el c.prime.m t))) (λ i a b. turned_away i a (omega (arith, e))) in
        record {
          rowed = record { within = r.within; long = refl; settled = let o = r.settled in (o.0, (o.1.0, (o.1.1.0, (o.1.1.1.0, (o.1.1.1.1.0, (k.settled, tt)))))) };
          same = subst (λ i. passing T (ahead R 3 (front_of ++ (i ∷ []))) ≡ passing T (ahead R 3 (front_of ++ (digit d.v2 ∷ [])))) e q.0;
          fewer = subst (λ i. length (ahead R 3 (front_of ++ (i ∷ []))) ≤ length (ahead R 3 (front_of ++ (digit d.v2 ∷ [])))) e q.1;
        }

    -- of a divisor of the row l
    pub skipped_three : (x : Divisor) → x ≡ Three d → (w : ℕ) → weight_of x ≡ w → w ≤ c.g → (l : List Residue) → RowOf x l → Rowed c.prime.m (2 * w) l → Skipped c w l (set l 5 t)
    skipped_three x q w e light l r o =
        let three : 3 ≡ w = sym (ap weight_of q) ∙ e in
        let is : row_with d.v2 ≡ l = sym (sym (take_all 6 l (omega (arith, o.long))) ∙ subst (λ (y : Divisor). take (2 * weight_of y) l ≡ coefficients y) q r.is) in
        subst (λ (n : ℕ). Skipped c n l (set l 5 t)) three
        (subst (λ (y : List Residue). Skipped c 3 y (set y 5 t)) is (skipped_row (omega (arith, three, light)) (subst (λ (y : List Residue). Rowed c.prime.m 6 y) (sym is) (subst (λ (n : ℕ). Rowed c.prime.m (2 * n) l) (sym three) o))))
