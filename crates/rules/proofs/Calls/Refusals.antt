-- What is refused: a curve with a number from 1 to 7 or 18, and place 0 (`curve-refused`), the k-th divisor with 8 to 11 and place k
-- (`divisor_refused`), a running total with 14 or 15 and place 0 (`resume_refused`); and in which order: exactly the first check that fails (`curve-order`,
-- `divisor_order`, `resume_order`). None of them has the number 0 (`curve_numbered` and its like). What goes on after a reading (`on_taken`, `on_refused`, `on_on`, `went_on`).
-- Open: `Within`.
use Prim.Native.Nat.{ℕ, ◌≤◌, ◌<◌}
use mathlib.Core.Path.{◌≡◌, refl, sym, ap}
use mathlib.Core.List.{List}
use mathlib.Core.Bool.{Bool, true, false}
use mathlib.Core.Logic.{◌↔◌}
use native.Mathlib.Omega.{arith}
use lib.Dec.{eqb}
use Rattle.rules.specs.Checks.{Check, Checked, refused, taken, choose, go_on}
use Rattle.rules.specs.Records.{CurveRecord, made_of, version_of, curve_of, unwitnessed_checks, witnessed_checks, curve_checks, read_curve, us_at, vs_at, divisor_checks, divisor_at}
use Rattle.rules.specs.Calls.{Running, resume_checks, resume}
use Rattle.rules.proofs.Calls.Tests.{refused_taken}
use Rattle.rules.proofs.Calls.Checks.{AllSay, say_both, FirstFails, refused_exactly, refused_as}

-- a refusal never has the number 0
abbrev pub Numbered : {A : Type 0} → Checked A → Type 0
Numbered x = (n k : ℕ) → x ≡ refused n k → 0 < n

module _ {A B : Type 0} where
  -- ---- what goes on with what was taken, and what stops at what was refused
  pub on_taken : (x : Checked A) (go : A → Checked B) {a : A} → x ≡ taken a → go_on x go ≡ go a
  on_taken x go e = ap (λ z. go_on z go) e

  pub on_refused : (x : Checked A) (go : A → Checked B) {n k : ℕ} → x ≡ refused n k → go_on x go ≡ refused n k
  on_refused x go e = ap (λ z. go_on z go) e

  -- one reading after two others
  pub on_on : {C : Type 0} (x : Checked A) (go : A → Checked B) (more : B → Checked C) → go_on (go_on x go) more ≡ go_on x (λ a. go_on (go a) more)
  on_on (refused n k) go more = refl
  on_on (taken a) go more = refl

  pub went_on : (x : Checked A) (go : A → Checked B) {b : B} → go_on x go ≡ taken b → (a : A) × (x ≡ taken a) × (go a ≡ taken b)
  went_on (refused n k) go e = absurd (refused_taken e)
  went_on (taken a) go e = (a, refl, e)

  pub numbered_on : (x : Checked A) (go : A → Checked B) → Numbered x → ((a : A) → x ≡ taken a → Numbered (go a)) → Numbered (go_on x go)
  numbered_on (refused m j) go h rest n k e = let z : m ≡ n = cc in omega (arith, h m j refl, z)
  numbered_on (taken a) go h rest n k e = rest a refl n k e

-- to an answer of whatever kind, where it was refused and where it was taken
abbrev pub check : {A R : Type 0} → Checked A → (ℕ → ℕ → R) → (A → R) → R
check x stop go = elim x [ refused n k ↦ stop n k | taken a ↦ go a ]

module _ {A R : Type 0} (x : Checked A) (stop : ℕ → ℕ → R) (go : A → R) where
  pub check_taken : {a : A} → x ≡ taken a → check x stop go ≡ go a
  check_taken e = ap (λ z. check z stop go) e

  pub check_refused : {n k : ℕ} → x ≡ refused n k → check x stop go ≡ stop n k
  check_refused e = ap (λ z. check z stop go) e

pub numbered_taken : {A : Type 0} (a : A) → Numbered (taken a)
numbered_taken a n k e = absurd (refused_taken (sym e))

-- a number from `least` to `greatest`, and that place
abbrev pub Within : ℕ → ℕ → ℕ → ℕ → ℕ → Type 0
Within least greatest place n k = (least ≤ n) × (n ≤ greatest) × (k ≡ place)

-- ---- a curve
within : {least greatest place n : ℕ} → least ≤ n → n ≤ greatest → Within least greatest place n place
within l u = (l, u, refl)

-- (18 stands alone above 7)
pub record OfCurve (n k : ℕ) : Type 0 where
  pub some : 1 ≤ n
  pub most : n ≤ 18
  pub apart : 7 < n → n ≡ 18
  pub place : k ≡ 0

to_seven : {n : ℕ} → 1 ≤ n → n ≤ 7 → OfCurve n 0
to_seven l u = record { some = l; most = omega arith; apart = λ z. absurd (omega arith); place = refl }

eighteen : OfCurve 18 0
eighteen = record { some = omega arith; most = omega arith; apart = λ z. refl; place = refl }

pub curve-refused : (s : List ℕ) {n k : ℕ} → read_curve s ≡ refused n k → OfCurve n k
unfolding read_curve
curve-refused s e = refused_as (curve_of s) OfCurve (curve_checks s)
    (to_seven (omega arith) (omega arith), (to_seven (omega arith) (omega arith), (to_seven (omega arith) (omega arith), (to_seven (omega arith) (omega arith), say_both OfCurve (form_checks (eqb (version_of s) 1)) _ (by_version (eqb (version_of s) 1)) (to_seven (omega arith) (omega arith), (to_seven (omega arith) (omega arith), tt)))))) e
  where
    form_checks : Bool → List Check
    form_checks b = choose b (unwitnessed_checks s) (witnessed_checks s)

    by_version : (b : Bool) → AllSay OfCurve (form_checks b)
    by_version true = search (to_seven, eighteen, arith)
    by_version false = search (to_seven, eighteen, arith)

-- the order: a number is given exactly where its check is the first that fails
pub curve-order : (s : List ℕ) (n k : ℕ) → (read_curve s ≡ refused n k) ↔ FirstFails (curve_checks s) n k
unfolding read_curve
curve-order s n k = refused_exactly (curve_of s) (curve_checks s) n k

pub curve_numbered : (s : List ℕ) → Numbered (read_curve s)
curve_numbered s n k e = omega (arith, (curve-refused s e).some)

-- ---- a divisor, and a running total
module _ (c : CurveRecord) where
  pub divisor_refused : (k : ℕ) (whole : Bool) (s : List ℕ) (a : ℕ) {n j : ℕ} → divisor_at c k whole s a ≡ refused n j → Within 8 11 k n j
  unfolding divisor_at
  divisor_refused k whole s a e = refused_as (made_of c (us_at s a) (vs_at s a)) (Within 8 11 k) (divisor_checks c k whole s a) (search (within, arith)) e

  pub resume_refused : (t : Running) {n j : ℕ} → resume c t ≡ refused n j → Within 14 15 0 n j
  unfolding resume
  resume_refused t e = refused_as (made_of c t.u t.v) (Within 14 15 0) (resume_checks c t) (search (within, arith)) e

  pub divisor_order : (k : ℕ) (whole : Bool) (s : List ℕ) (a n j : ℕ) → (divisor_at c k whole s a ≡ refused n j) ↔ FirstFails (divisor_checks c k whole s a) n j
  unfolding divisor_at
  divisor_order k whole s a n j = refused_exactly (made_of c (us_at s a) (vs_at s a)) (divisor_checks c k whole s a) n j

  pub resume_order : (t : Running) (n j : ℕ) → (resume c t ≡ refused n j) ↔ FirstFails (resume_checks c t) n j
  unfolding resume
  resume_order t n j = refused_exactly (made_of c t.u t.v) (resume_checks c t) n j

  pub divisor_numbered : (k : ℕ) (whole : Bool) (s : List ℕ) (a : ℕ) → Numbered (divisor_at c k whole s a)
  divisor_numbered k whole s a n j e = omega (arith, (divisor_refused k whole s a e).0)

  pub resume_numbered : (t : Running) → Numbered (resume c t)
  resume_numbered t n j e = omega (arith, (resume_refused t e).0)
