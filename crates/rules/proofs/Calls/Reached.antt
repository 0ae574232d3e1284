-- A call that answers a number n, a reading at a time: what it reads first is refused with n, or is taken and what follows answers n (`staged`). So where the curve and the divisor are never refused with n, both were taken (`both_reached`); checks in a row refuse with n or
-- pass (`checks_staged`, `checks_reached`), and those at the end refuse with it (`checks_answer`), in Given's words.
-- Open: `TookCurve`, `TookBoth`.
use Prim.Native.Nat.{ℕ, ◌<◌}
use mathlib.Core.Path.{◌≡◌, refl, sym, ap, ◌∙◌, subst}
use mathlib.Core.List.{List}
use mathlib.Core.Bool.{Bool, true, false}
use mathlib.Core.Logic.{◌↔◌, ◌⊎◌, inl, inr}
use native.Mathlib.Omega.{arith}
use lib.Dec.{ltb}
use lib.ListN.{length}
use Rattle.rules.specs.Checks.{Checked, refused, taken, choose, Check, first_failed, go_on}
use Rattle.rules.specs.Records.{CurveRecord, PairOf, read_curve, read_divisor}
use Rattle.rules.specs.Calls.{Result, stop, deliver}
use Rattle.rules.proofs.Calls.Checks.{all_passed}
use Rattle.rules.proofs.Calls.Refusals.{on_taken, on_refused, curve-refused, divisor_refused}
use Rattle.rules.proofs.Calls.Delivered.{full}
use Rattle.rules.proofs.Calls.Written.{answered}
use Rattle.rules.proofs.Calls.Given.{◌and◌, Ask, Given, Decides, given_exactly, given-some, AllSo, all_exactly}

-- the curve was taken, as c; and the divisor record, as x
abbrev pub TookCurve : List ℕ → (CurveRecord → Type 0) → Type 0
TookCurve s P = (c : CurveRecord) × (read_curve s ≡ taken c) × P c

abbrev pub TookBoth : List ℕ → List ℕ → ((c : CurveRecord) → PairOf c → Type 0) → Type 0
TookBoth s a P = TookCurve s (λ c. (x : PairOf c) × (read_divisor c 1 a ≡ taken x) × P c x)

pub through : {A B C : Type 0} → A ↔ B → B ↔ C → A ↔ C
through h k = (λ a. k.0 (h.0 a), λ c. h.1 (k.1 c))

pub second : {A B C : Type 0} → B ↔ C → (A and B) ↔ (A and C)
second h = (λ t. (t.0, h.0 t.1), λ t. (t.0, h.1 t.1))

pub right : {A B C : Type 0} → B ↔ C → (A ⊎ B) ↔ (A ⊎ C)
right h = (λ t. elim t [ inl a ↦ inl a | inr b ↦ inr (h.0 b) ], λ t. elim t [ inl a ↦ inl a | inr c ↦ inr (h.1 c) ])

-- of what was taken, the same in other words
pub third : {A : Type 0} {E P Q : A → Type 0} → ((a : A) → E a → P a ↔ Q a) → ((a : A) × E a × P a) ↔ ((a : A) × E a × Q a)
third h = (λ t. (t.0, t.1, (h t.0 t.1).0 t.2), λ t. (t.0, t.1, (h t.0 t.1).1 t.2))

pub took_as : (s : List ℕ) {P Q : CurveRecord → Type 0} → ((c : CurveRecord) → read_curve s ≡ taken c → P c ↔ Q c) → TookCurve s P ↔ TookCurve s Q
took_as s h = third h

pub both_as : (s a : List ℕ) {P Q : (c : CurveRecord) → PairOf c → Type 0} → ((c : CurveRecord) → read_curve s ≡ taken c → (x : PairOf c) → read_divisor c 1 a ≡ taken x → P c x ↔ Q c x)
    → TookBoth s a P ↔ TookBoth s a Q
both_as s a h = took_as s (λ c e. third (h c e))

module _ {N : Type 0} (none : N) (out : List ℕ) (n : ℕ) where
  -- it answers n
  abbrev pub Says : Checked (Result N) → Type 0
  Says x = answered (deliver none out x) ≡ n

  pub says_as : {x y : Checked (Result N)} → x ≡ y → Says x ↔ Says y
  says_as q = (λ e. ap (λ z. answered (deliver none out z)) (sym q) ∙ e, λ e. ap (λ z. answered (deliver none out z)) q ∙ e)

  pub staged : {A : Type 0} (x : Checked A) (go : A → Checked (Result N)) → Says (go_on x go) ↔ (((k : ℕ) × (x ≡ refused n k)) ⊎ ((a : A) × (x ≡ taken a) × Says (go a)))
  staged {A} x go = (to x, back)
    where
      to : (x : Checked A) → Says (go_on x go) → ((k : ℕ) × (x ≡ refused n k)) ⊎ ((a : A) × (x ≡ taken a) × Says (go a))
      to (refused m k) e = inl (k, ap (λ (i : ℕ). refused i k) e)
      to (taken a) e = inr (a, refl, e)

      back : ((k : ℕ) × (x ≡ refused n k)) ⊎ ((a : A) × (x ≡ taken a) × Says (go a)) → Says (go_on x go)
      back (inl t) = ap (λ z. answered (deliver none out z)) (on_refused x go t.1)
      back (inr t) = ap (λ z. answered (deliver none out z)) (on_taken x go t.1) ∙ t.2

  -- what is read first is never refused with n; what follows it never is
  pub reached : {A : Type 0} (x : Checked A) (go : A → Checked (Result N)) → ((k : ℕ) → x ≡ refused n k → ⊥) → Says (go_on x go) ↔ ((a : A) × (x ≡ taken a) × Says (go a))
  reached x go h = (λ e. elim ((staged x go).0 e) [ inl t ↦ absurd (h t.0 t.1) | inr t ↦ t ], λ t. (staged x go).1 (inr t))

  pub refused_here : {A : Type 0} (x : Checked A) (go : A → Checked (Result N)) → ((a : A) → x ≡ taken a → Says (go a) → ⊥) → Says (go_on x go) ↔ ((k : ℕ) × (x ≡ refused n k))
  refused_here x go h = (λ e. elim ((staged x go).0 e) [ inl t ↦ t | inr t ↦ absurd (h t.0 t.1 t.2) ], λ t. (staged x go).1 (inl t))

  -- checks in a row, and what follows them; and where they never refuse with n
  pub checks_staged : {A : Type 0} (place : ℕ → ℕ) (l : List Check) (m : List Ask) (x : A) (go : A → Checked (Result N)) → Decides place l m
      → Says (go_on (first_failed l x) go) ↔ (Given n m ⊎ (AllSo m and Says (go x)))
  checks_staged {A} place l m x go d = (λ e. to ((staged (first_failed l x) go).0 e), back)
    where
      to : ((k : ℕ) × (first_failed l x ≡ refused n k)) ⊎ ((a : A) × (first_failed l x ≡ taken a) × Says (go a)) → Given n m ⊎ (AllSo m and Says (go x))
      to (inl t) = inl ((given-some x place n l m d).0 t)
      to (inr t) = let q = (all_passed x l t.1).1 in inr ((all_exactly x place l m d).0 (t.1 ∙ ap taken (sym q)), subst (λ a. Says (go a)) (sym q) t.2)

      back : Given n m ⊎ (AllSo m and Says (go x)) → Says (go_on (first_failed l x) go)
      back (inl g) = (staged (first_failed l x) go).1 (inl ((given-some x place n l m d).1 g))
      back (inr t) = (staged (first_failed l x) go).1 (inr (x, (all_exactly x place l m d).1 t.0, t.1))

  pub checks_reached : {A : Type 0} (place : ℕ → ℕ) (l : List Check) (m : List Ask) (x : A) (go : A → Checked (Result N)) → Decides place l m → (Given n m → ⊥)
      → Says (go_on (first_failed l x) go) ↔ (AllSo m and Says (go x))
  checks_reached place l m x go d none = let s = checks_staged place l m x go d in (λ e. elim (s.0 e) [ inl g ↦ absurd (none g) | inr t ↦ t ], λ t. s.1 (inr t))

  -- ---- a curve is refused with 1 to 7 or 18, a divisor with 8 to 11
  module _ (above : 11 < n) where
    pub curve_reached : (n ≡ 18 → ⊥) → (s : List ℕ) (go : CurveRecord → Checked (Result N)) → Says (go_on (read_curve s) go) ↔ TookCurve s (λ c. Says (go c))
    curve_reached other s go = reached (read_curve s) go (λ k e. other ((curve-refused s e).apart (omega (arith, above))))

    pub divisor_reached : (c : CurveRecord) (a : List ℕ) (go : PairOf c → Checked (Result N)) → Says (go_on (read_divisor c 1 a) go) ↔ ((x : PairOf c) × (read_divisor c 1 a ≡ taken x) × Says (go x))
    divisor_reached c a go = reached (read_divisor c 1 a) go (λ k e. omega (arith, above, (divisor_refused c 1 true a 0 e).1))

    pub both_reached : (n ≡ 18 → ⊥) → (s a : List ℕ) (go : (c : CurveRecord) → PairOf c → Checked (Result N))
        → Says (go_on (read_curve s) (λ c. go_on (read_divisor c 1 a) (go c))) ↔ TookBoth s a (λ c x. Says (go c x))
    both_reached other s a go = through (curve_reached other s _) (took_as s (λ c e. divisor_reached c a (go c)))

  -- ---- at the end: a result is put, and answers 0 or 13
  module _ (some : n ≡ 0 → ⊥) (other : n ≡ 13 → ⊥) where
    pub put_says : (r : Result N) → Says (taken r) → ⊥
    put_says r = go (ltb (length out) (length r.bytes))
      where
        go : (t : Bool) → answered (choose t (stop none out 13 0) (full none out r)) ≡ n → ⊥
        go true e = other (sym e)
        go false e = some (sym e)

    pub checks_answer : (place : ℕ → ℕ) (l : List Check) (m : List Ask) (r : Result N) → Decides place l m → Says (first_failed l r) ↔ Given n m
    checks_answer place l m r d = (go (first_failed l r) refl, λ g. ap (λ x. answered (deliver none out x)) ((given_exactly r place n l m d).1 g))
      where
        go : (x : Checked (Result N)) → first_failed l r ≡ x → Says x → Given n m
        go (refused i k) q e = (given-some r place n l m d).0 (k, q ∙ ap (λ (j : ℕ). refused j k) e)
        go (taken y) q e = absurd (put_says y e)
