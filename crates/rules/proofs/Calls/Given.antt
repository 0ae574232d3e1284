-- "Given exactly when", of checks in a row in mathematical words. What is asked is a list of propositions, each with the number given where it isn't so; `Given n` of it says when n is given: what is
-- asked before is so, and what is asked under n isn't. `A and B and ¬ C` reads: A and B passed, which are asked before, and C isn't so. Gives: where each test decides what is asked, all before it being so (`Decides`), a
-- reading is refused with n exactly when n is given (`given_exactly`), at its place (`given-place`, `given-some`), and taken exactly when all that is asked is so (`all_exactly`).
-- Open: `Given`, `AllSo`, `Decides`.
use Prim.Native.Nat.{ℕ}
use mathlib.Core.Path.{◌≡◌, refl, sym, ap, ap₂, ◌∙◌}
use mathlib.Core.List.{List, [], ◌∷◌}
use mathlib.Core.Bool.{Bool, true, false, true≢false, false≢true}
use mathlib.Core.Logic.{◌↔◌, ◌⊎◌, inl, inr}
use lib.Dec.{eqb}
use borrow.Author.Tests.{eqb-true, eq-eqb}
use Rattle.rules.specs.Checks.{Checked, refused, taken, choose, Check, first_failed}
use Rattle.rules.specs.Records.{both, either}
use Rattle.rules.proofs.Calls.Tests.{refused_taken}

-- one after the other, as the checks stand
infixr 3 ◌and◌
abbrev pub ◌and◌ : Type 0 → Type 0 → Type 0
A and B = A × B

-- what is asked, and the number given where it isn't so
pub record Ask : Type 1 where
  pub so : Type 0
  pub number : ℕ

abbrev pub ask : Type 0 → ℕ → Ask
ask so n = record { so = so; number = n }

-- n is given further on
abbrev pub asked : ℕ → List Ask → Bool
asked n [] = false
asked n (a ∷ l) = either (eqb a.number n) (asked n l)

-- here and further on, here alone, further on alone
abbrev pub given_by : (here later : Bool) → Type 0 → Type 0 → Type 0
given_by true true so rest = (¬ so) ⊎ (so and rest)
given_by true false so rest = ¬ so
given_by false later so rest = so and rest

abbrev pub Given : ℕ → List Ask → Type 0
Given n [] = ⊥
Given n (a ∷ l) = given_by (eqb a.number n) (asked n l) a.so (Given n l)

never : (n : ℕ) (l : List Ask) → asked n l ≡ false → Given n l → ⊥
never n [] e h = h
never n (a ∷ l) e h = go (eqb a.number n) e h (never n l)
  where
    go : (b : Bool) → either b (asked n l) ≡ false → given_by b (asked n l) a.so (Given n l) → (asked n l ≡ false → Given n l → ⊥) → ⊥
    go true e h rec = true≢false e
    go false e h rec = rec e h.1

-- ---- each test decides what is asked, all before it being so; a number's place is `place` of it
abbrev pub Decides : (ℕ → ℕ) → List Check → List Ask → Type 0
Decides place [] [] = Unit {0}
Decides place [] (a ∷ m) = ⊥
Decides place (c ∷ l) [] = ⊥
Decides place (c ∷ l) (a ∷ m) = ((c.0 ≡ true) ↔ a.so) × (c.1 ≡ a.number) × (c.2 ≡ place a.number) × (a.so → Decides place l m)

-- every number at place k
abbrev pub always : ℕ → ℕ → ℕ
always k n = k

-- two checks under one number are one
pub joined : {A : Type 0} (x : A) (a b : Bool) (n k : ℕ) (l : List Check) → first_failed ((a, n, k) ∷ (b, n, k) ∷ l) x ≡ first_failed ((both a b, n, k) ∷ l) x
joined x true b n k l = refl
joined x false b n k l = refl

module _ {A : Type 0} (x : A) (place : ℕ → ℕ) (n : ℕ) where
  -- past a check that passes
  past : (here later : Bool) (so rest : Type 0) → (later ≡ false → rest → ⊥) → so → rest ↔ given_by here later so rest
  past true true so rest none h = (λ r. inr (h, r), λ g. elim g [ inl f ↦ absurd (f h) | inr t ↦ t.1 ])
  past true false so rest none h = (λ r. absurd (none refl r), λ f. absurd (f h))
  past false later so rest none h = (λ r. (h, r), λ t. t.1)

  -- at one that fails
  at : (here later : Bool) (so rest : Type 0) → (so → ⊥) → (here ≡ true) ↔ given_by here later so rest
  at true true so rest f = (λ e. inl f, λ g. refl)
  at true false so rest f = (λ e. f, λ g. refl)
  at false later so rest f = (λ e. absurd (false≢true e), λ t. absurd (f t.0))

  same_refusal : (m j : ℕ) → j ≡ place m → (◌≡◌ {A = Checked A} (refused m j) (refused n (place n))) ↔ (eqb m n ≡ true)
  same_refusal m j e = (λ q. let z : m ≡ n = cc in eq-eqb m n z, λ q. let z : m ≡ n = eqb-true m n q in ap₂ refused z (e ∙ ap place z))

  pub given_exactly : (l : List Check) (m : List Ask) → Decides place l m → (first_failed l x ≡ refused n (place n)) ↔ Given n m
  given_exactly [] [] d = (λ e. absurd (refused_taken (sym e)), λ g. absurd g)
  given_exactly [] (a ∷ m) d = absurd d
  given_exactly (c ∷ l) [] d = absurd d
  given_exactly (c ∷ l) (a ∷ m) d = go c.0 refl (λ h. given_exactly l m (d.3 h))
    where
      go : (t : Bool) → c.0 ≡ t → (a.so → (first_failed l x ≡ refused n (place n)) ↔ Given n m)
          → (choose t (first_failed l x) (refused c.1 c.2) ≡ refused n (place n)) ↔ Given n (a ∷ m)
      go true e rec = let h = d.0.0 e in let p = past (eqb a.number n) (asked n m) a.so (Given n m) (never n m) h in
          (λ q. p.0 ((rec h).0 q), λ g. (rec h).1 (p.1 g))
      go false e rec =
          let not_so : a.so → ⊥ = λ h. true≢false (sym (d.0.1 h) ∙ e) in
          let p = at (eqb a.number n) (asked n m) a.so (Given n m) not_so in
          let s = same_refusal c.1 c.2 (d.2 ∙ ap place (sym d.1)) in
          let same : eqb c.1 n ≡ eqb a.number n = ap (λ (i : ℕ). eqb i n) d.1 in
          (λ q. p.0 (sym same ∙ s.0 q), λ g. s.1 (same ∙ p.1 g))

-- a refusal's place is that of its number
pub given-place : {A : Type 0} (x : A) (place : ℕ → ℕ) (n k : ℕ) (l : List Check) (m : List Ask) → Decides place l m → first_failed l x ≡ refused n k → k ≡ place n
given-place x place n k [] [] d e = absurd (refused_taken (sym e))
given-place x place n k [] (a ∷ m) d e = absurd d
given-place x place n k (c ∷ l) [] d e = absurd d
given-place x place n k (c ∷ l) (a ∷ m) d e = go c.0 refl e (λ h. given-place x place n k l m (d.3 h))
  where
    go : (t : Bool) → c.0 ≡ t → choose t (first_failed l x) (refused c.1 c.2) ≡ refused n k → (a.so → first_failed l x ≡ refused n k → k ≡ place n) → k ≡ place n
    go true e q rec = rec (d.0.0 e) q
    go false e q rec =
        let i : c.1 ≡ n = cc in
        let j : c.2 ≡ k = cc in
        sym j ∙ d.2 ∙ ap place (sym d.1 ∙ i)

-- at whatever place
pub given-some : {A : Type 0} (x : A) (place : ℕ → ℕ) (n : ℕ) (l : List Check) (m : List Ask) → Decides place l m → ((k : ℕ) × (first_failed l x ≡ refused n k)) ↔ Given n m
given-some x place n l m d = let g = given_exactly x place n l m d in (λ t. g.0 (t.1 ∙ ap (refused n) (given-place x place n t.0 l m d t.1)), λ h. (place n, g.1 h))

-- ---- taken exactly when all that is asked is so
abbrev pub AllSo : List Ask → Type 0
AllSo [] = Unit {0}
AllSo (a ∷ []) = a.so
AllSo (a ∷ b ∷ l) = a.so and AllSo (b ∷ l)

so_more : (a : Ask) (l : List Ask) → AllSo (a ∷ l) ↔ (a.so × AllSo l)
so_more a [] = (λ h. (h, tt), λ h. h.0)
so_more a (b ∷ l) = (λ h. h, λ h. h)

pub all_exactly : {A : Type 0} (x : A) (place : ℕ → ℕ) (l : List Check) (m : List Ask) → Decides place l m → (first_failed l x ≡ taken x) ↔ AllSo m
all_exactly x place [] [] d = (λ e. tt, λ h. refl)
all_exactly x place [] (a ∷ m) d = absurd d
all_exactly x place (c ∷ l) [] d = absurd d
all_exactly x place (c ∷ l) (a ∷ m) d = go c.0 refl (λ h. all_exactly x place l m (d.3 h))
  where
    go : (t : Bool) → c.0 ≡ t → (a.so → (first_failed l x ≡ taken x) ↔ AllSo m) → (choose t (first_failed l x) (refused c.1 c.2) ≡ taken x) ↔ AllSo (a ∷ m)
    go true e rec = let h = d.0.0 e in (λ q. (so_more a m).1 (h, (rec h).0 q), λ g. (rec h).1 ((so_more a m).0 g).1)
    go false e rec = (λ q. absurd (refused_taken q), λ g. absurd (true≢false (sym (d.0.1 ((so_more a m).0 g).0) ∙ e)))
