-- Checks in a row. Gives: what was read is taken exactly where every check passes (`taken_exactly`); it is refused with n at place k exactly where the
-- first check that fails has that number and place, all before it passing (`refused_exactly`): the order of refusals. What is so of every check's number
-- and place is so of a refusal's (`refused_as`).
-- Open: `AllPass`, `AllSay`.
use Prim.Native.Nat.{ℕ}
use mathlib.Core.Path.{◌≡◌, refl, sym, ap, ap₂, ◌∙◌, subst₂}
use mathlib.Core.List.{List, [], ◌∷◌, ◌++◌}
use mathlib.Core.Bool.{Bool, true, false}
use mathlib.Core.Logic.{◌↔◌}
use Rattle.rules.specs.Checks.{refused, taken, choose, Check, first_failed}
use Rattle.rules.proofs.Calls.Tests.{refused_taken, taken_inj, passed}

abbrev pub AllPass : List Check → Type 0
AllPass [] = Unit {0}
AllPass (c ∷ l) = (c.0 ≡ true) × AllPass l

-- number and place of each keep Q
abbrev pub AllSay : (ℕ → ℕ → Type 0) → List Check → Type 0
AllSay Q [] = Unit {0}
AllSay Q (c ∷ l) = Q c.1 c.2 × AllSay Q l

-- of two lists, one behind the other
pub pass_append : (l r : List Check) → AllPass (l ++ r) → AllPass l × AllPass r
pass_append [] r h = (tt, h)
pass_append (c ∷ l) r h = let t = pass_append l r h.1 in ((h.0, t.0), t.1)

pub pass_both : (l r : List Check) → AllPass l → AllPass r → AllPass (l ++ r)
pass_both [] r h k = k
pass_both (c ∷ l) r h k = (h.0, pass_both l r h.1 k)

pub say_both : (Q : ℕ → ℕ → Type 0) (l r : List Check) → AllSay Q l → AllSay Q r → AllSay Q (l ++ r)
say_both Q [] r h k = k
say_both Q (c ∷ l) r h k = (h.0, say_both Q l r h.1 k)

-- the first of l that fails
pub record FirstFails (l : List Check) (n k : ℕ) : Type 0 where
  pub before : List Check
  pub failed : Check
  pub behind : List Check
  pub split : before ++ (failed ∷ behind) ≡ l
  pub pass : AllPass before
  pub fails : failed.0 ≡ false
  pub number : failed.1 ≡ n
  pub place : failed.2 ≡ k

module _ {A : Type 0} (a : A) where
  pub all_passed : (l : List Check) {b : A} → first_failed l a ≡ taken b → AllPass l × (a ≡ b)
  all_passed [] e = (tt, taken_inj e)
  all_passed (c ∷ l) e = let t = passed c.0 (first_failed l a) c.1 c.2 e in let r = all_passed l t.1 in ((t.0, r.0), r.1)

  pub passed_all : (l : List Check) → AllPass l → first_failed l a ≡ taken a
  passed_all [] h = refl
  passed_all (c ∷ l) h = ap (λ t. choose t (first_failed l a) (refused c.1 c.2)) h.0 ∙ passed_all l h.1

  pub taken_exactly : (l : List Check) → (b : A) → (first_failed l a ≡ taken b) ↔ (AllPass l × (a ≡ b))
  taken_exactly l b = (all_passed l, λ h. passed_all l h.0 ∙ ap taken h.1)

  -- one more check in front
  first_step : (c : Check) (l : List Check) {n k : ℕ} (t : Bool) → c.0 ≡ t → (first_failed l a ≡ refused n k → FirstFails l n k)
      → choose t (first_failed l a) (refused c.1 c.2) ≡ refused n k → FirstFails (c ∷ l) n k
  first_step c l true q rest e = let r = rest e in
      record {
        before = c ∷ r.before;
        failed = r.failed;
        behind = r.behind;
        split = ap (◌∷◌ c) r.split;
        pass = (q, r.pass);
        fails = r.fails;
        number = r.number;
        place = r.place;
      }
  first_step c l {n} {k} false q rest e =
      let x : c.1 ≡ n = cc in
      let y : c.2 ≡ k = cc in
      record { before = []; failed = c; behind = l; split = refl; pass = tt; fails = q; number = x; place = y }

  pub first_fails : (l : List Check) {n k : ℕ} → first_failed l a ≡ refused n k → FirstFails l n k
  first_fails [] e = absurd (refused_taken (sym e))
  first_fails (c ∷ l) {n} {k} e = first_step c l c.0 refl (λ (h : first_failed l a ≡ refused n k). first_fails l h) e

  fails_at : (before : List Check) (c : Check) (behind : List Check) → AllPass before → c.0 ≡ false → first_failed (before ++ (c ∷ behind)) a ≡ refused c.1 c.2
  fails_at [] c behind h e = ap (λ t. choose t (first_failed behind a) (refused c.1 c.2)) e
  fails_at (d ∷ l) c behind h e = ap (λ t. choose t (first_failed (l ++ (c ∷ behind)) a) (refused d.1 d.2)) h.0 ∙ fails_at l c behind h.1 e

  fails_first : (l : List Check) {n k : ℕ} → FirstFails l n k → first_failed l a ≡ refused n k
  fails_first l h = sym (ap (λ x. first_failed x a) h.split) ∙ fails_at h.before h.failed h.behind h.pass h.fails ∙ ap₂ refused h.number h.place

  pub refused_exactly : (l : List Check) (n k : ℕ) → (first_failed l a ≡ refused n k) ↔ FirstFails l n k
  refused_exactly l n k = (first_fails l, fails_first l)

  pub refused_as : (Q : ℕ → ℕ → Type 0) (l : List Check) {n k : ℕ} → AllSay Q l → first_failed l a ≡ refused n k → Q n k
  refused_as Q [] h e = absurd (refused_taken (sym e))
  refused_as Q (c ∷ l) {n} {k} h e = said c l c.0 h.0 (λ (r : first_failed l a ≡ refused n k). refused_as Q l h.1 r) e
    where
      said : (c : Check) (l : List Check) (t : Bool) → Q c.1 c.2 → (first_failed l a ≡ refused n k → Q n k)
          → choose t (first_failed l a) (refused c.1 c.2) ≡ refused n k → Q n k
      said c l true q rest e = rest e
      said c l false q rest e =
          let x : c.1 ≡ n = cc in
          let y : c.2 ≡ k = cc in
          subst₂ Q x y q
