-- Left-to-right double-and-add over signed digits. Gives: `signed_run`, over a string, with the doublings and the additions it makes (a subtraction, the sum with the opposite, is one of these); that it
-- yields the multiple by what the string weighs (`signed_run_is`), so over `recode n` the n-fold (`signed_run_recode`), and a digit more the multiple with that digit more (`one_more`); and that over a
-- string with no leading zero the doublings are the digits less 1 and the additions the nonzero digits less 1, both 0 for no digits. The method takes any operations, the law an abelian group.
-- Open: the method.
use Prim.Native.Nat.{ℕ, suc, ◌-◌}
use mathlib.Core.Path.{◌≡◌, refl, sym, ap, ◌∙◌}
use mathlib.Core.List.{List, [], ◌∷◌}
use native.Mathlib.Omega.{arith}
use lib.ListN.{length}
use lib.IntN.{ℤ, ◌+ℤ◌, +ℤ_idl, +ℤ_comm}
use Rattle.algebra.proofs.Group.Group.{AbGroup}
use Rattle.algebra.proofs.Group.Multiple.{nfold}
use Rattle.algebra.proofs.Group.Whole.{whole, whole_more, whole_less, whole_add}
use Rattle.rules.specs.Signed.Digits.{Digit, minus, null, plus, value, weight, Topped, nonzeros, recode}
use Rattle.rules.proofs.Signed.Recode.{recode-weight}

-- ---- the method
pub record Run (A : Type 0) : Type 0 where
  pub result : A
  pub doublings : ℕ
  pub additions : ℕ

abbrev counted : Digit → ℕ → ℕ
counted minus n = suc n
counted null n = n
counted plus n = suc n

module _ {A : Type 0} (sum : A → A → A) (double opposite : A → A) (zer a : A) where
  -- a or its opposite added, or nothing
  abbrev pub with_digit : Digit → A → A
  with_digit minus x = sum x (opposite a)
  with_digit null x = x
  with_digit plus x = sum x a

  -- the highest digit costs nothing
  abbrev highest : Digit → A
  highest minus = opposite a
  highest null = zer
  highest plus = a

  -- each lower one doubles first (the lowest digit stands first, so it comes last)
  abbrev pub signed_run : List Digit → Run A
  signed_run [] = record { result = zer; doublings = 0; additions = 0 }
  signed_run (d ∷ []) = record { result = highest d; doublings = 0; additions = 0 }
  signed_run (d ∷ e ∷ l) = let r = signed_run (e ∷ l) in record { result = with_digit d (double r.result); doublings = suc r.doublings; additions = counted d r.additions }

  -- ---- its counts
  doublings_from : (d : Digit) (l : List Digit) → (signed_run (d ∷ l)).doublings ≡ length l
  doublings_from d [] = refl
  doublings_from d (e ∷ l) = ap suc (doublings_from e l)

  additions_from : (d : Digit) (l : List Digit) → Topped (d ∷ l) → suc (signed_run (d ∷ l)).additions ≡ nonzeros (d ∷ l)
  additions_from minus [] t = refl
  additions_from null [] t = absurd (t tt)
  additions_from plus [] t = refl
  additions_from minus (e ∷ l) t = ap suc (additions_from e l t)
  additions_from null (e ∷ l) t = additions_from e l t
  additions_from plus (e ∷ l) t = ap suc (additions_from e l t)

  pub signed_doublings : (l : List Digit) → (signed_run l).doublings ≡ length l - 1
  signed_doublings [] = refl
  signed_doublings (d ∷ l) = omega (arith, doublings_from d l)

  pub signed_additions : (l : List Digit) → Topped l → (signed_run l).additions ≡ nonzeros l - 1
  signed_additions [] t = refl
  signed_additions (d ∷ l) t = omega (arith, additions_from d l t)

-- ---- a map that keeps the operations keeps the run
module _ {A B : Type 0} (f : A → B) (sum : A → A → A) (double opposite : A → A) (zer : A) (sum' : B → B → B) (double' opposite' : B → B) (zer' : B)
    (keeps-sum : (x y : A) → f (sum x y) ≡ sum' (f x) (f y)) (keeps-double : (x : A) → f (double x) ≡ double' (f x))
    (keeps-opposite : (x : A) → f (opposite x) ≡ opposite' (f x)) (keeps-zer : f zer ≡ zer') (a : A) where
  digit_map : (d : Digit) (x : A) → f (with_digit sum double opposite zer a d x) ≡ with_digit sum' double' opposite' zer' (f a) d (f x)
  digit_map minus x = keeps-sum x (opposite a) ∙ ap (sum' (f x)) (keeps-opposite a)
  digit_map null x = refl
  digit_map plus x = keeps-sum x a

  pub signed_run_map : (l : List Digit) → f (signed_run sum double opposite zer a l).result ≡ (signed_run sum' double' opposite' zer' (f a) l).result
  signed_run_map [] = keeps-zer
  signed_run_map (minus ∷ []) = keeps-opposite a
  signed_run_map (null ∷ []) = keeps-zer
  signed_run_map (plus ∷ []) = refl
  signed_run_map (d ∷ e ∷ l) = digit_map d _ ∙ ap (with_digit sum' double' opposite' zer' (f a) d) (keeps-double _ ∙ ap double' (signed_run_map (e ∷ l)))

-- ---- it yields the multiple
module _ (G : AbGroup) (a : G.El) where
  open G use {El as A, sum as ◌⊕◌, zer as 𝟘, opp, zer_sum}

  infixl 65 ◌⊕◌
  abbrev twice : A → A
  twice x = x ⊕ x

  pub one_more : (d : Digit) (k : ℤ) → with_digit ◌⊕◌ twice opp 𝟘 a d (twice (whole G k a)) ≡ whole G (value d +ℤ (k +ℤ k)) a
  one_more minus k = ap (λ t. t ⊕ opp a) (sym (whole_add G k k a)) ∙ sym (whole_less G (k +ℤ k) a) ∙ ap (λ (i : ℤ). whole G i a) (+ℤ_comm (k +ℤ k) (value minus))
  one_more null k = sym (whole_add G k k a) ∙ ap (λ (i : ℤ). whole G i a) (sym (+ℤ_idl (k +ℤ k)))
  one_more plus k = ap (λ t. t ⊕ a) (sym (whole_add G k k a)) ∙ sym (whole_more G (k +ℤ k) a) ∙ ap (λ (i : ℤ). whole G i a) (+ℤ_comm (k +ℤ k) (value plus))

  pub signed_run_is : (l : List Digit) → (signed_run ◌⊕◌ twice opp 𝟘 a l).result ≡ whole G (weight l) a
  signed_run_is [] = refl
  signed_run_is (minus ∷ []) = ap opp (sym (zer_sum a))
  signed_run_is (null ∷ []) = refl
  signed_run_is (plus ∷ []) = sym (zer_sum a)
  signed_run_is (d ∷ e ∷ l) = ap (λ t. with_digit ◌⊕◌ twice opp 𝟘 a d (twice t)) (signed_run_is (e ∷ l)) ∙ one_more d (weight (e ∷ l))

  pub signed_run_recode : (n : ℕ) → (signed_run ◌⊕◌ twice opp 𝟘 a (recode n)).result ≡ nfold G n a
  signed_run_recode n = signed_run_is (recode n) ∙ ap (λ (k : ℤ). whole G k a) (recode-weight n)
