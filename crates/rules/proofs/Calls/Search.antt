-- The least and the largest number below n that passes a test: what is found (`least_view`, `largest_view`).
use Prim.Native.Nat.{ℕ, zero, suc, ◌<◌}
use mathlib.Core.Path.{◌≡◌, refl, ap, ◌∙◌}
use mathlib.Core.Bool.{Bool, true, false}
use mathlib.Core.Logic.{◌⊎◌, inl, inr}
use native.Mathlib.Decide.{ℕ_discrete}
use native.Mathlib.Omega.{arith}
use Rattle.rules.specs.Checks.{Checked, refused, taken, choose}
use Rattle.rules.specs.Split.{least, largest}

module _ (t : ℕ → Bool) where
  pub record Least (n k : ℕ) : Type 0 where
    pub below : k < n
    pub holds : t k ≡ true
    pub before : (j : ℕ) → j < k → t j ≡ false

  pub record Largest (n k : ℕ) : Type 0 where
    pub below : k < n
    pub holds : t k ≡ true
    pub after : (j : ℕ) → k < j → j < n → t j ≡ false

  abbrev pub NoneBelow : ℕ → Type 0
  NoneBelow n = (j : ℕ) → j < n → t j ≡ false

  more : (n : ℕ) → NoneBelow n → t n ≡ false → NoneBelow (suc n)
  more n h e j l = go (ℕ_discrete j n)
    where
      go : Dec (j ≡ n) → t j ≡ false
      go (yes s) = ap t s ∙ e
      go (no s) = h j (omega arith)

  abbrev LeastView : ℕ → Type 0
  LeastView n = ((k : ℕ) × (Least n k × (least t n ≡ taken k))) ⊎ (NoneBelow n × (least t n ≡ refused 26 0))

  pub least_view : (n : ℕ) → LeastView n
  unfolding least
  least_view zero = inr (λ j l. absurd (omega arith), refl)
  least_view (suc n) = go (least_view n) (t n) refl
    where
      step : Checked ℕ → Bool → Checked ℕ
      step x b = elim x [ refused i k ↦ choose b (taken n) (refused 26 0) | taken k ↦ taken k ]

      go : LeastView n → (b : Bool) → t n ≡ b → LeastView (suc n)
      go (inl (k, (h, e))) b eb = inl (k, (record { below = omega (arith, h.below); holds = h.holds; before = h.before }, ap (λ x. elim x [ refused i k ↦ choose (t n) (taken n) (refused 26 0) | taken k ↦ taken k ]) e))
      go (inr (h, e)) true eb = inl (n, (record { below = omega arith; holds = eb; before = h }, ap (λ x. elim x [ refused i k ↦ choose (t n) (taken n) (refused 26 0) | taken k ↦ taken k ]) e ∙ ap (λ (b : Bool). choose b (taken n) (refused 26 0)) eb))
      go (inr (h, e)) false eb = inr (more n h eb, ap (λ x. elim x [ refused i k ↦ choose (t n) (taken n) (refused 26 0) | taken k ↦ taken k ]) e ∙ ap (λ (b : Bool). choose b (taken n) (refused 26 0)) eb)

  abbrev LargestView : ℕ → Type 0
  LargestView n = ((k : ℕ) × (Largest n k × (largest t n ≡ taken k))) ⊎ (NoneBelow n × (largest t n ≡ refused 26 0))

  pub largest_view : (n : ℕ) → LargestView n
  unfolding largest
  largest_view zero = inr (λ j l. absurd (omega arith), refl)
  largest_view (suc n) = go (largest_view n) (t n) refl
    where
      go : LargestView n → (b : Bool) → t n ≡ b → LargestView (suc n)
      go v true eb = inl (n, (record { below = omega arith; holds = eb; after = λ j l h. absurd (omega arith) }, ap (λ (b : Bool). choose b (taken n) (largest t n)) eb))
      go (inl (k, (h, e))) false eb = inl (k, (record { below = omega (arith, h.below); holds = h.holds; after = λ j l i. next j l i (ℕ_discrete j n) }, ap (λ (b : Bool). choose b (taken n) (largest t n)) eb ∙ e))
        where
          next : (j : ℕ) → k < j → j < suc n → Dec (j ≡ n) → t j ≡ false
          next j l i (yes s) = ap t s ∙ eb
          next j l i (no s) = h.after j l (omega arith)
      go (inr (h, e)) false eb = inr (more n h eb, ap (λ (b : Bool). choose b (taken n) (largest t n)) eb ∙ e)
