-- Document 01, "Numbers the tablet shows": checks in a row, each with the number and the place that it refuses with. The first that fails refuses; what
-- was read is taken where all pass. Reading one thing after another refuses as the first that is refused.
use Rattle.std.specs.Prelude.{ℕ, List, [], ◌∷◌, Bool}
-- (`choose` is the library's if)
pub use Rattle.std.specs.Prelude.{cond as choose}

-- a number other than 0 with its place, or what was read
pub data Checked (A : Type 0) : Type 0 where
  refused : ℕ → ℕ → Checked A
  taken : A → Checked A

-- a check: a test that must pass, the number given where it fails, and the place
abbrev pub Check : Type 0
Check = Bool × ℕ × ℕ

abbrev pub first_failed : {A : Type 0} → List Check → A → Checked A
first_failed [] a = taken a
first_failed (c ∷ l) a = choose c.0 (first_failed l a) (refused c.1 c.2)

-- on with what was read
abbrev pub go_on : {A B : Type 0} → Checked A → (A → Checked B) → Checked B
go_on x go = elim x [ refused n k ↦ refused n k | taken a ↦ go a ]
