-- The counts of a multiple, by the digits of its scalar. Gives: the rule's counts are the digits and the nonzero digits, less 1 (`doublings_are`, `additions_are`); no digits, no nonzero ones, and the scalar
-- is 0 (`none`, `no_nonzeros`); else there is a nonzero one (`some-nonzero`).
use Prim.Native.Nat.{ℕ, suc, ◌-◌, ◌*◌, ◌^◌, ◌≤◌, ◌<◌}
use mathlib.Core.Path.{◌≡◌, sym, ap, ◌∙◌}
use mathlib.Core.List.{List, [], ◌∷◌}
use native.Mathlib.Omega.{arith}
use native.Mathlib.Nat.{pow-suc}
use lib.ListN.{length}
use Rattle.rules.specs.Signed.Digits.{Digit, minus, null, plus, Topped, nonzeros, recode}
use Rattle.rules.proofs.Signed.Recode.{recode_topped}
use Rattle.rules.proofs.Signed.Unique.{recode-zero}
use Rattle.rules.proofs.Signed.Length.{at_most}
use Rattle.rules.specs.Multiple.{doublings, additions}

pub doublings_are : (n l : ℕ) → l ≡ length (recode n) → doublings n ≡ l - 1
unfolding doublings
doublings_are n l e = ap (λ m. m - 1) (sym e)

pub additions_are : (n o : ℕ) → o ≡ nonzeros (recode n) → additions n ≡ o - 1
unfolding additions
additions_are n o e = ap (λ m. m - 1) (sym e)

-- ---- no digits
pub none : (n l : ℕ) → l ≡ length (recode n) → l ≡ 0 → n ≡ 0
none n l e z = let h : 3 * n < 2 ^ suc 0 = (at_most n 0).0 (omega arith) in omega (arith, pow-suc 2 0)

pub no_nonzeros : (n l o : ℕ) → l ≡ length (recode n) → l ≡ 0 → o ≡ nonzeros (recode n) → o ≡ 0
no_nonzeros n l o e z f = f ∙ ap nonzeros (ap recode (none n l e z) ∙ recode-zero)

-- ---- some
one_at_least : (l : List Digit) → Topped l → 0 < length l → 1 ≤ nonzeros l
one_at_least [] t h = absurd (omega arith)
one_at_least (minus ∷ l) t h = omega arith
one_at_least (null ∷ []) t h = absurd (t tt)
one_at_least (null ∷ e ∷ l) t h = one_at_least (e ∷ l) t (omega arith)
one_at_least (plus ∷ l) t h = omega arith

pub some-nonzero : (n l : ℕ) → l ≡ length (recode n) → 0 < l → 1 ≤ nonzeros (recode n)
some-nonzero n l e h = one_at_least (recode n) (recode_topped n) (omega arith)
