-- The non-adjacent form is unique. Gives: two strings with no two nonzero neighbours and no leading zero that weigh the same, with their signs,
-- are equal (`unique`); so what weighs n is `recode n` (`recode_unique`), and `recode n` is its definition's first digit and what that leaves
-- (`recode-step`).
use Prim.Native.Nat.{ℕ, zero, suc, ◌+◌, ◌*◌, ◌%◌, ◌≤◌, ◌<◌}
use mathlib.Core.Path.{◌≡◌, refl, sym, ap, ◌∙◌, subst}
use mathlib.Core.List.{List, [], ◌∷◌}
use native.Mathlib.Omega.{arith}
use lib.IntN.{pos}
use Rattle.rules.specs.Signed.Digits.{Digit, minus, null, plus, weight, NullFirst, Apart, Topped, of_four, less, recode_in, recode}
use Rattle.rules.proofs.Signed.Weights.{ups, downs, weighs-weight, same_weight}
use Rattle.rules.proofs.Signed.Recode.{Recodes, end, recodes_in, weighs, apart, topped, recode-weight, recode-apart, recode_topped}

topped_tail : (d : Digit) (l : List Digit) → Topped (d ∷ l) → Topped l
topped_tail d [] t = tt
topped_tail d (e ∷ l) t = t

-- after a 0 comes a digit
no_lone_null : (l : List Digit) → Topped (null ∷ l) → l ≡ [] → ⊥
no_lone_null l t e = subst (λ (x : List Digit). Topped (null ∷ x)) e t tt

-- what weighs 0 is empty
weightless : (l : List Digit) → Topped l → ups l ≡ downs l → l ≡ []
weightless [] t h = refl
weightless (minus ∷ l) t h = absurd (omega arith)
weightless (null ∷ l) t h = absurd (no_lone_null l t (weightless l (topped_tail null l t) (omega arith)))
weightless (plus ∷ l) t h = absurd (omega arith)

-- what begins with a 0 weighs an even number
record Even (l : List Digit) : Type 0 where
  u : ℕ
  d : ℕ
  u_is : ups l ≡ 2 * u
  d_is : downs l ≡ 2 * d

even : (l : List Digit) → NullFirst l → Even l
even [] h = record { u = 0; d = 0; u_is = refl; d_is = refl }
even (minus ∷ l) h = absurd h
even (null ∷ l) h = record { u = ups l; d = downs l; u_is = refl; d_is = refl }
even (plus ∷ l) h = absurd h

-- so two such don't weigh 1 more and less
not_one_more : (l m : List Digit) → Even l → Even m → ups l + downs m ≡ ups m + downs l + 1 → ⊥
not_one_more l m a b h = let e : 2 * (a.u + b.d) ≡ 2 * (b.u + a.d) + 1 = omega (arith, a.u_is, a.d_is, b.u_is, b.d_is) in omega (arith, e)

unique_by : (l m : List Digit) → Apart l → Topped l → Apart m → Topped m → ups l + downs m ≡ ups m + downs l → l ≡ m
unique_by [] m al tl am tm h = sym (weightless m tm (omega arith))
unique_by (d ∷ l) [] al tl am tm h = weightless (d ∷ l) tl (omega arith)
unique_by (minus ∷ l) (minus ∷ m) al tl am tm h = ap (λ (x : List Digit). minus ∷ x) (unique_by l m al.1 (topped_tail minus l tl) am.1 (topped_tail minus m tm) (omega arith))
unique_by (null ∷ l) (null ∷ m) al tl am tm h = ap (λ (x : List Digit). null ∷ x) (unique_by l m al (topped_tail null l tl) am (topped_tail null m tm) (omega arith))
unique_by (plus ∷ l) (plus ∷ m) al tl am tm h = ap (λ (x : List Digit). plus ∷ x) (unique_by l m al.1 (topped_tail plus l tl) am.1 (topped_tail plus m tm) (omega arith))
-- by parity
unique_by (minus ∷ l) (null ∷ m) al tl am tm h = absurd (omega arith)
unique_by (null ∷ l) (minus ∷ m) al tl am tm h = absurd (omega arith)
unique_by (null ∷ l) (plus ∷ m) al tl am tm h = absurd (omega arith)
unique_by (plus ∷ l) (null ∷ m) al tl am tm h = absurd (omega arith)
-- modulo 4
unique_by (minus ∷ l) (plus ∷ m) al tl am tm h = absurd (not_one_more l m (even l al.0) (even m am.0) (omega arith))
unique_by (plus ∷ l) (minus ∷ m) al tl am tm h = absurd (not_one_more m l (even m am.0) (even l al.0) (omega arith))

pub unique : (l m : List Digit) → Apart l → Topped l → Apart m → Topped m → weight l ≡ weight m → l ≡ m
unique l m al tl am tm h = unique_by l m al tl am tm (same_weight l m h)

pub recode_unique : (n : ℕ) (l : List Digit) → Apart l → Topped l → weight l ≡ pos n → l ≡ recode n
recode_unique n l a t w = unique l (recode n) a t (recode-apart n) (recode_topped n) (w ∙ sym (recode-weight n))

-- ---- so the digits come one at a time, whatever the bound was
recodes_unique : {n : ℕ} {l : List Digit} → Recodes n l → l ≡ recode n
recodes_unique {n} {l} r = recode_unique n l (apart r) (topped r) (weighs-weight l n (weighs r))

pub recode-zero : recode 0 ≡ []
recode-zero = sym (recodes_unique end)

falls : (n r : ℕ) → suc n % 4 ≡ r → less (of_four r) (suc n) ≤ n
falls n zero e = omega arith
falls n (suc zero) e = omega arith
falls n (suc (suc zero)) e = omega arith
falls n (suc (suc (suc r))) e = omega arith

pub recode-step : (n : ℕ) → 0 < n → recode n ≡ of_four (n % 4) ∷ recode (less (of_four (n % 4)) n)
unfolding recode_in recode
recode-step zero some = absurd (omega arith)
recode-step (suc n) some = let d = of_four (suc n % 4) in ap (λ (x : List Digit). d ∷ x) (recodes_unique (recodes_in n (less d (suc n)) (falls n (suc n % 4) refl)))
