-- The wheel of thirty. Of the numbers d + o with o below 30, where d is 7 more than a multiple of 30, all but eight are multiples of 2, 3 or 5:
-- one computed test of the thirty places. A multiple of 2, 3 or 5 that divides p would make p one too; so where the eight do not divide p, none
-- of the thirty does.
use Prim.Native.Nat.{ℕ, zero, suc, ◌+◌, ◌-◌, ◌*◌, ◌/◌, ◌%◌, ◌<◌}
use mathlib.Core.Path.{◌≡◌, refl, sym, ap, ◌∙◌, subst}
use mathlib.Core.Bool.{Bool, true, false}
use mathlib.Core.List.{List, [], ◌∷◌}
use native.Mathlib.Omega.{arith}
use native.Mathlib.Decide.{ℕ_discrete}
use native.Mathlib.Nat.{div-add-mod, mul_assoc, mul-mod_right, add-mul-mod_self_left, add-zero}
use lib.Dec.{T, eqb, eqb→eq}
use Rattle.field_primes.specs.Wheel.{Left, DividedFrom}

-- a multiple of c divides p only where c does
pub multiple : (p c k : ℕ) → (p % c ≡ 0 → ⊥) → p % k ≡ 0 → k % c ≡ 0 → ⊥
multiple p c k n z e = n (ap (λ (i : ℕ). i % c) (sym whole) ∙ mul-mod_right c (k / c * (p / k)))
  where
    part : c * (k / c) ≡ k
    part = omega (arith, div-add-mod k c)

    whole : c * (k / c * (p / k)) ≡ p
    whole = sym (mul_assoc c (k / c) (p / k)) ∙ ap (λ (i : ℕ). i * (p / k)) part ∙ omega (arith, div-add-mod p k)

-- ---- the computed test
-- a pair of the list is of one number twice
abbrev some : List (ℕ × ℕ) → Bool
some [] = false
some (x ∷ xs) = elim (eqb x.0 x.1) [ true ↦ true | false ↦ some xs ]

abbrev Fail : List (ℕ × ℕ) → Type 0
Fail [] = Unit {0}
Fail (x ∷ xs) = (x.0 ≡ x.1 → ⊥) × Fail xs

not_some : (xs : List (ℕ × ℕ)) → T (some xs) → Fail xs → ⊥
not_some [] t f = t
not_some (x ∷ xs) t f = go (eqb x.0 x.1) t (λ (u : T (eqb x.0 x.1)). f.0 (eqb→eq x.0 x.1 u)) (λ u. not_some xs u f.1)
  where
    go : (b : Bool) → T (elim b [ true ↦ true | false ↦ some xs ]) → (T b → ⊥) → (T (some xs) → ⊥) → ⊥
    go true u n rec = n tt
    go false u n rec = rec u

-- 7 + o is a multiple of 2, 3 or 5, or o is one of the eight places that are tried
abbrev tests : ℕ → List (ℕ × ℕ)
tests o =
    ((7 + o) % 2, 0) ∷ ((7 + o) % 3, 0) ∷ ((7 + o) % 5, 0) ∷ (o, 0) ∷ (o, 4) ∷ (o, 6) ∷ (o, 10) ∷ (o, 12) ∷ (o, 16) ∷ (o, 22) ∷ (o, 24) ∷ []

abbrev known : ℕ → Bool
known o = some (tests o)

abbrev all_known : ℕ → Bool
all_known zero = true
all_known (suc n) = elim (known n) [ true ↦ all_known n | false ↦ false ]

known_below : (n : ℕ) → T (all_known n) → (o : ℕ) → o < n → T (known o)
known_below zero t o h = absurd (omega arith)
known_below (suc n) t o h = go (known n) refl t (ℕ_discrete o n) (λ u l. known_below n u o l)
  where
    go : (x : Bool) → known n ≡ x → T (elim x [ true ↦ all_known n | false ↦ false ]) → Dec (o ≡ n) → (T (all_known n) → o < n → T (known o)) → T (known o)
    go true e u (yes q) rec = subst T (sym (ap known q ∙ e)) tt
    go true e u (no q) rec = rec u (omega arith)
    go false e u d rec = absurd u

-- d + o and 7 + o leave the same rest by a divisor c of 30
same_rest : (c e d o : ℕ) → c * e ≡ 30 → d % 30 ≡ 7 → (d + o) % c ≡ (7 + o) % c
same_rest c e d o h t = ap (λ (n : ℕ). n % c) (whole ∙ ap (λ (n : ℕ). 7 + o + n) (ap (λ (n : ℕ). n * (d / 30)) (sym h) ∙ mul_assoc c e (d / 30))) ∙ add-mul-mod_self_left (7 + o) c (e * (d / 30))
  where
    whole : d + o ≡ 7 + o + 30 * (d / 30)
    whole = omega (arith, div-add-mod d 30)

-- p is no multiple of d + i
abbrev pub Misses : ℕ → ℕ → ℕ → Type 0
Misses p d i = p % (d + i) ≡ 0 → ⊥

module _ {p d : ℕ} (l : Left p d) where
  -- where d + o divides p, 7 + o is no multiple of c
  prime_to : (c e o : ℕ) → c * e ≡ 30 → (p % c ≡ 0 → ⊥) → p % (d + o) ≡ 0 → (7 + o) % c ≡ 0 → ⊥
  prime_to c e o h n z m = multiple p c (d + o) n z (same_rest c e d o h l.turn ∙ m)

  none_of : Misses p d 0 → Misses p d 4 → Misses p d 6 → Misses p d 10 → Misses p d 12 → Misses p d 16 → Misses p d 22 → Misses p d 24
      → (o : ℕ) → T (known o) → p % (d + o) ≡ 0 → ⊥
  none_of m0 m4 m6 m10 m12 m16 m22 m24 o k z =
      not_some (tests o) k (
        prime_to 2 15 o refl l.odd z,
        (prime_to 3 10 o refl l.threes z, (prime_to 5 6 o refl l.fives z, (not 0 m0, (not 4 m4, (not 6 m6, (not 10 m10, (not 12 m12, (not 16 m16, (not 22 m22, (not 24 m24, tt)))))))))),
      )
    where
      not : (i : ℕ) → Misses p d i → o ≡ i → ⊥
      not i m e = m (subst (λ (n : ℕ). p % (d + n) ≡ 0) e z)

  pub missed : (p % d ≡ 0 → ⊥) → Misses p d 4 → Misses p d 6 → Misses p d 10 → Misses p d 12 → Misses p d 16 → Misses p d 22 → Misses p d 24
      → DividedFrom p d → ⊥
  missed m0 m4 m6 m10 m12 m16 m22 m24 f =
      none_of (rw add-zero m0) m4 m6 m10 m12 m16 m22 m24 (f.by - d) (known_below 30 tt (f.by - d) (omega (arith, f.before, f.from)))
      (subst (λ (n : ℕ). p % n ≡ 0) {x = f.by} {y = d + (f.by - d)} (omega (arith, f.from)) f.whole)

pub hit : (p d o : ℕ) → o < 30 → p % (d + o) ≡ 0 → DividedFrom p d
hit p d o h z = record { by = d + o; from = omega arith; before = omega arith; whole = z }

pub hit_first : (p d : ℕ) → p % d ≡ 0 → DividedFrom p d
hit_first p d z = record { by = d; from = omega arith; before = omega arith; whole = z }
