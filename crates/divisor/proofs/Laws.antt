-- Divisors as pairs. Gives: the weight is the length of u and of v; held divisors that stand for one pair are one value; the neutral
-- divisor is held.
use Prim.Native.Nat.{ℕ, zero, suc, ◌≤◌}
use mathlib.Core.Path.{◌≡◌, refl, sym, ap, ap₂, ◌∙◌}
use mathlib.Core.List.{List, [], ◌∷◌}
use native.Mathlib.Omega.{arith}
use lib.ListN.{length, get_or}
use Rattle.algebra.proofs.Zmod.PrimeField.{modulo}
use Rattle.rules.specs.Pair.{Pair, neutral}
use Rattle.field.specs.declared.Modulus.{Modulus}
use Rattle.field.specs.declared.Residue.{Residue}
use Rattle.field.proofs.Laws.{settled_unique}
use Rattle.field.proofs.Raw.{plain}
use Rattle.divisor.specs.declared.Divisor.{Divisor}
use Rattle.divisor.specs.declared.Divisor.TheVariants.{Neutral, One, Two, Three}
use Rattle.divisor.specs.Divisors.{weight_of, us, vs, elements, pair, AllSettled, Held}

-- the k-th residue of a list, as code reads it
abbrev pub at : List Residue → ℕ → Residue
at l k = get_or l k (plain 0)

-- a divisor is its coefficients
make : ℕ → List Residue → List Residue → Divisor
make zero u v = Neutral
make (suc zero) u v = One (record { u0 = at u 0; v0 = at v 0 })
make (suc (suc zero)) u v = Two (record { u0 = at u 0; u1 = at u 1; v0 = at v 0; v1 = at v 1 })
make (suc (suc (suc n))) u v = Three (record { u0 = at u 0; u1 = at u 1; u2 = at u 2; v0 = at v 0; v1 = at v 1; v2 = at v 2 })

make_is : (d : Divisor) → make (length (us d)) (us d) (vs d) ≡ d
unfolding make
make_is Neutral = refl
make_is (One d) = refl
make_is (Two d) = refl
make_is (Three d) = refl

pub same_coefficients : (a b : Divisor) → us a ≡ us b → vs a ≡ vs b → a ≡ b
same_coefficients a b p q = sym (make_is a) ∙ ap₂ (λ (u v : List Residue). make (length u) u v) p q ∙ make_is b

pub weight_le : (d : Divisor) → weight_of d ≤ 3
weight_le Neutral = omega arith
weight_le (One d) = omega arith
weight_le (Two d) = omega arith
weight_le (Three d) = omega arith

pub length-us : (d : Divisor) → length (us d) ≡ weight_of d
length-us Neutral = refl
length-us (One d) = refl
length-us (Two d) = refl
length-us (Three d) = refl

pub length-vs : (d : Divisor) → length (vs d) ≡ weight_of d
length-vs Neutral = refl
length-vs (One d) = refl
length-vs (Two d) = refl
length-vs (Three d) = refl

module _ (m : Modulus) where
  pub length_elements : (l : List Residue) → length (elements m l) ≡ length l
  length_elements [] = refl
  length_elements (r ∷ l) = ap suc (length_elements l)

  -- the weight of the pair that d stands for
  pub weight_is : (d : Divisor) → length (pair m d).u ≡ weight_of d
  unfolding pair
  weight_is d = length_elements (us d) ∙ length-us d

  pub weight_is_v : (d : Divisor) → length (pair m d).v ≡ weight_of d
  unfolding pair
  weight_is_v d = length_elements (vs d) ∙ length-vs d

  elements_inj : (a b : List Residue) → AllSettled m a → AllSettled m b → elements m a ≡ elements m b → a ≡ b
  elements_inj [] [] h k e = refl
  elements_inj [] (y ∷ b) h k e = absurd (omega (arith, ap length e))
  elements_inj (x ∷ a) [] h k e = absurd (omega (arith, ap length e))
  elements_inj (x ∷ a) (y ∷ b) h k e = ap₂ ◌∷◌ (settled_unique m x y h.0 k.0 (cc)) (elements_inj a b h.1 k.1 (cc))

  -- held divisors that stand for one pair are one value
  pub pair_inj : (a b : Divisor) → Held m a → Held m b → pair m a ≡ pair m b → a ≡ b
  unfolding pair
  pair_inj a b h k e = same_coefficients a b
      (elements_inj (us a) (us b) h.u k.u (ap (λ (x : Pair (modulo m.p)). x.u) e))
      (elements_inj (vs a) (vs b) h.v k.v (ap (λ (x : Pair (modulo m.p)). x.v) e))

  pub neutral_held : Held m Neutral
  neutral_held = record { u = tt; v = tt }

  pub neutral_is : pair m Neutral ≡ neutral
  unfolding pair
  neutral_is = refl
