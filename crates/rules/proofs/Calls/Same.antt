-- Which meters are the same: those whose divisors are equal or opposite. Gives: each is the same as itself, and `Same` goes both ways and on
-- (`same_refl`, `same_sym`, `same_trans`); where a divisor is its own opposite, as the neutral one and any with v = 0 are, the same is the equal
-- (`own_same`); and the rule's test decides it (`same_decides`).
use Prim.Native.Nat.{ℕ, zero, suc}
use mathlib.Core.Path.{◌≡◌, refl, sym, ap, ap₂, ◌∙◌}
use mathlib.Core.List.{List, [], ◌∷◌}
use mathlib.Core.Bool.{Bool, true, false, false≢true}
use mathlib.Core.Logic.{◌↔◌, ◌⊎◌, inl, inr}
use Rattle.algebra.proofs.Ring.CRing.{neg_neg, neg_zer}
use Rattle.algebra.proofs.Ring.Field.{Arith}
use Rattle.algebra.proofs.Zmod.Zmod.{zmod, zmod_dec}
use Rattle.algebra.proofs.Zmod.PrimeField.{modulo}
use Rattle.algebra.proofs.List.Ops.{neg_l}
use Rattle.rules.specs.Pair.{Pair, neutral, opposite}
use Rattle.rules.specs.Records.{either}
use Rattle.rules.specs.Lists.{Same, is_same_list, is_equal, is_same}
use Rattle.rules.proofs.Calls.Tests.{both_true, true_both, either_true}

module _ (K : Arith) where
  abbrev E : Type 0
  E = K.base.El

  abbrev paired : List E → List E → Pair K
  paired u v = record { u = u; v = v }

  neg_twice : (l : List E) → neg_l K.base (neg_l K.base l) ≡ l
  unfolding neg_l
  neg_twice [] = refl
  neg_twice (x ∷ l) = ap₂ ◌∷◌ (neg_neg K.base x) (neg_twice l)

  pub opposite_twice : (a : Pair K) → opposite (opposite a) ≡ a
  unfolding opposite
  opposite_twice a = ap (paired a.u) (neg_twice a.v)

  pub same_refl : (a : Pair K) → Same a a
  same_refl a = inl refl

  pub same_sym : (a b : Pair K) → Same a b → Same b a
  same_sym a b (inl e) = inl (sym e)
  same_sym a b (inr e) = inr (sym (opposite_twice b) ∙ ap opposite (sym e))

  pub same_trans : (a b c : Pair K) → Same a b → Same b c → Same a c
  same_trans a b c (inl e) (inl h) = inl (e ∙ h)
  same_trans a b c (inl e) (inr h) = inr (e ∙ h)
  same_trans a b c (inr e) (inl h) = inr (e ∙ ap opposite h)
  same_trans a b c (inr e) (inr h) = inl (e ∙ ap opposite h ∙ opposite_twice c)

  -- ---- divisors that are their own opposites
  pub own_same : (a b : Pair K) → opposite b ≡ b → Same a b ↔ (a ≡ b)
  own_same a b own = (to, λ e. inl e)
    where
      to : Same a b → a ≡ b
      to (inl e) = e
      to (inr e) = e ∙ own

  pub neutral_own : opposite {K = K} neutral ≡ neutral
  unfolding opposite neg_l
  neutral_own = refl

  abbrev pub zeros : ℕ → List E
  zeros zero = []
  zeros (suc n) = K.base.zer ∷ zeros n

  pub neg_zeros : (n : ℕ) → neg_l K.base (zeros n) ≡ zeros n
  unfolding neg_l
  neg_zeros zero = refl
  neg_zeros (suc n) = ap₂ ◌∷◌ (neg_zer K.base) (neg_zeros n)

  -- v = 0
  pub zero_own : (u : List E) (n : ℕ) → opposite (paired u (zeros n)) ≡ paired u (zeros n)
  unfolding opposite
  zero_own u n = ap (paired u) (neg_zeros n)

-- ---- the rule's test
either_left : {a : Bool} (b : Bool) → a ≡ true → either a b ≡ true
either_left b e = rw e

either_right : (a : Bool) {b : Bool} → b ≡ true → either a b ≡ true
either_right true e = refl
either_right false e = e

module _ (p : ℕ) where
  abbrev A : Type 0
  A = (zmod p).El

  same_list_true : (l m : List A) → is_same_list p l m ≡ true → l ≡ m
  unfolding is_same_list
  same_list_true [] [] e = refl
  same_list_true [] (y ∷ m) e = absurd (false≢true e)
  same_list_true (x ∷ l) [] e = absurd (false≢true e)
  same_list_true (x ∷ l) (y ∷ m) e = go (zmod_dec p x y) e (same_list_true l m)
    where
      go : (d : Dec (x ≡ y)) → elim d [ yes e ↦ is_same_list p l m | no n ↦ false ] ≡ true → (is_same_list p l m ≡ true → l ≡ m) → x ∷ l ≡ y ∷ m
      go (yes e) h rec = ap₂ ◌∷◌ e (rec h)
      go (no n) h rec = absurd (false≢true h)

  same_list_refl : (l : List A) → is_same_list p l l ≡ true
  unfolding is_same_list
  same_list_refl [] = refl
  same_list_refl (x ∷ l) = go (zmod_dec p x x) (same_list_refl l)
    where
      go : (d : Dec (x ≡ x)) → is_same_list p l l ≡ true → elim d [ yes e ↦ is_same_list p l l | no n ↦ false ] ≡ true
      go (yes e) h = h
      go (no n) h = absurd (n refl)

  pub equal_decides : (a b : Pair (modulo p)) → (is_equal p a b ≡ true) ↔ (a ≡ b)
  equal_decides a b = (λ e. to (both_true _ _ e), λ e. ap (is_equal p a) (sym e) ∙ true_both (same_list_refl a.u) (same_list_refl a.v))
    where
      to : (is_same_list p a.u b.u ≡ true) × (is_same_list p a.v b.v ≡ true) → a ≡ b
      to h = ap₂ (paired (modulo p)) (same_list_true a.u b.u h.0) (same_list_true a.v b.v h.1)

  pub same_decides : (a b : Pair (modulo p)) → (is_same p a b ≡ true) ↔ Same a b
  unfolding is_same
  same_decides a b = (λ e. to (either_true _ _ e), from)
    where
      to : (is_equal p a b ≡ true) ⊎ (is_equal p a (opposite b) ≡ true) → Same a b
      to (inl e) = inl ((equal_decides a b).0 e)
      to (inr e) = inr ((equal_decides a (opposite b)).0 e)

      from : Same a b → either (is_equal p a b) (is_equal p a (opposite b)) ≡ true
      from (inl e) = either_left _ ((equal_decides a b).1 e)
      from (inr e) = either_right (is_equal p a b) ((equal_decides a (opposite b)).1 e)
