-- Powers modulo p, tested; and what is accepted is prime (`witnessed-prime`).
use Prim.Native.Nat.{ℕ, zero, suc, ◌-◌, ◌<◌}
use mathlib.Core.Path.{◌≡◌, sym, ap₂, ◌∙◌, subst}
use mathlib.Core.Bool.{Bool, true, false, ◌&&◌, and-eq-true_iff, true≢false}
use mathlib.Core.List.{List, [], ◌∷◌}
use native.Mathlib.Omega.{arith}
use lib.Dec.{ltb}
use lib.ListN.{drop}
use borrow.Author.Tests.{lt-ltb}
use Rattle.algebra.proofs.Ring.Power.{power, has_power_one, power_one}
use Rattle.algebra.proofs.Zmod.Zmod.{zmod, emb}
use Rattle.algebra.proofs.Zmod.Prime.{Prime}
use Rattle.algebra.proofs.Zmod.PrimeField.{modulo}
use Rattle.field.specs.declared.Modulus.{Modulus}
use Rattle.field.specs.declared.Residue.{Residue}
use Rattle.field.specs.Residues.{el, Stands}
use Rattle.field.proofs.Decide.{otherwise}
use Rattle.field.specs.Constants.{Odd}
use Rattle.field.specs.Primes.{Decides}
use Rattle.rules.specs.Orders.Tests.{is_made_of, is_none_below, is_order, is_lucas}
use Rattle.rules.proofs.Orders.Lucas.{lucas_by_test}
use Rattle.field_witness.specs.Witness.{AllSome, MadeOf, Witnessed}

pub witnessed-prime : (p a : ℕ) (l : List ℕ) → Odd p → Witnessed p a l → Prime p
witnessed-prime p a l h w = lucas_by_test p (omega (arith, h.from)) a l w.is

-- a power as a residue, and whether it is 1
module _ (m : Modulus) (a : Residue) (n : ℕ) (r : Residue) (h : Stands m r (power (zmod m.p) (el m a) n)) where
  pub one_yes : el m r ≡ (zmod m.p).one → has_power_one (modulo m.p) (el m a) n ≡ true
  one_yes e = (power_one (modulo m.p) (el m a) n).1 (sym h.is ∙ e)

  pub one_no : (el m r ≡ (zmod m.p).one → ⊥) → has_power_one (modulo m.p) (el m a) n ≡ false
  one_no ne = otherwise (has_power_one (modulo m.p) (el m a) n) (λ e. ne (h.is ∙ (power_one (modulo m.p) (el m a) n).0 e))

-- each of a list above 0, by its place
pub some_at : (l : List ℕ) (i : ℕ) (x : ℕ) (r : List ℕ) → AllSome l → drop i l ≡ x ∷ r → 0 < x
some_at l i x r h e = first (drop i l) (dropped l i h) e
  where
    dropped : (l : List ℕ) (i : ℕ) → AllSome l → AllSome (drop i l)
    dropped l zero h = h
    dropped [] (suc i) h = tt
    dropped (y ∷ l) (suc i) h = dropped l i h.1

    first : (d : List ℕ) → AllSome d → d ≡ x ∷ r → 0 < x
    first d h e = (subst AllSome e h).0

-- ---- the whole test
module _ (t : ℕ → Bool) (n : ℕ) (l : List ℕ) where
  pub record Parts : Type 0 where
    pub made : is_made_of 0 n l ≡ true
    pub here : t n ≡ true

  pub parts : is_order t n l ≡ true → Parts
  unfolding is_order
  parts e =
      let u = (and-eq-true_iff (ltb 0 n && is_made_of 0 n l && t n) (is_none_below t n l)).0 e in
      let v = (and-eq-true_iff (ltb 0 n && is_made_of 0 n l) (t n)).0 u.0 in
      record { made = ((and-eq-true_iff (ltb 0 n) (is_made_of 0 n l)).0 v.0).1; here = v.1 }

  pub comes_to : 0 < n → is_made_of 0 n l ≡ true → t n ≡ true → is_order t n l ≡ is_none_below t n l
  unfolding is_order
  comes_to pos made one = rw (lt-ltb 0 n pos, made, one)

pub not_made : (p a : ℕ) (l : List ℕ) → (MadeOf (p - 1) l → ⊥) → Witnessed p a l → ⊥
unfolding is_lucas
not_made p a l h w = h (record { is = (parts (has_power_one (modulo p) (emb p a)) (p - 1) l w.is).made; small = w.small })

module _ (m : Modulus) (a n : ℕ) (l : List ℕ) (x : Residue) (below : a < m.p) (hx : el m x ≡ emb m.p a) (n_is : n ≡ m.p - 1) where
  abbrev t : ℕ → Bool
  t = has_power_one (modulo m.p) (el m x)

  as_order : is_lucas m.p a l ≡ is_order t n l
  unfolding is_lucas
  as_order = ap₂ (λ (y : (zmod m.p).El) (k : ℕ). is_order (has_power_one (modulo m.p) y) k l) (sym hx) (sym n_is)

  pub not_one : t n ≡ false → Witnessed m.p a l → ⊥
  not_one e w = true≢false (sym (parts t n l (sym as_order ∙ w.is)).here ∙ e)

  pub decided : 0 < n → MadeOf n l → t n ≡ true → (b : Bool) → b ≡ is_none_below t n l → Decides b (Witnessed m.p a l)
  decided pos made one true e = record { below = below; is = as_order ∙ comes_to t n l pos made.is one ∙ sym e; small = made.small }
  decided pos made one false e = λ w. true≢false (sym w.is ∙ as_order ∙ comes_to t n l pos made.is one ∙ sym e)
