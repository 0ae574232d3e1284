-- Demand 3, as it is asked: the laws of the rules of specs/, over every genus at once. Supposed are only an odd prime p, f monic of degree 2g + 1
-- that shares no factor of degree 1 or more with its derivative, and operands that are valid as the rule says. `Demand3 E`
-- lists the laws; `demand3` shows them modulo an odd prime; `over_a_field`, one level below, over any field with
-- 1 + 1 ≠ 0; `curve_A` and `curve_B` are the two curves of "Street corners".
use Prim.Native.Nat.{ℕ, suc, ◌+◌, ◌*◌, ◌-◌, ◌/◌, ◌≤◌, ◌<◌}
use mathlib.Core.Path.{◌≡◌, refl, ◌∙◌}
use mathlib.Core.List.{List, [], ◌∷◌, map, flatten, Perm}
use mathlib.Core.Bool.{true}
use mathlib.Core.Logic.{◌≢◌, ◌↔◌}
use mathlib.Mathlib.Algebra.Group.Defs.{IsAddCommGroup}
use native.Mathlib.Omega.{arith}
use lib.ListN.{length}
use Rattle.algebra.proofs.Ring.Field.{Field}
use Rattle.algebra.proofs.Ring.Divides.{Divides}
use Rattle.algebra.proofs.Zmod.Zmod.{zmod, emb, zmod_dec}
use Rattle.algebra.proofs.Zmod.Prime.{Prime, is_prime, prime_by_test}
use Rattle.algebra.proofs.Zmod.PrimeField.{inv, prime_field}
use Rattle.algebra.proofs.Group.Group.{sum_zer}
use Rattle.rules.specs.Signed.Digits.{recode}
use Rattle.rules.proofs.Signed.Signed.{signed_run}
use Rattle.rules.specs.Curve.{Curve, Kx, SquareFree}
use Rattle.rules.specs.Pair.{Pair, u_of, f_minus_v², Valid, neutral, opposite}
use Rattle.rules.specs.Sum.{composition, sum, double}
use Rattle.rules.specs.Multiple.{multiple, total, doublings, additions}
use Rattle.rules.specs.Tests.{is_on_curve, is_square_free}
use Rattle.rules.proofs.Cantor.Accepted.{Accepted, over, accepted_over, mod_p, accepted_mod_p}
use Rattle.rules.proofs.Cantor.SquareFree.{square_free_decides}
use Rattle.rules.proofs.Cantor.Pairs.{valid_on, on_divides, neutral_valid, opposite_valid}
use Rattle.rules.proofs.Cantor.OnCurve.{on_curve_decides}
use Rattle.rules.proofs.Cantor.Composition.{Composes, composition_is, composition_on, composition_fits, composition_any}
use Rattle.rules.proofs.Cantor.Reduction.{Reduces}
use Rattle.rules.proofs.Cantor.Sum.{sum_loop, sum_valid}
use Rattle.rules.proofs.Cantor.Group.{Divisor, divisor_set, jacobian, sum_comm, sum_assoc, neutral_sum, sum_opposite}
use Rattle.rules.proofs.Cantor.Totals.{AllValid, total_valid, total_order, total_parts, multiple_valid, multiple_add, multiple_mul}
use Rattle.rules.proofs.Cantor.Signed.{signed_multiple}

pub record Demand3 (E : Curve) : Type 0 where
  -- the composed pair has deg v < deg u, and u divides f - v²
  pub composed_fits : (a b : Pair E.K) → length (composition E a b).v ≡ length (composition E a b).u
  pub composed_divides : (a b : Pair E.K) → Valid E a → Valid E b
      → Divides (Kx E) (u_of E (composition E a b)) (f_minus_v² E (composition E a b))
  -- it keeps the equations of composition, and it alone: any d, s1, s2, s3 give the same u and the same v
  pub composed : (a b : Pair E.K) → Valid E a → Valid E b → Composes E a b (composition E a b)
  pub any_triple : (a b c : Pair E.K) → Valid E a → Valid E b → length c.v ≡ length c.u → Composes E a b c → composition E a b ≡ c
  -- the sum is the while loop from there, and ends after at most ⌈g/2⌉ turns, so after at most g - 1
  pub turns : (a b : Pair E.K) → Valid E a → Valid E b → (n : ℕ) × Reduces E n (composition E a b) (sum E a b) × (n ≤ (E.g + 1) / 2) × (2 ≤ E.g → n ≤ E.g - 1)
  -- valid divisors are closed under sum, double, opposite, multiple and total
  pub sum_closed : (a b : Pair E.K) → Valid E a → Valid E b → Valid E (sum E a b)
  pub double_closed : (a : Pair E.K) → Valid E a → Valid E (double E a)
  pub opposite_closed : (a : Pair E.K) → Valid E a → Valid E (opposite a)
  pub multiple_closed : (n : ℕ) (a : Pair E.K) → Valid E a → Valid E (multiple E n a)
  pub total_closed : (l : List (Pair E.K)) → AllValid E l → Valid E (total E l)
  -- they are a commutative group
  pub commutative : (a b : Pair E.K) → Valid E a → Valid E b → sum E a b ≡ sum E b a
  pub associative : (a b c : Pair E.K) → Valid E a → Valid E b → Valid E c → sum E (sum E a b) c ≡ sum E a (sum E b c)
  pub neutral_left : (a : Pair E.K) → Valid E a → sum E neutral a ≡ a
  pub neutral_right : (a : Pair E.K) → Valid E a → sum E a neutral ≡ a
  pub with_opposite : (a : Pair E.K) → Valid E a → sum E a (opposite a) ≡ neutral
  -- the total is the same in any order, and for any split into parts whose totals are added
  pub any_order : (l m : List (Pair E.K)) → AllValid E l → Perm l m → total E l ≡ total E m
  pub any_split : (l : List (Pair E.K)) (parts : List (List (Pair E.K))) → AllValid E l → Perm l (flatten parts) → total E l ≡ total E (map (total E) parts)
  -- (m + n)-fold, mn-fold
  pub fold_add : (m n : ℕ) (a : Pair E.K) → Valid E a → multiple E (m + n) a ≡ sum E (multiple E m a) (multiple E n a)
  pub fold_mul : (m n : ℕ) (a : Pair E.K) → Valid E a → multiple E (m * n) a ≡ multiple E m (multiple E n a)
  -- double-and-add over the non-adjacent form of n is the n-fold multiple, and takes exactly the counts reported
  pub by_digits : (n : ℕ) (a : Pair E.K) → Valid E a
      → signed_run (sum E) (double E) opposite neutral a (recode n) ≡ record { result = multiple E n a; doublings = doublings n; additions = additions n }

-- ---- shown of every accepted curve
pub accepted : (E : Curve) → Accepted E → Demand3 E
accepted E h = record {
  composed_fits = λ a b. composition_fits E h.over a b;
  composed_divides = λ a b va vb. on_divides E (composition_on E h.over a b (valid_on E va) (valid_on E vb));
  composed = λ a b va vb. composition_is E h.over a b (valid_on E va) (valid_on E vb);
  any_triple = λ a b c va vb fits eqs. composition_any E h.over a b (valid_on E va) (valid_on E vb) c fits eqs;
  turns = λ a b va vb. loop a b va vb;
  sum_closed = sum_valid E h;
  double_closed = λ a va. unfold double in (sum_valid E h a a va va);
  opposite_closed = opposite_valid E;
  multiple_closed = λ n a va. multiple_valid E h a va n;
  total_closed = total_valid E h;
  commutative = sum_comm E h;
  associative = sum_assoc E h;
  neutral_left = neutral_sum E h;
  neutral_right = λ a va. sum_comm E h a neutral va (neutral_valid E) ∙ neutral_sum E h a va;
  with_opposite = sum_opposite E h;
  any_order = λ l m v p. total_order E h v p;
  any_split = total_parts E h;
  fold_add = λ m n a va. multiple_add E h a va m n;
  fold_mul = λ m n a va. multiple_mul E h a va m n;
  by_digits = λ n a va. signed_multiple E h a va n;
}
  where
    loop : (a b : Pair E.K) → Valid E a → Valid E b → (n : ℕ) × Reduces E n (composition E a b) (sum E a b) × (n ≤ (E.g + 1) / 2) × (2 ≤ E.g → n ≤ E.g - 1)
    loop a b va vb = let r = sum_loop E h a b va vb in (r.turns, r.loop, r.at_most, λ two. omega (arith, r.at_most))

-- ---- any field with 1 + 1 ≠ 0
pub over_a_field : (K : Field) → K.arith.base.add K.arith.base.one K.arith.base.one ≢ K.arith.base.zer
    → (g : ℕ) (low : List K.arith.base.El) → length low ≡ suc (g + g) → SquareFree (over K g low) → Demand3 (over K g low)
over_a_field K two g low odd sf = accepted (over K g low) (accepted_over K g low two odd sf)

-- ---- demand 3
pub demand3 : (p : ℕ) → Prime p → 2 < p → (g : ℕ) (low : List (zmod p).El) → length low ≡ suc (g + g) → SquareFree (mod_p p g low) → Demand3 (mod_p p g low)
demand3 p prime l g low odd sf = accepted (mod_p p g low) (accepted_mod_p p g low prime l odd sf)

-- the tests that are run decide what is supposed: for a curve modulo a prime, and for any pair
pub square_free_test : (p : ℕ) → Prime p → (g : ℕ) (low : List (zmod p).El) → (is_square_free (mod_p p g low) ≡ true) ↔ SquareFree (mod_p p g low)
square_free_test p prime g low = square_free_decides (mod_p p g low) (record { mul_inv = (prime_field p prime).mul_inv; one_ne = (prime_field p prime).one_ne })

pub on_curve_test : (E : Curve) (a : Pair E.K) → (is_on_curve E a ≡ true)
    ↔ Divides (Kx E) (u_of E a) (f_minus_v² E a)
on_curve_test = on_curve_decides

-- ---- the group, in the library's words
pub is_group : (E : Curve) (h : Accepted E) → IsAddCommGroup (Divisor E h) (jacobian E h).sum (jacobian E h).zer (jacobian E h).opp
is_group E h = record {
  is_add_group = record {
    is_sub_neg_monoid = record {
      is_add_monoid = record {
        is_add_semigroup = record { is_set = divisor_set E h; add_assoc = (jacobian E h).assoc };
        zero-add = (jacobian E h).zer_sum;
        add-zero = sum_zer (jacobian E h);
      };
    };
    neg-add_cancel = λ a. (jacobian E h).comm ((jacobian E h).opp a) a ∙ (jacobian E h).sum_opp a;
  };
  add_comm = (jacobian E h).comm;
}

-- ---- the curves A and B: f = x^5 + 1 modulo 7, and f = x^7 + 1 modulo 11
abbrev low_A : List (zmod 7).El
low_A = map (emb 7) (1 ∷ 0 ∷ 0 ∷ 0 ∷ 0 ∷ [])

abbrev low_B : List (zmod 11).El
low_B = map (emb 11) (1 ∷ 0 ∷ 0 ∷ 0 ∷ 0 ∷ 0 ∷ 0 ∷ [])

prime_7 : Prime 7
prime_7 = prime_by_test 7 (unfold is_prime in refl)

prime_11 : Prime 11
prime_11 = prime_by_test 11 (unfold is_prime in refl)

square_free_A : is_square_free (mod_p 7 2 low_A) ≡ true
unfolding is_square_free zmod emb zmod_dec inv
square_free_A = refl

square_free_B : is_square_free (mod_p 11 3 low_B) ≡ true
unfolding is_square_free zmod emb zmod_dec inv
square_free_B = refl

pub curve_A : Demand3 (mod_p 7 2 (map (emb 7) (1 ∷ 0 ∷ 0 ∷ 0 ∷ 0 ∷ [])))
curve_A = demand3 7 prime_7 (omega arith) 2 low_A refl ((square_free_test 7 prime_7 2 low_A).0 square_free_A)

pub curve_B : Demand3 (mod_p 11 3 (map (emb 11) (1 ∷ 0 ∷ 0 ∷ 0 ∷ 0 ∷ 0 ∷ 0 ∷ [])))
curve_B = demand3 11 prime_11 (omega arith) 3 low_B refl ((square_free_test 11 prime_11 3 low_B).0 square_free_B)
