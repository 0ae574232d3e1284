-- A divisor's coefficients in a row. Gives: how long the row is and what stands in it, u and v as its two parts, that its places are
-- settled, and the divisors made of a row.
use Prim.Native.Nat.{ℕ, zero, suc, ◌+◌, ◌*◌, ◌≤◌, ◌<◌}
use mathlib.Core.Path.{◌≡◌, refl, sym, ap, ◌∙◌, subst}
use mathlib.Core.List.{List, [], ◌∷◌, ◌++◌}
use native.Mathlib.Omega.{arith}
use lib.ListN.{length, get_or, take, drop, length-append, length-take}
use lib.Seq.{get_or-take, get_or-drop, take-take, take-add, take_at, drop_at, drop-cons}
use Rattle.field.specs.declared.Modulus.{Modulus}
use Rattle.field.specs.declared.Residue.{Residue}
use Rattle.field.specs.Residues.{Settled}
use Rattle.divisor.specs.declared.Divisor.{Divisor}
use Rattle.divisor.specs.declared.Divisor.TheVariants.{One, Two, Three}
use Rattle.divisor.specs.Divisors.{weight_of, us, vs, coefficients, RowOf, AllSettled, Held}
use Rattle.divisor.proofs.Laws.{length-us, length-vs}

-- by the case that d is
pub row_case : {d e : Divisor} {r : List Residue} → d ≡ e → take (2 * weight_of e) r ≡ coefficients e → RowOf d r
row_case {d} {e} {r} p h = subst (λ (x : Divisor). RowOf x r) (sym p) (record { is = h })

pub length-coefficients : (d : Divisor) → length (coefficients d) ≡ 2 * weight_of d
length-coefficients d = omega (arith, length-append (us d) (vs d), length-us d, length-vs d)

module _ (d : Divisor) (r : List Residue) (h : RowOf d r) where
  pub row_long : 2 * weight_of d ≤ length r
  row_long = omega (arith, length-take (2 * weight_of d) r, ap length h.is, length-coefficients d)

  pub row_at : (k : ℕ) (z : Residue) → k < 2 * weight_of d → get_or r k z ≡ get_or (coefficients d) k z
  row_at k z l = sym (get_or-take (2 * weight_of d) r k z l) ∙ ap (λ t. get_or t k z) h.is

  -- the first w are those of u, and the next w those of v
  module _ (w : ℕ) (e : weight_of d ≡ w) where
    two_parts : us d ++ vs d ≡ take w r ++ take w (drop w r)
    two_parts = sym h.is ∙ ap (λ n. take n r) {x = 2 * weight_of d} {y = w + w} (omega arith) ∙ take-add w w r

    pub row_u : us d ≡ take w r
    row_u = sym (take_at (us d) (vs d) w (length-us d ∙ e)) ∙ ap (take w) (sym h.is) ∙ take-take w (2 * weight_of d) r (omega arith)

    pub row_v : vs d ≡ take w (drop w r)
    row_v = sym (drop_at (us d) (vs d) w (length-us d ∙ e)) ∙ ap (drop w) two_parts ∙ drop_at (take w r) (take w (drop w r)) w (sym (ap length row_u) ∙ length-us d ∙ e)

    pub row_v_at : (k : ℕ) (z : Residue) → k < w → get_or (vs d) k z ≡ get_or r (w + k) z
    row_v_at k z l = ap (λ t. get_or t k z) row_v ∙ get_or-take w (drop w r) k z l ∙ get_or-drop w r k z

-- ---- every place of a held divisor's row is settled
module _ (m : Modulus) where
  pub settled_at : (l : List Residue) (k : ℕ) (z : Residue) → AllSettled m l → k < length l → Settled m (get_or l k z)
  settled_at [] k z h i = absurd (omega arith)
  settled_at (x ∷ l) zero z h i = h.0
  settled_at (x ∷ l) (suc k) z h i = settled_at l k z h.1 (omega arith)

  pub settled_both : (a b : List Residue) → AllSettled m a → AllSettled m b → AllSettled m (a ++ b)
  settled_both [] b h k = k
  settled_both (x ∷ a) b h k = (h.0, settled_both a b h.1 k)

  pub row_settled : (d : Divisor) (r : List Residue) → Held m d → RowOf d r → (k : ℕ) (z : Residue) → k < 2 * weight_of d → Settled m (get_or r k z)
  row_settled d r h p k z l = subst (Settled m) (sym (row_at d r p k z l)) (settled_at (coefficients d) k z (settled_both (us d) (vs d) h.u h.v) (omega (arith, length-coefficients d)))

-- ---- the divisor of a row
module _ (r : List Residue) (y : Residue) where
  -- n of them from place a on, one after the other
  abbrev cells : ℕ → ℕ → List Residue
  cells a zero = []
  cells a (suc n) = get_or r a y ∷ cells (suc a) n

  cells_are : (a n : ℕ) → a + n ≤ length r → take n (drop a r) ≡ cells a n
  cells_are a zero l = refl
  cells_are a (suc n) l = ap (take (suc n)) (drop-cons r a y (omega arith)) ∙ ap (λ t. get_or r a y ∷ t) (cells_are (suc a) n (omega arith))

  module _ (long : length r ≡ 6) where
    pub made_one : RowOf (One (record { u0 = get_or r 0 y; v0 = get_or r 1 y })) r
    made_one = record { is = cells_are 0 2 (omega arith) }

    pub made_two : RowOf (Two (record { u0 = get_or r 0 y; u1 = get_or r 1 y; v0 = get_or r 2 y; v1 = get_or r 3 y })) r
    made_two = record { is = cells_are 0 4 (omega arith) }

    pub made_three : RowOf (Three (record { u0 = get_or r 0 y; u1 = get_or r 1 y; u2 = get_or r 2 y; v0 = get_or r 3 y; v1 = get_or r 4 y; v2 = get_or r 5 y })) r
    made_three = record { is = cells_are 0 6 (omega arith) }
