-- What `residues_of` and `numbers_of` promise: where each place was read as the element of its number, the divisor has the elements of its numbers; where each
-- was written as the number of its element, it has the numbers of its elements.
use Prim.Native.Nat.{ℕ, zero, suc, ◌*◌, ◌≤◌, ◌<◌}
use mathlib.Core.Path.{◌≡◌, refl, sym, ap₂, ◌∙◌, subst}
use mathlib.Core.List.{List, [], ◌∷◌, ◌++◌, map}
use native.Mathlib.Omega.{arith}
use lib.ListN.{length, get_or}
use Rattle.algebra.proofs.Zmod.Zmod.{num, emb}
use Rattle.rules.specs.Records.{elements, numbers}
use Rattle.field.specs.declared.Modulus.{Modulus}
use Rattle.field.specs.declared.Residue.{Residue}
use Rattle.std.specs.Prelude.{Option, Some, None, unwrap_or}
use Rattle.field.specs.Read.{ResidueIs}
use Rattle.field.specs.Residues.{el, raw, Settled, Settles}
use Rattle.divisor.specs.declared.Divisor.{Divisor}
use Rattle.divisor.specs.Divisors.{weight_of, us, vs, coefficients, pair, elements as values, AllSettled, RowOf, Held}
use Rattle.divisor.proofs.Laws.{at}
use Rattle.divisor.proofs.Rows.{length-coefficients, row_at, row_settled}
use Rattle.scan_total.specs.numbers.Plain.{ListIn, AllIn, Resumed, Stored}
use Rattle.scan_total.proofs.numbers.Mapped.{Both, Changing, change_u, change_v}

module _ (m : Modulus) where
  abbrev pub Enters : Residue → Residue → Type 0
  Enters r x = Settles m x (emb m.p (raw r))

  abbrev pub Leaves : Residue → Residue → Type 0
  Leaves r x = raw x ≡ num m.p (el m r)

  -- a number in range is read, whatever stands behind it
  pub settles_read : (r : Residue) → Settled m r → {n : ℕ} → n ≡ raw r → (o : Option Residue) → ResidueIs m n o → {x : Residue} → x ≡ unwrap_or o r → Enters r x
  settles_read r h {n} e (Some y) k q = rw q (subst (λ (j : ℕ). Settles m y (emb m.p j)) e k.1)
  settles_read r h {n} e None k q = absurd (omega (arith, h.below, k, e))

  -- ---- the places are in range
  pub in_both : (a b : List Residue) → ListIn m a → ListIn m b → ListIn m (a ++ b)
  in_both [] b h k = k
  in_both (x ∷ a) b h k = (h.0, in_both a b h.1 k)

  pub in_at : (l : List Residue) (k : ℕ) (z : Residue) → ListIn m l → k < length l → Settled m (get_or l k z)
  in_at [] k z h i = absurd (omega arith)
  in_at (x ∷ l) zero z h i = h.0
  in_at (x ∷ l) (suc k) z h i = in_at l k z h.1 (omega arith)

  module _ (d : Divisor) (a : List Residue) (w : ℕ) (ha : RowOf d a) (e : w ≡ weight_of d) where
    pub enter_at : {r : List Residue} {k : ℕ} → AllIn m d → Changing Enters w a r k → k < 2 * w → Settled m (at r k)
    enter_at {r} {k} h t l = subst (Settled m) (sym (t.rest k (omega arith) ∙ row_at d a ha k _ (omega arith))) (in_at (coefficients d) k _ (in_both (us d) (vs d) h.0 h.1) (omega (arith, length-coefficients d)))

    pub leave_at : {r : List Residue} {k : ℕ} → Held m d → Changing Leaves w a r k → k < 2 * w → Settled m (at r k)
    leave_at {r} {k} h t l = subst (Settled m) (sym (t.rest k (omega arith))) (row_settled m d a h ha k _ (omega arith))

  -- ---- all of them
  entered_all : (v w : List Residue) → Both Enters v w → AllSettled m w × (elements m.p (map raw v) ≡ values m w)
  unfolding elements
  entered_all [] [] h = (tt, refl)
  entered_all [] (y ∷ w) h = absurd h
  entered_all (x ∷ v) [] h = absurd h
  entered_all (x ∷ v) (y ∷ w) h = let t = entered_all v w h.1 in ((h.0.settled, t.0), ap₂ ◌∷◌ (sym h.0.is) t.1)

  left_all : (v w : List Residue) → Both Leaves v w → map raw w ≡ numbers m.p (values m v)
  unfolding numbers
  left_all [] [] h = refl
  left_all [] (y ∷ w) h = absurd h
  left_all (x ∷ v) [] h = absurd h
  left_all (x ∷ v) (y ∷ w) h = ap₂ ◌∷◌ h.0 (left_all v w h.1)

  module _ (d : Divisor) (a : List Residue) (w : ℕ) (ha : RowOf d a) (e : w ≡ weight_of d) (r : List Residue) (k : ℕ) (b : Divisor) (l : 2 * w ≤ k) (hb : (weight_of b ≡ w) × RowOf b r) where
    pub resumed_is : Changing Enters w a r k → Resumed m d b
    unfolding pair
    resumed_is t =
        let u = entered_all (us d) (us b) (change_u Enters d a w ha e r k t b l hb) in
        let v = entered_all (vs d) (vs b) (change_v Enters d a w ha e r k t b l hb) in
        record { held = record { u = u.0; v = v.0 }; weight = hb.0 ∙ e; is = ap₂ (λ x y. record { u = x; v = y }) u.1 v.1 }

    pub stored_is : Changing Leaves w a r k → Stored m d b
    unfolding pair
    stored_is t = record { u = left_all (us d) (us b) (change_u Leaves d a w ha e r k t b l hb); v = left_all (vs d) (vs b) (change_v Leaves d a w ha e r k t b l hb) }
