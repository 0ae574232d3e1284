-- A row changed place by place: what holds of each old and new place holds of the coefficients of u and of v.
use Prim.Native.Nat.{ℕ, suc, ◌+◌, ◌*◌, ◌≤◌, ◌<◌}
use mathlib.Core.Path.{◌≡◌, refl, sym, ap, ◌∙◌, subst}
use mathlib.Core.List.{List, [], ◌∷◌}
use native.Mathlib.Omega.{arith}
use borrow.Author.Count.{below_more}
use lib.ListN.{length, set, length-set}
use lib.Seq.{get_or-take, get_or-set_same, get_or-set_other}
use Rattle.field.specs.declared.Residue.{Residue}
use Rattle.divisor.specs.declared.Divisor.{Divisor}
use Rattle.divisor.specs.Divisors.{weight_of, us, vs, RowOf}
use Rattle.divisor.proofs.Laws.{at, length-us, length-vs}
use Rattle.divisor.proofs.Rows.{row_long, row_u, row_v_at}

module _ (R : Residue → Residue → Type 0) where
  -- place by place, of two lists
  abbrev pub Both : List Residue → List Residue → Type 0
  Both [] [] = Unit {0}
  Both [] (y ∷ w) = ⊥
  Both (x ∷ v) [] = ⊥
  Both (x ∷ v) (y ∷ w) = R x y × Both v w

  both_of : (v w : List Residue) → length v ≡ length w → ((k : ℕ) → k < length v → R (at v k) (at w k)) → Both v w
  both_of [] [] e h = tt
  both_of [] (y ∷ w) e h = absurd (omega arith)
  both_of (x ∷ v) [] e h = absurd (omega arith)
  both_of (x ∷ v) (y ∷ w) e h = (h 0 (omega arith), both_of v w (omega arith) (λ k l. h (suc k) (omega arith)))

  -- of the row a the places below k are changed
  pub record Changing (w : ℕ) (a r : List Residue) (k : ℕ) : Type 0 where
    pub within : k ≤ 2 * w
    pub long : length r ≡ length a
    pub changed : (j : ℕ) → j < k → R (at a j) (at r j)
    pub rest : (j : ℕ) → k ≤ j → at r j ≡ at a j

  pub change_begin : (w : ℕ) (a : List Residue) → Changing w a a 0
  change_begin w a = record { within = omega arith; long = refl; changed = λ j l. absurd (omega arith); rest = λ j l. refl }

  module _ (d : Divisor) (a : List Residue) (w : ℕ) (ha : RowOf d a) (e : w ≡ weight_of d) (r : List Residue) (k : ℕ) (t : Changing w a r k) where
    pub change_on : (x : Residue) → k < 2 * w → R (at r k) x → Changing w a (set r k x) (k + 1)
    change_on x l n = record {
      within = omega arith;
      long = length-set r k x ∙ t.long;
      changed = below_more (λ j. R (at a j) (at (set r k x) j)) k
          (λ j b. subst (R (at a j)) (sym (get_or-set_other r k j x _ (λ q. omega arith))) (t.changed j b))
          (rw (← t.rest k (omega arith), get_or-set_same r k x _ (omega (arith, row_long d a ha, t.long))) n);
      rest = λ j b. get_or-set_other r k j x _ (λ q. omega arith) ∙ t.rest j (omega arith);
    }

    module _ (b : Divisor) (l : 2 * w ≤ k) (hb : (weight_of b ≡ w) × RowOf b r) where
      pub change_u : Both (us d) (us b)
      change_u = both_of (us d) (us b) (length-us d ∙ sym e ∙ sym hb.0 ∙ sym (length-us b)) each
        where
          front : (x : Divisor) (y : List Residue) → RowOf x y → weight_of x ≡ w → (j : ℕ) → j < w → at (us x) j ≡ at y j
          front x y h i j g = ap (λ q. at q j) (row_u x y h w i) ∙ get_or-take w y j _ g

          each : (j : ℕ) → j < length (us d) → R (at (us d) j) (at (us b) j)
          each j i = let i : j < w = omega (arith, length-us d) in rw (front d a ha (sym e) j i, front b r hb.1 hb.0 j i) (t.changed j (omega arith))

      pub change_v : Both (vs d) (vs b)
      change_v = both_of (vs d) (vs b) (length-vs d ∙ sym e ∙ sym hb.0 ∙ sym (length-vs b)) each
        where
          each : (j : ℕ) → j < length (vs d) → R (at (vs d) j) (at (vs b) j)
          each j i = let i : j < w = omega (arith, length-vs d) in rw (row_v_at d a ha w (sym e) j _ i, row_v_at b r hb.1 w hb.0 j _ i) (t.changed (w + j) (omega arith))
