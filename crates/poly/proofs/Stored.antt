-- From the residues stored to the polynomial they stand for. Gives: what stands at each place (`stored`, `past`), what `get` promises, that
-- a store is a term added (`set_is`) and keeps the residues in range, the list of zeros, and that places in the array fit a word.
use Prim.Native.Nat.{ℕ, zero, suc, ◌+◌, ◌*◌, ◌<◌, ◌≤◌}
use mathlib.Core.Path.{◌≡◌, sym, ap, ap₂, ◌∙◌, subst}
use mathlib.Core.List.{List, [], ◌∷◌}
use native.Mathlib.Omega.{arith}
use native.Mathlib.Decide.{ℕ_discrete, dec_lt}
use lib.ListN.{set, get_or, length, length-set, replicate, get_or-replicate, length-replicate}
use mir.Val.{Fits}
use mir.Syntax.{w64}
use lib.Seq.{get_or-set_same, get_or-set_other}
use Rattle.algebra.proofs.Ring.CRing.{add_zer}
use Rattle.algebra.proofs.Poly.Series.{con}
use Rattle.algebra.proofs.Poly.Bound.{Below}
use Rattle.algebra.proofs.Poly.Poly.{coef, coef_add, coef_zer, poly_ext}
use Rattle.algebra.proofs.Poly.Term.{at, term, C, X, coef_C, coef_X_zero, coef_X_suc}
use Rattle.algebra.proofs.Poly.Build.{put_is}
use Rattle.field.specs.declared.Residue.{Residue}
use Rattle.field.specs.declared.Modulus.{Modulus}
use Rattle.field.specs.Residues.{el, Kept, Stands, Everywhere}
use Rattle.field.proofs.Laws.{zero_settles, settles_stands}
use Rattle.poly.specs.Polys.{room, K, P, pol_l, Filled, Is}

-- a place within the room, and its offset in bytes, fit a word
pub place-fits : (j : ℕ) → j < room → Fits w64 j
place-fits j l = record { fits = omega arith }

pub next_fits : {j : ℕ} → j < room → Fits w64 (j + 1)
next_fits l = record { fits = omega arith }

pub offset_fits : (j : ℕ) → j < room → Fits w64 (j * 8)
offset_fits j l = record { fits = omega arith }

pub inside : {n j : ℕ} → n ≡ room → j < room → j < n
inside e h = omega arith

module _ (m : Modulus) where
  open K m use {El as A, add as ◌⊕◌, zer as 𝟘, zer_add}
  open P m use {El as Po, add as ◌+P◌, mul as ◌*P◌, zer as 0P}

  infixl 65 ◌⊕◌
  infixl 65 ◌+P◌
  infixl 70 ◌*P◌
  abbrev cf : Po → ℕ → A
  cf v = coef (K m) v

  first : (r : Residue) (l : List Residue) → cf (pol_l m (r ∷ l)) 0 ≡ el m r
  unfolding pol_l con
  first r l = at (K m) (coef_add (K m) (C (K m) (el m r)) (X (K m) *P pol_l m l)) 0 ∙ ap₂ ◌⊕◌ (at (K m) (coef_C (K m) (el m r)) 0) (coef_X_zero (K m) (pol_l m l)) ∙ add_zer (K m) (el m r)

  later : (r : Residue) (l : List Residue) (k : ℕ) → cf (pol_l m (r ∷ l)) (suc k) ≡ cf (pol_l m l) k
  unfolding pol_l con
  later r l k = at (K m) (coef_add (K m) (C (K m) (el m r)) (X (K m) *P pol_l m l)) (suc k) ∙ ap₂ ◌⊕◌ (at (K m) (coef_C (K m) (el m r)) (suc k)) (coef_X_suc (K m) (pol_l m l) k) ∙ zer_add (cf (pol_l m l) k)

  pub stored : (l : List Residue) (k : ℕ) (d : Residue) → k < length l → cf (pol_l m l) k ≡ el m (get_or l k d)
  stored [] k d h = absurd (omega arith)
  stored (r ∷ l) zero d h = first r l
  stored (r ∷ l) (suc k) d h = later r l k ∙ stored l k d (omega arith)

  pub past : (l : List Residue) → Below (K m) (length l) (cf (pol_l m l))
  unfolding pol_l
  past [] k h = at (K m) (coef_zer (K m)) k
  past (r ∷ l) zero h = absurd (omega arith)
  past (r ∷ l) (suc k) h = later r l k ∙ past l k (omega arith)

  -- what `get` reads
  pub read : {l : List Residue} (k : ℕ) (d : Residue) → Filled m l → k < length l → Stands m (get_or l k d) (cf (pol_l m l) k)
  read {l} k d h lt = record { kept = h.all k d lt; is = sym (stored l k d lt) }

  pub read_past : {l : List Residue} {z : Residue} (k : ℕ) → Filled m l → length l ≤ k → Everywhere z 0 → Stands m z (cf (pol_l m l) k)
  read_past {l} {z} k h le hz = let s : Stands m z 𝟘 = settles_stands m (zero_settles m z hz) in record { kept = s.kept; is = s.is ∙ sym (past l k le) }

  -- ---- a store is a sum with one term
  module _ (l : List Residue) (j : ℕ) (y : Residue) (lt : j < length l) where
    pub set_is : (t : A) → el m y ≡ cf (pol_l m l) j ⊕ t → pol_l m (set l j y) ≡ pol_l m l +P term (K m) t j
    set_is t e = put_is (K m) (pol_l m l) (pol_l m (set l j y)) t j
        (λ n ne. other n ne (dec_lt n (length l)))
        (stored (set l j y) j y (omega (arith, length-set l j y)) ∙ ap (el m) (get_or-set_same l j y y lt) ∙ e)
      where
        other : (n : ℕ) → (n ≡ j → ⊥) → Dec (n < length l) → cf (pol_l m (set l j y)) n ≡ cf (pol_l m l) n
        other n ne (yes h) = stored (set l j y) n y (omega (arith, length-set l j y)) ∙ ap (el m) (get_or-set_other l j n y y ne) ∙ sym (stored l n y h)
        other n ne (no h) = past (set l j y) n (omega (arith, length-set l j y)) ∙ sym (past l n (omega arith))

    pub filled_set : Filled m l → Kept m y → Filled m (set l j y)
    filled_set f g = record { all = λ k d h. go k d (omega (arith, length-set l j y)) (ℕ_discrete k j) }
      where
        go : (k : ℕ) (d : Residue) → k < length l → Dec (k ≡ j) → Kept m (get_or (set l j y) k d)
        go k d h (yes e) = subst (Kept m) (sym (ap (λ (i : ℕ). get_or (set l j y) i d) e ∙ get_or-set_same l j y d lt)) g
        go k d h (no ne) = subst (Kept m) (sym (get_or-set_other l j k y d ne)) (f.all k d h)

  -- ---- zeros alone
  module _ (z : Residue) (hz : Everywhere z 0) (n : ℕ) where
    zeros_stand : Stands m z 𝟘
    zeros_stand = settles_stands m (zero_settles m z hz)

    zeros_at : (k : ℕ) → cf (pol_l m (replicate n z)) k ≡ 𝟘
    zeros_at k = go (dec_lt k n)
      where
        go : Dec (k < n) → cf (pol_l m (replicate n z)) k ≡ 𝟘
        go (yes h) = stored (replicate n z) k z (omega (arith, length-replicate n z)) ∙ ap (el m) (get_or-replicate n k z z h) ∙ zeros_stand.is
        go (no h) = past (replicate n z) k (omega (arith, length-replicate n z))

    pub zeros_are : Is m (record { c = replicate n z; n = 0 }) 0P 0
    zeros_are = record {
      ok = record {
        len = omega arith;
        fill = record { all = λ k d h. subst (Kept m) (sym (get_or-replicate n k z d (omega (arith, length-replicate n z)))) zeros_stand.kept };
        size = record { end = λ k l. zeros_at k; top = λ l. absurd (omega arith) };
      };
      is = poly_ext (K m) (λ k. zeros_at k ∙ sym (at (K m) (coef_zer (K m)) k));
      short = omega arith;
    }
