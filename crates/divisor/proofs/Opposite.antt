-- Why the opposite is the rule's: every coefficient of v is turned, and those of u stay.
use Prim.Native.Nat.{ℕ, suc, ◌+◌, ◌*◌, ◌≤◌, ◌<◌}
use mathlib.Core.Path.{◌≡◌, refl, sym, ap, ap₂, ◌∙◌, subst}
use mathlib.Core.List.{List, [], ◌∷◌}
use native.Mathlib.Omega.{arith}
use borrow.Author.Count.{below_more}
use lib.ListN.{length, set, take, length-set}
use lib.Seq.{get_or-set_same, get_or-set_other, take-set-le}
use Rattle.algebra.proofs.Zmod.Zmod.{zmod}
use Rattle.algebra.proofs.List.Ops.{neg_l}
use Rattle.rules.specs.Pair.{opposite}
use Rattle.field.specs.declared.Modulus.{Modulus}
use Rattle.field.specs.declared.Residue.{Residue}
use Rattle.field.specs.Residues.{el, Settled, Stands, Settles}
use Rattle.divisor.specs.declared.Divisor.{Divisor}
use Rattle.divisor.specs.Divisors.{weight_of, us, vs, elements, pair, AllSettled, RowOf, Held, Opposed}
use Rattle.divisor.proofs.Laws.{at, length-vs}
use Rattle.divisor.proofs.Rows.{row_long, row_settled, row_u, row_v_at}

module _ (m : Modulus) where
  pub turned_once : (r : Residue) {n s : Residue} → Stands m n ((zmod m.p).neg (el m r)) → Settles m s (el m n) → Settles m s ((zmod m.p).neg (el m r))
  turned_once r h k = record { settled = k.settled; is = k.is ∙ h.is }

  abbrev Turned : Residue → Residue → Type 0
  Turned r s = Settles m s ((zmod m.p).neg (el m r))

  turned_all : (v w : List Residue) → length v ≡ length w → ((k : ℕ) → k < length v → Turned (at v k) (at w k)) → (elements m w ≡ neg_l (zmod m.p) (elements m v)) × AllSettled m w
  unfolding neg_l
  turned_all [] [] e h = (refl, tt)
  turned_all [] (s ∷ w) e h = absurd (omega arith)
  turned_all (r ∷ v) [] e h = absurd (omega arith)
  turned_all (r ∷ v) (s ∷ w) e h = let t = turned_all v w (omega arith) (λ k l. h (suc k) (omega arith)) in (ap₂ ◌∷◌ (h 0 (omega arith)).is t.0, ((h 0 (omega arith)).settled, t.1))

  opposed_by : (d e : Divisor) → Held m d → us e ≡ us d → (elements m (vs e) ≡ neg_l (zmod m.p) (elements m (vs d))) × AllSettled m (vs e) → Opposed m d e
  unfolding pair opposite
  opposed_by d e h p t = record {
    held = record { u = subst (AllSettled m) (sym p) h.u; v = t.1 };
    is = ap₂ (λ u v. record { u = u; v = v }) (ap (elements m) p) t.0;
  }

  -- ---- the loop: of the row a the places from w up to k are turned
  pub record Turning (w : ℕ) (a r : List Residue) (k : ℕ) : Type 0 where
    pub from : w ≤ k
    pub within : k ≤ 2 * w
    pub long : length r ≡ length a
    pub front : take w r ≡ take w a
    pub turned : (j : ℕ) → j < k → w ≤ j → Turned (at a j) (at r j)
    pub rest : (j : ℕ) → k ≤ j → at r j ≡ at a j

  pub turn_begin : (w : ℕ) (a : List Residue) → Turning w a a w
  turn_begin w a = record { from = omega arith; within = omega arith; long = refl; front = refl; turned = λ j l g. absurd (omega arith); rest = λ j l. refl }

  module _ (d : Divisor) (a : List Residue) (w : ℕ) (h : Held m d) (ha : RowOf d a) (e : w ≡ weight_of d) where
    module _ (r : List Residue) (k : ℕ) (t : Turning w a r k) where
      pub turn_settled : k < 2 * w → Settled m (at r k)
      turn_settled l = subst (Settled m) (sym (t.rest k (omega arith))) (row_settled m d a h ha k _ (omega arith))

      pub turn_on : (x : Residue) → k < 2 * w → Turned (at r k) x → Turning w a (set r k x) (k + 1)
      turn_on x l n = record {
        from = omega (arith, t.from);
        within = omega arith;
        long = length-set r k x ∙ t.long;
        front = take-set-le w r k x t.from ∙ t.front;
        turned = below_more (λ j. w ≤ j → Turned (at a j) (at (set r k x) j)) k
            (λ j b g. subst (Turned (at a j)) (sym (get_or-set_other r k j x _ (λ q. omega arith))) (t.turned j b g))
            (λ g. rw (← t.rest k (omega arith), get_or-set_same r k x _ (omega (arith, row_long d a ha, t.long))) n);
        rest = λ j b. get_or-set_other r k j x _ (λ q. omega arith) ∙ t.rest j (omega arith);
      }

      pub turn_end : (b : Divisor) → 2 * w ≤ k → (weight_of b ≡ w) × RowOf b r → Opposed m d b
      turn_end b l hb = opposed_by d b h (row_u b r hb.1 w hb.0 ∙ t.front ∙ sym (row_u d a ha w (sym e)))
          (turned_all (vs d) (vs b) (length-vs d ∙ sym e ∙ sym hb.0 ∙ sym (length-vs b)) each)
        where
          each : (j : ℕ) → j < length (vs d) → Turned (at (vs d) j) (at (vs b) j)
          each j i = let i : j < w = omega (arith, length-vs d) in rw (row_v_at d a ha w (sym e) j _ i, row_v_at b r hb.1 w hb.0 j _ i) (t.turned (w + j) (omega arith) (omega arith))
