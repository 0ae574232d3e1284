-- From one candidate to the next, in the words of the rule's list. Gives: what stands behind a candidate is what is ahead of the next, where a number was raised (`advance_raised`) and where the next weight begins (`advance_over`).
use Prim.Native.Nat.{ℕ, zero, suc, ◌+◌, ◌*◌, ◌≤◌, ◌<◌}
use mathlib.Core.Path.{◌≡◌, refl, sym, ap, ap₂, ◌∙◌, subst}
use Rattle.std.specs.Prelude.{Some, None}
use mathlib.Core.List.{List, [], ◌∷◌}
use native.Mathlib.Decide.{dec_lt}
use native.Mathlib.Omega.{arith}
use lib.ListN.{take, replicate, length-replicate}
use borrow.Author.Tests.{le-leb, lt-leb}
use Rattle.algebra.proofs.Zmod.Zmod.{zmod, num, emb, num_of}
use Rattle.rules.specs.Checks.{choose}
use Rattle.rules.specs.Records.{CurveRecord}
use Rattle.rules.specs.Census.{pair_from}
use Rattle.rules.proofs.Census.Pairs.{later, later_raise, later_heavier, later_none}
use Rattle.field.specs.declared.Modulus.{Modulus}
use Rattle.field.specs.declared.Residue.{Residue}
use Rattle.field.specs.Residues.{el, Settled, Settles, Everywhere}
use Rattle.divisor.specs.Divisors.{AllSettled}
use Rattle.divisor_census.specs.Rows.{digits, RaisedAt, RaisedIs, ahead, row_of, on, Advanced}

module _ (c : CurveRecord) (w : ℕ) (r : List ℕ) where
  pub ahead_in : w ≤ c.g → ahead c w r ≡ pair_from c w r ∷ later c w r
  unfolding ahead
  ahead_in h = ap (λ b. choose b (pair_from c w r ∷ later c w r) []) (le-leb w c.g h)

  pub ahead_out : c.g < w → ahead c w r ≡ []
  unfolding ahead
  ahead_out h = ap (λ b. choose b (pair_from c w r ∷ later c w r) []) (lt-leb w c.g h)

take-replicate : (n k : ℕ) (z : Residue) → n ≤ k → take n (replicate k z) ≡ replicate n z
take-replicate zero k z h = refl
take-replicate (suc n) zero z h = absurd (omega arith)
take-replicate (suc n) (suc k) z h = ap (λ t. z ∷ t) (take-replicate n k z (omega arith))

module _ (m : Modulus) where
  settled_replicate : (n : ℕ) (z : Residue) → Settled m z → AllSettled m (replicate n z)
  settled_replicate zero z h = tt
  settled_replicate (suc n) z h = (h, settled_replicate n z h)

  digits_replicate : (n : ℕ) (z : Residue) → num m.p (el m z) ≡ 0 → digits m (replicate n z) ≡ replicate n 0
  digits_replicate zero z h = refl
  digits_replicate (suc n) z h = ap₂ ◌∷◌ h (digits_replicate n z h)

  module _ (w : ℕ) (l : List Residue) where
    some : 0 < m.p
    some = omega (arith, m.odd.from)

    pub advance_raised : (b : List Residue) → RaisedIs m (2 * w) l (Some b) → Advanced m w l (record { weight = w; row = b })
    advance_raised b r = record { rowed = λ u. r.0; most = omega arith; is = λ g low t u. go g low u r.1 }
      where
        go : (g : ℕ) (low : List (zmod m.p).El) → w ≤ g → RaisedAt m (row_of m w l) (row_of m w b) → later (on m g low) w (row_of m w l) ≡ ahead (on m g low) w (row_of m w b)
        go g low u a = ap (later (on m g low) w) a.was ∙ later_raise (on m g low) some w a.front a.number a.behind a.below a.tops
            ∙ ap (λ t. pair_from (on m g low) w t ∷ later (on m g low) w t) (sym a.is) ∙ sym (ahead_in (on m g low) w (row_of m w b) u)

    pub advance_over : RaisedIs m (2 * w) l None → (z : Residue) → Everywhere z 0 → Advanced m w l (record { weight = w + 1; row = replicate 6 z })
    advance_over e z every = record {
      rowed = λ u. record { within = omega (arith, u); long = length-replicate 6 z; settled = subst (AllSettled m) (sym (take-replicate (2 * (w + 1)) 6 z (omega (arith, u)))) (settled_replicate (2 * (w + 1)) z zero_is.settled) };
      most = omega arith;
      is = λ g low t u. go g low t u (dec_lt w g);
    }
      where
        zero_is : Settles m z (emb m.p 0)
        zero_is = every m some

        no_digit : num m.p (el m z) ≡ 0
        no_digit = ap (num m.p) zero_is.is ∙ num_of m.p some 0 some

        go : (g : ℕ) (low : List (zmod m.p).El) → g ≤ 3 → w ≤ g → Dec (w < g) → later (on m g low) w (row_of m w l) ≡ ahead (on m g low) (w + 1) (row_of m (w + 1) (replicate 6 z))
        go g low t u (yes q) = later_heavier (on m g low) some w (row_of m w l) q e ∙ sym (ahead_in (on m g low) (suc w) (replicate (suc w + suc w) 0) q) ∙ ap₂ (ahead (on m g low)) weight_is row_is
          where
            weight_is : suc w ≡ w + 1
            weight_is = omega arith

            row_is : replicate (suc w + suc w) 0 ≡ row_of m (w + 1) (replicate 6 z)
            row_is = let k : suc w + suc w ≡ 2 * (w + 1) = omega arith in ap (λ (n : ℕ). replicate n 0) k ∙ sym (ap (digits m) (take-replicate (2 * (w + 1)) 6 z (omega arith)) ∙ digits_replicate (2 * (w + 1)) z no_digit)
        go g low t u (no q) = later_none (on m g low) some w (row_of m w l) (omega arith) e ∙ sym (ahead_out (on m g low) (w + 1) (row_of m (w + 1) (replicate 6 z)) (omega arith))
