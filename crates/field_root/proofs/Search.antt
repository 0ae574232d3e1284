-- Squares told by their power, and the search for the least nonsquare: the test by (p-1)/2 decides `Square` (`by_power`); z goes through 2, 3, 4, .. (`Trying`), and stops below p (`never`).
use Prim.Native.Nat.{ℕ, suc, ◌+◌, ◌-◌, ◌/◌, ◌≤◌, ◌<◌}
use mathlib.Core.Path.{◌≡◌, sym, ap, ap₂, ◌∙◌, subst}
use mathlib.Core.Logic.{◌≢◌}
use mathlib.Core.Bool.{Bool, true, false}
use native.Mathlib.Decide.{ℕ_discrete}
use native.Mathlib.Omega.{arith}
use Rattle.algebra.proofs.Ring.Power.{power}
use Rattle.algebra.proofs.Zmod.Prime.{Prime}
use Rattle.algebra.proofs.Zmod.Zmod.{zmod, emb, emb_add, emb_one, emb_zero, emb_inj}
use Rattle.field.specs.declared.Modulus.{Modulus}
use Rattle.field.specs.declared.Residue.{Residue}
use Rattle.field.specs.Primes.{Decides}
use Rattle.field.specs.Residues.{el, Kept, Settles, Stands, HasInverse}
use Rattle.rules.proofs.Roots.Count.{nonresidue}
use Rattle.rules.proofs.Roots.Square.{square_iff}
use Rattle.field_root.specs.Squares.{Square, LeastNonsquare}

pub record Trying (m : Modulus) (z : Residue) (n : ℕ) : Type 0 where
  pub kept : Kept m z
  pub is : el m z ≡ emb m.p n
  pub from : 2 ≤ n
  pub squares : (k : ℕ) → 2 ≤ k → k < n → Square m.p (emb m.p k)

module _ (m : Modulus) (prime : Prime m.p) where
  abbrev p : ℕ
  p = m.p

  abbrev A : Type 0
  A = (zmod p).El

  odd : 2 < p
  odd = omega (arith, m.odd.from)

  pos : 0 < p
  pos = omega (arith, odd)

  pub by_power : (b : Bool) (a x : A) → a ≢ (zmod p).zer → x ≡ power (zmod p) a ((p - 1) / 2) → Decides b (x ≡ (zmod p).one) → Decides b (Square p a)
  by_power true a x ne e h = (square_iff p prime odd a ne).1 (sym e ∙ h)
  by_power false a x ne e h = λ s. h (e ∙ (square_iff p prime odd a ne).0 s)

  -- ---- the search
  pub trying_begin : (one z : Residue) → Settles m one (zmod p).one → Stands m z ((zmod p).add (el m one) (el m one)) → Trying m z 2
  trying_begin one z ho hz = record {
    kept = hz.kept;
    is = hz.is ∙ ap₂ (zmod p).add ho.is ho.is ∙ sym (emb_add p 1 1 ∙ ap₂ (zmod p).add (emb_one p) (emb_one p));
    from = omega arith;
    squares = λ k a b. absurd (omega arith);
  }

  module _ {z : Residue} {n : ℕ} (h : Trying m z n) where
    pub trying_unit : n < p → HasInverse m z
    trying_unit l = record { kept = h.kept; nonzero = λ e. absurd (omega (arith, h.from, emb_inj p pos n 0 l pos (sym h.is ∙ e ∙ sym (emb_zero p)))) }

    pub trying_turn : (one w : Residue) → Settles m one (zmod p).one → Stands m w ((zmod p).add (el m z) (el m one)) → Square p (el m z) → Trying m w (n + 1)
    trying_turn one w ho hw s = record {
      kept = hw.kept;
      is = hw.is ∙ ap₂ (zmod p).add h.is (ho.is ∙ sym (emb_one p)) ∙ sym (emb_add p n 1);
      from = omega (arith, h.from);
      squares = λ k a b. more k a b (ℕ_discrete k n);
    }
      where
        more : (k : ℕ) → 2 ≤ k → k < n + 1 → Dec (k ≡ n) → Square p (emb p k)
        more k a b (yes e) = subst (λ (t : ℕ). Square p (emb p t)) (sym e) (subst (Square p) h.is s)
        more k a b (no f) = h.squares k a (omega arith)

    pub never : p ≤ n → LeastNonsquare m z
    never l =
        let w = nonresidue p prime ((p - 1) / 2 - 1) (omega (arith, odd)) in
        let same : suc ((p - 1) / 2 - 1) ≡ (p - 1) / 2 = omega (arith, odd) in
        absurd (w.3 (ap (power (zmod p) (emb p w.0)) same
        ∙ (square_iff p prime odd (emb p w.0) (λ e. omega (arith, emb_inj p pos w.0 0 w.2 pos (e ∙ sym (emb_zero p)), w.1))).0 (h.squares w.0 (omega (arith, w.1)) (omega (arith, w.2)))))
