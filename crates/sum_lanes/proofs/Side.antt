-- Sums side by side. Gives: a row's total is valid; a row that is the same up to n has the same total; one member raised by x raises the total by x (`raised`); one
-- more behind (`together_more`).
use Prim.Native.Nat.{ℕ, zero, suc, ◌+◌, ◌<◌}
use mathlib.Core.Path.{◌≡◌, refl, sym, ap, ap₂, ◌∙◌, subst}
use mathlib.Core.List.{[], ◌∷◌}
use native.Mathlib.Omega.{arith}
use native.Mathlib.Decide.{ℕ_discrete}
use Rattle.algebra.proofs.Zmod.PrimeField.{modulo}
use Rattle.rules.specs.Curve.{Curve as RuleCurve}
use Rattle.rules.specs.Pair.{Pair, Valid}
use Rattle.rules.specs.Sum.{sum}
use Rattle.rules.proofs.Cantor.Accepted.{Accepted}
use Rattle.rules.proofs.Cantor.Pairs.{neutral_valid}
use Rattle.rules.proofs.Cantor.Sum.{sum_valid}
use Rattle.rules.proofs.Cantor.Group.{sum_comm, sum_assoc}
use Rattle.algebra.proofs.Ring.Quote.{ring, quote, by}
use Rattle.algebra.proofs.Zmod.Zmod.{zmod}
use Rattle.field.specs.declared.Modulus.{Modulus}
use Rattle.field.specs.declared.Residue.{Residue}
use Rattle.field.specs.Residues.{el, Stands}
use Rattle.divisor.specs.declared.Divisor.{Divisor}
use Rattle.divisor.specs.declared.Divisor.TheVariants.{Neutral}
use Rattle.divisor.proofs.Laws.{neutral_is}
use Rattle.divisor.specs.Divisors.{pair}
use Rattle.curve.specs.declared.Curve.{Curve}
use Rattle.curve.specs.Curves.{curve_of, Gives}
use Rattle.curve.proofs.Contains.{accepted, neutral-holds}
use Rattle.sum_lanes.specs.openings.Openings.{Under, Undoes}
use Rattle.sum_lanes.specs.declared.Waiting.{Waiting}
use Rattle.sum_lanes.specs.Lanes.{Backs, together, AllHold}

module _ (c : Curve) where
  abbrev E : RuleCurve
  E = curve_of c

  abbrev P : Type 0
  P = Pair (modulo c.prime.m.p)

  ok : Accepted E
  ok = accepted c

  pub together_valid : (d : ℕ → Divisor) (n : ℕ) → AllHold c d n → Valid E (together c d n)
  together_valid d zero v = neutral_valid E
  together_valid d (suc n) v = sum_valid E ok (together c d n) (pair c.prime.m (d n)) (together_valid d n (λ k l. v k (omega arith))) (v n (omega arith)).valid

  pub together_same : (d e : ℕ → Divisor) (n : ℕ) → ((k : ℕ) → k < n → pair c.prime.m (d k) ≡ pair c.prime.m (e k)) → together c d n ≡ together c e n
  together_same d e zero q = refl
  together_same d e (suc n) q = ap₂ (sum E) (together_same d e n (λ k l. q k (omega arith))) (q n (omega arith))

  -- (a + x) + b is (a + b) + x
  past : (a x b : P) → Valid E a → Valid E x → Valid E b → sum E (sum E a x) b ≡ sum E (sum E a b) x
  past a x b va vx vb = sum_assoc E ok a x b va vx vb ∙ ap (sum E a) (sum_comm E ok x b vx vb) ∙ sym (sum_assoc E ok a b x va vb vx)

  -- member i is raised by x, the others stay
  pub raised : (d e : ℕ → Divisor) (x : P) → Valid E x → (i n : ℕ) → i < n → AllHold c d n → pair c.prime.m (e i) ≡ sum E (pair c.prime.m (d i)) x
      → ((k : ℕ) → k < n → (k ≡ i → ⊥) → pair c.prime.m (e k) ≡ pair c.prime.m (d k)) → together c e n ≡ sum E (together c d n) x
  raised d e x vx i zero l v at others = absurd (omega arith)
  raised d e x vx i (suc n) l v at others = by_place (ℕ_discrete n i) (λ m. raised d e x vx i n m (λ k j. v k (omega arith)) at (λ k j r. others k (omega arith) r))
    where
      low : AllHold c d n
      low k m = v k (omega arith)

      by_place : Dec (n ≡ i) → (i < n → together c e n ≡ sum E (together c d n) x) → together c e (suc n) ≡ sum E (together c d (suc n)) x
      by_place (yes q) below = ap₂ (sum E) (together_same e d n (λ k m. others k (omega arith) (λ r. omega arith))) (subst (λ (j : ℕ). pair c.prime.m (e j) ≡ sum E (pair c.prime.m (d j)) x) (sym q) at)
          ∙ sym (sum_assoc E ok (together c d n) (pair c.prime.m (d n)) x (together_valid d n low) (v n (omega arith)).valid vx)
      by_place (no q) below = ap₂ (sum E) (below (omega arith)) (others n (omega arith) q)
          ∙ past (together c d n) x (pair c.prime.m (d n)) (together_valid d n low) vx (v n (omega arith)).valid

  -- none, and one more: t was the first n
  pub together_none : (d : ℕ → Divisor) (t : Divisor) → t ≡ Neutral → Gives c t (together c d 0)
  together_none d t e = subst (λ (t : Divisor). Gives c t (together c d 0)) (sym e) (record { holds = neutral-holds c; is = neutral_is c.prime.m })

  pub together_more : (d : ℕ → Divisor) (n : ℕ) (t r : Divisor) → Gives c t (together c d n) → Gives c r (sum E (pair c.prime.m t) (pair c.prime.m (d n))) → Gives c r (together c d (n + 1))
  together_more d n t r g k = subst (λ (n : ℕ). Gives c r (together c d n)) {x = suc n} {y = n + 1} (omega arith) (record { holds = k.holds; is = k.is ∙ ap (λ (x : P). sum E x (pair c.prime.m (d n))) g.is })

-- 1 over what was opened, by 1 over the product with those before
pub ends : (m : Modulus) (w : Waiting) (back i : Residue) → Under m w.o w.f → Backs m w back → Stands m i ((zmod m.p).mul (el m back) (el m w.before)) → Undoes m w.o i
ends m w back i u b s = record {
  kept = s.kept;
  is = rw s.is (rw (sym u.is) (by (zmod m.p) (zmod m.p).one b.is (ring (zmod m.p) (el m back ∷ el m w.before ∷ el m w.f ∷ []) (search quote depth 40) refl)));
}
