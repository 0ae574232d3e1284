-- One digit more of a partial multiple: it doubled, and the divisor or its opposite added (`doubled`, `doubled_added`, `doubled_taken`); and what the step on tuples is, by the last Z (`stuck`, `climbed`,
-- `climbed_up`, `climbed_down`).
use Prim.Native.Nat.{ℕ}
use mathlib.Core.Path.{◌≡◌, sym, ap, ◌∙◌, subst}
use mathlib.Core.Logic.{◌≢◌}
use lib.IntN.{◌+ℤ◌}
use Rattle.algebra.proofs.Zmod.Zmod.{zmod}
use Rattle.algebra.proofs.Zmod.PrimeField.{modulo}
use Rattle.rules.specs.Signed.Digits.{Digit, minus, null, plus, value}
use Rattle.rules.proofs.Signed.Signed.{with_digit}
use Rattle.rules.specs.Curve.{Curve as RuleCurve}
use Rattle.rules.specs.Pair.{Pair, neutral, opposite}
use Rattle.rules.specs.Sum.{sum, double}
use Rattle.rules.proofs.Cantor.Signed.{wholes, digit_more}
use Rattle.field.specs.declared.Residue.{Residue}
use Rattle.field.specs.Residues.{el}
use Rattle.divisor.specs.declared.Divisor.{Divisor}
use Rattle.divisor.specs.declared.Divisor.TheVariants.{Two}
use Rattle.divisor.specs.declared.Quadratic.{Quadratic}
use Rattle.divisor.specs.Divisors.{pair}
use Rattle.curve.specs.declared.Curve.{Curve}
use Rattle.curve.specs.Curves.{curve_of, Holds}
use Rattle.curve.proofs.Contains.{accepted}
use Rattle.scalar.specs.Recoded.{digit}
use Rattle.multiple_tuple.specs.declared.Tuple.{Tuple}
use Rattle.multiple_tuple.specs.Tuples.{Mixed, Doubled}
use Rattle.multiple_tuple_step.specs.declared.State.{State}
use Rattle.multiple_tuple_step.specs.declared.State.TheVariants.{Free}
use Rattle.multiple_tuple_step.specs.States.{Means, Doubles, Adds, Opposes, Stepped, Reads, Climbed}
use Rattle.multiple_tuple_step.proofs.Steps.{free_double, free_add}

module _ (c : Curve) (a : Divisor) (ha : Holds c a) where
  abbrev E : RuleCurve
  E = curve_of c

  abbrev A : Pair (modulo c.prime.m.p)
  A = pair c.prime.m a

  more : (s u : State) (d : ℕ) (e : Digit) → digit d ≡ e → ((x : Pair (modulo c.prime.m.p)) → Means c s x → Means c u (with_digit (sum E) (double E) opposite neutral A e (double E x))) → Stepped c a s d u
  more s u d e q hu k y = subst (Means c u) (digit_more E (accepted c) A ha.valid e k ∙ ap (λ (i : Digit). wholes E (value i +ℤ (k +ℤ k)) A) (sym q)) (hu (wholes E k A) y)

  pub doubled : (s t : State) → Doubles c s t → (d : ℕ) → digit d ≡ null → Stepped c a s d t
  doubled s t ht d q = more s t d null q ht

  pub doubled_added : (s t u : State) → Doubles c s t → Adds c t a u → (d : ℕ) → digit d ≡ plus → Stepped c a s d u
  doubled_added s t u ht hu d q = more s u d plus q (λ x y. hu (double E x) (ht x y))

  -- by the opposite
  pub doubled_taken : (b : Divisor) → Opposes c a b → (s t u : State) → Doubles c s t → Adds c t b u → (d : ℕ) → digit d ≡ minus → Stepped c a s d u
  doubled_taken b hb s t u ht hu d q = more s u d minus q (λ x y. subst (λ (z : Pair (modulo c.prime.m.p)). Means c u (sum E (double E x) z)) hb.is (hu (double E x) (ht x y)))

module _ (c : Curve) (f2 f3 f4 : Residue) (hf : Reads c f2 f3 f4) (q : Quadratic) (hq : Holds c (Two q)) (t d : Tuple) (hd : Doubled c.prime.m f2 f3 f4 t d) (b : ℕ) where
  pub stuck : el c.prime.m d.z ≡ (zmod c.prime.m.p).zer → Climbed c q t b d
  stuck e = record { settled = hd.settled; is = λ nz. absurd (nz e) }

  module _ (nz : el c.prime.m d.z ≢ (zmod c.prime.m.p).zer) where
    doubles : Doubles c (Free t) (Free d)
    doubles x hx = free_double c t d nz f2 f3 f4 hf.second hf.third hf.fourth hd x hx

    pub climbed : digit b ≡ null → Climbed c q t b d
    climbed z = record { settled = hd.settled; is = λ _. doubled c (Two q) hq (Free t) (Free d) doubles b z }

    pub climbed_up : (e : Tuple) → Mixed c.prime.m f4 d q e → digit b ≡ plus → Climbed c q t b e
    climbed_up e he o = record {
      settled = he.settled;
      is = λ ne. doubled_added c (Two q) hq (Free t) (Free d) (Free e) doubles (λ x hx. free_add c d e ne f4 hf.fourth q hq he x hx) b o;
    }

    pub climbed_down : (p : Quadratic) → Opposes c (Two q) (Two p) → (e : Tuple) → Mixed c.prime.m f4 d p e → digit b ≡ minus → Climbed c q t b e
    climbed_down p hp e he o = record {
      settled = he.settled;
      is = λ ne. doubled_taken c (Two q) hq (Two p) hp (Free t) (Free d) (Free e) doubles (λ x hx. free_add c d e ne f4 hf.fourth p hp.holds he x hx) b o;
    }
