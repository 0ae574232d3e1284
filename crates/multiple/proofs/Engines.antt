-- The two engines answer alike: one value, with both counts, on every curve and divisor of either genus.
use mathlib.Core.Path.{◌≡◌, sym, ◌∙◌, subst}
use mathlib.Core.List.{List}
use Prim.Native.Nat.{ℕ}
use Rattle.divisor.specs.declared.Divisor.{Divisor}
use Rattle.divisor.proofs.Laws.{pair_inj}
use Rattle.curve.specs.declared.Curve.{Curve}
use Rattle.curve.specs.Curves.{Gives}
use Rattle.algebra.proofs.Zmod.PrimeField.{modulo}
use Rattle.rules.specs.Pair.{Pair}
use Rattle.multiple_affine.specs.declared.promise.Multiple.{Multiple}
use Rattle.multiple_affine.specs.promise.Contracts.{Multiplied}
use Rattle.multiple.specs.declared.Run.{Run}
use Rattle.multiple_tuple_step.specs.States.{GivesIt}
use Rattle.multiple.specs.Runs.{Reaches, GoneOn}

-- plain forms of one pair are one value
one_value : (c : Curve) (d e : Divisor) {x : Pair (modulo c.prime.m.p)} → Gives c d x → Gives c e x → d ≡ e
one_value c d e hd he = pair_inj c.prime.m d e hd.holds.held he.holds.held (hd.is ∙ sym he.is)

pub same_multiple : (c : Curve) (a : Divisor) (n : ℕ) (r s : Multiple) → Multiplied c a n r → Multiplied c a n s → r ≡ s
same_multiple c a n r s hr hs = λ i. record {
  divisor = one_value c r.divisor s.divisor hr.gives hs.gives i;
  doublings = (hr.doublings_is ∙ sym hs.doublings_is) i;
  additions = (hr.additions_is ∙ sym hs.additions_is) i;
}

-- and so does each step, special pairs included, by whatever tuples or divisors it came there
pub same_further : (c : Curve) (a : Divisor) (l : List ℕ) (k : ℕ) (x x' : Run) → GoneOn c a l k x → GoneOn c a l k x' → x.k ≡ x'.k → (d d' : Divisor) → GivesIt c x.state d → GivesIt c x'.state d' → d ≡ d'
same_further c a l k x x' g g' e d d' h h' = one_value c d d' (h _ g.reaches) (h' _ (subst (λ (j : ℕ). Reaches c a l x'.state j) (sym e) g'.reaches))
