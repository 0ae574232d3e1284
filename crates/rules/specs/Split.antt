-- Document 02, W-213: a divisor split in two. At a root y of u: the divisor of weight 1 there, (x - y, v), and the rest, (u/(x - y), v), v modulo each u. Which root: for weight 2 the one whose x + u_0 has the
-- smaller u_0, for weight 3 the largest, as numbers below p. 26 where the weight is below 2, or no number below p is a root.
use Rattle.std.specs.Prelude.{ℕ, zero, suc, Bool, eqb, ltb, length}
use mathlib.Core.List.{List, [], ◌∷◌}
use Rattle.std.proofs.Math.Bool.{decide}
use Rattle.algebra.proofs.Ring.Field.{Arith}
use Rattle.algebra.proofs.Zmod.Zmod.{zmod, zmod_dec, emb}
use Rattle.algebra.proofs.Zmod.PrimeField.{modulo}
use Rattle.algebra.proofs.List.Ops.{whole, quotient, remainder, monic}
use Rattle.rules.specs.Roots.Roots.{value}
use Rattle.rules.specs.Pair.{Pair}
use Rattle.rules.specs.Checks.{Checked, refused, taken, choose, go_on}

module _ (K : Arith) (y : K.base.El) where
  open K use {base as F}

  -- x - y, by its lower coefficient
  abbrev pub point : List F.El
  point = F.neg y ∷ []

  unfoldable pub part_at : Pair K → Pair K
  unfolding remainder
  part_at a = record { u = point; v = remainder F point a.v }

  unfoldable pub rest_at : Pair K → Pair K
  unfolding whole quotient remainder monic
  rest_at a = let u : List F.El = monic K (quotient F point (whole F a.u)) in record { u = u; v = remainder F u a.v }

-- the least number below n that passes a test, and the largest; 26 where there is none
unfoldable pub least : (ℕ → Bool) → ℕ → Checked ℕ
least t zero = refused 26 0
least t (suc n) = elim (least t n) [ refused i k ↦ choose (t n) (taken n) (refused 26 0) | taken k ↦ taken k ]

unfoldable pub largest : (ℕ → Bool) → ℕ → Checked ℕ
largest t zero = refused 26 0
largest t (suc n) = choose (t n) (taken n) (largest t n)

-- y is a root of u
unfoldable pub is_root : (p : ℕ) → List (zmod p).El → (zmod p).El → Bool
unfolding decide value
is_root p u y = decide (zmod_dec p (value (zmod p) u y) (zmod p).zer)

-- the root at which a divisor is split
unfoldable pub split_root : (p : ℕ) → Pair (modulo p) → Checked (zmod p).El
unfolding is_root least largest
split_root p x =
    choose (ltb (length x.u) 2) (refused 26 0)
    (choose (eqb (length x.u) 2)
    (go_on (least (λ k. is_root p x.u ((zmod p).neg (emb p k))) p) (λ k. taken ((zmod p).neg (emb p k))))
    (go_on (largest (λ k. is_root p x.u (emb p k)) p) (λ k. taken (emb p k))))
