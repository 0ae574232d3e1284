-- Why `same` decides whether two divisors are equal or opposite: a divisor of weight 1 or 2 is compared with zeros behind its coefficients; those of
-- two weights are never the same.
use Prim.Native.Nat.{ℕ}
use mathlib.Core.Path.{◌≡◌, refl, sym, ap, ap₂, ◌∙◌, subst}
use mathlib.Core.List.{List, [], ◌∷◌, ◌++◌}
use mathlib.Core.Bool.{Bool}
use mathlib.Core.Logic.{inl, inr}
use native.Mathlib.Omega.{arith}
use lib.ListN.{length, take}
use lib.Seq.{take_at}
use Rattle.algebra.proofs.Ring.Field.{Arith}
use Rattle.algebra.proofs.Zmod.Zmod.{zmod, emb_zero}
use Rattle.algebra.proofs.Zmod.PrimeField.{modulo}
use Rattle.algebra.proofs.List.Ops.{neg_l}
use Rattle.algebra.proofs.List.Value.{length_neg}
use Rattle.rules.specs.Pair.{Pair, opposite}
use Rattle.rules.specs.Lists.{Same}
use Rattle.rules.proofs.Calls.Same.{zeros, neg_zeros}
use Rattle.field.specs.declared.Modulus.{Modulus}
use Rattle.field.specs.declared.Residue.{Residue}
use Rattle.field.specs.Primes.{Decides}
use Rattle.field.specs.Residues.{el, Settles, Everywhere}
use Rattle.divisor.specs.declared.Divisor.{Divisor}
use Rattle.divisor.specs.declared.Divisor.TheVariants.{Neutral, One, Two, Three}
use Rattle.divisor.specs.declared.Linear.{Linear}
use Rattle.divisor.specs.declared.Quadratic.{Quadratic}
use Rattle.divisor.specs.declared.Cubic.{Cubic}
use Rattle.divisor.specs.Divisors.{weight_of, pair, Held}
use Rattle.divisor.proofs.Laws.{weight_is, weight_is_v}
use Rattle.divisor_repeat.proofs.alike.Compared.{decides_as, same_u}
use Rattle.divisor_repeat.specs.Padded.{padded, Pads}

-- ---- pairs with zeros behind
module _ (K : Arith) where
  back_list : (a b z : List K.base.El) → length a ≡ length b → a ++ z ≡ b ++ z → a ≡ b
  back_list a b z l e = sym (take_at a z (length b) l) ∙ ap (take (length b)) e ∙ take_at b z (length b) refl

  neg_append : (a b : List K.base.El) → neg_l K.base (a ++ b) ≡ neg_l K.base a ++ neg_l K.base b
  unfolding neg_l
  neg_append [] b = refl
  neg_append (x ∷ a) b = ap (λ t. K.base.neg x ∷ t) (neg_append a b)

  padded_back : (n : ℕ) (a b : Pair K) → length a.u ≡ length b.u → length a.v ≡ length b.v → padded K n a ≡ padded K n b → a ≡ b
  padded_back n a b lu lv e = ap₂ (λ u v. record { u = u; v = v })
      (back_list a.u b.u (zeros K n) lu (ap (λ (x : Pair K). x.u) e))
      (back_list a.v b.v (zeros K n) lv (ap (λ (x : Pair K). x.v) e))

  padded_opposite : (n : ℕ) (b : Pair K) → opposite (padded K n b) ≡ padded K n (opposite b)
  unfolding opposite
  padded_opposite n b = ap (λ v. record { u = b.u ++ zeros K n; v = v }) (neg_append b.v (zeros K n) ∙ ap (λ t. neg_l K.base b.v ++ t) (neg_zeros K n))

  opposite_u : (b : Pair K) → length (opposite b).u ≡ length b.u
  unfolding opposite
  opposite_u b = refl

  opposite_v : (b : Pair K) → length (opposite b).v ≡ length b.v
  unfolding opposite
  opposite_v b = length_neg K.base b.v

  padded_same : (n : ℕ) (a b : Pair K) → length a.u ≡ length b.u → length a.v ≡ length b.v → Same (padded K n a) (padded K n b) → Same a b
  padded_same n a b lu lv (inl e) = inl (padded_back n a b lu lv e)
  padded_same n a b lu lv (inr e) = inr (padded_back n a (opposite b) (lu ∙ sym (opposite_u b)) (lv ∙ sym (opposite_v b)) (e ∙ padded_opposite n b))

  same_padding : (n : ℕ) (a b : Pair K) → Same a b → Same (padded K n a) (padded K n b)
  same_padding n a b (inl e) = inl (ap (padded K n) e)
  same_padding n a b (inr e) = inr (ap (padded K n) e ∙ sym (padded_opposite n b))

-- ---- of two weights
weight_none : (b : Divisor) → 0 ≡ weight_of b → b ≡ Neutral
weight_none Neutral e = refl
weight_none (One y) e = absurd (omega arith)
weight_none (Two y) e = absurd (omega arith)
weight_none (Three y) e = absurd (omega arith)

weight_one : (b : Divisor) → 1 ≡ weight_of b → (y : Linear) × (b ≡ One y)
weight_one (One y) e = (y, refl)
weight_one Neutral e = absurd (omega arith)
weight_one (Two y) e = absurd (omega arith)
weight_one (Three y) e = absurd (omega arith)

weight_two : (b : Divisor) → 2 ≡ weight_of b → (y : Quadratic) × (b ≡ Two y)
weight_two (Two y) e = (y, refl)
weight_two Neutral e = absurd (omega arith)
weight_two (One y) e = absurd (omega arith)
weight_two (Three y) e = absurd (omega arith)

weight_three : (b : Divisor) → 3 ≡ weight_of b → (y : Cubic) × (b ≡ Three y)
weight_three (Three y) e = (y, refl)
weight_three Neutral e = absurd (omega arith)
weight_three (One y) e = absurd (omega arith)
weight_three (Two y) e = absurd (omega arith)

module _ (m : Modulus) (a b : Divisor) where
  one_weight : Same (pair m a) (pair m b) → weight_of a ≡ weight_of b
  one_weight s = sym (weight_is m a) ∙ ap length (same_u (modulo m.p) (pair m a) (pair m b) s) ∙ weight_is m b

  pub not_neutral : a ≡ Neutral → (b ≡ Neutral → ⊥) → Same (pair m a) (pair m b) → ⊥
  not_neutral e n s = n (weight_none b (sym (ap weight_of e) ∙ one_weight s))

  pub not_one : {x : Linear} → a ≡ One x → ((y : Linear) → b ≡ One y → ⊥) → Same (pair m a) (pair m b) → ⊥
  not_one e n s = let w = weight_one b (sym (ap weight_of e) ∙ one_weight s) in n w.0 w.1

  pub not_two : {x : Quadratic} → a ≡ Two x → ((y : Quadratic) → b ≡ Two y → ⊥) → Same (pair m a) (pair m b) → ⊥
  not_two e n s = let w = weight_two b (sym (ap weight_of e) ∙ one_weight s) in n w.0 w.1

  pub not_three : {x : Cubic} → a ≡ Three x → ((y : Cubic) → b ≡ Three y → ⊥) → Same (pair m a) (pair m b) → ⊥
  not_three e n s = let w = weight_three b (sym (ap weight_of e) ∙ one_weight s) in n w.0 w.1

module _ (m : Modulus) where
  -- a and b, whose cases are d and e
  module _ {a b d e : Divisor} (h : Held m a × Held m b) (ia : a ≡ d) (ib : b ≡ e) where
    pub as_cases : (r : Bool) → Decides r (Same (pair m d) (pair m e)) → Decides r (Same (pair m a) (pair m b))
    as_cases r k = rw (ia, ib) k

    pub held_cases : Held m d × Held m e
    held_cases = (subst (Held m) ia h.0, subst (Held m) ib h.1)

    -- of one weight, d and e with n zeros behind
    module _ (n : ℕ) (w : weight_of d ≡ weight_of e) {d' e' : Divisor} (pd : Pads n d d') (pe : Pads n e e') where
      pub held_padded : Held m d' × Held m e'
      held_padded = (pd.held m held_cases.0, pe.held m held_cases.1)

      pub same_padded : (r : Bool) → Decides r (Same (pair m d') (pair m e')) → Decides r (Same (pair m a) (pair m b))
      same_padded r k = as_cases r (decides_as r to from k)
        where
          K : Arith
          K = modulo m.p

          lu : length (pair m d).u ≡ length (pair m e).u
          lu = weight_is m d ∙ w ∙ sym (weight_is m e)

          to : Same (pair m d') (pair m e') → Same (pair m d) (pair m e)
          to s = padded_same K n (pair m d) (pair m e) lu (weight_is_v m d ∙ w ∙ sym (weight_is_v m e)) (rw (pd.is m held_cases.0, pe.is m held_cases.1) at s)

          from : Same (pair m d) (pair m e) → Same (pair m d') (pair m e')
          from s = rw (pd.is m held_cases.0, pe.is m held_cases.1) (same_padding K n (pair m d) (pair m e) s)

-- ---- the zeros in code
module _ (z : Residue) (h : Everywhere z 0) (m : Modulus) where
  zero_settles : Settles m z (zmod m.p).zer
  zero_settles = let k = h m (omega (arith, m.odd.from)) in record { settled = k.settled; is = k.is ∙ emb_zero m.p }

module _ (z : Residue) (h : Everywhere z 0) where
  pub pads_one : (d : Linear) → Pads 2 (One d) (Three (record { u0 = d.u0; u1 = z; u2 = z; v0 = d.v0; v1 = z; v2 = z }))
  unfolding pair
  pads_one d = record {
    held = λ m k. let s = (zero_settles z h m).settled in record { u = (k.u.0, (s, (s, tt))); v = (k.v.0, (s, (s, tt))) };
    is = λ m k. ap (λ t. record { u = el m d.u0 ∷ t ∷ t ∷ []; v = el m d.v0 ∷ t ∷ t ∷ [] }) (zero_settles z h m).is;
  }

  pub pads_two : (d : Quadratic) → Pads 1 (Two d) (Three (record { u0 = d.u0; u1 = d.u1; u2 = z; v0 = d.v0; v1 = d.v1; v2 = z }))
  unfolding pair
  pads_two d = record {
    held = λ m k. let s = (zero_settles z h m).settled in record { u = (k.u.0, (k.u.1.0, (s, tt))); v = (k.v.0, (k.v.1.0, (s, tt))) };
    is = λ m k. ap (λ t. record { u = el m d.u0 ∷ el m d.u1 ∷ t ∷ []; v = el m d.v0 ∷ el m d.v1 ∷ t ∷ [] }) (zero_settles z h m).is;
  }
