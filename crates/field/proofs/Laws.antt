-- What upper crates use of residues: the field they make up, that settled residues of one element are one value, ranges, and the
-- elements of 0 and 1.
use Prim.Native.Nat.{ℕ, ◌<◌}
use mathlib.Core.Path.{◌≡◌, sym, ap, ◌∙◌}
use mathlib.Core.Logic.{◌≢◌}
use native.Mathlib.Omega.{arith}
use Rattle.algebra.proofs.Ring.CRing.{zer_mul}
use Rattle.algebra.proofs.Ring.Field.{Field}
use Rattle.algebra.proofs.Zmod.Zmod.{zmod, emb, emb_inj, emb_zero, emb_one}
use Rattle.algebra.proofs.Zmod.PrimeField.{prime_field, two_ne_zero}
use Rattle.algebra.proofs.Zmod.Prime.{Prime}
use Rattle.field.specs.declared.Modulus.{Modulus}
use Rattle.field.specs.declared.Residue.{Residue}
use Rattle.field_montgomery.specs.Back.{back}
use Rattle.field.specs.Residues.{el, Kept, Settled, Stands, Settles, Everywhere}
use Rattle.field.proofs.Ring.{ring_of}
use Rattle.field_montgomery.proofs.Back.{back_word, back_cancel}

-- the residues of a prime modulus are a field, over the very ring that the contracts speak of
abbrev pub residue_field : (m : Modulus) → Prime m.p → Field
residue_field m prime = prime_field m.p prime

module _ (m : Modulus) where
  pub two_ne : Prime m.p → (zmod m.p).add (zmod m.p).one (zmod m.p).one ≢ (zmod m.p).zer
  two_ne g = two_ne_zero m.p g (omega (arith, m.odd.from))

  pub positive : 0 < m.p
  positive = omega (arith, m.odd.from)

  pub one_ne : (zmod m.p).one ≢ (zmod m.p).zer
  one_ne e = let o : 1 ≡ 0 = emb_inj m.p positive 1 0 (omega (arith, m.odd.from)) positive (emb_one m.p ∙ e ∙ sym (emb_zero m.p)) in absurd (omega (arith, o))

  pub settled_kept : {r : Residue} → Settled m r → Kept m r
  settled_kept s = record { below = omega (arith, s.below) }

  pub settles_stands : {r : Residue} {x : (zmod m.p).El} → Settles m r x → Stands m r x
  settles_stands s = record { kept = settled_kept s.settled; is = s.is }

  -- settled residues that stand for one element are one value
  pub settled_unique : (a b : Residue) → Settled m a → Settled m b → el m a ≡ el m b → a ≡ b
  unfolding el
  settled_unique a b ha hb e = ap (λ (n : ℕ). record { 0 = n }) (emb_inj m.p positive a.0 b.0 ha.below hb.below (back_cancel m.p m.turn (ring_of m).turns e))

  pub zero_at : {n : ℕ} → n ≡ 0 → (zmod m.p).mul (emb m.p n) (back m.p m.turn) ≡ (zmod m.p).zer
  zero_at {n} e = ap (λ i. (zmod m.p).mul i (back m.p m.turn)) (ap (emb m.p) e ∙ emb_zero m.p) ∙ zer_mul (zmod m.p) (back m.p m.turn)

  pub zero_settled : Settles m (record { 0 = 0 }) (emb m.p 0)
  unfolding el
  zero_settled = record { settled = record { below = positive }; is = zero_at (omega arith) ∙ sym (emb_zero m.p) }

  pub zero_settles : (r : Residue) → Everywhere r 0 → Settles m r (zmod m.p).zer
  zero_settles r h = let s : Settles m r (emb m.p 0) = h m positive in record { settled = s.settled; is = s.is ∙ emb_zero m.p }

  pub one_settles : Settles m (record { 0 = m.one }) (zmod m.p).one
  unfolding el
  one_settles = record { settled = record { below = (ring_of m).one.below }; is = ap (λ i. (zmod m.p).mul i (back m.p m.turn)) (ring_of m).one.is ∙ back_word m.p m.turn (ring_of m).turns }
