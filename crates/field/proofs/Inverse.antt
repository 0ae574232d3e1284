-- The inverse in Montgomery's form: a · s = 2^k and r = s · 2^(128 - k), so a · r is 2^128, which is 1 for residues.
use Prim.Native.Nat.{ℕ, ◌^◌}
use mathlib.Core.Path.{refl, ap, ◌∙◌}
use mathlib.Core.List.{[], ◌∷◌}
use Rattle.algebra.proofs.Ring.Quote.{ring, quote, by}
use Rattle.algebra.proofs.Zmod.Zmod.{zmod, emb, emb_mul}
use Rattle.field_words.specs.Words.{word}
use Rattle.field.specs.declared.Modulus.{Modulus}
use Rattle.field.specs.declared.PrimeModulus.{PrimeModulus}
use Rattle.field.specs.declared.Residue.{Residue}
use Rattle.field_montgomery.specs.declared.halving.Shifted.{Shifted}
use Rattle.field_montgomery.specs.Back.{back}
use Rattle.field.specs.Residues.{el, HasInverse, Inverts}
use Rattle.field_montgomery.specs.halving.Almost.{Invertible, AlmostIs}
use Rattle.field_montgomery.specs.Powers.{ToFinish, Finished}
use Rattle.field.proofs.Ring.{ring_of}
use Rattle.field_montgomery.proofs.Back.{back_word}

module _ (k : PrimeModulus) (a : Residue) (u : HasInverse k.m a) where
  abbrev m : Modulus
  m = k.m

  open zmod m.p use {El as A, add as ◌⊕◌, mul as ◌⊗◌, neg as ng, zer as 𝟘, one as 𝟙, zer_add}

  infixl 65 ◌⊕◌
  infixl 70 ◌⊗◌
  abbrev p : ℕ
  p = m.p

  abbrev B : A
  B = back m.p m.turn

  abbrev W : A
  W = emb m.p word

  pub invertible : Invertible p a.0
  unfolding el
  invertible = record { prime = k.prime; most = (ring_of m).turns.most; below = u.kept.below; nonzero = λ e. u.nonzero (ap (λ t. t ⊗ B) e ∙ ring (zmod p) (B ∷ []) (search quote depth 40) refl) }

  module _ (x : Shifted) (h : AlmostIs p a.0 x) where
    pub to_finish : ToFinish p m.turn m.square m.cube x.s x.k
    to_finish = let g = (ring_of m) in record { turns = g.turns; square_below = g.square.below; square_is = g.square.is; cube_below = g.cube.below; cube_is = g.cube.is; small = h.small; few = h.few }

    pub inverts : {r : ℕ} → Finished p x.s x.k r → Inverts m a (record { 0 = r })
    unfolding el
    inverts {r} f = record {
      kept = record { below = f.below };
      is = by (zmod p) (emb p a.0 ⊗ B ⊗ B) f.is (by (zmod p) (f.factor ⊗ B ⊗ B) h.is (by (zmod p) (B ⊗ B) (f.factor_is ∙ emb_mul p word word) (by (zmod p) (W ⊗ B ⊕ 𝟙) (back_word p m.turn (ring_of m).turns)
          (ring (zmod p) (emb p a.0 ∷ emb p r ∷ emb p x.s ∷ emb p (2 ^ x.k) ∷ f.factor ∷ W ∷ B ∷ []) (search quote depth 40) refl))));
    }
