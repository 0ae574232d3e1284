-- Plain form and tuples. Gives: `lifted_is`, a plain divisor over 1; `divided_is`, the quotients worked out; and that tuples with equal quotients have one plain form (`same_plain`).
use mathlib.Core.Path.{◌≡◌, refl, sym, ap, ◌∙◌}
use mathlib.Core.List.{[], ◌∷◌}
use Rattle.algebra.proofs.Ring.CRing.{CRing}
use Rattle.algebra.proofs.Ring.Quote.{ring, quote, by}
use Rattle.algebra.proofs.Zmod.PrimeField.{modulo}
use Rattle.rules.specs.Pair.{Pair}
use Rattle.field.specs.declared.Modulus.{Modulus}
use Rattle.field.specs.declared.Residue.{Residue}
use Rattle.field.specs.Residues.{el, Settles, Inverts}
use Rattle.field.proofs.Laws.{one_ne, settled_kept}
use Rattle.divisor.specs.declared.Quadratic.{Quadratic}
use Rattle.divisor.specs.declared.Divisor.TheVariants.{Two}
use Rattle.divisor.specs.Divisors.{Held, pair}
use Rattle.divisor.proofs.Laws.{pair_inj}
use Rattle.multiple_tuple.specs.declared.Tuple.{Tuple}
use Rattle.multiple_tuple.specs.Tuples.{K, Quotients, Lifted, Divided}

module _ (F : CRing) where
  open F use {El as A, mul as ◌*◌, one as 𝟙}

  infixl 70 ◌*◌
  quotient : (Z zi U q n : A) → U ≡ Z * n → Z * zi ≡ 𝟙 → q ≡ U * zi → q ≡ n
  quotient Z zi U q n h one e = by F 𝟙 e (by F zi h (by F n one (ring F (Z ∷ zi ∷ U ∷ q ∷ n ∷ []) (search quote depth 40) refl)))

module _ (m : Modulus) where
  open K m use {El as A, mul as ◌*◌}

  infixl 70 ◌*◌
  pub lifted_is : (q : Quadratic) → Held m (Two q) → (z : Residue) → Settles m z (K m).one → Lifted m q (record { u1 = q.u1; u0 = q.u0; v1 = q.v1; v0 = q.v0; z = z })
  unfolding pair
  lifted_is q h z hz = record {
    kept = record { u1 = settled_kept m h.u.1.0; u0 = settled_kept m h.u.0; v1 = settled_kept m h.v.1.0; v0 = settled_kept m h.v.0; z = settled_kept m hz.settled };
    is = record {
      nonzero = λ e. one_ne m (sym hz.is ∙ e);
      a0 = el m q.u0;
      a1 = el m q.u1;
      c0 = el m q.v0;
      c1 = el m q.v1;
      is = refl;
      over = record { u0 = once (el m q.u0); u1 = once (el m q.u1); v0 = once (el m q.v0); v1 = once (el m q.v1) };
    };
  }
    where
      once : (a : A) → a ≡ el m z * a
      once a = sym (ap (λ t. t * a) hz.is ∙ (K m).one-mul a)

  pub divided_is : (t : Tuple) (i : Residue) → Inverts m t.z i → (q : Quadratic) → Held m (Two q) → el m q.u0 ≡ el m t.u0 * el m i → el m q.u1 ≡ el m t.u1 * el m i → el m q.v0 ≡ el m t.v0 * el m i → el m q.v1 ≡ el m t.v1 * el m i
      → Divided m t q
  unfolding pair
  divided_is t i hi q hq e0 e1 g0 g1 = record {
    held = hq;
    is = λ x h. (λ k. record { u = at h.over.u0 e0 k ∷ at h.over.u1 e1 k ∷ []; v = at h.over.v0 g0 k ∷ at h.over.v1 g1 k ∷ [] }) ∙ sym h.is;
  }
    where
      at : {U q n : A} → U ≡ el m t.z * n → q ≡ U * el m i → q ≡ n
      at {U} {q} {n} h e = quotient (K m) (el m t.z) (el m i) U q n h hi.is e

  -- ---- equal quotients
  pub same_plain : (t t' : Tuple) (q q' : Quadratic) → Divided m t q → Divided m t' q' → (x : Pair (modulo m.p)) → Quotients m t x → Quotients m t' x → Two q ≡ Two q'
  same_plain t t' q q' h h' x e e' = pair_inj m (Two q) (Two q') h.held h'.held (h.is x e ∙ sym (h'.is x e'))
