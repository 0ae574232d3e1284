-- A Poly built coefficient by coefficient: the one family that every loop over coefficients is proved by. The loop starts from residues
-- that stand for a and adds the coefficients of T, of length n, one at a time from place s on. Gives: `Built`, what holds after k of
-- them, with its beginning, its turn and its end, where the residues stand for a + x^s · T.
use Prim.Native.Nat.{ℕ, suc, ◌+◌, ◌-◌, ◌<◌, ◌≤◌, max}
use mathlib.Core.Path.{◌≡◌, refl, sym, ap, ap₂, ◌∙◌}
use mathlib.Core.List.{List, [], ◌∷◌}
use native.Mathlib.Omega.{arith}
use lib.ListN.{set, length, length-set}
use Rattle.algebra.proofs.Ring.CRing.{add_zer, mul_zer}
use Rattle.algebra.proofs.Ring.Quote.{ring, quote}
use Rattle.algebra.proofs.Poly.Bound.{Below}
use Rattle.algebra.proofs.Poly.Poly.{coef, coef_add}
use Rattle.algebra.proofs.Poly.Term.{at, term, coef_shift, term_mul}
use Rattle.algebra.proofs.Poly.Build.{part, part_all, part_below}
use Rattle.field.specs.declared.Residue.{Residue}
use Rattle.field.specs.declared.Modulus.{Modulus}
use Rattle.field.specs.Residues.{Stands}
use Rattle.poly.specs.Polys.{room, K, P, pol_l, Filled, Is}
use Rattle.poly.specs.Operations.{FilledTo, Size}
use Rattle.poly.proofs.Stored.{set_is, filled_set}

module _ (m : Modulus) (a T : (P m).El) (s n : ℕ) where
  open K m use {El as A, add as ◌⊕◌, mul as ◌⊗◌, zer as 𝟘, one as 𝟙}
  open P m use {El as Po, add as ◌+P◌, mul as ◌*P◌}

  infixl 65 ◌⊕◌
  infixl 70 ◌⊗◌
  infixl 65 ◌+P◌
  infixl 70 ◌*P◌
  abbrev cf : Po → ℕ → A
  cf v = coef (K m) v

  abbrev xs : Po
  xs = term (K m) 𝟙 s

  pub record Built (l : List Residue) (k : ℕ) : Type 0 where
    pub within : k ≤ n
    pub long : length l ≡ room
    pub fill : Filled m l
    pub is : pol_l m l ≡ a +P xs *P part (K m) k (cf T)

  pub build_begin : {l : List Residue} → length l ≡ room → Filled m l → pol_l m l ≡ a → Built l 0
  unfolding part
  build_begin e f h = record { within = omega arith; long = e; fill = f; is = h ∙ ring (P m) (a ∷ xs ∷ []) (search quote depth 40) refl }

  pub build_turn : {l : List Residue} {k j : ℕ} {y : Residue} → Built l k → k < n → s + n ≤ room → j ≡ s + k → Stands m y (cf (pol_l m l) j ⊕ cf T k) → Built (set l j y) (k + 1)
  unfolding part
  build_turn {l} {k} {j} {y} b lt fits ej hy = let in_l : j < length l = omega (arith, b.long) in record {
    within = omega arith;
    long = length-set l j y ∙ b.long;
    fill = filled_set m l j y in_l b.fill hy.kept;
    is = set_is m l j y in_l (cf T k) hy.is
        ∙ ap₂ ◌+P◌ b.is term_is
        ∙ ring (P m) (a ∷ xs ∷ part (K m) k (cf T) ∷ term (K m) (cf T k) k ∷ []) (search quote depth 40) refl
        ∙ ap (λ i. a +P xs *P part (K m) i (cf T)) {x = suc k} {y = k + 1} (omega arith);
  }
    where
      term_is : term (K m) (cf T k) j ≡ xs *P term (K m) (cf T k) k
      term_is = ap₂ (term (K m)) (sym ((K m).one-mul (cf T k))) ej ∙ sym (term_mul (K m) 𝟙 (cf T k) s k)

  -- the next place holds what it held at first
  pub build_next : {l : List Residue} {k : ℕ} → Built l k → cf (pol_l m l) (s + k) ≡ cf a (s + k)
  build_next {l} {k} b = ap (λ u. cf u (s + k)) b.is ∙ at (K m) (coef_add (K m) a (xs *P part (K m) k (cf T))) (s + k)
      ∙ ap (λ u. cf a (s + k) ⊕ u) (coef_shift (K m) 𝟙 s k (part (K m) k (cf T)) ∙ ap (λ u. 𝟙 ⊗ u) (part_below (K m) k (cf T) k (omega arith)) ∙ mul_zer (K m) 𝟙) ∙ add_zer (K m) (cf a (s + k))

  module _ (end : Below (K m) n (cf T)) where
    -- all of T is there
    pub build_is : {l : List Residue} {k : ℕ} → Built l k → n ≤ k → pol_l m l ≡ a +P xs *P T
    build_is {l} {k} b over = b.is ∙ ap (λ j. a +P xs *P part (K m) j (cf T)) {x = k} {y = n} (omega (arith, b.within)) ∙ ap (λ u. a +P xs *P u) (part_all (K m) n T end)

    module _ (i : ℕ) (start : Below (K m) i (cf a)) where
      pub sum_below : Below (K m) (max i (s + n)) (cf (a +P xs *P T))
      sum_below k l = at (K m) (coef_add (K m) a (xs *P T)) k
          ∙ ap₂ ◌⊕◌ (start k (omega arith)) (ap (cf (xs *P T)) {x = k} {y = s + (k - s)} (omega arith) ∙ coef_shift (K m) 𝟙 s (k - s) T ∙ ap (λ u. 𝟙 ⊗ u) (end (k - s) (omega arith)) ∙ mul_zer (K m) 𝟙)
          ∙ (K m).zer_add 𝟘

      module _ {l : List Residue} {k top : ℕ} (b : Built l k) (over : n ≤ k) (et : top ≡ max i (s + n)) where
        pub build_held : i ≤ room → s + n ≤ room → FilledTo m l top
        build_held hi hs = record { len = omega arith; fill = b.fill; end = λ j h. ap (λ u. cf u j) (build_is b over) ∙ sum_below j (omega arith) }

        pub build_end : {w : Po} {r : ℕ} → top ≤ room → Size m l top r → a +P xs *P T ≡ w → Is m (record { c = l; n = r }) w (max i (s + n))
        build_end hr z e = record { ok = record { len = omega (arith, z.within); fill = b.fill; size = z.size }; is = build_is b over ∙ e; short = omega (arith, z.within) }
