-- Euclid without cofactors: under way the pair x, y has the common divisors of a and b, and at the end, y being zero, x is their greatest common divisor up to a
-- constant; where y is a constant, y is. Made monic it is the greatest common divisor.
use Prim.Native.Nat.{◌<◌, ◌≤◌, max}
use mathlib.Core.Path.{◌≡◌, refl, sym, ap, ◌∙◌}
use mathlib.Core.List.{[], ◌∷◌}
use native.Mathlib.Omega.{arith}
use Rattle.algebra.proofs.Ring.Quote.{ring, quote, by}
use Rattle.algebra.proofs.Ring.Divides.{Divides, divides_zer, divides_add, divides_neg, divides_mul, divides_trans, divides_eq}
use Rattle.algebra.proofs.Poly.Term.{C, constants}
use Rattle.algebra.proofs.Zmod.Prime.{Prime}
use Rattle.field.specs.declared.Modulus.{Modulus}
use Rattle.poly.specs.declared.Poly.{Poly}
use Rattle.poly.specs.Polys.{K, P, pol, Ok}
use Rattle.poly.specs.Operations.{Divided, MonicBy}
use Rattle.poly.proofs.Lengths.{none_is}
use Rattle.poly_euclid.specs.Euclid.{ToDivideBy, Shared, Gcd}
use Rattle.poly_euclid.proofs.Constant.{divides_all}

module _ (m : Modulus) where
  open K m use {El as A}
  open P m use {El as Po, add as ◌+P◌, mul as ◌*P◌, neg as negP, one as 1P}

  infixl 65 ◌+P◌
  infixl 70 ◌*P◌
  infixl 20 ◌∣◌
  abbrev ◌∣◌ : Po → Po → Type 0
  h ∣ a = Divides (P m) h a

  -- the pair x, y has the common divisors of a, b
  pub record Euclid (a b x y : Poly) : Type 0 where
    pub ok_x : Ok m x
    pub ok_y : Ok m y
    pub forth : (h : Po) → h ∣ pol m a → h ∣ pol m b → (h ∣ pol m x) × (h ∣ pol m y)
    pub back : (h : Po) → h ∣ pol m x → h ∣ pol m y → (h ∣ pol m a) × (h ∣ pol m b)
    pub short_x : x.n ≤ max a.n b.n
    pub short_y : y.n ≤ max a.n b.n

  pub euclid_begin : (a b : Poly) → Ok m a → Ok m b → Euclid a b a b
  euclid_begin a b ha hb = record { ok_x = ha; ok_y = hb; forth = λ h da db. (da, db); back = λ h da db. (da, db); short_x = omega arith; short_y = omega arith }

  module _ {a b x y : Poly} (v : Euclid a b x y) where
    pub to_divide_by : 0 < y.n → ToDivideBy m x y
    to_divide_by l = record { left = v.ok_x; right = v.ok_y; some = l }

    pub euclid_turn : {q e : Poly} → Divided m x y q e → Euclid a b y e
    euclid_turn {q} {e} d = record {
      ok_x = v.ok_y;
      ok_y = d.ok_r;
      forth = λ h da db. let w : (h ∣ pol m x) × (h ∣ pol m y) = v.forth h da db in (w.1, divides_eq (P m) (sym rest_is) (divides_add (P m) w.0 (divides_neg (P m) (divides_mul (P m) (pol m q) w.1))));
      back = λ h dy de. v.back h (divides_eq (P m) (sym d.is) (divides_add (P m) (divides_mul (P m) (pol m q) dy) de)) dy;
      short_x = v.short_y;
      short_y = omega (arith, d.less, v.short_x);
    }
      where
        rest_is : pol m e ≡ pol m x +P negP (pol m q *P pol m y)
        rest_is = by (P m) (negP 1P) d.is (ring (P m) (pol m x ∷ pol m q ∷ pol m y ∷ pol m e ∷ []) (search quote depth 40) refl)

    -- y is zero
    pub euclid_end : y.n ≡ 0 → Shared m a b x
    euclid_end e = record { ok = v.ok_x; left = both.0; right = both.1; greatest = λ h da db. (v.forth h da db).0; short = v.short_x }
      where
        both : (pol m x ∣ pol m a) × (pol m x ∣ pol m b)
        both = v.back (pol m x) (record { factor = 1P; is = sym ((P m).one-mul (pol m x)) }) (divides_eq (P m) (sym (none_is m v.ok_y e)) (divides_zer (P m) (pol m x)))

    -- y is a constant
    pub euclid_stop : Prime m.p → y.n ≡ 1 → Shared m a b y
    euclid_stop prime e = record { ok = v.ok_y; left = divides_all m prime v.ok_y e (pol m a); right = divides_all m prime v.ok_y e (pol m b); greatest = λ h da db. (v.forth h da db).1; short = v.short_y }

  -- made monic
  pub shared_monic : {a b x g : Poly} {up : A} → Shared m a b x → MonicBy m up x g → Gcd m a b g
  shared_monic {a} {b} {x} {g} {up} s o = record {
    ok = o.ok;
    left = divides_trans (P m) divides_x s.left;
    right = divides_trans (P m) divides_x s.right;
    greatest = λ h da db. divides_eq (P m) (sym o.is) (divides_mul (P m) (C (K m) up) (s.greatest h da db));
    lead = o.lead;
    short = omega (arith, o.same, s.short);
  }
    where
      divides_x : pol m g ∣ pol m x
      divides_x = record {
        factor = C (K m) o.down;
        is = sym (ap (λ t. C (K m) o.down *P t) o.is ∙ sym ((P m).mul_assoc (C (K m) o.down) (C (K m) up) (pol m x)) ∙ ap (λ t. t *P pol m x) (sym ((constants (K m)).h_mul o.down up) ∙ ap (C (K m)) o.unit ∙ (constants (K m)).h_one) ∙ (P m).one-mul (pol m x));
      }
