-- Genus 3: i and r as the steps make them invert u modulo the other u (`inverted`), and 2v modulo u (`inverted_twice`). x is what is handed back.
use mathlib.Core.Path.{◌≡◌}
use Rattle.algebra.proofs.Zmod.Prime.{Prime}
use Rattle.field.specs.declared.Modulus.{Modulus}
use Rattle.field.specs.Residues.{el, Settled}
use Rattle.field.proofs.Laws.{residue_field}
use Rattle.sum_formulas.proofs.Coprime3.{square-none, r3_none, r3_none_twice}
use Rattle.sum_formulas.proofs.Open3.{invert_is, tangent_is}
use Rattle.divisor.specs.declared.Cubic.{Cubic}
use Rattle.sum_genus3_open.specs.declared.Bezout.{Bezout}
use Rattle.sum_genus3_open.specs.Opens.{K, u_of, twice, Inner, Inverts}

module _ (m : Modulus) (good : Prime m.p) (a b : Cubic) (x : Bezout) where
  open K m use {El as A, add as ◌+◌, mul as ◌*◌, neg}

  infixl 65 ◌+◌
  infixl 65 ◌-◌
  infixl 70 ◌*◌
  abbrev ◌-◌ : A → A → A
  s - t = s + neg t

  abbrev a0 : A
  a0 = el m a.u0

  abbrev a1 : A
  a1 = el m a.u1

  abbrev a2 : A
  a2 = el m a.u2

  abbrev b0 : A
  b0 = el m b.u0

  abbrev b1 : A
  b1 = el m b.u1

  abbrev b2 : A
  b2 = el m b.u2

  abbrev c0 : A
  c0 = el m a.v0

  abbrev c1 : A
  c1 = el m a.v1

  abbrev c2 : A
  c2 = el m a.v2

  abbrev e0 : A
  e0 = el m x.e0

  abbrev e1 : A
  e1 = el m x.e1

  abbrev e2 : A
  e2 = el m x.e2

  abbrev i0 : A
  i0 = el m x.i0

  abbrev r : A
  r = el m x.r

  pub inverted : (t1 t2 t3 t4 t5 t8 : A) → Inner m b x → Settled m x.r → t1 ≡ a1 * b0 - a0 * b1 → t2 ≡ a2 * b0 - a0 * b2 → t3 ≡ b0 - a0 → t4 ≡ b1 - a1 → t5 ≡ b2 - a2 → t8 ≡ a2 * b1 - a1 * b2 + t3 → e2 ≡ t5 * t8 - t4 * t4
      → e1 ≡ t3 * t4 - t2 * t5 → e0 ≡ t1 * t5 - t3 * t3 → r ≡ b0 * (t4 * e2 + t5 * e1) - t3 * i0 → Inverts m (u_of m a) b x
  inverted t1 t2 t3 t4 t5 t8 hi hr h1 h2 h3 h4 h5 h8 k2 k1 k0 k =
      let is = invert_is (K m) a0 a1 a2 b0 b1 b2 t1 t2 t3 t4 t5 t8 e2 e1 e0 i0 r h1 h2 h3 h4 h5 h8 k2 k1 k0 hi.low k in
      record {
        inner_is = hi;
        settled = hr;
        j = _;
        is = is;
        none = r3_none (K m) (residue_field m good).one_ne (square-none (residue_field m good)) a0 a1 a2 b0 b1 b2 t1 t2 t3 t4 t5 t8 e2 e1 e0 i0 r _ h1 h2 h3 h4 h5 h8 k2 k1 k0 hi.low is;
      }

  pub inverted_twice : (t1 t2 t5 k : A) → Inner m a x → Settled m x.r → t1 ≡ a1 * c0 - a0 * c1 → t2 ≡ a2 * c0 - a0 * c2 → t5 ≡ a2 * c1 - a1 * c2 + c0 → e2 ≡ c1 * c1 - c2 * t5 → e1 ≡ c2 * t2 - c1 * c0 → e0 ≡ c0 * c0 - c2 * t1
      → k ≡ c0 * i0 - a0 * (e2 * c1 + e1 * c2) → r ≡ k + k → Inverts m (twice m a) a x
  inverted_twice t1 t2 t5 k hi hr h1 h2 h5 k2 k1 k0 hk h =
      let is = tangent_is (K m) a0 a1 a2 c0 c1 c2 t1 t2 t5 e2 e1 e0 i0 k r h1 h2 h5 k2 k1 k0 hi.low hk h in
      record {
        inner_is = hi;
        settled = hr;
        j = _;
        is = is;
        none = r3_none_twice (K m) (residue_field m good).one_ne (square-none (residue_field m good)) a0 a1 a2 c0 c1 c2 t1 t2 t5 e2 e1 e0 i0 r _ h1 h2 h5 k2 k1 k0 hi.low is;
      }
