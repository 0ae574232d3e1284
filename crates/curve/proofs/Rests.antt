-- What f - v² leaves when it is divided by u. Gives: the first coefficients (`top_one_low` to `top_two_high`), and that all of them are f - v² (`rests_one`, `rests_two`).
use Prim.Native.Nat.{ℕ, ◌+◌, ◌-◌}
use mathlib.Core.Path.{◌≡◌, refl, subst}
use mathlib.Core.List.{List, [], ◌∷◌, ◌++◌}
use native.Mathlib.Omega.{arith}
use lib.ListN.{take}
use Rattle.algebra.proofs.List.Ops.{whole}
use Rattle.field.specs.declared.Residue.{Residue}
use Rattle.field.specs.Residues.{el, Kept, Settles}
use Rattle.field.proofs.Laws.{settled_kept}
use Rattle.divisor.specs.declared.Divisor.TheVariants.{One, Two}
use Rattle.divisor.specs.declared.Linear.{Linear}
use Rattle.divisor.specs.declared.Quadratic.{Quadratic}
use Rattle.divisor.specs.Divisors.{elements, pair}
use Rattle.divisor.specs.declared.Duo.{Duo}
use Rattle.curve.specs.division.Turns.{K, two, Leaves, Turned}
use Rattle.curve.proofs.division.Turned.{Less, Twice, begun, topped}
use Rattle.curve.specs.declared.Curve.{Curve}
use Rattle.curve.specs.Curves.{above}
use Rattle.curve.specs.Rests.{TopOne, TopTwo, Rests}
use Rattle.curve.proofs.Squares.{square_one, square_two}

module _ (c : Curve) where
  abbrev A : Type 0
  A = (K c.prime.m).El

  -- what genus 2 and genus 3 have above f4
  abbrev Above : (List A → Type 0) → ℕ → Type 0
  Above T n = T (elements c.prime.m (take n (c.f5 ∷ c.f6 ∷ [])))

  pub in_two : (T : List A → Type 0) → c.g ≡ 2 → Above T 0 → T (elements c.prime.m (above c))
  in_two T e x = subst (Above T) {x = 0} {y = c.g + c.g - 4} (omega arith) x

  pub in_three : (T : List A → Type 0) → (c.g ≡ 2 → ⊥) → Above T 2 → T (elements c.prime.m (above c))
  in_three T e x = subst (Above T) {x = 2} {y = c.g + c.g - 4} (omega (arith, c.genus.least, c.genus.most)) x

  module _ (o : Residue) (ho : Settles c.prime.m o (K c.prime.m).one) where
    abbrev kept : Kept c.prime.m o
    kept = settled_kept c.prime.m ho.settled

    module _ (d : Linear) where
      one_alone : Leaves c.prime.m (One d) ((K c.prime.m).one ∷ []) (o ∷ [])
      one_alone = topped c.prime.m (One d) [] o (begun c.prime.m (One d) (o ∷ []) (kept, tt) refl) ho.is

      pub top_one_low : c.g ≡ 2 → TopOne c d o
      top_one_low e = in_two (λ l. Leaves c.prime.m (One d) (l ++ ((K c.prime.m).one ∷ [])) (o ∷ [])) e one_alone

      pub top_one_high : (c.g ≡ 2 → ⊥) → (b r : Residue) → Turned c.prime.m (One d) c.f6 (o ∷ []) (b ∷ []) → Turned c.prime.m (One d) c.f5 (b ∷ []) (r ∷ []) → TopOne c d r
      top_one_high e b r x y = in_three (λ l. Leaves c.prime.m (One d) (l ++ ((K c.prime.m).one ∷ [])) (r ∷ [])) e (y.leaves _ (x.leaves _ one_alone))

    module _ (d : Quadratic) where
      -- f, then 1
      line_alone : (f : Residue) → Kept c.prime.m f → Leaves c.prime.m (Two d) (el c.prime.m f ∷ (K c.prime.m).one ∷ []) (f ∷ o ∷ [])
      line_alone f k = topped c.prime.m (Two d) (el c.prime.m f ∷ []) o (begun c.prime.m (Two d) (f ∷ o ∷ []) (k, (kept, tt)) refl) ho.is

      pub top_two_low : c.g ≡ 2 → TopTwo c d (record { c0 = c.f4; c1 = o })
      top_two_low e = in_two (λ l. Leaves c.prime.m (Two d) (el c.prime.m c.f4 ∷ (l ++ ((K c.prime.m).one ∷ []))) (c.f4 ∷ o ∷ [])) e (line_alone c.f4 (settled_kept c.prime.m c.settled.1.1.1.1.0))

      pub top_two_high : (c.g ≡ 2 → ⊥) → (b r : Duo) → Turned c.prime.m (Two d) c.f5 (c.f6 ∷ o ∷ []) (two b) → Turned c.prime.m (Two d) c.f4 (two b) (two r) → TopTwo c d r
      top_two_high e b r x y = in_three (λ l. Leaves c.prime.m (Two d) (el c.prime.m c.f4 ∷ (l ++ ((K c.prime.m).one ∷ []))) (two r)) e
          (y.leaves _ (x.leaves _ (line_alone c.f6 (settled_kept c.prime.m c.settled.1.1.1.1.1.1.0))))

  module _ (d : Linear) {a a4 a3 a2 a1 h0 r : Residue} where
    pub rests_one : TopOne c d a → Turned c.prime.m (One d) c.f4 (a ∷ []) (a4 ∷ []) → Turned c.prime.m (One d) c.f3 (a4 ∷ []) (a3 ∷ []) → Turned c.prime.m (One d) c.f2 (a3 ∷ []) (a2 ∷ []) → Turned c.prime.m (One d) c.f1 (a2 ∷ []) (a1 ∷ [])
        → Less c.prime.m h0 (el c.prime.m c.f0) (el c.prime.m d.v0) (el c.prime.m d.v0) → Turned c.prime.m (One d) h0 (a1 ∷ []) (r ∷ []) → Rests c (One d) (r ∷ [])
    unfolding pair whole
    rests_one top t4 t3 t2 t1 y0 t0 = record {
      list = el c.prime.m h0 ∷ el c.prime.m c.f1 ∷ el c.prime.m c.f2 ∷ el c.prime.m c.f3 ∷ el c.prime.m c.f4 ∷ (elements c.prime.m (above c) ++ ((K c.prime.m).one ∷ []));
      is = rw y0.is (square_one (K c.prime.m) (el c.prime.m c.f1 ∷ el c.prime.m c.f2 ∷ el c.prime.m c.f3 ∷ el c.prime.m c.f4 ∷ elements c.prime.m (above c)) (el c.prime.m c.f0) (el c.prime.m d.v0));
      leaves = t0.leaves _ (t1.leaves _ (t2.leaves _ (t3.leaves _ (t4.leaves _ top))));
    }

  module _ (d : Quadratic) {a a3 a2 a1 r : Duo} {h2 h1 h0 w0 : Residue} where
    pub rests_two : TopTwo c d a → Twice c.prime.m w0 d.v0 → Turned c.prime.m (Two d) c.f3 (two a) (two a3)
        → Less c.prime.m h2 (el c.prime.m c.f2) (el c.prime.m d.v1) (el c.prime.m d.v1) → Turned c.prime.m (Two d) h2 (two a3) (two a2)
        → Less c.prime.m h1 (el c.prime.m c.f1) (el c.prime.m w0) (el c.prime.m d.v1) → Turned c.prime.m (Two d) h1 (two a2) (two a1)
        → Less c.prime.m h0 (el c.prime.m c.f0) (el c.prime.m d.v0) (el c.prime.m d.v0) → Turned c.prime.m (Two d) h0 (two a1) (two r) → Rests c (Two d) (two r)
    unfolding pair whole
    rests_two top x0 t3 y2 t2 y1 t1 y0 t0 = record {
      list = el c.prime.m h0 ∷ el c.prime.m h1 ∷ el c.prime.m h2 ∷ el c.prime.m c.f3 ∷ el c.prime.m c.f4 ∷ (elements c.prime.m (above c) ++ ((K c.prime.m).one ∷ []));
      is = rw (y0.is, y1.is, y2.is, x0.is) (square_two (K c.prime.m) (el c.prime.m c.f3 ∷ el c.prime.m c.f4 ∷ elements c.prime.m (above c)) (el c.prime.m c.f0) (el c.prime.m d.v0) (el c.prime.m c.f1) (el c.prime.m c.f2) (el c.prime.m d.v1));
      leaves = t0.leaves _ (t1.leaves _ (t2.leaves _ (t3.leaves _ top)));
    }
