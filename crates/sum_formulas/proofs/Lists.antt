-- Identities of K[x] by coefficients. A polynomial is written as an expression `Px` over lists; `val` is what it means in K[x], `lst` its coefficients,
-- worked out. Gives: where the coefficients of two expressions agree they are equal (`equal_by`), where they agree from place n on
-- their difference is below n (`below_by`). What is left is an equation of K for each place, small enough for the ring normaliser.
-- Open: `val`, `lst`, `Agree`. Under `unfolding add_l mul_l neg_l scale_l whole` the equations of `Agree` stand there to be answered.
use Prim.Native.Nat.{ℕ, zero, suc, ◌≤◌, zero-le}
use mathlib.Core.Path.{◌≡◌, refl, sym, ap, ap₂, ◌∙◌}
use mathlib.Core.List.{List, [], ◌∷◌}
use native.Mathlib.Omega.{arith}
use lib.ListN.{get_or}
use Rattle.algebra.proofs.Ring.CRing.{CRing, add_neg}
use Rattle.algebra.proofs.Poly.Series.{add_s}
use Rattle.algebra.proofs.Poly.Bound.{Below}
use Rattle.algebra.proofs.Poly.Poly.{poly, coef, poly_ext, coef_add, coef_neg}
use Rattle.algebra.proofs.Poly.Term.{at, C}
use Rattle.algebra.proofs.List.Ops.{add_l, mul_l, neg_l, whole}
use Rattle.algebra.proofs.List.Value.{pol, mon, coef_pol, pol_whole, pol_add, pol_mul, pol_neg}
use Rattle.algebra.proofs.List.Short.{pol1}

module _ (F : CRing) where
  open F use {El as A, zer as 𝟘}
  open poly F use {El as P, add as ◌⊕◌, mul as ◌*◌, neg}

  infixl 65 ◌⊕◌
  infixl 70 ◌*◌
  pub data Px : Type 0 where
    lo : List A → Px
    mo : List A → Px
    co : A → Px
    pl : Px → Px → Px
    ti : Px → Px → Px
    ne : Px → Px

  abbrev pub val : Px → P
  val (lo l) = pol F l
  val (mo l) = mon F l
  val (co a) = C F a
  val (pl a b) = val a ⊕ val b
  val (ti a b) = val a * val b
  val (ne a) = neg (val a)

  abbrev pub lst : Px → List A
  lst (lo l) = l
  lst (mo l) = whole F l
  lst (co a) = a ∷ []
  lst (pl a b) = add_l F (lst a) (lst b)
  lst (ti a b) = mul_l F (lst a) (lst b)
  lst (ne a) = neg_l F (lst a)

  pub listed : (e : Px) → val e ≡ pol F (lst e)
  listed (lo l) = refl
  listed (mo l) = sym (pol_whole F l)
  listed (co a) = sym (pol1 F a)
  listed (pl a b) = ap₂ ◌⊕◌ (listed a) (listed b) ∙ sym (pol_add F (lst a) (lst b))
  listed (ti a b) = ap₂ ◌*◌ (listed a) (listed b) ∙ sym (pol_mul F (lst a) (lst b))
  listed (ne a) = ap neg (listed a) ∙ sym (pol_neg F (lst a))

  -- the same coefficients from place n on, zeros behind the end
  abbrev pub Agree : ℕ → List A → List A → Type 0
  Agree zero [] [] = Unit {0}
  Agree zero [] (b ∷ m) = (𝟘 ≡ b) × Agree zero [] m
  Agree zero (a ∷ l) [] = (a ≡ 𝟘) × Agree zero l []
  Agree zero (a ∷ l) (b ∷ m) = (a ≡ b) × Agree zero l m
  Agree (suc n) [] [] = Unit {0}
  Agree (suc n) [] (b ∷ m) = Agree n [] m
  Agree (suc n) (a ∷ l) [] = Agree n l []
  Agree (suc n) (a ∷ l) (b ∷ m) = Agree n l m

  agree_at : (n : ℕ) (l m : List A) → Agree n l m → (k : ℕ) → n ≤ k → get_or l k 𝟘 ≡ get_or m k 𝟘
  agree_at zero [] [] h k i = refl
  agree_at zero [] (b ∷ m) h zero i = h.0
  agree_at zero [] (b ∷ m) h (suc k) i = agree_at zero [] m h.1 k zero-le
  agree_at zero (a ∷ l) [] h zero i = h.0
  agree_at zero (a ∷ l) [] h (suc k) i = agree_at zero l [] h.1 k zero-le
  agree_at zero (a ∷ l) (b ∷ m) h zero i = h.0
  agree_at zero (a ∷ l) (b ∷ m) h (suc k) i = agree_at zero l m h.1 k zero-le
  agree_at (suc n) [] [] h k i = refl
  agree_at (suc n) [] (b ∷ m) h zero i = absurd (omega arith)
  agree_at (suc n) [] (b ∷ m) h (suc k) i = agree_at n [] m h k (omega arith)
  agree_at (suc n) (a ∷ l) [] h zero i = absurd (omega arith)
  agree_at (suc n) (a ∷ l) [] h (suc k) i = agree_at n l [] h k (omega arith)
  agree_at (suc n) (a ∷ l) (b ∷ m) h zero i = absurd (omega arith)
  agree_at (suc n) (a ∷ l) (b ∷ m) h (suc k) i = agree_at n l m h k (omega arith)

  pub equal_by : (a b : Px) → Agree 0 (lst a) (lst b) → val a ≡ val b
  equal_by a b h = listed a ∙ poly_ext F (λ k. coef_pol F (lst a) k ∙ agree_at 0 (lst a) (lst b) h k zero-le ∙ sym (coef_pol F (lst b) k)) ∙ sym (listed b)

  pub below_by : (n : ℕ) (a b : Px) → Agree n (lst a) (lst b) → Below F n (coef F (val a ⊕ neg (val b)))
  below_by n a b h k i = at F (coef_add F (val a) (neg (val b)) ∙ ap (add_s F (coef F (val a))) (coef_neg F (val b))) k
      ∙ ap₂ (λ (s t : A). F.add s (F.neg t)) (at F (ap (coef F) (listed a)) k ∙ coef_pol F (lst a) k ∙ agree_at n (lst a) (lst b) h k i) (at F (ap (coef F) (listed b)) k ∙ coef_pol F (lst b) k)
      ∙ add_neg F (get_or (lst b) k 𝟘)
