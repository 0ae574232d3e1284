-- The length of a Poly and the degree of what it stands for. Gives: the scan for the length; that lengths are exact (`length_le`,
-- `none_is`, `is_none`, `degree_of`); `recast`, the same value under another name and with a wider bound.
use Prim.Native.Nat.{ℕ, ◌+◌, ◌-◌, ◌<◌, ◌≤◌}
use mathlib.Core.Path.{◌≡◌, sym, ap, ◌∙◌}
use native.Mathlib.Omega.{arith}
use native.Mathlib.Decide.{ℕ_discrete, dec_le}
use Rattle.algebra.proofs.Poly.Bound.{Below}
use Rattle.algebra.proofs.Poly.Poly.{coef, coef_zer, poly_ext}
use Rattle.algebra.proofs.Poly.Term.{at}
use Rattle.algebra.proofs.Poly.Degree.{Degree}
use Rattle.field.specs.declared.Modulus.{Modulus}
use Rattle.algebra.proofs.Zmod.Prime.{Prime}
use Rattle.field.proofs.Laws.{residue_field}
use Rattle.poly.specs.declared.Poly.{Poly}
use Rattle.poly.specs.Polys.{K, P, pol, Ok, Is}

-- the arithmetic of counts, apart from the records of a proof, where `omega` has less to read
pub one_back : {k : ℕ} → 0 < k → k - 1 + 1 ≡ k
one_back l = omega arith

pub one_less : {k : ℕ} → 0 < k → k - 1 < k
one_less l = omega arith

pub one_on : {i n : ℕ} → i < n → i + 1 ≤ n
one_on l = omega arith

pub less_left : {i n : ℕ} → i < n → n - (i + 1) < n - i
less_left l = omega arith

pub within_one : {i n : ℕ} → i < n - 1 → i < n
within_one l = omega arith

pub last_in : {n r : ℕ} → 0 < n → n ≤ r → n - 1 < r
last_in l h = omega arith

pub all_in : {n d : ℕ} → d - 1 < n → d ≤ n
all_in l = omega arith

pub rest_of : (n d : ℕ) → 0 < d → n + 1 - d ≡ n - (d - 1)
rest_of n d l = omega arith

module _ (m : Modulus) where
  open K m use {El as A, zer as 𝟘}
  open P m use {El as Po, zer as 0P}

  abbrev cf : Po → ℕ → A
  cf v = coef (K m) v

  -- where the coefficient below the bound is zero, the bound falls
  pub less : (v : Po) (n : ℕ) → Below (K m) n (cf v) → cf v (n - 1) ≡ 𝟘 → Below (K m) (n - 1) (cf v)
  less v n b z k h = go (ℕ_discrete k (n - 1))
    where
      go : Dec (k ≡ n - 1) → cf v k ≡ 𝟘
      go (yes e) = ap (cf v) e ∙ z
      go (no d) = b k (omega arith)

  pub length_le : {r : Poly} {n : ℕ} → Ok m r → Below (K m) n (cf (pol m r)) → r.n ≤ n
  length_le {r} {n} h b = go (dec_le r.n n)
    where
      go : Dec (r.n ≤ n) → r.n ≤ n
      go (yes l) = l
      go (no l) = absurd (h.size.top (omega arith) (b (r.n - 1) (omega arith)))

  -- a Poly of no coefficients is zero, and zero has none
  pub none_is : {r : Poly} → Ok m r → r.n ≡ 0 → pol m r ≡ 0P
  none_is h e = poly_ext (K m) (λ k. h.size.end k (omega arith) ∙ sym (at (K m) (coef_zer (K m)) k))

  pub is_none : {r : Poly} → Ok m r → pol m r ≡ 0P → r.n ≡ 0
  is_none {r} h e = let l : r.n ≤ 0 = length_le h (λ k l. ap (λ v. cf v k) e ∙ at (K m) (coef_zer (K m)) k) in omega arith

  -- the same value under another name, and a wider bound
  pub recast : {r : Poly} {v w : Po} {i n : ℕ} → Is m r v i → v ≡ w → i ≤ n → Is m r w n
  recast h e l = record { ok = h.ok; is = h.is ∙ e; short = omega (arith, h.short) }

  pub degree_of : (prime : Prime m.p) (r : Poly) → Ok m r → 0 < r.n → Degree (residue_field m prime) (r.n - 1) (pol m r)
  degree_of g r h l = record { below = λ k i. h.size.end k (omega arith); top = h.size.top l }
