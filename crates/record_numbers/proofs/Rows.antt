-- The numbers of a record as residues. Gives: the loop over them, and their elements of Z/p.
use Prim.Native.Nat.{ℕ, zero, suc, ◌+◌, ◌*◌, ◌≤◌, ◌<◌}
use mathlib.Core.Path.{◌≡◌, refl, sym, ap₂, ◌∙◌, subst}
use mathlib.Core.List.{List, [], ◌∷◌}
use Rattle.std.specs.Prelude.{Some, None}
use native.Mathlib.Omega.{arith}
use borrow.Author.Count.{below_more}
use native.Mathlib.Decide.{ℕ_discrete}
use lib.ListN.{get_or, length, take, drop, set, replicate, length-set, get_or-replicate}
use lib.Seq.{get_or-set_same, get_or-set_other, get_or-drop}
use Rattle.algebra.proofs.Zmod.Zmod.{emb}
use Rattle.rules.specs.Bytes.{word64, words}
use Rattle.rules.specs.Records.{elements}
use Rattle.field.specs.declared.Modulus.{Modulus}
use Rattle.field.specs.declared.Residue.{Residue}
use Rattle.field.specs.Residues.{Settled, Settles}
use Rattle.divisor.specs.Divisors.{elements as values, AllSettled}
use Rattle.record_bytes.proofs.Rows.{all_below, one_above}
use Rattle.record_numbers.specs.Read.{ResiduesIs}

-- ---- the loop: the first k numbers are below p, and r holds them
pub record Filled (s : List ℕ) (a n : ℕ) (m : Modulus) (r : List Residue) (k : ℕ) : Type 0 where
  pub within : k ≤ n
  pub long : length r ≡ 6
  pub settled : (j : ℕ) → j < 6 → (z : Residue) → Settled m (get_or r j z)
  pub below : (j : ℕ) → j < k → word64 s (a + 8 * j) < m.p
  pub held : (j : ℕ) → j < k → (z : Residue) → Settles m (get_or r j z) (emb m.p (word64 s (a + 8 * j)))

module _ (s : List ℕ) (a n : ℕ) (m : Modulus) where
  pub fill_stop : (r : List Residue) (k : ℕ) → Filled s a n m r k → k < n → m.p ≤ word64 s (a + 8 * k) → ResiduesIs s a n m None
  fill_stop r k h l v = one_above s m.p a n k l v

  pub fill_end : (r : List Residue) (k : ℕ) → Filled s a n m r k → n ≤ k → ResiduesIs s a n m (Some r)
  fill_end r k h l = record { long = h.long; settled = λ j z i. h.settled j i z; below = all_below s m.p a n (λ j i. h.below j (omega arith)); held = λ j z i. h.held j (omega arith) z }

-- ---- residues that hold numbers in a row
module _ (m : Modulus) (s : List ℕ) where
  abbrev pub Holding : List Residue → ℕ → ℕ → Type 0
  Holding l b n = (k : ℕ) → k < n → (z : Residue) → Settles m (get_or l k z) (emb m.p (word64 s (b + 8 * k)))

  moved : (r : Residue) (u v : ℕ) → u ≡ v → Settles m r (emb m.p (word64 s u)) → Settles m r (emb m.p (word64 s v))
  moved r u v e h = subst (λ (t : ℕ). Settles m r (emb m.p (word64 s t))) e h

  first : (x : Residue) (l : List Residue) (b n : ℕ) → Holding (x ∷ l) b (suc n) → Settles m x (emb m.p (word64 s b))
  first x l b n h = moved x (b + 8 * 0) b (omega arith) (h 0 (omega arith) x)

  others : (x : Residue) (l : List Residue) (b n : ℕ) → Holding (x ∷ l) b (suc n) → Holding l (b + 8) n
  others x l b n h k i z = moved (get_or l k z) (b + 8 * suc k) (b + 8 + 8 * k) (omega arith) (h (suc k) (omega arith) z)

  pub held_elements : (l : List Residue) (b n : ℕ) → n ≤ length l → Holding l b n → values m (take n l) ≡ elements m.p (words s b n)
  unfolding words elements
  held_elements l b zero i h = refl
  held_elements [] b (suc n) i h = absurd (omega arith)
  held_elements (x ∷ l) b (suc n) i h = ap₂ ◌∷◌ (first x l b n h).is (held_elements l (b + 8) n (omega arith) (others x l b n h))

  pub held_settled : (l : List Residue) (b n : ℕ) → n ≤ length l → Holding l b n → AllSettled m (take n l)
  held_settled l b zero i h = tt
  held_settled [] b (suc n) i h = absurd (omega arith)
  held_settled (x ∷ l) b (suc n) i h = ((first x l b n h).settled, held_settled l (b + 8) n (omega arith) (others x l b n h))

  -- those behind the first w
  pub held_behind : (l : List Residue) (b w n : ℕ) → Holding l b (w + n) → Holding (drop w l) (b + 8 * w) n
  held_behind l b w n h k i z = subst (λ t. Settles m t (emb m.p (word64 s (b + 8 * w + 8 * k)))) (sym (get_or-drop w l k z)) (moved (get_or l (w + k) z) (b + 8 * (w + k)) (b + 8 * w + 8 * k) (omega arith) (h (w + k) (omega arith) z))
