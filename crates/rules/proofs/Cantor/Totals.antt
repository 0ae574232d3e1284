-- L7, totals and multiples of valid pairs: the laws of an abelian group (algebra, group/), said of the rules themselves. Gives: totals in any
-- order and by any parts; (m + n)-fold and mn-fold; that all of them are valid.
-- Open: `AllValid`.
use Prim.Native.Nat.{ℕ, zero, suc, ◌+◌, ◌*◌}
use mathlib.Core.Path.{◌≡◌, refl, sym, ap, ap₂, ◌∙◌, subst}
use mathlib.Core.List.{List, [], ◌∷◌, ◌++◌, map, foldl, flatten, Perm, Permᴰ}
use mathlib.Core.Logic.{∥∥₁_elim}
use Rattle.algebra.proofs.Group.Total.{total_perm, total_append}
use Rattle.algebra.proofs.Group.Multiple.{nfold, nfold_add, nfold_mul}
use Rattle.rules.specs.Curve.{Curve}
use Rattle.rules.specs.Pair.{Pair, Valid, neutral}
use Rattle.rules.specs.Sum.{sum}
use Rattle.rules.specs.Multiple.{multiple, total}
use Rattle.rules.proofs.Cantor.Accepted.{Accepted}
use Rattle.rules.proofs.Cantor.Group.{Divisor, divisor_path, pair_set, neutral_sum, jacobian}

abbrev pub AllValid : (E : Curve) → List (Pair E.K) → Type 0
AllValid E [] = Unit {0}
AllValid E (a ∷ l) = Valid E a × AllValid E l

module _ (E : Curve) (h : Accepted E) where
  abbrev D : Type 0
  D = Pair E.K

  -- ---- lists of valid pairs as lists of divisors, and back
  with_proof : (l : List D) → AllValid E l → List (Divisor E h)
  with_proof [] v = []
  with_proof (a ∷ l) v = (a, v.0) ∷ with_proof l v.1

  total_is : (l : List D) (v : AllValid E l) (s : Divisor E h) → (foldl (jacobian E h).sum s (with_proof l v)).0 ≡ foldl (sum E) s.0 l
  unfolding with_proof
  total_is [] v s = refl
  total_is (a ∷ l) v s = total_is l v.1 ((jacobian E h).sum s (a, v.0))

  pub total_valid : (l : List D) → AllValid E l → Valid E (total E l)
  unfolding total
  total_valid l v = subst (Valid E) (total_is l v (jacobian E h).zer) (foldl (jacobian E h).sum (jacobian E h).zer (with_proof l v)).1

  -- ---- in any order
  lift : {l m : List D} → Permᴰ l m → (v : AllValid E l) → (w : AllValid E m) × Permᴰ (with_proof l v) (with_proof m w)
  unfolding with_proof
  lift Permᴰ.nil v = (v, Permᴰ.nil)
  lift (Permᴰ.cons {a = a} {b = b} e d) v = let r = lift d v.1 in
      ((subst (Valid E) e v.0, r.0), Permᴰ.cons (divisor_path E h {a = (a, v.0)} {b = (b, subst (Valid E) e v.0)} e) r.1)
  lift (Permᴰ.swap {a = a} {b = b} {a' = a'} {b' = b'} e e') v = let va' : Valid E a' = subst (Valid E) e' v.1.0 in let vb' : Valid E b' = subst (Valid E) e v.0 in
      ((va', (vb', v.1.1)), Permᴰ.swap (divisor_path E h {a = (a, v.0)} {b = (b', vb')} e) (divisor_path E h {a = (b, v.1.0)} {b = (a', va')} e'))
  lift (Permᴰ.trans d d') v = let r = lift d v in let s = lift d' r.0 in (s.0, Permᴰ.trans r.1 s.1)

  pub total_order : {l m : List D} → AllValid E l → Perm l m → total E l ≡ total E m
  unfolding total
  total_order {l} {m} v p = ∥∥₁_elim p (pair_set E h (total E l) (total E m)) (λ d. go d (lift d v))
    where
      go : (d : Permᴰ l m) → (w : AllValid E m) × Permᴰ (with_proof l v) (with_proof m w) → foldl (sum E) neutral l ≡ foldl (sum E) neutral m
      go d r = sym (total_is l v (jacobian E h).zer) ∙ ap (λ (x : Divisor E h). x.0) (total_perm (jacobian E h) ∣ r.1 ∣₁) ∙ total_is m r.0 (jacobian E h).zer

  -- ---- by any parts
  front : (l m : List D) → AllValid E (l ++ m) → AllValid E l
  front [] m v = tt
  front (a ∷ l) m v = (v.0, front l m v.1)

  back : (l m : List D) → AllValid E (l ++ m) → AllValid E m
  back [] m v = v
  back (a ∷ l) m v = back l m v.1

  with_append : (l m : List D) (v : AllValid E (l ++ m)) → with_proof (l ++ m) v ≡ with_proof l (front l m v) ++ with_proof m (back l m v)
  unfolding with_proof front back
  with_append [] m v = refl
  with_append (a ∷ l) m v = ap (λ (x : List (Divisor E h)). (a, v.0) ∷ x) (with_append l m v.1)

  total_two : (l m : List D) → AllValid E (l ++ m) → total E (l ++ m) ≡ sum E (total E l) (total E m)
  unfolding total
  total_two l m v = sym (total_is (l ++ m) v (jacobian E h).zer)
      ∙ ap (λ (x : Divisor E h). x.0) (ap (foldl (jacobian E h).sum (jacobian E h).zer) (with_append l m v)
      ∙ total_append (jacobian E h) (with_proof l (front l m v)) (with_proof m (back l m v)))
      ∙ ap₂ (sum E) (total_is l (front l m v) (jacobian E h).zer) (total_is m (back l m v) (jacobian E h).zer)

  total_cons : (a : D) (l : List D) → Valid E a → AllValid E l → total E (a ∷ l) ≡ sum E a (total E l)
  unfolding total
  total_cons a l va v = total_two (a ∷ []) l (va, v) ∙ ap (λ (x : D). sum E x (total E l)) (neutral_sum E h a va)

  parts_valid : (p : List (List D)) → AllValid E (flatten p) → AllValid E (map (total E) p)
  unfolding flatten
  parts_valid [] v = tt
  parts_valid (l ∷ p) v = (total_valid l (front l (flatten p) v), parts_valid p (back l (flatten p) v))

  total_split : (p : List (List D)) → AllValid E (flatten p) → total E (flatten p) ≡ total E (map (total E) p)
  unfolding flatten
  total_split [] v = refl
  total_split (l ∷ p) v = total_two l (flatten p) v ∙ ap (sum E (total E l)) (total_split p (back l (flatten p) v))
      ∙ sym (total_cons (total E l) (map (total E) p) (total_valid l (front l (flatten p) v)) (parts_valid p (back l (flatten p) v)))

  -- and in any order
  pub total_parts : (l : List D) (p : List (List D)) → AllValid E l → Perm l (flatten p) → total E l ≡ total E (map (total E) p)
  total_parts l p v q = ∥∥₁_elim q (pair_set E h (total E l) (total E (map (total E) p))) (λ d. total_order v q ∙ total_split p (lift d v).0)

  -- ---- multiples
  module _ (a : D) (va : Valid E a) where
    pub multiple_is : (n : ℕ) → (nfold (jacobian E h) n (a, va)).0 ≡ multiple E n a
    unfolding multiple
    multiple_is zero = refl
    multiple_is (suc n) = ap (λ (x : D). sum E x a) (multiple_is n)

    pub multiple_valid : (n : ℕ) → Valid E (multiple E n a)
    multiple_valid n = subst (Valid E) (multiple_is n) (nfold (jacobian E h) n (a, va)).1

    pub multiple_add : (m n : ℕ) → multiple E (m + n) a ≡ sum E (multiple E m a) (multiple E n a)
    multiple_add m n = sym (multiple_is (m + n)) ∙ ap (λ (x : Divisor E h). x.0) (nfold_add (jacobian E h) m n (a, va)) ∙ ap₂ (sum E) (multiple_is m) (multiple_is n)

  pub multiple_mul : (a : D) → Valid E a → (m n : ℕ) → multiple E (m * n) a ≡ multiple E m (multiple E n a)
  multiple_mul a va m n = sym (multiple_is a va (m * n)) ∙ ap (λ (x : Divisor E h). x.0) (nfold_mul (jacobian E h) m n (a, va) ∙ ap (nfold (jacobian E h) m) same)
      ∙ multiple_is (multiple E n a) (multiple_valid a va n) m
    where
      same : nfold (jacobian E h) n (a, va) ≡ (multiple E n a, multiple_valid a va n)
      same = divisor_path E h (multiple_is a va n)
