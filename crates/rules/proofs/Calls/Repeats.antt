-- The first repeat, over any relation that says which two are the same and any test that decides it. Gives: the rule's answer is the least j,
-- then the least i < j, or none (`first_is`), and only one answer is (`first_is_unique`); so whoever finds it has the rule's. Then of the
-- rule's own relation: none exactly where no two are the same (`no_repeat_at`), a pair exactly where it is the first (`repeat_at`).
-- Places are counted from 0 in the facts, and the answer counts them from 1.
use Prim.Native.Nat.{ℕ, zero, suc, ◌≤◌, ◌<◌}
use mathlib.Core.Path.{◌≡◌, refl, sym, ap, ap₂, ◌∙◌, subst, subst₂}
use mathlib.Core.List.{List, [], ◌∷◌, ◌++◌, map, foldl, flatten, append-nil}
use mathlib.Core.Bool.{Bool, true, false, false≢true}
use mathlib.Core.Logic.{◌↔◌}
use native.Mathlib.Omega.{arith}
use native.Mathlib.Decide.{dec_lt}
use lib.ListN.{get_or, length, length-append, get_or-append}
use lib.Seq.{get_or_at, append_snoc}
use Rattle.algebra.proofs.Ring.Field.{Arith}
use Rattle.algebra.proofs.Zmod.PrimeField.{modulo}
use Rattle.rules.specs.Pair.{Pair, neutral}
use Rattle.rules.specs.Records.{taken, choose, CurveRecord, PairOf, read_curve}
use Rattle.rules.specs.First.{Repeat, Clear, FirstAt, FirstIs}
use Rattle.rules.specs.Lists.{Same, is_same, place_of, repeat_from, first_repeat}
use Rattle.rules.specs.Calls.{done, Reply, deliver, repeat_call}
use Rattle.rules.proofs.Calls.Batches.{pair_of, AllRecords, batch_records}
use Rattle.rules.proofs.Calls.Refusals.{on_taken}
use Rattle.rules.proofs.Calls.Same.{same_decides}

abbrev answer : ℕ → ℕ → Repeat
answer i j = record { first = i; second = j }

-- ---- there is only one first repeat among n places
module _ (R : ℕ → ℕ → Type 0) where
  late : {n : ℕ} (i j i' j' : ℕ) → FirstAt R n i j → FirstAt R n i' j' → j ≤ j'
  late i j i' j' f f' = go (dec_lt j' j)
    where
      go : Dec (j' < j) → j ≤ j'
      go (yes k) = absurd (f.least_j j' k i' f'.before f'.same)
      go (no k) = omega arith

  low : {n : ℕ} (i j i' j' : ℕ) → j ≡ j' → FirstAt R n i j → FirstAt R n i' j' → i ≤ i'
  low i j i' j' e f f' = go (dec_lt i' i)
    where
      go : Dec (i' < i) → i ≤ i'
      go (yes k) = absurd (f.least_i i' k (subst (R i') (sym e) f'.same))
      go (no k) = omega arith

  pub first_is_unique : (n : ℕ) (r r' : Repeat) → FirstIs R n r → FirstIs R n r' → r ≡ r'
  first_is_unique n r r' = go r.first r.second r'.first r'.second
    where
      go : (a b a' b' : ℕ) → FirstIs R n (answer a b) → FirstIs R n (answer a' b') → answer a b ≡ answer a' b'
      go a zero a' zero h h' = ap₂ answer (h.0 ∙ sym h'.0) refl
      go a zero zero (suc j') h h' = absurd h'
      go a zero (suc i') (suc j') h h' = absurd (h.1 j' h'.within i' h'.before h'.same)
      go zero (suc j) a' b' h h' = absurd h
      go (suc i) (suc j) a' zero h h' = absurd (h'.1 j h.within i h.before h.same)
      go (suc i) (suc j) zero (suc j') h h' = absurd h'
      go (suc i) (suc j) (suc i') (suc j') h h' =
          let e : j ≡ j' = omega (arith, late i j i' j' h h', late i' j' i j h' h) in
          ap₂ answer (omega (arith, low i j i' j' e h h', low i' j' i j (sym e) h' h)) (ap suc e)

  -- by another relation that agrees on the first n places
  module _ (S : ℕ → ℕ → Type 0) (n : ℕ) (to : (a b : ℕ) → a < b → b < n → R a b → S a b) (from : (a b : ℕ) → a < b → b < n → S a b → R a b) where
    pub first_is_as : (r : Repeat) → FirstIs R n r → FirstIs S n r
    first_is_as r = go r.first r.second
      where
        go : (a b : ℕ) → FirstIs R n (answer a b) → FirstIs S n (answer a b)
        go a zero h = (h.0, λ b l a k q. h.1 b l a k (from a b k l q))
        go zero (suc j) h = absurd h
        go (suc i) (suc j) h = record {
          within = h.within;
          before = h.before;
          same = to i j h.before h.within h.same;
          least_j = λ b l a k q. h.least_j b l a k (from a b k (omega (arith, h.within)) q);
          least_i = λ a k q. h.least_i a k (from a j (omega (arith, h.before)) h.within q);
        }

-- ---- the rule's answer is it
module _ {A : Type 0} (alike? : A → A → Bool) (R : A → A → Type 0) (decides : (a b : A) → (alike? a b ≡ true) ↔ R a b) (d : A) where
  abbrev at : List A → ℕ → A
  at l k = get_or l k d

  abbrev On : List A → ℕ → ℕ → Type 0
  On l a b = R (at l a) (at l b)

  -- none before n is the same as x
  abbrev None : A → List A → ℕ → Type 0
  None x l n = (a : ℕ) → a < n → R (at l a) x → ⊥

  data PlaceIs (x : A) (l : List A) : ℕ → Type 0 where
    nowhere : None x l (length l) → PlaceIs x l 0
    there : (i : ℕ) → i < length l → R (at l i) x → None x l i → PlaceIs x l (suc i)

  place_is : (x : A) (l : List A) → PlaceIs x l (place_of alike? x l)
  unfolding place_of
  place_is x [] = nowhere (λ a h e. omega arith)
  place_is x (b ∷ l) = go (alike? b x) refl (place_of alike? x l) (place_is x l)
    where
      more : (n : ℕ) → alike? b x ≡ false → None x l n → None x (b ∷ l) (suc n)
      more n e h zero k q = false≢true (sym e ∙ (decides b x).1 q)
      more n e h (suc a) k q = h a (omega arith) q

      go : (t : Bool) → alike? b x ≡ t → (n : ℕ) → PlaceIs x l n → PlaceIs x (b ∷ l) (choose t 1 (elim n [ zero ↦ 0 | suc k ↦ suc (suc k) ]))
      go true e n h = there 0 (omega arith) ((decides b x).0 e) (λ a k q. omega arith)
      go false e n (nowhere h) = nowhere (more (length l) e h)
      go false e n (there i k q h) = there (suc i) (omega arith) q (more i e h)

  -- no two of `seen` are the same
  from_is : (l seen : List A) → Clear (On (seen ++ l)) (length seen) → FirstIs (On (seen ++ l)) (length (seen ++ l)) (repeat_from alike? seen l)
  unfolding repeat_from
  from_is [] seen h = (refl, λ b k. h b (omega (arith, length-append seen [])))
  from_is (a ∷ l) seen h = go (place_of alike? a seen) (place_is a seen) (λ c. from_is l (seen ++ (a ∷ [])) c)
    where
      here : at (seen ++ (a ∷ l)) (length seen) ≡ a
      here = get_or_at seen a l d (length seen) refl

      of_seen : (k : ℕ) → k < length seen → at (seen ++ (a ∷ l)) k ≡ at seen k
      of_seen k m = get_or-append seen (a ∷ l) d k m

      -- a is the same as one of `seen`
      old : (k : ℕ) → k < length seen → R (at (seen ++ (a ∷ l)) k) (at (seen ++ (a ∷ l)) (length seen)) → R (at seen k) a
      old k m q = subst₂ R (of_seen k m) here q

      go : (n : ℕ) → PlaceIs a seen n → (Clear (On ((seen ++ (a ∷ [])) ++ l)) (length (seen ++ (a ∷ []))) → FirstIs (On ((seen ++ (a ∷ [])) ++ l)) (length ((seen ++ (a ∷ [])) ++ l)) (repeat_from alike? (seen ++ (a ∷ [])) l))
          → FirstIs (On (seen ++ (a ∷ l))) (length (seen ++ (a ∷ l))) (elim n [ zero ↦ repeat_from alike? (seen ++ (a ∷ [])) l | suc i ↦ record { first = suc i; second = suc (length seen) } ])
      go n (nowhere u) rec = subst (λ m. FirstIs (On m) (length m) (repeat_from alike? (seen ++ (a ∷ [])) l)) (append_snoc seen a l)
          (rec (subst (λ m. Clear (On m) (length (seen ++ (a ∷ [])))) (sym (append_snoc seen a l)) fresh))
        where
          fresh : Clear (On (seen ++ (a ∷ l))) (length (seen ++ (a ∷ [])))
          fresh b m x k q = or (dec_lt b (length seen))
            where
              or : Dec (b < length seen) → ⊥
              or (yes s) = h b s x k q
              or (no s) = let e : b ≡ length seen = omega (arith, length-append seen (a ∷ [])) in
                  u x (omega arith) (old x (omega arith) (subst (λ n. R (at (seen ++ (a ∷ l)) x) (at (seen ++ (a ∷ l)) n)) e q))
      go n (there i k e u) rec = record {
        within = omega (arith, length-append seen (a ∷ l));
        before = k;
        same = subst₂ R (sym (of_seen i k)) (sym here) e;
        least_j = h;
        least_i = λ x m q. u x m (old x (omega arith) q);
      }

  pub first_is : (l : List A) → FirstIs (On l) (length l) (repeat_from alike? [] l)
  first_is l = from_is l [] (λ b k a m e. omega arith)

-- ---- of meters: whose divisors are equal or opposite
abbrev pub SameAt : {K : Arith} → List (Pair K) → ℕ → ℕ → Type 0
SameAt l a b = Same (get_or l a neutral) (get_or l b neutral)

module _ (p : ℕ) (l : List (Pair (modulo p))) where
  pub first_repeat_is : FirstIs (SameAt l) (length l) (first_repeat p l)
  first_repeat_is = first_is (is_same p) Same (same_decides p) neutral l

  -- what code finds is the rule's answer
  pub found_is : (r : Repeat) → FirstIs (SameAt l) (length l) r → first_repeat p l ≡ r
  found_is r h = first_is_unique (SameAt l) (length l) (first_repeat p l) r first_repeat_is h

  -- 0 and 0 exactly where no two are the same
  pub no_repeat_at : (first_repeat p l ≡ answer 0 0) ↔ Clear (SameAt l) (length l)
  no_repeat_at = (λ e. (subst (FirstIs (SameAt l) (length l)) e first_repeat_is).1, λ h. found_is (answer 0 0) (refl, h))

  pub repeat_at : (i j : ℕ) → (first_repeat p l ≡ answer (suc i) (suc j)) ↔ FirstAt (SameAt l) (length l) i j
  repeat_at i j = (λ e. subst (FirstIs (SameAt l) (length l)) e first_repeat_is, λ f. found_is (answer (suc i) (suc j)) f)

-- ---- the call, of good records
snoc_all : {A : Type 0} (front l : List A) → foldl (λ (m : List A) (x : A). m ++ (x ∷ [])) front l ≡ front ++ l
snoc_all front [] = sym (append-nil front)
snoc_all front (x ∷ l) = snoc_all (front ++ (x ∷ [])) l ∙ append_snoc front x l

module _ (s : List ℕ) {c : CurveRecord} (ec : read_curve s ≡ taken c) (rs : List (List ℕ)) (good : AllRecords c rs) where
  pub repeat_records : length rs ≤ 4096 → repeat_call s (flatten rs) ≡ record { answer = done 0; out = []; own = first_repeat c.p (map (pair_of c) rs) }
  unfolding repeat_call
  repeat_records l = ap (deliver (record { first = 0; second = 0 }) []) (on_taken _ _ ec ∙ on_taken _ _ (batch_records c (λ l d. l ++ (d ∷ [])) rs [] good l))
      ∙ ap found (snoc_all [] (map (pair_of c) rs))
    where
      found : List (PairOf c) → Reply Repeat
      found l = record { answer = done 0; out = []; own = first_repeat c.p l }
