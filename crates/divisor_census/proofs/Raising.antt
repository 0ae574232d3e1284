-- One turn of a counter over a row of residues, from the last number to the first. Gives: adding one to an element (`raised`), what the loop keeps (`Clearing`) from its begin to its ends: a number that was raised, or none.
use Prim.Native.Nat.{ℕ, zero, suc, ◌+◌, ◌-◌, ◌≤◌, ◌<◌}
use mathlib.Core.Path.{◌≡◌, refl, sym, ap, ap₂, ◌∙◌, subst}
use Rattle.std.specs.Prelude.{Some}
use mathlib.Core.List.{List, [], ◌∷◌, ◌++◌}
use native.Mathlib.Decide.{ℕ_discrete}
use native.Mathlib.Omega.{arith}
use lib.ListN.{length, get_or, take, drop, set, replicate, length-drop, length-set}
use lib.Seq.{length-take-le, drop-length, take-take, take-set-le, take-set-lt, set_split, split_at, drop_at, get_or-take}
use Rattle.algebra.proofs.Zmod.Zmod.{zmod, emb, num, emb_num, emb_add, emb_zero, emb_one, num_lt, emb_p, num_of, emb_inj, num_zero}
use Rattle.rules.proofs.Census.Rows.{Tops}
use Rattle.field.specs.declared.Modulus.{Modulus}
use Rattle.field.specs.declared.Residue.{Residue}
use Rattle.field.specs.Residues.{el, Settled, Stands, Settles}
use Rattle.divisor.specs.Divisors.{AllSettled}
use Rattle.divisor_census.specs.Rows.{digits, Rowed, RaisedAt, RaisedIs}

-- ---- one more, in Z/p
module _ (p : ℕ) (some : 0 < p) (a : (zmod p).El) where
  abbrev more : (zmod p).El
  more = (zmod p).add a (zmod p).one

  more_is : more ≡ emb p (suc (num p a))
  more_is = let e : num p a + 1 ≡ suc (num p a) = omega arith in ap₂ (zmod p).add (sym (emb_num p a)) (sym (emb_one p)) ∙ sym (emb_add p (num p a) 1) ∙ ap (emb p) e

  pub top : more ≡ (zmod p).zer → suc (num p a) ≡ p
  top z = go (ℕ_discrete (suc (num p a)) p)
    where
      go : Dec (suc (num p a) ≡ p) → suc (num p a) ≡ p
      go (yes e) = e
      go (no n) = absurd (omega (arith, emb_inj p some (suc (num p a)) 0 (omega (arith, num_lt p some a)) some (sym more_is ∙ z ∙ sym (emb_zero p))))

  pub not_top : (more ≡ (zmod p).zer → ⊥) → suc (num p a) < p
  not_top z = go (ℕ_discrete (suc (num p a)) p)
    where
      go : Dec (suc (num p a) ≡ p) → suc (num p a) < p
      go (yes e) = absurd (z (more_is ∙ ap (emb p) e ∙ emb_p p some))
      go (no n) = omega (arith, num_lt p some a)

  pub raised_below : suc (num p a) < p → num p more ≡ suc (num p a)
  raised_below u = ap (num p) more_is ∙ num_of p some (suc (num p a)) u

  pub raised : (more ≡ (zmod p).zer → ⊥) → num p more ≡ suc (num p a)
  raised z = raised_below (not_top z)

module _ (m : Modulus) where
  abbrev p : ℕ
  p = m.p

  pub digits_append : (l k : List Residue) → digits m (l ++ k) ≡ digits m l ++ digits m k
  digits_append [] k = refl
  digits_append (x ∷ l) k = ap (λ t. num p (el m x) ∷ t) (digits_append l k)

  pub length_digits : (l : List Residue) → length (digits m l) ≡ length l
  length_digits [] = refl
  length_digits (x ∷ l) = ap suc (length_digits l)

  settled_set : (l : List Residue) (i : ℕ) (x : Residue) → AllSettled m l → Settled m x → AllSettled m (set l i x)
  settled_set [] i x h s = tt
  settled_set (y ∷ l) zero x h s = (s, h.1)
  settled_set (y ∷ l) (suc i) x h s = (h.0, settled_set l i x h.1 s)

  -- from place k on: all were p - 1, and are zero
  pub record Clearing (n : ℕ) (l row : List Residue) (k : ℕ) : Type 0 where
    pub within : k ≤ n
    pub rowed : Rowed m n row
    pub same : take k row ≡ take k l
    pub zeros : digits m (drop k (take n row)) ≡ replicate (n - k) 0
    pub tops : Tops p (digits m (drop k (take n l)))

  first_long : (n : ℕ) (l : List Residue) → Rowed m n l → length (take n l) ≡ n
  first_long n l h = length-take-le n l (omega (arith, h.within, h.long))

  past : (n : ℕ) (l : List Residue) → Rowed m n l → drop n (take n l) ≡ []
  past n l h = ap (λ k. drop k (take n l)) (sym (first_long n l h)) ∙ drop-length (take n l)

  -- place j, the next one down
  module _ (n : ℕ) (l row : List Residue) (long : length l ≡ 6) (k : ℕ) (h : Clearing n l row k) (j : ℕ) (e : k ≡ suc j) (z : Residue) where
    abbrev old : Residue
    old = get_or row j z

    in_n : j < length (take n row)
    in_n = omega (arith, first_long n row h.rowed, h.within)

    in_l : j < length (take n l)
    in_l = omega (arith, length-take-le n l (omega (arith, h.rowed.within)), h.within)

    -- the same number stood there
    at_l : get_or (take n l) j z ≡ old
    at_l = get_or-take n l j z (omega (arith, h.within)) ∙ sym (get_or-take k l j z (omega arith)) ∙ ap (λ t. get_or t j z) (sym h.same) ∙ get_or-take k row j z (omega arith)

    front_same : take j (take n row) ≡ take j (take n l)
    front_same = take-take j n row (omega (arith, h.within)) ∙ sym (take-take j k row (omega arith)) ∙ ap (take j) h.same ∙ take-take j k l (omega arith) ∙ sym (take-take j n l (omega (arith, h.within)))

    module _ (x : Residue) (s : Settles m x ((zmod p).add (el m old) (zmod p).one)) where
      abbrev new : List Residue
      new = set row j x

      new_is : take n new ≡ take j (take n row) ++ (x ∷ drop k (take n row))
      new_is = take-set-lt n row j x (omega (arith, h.within)) ∙ set_split (take n row) j x in_n ∙ ap (λ i. take j (take n row) ++ (x ∷ drop i (take n row))) (sym e)

      pub new_rowed : Rowed m n new
      new_rowed = record {
        within = h.rowed.within;
        long = length-set row j x ∙ h.rowed.long;
        settled = subst (AllSettled m) (sym (take-set-lt n row j x (omega (arith, h.within)))) (settled_set (take n row) j x h.rowed.settled s.settled);
      }

      some : 0 < p
      some = omega (arith, m.odd.from)

      was_at : take n l ≡ take j (take n l) ++ (old ∷ drop k (take n l))
      was_at = split_at (take n l) j z in_l ∙ ap₂ (λ y i. take j (take n l) ++ (y ∷ drop i (take n l))) at_l (sym e)

      front_long : (t : List Residue) → j < length t → length (take j t) ≡ j
      front_long t u = length-take-le j t (omega arith)

      pub clear_turn : el m x ≡ (zmod p).zer → Clearing n l new j
      clear_turn q = record {
        within = omega (arith, h.within);
        rowed = new_rowed;
        same = take-set-le j row j x (omega arith) ∙ sym (take-take j k row (omega arith)) ∙ ap (take j) h.same ∙ take-take j k l (omega arith);
        zeros = ap (λ t. digits m (drop j t)) new_is ∙ ap (digits m) (drop_at (take j (take n row)) (x ∷ drop k (take n row)) j (front_long (take n row) in_n))
            ∙ ap₂ ◌∷◌ (ap (num p) q ∙ num_zero p some) h.zeros ∙ ap (λ i. replicate i 0) {x = suc (n - k)} {y = n - j} (omega (arith, h.within));
        tops = subst (λ t. Tops p (digits m t)) (sym (ap (drop j) was_at ∙ drop_at (take j (take n l)) (old ∷ drop k (take n l)) j (front_long (take n l) in_l))) (top p some (el m old) (sym s.is ∙ q), h.tops);
      }

      pub clear_stop : (el m x ≡ (zmod p).zer → ⊥) → RaisedIs m n l (Some new)
      clear_stop q = (new_rowed, there)
        where
          nonzero : (zmod p).add (el m old) (zmod p).one ≡ (zmod p).zer → ⊥
          nonzero i = q (s.is ∙ i)

          behind : List ℕ
          behind = digits m (drop k (take n l))

          sizes : n - k ≡ length behind
          sizes = sym (length_digits (drop k (take n l)) ∙ length-drop k (take n l) ∙ ap (λ i. i - k) (length-take-le n l (omega (arith, h.rowed.within))))

          there : RaisedAt m (digits m (take n l)) (digits m (take n new))
          there = record {
            front = digits m (take j (take n l));
            number = num p (el m old);
            behind = behind;
            was = ap (digits m) was_at ∙ digits_append (take j (take n l)) (old ∷ drop k (take n l));
            is = ap (digits m) new_is ∙ digits_append (take j (take n row)) (x ∷ drop k (take n row)) ∙ ap₂ (λ a b. digits m a ++ b) front_same (ap₂ ◌∷◌ (ap (num p) s.is ∙ raised p some (el m old) nonzero) (h.zeros ∙ ap (λ i. replicate i 0) sizes));
            below = not_top p some (el m old) nonzero;
            tops = h.tops;
          }

  -- one added, and brought below p
  pub one_more : (a : Residue) {o y x : Residue} → Settles m o (zmod p).one → Stands m y ((zmod p).add (el m a) (el m o)) → Settles m x (el m y) → Settles m x ((zmod p).add (el m a) (zmod p).one)
  one_more a {o} {y} {x} h k s = record { settled = s.settled; is = s.is ∙ k.is ∙ ap ((zmod p).add (el m a)) h.is }
