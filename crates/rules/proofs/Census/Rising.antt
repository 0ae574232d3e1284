-- Lists in strict order, over any relation. Gives: members of maps, of lists put together and of those that pass a test; that such lists are in order where their parts are (`rising_append`, `rising_map`, `rising_each`, `rising_passing`);
-- what stands before and behind an element of such a list (`before`, `beyond`); runs of numbers.
-- Open: `All`, `Rising`.
use Prim.Native.Nat.{ℕ, zero, suc, ◌+◌, ◌≤◌, ◌<◌}
use mathlib.Core.Path.{◌≡◌, refl, sym, ap, ◌∙◌, subst}
use mathlib.Core.List.Memᴰ
use mathlib.Core.List.{List, [], ◌∷◌, ◌++◌, map, flat_map, Memᴰ, append_assoc}
use mathlib.Core.Bool.{Bool, true, false, false≢true}
use mathlib.Core.Logic.{◌⊎◌, inl, inr}
use native.Mathlib.Decide.{ℕ_discrete}
use native.Mathlib.Omega.{arith}
use Rattle.rules.specs.Checks.{choose}
use Rattle.rules.specs.Census.{run, passing}

-- ---- members
module _ {A : Type 0} where
  abbrev pub All : (A → Type 0) → List A → Type 0
  All P [] = Unit {0}
  All P (x ∷ l) = P x × All P l

  pub all_of : (P : A → Type 0) (l : List A) → ((x : A) → Memᴰ x l → P x) → All P l
  all_of P [] h = tt
  all_of P (x ∷ l) h = (h x (Memᴰ.head refl), all_of P l (λ y m. h y (Memᴰ.tail m)))

  pub all_at : (P : A → Type 0) (l : List A) → All P l → (x : A) → Memᴰ x l → P x
  all_at P [] h x m = absurd (Memᴰ.not-nil m)
  all_at P (y ∷ l) h x m = go (Memᴰ.cases_cons m) (all_at P l h.1 x)
    where
      go : (x ≡ y) ⊎ Memᴰ x l → (Memᴰ x l → P x) → P x
      go (inl e) rec = subst P (sym e) h.0
      go (inr k) rec = rec k

module _ {A B : Type 0} (f : A → B) where
  pub mem_map : (l : List A) (x : A) → Memᴰ x l → Memᴰ (f x) (map f l)
  mem_map [] x m = absurd (Memᴰ.not-nil m)
  mem_map (y ∷ l) x m = go (Memᴰ.cases_cons m) (mem_map l x)
    where
      go : (x ≡ y) ⊎ Memᴰ x l → (Memᴰ x l → Memᴰ (f x) (map f l)) → Memᴰ (f x) (f y ∷ map f l)
      go (inl e) rec = Memᴰ.head (ap f e)
      go (inr k) rec = Memᴰ.tail (rec k)

  pub map_mem : (l : List A) (y : B) → Memᴰ y (map f l) → (x : A) × Memᴰ x l × (y ≡ f x)
  map_mem [] y m = absurd (Memᴰ.not-nil m)
  map_mem (x ∷ l) y m = go (Memᴰ.cases_cons m) (map_mem l y)
    where
      go : (y ≡ f x) ⊎ Memᴰ y (map f l) → (Memᴰ y (map f l) → (z : A) × Memᴰ z l × (y ≡ f z)) → (z : A) × Memᴰ z (x ∷ l) × (y ≡ f z)
      go (inl e) rec = (x, Memᴰ.head refl, e)
      go (inr k) rec = let t = rec k in (t.0, Memᴰ.tail t.1, t.2)

module _ {A B : Type 0} (f : A → List B) where
  pub mem_each : (l : List A) (x : A) → Memᴰ x l → (y : B) → Memᴰ y (f x) → Memᴰ y (flat_map f l)
  unfolding flat_map
  mem_each [] x m y k = absurd (Memᴰ.not-nil m)
  mem_each (z ∷ l) x m y k = go (Memᴰ.cases_cons m) (λ n. mem_each l x n y k)
    where
      go : (x ≡ z) ⊎ Memᴰ x l → (Memᴰ x l → Memᴰ y (flat_map f l)) → Memᴰ y (f z ++ flat_map f l)
      go (inl e) rec = Memᴰ.append_left (flat_map f l) (subst (λ t. Memᴰ y (f t)) e k)
      go (inr n) rec = Memᴰ.append_right (f z) (rec n)

  pub each_mem : (l : List A) (y : B) → Memᴰ y (flat_map f l) → (x : A) × Memᴰ x l × Memᴰ y (f x)
  unfolding flat_map
  each_mem [] y m = absurd (Memᴰ.not-nil m)
  each_mem (z ∷ l) y m = go (Memᴰ.append_cases (f z) m) (each_mem l y)
    where
      go : Memᴰ y (f z) ⊎ Memᴰ y (flat_map f l) → (Memᴰ y (flat_map f l) → (x : A) × Memᴰ x l × Memᴰ y (f x)) → (x : A) × Memᴰ x (z ∷ l) × Memᴰ y (f x)
      go (inl k) rec = (z, Memᴰ.head refl, k)
      go (inr k) rec = let t = rec k in (t.0, Memᴰ.tail t.1, t.2)

  pub each_append : (l m : List A) → flat_map f (l ++ m) ≡ flat_map f l ++ flat_map f m
  unfolding flat_map
  each_append [] m = refl
  each_append (x ∷ l) m = ap (λ t. f x ++ t) (each_append l m) ∙ sym (append_assoc (f x) (flat_map f l) (flat_map f m))

module _ {A : Type 0} (test? : A → Bool) where
  pub mem_passing : (l : List A) (x : A) → Memᴰ x l → test? x ≡ true → Memᴰ x (passing test? l)
  unfolding passing
  mem_passing [] x m e = absurd (Memᴰ.not-nil m)
  mem_passing (z ∷ l) x m e = go (test? z) refl (Memᴰ.cases_cons m) (λ k. mem_passing l x k e)
    where
      go : (b : Bool) → test? z ≡ b → (x ≡ z) ⊎ Memᴰ x l → (Memᴰ x l → Memᴰ x (passing test? l)) → Memᴰ x (choose b (z ∷ passing test? l) (passing test? l))
      go true h (inl q) rec = Memᴰ.head q
      go true h (inr k) rec = Memᴰ.tail (rec k)
      go false h (inl q) rec = absurd (false≢true (sym h ∙ ap test? (sym q) ∙ e))
      go false h (inr k) rec = rec k

  pub passing_mem : (l : List A) (x : A) → Memᴰ x (passing test? l) → Memᴰ x l × (test? x ≡ true)
  unfolding passing
  passing_mem [] x m = absurd (Memᴰ.not-nil m)
  passing_mem (z ∷ l) x m = go (test? z) refl m (passing_mem l x)
    where
      go : (b : Bool) → test? z ≡ b → Memᴰ x (choose b (z ∷ passing test? l) (passing test? l)) → (Memᴰ x (passing test? l) → Memᴰ x l × (test? x ≡ true)) → Memᴰ x (z ∷ l) × (test? x ≡ true)
      go true h n rec = or (Memᴰ.cases_cons n)
        where
          or : (x ≡ z) ⊎ Memᴰ x (passing test? l) → Memᴰ x (z ∷ l) × (test? x ≡ true)
          or (inl q) = (Memᴰ.head q, ap test? q ∙ h)
          or (inr k) = let t = rec k in (Memᴰ.tail t.0, t.1)
      go false h n rec = let t = rec n in (Memᴰ.tail t.0, t.1)

  pub passing_append : (l m : List A) → passing test? (l ++ m) ≡ passing test? l ++ passing test? m
  unfolding passing
  passing_append [] m = refl
  passing_append (x ∷ l) m = go (test? x) (passing_append l m)
    where
      go : (b : Bool) → passing test? (l ++ m) ≡ passing test? l ++ passing test? m
          → choose b (x ∷ passing test? (l ++ m)) (passing test? (l ++ m)) ≡ choose b (x ∷ passing test? l) (passing test? l) ++ passing test? m
      go true h = ap (λ t. x ∷ t) h
      go false h = h

  pub passing_yes : (x : A) (l : List A) → test? x ≡ true → passing test? (x ∷ l) ≡ x ∷ passing test? l
  unfolding passing
  passing_yes x l e = ap (λ b. choose b (x ∷ passing test? l) (passing test? l)) e

  pub passing_no : (x : A) (l : List A) → test? x ≡ false → passing test? (x ∷ l) ≡ passing test? l
  unfolding passing
  passing_no x l e = ap (λ b. choose b (x ∷ passing test? l) (passing test? l)) e

  pub passing_none : (l : List A) → All (λ x. test? x ≡ false) l → passing test? l ≡ []
  unfolding passing
  passing_none [] h = refl
  passing_none (x ∷ l) h = passing_no x l h.0 ∙ passing_none l h.1

-- ---- in order
module _ {A : Type 0} (R : A → A → Type 0) where
  abbrev pub Rising : List A → Type 0
  Rising [] = Unit {0}
  Rising (x ∷ l) = All (R x) l × Rising l

  pub rising_append : (l m : List A) → Rising l → Rising m → ((x y : A) → Memᴰ x l → Memᴰ y m → R x y) → Rising (l ++ m)
  rising_append [] m h k across = k
  rising_append (x ∷ l) m h k across = (all_of (R x) (l ++ m) (λ y n. go y (Memᴰ.append_cases l n)), rising_append l m h.1 k (λ a b i j. across a b (Memᴰ.tail i) j))
    where
      go : (y : A) → Memᴰ y l ⊎ Memᴰ y m → R x y
      go y (inl n) = all_at (R x) l h.0 y n
      go y (inr n) = across x y (Memᴰ.head refl) n

  pub rising_passing : (test? : A → Bool) (l : List A) → Rising l → Rising (passing test? l)
  unfolding passing
  rising_passing test? [] h = tt
  rising_passing test? (x ∷ l) h = go (test? x) (rising_passing test? l h.1)
    where
      go : (b : Bool) → Rising (passing test? l) → Rising (choose b (x ∷ passing test? l) (passing test? l))
      go true k = (all_of (R x) (passing test? l) (λ y m. all_at (R x) l h.0 y (passing_mem test? l y m).0), k)
      go false k = k

  -- what stands before x and behind it
  pub before : (l : List A) (x : A) (m : List A) → Rising (l ++ (x ∷ m)) → (y : A) → Memᴰ y l → R y x
  before [] x m h y k = absurd (Memᴰ.not-nil k)
  before (z ∷ l) x m h y k = go (Memᴰ.cases_cons k) (before l x m h.1 y)
    where
      go : (y ≡ z) ⊎ Memᴰ y l → (Memᴰ y l → R y x) → R y x
      go (inl e) rec = subst (λ t. R t x) (sym e) (all_at (R z) (l ++ (x ∷ m)) h.0 x (Memᴰ.append_right l (Memᴰ.head refl)))
      go (inr n) rec = rec n

  pub beyond : (l : List A) (x : A) (m : List A) → Rising (l ++ (x ∷ m)) → (y : A) → Memᴰ y m → R x y
  beyond [] x m h y k = all_at (R x) m h.0 y k
  beyond (z ∷ l) x m h y k = beyond l x m h.1 y k

module _ {A B : Type 0} (R : A → A → Type 0) (S : B → B → Type 0) where
  pub rising_map : (f : A → B) (l : List A) → ((x y : A) → Memᴰ x l → Memᴰ y l → R x y → S (f x) (f y)) → Rising R l → Rising S (map f l)
  rising_map f [] keeps h = tt
  rising_map f (x ∷ l) keeps h = (
    all_of (S (f x)) (map f l) (λ y m. let t = map_mem f l y m in subst (S (f x)) (sym t.2) (keeps x t.0 (Memᴰ.head refl) (Memᴰ.tail t.1) (all_at (R x) l h.0 t.0 t.1))),
    rising_map f l (λ a b i j. keeps a b (Memᴰ.tail i) (Memᴰ.tail j)) h.1,
  )

  pub rising_each : (f : A → List B) (l : List A) → ((x : A) → Rising S (f x)) → ((x y : A) → R x y → (a b : B) → Memᴰ a (f x) → Memᴰ b (f y) → S a b) → Rising R l → Rising S (flat_map f l)
  unfolding flat_map
  rising_each f [] inside across h = tt
  rising_each f (x ∷ l) inside across h = rising_append S (f x) (flat_map f l) (inside x) (rising_each f l inside across h.1)
      (λ a b i j. let t = each_mem f l b j in across x t.0 (all_at (R x) l h.0 t.0 t.1) a b i t.2)

-- ---- a run of numbers
pub mem_run : (x n k : ℕ) → n ≤ x → x < n + k → Memᴰ x (run n k)
unfolding run
mem_run x n zero l u = absurd (omega arith)
mem_run x n (suc k) l u = go (ℕ_discrete x n) (λ d. mem_run x (suc n) k (omega (arith, d)) (omega arith))
  where
    go : Dec (x ≡ n) → ((x ≡ n → ⊥) → Memᴰ x (run (suc n) k)) → Memᴰ x (n ∷ run (suc n) k)
    go (yes e) rec = Memᴰ.head e
    go (no d) rec = Memᴰ.tail (rec d)

pub run_mem : (x n k : ℕ) → Memᴰ x (run n k) → (n ≤ x) × (x < n + k)
unfolding run
run_mem x n zero m = absurd (Memᴰ.not-nil m)
run_mem x n (suc k) m = go (Memᴰ.cases_cons m) (run_mem x (suc n) k)
  where
    go : (x ≡ n) ⊎ Memᴰ x (run (suc n) k) → (Memᴰ x (run (suc n) k) → (suc n ≤ x) × (x < suc n + k)) → (n ≤ x) × (x < n + suc k)
    go (inl e) rec = (omega arith, omega arith)
    go (inr j) rec = let t = rec j in (omega arith, omega arith)

pub run_rising : (n k : ℕ) → Rising ◌<◌ (run n k)
unfolding run
run_rising n zero = tt
run_rising n (suc k) = (all_of (λ y. n < y) (run (suc n) k) (λ y m. omega (arith, (run_mem y (suc n) k m).0)), run_rising (suc n) k)

pub run_split : (n j k : ℕ) → run n (j + k) ≡ run n j ++ run (n + j) k
unfolding run
run_split n zero k = let e : n + 0 ≡ n = omega arith in let d : 0 + k ≡ k = omega arith in rw (e, d)
run_split n (suc j) k = let e : suc j + k ≡ suc (j + k) = omega arith in let d : n + suc j ≡ suc n + j = omega arith in rw (e, d) (ap (λ t. n ∷ t) (run_split (suc n) j k))
