-- W-211, the census. Gives, on a curve that is taken: its members are the valid divisors (`census_valid`), each once (`census_once`), in strict order (`census_rising`), so that its length is their number (`census_number`); the next one after a valid divisor is the least valid one above it, and 24 says that there is none
-- (`next_answers`, `next_least`, `next_none`); from the neutral one on, next after next is the census itself (`walk_census`).
-- Open: `Least`, `Last`, `Answers`.
use Prim.Native.Nat.{ℕ, zero, suc, ◌≤◌, ◌<◌}
use mathlib.Core.Path.{◌≡◌, refl, sym, ap, ap₂, ◌∙◌, subst}
use mathlib.Core.List.Memᴰ
use mathlib.Core.List.{List, [], ◌∷◌, ◌++◌, flat_map, Memᴰ}
use mathlib.Core.Bool.{Bool, true, false}
use mathlib.Core.Logic.{◌↔◌, ◌≢◌, ◌⊎◌, inl, inr}
use native.Mathlib.Omega.{arith}
use lib.ListN.{length, length-append}
use lib.Seq.{append_snoc}
use Rattle.rules.specs.Pair.{Valid, neutral}
use Rattle.rules.specs.Checks.{Checked, refused, taken, choose}
use Rattle.rules.specs.Records.{CurveRecord, curve, PairOf, elements, divisor_bytes}
use Rattle.rules.specs.Tests.{is_on_curve}
use Rattle.rules.specs.Lists.{is_equal}
use Rattle.rules.proofs.Cantor.OnCurve.{on_curve_decides}
use Rattle.rules.proofs.Cantor.Pairs.{neutral_valid}
use Rattle.rules.proofs.Calls.Tests.{refused_taken}
use Rattle.rules.specs.Census.{run, rows, passing, first, behind, pair_from, weighing, pairs, census, next, Below}
use Rattle.rules.proofs.Census.Rising.{All, Rising, all_of, all_at, mem_passing, passing_mem, passing_append, passing_yes, passing_none, rising_passing, before, beyond}
use Rattle.rules.proofs.Census.Lower.{lower_not, lower_trans}
use Rattle.rules.proofs.Census.Pairs.{pair_in, Named, pair_is, pairs_rising, weight_is, width_is}
use Rattle.rules.proofs.Calls.Same.{equal_decides}

-- y is the least valid divisor above x
pub record Least (c : CurveRecord) (x y : PairOf c) : Type 0 where
  pub valid : Valid (curve c) y
  pub above : Below c.p x y
  pub least : (z : PairOf c) → Valid (curve c) z → Below c.p x z → (z ≡ y) ⊎ Below c.p y z

-- none is above x
abbrev pub Last : (c : CurveRecord) → PairOf c → Type 0
Last c x = (z : PairOf c) → Valid (curve c) z → Below c.p x z → ⊥

-- what an answer says of it
abbrev pub Answers : (c : CurveRecord) → PairOf c → Checked (PairOf c) → Type 0
Answers c x (refused n k) = (n ≡ 24) × (k ≡ 0) × Last c x
Answers c x (taken y) = Least c x y

-- a member splits its list
pub mem_split : {A : Type 0} (l : List A) (x : A) → Memᴰ x l → (a b : List A) × (l ≡ a ++ (x ∷ b))
mem_split [] x m = absurd (Memᴰ.not-nil m)
mem_split (y ∷ l) x m = go (Memᴰ.cases_cons m) (mem_split l x)
  where
    go : (x ≡ y) ⊎ Memᴰ x l → (Memᴰ x l → (a b : List _) × (l ≡ a ++ (x ∷ b))) → (a b : List _) × (y ∷ l ≡ a ++ (x ∷ b))
    go (inl e) rec = ([], l, ap (λ t. t ∷ l) (sym e))
    go (inr k) rec = let t = rec k in (y ∷ t.0, t.1, ap (λ s. y ∷ s) t.2)

behind-at : {A : Type 0} (here? : A → Bool) (a : List A) (x : A) (b : List A) → All (λ y. here? y ≡ false) a → here? x ≡ true → behind here? (a ++ (x ∷ b)) ≡ first b
unfolding behind
behind-at here? [] x b h e = ap (λ t. choose t (first b) (behind here? b)) e
behind-at here? (y ∷ a) x b h e = ap (λ t. choose t (first (a ++ (x ∷ b))) (behind here? (a ++ (x ∷ b)))) h.0 ∙ behind-at here? a x b h.1 e

-- a list without repeats whose members stand in m is no longer than m
rest_in : {A : Type 0} (a : List A) (x : A) (b : List A) (y : A) → Memᴰ y (a ++ (x ∷ b)) → (y ≡ x → ⊥) → Memᴰ y (a ++ b)
rest_in a x b y m n = go (Memᴰ.append_cases a m)
  where
    or : (y ≡ x) ⊎ Memᴰ y b → Memᴰ y (a ++ b)
    or (inl e) = absurd (n e)
    or (inr k) = Memᴰ.append_right a k

    go : Memᴰ y a ⊎ Memᴰ y (x ∷ b) → Memᴰ y (a ++ b)
    go (inl k) = Memᴰ.append_left b k
    go (inr k) = or (Memᴰ.cases_cons k)

no_longer : {A : Type 0} (l m : List A) → Rising ◌≢◌ l → ((x : A) → Memᴰ x l → Memᴰ x m) → length l ≤ length m
no_longer [] m h within = omega arith
no_longer (x ∷ l) m h within =
    let t = mem_split m x (within x (Memᴰ.head refl)) in
    let a = t.0 in
    let b = t.1 in
    let rec = no_longer l (a ++ b) h.1 (λ y k. rest_in a x b y (subst (Memᴰ y) t.2 (within y (Memᴰ.tail k))) (λ e. all_at (λ z. x ≢ z) l h.0 y k (sym e))) in
    omega (arith, rec, length-append a b, length-append a (x ∷ b), ap length t.2)

-- of any pair: only 24 refuses, at place 0
behind-number : {A : Type 0} (here? : A → Bool) (l : List A) {n k : ℕ} → behind here? l ≡ refused n k → (n ≡ 24) × (k ≡ 0)
unfolding behind
behind-number here? [] e = (cc, cc)
behind-number here? (x ∷ l) {n} {k} e = go (here? x) l e (λ q. behind-number here? l q)
  where
    go : (b : Bool) (l : List _) → choose b (first l) (behind here? l) ≡ refused n k → (behind here? l ≡ refused n k → (n ≡ 24) × (k ≡ 0)) → (n ≡ 24) × (k ≡ 0)
    go true [] e rec = (cc, cc)
    go true (y ∷ l) e rec = absurd (refused_taken (sym e))
    go false l e rec = rec e

pub next-number : (c : CurveRecord) (x : PairOf c) {n k : ℕ} → next c x ≡ refused n k → (n ≡ 24) × (k ≡ 0)
unfolding next
next-number c x e = behind-number (is_equal c.p x) (census c) e

module _ (c : CurveRecord) where
  valid_test : (x : PairOf c) → Valid (curve c) x → is_on_curve (curve c) x ≡ true
  valid_test x v = (on_curve_decides (curve c) x).1 v.divides

  differs : (x y : PairOf c) → (x ≡ y → ⊥) → is_equal c.p x y ≡ false
  differs x y h = go (is_equal c.p x y) refl
    where
      go : (b : Bool) → is_equal c.p x y ≡ b → b ≡ false
      go true e = absurd (h ((equal_decides c.p x y).0 e))
      go false e = refl

  not_itself : (x y : PairOf c) → Below c.p x y → x ≡ y → ⊥
  not_itself x y h e = lower_not (divisor_bytes c.p y) (subst (λ t. Below c.p t y) e h)

  -- what passes a row of pairs in order, in which x stands
  apart_before : (a : List (PairOf c)) (x : PairOf c) (b : List (PairOf c)) → Rising (Below c.p) (a ++ (x ∷ b)) → All (λ y. is_equal c.p x y ≡ false) a
  apart_before a x b h = all_of _ a (λ y m. differs x y (λ e. not_itself y x (before (Below c.p) a x b h y m) (sym e)))

  apart_behind : (a : List (PairOf c)) (x : PairOf c) (b : List (PairOf c)) → Rising (Below c.p) (a ++ (x ∷ b)) → All (λ y. is_equal c.p x y ≡ false) b
  apart_behind a x b h = all_of _ b (λ y m. differs x y (λ e. not_itself x y (beyond (Below c.p) a x b h y m) e))

  module _ (some : 0 < c.p) (most : c.p ≤ 18446744073709551616) where
    -- ---- its members, each once, in order
    pub census_valid : (x : PairOf c) → Memᴰ x (census c) ↔ Valid (curve c) x
    unfolding census
    census_valid x = (λ m. let t = passing_mem (is_on_curve (curve c)) (pairs c) x m in valid (pair_is c x t.0) t.1, λ v. mem_passing (is_on_curve (curve c)) (pairs c) x (pair_in c some x v.fits v.small) (valid_test x v))
      where
        valid : Named c x → is_on_curve (curve c) x ≡ true → Valid (curve c) x
        valid n e =
            let u : length x.u ≡ n.weight = ap (λ (t : PairOf c). length t.u) n.is ∙ weight_is c n.weight n.row n.long in
            let v : length x.v ≡ n.weight = ap (λ (t : PairOf c). length t.v) n.is ∙ width_is c n.weight n.row n.long in
            record { fits = v ∙ sym u; small = omega (arith, n.small); divides = (on_curve_decides (curve c) x).0 e }

    pub census_rising : Rising (Below c.p) (census c)
    unfolding census
    census_rising = rising_passing (Below c.p) (is_on_curve (curve c)) (pairs c) (pairs_rising c some most)

    pub census_once : (x : PairOf c) → Valid (curve c) x → passing (is_equal c.p x) (census c) ≡ x ∷ []
    census_once x v = go (mem_split (census c) x ((census_valid x).1 v))
      where
        go : (a b : List (PairOf c)) × (census c ≡ a ++ (x ∷ b)) → passing (is_equal c.p x) (census c) ≡ x ∷ []
        go t =
            let a = t.0 in
            let b = t.1 in
            let h = subst (Rising (Below c.p)) t.2 census_rising in
            ap (passing (is_equal c.p x)) t.2 ∙ passing_append (is_equal c.p x) a (x ∷ b)
            ∙ ap (λ s. s ++ passing (is_equal c.p x) (x ∷ b)) (passing_none (is_equal c.p x) a (apart_before a x b h))
            ∙ passing_yes (is_equal c.p x) x b ((equal_decides c.p x x).1 refl) ∙ ap (λ s. x ∷ s) (passing_none (is_equal c.p x) b (apart_behind a x b h))

    apart : (l : List (PairOf c)) → Rising (Below c.p) l → Rising ◌≢◌ l
    apart [] h = tt
    apart (x ∷ l) h = (all_of (λ y. x ≢ y) l (λ y m. not_itself x y (all_at (Below c.p x) l h.0 y m)), apart l h.1)

    -- whoever lists the valid divisors without repeats lists as many
    pub census_number : (l : List (PairOf c)) → Rising ◌≢◌ l → ((x : PairOf c) → Memᴰ x l ↔ Valid (curve c) x) → length l ≡ length (census c)
    census_number l h is = omega (
      arith,
      no_longer l (census c) h (λ x m. (census_valid x).1 ((is x).0 m)),
      no_longer (census c) l (apart (census c) census_rising) (λ x m. (is x).1 ((census_valid x).0 m)),
    )

    -- ---- the next one
    pub next_at : (a : List (PairOf c)) (x : PairOf c) (b : List (PairOf c)) → census c ≡ a ++ (x ∷ b) → next c x ≡ first b
    unfolding next
    next_at a x b e = ap (behind (is_equal c.p x)) e ∙ behind-at (is_equal c.p x) a x b (apart_before a x b (subst (Rising (Below c.p)) e census_rising)) ((equal_decides c.p x x).1 refl)

    -- by what stands behind x among all pairs
    pub next_is : (a : List (PairOf c)) (x : PairOf c) (b : List (PairOf c)) → pairs c ≡ a ++ (x ∷ b) → is_on_curve (curve c) x ≡ true → next c x ≡ first (passing (is_on_curve (curve c)) b)
    unfolding census
    next_is a x b e t = next_at (passing (is_on_curve (curve c)) a) x (passing (is_on_curve (curve c)) b) split
      where
        split : census c ≡ passing (is_on_curve (curve c)) a ++ (x ∷ passing (is_on_curve (curve c)) b)
        split = ap (passing (is_on_curve (curve c))) e ∙ passing_append (is_on_curve (curve c)) a (x ∷ b) ∙ ap (λ s. passing (is_on_curve (curve c)) a ++ s) (passing_yes (is_on_curve (curve c)) x b t)

    -- what is valid and above x stands behind it
    above_behind : (a : List (PairOf c)) (x : PairOf c) (b : List (PairOf c)) → census c ≡ a ++ (x ∷ b) → (z : PairOf c) → Valid (curve c) z → Below c.p x z → Memᴰ z b
    above_behind a x b e z v h = go (Memᴰ.append_cases a (subst (Memᴰ z) e ((census_valid z).1 v)))
      where
        or : (z ≡ x) ⊎ Memᴰ z b → Memᴰ z b
        or (inl q) = absurd (not_itself x z h (sym q))
        or (inr k) = k

        go : Memᴰ z a ⊎ Memᴰ z (x ∷ b) → Memᴰ z b
        go (inl k) = absurd (not_itself z z (lower_trans _ _ _ (before (Below c.p) a x b (subst (Rising (Below c.p)) e census_rising) z k) h) refl)
        go (inr k) = or (Memᴰ.cases_cons k)

    pub next_answers : (x : PairOf c) → Valid (curve c) x → Answers c x (next c x)
    next_answers x v = let t = mem_split (census c) x ((census_valid x).1 v) in subst (Answers c x) (sym (next_at t.0 x t.1 t.2)) (go t.0 t.1 t.2)
      where
        go : (a b : List (PairOf c)) → census c ≡ a ++ (x ∷ b) → Answers c x (first b)
        go a [] e = (refl, refl, λ z w h. Memᴰ.not-nil (above_behind a x [] e z w h))
        go a (y ∷ b) e = record {
          valid = (census_valid y).0 (subst (Memᴰ y) (sym e) (Memᴰ.append_right a (Memᴰ.tail (Memᴰ.head refl))));
          above = beyond (Below c.p) a x (y ∷ b) rises y (Memᴰ.head refl);
          least = λ z w h. or z (Memᴰ.cases_cons (above_behind a x (y ∷ b) e z w h));
        }
          where
            rises : Rising (Below c.p) (a ++ (x ∷ y ∷ b))
            rises = subst (Rising (Below c.p)) e census_rising

            or : (z : PairOf c) → (z ≡ y) ⊎ Memᴰ z b → (z ≡ y) ⊎ Below c.p y z
            or z (inl q) = inl q
            or z (inr k) = inr (beyond (Below c.p) (a ++ (x ∷ [])) y b (subst (Rising (Below c.p)) (sym (append_snoc a x (y ∷ b))) rises) z k)

    pub next_least : (x : PairOf c) → Valid (curve c) x → (y : PairOf c) → (next c x ≡ taken y) ↔ Least c x y
    next_least x v y = (λ e. subst (Answers c x) e (next_answers x v), λ l. go (next c x) (next_answers x v) l)
      where
        same : (a b : PairOf c) → Least c x a → Least c x b → a ≡ b
        same a b h k = or (h.least b k.valid k.above) (k.least a h.valid h.above)
          where
            or : (b ≡ a) ⊎ Below c.p a b → (a ≡ b) ⊎ Below c.p b a → a ≡ b
            or (inl e) q = sym e
            or (inr e) (inl q) = q
            or (inr e) (inr q) = absurd (not_itself a a (lower_trans _ _ _ e q) refl)

        go : (r : Checked (PairOf c)) → Answers c x r → Least c x y → r ≡ taken y
        go (refused n k) h l = absurd (h.2 y l.valid l.above)
        go (taken a) h l = ap taken (same a y h l)

    pub next_none : (x : PairOf c) → Valid (curve c) x → (next c x ≡ refused 24 0) ↔ Last c x
    next_none x v = (λ e. (subst (Answers c x) e (next_answers x v)).2, λ l. go (next c x) (next_answers x v) l)
      where
        go : (r : Checked (PairOf c)) → Answers c x r → Last c x → r ≡ refused 24 0
        go (refused n k) h l = ap₂ refused h.0 h.1
        go (taken a) h l = absurd (l a h.valid h.above)

  -- ---- next after next: x, and at most n - 1 more
  unfoldable pub walk : ℕ → PairOf c → List (PairOf c)
  unfolding next
  walk zero x = []
  walk (suc n) x = x ∷ elim (next c x) [ refused m k ↦ [] | taken y ↦ walk n y ]

  pub census_first : census c ≡ neutral ∷ passing (is_on_curve (curve c)) (flat_map (weighing c) (run 1 c.g))
  unfolding census pairs weighing run rows pair_from flat_map elements
  census_first = passing_yes (is_on_curve (curve c)) neutral (flat_map (weighing c) (run 1 c.g)) (valid_test neutral (neutral_valid (curve c)))

  module _ (some : 0 < c.p) (most : c.p ≤ 18446744073709551616) where
    pub walk_at : (b a : List (PairOf c)) (x : PairOf c) → census c ≡ a ++ (x ∷ b) → (n : ℕ) → length (x ∷ b) ≤ n → walk n x ≡ x ∷ b
    unfolding walk
    walk_at b a x e zero l = absurd (omega arith)
    walk_at [] a x e (suc n) l = ap (λ t. x ∷ elim t [ refused m k ↦ [] | taken y ↦ walk n y ]) (next_at some most a x [] e)
    walk_at (y ∷ b) a x e (suc n) l = ap (λ t. x ∷ elim t [ refused m k ↦ [] | taken y ↦ walk n y ]) (next_at some most a x (y ∷ b) e)
        ∙ ap (λ t. x ∷ t) (walk_at b (a ++ (x ∷ [])) y (e ∙ sym (append_snoc a x (y ∷ b))) n (omega arith))

    -- from the neutral one on, each valid divisor appears, in the census' order, and then 24 comes
    pub walk_census : (n : ℕ) → length (census c) ≤ n → walk n neutral ≡ census c
    walk_census n l = walk_at _ [] neutral census_first n (subst (λ (t : List (PairOf c)). length t ≤ n) census_first l) ∙ sym census_first
