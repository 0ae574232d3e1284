-- W-213: the root at which a divisor is split is the one that the ticket names (`SplitAt`), and there is none exactly where the weight is below 2 or no number below p is a root of u (`NoSplit`): `split_at`, `split_none`,
-- `split_view`.
use Prim.Native.Nat.{ℕ, ◌≤◌, ◌<◌}
use mathlib.Core.Path.{◌≡◌, refl, sym, ap, ◌∙◌, subst}
use mathlib.Core.Bool.{Bool, true, false, decide_iff, false≢true}
use mathlib.Core.Logic.{◌⊎◌, inl, inr}
use native.Mathlib.Decide.{dec_lt, ℕ_discrete}
use native.Mathlib.Omega.{arith}
use lib.Dec.{eqb, ltb}
use lib.ListN.{length}
use borrow.Author.Tests.{lt-ltb, le-ltb, eq-eqb, ne_eqb}
use Rattle.algebra.proofs.Ring.CRing.{neg_neg}
use Rattle.algebra.proofs.Zmod.Zmod.{zmod, zmod_dec, emb, num, emb_num, num_of, num_lt, num_inj}
use Rattle.algebra.proofs.Zmod.PrimeField.{modulo}
use Rattle.rules.specs.Roots.Roots.{value}
use Rattle.rules.specs.Pair.{Pair}
use Rattle.rules.specs.Checks.{Checked, refused, taken, choose, go_on}
use Rattle.rules.specs.Split.{is_root, least, largest, split_root}
use Rattle.rules.proofs.Calls.Tests.{refused_taken}
use Rattle.rules.proofs.Calls.Refusals.{on_taken, on_refused}
use Rattle.rules.proofs.Calls.Search.{Least, Largest, NoneBelow, least_view, largest_view}

-- ---- the root
module _ (p : ℕ) (x : Pair (modulo p)) where
  abbrev A : Type 0
  A = (zmod p).El

  abbrev Root : A → Type 0
  Root y = value (zmod p) x.u y ≡ (zmod p).zer

  -- y is the root at which x is split
  pub record SplitAt (y : A) : Type 0 where
    pub weight : 2 ≤ length x.u
    pub root : Root y
    -- weight 2: x - y has the smaller u_0
    pub smaller : length x.u ≡ 2 → (z : A) → Root z → num p ((zmod p).neg y) ≤ num p ((zmod p).neg z)
    -- weight 3: the largest
    pub larger : 3 ≤ length x.u → (z : A) → Root z → num p z ≤ num p y

  -- the weight is below 2, or no number below p is a root
  abbrev pub NoSplit : Type 0
  NoSplit = (length x.u < 2) ⊎ ((k : ℕ) → k < p → Root (emb p k) → ⊥)

  root_yes : (y : A) → is_root p x.u y ≡ true → Root y
  unfolding is_root
  root_yes y e = (decide_iff (zmod_dec p (value (zmod p) x.u y) (zmod p).zer)).0 e

  root_no : (y : A) → is_root p x.u y ≡ false → Root y → ⊥
  unfolding is_root
  root_no y e r = false≢true (sym e ∙ (decide_iff (zmod_dec p (value (zmod p) x.u y) (zmod p).zer)).1 r)

  module _ (pos : 0 < p) where
    low : ℕ → Bool
    low k = is_root p x.u ((zmod p).neg (emb p k))

    high : ℕ → Bool
    high k = is_root p x.u (emb p k)

    -- a root as the opposite of a number
    turned : (z : A) → (zmod p).neg (emb p (num p ((zmod p).neg z))) ≡ z
    turned z = ap (zmod p).neg (emb_num p ((zmod p).neg z)) ∙ neg_neg (zmod p) z

    low_root : (k : ℕ) → low k ≡ true → Root ((zmod p).neg (emb p k))
    unfolding low
    low_root k e = root_yes ((zmod p).neg (emb p k)) e

    low_none : (k : ℕ) → low k ≡ false → Root ((zmod p).neg (emb p k)) → ⊥
    unfolding low
    low_none k e = root_no ((zmod p).neg (emb p k)) e

    high_root : (k : ℕ) → high k ≡ true → Root (emb p k)
    unfolding high
    high_root k e = root_yes (emb p k) e

    high_none : (k : ℕ) → high k ≡ false → Root (emb p k) → ⊥
    unfolding high
    high_none k e = root_no (emb p k) e

    abbrev View : Type 0
    View = ((y : A) × (SplitAt y × (split_root p x ≡ taken y))) ⊎ (NoSplit × (split_root p x ≡ refused 26 0))

    -- ---- what the rule comes to by weight
    abbrev by_least : Checked A
    by_least = go_on (least low p) (λ k. taken ((zmod p).neg (emb p k)))

    abbrev by_largest : Checked A
    by_largest = go_on (largest high p) (λ k. taken (emb p k))

    rule_is : split_root p x ≡ choose (ltb (length x.u) 2) (refused 26 0) (choose (eqb (length x.u) 2) by_least by_largest)
    unfolding split_root low high
    rule_is = refl

    light : length x.u < 2 → split_root p x ≡ refused 26 0
    light l = rule_is ∙ ap (λ (b : Bool). choose b (refused 26 0) (choose (eqb (length x.u) 2) by_least by_largest)) (lt-ltb (length x.u) 2 l)

    heavy : 2 ≤ length x.u → split_root p x ≡ choose (eqb (length x.u) 2) by_least by_largest
    heavy l = rule_is ∙ ap (λ (b : Bool). choose b (refused 26 0) (choose (eqb (length x.u) 2) by_least by_largest)) (le-ltb (length x.u) 2 l)

    two : length x.u ≡ 2 → split_root p x ≡ by_least
    two e = heavy (omega arith) ∙ ap (λ (b : Bool). choose b by_least by_largest) (eq-eqb (length x.u) 2 e)

    three : 3 ≤ length x.u → split_root p x ≡ by_largest
    three l = heavy (omega arith) ∙ ap (λ (b : Bool). choose b by_least by_largest) (ne_eqb (length x.u) 2 (λ e. omega arith))

    of_two : length x.u ≡ 2 → View
    of_two e = go (least_view low p)
      where
        go : ((k : ℕ) × (Least low p k × (least low p ≡ taken k))) ⊎ (NoneBelow low p × (least low p ≡ refused 26 0)) → View
        go (inl (k, (h, s))) = inl (
          (zmod p).neg (emb p k),
          (
            record {
              weight = omega arith;
              root = low_root k h.holds;
              smaller = λ w z r. first z r (dec_lt (num p ((zmod p).neg z)) k);
              larger = λ w z r. absurd (omega arith);
            },
            two e ∙ on_taken _ _ s,
          ),
        )
          where
            own : num p ((zmod p).neg ((zmod p).neg (emb p k))) ≡ k
            own = ap (num p) (neg_neg (zmod p) (emb p k)) ∙ num_of p pos k h.below

            first : (z : A) → Root z → Dec (num p ((zmod p).neg z) < k) → num p ((zmod p).neg ((zmod p).neg (emb p k))) ≤ num p ((zmod p).neg z)
            first z r (no n) = omega (arith, own)
            first z r (yes l) = absurd (low_none (num p ((zmod p).neg z)) (h.before (num p ((zmod p).neg z)) l) (subst Root (sym (turned z)) r))
        go (inr (h, s)) = inr (inr (λ k l r. low_none (num p ((zmod p).neg (emb p k))) (h (num p ((zmod p).neg (emb p k))) (num_lt p pos ((zmod p).neg (emb p k)))) (subst Root (sym (turned (emb p k))) r)), two e ∙ on_refused _ _ s)

    of_three : 3 ≤ length x.u → View
    of_three l = go (largest_view high p)
      where
        go : ((k : ℕ) × (Largest high p k × (largest high p ≡ taken k))) ⊎ (NoneBelow high p × (largest high p ≡ refused 26 0)) → View
        go (inl (k, (h, s))) = inl (
          emb p k,
          (
            record {
              weight = omega arith;
              root = high_root k h.holds;
              smaller = λ w z r. absurd (omega arith);
              larger = λ w z r. last z r (dec_lt k (num p z));
            },
            three l ∙ on_taken _ _ s,
          ),
        )
          where
            last : (z : A) → Root z → Dec (k < num p z) → num p z ≤ num p (emb p k)
            last z r (no n) = omega (arith, num_of p pos k h.below)
            last z r (yes i) = absurd (high_none (num p z) (h.after (num p z) i (num_lt p pos z)) (subst Root (sym (emb_num p z)) r))
        go (inr (h, s)) = inr (inr (λ k i r. high_none k (h k i) r), three l ∙ on_refused _ _ s)

    pub split_view : View
    split_view = go (dec_lt (length x.u) 2) (ℕ_discrete (length x.u) 2)
      where
        go : Dec (length x.u < 2) → Dec (length x.u ≡ 2) → View
        go (yes l) d = inr (inl l, light l)
        go (no l) (yes e) = of_two e
        go (no l) (no n) = of_three (omega arith)

    -- ---- it is the one root that the ticket names, or there is none
    same_root : (y z : A) → SplitAt y → SplitAt z → y ≡ z
    same_root y z a b = go (ℕ_discrete (length x.u) 2)
      where
        go : Dec (length x.u ≡ 2) → y ≡ z
        go (yes e) = sym (neg_neg (zmod p) y) ∙ ap (zmod p).neg (num_inj p {a = (zmod p).neg y} {b = (zmod p).neg z} (omega (arith, a.smaller e z b.root, b.smaller e y a.root))) ∙ neg_neg (zmod p) z
        go (no n) = num_inj p {a = y} {b = z} (omega (arith, a.larger (omega (arith, a.weight)) z b.root, b.larger (omega (arith, a.weight)) y a.root))

    apart : (y : A) → SplitAt y → NoSplit → ⊥
    apart y a (inl l) = omega (arith, a.weight)
    apart y a (inr h) = h (num p y) (num_lt p pos y) (subst Root (sym (emb_num p y)) a.root)

    pub split_at : (y : A) → SplitAt y → split_root p x ≡ taken y
    split_at y a = go split_view
      where
        go : View → split_root p x ≡ taken y
        go (inl (z, (b, e))) = e ∙ ap taken (same_root z y b a)
        go (inr (n, e)) = absurd (apart y a n)

    pub split_none : NoSplit → split_root p x ≡ refused 26 0
    split_none n = go split_view
      where
        go : View → split_root p x ≡ refused 26 0
        go (inl (z, (b, e))) = absurd (apart z b n)
        go (inr (h, e)) = e

    pub split_refused : {n k : ℕ} → split_root p x ≡ refused n k → (n ≡ 26) × (k ≡ 0)
    split_refused {n} {k} e = go split_view
      where
        numbers : ◌≡◌ {A = Checked A} (refused 26 0) (refused n k) → (n ≡ 26) × (k ≡ 0)
        numbers q = (cc, cc)

        go : View → (n ≡ 26) × (k ≡ 0)
        go (inl (y, (h, q))) = absurd (refused_taken (sym e ∙ q))
        go (inr (h, q)) = numbers (sym q ∙ e)
