-- Every pair that a record of the curve can name. Gives: a pair is among them exactly where v has as many numbers as u, at most g (`pair_in`, `pair_is`); they are in the order of weight and then of record bytes (`pairs_rising`); what stands behind a pair (`later`,
-- `pairs_split`), and one turn of a counter over weight and numbers (`later_raise`, `later_heavier`, `later_none`).
-- Open: `Small`.
use Prim.Native.Nat.{ℕ, zero, suc, ◌+◌, ◌-◌, ◌≤◌, ◌<◌}
use mathlib.Core.Path.{◌≡◌, refl, sym, ap, ap₂, ◌∙◌, subst, subst₂}
use mathlib.Core.List.{List, [], ◌∷◌, ◌++◌, map, flat_map, map-append, append_assoc, Memᴰ}
use mathlib.Core.Bool.{true}
use mathlib.Core.Logic.{inl, inr}
use native.Mathlib.Nat.{zero-add}
use native.Mathlib.Omega.{arith}
use lib.Dec.{ltb}
use lib.ListN.{length, take, drop, replicate, length-append, length-drop, take-append-drop}
use lib.Seq.{length-take-le, take_at, drop_at}
use borrow.Author.Tests.{ltb-true, lt-ltb}
use Rattle.rules.specs.Bytes.{bytes64, all_bytes}
use Rattle.rules.specs.Records.{CurveRecord, PairOf, made_of, is_below, numbers, divisor_bytes}
use Rattle.rules.proofs.Calls.Tests.{both_true, true_both}
use Rattle.rules.proofs.Calls.Elements.{length_elements, length_numbers, numbers_elements, numbers_below}
use Rattle.rules.proofs.Calls.DivisorRecords.{made_numbers}
use Rattle.rules.specs.Census.{run, rows, pair_from, weighing, pairs, Lower, Below}
use Rattle.rules.proofs.Census.Rising.{All, Rising, mem_map, map_mem, mem_each, each_mem, each_append, rising_map, rising_each, mem_run, run_mem, run_rising, run_split}
use Rattle.rules.proofs.Census.Lower.{bytes_lower}
use Rattle.rules.proofs.Census.Rows.{row_is, row_in, rows_rising, rest, rows_split, Tops, rest_none, rows_first, rest_raise}

abbrev pub Small : ℕ → List ℕ → Type 0
Small p l = All (λ x. x < p) l

module _ (p : ℕ) where
  pub small_below : (l : List ℕ) → Small p l → is_below p l ≡ true
  unfolding is_below
  small_below [] h = refl
  small_below (x ∷ l) h = true_both (lt-ltb x p h.0) (small_below l h.1)

  pub below_small : (l : List ℕ) → is_below p l ≡ true → Small p l
  unfolding is_below
  below_small [] h = tt
  below_small (x ∷ l) h = let t = both_true (ltb x p) (is_below p l) h in (ltb-true x p t.0, below_small l t.1)

  pub small_append : (l m : List ℕ) → Small p l → Small p m → Small p (l ++ m)
  small_append [] m h k = k
  small_append (x ∷ l) m h k = (h.0, small_append l m h.1 k)

  pub small_take : (n : ℕ) (l : List ℕ) → Small p l → Small p (take n l)
  small_take zero l h = tt
  small_take (suc n) [] h = tt
  small_take (suc n) (x ∷ l) h = (h.0, small_take n l h.1)

  pub small_drop : (n : ℕ) (l : List ℕ) → Small p l → Small p (drop n l)
  small_drop zero l h = h
  small_drop (suc n) [] h = tt
  small_drop (suc n) (x ∷ l) h = small_drop n l h.1

small-up : (p q : ℕ) (l : List ℕ) → p ≤ q → Small p l → Small q l
small-up p q [] e h = tt
small-up p q (x ∷ l) e h = (omega (arith, h.0), small-up p q l e h.1)

all_bytes-append : (l m : List ℕ) → all_bytes (l ++ m) ≡ all_bytes l ++ all_bytes m
unfolding all_bytes
all_bytes-append [] m = refl
all_bytes-append (x ∷ l) m = ap (λ t. bytes64 x ++ t) (all_bytes-append l m) ∙ sym (append_assoc (bytes64 x) (all_bytes l) (all_bytes m))

module _ (c : CurveRecord) where
  -- ---- a pair by its numbers
  pub record Named (x : PairOf c) : Type 0 where
    pub weight : ℕ
    pub small : weight ≤ c.g
    pub row : List ℕ
    pub long : length row ≡ weight + weight
    pub below : Small c.p row
    pub is : x ≡ pair_from c weight row

  pub row_of : PairOf c → List ℕ
  row_of x = numbers c.p x.u ++ numbers c.p x.v

  pub weight_is : (w : ℕ) (r : List ℕ) → length r ≡ w + w → length (pair_from c w r).u ≡ w
  unfolding pair_from
  weight_is w r e = length_elements c.p (take w r) ∙ length-take-le w r (omega arith)

  pub width_is : (w : ℕ) (r : List ℕ) → length r ≡ w + w → length (pair_from c w r).v ≡ w
  unfolding pair_from
  width_is w r e = length_elements c.p (drop w r) ∙ length-drop w r ∙ omega arith

  module _ (some : 0 < c.p) where
    pub row_length : (x : PairOf c) → length x.v ≡ length x.u → length (row_of x) ≡ length x.u + length x.u
    unfolding row_of
    row_length x e = length-append (numbers c.p x.u) (numbers c.p x.v) ∙ ap₂ ◌+◌ (length_numbers c.p x.u) (length_numbers c.p x.v ∙ e)

    pub row_small : (x : PairOf c) → Small c.p (row_of x)
    unfolding row_of
    row_small x = let u = numbers c.p x.u in let v = numbers c.p x.v in small_append c.p u v (below_small c.p u (numbers_below c.p some x.u)) (below_small c.p v (numbers_below c.p some x.v))

    pub row_pair : (x : PairOf c) → pair_from c (length x.u) (row_of x) ≡ x
    unfolding pair_from row_of
    row_pair x = ap₂ (made_of c) (take_at (numbers c.p x.u) (numbers c.p x.v) (length x.u) (length_numbers c.p x.u)) (drop_at (numbers c.p x.u) (numbers c.p x.v) (length x.u) (length_numbers c.p x.u))
        ∙ made_numbers c x

    pub pair_bytes : (w : ℕ) (r : List ℕ) → length r ≡ w + w → Small c.p r → divisor_bytes c.p (pair_from c w r) ≡ w ∷ all_bytes r
    unfolding divisor_bytes pair_from
    pair_bytes w r e h = ap₂ ◌∷◌ (weight_is w r e) (ap₂ (λ s t. all_bytes s ++ all_bytes t) (numbers_elements c.p some (take w r) (small_below c.p _ (small_take c.p w r h))) (numbers_elements c.p some (drop w r) (small_below c.p _ (small_drop c.p w r h)))
        ∙ sym (all_bytes-append (take w r) (drop w r)) ∙ ap all_bytes (take-append-drop w r))

    -- ---- members
    pub pair_in : (x : PairOf c) → length x.v ≡ length x.u → length x.u ≤ c.g → Memᴰ x (pairs c)
    unfolding pairs weighing
    pair_in x e h = let w = length x.u in mem_each (weighing c) (run 0 (suc c.g)) w (mem_run w 0 (suc c.g) (omega arith) (omega arith)) x
        (subst (λ t. Memᴰ t (weighing c w)) (row_pair x) (mem_map (pair_from c w) (rows c.p (w + w)) (row_of x) (row_in c.p (w + w) (row_of x) (row_length x e) (row_small x))))

  of_weight : (w : ℕ) (x : PairOf c) → Memᴰ x (weighing c w) → (r : List ℕ) × (length r ≡ w + w) × Small c.p r × (x ≡ pair_from c w r)
  unfolding weighing
  of_weight w x m = let k = map_mem (pair_from c w) (rows c.p (w + w)) x m in let t = row_is c.p (w + w) k.0 k.1 in (k.0, t.0, t.1, k.2)

  pub pair_is : (x : PairOf c) → Memᴰ x (pairs c) → Named x
  unfolding pairs
  pair_is x m =
      let t = each_mem (weighing c) (run 0 (suc c.g)) x m in
      let k = of_weight t.0 x t.2 in
      record { weight = t.0; small = omega (arith, (run_mem t.0 0 (suc c.g) t.1).1); row = k.0; long = k.1; below = k.2; is = k.3 }

  -- ---- in order
  module _ (some : 0 < c.p) (most : c.p ≤ 18446744073709551616) where
    inside : (w : ℕ) → Rising (Below c.p) (weighing c w)
    unfolding weighing Lower
    inside w = rising_map Lower (Below c.p) (pair_from c w) (rows c.p (w + w)) keeps (rows_rising c.p (w + w))
      where
        keeps : (a b : List ℕ) → Memᴰ a (rows c.p (w + w)) → Memᴰ b (rows c.p (w + w)) → Lower a b → Below c.p (pair_from c w a) (pair_from c w b)
        keeps a b i j h =
            let s = row_is c.p (w + w) a i in
            let t = row_is c.p (w + w) b j in
            subst₂ Lower (sym (pair_bytes some w a s.0 s.1)) (sym (pair_bytes some w b t.0 t.1))
            (inr (refl, bytes_lower a b (s.0 ∙ sym t.0) (small-up c.p 18446744073709551616 a most s.1) (small-up c.p 18446744073709551616 b most t.1) h))

    across : (w v : ℕ) → w < v → (a b : PairOf c) → Memᴰ a (weighing c w) → Memᴰ b (weighing c v) → Below c.p a b
    unfolding Lower
    across w v h a b i j =
        let s = of_weight w a i in
        let t = of_weight v b j in
        subst₂ Lower (sym (ap (divisor_bytes c.p) s.3 ∙ pair_bytes some w s.0 s.1 s.2)) (sym (ap (divisor_bytes c.p) t.3 ∙ pair_bytes some v t.0 t.1 t.2)) (inl h)

    pub pairs_rising : Rising (Below c.p) (pairs c)
    unfolding pairs
    pairs_rising = rising_each ◌<◌ (Below c.p) (weighing c) (run 0 (suc c.g)) inside across (run_rising 0 (suc c.g))

  -- ---- what stands behind a pair
  abbrev heavier : ℕ → List (PairOf c)
  heavier w = flat_map (weighing c) (run (suc w) (c.g - w))

  unfoldable pub later : ℕ → List ℕ → List (PairOf c)
  unfolding pair_from rest weighing run flat_map
  later w r = map (pair_from c w) (rest c.p r) ++ heavier w

  pub pairs_split : (w : ℕ) (r : List ℕ) → w ≤ c.g → length r ≡ w + w → Small c.p r → (l : List (PairOf c)) × (pairs c ≡ l ++ (pair_from c w r ∷ later w r))
  unfolding pairs weighing later
  pairs_split w r h e k =
      let s = rows_split c.p r k in
      let front = flat_map (weighing c) (run 0 w) in
      let same : rows c.p (w + w) ≡ s.0 ++ (r ∷ rest c.p r) = ap (rows c.p) (sym e) ∙ s.1 in (
        front ++ map (pair_from c w) s.0,
        ap (flat_map (weighing c)) (run_here w h) ∙ each_append (weighing c) (run 0 w) (w ∷ run (suc w) (c.g - w)) ∙ ap (λ t. front ++ t) (here s.0 same)
            ∙ sym (append_assoc front (map (pair_from c w) s.0) (pair_from c w r ∷ (map (pair_from c w) (rest c.p r) ++ heavier w))),
      )
    where
      run_here : (w : ℕ) → w ≤ c.g → run 0 (suc c.g) ≡ run 0 w ++ (w ∷ run (suc w) (c.g - w))
      run_here w h = let e : suc c.g ≡ w + suc (c.g - w) = omega arith in ap (run 0) e ∙ run_split 0 w (suc (c.g - w)) ∙ ap (λ t. run 0 w ++ run t (suc (c.g - w))) (zero-add w)

      here : (l : List (List ℕ)) → rows c.p (w + w) ≡ l ++ (r ∷ rest c.p r) → flat_map (weighing c) (w ∷ run (suc w) (c.g - w)) ≡ map (pair_from c w) l ++ (pair_from c w r ∷ (map (pair_from c w) (rest c.p r) ++ heavier w))
      here l q = ap (λ t. map (pair_from c w) t ++ heavier w) q ∙ ap (λ t. t ++ heavier w) (map-append (pair_from c w) l (r ∷ rest c.p r)) ∙ append_assoc (map (pair_from c w) l) (pair_from c w r ∷ map (pair_from c w) (rest c.p r)) (heavier w)

  -- ---- a counter's turn: the last number that can be raised is raised; else on with the next weight, from zeros
  module _ (some : 0 < c.p) where
    pub later_raise : (w : ℕ) (a : List ℕ) (x : ℕ) (t : List ℕ) → suc x < c.p → Tops c.p t → let r : List ℕ = a ++ (suc x ∷ replicate (length t) 0) in later w (a ++ (x ∷ t)) ≡ pair_from c w r ∷ later w r
    unfolding later
    later_raise w a x t u h = ap (λ s. map (pair_from c w) s ++ heavier w) (rest_raise c.p some a x t u h)

    pub later_heavier : (w : ℕ) (r : List ℕ) → w < c.g → Tops c.p r → let z : List ℕ = replicate (suc w + suc w) 0 in later w r ≡ pair_from c (suc w) z ∷ later (suc w) z
    unfolding later weighing run flat_map
    later_heavier w r u h = ap (λ s. map (pair_from c w) s ++ heavier w) (rest_none c.p r h) ∙ ap (λ k. flat_map (weighing c) (run (suc w) k)) one_more ∙ ap (λ s. map (pair_from c (suc w)) s ++ heavier (suc w)) (rows_first c.p some (suc w + suc w))
      where
        one_more : c.g - w ≡ suc (c.g - suc w)
        one_more = omega arith

    pub later_none : (w : ℕ) (r : List ℕ) → c.g ≤ w → Tops c.p r → later w r ≡ []
    unfolding later run flat_map
    later_none w r u h = let d : c.g - w ≡ 0 = omega arith in ap (λ s. map (pair_from c w) s ++ heavier w) (rest_none c.p r h) ∙ ap (λ k. flat_map (weighing c) (run (suc w) k)) d
