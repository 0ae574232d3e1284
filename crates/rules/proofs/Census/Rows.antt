-- The rows of n numbers below p. Gives: a row is among them exactly where it has n numbers, all below p (`row_in`, `row_is`); they are in order (`rows_rising`); what stands behind a row (`rest`, `rows_split`), and one turn of a counter: raising the last number
-- that can be raised, with zeros behind it, gives the next row (`rest_raise`); where none can be raised, none follows (`rest_none`).
-- Open: `Tops`.
use Prim.Native.Nat.{ℕ, zero, suc, ◌+◌, ◌-◌, ◌<◌}
use mathlib.Core.Path.{◌≡◌, refl, sym, ap, ◌∙◌, subst, subst₂}
use mathlib.Core.List.Memᴰ
use mathlib.Core.List.{List, [], ◌∷◌, ◌++◌, map, flat_map, map-append, append_assoc, Memᴰ}
use mathlib.Core.Logic.{inl, inr}
use native.Mathlib.Omega.{arith}
use native.Mathlib.Nat.{zero-add}
use lib.ListN.{length, length-append, replicate, length-replicate}
use Rattle.rules.specs.Census.{run, rows, Lower}
use Rattle.rules.proofs.Census.Rising.{All, Rising, mem_map, map_mem, mem_each, each_mem, each_append, rising_map, rising_each, mem_run, run_mem, run_rising, run_split}

module _ (p : ℕ) where
  -- those whose first number is x
  abbrev block : ℕ → ℕ → List (List ℕ)
  block n x = map (λ r. x ∷ r) (rows p n)

  pub row_is : (n : ℕ) (r : List ℕ) → Memᴰ r (rows p n) → (length r ≡ n) × All (λ x. x < p) r
  unfolding rows
  row_is zero r m = let e = Memᴰ.eq_of_singleton m in subst (λ t. (length t ≡ 0) × All (λ x. x < p) t) (sym e) (refl, tt)
  row_is (suc n) r m =
      let t = each_mem (block n) (run 0 p) r m in
      let k = map_mem (λ r. t.0 ∷ r) (rows p n) r t.2 in
      let rec = row_is n k.0 k.1 in
      subst (λ s. (length s ≡ suc n) × All (λ x. x < p) s) (sym k.2) (omega (arith, rec.0), (omega (arith, (run_mem t.0 0 p t.1).1), rec.1))

  pub row_in : (n : ℕ) (r : List ℕ) → length r ≡ n → All (λ x. x < p) r → Memᴰ r (rows p n)
  unfolding rows
  row_in zero [] e h = Memᴰ.head refl
  row_in zero (x ∷ r) e h = absurd (omega arith)
  row_in (suc n) [] e h = absurd (omega arith)
  row_in (suc n) (x ∷ r) e h = mem_each (block n) (run 0 p) x (mem_run x 0 p (omega arith) (omega (arith, h.0))) (x ∷ r) (mem_map (λ r. x ∷ r) (rows p n) r (row_in n r (omega arith) h.1))

  block_rising : (n x : ℕ) → Rising Lower (rows p n) → Rising Lower (block n x)
  unfolding Lower
  block_rising n x h = rising_map Lower Lower (λ r. x ∷ r) (rows p n) (λ a b i j h. inr (refl, h)) h

  blocks_rising : (n x y : ℕ) → x < y → (a b : List ℕ) → Memᴰ a (block n x) → Memᴰ b (block n y) → Lower a b
  unfolding Lower
  blocks_rising n x y h a b i j = let s = map_mem (λ r. x ∷ r) (rows p n) a i in let t = map_mem (λ r. y ∷ r) (rows p n) b j in subst₂ Lower (sym s.2) (sym t.2) (inl h)

  pub rows_rising : (n : ℕ) → Rising Lower (rows p n)
  unfolding rows Lower
  rows_rising zero = (tt, tt)
  rows_rising (suc n) = let rec = rows_rising n in rising_each ◌<◌ Lower (block n) (run 0 p) (λ x. block_rising n x rec) (blocks_rising n) (run_rising 0 p)

  -- ---- what stands behind a row
  -- those with a larger first number
  abbrev larger : ℕ → ℕ → List (List ℕ)
  larger n x = flat_map (block n) (run (suc x) (p - suc x))

  unfoldable pub rest : List ℕ → List (List ℕ)
  unfolding rows run flat_map
  rest [] = []
  rest (x ∷ t) = map (λ r. x ∷ r) (rest t) ++ larger (length t) x

  run_at : (x : ℕ) → x < p → run 0 p ≡ run 0 x ++ (x ∷ run (suc x) (p - suc x))
  unfolding run
  run_at x u = let e : p ≡ x + suc (p - suc x) = omega arith in ap (run 0) e ∙ run_split 0 x (suc (p - suc x)) ∙ ap (λ t. run 0 x ++ run t (suc (p - suc x))) (zero-add x)

  pub rows_split : (r : List ℕ) → All (λ x. x < p) r → (l : List (List ℕ)) × (rows p (length r) ≡ l ++ (r ∷ rest r))
  unfolding rows rest
  rows_split [] h = ([], refl)
  rows_split (x ∷ t) h =
      let n = length t in
      let rec = rows_split t h.1 in (
        flat_map (block n) (run 0 x) ++ map (λ r. x ∷ r) rec.0,
        ap (flat_map (block n)) (run_at x h.0) ∙ each_append (block n) (run 0 x) (x ∷ run (suc x) (p - suc x)) ∙ ap (λ s. flat_map (block n) (run 0 x) ++ s) (here n rec.0 rec.1) ∙ sym (append_assoc (flat_map (block n) (run 0 x)) (map (λ r. x ∷ r) rec.0) (((x ∷ t) ∷ (map (λ r. x ∷ r) (rest t) ++ larger n x)))),
      )
    where
      here : (n : ℕ) (l : List (List ℕ)) → rows p n ≡ l ++ (t ∷ rest t) → flat_map (block n) (x ∷ run (suc x) (p - suc x)) ≡ map (λ r. x ∷ r) l ++ ((x ∷ t) ∷ (map (λ r. x ∷ r) (rest t) ++ larger n x))
      here n l e = ap (λ s. map (λ r. x ∷ r) s ++ larger n x) e ∙ ap (λ s. s ++ larger n x) (map-append (λ r. x ∷ r) l (t ∷ rest t)) ∙ append_assoc (map (λ r. x ∷ r) l) ((x ∷ t) ∷ map (λ r. x ∷ r) (rest t)) (larger n x)

  -- ---- a counter's turn
  abbrev pub Tops : List ℕ → Type 0
  Tops l = All (λ x. suc x ≡ p) l

  larger_none : (n x : ℕ) → suc x ≡ p → larger n x ≡ []
  unfolding run flat_map
  larger_none n x e = let d : p - suc x ≡ 0 = omega arith in ap (λ k. flat_map (block n) (run (suc x) k)) d

  larger_next : (n x : ℕ) → suc x < p → larger n x ≡ block n (suc x) ++ larger n (suc x)
  unfolding run flat_map
  larger_next n x u = let d : p - suc x ≡ suc (p - suc (suc x)) = omega arith in ap (λ k. flat_map (block n) (run (suc x) k)) d

  pub rest_none : (l : List ℕ) → Tops l → rest l ≡ []
  unfolding rest
  rest_none [] h = refl
  rest_none (x ∷ l) h = ap (λ t. map (λ r. x ∷ r) t ++ larger (length l) x) (rest_none l h.1) ∙ larger_none (length l) x h.0

  module _ (some : 0 < p) where
    abbrev zeros : ℕ → List ℕ
    zeros n = replicate n 0

    zeros_below : (n : ℕ) → All (λ x. x < p) (zeros n)
    zeros_below zero = tt
    zeros_below (suc n) = (some, zeros_below n)

    -- the first row
    pub rows_first : (n : ℕ) → rows p n ≡ zeros n ∷ rest (zeros n)
    unfolding rows rest
    rows_first zero = refl
    rows_first (suc n) = ap (flat_map (block n)) (run_at 0 some) ∙ here (rows_first n)
      where
        here : rows p n ≡ zeros n ∷ rest (zeros n) → block n 0 ++ larger n 0 ≡ (0 ∷ zeros n) ∷ (map (λ r. 0 ∷ r) (rest (zeros n)) ++ larger (length (zeros n)) 0)
        here e = ap (λ s. map (λ r. 0 ∷ r) s ++ larger n 0) e ∙ ap (λ k. (0 ∷ zeros n) ∷ (map (λ r. 0 ∷ r) (rest (zeros n)) ++ larger k 0)) (sym (length-replicate n 0))

    -- the last number that can be raised is raised, with zeros behind it
    pub rest_raise : (a : List ℕ) (x : ℕ) (t : List ℕ) → suc x < p → Tops t → let r : List ℕ = a ++ (suc x ∷ zeros (length t)) in rest (a ++ (x ∷ t)) ≡ r ∷ rest r
    unfolding rest
    rest_raise [] x t u h = ap (λ s. map (λ r. x ∷ r) s ++ larger (length t) x) (rest_none t h) ∙ larger_next (length t) x u ∙ here
      where
        here : block (length t) (suc x) ++ larger (length t) (suc x) ≡ (suc x ∷ zeros (length t)) ∷ (map (λ r. suc x ∷ r) (rest (zeros (length t))) ++ larger (length (zeros (length t))) (suc x))
        here = ap (λ s. map (λ r. suc x ∷ r) s ++ larger (length t) (suc x)) (rows_first (length t))
            ∙ ap (λ k. (suc x ∷ zeros (length t)) ∷ (map (λ r. suc x ∷ r) (rest (zeros (length t))) ++ larger k (suc x))) (sym (length-replicate (length t) 0))
    rest_raise (y ∷ a) x t u h = ap (λ s. map (λ r. y ∷ r) s ++ larger (length (a ++ (x ∷ t))) y) (rest_raise a x t u h)
        ∙ ap (λ k. (y ∷ (a ++ (suc x ∷ zeros (length t)))) ∷ (map (λ r. y ∷ r) (rest (a ++ (suc x ∷ zeros (length t)))) ++ larger k y)) sizes
      where
        sizes : length (a ++ (x ∷ t)) ≡ length (a ++ (suc x ∷ zeros (length t)))
        sizes = simp (length-append, length-replicate)
