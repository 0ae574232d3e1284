-- W-211: the census' text from line to line. Gives: it is the lines from the neutral divisor on (`lines_begin`); those from a valid divisor on are its own and, where one follows, those from that one on (`lines_next`), and else its own alone (`lines_last`); each step leaves
-- fewer (`fewer`). So whoever prints a divisor's line, goes to the next one, and stops at 24, prints the text.
-- Open: `onward`, `lines_from`.
use Prim.Native.Nat.{ℕ, ◌≤◌, ◌<◌}
use mathlib.Core.Path.{◌≡◌, sym, ap, ◌∙◌}
use mathlib.Core.List.{List, [], ◌∷◌, ◌++◌, append-nil, flat_map}
use native.Mathlib.Omega.{arith}
use lib.ListN.{length, length-append}
use lib.Seq.{append_snoc}
use Rattle.rules.specs.Pair.{Valid, neutral}
use Rattle.rules.specs.Checks.{refused, taken}
use Rattle.rules.specs.Records.{CurveRecord, curve, PairOf}
use Rattle.rules.specs.Census.{first, census, next}
use Rattle.rules.proofs.Calls.Tests.{refused_taken, taken_inj}
use Rattle.rules.proofs.Census.Census.{mem_split, census_valid, next_at, walk, walk_at, walk_census}
use Rattle.text_lines.specs.Lines.{record_line}
use Rattle.text_lines.specs.Rule.Text.{lines_of}

module _ (c : CurveRecord) where
  -- x and all that follow it
  unfoldable pub onward : PairOf c → List (PairOf c)
  unfolding walk census
  onward x = walk c (length (census c)) x

  abbrev pub lines_from : PairOf c → List ℕ
  lines_from x = flat_map (record_line c.p) (onward x)

  module _ (some : 0 < c.p) (most : c.p ≤ 18446744073709551616) where
    pub lines_begin : lines_of c ≡ lines_from neutral
    unfolding onward
    lines_begin = ap (flat_map (record_line c.p)) (sym (walk_census c some most (length (census c)) (omega arith)))

    onward_at : (a : List (PairOf c)) (x : PairOf c) (b : List (PairOf c)) → census c ≡ a ++ (x ∷ b) → onward x ≡ x ∷ b
    unfolding onward
    onward_at a x b e = walk_at c some most b a x e (length (census c)) (omega (arith, ap length e, length-append a (x ∷ b)))

    module _ (x : PairOf c) (v : Valid (curve c) x) where
      pub onward_next : (y : PairOf c) → next c x ≡ taken y → onward x ≡ x ∷ onward y
      onward_next y n = let t = mem_split (census c) x ((census_valid c some most x).1 v) in go t.0 t.1 t.2 (sym (next_at c some most t.0 x t.1 t.2) ∙ n)
        where
          go : (a b : List (PairOf c)) → census c ≡ a ++ (x ∷ b) → first b ≡ taken y → onward x ≡ x ∷ onward y
          go a [] e q = absurd (refused_taken q)
          go a (z ∷ b) e q = onward_at a x (z ∷ b) e ∙ ap (λ t. x ∷ t) (sym (onward_at (a ++ (x ∷ [])) z b (e ∙ sym (append_snoc a x (z ∷ b))))) ∙ ap (λ t. x ∷ onward t) (taken_inj q)

      pub onward_last : {n k : ℕ} → next c x ≡ refused n k → onward x ≡ x ∷ []
      onward_last {n} {k} h = let t = mem_split (census c) x ((census_valid c some most x).1 v) in go t.0 t.1 t.2 (sym (next_at c some most t.0 x t.1 t.2) ∙ h)
        where
          go : (a b : List (PairOf c)) → census c ≡ a ++ (x ∷ b) → first b ≡ refused n k → onward x ≡ x ∷ []
          go a [] e q = onward_at a x [] e
          go a (z ∷ b) e q = absurd (refused_taken (sym q))

      pub lines_next : (y : PairOf c) → next c x ≡ taken y → lines_from x ≡ record_line c.p x ++ lines_from y
      unfolding flat_map
      lines_next y n = ap (flat_map (record_line c.p)) (onward_next y n)

      pub lines_last : {n k : ℕ} → next c x ≡ refused n k → lines_from x ≡ record_line c.p x
      unfolding flat_map
      lines_last h = ap (flat_map (record_line c.p)) (onward_last h) ∙ append-nil (record_line c.p x)

      pub fewer : (y : PairOf c) → next c x ≡ taken y → length (onward y) < length (onward x)
      fewer y n = omega (arith, ap length (onward_next y n))
