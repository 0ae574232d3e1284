-- The two files, in the paper's order. Gives: a file of up to 65,536 bytes is read, a longer one is 16, one that can't be read 17 (`read_on`, `too_long`, `no_file`); and the curve's file is
-- looked at before the batch's (`curve-first`, `curve_too_long`).
use Prim.Native.Nat.{ℕ, ◌≤◌, ◌<◌}
use mathlib.Core.Path.{◌≡◌, refl, ap}
use mathlib.Core.Bool.{Bool}
use mathlib.Core.List.{List}
use borrow.Author.Tests.{lt-ltb, le-ltb}
use lib.ListN.{length}
use Rattle.rules.specs.Records.{choose}
use Rattle.text_lines.specs.Lines.{refused_line}
use Rattle.text_lines.specs.Rule.Text.{File, unreadable, holds, with_file, text_of, text}

module _ (go : List ℕ → List ℕ) where
  pub no_file : with_file unreadable go ≡ refused_line 17 0
  unfolding with_file
  no_file = refl

  pub too_long : (s : List ℕ) → 65536 < length s → with_file (holds s) go ≡ refused_line 16 0
  unfolding with_file
  too_long s l = ap (λ (b : Bool). choose b (refused_line 16 0) (go s)) (lt-ltb 65536 (length s) l)

  pub read_on : (s : List ℕ) → length s ≤ 65536 → with_file (holds s) go ≡ go s
  unfolding with_file
  read_on s l = ap (λ (b : Bool). choose b (refused_line 16 0) (go s)) (le-ltb 65536 (length s) l)

pub curve-first : (batch : File) → text unreadable batch ≡ refused_line 17 0
unfolding text with_file
curve-first batch = refl

pub curve_too_long : (s : List ℕ) (batch : File) → 65536 < length s → text (holds s) batch ≡ refused_line 16 0
unfolding text
curve_too_long s batch l = too_long (λ c. with_file batch (λ b. text_of c b)) s l
