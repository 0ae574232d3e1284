use Prim.Native.Nat.{ℕ}
use mathlib.Core.Path.{ap}
use Rattle.text_lines.specs.Lines.{refused_line}
use Rattle.text_lines.proofs.Printing.{printed_as}
use Rattle.text_lines.proofs.refused.Goals as goal

pub returns : goal.returns
returns c = printed_as (ap (λ (n : ℕ). refused_line n c.args.r.place) c.into.ensures) c.refusal.ensures
