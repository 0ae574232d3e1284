use Rattle.curve.proofs.polynomials.Few.{next_term}
use mathlib.Core.List.{[], ◌∷◌}
use Rattle.field.specs.Residues.{el}
use Rattle.curve.proofs.polynomials.parabola.Goals as goal

pub returns : goal.returns
returns c = next_term c.args.m (el c.args.m c.args.a ∷ el c.args.m c.args.b ∷ []) (el c.args.m c.args.c) c.line.ensures c.put.ensures
