use Rattle.curve.proofs.polynomials.Few.{one_term, next_term}
use mathlib.Core.List.{[], ◌∷◌}
use Rattle.field.specs.Residues.{el}
use Rattle.curve.proofs.polynomials.line.Goals as goal

pub returns : goal.returns
returns c = next_term c.args.m (el c.args.m c.args.a ∷ []) (el c.args.m c.args.b) (one_term c.args.m _ c.constant.ensures) c.put.ensures
