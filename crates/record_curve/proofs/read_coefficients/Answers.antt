use Rattle.refusals.specs.declared.Refusal.TheVariants.{CurveCoefficient}
use Rattle.refusals.proofs.Exits.{exit_none}
use Rattle.record_curve.proofs.Coefficients.{low_large, high_large, of_equation}
use Rattle.record_curve.proofs.read_coefficients.Goals as goal

pub returns-in_err-l : goal.returns-in_err-l
returns-in_err-l c = let x = exit_none c.residues_at.result CurveCoefficient c.from_residual.result c.in_err-l.ensures.value c.from_residual.ensures.1 in
    rw x.1 (low_large c.args.s.now c.args.g c.args.prime c.requires (rw x.0 at c.residues_at.ensures))

pub returns-in_err-h : goal.returns-in_err-h
returns-in_err-h c = let x = exit_none c.residues_at-2.result CurveCoefficient c.from_residual-in_err-h.result c.in_err-h.ensures.value c.from_residual-in_err-h.ensures.1 in
    rw x.1 (high_large c.args.s.now c.args.g c.args.prime c.requires _ (rw c.in_ok-l.ensures.ok_part at c.residues_at.ensures) (rw x.0 at c.residues_at-2.ensures))

pub returns : goal.returns
returns c =
    of_equation c.args.s.now c.args.g c.args.prime c.requires _ (rw c.in_ok-l.ensures.ok_part at c.residues_at.ensures) _ (rw c.in_ok-h.ensures.ok_part at c.residues_at-2.ensures) _ c.of_equation.result c.of_equation.ensures
