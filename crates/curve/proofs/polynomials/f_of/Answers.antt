use native.Mathlib.Omega.{arith}
use mathlib.Core.List.{[], ◌∷◌}
use Rattle.field.specs.Residues.{el}
use Rattle.field.proofs.Laws.{settled_kept}
use Rattle.curve.proofs.polynomials.Few.{next_term}
use Rattle.curve.proofs.polynomials.Whole.{f_is}
use Rattle.curve.proofs.polynomials.f_of.Goals as goal

pub returns-then-g-eq2 : goal.returns-then-g-eq2
returns-then-g-eq2 c = f_is c.args.c 0 (omega (arith, c.if-g-eq2.true)) c.one-o.result c.one-o.ensures c.put-then-g-eq2.result (omega (arith, c.if-g-eq2.true)) (next_term c.args.c.prime.m (el c.args.c.prime.m c.args.c.f0 ∷ el c.args.c.prime.m c.args.c.f1 ∷ el c.args.c.prime.m c.args.c.f2 ∷ el c.args.c.prime.m c.args.c.f3 ∷ el c.args.c.prime.m c.args.c.f4 ∷ []) (el c.args.c.prime.m c.one-o.result) (next_term c.args.c.prime.m (el c.args.c.prime.m c.args.c.f0 ∷ el c.args.c.prime.m c.args.c.f1 ∷ el c.args.c.prime.m c.args.c.f2 ∷ el c.args.c.prime.m c.args.c.f3 ∷ []) (el c.args.c.prime.m c.args.c.f4) (next_term c.args.c.prime.m (el c.args.c.prime.m c.args.c.f0 ∷ el c.args.c.prime.m c.args.c.f1 ∷ el c.args.c.prime.m c.args.c.f2 ∷ []) (el c.args.c.prime.m c.args.c.f3) c.parabola.ensures c.put.ensures) c.put-a.ensures) c.put-then-g-eq2.ensures)

pub returns : goal.returns
returns c = f_is c.args.c 2 (omega (arith, c.if-g-eq2.false, c.args.c.genus.least, c.args.c.genus.most)) c.one-o.result c.one-o.ensures c.put-4.result (omega (arith, c.if-g-eq2.false, c.args.c.genus.least, c.args.c.genus.most)) (next_term c.args.c.prime.m (el c.args.c.prime.m c.args.c.f0 ∷ el c.args.c.prime.m c.args.c.f1 ∷ el c.args.c.prime.m c.args.c.f2 ∷ el c.args.c.prime.m c.args.c.f3 ∷ el c.args.c.prime.m c.args.c.f4 ∷ el c.args.c.prime.m c.args.c.f5 ∷ el c.args.c.prime.m c.args.c.f6 ∷ []) (el c.args.c.prime.m c.one-o.result) (next_term c.args.c.prime.m (el c.args.c.prime.m c.args.c.f0 ∷ el c.args.c.prime.m c.args.c.f1 ∷ el c.args.c.prime.m c.args.c.f2 ∷ el c.args.c.prime.m c.args.c.f3 ∷ el c.args.c.prime.m c.args.c.f4 ∷ el c.args.c.prime.m c.args.c.f5 ∷ []) (el c.args.c.prime.m c.args.c.f6) (next_term c.args.c.prime.m (el c.args.c.prime.m c.args.c.f0 ∷ el c.args.c.prime.m c.args.c.f1 ∷ el c.args.c.prime.m c.args.c.f2 ∷ el c.args.c.prime.m c.args.c.f3 ∷ el c.args.c.prime.m c.args.c.f4 ∷ []) (el c.args.c.prime.m c.args.c.f5) (next_term c.args.c.prime.m (el c.args.c.prime.m c.args.c.f0 ∷ el c.args.c.prime.m c.args.c.f1 ∷ el c.args.c.prime.m c.args.c.f2 ∷ el c.args.c.prime.m c.args.c.f3 ∷ []) (el c.args.c.prime.m c.args.c.f4) (next_term c.args.c.prime.m (el c.args.c.prime.m c.args.c.f0 ∷ el c.args.c.prime.m c.args.c.f1 ∷ el c.args.c.prime.m c.args.c.f2 ∷ []) (el c.args.c.prime.m c.args.c.f3) c.parabola.ensures c.put.ensures) c.put-a.ensures) c.put-2.ensures) c.put-3.ensures) c.put-4.ensures)
