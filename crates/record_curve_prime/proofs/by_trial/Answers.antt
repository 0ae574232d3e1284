use Rattle.record_curve_prime.proofs.Prime.{tried}
use Rattle.record_curve_prime.proofs.by_trial.Goals as goal

pub returns : goal.returns
returns c = rw c.ok_or.ensures.value (tried c.args.s.now c.requires.0 c.requires.1 c.read64.result c.read64.ensures c.read.result c.read.ensures)
