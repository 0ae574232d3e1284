use Rattle.field_primes.proofs.Decide.{decides_equal}
use Rattle.field.proofs.Sums.{equal_of, equal_only}
use Rattle.field.proofs.Residue.equal.Goals as goal

pub returns : goal.returns
returns c = decides_equal _ _ (λ e. equal_of c.args.m c.args.self c.args.other e) (λ e. equal_only c.args.m c.args.self c.args.other c.requires.0 c.requires.1 e)
