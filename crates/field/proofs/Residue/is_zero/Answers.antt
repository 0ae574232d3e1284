use Rattle.field_primes.proofs.Decide.{decides_equal}
use Rattle.field.proofs.Sums.{zero_of, zero_only}
use Rattle.field.proofs.Residue.is_zero.Goals as goal

pub returns : goal.returns
returns c = decides_equal _ _ (λ e. zero_of c.args.m c.args.self c.requires e) (λ e. zero_only c.args.m c.args.self c.requires e)
