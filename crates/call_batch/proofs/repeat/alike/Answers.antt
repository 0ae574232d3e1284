use native.Mathlib.Omega.{arith}
use Rattle.call_batch.proofs.repeat.Chains.{whole}
use Rattle.call_batch.proofs.repeat.alike.Goals as goal

pub divisor_at-requires : goal.divisor_at-requires
divisor_at-requires c = omega (arith, (whole c.args.c c.args.s.now _ c.requires.0).inside)

pub divisor_at-requires-2 : goal.divisor_at-requires-2
divisor_at-requires-2 c = omega (arith, (whole c.args.c c.args.s.now _ c.requires.1).inside)
