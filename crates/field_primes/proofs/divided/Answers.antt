use native.Mathlib.Omega.{arith}
use Rattle.field_primes.proofs.Wheel.{missed, hit, hit_first}
use Rattle.field_primes.proofs.divided.Goals as goal

pub returns : goal.returns
returns c =
    missed c.requires
    c.if-p-d-eq0.false
    c.if-p-d-eq0-2.false
    c.if-p-d-eq0-3.false
    c.if-p-d-eq0-4.false
    c.if-p-d-eq0-5.false
    c.if-p-d-eq0-6.false
    c.if-p-d-eq0-7.false
    c.if-p-d-eq0-8.false
