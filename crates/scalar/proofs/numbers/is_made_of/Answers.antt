use native.Mathlib.Omega.{arith}
use borrow.Author.Tests.{not-true, not-false}
use Rattle.field.proofs.Decide.{decided_yes}
use Rattle.rules.specs.Bytes.{number}
use Rattle.field_witness.specs.Witness.{SmallPrime}
use Rattle.scalar.proofs.numbers.Stripped.{too_low, no_prime, no_divisor, looking_turn, looking_end}
use Rattle.std.proofs.Common.{ap}
use Rattle.std.proofs.Common.{not}
use Rattle.scalar.proofs.numbers.is_made_of.Goals as goal

pub returns-then-x-last : goal.returns-then-x-last
returns-then-x-last c = too_low c.args.primes.now _ (number c.args.n) c.loop-i.last (number c.loop-i.left) c.loop-i.i c.loop-i.invariant c.loop-i-test.true c.read32-x.result c.read32-x.ensures.word c.if-x-last.true

pub returns-then-not-is_small_prime : goal.returns-then-not-is_small_prime
returns-then-not-is_small_prime c = no_prime c.args.primes.now _ (number c.args.n) c.loop-i.last (number c.loop-i.left) c.loop-i.i c.loop-i.invariant c.loop-i-test.true c.read32-x.result c.read32-x.ensures.word c.is_small_prime.result (not-true c.is_small_prime.result (ap not c.if-not-is_small_prime.true)) c.is_small_prime.ensures

pub returns-then-d-ne0 : goal.returns-then-d-ne0
returns-then-d-ne0 c =
    no_divisor c.args.primes.now _ (number c.args.n) c.loop-i.last (number c.loop-i.left) c.loop-i.i c.loop-i.invariant c.loop-i-test.true c.read32-x.result c.read32-x.ensures.word c.divide-d.result c.divide-d.ensures c.if-d-ne0.true

pub loop-i-preserved : goal.loop-i-preserved
loop-i-preserved c =
    let p = decided_yes {A = SmallPrime _} {b = c.is_small_prime.result} (not-false c.is_small_prime.result (ap not c.if-not-is_small_prime.false)) c.is_small_prime.ensures in looking_turn c.args.primes.now _ (number c.args.n) c.loop-i.last (number c.loop-i.left) c.loop-i.i c.loop-i.invariant c.loop-i-test.true c.read32-x.result c.read32-x.ensures.word (omega arith) p c.divide-d.result c.divide-d.ensures c.if-d-ne0.false (number c.without-rest.result) c.without-rest.ensures

pub returns : goal.returns
returns c = looking_end c.args.primes.now _ (number c.args.n) c.loop-i.last (number c.loop-i.left) c.loop-i.i c.loop-i.invariant c.loop-i-test.false c.capped.result c.capped.ensures c.eq.result c.eq.ensures
