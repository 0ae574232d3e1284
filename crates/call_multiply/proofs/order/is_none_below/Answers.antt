use Rattle.rules.specs.Bytes.{number}
use Rattle.call_multiply.proofs.order.Folds.{look_some, look_stop, look_turn, look_end}
use Rattle.call_multiply.proofs.order.is_none_below.Goals as goal

pub divide-requires : goal.divide-requires
divide-requires c = (look_some c.args.c c.args.a (number c.args.n) c.args.primes.now _ c.loop-j.j c.loop-j.invariant c.loop-j-test.true c.read32-q.result c.read32-q.ensures.word, c.read32-q.ensures.within)

pub returns-then-is_neutral_fold : goal.returns-then-is_neutral_fold
returns-then-is_neutral_fold c = look_stop c.args.c c.args.a (number c.args.n) c.args.primes.now _ c.loop-j.j c.loop-j.invariant c.loop-j-test.true c.read32-q.result c.read32-q.ensures.word c.divide.result c.divide.ensures c.is_neutral_fold.result c.is_neutral_fold.ensures c.if-is_neutral_fold.true

pub loop-j-preserved : goal.loop-j-preserved
loop-j-preserved c = look_turn c.args.c c.args.a (number c.args.n) c.args.primes.now _ c.loop-j.j c.loop-j.invariant c.loop-j-test.true c.read32-q.result c.read32-q.ensures.word c.divide.result c.divide.ensures c.is_neutral_fold.result c.is_neutral_fold.ensures c.if-is_neutral_fold.false

pub returns : goal.returns
returns c = look_end c.args.c c.args.a (number c.args.n) c.args.primes.now _ c.loop-j.j c.loop-j.invariant c.loop-j-test.false
