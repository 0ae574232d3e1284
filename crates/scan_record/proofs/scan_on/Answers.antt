use native.Mathlib.Omega.{arith}
use Rattle.refusals.proofs.Exits.{exit_err}
use Rattle.scan_record.proofs.Scanned.{not_resumed, no_pole, other_pole, not_read, to_take, scanned}
use Rattle.scan_record.proofs.scan_on.Goals as goal

pub returns-in_err-total : goal.returns-in_err-total
returns-in_err-total c = rw (exit_err c.from_residual.result c.from_residual.ensures.1) (not_resumed c.args.c c.args.t c.args.«record».now _ c.in_err-total.ensures)

pub returns-then-record-lt4 : goal.returns-then-record-lt4
returns-then-record-lt4 c = rw c.at.ensures (no_pole c.args.c c.args.t c.args.«record».now _ c.in_ok-total.ensures (omega arith))

pub returns-then-pole-own : goal.returns-then-pole-own
returns-then-pole-own c = rw c.at-then-pole-own.ensures (other_pole c.args.c c.args.t c.args.«record».now _ c.in_ok-total.ensures c.if-record-lt4.false c.read32-pole.ensures.word (λ e. omega (arith, e, c.if-pole-own.true)))

pub returns-in_err-d : goal.returns-in_err-d
returns-in_err-d c = rw (exit_err c.from_residual-in_err-d.result c.from_residual-in_err-d.ensures.1)
    (not_read c.args.c c.args.t c.args.«record».now _ c.in_ok-total.ensures c.if-record-lt4.false c.read32-pole.ensures.word (omega arith) _ c.in_err-d.ensures)

pub take-requires : goal.take-requires
take-requires c = to_take c.args.c c.args.t c.args.«record».now _ c.in_ok-total.ensures c.if-record-lt4.false c.read32-pole.ensures.word (omega arith) _ c.in_ok-d.ensures

pub returns : goal.returns
returns c = scanned c.args.c c.args.t c.args.«record».now _ c.in_ok-total.ensures c.if-record-lt4.false c.read32-pole.ensures.word (omega arith) _ c.in_ok-d.ensures c.take.result c.take.ensures
