use Rattle.refusals.proofs.Exits.{exit_none}
use Rattle.refusals.specs.declared.Refusal.TheVariants.{Unreadable}
use Rattle.text_tally.proofs.Tallies.{no_file, long_file, whole_file}
use Rattle.text_tally.proofs.whole.Goals as goal

pub returns-in_err-s : goal.returns-in_err-s
returns-in_err-s c = no_file c.args.file c.from_residual.result (exit_none c.args.file Unreadable c.from_residual.result c.in_err-s.ensures.value c.from_residual.ensures.1)

pub returns-then-s-gt-MOST_BYTES : goal.returns-then-s-gt-MOST_BYTES
returns-then-s-gt-MOST_BYTES c = long_file c.args.file c.in_ok-s.s c.in_ok-s.ensures.ok_part c.if-s-gt-MOST_BYTES.true

pub returns : goal.returns
returns c = whole_file c.args.file c.in_ok-s.s c.in_ok-s.ensures.ok_part c.if-s-gt-MOST_BYTES.false
