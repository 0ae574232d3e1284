use mathlib.Core.Path.{◌∙◌}
use Rattle.record_numbers.proofs.write.Written.{divisor_written}
use Rattle.record_numbers.proofs.write.write_divisor.Goals as goal

pub returns : goal.returns
returns c = c.write_words.ensures ∙ divisor_written c.args.m c.args.d c.args.out.now _ _ c.weight-w.ensures c.numbers_of-x.ensures
