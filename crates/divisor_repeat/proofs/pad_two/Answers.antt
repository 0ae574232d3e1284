use Rattle.divisor_repeat.proofs.Compared.{pads_two}
use Rattle.divisor_repeat.proofs.pad_two.Goals as goal

pub returns : goal.returns
returns c = pads_two _ c.zero-z.ensures c.args.d
