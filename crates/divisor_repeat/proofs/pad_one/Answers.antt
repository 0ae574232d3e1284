use Rattle.divisor_repeat.proofs.Compared.{pads_one}
use Rattle.divisor_repeat.proofs.pad_one.Goals as goal

pub returns : goal.returns
returns c = pads_one _ c.zero-z.ensures c.args.d
