use mathlib.Core.Path.{◌∙◌}
use Rattle.rules.specs.Bytes.{bytes64}
use Rattle.record_bytes.proofs.Writing.{part_written}
use Rattle.record_bytes.proofs.write64.Goals as goal

pub returns : goal.returns
unfolding bytes64
returns c = part_written c.args.out.now (bytes64 c.args.x) c.args.a (c.copy_from_slice.ensures.after ∙ c.to_be_bytes.ensures) c.requires
