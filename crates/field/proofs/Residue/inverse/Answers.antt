use Rattle.field.proofs.Inverse.{invertible, to_finish, inverts}
use Rattle.field.proofs.Residue.inverse.Goals as goal

pub almost-x-requires : goal.almost-x-requires
almost-x-requires c = invertible c.args.prime c.args.self c.requires

pub finish-requires : goal.finish-requires
finish-requires c = to_finish c.args.prime c.args.self c.requires _ c.almost-x.ensures

pub returns : goal.returns
returns c = inverts c.args.prime c.args.self c.requires _ c.almost-x.ensures c.finish.ensures
