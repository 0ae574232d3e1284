use Rattle.call_pole.proofs.Writes.{written}
use Rattle.call_pole.proofs.write_pole_file.Goals as goal

pub returns : goal.returns
returns c = written c.args.pole c.args.curve.now c.args.batch.now c.args.out.now _ c.in_ok-k.ensures c.write_file.result c.write_file.new.out c.write_file.ensures
