use native.Mathlib.Omega.{arith}
use Rattle.text_lines.specs.Lines.{spaced}
use Rattle.text_lines.proofs.digits.Putting.{put_none}
use Rattle.text_lines.proofs.Lines.{turn_room, hex_room, turn}
use Rattle.text_lines.proofs.put_numbers.Goals as goal

pub loop-n-init : goal.loop-n-init
unfolding spaced
loop-n-init c = put_none c.args.out.now c.args.a

pub put_byte-c-requires : goal.put_byte-c-requires
put_byte-c-requires c = omega (arith, turn_room c.args.x.now c.loop-n.n-index c.loop-n-test.true c.args.a c.requires c.loop-n.invariant)

pub put_hex-b-requires : goal.put_hex-b-requires
put_hex-b-requires c = hex_room c.args.x.now c.loop-n.n-index c.loop-n-test.true c.args.a c.requires c.loop-n.invariant c.put_byte-c.ensures

pub loop-n-preserved : goal.loop-n-preserved
loop-n-preserved c = turn c.args.x.now c.loop-n.n-index c.loop-n-test.true c.args.a c.requires c.loop-n.invariant c.put_byte-c.ensures c.put_hex-b.ensures
