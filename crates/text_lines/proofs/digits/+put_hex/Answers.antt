use native.Mathlib.Omega.{arith}
use Prim.Native.Nat.{◌/◌, ◌-◌}
use mathlib.Core.Path.{sym}
use Rattle.text_lines.specs.digits.Digits.{hex}
use Rattle.text_lines.proofs.digits.Decimals.{hex-none, hex-more}
use Rattle.text_lines.proofs.digits.Putting.{put_none, put_as, room_front, room_last, put_last}
use Rattle.text_lines.proofs.digits.+put_hex.Goals as goal

pub returns-then-k-eq0 : goal.returns-then-k-eq0
returns-then-k-eq0 t c = put_as (sym (hex-none c.args.k c.args.x c.if-k-eq0.true)) (put_none c.args.out.now c.args.a)

pub put_hex-b-requires : goal.put_hex-b-requires
put_hex-b-requires t c =
    (omega (arith, c.if-k-eq0.false), room_front (hex (c.args.k - 1) (c.args.x / 16)) _ (hex-more c.args.k c.args.x c.if-k-eq0.false) c.args.a c.requires)

pub put_byte-requires : goal.put_byte-requires
put_byte-requires t c =
    room_last (hex (c.args.k - 1) (c.args.x / 16)) _ (hex-more c.args.k c.args.x c.if-k-eq0.false) c.args.a c.requires c.put_hex-b.ensures

pub returns : goal.returns
returns t c =
    put_last (hex (c.args.k - 1) (c.args.x / 16)) _ (hex-more c.args.k c.args.x c.if-k-eq0.false) c.args.a c.requires c.put_hex-b.ensures c.letter.ensures c.put_byte.ensures
