use native.Mathlib.Omega.{arith}
use Prim.Native.Nat.{◌/◌}
use mathlib.Core.List.{[]}
use Rattle.text_lines.specs.digits.Digits.{decimal}
use Rattle.text_lines.proofs.digits.Decimals.{decimal-small, decimal_large}
use Rattle.text_lines.proofs.digits.Putting.{put_none, room_front, room_last, put_last}
use Rattle.text_lines.proofs.digits.+put_decimal.Goals as goal

pub put_byte-requires : goal.put_byte-requires
put_byte-requires t c =
    room_last [] _ (decimal-small c.args.n c.if-n-lt10.true) c.args.a c.requires (put_none c.args.out.now c.args.a)

pub returns-then-n-lt10 : goal.returns-then-n-lt10
returns-then-n-lt10 t c =
    put_last [] _ (decimal-small c.args.n c.if-n-lt10.true) c.args.a c.requires (put_none c.args.out.now c.args.a) c.letter.ensures c.put_byte.ensures

pub put_decimal-b-requires : goal.put_decimal-b-requires
put_decimal-b-requires t c =
    (omega arith, room_front (decimal (c.args.n / 10)) _ (decimal_large c.args.n (omega arith)) c.args.a c.requires)

pub put_byte-requires-2 : goal.put_byte-requires-2
put_byte-requires-2 t c =
    room_last (decimal (c.args.n / 10)) _ (decimal_large c.args.n (omega arith)) c.args.a c.requires c.put_decimal-b.ensures

pub returns : goal.returns
returns t c =
    put_last (decimal (c.args.n / 10)) _ (decimal_large c.args.n (omega arith)) c.args.a c.requires c.put_decimal-b.ensures c.letter-2.ensures c.put_byte-2.ensures
