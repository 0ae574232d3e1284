use mathlib.Core.Path.{sym}
use native.Mathlib.Omega.{arith}
use Rattle.scalar.proofs.Bytes.{bit_is, bit_above}
use Rattle.scalar.proofs.bit.Goals as goal

pub returns-then-j-s : goal.returns-then-j-s
returns-then-j-s c = bit_is c.args.s.now c.requires c.args.k _ (omega arith)

pub returns : goal.returns
returns c = sym (bit_above c.args.s.now c.requires c.args.k (omega arith))
