use native.Mathlib.Omega.{arith}
use mathlib.Core.Path.{◌≡◌}
use lib.ListN.{length}
use Rattle.poly.specs.Polys.{room}
use Rattle.field.proofs.Arrays.{length_of}
use Rattle.poly.proofs.Stored.{read, read_past}
use Rattle.poly.proofs.Poly.get.Goals as goal

pub returns-then-k-lt-ROOM : goal.returns-then-k-lt-ROOM
returns-then-k-lt-ROOM c = let h : length c.args.self.c ≡ room = search length_of in λ m f. read m c.args.k _ f (omega arith)

pub returns-else-k-lt-ROOM : goal.returns-else-k-lt-ROOM
returns-else-k-lt-ROOM c = let h : length c.args.self.c ≡ room = search length_of in λ m f. read_past m c.args.k f (omega arith) c.zero.ensures
