use mathlib.Core.Path.{refl}
use Rattle.poly_euclid.proofs.Steps.{taken}
use Rattle.poly_euclid.proofs.Line.minus_multiple.Goals as goal

pub returns : goal.returns
returns c =
    record {
      r_is = refl;
      s = taken c.args.prime.m c.requires.ok_x.s c.requires.ok_q c.requires.ok_u.s c.mul.ensures c.sub-s.ensures;
      t = taken c.args.prime.m c.requires.ok_x.t c.requires.ok_q c.requires.ok_u.t c.mul-2.ensures c.sub-t.ensures;
    }
