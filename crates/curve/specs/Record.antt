-- What record a curve in code is read from and written as. Document 01, "The records": p, g, then f_0 up to f_2g.
use Rattle.rules.specs.Records.{CurveRecord}
use Rattle.curve.specs.declared.Curve.{Curve}
use Rattle.curve.specs.Curves.{curve_of}

abbrev pub record_of : Curve → CurveRecord
record_of c = record { p = c.prime.m.p; g = c.g; low = (curve_of c).low }
