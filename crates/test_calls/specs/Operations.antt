-- The number of each operation, as tools/README.md has it; and the operations that a frame is run through beside its own.
use Rattle.std.specs.Prelude.{ℕ, List, [], ◌∷◌}
use Rattle.test_calls.specs.declared.operation.Operation.{Operation}
use Rattle.test_calls.specs.declared.operation.Operation.TheVariants.{Label, CheckCurve, CheckDivisor, RewriteCurve, RewriteDivisor, Add, Double, Opposite, Multiply, TotalBatch, FirstRepeat, Scan, InversionFree, ScanLent, ScanInside, CheckOrder, Split, NextDivisor, WritePoleFile, ReadPoleFile}

abbrev pub number_of : Operation → ℕ
number_of Label = 0
number_of CheckCurve = 1
number_of CheckDivisor = 2
number_of RewriteCurve = 3
number_of RewriteDivisor = 4
number_of Add = 5
number_of Double = 6
number_of Opposite = 7
number_of Multiply = 8
number_of TotalBatch = 9
number_of FirstRepeat = 10
number_of Scan = 11
number_of InversionFree = 12
number_of ScanLent = 13
number_of ScanInside = 14
number_of CheckOrder = 15
number_of Split = 16
number_of NextDivisor = 17
number_of WritePoleFile = 18
number_of ReadPoleFile = 19

-- a multiple has two calls, a scan three, and any other one
abbrev pub others_of : Operation → List Operation
others_of Multiply = InversionFree ∷ []
others_of Scan = ScanLent ∷ ScanInside ∷ []
others_of _ = []
