-- The number of each refusal, in the paper's order.
use Rattle.std.specs.Prelude.{ℕ}
use Rattle.refusals.specs.declared.Refusal.{Refusal}
use Rattle.refusals.specs.declared.Refusal.TheVariants.{CurveLength, Mark, Version, Genus, Prime, CurveCoefficient, RepeatedFactor, DivisorLength, Weight, DivisorCoefficient, NotOnCurve, ScalarLength, OutputLength, Full, RunningTotal, FileLength, Unreadable, Witness, EmptyKey, OtherPole, PoleFileMark, PoleFileVersion, PoleFileLength, Last, NotForTraining, NoRoot, Order}

abbrev pub number_of : Refusal → ℕ
number_of CurveLength = 1
number_of Mark = 2
number_of Version = 3
number_of Genus = 4
number_of Prime = 5
number_of CurveCoefficient = 6
number_of RepeatedFactor = 7
number_of DivisorLength = 8
number_of Weight = 9
number_of DivisorCoefficient = 10
number_of NotOnCurve = 11
number_of ScalarLength = 12
number_of OutputLength = 13
number_of Full = 14
number_of RunningTotal = 15
number_of FileLength = 16
number_of Unreadable = 17
number_of Witness = 18
number_of EmptyKey = 19
number_of OtherPole = 20
number_of PoleFileMark = 21
number_of PoleFileVersion = 22
number_of PoleFileLength = 23
number_of Last = 24
number_of NotForTraining = 25
number_of NoRoot = 26
number_of Order = 27
