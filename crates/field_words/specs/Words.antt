-- A word has 64 bits.
use Rattle.std.specs.Prelude.{ℕ}

abbrev pub word : ℕ
word = 18446744073709551616
