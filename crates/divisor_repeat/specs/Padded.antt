-- Divisors of a smaller weight with zeros behind their coefficients, so that all weights are compared as one.
use Rattle.std.specs.Prelude.{ℕ, ◌≡◌, ◌++◌}
use Rattle.algebra.proofs.Ring.Field.{Arith}
use Rattle.algebra.proofs.Zmod.PrimeField.{modulo}
use Rattle.rules.specs.Pair.{Pair}
use Rattle.rules.proofs.Calls.Same.{zeros}
use Rattle.field.specs.declared.Modulus.{Modulus}
use Rattle.divisor.specs.declared.Divisor.{Divisor}
use Rattle.divisor.specs.Divisors.{pair, Held}

-- n zeros behind the coefficients of u, and behind those of v
abbrev pub padded : (K : Arith) → ℕ → Pair K → Pair K
padded K n a = record { u = a.u ++ zeros K n; v = a.v ++ zeros K n }

pub record Pads (n : ℕ) (d e : Divisor) : Type 0 where
  pub held : (m : Modulus) → Held m d → Held m e
  pub is : (m : Modulus) → Held m d → pair m e ≡ padded (modulo m.p) n (pair m d)
