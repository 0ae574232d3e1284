-- A whole record written: the bytes in front, then the numbers.
use Prim.Native.Nat.{ℕ, ◌*◌, ◌%◌}
use mathlib.Core.Path.{◌≡◌, sym, ap, ap₂, ◌∙◌}
use mathlib.Core.List.{List}
use native.Mathlib.Omega.{arith}
use lib.ListN.{length, set, take}
use lib.Seq.{sets}
use Rattle.rules.specs.Bytes.{all_bytes}
use Rattle.rules.specs.Records.{numbers, divisor_bytes}
use Rattle.field.specs.declared.Modulus.{Modulus}
use Rattle.divisor.specs.declared.Divisor.{Divisor}
use Rattle.divisor.specs.Divisors.{weight_of, pair}
use Rattle.divisor.proofs.Laws.{weight_le, weight_is}
use Rattle.record_numbers.specs.write.Write.{NumbersOf}
use Rattle.record_bytes.proofs.Writing.{all_append}

pub divisor_written : (m : Modulus) (d : Divisor) (out x : List ℕ) (w : ℕ) → w ≡ weight_of d → NumbersOf m d x
    → sets (set out 0 w) 1 (all_bytes (take (2 * w) x)) ≡ sets out 0 (divisor_bytes m.p (pair m d))
unfolding divisor_bytes
divisor_written m d out x w e h = ap₂ (λ (n : ℕ) (l : List ℕ). sets (set out 0 n) 1 l) front
    (ap (λ (n : ℕ). all_bytes (take (2 * n) x)) e ∙ ap all_bytes h.is ∙ all_append (numbers m.p (pair m d).u) (numbers m.p (pair m d).v))
  where
    front : w ≡ length (pair m d).u
    front = e ∙ sym (weight_is m d)
