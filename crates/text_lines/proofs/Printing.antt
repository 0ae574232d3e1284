-- A text put from place 0 on is printed; what is printed stands at the front, inside the output.
use Prim.Native.Nat.{ℕ, ◌+◌, ◌≤◌}
use mathlib.Core.Path.{◌≡◌, refl, ap, ap₂, ◌∙◌, subst}
use mathlib.Core.List.{List}
use native.Mathlib.Omega.{arith}
use lib.ListN.{length, take, drop}
use lib.Seq.{length-sets, sets-eq, take_at}
use Rattle.text_lines.specs.digits.Put.{PutAt, Room}
use Rattle.text_lines.specs.Printed.{Printed}

-- a text from place 0 on
pub printed : {out text o : List ℕ} {r : ℕ} → Room 0 text → PutAt out 0 text o r → Printed out text o r
printed h k = record { all = omega (arith, k.next); front = k.put; room = omega (arith, k.next) }

-- what stands at the front is the text
pub front_is : {out text o : List ℕ} {r : ℕ} → length out ≡ 256 → Printed out text o r → take r o ≡ text
front_is {out} {text} {o} {r} e h = ap₂ take h.all (h.front ∙ sets-eq text out 0 (omega (arith, h.all, h.room))) ∙ take_at text (drop (0 + length text) out) (length text) refl

pub printed_within : {out text o : List ℕ} {r : ℕ} → length out ≡ 256 → Printed out text o r → r ≤ length o
printed_within {out} {text} {o} {r} e h = omega (arith, h.room, ap length h.front ∙ length-sets out 0 text)

pub printed_as : {out x y o : List ℕ} {r : ℕ} → x ≡ y → Printed out x o r → Printed out y o r
printed_as {out} {x} {y} {o} {r} e h = subst (λ (t : List ℕ). Printed out t o r) e h
