-- The pole's number that the reader answers has 32 bits.
use Prim.Native.Nat.{ℕ, ◌<◌}
use mathlib.Core.Path.{◌≡◌, refl, ap}
use mathlib.Core.Bool.{Bool, true, false}
use mathlib.Core.List.{List}
use native.Mathlib.Omega.{arith}
use lib.Dec.{ltb}
use lib.ListN.{length, drop}
use Rattle.rules.specs.Bytes.{word32}
use Rattle.rules.specs.Checks.{Checked, refused, taken, choose, first_failed, go_on}
use Rattle.rules.specs.Calls.{Result, stop, deliver}
use Rattle.rules.proofs.Calls.Bytes.{AreBytes}
use Rattle.rules.proofs.Calls.Checks.{all_passed}
use Rattle.rules.proofs.Calls.Refusals.{went_on}
use Rattle.rules.proofs.Calls.Tests.{taken_inj}
use Rattle.rules.proofs.Calls.Delivered.{full}
use Rattle.rules.specs.Pole.PoleFile.{head_checks, curve_part, behind_curve, read_parts, read_behind, read_file}

-- what a call delivers of its own is what it came to, or 0
own-small : (b : ℕ) → 0 < b → (out : List ℕ) (x : Checked (Result ℕ)) → ((r : Result ℕ) → x ≡ taken r → r.own < b) → (deliver 0 out x).own < b
own-small b p out (refused n k) h = p
own-small b p out (taken r) h = go (ltb (length out) (length r.bytes))
  where
    go : (t : Bool) → (choose t (stop 0 out 13 0) (full 0 out r)).own < b
    go true = p
    go false = h r refl

pub pole-small : (file out : List ℕ) → AreBytes file → (read_file file out).own < 4294967296
unfolding read_file
pole-small file out bytes = own-small 4294967296 (omega arith) out (go_on (first_failed (head_checks file) (word32 file 5)) (λ pole. read_behind pole (drop 9 file))) (λ r e.
    let q = went_on (first_failed (head_checks file) (word32 file 5)) (λ pole. read_behind pole (drop 9 file)) e in
    let k = went_on (read_parts (curve_part (drop 9 file)) (behind_curve (drop 9 file))) _ q.2 in
    omega (arith, bytes 5, bytes 6, bytes 7, bytes 8, (all_passed (word32 file 5) (head_checks file) q.1).1, ap (λ (x : Result ℕ). x.own) (taken_inj k.2)))
