-- A number made a modulus: its constants are those of Montgomery's form, and an odd prime is a number to calculate with.
use Prim.Native.Nat.{ℕ, ◌+◌, ◌*◌, ◌%◌, ◌<◌}
use mathlib.Core.Path.{◌≡◌, refl, sym, ◌∙◌}
use native.Mathlib.Omega.{arith}
use native.Mathlib.Nat.{mod-lt}
use Rattle.algebra.proofs.Zmod.Zmod.{emb_inj, emb_mod}
use Rattle.field_words.specs.Words.{word}
use Rattle.field_words.specs.Reduced.{Turns, Reduced}
use Rattle.field_montgomery.specs.Constants.{Same, Words, Squared}
use Rattle.field_montgomery.proofs.Constants.{cube_is}
use Rattle.field.specs.Primes.{OddPrime}
use Rattle.field.specs.Numbers.{Odd, Constants}

pub turns_of : (p q : ℕ) → Odd p → p * q % word ≡ 1 → Turns p q
turns_of p q o e = record { some = omega (arith, o.from); most = o.most; turn = e }

-- the one number below p that stands for x
remainder : (p x r : ℕ) → Odd p → Same p x r → r ≡ x % p
remainder p x r o s = let pos : 0 < p = omega (arith, o.from) in emb_inj p pos r (x % p) s.below (mod-lt x pos) (s.is ∙ sym (emb_mod p pos x))

pub constants_of : (p q : ℕ) → Odd p → Turns p q → (w : ℕ) {x : ℕ} (s : ℕ) {y : ℕ} (c : ℕ) → Words p w → Squared p x → Same p x s → Reduced p (s * s) y → Same p y c
    → Constants p (p + p) q w s c
constants_of p q o t w {x} s {y} c hw hx hs hy hc = record {
  twice_is = refl;
  turn_is = t.turn;
  one_is = remainder p word w o (record { below = hw.below; is = hw.is });
  square_is = remainder p (word * word) s o (record { below = hs.below; is = hs.is ∙ hx.is });
  cube_is = remainder p (word * word * word) c o (record { below = hc.below; is = cube_is p q t s (hs.is ∙ hx.is) hy hc });
}

pub odd_of : (p : ℕ) → OddPrime p → Odd p
odd_of p h = record { from = h.odd; most = omega (arith, h.small); odd = omega (arith, h.is.none 2 (omega arith) (omega (arith, h.odd))) }
