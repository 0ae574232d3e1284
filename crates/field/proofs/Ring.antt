-- What is known of a modulus, in the words of its elements: `ring_of`.
use Prim.Native.Nat.{ℕ, ◌+◌, ◌*◌, ◌%◌, ◌≤◌, ◌<◌}
use mathlib.Core.Path.{◌≡◌, sym, subst, ap, ◌∙◌}
use native.Mathlib.Omega.{arith}
use native.Mathlib.Nat.{mod-lt}
use Rattle.algebra.proofs.Zmod.Zmod.{emb, emb_mod}
use Rattle.field_words.specs.Words.{word}
use Rattle.field_words.specs.Reduced.{Turns}
use Rattle.field_montgomery.specs.Constants.{Same}
use Rattle.field.specs.declared.Modulus.{Modulus}

pub record Ring (m : Modulus) : Type 0 where
  pub turns : Turns m.p m.turn
  pub from : 3 ≤ m.p
  pub odd : m.p % 2 ≡ 1
  pub twice : m.twice ≡ m.p + m.p
  pub one : Same m.p word m.one
  pub square : Same m.p (word * word) m.square
  pub cube : Same m.p (word * word * word) m.cube

pub same_of : (p x r : ℕ) → 0 < p → r ≡ x % p → Same p x r
same_of p x r l e = record { below = subst (λ (n : ℕ). n < p) (sym e) (mod-lt x l); is = ap (emb p) e ∙ emb_mod p l x }

pub ring_of : (m : Modulus) → Ring m
ring_of m = record {
  turns = record { some = pos; most = m.odd.most; turn = m.constants.turn_is };
  from = m.odd.from;
  odd = m.odd.odd;
  twice = m.constants.twice_is;
  one = same_of m.p word m.one pos m.constants.one_is;
  square = same_of m.p (word * word) m.square pos m.constants.square_is;
  cube = same_of m.p (word * word * word) m.cube pos m.constants.cube_is;
}
  where
    pos : 0 < m.p
    pos = omega (arith, m.odd.from)
