-- Montgomery's form: a number n stands for n/R in Z/p, R = 2^64.
use Rattle.std.specs.Prelude.{ℕ, ◌*◌, ◌/◌}
use Rattle.algebra.proofs.Zmod.Zmod.{zmod, emb}
use Rattle.field_words.specs.Words.{word}

-- 1/R in Z/p, where p · q is 1 modulo R: p · q = 1 + c · R, so it is -c
unfoldable pub back : (p q : ℕ) → (zmod p).El
back p q = (zmod p).neg (emb p (p * q / word))

-- the element of Z/p that a number stands for
abbrev pub element : (p q : ℕ) → ℕ → (zmod p).El
element p q n = (zmod p).mul (emb p n) (back p q)
