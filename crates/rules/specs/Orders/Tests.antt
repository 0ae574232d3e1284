-- W-201 and W-214: the tests of a number and its listed primes. n is a product of powers of the listed primes, which rise, each at least once (`is_made_of`); n has a property t, and no n / q has it for a
-- listed q (`is_order`); p by a base a and the primes of p - 1 (`is_lucas`). The limits of the records aren't in here.
use Rattle.std.specs.Prelude.{ℕ, zero, suc, ◌-◌, ◌/◌, ◌%◌, List, [], ◌∷◌, Bool, true, not, ◌&&◌, ltb, eqb}
use Rattle.algebra.proofs.Ring.Power.{has_power_one}
use Rattle.algebra.proofs.Zmod.Zmod.{zmod, zmod_dec, emb}
use Rattle.algebra.proofs.Zmod.Prime.{is_prime}
use Rattle.algebra.proofs.Zmod.PrimeField.{modulo}

-- n divided by q as often as it goes, at most f times (n times are enough)
unfoldable pub strip : ℕ → ℕ → ℕ → ℕ
strip zero q n = n
strip (suc f) q n = elim (n % q) [ zero ↦ strip f q (n / q) | suc r ↦ n ]

-- each above b and above those before it, a prime, and a divisor of what the others left; 1 is left at the end
unfoldable pub is_made_of : (b n : ℕ) → List ℕ → Bool
unfolding strip is_prime
is_made_of b n [] = eqb n 1
is_made_of b n (q ∷ l) = ltb b q && is_prime q && eqb (n % q) 0 && is_made_of q (strip n q n) l

-- t refuses n / q, for each listed q
unfoldable pub is_none_below : (ℕ → Bool) → ℕ → List ℕ → Bool
is_none_below t n [] = true
is_none_below t n (q ∷ l) = not (t (n / q)) && is_none_below t n l

unfoldable pub is_order : (ℕ → Bool) → ℕ → List ℕ → Bool
unfolding is_made_of is_none_below
is_order t n l = ltb 0 n && is_made_of 0 n l && t n && is_none_below t n l

-- a^(p-1) is 1 modulo p, and no a^((p-1)/q) is
unfoldable pub is_lucas : (p a : ℕ) → List ℕ → Bool
unfolding has_power_one is_order zmod zmod_dec emb
is_lucas p a l = is_order (has_power_one (modulo p) (emb p a)) (p - 1) l
