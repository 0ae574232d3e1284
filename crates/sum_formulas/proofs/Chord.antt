-- Composition by a formula, in any ring, over every degree. (u, v) is the base, (u', v') the other pair; V = v + s·u goes through both, or touches
-- the curve twice. Gives: `solved`, that s = s'/r where i·h + j·n = r and s' is c·i modulo n; `chord`, the composed pair of two; `tangent`, that of
-- a pair with itself. Nothing else is asked of r than an inverse.
use mathlib.Core.Path.{◌≡◌, refl}
use mathlib.Core.List.{[], ◌∷◌}
use Rattle.algebra.proofs.Ring.CRing.{CRing}
use Rattle.algebra.proofs.Ring.Quote.{ring, quote, by}
use Rattle.algebra.proofs.Ideal.Composed.{Composed, composed_coprime, composed_tangent}

module _ (R : CRing) where
  open R use {El as P, add as ◌+◌, mul as ◌*◌, neg, one as 1P}

  infixl 65 ◌+◌
  infixl 70 ◌*◌
  infixl 65 ◌-◌
  abbrev ◌-◌ : P → P → P
  a - b = a + neg b

  -- what a table finds before it divides: i·h + j·n = r, c·i = q·n + s', s = s'/r
  pub record Solves (h n c s : P) : Type 0 where
    pub r : P
    pub ri : P
    pub i : P
    pub j : P
    pub q : P
    pub s' : P
    pub unit : r * ri ≡ 1P
    pub bezout : i * h + j * n ≡ r
    pub modulo : c * i ≡ q * n + s'
    pub scaled : r * s ≡ s'

  -- s·h = c modulo n
  pub solved : {h n c s : P} (x : Solves h n c s) → s * h ≡ c + neg (x.ri * (c * x.j + x.q * h)) * n
  solved {h} {n} {c} {s} x = by R (neg (s * h - c)) x.unit (by R (x.ri * c) x.bezout (by R (neg (x.ri * h)) x.modulo (by R (x.ri * h) x.scaled
      (ring R (h ∷ n ∷ c ∷ s ∷ x.r ∷ x.ri ∷ x.i ∷ x.j ∷ x.q ∷ x.s' ∷ []) (search quote depth 40) refl))))

  -- i·h + j·n = 1
  coprime : {h n c s : P} (x : Solves h n c s) → x.ri * x.i * h + x.ri * x.j * n ≡ 1P
  coprime {h} {n} {c} {s} x = by R x.ri x.bezout (by R 1P x.unit (ring R (h ∷ n ∷ x.r ∷ x.ri ∷ x.i ∷ x.j ∷ []) (search quote depth 40) refl))

  module _ (f u v : P) where
    -- two pairs, u and u' prime to one another
    pub chord : (u' v' s : P) → Solves u u' (v' - v) s → Composed R f u v u' v' (u * u') (v + s * u)
    chord u' v' s x = composed_coprime R f u v u' v' (x.ri * x.i) (x.ri * x.j) (v + s * u) (coprime x)
        (record { factor = s; is = ring R (u ∷ v ∷ s ∷ []) (search quote depth 40) refl })
        (record { factor = neg (x.ri * ((v' - v) * x.j + x.q * u)); is = by R 1P (solved x) (ring R (u ∷ v ∷ u' ∷ v' ∷ s ∷ x.ri ∷ x.j ∷ x.q ∷ []) (search quote depth 40) refl) })

    -- a pair with itself, u prime to 2v; c is (f - v²)/u modulo u
    pub tangent : (k t c s : P) → f ≡ v * v + u * k → k ≡ t * u + c → Solves (v + v) u c s → Composed R f u v u v (u * u) (v + s * u)
    tangent k t c s on kc x = composed_tangent R f u v (x.ri * x.j) (x.ri * x.i) (v + s * u) (by R 1P (coprime x) (ring R (u ∷ v ∷ x.ri ∷ x.i ∷ x.j ∷ []) (search quote depth 40) refl))
        (record { factor = s; is = ring R (u ∷ v ∷ s ∷ []) (search quote depth 40) refl })
        (record {
          factor = t + x.ri * (c * x.j + x.q * (v + v)) - s * s;
          is = by R 1P on (by R u kc (by R (neg u) (solved x) (ring R (f ∷ u ∷ v ∷ k ∷ t ∷ c ∷ s ∷ x.ri ∷ x.j ∷ x.q ∷ []) (search quote depth 40) refl)));
        })
