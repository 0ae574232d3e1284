-- W-211: what turns candidates of weight 3 away before they are tried on the curve: of what f - v² leaves when it is divided by u, the coefficient of x⁰, as a polynomial in v_2; and past which candidates a walk may go by it.
use Rattle.std.specs.Prelude.{ℕ, ◌*◌, ◌≤◌, ◌<◌, ◌≡◌, ◌≢◌, List, [], ◌∷◌, length}
use Rattle.algebra.proofs.Ring.Divides.{Divides}
use Rattle.algebra.proofs.Zmod.Zmod.{zmod, emb, num}
use Rattle.algebra.proofs.Zmod.PrimeField.{modulo}
use Rattle.rules.specs.Curve.{Kx}
use Rattle.rules.specs.Pair.{Pair, u_of, f_minus_v²}
use Rattle.rules.specs.Tests.{is_on_curve}
use Rattle.rules.specs.Records.{PairOf}
use Rattle.rules.specs.Census.{passing}
use Rattle.field.specs.declared.Modulus.{Modulus}
use Rattle.field.specs.declared.Residue.{Residue}
use Rattle.field.specs.Residues.{el, Kept, Settled}
use Rattle.divisor.specs.declared.Cubic.{Cubic}
use Rattle.curve.specs.declared.Curve.{Curve}
use Rattle.curve.specs.Curves.{curve_of}
use Rattle.curve.specs.Record.{record_of}
use Rattle.divisor_census.specs.declared.Screen.{Screen}
use Rattle.divisor_census.specs.Rows.{Rowed, ahead, row_of}

module _ (m : Modulus) where
  abbrev pub value : Screen → (zmod m.p).El → (zmod m.p).El
  value s a = (zmod m.p).add ((zmod m.p).mul a ((zmod m.p).add ((zmod m.p).mul (el m s.c2) a) (el m s.c1))) (el m s.c0)

  pub record Ready (s : Screen) : Type 0 where
    pub c0 : Kept m s.c0
    pub c1 : Kept m s.c1
    pub c2 : Kept m s.c2

  -- x is t or above it, and no number from t on and before x passes
  pub record Passed (s : Screen) (t x : Residue) : Type 0 where
    pub settled : Settled m x
    pub from : num m.p (el m t) ≤ num m.p (el m x)
    pub none : (n : ℕ) → num m.p (el m t) ≤ n → n < num m.p (el m x) → value s (emb m.p n) ≢ (zmod m.p).zer

-- d with a in the place of v_2
abbrev pub ended : (c : Curve) → Cubic → (zmod c.prime.m.p).El → Pair (modulo c.prime.m.p)
ended c d a = record { u = el c.prime.m d.u0 ∷ el c.prime.m d.u1 ∷ el c.prime.m d.u2 ∷ []; v = el c.prime.m d.v0 ∷ el c.prime.m d.v1 ∷ a ∷ [] }

-- where u divides f - v², the screen is zero
pub record Screens (c : Curve) (d : Cubic) (s : Screen) : Type 0 where
  pub ready : Ready c.prime.m s
  pub zero : (a : (zmod c.prime.m.p).El) → Divides (Kx (curve_of c)) (u_of (curve_of c) (ended c d a)) (f_minus_v² (curve_of c) (ended c d a)) → value c.prime.m s a ≡ (zmod c.prime.m.p).zer

-- what is tried on the curve from this candidate on, and what of it is valid
abbrev pub tried : (c : Curve) → ℕ → List Residue → List (PairOf (record_of c))
tried c w l = ahead (record_of c) w (row_of c.prime.m w l)

abbrev pub stands : (c : Curve) → ℕ → List Residue → List (PairOf (record_of c))
stands c w l = passing (is_on_curve (curve_of c)) (tried c w l)

-- from l to r nothing valid was passed over
pub record Skipped (c : Curve) (w : ℕ) (l r : List Residue) : Type 0 where
  pub rowed : Rowed c.prime.m (2 * w) r
  pub same : stands c w r ≡ stands c w l
  pub fewer : length (tried c w r) ≤ length (tried c w l)
