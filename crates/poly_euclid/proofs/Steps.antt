-- What the single steps of Euclid promise: division by any polynomial but zero, a line less a multiple of another, a line made monic.
use Prim.Native.Nat.{◌+◌, ◌-◌, ◌<◌, max}
use mathlib.Core.Path.{◌≡◌, refl, sym, ap, ◌∙◌}
use mathlib.Core.List.{[], ◌∷◌}
use native.Mathlib.Omega.{arith}
use Rattle.algebra.proofs.Ring.CRing.{mul_zer, zer_mul}
use Rattle.algebra.proofs.Ring.Quote.{ring, quote}
use Rattle.algebra.proofs.Poly.Poly.{coef}
use Rattle.algebra.proofs.Poly.Term.{C, term_one}
use Rattle.field.specs.declared.Residue.{Residue}
use Rattle.field.specs.declared.Modulus.{Modulus}
use Rattle.field.specs.Residues.{el}
use Rattle.poly.specs.declared.Poly.{Poly}
use Rattle.poly.specs.Polys.{K, P, pol, Ok, Is}
use Rattle.poly.specs.Operations.{ToDivide, Divided, MonicBy}
use Rattle.poly.proofs.Lengths.{none_is, is_none}
use Rattle.poly.proofs.Monic.{made_zero, made_monic}
use Rattle.poly_euclid.specs.declared.Line.{Line}
use Rattle.poly_euclid.specs.declared.RightLine.{RightLine}
use Rattle.poly_euclid.specs.Euclid.{ToDivideBy, OkL, OkH, MinusMultiple, Scaled, ScaledH}

module _ (m : Modulus) where
  open K m use {mul as ◌⊗◌, one as 𝟙}
  open P m use {El as Po, add as ◌+P◌, mul as ◌*P◌, neg as negP, zer as 0P}

  infixl 70 ◌⊗◌
  infixl 65 ◌+P◌
  infixl 70 ◌*P◌
  abbrev co : Residue → Po
  co x = C (K m) (el m x)

  -- ---- division by u, through v, which is u made monic by x
  module _ {a u v : Poly} (x : Residue) (h : ToDivideBy m a u) (e : coef (K m) (pol m u) (u.n - 1) ⊗ el m x ≡ 𝟙) (hv : Is m v (co x *P pol m u) u.n) where
    made : MonicBy m (el m x) u v
    made = made_monic m x (record { ok = h.right; some = h.some }) e hv

    pub to_divide : ToDivide m a v
    to_divide = record { left = h.left; right = hv.ok; monic = made.lead (omega (arith, made.same, h.some)) }

    pub divided : {q p r : Poly} → Divided m a v p r → Is m q (co x *P pol m p) p.n → Divided m a u q r
    divided {q} {p} {r} d hq = record {
      ok_q = hq.ok;
      ok_r = d.ok_r;
      is = d.is ∙ ap (λ t. pol m p *P t +P pol m r) hv.is ∙ ring (P m) (pol m p ∷ co x ∷ pol m u ∷ pol m r ∷ []) (search quote depth 40) refl ∙ ap (λ t. t *P pol m u +P pol m r) (sym hq.is);
      rest = omega (arith, d.rest, made.same);
      less = d.less;
      short = omega (arith, hq.short, d.short, made.same);
    }

  -- ---- c less q times d
  module _ {c q d p w : Poly} (hc : Ok m c) (hq : Ok m q) (hd : Ok m d) (hp : Is m p (pol m q *P pol m d) (q.n + d.n - 1)) (hw : Is m w (pol m c +P negP (pol m p)) (max c.n p.n)) where
    zero_p : pol m q *P pol m d ≡ 0P → p.n ≡ 0
    zero_p e = is_none m hp.ok (hp.is ∙ e)

    pub taken : MinusMultiple m c q d w
    taken = record {
      ok = hw.ok;
      is = hw.is ∙ ap (λ t. pol m c +P negP t) hp.is;
      short = omega (arith, hw.short, hp.short);
      none_q = λ e. omega (arith, hw.short, zero_p (ap (λ t. t *P pol m d) (none_is m hq e) ∙ zer_mul (P m) (pol m d)));
      none_d = λ e. omega (arith, hw.short, zero_p (ap (λ t. pol m q *P t) (none_is m hd e) ∙ mul_zer (P m) (pol m q)));
    }

  -- ---- a line made monic
  same : {a : Poly} → Ok m a → Is m a (C (K m) 𝟙 *P pol m a) a.n
  same {a} h = record { ok = h; is = sym (ap (λ t. t *P pol m a) (term_one (K m)) ∙ (P m).one-mul (pol m a)); short = omega arith }

  pub half_zero : {x : RightLine} → OkH m x → x.r.n ≡ 0 → ScaledH m x x
  half_zero h e = record { up = 𝟙; r = made_zero m h.r e; t = same h.t }

  pub half_scaled : {x y : RightLine} (c : Residue) → OkH m x → 0 < x.r.n → coef (K m) (pol m x.r) (x.r.n - 1) ⊗ el m c ≡ 𝟙 → Is m y.r (co c *P pol m x.r) x.r.n → Is m y.t (co c *P pol m x.t) x.t.n → ScaledH m x y
  half_scaled c h l e hr ht = record { up = el m c; r = made_monic m c (record { ok = h.r; some = l }) e hr; t = ht }

  pub scaled_zero : {x : Line} → OkL m x → x.r.n ≡ 0 → Scaled m x x
  scaled_zero h e = record { up = 𝟙; r = made_zero m h.r e; s = same h.s; t = same h.t }

  pub scaled : {x y : Line} (c : Residue) → OkL m x → 0 < x.r.n → coef (K m) (pol m x.r) (x.r.n - 1) ⊗ el m c ≡ 𝟙 → Is m y.r (co c *P pol m x.r) x.r.n → Is m y.s (co c *P pol m x.s) x.s.n → Is m y.t (co c *P pol m x.t) x.t.n → Scaled m x y
  scaled c h l e hr hs ht = record { up = el m c; r = made_monic m c (record { ok = h.r; some = l }) e hr; s = hs; t = ht }
