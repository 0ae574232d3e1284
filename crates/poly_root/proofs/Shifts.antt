-- Roots from parts of a cubic. Gives: a part that is a line, or whose other factor is one, gives a root (`line_root`, `other_root`); a part of degree 0 or 3 takes no root or all, so that a shift that parts nothing
-- takes all roots alike (`Tried`); some shift below p does part them (`never`); and what the part with x^p - x says (`no_root`, `parabola_root`, `all_parted`).
use Prim.Native.Nat.{ℕ, zero, suc, ◌+◌, ◌-◌, ◌/◌, ◌≤◌, ◌<◌}
use mathlib.Core.Path.{◌≡◌, refl, sym, ap, ap₂, ◌∙◌, subst}
use mathlib.Core.List.{[], ◌∷◌}
use mathlib.Core.Bool.{Bool, true, false}
use mathlib.Core.Logic.{◌≢◌}
use native.Mathlib.Decide.{ℕ_discrete}
use native.Mathlib.Omega.{arith}
use lib.ListN.{get_or}
use Rattle.algebra.proofs.Ring.CRing.{neg_neg, zer_mul, add_neg, eq_of_sub}
use Rattle.algebra.proofs.Ring.Quote.{ring, quote}
use Rattle.algebra.proofs.Ring.Divides.{Divides}
use Rattle.algebra.proofs.Ring.Power.{power, has_power_one, power_one}
use Rattle.algebra.proofs.Poly.Bound.{Monic}
use Rattle.algebra.proofs.Poly.Poly.{coef}
use Rattle.algebra.proofs.Poly.Term.{C, X}
use Rattle.algebra.proofs.Poly.Degree.{deg_monic}
use Rattle.algebra.proofs.List.Value.{mon, mon_monic}
use Rattle.algebra.proofs.List.Coefs.{mon_of}
use Rattle.algebra.proofs.Zmod.Zmod.{emb, emb_add, emb_one}
use Rattle.algebra.proofs.Zmod.PrimeField.{modulo}
use Rattle.algebra.proofs.Zmod.Prime.{Prime}
use Rattle.field.specs.declared.Modulus.{Modulus}
use Rattle.field.specs.declared.Residue.{Residue}
use Rattle.field.specs.Residues.{el, Kept, Settles, Stands}
use Rattle.field.proofs.Laws.{residue_field}
use Rattle.field.proofs.Decide.{otherwise}
use Rattle.poly.specs.declared.Poly.{Poly}
use Rattle.poly.specs.Polys.{pol}
use Rattle.poly.proofs.Division.{monic_of}
use Rattle.poly.proofs.Monic.{monic_one}
use Rattle.rules.specs.Roots.Roots.{value}
use Rattle.rules.proofs.Roots.Value.{linear, ev, ev_hom, ev_less_one, ev_shift, root_iff, root_factor, value_is}
use Rattle.rules.proofs.Roots.Fermat.{every_root}
use Rattle.rules.proofs.Roots.Shift.{parted_by_power}
use Rattle.rules.proofs.Roots.Count.{two_roots}
use Rattle.rules.proofs.Roots.Factor.{linear_factor, quadratic_less}
use Rattle.poly_root.specs.declared.rests.MonicCubic.{MonicCubic}
use Rattle.poly_root.specs.rests.Rests.{K, P, lows, cubic, SettledCubic}
use Rattle.field_root.specs.Squares.{Splits}
use Rattle.poly_root.specs.parts.Parts.{Part, all_roots, shifted}
use Rattle.poly_root.specs.Roots.{Root, IsRoot, Whole}

module _ (m : Modulus) where
  open K m use {El as A, add as ◌⊕◌, mul as ◌⊗◌, neg as ng, zer as 𝟘, one as 𝟙}
  open P m use {El as Po, add as ◌+P◌, mul as ◌*P◌, one as 1P}

  infixl 65 ◌⊕◌
  infixl 70 ◌⊗◌
  infixl 65 ◌+P◌
  infixl 70 ◌*P◌
  pub to_ev : (u : MonicCubic) (y : A) → Root m u y → ev (K m) y (cubic m u) ≡ 𝟘
  to_ev u y h = sym (value_is (K m) y (lows m u)) ∙ h

  pub from_ev : (u : MonicCubic) (y : A) → ev (K m) y (cubic m u) ≡ 𝟘 → Root m u y
  from_ev u y h = value_is (K m) y (lows m u) ∙ h

  module _ {u : MonicCubic} {d : Po} {g : Poly} (h : Part m u d g) where
    -- ---- the coefficients of a part
    monic_at_degree : (j : ℕ) → g.n ≡ suc j → Monic (K m) j (coef (K m) (pol m g))
    monic_at_degree j e = subst (λ (i : ℕ). Monic (K m) i (coef (K m) (pol m g))) {x = g.n - 1} {y = j} (omega arith) (monic_of m h.ok h.monic)

    pub as_line : g.n ≡ 2 → mon (K m) (coef (K m) (pol m g) 0 ∷ []) ≡ pol m g
    as_line e = mon_of (K m) (coef (K m) (pol m g) 0 ∷ []) (pol m g) (monic_at_degree 1 e) at
      where
        at : (k : ℕ) → k < 1 → get_or (coef (K m) (pol m g) 0 ∷ []) k 𝟘 ≡ coef (K m) (pol m g) k
        at zero l = refl
        at (suc k) l = absurd (omega arith)

    pub as_parabola : g.n ≡ 3 → mon (K m) (coef (K m) (pol m g) 0 ∷ coef (K m) (pol m g) 1 ∷ []) ≡ pol m g
    as_parabola e = mon_of (K m) (coef (K m) (pol m g) 0 ∷ coef (K m) (pol m g) 1 ∷ []) (pol m g) (monic_at_degree 2 e) at
      where
        at : (k : ℕ) → k < 2 → get_or (coef (K m) (pol m g) 0 ∷ coef (K m) (pol m g) 1 ∷ []) k 𝟘 ≡ coef (K m) (pol m g) k
        at zero l = refl
        at (suc zero) l = refl
        at (suc (suc k)) l = absurd (omega arith)

    -- ---- a root of it
    pub line_root : g.n ≡ 2 → {c r : Residue} → Stands m c (coef (K m) (pol m g) 0) → Stands m r (ng (el m c)) → IsRoot m u r
    line_root e {c} {r} hc hr = record { kept = hr.kept; is = from_ev u (el m r) ((root_iff (K m) (el m r) (cubic m u)).0 (subst (λ (t : Po). Divides (P m) t (cubic m u)) (sym same) h.divides)) }
      where
        same : linear (K m) (el m r) ≡ pol m g
        same = ap (λ (t : A). mon (K m) (t ∷ [])) (ap ng hr.is ∙ neg_neg (K m) (el m c) ∙ hc.is) ∙ as_line e

    pub other_root : g.n ≡ 3 → {c r : Residue} → Stands m c (coef (K m) (pol m g) 1) → Stands m r (el m c ⊕ ng (el m u.u2)) → IsRoot m u r
    other_root e {c} {r} hc hr = record {
      kept = hr.kept;
      is = from_ev u (el m r) (ap (ev (K m) (el m r)) h.divides.is ∙ (ev_hom (K m) (el m r)).h_mul h.divides.factor (pol m g) ∙ ap (λ t. t ⊗ ev (K m) (el m r) (pol m g)) none ∙ zer_mul (K m) (ev (K m) (el m r) (pol m g)));
    }
      where
        cancels : (a b : A) → a ⊕ ng b ⊕ (b ⊕ ng a) ≡ 𝟘
        cancels a b = ring (K m) (a ∷ b ∷ []) (search quote depth 40) refl

        none : ev (K m) (el m r) h.divides.factor ≡ 𝟘
        none = ap (ev (K m) (el m r)) (linear_factor (K m) (el m u.u0) (el m u.u1) (el m u.u2) (coef (K m) (pol m g) 0) (coef (K m) (pol m g) 1) h.divides.factor (h.divides.is ∙ ap (λ t. h.divides.factor *P t) (sym (as_parabola e))))
            ∙ ev_shift (K m) (el m r) (el m u.u2 ⊕ ng (coef (K m) (pol m g) 1)) ∙ ap (λ t. t ⊕ (el m u.u2 ⊕ ng (coef (K m) (pol m g) 1))) (hr.is ∙ ap (λ t. t ⊕ ng (el m u.u2)) hc.is) ∙ cancels (coef (K m) (pol m g) 1) (el m u.u2)

  -- ---- the search
  abbrev half : ℕ
  half = (m.p - 1) / 2

  abbrev takes : A → Bool
  takes y = has_power_one (modulo m.p) y half

  shifted_at : (a y : A) → ev (K m) y (shifted m a) ≡ power (K m) (y ⊕ a) half ⊕ ng 𝟙
  shifted_at a y = ev_less_one (K m) y (X (K m) +P C (K m) a) half ∙ ap (λ t. power (K m) t half ⊕ ng 𝟙) (ev_shift (K m) y a)

  -- a part of degree 0 or 3: what it says of every root
  module _ (prime : Prime m.p) {u : MonicCubic} (a : A) {g : Poly} (h : Part m u (shifted m a) g) where
    refuses : g.n ≡ 1 → (y : A) → Root m u y → takes (y ⊕ a) ≡ false
    refuses e y z = otherwise (takes (y ⊕ a)) (λ t. (residue_field m prime).one_ne (sym (ap (ev (K m) y) (monic_one m h.ok e h.monic) ∙ (ev_hom (K m) y).h_one)
        ∙ (h.keeps y (to_ev u y z)).1 (shifted_at a y ∙ ap (λ s. s ⊕ ng 𝟙) ((power_one (modulo m.p) (y ⊕ a) half).0 t) ∙ add_neg (K m) 𝟙)))

    accepts : g.n ≡ 4 → (y : A) → Root m u y → takes (y ⊕ a) ≡ true
    accepts e y z = (power_one (modulo m.p) (y ⊕ a) half).1 (eq_of_sub (K m) (power (K m) (y ⊕ a) half) 𝟙 (sym (shifted_at a y) ∙ root_factor (K m) y (cubic m u) (shifted m a) (h.whole e) (to_ev u y z)))

    alike : (g.n ≡ 2 → ⊥) → (g.n ≡ 3 → ⊥) → (α β : A) → Root m u α → Root m u β → takes (α ⊕ a) ≡ takes (β ⊕ a)
    alike n2 n3 α β x y = go (ℕ_discrete g.n 1)
      where
        go : Dec (g.n ≡ 1) → takes (α ⊕ a) ≡ takes (β ⊕ a)
        go (yes e) = refuses e α x ∙ sym (refuses e β y)
        go (no n1) = accepts (omega (arith, h.monic.some, h.most)) α x ∙ sym (accepts (omega (arith, h.monic.some, h.most)) β y)

pub record Tried (m : Modulus) (u : MonicCubic) (a : Residue) (k : ℕ) : Type 0 where
  pub kept : Kept m a
  pub is : el m a ≡ emb m.p k
  pub same : (j : ℕ) → j < k → (α β : (K m).El) → Root m u α → Root m u β
      → has_power_one (modulo m.p) ((K m).add α (emb m.p j)) ((m.p - 1) / 2) ≡ has_power_one (modulo m.p) ((K m).add β (emb m.p j)) ((m.p - 1) / 2)

module _ (m : Modulus) (prime : Prime m.p) where
  open K m use {El as A, add as ◌⊕◌, zer as 𝟘, one as 𝟙}

  infixl 65 ◌⊕◌
  module _ {u : MonicCubic} {a : Residue} {k : ℕ} (h : Tried m u a k) where
    pub tried_turn : {g : Poly} {o b : Residue} → Part m u (shifted m (el m a)) g → (g.n ≡ 2 → ⊥) → (g.n ≡ 3 → ⊥) → Settles m o 𝟙 → Stands m b (el m a ⊕ el m o) → Tried m u b (k + 1)
    tried_turn part n2 n3 ho hb = record {
      kept = hb.kept;
      is = hb.is ∙ ap₂ ◌⊕◌ h.is (ho.is ∙ sym (emb_one m.p)) ∙ sym (emb_add m.p k 1);
      same = λ j l. more j l (ℕ_discrete j k);
    }
      where
        more : (j : ℕ) → j < k + 1 → Dec (j ≡ k) → (α β : A) → Root m u α → Root m u β → takes m (α ⊕ emb m.p j) ≡ takes m (β ⊕ emb m.p j)
        more j l (no n) = h.same j (omega arith)
        more j l (yes e) = λ α β x y. subst (λ (t : A). takes m (α ⊕ t) ≡ takes m (β ⊕ t)) (h.is ∙ ap (emb m.p) (sym e)) (alike m prime (el m a) part n2 n3 α β x y)

    pub never : Whole m u → m.p ≤ k → IsRoot m u a
    never w l =
        let r = two_roots m.p prime 1 (cubic m u) w.divides.factor (deg_monic (residue_field m prime) (mon_monic (K m) (lows m u))) w.divides.is in
        let s = parted_by_power m.p prime (half m) (omega (arith, m.odd.from)) r.0 r.1.0 r.1.1.0 in
        absurd (s.2 (h.same s.0 (omega (arith, s.1)) r.0 r.1.0 (from_ev m u r.0 r.1.1.1.0) (from_ev m u r.1.0 r.1.1.1.1)))

-- ---- the part with x^p - x
module _ (m : Modulus) (prime : Prime m.p) {u : MonicCubic} {g : Poly} (h : Part m u (all_roots m) g) where
  open K m use {El as A, add as ◌⊕◌, mul as ◌⊗◌, neg as ng, zer as 𝟘, one as 𝟙}

  infixl 65 ◌⊕◌
  infixl 70 ◌⊗◌
  -- every root of u is one of g, and the other way round
  kept_root : (y : A) → Root m u y → ev (K m) y (pol m g) ≡ 𝟘
  kept_root y z = (h.keeps y (to_ev m u y z)).1 (every_root m.p prime y)

  pub no_root : g.n ≡ 1 → (y : A) → Root m u y → ⊥
  no_root e y z = (residue_field m prime).one_ne (sym (ap (ev (K m) y) (monic_one m h.ok e h.monic) ∙ (ev_hom (K m) y).h_one) ∙ kept_root y z)

  -- of degree 2: by the quadratic's roots
  module _ (e : g.n ≡ 3) {b c : Residue} (hb : Stands m b (coef (K m) (pol m g) 1)) (hc : Stands m c (coef (K m) (pol m g) 0)) where
    parabola_at : (y : A) → value (K m) (el m c ∷ el m b ∷ []) y ≡ ev (K m) y (pol m g)
    parabola_at y = value_is (K m) y (el m c ∷ el m b ∷ []) ∙ ap (ev (K m) y) (ap₂ (λ (s t : A). mon (K m) (s ∷ t ∷ [])) hc.is hb.is ∙ as_parabola m h e)

    pub parabola_root : {r t : Residue} → Splits m b c r t → IsRoot m u r
    parabola_root {r} {t} s = record {
      kept = s.kept_r;
      is = from_ev m u (el m r) (root_factor (K m) (el m r) (pol m g) (cubic m u) h.divides (sym (parabola_at (el m r)) ∙ quadratic_less (K m) (el m b) (el m c) (el m r) (el m t) (el m r) s.sum s.product
          ∙ ap (λ x. x ⊗ (el m r ⊕ ng (el m t))) (add_neg (K m) (el m r)) ∙ zer_mul (K m) (el m r ⊕ ng (el m t))));
    }

    pub parabola_none : ((y : A) → value (K m) (el m c ∷ el m b ∷ []) y ≢ 𝟘) → (y : A) → Root m u y → ⊥
    parabola_none f y z = f y (parabola_at y ∙ kept_root y z)

  pub all_parted : SettledCubic m u → (g.n ≡ 1 → ⊥) → (g.n ≡ 2 → ⊥) → (g.n ≡ 3 → ⊥) → Whole m u
  all_parted s n1 n2 n3 = record { settled = s; divides = h.whole (omega (arith, h.monic.some, h.most)) }
