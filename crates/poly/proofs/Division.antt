-- Division by a monic u, a coefficient of the quotient at a time, from the top: under way a = w · u + r, and each turn takes the leading
-- term of r away. Gives: `Reducing`, what holds of r; `Quoting`, of the residues of the quotient; their turns and ends; the exact quotient.
use Prim.Native.Nat.{ℕ, ◌+◌, ◌-◌, ◌<◌, ◌≤◌}
use mathlib.Core.Path.{◌≡◌, refl, sym, ap, ap₂, ◌∙◌}
use mathlib.Core.List.{List, [], ◌∷◌}
use native.Mathlib.Omega.{arith}
use lib.ListN.{set, get_or, length, length-set}
use Rattle.algebra.proofs.Ring.CRing.{add_neg, add_zer, mul-one, mul_zer}
use Rattle.algebra.proofs.Ring.Quote.{ring, quote, by}
use Rattle.algebra.proofs.Poly.Bound.{Below, Monic, lead_mul}
use Rattle.algebra.proofs.Poly.Poly.{coef, coef_add, coef_mul, coef_zer}
use Rattle.algebra.proofs.Poly.Term.{at, term, coef_term, termS_off, coef_shift, term_neg}
use Rattle.algebra.proofs.Poly.Divide.{short_multiple}
use Rattle.field.specs.declared.Residue.{Residue}
use Rattle.field.specs.declared.Modulus.{Modulus}
use Rattle.field.specs.Residues.{el, Kept, Stands, Everywhere}
use Rattle.field.proofs.Laws.{zero_settles, settles_stands}
use Rattle.poly.specs.declared.Poly.{Poly}
use Rattle.poly.specs.Polys.{room, K, P, pol_l, pol, Filled, Ok, Is}
use Rattle.poly.specs.Operations.{FilledTo, Size, IsMonic, ToDivide, Divided, ToQuotient, Quotient}
use Rattle.poly.proofs.Stored.{read, set_is, filled_set}
use Rattle.poly.proofs.Build.{build_next}
use Rattle.poly.proofs.Rows.{Rowing, row_turn, row_is, row_sum_below}
use Rattle.poly.proofs.Lengths.{less}

module _ (m : Modulus) where
  open K m use {El as A, add as ◌⊕◌, mul as ◌⊗◌, neg as ng, zer as 𝟘}
  open P m use {El as Po, add as ◌+P◌, mul as ◌*P◌, neg as negP, zer as 0P, one as 1P}

  infixl 65 ◌⊕◌
  infixl 70 ◌⊗◌
  infixl 65 ◌+P◌
  infixl 70 ◌*P◌
  abbrev cf : Po → ℕ → A
  cf v = coef (K m) v

  abbrev te : A → ℕ → Po
  te x k = term (K m) x k

  spot : (s n : ℕ) → 0 < n → s + n - 1 ≡ s + (n - 1)
  spot s n l = omega arith

  -- k coefficients of the quotient are to come, and those found stand for w
  pub record Reducing (a u : Poly) (w : Po) (r : List Residue) (k : ℕ) : Type 0 where
    pub within : k ≤ a.n + 1 - u.n
    pub long : length r ≡ room
    pub fill : Filled m r
    pub is : pol m a ≡ w *P pol m u +P pol_l m r
    pub end : Below (K m) (k + u.n - 1) (cf (pol_l m r))

  -- nothing stands below k yet, and nothing will past the length
  pub record Quoting (a u : Poly) (q : List Residue) (k : ℕ) : Type 0 where
    pub long : length q ≡ room
    pub fill : Filled m q
    pub low : (j : ℕ) → j < k → cf (pol_l m q) j ≡ 𝟘
    pub end : Below (K m) (a.n + 1 - u.n) (cf (pol_l m q))

  -- where the turn at k stores
  module _ {a u : Poly} {w : Po} {r : List Residue} {k : ℕ} (h : ToDivide m a u) (v : Reducing a u w r k) (l : 0 < k) where
    pub turn_in : k - 1 < room
    turn_in = omega (arith, v.within, h.left.len, h.monic.some)

    pub top_in : k - 1 + (u.n - 1) < room
    top_in = omega (arith, v.within, h.left.len, h.monic.some)

    pub row_in : (i : ℕ) → i < u.n - 1 → k - 1 + i < room
    row_in i g = omega (arith, top_in)

    pub row_fits : k - 1 + u.n ≤ room
    row_fits = omega (arith, top_in)

  module _ (a u : Poly) (h : ToDivide m a u) where
    pub reduce_begin : {w : Po} → w ≡ 0P → length a.c ≡ room → u.n ≤ a.n → Reducing a u w a.c (a.n + 1 - u.n)
    reduce_begin hw e l = record {
      within = omega arith;
      long = e;
      fill = h.left.fill;
      is = sym (ap (λ t. t *P pol m u +P pol m a) hw ∙ ring (P m) (pol m u ∷ pol m a ∷ []) (search quote depth 40) refl);
      end = λ k g. h.left.size.end k (omega (arith, h.monic.some));
    }

    pub read_lead : {w : Po} {r : List Residue} {k : ℕ} (s : ℕ) (d : Residue) → Reducing a u w r k → s + 1 ≡ k → Stands m (get_or r (s + (u.n - 1)) d) (cf (pol_l m r) (s + (u.n - 1)))
    read_lead s d v e = read m (s + (u.n - 1)) d v.fill (omega (arith, v.long, v.within, h.left.len, h.monic.some))

    -- one turn: x, the leading coefficient of r, is found at `top`, and a row of u is taken away at s; its last place becomes zero
    module _ {w : Po} {r : List Residue} {k top : ℕ} {x : Residue} (s : ℕ) (v : Reducing a u w r k) (es : s + 1 ≡ k) (et : top ≡ s + (u.n - 1)) (hx : Stands m x (cf (pol_l m r) top)) where
      fits : s + u.n ≤ room
      fits = omega (arith, v.within, h.left.len, h.monic.some)

      module _ {j : List Residue} {i : ℕ} {z : Residue} (row : Rowing m (pol_l m r) (ng (el m x)) s u j i) (ei : i ≡ u.n - 1) (hz : Everywhere z 0) where
        last : Stands m z (cf (pol_l m j) top ⊕ ng (el m x) ⊗ cf (pol m u) i)
        last = let o : Stands m z 𝟘 = settles_stands m (zero_settles m z hz) in record {
          kept = o.kept;
          is = o.is ∙ sym (ap₂ ◌⊕◌ (ap (cf (pol_l m j)) {x = top} {y = s + i} (omega arith) ∙ build_next m (pol_l m r) _ s u.n row ∙ ap (cf (pol_l m r)) {x = s + i} {y = top} (omega arith) ∙ sym hx.is) (ap (λ t. ng (el m x) ⊗ cf (pol m u) t) ei ∙ ap (λ t. ng (el m x) ⊗ t) h.monic.lead ∙ mul-one (K m) (ng (el m x))) ∙ add_neg (K m) (el m x));
        }

        whole : Rowing m (pol_l m r) (ng (el m x)) s u (set j top z) (i + 1)
        whole = row_turn m (pol_l m r) (ng (el m x)) s u h.right fits row (omega (arith, h.monic.some)) (omega arith) last

        rest_is : pol_l m (set j top z) ≡ pol_l m r +P te (ng (el m x)) s *P pol m u
        rest_is = row_is m (pol_l m r) (ng (el m x)) s u h.right fits whole (omega arith)

        lead_gone : cf (pol_l m (set j top z)) (s + u.n - 1) ≡ 𝟘
        lead_gone = ap₂ cf rest_is (spot s u.n h.monic.some)
            ∙ at (K m) (coef_add (K m) (pol_l m r) (te (ng (el m x)) s *P pol m u)) (s + (u.n - 1))
            ∙ ap₂ ◌⊕◌ (ap (cf (pol_l m r)) (sym et) ∙ sym hx.is) (coef_shift (K m) (ng (el m x)) s (u.n - 1) (pol m u) ∙ ap (λ t. ng (el m x) ⊗ t) h.monic.lead ∙ mul-one (K m) (ng (el m x)))
            ∙ add_neg (K m) (el m x)

        pub reduce_turn : {w' : Po} → w' ≡ w +P te (el m x) s → Reducing a u w' (set j top z) s
        reduce_turn ew = record {
          within = omega (arith, v.within);
          long = whole.long;
          fill = whole.fill;
          is = v.is ∙ ring (P m) (w ∷ pol m u ∷ pol_l m r ∷ te (el m x) s ∷ []) (search quote depth 40) refl
              ∙ sym (ap₂ (λ t o. t *P pol m u +P o) ew (rest_is ∙ ap (λ t. pol_l m r +P t *P pol m u) (term_neg (K m) (el m x) s)));
          end = less m (pol_l m (set j top z)) (s + u.n) (λ n g. ap (λ t. cf t n) rest_is ∙ row_sum_below m (pol_l m r) (ng (el m x)) s u h.right fits (k + u.n - 1) v.end n (omega arith)) lead_gone;
        }

    pub reduce_held : {w : Po} {r : List Residue} {k : ℕ} → Reducing a u w r k → k ≤ 0 → FilledTo m r (u.n - 1)
    reduce_held v l = record { len = omega (arith, h.right.len); fill = v.fill; end = λ j g. v.end j (omega arith) }

    -- ---- the residues of the quotient
    pub quote_begin : {z : Poly} (k : ℕ) → Is m z 0P 0 → length z.c ≡ room → Quoting a u z.c k
    quote_begin {z} k hz e = record { long = e; fill = hz.ok.fill; low = λ j g. none j; end = λ j g. none j }
      where
        none : (j : ℕ) → cf (pol m z) j ≡ 𝟘
        none j = ap (λ t. cf t j) hz.is ∙ at (K m) (coef_zer (K m)) j

    module _ {q : List Residue} {k : ℕ} {x : Residue} (s : ℕ) (v : Quoting a u q k) (within : k ≤ a.n + 1 - u.n) (es : s + 1 ≡ k) (hx : Kept m x) where
      inside : s < length q
      inside = omega (arith, v.long, h.left.len, h.monic.some)

      pub quote_is : pol_l m (set q s x) ≡ pol_l m q +P te (el m x) s
      quote_is = set_is m q s x inside (el m x) (sym (ap (λ t. t ⊕ el m x) (v.low s (omega arith)) ∙ (K m).zer_add (el m x)))

      still : (j : ℕ) → (j ≡ s → ⊥) → cf (pol_l m q) j ≡ 𝟘 → cf (pol_l m (set q s x)) j ≡ 𝟘
      still j ne e = ap (λ t. cf t j) quote_is ∙ at (K m) (coef_add (K m) (pol_l m q) (te (el m x) s)) j ∙ ap₂ ◌⊕◌ e (at (K m) (coef_term (K m) (el m x) s) j ∙ termS_off (K m) (el m x) s j ne) ∙ (K m).zer_add 𝟘

      pub quote_turn : Quoting a u (set q s x) s
      quote_turn = record {
        long = length-set q s x ∙ v.long;
        fill = filled_set m q s x inside v.fill hx;
        low = λ j g. still j (λ e. omega arith) (v.low j (omega arith));
        end = λ j g. still j (λ e. omega arith) (v.end j g);
      }

    -- ---- the ends: u longer than a, and all turns taken
    pub div_short : {z : Poly} → Is m z 0P 0 → a.n < u.n → Divided m a u z a
    div_short hz l = record {
      ok_q = hz.ok;
      ok_r = h.left;
      is = sym (ap (λ t. t *P pol m u +P pol m a) hz.is ∙ ring (P m) (pol m u ∷ pol m a ∷ []) (search quote depth 40) refl);
      rest = l;
      less = omega arith;
      short = omega (arith, hz.short);
    }

    module _ {q r : List Residue} {k : ℕ} (v : Reducing a u (pol_l m q) r k) (o : Quoting a u q k) (l : k ≤ 0) (long : u.n ≤ a.n) where
      -- the quotient begins as a does
      lead_same : cf (pol m a) (a.n - 1) ≡ cf (pol_l m q) (a.n + 1 - u.n - 1)
      lead_same = ap (λ t. cf t (a.n - 1)) v.is ∙ at (K m) (coef_add (K m) (pol_l m q *P pol m u) (pol_l m r)) (a.n - 1)
          ∙ ap₂ ◌⊕◌
          (at (K m) (coef_mul (K m) (pol_l m q) (pol m u)) (a.n - 1)
          ∙ lead_mul (K m) (a.n + 1 - u.n - 1) (u.n - 1) (a.n - 1) (cf (pol_l m q)) (cf (pol m u)) (λ j g. o.end j (omega arith)) (λ j g. h.right.size.end j (omega (arith, h.monic.some))) (omega (arith, h.monic.some))
          ∙ ap (λ t. cf (pol_l m q) (a.n + 1 - u.n - 1) ⊗ t) h.monic.lead
          ∙ mul-one (K m) (cf (pol_l m q) (a.n + 1 - u.n - 1)))
          (v.end (a.n - 1) (omega arith))
          ∙ add_zer (K m) (cf (pol_l m q) (a.n + 1 - u.n - 1))

      pub div_end : {p n : ℕ} → p ≡ a.n + 1 - u.n → Size m r (u.n - 1) n → Divided m a u (record { c = q; n = p }) (record { c = r; n = n })
      div_end {p} ep z = record {
        ok_q = record {
          len = omega (arith, h.left.len, h.monic.some);
          fill = o.fill;
          size = record { end = λ j g. o.end j (omega arith); top = λ g e. h.left.size.top (omega (arith, h.monic.some)) (lead_same ∙ ap (λ t. cf (pol_l m q) (t - 1)) (sym ep) ∙ e) };
        };
        ok_r = record { len = omega (arith, z.within, h.right.len); fill = v.fill; size = z.size };
        is = v.is;
        rest = omega (arith, z.within, h.monic.some);
        less = omega (arith, z.within);
        short = omega arith;
      }

  pub monic_of : {u : Poly} → Ok m u → IsMonic m u → Monic (K m) (u.n - 1) (cf (pol m u))
  monic_of h o = record { below = λ k l. h.size.end k (omega (arith, o.some)); top = o.lead }

  -- where u divides a, nothing is left
  pub quotient_is : {a u q r : Poly} → ToQuotient m a u → Divided m a u q r → Quotient m a u q
  quotient_is {a} {u} {q} {r} h v = record { ok = v.ok_q; is = v.is ∙ ap (λ t. pol m q *P pol m u +P t) rest_zero ∙ add_zer (P m) (pol m q *P pol m u); short = v.short }
    where
      f : Po
      f = h.divides.factor

      rest_is : pol m u *P (f +P negP (pol m q)) ≡ pol m r
      rest_is = by (P m) 1P v.is (by (P m) (negP 1P) h.divides.is (ring (P m) (pol m a ∷ pol m u ∷ pol m q ∷ pol m r ∷ f ∷ []) (search quote depth 40) refl))

      none : f +P negP (pol m q) ≡ 0P
      none = short_multiple (K m) (u.n - 1) (pol m u) (f +P negP (pol m q)) (monic_of h.right h.monic) (λ k l. ap (λ t. cf t k) rest_is ∙ v.ok_r.size.end k (omega (arith, v.rest)))

      rest_zero : pol m r ≡ 0P
      rest_zero = sym rest_is ∙ ap (λ t. pol m u *P t) none ∙ mul_zer (P m) (pol m u)
