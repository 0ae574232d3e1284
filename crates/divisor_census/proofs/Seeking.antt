-- The walk over the candidates. Gives: a divisor of a row is the rule's pair of the row's numbers (`row_pair`); what the rule answers by what stands behind a divisor (`next_behind`), and by what is ahead of a candidate, from the walk's begin to its ends (`Seeking`).
use Prim.Native.Nat.{ℕ, zero, suc, ◌+◌, ◌*◌, ◌≤◌, ◌<◌}
use mathlib.Core.Path.{◌≡◌, refl, sym, ap, ap₂, ◌∙◌, subst}
use Rattle.std.specs.Prelude.{Some, None}
use mathlib.Core.List.{List, [], ◌∷◌, ◌++◌}
use mathlib.Core.Bool.{Bool}
use native.Mathlib.Omega.{arith}
use lib.ListN.{length, take, drop}
use lib.Seq.{take-take, take-add, drop_at, length-take-le}
use Rattle.algebra.proofs.Zmod.Zmod.{zmod, num, emb_num, num_lt}
use Rattle.rules.specs.Records.{CurveRecord, PairOf, elements}
use Rattle.rules.specs.Tests.{is_on_curve}
use Rattle.rules.proofs.Demand3.{on_curve_test}
use Rattle.rules.specs.Census.{passing, first, pair_from, pairs, next}
use Rattle.rules.proofs.Census.Rising.{passing_yes, passing_no}
use Rattle.rules.proofs.Census.Pairs.{Small, later, pairs_split}
use Rattle.rules.proofs.Census.Census.{next_is}
use Rattle.field.specs.declared.Modulus.{Modulus}
use Rattle.field.specs.declared.Residue.{Residue}
use Rattle.field.specs.Residues.{el}
use Rattle.field.proofs.Decide.{otherwise}
use Rattle.divisor.specs.declared.Divisor.{Divisor}
use Rattle.divisor.specs.Divisors.{weight_of, us, vs, elements as values, pair, AllSettled, RowOf, Held}
use Rattle.divisor.proofs.Laws.{weight_is, weight_is_v}
use Rattle.divisor.proofs.Rows.{row_u, row_v}
use Rattle.curve.specs.declared.Curve.{Curve}
use Rattle.curve.specs.Curves.{curve_of, Holds, Divided}
use Rattle.curve.specs.Record.{record_of}
use Rattle.divisor_census.specs.declared.Candidate.{Candidate}
use Rattle.divisor_census.specs.Rows.{digits, Rowed, row_of, on, Advanced, NextIs}
use Rattle.divisor_census.specs.Screens.{tried, stands, Skipped}
use Rattle.divisor_census.proofs.Raising.{length_digits}
use Rattle.divisor_census.proofs.Advancing.{ahead_in, ahead_out}

-- ---- numbers and elements
module _ (m : Modulus) where
  digits_take : (n : ℕ) (l : List Residue) → take n (digits m l) ≡ digits m (take n l)
  digits_take zero l = refl
  digits_take (suc n) [] = refl
  digits_take (suc n) (x ∷ l) = ap (λ t. num m.p (el m x) ∷ t) (digits_take n l)

  digits_drop : (n : ℕ) (l : List Residue) → drop n (digits m l) ≡ digits m (drop n l)
  digits_drop zero l = refl
  digits_drop (suc n) [] = refl
  digits_drop (suc n) (x ∷ l) = digits_drop n l

  digits_values : (l : List Residue) → elements m.p (digits m l) ≡ values m l
  unfolding elements
  digits_values [] = refl
  digits_values (x ∷ l) = ap₂ ◌∷◌ (emb_num m.p (el m x)) (digits_values l)

  digits_small : 0 < m.p → (l : List Residue) → Small m.p (digits m l)
  digits_small some [] = tt
  digits_small some (x ∷ l) = (num_lt m.p some (el m x), digits_small some l)

  settled_front : (a b : List Residue) → AllSettled m (a ++ b) → AllSettled m a × AllSettled m b
  settled_front [] b h = (tt, h)
  settled_front (x ∷ a) b h = let t = settled_front a b h.1 in ((h.0, t.0), t.1)

  -- ---- a divisor and its row
  module _ (d : Divisor) (w : ℕ) (e : weight_of d ≡ w) (l : List Residue) (h : RowOf d l) where
    twice : take (2 * w) l ≡ take w l ++ take w (drop w l)
    twice = let k : 2 * w ≡ w + w = omega arith in ap (λ n. take n l) k ∙ take-add w w l

    whole : take (2 * w) l ≡ us d ++ vs d
    whole = ap (λ n. take (2 * n) l) (sym e) ∙ h.is

    pub row_pair : (g : ℕ) (low : List (zmod m.p).El) → length l ≡ 6 → w ≤ 3 → pair m d ≡ pair_from (on m g low) w (row_of m w l)
    unfolding pair pair_from
    row_pair g low long u = ap₂ (λ a b. record { u = a; v = b }) u_is v_is
      where
        u_is : values m (us d) ≡ elements m.p (take w (row_of m w l))
        u_is = ap (values m) (row_u d l h w e ∙ sym (take-take w (2 * w) l (omega arith))) ∙ sym (digits_values (take w (take (2 * w) l))) ∙ ap (elements m.p) (sym (digits_take w (take (2 * w) l)))

        back : take w (drop w l) ≡ drop w (take (2 * w) l)
        back = sym (ap (drop w) twice ∙ drop_at (take w l) (take w (drop w l)) w (length-take-le w l (omega arith)))

        v_is : values m (vs d) ≡ elements m.p (drop w (row_of m w l))
        v_is = ap (values m) (row_v d l h w e ∙ back) ∙ sym (digits_values (drop w (take (2 * w) l))) ∙ ap (elements m.p) (sym (digits_drop w (take (2 * w) l)))

    pub row_held : Rowed m (2 * w) l → Held m d
    row_held r = let t = settled_front (us d) (vs d) (subst (AllSettled m) whole r.settled) in record { u = t.0; v = t.1 }

-- ---- the walk
module _ (c : Curve) where
  abbrev R : CurveRecord
  R = record_of c

  abbrev T : PairOf R → Bool
  T = is_on_curve (curve_of c)

  -- what is ahead of (w, l) answers as what was ahead of (w₀, l₀)
  pub record Seeking (w₀ : ℕ) (l₀ : List Residue) (w : ℕ) (l : List Residue) : Type 0 where
    pub rowed : w ≤ 3 → Rowed c.prime.m (2 * w) l
    pub is : first (stands c w l) ≡ first (stands c w₀ l₀)

module _ (c : Curve) where
  some : 0 < c.prime.m.p
  some = omega (arith, c.prime.m.odd.from)

  long_row : (w : ℕ) (l : List Residue) → length l ≡ 6 → w ≤ 3 → length (row_of c.prime.m w l) ≡ w + w
  long_row w l e u = length_digits c.prime.m (take (2 * w) l) ∙ length-take-le (2 * w) l (omega arith) ∙ omega arith

  -- the rule's answer by what stands behind a divisor of the row l
  pub next_behind : (d : Divisor) → Holds c d → (w : ℕ) → w ≡ weight_of d → (l : List Residue) → RowOf d l → length l ≡ 6 → w ≤ 3
      → next (R c) (pair c.prime.m d) ≡ first (passing (T c) (later (R c) w (row_of c.prime.m w l)))
  next_behind d h w e l r long u = go (pairs_split (R c) w (row_of c.prime.m w l) light (long_row w l long u) (digits_small c.prime.m some (take (2 * w) l)))
    where
      light : w ≤ c.g
      light = omega (arith, h.valid.small, weight_is c.prime.m d, e)

      is : pair c.prime.m d ≡ pair_from (R c) w (row_of c.prime.m w l)
      is = row_pair c.prime.m d w (sym e) l r c.g (curve_of c).low long u

      go : (a : List (PairOf (R c))) × (pairs (R c) ≡ a ++ (pair_from (R c) w (row_of c.prime.m w l) ∷ later (R c) w (row_of c.prime.m w l))) → next (R c) (pair c.prime.m d) ≡ first (passing (T c) (later (R c) w (row_of c.prime.m w l)))
      go t = next_is (R c) some (omega (arith, c.prime.m.odd.most)) t.0 (pair c.prime.m d) (later (R c) w (row_of c.prime.m w l)) (t.1 ∙ ap (λ x. t.0 ++ (x ∷ later (R c) w (row_of c.prime.m w l))) (sym is)) ((on_curve_test (curve_of c) (pair c.prime.m d)).1 h.valid.divides)

  -- the walk's begin, behind d
  pub seek_from : (d : Divisor) → Holds c d → (w : ℕ) → w ≡ weight_of d → (l : List Residue) → RowOf d l → length l ≡ 6 → w ≤ 3 → (t : Candidate) → Advanced c.prime.m w l t
      → next (R c) (pair c.prime.m d) ≡ first (stands c t.weight t.row)
  seek_from d h w e l r long u t a = next_behind d h w e l r long u ∙ ap (λ s. first (passing (T c) s)) (a.is c.g (curve_of c).low c.genus.most (omega (arith, h.valid.small, weight_is c.prime.m d, e)))

  module _ (w₀ : ℕ) (l₀ : List Residue) (w : ℕ) (l : List Residue) (h : Seeking c w₀ l₀ w l) where
    -- past what the screen turns away
    pub seek_skip : (r : List Residue) → Skipped c w l r → Seeking c w₀ l₀ w r
    seek_skip r k = record { rowed = λ u. k.rowed; is = ap first k.same ∙ h.is }

    module _ (light : w ≤ c.g) (x : Divisor) (e : weight_of x ≡ w) (r : RowOf x l) where
      three : w ≤ 3
      three = omega (arith, c.genus.most)

      is : pair c.prime.m x ≡ pair_from (R c) w (row_of c.prime.m w l)
      is = row_pair c.prime.m x w e l r c.g (curve_of c).low (h.rowed three).long three

      here : tried c w l ≡ pair c.prime.m x ∷ later (R c) w (row_of c.prime.m w l)
      here = ahead_in (R c) w (row_of c.prime.m w l) light ∙ ap (λ t. t ∷ later (R c) w (row_of c.prime.m w l)) (sym is)

      pub seek_held : Held c.prime.m x
      seek_held = row_held c.prime.m x w e l r (h.rowed three)

      pub seek_found : (d : Divisor) → next (R c) (pair c.prime.m d) ≡ first (stands c w₀ l₀) → Divided c x → NextIs c d (Some x)
      seek_found d n q = (
        record { held = seek_held; valid = record { fits = weight_is_v c.prime.m x ∙ sym (weight_is c.prime.m x); small = omega (arith, weight_is c.prime.m x, e); divides = q } },
        n ∙ sym h.is ∙ ap (λ t. first (passing (T c) t)) here ∙ ap first (passing_yes (T c) (pair c.prime.m x) _ ((on_curve_test (curve_of c) (pair c.prime.m x)).1 q)),
      )

      module _ (q : Divided c x → ⊥) (t : Candidate) (a : Advanced c.prime.m w l t) where
        skipped : stands c w l ≡ stands c t.weight t.row
        skipped = ap (passing (T c)) here ∙ passing_no (T c) (pair c.prime.m x) _ (otherwise ((T c) (pair c.prime.m x)) (λ y. q ((on_curve_test (curve_of c) (pair c.prime.m x)).0 y))) ∙ ap (passing (T c)) (a.is c.g (curve_of c).low c.genus.most light)

        pub seek_turn : Seeking c w₀ l₀ t.weight t.row
        seek_turn = record { rowed = a.rowed; is = ap first (sym skipped) ∙ h.is }

        pub seek_less : length (tried c t.weight t.row) < length (tried c w l)
        seek_less = omega (arith, ap length here, ap length (a.is c.g (curve_of c).low c.genus.most light))

    pub seek_end : c.g < w → (d : Divisor) → next (R c) (pair c.prime.m d) ≡ first (stands c w₀ l₀) → NextIs c d None
    unfolding passing
    seek_end u d n = n ∙ sym h.is ∙ ap (λ t. first (passing (T c) t)) (ahead_out (R c) w (row_of c.prime.m w l) u)
