-- The divisor record, alone or somewhere in a batch. Gives: what a record that is taken says of its bytes (`divisor_read`) and of its divisor
-- (`divisor_valid`); that those bytes are what the divisor is written as (`divisor_written`), that what is written is taken
-- (`divisor_reread`), and that a record taken alone is taken among others (`taken_among`) and the other way round (`alone_out`).
use Prim.Native.Nat.{ℕ, ◌+◌, ◌*◌, ◌≤◌, ◌<◌}
use mathlib.Core.Path.{◌≡◌, refl, sym, ap, ap₂, ◌∙◌, subst}
use mathlib.Core.List.{List, [], ◌∷◌, ◌++◌, append-nil}
use mathlib.Core.Bool.{Bool, true, false}
use native.Mathlib.Omega.{arith}
use lib.ListN.{get_or, length, take, drop, length-append, length-drop, take-append-drop, drop_of_length-le, get_or-append}
use lib.Seq.{get_or-append-add, get_or-take, get_or-drop, drop-drop, length-take-le}
use borrow.Author.Tests.{leb-true, eqb-true, eq-eqb, ltb-true, lt-ltb, le-leb}
use Rattle.algebra.proofs.Zmod.Zmod.{zmod}
use Rattle.rules.specs.Bytes.{words, all_bytes}
use Rattle.rules.specs.Pair.{Valid}
use Rattle.rules.specs.Tests.{is_on_curve}
use Rattle.rules.specs.Records.{taken, both, fits, is_below, elements, numbers, CurveRecord, curve, PairOf, us_at, vs_at, made_of, divisor_checks, divisor_at, read_divisor, divisor_bytes}
use Rattle.rules.proofs.Cantor.OnCurve.{on_curve_decides}
use Rattle.rules.proofs.Calls.Tests.{both_true, true_both}
use Rattle.rules.proofs.Calls.Checks.{all_passed, passed_all}
use Rattle.rules.proofs.Calls.Bytes.{AreBytes, Alike, alike_at, one_off, bytes_words, length-bytes, length-words, words_same, words_behind}
use Rattle.rules.proofs.Calls.Elements.{elements_numbers, numbers_elements, length_elements, length_numbers, numbers_below}
use Rattle.rules.proofs.Calls.CurveRecords.{Accepts}

module _ (c : CurveRecord) where
  abbrev pub pair_at_row : List ℕ → ℕ → PairOf c
  pair_at_row s a = made_of c (us_at s a) (vs_at s a)

  pub made_numbers : (d : PairOf c) → made_of c (numbers c.p d.u) (numbers c.p d.v) ≡ d
  made_numbers d = ap₂ paired (elements_numbers c.p d.u) (elements_numbers c.p d.v)
    where
      paired : List (zmod c.p).El → List (zmod c.p).El → PairOf c
      paired x y = record { u = x; v = y }

  pub record DivisorBytes (whole : Bool) (s : List ℕ) (a : ℕ) : Type 0 where
    pub inside : a < length s
    pub small : get_or s a 0 ≤ c.g
    pub long : fits whole (a + 1 + 16 * get_or s a 0) (length s) ≡ true
    pub below : both (is_below c.p (us_at s a)) (is_below c.p (vs_at s a)) ≡ true
    pub on : is_on_curve (curve c) (pair_at_row s a) ≡ true

  module _ (k : ℕ) (whole : Bool) (s : List ℕ) (a : ℕ) where
    pub divisor_read : {d : PairOf c} → divisor_at c k whole s a ≡ taken d → DivisorBytes whole s a × (pair_at_row s a ≡ d)
    unfolding divisor_at
    divisor_read e = let t = all_passed (pair_at_row s a) (divisor_checks c k whole s a) e in
        let h = t.0 in
        (record { inside = ltb-true _ _ h.0; small = leb-true _ _ h.1.0; long = h.1.1.0; below = h.1.1.1.0; on = h.1.1.1.1.0 }, t.1)

    pub divisor_taken : DivisorBytes whole s a → divisor_at c k whole s a ≡ taken (pair_at_row s a)
    unfolding divisor_at
    divisor_taken h = passed_all (pair_at_row s a) (divisor_checks c k whole s a) (lt-ltb a (length s) h.inside, (le-leb (get_or s a 0) c.g h.small, (h.long, (h.below, (h.on, tt)))))

    pair_valid : DivisorBytes whole s a → Valid (curve c) (pair_at_row s a)
    pair_valid h = record {
      fits = v_long ∙ sym u_long;
      small = omega (arith, u_long, h.small);
      divides = (on_curve_decides (curve c) (pair_at_row s a)).0 h.on;
    }
      where
        u_long : length (elements c.p (us_at s a)) ≡ get_or s a 0
        u_long = length_elements c.p (us_at s a) ∙ length-words s (get_or s a 0) (a + 1)

        v_long : length (elements c.p (vs_at s a)) ≡ get_or s a 0
        v_long = length_elements c.p (vs_at s a) ∙ length-words s (get_or s a 0) (a + 1 + 8 * get_or s a 0)

    pub divisor_valid : {d : PairOf c} → divisor_at c k whole s a ≡ taken d → Valid (curve c) d
    divisor_valid e = let r = divisor_read e in subst (Valid (curve c)) r.1 (pair_valid r.0)

-- ---- writing what was read
module _ (c : CurveRecord) (ok : Accepts c) where
  pos : 0 < c.p
  pos = omega (arith, ok.prime.odd)

  fit : c.p ≤ 18446744073709551616
  fit = omega (arith, ok.prime.small)

  module _ (s : List ℕ) (bytes : AreBytes s) (h : DivisorBytes c true s 0) where
    abbrev w : ℕ
    w = get_or s 0 0

    long : length s ≡ 1 + 16 * w
    long = eqb-true (length s) (0 + 1 + 16 * w) h.long

    tail : drop 1 s ≡ all_bytes (us_at s 0) ++ all_bytes (vs_at s 0)
    tail = bytes_words s bytes w 1 (omega (arith, long))
        ∙ ap (◌++◌ (all_bytes (us_at s 0))) (bytes_words s bytes w (1 + 8 * w) (omega (arith, long))
        ∙ ap (◌++◌ (all_bytes (vs_at s 0))) (drop_of_length-le s {i = 1 + 8 * w + 8 * w} (omega (arith, long))) ∙ append-nil (all_bytes (vs_at s 0)))

    back : (l : List ℕ) → is_below c.p l ≡ true → l ≡ numbers c.p (elements c.p l)
    back l b = sym (numbers_elements c.p pos l b)

    pair_written : divisor_bytes c.p (pair_at_row c s 0) ≡ s
    unfolding divisor_bytes
    pair_written = let b = both_true _ _ h.below in
        sym (one_off s 0 1 refl h.inside ∙ ap₂ ◌∷◌ (sym (length_elements c.p (us_at s 0) ∙ length-words s w 1))
        (tail ∙ ap₂ (λ x y. all_bytes x ++ all_bytes y) (back (us_at s 0) b.0) (back (vs_at s 0) b.1)))

  pub divisor_written : (k : ℕ) (s : List ℕ) {d : PairOf c} → AreBytes s → read_divisor c k s ≡ taken d → divisor_bytes c.p d ≡ s
  divisor_written k s bytes e = let r = divisor_read c k true s 0 e in subst (λ (d : PairOf c). divisor_bytes c.p d ≡ s) r.1 (pair_written s bytes r.0)

  -- ---- reading what was written
  module _ (d : PairOf c) (valid : Valid (curve c) d) where
    abbrev s : List ℕ
    s = divisor_bytes c.p d

    u_read : us_at s 0 ≡ numbers c.p d.u
    unfolding divisor_bytes
    u_read = words_behind c.p fit (length d.u ∷ []) (numbers c.p d.u) (all_bytes (numbers c.p d.v)) (length d.u) 1 refl
        (length_numbers c.p d.u) (numbers_below c.p pos d.u)

    v_read : vs_at s 0 ≡ numbers c.p d.v
    unfolding divisor_bytes
    v_read = ap (λ z. words (length d.u ∷ (all_bytes (numbers c.p d.u) ++ z)) (1 + 8 * length d.u) (length d.u))
        (sym (append-nil (all_bytes (numbers c.p d.v))))
        ∙ words_behind c.p fit (length d.u ∷ all_bytes (numbers c.p d.u)) (numbers c.p d.v) [] (length d.u) (1 + 8 * length d.u)
        (omega (arith, length-bytes (numbers c.p d.u), length_numbers c.p d.u))
        (length_numbers c.p d.v ∙ valid.fits) (numbers_below c.p pos d.v)

    pair_same : pair_at_row c s 0 ≡ d
    pair_same = ap₂ (made_of c) u_read v_read ∙ made_numbers c d

    pub length_divisor : length s ≡ 1 + 16 * length d.u
    unfolding divisor_bytes
    length_divisor = omega (
      arith,
      length-append (all_bytes (numbers c.p d.u)) (all_bytes (numbers c.p d.v)),
      length-bytes (numbers c.p d.u),
      length-bytes (numbers c.p d.v),
      length_numbers c.p d.u,
      length_numbers c.p d.v,
      valid.fits,
    )

    divisor_is_bytes : DivisorBytes c true s 0
    unfolding divisor_bytes
    divisor_is_bytes = record {
      inside = omega arith;
      small = valid.small;
      long = eq-eqb (length s) (0 + 1 + 16 * length d.u) length_divisor;
      below = true_both (ap (is_below c.p) u_read ∙ numbers_below c.p pos d.u) (ap (is_below c.p) v_read ∙ numbers_below c.p pos d.v);
      on = ap (is_on_curve (curve c)) pair_same ∙ (on_curve_decides (curve c) d).1 valid.divides;
    }

    pub divisor_reread : (k : ℕ) → read_divisor c k s ≡ taken d
    divisor_reread k = divisor_taken c k true s 0 divisor_is_bytes ∙ ap taken pair_same

-- ---- among others
-- bytes that hold a record from byte a on, and others that hold the same one from byte b on
module _ (c : CurveRecord) (s r : List ℕ) (a b : ℕ) (alike : Alike s r a b (1 + 16 * get_or r b 0)) where
  same_weight : get_or s a 0 ≡ get_or r b 0
  same_weight = alike_at s r a b (1 + 16 * get_or r b 0) alike 0 a b (omega arith) (omega arith) (omega arith)

  same_us : us_at s a ≡ us_at r b
  same_us = ap (words s (a + 1)) same_weight
      ∙ words_same s r (get_or r b 0) (a + 1) (b + 1) (λ i l. alike_at s r a b (1 + 16 * get_or r b 0) alike (1 + i) (a + 1 + i) (b + 1 + i) (omega arith) (omega arith) (omega arith))

  same_vs : vs_at s a ≡ vs_at r b
  same_vs = ap (λ (n : ℕ). words s (a + 1 + 8 * n) n) same_weight ∙ words_same s r (get_or r b 0) (a + 1 + 8 * get_or r b 0) (b + 1 + 8 * get_or r b 0)
      (λ i l. alike_at s r a b (1 + 16 * get_or r b 0) alike (1 + 8 * get_or r b 0 + i) (a + 1 + 8 * get_or r b 0 + i) (b + 1 + 8 * get_or r b 0 + i) (omega arith)
      (omega arith) (omega arith))

  same_pair : pair_at_row c s a ≡ pair_at_row c r b
  same_pair = ap₂ (made_of c) same_us same_vs

  same_bytes : (whole whole' : Bool) → a < length s → fits whole (a + 1 + 16 * get_or s a 0) (length s) ≡ true → DivisorBytes c whole' r b → DivisorBytes c whole s a
  same_bytes whole whole' l f h = record {
    inside = l;
    small = omega (arith, same_weight, h.small);
    long = f;
    below = ap₂ (λ x y. both (is_below c.p x) (is_below c.p y)) same_us same_vs ∙ h.below;
    on = ap (is_on_curve (curve c)) same_pair ∙ h.on;
  }

-- a record alone, put among others
module _ (c : CurveRecord) (front r back : List ℕ) (h : DivisorBytes c true r 0) where
  abbrev all : List ℕ
  all = front ++ (r ++ back)

  abbrev here : ℕ
  here = length front

  long_alone : length r ≡ 1 + 16 * get_or r 0 0
  long_alone = eqb-true (length r) (0 + 1 + 16 * get_or r 0 0) h.long

  alike : Alike all r here 0 (1 + 16 * get_or r 0 0)
  alike i l = get_or-append-add front (r ++ back) i 0 ∙ get_or-append r back 0 i (omega (arith, long_alone)) ∙ ap (λ (k : ℕ). get_or r k 0) {x = i} {y = 0 + i} (omega arith)

  length_all : length all ≡ here + (length r + length back)
  length_all = length-append front (r ++ back) ∙ ap (◌+◌ here) (length-append r back)

  -- it is taken there, as the same pair, and the next one stands right behind it
  pub next_place : here + 1 + 16 * get_or all here 0 ≡ here + length r
  next_place = omega (arith, same_weight c all r here 0 alike, long_alone)

  pub taken_among : (k : ℕ) → divisor_at c k false all here ≡ taken (pair_at_row c r 0)
  taken_among k = divisor_taken c k false all here (same_bytes c all r here 0 alike false true (omega (arith, length_all, h.inside))
      (le-leb (here + 1 + 16 * get_or all here 0) (length all) (omega (arith, next_place, length_all))) h) ∙ ap taken (same_pair c all r here 0 alike)

-- a record among others, taken out
module _ (c : CurveRecord) (s : List ℕ) (a : ℕ) (h : DivisorBytes c false s a) where
  abbrev n : ℕ
  n = 1 + 16 * get_or s a 0

  abbrev pub record_out : List ℕ
  record_out = take n (drop a s)

  inside_all : a + 1 + 16 * get_or s a 0 ≤ length s
  inside_all = leb-true (a + 1 + 16 * get_or s a 0) (length s) h.long

  alike_out : Alike record_out s 0 a n
  alike_out i l = ap (λ (k : ℕ). get_or record_out k 0) {x = 0 + i} {y = i} (omega arith) ∙ get_or-take n (drop a s) i 0 l ∙ get_or-drop a s i 0

  pub length_out : length record_out ≡ 1 + 16 * get_or s a 0
  length_out = length-take-le n (drop a s) (omega (arith, inside_all, length-drop a s))

  pub alone_out : DivisorBytes c true record_out 0
  alone_out = same_bytes c record_out s 0 a alike_out true false (omega (arith, length_out))
      (eq-eqb (length record_out) (0 + 1 + 16 * get_or record_out 0 0) (omega (arith, length_out, same_weight c record_out s 0 a alike_out))) h

  pub split_out : drop a s ≡ record_out ++ drop (a + 1 + 16 * get_or s a 0) s
  split_out = sym (take-append-drop n (drop a s)) ∙ ap (◌++◌ record_out) (drop-drop n a s ∙ ap (λ (k : ℕ). drop k s) {x = a + n} {y = a + 1 + 16 * get_or s a 0} (omega arith))
