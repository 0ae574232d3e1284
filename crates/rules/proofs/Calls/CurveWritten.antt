-- The curve record's bytes, of both versions. Gives: the bytes that were taken are what the curve is written as, in the form it came in (`curve_written`); what is
-- written of a curve and a form that shows its p prime is taken, as that curve and that form (`curve_reread`, `form_reread`).
use Prim.Native.Nat.{ℕ, suc, ◌+◌, ◌*◌, ◌≤◌, ◌<◌}
use mathlib.Core.Path.{◌≡◌, refl, sym, ap, ap₂, ◌∙◌, subst}
use mathlib.Core.List.{List, [], ◌∷◌, ◌++◌, append-nil, append_assoc}
use mathlib.Core.Bool.{true}
use mathlib.Core.Logic.{inl, inr}
use native.Mathlib.Decide.{ℕ_discrete}
use native.Mathlib.Omega.{arith}
use lib.ListN.{get_or, length, drop, drop_of_length-le, length-append}
use borrow.Author.Tests.{eqb-true, eq-eqb, ne_eqb}
use Rattle.algebra.proofs.Zmod.Zmod.{zmod}
use Rattle.rules.specs.Bytes.{word64, words, bytes64, all_bytes}
use Rattle.rules.specs.Tests.{is_square_free}
use Rattle.rules.specs.Records.{taken, is_odd_prime, is_odd_number, is_witnessed, is_below, elements, numbers, CurveRecord, curve, Form, unwitnessed, witnessed, version, has_genus, curve_of, base_of, count_of, primes_of, form_of, read_curve, witness_bytes, curve_bytes}
use Rattle.rules.proofs.Calls.Tests.{both_true}
use Rattle.rules.proofs.Calls.Bytes.{AreBytes, one_off, bytes_word, bytes_words, length-bytes, length-words, word-behind, words_behind, behind}
use Rattle.rules.proofs.Calls.Elements.{elements_numbers, numbers_elements, length_numbers, numbers_below}
use Rattle.rules.proofs.Calls.CurveRecords.{Formed, CurveBytes, curve_read, curve_taken, Shown, is_witness, Accepts, accepts_of, form_unwitnessed, form_witnessed}

is_genus : (g : ℕ) → 2 ≤ g → g ≤ 3 → has_genus g ≡ true
is_genus g l m = go (ℕ_discrete g 2)
  where
    go : Dec (g ≡ 2) → has_genus g ≡ true
    go (yes e) = rw (eq-eqb g 2 e)
    go (no n) = rw (ne_eqb g 2 n, eq-eqb g 3 (omega arith))

-- ---- writing what was read
module _ (s : List ℕ) (bytes : AreBytes s) where
  abbrev g : ℕ
  g = get_or s 5 0

  abbrev n : ℕ
  n = suc (get_or s 5 0 + get_or s 5 0)

  -- the version's second byte, and what stands behind the coefficients
  version_byte : Formed s → (get_or s 3 0 ≡ 0) × (get_or s 4 0 ≡ version (form_of s))
  version_byte (inl h) = let e : version (form_of s) ≡ 1 = ap version (form_unwitnessed s h.version) in (omega (arith, h.version, bytes 4), omega (arith, h.version, e))
  version_byte (inr h) = let e : version (form_of s) ≡ 2 = ap version (form_witnessed s h.version) in (omega (arith, h.version, bytes 4), omega (arith, h.version, e))

  long_enough : Formed s → 22 + 16 * g ≤ length s
  long_enough (inl h) = omega (arith, h.long)
  long_enough (inr h) = omega (arith, h.long)

  witness_is : Formed s → drop (22 + 16 * g) s ≡ witness_bytes (form_of s)
  witness_is (inl h) = drop_of_length-le s {i = 22 + 16 * g} (omega (arith, h.long)) ∙ sym (ap witness_bytes (form_unwitnessed s h.version))
  witness_is (inr h) = bytes_word s bytes (22 + 16 * g) (omega (arith, h.long))
      ∙ ap (◌++◌ (bytes64 (base_of s))) (ap (λ (k : ℕ). drop k s) {x = 22 + 16 * g + 8} {y = 30 + 16 * g} (omega arith)
      ∙ one_off s (30 + 16 * g) (31 + 16 * g) (omega arith) (omega (arith, h.long))
      ∙ ap₂ ◌∷◌ (sym (length-words s (count_of s) (31 + 16 * g))) (bytes_words s bytes (count_of s) (31 + 16 * g) (omega (arith, h.long))
      ∙ ap (◌++◌ (all_bytes (primes_of s))) (drop_of_length-le s {i = 31 + 16 * g + 8 * count_of s} (omega (arith, h.long))) ∙ append-nil (all_bytes (primes_of s))))
      ∙ sym (ap witness_bytes (form_witnessed s h.version))

  module _ (h : CurveBytes s) where
    tail : drop 6 s ≡ bytes64 (word64 s 6) ++ (all_bytes (words s 14 n) ++ witness_bytes (form_of s))
    tail = bytes_word s bytes 6 (omega (arith, long_enough h.formed))
        ∙ ap (◌++◌ (bytes64 (word64 s 6))) (bytes_words s bytes n 14 (omega (arith, long_enough h.formed))
        ∙ ap (◌++◌ (all_bytes (words s 14 n))) (ap (λ (k : ℕ). drop k s) {x = 14 + 8 * n} {y = 22 + 16 * g} (omega arith) ∙ witness_is h.formed))

    pub curve_written_of : curve_bytes (curve_of s) (form_of s) ≡ s
    unfolding curve_bytes
    curve_written_of =
        let six = h.six in
        let m = both_true _ _ h.mark in
        let m' = both_true _ _ m.1 in
        let v = version_byte h.formed in
        sym (one_off s 0 1 refl (omega arith) ∙ ap₂ ◌∷◌ (eqb-true _ _ m.0) (
        one_off s 1 2 refl (omega arith) ∙ ap₂ ◌∷◌ (eqb-true _ _ m'.0) (
        one_off s 2 3 refl (omega arith) ∙ ap₂ ◌∷◌ (eqb-true _ _ m'.1) (
        one_off s 3 4 refl (omega arith) ∙ ap₂ ◌∷◌ v.0 (
        one_off s 4 5 refl (omega arith) ∙ ap₂ ◌∷◌ v.1 (
        one_off s 5 6 refl (omega arith) ∙ ap (◌∷◌ (get_or s 5 0)) (
        tail ∙ ap (λ l. bytes64 (word64 s 6) ++ (all_bytes l ++ witness_bytes (form_of s))) (sym (numbers_elements (word64 s 6) (omega (arith, (accepts_of s h).prime.odd)) (words s 14 n) h.below)))))))))

pub curve_written : (s : List ℕ) {c : CurveRecord} → AreBytes s → read_curve s ≡ taken c → curve_bytes c (form_of s) ≡ s
curve_written s bytes e = let r = curve_read s e in subst (λ c. curve_bytes c (form_of s) ≡ s) r.1 (curve_written_of s bytes r.0)

-- ---- reading what was written
module _ (c : CurveRecord) (h : Accepts c) where
  abbrev l : List ℕ
  l = numbers c.p c.low

  pos : 0 < c.p
  pos = omega (arith, h.prime.odd)

  module _ (form : Form) where
    abbrev head : List ℕ
    head = 72 ∷ 74 ∷ 67 ∷ 0 ∷ version form ∷ c.g ∷ []

    abbrev s : List ℕ
    s = curve_bytes c form

    p_read : word64 s 6 ≡ c.p
    unfolding curve_bytes
    p_read = word-behind head (all_bytes l ++ witness_bytes form) c.p 6 refl (omega (arith, h.prime.small))

    low_read : words s 14 (suc (c.g + c.g)) ≡ l
    unfolding curve_bytes
    low_read = words_behind c.p (omega (arith, h.prime.small)) (72 ∷ 74 ∷ 67 ∷ 0 ∷ version form ∷ c.g ∷ bytes64 c.p) l (witness_bytes form) (suc (c.g + c.g)) 14 refl
        (length_numbers c.p c.low ∙ h.odd) (numbers_below c.p pos c.low)

    curve_same : curve_of s ≡ c
    unfolding curve_bytes
    curve_same = ap₂ made p_read low_read ∙ ap with_low (elements_numbers c.p c.low)
      where
        made : ℕ → List ℕ → CurveRecord
        made p l = record { p = p; g = c.g; low = elements p l }

        with_low : List (zmod c.p).El → CurveRecord
        with_low x = record { p = c.p; g = c.g; low = x }

    long_of : length s ≡ 22 + 16 * c.g + length (witness_bytes form)
    unfolding curve_bytes bytes64
    long_of = omega (arith, length-append (all_bytes l) (witness_bytes form), length-bytes l, length_numbers c.p c.low, h.odd)

    -- all but what stands behind the coefficients
    front_length : length (head ++ (bytes64 c.p ++ all_bytes l)) ≡ 22 + 16 * c.g
    unfolding bytes64
    front_length = omega (arith, length-bytes l, length_numbers c.p c.low, h.odd)

    split : s ≡ (head ++ (bytes64 c.p ++ all_bytes l)) ++ witness_bytes form
    unfolding curve_bytes
    split = ap (◌++◌ head) (sym (append_assoc (bytes64 c.p) (all_bytes l) (witness_bytes form))) ∙ sym (append_assoc head (bytes64 c.p ++ all_bytes l) (witness_bytes form))

  -- the witness stands behind them
  module _ (a : ℕ) (qs : List ℕ) (w : Shown c.p (witnessed a qs)) where
    abbrev t : List ℕ
    t = curve_bytes c (witnessed a qs)

    abbrev front : List ℕ
    front = head (witnessed a qs) ++ (bytes64 c.p ++ all_bytes l)

    base_read : word64 t (22 + 16 * c.g) ≡ a
    base_read = ap (λ z. word64 z (22 + 16 * c.g)) (split (witnessed a qs)) ∙ word-behind front (length qs ∷ all_bytes qs) a (22 + 16 * c.g) (front_length (witnessed a qs)) (omega (arith, (is_witness w.1).below, h.prime.small))

    count_read : get_or t (30 + 16 * c.g) 0 ≡ length qs
    unfolding bytes64
    count_read = ap (λ z. get_or z (30 + 16 * c.g) 0) (split (witnessed a qs)) ∙ ap (λ (k : ℕ). get_or (front ++ witness_bytes (witnessed a qs)) k 0) {x = 30 + 16 * c.g} {y = 22 + 16 * c.g + 8} (omega arith)
        ∙ behind front (witness_bytes (witnessed a qs)) (22 + 16 * c.g) 8 (front_length (witnessed a qs))

    abbrev counted : List ℕ
    counted = front ++ (bytes64 a ++ (length qs ∷ []))

    counted_length : length counted ≡ 31 + 16 * c.g
    unfolding bytes64
    counted_length = omega (arith, length-append front (bytes64 a ++ (length qs ∷ [])), front_length (witnessed a qs))

    counted_split : t ≡ counted ++ (all_bytes qs ++ [])
    counted_split = split (witnessed a qs) ∙ ap (λ z. front ++ (bytes64 a ++ (length qs ∷ z))) (sym (append-nil (all_bytes qs)))
        ∙ ap (◌++◌ front) (sym (append_assoc (bytes64 a) (length qs ∷ []) (all_bytes qs ++ []))) ∙ sym (append_assoc front (bytes64 a ++ (length qs ∷ [])) (all_bytes qs ++ []))

    primes_read : words t (31 + 16 * c.g) (get_or t (30 + 16 * c.g) 0) ≡ qs
    primes_read = ap₂ (λ z (n : ℕ). words z (31 + 16 * c.g) n) counted_split count_read
        ∙ words_behind 2147483648 (omega arith) counted qs [] (length qs) (31 + 16 * c.g) counted_length refl (is_witness w.1).small

  formed : (form : Form) → Shown c.p form → Formed (curve_bytes c form)
  unfolding curve_bytes
  formed unwitnessed w = inl (record { version = refl; long = omega (arith, long_of unwitnessed); prime = ap is_odd_prime (p_read unwitnessed) ∙ w })
  formed (witnessed a qs) w = inr (record {
    version = refl;
    some = omega (arith, count_read a qs w, w.2);
    most = omega (arith, count_read a qs w, w.3);
    long = omega (arith, long_of (witnessed a qs), count_read a qs w, witness_length a qs);
    odd = ap is_odd_number (p_read (witnessed a qs)) ∙ w.0;
    shown = ap₂ (λ (p : ℕ) z. is_witnessed p z.0 z.1) (p_read (witnessed a qs)) (pair_read a qs w) ∙ w.1;
  })
    where
      witness_length : (a : ℕ) (qs : List ℕ) → length (witness_bytes (witnessed a qs)) ≡ 9 + 8 * length qs
      witness_length a qs = omega (arith, length-bytes qs)

      pair_read : (a : ℕ) (qs : List ℕ) (w : Shown c.p (witnessed a qs)) → ◌≡◌ {A = ℕ × List ℕ} (base_of (curve_bytes c (witnessed a qs)), primes_of (curve_bytes c (witnessed a qs))) (a, qs)
      pair_read a qs w = ap₂ (λ (x : ℕ) (l : List ℕ). (x, l)) (base_read a qs w) (primes_read a qs w)

  curve_is_bytes : (form : Form) → Shown c.p form → CurveBytes (curve_bytes c form)
  unfolding curve_bytes
  curve_is_bytes form w = record {
    six = omega arith;
    mark = refl;
    genus = is_genus c.g h.least h.greatest;
    formed = formed form w;
    below = ap₂ is_below (p_read form) (low_read form) ∙ numbers_below c.p pos c.low;
    free = ap (λ (d : CurveRecord). is_square_free (curve d)) (curve_same form) ∙ h.free;
  }

  pub curve_reread : (form : Form) → Shown c.p form → read_curve (curve_bytes c form) ≡ taken c
  curve_reread form w = curve_taken (curve_bytes c form) (curve_is_bytes form w) ∙ ap taken (curve_same form)

  pub form_reread : (form : Form) → Shown c.p form → form_of (curve_bytes c form) ≡ form
  unfolding curve_bytes
  form_reread unwitnessed w = refl
  form_reread (witnessed a qs) w = ap₂ witnessed (base_read a qs w) (primes_read a qs w)
