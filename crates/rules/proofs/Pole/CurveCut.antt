-- A curve record cut short gives 1, wherever it is cut (`curve_cut`), and its part in a file is then all that is left (`part_cut`).
use Prim.Native.Nat.{ℕ, suc, ◌+◌, ◌*◌, ◌≤◌, ◌<◌}
use mathlib.Core.Path.{◌≡◌, refl, sym, ap, ◌∙◌}
use mathlib.Core.Bool.{Bool, true, false}
use mathlib.Core.List.{List, [], ◌∷◌, ◌++◌}
use mathlib.Core.Logic.{inl, inr}
use native.Mathlib.Omega.{arith}
use lib.Dec.{eqb, leb}
use lib.ListN.{get_or, length, take}
use lib.Seq.{length-take-le, get_or-take, take_all}
use borrow.Author.Tests.{leb-true, leb-false, le-leb, lt-leb, eq-eqb, ne_eqb}
use Rattle.rules.specs.Bytes.{word64, words}
use Rattle.rules.specs.Tests.{is_square_free}
use Rattle.rules.specs.Checks.{refused, taken, choose, Check}
use Rattle.rules.specs.Records.{both, CurveRecord, is_marked, has_genus, has_version, version_of, count_of, curve, curve_of, unwitnessed_checks, witnessed_checks, is_below, is_odd_prime, curve_checks, read_curve}
use Rattle.rules.proofs.Calls.Tests.{true_both}
use Rattle.rules.proofs.Calls.Checks.{AllPass, FirstFails, pass_both}
use Rattle.rules.proofs.Calls.CurveRecords.{CurveBytes, Formed, Unwitnessed, Witnessed, curve_read}
use Rattle.rules.proofs.Calls.Refusals.{curve-order}
use Rattle.rules.specs.Pole.PoleFile.{curve_length, curve_part}
use Rattle.rules.proofs.Pole.CurveParts.{first_length, second_length, length_least}

module _ (s : List ℕ) {c : CurveRecord} (ec : read_curve s ≡ taken c) (m : ℕ) (l : m < length s) where
  abbrev t : List ℕ
  t = take m s

  h : CurveBytes s
  h = (curve_read s ec).0

  long : length t ≡ m
  long = length-take-le m s (omega arith)

  same : (i : ℕ) → i < m → get_or t i 0 ≡ get_or s i 0
  same i u = get_or-take m s i 0 u

  fails : FirstFails (curve_checks t) 1 0 → read_curve t ≡ refused 1 0
  fails f = (curve-order t 1 0).1 f

  -- the first six bytes are missing
  head_cut : m < 6 → read_curve t ≡ refused 1 0
  head_cut u = fails (record { before = []; failed = (leb 6 (length t), 1, 0); behind = _; split = refl; pass = tt; fails = lt-leb 6 (length t) (omega (arith, long)); number = refl; place = refl })

  module _ (six : 6 ≤ m) where
    version_same : version_of t ≡ version_of s
    version_same = omega (arith, same 3 (omega arith), same 4 (omega arith))

    genus_same : get_or t 5 0 ≡ get_or s 5 0
    genus_same = same 5 (omega arith)

    abbrev first : List Check
    first = (leb 6 (length t), 1, 0) ∷ (is_marked t, 2, 0) ∷ (has_version (version_of t), 3, 0) ∷ (has_genus (get_or t 5 0), 4, 0) ∷ []

    first_pass : has_version (version_of s) ≡ true → AllPass first
    first_pass v = (le-leb 6 (length t) (omega (arith, long)), (rw (same 0 (omega arith), same 1 (omega arith), same 2 (omega arith)) h.mark, (ap has_version version_same ∙ v, (ap has_genus genus_same ∙ h.genus, tt))))

    abbrev form_checks : Bool → List Check
    form_checks b = choose b (unwitnessed_checks t) (witnessed_checks t)

    abbrev last : List Check
    last = (is_below (word64 t 6) (words t 14 (suc (get_or t 5 0 + get_or t 5 0))), 6, 0) ∷ (is_square_free (curve (curve_of t)), 7, 0) ∷ []

    checks_are : (b : Bool) → eqb (version_of t) 1 ≡ b → first ++ (form_checks b ++ last) ≡ curve_checks t
    checks_are b e = ap (λ (b : Bool). first ++ (form_checks b ++ last)) (sym e)

    unwitnessed_cut : Unwitnessed s → read_curve t ≡ refused 1 0
    unwitnessed_cut f = fails (record {
      before = first;
      failed = (eqb (length t) (22 + 16 * get_or t 5 0), 1, 0);
      behind = (is_odd_prime (word64 t 6), 5, 0) ∷ last;
      split = checks_are true (eq-eqb (version_of t) 1 (version_same ∙ f.version));
      pass = first_pass (rw (eq-eqb (version_of s) 1 f.version) refl);
      fails = ne_eqb (length t) (22 + 16 * get_or t 5 0) (λ z. omega (arith, z, long, genus_same, f.long));
      number = refl;
      place = refl;
    })

    module _ (f : Witnessed s) where
      second : eqb (version_of t) 1 ≡ false
      second = ne_eqb (version_of t) 1 (λ z. omega (arith, z, version_same, f.version))

      version_two : has_version (version_of s) ≡ true
      version_two = rw (ne_eqb (version_of s) 1 (λ z. omega (arith, z, f.version)), eq-eqb (version_of s) 2 f.version) refl

      -- before its k
      early_cut : m < 31 + 16 * get_or s 5 0 → read_curve t ≡ refused 1 0
      early_cut u = fails (record {
        before = first;
        failed = (leb (31 + 16 * get_or t 5 0) (length t), 1, 0);
        behind = _;
        split = checks_are false second;
        pass = first_pass version_two;
        fails = lt-leb (31 + 16 * get_or t 5 0) (length t) (omega (arith, long, genus_same));
        number = refl;
        place = refl;
      })

      module _ (u : 31 + 16 * get_or s 5 0 ≤ m) where
        count_same : count_of t ≡ count_of s
        count_same = ap (λ (i : ℕ). get_or t i 0) {x = 30 + 16 * get_or t 5 0} {y = 30 + 16 * get_or s 5 0} (omega (arith, genus_same)) ∙ same (30 + 16 * get_or s 5 0) (omega arith)

        abbrev of_k : List Check
        of_k = (leb (31 + 16 * get_or t 5 0) (length t), 1, 0) ∷ (both (leb 1 (count_of t)) (leb (count_of t) 15), 18, 0) ∷ []

        of_k_pass : AllPass of_k
        of_k_pass = (le-leb (31 + 16 * get_or t 5 0) (length t) (omega (arith, long, genus_same)), (true_both (le-leb 1 (count_of t) (omega (arith, count_same, f.some))) (le-leb (count_of t) 15 (omega (arith, count_same, f.most))), tt))

        late_cut : read_curve t ≡ refused 1 0
        late_cut = fails (record {
          before = first ++ of_k;
          failed = (eqb (length t) (31 + 16 * get_or t 5 0 + 8 * count_of t), 1, 0);
          behind = _;
          split = checks_are false second;
          pass = pass_both first of_k (first_pass version_two) of_k_pass;
          fails = ne_eqb (length t) (31 + 16 * get_or t 5 0 + 8 * count_of t) (λ z. omega (arith, z, long, genus_same, count_same, f.long));
          number = refl;
          place = refl;
        })

    by_form : Formed s → read_curve t ≡ refused 1 0
    by_form (inl f) = unwitnessed_cut f
    by_form (inr f) = go (leb (31 + 16 * get_or s 5 0) m) refl
      where
        go : (b : Bool) → leb (31 + 16 * get_or s 5 0) m ≡ b → read_curve t ≡ refused 1 0
        go true q = late_cut f (leb-true _ _ q)
        go false q = early_cut f (leb-false _ _ q)

  pub curve_cut : read_curve t ≡ refused 1 0
  curve_cut = go (leb 6 m) refl
    where
      go : (b : Bool) → leb 6 m ≡ b → read_curve t ≡ refused 1 0
      go true q = by_form (leb-true _ _ q) h.formed
      go false q = head_cut (leb-false _ _ q)

  -- ---- as a part of a file
  reaches : m ≤ curve_length t
  reaches = go (leb 6 m) refl h.formed
    where
      two : (b : Bool) → leb (31 + 16 * get_or s 5 0) m ≡ b → (six : 6 ≤ m) → Witnessed s → m ≤ 31 + 16 * get_or t 5 0 + 8 * count_of t
      two true q six f = omega (arith, genus_same six, count_same six f (leb-true (31 + 16 * get_or s 5 0) m q), f.long)
      two false q six f = omega (arith, genus_same six, leb-false (31 + 16 * get_or s 5 0) m q)

      go : (b : Bool) → leb 6 m ≡ b → Formed s → m ≤ curve_length t
      go false q f = omega (arith, leb-false 6 m q, length_least t)
      go true q (inl f) = let six : 6 ≤ m = leb-true 6 m q in omega (arith, first_length t (version_same six ∙ f.version), genus_same six, f.long)
      go true q (inr f) = let six : 6 ≤ m = leb-true 6 m q in omega (arith, second_length t (λ z. omega (arith, z, version_same six, f.version)), two (leb (31 + 16 * get_or s 5 0) m) refl six f)

  pub part_cut : curve_part t ≡ t
  part_cut = take_all (curve_length t) t (omega (arith, long, reaches))
