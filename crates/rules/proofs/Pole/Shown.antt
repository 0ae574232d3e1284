-- Examples on curve A, computed from the rules: files that are read and files that are refused, each number of the ticket's order; files written; and scans from a mixed list into a total of pole 7.
-- Rows of one list under one claim each.
use Prim.Native.Nat.{ℕ}
use mathlib.Core.Path.{◌≡◌, refl}
use mathlib.Core.List.{List, [], ◌∷◌, ◌++◌, map}
use lib.ListN.{take, replicate}
use Rattle.algebra.proofs.Zmod.Zmod.{zmod, emb, num, zmod_dec}
use Rattle.algebra.proofs.Zmod.PrimeField.{inv}
use Rattle.rules.specs.Bytes.{bytes64, all_bytes}
use Rattle.rules.specs.Sum.{sum}
use Rattle.rules.specs.Records.{read_curve, divisor_at, numbers}
use Rattle.rules.specs.Lists.{batch_from}
use Rattle.rules.specs.Calls.{Reply, Running, fresh, check_batch, resume, scan_call}
use Rattle.rules.specs.Pole.PoleFile.{head_bytes, curve_length, records_from, read_parts, read_file, write_file}

-- g = 2, p = 7, f = x^5 + 1
abbrev curve_a : List ℕ
curve_a = 72 ∷ 74 ∷ 67 ∷ 0 ∷ 1 ∷ 2 ∷ all_bytes (7 ∷ 1 ∷ 0 ∷ 0 ∷ 0 ∷ 0 ∷ [])

-- (x + u, v)
abbrev point : ℕ → ℕ → List ℕ
point u v = 1 ∷ all_bytes (u ∷ v ∷ [])

-- a file for pole 7, up to its count, and the whole of one with the neutral divisor and (x, 1)
abbrev opened : ℕ → ℕ → List ℕ
opened h l = head_bytes 7 ++ (curve_a ++ (h ∷ l ∷ []))

abbrev good : List ℕ
good = opened 0 2 ++ (0 ∷ point 0 1)

-- number, place, length and pole
abbrev Seen : Type 0
Seen = ℕ × ℕ × ℕ × ℕ

abbrev seen : ℕ → ℕ → ℕ → ℕ → Seen
seen n k l p = (n, k, l, p)

abbrev see : List ℕ → Seen
see file = let r : Reply ℕ = read_file file (replicate 72 9) in seen r.answer.number r.answer.place r.answer.length r.own

pub record Row : Type 0 where
  pub file : List ℕ
  pub answer : Seen

abbrev pub rows : List Row
rows =
    record { file = good; answer = seen 0 0 72 7 }
    ∷ record { file = opened 0 0; answer = seen 0 0 54 7 }
    ∷ record { file = []; answer = seen 23 0 0 0 }
    ∷ record { file = take 8 good; answer = seen 23 0 0 0 }
    ∷ record { file = 72 ∷ 74 ∷ 67 ∷ 0 ∷ 1 ∷ 0 ∷ 0 ∷ 0 ∷ 7 ∷ []; answer = seen 21 0 0 0 }
    ∷ record { file = 72 ∷ 74 ∷ 80 ∷ 0 ∷ 2 ∷ 0 ∷ 0 ∷ 0 ∷ 7 ∷ []; answer = seen 22 0 0 0 }
    ∷ record { file = take 9 good; answer = seen 1 0 0 0 }
    ∷ record { file = take 62 good; answer = seen 1 0 0 0 }
    ∷ record { file = take 64 good; answer = seen 23 0 0 0 }
    ∷ record { file = opened 16 1; answer = seen 23 0 0 0 }
    ∷ record { file = opened 0 1; answer = seen 23 0 0 0 }
    ∷ record { file = opened 0 2 ++ (0 ∷ 3 ∷ []); answer = seen 9 2 0 0 }
    ∷ record { file = opened 0 2 ++ (0 ∷ 2 ∷ []); answer = seen 23 0 0 0 }
    ∷ record { file = opened 0 2 ++ (0 ∷ point 0 7); answer = seen 10 2 0 0 }
    ∷ record { file = opened 0 1 ++ point 0 2; answer = seen 11 1 0 0 }
    ∷ record { file = opened 0 1 ++ (0 ∷ 3 ∷ []); answer = seen 23 0 0 0 }
    ∷ record { file = good ++ (0 ∷ []); answer = seen 23 0 0 0 }
    ∷ record { file = opened 0 2 ++ (0 ∷ point 0 1 ++ point 0 1); answer = seen 23 0 0 0 }
    ∷ record { file = opened 0 3 ++ (0 ∷ point 0 1 ++ point 0 1); answer = seen 13 0 0 0 }
    ∷ []

pub files_shown : map (λ r. see r.file) rows ≡ map (λ r. r.answer) rows
unfolding read_file curve_length read_parts records_from zmod emb num zmod_dec inv read_curve numbers bytes64 all_bytes
files_shown = refl

-- written: the file above
pub written_shown : (write_file 7 curve_a (0 ∷ point 0 1) (replicate 83 9)).out ≡ good
unfolding write_file check_batch zmod emb num zmod_dec inv read_curve numbers batch_from bytes64 all_bytes
written_shown = refl

-- ---- scans for poles 7 and 8, three bytes alone, and (x, 2), which isn't on the curve: the number and the place of each, and the total's count and pole after it
abbrev for : ℕ → List ℕ → List ℕ
for pole r = 0 ∷ 0 ∷ 0 ∷ pole ∷ r

abbrev scanned_in : Running → List (List ℕ) → List Seen
scanned_in t [] = []
scanned_in t (a ∷ l) = let r : Reply Running = scan_call t curve_a a in seen r.answer.number r.answer.place r.own.count r.own.pole ∷ scanned_in r.own l

pub scans_shown : scanned_in (fresh 7) (for 7 (point 0 1) ∷ for 8 (point 0 1) ∷ for 8 (point 0 2) ∷ (0 ∷ 0 ∷ 0 ∷ []) ∷ for 7 [] ∷ for 7 (point 0 2) ∷ for 7 (point 0 1) ∷ [])
    ≡ seen 0 0 1 7 ∷ seen 20 0 1 7 ∷ seen 20 0 1 7 ∷ seen 8 1 1 7 ∷ seen 8 1 1 7 ∷ seen 11 1 1 7 ∷ seen 0 0 2 7 ∷ []
unfolding scan_call resume sum zmod emb num zmod_dec inv read_curve divisor_at numbers bytes64 all_bytes
scans_shown = refl
