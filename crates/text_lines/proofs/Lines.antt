-- The lines by their parts, as the code puts them: the places of a repeat by their case, numbers one after the other, a record's line by its
-- weight and its numbers, the total's line by its word.
use Prim.Native.Nat.{ℕ, suc, ◌+◌, ◌*◌, ◌≤◌, ◌<◌}
use Rattle.std.specs.Prelude.{Option, Some, None}
use mathlib.Core.Path.{◌≡◌, refl, sym, ap, ap₂, ◌∙◌}
use mathlib.Core.List.{List, [], ◌∷◌, ◌++◌, append_assoc, append-nil}
use native.Mathlib.Omega.{arith}
use borrow.Author.Tests.{eq-eqb, ne_eqb}
use lib.ListN.{length, take, get_or}
use lib.Seq.{take-suc, length-take-le}
use Rattle.rules.specs.Records.{choose}
use Rattle.field.specs.declared.Modulus.{Modulus}
use Rattle.divisor.specs.declared.Divisor.{Divisor}
use Rattle.divisor.specs.Divisors.{weight_of, pair}
use Rattle.record_numbers.specs.write.Write.{NumbersOf}
use Rattle.divisor.proofs.Laws.{weight_le, weight_is, weight_is_v}
use Rattle.text_lines.specs.digits.Digits.{letters, hex}
use Rattle.text_lines.specs.declared.Places.{Places}
use Rattle.text_lines.specs.Lines.{two, places, spaced, record_line, total_line}
use Rattle.text_lines.specs.Printed.{places_of}
use Rattle.text_lines.specs.digits.Put.{PutAt, Room}
use Rattle.text_lines.proofs.digits.Decimals.{length-hex}
use Rattle.text_lines.proofs.Lengths.{length-spaced, record_short}
use Rattle.text_lines.proofs.digits.Putting.{put_as, put_then, room_as, room-first, room_next}

abbrev pub shown : Option Places → List ℕ
shown q = places (places_of q).first (places_of q).second

pub shown_none : (q : Option Places) → q ≡ None → shown q ≡ (letters "none")
unfolding places
shown_none q e = ap shown e

module _ (q : Option Places) (r : Places) (e : q ≡ Some r) where
  pub shown_zero : r.first ≤ 0 → shown q ≡ (letters "none")
  unfolding places
  shown_zero h = ap shown e ∙ ap (λ t. choose t (letters "none") (two r.first r.second)) (eq-eqb r.first 0 (omega arith))

  pub shown_two : 0 < r.first → shown q ≡ two r.first r.second
  unfolding places
  shown_two h = ap shown e ∙ ap (λ t. choose t (letters "none") (two r.first r.second)) (ne_eqb r.first 0 (λ z. omega arith))

-- ---- numbers, each after a space
spaced-append : (l m : List ℕ) → spaced (l ++ m) ≡ spaced l ++ spaced m
unfolding spaced
spaced-append [] m = refl
spaced-append (x ∷ l) m = ap (λ (t : List ℕ). 32 ∷ (hex 16 x ++ t)) (spaced-append l m) ∙ ap (λ (t : List ℕ). 32 ∷ t) (sym (append_assoc (hex 16 x) (spaced l) (spaced m)))

module _ (x : List ℕ) (k : ℕ) (h : k < length x) where
  spaced_more : spaced (take (k + 1) x) ≡ spaced (take k x) ++ (32 ∷ hex 16 (get_or x k 0))
  unfolding spaced
  spaced_more = ap (λ (n : ℕ). spaced (take n x)) {x = k + 1} {y = suc k} (omega arith) ∙ ap spaced (take-suc x k 0 h) ∙ spaced-append (take k x) (get_or x k 0 ∷ [])
      ∙ ap (λ (t : List ℕ). spaced (take k x) ++ (32 ∷ t)) (append-nil (hex 16 (get_or x k 0)))

  module _ (a : ℕ) (room : Room a (spaced x)) {out o : List ℕ} {b : ℕ} (i : PutAt out a (spaced (take k x)) o b) where
    pub turn_room : b + 17 ≤ 256
    turn_room = omega (arith, i.next, length-spaced (take k x), length-take-le k x (omega arith), length-spaced x)

    module _ {o' : List ℕ} {c : ℕ} (j : PutAt o b (32 ∷ []) o' c) where
      pub hex_room : Room c (hex 16 (get_or x k 0))
      hex_room = omega (arith, j.next, turn_room, length-hex 16 (get_or x k 0))

      pub turn : {o'' : List ℕ} {r : ℕ} → PutAt o' c (hex 16 (get_or x k 0)) o'' r → PutAt out a (spaced (take (k + 1) x)) o'' r
      turn m = put_as (sym spaced_more) (put_then i (put_then j m))

-- ---- a record's line, and the total's
module _ (m : Modulus) (d : Divisor) (x : List ℕ) (w : ℕ) (e : w ≡ weight_of d) (h : NumbersOf m d x) where
  abbrev parts : List ℕ
  parts = hex 2 w ++ (spaced (take (2 * w) x) ++ (10 ∷ []))

  record_is : parts ≡ record_line m.p (pair m d)
  unfolding record_line
  record_is = ap₂ (λ (n : ℕ) (l : List ℕ). hex 2 n ++ (spaced l ++ (10 ∷ []))) (e ∙ sym (weight_is m d)) (ap (λ (n : ℕ). take (2 * n) x) e ∙ h.is)

  pub parts_room : (a : ℕ) → Room a (record_line m.p (pair m d)) → Room a parts
  parts_room a room = room_as a (sym record_is) room

  pub record_put : {a : ℕ} {out o : List ℕ} {r : ℕ} → PutAt out a parts o r → PutAt out a (record_line m.p (pair m d)) o r
  record_put l = put_as record_is l

module _ (m : Modulus) (d : Divisor) (a : ℕ) (room : Room a (total_line m.p (pair m d))) where
  total_is : (letters "total ") ++ record_line m.p (pair m d) ≡ total_line m.p (pair m d)
  unfolding total_line
  total_is = refl

  pub word_room : Room a (letters "total ")
  word_room = room-first a (letters "total ") (record_line m.p (pair m d)) (room_as a (sym total_is) room)

  module _ {out o : List ℕ} {b : ℕ} (k : PutAt out a (letters "total ") o b) where
    pub behind_room : Room b (record_line m.p (pair m d))
    behind_room = room_next k (record_line m.p (pair m d)) (room_as a (sym total_is) room)

    pub total_put : {o' : List ℕ} {r : ℕ} → PutAt o b (record_line m.p (pair m d)) o' r → PutAt out a (total_line m.p (pair m d)) o' r
    total_put l = put_as total_is (put_then k l)

-- a record's line fits by itself
pub record_room : (m : Modulus) (d : Divisor) → Room 0 (record_line m.p (pair m d))
record_room m d = omega (arith, record_short m.p (pair m d) (omega (arith, weight_is m d, weight_le d)) (omega (arith, weight_is_v m d, weight_le d)))
