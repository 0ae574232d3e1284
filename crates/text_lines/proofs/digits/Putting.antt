-- Bytes put one after the other: x, then y behind it, is x ++ y; and where x ++ y has room, x has, and y behind it.
use Prim.Native.Nat.{ℕ, ◌+◌, ◌-◌, ◌≤◌, ◌<◌}
use mathlib.Core.Path.{◌≡◌, refl, sym, ap, subst, ◌∙◌}
use mathlib.Core.List.{List, [], ◌∷◌, ◌++◌, append_assoc}
use native.Mathlib.Omega.{arith}
use lib.ListN.{length, take, drop, length-append}
use lib.Seq.{sets, sets-eq}
use borrow.Rule.Slice.PartMut.{put_mid, post_of, Post-is}
use Rattle.record_bytes.proofs.Writing.{sets_append}
use Rattle.text_lines.specs.digits.Put.{PutAt, Room}

pub put_none : (out : List ℕ) (a : ℕ) → PutAt out a [] out a
put_none out a = record { next = omega arith; put = refl }

pub room-first : (a : ℕ) (x y : List ℕ) → Room a (x ++ y) → Room a x
room-first a x y h = omega (arith, length-append x y)

module _ {out : List ℕ} {a : ℕ} {x o : List ℕ} {b : ℕ} (h : PutAt out a x o b) where
  pub room_next : (y : List ℕ) → Room a (x ++ y) → Room b y
  room_next y r = omega (arith, length-append x y, h.next)

  pub put_then : {y o' : List ℕ} {c : ℕ} → PutAt o b y o' c → PutAt out a (x ++ y) o' c
  put_then {y} {o'} {c} k = record {
    next = omega (arith, length-append x y, h.next, k.next);
    put = k.put ∙ ap (λ (l : List ℕ). sets l b y) h.put ∙ sym (sets_append out x y a b h.next);
  }

-- the same bytes by another name
pub put_as : {out : List ℕ} {a : ℕ} {x y o : List ℕ} {b : ℕ} → x ≡ y → PutAt out a x o b → PutAt out a y o b
put_as {out} {a} {x} {y} {o} {b} e h = subst (λ (l : List ℕ). PutAt out a l o b) e h

pub room_as : (a : ℕ) {x y : List ℕ} → x ≡ y → Room a x → Room a y
room_as a e h = subst (Room a) e h

-- a text that is x and one byte d
module _ {text : List ℕ} (x : List ℕ) (d : ℕ) (e : text ≡ x ++ (d ∷ [])) (a : ℕ) (room : Room a text) where
  pub room_front : Room a x
  room_front = room-first a x (d ∷ []) (room_as a e room)

  module _ {out o : List ℕ} {b : ℕ} (h : PutAt out a x o b) where
    pub room_last : b < 256
    room_last = let r : Room b (d ∷ []) = room_next h (d ∷ []) (room_as a e room) in omega arith

    pub put_last : {o' : List ℕ} {l r : ℕ} → l ≡ d → PutAt o b (l ∷ []) o' r → PutAt out a text o' r
    put_last q k = put_as (sym e) (put_then h (put_as (ap (λ (n : ℕ). n ∷ []) q) k))

-- all of s, in the part from a on
pub put_all : (out s part : List ℕ) (a : ℕ) → part ≡ s → a + length s ≤ length out → PutAt out a s (put_mid a (a + length s - a) out part) (a + length s)
put_all out s part a e h = record {
  next = refl;
  put = ap (λ (l : List ℕ). take a out ++ (l ++ post_of a (a + length s - a) out)) e
      ∙ ap (λ (l : List ℕ). take a out ++ (s ++ l)) (Post-is a (a + length s) out (omega arith))
      ∙ sym (append_assoc (take a out) s (drop (a + length s) out)) ∙ sym (sets-eq s out a h);
}

-- x, then y, then one byte d
module _ (a : ℕ) (x y : List ℕ) (d : ℕ) (room : Room a (x ++ (y ++ (d ∷ [])))) where
  pub first_room : Room a x
  first_room = room-first a x (y ++ (d ∷ [])) room

  module _ {out o : List ℕ} {b : ℕ} (h : PutAt out a x o b) where
    rest_room : Room b (y ++ (d ∷ []))
    rest_room = room_next h (y ++ (d ∷ [])) room

    pub second_room : Room b y
    second_room = room-first b y (d ∷ []) rest_room

    module _ {o' : List ℕ} {c : ℕ} (k : PutAt o b y o' c) where
      pub third_room : c < 256
      third_room = let r : Room c (d ∷ []) = room_next k (d ∷ []) rest_room in omega arith

      pub all_three : {o'' : List ℕ} {r : ℕ} → PutAt o' c (d ∷ []) o'' r → PutAt out a (x ++ (y ++ (d ∷ []))) o'' r
      all_three l = put_then h (put_then k l)
