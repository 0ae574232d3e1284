-- The text by what was read: the three lines of a pole's list, or the line of what refuses it.
use Rattle.std.specs.Prelude.{ℕ, ◌<◌, ◌≡◌, List, [], ◌++◌, Option, Result, Ok, Err}
use Rattle.refusals.specs.declared.Refused.{Refused}
use Rattle.refusals.specs.Refusal.{number_of}
use Rattle.divisor.specs.Divisors.{pair, Held}
use Rattle.call_answer.specs.Answers.{reply}
use Rattle.call_batch.specs.declared.places.Repeat.{Repeat}
use Rattle.call_batch.specs.repeat.Rows.{places_of as found_at}
use Rattle.call_batch.specs.repeat.Repeats.{no_repeat}
use Rattle.text_lines.specs.declared.Places.{Places}
use Rattle.text_lines.specs.Lines.{count_line, repeat_line, total_line, refused_line}
use Rattle.text_lines.specs.Printed.{places_of}
use Rattle.text_tally.specs.declared.PoleList.{PoleList}

-- the places that a search answers: 0 and 0 for none, and on a refusal
abbrev pub OwnPlaces : Result (Option Repeat) Refused → Option Places → Type 0
OwnPlaces r q = places_of q ≡ (reply no_repeat (λ x. (0, found_at x)) r []).own

-- numbers of a word, so that the lines have room
abbrev pub ShortPlaces : Option Places → Type 0
ShortPlaces q = ((places_of q).first < 18446744073709551616) × ((places_of q).second < 18446744073709551616)

abbrev pub lines_of_list : PoleList → List ℕ
lines_of_list t = count_line t.count ++ (repeat_line (places_of t.repeat) ++ total_line t.m.p (pair t.m t.total))

abbrev pub shown : Result PoleList Refused → List ℕ
shown (Ok t) = lines_of_list t
shown (Err r) = refused_line (number_of r.by) r.place

-- the lines have room, and a total is one of the modulus that it is printed by
abbrev pub Printable : Result PoleList Refused → Type 0
Printable (Ok t) = Held t.m t.total × ShortPlaces t.repeat
Printable (Err r) = Unit {0}

abbrev pub Shows : List ℕ → Result PoleList Refused → Type 0
Shows text r = Printable r × (shown r ≡ text)
