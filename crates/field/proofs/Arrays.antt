-- What the search lacks for an array of structs: its list is as long as the list that the logic keeps.
use Prim.Native.Nat.{ℕ}
use mathlib.Core.Path.{◌≡◌, sym, ◌∙◌}
use mathlib.Core.List.{List, map}
use lib.ListN.{length, length-map}

pub length_of : (S T : Type 0) (f : S → T) (l : List S) (n : ℕ) → length (map f l) ≡ n → length l ≡ n
length_of S T f l n e = sym (length-map l f) ∙ e
