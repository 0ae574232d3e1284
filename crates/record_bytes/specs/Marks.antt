-- The mark of three letters that a curve record and a pole file begin with.
use Rattle.std.specs.Prelude.{ℕ, Bool, ◌&&◌ as both, List, get_or, eqb}

-- s begins with the letters of mark
abbrev pub begins_with : List ℕ → List ℕ → Bool
begins_with mark s = both (eqb (get_or s 0 0) (get_or mark 0 0)) (both (eqb (get_or s 1 0) (get_or mark 1 0)) (eqb (get_or s 2 0) (get_or mark 2 0)))
