-- Lists of lists: parts joined, and lists in another order.
use Prim.Native.Nat.{suc}
use mathlib.Core.Path.{◌≡◌, refl, sym, ap, ◌∙◌}
use mathlib.Core.List.{List, [], ◌∷◌, ◌++◌, map, flatten, append_assoc, map-append, Perm, Permᴰ}
use mathlib.Core.Logic.{∥∥₁_elim}
use mathlib.Core.HLevel.{hedberg}
use native.Mathlib.Decide.{ℕ_discrete}
use lib.ListN.{length}

pub flatten_append {ℓ} : {A : Type ℓ} (l m : List (List A)) → flatten (l ++ m) ≡ flatten l ++ flatten m
unfolding flatten
flatten_append [] m = refl
flatten_append (x ∷ l) m = ap (◌++◌ x) (flatten_append l m) ∙ sym (append_assoc x (flatten l) (flatten m))

pub map_flatten : {A B : Type 0} (f : A → B) (l : List (List A)) → map f (flatten l) ≡ flatten (map (map f) l)
unfolding flatten
map_flatten f [] = refl
map_flatten f (x ∷ l) = map-append f x (flatten l) ∙ ap (◌++◌ (map f x)) (map_flatten f l)

pub perm_length : {A : Type 0} {l m : List A} → Perm l m → length l ≡ length m
perm_length {A} {l} {m} p = ∥∥₁_elim p (hedberg ℕ_discrete (length l) (length m)) go
  where
    go : {l m : List A} → Permᴰ l m → length l ≡ length m
    go Permᴰ.nil = refl
    go (Permᴰ.cons e d) = ap suc (go d)
    go (Permᴰ.swap e h) = refl
    go (Permᴰ.trans d e) = go d ∙ go e
