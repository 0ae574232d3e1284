-- Normal forms of ring expressions. Gives: expressions `Ex` over numbered atoms with their value `den` in a ring, and `solve`: two
-- expressions whose normal forms are the same list of signed monomials have the same value in every commutative ring.
-- Open (`abbrev`): all that computes, so that `refl` compares normal forms. Callers come through ring.Quote.
use Prim.Native.Nat.{ℕ, ◌+◌, ◌^◌, compare, Ordering}
use mathlib.Core.Path.{◌≡◌, refl, sym, ap, ap₂, ◌∙◌}
use mathlib.Core.List.{List, [], ◌∷◌, ◌++◌}
use mathlib.Core.Bool.{Bool, true, false, not}
use lib.ListN.{get_or}
use Rattle.algebra.proofs.Ring.CRing.{CRing, add_zer, add_neg, add_left_comm, mul_left_comm, mul-one, mul-add, eq_of_sub, zer_mul, mul_zer, neg_mul, mul_neg, neg_neg, neg_zer, neg_of_add}

pub data Ex : Type 0 where
  va : ℕ → Ex
  zr : Ex
  on : Ex
  pl : Ex → Ex → Ex
  ti : Ex → Ex → Ex
  ne : Ex → Ex

-- a sum of signed monomials: sign (true is +), sorting key, the places of the factors
pub data Sum : Type 0 where
  none : Sum
  more : Bool → ℕ → List ℕ → Sum → Sum

-- a normal form: monomials in groups of one key, the keys sorted
pub data NF : Type 0 where
  nil : NF
  cons : ℕ → List (List ℕ) → NF → NF

abbrev pub both : Sum → Sum → Sum
both none t = t
both (more s k m r) t = more s k m (both r t)

abbrev pub same : Bool → Bool → Bool
same true b = b
same false b = not b

abbrev pub opp : Sum → Sum
opp none = none
opp (more s k m r) = more (not s) k m (opp r)

abbrev pub scale : Bool → ℕ → List ℕ → Sum → Sum
scale s k m none = none
scale s k m (more t l n r) = more (same s t) (k + l) (m ++ n) (scale s k m r)

abbrev pub times : Sum → Sum → Sum
times none t = none
times (more s k m r) t = both (scale s k m t) (times r t)

abbrev pub flat : Ex → Sum
flat (va i) = more true (256 ^ i) (i ∷ []) none
flat zr = none
flat on = more true 0 [] none
flat (pl a b) = both (flat a) (flat b)
flat (ti a b) = times (flat a) (flat b)
flat (ne a) = opp (flat a)

abbrev pub ins : ℕ → List ℕ → List ℕ
ins i [] = i ∷ []
ins i (j ∷ m) = elim (compare i j) [ Ordering.lt ↦ i ∷ j ∷ m | Ordering.eq ↦ i ∷ j ∷ m | Ordering.gt ↦ j ∷ ins i m ]

abbrev pub sort : List ℕ → List ℕ
sort [] = []
sort (i ∷ m) = ins i (sort m)

abbrev pub ins_n : ℕ → List ℕ → NF → NF
ins_n k m nil = cons k (m ∷ []) nil
ins_n k m (cons l n r) = elim (compare k l) [ Ordering.lt ↦ cons k (m ∷ []) (cons l n r) | Ordering.eq ↦ cons l (m ∷ n) r | Ordering.gt ↦ cons l n (ins_n k m r) ]

abbrev pub plus : Sum → NF
plus none = nil
plus (more true k m r) = ins_n k (sort m) (plus r)
plus (more false k m r) = plus r

abbrev pub Same : Ex → Ex → Type 0
Same a b = let s : Sum = flat (pl a (ne b)) in plus s ≡ plus (opp s)

module _ (R : CRing) where
  open R use {El as A, add as ◌⊕◌, mul as ◌⊗◌, neg, zer as 𝟘, one as 𝟙, add_assoc, zer_add, mul_assoc, one-mul, add-mul}

  infixl 65 ◌⊕◌
  infixl 70 ◌⊗◌
  abbrev pub den : List A → Ex → A
  den ρ (va i) = get_or ρ i 𝟘
  den ρ zr = 𝟘
  den ρ on = 𝟙
  den ρ (pl a b) = den ρ a ⊕ den ρ b
  den ρ (ti a b) = den ρ a ⊗ den ρ b
  den ρ (ne a) = neg (den ρ a)

  module _ (ρ : List A) where
    -- the i-th atom
    abbrev atom : ℕ → A
    atom i = get_or ρ i 𝟘

    abbrev mono : List ℕ → A
    mono [] = 𝟙
    mono (i ∷ m) = atom i ⊗ mono m

    abbrev sg : Bool → A → A
    sg true a = a
    sg false a = neg a

    abbrev total : Sum → A
    total none = 𝟘
    total (more s k m r) = sg s (mono m) ⊕ total r

    abbrev group : List (List ℕ) → A
    group [] = 𝟘
    group (m ∷ g) = mono m ⊕ group g

    abbrev val : NF → A
    val nil = 𝟘
    val (cons k g r) = group g ⊕ val r

    mono_cat : (m n : List ℕ) → mono (m ++ n) ≡ mono m ⊗ mono n
    mono_cat [] n = sym (one-mul (mono n))
    mono_cat (i ∷ m) n = ap (λ t. atom i ⊗ t) (mono_cat m n) ∙ sym (mul_assoc (atom i) (mono m) (mono n))

    mono_ins : (i : ℕ) (m : List ℕ) → mono (ins i m) ≡ atom i ⊗ mono m
    mono_ins i [] = refl
    mono_ins i (j ∷ m) = go (compare i j) (mono_ins i m)
      where
        go : (o : Ordering) → mono (ins i m) ≡ atom i ⊗ mono m
            → mono (elim o [ Ordering.lt ↦ i ∷ j ∷ m | Ordering.eq ↦ i ∷ j ∷ m | Ordering.gt ↦ j ∷ ins i m ]) ≡ atom i ⊗ (atom j ⊗ mono m)
        go Ordering.lt h = refl
        go Ordering.eq h = refl
        go Ordering.gt h = ap (λ t. atom j ⊗ t) h ∙ mul_left_comm R (atom j) (atom i) (mono m)

    mono_sort : (m : List ℕ) → mono (sort m) ≡ mono m
    mono_sort [] = refl
    mono_sort (i ∷ m) = mono_ins i (sort m) ∙ ap (λ t. atom i ⊗ t) (mono_sort m)

    val_ins : (k : ℕ) (m : List ℕ) (r : NF) → val (ins_n k m r) ≡ mono m ⊕ val r
    val_ins k m nil = ap (λ t. t ⊕ 𝟘) (add_zer R (mono m))
    val_ins k m (cons l n r) = go (compare k l) (val_ins k m r)
      where
        go : (o : Ordering) → val (ins_n k m r) ≡ mono m ⊕ val r
            → val (elim o [ Ordering.lt ↦ cons k (m ∷ []) (cons l n r) | Ordering.eq ↦ cons l (m ∷ n) r | Ordering.gt ↦ cons l n (ins_n k m r) ]) ≡ mono m ⊕ (group n ⊕ val r)
        go Ordering.lt h = ap (λ t. t ⊕ (group n ⊕ val r)) (add_zer R (mono m))
        go Ordering.eq h = add_assoc (mono m) (group n) (val r)
        go Ordering.gt h = ap (λ t. group n ⊕ t) h ∙ add_left_comm R (group n) (mono m) (val r)

    total_both : (s t : Sum) → total (both s t) ≡ total s ⊕ total t
    total_both none t = sym (zer_add (total t))
    total_both (more s k m r) t = ap (λ u. sg s (mono m) ⊕ u) (total_both r t) ∙ sym (add_assoc (sg s (mono m)) (total r) (total t))

    sg_not : (s : Bool) (a : A) → sg (not s) a ≡ neg (sg s a)
    sg_not true a = refl
    sg_not false a = sym (neg_neg R a)

    total_opp : (s : Sum) → total (opp s) ≡ neg (total s)
    total_opp none = sym (neg_zer R)
    total_opp (more s k m r) = ap₂ ◌⊕◌ (sg_not s (mono m)) (total_opp r) ∙ sym (neg_of_add R (sg s (mono m)) (total r))

    sg_same : (s t : Bool) (a b : A) → sg (same s t) (a ⊗ b) ≡ sg s a ⊗ sg t b
    sg_same true true a b = refl
    sg_same true false a b = sym (mul_neg R a b)
    sg_same false true a b = sym (neg_mul R a b)
    sg_same false false a b = sym (neg_neg R (a ⊗ b)) ∙ ap neg (sym (mul_neg R a b)) ∙ sym (neg_mul R a (neg b))

    total_scale : (s : Bool) (k : ℕ) (m : List ℕ) (t : Sum) → total (scale s k m t) ≡ sg s (mono m) ⊗ total t
    total_scale s k m none = sym (mul_zer R (sg s (mono m)))
    total_scale s k m (more t l n r) = ap₂ ◌⊕◌ (ap (sg (same s t)) (mono_cat m n) ∙ sg_same s t (mono m) (mono n)) (total_scale s k m r)
        ∙ sym (mul-add R (sg s (mono m)) (sg t (mono n)) (total r))

    total_times : (s t : Sum) → total (times s t) ≡ total s ⊗ total t
    total_times none t = sym (zer_mul R (total t))
    total_times (more s k m r) t = total_both (scale s k m t) (times r t) ∙ ap₂ ◌⊕◌ (total_scale s k m t) (total_times r t) ∙ sym (add-mul (sg s (mono m)) (total r) (total t))

    flat_sound : (e : Ex) → total (flat e) ≡ den ρ e
    flat_sound (va i) = add_zer R (atom i ⊗ 𝟙) ∙ mul-one R (atom i)
    flat_sound zr = refl
    flat_sound on = add_zer R 𝟙
    flat_sound (pl a b) = total_both (flat a) (flat b) ∙ ap₂ ◌⊕◌ (flat_sound a) (flat_sound b)
    flat_sound (ti a b) = total_times (flat a) (flat b) ∙ ap₂ ◌⊗◌ (flat_sound a) (flat_sound b)
    flat_sound (ne a) = total_opp (flat a) ∙ ap neg (flat_sound a)

    split : (s : Sum) → total s ≡ val (plus s) ⊕ neg (val (plus (opp s)))
    split none = sym (add_neg R 𝟘)
    split (more true k m r) = ap₂ ◌⊕◌ (sym (mono_sort m)) (split r) ∙ sym (add_assoc (mono (sort m)) (val (plus r)) (neg (val (plus (opp r)))))
        ∙ ap (λ t. t ⊕ neg (val (plus (opp r)))) (sym (val_ins k (sort m) (plus r)))
    split (more false k m r) = ap₂ ◌⊕◌ (ap neg (sym (mono_sort m))) (split r) ∙ add_left_comm R (neg (mono (sort m))) (val (plus r)) (neg (val (plus (opp r))))
        ∙ ap (λ t. val (plus r) ⊕ t) (sym (neg_of_add R (mono (sort m)) (val (plus (opp r)))) ∙ ap neg (sym (val_ins k (sort m) (plus (opp r)))))

    pub solve : (a b : Ex) → Same a b → den ρ a ≡ den ρ b
    solve a b h = eq_of_sub R (den ρ a) (den ρ b) (sym (flat_sound (pl a (ne b))) ∙ split (flat (pl a (ne b)))
        ∙ ap (λ t. val t ⊕ neg (val (plus (opp (flat (pl a (ne b))))))) h ∙ add_neg R (val (plus (opp (flat (pl a (ne b)))))))
