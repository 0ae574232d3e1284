-- The ring normaliser, as it is called. Gives: `ring`, which closes an identity of a commutative ring,
--   ring R (a ∷ b ∷ []) (search quote depth 40) refl : l ≡ r        (a, b: the atoms, any terms of the ring)
-- where `search quote` writes both sides as expressions and `refl` compares their normal forms; and `by`, which puts a hypothesis
-- l ≡ r, times a factor c, to use: what is left to show is an identity.
-- The ring stays shut (a variable, or an `unfoldable`) where `search quote` runs.
use Prim.Native.Nat.{ℕ, zero, suc}
use mathlib.Core.Path.{◌≡◌, refl, sym, ap, ap₂, ◌∙◌}
use mathlib.Core.List.{List, [], ◌∷◌}
use lib.ListN.{get_or}
use Rattle.algebra.proofs.Ring.CRing.{CRing, cancel_left}
use Rattle.algebra.proofs.Ring.Normal.{Ex, va, zr, on, pl, ti, ne, den, Same, solve}

module _ (R : CRing) where
  open R use {El as A, add as ◌⊕◌, mul as ◌⊗◌, neg, zer as 𝟘, one as 𝟙}

  infixl 65 ◌⊕◌
  infixl 70 ◌⊗◌
  pub record At (ρ : List A) (x : A) : Type 0 where
    pub at : ℕ
    pub at_is : get_or ρ at 𝟘 ≡ x

  pub record Quo (ρ : List A) (x : A) : Type 0 where
    pub ex : Ex
    pub ex_is : den R ρ ex ≡ x

  abbrev pub at_here : {ρ : List A} {x : A} → At (x ∷ ρ) x
  at_here = record { at = zero; at_is = refl }

  abbrev pub at_there : {ρ : List A} {x y : A} → At ρ x → At (y ∷ ρ) x
  at_there h = record { at = suc h.at; at_is = h.at_is }

  abbrev pub q_var : {ρ : List A} {x : A} → At ρ x → Quo ρ x
  q_var h = record { ex = va h.at; ex_is = h.at_is }

  abbrev pub q_zer : {ρ : List A} → Quo ρ 𝟘
  q_zer = record { ex = zr; ex_is = refl }

  abbrev pub q_one : {ρ : List A} → Quo ρ 𝟙
  q_one = record { ex = on; ex_is = refl }

  abbrev pub q_add : {ρ : List A} {x y : A} → Quo ρ x → Quo ρ y → Quo ρ (x ⊕ y)
  q_add p q = record { ex = pl p.ex q.ex; ex_is = ap₂ ◌⊕◌ p.ex_is q.ex_is }

  abbrev pub q_mul : {ρ : List A} {x y : A} → Quo ρ x → Quo ρ y → Quo ρ (x ⊗ y)
  q_mul p q = record { ex = ti p.ex q.ex; ex_is = ap₂ ◌⊗◌ p.ex_is q.ex_is }

  abbrev pub q_neg : {ρ : List A} {x : A} → Quo ρ x → Quo ρ (neg x)
  q_neg p = record { ex = ne p.ex; ex_is = ap neg p.ex_is }

  pub record Quos (ρ : List A) (x y : A) : Type 0 where
    pub lhs : Quo ρ x
    pub rhs : Quo ρ y

  abbrev pub q_both : {ρ : List A} {x y : A} → Quo ρ x → Quo ρ y → Quos ρ x y
  q_both p q = record { lhs = p; rhs = q }

  -- a quotation of each variable, as hypotheses
  abbrev pub Imp : List A → List A → Type 0 → Type 0
  Imp ρ [] G = G
  Imp ρ (x ∷ σ) G = Quo ρ x → Imp ρ σ G

  abbrev pub app : (ρ σ : List A) → ((x : A) → At σ x → At ρ x) → (G : Type 0) → Imp ρ σ G → G
  app ρ [] e G g = g
  app ρ (x ∷ σ) e G g = app ρ σ (λ z h. e z (at_there h)) G (g (q_var (e x at_here)))

  pub ring : (ρ : List A) {x y : A} (q : Imp ρ ρ (Quos ρ x y)) → Same (app ρ ρ (λ z h. h) (Quos ρ x y) q).lhs.ex (app ρ ρ (λ z h. h) (Quos ρ x y) q).rhs.ex → x ≡ y
  ring ρ {x} {y} q h = let r : Quos ρ x y = app ρ ρ (λ z h. h) (Quos ρ x y) q in sym r.lhs.ex_is ∙ solve R ρ r.lhs.ex r.rhs.ex h ∙ r.rhs.ex_is

pub ruleset quote = (q_both, q_add, q_mul, q_neg, q_zer, q_one)

-- a hypothesis l ≡ r, times c, put to use: what is left is an identity
module _ (R : CRing) where
  open R use {El as A, add as ◌⊕◌, mul as ◌⊗◌, add_comm}

  infixl 65 ◌⊕◌
  infixl 70 ◌⊗◌
  pub by : {l r x y : A} (c : A) → l ≡ r → x ⊕ c ⊗ r ≡ y ⊕ c ⊗ l → x ≡ y
  by {l} {r} {x} {y} c h p = cancel_left R (c ⊗ r) x y (add_comm (c ⊗ r) x ∙ p ∙ ap (λ t. y ⊕ c ⊗ t) h ∙ add_comm y (c ⊗ r))
