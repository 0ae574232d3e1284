-- "Place is k for 8 to 11 where the k-th divisor (from 1) is at fault, otherwise 0": of what is read, a curve (`curve-place`), a divisor
-- (`divisor_place`), a running total (`resume_place`), a batch (`batch_place`), which refuses with its first faulty record or with 14 (`batch_refused`).
-- Open: `At`, `None`, `Placed`, `Faulty`.
use Prim.Native.Nat.{ℕ, suc, ◌+◌, ◌*◌, ◌≤◌, ◌<◌}
use mathlib.Core.Path.{◌≡◌, refl, sym, ap, ap₂, ◌∙◌, subst₂}
use mathlib.Core.List.{List, [], ◌∷◌, ◌++◌, flatten, append_assoc}
use mathlib.Core.Bool.{Bool, false}
use mathlib.Core.Logic.{◌⊎◌, inl, inr}
use native.Mathlib.Omega.{arith}
use lib.ListN.{get_or, length, drop, length-append}
use Rattle.rules.specs.Records.{CurveRecord, PairOf, read_curve, divisor_at}
use Rattle.rules.specs.Checks.{Checked, refused, taken, go_on}
use Rattle.rules.specs.Lists.{Batch, batch, most_records}
use Rattle.rules.specs.Calls.{Running, resume}
use Rattle.rules.proofs.Calls.Tests.{refused_taken}
use Rattle.rules.proofs.Calls.DivisorRecords.{divisor_read, record_out, split_out, length_out}
use Rattle.rules.proofs.Calls.Batches.{AllRecords, record_taken_out, no_records, more_records, Reading, ends, full, stops, goes, reading}
use Rattle.rules.proofs.Calls.Refusals.{Numbered, curve-refused, divisor_refused, resume_refused, divisor_numbered}

-- the number n has the place j: one that K allows for 8 to 11, otherwise 0
abbrev pub At : (ℕ → ℕ → Type 0) → ℕ → ℕ → Type 0
At K n j = (8 ≤ n → n ≤ 11 → K n j) × (n < 8 → j ≡ 0) × (11 < n → j ≡ 0)

-- no divisor is read
abbrev pub None : ℕ → ℕ → Type 0
None n j = ⊥

module _ {A : Type 0} where
  abbrev pub Placed : (ℕ → ℕ → Type 0) → Checked A → Type 0
  Placed K x = (n j : ℕ) → x ≡ refused n j → At K n j

-- one reading after another: what the first allows and what the next allows is allowed by K
pub placed_on : {A B : Type 0} (K L : ℕ → ℕ → Type 0) (x : Checked A) (go : A → Checked B) → Placed L x → ((n j : ℕ) → x ≡ refused n j → L n j → K n j)
    → ((a : A) → x ≡ taken a → Placed K (go a)) → Placed K (go_on x go)
placed_on K L (refused m i) go p w rest n j e =
    let a : m ≡ n = cc in
    let b : i ≡ j = cc in
    let q = p m i refl in
    (λ l u. subst₂ K a b (w m i refl (q.0 (omega (arith, a, l)) (omega (arith, a, u)))), λ l. sym b ∙ q.1 (omega (arith, a, l)), λ l. sym b ∙ q.2 (omega (arith, a, l)))
placed_on K L (taken a) go p w rest n j e = rest a refl n j e

pub placed_taken : {A : Type 0} (K : ℕ → ℕ → Type 0) (a : A) → Placed K (taken a)
placed_taken K a n j e = absurd (refused_taken (sym e))

-- numbers other than 8 to 11, with place 0
pub elsewhere : (K : ℕ → ℕ → Type 0) {n j : ℕ} → (8 ≤ n → n ≤ 11 → ⊥) → j ≡ 0 → At K n j
elsewhere K h e = (λ l u. absurd (h l u), λ l. e, λ l. e)

pub curve-place : (s : List ℕ) → Placed None (read_curve s)
curve-place s n j e = let r = curve-refused s e in elsewhere None (λ l u. omega (arith, r.apart (omega (arith, l)))) r.place

module _ (c : CurveRecord) where
  pub divisor_place : (k : ℕ) (whole : Bool) (s : List ℕ) (a : ℕ) → Placed (λ n j. j ≡ k) (divisor_at c k whole s a)
  divisor_place k whole s a n j e = let r = divisor_refused c k whole s a e in (λ l u. r.2, λ l. absurd (omega (arith, r.0)), λ l. absurd (omega (arith, r.1)))

  pub resume_place : (t : Running) → Placed None (resume c t)
  resume_place t n j e = let r = resume_refused c t e in elsewhere None (λ l u. omega (arith, r.0)) r.2

  -- the j-th record of a batch is at fault, with the number n: j - 1 good records stand before it
  pub record Faulty (s : List ℕ) (n j : ℕ) : Type 0 where
    pub before : List (List ℕ)
    pub good : AllRecords c before
    pub few : length before < 4096
    pub place : suc (length before) ≡ j
    pub rest : List ℕ
    pub bytes : flatten before ++ rest ≡ s
    pub fault : divisor_at c j false s (length (flatten before)) ≡ refused n j

  -- bytes are left after 4,096 good records
  abbrev pub Over : ℕ → ℕ → Type 0
  Over n j = (n ≡ 14) × (j ≡ 0)

  module _ {A : Type 0} (step : A → PairOf c → A) (s : List ℕ) where
    -- k records stand before a, and those of `before` from a on
    record Behind (left a k n j : ℕ) : Type 0 where
      before : List (List ℕ)
      good : AllRecords c before
      few : length before < left
      place : k + suc (length before) ≡ j
      rest : List ℕ
      bytes : flatten before ++ rest ≡ drop a s
      fault : divisor_at c j false s (a + length (flatten before)) ≡ refused n j

    behind_none : (left a k n j : ℕ) → divisor_at c (k + 1) false s a ≡ refused n j → j ≡ k + 1 → Behind (suc left) a k n j
    unfolding flatten
    behind_none left a k n j e q =
        record {
          before = [];
          good = no_records c;
          few = omega arith;
          place = omega (arith, q);
          rest = drop a s;
          bytes = refl;
          fault = ap (λ (x : ℕ). divisor_at c x false s (a + 0)) q ∙ ap (divisor_at c (k + 1) false s) (omega arith) ∙ e;
        }

    behind_more : (left a k n j : ℕ) {d : PairOf c} → divisor_at c (k + 1) false s a ≡ taken d → Behind left (a + 1 + 16 * get_or s a 0) (k + 1) n j → Behind (suc left) a k n j
    unfolding flatten
    behind_more left a k n j e r =
        let h = (divisor_read c (k + 1) false s a e).0 in
        let x : List ℕ = record_out c s a h in
        record {
          before = x ∷ r.before;
          good = more_records c (record_taken_out c s a h) r.good;
          few = omega (arith, r.few);
          place = omega (arith, r.place);
          rest = r.rest;
          bytes = append_assoc x (flatten r.before) r.rest ∙ ap (◌++◌ x) r.bytes ∙ sym (split_out c s a h);
          fault = ap (divisor_at c j false s) (omega (arith, length-append x (flatten r.before), length_out c s a h)) ∙ r.fault;
        }

    -- one of them, or bytes are left after the last that may follow
    behind : {left a k n j : ℕ} {from : A} {x : Checked (Batch A)} → Reading c step s left a k from x → x ≡ refused n j → Behind left a k n j ⊎ Over n j
    behind (ends l) e = absurd (refused_taken (sym e))
    behind {n = n} {j = j} (full l) e = let a : 14 ≡ n = cc in let b : 0 ≡ j = cc in inr (sym a, sym b)
    behind {n = n} {j = j} (stops {left = left} {a = a} {k = k} {n = m} {j = i} q) e =
        let r : divisor_at c (k + 1) false s a ≡ refused n j = q ∙ ap₂ refused (let z : m ≡ n = cc in z) (let z : i ≡ j = cc in z) in
        inl (behind_none left a k n j r (divisor_refused c (k + 1) false s a r).2)
    behind {n = n} {j = j} (goes {left = left} {a = a} {k = k} q r) e = more (behind r e)
      where
        more : Behind left (a + 1 + 16 * get_or s a 0) (k + 1) n j ⊎ Over n j → Behind (suc left) a k n j ⊎ Over n j
        more (inl b) = inl (behind_more left a k n j q b)
        more (inr e) = inr e

    -- a batch refuses with its first record that is at fault, or with 14
    pub batch_refused : (from : A) {n j : ℕ} → batch c step s from ≡ refused n j → Faulty s n j ⊎ Over n j
    batch_refused from {n} {j} e = go (behind (reading c step s most_records 0 0 from) e)
      where
        go : Behind most_records 0 0 n j ⊎ Over n j → Faulty s n j ⊎ Over n j
        go (inl b) = inl (record {
          before = b.before;
          good = b.good;
          few = b.few;
          place = omega (arith, b.place);
          rest = b.rest;
          bytes = b.bytes;
          fault = ap (divisor_at c j false s) (omega arith) ∙ b.fault;
        })
        go (inr q) = inr q

    pub batch_place : (from : A) → Placed (Faulty s) (batch c step s from)
    batch_place from n j e = go (batch_refused from e)
      where
        go : Faulty s n j ⊎ Over n j → At (Faulty s) n j
        go (inl b) = let r = divisor_refused c j false s (length (flatten b.before)) b.fault in
            (λ l u. b, λ l. absurd (omega (arith, r.0)), λ l. absurd (omega (arith, r.1)))
        go (inr q) = elsewhere (Faulty s) (λ l u. omega (arith, q.0)) q.1

    pub batch_numbered : (from : A) → Numbered (batch c step s from)
    batch_numbered from n j e = go (batch_refused from e)
      where
        go : Faulty s n j ⊎ Over n j → 0 < n
        go (inl b) = divisor_numbered c j false s (length (flatten b.before)) n j b.fault
        go (inr q) = omega (arith, q.0)
