-- Scans one after the other, into totals of any kind A, each of which keeps some words `Keeps` on the total that the one before it left. Where those words are
-- the rule's of totals that are fine, and leave a fine one, the total after each scan is the batch total of what was taken so far (`sequence_total`), scans for other poles among those that were refused.
use Prim.Native.Nat.{ℕ}
use mathlib.Core.Path.{◌≡◌, refl, sym, ap, ◌∙◌, subst}
use mathlib.Core.Bool.{Bool, true, false}
use mathlib.Core.List.{List, [], ◌∷◌, ◌++◌, flatten}
use borrow.Author.Tests.{eqb-true, eqb-false}
use lib.Dec.{eqb}
use Rattle.rules.specs.Records.{CurveRecord, taken, choose, read_curve}
use Rattle.rules.specs.Calls.{Running, fresh, put, total_call, scan_call}
use Rattle.rules.proofs.Calls.OneScan.{scan_kept}
use Rattle.rules.proofs.Calls.Scans.{running_result, scans, AllDone, records_of, scans_batch}

-- one scan: its record, what it reported, and the total that it left
pub record Scan (A Report : Type 0) : Type 0 where
  pub bytes : List ℕ
  pub report : Report
  pub after : A

module _ {A Report : Type 0} where
  abbrev pub AllScans : (A → List ℕ → Report → A → Type 0) → A → List (Scan A Report) → Type 0
  AllScans Keeps t [] = Unit {0}
  AllScans Keeps t (x ∷ xs) = Keeps t x.bytes x.report x.after × AllScans Keeps x.after xs

  abbrev pub last_total : A → List (Scan A Report) → A
  last_total t [] = t
  last_total t (x ∷ xs) = last_total x.after xs

  -- the records that were answered 0
  abbrev pub took : (Report → ℕ) → List (Scan A Report) → List (List ℕ)
  took number [] = []
  took number (x ∷ xs) = choose (eqb (number x.report) 0) (x.bytes ∷ took number xs) (took number xs)

  so_far : (Keeps : A → List ℕ → Report → A → Type 0) (t : A) (xs later : List (Scan A Report)) → AllScans Keeps t (xs ++ later) → AllScans Keeps t xs
  so_far Keeps t [] later h = tt
  so_far Keeps t (x ∷ xs) later h = (h.0, so_far Keeps x.after xs later h.1)

  module _ (number : Report → ℕ) (Keeps : A → List ℕ → Report → A → Type 0) (s : List ℕ) (rule : A → Running) (Fine : A → Type 0) where
    -- a scan as the rule has it
    pub record AsRule (t : A) (a : List ℕ) (r : Report) (after : A) : Type 0 where
      pub fine : Fine after
      pub answers : number r ≡ (scan_call (rule t) s a).answer.number
      pub leaves : rule after ≡ (scan_call (rule t) s a).own

    -- the rule, given the records rs alone, goes from t to end
    abbrev Reaches : A → List (List ℕ) → A → Type 0
    Reaches t rs end = (scans (rule t) s rs ≡ rule end) × AllDone (rule t) s rs

    one_taken : (t : A) (x : Scan A Report) (rs : List (List ℕ)) (end : A) → AsRule t x.bytes x.report x.after → number x.report ≡ 0 → Reaches x.after rs end → Reaches t (x.bytes ∷ rs) end
    one_taken t x rs end h z k = (
      ap (λ (u : Running). scans u s rs) (sym h.leaves) ∙ k.0,
      (sym h.answers ∙ z, subst (λ (u : Running). AllDone u s rs) h.leaves k.1),
    )

    one_refused : (t : A) (x : Scan A Report) (rs : List (List ℕ)) (end : A) → AsRule t x.bytes x.report x.after → (number x.report ≡ 0 → ⊥) → Reaches x.after rs end → Reaches t rs end
    one_refused t x rs end h n k = subst (λ (u : Running). (scans u s rs ≡ rule end) × AllDone u s rs) (h.leaves ∙ scan_kept s (rule t) x.bytes (λ z. n (h.answers ∙ z))) k

    module _ (step : (t : A) (a : List ℕ) (r : Report) (after : A) → Fine t → Keeps t a r after → AsRule t a r after) where
      reaches : (t : A) (xs : List (Scan A Report)) → Fine t → AllScans Keeps t xs → Reaches t (took number xs) (last_total t xs)
      reaches t [] f h = (refl, tt)
      reaches t (x ∷ xs) f h = let k = step t x.bytes x.report x.after f h.0 in go k (eqb (number x.report) 0) refl (reaches x.after xs k.fine h.1)
        where
          go : AsRule t x.bytes x.report x.after → (b : Bool) → eqb (number x.report) 0 ≡ b → Reaches x.after (took number xs) (last_total x.after xs)
              → Reaches t (choose b (x.bytes ∷ took number xs) (took number xs)) (last_total x.after xs)
          go k true e rest = one_taken t x (took number xs) (last_total x.after xs) k (eqb-true _ _ e) rest
          go k false e rest = one_refused t x (took number xs) (last_total x.after xs) k (eqb-false _ _ e) rest

      pub sequence_total : {c : CurveRecord} → read_curve s ≡ taken c → (t : A) → Fine t → (pole : ℕ) → rule t ≡ fresh pole → (xs later : List (Scan A Report)) → AllScans Keeps t (xs ++ later)
          → (out : List ℕ) → total_call s (flatten (records_of (took number xs))) out ≡ put 0 out (running_result (rule (last_total t xs)))
      sequence_total ec t f pole e xs later h out =
          let k = reaches t xs f (so_far Keeps t xs later h) in
          scans_batch s ec pole (took number xs) (subst (λ (u : Running). AllDone u s (took number xs)) e k.1) out
          ∙ ap (λ (u : Running). put 0 out (running_result u)) (ap (λ (u : Running). scans u s (took number xs)) (sym e) ∙ k.0)
