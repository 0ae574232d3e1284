-- A scan's answers: the rules `scan_on` and `scan_call`, where each check stops them or lets them go on.
use Prim.Native.Nat.{ℕ, ◌+◌, ◌-◌, ◌≤◌, ◌<◌}
use mathlib.Core.Path.{◌≡◌, refl, sym, ap, ◌∙◌, subst}
use mathlib.Core.Bool.{true}
use mathlib.Core.List.{List, []}
use native.Mathlib.Omega.{arith}
use lib.ListN.{length, take, drop}
use borrow.Author.Tests.{le-leb, lt-leb, ne_eqb}
use Rattle.rules.specs.Bytes.{word32}
use Rattle.rules.specs.Sum.{sum}
use Rattle.rules.specs.Checks.{Checked, taken, go_on}
use Rattle.rules.specs.Records.{CurveRecord, PairOf, numbers, read_curve, read_divisor}
use Rattle.rules.specs.Calls.{Running as RuleRunning, Result as RuleResult, deliver, done, resume, scan_record, scanned as rule-scanned, scan_on, scan_call}
use Rattle.rules.proofs.Calls.Bytes.{part-from}
use Rattle.rules.proofs.Calls.Refusals.{on_taken, on_refused}
use Rattle.rules.proofs.Calls.OneScan.{scan_taken}
use Rattle.divisor.specs.declared.Divisor.{Divisor}
use Rattle.divisor.specs.Divisors.{pair}
use Rattle.curve.specs.declared.Curve.{Curve}
use Rattle.curve.specs.Curves.{curve_of}
use Rattle.scan_total.specs.declared.Running.{Running}
use Rattle.scan_total.specs.Totals.{ToTake, Taken}
use Rattle.std.specs.Prelude.{Result, Ok, Err}
use Rattle.refusals.specs.declared.Refusal.{Refusal}
use Rattle.refusals.specs.declared.Refusal.TheVariants.{DivisorLength, OtherPole}
use Rattle.refusals.specs.declared.Refused.{Refused}
use Rattle.refusals.specs.Refusal.{number_of}
use Rattle.curve.specs.Record.{record_of}
use Rattle.record_curve.specs.Read.{CurveIs}
use Rattle.call_answer.specs.Answers.{ReadIs}
use Rattle.scan_total.specs.resume.Resumes.{ResumeIs}
use Rattle.scan_record.specs.Scans.{running_of, scanned_of}

module _ (c : Curve) (t : Running) (a : List ℕ) where
  abbrev rule : RuleRunning
  rule = running_of t

  -- the total after z was made
  abbrev made : PairOf (record_of c) → RuleResult RuleRunning
  made z = record { bytes = []; own = record { u = numbers c.prime.m.p z.u; v = numbers c.prime.m.p z.v; count = t.count + 1; pole = t.pole } }

  abbrev sums : PairOf (record_of c) → PairOf (record_of c) → Checked (RuleResult RuleRunning)
  sums x y = taken (made (sum (curve_of c) x y))

  abbrev reads : PairOf (record_of c) → List ℕ → Checked (RuleResult RuleRunning)
  reads x r = go_on (read_divisor (record_of c) 1 r) (sums x)

  abbrev rest : PairOf (record_of c) → Checked (RuleResult RuleRunning)
  rest x = go_on (scan_record t.pole a) (reads x)

  rule_is : {x : Checked (RuleResult RuleRunning)} → go_on (resume (record_of c) rule) rest ≡ x → scan_on (record_of c) rule a ≡ deliver rule [] x
  unfolding scan_on
  rule_is e = ap (deliver rule []) e

  -- a refusal at a place
  abbrev no : Refusal → ℕ → Result Running Refused
  no by k = Err (record { by = by; place = k })

  pub not_resumed : (by : Refusal) → ResumeIs c t.divisor t.count (Err by) → scanned_of t (no by 0) ≡ scan_on (record_of c) rule a
  not_resumed by h = sym (rule_is (on_refused _ rest (h t.pole)))

  module _ (total : Divisor) (h : ResumeIs c t.divisor t.count (Ok total)) where
    resumed : go_on (resume (record_of c) rule) rest ≡ rest (pair c.prime.m total)
    resumed = on_taken _ rest (h.takes t.pole)

    -- the pole's four bytes: not there, or another's; n is their number
    pub no_pole : length a < 4 → scanned_of t (no DivisorLength 1) ≡ scan_on (record_of c) rule a
    no_pole l = sym (rule_is (resumed ∙ on_refused (scan_record t.pole a) (reads (pair c.prime.m total)) (rw (lt-leb 4 (length a) l) refl)))

    module _ (l : 4 ≤ length a) {n : ℕ} (n_is : n ≡ word32 a 0) where
      pub other_pole : (n ≡ t.pole → ⊥) → scanned_of t (no OtherPole 0) ≡ scan_on (record_of c) rule a
      other_pole q = sym (rule_is (resumed ∙ on_refused (scan_record t.pole a) (reads (pair c.prime.m total)) (rw (le-leb 4 (length a) l, ne_eqb (word32 a 0) t.pole (λ e. q (n_is ∙ e))) refl)))

      module _ (q : n ≡ t.pole) where
        -- the record behind the pole
        abbrev behind : List ℕ
        behind = take (length a - 4) (drop 4 a)

        for_pole : go_on (resume (record_of c) rule) rest ≡ reads (pair c.prime.m total) behind
        for_pole = resumed ∙ on_taken (scan_record t.pole a) (reads (pair c.prime.m total)) (scan_taken t.pole a l (sym n_is ∙ q)) ∙ ap (reads (pair c.prime.m total)) (sym (part-from a 4))

        pub not_read : (r : Refused) → ReadIs c 1 behind (Err r) → scanned_of t (Err r) ≡ scan_on (record_of c) rule a
        not_read r e = sym (rule_is (for_pole ∙ on_refused _ (sums (pair c.prime.m total)) e))

        module _ (d : Divisor) (read : ReadIs c 1 behind (Ok d)) where
          pub to_take : ToTake c t total d
          to_take = record { total = h.holds; taken = read.0; room = omega (arith, h.room) }

          pub scanned : (x : Running) → Taken c t total d x → scanned_of t (Ok x) ≡ scan_on (record_of c) rule a
          scanned x k = total_is ∙ sym (rule_is (for_pole ∙ on_taken _ (sums (pair c.prime.m total)) read.1))
            where
              total_is : scanned_of t (Ok x) ≡ deliver rule [] (sums (pair c.prime.m total) (pair c.prime.m d))
              total_is = λ i. record { answer = done 0; out = []; own = record { u = k.u_is i; v = k.v_is i; count = k.count_is i; pole = k.pole_is i } }

-- the curve first
module _ (t : Running) (s a : List ℕ) where
  abbrev go : CurveRecord → Checked (RuleResult RuleRunning)
  go c = rule-scanned c (running_of t) a

  call_is : {x : Checked (RuleResult RuleRunning)} → go_on (read_curve s) go ≡ x → scan_call (running_of t) s a ≡ deliver (running_of t) [] x
  unfolding scan_call
  call_is e = ap (deliver (running_of t) []) e

  pub no_curve : (by : Refusal) → CurveIs s (Err by) → scanned_of t (Err (record { by = by; place = 0 })) ≡ scan_call (running_of t) s a
  no_curve by h = sym (call_is (on_refused _ go h))

  pub on_curve : (c : Curve) → CurveIs s (Ok c) → (x : Result Running Refused) → scanned_of t x ≡ scan_on (record_of c) (running_of t) a → scanned_of t x ≡ scan_call (running_of t) s a
  unfolding scan_on
  on_curve c h x e = e ∙ sym (call_is (on_taken _ go h))
