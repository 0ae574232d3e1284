-- The total of a batch in code, in lanes: what the lanes and those that wait come to is what the k records before place a come to. Gives: the loop's start, a turn of
-- it, the lanes shut one after the other, and what is answered at each return.
use Prim.Native.Nat.{ℕ, ◌+◌, ◌*◌, ◌≤◌, ◌<◌}
use mathlib.Core.Path.{◌≡◌, refl, sym, ap, ◌∙◌}
use mathlib.Core.List.{List}
use mathlib.Core.Bool.{false}
use native.Mathlib.Omega.{arith}
use lib.ListN.{get_or, length, set, replicate}
use Rattle.algebra.proofs.Ring.CRing.{CRing}
use Rattle.algebra.proofs.Zmod.Zmod.{zmod}
use Rattle.algebra.proofs.Zmod.PrimeField.{modulo}
use Rattle.rules.specs.Pair.{Pair, neutral}
use Rattle.rules.specs.Sum.{sum}
use Rattle.rules.specs.Records.{Checked, refused, taken, PairOf}
use Rattle.rules.specs.Lists.{Batch}
use Rattle.field.specs.declared.Residue.{Residue}
use Rattle.field.specs.Residues.{el, Kept, HasInverse, Stands, Settles, Inverts}
use Rattle.field.proofs.Laws.{one_ne, settled_kept}
use Rattle.field.proofs.Units.{product-unit}
use Rattle.divisor.specs.declared.Divisor.{Divisor}
use Rattle.divisor.specs.declared.Divisor.TheVariants.{Neutral}
use Rattle.divisor.specs.Divisors.{pair}
use Rattle.curve.specs.declared.Curve.{Curve}
use Rattle.curve.specs.Curves.{curve_of, Holds, Gives}
use Rattle.curve.specs.Record.{record_of}
use Rattle.sum_lanes.specs.declared.openings.Opening.{Opening}
use Rattle.sum_lanes.specs.openings.Openings.{Opened, Under, Undoes}
use Rattle.sum_lanes.specs.declared.Waiting.{Waiting}
use Rattle.sum_lanes.specs.Lanes.{Waits, together, lane, waiter}
use Rattle.sum_lanes.proofs.Side.{ends as undone}
use Rattle.sum_lanes.proofs.Rows.{at, prods, Row, prods_more, backs, prods_less, row_begin, row_more, row_less, row_total}
use Rattle.std.specs.Prelude.{Ok, Err}
use Rattle.refusals.specs.declared.Refused.{Refused}
use Rattle.refusals.specs.Refusal.{number_of}
use Rattle.refusals.specs.declared.Refusal.TheVariants.{Full}
use Rattle.record_divisor.specs.Read.{DivisorIs}
use Rattle.call_answer.specs.Answers.{RecordIs}
use Rattle.call_total.specs.Totals.{TotalIs}
use Rattle.call_total.proofs.Places.{not_full}
use Rattle.call_answer.proofs.Turns.{Going, begins, ends, full, refuses, turns}

-- t is the total so far, from first to last
pub record Totalling (c : Curve) (s : List ℕ) (sums : List Divisor) (next : List Waiting) (n k a : ℕ) : Type 0 where
  pub t : Pair (modulo c.prime.m.p)
  pub row : Row c sums next n t
  pub going : Going c (sum (curve_of c)) s neutral k a t

-- `all` is the product of what those that wait divide by
pub record Filling (c : Curve) (s : List ℕ) (one : Residue) (sums : List Divisor) (next : List Waiting) (all : Residue) (n k a : ℕ) : Type 0 where
  pub one_is : Settles c.prime.m one (zmod c.prime.m.p).one
  pub room : n < 16
  pub total : Totalling c s sums next n k a
  pub unit : HasInverse c.prime.m all
  pub product : el c.prime.m all ≡ prods c next n

-- back is 1 over it
pub record Shutting (c : Curve) (s : List ℕ) (one : Residue) (sums : List Divisor) (next : List Waiting) (back : Residue) (n k a : ℕ) : Type 0 where
  pub one_is : Settles c.prime.m one (zmod c.prime.m.p).one
  pub total : Totalling c s sums next n k a
  pub kept : Kept c.prime.m back
  pub inverse : (zmod c.prime.m.p).mul (el c.prime.m back) (prods c next n) ≡ (zmod c.prime.m.p).one

module _ (c : Curve) (s : List ℕ) where
  abbrev K : CRing
  K = zmod c.prime.m.p

  one_unit : (one : Residue) → Settles c.prime.m one K.one → HasInverse c.prime.m one
  one_unit one o = record { kept = settled_kept c.prime.m o.settled; nonzero = λ e. one_ne c.prime.m (sym o.is ∙ e) }

  pub total_begin : (z : Divisor) (w : Waiting) (one : Residue) → z ≡ Neutral → Settles c.prime.m one K.one → Filling c s one (replicate 16 z) (replicate 16 w) one 0 0 0
  total_begin z w one e o = record {
    one_is = o;
    room = omega arith;
    total = record { t = neutral; row = row_begin c z e w; going = begins c (sum (curve_of c)) s neutral };
    unit = one_unit one o;
    product = o.is;
  }

  module _ (sums : List Divisor) (next : List Waiting) (k a : ℕ) where
    module _ (n : ℕ) (i : Totalling c s sums next n k a) where
      pub total_full : a < length s → k ≡ 4096 → TotalIs c s (Err (record { by = Full; place = 0 }))
      total_full = full i.going

      pub total_refuses : (r : Refused) → a < length s → (k ≡ 4096 → ⊥) → RecordIs c s a (k + 1) (Err r) → TotalIs c s (Err r)
      total_refuses r more few is = refuses i.going more (not_full i.going.room few) (Err r.by) is.0 refl ∙ ap (λ (x : ℕ). refused (number_of r.by) x) (sym is.1)

      pub total_ends : length s ≤ a → (x y r : Divisor) → Gives c x (together c (waiter next) n) → Gives c y (together c (lane sums) 16) → Gives c r (sum (curve_of c) (pair c.prime.m x) (pair c.prime.m y))
          → TotalIs c s (Ok (record { divisor = r; count = k }))
      total_ends over x y r gx gy gr =
          let g = row_total c i.row x y r gx gy gr in
          (g.holds, ends i.going over ∙ ap (λ (p : Pair (modulo c.prime.m.p)). taken_with p) (sym g.is))
        where
          taken_with : Pair (modulo c.prime.m.p) → Checked (Batch (PairOf (record_of c)))
          taken_with p = taken (record { result = p; count = k })

    -- one more record, opened with its lane
    module _ (n : ℕ) (one all : Residue) (i : Filling c s one sums next all n k a) (d : Divisor) (more : a < length s) (few : k ≡ 4096 → ⊥) (is : DivisorIs c false s a (Ok d))
        (o : Opening) (opened : Opened c (lane sums n) d o) (f : Residue) (under : Under c.prime.m o f) (all' : Residue) (product : Stands c.prime.m all' (K.mul (el c.prime.m all) (el c.prime.m f))) {v : ℕ} (weight : v ≡ get_or s a 0) where
      abbrev w : Waiting
      w = record { d = d; o = o; f = f; before = all }

      pub turned : Totalling c s sums (set next n w) (n + 1) (k + 1) (a + 1 + 16 * v)
      turned = record {
        t = sum (curve_of c) i.total.t (pair c.prime.m d);
        row = row_more c i.total.row i.room w (record { holds = is.0; opened = opened; under = under }) (record { kept = i.unit.kept; is = i.product });
        going = turns i.total.going more (not_full i.total.going.room few) (Ok d) is refl weight refl;
      }

      pub turned_product : el c.prime.m all' ≡ prods c (set next n w) (n + 1)
      turned_product = prods_more c next n w (omega (arith, i.room, i.total.row.long)) all all' i.product product.is

      pub turned_unit : HasInverse c.prime.m all'
      turned_unit = product-unit c.prime all f all' i.unit under.unit product

      pub total_turn : (n + 1 ≡ 16 → ⊥) → Filling c s one sums (set next n w) all' (n + 1) (k + 1) (a + 1 + 16 * v)
      total_turn q = record { one_is = i.one_is; room = omega (arith, i.room); total = turned; unit = turned_unit; product = turned_product }

      -- one waits for each lane
      pub shut_begin : (back : Residue) → Inverts c.prime.m all' back → Shutting c s one sums (set next n w) back (n + 1) (k + 1) (a + 1 + 16 * v)
      shut_begin back b = record {
        one_is = i.one_is;
        total = turned;
        kept = b.kept;
        inverse = ap (K.mul (el c.prime.m back)) (sym turned_product) ∙ K.mul_comm (el c.prime.m back) (el c.prime.m all') ∙ b.is;
      }

    module _ (n : ℕ) (one back : Residue) (i : Shutting c s one sums next back n k a) where
      -- the last that waits, and its lane
      module _ (j : ℕ) (last : j + 1 ≡ n) where
        pub waits : Waits c (lane sums j) (at next j)
        waits = i.total.row.wait j (omega arith)

        pub lane_holds : Holds c (lane sums j)
        lane_holds = i.total.row.hold j (omega (arith, i.total.row.few))

        pub before_kept : Kept c.prime.m (at next j).before
        before_kept = (i.total.row.before j (omega arith)).kept

        pub undoes : (x : Residue) → Stands c.prime.m x (K.mul (el c.prime.m back) (el c.prime.m (at next j).before)) → Undoes c.prime.m (at next j).o x
        undoes x hx = undone c.prime.m (at next j) back x waits.under (backs c i.total.row j last back i.kept i.inverse) hx

        pub shut_turn : (r : Divisor) (back' : Residue) → Gives c r (sum (curve_of c) (pair c.prime.m (lane sums j)) (pair c.prime.m (waiter next j)))
            → Stands c.prime.m back' (K.mul (el c.prime.m back) (el c.prime.m (at next j).f)) → Shutting c s one (set sums j r) next back' j k a
        shut_turn r back' g b = record {
          one_is = i.one_is;
          total = record { t = i.total.t; row = row_less c i.total.row j last r g; going = i.total.going };
          kept = b.kept;
          inverse = prods_less c i.total.row j last back back' i.inverse b.is;
        }

      pub shut_ends : n ≤ 0 → Filling c s one sums next one n k a
      shut_ends z = record {
        one_is = i.one_is;
        room = omega arith;
        total = i.total;
        unit = one_unit one i.one_is;
        product = i.one_is.is ∙ ap (prods c next) {x = 0} {y = n} (omega arith);
      }
