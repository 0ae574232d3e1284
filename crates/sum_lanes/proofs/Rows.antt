-- The lanes under way: t is what all divisors so far come to, those in the lanes and the n that wait. Gives: the start, a divisor more that waits (`row_more`), one
-- that goes into its lane (`row_less`), and the end (`row_total`); the product of what is divided by, one more and one less.
use Prim.Native.Nat.{ℕ, zero, suc, ◌+◌, ◌≤◌, ◌<◌}
use mathlib.Core.Path.{◌≡◌, refl, sym, ap, ap₂, ◌∙◌, subst}
use mathlib.Core.List.{List, [], ◌∷◌}
use native.Mathlib.Omega.{arith}
use native.Mathlib.Decide.{ℕ_discrete}
use borrow.Author.Count.{below_more}
use lib.ListN.{get_or, length, set, replicate, length-set, get_or-replicate}
use lib.Seq.{get_or-set_same, get_or-set_other}
use Rattle.algebra.proofs.Ring.Quote.{ring, quote}
use Rattle.algebra.proofs.Zmod.Zmod.{zmod}
use Rattle.algebra.proofs.Zmod.PrimeField.{modulo}
use Rattle.rules.specs.Pair.{Pair, Valid, neutral}
use Rattle.rules.specs.Sum.{sum}
use Rattle.rules.proofs.Cantor.Pairs.{neutral_valid}
use Rattle.rules.proofs.Cantor.Sum.{sum_valid}
use Rattle.rules.proofs.Cantor.Group.{neutral_sum, sum_comm, sum_assoc}
use Rattle.field.specs.declared.Residue.{Residue}
use Rattle.field.specs.Residues.{el, Kept, Stands}
use Rattle.divisor.specs.declared.Divisor.{Divisor}
use Rattle.divisor.specs.declared.Divisor.TheVariants.{Neutral}
use Rattle.divisor.specs.Divisors.{pair}
use Rattle.divisor.proofs.Laws.{neutral_is}
use Rattle.curve.specs.declared.Curve.{Curve}
use Rattle.curve.specs.Curves.{curve_of, Holds, Gives}
use Rattle.curve.proofs.Contains.{accepted, neutral-holds}
use Rattle.sum_lanes.specs.declared.Waiting.{Waiting}
use Rattle.sum_lanes.specs.Lanes.{Waits, Backs, together, AllHold, lane, nobody, waiter}
use Rattle.sum_lanes.proofs.Side.{together_valid, together_same, raised}

abbrev pub at : List Waiting → ℕ → Waiting
at l k = get_or l k nobody

module _ (c : Curve) where
  open zmod c.prime.m.p use {El as A, mul as ◌*◌, one as 𝟙}

  infixl 70 ◌*◌
  -- the product of what the first n divide by
  abbrev pub prods : List Waiting → ℕ → A
  prods l zero = 𝟙
  prods l (suc n) = prods l n * el c.prime.m (at l n).f

  pub record Row (sums : List Divisor) (next : List Waiting) (n : ℕ) (t : Pair (modulo c.prime.m.p)) : Type 0 where
    pub lanes : length sums ≡ 16
    pub long : length next ≡ 16
    pub few : n ≤ 16
    pub hold : AllHold c (lane sums) 16
    pub wait : (k : ℕ) → k < n → Waits c (lane sums k) (at next k)
    pub before : (k : ℕ) → k < n → Stands c.prime.m (at next k).before (prods next k)
    pub is : t ≡ sum (curve_of c) (together c (lane sums) 16) (together c (waiter next) n)

  prods_same : (l l' : List Waiting) (n : ℕ) → ((k : ℕ) → k < n → at l k ≡ at l' k) → prods l n ≡ prods l' n
  prods_same l l' zero q = refl
  prods_same l l' (suc n) q = ap₂ ◌*◌ (prods_same l l' n (λ k i. q k (omega arith))) (ap (λ (w : Waiting). el c.prime.m w.f) (q n (omega arith)))

  module _ (next : List Waiting) (n : ℕ) (w : Waiting) (room : n < length next) where
    put_same : at (set next n w) n ≡ w
    put_same = get_or-set_same next n w nobody room

    put_other : (k : ℕ) → k < n → at (set next n w) k ≡ at next k
    put_other k i = get_or-set_other next n k w nobody (λ q. omega arith)

    kept_prods : (k : ℕ) → k ≤ n → prods (set next n w) k ≡ prods next k
    kept_prods k i = prods_same (set next n w) next k (λ j l. put_other j (omega arith))

    pub prods_more : (all all' : Residue) → el c.prime.m all ≡ prods next n → el c.prime.m all' ≡ el c.prime.m all * el c.prime.m w.f → el c.prime.m all' ≡ prods (set next n w) (n + 1)
    prods_more all all' e e' = e' ∙ ap₂ ◌*◌ (e ∙ sym (kept_prods n (omega arith))) (ap (λ (x : Waiting). el c.prime.m x.f) (sym put_same)) ∙ ap (prods (set next n w)) {x = suc n} {y = n + 1} (omega arith)

  -- the last of those that wait
  module _ {sums : List Divisor} {next : List Waiting} {n : ℕ} {t : Pair (modulo c.prime.m.p)} (i : Row sums next n t) (j : ℕ) (last : j + 1 ≡ n) where
    prods_last : prods next n ≡ prods next j * el c.prime.m (at next j).f
    prods_last = ap (prods next) {x = n} {y = suc j} (omega arith)

    pub backs : (back : Residue) → Kept c.prime.m back → el c.prime.m back * prods next n ≡ 𝟙 → Backs c.prime.m (at next j) back
    backs back k e = record {
      before = (i.before j (omega arith)).kept;
      kept = k;
      is = ap (λ (x : A). el c.prime.m back * (x * el c.prime.m (at next j).f)) (i.before j (omega arith)).is ∙ ap (λ (x : A). el c.prime.m back * x) (sym prods_last) ∙ e;
    }

    pub prods_less : (back back' : Residue) → el c.prime.m back * prods next n ≡ 𝟙 → el c.prime.m back' ≡ el c.prime.m back * el c.prime.m (at next j).f → el c.prime.m back' * prods next j ≡ 𝟙
    prods_less back back' e e' = ap (λ (x : A). x * prods next j) e' ∙ ring (zmod c.prime.m.p) (el c.prime.m back ∷ el c.prime.m (at next j).f ∷ prods next j ∷ []) (search quote depth 40) refl
        ∙ ap (λ (x : A). el c.prime.m back * x) (sym prods_last) ∙ e

module _ (c : Curve) where
  abbrev P : Type 0
  P = Pair (modulo c.prime.m.p)

  infixl 65 ◌⊕◌
  abbrev ◌⊕◌ : P → P → P
  a ⊕ b = sum (curve_of c) a b

  waiting_holds : {sums : List Divisor} {next : List Waiting} {n : ℕ} {t : P} → Row c sums next n t → AllHold c (waiter next) n
  waiting_holds i k l = (i.wait k l).holds

  pub row_valid : {sums : List Divisor} {next : List Waiting} {n : ℕ} {t : P} → Row c sums next n t → Valid (curve_of c) t
  row_valid {sums} {next} {n} i = subst (Valid (curve_of c)) (sym i.is) (sum_valid (curve_of c) (accepted c) (together c (lane sums) 16) (together c (waiter next) n)
      (together_valid c (lane sums) 16 i.hold) (together_valid c (waiter next) n (waiting_holds i)))

  -- nothing yet
  nothing : (n : ℕ) → together c (λ k. Neutral) n ≡ neutral
  nothing zero = refl
  nothing (suc n) = ap₂ ◌⊕◌ (nothing n) (neutral_is c.prime.m) ∙ neutral_sum (curve_of c) (accepted c) neutral (neutral_valid (curve_of c))

  pub row_begin : (z : Divisor) → z ≡ Neutral → (w : Waiting) → Row c (replicate 16 z) (replicate 16 w) 0 neutral
  row_begin z e w = record {
    lanes = refl;
    long = refl;
    few = omega arith;
    hold = λ k l. subst (Holds c) (sym (at_lane k l)) (neutral-holds c);
    wait = λ k l. absurd (omega arith);
    before = λ k l. absurd (omega arith);
    is = sym (ap (λ (x : P). x ⊕ neutral) (together_same c (lane (replicate 16 z)) (λ k. Neutral) 16 (λ k l. ap (pair c.prime.m) (at_lane k l)) ∙ nothing 16) ∙ neutral_sum (curve_of c) (accepted c) neutral (neutral_valid (curve_of c)));
  }
    where
      at_lane : (k : ℕ) → k < 16 → lane (replicate 16 z) k ≡ Neutral
      at_lane k l = get_or-replicate 16 k z Neutral l ∙ e

  module _ {sums : List Divisor} {next : List Waiting} {n : ℕ} {t : P} (i : Row c sums next n t) where
    abbrev A : P
    A = together c (lane sums) 16

    abbrev B : P
    B = together c (waiter next) n

    va : Valid (curve_of c) A
    va = together_valid c (lane sums) 16 i.hold

    vb : Valid (curve_of c) B
    vb = together_valid c (waiter next) n (waiting_holds i)

    -- one more waits
    pub row_more : n < 16 → (w : Waiting) → Waits c (lane sums n) w → Stands c.prime.m w.before (prods c next n) → Row c sums (set next n w) (n + 1) (t ⊕ pair c.prime.m w.d)
    row_more l w hw hb = record {
      lanes = i.lanes;
      long = length-set next n w ∙ i.long;
      few = omega arith;
      hold = i.hold;
      wait = below_more (λ k. Waits c (lane sums k) (at (set next n w) k)) n
          (λ k j. subst (Waits c (lane sums k)) (sym (put_other c next n w room k j)) (i.wait k j))
          (subst (Waits c (lane sums n)) (sym (put_same c next n w room)) hw);
      before = below_more (λ k. Stands c.prime.m (at (set next n w) k).before (prods c (set next n w) k)) n
          (λ k j. subst (λ (x : (zmod c.prime.m.p).El). Stands c.prime.m (at (set next n w) k).before x) (sym (kept_prods c next n w room k (omega arith)))
          (subst (λ (x : Waiting). Stands c.prime.m x.before (prods c next k)) (sym (put_other c next n w room k j)) (i.before k j)))
          (subst (λ (x : (zmod c.prime.m.p).El). Stands c.prime.m (at (set next n w) n).before x) (sym (kept_prods c next n w room n (omega arith)))
          (subst (λ (x : Waiting). Stands c.prime.m x.before (prods c next n)) (sym (put_same c next n w room)) hb));
      is = ap (λ (x : P). x ⊕ pair c.prime.m w.d) i.is ∙ sum_assoc (curve_of c) (accepted c) A B (pair c.prime.m w.d) va vb hw.holds.valid ∙ ap (λ (x : P). A ⊕ x) added;
    }
      where
        room : n < length next
        room = omega (arith, i.long)

        added : B ⊕ pair c.prime.m w.d ≡ together c (waiter (set next n w)) (n + 1)
        added = ap₂ ◌⊕◌ (together_same c (waiter next) (waiter (set next n w)) n (λ k j. ap (λ (x : Waiting). pair c.prime.m x.d) (sym (put_other c next n w room k j))))
            (ap (λ (x : Waiting). pair c.prime.m x.d) (sym (put_same c next n w room))) ∙ ap (together c (waiter (set next n w))) {x = suc n} {y = n + 1} (omega arith)

    -- the last goes into its lane
    pub row_less : (j : ℕ) → j + 1 ≡ n → (r : Divisor) → Gives c r (pair c.prime.m (lane sums j) ⊕ pair c.prime.m (waiter next j)) → Row c (set sums j r) next j t
    row_less j last r g = record {
      lanes = length-set sums j r ∙ i.lanes;
      long = i.long;
      few = omega (arith, i.few);
      hold = λ k l. stays (ℕ_discrete k j) l;
      wait = λ k l. subst (λ (x : Divisor). Waits c x (at next k)) (sym (other k (λ q. omega arith))) (i.wait k (omega arith));
      before = λ k l. i.before k (omega arith);
      is = i.is ∙ ap (λ (x : P). A ⊕ x) (ap (together c (waiter next)) {x = n} {y = suc j} (omega arith)) ∙ moved;
    }
      where
        inside : j < 16
        inside = omega (arith, i.few)

        same : lane (set sums j r) j ≡ r
        same = get_or-set_same sums j r Neutral (omega (arith, i.lanes, i.few))

        other : (k : ℕ) → (k ≡ j → ⊥) → lane (set sums j r) k ≡ lane sums k
        other k q = get_or-set_other sums j k r Neutral q

        stays : {k : ℕ} → Dec (k ≡ j) → k < 16 → Holds c (lane (set sums j r) k)
        stays {k} (yes q) l = subst (λ (x : ℕ). Holds c (lane (set sums j r) x)) (sym q) (subst (Holds c) (sym same) g.holds)
        stays {k} (no q) l = subst (Holds c) (sym (other k q)) (i.hold k l)

        d : P
        d = pair c.prime.m (waiter next j)

        vd : Valid (curve_of c) d
        vd = (i.wait j (omega arith)).holds.valid

        low : Valid (curve_of c) (together c (waiter next) j)
        low = together_valid c (waiter next) j (λ k l. (i.wait k (omega arith)).holds)

        moved : A ⊕ (together c (waiter next) j ⊕ d) ≡ together c (lane (set sums j r)) 16 ⊕ together c (waiter next) j
        moved = ap (λ (x : P). A ⊕ x) (sum_comm (curve_of c) (accepted c) (together c (waiter next) j) d low vd) ∙ sym (sum_assoc (curve_of c) (accepted c) A d (together c (waiter next) j) va vd low)
            ∙ ap (λ (x : P). x ⊕ together c (waiter next) j) (sym (raised c (lane sums) (lane (set sums j r)) d vd j 16 inside i.hold (ap (pair c.prime.m) same ∙ g.is) (λ k l q. ap (pair c.prime.m) (other k q))))

    -- those that wait and the lanes, added up
    pub row_total : (x y r : Divisor) → Gives c x B → Gives c y A → Gives c r (pair c.prime.m x ⊕ pair c.prime.m y) → Gives c r t
    row_total x y r gx gy gr = record { holds = gr.holds; is = gr.is ∙ ap₂ ◌⊕◌ gx.is gy.is ∙ sum_comm (curve_of c) (accepted c) B A vb va ∙ sym i.is }

    pub row_waiting : AllHold c (waiter next) n
    row_waiting = waiting_holds i
