-- The first repeat by chains of places. Gives: what a good record's bytes say (`whole`, `same_us`: two of the same meter have the same u there), so that such two stand in one chain
-- (`same_bucket`); what the arrays hold keeps so (`chained_begin`, `chained_turn`); a walk down the chain of the one at j leaves none behind that is the same (`walk_begin`,
-- `walk_turn`); what it ends at is the first (`found_first`: before j no two are the same, so at most one is as j is).
use Prim.Native.Nat.{ℕ, suc, ◌+◌, ◌≤◌, ◌<◌}
use mathlib.Core.Path.{◌≡◌, sym, ap, ◌∙◌, subst, subst₂}
use mathlib.Core.Bool.{Bool, false}
use mathlib.Core.List.{List}
use native.Mathlib.Omega.{arith}
use native.Mathlib.Decide.{ℕ_discrete, dec_lt}
use borrow.Author.Count.{below_more}
use borrow.Author.Tests.{leb-true}
use lib.ListN.{get_or, length, set, replicate, length-set, length-replicate, get_or-replicate}
use lib.Seq.{get_or-set_same, get_or-set_other}
use Rattle.algebra.proofs.Zmod.PrimeField.{modulo}
use Rattle.rules.specs.Checks.{Checked, refused, taken}
use Rattle.rules.specs.Pair.{neutral}
use Rattle.rules.specs.Records.{PairOf, us_at, numbers, divisor_at}
use Rattle.rules.specs.First.{Clear, FirstIs}
use Rattle.rules.specs.Lists.{Same}
use Rattle.rules.proofs.Calls.Same.{same_sym, same_trans}
use Rattle.rules.proofs.Calls.Tests.{both_true}
use Rattle.rules.proofs.Calls.Elements.{numbers_elements}
use Rattle.rules.proofs.Calls.DivisorRecords.{pair_at_row, DivisorBytes, divisor_read}
use Rattle.field.specs.Primes.{Decides}
use Rattle.std.specs.Prelude.{Ok, Err}
use Rattle.refusals.specs.declared.Refusal.{Refusal}
use Rattle.divisor.specs.declared.Divisor.{Divisor}
use Rattle.divisor.specs.Divisors.{pair}
use Rattle.curve.specs.declared.Curve.{Curve}
use Rattle.curve.specs.Record.{record_of}
use Rattle.record_divisor.specs.Read.{DivisorIs}
use Rattle.divisor_repeat.proofs.alike.Compared.{same_u}
use Rattle.call_batch.specs.repeat.Chains.{chain_of, Whole, Excludes}
use Rattle.call_batch.specs.repeat.Rows.{taken_or, pair_at, SameAs, SameIn, Row, Rows}

-- ---- a good record, and a record read again
module _ (c : Curve) (s : List ℕ) where
  bytes_of : (a : ℕ) → Row c s a → DivisorBytes (record_of c) false s a
  bytes_of a r = (divisor_read (record_of c) 0 false s a (r.is 0)).0

  pub whole : (a : ℕ) → Row c s a → Whole s a
  whole a r = let b = bytes_of a r in record { inside = b.inside; long = leb-true _ _ b.long }

  pub stands : (a : ℕ) {d : PairOf (record_of c)} → ((n : ℕ) → divisor_at (record_of c) n false s a ≡ taken d) → pair_at c s a ≡ d
  stands a h = ap (taken_or neutral) (h 0)

  pair_is : (a : ℕ) → Row c s a → pair_at c s a ≡ pair_at_row (record_of c) s a
  pair_is a r = stands a r.is ∙ sym (divisor_read (record_of c) 0 false s a (r.is 0)).1

  pub same_us : (a b : ℕ) → Row c s a → Row c s b → SameAs c s a b → us_at s a ≡ us_at s b
  same_us a b x y e = sym (number a x) ∙ ap (numbers c.prime.m.p) (same_u (modulo c.prime.m.p) _ _ (subst₂ Same (pair_is a x) (pair_is b y) e)) ∙ number b y
    where
      number : (a : ℕ) → Row c s a → numbers c.prime.m.p (pair_at_row (record_of c) s a).u ≡ us_at s a
      number a x = numbers_elements c.prime.m.p (omega (arith, c.prime.m.odd)) (us_at s a) (both_true _ _ (bytes_of a x).below).0

  pub not_same : (a b : ℕ) → Row c s a → Row c s b → (t : Bool) → Excludes t (us_at s a ≡ us_at s b) → t ≡ false → SameAs c s a b → ⊥
  not_same a b x y t ex e same = subst (λ (t : Bool). Excludes t (us_at s a ≡ us_at s b)) e ex (same_us a b x y same)

  was_taken : Checked (PairOf (record_of c)) → ℕ
  was_taken (refused n k) = 0
  was_taken (taken x) = 1

  -- a good record isn't refused
  pub not_refused : (a : ℕ) (by : Refusal) → Row c s a → DivisorIs c false s a (Err by) → ⊥
  unfolding was_taken
  not_refused a by row is = omega (arith, ap was_taken (sym (row.is 0) ∙ is 0))

  -- what was read at both
  pub read_both : (a b : ℕ) {d e : Divisor} → DivisorIs c false s a (Ok d) → DivisorIs c false s b (Ok e) → (x : Bool) → Decides x (Same (pair c.prime.m d) (pair c.prime.m e)) → Decides x (SameAs c s a b)
  read_both a b hd he x h = subst₂ (λ u v. Decides x (Same u v)) (sym (stands a hd.1)) (sym (stands b he.1)) h

-- ---- the chains
module _ (s places : List ℕ) where
  abbrev pub bucket : ℕ → ℕ
  bucket x = chain_of (us_at s (get_or places x 0))

  -- h is 1 and the latest place before n in this bucket, 0 where there is none
  pub record Latest (b n h : ℕ) : Type 0 where
    pub on : h ≤ n
    pub is : (y : ℕ) → h ≡ suc y → bucket y ≡ b
    pub none : (x : ℕ) → h ≤ x → x < n → bucket x ≡ b → ⊥

  pub record Chained (head before : List ℕ) (j : ℕ) : Type 0 where
    pub head_long : length head ≡ 4096
    pub before_long : length before ≡ 4096
    pub heads : (b : ℕ) → b < 4096 → Latest b j (get_or head b 0)
    pub links : (x : ℕ) → x < j → Latest (bucket x) x (get_or before x 0)

  pub chained_begin : Chained (replicate 4096 0) (replicate 4096 0) 0
  chained_begin = record {
    head_long = length-replicate {A = ℕ} 4096 0;
    before_long = length-replicate {A = ℕ} 4096 0;
    heads = λ b l. subst (Latest b 0) (sym (get_or-replicate {A = ℕ} 4096 b 0 0 l)) (record { on = omega arith; is = λ y e. absurd (omega (arith, e)); none = λ x lo hi e. omega arith });
    links = λ x l. absurd (omega arith);
  }

  later : (b j h : ℕ) → Latest b j h → (bucket j ≡ b → ⊥) → Latest b (j + 1) h
  later b j h l n = record { on = omega (arith, l.on); is = l.is; none = λ x lo hi e. at_last (ℕ_discrete x j) lo hi e }
    where
      at_last : {x : ℕ} → Dec (x ≡ j) → h ≤ x → x < j + 1 → bucket x ≡ b → ⊥
      at_last (yes p) lo hi e = n (sym (ap bucket p) ∙ e)
      at_last {x} (no p) lo hi e = l.none x lo (omega (arith, p, hi)) e

  newest : (j : ℕ) → Latest (bucket j) (j + 1) (j + 1)
  newest j = record { on = omega arith; is = λ y e. ap bucket {x = y} {y = j} (omega (arith, e)); none = λ x lo hi e. omega arith }

  pub chained_turn : (head before : List ℕ) (j b last : ℕ) → j < 4096 → b < 4096 → Chained head before j → b ≡ bucket j → last ≡ get_or head b 0 → Chained (set head b (j + 1)) (set before j last) (j + 1)
  chained_turn head before j b last room lb h eb el = record {
    head_long = length-set head b (j + 1) ∙ h.head_long;
    before_long = length-set before j last ∙ h.before_long;
    heads = λ t l. new_head t l (ℕ_discrete t b);
    links = below_more (λ x. Latest (bucket x) x (get_or (set before j last) x 0)) j
        (λ x l. subst (Latest (bucket x) x) (sym (get_or-set_other before j x last 0 (λ p. omega (arith, p, l)))) (h.links x l))
        (subst (Latest (bucket j) j) (sym (get_or-set_same before j last 0 (omega (arith, h.before_long, room)) ∙ el)) (subst (λ (t : ℕ). Latest t j (get_or head b 0)) eb (h.heads b lb)));
  }
    where
      new_head : (t : ℕ) → t < 4096 → Dec (t ≡ b) → Latest t (j + 1) (get_or (set head b (j + 1)) t 0)
      new_head t l (yes p) = subst (λ (u : ℕ). Latest u (j + 1) (get_or (set head b (j + 1)) u 0)) (sym p)
          (subst (Latest b (j + 1)) (sym (get_or-set_same head b (j + 1) 0 (omega (arith, h.head_long, lb)))) (subst (λ (u : ℕ). Latest u (j + 1) (j + 1)) (sym eb) (newest j)))
      new_head t l (no p) = subst (Latest t (j + 1)) (sym (get_or-set_other head b t (j + 1) 0 p)) (later t j (get_or head t 0) (h.heads t l) (λ e. p (sym (eb ∙ e))))

-- ---- a walk
pub same_bucket : (c : Curve) (s places : List ℕ) (n : ℕ) → Rows c s places n → (x y : ℕ) → x < n → y < n → SameIn c s places x y → bucket s places x ≡ bucket s places y
same_bucket c s places n rows x y lx ly e = ap chain_of (same_us c s _ _ (rows.row x lx) (rows.row y ly) e)

-- under way at i: none from there on is as j is
pub record Walk (c : Curve) (s places : List ℕ) (j i : ℕ) : Type 0 where
  pub on : i ≤ j
  pub is : (y : ℕ) → i ≡ suc y → bucket s places y ≡ bucket s places j
  pub none : (x : ℕ) → i ≤ x → x < j → SameIn c s places x j → ⊥

module _ (c : Curve) (s places : List ℕ) (n : ℕ) (rows : Rows c s places n) (head before : List ℕ) (j : ℕ) (lj : j < n) (h : Chained s places head before j) where
  pub walk_begin : (b i : ℕ) → b < 4096 → b ≡ bucket s places j → i ≡ get_or head b 0 → Walk c s places j i
  walk_begin b i lb eb ei =
      let l : Latest s places (bucket s places j) j i = subst₂ (λ (t u : ℕ). Latest s places t j u) eb (sym ei) (h.heads b lb) in
      record { on = l.on; is = l.is; none = λ x lo hi q. l.none x lo hi (same_bucket c s places n rows x j (omega (arith, hi, lj)) lj q) }

  pub walk_turn : (i x i' : ℕ) → Walk c s places j i → i ≡ suc x → (SameIn c s places x j → ⊥) → i' ≡ get_or before x 0 → Walk c s places j i'
  walk_turn i x i' w ex no-x ei =
      let l : Latest s places (bucket s places x) x i' = subst (Latest s places (bucket s places x) x) (sym ei) (h.links x (omega (arith, w.on, ex))) in
      record {
        on = omega (arith, l.on, w.on, ex);
        is = λ y e. l.is y e ∙ w.is x ex;
        none = λ t lo hi q. by_side l t (dec_lt t x) (ℕ_discrete t x) lo hi q;
      }
    where
      by_side : Latest s places (bucket s places x) x i' → (t : ℕ) → Dec (t < x) → Dec (t ≡ x) → i' ≤ t → t < j → SameIn c s places t j → ⊥
      by_side l t (yes p) q lo hi e = l.none t lo p (same_bucket c s places n rows t j (omega (arith, hi, lj)) lj e ∙ sym (w.is x ex))
      by_side l t (no p) (yes q) lo hi e = no-x (subst (λ (u : ℕ). SameIn c s places u j) q e)
      by_side l t (no p) (no q) lo hi e = w.none t (omega (arith, p, q, ex)) hi e

pub found_first : (c : Curve) (s places : List ℕ) (n x j : ℕ) → x < j → j < n → Clear (SameIn c s places) j → SameIn c s places x j → FirstIs (SameIn c s places) n (record { first = x + 1; second = j + 1 })
found_first c s places n x j lx lj clear same = subst₂ (λ a b. FirstIs (SameIn c s places) n (record { first = a; second = b })) {x = suc x} {y = x + 1} {u = suc j} {v = j + 1} (omega arith) (omega arith) (record {
  within = lj;
  before = lx;
  same = same;
  least_j = clear;
  least_i = λ a l q. clear x lx a l (same_trans (modulo c.prime.m.p) _ _ _ q (same_sym (modulo c.prime.m.p) _ _ same));
})
