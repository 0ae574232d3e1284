-- W-213: what the call that splits answers. Gives: 26 exactly where the weight is below 2 or u has no root (`split_26`); what is written where it answers 0, read back and added, is the divisor (`split_done`,
-- `split_add`). Of weight 2, the part comes first with the smaller u_0 (`part_first`), and both are equal at a double root (`parts_equal`).
use Prim.Native.Nat.{ℕ, ◌+◌, ◌*◌, ◌≤◌, ◌<◌}
use mathlib.Core.Path.{◌≡◌, sym, ap, ◌∙◌}
use mathlib.Core.List.{List, [], ◌∷◌, ◌++◌}
use mathlib.Core.Bool.{true}
use mathlib.Core.Logic.{◌↔◌, ◌⊎◌, inl, inr}
use native.Mathlib.Omega.{arith}
use lib.ListN.{length, take, drop, length-append}
use lib.Seq.{take_at, drop_at}
use Rattle.algebra.proofs.Ring.CRing.{CRing, neg_neg, add_neg, mul-one}
use Rattle.algebra.proofs.Zmod.Zmod.{zmod, num}
use Rattle.algebra.proofs.Zmod.PrimeField.{modulo}
use Rattle.algebra.proofs.List.Value.{mon}
use Rattle.rules.specs.Roots.Roots.{value}
use Rattle.rules.proofs.Roots.Value.{ev, root_factor, value_is}
use Rattle.rules.specs.Curve.{Kx}
use Rattle.rules.specs.Pair.{Pair, Valid}
use Rattle.rules.specs.Checks.{refused, taken, go_on}
use Rattle.rules.specs.Records.{CurveRecord, curve, PairOf, read_curve, read_divisor, divisor_bytes}
use Rattle.rules.specs.Split.{part_at, rest_at, split_root}
use Rattle.rules.specs.Calls.{stop, deliver, write, add_call, rewrite_divisor, split_result, split_call}
use Rattle.rules.proofs.Demand3.{square_free_test}
use Rattle.rules.proofs.Cantor.Accepted.{OverField, Accepted, accepted_mod_p}
use Rattle.rules.proofs.Cantor.Split.{product_is, rest_is, part_valid, rest_valid, part_weight, rest_weight, split_sum}
use Rattle.rules.proofs.Calls.CurveRecords.{Accepts, accepts}
use Rattle.rules.proofs.Calls.DivisorRecords.{divisor_valid, divisor_reread, length_divisor}
use Rattle.rules.proofs.Calls.Tests.{refused_taken}
use Rattle.rules.proofs.Calls.Refusals.{on_taken, on_refused, curve_numbered, divisor_numbered}
use Rattle.rules.proofs.Calls.Delivered.{came_on}
use Rattle.rules.proofs.Calls.Written.{Written, front, answered, front_is}
use Rattle.rules.proofs.Calls.Taken.{one_is, add_is}
use Rattle.rules.proofs.Calls.Reached.{TookBoth, through, both_as, both_reached, refused_here, put_says}
use Rattle.rules.proofs.Calls.SplitRoots.{SplitAt, NoSplit, split_view, split_at, split_none}

pub pos_of : (c : CurveRecord) → Accepts c → 0 < c.p
pos_of c ok = omega (arith, ok.prime.odd)

accepted_of : (c : CurveRecord) → Accepts c → Accepted (curve c)
accepted_of c ok = let o = ok.prime in accepted_mod_p c.p c.g c.low o.is o.odd ok.odd ((square_free_test c.p o.is c.g c.low).0 ok.free)

module _ (s a : List ℕ) {c : CurveRecord} (ec : read_curve s ≡ taken c) {x : PairOf c} (ea : read_divisor c 1 a ≡ taken x) (out : List ℕ) where
  pos : 0 < c.p
  pos = pos_of c (accepts s ec)

  came_to : split_call s a out ≡ deliver tt out (go_on (split_root c.p x) (λ y. taken (split_result c x y)))
  unfolding split_call
  came_to = ap (deliver tt out) (on_taken _ _ ec ∙ on_taken _ _ ea)

  pub split_refuses : NoSplit c.p x → split_call s a out ≡ stop tt out 26 0
  split_refuses n = came_to ∙ ap (deliver tt out) (on_refused _ _ (split_none c.p x pos n))

  pub split_writes : (y : (zmod c.p).El) → SplitAt c.p x y → split_call s a out ≡ write out (split_result c x y).bytes
  split_writes y h = came_to ∙ ap (deliver tt out) (on_taken _ _ (split_at c.p x pos y h))

  pub rewrite_is : rewrite_divisor s a out ≡ write out (divisor_bytes c.p x)
  unfolding rewrite_divisor
  rewrite_is = one_is s ec a ea out (λ c x. x)

-- 26 exactly where the weight is below 2 or u has no root, what is checked before passing
abbrev pub Unsplit : List ℕ → List ℕ → Type 0
Unsplit s a = TookBoth s a (λ c x. NoSplit c.p x)

-- the root, where it isn't refused
root-given : (p : ℕ) (x : Pair (modulo p)) → 0 < p → ((k : ℕ) × (split_root p x ≡ refused 26 k)) ↔ NoSplit p x
root-given p x pos = (λ t. go (split_view p x pos) t.1, λ n. (0, split_none p x pos n))
  where
    go : ((y : (zmod p).El) × (SplitAt p x y × (split_root p x ≡ taken y))) ⊎ (NoSplit p x × (split_root p x ≡ refused 26 0)) → {k : ℕ} → split_root p x ≡ refused 26 k → NoSplit p x
    go (inl (y, (h, q))) e = absurd (refused_taken (sym e ∙ q))
    go (inr (n, q)) e = n

pub split_26 : (s a out : List ℕ) → (answered (split_call s a out) ≡ 26) ↔ Unsplit s a
unfolding split_call
split_26 s a out = through (both_reached tt out 26 (omega arith) (λ e. omega arith) s a _) (both_as s a (λ c ec x ea.
    through (refused_here tt out 26 (split_root c.p x) _ (λ y q. put_says tt out 26 (λ e. omega arith) (λ e. omega arith) (split_result c x y))) (root-given c.p x (pos_of c (accepts s ec)))))

-- 0: what was written, read back
pub record SplitDone (s a : List ℕ) (w : Written) : Type 0 where
  pub c : CurveRecord
  pub s_is : read_curve s ≡ taken c
  pub x : PairOf c
  pub a_is : read_divisor c 1 a ≡ taken x
  pub y : (zmod c.p).El
  pub at : SplitAt c.p x y
  pub is : front w ≡ divisor_bytes c.p (part_at (modulo c.p) y x) ++ divisor_bytes c.p (rest_at (modulo c.p) y x)
  pub long : length (front w) ≡ 2 + 16 * length x.u
  pub first : (k : ℕ) → read_divisor c k (take 17 (front w)) ≡ taken (part_at (modulo c.p) y x)
  pub second : (k : ℕ) → read_divisor c k (drop 17 (front w)) ≡ taken (rest_at (modulo c.p) y x)

module _ (s a out : List ℕ) where
  pub split_done : answered (split_call s a out) ≡ 0 → SplitDone s a (split_call s a out)
  unfolding split_call
  split_done e =
      let t = came_on tt out (read_curve s) _ (curve_numbered s) e in
      let d = came_on tt out (read_divisor t.0 1 a) _ (divisor_numbered t.0 1 true a 0) t.2 in
      go t.0 t.1 d.0 d.1 d.2 (split_view t.0.p d.0 (pos_of t.0 (accepts s t.1)))
    where
      go : (c : CurveRecord) → read_curve s ≡ taken c → (x : PairOf c) → read_divisor c 1 a ≡ taken x → answered (deliver tt out (go_on (split_root c.p x) (λ y. taken (split_result c x y)))) ≡ 0
          → ((y : (zmod c.p).El) × (SplitAt c.p x y × (split_root c.p x ≡ taken y))) ⊎ (NoSplit c.p x × (split_root c.p x ≡ refused 26 0)) → SplitDone s a (split_call s a out)
      go c ec x ea z (inr (n, q)) = absurd (none_is (sym (ap (λ t. answered (deliver tt out t)) (on_refused (split_root c.p x) (λ y. taken (split_result c x y)) q)) ∙ z))
        where
          none_is : answered (stop (tt {0}) out 26 0) ≡ 0 → ⊥
          none_is r = omega arith
      go c ec x ea z (inl (y, (h, q))) = record {
        c = c;
        s_is = ec;
        x = x;
        a_is = ea;
        y = y;
        at = h;
        is = whole;
        long = ap length whole ∙ sized;
        first = λ k. ap (read_divisor c k) (ap (take 17) whole ∙ take_at one two 17 long_one) ∙ divisor_reread c ok (part_at (modulo c.p) y x) pv k;
        second = λ k. ap (read_divisor c k) (ap (drop 17) whole ∙ drop_at one two 17 long_one) ∙ divisor_reread c ok (rest_at (modulo c.p) y x) rv k;
      }
        where
          ok : Accepts c
          ok = accepts s ec

          v : Valid (curve c) x
          v = divisor_valid c 1 true a 0 ea

          pv : Valid (curve c) (part_at (modulo c.p) y x)
          pv = part_valid (curve c) (accepted_of c ok) x v y h.root

          rv : Valid (curve c) (rest_at (modulo c.p) y x)
          rv = rest_valid (curve c) (accepted_of c ok) x v y h.root

          one : List ℕ
          one = divisor_bytes c.p (part_at (modulo c.p) y x)

          two : List ℕ
          two = divisor_bytes c.p (rest_at (modulo c.p) y x)

          whole : front (split_call s a out) ≡ one ++ two
          whole = ap front (split_writes s a ec ea out y h) ∙ front_is out (one ++ two) (ap answered (sym (split_writes s a ec ea out y h)) ∙ e)

          long_one : length one ≡ 17
          long_one = length_divisor c ok (part_at (modulo c.p) y x) pv ∙ ap (λ (n : ℕ). 1 + 16 * n) (part_weight (curve c) (accepted_of c ok).over x y h.root)

          sized : length (one ++ two) ≡ 2 + 16 * length x.u
          sized = omega (arith, length-append one two, long_one, length_divisor c ok (rest_at (modulo c.p) y x) rv, rest_weight (curve c) (accepted_of c ok).over x y h.root)

  -- adding what was written gives the divisor back
  pub split_add : answered (split_call s a out) ≡ 0 → (o : List ℕ) → add_call s (take 17 (front (split_call s a out))) (drop 17 (front (split_call s a out))) o ≡ rewrite_divisor s a o
  split_add e o = go (split_done e)
    where
      go : SplitDone s a (split_call s a out) → add_call s (take 17 (front (split_call s a out))) (drop 17 (front (split_call s a out))) o ≡ rewrite_divisor s a o
      go d = add_is s d.s_is _ (d.first 1) o _ (d.second 2)
          ∙ ap (λ (t : PairOf d.c). write o (divisor_bytes d.c.p t)) (split_sum (curve d.c) (accepted_of d.c (accepts s d.s_is)) d.x (divisor_valid d.c 1 true a 0 d.a_is) d.y d.at.root)
          ∙ sym (rewrite_is s a d.s_is d.a_is o)

-- ---- weight 2, in the ticket's words
at_own : (p : ℕ) (w : (zmod p).El) → value (zmod p) (w ∷ []) ((zmod p).neg w) ≡ (zmod p).zer
unfolding value
at_own p w = ap ((zmod p).add w) (mul-one (zmod p) ((zmod p).neg w)) ∙ add_neg (zmod p) w

module _ (c : CurveRecord) (ok : Accepts c) (x : PairOf c) (two : length x.u ≡ 2) (y : (zmod c.p).El) (at : SplitAt c.p x y) where
  abbrev F : CRing
  F = zmod c.p

  abbrev rest : PairOf c
  rest = rest_at (modulo c.p) y x

  over : OverField (curve c)
  over = (accepted_of c ok).over

  -- the rest's root is one of u
  root_of : (w : F.El) → rest.u ≡ w ∷ [] → value F x.u (F.neg w) ≡ F.zer
  root_of w e = value_is F (F.neg w) x.u
      ∙ root_factor F (F.neg w) (mon F rest.u) (mon F x.u) (record { factor = mon F (part_at (modulo c.p) y x).u; is = product_is (curve c) over x y at.root })
      (ap (λ (t : List F.El). ev F (F.neg w) (mon F t)) e ∙ sym (value_is F (F.neg w) (w ∷ [])) ∙ at_own c.p w)

  -- the one with the smaller u_0 comes first: x - y has u_0 = -y
  pub part_first : (w : F.El) → rest.u ≡ w ∷ [] → num c.p (F.neg y) ≤ num c.p w
  part_first w e = omega (arith, at.smaller two (F.neg w) (root_of w e), ap (num c.p) (neg_neg F w))

  -- equal ones where u has a double root
  pub parts_equal : mon F x.u ≡ (Kx (curve c)).mul (mon F (F.neg y ∷ [])) (mon F (F.neg y ∷ [])) → rest ≡ part_at (modulo c.p) y x
  unfolding part_at
  parts_equal e = rest_is (curve c) over x y at.root (F.neg y ∷ []) (two ∙ omega arith) e
