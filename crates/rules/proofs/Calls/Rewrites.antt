-- The two calls that rewrite: the bytes they write are the bytes they read (`rewrite_curve_same`, `rewrite_divisor_same`).
use Prim.Native.Nat.{ℕ}
use mathlib.Core.Path.{◌≡◌, sym, ap, ◌∙◌}
use mathlib.Core.List.{List}
use Rattle.rules.specs.Records.{taken, CurveRecord, form_of, read_curve, curve_bytes, divisor_bytes}
use Rattle.rules.specs.Calls.{deliver, write, rewrite_curve, rewrite_divisor}
use Rattle.rules.proofs.Calls.Bytes.{AreBytes}
use Rattle.rules.proofs.Calls.CurveRecords.{accepts}
use Rattle.rules.proofs.Calls.CurveWritten.{curve_written}
use Rattle.rules.proofs.Calls.DivisorRecords.{divisor_written}
use Rattle.rules.proofs.Calls.Refusals.{on_taken}
use Rattle.rules.proofs.Calls.Written.{front, answered, front_is}
use Rattle.rules.proofs.Calls.Done.{rewrite_done, rewrite_curve_took, rewrite_took}

pub rewrite_curve_same : (s out : List ℕ) → AreBytes s → answered (rewrite_curve s out) ≡ 0 → front (rewrite_curve s out) ≡ s
unfolding rewrite_curve
rewrite_curve_same s out bytes e = let t = rewrite_curve_took s out e in go t.0 t.1
  where
    go : (c : CurveRecord) → read_curve s ≡ taken c → front (rewrite_curve s out) ≡ s
    go c ec = let is : rewrite_curve s out ≡ write out (curve_bytes c (form_of s)) = ap (deliver tt out) (on_taken _ _ ec) in
        ap front is ∙ front_is out (curve_bytes c (form_of s)) (ap answered (sym is) ∙ e) ∙ curve_written s bytes ec

pub rewrite_divisor_same : (s a out : List ℕ) → AreBytes a → answered (rewrite_divisor s a out) ≡ 0 → front (rewrite_divisor s a out) ≡ a
rewrite_divisor_same s a out bytes e = let t = rewrite_took s a out e in go t.0 t.1
  where
    go : (c : CurveRecord) → read_curve s ≡ taken c → front (rewrite_divisor s a out) ≡ a
    go c ec = let m = rewrite_done s a out ec e in
        ap front m.is ∙ front_is out (divisor_bytes c.p m.x) (ap answered (sym m.is) ∙ e) ∙ divisor_written c (accepts s ec) 1 a bytes m.a_is
