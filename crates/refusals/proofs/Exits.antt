-- What leaves a function by `?`.
use Rattle.std.specs.Prelude.{◌≡◌, Option, Some, None, Result, Ok, Err, ok_or, IsErrAnd}
use Rattle.std.proofs.Common.{refl, sym}
use Rattle.std.proofs.lemmas.Result.{err_from_is_err_and}

ok_or_err : {T E : Type 0} (o : Option T) (e d : E) → Err d ≡ ok_or o e → (o ≡ None) × (d ≡ e)
ok_or_err None e d h = (refl, cc)
ok_or_err (Some x) e d h = absurd (cc)

-- behind `ok_or`: there was nothing, and the error is the one given
pub exit_none : {T U E : Type 0} (o : Option T) (e : E) {d : E} (r : Result U E) → Err d ≡ ok_or o e → IsErrAnd r (λ y. y ≡ d) → (o ≡ None) × (r ≡ Err e)
exit_none o e {d} r h q = let n = ok_or_err o e d h in let p = err_from_is_err_and r q in (n.0, rw (p.1, p.2, n.1))

-- behind a `Result` of the same error: it is handed on
pub exit_err : {U E : Type 0} {d : E} (r : Result U E) → IsErrAnd r (λ y. y ≡ d) → r ≡ Err d
exit_err r q = let p = err_from_is_err_and r q in rw (p.1, p.2)
