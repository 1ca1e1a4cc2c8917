-- What holds of the results of calls.
use Rattle.std.specs.Prelude.{Result, Ok, Err, IfErr, IsErrAnd}

pub err_then : {T E : Type 0} (P Q : E → Type 0) (r : Result T E) → IsErrAnd r P →
    ((e : E) → P e → Q e) → IfErr r Q
err_then P Q (Ok x) is then = tt
err_then P Q (Err e) is then = then e is
