-- What holds in any case holds where a call gave an error, or an answer.
use Rattle.std.specs.Prelude.{Result, Ok, Err, OnOk, OnErr}

pub on_err : {T E : Type 0} (P : Type 0) (r : Result T E) → P → OnErr r P
on_err P (Ok x) holds = tt
on_err P (Err e) holds = holds

pub always : {T E P : Type 0} (r : Result T E) → P → OnOk r P
always (Ok x) holds = holds
always (Err e) holds = tt
