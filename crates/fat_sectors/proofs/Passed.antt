-- What holds, holds of a refusal.
use Rattle.std.specs.Prelude.{Result, Ok, Err, OnErr}
use Rattle.refusals.specs.declared.Refusal.{Refusal}

pub on-err : {T P : Type 0} (r : Result T Refusal) → P → OnErr r P
on-err (Ok b) p = tt
on-err (Err x) p = p
