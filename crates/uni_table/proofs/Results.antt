-- What holds of a result that is known to be one or the other.
use Rattle.std.proofs.Common.{◌≡◌, false}
use Rattle.std.specs.Prelude.{Result, Ok, Err, is_err, OnOk, OnErr}

pub at_ok : {T E Q : Type 0} (r : Result T E) → is_err r ≡ false → OnOk r Q → Q
at_ok (Ok x) is q = q
at_ok (Err e) is q = absurd cc

-- what holds anyhow
pub on_err : {T E Q : Type 0} (r : Result T E) → Q → OnErr r Q
on_err (Ok x) q = tt
on_err (Err e) q = q
