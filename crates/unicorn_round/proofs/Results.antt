-- What holds of a result that is known to be one or the other.
use Rattle.std.proofs.Common.{◌≡◌, true, false, Option, Some, IfSome, subst}
use Rattle.std.specs.Prelude.{Result, Ok, Err, is_err, IfOk, OnOk, OnErr}

pub at_err : {T E Q : Type 0} (r : Result T E) → is_err r ≡ true → OnErr r Q → Q
at_err (Ok x) is q = absurd cc
at_err (Err e) is q = q

pub at_ok : {T E Q : Type 0} (r : Result T E) → is_err r ≡ false → OnOk r Q → Q
at_ok (Ok x) is q = q
at_ok (Err e) is q = absurd cc

-- what holds of a value that is there
pub at_some : {X : Type 0} (P : X → Type 0) (o : Option X) (x : X) → o ≡ Some x → IfSome o P → P x
at_some P o x is says = subst (λ r. IfSome r P) is says

-- what holds anyhow, and what follows of a value
pub on_ok : {T E Q : Type 0} (r : Result T E) → Q → OnOk r Q
on_ok (Ok x) q = q
on_ok (Err e) q = tt

pub if_ok : {T E : Type 0} (P Q : T → Type 0) (r : Result T E) → ((x : T) → P x → Q x) → IfOk r P → IfOk r Q
if_ok P Q (Ok x) goes says = goes x says
if_ok P Q (Err e) goes says = tt

-- two things that hold of a value
pub both_ok : {T E : Type 0} (P Q : T → Type 0) (r : Result T E) → IfOk r P → IfOk r Q → IfOk r (λ x. P x × Q x)
both_ok P Q (Ok x) p q = (p, q)
both_ok P Q (Err e) p q = tt

pub at_if_ok : {T E : Type 0} (P : T → Type 0) (r : Result T E) (x : T) → r ≡ Ok x → IfOk r P → P x
at_if_ok P r x is says = subst (λ q. IfOk q P) is says
