-- What holds of a value that is answered.
use Rattle.std.proofs.Common.{Result, Ok, Err}
use Rattle.std.specs.Prelude.{IfOk, OnOk}

pub if_ok_weaker : {A E : Type 0} {P Q : A → Type 0} (r : Result A E) → ((a : A) → P a → Q a) → IfOk r P → IfOk r Q
if_ok_weaker (Ok a) weaker holds = weaker a holds
if_ok_weaker (Err e) weaker holds = tt

-- two facts of one success
pub on_ok_both : {A E : Type 0} {P Q R : Type 0} (r : Result A E) → (P → Q → R) → OnOk r P → OnOk r Q → OnOk r R
on_ok_both (Ok a) both p q = both p q
on_ok_both (Err e) both p q = tt
