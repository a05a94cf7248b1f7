-- What holds of a result, or by a flag.
use Rattle.std.specs.Bool.{OnFalse}
use Rattle.std.specs.Prelude.{Bool, Err, Ok, OnOk, Result, false, ◌≡◌}
use Rattle.std.proofs.Common.{subst}

-- two facts of a success give a third
pub ok_from : {A E : Type 0} {P Q R : Type 0} (r : Result A E) → OnOk r P → OnOk r Q → (P → Q → R) → OnOk r R
ok_from (Ok x) p q f = f p q
ok_from (Err e) p q f = tt

-- one fact gives another
pub ok_weaker : {A E : Type 0} {P Q : Type 0} (r : Result A E) → OnOk r P → (P → Q) → OnOk r Q
ok_weaker (Ok x) p f = f p
ok_weaker (Err e) p f = tt

-- what holds where a flag is not set
pub when_false : (b : Bool) (P : Type 0) → OnFalse b P → b ≡ false → P
when_false b P on e = subst (λ x. OnFalse x P) e on
