-- What is said of a value, or of an end that went well, says nothing of an error.
use Rattle.std.proofs.Common.{◌≡◌, true, Result, Ok, Err, IfOk, OnOk, is_err, true≢false, sym}

pub no_value : {T E : Type 0} (r : Result T E) (P : T → Type 0) → is_err r ≡ true → IfOk r P
no_value (Ok x) P e = absurd (true≢false (sym e))
no_value (Err y) P e = tt

pub no_end : {T E : Type 0} (r : Result T E) (P : Type 0) → is_err r ≡ true → OnOk r P
no_end (Ok x) P e = absurd (true≢false (sym e))
no_end (Err y) P e = tt
