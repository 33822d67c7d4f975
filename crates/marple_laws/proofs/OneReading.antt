-- A text has one reading alone.
use Rattle.marple_laws.proofs.Words.{Some, ap, same_Some, makes_one, not_refused, says_one, TextsAreReadOnce}
use Rattle.std.specs.Prelude.{Ok, Err}
use Rattle.plan_loader.proofs.OneFault.{one_fault}

pub read_once : TextsAreReadOnce
read_once text (Ok a) (Ok b) p q = ap Ok (says_one makes_one _ a b p q)
read_once text (Ok a) (Err f) p q = absurd (not_refused makes_one _ a _ p q.1)
read_once text (Err e) (Ok b) p q = absurd (not_refused makes_one _ b _ q p.1)
read_once text (Err e) (Err f) p q = ap Err (same_Some e f (one_fault text (Some e) (Some f) p q))
