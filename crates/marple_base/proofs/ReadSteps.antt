-- What an input has lost after one read more.
use Rattle.std.proofs.Common.{◌≡◌, ℕ, ◌+◌, ◌≤◌, List, [], ◌++◌, length, take, Option, None, Some, Result, Ok, Err, IfOk, is_err, true}
use Rattle.std.proofs.{Common.{sym, subst, inl, inr, arith}, KnownBytes.{Consumes-nil, Consumes-trans}, lemmas.List.take-append-le}
use Rattle.std.{proofs.lemmas.Grind.common_steps, specs.{Io.KnownBytes.{Consumes, IsAtEnd}, Prelude.IfSome}}
use Rattle.marple_base.specs.{Faults.Rose, Inputs.ReadsUpTo}

pub no_text : {T E : Type 0} (result : Result T E) (P : T → Type 0) → is_err result ≡ true → IfOk result P
no_text (Ok text) P is = cc
no_text (Err answer) P is = tt

pub rises : (first mid now : ℕ) → first ≤ mid → Rose mid now → Rose first now
rises first mid now later (inl less) = inl (omega arith)
rises first mid now later (inr last) = inr last

-- before the first read nothing is lost
pub none_lost : (limit : ℕ) (left now : Option (List ℕ)) (text : List ℕ) → now ≡ left → text ≡ []
    → Consumes left now text × (length text ≤ limit)
none_lost limit left now text same none =
    rw (same, none) (Consumes-nil left, omega arith)

-- a text of as many bytes as the limit is the first of them
pub up_to_limit : (limit : ℕ) (left now : Option (List ℕ)) (text : List ℕ) → Consumes left now text → length text ≤ limit
    → limit ≤ length text → ReadsUpTo limit left now text
up_to_limit limit left now text lost short full = record { short = short; bytes = first left now lost; consumed = lost }
  where
    first : (left now : Option (List ℕ)) → Consumes left now text → IfSome left (λ bytes. text ≡ take limit bytes)
    first None now lost = tt
    first (Some all) None lost = absurd lost
    first (Some all) (Some rest) lost = grind (arith, common_steps)

-- at the end the text is all that there was
pub up_to_end : (limit : ℕ) (left mid now : Option (List ℕ)) (text none : List ℕ) → Consumes left mid text → length text ≤ limit → none ≡ []
    → Consumes mid now none → IsAtEnd now → ReadsUpTo limit left now text
up_to_end limit left mid now text none lost short nothing last end =
    record { short = short; bytes = first left mid now lost last end; consumed = whole left mid now lost last }
  where
    whole : (left mid now : Option (List ℕ)) → Consumes left mid text → Consumes mid now none → Consumes left now text
    whole None mid now lost last = tt
    whole (Some all) None now lost last = absurd lost
    whole (Some all) (Some rest) None lost last = absurd last
    whole (Some all) (Some rest) (Some more) lost last = grind (arith, common_steps)

    first : (left mid now : Option (List ℕ)) → Consumes left mid text → Consumes mid now none → IsAtEnd now
        → IfSome left (λ bytes. text ≡ take limit bytes)
    first None mid now lost last end = tt
    first (Some all) None now lost last end = absurd lost
    first (Some all) (Some rest) None lost last end = absurd last
    first (Some all) (Some rest) (Some more) lost last end = grind (arith, common_steps)

-- the next bytes of a read are at the end of the text
pub read_more : (limit : ℕ) (left mid now : Option (List ℕ)) (text next buf rest : List ℕ) (count : ℕ) → Consumes left mid text
    → Consumes mid now (take count buf) → next ≡ text ++ take count (buf ++ rest) → count ≤ length buf → length text + count ≤ limit
    → Consumes left now next × (length next ≤ limit)
read_more limit left mid now text next buf rest count lost more pushed within short =
    let added : next ≡ text ++ take count buf = subst (λ ys. next ≡ text ++ ys) (take-append-le count buf rest within) pushed in
    (subst (Consumes left now) (sym added) (Consumes-trans left mid now text (take count buf) lost more), grind (arith, common_steps))
