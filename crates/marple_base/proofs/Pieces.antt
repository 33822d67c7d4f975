-- A text that is written in pieces, of which the last bytes wait.
use Rattle.std.proofs.Common.{◌≡◌, ℕ, ◌+◌, List, [], ◌++◌, length, take, subst, refl, sym, ap, ◌∙◌, Option, Result, Ok, Err, OnErr, arith}
use Rattle.std.proofs.{Common.{append_assoc, append-nil, length-append}, KnownBytes.{Appends-nil, Appends-trans}, Math.Seq.take-append-add}
use Rattle.std.{proofs.lemmas.List.take-append-le, specs.Io.KnownBytes.Appends}
use Rattle.marple_base.specs.{Sink.TakesFront, Pieces.TakesAllBut}

-- nothing was taken of it
pub none_taken : (bytes : Option (List ℕ)) (text : List ℕ) → TakesFront bytes bytes text
none_taken bytes text = record { count = 0; within = omega arith; taken = Appends-nil bytes }

-- all of it waits
pub all_waits : (bytes : Option (List ℕ)) (text : List ℕ) → TakesAllBut bytes bytes text text
all_waits bytes text = record { written = []; taken = Appends-nil bytes; whole = refl }

-- all of it was taken
pub none_waits : (old new : Option (List ℕ)) (text : List ℕ) → Appends old new text → TakesAllBut old new [] text
none_waits old new text all = record { written = text; taken = all; whole = sym (append-nil text) }

-- of what waited, later all but some was taken
pub then : (old mid new : Option (List ℕ)) (waiting later text : List ℕ) → TakesAllBut old mid waiting text
    → TakesAllBut mid new later waiting → TakesAllBut old new later text
then old mid new waiting later text first next = record {
  written = first.written ++ next.written;
  taken = Appends-trans old mid new first.written next.written first.taken next.taken;
  whole = first.whole ∙ (ap (λ t. first.written ++ t) next.whole ∙ sym (append_assoc first.written next.written later));
}

-- the text goes on, and what it goes on with waits
pub more_waits : (old new : Option (List ℕ)) (waiting text more : List ℕ) → TakesAllBut old new waiting text
    → TakesAllBut old new (waiting ++ more) (text ++ more)
more_waits old new waiting text more taken = record {
  written = taken.written;
  taken = taken.taken;
  whole = ap (λ t. t ++ more) taken.whole ∙ append_assoc taken.written waiting more;
}

-- what waited was taken too
pub rest_taken : (old mid new : Option (List ℕ)) (waiting text : List ℕ) → TakesAllBut old mid waiting text → Appends mid new waiting
    → Appends old new text
rest_taken old mid new waiting text first next = subst (Appends old new) (sym first.whole)
    (Appends-trans old mid new first.written waiting first.taken next)

-- the text goes on after a piece of which some first bytes were taken
pub goes_on : (old new : Option (List ℕ)) (piece rest : List ℕ) → TakesFront old new piece → TakesFront old new (piece ++ rest)
goes_on old new piece rest front = record {
  count = front.count;
  within = omega (arith, front.within, length-append piece rest);
  taken = subst (Appends old new) (sym (take-append-le front.count piece rest front.within)) front.taken;
}

-- some first bytes were taken of what waited
pub front_taken : (old mid new : Option (List ℕ)) (waiting text : List ℕ) → TakesAllBut old mid waiting text → TakesFront mid new waiting
    → TakesFront old new text
front_taken old mid new waiting text first next = record {
  count = length first.written + next.count;
  within = omega (arith, next.within, ap length first.whole, length-append first.written waiting);
  taken =
      let front : take (length first.written + next.count) text ≡ first.written ++ take next.count waiting =
      ap (take (length first.written + next.count)) first.whole ∙ take-append-add first.written waiting next.count in
      subst (Appends old new) (sym front) (Appends-trans old mid new first.written (take next.count waiting) first.taken next.taken);
}

-- what waited is the front of a text of which nothing more was taken
pub front_is_taken : (old new : Option (List ℕ)) (waiting text : List ℕ) → TakesAllBut old new waiting text → TakesFront old new text
front_is_taken old new waiting text first = front_taken old new new waiting text first (none_taken new waiting)

-- what holds anyway holds at an `Err`
pub on_err : {A E : Type 0} (result : Result A E) (P : Type 0) → P → OnErr result P
on_err (Ok done) P holds = tt
on_err (Err fault) P holds = holds

-- one part more is made: after it all but some bytes were taken of what waited and the part
pub part_more : (old mid new : Option (List ℕ)) (waiting later part rest whole : List ℕ)
    → TakesAllBut old mid (waiting ++ (part ++ rest)) whole → TakesAllBut mid new later (waiting ++ part)
    → TakesAllBut old new (later ++ rest) whole
part_more old mid new waiting later part rest whole first next =
    then old mid new (waiting ++ (part ++ rest)) (later ++ rest) whole first
    (subst (TakesAllBut mid new (later ++ rest)) (append_assoc waiting part rest) (more_waits mid new later (waiting ++ part) rest next))

-- it breaks off in one part more: some first bytes were taken of what waited and the part
pub part_broke : (old mid new : Option (List ℕ)) (waiting part rest whole : List ℕ) → TakesAllBut old mid (waiting ++ (part ++ rest)) whole
    → TakesFront mid new (waiting ++ part) → TakesFront old new whole
part_broke old mid new waiting part rest whole first next =
    front_taken old mid new (waiting ++ (part ++ rest)) whole first
    (subst (TakesFront mid new) (append_assoc waiting part rest) (goes_on mid new (waiting ++ part) rest next))
