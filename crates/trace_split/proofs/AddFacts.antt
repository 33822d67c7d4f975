-- How the texts of parts begin, and what an answer says.
use Rattle.std.proofs.Common.{◌≡◌, ℕ, List, [], map, sym, subst, ◌∙◌, append-nil, Result, Ok, Err, OnOk, OnErr}
use Rattle.marple_base.{specs.{Field.field_name, declared.field.Field.Field, Pieces.TakesAllBut}, proofs.Pieces.all_waits}
use Rattle.queue_sim.specs.TraceText.{line}
use Rattle.trace_split.{specs.Holding.{Holds, Taken}, proofs.{HoldFacts.texts_by, ListFacts.AllHave}}

-- the texts of no packet: the header waits
pub holds_none : (taken : Taken) (waiting : List (List ℕ)) (fields : List Field) (partition : List ℕ → ℕ) (header : List ℕ)
    → header ≡ line (map field_name fields)
    → AllHave header waiting → Holds taken taken waiting (texts_by fields partition [])
holds_none taken waiting fields partition header is all = record {
  each = λ n bytes at.
      let whole = texts_by fields partition [] n in
      let same : whole ≡ bytes = append-nil (line (map field_name fields)) ∙ sym is ∙ sym (all n bytes at) in
      subst (λ w. TakesAllBut (taken n) (taken n) w whole) same (all_waits (taken n) whole);
}

pub on_ok : {A E : Type 0} (result : Result A E) (P Q : Type 0) → (P → Q) → OnOk result P → OnOk result Q
on_ok (Ok done) P Q so holds = so holds
on_ok (Err fault) P Q so holds = tt

pub on_err : {A E : Type 0} (result : Result A E) (P Q : Type 0) → (P → Q) → OnErr result P → OnErr result Q
on_err (Ok done) P Q so holds = tt
on_err (Err fault) P Q so holds = so holds
