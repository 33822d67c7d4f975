-- The bounds of accepted operands hold.
use Rattle.marple_laws.proofs.Words.{◌≡◌, ℕ, List, [], None, Ok, Err, refl, TypedQuery, Checked, accepted, bounds_fault, fault_after}
use Rattle.marple_laws.{proofs.Words.{Setting, geometry_of, reads_of}, specs.Bounded.{AcceptedBoundsHold, words_read}}
use Rattle.query_laws.specs.ValidLaws.{AcceptedAreValid, AcceptedStartAsWords}
use Rattle.enclosed_query.specs.{EnclosedTables.enclose_text, Holding.{ShownHolds, ShownTablesHold}}
use Rattle.trace_drive.specs.ReadPackets.{ReadPacketsAreOfWords}
use Rattle.marple_cli.specs.Output.{enclosures_text, of_accepted}

module _ (holding : ShownTablesHold) (words : ReadPacketsAreOfWords) (valid : AcceptedAreValid) (starts : AcceptedStartAsWords)
    (setting : Setting) (text trace : List ℕ) where
  -- what is written where the text is read to this
  record Writes (found : Checked TypedQuery) : Type 0 where
    typed : TypedQuery
    of_text : found ≡ Ok typed
    written : of_accepted [] (enclosures_text setting trace) found ≡ enclose_text typed (geometry_of setting) (words_read trace typed)
    holds : ShownHolds typed (geometry_of setting) (words_read trace typed)

  writes : (found : Checked TypedQuery) → accepted text ≡ found → fault_after bounds_fault found ≡ None → Writes found
  writes (Err fault) e none = cc
  writes (Ok q) e none = record {
    typed = q;
    of_text = refl;
    written = refl;
    holds = holding q (geometry_of setting) (words_read trace q) (valid text q e) none (starts _ q e) (words trace (reads_of q));
  }

pub bounds_hold : ShownTablesHold → ReadPacketsAreOfWords → AcceptedAreValid → AcceptedStartAsWords → AcceptedBoundsHold
bounds_hold holding words valid starts setting query trace is =
    let w = writes holding words valid starts setting query.text _ (accepted query.text) refl is.by_query in
    record {
      typed = w.typed;
      of_text = w.of_text;
      written = w.written;
      holds = w.holds;
    }
