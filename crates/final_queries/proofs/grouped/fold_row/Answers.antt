-- A row that isn't read folds nothing, and one that is read is folded at its key by its arguments.
use Rattle.std.proofs.{Common.{◌≡◌, ◌∙◌, sym, ap, length, append-nil}, lemmas.{List.length-map, Result.on_ok_weaker}}
use Rattle.query_lang.specs.Streams.{values_at}
use Rattle.table_rows.specs.LentRows.{row_of}
use Rattle.final_queries.specs.Finals.{columns_of}
use Rattle.final_queries.proofs.grouped.fold_row.Goals as goal

pub values_into-requires : goal.values_into-requires
values_into-requires g c = c.requires.keys

pub values_into-requires-2 : goal.values_into-requires-2
values_into-requires-2 g c = c.requires.args

pub fold_args_in-requires : goal.fold_args_in-requires
fold_args_in-requires g c = record {
  key = ap length (c.as_slice.ensures.value ∙ c.in_ok-values_into.ensures.values) ∙ length-map c.args.keys.now _ ∙ c.requires.key_words;
  initial = c.requires.start;
  states = c.requires.states;
  args = ap length (c.as_slice-2.ensures.value ∙ c.in_ok-values_into-2.ensures.values) ∙ length-map c.args.args.now _ ∙ c.requires.all_args;
  scratch = c.requires.scratch;
}

pub returns-then-not-is_read-clause-ok : goal.returns-then-not-is_read-clause-ok
returns-then-not-is_read-clause-ok g c f epochs code start held =
    let unread = sym c.is_read.ensures ∙ c.if-not-is_read.true in
    rw (unread, append-nil) held

pub returns-clause-ok : goal.returns-clause-ok
returns-clause-ok g c =
    let read = sym c.is_read.ensures ∙ c.if-not-is_read.false in
    let key : c.as_slice.result.now ≡ values_at (columns_of (row_of c.args.row.now)) c.args.keys.now =
    c.as_slice.ensures.value ∙ c.in_ok-values_into.ensures.values ∙ ap (λ columns. values_at columns c.args.keys.now) c.args.row.now.joined in
    let args : c.as_slice-2.result.now ≡ values_at (columns_of (row_of c.args.row.now)) c.args.args.now =
    c.as_slice-2.ensures.value ∙ c.in_ok-values_into-2.ensures.values
    ∙ ap (λ columns. values_at columns c.args.args.now) c.args.row.now.joined in
    on_ok_weaker c.fold_args_in.result (λ step f epochs code start held. rw (read, ← key, ← args) (step f epochs code start held))
    c.fold_args_in.ensures.ok
