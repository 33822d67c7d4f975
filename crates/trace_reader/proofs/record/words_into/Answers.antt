-- The words of the columns read so far are in their fields, and the first that is none names its field.
use Rattle.std.proofs.{Common.{length, rules}, Math.ListN.length-set}
use Rattle.marple_base.specs.declared.field.Field.TheVariants as f
use Rattle.trace_reader.{specs.Columns.read_columns, proofs.ColumnFacts.all_within}
use Rattle.trace_reader.proofs.WordFacts.{field_met, word_written, words_are, words_filled}
use Rattle.trace_reader.proofs.record.words_into.Goals as goal

pub loop-field-init : goal.loop-field-init
loop-field-init c =
    record { filled = words_filled c.args.row.now.fields c.args.columns.now c.read-field-items.ensures.all; size = search rules }

pub word_of_field-requires : goal.word_of_field-requires
word_of_field-requires c =
    rw c.read-field-items.ensures.read (all_within (length c.args.row.now.fields) c.args.columns.now c.requires c.loop-field.field-index
    (f.Switch, 0) (search rules))

pub returns-in-Err-clause-err : goal.returns-in-Err-clause-err
returns-in-Err-clause-err c =
    field_met _ _ (read_columns c.args.columns.now) c.loop-field.field-index (f.Switch, 0) _ _ (search rules) c.loop-field.invariant.filled
    (rw (← c.read-field-items.ensures.read) c.in-Err.ensures)

pub loop-field-preserved : goal.loop-field-preserved
loop-field-preserved c =
    record {
      filled = rw (c.number.ensures.number, c.read-field-items.ensures.read)
          (word_written _ _ (read_columns c.args.columns.now) c.loop-field.field-index (f.Switch, 0) _ _ (search rules)
          c.loop-field.invariant.filled
          (rw (← c.read-field-items.ensures.read) c.in-Ok.ensures));
      size = simp length-set c.loop-field.invariant.size;
    }

pub returns-clause-ok : goal.returns-clause-ok
returns-clause-ok c = words_are _ _ (read_columns c.args.columns.now) c.loop-field.field-index _ (search rules)
    c.loop-field.invariant.filled
