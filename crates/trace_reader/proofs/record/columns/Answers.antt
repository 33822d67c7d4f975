-- The fields so far have their columns, and the first fault in finding one is that of the header.
use Rattle.std.proofs.{Common.{arith, length, rules}, Math.ListN.length-set, lemmas.{List.drop_all, Result.err_from_is_err_and}}
use Rattle.marple_base.specs.Field.{all_fields}
use Rattle.marple_base.specs.declared.field.Field.TheVariants as f
use Rattle.marple_base.specs.declared.field.TheConstants.{FIELDS}
use Rattle.trace_reader.{specs.Traces.{column_of_field, each}, proofs.ColumnFacts.{none_within, within_set}}
use Rattle.trace_reader.proofs.EachFacts.{all_written, each_more, error_met, value_written}
use Rattle.trace_reader.proofs.record.columns.Goals as goal

pub returns-in_err-columns-clause-value : goal.returns-in_err-columns-clause-value
returns-in_err-columns-clause-value c =
    let p = err_from_is_err_and c.from_residual.result c.from_residual.ensures.1 in
    let step = each_more (column_of_field c.args.reads c.args.header.now.fields) all_fields c.loop-i.i f.Switch c.loop-i-test.true in
    rw (p.1, p.2) (error_met _ _ _ _ _ _ c.loop-i.invariant.filled step c.in_err-columns.ensures.value)

pub loop-i-init : goal.loop-i-init
loop-i-init c = record {
  filled = search rules;
  size = search rules;
  within = none_within (length c.args.header.now.fields) FIELDS;
}

pub loop-i-preserved : goal.loop-i-preserved
loop-i-preserved c =
    let step = each_more (column_of_field c.args.reads c.args.header.now.fields) all_fields c.loop-i.i f.Switch c.loop-i-test.true in
    record {
      filled = value_written _ _ _ _ c.loop-i.columns c.loop-i.i c.in_ok-columns.field-0 (omega arith) c.loop-i.invariant.filled step
          c.in_ok-columns.ensures.value;
      size = simp length-set c.loop-i.invariant.size;
      within = within_set (length c.args.header.now.fields) c.loop-i.columns c.loop-i.i c.in_ok-columns.field-0
          c.in_ok-columns.ensures.within c.loop-i.invariant.within;
    }

pub returns-clause-value : goal.returns-clause-value
unfolding each
returns-clause-value c =
    let none = drop_all c.loop-i.i all_fields c.loop-i-test.false in
    all_written _ _ c.loop-i.columns c.loop-i.i (omega arith) c.loop-i.invariant.filled (rw none)
