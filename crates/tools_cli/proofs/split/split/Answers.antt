-- Traces and parts are untouched without a query and a field to split by, and else the end is that of splitting them.
use Rattle.std.proofs.Common.{◌≡◌, ◌≢◌, ◌∙◌, [], refl, subst, sym}
use Rattle.marple_base.{specs.declared.inputs.Which.TheVariants.Query, proofs.Pieces.{none_taken, on_err}}
use Rattle.part_texts.specs.Texts.{fields_in}
use Rattle.trace_ranges.specs.Ranges.{within}
use Rattle.trace_split.{specs.Traces.faults_of, proofs.RestFacts.refused_so}
use Rattle.tools_cli.specs.{Ends.{AreTexts, IsSplit, SplitEnds, split_by, texts_for}, Statuses.status_of_traces}
use Rattle.tools_cli.proofs.SplitFacts.{fields_are, if_err_is, is_accepted, is_reached, is_split, of_query, query_ends, take_fronts}
use Rattle.tools_cli.proofs.{SplitFacts.{is_err_of, traces_end}, RangeFacts.{closed_of, left_of, none_fell, one_rose}}
use Rattle.tools_cli.proofs.split.split.Goals as goal

-- ---- the query wasn't read, or is refused

pub of_query-requires : goal.of_query-requires
of_query-requires g c =
    of_query (g.I.Inputs.input c.args.inputs.now Query) (g.I.Inputs.input c.read_query.new.inputs Query) c.in-Err.status
    c.in-Err.ensures.err

pub returns-in-Err-clause-fronts : goal.returns-in-Err-clause-fronts
returns-in-Err-clause-fronts g c text q traces is accepts bytes n within =
    none_taken (g.P.Parts.taken c.args.parts.now n) (texts_for q c.args.setting traces n)

pub returns-in-Err-clause-ends : goal.returns-in-Err-clause-ends
returns-in-Err-clause-ends g c =
    let before = g.I.Inputs.input c.args.inputs.now Query in
    let after_it = g.I.Inputs.input c.read_query.new.inputs Query in
    let bytes = AreTexts g.T.Inputs.input c.args.traces.now c.args.setting in
    let traces = faults_of (within g.T.Inputs.input) c.args.traces.now in
    let parts = g.P.Parts.faults c.args.parts.now in
    subst (SplitEnds before.left bytes before.faults after_it.faults traces traces parts parts) (sym c.of_query.ensures)
    (query_ends before.left bytes before.faults after_it.faults traces traces parts parts before after_it c.in-Err.status refl refl refl
    c.in-Err.ensures.err)

pub returns-in-Err-clause-untouched : goal.returns-in-Err-clause-untouched
returns-in-Err-clause-untouched g c before = (refl, refl)

-- ---- no field may decide the part

pub returns-then-has_none-clause-fronts : goal.returns-then-has_none-clause-fronts
returns-then-has_none-clause-fronts g c text q traces is accepts bytes n within =
    none_taken (g.P.Parts.taken c.args.parts.now n) (texts_for q c.args.setting traces n)

pub returns-then-has_none-clause-ends : goal.returns-then-has_none-clause-ends
returns-then-has_none-clause-ends g c =
    let q = c.in-Ok.query.typed in
    let by = c.split_fields-by.result in
    let are : fields_in by ≡ split_by q = fields_are q by c.split_fields-by.ensures in
    is_accepted (g.I.Inputs.input c.args.inputs.now Query).left q (λ one. split_by one ≡ []) c.in-Ok.ensures.ok
    (sym are ∙ c.has_none.ensures.none c.if-has_none.true)

pub returns-then-has_none-clause-untouched : goal.returns-then-has_none-clause-untouched
returns-then-has_none-clause-untouched g c before = (refl, refl)

-- ---- the traces weren't split

pub split_traces-requires-clause-closed : goal.split_traces-requires-clause-closed
split_traces-requires-clause-closed g c =
    closed_of g.T.Inputs.input c.args.setting.range c.args.traces.now c.begin_all.new.traces c.begin_all.ensures
    c.requires.traces_closed

pub returns-in_err-split_traces-clause-traces_later : goal.returns-in_err-split_traces-clause-traces_later
returns-in_err-split_traces-clause-traces_later g c =
    none_fell g.T.Inputs.input c.args.setting.range c.args.traces.now c.begin_all.new.traces c.begin_all.ensures
    c.split_traces.new.traces c.in_err-split_traces.ensures.input_later

pub returns-in_err-split_traces-clause-fronts : goal.returns-in_err-split_traces-clause-fronts
returns-in_err-split_traces-clause-fronts g c =
    let q = c.in-Ok.query.typed in
    let by = c.split_fields-by.result in
    let are : fields_in by ≡ split_by q = fields_are q by c.split_fields-by.ensures in
    on_err c.from_residual.result _
    (take_fronts q by c.reads-reads.result c.from-salt.result c.args.setting are (c.reads-reads.ensures ∙ c.in-Ok.ensures.plan.reads)
    c.from-salt.ensures (AreTexts g.T.Inputs.input c.args.traces.now c.args.setting) (g.P.Parts.taken c.args.parts.now)
    (g.P.Parts.taken c.split_traces.new.parts) (g.I.Inputs.input c.args.inputs.now Query).left c.in-Ok.ensures.ok
    (λ all are. c.in_err-split_traces.ensures.fronts all (left_of g.T.Inputs.input c.args.setting.range c.args.traces.now
    c.begin_all.new.traces c.begin_all.ensures all are)))

pub returns-in_err-split_traces-clause-ends : goal.returns-in_err-split_traces-clause-ends
returns-in_err-split_traces-clause-ends g c =
    let before = g.I.Inputs.input c.args.inputs.now Query in
    let after_it = g.I.Inputs.input c.read_query.new.inputs Query in
    let bytes = AreTexts g.T.Inputs.input c.args.traces.now c.args.setting in
    let old = faults_of (within g.T.Inputs.input) c.args.traces.now in
    let new = faults_of (within g.T.Inputs.input) c.split_traces.new.traces in
    let parts = g.P.Parts.faults c.args.parts.now in
    let parts_new = g.P.Parts.faults c.split_traces.new.parts in
    let q = c.in-Ok.query.typed in
    let by = c.split_fields-by.result in
    let are : fields_in by ≡ split_by q = fields_are q by c.split_fields-by.ensures in
    let some : split_by q ≢ [] = λ no. c.has_none.ensures.some c.if-has_none.false (are ∙ no) in
    let found = c.in_err-split_traces.field-0.0 in
    if_err_is c.from_residual.result (status_of_traces found)
    (SplitEnds before.left bytes before.faults after_it.faults old new parts parts_new) c.from_residual.ensures.1
    (traces_end before.left bytes before.faults after_it.faults old new parts parts_new c.reads-reads.result q found c.in-Ok.ensures.ok
    some (c.reads-reads.ensures ∙ c.in-Ok.ensures.plan.reads)
    (refused_so found _ _ (λ fault refused all are. refused all (left_of g.T.Inputs.input c.args.setting.range c.args.traces.now
    c.begin_all.new.traces c.begin_all.ensures all are)) c.in_err-split_traces.ensures.refused)
    (λ is. one_rose g.T.Inputs.input c.args.setting.range c.args.traces.now c.begin_all.new.traces c.begin_all.ensures
    c.split_traces.new.traces (c.in_err-split_traces.ensures.input_failed (is_err_of found _ is)))
    (λ is. c.in_err-split_traces.ensures.output_failed (is_err_of found _ is)))

pub returns-in_err-split_traces-clause-untouched : goal.returns-in_err-split_traces-clause-untouched
returns-in_err-split_traces-clause-untouched g c =
    if_err_is c.from_residual.result (status_of_traces c.in_err-split_traces.field-0.0) _ c.from_residual.ensures.1
    (λ before. absurd (is_reached c.in_err-split_traces.field-0.0 before))

-- ---- they were

pub returns-clause-ok : goal.returns-clause-ok
returns-clause-ok g c =
    let q = c.in-Ok.query.typed in
    let by = c.split_fields-by.result in
    let are : fields_in by ≡ split_by q = fields_are q by c.split_fields-by.ensures in
    let bytes = AreTexts g.T.Inputs.input c.args.traces.now c.args.setting in
    let old = g.P.Parts.taken c.args.parts.now in
    let new = g.P.Parts.taken c.split_traces.new.parts in
    let some : split_by q ≢ [] = λ no. c.has_none.ensures.some c.if-has_none.false (are ∙ no) in
    is_accepted (g.I.Inputs.input c.args.inputs.now Query).left q (IsSplit bytes old new c.args.setting) c.in-Ok.ensures.ok
    (is_split q by c.reads-reads.result c.from-salt.result c.args.setting are (c.reads-reads.ensures ∙ c.in-Ok.ensures.plan.reads)
    c.from-salt.ensures bytes old new some
    (λ all are. c.in_ok-split_traces.ensures.whole all (left_of g.T.Inputs.input c.args.setting.range c.args.traces.now
    c.begin_all.new.traces c.begin_all.ensures all are))
    (λ all are. c.in_ok-split_traces.ensures.ok all (left_of g.T.Inputs.input c.args.setting.range c.args.traces.now
    c.begin_all.new.traces c.begin_all.ensures all are)))

pub returns-clause-traces_later : goal.returns-clause-traces_later
returns-clause-traces_later g c =
    none_fell g.T.Inputs.input c.args.setting.range c.args.traces.now c.begin_all.new.traces c.begin_all.ensures
    c.split_traces.new.traces c.in_ok-split_traces.ensures.input_later
