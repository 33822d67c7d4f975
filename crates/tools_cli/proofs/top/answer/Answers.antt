-- The status is that of the command that the words ask for, a splitting or facts, with what each is said to do.
use Rattle.std.proofs.Common.{◌≡◌, ◌≢◌, ◌↔◌, None, refl, rules, subst, sym}
use Rattle.marple_base.specs.declared.inputs.Which.TheVariants.{Query}
use Rattle.trace_ranges.specs.Ranges.{within}
use Rattle.trace_split.specs.Traces.{faults_of}
use Rattle.tools_cli.specs.{Call.{WhereFacts, WhereSplit, asked_by}, Ends.{AreTexts, IsAcceptedWith, IsSplit, SplitEnds, TakeFrontsOf}}
use Rattle.tools_cli.specs.{FactsEnds.{FactsEnd, GivesFacts}, declared.{command.SplitSetting.SplitSetting, status.ToolStatus.ToolStatus}}
use Rattle.tools_cli.specs.declared.status.ToolStatus.TheVariants as tools
use Rattle.tools_cli.proofs.EndFacts.{ended, fronts_of, ok_of, where_facts_no_split, where_none, where_none_facts, where_split, not_usage}
use Rattle.tools_cli.proofs.EndFacts.{where_split_no_facts}
use Rattle.tools_cli.proofs.top.answer.Goals as goal

-- ---- a splitting

pub returns-in-Some-Split-clause-ok : goal.returns-in-Some-Split-clause-ok
returns-in-Some-Split-clause-ok g c =
    let asked = asked_by c.args.words.now in
    let query = (g.I.Inputs.input c.args.inputs.now Query).left in
    let bytes = AreTexts g.T.Inputs.input c.args.traces.now in
    let taken = g.P.Parts.taken in
    let split : SplitSetting → Type 0 = λ setting.
    IsAcceptedWith query (IsSplit (bytes setting) (taken c.args.parts.now) (taken c.split.new.parts) setting) in
    let ends : ToolStatus → Type 0 =
    SplitEnds query (bytes c.in-Some-Split.setting) (g.I.Inputs.input c.args.inputs.now Query).faults (g.I.Inputs.input c.split.new.inputs Query).faults
    (faults_of (within g.T.Inputs.input) c.args.traces.now) (faults_of (within g.T.Inputs.input) c.split.new.traces)
    (g.P.Parts.faults c.args.parts.now) (g.P.Parts.faults c.split.new.parts) in
    subst (λ s. s ≡ tools.Ok → WhereSplit asked split) (sym c.status_of.ensures)
    (λ is. where_split asked _ split (search rules)
    (ok_of c.split.result ends (split _) (λ e. e) c.split.ensures.ok c.split.ensures.ends is))

pub returns-in-Some-Split-clause-fronts : goal.returns-in-Some-Split-clause-fronts
returns-in-Some-Split-clause-fronts g c =
    let asked = asked_by c.args.words.now in
    let query = (g.I.Inputs.input c.args.inputs.now Query).left in
    let bytes = AreTexts g.T.Inputs.input c.args.traces.now in
    let taken = g.P.Parts.taken in
    let fronts : SplitSetting → Type 0 = λ setting.
    TakeFrontsOf query (bytes setting) (taken c.args.parts.now) (taken c.split.new.parts) setting in
    subst (λ s. s ≢ tools.Ok → WhereSplit asked fronts) (sym c.status_of.ensures)
    (fronts_of asked _ c.split.result fronts c.split.ensures.fronts (search rules))

pub returns-in-Some-Split-clause-ends : goal.returns-in-Some-Split-clause-ends
returns-in-Some-Split-clause-ends g c not =
    let asked = asked_by c.args.words.now in
    let own = c.in-Some-Split.setting in
    let all : SplitSetting → ToolStatus → Type 0 = λ setting.
    SplitEnds (g.I.Inputs.input c.args.inputs.now Query).left (AreTexts g.T.Inputs.input c.args.traces.now setting)
    (g.I.Inputs.input c.args.inputs.now Query).faults (g.I.Inputs.input c.split.new.inputs Query).faults
    (faults_of (within g.T.Inputs.input) c.args.traces.now) (faults_of (within g.T.Inputs.input) c.split.new.traces)
    (g.P.Parts.faults c.args.parts.now) (g.P.Parts.faults c.split.new.parts) in
    where_split asked own (λ setting. all setting c.status_of.result) (search rules)
    (subst (λ s. s ≢ tools.Ok → all own s) (sym c.status_of.ensures) (ended c.split.result (all own) c.split.ensures.ends) not)

pub returns-in-Some-Split-clause-facts : goal.returns-in-Some-Split-clause-facts
returns-in-Some-Split-clause-facts g c _ = where_split_no_facts (asked_by c.args.words.now) c.in-Some-Split.setting _ (search rules)

pub returns-in-Some-Split-clause-facts_end : goal.returns-in-Some-Split-clause-facts_end
returns-in-Some-Split-clause-facts_end g c _ = where_split_no_facts (asked_by c.args.words.now) c.in-Some-Split.setting _ (search rules)

pub returns-in-Some-Split-clause-only_facts : goal.returns-in-Some-Split-clause-only_facts
returns-in-Some-Split-clause-only_facts g c = where_split_no_facts (asked_by c.args.words.now) c.in-Some-Split.setting _ (search rules)

-- ---- facts

pub returns-in-Some-Facts-clause-usage : goal.returns-in-Some-Facts-clause-usage
returns-in-Some-Facts-clause-usage g c =
    let query = g.I.Inputs.input c.args.inputs.now Query in
    let query_after = g.I.Inputs.input c.facts.new.inputs Query in
    let ends : ToolStatus → Type 0 =
    FactsEnd query.faults query_after.faults (g.O.Sink.faults c.args.out.now) (g.O.Sink.faults c.facts.new.out) in
    subst (λ s. (s ≡ tools.Usage) ↔ (asked_by c.args.words.now ≡ None)) (sym c.status_of-in-Some-Facts.ensures)
    (not_usage (asked_by c.args.words.now) c.facts.result ends (λ e. e) c.facts.ensures.ends (search rules))

pub returns-in-Some-Facts-clause-no_facts : goal.returns-in-Some-Facts-clause-no_facts
returns-in-Some-Facts-clause-no_facts g c not = absurd (not (search rules))

pub returns-in-Some-Facts-clause-ok : goal.returns-in-Some-Facts-clause-ok
returns-in-Some-Facts-clause-ok g c _ = where_facts_no_split (asked_by c.args.words.now) _ (search rules)

pub returns-in-Some-Facts-clause-facts : goal.returns-in-Some-Facts-clause-facts
returns-in-Some-Facts-clause-facts g c =
    let query = g.I.Inputs.input c.args.inputs.now Query in
    let query_after = g.I.Inputs.input c.facts.new.inputs Query in
    let given : Type 0 = GivesFacts query.left (g.O.Sink.taken c.args.out.now) (g.O.Sink.taken c.facts.new.out) in
    let ends : ToolStatus → Type 0 =
    FactsEnd query.faults query_after.faults (g.O.Sink.faults c.args.out.now) (g.O.Sink.faults c.facts.new.out) in
    subst (λ s. s ≡ tools.Ok → WhereFacts (asked_by c.args.words.now) given) (sym c.status_of-in-Some-Facts.ensures)
    (λ is asked. ok_of c.facts.result ends given (λ e. e) c.facts.ensures.ok c.facts.ensures.ends is)

pub returns-in-Some-Facts-clause-fronts : goal.returns-in-Some-Facts-clause-fronts
returns-in-Some-Facts-clause-fronts g c _ = where_facts_no_split (asked_by c.args.words.now) _ (search rules)

pub returns-in-Some-Facts-clause-ends : goal.returns-in-Some-Facts-clause-ends
returns-in-Some-Facts-clause-ends g c _ = where_facts_no_split (asked_by c.args.words.now) _ (search rules)

pub returns-in-Some-Facts-clause-facts_end : goal.returns-in-Some-Facts-clause-facts_end
returns-in-Some-Facts-clause-facts_end g c =
    let query = g.I.Inputs.input c.args.inputs.now Query in
    let query_after = g.I.Inputs.input c.facts.new.inputs Query in
    let ends : ToolStatus → Type 0 =
    FactsEnd query.faults query_after.faults (g.O.Sink.faults c.args.out.now) (g.O.Sink.faults c.facts.new.out) in
    subst (λ s. s ≢ tools.Ok → WhereFacts (asked_by c.args.words.now) (ends s)) (sym c.status_of-in-Some-Facts.ensures)
    (λ not asked. ended c.facts.result ends c.facts.ensures.ends not)

pub returns-in-Some-Facts-clause-untouched : goal.returns-in-Some-Facts-clause-untouched
returns-in-Some-Facts-clause-untouched g c _ = (refl, refl)

pub returns-in-Some-Facts-clause-only_facts : goal.returns-in-Some-Facts-clause-only_facts
returns-in-Some-Facts-clause-only_facts g c _ = (refl, refl)

-- ---- neither

pub returns-in-None-clause-usage : goal.returns-in-None-clause-usage
returns-in-None-clause-usage g c = ((λ _. sym c.in-None.ensures.asked), (λ _. refl))

pub returns-in-None-clause-facts : goal.returns-in-None-clause-facts
returns-in-None-clause-facts g c _ = where_none_facts (asked_by c.args.words.now) _ (sym c.in-None.ensures.asked)

pub returns-in-None-clause-fronts : goal.returns-in-None-clause-fronts
returns-in-None-clause-fronts g c _ = where_none (asked_by c.args.words.now) _ (sym c.in-None.ensures.asked)

pub returns-in-None-clause-ends : goal.returns-in-None-clause-ends
returns-in-None-clause-ends g c _ = where_none (asked_by c.args.words.now) _ (sym c.in-None.ensures.asked)

pub returns-in-None-clause-facts_end : goal.returns-in-None-clause-facts_end
returns-in-None-clause-facts_end g c _ = where_none_facts (asked_by c.args.words.now) _ (sym c.in-None.ensures.asked)

pub returns-in-None-clause-only_facts : goal.returns-in-None-clause-only_facts
returns-in-None-clause-only_facts g c = where_none_facts (asked_by c.args.words.now) _ (sym c.in-None.ensures.asked)

pub returns-in-None-clause-untouched : goal.returns-in-None-clause-untouched
returns-in-None-clause-untouched g c _ = (refl, refl)
