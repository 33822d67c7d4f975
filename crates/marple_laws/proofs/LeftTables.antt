-- The tables of a pipeline with entries for folds, by the machines that it represents.
use Rattle.marple_laws.proofs.Words
use Words.{◌≡◌, ℕ, ◌<◌, List, map, ap, sym, subst, ◌∙◌, arith, Setting, Geometry, HasRoom, Machine, Table, Made, plan_output, plan_tables}
use Words.{TypedQuery, geometry_of, group_tables, query_text, AreLanesOf, PipelineStands, PipelineView, folding_at, end_machines, words_of}
use Rattle.marple_laws.specs.Left.{AreTablesOfPlan, AreTablesOfQuery, words_for}
use Rattle.std.specs.Prelude.{Ok}
use Rattle.command_line.specs.{Command.{IsSetting, ways_number}, declared.setting.Ways.{Ways, TheVariants.One}}
use Rattle.epoch_entry.specs.declared.purpose.Entries.TheVariants.{Folds}
use Rattle.plan_loader.proofs.SoundMade.{says_sound}
use Rattle.query_laws.specs.ValidLaws.{AcceptedAreValid}
use Rattle.query_run.specs.{PlanReports.{EndsAreTheTexts, numbered_print}, QueryReports.query_print, Runs.{EndsAreTheQuerys, query_ends}}
use Rattle.switch_core.specs.Pipelines.{tables_of}
use Rattle.marple_cli.specs.Driven.{StandsForEnd}

some_ways : (ways : Ways) → 0 < ways_number ways
some_ways One = omega arith
some_ways _ = omega arith

has_room : {setting : Setting} → IsSetting setting → HasRoom (geometry_of setting)
has_room is = (omega arith, some_ways _)

query_printed : (q : TypedQuery) (g : Geometry) (list : List (List ℕ)) {tables : List Table} → tables ≡ group_tables q g list
    → query_print q tables ≡ query_text q g list
unfolding query_text
query_printed q g list e = ap (query_print q) e

plan_printed : (made : Made) (g : Geometry) (list : List (List ℕ)) {tables : List Table} → tables ≡ plan_tables made g list
    → numbered_print made.prints tables ≡ plan_output made g list
unfolding plan_output
plan_printed made g list e = ap (numbered_print _) e

module _ (p : PipelineView) (lanes : AreLanesOf Folds p.plan p.buckets p.lanes) (tables : List Table)
    (closed : (machines : List Machine) → PipelineStands p machines → tables ≡ tables_of p.plan.groups (map folding_at p.lanes) machines)
  where
    pub of_query : AcceptedAreValid → EndsAreTheQuerys → AreTablesOfQuery p tables
    of_query valid ends setting text q list is found whole stands =
        let g : Geometry = geometry_of setting in
        let words : List (List ℕ) = words_of (list q) in
        let of_q : StandsForEnd setting (Ok q) list p = subst (λ r. StandsForEnd setting r list p) found stands in
        let same : tables ≡ group_tables q g words =
        closed (query_ends q g _) of_q.1
        ∙ ap (tables_of p.plan.groups (map folding_at p.lanes)) (sym (ends.machines q p.plan g words of_q.0 whole))
        ∙ ends.tables q p.plan p.buckets p.lanes g words (valid text q found) of_q.0 lanes (has_room is) whole
        in
        (same, query_printed q g _ same)

    pub of_plan : EndsAreTheTexts → AreTablesOfPlan p tables
    of_plan ends setting text made trace is says stands =
        let g : Geometry = geometry_of setting in
        let words : List (List ℕ) = words_for made trace in
        let same : tables ≡ plan_tables made g words =
        closed (end_machines p.plan g words) stands.1
        ∙ ends made p.plan p.buckets _ g words (says_sound _ _ says) stands.0 lanes (has_room is)
        in
        (same, plan_printed _ g _ same)
