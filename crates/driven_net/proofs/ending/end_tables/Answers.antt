-- The tables at the end are those of the definition, which finals can read.
use Rattle.std.{proofs.Common.{◌≡◌, Result, Ok, Err, IfOk, map, sym, ap, ◌∙◌, subst}, specs.List.All}
use Rattle.query_lang.specs.{Streams.takings, TypedQueries.group_shape}
use Rattle.final_queries.specs.Finals.{IsTable, table_shape}
use Rattle.stage_plan.specs.Sound.{IsSoundPlan}
use Rattle.net_wide.specs.NetTables.{caches_of, net_tables}
use Rattle.driven_net.proofs.Ends.{tables_are}
use Rattle.driven_net.proofs.ending.end_tables.Goals as goal
use Rattle.driven_net.proofs.ending.end_tables.Goals.{After-close}

-- what follows from what is known of the tables
then_if : {X E : Type 0} (result : Result X E) (P Q : X → Type 0) → ((x : X) → P x → Q x) → IfOk result P → IfOk result Q
then_if (Ok x) P Q so known = so x known
then_if (Err e) P Q so known = tt

pub returns-clause-tables : goal.returns-clause-tables
returns-clause-tables g c =
    then_if c.close.result _ _
    (λ tables defined known packets whole f.
    tables_are c.runs_follow_events.ensures g.row.WAYS c.args.typed.now known packets c.args.network c.drain.new.self tables
    c.requires.valid c.requires.combines c.requires.tells c.requires.plan whole f
    c.in_ok-drain.ensures.runs c.in_ok-drain.ensures.drained defined)
    c.close.ensures.defined

-- those that are closed are of the definition
are : (g : _) (c : After-close g) → IfOk c.close.result
    (λ tables. tables ≡ net_tables c.args.typed.now (caches_of c.args.network.buckets g.row.WAYS) c.requires.follows.1)
are g c =
    let r = c.requires.follows in
    then_if c.close.result _ _
    (λ tables. tables_are c.runs_follow_events.ensures g.row.WAYS c.args.typed.now r.0 r.1 c.args.network c.drain.new.self tables
    c.requires.valid c.requires.combines c.requires.tells c.requires.plan r.2 r.3
    c.in_ok-drain.ensures.runs c.in_ok-drain.ensures.drained)
    c.close.ensures.defined

-- finals can read these
known : (g : _) (c : After-close g) → (let q = c.args.typed.now in
    let tables = net_tables q (caches_of c.args.network.buckets g.row.WAYS) c.requires.follows.1 in
    All IsTable tables × (map table_shape tables ≡ map (group_shape q.folds) (takings q.streams)))
known g c =
    let old = c.args.network in
    c.net_tables_are_read.ensures c.args.typed.now old.plan (caches_of old.buckets g.row.WAYS) c.requires.follows.1 c.requires.valid
    c.requires.plan (subst IsSoundPlan c.plan.ensures c.invariant.ensures) c.requires.follows.2

pub returns-clause-shapes : goal.returns-clause-shapes
returns-clause-shapes g c =
    let x = (goal.at.returns-clause-shapes g c).After-close in
    then_if c.close.result _ _ (λ tables same. ap (map table_shape) same ∙ (known g x).1) (are g x)

pub returns-clause-read : goal.returns-clause-read
returns-clause-read g c =
    let x = (goal.at.returns-clause-read g c).After-close in
    then_if c.close.result _ _ (λ tables same. subst (All IsTable) (sym same) (known g x).0) (are g x)
