-- The tables of what the stores hold are those that each law of merged epochs tells.
use Rattle.std.{proofs.Common.{◌≡◌, List, Result, Ok, Err, sym, subst, lit<}, specs.Prelude.IfOk}
use Rattle.epoch_model.specs.Machine.{Epoch}
use Rattle.stage_plan.specs.declared.group.GroupPlan.{GroupPlan}
use Rattle.network.specs.{Groups.{AreGroups, GroupView, StoresHold, shared_tables}, Networks.{IsNetwork, NetworkView}}
use Rattle.network.proofs.{Ends.{tables_closed, tables_defined}, Exact.{additive_rows, own_rows_are}}
use Rattle.network.proofs.network.Network.close.Goals as goal
use Rattle.network.proofs.network.Network.close.Goals.{After-self}

known : (g : _) (c : After-self g) → IsNetwork g.row.WAYS c.args.self.now
known g c = subst (IsNetwork g.row.WAYS) c.self.view_is c.self.invariant.0

pub group_tables-requires : goal.group_tables-requires
group_tables-requires g c =
    let p = c.self.inside in
    (lit< tt, (p.switches, subst (AreGroups p.plan p.switches) (sym c.deref.ensures.value) c.self.invariant.0.groups))

pub returns-clause-held : goal.returns-clause-held
returns-clause-held g c =
    let p = c.self.inside in
    let closed : List GroupPlan → List GroupView → Type 0 = λ parts groups.
    IfOk c.group_tables.result (λ tables. (epochs : List (List Epoch)) → StoresHold groups epochs
    → tables ≡ shared_tables parts groups epochs) in
    subst (λ (v : NetworkView). closed v.plan.groups v.groups) c.self.view_is
    (subst (closed p.plan.groups) c.deref.ensures.value c.group_tables.ensures)

-- what follows from what is known of the tables
if_ok_map : {X E : Type 0} (P Q : X → Type 0) (r : Result X E) → ((x : X) → P x → Q x) → IfOk r P → IfOk r Q
if_ok_map P Q (Ok x) h p = h x p
if_ok_map P Q (Err e) h p = tt

pub returns-clause-pieces : goal.returns-clause-pieces
returns-clause-pieces g c = if_ok_map _ _ c.group_tables.result
    (λ tables held q number events over stands drained. tables_closed c.alike_foldings_make_one_table.ensures
    c.merged_make_the_table.ensures g.row.WAYS c.args.self.now q number events (known g (goal.at.returns-clause-pieces g c).After-self) over
    stands drained tables held) (returns-clause-held g c)

pub returns-clause-defined : goal.returns-clause-defined
returns-clause-defined g c = if_ok_map _ _ c.group_tables.result
    (λ tables pieces q number events over stands drained last. tables_defined c.alike_foldings_make_one_table.ensures
    c.merged_make_the_table.ensures g.row.WAYS c.args.self.now q number events (known g (goal.at.returns-clause-defined g c).After-self) over
    stands drained c.pieces_are_the_epochs.ensures last tables (pieces q number events over stands drained)) (returns-clause-pieces g c)

pub returns-clause-additive : goal.returns-clause-additive
returns-clause-additive g c = if_ok_map _ _ c.group_tables.result
    (λ tables held n f table events d there a. additive_rows c.alike_foldings_make_one_table.ensures g.row.WAYS c.args.self.now n f events
    (known g (goal.at.returns-clause-additive g c).After-self) d tables table held there a) (returns-clause-held g c)

pub returns-clause-own : goal.returns-clause-own
returns-clause-own g c = if_ok_map _ _ c.group_tables.result
    (λ tables held n j at f table key events d there whole place theirs is_given.
    own_rows_are c.alike_foldings_make_one_table.ensures g.row.WAYS c.args.self.now n f events
    (known g (goal.at.returns-clause-own g c).After-self) d tables table held there j at key whole place theirs is_given)
    (returns-clause-held g c)
