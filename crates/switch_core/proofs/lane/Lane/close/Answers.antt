-- Where all closed epochs are merged, the rows that the store holds are those of the table.
use Rattle.std.proofs.Common.{◌≡◌, true, length, refl, sym, ap, ◌∙◌, subst}
use Rattle.final_queries.specs.GroupTable.{Heading, closed_table}
use Rattle.switch_core.{specs.{Closing.is_drained, Lanes.LaneStands}, proofs.{MergeSteps.none_piped, Drained.drained_parts}}
use Rattle.switch_core.proofs.ClosedTable.{table_is, all_held}
use Rattle.switch_core.proofs.lane.Lane.close.Goals as goal

pub returns : goal.returns
returns g c m s =
    let old = c.self.inside in
    let cache = old.front.cache in
    let pipe = old.front.pipe in
    let stands = g.K.EpochKind.stands old.front.kind in
    let f = g.K.EpochKind.folding old.front.kind in
    let stood : LaneStands stands f cache pipe old.store m = subst
    (λ x. LaneStands (g.K.EpochKind.stands x.kind) (g.K.EpochKind.folding x.kind) x.cache x.pipe x.store m) (sym c.self.view_is) s in
    let none : length pipe.records ≡ 0 = (drained_parts cache pipe
    (subst (λ x. is_drained x.cache x.pipe ≡ true) (sym c.self.view_is) c.requires.drained)).1 in
    let held = all_held f old.store m (none_piped stands cache pipe m stood.front none) stood.kept in
    let each : f.row_per_epoch ≡ c.row_per_epoch.result = sym
    (c.row_per_epoch.ensures ∙ ap (λ k. (g.K.EpochKind.folding k).row_per_epoch) c.kind.ensures) in
    let shown = c.in_ok-shown.ensures.held f m.closed each held in
    let heading : Heading = record {
      name = c.args.name;
      key_names = c.args.key_names;
      state_names = c.args.state_names;
      class =
          c.args.class;
      depth = c.args.depth;
    } in
    table_is heading f m.closed c.args.name c.in_ok-columns.columns c.len-keys.result c.in_ok-shown.shown.epochs
    c.in_ok-shown.shown.rows refl c.in_ok-columns.ensures c.len-keys.ensures shown.1 shown.0
    ∙ ap (λ x. closed_table heading (g.K.EpochKind.folding x.kind) m.closed) c.self.view_is
