-- The next switch's cache and pipe have the kind of the groupby's own fold, so the group fits one switch more.
use Rattle.std.proofs.{Common.{length, refl, sym, subst, arith, lit<}, Math.Logic.{∥∥₁_elim}, Props.props}
use Rattle.fold_class.specs.Program.{IsProgram, IsProgramOf}
use Rattle.epoch_entry.specs.{declared.purpose.Entries.TheVariants.Folds, contracts.any.AnyEpochsEpochKind.TheImpl.ghosts}
use Rattle.network.specs.{Shared.FrontsStand, Groups.{GroupGrows, GroupView, IsGroup}}
use Rattle.network.proofs.{GroupSteps.{AddsFront, grown_group, have_push, others_push}, Sharing.one_more_stands}
use Rattle.network.proofs.group.Group.add_switch.Goals as goal

pub of-kind-requires : goal.of-kind-requires
of-kind-requires g c = subst IsProgram (sym c.in_ok-copy.ensures) c.requires.program

pub new-requires : goal.new-requires
new-requires g c =
    let keys = c.requires.keys in
    let long = c.len-keys.ensures in
    let kind = c.of-kind.result in
    let small = ∥∥₁_elim c.requires.program (hlevel props) (λ h.
    let of_kind = c.of-kind.ensures.kind h.0 (subst (IsProgramOf h.0) (sym c.in_ok-copy.ensures) h.1) in
    let few = c.entries_are_small.ensures Folds h.0 (ghosts.sizes kind) (ghosts.folding kind) (ghosts.open_bound kind)
    (ghosts.absorb_bound kind) c.len-keys.result h.1.valid of_kind
    (let l = c.len-keys.ensures in let k = c.requires.keys.1 in omega arith) in
    omega arith) in
    (lit< tt, (c.requires.sizes, ((let k = keys.0 in omega arith, let k = keys.1 in omega arith), small)))

pub returns-clause-is : goal.returns-clause-is
returns-clause-is g c switches registers wiring sound is =
    let p = c.self.inside in
    let part = c.args.part.now in
    let kind = c.of-kind.result in
    let view : GroupView = record { kind = p.kind; fronts = p.fronts.items; store = p.store } in
    let new = c.push.new.self.items in
    let made = c.in_ok-front.ensures in
    let adds : AddsFront kind c.args.buckets c.len-keys.result c.args.pipe_records p.fronts.items new = record {
      front = c.in_ok-front.front;
      added = c.in_ok-push.ensures.items;
      has_kind = made.kind;
      has_buckets = made.buckets;
      has_key_words = made.key;
      has_places = made.places;
    } in
    grown_group view part wiring registers switches kind c.args.buckets c.len-keys.result c.args.pipe_records new adds
    (λ f program. c.of-kind.ensures.kind f (subst (IsProgramOf f) (sym c.in_ok-copy.ensures) program)) c.requires.program c.len-keys.ensures
    sound
    (subst (IsGroup switches part wiring) (sym c.self.view_is) is)

pub returns-clause-grows : goal.returns-clause-grows
returns-clause-grows g c =
    let p = c.self.inside in
    let view : GroupView = record { kind = p.kind; fronts = p.fronts.items; store = p.store } in
    let new = c.push.new.self.items in
    let after : GroupView = record { kind = p.kind; fronts = new; store = p.store } in
    let made = c.in_ok-front.ensures in
    let front = c.in_ok-front.front in
    let added = c.in_ok-push.ensures.items in
    subst (λ v. GroupGrows g.row.WAYS c.args.buckets c.args.pipe_records v after) c.self.view_is
    (let grows : GroupGrows g.row.WAYS c.args.buckets c.args.pipe_records view after = record {
      kind = refl;
      wide = have_push (λ x. length x.cache.lists) c.args.buckets p.fronts.items new front p.kind p.store added made.buckets;
      pipes = have_push (λ x. x.pipe.places) c.args.pipe_records p.fronts.items new front p.kind p.store added made.places;
      others = others_push view _ front added;
      stands = λ events merged s. record {
        fronts = subst (λ fronts. FrontsStand ghosts.stands g.row.WAYS c.args.buckets fronts events merged) (sym added)
            (one_more_stands _ _ _ _ front _ _ made.buckets
            made.stands s.fronts);
        store = s.store;
      };
    } in grows)
