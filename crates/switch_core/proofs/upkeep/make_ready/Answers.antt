-- A full pipe merges once, and any other is left as it is.
use Rattle.std.proofs.Common.{◌≡◌, true, false, length, refl, sym, ap, ◌∙◌, subst, le-add_right, le_refl, length-drop}
use Rattle.std.{proofs.lemmas.Bool.ltb-true, specs.Prelude.nat_lt}
use Rattle.switch_core.{specs.FrontEvents.{CarriesAll, with_store}, proofs.Carrying.keeps_start}
use Rattle.switch_core.proofs.Emptying.{left_fewer, left_same, room_none, room_one}
use Rattle.switch_core.proofs.upkeep.make_ready.Goals as goal

pub returns-then-ready : goal.returns-then-ready
returns-then-ready g c =
    let front = c.args.front.now in
    let room : nat_lt (length front.pipe.records) front.pipe.places ≡ true = sym c.ready.ensures ∙ c.if-ready.true in
    record {
      carries =
          let here = with_store front c.args.store.now in
          subst (λ events. CarriesAll g.K.EpochKind.stands g.K.EpochKind.folding g.row.WAYS events here here)
          (sym (room_none front.pipe.places (length front.pipe.records) room)) refl;
      err = tt;
      ready = ltb-true _ _ room;
      waiting = sym (left_same front.pipe.places (length front.pipe.records) room);
      cache = refl;
      sizes = keeps_start (with_store c.args.front.now c.args.store.now);
      steps = le_refl _;
      cost = le-add_right _ _;
    }

pub returns : goal.returns
returns g c =
    let front = c.args.front.now in
    let full : nat_lt (length front.pipe.records) front.pipe.places ≡ false = sym c.ready.ensures ∙ c.if-ready.false in
    record {
      carries =
          let new = with_store c.make_room.new.front c.make_room.new.store in
          subst (λ events. CarriesAll g.K.EpochKind.stands g.K.EpochKind.folding g.row.WAYS events (with_store front c.args.store.now) new)
          (sym (room_one front.pipe.places (length front.pipe.records) full)) c.in_ok-make_room.ensures.carries;
      err = tt;
      ready = c.in_ok-make_room.ensures.ready;
      waiting = ap length c.in_ok-make_room.ensures.records ∙ (length-drop 1 front.pipe.records
          ∙ sym (left_fewer front.pipe.places (length front.pipe.records) full));
      cache = c.make_room.ensures.cache;
      sizes = c.make_room.ensures.sizes;
      steps = c.make_room.ensures.steps;
      cost = c.make_room.ensures.cost;
    }

pub returns-in_err-make_room-clause-sizes : goal.returns-in_err-make_room-clause-sizes
returns-in_err-make_room-clause-sizes g c = c.make_room.ensures.sizes
