-- The network follows one more packet at each step, until the trace has no more or its first fault is met.
use Rattle.std.proofs.Common.{◌≡◌, ◌+◌, ◌++◌, suc, Ok, [], ◌∷◌, length, replicate, refl, sym, ap, ◌∙◌, subst, arith, append_assoc}
use Rattle.std.proofs.{Common.length-append, Math.Facts.Fits-below, lemmas.List.length-map}
use Rattle.trace_drive.specs.Drives.{words_of}
use Rattle.net_wide.specs.{NetTables.switch_in, Numbering.with_switch}
use Rattle.driven_net.specs.{Follows.NetFollows, Lags.HaveCounted, NetTraces.{fault_at, first_fault}}
use Rattle.driven_net.proofs.{Counting.{lag_clocks, none_counted}, Following.{follows_start, known_next, turns_next}}
use Rattle.driven_net.proofs.taking.take_all.Goals as goal

pub packets-init : goal.packets-init
packets-init g c =
    let trace = c.args.trace in
    let start = follows_start g.row.WAYS c.args.network c.requires.switches c.requires.fresh in
    let fresh : (f : NetFollows g.row.WAYS c.new-known.result [] c.args.network) × HaveCounted f.events (replicate 64 c.new-clocks.result) =
    subst (λ ks. (f : NetFollows g.row.WAYS ks [] c.args.network) × HaveCounted f.events (replicate 64 c.new-clocks.result))
    (sym c.new-known.ensures) (
      start.0,
      subst (λ es. HaveCounted es (replicate 64 c.new-clocks.result)) (sym start.1)
          (none_counted c.new-clocks.result c.new-clocks.ensures.counted),
    ) in
    record {
      fault = ap (λ ks. first_fault ks 1 (words_of trace.packets) trace.fault) (sym c.new-known.ensures);
      follows = ([], refl, refl, fresh.0, fresh.1, c.new-known.ensures, refl);
      keeps = record { plan = refl; buckets = refl; pipe_records = refl };
      clocks = lag_clocks c.args.lag c.new-clocks.result c.new-clocks.ensures.every c.new-clocks.ensures.counted;
      later = omega arith;
    }

pub overflow_add-number : goal.overflow_add-number
overflow_add-number g c =
    let f = c.packets.invariant.follows in
    let all = c.args.trace.packets in
    let left = c.packets.trace.packets in
    let gives = c.next_into.ensures.packet (c.in_ok-next_into.was ∙ ap Ok c.if-branch.true) in
    let total = ap length f.1 ∙ length-append f.0 (words_of left) in
    let all_long = length-map all (λ packet. packet.words) in
    let left_long = length-map left (λ packet. packet.words) in
    let one = ap length gives.packets in
    let count = f.2 in
    let few = c.requires.few in
    Fits-below {n = 4194305} tt (omega arith)

pub packets-preserved : goal.packets-preserved
packets-preserved g c =
    let was = c.packets.invariant in
    let f = was.follows in
    let n = c.packets.number in
    let known = c.packets.known in
    let now = c.take_one.new.known in
    let trace = c.packets.trace in
    let rest = c.next_into.new.self in
    let words = c.next_into.new.packet.words in
    let gives = c.next_into.ensures.packet (c.in_ok-next_into.was ∙ ap Ok c.if-branch.true) in
    let one = c.in_ok-take_one.ensures in
    let later = with_switch known (switch_in words) in
    let next = one.follows c.args.lag f.0 f.3 was.clocks f.4 in
    record {
      fault =
          was.fault
          ∙ (ap (λ ps. first_fault known (suc n) (words_of ps) trace.fault) gives.packets
          ∙ (ap (λ o. fault_at (suc n) o (first_fault later (suc (suc n)) (words_of rest.packets) trace.fault)) one.numbered.1
          ∙ (ap (λ ks. first_fault ks (suc (suc n)) (words_of rest.packets) trace.fault) (sym one.known)
          ∙ (ap (first_fault now (suc (suc n)) (words_of rest.packets)) (sym gives.fault)
          ∙ ap (λ m. first_fault now m (words_of rest.packets) rest.fault) (let same : suc (suc n) ≡ suc (n + 1) = omega arith in same)))));
      follows = (
        f.0 ++ words ∷ [],
        f.1 ∙ (ap (λ ps. f.0 ++ words_of ps) gives.packets ∙ sym (append_assoc f.0 (words ∷ []) (words_of rest.packets))),
        ap (λ m. m + 1) f.2 ∙ sym (length-append f.0 (words ∷ [])),
        next.0,
        next.1,
        known_next known now f.0 words f.5 one.known,
        turns_next g.row.WAYS c.args.lag [] f.0 words c.args.network c.packets.network c.take_one.new.network f.6
            (one.turn c.args.lag f.0 f.3 was.clocks f.4 f.5),
      );
      keeps = record {
        plan = one.keeps.plan ∙ was.keeps.plan;
        buckets = one.keeps.buckets ∙ was.keeps.buckets;
        pipe_records =
            one.keeps.pipe_records ∙ was.keeps.pipe_records;
      };
      clocks = c.take_one.ensures.clocks c.args.lag was.clocks;
      later = let a = c.take_one.ensures.steps in let b = was.later in omega arith;
    }
