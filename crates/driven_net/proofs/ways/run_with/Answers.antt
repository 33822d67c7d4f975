-- The packets of the bytes pass the network, whose tables are printed; what breaks the run off says so of what was written.
use Rattle.std.proofs.Common.{◌≡◌, ◌<◌, ◌≤◌, ◌*◌, ℕ, List, OnOk, IfErr, Some, Err, None, [], length, refl, sym, ap, ◌∙◌, subst, arith, lit<}
use Rattle.std.proofs.KnownBytes.{Appends-nil}
use Rattle.std.specs.Io.KnownBytes.{Appends}
use Rattle.query_lang.specs.declared.typed.TypedQuery.{TypedQuery}
use Rattle.command_line.specs.{Command.ways_number, declared.setting.Ways.Ways}
use Rattle.command_line.specs.declared.setting.Ways.TheVariants as ways
use Rattle.final_queries.specs.{declared.table.Table.Table, Finals.with_finals}
use Rattle.query_tables.specs.Tables.{printed}
use Rattle.stage_plan.specs.Packets.{AreWhole}
use Rattle.trace_drive.specs.{Answers.{BreaksOff, answer_for}, Drives.words_of, declared.answer.RunError.TheVariants.Memory}
use Rattle.trace_drive.proofs.Breaking.{err_is, out_of_memory, reader_breaks, then_ok}
use Rattle.trace_reader.specs.{Traces.opening, Upcoming.{Upcoming, upcoming_of}, declared.fault.TheConstants.MAX_RECORDS}
use Rattle.net_wide.specs.NetTables.{caches_of, net_tables, net_text}
use Rattle.driven_net.specs.NetTraces.{fault_ahead, net_packets, net_reads, net_trace_fault}
use Rattle.driven_net.proofs.{Ends.text_is, Opening.{opening_fault, refused_as}}
use Rattle.driven_net.proofs.ways.run_with.Goals as goal
use Rattle.driven_net.proofs.ways.run_with.Goals.{In_ok-tables, In_ok-trace}

-- what is printed of the tables of a network with these buckets
text_of : (q : TypedQuery) (buckets set ways : ℕ) (packets : List (List ℕ)) (tables : List Table) → buckets ≡ set
    → tables ≡ net_tables q (caches_of buckets ways) packets
    → printed q (with_finals q.names q.folds tables q.finals) ≡ net_text q set ways packets
text_of q buckets set ways packets tables same are =
    text_is q buckets ways packets tables (printed q (with_finals q.names q.folds tables q.finals)) are refl
    ∙ ap (λ b. net_text q b ways packets) same

-- each number of ways is positive
some_ways : (ways : Ways) → 0 < ways_number ways
some_ways ways.One = omega arith
some_ways ways.Two = omega arith
some_ways ways.Four = omega arith
some_ways ways.Eight = omega arith
some_ways ways.Sixteen = omega arith
some_ways ways.ThirtyTwo = omega arith

-- the trace that was opened has what the bytes contain for the query
opened : (g : _) (c : In_ok-trace g) → c.in_ok-trace.trace ≡ upcoming_of c.args.bytes.now (net_reads c.args.query.typed)
opened g c = c.in_ok-trace.ensures.opened ∙ ap (upcoming_of c.args.bytes.now) (c.net_reads.ensures c.args.query.typed c.requires.plan)

pub returns-in_err-trace-clause-breaks_off : goal.returns-in_err-trace-clause-breaks_off
returns-in_err-trace-clause-breaks_off g c =
    let out = c.args.out.now in
    let q = c.args.query.typed in
    let bytes = c.args.bytes.now in
    let answer = c.in_err-trace.field-0.0 in
    let text = net_text q c.args.setting.buckets (ways_number c.args.setting.ways) (words_of (net_packets bytes q)) in
    let fault = net_trace_fault bytes q in
    err_is (BreaksOff g.O.Sink.taken g.O.Sink.faults text fault out out) c.from_residual.result (answer_for answer)
    c.from_residual.ensures.1
    (reader_breaks g.O.Sink.taken g.O.Sink.faults text fault out out [] text refl (λ found is. (refl, refl))
    (Appends-nil (g.O.Sink.taken out)) answer
    (refused_as answer (λ found. opening bytes c.net_reads.result ≡ Err found) (λ found. fault ≡ Some found)
    (λ found e. opening_fault bytes (net_reads q) found (ap (opening bytes) (sym (c.net_reads.ensures q c.requires.plan)) ∙ e))
    c.in_err-trace.ensures.opening))

pub returns-in_err-network-clause-breaks_off : goal.returns-in_err-network-clause-breaks_off
returns-in_err-network-clause-breaks_off g c =
    let out = c.args.out.now in
    let q = c.args.query.typed in
    let answer = c.in_err-network.field-0.0 in
    let text = net_text q c.args.setting.buckets (ways_number c.args.setting.ways) (words_of (net_packets c.args.bytes.now q)) in
    let fault = net_trace_fault c.args.bytes.now q in
    err_is (BreaksOff g.O.Sink.taken g.O.Sink.faults text fault out out) c.from_residual-in_err-network.result (answer_for answer)
    c.from_residual-in_err-network.ensures.1
    (reader_breaks g.O.Sink.taken g.O.Sink.faults text fault out out [] text refl (λ found is. (refl, refl))
    (Appends-nil (g.O.Sink.taken out)) answer
    (refused_as answer (λ found. fault_ahead c.in_ok-trace.trace ≡ Some found) (λ found. fault ≡ Some found)
    (λ found e. ap fault_ahead (sym (opened g (goal.at.returns-in_err-network-clause-breaks_off g c).In_ok-trace)) ∙ e)
    c.in_err-network.ensures.refused))

pub returns-in_err-tables-clause-breaks_off : goal.returns-in_err-tables-clause-breaks_off
returns-in_err-tables-clause-breaks_off g c =
    let out = c.args.out.now in
    let q = c.args.query.typed in
    let text = net_text q c.args.setting.buckets (ways_number c.args.setting.ways) (words_of (net_packets c.args.bytes.now q)) in
    let fault = net_trace_fault c.args.bytes.now q in
    err_is (BreaksOff g.O.Sink.taken g.O.Sink.faults text fault out out) c.from_residual-in_err-tables.result Memory
    c.from_residual-in_err-tables.ensures.1
    (out_of_memory g.O.Sink.taken g.O.Sink.faults text fault out)

pub returns-clause-accepted : goal.returns-clause-accepted
returns-clause-accepted g c = then_ok c.write_text.result _ _
    (λ written. ap fault_ahead (sym (opened g (goal.at.returns-clause-accepted g c).In_ok-trace)) ∙ c.in_ok-network.ensures.accepted)
    c.write_text.ensures.written

-- the tables' text is that of the bytes' packets
written : (g : _) (c : In_ok-tables g) → (let q = c.args.query.typed in let tables = c.in_ok-tables.tables in
    printed q (with_finals q.names q.folds tables q.finals)
    ≡ net_text q c.args.setting.buckets (ways_number c.args.setting.ways) (words_of (net_packets c.args.bytes.now q)))
written g c =
    let q = c.args.query.typed in
    let trace = c.in_ok-trace.trace in
    let f = c.in_ok-network.ensures.follows in
    let network = c.in_ok-network.network in
    let whole : AreWhole (words_of trace.packets) = subst (λ (t : Upcoming). AreWhole (words_of t.packets))
    (sym c.in_ok-trace.ensures.opened) (c.read_packets_are_whole.ensures c.args.bytes.now c.net_reads.result) in
    text_of q network.buckets c.args.setting.buckets g.row.WAYS (words_of trace.packets) c.in_ok-tables.tables
    c.in_ok-network.ensures.buckets (c.in_ok-tables.ensures.tables f.0 (words_of trace.packets) whole f.1)
    ∙ (ap (λ n. net_text q c.args.setting.buckets n (words_of trace.packets)) (sym c.requires.ways)
    ∙ ap (λ (t : Upcoming). net_text q c.args.setting.buckets (ways_number c.args.setting.ways) (words_of t.packets))
    (c.in_ok-trace.ensures.opened ∙ ap (upcoming_of c.args.bytes.now) (c.net_reads.ensures q c.requires.plan)))

pub returns-clause-written : goal.returns-clause-written
returns-clause-written g c =
    subst (λ text. OnOk c.write_text.result (Appends (g.O.Sink.taken c.args.out.now) (g.O.Sink.taken c.write_text.new.out) text))
    (written g (goal.at.returns-clause-written g c).In_ok-tables) c.write_text.ensures.written

pub returns-clause-breaks_off : goal.returns-clause-breaks_off
returns-clause-breaks_off g c =
    let q = c.args.query.typed in
    let old = c.args.out.now in
    let new = c.write_text.new.out in
    let text = net_text q c.args.setting.buckets (ways_number c.args.setting.ways) (words_of (net_packets c.args.bytes.now q)) in
    let none = ap fault_ahead (sym (opened g (goal.at.returns-clause-breaks_off g c).In_ok-trace)) ∙ c.in_ok-network.ensures.accepted in
    subst (λ fault. IfErr c.write_text.result (BreaksOff g.O.Sink.taken g.O.Sink.faults text fault old new)) (sym none)
    (subst (λ text. IfErr c.write_text.result (BreaksOff g.O.Sink.taken g.O.Sink.faults text None old new))
    (written g (goal.at.returns-clause-breaks_off g c).In_ok-tables) c.write_text.ensures.breaks_off)

pub network_after-requires : goal.network_after-requires
network_after-requires g c =
    let is = c.requires.setting in
    let places = is.places in
    let same : c.args.setting.buckets * g.row.WAYS ≡ c.args.setting.buckets * ways_number c.args.setting.ways =
    ap (λ n. c.args.setting.buckets * n) (sym c.requires.ways) in (
      lit< tt,
      (
        record {
          some_ways = subst (λ n. 0 < n) c.requires.ways (some_ways c.args.setting.ways);
          some_buckets = is.some_buckets;
          places = omega arith;
          some_records = is.some_records;
          most_records = let most = is.records in omega arith;
        },
        subst (λ (t : Upcoming). length t.packets ≤ MAX_RECORDS) (sym c.in_ok-trace.ensures.opened)
            (c.read_packets_are_few.ensures c.args.bytes.now c.net_reads.result),
      ),
    )
