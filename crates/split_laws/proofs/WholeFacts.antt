-- Runs over the texts of parts give what a run over the whole gives.
use Rattle.std.proofs.Common.{◌≡◌, ◌≢◌, ℕ, zero, suc, ◌+◌, ◌<◌, true, ◌||◌, ◌==◌, List, ◌∷◌, Option, Some, None, length, map, refl, sym, ap}
use Rattle.std.proofs.{Common.{◌∙◌, arith}, lemmas.{List.Elements.All-map, Option.{same_Some, slice_get-map}}}
use Rattle.std.specs.{Prelude.{All, slice_get, option_and_then, option_map, unwrap_or}, List.range_with_len}
use Rattle.epoch_model.{proofs.KeyLists.by_test, specs.{Epochs.Geometry, Keys.bucket_of, declared.tables.Row.Row}}
use Rattle.final_queries.specs.{Finals.top_rows, declared.table.Table.Table}
use Rattle.marple_base.specs.declared.field.{Packet.Packet, TheConstants.FIELDS}
use Rattle.query_lang.specs.TypedQueries.{IsValidQuery}
use Rattle.query_laws.specs.ValidLaws.{AcceptedAreValid}
use Rattle.query_tables.specs.Tables.{group_tables, query_tables}
use Rattle.stage_plan.specs.{Fields.reads_of, Packets.AreWhole, Shape.query_groups}
use Rattle.trace_reader.specs.Traces.{packets}
use Rattle.additive_laws.{proofs.Counts.same_number, specs.TraceLaws.has_number}
use Rattle.part_laws.{specs.{AcceptedParts.AcceptedTablesInOrder, FinalParts.{by_key, rows_of_all}}, proofs.FinalRows.same_members}
use Rattle.part_texts.proofs.BackFacts.{field_texts_read_back_lem}
use Rattle.split_laws.specs.Merging.{Merge, InOrder, TopAgain, NotMerged, group_merge, merge_at, merged, merged_rows, merges, rows_in}
use Rattle.split_laws.specs.{Merging.{table_but_for_epochs, with_rows}, WholeRuns.{EachFits, FitsOneRun, PartsAreTheRun, Split}}
use Rattle.split_laws.specs.WholeRuns.{packets_for, packets_in_part, tables_of_run, tables_of_whole, text_of_part}
use Rattle.split_laws.proofs.{FinalWalk.{Stands, walk}, GroupParts.groups_stand, Groupbys.part_named}
use Rattle.split_laws.proofs.{Headings.{headed_alike, heading, tables_headed}, PartNumbers.are_apart}
use Rattle.split_laws.proofs.{ReadPackets.{ReadsBack, all_filtered, all_traces, are_packets, same_packets}, TableMerges.joins_match}
use Rattle.trace_drive.specs.Drives.{words_of}

-- the numbers of a range are below its end
below : (a n k : ℕ) → has_number k (range_with_len a n) ≡ true → k < a + n
below a zero k e = absurd (cc e)
below a (suc n) k e = by_test (a == k)
    (λ t. let same : a ≡ k = same_number a k t in omega (arith, same))
    (λ t. let more = below (a + 1) n k (ap (λ b. b || has_number k (range_with_len (a + 1) n)) (sym t) ∙ e) in omega (arith, more))

merge_found : (known : List Merge) (k : ℕ) (how : Merge) → how ≢ NotMerged → merge_at known k ≡ how → slice_get known k ≡ Some how
merge_found known k how some e = by (slice_get known k) e
  where
    by : (o : Option Merge) → unwrap_or o NotMerged ≡ how → o ≡ Some how
    by None e = absurd (some (sym e))
    by (Some found) e = ap Some e

-- the table with the heading of another and these rows
finish : (whole others : List Table) (number : ℕ) (first : Table) (rows : List Row) → map heading whole ≡ map heading others
    → slice_get others number ≡ Some first → rows_in (slice_get whole number) ≡ rows
    → option_map table_but_for_epochs (slice_get whole number) ≡ Some (with_rows first rows)
finish whole others number first rows same at are =
    by (slice_get whole number) (sym (slice_get-map heading whole number)
    ∙ (ap (λ (hs : List Table). slice_get hs number) same ∙ (slice_get-map heading others number ∙ ap (option_map heading) at))) are
  where
    by : (o : Option Table) → option_map heading o ≡ Some (heading first) → rows_in o ≡ rows
        → option_map table_but_for_epochs o ≡ Some (with_rows first rows)
    by None e are = absurd (cc e)
    by (Some t) e are =
        ap (λ rs. Some (with_rows t rs)) are ∙ ap Some (headed_alike t first rows (same_Some (heading t) (heading first) e))

-- the packets of a part's text
pub part_read : (s : Split) (n : ℕ) → FitsOneRun s n
    → words_of (packets (text_of_part s n) (reads_of s.q)) ≡ words_of (packets_in_part s n)
part_read s n fits =
    let reads = reads_of s.q in
    let all : All (ReadsBack reads) (packets_for s.q s.traces) = all_traces reads s.traces in
    let own : All (ReadsBack reads) (packets_in_part s n) = all_filtered reads _ (packets_for s.q s.traces) all in
    ap words_of
    ((field_texts_read_back_lem reads (packets_in_part s n) (are_packets reads (packets_in_part s n) own) fits.records fits.bytes).0
    ∙ same_packets reads (packets_in_part s n) own)

pub all_whole : (s : Split) → AreWhole (words_of (packets_for s.q s.traces))
all_whole s =
    let reads = reads_of s.q in
    All-map (λ words. length words ≡ FIELDS) (λ (packet : Packet). packet.words) (packets_for s.q s.traces)
    (λ k d lt. (all_traces reads s.traces k d lt).long)

module _ (in_order : AcceptedTablesInOrder) (s : Split) (valid : IsValidQuery s.q) (g : Geometry) (caches : ℕ → Geometry) where
  abbrev sent : List Packet
  sent = packets_for s.q s.traces

  -- the tables over the packets of a part
  abbrev over_part : ℕ → List Table
  over_part n = query_tables s.q (caches n) (words_of (packets_in_part s n))

  all_stand : Stands (part_named s.fields (λ words. bucket_of s.parts (s.salt ∷ words))) (range_with_len 0 s.parts) (are_apart 0 s.parts)
      s.q.names s.q.folds (merges s.fields s.q) (tables_of_whole s.q g s.traces) over_part
  all_stand =
      walk (part_named s.fields (λ words. bucket_of s.parts (s.salt ∷ words))) (range_with_len 0 s.parts) (are_apart 0 s.parts)
      s.q.names s.q.folds s.q.finals (map (group_merge s.fields) (query_groups s.q)) (group_tables s.q g (words_of sent))
      (λ n. group_tables s.q (caches n) (words_of (packets_in_part s n)))
      (groups_stand in_order s.text s.q s.fields s.salt s.parts sent s.is_accepted s.unmade s.some (all_whole s) valid g caches s.q.names
      s.q.folds)
      (joins_match s.fields s.text s.q s.is_accepted valid)

  module _ (fits : EachFits s) (number : ℕ) where
    abbrev run_at : ℕ → Option Table
    run_at n = slice_get (tables_of_run s.q (caches n) (text_of_part s n)) number

    runs_agree : (n : ℕ) → n < s.parts → run_at n ≡ slice_get (over_part n) number
    runs_agree n less = ap (λ words. slice_get (query_tables s.q (caches n) words) number) (part_read s n (fits n less))

    rows_agree : rows_of_all (λ n. rows_in (run_at n)) (range_with_len 0 s.parts)
        ≡ rows_of_all (λ n. rows_in (slice_get (over_part n) number)) (range_with_len 0 s.parts)
    rows_agree = ap by_key
        (same_members (λ n. rows_in (run_at n)) (λ n. rows_in (slice_get (over_part n) number)) (range_with_len 0 s.parts)
        (λ n has. let less = below 0 s.parts n has in ap rows_in (runs_agree n (omega (arith, less)))))

    abbrev all_rows : List Row
    all_rows = rows_of_all (λ n. rows_in (run_at n)) (range_with_len 0 s.parts)

    by_rows : (first table : Table) → run_at 0 ≡ Some first → (rows : List Row)
        → rows_in (slice_get (tables_of_whole s.q g s.traces) number) ≡ rows → Some (with_rows first rows) ≡ Some table
        → option_map table_but_for_epochs (slice_get (tables_of_whole s.q g s.traces) number) ≡ Some table
    by_rows first table at rows are e =
        finish (tables_of_whole s.q g s.traces) (over_part 0) number first rows
        (tables_headed s.q g (caches 0) (words_of sent) (words_of (packets_in_part s 0))) (sym (runs_agree 0 s.some) ∙ at) are ∙ e

    with_first : (first table : Table) → run_at 0 ≡ Some first → (how : Merge) → merge_at (merges s.fields s.q) number ≡ how
        → option_map (with_rows first) (merged_rows how all_rows) ≡ Some table
        → option_map table_but_for_epochs (slice_get (tables_of_whole s.q g s.traces) number) ≡ Some table
    with_first first table at NotMerged is e = absurd (cc e)
    with_first first table at (InOrder keys) is e =
        let here = all_stand.each number (InOrder keys) (merge_found (merges s.fields s.q) number (InOrder keys) (λ no. cc no) is) in
        by_rows first table at all_rows (here.are.all ∙ sym rows_agree) e
    with_first first table at (TopAgain column kept) is e =
        let here = all_stand.each number (TopAgain column kept)
        (merge_found (merges s.fields s.q) number (TopAgain column kept) (λ no. cc no) is) in
        by_rows first table at (top_rows column kept all_rows) (here ∙ ap (top_rows column kept) (sym rows_agree)) e

    whole_table : (table : Table) → merged (merge_at (merges s.fields s.q) number) s.parts run_at ≡ Some table
        → option_map table_but_for_epochs (slice_get (tables_of_whole s.q g s.traces) number) ≡ Some table
    whole_table table e = by (run_at 0) refl e
      where
        by : (o : Option Table) → run_at 0 ≡ o
            → option_and_then (λ first. option_map (with_rows first)
            (merged_rows (merge_at (merges s.fields s.q) number) all_rows)) o ≡ Some table
            → option_map table_but_for_epochs (slice_get (tables_of_whole s.q g s.traces) number) ≡ Some table
        by None at e = absurd (cc e)
        by (Some first) at e = with_first first table at (merge_at (merges s.fields s.q) number) refl e

pub whole_runs : AcceptedTablesInOrder → AcceptedAreValid → PartsAreTheRun
whole_runs in_order valid s fits g caches number table e =
    whole_table in_order s (valid s.text s.q s.is_accepted) g caches fits number table e
