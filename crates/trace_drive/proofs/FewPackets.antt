-- A trace has no more packets than it may have records.
use Rattle.std.proofs.Common.{◌≡◌, ℕ, refl, ◌+◌, ◌≤◌, List, [], ◌∷◌, length, true, Result, Ok, Err, arith, nat_lt}
use Rattle.std.proofs.lemmas.Bool.Decides.{nat_tests}
use Rattle.epoch_model.proofs.KeyLists.{by_test}
use Rattle.marple_base.specs.declared.field.Packet.{Packet}
use Rattle.trace_reader.specs.Reading.{records}
use Rattle.trace_reader.specs.Traces.{Layout, contents_from, contents_with, contents, opening, packet_of, rest_of, with_packet}
use Rattle.trace_reader.specs.declared.fault.{TheConstants.MAX_RECORDS, TraceFault.TraceFault}
use Rattle.trace_drive.specs.ReadPackets.{ReadPacketsAreFew}

-- a record beyond the limit gives no packet
none_beyond : (layout : Layout) (n : ℕ) (fields : List (List ℕ)) (p : Packet) → MAX_RECORDS + 1 ≤ n → packet_of layout n fields ≡ Ok p → ⊥
unfolding packet_of
none_beyond layout n fields p beyond is = let test : nat_lt MAX_RECORDS n ≡ true = grind (arith, nat_tests) in no_packet (rw test at is)
  where
    no_packet : {fault : TraceFault} → Err fault ≡ Ok p → ⊥
    no_packet e = cc

few_from : (layout : Layout) (n : ℕ) (rows : List (List (List ℕ))) → n ≤ MAX_RECORDS + 1 → length (contents_from layout n rows).packets
    + n ≤ MAX_RECORDS + 1
unfolding contents_from
few_from layout n [] within = omega arith
few_from layout n (fields ∷ rows) within = by_packet (packet_of layout n fields) (λ p is beyond. none_beyond layout n fields p beyond is)
    (λ below. few_from layout (n + 1) rows below)
  where
    by_packet : (found : Result Packet TraceFault) → ((p : Packet) → found ≡ Ok p → MAX_RECORDS + 1 ≤ n → ⊥)
        → (n + 1 ≤ MAX_RECORDS + 1 → length (contents_from layout (n + 1) rows).packets + (n + 1) ≤ MAX_RECORDS + 1)
        → length (with_packet found (contents_from layout (n + 1) rows)).packets + n ≤ MAX_RECORDS + 1
    by_packet (Err fault) none more = omega arith
    by_packet (Ok p) none more =
        by_test (nat_lt n (MAX_RECORDS + 1))
        (λ below. let few = more (grind (arith, nat_tests)) in omega arith)
        (λ beyond. absurd (none p refl (grind (arith, nat_tests))))

few_with : (found : Result Layout TraceFault) (left : List (List (List ℕ))) → length (contents_with found left).packets ≤ MAX_RECORDS
few_with (Err fault) left = omega arith
few_with (Ok layout) left = let few = few_from layout 1 left (omega arith) in omega arith

pub read_few : ReadPacketsAreFew
unfolding contents
read_few text reads = few_with (opening text reads) (rest_of (records text))
