-- Where the fields are kept that are read, nothing of a packet is lost that is read from a trace.
use Rattle.std.proofs.Common.{◌≡◌, ℕ, Bool, true, false, List, [], ◌∷◌, map, Option, None, Result, Ok, refl, ap, ap₂, ◌∙◌, if◌then◌else◌}
use Rattle.std.specs.List.{zip}
use Rattle.marple_base.specs.{Field.{all_fields, has_field}, declared.field.{Field.Field, FieldSet.FieldSet, Packet.Packet}}
use Rattle.trace_reader.specs.{Traces.{column_of_field, each, word_at}, declared.fault.TraceFault.TraceFault}
use Rattle.trace_drive.{specs.{Kept.kept_of, ReadPackets.ReadPacketsAreKept}, proofs.EachPacket.{HoldsOfRead, each_packet, first_ok}}
use Rattle.trace_drive.proofs.{KeptFacts.kept_words_are, WholePackets.is_long}

-- a word, where its field is read
abbrev word_if : FieldSet → Field → ℕ → ℕ
word_if reads f word = if has_field reads f then word else 0

unread : (is_read : Bool) (column : Result (Option ℕ) TraceFault) (fields : List (List ℕ)) (f : Field) (o : Option ℕ) (word : ℕ)
    → (if is_read then column else Ok None) ≡ Ok o → word_at fields f o ≡ Ok word → (if is_read then word else 0) ≡ word
unread true column fields f o word c w = refl
unread false column fields f o word c w =
    let none : o ≡ None = cc in
    let zero : word_at fields f None ≡ Ok word = rw none at w in
    let is : 0 ≡ word = cc in
    is

words_if : (reads : FieldSet) (header fields : List (List ℕ)) (fs : List Field) (columns : List (Option ℕ)) (words : List ℕ)
    → each (column_of_field reads header) fs ≡ Ok columns
    → each (λ p. word_at fields p.0 p.1) (zip fs columns) ≡ Ok words → map (λ p. word_if reads p.0 p.1) (zip fs words) ≡ words
unfolding each
words_if reads header fields [] columns words c w = let none : [] ≡ words = cc in none
words_if reads header fields (f ∷ fs) columns words c w =
    let column = first_ok (column_of_field reads header f) (each (column_of_field reads header) fs) columns c in
    let given = rw column.4 at w in
    let word = first_ok (word_at fields f column.0) (each (λ p. word_at fields p.0 p.1) (zip fs column.1)) words given in
    let here = unread (has_field reads f) _ fields f column.0 word.0 column.2 word.2 in
    rw word.4 (ap₂ (λ x xs. x ∷ xs) here (words_if reads header fields fs column.1 word.1 column.3 word.3))

kept_all : (reads : FieldSet) → HoldsOfRead reads (λ packet. kept_of reads packet ≡ packet)
kept_all reads header fields columns packet c w =
    let long = is_long reads header fields columns packet c w in
    kept_words_are reads packet long ∙ ap (λ words. let p : Packet = record { words = words } in p)
    (words_if reads header fields all_fields columns packet.words c w)

pub read_kept : ReadPacketsAreKept
read_kept text reads = each_packet (λ packet. kept_of reads packet ≡ packet) text reads (kept_all reads)
