-- Packets of which only some fields are kept.
use Rattle.std.proofs.Common.{◌≡◌, ℕ, zero, suc, ◌+◌, ◌*◌, ◌<◌, ◌≤◌, Bool, true, false, List, [], ◌∷◌, ◌++◌, Some, length, map, drop}
use Rattle.std.proofs.Common.{get_or, set, refl, sym, ap, ap₂, ◌∙◌, subst, arith, append_assoc, length-append, if◌then◌else◌}
use Rattle.std.proofs.lemmas.List.{drop-append-le, drop-drop, drop_more, get_or_at, length-drop, nil_from_length, set_at}
use Rattle.std.specs.{Prelude.replicate, List.{slice_get, zip}}
use Rattle.marple_base.specs.{Field.{all_fields, has_field, number_of}, declared.field.{Field.Field, FieldSet.FieldSet, Packet.Packet}}
use Rattle.marple_base.specs.declared.field.TheConstants.{FIELDS}
use Rattle.trace_drive.specs.{Kept.{Kept, fields_among, fields_kept, kept_of, packet_in, word_in, written}, KeptView.{IsSound, kept_in}}
use Rattle.trace_drive.specs.{KeptView.packets_in, declared.kept.KeptPackets.TheInside.Inside}

-- the fields have the numbers from n on
abbrev AreFrom : ℕ → List Field → Type 0
AreFrom n [] = Unit {0}
AreFrom n (f ∷ fs) = (number_of f ≡ n) × AreFrom (n + 1) fs

all_from : AreFrom 0 all_fields
all_from = (refl, (refl, (refl, (refl, (refl, (refl, (refl, (refl, (refl, (refl, (refl, (refl, (refl, (refl, tt))))))))))))))

one_longer : (n : ℕ) (front : List ℕ) (word : ℕ) → n ≡ length front → n + 1 ≡ length (front ++ word ∷ [])
one_longer n front word at = omega (arith, length-append front (word ∷ []))

-- where all words after those so far are 0, the words of fields among these are written
spread_one : (is_in : Bool) (f : Field) (fs : List Field) (h : Field → ℕ) (front zeros rest : List ℕ) → number_of f ≡ length front
    → ((word : ℕ) → written fs (map h fs) ((front ++ word ∷ []) ++ zeros) ≡ (front ++ word ∷ []) ++ rest)
    → written (if is_in then f ∷ fs else fs) (map h (if is_in then f ∷ fs else fs)) (front ++ 0 ∷ zeros) ≡ front
    ++ (if is_in then h f else 0) ∷ rest
spread_one true f fs h front zeros rest at more =
    ap (written fs (map h fs)) (set_at front 0 zeros (h f) (number_of f) (sym at) ∙ sym (append_assoc front (h f ∷ []) zeros))
    ∙ more (h f) ∙ append_assoc front (h f ∷ []) rest
spread_one false f fs h front zeros rest at more =
    ap (written fs (map h fs)) (sym (append_assoc front (0 ∷ []) zeros)) ∙ more 0 ∙ append_assoc front (0 ∷ []) rest

spread : (set : FieldSet) (h : Field → ℕ) (fs : List Field) (n : ℕ) (front : List ℕ) → n ≡ length front → AreFrom n fs
    → written (fields_among fs set) (map h (fields_among fs set)) (front ++ replicate (length fs) 0) ≡ front
    ++ map (λ f. if has_field set f then h f else 0) fs
unfolding fields_among
spread set h [] n front at from = refl
spread set h (f ∷ fs) n front at from =
    spread_one (has_field set f) f (fields_among fs set) h front (replicate (length fs) 0)
    (map (λ f. if has_field set f then h f else 0) fs) (from.0 ∙ at)
    (λ word. spread set h fs (n + 1) (front ++ word ∷ []) (one_longer n front word at) from.1)

-- of a packet whose words are kept, the fields that aren't kept are 0
pub kept_is : (set : FieldSet) (packet : Packet) → packet_in (fields_kept set) (map (word_in packet) (fields_kept set)) ≡ kept_of set packet
unfolding kept_of
kept_is set packet = ap (λ words. let p : Packet = record { words = words } in p)
    (spread set (word_in packet) all_fields 0 [] refl all_from)

-- words by the numbers of their fields, and by their places
by_place : (m : Field → ℕ → ℕ) (fs : List Field) (n : ℕ) (front rest : List ℕ) → n ≡ length front → AreFrom n fs → length rest ≡ length fs
    → map (λ f. m f (get_or (front ++ rest) (number_of f) 0)) fs ≡ map (λ p. m p.0 p.1) (zip fs rest)
by_place m [] n front rest at from long = refl
by_place m (f ∷ fs) n front [] at from long = absurd (omega arith)
by_place m (f ∷ fs) n front (word ∷ rest) at from long =
    let here : get_or (front ++ word ∷ rest) (number_of f) 0 ≡ word = get_or_at front word rest 0 (number_of f) (sym (from.0 ∙ at)) in
    let later = by_place m fs (n + 1) (front ++ word ∷ []) rest (one_longer n front word at) from.1 (omega arith) in
    ap₂ (λ x xs. m f x ∷ xs) here
    (subst (λ words. map (λ f. m f (get_or words (number_of f) 0)) fs ≡ map (λ p. m p.0 p.1) (zip fs rest))
    (append_assoc front (word ∷ []) rest) later)

-- where a packet has a word for each field, the words that are kept are those of the fields beside them
pub kept_words_are : (set : FieldSet) (packet : Packet) → length packet.words ≡ FIELDS
    → kept_of set packet ≡ record { words = map (λ p. if has_field set p.0 then p.1 else 0) (zip all_fields packet.words) }
unfolding kept_of
kept_words_are set packet long =
    ap (λ words. let p : Packet = record { words = words } in p) (by_place (λ f word. if has_field set f then word else 0) all_fields 0 []
    packet.words refl all_from long)

-- the next field is in the set, or isn't
pub among_one : (set : FieldSet) (fs : List Field) (i : ℕ) (d : Field) → i < length fs → has_field set (get_or fs i d) ≡ true
    → fields_among (drop i fs) set ≡ get_or fs i d ∷ fields_among (drop (i + 1) fs) set
unfolding fields_among
among_one set fs i d within is_in = rw (drop_more fs i d within, is_in) refl

pub among_other : (set : FieldSet) (fs : List Field) (i : ℕ) (d : Field) → i < length fs → has_field set (get_or fs i d) ≡ false
    → fields_among (drop i fs) set ≡ fields_among (drop (i + 1) fs) set
unfolding fields_among
among_other set fs i d within is_in = rw (drop_more fs i d within, is_in) refl

pub among_none : (set : FieldSet) → fields_among [] set ≡ []
unfolding fields_among
among_none set = refl

-- packets

pub packets_long : (fields : List Field) (count : ℕ) (words : List ℕ) → length (packets_in fields count words) ≡ count
unfolding packets_in
packets_long fields zero words = refl
packets_long fields (suc count) words = ap (λ n. suc n) (packets_long fields count (drop (length fields) words))

written_before : (fields : List Field) (words more old : List ℕ) → length fields ≤ length words
    → written fields (words ++ more) old ≡ written fields words old
written_before [] words more old enough = refl
written_before (f ∷ fields) [] more old enough = absurd (omega arith)
written_before (f ∷ fields) (word ∷ words) more old enough = written_before fields words more (set old (number_of f) word) (omega arith)

one_times : (count width : ℕ) → suc count * width ≡ width + count * width
one_times count width = omega arith

-- one packet more
pub packets_more : (fields : List Field) (count : ℕ) (words row : List ℕ) → length words ≡ count * length fields
    → packets_in fields (suc count) (words ++ row) ≡ packets_in fields count words ++ packet_in fields row ∷ []
unfolding packets_in
packets_more fields zero words row long =
    let none : length words ≡ 0 = omega arith in
    rw (nil_from_length words none) refl
packets_more fields (suc count) words row long =
    let width = length fields in
    let all = one_times count width in
    let enough : width ≤ length words = omega arith in
    let rest : length (drop width words) ≡ count * width = omega (arith, length-drop width words) in
    let first : packet_in fields (words ++ row) ≡ packet_in fields words =
    ap (λ ws. let p : Packet = record { words = ws } in p) (written_before fields words row (replicate FIELDS 0) enough) in
    ap₂ (λ x xs. x ∷ xs) first
    (ap (packets_in fields (suc count)) (drop-append-le width words row enough) ∙ packets_more fields count (drop width words) row rest)

-- the packet at a place
pub packet_at : (fields : List Field) (count : ℕ) (words : List ℕ) (at : ℕ) → at < count
    → slice_get (packets_in fields count words) at ≡ Some (packet_in fields (drop (at * length fields) words))
unfolding packets_in
packet_at fields zero words at within = absurd (omega arith)
packet_at fields (suc count) words zero within = let none : 0 * length fields ≡ 0 = omega arith in rw none refl
packet_at fields (suc count) words (suc at) within =
    let width = length fields in
    packet_at fields count (drop width words) at (omega arith)
    ∙ ap (λ ws. Some (packet_in fields ws)) (drop-drop (at * width) width words ∙ ap (λ n. drop n words) (sym (one_times at width)))

-- the words of a packet at a place are there
pub place_within : (at count width : ℕ) → at < count → at * width + width ≤ count * width
place_within at zero width within = absurd (omega arith)
place_within zero (suc count) width within = omega (arith, one_times count width)
place_within (suc at) (suc count) width within = omega (
  arith,
  one_times at width,
  one_times count width,
  place_within at count width
      (omega arith),
)

pub packet_there : (kept : Inside) (view : Kept) (at width : ℕ) → kept_in kept ≡ view → at < length view.packets → IsSound kept
    → length kept.fields.items ≡ width → at * width + width ≤ length kept.words
packet_there kept view at width is within sound wide =
    let count = packets_long kept.fields.items kept.count kept.words in
    let same = ap (λ k. length k.packets) is in
    omega (arith, place_within at kept.count width (omega arith), sound.words ∙ ap (λ n. kept.count * n) wide)

-- a packet more, with 0 in the fields that aren't kept
pub kept_more : (set : FieldSet) (fields : List Field) (count : ℕ) (words : List ℕ) (packet : Packet) → fields ≡ fields_kept set
    → length words ≡ count * length fields
    → packets_in fields (count + 1) (words ++ map (word_in packet) fields) ≡ packets_in fields count words ++ kept_of set packet ∷ []
kept_more set fields count words packet all long =
    let next : count + 1 ≡ suc count = omega arith in
    let row : packet_in fields (map (word_in packet) fields) ≡ kept_of set packet = rw all (kept_is set packet) in
    ap (λ n. packets_in fields n (words ++ map (word_in packet) fields)) next
    ∙ (packets_more fields count words (map (word_in packet) fields) long
    ∙ ap (λ p. packets_in fields count words ++ p ∷ []) row)
