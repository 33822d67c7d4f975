-- What holds of each packet that is read from a trace.
use Rattle.std.proofs.Common.{◌≡◌, ℕ, suc, ◌+◌, List, [], ◌∷◌, length, Option, Result, Ok, Err, refl, sym, ap, ◌∙◌, arith}
use Rattle.std.{proofs.lemmas.List.Elements.{All-nil, All-cons}, specs.{List.{All, zip}, Prelude.{◌==◌, not, nat_lt}}}
use Rattle.epoch_model.proofs.KeyLists.{by_test}
use Rattle.marple_base.specs.declared.field.{Field.Field, FieldSet.FieldSet, Packet.Packet}
use Rattle.trace_reader.specs.{Reading.records, Traces.{Layout, Contents, each, with_first, columns_of_fields, words_in_columns}}
use Rattle.trace_reader.specs.Traces.{packet_with, packet_of, with_packet, contents_from, layout_with, layout_of, opening, rest_of}
use Rattle.trace_reader.specs.{Traces.{contents_with, contents, packets}, declared.fault.TheConstants.{MAX_RECORDS, MAX_TRACE}}
use Rattle.trace_reader.specs.declared.fault.TraceFault.{TraceFault}

same_ok : {A E : Type 0} (x y : A) → (let r : Result A E = Ok x in r) ≡ Ok y → x ≡ y
same_ok x y e = cc

pub not_ok : {A E : Type 0} (e : E) (x : A) → Err e ≡ Ok x → ⊥
not_ok e x h = cc

-- the first value and the others, where there is no error
pub first_ok : {A E : Type 0} (a : Result A E) (b : Result (List A) E) (ys : List A) → with_first a b ≡ Ok ys → (y : A) × (zs : List A)
    × (a ≡ Ok y) × (b ≡ Ok zs) × (ys ≡ y ∷ zs)
first_ok (Err e) b ys h = absurd (not_ok e ys h)
first_ok (Ok x) (Err e) ys h = absurd (not_ok e ys h)
first_ok (Ok x) (Ok xs) ys h = (x, xs, refl, refl, sym (same_ok (x ∷ xs) ys h))

pub each_long : {X A E : Type 0} (f : X → Result A E) (xs : List X) (ys : List A) → each f xs ≡ Ok ys → length ys ≡ length xs
unfolding each
each_long f [] ys e = ap length (sym (same_ok [] ys e))
each_long f (x ∷ xs) ys e =
    let first = first_ok (f x) (each f xs) ys e in
    ap length first.4 ∙ ap (λ n. suc n) (each_long f xs first.1 first.3)

pub zip_long : {X Y : Type 0} (xs : List X) (ys : List Y) → length xs ≡ length ys → length (zip xs ys) ≡ length xs
zip_long [] ys e = refl
zip_long (x ∷ xs) [] e = absurd (no e)
  where
    no : {n : ℕ} → suc n ≡ 0 → ⊥
    no e = omega (arith, e)
zip_long (x ∷ xs) (y ∷ ys) e = ap (λ n. suc n) (zip_long xs ys (omega (arith, e)))

-- a fact of each packet that has the words of some record, by the columns of some header
abbrev pub HoldsOfRead : FieldSet → (Packet → Type 0) → Type 0
HoldsOfRead reads P = (header fields : List (List ℕ)) (columns : List (Option ℕ)) (packet : Packet)
    → columns_of_fields reads header ≡ Ok columns
    → words_in_columns columns fields ≡ Ok packet.words → P packet

with_words : (n : ℕ) (words : Result (List ℕ) Field) (packet : Packet) → packet_with n words ≡ Ok packet → words ≡ Ok packet.words
with_words n (Err field) packet e = absurd (not_ok _ packet e)
with_words n (Ok ws) packet e = ap (λ p. Ok p.words) (same_ok (record { words = ws }) packet e)

packet_words : (layout : Layout) (n : ℕ) (fields : List (List ℕ)) (packet : Packet) → packet_of layout n fields ≡ Ok packet
    → words_in_columns layout.columns fields ≡ Ok packet.words
unfolding packet_of
packet_words layout n fields packet e = by_test (nat_lt MAX_RECORDS n)
    (λ t. absurd (not_ok _ packet (rw t at e)))
    (λ t. by_test (not (length fields == layout.width))
    (λ s. absurd (not_ok _ packet (rw (t, s) at e)))
    (λ s. with_words n (words_in_columns layout.columns fields) packet (rw (t, s) at e)))

with_one : (P : Packet → Type 0) (one : Result Packet TraceFault) (more : Contents) → ((packet : Packet) → one ≡ Ok packet → P packet)
    → All P more.packets → All P (with_packet one more).packets
with_one P (Err found) more here rest = All-nil P
with_one P (Ok packet) more here rest = All-cons P packet more.packets (here packet refl) rest

contents_each : (P : Packet → Type 0) (reads : FieldSet) (header : List (List ℕ)) (layout : Layout) (n : ℕ) (left : List (List (List ℕ)))
    → HoldsOfRead reads P → columns_of_fields reads header ≡ Ok layout.columns → All P (contents_from layout n left).packets
unfolding contents_from
contents_each P reads header layout n [] holds is = All-nil P
contents_each P reads header layout n (fields ∷ left) holds is =
    with_one P (packet_of layout n fields) (contents_from layout (n + 1) left)
    (λ packet e. holds header fields layout.columns packet is (packet_words layout n fields packet e))
    (contents_each P reads header layout (n + 1) left holds is)

-- the columns of a layout are those of the header
layout_columns : (left : List (List (List ℕ))) (reads : FieldSet) (layout : Layout) → layout_of left reads ≡ Ok layout
    → (header : List (List ℕ)) × (columns_of_fields reads header ≡ Ok layout.columns)
layout_columns [] reads layout e = absurd (not_ok _ layout e)
layout_columns (header ∷ left) reads layout e = (header, by_columns (columns_of_fields reads header) e)
  where
    by_columns : (columns : Result (List (Option ℕ)) TraceFault) → layout_with (length header) columns ≡ Ok layout
        → columns ≡ Ok layout.columns
    by_columns (Err found) e = absurd (not_ok found layout e)
    by_columns (Ok columns) e = ap (λ l. Ok l.columns) (same_ok (record { width = length header; columns = columns }) layout e)

opening_columns : (text : List ℕ) (reads : FieldSet) (layout : Layout) → opening text reads ≡ Ok layout → (header : List (List ℕ))
    × (columns_of_fields reads header ≡ Ok layout.columns)
unfolding opening
opening_columns text reads layout e = by_test (nat_lt MAX_TRACE (length text))
    (λ t. absurd (not_ok _ layout (rw t at e)))
    (λ t. layout_columns (records text) reads layout (rw t at e))

with_layout : (P : Packet → Type 0) (reads : FieldSet) (found : Result Layout TraceFault) (left : List (List (List ℕ)))
    → HoldsOfRead reads P
    → ((layout : Layout) → found ≡ Ok layout → (header : List (List ℕ)) × (columns_of_fields reads header ≡ Ok layout.columns))
    → All P (contents_with found left).packets
with_layout P reads (Err fault) left holds columns = All-nil P
with_layout P reads (Ok layout) left holds columns = let header = columns layout refl in contents_each P reads header.0 layout 1 left holds
    header.1

pub each_packet : (P : Packet → Type 0) (text : List ℕ) (reads : FieldSet) → HoldsOfRead reads P → All P (packets text reads)
unfolding contents
each_packet P text reads holds = with_layout P reads (opening text reads) (rest_of (records text)) holds (opening_columns text reads)
