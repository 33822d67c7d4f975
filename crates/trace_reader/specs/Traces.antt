-- The packets of a trace, and its first fault.
use Rattle.std.specs.Prelude.{ℕ, ◌+◌, ◌==◌, not, nat_lt, if◌then◌else◌, List, [], ◌∷◌, length, Option, Some, None, Result, Ok, Err}
use Rattle.std.specs.{Prelude.unwrap_or, List.zip, Option.ok_or, Str.bytes_eq}
use Rattle.csv.specs.Records.{field_at}
use Rattle.marple_base.specs.{Field.{all_fields, field_name, has_field}, declared.field.{Field.Field, FieldSet.FieldSet, Packet.Packet}}
use Rattle.trace_reader.specs.{Numbers.{without_blanks, word_of_text}, Reading.records}
use Rattle.trace_reader.specs.declared.fault.{TheConstants.{MAX_RECORDS, MAX_TRACE}, TraceFault.TraceFault}
use Rattle.trace_reader.specs.declared.fault.TraceFault.TheVariants as fault

abbrev pub with_first : {A E : Type 0} → Result A E → Result (List A) E → Result (List A) E
with_first (Err e) rest = Err e
with_first (Ok x) (Err e) = Err e
with_first (Ok x) (Ok xs) = Ok (x ∷ xs)

-- a value for each item of a list, in order, or the first error
unfoldable pub each : {X A E : Type 0} → (X → Result A E) → List X → Result (List A) E
each f [] = Ok []
each f (x ∷ xs) = with_first (f x) (each f xs)

-- the columns, counted from `at`, that have this name in a header
abbrev pub columns_named : List ℕ → ℕ → List (List ℕ) → List ℕ
columns_named name at [] = []
columns_named name at (text ∷ rest) =
    if bytes_eq (without_blanks text) name then at ∷ columns_named name (at + 1) rest else columns_named name (at + 1) rest

-- the one column of a field, of those that have its name
abbrev pub only_column : Field → List ℕ → Result (Option ℕ) TraceFault
only_column field [] = Err (fault.FieldMissing field)
only_column field (column ∷ []) = Ok (Some column)
only_column field (column ∷ next ∷ rest) = Err (fault.FieldTwice field)

-- the column of a field in a header, none where it isn't read
abbrev pub column_of_field : FieldSet → List (List ℕ) → Field → Result (Option ℕ) TraceFault
column_of_field reads header field = if has_field reads field then only_column field (columns_named (field_name field) 0 header) else Ok
    None

-- the column of each field in a header, or the header's first fault
abbrev pub columns_of_fields : FieldSet → List (List ℕ) → Result (List (Option ℕ)) TraceFault
columns_of_fields reads header = each (column_of_field reads header) all_fields

-- the text at a column, empty where there is none
abbrev pub field_text_at : List (List ℕ) → ℕ → List ℕ
field_text_at fields column = unwrap_or (field_at fields column) []

-- the word of a field in a record, 0 where it isn't read; the field, where its text is no number
abbrev pub word_at : List (List ℕ) → Field → Option ℕ → Result ℕ Field
word_at fields field None = Ok 0
word_at fields field (Some column) = ok_or (word_of_text field (without_blanks (field_text_at fields column))) field

-- the word of each field in a record, or the first read field that is no number
abbrev pub words_in_columns : List (Option ℕ) → List (List ℕ) → Result (List ℕ) Field
words_in_columns columns fields = each (λ p. word_at fields p.0 p.1) (zip all_fields columns)

-- where the fields of a trace are
pub record Layout : Type 0 where
  pub width : ℕ
  pub columns : List (Option ℕ)

abbrev pub packet_with : ℕ → Result (List ℕ) Field → Result Packet TraceFault
packet_with n (Ok words) = Ok (record { words = words })
packet_with n (Err field) = Err (fault.BadNumber n field)

-- the packet of data record n, or its first fault
unfoldable pub packet_of : Layout → ℕ → List (List ℕ) → Result Packet TraceFault
packet_of layout n fields =
    if nat_lt MAX_RECORDS n then Err fault.TooManyPackets
    else if not (length fields == layout.width) then Err (fault.FieldCount n)
    else packet_with n (words_in_columns layout.columns fields)

-- the packets of a trace up to its first fault
pub record Contents : Type 0 where
  pub packets : List Packet
  pub fault : Option TraceFault

abbrev pub with_packet : Result Packet TraceFault → Contents → Contents
with_packet (Err found) rest = record { packets = []; fault = Some found }
with_packet (Ok packet) rest = record { packets = packet ∷ rest.packets; fault = rest.fault }

-- what data records from number n on contain
unfoldable pub contents_from : Layout → ℕ → List (List (List ℕ)) → Contents
contents_from layout n [] = record { packets = []; fault = None }
contents_from layout n (fields ∷ rest) = with_packet (packet_of layout n fields) (contents_from layout (n + 1) rest)

abbrev pub layout_with : ℕ → Result (List (Option ℕ)) TraceFault → Result Layout TraceFault
layout_with width (Err found) = Err found
layout_with width (Ok columns) = Ok (record { width = width; columns = columns })

-- the layout that the first record gives, or the fault of a trace as a whole or of its header
abbrev pub layout_of : List (List (List ℕ)) → FieldSet → Result Layout TraceFault
layout_of [] reads = Err fault.NoHeader
layout_of (header ∷ data_records) reads = layout_with (length header) (columns_of_fields reads header)

unfoldable pub opening : List ℕ → FieldSet → Result Layout TraceFault
opening text reads = if nat_lt MAX_TRACE (length text) then Err fault.TraceTooLong else layout_of (records text) reads

abbrev pub rest_of : {A : Type 0} → List A → List A
rest_of [] = []
rest_of (x ∷ xs) = xs

abbrev pub contents_with : Result Layout TraceFault → List (List (List ℕ)) → Contents
contents_with (Err found) data_records = record { packets = []; fault = Some found }
contents_with (Ok layout) data_records = contents_from layout 1 data_records

-- what a trace contains
unfoldable pub contents : List ℕ → FieldSet → Contents
contents text reads = contents_with (opening text reads) (rest_of (records text))

-- the packets before a trace's first fault, all of them where there is none
abbrev pub packets : List ℕ → FieldSet → List Packet
packets text reads = (contents text reads).packets

-- the first fault of a trace
abbrev pub trace_fault : List ℕ → FieldSet → Option TraceFault
trace_fault text reads = (contents text reads).fault
