-- Records that no quote begins a field of, where they stand in a text.
use Rattle.std.specs.Prelude.{◌≡◌, ℕ, ◌-◌, ◌<◌, ◌≤◌, ◌==◌, ◌&&◌, ◌||◌, ◌⊎◌, Bool, true, false, nat_le, if◌then◌else◌, List, [], ◌∷◌, length}
use Rattle.std.specs.{Prelude.{get_or, take, drop, map}, List.All}
use Rattle.csv.specs.Reading.{strip_bom}
use Rattle.csv.specs.declared.parser.State.TheVariants as st
use Rattle.trace_reader.specs.{Reading.records_after, declared.plain.Span.Span}

abbrev pub ends_line : ℕ → Bool
ends_line byte = (byte == 13) || (byte == 10)

abbrev pub ends_field : ℕ → Bool
ends_field byte = (byte == 44) || ends_line byte

-- a span stands within a text
pub record IsInside (text : List ℕ) (span : Span) : Type 0 where
  pub ordered : span.start ≤ span.end
  pub within : span.end ≤ length text

-- the part of a text at a span, empty where the text ends before
abbrev pub part_of : List ℕ → Span → List ℕ
part_of text span =
    if nat_le span.start span.end && nat_le span.end (length text) then take (span.end - span.start) (drop span.start text) else []

-- the fields that stand at these spans
abbrev pub fields_at : List ℕ → List Span → List (List ℕ)
fields_at text spans = map (part_of text) spans

-- the first place from a place on at which a field ends
pub record IsEnd (text : List ℕ) (from end : ℕ) : Type 0 where
  pub ordered : from ≤ end
  pub within : end < length text
  pub goes_on : (k : ℕ) → from ≤ k → k < end → ends_field (get_or text k 0) ≡ false
  pub ends : ends_field (get_or text end 0) ≡ true

-- a field without a quote at its start begins and ends here
pub record IsField (text : List ℕ) (start end : ℕ) : Type 0 where
  pub unquoted : (get_or text start 0 == 34) ≡ false
  pub ended : IsEnd text start end

-- a line ends right before this place
pub record IsAfterLine (text : List ℕ) (at : ℕ) : Type 0 where
  pub some : 0 < at
  pub within : at ≤ length text
  pub ended : ends_line (get_or text (at - 1) 0) ≡ true

-- the first of the records that a text has from a place on stands at these spans, and its line ends before the next place
pub record IsRecord (text : List ℕ) (from : ℕ) (spans : List Span) (next : ℕ) : Type 0 where
  pub after : IsAfterLine text next
  pub first : records_after st.StartRecord (drop from text) ≡ fields_at text spans ∷ records_after st.StartRecord (drop next text)
  pub inside : All (IsInside text) spans

-- a record may begin at this place: the text begins there, but for a byte order mark, or a line ends right before
abbrev pub IsBetween : List ℕ → ℕ → Type 0
IsBetween text at = IsAfterLine text at ⊎ (drop at text ≡ strip_bom text)
