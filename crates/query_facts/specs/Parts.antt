-- How a trace may be split into parts that run by themselves.
use Rattle.std.specs.Prelude.{ℕ, suc, ◌+◌, ◌-◌, Bool, true, false, not, ◌&&◌, ◌||◌, nat_lt, if◌then◌else◌, List, [], ◌∷◌, filter, slice_get}
use Rattle.std.specs.{Prelude.{Option, Some, None}, List.{list_all, list_any}}
use Rattle.marple_base.specs.{declared.field.Field.Field, Field.all_fields}
use Rattle.query_lang.specs.declared.{fault.Span.Span, typed.{TypedFinal.TypedFinal, TypedFinalOp.TypedFinalOp}}
use Rattle.query_lang.specs.declared.typed.TypedFinalOp.TheVariants as final
use Rattle.query_lang.specs.declared.typed.TypedOp.{TypedOp}
use Rattle.query_lang.specs.declared.typed.TypedOp.TheVariants as op
use Rattle.query_lang.specs.declared.typed.{TypedQuery.TypedQuery, TypedStream.TypedStream}
use Rattle.net_wide.specs.Combining.{adds}
use Rattle.net_laws.specs.Fields.{names_field, makes_field}
use Rattle.query_facts.specs.declared.parts.Parts.{Parts}
use Rattle.query_facts.specs.declared.parts.Parts.TheVariants as parts
use Rattle.query_facts.specs.declared.parts.Unsplit.{Unsplit}
use Rattle.query_facts.specs.declared.parts.Unsplit.TheVariants as why
use Rattle.query_facts.specs.Needs.{groupbys, inputs_of, is_one_of, needed_tables, needed_groupbys}

-- ---- fields

-- whether a stream that is there has a column of the field's name; the columns of a groupby's stream are its keys
abbrev pub names_it : Field → List (List ℕ) → Option TypedStream → Bool
names_it field names None = false
names_it field names (Some one) = names_field field names one.columns

abbrev pub place_has_field : TypedQuery → Field → ℕ → Bool
place_has_field q field place = names_it field q.names (slice_get q.streams place)

abbrev pub all_have : TypedQuery → List ℕ → Field → Bool
all_have q places field = list_all (place_has_field q field) places

-- The field is a key of each groupby at these places, and no `map` makes a column of its name: then a partition by it keeps the
-- keys of these groupbys.
abbrev pub keeps : TypedQuery → List ℕ → Field → Bool
keeps q places field = not (makes_field field q.names q.streams) && all_have q places field

abbrev pub shared_among : TypedQuery → List ℕ → List Field → List Field
shared_among q places fields = filter (keeps q places) fields

unfoldable pub shared_fields : TypedQuery → List ℕ → List Field
shared_fields q places = shared_among q places all_fields

-- ---- finals

abbrev pub is_top : TypedFinalOp → Bool
is_top (final.Top input column kept) = true
is_top _ = false

abbrev pub is_top_final : Option TypedFinal → Bool
is_top_final None = false
is_top_final (Some one) = is_top one.op

-- whether the table with this number is that of a `top`, where there are so many groupbys
abbrev pub is_top_table : TypedQuery → ℕ → ℕ → Bool
is_top_table q groups number = if nat_lt number groups then false else is_top_final (slice_get q.finals (number - groups))

abbrev pub reads_top : TypedQuery → ℕ → TypedFinalOp → Bool
reads_top q groups op = list_any (is_top_table q groups) (inputs_of op)

-- A final groupby has to see the rows of several parts, and a `top` of the whole is made from those of the parts afterwards.
abbrev pub blocks : TypedQuery → ℕ → TypedFinalOp → Option Unsplit
blocks q groups (final.Group input keys f args) = Some why.FinalGroupby
blocks q groups op = if reads_top q groups op then Some why.FinalOfTop else None

abbrev pub or_blocked : Option Unsplit → Span → Option (Unsplit × Span) → Option (Unsplit × Span)
or_blocked (Some reason) span others = Some (reason, span)
or_blocked None span others = others

-- the first needed final that the parts don't give, where the first of these finals has this number
abbrev pub first_blocked : TypedQuery → ℕ → List ℕ → ℕ → List TypedFinal → Option (Unsplit × Span)
first_blocked q groups needs number [] = None
first_blocked q groups needs number (one ∷ rest) =
    if is_one_of needs number
    then or_blocked (blocks q groups one.op) one.name.span (first_blocked q groups needs (number + 1) rest)
    else first_blocked q groups needs (number + 1) rest

abbrev pub first_needed : List ℕ → ℕ → List TypedFinal → Option Span
first_needed needs number [] = None
first_needed needs number (one ∷ rest) = if is_one_of needs number then Some one.name.span else first_needed needs (number + 1) rest

-- ---- sums

abbrev pub adds_at : TypedQuery → TypedOp → Bool
adds_at q (op.Group input keys f args) = adds (slice_get q.folds f)
adds_at q _ = true

abbrev pub or_apart : TypedQuery → Option TypedStream → Option Span → Option Span
or_apart q None others = others
or_apart q (Some one) others = if adds_at q one.op then others else Some one.name.span

-- the first of the groupbys at these places whose fold isn't additive
abbrev pub first_not_additive : TypedQuery → List ℕ → Option Span
first_not_additive q [] = None
first_not_additive q (place ∷ rest) = or_apart q (slice_get q.streams place) (first_not_additive q rest)

abbrev pub sums_by : Option Span → Option Span → Parts
sums_by (Some span) needed = parts.No why.NotAdditive span
sums_by None (Some span) = parts.No why.FinalOfSums span
sums_by None None = parts.Sums

-- ---- all

abbrev pub by_or : List Field → Parts → Parts
by_or [] others = others
by_or (field ∷ fields) others = parts.By (field ∷ fields)

abbrev pub unless_blocked : Option (Unsplit × Span) → Parts → Parts
unless_blocked None others = others
unless_blocked (Some found) others = parts.No found.0 found.1

abbrev pub parts_by : TypedQuery → ℕ → List ℕ → List ℕ → Parts
parts_by q groups needs places =
    unless_blocked (first_blocked q groups needs groups q.finals) (
    by_or (shared_fields q places) (
    sums_by (first_not_additive q places) (first_needed needs groups q.finals)))

-- How a trace may be split for a query.
abbrev pub parts_of : TypedQuery → Parts
parts_of q =
    parts_by q (groupbys q.streams) (needed_tables q) (needed_groupbys (needed_tables q) q.streams)
