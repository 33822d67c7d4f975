-- The tables that a query's prints need. Tables are numbered with the groupbys first, and then the finals.
use Rattle.std.specs.{Prelude.{ℕ, suc, ◌+◌, Bool, true, false, List, [], ◌∷◌, ◌++◌, map, count_by, nat_eq, if◌then◌else◌}, List.list_any}
use Rattle.query_lang.specs.declared.typed.PrintOf.{PrintOf}
use Rattle.query_lang.specs.declared.typed.PrintOf.TheVariants as place
use Rattle.query_lang.specs.declared.typed.{TypedFinal.TypedFinal, TypedFinalOp.TypedFinalOp}
use Rattle.query_lang.specs.declared.typed.TypedFinalOp.TheVariants as final
use Rattle.query_lang.specs.declared.typed.TypedOp.{TypedOp}
use Rattle.query_lang.specs.declared.typed.TypedOp.TheVariants as op
use Rattle.query_lang.specs.declared.typed.{TypedQuery.TypedQuery, TypedStream.TypedStream}

abbrev pub is_one_of : List ℕ → ℕ → Bool
is_one_of numbers n = list_any (λ one. nat_eq one n) numbers

abbrev pub is_groupby : TypedOp → Bool
is_groupby (op.Group input keys f args) = true
is_groupby _ = false

abbrev pub groupbys : List TypedStream → ℕ
groupbys streams = count_by (λ one. is_groupby one.op) streams

-- the number of a printed table, where there are so many groupbys
abbrev pub table_of : ℕ → PrintOf → ℕ
table_of groups (place.Group i) = i
table_of groups (place.Final i) = groups + i

-- the tables that a final reads
abbrev pub inputs_of : TypedFinalOp → List ℕ
inputs_of (final.Filter input condition) = input ∷ []
inputs_of (final.Map input values) = input ∷ []
inputs_of (final.Group input keys f args) = input ∷ []
inputs_of (final.Join left right) = left ∷ right ∷ []
inputs_of (final.Top input column kept) = input ∷ []

-- the needed tables with those that the final with this number reads, where it is needed
abbrev pub with_inputs : List ℕ → ℕ → TypedFinalOp → List ℕ
with_inputs needs number op = if is_one_of needs number then needs ++ inputs_of op else needs

-- Finals read earlier tables, so what they need is found from the last to the first. The first has this number.
abbrev pub needs_from : ℕ → List TypedFinal → List ℕ → List ℕ
needs_from number [] needs = needs
needs_from number (one ∷ rest) needs = with_inputs (needs_from (number + 1) rest needs) number one.op

-- The tables that are printed, or that a needed final reads.
abbrev pub needed_tables : TypedQuery → List ℕ
needed_tables q = needs_from (groupbys q.streams) q.finals (map (table_of (groupbys q.streams)) q.prints)

-- the places of needed groupbys among these streams, of which the first has this place, and the first groupby this number
abbrev pub needed_from : List ℕ → ℕ → ℕ → List TypedStream → List ℕ
needed_from needs place group [] = []
needed_from needs place group (one ∷ rest) =
    if is_groupby one.op
    then (if is_one_of needs group then place ∷ needed_from needs (place + 1) (group + 1) rest
    else needed_from needs (place + 1) (group + 1) rest)
    else needed_from needs (place + 1) group rest

abbrev pub needed_groupbys : List ℕ → List TypedStream → List ℕ
needed_groupbys needs streams = needed_from needs 0 0 streams
