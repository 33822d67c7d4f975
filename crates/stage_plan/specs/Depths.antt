-- The depths of what a typed query computes while packets pass, and where they pass the greatest number of stages.
use Rattle.std.specs.Prelude.{ℕ, ◌+◌, max, nat_lt, Bool, if◌then◌else◌, List, [], ◌∷◌, ◌++◌, length, map, fold, flat_map, drop, replicate}
use Rattle.std.specs.{Prelude.{slice_get, slice_index, Option, Some, None, unwrap_or}, List.list_any}
use Rattle.marple_base.specs.declared.field.TheConstants.{FIELDS}
use Rattle.query_lang.specs.declared.fault.{FaultKind.TheVariants.OverLimit, Limit.TheVariants.Stages, QueryFault.QueryFault}
use Rattle.query_lang.specs.declared.{fold.{TypedExpr.TypedExpr, TypedFold.TypedFold}, typed.TypedOp.TypedOp}
use Rattle.query_lang.specs.declared.typed.{TypedOp.TheVariants.{Filter, Map, Zip, Group}, TypedQuery.TypedQuery, TypedStream.TypedStream}
use Rattle.query_lang.specs.{Terms.{Term, Literal, Read, Negation, Operation, term_of}, Streams.values_at}
use Rattle.query_lang.specs.declared.fault.TheConstants.{MAX_STAGES}

-- the depth of an expression over columns of these depths: a number has 0, and each operator or function, with `!`, is one operation,
-- 1 deeper than the deepest of its operands
abbrev pub term_depth : List ℕ → Term → ℕ
term_depth columns (Literal n) = 0
term_depth columns (Read s) = slice_index columns s
term_depth columns (Negation e) = 1 + term_depth columns e
term_depth columns (Operation op a b) = 1 + max (term_depth columns a) (term_depth columns b)

-- the depths of its operations: those of the left side, those of the right, and its own
abbrev pub term_depths : List ℕ → Term → List ℕ
term_depths columns (Literal n) = []
term_depths columns (Read s) = []
term_depths columns (Negation e) = term_depths columns e ++ (1 + term_depth columns e) ∷ []
term_depths columns (Operation op a b) =
    term_depths columns a ++ (term_depths columns b ++ (1 + max (term_depth columns a) (term_depth columns b)) ∷ [])

-- the depths that belong to a stream: those of its operations in order, of its presence, and of its columns
pub record StreamDepths : Type 0 where
  pub operations : List ℕ
  pub present : ℕ
  pub columns : List ℕ

-- the packets: nothing is computed for them
abbrev pub packet_depths : StreamDepths
packet_depths = record { operations = []; present = 0; columns = replicate FIELDS 0 }

abbrev pub depths_at : List StreamDepths → ℕ → StreamDepths
depths_at streams number = unwrap_or (slice_get streams number) (record { operations = []; present = 0; columns = [] })

-- a condition joined with a presence: one more operation after those of the condition
abbrev pub joined_depths : List ℕ → Term → ℕ → List ℕ → StreamDepths
joined_depths over condition present columns =
    let joined = 1 + max present (term_depth over condition) in
    record { operations = term_depths over condition ++ joined ∷ []; present = joined; columns = columns }

-- a groupby without an `emit` has no stream, and else its emit condition is one over the initial state and the arguments
abbrev pub emit_depths : Option TypedExpr → ℕ → List ℕ → ℕ → List ℕ → StreamDepths
emit_depths None states args present columns = record { operations = []; present = 0; columns = columns }
emit_depths (Some condition) states args present columns = joined_depths (replicate states 0 ++ args) (term_of condition) present columns

abbrev pub group_depths : Option TypedFold → StreamDepths → List ℕ → List ℕ → StreamDepths
group_depths None input keys args = record { operations = []; present = 0; columns = values_at input.columns keys }
group_depths (Some f) input keys args =
    emit_depths f.emit (length f.initial) (values_at input.columns args) input.present (values_at input.columns keys)

abbrev pub depths_made : List TypedFold → List StreamDepths → TypedOp → StreamDepths
depths_made folds streams (Filter input condition) =
    let source = depths_at streams input in joined_depths source.columns (term_of condition) source.present source.columns
depths_made folds streams (Map input values) =
    let source = depths_at streams input in
    record {
      operations = flat_map (λ e. term_depths source.columns (term_of e)) values;
      present = source.present;
      columns = source.columns ++ map (λ e. term_depth source.columns (term_of e)) values;
    }
depths_made folds streams (Zip left right slots) =
    let joined = 1 + max (depths_at streams left).present (depths_at streams right).present in
    record {
      operations = joined ∷ [];
      present = joined;
      columns = (depths_at streams left).columns ++ values_at (depths_at streams right).columns slots;
    }
depths_made folds streams (Group input keys f args) = group_depths (slice_get folds f) (depths_at streams input) keys args

-- the depths of all streams in order: the packets, and then what each operator makes
abbrev pub all_depths : TypedQuery → List StreamDepths
all_depths q = fold (λ streams one. streams ++ depths_made q.folds streams one.op ∷ []) (packet_depths ∷ []) q.streams

-- The depths of all operations, in the order in which they are made.
abbrev pub query_depths : TypedQuery → List ℕ
query_depths q = flat_map (λ one. one.operations) (all_depths q)

-- some operation is deeper than MAX_STAGES
abbrev pub is_too_deep : List ℕ → Bool
is_too_deep depths = list_any (λ depth. nat_lt MAX_STAGES depth) depths

-- the fault of the first stream that is too deep, where these are the depths of the streams
abbrev pub first_too_deep : List TypedStream → List StreamDepths → Option QueryFault
first_too_deep (one ∷ streams) (depths ∷ rest) =
    if is_too_deep depths.operations then Some (record { kind = OverLimit Stages; span = one.name.span }) else first_too_deep streams rest
first_too_deep _ _ = None

-- More than MAX_STAGES stages would be needed, at the name of the first stream that needs them.
abbrev pub stage_fault : TypedQuery → Option QueryFault
stage_fault q = first_too_deep q.streams (drop 1 (all_depths q))
