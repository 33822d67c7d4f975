-- Which queries have bounds, and the fault of one that has none.
use Rattle.std.specs.Prelude.{◌≡◌, ℕ, Bool, true, List, [], ◌∷◌, slice_get, Option, Some, None, option_and_then, if◌then◌else◌}
use Rattle.query_lang.specs.declared.{fault.{FaultKind.TheVariants.NotMonotone, QueryFault.QueryFault}, fold.TypedFold.TypedFold}
use Rattle.query_lang.specs.declared.{query.Name.Name, typed.{Class.{Class, TheVariants.{Linear, Other}}, TypedQuery.TypedQuery}}
use Rattle.query_lang.specs.{declared.typed.TypedStream.TypedStream, Streams.taking_of}
use Rattle.fold_class.specs.Kinds.{class_of}
use Rattle.stage_plan.specs.Planned.{fold_at}
use Rattle.enclosure_folds.specs.Kinds.{is_monotone}

-- a linear fold has its value, and any other fold has bounds where it is monotone
abbrev pub is_bounded : Class → TypedFold → Bool
is_bounded Linear f = true
is_bounded Other f = is_monotone f

-- a groupby of a fold that is neither linear nor monotone has a fault at its name
abbrev pub fold_fault : Name → Option TypedFold → Option QueryFault
fold_fault name None = None
fold_fault name (Some f) = if is_bounded (class_of f) f then None else Some (record { kind = NotMonotone; span = name.span })

-- a stream that is no groupby has none
abbrev pub stream_fault : List TypedFold → TypedStream → Option QueryFault
stream_fault folds one = fold_fault one.name (option_and_then (λ t. slice_get folds t.fold_number) (taking_of one.op))

abbrev pub or_else : Option QueryFault → Option QueryFault → Option QueryFault
or_else None later = later
or_else (Some fault) later = Some fault

-- the first fault of a groupby
abbrev pub first_fault : List TypedFold → List TypedStream → Option QueryFault
first_fault folds [] = None
first_fault folds (one ∷ streams) = or_else (stream_fault folds one) (first_fault folds streams)

-- The fault of a query whose groupbys have no bounds: it is at the name of the first groupby whose fold is neither linear nor monotone.
abbrev pub enclose_fault : TypedQuery → Option QueryFault
enclose_fault q = first_fault q.folds q.streams

-- Each groupby of a query without this fault has its value or bounds.
abbrev pub NoFaultMeansBounds : Type 0
NoFaultMeansBounds = (q : TypedQuery) (i : ℕ) (f : TypedFold) → enclose_fault q ≡ None → fold_at q i ≡ Some f
    → is_bounded (class_of f) f ≡ true
