-- What a fault says of something that is asked: it isn't so.
use Rattle.std.proofs.Common.{◌≡◌, ℕ, zero, suc, ◌<◌, List, [], ◌∷◌, subst, inl, inr, arith}
use Rattle.query_lang.specs.declared.fault.FaultKind.TheVariants as kinds
use Rattle.query_lang.specs.declared.fault.Limit.{Limit}
use Rattle.query_laws.proofs.Terms.{FaultKind, Span, Known, IsFree, Kind, Word, Condition, other_kind, StandsAt, IsNew}
use Rattle.query_laws.proofs.{ExprFaults.one_kind, NameFaults.not_free, NameLaws.meaning_complete}
use Rattle.query_laws.specs.Demands.{AStream, ATable, AFold, AQuietFold, Sought, IsSought, Demand, Free, Stands, AColumn, New, Target}
use Rattle.query_laws.specs.Demands.{Typed, Two, Constant, Kept, Fewer, Same, Apart, SameKeys, ReadsNone, OneEmit, most, Holds, IsUnknown}
use Rattle.query_laws.specs.Demands.{IsHiddenState, IsTaken, IsOtherKind, IsOtherArity, IsBadConstant, IsOneTooMany, Tells}

stands_taken : (names : List ℕ) (place id : ℕ) → StandsAt names place id → IsNew id names → ⊥
stands_taken [] _ _ h _ = absurd h
stands_taken (_ ∷ _) zero _ h new = new.0 h
stands_taken (_ ∷ rest) (suc place) id h new = stands_taken rest place id h.1 new.1

sought_taken : (known : List Known) (sought : Sought) (id : ℕ) → IsSought known sought id → IsFree known id → ⊥
sought_taken known AStream id h = not_free known id (meaning_complete known id h.1)
sought_taken known ATable id (t, inl h) = not_free known id (meaning_complete known id h)
sought_taken known ATable id (t, inr h) = not_free known id (meaning_complete known id h.1)
sought_taken known AFold id h = not_free known id (meaning_complete known id h.1)
sought_taken known AQuietFold id h = not_free known id (meaning_complete known id h.1)

unknown_unmet : (known : List Known) (at : Span) (d : Demand) → IsUnknown known at d → Holds known d → ⊥
unknown_unmet _ _ (Stands _ x) t h = sought_taken _ _ _ h t.1
unknown_unmet _ _ (AColumn _ _ _ _) t h = stands_taken _ _ _ h.1 t.1
unknown_unmet _ _ (Target _ _ x) t h = stands_taken _ _ _ h.1 t.1
unknown_unmet _ _ _ t h = absurd t

hidden_unmet : (known : List Known) (at : Span) (d : Demand) → IsHiddenState at d → Holds known d → ⊥
hidden_unmet _ _ (AColumn _ _ _ _) t h = stands_taken _ _ _ h.1 t.1
hidden_unmet _ _ (ReadsNone _ c) t h = t.3 (h t.0 t.1)
hidden_unmet _ _ _ t h = absurd t

taken_unmet : (known : List Known) (at : Span) (d : Demand) → IsTaken known at d → Holds known d → ⊥
taken_unmet _ _ (Free x) t h = t.1 h
taken_unmet _ _ (New _ _ _) t h = t.1 h
taken_unmet _ _ (Same _ _ _) t h = t.1 h
taken_unmet _ _ (Apart _ _ _) t h = t.1 h
taken_unmet _ _ _ t h = absurd t

not_other : (k : Kind) → other_kind k ≡ k → ⊥
not_other Word e = cc e
not_other Condition e = cc e

kind_unmet : (known : List Known) (at : Span) (d : Demand) → IsOtherKind known at d → Holds known d → ⊥
kind_unmet _ _ (Stands _ x) t h = t.2 h
kind_unmet _ _ (Typed _ _ e) t h = not_other _ (one_kind t.1.1 h.1)
kind_unmet _ _ (Target _ _ x) t h = stands_taken _ _ _ h.1 t.1
kind_unmet _ _ (SameKeys _ _ _) t h = t.1 h
kind_unmet _ _ _ t h = absurd t

arity_unmet : (known : List Known) (at : Span) (d : Demand) → IsOtherArity at d → Holds known d → ⊥
arity_unmet _ _ (Two _ _) t h = t.1 h
arity_unmet _ at (OneEmit _) t h = h at t
arity_unmet _ _ _ t h = absurd t

constant_unmet : (known : List Known) (at : Span) (d : Demand) → IsBadConstant at d → Holds known d → ⊥
constant_unmet _ _ (Constant _ e) t h = t.1 h
constant_unmet _ _ (Kept _ _) t h = t.1 h
constant_unmet _ _ _ t h = absurd t

limit_unmet : (known : List Known) (limit : Limit) (at : Span) (d : Demand) → IsOneTooMany limit at d → Holds known d → ⊥
limit_unmet _ limit _ (Fewer _ count _) t h =
    let below : count < most limit = subst (λ z. count < most z) t.0 h in
    absurd (omega (arith, below, t.2))
limit_unmet _ _ _ _ t h = absurd t

pub unmet : (known : List Known) (kind : FaultKind) (at : Span) (d : Demand) → Tells known kind at d → Holds known d → ⊥
unmet _ kinds.UnknownName _ d t = unknown_unmet _ _ d t
unmet _ kinds.StateOnLine _ d t = hidden_unmet _ _ d t
unmet _ kinds.NameTaken _ d t = taken_unmet _ _ d t
unmet _ kinds.WrongKind _ d t = kind_unmet _ _ d t
unmet _ kinds.WrongArity _ d t = arity_unmet _ _ d t
unmet _ kinds.BadConstant _ d t = constant_unmet _ _ d t
unmet _ (kinds.OverLimit _) _ d t = limit_unmet _ _ _ d t
unmet _ _ _ d t = absurd t
