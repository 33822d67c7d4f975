-- Fields that each groupby has as a key.
use Rattle.std.proofs.Common.{◌≡◌, ℕ, suc, zero, ◌<◌, Bool, true, false, cond, not, List, [], ◌∷◌, length, Some, slice_get, refl, sym, ap}
use Rattle.std.proofs.{Common.{◌∙◌, arith}, lemmas.{Bool.and_parts, List.Elements.{All-nil, All-cons, All-weaker}}}
use Rattle.std.specs.{Prelude.{All, filter, is_some}, List.list_all}
use Rattle.marple_base.specs.declared.field.Field.{Field}
use Rattle.net_laws.specs.Fields.{makes_field, names_field}
use Rattle.query_lang.specs.{Streams.taking_of, declared.typed.TypedOp.{TypedOp, TheVariants.{Filter, Map, Zip, Group}}}
use Rattle.query_lang.specs.declared.typed.{TypedQuery.TypedQuery, TypedStream.TypedStream}
use Rattle.part_laws.specs.{AcceptedParts.AcceptedFieldsKeepKeys, Parts.{HasFieldKey, groupbys}}
use Rattle.epoch_model.specs.Keys.{bucket_of}
use Rattle.split_fields.specs.{SplitLaws.ByHashKeepsKeys, Splits.{all_keyed, is_keyed, may_split}}

takes : (field : Field) (names : List (List ℕ)) (columns : List ℕ) (op : TypedOp) → is_some (taking_of op) ≡ true
    → is_keyed field names columns op ≡ true
    → names_field field names columns ≡ true
takes field names columns (Filter input condition) is keyed = absurd (cc is)
takes field names columns (Map input values) is keyed = absurd (cc is)
takes field names columns (Zip left right slots) is keyed = absurd (cc is)
takes field names columns (Group input keys f args) is keyed = keyed

-- a groupby of these streams, by its number
keyed_at : (field : Field) (names : List (List ℕ)) (streams : List TypedStream) (i : ℕ) → all_keyed field names streams ≡ true
    → i < length (filter (λ (one : TypedStream). is_some (taking_of one.op)) streams)
    → (one : TypedStream) × (slice_get (filter (λ (one : TypedStream). is_some (taking_of one.op)) streams) i ≡ Some one)
    × (names_field field names one.columns ≡ true)
keyed_at field names [] i all within = absurd (omega arith)
keyed_at field names (one ∷ streams) i all within =
    let both = and_parts (is_keyed field names one.columns one.op) (all_keyed field names streams) all in
    by (is_some (taking_of one.op)) refl i within (λ k less. keyed_at field names streams k both.1 less) both.0
  where
    by : (b : Bool) → is_some (taking_of one.op) ≡ b → (i : ℕ)
        → i < length (cond b (one ∷ filter (λ (s : TypedStream). is_some (taking_of s.op)) streams)
        (filter (λ (s : TypedStream). is_some (taking_of s.op)) streams))
        → ((k : ℕ) → k < length (filter (λ (s : TypedStream). is_some (taking_of s.op)) streams)
        → (found : TypedStream) × (slice_get (filter (λ (s : TypedStream). is_some (taking_of s.op)) streams) k ≡ Some found)
        × (names_field field names found.columns ≡ true))
        → is_keyed field names one.columns one.op ≡ true
        → (found : TypedStream)
        × (slice_get (cond b (one ∷ filter (λ (s : TypedStream). is_some (taking_of s.op)) streams)
        (filter (λ (s : TypedStream). is_some (taking_of s.op)) streams)) i ≡ Some found)
        × (names_field field names found.columns ≡ true)
    by true e zero less more keyed = (one, refl, takes field names one.columns one.op e keyed)
    by true e (suc k) less more keyed = more k (omega arith)
    by false e k less more keyed = more k less

-- so a field by which a trace may be split is a key of each groupby
key_of : (q : TypedQuery) (i : ℕ) (field : Field) → i < length (groupbys q) → may_split q field ≡ true → HasFieldKey q i field
key_of q i field within may =
    let both = and_parts (all_keyed field q.names q.streams) (not (makes_field field q.names q.streams)) may in
    let at = keyed_at field q.names q.streams i both.0 within in
    record { one = at.0; groupby = at.1; key = at.2; unmade = not_false (makes_field field q.names q.streams) both.1 }
  where
    not_false : (b : Bool) → not b ≡ true → b ≡ false
    not_false true e = absurd (cc e)
    not_false false e = refl

pub by_hash_keeps_keys_lem : AcceptedFieldsKeepKeys → ByHashKeepsKeys
by_hash_keeps_keys_lem keep text q i fields salt parts is within may =
    keep text q i fields (λ words. bucket_of parts (salt ∷ words)) is
    (All-weaker (λ field. may_split q field ≡ true) (HasFieldKey q i) (λ field holds. key_of q i field within holds) fields may)
