-- The merges of a query's tables, and the keys of the tables that its joins join.
use Rattle.std.proofs.Common.{◌≡◌, Bool, true, false, cond, ℕ, zero, suc, ◌+◌, List, [], ◌∷◌, ◌++◌, Option, Some, Ok, length, map, refl}
use Rattle.std.proofs.{Common.{sym, ap, ◌∙◌, subst, inl, inr, arith, length-append}, lemmas.List.length-map}
use Rattle.std.proofs.lemmas.Option.{same_Some, slice_get-map, slice_get_cases, slice_get_within}
use Rattle.std.specs.Prelude.{All, slice_get, option_map, unwrap_or}
use Rattle.accepted_query.specs.Accepted.{accepted}
use Rattle.marple_base.specs.declared.field.Field.{Field}
use Rattle.query_lang.specs.declared.{query.Query.Query, typed.{Class.{Class, TheVariants.{Linear, Other}}, TypedFinal.TypedFinal}}
use Rattle.query_lang.specs.declared.typed.{TypedFinalOp.{TypedFinalOp, TheVariants.{Filter, Map, Group, Join, Top}}, TypedQuery.TypedQuery}
use Rattle.query_lang.specs.{declared.{typed.TypedStream.TypedStream, typing.Given.Given}, TypedQueries.IsValidQuery}
use Rattle.query_lang.specs.Typing.{given_of, typed_names}
use Rattle.query_laws.{proofs.Accepted.accepted_sound, specs.{Context.{finals_in, streams_in}, QueryRules.IsTyped}}
use Rattle.stage_plan.specs.Shape.{GroupShape, query_groups, text_at}
use Rattle.part_laws.specs.Parts.{groupbys}
use Rattle.split_laws.specs.Merging.{Merge, InOrder, TopAgain, NotMerged, by_class, final_merge, group_merge, has_keys, joined, merge_at}
use Rattle.split_laws.specs.Merging.{merges, merges_with, still_in_order, top_of}
use Rattle.split_laws.proofs.{FinalWalk.{JoinsMatch, here_push, merge_kept, merges_kept}, Groupbys.{groupby_at, shapes_long}}
use Rattle.split_laws.proofs.{JoinKeys.{IsMadeOf, group_keys}, JoinWalk.{all_items, counts, none_yet}}

-- ---- how a merge in order came about

in_order_from : (how : Merge) (keys : List (List ℕ)) → still_in_order how ≡ InOrder keys → how ≡ InOrder keys
in_order_from (InOrder others) keys e = e
in_order_from (TopAgain column kept) keys e = absurd (cc e)
in_order_from NotMerged keys e = absurd (cc e)

joined_from : (how other : Merge) (keys : List (List ℕ)) → joined how other ≡ InOrder keys → other ≡ InOrder keys
joined_from (InOrder others) other keys e = in_order_from other keys e
joined_from (TopAgain column kept) other keys e = absurd (cc e)
joined_from NotMerged other keys e = absurd (cc e)

no_top : (column kept : ℕ) (how : Merge) (keys : List (List ℕ)) → top_of column kept how ≡ InOrder keys → ⊥
no_top column kept (InOrder others) keys e = cc e
no_top column kept (TopAgain of_top few) keys e = cc e
no_top column kept NotMerged keys e = cc e

op_made : (known : List Merge) (finals : List TypedFinal) (op : TypedFinalOp) (keys : List (List ℕ)) → final_merge known op ≡ InOrder keys
    → IsMadeOf (merges_with known finals) keys op
op_made known finals (Filter input condition) keys e = merge_kept known finals input keys (in_order_from (merge_at known input) keys e)
op_made known finals (Map input values) keys e = merge_kept known finals input keys (in_order_from (merge_at known input) keys e)
op_made known finals (Group input slots f args) keys e = cc e
op_made known finals (Join left right) keys e =
    merge_kept known finals right keys (joined_from (merge_at known left) (merge_at known right) keys e)
op_made known finals (Top input column kept) keys e = no_top column kept (merge_at known input) keys e

final_made : (finals : List TypedFinal) (known : List Merge) (j : ℕ) (one : TypedFinal) (keys : List (List ℕ))
    → slice_get finals j ≡ Some one → merge_at (merges_with known finals) (length known + j) ≡ InOrder keys
    → IsMadeOf (merges_with known finals) keys one.op
final_made [] known j one keys e is = absurd (cc e)
final_made (first ∷ finals) known zero one keys e is =
    let how : Merge = final_merge known first.op in
    let same : length known + 0 ≡ length known = omega arith in
    let there = merges_kept finals (known ++ how ∷ []) (length known + 0) how (here_push known how (length known + 0) (sym same)) in
    let here : how ≡ InOrder keys = ap (λ (o : Option Merge). unwrap_or o NotMerged) (sym there) ∙ is in
    subst (λ (z : TypedFinal). IsMadeOf (merges_with known (first ∷ finals)) keys z.op) (same_Some first one e)
    (op_made known (first ∷ finals) first.op keys here)
final_made (first ∷ finals) known (suc j) one keys e is =
    let how : Merge = final_merge known first.op in
    let same : length known + suc j ≡ length (known ++ how ∷ []) + j = omega (arith, length-append known (how ∷ [])) in
    final_made finals (known ++ how ∷ []) j one keys e
    (ap (merge_at (merges_with (known ++ how ∷ []) finals)) (sym same) ∙ is)

class_made : (class : Class) (names keys : List (List ℕ)) → by_class class names ≡ InOrder keys → names ≡ keys
class_made Linear names keys e = cc e
class_made Other names keys e = absurd (cc e)

group_kept : (fields : List Field) (shape : GroupShape) (keys : List (List ℕ)) → group_merge fields shape ≡ InOrder keys
    → shape.key_names ≡ keys
group_kept fields shape keys = by (has_keys fields shape.key_names)
  where
    by : (b : Bool) → cond b (by_class shape.class shape.key_names) NotMerged ≡ InOrder keys → shape.key_names ≡ keys
    by true e = class_made shape.class shape.key_names keys e
    by false e = absurd (cc e)

module _ (fields : List Field) (q : TypedQuery) (valid : IsValidQuery q) where
  keys_long : length (group_keys q.streams) ≡ length (query_groups q)
  keys_long = length-map (groupbys q) (λ (one : TypedStream). one.columns) ∙ sym (shapes_long q valid)

  group_made : (j : ℕ) (columns : List ℕ) (keys : List (List ℕ)) → slice_get (group_keys q.streams) j ≡ Some columns
      → merge_at (merges fields q) j ≡ InOrder keys → keys ≡ map (text_at q.names) columns
  group_made j columns keys e is = elim ((slice_get_cases (query_groups q) j).1) [
    | inl found ↦
        let shape : GroupShape = found.0 in
        let at = groupby_at q valid j found.0 found.2 in
        let listed : slice_get (map (group_merge fields) (query_groups q)) j ≡ Some (group_merge fields found.0) =
        slice_get-map (group_merge fields) (query_groups q) j ∙ ap (option_map (group_merge fields)) found.2 in
        let here : group_merge fields found.0 ≡ InOrder keys = ap (λ (o : Option Merge). unwrap_or o NotMerged)
        (sym (merges_kept q.finals (map (group_merge fields) (query_groups q)) j (group_merge fields found.0) listed)) ∙ is in
        let own : Some at.one.columns ≡ Some columns = sym (slice_get-map (λ (one : TypedStream). one.columns) (groupbys q) j
        ∙ ap (option_map (λ (one : TypedStream). one.columns)) at.at) ∙ e in
        sym (group_kept fields found.0 keys here)
        ∙ (ap (λ (s : GroupShape). s.key_names) at.is ∙ ap (map (text_at q.names)) (same_Some at.one.columns columns own))
    | inr past ↦ absurd (let less = slice_get_within (group_keys q.streams) j columns e in omega (arith, less, past.0, keys_long))
  ]

  final_of : (j : ℕ) (one : TypedFinal) (keys : List (List ℕ)) → slice_get q.finals j ≡ Some one
      → merge_at (merges fields q) (length (query_groups q) + j) ≡ InOrder keys → IsMadeOf (merges fields q) keys one.op
  final_of j one keys e is =
      final_made q.finals (map (group_merge fields) (query_groups q)) j one keys e
      (ap (λ n. merge_at (merges fields q) (n + j)) (length-map (query_groups q) (group_merge fields)) ∙ is)

typed_match : (fields : List Field) (q : TypedQuery) → IsValidQuery q → (query : Query) → IsTyped query q
    → All (λ one. JoinsMatch (merges fields q) one.op) q.finals
typed_match fields q valid query typed =
    let names : List (List ℕ) = typed_names query.names in
    let streams : q.streams ≡ streams_in typed.items = ap (λ (z : TypedQuery). z.streams) typed.is in
    let finals : q.finals ≡ finals_in typed.items = ap (λ (z : TypedQuery). z.finals) typed.is in
    let same : q.names ≡ names = ap (λ (z : TypedQuery). z.names) typed.is in
    let given : Given = given_of names query.items in
    let counted = counts given names [] query.items typed.items typed.typed in
    let few = counted.few (omega arith) in
    let keys = counted.keys refl in
    let long : length (group_keys q.streams) ≡ length (group_keys (streams_in typed.items)) = ap (λ ss. length (group_keys ss)) streams in
    let groups : given.groups ≡ length (query_groups q) = omega (arith, counted.count_is, few, keys, long, keys_long fields q valid) in
    let of_group = λ (j : ℕ) (columns : List ℕ) (found : List (List ℕ)) (at : slice_get (group_keys q.streams) j ≡ Some columns)
    (is : merge_at (merges fields q) j ≡ InOrder found).
    group_made fields q valid j columns found at is ∙ ap (λ ns. map (text_at ns) columns) same in
    let holds = all_items names (length (query_groups q)) (merges fields q) q.streams q.finals
    of_group (final_of fields q valid) given [] query.items
    typed.items groups typed.typed streams finals
    (none_yet names (length (query_groups q)) (merges fields q) q.streams q.finals of_group (final_of fields q valid)) in
    subst (λ fs. All (λ (one : TypedFinal). JoinsMatch (merges fields q) one.op) fs) (sym finals) holds.match

-- the tables that an accepted text joins have the same keys
pub joins_match : (fields : List Field) (text : List ℕ) (q : TypedQuery) → accepted text ≡ Ok q → IsValidQuery q
    → All (λ one. JoinsMatch (merges fields q) one.op) q.finals
joins_match fields text q e valid = let p = accepted_sound text q e in typed_match fields q valid p.query p.typed
