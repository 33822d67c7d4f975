-- The items of a typed query, one after the other: the tables that its joins join have the same keys.
use Rattle.std.proofs.Common.{◌≡◌, ℕ, ◌+◌, ◌≤◌, Bool, true, false, cond, List, [], ◌∷◌, ◌++◌, Some, length, map, refl, sym, ap, ◌∙◌, subst}
use Rattle.std.proofs.{Common.{arith, append-nil, append_assoc, length-append}, lemmas.List.Elements.{All-nil, All-cons, All-push}}
use Rattle.std.{proofs.lemmas.List.Sums.sum_by-cons, specs.Prelude.{All, count_by, is_some, slice_get}}
use Rattle.query_lang.specs.declared.query.Item.{Item}
use Rattle.query_lang.specs.declared.query.Item.TheVariants as item
use Rattle.query_lang.specs.declared.query.StreamOp.{StreamOp}
use Rattle.query_lang.specs.declared.query.StreamOp.TheVariants as ops
use Rattle.query_lang.specs.declared.{typed.{TypedFinal.TypedFinal, TypedStream.TypedStream}, typing.{Given.Given, Known.Known}}
use Rattle.query_lang.specs.{declared.typing.MadeStream.MadeStream, Streams.taking_of, TypedFinals.five_fields, TypedStreams.column_names}
use Rattle.query_lang.specs.{Typing.{is_group, is_groupby}, declared.fault.TheConstants.MAX_GROUPBYS}
use Rattle.query_laws.specs.Context.{Entry, AFold, AStream, AFinal, APrint, finals_in, groups_in, known_in, streams_in}
use Rattle.query_laws.specs.{QueryRules.{HasItem, HasItems, of_none, of_more}, StreamRules.HasStream}
use Rattle.stage_plan.specs.Shape.{text_at}
use Rattle.split_laws.{specs.Merging.{Merge, InOrder, merge_at}, proofs.FinalWalk.JoinsMatch}
use Rattle.split_laws.proofs.JoinKeys.{IsMadeOf, OneNamed, group_keys, group_keys-append, made_final, made_stream, next_of}

-- ---- items come after those before them

-- these come after the streams and finals before
pub record Grows (before all : List Entry) : Type 0 where
  pub streams : List TypedStream
  pub finals : List TypedFinal
  pub are_streams : streams_in all ≡ streams_in before ++ streams
  pub are_finals : finals_in all ≡ finals_in before ++ finals

one_grows : (one : Entry) (before : List Entry) → Grows before (one ∷ before)
one_grows (AFold f) before = record {
  streams = [];
  finals = [];
  are_streams = sym (append-nil (streams_in before));
  are_finals = sym (append-nil (finals_in before));
}
one_grows (AStream name made) before = record {
  streams = record { name = name; columns = column_names made.columns; op = made.op } ∷ [];
  finals = [];
  are_streams = refl;
  are_finals = sym (append-nil (finals_in before));
}
one_grows (AFinal name made) before = record {
  streams = [];
  finals = record { name = name; columns = made.columns; keys = made.keys; op = made.op } ∷ [];
  are_streams = sym (append-nil (streams_in before));
  are_finals = refl;
}
one_grows (APrint name table) before = record {
  streams = [];
  finals = [];
  are_streams = sym (append-nil (streams_in before));
  are_finals = sym (append-nil (finals_in before));
}

grows_on : (before more all : List Entry) → Grows before more → Grows more all → Grows before all
grows_on before more all g h = record {
  streams = g.streams ++ h.streams;
  finals = g.finals ++ h.finals;
  are_streams = h.are_streams ∙ (ap (λ ss. ss ++ h.streams) g.are_streams ∙ append_assoc (streams_in before) g.streams h.streams);
  are_finals = h.are_finals ∙ (ap (λ fs. fs ++ h.finals) g.are_finals ∙ append_assoc (finals_in before) g.finals h.finals);
}

grows : (given : Given) (names : List (List ℕ)) (before : List Entry) (list : List Item) (all : List Entry)
    → HasItems given names before list all → Grows before all
grows given names _ _ _ (of_none before) = record {
  streams = [];
  finals = [];
  are_streams = sym (append-nil (streams_in before));
  are_finals = sym (append-nil (finals_in before));
}
grows given names _ _ _ (of_more before i one rest all h more) =
    grows_on before (one ∷ before) all (one_grows one before) (grows given names (one ∷ before) rest all more)

-- ---- groupbys are counted

-- a stream has a table where it is a groupby's
pub record IsCounted (op : StreamOp) (made : MadeStream) (before : ℕ) : Type 0 where
  pub tables : is_some made.table ≡ is_some (taking_of made.op)
  pub groups : is_some made.table ≡ is_group op
  pub few : before ≤ MAX_GROUPBYS → before + cond (is_some made.table) 1 0 ≤ MAX_GROUPBYS

counted : (five : List ℕ) (known : List Known) (number before : ℕ) (op : StreamOp) (made : MadeStream)
    → HasStream five known number before op made → IsCounted op made before
counted five known number before (ops.Filter input e) made h =
    subst (λ (m : MadeStream). IsCounted (ops.Filter input e) m before) (sym h.is)
    (record { tables = refl; groups = refl; few = λ most. omega (arith, most) })
counted five known number before (ops.Map input columns) made h =
    subst (λ (m : MadeStream). IsCounted (ops.Map input columns) m before) (sym h.is)
    (record { tables = refl; groups = refl; few = λ most. omega (arith, most) })
counted five known number before (ops.Zip first second) made h =
    subst (λ (m : MadeStream). IsCounted (ops.Zip first second) m before) (sym h.is)
    (record { tables = refl; groups = refl; few = λ most. omega (arith, most) })
counted five known number before (ops.Group input keys fold_name) made h =
    subst (λ (m : MadeStream). IsCounted (ops.Group input keys fold_name) m before) (sym h.is)
    (record { tables = refl; groups = refl; few = λ most. omega (arith, h.few) })

one_key : (before : List Entry) (one : TypedStream) (b : Bool) → b ≡ is_some (taking_of one.op)
    → length (group_keys (streams_in before)) ≡ groups_in before
    → length (group_keys (streams_in before ++ one ∷ [])) ≡ groups_in before + cond b 1 0
one_key before one b same count =
    let own : length (group_keys (one ∷ [])) ≡ cond b 1 0 = by b same in
    ap length (group_keys-append (streams_in before) (one ∷ []))
    ∙ (length-append (group_keys (streams_in before)) (group_keys (one ∷ [])) ∙ omega (arith, count, own))
  where
    by : (b : Bool) → b ≡ is_some (taking_of one.op) → length (group_keys (one ∷ [])) ≡ cond b 1 0
    by true e = rw (sym e) refl
    by false e = rw (sym e) refl

pub record Counts (before : List Entry) (count : ℕ) (all : List Entry) : Type 0 where
  pub count_is : groups_in all ≡ groups_in before + count
  pub few : groups_in before ≤ MAX_GROUPBYS → groups_in all ≤ MAX_GROUPBYS
  pub keys : length (group_keys (streams_in before)) ≡ groups_in before → length (group_keys (streams_in all)) ≡ groups_in all

no_counts : (before : List Entry) → Counts before 0 before
no_counts before = record { count_is = omega arith; few = λ most. most; keys = λ same. same }

one_counts : (given : Given) (names : List (List ℕ)) (before : List Entry) (i : Item) (one : Entry) → HasItem given names before i one
    → Counts before (cond (is_groupby i) 1 0) (one ∷ before)
one_counts given names before (item.Fold d) one h =
    subst (λ (z : Entry). Counts before 0 (z ∷ before)) (sym h.is)
    (record { count_is = omega arith; few = λ most. most; keys = λ same. same })
one_counts given names before (item.Stream d) one h =
    let c = counted (five_fields given.fields) (known_in names before) _ (groups_in before) d.op h.made h.typed in
    let s : TypedStream = record { name = d.name; columns = column_names h.made.columns; op = h.made.op } in
    subst (λ (z : Entry). Counts before (cond (is_group d.op) 1 0) (z ∷ before)) (sym h.is) (record {
      count_is = ap (λ (b : Bool). groups_in before + cond b 1 0) c.groups;
      few = c.few;
      keys = λ same. one_key before s (is_some h.made.table) c.tables same;
    })
one_counts given names before (item.Final d) one h =
    subst (λ (z : Entry). Counts before 0 (z ∷ before)) (sym h.is)
    (record { count_is = omega arith; few = λ most. most; keys = λ same. same })
one_counts given names before (item.Print name) one h =
    subst (λ (z : Entry). Counts before 0 (z ∷ before)) (sym h.is)
    (record { count_is = omega arith; few = λ most. most; keys = λ same. same })

pub counts : (given : Given) (names : List (List ℕ)) (before : List Entry) (list : List Item) (all : List Entry)
    → HasItems given names before list all → Counts before (count_by is_groupby list) all
counts given names _ _ _ (of_none before) = no_counts before
counts given names _ _ _ (of_more before i one rest all h more) =
    let here = one_counts given names before i one h in
    let later = counts given names (one ∷ before) rest all more in
    let split : count_by is_groupby (i ∷ rest) ≡ cond (is_groupby i) 1 0 + count_by is_groupby rest =
    sum_by-cons (λ x. cond (is_groupby x) 1 0) i rest in
    record {
      count_is = omega (arith, here.count_is, later.count_is, split);
      few = λ most. later.few (here.few most);
      keys = λ same. later.keys (here.keys same);
    }

-- ---- the walk

module _ (names : List (List ℕ)) (groups : ℕ) (merges : List Merge) (streams : List TypedStream) (finals : List TypedFinal)
    (of_group : (j : ℕ) (columns : List ℕ) (keys : List (List ℕ)) → slice_get (group_keys streams) j ≡ Some columns
    → merge_at merges j ≡ InOrder keys → keys ≡ map (text_at names) columns)
    (of_final : (j : ℕ) (one : TypedFinal) (keys : List (List ℕ)) → slice_get finals j ≡ Some one
    → merge_at merges (groups + j) ≡ InOrder keys → IsMadeOf merges keys one.op) where
  abbrev Named : Known → Type 0
  Named one = OneNamed names groups merges streams finals of_group of_final one

  abbrev Match : TypedFinal → Type 0
  Match one = JoinsMatch merges one.op

  -- what holds of the items so far
  pub record Holds (items : List Entry) : Type 0 where
    pub known : All Named (known_in names items)
    pub match : All Match (finals_in items)
    pub count : length (group_keys (streams_in items)) ≡ groups_in items

  -- before the first item
  pub none_yet : Holds []
  none_yet = record { known = All-cons Named _ [] tt (All-nil Named); match = All-nil Match; count = refl }

  stream_at : (before : List Entry) (one : TypedStream) (later : List TypedStream) → streams ≡ (streams_in before ++ one ∷ []) ++ later
      → length (group_keys (streams_in before)) ≡ groups_in before → is_some (taking_of one.op) ≡ true
      → slice_get (group_keys streams) (groups_in before) ≡ Some one.columns
  stream_at before one later e count is =
      let own : group_keys (one ∷ []) ≡ one.columns ∷ [] = rw is refl in
      ap (λ (ss : List TypedStream). slice_get (group_keys ss) (groups_in before)) e
      ∙ (ap (λ (ks : List (List ℕ)). slice_get ks (groups_in before))
      (group_keys-append (streams_in before ++ one ∷ []) later
      ∙ ap (λ ks. ks ++ group_keys later) (group_keys-append (streams_in before) (one ∷ [])
      ∙ ap (λ ks. group_keys (streams_in before) ++ ks) own))
      ∙ subst (λ n. slice_get ((group_keys (streams_in before) ++ one.columns ∷ []) ++ group_keys later) n ≡ Some one.columns) count
      (next_of (group_keys (streams_in before)) one.columns (group_keys later)))

  one_item : (given : Given) (before : List Entry) (i : Item) (one : Entry) → given.groups ≡ groups → HasItem given names before i one
      → Holds before → (later : List TypedStream) (more : List TypedFinal) → streams ≡ streams_in (one ∷ before) ++ later
      → finals ≡ finals_in (one ∷ before) ++ more → Holds (one ∷ before)
  one_item given before (item.Fold d) one same h so later more e f =
      subst (λ (z : Entry). Holds (z ∷ before)) (sym h.is) (record {
        known = All-push Named (known_in names before) _ so.known tt;
        match = so.match;
        count = so.count;
      })
  one_item given before (item.Stream d) one same h so later more e f =
      let s : TypedStream = record { name = d.name; columns = column_names h.made.columns; op = h.made.op } in
      let all : streams ≡ (streams_in before ++ s ∷ []) ++ later = e ∙ ap (λ (z : Entry). streams_in (z ∷ before) ++ later) h.is in
      let c = counted (five_fields given.fields) (known_in names before) _ (groups_in before) d.op h.made h.typed in
      let table = made_stream names groups merges streams finals of_group of_final (five_fields given.fields) (known_in names before) _
      (groups_in before) d.op h.made h.typed
      (λ columns is taking. stream_at before s later all so.count taking ∙ ap Some (sym is)) in
      subst (λ (z : Entry). Holds (z ∷ before)) (sym h.is) (record {
        known = All-push Named (known_in names before) _ so.known table;
        match = so.match;
        count = one_key before s (is_some h.made.table) c.tables so.count;
      })
  one_item given before (item.Final d) one same h so later more e f =
      let t : TypedFinal = record { name = d.name; columns = h.made.columns; keys = h.made.keys; op = h.made.op } in
      let all : finals ≡ (finals_in before ++ t ∷ []) ++ more = f ∙ ap (λ (z : Entry). finals_in (z ∷ before) ++ more) h.is in
      let at : slice_get finals (length (finals_in before)) ≡ Some t =
      ap (λ (fs : List TypedFinal). slice_get fs (length (finals_in before))) all ∙ next_of (finals_in before) t more in
      let made = made_final names groups merges streams finals of_group of_final given (known_in names before) d.op h.made
      (length (finals_in before)) same h.typed so.known (λ keys is. of_final (length (finals_in before)) t keys at is) in
      subst (λ (z : Entry). Holds (z ∷ before)) (sym h.is) (record {
        known = All-push Named (known_in names before) _ so.known made.0;
        match = All-push Match (finals_in before) t so.match made.1;
        count = so.count;
      })
  one_item given before (item.Print name) one same h so later more e f =
      subst (λ (z : Entry). Holds (z ∷ before)) (sym h.is) (record { known = so.known; match = so.match; count = so.count })

  pub all_items : (given : Given) (before : List Entry) (list : List Item) (all : List Entry) → given.groups ≡ groups
      → HasItems given names before list all → streams ≡ streams_in all → finals ≡ finals_in all → Holds before → Holds all
  all_items given _ _ _ same (of_none before) e f so = so
  all_items given _ _ _ same (of_more before i one rest all h more) e f so =
      let later = grows given names (one ∷ before) rest all more in
      all_items given (one ∷ before) rest all same more e f
      (one_item given before i one same h so later.streams later.finals (e ∙ later.are_streams) (f ∙ later.are_finals))
