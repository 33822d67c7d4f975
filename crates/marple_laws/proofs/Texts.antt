-- Names whose numbers differ have texts that differ.
use Rattle.marple_laws.proofs.{Differ.{AreApart, HasOwnColumns, NamesDiffer}, Items.{IsIn, contains_in, in_last, in_left, in_push}}
use Rattle.marple_laws.proofs.Words
use Words.{All, All-head, All-tail, AreNames, AreNew, AreNoKeys, AreOnce, AreValidStreams, Contains, GroupShape, HasNames, IsNamedWell}
use Words.{IsValidQuery, List, None, Option, Some, TypedFold, TypedOp, TypedQuery, TypedStream, [], ap, arith, codes, cons_option}
use Words.{filter_map, inl, inr, length, number_in, option_map, query_groups, refl, same_Some, shape_made, shape_with, subst, suc, sym}
use Words.{text_at, zero, ℕ, ◌++◌, ◌<◌, ◌∙◌, ◌∷◌, ◌≡◌}
use Rattle.marple_laws.proofs.Lexical.{AreGood, number_at}
use Rattle.std.specs.Prelude.{map, slice_get}
use Rattle.query_lang.specs.declared.typed.TypedOp.TheVariants as typed
use Rattle.query_lang.specs.TypedQueries as valid

-- ---- items of lists

pub in_contains : {A : Type 0} (xs : List A) {x : A} → IsIn x xs → Contains xs x
in_contains [] h = absurd h
in_contains (y ∷ xs) (inl e) = (0, omega arith, sym e)
in_contains (y ∷ xs) (inr h) = let c = in_contains xs h in (suc c.0, omega (arith, c.1), c.2)

pub all_at : {A : Type 0} (P : A → Type 0) (xs : List A) (i : ℕ) (x : A) → All P xs → slice_get xs i ≡ Some x → P x
all_at P [] i x all e = cc
all_at P (y ∷ xs) zero x all e = subst P (same_Some y x e) (All-head P y xs all)
all_at P (y ∷ xs) (suc i) x all e = all_at P xs i x (All-tail P y xs all) e

-- an item before others is none of them
pub new_apart : {A : Type 0} (before items : List A) (x : A) → AreNew before items → IsIn x before → IsIn x items → ⊥
new_apart before [] x new old h = h
new_apart before (item ∷ items) x new old (inl e) = new.0 (in_contains before (subst (λ z. IsIn z before) e old))
new_apart before (item ∷ items) x new old (inr h) = new_apart (before ++ item ∷ []) items x new.1 (in_left x before (item ∷ []) old) h

-- ---- the texts of names

pub text_there : (names : List (List ℕ)) (id : ℕ) → id < length names → slice_get names id ≡ Some (text_at names id)
text_there [] id lt = absurd (omega (arith, lt))
text_there (n ∷ names) zero lt = refl
text_there (n ∷ names) (suc id) lt = text_there names id (omega (arith, lt))

-- each text is that of one of these names
abbrev pub Cover : List (List ℕ) → List ℕ → List (List ℕ) → Type 0
Cover names before texts = (t : List ℕ) → IsIn t texts → (id : ℕ) × IsIn id before × (slice_get names id ≡ Some t)

covers_more : (names : List (List ℕ)) (before : List ℕ) (texts : List (List ℕ)) (id : ℕ) (text : List ℕ) → Cover names before texts
    → slice_get names id ≡ Some text → Cover names (before ++ id ∷ []) (texts ++ text ∷ [])
covers_more names before texts id text cover e t h = elim (in_push texts text t h) [
  | inl old ↦ (let k = cover t old in (k.0, in_left k.0 before (id ∷ []) k.1, k.2))
  | inr same ↦ (id, in_last before id, e ∙ ap Some (sym same))
]

covers_still : (names : List (List ℕ)) (before : List ℕ) (texts : List (List ℕ)) (id : ℕ) → Cover names before texts
    → Cover names (before ++ id ∷ []) texts
covers_still names before texts id cover t h = let k = cover t h in (k.0, in_left _ _ _ k.1, k.2)

pub covers_all : (names : List (List ℕ)) (ids : List ℕ) → All (λ id. id < length names) ids → Cover names ids (map (text_at names) ids)
covers_all names [] all t h = absurd h
covers_all names (id ∷ ids) all t (inl e) = (id, inl refl, text_there names id (all 0 id (omega arith)) ∙ ap Some (sym e))
covers_all names (id ∷ ids) all t (inr h) =
    let k = covers_all names ids (All-tail (λ id. id < length names) id ids all) t h in
    (k.0, inr k.1, k.2)

new_text : (names : List (List ℕ)) → AreOnce names → (before : List ℕ) (texts : List (List ℕ)) (id : ℕ) (text : List ℕ)
    → Cover names before texts → (Contains before id → ⊥) → slice_get names id ≡ Some text → Contains texts text → ⊥
new_text names once before texts id text cover new e c =
    let k = cover _ (contains_in _ c) in
    let same : k.0 ≡ id = once _ id _ k.2 e in
    new (in_contains _ (subst (λ z. IsIn z before) same k.1))

new_texts : (names : List (List ℕ)) → AreOnce names → (ids before : List ℕ) (texts : List (List ℕ)) → Cover names before texts
    → All (λ id. id < length names) ids → AreNew before ids → AreNew texts (map (text_at names) ids)
new_texts names once [] before texts cover all new = tt
new_texts names once (id ∷ ids) before texts cover all new =
    let there : slice_get names id ≡ Some (text_at names id) = text_there names id (all 0 id (omega arith)) in (
      new_text names once before texts id (text_at names id) cover new.0 there,
      new_texts names once ids (before ++ id ∷ []) (texts ++ text_at names id ∷ [])
          (covers_more names before texts id (text_at names id) cover there) (All-tail (λ id. id < length names) id ids all) new.1,
    )

apart_texts : (names : List (List ℕ)) → AreOnce names → (keys states : List ℕ) → All (λ id. id < length names) keys
    → All (λ id. id < length names) states → AreApart keys states → AreNoKeys (map (text_at names) keys) (map (text_at names) states)
apart_texts names once keys [] below all apart = tt
apart_texts names once keys (s ∷ states) below all apart = (
  new_text names once keys (map (text_at names) keys) s (text_at names s) (covers_all names keys below) apart.0
      (text_there names s (all 0 s (omega arith))),
  apart_texts names once keys states below (All-tail (λ id. id < length names) s states all) apart.1,
)

names_are : {names : List (List ℕ)} → AreGood names → (ids : List ℕ) → All (λ id. id < length names) ids
    → AreNames (map (text_at names) ids)
names_are good [] all = tt
names_are {names} good (id ∷ ids) all = (
  good.lexical id (text_at names id) (text_there names id (all 0 id (omega arith))),
  names_are good ids (All-tail (λ id. id < length names) id ids all),
)

-- ---- groupbys

-- a stream of a query that makes this groupby
pub record IsMadeBy (names : List (List ℕ)) (folds : List TypedFold) (one : TypedStream) (shape : GroupShape) : Type 0 where
  pub f : TypedFold
  pub number : ℕ
  pub args : ℕ
  pub at : slice_get folds number ≡ Some f
  pub is : shape ≡ shape_with names one.name.id one.columns args f
  pub new : AreNew [] one.columns
  pub apart : AreApart one.columns f.state_names

pub made_by : {names : List (List ℕ)} {folds : List TypedFold} (one : TypedStream) (op : TypedOp) {shape : GroupShape}
    → shape_made names folds one op ≡ Some shape → HasOwnColumns folds one.columns op → IsMadeBy names folds one shape
made_by {names} {folds} one (typed.Group input keys number args) {shape} e own = by (slice_get folds number) refl e
  where
    by : (o : Option TypedFold) → slice_get folds number ≡ o → option_map (shape_with names one.name.id one.columns (length args)) o ≡ Some
        shape → IsMadeBy names folds one shape
    by None h e = cc
    by (Some f) h e =
        let same : own.1.0 ≡ f = same_Some own.1.0 f (sym own.1.1 ∙ h) in
        record {
          f = f;
          number = number;
          args = length args;
          at = h;
          is = sym (same_Some (shape_with names one.name.id one.columns (length args) f) shape e);
          new = own.0;
          apart = subst (λ (g : TypedFold). AreApart one.columns g.state_names) same own.1.2;
        }
made_by one (typed.Filter input e) is own = cc
made_by one (typed.Map input values) is own = cc
made_by one (typed.Zip left right slots) is own = cc

pub name_of : (names : List (List ℕ)) (folds : List TypedFold) (one : TypedStream) (op : TypedOp) (shape : GroupShape)
    → shape_made names folds one op ≡ Some shape → shape.name ≡ text_at names one.name.id
name_of names folds one (typed.Group input keys number args) shape e = by _ e
  where
    by : (o : Option TypedFold) → option_map (shape_with names one.name.id one.columns (length args)) o ≡ Some shape
        → shape.name ≡ text_at names one.name.id
    by None e = cc
    by (Some f) e = ap (λ (s : GroupShape). s.name) (sym (same_Some _ _ e))
name_of names folds one (typed.Filter input e) shape is = cc
name_of names folds one (typed.Map input values) shape is = cc
name_of names folds one (typed.Zip left right slots) shape is = cc

abbrev pub groups_of : List (List ℕ) → List TypedFold → List TypedStream → List GroupShape
groups_of names folds streams = filter_map (λ one. shape_made names folds one one.op) streams

pub group_from : (names : List (List ℕ)) (folds : List TypedFold) (streams : List TypedStream) (i : ℕ) {shape : GroupShape}
    → slice_get (groups_of names folds streams) i ≡ Some shape → (j : ℕ) × (one : TypedStream) × (slice_get streams j ≡ Some one)
    × (shape_made names folds one one.op ≡ Some shape)
group_from names folds [] i h = cc
group_from names folds (one ∷ rest) i {shape} h = by _ refl i h (λ k. group_from names folds rest k)
  where
    by : (o : Option GroupShape) → shape_made names folds one one.op ≡ o → (i : ℕ)
        → slice_get (cons_option o (groups_of names folds rest)) i ≡ Some shape
        → ((k : ℕ) → slice_get (groups_of names folds rest) k ≡ Some shape
        → (j : ℕ) × (two : TypedStream) × (slice_get rest j ≡ Some two) × (shape_made names folds two two.op ≡ Some shape))
        → (j : ℕ) × (two : TypedStream) × (slice_get (one ∷ rest) j ≡ Some two) × (shape_made names folds two two.op ≡ Some shape)
    by None e i h more = let r = more i h in (suc r.0, r.1, r.2, r.3)
    by (Some s) e zero h more = (0, one, refl, e ∙ h)
    by (Some s) e (suc i) h more = let r = more i h in (suc r.0, r.1, r.2, r.3)

-- the numbers of a stream's name and columns are below that of the names
pub stream_below : (names : ℕ) (folds : List TypedFold) (before streams : List TypedStream) (j : ℕ) {one : TypedStream}
    → AreValidStreams names folds before streams → slice_get streams j ≡ Some one → (one.name.id < names) × valid.AreNames names one.columns
stream_below names folds before [] j v h = cc
stream_below names folds before (s ∷ rest) zero v h =
    subst (λ (t : TypedStream). (t.name.id < names) × valid.AreNames names t.columns) (same_Some s _ h) (v.0.name, v.0.columns)
stream_below names folds before (s ∷ rest) (suc j) v h = stream_below names folds (before ++ s ∷ []) rest j v.1 h

-- the names of groupbys differ
names_new : (names : List (List ℕ)) → AreOnce names → (folds : List TypedFold) (streams earlier : List TypedStream)
    → AreValidStreams (length names) folds earlier streams → (before : List ℕ) (texts : List (List ℕ)) → Cover names before texts
    → AreNew before (map (λ one. one.name.id) streams) → AreNew texts (map (λ shape. shape.name) (groups_of names folds streams))
names_new names once folds [] earlier v before texts cover new = tt
names_new names once folds (one ∷ rest) earlier v before texts cover new = by (shape_made names folds one one.op) refl
    (λ more covered. names_new names once folds rest (earlier ++ one ∷ []) v.1 (before ++ one.name.id ∷ []) more covered new.1)
  where
    by : (o : Option GroupShape) → shape_made names folds one one.op ≡ o
        → ((more : List (List ℕ)) → Cover names (before ++ one.name.id ∷ []) more
        → AreNew more (map (λ shape. shape.name) (groups_of names folds rest)))
        → AreNew texts (map (λ shape. shape.name) (cons_option o (groups_of names folds rest)))
    by None e again = again texts (covers_still names before texts one.name.id cover)
    by (Some s) e again =
        let there : slice_get names one.name.id ≡ Some s.name = text_there names one.name.id v.0.name
        ∙ ap Some (sym (name_of names folds one one.op s e)) in (
          new_text names once before texts one.name.id s.name cover new.0 there,
          again (texts ++ s.name ∷ []) (covers_more names before texts one.name.id s.name cover there),
        )

pub names_differ : (q : TypedQuery) (packets : ℕ) → IsValidQuery q → AreGood q.names → NamesDiffer packets q
    → AreNew [] (map (λ shape. shape.name) (query_groups q))
names_differ q packets v good differ = names_new _ good.once _ _ _ v.streams (packets ∷ []) _ (λ t h. absurd h) differ.streams

id_in : (streams : List TypedStream) (j : ℕ) {one : TypedStream} → slice_get streams j ≡ Some one
    → IsIn one.name.id (map (λ (s : TypedStream). s.name.id) streams)
id_in [] j h = cc
id_in (s ∷ streams) zero {one} h = inl (ap (λ (t : TypedStream). t.name.id) (sym (same_Some s one h)))
id_in (s ∷ streams) (suc j) h = inr (id_in streams j h)

shape_named : (q : TypedQuery) {packets : ℕ} → packets ≡ number_in q.names (codes "pktstream") → IsValidQuery q → AreGood q.names
    → NamesDiffer packets q → (j : ℕ) {one : TypedStream} {args : ℕ} (number : ℕ) {f : TypedFold} → slice_get q.streams j ≡ Some one
    → slice_get q.folds number ≡ Some f → AreNew [] one.columns → AreApart one.columns f.state_names
    → IsNamedWell (shape_with q.names one.name.id one.columns args f)
shape_named q {packets} is v good differ j {one} number {f} here fold new apart =
    let below = stream_below (length q.names) _ _ _ j v.streams here in
    let states = (all_at (HasNames (length q.names)) _ number f v.fold_names fold).states in
    let there : slice_get q.names one.name.id ≡ Some (text_at q.names one.name.id) = text_there _ _ below.0 in
    record {
      named = good.lexical one.name.id (text_at q.names one.name.id) there;
      no_stream = λ e. (let same : number_in q.names (codes "pktstream") ≡ one.name.id =
          number_at _ one.name.id (codes "pktstream") good.once (there ∙ ap Some e) in
          new_apart (packets ∷ []) (map (λ (s : TypedStream). s.name.id) q.streams) _ differ.streams (inl (sym (is ∙ same)))
          (id_in _ j here));
      key_names = names_are good one.columns below.1;
      keys_differ = new_texts _ good.once _ _ _ (λ t h. absurd h) below.1 new;
      state_names = names_are good f.state_names states;
      states_differ = new_texts _ good.once _ _ _ (λ t h. absurd h) states (differ.states number f fold);
      states_apart = apart_texts _ good.once _ _ below.1 states apart;
    }

pub named_well : (q : TypedQuery) {packets : ℕ} → packets ≡ number_in q.names (codes "pktstream") → IsValidQuery q → AreGood q.names
    → NamesDiffer packets q → (i : ℕ) (shape : GroupShape) → slice_get (query_groups q) i ≡ Some shape → IsNamedWell shape
named_well q is v good differ i shape e =
    let from = group_from q.names q.folds q.streams i e in
    let made = made_by from.1 from.1.op from.3 (differ.columns from.0 from.1 from.2) in
    subst IsNamedWell (sym made.is)
    (shape_named q is v good differ from.0 made.number from.2 made.at made.new made.apart)
