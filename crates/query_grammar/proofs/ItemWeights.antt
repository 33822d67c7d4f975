-- The items of an accepted query keep the limits on nodes and statements.
use Rattle.std.proofs.Common.{◌≡◌, ℕ, zero, suc, ◌+◌, ◌<◌, ◌≤◌, Bool, true, false, cond, ltb, List, [], ◌∷◌, ◌++◌, Option, Some, None, refl}
use Rattle.std.{proofs.{Common.{sym, ap, ◌∙◌, arith, inl, inr, ◌⊎◌}, lemmas.Bool.ltb-true}, specs.{Prelude.All, Option.option_and_then}}
use Rattle.query_lang.specs.declared.{fault.Span.Span, query.{Column.Column, Expr.Expr, Item.Item}, token.TokenKind.TokenKind}
use Rattle.query_lang.specs.declared.{token.Token.Token, fault.TheConstants.{MAX_NODES, MAX_STATEMENTS}}
use Rattle.query_lang.specs.TypedFolds.{expr_nodes, stmt_nodes, stmt_count}
use Rattle.query_lang.specs.Limits.{columns_nodes, stream_nodes, final_nodes, KeepsLimits}
use Rattle.query_grammar.specs.{declared.stop.Counts.Counts, Kinds.{sign, keyword}, Fault.IsAccepted}
use Rattle.query_grammar.specs.Language.{Role, Plain, Node, Statement, Opening, Leaf, Language, Word, Then, Repeated, Either, Meaning}
use Rattle.query_grammar.specs.{Parser.{Limited, charge, no_counts}, Grammar.{Plain_name, After, Brackets, Separated, Listed}}
use Rattle.query_grammar.specs.Grammar.{StateVariable, Parameters, Fold, Filter, ColumnOf, Mapping, Pairing, KeyOf, Group, Best, Streaming}
use Rattle.query_grammar.{specs.Grammar.{Stream, Finishing, Final, Print, ItemOf}, proofs.Parses.{pays, pays-append}}
use Rattle.query_grammar.proofs.{Runs.{Value, pays_is}, Weighing.{weigh_as, same_weight, total, sum_total, is_node, is_statement}}
use Rattle.query_grammar.proofs.Weighing.{is_opening, leaves_by, Weight, Weighs, none, weigh_plain, weigh_then, weigh_either, weigh_once}
use Rattle.query_grammar.proofs.Weighing.{weigh_same, weigh_after, weigh_before, weigh_between, weigh_separated, weigh_listed, if_some}
use Rattle.query_grammar.proofs.Weights.{weigh_parens, weigh_block, weigh_expr, weigh_stmt, nothing_in}
use Rattle.query_lang.specs.declared.query.Item.TheVariants as items
use Rattle.query_lang.specs.declared.token.Mark.TheVariants as marks
use Rattle.query_lang.specs.declared.token.Word.TheVariants as words

-- ---- what a limit leaves

-- leaves that are counted from these counts on keep the limits
abbrev Bounded : List Leaf → Counts → Counts → Type 0
Bounded w c e = leaves_by is_opening w ≡ 0 → pays Limited c w ≡ Some e → c.nodes ≤ MAX_NODES → c.statements ≤ MAX_STATEMENTS
    → (c.nodes + leaves_by is_node w ≤ MAX_NODES) × (c.statements + leaves_by is_statement w ≤ MAX_STATEMENTS)

-- a count that is raised was below its limit
raised : (count limit : ℕ) (w : List Leaf) (d e : Counts)
    → option_and_then (λ m. pays Limited m w) (cond {A = Option Counts} (ltb count limit) (Some d) None) ≡ Some e
    → (count < limit) × (pays Limited d w ≡ Some e)
raised count limit w d e k = go (ltb count limit) refl k
  where
    go : (b : Bool) → ltb count limit ≡ b → option_and_then (λ m. pays Limited m w) (cond {A = Option Counts} b (Some d) None) ≡ Some e
        → (count < limit) × (pays Limited d w ≡ Some e)
    go true t k = (ltb-true count limit t, k)
    go false t k = absurd cc

one_more : (w : List Leaf) (c e : Counts) → ((m : Counts) → Bounded w m e) → c.nodes ≤ MAX_NODES → c.statements ≤ MAX_STATEMENTS
    → (r : Role) → is_opening r + leaves_by is_opening w ≡ 0
    → option_and_then (λ d. pays Limited d w) (charge Limited r c) ≡ Some e → (c.nodes + (is_node r + leaves_by is_node w) ≤ MAX_NODES)
    × (c.statements + (is_statement r + leaves_by is_statement w) ≤ MAX_STATEMENTS)
one_more w c e ih n s Plain i k = let r = ih c (omega (arith, i)) k n s in (omega (arith, r.0), omega (arith, r.1))
one_more w c e ih n s Opening i k = absurd (omega (arith, i))
one_more w c e ih n s Node i k =
    let d : Counts = record { nodes = c.nodes + 1; statements = c.statements } in
    let p = raised c.nodes MAX_NODES w d e k in
    let r = ih d (omega (arith, i)) p.1 (omega (arith, p.0)) s in
    (omega (arith, r.0), omega (arith, r.1))
one_more w c e ih n s Statement i k =
    let d : Counts = record { nodes = c.nodes; statements = c.statements + 1 } in
    let p = raised c.statements MAX_STATEMENTS w d e k in
    let r = ih d (omega (arith, i)) p.1 n (omega (arith, p.0)) in
    (omega (arith, r.0), omega (arith, r.1))

bound : (w : List Leaf) (c e : Counts) → Bounded w c e
bound [] c e inner h n s = (omega arith, omega arith)
bound (l ∷ w) c e inner h n s = one_more w c e (λ m. bound w m e) n s l.role inner h

pays_part : (c e : Counts) (u w : List Leaf) → pays Limited c (u ++ w) ≡ Some e → (m : Counts) × (pays Limited c u ≡ Some m)
    × (pays Limited m w ≡ Some e)
pays_part c e u w h = go (pays Limited c u) refl (sym (pays-append Limited c u w) ∙ h)
  where
    go : (o : Option Counts) → pays Limited c u ≡ o → option_and_then (λ d. pays Limited d w) o ≡ Some e → (m : Counts)
        × (pays Limited c u ≡ Some m) × (pays Limited m w ≡ Some e)
    go None p k = absurd cc
    go (Some m) p k = (m, p, k)

-- ---- a first token, and what is counted after it

pub record Opens {A : Type 0} (L : Language A) (f g : A → ℕ) : Type 0 where
  pub is : (w : List Leaf) (v : A) → L w v → (l : Leaf) × (x : List Leaf) × (w ≡ l ∷ x) × (l.role ≡ Opening) × Weight x (f v) (g v)

opens_then : {A B : Type 0} {takes : Token → Option A} {M : Language B} {f g : B → ℕ} → Weighs M f g
    → Opens (Then (Word Opening takes) M) (λ v. f v.1) (λ v. g v.1)
opens_then p = record {
  is = λ w v h. (
    record { role = Opening; token = h.3.0 },
    h.1,
    h.2 ∙ ap (λ (u : List Leaf). u ++ h.1) h.3.1,
    refl,
    p.is h.1 v.1 h.4,
  );
}

opens_meaning : {A B : Type 0} {L : Language A} {h : A → B} {f g : B → ℕ} → Opens L (λ a. f (h a)) (λ a. g (h a)) → Opens (Meaning h L) f g
opens_meaning {f = f} {g} p = record {
  is = λ w v m. let o = p.is w m.0 m.1 in (o.0, o.1, o.2, o.3, same_weight o.4 (ap f m.2) (ap g m.2));
}

opens_either : {A : Type 0} {L M : Language A} {f g : A → ℕ} → Opens L f g → Opens M f g → Opens (Either L M) f g
opens_either {A} {L} {M} {f} {g} p q = record { is = go }
  where
    go : (w : List Leaf) (v : A) → L w v ⊎ M w v → (l : Leaf) × (x : List Leaf) × (w ≡ l ∷ x) × (l.role ≡ Opening) × Weight x (f v) (g v)
    go w v (inl h) = p.is w v h
    go w v (inr h) = q.is w v h

-- ---- items

none_then : {A B : Type 0} {L : Language A} {M : Language B} → Weighs L none none → Weighs M none none → Weighs (Then L M) none none
none_then p q = weigh_same (weigh_then p q) (λ a. refl) (λ a. refl)

-- a name before what weighs
named : {B : Type 0} {M : Language B} {f g : B → ℕ} → Weighs M f g → Weighs (Then Plain_name M) (λ v. f v.1) (λ v. g v.1)
named q = weigh_same (weigh_then weigh_plain q) (λ a. omega arith) (λ a. omega arith)

comma : {A : Type 0} {L : Language A} {f g : A → ℕ} → Weighs L f g → Weighs (After (sign marks.Comma) L) f g
comma p = weigh_after (sign marks.Comma) p

none_listed : {A : Type 0} {L : Language A} → Weighs L none none → Weighs (Listed L) none none
none_listed p = weigh_same (weigh_listed p) nothing_in nothing_in

none_separated : {A : Type 0} {L : Language A} → Weighs L none none → Weighs (Separated L) none none
none_separated p = weigh_same (weigh_separated p) nothing_in nothing_in

bracketed : {A : Type 0} {L : Language A} {f g : A → ℕ} → Weighs L f g → Weighs (Brackets L) f g
bracketed p = weigh_between (sign marks.OpenBracket) (sign marks.CloseBracket) p

weigh_variable : Weighs StateVariable none none
weigh_variable = weigh_as (none_then weigh_plain (weigh_same (weigh_once (weigh_after (sign marks.Assign) weigh_plain)) either either))
  where
    either : (o : Option (ℕ × Span)) → if_some none o ≡ 0
    either None = refl
    either (Some n) = refl

weigh_parameters : Weighs Parameters none none
weigh_parameters = weigh_parens (none_then (bracketed (none_listed weigh_variable)) (comma (bracketed (none_listed weigh_plain))))

abbrev pub item_nodes : Item → ℕ
item_nodes (items.Fold d) = total stmt_nodes d.body
item_nodes (items.Stream d) = stream_nodes d.op
item_nodes (items.Final d) = final_nodes d.op
item_nodes (items.Print table) = 0

abbrev pub item_count : Item → ℕ
item_count (items.Fold d) = total stmt_count d.body
item_count (items.Stream d) = 0
item_count (items.Final d) = 0
item_count (items.Print table) = 0

pub opens_fold : (d : ℕ) → Opens (Fold d) item_nodes item_count
opens_fold d = opens_meaning (opens_then (named (weigh_same {f' = λ v. total stmt_nodes v.1} {g' = λ v. total stmt_count v.1}
    (weigh_then weigh_parameters (weigh_block (weigh_stmt d))) (λ a. omega arith) (λ a. omega arith))))

weigh_filter : {E : Language Expr} → Weighs E expr_nodes none → Weighs (Filter E) (λ v. expr_nodes v.1) none
weigh_filter p = weigh_after (keyword words.Filter) (weigh_parens (named (comma p)))

abbrev column_nodes : Column → ℕ
column_nodes c = expr_nodes c.value

weigh_column : {E : Language Expr} → Weighs E expr_nodes none → Weighs (ColumnOf E) column_nodes none
weigh_column p = weigh_as (named (weigh_after (sign marks.Assign) p))

weigh_mapping : {E : Language Expr} → Weighs E expr_nodes none → Weighs (Mapping E) (λ v. columns_nodes v.1) none
weigh_mapping p = weigh_after (keyword words.Map) (weigh_parens (named (comma (bracketed (weigh_same (weigh_separated (weigh_column p))
    (λ a. sym (sum_total column_nodes a)) nothing_in)))))

weigh_pairing : (k : TokenKind) → Weighs (Pairing k) none none
weigh_pairing k = weigh_after k (weigh_parens (none_then weigh_plain (comma weigh_plain)))

weigh_key : Weighs KeyOf none none
weigh_key = weigh_either (weigh_as weigh_plain) (weigh_as weigh_plain)

weigh_group : Weighs Group none none
weigh_group = weigh_after (keyword words.Groupby) (weigh_parens
    (none_then weigh_plain (comma (none_then (bracketed (none_separated weigh_key)) (comma weigh_plain)))))

weigh_best : Weighs Best none none
weigh_best = weigh_after (keyword words.Top) (weigh_parens (none_then weigh_plain (comma (none_then weigh_plain (comma weigh_plain)))))

weigh_streaming : {E : Language Expr} → Weighs E expr_nodes none → Weighs (Streaming E E) stream_nodes none
weigh_streaming p = weigh_either (weigh_as (weigh_filter p)) (weigh_either (weigh_as (weigh_mapping p))
    (weigh_either (weigh_as (weigh_pairing (keyword words.Zip))) (weigh_as weigh_group)))

weigh_finishing : {E : Language Expr} → Weighs E expr_nodes none → Weighs (Finishing E E) final_nodes none
weigh_finishing p = weigh_either (weigh_as (weigh_filter p)) (weigh_either (weigh_as (weigh_mapping p)) (weigh_either (weigh_as weigh_group)
    (weigh_either (weigh_as (weigh_pairing (keyword words.Join))) (weigh_as weigh_best))))

opens_stream : {E : Language Expr} → Weighs E expr_nodes none → Opens (Stream E E) item_nodes item_count
opens_stream p = opens_meaning (opens_then (weigh_between (sign marks.Assign) (sign marks.Semicolon) (weigh_streaming p)))

opens_final : {E : Language Expr} → Weighs E expr_nodes none → Opens (Final E E) item_nodes item_count
opens_final p = opens_meaning (opens_then (named (weigh_between (sign marks.Assign) (sign marks.Semicolon) (weigh_finishing p))))

opens_print : Opens Print item_nodes item_count
opens_print = opens_meaning (opens_then (weigh_before (sign marks.Semicolon) weigh_plain))

opens_item : (d : ℕ) → Opens (ItemOf d) item_nodes item_count
opens_item d = opens_either (opens_fold d) (opens_either (opens_stream (weigh_expr d))
    (opens_either (opens_final (weigh_expr d)) opens_print))

-- ---- limits

keeps : (a : Item) → item_nodes a ≤ MAX_NODES → item_count a ≤ MAX_STATEMENTS → KeepsLimits a
keeps (items.Fold d) n s = (omega (arith, n, sum_total stmt_nodes d.body), omega (arith, s, sum_total stmt_count d.body))
keeps (items.Stream d) n s = n
keeps (items.Final d) n s = n
keeps (items.Print table) n s = tt

pub all_none : {X : Type 0} (P : X → Type 0) → All P []
all_none P k d lt = absurd (omega arith)

pub all_cons : {X : Type 0} (P : X → Type 0) (x : X) (xs : List X) → P x → All P xs → All P (x ∷ xs)
all_cons P x xs p h zero d lt = p
all_cons P x xs p h (suc k) d lt = h k d (omega arith)

item_keeps : (d : ℕ) (w : List Leaf) (v : Item) (c e : Counts) → ItemOf d w v → pays Limited c w ≡ Some e → KeepsLimits v
item_keeps d w v c e h p =
    let o = (opens_item d).is w v h in
    let first : option_and_then (λ m. pays Limited m o.1) (charge Limited o.0.role c) ≡ Some e = ap (pays Limited c) (sym o.2) ∙ p in
    let rest : pays Limited no_counts o.1 ≡ Some e = ap (λ (r : Role). option_and_then (λ m. pays Limited m o.1) (charge Limited r c))
    (sym o.3) ∙ first in
    let b = bound o.1 no_counts e o.4.inner rest (omega arith) (omega arith) in
    keeps v (omega (arith, b.0, o.4.nodes)) (omega (arith, b.1, o.4.statements))

items_keep : (d : ℕ) (w : List Leaf) (v : List Item) (c e : Counts) → Repeated (ItemOf d) w v → pays Limited c w ≡ Some e
    → All KeepsLimits v
items_keep d w [] c e h p = all_none KeepsLimits
items_keep d w (a ∷ others) c e h p =
    let m = pays_part c e h.0 h.1 (ap (pays Limited c) (sym h.2) ∙ p) in
    all_cons KeepsLimits a others (item_keeps d h.0 a c m.0 h.3 m.1) (items_keep d h.1 others m.0 e h.4 m.2)

pub accepted_keeps : (ts : List Token) (q : Value) → IsAccepted ts q → All KeepsLimits q.0
accepted_keeps ts q a =
    let p : pays Limited no_counts a.leaves ≡ Some a.counts = pays_is Limited no_counts a.leaves ∙ a.within in
    let m = pays_part no_counts a.counts a.means.0 a.means.1 (ap (pays Limited no_counts) (sym a.means.2) ∙ p) in
    items_keep a.depth a.means.0 q.0 no_counts m.0 a.means.3 m.1
