-- The lines of a group, decided.
use Rattle.marple_laws.proofs.Words
use Words.{◌≡◌, ℕ, ◌≤◌, List, [], ◌∷◌, ◌++◌, length, map, Some, refl, sym, ap, ◌∙◌, subst, inl, inr, codes, unwrap_or, length-replicate}
use Words.{Field, Block, TypedFold, Class, Linear, block_count, block_nodes, fold_block, MAX_ARGS, MAX_GROUPBYS, MAX_KEYS, MAX_NODES}
use Words.{MAX_STATEMENTS, MAX_STATES, IsDepth, depth_of, class_of, depth_found_is, Operand, PlanOp, class_word, Lexeme, LineWord, Folded}
use Words.{Group, IsBody, IsBodyLine, AreBounds, IsFoldLine, IsFoldOf, IsFoldWords, lexeme_of, number, tokens, IsNamedNumber}
use Words.{IsNamedOperand, IsOneOperand, words_once, fold_in, block_written, bodies, stmts_same}
use Rattle.std.specs.Prelude.{Contains}
use Rattle.plan_file.specs.declared.line_word.LineWord.TheVariants as words
use Rattle.plan_file.specs.Groups.{IsArgLine, IsGroupBody, IsGroupLine, IsInGroup, IsKeyLine, IsNewIn, IsStateLine, group_with, names_of}
use Rattle.plan_loader.proofs.Folds.{blocks, classes, depths}
use Rattle.marple_laws.proofs.{BodyDecisions.is_body, Decisions.{Decided, both, by_both, contains, from_found, from_value, is_empty}}
use Rattle.marple_laws.proofs.Decisions.{is_none, less, most, neither, same_number, same_text, some_same, three_same}
use Rattle.marple_laws.proofs.PartDecisions.{named_number, named_operand, one_operand}

pub group_line : (fs : List Field) (ops : List PlanOp) (groups : List Folded) (line : List ℕ)
    → Decided ((after : Group) × IsGroupLine fs ops groups line after)
group_line fs ops groups line =
    from_found (λ p. (p.0.name, p.0.present, p.1.valid))
    (λ (n, v, valid).
    by_both
    (λ q. (group_with n v, record { room = q.0; valid = valid; no_stream = q.1.0; new = q.1.1; made = refl }))
    (λ p.
    let same : p.0.name ≡ n = (three_same p.1.valid.words valid.words).1 in
    (p.1.room, (λ e. p.1.no_stream (same ∙ e), λ there. p.1.new (subst (Contains (names_of groups)) (sym same) there))))
    (both (less (length groups) MAX_GROUPBYS) (both (neither (same_text n (codes "pktstream")))
    (neither (contains same_text (names_of groups))))))
    (named_operand (codes "group") _)

new_in : {group : Group} (name : List ℕ) → Decided (IsNewIn group name)
new_in name =
    by_both (λ p. record { no_key = p.0; no_state = p.1 }) (λ r. (r.no_key, r.no_state))
    (both (neither (contains same_text _)) (neither (contains same_text _)))

key_line : (fs : List Field) (ops : List PlanOp) (before : Group) (line : List ℕ)
    → Decided ((after : Group) × IsKeyLine fs ops before line after)
key_line fs ops before line = from_found (λ p. (p.1.name, p.1.value, p.1.valid)) (λ f. of_name f.0 f.1 f.2) (named_operand (codes "key") _)
  where
    of_name : (n : List ℕ) (v : Operand) → IsNamedOperand fs ops (codes "key") line n v
        → Decided ((after : Group) × IsKeyLine fs ops before line after)
    of_name n v valid =
        by_both
        (λ q. (
          record before { key_names = before.key_names ++ n ∷ []; keys = before.keys ++ v ∷ [] },
          record {
            args = q.0.0;
            states = q.0.1;
            body = q.1.0;
            room = q.1.1.0;
            name = n;
            value = v;
            valid = valid;
            new = q.1.1.1;
            made = refl;
          },
        ))
        (λ p.
        let same = (three_same p.1.valid.words valid.words).1 in
        ((p.1.args, p.1.states), (p.1.body, (p.1.room, subst (IsNewIn before) same p.1.new))))
        (both (both (is_empty before.args) (is_empty before.state_names))
        (both (is_none _) (both (less (length before.keys) MAX_KEYS) (new_in n))))

arg_line : (fs : List Field) (ops : List PlanOp) (before : Group) (line : List ℕ)
    → Decided ((after : Group) × IsArgLine fs ops before line after)
arg_line fs ops before line = from_found (λ p. (p.1.value, p.1.valid)) (λ f. of_value f.0 f.1) (one_operand _ _ (codes "arg") _)
  where
    of_value : (v : Operand) → IsOneOperand fs ops (codes "arg") line v → Decided ((after : Group) × IsArgLine fs ops before line after)
    of_value v valid =
        by_both
        (λ q. (
          record before { args = before.args ++ v ∷ [] },
          record { keys = q.0.0; states = q.0.1; body = q.1.0; room = q.1.1; value = v; valid = valid; made = refl },
        ))
        (λ p. ((p.1.keys, p.1.states), (p.1.body, p.1.room)))
        (both (both (less 0 (length before.keys)) (is_empty before.state_names))
        (both (is_none _) (less (length before.args) MAX_ARGS)))

state_line : (before : Group) (line : List ℕ) → Decided ((after : Group) × IsStateLine before line after)
state_line before line = from_found (λ p. (p.1.name, p.1.value, p.1.valid)) (λ f. of_name f.0 f.1 f.2) (named_number (codes "state") _)
  where
    of_name : (n : List ℕ) (v : ℕ) → IsNamedNumber (codes "state") line n v → Decided ((after : Group) × IsStateLine before line after)
    of_name n v valid =
        by_both
        (λ q. (
          record before { state_names = before.state_names ++ n ∷ []; initial = before.initial ++ v ∷ [] },
          record { keys = q.0.0; body = q.0.1; room = q.1.0; name = n; value = v; valid = valid; new = q.1.1; made = refl },
        ))
        (λ p.
        let same = (three_same p.1.valid.words valid.words).1 in
        ((p.1.keys, p.1.body), (p.1.room, subst (IsNewIn before) same p.1.new)))
        (both (both (less 0 (length before.keys)) (is_none _)) (both (less (length before.initial) MAX_STATES) (new_in n)))

body_words : {states args : ℕ} (line : List ℕ) → Decided ((ws : List Lexeme) × IsBodyLine states args line ws)
body_words {states} {args} line = by (tokens line) refl
  where
    by : (ts : List (List ℕ)) → tokens line ≡ ts → Decided ((ws : List Lexeme) × IsBodyLine states args line ws)
    by [] e = inr (λ p. (let w = p.1.begins in cc))
    by (t ∷ rest) e =
        by_both
        (λ q. (map lexeme_of rest, record { rest = rest; begins = e ∙ ap (λ w. w ∷ rest) q.0; are = refl; body = q.1.0; is_body = q.1.1 }))
        (λ p.
        let both_ways : t ∷ rest ≡ codes "body" ∷ p.1.rest = sym e ∙ p.1.begins in
        let first : t ≡ codes "body" = cc in
        let same : p.1.rest ≡ rest = cc in
        (first, (p.1.body, subst (λ ws. IsBody states args ws p.1.body) (p.1.are ∙ ap (map lexeme_of) same) p.1.is_body)))
        (both (same_text t (codes "body")) (is_body _ _ (map lexeme_of rest)))

body_line : (before : Group) {line : List ℕ} → Decided ((after : Group) × IsGroupBody before line after)
body_line before =
    by_both
    (λ q. (record before { body = Some q.1.1.0 }, record { keys = q.0; once = q.1.0; words = q.1.1.0; valid = q.1.1.1; made = refl }))
    (λ p. (p.1.keys, (p.1.once, (p.1.words, p.1.valid))))
    (both (less 0 (length before.keys)) (both (is_none _) (body_words _)))

pub in_group : (word : LineWord) (fs : List Field) (ops : List PlanOp) (before : Group) (line : List ℕ)
    → Decided ((after : Group) × IsInGroup word fs ops before line after)
in_group words.Key fs ops before line = key_line _ _ _ _
in_group words.Arg fs ops before line = arg_line _ _ _ _
in_group words.State fs ops before line = state_line _ _
in_group words.Body fs ops before line = body_line _
in_group _ fs ops before line = inr (λ p. p.1)

-- the line `fold`

class_named : (token : List ℕ) → Decided ((class : Class) × (token ≡ class_word class))
class_named token = by (same_text token (class_word Linear)) (same_text token (class_word Class.Other))
  where
    neither_one : (token ≡ class_word Linear → ⊥) → (token ≡ class_word Class.Other → ⊥) → (class : Class) → token ≡ class_word class → ⊥
    neither_one a b Linear e = a e
    neither_one a b Class.Other e = b e

    by : Decided (token ≡ class_word Linear) → Decided (token ≡ class_word Class.Other)
        → Decided ((class : Class) × (token ≡ class_word class))
    by (inl e) other = inl (Linear, e)
    by (inr linear) (inl e) = inl (Class.Other, e)
    by (inr linear) (inr other) = inr (λ p. neither_one linear other _ p.1)

same_class : (a b : Class) → Decided (a ≡ b)
same_class Linear Linear = inl refl
same_class Linear Class.Other = inr (λ e. cc)
same_class Class.Other Linear = inr (λ e. cc)
same_class Class.Other Class.Other = inl refl

abbrev FoldWords : List ℕ → Type 0
FoldWords line = (class : Class) × (depth : ℕ) × (nodes : ℕ) × (statements : ℕ) × IsFoldWords line class depth nodes statements

number_of : (token : List ℕ) → Decided ((n : ℕ) × (number token ≡ Some n))
number_of token = from_value _ (λ p. p) (λ n is. inl (n, is))

fold_words : (line : List ℕ) → Decided (FoldWords line)
fold_words line = by (tokens line) refl
  where
    by : (ts : List (List ℕ)) → tokens line ≡ ts → Decided (FoldWords line)
    by (a ∷ c ∷ d ∷ n ∷ s ∷ []) e =
        by_both
        (λ q. (
          q.0.1.0,
          q.1.0.0,
          q.1.1.0.0,
          q.1.1.1.0,
          record {
            depth_token = d;
            nodes_token = n;
            statements_token = s;
            words = e ∙ (λ k. q.0.0 k ∷ q.0.1.1 k ∷ d ∷ n ∷ s ∷ []);
            depth_is = q.1.0.1;
            nodes_are = q.1.1.0.1;
            statements_are = q.1.1.1.1;
          },
        ))
        (λ p.
        let line_is : a ∷ c ∷ d ∷ n ∷ s ∷ [] ≡ codes "fold" ∷ class_word p.0 ∷ p.4.depth_token ∷ p.4.nodes_token ∷ p.4.statements_token
        ∷ [] = sym e ∙ p.4.words in
        let first : a ≡ codes "fold" = cc in
        let class : c ≡ class_word p.0 = cc in
        let depth : d ≡ p.4.depth_token = cc in
        let nodes : n ≡ p.4.nodes_token = cc in
        let statements : s ≡ p.4.statements_token = cc in (
          (first, (p.0, class)),
          (
            (p.1, ap number depth ∙ p.4.depth_is),
            ((p.2, ap number nodes ∙ p.4.nodes_are), (p.3, ap number statements ∙ p.4.statements_are)),
          ),
        ))
        (both (both (same_text a (codes "fold")) (class_named c)) (both (number_of d) (both (number_of n) (number_of s))))
    by _ e = inr (λ p. (let w = p.4.words in cc))

bounds : (f : TypedFold) (nodes statements : ℕ) → Decided (AreBounds f nodes statements)
bounds f nodes statements =
    by_both (λ p. record { enough_nodes = p.0.0; most_nodes = p.0.1; enough_statements = p.1.0; most_statements = p.1.1 })
    (λ b. ((b.enough_nodes, b.most_nodes), (b.enough_statements, b.most_statements)))
    (both (both (most _ _) (most _ _))
    (both (most _ _) (most _ _)))

-- the fold that a `fold` line of these words ends
fold_is : (one : Folded) {ws : List Lexeme} (b : Block) → one.group.body ≡ Some ws
    → IsBody (length one.group.initial) (length one.group.args) ws b → IsFoldOf one.group (fold_in one)
fold_is one {ws} b has is =
    let group = one.group in
    let same : b ≡ fold_block (fold_in one) =
    sym (bodies.written (length group.initial) (length group.args) ws b is)
    ∙ ap (λ o. block_written (length group.initial) (unwrap_or o [])) (sym has)
    ∙ sym (stmts_same _) in
    record {
      words = ws;
      has_body = has;
      body = subst (IsBody (length group.initial) (length group.args) ws) same is;
      states = length-replicate _ 0;
      args = length-replicate _ 0;
      initial = refl;
      emit = refl;
    }

ended : {before : Group} {line : List ℕ} {class : Class} {depth nodes statements : ℕ} → IsFoldWords line class depth nodes statements
    → {ws : List Lexeme} {b : Block} → before.body ≡ Some ws → IsBody (length before.initial) (length before.args) ws b
    → Decided ((after : Folded) × IsFoldLine before line after)
ended {before} {line} {class} {depth} {nodes} {statements} valid {b} has is =
    let after : Folded = record { group = before; class = class; depth = depth; nodes = nodes; statements = statements } in
    let f = fold_in after in
    let of = fold_is after b has is in
    by_both
    (λ q. (
      after,
      record {
        valid = valid;
        fold = f;
        is_fold = of;
        class = q.0;
        depth = subst (IsDepth f) (sym q.1.0) (depth_found_is f);
        bounds = q.1.1;
        made = refl;
      },
    ))
    (λ p.
    let g = p.1.fold in
    let once = words_once line p.0.class class p.0.depth depth p.0.nodes nodes p.0.statements statements p.1.valid valid in
    let class_is : class ≡ class_of f = sym once.0 ∙ p.1.class ∙ classes before g f p.1.is_fold of in
    let depth_is : depth ≡ depth_of f = sym once.1 ∙ depths before g f p.1.is_fold of p.0.depth (depth_of f) p.1.depth (depth_found_is f) in
    let same = blocks before g f p.1.is_fold of in (
      class_is,
      (
        depth_is,
        record {
          enough_nodes = subst (λ n. block_nodes (fold_block f) ≤ n) once.2
              (subst (λ x. block_nodes x ≤ p.0.nodes) same p.1.bounds.enough_nodes);
          most_nodes = subst (λ n. n ≤ MAX_NODES) once.2 p.1.bounds.most_nodes;
          enough_statements = subst (λ n. block_count (fold_block f) ≤ n) once.3
              (subst (λ x. block_count x ≤ p.0.statements) same p.1.bounds.enough_statements);
          most_statements = subst (λ n. n ≤ MAX_STATEMENTS) once.3 p.1.bounds.most_statements;
        },
      ),
    ))
    (both (same_class class (class_of f)) (both (same_number depth (depth_of f)) (bounds f nodes statements)))

pub fold_line : (before : Group) (line : List ℕ) → Decided ((after : Folded) × IsFoldLine before line after)
fold_line before line =
    from_found (λ p. (p.0.class, p.0.depth, p.0.nodes, p.0.statements, p.1.valid)) (λ said.
    from_value before.body (λ p. (p.1.is_fold.words, p.1.is_fold.has_body)) (λ ws has.
    from_found (λ p. (fold_block p.1.fold, body_of ws has p.0 p.1))
    (λ found. ended said.4 has found.1)
    (is_body (length before.initial) (length before.args) ws))) (fold_words line)
  where
    body_of : (ws : List Lexeme) → before.body ≡ Some ws → (after : Folded) (p : IsFoldLine before line after)
        → IsBody (length before.initial) (length before.args) ws (fold_block p.fold)
    body_of ws has after p =
        subst (λ w. IsBody (length before.initial) (length before.args) w (fold_block p.fold))
        (some_same ws p.is_fold.has_body has) p.is_fold.body
