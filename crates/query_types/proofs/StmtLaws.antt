-- What the check of a fold gives is valid.
use Rattle.std.proofs.Common.{◌≡◌, ℕ, ◌+◌, ◌<◌, ◌≤◌, ◌^◌, List, [], ◌∷◌, ◌++◌, length, map, sum, sum_by, None, Ok, refl, sym, ap, subst}
use Rattle.std.proofs.{Common.{◌∙◌, arith}, lemmas.{Bool.ltb-true, List.{length-append, length-map, Sums.{sum-map, sum_by-cons}}}}
use Rattle.query_lang.specs.declared.{fold.{TypedExpr.TypedExpr, TypedFold.TypedFold}, query.{FoldDef.FoldDef, Name.Name}}
use Rattle.query_lang.specs.declared.{query.{StateVar.StateVar, Expr.Expr}, typing.{Body.Body, Enclosing.Enclosing}}
use Rattle.query_lang.specs.{declared.query.Stmt.{Stmt, fold-roll-Stmt, ind-Stmt, roll-Stmt, map-Stmt}, Terms.term_of, Blocks.End}
use Rattle.query_lang.specs.{Folds.{IsValidFold, ReadsArguments}, TypedFolds.{states_from, args_from, state_in, inside, Adding, in_order}}
use Rattle.query_lang.specs.TypedFolds.{stmt_step, stmt_checked, expr_nodes, stmt_nodes_step, stmt_nodes, count_step, stmt_count}
use Rattle.query_lang.specs.TypedFolds.{body_checked, fold_nodes, fold_statements}
use Rattle.query_lang.{specs.declared.fault.TheConstants.{MAX_ARGS, MAX_NODES, MAX_STATEMENTS, MAX_STATES}, proofs.TreeLemmas.term_not}
use Rattle.query_types.specs.Numbers.{greatest_of, stmt_number_step, greatest_in}
use Rattle.query_types.proofs.ExprLaws.{from_ok, same_ok, found_first, must_ok, IsConditionIn, IsWordIn, condition_valid, word_valid}
use Rattle.query_types.proofs.{ReadLaws.condition_past, Makings.{FoldMade, folded}, BodyLaws.{wider, must_not_ok, IsBlockIn, IsBody}}
use Rattle.query_types.proofs.BodyLaws.{IsAround, target_bound, added, assign_block, if_block, inside_valid, not_in, emit_valid}
use Rattle.query_types.proofs.BodyLaws.{no_state_ok}
use Rattle.query_lang.specs.declared.fold.TypedExpr.TheVariants as typed
use Rattle.query_lang.specs.declared.query.Stmt.TheOpen as stmt

abbrev IsSound : List ℕ → List ℕ → Stmt → Type 0
IsSound states args s = (n d p c : ℕ) (outer : Enclosing) (found made : Body) → greatest_in s < 2 ^ 64
    → IsAround (length states) (length args) n d outer
    → n + stmt_nodes s ≤ MAX_NODES → d + stmt_count s ≤ MAX_STATEMENTS → IsBody (length states) (length args) p c found
    → stmt_checked states args s outer found ≡ Ok made
    → IsBody (length states) (length args) (p + stmt_nodes s) (c + stmt_count s) made

abbrev Sound : List ℕ → List ℕ → Type 0
Sound states args = (s : Stmt) × IsSound states args s

abbrev IsSoundLayer : List ℕ → List ℕ → stmt.Stmt-F Stmt → Type 0
IsSoundLayer states args x = (n d p c : ℕ) (outer : Enclosing) (found made : Body)
    → stmt_number_step (map-Stmt Stmt ℕ greatest_in x) < 2 ^ 64 → IsAround (length states) (length args) n d outer
    → n + stmt_nodes_step (map-Stmt Stmt ℕ stmt_nodes x) ≤ MAX_NODES → d + count_step (map-Stmt Stmt ℕ stmt_count x) ≤ MAX_STATEMENTS
    → IsBody (length states) (length args) p c found
    → stmt_step states args (map-Stmt Stmt Adding (stmt_checked states args) x) outer found ≡ Ok made
    → IsBody (length states) (length args) (p + stmt_nodes_step (map-Stmt Stmt ℕ stmt_nodes x))
    (c + count_step (map-Stmt Stmt ℕ stmt_count x)) made

of_layer : (states args : List ℕ) (x : stmt.Stmt-F Stmt) → IsSoundLayer states args x → IsSound states args (roll-Stmt x)
of_layer states args x layer n d p c outer found made h va hn hd vf e =
    let nodes = fold-roll-Stmt ℕ stmt_nodes_step x in
    let count = fold-roll-Stmt ℕ count_step x in
    let B : ℕ → ℕ → Type 0 = λ a b. IsBody (length states) (length args) (p + a) (c + b) made in
    let steps = ap (λ (f : Adding). f outer found) (fold-roll-Stmt Adding (stmt_step states args) x) in
    let whole = layer n d p c outer found made (rw (← fold-roll-Stmt ℕ stmt_number_step x) h) va (rw (← nodes) hn) (rw (← count) hd) vf
    (sym steps ∙ e) in
    let half : B (stmt_nodes (roll-Stmt x)) (count_step (map-Stmt Stmt ℕ stmt_count x)) =
    rw nodes whole in
    rw count half

sum_cons : (f : Stmt → ℕ) (s : Stmt) (rest : List Stmt) → sum (map f (s ∷ rest)) ≡ f s + sum (map f rest)
sum_cons f s rest = sum-map f (s ∷ rest) ∙ sum_by-cons f s rest ∙ ap (λ n. f s + n) (sym (sum-map f rest))

-- the statements of a block, each of which is sound
block_sound : (states args : List ℕ) (ss : List (Sound states args)) (n d p c : ℕ) (outer : Enclosing) (found made : Body)
    → greatest_of (map greatest_in (map (λ s. s.0) ss)) < 2 ^ 64 → IsAround (length states) (length args) n d outer
    → n + sum (map stmt_nodes (map (λ s. s.0) ss)) ≤ MAX_NODES → d + sum (map stmt_count (map (λ s. s.0) ss)) ≤ MAX_STATEMENTS
    → IsBody (length states) (length args) p c found
    → in_order (map (stmt_checked states args) (map (λ s. s.0) ss)) outer found ≡ Ok made
    → IsBody (length states) (length args) (p + sum (map stmt_nodes (map (λ s. s.0) ss))) (c + sum (map stmt_count (map (λ s. s.0) ss)))
    made
block_sound states args [] n d p c outer found made h va hn hd vf e =
    from_ok (IsBody _ _ _ _) e (record { block = wider vf.block (omega arith) (omega arith); emit = vf.emit })
block_sound states args (s ∷ ss) n d p c outer found made h va hn hd vf e =
    let nodes = sum_cons stmt_nodes s.0 (map (λ s. s.0) ss) in
    let count = sum_cons stmt_count s.0 (map (λ s. s.0) ss) in
    let first = found_first _ _ _ e in
    let one = s.1 n d p c outer found first.0 (omega arith) va (omega (arith, nodes, hn)) (omega (arith, count, hd)) vf first.1 in
    let rest = block_sound states args ss n d (p + stmt_nodes s.0) (c + stmt_count s.0) outer first.0 made (omega arith) va
    (omega (arith, nodes, hn)) (omega (arith, count, hd)) one first.2 in
    record { block = wider rest.block (omega (arith, nodes)) (omega (arith, count)); emit = rest.emit }

over_both : (states args : List ℕ) (n : ℕ) (e : TypedExpr) → IsConditionIn (length (states ++ args)) n e
    → IsConditionIn (length states + length args) n e
over_both states args n e v = rw (← length-append states args) v

word_over_both : (states args : List ℕ) (n : ℕ) (e : TypedExpr) → IsWordIn (length (states ++ args)) n e
    → IsWordIn (length states + length args) n e
word_over_both states args n e v = rw (← length-append states args) v

empty_block : (states args : ℕ) → IsBlockIn states args 0 0 End
empty_block states args = record { valid = tt; nodes = omega arith; count = omega arith }

more_nodes : (slots n m : ℕ) (e : TypedExpr) → n ≤ m → IsConditionIn slots n e → IsConditionIn slots m e
more_nodes slots n m e h v = record { term = v.term; condition = v.condition; nodes = omega (arith, v.nodes) }

not_reads : (states : ℕ) (e : TypedExpr) → ReadsArguments states (term_of e) → ReadsArguments states (term_of (typed.Not e))
not_reads states e r = rw (term_not e) r

-- a choice
if_step : (states args : List ℕ) (t : Expr) (a b : List (Sound states args)) → IsSoundLayer states args
    (map-Stmt (Sound states args) Stmt (λ s. s.0) (stmt.If t a b))
if_step states args t a b n d p c outer found made h va hn hd vf e =
    let S = length states in
    let A = length args in
    let firsts = map (λ (s : Sound states args). s.0) a in
    let seconds = map (λ (s : Sound states args). s.0) b in
    let condition = found_first _ _ _ e in
    let k = condition.0 in
    let one = found_first _ _ _ condition.2 in
    let two = found_first _ _ _ one.2 in
    let vc = over_both states args (expr_nodes t) k (condition_valid (states ++ args) [] t k (omega arith) condition.1) in
    let reads : state_in states t ≡ None → ReadsArguments S (term_of k) = λ none. condition_past states args t k none condition.1 in
    let holding = inside_valid states args n d (expr_nodes t) outer t k va
    (more_nodes (S + A) (expr_nodes t) (expr_nodes t + 1) k (omega arith) vc) reads in
    let negation = not_in (S + A) (expr_nodes t) k vc in
    let failing = inside_valid states args n d (expr_nodes t) outer t (typed.Not k) va negation (λ none. not_reads S k (reads none)) in
    let start : IsBody S A 0 0 (record { statements = []; emit = found.emit }) = record { block = empty_block S A; emit = vf.emit } in
    let v1 = block_sound states args a (n + expr_nodes t) (d + 1) 0 0 (inside states outer t k)
    (record { statements = []; emit = found.emit }) one.0 (omega arith) holding (omega arith) (omega arith) start one.1 in
    let again : IsBody S A 0 0 (record { statements = []; emit = one.0.emit }) = record { block = empty_block S A; emit = v1.emit } in
    let v2 = block_sound states args b (n + expr_nodes t) (d + 1) 0 0 (inside states outer t (typed.Not k))
    (record { statements = []; emit = one.0.emit }) two.0 (omega arith) failing (omega arith) (omega arith) again two.1 in
    let x = sum (map stmt_nodes firsts) in
    let y = sum (map stmt_nodes seconds) in
    let i = sum (map stmt_count firsts) in
    let j = sum (map stmt_count seconds) in
    let w1 : IsBlockIn S A x i _ = wider v1.block (omega arith) (omega arith) in
    let w2 : IsBlockIn S A y j _ = wider v2.block (omega arith) (omega arith) in
    from_ok (IsBody _ _ _ _) two.2 (record {
      block = added S A p c (expr_nodes t + x + y) (1 + i + j) found _ vf
          (if_block S A (expr_nodes t) x y i j k one.0.statements two.0.statements vc w1 w2);
      emit = v2.emit;
    })

step : (states args : List ℕ) (y : stmt.Stmt-F (Sound states args)) → IsSoundLayer states args
    (map-Stmt (Sound states args) Stmt (λ s. s.0) y)
step states args (stmt.Assign name value) n d p c outer found made h va hn hd vf e =
    let target = found_first _ _ _ e in
    let word = found_first _ _ _ target.2 in
    let w = word_over_both states args (expr_nodes value) word.0 (word_valid (states ++ args) [] value word.0 h word.1) in
    from_ok (IsBody _ _ _ _) word.2 (record {
      block = added (length states) (length args) p c (expr_nodes value) 1 found _ vf
          (assign_block (length states) (length args) (expr_nodes value) target.0 word.0 (target_bound states args name target.0 target.1)
          w);
      emit = vf.emit;
    })
step states args (stmt.If t a b) n d p c outer found made h va hn hd vf e =
    if_step states args t a b n d p c outer found made h va hn hd vf e
step states args (stmt.Emit span) n d p c outer found made h va hn hd vf e =
    let once = must_not_ok _ _ _ _ _ e in
    let none = no_state_ok _ _ _ once.1 in
    from_ok (IsBody _ _ _ _) none.1 (record {
      block = wider vf.block (omega arith) (omega arith);
      emit = emit_valid (length states) (length args) n d outer (omega arith) (omega arith) va none.0;
    })

stmt_sound : (states args : List ℕ) (s : Stmt) → IsSound states args s
stmt_sound states args = ind-Stmt (IsSound states args) (λ x y is.
    of_layer states args x (rw (← is) (step states args y)))

sounds : (states args : List ℕ) (ss : List Stmt) → List (Sound states args)
sounds states args [] = []
sounds states args (s ∷ ss) = (s, stmt_sound states args s) ∷ sounds states args ss

sounds_are : (states args : List ℕ) (ss : List Stmt) → map (λ s. s.0) (sounds states args ss) ≡ ss
unfolding sounds
sounds_are states args [] = refl
sounds_are states args (s ∷ ss) = ap (λ rest. s ∷ rest) (sounds_are states args ss)

body_valid : (states args : List ℕ) (ss : List Stmt) (made : Body) → greatest_of (map greatest_in ss) < 2 ^ 64
    → sum_by stmt_nodes ss ≤ MAX_NODES
    → sum_by stmt_count ss ≤ MAX_STATEMENTS
    → body_checked states args ss ≡ Ok made → IsBody (length states) (length args) (sum_by stmt_nodes ss) (sum_by stmt_count ss) made
body_valid states args ss made h hn hd e =
    let S = length states in
    let A = length args in
    let is = sounds_are states args ss in
    let outer : Enclosing = record { condition = None; state = None } in
    let start : Body = record { statements = []; emit = None } in
    let around : IsAround S A 0 0 outer = record { condition = tt; reads = λ _. tt } in
    let v : IsBody S A 0 0 start = record { block = empty_block S A; emit = tt } in
    let Q : List Stmt → Type 0 = λ list. greatest_of (map greatest_in list) < 2 ^ 64 → sum (map stmt_nodes list) ≤ MAX_NODES
    → sum (map stmt_count list) ≤ MAX_STATEMENTS
    → in_order (map (stmt_checked states args) list) outer start ≡ Ok made
    → IsBody S A (0 + sum (map stmt_nodes list)) (0 + sum (map stmt_count list)) made in
    let whole : Q ss = subst Q is (λ g a b k. block_sound states args (sounds states args ss) 0 0 0 0 outer start made g around
    (omega arith)
    (omega arith) v k) in
    let n = sum-map stmt_nodes ss in
    let k = sum-map stmt_count ss in
    let done = whole h (omega (arith, n)) (omega (arith, k)) e in
    record { block = wider done.block (omega (arith, n)) (omega (arith, k)); emit = done.emit }

states_length : (found states : List ℕ) (list : List StateVar) → length found ≤ MAX_STATES → states_from found list ≡ Ok states
    → (length states ≡ length found + length list) × (length states ≤ MAX_STATES)
states_length found states [] h e =
    let same = ap length (same_ok _ _ e) in
    (omega arith, omega arith)
states_length found states (one ∷ rest) h e =
    let new = must_not_ok _ _ _ _ _ e in
    let room = must_ok _ _ _ _ _ new.1 in
    let below : length found < MAX_STATES = ltb-true _ _ room.0 in
    let more = states_length (found ++ one.name.id ∷ []) states rest (omega (arith, length-append found (one.name.id ∷ []))) room.1 in
    (omega (arith, more.0, length-append found (one.name.id ∷ [])), more.1)

args_length : (states found args : List ℕ) (list : List Name) → length found ≤ MAX_ARGS → args_from states found list ≡ Ok args
    → length args ≤ MAX_ARGS
args_length states found args [] h e = let same = ap length (same_ok _ _ e) in omega arith
args_length states found args (one ∷ rest) h e =
    let new = must_not_ok _ _ _ _ _ e in
    let room = must_ok _ _ _ _ _ new.1 in
    let below : length found < MAX_ARGS = ltb-true _ _ room.0 in
    args_length states (found ++ one.id ∷ []) args rest (omega (arith, length-append found (one.id ∷ []))) room.1

-- what the check of a fold gives is valid, where the fold keeps its limits and its numbers are words
pub fold_valid : {d : FoldDef} {f : TypedFold} → greatest_of (map greatest_in d.body) < 2 ^ 64 → fold_nodes d ≤ MAX_NODES
    → fold_statements d ≤ MAX_STATEMENTS → FoldMade d f → IsValidFold f
fold_valid {d} h hn hd (folded states args body is_states is_args is_body) =
    let many = states_length [] states d.states (omega arith) is_states in
    let v = body_valid states args d.body body h hn hd is_body in
    let starts : length (map (λ (state : StateVar). state.initial) d.states) ≡ length d.states = simp length-map in
    record {
      states = many.1;
      args = args_length states [] args d.args (omega arith) is_args;
      starts = omega (arith, many.0, starts);
      statements = v.block.valid;
      enough_nodes = v.block.nodes;
      most_nodes = hn;
      enough_statements = v.block.count;
      most_statements = hd;
      emits = v.emit;
    }
