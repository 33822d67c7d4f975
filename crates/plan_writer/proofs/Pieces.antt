-- Pieces of a line that are written in sequence.
use Rattle.std.proofs.Common.{◌≡◌, ℕ, ◌+◌, ◌<◌, ◌≤◌, List, [], ◌∷◌, ◌++◌, length, get_or, drop, sym, ap, ◌∙◌, append_assoc, append-nil}
use Rattle.std.proofs.lemmas.{List.{drop_more, drop_all, map-append, take_more, Elements.filter-append}, Grind.flat_map-append}
use Rattle.std.specs.Prelude.{codes, map, filter, take}
use Rattle.marple_base.specs.{declared.field.{Field.Field, FieldSet.FieldSet}, Field.{field_name, has_field}}
use Rattle.query_lang.specs.{declared.fold.{TypedExpr.TypedExpr, TypedStmt.{TypedStmt, Assign, If}}, Terms.term_of}
use Rattle.query_lang.{specs.Blocks.{Block, End, Set, Fork, followed, stmt_block, block_of}, proofs.TreeLemmas.{block_assign, block_if}}
use Rattle.plan_writer.specs.Words.{spaced, state_word, term_words, block_words}

pub after_both : (xs ys : List (List ℕ)) → spaced (xs ++ ys) ≡ spaced xs ++ spaced ys
after_both xs ys = flat_map-append (λ word. 32 ∷ word) xs ys

-- the words of a block and then those of another
pub words_followed : (states : ℕ) (p q : Block) → block_words states (followed p q) ≡ block_words states p ++ block_words states q
words_followed states End q = λ _. block_words states q
words_followed states (Set v e next) q = ap (λ l. codes "set" ∷ state_word v ∷ (term_words states e ++ l)) (words_followed states next q)
    ∙ ap (λ l. codes "set" ∷ state_word v ∷ l) (sym (append_assoc (term_words states e) (block_words states next) (block_words states q)))
words_followed states (Fork c a b next) q = ap (λ l. codes "if" ∷ (term_words states c ++ (codes "{" ∷ (block_words states a
    ++ (codes "}" ∷ codes "{" ∷ (block_words states b ++ (codes "}" ∷ l))))))) (words_followed states next q)
    ∙ regrouped (codes "if") (codes "{") (codes "}") (term_words states c) (block_words states a) (block_words states b)
    (block_words states next) (block_words states q)
  where
    regrouped : (i o e : List ℕ) (t x y n z : List (List ℕ)) →
        i ∷ (t ++ (o ∷ (x ++ (e ∷ o ∷ (y ++ (e ∷ (n ++ z))))))) ≡ (i ∷ (t ++ (o ∷ (x ++ (e ∷ o ∷ (y ++ (e ∷ n))))))) ++ z
    regrouped i o e t x y n z = simp (append_assoc)

-- one more statement is written
pub stmts_more : (states : ℕ) (xs : List TypedStmt) (i : ℕ) (x : TypedStmt) (t1 t2 : List ℕ) → i < length xs → x ≡ get_or xs i x → t2 ≡ t1
    ++ spaced (block_words states (stmt_block x)) →
    t2 ++ spaced (block_words states (block_of (drop (i + 1) xs))) ≡ t1 ++ spaced (block_words states (block_of (drop i xs)))
stmts_more states xs i x t1 t2 lt is e =
    let rest = block_of (drop (i + 1) xs) in
    ap (λ t. t ++ spaced (block_words states rest)) e
    ∙ append_assoc t1 (spaced (block_words states (stmt_block x))) (spaced (block_words states rest))
    ∙ ap (λ l. t1 ++ l) (sym (after_both (block_words states (stmt_block x)) (block_words states rest)))
    ∙ ap (λ l. t1 ++ spaced l) (sym (words_followed states (stmt_block x) rest))
    ∙ ap (λ y. t1 ++ spaced (block_words states (followed (stmt_block y) rest))) is
    ∙ ap (λ l. t1 ++ spaced (block_words states (block_of l))) (sym (drop_more xs i x lt))

-- and all are written
pub stmts_end : (states : ℕ) (xs : List TypedStmt) (i : ℕ) (t1 t2 : List ℕ) → length xs ≤ i → t1
    ++ spaced (block_words states (block_of (drop i xs))) ≡ t2 → t1 ≡ t2
stmts_end states xs i t1 t2 le e =
    sym (append-nil t1) ∙ ap (λ l. t1 ++ spaced (block_words states (block_of l))) (sym (drop_all i xs le)) ∙ e

-- the eight pieces of a choice
pub choice_written : (states : ℕ) (s : TypedStmt) (c : TypedExpr) (a b p q : List TypedStmt) (t0 t1 t2 t3 t4 t5 t6 t7 t8 : List ℕ)
    → s ≡ If c a b → p ≡ a → q ≡ b →
    t1 ≡ t0 ++ spaced (codes "if" ∷ []) → t2 ≡ t1 ++ spaced (term_words states (term_of c)) → t3 ≡ t2 ++ spaced (codes "{" ∷ []) →
    t4 ≡ t3 ++ spaced (block_words states (block_of p)) → t5 ≡ t4 ++ spaced (codes "}" ∷ []) → t6 ≡ t5 ++ spaced (codes "{" ∷ []) →
    t7 ≡ t6 ++ spaced (block_words states (block_of q)) → t8 ≡ t7 ++ spaced (codes "}" ∷ []) →
    t8 ≡ t0 ++ spaced (block_words states (stmt_block s))
choice_written states s c a b p q t0 t1 t2 t3 t4 t5 t6 t7 t8 is ea eb e1 e2 e3 e4 e5 e6 e7 e8 =
    let x = spaced (term_words states (term_of c)) in
    let y = spaced (block_words states (block_of p)) in
    let z = spaced (block_words states (block_of q)) in
    let all : t8 ≡ (((((((t0 ++ spaced (codes "if" ∷ [])) ++ x) ++ spaced (codes "{" ∷ [])) ++ y) ++ spaced (codes "}" ∷ []))
    ++ spaced (codes "{" ∷ [])) ++ z) ++ spaced (codes "}" ∷ []) = cc in
    all ∙ glued t0 (codes "if") (codes "{") (codes "}") (term_words states (term_of c)) (block_words states (block_of p))
    (block_words states (block_of q)) ∙ ap (λ l. t0 ++ spaced (block_words states (Fork (term_of c) (block_of l) (block_of q) End))) ea
    ∙ ap (λ l. t0 ++ spaced (block_words states (Fork (term_of c) (block_of a) (block_of l) End))) eb
    ∙ ap (λ l. t0 ++ spaced (block_words states l)) (sym (block_if c a b))
    ∙ ap (λ l. t0 ++ spaced (block_words states (stmt_block l))) (sym is)
  where
    flat : (t i x o y e z : List ℕ) → (((((((t ++ i) ++ x) ++ o) ++ y) ++ e) ++ o) ++ z) ++ e ≡ t
        ++ (i ++ (x ++ (o ++ (y ++ (e ++ (o ++ (z ++ e)))))))
    flat t i x o y e z = simp (append_assoc)

    parts : (i x o y e z : List (List ℕ)) → spaced (i ++ (x ++ (o ++ (y ++ (e ++ (o ++ (z ++ e))))))) ≡ spaced i
        ++ (spaced x ++ (spaced o ++ (spaced y ++ (spaced e ++ (spaced o ++ (spaced z ++ spaced e))))))
    parts i x o y e z = simp (after_both)

    glued : (t0 i o e : List ℕ) (x y z : List (List ℕ)) →
        (((((((t0 ++ spaced (i ∷ [])) ++ spaced x) ++ spaced (o ∷ [])) ++ spaced y) ++ spaced (e ∷ [])) ++ spaced (o ∷ [])) ++ spaced z)
        ++ spaced (e ∷ []) ≡ t0 ++ spaced (i ∷ (x ++ (o ∷ (y ++ (e ∷ o ∷ (z ++ (e ∷ [])))))))
    glued t0 i o e x y z = flat t0 (spaced (i ∷ [])) (spaced x) (spaced (o ∷ [])) (spaced y) (spaced (e ∷ [])) (spaced z)
        ∙ ap (λ l. t0 ++ l) (sym (parts (i ∷ []) x (o ∷ []) y (e ∷ []) z))

-- the three pieces of an assignment
pub assignment_written : (states v n : ℕ) (s : TypedStmt) (e : TypedExpr) (t0 t1 t2 t3 : List ℕ) → s ≡ Assign v e → n ≡ v →
    t1 ≡ t0 ++ spaced (codes "set" ∷ []) → t2 ≡ t1 ++ spaced (state_word n ∷ []) → t3 ≡ t2 ++ spaced (term_words states (term_of e))
    → t3 ≡ t0 ++ spaced (block_words states (stmt_block s))
assignment_written states v n s e t0 t1 t2 t3 is same e1 e2 e3 =
    let x = spaced (term_words states (term_of e)) in
    let all : t3 ≡ ((t0 ++ spaced (codes "set" ∷ [])) ++ spaced (state_word n ∷ [])) ++ x = cc in
    all ∙ glued t0 (codes "set") (state_word n) (term_words states (term_of e))
    ∙ ap (λ m. t0 ++ spaced (codes "set" ∷ state_word m ∷ term_words states (term_of e))) same
    ∙ ap (λ l. t0 ++ spaced (codes "set" ∷ state_word v ∷ l)) (sym (append-nil (term_words states (term_of e))))
    ∙ ap (λ l. t0 ++ spaced (block_words states l)) (sym (block_assign v e))
    ∙ ap (λ l. t0 ++ spaced (block_words states (stmt_block l))) (sym is)
  where
    glued : (t0 i o : List ℕ) (x : List (List ℕ)) → ((t0 ++ spaced (i ∷ [])) ++ spaced (o ∷ [])) ++ spaced x ≡ t0 ++ spaced (i ∷ o ∷ x)
    glued t0 i o x = append_assoc (t0 ++ spaced (i ∷ [])) (spaced (o ∷ [])) (spaced x)
        ∙ append_assoc t0 (spaced (i ∷ [])) (spaced (o ∷ []) ++ spaced x)
        ∙ ap (λ l. t0 ++ (spaced (i ∷ []) ++ l)) (sym (after_both (o ∷ []) x)) ∙ ap (λ l. t0 ++ l) (sym (after_both (i ∷ []) (o ∷ x)))

-- one more field's name is written, where it is in the set
pub fields_more : (reads : FieldSet) (fields : List Field) (i : ℕ) (d : Field) (t0 t1 t2 : List ℕ) → i < length fields → t1 ≡ t0
    ++ spaced (map field_name (filter (has_field reads) (take i fields))) →
    t2 ≡ t1 ++ spaced (map field_name (filter (has_field reads) (get_or fields i d ∷ []))) → t2 ≡ t0
    ++ spaced (map field_name (filter (has_field reads) (take (i + 1) fields)))
fields_more reads fields i d t0 t1 t2 lt e f =
    let x = filter (has_field reads) (take i fields) in
    let y = filter (has_field reads) (get_or fields i d ∷ []) in
    f ∙ ap (λ t. t ++ spaced (map field_name y)) e ∙ append_assoc t0 (spaced (map field_name x)) (spaced (map field_name y))
    ∙ ap (λ l. t0 ++ l) (sym (after_both (map field_name x) (map field_name y)))
    ∙ ap (λ l. t0 ++ spaced l) (sym (map-append field_name x y))
    ∙ ap (λ l. t0 ++ spaced (map field_name l)) (sym (filter-append (has_field reads) (take i fields) (get_or fields i d ∷ [])))
    ∙ ap (λ l. t0 ++ spaced (map field_name (filter (has_field reads) l))) (sym (take_more fields i d lt))
