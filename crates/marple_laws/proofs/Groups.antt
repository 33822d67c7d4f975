-- All lines of a groupby, and of all groupbys.
use Rattle.marple_laws.proofs.{Bodies.{block_read, few_braces, tokens_block}, GroupLines.{AreReadable, IsReadable, args_written}}
use Rattle.marple_laws.proofs.{GroupLines.{group_so_far, keys_written, outside, part_written, states_written, within}, Names.token_name}
use Rattle.marple_laws.proofs.{Numbers.{number_decimal, token_decimal}, OpLines.{operand_read, token_operand}, Tokens.is_token}
use Rattle.marple_laws.proofs.Words
use Words.{AllWords, AreNames, AreNew, AreNoKeys, Class, Contains, Field, Folded, GroupShape, GroupWiring, IsBody, IsDepth, IsValidFold}
use Words.{Lexeme, Linear, List, MAX_ARGS, MAX_GROUPBYS, MAX_KEYS, Made, None, Operand, Option, PlanOp, Some, TypedFold, [], ap, append-nil}
use Words.{append_assoc, arith, block_words, class_of, class_same, class_word, codes, decimal, depth_same, flat_map, fold_args, fold_block}
use Words.{fold_states, folded_of, folded_with, group_lines, group_lines_of, is_name, length, length_push, line, operand_word}
use Words.{range_with_len, refl, subst, suc, sym, true, word_named, written_block, ℕ, ◌++◌, ◌+◌, ◌<◌, ◌^◌, ◌∙◌, ◌∷◌, ◌≡◌, ◌≤◌}
use Rattle.marple_laws.proofs.Written.{IsWritten, line_written, nothing_written, written_then}
use Rattle.std.specs.Prelude.{map, slice_get}
use Rattle.plan_file.specs.declared.line_word.LineWord.TheVariants as lead
use Rattle.plan_file.specs.Groups.{names_of}

-- what holds of a groupby whose lines are allowed in a plan with these fields and operations
pub record IsGroupOk (fields : List Field) (ops : List PlanOp) (shape : GroupShape) (wiring : GroupWiring) (f : TypedFold) : Type 0 where
  pub named : is_name shape.name ≡ true
  pub no_stream : shape.name ≡ codes "pktstream" → ⊥
  pub present : IsReadable fields ops wiring.present
  pub key_names : AreNames shape.key_names
  pub keys_differ : AreNew [] shape.key_names
  pub all_keys : length shape.key_names ≡ length wiring.keys
  pub some_keys : 0 < length wiring.keys
  pub most_keys : length wiring.keys ≤ MAX_KEYS
  pub keys : AreReadable fields ops wiring.keys
  pub most_args : length wiring.args ≤ MAX_ARGS
  pub args : AreReadable fields ops wiring.args
  pub state_names : AreNames shape.state_names
  pub states_differ : AreNew [] shape.state_names
  pub states_apart : AreNoKeys shape.key_names shape.state_names
  pub all_states : length shape.state_names ≡ length f.initial
  pub initial : AllWords f.initial
  pub valid : IsValidFold f
  pub all_args : fold_args f ≡ length wiring.args
  pub class : shape.class ≡ class_of f
  pub depth : IsDepth f shape.depth
  pub shallow : shape.depth < 2 ^ 64
  pub nodes : shape.nodes ≡ f.nodes
  pub statements : shape.statements ≡ f.statements

class_token : (class : Class) → is_token (class_word class) ≡ true
class_token Linear = refl
class_token Class.Other = refl

-- the words that a groupby's lines begin with
record Leads : Type 0 where
  group : word_named (codes "group") ≡ lead.Group
  body : word_named (codes "body") ≡ lead.Body
  fold : word_named (codes "fold") ≡ lead.Fold

leads : Leads
unfolding word_named
leads = record { group = refl; body = refl; fold = refl }

module _ (fields : List Field) (ops : List PlanOp) (groups : List Folded) (shape : GroupShape) (wiring : GroupWiring) (f : TypedFold)
    (ok : IsGroupOk fields ops shape wiring f) (room : length groups < MAX_GROUPBYS) (new : Contains (names_of groups) shape.name → ⊥) where
  abbrev so_far : List (List ℕ) → List Operand → List Operand → List (List ℕ) → List ℕ → Option (List Lexeme) → Made
  so_far key_names keys args state_names initial body = within fields ops groups
      (group_so_far fields ops groups shape.name wiring.present key_names keys args state_names initial body)

  name_written : IsWritten (line (codes "group") (shape.name ∷ operand_word wiring.present ∷ [])) (outside fields ops groups)
      (so_far [] [] [] [] [] None)
  name_written =
      line_written _ refl
      (token_name shape.name ok.named, (token_operand wiring.present ok.present.fits, tt)) leads.group
      (λ cut. record {
        fields = fields;
        reads = refl;
        current = refl;
        prints = refl;
        group = group_so_far fields ops groups shape.name wiring.present [] [] [] [] [] None;
        valid = record {
          room = room;
          valid = record {
            token = operand_word wiring.present;
            words = cut;
            named = ok.named;
            reads = operand_read wiring.present ok.present.fits;
            known = ok.present.known;
          };
          no_stream = ok.no_stream;
          new = new;
          made = refl;
        };
        made = refl;
      })

  states : ℕ
  states = fold_states f

  few : fold_states f + fold_args f < 2 ^ 64
  few = omega arith

  is_body : IsBody (length f.initial) (length wiring.args) (written_block (fold_states f) (fold_block f)) (fold_block f)
  is_body =
      subst (λ a. IsBody (length f.initial) a (written_block (fold_states f) (fold_block f)) (fold_block f)) ok.all_args
      (subst (λ s. IsBody s (fold_args f) (written_block (fold_states f) (fold_block f)) (fold_block f)) (sym ok.valid.starts)
      (record {
        statements = refl;
        typed = ok.valid.statements;
        nesting = omega (arith, few_braces (fold_block f), ok.valid.enough_statements, ok.valid.most_statements);
      }))

  body_written : IsWritten (line (codes "body") (block_words (fold_states f) (fold_block f)))
      (so_far shape.key_names wiring.keys wiring.args shape.state_names f.initial None)
      (so_far shape.key_names wiring.keys wiring.args shape.state_names f.initial (Some (written_block (fold_states f) (fold_block f))))
  body_written =
      part_written (λ before text after p. p) refl (tokens_block _ _ _ few ok.valid.statements) leads.body
      (λ cut. record {
        keys = ok.some_keys;
        once = refl;
        words = written_block (fold_states f) (fold_block f);
        valid = record {
          rest = block_words (fold_states f) (fold_block f);
          begins = cut;
          are = sym (block_read _ _ _ few ok.valid.statements);
          body = fold_block f;
          is_body = is_body;
        };
        made = refl;
      })

  -- the fold as the text gives it, which emits nothing
  quiet : TypedFold
  quiet = record f { emit = None }

  bounds_written : IsWritten (line (codes "fold") (class_word shape.class ∷ decimal shape.depth ∷ decimal shape.nodes
      ∷ decimal shape.statements ∷ [])) (so_far shape.key_names wiring.keys wiring.args shape.state_names f.initial
      (Some (written_block (fold_states f) (fold_block f)))) (outside fields ops (groups ++ folded_with shape wiring f ∷ []))
  unfolding quiet
  bounds_written =
      line_written _ refl (class_token _, (token_decimal ok.shallow, (token_decimal nodes, (token_decimal statements, tt)))) leads.fold
      (λ cut. record {
        group = group_so_far fields ops groups shape.name wiring.present shape.key_names wiring.keys wiring.args shape.state_names f.initial
            (Some (written_block (fold_states f) (fold_block f)));
        current = refl;
        folded = folded_with shape wiring f;
        valid = record {
          valid = record {
            depth_token = decimal shape.depth;
            nodes_token = decimal shape.nodes;
            statements_token = decimal shape.statements;
            words = cut;
            depth_is = number_decimal ok.shallow;
            nodes_are = number_decimal nodes;
            statements_are = number_decimal statements;
          };
          fold = quiet;
          is_fold = record {
            words = written_block (fold_states f) (fold_block f);
            has_body = refl;
            body = is_body;
            states = sym ok.valid.starts;
            args = ok.all_args;
            initial = refl;
            emit = refl;
          };
          class = ok.class ∙ class_same f quiet refl refl;
          depth = depth_same f quiet refl refl shape.depth ok.depth;
          bounds = record {
            enough_nodes = omega arith;
            most_nodes = omega arith;
            enough_statements = omega arith;
            most_statements = omega arith;
          };
          made = refl;
        };
        made = refl;
      })
    where
      nodes : shape.nodes < 2 ^ 64
      nodes = omega arith

      statements : shape.statements < 2 ^ 64
      statements = omega arith

  pub group_written : IsWritten (group_lines shape wiring f) (outside fields ops groups)
      (outside fields ops (groups ++ folded_with shape wiring f ∷ []))
  group_written =
      written_then _ name_written
      (written_then _
      (keys_written _ _ _ _ wiring.present [] [] shape.key_names wiring.keys ok.all_keys (omega arith)
      ok.key_names ok.keys_differ ok.keys)
      (written_then _
      (args_written _ _ groups shape.name wiring.present shape.key_names wiring.keys ok.some_keys [] wiring.args
      (omega arith) ok.args)
      (written_then _
      (states_written _ _ _ _ wiring.present shape.key_names wiring.keys ok.some_keys wiring.args [] []
      shape.state_names f.initial ok.all_states (omega arith) ok.state_names ok.states_differ
      ok.states_apart ok.initial)
      (written_then _
      body_written bounds_written))))

names_push : (groups : List Folded) (one : Folded) → names_of (groups ++ one ∷ []) ≡ names_of groups ++ one.group.name ∷ []
names_push [] one = refl
names_push (g ∷ groups) one = ap (λ l. g.group.name ∷ l) (names_push groups one)

-- a groupby with its parts
pub record HasGroup (fields : List Field) (ops : List PlanOp) (shape : GroupShape) (wirings : List GroupWiring)
    (folds : ℕ → Option TypedFold) (i : ℕ) : Type 0 where
  pub wiring : GroupWiring
  pub wired : slice_get wirings i ≡ Some wiring
  pub fold : TypedFold
  pub folds_are : folds i ≡ Some fold
  pub ok : IsGroupOk fields ops shape wiring fold

-- the lines of all groupbys
pub groups_written : {fields : List Field} {ops : List PlanOp} (shapes : List GroupShape) {wirings : List GroupWiring}
    {folds : ℕ → Option TypedFold} → length shapes ≤ MAX_GROUPBYS → ((i : ℕ) (shape : GroupShape) → slice_get shapes i ≡ Some shape
    → HasGroup fields ops shape wirings folds i) → (rest : List GroupShape) {i : ℕ} {groups : List Folded} → i + length rest ≡ length shapes
    → length groups ≡ i → ((k : ℕ) → slice_get shapes (i + k) ≡ slice_get rest k) → AreNew (names_of groups) (map (λ s. s.name) rest)
    → IsWritten (flat_map (λ i. group_lines_of (slice_get shapes i) (slice_get wirings i) (folds i)) (range_with_len i (length rest)))
    (outside fields ops groups) (outside fields ops (groups ++ flat_map
    (λ i. folded_of (slice_get shapes i) (slice_get wirings i) (folds i)) (range_with_len i (length rest))))
groups_written {fields} {ops} shapes most each [] {groups} whole long are new =
    nothing_written (ap (outside fields ops) (append-nil groups))
groups_written {fields} {ops} shapes {wirings} {folds} most each (shape ∷ rest) {i} {groups} whole long are new =
    let here : slice_get shapes i ≡ Some shape = (let z : i ≡ i + 0 = omega arith in ap (slice_get shapes) z ∙ are 0) in
    let h = each i shape here in
    let one : Folded = folded_with shape h.wiring h.fold in
    let texts = flat_map (λ i. group_lines_of (slice_get shapes i) (slice_get wirings i) (folds i))
    (range_with_len (i + 1) (length rest)) in
    let made = flat_map (λ i. folded_of (slice_get shapes i) (slice_get wirings i) (folds i)) (range_with_len (i + 1) (length rest)) in
    let text_is : group_lines shape h.wiring h.fold ≡ group_lines_of (slice_get shapes i) (slice_get wirings i) (folds i) =
    sym (λ k. group_lines_of (here k) (h.wired k) (h.folds_are k)) in
    let made_is : one ∷ [] ≡ folded_of (slice_get shapes i) (slice_get wirings i) (folds i) =
    sym (λ k. folded_of (here k) (h.wired k) (h.folds_are k)) in
    let more = groups_written shapes most each rest (omega (arith, whole))
    (omega (arith, long, length_push groups one))
    (λ k. (let z : i + 1 + k ≡ i + suc k = omega arith in ap (slice_get shapes) z ∙ are (suc k)))
    (subst (λ l. AreNew l (map (λ s. s.name) rest)) (sym (names_push groups one)) new.1) in
    subst (λ t. IsWritten (t ++ texts) (outside fields ops groups) (outside fields ops
    (groups ++ flat_map (λ i. folded_of (slice_get shapes i) (slice_get wirings i) (folds i)) (range_with_len i (suc (length rest))))))
    text_is
    (subst (λ m. IsWritten (group_lines shape h.wiring h.fold ++ texts) (outside fields ops groups)
    (outside fields ops (groups ++ (m ++ made)))) made_is
    (written_then texts
    (group_written fields ops groups shape h.wiring h.fold h.ok (omega (arith, most, whole, long)) new.0)
    (subst (λ l. IsWritten texts (outside fields ops (groups ++ one ∷ [])) (outside fields ops l)) (append_assoc groups (one ∷ []) made)
    more)))
