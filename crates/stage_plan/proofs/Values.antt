-- Registers that hold each operation's result have the values of expressions and streams.
use Rattle.std.proofs.Common.{◌≡◌, ℕ, zero, suc, ◌+◌, ◌<◌, ◌≤◌, Bool, true, false, List, [], ◌∷◌, ◌++◌, length, get_or, take, drop, Some}
use Rattle.std.proofs.Common.{None, Option, refl, sym, ap, subst, ◌∙◌, inl, inr, arith, append_assoc, append-nil, drop-cons}
use Rattle.std.proofs.lemmas.{Bool.{cases_eq, cases_lt}, List.{length_push, map-append}}
use Rattle.std.specs.Prelude.{map, ◌&&◌, slice_get, slice_index, if◌then◌else◌}
use Rattle.marple_base.specs.declared.field.TheConstants.{FIELDS}
use Rattle.query_lang.specs.{Words.{flag, holds, op_value}, declared.fold.{Op.TheVariants.Both, TypedExpr.TypedExpr, TypedFold.TypedFold}}
use Rattle.query_lang.specs.declared.typed.{TypedOp.{TypedOp, TheVariants.{Filter, Map, Zip, Group}}, TypedStream.TypedStream}
use Rattle.query_lang.specs.{Folds.term_value, Streams.{values_at, expr_value, holds_at}}
use Rattle.query_lang.specs.Terms.{Term, Literal, Read, Negation, Operation, term_of}
use Rattle.stage_plan.specs.declared.op.{Operand.{Operand, TheVariants.{Register, Number}}, Operation.TheVariants.{Not, Two}, PlanOp.PlanOp}
use Rattle.stage_plan.specs.{declared.wires.StreamWires.StreamWires, Registers.{operand_value, result_of}, Making.{compiled, compiled_all}}
use Rattle.stage_plan.specs.Making.{op_on, operand_at, wires_at, packet_wires, made_join, conditioned, made_map, made_zip, emit_columns}
use Rattle.stage_plan.{specs.Making.{made_emit, made_group, made_by, all_made}, proofs.{Lists.slice_get-last, StreamRows.{Row, row_at}}}
use Rattle.stage_plan.proofs.StreamRows.{filter_row, map_row, zip_row, emit_row, group_row, row_made, rows_from, at_earlier, at_last}
use Rattle.stage_plan.proofs.{StreamRows.at_past, Extending.{Extends, one_more, compiled_extends, all_extend, all_made_extends}}

-- each operation's register holds its result
pub record Solved (ops : List PlanOp) (registers : List ℕ) : Type 0 where
  pub each : (i : ℕ) (one : PlanOp) → slice_get ops i ≡ Some one → get_or registers (FIELDS + i) 0 ≡ result_of registers one

pub solved_before : (ops more : List PlanOp) (registers : List ℕ) → Extends ops more → Solved more registers → Solved ops registers
solved_before _ _ _ e s = record { each = λ i one f. s.each i one (e.keeps i one f) }

pub solved_last : (ops : List PlanOp) (one : PlanOp) (registers : List ℕ) → Solved (ops ++ one ∷ []) registers
    → get_or registers (FIELDS + length ops) 0 ≡ result_of registers one
solved_last ops one _ s = s.each (length ops) one (slice_get-last ops _)

pub column_value : (registers : List ℕ) (columns : List Operand) (slot : ℕ)
    → operand_value registers (operand_at columns slot) ≡ slice_index (map (operand_value registers) columns) slot
column_value _ [] _ = refl
column_value _ (o ∷ _) zero = refl
column_value registers (o ∷ columns) (suc slot) = column_value _ columns slot

pub columns_value : (registers : List ℕ) (columns : List Operand) (slots : List ℕ)
    → map (operand_value registers) (map (operand_at columns) slots) ≡ values_at (map (operand_value registers) columns) slots
columns_value _ _ [] = refl
columns_value registers columns (slot ∷ slots) = cc (column_value registers columns slot, columns_value registers columns slots)

pub compiled_value : (registers : List ℕ) (columns : List Operand) (e : Term) (ops : List PlanOp)
    → Solved (compiled columns e ops).ops registers →
    operand_value registers (compiled columns e ops).value ≡ term_value e (map (operand_value registers) columns)
compiled_value _ _ (Literal n) _ s = refl
compiled_value registers columns (Read slot) _ s = column_value registers columns slot
compiled_value registers columns (Negation e) ops s =
    cc (
      solved_last (compiled columns e ops).ops (op_on (compiled columns e ops).ops Not (compiled columns e ops).value (Number 0))
          registers s,
      compiled_value registers columns e ops (solved_before (compiled columns e ops).ops (compiled columns (Negation e) ops).ops
          registers (one_more (compiled columns e ops).ops (op_on (compiled columns e ops).ops Not (compiled columns e ops).value
          (Number 0))) s),
    )
compiled_value registers columns (Operation op a b) ops s =
    cc (
      solved_last after_b last registers s,
      compiled_value registers columns a ops
          (solved_before (compiled columns a ops).ops after_b registers (compiled_extends columns b (compiled columns a ops).ops) at_b),
      compiled_value registers columns b (compiled columns a ops).ops at_b,
    )
  where
    after_b : List PlanOp
    after_b = (compiled columns b (compiled columns a ops).ops).ops

    last : PlanOp
    last = op_on (compiled columns b (compiled columns a ops).ops).ops (Two op) (compiled columns a ops).value
        (compiled columns b (compiled columns a ops).ops).value

    at_b : Solved after_b registers
    at_b = solved_before _ _ _ (one_more _ _) s

pub all_values : (registers : List ℕ) (columns found : List Operand) (values : List TypedExpr) (ops : List PlanOp)
    → Solved (compiled_all columns found (map term_of values) ops).ops registers →
    map (operand_value registers) (compiled_all columns found (map term_of values) ops).values
    ≡ map (operand_value registers) found ++ map (λ e. expr_value e (map (operand_value registers) columns)) values
all_values registers _ found [] _ s = simp append-nil
all_values registers columns found (e ∷ values) ops s =
    all_values registers columns (found ++ (compiled columns (term_of e) ops).value ∷ []) values (compiled columns (term_of e) ops).ops s
    ∙ ap (λ l. l ++ map (λ e. expr_value e (map (operand_value registers) columns)) values)
    (map-append (operand_value registers) found ((compiled columns (term_of e) ops).value ∷ []))
    ∙ append_assoc (map (operand_value registers) found) (operand_value registers (compiled columns (term_of e) ops).value ∷ [])
    (map (λ e. expr_value e (map (operand_value registers) columns)) values)
    ∙ ap (λ x. map (operand_value registers) found ++ x ∷ map (λ e. expr_value e (map (operand_value registers) columns)) values)
    (compiled_value _ columns (term_of e) ops (solved_before _ _ _
    (all_extend columns (found ++ (compiled columns (term_of e) ops).value ∷ []) (map term_of values) _) s))

-- a stream's operands against its row for the packet
abbrev pub Matches : List ℕ → StreamWires → Row → Type 0
Matches registers wires None = holds (operand_value registers wires.present) ≡ false
Matches registers wires (Some row) = (holds (operand_value registers wires.present) ≡ true)
    × (map (operand_value registers) wires.columns ≡ row)

holds_flag : (b : Bool) → holds (flag b) ≡ b
holds_flag true = refl
holds_flag false = refl

both_holds : (x y : ℕ) → holds (op_value Both x y) ≡ (holds x && holds y)
unfolding op_value
both_holds x y = holds_flag (holds x && holds y)

joined_holds : (registers : List ℕ) (ops : List PlanOp) (present condition : Operand) (columns : List Operand)
    → Solved (made_join ops present condition columns).ops registers →
    holds (operand_value registers (made_join ops present condition columns).wires.present)
    ≡ (holds (operand_value registers present) && holds (operand_value registers condition))
joined_holds registers ops present condition _ s =
    cc (
      solved_last ops (op_on ops (Two Both) present condition) registers s,
      both_holds (operand_value registers present)
          (operand_value registers condition),
    )

conditioned_holds : (registers : List ℕ) (over : List Operand) (condition : Term) (ops : List PlanOp) (present : Operand)
    (columns : List Operand) → Solved (conditioned over condition ops present columns).ops registers →
    holds (operand_value registers (conditioned over condition ops present columns).wires.present)
    ≡ (holds (operand_value registers present) && holds (term_value condition (map (operand_value registers) over)))
conditioned_holds registers over condition ops present columns s =
    cc (
      joined_holds registers (compiled over condition ops).ops present (compiled over condition ops).value columns s,
      compiled_value
          registers over condition ops (solved_before (compiled over condition ops).ops (conditioned over condition ops present columns).ops
          registers (one_more (compiled over condition ops).ops (op_on (compiled over condition ops).ops (Two Both) present
          (compiled over condition ops).value)) s),
    )

and_false : (a b : Bool) → a ≡ false → (a && b) ≡ false
and_false true b e = cc
and_false false b e = refl

and_true : (a b : Bool) → a ≡ true → (a && b) ≡ b
and_true true b e = refl
and_true false b e = cc

filter_matches : (registers : List ℕ) (source : StreamWires) (condition : TypedExpr) (ops : List PlanOp) (row : Row)
    → Matches registers source row →
    Solved (conditioned source.columns (term_of condition) ops source.present source.columns).ops registers →
    Matches registers (conditioned source.columns (term_of condition) ops source.present source.columns).wires (filter_row condition row)
filter_matches registers source condition ops None m s = simp (conditioned_holds, and_false)
filter_matches registers source condition ops (Some row) m s = pick _ test
  where
    test : holds (operand_value registers (conditioned source.columns (term_of condition) ops source.present source.columns).wires.present)
        ≡ holds (expr_value condition row)
    test = cc (conditioned_holds registers source.columns (term_of condition) ops source.present source.columns s, and_true _ _ m.0)

    pick : (b : Bool) → holds (operand_value registers (conditioned source.columns (term_of condition) ops source.present
        source.columns).wires.present) ≡ b →
        Matches registers (conditioned source.columns (term_of condition) ops source.present source.columns).wires
        (if b then Some row else None)
    pick true e = (e, m.1)
    pick false e = e

map_matches : (registers : List ℕ) (source : StreamWires) (values : List TypedExpr) (ops : List PlanOp) (row : Row)
    → Matches registers source row →
    Solved (made_map source values ops).ops registers → Matches registers (made_map source values ops).wires (map_row values row)
map_matches _ _ _ _ None m s = m
map_matches registers source values ops (Some _) m s = (
  m.0,
  all_values _ _ _ _ _ s ∙ ap (λ l. l ++ map (λ e. expr_value e l) values) m.1,
)

zip_matches : (registers : List ℕ) (left right : StreamWires) (slots : List ℕ) (ops : List PlanOp) (row other : Row)
    → Matches registers left row → Matches registers right other →
    Solved (made_zip left right slots ops).ops registers → Matches registers (made_zip left right slots ops).wires (zip_row slots row other)
zip_matches registers left right slots ops None _ m n s = simp (joined_holds, and_false)
zip_matches registers left right slots ops (Some _) None m n s =
    joined_holds _ _ left.present right.present (left.columns ++ map (operand_at right.columns) slots) s ∙ and_true _ _ m.0 ∙ n
zip_matches registers left right slots ops (Some row) (Some _) m n s = (
  joined_holds _ _ left.present right.present (left.columns ++ map (operand_at right.columns) slots) s ∙ and_true _ _ m.0 ∙ n.0,
  map-append (operand_value registers) left.columns (map (operand_at right.columns) slots)
      ∙ ap (λ l. l ++ map (operand_value registers) (map (operand_at right.columns) slots)) m.1
      ∙ ap (λ l. row ++ l) (columns_value _ _ _ ∙ ap (λ l. values_at l slots) n.1),
)

numbers_value : (registers initial : List ℕ) → map (operand_value registers) (map Number initial) ≡ initial
numbers_value _ [] = refl
numbers_value registers (n ∷ initial) = cc (numbers_value registers initial)

emit_value : (registers initial : List ℕ) (columns : List Operand) (args : List ℕ) →
    map (operand_value registers) (emit_columns initial columns args) ≡ initial ++ values_at (map (operand_value registers) columns) args
emit_value registers initial columns args = simp (map-append, numbers_value, columns_value)

emit_row_with : Option TypedExpr → List ℕ → List ℕ → List ℕ → Row → Row
emit_row_with o _ _ _ None = None
emit_row_with o initial keys args (Some row) = if holds_at o (initial ++ values_at row args) then Some (values_at row keys) else None

none_matches : (registers initial : List ℕ) (source : StreamWires) (keys args : List ℕ) (row : Row) →
    Matches registers (record { present = Number 0; columns = map (operand_at source.columns) keys })
    (emit_row_with None initial keys args row)
unfolding emit_row_with
none_matches _ _ _ _ _ None = refl
none_matches _ _ _ _ _ (Some _) = refl

some_matches : (registers initial : List ℕ) (source : StreamWires) (condition : TypedExpr) (keys args : List ℕ) (ops : List PlanOp)
    (row : Row) → Matches registers source row →
    Solved (conditioned (emit_columns initial source.columns args) (term_of condition) ops source.present
    (map (operand_at source.columns) keys)).ops registers →
    Matches registers (conditioned (emit_columns initial source.columns args) (term_of condition) ops source.present
    (map (operand_at source.columns) keys)).wires (emit_row_with (Some condition) initial keys args row)
unfolding emit_row_with
some_matches registers initial source condition keys args ops None m s =
    conditioned_holds registers (emit_columns initial source.columns args) (term_of condition) ops source.present
    (map (operand_at source.columns) keys) s ∙ and_false _ _ m
some_matches registers initial source condition keys args ops (Some row) m s =
    pick (holds (expr_value condition (initial ++ values_at row args))) test
  where
    test : holds (operand_value registers (conditioned (emit_columns initial source.columns args) (term_of condition) ops source.present
        (map (operand_at source.columns) keys)).wires.present) ≡ holds (expr_value condition (initial ++ values_at row args))
    test = conditioned_holds registers (emit_columns initial source.columns args) (term_of condition) ops source.present
        (map (operand_at source.columns) keys) s ∙ and_true _ _ m.0
        ∙ ap (λ l. holds (term_value (term_of condition) l)) (emit_value registers initial source.columns args
        ∙ ap (λ l. initial ++ values_at l args) m.1)

    pick : (b : Bool) → holds (operand_value registers (conditioned (emit_columns initial source.columns args) (term_of condition) ops
        source.present (map (operand_at source.columns) keys)).wires.present) ≡ b →
        Matches registers (conditioned (emit_columns initial source.columns args) (term_of condition) ops source.present
        (map (operand_at source.columns) keys)).wires (if b then Some (values_at row keys) else None)
    pick true e = (e, columns_value registers source.columns keys ∙ ap (λ l. values_at l keys) m.1)
    pick false e = e

emitted_matches : (registers initial : List ℕ) (source : StreamWires) (o : Option TypedExpr) (keys args : List ℕ) (ops : List PlanOp)
    (row : Row) → Matches registers source row →
    Solved (made_emit o (emit_columns initial source.columns args) source (map (operand_at source.columns) keys) ops).ops registers →
    Matches registers (made_emit o (emit_columns initial source.columns args) source (map (operand_at source.columns) keys) ops).wires
    (emit_row_with o initial keys args row)
emitted_matches registers initial source None keys args _ row m s = none_matches _ _ source _ _ _
emitted_matches registers initial source (Some condition) keys args ops row m s = some_matches _ _ source _ _ _ _ _ m s

emit_rows : (f : TypedFold) (keys args : List ℕ) (row : Row) → emit_row_with f.emit f.initial keys args row ≡ emit_row f keys args row
unfolding emit_row_with
emit_rows f _ _ None = refl
emit_rows f _ _ (Some _) = refl

group_matches : (registers : List ℕ) (o : Option TypedFold) (source : StreamWires) (keys args : List ℕ) (ops : List PlanOp) (row : Row)
    → Matches registers source row →
    Solved (made_group o source keys args ops).ops registers → Matches registers (made_group o source keys args ops).wires
    (group_row o keys args row)
group_matches _ None _ _ _ _ _ m s = refl
group_matches registers (Some f) source keys args ops row m s =
    rw (emit_rows f keys args row) at (emitted_matches registers f.initial source f.emit keys args ops row m s)

-- all streams so far against their rows
pub record Matched (registers : List ℕ) (streams : List StreamWires) (rows : List Row) : Type 0 where
  pub long : length streams ≡ length rows
  pub each : (j : ℕ) → Matches registers (wires_at streams j) (row_at rows j)

made_matches : (registers : List ℕ) (folds : List TypedFold) (streams : List StreamWires) (rows : List Row) (op : TypedOp)
    (ops : List PlanOp) → Matched registers streams rows →
    Solved (made_by folds streams op ops).ops registers → Matches registers (made_by folds streams op ops).wires (row_made folds rows op)
made_matches registers _ streams rows (Filter input condition) ops m s = filter_matches _ (wires_at streams input) _ _ _ (m.each input) s
made_matches registers _ streams rows (Map input values) ops m s = map_matches _ (wires_at streams input) _ _ _ (m.each input) s
made_matches registers _ streams rows (Zip left right slots) ops m s =
    zip_matches _ (wires_at streams left) (wires_at streams right) _ _ _ _ (m.each left) (m.each right) s
made_matches registers folds streams rows (Group input keys f args) ops m s = group_matches _ _ _ _ _ _ _ (m.each input) s

matched_more : (registers : List ℕ) (streams : List StreamWires) (rows : List Row) (wires : StreamWires) (row : Row)
    → Matched registers streams rows → Matches registers wires row → Matched registers (streams ++ wires ∷ []) (rows ++ row ∷ [])
matched_more registers streams rows wires row m new = record {
  long = length_push _ _ ∙ ap (λ n. n + 1) m.long ∙ sym (length_push _ _);
  each = λ j. elim (cases_lt j (length rows)) [
    | inl lt ↦ at j (wires_at streams j) (row_at rows j) (at_earlier streams wires none j (let l = m.long in omega arith))
        (at_earlier rows row None j lt) (m.each j)
    | inr le ↦ elim (cases_eq j (length rows)) [
      | inl here ↦ at j wires row (at_last streams wires none j (here ∙ sym m.long)) (at_last rows row None j here) new
      | inr past ↦
          at j none None (at_past (streams ++ wires ∷ []) none j (let l = length_push streams wires in let k = m.long in omega arith))
          (at_past (rows ++ row ∷ []) None j (let l = length_push rows row in omega arith)) refl
    ]
  ];
}
  where
    none : StreamWires
    none = record { present = Number 0; columns = [] }

    at : (j : ℕ) (w : StreamWires) (r : Row) → wires_at (streams ++ wires ∷ []) j ≡ w → row_at (rows ++ row ∷ []) j ≡ r
        → Matches registers w r →
        Matches registers (wires_at (streams ++ wires ∷ []) j) (row_at (rows ++ row ∷ []) j)
    at j w r e f h = subst (λ x. Matches registers x (row_at (rows ++ row ∷ []) j)) (sym e) (subst (λ x. Matches registers w x) (sym f) h)

pub all_matched : (registers : List ℕ) (folds : List TypedFold) (list : List TypedStream) (ops : List PlanOp) (streams : List StreamWires)
    (rows : List Row) → Matched registers streams rows →
    Solved (all_made folds ops streams list).ops registers → Matched registers (all_made folds ops streams list).streams
    (rows_from folds rows list)
all_matched registers folds [] ops streams rows m s = m
all_matched registers folds (one ∷ list) ops streams rows m s =
    all_matched registers folds list (made_by folds streams one.op ops).ops (streams ++ (made_by folds streams one.op ops).wires ∷ [])
    (rows ++ row_made folds rows one.op ∷ [])
    (matched_more registers streams rows (made_by folds streams one.op ops).wires (row_made folds rows one.op) m
    (made_matches registers folds streams rows one.op ops m
    (solved_before (made_by folds streams one.op ops).ops (all_made folds ops streams (one ∷ list)).ops registers
    (all_made_extends folds (made_by folds streams one.op ops).ops (streams ++ (made_by folds streams one.op ops).wires ∷ []) list) s))) s

-- the packet's columns are the first registers
registers_from : ℕ → ℕ → List Operand
registers_from k zero = []
registers_from k (suc n) = Register k ∷ registers_from (suc k) n

first_registers : (registers : List ℕ) (k n : ℕ) → k + n ≤ length registers
    → map (operand_value registers) (registers_from k n) ≡ take n (drop k registers)
unfolding registers_from
first_registers _ k zero le = refl
first_registers registers k (suc n) le =
    let lt : k < length registers = omega arith in
    cc (first_registers registers (suc k) n (omega arith), drop-cons registers k 0 lt)

pub packets_matched : (registers words : List ℕ) → FIELDS ≤ length registers → take FIELDS registers ≡ words
    → Matched registers (packet_wires ∷ []) (Some words ∷ [])
unfolding registers_from
packets_matched registers words le is = record {
  long = refl;
  each = first;
}
  where
    first : (j : ℕ) → Matches registers (wires_at (packet_wires ∷ []) j) (row_at (Some words ∷ []) j)
    first zero = (refl, first_registers registers 0 FIELDS le ∙ is)
    first (suc j) = refl
