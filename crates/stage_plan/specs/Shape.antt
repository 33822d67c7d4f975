-- The sizes of a plan: what its text says, and the bound on the steps of one packet.
use Rattle.std.specs.Prelude.{ℕ, zero, suc, ◌+◌, ◌*◌, ◌==◌, max, List, [], ◌∷◌, ◌++◌, length, map, sum, count_by, filter_map, flat_map}
use Rattle.std.specs.Prelude.{codes, decimal, slice_get, Option, None, option_map, unwrap_or}
use Rattle.marple_base.specs.declared.field.TheConstants.{FIELDS}
use Rattle.query_lang.specs.declared.{fold.TypedFold.TypedFold, typed.{Class.{Class, TheVariants.{Linear, Other}}, TypedOp.TypedOp}}
use Rattle.query_lang.specs.declared.typed.{TypedOp.TheVariants.{Filter, Map, Zip, Group}, TypedQuery.TypedQuery, TypedStream.TypedStream}
use Rattle.fold_class.specs.{declared.class.Algebra.{Algebra, TheVariants.{Sums, Maxima}}, Depth.depth_of, Kinds.{class_of, algebra_of}}
use Rattle.stage_plan.specs.{declared.{op.PlanOp.PlanOp, group.GroupPlan.GroupPlan}, Depths.query_depths, Registers.stages_of}

-- a groupby: the texts of its name and of its table's columns, the class, algebra and depth of its fold, how many arguments the
-- fold has, and its nodes and statements
pub record GroupShape : Type 0 where
  pub name : List ℕ
  pub key_names : List (List ℕ)
  pub state_names : List (List ℕ)
  pub class : Class
  pub algebra : Algebra
  pub depth : ℕ
  pub args : ℕ
  pub nodes : ℕ
  pub statements : ℕ

-- a plan: how many operations there are, how many each stage has, from stage 1 on, and the groupbys in order
pub record PlanShape : Type 0 where
  pub operations : ℕ
  pub stage_sizes : List ℕ
  pub groups : List GroupShape

-- the numbers from 1 to this one
abbrev pub up_to : ℕ → List ℕ
up_to zero = []
up_to (suc n) = up_to n ++ suc n ∷ []

-- how many of these depths are in each stage
abbrev pub sizes_of : ℕ → List ℕ → List ℕ
sizes_of stages depths = map (λ stage. count_by (λ depth. depth == stage) depths) (up_to stages)

-- the greatest depth, or 0
abbrev pub greatest : List ℕ → ℕ
greatest [] = 0
greatest (depth ∷ depths) = max depth (greatest depths)

abbrev pub text_at : List (List ℕ) → ℕ → List ℕ
text_at names id = unwrap_or (slice_get names id) []

-- a groupby with this name and these key columns
abbrev pub shape_with : List (List ℕ) → ℕ → List ℕ → ℕ → TypedFold → GroupShape
shape_with names name keys args f = record {
  name = text_at names name;
  key_names = map (text_at names) keys;
  state_names = map (text_at names) f.state_names;
  class = class_of f;
  algebra = algebra_of f;
  depth = depth_of f;
  args = args;
  nodes = f.nodes;
  statements = f.statements;
}

abbrev pub shape_made : List (List ℕ) → List TypedFold → TypedStream → TypedOp → Option GroupShape
shape_made names folds one (Filter input condition) = None
shape_made names folds one (Map input values) = None
shape_made names folds one (Zip left right slots) = None
shape_made names folds one (Group input keys f args) =
    option_map (shape_with names one.name.id one.columns (length args)) (slice_get folds f)

-- the groupbys of a query
abbrev pub query_groups : TypedQuery → List GroupShape
query_groups q = filter_map (λ one. shape_made q.names q.folds one one.op) q.streams

-- the shape of a query's plan: each operation is in the stage of its depth
abbrev pub query_shape : TypedQuery → PlanShape
query_shape q = record {
  operations = length (query_depths q);
  stage_sizes = sizes_of (greatest (query_depths q)) (query_depths q);
  groups = query_groups q;
}

abbrev pub group_shape : GroupPlan → GroupShape
group_shape group = record {
  name = group.name;
  key_names = group.key_names;
  state_names = group.state_names;
  class = group.program.class;
  algebra = group.program.algebra;
  depth = group.program.depth;
  args = group.program.layout.args;
  nodes = group.program.layout.nodes;
  statements = group.program.layout.statements;
}

abbrev pub parts_shape : List PlanOp → List GroupPlan → PlanShape
parts_shape ops groups = record {
  operations = length ops;
  stage_sizes = sizes_of (stages_of ops) (map (λ one. one.stage) ops);
  groups = map group_shape groups;
}

-- the words of an element of an algebra's maps
abbrev pub element_words : Algebra → ℕ
element_words Sums = 1
element_words Maxima = 2

-- the most words of an entry with its key: K + M·N·(N + 1) + N + k·F + 2 for K key words, N state variables, F arguments and depth k
abbrev pub entry_words : GroupShape → ℕ
entry_words g =
    let states = length g.state_names in
    length g.key_names + element_words g.algebra * states * (states + 1) + states + g.depth * g.args + 2

-- the most steps of one packet at a groupby, with a cache of this many ways
abbrev pub group_bound : ℕ → GroupShape → ℕ
group_bound ways g =
    let keys = length g.key_names in
    let states = length g.state_names in
    2 * ways * (keys + 1) + (states + 1) * (g.nodes + 4 * g.statements + 1) + states * states * (states + 1)
    + 6 * entry_words g + 2 * (keys + g.args)

-- the most steps of one packet
abbrev pub bound_of : ℕ → PlanShape → ℕ
bound_of ways shape = FIELDS + shape.operations + sum (map (group_bound ways) shape.groups)

-- The text of a plan.

abbrev pub class_word : Class → List ℕ
class_word Linear = codes "linear"
class_word Other = codes "other"

-- a word and a number, with a blank between them
abbrev pub counted : List ℕ → ℕ → List ℕ
counted word n = word ++ 32 ∷ decimal n

-- a line ends with LF
abbrev pub line : List ℕ → List ℕ
line text = text ++ 10 ∷ []

-- a line for each stage, where the first has this number
abbrev pub stage_lines : ℕ → List ℕ → List ℕ
stage_lines stage [] = []
stage_lines stage (size ∷ sizes) = line (counted (counted (codes "stage") stage) size) ++ stage_lines (suc stage) sizes

abbrev pub group_line : GroupShape → List ℕ
group_line g =
    line (codes "groupby " ++ (g.name ++ (32 ∷ counted (class_word g.class) g.depth
    ++ (counted (codes " keys") (length g.key_names)
    ++ (counted (codes " args") g.args
    ++ counted (codes " states") (length g.state_names))))))

-- The lines of a plan: how many stages and operations there are, the operations of each stage, each groupby, and the bound for this
-- number of ways.
abbrev pub plan_text_of : PlanShape → ℕ → List ℕ
plan_text_of shape ways =
    line (counted (codes "stages") (length shape.stage_sizes))
    ++ (line (counted (codes "operations") shape.operations)
    ++ (stage_lines 1 shape.stage_sizes
    ++ (flat_map group_line shape.groups
    ++ line (counted (codes "bound") (bound_of ways shape)))))
