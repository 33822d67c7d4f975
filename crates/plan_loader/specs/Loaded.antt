-- What is read from a plan's text, and the laws of reading.
use Rattle.std.specs.Prelude.{◌≡◌, ℕ, List}
use Rattle.query_lang.specs.Blocks.{Block, block_of}
use Rattle.plan_file.specs.{declared.{made.Made.Made, lexemes.Lexeme.Lexeme}, Bodies.IsBody, Texts.Says}
use Rattle.stage_plan.specs.Planned.{plan_bound, shape_of}
use Rattle.plan_loader.specs.{declared.loaded.LoadedPlan.LoadedPlan, Meaning.{text_bound, text_shape}, Parts.{IsPlanFrom, IsSoundMade}}
use Rattle.plan_loader.specs.Reading.{block_written, stmts_for}

-- a plan of what these lines make, with the sizes that they give, and the numbers of the groups that they print
pub record IsLoadedFrom (made : Made) (loaded : LoadedPlan) : Type 0 where
  pub sound : IsSoundMade made
  pub plan : IsPlanFrom made loaded.plan
  pub shape : shape_of loaded.plan ≡ text_shape made
  pub prints : loaded.prints ≡ made.prints

-- The plan of a valid text.
pub record IsLoaded (text : List ℕ) (loaded : LoadedPlan) : Type 0 where
  pub made : Made
  pub says : Says text made
  pub from : IsLoadedFrom made loaded

-- The plan takes at most as many steps for a packet as the text says, with caches of this many ways.
abbrev pub HasBoundOf : List ℕ → LoadedPlan → Type 0
HasBoundOf text loaded = (made : Made) (ways : ℕ) → Says text made → plan_bound loaded.plan ways ≡ text_bound made ways

-- The tokens of a body write its statements, and the statements are read back from them.
pub record BodiesAreRead : Type 0 where
  pub written : (states args : ℕ) (words : List Lexeme) (body : Block) → IsBody states args words body
      → block_written states words ≡ body
  pub stated : (body : Block) → block_of (stmts_for body) ≡ body

-- A text says at most one thing.
abbrev pub TextsSayOne : Type 0
TextsSayOne = (text : List ℕ) (a b : Made) → Says text a → Says text b → a ≡ b
