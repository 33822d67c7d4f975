-- What is said of running the text of a query's plan.
use Rattle.std.specs.Prelude.{◌≡◌, ℕ, List, length, All}
use Rattle.marple_base.specs.declared.field.TheConstants.{FIELDS}
use Rattle.query_lang.specs.declared.typed.TypedQuery.{TypedQuery}
use Rattle.epoch_model.specs.Epochs.{Geometry}
use Rattle.plan_loader.specs.Meaning.{reads_in, plan_output}
use Rattle.query_tables.specs.Tables.{query_text}
use Rattle.plan_file.specs.{declared.made.Made.Made, Texts.Says}
use Rattle.stage_plan.specs.Fields.{reads_of}
use Rattle.plan_writer.specs.PlanText.{compiled_text}
use Rattle.marple_laws.specs.MadeOf.{made_of}

-- Over packets with a word for each field, what the plan prints is what the query prints.
abbrev pub RunsAsTheQuery : TypedQuery → Type 0
RunsAsTheQuery q = (g : Geometry) (packets : List (List ℕ)) → All (λ words. length words ≡ FIELDS) packets
    → plan_output (made_of q) g packets ≡ query_text q g packets

-- All that the text of the query's plan says reads the fields that the query reads, and prints over packets what the query prints.
pub record IsAsTheQuery (q : TypedQuery) (made : Made) : Type 0 where
  pub reads : reads_in made ≡ reads_of q
  pub prints : (g : Geometry) (packets : List (List ℕ)) → All (λ words. length words ≡ FIELDS) packets
      → plan_output made g packets ≡ query_text q g packets

-- The text of the query's plan is valid, and all that it says agrees with the query.
pub record LoadsAsTheQuery (q : TypedQuery) : Type 0 where
  pub valid : Says (compiled_text q) (made_of q)
  pub only : (made : Made) → Says (compiled_text q) made → IsAsTheQuery q made
