-- The text of a plan that was read to one byte more than the limit.
use Rattle.std.proofs.Common.{inl, inr, ◌≡◌, ℕ, ◌+◌, ◌<◌, ◌≤◌, List, length, take, Option, None, Some, IfSome, arith, sym, ◌∙◌, subst}
use Rattle.std.proofs.lemmas.Bool.Decides.{leb_tells}
use Rattle.marple_base.specs.Inputs.{Input}
use Rattle.query_lang.specs.declared.{fault.QueryFault.QueryFault, error.QueryError.{QueryError, TheVariants.{Refused, Memory}}}
use Rattle.plan_file.specs.{Texts.{IsBadAt, IsRefused, Says}, declared.{made.Made.Made, texts.TheConstants.MAX_PLAN}}
use Rattle.plan_loader.specs.{Loaded.IsLoaded, declared.loaded.LoadedPlan.LoadedPlan}
use Rattle.command_answers.{specs.Phases.{IsReadFrom, PlanEnds, refusal_status}, proofs.Limits.{take_long, take_whole}}

-- what was read of a text, to one byte more than the limit, says what the text says
pub told_says : (left : Option (List ℕ)) (text slice : List ℕ) (made : Made) → IfSome left (λ bytes. text ≡ take (MAX_PLAN + 1) bytes)
    → slice ≡ text → Says slice made → IfSome left (λ bytes. Says bytes made)
told_says None text slice made read same says = tt
told_says (Some bytes) text slice made read same says =
    let is : slice ≡ take (MAX_PLAN + 1) bytes = same ∙ read in
    elim (leb_tells (length bytes) MAX_PLAN) [
      | inl short ↦ subst (λ one. Says one made) (is ∙ take_whole MAX_PLAN bytes short.1) says
      | inr long ↦ absurd (too_long (length slice) says.size (subst (λ one. MAX_PLAN < length one) (sym is)
          (take_long MAX_PLAN bytes long.1)))
    ]
  where
    too_long : (n : ℕ) → n ≤ MAX_PLAN → MAX_PLAN < n → ⊥
    too_long n short long = omega arith

-- a text that is too long is refused after the most bytes
at_the_most : (text : List ℕ) (place : ℕ) → MAX_PLAN < length text → IsBadAt text place → place ≡ MAX_PLAN
at_the_most text place long (inl known) = known.1
at_the_most text place long (inr short) = absurd (both (length text) short.0 long)
  where
    both : (n : ℕ) → n ≤ MAX_PLAN → MAX_PLAN < n → ⊥
    both n a b = omega arith

-- what was read is refused where the text is
told_refusal : (left : Option (List ℕ)) (text slice : List ℕ) (fault : QueryFault) → IfSome left (λ bytes. text ≡ take (MAX_PLAN + 1) bytes)
    → slice ≡ text → IsRefused slice (Refused fault) → IfSome left (λ bytes. IsRefused bytes (Refused fault))
told_refusal None text slice fault read same known = tt
told_refusal (Some bytes) text slice fault read same known =
    let is : slice ≡ take (MAX_PLAN + 1) bytes = same ∙ read in
    elim (leb_tells (length bytes) MAX_PLAN) [
      | inl short ↦ subst (λ one. IsRefused one (Refused fault)) (is ∙ take_whole MAX_PLAN bytes short.1) known
      | inr long ↦ (
        known.0,
        inl (
          long.1,
          at_the_most slice fault.span.start (subst (λ one. MAX_PLAN < length one) (sym is) (take_long MAX_PLAN bytes long.1)) known.1,
        ),
        known.2,
      )
    ]

-- how the phase of the plan ends, where what was read of its text is refused
pub plan_ends : (before after : Input) (text slice : List ℕ) (error : QueryError)
    → IfSome before.left (λ bytes. text ≡ take (MAX_PLAN + 1) bytes) → slice ≡ text → IsRefused slice error
    → PlanEnds before after (refusal_status error)
plan_ends before after text slice (Refused fault) read same refused = told_refusal before.left text slice fault read same refused
plan_ends before after text slice Memory read same refused = tt

-- the plan that was read comes from the text of the first operand
pub plan_is_read : (before : Input) (text slice : List ℕ) (loaded : LoadedPlan)
    → IfSome before.left (λ bytes. text ≡ take (MAX_PLAN + 1) bytes) → slice ≡ text → IsLoaded slice loaded → IsReadFrom before loaded
plan_is_read before text slice loaded read same is = record {
  made = is.made;
  from = is.from;
  says =
      told_says before.left text slice is.made read same is.says;
}
