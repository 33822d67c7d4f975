-- The lines of a groupby are valid in sequence.
use Rattle.marple_laws.proofs.{Names.token_name, Numbers.{number_decimal, token_decimal}, OpLines.{Fits, operand_read, token_operand}}
use Rattle.marple_laws.proofs.Words
use Words.{AllWords, AreNames, AreNew, AreNoKeys, Contains, Field, Folded, Group, IsKnown, IsLineOf, IsPart, Lexeme, LineWord, List}
use Words.{MAX_ARGS, MAX_STATES, Made, None, Operand, Option, PlanOp, Some, [], append-nil, append_assoc, arith, codes, decimal, flat_map}
use Words.{length, length_push, line, named_lines, operand_word, refl, spaced, subst, tokens, true, word_named, ℕ, ◌++◌, ◌+◌, ◌<◌, ◌∷◌, ◌≡◌}
use Words.{◌≤◌}
use Rattle.marple_laws.proofs.Tokens.{AreTokens, is_token}
use Rattle.marple_laws.proofs.Written.{IsWritten, line_written, nothing_written, written_then}
use Rattle.std.specs.Prelude.{map}
use Rattle.plan_file.specs.declared.line_word.LineWord.TheVariants as lead
use Rattle.plan_file.specs.Groups.{IsInGroup}

-- an operand whose register is known, with a number that fits a word
pub record IsReadable (fields : List Field) (ops : List PlanOp) (o : Operand) : Type 0 where
  pub known : IsKnown fields ops o
  pub fits : Fits o

abbrev pub AreReadable : List Field → List PlanOp → List Operand → Type 0
AreReadable fields ops [] = Unit {0}
AreReadable fields ops (o ∷ operands) = IsReadable fields ops o × AreReadable fields ops operands

none_in : (name : List ℕ) → Contains [] name → ⊥
none_in name h = omega arith

-- what lines make while a group's lines are read
abbrev pub within : List Field → List PlanOp → List Folded → Group → Made
within fields ops groups g = record { begun = true; reads = Some fields; ops = ops; groups = groups; current = Some g; prints = [] }

-- and before or after them
abbrev pub outside : List Field → List PlanOp → List Folded → Made
outside fields ops groups = record { begun = true; reads = Some fields; ops = ops; groups = groups; current = None; prints = [] }

-- a line of a group that is valid in it
pub part_written : {fields : List Field} {ops : List PlanOp} {groups : List Folded} {word : LineWord} {first : List ℕ}
    {words : List (List ℕ)} {g next : Group} → ((b : Made) (text : List ℕ) (a : Made) → IsPart word b text a → IsLineOf word b text a)
    → is_token first ≡ true → AreTokens words → word_named first ≡ word
    → (tokens (first ++ spaced words) ≡ first ∷ words → IsInGroup word fields ops g (first ++ spaced words) next)
    → IsWritten (line first words) (within fields ops groups g) (within fields ops groups next)
part_written {fields} {g} {next} part t are named valid =
    line_written _ t are named (λ cut. part _ _ _ (record {
      fields = fields;
      reads = refl;
      group = g;
      current = refl;
      next = next;
      valid = valid cut;
      made = refl;
    }))

module _ (fields : List Field) (ops : List PlanOp) (groups : List Folded) (name : List ℕ) (present : Operand) where
  -- a group with these keys, arguments and state variables
  abbrev pub group_so_far : List (List ℕ) → List Operand → List Operand → List (List ℕ) → List ℕ → Option (List Lexeme) → Group
  group_so_far key_names keys args state_names initial body =
      record {
        name = name;
        present = present;
        key_names = key_names;
        keys = keys;
        args = args;
        state_names = state_names;
        initial = initial;
        body = body;
      }

  abbrev pub with_keys : List (List ℕ) → List Operand → Made
  with_keys names values = within fields ops groups (group_so_far names values [] [] [] None)

  key_word : word_named (codes "key") ≡ lead.Key
  unfolding word_named
  key_word = refl

  pub keys_written : (before_names : List (List ℕ)) (before : List Operand) (names : List (List ℕ)) (values : List Operand)
      → length names ≡ length values → length before + length values ≤ MAX_STATES → AreNames names → AreNew before_names names
      → AreReadable fields ops values → IsWritten (named_lines (codes "key") names (map operand_word values))
      (with_keys before_names before) (with_keys (before_names ++ names) (before ++ values))
  keys_written bn b [] [] long few named new ok = nothing_written (λ k. with_keys (append-nil bn k) (append-nil b k))
  keys_written bn b (n ∷ names) (v ∷ values) long few named new ok =
      written_then _
      (part_written (λ before text after p. p) refl
      (token_name n named.0, (token_operand v ok.0.fits, tt)) key_word
      (λ cut. record {
        args = refl;
        states = refl;
        body = refl;
        room = omega (arith, few);
        name = n;
        value = v;
        valid = record { token = operand_word v; words = cut; named = named.0; reads = operand_read v ok.0.fits; known = ok.0.known };
        new = record { no_key = new.0; no_state = none_in n };
        made = refl;
      }))
      (subst (λ m. IsWritten (named_lines (codes "key") names (map operand_word values)) (with_keys (bn ++ n ∷ []) (b ++ v ∷ [])) m)
      (λ k. with_keys (append_assoc bn (n ∷ []) names k) (append_assoc b (v ∷ []) values k))
      (keys_written (bn ++ n ∷ []) (b ++ v ∷ []) names values (omega (arith, long)) (omega (arith, few, length_push b v)) named.1 new.1
      ok.1))
  keys_written bn b [] (v ∷ values) long few named new ok = absurd (omega (arith, long))
  keys_written bn b (n ∷ names) [] long few named new ok = absurd (omega (arith, long))

  module _ (key_names : List (List ℕ)) (keys : List Operand) (some : 0 < length keys) where
    abbrev pub with_args : List Operand → Made
    with_args args = within fields ops groups (group_so_far key_names keys args [] [] None)

    arg_word : word_named (codes "arg") ≡ lead.Arg
    unfolding word_named
    arg_word = refl

    pub args_written : (before values : List Operand) → length before + length values ≤ MAX_ARGS → AreReadable fields ops values →
        IsWritten (flat_map (λ a. line (codes "arg") (operand_word a ∷ [])) values) (with_args before) (with_args (before ++ values))
    args_written b [] few ok = nothing_written (λ k. with_args (append-nil b k))
    args_written b (v ∷ values) few ok =
        written_then _
        (part_written (λ before text after p. p) refl (token_operand v ok.0.fits, tt) arg_word
        (λ cut. record {
          keys = some;
          states = refl;
          body = refl;
          room = omega (arith, few);
          value = v;
          valid = record { token = operand_word v; words = cut; reads = operand_read v ok.0.fits; known = ok.0.known };
          made = refl;
        }))
        (subst (λ m. IsWritten (flat_map (λ a. line (codes "arg") (operand_word a ∷ [])) values) (with_args (b ++ v ∷ [])) m)
        (λ k. with_args (append_assoc b (v ∷ []) values k))
        (args_written (b ++ v ∷ []) values (omega (arith, few, length_push b v)) ok.1))

    module _ (args : List Operand) where
      abbrev pub with_states : List (List ℕ) → List ℕ → Made
      with_states names initial = within fields ops groups (group_so_far key_names keys args names initial None)

      state_lead : word_named (codes "state") ≡ lead.State
      unfolding word_named
      state_lead = refl

      pub states_written : (before_names : List (List ℕ)) (before : List ℕ) (names : List (List ℕ)) (values : List ℕ)
          → length names ≡ length values → length before + length values ≤ MAX_STATES → AreNames names → AreNew before_names names
          → AreNoKeys key_names names → AllWords values → IsWritten (named_lines (codes "state") names (map decimal values))
          (with_states before_names before) (with_states (before_names ++ names) (before ++ values))
      states_written bn b [] [] long few named new apart ok = nothing_written (λ k. with_states (append-nil bn k) (append-nil b k))
      states_written bn b (n ∷ names) (v ∷ values) long few named new apart ok =
          written_then _
          (part_written (λ before text after p. p) refl
          (token_name n named.0, (token_decimal ok.0, tt)) state_lead
          (λ cut. record {
            keys = some;
            body = refl;
            room = omega (arith, few);
            name = n;
            value = v;
            valid = record { token = decimal v; words = cut; named = named.0; reads = number_decimal ok.0 };
            new = record { no_key = apart.0; no_state = new.0 };
            made = refl;
          }))
          (subst (λ m. IsWritten (named_lines (codes "state") names (map decimal values)) (with_states (bn ++ n ∷ []) (b ++ v ∷ [])) m)
          (λ k. with_states (append_assoc bn (n ∷ []) names k) (append_assoc b (v ∷ []) values k))
          (states_written (bn ++ n ∷ []) (b ++ v ∷ []) names values (omega (arith, long)) (omega (arith, few, length_push b v)) named.1
          new.1 apart.1 ok.1))
      states_written bn b [] (v ∷ values) long few named new apart ok = absurd (omega (arith, long))
      states_written bn b (n ∷ names) [] long few named new apart ok = absurd (omega (arith, long))
