-- What holds of a text's query: its numbers are words, and where it is accepted, its typed form is valid.
use Rattle.std.specs.Prelude.{◌≡◌, ℕ, List, map, All, Ok}
use Rattle.query_lang.specs.declared.query.Item.{Item}
use Rattle.query_lang.specs.declared.query.Item.TheVariants as item
use Rattle.query_lang.specs.{declared.{query.Query.Query, typed.TypedQuery.TypedQuery}, Words.{IsWord, AreWords}, TypedQueries.IsValidQuery}
use Rattle.query_grammar.specs.Texts.{IsQueryOf}
use Rattle.query_types.specs.Numbers.{greatest_of, item_number}
use Rattle.accepted_query.specs.Accepted.{accepted}

-- the state variables of a fold start as words
abbrev pub StartsAsWords : Item → Type 0
StartsAsWords (item.Fold d) = All (λ state. IsWord state.initial) d.states
StartsAsWords (item.Stream d) = Unit {0}
StartsAsWords (item.Final d) = Unit {0}
StartsAsWords (item.Print name) = Unit {0}

-- The greatest number in the expressions of a text's query is a word, and so is what each state variable starts as.
abbrev pub NumbersAreWords : Type 0
NumbersAreWords = (text : List ℕ) (q : Query) → IsQueryOf text q
    → IsWord (greatest_of (map item_number q.items)) × All StartsAsWords q.items

-- The typed form of an accepted text is valid.
abbrev pub AcceptedAreValid : Type 0
AcceptedAreValid = (text : List ℕ) (q : TypedQuery) → accepted text ≡ Ok q → IsValidQuery q

-- The folds of an accepted text start as words.
abbrev pub AcceptedStartAsWords : Type 0
AcceptedStartAsWords = (text : List ℕ) (q : TypedQuery) → accepted text ≡ Ok q → All (λ f. AreWords f.initial) q.folds
