-- Languages as relations between words and what they mean, and the ways to build one from others.
use Rattle.std.{specs.Prelude.{◌≡◌, List, [], ◌∷◌, ◌++◌, map, Option, Some, None, ◌⊎◌}, proofs.Common.{inl, inr}}
use Rattle.query_lang.specs.declared.token.Token.{Token}

-- What a token counts as: nothing, a node of an item's expressions, the first token of a statement, or the first token of an
-- item, at which the counts begin again.
pub data Role : Type 0 where
  Plain : Role
  Node : Role
  Statement : Role
  Opening : Role

-- a token in its place
pub record Leaf : Type 0 where
  pub role : Role
  pub token : Token

abbrev pub tokens_of : List Leaf → List Token
tokens_of word = map (λ (l : Leaf). l.token) word

-- the words of a language, each with what it means
abbrev pub Language : Type 0 → Type 1
Language A = List Leaf → A → Type 0

-- one token for which takes has a value
abbrev pub Word : {A : Type 0} → Role → (Token → Option A) → List Leaf → A → Type 0
Word role takes word a = (t : Token) × (word ≡ record { role = role; token = t } ∷ []) × (takes t ≡ Some a)

-- one after the other
abbrev pub Then : {A B : Type 0} → (List Leaf → A → Type 0) → (List Leaf → B → Type 0) → List Leaf → A × B → Type 0
Then L M word v = (front : List Leaf) × (back : List Leaf) × (word ≡ front ++ back) × L front v.0 × M back v.1

-- any number of times
abbrev pub Repeated : {A : Type 0} → (List Leaf → A → Type 0) → List Leaf → List A → Type 0
Repeated L word [] = word ≡ []
Repeated L word (a ∷ others) = (front : List Leaf) × (back : List Leaf) × (word ≡ front ++ back) × L front a
    × Repeated L back others

-- at most once
abbrev pub AtMostOnce : {A : Type 0} → (List Leaf → A → Type 0) → List Leaf → Option A → Type 0
AtMostOnce L word None = word ≡ []
AtMostOnce L word (Some a) = L word a

-- one or the other
abbrev pub Either : {A : Type 0} → (List Leaf → A → Type 0) → (List Leaf → A → Type 0) → List Leaf → A → Type 0
Either L M word a = L word a ⊎ M word a

-- the same words with another meaning
abbrev pub Meaning : {A B : Type 0} → (A → B) → (List Leaf → A → Type 0) → List Leaf → B → Type 0
Meaning {A} f L word b = (a : A) × L word a × (f a ≡ b)

-- any number of turns that go on, with a, and then at most one that is the last, with b
abbrev pub Chain : {A B : Type 0} → (List Leaf → A ⊎ B → Type 0) → List Leaf → List A → Option B → Type 0
Chain T word [] None = word ≡ []
Chain T word [] (Some b) = T word (inr b)
Chain T word (a ∷ others) last = (front : List Leaf) × (back : List Leaf) × (word ≡ front ++ back) × T front (inl a)
    × Chain T back others last

abbrev pub Chained : {A B : Type 0} → (List Leaf → A ⊎ B → Type 0) → List Leaf → List A × Option B → Type 0
Chained T word v = Chain T word v.0 v.1
