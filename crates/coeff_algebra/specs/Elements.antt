-- A semiring with words in it, and what holds of its elements.
use Rattle.std.specs.Prelude.{◌≡◌, ℕ, ◌≤◌, List, length}
use Rattle.query_lang.specs.Words.{IsWord}

-- the operations of a semiring, and the words that are elements of it
pub record Elements (C : Type 0) : Type 0 where
  pub zero : C
  pub one : C
  pub add : C → C → C
  pub mul : C → C → C
  pub embed : ℕ → C
  pub to_word : C → ℕ

-- an element that is a word
abbrev pub IsWordOf : {C : Type 0} → Elements C → C → Type 0
IsWordOf k x = k.embed (k.to_word x) ≡ x

-- sums and products form a semiring, and what is made of words by them is a word.
-- A law's variables range over more than the values of a type, so the neutral elements are neutral where `is_element` holds
pub record ElementLaws {C : Type 0} (is_element : C → Type 0) (k : Elements C) : Type 0 where
  pub zero_is : is_element k.zero
  pub one_is : is_element k.one
  pub add_is : (x y : C) → is_element x → is_element y → is_element (k.add x y)
  pub mul_is : (x y : C) → is_element x → is_element y → is_element (k.mul x y)
  pub embed_is : (w : ℕ) → IsWord w → is_element (k.embed w)
  pub add_assoc : (x y z : C) → k.add (k.add x y) z ≡ k.add x (k.add y z)
  pub add_comm : (x y : C) → k.add x y ≡ k.add y x
  pub zero_add : (x : C) → is_element x → k.add k.zero x ≡ x
  pub mul_assoc : (x y z : C) → k.mul (k.mul x y) z ≡ k.mul x (k.mul y z)
  pub one_mul : (x : C) → is_element x → k.mul k.one x ≡ x
  pub mul_one : (x : C) → is_element x → k.mul x k.one ≡ x
  pub mul_add : (x y z : C) → k.mul x (k.add y z) ≡ k.add (k.mul x y) (k.mul x z)
  pub add_mul : (x y z : C) → k.mul (k.add x y) z ≡ k.add (k.mul x z) (k.mul y z)
  pub zero_mul : (x : C) → k.mul k.zero x ≡ k.zero
  pub mul_zero : (x : C) → k.mul x k.zero ≡ k.zero
  pub to_word-embed : (w : ℕ) → k.to_word (k.embed w) ≡ w
  pub one_word : IsWordOf k k.one
  pub add_word : (x y : C) → IsWordOf k x → IsWordOf k (k.add x y)
  pub mul_word : (x y : C) → IsWordOf k x → IsWordOf k y → IsWordOf k (k.mul x y)

-- an element is stored in one or two words, and read back from them
pub record StorageLaws {C : Type 0} (words : C → List ℕ) (from_words : List ℕ → C) (size : ℕ) : Type 0 where
  pub size_low : 1 ≤ size
  pub size_high : size ≤ 2
  pub length_words : (x : C) → length (words x) ≡ size
  pub load_store : (x : C) → from_words (words x) ≡ x
