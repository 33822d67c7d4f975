-- A run of a fold's code over parts: what a value is, as far as one column of the step's map shows it.
use Rattle.std.specs.Prelude.{◌≡◌, ℕ, ◌-◌, ◌^◌, Bool, true, false, not, ◌==◌, if◌then◌else◌}
use Rattle.query_lang.specs.{declared.fold.Op.Op, Words.{IsWord, flag, holds, op_value}}
use Rattle.fold_code.specs.Machine.{Domain}
use Rattle.coeff_algebra.specs.{Elements.{Elements, IsWordOf}, Maps.{map_apply, HasWord}}
pub use Rattle.fold_class.specs.declared.part.Part.{Part}
pub use Rattle.fold_class.specs.declared.part.Part.TheVariants.{Fixed, Share, Lost}
use Rattle.fold_class.specs.{declared.class.Algebra.Algebra, Kinds.{Role, Sum, Difference, Product, Outside, role}}

-- how shares are made, added and multiplied by a word
pub record Shares (A : Type 0) : Type 0 where
  pub lift : ℕ → A
  pub sum : A → A → A
  pub scale : ℕ → A → A

-- minus one, as a word
abbrev pub minus_one : ℕ
minus_one = 2 ^ 64 - 1

-- an operator of this role on two shares, which has this part as their product
abbrev pub share_operation : {A : Type 0} → (A → A → A) → (ℕ → A → A) → Role → A → A → Part A → Part A
share_operation sum scale Sum d e product = Share (sum d e)
share_operation sum scale Difference d e product = Share (sum d (scale minus_one e))
share_operation sum scale Product d e product = product
share_operation sum scale Outside d e product = Lost

-- an operator of this role, which makes `f` of two words
abbrev pub part_operation : {A : Type 0} → Shares A → Role → (ℕ → ℕ → ℕ) → Part A → Part A → Part A
part_operation sh r f (Fixed x) (Fixed y) = Fixed (f x y)
part_operation sh r f (Fixed x) (Share e) = share_operation sh.sum sh.scale r (sh.lift x) e (Share (sh.scale x e))
part_operation sh r f (Share d) (Fixed y) = share_operation sh.sum sh.scale r d (sh.lift y) (Share (sh.scale y d))
part_operation sh r f (Share d) (Share e) = share_operation sh.sum sh.scale r d e Lost
part_operation sh r f _ _ = Lost

abbrev pub part_negation : {A : Type 0} → Part A → Part A
part_negation (Fixed x) = Fixed (flag (not (holds x)))
part_negation _ = Lost

-- a condition as a mask
abbrev pub part_test : {A : Type 0} → Bool → Part A → Part A
part_test wanted (Fixed x) = Fixed (flag (if wanted then holds x else not (holds x)))
part_test wanted _ = Lost

-- under a mask that does not hold, nothing runs, whatever the condition is
abbrev pub part_mask : {A : Type 0} → Bool → Part A → Part A → Part A
part_mask wanted (Fixed m) k = if holds m then part_test wanted k else Fixed 0
part_mask wanted _ k = Lost

abbrev pub part_choice : {A : Type 0} → Part A → Part A → Part A → Part A
part_choice (Fixed m) new old = if holds m then new else old
part_choice _ new old = Lost

abbrev pub parts : {A : Type 0} → Shares A → Algebra → Domain (Part A)
parts sh algebra = record {
  number = λ n. Fixed n;
  negation = part_negation;
  operation = λ op. part_operation sh (role algebra op) (op_value op);
  on_true = part_mask true;
  on_false = part_mask false;
  choice = part_choice;
}

module _ {C : Type 0} (k : Elements C) (dimension : ℕ) where
  -- the shares of one column: that of number `dimension` is what is added
  abbrev pub column_shares : ℕ → Shares C
  column_shares column = record {
    lift = λ w. if column == dimension then k.embed w else k.zero;
    sum = k.add;
    scale = λ w e. k.mul (k.embed w) e;
  }

  -- a whole row, as a table by column
  abbrev pub row_shares : Shares (ℕ → C)
  row_shares = record {
    lift = λ w column. if column == dimension then k.embed w else k.zero;
    sum = λ d e column. k.add (d column) (e column);
    scale = λ w e column. k.mul (k.embed w) (e column);
  }

  -- what a row gives at the words of the linear variables
  abbrev pub row_value : (ℕ → ℕ) → (ℕ → C) → ℕ
  row_value x row = k.to_word (map_apply k dimension (λ i. row) (λ j. k.embed (x j)) 0)

  -- a part represents a word, at the words of the linear variables
  abbrev pub StandsFor : (ℕ → ℕ) → Part (ℕ → C) → ℕ → Type 0
  StandsFor x (Fixed w) v = w ≡ v
  StandsFor x (Share row) v = (row_value x row ≡ v) × HasWord k dimension row
  StandsFor x Lost v = Unit {0}

-- the operators of an algebra are the sums and products of its elements
pub record IsAlgebraOf (algebra : Algebra) {C : Type 0} (k : Elements C) : Type 0 where
  pub sum_value : (op : Op) → role algebra op ≡ Sum → (a b : C) → k.to_word (k.add a b) ≡ op_value op (k.to_word a) (k.to_word b)
  pub difference_value : (op : Op) → role algebra op ≡ Difference → (a b : C) → IsWord (k.to_word b)
      → k.to_word (k.add a (k.mul (k.embed minus_one) b)) ≡ op_value op (k.to_word a) (k.to_word b)
  pub product_value : (op : Op) → role algebra op ≡ Product → (a b : C) → IsWordOf k a → IsWordOf k b
      → k.to_word (k.mul a b) ≡ op_value op (k.to_word a) (k.to_word b)
  pub product_comm : (op : Op) → role algebra op ≡ Product → (x y : ℕ) → op_value op x y ≡ op_value op y x
