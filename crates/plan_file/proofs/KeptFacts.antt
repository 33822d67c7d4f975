-- What each kind of line keeps is kept by every line.
use Rattle.std.proofs.Common.{ℕ, List}
use Rattle.plan_file.specs.declared.{line_word.LineWord.LineWord, made.Made.Made}
use Rattle.plan_file.specs.declared.line_word.LineWord.TheVariants as words
use Rattle.plan_file.specs.{Lines.{IsLine, IsLineOf, IsFirst, IsReads, IsOp, IsGroup, IsPart, IsFold, IsPrint}, LineWords.line_word}

module _ (P : Made → Type 0) where
  -- a line of this kind keeps it
  abbrev pub Keeps : (Made → List ℕ → Made → Type 0) → Type 0
  Keeps Is = (b : Made) (line : List ℕ) (a : Made) → Is b line a → P b → P a

  pub line_keeps : Keeps IsFirst → Keeps IsReads → Keeps IsOp → Keeps IsGroup → ((word : LineWord) → Keeps (IsPart word)) → Keeps IsFold
      → Keeps IsPrint → Keeps IsLine
  line_keeps first reads op group part fold print b line a p kept = by (line_word line) p
    where
      by : (word : LineWord) → IsLineOf word b line a → P a
      by words.Plan p = first b line a p kept
      by words.Reads p = reads b line a p kept
      by words.Op p = op b line a p kept
      by words.Group p = group b line a p kept
      by words.Key p = part words.Key b line a p kept
      by words.Arg p = part words.Arg b line a p kept
      by words.State p = part words.State b line a p kept
      by words.Body p = part words.Body b line a p kept
      by words.Fold p = fold b line a p kept
      by words.Print p = print b line a p kept
      by words.Other p = absurd p
