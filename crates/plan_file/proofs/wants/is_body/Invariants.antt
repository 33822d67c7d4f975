use Rattle.std.proofs.Common.{[], ◌∷◌, ◌++◌, drop}
use Rattle.query_lang.specs.declared.fault.TheConstants.{MAX_NESTING}
use Rattle.plan_file.{specs.declared.{lexemes.Lexeme.TheVariants.Close, wants.Want.TheVariants.Block}, proofs.Wanted.StackReads}
use Rattle.plan_file.proofs.wants.is_body.Given as goal

abbrev pub invariant-loop-word : goal.invariant-loop-word
invariant-loop-word l = record {
  goes : StackReads l.states l.args (Block MAX_NESTING ∷ []) (l.words ++ Close ∷ [])
      → StackReads l.states l.args l.wants.items (drop l.word-index l.words ++ Close ∷ []);
  back : StackReads l.states l.args l.wants.items (drop l.word-index l.words ++ Close ∷ [])
      → StackReads l.states l.args (Block MAX_NESTING ∷ []) (l.words ++ Close ∷ []);
}
