use Rattle.std.proofs.Common.{◌≡◌, drop, true}
use Rattle.query_lang.specs.Blocks.{block_of}
use Rattle.fold_code.specs.Checks.{is_in, all_pass}
use Rattle.fold_code.proofs.checks.body_passes.Given as goal

abbrev pub invariant-loop-s : goal.invariant-loop-s
invariant-loop-s g l =
    all_pass l.states (is_in l.known) (g.C.Checks.passes l.checks l.states (is_in l.known)) true (block_of (drop l.s-index l.s-items))
    ≡ all_pass l.states (is_in l.known) (g.C.Checks.passes l.checks l.states (is_in l.known)) true (block_of l.s-items)
