use Rattle.std.proofs.Common.{◌≡◌, drop}
use Rattle.query_lang.specs.Blocks.{block_of}
use Rattle.fold_code.specs.Checks.{is_in, all_pass}
use Rattle.fold_code.proofs.checks.+stmt_passes.Given as goal

abbrev pub invariant-then_block : goal.invariant-then_block
invariant-then_block g l = all_pass l.states (is_in l.known) (g.C.Checks.passes l.checks l.states (is_in l.known)) l.inside
    (block_of (drop l.inner-index l.inner-items))
    ≡ all_pass l.states (is_in l.known) (g.C.Checks.passes l.checks l.states (is_in l.known)) l.inside (block_of l.inner-items)

abbrev pub invariant-else_block : goal.invariant-else_block
invariant-else_block g l = all_pass l.states (is_in l.known) (g.C.Checks.passes l.checks l.states (is_in l.known)) l.inside
    (block_of (drop l.inner-index l.inner-items))
    ≡ all_pass l.states (is_in l.known) (g.C.Checks.passes l.checks l.states (is_in l.known)) l.inside (block_of l.inner-items)
