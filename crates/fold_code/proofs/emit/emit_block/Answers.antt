use Rattle.fold_code.proofs.CodeLemmas.{emits_all, emits_more, emits_room}
use Rattle.fold_code.proofs.emit.emit_block.Goals as goal

pub emit_stmt-requires : goal.emit_stmt-requires
emit_stmt-requires c = record { room = emits_room c.loop-s.invariant c.loop-s-test.true c.s-item.is c.requires }

pub loop-s-preserved : goal.loop-s-preserved
loop-s-preserved c = emits_more c.loop-s.invariant c.loop-s-test.true c.s-item.is
    c.in_ok-emit_stmt.ensures.items c.in_ok-emit_stmt.ensures.length

pub returns : goal.returns
returns c = let all = emits_all c.loop-s.invariant c.loop-s-test.false in record { items = all.0; length = all.1 }
