-- What is cut so far and the text left give the tokens, and the first piece that is a fault is the answer.
use Rattle.std.proofs.{Common.{ℕ, ◌-◌, length, drop, take, arith, ap, ◌∙◌, inl, inr}, lemmas.List.{length-take, length-drop}}
use Rattle.query_lang.specs.Lexis.{piece}
use Rattle.query_parser.proofs.{Cuts.{blank, token, numbered, fault, ends, rest_all, one_more}, lexer.cut_text.Goals.in-Blank}
use Rattle.query_parser.proofs.lexer.cut_text.Goals.{in-Name+in_ok-id-in-Name+in_ok-push-in-Name, in-Token+in_ok-push-in-Token}
use Rattle.query_parser.proofs.lexer.cut_text.Goals.{else-loop-test, then-loop-test+then-at-text}
use Rattle.query_parser.proofs.lexer.cut_text.Goals as goal

pub returns-in-Fault : goal.returns-in-Fault
returns-in-Fault c = rw c.fault_from.ensures (fault c.args.text.now c.loop.tokens c.loop.names c.loop.at c.loop.counter
    _ c.loop.invariant.so_far c.if-at-text.false c.loop-test.true c.in-Fault.kind c.in-Fault.len
    (c.in-Fault.ensures.value ∙ ap piece (rest_all c.args.text.now c.loop.at)))

pub loop-preserved : goal.loop-preserved
loop-preserved c = elim c.match-piece_of.branch [
  | in-Blank w ↦ rw (w.tokens-is, w.names-is, w.at-is) (record {
    within = omega (arith, c.if-at-text.false, w.in-Blank.ensures.within, length-take {A = ℕ}, length-drop {A = ℕ});
    few = omega (arith, c.loop.invariant.few);
    so_far = blank c.args.text.now c.loop.tokens c.loop.names c.loop.at c.loop.counter _ c.loop.invariant.so_far c.if-at-text.false
        c.loop-test.true w.in-Blank.len (w.in-Blank.ensures.value ∙ ap piece (rest_all c.args.text.now c.loop.at));
  })
  | in-Name+in_ok-id-in-Name+in_ok-push-in-Name w ↦ rw (
    w.tokens-is,
    w.names-is,
    w.at-is,
    w.in_ok-push-in-Name.ensures.ok,
    w.token_from.ensures,
  ) (record {
    within = omega (arith, c.if-at-text.false, w.in-Name.ensures.within, length-take {A = ℕ}, length-drop {A = ℕ});
    few = omega (
      arith,
      c.loop.invariant.few,
      ap length w.in_ok-id-in-Name.ensures.names,
      one_more c.loop.names (take w.in-Name.len (take (length c.args.text.now - c.loop.at) (drop c.loop.at c.args.text.now))),
    );
    so_far = numbered c.args.text.now c.loop.tokens c.loop.names c.loop.at c.loop.counter _ c.loop.invariant.so_far c.if-at-text.false
        c.loop-test.true w.in-Name.len (w.in-Name.ensures.value ∙ ap piece (rest_all c.args.text.now c.loop.at))
        (take w.in-Name.len (take (length c.args.text.now - c.loop.at) (drop c.loop.at c.args.text.now)))
        (ap (take w.in-Name.len) (rest_all c.args.text.now c.loop.at))
        w.in_ok-id-in-Name.id w.in_ok-id-in-Name.ensures.number w.number.new.self w.in_ok-id-in-Name.ensures.names;
  })
  | in-Token+in_ok-push-in-Token w ↦ rw (w.tokens-is, w.names-is, w.at-is, w.in_ok-push-in-Token.ensures.ok, w.token_from-in-Token.ensures)
      (record {
        within = omega (arith, c.if-at-text.false, w.in-Token.ensures.within, length-take {A = ℕ}, length-drop {A = ℕ});
        few = omega (arith, c.loop.invariant.few);
        so_far = token c.args.text.now c.loop.tokens c.loop.names c.loop.at c.loop.counter _ c.loop.invariant.so_far c.if-at-text.false
            c.loop-test.true w.in-Token.kind w.in-Token.len
            (w.in-Token.ensures.value ∙ ap piece (rest_all c.args.text.now c.loop.at));
      })
]

pub returns : goal.returns
returns c = rw (c.in_ok-push.ensures.ok, c.token_from-2.ensures) (ends c.args.text.now c.loop.tokens c.loop.names c.loop.at c.loop.counter
    _ c.loop.invariant.so_far (elim c.loop-test.branch [
      | else-loop-test w ↦ inl w.loop-test.false
      | then-loop-test+then-at-text w ↦ inr w.if-at-text.true
    ]))
