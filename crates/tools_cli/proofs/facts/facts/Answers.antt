-- The line written is that of the facts of the text that was read of the query.
use Rattle.std.proofs.Common.{◌≡◌, ℕ, List, subst, sym}
use Rattle.marple_base.specs.declared.inputs.Which.TheVariants.{Query}
use Rattle.tools_cli.{specs.FactsEnds.IsFactsLine, proofs.LineFacts.gives_facts}
use Rattle.tools_cli.proofs.facts.facts.Goals as goal

pub returns-in-Ok-clause-ok : goal.returns-in-Ok-clause-ok
returns-in-Ok-clause-ok g c =
    let query = (g.I.Inputs.input c.args.inputs.now Query).left in
    let old = g.O.Sink.taken c.args.out.now in
    let new = g.O.Sink.taken c.write_all.new.out in
    let read = c.as_slice.result.now in
    let line = c.as_bytes.result.now in
    let known : IsFactsLine read line =
    subst (λ (bytes : List ℕ). IsFactsLine read bytes) (sym c.as_bytes.ensures.value) c.in_ok-line.ensures in
    gives_facts query c.in_ok-text.text read line old new c.in_ok-text.ensures.text c.as_slice.ensures known c.in-Ok.ensures.ok
