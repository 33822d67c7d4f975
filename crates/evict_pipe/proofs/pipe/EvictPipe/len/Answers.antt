-- As many records are cut from the ring as its length says, all of their width, and no more than its places.
use Rattle.std.proofs.Common.{◌≤◌, length, subst, sym, ap, ◌∙◌}
use Rattle.evict_pipe.{specs.Pipes.IsSoundPipe, proofs.RingFacts.{length-records, record-words}}
use Rattle.evict_pipe.proofs.pipe.EvictPipe.len.Goals as goal

pub returns-clause-number : goal.returns-clause-number
returns-clause-number c =
    let p = c.self.inside in
    sym (length-records p.record_words p.places p.words.items p.first p.len) ∙ ap (λ pipe. length pipe.records) c.self.view_is

pub returns-clause-sound : goal.returns-clause-sound
returns-clause-sound c =
    let p = c.self.inside in
    let ring = c.self.invariant in
    subst IsSoundPipe c.self.view_is (record {
      few = subst (λ n. n ≤ p.places) (sym (length-records p.record_words p.places p.words.items p.first p.len)) ring.within;
      words = record-words p.record_words p.places p.words.items p.first p.len ring;
    })
