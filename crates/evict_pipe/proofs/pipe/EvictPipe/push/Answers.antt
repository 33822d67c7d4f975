-- The record is written over the place after the newest one, and the ring has one record more.
use Rattle.std.proofs.Common.{◌≡◌, ◌+◌, ◌<◌, ◌++◌, length, subst, sym, ap, ◌∙◌, arith, length-append}
use Rattle.evict_pipe.{specs.Rings.{place_after, records_in, IsRing}, proofs.RingFacts.{after-low, length-records, pushed, written}}
use Rattle.evict_pipe.proofs.pipe.EvictPipe.push.Goals as goal
use Rattle.evict_pipe.proofs.pipe.EvictPipe.push.Goals.{After-self}

room : (g : _) (c : After-self g) → c.self.inside.len < c.self.inside.places
room g c =
    let p = c.self.inside in
    let long = length-records p.record_words p.places p.words.items p.first p.len in
    subst (λ n. n < p.places) (ap (λ pipe. length pipe.records) (sym c.self.view_is) ∙ long)
    (subst (λ n. length c.args.self.now.records < n) (ap (λ pipe. pipe.places) (sym c.self.view_is)) c.requires.room)

wide : (g : _) (c : After-self g) → length (c.args.key.now ++ c.args.entry.now) ≡ c.self.inside.record_words
wide g c = length-append c.args.key.now c.args.entry.now ∙ (c.requires.words ∙ ap (λ pipe. pipe.record_words) (sym c.self.view_is))

pub start_of-start-requires-clause-range : goal.start_of-start-requires-clause-range
start_of-start-requires-clause-range g c = room g (goal.at.start_of-start-requires-clause-range g c).After-self

pub invariant_of-self : goal.invariant_of-self
invariant_of-self g c =
    let p = c.self.inside in
    let ring = c.self.invariant in
    let x = (goal.at.invariant_of-self g c).After-self in
    let after = written p.words c.start_of-start.result p.record_words (place_after p.places p.first p.len) p.places c.deref_mut.result.now
    c.write_record.new.row (c.args.key.now ++ c.args.entry.now) c.deref_mut.ensures.value c.start_of-start.ensures
    c.write_record.ensures.written (after-low p.places p.first p.len ring.oldest (room g x)) ring.whole (wide g x) in
    subst (λ words. IsRing p.record_words p.places words p.first (p.len + 1)) (sym after.0)
    (record { whole = after.1; width = ring.width; few = ring.few; oldest = ring.oldest; within = omega (arith, room g x) })

pub returns-clause-records : goal.returns-clause-records
returns-clause-records g c =
    let p = c.self.inside in
    let new = c.args.key.now ++ c.args.entry.now in
    let x = (goal.at.returns-clause-records g c).After-self in
    let after = written p.words c.start_of-start.result p.record_words (place_after p.places p.first p.len) p.places c.deref_mut.result.now
    c.write_record.new.row new c.deref_mut.ensures.value c.start_of-start.ensures c.write_record.ensures.written
    (after-low p.places p.first p.len c.self.invariant.oldest (room g x)) c.self.invariant.whole (wide g x) in
    rw (← c.self.view_is) (ap (λ rows. record { record_words = p.record_words; places = p.places; records = rows })
    (ap (λ words. records_in p.record_words p.places words p.first (p.len + 1)) after.0
    ∙ pushed p.record_words p.places p.words.items p.first p.len new c.self.invariant (room g x) (wide g x)))
