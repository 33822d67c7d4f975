-- A record's words are those from its place in the ring on, and lie within the flat words.
use Rattle.std.proofs.Common.{◌≡◌, ◌+◌, ◌-◌, ◌*◌, ◌<◌, [], length, take, drop, get_or, subst, sym, ap, ◌∙◌, arith}
use Rattle.evict_pipe.{specs.Rings.place_after, proofs.RingFacts.{after-low, length-records, nth-record, place_fits}}
use Rattle.evict_pipe.proofs.pipe.EvictPipe.record.Goals as goal

pub start_of-start-requires-clause-range : goal.start_of-start-requires-clause-range
start_of-start-requires-clause-range c =
    let p = c.self.inside in
    let long = length-records p.record_words p.places p.words.items p.first p.len in
    let range = subst (λ n. c.args.i < n) (ap (λ pipe. length pipe.records) (sym c.self.view_is) ∙ long) c.requires in
    omega (arith, range, c.self.invariant.within)

pub slice_bounds-result-end : goal.slice_bounds-result-end
slice_bounds-result-end c =
    let p = c.self.inside in
    let ring = c.self.invariant in
    let long = length-records p.record_words p.places p.words.items p.first p.len in
    let range = subst (λ n. c.args.i < n) (ap (λ pipe. length pipe.records) (sym c.self.view_is) ∙ long) c.requires in
    let low = after-low p.places p.first c.args.i ring.oldest (omega (arith, range, ring.within)) in
    let fits = place_fits (place_after p.places p.first c.args.i) p.places p.record_words low in
    let start = c.start_of-start.ensures in
    let words : length c.deref.result.now ≡ p.places * p.record_words = ap length c.deref.ensures.value ∙ ring.whole in
    omega arith

pub returns-clause-words : goal.returns-clause-words
returns-clause-words c =
    let p = c.self.inside in
    let start = c.start_of-start.result in
    let place = place_after p.places p.first c.args.i in
    let long = length-records p.record_words p.places p.words.items p.first p.len in
    let range = subst (λ n. c.args.i < n) (ap (λ pipe. length pipe.records) (sym c.self.view_is) ∙ long) c.requires in
    let wide : start + p.record_words - start ≡ p.record_words = omega arith in
    ap (λ n. take n (drop start c.deref.result.now)) wide
    ∙ (ap (λ words. take p.record_words (drop start words)) c.deref.ensures.value
    ∙ (ap (λ n. take p.record_words (drop n p.words.items)) c.start_of-start.ensures
    ∙ (sym (nth-record p.record_words p.places p.words.items p.first p.len c.args.i [] range)
    ∙ ap (λ pipe. get_or pipe.records c.args.i []) c.self.view_is)))
