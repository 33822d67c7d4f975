-- The place after the oldest one, back at the first after the last, is where the other records begin.
use Rattle.std.proofs.Common.{◌≡◌, ◌-◌, ◌<◌, length, subst, sym, ap, ◌∙◌, arith}
use Rattle.evict_pipe.{specs.Rings.{place_after, records_in}, proofs.RingFacts.{dropped, length-records}}
use Rattle.evict_pipe.proofs.pipe.EvictPipe.drop_front.Goals as goal
use Rattle.evict_pipe.proofs.pipe.EvictPipe.drop_front.Goals.{then-next-self, else-next-self}

pub returns : goal.returns
returns c =
    let p = c.self.inside in
    let words = p.words.items in
    let long = length-records p.record_words p.places words p.first p.len in
    let some : 0 < p.len = subst (λ n. 0 < n) (ap (λ pipe. length pipe.records) (sym c.self.view_is) ∙ long) c.requires in
    let next : c.if-next-self.self ≡ place_after p.places p.first 1 = elim c.if-next-self.branch [
      | then-next-self w ↦ let test = w.if-next-self.true in let is = w.self-is in grind arith
      | else-next-self w ↦ let test = w.if-next-self.false in let is = w.self-is in let low = c.self.invariant.oldest in grind arith
    ] in
    rw (← c.self.view_is) (ap (λ rows. record { record_words = p.record_words; places = p.places; records = rows })
    (ap (λ first. records_in p.record_words p.places words first (p.len - 1)) next
    ∙ dropped p.record_words p.places words p.first p.len c.self.invariant some))
