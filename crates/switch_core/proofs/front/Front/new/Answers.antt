-- An empty cache and an empty pipe stand for the empty machine, and lacking memory there is no front.
use Rattle.std.proofs.{Common.{◌<◌, ◌≤◌, ◌+◌, [], length, drop, ap, refl, sym, subst, ◌∙◌, lit<, arith}, lemmas.List.length-replicate}
use Rattle.query_lang.specs.declared.fault.TheConstants.{MAX_KEYS}
use Rattle.switch_core.proofs.{LaneFacts.whole_written, LaneSteps.front_empty}
use Rattle.epoch_model.proofs.Endings.{no_value}
use Rattle.switch_core.proofs.front.Front.new.Goals as goal

pub returns-clause-stands : goal.returns-clause-stands
returns-clause-stands g c =
    front_empty (g.K.EpochKind.stands c.args.kind) g.row.WAYS c.args.buckets c.args.key_words c.entry_words-entry_words.result
    c.in_ok-cache.cache c.in_ok-pipe.pipe c.in_ok-cache.ensures (ap (λ p. p.records) c.in_ok-pipe.ensures)

pub returns-in_err-cache : goal.returns-in_err-cache
returns-in_err-cache g c =
    let r = c.from_residual.result in
    let e = c.from_residual.ensures.0 in
    record { stands = no_value r _ e; kind = no_value r _ e; buckets = no_value r _ e; places = no_value r _ e; key = no_value r _ e }

pub returns-in_err-pipe : goal.returns-in_err-pipe
returns-in_err-pipe g c =
    let r = c.from_residual-in_err-pipe.result in
    let e = c.from_residual-in_err-pipe.ensures.0 in
    record { stands = no_value r _ e; kind = no_value r _ e; buckets = no_value r _ e; places = no_value r _ e; key = no_value r _ e }

pub returns-in_err-scratch : goal.returns-in_err-scratch
returns-in_err-scratch g c =
    let r = c.from_residual-in_err-scratch.result in
    let e = c.from_residual-in_err-scratch.ensures.0 in
    record { stands = no_value r _ e; kind = no_value r _ e; buckets = no_value r _ e; places = no_value r _ e; key = no_value r _ e }

pub returns-in_err-initial : goal.returns-in_err-initial
returns-in_err-initial g c =
    let r = c.from_residual-in_err-initial.result in
    let e = c.from_residual-in_err-initial.ensures.0 in
    record { stands = no_value r _ e; kind = no_value r _ e; buckets = no_value r _ e; places = no_value r _ e; key = no_value r _ e }

pub new-requires : goal.new-requires
new-requires g c =
    let entry : c.entry_words-entry_words.result ≤ 512 = omega (arith, c.entry_words-entry_words.ensures, c.requires.entry) in
    let sizes = c.requires.sizes in
    (lit< tt, (sizes.some_ways, (sizes.some_buckets, (sizes.places, (c.requires.key, entry)))))

pub new-requires-2-clause-places : goal.new-requires-2-clause-places
new-requires-2-clause-places g c = (c.requires.sizes.some_records, c.requires.sizes.most_records)

pub new-requires-2-clause-words : goal.new-requires-2-clause-words
new-requires-2-clause-words g c = (
  omega (arith, c.requires.key.0),
  omega (arith, c.entry_words-entry_words.ensures, c.requires.entry),
)

pub initial-requires : goal.initial-requires
initial-requires g c = c.deref_mut.ensures.len ∙ c.in_ok-initial.ensures.len ∙ c.state_words.ensures

pub invariant_of-result : goal.invariant_of-result
invariant_of-result g c =
    let cache = c.in_ok-cache.ensures in
    let pipe = c.in_ok-pipe.ensures in
    let state = c.initial.new.state in
    let words = c.initial.auto.state ∙ c.deref_mut.ensures.len in
    let whole = whole_written state (drop (length state) c.in_ok-initial.initial.items) c.in_ok-initial.initial.len words in
    record {
      front = record {
        some_ways = c.requires.sizes.some_ways;
        some_buckets = subst (λ k. 0 < length k.lists) (sym cache)
            (subst (λ n. 0 < n) (sym (length-replicate c.args.buckets [])) c.requires.sizes.some_buckets);
        some_places = subst (λ p. 0 < p.places) (sym pipe) c.requires.sizes.some_records;
        entry = ap (λ k. k.entry_words) cache ∙ c.entry_words-entry_words.ensures;
        record_words = ap (λ p. p.record_words) pipe ∙ sym (ap (λ k. k.key_words + k.entry_words) cache);
        few_key_words = subst (λ k. k.key_words ≤ MAX_KEYS) (sym cache) c.requires.key.1;
      };
      scratch_words = omega (arith, c.in_ok-scratch.scratch.ok, c.in_ok-scratch.ensures.len, c.scratch_words.ensures);
      initial_words = ap length whole ∙ words ∙ c.in_ok-initial.ensures.len ∙ c.state_words.ensures;
      initial_state = whole ∙ c.initial.ensures;
    }

pub returns-clause-kind : goal.returns-clause-kind
returns-clause-kind g c = refl

pub returns-clause-places : goal.returns-clause-places
returns-clause-places g c = ap (λ p. p.places) c.in_ok-pipe.ensures

pub returns-clause-key : goal.returns-clause-key
returns-clause-key g c = ap (λ k. k.key_words) c.in_ok-cache.ensures

pub returns-clause-buckets : goal.returns-clause-buckets
returns-clause-buckets g c = ap (λ k. length k.lists) c.in_ok-cache.ensures ∙ length-replicate _ _
