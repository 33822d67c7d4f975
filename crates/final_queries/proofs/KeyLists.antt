-- What holds of each key of a list holds of each of the ascending keys.
use Rattle.std.{proofs.{Common.{List, [], ◌∷◌}, lemmas.List.Elements.{All-nil, All-cons, All-head, All-tail}}, specs.List.All}
use Rattle.epoch_model.specs.Keys.{Key, key_cmp, with_key, ascending}
use Rattle.final_queries.proofs.KeyFacts.{by_order}

all_with : (P : Key → Type 0) (key : Key) (keys : List Key) → P key → All P keys → All P (with_key key keys)
all_with P key [] p all = All-cons P key [] p all
all_with P key (first ∷ keys) p all = by_order (key_cmp key first)
    (λ e. rw e (All-cons P key (first ∷ keys) p all))
    (λ e. rw e all)
    (λ e. rw e (All-cons P first (with_key key keys) (All-head P first keys all) (all_with P key keys p (All-tail P first keys all))))

pub all_ascending : (P : Key → Type 0) (keys : List Key) → All P keys → All P (ascending keys)
all_ascending P [] all = All-nil P
all_ascending P (key ∷ keys) all = all_with P key (ascending keys) (All-head P key keys all)
    (all_ascending P keys (All-tail P key keys all))
