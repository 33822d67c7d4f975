-- Queries that stay readable with more names or items.
use Rattle.std.proofs.Common.{◌≡◌, ℕ, ◌+◌, ◌<◌, ◌≤◌, List, [], ◌∷◌, ◌++◌, length, take}
use Rattle.std.{proofs.lemmas.List.Elements.{All-nil, All-cons, All-append, All-take}, specs.List.All}
use Rattle.query_lang.specs.{declared.query.{Item.Item, Query.Query}, Limits.{HasKeys, IsNumbered, IsReadable, KeepsLimits}}
use Rattle.query_types.proofs.ValidLaws.{item_more}

pub first_readable : (q : Query) (count : ℕ) → IsReadable q
    → IsReadable (record { names = q.names; items = take count q.items; end = q.end })
first_readable q count h = record {
  limits = All-take KeepsLimits count q.items h.limits;
  names = All-take (IsNumbered (length q.names)) count q.items h.names;
  few = h.few;
  keys = All-take HasKeys count q.items h.keys;
}

pub grown_readable : (q : Query) (names : List (List ℕ)) → IsReadable q → length q.names ≤ length names → length names ≤ 32768
    → IsReadable (record { names = names; items = q.items; end = q.end })
grown_readable q names h grows few = record {
  limits = h.limits;
  names = λ k d i. item_more (length q.names) (length names) _ grows (h.names k d i);
  few = few;
  keys = h.keys;
}

pub pushed_readable : (q : Query) (item : Item) → IsReadable q → KeepsLimits item → IsNumbered (length q.names) item → HasKeys item
    → IsReadable (record { names = q.names; items = q.items ++ item ∷ []; end = q.end })
pushed_readable q item h limits numbered keys = record {
  limits = All-append KeepsLimits q.items (item ∷ []) h.limits (All-cons KeepsLimits item [] limits (All-nil KeepsLimits));
  names = All-append (IsNumbered (length q.names)) q.items (item ∷ []) h.names
      (All-cons (IsNumbered (length q.names)) item [] numbered (All-nil (IsNumbered (length q.names))));
  few = h.few;
  keys = All-append HasKeys q.items (item ∷ []) h.keys (All-cons HasKeys item [] keys (All-nil HasKeys));
}
