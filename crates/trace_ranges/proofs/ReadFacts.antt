-- What is read of what is kept.
use Rattle.std.{proofs.Common.{◌≡◌, ℕ, true, List, [], ◌++◌, Option, Some, None, sym, ap, ◌∙◌, subst}, specs.Prelude.option_map}
use Rattle.std.specs.Io.KnownBytes.{Consumes, IsAtEnd, Keeps}
use Rattle.trace_ranges.specs.{Ranges.{is_past, kept, window_over}, declared.window.Window.Window}
use Rattle.trace_ranges.proofs.WindowFacts.{kept_append, kept_none, past_gives}

-- the known bytes that are kept
abbrev pub known_kept : Window → Option (List ℕ) → Option (List ℕ)
known_kept window known = option_map (kept window) known

pub consumes_kept : (window : Window) (old new : Option (List ℕ)) (piece : List ℕ) → Consumes old new piece
    → Consumes (known_kept window old) (known_kept (window_over window piece) new) (kept window piece)
consumes_kept window None new piece e = tt
consumes_kept window (Some xs) None piece e = absurd e
consumes_kept window (Some xs) (Some ys) piece e = ap (kept window) e ∙ kept_append window piece ys

pub keeps_keeps : (first old new : Option (List ℕ)) → Keeps first old → Keeps old new → Keeps first new
keeps_keeps None old new keeps e = tt
keeps_keeps (Some xs) None new keeps e = absurd keeps
keeps_keeps (Some xs) (Some ys) None keeps e = absurd e
keeps_keeps (Some xs) (Some ys) (Some zs) keeps e = e ∙ keeps

-- where nothing is read, the window at hand is the same
pub kept_keeps : (window : Window) (old new : Option (List ℕ)) → Keeps old new → Keeps (known_kept window old) (known_kept window new)
kept_keeps window None new e = tt
kept_keeps window (Some xs) None e = absurd e
kept_keeps window (Some xs) (Some ys) e = ap (kept window) e

pub end_kept : (window : Window) (known : Option (List ℕ)) → IsAtEnd known → IsAtEnd (known_kept window known)
end_kept window None e = tt
end_kept window (Some xs) e = ap (kept window) e ∙ kept_none window

pub past_end : (window : Window) (known : Option (List ℕ)) → is_past window ≡ true → IsAtEnd (known_kept window known)
past_end window None e = tt
past_end window (Some xs) e = past_gives window xs e

-- nothing is read at the end
pub keeps_none : (first now : Option (List ℕ)) → Keeps first now → Consumes first now []
keeps_none None now keeps = tt
keeps_none (Some xs) None keeps = absurd keeps
keeps_none (Some xs) (Some ys) keeps = sym keeps

pub nothing_read : (old new : Option (List ℕ)) (piece : List ℕ) → Consumes old new piece → piece ≡ [] → Keeps old new
nothing_read None new piece e none = tt
nothing_read (Some xs) None piece e none = absurd e
nothing_read (Some xs) (Some ys) piece e none = sym (e ∙ ap (λ p. p ++ ys) none)

-- what is kept of a piece that is read
pub given_kept : (window after : Window) (first old new : Option (List ℕ)) (piece bytes given : List ℕ) → Keeps first (known_kept window old)
    → Consumes old new piece → bytes ≡ piece → after ≡ window_over window bytes → given ≡ kept window bytes
    → Consumes first (known_kept after new) given
given_kept window after first old new piece bytes given keeps read same is kept_is =
    let moved : after ≡ window_over window piece = is ∙ ap (window_over window) same in
    let all : given ≡ kept window piece = kept_is ∙ ap (kept window) same in
    subst (λ l. Consumes first (known_kept l new) given) (sym moved)
    (subst (Consumes first (known_kept (window_over window piece) new)) (sym all)
    (front first (known_kept window old) (known_kept (window_over window piece) new) (kept window piece) keeps
    (consumes_kept window old new piece read)))
  where
    front : (a b c : Option (List ℕ)) (bs : List ℕ) → Keeps a b → Consumes b c bs → Consumes a c bs
    front None b c bs keeps e = tt
    front (Some xs) None c bs keeps e = absurd keeps
    front (Some xs) (Some ys) None bs keeps e = absurd e
    front (Some xs) (Some ys) (Some zs) bs keeps e = sym keeps ∙ e

pub none_kept : (window after : Window) (first old new : Option (List ℕ)) (piece bytes given : List ℕ) → Keeps first (known_kept window old)
    → Consumes old new piece → bytes ≡ piece → after ≡ window_over window bytes → given ≡ kept window bytes → given ≡ []
    → Keeps first (known_kept after new)
none_kept window after first old new piece bytes given keeps read same is kept_is none =
    nothing_read first (known_kept after new) given (given_kept window after first old new piece bytes given keeps read same is kept_is) none
