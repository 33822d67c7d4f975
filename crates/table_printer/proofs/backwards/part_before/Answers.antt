-- The part copied to end at the place, with a comma set before it, goes on with the text that was there.
use Rattle.std.proofs.Common.{◌≡◌, ◌+◌, ◌-◌, ◌<◌, ◌≤◌, ◌∙◌, ◌++◌, ◌∷◌, List, ℕ, ap, append-nil, arith, drop, length, sym, take, drop-drop}
use Rattle.std.proofs.{Common.{length-append, length-drop}, lemmas.List.{drop-set, drop_at, length-take-le}}
use Rattle.table_printer.proofs.backwards.part_before.Goals as goal

pub returns-clause-written : goal.returns-clause-written
returns-clause-written c =
    let room = c.args.room.now in
    let part = c.args.part.now in
    let end = c.args.end in
    let at : ℕ = end - length part in
    let copied = c.copy_from_slice.new.self in
    let after = c.copy_from_slice.ensures.after in
    let rest = drop (end - at) (drop at room) in
    let put = take at room ++ (copied ++ rest) in
    let low : at ≤ length room = omega (arith, c.requires.1) in
    let some : 1 ≤ at = omega (arith, c.requires.0) in
    let long : length put ≡ length room = omega (
      arith,
      length-append (take at room) (copied ++ rest),
      length-append copied rest,
      length-take-le at room low,
      length-drop (end - at) (drop at room),
      length-drop at room,
      ap length after,
      c.requires.0,
      c.requires.1,
    ) in
    let within : at - 1 < length put = omega (arith, long, low, some) in
    let next : at - 1 + 1 ≡ at = omega (arith, some) in
    let whole : at + (end - at) ≡ end = omega (arith, c.requires.0) in
    drop-set put (at - 1) 44 within
    ∙ ap (λ (text : List ℕ). 44 ∷ text) (ap (λ n. drop n put) next
    ∙ (drop_at (take at room) (copied ++ rest) at (length-take-le at room low)
    ∙ (ap (λ (text : List ℕ). text ++ rest) after
    ∙ (ap (λ (text : List ℕ). part ++ text) (drop-drop (end - at) at room ∙ ap (λ n. drop n room) whole)
    ∙ ap (λ (text : List ℕ). text ++ drop end room) (sym (append-nil part))))))
