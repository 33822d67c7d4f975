-- The turns of a trace's packets, one after another.
use Rattle.std.proofs.Common.{◌≡◌, ◌≤◌, ℕ, zero, suc, ◌+◌, List, [], ◌∷◌, ◌++◌, length, take, drop, refl, sym, ap, ◌∙◌, subst, arith}
use Rattle.std.proofs.{Math.Seq.take-length, lemmas.List.{drop-drop, length-drop, length-map, length-take-le, map-append}}
use Rattle.epoch_model.specs.Epochs.{is_refresh}
use Rattle.marple_base.specs.declared.field.Packet.{Packet}
use Rattle.switch_core.specs.PlanLanes.{PipelineView}
use Rattle.trace_drive.specs.{Drives.{coming, words_of}, Replays.{Advances, IsUnderWay, MakesAllTurns, MakesTheirTurns, TakesTheRest}}
use Rattle.trace_drive.specs.{Turns.{MakesTurn, MakesTurns}, declared.{packets.Packets.Packets, replay.Replay.Replay}}
use Rattle.trace_drive.specs.declared.schedule.Schedule.{Schedule}

turns_on : (ways refresh lag n k : ℕ) (xs ys : List (List ℕ)) (a b c : PipelineView) → k ≡ n + length xs
    → MakesTurns ways refresh lag n xs a b
    → MakesTurns ways refresh lag k ys b c → MakesTurns ways refresh lag n (xs ++ ys) a c
turns_on ways refresh lag n k [] ys a b c e same more =
    let here : k ≡ n = omega arith in
    subst (λ x. MakesTurns ways refresh lag n ys x c) same (subst (λ m. MakesTurns ways refresh lag m ys b c) here more)
turns_on ways refresh lag n k (x ∷ xs) ys a b c e made more =
    (made.0, made.1, turns_on ways refresh lag (suc n) k xs ys made.0 b c (omega arith) made.2 more)

take_more : (xs : List Packet) (n : ℕ) → take (suc n) xs ≡ take n xs ++ take 1 (drop n xs)
take_more [] zero = refl
take_more [] (suc n) = refl
take_more (x ∷ xs) zero = refl
take_more (x ∷ xs) (suc n) = ap (λ ps. x ∷ ps) (take_more xs n)

-- the words of one packet more
words_more : (all : List Packet) (count number : ℕ)
    → words_of (take (number + 1) (drop count all)) ≡ words_of (take number (drop count all)) ++ words_of
    (take 1 (drop (count + number) all))
words_more all count number =
    ap (λ n. words_of (take n (drop count all))) (let e : number + 1 ≡ suc number = omega arith in e)
    ∙ (ap words_of (take_more (drop count all) number)
    ∙ (map-append (λ (p : Packet). p.words) (take number (drop count all)) (take 1 (drop number (drop count all)))
    ∙ ap (λ ps. words_of (take number (drop count all)) ++ words_of (take 1 ps)) (drop-drop number count all)))

-- no packet has no turn
pub no_turns : {ways : ℕ} (replay : Replay ways) → MakesTheirTurns 0 replay replay
no_turns replay schedule all count way = refl

-- a packet's turn
pub one_turn : {ways : ℕ} (schedule : Schedule) (all : List Packet) (count : ℕ) (p : Packet) (old : Replay ways) (new : PipelineView)
    (left : Packets)
    → IsUnderWay schedule all count old → coming old.packets ≡ p ∷ coming left
    → MakesTurn ways p.words (is_refresh old.refreshes.every (suc count)) (is_refresh old.lags.every (suc count)) old.pipeline new
    → MakesTurns ways schedule.refresh schedule.lag (suc count) (words_of (take 1 (drop count all))) old.pipeline new
one_turn {ways} schedule all count p old new left way given made =
    let here : words_of (take 1 (drop count all)) ≡ p.words ∷ [] = ap (λ ps. words_of (take 1 ps)) (sym way.rest ∙ given) in
    let turn : MakesTurn ways p.words (is_refresh schedule.refresh (suc count)) (is_refresh schedule.lag (suc count)) old.pipeline new =
    subst (λ n. MakesTurn ways p.words (is_refresh n (suc count)) (is_refresh schedule.lag (suc count)) old.pipeline new) way.refresh
    (subst (λ n. MakesTurn ways p.words (is_refresh old.refreshes.every (suc count))
    (is_refresh n (suc count)) old.pipeline new) way.lag made) in
    subst (λ ws. MakesTurns ways schedule.refresh schedule.lag (suc count) ws old.pipeline new) (sym here) (new, turn, refl)

-- the turns of some packets, and then that of one more
pub turns_next : {ways : ℕ} (number : ℕ) (start old new : Replay ways) → Advances number start old → MakesTheirTurns number start old
    → MakesTheirTurns 1 old new → MakesTheirTurns (number + 1) start new
turns_next {ways} number start old new taken before next schedule all count way =
    let here = taken schedule all count way in
    let within = here.within in
    let xs = words_of (take number (drop count all)) in
    let long : length xs ≡ number =
    length-map (take number (drop count all)) (λ (p : Packet). p.words) ∙ length-take-le number (drop count all)
    (omega (arith, length-drop {A = Packet} count all)) in
    subst (λ ws. MakesTurns ways schedule.refresh schedule.lag (suc count) ws start.pipeline new.pipeline)
    (sym (words_more all count number))
    (turns_on ways schedule.refresh schedule.lag (suc count) (suc (count + number)) xs (words_of (take 1 (drop (count + number) all)))
    start.pipeline old.pipeline new.pipeline (omega arith) (before schedule all count way) (next schedule all (count + number) here))

-- where no packet is left after some, their turns are those of all
pub turns_of_all : {ways : ℕ} (number : ℕ) (start old new : Replay ways) → Advances number start old → MakesTheirTurns number start old
    → TakesTheRest 1 old new → new.pipeline ≡ old.pipeline → MakesAllTurns start new.pipeline
turns_of_all {ways} number start old new taken turns rest still schedule all count way =
    let here = taken schedule all count way in
    let few = (rest schedule all (count + number) here).0 in
    let within = here.within in
    let left : length (drop count all) ≡ number = omega (arith, length-drop {A = Packet} count all) in
    let whole : take number (drop count all) ≡ drop count all =
    subst (λ n. take n (drop count all) ≡ drop count all) left (take-length (drop count all)) in
    subst (λ p. MakesTurns ways schedule.refresh schedule.lag (suc count) (words_of (drop count all)) start.pipeline p) (sym still)
    (subst (λ ps. MakesTurns ways schedule.refresh schedule.lag (suc count) (words_of ps) start.pipeline old.pipeline) whole
    (turns schedule all count way))

take_both : (xs : List Packet) (n m k : ℕ) → k ≡ n + m → take k xs ≡ take n xs ++ take m (drop n xs)
take_both xs zero m k e = ap (λ j. take j xs) (let same : k ≡ m = omega (arith, e) in same)
take_both xs (suc n) m zero e = absurd (omega (arith, e))
take_both [] (suc n) zero (suc k) e = refl
take_both [] (suc n) (suc m) (suc k) e = refl
take_both (x ∷ xs) (suc n) m (suc k) e = ap (λ ps. x ∷ ps) (take_both xs n m k (omega (arith, e)))

take_and_drop : (xs : List Packet) (n : ℕ) → take n xs ++ drop n xs ≡ xs
take_and_drop xs zero = refl
take_and_drop [] (suc n) = refl
take_and_drop (x ∷ xs) (suc n) = ap (λ ps. x ∷ ps) (take_and_drop xs n)

-- the turns of some first packets of a trace, and then those of others
turns_and : (ways refresh lag count : ℕ) (all others : List Packet) (a b c : PipelineView) → count ≤ length all
    → MakesTurns ways refresh lag 1 (words_of (take count all)) a b → MakesTurns ways refresh lag (suc count) (words_of others) b c
    → MakesTurns ways refresh lag 1 (words_of (take count all ++ others)) a c
turns_and ways refresh lag count all others a b c within before after =
    let long : length (words_of (take count all)) ≡ count =
    length-map (take count all) (λ (p : Packet). p.words) ∙ length-take-le count all within in
    subst (λ ws. MakesTurns ways refresh lag 1 ws a c) (sym (map-append (λ (p : Packet). p.words) (take count all) others))
    (turns_on ways refresh lag 1 (suc count) (words_of (take count all)) (words_of others) a b c (omega arith) before after)

-- of the next ones
pub turns_further : (ways refresh lag count more : ℕ) (all : List Packet) (a b c : PipelineView) → count ≤ length all
    → MakesTurns ways refresh lag 1 (words_of (take count all)) a b
    → MakesTurns ways refresh lag (suc count) (words_of (take more (drop count all))) b c
    → MakesTurns ways refresh lag 1 (words_of (take (count + more) all)) a c
turns_further ways refresh lag count more all a b c within before after =
    subst (λ ps. MakesTurns ways refresh lag 1 (words_of ps) a c) (sym (take_both all count more (count + more) refl))
    (turns_and ways refresh lag count all (take more (drop count all)) a b c within before after)

-- of all that are left
pub turns_to_the_end : (ways refresh lag count : ℕ) (all : List Packet) (a b c : PipelineView) → count ≤ length all
    → MakesTurns ways refresh lag 1 (words_of (take count all)) a b
    → MakesTurns ways refresh lag (suc count) (words_of (drop count all)) b c → MakesTurns ways refresh lag 1 (words_of all) a c
turns_to_the_end ways refresh lag count all a b c within before after =
    subst (λ ps. MakesTurns ways refresh lag 1 (words_of ps) a c) (take_and_drop all count)
    (turns_and ways refresh lag count all (drop count all) a b c within before after)
