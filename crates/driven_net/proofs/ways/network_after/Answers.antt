-- A fresh network takes the turns of all packets, and keeps its plan, its buckets and the places of its pipes.
use Rattle.std.{proofs.Common.{◌≡◌, [], Result, Ok, Err, ◌∙◌, subst}, specs.Prelude.IfOk}
use Rattle.network.specs.{Groups.AllHavePlaces, Networks.{IsNetwork, KeepsNetwork, NetworkView}, Running.NetworkStands}
use Rattle.trace_drive.specs.Drives.{words_of}
use Rattle.driven_net.specs.Turns.{MakesTurns}
use Rattle.driven_net.proofs.ways.network_after.Goals as goal

if_ok_two : {X E : Type 0} (P Q R : X → Type 0) (r : Result X E) → ((x : X) → P x → Q x → R x) → IfOk r P → IfOk r Q → IfOk r R
if_ok_two P Q R (Ok x) h p q = h x p q
if_ok_two P Q R (Err e) h p q = tt

pub returns-clause-pipe_places : goal.returns-clause-pipe_places
returns-clause-pipe_places g c =
    let fresh = c.in-Ok.fresh in
    if_ok_two (KeepsNetwork fresh) (IsNetwork g.row.WAYS) (λ (found : NetworkView). AllHavePlaces c.args.setting.pipe found.groups)
    c.take_all.result
    (λ found keeps is. subst (λ n. AllHavePlaces n found.groups) (keeps.pipe_records ∙ c.in-Ok.ensures.pipe) is.pipes)
    c.take_all.ensures.keeps c.take_all.ensures.known

pub returns-clause-turns : goal.returns-clause-turns
returns-clause-turns g c =
    let ways = g.row.WAYS in
    let fresh = c.in-Ok.fresh in
    let packets = words_of c.args.trace.packets in
    if_ok_two (KeepsNetwork fresh) (MakesTurns ways c.args.setting.lag [] packets fresh)
    (λ (found : NetworkView). (first : NetworkView) × (first.switches ≡ 0) × NetworkStands ways first []
    × MakesTurns ways c.args.setting.lag [] packets first found) c.take_all.result
    (λ found keeps turns. (fresh, c.in-Ok.ensures.switches, c.in-Ok.ensures.stands, turns)) c.take_all.ensures.keeps
    c.take_all.ensures.turns
