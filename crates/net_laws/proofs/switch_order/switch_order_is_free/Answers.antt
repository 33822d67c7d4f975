use Rattle.net_laws.proofs.switch_order.switch_order_is_free.Goals as goal

pub returns : goal.returns
returns c = λ text q buckets ways packets other e none whole other_whole same. c.switches_do_not_wait.ensures q _ _ _ _
    (c.accepted_are_valid.ensures _ q e) none (c.accepted_tell_switches.ensures _ q e) whole other_whole same
