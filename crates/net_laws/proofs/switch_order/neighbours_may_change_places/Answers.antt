use Rattle.net_laws.proofs.Neighbours.{swapped_same, swapped_whole}
use Rattle.net_laws.proofs.switch_order.neighbours_may_change_places.Goals as goal

pub returns : goal.returns
returns c = λ text q buckets ways front back a b e none whole apart. c.switch_order_is_free.ensures _ q _ _ _ _ e none whole
    (swapped_whole _ _ a b whole) (swapped_same _ _ a b apart)
