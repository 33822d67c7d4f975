use Rattle.std.proofs.Common.{◌≡◌}
use Rattle.part_tests.proofs.one_lane.take_turns.Given as goal

-- the lane's keys still have one word
abbrev pub invariant-loop-key : goal.invariant-loop-key
invariant-loop-key g l = l.lane.cache.key_words ≡ 1
