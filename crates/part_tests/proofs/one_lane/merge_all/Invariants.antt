use Rattle.std.proofs.Common.{◌≡◌}
use Rattle.part_tests.proofs.one_lane.merge_all.Given as goal

-- the lane's keys still have one word
abbrev pub invariant-loop-record : goal.invariant-loop-record
invariant-loop-record g l = l.lane.cache.key_words ≡ 1
