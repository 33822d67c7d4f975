use Rattle.marple_tests.proofs.call.called_after.Given as goal

abbrev pub ghosts-run : goal.ghosts-run
ghosts-run g = record { name = g.blank.name; parts = g.blank.parts }
