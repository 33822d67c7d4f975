use Rattle.marple_tests.proofs.count.a_run_counts_the_steps_of_its_events.Given as goal

abbrev pub ghosts-steps_of_the_events : goal.ghosts-steps_of_the_events
ghosts-steps_of_the_events g a = record { name = a.blank.name; parts = a.blank.parts }
