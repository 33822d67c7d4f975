use Rattle.tools_tests.proofs.calls.called_failing.Given as goal

abbrev pub ghosts-call_under : goal.ghosts-call_under
ghosts-call_under g = record { name = g.blank.name; parts = g.blank.parts }
