use Rattle.tools_tests.proofs.splits.split.Given as goal

abbrev pub ghosts-split_under : goal.ghosts-split_under
ghosts-split_under g a = record { name = a.blank.name; parts = a.blank.parts }
