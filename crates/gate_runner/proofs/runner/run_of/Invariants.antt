use Rattle.gate_runner.proofs.runner.run_of.Given as goal

-- the passes are of the table that has the slots of declared tags
abbrev pub ghosts-run_over : goal.ghosts-run_over
ghosts-run_over g a = record { table = a.tags }
