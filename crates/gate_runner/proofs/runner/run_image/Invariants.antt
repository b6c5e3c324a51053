use Rattle.gate_runner.proofs.runner.run_image.Given as goal

-- the run is of this image, and its logs keep no entries on so many slots
abbrev pub ghosts-run_of : goal.ghosts-run_of
ghosts-run_of g a = record { image = a.image.now; unkept = a.unkept }
