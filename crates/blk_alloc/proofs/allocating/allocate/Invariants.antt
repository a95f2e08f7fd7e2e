use Rattle.blk_alloc.proofs.allocating.allocate.Given as goal

abbrev pub ghosts-allocate_from : goal.ghosts-allocate_from
ghosts-allocate_from g a = record { name = a.blank.name; parts = a.blank.parts }
