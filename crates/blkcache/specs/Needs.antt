-- What the arguments of the command line need of the folder and of the output.
use Rattle.std.specs.Prelude.{Bool, true, false, Option, None, Some}
use Rattle.blk_args.specs.Tasks.{Task, do_put, do_doom, do_trim, do_inspect, do_verify}

-- the arguments read the folder and never write it, or are outside the grammar
abbrev pub only_reads : Option Task → Bool
only_reads None = true
only_reads (Some (do_inspect part)) = true
only_reads (Some do_verify) = true
only_reads (Some _) = false

-- the arguments print only after a change of the folder
abbrev pub changes_first : Option Task → Bool
changes_first (Some (do_put key stream)) = true
changes_first (Some (do_doom key)) = true
changes_first (Some (do_trim bytes)) = true
changes_first _ = false
