-- Small runs of the generator, computed.
use Rattle.std.proofs.Common.{◌≡◌, ℕ, List, [], ◌∷◌, codes, refl, false}
use Rattle.blk_model.proofs.Computing.{computing}
use Rattle.blk_model.specs.Items.{Row, main_row, plain}
use Rattle.blk_model.specs.State.{Bounds}
use Rattle.blk_io.specs.Streams.{Readings}
use Rattle.spec_run.specs.Run.{Run, run_of, turns, text_of, refuse}
use Rattle.blk_gen.specs.Generator.{gen_script, turns_script}

abbrev limits : ℕ → ℕ → Bounds
limits bytes items = record { max_bytes = bytes; max_items = items }

abbrev clock : Readings
clock = record { ahead = 40 ∷ 50 ∷ []; last = 100 }

-- so many iterations of the seed 0, on a folder with these rows
abbrev run : ℕ → List Row → Bounds → Run
run count found bounds = run_of (gen_script 0 count) found bounds clock

-- an entry without data
abbrev bare : List ℕ → Row
bare key = main_row key plain ([], [], [])

-- no iteration, on an empty folder
no_turn : text_of (run 0 [] (limits 83886080 65536)).turns ≡ codes "commands 0 refused 0 evicted 0 read 0\nitems 0 bytes 0\n"
unfolding computing turns turns_script
no_turn = refl

-- one iteration: the object is missing, and is made
one_turn : text_of (run 1 [] (limits 83886080 65536)).turns ≡ codes "commands 5 refused 1 evicted 0 read 16945\nitems 1 bytes 16949\n"
unfolding computing turns turns_script
one_turn = refl

-- its refusal doesn't count for the run
one_turn_counts : refuse (run 1 [] (limits 83886080 65536)).turns ≡ false
unfolding computing turns turns_script
one_turn_counts = refl

-- the object is there
opened_turn : text_of (run 1 (bare (codes "k807") ∷ []) (limits 83886080 65536)).turns ≡ codes "commands 4 refused 0 evicted 0 read 16945\nitems 1 bytes 16949\n"
unfolding computing turns turns_script
opened_turn = refl

-- another one is evicted for it
evicting_turn : text_of (run 1 (bare (codes "other") ∷ []) (limits 83886080 1)).turns ≡ codes "commands 5 refused 1 evicted 1 read 16945\nitems 1 bytes 16949\n"
unfolding computing turns turns_script
evicting_turn = refl

-- a Write that is refused ends no iteration
refused_write : text_of (run 1 [] (limits 1000 10)).turns ≡ codes "commands 5 refused 2 evicted 0 read 0\nitems 1 bytes 4\n"
unfolding computing turns turns_script
refused_write = refl

-- a Create that is refused ends its iteration
refused_create : text_of (run 1 [] (limits 3 10)).turns ≡ codes "commands 2 refused 2 evicted 0 read 0\nitems 0 bytes 0\n"
unfolding computing turns turns_script
refused_create = refl
