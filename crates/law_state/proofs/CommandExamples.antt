-- The laws of commands speak of something: two objects, `a` and `b`, are opened, read, written, doomed, closed and evicted, computed.
use Rattle.std.proofs.Common.{◌≡◌, [], ◌∷◌, Some, true, false, refl, arith}
use Rattle.std.specs.Prelude.{filter, not, slice_set, None}
use Rattle.blk_model.specs.Items.{IsBytes, main, part, same_item, sparse}
use Rattle.blk_model.specs.State.{IsValidState, Object, State}
use Rattle.blk_model.specs.Effects.{created, doomed, new_object, used, with_slot}
use Rattle.blk_model.specs.Holding.{rest}
use Rattle.blk_model.specs.Request.{to_close, to_create, to_doom, to_open, to_read, to_sparse_write, to_trim, to_write}
use Rattle.blk_model.specs.Room.{single, whole, without}
use Rattle.blk_model.specs.Sparse.{empty_part, part_after}
use Rattle.spec_folder.specs.Creation.{with_first}
use Rattle.blk_model.specs.Step.{step}
use Rattle.blk_model.proofs.Computing.{computing}
use Rattle.blk_model.proofs.PartValues.{empty_part_is}
use Rattle.blk_model.proofs.Steps.{step_valid}
use Rattle.blk_model.proofs.StopRows.{a, a_goes_first, b, c, codes_are_bytes, pair, pair_is_valid}
use Rattle.law_folder.specs.CommandLaws.{marked}
use Rattle.law_state.specs.CommandStates.{IsLastHandle, MayLeave, Unsettles, amidst, in_order, with_names, with_room}
use Rattle.law_state.specs.CommandEnds.{IsNamedBy, without_part}
use Rattle.law_state.specs.PartStates.{with_value}
use Rattle.law_state.proofs.CommandEnding.{closes-doomed, closes-free, closes-left, creates-left, dooms-left, empty-sparse-writes-end, only-uses-left, opens-left, sparse-writes-unsettle, trims-left, writes-unsettle}
use Rattle.law_state.proofs.GroupsGone.{parts-go-alone, whole-groups-go}
use Rattle.law_state.proofs.PartChanges.{new-parts-keep-valid}
use Rattle.law_state.specs.RemovalLaws.{IsWithout}
use Rattle.law_state.proofs.PlainRemovals.{part-gone-without}
use Rattle.law_state.proofs.Unsettling.{doomed-left, unsettled-left}

a_bytes : IsBytes a
a_bytes = codes_are_bytes a (omega arith, tt)

c_bytes : IsBytes c
c_bytes = codes_are_bytes c (omega arith, tt)

-- `a` is open
abbrev reading : State
reading = (step pair 100 (to_open 5 a)).state

reading_is_valid : IsValidState reading
reading_is_valid = step_valid pair 100 (to_open 5 a) pair_is_valid (omega arith, a_bytes)

abbrev opened_object : Object
opened_object = record (new_object a) { settled = true }

-- the durable contents with `a` in front are a crash outcome of the Open
opened_left : MayLeave pair 100 (to_open 5 a) (rest (in_order (used (main a) pair.uses) pair))
opened_left = opens-left pair 100 5 a pair_is_valid (unfold computing in refl)

-- both orders are crash outcomes of a Read of `a`
read_left : MayLeave reading 100 (to_read 5 0 0 1) (rest (in_order (used (main a) reading.uses) reading))
read_left = only-uses-left reading 100 (to_read 5 0 0 1) (main a ∷ []) [] reading_is_valid tt (unfold computing in refl) (unfold computing in refl)

-- a new object is made beside them
created_left : MayLeave pair 100 (to_create 6 c) (rest (created 7 c (with_room pair 100 (to_create 6 c))))
created_left = creates-left pair 100 6 7 c pair_is_valid (omega arith, c_bytes) (unfold computing in refl)

-- a Write makes `a` dirty, and so does a SparseWrite
write_names : IsNamedBy reading 100 (to_write 5 0 0 false c) 5 0 opened_object
unfolding computing
write_names = record { affected = record { passes = refl; here = refl; live = refl }; names = refl }

sparse_write_names : IsNamedBy reading 100 (to_sparse_write 5 0 c) 5 0 opened_object
unfolding computing
sparse_write_names = record { affected = record { passes = refl; here = refl; live = refl }; names = refl }

written_unsettles : Unsettles reading 100 (to_write 5 0 0 false c) 0 opened_object
written_unsettles = writes-unsettle reading 100 5 0 0 false c 0 opened_object write_names

sparse_written_unsettles : Unsettles reading 100 (to_sparse_write 5 0 c) 0 opened_object
sparse_written_unsettles = sparse-writes-unsettle reading 100 5 0 99 [] 0 opened_object sparse_write_names

-- a SparseWrite of no bytes accesses the main item of `a` alone
empty_write_names : IsNamedBy reading 100 (to_sparse_write 5 0 []) 5 0 opened_object
unfolding computing
empty_write_names = record { affected = record { passes = refl; here = refl; live = refl }; names = refl }

empty_write_ends : (step reading 100 (to_sparse_write 5 0 [])).state ≡ in_order (used (main a) (with_room reading 100 (to_sparse_write 5 0 [])).uses) (with_room reading 100 (to_sparse_write 5 0 []))
empty_write_ends = empty-sparse-writes-end reading 100 5 0 0 opened_object empty_write_names

-- whatever `a` becomes once it is dirty, the durable contents of the others are a crash outcome
abbrev changed : Object
changed = record opened_object { streams = (c, c, c); settled = false }

changed_left : MayLeave reading 100 (to_write 5 0 0 false c) (rest (amidst (with_room reading 100 (to_write 5 0 0 false c)) 0 changed reading.uses))
unfolding computing
changed_left = unsettled-left reading 100 (to_write 5 0 0 false c) 0 opened_object reading_is_valid written_unsettles changed reading.uses (record { key_is = refl; live = refl; unsettled = refl }) refl

-- a new object is closed: its last handle makes it clean
abbrev making : State
making = (step pair 100 (to_create 6 c)).state

making_is_valid : IsValidState making
making_is_valid = step_valid pair 100 (to_create 6 c) pair_is_valid (omega arith, c_bytes)

last_of_c : IsLastHandle making 6 2 (new_object c)
unfolding computing
last_of_c = record { names = refl; here = refl; live = refl; last = refl }

closed_left : MayLeave making 100 (to_close 6) (rest (marked making 2 (new_object c) true))
closed_left = closes-left making 100 6 2 (new_object c) making_is_valid (omega arith) last_of_c

-- of two handles one is freed
abbrev shared : State
shared = (step reading 100 (to_open 6 a)).state

shared_is_valid : IsValidState shared
shared_is_valid = step_valid reading 100 (to_open 6 a) reading_is_valid (omega arith, a_bytes)

one_of_two : (step shared 100 (to_close 5)).state ≡ with_names (slice_set shared.names 5 None) shared
one_of_two = closes-free shared 100 5 0 shared_is_valid (unfold computing in refl) (unfold computing in refl)

-- `a` is doomed, written as a doomed object, and closed
doomed_left : MayLeave reading 100 (to_doom 5) (rest (doomed 0 reading (Some opened_object)))
doomed_left = dooms-left reading 100 (to_doom 5) 0 opened_object reading_is_valid (omega arith) (unfold computing in refl) (unfold computing in refl) (unfold computing in refl)

abbrev dooming : State
dooming = (step reading 100 (to_doom 5)).state

dooming_is_valid : IsValidState dooming
dooming_is_valid = step_valid reading 100 (to_doom 5) reading_is_valid (omega arith)

doomed_written_left : MayLeave dooming 100 (to_write 5 0 0 false c) (rest (with_slot 0 None (with_room dooming 100 (to_write 5 0 0 false c))))
doomed_written_left = doomed-left dooming 100 (to_write 5 0 0 false c) 0 (record opened_object { live = false }) None dooming_is_valid (unfold computing in refl) (unfold computing in refl) (unfold computing in refl) refl

doomed_closes : (step dooming 100 (to_close 5)).state ≡ with_names (slice_set dooming.names 5 None) (with_slot 0 None dooming)
doomed_closes = closes-doomed dooming 100 5 0 (record opened_object { live = false }) dooming_is_valid (unfold computing in refl) (unfold computing in refl) (unfold computing in refl) (unfold computing in refl)

-- `a` is evicted as it would be doomed
trimmed_left : MayLeave pair 100 (to_trim 0) (rest (without (whole a [] ∷ []) pair))
trimmed_left = trims-left pair 100 0 (whole a [] ∷ []) (whole b [] ∷ []) pair_is_valid a_goes_first.groups

gone_as_doomed : without (whole a [] ∷ []) pair ≡ doomed 0 pair (Some opened_object)
gone_as_doomed = whole-groups-go pair 0 opened_object [] pair_is_valid (unfold computing in refl) (unfold computing in refl) (unfold computing in refl)

-- one part of a sparse object is evicted alone
abbrev sparsely : State
sparsely = (step reading 100 (to_sparse_write 5 0 c)).state

sparsely_is_valid : IsValidState sparsely
sparsely_is_valid = step_valid reading 100 (to_sparse_write 5 0 c) reading_is_valid (omega arith, omega arith, c_bytes)

abbrev sparse_object : Object
sparse_object = record (new_object a) { shape = sparse 100; parts = (0, part_after empty_part 0 c) ∷ [] }

its_part_goes : without (single a 0 ∷ []) sparsely ≡ in_order (filter (λ item. not (same_item (part a 0) item)) sparsely.uses) (with_slot 0 (Some (without_part sparse_object 0)) sparsely)
unfolding computing
its_part_goes = parts-go-alone sparsely 0 sparse_object 0 sparsely_is_valid refl refl

-- the sparse object may have another part
another_part : IsValidState (with_first sparsely (slice_set sparsely.objects 0 (Some (with_value sparse_object 1 empty_part))) (part a 1))
unfolding computing
another_part = new-parts-keep-valid sparsely sparsely_is_valid 0 sparse_object refl (record { key_is = refl; live = refl; unsettled = refl }) refl 1 empty_part (omega arith) empty_part_is refl

-- without part 0 the state has that item less
lacks_part : IsWithout sparsely (slice_set sparsely.objects 0 (Some (without_part sparse_object 0))) (λ item. not (same_item item (part a 0))) (part a 0)
lacks_part = (part-gone-without sparsely 0 0 sparse_object sparsely_is_valid (unfold computing in refl) refl (unfold computing in refl)).0
