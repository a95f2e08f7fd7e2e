-- What holds at each word while space is made and blocks are marked.
use Rattle.std.proofs.Common.{◌≡◌, ℕ, ◌≤◌, ◌<◌, Bool, true, false, ◌&&◌, ◌||◌, nat_le, nat_lt, refl, ◌⊎◌, inl, inr, arith, subst, ⊎_elim}
use Rattle.std.specs.List.{All}
use Rattle.std.proofs.lemmas.Bool.Decides.{nat_tests}
use Rattle.spec_image.specs.Image.{Block, Image, byte, same_file}
use Rattle.spec_image.specs.Footprint.{SameOutside, either}
use Rattle.spec_image.proofs.Footprints.{outside-refl, same_word_outside}
use Rattle.spec_format.specs.Growth.{StaysWhole, StaysWholeOutside}
use Rattle.spec_format.specs.Headers.{allocations_of}
use Rattle.spec_format.proofs.Growths.{whole_not, whole_then}
use Rattle.blk_disk.specs.declared.tables.BlockFiles.{BlockFiles}
use Rattle.blk_disk.specs.Tables.{files_of}
use Rattle.blk_disk.specs.Growth.{addition_of, free_number, growth_of}
use Rattle.blk_alloc.specs.Extending.{HasMostBlocks, IsFirstGrowing}
use Rattle.blk_alloc.specs.Marking.{MarksUsed, MarksUsedInProgress, taking_of}
use Rattle.blk_alloc.specs.Allocating.{Allocates, ExtendsAnd, ExtendsAndAllocates, ExtendsInProgress, IsAddedPlace, IsGrownPlace, MakesRoomInProgress, updating_word}
use Rattle.blk_alloc.specs.declared.blocks.Blocks.{Blocks}
use Rattle.spec_format.specs.Address.{block_word, file_selector}
use Rattle.blk_alloc.proofs.Staying.{taking_whole}
use Rattle.blk_alloc.proofs.Taken.{quiet_of}
use Rattle.blk_alloc.proofs.Rooms.{room_added, room_begun, room_grown, room_marked}

-- a file grows
pub grown_moment : (files : BlockFiles) (kind n : ℕ) (from : Image) → IsFirstGrowing files (files_of files kind) n → (image : Image) → StaysWholeOutside (growth_of n) from image → MakesRoomInProgress files kind from image
grown_moment files kind n from first image whole = record { file = n; within = room_grown files kind n from image first whole.outside; stays = whole.stays }

-- a file is added, and grows
pub added_moment : (files : BlockFiles) (kind : ℕ) (from : Image) → All (HasMostBlocks files) (files_of files kind) → (image : Image) → StaysWholeOutside (either (addition_of files kind) (growth_of (free_number files))) from image → MakesRoomInProgress files kind from image
added_moment files kind from full image whole = record { file = free_number files; within = room_added files kind (free_number files) from image refl full whole.outside; stays = whole.stays }

-- nothing is written where all are full
pub no_moment : (files : BlockFiles) (kind : ℕ) (from : Image) → All (HasMostBlocks files) (files_of files kind) → MakesRoomInProgress files kind from from
no_moment files kind from full =
    added_moment files kind from full from (record { outside = outside-refl (either (addition_of files kind) (growth_of (free_number files))) from; stays = whole_not from })

-- a growth counts no allocation
pub grown_count : (n m : ℕ) (from image : Image) → SameOutside (growth_of n) from image → allocations_of (byte image (Block m)) ≡ allocations_of (byte from (Block m))
grown_count n m from image same = same_word_outside (growth_of n) from image (Block m) 16 same (λ k low high. spared (same_file (Block n) (Block m)) k low high)
  where
    spared : (t : Bool) (k : ℕ) → 16 ≤ k → k < 20 → (false || ((t && (nat_le 36 k && nat_lt k 40)) || (t && (nat_le 20 k && nat_lt k 24)))) ≡ false
    spared true k low high = grind (arith, nat_tests)
    spared false k low high = refl

-- space is made, and its blocks aren't marked yet
pub room_moment : (files : BlockFiles) (kind : ℕ) (from image : Image) → MakesRoomInProgress files kind from image → ExtendsInProgress files kind from image × StaysWhole from image
room_moment files kind from image room =
    (record { file = room.file; within = room_marked files kind room.file from image image room.within (outside-refl (taking_of room.file) image); updating = inr (room_begun files kind room.file from image image room.within (outside-refl (quiet_of room.file) image)) }, room.stays)

-- space was made, and its blocks are being marked
pub mark_moment : (files : BlockFiles) (kind n : ℕ) (from mid image : Image) → ExtendsAnd updating_word files kind from n mid → StaysWhole from mid → MarksUsedInProgress n mid image → ExtendsInProgress files kind from image × StaysWhole from image
mark_moment files kind n from mid image room stays marks = (
  record {
    file = n;
    within = room_marked files kind n from mid image room marks.same;
    updating = ⊎_elim (λ one. inl one) (λ begun. inr (room_begun files kind n from mid image room begun)) marks.updating;
  },
  whole_then from mid image stays (taking_whole n mid image marks.same marks.longer),
)

-- space was made, and its blocks are marked
pub marked_moment : (files new : BlockFiles) (kind count : ℕ) (place : Blocks) (from mid image : Image) → file_selector (block_word kind place.file place.start count) ≡ place.file → IsGrownPlace files kind count from place ⊎ IsAddedPlace files kind place → ExtendsAnd updating_word files kind from place.file mid → StaysWhole from mid
    → MarksUsed new mid (block_word kind place.file place.start count) image → Allocates files from (block_word kind place.file place.start count) image → ExtendsAndAllocates files kind count from image × StaysWhole from image
marked_moment files new kind count place from mid image file chosen room stays used allocates = (
  record {
    place = place;
    room = chosen;
    within = room_marked files kind place.file from mid image room (subst (λ (m : ℕ). SameOutside (taking_of m) mid image) file used.same);
    allocates = allocates;
  },
  whole_then from mid image stays (taking_whole (file_selector (block_word kind place.file place.start count)) mid image used.same used.longer),
)
