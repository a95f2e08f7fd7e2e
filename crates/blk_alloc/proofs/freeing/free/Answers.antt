use Rattle.std.proofs.Common.{◌≡◌, ◌⊎◌, ◌+◌, ◌≤◌, inl, inr, ℕ, false, None, sym, subst, arith, ⊎_elim}
use Rattle.std.proofs.lemmas.Result.{on_ok_weaker}
use Rattle.spec_image.specs.Image.{Image, Block, length_of}
use Rattle.spec_image.specs.Told.{PassesTo}
use Rattle.spec_image.proofs.Runs.{passes_weaker, passes_end}
use Rattle.spec_format.specs.Address.{file_selector, first_block, block_count}
use Rattle.blk_disk.specs.Tables.{Agrees}
use Rattle.blk_disk.proofs.Ranges.{stands_blocky, stands_linked}
use Rattle.blk_alloc.specs.Changes.{IsMapInProgress, CanChangeMarks, IsChanged, map_of}
use Rattle.std.specs.Option.{ForSome}
use Rattle.spec_image.specs.Footprint.{SameOutside}
use Rattle.spec_format.specs.BlockFiles.{max_entries_in, most_blocks}
use Rattle.blk_io.specs.Faults.{IfDamaged}
use Rattle.blk_alloc.specs.Owning.{FreesAtLast, FreesInProgress, IsCause}
use Rattle.blk_io.proofs.Carried.{if_damaged_weaker, told_at_end}
use Rattle.blk_alloc.proofs.Formed.{agrees_kept}
use Rattle.blk_alloc.proofs.Freed.{free_ready, frees_whole, freed_is, standing_blocks}
use Rattle.blk_disk.proofs.WholeHeaders.{all_head}
use Rattle.blk_alloc.specs.Marking.{KeepsHints}
use Rattle.blk_alloc.proofs.Hints.{map_keeps}
use Rattle.blk_alloc.proofs.freeing.free.Goals as goal

pub blocks_of-blocks-requires : goal.blocks_of-blocks-requires
blocks_of-blocks-requires g c = stands_blocky c.args.files.now c.args.addr c.requires.stands

-- a fact on the blocks of the address is one on those that were read from it
moved : (P : ℕ → ℕ → ℕ → Type 0) (w n s k : ℕ) → n ≡ file_selector w → s ≡ first_block w → k ≡ block_count w → P (file_selector w) (first_block w) (block_count w) → P n s k
moved P w n s k e1 e2 e3 holds =
    subst (λ (x : ℕ). P x s k) (sym e1) (subst (λ (y : ℕ). P (file_selector w) y k) (sym e2) (subst (λ (z : ℕ). P (file_selector w) (first_block w) z) (sym e3) holds))

back : (P : ℕ → ℕ → ℕ → Type 0) (w n s k : ℕ) → n ≡ file_selector w → s ≡ first_block w → k ≡ block_count w → P n s k → P (file_selector w) (first_block w) (block_count w)
back P w n s k e1 e2 e3 holds = subst (λ (z : ℕ). P (file_selector w) (first_block w) z) e3 (subst (λ (y : ℕ). P (file_selector w) y k) e2 (subst (λ (x : ℕ). P x s k) e1 holds))

-- what is asked of the change of marks
fits_most : (s k max : ℕ) → s + k ≤ max → max ≤ 64896 → s + k ≤ 64896
fits_most s k max below most = omega (arith, below, most)

pub read_and_change-requires-clause-header : goal.read_and_change-requires-clause-header
read_and_change-requires-clause-header g c image there =
    let b = c.blocks_of-blocks in
    moved (λ n s k. 8192 ≤ length_of image (Block n)) c.args.addr b.result.file b.result.start b.result.count b.ensures.file b.ensures.start b.ensures.count
    (all_head c.args.files.now image (file_selector c.args.addr) (c.requires.agrees image there) (stands_linked c.args.files.now c.args.addr c.requires.stands)).header

pub read_and_change-requires-clause-inside : goal.read_and_change-requires-clause-inside
read_and_change-requires-clause-inside g c image there =
    let b = c.blocks_of-blocks in
    let has = standing_blocks c.args.files.now image c.args.addr (c.requires.agrees image there) c.requires.stands in
    moved (λ n s k. s + k ≤ most_blocks) c.args.addr b.result.file b.result.start b.result.count b.ensures.file b.ensures.start b.ensures.count
    (fits_most (first_block c.args.addr) (block_count c.args.addr) (max_entries_in image (file_selector c.args.addr)) has.below has.most)

pub returns-clause-freed : goal.returns-clause-freed
returns-clause-freed g c =
    let b = c.blocks_of-blocks in
    on_ok_weaker c.read_and_change.result
    (λ changed from there image now. freed_is from image c.args.addr (stands_blocky c.args.files.now c.args.addr c.requires.stands) (standing_blocks c.args.files.now from c.args.addr (c.requires.agrees from there) c.requires.stands)
    (back (λ n s k. IsChanged from n s k false image) c.args.addr b.result.file b.result.start b.result.count b.ensures.file b.ensures.start b.ensures.count (changed from there image now)))
    c.read_and_change.ensures.changed

pub returns-clause-stops : goal.returns-clause-stops
returns-clause-stops g c from there =
    let b = c.blocks_of-blocks in
    let w = c.args.addr in
    let stops : PassesTo (g.F.Folder.told c.args.f.now) (g.F.Folder.told c.read_and_change.new.folder) (IsMapInProgress (file_selector w) from) (λ image. IsMapInProgress (file_selector w) from image ⊎ IsChanged from (file_selector w) (first_block w) (block_count w) false image) =
    back (λ n s k. PassesTo (g.F.Folder.told c.args.f.now) (g.F.Folder.told c.read_and_change.new.folder) (IsMapInProgress n from) (λ image. IsMapInProgress n from image ⊎ IsChanged from n s k false image)) w b.result.file b.result.start b.result.count b.ensures.file b.ensures.start b.ensures.count (c.read_and_change.ensures.stops from there) in
    let midst : (image : Image) → IsMapInProgress (file_selector w) from image → FreesInProgress w from image = λ image is. record { marks = is; stays = frees_whole from image w is.same } in
    let last : (image : Image) → IsChanged from (file_selector w) (first_block w) (block_count w) false image → FreesAtLast w from image = λ image is. record { freed = freed_is from image w (stands_blocky c.args.files.now w c.requires.stands) (standing_blocks c.args.files.now from w (c.requires.agrees from there) c.requires.stands) is; stays = frees_whole from image w is.same } in
    passes_weaker stops midst (λ image. ⊎_elim (λ is. inl (midst image is)) (λ is. inr (last image is)))

pub returns-clause-agrees : goal.returns-clause-agrees
returns-clause-agrees g c =
    let b = c.blocks_of-blocks in
    told_at_end (g.F.Folder.told c.args.f.now).files (g.F.Folder.told c.read_and_change.new.folder).files (Agrees c.args.files.now) c.read_and_change.ensures.writes.silent
    (λ from there. let keeps : (i : Image) → SameOutside (map_of b.result.file) from i → Agrees c.args.files.now i = λ i same. agrees_kept b.result.file from i same c.args.files.now (c.requires.agrees from there) in
    passes_end (passes_weaker (c.read_and_change.ensures.stops from there) (λ i midst. keeps i midst.same) (λ i. ⊎_elim (λ midst. keeps i midst.same) (λ changed. keeps i changed.same))))

pub returns-clause-untold : goal.returns-clause-untold
returns-clause-untold g c may =
    let b = c.blocks_of-blocks in
    if_damaged_weaker c.read_and_change.result (λ _. ForSome (g.F.Folder.told c.args.f.now).files (λ image. CanChangeMarks image b.result.file b.result.start b.result.count false) → (g.F.Folder.told c.args.f.now).files ≡ None) (λ _. (g.F.Folder.told c.args.f.now).files ≡ None)
    (λ damage none. none (λ from there. (moved (λ n s k. CanChangeMarks from n s k false) c.args.addr b.result.file b.result.start b.result.count b.ensures.file b.ensures.start b.ensures.count
    (free_ready from c.args.addr (stands_blocky c.args.files.now c.args.addr c.requires.stands) (c.requires.agrees from there).undamaged (may from there))))) c.read_and_change.ensures.untold

pub returns-clause-cause : goal.returns-clause-cause
returns-clause-cause g c =
    let b = c.blocks_of-blocks in
    back (λ n s k. IfDamaged c.read_and_change.result (IsCause (g.F.Folder.told c.args.f.now) n s k false)) c.args.addr b.result.file b.result.start b.result.count b.ensures.file b.ensures.start b.ensures.count c.read_and_change.ensures.cause

pub returns-clause-hints : goal.returns-clause-hints
returns-clause-hints g c from there =
    let b = c.blocks_of-blocks in
    let keeps : (i : Image) → SameOutside (map_of b.result.file) from i → KeepsHints from i = λ i same. map_keeps b.result.file from i same in
    passes_end (passes_weaker (c.read_and_change.ensures.stops from there) (λ i midst. keeps i midst.same) (λ i. ⊎_elim (λ midst. keeps i midst.same) (λ changed. keeps i changed.same)))
