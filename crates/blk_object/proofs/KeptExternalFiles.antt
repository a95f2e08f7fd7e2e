-- A creation adds an external file, and a deletion removes one.
use Rattle.std.proofs.Common.{◌≡◌, ℕ, [], ◌∷◌, ap, sym, ◌∙◌, subst, arith, true}
use Rattle.std.specs.Prelude.{◌==◌, is_some}
use Rattle.std.specs.Option.{option_map}
use Rattle.std.proofs.lemmas.Bool.Decides.{nat_tests}
use Rattle.spec_image.specs.Bytes.{word_bytes}
use Rattle.spec_image.specs.Footprint.{SameOutside, either, one_word, whole}
use Rattle.spec_image.specs.Image.{External, Image, Index, has_file}
use Rattle.spec_image.specs.Steps.{SetLength, Word, after, applied, word_step}
use Rattle.spec_image.proofs.Footprints.{outside-trans, outside_step, outside_wider, within_left, within_right}
use Rattle.spec_image.proofs.Runs.{passes_end, passes_weaker, some_inj}
use Rattle.spec_format.specs.Address.{external, external_number, is_address, kind_of}
use Rattle.spec_format.specs.BlockFiles.{stands_in}
use Rattle.spec_format.specs.Standing.{stands}
use Rattle.blk_external.specs.Changes.{ChangesExternal}
use Rattle.blk_external.specs.Making.{CreatesInProgress, making}
use Rattle.blk_external.specs.Numbers.{named_file}
use Rattle.law_state.specs.Changes.{StillFinds}
use Rattle.law_state.proofs.Externals.{deleted-removed, deleting-finds, made-added, making-finds}
use Rattle.blk_object.specs.KeptExternalFiles.{CreationsAdd, CreationsFindTheSame, DeletionsFindTheSame, DeletionsRemove}

-- ---- create

pub creations-find : CreationsFindTheSame
creations-find old new free passes from there = passes_weaker (passes from there (free from there)) finds finds where
  finds : (image : Image) → CreatesInProgress from image → StillFinds [] from image
  finds image c = making-finds from image c.number (record { small = let n = c.first.number in omega (arith, n.1); absent = c.first.free; same = c.same })

made-outside : (n : ℕ) (from : Image) → SameOutside (either (whole (External n)) (one_word Index 16)) from (after (making n) from)
unfolding word_step
made-outside n from =
    let empty : Image = applied (SetLength (External n) 0) from in
    let made : Image = applied (Word Index 16 (word_bytes n)) empty in
    outside-trans (either (whole (External n)) (one_word Index 16)) from empty made
    (outside_wider (whole (External n)) (either (whole (External n)) (one_word Index 16)) from empty (within_left (whole (External n)) (one_word Index 16)) (outside_step (SetLength (External n) 0) from))
    (outside_wider (one_word Index 16) (either (whole (External n)) (one_word Index 16)) empty made (within_right (whole (External n)) (one_word Index 16)) (outside_step (Word Index 16 (word_bytes n)) empty))

stands-there : (image : Image) (w : ℕ) → is_address w ≡ true → kind_of w ≡ external → has_file image (External (external_number w)) ≡ true → stands_in image w ≡ true
unfolding stands
stands-there image w address kind there = let t : (kind_of w == external) ≡ true = grind (arith, nat_tests) in rw (address, t) there

pub creations-add : CreationsAdd
creations-add w old new address kind well first made steps from there image is =
    let same : image ≡ after (making (external_number w)) from = some_inj (sym is ∙ steps.files ∙ ap (option_map (after (making (external_number w)))) there) in
    let f = first from there in
    let file : has_file image (External (external_number w)) ≡ true = ap is_some (made image is).file in
    made-added from image w (well from there) kind
    (record { small = let n = f.number in omega (arith, n.1); absent = f.free; same = subst (SameOutside (either (whole (External (external_number w))) (one_word Index 16)) from) (sym same) (made-outside (external_number w) from) })
    file (stands-there image w address kind file)

-- ---- delete

pub deletions-find : DeletionsFindTheSame
deletions-find w old new kind passes from there = passes_weaker (passes from there) finds finds where
  finds : (image : Image) → ChangesExternal (whole (named_file w)) (external_number w) from image → StillFinds (w ∷ []) from image
  finds image c = deleting-finds from image w kind c.outside

pub deletions-remove : DeletionsRemove
deletions-remove w old new kind well stood passes gone from there image is =
    deleted-removed from image w (well from there) kind (stood from there) (passes_end (passes from there) image is).outside (ap is_some (gone image is))
