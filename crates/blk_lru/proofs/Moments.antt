-- What holds at each word of an operation, from a prefix of its writes.
use Rattle.std.proofs.Common.{◌≡◌, ℕ, false, ◌<◌, List, refl, ap, ◌∙◌}
use Rattle.std.proofs.lemmas.Bool.{or_from}
use Rattle.spec_image.specs.Image.{File, Index, Block, Image}
use Rattle.spec_image.specs.Footprint.{Footprint, SameOutside, either}
use Rattle.spec_image.specs.Steps.{TrailStep}
use Rattle.spec_image.specs.Told.{Along}
use Rattle.spec_image.proofs.Runs.{until_weaker2}
use Rattle.spec_format.specs.Sealed.{record_range}
use Rattle.spec_folder.specs.ListView.{ListView, ListWrite}
use Rattle.spec_folder.specs.ListPlans.{CommitsAtTwo, completion_writes}
use Rattle.spec_folder.specs.Completion.{completed_list}
use Rattle.spec_folder.specs.Walk.{walk}
use Rattle.spec_folder.specs.View.{list_of}
use Rattle.spec_folder.specs.ListSteps.{IsPartly, IsTouched, touched_by_writes}
use Rattle.law_folder.proofs.lists.ListFootprints.{spare_record, spares_headers, spares_sizes}
use Rattle.law_folder.proofs.lists.WordStops.{partly-alike}
use Rattle.law_folder.proofs.lists.WriteSteps.{nothing_made}
use Rattle.blk_disk.proofs.Agreeing.{agrees_still}
use Rattle.blk_disk.specs.declared.tables.BlockFiles.{BlockFiles}
use Rattle.blk_lru.specs.Moments.{IsMidCompletion, IsMidOperation, IsMidTouch}
use Rattle.blk_disk.specs.Open.{IsOpen}

-- what is kept stays so where a footprint touches no header and no length
outside_keeps : (files : BlockFiles) (F : Footprint) (from image : Image) → ((n i : ℕ) → i < 8192 → F.bytes (Block n) i ≡ false) → ((file : File) → F.sizes file ≡ false) → SameOutside F from image → IsOpen files from → IsOpen files image
outside_keeps files F from image bytes sizes outside kept = record { whole_index = outside.lengths Index (sizes Index) ∙ kept.whole_index; agrees = agrees_still F from image (record { bytes = bytes }) outside files (λ n. sizes (Block n)) kept.agrees }

module _ (files : BlockFiles) (from : Image) (kept : IsOpen files from) (writes : List ListWrite) where
  partly_kept : (image : Image) → IsPartly from writes image → IsOpen files image
  partly_kept image partly = outside_keeps files (touched_by_writes writes) from image (λ n i small. (spares_headers writes).bytes n i small) (spares_sizes writes) partly.outside kept

  touched_kept : (node : ℕ) (image : Image) → IsTouched from node writes image → IsOpen files image
  touched_kept node image touched =
      outside_keeps files (either (touched_by_writes writes) (record_range node)) from image (λ n i small. or_from _ _ ((spares_headers writes).bytes n i small) (spare_record node n i small)) (λ file. or_from _ _ (spares_sizes writes file) refl) touched.outside kept

  -- an operation that commits at its second write
  module _ (old new : List ℕ) (commits : CommitsAtTwo (list_of from) writes old new) where
    pub mid_operation : (image : Image) → IsPartly from writes image → IsMidOperation files writes old new from image
    mid_operation image partly =
        let kept = partly_kept image partly in
        record { partly = partly; completes = ap (λ (l : ListView). walk (completed_list l)) partly.shown.list ∙ commits partly.made; is_open = kept }

    pub mid_touch : (node : ℕ) (image : Image) → IsTouched from node writes image → IsMidTouch files node writes old new from image
    mid_touch node image touched =
        let kept = touched_kept node image touched in
        record { partly = touched; completes = ap (λ (l : ListView). walk (completed_list l)) touched.shown.list ∙ commits touched.made; is_open = kept }

    -- before it, and along its steps
    pub before_operation : IsMidOperation files writes old new from from
    before_operation = mid_operation from (nothing_made writes from)

    pub along_operation : (steps : List TrailStep) → Along (IsPartly from writes) from steps → Along (IsMidOperation files writes old new from) from steps
    along_operation steps along = until_weaker2 (IsPartly from writes) (IsMidOperation files writes old new from) (IsPartly from writes) (IsMidOperation files writes old new from) steps from mid_operation mid_operation along

    pub along_touch : (node : ℕ) (steps : List TrailStep) → Along (IsTouched from node writes) from steps → Along (IsMidTouch files node writes old new from) from steps
    along_touch node steps along = until_weaker2 (IsTouched from node writes) (IsMidTouch files node writes old new from) (IsTouched from node writes) (IsMidTouch files node writes old new from) steps from (mid_touch node) (mid_touch node) along

-- a completion
module _ (files : BlockFiles) (from : Image) (kept : IsOpen files from) where
  mid_completion : (image : Image) → IsPartly from (completion_writes (list_of from)) image → IsMidCompletion files from image
  mid_completion image partly =
      let still = partly_kept files from kept (completion_writes (list_of from)) image partly in
      record { partly = partly; alike = partly-alike from image partly; is_open = still }

  pub before_completion : IsMidCompletion files from from
  before_completion = mid_completion from (nothing_made (completion_writes (list_of from)) from)

  pub along_completion : (steps : List TrailStep) → Along (IsPartly from (completion_writes (list_of from))) from steps → Along (IsMidCompletion files from) from steps
  along_completion steps along =
      let P : Image → Type 0 = IsPartly from (completion_writes (list_of from)) in
      until_weaker2 P (IsMidCompletion files from) P (IsMidCompletion files from) steps from mid_completion mid_completion along
