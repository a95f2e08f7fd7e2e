-- Each word that is written into the list keeps the index's length and what is kept of the block files.
use Rattle.std.proofs.Common.{ℕ, ◌+◌, List, [], ◌∷◌, length, refl, ◌∙◌}
use Rattle.spec_image.specs.Bytes.{word_bytes}
use Rattle.spec_image.specs.Image.{File, Index, Block, Image}
use Rattle.spec_image.specs.Footprint.{range}
use Rattle.spec_image.specs.Steps.{Word, applied, after, word_step, word_steps}
use Rattle.spec_image.specs.Told.{Along}
use Rattle.spec_image.proofs.Footprints.{outside_write}
use Rattle.spec_image.proofs.Images.{length-after_write}
use Rattle.spec_image.proofs.Runs.{until-append, until_last}
use Rattle.spec_format.specs.Address.{file_selector, place}
use Rattle.spec_format.specs.Sealed.{placed, seal_place, new_seal, sealed_steps, update_steps, update_words}
use Rattle.spec_format.proofs.SpareHeaders.{SparesHeaders, blocks_spare}
use Rattle.spec_folder.specs.ListView.{ListWrite, Next, Prev, Head, Tail, Transaction, Operation}
use Rattle.spec_folder.specs.ListSteps.{steps_of_writes, write_steps}
use Rattle.blk_record.specs.declared.index_head.TheConstants.IndexHead as IndexHead
use Rattle.blk_record.specs.declared.node.TheConstants.NodeView as NodeView
use Rattle.blk_disk.proofs.Agreeing.{agrees_still}
use Rattle.blk_disk.specs.declared.tables.BlockFiles.{BlockFiles}
use Rattle.blk_disk.specs.Open.{IsOpen}

module _ (files : BlockFiles) where
  kept_word : (file : File) (at : ℕ) (bytes : List ℕ) (image : Image) → SparesHeaders (range file at (length bytes)) → IsOpen files image → IsOpen files (applied (Word file at bytes) image)
  kept_word file at bytes image spares kept = record {
    whole_index = length-after_write image file Index at bytes ∙ kept.whole_index;
    agrees = agrees_still (range file at (length bytes)) image (applied (Word file at bytes) image) spares (outside_write file at bytes image) files (λ n. refl) kept.agrees;
  }

  kept_index : (at x : ℕ) (image : Image) → IsOpen files image → Along (IsOpen files) image (word_step Index at x)
  unfolding word_step
  kept_index at x image kept = (kept, kept_word Index at (word_bytes x) image (record { bytes = λ n i small. refl }) kept)

  kept_words : (w : ℕ) (words : List (ℕ × ℕ)) (image : Image) → IsOpen files image → Along (IsOpen files) image (word_steps (Block (file_selector w)) (placed (place w) words))
  unfolding word_step
  kept_words w [] image kept = kept
  kept_words w (word ∷ words) image kept = (
    kept,
    kept_words w words (applied (Word (Block (file_selector w)) (place w + word.0) (word_bytes word.1)) image)
        (kept_word (Block (file_selector w)) (place w + word.0) (word_bytes word.1) image (blocks_spare (Block (file_selector w)) w word.0 (length (word_bytes word.1))) kept),
  )

  kept_update : (w : ℕ) (changes : List (ℕ × ℕ)) (seal : ℕ) (image : Image) → IsOpen files image → Along (IsOpen files) image (update_steps w changes seal)
  unfolding update_steps
  kept_update w changes seal image kept = kept_words w (update_words (seal_place w) changes seal) image kept

  -- an update of a record under a checksum 0
  pub kept_sealed : (w : ℕ) (changes : List (ℕ × ℕ)) (image : Image) → IsOpen files image → Along (IsOpen files) image (sealed_steps image w changes)
  kept_sealed w changes image kept = kept_update w changes (new_seal image w changes) image kept

  kept_write : (write : ListWrite) (image : Image) → IsOpen files image → Along (IsOpen files) image (write_steps write image)
  unfolding write_steps
  kept_write (Next w x) image kept = kept_sealed w ((NodeView.NEXT, x) ∷ []) image kept
  kept_write (Prev w x) image kept = kept_sealed w ((NodeView.PREV, x) ∷ []) image kept
  kept_write (Head x) image kept = kept_index IndexHead.HEADS x image kept
  kept_write (Tail x) image kept = kept_index IndexHead.TAILS x image kept
  kept_write (Transaction x) image kept = kept_index IndexHead.TRANSACTION x image kept
  kept_write (Operation x) image kept = kept_index IndexHead.OPERATION x image kept

  -- writes of the list
  pub kept_writes : (writes : List ListWrite) (image : Image) → IsOpen files image → Along (IsOpen files) image (steps_of_writes writes image)
  kept_writes [] image kept = kept
  kept_writes (write ∷ writes) image kept =
      until-append (IsOpen files) (IsOpen files) (write_steps write image) (steps_of_writes writes (after (write_steps write image) image)) image (kept_write write image kept)
      (kept_writes writes (after (write_steps write image) image) (until_last (IsOpen files) (IsOpen files) (write_steps write image) image (kept_write write image kept)))
