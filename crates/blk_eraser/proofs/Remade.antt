-- The zeros of recovery lie in what isn't kept.
use Rattle.std.proofs.Common.{◌≡◌, ℕ, ⊎_elim, Bool, true, false, not, List, [], ◌∷◌, Some, refl, sym, ◌∙◌, ap, subst}
use Rattle.std.specs.Prelude.{◌==◌}
use Rattle.std.specs.List.{flat_map}
use Rattle.std.proofs.lemmas.Bool.{and_parts, cases_Bool, eqb-true}
use Rattle.spec_image.specs.Bytes.{content, spliced, zeros}
use Rattle.spec_image.specs.Footprint.{Footprint, SameOutside}
use Rattle.spec_image.specs.Image.{Block, External, Image, byte, bytes_of, length_of}
use Rattle.spec_image.specs.Steps.{Delete, TrailStep, after, words}
use Rattle.spec_image.specs.Told.{Along}
use Rattle.spec_image.proofs.Runs.{until-append, until_last, until_weaker2}
use Rattle.spec_format.specs.BlockFiles.{linked_as}
use Rattle.spec_format.specs.Claims.{BlockOf, Claim, ExternalOf, claims_of_all, has_claim, same_claim}
use Rattle.spec_format.specs.Headers.{entry_size_of}
use Rattle.spec_format.specs.Maps.{is_block_marked, is_block_marked_at}
use Rattle.spec_format.proofs.Finished.{formed-kept, sound-of}
use Rattle.spec_folder.specs.Found.{kept}
use Rattle.spec_folder.specs.Loads.{claims_of_loaded}
use Rattle.spec_folder.specs.Sound.{words_of}
use Rattle.law_folder.proofs.claims.ByteChanges.{agreeing-views}
use Rattle.law_state.proofs.Writes.{external-writes}
use Rattle.law_recovery.specs.MendedChanges.{IsUnkept, KeepsMendedLinks}
use Rattle.law_recovery.specs.MendedLinks.{HasMendedLinks}
use Rattle.law_recovery.proofs.MendedChanges.{links-outside}
use Rattle.law_recovery.proofs.MendedParts.{words-claim}
use Rattle.blk_addr.specs.Claims.{IsClaimsOf}
use Rattle.blk_addr.specs.declared.claim_set.Claims.{Claims}
use Rattle.blk_alloc.specs.Rebuilding.{is_block_claimed}
use Rattle.blk_eraser.specs.Laws.{EachFreed}
use Rattle.blk_eraser.specs.Remade.{RemadeMapsMayErase, UnkeptFilesMayErase, WritesClaimedMarks}
use Rattle.blk_eraser.proofs.Leaving.{block_bytes, bytes_after}
use Rattle.blk_eraser.proofs.Promised.{not_true}
use Rattle.blk_eraser.proofs.Sizes.{size_of_kind}
use Rattle.blk_eraser.proofs.Unlinked.{freed, inside, of_blocks, only, said, steps}
use Rattle.blk_eraser.proofs.UnlinkedFiles.{Moment, written}

-- Blocks that lose their marks.

module _ (claims : Claims) (image : Image) (n place : ℕ) (new : List ℕ) (mended : HasMendedLinks image) (of : IsClaimsOf claims (flat_map words_of (kept image))) (writes : WritesClaimedMarks claims image n place new) where
  abbrev behind : ℕ → Bool
  behind b = is_block_marked_at (content (spliced place new (bytes_of image (Block n)))) b

  -- no block that is freed has an owner that is kept
  unclaimed : EachFreed (λ b. has_claim (claims_of_loaded (kept image)) (BlockOf n b) ≡ false) image n place new
  unclaimed b below e =
      let parts = and_parts (is_block_marked_at (content (bytes_of image (Block n))) b) (not (behind b)) e in
      let gone : is_block_marked (after (words (Block n) place new) image) n b ≡ false =
      ap (λ (l : List ℕ). is_block_marked_at (content l) b) (bytes_after image (Block n) place new) ∙ not_true (behind b) parts.1 in
      ⊎_elim
      (λ (same : is_block_marked (after (words (Block n) place new) image) n b ≡ is_block_marked image n b). absurd (let z : true ≡ false = sym parts.0 ∙ sym same ∙ gone in cc))
      (λ (claimed : is_block_marked (after (words (Block n) place new) image) n b ≡ is_block_claimed claims n b).
      let none : has_claim (claims_of_all (flat_map words_of (kept image))) (BlockOf n b) ≡ false = sym (of.claims (BlockOf n b)) ∙ sym claimed ∙ gone in
      sym (ap (λ (cs : List Claim). has_claim cs (BlockOf n b)) (words-claim image)) ∙ none)
      (writes b below)

  abbrev erased : Footprint
  erased = block_bytes n (entry_size_of (byte image (Block n))) (freed image n place new)

  unkept : IsUnkept image (of_blocks n (freed image n place new))
  unkept (ExternalOf m) claimed = refl
  unkept (BlockOf m b) claimed = ⊎_elim
      (λ (e : of_blocks n (freed image n place new) (BlockOf m b) ≡ true).
      let s = said image n place new (λ b. has_claim (claims_of_loaded (kept image)) (BlockOf n b) ≡ false) unclaimed m b e in
      let none : has_claim (claims_of_loaded (kept image)) (BlockOf m b) ≡ false = subst (λ (k : ℕ). has_claim (claims_of_loaded (kept image)) (BlockOf k b) ≡ false) s.0 s.1 in
      absurd (let z : true ≡ false = sym claimed ∙ none in cc))
      (λ (e : of_blocks n (freed image n place new) (BlockOf m b) ≡ false). e)
      (cases_Bool (of_blocks n (freed image n place new) (BlockOf m b)))

  keeps_at : (now : Image) → SameOutside erased image now → KeepsMendedLinks image now
  keeps_at now same =
      let sized = λ (kind : ℕ) (linked : linked_as image n ≡ Some kind). size_of_kind image kind n (sound-of image mended.well_formed) linked in
      let change = only n (entry_size_of (byte image (Block n))) (freed image n place new) image now same sized in
      links-outside (of_blocks n (freed image n place new)) image now mended (formed-kept image now change.well_formed mended.well_formed) (agreeing-views (of_blocks n (freed image n place new)) image now change.agree) unkept

pub remade_maps : RemadeMapsMayErase
remade_maps claims image n place new mended of writes =
    let P : Image → Type 0 = SameOutside (erased claims image n place new mended of writes) image in
    let Q : Image → Type 0 = KeepsMendedLinks image in
    until_weaker2 P Q P Q (steps image n place new) image (keeps_at claims image n place new mended of writes) (keeps_at claims image n place new mended of writes) (inside image n place new image)

-- External files.

module _ (image : Image) (n : ℕ) (mended : HasMendedLinks image) (none : has_claim (claims_of_loaded (kept image)) (ExternalOf n) ≡ false) where
  abbrev its : Claim → Bool
  its claim = same_claim claim (ExternalOf n)

  unkept_file : IsUnkept image its
  unkept_file (BlockOf m b) claimed = refl
  unkept_file (ExternalOf m) claimed = ⊎_elim
      (λ (e : (m == n) ≡ true).
      let there : has_claim (claims_of_loaded (kept image)) (ExternalOf n) ≡ true = subst (λ (k : ℕ). has_claim (claims_of_loaded (kept image)) (ExternalOf k) ≡ true) (eqb-true m n e) claimed in
      absurd (let z : true ≡ false = sym there ∙ none in cc))
      (λ (e : (m == n) ≡ false). e)
      (cases_Bool (m == n))

  keeps_file : (now : Image) → Moment image (External n) now → KeepsMendedLinks image now
  keeps_file now moment =
      let change = external-writes image now n moment.0 moment.1 in
      links-outside its image now mended (formed-kept image now change.well_formed mended.well_formed) (agreeing-views its image now change.agree) unkept_file

pub unkept_files : UnkeptFilesMayErase
unkept_files image n mended none =
    let P : Image → Type 0 = Moment image (External n) in
    let Q : Image → Type 0 = KeepsMendedLinks image in
    let zeros_over : List TrailStep = words (External n) 0 (zeros (length_of image (External n))) in
    let kept_along : Along Q image zeros_over =
    until_weaker2 P Q P Q zeros_over image (keeps_file image n mended none) (keeps_file image n mended none) (written image (External n) 0 (zeros (length_of image (External n)))) in
    until-append Q (λ now. Unit {0}) zeros_over (Delete (External n) ∷ []) image kept_along (until_last Q Q zeros_over image kept_along, tt)
