-- A cut and a deletion change one file, and where an unlinked word names it a state is kept at each of the zeros.
use Rattle.std.proofs.Common.{◌≡◌, ℕ, ◌+◌, ◌-◌, true, false, ◌&&◌, nat_le, nat_lt, List, [], ◌∷◌, length, Option, Some, refl, sym, ◌∙◌, ap, subst}
use Rattle.std.specs.Prelude.{is_some}
use Rattle.std.proofs.lemmas.Bool.{and_parts, eqb-true}
use Rattle.spec_image.specs.Bytes.{resized, zeros}
use Rattle.spec_image.specs.Footprint.{IsWithin, SameOutside, range, whole}
use Rattle.spec_image.specs.Image.{File, External, Image, bytes_of, has_file, length_of, same_file}
use Rattle.spec_image.specs.Steps.{Delete, SetLength, TrailStep, after, applied, words}
use Rattle.spec_image.specs.Told.{Along, Until}
use Rattle.spec_image.proofs.Footprints.{outside-trans, outside_step, outside_wider, words_inside}
use Rattle.spec_image.proofs.Images.{with_file-same}
use Rattle.spec_image.proofs.Runs.{until-append, until_last, until_weaker2}
use Rattle.spec_format.specs.Claims.{BlockOf, Claim, ExternalOf, claims_of_all, has_claim, same_claim}
use Rattle.law_state.proofs.Free.{unlinked-change}
use Rattle.law_state.proofs.Writes.{external-writes}
use Rattle.blk_eraser.specs.Erasing.{delete_steps, length_steps}
use Rattle.blk_eraser.specs.Laws.{CutsChangeOneFile, KeepsTheSame, UnlinkedFilesMayBeErased}
use Rattle.blk_eraser.proofs.Unlinked.{counters_same}

module _ (from : Image) (file : File) where
  -- nothing but the file differs, and it is there as before
  abbrev pub Moment : Image → Type 0
  Moment now = SameOutside (whole file) from now × (has_file now file ≡ has_file from file)

  range_whole : (place m : ℕ) → IsWithin (range file place m) (whole file)
  range_whole place m = record {
    bytes = λ g i e. (and_parts (same_file file g) (nat_le place i && nat_lt i (place + m)) e).0;
    sizes = λ g e. absurd (let z : false ≡ true = e in cc);
  }

  module _ (place : ℕ) (bytes : List ℕ) where
    abbrev own : Image → Type 0
    own now = SameOutside (range file place (length bytes)) from now

    at : (now : Image) → own now → Moment now
    at now same = (outside_wider (range file place (length bytes)) (whole file) from now (range_whole place (length bytes)) same, same.files file refl)

    pub written : Along Moment from (words file place bytes)
    written = until_weaker2 own Moment own Moment (words file place bytes) from at at (words_inside file place bytes from)

  cut : (size : ℕ) → has_file from file ≡ true → Along Moment from (length_steps from file size)
  cut size there = until-append Moment Moment erased (SetLength file size ∷ []) from (written size gone) (moment, last)
    where
      gone : List ℕ
      gone = zeros (length_of from file - size)

      erased : List TrailStep
      erased = words file size gone

      middle : Image
      middle = after erased from

      shorter : Image
      shorter = applied (SetLength file size) middle

      moment : Moment middle
      moment = until_last Moment Moment erased from (written size gone)

      last : Moment shorter
      last = (
        outside-trans (whole file) from middle shorter moment.0 (outside_step (SetLength file size) middle),
        ap (λ (o : Option (List ℕ)). is_some o) (with_file-same middle file (Some (resized size (bytes_of middle file)))) ∙ sym there,
      )

pub cuts_one_file : CutsChangeOneFile
cuts_one_file image file size there =
    let Q : Image → Type 0 = λ now. SameOutside (whole file) image now × (has_file now file ≡ true) in
    let P : Image → Type 0 = Moment image file in
    let still : (now : Image) → P now → Q now = λ now moment. (moment.0, moment.1 ∙ there) in
    until_weaker2 P Q P Q (length_steps image file size) image still still (cut image file size there)

module _ (unlinked : List ℕ) (from : Image) (n : ℕ) (of : has_claim (claims_of_all unlinked) (ExternalOf n) ≡ true) where
  abbrev Kept : Image → Type 0
  Kept now = KeepsTheSame unlinked from now

  abbrev Its : Image → Type 0
  Its now = Moment from (External n) now

  of_file : (claim : Claim) → same_claim claim (ExternalOf n) ≡ true → has_claim (claims_of_all unlinked) claim ≡ true
  of_file (BlockOf m b) e = cc
  of_file (ExternalOf m) e = subst (λ (k : ℕ). has_claim (claims_of_all unlinked) (ExternalOf k) ≡ true) (sym (eqb-true m n e)) of

  keeps_at : (now : Image) → Its now → Kept now
  keeps_at now moment = (
    λ state layout more k.
        unlinked-change (λ claim. same_claim claim (ExternalOf n)) unlinked from now of_file (external-writes from now n moment.0 moment.1) state layout more k,
    counters_same (whole (External n)) from now moment.0 (λ i. refl),
  )

  kept_along : (steps : List TrailStep) → Along Its from steps → Along Kept from steps
  kept_along steps along = until_weaker2 Its Kept Its Kept steps from keeps_at keeps_at along

  deleted : Until Kept (λ now. Unit {0}) from (delete_steps from (External n))
  deleted = until-append Kept (λ now. Unit {0}) erased (Delete (External n) ∷ []) from kept (until_last Kept Kept erased from kept, tt)
    where
      erased : List TrailStep
      erased = words (External n) 0 (zeros (length_of from (External n)))

      kept : Along Kept from erased
      kept = kept_along erased (written from (External n) 0 (zeros (length_of from (External n))))

  pub erased_file : Until Kept (λ now. Unit {0}) from (delete_steps from (External n)) × ((size : ℕ) → has_file from (External n) ≡ true → Along Kept from (length_steps from (External n) size))
  erased_file = (deleted, λ size there. kept_along (length_steps from (External n) size) (cut from (External n) size there))

pub files_unlinked : UnlinkedFilesMayBeErased
files_unlinked unlinked image n of = erased_file unlinked image n of
