-- A place is allocated, filled and freed: what is under way at each word, and what is done in the end.
use Rattle.std.proofs.Common.{◌≡◌, ◌≢◌, inl, inr, ℕ, ◌<◌, Some, Result, Ok, Err, sym, ◌∙◌, subst, true}
use Rattle.std.specs.Prelude.{IfOk, IsTrue, OnOk}
use Rattle.std.specs.Option.{ForSome}
use Rattle.spec_image.specs.Image.{External, Image}
use Rattle.spec_image.specs.Footprint.{SameOutside}
use Rattle.spec_image.specs.Steps.{after}
use Rattle.spec_image.specs.Told.{Applies, Passes, PassesTo, Told}
use Rattle.spec_image.proofs.Runs.{passes_end, passes_then, passes_weaker, some_inj, told_whole}
use Rattle.spec_format.specs.Address.{block_count, external, external_number, file_selector, is_address, is_block_kind, kind_of}
use Rattle.spec_format.specs.Growth.{StaysWhole}
use Rattle.spec_format.specs.Storage.{kind_for}
use Rattle.spec_format.proofs.Growths.{grown_not}
use Rattle.spec_format.proofs.Finished.{headers-kept}
use Rattle.blk_disk.specs.declared.tables.BlockFiles.{BlockFiles}
use Rattle.blk_disk.specs.Tables.{Agrees, stands_among}
use Rattle.blk_external.specs.Making.{Creates, last_number, making, touched_by_making}
use Rattle.blk_external.specs.Numbers.{IsFirstFree}
use Rattle.blk_alloc.specs.Allocating.{Allocates, AllocatesIn, AllocatesInProgress, AllocatesOrStops, AreCounted}
use Rattle.blk_alloc.specs.Extending.{HasItsBlocks, KeepsLinks}
use Rattle.blk_alloc.specs.Owning.{FreesOrStops}
use Rattle.blk_stream.specs.declared.places.Stored.{Stored}
use Rattle.blk_stream.specs.Inside.{data_of}
use Rattle.blk_stream.specs.Moving.{CanBeFilled, HasPlaceLength}
use Rattle.blk_stream.specs.Placing.{CanBePlaced}
use Rattle.blk_stream.specs.Stages.{FillsByStage, FillsTaken, IsFilled, TakesInProgress, TakesPlace}
use Rattle.blk_stream.proofs.Created.{after_making, done_outside}
use Rattle.blk_stream.proofs.Joined.{IsTold, told_then}
use Rattle.blk_stream.proofs.Placed.{blocks_are}
use Rattle.blk_stream.proofs.StreamMoved.{long_there}

-- where nothing has changed, the folder stays whole
pub still_whole : (from : Image) → StaysWhole from from
still_whole from = record { grown = grown_not from; headers = headers-kept from }

-- at each word of a free files have grown at most and the headers are kept
pub frees_whole : (w : ℕ) (from image : Image) → FreesOrStops w from image → StaysWhole from image
frees_whole w from image (inl before) = before.stays
frees_whole w from image (inr last) = last.stays

-- at each word of an allocation files have grown at most and the headers are kept
allocates_whole : (files : BlockFiles) (kind count : ℕ) (from image : Image) → AllocatesOrStops files kind count from image → StaysWhole from image
allocates_whole files kind count from image (inl before) = before.stays
allocates_whole files kind count from image (inr last) = last.stays

-- Blocks are taken.

module _ (files new : BlockFiles) (size K N : ℕ) (a b : Told) (some : 0 < size) (blocky : kind_for size ≢ external) (kind_is : kind_for size ≡ K)
    (stops : ForSome a.files (λ from. AreCounted files K from → PassesTo a b (AllocatesInProgress files K N from) (AllocatesOrStops files K N from))) where
  counted : (from : Image) → CanBePlaced files size from → AreCounted files K from
  counted from can = subst (λ (k : ℕ). AreCounted files k from) kind_is (can.counted blocky)

  pub allocating_takes : ForSome a.files (λ from. CanBePlaced files size from → Passes a b (TakesInProgress from))
  allocating_takes from there can = passes_weaker (stops from there (counted from can)) (λ image m. inl m.stays) (λ image m. inl (allocates_whole files K N from image m))

  pub allocated_takes : {E : Type 0} (r : Result ℕ E) → IfOk r (λ w. (kind_of w ≡ K) × (block_count w ≡ N)) → IfOk r (λ w. IsTrue (is_address w)) → IfOk r (λ w. IsTrue (stands_among new w)) → IfOk r (λ w. HasItsBlocks new (file_selector w)) → IfOk r (λ w. KeepsLinks files new (file_selector w))
      → IfOk r (λ w. ForSome a.files (λ from. AreCounted files K from → ForSome b.files (Allocates files from w))) → IfOk r (λ w. ForSome a.files (λ from. AreCounted files K from → ForSome b.files (AllocatesIn files K from (file_selector w))))
      → OnOk r (ForSome b.files (Agrees new)) → IfOk r (λ w. ForSome a.files (λ from. CanBePlaced files size from → ForSome b.files (TakesPlace files new w from)))
  allocated_takes {E} (Ok w) kind address stands long links allocates within agrees = λ from there can image now.
      inl (record {
        block_kind = subst (λ (k : ℕ). is_block_kind k ≡ true) (kind_is ∙ sym kind.0) (blocks_are size some blocky).1.1.1;
        address = address;
        agrees = agrees image now;
        stands = stands;
        long = long;
        links = links;
        allocates = allocates from there (counted from can) image now;
        within = subst (λ (k : ℕ). AllocatesIn files k from (file_selector w) image) (sym kind.0) (within from there (counted from can) image now);
        stays = allocates_whole files K N from image (passes_end (stops from there (counted from can)) image now);
      })
  allocated_takes {E} (Err e) kind address stands long links allocates within agrees = tt

-- An external file is taken.

pub created_takes : (files new : BlockFiles) (w : ℕ) (a b : Told) → kind_of w ≡ external → is_address w ≡ true → ForSome a.files (λ image. IsFirstFree image (last_number image) (external_number w)) → ForSome b.files (λ image. Creates image (external_number w))
    → Applies a b (making (external_number w)) → ForSome a.files (λ from. ForSome b.files (TakesPlace files new w from))
created_takes files new w a b kind address first made steps from there image now =
    let n : ℕ = external_number w in
    let P : Image → Type 0 = SameOutside (touched_by_making n) from in
    inr (record {
      external_kind = kind;
      address = address;
      first = first from there;
      made = made image now;
      same = told_whole P steps
          (λ other here. subst (λ (i : Image). P (after (making n) i)) (some_inj (sym there ∙ here)) (after_making files (kind_of w) from kind n (first from there) P (done_outside files (kind_of w) from kind n (first from there))))
          image now;
    })

-- A place is filled.

module _ (files kept : BlockFiles) (old : Stored) (w size : ℕ) (a m b : Told) (more : 0 < size)
    (take_stages : ForSome a.files (λ from. CanBePlaced files size from → Passes a m (TakesInProgress from))) (takes : ForSome a.files (λ from. CanBePlaced files size from → ForSome m.files (TakesPlace files kept w from)))
    (fill_stops : ForSome m.files (λ mid. Passes m b (SameOutside (data_of w) mid))) where
  taken : (from : Image) → a.files ≡ Some from → CanBeFilled files old size from → IsTold m (TakesPlace files kept w from)
  taken from there can =
      let mid = told_then a m from (TakesInProgress from) there (take_stages from there (can.room more)) in
      record { image = mid.image; is = mid.is; holds = takes from there (can.room more) mid.image mid.is }

  fills_taken : (from : Image) (there : a.files ≡ Some from) (can : CanBeFilled files old size from) (image : Image) → SameOutside (data_of w) (taken from there can).image image → FillsTaken files kept w from image
  fills_taken from there can image same = let mid = taken from there can in record { taken = mid.image; takes = mid.holds; same = same }

  pub filling_stages : ForSome a.files (λ from. CanBeFilled files old size from → Passes a b (FillsByStage files kept from))
  filling_stages from there can =
      let mid = taken from there can in
      let word : (image : Image) → SameOutside (data_of w) mid.image image → FillsByStage files kept from image = λ image same. inr (w, fills_taken from there can image same) in
      passes_then (passes_weaker (take_stages from there (can.room more)) (λ image h. inl h) (λ image h. inl h)) (passes_weaker (fill_stops mid.image mid.is) word word)

  pub filled_staged : w ≢ 0 → ForSome a.files (λ from. CanBeFilled files old size from → ForSome b.files (HasPlaceLength w size)) → ForSome a.files (λ from. CanBeFilled files old size from → ForSome b.files (IsFilled files kept (Some w) from))
  filled_staged some long from there can image now =
      let mid = taken from there can in (
        fills_taken from there can image (passes_end (fill_stops mid.image mid.is) image now),
        λ kind. long_there image (External (external_number w)) (subst (λ (n : ℕ). 0 < n) (sym (long from there can image now some kind)) more),
      )
