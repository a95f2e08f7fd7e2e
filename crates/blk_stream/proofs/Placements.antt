-- A new place that is made and then filled.
use Rattle.std.proofs.Common.{◌≡◌, ◌≢◌, ◌⊎◌, Result, inl, inr, ⊎_elim, ℕ, ◌+◌, ◌<◌, ◌≤◌, Bool, true, false, if◌then◌else◌, List, [], length, Option, None, Some, refl, sym, ◌∙◌, ap, subst, arith}
use Rattle.std.specs.Prelude.{◌==◌, unwrap_or}
use Rattle.std.specs.Option.{ForSome}
use Rattle.std.proofs.lemmas.Bool.{eqb-true}
use Rattle.std.proofs.lemmas.Bool.Decides.{nat_tests}
use Rattle.spec_image.specs.Bytes.{content, range_at}
use Rattle.spec_image.specs.Image.{Block, External, File, Image, byte, has_file, length_of}
use Rattle.spec_image.specs.Footprint.{Footprint, SameOutside, nothing}
use Rattle.spec_image.specs.Told.{Told, Passes}
use Rattle.spec_image.proofs.Footprints.{outside-refl}
use Rattle.spec_image.proofs.Runs.{passes_end, passes_then, passes_weaker, some_inj}
use Rattle.spec_image.proofs.Words.{same-range}
use Rattle.spec_format.specs.Address.{external, external_number, file_selector, kind_of, place}
use Rattle.spec_format.specs.BlockFiles.{is_among}
use Rattle.spec_format.specs.Claims.{is_in_file}
use Rattle.spec_format.specs.Maps.{is_block_marked}
use Rattle.spec_format.proofs.LinkedHeads.{count_whole}
use Rattle.spec_format.proofs.Finished.{headers-kept}
use Rattle.blk_disk.specs.declared.tables.BlockFiles.{BlockFiles}
use Rattle.blk_disk.specs.Tables.{Agrees, all_files}
use Rattle.blk_disk.proofs.Ranges.{stands_agree}
use Rattle.blk_entry.specs.Keys.{IsInside, data_at, data_file, data_start}
use Rattle.blk_alloc.specs.Extending.{KeepsStanding}
use Rattle.blk_disk.proofs.WholeHeaders.{all_head}
use Rattle.blk_model.specs.Effects.{stream_after}
use Rattle.blk_stream.specs.declared.places.Stored.{Stored}
use Rattle.blk_stream.specs.Streams.{may_keep}
use Rattle.blk_stream.specs.Copying.{HasOldPlace, IsOldThere, ShareNoData, ShareNoFile}
use Rattle.blk_stream.specs.Filling.{FillsPlace}
use Rattle.blk_stream.specs.Freeing.{MayBeFreed}
use Rattle.blk_stream.specs.Inside.{HasStreamLength, data_of}
use Rattle.blk_stream.specs.Moving.{CanBeFilled, FillsInProgress, IsPlaceFilled, data_at_place}
use Rattle.blk_stream.specs.Placing.{CanBePlaced, InAddition, InFile, InGrowth, IsNewPlace, IsSite, IsSiteOf, LosesNothing, NewFile, Nowhere, PlacesInProgress, Site, gained_by, placing_of}
use Rattle.blk_stream.proofs.Apart.{new_apart}
use Rattle.blk_stream.proofs.PlacesFreed.{blocky_of}
use Rattle.blk_stream.proofs.Drops.{no_block}
use Rattle.blk_stream.proofs.Fillings.{old_inside}
use Rattle.blk_stream.proofs.InsideData.{moved_data}
use Rattle.blk_stream.proofs.Joined.{IsTold, told_then}
use Rattle.blk_stream.proofs.StreamPlaces.{may_parts, stored_some}
use Rattle.blk_io.specs.declared.fault.Fault.{Fault}
use Rattle.blk_io.specs.Faults.{IfDamaged}
use Rattle.blk_io.proofs.Carried.{if_damaged_weaker}
use Rattle.blk_entry.proofs.KeyPlaces.{damaged_any}

pub kind_of_none : kind_of 0 ≡ external
unfolding kind_of
kind_of_none = refl

pub none_in : (n : ℕ) → is_in_file n 0 ≡ true → ⊥
unfolding is_in_file kind_of
none_in n e = let z : false ≡ true = e in cc

-- no bytes need no place
pub not_placed : (files : BlockFiles) (from : Image) → Agrees files from → IsNewPlace files 0 from from
unfolding placing_of gained_by is_in_file kind_of
not_placed files from agrees = record {
  site = Nowhere;
  at = refl;
  makes = record {
    right = tt;
    same = outside-refl nothing from;
    keeps = record {
      blocks = record { stand = λ w stands. stands; bytes = λ w i stands low high. refl };
      externals = λ number there. refl;
      headers = headers-kept from;
    };
    grown = λ blocky. absurd (blocky refl);
  };
  free = λ n b kept of. absurd (let z : false ≡ true = sym (no_block n b) ∙ of in cc);
  gains = record {
    marks = λ n b kept small. sym (ap (λ (t : Bool). if t then true else is_block_marked from n b) (no_block n b));
    allocations = λ n words kept are. are;
    fresh = λ n kept in_it. absurd (none_in n in_it);
    empty = λ n kept was. was;
    counted = λ n in_it. absurd (none_in n in_it);
    updating = λ n in_it. absurd (none_in n in_it);
    most = λ n cases. ⊎_elim (λ (kept : is_among (all_files files) n ≡ true). (count_whole _ (all_head files from n agrees kept).count).1) (λ (in_it : is_in_file n 0 ≡ true). absurd (none_in n in_it)) cases;
  };
  created = λ number e. absurd (let z : Nowhere ≡ NewFile number = e in cc);
}

pub place_none : data_at_place 0 ≡ nothing
unfolding data_at_place
place_none = refl

pub place_some : (w : ℕ) → w ≢ 0 → data_at_place w ≡ data_of w
unfolding data_at_place
place_some w some = let t : (w == 0) ≡ false = grind (arith, nat_tests) in rw t refl

pub none_filled : (files : BlockFiles) (old : Stored) (size offset : ℕ) (bytes : List ℕ) (from : Image) → Agrees files from → size ≡ 0 → offset + length bytes ≤ size → IsPlaceFilled files old 0 size offset bytes from from
none_filled files old size offset bytes from agrees none few = record {
  made = from;
  placed = not_placed files from agrees;
  same = outside-refl (data_at_place 0) from;
  written = λ cut is. moved_data from from (unwrap_or old.addr 0) 0 old.size size offset cut bytes is
      (λ k low in_old. absurd (omega (arith, low, few, none)))
      (λ k low up. absurd (omega (arith, low, few, none)))
      (λ k up high. absurd (omega (arith, high, few, none)))
      (λ k up small in_old. absurd (omega (arith, small, none)))
      few;
  long = λ some. absurd (some refl);
}

-- A new external file has no bytes.

pub new_empty : (files : BlockFiles) (w : ℕ) (from made : Image) → w ≢ 0 → IsNewPlace files w from made → HasStreamLength w 0 made
new_empty files w from made some placed kind = by_site placed.site refl placed.at
  where
    by_site : (s : Site) → placed.site ≡ s → IsSiteOf s w → length_of made (External (external_number w)) ≡ 0
    by_site Nowhere e none = absurd (some none)
    by_site (NewFile number) e at = subst (λ (n : ℕ). length_of made (External n) ≡ 0) (sym at.1) (ap (λ (o : Option (List ℕ)). length (unwrap_or o [])) (placed.created number e).file)
    by_site (InFile n) e at = absurd (at.0 kind)
    by_site (InGrowth n) e at = absurd (at.0 kind)
    by_site (InAddition n) e at = absurd (at.0 kind)

no_number : external_number 0 ≡ 0
unfolding external_number
no_number = refl

-- the number of a new external file is not 0
nothing_apart : (files : BlockFiles) (w : ℕ) (from made : Image) → w ≢ 0 → IsNewPlace files w from made → ShareNoData 0 w
nothing_apart files w from made some placed = record {
  files = λ none kind same. numbered kind (sym same ∙ no_number);
  blocks = λ blocky. absurd (blocky kind_of_none);
}
  where
    by_site : kind_of w ≡ external → external_number w ≡ 0 → (s : Site) → IsSiteOf s w → IsSite files (kind_of w) from s → ⊥
    by_site kind zero_is Nowhere none right = some none
    by_site kind zero_is (NewFile number) at right = let low = right.1.number.0 in omega (arith, low, zero_is, at.1)
    by_site kind zero_is (InFile n) at right = at.0 kind
    by_site kind zero_is (InGrowth n) at right = at.0 kind
    by_site kind zero_is (InAddition n) at right = at.0 kind

    numbered : kind_of w ≡ external → external_number w ≡ 0 → ⊥
    numbered kind zero_is = by_site kind zero_is placed.site placed.at placed.makes.right

-- the old place shares no data with the new one
pub old_apart : (files : BlockFiles) (old : Stored) (w size : ℕ) (from made : Image) → Agrees files from → HasOldPlace files old → CanBeFilled files old size from → w ≢ 0 → IsNewPlace files w from made → ShareNoData (unwrap_or old.addr 0) w
old_apart files old w size from made agrees has can some placed = by_addr old.addr refl
  where
    by_addr : (o : Option ℕ) → old.addr ≡ o → ShareNoData (unwrap_or o 0) w
    by_addr None e = nothing_apart files w from made some placed
    by_addr (Some u) e = new_apart files u w from made agrees some (has.inside u e).stands (subst (λ (o : Option ℕ). MayBeFreed (unwrap_or o 0) from) e can.owned) (can.file u e) placed

-- The data of what was there is there still.

pub no_range : (image : Image) (f : File) (p n : ℕ) → n ≡ 0 → range_at (byte image f) p n ≡ []
unfolding range_at
no_range image f p n e = ap (λ (m : ℕ). range_at (byte image f) p m) e

pub data_kept : (files : BlockFiles) (u n : ℕ) (from made : Image) → Agrees files from → IsInside files u 0 n → (kind_of u ≡ external → (has_file from (External (external_number u)) ≡ true) ⊎ (n ≡ 0)) → LosesNothing from made → data_at made u 0 n ≡ data_at from u 0 n
unfolding data_file data_start
data_kept files u n from made agrees inside there keeps = by_test (kind_of u == external) refl
  where
    by_test : (t : Bool) → (kind_of u == external) ≡ t
        → range_at (byte made (if t then External (external_number u) else Block (file_selector u))) ((if t then 0 else place u) + 0) n ≡ range_at (byte from (if t then External (external_number u) else Block (file_selector u))) ((if t then 0 else place u) + 0) n
    by_test true t = ⊎_elim
        (λ (here : has_file from (External (external_number u)) ≡ true). ap (λ (o : Option (List ℕ)). range_at (λ i. content (unwrap_or o []) i) (0 + 0) n) (keeps.externals (external_number u) here))
        (λ (e : n ≡ 0). no_range made (External (external_number u)) (0 + 0) n e ∙ sym (no_range from (External (external_number u)) (0 + 0) n e))
        (there (eqb-true (kind_of u) external t))
    by_test false t =
        let blocky = blocky_of u t in
        let room = inside.room blocky in
        same-range n (place u + 0) (byte made (Block (file_selector u))) (byte from (Block (file_selector u)))
        (λ k low high. keeps.blocks.bytes u k (sym (stands_agree files from u agrees) ∙ inside.stands blocky) (omega (arith, low)) (omega (arith, high, room)))

pub place_filled : (files : BlockFiles) (old : Stored) (w size offset : ℕ) (bytes : List ℕ) (from made image : Image) → Agrees files from → HasOldPlace files old → CanBeFilled files old size from → w ≢ 0 → IsNewPlace files w from made
    → SameOutside (data_of w) made image → FillsPlace (unwrap_or old.addr 0) w old.size size offset bytes made image → IsPlaceFilled files old w size offset bytes from image
place_filled files old w size offset bytes from made image agrees has can some placed same fills = record {
  made = made;
  placed = placed;
  same = subst (λ (F : Footprint). SameOutside F made image) (sym (place_some w some)) same;
  written = λ cut is. fills.written cut is ∙ ap (λ (l : List ℕ). stream_after cut l offset bytes) (data_kept files (unwrap_or old.addr 0) old.size from made agrees (old_inside files old has) (λ kind. there old.addr refl kind) placed.makes.keeps);
  long = λ other. fills.long;
}
  where
    there : (o : Option ℕ) → old.addr ≡ o → kind_of (unwrap_or o 0) ≡ external → (has_file from (External (external_number (unwrap_or o 0))) ≡ true) ⊎ (old.size ≡ 0)
    there None e kind = inr (has.none e)
    there (Some u) e kind = inl (can.file u e kind)

-- at each word of the filling
pub filling_word : (files kept : BlockFiles) (w size : ℕ) (from made image : Image) → may_keep kept size w ≡ true → w ≢ 0 → IsNewPlace files w from made → SameOutside (data_of w) made image → FillsInProgress files kept size from image
filling_word files kept w size from made image fits some placed same = inr (record { word = w; fits = fits; made = made; placed = placed; same = subst (λ (F : Footprint). SameOutside F made image) (sym (place_some w some)) same })

-- the old place is one still, among files that keep what is valid
pub place_still : (files kept : BlockFiles) (old : Stored) → KeepsStanding files kept → HasOldPlace files old → HasOldPlace kept old
place_still files kept old keeps has = record {
  none = has.none;
  inside = λ w is. let h = has.inside w is in record { small = h.small; stands = λ blocky. keeps w (h.stands blocky); room = h.room };
}

-- The calls, one after the other.

module _ (files kept : BlockFiles) (old : Stored) (w size offset : ℕ) (bytes : List ℕ) (a m b : Told) (agrees : ForSome a.files (Agrees files)) (has : HasOldPlace files old) (more : 0 < size) (fits : may_keep kept size w ≡ true)
    (place_stops : ForSome a.files (λ from. CanBePlaced files size from → Passes a m (PlacesInProgress files size from)))
    (placed : ForSome a.files (λ from. CanBePlaced files size from → ForSome m.files (IsNewPlace files w from))) where
  some : w ≢ 0
  some = stored_some kept size w more (may_parts kept size w fits).1

  -- the image in which the new place is made
  made : (from : Image) → a.files ≡ Some from → CanBeFilled files old size from → IsTold m (IsNewPlace files w from)
  made from there can =
      let mid = told_then a m from (PlacesInProgress files size from) there (place_stops from there (can.room more)) in
      record { image = mid.image; is = mid.is; holds = placed from there (can.room more) mid.image mid.is }

  pub both_pass : ForSome m.files (λ mid. Passes m b (SameOutside (data_of w) mid)) → ForSome a.files (λ from. CanBeFilled files old size from → Passes a b (FillsInProgress files kept size from))
  both_pass fill_stops from there can =
      let mid = made from there can in
      passes_then (passes_weaker (place_stops from there (can.room more)) (λ image h. inl h) (λ image h. inl h))
      (passes_weaker (fill_stops mid.image mid.is) (λ image same. filling_word files kept w size from mid.image image fits some mid.holds same) (λ image same. filling_word files kept w size from mid.image image fits some mid.holds same))

  pub both_fill : ForSome m.files (λ mid. Passes m b (SameOutside (data_of w) mid)) → ForSome m.files (λ mid. ShareNoData (unwrap_or old.addr 0) w → HasStreamLength w 0 mid → ForSome b.files (FillsPlace (unwrap_or old.addr 0) w old.size size offset bytes mid))
      → ForSome a.files (λ from. CanBeFilled files old size from → ForSome b.files (IsPlaceFilled files old w size offset bytes from))
  both_fill fill_stops fills from there can image now =
      let mid = made from there can in
      place_filled files old w size offset bytes from mid.image image (agrees from there) has can some mid.holds (passes_end (fill_stops mid.image mid.is) image now)
      (fills mid.image mid.is (old_apart files old w size from mid.image (agrees from there) has can some mid.holds) (new_empty files w from mid.image some mid.holds) image now)

  pub fill_untold : {A : Type 0} (r : Result A Fault) → (ForSome m.files (IsOldThere old) → ShareNoFile (unwrap_or old.addr 0) w → IfDamaged r (λ _. m.files ≡ None)) → (a.files ≡ None → m.files ≡ None) → ForSome a.files (CanBeFilled files old size) → IfDamaged r (λ _. a.files ≡ None)
  fill_untold r untold silent can = by_files a.files refl
    where
      still : (from mid : Image) → CanBeFilled files old size from → IsNewPlace files w from mid → IsOldThere old mid
      still from mid can place v is kind =
          let h = can.there v is kind in
          let e = place.makes.keeps.externals (external_number v) (can.file v is kind) in
          subst (λ (o : Option (List ℕ)). 0 + old.size ≤ length (unwrap_or o [])) (sym e) h

      by_files : (o : Option Image) → a.files ≡ o → IfDamaged r (λ _. a.files ≡ None)
      by_files None e = damaged_any r (a.files ≡ None) e
      by_files (Some from) e =
          let mid = made from e (can from e) in
          if_damaged_weaker r _ _ (λ damage none. absurd (let z : None ≡ Some mid.image = sym none ∙ mid.is in cc))
          (untold (λ image now. subst (IsOldThere old) (some_inj (sym mid.is ∙ now)) (still from mid.image (can from e) mid.holds)) (old_apart files old w size from mid.image (agrees from e) has (can from e) some mid.holds).files)
