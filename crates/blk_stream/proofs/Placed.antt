-- A new place of blocks: what holds at each word, and in the end.
use Rattle.std.proofs.Common.{◌≡◌, ◌≢◌, ◌⊎◌, inl, inr, ⊎_elim, ℕ, ◌+◌, ◌-◌, ◌/◌, ◌<◌, ◌≤◌, Bool, true, false, ◌&&◌, ◌||◌, if◌then◌else◌, List, Result, Ok, Err, refl, sym, ◌∙◌, ap, subst, arith}
use Rattle.std.specs.Prelude.{◌==◌, nat_le, IfOk, IsTrue, OnOk}
use Rattle.std.specs.Option.{ForSome}
use Rattle.std.specs.List.{All}
use Rattle.std.proofs.lemmas.Bool.{eqb-true, leb-true}
use Rattle.std.proofs.lemmas.Bool.Decides.{nat_tests}
use Rattle.spec_image.specs.Image.{Image}
use Rattle.spec_image.specs.Footprint.{SameOutside, either, nothing}
use Rattle.spec_image.specs.Told.{Passes, PassesTo, Told}
use Rattle.spec_image.proofs.Footprints.{outside-refl, outside_wider, within_right}
use Rattle.spec_image.proofs.Runs.{passes_end, passes_weaker}
use Rattle.spec_format.specs.Address.{block_count, block_size, block_word, external, file_selector, is_address, is_block_kind, kind_of, rankings}
use Rattle.spec_format.specs.BlockFiles.{is_among, max_entries_in}
use Rattle.spec_format.specs.Growth.{StaysWhole}
use Rattle.spec_format.specs.Storage.{blocks_for, kind_for}
use Rattle.spec_format.proofs.Growths.{grown_blocks}
use Rattle.spec_format.proofs.LinkedHeads.{HasHead, count_whole, linked_checked}
use Rattle.spec_format.proofs.Words.{file_selector-block_word}
use Rattle.blk_disk.specs.declared.tables.BlockFiles.{BlockFiles}
use Rattle.blk_disk.specs.Tables.{Agrees, files_of, stands_among}
use Rattle.blk_disk.specs.Growth.{addition_of, free_number, growth_of}
use Rattle.blk_disk.proofs.Numbers.{free_is}
use Rattle.blk_alloc.specs.Allocating.{Allocates, AllocatesAtLast, AllocatesByChoice, AllocatesByStage, AllocatesIn, AllocatesInProgress, AllocatesOrStops, AreCounted, ExtendsAnd, HaveNoRoom, IsAddedPlace, IsChosen, IsGrownPlace}
use Rattle.blk_alloc.specs.Extending.{HasMostBlocks, IsFirstGrowing, KeepsLinks}
use Rattle.blk_alloc.specs.Fitting.{IsFit}
use Rattle.blk_alloc.specs.Marking.{taking_of}
use Rattle.blk_alloc.proofs.Changing.{within-trans}
use Rattle.blk_alloc.proofs.Members.{member_split}
use Rattle.blk_entry.specs.Keys.{stores}
use Rattle.blk_entry.proofs.KeyPlaces.{of_other, stores_is, stores_stand}
use Rattle.blk_stream.specs.Placing.{CanBePlaced, IsNewPlace, IsSite, IsSiteOf, KeepsOtherLinks, LosesNothing, MakesPlace, PlacesInProgress, Site, Nowhere, NewFile, InFile, InGrowth, InAddition, placing_of}
use Rattle.blk_stream.proofs.Gained.{free_blocks, gained_blocks, other_links}

-- The kind and the number of the blocks of data.

-- by a test of the kind
pub of_blocks : (k size : ℕ) (t : Bool) → k ≡ kind_for size → t ≡ (k == external) → t ≡ false → kind_for size ≢ external
of_blocks k size t is test none = of_other (kind_for size) external (ap (λ (j : ℕ). j == external) (sym is) ∙ sym test ∙ none)

pub of_file : (k size : ℕ) (t : Bool) → k ≡ kind_for size → t ≡ (k == external) → t ≡ true → kind_for size ≡ external
of_file k size t is test one = sym is ∙ eqb-true k external (sym test ∙ one)

abbrev kind_by : Bool → Bool → Bool → ℕ
kind_by a b c = if a then 2 else if b then 3 else if c then 4 else 0

abbrev size_by : ℕ → ℕ
size_by k = if k == 1 then 36 else if k == 2 then 256 else if k == 3 then 1024 else 4096

abbrev count_by : ℕ → ℕ → ℕ
count_by size k = if k == 0 then 0 else (size + size_by k - 1) / size_by k

pub blocks_are : (size : ℕ) → 0 < size → kind_for size ≢ external → (0 < blocks_for size) × ((blocks_for size ≤ 4) × ((kind_for size ≢ rankings) × (is_block_kind (kind_for size) ≡ true)))
unfolding kind_for blocks_for block_size
blocks_are size some blocky = by_tests (nat_le size 1023) (nat_le size 4095) (nat_le size 16384) refl refl refl blocky
  where
    by_tests : (a b c : Bool) → nat_le size 1023 ≡ a → nat_le size 4095 ≡ b → nat_le size 16384 ≡ c → kind_by a b c ≢ 0
        → (0 < count_by size (kind_by a b c)) × ((count_by size (kind_by a b c) ≤ 4) × ((kind_by a b c ≢ 1) × (is_block_kind (kind_by a b c) ≡ true)))
    by_tests true b c e f g other = let most = leb-true size 1023 e in (omega (arith, some), (omega (arith, most), ((λ z. cc), refl)))
    by_tests false true c e f g other = let most = leb-true size 4095 f in (omega (arith, some), (omega (arith, most), ((λ z. cc), refl)))
    by_tests false false true e f g other = let most = leb-true size 16384 g in (omega (arith, some), (omega (arith, most), ((λ z. cc), refl)))
    by_tests false false false e f g other = absurd (other refl)

-- a block of one of so many groups is one of the blocks
start_below : (start blocks : ℕ) → start / 4 < blocks / 4 → start < blocks
start_below start blocks there = omega (arith, there)

-- At each word.

pub whole_loses_nothing : (from image : Image) → StaysWhole from image → LosesNothing from image
whole_loses_nothing from image stays = record { blocks = grown_blocks from image stays.grown; externals = λ number there. stays.grown.externals number; headers = stays.headers }

-- a site of blocks of a kind, and an address there
pub record BlockSite (files : BlockFiles) (kind : ℕ) (w : ℕ) (from image : Image) : Type 0 where
  pub site : Site
  pub at : IsSiteOf site w
  pub right : IsSite files kind from site
  pub same : SameOutside (placing_of files kind site) from image
  pub blocks : (number : ℕ) → site ≡ NewFile number → ⊥

module _ (files : BlockFiles) (size : ℕ) (from image : Image) (blocky : kind_for size ≢ external) where
  abbrev K : ℕ
  K = kind_for size

  site_moment : (site : Site) → IsSite files K from site → SameOutside (placing_of files K site) from image → ((number : ℕ) → site ≡ NewFile number → ⊥) → StaysWhole from image → PlacesInProgress files size from image
  site_moment site right same blocks stays = record {
    site = site;
    makes = record { right = right; same = same; keeps = whole_loses_nothing from image stays; grown = λ other. stays.grown };
    order = λ number is. absurd (blocks number is);
  }

  extends_moment : (n : ℕ) → ExtendsAnd taking_of files K from n image → StaysWhole from image → PlacesInProgress files size from image
  unfolding placing_of
  extends_moment n extends stays =
      ⊎_elim
      (λ (grows : IsFirstGrowing files (files_of files K) n × SameOutside (either (growth_of n) (taking_of n)) from image). site_moment (InGrowth n) (blocky, grows.0) grows.1 (λ number is. cc) stays)
      (λ (adds : All (HasMostBlocks files) (files_of files K) × (n ≡ free_number files) × SameOutside (either (addition_of files K) (either (growth_of n) (taking_of n))) from image). site_moment (InAddition n) (blocky, adds.0, adds.1) adds.2 (λ number is. cc) stays)
      extends

  staged : (count : ℕ) → AllocatesByStage files K count from image → StaysWhole from image → PlacesInProgress files size from image
  unfolding placing_of
  staged count (inl e) stays = site_moment Nowhere tt (subst (λ (i : Image). SameOutside nothing from i) (sym e) (outside-refl nothing from)) (λ number is. cc) stays
  staged count (inr (inl fit)) stays = site_moment (InFile fit.0.file) (blocky, member_split (files_of files K) fit.1.before fit.0.file fit.1.behind fit.1.split) fit.2.same (λ number is. cc) stays
  staged count (inr (inr room)) stays = extends_moment room.1.file room.1.within stays

  pub allocating_places : (count : ℕ) → AllocatesInProgress files K count from image → PlacesInProgress files size from image
  allocating_places count midst = staged count midst.stage midst.stays

  module _ (some : 0 < size) (agrees : Agrees files from) where
    head : (n : ℕ) → is_among (files_of files K) n ≡ true → HasHead from n
    head n among =
        let block_kind = (blocks_are size some blocky).1.1.1 in
        linked_checked from K n agrees.undamaged block_kind (ap (λ (l : List ℕ). is_among l n) (sym (agrees.links K block_kind)) ∙ among)

    kind_small : K < 8
    kind_small = let h = (blocks_are size some blocky).1.1.1 in grind (arith, nat_tests)

    word_file : (n start : ℕ) → n < 256 → start < 65536 → file_selector (block_word K n start (blocks_for size)) ≡ n
    word_file n start number small = let count = blocks_are size some blocky in file_selector-block_word K n start (blocks_for size) (record { kind = kind_small; file = number; start = small; some = count.0; most = count.1.0 })

    member_file : (n start : ℕ) → is_among (files_of files K) n ≡ true → start < max_entries_in from n → file_selector (block_word K n start (blocks_for size)) ≡ n
    member_file n start among below =
        let here = head n among in
        let most = (count_whole (max_entries_in from n) here.count).1 in
        word_file n start here.number (omega (arith, most, below))

    marked : AllocatesByChoice files K (blocks_for size) from image → StaysWhole from image → PlacesInProgress files size from image
    unfolding placing_of
    marked (inl fit) stays =
        let among : is_among (files_of files K) fit.0.file ≡ true = member_split (files_of files K) fit.1.before fit.0.file fit.1.behind fit.1.split in
        site_moment (InFile fit.0.file) (blocky, among) (subst (λ (n : ℕ). SameOutside (taking_of n) from image) (member_file fit.0.file fit.0.start among (start_below fit.0.start (max_entries_in from fit.0.file) fit.1.blocks.there)) fit.2.same) (λ number is. cc) stays
    marked (inr room) stays = extends_moment room.1.place.file room.1.within stays

    pub allocated_places : AllocatesOrStops files K (blocks_for size) from image → PlacesInProgress files size from image
    allocated_places = ⊎_elim (allocating_places (blocks_for size)) (λ (last : AllocatesAtLast files K (blocks_for size) from image). marked last.choice last.stays)

    -- In the end.

    module _ (w : ℕ) (kind : kind_of w ≡ K) (chosen : IsChosen files from K (blocks_for size) w) where
      not_file : kind_of w ≢ external
      not_file e = blocky (sym kind ∙ e)

      -- the file of the blocks is one of the kind, or a new one where none may grow
      abbrev Known : Type 0
      Known = (is_among (files_of files K) (file_selector w) ≡ true) ⊎ (All (HasMostBlocks files) (files_of files K) × (file_selector w ≡ free_number files))

      known_by : IsFit from (files_of files K) (blocks_for size) chosen.place ⊎ (HaveNoRoom files K (blocks_for size) from × (IsGrownPlace files K (blocks_for size) from chosen.place ⊎ IsAddedPlace files K chosen.place)) → Known
      known_by (inl fit) =
          let among : is_among (files_of files K) chosen.place.file ≡ true = member_split (files_of files K) fit.before chosen.place.file fit.behind fit.split in
          let file = ap file_selector chosen.word ∙ member_file chosen.place.file chosen.place.start among (start_below chosen.place.start (max_entries_in from chosen.place.file) fit.blocks.there) in
          inl (ap (is_among (files_of files K)) file ∙ among)
      known_by (inr (none, inl grown)) =
          let first = grown.growing in
          let among = member_split (files_of files K) first.before chosen.place.file first.behind first.split in
          let here = head chosen.place.file among in
          let there = grown.blocks.there in
          let file = ap file_selector chosen.word ∙ word_file chosen.place.file chosen.place.start here.number (omega (arith, there)) in
          inl (ap (is_among (files_of files K)) file ∙ among)
      known_by (inr (none, inr added)) =
          let start = added.start in
          let file = ap file_selector chosen.word ∙ word_file chosen.place.file chosen.place.start added.least.most_number (omega (arith, start)) in
          inr (added.full, file ∙ sym (free_is files chosen.place.file added.least))

      known : Known
      known = known_by chosen.chosen

      pub block_site : AllocatesIn files K from (file_selector w) image → BlockSite files K w from image
      unfolding placing_of
      block_site =
          let n : ℕ = file_selector w in
          ⊎_elim
          (λ (same : SameOutside (taking_of n) from image).
          ⊎_elim
          (λ (among : is_among (files_of files K) n ≡ true). record { site = InFile n; at = (not_file, refl); right = (blocky, among); same = same; blocks = λ number is. cc })
          (λ (added : All (HasMostBlocks files) (files_of files K) × (n ≡ free_number files)).
          let wide = either (growth_of n) (taking_of n) in
          record {
            site = InAddition n;
            at = (not_file, refl);
            right = (blocky, added.0, added.1);
            same = outside_wider (taking_of n) (either (addition_of files K) wide) from image (within-trans (taking_of n) wide (either (addition_of files K) wide) (within_right (growth_of n) (taking_of n)) (within_right (addition_of files K) wide)) same;
            blocks = λ number is. cc;
          })
          known)
          (λ (extends : ExtendsAnd taking_of files K from n image).
          ⊎_elim
          (λ (grows : IsFirstGrowing files (files_of files K) n × SameOutside (either (growth_of n) (taking_of n)) from image). record { site = InGrowth n; at = (not_file, refl); right = (blocky, grows.0); same = grows.1; blocks = λ number is. cc })
          (λ (adds : All (HasMostBlocks files) (files_of files K) × (n ≡ free_number files) × SameOutside (either (addition_of files K) (either (growth_of n) (taking_of n))) from image). record { site = InAddition n; at = (not_file, refl); right = (blocky, adds.0, adds.1); same = adds.2; blocks = λ number is. cc })
          extends)

module _ (files new : BlockFiles) (size : ℕ) (a b : Told) (some : 0 < size) (blocky : kind_for size ≢ external) where
  -- what an allocation says of each word
  abbrev Stops : ℕ → ℕ → Type 0
  Stops K N = ForSome a.files (λ from. AreCounted files K from → PassesTo a b (AllocatesInProgress files K N from) (AllocatesOrStops files K N from))

  -- what an allocation says in the end
  abbrev Ends : ℕ → ℕ → ℕ → Type 0
  Ends K N w =
      ForSome a.files (λ from. IsChosen files from K N w)
      × (ForSome a.files (λ from. AreCounted files K from → ForSome b.files (Allocates files from w))
      × (ForSome a.files (λ from. AreCounted files K from → ForSome b.files (AllocatesIn files K from (file_selector w)))
      × ((kind_of w ≡ K) × (block_count w ≡ N))))

  stops_here : Stops (kind_for size) (blocks_for size) → ForSome a.files (Agrees files) → ForSome a.files (λ from. CanBePlaced files size from → Passes a b (PlacesInProgress files size from))
  stops_here stops agrees from there can =
      passes_weaker (stops from there (can.counted blocky))
      (λ image midst. allocating_places files size from image blocky (blocks_for size) midst)
      (λ image last. allocated_places files size from image blocky some (agrees from there) last)

  pub allocating_passes : (K N : ℕ) → kind_for size ≡ K → blocks_for size ≡ N → Stops K N → ForSome a.files (Agrees files) → ForSome a.files (λ from. CanBePlaced files size from → Passes a b (PlacesInProgress files size from))
  allocating_passes K N kind count stops = stops_here (subst (λ (n : ℕ). Stops (kind_for size) n) (sym count) (subst (λ (k : ℕ). Stops k N) (sym kind) stops))

  ends_here : (w : ℕ) → Ends (kind_for size) (blocks_for size) w → stands_among new w ≡ true → KeepsLinks files new (file_selector w) → ForSome b.files (Agrees new) → Stops (kind_for size) (blocks_for size) → ForSome a.files (Agrees files)
      → ForSome a.files (λ from. CanBePlaced files size from → ForSome b.files (IsNewPlace files w from))
  ends_here w ends stands links now_agrees stops agrees from there can image now =
      let counted = can.counted blocky in
      let kind : kind_of w ≡ kind_for size = ends.1.1.1.0 in
      let gains : Allocates files from w image = ends.1.0 from there counted image now in
      let site = block_site files size from image blocky some (agrees from there) w kind (ends.0 from there) (ends.1.1.0 from there counted image now) in
      let not_file : kind_of w ≢ external = λ e. blocky (sym kind ∙ e) in
      let stays : StaysWhole from image = passes_end (passes_weaker {Q' = StaysWhole from} (stops from there counted) (λ image midst. midst) (λ image last. ⊎_elim (λ (midst : AllocatesInProgress files (kind_for size) (blocks_for size) from image). midst.stays) (λ (done : AllocatesAtLast files (kind_for size) (blocks_for size) from image). done.stays) last)) image now in
      record {
        site = site.site;
        at = site.at;
        makes = subst (λ (k : ℕ). MakesPlace files k site.site from image) (sym kind) (record { right = site.right; same = site.same; keeps = whole_loses_nothing from image stays; grown = λ other. stays.grown });
        free = free_blocks files w not_file from image gains;
        gains = gained_blocks files w not_file new from image (now_agrees image now) stands links gains;
        created = λ number is. absurd (site.blocks number is);
      }

  pub allocated_place : {E : Type 0} (r : Result ℕ E) (K N : ℕ) → kind_for size ≡ K → blocks_for size ≡ N
      → IfOk r (λ w. (kind_of w ≡ K) × (block_count w ≡ N)) → IfOk r (λ w. ForSome a.files (λ from. IsChosen files from K N w)) → IfOk r (λ w. ForSome a.files (λ from. AreCounted files K from → ForSome b.files (Allocates files from w)))
      → IfOk r (λ w. ForSome a.files (λ from. AreCounted files K from → ForSome b.files (AllocatesIn files K from (file_selector w)))) → IfOk r (λ w. IsTrue (stands_among new w)) → IfOk r (λ w. KeepsLinks files new (file_selector w))
      → OnOk r (ForSome b.files (Agrees new)) → Stops K N → ForSome a.files (Agrees files) → IfOk r (λ w. ForSome a.files (λ from. CanBePlaced files size from → ForSome b.files (IsNewPlace files w from)))
  allocated_place {E} (Err e) K N kind count is chosen allocates within stands links now_agrees stops agrees = tt
  allocated_place {E} (Ok w) K N kind count is chosen allocates within stands links now_agrees stops agrees =
      ends_here w (subst (λ (n : ℕ). Ends (kind_for size) n w) (sym count) (subst (λ (k : ℕ). Ends k N w) (sym kind) (chosen, (allocates, (within, is))))) stands links now_agrees
      (subst (λ (n : ℕ). Stops (kind_for size) n) (sym count) (subst (λ (k : ℕ). Stops k N) (sym kind) stops)) agrees

-- Where it is stored.

pub stored_blocks : {E : Type 0} (r : Result ℕ E) (new : BlockFiles) (size K N : ℕ) → 0 < size → kind_for size ≢ external → kind_for size ≡ K → blocks_for size ≡ N → IfOk r (λ w. (kind_of w ≡ K) × (block_count w ≡ N)) → IfOk r (λ w. IsTrue (is_address w)) → IfOk r (λ w. IsTrue (stands_among new w)) → IfOk r (λ w. stores new size w ≡ true)
stored_blocks {E} (Err e) new size K N some blocky kind count is address stands = tt
stored_blocks {E} (Ok w) new size K N some blocky kind count is address stands = stores_stand new size w address some (is.0 ∙ sym kind) (λ e. blocky (kind ∙ sym is.0 ∙ e)) (is.1 ∙ sym count) ∙ stands

pub stored_file : (w : ℕ) (files : BlockFiles) (size : ℕ) → 0 < size → kind_for size ≡ external → kind_of w ≡ external → is_address w ≡ true → stores files size w ≡ true
stored_file w files size some kind is address =
    let a : (kind_of w == kind_for size) ≡ true = grind (arith, nat_tests) in
    let b : (kind_of w == external) ≡ true = grind (arith, nat_tests) in
    stores_is files size w address some ∙ (λ i. a i && (b i || ((block_count w == blocks_for size) && stands_among files w)))

-- The links of the others.

pub allocated_links : {E : Type 0} (r : Result ℕ E) (files new : BlockFiles) (size K N : ℕ) → kind_for size ≢ external → kind_for size ≡ K → IfOk r (λ w. (kind_of w ≡ K) × (block_count w ≡ N)) → IfOk r (λ w. KeepsLinks files new (file_selector w)) → IfOk r (λ w. KeepsOtherLinks files new w)
allocated_links {E} (Err e) files new size K N blocky kind is links = tt
allocated_links {E} (Ok w) files new size K N blocky kind is links = other_links files w (λ e. blocky (kind ∙ sym is.0 ∙ e)) new links
