use Rattle.std.proofs.Common.{◌≡◌, ◌⊎◌, inl, inr, refl, ℕ, ◌≢◌, ◌+◌, ◌/◌, ◌%◌, ◌≤◌, ◌<◌, true, false, None, Some, sym, ◌∙◌, ap, subst, arith, ⊎_elim}
use Rattle.std.specs.Option.{ForSome}
use Rattle.spec_image.specs.Image.{Block, Image, byte}
use Rattle.spec_image.specs.Told.{Told}
use Rattle.spec_image.proofs.Runs.{passes_none, passes_to, passes_weaker, passes_stayed, some_inj}
use Rattle.blk_addr.specs.Kind.{kind_number}
use Rattle.spec_format.specs.Growth.{StaysWhole}
use Rattle.spec_format.proofs.Growths.{whole_not}
use Rattle.blk_disk.specs.Tables.{Agrees, all_files, blocks_of, files_of}
use Rattle.blk_alloc.specs.Fitting.{HasNoRoom, IsFit, IsMapWord, IsPlace, IsFittingDamage, IsGroupSought}
use Rattle.blk_alloc.specs.Allocating.{AllocatesIn, AreCounted, ExtendsAnd, HaveNoRoom, Allocates, AllocatesAtLast, AllocatesInProgress, AllocatesOrStops, ExtendsAndAllocates, ExtendsInProgress, IsChosen, IsFoundBy, LiesAtHint, SetsHint, most_map_words, IsCountedOnce, IsRefusal}
use Rattle.std.specs.Prelude.{IfOk}
use Rattle.spec_format.specs.Address.{block_count, block_word, file_selector, first_block, is_address, kind_of}
use Rattle.spec_format.specs.Headers.{allocations_of, hints_of}
use Rattle.spec_format.specs.Maps.{groups_of}
use Rattle.blk_alloc.specs.Counting.{IsCounted}
use Rattle.blk_alloc.specs.Extending.{HasItsBlocks, KeepsBlockCounts, KeepsLinks, KeepsLists}
use Rattle.spec_format.specs.BlockFiles.{is_among}
use Rattle.blk_alloc.specs.Marking.{CanBeMarked, CountsUsed, HasHintAmong, MarksUsed, MarksUsedInProgress, taking_of}
use Rattle.std.proofs.lemmas.Result.{IfOk-weaker}
use Rattle.blk_alloc.specs.Owning.{IsCause}
use Rattle.blk_io.specs.Faults.{IfDamaged}
use Rattle.blk_io.proofs.Carried.{carried, if_damaged_weaker}
use Rattle.blk_alloc.proofs.Links.{if_ok_on, lists_links}
use Rattle.blk_alloc.proofs.Staying.{taking_whole}
use Rattle.blk_alloc.proofs.Members.{member_all}
use Rattle.blk_alloc.proofs.Searches.{of_some}
use Rattle.blk_alloc.proofs.Hinted.{all_member, no_room, one_sought}
use Rattle.blk_alloc.proofs.Placed.{place_start}
use Rattle.blk_alloc.proofs.Rooms.{fit_takeable, given_fit, if_ok_both, place_counted, word_address, word_file, word_kind}
use Rattle.blk_alloc.proofs.allocating.allocate_counted.Goals as goal

pub take-requires-clause-some : goal.take-requires-clause-some
take-requires-clause-some g c = subst (λ (k : ℕ). 0 < k) (sym ((of_some _ c.in-Some.found _ c.in-Some.is c.in_ok-found.ensures.place).0).counted) c.requires.some

pub take-requires-clause-node : goal.take-requires-clause-node
take-requires-clause-node g c is = ((of_some _ c.in-Some.found _ c.in-Some.is c.in_ok-found.ensures.place).0).counted ∙ c.requires.node is

pub take-requires-clause-place : goal.take-requires-clause-place
take-requires-clause-place g c =
    let place = (of_some _ c.in-Some.found _ c.in-Some.is c.in_ok-found.ensures.place).0 in
    subst (λ (k : ℕ). IsPlace c.args.files.now (kind_number c.args.kind) k c.in-Some.found.place) (sym place.counted) place

pub take-requires-clause-agrees : goal.take-requires-clause-agrees
take-requires-clause-agrees g c = subst (λ (t : Told). ForSome t.files (Agrees c.args.files.now)) (sym c.in_ok-found.ensures.reads.stays) c.requires.agrees

pub allocate_new-requires-clause-agrees : goal.allocate_new-requires-clause-agrees
allocate_new-requires-clause-agrees g c = subst (λ (t : Told). ForSome t.files (Agrees c.args.files.now)) (sym c.in_ok-found.ensures.reads.stays) c.requires.agrees

pub allocate_new-requires-clause-full : goal.allocate_new-requires-clause-full
allocate_new-requires-clause-full g c =
    subst (λ (t : Told). ForSome t.files (HaveNoRoom c.args.files.now (kind_number c.args.kind) c.args.blocks)) (sym c.in_ok-found.ensures.reads.stays)
    (c.in_ok-found.ensures.full c.in-None.is)

pub returns-in-Some-clause-kind : goal.returns-in-Some-clause-kind
returns-in-Some-clause-kind g c =
    IfOk-weaker c.take.result (λ addr. addr ≡ block_word (kind_number c.args.kind) c.in-Some.found.place.file c.in-Some.found.place.start c.in-Some.found.place.count)
    (λ addr. (kind_of addr ≡ kind_number c.args.kind) × (block_count addr ≡ c.args.blocks))
    (λ addr word. let is = word_kind c.args.files.now c.args.kind c.args.blocks c.in-Some.found.place c.requires.some ((of_some _ c.in-Some.found _ c.in-Some.is c.in_ok-found.ensures.place).0) in (ap kind_of word ∙ is.0, ap block_count word ∙ is.1)) c.take.ensures.word

pub returns-in_err-found-clause-stops : goal.returns-in_err-found-clause-stops
returns-in_err-found-clause-stops g c from there counted =
    let P = AllocatesInProgress c.args.files.now (kind_number c.args.kind) c.args.blocks from in
    passes_to (passes_none P c.in_err-found.ensures.reads.stays (λ image is. subst P (some_inj (sym there ∙ is)) (record { stage = inl refl; stays = whole_not from }))) (λ image is. inl is)

pub returns-in_err-found-clause-cause : goal.returns-in_err-found-clause-cause
returns-in_err-found-clause-cause g c =
    let kind = kind_number c.args.kind in
    carried c.find.result c.from_residual.result c.in_err-found.field-0.0 _ c.in_err-found.was c.from_residual.ensures.1
    (if_damaged_weaker c.find.result (IsFittingDamage c.args.files.now kind (g.F.Folder.told c.args.f.now)) (IsRefusal c.args.files.now c.args.files.now kind c.args.blocks (g.F.Folder.told c.args.f.now) (g.F.Folder.told c.find.new.folder))
    (λ damage why. inr (inr (c.find.ensures.reads.stays, inl why))) c.find.ensures.cause)

pub returns-in-Some-clause-address : goal.returns-in-Some-clause-address
returns-in-Some-clause-address g c =
    let place = (of_some _ c.in-Some.found _ c.in-Some.is c.in_ok-found.ensures.place).0 in
    IfOk-weaker c.take.result (λ addr. addr ≡ block_word (kind_number c.args.kind) c.in-Some.found.place.file c.in-Some.found.place.start c.in-Some.found.place.count) (λ addr. is_address addr ≡ true)
    (λ addr word. ap is_address word ∙ word_address c.args.files.now c.args.kind c.args.blocks c.in-Some.found.place c.requires.block_kind c.requires.some (λ node. c.requires.node node) place) c.take.ensures.word

pub returns-in-Some-clause-long : goal.returns-in-Some-clause-long
returns-in-Some-clause-long g c =
    let place = (of_some _ c.in-Some.found _ c.in-Some.is c.in_ok-found.ensures.place).0 in
    if_ok_on c.take.result (λ addr. addr ≡ block_word (kind_number c.args.kind) c.in-Some.found.place.file c.in-Some.found.place.start c.in-Some.found.place.count) (HasItsBlocks c.take.new.files c.in-Some.found.place.file) (λ addr. HasItsBlocks c.take.new.files (file_selector addr))
    (λ addr word long. subst (HasItsBlocks c.take.new.files) (sym (ap file_selector word ∙ word_file c.args.files.now c.args.kind c.args.blocks c.in-Some.found.place c.requires.some place)) long) c.take.ensures.word c.take.ensures.long

pub returns-in-Some-clause-links : goal.returns-in-Some-clause-links
returns-in-Some-clause-links g c =
    if_ok_on c.take.result (λ addr. addr ≡ block_word (kind_number c.args.kind) c.in-Some.found.place.file c.in-Some.found.place.start c.in-Some.found.place.count) (KeepsLists c.args.files.now c.take.new.files) (λ addr. KeepsLinks c.args.files.now c.take.new.files (file_selector addr))
    (λ addr word lists. lists_links c.args.files.now c.take.new.files (file_selector addr) lists) c.take.ensures.word c.take.ensures.links

pub returns-in-Some-clause-counted : goal.returns-in-Some-clause-counted
returns-in-Some-clause-counted g c =
    let place = (of_some _ c.in-Some.found _ c.in-Some.is c.in_ok-found.ensures.place).0 in
    if_ok_on c.take.result (λ addr. addr ≡ block_word (kind_number c.args.kind) c.in-Some.found.place.file c.in-Some.found.place.start c.in-Some.found.place.count) (ForSome (g.F.Folder.told c.find.new.folder).files (λ mid. ForSome (g.F.Folder.told c.take.new.folder).files (CountsUsed c.in-Some.found.place.file c.in-Some.found.place.start mid)))
    (λ addr. ForSome (g.F.Folder.told c.args.f.now).files (λ from. ForSome (g.F.Folder.told c.take.new.folder).files (IsCountedOnce c.args.files.now from addr)))
    (λ addr word counted from there image now.
    let file = ap file_selector word ∙ word_file c.args.files.now c.args.kind c.args.blocks c.in-Some.found.place c.requires.some place in
    subst (λ (m : ℕ). is_among (all_files c.args.files.now) m ≡ true → IsCounted true (allocations_of (byte from (Block m))) (allocations_of (byte image (Block m)))) (sym file)
    (λ linked. (counted from (ap (λ (t : Told). t.files) c.in_ok-found.ensures.reads.stays ∙ there) image now).allocations))
    c.take.ensures.word c.take.ensures.counted

pub returns-in-Some-clause-allocates : goal.returns-in-Some-clause-allocates
returns-in-Some-clause-allocates g c =
    let kind : ℕ = kind_number c.args.kind in
    let place = (of_some _ c.in-Some.found _ c.in-Some.is c.in_ok-found.ensures.place).0 in
    let there_fit : (i : Image) → (g.F.Folder.told c.args.f.now).files ≡ Some i → IsFit i (files_of c.args.files.now kind) c.args.blocks c.in-Some.found.place =
    of_some _ c.in-Some.found _ c.in-Some.is c.in_ok-found.ensures.fit in
    let markable : (i : Image) → (g.F.Folder.told c.args.f.now).files ≡ Some i → AreCounted c.args.files.now kind i → CanBeMarked i c.in-Some.found.place =
    (λ i told counted. fit_takeable c.args.files.now i c.args.kind c.args.blocks c.in-Some.found.place c.requires.block_kind (c.requires.agrees i told) counted place (there_fit i told)) in
    if_ok_both c.take.result (λ addr. addr ≡ block_word (kind_number c.args.kind) c.in-Some.found.place.file c.in-Some.found.place.start c.in-Some.found.place.count)
    (λ addr. ForSome (g.F.Folder.told c.find.new.folder).files (λ from. CanBeMarked from c.in-Some.found.place → ForSome (g.F.Folder.told c.take.new.folder).files (MarksUsed c.args.files.now from addr)))
    (λ addr. ForSome (g.F.Folder.told c.args.f.now).files (λ from. AreCounted c.args.files.now kind from → ForSome (g.F.Folder.told c.take.new.folder).files (Allocates c.args.files.now from addr)))
    (λ addr word used from there counted image now.
    let file = ap file_selector word ∙ word_file c.args.files.now c.args.kind c.args.blocks c.in-Some.found.place c.requires.some place in
    given_fit c.args.files.now from image addr (member_all c.args.files.now c.args.kind (file_selector addr) c.requires.block_kind (ap (is_among (files_of c.args.files.now kind)) file ∙ place.linked))
    (used from (ap (λ (t : Told). t.files) c.in_ok-found.ensures.reads.stays ∙ there) (markable from there counted) image now))
    c.take.ensures.word c.take.ensures.used

pub returns-in-Some-clause-within : goal.returns-in-Some-clause-within
returns-in-Some-clause-within g c =
    let kind : ℕ = kind_number c.args.kind in
    let place = (of_some _ c.in-Some.found _ c.in-Some.is c.in_ok-found.ensures.place).0 in
    let there_fit : (i : Image) → (g.F.Folder.told c.args.f.now).files ≡ Some i → IsFit i (files_of c.args.files.now kind) c.args.blocks c.in-Some.found.place =
    of_some _ c.in-Some.found _ c.in-Some.is c.in_ok-found.ensures.fit in
    let markable : (i : Image) → (g.F.Folder.told c.args.f.now).files ≡ Some i → AreCounted c.args.files.now kind i → CanBeMarked i c.in-Some.found.place =
    (λ i told counted. fit_takeable c.args.files.now i c.args.kind c.args.blocks c.in-Some.found.place c.requires.block_kind (c.requires.agrees i told) counted place (there_fit i told)) in
    if_ok_both c.take.result (λ addr. addr ≡ block_word (kind_number c.args.kind) c.in-Some.found.place.file c.in-Some.found.place.start c.in-Some.found.place.count)
    (λ addr. ForSome (g.F.Folder.told c.find.new.folder).files (λ from. CanBeMarked from c.in-Some.found.place → ForSome (g.F.Folder.told c.take.new.folder).files (MarksUsed c.args.files.now from addr)))
    (λ addr. ForSome (g.F.Folder.told c.args.f.now).files (λ from. AreCounted c.args.files.now kind from → ForSome (g.F.Folder.told c.take.new.folder).files (AllocatesIn c.args.files.now kind from (file_selector addr))))
    (λ addr word used from there counted image now. inl (used from (ap (λ (t : Told). t.files) c.in_ok-found.ensures.reads.stays ∙ there) (markable from there counted) image now).same)
    c.take.ensures.word c.take.ensures.used

pub returns-in-Some-clause-stops : goal.returns-in-Some-clause-stops
returns-in-Some-clause-stops g c from there counted =
    let kind : ℕ = kind_number c.args.kind in
    let place = (of_some _ c.in-Some.found _ c.in-Some.is c.in_ok-found.ensures.place).0 in
    let there_fit : (i : Image) → (g.F.Folder.told c.args.f.now).files ≡ Some i → IsFit i (files_of c.args.files.now kind) c.args.blocks c.in-Some.found.place =
    of_some _ c.in-Some.found _ c.in-Some.is c.in_ok-found.ensures.fit in
    let markable : (i : Image) → (g.F.Folder.told c.args.f.now).files ≡ Some i → AreCounted c.args.files.now kind i → CanBeMarked i c.in-Some.found.place =
    (λ i told counted. fit_takeable c.args.files.now i c.args.kind c.args.blocks c.in-Some.found.place c.requires.block_kind (c.requires.agrees i told) counted place (there_fit i told)) in
    let told = ap (λ (t : Told). t.files) c.in_ok-found.ensures.reads.stays ∙ there in
    let fit = there_fit from there in
    let w : ℕ = block_word kind c.in-Some.found.place.file c.in-Some.found.place.start c.in-Some.found.place.count in
    let keeps : (i : Image) → MarksUsedInProgress c.in-Some.found.place.file from i → AllocatesInProgress c.args.files.now kind c.args.blocks from i =
    (λ i marks. record { stage = inr (inl (c.in-Some.found.place, fit, marks)); stays = taking_whole c.in-Some.found.place.file from i marks.same marks.longer }) in
    let ends : (i : Image) → MarksUsed c.args.files.now from w i × HasHintAmong c.in-Some.found.place.file c.in-Some.found.i (c.in-Some.found.place.start / 4) from i → AllocatesAtLast c.args.files.now kind c.args.blocks from i =
    (λ i both. let used = both.0 in record { choice = inl (c.in-Some.found.place, fit, subst (λ (k : ℕ). MarksUsed c.args.files.now from (block_word kind c.in-Some.found.place.file c.in-Some.found.place.start k) i) fit.counted used); stays = taking_whole (file_selector w) from i used.same used.longer }) in
    passes_stayed c.in_ok-found.ensures.reads.stays (passes_weaker (c.take.ensures.stops from told (markable from there counted)) keeps (λ i. ⊎_elim (λ marks. inl (keeps i marks)) (λ used. inr (ends i used))))

pub returns-in-Some-clause-cause : goal.returns-in-Some-clause-cause
returns-in-Some-clause-cause g c =
    let kind : ℕ = kind_number c.args.kind in
    let counted = ((of_some _ c.in-Some.found _ c.in-Some.is c.in_ok-found.ensures.place).0).counted in
    let place = c.in-Some.found.place in
    let is = place_counted c.take.new.files kind c.args.blocks place counted c.take.ensures.place in
    let after = g.F.Folder.told c.take.new.folder in
    if_damaged_weaker c.take.result (IsCause after place.file place.start place.count true)
    (IsRefusal c.args.files.now c.take.new.files kind c.args.blocks (g.F.Folder.told c.args.f.now) after)
    (λ damage why. inl (record { place = place; is = is; cause = why })) c.take.ensures.cause

pub returns-in-Some-clause-untold : goal.returns-in-Some-clause-untold
returns-in-Some-clause-untold g c all_counted =
    let kind : ℕ = kind_number c.args.kind in
    let place = (of_some _ c.in-Some.found _ c.in-Some.is c.in_ok-found.ensures.place).0 in
    let there_fit : (i : Image) → (g.F.Folder.told c.args.f.now).files ≡ Some i → IsFit i (files_of c.args.files.now kind) c.args.blocks c.in-Some.found.place =
    of_some _ c.in-Some.found _ c.in-Some.is c.in_ok-found.ensures.fit in
    let markable : (i : Image) → (g.F.Folder.told c.args.f.now).files ≡ Some i → AreCounted c.args.files.now kind i → CanBeMarked i c.in-Some.found.place =
    (λ i told counted. fit_takeable c.args.files.now i c.args.kind c.args.blocks c.in-Some.found.place c.requires.block_kind (c.requires.agrees i told) counted place (there_fit i told)) in
    if_damaged_weaker c.take.result (λ _. ForSome (g.F.Folder.told c.find.new.folder).files (λ image. CanBeMarked image c.in-Some.found.place) → (g.F.Folder.told c.find.new.folder).files ≡ None) (λ _. (g.F.Folder.told c.args.f.now).files ≡ None)
    (λ damage none. ap (λ (t : Told). t.files) (sym c.in_ok-found.ensures.reads.stays) ∙ none (λ i now. let told = ap (λ (t : Told). t.files) (sym c.in_ok-found.ensures.reads.stays) ∙ now in markable i told (all_counted i told))) c.take.ensures.untold

pub returns-in-None-clause-counted : goal.returns-in-None-clause-counted
returns-in-None-clause-counted g c =
    subst (λ (t : Told). IfOk c.allocate_new.result (λ addr. ForSome t.files (λ from. ForSome (g.F.Folder.told c.allocate_new.new.folder).files (IsCountedOnce c.args.files.now from addr)))) c.in_ok-found.ensures.reads.stays c.allocate_new.ensures.counted

pub returns-in-None-clause-allocates : goal.returns-in-None-clause-allocates
returns-in-None-clause-allocates g c =
    let kind : ℕ = kind_number c.args.kind in
    IfOk-weaker c.allocate_new.result
    (λ addr. ForSome (g.F.Folder.told c.find.new.folder).files (λ from. AreCounted c.args.files.now kind from → ForSome (g.F.Folder.told c.allocate_new.new.folder).files (λ image. Allocates c.args.files.now from addr image × ExtendsAnd taking_of c.args.files.now kind from (file_selector addr) image)))
    (λ addr. ForSome (g.F.Folder.told c.args.f.now).files (λ from. AreCounted c.args.files.now kind from → ForSome (g.F.Folder.told c.allocate_new.new.folder).files (Allocates c.args.files.now from addr)))
    (λ addr both from there counted image now. (both from (ap (λ (t : Told). t.files) c.in_ok-found.ensures.reads.stays ∙ there) counted image now).0) c.allocate_new.ensures.allocates

pub returns-in-None-clause-within : goal.returns-in-None-clause-within
returns-in-None-clause-within g c =
    let kind : ℕ = kind_number c.args.kind in
    IfOk-weaker c.allocate_new.result
    (λ addr. ForSome (g.F.Folder.told c.find.new.folder).files (λ from. AreCounted c.args.files.now kind from → ForSome (g.F.Folder.told c.allocate_new.new.folder).files (λ image. Allocates c.args.files.now from addr image × ExtendsAnd taking_of c.args.files.now kind from (file_selector addr) image)))
    (λ addr. ForSome (g.F.Folder.told c.args.f.now).files (λ from. AreCounted c.args.files.now kind from → ForSome (g.F.Folder.told c.allocate_new.new.folder).files (AllocatesIn c.args.files.now kind from (file_selector addr))))
    (λ addr both from there counted image now. inr (both from (ap (λ (t : Told). t.files) c.in_ok-found.ensures.reads.stays ∙ there) counted image now).1) c.allocate_new.ensures.allocates

pub returns-in-None-clause-stops : goal.returns-in-None-clause-stops
returns-in-None-clause-stops g c from there counted =
    let kind : ℕ = kind_number c.args.kind in
    let told = ap (λ (t : Told). t.files) c.in_ok-found.ensures.reads.stays ∙ there in
    let none : HaveNoRoom c.args.files.now kind c.args.blocks from = c.in_ok-found.ensures.full c.in-None.is from there in
    let keeps : (i : Image) → ExtendsInProgress c.args.files.now kind from i × StaysWhole from i → AllocatesInProgress c.args.files.now kind c.args.blocks from i = (λ i extends. record { stage = inr (inr (none, extends.0)); stays = extends.1 }) in
    let ends : (i : Image) → (ExtendsInProgress c.args.files.now kind from i ⊎ ExtendsAndAllocates c.args.files.now kind c.args.blocks from i) × StaysWhole from i → AllocatesOrStops c.args.files.now kind c.args.blocks from i =
    (λ i both. ⊎_elim (λ (midst : ExtendsInProgress c.args.files.now kind from i). inl (keeps i (midst, both.1))) (λ (done : ExtendsAndAllocates c.args.files.now kind c.args.blocks from i). inr (record { choice = inr (none, done); stays = both.1 })) both.0) in
    passes_stayed c.in_ok-found.ensures.reads.stays (passes_weaker (c.allocate_new.ensures.stops from told counted) keeps ends)

pub returns-in-None-clause-cause : goal.returns-in-None-clause-cause
returns-in-None-clause-cause g c =
    subst (λ (t : Told). IfDamaged c.allocate_new.result (IsRefusal c.args.files.now c.allocate_new.new.files (kind_number c.args.kind) c.args.blocks t (g.F.Folder.told c.allocate_new.new.folder))) c.in_ok-found.ensures.reads.stays c.allocate_new.ensures.cause

pub returns-in-None-clause-untold : goal.returns-in-None-clause-untold
returns-in-None-clause-untold g c counted =
    subst (λ (t : Told). IfDamaged c.allocate_new.result (λ _. t.files ≡ None)) c.in_ok-found.ensures.reads.stays
    (c.allocate_new.ensures.untold (subst (λ (t : Told). ForSome t.files (AreCounted c.args.files.now (kind_number c.args.kind))) (sym c.in_ok-found.ensures.reads.stays) counted))

pub returns-in-None-clause-address : goal.returns-in-None-clause-address
returns-in-None-clause-address g c = c.allocate_new.ensures.address

pub returns-in-Some-clause-chosen : goal.returns-in-Some-clause-chosen
returns-in-Some-clause-chosen g c =
    let kind : ℕ = kind_number c.args.kind in
    IfOk-weaker c.take.result (λ addr. addr ≡ block_word (kind_number c.args.kind) c.in-Some.found.place.file c.in-Some.found.place.start c.in-Some.found.place.count)
    (λ addr. ForSome (g.F.Folder.told c.args.f.now).files (λ from. IsChosen c.args.files.now from kind c.args.blocks addr))
    (λ addr word from there. record {
      place = c.in-Some.found.place;
      word = subst (λ (k : ℕ). addr ≡ block_word kind c.in-Some.found.place.file c.in-Some.found.place.start k) ((of_some _ c.in-Some.found _ c.in-Some.is c.in_ok-found.ensures.place).0).counted word;
      chosen = inl (of_some _ c.in-Some.found _ c.in-Some.is c.in_ok-found.ensures.fit from there);
    }) c.take.ensures.word

pub take-requires-clause-small : goal.take-requires-clause-small
take-requires-clause-small g c = (of_some _ c.in-Some.found _ c.in-Some.is c.in_ok-found.ensures.place).1

pub take-requires-clause-read : goal.take-requires-clause-read
take-requires-clause-read g c =
    subst (λ (t : Told). ForSome t.files (λ image. IsMapWord image c.in-Some.found.place.file (c.in-Some.found.place.start / 32) c.in-Some.found.word)) (sym c.in_ok-found.ensures.reads.stays) (of_some _ c.in-Some.found _ c.in-Some.is c.in_ok-found.ensures.word)

pub returns-in-Some-clause-hints : goal.returns-in-Some-clause-hints
returns-in-Some-clause-hints g c =
    let kind : ℕ = kind_number c.args.kind in
    let place = (of_some _ c.in-Some.found _ c.in-Some.is c.in_ok-found.ensures.place).0 in
    let P = c.in-Some.found.place in
    if_ok_on c.take.result (λ addr. addr ≡ block_word (kind_number c.args.kind) c.in-Some.found.place.file c.in-Some.found.place.start c.in-Some.found.place.count) (ForSome (g.F.Folder.told c.find.new.folder).files (λ mid. ForSome (g.F.Folder.told c.take.new.folder).files (HasHintAmong P.file c.in-Some.found.i (P.start / 4) mid)))
    (λ addr. ForSome (g.F.Folder.told c.args.f.now).files (λ from. ForSome (g.F.Folder.told c.take.new.folder).files (SetsHint c.args.files.now kind c.args.blocks from addr)))
    (λ addr word hint from there image now.
    let set = hint from (ap (λ (t : Told). t.files) c.in_ok-found.ensures.reads.stays ∙ there) image now in
    let file = ap file_selector word ∙ word_file c.args.files.now c.args.kind c.args.blocks P c.requires.some place in
    let start = ap first_block word ∙ place_start c.args.files.now c.args.kind P (omega (arith, place.counted, c.requires.some)) (subst (λ (k : ℕ). IsPlace c.args.files.now kind k P) (sym place.counted) place) in
    let sought = of_some _ c.in-Some.found _ c.in-Some.is c.in_ok-found.ensures.sought from there in
    record {
      i = c.in-Some.found.i;
      found = inl (ap (is_among (files_of c.args.files.now kind)) file ∙ place.linked, subst (λ (n : ℕ). IsGroupSought from n c.args.blocks c.in-Some.found.i) (sym file) sought);
      set = (λ j. hints_of (byte image (Block (file j))) c.in-Some.found.i) ∙ set.set ∙ ap (λ (s : ℕ). s / 4) (sym start);
      others = λ n j among small apart. set.others n j small (⊎_elim (λ (other : n ≢ file_selector addr). inl (λ (e : n ≡ P.file). other (e ∙ sym file))) (λ other. inr other) apart);
    })
    c.take.ensures.word c.take.ensures.hint

pub returns-in-Some-clause-most : goal.returns-in-Some-clause-most
returns-in-Some-clause-most g c =
    let place = (of_some _ c.in-Some.found _ c.in-Some.is c.in_ok-found.ensures.place).0 in
    let P = c.in-Some.found.place in
    if_ok_on c.take.result (λ addr. addr ≡ block_word (kind_number c.args.kind) c.in-Some.found.place.file c.in-Some.found.place.start c.in-Some.found.place.count) (KeepsBlockCounts c.args.files.now c.take.new.files) (λ addr. c.find.new.steps ≤ c.args.steps.now + most_map_words c.take.new.files (file_selector addr))
    (λ addr word blocks.
    let file = ap file_selector word ∙ word_file c.args.files.now c.args.kind c.args.blocks P c.requires.some place in
    let most = of_some _ c.in-Some.found _ c.in-Some.is c.in_ok-found.ensures.most in
    let same = blocks P.file in
    subst (λ (m : ℕ). c.find.new.steps ≤ c.args.steps.now + most_map_words c.take.new.files m) (sym file) (omega (arith, most, same)))
    c.take.ensures.word c.take.ensures.blocks

-- a file of a kind is one that is kept
clash : true ≡ false → ⊥
clash e = cc

pub returns-in-Some-clause-once : goal.returns-in-Some-clause-once
returns-in-Some-clause-once g c =
    let kind : ℕ = kind_number c.args.kind in
    let place = (of_some _ c.in-Some.found _ c.in-Some.is c.in_ok-found.ensures.place).0 in
    let P = c.in-Some.found.place in
    let all = member_all c.args.files.now c.args.kind P.file c.requires.block_kind place.linked in
    if_ok_on c.take.result (λ addr. addr ≡ block_word (kind_number c.args.kind) c.in-Some.found.place.file c.in-Some.found.place.start c.in-Some.found.place.count) (KeepsBlockCounts c.args.files.now c.take.new.files)
    (λ addr. ForSome (g.F.Folder.told c.args.f.now).files (λ from. LiesAtHint c.args.files.now c.take.new.files kind c.args.blocks from addr → c.find.new.steps ≡ c.args.steps.now + 1))
    (λ addr word blocks from there.
    let file = ap file_selector word ∙ word_file c.args.files.now c.args.kind c.args.blocks P c.requires.some place in
    let start = ap first_block word ∙ place_start c.args.files.now c.args.kind P (omega (arith, place.counted, c.requires.some)) (subst (λ (k : ℕ). IsPlace c.args.files.now kind k P) (sym place.counted) place) in
    let sought = of_some _ c.in-Some.found _ c.in-Some.is c.in_ok-found.ensures.sought from there in
    let fit = of_some _ c.in-Some.found _ c.in-Some.is c.in_ok-found.ensures.fit from there in
    ⊎_elim (λ (new : is_among (all_files c.args.files.now) (file_selector addr) ≡ false). absurd (clash (sym all ∙ ap (is_among (all_files c.args.files.now)) (sym file) ∙ new)))
    (λ (lies : (i : ℕ) × IsFoundBy c.args.files.now kind c.args.blocks from addr i × (first_block addr / 4 ≡ hints_of (byte from (Block (file_selector addr))) i % groups_of (blocks_of c.take.new.files (file_selector addr)))).
    let same : lies.0 ≡ c.in-Some.found.i =
    ⊎_elim (λ (had : (is_among (files_of c.args.files.now kind) (file_selector addr) ≡ true) × IsGroupSought from (file_selector addr) c.args.blocks lies.0). one_sought from P.file c.args.blocks lies.0 c.in-Some.found.i (subst (λ (n : ℕ). IsGroupSought from n c.args.blocks lies.0) file had.1) sought)
    (λ (none : HaveNoRoom c.args.files.now kind c.args.blocks from × (lies.0 ≡ 3)). absurd (no_room from P.file c.args.blocks c.in-Some.found.i sought (all_member (HasNoRoom from c.args.blocks) (files_of c.args.files.now kind) P.file place.linked none.0))) lies.1 in
    of_some _ c.in-Some.found _ c.in-Some.is c.in_ok-found.ensures.once from there
    (ap (λ (s : ℕ). s / 4) (sym start) ∙ lies.2 ∙ (λ j. hints_of (byte from (Block (file j))) (same j) % groups_of (blocks_of c.take.new.files (file j))) ∙ ap (λ (b : ℕ). hints_of (byte from (Block P.file)) c.in-Some.found.i % groups_of b) (blocks P.file))))
    c.take.ensures.word c.take.ensures.blocks

pub returns-in-None-clause-chosen : goal.returns-in-None-clause-chosen
returns-in-None-clause-chosen g c =
    subst (λ (t : Told). IfOk c.allocate_new.result (λ addr. ForSome t.files (λ from. IsChosen c.args.files.now from (kind_number c.args.kind) c.args.blocks addr))) c.in_ok-found.ensures.reads.stays c.allocate_new.ensures.chosen

pub returns-in-None-clause-hints : goal.returns-in-None-clause-hints
returns-in-None-clause-hints g c =
    subst (λ (t : Told). IfOk c.allocate_new.result (λ addr. ForSome t.files (λ from. ForSome (g.F.Folder.told c.allocate_new.new.folder).files (SetsHint c.args.files.now (kind_number c.args.kind) c.args.blocks from addr)))) c.in_ok-found.ensures.reads.stays c.allocate_new.ensures.hints

pub returns-in-None-clause-once : goal.returns-in-None-clause-once
returns-in-None-clause-once g c =
    IfOk-weaker c.allocate_new.result
    (λ addr. ForSome (g.F.Folder.told c.find.new.folder).files (λ from. LiesAtHint c.args.files.now c.allocate_new.new.files (kind_number c.args.kind) c.args.blocks from addr → c.allocate_new.new.steps ≡ c.find.new.steps + 1))
    (λ addr. ForSome (g.F.Folder.told c.args.f.now).files (λ from. LiesAtHint c.args.files.now c.allocate_new.new.files (kind_number c.args.kind) c.args.blocks from addr → c.allocate_new.new.steps ≡ c.args.steps.now + 1))
    (λ addr once from there lies. let counts = once from (ap (λ (t : Told). t.files) c.in_ok-found.ensures.reads.stays ∙ there) lies in let none = c.in_ok-found.ensures.none c.in-None.is in omega (arith, counts, none)) c.allocate_new.ensures.once
