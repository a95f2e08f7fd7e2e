use Rattle.std.proofs.Common.{◌≡◌, ◌⊎◌, inl, inr, ℕ, ◌+◌, ◌-◌, ◌/◌, ◌%◌, ◌<◌, ◌≤◌, length, Option, None, Some, refl, true, sym, ap, ◌∙◌, subst, arith, ⊎_elim}
use Rattle.std.specs.List.{All}
use Rattle.std.specs.Option.{ForSome}
use Rattle.std.specs.Prelude.{IfOk, OnOk, Result, Ok, Err}
use Rattle.std.proofs.lemmas.Result.{IfOk-weaker}
use Rattle.spec_image.specs.Image.{Block, Image, byte}
use Rattle.spec_image.specs.Told.{Told, PassesTo}
use Rattle.spec_image.proofs.Runs.{passes_end, passes_stayed, passes_then, passes_weaker}
use Rattle.spec_format.specs.Address.{block_count, block_word, file_selector, first_block, kind_of}
use Rattle.spec_format.specs.BlockFiles.{is_among}
use Rattle.spec_format.specs.Growth.{StaysWhole}
use Rattle.spec_format.specs.Headers.{allocations_of, empty_of}
use Rattle.spec_format.specs.Maps.{groups_of, EmptyAgrees}
use Rattle.spec_format.proofs.LinkedHeads.{count_whole}
use Rattle.blk_addr.specs.Kind.{kind_number}
use Rattle.blk_disk.specs.Tables.{Agrees, all_files, blocks_of, files_of}
use Rattle.blk_disk.proofs.KeptOnce.{counts}
use Rattle.blk_alloc.specs.Counting.{IsCounted}
use Rattle.blk_alloc.specs.Fitting.{IsByHint, IsPlace}
use Rattle.blk_alloc.specs.Extending.{HasItsBlocks, HasMostBlocks, KeepsBlockCounts, KeepsLinks, KeepsLists}
use Rattle.blk_alloc.specs.Marking.{CanBeMarked, CountsUsed, HasHintAmong, MarksUsed, taking_of}
use Rattle.blk_alloc.specs.Allocating.{Allocates, AreCounted, ExtendsAnd, ExtendsAndAllocates, ExtendsInProgress, IsChosen, IsCountedOnce, LiesAtHint, MakesRoomInProgress, SetsHint, most_map_words, updating_word}
use Rattle.blk_disk.specs.declared.tables.BlockFiles.{BlockFiles}
use Rattle.blk_alloc.specs.declared.blocks.Blocks.{Blocks}
use Rattle.blk_alloc.proofs.Links.{if_ok_on, links_then}
use Rattle.blk_alloc.proofs.MadeRoom.{at_hint, can_take, extends_there, no_hints, room_place, sets_hint}
use Rattle.blk_alloc.proofs.Members.{member_all}
use Rattle.blk_alloc.proofs.Moments.{mark_moment, marked_moment, room_moment}
use Rattle.blk_alloc.proofs.Placed.{place_start}
use Rattle.blk_alloc.proofs.Rooms.{given_made, never_full, room_marked, told_later, untold_before, word_file, word_kind}
use Rattle.blk_io.proofs.Carried.{carried, if_damaged_weaker, told_at_end, untold_where}
use Rattle.blk_alloc.proofs.allocating.allocate_new.Goals as goal

-- a failed check needs a folder that was opaque at the start of the call
silent_start : {old mid : Told} (P : Image → Image → Type 0) (T : Image → Type 0) → ForSome old.files (λ from. PassesTo old mid (P from) (P from)) → ForSome old.files (λ from. ForSome mid.files T) → (ForSome mid.files T → mid.files ≡ None) → old.files ≡ None
silent_start {old} {mid} P T stops made none = by_files old.files refl
  where
    by_files : (o : Option Image) → old.files ≡ o → old.files ≡ None
    by_files None is = is
    by_files (Some from) is = untold_before P stops (none (made from is))

-- what three facts say of a value they say together
three : {A E : Type 0} (r : Result A E) (P Q : A → Type 0) (X : Type 0) (R : A → Type 0) → ((a : A) → P a → Q a → X → R a) → IfOk r P → IfOk r Q → OnOk r X → IfOk r R
three {A} {E} (Ok a) P Q X R all p q x = all a p q x
three {A} {E} (Err e) P Q X R all p q x = tt

-- the groups of space that was made
few_groups : (start below result : ℕ) → start % 4 ≡ 0 → below % 4 ≡ 0 → start < below → result ≡ (below - start) / 4 → 0 < result
few_groups start below result one other less is = omega (arith, one, other, less, is)

-- the fact that space is of the file that gives it
fits_there : (files : BlockFiles) (kind n count : ℕ) (place : Blocks) → n ≡ count → IsPlace files kind n place → IsPlace files kind count place
fits_there files kind n count place e is = subst (λ (m : ℕ). IsPlace files kind m place) e is

pub overflow_sub-groups : goal.overflow_sub-groups
overflow_sub-groups g c =
    let fits = c.in_ok-room.ensures.fits in
    let all = member_all c.new_room.new.files c.args.kind c.in_ok-room.room.file c.requires.block_kind fits.linked in
    let is = c.blocks_in.ensures.blocks all in
    let below = fits.below in
    let small = fits.small in
    omega (arith, is, below, small)

pub find_by_hint-requires : goal.find_by_hint-requires
find_by_hint-requires g c =
    let fits = c.in_ok-room.ensures.fits in
    let n = c.in_ok-room.room.file in
    let all = member_all c.new_room.new.files c.args.kind n c.requires.block_kind fits.linked in
    let whole = count_whole _ (counts c.new_room.new.files n all) in
    let is = c.blocks_in.ensures.blocks all in
    let same : c.blocks_in.result ≡ blocks_of c.new_room.new.files n = (let most = whole.1 in omega (arith, is, most)) in
    let count = fits.counted in
    record {
      block_kind = c.requires.block_kind;
      some = omega (arith, count, c.requires.some);
      enough = omega (arith, count, c.requires.few);
      few = omega (arith, count, c.requires.few);
      small = omega arith;
      number = fits.number;
      linked = fits.linked;
      counts = few_groups c.in_ok-room.room.start (blocks_of c.new_room.new.files n) _ c.in_ok-room.ensures.whole whole.0 fits.below (ap (λ (b : ℕ). (b - c.in_ok-room.room.start) / 4) same);
      counted = told_at_end (g.F.Folder.told c.args.folder.now).files (g.F.Folder.told c.new_room.new.folder).files (λ mid. (c.blocks_in.result - c.in_ok-room.room.start) / 4 ≡ empty_of (byte mid (Block n)) 3) c.in_ok-room.ensures.writes.silent
          (λ from there mid now. ap (λ (b : ℕ). (b - c.in_ok-room.room.start) / 4) same ∙ sym (c.in_ok-room.ensures.raised from there mid now));
    }

pub take-requires-clause-agrees : goal.take-requires-clause-agrees
take-requires-clause-agrees g c = subst (λ (t : Told). ForSome t.files (Agrees c.new_room.new.files)) (sym c.in_ok-found.ensures.reads.stays) c.in_ok-room.ensures.agrees

pub returns-in_err-room-clause-stops : goal.returns-in_err-room-clause-stops
returns-in_err-room-clause-stops g c from there counted =
    let keeps = room_moment c.args.files.now (kind_number c.args.kind) from in
    passes_weaker (c.in_err-room.ensures.stops from there) keeps (λ i room. (inl (keeps i room).0, (keeps i room).1))

pub returns-in_err-room-clause-untold : goal.returns-in_err-room-clause-untold
returns-in_err-room-clause-untold g c counted =
    let told = g.F.Folder.told c.args.folder.now in
    let list = files_of c.args.files.now (kind_number c.args.kind) in
    carried c.new_room.result c.from_residual.result c.in_err-room.field-0.0 _ c.in_err-room.was c.from_residual.ensures.1
    (if_damaged_weaker c.new_room.result (λ _. All (HasMostBlocks c.args.files.now) list × (60 ≤ length list)) (λ _. told.files ≡ None)
    (λ damage sixty. untold_where told.files (λ from there. never_full c.args.files.now from c.args.kind c.args.count c.requires.block_kind c.requires.some c.requires.few (c.requires.agrees from there) (counted from there) (c.requires.full from there) sixty.0 sixty.1))
    c.new_room.ensures.sixty)

pub returns-in_err-found-clause-stops : goal.returns-in_err-found-clause-stops
returns-in_err-found-clause-stops g c from there counted =
    let keeps = room_moment c.args.files.now (kind_number c.args.kind) from in
    subst (λ (t : Told). PassesTo (g.F.Folder.told c.args.folder.now) t (λ image. ExtendsInProgress c.args.files.now (kind_number c.args.kind) from image × StaysWhole from image) (λ image. (ExtendsInProgress c.args.files.now (kind_number c.args.kind) from image ⊎ ExtendsAndAllocates c.args.files.now (kind_number c.args.kind) c.args.count from image) × StaysWhole from image)) (sym c.in_err-found.ensures.reads.stays)
    (passes_weaker (c.in_ok-room.ensures.stops from there) keeps (λ i room. (inl (keeps i room).0, (keeps i room).1)))

pub returns-in_err-found-clause-untold : goal.returns-in_err-found-clause-untold
returns-in_err-found-clause-untold g c counted =
    let new = c.new_room.new.files in
    let T : Image → Type 0 = λ mid. Agrees new mid × EmptyAgrees mid c.in_ok-room.room.file in
    carried c.find_by_hint.result c.from_residual-in_err-found.result c.in_err-found.field-0.0 _ c.in_err-found.was c.from_residual-in_err-found.ensures.1
    (if_damaged_weaker c.find_by_hint.result (λ _. (g.F.Folder.told c.new_room.new.folder).files ≡ None) (λ _. (g.F.Folder.told c.args.folder.now).files ≡ None)
    (λ damage none. untold_before (MakesRoomInProgress c.args.files.now (kind_number c.args.kind)) c.in_ok-room.ensures.stops none)
    (c.find_by_hint.ensures.untold (told_at_end (g.F.Folder.told c.args.folder.now).files (g.F.Folder.told c.new_room.new.folder).files T c.in_ok-room.ensures.writes.silent
    (λ from there mid now. (c.in_ok-room.ensures.agrees mid now, (c.in_ok-room.ensures.made from there (counted from there) mid now).takeable.ready.empty)))))

pub returns-clause-kind : goal.returns-clause-kind
returns-clause-kind g c =
    let P = c.in_ok-found.found.place in
    let is_place = fits_there c.new_room.new.files (kind_number c.args.kind) c.in_ok-room.room.count c.args.count P c.in_ok-room.ensures.fits.counted c.in_ok-found.ensures.place in
    IfOk-weaker c.take.result (λ addr. addr ≡ block_word (kind_number c.args.kind) c.in_ok-found.found.place.file c.in_ok-found.found.place.start c.in_ok-found.found.place.count)
    (λ addr. (kind_of addr ≡ kind_number c.args.kind) × (block_count addr ≡ c.args.count))
    (λ addr word. let is = word_kind c.new_room.new.files c.args.kind c.args.count P c.requires.some is_place in (ap kind_of word ∙ is.0, ap block_count word ∙ is.1)) c.take.ensures.word

pub returns-clause-links : goal.returns-clause-links
returns-clause-links g c =
    let P = c.in_ok-found.found.place in
    let is_place = fits_there c.new_room.new.files (kind_number c.args.kind) c.in_ok-room.room.count c.args.count P c.in_ok-room.ensures.fits.counted c.in_ok-found.ensures.place in
    if_ok_on c.take.result (λ addr. addr ≡ block_word (kind_number c.args.kind) c.in_ok-found.found.place.file c.in_ok-found.found.place.start c.in_ok-found.found.place.count) (KeepsLists c.new_room.new.files c.take.new.files) (λ addr. KeepsLinks c.args.files.now c.take.new.files (file_selector addr))
    (λ addr word lists. subst (KeepsLinks c.args.files.now c.take.new.files) (sym (ap file_selector word ∙ word_file c.new_room.new.files c.args.kind c.args.count P c.requires.some is_place ∙ c.in_ok-found.ensures.file.0))
    (links_then c.args.files.now c.new_room.new.files c.take.new.files c.in_ok-room.room.file c.in_ok-room.ensures.links lists)) c.take.ensures.word c.take.ensures.links

pub returns-clause-long : goal.returns-clause-long
returns-clause-long g c =
    let P = c.in_ok-found.found.place in
    let is_place = fits_there c.new_room.new.files (kind_number c.args.kind) c.in_ok-room.room.count c.args.count P c.in_ok-room.ensures.fits.counted c.in_ok-found.ensures.place in
    if_ok_on c.take.result (λ addr. addr ≡ block_word (kind_number c.args.kind) c.in_ok-found.found.place.file c.in_ok-found.found.place.start c.in_ok-found.found.place.count) (HasItsBlocks c.take.new.files P.file) (λ addr. HasItsBlocks c.take.new.files (file_selector addr))
    (λ addr word long. subst (HasItsBlocks c.take.new.files) (sym (ap file_selector word ∙ word_file c.new_room.new.files c.args.kind c.args.count P c.requires.some is_place)) long) c.take.ensures.word c.take.ensures.long

pub returns-clause-counted : goal.returns-clause-counted
returns-clause-counted g c =
    let P = c.in_ok-found.found.place in
    let is_place = fits_there c.new_room.new.files (kind_number c.args.kind) c.in_ok-room.room.count c.args.count P c.in_ok-room.ensures.fits.counted c.in_ok-found.ensures.place in
    if_ok_on c.take.result (λ addr. addr ≡ block_word (kind_number c.args.kind) c.in_ok-found.found.place.file c.in_ok-found.found.place.start c.in_ok-found.found.place.count) (ForSome (g.F.Folder.told c.find_by_hint.new.folder).files (λ mid. ForSome (g.F.Folder.told c.take.new.folder).files (CountsUsed P.file P.start mid)))
    (λ addr. ForSome (g.F.Folder.told c.args.folder.now).files (λ from. ForSome (g.F.Folder.told c.take.new.folder).files (IsCountedOnce c.args.files.now from addr)))
    (λ addr word counted from there image now.
    let mid = told_later (c.in_ok-room.ensures.stops from there) there in
    let here = ap (λ (t : Told). t.files) c.in_ok-found.ensures.reads.stays ∙ mid.1 in
    let file = ap file_selector word ∙ word_file c.new_room.new.files c.args.kind c.args.count P c.requires.some is_place in
    let same_file = c.in_ok-found.ensures.file.0 in
    subst (λ (m : ℕ). is_among (all_files c.args.files.now) m ≡ true → IsCounted true (allocations_of (byte from (Block m))) (allocations_of (byte image (Block m)))) (sym file)
    (λ linked. let now_counted = (counted mid.0 here image now).allocations in
    let same : allocations_of (byte mid.0 (Block P.file)) ≡ allocations_of (byte from (Block P.file)) = subst (λ (m : ℕ). is_among (all_files c.args.files.now) m ≡ true → allocations_of (byte mid.0 (Block m)) ≡ allocations_of (byte from (Block m))) (sym same_file) (c.in_ok-room.ensures.counts from there mid.0 mid.1) linked in
    omega (arith, now_counted, same)))
    c.take.ensures.word c.take.ensures.counted

pub returns-clause-most : goal.returns-clause-most
returns-clause-most g c =
    let P = c.in_ok-found.found.place in
    let is_place = fits_there c.new_room.new.files (kind_number c.args.kind) c.in_ok-room.room.count c.args.count P c.in_ok-room.ensures.fits.counted c.in_ok-found.ensures.place in
    if_ok_on c.take.result (λ addr. addr ≡ block_word (kind_number c.args.kind) c.in_ok-found.found.place.file c.in_ok-found.found.place.start c.in_ok-found.found.place.count) (KeepsBlockCounts c.new_room.new.files c.take.new.files) (λ addr. c.find_by_hint.new.steps ≤ c.args.steps.now + most_map_words c.take.new.files (file_selector addr))
    (λ addr word blocks.
    let file = ap file_selector word ∙ word_file c.new_room.new.files c.args.kind c.args.count P c.requires.some is_place ∙ c.in_ok-found.ensures.file.0 in
    let most = c.in_ok-found.ensures.most in
    let same = blocks c.in_ok-room.room.file in
    subst (λ (m : ℕ). c.find_by_hint.new.steps ≤ c.args.steps.now + most_map_words c.take.new.files m) (sym file) (omega (arith, most, same)))
    c.take.ensures.word c.take.ensures.blocks

pub returns-clause-chosen : goal.returns-clause-chosen
returns-clause-chosen g c =
    let P = c.in_ok-found.found.place in
    let is_place = fits_there c.new_room.new.files (kind_number c.args.kind) c.in_ok-room.room.count c.args.count P c.in_ok-room.ensures.fits.counted c.in_ok-found.ensures.place in
    IfOk-weaker c.take.result (λ addr. addr ≡ block_word (kind_number c.args.kind) c.in_ok-found.found.place.file c.in_ok-found.found.place.start c.in_ok-found.found.place.count)
    (λ addr. ForSome (g.F.Folder.told c.args.folder.now).files (λ from. IsChosen c.args.files.now from (kind_number c.args.kind) c.args.count addr))
    (λ addr word from there.
    let mid = told_later (c.in_ok-room.ensures.stops from there) there in
    record {
      place = P;
      word = subst (λ (k : ℕ). addr ≡ block_word (kind_number c.args.kind) P.file P.start k) is_place.counted word;
      chosen = inr (
        c.requires.full from there,
        room_place c.args.files.now c.new_room.new.files c.args.kind c.requires.block_kind c.args.count c.requires.some c.requires.few c.in_ok-room.room P from mid.0 is_place c.in_ok-found.ensures.file.0 (c.requires.full from there) (c.in_ok-room.ensures.marks from there mid.0 mid.1) (c.in_ok-room.ensures.hints from there mid.0 mid.1) c.in_ok-room.ensures.grown (c.in_ok-room.ensures.fresh from there mid.0 mid.1)
            (subst (λ (m : ℕ). IsByHint mid.0 c.in_ok-room.room.file (groups_of (blocks_of c.new_room.new.files c.in_ok-room.room.file)) m 3 P.start) c.in_ok-room.ensures.fits.counted (c.in_ok-found.ensures.found mid.0 mid.1)) (c.in_ok-room.ensures.place from there),
      );
    }) c.take.ensures.word

pub returns-clause-hints : goal.returns-clause-hints
returns-clause-hints g c =
    let P = c.in_ok-found.found.place in
    let is_place = fits_there c.new_room.new.files (kind_number c.args.kind) c.in_ok-room.room.count c.args.count P c.in_ok-room.ensures.fits.counted c.in_ok-found.ensures.place in
    if_ok_on c.take.result (λ addr. addr ≡ block_word (kind_number c.args.kind) c.in_ok-found.found.place.file c.in_ok-found.found.place.start c.in_ok-found.found.place.count) (ForSome (g.F.Folder.told c.find_by_hint.new.folder).files (λ mid. ForSome (g.F.Folder.told c.take.new.folder).files (HasHintAmong P.file c.in_ok-found.found.i (P.start / 4) mid)))
    (λ addr. ForSome (g.F.Folder.told c.args.folder.now).files (λ from. ForSome (g.F.Folder.told c.take.new.folder).files (SetsHint c.args.files.now (kind_number c.args.kind) c.args.count from addr)))
    (λ addr word hint from there image now.
    let mid = told_later (c.in_ok-room.ensures.stops from there) there in
    let here = ap (λ (t : Told). t.files) c.in_ok-found.ensures.reads.stays ∙ mid.1 in
    let file = ap file_selector word ∙ word_file c.new_room.new.files c.args.kind c.args.count P c.requires.some is_place ∙ c.in_ok-found.ensures.file.0 in
    let start = ap first_block word ∙ place_start c.new_room.new.files c.args.kind P (omega (arith, is_place.counted, c.requires.some)) (fits_there c.new_room.new.files (kind_number c.args.kind) c.args.count P.count P (sym is_place.counted) is_place) in
    let set : HasHintAmong c.in_ok-room.room.file 3 (P.start / 4) mid.0 image = subst (λ (h : ℕ). HasHintAmong c.in_ok-room.room.file h (P.start / 4) mid.0 image) c.in_ok-found.ensures.file.1 (subst (λ (n : ℕ). HasHintAmong n c.in_ok-found.found.i (P.start / 4) mid.0 image) c.in_ok-found.ensures.file.0 (hint mid.0 here image now)) in
    sets_hint c.args.files.now c.new_room.new.files c.args.kind c.requires.block_kind c.args.count c.requires.some c.requires.few c.in_ok-room.room P from mid.0 is_place c.in_ok-found.ensures.file.0 (c.requires.full from there) (c.in_ok-room.ensures.marks from there mid.0 mid.1) (c.in_ok-room.ensures.hints from there mid.0 mid.1) c.in_ok-room.ensures.grown (c.in_ok-room.ensures.fresh from there mid.0 mid.1)
    (subst (λ (m : ℕ). IsByHint mid.0 c.in_ok-room.room.file (groups_of (blocks_of c.new_room.new.files c.in_ok-room.room.file)) m 3 P.start) c.in_ok-room.ensures.fits.counted (c.in_ok-found.ensures.found mid.0 mid.1)) image addr file start set)
    c.take.ensures.word c.take.ensures.hint

pub returns-clause-once : goal.returns-clause-once
returns-clause-once g c =
    let P = c.in_ok-found.found.place in
    let is_place = fits_there c.new_room.new.files (kind_number c.args.kind) c.in_ok-room.room.count c.args.count P c.in_ok-room.ensures.fits.counted c.in_ok-found.ensures.place in
    if_ok_on c.take.result (λ addr. addr ≡ block_word (kind_number c.args.kind) c.in_ok-found.found.place.file c.in_ok-found.found.place.start c.in_ok-found.found.place.count) (KeepsBlockCounts c.new_room.new.files c.take.new.files)
    (λ addr. ForSome (g.F.Folder.told c.args.folder.now).files (λ from. LiesAtHint c.args.files.now c.take.new.files (kind_number c.args.kind) c.args.count from addr → c.find_by_hint.new.steps ≡ c.args.steps.now + 1))
    (λ addr word blocks from there lies.
    let mid = told_later (c.in_ok-room.ensures.stops from there) there in
    let file = ap file_selector word ∙ word_file c.new_room.new.files c.args.kind c.args.count P c.requires.some is_place ∙ c.in_ok-found.ensures.file.0 in
    let start = ap first_block word ∙ place_start c.new_room.new.files c.args.kind P (omega (arith, is_place.counted, c.requires.some)) (fits_there c.new_room.new.files (kind_number c.args.kind) c.args.count P.count P (sym is_place.counted) is_place) in
    c.in_ok-found.ensures.once mid.0 mid.1 (at_hint c.args.files.now c.new_room.new.files c.args.kind c.requires.block_kind c.args.count c.requires.some c.requires.few c.in_ok-room.room P from mid.0 is_place c.in_ok-found.ensures.file.0 (c.requires.full from there) (c.in_ok-room.ensures.marks from there mid.0 mid.1) (c.in_ok-room.ensures.hints from there mid.0 mid.1) c.in_ok-room.ensures.grown (c.in_ok-room.ensures.fresh from there mid.0 mid.1)
    (subst (λ (m : ℕ). IsByHint mid.0 c.in_ok-room.room.file (groups_of (blocks_of c.new_room.new.files c.in_ok-room.room.file)) m 3 P.start) c.in_ok-room.ensures.fits.counted (c.in_ok-found.ensures.found mid.0 mid.1)) c.take.new.files addr file start (blocks c.in_ok-room.room.file) lies))
    c.take.ensures.word c.take.ensures.blocks

pub returns-clause-allocates : goal.returns-clause-allocates
returns-clause-allocates g c =
    let P = c.in_ok-found.found.place in
    let is_place = fits_there c.new_room.new.files (kind_number c.args.kind) c.in_ok-room.room.count c.args.count P c.in_ok-room.ensures.fits.counted c.in_ok-found.ensures.place in
    let kind : ℕ = kind_number c.args.kind in
    let old = c.args.files.now in
    three c.take.result (λ addr. addr ≡ block_word (kind_number c.args.kind) c.in_ok-found.found.place.file c.in_ok-found.found.place.start c.in_ok-found.found.place.count)
    (λ addr. ForSome (g.F.Folder.told c.find_by_hint.new.folder).files (λ mid. CanBeMarked mid P → ForSome (g.F.Folder.told c.take.new.folder).files (MarksUsed c.new_room.new.files mid addr)))
    (ForSome (g.F.Folder.told c.find_by_hint.new.folder).files (λ mid. ForSome (g.F.Folder.told c.take.new.folder).files (HasHintAmong P.file c.in_ok-found.found.i (P.start / 4) mid)))
    (λ addr. ForSome (g.F.Folder.told c.args.folder.now).files (λ from. AreCounted c.args.files.now kind from → ForSome (g.F.Folder.told c.take.new.folder).files (λ image. Allocates c.args.files.now from addr image × ExtendsAnd taking_of c.args.files.now kind from (file_selector addr) image)))
    (λ addr word taken hint from there counted image now.
    let mid = told_later (c.in_ok-room.ensures.stops from there) there in
    let here = ap (λ (t : Told). t.files) c.in_ok-found.ensures.reads.stays ∙ mid.1 in
    let own = ap file_selector word ∙ word_file c.new_room.new.files c.args.kind c.args.count P c.requires.some is_place in
    let file = own ∙ c.in_ok-found.ensures.file.0 in
    let made = c.in_ok-room.ensures.made from there counted mid.0 mid.1 in
    let can = can_take c.args.files.now c.new_room.new.files c.args.kind c.requires.block_kind c.args.count c.requires.some c.requires.few c.in_ok-room.room P from mid.0 is_place c.in_ok-found.ensures.file.0 (c.requires.full from there) (c.in_ok-room.ensures.marks from there mid.0 mid.1) (c.in_ok-room.ensures.hints from there mid.0 mid.1) c.in_ok-room.ensures.grown (c.in_ok-room.ensures.fresh from there mid.0 mid.1)
    (subst (λ (m : ℕ). IsByHint mid.0 c.in_ok-room.room.file (groups_of (blocks_of c.new_room.new.files c.in_ok-room.room.file)) m 3 P.start) c.in_ok-room.ensures.fits.counted (c.in_ok-found.ensures.found mid.0 mid.1)) (c.in_ok-room.ensures.agrees mid.0 mid.1) (member_all c.new_room.new.files c.args.kind c.in_ok-room.room.file c.requires.block_kind c.in_ok-room.ensures.fits.linked) made.takeable in
    let extended = extends_there c.args.files.now c.new_room.new.files c.args.kind c.requires.block_kind c.args.count c.requires.some c.requires.few c.in_ok-room.room P from mid.0 is_place c.in_ok-found.ensures.file.0 (c.requires.full from there) (c.in_ok-room.ensures.marks from there mid.0 mid.1) (c.in_ok-room.ensures.hints from there mid.0 mid.1) c.in_ok-room.ensures.grown (c.in_ok-room.ensures.fresh from there mid.0 mid.1)
    (subst (λ (m : ℕ). IsByHint mid.0 c.in_ok-room.room.file (groups_of (blocks_of c.new_room.new.files c.in_ok-room.room.file)) m 3 P.start) c.in_ok-room.ensures.fits.counted (c.in_ok-found.ensures.found mid.0 mid.1)) made can in
    let used = taken mid.0 here can image now in
    let set : HasHintAmong c.in_ok-room.room.file 3 (P.start / 4) mid.0 image = subst (λ (h : ℕ). HasHintAmong c.in_ok-room.room.file h (P.start / 4) mid.0 image) c.in_ok-found.ensures.file.1 (subst (λ (n : ℕ). HasHintAmong n c.in_ok-found.found.i (P.start / 4) mid.0 image) c.in_ok-found.ensures.file.0 (hint mid.0 here image now)) in (
      given_made old c.new_room.new.files from mid.0 image P addr own c.in_ok-room.ensures.all extended used (no_hints c.args.files.now c.new_room.new.files c.args.kind c.requires.block_kind c.args.count c.requires.some c.requires.few c.in_ok-room.room P from mid.0 is_place c.in_ok-found.ensures.file.0 (c.requires.full from there) (c.in_ok-room.ensures.marks from there mid.0 mid.1) (c.in_ok-room.ensures.hints from there mid.0 mid.1) c.in_ok-room.ensures.grown (c.in_ok-room.ensures.fresh from there mid.0 mid.1)
          (subst (λ (m : ℕ). IsByHint mid.0 c.in_ok-room.room.file (groups_of (blocks_of c.new_room.new.files c.in_ok-room.room.file)) m 3 P.start) c.in_ok-room.ensures.fits.counted (c.in_ok-found.ensures.found mid.0 mid.1)) image addr file set),
      room_marked old kind (file_selector addr) from mid.0 image (subst (λ (m : ℕ). ExtendsAnd updating_word old kind from m mid.0) (sym file) (c.in_ok-room.ensures.within from there mid.0 mid.1)) used.same,
    ))
    c.take.ensures.word c.take.ensures.used c.take.ensures.hint

pub returns-clause-stops : goal.returns-clause-stops
returns-clause-stops g c from there counted =
    let P = c.in_ok-found.found.place in
    let is_place = fits_there c.new_room.new.files (kind_number c.args.kind) c.in_ok-room.room.count c.args.count P c.in_ok-room.ensures.fits.counted c.in_ok-found.ensures.place in
    let kind : ℕ = kind_number c.args.kind in
    let old = c.args.files.now in
    let mid = told_later (c.in_ok-room.ensures.stops from there) there in
    let here = ap (λ (t : Told). t.files) c.in_ok-found.ensures.reads.stays ∙ mid.1 in
    let stays = (passes_end (c.in_ok-room.ensures.stops from there) mid.0 mid.1).stays in
    let made = c.in_ok-room.ensures.made from there counted mid.0 mid.1 in
    let can = can_take c.args.files.now c.new_room.new.files c.args.kind c.requires.block_kind c.args.count c.requires.some c.requires.few c.in_ok-room.room P from mid.0 is_place c.in_ok-found.ensures.file.0 (c.requires.full from there) (c.in_ok-room.ensures.marks from there mid.0 mid.1) (c.in_ok-room.ensures.hints from there mid.0 mid.1) c.in_ok-room.ensures.grown (c.in_ok-room.ensures.fresh from there mid.0 mid.1)
    (subst (λ (m : ℕ). IsByHint mid.0 c.in_ok-room.room.file (groups_of (blocks_of c.new_room.new.files c.in_ok-room.room.file)) m 3 P.start) c.in_ok-room.ensures.fits.counted (c.in_ok-found.ensures.found mid.0 mid.1)) (c.in_ok-room.ensures.agrees mid.0 mid.1) (member_all c.new_room.new.files c.args.kind c.in_ok-room.room.file c.requires.block_kind c.in_ok-room.ensures.fits.linked) made.takeable in
    let extended = extends_there c.args.files.now c.new_room.new.files c.args.kind c.requires.block_kind c.args.count c.requires.some c.requires.few c.in_ok-room.room P from mid.0 is_place c.in_ok-found.ensures.file.0 (c.requires.full from there) (c.in_ok-room.ensures.marks from there mid.0 mid.1) (c.in_ok-room.ensures.hints from there mid.0 mid.1) c.in_ok-room.ensures.grown (c.in_ok-room.ensures.fresh from there mid.0 mid.1)
    (subst (λ (m : ℕ). IsByHint mid.0 c.in_ok-room.room.file (groups_of (blocks_of c.new_room.new.files c.in_ok-room.room.file)) m 3 P.start) c.in_ok-room.ensures.fits.counted (c.in_ok-found.ensures.found mid.0 mid.1)) made can in
    let w : ℕ = block_word kind P.file P.start c.args.count in
    let own : file_selector w ≡ P.file = subst (λ (k : ℕ). file_selector (block_word kind P.file P.start k) ≡ P.file) is_place.counted (word_file c.new_room.new.files c.args.kind c.args.count P c.requires.some is_place) in
    let room : ExtendsAnd updating_word old kind from P.file mid.0 = subst (λ (m : ℕ). ExtendsAnd updating_word old kind from m mid.0) (sym c.in_ok-found.ensures.file.0) (c.in_ok-room.ensures.within from there mid.0 mid.1) in
    let chosen = room_place c.args.files.now c.new_room.new.files c.args.kind c.requires.block_kind c.args.count c.requires.some c.requires.few c.in_ok-room.room P from mid.0 is_place c.in_ok-found.ensures.file.0 (c.requires.full from there) (c.in_ok-room.ensures.marks from there mid.0 mid.1) (c.in_ok-room.ensures.hints from there mid.0 mid.1) c.in_ok-room.ensures.grown (c.in_ok-room.ensures.fresh from there mid.0 mid.1)
    (subst (λ (m : ℕ). IsByHint mid.0 c.in_ok-room.room.file (groups_of (blocks_of c.new_room.new.files c.in_ok-room.room.file)) m 3 P.start) c.in_ok-room.ensures.fits.counted (c.in_ok-found.ensures.found mid.0 mid.1)) (c.in_ok-room.ensures.place from there) in
    let first = room_moment old kind from in
    let keeps = (λ (i : Image). mark_moment old kind P.file from mid.0 i room stays) in
    let ends : (i : Image) → MarksUsed c.new_room.new.files mid.0 (block_word (kind_number c.args.kind) c.in_ok-found.found.place.file c.in_ok-found.found.place.start c.in_ok-found.found.place.count) i × HasHintAmong P.file c.in_ok-found.found.i (P.start / 4) mid.0 i → ExtendsAndAllocates old kind c.args.count from i × StaysWhole from i =
    (λ i both.
    let used : MarksUsed c.new_room.new.files mid.0 w i = subst (λ (k : ℕ). MarksUsed c.new_room.new.files mid.0 (block_word kind P.file P.start k) i) is_place.counted both.0 in
    let set : HasHintAmong c.in_ok-room.room.file 3 (P.start / 4) mid.0 i = subst (λ (h : ℕ). HasHintAmong c.in_ok-room.room.file h (P.start / 4) mid.0 i) c.in_ok-found.ensures.file.1 (subst (λ (n : ℕ). HasHintAmong n c.in_ok-found.found.i (P.start / 4) mid.0 i) c.in_ok-found.ensures.file.0 both.1) in
    marked_moment old c.new_room.new.files kind c.args.count P from mid.0 i own chosen room stays used
    (given_made old c.new_room.new.files from mid.0 i P w own c.in_ok-room.ensures.all extended used (no_hints c.args.files.now c.new_room.new.files c.args.kind c.requires.block_kind c.args.count c.requires.some c.requires.few c.in_ok-room.room P from mid.0 is_place c.in_ok-found.ensures.file.0 (c.requires.full from there) (c.in_ok-room.ensures.marks from there mid.0 mid.1) (c.in_ok-room.ensures.hints from there mid.0 mid.1) c.in_ok-room.ensures.grown (c.in_ok-room.ensures.fresh from there mid.0 mid.1)
    (subst (λ (m : ℕ). IsByHint mid.0 c.in_ok-room.room.file (groups_of (blocks_of c.new_room.new.files c.in_ok-room.room.file)) m 3 P.start) c.in_ok-room.ensures.fits.counted (c.in_ok-found.ensures.found mid.0 mid.1)) i w (own ∙ c.in_ok-found.ensures.file.0) set))) in
    passes_then (passes_weaker (c.in_ok-room.ensures.stops from there) first first)
    (passes_stayed c.in_ok-found.ensures.reads.stays
    (passes_weaker (c.take.ensures.stops mid.0 here can) keeps (λ i. ⊎_elim (λ marks. (inl (keeps i marks).0, (keeps i marks).1)) (λ used. (inr (ends i used).0, (ends i used).1)))))

pub returns-clause-untold : goal.returns-clause-untold
returns-clause-untold g c counted =
    let P = c.in_ok-found.found.place in
    let is_place = fits_there c.new_room.new.files (kind_number c.args.kind) c.in_ok-room.room.count c.args.count P c.in_ok-room.ensures.fits.counted c.in_ok-found.ensures.place in
    let kind : ℕ = kind_number c.args.kind in
    let start : (ForSome (g.F.Folder.told c.new_room.new.folder).files (λ mid. CanBeMarked mid P) → (g.F.Folder.told c.new_room.new.folder).files ≡ None) → (g.F.Folder.told c.args.folder.now).files ≡ None =
    silent_start (MakesRoomInProgress c.args.files.now kind) (λ mid. CanBeMarked mid P) c.in_ok-room.ensures.stops
    (λ from there m now.
    let mid : (i : Image) × ((g.F.Folder.told c.new_room.new.folder).files ≡ Some i) = (m, now) in
    can_take c.args.files.now c.new_room.new.files c.args.kind c.requires.block_kind c.args.count c.requires.some c.requires.few c.in_ok-room.room P from mid.0 is_place c.in_ok-found.ensures.file.0 (c.requires.full from there) (c.in_ok-room.ensures.marks from there mid.0 mid.1) (c.in_ok-room.ensures.hints from there mid.0 mid.1) c.in_ok-room.ensures.grown (c.in_ok-room.ensures.fresh from there mid.0 mid.1)
    (subst (λ (m : ℕ). IsByHint mid.0 c.in_ok-room.room.file (groups_of (blocks_of c.new_room.new.files c.in_ok-room.room.file)) m 3 P.start) c.in_ok-room.ensures.fits.counted (c.in_ok-found.ensures.found mid.0 mid.1)) (c.in_ok-room.ensures.agrees mid.0 mid.1) (member_all c.new_room.new.files c.args.kind c.in_ok-room.room.file c.requires.block_kind c.in_ok-room.ensures.fits.linked) (c.in_ok-room.ensures.made from there (counted from there) mid.0 mid.1).takeable) in
    if_damaged_weaker c.take.result (λ _. ForSome (g.F.Folder.told c.find_by_hint.new.folder).files (λ mid. CanBeMarked mid P) → (g.F.Folder.told c.find_by_hint.new.folder).files ≡ None) (λ _. (g.F.Folder.told c.args.folder.now).files ≡ None)
    (λ damage none. start (subst (λ (t : Told). ForSome t.files (λ mid. CanBeMarked mid P) → t.files ≡ None) c.in_ok-found.ensures.reads.stays none)) c.take.ensures.untold
