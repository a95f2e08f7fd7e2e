use Rattle.std.proofs.Common.{◌≡◌, ◌≤◌, ◌<◌, inl, inr, ℕ, ◌+◌, ◌-◌, ◌*◌, ◌/◌, ◌%◌, ◌^◌, [], length, true, false, sym, ◌∙◌, ap, subst, arith}
use Rattle.spec_image.proofs.Runs.{passes_end, passes_none, passes_weaker, some_inj}
use Rattle.blk_addr.specs.Kind.{kind_number}
use Rattle.spec_format.specs.BlockFiles.{is_among}
use Rattle.spec_format.specs.Maps.{AreAllocations, EmptyAgrees}
use Rattle.blk_disk.specs.Tables.{all_files, files_of, blocks_of}
use Rattle.blk_disk.specs.Growth.{IsLeastFileNumber, free_number, grown, new_groups}
use Rattle.blk_disk.proofs.KeptOnce.{counts}
use Rattle.spec_image.specs.Image.{Block, byte}
use Rattle.spec_format.specs.Headers.{empty_of}
use Rattle.blk_alloc.specs.Fitting.{HasNoRoom}
use Rattle.blk_alloc.proofs.Hinted.{all_member}
use Rattle.std.specs.List.{All}
use Rattle.blk_alloc.specs.Extending.{HasMostBlocks, HasNoHints, IsFirstGrowing, KeepsLinks}
use Rattle.blk_alloc.specs.Allocating.{ExtendsAnd, MakesRoomInProgress, updating_word}
use Rattle.blk_io.proofs.Carried.{carried}
use Rattle.spec_format.proofs.LinkedHeads.{count_whole}
use Rattle.blk_alloc.proofs.Members.{member_all, member_head, member_split}
use Rattle.blk_alloc.proofs.Rooms.{has_counters, if_damaged_any, room_added, room_grown}
use Rattle.blk_alloc.proofs.Moments.{added_moment, grown_count, grown_moment, no_moment}
use Rattle.blk_alloc.proofs.Links.{lists_links}
use Rattle.blk_alloc.proofs.allocating.new_room.Goals as goal

whole_start : (old : ℕ) → old % 4 ≡ 0 → old / 4 * 4 ≡ old
whole_start old whole = omega (arith, whole)

many_files : (count n : ℕ) → count ≡ n → 60 ≤ count → 60 ≤ n
many_files count n same many = omega (arith, same, many)

few_files : (count n : ℕ) → count ≡ n → count < 60 → n < 60
few_files count n same few = omega (arith, same, few)

among_or_not : true ≡ false → ⊥
among_or_not e = cc

pub returns-in-Some-clause-place : goal.returns-in-Some-clause-place
returns-in-Some-clause-place g c image there =
    let kind : ℕ = kind_number c.args.kind in
    let n : ℕ = c.in-Some.file in
    let file = c.in_ok-place.ensures.place.0 in
    let among = member_split (files_of c.args.files.now kind) c.in-Some.ensures.before n c.in-Some.ensures.behind c.in-Some.ensures.split in
    let agrees = c.requires.agrees image there in
    let all = member_all c.args.files.now c.args.kind n c.requires.block_kind among in
    let whole : blocks_of c.args.files.now n % 4 ≡ 0 = ap (λ (k : ℕ). k % 4) (agrees.blocks n all) ∙ (count_whole _ (member_head c.args.files.now image c.args.kind n c.requires.block_kind agrees among).count).0 in
    inl (record {
      growing = subst (IsFirstGrowing c.args.files.now (files_of c.args.files.now kind)) (sym file) c.in-Some.ensures;
      start = c.in_ok-place.ensures.place.1 ∙ whole_start (blocks_of c.args.files.now n) whole ∙ ap (blocks_of c.args.files.now) (sym file);
    })

pub returns-in-Some-clause-made : goal.returns-in-Some-clause-made
returns-in-Some-clause-made g c from there counted image now =
    let kind : ℕ = kind_number c.args.kind in
    let n : ℕ = c.in-Some.file in
    let file = c.in_ok-place.ensures.place.0 in
    let all = member_all c.args.files.now c.args.kind n c.requires.block_kind (member_split (files_of c.args.files.now kind) c.in-Some.ensures.before n c.in-Some.ensures.behind c.in-Some.ensures.split) in
    let counters = has_counters c.args.files.now from kind n counted (member_split (files_of c.args.files.now kind) c.in-Some.ensures.before n c.in-Some.ensures.behind c.in-Some.ensures.split) in
    record {
      takeable = c.in_ok-place.ensures.markable from there counters image now;
      keeps = c.in_ok-place.ensures.keeps from there counters image now;
      marks = c.in_ok-place.ensures.marks from there image now;
      fresh = λ none. absurd (among_or_not (sym all ∙ ap (is_among (all_files c.args.files.now)) (sym file) ∙ none));
      hints = λ none. absurd (among_or_not (sym all ∙ ap (is_among (all_files c.args.files.now)) (sym file) ∙ none));
    }

pub add_room-requires-clause-room : goal.add_room-requires-clause-room
add_room-requires-clause-room g c = few_files c.count.result (length (files_of c.args.files.now (kind_number c.args.kind))) c.count.ensures c.if-count-ge-MOST_FILES.false

pub returns-clause-place : goal.returns-clause-place
returns-clause-place g c image there =
    let file = c.in_ok-place-2.ensures.place.0 in
    inr (record {
      full = c.in_default.ensures;
      few = few_files c.count.result (length (files_of c.args.files.now (kind_number c.args.kind))) c.count.ensures c.if-count-ge-MOST_FILES.false;
      least = subst (IsLeastFileNumber c.args.files.now) (sym file) c.in_ok-place-2.ensures.least;
      start = c.in_ok-place-2.ensures.place.1;
    })

pub returns-clause-made : goal.returns-clause-made
returns-clause-made g c from there counted image now = record {
  takeable = c.in_ok-place-2.ensures.markable from there image now;
  keeps = c.in_ok-place-2.ensures.keeps from there image now;
  marks = c.in_ok-place-2.ensures.marks from there image now;
  fresh = λ none. subst (λ (n : ℕ). AreAllocations image n []) (sym c.in_ok-place-2.ensures.place.0) (c.in_ok-place-2.ensures.fresh from there image now);
  hints = λ none. subst (HasNoHints image) (sym c.in_ok-place-2.ensures.place.0) (c.in_ok-place-2.ensures.hints from there image now);
}

pub returns-in_err-place-clause-stops : goal.returns-in_err-place-clause-stops
returns-in_err-place-clause-stops g c from there =
    let keeps = grown_moment c.args.files.now (kind_number c.args.kind) c.in-Some.file from c.in-Some.ensures in
    passes_weaker (c.in_err-place.ensures.stops from there) keeps keeps

pub returns-in-Some-clause-stops : goal.returns-in-Some-clause-stops
returns-in-Some-clause-stops g c from there =
    let keeps = grown_moment c.args.files.now (kind_number c.args.kind) c.in-Some.file from c.in-Some.ensures in
    passes_weaker (c.in_ok-place.ensures.stops from there) keeps keeps

pub returns-in-Some-clause-within : goal.returns-in-Some-clause-within
returns-in-Some-clause-within g c from there image now =
    subst (λ (n : ℕ). ExtendsAnd updating_word c.args.files.now (kind_number c.args.kind) from n image) (sym c.in_ok-place.ensures.place.0)
    (room_grown c.args.files.now (kind_number c.args.kind) c.in-Some.file from image c.in-Some.ensures (passes_end (c.in_ok-place.ensures.stops from there) image now).outside)

pub returns-in-Some-clause-counts : goal.returns-in-Some-clause-counts
returns-in-Some-clause-counts g c from there image now linked =
    grown_count c.in-Some.file c.in_ok-place.place.file from image (passes_end (c.in_ok-place.ensures.stops from there) image now).outside

pub returns-in-Some-clause-links : goal.returns-in-Some-clause-links
returns-in-Some-clause-links g c = lists_links c.args.files.now c.grow_room.new.files c.in_ok-place.place.file c.in_ok-place.ensures.links

pub returns-in_err-damage-clause-stops : goal.returns-in_err-damage-clause-stops
returns-in_err-damage-clause-stops g c from there =
    passes_none (MakesRoomInProgress c.args.files.now (kind_number c.args.kind) from) c.in_err-damage.ensures.reads.stays
    (λ image is. subst (MakesRoomInProgress c.args.files.now (kind_number c.args.kind) from) (some_inj (sym there ∙ is)) (no_moment c.args.files.now (kind_number c.args.kind) from c.in_default.ensures))

pub returns-then-count-ge-MOST_FILES-clause-stops : goal.returns-then-count-ge-MOST_FILES-clause-stops
returns-then-count-ge-MOST_FILES-clause-stops g c from there =
    passes_none (MakesRoomInProgress c.args.files.now (kind_number c.args.kind) from) c.in_ok-damage.ensures.reads.stays
    (λ image is. subst (MakesRoomInProgress c.args.files.now (kind_number c.args.kind) from) (some_inj (sym there ∙ is)) (no_moment c.args.files.now (kind_number c.args.kind) from c.in_default.ensures))

pub returns-in_err-damage-clause-cause : goal.returns-in_err-damage-clause-cause
returns-in_err-damage-clause-cause g c =
    carried c.full_damage.result c.from_residual-in_err-damage.result c.in_err-damage.field-0.0 _ c.in_err-damage.was c.from_residual-in_err-damage.ensures.1 (c.full_damage.ensures.cause c.requires.agrees)

pub returns-in_err-damage-clause-sixty : goal.returns-in_err-damage-clause-sixty
returns-in_err-damage-clause-sixty g c =
    if_damaged_any c.from_residual-in_err-damage.result (All (HasMostBlocks c.args.files.now) (files_of c.args.files.now (kind_number c.args.kind)) × (60 ≤ length (files_of c.args.files.now (kind_number c.args.kind))))
    (c.in_default.ensures, many_files c.count.result (length (files_of c.args.files.now (kind_number c.args.kind))) c.count.ensures c.if-count-ge-MOST_FILES.true)

pub returns-in_err-place-2-clause-stops : goal.returns-in_err-place-2-clause-stops
returns-in_err-place-2-clause-stops g c from there =
    let keeps = added_moment c.args.files.now (kind_number c.args.kind) from c.in_default.ensures in
    passes_weaker (c.in_err-place-2.ensures.stops from there) keeps keeps

pub returns-clause-stops : goal.returns-clause-stops
returns-clause-stops g c from there =
    let keeps = added_moment c.args.files.now (kind_number c.args.kind) from c.in_default.ensures in
    passes_weaker (c.in_ok-place-2.ensures.stops from there) keeps keeps

pub returns-clause-within : goal.returns-clause-within
returns-clause-within g c from there image now =
    room_added c.args.files.now (kind_number c.args.kind) c.in_ok-place-2.place.file from image c.in_ok-place-2.ensures.place.0 c.in_default.ensures (passes_end (c.in_ok-place-2.ensures.stops from there) image now).outside

pub returns-clause-counts : goal.returns-clause-counts
returns-clause-counts g c from there image now linked =
    absurd (among_or_not (sym linked ∙ ap (is_among (all_files c.args.files.now)) c.in_ok-place-2.ensures.place.0 ∙ c.in_ok-place-2.ensures.least.free))

pub returns-clause-links : goal.returns-clause-links
returns-clause-links g c = subst (KeepsLinks c.args.files.now c.add_room.new.files) (sym c.in_ok-place-2.ensures.place.0) c.in_ok-place-2.ensures.links

raised_groups : (now was new old start : ℕ) → now ≡ (was + new_groups old) % 2 ^ 32 → was ≡ 0 → new ≡ grown old → start ≡ old / 4 * 4 → old % 4 ≡ 0 → old < 64896 → now ≡ (new - start) / 4
raised_groups now was new old start is none more at whole below = omega (arith, is, none, more, at, whole, below)

pub returns-in-Some-clause-raised : goal.returns-in-Some-clause-raised
returns-in-Some-clause-raised g c from there image now =
    let kind : ℕ = kind_number c.args.kind in
    let n : ℕ = c.in-Some.file in
    let among = member_split (files_of c.args.files.now kind) c.in-Some.ensures.before n c.in-Some.ensures.behind c.in-Some.ensures.split in
    let all = member_all c.args.files.now c.args.kind n c.requires.block_kind among in
    let whole = (count_whole _ (counts c.args.files.now n all)).0 in
    let none = all_member (HasNoRoom from c.args.count) (files_of c.args.files.now kind) n among (c.requires.full from there) 3 (omega arith) c.requires.few in
    subst (λ (k : ℕ). empty_of (byte image (Block k)) 3 ≡ (blocks_of c.grow_room.new.files k - c.in_ok-place.place.start) / 4) (sym c.in_ok-place.ensures.place.0)
    (raised_groups (empty_of (byte image (Block n)) 3) (empty_of (byte from (Block n)) 3) (blocks_of c.grow_room.new.files n) (blocks_of c.args.files.now n) c.in_ok-place.place.start
    (c.in_ok-place.ensures.raised from there image now) none c.in_ok-place.ensures.blocks c.in_ok-place.ensures.place.1 whole c.in-Some.ensures.below)

pub returns-in-Some-clause-whole : goal.returns-in-Some-clause-whole
returns-in-Some-clause-whole g c = let at = c.in_ok-place.ensures.place.1 in omega (arith, at)

pub returns-in-Some-clause-grown : goal.returns-in-Some-clause-grown
returns-in-Some-clause-grown g c among = subst (λ (k : ℕ). blocks_of c.grow_room.new.files k ≡ grown (blocks_of c.args.files.now k)) (sym c.in_ok-place.ensures.place.0) c.in_ok-place.ensures.blocks

pub returns-in-Some-clause-fresh : goal.returns-in-Some-clause-fresh
returns-in-Some-clause-fresh g c from there image now none =
    let all = member_all c.args.files.now c.args.kind c.in-Some.file c.requires.block_kind (member_split (files_of c.args.files.now (kind_number c.args.kind)) c.in-Some.ensures.before c.in-Some.file c.in-Some.ensures.behind c.in-Some.ensures.split) in
    absurd (among_or_not (sym all ∙ ap (is_among (all_files c.args.files.now)) (sym c.in_ok-place.ensures.place.0) ∙ none))

pub returns-in-Some-clause-hints : goal.returns-in-Some-clause-hints
returns-in-Some-clause-hints g c from there image now m i among small = c.in_ok-place.ensures.hints from there image now m i small

new_groups_are : (now new start : ℕ) → now ≡ 256 → new ≡ 1024 → start ≡ 0 → now ≡ (new - start) / 4
new_groups_are now new start is more at = omega (arith, is, more, at)

pub returns-clause-raised : goal.returns-clause-raised
returns-clause-raised g c from there image now =
    let n : ℕ = free_number c.args.files.now in
    subst (λ (k : ℕ). empty_of (byte image (Block k)) 3 ≡ (blocks_of c.add_room.new.files k - c.in_ok-place-2.place.start) / 4) (sym c.in_ok-place-2.ensures.place.0)
    (new_groups_are (empty_of (byte image (Block n)) 3) (blocks_of c.add_room.new.files n) c.in_ok-place-2.place.start (c.in_ok-place-2.ensures.raised from there image now) c.in_ok-place-2.ensures.blocks c.in_ok-place-2.ensures.place.1)

pub returns-clause-whole : goal.returns-clause-whole
returns-clause-whole g c = let at = c.in_ok-place-2.ensures.place.1 in omega (arith, at)

pub returns-clause-fresh : goal.returns-clause-fresh
returns-clause-fresh g c from there image now none =
    let n = sym c.in_ok-place-2.ensures.place.0 in (
      subst (λ (n : ℕ). AreAllocations image n []) n (c.in_ok-place-2.ensures.fresh from there image now),
      (subst (EmptyAgrees image) n (c.in_ok-place-2.ensures.empty from there image now), subst (HasNoHints image) n (c.in_ok-place-2.ensures.hints from there image now)),
    )

pub returns-clause-hints : goal.returns-clause-hints
returns-clause-hints g c from there image now m i among small = c.in_ok-place-2.ensures.kept_hints from there image now m i among small

pub returns-clause-grown : goal.returns-clause-grown
returns-clause-grown g c among = absurd (among_or_not (sym among ∙ ap (is_among (all_files c.args.files.now)) c.in_ok-place-2.ensures.place.0 ∙ c.in_ok-place-2.ensures.least.free))
