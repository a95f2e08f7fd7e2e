use Rattle.std.proofs.Common.{◌≡◌, ℕ, ◌+◌, ◌%◌, ◌^◌, [], None, true, false, sym, ◌∙◌, ap, subst, arith, rules}
use Rattle.std.specs.Option.{option_map}
use Rattle.spec_image.specs.Image.{Block, Image, byte}
use Rattle.spec_image.specs.Steps.{after}
use Rattle.spec_image.specs.Footprint.{either}
use Rattle.spec_image.proofs.Footprints.{outside-refl, within_left}
use Rattle.spec_image.proofs.Runs.{passes_end, passes_weaker}
use Rattle.blk_addr.specs.Kind.{kind_number}
use Rattle.blk_disk.specs.Tables.{Joins, all_files, blocks_of}
use Rattle.spec_format.specs.BlockFiles.{is_among}
use Rattle.spec_format.specs.Headers.{empty_of}
use Rattle.spec_format.specs.Maps.{EmptyAgrees}
use Rattle.blk_disk.specs.Growth.{IsLeastFileNumber, addition_of, free_number, grown, growth_of, add_steps, last_file, new_groups, raised}
use Rattle.blk_alloc.specs.Extending.{HasCounters}
use Rattle.blk_alloc.proofs.Adding.{added_counters, added_file, new_allocations, new_counts, new_hints, new_among, join_keeps, join_widens, all_kept}
use Rattle.blk_alloc.proofs.Links.{joined_links, links_then}
use Rattle.blk_alloc.proofs.Staying.{added_then, whole_wider}
use Rattle.blk_alloc.proofs.Hints.{addition_keeps, grown_hints}
use Rattle.blk_alloc.proofs.Kept.{join_larger, standing_kept, standing_same}
use Rattle.blk_alloc.proofs.Members.{member_all}
use Rattle.blk_io.proofs.Carried.{silent_part}
use Rattle.blk_alloc.proofs.extending.add_room.Goals as goal

-- no files
no_image : Image
no_image file = None

among_or_not : true ≡ false → ⊥
among_or_not e = cc

first_groups : (now was blocks : ℕ) → now ≡ (was + new_groups blocks) % 2 ^ 32 → was ≡ 0 → blocks ≡ 0 → now ≡ 256
first_groups now was blocks is none nothing = is ∙ (λ j. (none j + new_groups (nothing j)) % 2 ^ 32)

first_blocks : (now was : ℕ) → now ≡ grown was → was ≡ 0 → now ≡ 1024
first_blocks now was is none = is ∙ ap grown none

pub returns-clause-markable : goal.returns-clause-markable
returns-clause-markable g c from there image last =
    let now = c.in_ok-file.ensures.steps.files ∙ ap (option_map (after (add_steps c.args.files.now (kind_number c.args.kind)))) there in
    let least : IsLeastFileNumber c.args.files.now (free_number c.args.files.now) = subst (IsLeastFileNumber c.args.files.now) c.in_ok-file.ensures.number c.in_ok-file.ensures.least in
    c.in_ok-place.ensures.markable (after (add_steps c.args.files.now (kind_number c.args.kind)) from) now (subst (HasCounters (after (add_steps c.args.files.now (kind_number c.args.kind)) from)) (sym c.in_ok-file.ensures.number) (added_counters c.args.files.now from c.args.kind c.requires.block_kind (c.requires.agrees from there) c.requires.room least)) image last

pub returns-clause-keeps : goal.returns-clause-keeps
returns-clause-keeps g c from there image last m among =
    let kind : ℕ = kind_number c.args.kind in
    let n : ℕ = free_number c.args.files.now in
    let now = c.in_ok-file.ensures.steps.files ∙ ap (option_map (after (add_steps c.args.files.now kind))) there in
    let mid : Image = after (add_steps c.args.files.now kind) from in
    let joins : Joins c.args.files.now c.add_file.new.self kind n 0 8192 = subst (λ (k : ℕ). Joins c.args.files.now c.add_file.new.self kind k 0 8192) c.in_ok-file.ensures.number c.in_ok-file.ensures.kept in
    let least : IsLeastFileNumber c.args.files.now n = subst (IsLeastFileNumber c.args.files.now) c.in_ok-file.ensures.number c.in_ok-file.ensures.least in
    let same = (passes_end (c.in_ok-file.ensures.stops from there) mid now).outside in
    let first = join_keeps c.args.files.now c.add_file.new.self from mid kind n (last_file c.args.files.now kind) least.free joins same (c.requires.agrees from there) (c.in_ok-file.ensures.agrees mid now) m among in
    let counters : HasCounters mid c.in_ok-file.file = subst (HasCounters mid) (sym c.in_ok-file.ensures.number) (added_counters c.args.files.now from c.args.kind c.requires.block_kind (c.requires.agrees from there) c.requires.room least) in
    let second = c.in_ok-place.ensures.keeps mid now counters image last m (all_kept c.args.files.now c.add_file.new.self from mid kind n (last_file c.args.files.now kind) least.free joins same m among) in
    record { allocations = λ words are. second.allocations words (first.allocations words are); empty = λ was. second.empty (first.empty was) }

pub returns-clause-all : goal.returns-clause-all
returns-clause-all g c m among =
    let kind : ℕ = kind_number c.args.kind in
    let n : ℕ = free_number c.args.files.now in
    let joins : Joins c.args.files.now c.add_file.new.self kind n 0 8192 = subst (λ (k : ℕ). Joins c.args.files.now c.add_file.new.self kind k 0 8192) c.in_ok-file.ensures.number c.in_ok-file.ensures.kept in
    let least : IsLeastFileNumber c.args.files.now n = subst (IsLeastFileNumber c.args.files.now) c.in_ok-file.ensures.number c.in_ok-file.ensures.least in
    c.in_ok-place.ensures.all m (all_kept c.args.files.now c.add_file.new.self no_image no_image kind n (last_file c.args.files.now kind) least.free joins (outside-refl (addition_of c.args.files.now kind) no_image) m among)

pub returns-clause-marks : goal.returns-clause-marks
returns-clause-marks g c from there image last m b among =
    let kind : ℕ = kind_number c.args.kind in
    let n : ℕ = free_number c.args.files.now in
    let now = c.in_ok-file.ensures.steps.files ∙ ap (option_map (after (add_steps c.args.files.now kind))) there in
    let mid : Image = after (add_steps c.args.files.now kind) from in
    let joins : Joins c.args.files.now c.add_file.new.self kind n 0 8192 = subst (λ (k : ℕ). Joins c.args.files.now c.add_file.new.self kind k 0 8192) c.in_ok-file.ensures.number c.in_ok-file.ensures.kept in
    let least : IsLeastFileNumber c.args.files.now n = subst (IsLeastFileNumber c.args.files.now) c.in_ok-file.ensures.number c.in_ok-file.ensures.least in
    let same = (passes_end (c.in_ok-file.ensures.stops from there) mid now).outside in
    c.in_ok-place.ensures.marks mid now image last m b (all_kept c.args.files.now c.add_file.new.self from mid kind n (last_file c.args.files.now kind) least.free joins same m among)
    ∙ (join_widens c.args.files.now c.add_file.new.self from mid kind n (last_file c.args.files.now kind) least.free joins same).marks m b among

pub returns-clause-fresh : goal.returns-clause-fresh
returns-clause-fresh g c from there image last =
    let kind : ℕ = kind_number c.args.kind in
    let n : ℕ = free_number c.args.files.now in
    let now = c.in_ok-file.ensures.steps.files ∙ ap (option_map (after (add_steps c.args.files.now kind))) there in
    let mid : Image = after (add_steps c.args.files.now kind) from in
    let joins : Joins c.args.files.now c.add_file.new.self kind n 0 8192 = subst (λ (k : ℕ). Joins c.args.files.now c.add_file.new.self kind k 0 8192) c.in_ok-file.ensures.number c.in_ok-file.ensures.kept in
    let least : IsLeastFileNumber c.args.files.now n = subst (IsLeastFileNumber c.args.files.now) c.in_ok-file.ensures.number c.in_ok-file.ensures.least in
    let same = (passes_end (c.in_ok-file.ensures.stops from there) mid now).outside in
    let file = added_file c.args.files.now from c.args.kind c.requires.block_kind (c.requires.agrees from there) c.requires.room least in
    let linked = member_all c.add_file.new.self c.args.kind n c.requires.block_kind (new_among c.args.files.now c.add_file.new.self from mid kind n (last_file c.args.files.now kind) least.free joins same) in
    let counters : HasCounters mid c.in_ok-file.file = subst (HasCounters mid) (sym c.in_ok-file.ensures.number) (added_counters c.args.files.now from c.args.kind c.requires.block_kind (c.requires.agrees from there) c.requires.room least) in
    (c.in_ok-place.ensures.keeps mid now counters image last n linked).allocations [] (new_allocations mid kind n file)

pub returns-clause-hints : goal.returns-clause-hints
returns-clause-hints g c from there image last =
    let kind : ℕ = kind_number c.args.kind in
    let n : ℕ = free_number c.args.files.now in
    let now = c.in_ok-file.ensures.steps.files ∙ ap (option_map (after (add_steps c.args.files.now kind))) there in
    let mid : Image = after (add_steps c.args.files.now kind) from in
    let least : IsLeastFileNumber c.args.files.now n = subst (IsLeastFileNumber c.args.files.now) c.in_ok-file.ensures.number c.in_ok-file.ensures.least in
    let file = added_file c.args.files.now from c.args.kind c.requires.block_kind (c.requires.agrees from there) c.requires.room least in
    grown_hints c.in_ok-file.file n mid image (passes_end (c.in_ok-place.ensures.stops mid now) image last).outside (new_hints mid kind n file)

pub returns-in_err-file-clause-writes : goal.returns-in_err-file-clause-writes
returns-in_err-file-clause-writes g c = record {
  silent = silent_part c.in_err-file.ensures.prefix;
  later = omega arith;
  failed = search rules;
}

pub returns-in_err-place-clause-writes : goal.returns-in_err-place-clause-writes
returns-in_err-place-clause-writes g c = record {
  silent = λ none. c.in_err-place.ensures.writes.silent (silent_part c.in_ok-file.ensures.prefix none);
  later = omega arith;
  failed = search rules;
}

pub returns-clause-writes : goal.returns-clause-writes
returns-clause-writes g c = record {
  silent = λ none. c.in_ok-place.ensures.writes.silent (silent_part c.in_ok-file.ensures.prefix none);
  later = omega arith;
  failed = search rules;
}

pub returns-in_err-file-clause-standing : goal.returns-in_err-file-clause-standing
returns-in_err-file-clause-standing g c = standing_same c.args.files.now c.add_file.new.self c.in_err-file.ensures.same

pub returns-in_err-place-clause-standing : goal.returns-in_err-place-clause-standing
returns-in_err-place-clause-standing g c w is =
    c.in_err-place.ensures.standing w (standing_kept c.args.files.now c.add_file.new.self (join_larger c.args.files.now c.add_file.new.self (kind_number c.args.kind) c.in_ok-file.file c.in_ok-file.ensures.least.free c.in_ok-file.ensures.kept) w is)

pub returns-clause-standing : goal.returns-clause-standing
returns-clause-standing g c w is =
    c.in_ok-place.ensures.standing w (standing_kept c.args.files.now c.add_file.new.self (join_larger c.args.files.now c.add_file.new.self (kind_number c.args.kind) c.in_ok-file.file c.in_ok-file.ensures.least.free c.in_ok-file.ensures.kept) w is)

pub returns-clause-links : goal.returns-clause-links
returns-clause-links g c =
    let n : ℕ = free_number c.args.files.now in
    let joins : Joins c.args.files.now c.add_file.new.self (kind_number c.args.kind) n 0 8192 = subst (λ (k : ℕ). Joins c.args.files.now c.add_file.new.self (kind_number c.args.kind) k 0 8192) c.in_ok-file.ensures.number c.in_ok-file.ensures.kept in
    links_then c.args.files.now c.add_file.new.self c.grow_room.new.files n (joined_links c.args.files.now c.add_file.new.self (kind_number c.args.kind) n 0 8192 joins) c.in_ok-place.ensures.links

pub returns-in_err-file-clause-stops : goal.returns-in_err-file-clause-stops
returns-in_err-file-clause-stops g c from there =
    let A = addition_of c.args.files.now (kind_number c.args.kind) in
    let wider = whole_wider A (either A (growth_of (free_number c.args.files.now))) (within_left A (growth_of (free_number c.args.files.now))) from in
    passes_weaker (c.in_err-file.ensures.stops from there) wider wider

pub returns-in_err-place-clause-stops : goal.returns-in_err-place-clause-stops
returns-in_err-place-clause-stops g c = added_then c.args.files.now (kind_number c.args.kind) c.in_ok-file.file c.in_ok-file.ensures.number c.in_ok-file.ensures.stops c.in_err-place.ensures.stops

pub returns-clause-stops : goal.returns-clause-stops
returns-clause-stops g c = added_then c.args.files.now (kind_number c.args.kind) c.in_ok-file.file c.in_ok-file.ensures.number c.in_ok-file.ensures.stops c.in_ok-place.ensures.stops

pub returns-clause-raised : goal.returns-clause-raised
returns-clause-raised g c from there image last =
    let kind : ℕ = kind_number c.args.kind in
    let n : ℕ = free_number c.args.files.now in
    let now = c.in_ok-file.ensures.steps.files ∙ ap (option_map (after (add_steps c.args.files.now kind))) there in
    let mid : Image = after (add_steps c.args.files.now kind) from in
    let joins : Joins c.args.files.now c.add_file.new.self kind n 0 8192 = subst (λ (k : ℕ). Joins c.args.files.now c.add_file.new.self kind k 0 8192) c.in_ok-file.ensures.number c.in_ok-file.ensures.kept in
    let least : IsLeastFileNumber c.args.files.now n = subst (IsLeastFileNumber c.args.files.now) c.in_ok-file.ensures.number c.in_ok-file.ensures.least in
    let file = added_file c.args.files.now from c.args.kind c.requires.block_kind (c.requires.agrees from there) c.requires.room least in
    let raise : empty_of (byte image (Block n)) 3 ≡ raised mid n (new_groups (blocks_of c.add_file.new.self n)) = subst (λ (k : ℕ). empty_of (byte image (Block k)) 3 ≡ raised mid k (new_groups (blocks_of c.add_file.new.self k))) c.in_ok-file.ensures.number (c.in_ok-place.ensures.raised mid now image last) in
    first_groups (empty_of (byte image (Block n)) 3) (empty_of (byte mid (Block n)) 3) (blocks_of c.add_file.new.self n) raise (new_counts mid kind n file 3) joins.blocks_there

pub returns-clause-blocks : goal.returns-clause-blocks
returns-clause-blocks g c =
    let kind : ℕ = kind_number c.args.kind in
    let n : ℕ = free_number c.args.files.now in
    let joins : Joins c.args.files.now c.add_file.new.self kind n 0 8192 = subst (λ (k : ℕ). Joins c.args.files.now c.add_file.new.self kind k 0 8192) c.in_ok-file.ensures.number c.in_ok-file.ensures.kept in
    first_blocks (blocks_of c.grow_room.new.files n) (blocks_of c.add_file.new.self n) (subst (λ (k : ℕ). blocks_of c.grow_room.new.files k ≡ grown (blocks_of c.add_file.new.self k)) c.in_ok-file.ensures.number c.in_ok-place.ensures.blocks) joins.blocks_there

pub returns-clause-kept_hints : goal.returns-clause-kept_hints
returns-clause-kept_hints g c from there image last m i among small =
    let kind : ℕ = kind_number c.args.kind in
    let n : ℕ = free_number c.args.files.now in
    let now = c.in_ok-file.ensures.steps.files ∙ ap (option_map (after (add_steps c.args.files.now kind))) there in
    let mid : Image = after (add_steps c.args.files.now kind) from in
    let least : IsLeastFileNumber c.args.files.now n = subst (IsLeastFileNumber c.args.files.now) c.in_ok-file.ensures.number c.in_ok-file.ensures.least in
    c.in_ok-place.ensures.hints mid now image last m i small
    ∙ addition_keeps c.args.files.now kind from mid (passes_end (c.in_ok-file.ensures.stops from there) mid now).outside m i (λ e. among_or_not (sym among ∙ ap (is_among (all_files c.args.files.now)) e ∙ least.free)) small

pub returns-clause-empty : goal.returns-clause-empty
returns-clause-empty g c from there image last =
    subst (EmptyAgrees image) c.in_ok-file.ensures.number (subst (EmptyAgrees image) c.in_ok-place.ensures.place.0 (returns-clause-markable g c from there image last).ready.empty)
