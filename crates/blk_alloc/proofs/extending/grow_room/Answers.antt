use Rattle.std.proofs.Common.{◌≡◌, ℕ, ◌+◌, ◌*◌, ◌/◌, ◌%◌, ◌<◌, ◌≤◌, List, min, true, refl, sym, ◌∙◌, ap, subst, arith}
use Rattle.std.specs.Option.{option_map}
use Rattle.spec_image.specs.Steps.{after}
use Rattle.spec_image.specs.Footprint.{SameOutside}
use Rattle.spec_image.proofs.Runs.{passes_end, some_inj}
use Rattle.spec_format.specs.Maps.{is_block_marked, are_free}
use Rattle.blk_disk.specs.Tables.{blocks_of}
use Rattle.blk_disk.specs.Growth.{growth_of, grow_steps}
use Rattle.blk_alloc.specs.Changes.{CanChangeMarks}
use Rattle.blk_alloc.proofs.Members.{member_all, member_head}
use Rattle.spec_format.specs.BlockFiles.{is_among}
use Rattle.blk_addr.specs.Kind.{kind_number}
use Rattle.spec_format.proofs.LinkedHeads.{count_whole}
use Rattle.blk_alloc.proofs.Growing.{grow_widens}
use Rattle.blk_alloc.proofs.Kept.{grow_larger, standing_kept, standing_same}
use Rattle.blk_alloc.proofs.Grown.{grown_ready, grown_free, grown_keeps, raise_is}
use Rattle.blk_alloc.proofs.Hints.{growth_keeps}
use Rattle.blk_alloc.proofs.extending.grow_room.Goals as goal

pub grow-requires-clause-linked : goal.grow-requires-clause-linked
grow-requires-clause-linked g c = member_all c.args.files.now c.args.kind c.args.file c.requires.block_kind c.requires.linked

start_is : (blocks old : ℕ) → blocks ≡ min old 64896 → old < 64896 → blocks / 4 * 4 ≡ old / 4 * 4
start_is blocks old is below = omega (arith, is, below)

whole_start : (old : ℕ) → old % 4 ≡ 0 → old / 4 * 4 ≡ old
whole_start old whole = omega (arith, whole)

small_start : (blocks old : ℕ) → blocks ≡ min old 64896 → old < 64896 → blocks / 4 * 4 < 64896
small_start blocks old is below = omega (arith, is, below)

below_grown : (blocks old new : ℕ) → blocks ≡ min old 64896 → old < 64896 → new ≡ min (old + 1024) 64896 → blocks / 4 * 4 < new
below_grown blocks old new is below grown = omega (arith, is, below, grown)

in_one_group : (groups count : ℕ) → count ≤ 4 → groups * 4 % 4 + count ≤ 4
in_one_group groups count few = omega (arith, few)

pub returns-clause-place : goal.returns-clause-place
returns-clause-place g c =
    let all = member_all c.args.files.now c.args.kind c.args.file c.requires.block_kind c.requires.linked in
    (refl, start_is c.blocks_in-groups.result (blocks_of c.args.files.now c.args.file) (c.blocks_in-groups.ensures.blocks all) c.requires.below, refl)

pub returns-clause-markable : goal.returns-clause-markable
returns-clause-markable g c from there counters mid now =
    let all = member_all c.args.files.now c.args.kind c.args.file c.requires.block_kind c.requires.linked in
    let agrees = c.requires.agrees from there in
    let head = member_head c.args.files.now from c.args.kind c.args.file c.requires.block_kind agrees c.requires.linked in
    let same : SameOutside (growth_of c.args.file) from mid = (passes_end (c.in_ok-grow.ensures.stops from there) mid now).outside in
    let is : mid ≡ after (grow_steps c.args.files.now c.args.file from) from = some_inj (sym now ∙ (c.in_ok-grow.ensures.steps from there).files ∙ ap (option_map (after (grow_steps c.args.files.now c.args.file from))) there) in
    let whole : blocks_of c.args.files.now c.args.file % 4 ≡ 0 = ap (λ (k : ℕ). k % 4) (agrees.blocks c.args.file all) ∙ (count_whole _ head.count).0 in
    let start : c.blocks_in-groups.result / 4 * 4 ≡ blocks_of c.args.files.now c.args.file =
    start_is c.blocks_in-groups.result (blocks_of c.args.files.now c.args.file) (c.blocks_in-groups.ensures.blocks all) c.requires.below ∙ whole_start (blocks_of c.args.files.now c.args.file) whole in
    record {
      ready = subst (λ (s : ℕ). CanChangeMarks mid c.args.file s c.args.count true) (sym start) (grown_ready c.args.files.now c.grow.new.self from mid c.args.file agrees (c.in_ok-grow.ensures.agrees mid now) all c.in_ok-grow.ensures.kept c.requires.below head same is counters c.args.count c.requires.few);
      free = subst (λ (s : ℕ). are_free (is_block_marked mid c.args.file) s c.args.count ≡ true) (sym start) (grown_free c.args.files.now c.grow.new.self from mid c.args.file agrees (c.in_ok-grow.ensures.agrees mid now) all c.in_ok-grow.ensures.kept c.requires.below head same is counters c.args.count c.requires.few);
    }

pub returns-clause-keeps : goal.returns-clause-keeps
returns-clause-keeps g c from there counters mid now =
    let all = member_all c.args.files.now c.args.kind c.args.file c.requires.block_kind c.requires.linked in
    let agrees = c.requires.agrees from there in
    let head = member_head c.args.files.now from c.args.kind c.args.file c.requires.block_kind agrees c.requires.linked in
    let same : SameOutside (growth_of c.args.file) from mid = (passes_end (c.in_ok-grow.ensures.stops from there) mid now).outside in
    let is : mid ≡ after (grow_steps c.args.files.now c.args.file from) from = some_inj (sym now ∙ (c.in_ok-grow.ensures.steps from there).files ∙ ap (option_map (after (grow_steps c.args.files.now c.args.file from))) there) in
    grown_keeps c.args.files.now c.grow.new.self from mid c.args.file agrees (c.in_ok-grow.ensures.agrees mid now) all c.in_ok-grow.ensures.kept c.requires.below head same is counters

pub returns-clause-fits : goal.returns-clause-fits
returns-clause-fits g c =
    let all = member_all c.args.files.now c.args.kind c.args.file c.requires.block_kind c.requires.linked in
    record {
      linked = ap (λ (l : List ℕ). is_among l c.args.file) (c.in_ok-grow.ensures.kept.files (kind_number c.args.kind)) ∙ c.requires.linked;
      number = c.blocks_in-groups.ensures.number;
      small = small_start c.blocks_in-groups.result (blocks_of c.args.files.now c.args.file) (c.blocks_in-groups.ensures.blocks all) c.requires.below;
      below = below_grown c.blocks_in-groups.result (blocks_of c.args.files.now c.args.file) (blocks_of c.grow.new.self c.args.file) (c.blocks_in-groups.ensures.blocks all) c.requires.below c.in_ok-grow.ensures.kept.blocks_there;
      group = in_one_group (c.blocks_in-groups.result / 4) c.args.count c.requires.few;
      counted = refl;
    }

pub returns-clause-all : goal.returns-clause-all
returns-clause-all g c n there = ap (λ (l : List ℕ). is_among l n) c.in_ok-grow.ensures.kept.all ∙ there

pub returns-clause-marks : goal.returns-clause-marks
returns-clause-marks g c from there mid now n b among =
    let same : SameOutside (growth_of c.args.file) from mid = (passes_end (c.in_ok-grow.ensures.stops from there) mid now).outside in
    (grow_widens c.args.files.now c.grow.new.self from mid c.args.file c.in_ok-grow.ensures.kept c.requires.below same).marks n b among

pub returns-in_err-grow-clause-standing : goal.returns-in_err-grow-clause-standing
returns-in_err-grow-clause-standing g c = standing_same c.args.files.now c.grow.new.self c.in_err-grow.ensures.same

pub returns-clause-standing : goal.returns-clause-standing
returns-clause-standing g c = standing_kept c.args.files.now c.grow.new.self (grow_larger c.args.files.now c.grow.new.self c.args.file c.in_ok-grow.ensures.kept c.requires.below)

pub returns-clause-links : goal.returns-clause-links
returns-clause-links g c = c.in_ok-grow.ensures.kept.files

pub returns-clause-raised : goal.returns-clause-raised
returns-clause-raised g c from there mid now =
    let all = member_all c.args.files.now c.args.kind c.args.file c.requires.block_kind c.requires.linked in
    let is : mid ≡ after (grow_steps c.args.files.now c.args.file from) from = some_inj (sym now ∙ (c.in_ok-grow.ensures.steps from there).files ∙ ap (option_map (after (grow_steps c.args.files.now c.args.file from))) there) in
    raise_is c.args.files.now from mid c.args.file (c.requires.agrees from there) all c.requires.below is

pub returns-clause-blocks : goal.returns-clause-blocks
returns-clause-blocks g c = c.in_ok-grow.ensures.kept.blocks_there

pub returns-clause-hints : goal.returns-clause-hints
returns-clause-hints g c from there mid now = growth_keeps c.args.file from mid (passes_end (c.in_ok-grow.ensures.stops from there) mid now).outside
