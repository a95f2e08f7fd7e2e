use Rattle.std.proofs.Common.{◌≡◌, ℕ, ◌+◌, ◌<◌, ◌≤◌, min, take, drop, length, sym, ◌∙◌, subst, arith}
use Rattle.std.specs.List.{All}
use Rattle.std.proofs.lemmas.List.{take_all}
use Rattle.std.proofs.lemmas.List.Elements.{All-more}
use Rattle.blk_addr.specs.Kind.{kind_number}
use Rattle.blk_disk.specs.Tables.{files_of, blocks_of}
use Rattle.blk_alloc.specs.Extending.{HasMostBlocks}
use Rattle.blk_alloc.proofs.Members.{member_all, member_at, split_at, at_place}
use Rattle.blk_alloc.proofs.extending.growing_file.Goals as goal

below_is : (n blocks : ℕ) → n ≡ min blocks 64896 → n < 64896 → blocks < 64896
below_is n blocks is small = omega (arith, is, small)

most_is : (n blocks : ℕ) → n ≡ min blocks 64896 → 64896 ≤ n → 64896 ≤ blocks
most_is n blocks is big = omega (arith, is, big)

pub returns-then-blocks_in-lt-MOST_BLOCKS : goal.returns-then-blocks_in-lt-MOST_BLOCKS
returns-then-blocks_in-lt-MOST_BLOCKS c =
    let files = files_of c.args.files.now (kind_number c.args.kind) in
    let at = sym c.file_at.ensures ∙ c.in-Some.is in
    let all = member_all c.args.files.now c.args.kind c.in-Some.file c.requires (member_at files c.loop-i.i c.in-Some.file at) in
    record {
      before = take c.loop-i.i files;
      behind = drop (c.loop-i.i + 1) files;
      split = split_at files c.loop-i.i c.in-Some.file at;
      full = c.loop-i.invariant;
      below = below_is c.blocks_in.result (blocks_of c.args.files.now c.in-Some.file) (c.blocks_in.ensures.blocks all) c.if-blocks_in-lt-MOST_BLOCKS.true;
    }

pub loop-i-preserved : goal.loop-i-preserved
loop-i-preserved c =
    let files = files_of c.args.files.now (kind_number c.args.kind) in
    let at = sym c.file_at.ensures ∙ c.in-Some.is in
    let place = at_place files c.loop-i.i c.in-Some.file at in
    let all = member_all c.args.files.now c.args.kind c.in-Some.file c.requires (member_at files c.loop-i.i c.in-Some.file at) in
    All-more (HasMostBlocks c.args.files.now) files c.loop-i.i 0 place.0 c.loop-i.invariant
    (subst (HasMostBlocks c.args.files.now) (sym (place.1 0)) (most_is c.blocks_in.result (blocks_of c.args.files.now c.in-Some.file) (c.blocks_in.ensures.blocks all) c.if-blocks_in-lt-MOST_BLOCKS.false))

pub returns : goal.returns
returns c =
    let files = files_of c.args.files.now (kind_number c.args.kind) in
    let ends : c.count-i-end.result ≡ length files = c.count-i-end.ensures in
    subst (All (HasMostBlocks c.args.files.now)) (take_all c.loop-i.i files (omega (arith, ends, c.loop-i-test.false))) c.loop-i.invariant
