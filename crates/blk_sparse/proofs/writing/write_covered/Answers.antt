use Rattle.std.proofs.Common.{◌≡◌, ◌+◌, ◌-◌, ◌≤◌, ◌<◌, List, Option, None, Some, length, sym, ◌∙◌, subst, arith}
use Rattle.std.specs.Int.{cast_unsigned, w64}
use Rattle.std.proofs.lemmas.Result.{on_ok_weaker}
use Rattle.spec_image.specs.Image.{Image}
use Rattle.spec_image.proofs.Runs.{passes_then, passes_weaker}
use Rattle.blk_io.proofs.Carried.{carried, if_damaged_weaker}
use Rattle.blk_model.specs.Items.{Row}
use Rattle.law_state.specs.Changes.{Finds}
use Rattle.blk_object.proofs.MakingTaken.{told-mid}
use Rattle.blk_sparse.proofs.WritingCovered.{at-place, can-first, can-one, can-second, covers-one, covers-two, done-one, done-two, order-one, order-two, rest-mid}
use Rattle.blk_sparse.proofs.writing.write_covered.Goals as goal

pub returns-then-bytes-left-clause-written : goal.returns-then-bytes-left-clause-written
returns-then-bytes-left-clause-written g c =
    on_ok_weaker c.write_piece.result
    (λ ends from there state layout unlinked number object node can of_key image now.
    let at = at-place c.args.data.offset c.child_of-number.result.0 c.child_of-number.result.1 c.child_of-number.ensures.part c.child_of-number.ensures.place in
    let fits : length c.args.data.bytes.now ≤ 1048576 - c.child_of-number.result.1 = c.if-bytes-left.true in
    let covers = covers-one c.args.data.offset (length c.args.data.bytes.now) c.child_of-number.result.0 c.child_of-number.result.1 c.child_of-number.ensures.part c.child_of-number.ensures.place c.requires.some fits in
    let room : c.child_of-number.result.1 + length c.args.data.bytes.now ≤ 1048576 = (let is_place = c.child_of-number.ensures.place in omega (arith, is_place, fits)) in
    done-one state layout unlinked number object node c.args.parent.now.entry (cast_unsigned w64 c.args.parent.now.signature) from c.args.data.offset c.args.data.bytes.now can c.child_of-number.result.0 c.child_of-number.result.1 at covers room image (ends from there state layout unlinked number object node (can-one state layout unlinked number object node c.args.parent.now.entry (cast_unsigned w64 c.args.parent.now.signature) from c.args.data.offset c.args.data.bytes.now can c.child_of-number.result.0 c.child_of-number.result.1 at covers room) of_key image now))
    c.write_piece.ensures.written

pub returns-then-bytes-left-clause-ordered : goal.returns-then-bytes-left-clause-ordered
returns-then-bytes-left-clause-ordered g c =
    on_ok_weaker c.write_piece.result
    (λ ends from there state layout unlinked number object node can of_key.
    let at = at-place c.args.data.offset c.child_of-number.result.0 c.child_of-number.result.1 c.child_of-number.ensures.part c.child_of-number.ensures.place in
    let fits : length c.args.data.bytes.now ≤ 1048576 - c.child_of-number.result.1 = c.if-bytes-left.true in
    let covers = covers-one c.args.data.offset (length c.args.data.bytes.now) c.child_of-number.result.0 c.child_of-number.result.1 c.child_of-number.ensures.part c.child_of-number.ensures.place c.requires.some fits in
    let room : c.child_of-number.result.1 + length c.args.data.bytes.now ≤ 1048576 = (let is_place = c.child_of-number.ensures.place in omega (arith, is_place, fits)) in
    order-one state layout unlinked number object node c.args.parent.now.entry (cast_unsigned w64 c.args.parent.now.signature) from c.args.data.offset c.args.data.bytes.now can c.child_of-number.result.0 c.child_of-number.result.1 at covers room c.write_piece.new.files (g.F.Folder.told c.args.folder.now) (g.F.Folder.told c.write_piece.new.folder) there (ends from there state layout unlinked number object node (can-one state layout unlinked number object node c.args.parent.now.entry (cast_unsigned w64 c.args.parent.now.signature) from c.args.data.offset c.args.data.bytes.now can c.child_of-number.result.0 c.child_of-number.result.1 at covers room) of_key))
    c.write_piece.ensures.ordered

pub returns-then-bytes-left-clause-stops : goal.returns-then-bytes-left-clause-stops
returns-then-bytes-left-clause-stops g c from there state layout unlinked number object node can of_key =
    let at = at-place c.args.data.offset c.child_of-number.result.0 c.child_of-number.result.1 c.child_of-number.ensures.part c.child_of-number.ensures.place in
    let fits : length c.args.data.bytes.now ≤ 1048576 - c.child_of-number.result.1 = c.if-bytes-left.true in
    let covers = covers-one c.args.data.offset (length c.args.data.bytes.now) c.child_of-number.result.0 c.child_of-number.result.1 c.child_of-number.ensures.part c.child_of-number.ensures.place c.requires.some fits in
    let room : c.child_of-number.result.1 + length c.args.data.bytes.now ≤ 1048576 = (let is_place = c.child_of-number.ensures.place in omega (arith, is_place, fits)) in
    c.write_piece.ensures.stops from there state layout unlinked number object node (can-one state layout unlinked number object node c.args.parent.now.entry (cast_unsigned w64 c.args.parent.now.signature) from c.args.data.offset c.args.data.bytes.now can c.child_of-number.result.0 c.child_of-number.result.1 at covers room) of_key

pub returns-then-bytes-left-clause-untold : goal.returns-then-bytes-left-clause-untold
returns-then-bytes-left-clause-untold g c from there state layout unlinked number object node can of_key =
    let at = at-place c.args.data.offset c.child_of-number.result.0 c.child_of-number.result.1 c.child_of-number.ensures.part c.child_of-number.ensures.place in
    let fits : length c.args.data.bytes.now ≤ 1048576 - c.child_of-number.result.1 = c.if-bytes-left.true in
    let covers = covers-one c.args.data.offset (length c.args.data.bytes.now) c.child_of-number.result.0 c.child_of-number.result.1 c.child_of-number.ensures.part c.child_of-number.ensures.place c.requires.some fits in
    let room : c.child_of-number.result.1 + length c.args.data.bytes.now ≤ 1048576 = (let is_place = c.child_of-number.ensures.place in omega (arith, is_place, fits)) in
    c.write_piece.ensures.untold from there state layout unlinked number object node (can-one state layout unlinked number object node c.args.parent.now.entry (cast_unsigned w64 c.args.parent.now.signature) from c.args.data.offset c.args.data.bytes.now can c.child_of-number.result.0 c.child_of-number.result.1 at covers room) of_key

pub returns-in_err-write_piece-clause-stops : goal.returns-in_err-write_piece-clause-stops
returns-in_err-write_piece-clause-stops g c from there state layout unlinked number object node can of_key =
    let at = at-place c.args.data.offset c.child_of-number.result.0 c.child_of-number.result.1 c.child_of-number.ensures.part c.child_of-number.ensures.place in
    let more : 1048576 - c.child_of-number.result.1 < length c.args.data.bytes.now = (let f = c.if-bytes-left.false in omega (arith, f)) in
    let covers = covers-two c.args.data.offset (length c.args.data.bytes.now) c.child_of-number.result.0 c.child_of-number.result.1 c.child_of-number.ensures.part c.child_of-number.ensures.place more c.requires.few in
    let left : c.child_of-number.result.1 + (1048576 - c.child_of-number.result.1) ≡ 1048576 = (let is_place = c.child_of-number.ensures.place in omega (arith, is_place)) in
    c.write_piece-2.ensures.stops from there state layout unlinked number object node (can-first state layout unlinked number object node c.args.parent.now.entry (cast_unsigned w64 c.args.parent.now.signature) from c.args.data.offset c.args.data.bytes.now can c.child_of-number.result.0 c.child_of-number.result.1 at covers (1048576 - c.child_of-number.result.1) left c.requires.few _ _ c.split_at.ensures.front c.split_at.ensures.back) of_key

pub returns-in_err-write_piece-clause-untold : goal.returns-in_err-write_piece-clause-untold
returns-in_err-write_piece-clause-untold g c from there state layout unlinked number object node can of_key =
    let at = at-place c.args.data.offset c.child_of-number.result.0 c.child_of-number.result.1 c.child_of-number.ensures.part c.child_of-number.ensures.place in
    let more : 1048576 - c.child_of-number.result.1 < length c.args.data.bytes.now = (let f = c.if-bytes-left.false in omega (arith, f)) in
    let covers = covers-two c.args.data.offset (length c.args.data.bytes.now) c.child_of-number.result.0 c.child_of-number.result.1 c.child_of-number.ensures.part c.child_of-number.ensures.place more c.requires.few in
    let left : c.child_of-number.result.1 + (1048576 - c.child_of-number.result.1) ≡ 1048576 = (let is_place = c.child_of-number.ensures.place in omega (arith, is_place)) in
    carried c.write_piece-2.result c.from_residual.result c.in_err-write_piece.field-0.0 (λ _. (g.F.Folder.told c.args.folder.now).files ≡ None) c.in_err-write_piece.was c.from_residual.ensures.1
    (c.write_piece-2.ensures.untold from there state layout unlinked number object node (can-first state layout unlinked number object node c.args.parent.now.entry (cast_unsigned w64 c.args.parent.now.signature) from c.args.data.offset c.args.data.bytes.now can c.child_of-number.result.0 c.child_of-number.result.1 at covers (1048576 - c.child_of-number.result.1) left c.requires.few _ _ c.split_at.ensures.front c.split_at.ensures.back) of_key)

pub returns-clause-written : goal.returns-clause-written
returns-clause-written g c =
    on_ok_weaker c.write_piece-3.result
    (λ ends from there state layout unlinked number object node can of_key image now.
    let at = at-place c.args.data.offset c.child_of-number.result.0 c.child_of-number.result.1 c.child_of-number.ensures.part c.child_of-number.ensures.place in
    let more : 1048576 - c.child_of-number.result.1 < length c.args.data.bytes.now = (let f = c.if-bytes-left.false in omega (arith, f)) in
    let covers = covers-two c.args.data.offset (length c.args.data.bytes.now) c.child_of-number.result.0 c.child_of-number.result.1 c.child_of-number.ensures.part c.child_of-number.ensures.place more c.requires.few in
    let left : c.child_of-number.result.1 + (1048576 - c.child_of-number.result.1) ≡ 1048576 = (let is_place = c.child_of-number.ensures.place in omega (arith, is_place)) in
    let mid = told-mid (g.F.Folder.told c.args.folder.now) (g.F.Folder.told c.write_piece-2.new.folder) from there (c.write_piece-2.ensures.stops from there state layout unlinked number object node (can-first state layout unlinked number object node c.args.parent.now.entry (cast_unsigned w64 c.args.parent.now.signature) from c.args.data.offset c.args.data.bytes.now can c.child_of-number.result.0 c.child_of-number.result.1 at covers (1048576 - c.child_of-number.result.1) left c.requires.few _ _ c.split_at.ensures.front c.split_at.ensures.back) of_key) in
    let k = c.in_ok-write_piece.ensures.written from there state layout unlinked number object node (can-first state layout unlinked number object node c.args.parent.now.entry (cast_unsigned w64 c.args.parent.now.signature) from c.args.data.offset c.args.data.bytes.now can c.child_of-number.result.0 c.child_of-number.result.1 at covers (1048576 - c.child_of-number.result.1) left c.requires.few _ _ c.split_at.ensures.front c.split_at.ensures.back) of_key mid.0 mid.1 in
    done-two state layout unlinked number object node c.args.parent.now.entry (cast_unsigned w64 c.args.parent.now.signature) from c.args.data.offset c.args.data.bytes.now can c.child_of-number.result.0 c.child_of-number.result.1 at covers (1048576 - c.child_of-number.result.1) left c.requires.few _ _ c.split_at.ensures.front c.split_at.ensures.back mid.0 k image (ends mid.0 mid.1 _ k.now unlinked number _ node (can-second state layout unlinked number object node c.args.parent.now.entry (cast_unsigned w64 c.args.parent.now.signature) from c.args.data.offset c.args.data.bytes.now can c.child_of-number.result.0 c.child_of-number.result.1 at covers (1048576 - c.child_of-number.result.1) left c.requires.few _ _ c.split_at.ensures.front c.split_at.ensures.back mid.0 k) of_key image now))
    c.write_piece-3.ensures.written

pub returns-clause-ordered : goal.returns-clause-ordered
returns-clause-ordered g c =
    on_ok_weaker c.write_piece-3.result
    (λ ends from there state layout unlinked number object node can of_key.
    let at = at-place c.args.data.offset c.child_of-number.result.0 c.child_of-number.result.1 c.child_of-number.ensures.part c.child_of-number.ensures.place in
    let more : 1048576 - c.child_of-number.result.1 < length c.args.data.bytes.now = (let f = c.if-bytes-left.false in omega (arith, f)) in
    let covers = covers-two c.args.data.offset (length c.args.data.bytes.now) c.child_of-number.result.0 c.child_of-number.result.1 c.child_of-number.ensures.part c.child_of-number.ensures.place more c.requires.few in
    let left : c.child_of-number.result.1 + (1048576 - c.child_of-number.result.1) ≡ 1048576 = (let is_place = c.child_of-number.ensures.place in omega (arith, is_place)) in
    let mid = told-mid (g.F.Folder.told c.args.folder.now) (g.F.Folder.told c.write_piece-2.new.folder) from there (c.write_piece-2.ensures.stops from there state layout unlinked number object node (can-first state layout unlinked number object node c.args.parent.now.entry (cast_unsigned w64 c.args.parent.now.signature) from c.args.data.offset c.args.data.bytes.now can c.child_of-number.result.0 c.child_of-number.result.1 at covers (1048576 - c.child_of-number.result.1) left c.requires.few _ _ c.split_at.ensures.front c.split_at.ensures.back) of_key) in
    let k = c.in_ok-write_piece.ensures.written from there state layout unlinked number object node (can-first state layout unlinked number object node c.args.parent.now.entry (cast_unsigned w64 c.args.parent.now.signature) from c.args.data.offset c.args.data.bytes.now can c.child_of-number.result.0 c.child_of-number.result.1 at covers (1048576 - c.child_of-number.result.1) left c.requires.few _ _ c.split_at.ensures.front c.split_at.ensures.back) of_key mid.0 mid.1 in
    order-two state layout unlinked number object node c.args.parent.now.entry (cast_unsigned w64 c.args.parent.now.signature) from c.args.data.offset c.args.data.bytes.now can c.child_of-number.result.0 c.child_of-number.result.1 at covers (1048576 - c.child_of-number.result.1) left c.requires.few _ _ c.split_at.ensures.front c.split_at.ensures.back mid.0 k c.write_piece-2.new.files c.write_piece-3.new.files (g.F.Folder.told c.args.folder.now) (g.F.Folder.told c.write_piece-2.new.folder) (g.F.Folder.told c.write_piece-3.new.folder) there mid.1
    (c.in_ok-write_piece.ensures.ordered from there state layout unlinked number object node (can-first state layout unlinked number object node c.args.parent.now.entry (cast_unsigned w64 c.args.parent.now.signature) from c.args.data.offset c.args.data.bytes.now can c.child_of-number.result.0 c.child_of-number.result.1 at covers (1048576 - c.child_of-number.result.1) left c.requires.few _ _ c.split_at.ensures.front c.split_at.ensures.back) of_key)
    (ends mid.0 mid.1 _ k.now unlinked number _ node (can-second state layout unlinked number object node c.args.parent.now.entry (cast_unsigned w64 c.args.parent.now.signature) from c.args.data.offset c.args.data.bytes.now can c.child_of-number.result.0 c.child_of-number.result.1 at covers (1048576 - c.child_of-number.result.1) left c.requires.few _ _ c.split_at.ensures.front c.split_at.ensures.back mid.0 k) of_key))
    c.write_piece-3.ensures.ordered

pub returns-clause-stops : goal.returns-clause-stops
returns-clause-stops g c from there state layout unlinked number object node can of_key =
    let at = at-place c.args.data.offset c.child_of-number.result.0 c.child_of-number.result.1 c.child_of-number.ensures.part c.child_of-number.ensures.place in
    let more : 1048576 - c.child_of-number.result.1 < length c.args.data.bytes.now = (let f = c.if-bytes-left.false in omega (arith, f)) in
    let covers = covers-two c.args.data.offset (length c.args.data.bytes.now) c.child_of-number.result.0 c.child_of-number.result.1 c.child_of-number.ensures.part c.child_of-number.ensures.place more c.requires.few in
    let left : c.child_of-number.result.1 + (1048576 - c.child_of-number.result.1) ≡ 1048576 = (let is_place = c.child_of-number.ensures.place in omega (arith, is_place)) in
    let mid = told-mid (g.F.Folder.told c.args.folder.now) (g.F.Folder.told c.write_piece-2.new.folder) from there (c.write_piece-2.ensures.stops from there state layout unlinked number object node (can-first state layout unlinked number object node c.args.parent.now.entry (cast_unsigned w64 c.args.parent.now.signature) from c.args.data.offset c.args.data.bytes.now can c.child_of-number.result.0 c.child_of-number.result.1 at covers (1048576 - c.child_of-number.result.1) left c.requires.few _ _ c.split_at.ensures.front c.split_at.ensures.back) of_key) in
    let k = c.in_ok-write_piece.ensures.written from there state layout unlinked number object node (can-first state layout unlinked number object node c.args.parent.now.entry (cast_unsigned w64 c.args.parent.now.signature) from c.args.data.offset c.args.data.bytes.now can c.child_of-number.result.0 c.child_of-number.result.1 at covers (1048576 - c.child_of-number.result.1) left c.requires.few _ _ c.split_at.ensures.front c.split_at.ensures.back) of_key mid.0 mid.1 in
    passes_then (c.write_piece-2.ensures.stops from there state layout unlinked number object node (can-first state layout unlinked number object node c.args.parent.now.entry (cast_unsigned w64 c.args.parent.now.signature) from c.args.data.offset c.args.data.bytes.now can c.child_of-number.result.0 c.child_of-number.result.1 at covers (1048576 - c.child_of-number.result.1) left c.requires.few _ _ c.split_at.ensures.front c.split_at.ensures.back) of_key)
    (passes_weaker (c.write_piece-3.ensures.stops mid.0 mid.1 _ k.now unlinked number _ node (can-second state layout unlinked number object node c.args.parent.now.entry (cast_unsigned w64 c.args.parent.now.signature) from c.args.data.offset c.args.data.bytes.now can c.child_of-number.result.0 c.child_of-number.result.1 at covers (1048576 - c.child_of-number.result.1) left c.requires.few _ _ c.split_at.ensures.front c.split_at.ensures.back mid.0 k) of_key)
    (λ image found. subst (λ (rows : List Row). Finds rows image) (rest-mid state layout unlinked number object node c.args.parent.now.entry (cast_unsigned w64 c.args.parent.now.signature) from c.args.data.offset c.args.data.bytes.now can c.child_of-number.result.0 c.child_of-number.result.1 at covers (1048576 - c.child_of-number.result.1) left c.requires.few _ _ c.split_at.ensures.front c.split_at.ensures.back) found)
    (λ image found. subst (λ (rows : List Row). Finds rows image) (rest-mid state layout unlinked number object node c.args.parent.now.entry (cast_unsigned w64 c.args.parent.now.signature) from c.args.data.offset c.args.data.bytes.now can c.child_of-number.result.0 c.child_of-number.result.1 at covers (1048576 - c.child_of-number.result.1) left c.requires.few _ _ c.split_at.ensures.front c.split_at.ensures.back) found))

pub returns-clause-untold : goal.returns-clause-untold
returns-clause-untold g c from there state layout unlinked number object node can of_key =
    let at = at-place c.args.data.offset c.child_of-number.result.0 c.child_of-number.result.1 c.child_of-number.ensures.part c.child_of-number.ensures.place in
    let more : 1048576 - c.child_of-number.result.1 < length c.args.data.bytes.now = (let f = c.if-bytes-left.false in omega (arith, f)) in
    let covers = covers-two c.args.data.offset (length c.args.data.bytes.now) c.child_of-number.result.0 c.child_of-number.result.1 c.child_of-number.ensures.part c.child_of-number.ensures.place more c.requires.few in
    let left : c.child_of-number.result.1 + (1048576 - c.child_of-number.result.1) ≡ 1048576 = (let is_place = c.child_of-number.ensures.place in omega (arith, is_place)) in
    let mid = told-mid (g.F.Folder.told c.args.folder.now) (g.F.Folder.told c.write_piece-2.new.folder) from there (c.write_piece-2.ensures.stops from there state layout unlinked number object node (can-first state layout unlinked number object node c.args.parent.now.entry (cast_unsigned w64 c.args.parent.now.signature) from c.args.data.offset c.args.data.bytes.now can c.child_of-number.result.0 c.child_of-number.result.1 at covers (1048576 - c.child_of-number.result.1) left c.requires.few _ _ c.split_at.ensures.front c.split_at.ensures.back) of_key) in
    let k = c.in_ok-write_piece.ensures.written from there state layout unlinked number object node (can-first state layout unlinked number object node c.args.parent.now.entry (cast_unsigned w64 c.args.parent.now.signature) from c.args.data.offset c.args.data.bytes.now can c.child_of-number.result.0 c.child_of-number.result.1 at covers (1048576 - c.child_of-number.result.1) left c.requires.few _ _ c.split_at.ensures.front c.split_at.ensures.back) of_key mid.0 mid.1 in
    if_damaged_weaker c.write_piece-3.result (λ _. (g.F.Folder.told c.write_piece-2.new.folder).files ≡ None) (λ _. (g.F.Folder.told c.args.folder.now).files ≡ None) (λ damage none. absurd (let z : ◌≡◌ {A = Option Image} None (Some mid.0) = sym none ∙ mid.1 in cc))
    (c.write_piece-3.ensures.untold mid.0 mid.1 _ k.now unlinked number _ node (can-second state layout unlinked number object node c.args.parent.now.entry (cast_unsigned w64 c.args.parent.now.signature) from c.args.data.offset c.args.data.bytes.now can c.child_of-number.result.0 c.child_of-number.result.1 at covers (1048576 - c.child_of-number.result.1) left c.requires.few _ _ c.split_at.ensures.front c.split_at.ensures.back mid.0 k) of_key)
