use Rattle.std.proofs.Common.{◌≡◌, ◌+◌, ◌/◌, ℕ, None, slice_index_or, sym, ◌∙◌, ap, subst}
use Rattle.spec_image.specs.Told.{Told}
use Rattle.blk_io.proofs.Carried.{carried, if_damaged_weaker, silent_part}
use Rattle.blk_entry.specs.Keys.{IsInside}
use Rattle.blk_sparse.proofs.NewIndex.{being-noted, bit-inside, byte-read, moved-data, moved-outside, moved-steps, noted-after, nothing-noted, open-after}
use Rattle.blk_sparse.proofs.NewKept.{no-file}
use Rattle.blk_sparse.proofs.new_part.note_part.Goals as goal

pub returns-in_err-addr-clause-stops : goal.returns-in_err-addr-clause-stops
returns-in_err-addr-clause-stops g c = nothing-noted c.args.files.now c.args.parent c.args.part (g.F.Folder.told c.args.folder.now) (g.F.Folder.told c.index_place.new.folder) c.index_place.ensures.reads.stays

pub returns-in_err-addr-clause-is_open : goal.returns-in_err-addr-clause-is_open
returns-in_err-addr-clause-is_open g c image now = c.requires.is_open image (ap (λ (t : Told). t.files) (sym c.index_place.ensures.reads.stays) ∙ now)

pub returns-in_err-addr-clause-untold : goal.returns-in_err-addr-clause-untold
returns-in_err-addr-clause-untold g c has =
    carried c.index_place.result c.from_residual.result c.in_err-addr.field-0.0 (λ _. (g.F.Folder.told c.args.folder.now).files ≡ None) c.in_err-addr.was c.from_residual.ensures.1
    (c.index_place.ensures.untold (λ image there. (c.requires.is_open image there).agrees) has)

pub read_data-requires : goal.read_data-requires
read_data-requires g c = record {
  inside = subst (λ (p : ℕ). IsInside c.args.files.now c.in_ok-addr.addr p 1) (sym c.place_of_part-at.ensures) (bit-inside c.args.files.now c.in_ok-addr.addr c.args.part c.requires.part c.in_ok-addr.ensures.stores);
}

pub returns-in_err-read_data-clause-stops : goal.returns-in_err-read_data-clause-stops
returns-in_err-read_data-clause-stops g c = nothing-noted c.args.files.now c.args.parent c.args.part (g.F.Folder.told c.args.folder.now) (g.F.Folder.told c.read_data.new.folder) (c.read_data.ensures.reads.stays ∙ c.index_place.ensures.reads.stays)

pub returns-in_err-read_data-clause-is_open : goal.returns-in_err-read_data-clause-is_open
returns-in_err-read_data-clause-is_open g c image now = c.requires.is_open image (ap (λ (t : Told). t.files) (sym (c.read_data.ensures.reads.stays ∙ c.index_place.ensures.reads.stays)) ∙ now)

pub returns-in_err-read_data-clause-untold : goal.returns-in_err-read_data-clause-untold
returns-in_err-read_data-clause-untold g c has =
    carried c.read_data.result c.from_residual-in_err-read_data.result c.in_err-read_data.field-0.0 (λ _. (g.F.Folder.told c.args.folder.now).files ≡ None) c.in_err-read_data.was c.from_residual-in_err-read_data.ensures.1
    (if_damaged_weaker c.read_data.result (λ _. (g.F.Folder.told c.index_place.new.folder).files ≡ None) (λ _. (g.F.Folder.told c.args.folder.now).files ≡ None) (λ damage none. ap (λ (t : Told). t.files) (sym c.index_place.ensures.reads.stays) ∙ none)
    (c.read_data.ensures.untold (λ image now. (c.requires.is_open image (ap (λ (t : Told). t.files) (sym c.index_place.ensures.reads.stays) ∙ now)).agrees)
    (λ image now external. absurd (no-file c.args.files.now c.in_ok-addr.addr c.in_ok-addr.ensures.stores external))))

pub returns-then-has_part_bit-clause-is_open : goal.returns-then-has_part_bit-clause-is_open
returns-then-has_part_bit-clause-is_open g c image now = c.requires.is_open image (ap (λ (t : Told). t.files) (sym (c.read_data.ensures.reads.stays ∙ c.index_place.ensures.reads.stays)) ∙ now)

pub write_data-requires-clause-inside : goal.write_data-requires-clause-inside
write_data-requires-clause-inside g c = subst (λ (p : ℕ). IsInside c.args.files.now c.in_ok-addr.addr p 1) (sym c.place_of_part-at.ensures) (bit-inside c.args.files.now c.in_ok-addr.addr c.args.part c.requires.part c.in_ok-addr.ensures.stores)

pub write_data-requires-clause-agrees : goal.write_data-requires-clause-agrees
write_data-requires-clause-agrees g c image now = (c.requires.is_open image (ap (λ (t : Told). t.files) (sym (c.read_data.ensures.reads.stays ∙ c.index_place.ensures.reads.stays)) ∙ now)).agrees

pub write_data-requires-clause-external : goal.write_data-requires-clause-external
write_data-requires-clause-external g c image now external = absurd (no-file c.args.files.now c.in_ok-addr.addr c.in_ok-addr.ensures.stores external)

pub returns-in_err-write_data-clause-stops : goal.returns-in_err-write_data-clause-stops
returns-in_err-write_data-clause-stops g c =
    let a : Told = g.F.Folder.told c.args.folder.now in
    let d : Told = g.F.Folder.told c.read_data.new.folder in
    let e : Told = g.F.Folder.told c.write_data.new.folder in
    being-noted c.args.files.now c.args.parent c.args.part c.in_ok-addr.addr a e c.in_ok-addr.ensures.stores c.in_ok-addr.ensures.place
    (moved-outside d e a c.in_ok-addr.addr c.place_of_part-at.result (64 + c.args.part / 8) (c.read_data.ensures.reads.stays ∙ c.index_place.ensures.reads.stays) c.place_of_part-at.ensures c.write_data.ensures.outside)

pub returns-in_err-write_data-clause-is_open : goal.returns-in_err-write_data-clause-is_open
returns-in_err-write_data-clause-is_open g c =
    let d : Told = g.F.Folder.told c.read_data.new.folder in
    let e : Told = g.F.Folder.told c.write_data.new.folder in
    open-after c.args.files.now c.in_ok-addr.addr c.args.part c.place_of_part-at.result d e c.in_ok-addr.ensures.stores c.write_data.ensures.outside (silent_part c.write_data.ensures.prefix) c.write_data.ensures.agrees
    (λ image now. c.requires.is_open image (ap (λ (t : Told). t.files) (sym (c.read_data.ensures.reads.stays ∙ c.index_place.ensures.reads.stays)) ∙ now))

pub returns-clause-noted : goal.returns-clause-noted
returns-clause-noted g c =
    let a : Told = g.F.Folder.told c.args.folder.now in
    let b : Told = g.F.Folder.told c.index_place.new.folder in
    let d : Told = g.F.Folder.told c.read_data.new.folder in
    let e : Told = g.F.Folder.told c.write_data.new.folder in
    let p : ℕ = 64 + c.args.part / 8 in
    let was : ℕ = slice_index_or c.read_data.new.out 0 0 in
    noted-after c.args.files.now c.args.parent c.args.part c.in_ok-addr.addr was a e c.in_ok-addr.ensures.place
    (byte-read b a c.read_data.new.out c.in_ok-addr.addr c.place_of_part-at.result p c.index_place.ensures.reads.stays c.place_of_part-at.ensures c.in_ok-read_data.ensures.bytes)
    (sym c.has_part_bit.ensures ∙ c.if-has_part_bit.false)
    (moved-data b a c.in_ok-addr.addr c.place_of_part-at.result p c.index_place.ensures.reads.stays c.place_of_part-at.ensures c.in_ok-read_data.ensures.checked)
    (moved-outside d e a c.in_ok-addr.addr c.place_of_part-at.result p (c.read_data.ensures.reads.stays ∙ c.index_place.ensures.reads.stays) c.place_of_part-at.ensures c.write_data.ensures.outside)
    (moved-steps d e a c.in_ok-addr.addr c.place_of_part-at.result p c.with_part_bit.result _ (c.read_data.ensures.reads.stays ∙ c.index_place.ensures.reads.stays) c.place_of_part-at.ensures c.with_part_bit.ensures c.in_ok-write_data.ensures.steps)

pub returns-clause-stops : goal.returns-clause-stops
returns-clause-stops g c =
    let a : Told = g.F.Folder.told c.args.folder.now in
    let d : Told = g.F.Folder.told c.read_data.new.folder in
    let e : Told = g.F.Folder.told c.write_data.new.folder in
    being-noted c.args.files.now c.args.parent c.args.part c.in_ok-addr.addr a e c.in_ok-addr.ensures.stores c.in_ok-addr.ensures.place
    (moved-outside d e a c.in_ok-addr.addr c.place_of_part-at.result (64 + c.args.part / 8) (c.read_data.ensures.reads.stays ∙ c.index_place.ensures.reads.stays) c.place_of_part-at.ensures c.write_data.ensures.outside)

pub returns-clause-is_open : goal.returns-clause-is_open
returns-clause-is_open g c =
    let d : Told = g.F.Folder.told c.read_data.new.folder in
    let e : Told = g.F.Folder.told c.write_data.new.folder in
    open-after c.args.files.now c.in_ok-addr.addr c.args.part c.place_of_part-at.result d e c.in_ok-addr.ensures.stores c.write_data.ensures.outside (silent_part c.write_data.ensures.prefix) c.write_data.ensures.agrees
    (λ image now. c.requires.is_open image (ap (λ (t : Told). t.files) (sym (c.read_data.ensures.reads.stays ∙ c.index_place.ensures.reads.stays)) ∙ now))
