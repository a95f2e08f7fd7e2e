use Rattle.std.proofs.Common.{◌∙◌, ap, sym, subst, rules}
use Rattle.std.specs.Option.{option_map}
use Rattle.spec_image.specs.Steps.{after}
use Rattle.spec_image.proofs.Runs.{passes_none, some_inj}
use Rattle.spec_image.proofs.Footprints.{outside-refl}
use Rattle.spec_format.specs.Growth.{StaysWholeOutside}
use Rattle.blk_disk.specs.Growth.{grown, growth_of, lengthen_steps}
use Rattle.blk_disk.proofs.Enlarging.{count_grown, first_is, part_is, whole_is, enlarges_is, grow_stops, grow_room, grow_agrees}
use Rattle.spec_format.proofs.Growths.{whole_not}
use Rattle.blk_disk.proofs.KeptOnce.{counts}
use Rattle.blk_disk.specs.Tables.{blocks_of}
use Rattle.spec_format.specs.BlockFiles.{is_block_count}
use Rattle.blk_disk.proofs.tables.BlockFiles.grow.Goals as goal

pub returns-in_err-lengthen-clause-stops : goal.returns-in_err-lengthen-clause-stops
returns-in_err-lengthen-clause-stops g c from there =
    passes_none (StaysWholeOutside (growth_of c.args.file) from) c.in_err-lengthen.ensures.undone (λ image here. subst (StaysWholeOutside (growth_of c.args.file) from) (some_inj (sym there ∙ here)) (record { outside = outside-refl (growth_of c.args.file) from; stays = whole_not from }))

pub raise-requires : goal.raise-requires
raise-requires g c =
    grow_room c.args.self.now c.args.file (g.F.Folder.told c.args.f.now) (g.F.Folder.told c.lengthen.new.folder) (g.F.Folder.told c.lengthen.new.folder) c.requires.agrees c.requires.linked c.requires.below
    (first_is c.args.self.now c.args.file (g.F.Folder.told c.args.f.now) (g.F.Folder.told c.lengthen.new.folder) (g.F.Folder.told c.lengthen.new.folder) c.requires.agrees c.requires.linked c.requires.below c.blocks-old.result c.min-blocks.result c.length_with-size.result c.blocks-old.ensures c.min-blocks.ensures c.length_with-size.ensures c.in_ok-lengthen.ensures.steps)

pub returns-in_err-raise-clause-prefix : goal.returns-in_err-raise-clause-prefix
returns-in_err-raise-clause-prefix g c = record {
  made = part_is c.args.self.now c.args.file (g.F.Folder.told c.args.f.now) (g.F.Folder.told c.lengthen.new.folder) (g.F.Folder.told c.raise.new.folder) c.requires.agrees c.requires.linked c.requires.below c.blocks-old.result c.min-blocks.result c.length_with-size.result c.blocks-old.ensures c.min-blocks.ensures c.length_with-size.ensures c.in_ok-lengthen.ensures.steps c.raise.ensures.prefix;
  silent = search rules;
}

pub returns-in_err-raise-clause-stops : goal.returns-in_err-raise-clause-stops
returns-in_err-raise-clause-stops g c = grow_stops c.args.self.now c.args.file (g.F.Folder.told c.args.f.now) (g.F.Folder.told c.lengthen.new.folder) (g.F.Folder.told c.raise.new.folder) c.requires.agrees c.requires.linked c.requires.below (returns-in_err-raise-clause-prefix g c).made

pub enlarge-requires : goal.enlarge-requires
enlarge-requires g c =
    let files = c.args.self.now in
    ap is_block_count (c.min-blocks.ensures ∙ ap grown c.blocks-old.ensures) ∙ count_grown (blocks_of files c.args.file) c.requires.below (counts files c.args.file c.requires.linked)

pub returns-clause-steps : goal.returns-clause-steps
returns-clause-steps g c = whole_is c.args.self.now c.args.file (g.F.Folder.told c.args.f.now) (g.F.Folder.told c.lengthen.new.folder) (g.F.Folder.told c.raise.new.folder) c.requires.agrees c.requires.linked c.requires.below c.blocks-old.result c.min-blocks.result c.length_with-size.result c.blocks-old.ensures c.min-blocks.ensures c.length_with-size.ensures c.in_ok-lengthen.ensures.steps c.in_ok-raise.ensures.steps

pub returns-clause-prefix : goal.returns-clause-prefix
returns-clause-prefix g c = record {
  made = part_is c.args.self.now c.args.file (g.F.Folder.told c.args.f.now) (g.F.Folder.told c.lengthen.new.folder) (g.F.Folder.told c.raise.new.folder) c.requires.agrees c.requires.linked c.requires.below c.blocks-old.result c.min-blocks.result c.length_with-size.result c.blocks-old.ensures c.min-blocks.ensures c.length_with-size.ensures c.in_ok-lengthen.ensures.steps c.raise.ensures.prefix;
  silent = search rules;
}

pub returns-clause-kept : goal.returns-clause-kept
returns-clause-kept g c = enlarges_is c.args.self.now c.args.file (g.F.Folder.told c.args.f.now) (g.F.Folder.told c.lengthen.new.folder) (g.F.Folder.told c.raise.new.folder) c.requires.agrees c.requires.linked c.requires.below c.blocks-old.result c.min-blocks.result c.length_with-size.result c.blocks-old.ensures c.min-blocks.ensures c.length_with-size.ensures c.enlarge.new.self c.length.result c.max-size.result c.length.ensures c.max-size.ensures c.enlarge.ensures

pub returns-clause-agrees : goal.returns-clause-agrees
returns-clause-agrees g c =
    grow_agrees c.args.self.now c.args.file (g.F.Folder.told c.args.f.now) (g.F.Folder.told c.lengthen.new.folder) (g.F.Folder.told c.raise.new.folder) c.requires.agrees c.requires.linked c.requires.below c.enlarge.new.self (returns-clause-steps g c)
    (λ none. c.in_ok-raise.ensures.untold (let grows = c.in_ok-lengthen.ensures.steps in grows.files ∙ ap (option_map (after (lengthen_steps c.args.self.now c.args.file c.length_with-size.result))) none))
    (returns-clause-kept g c)

pub returns-clause-stops : goal.returns-clause-stops
returns-clause-stops g c = grow_stops c.args.self.now c.args.file (g.F.Folder.told c.args.f.now) (g.F.Folder.told c.lengthen.new.folder) (g.F.Folder.told c.raise.new.folder) c.requires.agrees c.requires.linked c.requires.below (returns-clause-prefix g c).made
