use Rattle.std.proofs.Common.{◌≡◌, ◌≤◌, ◌∙◌, Some, ap, sym, arith, refl, subst}
use Rattle.spec_image.specs.Image.{Block, Image, length_of}
use Rattle.spec_image.specs.Footprint.{size_of}
use Rattle.spec_image.specs.Told.{Told, Passes}
use Rattle.spec_image.proofs.Footprints.{outside-refl}
use Rattle.spec_image.proofs.Runs.{passes_none, some_inj, told_whole}
use Rattle.spec_format.specs.Growth.{StaysWholeOutside}
use Rattle.blk_disk.specs.Tables.{Agrees, length_in}
use Rattle.spec_format.proofs.Growths.{whole_not}
use Rattle.blk_disk.proofs.Agreeing.{agrees_longer}
use Rattle.blk_disk.proofs.Enlarging.{IsLonger, passes_longer, grows_whole}
use Rattle.blk_disk.proofs.tables.BlockFiles.fit.Given as given
use Rattle.blk_disk.proofs.tables.BlockFiles.fit.Goals as goal

pub returns-in_err-set_len-clause-agrees : goal.returns-in_err-set_len-clause-agrees
returns-in_err-set_len-clause-agrees g c image there = c.requires.agrees image (ap (λ (t : Told). t.files) (sym c.in_err-set_len.ensures.undone) ∙ there)

pub returns-clause-agrees : goal.returns-clause-agrees
returns-clause-agrees g c =
    told_whole (Agrees c.set_length.new.self) c.in_ok-set_len.ensures.done
    (λ image there. let agrees = c.requires.agrees image there in
    let size : length_in c.args.self.now c.args.file ≡ length_of image (Block c.args.file) = agrees.lengths c.args.file c.requires.linked in
    let longer : length_of image (Block c.args.file) ≤ c.whole_length-wanted.result = omega (arith, size, c.length.ensures, c.if-wanted-length.false) in
    agrees_longer c.args.self.now c.set_length.new.self image c.args.file c.whole_length-wanted.result longer c.set_length.ensures agrees)

-- the file isn't longer than it gets
not_longer : (g : given.Over) (c : goal.After-set_length g) (from : Image) → (g.F.Folder.told c.args.f.now).files ≡ Some from → length_of from (Block c.args.file) ≤ c.whole_length-wanted.result
not_longer g c from there =
    let agrees = c.requires.agrees from there in
    let size : length_in c.args.self.now c.args.file ≡ length_of from (Block c.args.file) = agrees.lengths c.args.file c.requires.linked in
    omega (arith, size, c.length.ensures, c.if-wanted-length.false)

-- what holds of each longer file holds before and after
passing : (g : given.Over) (c : goal.After-set_length g) (from : Image) (P : Image → Type 0) (there : (g.F.Folder.told c.args.f.now).files ≡ Some from)
    → ((i : Image) → IsLonger c.args.file from i → P i) → Passes (g.F.Folder.told c.args.f.now) (g.F.Folder.told c.set_len.new.self) P
passing g c from P there holds = passes_longer c.args.file c.whole_length-wanted.result from (not_longer g c from there) P there holds c.in_ok-set_len.ensures.done

pub returns-clause-stops : goal.returns-clause-stops
returns-clause-stops g c from there = passing g c from (StaysWholeOutside (size_of (Block c.args.file)) from) there (λ i longer. record { outside = longer.0; stays = grows_whole c.args.file from i longer.1 })

pub returns-in_err-set_len-clause-stops : goal.returns-in_err-set_len-clause-stops
returns-in_err-set_len-clause-stops g c from there = passes_none (StaysWholeOutside (size_of (Block c.args.file)) from) c.in_err-set_len.ensures.undone (λ image here. subst (StaysWholeOutside (size_of (Block c.args.file)) from) (some_inj (sym there ∙ here)) (record { outside = outside-refl (size_of (Block c.args.file)) from; stays = whole_not from }))

pub returns-then-wanted-length-clause-stops : goal.returns-then-wanted-length-clause-stops
returns-then-wanted-length-clause-stops g c from there = passes_none (StaysWholeOutside (size_of (Block c.args.file)) from) refl (λ image here. subst (StaysWholeOutside (size_of (Block c.args.file)) from) (some_inj (sym there ∙ here)) (record { outside = outside-refl (size_of (Block c.args.file)) from; stays = whole_not from }))
