use Rattle.std.proofs.Common.{ℕ, [], ◌∷◌, ap, subst, ◌∙◌}
use Rattle.std.specs.Option.{option_map}
use Rattle.std.proofs.lemmas.Result.{on_ok_weaker}
use Rattle.spec_image.specs.Bytes.{zeros}
use Rattle.spec_image.specs.Image.{Block}
use Rattle.spec_image.specs.Steps.{after, word_steps}
use Rattle.spec_image.specs.Told.{Told, Applies, AppliesPrefix, GivesBytes}
use Rattle.blk_disk.specs.Growth.{raised}
use Rattle.blk_disk.proofs.Raising.{raised_is}
use Rattle.blk_disk.proofs.growing.raise.Goals as goal

pub returns-clause-steps : goal.returns-clause-steps
unfolding zeros
returns-clause-steps g c =
    on_ok_weaker c.write_words.result
    (λ grows image there.
    let gives : GivesBytes image (Block c.args.file) 36 (zeros 4) c.read_at.new.out c.in_ok-read_at.field-0 = c.in_ok-read_at.ensures.bytes image there in
    let is = raised_is image c.args.file c.read_at.new.out c.in_ok-read_at.field-0 gives (c.requires image there) c.from_le_bytes.result c.args.groups c.from_le_bytes.ensures in
    subst (λ (t : Told). Applies t (g.F.Folder.told c.write_words.new.folder) (word_steps (Block c.args.file) ((36, raised image c.args.file c.args.groups) ∷ (20, c.args.blocks) ∷ []))) c.in_ok-read_at.ensures.stays
    (subst (λ (r : ℕ). Applies (g.F.Folder.told c.read_at.new.self) (g.F.Folder.told c.write_words.new.folder) (word_steps (Block c.args.file) ((36, r) ∷ (20, c.args.blocks) ∷ []))) is grows))
    c.write_words.ensures.steps

pub returns-clause-prefix : goal.returns-clause-prefix
unfolding zeros
returns-clause-prefix g c image there =
    let gives : GivesBytes image (Block c.args.file) 36 (zeros 4) c.read_at.new.out c.in_ok-read_at.field-0 = c.in_ok-read_at.ensures.bytes image there in
    let is = raised_is image c.args.file c.read_at.new.out c.in_ok-read_at.field-0 gives (c.requires image there) c.from_le_bytes.result c.args.groups c.from_le_bytes.ensures in
    subst (λ (t : Told). AppliesPrefix t (g.F.Folder.told c.write_words.new.folder) (word_steps (Block c.args.file) ((36, raised image c.args.file c.args.groups) ∷ (20, c.args.blocks) ∷ []))) c.in_ok-read_at.ensures.stays
    (subst (λ (r : ℕ). AppliesPrefix (g.F.Folder.told c.read_at.new.self) (g.F.Folder.told c.write_words.new.folder) (word_steps (Block c.args.file) ((36, r) ∷ (20, c.args.blocks) ∷ []))) is c.write_words.ensures.prefix)

pub returns-in_err-read_at-clause-untold : goal.returns-in_err-read_at-clause-untold
returns-in_err-read_at-clause-untold g c none = ap (λ (t : Told). t.files) c.in_err-read_at.ensures.stays ∙ none

pub returns-clause-untold : goal.returns-clause-untold
returns-clause-untold g c none =
    let part = c.write_words.ensures.prefix in
    let made = part.made in
    let grows = part.applies in
    grows.files ∙ ap (λ (t : Told). option_map (after made) t.files) c.in_ok-read_at.ensures.stays ∙ ap (option_map (after made)) none
