use Rattle.std.proofs.Common.{◌≡◌, ℕ, List, ap₂, ap, subst, ◌∙◌}
use Rattle.std.specs.Prelude.{OnOk}
use Rattle.spec_image.specs.Steps.{TrailStep, word_steps}
use Rattle.spec_image.specs.Told.{Applies, AppliesPrefix}
use Rattle.spec_format.specs.Address.{place, file_selector}
use Rattle.blk_io.specs.FileNames.{file_of}
use Rattle.blk_io.specs.declared.folder.FileId.TheVariants as names
use Rattle.spec_format.specs.Sealed.{placed, update_words, update_steps, seal_by_kind, seal_place}
use Rattle.blk_disk.proofs.Ranges.{stands_blocky, name_is}
use Rattle.blk_disk.proofs.SealedWrites.{words_aligned, words_inside, plan_is}
use Rattle.blk_disk.proofs.tables.BlockFiles.write_update.Given as given
use Rattle.blk_disk.proofs.tables.BlockFiles.write_update.Goals as goal

-- the words that are written, and the name of the file
words_here : (g : given.Over) (c : goal.After-write_words g) → c.deref.result.now ≡ placed (place c.args.addr) (update_words (seal_place c.args.addr) c.args.changes.now c.args.seal)
words_here g c = c.deref.ensures.0 ∙ c.words_of-words.ensures ∙ ap₂ (λ (p s : ℕ). placed p (update_words s c.args.changes.now c.args.seal)) c.place_of.ensures.place (c.seal_of.ensures.place ∙ ap seal_by_kind c.kind.ensures)

name_here : (g : given.Over) (c : goal.After-write_words g) → c.file_of.result ≡ names.Block (file_selector c.args.addr)
name_here g c = name_is c.args.addr c.file_of.result (stands_blocky c.args.self.now c.args.addr c.requires.stands) c.file_of.ensures

plan_here : (g : given.Over) (c : goal.After-write_words g) → word_steps (file_of c.file_of.result) c.deref.result.now ≡ update_steps c.args.addr c.args.changes.now c.args.seal
plan_here g c = plan_is c.args.addr c.args.seal c.args.changes.now c.deref.result.now c.file_of.result (name_here g c) (words_here g c)

pub returns-clause-steps : goal.returns-clause-steps
returns-clause-steps g c = subst (λ (steps : List TrailStep). OnOk c.write_words.result (Applies (g.F.Folder.told c.args.folder.now) (g.F.Folder.told c.write_words.new.folder) steps)) (plan_here g c) c.write_words.ensures.steps

pub returns-clause-prefix : goal.returns-clause-prefix
returns-clause-prefix g c = subst (λ (steps : List TrailStep). AppliesPrefix (g.F.Folder.told c.args.folder.now) (g.F.Folder.told c.write_words.new.folder) steps) (plan_here g c) c.write_words.ensures.prefix

pub write_words-requires-clause-aligned : goal.write_words-requires-clause-aligned
write_words-requires-clause-aligned g c =
    let is : c.deref.result.now ≡ placed (place c.args.addr) (update_words (seal_place c.args.addr) c.args.changes.now c.args.seal) = c.deref.ensures.0 ∙ c.words_of-words.ensures ∙ ap₂ (λ (p s : ℕ). placed p (update_words s c.args.changes.now c.args.seal)) c.place_of.ensures.place (c.seal_of.ensures.place ∙ ap seal_by_kind c.kind.ensures) in
    words_aligned c.args.addr c.args.seal c.args.changes.now c.deref.result.now c.requires.begins c.requires.changes is

pub write_words-requires-clause-inside : goal.write_words-requires-clause-inside
write_words-requires-clause-inside g c image there =
    let is : c.deref.result.now ≡ placed (place c.args.addr) (update_words (seal_place c.args.addr) c.args.changes.now c.args.seal) = c.deref.ensures.0 ∙ c.words_of-words.ensures ∙ ap₂ (λ (p s : ℕ). placed p (update_words s c.args.changes.now c.args.seal)) c.place_of.ensures.place (c.seal_of.ensures.place ∙ ap seal_by_kind c.kind.ensures) in
    words_inside c.args.self.now c.args.addr c.args.changes.now c.requires.stands c.requires.begins c.requires.changes image c.args.seal c.file_of.result c.deref.result.now (c.requires.agrees image there)
    (name_is c.args.addr c.file_of.result (stands_blocky c.args.self.now c.args.addr c.requires.stands) c.file_of.ensures) is
