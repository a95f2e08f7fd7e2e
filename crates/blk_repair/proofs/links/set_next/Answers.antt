use Rattle.std.proofs.Common.{◌≡◌, ℕ, inl, inr, sym, subst, List, None, rules}
use Rattle.std.specs.Option.{ForSome}
use Rattle.std.proofs.lemmas.Result.{on_ok_weaker}
use Rattle.spec_image.specs.Steps.{TrailStep}
use Rattle.spec_image.specs.Told.{Told, Applies, AppliesPrefix}
use Rattle.spec_image.proofs.Runs.{grows_none}
use Rattle.blk_io.proofs.Carried.{carried}
use Rattle.blk_disk.specs.Tables.{Agrees}
use Rattle.blk_chain.proofs.Unlinks.{next_changes}
use Rattle.blk_repair.proofs.Choices.{entry_kind, entry_stands, next_is, next-right, next-later}
use Rattle.blk_repair.proofs.links.set_next.Goals as goal

pub field-requires-clause-kind : goal.field-requires-clause-kind
field-requires-clause-kind g c = entry_kind c.args.files.now c.args.entry c.requires.stands

pub field-requires-clause-stands : goal.field-requires-clause-stands
field-requires-clause-stands g c = entry_stands c.args.files.now c.args.entry c.requires.stands

pub returns-in_err-now-clause-untold : goal.returns-in_err-now-clause-untold
returns-in_err-now-clause-untold g c good =
    carried c.field.result c.from_residual.result c.in_err-now.field-0.0 (λ _. (g.F.Folder.told c.args.folder.now).files ≡ None) c.in_err-now.was c.from_residual.ensures.1
    (c.field.ensures.untold (λ image there. (c.requires.is_open image there).agrees))

pub returns-then-now-word-clause-checked : goal.returns-then-now-word-clause-checked
returns-then-now-word-clause-checked g c image there =
    inl (subst (λ (n : ℕ). n ≡ c.args.word) (next_is c.args.files.now image c.args.entry c.in_ok-now.now (c.requires.is_open image there).agrees c.requires.stands (c.in_ok-now.ensures.value image there)) c.if-now-word.true)

pub returns-then-now-word-clause-steps : goal.returns-then-now-word-clause-steps
returns-then-now-word-clause-steps g c image there =
    subst (Applies (g.F.Folder.told c.args.folder.now) (g.F.Folder.told c.field.new.f))
    (sym (next-right image c.args.entry c.args.word c.in_ok-now.now (next_is c.args.files.now image c.args.entry c.in_ok-now.now (c.requires.is_open image there).agrees c.requires.stands (c.in_ok-now.ensures.value image there)) c.if-now-word.true))
    (grows_none c.in_ok-now.ensures.reads.stays)

pub update_sealed-requires-clause-stands : goal.update_sealed-requires-clause-stands
update_sealed-requires-clause-stands g c = entry_stands c.args.files.now c.args.entry c.requires.stands

pub update_sealed-requires-clause-begins : goal.update_sealed-requires-clause-begins
update_sealed-requires-clause-begins g c = inr (entry_kind c.args.files.now c.args.entry c.requires.stands)

pub update_sealed-requires-clause-changes : goal.update_sealed-requires-clause-changes
update_sealed-requires-clause-changes g c = next_changes c.args.entry c.args.word (entry_kind c.args.files.now c.args.entry c.requires.stands)

pub update_sealed-requires-clause-agrees : goal.update_sealed-requires-clause-agrees
update_sealed-requires-clause-agrees g c = subst (λ (t : Told). ForSome t.files (Agrees c.args.files.now)) (sym c.in_ok-now.ensures.reads.stays) (λ image there. (c.requires.is_open image there).agrees)

pub returns-clause-steps : goal.returns-clause-steps
returns-clause-steps g c =
    on_ok_weaker c.update_sealed.result
    (λ whole. next-later c.args.files.now (g.F.Folder.told c.args.folder.now) (g.F.Folder.told c.field.new.f) c.args.entry c.args.word c.in_ok-now.now (λ (t : Told) (s : List TrailStep). Applies t (g.F.Folder.told c.update_sealed.new.f) s)
    c.requires.is_open c.requires.stands c.in_ok-now.ensures.value c.if-now-word.false c.in_ok-now.ensures.reads.stays whole) c.update_sealed.ensures.steps

pub returns-clause-prefix : goal.returns-clause-prefix
returns-clause-prefix g c = record {
  made = next-later c.args.files.now (g.F.Folder.told c.args.folder.now) (g.F.Folder.told c.field.new.f) c.args.entry c.args.word c.in_ok-now.now (λ (t : Told) (s : List TrailStep). AppliesPrefix t (g.F.Folder.told c.update_sealed.new.f) s)
      c.requires.is_open c.requires.stands c.in_ok-now.ensures.value c.if-now-word.false c.in_ok-now.ensures.reads.stays c.update_sealed.ensures.prefix.made;
  silent = search rules;
}
