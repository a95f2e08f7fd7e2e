use Rattle.std.proofs.Common.{◌≡◌, ◌≢◌, ◌+◌, ◌*◌, ℕ, refl, sym, ◌∙◌, ap, subst, List, [], ◌∷◌}
use Rattle.std.proofs.lemmas.Result.{on_ok_weaker}
use Rattle.spec_image.specs.Steps.{TrailStep}
use Rattle.spec_image.specs.Told.{Applies, AppliesPrefix}
use Rattle.spec_image.proofs.Runs.{grows_none}
use Rattle.spec_format.specs.Sealed.{steps_over}
use Rattle.spec_format.proofs.SealedRecords.{entry_bytes}
use Rattle.blk_stream.specs.Inside.{size_steps}
use Rattle.blk_stream.proofs.InsideSteps.{size_changes, size_none, size_some}
use Rattle.blk_stream.proofs.inside.write_size.Goals as goal

pub returns-then-size-old-clause-steps : goal.returns-then-size-old-clause-steps
returns-then-size-old-clause-steps g c =
    subst (λ (s : List TrailStep). Applies (g.F.Folder.told c.args.folder.now) (g.F.Folder.told c.args.folder.now) s) (sym (size_none c.args.record_bytes.now c.args.entry c.args.stream c.args.old c.args.size c.if-size-old.true)) (grows_none refl)

pub update_record-requires-clause-changes : goal.update_record-requires-clause-changes
update_record-requires-clause-changes g c = size_changes c.args.entry c.args.stream c.size_at.result c.args.size c.requires.kind c.requires.stream c.size_at.ensures

pub update_record-requires-clause-size : goal.update_record-requires-clause-size
update_record-requires-clause-size g c = c.requires.record_size ∙ sym (entry_bytes c.args.entry c.requires.kind)

steps : (record_bytes : List ℕ) (entry i old size p : ℕ) → ◌≡◌ {A = ℕ} p (40 + 4 * i) → size ≢ old → steps_over record_bytes entry ((p, size) ∷ []) ≡ size_steps record_bytes entry i old size
steps record_bytes entry i old size p is other = ap (λ (q : ℕ). steps_over record_bytes entry ((q, size) ∷ [])) is ∙ sym (size_some record_bytes entry i old size other)

pub returns-clause-steps : goal.returns-clause-steps
returns-clause-steps g c =
    on_ok_weaker c.update_record.result (λ grown. subst (λ (s : List TrailStep). Applies (g.F.Folder.told c.args.folder.now) (g.F.Folder.told c.update_record.new.folder) s) (steps c.args.record_bytes.now c.args.entry c.args.stream c.args.old c.args.size c.size_at.result c.size_at.ensures c.if-size-old.false) grown) c.update_record.ensures.steps

pub returns-clause-prefix : goal.returns-clause-prefix
returns-clause-prefix g c = subst (λ (s : List TrailStep). AppliesPrefix (g.F.Folder.told c.args.folder.now) (g.F.Folder.told c.update_record.new.folder) s) (steps c.args.record_bytes.now c.args.entry c.args.stream c.args.old c.args.size c.size_at.result c.size_at.ensures c.if-size-old.false) c.update_record.ensures.prefix
