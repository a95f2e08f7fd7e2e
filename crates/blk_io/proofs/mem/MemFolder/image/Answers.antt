use Rattle.std.proofs.Common.{◌≡◌, List, Some, Option, Vec, Global, ap, sym, subst, ◌∙◌}
use Rattle.std.specs.Option.{option_map}
use Rattle.spec_image.specs.Image.{Image, AreBytes}
use Rattle.spec_image.specs.Steps.{TrailStep, image_at}
use Rattle.spec_image.specs.Told.{Trail}
use Rattle.blk_io.specs.declared.mem_trail.Change.{Change}
use Rattle.blk_io.specs.Files.{image_of}
use Rattle.blk_io.specs.MemFolder.{newly_told}
use Rattle.blk_io.specs.Trail.{kept_steps, steps_of, told_of}
use Rattle.blk_io.proofs.Trails.{some_inj, begun_trail, begun_along, told_anew}
use Rattle.blk_io.proofs.mem.MemFolder.image.Goals as goal

pub invariant_of-result : goal.invariant_of-result
invariant_of-result c =
    let old = c.args.self.now in
    let now : image_of c.replay.new.files.items ≡ image_at (image_of old.start.items) (steps_of c.in-Some.changes.items) c.args.steps =
    c.in_ok-replay-in-Some.ensures ∙ ap (λ (l : List Change). image_at (image_of c.in_ok-files-in-Some.files.items) (steps_of l) c.args.steps) c.deref-in-Some.ensures.value ∙ ap (λ (image : Image). image_at image (steps_of c.in-Some.changes.items) c.args.steps) (c.in_ok-files-in-Some.ensures ∙ ap image_of c.deref.ensures.value) in
    let start : image_of c.in_ok-start-in-Some.start.items ≡ image_of c.replay.new.files.items = c.in_ok-start-in-Some.ensures ∙ ap image_of c.deref-in-Some-2.ensures.value in
    let bytes : AreBytes (image_of c.replay.new.files.items) = subst AreBytes (sym now) (old.along (steps_of c.in-Some.changes.items) (ap kept_steps c.in-Some.is) c.args.steps) in
    record { agrees = begun_trail _ _ c.new.result.items start c.new.ensures.items; bytes = bytes; along = begun_along _ _ c.new.result.items start c.new.ensures.items bytes }

pub returns-clause-told : goal.returns-clause-told
returns-clause-told c = λ trail there.
    let old = c.args.self.now in
    let now : image_of c.replay.new.files.items ≡ image_at (image_of old.start.items) (steps_of c.in-Some.changes.items) c.args.steps =
    c.in_ok-replay-in-Some.ensures ∙ ap (λ (l : List Change). image_at (image_of c.in_ok-files-in-Some.files.items) (steps_of l) c.args.steps) c.deref-in-Some.ensures.value ∙ ap (λ (image : Image). image_at image (steps_of c.in-Some.changes.items) c.args.steps) (c.in_ok-files-in-Some.ensures ∙ ap image_of c.deref.ensures.value) in
    let start : image_of c.in_ok-start-in-Some.start.items ≡ image_of c.replay.new.files.items = c.in_ok-start-in-Some.ensures ∙ ap image_of c.deref-in-Some-2.ensures.value in
    let kept : Trail = record { start = image_of old.start.items; steps = steps_of c.in-Some.changes.items } in
    let is : kept ≡ trail = some_inj (sym (ap (λ (t : Option (Vec Change Global)). option_map (λ (s : List TrailStep). record { start = image_of old.start.items; steps = s }) (kept_steps t)) c.in-Some.is) ∙ there) in
    subst (λ (t : Trail). told_of c.in_ok-start-in-Some.start.items c.replay.new.files.items (Some (steps_of c.new.result.items)) ≡ newly_told (image_at t.start t.steps c.args.steps)) is
    (told_anew _ _ c.new.result.items _ (start ∙ now) now c.new.ensures.items)
