use Rattle.std.proofs.Common.{◌≡◌, List, sym, ◌∙◌, ap, subst, arith}
use Rattle.std.specs.Option.{option_map}
use Rattle.std.proofs.lemmas.Result.{on_ok_weaker}
use Rattle.spec_image.specs.Image.{AreBytes, Image}
use Rattle.spec_image.specs.Steps.{TrailStep, after}
use Rattle.spec_image.specs.Told.{Along, AppliesPrefix}
use Rattle.spec_image.proofs.Runs.{grows_then, part_then, passes_part, some_inj, told_whole}
use Rattle.blk_stream.specs.Inside.{WritesInProgress, WritesInside, here_steps, inside_steps}
use Rattle.blk_stream.proofs.InsideWritten.{inside_sealed, written_inside}
use Rattle.blk_stream.specs.Stages.{KeepsSeal, WritesKeepingFiles}
use Rattle.blk_stream.proofs.InsideStages.{here_stages, inside_stages}
use Rattle.blk_stream.proofs.InsideSteps.{here_moments, inside_moments, quiet_here, quiet_inside}
use Rattle.blk_stream.proofs.inside.write_inside.Given as given
use Rattle.blk_stream.proofs.inside.write_inside.Goals as goal

pub returns-in_err-write_here-clause-stops : goal.returns-in_err-write_here-clause-stops
returns-in_err-write_here-clause-stops g c from there read checks apart =
    passes_part (WritesInProgress c.args.write.entry c.args.write.stream c.args.addr from) (WritesInProgress c.args.write.entry c.args.write.stream c.args.addr from) c.in_err-write_here.ensures.prefix (quiet_here c.args.addr c.args.old c.args.size c.args.write.offset c.args.write.bytes.now) (λ image h. h)
    (λ image now. subst (λ (i : Image). Along (WritesInProgress c.args.write.entry c.args.write.stream c.args.addr from) i (here_steps c.args.addr c.args.old c.args.size c.args.write.offset c.args.write.bytes.now)) (some_inj (sym there ∙ now))
    (here_moments c.args.files.now c.args.write.entry c.args.write.stream c.args.addr c.args.old c.args.size c.args.write.offset c.args.write.bytes.now c.requires.kind c.requires.stands c.requires.stream c.requires.inside c.requires.few apart from (c.requires.agrees from there) checks))

part : (g : given.Over) (c : goal.After-slice_known-2-1 g) → AppliesPrefix (g.F.Folder.told c.args.folder.now) (g.F.Folder.told c.write_size.new.folder) (inside_steps c.args.record_bytes.now c.args.write.entry c.args.write.stream c.args.addr c.args.old c.args.size c.args.write.offset c.args.write.bytes.now)
part g c = part_then c.in_ok-write_here.ensures.steps c.write_size.ensures.prefix

pub returns-clause-steps : goal.returns-clause-steps
returns-clause-steps g c = on_ok_weaker c.write_size.result (λ grown. grows_then c.in_ok-write_here.ensures.steps grown) c.write_size.ensures.steps

pub returns-clause-prefix : goal.returns-clause-prefix
returns-clause-prefix g c = part g c

pub returns-clause-stops : goal.returns-clause-stops
returns-clause-stops g c from there read checks apart =
    passes_part (WritesInProgress c.args.write.entry c.args.write.stream c.args.addr from) (WritesInProgress c.args.write.entry c.args.write.stream c.args.addr from) (part g c) (quiet_inside c.args.record_bytes.now c.args.write.entry c.args.write.stream c.args.addr c.args.old c.args.size c.args.write.offset c.args.write.bytes.now) (λ image h. h)
    (λ image now. subst (λ (i : Image). Along (WritesInProgress c.args.write.entry c.args.write.stream c.args.addr from) i (inside_steps c.args.record_bytes.now c.args.write.entry c.args.write.stream c.args.addr c.args.old c.args.size c.args.write.offset c.args.write.bytes.now)) (some_inj (sym there ∙ now))
    (inside_moments c.args.files.now c.args.write.entry c.args.write.stream c.args.addr c.args.old c.args.size c.args.write.offset c.args.write.bytes.now c.requires.kind c.requires.stands c.requires.stream c.requires.inside c.requires.few apart from (c.requires.agrees from there) checks c.args.record_bytes.now read))

pub returns-clause-written : goal.returns-clause-written
returns-clause-written g c =
    on_ok_weaker c.write_size.result
    (λ grown from there read checks full apart.
    told_whole (WritesInside c.args.write.entry c.args.write.stream c.args.addr c.args.old c.args.size c.args.write.offset c.args.write.bytes.now from) (grows_then c.in_ok-write_here.ensures.steps grown)
    (λ image now. subst (λ (i : Image). WritesInside c.args.write.entry c.args.write.stream c.args.addr c.args.old c.args.size c.args.write.offset c.args.write.bytes.now from (after (inside_steps c.args.record_bytes.now c.args.write.entry c.args.write.stream c.args.addr c.args.old c.args.size c.args.write.offset c.args.write.bytes.now) i)) (some_inj (sym there ∙ now))
    (written_inside c.args.files.now c.args.write.entry c.args.write.stream c.args.addr c.args.old c.args.size c.args.write.offset c.args.write.bytes.now c.requires.kind c.requires.stands c.requires.stream c.requires.inside c.requires.few apart from (c.requires.agrees from there) checks c.args.record_bytes.now read full (omega (arith, c.ranges.size.fits)))))
    c.write_size.ensures.steps

pub returns-in_err-write_here-clause-stages : goal.returns-in_err-write_here-clause-stages
returns-in_err-write_here-clause-stages g c from there read checks apart file =
    passes_part (WritesKeepingFiles c.args.write.entry c.args.write.stream c.args.addr from) (WritesKeepingFiles c.args.write.entry c.args.write.stream c.args.addr from) c.in_err-write_here.ensures.prefix (quiet_here c.args.addr c.args.old c.args.size c.args.write.offset c.args.write.bytes.now) (λ image h. h)
    (λ image now. subst (λ (i : Image). Along (WritesKeepingFiles c.args.write.entry c.args.write.stream c.args.addr from) i (here_steps c.args.addr c.args.old c.args.size c.args.write.offset c.args.write.bytes.now)) (some_inj (sym there ∙ now))
    (here_stages c.args.files.now c.args.write.entry c.args.write.stream c.args.addr c.args.old c.args.size c.args.write.offset c.args.write.bytes.now c.requires.kind c.requires.stands c.requires.stream c.requires.inside c.requires.few apart from (c.requires.agrees from there) (g.met.F.Folder.are_bytes c.args.folder.now from there) checks file))

pub returns-clause-stages : goal.returns-clause-stages
returns-clause-stages g c from there read checks apart file =
    passes_part (WritesKeepingFiles c.args.write.entry c.args.write.stream c.args.addr from) (WritesKeepingFiles c.args.write.entry c.args.write.stream c.args.addr from) (part g c) (quiet_inside c.args.record_bytes.now c.args.write.entry c.args.write.stream c.args.addr c.args.old c.args.size c.args.write.offset c.args.write.bytes.now) (λ image h. h)
    (λ image now. subst (λ (i : Image). Along (WritesKeepingFiles c.args.write.entry c.args.write.stream c.args.addr from) i (inside_steps c.args.record_bytes.now c.args.write.entry c.args.write.stream c.args.addr c.args.old c.args.size c.args.write.offset c.args.write.bytes.now)) (some_inj (sym there ∙ now))
    (inside_stages c.args.files.now c.args.write.entry c.args.write.stream c.args.addr c.args.old c.args.size c.args.write.offset c.args.write.bytes.now c.requires.kind c.requires.stands c.requires.stream c.requires.inside c.requires.few apart from (c.requires.agrees from there) (g.met.F.Folder.are_bytes c.args.folder.now from there) checks file c.args.record_bytes.now read))

pub returns-clause-sealed : goal.returns-clause-sealed
returns-clause-sealed g c =
    on_ok_weaker c.write_size.result
    (λ grown from there read checks apart image now.
    let S : List TrailStep = inside_steps c.args.record_bytes.now c.args.write.entry c.args.write.stream c.args.addr c.args.old c.args.size c.args.write.offset c.args.write.bytes.now in
    let is : image ≡ after S from = some_inj (sym now ∙ (grows_then c.in_ok-write_here.ensures.steps grown).files ∙ ap (option_map (after S)) there) in
    subst (KeepsSeal c.args.write.entry from) (sym is)
    (inside_sealed c.args.files.now c.args.write.entry c.args.write.stream c.args.addr c.args.old c.args.size c.args.write.offset c.args.write.bytes.now c.requires.kind c.requires.stands c.requires.stream c.requires.inside c.requires.few apart from (c.requires.agrees from there) checks c.args.record_bytes.now read
    (g.met.F.Folder.are_bytes c.args.folder.now from there) (subst AreBytes is (g.met.F.Folder.are_bytes c.write_size.new.folder image now))))
    c.write_size.ensures.steps
