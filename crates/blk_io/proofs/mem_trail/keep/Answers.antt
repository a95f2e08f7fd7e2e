use Rattle.std.proofs.Common.{ap, sym, ◌∙◌, ◌++◌, List, Option, Some, Vec, Global}
use Rattle.std.specs.Option.{option_map}
use Rattle.blk_io.specs.declared.mem_trail.Change.{Change}
use Rattle.spec_image.specs.Steps.{TrailStep}
use Rattle.blk_io.specs.Trail.{steps_of, steps_of_call, kept_steps}
use Rattle.blk_io.proofs.Trails.{steps_of-push}
use Rattle.blk_io.proofs.mem_trail.keep.Goals as goal

pub returns-in_ok-push-in-Some-clause-done : goal.returns-in_ok-push-in-Some-clause-done
returns-in_ok-push-in-Some-clause-done c =
    ap (λ (calls : List Change). Some (steps_of calls)) c.in_ok-push-in-Some.ensures.items
    ∙ ap Some (steps_of-push c.in-Some.calls.items c.args.call)
    ∙ ap (λ (t : Option (Vec Change Global)). option_map (λ (s : List TrailStep). s ++ steps_of_call c.args.call) (kept_steps t)) (sym c.in-Some.is)
