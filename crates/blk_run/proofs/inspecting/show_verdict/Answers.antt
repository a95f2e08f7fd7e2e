use Rattle.std.proofs.Common.{arith}
use Rattle.blk_inspect.specs.Texts.{verify_text}
use Rattle.blk_run.proofs.Flushing.{answer_flushed, inspect_damaged_flushed, inspect_device_flushed, inspect_sink_flushed, text_flushed, unprinted_flushed}
use Rattle.blk_run.proofs.Showing.{shown_performs}
use Rattle.blk_run.proofs.inspecting.show_verdict.Goals as goal

pub returns-clause-performs : goal.returns-clause-performs
returns-clause-performs g c limits left clock =
    let flushed = c.flush_text-shown.ensures.flushed in
    shown_performs verify_text limits _ _ _ _ _ _ _ _ _ left clock c.verify.ensures.reads.stays (omega (arith, c.verify.ensures.sink_later.later, c.flush_text-shown.ensures.later.later)) c.end_shown.ensures.later.later
    c.flush_text-shown.result c.end_shown.result c.end_shown.ensures.status
    (λ image here. text_flushed _ _ _ c.flush_text-shown.ensures.stays c.verify.result c.flush_text-shown.result _ flushed _ (c.verify.ensures.printed image here))
    (λ image here. answer_flushed c.verify.result c.flush_text-shown.result _ flushed image (c.verify.ensures.answer image here))
    (unprinted_flushed _ _ _ c.flush_text-shown.ensures.stays c.verify.result c.flush_text-shown.result _ flushed c.verify.ensures.unprinted)
    (inspect_damaged_flushed c.verify.result c.flush_text-shown.result _ _ flushed c.verify.ensures.cause)
    (inspect_device_flushed c.verify.result c.flush_text-shown.result _ _ flushed c.verify.ensures.reads.failed)
    (inspect_sink_flushed c.verify.result c.flush_text-shown.result _ _ _ c.verify.ensures.sink_later.later c.flush_text-shown.ensures.later.later flushed c.verify.ensures.sink)
    c.end_shown.ensures.printed
