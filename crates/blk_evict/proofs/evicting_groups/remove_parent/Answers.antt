use Rattle.std.proofs.Common.{rules, ◌≡◌, ◌∙◌, ℕ, List, refl, sym, subst}
use Rattle.std.proofs.lemmas.Fn.{chained_keeps}
use Rattle.std.proofs.lemmas.Result.{on_ok_weaker}
use Rattle.blk_io.specs.Streams.{GoesOn}
use Rattle.blk_model.specs.Items.{part}
use Rattle.blk_model.specs.Room.{parts_among}
use Rattle.blk_script.specs.Reply.{evicted_line}
use Rattle.blk_evict.specs.RoomPrinting.{FailsWhereItRose, PrintsUnlessFailed}
use Rattle.blk_evict.proofs.PartsPrinted.{HavePrinted, prefix-printed, printed-more, printed-none, tied}
use Rattle.blk_evict.proofs.evicting_groups.remove_parent.Goals as goal

pub returns-clause-quiet : goal.returns-clause-quiet
returns-clause-quiet g c failed =
    let ran = chained_keeps _ (λ xs q. (q.2.now ≡ c.args.read.key.now) × (q.0.ghost_name ≡ c.say-1.given) × (q.1.ghost_name ≡ c.say-2-1.given) × HavePrinted g.K.Sink.is g.K.Sink.written g.K.Sink.faults c.args.read.key.now c.args.failed.now q.1.now c.args.out.now q.0.now xs)
    (λ xs q x v j k.
    let said : PrintsUnlessFailed q.1.now v.1.now (g.K.Sink.written q.0.now) (g.K.Sink.written v.0.now) (evicted_line (part q.2.now x)) = search rules in
    let fails : FailsWhereItRose q.1.now v.1.now (g.K.Sink.faults q.0.now) (g.K.Sink.faults v.0.now) = search rules in
    let later : GoesOn g.K.Sink.is g.K.Sink.faults q.0.now v.0.now = search rules in
    let key : v.2.now ≡ q.2.now = search rules in
    let out : v.0.ghost_name ≡ q.0.ghost_name = search rules in
    let mark : v.1.ghost_name ≡ q.1.ghost_name = search rules in (
      key ∙ j.0,
      out ∙ j.1,
      mark ∙ j.2,
      printed-more g.K.Sink.is g.K.Sink.written g.K.Sink.faults c.args.read.key.now c.args.failed.now q.1.now v.1.now c.args.out.now q.0.now v.0.now xs x j.3
          (subst (λ (k : List ℕ). PrintsUnlessFailed q.1.now v.1.now (g.K.Sink.written q.0.now) (g.K.Sink.written v.0.now) (evicted_line (part k x))) j.0 said) fails later,
    ))
    _ _ _ (refl, refl, refl, printed-none g.K.Sink.is g.K.Sink.written g.K.Sink.faults c.args.read.key.now c.args.failed.now c.args.out.now) (c.remove_parent_with.ensures.calls).1 in
    (tied g.K.Sink.is g.K.Sink.written g.K.Sink.faults c.args.read.key.now c.args.failed.now _ c.failed-1.given.0 c.args.out.now _ c.out-1.given.0 (c.remove_parent_with.ensures.calls).0 (c.failed-1.given.1 (sym ran.2)) (c.out-1.given.1 (sym ran.1)) ran.3).prints.silent failed

pub returns-clause-fails : goal.returns-clause-fails
returns-clause-fails g c =
    let ran = chained_keeps _ (λ xs q. (q.2.now ≡ c.args.read.key.now) × (q.0.ghost_name ≡ c.say-1.given) × (q.1.ghost_name ≡ c.say-2-1.given) × HavePrinted g.K.Sink.is g.K.Sink.written g.K.Sink.faults c.args.read.key.now c.args.failed.now q.1.now c.args.out.now q.0.now xs)
    (λ xs q x v j k.
    let said : PrintsUnlessFailed q.1.now v.1.now (g.K.Sink.written q.0.now) (g.K.Sink.written v.0.now) (evicted_line (part q.2.now x)) = search rules in
    let fails : FailsWhereItRose q.1.now v.1.now (g.K.Sink.faults q.0.now) (g.K.Sink.faults v.0.now) = search rules in
    let later : GoesOn g.K.Sink.is g.K.Sink.faults q.0.now v.0.now = search rules in
    let key : v.2.now ≡ q.2.now = search rules in
    let out : v.0.ghost_name ≡ q.0.ghost_name = search rules in
    let mark : v.1.ghost_name ≡ q.1.ghost_name = search rules in (
      key ∙ j.0,
      out ∙ j.1,
      mark ∙ j.2,
      printed-more g.K.Sink.is g.K.Sink.written g.K.Sink.faults c.args.read.key.now c.args.failed.now q.1.now v.1.now c.args.out.now q.0.now v.0.now xs x j.3
          (subst (λ (k : List ℕ). PrintsUnlessFailed q.1.now v.1.now (g.K.Sink.written q.0.now) (g.K.Sink.written v.0.now) (evicted_line (part k x))) j.0 said) fails later,
    ))
    _ _ _ (refl, refl, refl, printed-none g.K.Sink.is g.K.Sink.written g.K.Sink.faults c.args.read.key.now c.args.failed.now c.args.out.now) (c.remove_parent_with.ensures.calls).1 in
    (tied g.K.Sink.is g.K.Sink.written g.K.Sink.faults c.args.read.key.now c.args.failed.now _ c.failed-1.given.0 c.args.out.now _ c.out-1.given.0 (c.remove_parent_with.ensures.calls).0 (c.failed-1.given.1 (sym ran.2)) (c.out-1.given.1 (sym ran.1)) ran.3).fails

pub returns-clause-sink_later : goal.returns-clause-sink_later
returns-clause-sink_later g c =
    let ran = chained_keeps _ (λ xs q. (q.2.now ≡ c.args.read.key.now) × (q.0.ghost_name ≡ c.say-1.given) × (q.1.ghost_name ≡ c.say-2-1.given) × HavePrinted g.K.Sink.is g.K.Sink.written g.K.Sink.faults c.args.read.key.now c.args.failed.now q.1.now c.args.out.now q.0.now xs)
    (λ xs q x v j k.
    let said : PrintsUnlessFailed q.1.now v.1.now (g.K.Sink.written q.0.now) (g.K.Sink.written v.0.now) (evicted_line (part q.2.now x)) = search rules in
    let fails : FailsWhereItRose q.1.now v.1.now (g.K.Sink.faults q.0.now) (g.K.Sink.faults v.0.now) = search rules in
    let later : GoesOn g.K.Sink.is g.K.Sink.faults q.0.now v.0.now = search rules in
    let key : v.2.now ≡ q.2.now = search rules in
    let out : v.0.ghost_name ≡ q.0.ghost_name = search rules in
    let mark : v.1.ghost_name ≡ q.1.ghost_name = search rules in (
      key ∙ j.0,
      out ∙ j.1,
      mark ∙ j.2,
      printed-more g.K.Sink.is g.K.Sink.written g.K.Sink.faults c.args.read.key.now c.args.failed.now q.1.now v.1.now c.args.out.now q.0.now v.0.now xs x j.3
          (subst (λ (k : List ℕ). PrintsUnlessFailed q.1.now v.1.now (g.K.Sink.written q.0.now) (g.K.Sink.written v.0.now) (evicted_line (part k x))) j.0 said) fails later,
    ))
    _ _ _ (refl, refl, refl, printed-none g.K.Sink.is g.K.Sink.written g.K.Sink.faults c.args.read.key.now c.args.failed.now c.args.out.now) (c.remove_parent_with.ensures.calls).1 in
    (tied g.K.Sink.is g.K.Sink.written g.K.Sink.faults c.args.read.key.now c.args.failed.now _ c.failed-1.given.0 c.args.out.now _ c.out-1.given.0 (c.remove_parent_with.ensures.calls).0 (c.failed-1.given.1 (sym ran.2)) (c.out-1.given.1 (sym ran.1)) ran.3).later

pub returns-clause-prints : goal.returns-clause-prints
returns-clause-prints g c = on_ok_weaker c.remove_parent_with.result (λ each from there by state layout unlinked number object may.
    let ran = chained_keeps _ (λ xs q. (q.2.now ≡ c.args.read.key.now) × (q.0.ghost_name ≡ c.say-1.given) × (q.1.ghost_name ≡ c.say-2-1.given) × HavePrinted g.K.Sink.is g.K.Sink.written g.K.Sink.faults c.args.read.key.now c.args.failed.now q.1.now c.args.out.now q.0.now xs)
    (λ xs q x v j k.
    let said : PrintsUnlessFailed q.1.now v.1.now (g.K.Sink.written q.0.now) (g.K.Sink.written v.0.now) (evicted_line (part q.2.now x)) = search rules in
    let fails : FailsWhereItRose q.1.now v.1.now (g.K.Sink.faults q.0.now) (g.K.Sink.faults v.0.now) = search rules in
    let later : GoesOn g.K.Sink.is g.K.Sink.faults q.0.now v.0.now = search rules in
    let key : v.2.now ≡ q.2.now = search rules in
    let out : v.0.ghost_name ≡ q.0.ghost_name = search rules in
    let mark : v.1.ghost_name ≡ q.1.ghost_name = search rules in (
      key ∙ j.0,
      out ∙ j.1,
      mark ∙ j.2,
      printed-more g.K.Sink.is g.K.Sink.written g.K.Sink.faults c.args.read.key.now c.args.failed.now q.1.now v.1.now c.args.out.now q.0.now v.0.now xs x j.3
          (subst (λ (k : List ℕ). PrintsUnlessFailed q.1.now v.1.now (g.K.Sink.written q.0.now) (g.K.Sink.written v.0.now) (evicted_line (part k x))) j.0 said) fails later,
    ))
    _ _ _ (refl, refl, refl, printed-none g.K.Sink.is g.K.Sink.written g.K.Sink.faults c.args.read.key.now c.args.failed.now c.args.out.now) (each from there by state layout unlinked number object may) in
    (tied g.K.Sink.is g.K.Sink.written g.K.Sink.faults c.args.read.key.now c.args.failed.now _ c.failed-1.given.0 c.args.out.now _ c.out-1.given.0 (parts_among c.args.read.key.now state.uses) (c.failed-1.given.1 (sym ran.2)) (c.out-1.given.1 (sym ran.1)) ran.3).prints) c.remove_parent_with.ensures.each

pub returns-clause-front : goal.returns-clause-front
returns-clause-front g c from there by state layout unlinked number object may =
    let called = c.remove_parent_with.ensures.front from there by state layout unlinked number object may in
    let ran = chained_keeps _ (λ xs q. (q.2.now ≡ c.args.read.key.now) × (q.0.ghost_name ≡ c.say-1.given) × (q.1.ghost_name ≡ c.say-2-1.given) × HavePrinted g.K.Sink.is g.K.Sink.written g.K.Sink.faults c.args.read.key.now c.args.failed.now q.1.now c.args.out.now q.0.now xs)
    (λ xs q x v j k.
    let said : PrintsUnlessFailed q.1.now v.1.now (g.K.Sink.written q.0.now) (g.K.Sink.written v.0.now) (evicted_line (part q.2.now x)) = search rules in
    let fails : FailsWhereItRose q.1.now v.1.now (g.K.Sink.faults q.0.now) (g.K.Sink.faults v.0.now) = search rules in
    let later : GoesOn g.K.Sink.is g.K.Sink.faults q.0.now v.0.now = search rules in
    let key : v.2.now ≡ q.2.now = search rules in
    let out : v.0.ghost_name ≡ q.0.ghost_name = search rules in
    let mark : v.1.ghost_name ≡ q.1.ghost_name = search rules in (
      key ∙ j.0,
      out ∙ j.1,
      mark ∙ j.2,
      printed-more g.K.Sink.is g.K.Sink.written g.K.Sink.faults c.args.read.key.now c.args.failed.now q.1.now v.1.now c.args.out.now q.0.now v.0.now xs x j.3
          (subst (λ (k : List ℕ). PrintsUnlessFailed q.1.now v.1.now (g.K.Sink.written q.0.now) (g.K.Sink.written v.0.now) (evicted_line (part k x))) j.0 said) fails later,
    ))
    _ _ _ (refl, refl, refl, printed-none g.K.Sink.is g.K.Sink.written g.K.Sink.faults c.args.read.key.now c.args.failed.now c.args.out.now) called.called in
    prefix-printed c.args.read.key.now (parts_among c.args.read.key.now state.uses) called.front called.others _ _ called.split (tied g.K.Sink.is g.K.Sink.written g.K.Sink.faults c.args.read.key.now c.args.failed.now _ c.failed-1.given.0 c.args.out.now _ c.out-1.given.0 called.front (c.failed-1.given.1 (sym ran.2)) (c.out-1.given.1 (sym ran.1)) ran.3).prints.front
