use Rattle.std.proofs.Common.{◌≡◌, ◌≢◌, ◌*◌, ◌⊎◌, inl, inr, refl, sym, ◌∙◌, arith, Some, List, ℕ, Option, rules}
use Rattle.blk_model.specs.Bounds.{bounds_of}
use Rattle.blk_model.specs.Sizes.{handle_names}
use Rattle.blk_repair.proofs.Endings.{either-pass}
use Rattle.spec_run.specs.Script.{count_script}
use Rattle.blk_cache.specs.CacheKeeping.{KeepsState}
use Rattle.blk_run.specs.declared.ending.Status.{Status}
use Rattle.blk_run.specs.declared.ending.Status.TheVariants as status
use Rattle.blk_run.proofs.Counted.{counted, first_is, left_same, none_printed, opened_open, passed, told_still, told_totals}
use Rattle.blk_run.proofs.Assembling.{exit_unopened}
use Rattle.blk_run.proofs.Completeness.{complete_script}
use Rattle.blk_run.proofs.HeadlineBridge.{failed_by_start}
use Rattle.blk_run.proofs.ScriptCauses.{count_cause}
use Rattle.blk_run.proofs.ScriptEnds.{script_of_runs}
use Rattle.blk_run.proofs.Showing.{sound}
use Rattle.blk_run.proofs.SessionEnds.{begins_at, device_cause, rises_since, sink_cause}
use Rattle.blk_run.proofs.Reading.{reads_once, reads_told}
use Rattle.blk_io.specs.Streams.{Readings}
use Rattle.blk_run.specs.Session.{FixedScript}
use Rattle.spec_image.specs.Told.{Rises}
use Rattle.blk_run.proofs.counting.run_count.Goals as goal

pub count-requires-clause-is_open : goal.count-requires-clause-is_open
count-requires-clause-is_open g c = opened_open (bounds_of c.args.limits) (g.F.Folder.told c.args.folder.now) (g.F.Folder.told c.start.new.f) c.in-Ok.cache c.start.ensures.writes.silent c.in-Ok.ensures.keeps

pub returns-in-Ok-clause-printed : goal.returns-in-Ok-clause-printed
returns-in-Ok-clause-printed g c = record {
  item_count = c.in-Ok.cache.items;
  byte_count = c.in-Ok.cache.bytes;
  totals = λ from there. counted (bounds_of c.args.limits) (g.F.Folder.told c.args.folder.now) (g.F.Folder.told c.start.new.f) c.in-Ok.cache from there (either-pass (c.start.ensures.stops from there)) c.in-Ok.ensures.keeps;
  printed = c.count.ensures.printed;
}

pub returns-in-Ok-clause-ended : goal.returns-in-Ok-clause-ended
returns-in-Ok-clause-ended g c well from there =
    left_same (bounds_of c.args.limits) (g.F.Folder.told c.args.folder.now) (g.F.Folder.told c.start.new.f) c.in-Ok.cache from there (either-pass (c.start.ensures.stops from there)) c.in-Ok.ensures.keeps (g.F.Folder.told c.count.new.folder) c.count.ensures.stops
    c.in-Ok.ensures.session (c.count.ensures.ended well) (c.count.ensures.session well)

pub returns-in-Ok-clause-stops : goal.returns-in-Ok-clause-stops
returns-in-Ok-clause-stops g c from there =
    passed (bounds_of c.args.limits) (g.F.Folder.told c.args.folder.now) (g.F.Folder.told c.start.new.f) c.in-Ok.cache from there (either-pass (c.start.ensures.stops from there)) c.in-Ok.ensures.keeps (g.F.Folder.told c.count.new.folder) c.count.ensures.stops

pub returns-in-Err-Device-clause-stops : goal.returns-in-Err-Device-clause-stops
returns-in-Err-Device-clause-stops g c from there = either-pass (c.start.ensures.stops from there)

pub returns-in-Err-Memory-clause-stops : goal.returns-in-Err-Memory-clause-stops
returns-in-Err-Memory-clause-stops g c from there = either-pass (c.start.ensures.stops from there)

pub returns-in-Err-Damaged-clause-stops : goal.returns-in-Err-Damaged-clause-stops
returns-in-Err-Damaged-clause-stops g c from there = either-pass (c.start.ensures.stops from there)

pub returns-in-Err-Device-clause-printed : goal.returns-in-Err-Device-clause-printed
returns-in-Err-Device-clause-printed g c = told_totals status.Device (bounds_of c.args.limits) _ _ _ (λ line. none_printed line _)

pub returns-in-Err-Memory-clause-printed : goal.returns-in-Err-Memory-clause-printed
returns-in-Err-Memory-clause-printed g c = told_totals status.Memory (bounds_of c.args.limits) _ _ _ (λ line. refl)

pub returns-in-Err-Damaged-clause-printed : goal.returns-in-Err-Damaged-clause-printed
returns-in-Err-Damaged-clause-printed g c = told_totals status.Damaged (bounds_of c.args.limits) _ _ _ (λ line. tt)

pub returns-in-Err-Damaged-clause-answer : goal.returns-in-Err-Damaged-clause-answer
returns-in-Err-Damaged-clause-answer g c = first_is _ c.in-Err-Damaged.damage _ c.in-Err-Damaged.field-0-is c.in-Err-Damaged.ensures.first

pub returns-in-Ok-clause-made : goal.returns-in-Ok-clause-made
returns-in-Ok-clause-made g c well from there un image here readings told =
    let mid = told_still from (either-pass (c.start.ensures.stops from there)) there in
    c.count.ensures.made well mid.0 mid.1 image here ∙ c.in-Ok.ensures.made from there un mid.0 mid.1 ∙ c.now.ensures.reading readings told

pub returns-in-Ok-clause-script : goal.returns-in-Ok-clause-script
returns-in-Ok-clause-script g c from there usable =
    reads_once c.now.result c.now.ensures.reading c.now.ensures.later (λ readings late reading later left.
    let stands = begins_at from (bounds_of c.args.limits) readings (record { folder = g.F.Folder.told c.args.folder.now; written = g.K.Sink.written c.args.out.now; left = left; clock = Some readings }) there refl
    (KeepsState c.in-Ok.cache) (g.F.Folder.told c.start.new.f) c.in-Ok.cache.notes (2 * handle_names) usable (c.in-Ok.ensures.last from there) (c.in-Ok.ensures.keeps from there) c.in-Ok.ensures.notes (omega arith) in
    script_of_runs c.count.result count_script (bounds_of c.args.limits) from readings _ _ _
    (c.count.ensures.runs from (bounds_of c.args.limits) readings left (g.F.Folder.told c.args.folder.now) (Some readings) (Some late) there refl later stands))

pub returns-in-Err-Device-clause-script : goal.returns-in-Err-Device-clause-script
returns-in-Err-Device-clause-script g c from there usable =
    reads_once c.now.result c.now.ensures.reading c.now.ensures.later (λ readings late reading later left.
    inr (exit_unopened from (bounds_of c.args.limits) readings (record { folder = g.F.Folder.told c.args.folder.now; written = g.K.Sink.written c.args.out.now; left = left; clock = Some readings }) there refl
    (record { folder = g.F.Folder.told c.start.new.f; written = g.K.Sink.written c.args.out.now; left = left; clock = Some late }) usable (failed_by_start from (bounds_of c.args.limits) (g.F.Folder.told c.args.folder.now) (g.F.Folder.told c.start.new.f) there (c.start.ensures.stops from there)) refl refl))

pub returns-in-Ok-clause-cause : goal.returns-in-Ok-clause-cause
returns-in-Ok-clause-cause g c =
    count_cause c.count.result _ _ _ c.count.ensures.answers
    (λ is. rises_since (g.F.Folder.faults c.args.folder.now) (g.F.Folder.faults c.start.new.f) (g.F.Folder.faults c.count.new.folder) c.start.ensures.writes.later (c.count.ensures.device is)) c.count.ensures.sink

pub returns-in-Ok-clause-complete : goal.returns-in-Ok-clause-complete
returns-in-Ok-clause-complete g c from there usable readings clock left no_device no_sink =
    let cause = returns-in-Ok-clause-cause g c in
    complete_script count_script (bounds_of c.args.limits) from readings _ _ _ _ no_device no_sink c.count.result
    (device_cause c.count.result _ _ ⊥ _ ⊥ cause) (sink_cause c.count.result _ _ ⊥ _ ⊥ cause)
    (reads_told
    (λ (r : Readings) (o n : Option Readings). (l : Option (List ℕ)) → FixedScript c.count.result count_script (bounds_of c.args.limits) from r (Rises (g.K.Sink.faults c.args.out.now) (g.K.Sink.faults c.count.new.out))
    (record { folder = g.F.Folder.told c.args.folder.now; written = g.K.Sink.written c.args.out.now; left = l; clock = o }) (record { folder = g.F.Folder.told c.count.new.folder; written = g.K.Sink.written c.count.new.out; left = l; clock = n }))
    (returns-in-Ok-clause-script g c from there usable) readings clock left)

-- nothing is refused
none_refused : (s : Status) → (s ≡ status.Ok) ⊎ ((s ≡ status.Sink) ⊎ (s ≡ status.Device)) → s ≢ status.Refused
none_refused s (inl is) refused = absurd (clash (sym is ∙ refused))
  where
    clash : status.Ok ≡ status.Refused → ⊥
    clash e = cc
none_refused s (inr (inl is)) refused = absurd (clash (sym is ∙ refused))
  where
    clash : status.Sink ≡ status.Refused → ⊥
    clash e = cc
none_refused s (inr (inr is)) refused = absurd (clash (sym is ∙ refused))
  where
    clash : status.Device ≡ status.Refused → ⊥
    clash e = cc

pub returns-in-Ok-clause-never : goal.returns-in-Ok-clause-never
returns-in-Ok-clause-never g c = none_refused c.count.result c.count.ensures.answers

pub returns-in-Err-Damaged-clause-unwritten : goal.returns-in-Err-Damaged-clause-unwritten
returns-in-Err-Damaged-clause-unwritten g c is from there =
    let damaged = returns-in-Err-Damaged-clause-answer g c from there in
    c.start.ensures.unwritten from there (λ usable. sound damaged.0 from usable damaged.1)

pub returns-in-Err-Memory-clause-script : goal.returns-in-Err-Memory-clause-script
returns-in-Err-Memory-clause-script g c from there usable = reads_once c.now.result c.now.ensures.reading c.now.ensures.later (λ readings late reading later left. search rules)

pub returns-in-Err-Damaged-clause-script : goal.returns-in-Err-Damaged-clause-script
returns-in-Err-Damaged-clause-script g c from there usable = reads_once c.now.result c.now.ensures.reading c.now.ensures.later (λ readings late reading later left. search rules)
