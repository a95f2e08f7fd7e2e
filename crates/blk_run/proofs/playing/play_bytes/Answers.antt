use Rattle.std.proofs.Common.{◌++◌, take, refl, sym, ◌∙◌, arith, Some}
use Rattle.blk_cache.specs.CacheKeeping.{KeepsState}
use Rattle.blk_run.specs.Playing.{around}
use Rattle.blk_run.proofs.Parts.{part_handed}
use Rattle.blk_run.proofs.BytesPlayed.{all_counted, all_played, line_failed, line_played_of, fewer_behind, none_played, rest_holds}
use Rattle.blk_io.proofs.GoingOn.{goes_on, stays_on}
use Rattle.blk_run.proofs.Reading.{reads_map, reads_none, reads_some, reads_then, some_readings}
use Rattle.blk_run.proofs.playing.play_bytes.Goals as goal

pub loop-end-init : goal.loop-end-init
loop-end-init g c = record {
  is_open = c.requires.is_open;
  played = reads_none (λ here before holds. none_played before c.args.bytes.now c.args.lines.now.line c.args.lines.now.played.lines (KeepsState c.args.cache.now) (c.args.cache.now.notes) (around (g.F.Folder.told c.args.folder.now) (g.K.Sink.written c.args.out.now) (Some here) c.args.lines.now.played.refused) holds);
  lines = omega arith;
  buffer = refl;
  later = omega arith;
  sink = stays_on;
  handed = λ none. none;
}

pub returns-in_err-play_line-clause-played : goal.returns-in_err-play_line-clause-played
returns-in_err-play_line-clause-played g c =
    reads_then c.loop-end.invariant.played c.in_err-play_line.ensures.played (λ early mid late goes does before holds far left at.
    let so_far = goes before holds in
    part_handed c.from_residual.result c.in_err-play_line.field-0.0 _ far (KeepsState c.play_line.new.cache) (c.play_line.new.cache.notes) _ _ _ c.from_residual.ensures.1
    (line_failed before c.args.bytes.now c.loop-end.rest.now c.loop-end.lines.line c.args.lines.now.played.lines c.loop-end.lines.played.lines (KeepsState c.args.cache.now) (KeepsState c.loop-end.cache) (c.args.cache.now.notes) (c.loop-end.cache.notes) _ _ so_far
    c.in-Some.end (sym c.line_end.ensures ∙ c.in-Some.is) (KeepsState c.play_line.new.cache) (c.play_line.new.cache.notes) _ c.in_err-play_line.field-0.0
    (does (so_far.pending ++ take c.in-Some.end c.loop-end.rest.now) (c.add.ensures.added so_far.pending so_far.holds)) far left at))

pub loop-end-preserved : goal.loop-end-preserved
loop-end-preserved g c = record {
  is_open = c.in_ok-play_line.ensures.is_open;
  played = reads_then c.loop-end.invariant.played c.in_ok-play_line.ensures.played (λ early mid late goes does before holds.
      let so_far = goes before holds in
      line_played_of before c.args.bytes.now c.loop-end.rest.now c.loop-end.lines.line c.args.lines.now.played.lines c.loop-end.lines.played.lines (KeepsState c.args.cache.now) (KeepsState c.loop-end.cache) (c.args.cache.now.notes) (c.loop-end.cache.notes) _ _ so_far
      c.in-Some.end (sym c.line_end.ensures ∙ c.in-Some.is) (KeepsState c.play_line.new.cache) (c.play_line.new.cache.notes) _ c.behind-rest.result.now c.clear.new.self c.play_line.new.played.lines c.behind-rest.ensures c.clear.ensures.nothing c.in_ok-play_line.ensures.lines
      (does (so_far.pending ++ take c.in-Some.end c.loop-end.rest.now) (c.add.ensures.added so_far.pending so_far.holds)));
  lines =
      let fewer = fewer_behind c.loop-end.rest.now c.behind-rest.result.now c.in-Some.end (sym c.line_end.ensures ∙ c.in-Some.is) c.behind-rest.ensures in
      let so_far = c.loop-end.invariant.lines in
      let one = c.in_ok-play_line.ensures.lines in
      let none = c.clear.ensures.none in
      omega (arith, fewer, so_far, one, none);
  buffer = c.play_line.auto.buffer ∙ c.loop-end.invariant.buffer;
  later = let now = c.loop-end.invariant.later in let next = c.in_ok-play_line.ensures.later in omega (arith, now, next);
  sink = goes_on c.loop-end.invariant.sink c.in_ok-play_line.ensures.printed_later;
  handed = λ none. c.in_ok-play_line.ensures.handed;
}

pub returns-clause-played : goal.returns-clause-played
returns-clause-played g c =
    reads_map c.loop-end.invariant.played (λ early late goes before holds far left at.
    let so_far = goes before holds in
    all_played before c.args.bytes.now c.loop-end.rest.now c.loop-end.lines.line c.args.lines.now.played.lines c.loop-end.lines.played.lines (KeepsState c.args.cache.now) (KeepsState c.loop-end.cache) (c.args.cache.now.notes) (c.loop-end.cache.notes) _ _ so_far (sym c.line_end.ensures ∙ c.in_default.is) far left at)

pub returns-clause-holds : goal.returns-clause-holds
returns-clause-holds g c before holds =
    let so_far = (reads_some c.loop-end.invariant.played some_readings).2 before holds in
    rest_holds before c.args.bytes.now c.loop-end.rest.now c.loop-end.lines.line c.args.lines.now.played.lines c.loop-end.lines.played.lines (KeepsState c.args.cache.now) (KeepsState c.loop-end.cache) (c.args.cache.now.notes) (c.loop-end.cache.notes) _ _ so_far (sym c.line_end.ensures ∙ c.in_default.is) c.add-2.new.self (c.add-2.ensures.added so_far.pending so_far.holds)

pub returns-clause-counted : goal.returns-clause-counted
returns-clause-counted g c before holds =
    let so_far = (reads_some c.loop-end.invariant.played some_readings).2 before holds in
    all_counted before c.args.bytes.now c.loop-end.rest.now c.loop-end.lines.line c.args.lines.now.played.lines c.loop-end.lines.played.lines (KeepsState c.args.cache.now) (KeepsState c.loop-end.cache) (c.args.cache.now.notes) (c.loop-end.cache.notes) _ _ so_far (sym c.line_end.ensures ∙ c.in_default.is)
