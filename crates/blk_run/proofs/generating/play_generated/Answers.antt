use Rattle.std.proofs.Common.{◌+◌, ◌-◌, ◌*◌, ◌∙◌, refl, arith}
use Rattle.spec_run.specs.Run.{commands_of}
use Rattle.blk_gen.specs.Draws.{value_behind}
use Rattle.blk_gen.specs.Generator.{gen_script, turns_script}
use Rattle.blk_cache.specs.CacheKeeping.{KeepsState}
use Rattle.blk_run.specs.Playing.{with_more}
use Rattle.blk_run.proofs.CountedTurns.{within_weaker}
use Rattle.blk_run.proofs.GeneratedTurns.{generated_begins, generated_ends, generated_goes, generated_stops, none_within, up_fewer}
use Rattle.blk_run.proofs.Parts.{stands_fewer}
use Rattle.blk_run.proofs.Reading.{reads_map, reads_none, reads_then}
use Rattle.blk_run.proofs.generating.play_generated.Goals as goal

pub loop-number-init : goal.loop-number-init
loop-number-init g c = record {
  plays = reads_none (λ here w refused far left at. (generated_begins c.args.seed c.args.count _ _ c.new-draws.ensures c.new-counts.ensures far (KeepsState c.args.cache.now) c.args.cache.now.notes left _ at, none_within _ c.new-counts.ensures));
  is_open = c.requires.is_open;
  buffer = refl;
  later = omega arith;
}

pub returns-in_err-play_turn-clause-played : goal.returns-in_err-play_turn-clause-played
returns-in_err-play_turn-clause-played g c =
    reads_then c.loop-number.invariant.plays c.in_err-play_turn.ensures.played (λ early mid late goes does refused far left at.
    let less = c.loop-number-test.true in
    let so_far = goes (g.K.Sink.written c.args.out.now) refused far left at in
    let before = so_far.0 in
    generated_stops (gen_script c.args.seed c.args.count) c.args.count c.loop-number.number c.loop-number.draws.value c.loop-number.counts far (KeepsState c.loop-number.cache) c.loop-number.cache.notes (left + 2 * (5 * (c.args.count - c.loop-number.number))) _ _ before
    c.turn-turn.result less c.turn-turn.ensures.drawn c.in_err-play_turn.field-0.0 c.from_residual.result c.from_residual.ensures.1 (5 * c.loop-number.number + 5) c.play_turn.new.counts _ (KeepsState c.play_turn.new.cache) c.play_turn.new.cache.notes left _
    (does (with_more far (commands_of before.made)) left (5 * c.loop-number.number) (turns_script (c.args.count - (c.loop-number.number + 1)) (c.loop-number.number + 1) (value_behind c.loop-number.draws.value)) (g.K.Sink.written c.args.out.now) refused (omega (arith, less)) so_far.1
    (stands_fewer _ (KeepsState c.loop-number.cache) c.loop-number.cache.notes (left + 2 * (5 * (c.args.count - c.loop-number.number))) (left + 10) _ (omega (arith, less)) before.plays.stands)))

pub loop-number-preserved : goal.loop-number-preserved
loop-number-preserved g c = record {
  plays = reads_then c.loop-number.invariant.plays c.in_ok-play_turn.ensures.played (λ early mid late goes does w refused far left at.
      let less = c.loop-number-test.true in
      let so_far = goes w refused far left at in
      let before = so_far.0 in
      let played = does (with_more far (commands_of before.made)) (left + 2 * (5 * (c.args.count - (c.loop-number.number + 1)))) (5 * c.loop-number.number) (turns_script (c.args.count - (c.loop-number.number + 1)) (c.loop-number.number + 1) (value_behind c.loop-number.draws.value)) w refused (omega (arith, less)) so_far.1
      (stands_fewer _ (KeepsState c.loop-number.cache) c.loop-number.cache.notes (left + 2 * (5 * (c.args.count - c.loop-number.number))) (left + 2 * (5 * (c.args.count - (c.loop-number.number + 1))) + 10) _ (omega (arith, less)) before.plays.stands) in (
        generated_goes (gen_script c.args.seed c.args.count) c.args.count c.loop-number.number c.loop-number.draws.value c.loop-number.counts far (KeepsState c.loop-number.cache) c.loop-number.cache.notes (left + 2 * (5 * (c.args.count - c.loop-number.number))) _ _ before
            c.turn-turn.result less c.turn-turn.ensures.drawn c.turn-turn.new.self.value c.turn-turn.ensures.value (5 * c.loop-number.number + 5) c.play_turn.new.counts (KeepsState c.play_turn.new.cache) c.play_turn.new.cache.notes (left + 2 * (5 * (c.args.count - (c.loop-number.number + 1)))) _ played,
        within_weaker (5 * c.loop-number.number + 5) (5 * (c.loop-number.number + 1)) c.play_turn.new.counts (omega arith) played.within,
      ));
  is_open = c.in_ok-play_turn.ensures.is_open;
  buffer = c.play_turn.auto.buffer ∙ c.loop-number.invariant.buffer;
  later = let a = c.loop-number.invariant.later in let b = c.in_ok-play_turn.ensures.later in omega (arith, a, b);
}

pub returns-clause-played : goal.returns-clause-played
returns-clause-played g c =
    reads_map c.loop-number.invariant.plays (λ early late goes refused far left at.
    let past = c.loop-number-test.false in
    let so_far = goes (g.K.Sink.written c.args.out.now) refused far left at in
    let before = so_far.0 in
    generated_ends (gen_script c.args.seed c.args.count) c.args.count c.loop-number.number c.loop-number.draws.value c.loop-number.counts far c.loop-number.cache c.loop-number.cache.notes left _ _ _ _ _ _ refused (up_fewer _ _ far (KeepsState c.loop-number.cache) c.loop-number.cache.notes (left + 2 * (5 * (c.args.count - c.loop-number.number))) left _ _ (omega arith) before) (omega (arith, past)) c.show_counts.result c.show_counts.ensures.printed c.show_counts.ensures.front c.show_counts.ensures.only)

pub play_turn-requires : goal.play_turn-requires
play_turn-requires g c = record {
  is_open = c.loop-number.invariant.is_open;
  key = c.turn-turn.ensures.key;
  buffer = let few = c.turn-turn.ensures.few in let long = c.loop-number.invariant.buffer in omega (arith, few, long);
}
