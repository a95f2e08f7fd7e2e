use Rattle.std.proofs.Common.{◌≡◌, ◌-◌, false, true, ℕ, length, refl, sym, ◌∙◌, ap, arith, Some, Option, List, [], ◌<◌, ◌+◌}
use Rattle.std.proofs.lemmas.List.{length-take-le}
use Rattle.spec_run.specs.Lines.{cut}
use Rattle.blk_cache.specs.CacheKeeping.{KeepsState}
use Rattle.blk_run.specs.Playing.{around}
use Rattle.blk_run.proofs.InputPlayed.{all_but_one, all_used, input_ended, input_failed, input_handed, last_failed, last_played, no_input, piece_failed, piece_played, piece_too_long, some_used, taken_up_to, taken_as, taken_so_far, long_input}
use Rattle.blk_io.proofs.GoingOn.{goes_on, stays_on}
use Rattle.blk_run.proofs.Reading.{for_some, reads_map, reads_none, reads_some, reads_then, some_readings, takes_any, takes_same, takes_then, takes_told, told_taken, took_front, took_none}
use Rattle.blk_run.proofs.input.play_input.Goals as goal

clash : false ≡ true → ⊥
clash e = cc

pub loop-n-init : goal.loop-n-init
loop-n-init g c = record {
  is_open = c.requires.is_open;
  played = reads_none (λ here. reads_none (λ bytes. no_input c.args.lines.now.budget (Some bytes) c.args.lines.now.line c.args.lines.now.played.lines (KeepsState c.args.cache.now) (c.args.cache.now.notes) (around (g.F.Folder.told c.args.folder.now) (g.K.Sink.written c.args.out.now) (Some here) c.args.lines.now.played.refused) (let f = c.requires.first in omega (arith, f)) c.requires.nothing));
  lines = let f = c.requires.first in omega (arith, f);
  buffer = refl;
  later = omega arith;
  sink = stays_on;
  handed = λ none. none;
  source = omega arith;
}

pub returns-in_default-clause-played : goal.returns-in_default-clause-played
returns-in_default-clause-played g c =
    reads_map c.loop-n.invariant.played (λ early late goes.
    takes_then goes (takes_same [] c.in_default.ensures.stays) (λ bytes mid rest so_far same. (
      taken_as (c.args.lines.now.budget + 1) (Some bytes) (Some mid) (Some rest) (ap Some same) (taken_so_far c.args.lines.now.budget c.loop-n.left (Some bytes) (Some mid) c.loop-n.lines.line c.loop-n.lines.played.lines (KeepsState c.args.cache.now) (KeepsState c.loop-n.cache) (c.args.cache.now.notes) (c.loop-n.cache.notes) _ _ so_far) bytes refl,
      λ far spare at.
          input_failed c.args.lines.now.budget c.loop-n.left (Some bytes) (Some mid) c.loop-n.lines.line c.loop-n.lines.played.lines (KeepsState c.args.cache.now) (KeepsState c.loop-n.cache) (c.args.cache.now.notes) (c.loop-n.cache.notes) _ _ so_far (Some rest) (ap Some same) far spare at,
    )))

pub returns-in_err-play_bytes-clause-played : goal.returns-in_err-play_bytes-clause-played
returns-in_err-play_bytes-clause-played g c =
    reads_then c.loop-n.invariant.played c.in_err-play_bytes.ensures.played (λ early between late goes does.
    takes_then goes (takes_any [] (took_front c.in-Ok.n c.take_piece.new.piece (let whole = c.take_piece.array_long in let few = c.in-Ok.ensures.within.0 in omega (arith, whole, few)) c.in-Ok.ensures.bytes c.in-Ok.ensures.left)) (λ bytes mid rest so_far took. (
      taken_up_to c.args.lines.now.budget c.loop-n.left (Some bytes) (Some mid) (Some rest) c.loop-n.lines.line c.loop-n.lines.played.lines (KeepsState c.args.cache.now) (KeepsState c.loop-n.cache) (c.args.cache.now.notes) (c.loop-n.cache.notes) _ _ so_far c.in-Ok.n c.in-Ok.ensures.within.1 (λ l is. (took.0 l is).0) took.1 bytes refl,
      λ far spare at.
          let min_is = c.min-usable.ensures in
          let whole = c.take_piece.array_long in
          let few = c.in-Ok.ensures.within.0 in
          let size : length c.front.result.now ≡ c.min-usable.result = ap length c.front.ensures ∙ length-take-le c.min-usable.result c.take_piece.new.piece (omega (arith, min_is, whole, few)) in
          input_handed c.from_residual.result c.in_err-play_bytes.field-0.0 c.args.lines.now.budget _ _ far (KeepsState c.play_bytes.new.cache) (c.play_bytes.new.cache.notes) spare _ _ c.from_residual.ensures.1
          (piece_failed c.args.lines.now.budget c.loop-n.left (Some bytes) (Some mid) c.loop-n.lines.line c.loop-n.lines.played.lines (KeepsState c.args.cache.now) (KeepsState c.loop-n.cache) (c.args.cache.now.notes) (c.loop-n.cache.notes) _ _ so_far
          c.front.result.now (omega (arith, min_is, size)) (KeepsState c.play_bytes.new.cache) (c.play_bytes.new.cache.notes) _ (Some rest) c.in_err-play_bytes.field-0.0
          (does (cut so_far.taken).rest so_far.holds)
          (some_used (Some mid) (Some rest) c.take_piece.new.piece c.front.result.now c.in-Ok.n c.min-usable.result c.front.ensures took.0 took.1 (omega (arith, min_is))) far spare at),
    )))

pub returns-in_err-play_bytes-clause-taken : goal.returns-in_err-play_bytes-clause-taken
returns-in_err-play_bytes-clause-taken g c = told_taken (c.args.lines.now.budget + 1) (reads_some (returns-in_err-play_bytes-clause-played g c) some_readings).2

pub returns-then-usable-n-clause-played : goal.returns-then-usable-n-clause-played
returns-then-usable-n-clause-played g c =
    reads_then c.loop-n.invariant.played c.in_ok-play_bytes.ensures.played (λ early between late goes does.
    takes_then goes (takes_any [] (took_front c.in-Ok.n c.take_piece.new.piece (let whole = c.take_piece.array_long in let few = c.in-Ok.ensures.within.0 in omega (arith, whole, few)) c.in-Ok.ensures.bytes c.in-Ok.ensures.left)) (λ bytes mid rest so_far took. (
      taken_up_to c.args.lines.now.budget c.loop-n.left (Some bytes) (Some mid) (Some rest) c.loop-n.lines.line c.loop-n.lines.played.lines (KeepsState c.args.cache.now) (KeepsState c.loop-n.cache) (c.args.cache.now.notes) (c.loop-n.cache.notes) _ _ so_far c.in-Ok.n c.in-Ok.ensures.within.1 (λ l is. (took.0 l is).0) took.1 bytes refl,
      λ far spare at.
          let min_is = c.min-usable.ensures in
          let less = c.if-usable-n.true in
          let within = c.in-Ok.ensures.within.1 in
          let whole = c.take_piece.array_long in
          let few = c.in-Ok.ensures.within.0 in
          let size : length c.front.result.now ≡ c.min-usable.result = ap length c.front.ensures ∙ length-take-le c.min-usable.result c.take_piece.new.piece (omega (arith, min_is, whole, few)) in
          piece_too_long c.args.lines.now.budget c.loop-n.left (Some bytes) (Some mid) c.loop-n.lines.line c.loop-n.lines.played.lines (KeepsState c.args.cache.now) (KeepsState c.loop-n.cache) (c.args.cache.now.notes) (c.loop-n.cache.notes) _ _ so_far
          c.front.result.now (omega (arith, min_is, size)) (KeepsState c.play_bytes.new.cache) (c.play_bytes.new.cache.notes) _ (Some rest) (omega (arith, min_is, less, within, size))
          (all_but_one (Some mid) (Some rest) c.take_piece.new.piece c.front.result.now c.in-Ok.n c.min-usable.result c.front.ensures took.0 took.1 (omega (arith, min_is, less, within)))
          (does (cut so_far.taken).rest so_far.holds) far spare at,
    )))

pub returns-then-usable-n-clause-taken : goal.returns-then-usable-n-clause-taken
returns-then-usable-n-clause-taken g c = told_taken (c.args.lines.now.budget + 1) (reads_some (returns-then-usable-n-clause-played g c) some_readings).2

pub loop-n-preserved : goal.loop-n-preserved
loop-n-preserved g c =
    let min_is = c.min-usable.ensures in
    let whole = c.take_piece.array_long in
    let few = c.in-Ok.ensures.within.0 in
    let all = c.if-usable-n.false in
    let size : length c.front.result.now ≡ c.min-usable.result = ap length c.front.ensures ∙ length-take-le c.min-usable.result c.take_piece.new.piece (omega (arith, min_is, whole, few)) in
    record {
      is_open = c.in_ok-play_bytes.ensures.is_open;
      played = reads_then c.loop-n.invariant.played c.in_ok-play_bytes.ensures.played (λ early between late goes does. reads_then goes (took_front c.in-Ok.n c.take_piece.new.piece (let whole = c.take_piece.array_long in let few = c.in-Ok.ensures.within.0 in omega (arith, whole, few)) c.in-Ok.ensures.bytes c.in-Ok.ensures.left) (λ bytes mid rest so_far took.
          let before = (cut so_far.taken).rest in
          piece_played c.args.lines.now.budget c.loop-n.left (Some bytes) (Some mid) c.loop-n.lines.line c.loop-n.lines.played.lines (KeepsState c.args.cache.now) (KeepsState c.loop-n.cache) (c.args.cache.now.notes) (c.loop-n.cache.notes) _ _ so_far
          c.front.result.now (omega (arith, min_is, size)) (KeepsState c.play_bytes.new.cache) (c.play_bytes.new.cache.notes) _ (Some rest)
          (c.loop-n.left - c.min-usable.result) (ap (λ (n : ℕ). c.loop-n.left - n) (sym size)) c.play_bytes.new.lines.line c.play_bytes.new.lines.played.lines (c.in_ok-play_bytes.ensures.holds before so_far.holds) (c.in_ok-play_bytes.ensures.counted before so_far.holds)
          (all_used (Some mid) (Some rest) c.take_piece.new.piece c.front.result.now c.in-Ok.n c.min-usable.result c.front.ensures took.0 took.1 (omega (arith, min_is, all))) (does before so_far.holds)));
      lines = let so_far = c.loop-n.invariant.lines in let next = c.in_ok-play_bytes.ensures.lines in omega (arith, so_far, next, size, min_is);
      buffer = c.play_bytes.auto.buffer ∙ c.loop-n.invariant.buffer;
      later = let now = c.loop-n.invariant.later in let next = c.in_ok-play_bytes.ensures.later in omega (arith, now, next);
      sink = goes_on c.loop-n.invariant.sink c.in_ok-play_bytes.ensures.printed_later;
      handed = λ none. c.in_ok-play_bytes.ensures.handed (c.loop-n.invariant.handed none);
      source = let now = c.loop-n.invariant.source in let next = c.in-Ok.ensures.later in omega (arith, now, next);
    }

pub returns-in_err-play_line-clause-played : goal.returns-in_err-play_line-clause-played
returns-in_err-play_line-clause-played g c =
    reads_then c.loop-n.invariant.played c.in_err-play_line.ensures.played (λ early between late goes does.
    takes_then goes (took_none c.in-Ok.n c.if-n-eq0.true (c.in-Ok.ensures.end c.if-n-eq0.true) c.in-Ok.ensures.left) (λ bytes mid rest so_far empty. (
      taken_as (c.args.lines.now.budget + 1) (Some bytes) (Some mid) (Some rest) (ap Some (empty.1 ∙ sym empty.0)) (taken_so_far c.args.lines.now.budget c.loop-n.left (Some bytes) (Some mid) c.loop-n.lines.line c.loop-n.lines.played.lines (KeepsState c.args.cache.now) (KeepsState c.loop-n.cache) (c.args.cache.now.notes) (c.loop-n.cache.notes) _ _ so_far) bytes refl,
      λ far spare at.
          input_handed c.from_residual-in_err-play_line.result c.in_err-play_line.field-0.0 c.args.lines.now.budget _ _ far (KeepsState c.play_line.new.cache) (c.play_line.new.cache.notes) spare _ _ c.from_residual-in_err-play_line.ensures.1
          (last_failed c.args.lines.now.budget c.loop-n.left (Some bytes) (Some mid) c.loop-n.lines.line c.loop-n.lines.played.lines (KeepsState c.args.cache.now) (KeepsState c.loop-n.cache) (c.args.cache.now.notes) (c.loop-n.cache.notes) _ _ so_far
          (for_some (λ (l : List ℕ). l ≡ []) mid empty.0) (Some rest) (for_some (λ (l : List ℕ). ◌≡◌ {A = Option (List ℕ)} (Some rest) (Some l)) mid (ap Some (empty.1 ∙ sym empty.0)))
          (λ none. clash (sym c.if-not-is_empty.true ∙ (c.is_empty.ensures.nothing (cut so_far.taken).rest so_far.holds).1 none)) (KeepsState c.play_line.new.cache) (c.play_line.new.cache.notes) _ c.in_err-play_line.field-0.0 (does (cut so_far.taken).rest so_far.holds) far spare at),
    )))

pub returns-in_ok-play_line-clause-played : goal.returns-in_ok-play_line-clause-played
returns-in_ok-play_line-clause-played g c =
    reads_then c.loop-n.invariant.played c.in_ok-play_line.ensures.played (λ early between late goes does.
    takes_then goes (took_none c.in-Ok.n c.if-n-eq0.true (c.in-Ok.ensures.end c.if-n-eq0.true) c.in-Ok.ensures.left) (λ bytes mid rest so_far empty. (
      taken_as (c.args.lines.now.budget + 1) (Some bytes) (Some mid) (Some rest) (ap Some (empty.1 ∙ sym empty.0)) (taken_so_far c.args.lines.now.budget c.loop-n.left (Some bytes) (Some mid) c.loop-n.lines.line c.loop-n.lines.played.lines (KeepsState c.args.cache.now) (KeepsState c.loop-n.cache) (c.args.cache.now.notes) (c.loop-n.cache.notes) _ _ so_far) bytes refl,
      λ far spare at.
          last_played c.args.lines.now.budget c.loop-n.left (Some bytes) (Some mid) c.loop-n.lines.line c.loop-n.lines.played.lines (KeepsState c.args.cache.now) (KeepsState c.loop-n.cache) (c.args.cache.now.notes) (c.loop-n.cache.notes) _ _ so_far
          (for_some (λ (l : List ℕ). l ≡ []) mid empty.0) (Some rest) (for_some (λ (l : List ℕ). ◌≡◌ {A = Option (List ℕ)} (Some rest) (Some l)) mid (ap Some (empty.1 ∙ sym empty.0)))
          (λ none. clash (sym c.if-not-is_empty.true ∙ (c.is_empty.ensures.nothing (cut so_far.taken).rest so_far.holds).1 none)) (KeepsState c.play_line.new.cache) (c.play_line.new.cache.notes) _ (does (cut so_far.taken).rest so_far.holds) far spare at,
    )))

pub returns-else-not-is_empty-clause-played : goal.returns-else-not-is_empty-clause-played
returns-else-not-is_empty-clause-played g c =
    reads_map c.loop-n.invariant.played (λ early late goes.
    takes_then goes (took_none c.in-Ok.n c.if-n-eq0.true (c.in-Ok.ensures.end c.if-n-eq0.true) c.in-Ok.ensures.left) (λ bytes mid rest so_far empty. (
      taken_as (c.args.lines.now.budget + 1) (Some bytes) (Some mid) (Some rest) (ap Some (empty.1 ∙ sym empty.0)) (taken_so_far c.args.lines.now.budget c.loop-n.left (Some bytes) (Some mid) c.loop-n.lines.line c.loop-n.lines.played.lines (KeepsState c.args.cache.now) (KeepsState c.loop-n.cache) (c.args.cache.now.notes) (c.loop-n.cache.notes) _ _ so_far) bytes refl,
      λ far spare at.
          input_ended c.args.lines.now.budget c.loop-n.left (Some bytes) (Some mid) c.loop-n.lines.line c.loop-n.lines.played.lines (KeepsState c.args.cache.now) (KeepsState c.loop-n.cache) (c.args.cache.now.notes) (c.loop-n.cache.notes) _ _ so_far
          (for_some (λ (l : List ℕ). l ≡ []) mid empty.0) (Some rest) (for_some (λ (l : List ℕ). ◌≡◌ {A = Option (List ℕ)} (Some rest) (Some l)) mid (ap Some (empty.1 ∙ sym empty.0)))
          ((c.is_empty.ensures.nothing (cut so_far.taken).rest so_far.holds).0 c.if-not-is_empty.false) far spare at,
    )))

pub returns-in_err-play_line-clause-taken : goal.returns-in_err-play_line-clause-taken
returns-in_err-play_line-clause-taken g c = told_taken (c.args.lines.now.budget + 1) (reads_some (returns-in_err-play_line-clause-played g c) some_readings).2

pub returns-in_default-clause-taken : goal.returns-in_default-clause-taken
returns-in_default-clause-taken g c = told_taken (c.args.lines.now.budget + 1) (reads_some (returns-in_default-clause-played g c) some_readings).2

pub returns-in_ok-play_line-clause-taken : goal.returns-in_ok-play_line-clause-taken
returns-in_ok-play_line-clause-taken g c = told_taken (c.args.lines.now.budget + 1) (reads_some (returns-in_ok-play_line-clause-played g c) some_readings).2

pub returns-else-not-is_empty-clause-taken : goal.returns-else-not-is_empty-clause-taken
returns-else-not-is_empty-clause-taken g c = told_taken (c.args.lines.now.budget + 1) (reads_some (returns-else-not-is_empty-clause-played g c) some_readings).2

pub returns-then-usable-n-clause-too_long : goal.returns-then-usable-n-clause-too_long
returns-then-usable-n-clause-too_long g c =
    takes_told (λ (b : List ℕ) (o n : Option (List ℕ)). c.args.lines.now.budget < length b)
    (takes_then (reads_some c.loop-n.invariant.played some_readings).2 (takes_any [] (took_front c.in-Ok.n c.take_piece.new.piece (let whole = c.take_piece.array_long in let few = c.in-Ok.ensures.within.0 in omega (arith, whole, few)) c.in-Ok.ensures.bytes c.in-Ok.ensures.left))
    (λ bytes mid rest so_far took. long_input c.args.lines.now.budget c.loop-n.left bytes mid c.loop-n.lines.line c.loop-n.lines.played.lines (KeepsState c.args.cache.now) (KeepsState c.loop-n.cache) (c.args.cache.now.notes) (c.loop-n.cache.notes) _ _ so_far (let min_is = c.min-usable.ensures in let less = c.if-usable-n.true in let enough = (took.0 mid refl).0 in omega (arith, min_is, less, enough))))
