use Rattle.std.proofs.Common.{List, ap, ℕ, true, Some}
use Rattle.blk_model.specs.Request.{Request, to_close, to_read, to_write}
use Rattle.blk_cache.specs.CacheKeeping.{KeepsState}
use Rattle.blk_run.proofs.CountedTurns.{all_done, asked_as, first_fails, second_fails, third_fails}
use Rattle.blk_run.proofs.Reading.{reads_map, reads_then, reads_three}
use Rattle.blk_run.proofs.generating.play_used.Goals as goal

pub returns-in_err-ask_counted-clause-played : goal.returns-in_err-ask_counted-clause-played
returns-in_err-ask_counted-clause-played g c =
    reads_map c.in_err-ask_counted.ensures.asked (λ early late was far left commands following w refused few within at.
    let of_bytes : List ℕ → Request = λ bytes. to_write 0 c.args.turn.now.stream 0 true bytes in
    first_fails _ (to_read 0 c.args.turn.now.stream 0 20001) (to_close 0) following c.args.counts.now c.ask_counted.new.counts c.ask_counted.new.counts c.ask_counted.new.counts (KeepsState c.args.cache.now) (KeepsState c.ask_counted.new.cache) (KeepsState c.ask_counted.new.cache) (KeepsState c.ask_counted.new.cache)
    c.args.cache.now.notes c.ask_counted.new.cache.notes c.ask_counted.new.cache.notes c.ask_counted.new.cache.notes (g.F.Folder.told c.args.folder.now) (g.F.Folder.told c.ask_counted.new.folder) (g.F.Folder.told c.ask_counted.new.folder) (g.F.Folder.told c.ask_counted.new.folder) (Some early) (Some late) (Some late) (Some late)
    far left commands w refused few within at c.in_err-ask_counted.field-0.0 (asked_as _ _ (ap of_bytes c.bytes_of.ensures) _ _ _ _ _ _ _ _ _ _ _ was) c.from_residual.result c.from_residual.ensures.1)

pub returns-in_err-ask_counted-2-clause-played : goal.returns-in_err-ask_counted-2-clause-played
returns-in_err-ask_counted-2-clause-played g c =
    reads_then c.in_ok-ask_counted.ensures.asked c.in_err-ask_counted-2.ensures.asked (λ early mid late was next far left commands following w refused few within at.
    let of_bytes : List ℕ → Request = λ bytes. to_write 0 c.args.turn.now.stream 0 true bytes in
    second_fails _ (to_read 0 c.args.turn.now.stream 0 20001) (to_close 0) following c.args.counts.now c.ask_counted.new.counts c.ask_counted-2.new.counts c.ask_counted-2.new.counts (KeepsState c.args.cache.now) (KeepsState c.ask_counted.new.cache) (KeepsState c.ask_counted-2.new.cache) (KeepsState c.ask_counted-2.new.cache)
    c.args.cache.now.notes c.ask_counted.new.cache.notes c.ask_counted-2.new.cache.notes c.ask_counted-2.new.cache.notes (g.F.Folder.told c.args.folder.now) (g.F.Folder.told c.ask_counted.new.folder) (g.F.Folder.told c.ask_counted-2.new.folder) (g.F.Folder.told c.ask_counted-2.new.folder) (Some early) (Some mid) (Some late) (Some late)
    far left commands w refused few within at _ (asked_as _ _ (ap of_bytes c.bytes_of.ensures) _ _ _ _ _ _ _ _ _ _ _ was) c.in_err-ask_counted-2.field-0.0 next c.from_residual-in_err-ask_counted-2.result c.from_residual-in_err-ask_counted-2.ensures.1)

pub returns-in_err-ask_counted-3-clause-played : goal.returns-in_err-ask_counted-3-clause-played
returns-in_err-ask_counted-3-clause-played g c =
    reads_three c.in_ok-ask_counted.ensures.asked c.in_ok-ask_counted-2.ensures.asked c.in_err-ask_counted-3.ensures.asked (λ early mid between late was next third far left commands following w refused few within at.
    let of_bytes : List ℕ → Request = λ bytes. to_write 0 c.args.turn.now.stream 0 true bytes in
    third_fails _ (to_read 0 c.args.turn.now.stream 0 20001) (to_close 0) following c.args.counts.now c.ask_counted.new.counts c.ask_counted-2.new.counts c.ask_counted-3.new.counts (KeepsState c.args.cache.now) (KeepsState c.ask_counted.new.cache) (KeepsState c.ask_counted-2.new.cache) (KeepsState c.ask_counted-3.new.cache)
    c.args.cache.now.notes c.ask_counted.new.cache.notes c.ask_counted-2.new.cache.notes c.ask_counted-3.new.cache.notes (g.F.Folder.told c.args.folder.now) (g.F.Folder.told c.ask_counted.new.folder) (g.F.Folder.told c.ask_counted-2.new.folder) (g.F.Folder.told c.ask_counted-3.new.folder) (Some early) (Some mid) (Some between) (Some late)
    far left commands w refused few within at _ (asked_as _ _ (ap of_bytes c.bytes_of.ensures) _ _ _ _ _ _ _ _ _ _ _ was) _ next c.in_err-ask_counted-3.field-0.0 third c.from_residual-in_err-ask_counted-3.result c.from_residual-in_err-ask_counted-3.ensures.1)

pub returns-clause-played : goal.returns-clause-played
returns-clause-played g c =
    reads_three c.in_ok-ask_counted.ensures.asked c.in_ok-ask_counted-2.ensures.asked c.in_ok-ask_counted-3.ensures.asked (λ early mid between late was next third far left commands following w refused few within at.
    let of_bytes : List ℕ → Request = λ bytes. to_write 0 c.args.turn.now.stream 0 true bytes in
    all_done _ (to_read 0 c.args.turn.now.stream 0 20001) (to_close 0) following c.args.counts.now c.ask_counted.new.counts c.ask_counted-2.new.counts c.ask_counted-3.new.counts (KeepsState c.args.cache.now) (KeepsState c.ask_counted.new.cache) (KeepsState c.ask_counted-2.new.cache) (KeepsState c.ask_counted-3.new.cache)
    c.args.cache.now.notes c.ask_counted.new.cache.notes c.ask_counted-2.new.cache.notes c.ask_counted-3.new.cache.notes (g.F.Folder.told c.args.folder.now) (g.F.Folder.told c.ask_counted.new.folder) (g.F.Folder.told c.ask_counted-2.new.folder) (g.F.Folder.told c.ask_counted-3.new.folder) (Some early) (Some mid) (Some between) (Some late)
    far left commands w refused few within at _ (asked_as _ _ (ap of_bytes c.bytes_of.ensures) _ _ _ _ _ _ _ _ _ _ _ was) _ next _ third)
