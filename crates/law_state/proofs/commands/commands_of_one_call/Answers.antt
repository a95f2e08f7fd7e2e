use Rattle.law_state.proofs.OneCalls.{closes-end-by-mark, closes-of-doomed-unlink, closes-stop-by-mark, doomed-reads-end, flushes-end-by-mark, flushes-stop-by-mark, opens-end-by-touch, reads-end-by-touch, reads-stop, unsettling-stops-by-mark}
use Rattle.law_state.proofs.commands.commands_of_one_call.Goals as goal

pub returns : goal.returns
returns c = record {
  opens_end = opens-end-by-touch;
  reads_stop = reads-stop;
  reads_end = reads-end-by-touch;
  doomed_reads = doomed-reads-end;
  closes_stop = closes-stop-by-mark;
  closes_end = closes-end-by-mark;
  doomed_closes = closes-of-doomed-unlink;
  flushes_stop = flushes-stop-by-mark;
  flushes_end = flushes-end-by-mark;
  unsettling_stops = unsettling-stops-by-mark;
}
