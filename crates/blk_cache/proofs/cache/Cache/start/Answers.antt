use Rattle.std.proofs.Common.{inl, refl}
use Rattle.blk_cache.proofs.CarriedFaults.{if-memory, of-memory, open-damaged-on, open-device-on, open-memory-on}
use Rattle.blk_cache.proofs.OpenRuns.{stayed-still}
use Rattle.blk_cache.proofs.Starts.{all-free, none-stand, started}
use Rattle.blk_cache.proofs.cache.Cache.start.Goals as goal

pub returns-in_err-names-clause-stops : goal.returns-in_err-names-clause-stops
returns-in_err-names-clause-stops g c from there = inl (stayed-still from there refl)

pub returns-in_err-names-clause-damaged : goal.returns-in_err-names-clause-damaged
returns-in_err-names-clause-damaged g c = of-memory c.from_residual.result c.from_residual.ensures.1 _

pub returns-in_err-names-clause-first : goal.returns-in_err-names-clause-first
returns-in_err-names-clause-first g c = of-memory c.from_residual.result c.from_residual.ensures.1 _

pub returns-in_err-names-clause-memory : goal.returns-in_err-names-clause-memory
returns-in_err-names-clause-memory g c = if-memory c.from_residual.result _ refl

pub returns-in_err-opened-clause-damaged : goal.returns-in_err-opened-clause-damaged
returns-in_err-opened-clause-damaged g c = open-damaged-on c.from_residual-in_err-opened.result c.in_err-opened.field-0.0 c.from_residual-in_err-opened.ensures.1 _ c.in_err-opened.ensures.damaged

pub returns-in_err-opened-clause-first : goal.returns-in_err-opened-clause-first
returns-in_err-opened-clause-first g c = open-damaged-on c.from_residual-in_err-opened.result c.in_err-opened.field-0.0 c.from_residual-in_err-opened.ensures.1 _ c.in_err-opened.ensures.first

pub returns-in_err-opened-clause-memory : goal.returns-in_err-opened-clause-memory
returns-in_err-opened-clause-memory g c = open-memory-on c.from_residual-in_err-opened.result c.in_err-opened.field-0.0 c.from_residual-in_err-opened.ensures.1 _ c.in_err-opened.ensures.memory

pub returns-in_err-opened-clause-writes : goal.returns-in_err-opened-clause-writes
returns-in_err-opened-clause-writes g c = record {
  silent = c.in_err-opened.ensures.writes.silent;
  later = c.in_err-opened.ensures.writes.later;
  failed = open-device-on c.from_residual-in_err-opened.result c.in_err-opened.field-0.0 c.from_residual-in_err-opened.ensures.1 _ c.in_err-opened.ensures.writes.failed;
}

pub invariant_of-result : goal.invariant_of-result
invariant_of-result g c = record { stand = none-stand c.in_ok-opened.opened.files c.in_ok-names.names.handles c.in_ok-names.ensures.free; room = c.in_ok-names.ensures.room }

pub returns-clause-keeps : goal.returns-clause-keeps
returns-clause-keeps g c from there image here =
    let left = c.in_ok-opened.ensures.opened from there image here in
    record { holds = started _ c.in_ok-opened.opened from image c.in_ok-names.ensures.free refl refl refl refl refl left; finished = left.finished }

pub returns-clause-free : goal.returns-clause-free
returns-clause-free g c = all-free c.in_ok-names.names.handles c.in_ok-names.ensures.free

pub returns-clause-session : goal.returns-clause-session
returns-clause-session g c from there image here = let left = c.in_ok-opened.ensures.opened from there image here in left.id_is
