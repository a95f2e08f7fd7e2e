use Rattle.std.proofs.Common.{◌≡◌, ◌∙◌, Bool, None, ap, sym, subst}
use Rattle.blk_io.proofs.Carried.{carried}
use Rattle.blk_model.specs.State.{is_named}
use Rattle.blk_disk.specs.declared.tables.BlockFiles.{BlockFiles}
use Rattle.blk_disk.specs.Open.{IsOpen}
use Rattle.blk_disk.specs.Tables.{Agrees}
use Rattle.blk_handles.specs.Bindings.{is_open}
use Rattle.law_folder.specs.CommandLaws.{IsPlacedAsLive}
use Rattle.blk_cache.specs.DoomingObjects.{LiesAsTarget}
use Rattle.blk_cache.proofs.Dooms.{doomed-keeps, open-named}
use Rattle.blk_cache.proofs.cache.Cache.doom_found.Goals as goal

pub returns-in_err-gone-clause-stops : goal.returns-in_err-gone-clause-stops
returns-in_err-gone-clause-stops g c from there state k number object t same =
    let p : IsPlacedAsLive state k.layout number object t.lies.was = record { here = t.here; live = t.live; at = t.lies.lies.here } in
    let held : is_named state number ≡ c.is_pinned-is_held.result = sym (c.is_pinned-is_held.ensures ∙ ap (is_open c.args.self.now.handles) (sym t.lies.entry_is) ∙ open-named c.args.self.now state from k number object t.lies.was p) in
    let t1 = subst (λ (b : Bool). LiesAsTarget b state k.layout number object c.args.target.now) held t in
    c.in_err-gone.ensures.stops from there state k.layout number object k.kept t1 same

pub returns-in_err-gone-clause-untold : goal.returns-in_err-gone-clause-untold
returns-in_err-gone-clause-untold g c from there state k number object t same =
    let p : IsPlacedAsLive state k.layout number object t.lies.was = record { here = t.here; live = t.live; at = t.lies.lies.here } in
    let held : is_named state number ≡ c.is_pinned-is_held.result = sym (c.is_pinned-is_held.ensures ∙ ap (is_open c.args.self.now.handles) (sym t.lies.entry_is) ∙ open-named c.args.self.now state from k number object t.lies.was p) in
    let t1 = subst (λ (b : Bool). LiesAsTarget b state k.layout number object c.args.target.now) held t in
    carried c.doom_target.result c.from_residual.result c.in_err-gone.field-0.0 (λ _. (g.F.Folder.told c.args.folder.now).files ≡ None) c.in_err-gone.was c.from_residual.ensures.1
    (c.doom_target.ensures.untold from there state k.layout number object k.kept t1 same)

pub returns-clause-dooms : goal.returns-clause-dooms
returns-clause-dooms g c from there state k number object t same last is =
    let p : IsPlacedAsLive state k.layout number object t.lies.was = record { here = t.here; live = t.live; at = t.lies.lies.here } in
    let held : is_named state number ≡ c.is_pinned-is_held.result = sym (c.is_pinned-is_held.ensures ∙ ap (is_open c.args.self.now.handles) (sym t.lies.entry_is) ∙ open-named c.args.self.now state from k number object t.lies.was p) in
    let t1 = subst (λ (b : Bool). LiesAsTarget b state k.layout number object c.args.target.now) held t in
    doomed-keeps c.args.self.now state from k number object t.lies.was p c.count_doomed.new.self c.args.target.now.found.entry t.lies.entry_is c.in_ok-gone.gone last (c.in_ok-gone.ensures.doomed from there state k.layout number object k.kept t1 same last is)
    (record { handles = c.count_doomed.ensures.counts.handles; items = c.count_doomed.ensures.counts.items; bytes = c.count_doomed.ensures.counts.bytes; open_bytes = c.count_doomed.ensures.counts.open_bytes; limits = c.count_doomed.ensures.counts.limits; files = c.count_doomed.ensures.counts.files; mark = c.count_doomed.ensures.counts.mark; notes = c.count_doomed.ensures.counts.notes })
    (subst (λ (files : BlockFiles). Agrees files last) (sym c.count_doomed.ensures.counts.files) (c.in_ok-gone.ensures.is_open last is).agrees)

pub returns-clause-stops : goal.returns-clause-stops
returns-clause-stops g c from there state k number object t same =
    let p : IsPlacedAsLive state k.layout number object t.lies.was = record { here = t.here; live = t.live; at = t.lies.lies.here } in
    let held : is_named state number ≡ c.is_pinned-is_held.result = sym (c.is_pinned-is_held.ensures ∙ ap (is_open c.args.self.now.handles) (sym t.lies.entry_is) ∙ open-named c.args.self.now state from k number object t.lies.was p) in
    let t1 = subst (λ (b : Bool). LiesAsTarget b state k.layout number object c.args.target.now) held t in
    c.in_ok-gone.ensures.stops from there state k.layout number object k.kept t1 same

pub returns-clause-is_open : goal.returns-clause-is_open
returns-clause-is_open g c image there = subst (λ (files : BlockFiles). IsOpen files image) (sym c.count_doomed.ensures.counts.files) (c.in_ok-gone.ensures.is_open image there)
