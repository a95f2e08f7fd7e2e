use Rattle.std.proofs.Common.{◌≡◌, None, Ok, refl, true, false, sym, ◌∙◌, ap, subst}
use Rattle.blk_io.proofs.Carried.{carried}
use Rattle.blk_handles.specs.declared.open_object.OpenObject.{OpenObject}
use Rattle.blk_handles.specs.Bindings.{Bindings, with_change, with_status}
use Rattle.blk_cache.specs.BoundNames.{AreBoundAmong}
use Rattle.blk_cache.proofs.Asks.{opened-there}
use Rattle.blk_cache.proofs.MarkSteps.{change-is, change-stands, not-idle, same-keeps, same-stops, sets-so, mark-keeps, mark-stops, node-may}
use Rattle.blk_cache.proofs.cache.Cache.set_dirty.Goals as goal

pub returns-then-same-clause-marked : goal.returns-then-same-clause-marked
returns-then-same-clause-marked g c =
    let o = opened-there c.args.self.now.handles c.args.handle c.object.result c.in-Some.object c.object.ensures.object c.in-Some.is in
    same-keeps c.args.self.now c.args.handle o.b o.bound c.args.dirty (ap (λ (x : OpenObject). x.dirty) (sym o.opened) ∙ c.same.ensures.so c.if-same.true) (g.F.Folder.told c.args.folder.now)

pub returns-then-same-clause-stops : goal.returns-then-same-clause-stops
returns-then-same-clause-stops g c =
    let o = opened-there c.args.self.now.handles c.args.handle c.object.result c.in-Some.object c.object.ensures.object c.in-Some.is in
    same-stops c.args.self.now c.args.handle o.b o.bound c.args.dirty (ap (λ (x : OpenObject). x.dirty) (sym o.opened) ∙ c.same.ensures.so c.if-same.true) (g.F.Folder.told c.args.folder.now)

pub returns-in_err-set_dirty_word-clause-stops : goal.returns-in_err-set_dirty_word-clause-stops
returns-in_err-set_dirty_word-clause-stops g c =
    let o = opened-there c.args.self.now.handles c.args.handle c.object.result c.in-Some.object c.object.ensures.object c.in-Some.is in
    mark-stops c.args.self.now c.args.handle o.b o.bound c.args.dirty (g.F.Folder.told c.args.folder.now) (g.met.F.Folder.are_bytes c.args.folder.now) (c.args.self.now.stand c.args.handle o.b o.bound).0 (g.F.Folder.told c.set_dirty_word.new.folder) c.set_dirty_word.result
    (sets-so c.args.self.now.files (g.F.Folder.told c.args.folder.now) (g.F.Folder.told c.set_dirty_word.new.folder) c.set_dirty_word.result c.in-Some.object _ o.opened c.dirty_word-word.result _ c.dirty_word-word.ensures c.set_dirty_word.ensures.sets)

pub returns-in_err-set_dirty_word-clause-idle : goal.returns-in_err-set_dirty_word-clause-idle
returns-in_err-set_dirty_word-clause-idle g c =
    let o = opened-there c.args.self.now.handles c.args.handle c.object.result c.in-Some.object c.object.ensures.object c.in-Some.is in
    not-idle c.args.self.now.handles c.args.handle o.b o.bound c.args.dirty (λ same. let e : true ≡ false = sym (c.same.ensures.always (ap (λ (x : OpenObject). x.dirty) o.opened ∙ same)) ∙ c.if-same.false in cc) (g.F.Folder.told c.args.folder.now) (g.F.Folder.told c.set_dirty_word.new.folder)

pub returns-in_err-set_dirty_word-clause-untold : goal.returns-in_err-set_dirty_word-clause-untold
returns-in_err-set_dirty_word-clause-untold g c any =
    let o = opened-there c.args.self.now.handles c.args.handle c.object.result c.in-Some.object c.object.ensures.object c.in-Some.is in
    let sets = sets-so c.args.self.now.files (g.F.Folder.told c.args.folder.now) (g.F.Folder.told c.set_dirty_word.new.folder) c.set_dirty_word.result c.in-Some.object _ o.opened c.dirty_word-word.result _ c.dirty_word-word.ensures c.set_dirty_word.ensures.sets in
    carried c.set_dirty_word.result c.from_residual.result c.in_err-set_dirty_word.field-0.0 (λ _. (g.F.Folder.told c.args.folder.now).files ≡ None) c.in_err-set_dirty_word.was c.from_residual.ensures.1
    (sets.untold (node-may c.args.self.now c.args.handle o.b o.bound c.args.dirty (g.F.Folder.told c.args.folder.now) (g.met.F.Folder.are_bytes c.args.folder.now) (c.args.self.now.stand c.args.handle o.b o.bound).0 any))

pub invariant_of-self : goal.invariant_of-self
invariant_of-self g c =
    let o = opened-there c.args.self.now.handles c.args.handle c.object.result c.in-Some.object c.object.ensures.object c.in-Some.is in
    record {
      stand = subst (λ (bs : Bindings). AreBoundAmong c.args.self.now.files bs) (sym (change-is c.args.self.now.handles c.mark.new.self c.args.handle o.b o.bound c.in-Some.object.doomed c.args.dirty c.mark.ensures.marks))
          (change-stands c.args.self.now.files c.args.self.now.handles c.in-Some.object.doomed c.args.dirty o.b.entry c.args.self.now.stand);
      room = c.args.self.now.room;
    }

pub returns-clause-marked : goal.returns-clause-marked
returns-clause-marked g c =
    let o = opened-there c.args.self.now.handles c.args.handle c.object.result c.in-Some.object c.object.ensures.object c.in-Some.is in
    mark-keeps c.args.self.now c.args.handle o.b o.bound c.args.dirty (g.F.Folder.told c.args.folder.now) (g.met.F.Folder.are_bytes c.args.folder.now) (c.args.self.now.stand c.args.handle o.b o.bound).0 (g.F.Folder.told c.set_dirty_word.new.folder) (Ok c.in_ok-set_dirty_word.field-0)
    (sets-so c.args.self.now.files (g.F.Folder.told c.args.folder.now) (g.F.Folder.told c.set_dirty_word.new.folder) (Ok c.in_ok-set_dirty_word.field-0) c.in-Some.object _ o.opened c.dirty_word-word.result _ c.dirty_word-word.ensures c.in_ok-set_dirty_word.ensures.sets)
    (λ P p. p) c.set_dirty_word.ensures.is_open _
    (change-is c.args.self.now.handles c.mark.new.self c.args.handle o.b o.bound c.in-Some.object.doomed c.args.dirty c.mark.ensures.marks ∙ ap (λ (x : OpenObject). with_change (with_status x.doomed c.args.dirty) o.b.entry c.args.self.now.handles) o.opened)
    (record { limits = refl; items = refl; bytes = refl; files = refl; mark = refl; notes = refl }) refl

pub returns-clause-stops : goal.returns-clause-stops
returns-clause-stops g c =
    let o = opened-there c.args.self.now.handles c.args.handle c.object.result c.in-Some.object c.object.ensures.object c.in-Some.is in
    mark-stops c.args.self.now c.args.handle o.b o.bound c.args.dirty (g.F.Folder.told c.args.folder.now) (g.met.F.Folder.are_bytes c.args.folder.now) (c.args.self.now.stand c.args.handle o.b o.bound).0 (g.F.Folder.told c.set_dirty_word.new.folder) c.set_dirty_word.result
    (sets-so c.args.self.now.files (g.F.Folder.told c.args.folder.now) (g.F.Folder.told c.set_dirty_word.new.folder) c.set_dirty_word.result c.in-Some.object _ o.opened c.dirty_word-word.result _ c.dirty_word-word.ensures c.set_dirty_word.ensures.sets)

pub returns-clause-idle : goal.returns-clause-idle
returns-clause-idle g c =
    let o = opened-there c.args.self.now.handles c.args.handle c.object.result c.in-Some.object c.object.ensures.object c.in-Some.is in
    not-idle c.args.self.now.handles c.args.handle o.b o.bound c.args.dirty (λ same. let e : true ≡ false = sym (c.same.ensures.always (ap (λ (x : OpenObject). x.dirty) o.opened ∙ same)) ∙ c.if-same.false in cc) (g.F.Folder.told c.args.folder.now) (g.F.Folder.told c.set_dirty_word.new.folder)
