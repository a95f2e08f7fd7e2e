use Rattle.std.proofs.Common.{◌≡◌, ◌∙◌, ◌++◌, inr, refl, ap, sym, subst, ℕ, List, None, Some, map}
use Rattle.spec_image.specs.Told.{Told}
use Rattle.spec_image.proofs.Runs.{passes_stayed, passes_then, passes_weaker}
use Rattle.blk_io.specs.Faults.{IfDamaged}
use Rattle.blk_io.proofs.Carried.{carried, if_damaged_weaker}
use Rattle.blk_model.specs.Effects.{doomed}
use Rattle.blk_model.specs.Holding.{rest}
use Rattle.blk_model.specs.Items.{part}
use Rattle.spec_folder.specs.Sound.{words_of}
use Rattle.law_state.specs.Changes.{Finds}
use Rattle.blk_stream.proofs.Joined.{told_then}
use Rattle.blk_object.specs.RemovingObjects.{FindsEither}
use Rattle.blk_object.proofs.Sessions.{then-session}
use Rattle.blk_sparse.specs.Dropping.{AreGone, IsWholeDropped}
use Rattle.blk_sparse.proofs.PartsOut.{none-some, stays-passes, stays-there}
use Rattle.blk_sparse.proofs.HeldParents.{held-whole, out-whole}
use Rattle.blk_sparse.proofs.ParentsOut.{all-among, at-rest, has-indexed, main-loads, own-lies, parts-left}
use Rattle.blk_sparse.proofs.parents.doom_parent.Goals as goal

pub returns-in_err-indexed-clause-stops : goal.returns-in_err-indexed-clause-stops
returns-in_err-indexed-clause-stops g c from there state layout unlinked number object m charge =
    stays-passes (g.F.Folder.told c.args.folder.now) (g.F.Folder.told c.read_index.new.folder) from (FindsEither state (doomed number state (Some object))) there c.in_err-indexed.ensures.reads.stays (at-rest state layout unlinked number object c.args.key.now c.args.node c.args.found.now.entry c.args.found.now.before from m)

pub returns-in_err-indexed-clause-is_open : goal.returns-in_err-indexed-clause-is_open
returns-in_err-indexed-clause-is_open g c image is = c.requires.is_open image (ap (λ (t : Told). t.files) (sym c.in_err-indexed.ensures.reads.stays) ∙ is)

pub take_main-requires-clause-is_open : goal.take_main-requires-clause-is_open
take_main-requires-clause-is_open g c image is = c.requires.is_open image (ap (λ (t : Told). t.files) (sym c.in_ok-indexed.ensures.reads.stays) ∙ is)

pub returns-in_err-take_main-clause-stops : goal.returns-in_err-take_main-clause-stops
returns-in_err-take_main-clause-stops g c from there state layout unlinked number object m charge =
    let at = stays-there (g.F.Folder.told c.args.folder.now) (g.F.Folder.told c.read_index.new.folder) from there c.in_ok-indexed.ensures.reads.stays in
    passes_stayed c.in_ok-indexed.ensures.reads.stays (c.in_err-take_main.ensures.stops from at state layout unlinked number object m.kept.entries m.here m.live (own-lies state layout unlinked number object c.args.key.now c.args.node c.args.found.now.entry c.args.found.now.before from m))

pub returns-in_err-take_main-clause-untold : goal.returns-in_err-take_main-clause-untold
returns-in_err-take_main-clause-untold g c from there state layout unlinked number object m charge =
    let at = stays-there (g.F.Folder.told c.args.folder.now) (g.F.Folder.told c.read_index.new.folder) from there c.in_ok-indexed.ensures.reads.stays in
    subst (λ (t : Told). IfDamaged c.from_residual-in_err-take_main.result (λ _. t.files ≡ None)) c.in_ok-indexed.ensures.reads.stays
    (carried c.take_main.result c.from_residual-in_err-take_main.result c.in_err-take_main.field-0.0 (λ _. (g.F.Folder.told c.read_index.new.folder).files ≡ None) c.in_err-take_main.was c.from_residual-in_err-take_main.ensures.1
    (c.take_main.ensures.untold from at state layout unlinked number object m.kept.entries m.here m.live (own-lies state layout unlinked number object c.args.key.now c.args.node c.args.found.now.entry c.args.found.now.before from m)))

pub returns-in_err-parts-clause-stops : goal.returns-in_err-parts-clause-stops
returns-in_err-parts-clause-stops g c from there state layout unlinked number object m charge =
    let at = stays-there (g.F.Folder.told c.args.folder.now) (g.F.Folder.told c.read_index.new.folder) from there c.in_ok-indexed.ensures.reads.stays in
    let going = c.in_ok-take_main.ensures.stops from at state layout unlinked number object m.kept.entries m.here m.live (own-lies state layout unlinked number object c.args.key.now c.args.node c.args.found.now.entry c.args.found.now.before from m) in
    let mid = told_then (g.F.Folder.told c.read_index.new.folder) (g.F.Folder.told c.take_main.new.folder) from (FindsEither state (doomed number state (Some object))) at going in
    let out = c.in_ok-take_main.ensures.out from at state layout unlinked number object m.kept.entries m.here m.live (own-lies state layout unlinked number object c.args.key.now c.args.node c.args.found.now.entry c.args.found.now.before from m) m.kept.counters charge mid.image mid.is in
    let left = parts-left state layout unlinked number object c.args.key.now c.args.node c.args.found.now.entry c.args.found.now.before from m (words_of m.lies.was) mid.image refl out in
    let has = has-indexed state layout unlinked number object c.args.key.now c.args.node c.args.found.now.entry c.args.found.now.before from m c.in_ok-indexed.indexed (c.in_ok-indexed.ensures.signature from there m.lies.was m.index (main-loads state layout unlinked number object c.args.key.now c.args.node c.args.found.now.entry c.args.found.now.before from m) m.role) (c.in_ok-indexed.ensures.none from there m.lies.was m.index (main-loads state layout unlinked number object c.args.key.now c.args.node c.args.found.now.entry c.args.found.now.before from m) m.role) in
    passes_stayed c.in_ok-indexed.ensures.reads.stays (passes_then going (passes_weaker (c.in_err-parts.ensures.stops mid.image mid.is state layout _ _ (words_of m.lies.was ++ unlinked) number object left has) (λ image found. inr found) (λ image found. inr found)))

pub returns-in_err-parts-clause-untold : goal.returns-in_err-parts-clause-untold
returns-in_err-parts-clause-untold g c from there state layout unlinked number object m charge =
    let at = stays-there (g.F.Folder.told c.args.folder.now) (g.F.Folder.told c.read_index.new.folder) from there c.in_ok-indexed.ensures.reads.stays in
    let going = c.in_ok-take_main.ensures.stops from at state layout unlinked number object m.kept.entries m.here m.live (own-lies state layout unlinked number object c.args.key.now c.args.node c.args.found.now.entry c.args.found.now.before from m) in
    let mid = told_then (g.F.Folder.told c.read_index.new.folder) (g.F.Folder.told c.take_main.new.folder) from (FindsEither state (doomed number state (Some object))) at going in
    let out = c.in_ok-take_main.ensures.out from at state layout unlinked number object m.kept.entries m.here m.live (own-lies state layout unlinked number object c.args.key.now c.args.node c.args.found.now.entry c.args.found.now.before from m) m.kept.counters charge mid.image mid.is in
    let left = parts-left state layout unlinked number object c.args.key.now c.args.node c.args.found.now.entry c.args.found.now.before from m (words_of m.lies.was) mid.image refl out in
    let has = has-indexed state layout unlinked number object c.args.key.now c.args.node c.args.found.now.entry c.args.found.now.before from m c.in_ok-indexed.indexed (c.in_ok-indexed.ensures.signature from there m.lies.was m.index (main-loads state layout unlinked number object c.args.key.now c.args.node c.args.found.now.entry c.args.found.now.before from m) m.role) (c.in_ok-indexed.ensures.none from there m.lies.was m.index (main-loads state layout unlinked number object c.args.key.now c.args.node c.args.found.now.entry c.args.found.now.before from m) m.role) in
    carried c.drop_indexed_with.result c.from_residual-in_err-parts.result c.in_err-parts.field-0.0 (λ _. (g.F.Folder.told c.args.folder.now).files ≡ None) c.in_err-parts.was c.from_residual-in_err-parts.ensures.1
    (if_damaged_weaker c.drop_indexed_with.result _ _ (λ damage none. absurd (none-some (sym none ∙ mid.is))) (c.drop_indexed_with.ensures.untold mid.image mid.is state layout _ _ (words_of m.lies.was ++ unlinked) number object left has))

pub returns-in_err-doom_record-clause-stops : goal.returns-in_err-doom_record-clause-stops
returns-in_err-doom_record-clause-stops g c from there state layout unlinked number object m charge =
    let at = stays-there (g.F.Folder.told c.args.folder.now) (g.F.Folder.told c.read_index.new.folder) from there c.in_ok-indexed.ensures.reads.stays in
    let going = c.in_ok-take_main.ensures.stops from at state layout unlinked number object m.kept.entries m.here m.live (own-lies state layout unlinked number object c.args.key.now c.args.node c.args.found.now.entry c.args.found.now.before from m) in
    let mid = told_then (g.F.Folder.told c.read_index.new.folder) (g.F.Folder.told c.take_main.new.folder) from (FindsEither state (doomed number state (Some object))) at going in
    let out = c.in_ok-take_main.ensures.out from at state layout unlinked number object m.kept.entries m.here m.live (own-lies state layout unlinked number object c.args.key.now c.args.node c.args.found.now.entry c.args.found.now.before from m) m.kept.counters charge mid.image mid.is in
    let left = parts-left state layout unlinked number object c.args.key.now c.args.node c.args.found.now.entry c.args.found.now.before from m (words_of m.lies.was) mid.image refl out in
    let has = has-indexed state layout unlinked number object c.args.key.now c.args.node c.args.found.now.entry c.args.found.now.before from m c.in_ok-indexed.indexed (c.in_ok-indexed.ensures.signature from there m.lies.was m.index (main-loads state layout unlinked number object c.args.key.now c.args.node c.args.found.now.entry c.args.found.now.before from m) m.role) (c.in_ok-indexed.ensures.none from there m.lies.was m.index (main-loads state layout unlinked number object c.args.key.now c.args.node c.args.found.now.entry c.args.found.now.before from m) m.role) in
    let dropping = c.in_ok-parts.ensures.stops mid.image mid.is state layout _ _ (words_of m.lies.was ++ unlinked) number object left has in
    let end = told_then (g.F.Folder.told c.take_main.new.folder) (g.F.Folder.told c.drop_indexed_with.new.folder) mid.image (Finds (rest (doomed number state (Some object)))) mid.is dropping in
    let kept = c.in_ok-parts.ensures.keeps mid.image mid.is state layout _ _ (words_of m.lies.was ++ unlinked) number object left has end.image end.is in
    let whole = subst (λ (k : List ℕ). IsWholeDropped state layout (words_of m.lies.was ++ unlinked) k end.image) (sym m.of_key) (c.in_ok-parts.ensures.out mid.image mid.is state layout _ _ (words_of m.lies.was ++ unlinked) number object left has end.image end.is) in
    let ready = out-whole state layout unlinked number object c.args.key.now c.args.node c.args.found.now.entry c.args.found.now.before from m mid.image out end.image kept whole in
    passes_stayed c.in_ok-indexed.ensures.reads.stays (passes_then going (passes_weaker (passes_then dropping (c.in_err-doom_record.ensures.stops end.image end.is state layout number object m.lies.was whole.chains unlinked ready)) (λ image found. inr found) (λ image found. inr found)))

pub returns-in_err-doom_record-clause-untold : goal.returns-in_err-doom_record-clause-untold
returns-in_err-doom_record-clause-untold g c from there state layout unlinked number object m charge =
    let at = stays-there (g.F.Folder.told c.args.folder.now) (g.F.Folder.told c.read_index.new.folder) from there c.in_ok-indexed.ensures.reads.stays in
    let going = c.in_ok-take_main.ensures.stops from at state layout unlinked number object m.kept.entries m.here m.live (own-lies state layout unlinked number object c.args.key.now c.args.node c.args.found.now.entry c.args.found.now.before from m) in
    let mid = told_then (g.F.Folder.told c.read_index.new.folder) (g.F.Folder.told c.take_main.new.folder) from (FindsEither state (doomed number state (Some object))) at going in
    let out = c.in_ok-take_main.ensures.out from at state layout unlinked number object m.kept.entries m.here m.live (own-lies state layout unlinked number object c.args.key.now c.args.node c.args.found.now.entry c.args.found.now.before from m) m.kept.counters charge mid.image mid.is in
    let left = parts-left state layout unlinked number object c.args.key.now c.args.node c.args.found.now.entry c.args.found.now.before from m (words_of m.lies.was) mid.image refl out in
    let has = has-indexed state layout unlinked number object c.args.key.now c.args.node c.args.found.now.entry c.args.found.now.before from m c.in_ok-indexed.indexed (c.in_ok-indexed.ensures.signature from there m.lies.was m.index (main-loads state layout unlinked number object c.args.key.now c.args.node c.args.found.now.entry c.args.found.now.before from m) m.role) (c.in_ok-indexed.ensures.none from there m.lies.was m.index (main-loads state layout unlinked number object c.args.key.now c.args.node c.args.found.now.entry c.args.found.now.before from m) m.role) in
    let dropping = c.in_ok-parts.ensures.stops mid.image mid.is state layout _ _ (words_of m.lies.was ++ unlinked) number object left has in
    let end = told_then (g.F.Folder.told c.take_main.new.folder) (g.F.Folder.told c.drop_indexed_with.new.folder) mid.image (Finds (rest (doomed number state (Some object)))) mid.is dropping in
    let kept = c.in_ok-parts.ensures.keeps mid.image mid.is state layout _ _ (words_of m.lies.was ++ unlinked) number object left has end.image end.is in
    let whole = subst (λ (k : List ℕ). IsWholeDropped state layout (words_of m.lies.was ++ unlinked) k end.image) (sym m.of_key) (c.in_ok-parts.ensures.out mid.image mid.is state layout _ _ (words_of m.lies.was ++ unlinked) number object left has end.image end.is) in
    let ready = out-whole state layout unlinked number object c.args.key.now c.args.node c.args.found.now.entry c.args.found.now.before from m mid.image out end.image kept whole in
    carried c.doom_record.result c.from_residual-in_err-doom_record.result c.in_err-doom_record.field-0.0 (λ _. (g.F.Folder.told c.args.folder.now).files ≡ None) c.in_err-doom_record.was c.from_residual-in_err-doom_record.ensures.1
    (if_damaged_weaker c.doom_record.result _ _ (λ damage none. absurd (none-some (sym none ∙ end.is))) (c.doom_record.ensures.untold end.image end.is state layout number object m.lies.was whole.chains unlinked ready))

pub returns-clause-doomed : goal.returns-clause-doomed
returns-clause-doomed g c from there state layout unlinked number object m charge last is =
    let at = stays-there (g.F.Folder.told c.args.folder.now) (g.F.Folder.told c.read_index.new.folder) from there c.in_ok-indexed.ensures.reads.stays in
    let going = c.in_ok-take_main.ensures.stops from at state layout unlinked number object m.kept.entries m.here m.live (own-lies state layout unlinked number object c.args.key.now c.args.node c.args.found.now.entry c.args.found.now.before from m) in
    let mid = told_then (g.F.Folder.told c.read_index.new.folder) (g.F.Folder.told c.take_main.new.folder) from (FindsEither state (doomed number state (Some object))) at going in
    let out = c.in_ok-take_main.ensures.out from at state layout unlinked number object m.kept.entries m.here m.live (own-lies state layout unlinked number object c.args.key.now c.args.node c.args.found.now.entry c.args.found.now.before from m) m.kept.counters charge mid.image mid.is in
    let left = parts-left state layout unlinked number object c.args.key.now c.args.node c.args.found.now.entry c.args.found.now.before from m (words_of m.lies.was) mid.image refl out in
    let has = has-indexed state layout unlinked number object c.args.key.now c.args.node c.args.found.now.entry c.args.found.now.before from m c.in_ok-indexed.indexed (c.in_ok-indexed.ensures.signature from there m.lies.was m.index (main-loads state layout unlinked number object c.args.key.now c.args.node c.args.found.now.entry c.args.found.now.before from m) m.role) (c.in_ok-indexed.ensures.none from there m.lies.was m.index (main-loads state layout unlinked number object c.args.key.now c.args.node c.args.found.now.entry c.args.found.now.before from m) m.role) in
    let dropping = c.in_ok-parts.ensures.stops mid.image mid.is state layout _ _ (words_of m.lies.was ++ unlinked) number object left has in
    let end = told_then (g.F.Folder.told c.take_main.new.folder) (g.F.Folder.told c.drop_indexed_with.new.folder) mid.image (Finds (rest (doomed number state (Some object)))) mid.is dropping in
    let kept = c.in_ok-parts.ensures.keeps mid.image mid.is state layout _ _ (words_of m.lies.was ++ unlinked) number object left has end.image end.is in
    let whole = subst (λ (k : List ℕ). IsWholeDropped state layout (words_of m.lies.was ++ unlinked) k end.image) (sym m.of_key) (c.in_ok-parts.ensures.out mid.image mid.is state layout _ _ (words_of m.lies.was ++ unlinked) number object left has end.image end.is) in
    let ready = out-whole state layout unlinked number object c.args.key.now c.args.node c.args.found.now.entry c.args.found.now.before from m mid.image out end.image kept whole in
    held-whole state layout unlinked number object c.args.key.now c.args.node c.args.found.now.entry c.args.found.now.before from m mid.image out end.image kept whole last (c.in_ok-doom_record.ensures.doomed end.image end.is state layout number object m.lies.was whole.chains unlinked ready last is)

pub returns-clause-gone : goal.returns-clause-gone
returns-clause-gone g c from there state layout unlinked number object m charge =
    let at = stays-there (g.F.Folder.told c.args.folder.now) (g.F.Folder.told c.read_index.new.folder) from there c.in_ok-indexed.ensures.reads.stays in
    let going = c.in_ok-take_main.ensures.stops from at state layout unlinked number object m.kept.entries m.here m.live (own-lies state layout unlinked number object c.args.key.now c.args.node c.args.found.now.entry c.args.found.now.before from m) in
    let mid = told_then (g.F.Folder.told c.read_index.new.folder) (g.F.Folder.told c.take_main.new.folder) from (FindsEither state (doomed number state (Some object))) at going in
    let out = c.in_ok-take_main.ensures.out from at state layout unlinked number object m.kept.entries m.here m.live (own-lies state layout unlinked number object c.args.key.now c.args.node c.args.found.now.entry c.args.found.now.before from m) m.kept.counters charge mid.image mid.is in
    let left = parts-left state layout unlinked number object c.args.key.now c.args.node c.args.found.now.entry c.args.found.now.before from m (words_of m.lies.was) mid.image refl out in
    let has = has-indexed state layout unlinked number object c.args.key.now c.args.node c.args.found.now.entry c.args.found.now.before from m c.in_ok-indexed.indexed (c.in_ok-indexed.ensures.signature from there m.lies.was m.index (main-loads state layout unlinked number object c.args.key.now c.args.node c.args.found.now.entry c.args.found.now.before from m) m.role) (c.in_ok-indexed.ensures.none from there m.lies.was m.index (main-loads state layout unlinked number object c.args.key.now c.args.node c.args.found.now.entry c.args.found.now.before from m) m.role) in
    subst (λ (ns : List ℕ). AreGone layout (map (part c.args.key.now) ns) c.in_ok-parts.parts) (all-among c.args.key.now object.key state.uses) (c.in_ok-parts.ensures.gone mid.image mid.is state layout _ _ (words_of m.lies.was ++ unlinked) number object left has)

pub returns-clause-session : goal.returns-clause-session
returns-clause-session g c from there state layout unlinked number object m charge last is =
    let at = stays-there (g.F.Folder.told c.args.folder.now) (g.F.Folder.told c.read_index.new.folder) from there c.in_ok-indexed.ensures.reads.stays in
    let going = c.in_ok-take_main.ensures.stops from at state layout unlinked number object m.kept.entries m.here m.live (own-lies state layout unlinked number object c.args.key.now c.args.node c.args.found.now.entry c.args.found.now.before from m) in
    let mid = told_then (g.F.Folder.told c.read_index.new.folder) (g.F.Folder.told c.take_main.new.folder) from (FindsEither state (doomed number state (Some object))) at going in
    let out = c.in_ok-take_main.ensures.out from at state layout unlinked number object m.kept.entries m.here m.live (own-lies state layout unlinked number object c.args.key.now c.args.node c.args.found.now.entry c.args.found.now.before from m) m.kept.counters charge mid.image mid.is in
    let left = parts-left state layout unlinked number object c.args.key.now c.args.node c.args.found.now.entry c.args.found.now.before from m (words_of m.lies.was) mid.image refl out in
    let has = has-indexed state layout unlinked number object c.args.key.now c.args.node c.args.found.now.entry c.args.found.now.before from m c.in_ok-indexed.indexed (c.in_ok-indexed.ensures.signature from there m.lies.was m.index (main-loads state layout unlinked number object c.args.key.now c.args.node c.args.found.now.entry c.args.found.now.before from m) m.role) (c.in_ok-indexed.ensures.none from there m.lies.was m.index (main-loads state layout unlinked number object c.args.key.now c.args.node c.args.found.now.entry c.args.found.now.before from m) m.role) in
    let dropping = c.in_ok-parts.ensures.stops mid.image mid.is state layout _ _ (words_of m.lies.was ++ unlinked) number object left has in
    let end = told_then (g.F.Folder.told c.take_main.new.folder) (g.F.Folder.told c.drop_indexed_with.new.folder) mid.image (Finds (rest (doomed number state (Some object)))) mid.is dropping in
    let kept = c.in_ok-parts.ensures.keeps mid.image mid.is state layout _ _ (words_of m.lies.was ++ unlinked) number object left has end.image end.is in
    let whole = subst (λ (k : List ℕ). IsWholeDropped state layout (words_of m.lies.was ++ unlinked) k end.image) (sym m.of_key) (c.in_ok-parts.ensures.out mid.image mid.is state layout _ _ (words_of m.lies.was ++ unlinked) number object left has end.image end.is) in
    let ready = out-whole state layout unlinked number object c.args.key.now c.args.node c.args.found.now.entry c.args.found.now.before from m mid.image out end.image kept whole in
    then-session from mid.image last (c.in_ok-take_main.ensures.session from at state layout unlinked number object m.kept.entries m.here m.live (own-lies state layout unlinked number object c.args.key.now c.args.node c.args.found.now.entry c.args.found.now.before from m) mid.image mid.is)
    (then-session mid.image end.image last (c.in_ok-parts.ensures.session mid.image mid.is state layout _ _ (words_of m.lies.was ++ unlinked) number object left has end.image end.is) (c.in_ok-doom_record.ensures.doomed end.image end.is state layout number object m.lies.was whole.chains unlinked ready last is).session)

pub returns-clause-stops : goal.returns-clause-stops
returns-clause-stops g c from there state layout unlinked number object m charge =
    let at = stays-there (g.F.Folder.told c.args.folder.now) (g.F.Folder.told c.read_index.new.folder) from there c.in_ok-indexed.ensures.reads.stays in
    let going = c.in_ok-take_main.ensures.stops from at state layout unlinked number object m.kept.entries m.here m.live (own-lies state layout unlinked number object c.args.key.now c.args.node c.args.found.now.entry c.args.found.now.before from m) in
    let mid = told_then (g.F.Folder.told c.read_index.new.folder) (g.F.Folder.told c.take_main.new.folder) from (FindsEither state (doomed number state (Some object))) at going in
    let out = c.in_ok-take_main.ensures.out from at state layout unlinked number object m.kept.entries m.here m.live (own-lies state layout unlinked number object c.args.key.now c.args.node c.args.found.now.entry c.args.found.now.before from m) m.kept.counters charge mid.image mid.is in
    let left = parts-left state layout unlinked number object c.args.key.now c.args.node c.args.found.now.entry c.args.found.now.before from m (words_of m.lies.was) mid.image refl out in
    let has = has-indexed state layout unlinked number object c.args.key.now c.args.node c.args.found.now.entry c.args.found.now.before from m c.in_ok-indexed.indexed (c.in_ok-indexed.ensures.signature from there m.lies.was m.index (main-loads state layout unlinked number object c.args.key.now c.args.node c.args.found.now.entry c.args.found.now.before from m) m.role) (c.in_ok-indexed.ensures.none from there m.lies.was m.index (main-loads state layout unlinked number object c.args.key.now c.args.node c.args.found.now.entry c.args.found.now.before from m) m.role) in
    let dropping = c.in_ok-parts.ensures.stops mid.image mid.is state layout _ _ (words_of m.lies.was ++ unlinked) number object left has in
    let end = told_then (g.F.Folder.told c.take_main.new.folder) (g.F.Folder.told c.drop_indexed_with.new.folder) mid.image (Finds (rest (doomed number state (Some object)))) mid.is dropping in
    let kept = c.in_ok-parts.ensures.keeps mid.image mid.is state layout _ _ (words_of m.lies.was ++ unlinked) number object left has end.image end.is in
    let whole = subst (λ (k : List ℕ). IsWholeDropped state layout (words_of m.lies.was ++ unlinked) k end.image) (sym m.of_key) (c.in_ok-parts.ensures.out mid.image mid.is state layout _ _ (words_of m.lies.was ++ unlinked) number object left has end.image end.is) in
    let ready = out-whole state layout unlinked number object c.args.key.now c.args.node c.args.found.now.entry c.args.found.now.before from m mid.image out end.image kept whole in
    passes_stayed c.in_ok-indexed.ensures.reads.stays (passes_then going (passes_weaker (passes_then dropping (c.in_ok-doom_record.ensures.stops end.image end.is state layout number object m.lies.was whole.chains unlinked ready)) (λ image found. inr found) (λ image found. inr found)))
