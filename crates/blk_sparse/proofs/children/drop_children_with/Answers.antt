use Rattle.std.proofs.Common.{◌≡◌, ◌∙◌, ap, sym, subst, arith, ℕ, List, None, Some, take, length}
use Rattle.std.specs.Prelude.{filter}
use Rattle.std.specs.Int.{cast_unsigned, w64}
use Rattle.std.specs.List.{FoldsTo}
use Rattle.std.specs.Option.{ForSome}
use Rattle.std.proofs.lemmas.Int.{of_z-to_z}
use Rattle.std.proofs.lemmas.List.{length-map, take-take}
use Rattle.spec_image.specs.Told.{Told}
use Rattle.spec_image.proofs.Runs.{passes_stayed, some_inj}
use Rattle.blk_io.specs.Faults.{IfDamaged}
use Rattle.blk_io.proofs.Carried.{carried}
use Rattle.blk_model.specs.Effects.{doomed}
use Rattle.blk_model.specs.Holding.{rest}
use Rattle.blk_model.specs.Items.{part}
use Rattle.blk_model.specs.Room.{parts_among}
use Rattle.law_state.specs.Changes.{Finds}
use Rattle.blk_sparse.specs.Children.{HasParentKey}
use Rattle.blk_sparse.specs.Dropping.{IsCalledOverPrefix, IsWholeDropped}
use Rattle.blk_sparse.specs.Parents.{LoadsAsParent}
use Rattle.blk_sparse.proofs.ChildrenOut.{has-key, indexed-so, left-so, loads-parent}
use Rattle.blk_sparse.proofs.ParentsOut.{not-yet}
use Rattle.blk_sparse.proofs.PartsOut.{left-finds, stays-passes, stays-there}
use Rattle.blk_sparse.proofs.children.drop_children_with.Goals as goal

pub returns-in_err-len-clause-front : goal.returns-in_err-len-clause-front
returns-in_err-len-clause-front g c from there state layout keep chains unlinked number object p =
    not-yet _ _ (parts_among object.key (filter keep state.uses)) c.args.each.now

pub returns-in_err-len-clause-stops : goal.returns-in_err-len-clause-stops
returns-in_err-len-clause-stops g c from there state layout keep chains unlinked number object p =
    stays-passes (g.F.Folder.told c.args.folder.now) (g.F.Folder.told c.read_parent.new.folder) from (Finds (rest (doomed number state (Some object)))) there c.in_err-len.ensures.reads.stays (left-finds state layout keep chains unlinked object.key number object from p.left)

pub returns-in_err-len-clause-is_open : goal.returns-in_err-len-clause-is_open
returns-in_err-len-clause-is_open g c image is =
    c.requires.is_open image (ap (λ (t : Told). t.files) (sym c.in_err-len.ensures.reads.stays) ∙ is)

pub returns-in_err-len-clause-untold : goal.returns-in_err-len-clause-untold
returns-in_err-len-clause-untold g c from there state layout keep chains unlinked number object p =
    carried c.read_parent.result c.from_residual.result c.in_err-len.field-0.0 (λ _. (g.F.Folder.told c.args.folder.now).files ≡ None) c.in_err-len.was c.from_residual.ensures.1
    (c.read_parent.ensures.untold (λ image is. (c.requires.is_open image is).agrees) (λ image is. (object.key, subst (HasParentKey c.args.parent.now.entry object.key) (some_inj (sym there ∙ is)) (has-key state layout keep chains unlinked number object c.args.parent.now.node c.args.parent.now.entry (cast_unsigned w64 c.args.parent.now.signature) from p))) (λ image is. subst (LoadsAsParent c.args.parent.now.entry) (some_inj (sym there ∙ is)) (loads-parent state layout keep chains unlinked number object c.args.parent.now.node c.args.parent.now.entry (cast_unsigned w64 c.args.parent.now.signature) from p)))

pub drop_indexed_with-requires-clause-is_open : goal.drop_indexed_with-requires-clause-is_open
drop_indexed_with-requires-clause-is_open g c image is =
    c.requires.is_open image (ap (λ (t : Told). t.files) (sym c.in_ok-len.ensures.reads.stays) ∙ is)

pub returns-in_err-gone-clause-front : goal.returns-in_err-gone-clause-front
returns-in_err-gone-clause-front g c from there state layout keep chains unlinked number object p =
    let at = stays-there (g.F.Folder.told c.args.folder.now) (g.F.Folder.told c.read_parent.new.folder) from there c.in_ok-len.ensures.reads.stays in
    let same : (take c.in_ok-len.len c.split_at_mut-key.result.0.now) ≡ object.key = ap (take c.in_ok-len.len) c.split_at_mut-key.ensures.front ∙ take-take c.in_ok-len.len 32768 c.read_parent.new.name c.in_ok-len.ensures.short ∙ c.in_ok-len.ensures.key from there object.key (has-key state layout keep chains unlinked number object c.args.parent.now.node c.args.parent.now.entry (cast_unsigned w64 c.args.parent.now.signature) from p) in
    let left = left-so state layout keep chains unlinked number object c.args.parent.now.node c.args.parent.now.entry (cast_unsigned w64 c.args.parent.now.signature) from p (take c.in_ok-len.len c.split_at_mut-key.result.0.now) same in
    let has = indexed-so state layout keep chains unlinked number object c.args.parent.now.node c.args.parent.now.entry (cast_unsigned w64 c.args.parent.now.signature) from p (take c.in_ok-len.len c.split_at_mut-key.result.0.now) (record { signature = _; any = c.in_ok-len.any }) same (of_z-to_z w64 (cast_unsigned w64 c.args.parent.now.signature) (let small = c.requires.signature in omega (arith, small))) (c.in_ok-len.ensures.none from there p.parent.was p.parent.index p.loads p.parent.role) in
    subst (λ (k : List ℕ). IsCalledOverPrefix _ (λ p x q. goal.E-step g p x tt q) (parts_among k (filter keep state.uses)) c.args.each.now c.drop_indexed_with.new.each) same (c.in_err-gone.ensures.front from at state layout keep chains unlinked number object left has)

pub returns-in_err-gone-clause-stops : goal.returns-in_err-gone-clause-stops
returns-in_err-gone-clause-stops g c from there state layout keep chains unlinked number object p =
    let at = stays-there (g.F.Folder.told c.args.folder.now) (g.F.Folder.told c.read_parent.new.folder) from there c.in_ok-len.ensures.reads.stays in
    let same : (take c.in_ok-len.len c.split_at_mut-key.result.0.now) ≡ object.key = ap (take c.in_ok-len.len) c.split_at_mut-key.ensures.front ∙ take-take c.in_ok-len.len 32768 c.read_parent.new.name c.in_ok-len.ensures.short ∙ c.in_ok-len.ensures.key from there object.key (has-key state layout keep chains unlinked number object c.args.parent.now.node c.args.parent.now.entry (cast_unsigned w64 c.args.parent.now.signature) from p) in
    let left = left-so state layout keep chains unlinked number object c.args.parent.now.node c.args.parent.now.entry (cast_unsigned w64 c.args.parent.now.signature) from p (take c.in_ok-len.len c.split_at_mut-key.result.0.now) same in
    let has = indexed-so state layout keep chains unlinked number object c.args.parent.now.node c.args.parent.now.entry (cast_unsigned w64 c.args.parent.now.signature) from p (take c.in_ok-len.len c.split_at_mut-key.result.0.now) (record { signature = _; any = c.in_ok-len.any }) same (of_z-to_z w64 (cast_unsigned w64 c.args.parent.now.signature) (let small = c.requires.signature in omega (arith, small))) (c.in_ok-len.ensures.none from there p.parent.was p.parent.index p.loads p.parent.role) in
    passes_stayed c.in_ok-len.ensures.reads.stays (c.in_err-gone.ensures.stops from at state layout keep chains unlinked number object left has)

pub returns-in_err-gone-clause-untold : goal.returns-in_err-gone-clause-untold
returns-in_err-gone-clause-untold g c from there state layout keep chains unlinked number object p =
    let at = stays-there (g.F.Folder.told c.args.folder.now) (g.F.Folder.told c.read_parent.new.folder) from there c.in_ok-len.ensures.reads.stays in
    let same : (take c.in_ok-len.len c.split_at_mut-key.result.0.now) ≡ object.key = ap (take c.in_ok-len.len) c.split_at_mut-key.ensures.front ∙ take-take c.in_ok-len.len 32768 c.read_parent.new.name c.in_ok-len.ensures.short ∙ c.in_ok-len.ensures.key from there object.key (has-key state layout keep chains unlinked number object c.args.parent.now.node c.args.parent.now.entry (cast_unsigned w64 c.args.parent.now.signature) from p) in
    let left = left-so state layout keep chains unlinked number object c.args.parent.now.node c.args.parent.now.entry (cast_unsigned w64 c.args.parent.now.signature) from p (take c.in_ok-len.len c.split_at_mut-key.result.0.now) same in
    let has = indexed-so state layout keep chains unlinked number object c.args.parent.now.node c.args.parent.now.entry (cast_unsigned w64 c.args.parent.now.signature) from p (take c.in_ok-len.len c.split_at_mut-key.result.0.now) (record { signature = _; any = c.in_ok-len.any }) same (of_z-to_z w64 (cast_unsigned w64 c.args.parent.now.signature) (let small = c.requires.signature in omega (arith, small))) (c.in_ok-len.ensures.none from there p.parent.was p.parent.index p.loads p.parent.role) in
    subst (λ (t : Told). IfDamaged c.from_residual-in_err-gone.result (λ _. t.files ≡ None)) c.in_ok-len.ensures.reads.stays
    (carried c.drop_indexed_with.result c.from_residual-in_err-gone.result c.in_err-gone.field-0.0 (λ _. (g.F.Folder.told c.read_parent.new.folder).files ≡ None) c.in_err-gone.was c.from_residual-in_err-gone.ensures.1
    (c.drop_indexed_with.ensures.untold from at state layout keep chains unlinked number object left has))

pub returns-clause-out : goal.returns-clause-out
returns-clause-out g c from there state layout keep chains unlinked number object p =
    let at = stays-there (g.F.Folder.told c.args.folder.now) (g.F.Folder.told c.read_parent.new.folder) from there c.in_ok-len.ensures.reads.stays in
    let same : (take c.in_ok-len.len c.split_at_mut-key.result.0.now) ≡ object.key = ap (take c.in_ok-len.len) c.split_at_mut-key.ensures.front ∙ take-take c.in_ok-len.len 32768 c.read_parent.new.name c.in_ok-len.ensures.short ∙ c.in_ok-len.ensures.key from there object.key (has-key state layout keep chains unlinked number object c.args.parent.now.node c.args.parent.now.entry (cast_unsigned w64 c.args.parent.now.signature) from p) in
    let left = left-so state layout keep chains unlinked number object c.args.parent.now.node c.args.parent.now.entry (cast_unsigned w64 c.args.parent.now.signature) from p (take c.in_ok-len.len c.split_at_mut-key.result.0.now) same in
    let has = indexed-so state layout keep chains unlinked number object c.args.parent.now.node c.args.parent.now.entry (cast_unsigned w64 c.args.parent.now.signature) from p (take c.in_ok-len.len c.split_at_mut-key.result.0.now) (record { signature = _; any = c.in_ok-len.any }) same (of_z-to_z w64 (cast_unsigned w64 c.args.parent.now.signature) (let small = c.requires.signature in omega (arith, small))) (c.in_ok-len.ensures.none from there p.parent.was p.parent.index p.loads p.parent.role) in
    subst (λ (k : List ℕ). ForSome (g.F.Folder.told c.drop_indexed_with.new.folder).files (IsWholeDropped state layout unlinked k)) same (c.in_ok-gone.ensures.out from at state layout keep chains unlinked number object left has)

pub returns-clause-count : goal.returns-clause-count
returns-clause-count g c from there state layout keep chains unlinked number object p =
    let at = stays-there (g.F.Folder.told c.args.folder.now) (g.F.Folder.told c.read_parent.new.folder) from there c.in_ok-len.ensures.reads.stays in
    let same : (take c.in_ok-len.len c.split_at_mut-key.result.0.now) ≡ object.key = ap (take c.in_ok-len.len) c.split_at_mut-key.ensures.front ∙ take-take c.in_ok-len.len 32768 c.read_parent.new.name c.in_ok-len.ensures.short ∙ c.in_ok-len.ensures.key from there object.key (has-key state layout keep chains unlinked number object c.args.parent.now.node c.args.parent.now.entry (cast_unsigned w64 c.args.parent.now.signature) from p) in
    let left = left-so state layout keep chains unlinked number object c.args.parent.now.node c.args.parent.now.entry (cast_unsigned w64 c.args.parent.now.signature) from p (take c.in_ok-len.len c.split_at_mut-key.result.0.now) same in
    let has = indexed-so state layout keep chains unlinked number object c.args.parent.now.node c.args.parent.now.entry (cast_unsigned w64 c.args.parent.now.signature) from p (take c.in_ok-len.len c.split_at_mut-key.result.0.now) (record { signature = _; any = c.in_ok-len.any }) same (of_z-to_z w64 (cast_unsigned w64 c.args.parent.now.signature) (let small = c.requires.signature in omega (arith, small))) (c.in_ok-len.ensures.none from there p.parent.was p.parent.index p.loads p.parent.role) in
    (c.in_ok-gone.ensures.gone from at state layout keep chains unlinked number object left has).many ∙ length-map (parts_among (take c.in_ok-len.len c.split_at_mut-key.result.0.now) (filter keep state.uses)) (part (take c.in_ok-len.len c.split_at_mut-key.result.0.now)) ∙ ap (λ (k : List ℕ). length (parts_among k (filter keep state.uses))) same

pub returns-clause-session : goal.returns-clause-session
returns-clause-session g c from there state layout keep chains unlinked number object p =
    let at = stays-there (g.F.Folder.told c.args.folder.now) (g.F.Folder.told c.read_parent.new.folder) from there c.in_ok-len.ensures.reads.stays in
    let same : (take c.in_ok-len.len c.split_at_mut-key.result.0.now) ≡ object.key = ap (take c.in_ok-len.len) c.split_at_mut-key.ensures.front ∙ take-take c.in_ok-len.len 32768 c.read_parent.new.name c.in_ok-len.ensures.short ∙ c.in_ok-len.ensures.key from there object.key (has-key state layout keep chains unlinked number object c.args.parent.now.node c.args.parent.now.entry (cast_unsigned w64 c.args.parent.now.signature) from p) in
    let left = left-so state layout keep chains unlinked number object c.args.parent.now.node c.args.parent.now.entry (cast_unsigned w64 c.args.parent.now.signature) from p (take c.in_ok-len.len c.split_at_mut-key.result.0.now) same in
    let has = indexed-so state layout keep chains unlinked number object c.args.parent.now.node c.args.parent.now.entry (cast_unsigned w64 c.args.parent.now.signature) from p (take c.in_ok-len.len c.split_at_mut-key.result.0.now) (record { signature = _; any = c.in_ok-len.any }) same (of_z-to_z w64 (cast_unsigned w64 c.args.parent.now.signature) (let small = c.requires.signature in omega (arith, small))) (c.in_ok-len.ensures.none from there p.parent.was p.parent.index p.loads p.parent.role) in
    c.in_ok-gone.ensures.session from at state layout keep chains unlinked number object left has

pub returns-clause-keeps : goal.returns-clause-keeps
returns-clause-keeps g c from there state layout keep chains unlinked number object p =
    let at = stays-there (g.F.Folder.told c.args.folder.now) (g.F.Folder.told c.read_parent.new.folder) from there c.in_ok-len.ensures.reads.stays in
    let same : (take c.in_ok-len.len c.split_at_mut-key.result.0.now) ≡ object.key = ap (take c.in_ok-len.len) c.split_at_mut-key.ensures.front ∙ take-take c.in_ok-len.len 32768 c.read_parent.new.name c.in_ok-len.ensures.short ∙ c.in_ok-len.ensures.key from there object.key (has-key state layout keep chains unlinked number object c.args.parent.now.node c.args.parent.now.entry (cast_unsigned w64 c.args.parent.now.signature) from p) in
    let left = left-so state layout keep chains unlinked number object c.args.parent.now.node c.args.parent.now.entry (cast_unsigned w64 c.args.parent.now.signature) from p (take c.in_ok-len.len c.split_at_mut-key.result.0.now) same in
    let has = indexed-so state layout keep chains unlinked number object c.args.parent.now.node c.args.parent.now.entry (cast_unsigned w64 c.args.parent.now.signature) from p (take c.in_ok-len.len c.split_at_mut-key.result.0.now) (record { signature = _; any = c.in_ok-len.any }) same (of_z-to_z w64 (cast_unsigned w64 c.args.parent.now.signature) (let small = c.requires.signature in omega (arith, small))) (c.in_ok-len.ensures.none from there p.parent.was p.parent.index p.loads p.parent.role) in
    c.in_ok-gone.ensures.keeps from at state layout keep chains unlinked number object left has

pub returns-clause-each : goal.returns-clause-each
returns-clause-each g c from there state layout keep chains unlinked number object p =
    let at = stays-there (g.F.Folder.told c.args.folder.now) (g.F.Folder.told c.read_parent.new.folder) from there c.in_ok-len.ensures.reads.stays in
    let same : (take c.in_ok-len.len c.split_at_mut-key.result.0.now) ≡ object.key = ap (take c.in_ok-len.len) c.split_at_mut-key.ensures.front ∙ take-take c.in_ok-len.len 32768 c.read_parent.new.name c.in_ok-len.ensures.short ∙ c.in_ok-len.ensures.key from there object.key (has-key state layout keep chains unlinked number object c.args.parent.now.node c.args.parent.now.entry (cast_unsigned w64 c.args.parent.now.signature) from p) in
    let left = left-so state layout keep chains unlinked number object c.args.parent.now.node c.args.parent.now.entry (cast_unsigned w64 c.args.parent.now.signature) from p (take c.in_ok-len.len c.split_at_mut-key.result.0.now) same in
    let has = indexed-so state layout keep chains unlinked number object c.args.parent.now.node c.args.parent.now.entry (cast_unsigned w64 c.args.parent.now.signature) from p (take c.in_ok-len.len c.split_at_mut-key.result.0.now) (record { signature = _; any = c.in_ok-len.any }) same (of_z-to_z w64 (cast_unsigned w64 c.args.parent.now.signature) (let small = c.requires.signature in omega (arith, small))) (c.in_ok-len.ensures.none from there p.parent.was p.parent.index p.loads p.parent.role) in
    subst (λ (k : List ℕ). FoldsTo (λ p x q. goal.E-step g p x tt q) c.args.each.now (parts_among k (filter keep state.uses)) c.drop_indexed_with.new.each) same (c.in_ok-gone.ensures.each from at state layout keep chains unlinked number object left has)

pub returns-clause-front : goal.returns-clause-front
returns-clause-front g c from there state layout keep chains unlinked number object p =
    let at = stays-there (g.F.Folder.told c.args.folder.now) (g.F.Folder.told c.read_parent.new.folder) from there c.in_ok-len.ensures.reads.stays in
    let same : (take c.in_ok-len.len c.split_at_mut-key.result.0.now) ≡ object.key = ap (take c.in_ok-len.len) c.split_at_mut-key.ensures.front ∙ take-take c.in_ok-len.len 32768 c.read_parent.new.name c.in_ok-len.ensures.short ∙ c.in_ok-len.ensures.key from there object.key (has-key state layout keep chains unlinked number object c.args.parent.now.node c.args.parent.now.entry (cast_unsigned w64 c.args.parent.now.signature) from p) in
    let left = left-so state layout keep chains unlinked number object c.args.parent.now.node c.args.parent.now.entry (cast_unsigned w64 c.args.parent.now.signature) from p (take c.in_ok-len.len c.split_at_mut-key.result.0.now) same in
    let has = indexed-so state layout keep chains unlinked number object c.args.parent.now.node c.args.parent.now.entry (cast_unsigned w64 c.args.parent.now.signature) from p (take c.in_ok-len.len c.split_at_mut-key.result.0.now) (record { signature = _; any = c.in_ok-len.any }) same (of_z-to_z w64 (cast_unsigned w64 c.args.parent.now.signature) (let small = c.requires.signature in omega (arith, small))) (c.in_ok-len.ensures.none from there p.parent.was p.parent.index p.loads p.parent.role) in
    subst (λ (k : List ℕ). IsCalledOverPrefix _ (λ p x q. goal.E-step g p x tt q) (parts_among k (filter keep state.uses)) c.args.each.now c.drop_indexed_with.new.each) same (c.in_ok-gone.ensures.front from at state layout keep chains unlinked number object left has)

pub returns-clause-stops : goal.returns-clause-stops
returns-clause-stops g c from there state layout keep chains unlinked number object p =
    let at = stays-there (g.F.Folder.told c.args.folder.now) (g.F.Folder.told c.read_parent.new.folder) from there c.in_ok-len.ensures.reads.stays in
    let same : (take c.in_ok-len.len c.split_at_mut-key.result.0.now) ≡ object.key = ap (take c.in_ok-len.len) c.split_at_mut-key.ensures.front ∙ take-take c.in_ok-len.len 32768 c.read_parent.new.name c.in_ok-len.ensures.short ∙ c.in_ok-len.ensures.key from there object.key (has-key state layout keep chains unlinked number object c.args.parent.now.node c.args.parent.now.entry (cast_unsigned w64 c.args.parent.now.signature) from p) in
    let left = left-so state layout keep chains unlinked number object c.args.parent.now.node c.args.parent.now.entry (cast_unsigned w64 c.args.parent.now.signature) from p (take c.in_ok-len.len c.split_at_mut-key.result.0.now) same in
    let has = indexed-so state layout keep chains unlinked number object c.args.parent.now.node c.args.parent.now.entry (cast_unsigned w64 c.args.parent.now.signature) from p (take c.in_ok-len.len c.split_at_mut-key.result.0.now) (record { signature = _; any = c.in_ok-len.any }) same (of_z-to_z w64 (cast_unsigned w64 c.args.parent.now.signature) (let small = c.requires.signature in omega (arith, small))) (c.in_ok-len.ensures.none from there p.parent.was p.parent.index p.loads p.parent.role) in
    passes_stayed c.in_ok-len.ensures.reads.stays (c.in_ok-gone.ensures.stops from at state layout keep chains unlinked number object left has)
