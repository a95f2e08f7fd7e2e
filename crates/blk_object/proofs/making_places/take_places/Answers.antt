use Rattle.std.proofs.Common.{◌≡◌, ◌≢◌, ◌<◌, ◌≤◌, ℕ, [], ◌∷◌, None, sym, ◌∙◌, subst}
use Rattle.std.specs.Option.{ForSome}
use Rattle.spec_image.specs.Told.{Passes, Told}
use Rattle.spec_format.specs.Address.{external, kind_of}
use Rattle.blk_io.proofs.Carried.{carried, if_damaged_weaker}
use Rattle.law_state.specs.Changes.{StillFinds}
use Rattle.blk_object.specs.Making.{LeavesRoom, Takes}
use Rattle.blk_object.specs.declared.making_places.Places.{Places}
use Rattle.blk_object.proofs.MakingTaken.{room-for-one}
use Rattle.blk_object.proofs.MakingPlaces.{blocks-few, never-shared, room-after, room-for-third, tells-first, tells-two, three-find, three-taken, two-find, two-taken}
use Rattle.blk_object.proofs.DamageChecks.{handed}
use Rattle.blk_object.specs.FailedChecks.{FailsPlace, IsSharedKey, OfSharedBlocks}
use Rattle.blk_object.proofs.making_places.take_places.Goals as goal

pub take_blocks-requires-clause-some : goal.take_blocks-requires-clause-some
take_blocks-requires-clause-some g c = subst (λ (n : ℕ). 0 < n) (sym c.entry_blocks.ensures) (blocks-few c.args.key_len).0

pub take_blocks-requires-clause-few : goal.take_blocks-requires-clause-few
take_blocks-requires-clause-few g c = subst (λ (n : ℕ). n ≤ 4) (sym c.entry_blocks.ensures) (blocks-few c.args.key_len).1

pub returns-in_err-entry-clause-untold : goal.returns-in_err-entry-clause-untold
returns-in_err-entry-clause-untold g c room =
    carried c.take_blocks.result c.from_residual.result c.in_err-entry.field-0.0 (λ _. (g.F.Folder.told c.args.folder.now).files ≡ None) c.in_err-entry.was c.from_residual.ensures.1
    (c.take_blocks.ensures.untold (λ from there. room-for-one 2 from (room from there)))

pub returns-in_err-node-clause-stops : goal.returns-in_err-node-clause-stops
returns-in_err-node-clause-stops g c =
    two-find (g.F.Folder.told c.args.folder.now) (g.F.Folder.told c.take_blocks.new.folder) (g.F.Folder.told c.take_blocks-2.new.folder) 1 c.in_ok-entry.entry 0 c.take_blocks.ensures.stops c.in_ok-entry.ensures.taken c.take_blocks-2.ensures.stops

pub returns-in_err-node-clause-untold : goal.returns-in_err-node-clause-untold
returns-in_err-node-clause-untold g c room =
    let a : Told = g.F.Folder.told c.args.folder.now in
    let b : Told = g.F.Folder.told c.take_blocks.new.folder in
    let d : Told = g.F.Folder.told c.take_blocks-2.new.folder in
    carried c.take_blocks-2.result c.from_residual-in_err-node.result c.in_err-node.field-0.0 (λ _. a.files ≡ None) c.in_err-node.was c.from_residual-in_err-node.ensures.1
    (if_damaged_weaker c.take_blocks-2.result (λ _. b.files ≡ None) (λ _. a.files ≡ None) (λ damage none. tells-first a b d 1 c.in_ok-entry.entry 0 c.take_blocks.ensures.stops c.in_ok-entry.ensures.taken c.take_blocks-2.ensures.stops room none)
    (c.take_blocks-2.ensures.untold (λ mid now. room-for-one 1 mid (room-after a b d 1 c.in_ok-entry.entry 0 c.take_blocks.ensures.stops c.in_ok-entry.ensures.taken c.take_blocks-2.ensures.stops c.take_blocks.ensures.writes.silent room mid now))))

pub returns-in_err-long_key-clause-stops : goal.returns-in_err-long_key-clause-stops
returns-in_err-long_key-clause-stops g c =
    let a : Told = g.F.Folder.told c.args.folder.now in
    let b : Told = g.F.Folder.told c.take_blocks.new.folder in
    let d : Told = g.F.Folder.told c.take_blocks-2.new.folder in
    three-find a d (g.F.Folder.told c.take_long_key.new.folder) (record { entry = c.in_ok-entry.entry; node = c.in_ok-node.node; long_key = None })
    (two-find a b d 1 c.in_ok-entry.entry c.in_ok-node.node c.take_blocks.ensures.stops c.in_ok-entry.ensures.taken c.take_blocks-2.ensures.stops)
    (two-taken a b d 1 c.in_ok-entry.entry c.in_ok-node.node c.take_blocks.ensures.stops c.in_ok-entry.ensures.taken c.take_blocks-2.ensures.stops c.in_ok-node.ensures.taken)
    c.take_long_key.ensures.stops

pub returns-in_err-long_key-clause-untold : goal.returns-in_err-long_key-clause-untold
returns-in_err-long_key-clause-untold g c room =
    let a : Told = g.F.Folder.told c.args.folder.now in
    let b : Told = g.F.Folder.told c.take_blocks.new.folder in
    let d : Told = g.F.Folder.told c.take_blocks-2.new.folder in
    let e : Told = g.F.Folder.told c.take_long_key.new.folder in
    let places : Places = record { entry = c.in_ok-entry.entry; node = c.in_ok-node.node; long_key = None } in
    let two : ForSome a.files (λ from. LeavesRoom 3 from → Passes a d (StillFinds [] from)) = two-find a b d 1 c.in_ok-entry.entry c.in_ok-node.node c.take_blocks.ensures.stops c.in_ok-entry.ensures.taken c.take_blocks-2.ensures.stops in
    let taken : ForSome a.files (λ from. LeavesRoom 3 from → ForSome d.files (Takes (c.in_ok-node.node ∷ c.in_ok-entry.entry ∷ []) from)) =
    two-taken a b d 1 c.in_ok-entry.entry c.in_ok-node.node c.take_blocks.ensures.stops c.in_ok-entry.ensures.taken c.take_blocks-2.ensures.stops c.in_ok-node.ensures.taken in
    carried c.take_long_key.result c.from_residual-in_err-long_key.result c.in_err-long_key.field-0.0 (λ _. a.files ≡ None) c.in_err-long_key.was c.from_residual-in_err-long_key.ensures.1
    (if_damaged_weaker c.take_long_key.result (λ _. d.files ≡ None) (λ _. a.files ≡ None) (λ damage none. tells-two a d e places two taken c.take_long_key.ensures.stops room none)
    (c.take_long_key.ensures.untold (room-for-third a d e places two taken c.take_long_key.ensures.stops (λ none. c.take_blocks-2.ensures.writes.silent (c.take_blocks.ensures.writes.silent none)) room)))

pub returns-in_err-check_apart-clause-stops : goal.returns-in_err-check_apart-clause-stops
returns-in_err-check_apart-clause-stops g c =
    let a : Told = g.F.Folder.told c.args.folder.now in
    let b : Told = g.F.Folder.told c.take_blocks.new.folder in
    let d : Told = g.F.Folder.told c.take_blocks-2.new.folder in
    three-find a d (g.F.Folder.told c.take_long_key.new.folder) (record { entry = c.in_ok-entry.entry; node = c.in_ok-node.node; long_key = c.in_ok-long_key.long_key })
    (two-find a b d 1 c.in_ok-entry.entry c.in_ok-node.node c.take_blocks.ensures.stops c.in_ok-entry.ensures.taken c.take_blocks-2.ensures.stops)
    (two-taken a b d 1 c.in_ok-entry.entry c.in_ok-node.node c.take_blocks.ensures.stops c.in_ok-entry.ensures.taken c.take_blocks-2.ensures.stops c.in_ok-node.ensures.taken)
    c.take_long_key.ensures.stops

pub returns-in_err-check_apart-clause-untold : goal.returns-in_err-check_apart-clause-untold
returns-in_err-check_apart-clause-untold g c room =
    let a : Told = g.F.Folder.told c.args.folder.now in
    let b : Told = g.F.Folder.told c.take_blocks.new.folder in
    let d : Told = g.F.Folder.told c.take_blocks-2.new.folder in
    let e : Told = g.F.Folder.told c.take_long_key.new.folder in
    let places : Places = record { entry = c.in_ok-entry.entry; node = c.in_ok-node.node; long_key = c.in_ok-long_key.long_key } in
    let two : ForSome a.files (λ from. LeavesRoom 3 from → Passes a d (StillFinds [] from)) = two-find a b d 1 c.in_ok-entry.entry c.in_ok-node.node c.take_blocks.ensures.stops c.in_ok-entry.ensures.taken c.take_blocks-2.ensures.stops in
    let taken : ForSome a.files (λ from. LeavesRoom 3 from → ForSome d.files (Takes (c.in_ok-node.node ∷ c.in_ok-entry.entry ∷ []) from)) =
    two-taken a b d 1 c.in_ok-entry.entry c.in_ok-node.node c.take_blocks.ensures.stops c.in_ok-entry.ensures.taken c.take_blocks-2.ensures.stops c.in_ok-node.ensures.taken in
    let apart : kind_of c.in_ok-entry.entry ≢ external = λ is. (let z : ◌≡◌ {A = ℕ} 2 0 = sym c.in_ok-entry.ensures.kind.0 ∙ is in cc) in
    carried c.check_apart.result c.from_residual-in_err-check_apart.result c.in_err-check_apart.field-0.0 (λ _. a.files ≡ None) c.in_err-check_apart.was c.from_residual-in_err-check_apart.ensures.1
    (if_damaged_weaker c.check_apart.result (IsSharedKey c.in_ok-entry.entry c.in_ok-long_key.long_key) (λ _. a.files ≡ None)
    (λ damage key. never-shared a d e places two taken c.take_long_key.ensures.stops c.in_ok-long_key.ensures.taken apart (λ none. c.take_long_key.ensures.writes.silent (c.take_blocks-2.ensures.writes.silent (c.take_blocks.ensures.writes.silent none))) room key.shared)
    c.check_apart.ensures.damaged)

pub returns-clause-stops : goal.returns-clause-stops
returns-clause-stops g c =
    let a : Told = g.F.Folder.told c.args.folder.now in
    let b : Told = g.F.Folder.told c.take_blocks.new.folder in
    let d : Told = g.F.Folder.told c.take_blocks-2.new.folder in
    three-find a d (g.F.Folder.told c.take_long_key.new.folder) (record { entry = c.in_ok-entry.entry; node = c.in_ok-node.node; long_key = c.in_ok-long_key.long_key })
    (two-find a b d 1 c.in_ok-entry.entry c.in_ok-node.node c.take_blocks.ensures.stops c.in_ok-entry.ensures.taken c.take_blocks-2.ensures.stops)
    (two-taken a b d 1 c.in_ok-entry.entry c.in_ok-node.node c.take_blocks.ensures.stops c.in_ok-entry.ensures.taken c.take_blocks-2.ensures.stops c.in_ok-node.ensures.taken)
    c.take_long_key.ensures.stops

pub returns-clause-taken : goal.returns-clause-taken
returns-clause-taken g c =
    let a : Told = g.F.Folder.told c.args.folder.now in
    let b : Told = g.F.Folder.told c.take_blocks.new.folder in
    let d : Told = g.F.Folder.told c.take_blocks-2.new.folder in
    three-taken a d (g.F.Folder.told c.take_long_key.new.folder) (record { entry = c.in_ok-entry.entry; node = c.in_ok-node.node; long_key = c.in_ok-long_key.long_key })
    (two-find a b d 1 c.in_ok-entry.entry c.in_ok-node.node c.take_blocks.ensures.stops c.in_ok-entry.ensures.taken c.take_blocks-2.ensures.stops)
    (two-taken a b d 1 c.in_ok-entry.entry c.in_ok-node.node c.take_blocks.ensures.stops c.in_ok-entry.ensures.taken c.take_blocks-2.ensures.stops c.in_ok-node.ensures.taken)
    c.take_long_key.ensures.stops c.in_ok-long_key.ensures.taken

pub returns-in_err-check_apart-clause-damaged : goal.returns-in_err-check_apart-clause-damaged
returns-in_err-check_apart-clause-damaged g c =
    handed c.check_apart.result c.from_residual-in_err-check_apart.result c.in_err-check_apart.field-0.0 _ c.take_long_key.new.files (g.F.Folder.told c.take_long_key.new.folder)
    (λ damage key. FailsPlace (OfSharedBlocks (record { entry = c.in_ok-entry.entry; long_key = c.in_ok-long_key.long_key; kind = c.in_ok-entry.ensures.kind.0; stands = c.take_long_key.ensures.keeps c.in_ok-entry.entry (c.take_blocks-2.ensures.keeps c.in_ok-entry.entry c.in_ok-entry.ensures.stands); key = key })))
    c.in_err-check_apart.was c.from_residual-in_err-check_apart.ensures.1 c.check_apart.ensures.damaged
