use Rattle.std.proofs.Common.{◌≡◌, ◌∙◌, ℕ, ap, drop, length, length-take, sym, subst, take, arith, None}
use Rattle.std.proofs.lemmas.Result.{IfOk-weaker}
use Rattle.spec_image.specs.Told.{Told}
use Rattle.blk_io.specs.Faults.{IfDamaged}
use Rattle.blk_io.proofs.Carried.{if_damaged_weaker}
use Rattle.blk_object.proofs.DamageChecks.{moved, read-checked}
use Rattle.blk_object.proofs.OwnedPlaces.{loaded-checks}
use Rattle.spec_folder.specs.Entries.{stream}
use Rattle.blk_entry.specs.Keys.{IsPiece}
use Rattle.blk_ranges.specs.PartMaps.{presence_of}
use Rattle.blk_sparse.proofs.ParentsRead.{streams-there}
use Rattle.blk_sparse.proofs.PartsOut.{stays-there}
use Rattle.blk_sparse.proofs.ReadParts.{prefix-only, read-none, read-some, run-inside}
use Rattle.blk_sparse.proofs.present.bytes_there.Goals as goal

pub returns-then-start-place-clause-bytes : goal.returns-then-start-place-clause-bytes
returns-then-start-place-clause-bytes g c from there object n r =
    read-none object n c.args.part c.args.place (length c.args.out.now) from r c.in_ok-map.map (c.in_ok-map.ensures.map from there r.loaded r.name r.index r.loads r.role)
    (λ e. c.if-start-place.true (ap (λ (x : ℕ × ℕ). x.0) c.present_run-start.ensures ∙ e))

pub slice_bounds-piece-end : goal.slice_bounds-piece-end
slice_bounds-piece-end g c =
    let inside = (run-inside (presence_of c.in_ok-map.map) c.args.place (length c.args.out.now)).1 in
    let start = ap (λ (x : ℕ × ℕ). x.0) c.present_run-start.ensures in
    let many = ap (λ (x : ℕ × ℕ). x.1) c.present_run-start.ensures in
    let once = c.if-start-place.false in
    omega (arith, inside, start, many, once)

pub returns-clause-bytes : goal.returns-clause-bytes
returns-clause-bytes g c = IfOk-weaker c.read.result _ _
    (λ k piece from there object n r.
    let at = stays-there (g.F.Folder.told c.args.folder.now) (g.F.Folder.told c.read_map.new.folder) from there c.in_ok-map.ensures.reads.stays in
    let inside = (run-inside (presence_of c.in_ok-map.map) c.args.place (length c.args.out.now)).1 in
    let start = ap (λ (x : ℕ × ℕ). x.0) c.present_run-start.ensures in
    let many = ap (λ (x : ℕ × ℕ). x.1) c.present_run-start.ensures in
    let once = c.if-start-place.false in
    let room : length (take c.present_run-start.result.1 c.args.out.now) ≡ c.present_run-start.result.1 = (let long = length-take c.present_run-start.result.1 c.args.out.now in omega (arith, inside, start, many, once, long)) in
    prefix-only k c.read.new.out (drop c.present_run-start.result.1 c.args.out.now) (let p = piece from at r.loaded.streams (streams-there from c.args.part r.loaded r.loads) in let least = p.many in let same = c.read.auto.out in omega (arith, least, same))
    ∙ read-some object n c.args.part c.args.place (length c.args.out.now) from r c.in_ok-map.map (c.in_ok-map.ensures.map from there r.loaded r.name r.index r.loads r.role)
    (sym start ∙ once) (take c.present_run-start.result.1 c.args.out.now) c.read.new.out k (room ∙ many)
    (λ streams is. subst (λ (o : ℕ). IsPiece (stream 1 streams) o (take c.present_run-start.result.1 c.args.out.now) c.read.new.out k) c.from.ensures (piece from at streams is)))
    c.read.ensures.piece

pub returns-clause-damaged : goal.returns-clause-damaged
returns-clause-damaged g c =
    if_damaged_weaker c.read.result _ _ (λ damage wrong. moved c.args.files.now (g.F.Folder.told c.read_map.new.folder) (g.F.Folder.told c.read.new.f) damage c.read.ensures.reads.stays (read-checked c.args.files.now (g.F.Folder.told c.read_map.new.folder) c.args.part _ _ _ damage c.requires.kind c.requires.stands wrong)) c.read.ensures.damaged

pub returns-clause-untold : goal.returns-clause-untold
returns-clause-untold g c agrees lies =
    subst (λ (t : Told). IfDamaged c.read.result (λ _. t.files ≡ None)) c.in_ok-map.ensures.reads.stays
    (c.read.ensures.untold (λ image there.
    let at = ap (λ (t : Told). t.files) (sym c.in_ok-map.ensures.reads.stays) ∙ there in
    let l = lies image at in
    record { agrees = agrees image at; checks = loaded-checks image c.args.part l.loaded (g.met.F.Folder.are_bytes c.args.folder.now image at) l.loads; has = record { streams = l.loaded.streams; is = streams-there image c.args.part l.loaded l.loads } }))

pub slice_bounds-piece-end-2 : goal.slice_bounds-piece-end-2
slice_bounds-piece-end-2 g c =
    let inside = (run-inside (presence_of c.in_ok-map.map) c.args.place (length c.args.out.now)).1 in
    let start = ap (λ (x : ℕ × ℕ). x.0) c.present_run-start.ensures in
    let many = ap (λ (x : ℕ × ℕ). x.1) c.present_run-start.ensures in
    let once = c.if-start-place.false in
    let long = length-take c.present_run-start.result.1 c.args.out.now in
    omega (arith, inside, start, many, once, long)
