use Rattle.std.proofs.Common.{rules, refl, inr, ◌≡◌, ◌∙◌, sym, ap, subst, arith, ℕ, ◌||◌, Option, Some, None, true, false}
use Rattle.std.specs.Prelude.{IfSome, IsTrue}
use Rattle.std.specs.Option.{ForSome}
use Rattle.spec_image.specs.Told.{Told}
use Rattle.spec_format.specs.Address.{blocks_256, is_address}
use Rattle.spec_folder.specs.Layout.{nodes_of}
use Rattle.spec_folder.specs.Loads.{Loaded}
use Rattle.blk_io.proofs.Carried.{carried, if_damaged_weaker, untold_where}
use Rattle.blk_io.specs.Faults.{IfDamaged}
use Rattle.blk_disk.specs.Open.{IsOpen}
use Rattle.blk_disk.specs.Tables.{Agrees, is_node_among}
use Rattle.blk_handles.specs.Bindings.{is_open}
use Rattle.blk_lru.proofs.Conditions.{told_now}
use Rattle.blk_record.specs.declared.node.TheConstants.NodeView as NodeView
use Rattle.blk_object.specs.ListedParts.{LoadsAt}
use Rattle.blk_object.specs.ListWalks.{GoesTo}
use Rattle.blk_object.proofs.DamageChecks.{handed}
use Rattle.blk_object.proofs.ListWalks.{node-passed, nodes-kinds, none-passed, walk-ends, walk-over, walk-too-long}
use Rattle.blk_object.proofs.MakingMade.{among-names}
use Rattle.blk_evict.specs.ListPlaces.{IsPlaceInList}
use Rattle.blk_cache.specs.Covering.{covers}
use Rattle.blk_cache.proofs.Ends.{kept-open}
use Rattle.blk_cache.proofs.RoomLast.{front-is, last-found, met-few, more-so-far, node-loads, none-left, none-so-far}
use Rattle.blk_cache.proofs.cache.Cache.last_unpinned.Goals as goal

pub returns-in_err-node-clause-untold : goal.returns-in_err-node-clause-untold
returns-in_err-node-clause-untold g c holds =
    carried c.in_front.result c.from_residual.result c.in_err-node.field-0.0 (λ _. (g.F.Folder.told c.args.folder.now).files ≡ None) c.in_err-node.was c.from_residual.ensures.1
    (subst (λ (t : Told). ForSome t.files (IsOpen c.args.self.now.files) → ForSome t.files (IsPlaceInList c.loop.behind) → IfDamaged c.in_front.result (λ _. t.files ≡ None)) c.loop.invariant.told c.in_front.ensures.untold
    (λ image there. let h = holds image there in kept-open c.args.self.now h.state image h.kept)
    (λ image there.
    let h = holds image there in
    let p = c.loop.invariant.pinned image there h.state h.kept h.covered h.lie h.pinned in
    (nodes_of h.kept.layout p.from.front, front-is c.args.self.now h.state image h.kept h.covered c.loop.behind p.from)))

pub returns-in_default-clause-last : goal.returns-in_default-clause-last
returns-in_default-clause-last g c image there state kept covered lie pinned =
    let p = c.loop.invariant.pinned image there state kept covered lie pinned in
    let none : c.in_ok-node.field-0 ≡ None = search rules in
    none-left c.args.self.now state image kept covered c.loop.behind p.from
    (sym none ∙ c.in_ok-node.ensures.node image (told_now image c.loop.invariant.told there) kept.files (nodes_of kept.layout p.from.front) (front-is c.args.self.now state image kept covered c.loop.behind p.from))

pub returns-in_err-entry-clause-untold : goal.returns-in_err-entry-clause-untold
returns-in_err-entry-clause-untold g c holds =
    let some : c.in_ok-node.field-0 ≡ Some c.in-Some.node = search rules in
    carried c.entry_named.result c.from_residual-in_err-entry.result c.in_err-entry.field-0.0 (λ _. (g.F.Folder.told c.args.folder.now).files ≡ None) c.in_err-entry.was c.from_residual-in_err-entry.ensures.1
    (subst (λ (t : Told). ForSome t.files (Agrees c.args.self.now.files) → ForSome t.files (λ image. (loaded : Loaded) × LoadsAt c.in-Some.node loaded image) → IfDamaged c.entry_named.result (λ _. t.files ≡ None)) (c.in_ok-node.ensures.reads.stays ∙ c.loop.invariant.told) c.entry_named.ensures.untold
    (λ image there. let h = holds image there in h.kept.files)
    (λ image there.
    let h = holds image there in
    let p = c.loop.invariant.pinned image there h.state h.kept h.covered h.lie h.pinned in
    node-loads c.args.self.now h.state image h.kept h.covered c.loop.behind p.from c.in-Some.node
    (sym some ∙ c.in_ok-node.ensures.node image (told_now image c.loop.invariant.told there) h.kept.files (nodes_of h.kept.layout p.from.front) (front-is c.args.self.now h.state image h.kept h.covered c.loop.behind p.from))))

pub returns-then-not-pins-clause-last : goal.returns-then-not-pins-clause-last
returns-then-not-pins-clause-last g c image there state kept covered lie pinned =
    let p = c.loop.invariant.pinned image there state kept covered lie pinned in
    let some : c.in_ok-node.field-0 ≡ Some c.in-Some.node = search rules in
    let closed : (is_open c.args.self.now.handles c.in_ok-entry.entry || covers c.args.parts.now c.in-Some.node) ≡ false = sym c.pins.ensures ∙ (let e : c.pins.result ≡ false = search rules in e) in
    last-found c.args.self.now state image kept covered c.loop.behind p.from c.in-Some.node
    (sym some ∙ c.in_ok-node.ensures.node image (told_now image c.loop.invariant.told there) kept.files (nodes_of kept.layout p.from.front) (front-is c.args.self.now state image kept covered c.loop.behind p.from))
    c.args.parts.now lie
    (record { node = c.in-Some.node; entry = c.in_ok-entry.entry; behind = c.loop.behind }) refl
    (c.in_ok-entry.ensures.entry image (told_now image (c.in_ok-node.ensures.reads.stays ∙ c.loop.invariant.told) there)) refl closed

pub returns-then-not-pins-clause-record_stands : goal.returns-then-not-pins-clause-record_stands
returns-then-not-pins-clause-record_stands g c =
    let address : is_address c.in_ok-entry.entry ≡ true = search rules in
    among-names c.args.self.now.files blocks_256 c.in_ok-entry.entry address c.in_ok-entry.ensures.kind c.in_ok-entry.ensures.stands

pub loop-init : goal.loop-init
loop-init g c = record {
  stands = c.requires.stands;
  passed = λ image there. none-passed c.args.self.now.files NodeView.PREV c.args.behind image;
  told = refl;
  later = omega arith;
  pinned = λ image there state kept covered lie pinned. none-so-far state kept.layout covered c.args.behind pinned;
}

pub loop-preserved : goal.loop-preserved
loop-preserved g c =
    let some : c.in_ok-node.field-0 ≡ Some c.in-Some.node = search rules in
    let open_ : (is_open c.args.self.now.handles c.in_ok-entry.entry || covers c.args.parts.now c.in-Some.node) ≡ true = sym c.pins.ensures ∙ (let e : c.pins.result ≡ true = search rules in e) in
    record {
      stands = subst (λ (o : Option ℕ). IfSome o (λ node. IsTrue (is_node_among c.args.self.now.files node))) some c.in_ok-node.ensures.stands;
      passed = λ image there.
          node-passed c.args.self.now.files NodeView.PREV c.args.behind c.loop.behind c.loop.counter image c.in-Some.node (c.loop.invariant.passed image there)
          (subst (λ (o : Option ℕ). GoesTo NodeView.PREV image c.loop.behind o) some (c.in_ok-node.ensures.word image (told_now image c.loop.invariant.told there)))
          (subst (λ (o : Option ℕ). IfSome o (λ node. IsTrue (is_node_among c.args.self.now.files node))) some c.in_ok-node.ensures.stands);
      told = c.in_ok-entry.ensures.reads.stays ∙ (c.in_ok-node.ensures.reads.stays ∙ c.loop.invariant.told);
      later = omega (arith, c.loop.invariant.later, c.in_ok-node.ensures.reads.later, c.in_ok-entry.ensures.reads.later);
      pinned = λ image there state kept covered lie pinned.
          let p = c.loop.invariant.pinned image there state kept covered lie pinned in
          more-so-far c.args.self.now state image kept covered c.loop.behind p.from c.in-Some.node
          (sym some ∙ c.in_ok-node.ensures.node image (told_now image c.loop.invariant.told there) kept.files (nodes_of kept.layout p.from.front) (front-is c.args.self.now state image kept covered c.loop.behind p.from))
          c.args.parts.now lie
          c.loop.counter p.many c.in_ok-entry.entry (c.in_ok-entry.ensures.entry image (told_now image (c.in_ok-node.ensures.reads.stays ∙ c.loop.invariant.told) there)) open_ (Some c.in-Some.node) refl;
    }

-- after the loop

pub returns-in_err-next-clause-untold : goal.returns-in_err-next-clause-untold
returns-in_err-next-clause-untold g c holds =
    carried c.in_front-2.result c.from_residual-in_err-next.result c.in_err-next.field-0.0 (λ _. (g.F.Folder.told c.args.folder.now).files ≡ None) c.in_err-next.was c.from_residual-in_err-next.ensures.1
    (if_damaged_weaker c.in_front-2.result _ _
    (λ damage wrong. untold_where (g.F.Folder.told c.args.folder.now).files (λ image there.
    let h = holds image there in
    met-few c.args.self.now h.state image h.kept h.covered c.loop.behind c.loop.counter (omega (arith, c.loop-test.false)) (c.loop.invariant.pinned image there h.state h.kept h.covered h.lie h.pinned)))
    c.in_front-2.ensures.damaged)

pub end_walk-requires : goal.end_walk-requires
end_walk-requires g c = record { kind = nodes-kinds c.args.self.now.files c.loop.behind c.loop.invariant.stands }

pub returns-in_err-end_walk-clause-untold : goal.returns-in_err-end_walk-clause-untold
returns-in_err-end_walk-clause-untold g c holds =
    carried c.end_walk.result c.from_residual-in_err-end_walk.result c.in_err-end_walk.field-0.0 (λ _. (g.F.Folder.told c.args.folder.now).files ≡ None) c.in_err-end_walk.was c.from_residual-in_err-end_walk.ensures.1
    (if_damaged_weaker c.end_walk.result _ _
    (λ damage behind. untold_where (g.F.Folder.told c.args.folder.now).files (λ image there.
    let h = holds image there in
    met-few c.args.self.now h.state image h.kept h.covered c.loop.behind c.loop.counter (omega (arith, c.loop-test.false)) (c.loop.invariant.pinned image there h.state h.kept h.covered h.lie h.pinned)))
    c.end_walk.ensures.damaged)

pub returns-in_err-end_walk-clause-damaged : goal.returns-in_err-end_walk-clause-damaged
returns-in_err-end_walk-clause-damaged g c =
    handed c.end_walk.result c.from_residual-in_err-end_walk.result c.in_err-end_walk.field-0.0 _ c.args.self.now.files (g.F.Folder.told c.in_front-2.new.folder)
    (λ damage behind. walk-too-long c.args.self.now.files (g.F.Folder.told c.in_front-2.new.folder) NodeView.PREV c.args.behind c.loop.behind c.in_ok-next.next c.loop.counter damage (inr refl) (omega (arith, c.loop-test.false)) c.loop.invariant.stands c.in_ok-next.ensures.stands
    (λ image now. c.loop.invariant.passed image (ap (λ (t : Told). t.files) (sym (c.in_ok-next.ensures.reads.stays ∙ c.loop.invariant.told)) ∙ now))
    (λ image now. c.in_ok-next.ensures.word image (ap (λ (t : Told). t.files) (sym c.in_ok-next.ensures.reads.stays) ∙ now)) behind)
    c.in_err-end_walk.was c.from_residual-in_err-end_walk.ensures.1 c.end_walk.ensures.damaged

pub returns-clause-last : goal.returns-clause-last
returns-clause-last g c image there state kept covered lie pinned =
    absurd (met-few c.args.self.now state image kept covered c.loop.behind c.loop.counter (omega (arith, c.loop-test.false)) (c.loop.invariant.pinned image there state kept covered lie pinned))

pub returns-in_default-clause-ends : goal.returns-in_default-clause-ends
returns-in_default-clause-ends g c none image there =
    walk-ends c.args.self.now.files NodeView.PREV c.args.behind c.loop.behind c.in_ok-node.field-0 c.loop.counter image (c.loop.invariant.passed image there) (c.in_ok-node.ensures.word image (told_now image c.loop.invariant.told there)) (search rules)

pub returns-clause-ends : goal.returns-clause-ends
returns-clause-ends g c none image there =
    walk-over c.args.self.now.files NodeView.PREV c.args.behind c.loop.behind c.in_ok-next.next c.loop.counter image (omega (arith, c.loop-test.false)) (c.loop.invariant.passed image there)
    (c.in_ok-next.ensures.word image (told_now image c.loop.invariant.told there)) c.in_ok-end_walk.ensures.ended
