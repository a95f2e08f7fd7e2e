use Rattle.std.proofs.Common.{◌≡◌, ◌∙◌, None, ap, subst, sym, Some}
use Rattle.spec_image.specs.Told.{Told}
use Rattle.blk_io.specs.Faults.{IfDamaged}
use Rattle.blk_io.proofs.Carried.{carried}
use Rattle.blk_chain.proofs.Heads.{names-parts}
use Rattle.blk_lru.proofs.Conditions.{told_now}
use Rattle.blk_object.proofs.OwnedPlaces.{loaded-checks, owned-by}
use Rattle.blk_object.proofs.PartNames.{key-readable}
use Rattle.blk_evict.specs.EvictingGroups.{kind_said}
use Rattle.blk_evict.proofs.GroupsOut.{key-read, kind-there}
use Rattle.blk_object.proofs.DamageChecks.{handed, moved, part-checked, whole-key}
use Rattle.blk_evict.proofs.item_names.read_name.Goals as goal

pub read_owned-requires-clause-kind : goal.read_owned-requires-clause-kind
read_owned-requires-clause-kind g c = let p = names-parts c.args.files.now c.args.entry c.requires.stands in p.1.0

pub read_owned-requires-clause-stands : goal.read_owned-requires-clause-stands
read_owned-requires-clause-stands g c = let p = names-parts c.args.files.now c.args.entry c.requires.stands in p.1.1

pub key_piece-requires-clause-kind : goal.key_piece-requires-clause-kind
key_piece-requires-clause-kind g c = let p = names-parts c.args.files.now c.args.entry c.requires.stands in p.1.0

pub key_piece-requires-clause-stands : goal.key_piece-requires-clause-stands
key_piece-requires-clause-stands g c = let p = names-parts c.args.files.now c.args.entry c.requires.stands in p.1.1

pub returns-in_err-len-clause-untold : goal.returns-in_err-len-clause-untold
returns-in_err-len-clause-untold g c agrees lies =
    subst (λ (t : Told). IfDamaged c.from_residual-in_err-len.result (λ _. t.files ≡ None)) c.in_ok-owned.ensures.reads.stays
    (carried c.key_piece.result c.from_residual-in_err-len.result c.in_err-len.field-0.0 (λ _. (g.F.Folder.told c.read_owned.new.folder).files ≡ None) c.in_err-len.was c.from_residual-in_err-len.ensures.1
    (c.key_piece.ensures.untold (λ image now.
    let there : (g.F.Folder.told c.args.folder.now).files ≡ Some image = ap (λ (t : Told). t.files) (sym c.in_ok-owned.ensures.reads.stays) ∙ now in
    record {
      agrees = agrees image there;
      checks = loaded-checks image c.args.entry (lies image there).0 (g.met.F.Folder.are_bytes c.args.folder.now image there) (lies image there).1;
      key = key-readable image c.args.entry (lies image there).0 (lies image there).1;
    })))

pub returns-clause-named : goal.returns-clause-named
returns-clause-named g c image there loaded lies = record {
  kind = c.kind_said.ensures ∙ ap kind_said (c.in_ok-owned.ensures.flags image there) ∙ kind-there image c.args.entry loaded lies;
  charge = c.in_ok-owned.ensures.charge image there loaded lies;
  key = key-read image c.args.entry loaded c.args.buffer.now c.key_piece.new.out c.in_ok-len.len lies c.requires.buffer (c.in_ok-len.ensures.piece image (told_now image c.in_ok-owned.ensures.reads.stays there));
}

pub returns-clause-owned : goal.returns-clause-owned
returns-clause-owned g c = owned-by (g.F.Folder.told c.args.folder.now) c.args.entry c.in_ok-owned.owned c.in_ok-owned.ensures.words c.in_ok-owned.ensures.charge

pub returns-in_err-len-clause-damaged : goal.returns-in_err-len-clause-damaged
returns-in_err-len-clause-damaged g c =
    let p = names-parts c.args.files.now c.args.entry c.requires.stands in
    handed c.key_piece.result c.from_residual-in_err-len.result c.in_err-len.field-0.0 _ c.args.files.now (g.F.Folder.told c.key_piece.new.f)
    (λ damage wrong. moved c.args.files.now (g.F.Folder.told c.read_owned.new.folder) (g.F.Folder.told c.key_piece.new.f) damage c.key_piece.ensures.reads.stays (part-checked c.args.files.now (g.F.Folder.told c.read_owned.new.folder) c.args.entry _ _ damage p.1.0 p.1.1 wrong))
    c.in_err-len.was c.from_residual-in_err-len.ensures.1 c.key_piece.ensures.damaged

pub returns-clause-read : goal.returns-clause-read
returns-clause-read g c image there =
    let now : (g.F.Folder.told c.read_owned.new.folder).files ≡ Some image = ap (λ (t : Told). t.files) c.in_ok-owned.ensures.reads.stays ∙ there in
    sym (whole-key c.args.files.now image c.args.entry c.args.buffer.now c.key_piece.new.out c.in_ok-len.len (c.in_ok-len.ensures.bytes image now) (c.in_ok-len.ensures.placed image now) c.requires.buffer)
