use Rattle.std.proofs.Common.{rules, ◌≡◌, ◌+◌, ◌∙◌, sym, ap, subst, arith, true, false, None, ℕ}
use Rattle.blk_disk.specs.Tables.{is_record_among}
use Rattle.blk_lru.proofs.NodeWords.{node_kind, node_room, node_stands}
use Rattle.blk_lru.proofs.LinkReads.{dangling_untold, read_link}
use Rattle.blk_object.specs.ListedParts.{LoadsAt}
use Rattle.spec_folder.specs.Loads.{Loaded}
use Rattle.blk_object.proofs.PartNames.{contents-word, record-named}
use Rattle.blk_object.proofs.DamageChecks.{handed, moved, short-checked}
use Rattle.blk_entry.proofs.KeyPlaces.{err_damaged}
use Rattle.blk_object.specs.FailedChecks.{FailsPlace, IsFailedCheck, NamesNoRecord, OfRecord}
use Rattle.spec_format.specs.Address.{file_selector, place}
use Rattle.blk_io.specs.declared.folder.FileId.TheVariants as names
use Rattle.blk_object.proofs.listed_parts.entry_named.Given as given
use Rattle.blk_object.proofs.listed_parts.entry_named.Goals as goal

pub read_block-requires-clause-stands : goal.read_block-requires-clause-stands
read_block-requires-clause-stands g c = node_stands c.args.files.now c.args.node c.requires.node

pub read_block-requires-clause-inside : goal.read_block-requires-clause-inside
read_block-requires-clause-inside g c = let enough = node_room c.args.node (node_kind c.args.files.now c.args.node c.requires.node) in omega (arith, enough)

pub node_damage-requires : goal.node_damage-requires
node_damage-requires g c = record { kind = node_kind c.args.files.now c.args.node c.requires.node }

pub returns-in_default-clause-untold : goal.returns-in_default-clause-untold
returns-in_default-clause-untold g c agrees lies =
    let unlike : is_record_among c.args.files.now c.from_le_bytes-found.result ≡ false = search rules in
    err_damaged ℕ c.node_damage.result c.node_damage.ensures.damage (λ _. (g.F.Folder.told c.args.folder.now).files ≡ None) c.node_damage.ensures.is
    (dangling_untold (g.F.Folder.told c.args.folder.now).files (λ image. (loaded : Loaded) × LoadsAt c.args.node loaded image)
    (λ image there at. clash (sym (record-named c.args.files.now image c.args.node at.0 (agrees image there) at.1)
    ∙ ap (is_record_among c.args.files.now) (sym (read_link image c.args.node 24 c.read_block.new.out c.from_le_bytes-found.result (c.in_ok-read_block.ensures.bytes image there) c.from_le_bytes-found.ensures ∙ contents-word image c.args.node)) ∙ unlike))
    lies)
  where
    clash : true ≡ false → ⊥
    clash e = cc

pub returns-clause-entry : goal.returns-clause-entry
returns-clause-entry g c image there =
    let same : c.in-Some.entry ≡ c.from_le_bytes-found.result = search rules in
    same ∙ read_link image c.args.node 24 c.read_block.new.out c.from_le_bytes-found.result (c.in_ok-read_block.ensures.bytes image there) c.from_le_bytes-found.ensures ∙ contents-word image c.args.node

pub returns-in_err-read_block-clause-damaged : goal.returns-in_err-read_block-clause-damaged
returns-in_err-read_block-clause-damaged g c =
    handed c.read_block.result c.from_residual.result c.in_err-read_block.field-0.0 _ c.args.files.now (g.F.Folder.told c.read_block.new.f)
    (λ damage short. moved c.args.files.now (g.F.Folder.told c.args.folder.now) (g.F.Folder.told c.read_block.new.f) damage c.read_block.ensures.reads.stays (short-checked c.args.files.now (g.F.Folder.told c.args.folder.now) _ _ _ damage short))
    c.in_err-read_block.was c.from_residual.ensures.1 c.read_block.ensures.short

nameless : (g : given.Over) (c : goal.After-node_damage g) → NamesNoRecord c.args.files.now (g.F.Folder.told c.args.folder.now) (names.Block (file_selector c.args.node)) (place c.args.node + 24) c.node_damage.ensures.damage
nameless g c =
    let word = c.node_damage.ensures.word in
    let none : is_record_among c.args.files.now c.from_le_bytes-found.result ≡ false = search rules in
    record {
      of_file = word.of_file;
      at_place = word.at_place;
      unlike = subst (λ (n : ℕ). is_record_among c.args.files.now n ≡ false) (sym word.of_word) none;
      there = λ image there. word.of_word ∙ read_link image c.args.node 24 c.read_block.new.out c.from_le_bytes-found.result (c.in_ok-read_block.ensures.bytes image there) c.from_le_bytes-found.ensures;
    }

pub returns-in_default-clause-damaged : goal.returns-in_default-clause-damaged
returns-in_default-clause-damaged g c =
    err_damaged ℕ c.node_damage.result c.node_damage.ensures.damage (IsFailedCheck c.args.files.now (g.F.Folder.told c.read_block.new.f)) c.node_damage.ensures.is
    (moved c.args.files.now (g.F.Folder.told c.args.folder.now) (g.F.Folder.told c.read_block.new.f) _ c.in_ok-read_block.ensures.reads.stays (FailsPlace (OfRecord _ _ (nameless g c))))
