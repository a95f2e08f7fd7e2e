use Rattle.std.proofs.Common.{◌≡◌, ◌+◌, true, false, None, inr, refl, sym, ◌∙◌, subst, ℕ}
use Rattle.spec_image.specs.Image.{Block as block, word}
use Rattle.spec_format.specs.Address.{file_selector, place}
use Rattle.blk_io.proofs.Carried.{untold_where, carried}
use Rattle.blk_disk.specs.Tables.{is_node_among}
use Rattle.blk_entry.specs.Keys.{node_place}
use Rattle.blk_entry.proofs.KeyPlaces.{clash, err_damaged}
use Rattle.blk_entry.proofs.Windows.{node_read, none_named}
use Rattle.blk_evict.specs.declared.looking.Said.{Said}
use Rattle.blk_evict.specs.Looking.{IsEntryDamage}
use Rattle.blk_object.proofs.OwnedPlaces.{loaded-checks}
use Rattle.blk_evict.proofs.looking.read_said.Goals as goal

pub returns-in_default-clause-damaged : goal.returns-in_default-clause-damaged
returns-in_default-clause-damaged g c =
    let found = c.record_damage.ensures.word.of_word in
    err_damaged Said c.record_damage.result c.record_damage.ensures.damage (IsEntryDamage c.args.files.now (g.F.Folder.told c.args.folder.now) c.args.entry) c.record_damage.ensures.is
    (inr (inr (record {
      of_file = c.record_damage.ensures.word.of_file;
      at_place = c.record_damage.ensures.word.at_place;
      there = λ image there. found ∙ (c.in_ok-head.ensures.head image there).node ∙ sym (node_read image c.args.entry (word image (block (file_selector c.args.entry)) (place c.args.entry + node_place)) refl);
      unlike = subst (λ (w : ℕ). is_node_among c.args.files.now w ≡ false) (sym found) (none_named (is_node_among c.args.files.now c.in_ok-head.head.node) c.in_ok-head.head.node (sym c.in_default.is ∙ c.node.ensures.node));
    })))

pub returns-in_default-clause-untold : goal.returns-in_default-clause-untold
returns-in_default-clause-untold g c agrees checks names =
    err_damaged Said c.record_damage.result c.record_damage.ensures.damage (λ _. (g.F.Folder.told c.args.folder.now).files ≡ None) c.record_damage.ensures.is
    (untold_where (g.F.Folder.told c.args.folder.now).files
    (λ image there.
    let none : is_node_among c.args.files.now c.in_ok-head.head.node ≡ false = none_named (is_node_among c.args.files.now c.in_ok-head.head.node) c.in_ok-head.head.node (sym c.in_default.is ∙ c.node.ensures.node) in
    let some : is_node_among c.args.files.now c.in_ok-head.head.node ≡ true = subst (λ (w : ℕ). is_node_among c.args.files.now w ≡ true) (sym (c.in_ok-head.ensures.head image there).node) (names image there) in
    clash (sym none ∙ some)))

pub returns-in_err-head-clause-untold : goal.returns-in_err-head-clause-untold
returns-in_err-head-clause-untold g c agrees lies names =
    carried c.read_head.result c.from_residual.result c.in_err-head.field-0.0 (λ _. (g.F.Folder.told c.args.folder.now).files ≡ None) c.in_err-head.was c.from_residual.ensures.1
    (c.read_head.ensures.untold agrees (λ image there. loaded-checks image c.args.entry (lies image there).0 (g.met.F.Folder.are_bytes c.args.folder.now image there) (lies image there).1))
