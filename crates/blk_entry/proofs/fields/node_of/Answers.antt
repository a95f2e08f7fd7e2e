use Rattle.std.proofs.Common.{◌≡◌, ◌+◌, ℕ, true, false, None, inr, sym, ◌∙◌, subst}
use Rattle.spec_format.specs.Address.{file_selector, place}
use Rattle.spec_folder.specs.View.{entry_at}
use Rattle.blk_io.specs.declared.folder.FileId.TheVariants as FileId
use Rattle.blk_io.proofs.Carried.{untold_where}
use Rattle.blk_disk.specs.Tables.{is_node_among}
use Rattle.blk_disk.specs.Damages.{IsNodeWordDamage}
use Rattle.blk_entry.specs.Keys.{node_place}
use Rattle.blk_entry.proofs.KeyPlaces.{clash, err_damaged}
use Rattle.blk_entry.proofs.Windows.{named_is, node_read, none_named}
use Rattle.blk_entry.proofs.fields.node_of.Goals as goal

pub returns-in-Some-clause-node : goal.returns-in-Some-clause-node
returns-in-Some-clause-node g c image there = named_is (is_node_among c.args.files.now c.in_ok-word.word) c.in_ok-word.word c.in-Some.node (sym c.in-Some.is ∙ c.node.ensures.node) ∙ node_read image c.args.entry c.in_ok-word.word (c.in_ok-word.ensures.value image there)

pub returns-in-None-clause-damaged : goal.returns-in-None-clause-damaged
returns-in-None-clause-damaged g c =
    let found = c.record_damage.ensures.word.of_word in
    err_damaged ℕ c.record_damage.result c.record_damage.ensures.damage
    (IsNodeWordDamage c.args.files.now (g.F.Folder.told c.args.folder.now) (FileId.Block (file_selector c.args.entry)) (place c.args.entry + node_place)) c.record_damage.ensures.is
    (inr (record {
      of_file = c.record_damage.ensures.word.of_file;
      at_place = c.record_damage.ensures.word.at_place;
      there = λ image there. found ∙ c.in_ok-word.ensures.value image there;
      unlike = subst (λ (w : ℕ). is_node_among c.args.files.now w ≡ false) (sym found) (none_named (is_node_among c.args.files.now c.in_ok-word.word) c.in_ok-word.word (sym c.in-None.is ∙ c.node.ensures.node));
    }))

pub returns-in-None-clause-untold : goal.returns-in-None-clause-untold
returns-in-None-clause-untold g c agrees names =
    err_damaged ℕ c.record_damage.result c.record_damage.ensures.damage (λ _. (g.F.Folder.told c.args.folder.now).files ≡ None) c.record_damage.ensures.is
    (untold_where (g.F.Folder.told c.args.folder.now).files
    (λ image there.
    let none : is_node_among c.args.files.now c.in_ok-word.word ≡ false = none_named (is_node_among c.args.files.now c.in_ok-word.word) c.in_ok-word.word (sym c.in-None.is ∙ c.node.ensures.node) in
    let word : c.in_ok-word.word ≡ (entry_at image c.args.entry).rankings_node = node_read image c.args.entry c.in_ok-word.word (c.in_ok-word.ensures.value image there) in
    let some : is_node_among c.args.files.now c.in_ok-word.word ≡ true = subst (λ (w : ℕ). is_node_among c.args.files.now w ≡ true) (sym word) (names image there) in
    clash (sym none ∙ some)))
