use Rattle.std.proofs.Common.{◌≡◌, ◌≤◌, ℕ, Bool, true, false, List, length, Option, None, Some, sym, ◌∙◌, subst, arith}
use Rattle.std.proofs.lemmas.Bool.Decides.{nat_tests}
use Rattle.spec_format.specs.Address.{kind_of, blocks_256, rankings}
use Rattle.blk_disk.specs.declared.tables.BlockFiles.{BlockFiles}
use Rattle.blk_disk.specs.Tables.{stands_among}
use Rattle.blk_entry.specs.Keys.{may_have}
use Rattle.blk_entry.specs.Writing.{FitsKey, IsLongPlace, longest_of}
use Rattle.blk_entry.proofs.KeyPlaces.{may_have_parts}
use Rattle.test_entries.proofs.entry.new_entry.Goals.{then-key-le927, else-key-le927+in_ok-long_place}
use Rattle.test_entries.proofs.entry.new_entry.Goals as goal

module _ (files : BlockFiles) (entry node : ℕ) (child : Bool) (key : List ℕ) (entry_kind : kind_of entry ≡ blocks_256) (entry_stands : stands_among files entry ≡ true) (node_kind : kind_of node ≡ rankings) (node_stands : stands_among files node ≡ true)
    (has : may_have entry (length key) ≡ true) (few : length key ≤ 32768) where
  made : (o : Option ℕ) → IsLongPlace files (length key) o → FitsKey files (record { entry = entry; node = node; long_key = o; child = child; dirty = 7; next = 2684420105 }) key
  made o is =
      let parts = may_have_parts entry (length key) has in
      record { entry_kind = entry_kind; entry_stands = entry_stands; node_kind = node_kind; node_stands = node_stands; some = parts.0; most = by_child child; blocks = parts.2; long = is }
    where
      by_child : (b : Bool) → length key ≤ longest_of b
      by_child true = omega (arith, few)
      by_child false = few

  made_as : (o p : Option ℕ) → o ≡ p → IsLongPlace files (length key) p → FitsKey files (record { entry = entry; node = node; long_key = o; child = child; dirty = 7; next = 2684420105 }) key
  made_as o p same is = made o (subst (IsLongPlace files (length key)) (sym same) is)

pub returns : goal.returns
returns c =
    let has : may_have c.in_ok-entry.entry (length c.args.key.now) ≡ true = sym c.may_have.ensures ∙ c.if-not-may_have.false in
    let few : length c.args.key.now ≤ 32768 = c.if-key-gt32768.false in
    elim c.if-key-le927.branch [
      | then-key-le927 w ↦ made_as c.args.files.now c.in_ok-entry.entry c.in_ok-node.node c.args.child c.args.key.now c.in_ok-entry.ensures.kind c.in_ok-entry.ensures.stands c.in_ok-node.ensures.kind c.in_ok-node.ensures.stands has few
          c.if-key-le927.long_key None w.long_key-is (let less = w.if-key-le927.true in grind (arith, nat_tests))
      | else-key-le927+in_ok-long_place w ↦ made_as c.args.files.now c.in_ok-entry.entry c.in_ok-node.node c.args.child c.args.key.now c.in_ok-entry.ensures.kind c.in_ok-entry.ensures.stands c.in_ok-node.ensures.kind c.in_ok-node.ensures.stands has few
          c.if-key-le927.long_key (Some w.in_ok-long_place.field-0) w.long_key-is
          ((let more = w.if-key-le927.false in grind (arith, nat_tests)), w.in_ok-long_place.ensures)
    ]
