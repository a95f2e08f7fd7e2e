-- The steps that write a new entry, as its calls make them.
use Rattle.std.proofs.Common.{◌≡◌, ℕ, ◌+◌, List, ◌++◌, take, length, Option, None, Some, refl, sym, ◌∙◌, ap, ap₂, add-zero, append-nil}
use Rattle.spec_image.specs.Bytes.{zeros}
use Rattle.spec_image.specs.Image.{Block}
use Rattle.spec_image.specs.Steps.{words}
use Rattle.spec_format.specs.Address.{file_selector, place}
use Rattle.spec_format.specs.Records.{entry_body, node_body}
use Rattle.blk_entry.specs.declared.writing.NewEntry.{NewEntry}
use Rattle.blk_entry.specs.Steps.{ended_steps}
use Rattle.blk_entry.specs.Writing.{address_of_key, before_key, key_steps, empty_key_place, entry_bytes, new_node, new_record, node_bytes, node_steps, record_steps}

-- a record has 96 bytes, and a node 36
pub record_length : (new : NewEntry) (key : List ℕ) (moment : ℕ) → length (entry_bytes (new_record new key moment)) ≡ 96
unfolding entry_bytes entry_body new_record
record_length new key moment = refl

pub node_length : (new : NewEntry) (moment : ℕ) → length (node_bytes (new_node new moment)) ≡ 36
unfolding node_bytes node_body new_node
node_length new moment = refl

front_is : (new : NewEntry) (key : List ℕ) (moment : ℕ) → take 96 (entry_bytes (new_record new key moment) ++ zeros 160) ≡ entry_bytes (new_record new key moment)
unfolding entry_bytes entry_body new_record
front_is new key moment = refl

-- the write of the record of a long key, and of a key that lies in it
pub steps_of_long : (new : NewEntry) (key : List ℕ) (moment w : ℕ) (bytes : List ℕ) → new.long_key ≡ Some w → bytes ≡ entry_bytes (new_record new key moment) ++ zeros 160 → words (Block (file_selector new.entry)) (place new.entry + 0) bytes ≡ record_steps new key moment
unfolding record_steps
steps_of_long new key moment w bytes long is =
    ap₂ (λ (i : ℕ) (l : List ℕ). words (Block (file_selector new.entry)) i l) (add-zero (place new.entry)) (is ∙ ap (λ (o : Option ℕ). entry_bytes (new_record new key moment) ++ empty_key_place o) (sym long))

pub steps_of_short : (new : NewEntry) (key : List ℕ) (moment : ℕ) (bytes : List ℕ) → new.long_key ≡ None → bytes ≡ entry_bytes (new_record new key moment) ++ zeros 160 → words (Block (file_selector new.entry)) (place new.entry + 0) (take 96 bytes) ≡ record_steps new key moment
unfolding record_steps
steps_of_short new key moment bytes short is =
    ap₂ (λ (i : ℕ) (l : List ℕ). words (Block (file_selector new.entry)) i l) (add-zero (place new.entry))
    (ap (take 96) is ∙ front_is new key moment ∙ sym (append-nil (entry_bytes (new_record new key moment))) ∙ ap (λ (o : Option ℕ). entry_bytes (new_record new key moment) ++ empty_key_place o) (sym short))

pub steps_of_node : (new : NewEntry) (moment : ℕ) (bytes : List ℕ) → bytes ≡ node_bytes (new_node new moment) → words (Block (file_selector new.node)) (place new.node + 0) bytes ≡ node_steps new moment
unfolding node_steps
steps_of_node new moment bytes is = ap₂ (λ (i : ℕ) (l : List ℕ). words (Block (file_selector new.node)) i l) (add-zero (place new.node)) is

-- the writes of the key, where it is known whether it is long
pub steps_of_key : (new : NewEntry) (key : List ℕ) (o : Option ℕ) → new.long_key ≡ o → ended_steps (address_of_key new.entry o) (before_key o) key ≡ key_steps new key
unfolding key_steps
steps_of_key new key o is = ap (λ (p : Option ℕ). ended_steps (address_of_key new.entry p) (before_key p) key) (sym is)
