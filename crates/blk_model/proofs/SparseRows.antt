-- Worked sparse sessions on the model, computed.
use Rattle.std.proofs.Common.{◌≡◌, List, [], ◌∷◌, ◌++◌, refl, codes, map}
use Rattle.blk_model.specs.declared.Answer.TheVariants as answer
use Rattle.blk_model.specs.declared.Refusal.TheVariants as refusal
use Rattle.blk_model.specs.Items.{Item, main, part, main_row, plain, item_of}
use Rattle.blk_model.specs.Charge.{part_name}
use Rattle.blk_model.specs.Request.{Request, to_create, to_list, to_total, to_doom_key, to_trim, to_close, to_sparse_write, to_sparse_read, to_sparse_range}
use Rattle.blk_model.specs.Reply.{Reply, answered, showed}
use Rattle.blk_model.specs.Room.{whole, single}
use Rattle.blk_model.specs.Step.{step}
use Rattle.blk_model.proofs.Computing.{computing}
use Rattle.blk_model.proofs.Rows.{after_all, replies, new, ok, wrote, gives, runs, totals, refuses, fill}

-- the name of a part, with the moment and the number in hexadecimal
names_of_parts : part_name (codes "v") 100 0 ∷ part_name (codes "v") 100 65535 ∷ [] ≡ codes "Range_v:64:0" ∷ codes "Range_v:64:ffff" ∷ []
unfolding computing
names_of_parts = refl

-- a write begins in the midst of block 0 and ends in the midst of block 2: its first piece is stored and not present
begins_in_a_block : replies new (to_create 0 (codes "v") ∷ to_sparse_write 0 524 (fill 1600) ∷ to_sparse_read 0 524 1600 ∷ to_sparse_range 0 524 1600 ∷ to_sparse_range 0 0 3000 ∷ to_sparse_range 0 1100 100 ∷ to_sparse_range 0 3000 100 ∷ to_total ∷ [])
    ≡ ok ∷ wrote 1600 ∷ gives [] ∷ runs 1024 1100 ∷ runs 1024 1100 ∷ runs 1100 100 ∷ runs 3000 0 ∷ totals 2 10585 ∷ []
unfolding computing
begins_in_a_block = refl

-- what follows at once makes block 2 whole, byte for byte
goes_on : replies new (to_create 0 (codes "v") ∷ to_sparse_write 0 524 (fill 1600) ∷ to_sparse_write 0 2124 (fill 24) ∷ to_sparse_range 0 0 9999 ∷ to_sparse_write 0 2148 (fill 924) ∷ to_sparse_range 0 0 9999 ∷ to_sparse_write 0 3080 (fill 1) ∷ to_sparse_range 0 0 9999 ∷ [])
    ≡ ok ∷ wrote 1600 ∷ wrote 24 ∷ runs 1024 1124 ∷ wrote 924 ∷ runs 1024 2048 ∷ wrote 1 ∷ runs 1024 2048 ∷ []
unfolding computing
goes_on = refl

-- a write further on, in another block, forgets the old partial block
partial_block_is_lost : replies new (to_create 0 (codes "v") ∷ to_sparse_write 0 0 (codes "abc") ∷ to_sparse_read 0 0 9 ∷ to_sparse_write 0 1024 (codes "d") ∷ to_sparse_read 0 0 9 ∷ to_sparse_read 0 1024 9 ∷ [])
    ≡ ok ∷ wrote 3 ∷ gives (codes "abc") ∷ wrote 1 ∷ gives [] ∷ gives (codes "d") ∷ []
unfolding computing
partial_block_is_lost = refl

-- a write of no byte accesses the main item and leaves the object plain
no_byte_changes_nothing : replies new (to_create 0 (codes "v") ∷ to_sparse_write 0 5 [] ∷ to_sparse_read 0 0 1 ∷ to_list ∷ [])
    ≡ ok ∷ wrote 0 ∷ refuses refusal.NotSparse ∷ ([], showed (main_row (codes "v") plain ([], [], []) ∷ [])) ∷ []
unfolding computing
no_byte_changes_nothing = refl

-- each sparse write puts the main item first and then the part; a part alone has its own item
abbrev two_parts : List Request
two_parts = to_create 0 (codes "v") ∷ to_sparse_write 0 1048576 (codes "y") ∷ to_sparse_write 0 0 (codes "x") ∷ []

items_listed : Reply → List Item
items_listed (showed rows) = map item_of rows
items_listed _ = []

order_of_use : items_listed (step (after_all new two_parts) 100 to_list).reply ≡ part (codes "v") 0 ∷ main (codes "v") ∷ part (codes "v") 1 ∷ []
unfolding computing items_listed
order_of_use = refl

-- a user's key may be a part's name: both live, and a doom takes the parts of its own object alone
key_like_a_part : replies (after_all new (to_create 0 (codes "v") ∷ to_sparse_write 0 0 (codes "x") ∷ [])) (to_create 1 (codes "Range_v:64:0") ∷ to_total ∷ to_doom_key (codes "v") ∷ to_list ∷ to_total ∷ [])
    ≡ ok ∷ totals 3 8474 ∷ ok ∷ ([], showed (main_row (codes "Range_v:64:0") plain ([], [], []) ∷ [])) ∷ totals 2 8269 ∷ []
unfolding computing
key_like_a_part = refl

-- a part may be evicted alone while its parent is open, and its bytes are absent then
part_goes_alone : replies (after_all new two_parts) (to_trim 8500 ∷ to_sparse_read 0 1048576 1 ∷ to_sparse_read 0 0 1 ∷ to_trim 0 ∷ to_total ∷ [])
    ≡ (single (codes "v") 1 ∷ [], answered (answer.Trimmed 1)) ∷ gives [] ∷ gives (codes "x") ∷ (single (codes "v") 0 ∷ [], answered (answer.Trimmed 1)) ∷ totals 1 8257 ∷ []
unfolding computing
part_goes_alone = refl

-- a closed sparse object is evicted with the parts in front of it
parent_takes_its_parts : replies (after_all new (two_parts ++ to_sparse_read 0 1048575 2 ∷ to_close 0 ∷ [])) (to_trim 8600 ∷ to_total ∷ [])
    ≡ (whole (codes "v") (1 ∷ 0 ∷ []) ∷ [], answered (answer.Trimmed 3)) ∷ totals 0 0 ∷ []
unfolding computing
parent_takes_its_parts = refl

-- a sparse range ends at 68719476736, and one call takes 1048576 bytes
bounds_of_ranges : replies (after_all new two_parts) (to_sparse_read 0 68719476735 1 ∷ to_sparse_read 0 68719476735 2 ∷ to_sparse_read 0 0 1048577 ∷ to_sparse_range 0 68719476736 0 ∷ to_sparse_range 0 68719476737 0 ∷ [])
    ≡ gives [] ∷ refuses refusal.RangeEnd ∷ refuses refusal.TooLarge ∷ runs 68719476736 0 ∷ refuses refusal.RangeEnd ∷ []
unfolding computing
bounds_of_ranges = refl
