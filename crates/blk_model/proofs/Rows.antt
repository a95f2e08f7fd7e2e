-- Worked sessions on the model, computed: what each command evicts and replies.
use Rattle.std.proofs.Common.{◌≡◌, ℕ, false, true, List, [], ◌∷◌, ◌++◌, refl, codes, replicate}
use Rattle.blk_model.specs.declared.Answer.TheVariants as answer
use Rattle.blk_model.specs.declared.Refusal.TheVariants as refusal
use Rattle.blk_model.specs.declared.Refusal.{Refusal}
use Rattle.blk_model.specs.Items.{main_row, plain}
use Rattle.blk_model.specs.Request.{Request, to_create, to_open, to_read, to_write, to_size, to_list, to_total, to_doom, to_doom_key, to_close, to_flush, to_sparse_write, to_sparse_read, to_sparse_range}
use Rattle.blk_model.specs.Reply.{Reply, answered, gave, showed}
use Rattle.blk_model.specs.Room.{Group, whole}
use Rattle.blk_model.specs.Sizes.{longest_stream}
use Rattle.blk_model.specs.State.{State}
use Rattle.blk_model.specs.Holding.{open_state}
use Rattle.blk_model.specs.Step.{step, Outcome}
use Rattle.blk_model.proofs.Computing.{computing}

-- what a command showed: its eviction units and its reply
abbrev pub shown : Outcome → List Group × Reply
shown outcome = (outcome.groups, outcome.reply)

-- what requests show, all at the moment 100
abbrev pub replies : State → List Request → List (List Group × Reply)
replies state [] = []
replies state (request ∷ requests) = shown (step state 100 request) ∷ replies (step state 100 request).state requests

-- the state after requests
abbrev pub after_all : State → List Request → State
after_all state [] = state
after_all state (request ∷ requests) = after_all (step state 100 request).state requests

-- an empty cache with so many bytes and items
abbrev pub empty : ℕ → ℕ → State
empty bytes count = open_state [] (record { max_bytes = bytes; max_items = count })

-- an empty cache with the usual limits
abbrev pub new : State
new = empty 83886080 65536

-- an empty cache of 1000 bytes: the low watermark is 938, and a stream has at most 125 bytes
abbrev pub small : State
small = empty 1000 65536

-- nothing evicted, and the answer Done
abbrev pub ok : List Group × Reply
ok = ([], answered answer.Done)

-- nothing evicted, and the answer Wrote
abbrev pub wrote : ℕ → List Group × Reply
wrote n = ([], answered (answer.Wrote n))

-- nothing evicted, and these bytes
abbrev pub gives : List ℕ → List Group × Reply
gives bytes = ([], gave bytes)

-- nothing evicted, and a range
abbrev pub runs : ℕ → ℕ → List Group × Reply
runs start length = ([], answered (answer.Range start length))

-- nothing evicted, and the totals
abbrev pub totals : ℕ → ℕ → List Group × Reply
totals items bytes = ([], answered (answer.Totals items bytes))

-- a refusal
abbrev pub refuses : Refusal → List Group × Reply
refuses why = ([], answered (answer.Refused why))

-- n data bytes
abbrev pub fill : ℕ → List ℕ
fill n = replicate n 0x7A

-- a stream has an eighth of what a cache keeps, and at most 2147483647 bytes
longest_streams : (longest_stream 1 ≡ 0) × ((longest_stream 1000 ≡ 125) × ((longest_stream 83886080 ≡ 10485760) × (longest_stream 17179869175 ≡ 2147483646)))
longest_streams = (refl, (refl, (refl, refl)))

capped_streams : (longest_stream 17179869176 ≡ 2147483647) × ((longest_stream 17179869184 ≡ 2147483647) × (longest_stream 1099511627776 ≡ 2147483647))
capped_streams = (refl, (refl, refl))

-- a write past the end of a stream fills the gap with zeros
gap_is_zeros : replies new (to_create 0 (codes "g") ∷ to_write 0 1 5000 false (codes "abc") ∷ to_read 0 1 4998 9 ∷ to_size 0 1 ∷ [])
    ≡ ok ∷ wrote 3 ∷ gives (0 ∷ 0 ∷ 97 ∷ 98 ∷ 99 ∷ []) ∷ ([], answered (answer.Size 5003)) ∷ []
unfolding computing
gap_is_zeros = refl

-- a write that cuts leaves nothing after it
cut_ends_the_stream : replies new (to_create 0 (codes "g") ∷ to_write 0 0 0 false (codes "abcdef") ∷ to_write 0 0 1 true (codes "x") ∷ to_read 0 0 0 9 ∷ [])
    ≡ ok ∷ wrote 6 ∷ wrote 1 ∷ gives (codes "ax") ∷ []
unfolding computing
cut_ends_the_stream = refl

-- a doomed object is read through its handle, is doomed only once, and leaves its key free
doomed_object_is_read : replies new (to_create 0 (codes "k") ∷ to_write 0 0 0 false (codes "ab") ∷ to_open 1 (codes "k") ∷ to_doom 0 ∷ to_read 1 0 0 9 ∷ to_doom 1 ∷ to_create 2 (codes "k") ∷ to_list ∷ to_total ∷ [])
    ≡ ok ∷ wrote 2 ∷ ok ∷ ok ∷ gives (codes "ab") ∷ refuses refusal.Doomed ∷ ok ∷ ([], showed (main_row (codes "k") plain ([], [], []) ∷ [])) ∷ totals 2 4 ∷ []
unfolding computing
doomed_object_is_read = refl

-- an object is flushed while it isn't doomed, and moves nowhere
flushed_object_stays : replies new (to_create 0 (codes "a") ∷ to_create 1 (codes "b") ∷ to_flush 0 ∷ to_flush 0 ∷ to_flush 2 ∷ to_flush 4096 ∷ to_list ∷ to_doom 0 ∷ to_flush 0 ∷ to_doom_key (codes "b") ∷ to_flush 1 ∷ [])
    ≡ ok ∷ ok ∷ ok ∷ ok ∷ refuses refusal.BadHandle ∷ refuses refusal.BadHandle ∷ ([], showed (main_row (codes "b") plain ([], [], []) ∷ main_row (codes "a") plain ([], [], []) ∷ [])) ∷ ok ∷ refuses refusal.Doomed ∷ ok ∷ refuses refusal.Doomed ∷ []
unfolding computing
flushed_object_stays = refl

-- a doomed object is also written through its handle, and counts with its cost until it is closed
doomed_object_is_written : replies new (to_create 0 (codes "k") ∷ to_doom_key (codes "k") ∷ to_write 0 2 0 false (codes "abc") ∷ to_total ∷ to_list ∷ to_read 0 2 1 9 ∷ to_close 0 ∷ to_total ∷ [])
    ≡ ok ∷ ok ∷ wrote 3 ∷ totals 1 4 ∷ ([], showed []) ∷ gives (codes "bc") ∷ ok ∷ totals 0 0 ∷ []
unfolding computing
doomed_object_is_written = refl

-- a doomed sparse object has lost its parts, and gives no sparse data
doomed_parts_are_gone : replies new (to_create 0 (codes "v") ∷ to_sparse_write 0 0 (codes "abc") ∷ to_sparse_read 0 0 9 ∷ to_doom 0 ∷ to_sparse_read 0 0 9 ∷ to_sparse_range 0 0 9 ∷ to_sparse_write 0 0 (codes "x") ∷ to_read 0 0 0 9 ∷ to_total ∷ [])
    ≡ ok ∷ wrote 3 ∷ gives (codes "abc") ∷ ok ∷ refuses refusal.Doomed ∷ refuses refusal.Doomed ∷ refuses refusal.Doomed ∷ gives [] ∷ totals 1 8257 ∷ []
unfolding computing
doomed_parts_are_gone = refl

-- an object made, filled and closed
abbrev made : List ℕ → ℕ → ℕ → ℕ → List Request
made key a b c = to_create 0 key ∷ to_write 0 0 0 false (fill a) ∷ to_write 0 1 0 false (fill b) ∷ to_write 0 2 0 false (fill c) ∷ to_close 0 ∷ []

abbrev four : List Request
four = made (codes "a") 39 0 0 ++ made (codes "b") 100 100 99 ++ made (codes "c") 100 100 99 ++ made (codes "d") 100 100 99

-- the least recently used are evicted, until no more than the low watermark is left
last_used_are_evicted : replies (after_all small four) (to_total ∷ to_create 0 (codes "e") ∷ to_write 0 0 0 false (fill 60) ∷ to_total ∷ [])
    ≡ totals 4 940 ∷ ok ∷ (whole (codes "a") [] ∷ whole (codes "b") [] ∷ [], answered (answer.Wrote 60)) ∷ totals 3 661 ∷ []
unfolding computing
last_used_are_evicted = refl

-- an object with a handle stays, though it is the least recently used
open_object_stays : replies (after_all small (to_create 9 (codes "a") ∷ to_write 9 0 0 false (fill 39) ∷ made (codes "b") 100 100 99 ++ made (codes "c") 100 100 99 ++ made (codes "d") 100 100 99)) (to_create 0 (codes "e") ∷ to_write 0 0 0 false (fill 60) ∷ to_total ∷ [])
    ≡ ok ∷ (whole (codes "b") [] ∷ [], answered (answer.Wrote 60)) ∷ totals 4 701 ∷ []
unfolding computing
open_object_stays = refl

-- an object made, filled and left open
abbrev left_open : ℕ → List ℕ → ℕ → ℕ → ℕ → List Request
left_open name key a b c = to_create name key ∷ to_write name 0 0 false (fill a) ∷ to_write name 1 0 false (fill b) ∷ to_write name 2 0 false (fill c) ∷ []

-- where all is pinned, the last byte that fits is written and the next is refused
pinned_bytes_fill_it : replies (after_all small (left_open 0 (codes "a") 125 125 125 ++ left_open 1 (codes "b") 125 125 125 ++ left_open 2 (codes "c") 125 100 0)) (to_total ∷ to_write 2 2 0 false (fill 23) ∷ to_total ∷ to_write 2 2 0 false (fill 22) ∷ to_total ∷ [])
    ≡ totals 3 978 ∷ refuses refusal.Full ∷ totals 3 978 ∷ wrote 22 ∷ totals 3 1000 ∷ []
unfolding computing
pinned_bytes_fill_it = refl

-- a third item needs one of two to be closed
pinned_items_fill_it : replies (empty 83886080 2) (to_create 0 (codes "a") ∷ to_create 1 (codes "b") ∷ to_create 2 (codes "c") ∷ to_close 0 ∷ to_create 2 (codes "c") ∷ [])
    ≡ ok ∷ ok ∷ refuses refusal.Full ∷ ok ∷ (whole (codes "a") [] ∷ [], answered answer.Done) ∷ []
unfolding computing
pinned_items_fill_it = refl

-- refusals on an open plain object, and on a sparse one
abbrev plain_a : State
plain_a = after_all new (to_create 0 (codes "a") ∷ [])

each_refusal : replies plain_a (to_create 0 (codes "a") ∷ to_create 1 (codes "a") ∷ to_create 4096 (codes "x") ∷ to_read 9 0 0 1 ∷ to_open 1 (codes "zz") ∷ to_create 1 [] ∷ to_read 0 3 0 1 ∷ to_sparse_read 0 0 1 ∷ to_sparse_read 0 68719476736 1 ∷ [])
    ≡ refuses refusal.HandleBusy ∷ refuses refusal.Exists ∷ refuses refusal.BadHandle ∷ refuses refusal.BadHandle ∷ refuses refusal.Missing ∷ refuses refusal.BadKey ∷ refuses refusal.BadStream ∷ refuses refusal.NotSparse ∷ refuses refusal.RangeEnd ∷ []
unfolding computing
each_refusal = refl

sparse_refusals : replies plain_a (to_sparse_write 0 0 (codes "a") ∷ to_size 0 1 ∷ to_read 0 2 0 1 ∷ to_write 0 1 0 false [] ∷ to_size 0 0 ∷ [])
    ≡ wrote 1 ∷ refuses refusal.SparseStream ∷ refuses refusal.SparseStream ∷ refuses refusal.SparseStream ∷ ([], answered (answer.Size 0)) ∷ []
unfolding computing
sparse_refusals = refl

-- a plain object with bytes in its stream 1 takes no sparse data
second_stream_keeps_it_plain : replies plain_a (to_write 0 1 0 false (codes "b") ∷ to_sparse_write 0 0 (codes "a") ∷ to_sparse_write 0 0 [] ∷ [])
    ≡ wrote 1 ∷ refuses refusal.NotSparse ∷ refuses refusal.NotSparse ∷ []
unfolding computing
second_stream_keeps_it_plain = refl

-- with the usual limits a stream ends at 10485760, and with 1000 bytes at 125
streams_end_at_an_eighth : replies plain_a (to_write 0 0 10485760 false (codes "a") ∷ []) ++ replies (after_all small (to_create 0 (codes "a") ∷ [])) (to_write 0 0 125 false (codes "a") ∷ to_write 0 0 124 false (codes "a") ∷ [])
    ≡ refuses refusal.TooLarge ∷ refuses refusal.TooLarge ∷ wrote 1 ∷ []
unfolding computing
streams_end_at_an_eighth = refl
