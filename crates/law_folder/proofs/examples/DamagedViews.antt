-- Worked lists, chains and reasons, computed on views.
use Rattle.std.proofs.Common.{◌≡◌, ℕ, List, [], ◌∷◌, refl, true, false, Option, Some, None, is_some}
use Rattle.std.specs.Prelude.{if◌then◌else◌, map, ◌==◌, ◌&&◌, codes}
use Rattle.std.specs.Option.{option_map_or}
use Rattle.spec_format.specs.Hash.{of_one, of_bytes, mixed, hash}
use Rattle.spec_format.specs.Address.{kind_of, block_count, file_selector, first_block, external_number}
use Rattle.spec_format.specs.Storage.{entry_blocks}
use Rattle.spec_format.specs.Claims.{claims_of, has_claim, overlap, repeats}
use Rattle.spec_format.specs.Names.{read_name, split_last}
use Rattle.spec_format.specs.SparseIndex.{read_parent_index}
use Rattle.spec_folder.specs.ListView.{ListView}
use Rattle.spec_folder.specs.Walk.{walk, walk_from}
use Rattle.spec_folder.specs.Completion.{counts, completed_list}
use Rattle.spec_folder.specs.View.{View, NodeFields, RecordFields}
use Rattle.spec_folder.specs.Chains.{chain_from, chain}
use Rattle.spec_folder.specs.Entries.{is_key_length, stored_key, stored_stream, stored_streams, role_of, parent_role, part_role}
use Rattle.spec_folder.specs.Reasons.{Reason}
use Rattle.spec_folder.specs.Reasons as reason
use Rattle.spec_folder.specs.Loads.{held_rule, load, load_key, load_record, record_claims, all_claims}
use Rattle.spec_folder.specs.Audit.{shares_key, is_orphan, admit, verdicts, kept_among, dropped_among, kept_by, is_unlisted, unlisted_in}

-- what is at a word
abbrev pub at_word : {A : Type 0} → List (ℕ × A) → ℕ → Option A
at_word [] w = None
at_word (given ∷ others) w = if given.0 == w then Some given.1 else at_word others w

-- a node by its next, prev, contents and dirty flag
pub record Row : Type 0 where
  pub next : ℕ
  pub prev : ℕ
  pub contents : ℕ
  pub dirty : ℕ

-- a clean node
abbrev pub node : ℕ → ℕ → ℕ → Row
node next prev contents = record { next = next; prev = prev; contents = contents; dirty = 0 }

-- a record with its next
pub record Linked : Type 0 where
  pub chain_next : ℕ
  pub fields : RecordFields

-- a normal plain record of the key `a` that a node names, with no streams
abbrev pub plain_core : ℕ → RecordFields
plain_core w = record {
  checks = true;
  hash = 0x115EA782;
  rankings_node = w;
  state = 0;
  key_len = 1;
  long_key = 0;
  data_size = 0 ∷ 0 ∷ 0 ∷ 0 ∷ [];
  data_addr = 0 ∷ 0 ∷ 0 ∷ 0 ∷ [];
  flags = 0;
}

abbrev pub entry : ℕ → ℕ → Linked
entry chain_next w = record { chain_next = chain_next; fields = plain_core w }

-- the field of what is at a word, or 0
abbrev field : {A : Type 0} → (A → ℕ) → List (ℕ × A) → ℕ → ℕ
field part given w = option_map_or part (at_word given w) 0

-- a view of nodes whose checksums are right or absent, and of records with the key `a`, in the chain of its bucket; five bytes of data are at 0xA0010008
abbrev pub shown : ℕ → ℕ → List (ℕ × Row) → List (ℕ × Linked) → View
shown head first nodes entries = record {
  list = record {
    head = head;
    tail = 0;
    transaction = 0;
    operation = 0;
    checks = λ w. is_some (at_word nodes w);
    next = field (λ n. n.next) nodes;
    prev = field (λ n. n.prev) nodes;
  };
  store = record {
    node_fields = λ w. option_map_or (λ n. let said : NodeFields = record { contents = n.contents; dirty = n.dirty } in Some said) (at_word nodes w) None;
    table = λ b. if b == 0xA782 then first else 0;
    chain_next = field (λ e. e.chain_next) entries;
    entry = λ w. option_map_or (λ e. Some e.fields) (at_word entries w) None;
    key_place = λ w n. codes "a";
    stored = λ size w. if (size == 0) && (w == 0) then Some [] else if (size == 5) && (w == 0xA0010008) then Some (codes "hello") else None;
  };
}

-- the nodes that are kept
abbrev pub kept_nodes : View → List ℕ
kept_nodes view = map (λ l. l.node) (kept_by held_rule view)

-- the nodes that are dropped, with their reasons
abbrev pub dropped_nodes : View → List (ℕ × Reason)
dropped_nodes view = dropped_among view.store held_rule (walk view.list)

-- Lists and chains.

-- one record, whose next names itself: it is kept
looped : View
looped = shown 0x90000000 0xA0010000 ((0x90000000, node 0x90000000 0x90000000 0xA0010000) ∷ []) ((0xA0010000, entry 0xA0010000 0x90000000) ∷ [])

looped_is_kept : kept_nodes looped ≡ 0x90000000 ∷ []
unfolding looped kept_among verdicts load load_record load_key admit is_key_length stored_key stored_stream stored_streams role_of shares_key is_orphan record_claims all_claims claims_of has_claim overlap repeats kind_of block_count file_selector first_block external_number entry_blocks walk walk_from chain_from hash mixed of_bytes of_one
looped_is_kept = refl

-- the chain of a record whose next names itself ends at that word
looped_chain : chain looped.store 0xA782 ≡ record { reached = 0xA0010000 ∷ []; end = 0xA0010000 }
unfolding looped chain_from
looped_chain = refl

-- three nodes, whose records have the keys `c`, `b` and `a`, each the first of its bucket; the node in the middle has this prev
in_three : ℕ → View
in_three prev =
    let plain : View = shown 0x90000002 0
    ((0x90000002, node 0x90000001 0x90000002 0xA0010002) ∷ (0x90000001, node 0x90000000 prev 0xA0010001) ∷ (0x90000000, node 0x90000000 0x90000001 0xA0010000) ∷ [])
    ((0xA0010002, record { chain_next = 0; fields = record (plain_core 0x90000002) { hash = 0xF4C73EBF } }) ∷ (0xA0010001, record { chain_next = 0; fields = record (plain_core 0x90000001) { hash = 0x70C1A0E1 } }) ∷ (0xA0010000, entry 0 0x90000000) ∷ []) in
    record plain {
      store = record plain.store {
        table = λ b. if b == 0x3EBF then 0xA0010002 else if b == 0xA0E1 then 0xA0010001 else if b == 0xA782 then 0xA0010000 else 0;
        key_place = λ w n. if w == 0xA0010002 then codes "c" else if w == 0xA0010001 then codes "b" else codes "a";
      };
    }

-- where the prev of the node in the middle is right, all three are kept
all_three : kept_nodes (in_three 0x90000002) ≡ 0x90000002 ∷ 0x90000001 ∷ 0x90000000 ∷ []
unfolding in_three kept_among verdicts load load_record load_key admit is_key_length stored_key stored_stream stored_streams role_of shares_key is_orphan record_claims all_claims claims_of has_claim overlap repeats kind_of block_count file_selector first_block external_number entry_blocks walk walk_from chain_from hash mixed of_bytes of_one
all_three = refl

-- where the prev of the node in the middle is wrong, the walk ends before it
crossed : View
crossed = in_three 0x90000001

crossed_walk : walk crossed.list ≡ 0x90000002 ∷ []
unfolding crossed in_three walk walk_from
crossed_walk = refl

-- where the walk ends before the second node, the first alone is kept
crossed_kept : kept_nodes crossed ≡ 0x90000002 ∷ []
unfolding crossed in_three kept_among verdicts load load_record load_key admit is_key_length stored_key stored_stream stored_streams role_of shares_key is_orphan record_claims all_claims claims_of has_claim overlap repeats kind_of block_count file_selector first_block external_number entry_blocks walk walk_from chain_from hash mixed of_bytes of_one
crossed_kept = refl

-- the records of nodes that the walk doesn't reach are unlisted
crossed_unlisted : (unlisted_in crossed 0x3EBF ≡ []) × (unlisted_in crossed 0xA0E1 ≡ (0xA0010001, reason.Unlisted) ∷ []) × (unlisted_in crossed 0xA782 ≡ (0xA0010000, reason.Unlisted) ∷ [])
unfolding crossed in_three is_unlisted walk walk_from chain_from
crossed_unlisted = (refl, refl, refl)

-- a list that is a loop is walked once around
ring : View
ring = shown 0x90000000 0 ((0x90000000, node 0x90000001 0x90000000 0) ∷ (0x90000001, node 0x90000000 0x90000000 0) ∷ []) []

ring_walk : walk ring.list ≡ 0x90000000 ∷ 0x90000001 ∷ []
unfolding ring walk walk_from
ring_walk = refl

-- Operations in flight.

-- an operation in flight on a node that isn't there doesn't count, nor does an unknown one; a removal of a node whose neighbours are there counts
with_operation : ℕ → ℕ → ListView
with_operation transaction operation = record looped.list { transaction = transaction; operation = operation }

no_node : counts (with_operation 0x90000005 1) ≡ false
unfolding with_operation looped counts
no_node = refl

no_operation : (counts (with_operation 0x90000000 0) ≡ false) × (counts (with_operation 0x90000000 4) ≡ false)
unfolding with_operation looped counts
no_operation = (refl, refl)

removal_counts : counts (with_operation 0x90000000 2) ≡ true
unfolding with_operation looped counts
removal_counts = refl

-- two nodes, with this head, and an operation on the first of them, which has these links
in_flight : (head next prev operation : ℕ) → ListView
in_flight head next prev operation =
    record (shown head 0 ((0x90000000, node next prev 0) ∷ (0x90000001, node 0x90000001 0x90000000 0) ∷ []) []).list { transaction = 0x90000000; operation = operation }

-- with a head that isn't there an insertion doesn't count, nor does a move; a removal does
lost_head : (counts (in_flight 0x90000007 0x90000001 0x90000000 1) ≡ false)
    × (counts (in_flight 0x90000007 0x90000001 0x90000000 2) ≡ true)
    × (counts (in_flight 0x90000007 0x90000001 0x90000000 3) ≡ false)
unfolding in_flight counts
lost_head = (refl, refl, refl)

-- with no head all three do
no_head : (counts (in_flight 0 0x90000001 0x90000000 1) ≡ true) × (counts (in_flight 0 0x90000001 0x90000000 2) ≡ true) × (counts (in_flight 0 0x90000001 0x90000000 3) ≡ true)
unfolding in_flight counts
no_head = (refl, refl, refl)

-- with a next that isn't there and a right prev a removal doesn't count, nor does a move; an insertion does
lost_next : (counts (in_flight 0x90000000 0x90000007 0x90000000 1) ≡ true)
    × (counts (in_flight 0x90000000 0x90000007 0x90000000 2) ≡ false)
    × (counts (in_flight 0x90000000 0x90000007 0x90000000 3) ≡ false)
unfolding in_flight counts
lost_next = (refl, refl, refl)

-- with a right next and a prev that isn't there a removal doesn't count, nor does a move; an insertion does
lost_prev : (counts (in_flight 0x90000000 0x90000001 0x90000007 1) ≡ true)
    × (counts (in_flight 0x90000000 0x90000001 0x90000007 2) ≡ false)
    × (counts (in_flight 0x90000000 0x90000001 0x90000007 3) ≡ false)
unfolding in_flight counts
lost_prev = (refl, refl, refl)

-- where the next is 0, the prev may be anything
no_next : (counts (in_flight 0x90000000 0 0x90000007 2) ≡ true) × (counts (in_flight 0x90000000 0 0x90000007 3) ≡ true)
unfolding in_flight counts
no_next = (refl, refl)

-- what doesn't count is taken as 0, and leaves the walk
not_counted : walk (completed_list (with_operation 0x90000005 1)) ≡ 0x90000000 ∷ []
unfolding with_operation looped completed_list counts walk walk_from
not_counted = refl

-- Two records.

-- with one key: the one nearer the front is kept, and the other has the reason `Name`
twins : View
twins = shown 0x90000000 0xA0010000
    ((0x90000000, node 0x90000001 0x90000000 0xA0010000) ∷ (0x90000001, node 0x90000001 0x90000000 0xA0010001) ∷ [])
    ((0xA0010000, entry 0xA0010001 0x90000000) ∷ (0xA0010001, entry 0 0x90000001) ∷ [])

twins_kept : kept_nodes twins ≡ 0x90000000 ∷ []
unfolding twins kept_among verdicts load load_record load_key admit is_key_length stored_key stored_stream stored_streams role_of shares_key is_orphan record_claims all_claims claims_of has_claim overlap repeats kind_of block_count file_selector first_block external_number entry_blocks walk walk_from chain_from hash mixed of_bytes of_one
twins_kept = refl

twins_dropped : dropped_nodes twins ≡ (0x90000001, reason.Name) ∷ []
unfolding twins dropped_among verdicts load load_record load_key admit is_key_length stored_key stored_stream stored_streams role_of shares_key is_orphan record_claims all_claims claims_of has_claim overlap repeats kind_of block_count file_selector first_block external_number entry_blocks walk walk_from chain_from hash mixed of_bytes of_one
twins_dropped = refl

-- that use one block, by a stream: the one nearer the front is kept, and the other has the reason `Claimed`, which comes before `Name`
with_stream : ℕ → ℕ → Linked
with_stream chain_next w = record { chain_next = chain_next; fields = record (plain_core w) { data_size = 5 ∷ 0 ∷ 0 ∷ 0 ∷ []; data_addr = 0xA0010008 ∷ 0 ∷ 0 ∷ 0 ∷ [] } }

rivals : View
rivals = shown 0x90000000 0xA0010000
    ((0x90000000, node 0x90000001 0x90000000 0xA0010000) ∷ (0x90000001, node 0x90000001 0x90000000 0xA0010001) ∷ [])
    ((0xA0010000, with_stream 0xA0010001 0x90000000) ∷ (0xA0010001, with_stream 0 0x90000001) ∷ [])

rivals_kept : kept_nodes rivals ≡ 0x90000000 ∷ []
unfolding rivals with_stream kept_among verdicts load load_record load_key admit is_key_length stored_key stored_stream stored_streams role_of shares_key is_orphan record_claims all_claims claims_of has_claim overlap repeats kind_of block_count file_selector first_block external_number entry_blocks walk walk_from chain_from hash mixed of_bytes of_one
rivals_kept = refl

rivals_dropped : dropped_nodes rivals ≡ (0x90000001, reason.Claimed) ∷ []
unfolding rivals with_stream dropped_among verdicts load load_record load_key admit is_key_length stored_key stored_stream stored_streams role_of shares_key is_orphan record_claims all_claims claims_of has_claim overlap repeats kind_of block_count file_selector first_block external_number entry_blocks walk walk_from chain_from hash mixed of_bytes of_one
rivals_dropped = refl

-- so it is where their keys are `b` and `a`, each the first of its bucket, with `b` nearer the front
strangers : View
strangers =
    let plain : View = shown 0x90000001 0
    ((0x90000001, node 0x90000000 0x90000001 0xA0010001) ∷ (0x90000000, node 0x90000000 0x90000001 0xA0010000) ∷ [])
    ((0xA0010001, record { chain_next = 0; fields = record (with_stream 0 0x90000001).fields { hash = 0x70C1A0E1 } }) ∷ (0xA0010000, with_stream 0 0x90000000) ∷ []) in
    record plain {
      store = record plain.store {
        table = λ b. if b == 0xA0E1 then 0xA0010001 else if b == 0xA782 then 0xA0010000 else 0;
        key_place = λ w n. if w == 0xA0010001 then codes "b" else codes "a";
      };
    }

strangers_kept : kept_nodes strangers ≡ 0x90000001 ∷ []
unfolding strangers with_stream kept_among verdicts load load_record load_key admit is_key_length stored_key stored_stream stored_streams role_of shares_key is_orphan record_claims all_claims claims_of has_claim overlap repeats kind_of block_count file_selector first_block external_number entry_blocks walk walk_from chain_from hash mixed of_bytes of_one
strangers_kept = refl

strangers_dropped : dropped_nodes strangers ≡ (0x90000000, reason.Claimed) ∷ []
unfolding strangers with_stream dropped_among verdicts load load_record load_key admit is_key_length stored_key stored_stream stored_streams role_of shares_key is_orphan record_claims all_claims claims_of has_claim overlap repeats kind_of block_count file_selector first_block external_number entry_blocks walk walk_from chain_from hash mixed of_bytes of_one
strangers_dropped = refl

-- One record for each reason.

-- what is dropped where the one record is this, at this address and with this dirty flag
dropped_for : ℕ → ℕ → RecordFields → List (ℕ × Reason)
dropped_for contents dirty fields =
    dropped_nodes (shown 0x90000000 contents ((0x90000000, record { next = 0x90000000; prev = 0x90000000; contents = contents; dirty = dirty }) ∷ []) ((contents, record { chain_next = 0; fields = fields }) ∷ []))

-- the record that is kept
good : RecordFields
good = plain_core 0x90000000

nothing_dropped : dropped_for 0xA0010000 0 good ≡ []
unfolding dropped_for good dropped_among verdicts load load_record load_key admit is_key_length stored_key stored_stream stored_streams role_of shares_key is_orphan record_claims all_claims claims_of has_claim overlap repeats kind_of block_count file_selector first_block external_number entry_blocks walk walk_from chain_from hash mixed of_bytes of_one
nothing_dropped = refl

no_contents : dropped_nodes (shown 0x90000000 0 ((0x90000000, node 0x90000000 0x90000000 0xA0010003) ∷ []) []) ≡ (0x90000000, reason.Contents) ∷ []
unfolding dropped_among verdicts load walk walk_from
no_contents = refl

for_seal_state_back : (dropped_for 0xA0010000 0 (record good { checks = false }) ≡ (0x90000000, reason.Seal) ∷ [])
    × (dropped_for 0xA0010000 0 (record good { state = 2 }) ≡ (0x90000000, reason.State) ∷ [])
    × (dropped_for 0xA0010000 0 (record good { rankings_node = 0x90000001 }) ≡ (0x90000000, reason.Back) ∷ [])
unfolding dropped_for good dropped_among verdicts load load_record load_key admit walk walk_from
for_seal_state_back = (refl, refl, refl)

for_flags_dirt : (dropped_for 0xA0010000 0 (record good { flags = 3 }) ≡ (0x90000000, reason.Flags) ∷ []) × (dropped_for 0xA0010000 5 good ≡ (0x90000000, reason.Dirty) ∷ [])
unfolding dropped_for good dropped_among verdicts load load_record load_key admit walk walk_from
for_flags_dirt = (refl, refl)

-- a key of no byte, one that is too long, and one that takes more blocks than the address has
for_key_length : (dropped_for 0xA0010000 0 (record good { key_len = 0 }) ≡ (0x90000000, reason.KeyLength) ∷ [])
    × (dropped_for 0xA0010000 0 (record good { key_len = 32769 }) ≡ (0x90000000, reason.KeyLength) ∷ [])
    × (dropped_for 0xA0010000 0 (record good { key_len = 160 }) ≡ (0x90000000, reason.KeyLength) ∷ [])
    × (dropped_for 0xA1010000 0 good ≡ (0x90000000, reason.KeyLength) ∷ [])
unfolding dropped_for good dropped_among verdicts load load_record load_key admit is_key_length block_count entry_blocks walk walk_from
for_key_length = (refl, refl, refl, refl)

-- a place of a long key where the key is short, and none where it is long
for_key_place : (dropped_for 0xA0010000 0 (record good { long_key = 0xA0010004 }) ≡ (0x90000000, reason.KeyPlace) ∷ [])
    × (dropped_for 0xA0010000 0 (record good { key_len = 928 }) ≡ (0x90000000, reason.KeyPlace) ∷ [])
unfolding dropped_for good dropped_among verdicts load load_record load_key admit is_key_length stored_key block_count entry_blocks walk walk_from
for_key_place = (refl, refl)

for_hash : dropped_for 0xA0010000 0 (record good { hash = 0x125EA782 }) ≡ (0x90000000, reason.Hash) ∷ []
unfolding dropped_for good dropped_among verdicts load load_record load_key admit is_key_length stored_key block_count entry_blocks walk walk_from hash mixed of_bytes of_one
for_hash = refl

-- the table doesn't name it
for_chain : dropped_nodes (shown 0x90000000 0 ((0x90000000, node 0x90000000 0x90000000 0xA0010000) ∷ []) ((0xA0010000, entry 0 0x90000000) ∷ [])) ≡ (0x90000000, reason.Chain) ∷ []
unfolding dropped_among verdicts load load_record load_key admit is_key_length stored_key block_count entry_blocks walk walk_from chain_from hash mixed of_bytes of_one
for_chain = refl

-- a stream whose storage isn't there, one that is too large, and a stream 3
for_streams : (dropped_for 0xA0010000 0 (record good { data_size = 6 ∷ 0 ∷ 0 ∷ 0 ∷ [] }) ≡ (0x90000000, reason.Streams) ∷ [])
    × (dropped_for 0xA0010000 0 (record good { data_size = 0x80000000 ∷ 0 ∷ 0 ∷ 0 ∷ [] }) ≡ (0x90000000, reason.Streams) ∷ [])
    × (dropped_for 0xA0010000 0 (record good { data_size = 0 ∷ 0 ∷ 0 ∷ 1 ∷ [] }) ≡ (0x90000000, reason.Streams) ∷ [])
unfolding dropped_for good dropped_among verdicts load load_record load_key admit is_key_length stored_key stored_stream stored_streams block_count entry_blocks walk walk_from chain_from hash mixed of_bytes of_one
for_streams = (refl, refl, refl)

-- a parent with no index, and a part whose key is no name
for_sparse : (dropped_for 0xA0010000 0 (record good { flags = 1 }) ≡ (0x90000000, reason.Sparse) ∷ []) × (dropped_for 0xA0010000 0 (record good { flags = 2 }) ≡ (0x90000000, reason.Sparse) ∷ [])
unfolding dropped_for good dropped_among verdicts load load_record load_key admit is_key_length stored_key stored_stream stored_streams role_of parent_role part_role read_parent_index read_name split_last block_count entry_blocks walk walk_from chain_from hash mixed of_bytes of_one
for_sparse = (refl, refl)

-- the stream of a record that lies in the record itself
for_claims : dropped_for 0xA0010008 0 (record good { data_size = 5 ∷ 0 ∷ 0 ∷ 0 ∷ []; data_addr = 0xA0010008 ∷ 0 ∷ 0 ∷ 0 ∷ [] }) ≡ (0x90000000, reason.Claimed) ∷ []
unfolding dropped_for good dropped_among verdicts load load_record load_key admit is_key_length stored_key stored_stream stored_streams role_of shares_key is_orphan record_claims all_claims claims_of has_claim overlap repeats kind_of block_count file_selector first_block external_number entry_blocks walk walk_from chain_from hash mixed of_bytes of_one
for_claims = refl

-- a chained record of no walked node
lone : View
lone = shown 0 0xA0010000 [] ((0xA0010000, entry 0 0x90000000) ∷ [])

lone_is_unlisted : unlisted_in lone 0xA782 ≡ (0xA0010000, reason.Unlisted) ∷ []
unfolding lone is_unlisted walk walk_from chain_from
lone_is_unlisted = refl
