-- The laws of the LRU list and of the chains.
use Rattle.std.specs.Prelude.{◌≡◌, ℕ, ◌<◌, ◌≤◌, true, false, ◌==◌, List, ◌∷◌, ◌++◌, length, map}
use Rattle.spec_image.specs.Image.{Image}
use Rattle.spec_format.specs.Address.{blocks_256}
use Rattle.spec_format.specs.BlockFiles.{is_among}
use Rattle.std.specs.declared.option.Option.TheVariants.{None}
use Rattle.spec_folder.specs.ListView.{ListView, IsList, IsAtRest, CanBeInserted, Distinct, put, after_writes}
use Rattle.spec_folder.specs.Walk.{walk}
use Rattle.spec_folder.specs.Completion.{insert, remove}
use Rattle.spec_folder.specs.ListPlans.{writes_of, touch_writes, completion_writes, completed_but_operation, CommitsAtTwo, stopped}
use Rattle.spec_folder.specs.View.{StoreView, stands_as, store_of}
use Rattle.spec_folder.specs.Chains.{file_and_block, most_records, is_of_bucket, chain, Linked, IsChain}

-- The LRU list.

-- the walk of a whole list is its nodes
abbrev pub WalksAreTheLists : Type 0
WalksAreTheLists = (list : ListView) (nodes : List ℕ) → IsList list nodes → walk list ≡ nodes

-- the nodes of a walk are different, and each is there with a right or absent checksum
abbrev pub WalksAreDistinct : Type 0
WalksAreDistinct = (list : ListView) → Distinct (walk list) × ((node : ℕ) → is_among (walk list) node ≡ true → list.checks node ≡ true)

-- an insert commits at its second write: after a crash the redo gives the old nodes before it, and the new ones from then on
abbrev pub InsertsCommitAtTwo : Type 0
InsertsCommitAtTwo = (node : ℕ) (list : ListView) (nodes : List ℕ) → CanBeInserted list nodes node → CommitsAtTwo list (writes_of insert node list) nodes (node ∷ nodes)

-- an insert ends with the LRU list idle and the node in front
abbrev pub InsertsEnd : Type 0
InsertsEnd = (node : ℕ) (list : ListView) (nodes : List ℕ) → CanBeInserted list nodes node → IsAtRest (after_writes (writes_of insert node list) list) (node ∷ nodes)

-- a removal commits at its second write: after a crash the redo gives the old nodes before it, and those without the node from then on
abbrev pub RemovalsCommitAtTwo : Type 0
RemovalsCommitAtTwo = (node : ℕ) (list : ListView) (prefix suffix : List ℕ) → IsAtRest list (prefix ++ node ∷ suffix) → CommitsAtTwo list (writes_of remove node list) (prefix ++ node ∷ suffix) (prefix ++ suffix)

-- a removal ends with the LRU list idle and without the node
abbrev pub RemovalsEnd : Type 0
RemovalsEnd = (node : ℕ) (list : ListView) (prefix suffix : List ℕ) → IsAtRest list (prefix ++ node ∷ suffix) → IsAtRest (after_writes (writes_of remove node list) list) (prefix ++ suffix)

-- an access commits at its second write: after a crash the redo gives the old order before it, and the node in front from then on
abbrev pub TouchesCommitAtTwo : Type 0
TouchesCommitAtTwo = (node : ℕ) (list : ListView) (prefix suffix : List ℕ) → IsAtRest list (prefix ++ node ∷ suffix) → CommitsAtTwo list (touch_writes node list) (prefix ++ node ∷ suffix) (node ∷ prefix ++ suffix)

-- an access ends with the LRU list idle and the node in front
abbrev pub TouchesEnd : Type 0
TouchesEnd = (node : ℕ) (list : ListView) (prefix suffix : List ℕ) → IsAtRest list (prefix ++ node ∷ suffix) → IsAtRest (after_writes (touch_writes node list) list) (node ∷ prefix ++ suffix)

-- redos of any LRU list that crash, as often as one likes, leave a list of which the redo gives the same but for the operation word
abbrev pub CompletingAgainIsTheSame : Type 0
CompletingAgainIsTheSame = (list : ListView) (counts : List ℕ) → completed_but_operation (stopped counts list) ≡ completed_but_operation list

-- all writes of a redo leave a list without an operation in flight, of which the redo gives the same but for the operation word
abbrev pub CompletionsEnd : Type 0
CompletionsEnd = (list : ListView) → completed_but_operation (after_writes (completion_writes list) list) ≡ completed_but_operation list × ((after_writes (completion_writes list) list).transaction ≡ 0)

-- The chains.

-- a whole chain is its records, and ends at the word 0
abbrev pub ChainsAreTheirRecords : Type 0
ChainsAreTheirRecords = (store : StoreView) (bucket : ℕ) (words : List ℕ) → store.entry 0 ≡ None → IsChain store bucket words → chain store bucket ≡ record { reached = words; end = 0 }

-- no whole chain has more records than there are first blocks
abbrev pub WholeChainsAreShort : Type 0
WholeChainsAreShort = (store : StoreView) (bucket : ℕ) (words : List ℕ) → IsChain store bucket words → length words ≤ most_records

-- the records of an image at different first blocks are fewer than there are first blocks, since data_0 is linked as a file of nodes
abbrev pub RecordsOfImagesAreFew : Type 0
RecordsOfImagesAreFew = (image : Image) (words : List ℕ) → ((w : ℕ) → is_among words w ≡ true → stands_as image blocks_256 w ≡ true) → Distinct (map file_and_block words) → length words < most_records

-- a whole chain of an image has fewer records than there are first blocks
abbrev pub ChainsOfImagesAreShort : Type 0
ChainsOfImagesAreShort = (image : Image) (bucket : ℕ) (words : List ℕ) → IsChain (store_of image) bucket words → length words < most_records

-- a record of the bucket whose next is the table word, and whose first block no record of the chain has, is put in front by the table word
abbrev pub RecordsAreLinkedInFront : Type 0
RecordsAreLinkedInFront = (store : StoreView) (bucket contents : ℕ) (words : List ℕ) → IsChain store bucket words → is_of_bucket store bucket contents ≡ true → store.chain_next contents ≡ store.table bucket
    → is_among (map file_and_block words) (file_and_block contents) ≡ false → IsChain (record store { table = put store.table bucket contents }) bucket (contents ∷ words)

-- the write of one bucket's word leaves the chains of the other buckets
abbrev pub OtherChainsStay : Type 0
OtherChainsStay = (store : StoreView) (bucket other word : ℕ) → (bucket == other) ≡ false → chain (record store { table = put store.table bucket word }) other ≡ chain store other

-- the records after the first of linked records are linked from the first one's next on, where their own links and buckets are as before
abbrev pub FirstRecordsAreUnlinked : Type 0
FirstRecordsAreUnlinked = (old new : StoreView) (bucket word contents : ℕ) (words : List ℕ)
    → ((w : ℕ) → is_among words w ≡ true → (is_of_bucket new bucket w ≡ is_of_bucket old bucket w) × (new.chain_next w ≡ old.chain_next w))
    → Linked old bucket word (contents ∷ words) → Linked new bucket (old.chain_next contents) words

-- the first record leaves a chain where the table word becomes its next
abbrev pub FirstRecordsLeaveChains : Type 0
FirstRecordsLeaveChains = (old new : StoreView) (bucket contents : ℕ) (words : List ℕ)
    → ((w : ℕ) → is_among words w ≡ true → (is_of_bucket new bucket w ≡ is_of_bucket old bucket w) × (new.chain_next w ≡ old.chain_next w))
    → new.table bucket ≡ old.chain_next contents → IsChain old bucket (contents ∷ words) → IsChain new bucket words

-- a later one of linked records is taken out where the record before it takes its next
abbrev pub LaterRecordsAreUnlinked : Type 0
LaterRecordsAreUnlinked = (old new : StoreView) (bucket word before contents : ℕ) (prefix suffix : List ℕ)
    → ((w : ℕ) → is_among (prefix ++ before ∷ suffix) w ≡ true → is_of_bucket new bucket w ≡ is_of_bucket old bucket w)
    → ((w : ℕ) → is_among prefix w ≡ true → new.chain_next w ≡ old.chain_next w) → ((w : ℕ) → is_among suffix w ≡ true → new.chain_next w ≡ old.chain_next w) → new.chain_next before ≡ old.chain_next contents
    → Linked old bucket word (prefix ++ before ∷ contents ∷ suffix) → Linked new bucket word (prefix ++ before ∷ suffix)

-- a later record leaves a chain where the record before it takes its next, and the table word is as before
abbrev pub LaterRecordsLeaveChains : Type 0
LaterRecordsLeaveChains = (old new : StoreView) (bucket before contents : ℕ) (prefix suffix : List ℕ)
    → ((w : ℕ) → is_among (prefix ++ before ∷ suffix) w ≡ true → is_of_bucket new bucket w ≡ is_of_bucket old bucket w)
    → ((w : ℕ) → is_among prefix w ≡ true → new.chain_next w ≡ old.chain_next w) → ((w : ℕ) → is_among suffix w ≡ true → new.chain_next w ≡ old.chain_next w) → new.chain_next before ≡ old.chain_next contents
    → new.table bucket ≡ old.table bucket → IsChain old bucket (prefix ++ before ∷ contents ∷ suffix) → IsChain new bucket (prefix ++ before ∷ suffix)
