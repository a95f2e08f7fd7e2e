-- What the calls below meet is a failed check.
use Rattle.std.proofs.Common.{◌≡◌, ◌≢◌, ◌⊎◌, inl, inr, ℕ, List, Bool, true, Option, None, Some, length, refl, sym, subst, Result, Ok, Err, ap, ◌∙◌, ◌+◌, ◌≤◌, take, arith}
use Rattle.std.proofs.lemmas.Bool.{and_parts, leb-true}
use Rattle.std.proofs.lemmas.List.{take_all}
use Rattle.spec_image.proofs.Words.{length-range}
use Rattle.spec_format.specs.Address.{block_count}
use Rattle.spec_format.specs.Names.{read_name}
use Rattle.spec_format.specs.Storage.{entry_blocks}
use Rattle.spec_folder.specs.View.{entry_at}
use Rattle.blk_object.specs.ListedParts.{SaysPart, number_said}
use Rattle.std.specs.Prelude.{IfSome, IsErrAnd, ◌==◌, ◌&&◌, nat_le, slice_index}
use Rattle.std.specs.Option.{ForSome}
use Rattle.spec_image.specs.Bytes.{words_at as words_in}
use Rattle.spec_image.specs.Image.{Block, Image, word}
use Rattle.spec_image.specs.Told.{Told, Stays}
use Rattle.spec_format.specs.Address.{blocks_256, external, file_selector, kind_of, place}
use Rattle.spec_format.specs.BlockFiles.{is_among}
use Rattle.spec_format.specs.Records.{entry_in, entry_size}
use Rattle.spec_format.specs.Sealed.{BeginsWithRecord, record_size}
use Rattle.blk_addr.specs.declared.kinds.Kind.{Kind}
use Rattle.blk_addr.specs.Kind.{kind_number}
use Rattle.blk_io.specs.declared.folder.FileId.{FileId}
use Rattle.blk_io.specs.declared.fault.Damage.{Damage}
use Rattle.blk_io.specs.declared.fault.Fault.{Fault}
use Rattle.blk_io.specs.declared.fault.Fault.TheVariants.{Device, Damaged}
use Rattle.blk_io.specs.Faults.{IfDamaged, IsShort}
use Rattle.blk_io.proofs.Carried.{carried, if_damaged_weaker}
use Rattle.blk_disk.specs.declared.tables.BlockFiles.{BlockFiles}
use Rattle.blk_disk.specs.Damages.{IsFailedRecord, IsNodeWordDamage}
use Rattle.blk_disk.specs.Tables.{all_files, stands_among}
use Rattle.blk_alloc.specs.Allocating.{IsKindFull, IsRefusal}
use Rattle.blk_alloc.specs.Extending.{KeepsStanding}
use Rattle.blk_alloc.specs.Fitting.{IsMiscount, IsFittingDamage as IsBlockSearchDamage, IsShortSearch}
use Rattle.blk_alloc.specs.Owning.{IsCause}
use Rattle.blk_alloc.proofs.Members.{member_all}
use Rattle.blk_external.specs.Making.{AreNumbersUsedUp, last_file_place}
use Rattle.blk_io.specs.declared.folder.FileId.TheVariants as names
use Rattle.blk_entry.specs.Keys.{IsCut, IsCutPart, IsHeadDamage, IsKeyDamage, IsMisplacedKey, IsPartDamage, IsPiece, IsPlaceDamage, IsRecordHead, HasKeyPlace, key_bytes, may_have, most_key}
use Rattle.blk_entry.specs.declared.keys.Head.{Head}
use Rattle.blk_lru.specs.Damages.{IsInsertDamage, IsNeighbourDamage, IsRemovalDamage, IsTouchDamage, IsWrongNode}
use Rattle.blk_lru.proofs.NodeWords.{node_kind, node_stands}
use Rattle.blk_chain.specs.Finding.{IsSearchDamage, IsWrongRecord}
use Rattle.blk_chain.specs.Unlinking.{IsUnlinkDamage}
use Rattle.blk_chain.proofs.Heads.{names-parts}
use Rattle.blk_stream.specs.Streams.{IsReadDamage}
use Rattle.blk_object.specs.FailedChecks.{FailsCount, FailsFull, FailsLong, FailsPlace, FailsSeal, FailsShort, IsFailedCheck, IsLostWord, IsWrongWithin, OfLink, OfNode, ReadsTooFew, WithinRecord, WrongKey, WrongPlace, WrongStream}

-- what `?` hands on is a failed check, where what was met is one
pub handed : {A B : Type 0} (r : Result A Fault) (q : Result B Fault) (e : Fault) (P : Damage → Type 0) (files : BlockFiles) (told : Told) → ((damage : Damage) → P damage → IsFailedCheck files told damage)
    → r ≡ Err e → IsErrAnd q (λ (x : Fault). x ≡ e) → IfDamaged r P → IfDamaged q (IsFailedCheck files told)
handed r q e P files told checks is same holds = carried r q e (IsFailedCheck files told) is same (if_damaged_weaker r P (IsFailedCheck files told) checks holds)

-- so is a word of the index that has too few bytes
pub few-handed : {A B : Type 0} (r : Result A Fault) (q : Result B Fault) (e : Fault) (old new : Told) (file : FileId) (start count : ℕ) → Stays old new
    → r ≡ Err e → IsErrAnd q (λ (x : Fault). x ≡ e) → IfDamaged r (IsShort old file start count) → IfDamaged q (ReadsTooFew new)
few-handed r q e old new file start count stays is same holds =
    carried r q e (ReadsTooFew new) is same (if_damaged_weaker r (IsShort old file start count) (ReadsTooFew new)
    (λ damage short. record { file = file; start = start; count = count; short = subst (λ (t : Told). IsShort t file start count damage) (sym stays) short }) holds)

-- what failed and left the files as they were failed on the files as they are
pub checked-after : {A : Type 0} (r : Result A Fault) (files : BlockFiles) (old new : Told) → Stays old new → IfDamaged r (IsFailedCheck files old) → IfDamaged r (IsFailedCheck files new)
checked-after r files old new stays holds = subst (λ (t : Told). IfDamaged r (IsFailedCheck files t)) (sym stays) holds

-- where a failed check says that nothing was written, what failed before failed on the files as they are
pub checked-where-stays : {A : Type 0} (r : Result A Fault) (files : BlockFiles) (old new : Told) (P : Damage → Type 0) → ((damage : Damage) → P damage → IsFailedCheck files old damage)
    → IfDamaged r (λ _. Stays old new) → IfDamaged r P → IfDamaged r (IsFailedCheck files new)
checked-where-stays (Ok a) files old new P checks stays holds = tt
checked-where-stays (Err Device) files old new P checks stays holds = tt
checked-where-stays (Err (Damaged damage)) files old new P checks stays holds = subst (λ (t : Told). IsFailedCheck files t damage) (sym stays) (checks damage holds)

pub checked-handed : {A B : Type 0} (r : Result A Fault) (q : Result B Fault) (e : Fault) (files : BlockFiles) (old new : Told) (P : Damage → Type 0) → ((damage : Damage) → P damage → IsFailedCheck files old damage)
    → r ≡ Err e → IsErrAnd q (λ (x : Fault). x ≡ e) → IfDamaged r (λ _. Stays old new) → IfDamaged r P → IfDamaged q (IsFailedCheck files new)
checked-handed r q e files old new P checks is same stays holds = carried r q e (IsFailedCheck files new) is same (checked-where-stays r files old new P checks stays holds)

-- what holds of some value holds of this one
pub of-some : {A : Type 0} (o : Option A) (a : A) (P : A → Type 0) → o ≡ Some a → IfSome o P → P a
of-some {A} o a P is holds = let q : IfSome (Some a) P = subst (λ (x : Option A). IfSome x P) is holds in q

-- a read that gave too few bytes
pub short-checked : (files : BlockFiles) (told : Told) (file : FileId) (start count : ℕ) (damage : Damage) → IsShort told file start count damage → IsFailedCheck files told damage
short-checked files told file start count damage short = FailsShort (record { file = file; start = start; count = count; short = short })

-- a node or a record that was read whole
pub record-checked : (files : BlockFiles) (told : Told) (w size : ℕ) (damage : Damage) → BeginsWithRecord w → stands_among files w ≡ true → IsFailedRecord told w size damage → IsFailedCheck files told damage
record-checked files told w size damage begins stands (inl short) = short-checked files told _ _ _ damage short
record-checked files told w size damage begins stands (inr unsealed) = FailsSeal (record { address = w; begins = begins; stands = stands; unsealed = unsealed })

-- an entry record that was read whole
pub head-checked : (files : BlockFiles) (told : Told) (entry : ℕ) (damage : Damage) → kind_of entry ≡ blocks_256 → stands_among files entry ≡ true → IsHeadDamage told entry damage → IsFailedCheck files told damage
head-checked files told entry damage kind stands wrong = record-checked files told entry entry_size damage (inr kind) stands wrong

-- a word that was to name a node
pub node-word-checked : (files : BlockFiles) (told : Told) (file : FileId) (at : ℕ) (damage : Damage) → IsNodeWordDamage files told file at damage → IsFailedCheck files told damage
node-word-checked files told file at damage (inl short) = short-checked files told file at 4 damage short
node-word-checked files told file at damage (inr none) = FailsPlace (OfNode file at none)

-- a word within a record
pub within-checked : (files : BlockFiles) (told : Told) (entry : ℕ) (damage : Damage) → kind_of entry ≡ blocks_256 → stands_among files entry ≡ true → IsWrongWithin files told entry damage → IsFailedCheck files told damage
within-checked files told entry damage kind stands wrong = FailsPlace (WithinRecord (record { entry = entry; kind = kind; stands = stands; wrong = wrong }))

cut-checked : (files : BlockFiles) (told : Told) (w at n : ℕ) (damage : Damage) → IsCut told w at n damage → IsFailedCheck files told damage
cut-checked files told w at n damage short = short-checked files told _ _ _ damage short

-- a key that was compared
place-checked : (files : BlockFiles) (told : Told) (entry key_len long_key : ℕ) (damage : Damage) → kind_of entry ≡ blocks_256 → stands_among files entry ≡ true → IsPlaceDamage files told entry key_len long_key damage → IsFailedCheck files told damage
place-checked files told entry key_len long_key damage kind stands (inl cut) = cut-checked files told _ _ _ damage cut.cut.cut
place-checked files told entry key_len long_key damage kind stands (inr wrong) = within-checked files told entry damage kind stands (WrongKey key_len long_key wrong)

key-checked : (files : BlockFiles) (told : Told) (entry key_len : ℕ) (damage : Damage) → kind_of entry ≡ blocks_256 → stands_among files entry ≡ true → IsKeyDamage files told entry key_len damage → IsFailedCheck files told damage
key-checked files told entry key_len damage kind stands (inl head) = head-checked files told entry damage kind stands head
key-checked files told entry key_len damage kind stands (inr wrong) = place-checked files told entry key_len wrong.long_key damage kind stands wrong.wrong

wrong-record-checked : (files : BlockFiles) (told : Told) (key_len : ℕ) (damage : Damage) → IsWrongRecord files told key_len damage → IsFailedCheck files told damage
wrong-record-checked files told key_len damage wrong =
    let parts = names-parts files wrong.entry wrong.stands in
    key-checked files told wrong.entry key_len damage parts.1.0 parts.1.1 wrong.wrong

-- a search in a chain
pub search-checked : (files : BlockFiles) (told : Told) (key : List ℕ) (is_child : Bool) (damage : Damage) → IsSearchDamage files told key is_child damage → IsFailedCheck files told damage
search-checked files told key is_child damage (inl short) = short-checked files told _ _ _ damage short
search-checked files told key is_child damage (inr (inl dangling)) = FailsPlace (OfLink _ dangling)
search-checked files told key is_child damage (inr (inr (inl wrong))) = wrong-record-checked files told (length key) damage wrong
search-checked files told key is_child damage (inr (inr (inr long))) = FailsLong (inl (record { key = key; is_child = is_child; long = long }))

-- the bytes of a key that are read
pub part-checked : (files : BlockFiles) (told : Told) (entry at size : ℕ) (damage : Damage) → kind_of entry ≡ blocks_256 → stands_among files entry ≡ true → IsPartDamage files told entry at size damage → IsFailedCheck files told damage
part-checked files told entry at size damage kind stands (inl head) = head-checked files told entry damage kind stands head
part-checked files told entry at size damage kind stands (inr wrong) = go wrong.wrong
  where
    go : IsCutPart files told entry wrong.key_len wrong.long_key at size damage ⊎ IsMisplacedKey files entry wrong.key_len wrong.long_key damage → IsFailedCheck files told damage
    go (inl cut) = cut-checked files told _ _ _ damage cut.cut
    go (inr misplaced) = within-checked files told entry damage kind stands (WrongKey wrong.key_len wrong.long_key misplaced)

-- a record that is taken out of its chain, after one before it or at the front
pub unlink-checked : (files : BlockFiles) (told : Told) (entry : ℕ) (before : Option ℕ) (damage : Damage) → ((w : ℕ) → before ≡ Some w → (kind_of w ≡ blocks_256) × (stands_among files w ≡ true)) → IsUnlinkDamage told entry before damage → IsFailedCheck files told damage
unlink-checked files told entry None damage good (inl short) = short-checked files told _ _ _ damage short
unlink-checked files told entry None damage good (inr short) = short-checked files told _ _ _ damage short
unlink-checked files told entry (Some w) damage good (inl short) = short-checked files told _ _ _ damage short
unlink-checked files told entry (Some w) damage good (inr failed) = record-checked files told w (record_size w) damage (inr (good w refl).0) (good w refl).1 failed

-- a node that is there
pub node-checked : (files : BlockFiles) (told : Told) (damage : Damage) → IsWrongNode files told damage → IsFailedCheck files told damage
node-checked files told damage wrong = record-checked files told wrong.node _ damage (inl (node_kind files wrong.node wrong.stands)) (node_stands files wrong.node wrong.stands) wrong.failed

-- where nothing was written
pub moved : (files : BlockFiles) (old new : Told) (damage : Damage) → Stays old new → IsFailedCheck files old damage → IsFailedCheck files new damage
moved files old new damage stays failed = subst (λ (t : Told). IsFailedCheck files t damage) (sym stays) failed

-- the calls on the LRU list
pub insert-checked : (files : BlockFiles) (old new : Told) (damage : Damage) → IsInsertDamage files old new damage → IsFailedCheck files new damage
insert-checked files old new damage (inl read) = moved files old new damage read.1 (node-word-checked files old _ _ damage read.0)
insert-checked files old new damage (inr wrong) = node-checked files new damage wrong

neighbour-checked : (node : ℕ) (files : BlockFiles) (old new : Told) (damage : Damage) → IsNeighbourDamage node files old new damage → IsFailedCheck files new damage
neighbour-checked node files old new damage (inl next, stays) = moved files old new damage stays (node-word-checked files old _ _ damage next)
neighbour-checked node files old new damage (inr prev, stays) = moved files old new damage stays (node-word-checked files old _ _ damage prev)

pub removal-checked : (node : ℕ) (files : BlockFiles) (old new : Told) (damage : Damage) → IsRemovalDamage node files old new damage → IsFailedCheck files new damage
removal-checked node files old new damage (inl read) = neighbour-checked node files old new damage read
removal-checked node files old new damage (inr wrong) = node-checked files new damage wrong

pub touch-checked : (node : ℕ) (files : BlockFiles) (old new : Told) (damage : Damage) → IsTouchDamage node files old new damage → IsFailedCheck files new damage
touch-checked node files old new damage (inl read) = moved files old new damage read.1 (node-word-checked files old _ _ damage read.0)
touch-checked node files old new damage (inr removal) = removal-checked node files old new damage removal

-- the header of a block file that is among them
pub cause-checked : (files : BlockFiles) (told : Told) (n start count : ℕ) (used : Bool) (damage : Damage) → is_among (all_files files) n ≡ true → IsCause told n start count used damage → IsFailedCheck files told damage
cause-checked files told n start count used damage among (inl short) = short-checked files told _ _ _ damage short.short
cause-checked files told n start count used damage among (inr counter) = FailsCount (inl (record { file = n; start = start; count = count; used = used; among = among; counter = counter }))

-- blocks that are not found in a file
sought-checked : (old new : BlockFiles) (kind : Kind) (told : Told) (damage : Damage) → kind_number kind ≢ external → KeepsStanding old new → IsBlockSearchDamage old (kind_number kind) told damage → IsFailedCheck new told damage
sought-checked old new kind told damage block keeps search = by_cause search.why
  where
    by_cause : IsShortSearch old search.file told damage ⊎ IsMiscount old search.file told damage → IsFailedCheck new told damage
    by_cause (inl short) = short-checked new told _ _ _ damage short.short
    by_cause (inr miscount) = FailsCount (inr (record { file = search.file; before = old; keeps = keeps; among = member_all old kind search.file block search.linked; miscount = miscount }))

-- blocks that are not allocated
pub refusal-checked : (old new : BlockFiles) (kind : Kind) (count : ℕ) (before after : Told) (damage : Damage) → kind_number kind ≢ external → KeepsStanding old new → IsRefusal old new (kind_number kind) count before after damage → IsFailedCheck new after damage
refusal-checked old new kind count before after damage block keeps (inl cause) = cause-checked new after _ _ _ true damage (member_all new kind _ block cause.is.linked) cause.cause
refusal-checked old new kind count before after damage block keeps (inr (inl search)) = sought-checked new new kind after damage block (λ w is. is) search
refusal-checked old new kind count before after damage block keeps (inr (inr (stays, inl search))) = sought-checked old new kind after damage block keeps (subst (λ (t : Told). IsBlockSearchDamage old (kind_number kind) t damage) (sym stays) search)
refusal-checked old new kind count before after damage block keeps (inr (inr (stays, inr full))) = FailsFull (inl (record { kind = kind_number kind; before = old; keeps = keeps; full = subst (λ (t : Told). IsKindFull old (kind_number kind) t damage) (sym stays) full }))

-- an external file that is not made
pub create-checked : (files : BlockFiles) (told : Told) (damage : Damage) → IsShort told names.Index last_file_place 4 damage ⊎ AreNumbersUsedUp told damage → IsFailedCheck files told damage
create-checked files told damage (inl short) = short-checked files told _ _ _ damage short
create-checked files told damage (inr used) = FailsFull (inr used)

-- a stream that is read
pub read-checked : (files : BlockFiles) (told : Told) (entry stream offset count : ℕ) (damage : Damage) → kind_of entry ≡ blocks_256 → stands_among files entry ≡ true → IsReadDamage files told entry stream offset count damage → IsFailedCheck files told damage
read-checked files told entry stream offset count damage kind stands (inl (inl head)) = head-checked files told entry damage kind stands head
read-checked files told entry stream offset count damage kind stands (inl (inr wrong)) = within-checked files told entry damage kind stands (WrongStream stream wrong)
read-checked files told entry stream offset count damage kind stands (inr cut) = cut-checked files told _ _ _ damage cut.cut

-- The words of a record.

-- the words of a record, as its head has them
pub node-at : (image : Image) (entry : ℕ) (head : Head) → IsRecordHead image entry head → head.node ≡ word image (Block (file_selector entry)) (place entry + 8)
unfolding entry_in
node-at image entry head is = is.node

pub long-key-at : (image : Image) (entry : ℕ) (head : Head) → IsRecordHead image entry head → head.long_key ≡ word image (Block (file_selector entry)) (place entry + 36)
unfolding entry_in
long-key-at image entry head is = is.long_key

pub first-at : (image : Image) (entry : ℕ) (head : Head) → IsRecordHead image entry head → slice_index head.addrs 0 ≡ word image (Block (file_selector entry)) (place entry + 56)
unfolding entry_in words_in
first-at image entry head is = ap (λ (l : List ℕ). slice_index l 0) is.addrs

pub second-at : (image : Image) (entry : ℕ) (head : Head) → IsRecordHead image entry head → slice_index head.addrs 1 ≡ word image (Block (file_selector entry)) (place entry + 60)
unfolding entry_in words_in
second-at image entry head is =
    let e : place entry + 56 + 4 ≡ place entry + 60 = omega arith in
    let first : slice_index head.addrs 1 ≡ word image (Block (file_selector entry)) (place entry + 56 + 4) = ap (λ (l : List ℕ). slice_index l 1) is.addrs in
    first ∙ ap (word image (Block (file_selector entry))) e

pub third-at : (image : Image) (entry : ℕ) (head : Head) → IsRecordHead image entry head → slice_index head.addrs 2 ≡ word image (Block (file_selector entry)) (place entry + 64)
unfolding entry_in words_in
third-at image entry head is =
    let e : place entry + 56 + 4 + 4 ≡ place entry + 64 = omega arith in
    let first : slice_index head.addrs 2 ≡ word image (Block (file_selector entry)) (place entry + 56 + 4 + 4) = ap (λ (l : List ℕ). slice_index l 2) is.addrs in
    first ∙ ap (word image (Block (file_selector entry))) e

-- a word of a record that is no place
pub lost-checked : (files : BlockFiles) (old new : Told) (entry at found : ℕ) (damage : Damage) → kind_of entry ≡ blocks_256 → stands_among files entry ≡ true → Stays old new
    → ForSome old.files (λ image. found ≡ word image (Block (file_selector entry)) (place entry + at)) → IsLostWord files entry at found damage → IsFailedCheck files new damage
lost-checked files old new entry at found damage kind stands stays there lost =
    moved files old new damage stays (within-checked files old entry damage kind stands (WrongPlace at (record {
      lost = subst (λ (n : ℕ). IsLostWord files entry at n damage) (sym lost.of_word.of_word) lost;
      there = λ image is. lost.of_word.of_word ∙ there image is;
    })))

-- The key of a record.

-- what was read of a key is all of it, where the buffer is that of the longest
pub whole-key : (files : BlockFiles) (image : Image) (entry : ℕ) (old new : List ℕ) (n : ℕ) → IsPiece (key_bytes image entry) 0 old new n → HasKeyPlace files entry image → 32796 ≤ length old → take n new ≡ key_bytes image entry
unfolding key_bytes may_have
whole-key files image entry old new n piece placed room =
    let len = (entry_at image entry).key_len in
    let parts = and_parts (nat_le 1 len && nat_le len most_key) (block_count entry == entry_blocks len) placed.has in
    let small : len ≤ 32796 = leb-true len 32796 (and_parts (nat_le 1 len) (nat_le len most_key) parts.0).1 in
    let size : length (key_bytes image entry) ≡ len = length-range len _ _ in
    let many = piece.many in
    piece.front ∙ take_all n (key_bytes image entry) (omega (arith, many, size, small, room))

-- and so its length is that of the key
pub whole-length : (files : BlockFiles) (image : Image) (entry : ℕ) (old new : List ℕ) (n : ℕ) → IsPiece (key_bytes image entry) 0 old new n → HasKeyPlace files entry image → 32796 ≤ length old → (n ≡ (entry_at image entry).key_len) × (n ≤ 32796)
unfolding key_bytes may_have
whole-length files image entry old new n piece placed room =
    let len = (entry_at image entry).key_len in
    let parts = and_parts (nat_le 1 len && nat_le len most_key) (block_count entry == entry_blocks len) placed.has in
    let small : len ≤ 32796 = leb-true len 32796 (and_parts (nat_le 1 len) (nat_le len most_key) parts.0).1 in
    let size : length (key_bytes image entry) ≡ len = length-range len _ _ in
    let many = piece.many in
    (omega (arith, many, size, small, room), omega (arith, many, size, small, room))

-- a number that is read of a key is said by it
pub said-by : (entry : ℕ) (key : List ℕ) (number : Option ℕ) (files : Option Image) → ForSome files (λ image. number_said key (read_name (key_bytes image entry)) ≡ number) → IfSome number (λ n. ForSome files (SaysPart entry key n))
said-by entry key None files holds = tt
said-by entry key (Some n) files holds = holds
