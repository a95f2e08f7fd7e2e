-- The laws of the LRU list in bytes, at a folder of two nodes.
use Rattle.std.proofs.Common.{◌≡◌, ℕ, zero, suc, ◌+◌, ◌≤◌, List, [], ◌∷◌, ◌++◌, All, refl, ◌∙◌, arith, lit<, true, Some, None}
use Rattle.std.proofs.lemmas.List.Elements.{All-nil, All-cons}
use Rattle.spec_image.specs.Bytes.{spliced, zeros}
use Rattle.spec_image.specs.Image.{File, Index, Block, External, Image, bytes_of, length_of}
use Rattle.spec_image.specs.Steps.{with_word, with_words, after}
use Rattle.spec_image.specs.Told.{Along, CommitsAt}
use Rattle.spec_image.proofs.Splices.{length-zeros}
use Rattle.spec_image.proofs.Words.{length-with_words}
use Rattle.spec_format.specs.Address.{is_address, is_initialized, names_external, names_blocks, kind_of, reserved_bits, block_count, file_selector, first_block, external_number, block_size, block_place, place, byte_size}
use Rattle.spec_format.specs.Standing.{stands, stands_as_blocks}
use Rattle.spec_format.specs.Headers.{header_length}
use Rattle.spec_format.specs.Records.{node_in, node_checks}
use Rattle.spec_format.specs.BlockFiles.{next_file_in, max_entries_in, files_along, linked, kind_among}
use Rattle.spec_folder.specs.ListView.{Next, Tail, Transaction, IsAtRest, CanBeInserted}
use Rattle.spec_folder.specs.Completion.{insert, remove, counts}
use Rattle.spec_folder.specs.ListPlans.{writes_of, touch_writes, operation_writes, completion_writes}
use Rattle.spec_folder.specs.View.{list_of, checks_at, next_at, prev_at}
use Rattle.spec_image.proofs.Runs.{until_last}
use Rattle.spec_format.specs.Sealed.{AreChanges, IsMidUpdate, seal_place, sealed_steps}
use Rattle.spec_format.proofs.SealedRecords.{node_seal, moments, updated, whole_update}
use Rattle.law_folder.proofs.updates.NodeRecords.{one_change}
use Rattle.spec_format.specs.NewFolder.{new_index_words, new_file_words}
use Rattle.spec_folder.specs.ListSteps.{IsPartly, IsTouched, IsSealed, KeepsSealed, AreNodesSealed, AreTimes}
use Rattle.spec_folder.specs.ListImages.{IsWritable, CanBeMade, CompletesTo, CompletesAlike, HasListAtRest, IsCompleted, StopsAlike, operation_steps, steps_of_touch, completion_steps, stopped_folder}
use Rattle.spec_folder.specs.ShownChanges.{OnlyListChanges}
use Rattle.law_folder.proofs.examples.ExampleWrites.{small-zeros}
use Rattle.law_folder.proofs.updates.Prefixes.{AreSmall, small-words}
use Rattle.law_folder.proofs.updates.Sealing.{writes-seal, writes-keep, node-updates, touches-seal, touches-keep}
use Rattle.law_folder.proofs.lists.WriteSteps.{good-node, writes-in_turn, writes-made, writes-go_on}
use Rattle.law_folder.proofs.lists.WordTurns.{inserts-can, inserts-turn_words, inserts-rest, removals-can, removals-turn_words, removals-rest, touches-can, touches-go_on, touches-in_turn, touches-turn_words, touches-rest, touches-times}
use Rattle.law_folder.proofs.lists.WordStops.{completions-can, completions-keep, completions-done, completions-stop}

-- node 1 is the head, and node 0 the tail; node 2 is in no list
abbrev pub first : ℕ
first = 0x90000001

abbrev pub last : ℕ
last = 0x90000000

abbrev pub another : ℕ
another = 0x90000002

abbrev node_words : List (ℕ × ℕ)
node_words = new_file_words 0 ++ (20, 1024) ∷ (8208, 0x90000000) ∷ (8212, 0x90000001) ∷ (8244, 0x90000000) ∷ (8248, 0x90000001) ∷ []

abbrev index_words : List (ℕ × ℕ) → List (ℕ × ℕ)
index_words more = new_index_words 50 ++ (288, 0x90000001) ∷ (308, 0x90000000) ∷ more

-- the folder of these, with these words in its index too, of which only the header is there
unfoldable pub pair_folder : List (ℕ × ℕ) → Image
pair_folder more Index = Some (with_words (index_words more) (zeros header_length))
pair_folder more (Block zero) = Some (with_words node_words (zeros 8300))
pair_folder more (Block (suc zero)) = Some (with_words (new_file_words 1) (zeros 8192))
pair_folder more (Block (suc (suc zero))) = Some (with_words (new_file_words 2) (zeros 8192))
pair_folder more (Block (suc (suc (suc zero)))) = Some (with_words (new_file_words 3) (zeros 8192))
pair_folder more _ = None

-- the folder of the pair has bytes, and its index a header
pair-small : (more : List (ℕ × ℕ)) (file : File) → AreSmall (bytes_of (pair_folder more) file)
unfolding pair_folder
pair-small more Index = small-words (index_words more) (zeros header_length) (small-zeros header_length)
pair-small more (Block zero) = small-words node_words (zeros 8300) (small-zeros 8300)
pair-small more (Block (suc zero)) = small-words (new_file_words 1) (zeros 8192) (small-zeros 8192)
pair-small more (Block (suc (suc zero))) = small-words (new_file_words 2) (zeros 8192) (small-zeros 8192)
pair-small more (Block (suc (suc (suc zero)))) = small-words (new_file_words 3) (zeros 8192) (small-zeros 8192)
pair-small more (Block (suc (suc (suc (suc n))))) = λ i. lit< tt
pair-small more (External n) = λ i. lit< tt

pair-long : (more : List (ℕ × ℕ)) → length_of (pair_folder more) Index ≡ header_length
unfolding pair_folder
pair-long more = length-with_words (index_words more) (zeros header_length) ∙ length-zeros header_length

pub pair-writable : (more : List (ℕ × ℕ)) → IsWritable (pair_folder more)
pair-writable more = record { bytes = λ file i. pair-small more file i; has_header = let long = pair-long more in omega (arith, long) }

-- the LRU list of the pair is idle, and a third node can be inserted
pub pair-at_rest : IsAtRest (list_of (pair_folder [])) (first ∷ last ∷ [])
unfolding list_of checks_at next_at prev_at pair_folder zeros with_word spliced next_file_in max_entries_in linked files_along kind_among stands stands_as_blocks is_address is_initialized names_external names_blocks kind_of reserved_bits block_count file_selector first_block external_number block_size block_place place byte_size node_in node_checks
pair-at_rest = record {
  whole = record {
    head_is = refl;
    tail_is = refl;
    linked = (record { good = refl; next_is = refl; prev_is = refl }, (record { good = refl; next_is = refl; prev_is = refl }, tt));
    distinct = (refl, (refl, tt));
    few = omega arith;
    no_zero = refl;
  };
  idle = refl;
}

pub pair-can_be_more : CanBeInserted (list_of (pair_folder [])) (first ∷ last ∷ []) another
unfolding list_of checks_at pair_folder zeros with_word spliced next_file_in max_entries_in linked files_along kind_among stands stands_as_blocks is_address is_initialized names_external names_blocks kind_of reserved_bits block_count file_selector first_block external_number block_size block_place place byte_size node_in node_checks
pair-can_be_more = record { rest = pair-at_rest; lacks = refl; good = refl; few = omega arith }

abbrev pair : Image
pair = pair_folder []

-- the third is inserted
pub insert-turns : CommitsAt 2 (CompletesTo (first ∷ last ∷ [])) (CompletesTo (another ∷ first ∷ last ∷ [])) pair (operation_steps insert another pair)
insert-turns = inserts-turn_words pair another (first ∷ last ∷ []) (pair-writable []) pair-can_be_more

pub insert-ends : HasListAtRest (another ∷ first ∷ last ∷ []) (after (operation_steps insert another pair) pair)
insert-ends = inserts-rest pair another (first ∷ last ∷ []) (pair-writable []) pair-can_be_more

-- its writes are made in turn
pub insert-can : CanBeMade pair (writes_of insert another (list_of pair))
insert-can = inserts-can pair another (first ∷ last ∷ []) pair-can_be_more

pub insert-in_turn : Along (IsPartly pair (writes_of insert another (list_of pair))) pair (operation_steps insert another pair)
insert-in_turn = writes-in_turn pair (writes_of insert another (list_of pair)) (pair-writable []) insert-can

pub insert-made : OnlyListChanges (writes_of insert another (list_of pair)) pair (after (operation_steps insert another pair) pair)
insert-made = writes-made pair (writes_of insert another (list_of pair)) (pair-writable []) insert-can

pub insert-goes_on : Along IsWritable pair (operation_steps insert another pair)
insert-goes_on = writes-go_on pair (writes_of insert another (list_of pair)) (pair-writable [])

pub insert-seals : AreNodesSealed (writes_of insert another (list_of pair)) (after (operation_steps insert another pair) pair)
insert-seals = writes-seal pair (writes_of insert another (list_of pair)) (pair-writable []) insert-can

pub insert-keeps_seals : KeepsSealed pair (after (operation_steps insert another pair) pair)
insert-keeps_seals = writes-keep pair (writes_of insert another (list_of pair)) (pair-writable []) insert-can

-- the dirty flag of the tail's node is written
last-kind : kind_of last ≡ 1
unfolding kind_of
last-kind = refl

last-checks : (list_of pair).checks last ≡ true
last-checks = pair-at_rest.whole.linked.1.0.good

one-word : AreChanges (seal_place last) ((28, 1) ∷ [])
one-word = one_change last 28 1 last-kind refl (omega arith)

word-inside : All (λ (c : ℕ × ℕ). c.0 + 4 ≤ seal_place last) ((28, 1) ∷ [])
word-inside = let s = node_seal last last-kind in All-cons (λ (c : ℕ × ℕ). c.0 + 4 ≤ seal_place last) (28, 1) [] (omega (arith, s)) (All-nil (λ (c : ℕ × ℕ). c.0 + 4 ≤ seal_place last))

pub dirty-seals : IsSealed (after (sealed_steps pair last ((28, 1) ∷ [])) pair) last × KeepsSealed pair (after (sealed_steps pair last ((28, 1) ∷ [])) pair)
dirty-seals = node-updates pair last ((28, 1) ∷ []) (pair-writable []) last-checks one-word word-inside

-- in the end it is an update with its one change made
pub dirty-is_made : (moment : IsMidUpdate pair last ((28, 1) ∷ []) (after (sealed_steps pair last ((28, 1) ∷ [])) pair)) × (moment.made ≡ 1)
dirty-is_made =
    let node = good-node pair last (pair-writable []) last-checks in
    whole_update pair (after (sealed_steps pair last ((28, 1) ∷ [])) pair) last ((28, 1) ∷ []) (updated last pair ((28, 1) ∷ []) node.fits)
    (until_last (IsMidUpdate pair last ((28, 1) ∷ [])) (IsMidUpdate pair last ((28, 1) ∷ [])) (sealed_steps pair last ((28, 1) ∷ [])) pair (moments last pair ((28, 1) ∷ []) node.fits node.checks word-inside)).outside

-- the tail is removed
pub removal-can : CanBeMade pair (writes_of remove last (list_of pair))
removal-can = removals-can pair last (first ∷ []) [] pair-at_rest

pub removal-turns : CommitsAt 2 (CompletesTo (first ∷ last ∷ [])) (CompletesTo (first ∷ [])) pair (operation_steps remove last pair)
removal-turns = removals-turn_words pair last (first ∷ []) [] (pair-writable []) pair-at_rest

pub removal-ends : HasListAtRest (first ∷ []) (after (operation_steps remove last pair) pair)
removal-ends = removals-rest pair last (first ∷ []) [] (pair-writable []) pair-at_rest

-- the tail is accessed
pub touch-goes_on : Along IsWritable pair (steps_of_touch last 70 pair)
touch-goes_on = touches-go_on pair last 70 (pair-writable [])

pub touch-can : CanBeMade pair (touch_writes last (list_of pair))
touch-can = touches-can pair last (first ∷ []) [] pair-at_rest

pub touch-in_turn : Along (IsTouched pair last (touch_writes last (list_of pair))) pair (steps_of_touch last 70 pair)
touch-in_turn = touches-in_turn pair last 70 (first ∷ []) [] (pair-writable []) pair-at_rest

pub touch-turns : CommitsAt 2 (CompletesTo (first ∷ last ∷ [])) (CompletesTo (last ∷ first ∷ [])) pair (steps_of_touch last 70 pair)
touch-turns = touches-turn_words pair last 70 (first ∷ []) [] (pair-writable []) pair-at_rest

pub touch-ends : HasListAtRest (last ∷ first ∷ []) (after (steps_of_touch last 70 pair) pair)
touch-ends = touches-rest pair last 70 (first ∷ []) [] (pair-writable []) pair-at_rest

pub touch-times : AreTimes last 70 (after (steps_of_touch last 70 pair) pair)
touch-times = touches-times pair last 70 (first ∷ []) [] (pair-writable []) pair-at_rest (omega arith)

pub touch-seals : AreNodesSealed (touch_writes last (list_of pair)) (after (steps_of_touch last 70 pair) pair) × IsSealed (after (steps_of_touch last 70 pair) pair) last
touch-seals = touches-seal pair last 70 (first ∷ []) [] (pair-writable []) pair-at_rest

pub touch-keeps_seals : KeepsSealed pair (after (steps_of_touch last 70 pair) pair)
touch-keeps_seals = touches-keep pair last 70 (first ∷ []) [] (pair-writable []) pair-at_rest

-- the head is accessed, and stays where it is
pub head-turns : CommitsAt 2 (CompletesTo (first ∷ last ∷ [])) (CompletesTo (first ∷ last ∷ [])) pair (steps_of_touch first 70 pair)
head-turns = touches-turn_words pair first 70 [] (last ∷ []) (pair-writable []) pair-at_rest

-- the folder with the removal of the tail in flight
abbrev in_flight : Image
in_flight = pair_folder ((328, 0x90000000) ∷ (332, 2) ∷ [])

-- a redo writes this: its first and its third write are updates of three words each, its second and its fourth are one word of the index each
pub completion-writes : completion_writes (list_of in_flight) ≡ Next first first ∷ Tail first ∷ Next last 0 ∷ Transaction 0 ∷ []
unfolding completion_writes operation_writes counts list_of checks_at next_at prev_at pair_folder zeros with_word spliced next_file_in max_entries_in linked files_along kind_among stands stands_as_blocks is_address is_initialized names_external names_blocks kind_of reserved_bits block_count file_selector first_block external_number block_size block_place place byte_size node_in node_checks
completion-writes = refl

pub completion-can : CanBeMade in_flight (completion_writes (list_of in_flight))
completion-can = completions-can in_flight

pub completion-keeps : Along (CompletesAlike in_flight) in_flight (completion_steps in_flight)
completion-keeps = completions-keep in_flight (pair-writable ((328, 0x90000000) ∷ (332, 2) ∷ []))

pub completion-done : IsCompleted in_flight (after (completion_steps in_flight) in_flight)
completion-done = completions-done in_flight (pair-writable ((328, 0x90000000) ∷ (332, 2) ∷ []))

-- it crashes inside its first update, after two words, is begun again and crashes inside its second, and is begun again
pub completion-stopped : StopsAlike in_flight (stopped_folder (2 ∷ 5 ∷ 8 ∷ []) in_flight)
completion-stopped = completions-stop in_flight (2 ∷ 5 ∷ 8 ∷ []) (pair-writable ((328, 0x90000000) ∷ (332, 2) ∷ []))
