-- Where a folder can be written, an item whose record is alone in its chain can be removed: the steps of the removal of its node, and then the word of its
-- bucket. So the laws on items that are removed speak of something.
use Rattle.std.proofs.Common.{◌≡◌, ⊎_elim, ℕ, ◌<◌, List, [], ◌∷◌, ◌++◌, refl, ap, sym, ◌∙◌, subst, arith, lit<, Bool, Option, Some, true, false}
use Rattle.std.specs.Prelude.{◌&&◌, ◌==◌, filter}
use Rattle.std.specs.Option.{option_map_or}
use Rattle.std.proofs.lemmas.Bool.{cases_Bool, eqb-true}
use Rattle.std.proofs.lemmas.Bool.Decides.{nat_tests}
use Rattle.spec_image.specs.Bytes.{word_bytes}
use Rattle.spec_image.specs.Footprint.{SameOutside, one_word}
use Rattle.spec_image.specs.Image.{Image, Index, length_of}
use Rattle.spec_image.specs.Steps.{Word, after, applied}
use Rattle.spec_image.proofs.Footprints.{outside_write}
use Rattle.spec_image.proofs.Images.{length-after_write, word-after_same}
use Rattle.spec_image.proofs.Runs.{until_last}
use Rattle.blk_model.specs.Items.{Item}
use Rattle.blk_model.specs.State.{State}
use Rattle.spec_format.specs.BlockFiles.{is_among, HasSoundHeaders, KeepsHeaders}
use Rattle.spec_format.specs.Headers.{place_of_bucket}
use Rattle.spec_format.proofs.Finished.{sound-whole}
use Rattle.spec_folder.specs.Chains.{IsChain, Linked, bucket_of_hash, is_of_bucket}
use Rattle.spec_folder.specs.Completion.{remove}
use Rattle.spec_folder.specs.Footprint.{OnlyLinksChange}
use Rattle.spec_folder.specs.Layout.{HoldsExcept, Layout, nodes_of}
use Rattle.spec_folder.specs.ListImages.{HasListAtRest, IsWritable, operation_steps}
use Rattle.spec_folder.specs.ListPlans.{writes_of}
use Rattle.spec_folder.specs.ListView.{put}
use Rattle.spec_folder.specs.Loads.{Loaded}
use Rattle.spec_folder.specs.ShownChanges.{ShowsTheSame}
use Rattle.spec_folder.specs.Sound.{AreSealed}
use Rattle.spec_folder.specs.View.{RecordFields, StoreView, list_of, store_of, view_of}
use Rattle.law_folder.specs.IndexWrites.{IsIndexWord}
use Rattle.law_folder.proofs.lists.WriteSteps.{writes-go_on}
use Rattle.law_folder.proofs.states.Changing.{apart-sym, at-elsewhere, at-itself}
use Rattle.law_folder.proofs.states.OthersHold.{others-outside, represented-but}
use Rattle.law_folder.proofs.states.Replacing.{linked-facts}
use Rattle.law_folder.proofs.updates.IndexWords.{buckets-unchecked, buckets-written}
use Rattle.law_folder.proofs.updates.NodeRecords.{are_bytes-word}
use Rattle.law_state.specs.Arranging.{LeavesFiles}
use Rattle.law_state.specs.Keeping.{KeepsUncounted}
use Rattle.law_state.specs.PartlyOut.{IsOneMoreOut, KeepsPartlyOut, chains_but}
use Rattle.law_state.specs.PlainRemovals.{IsRemoved}
use Rattle.law_state.specs.Changes.{SameCounters}
use Rattle.law_state.specs.RemovalLaws.{IsRemovalDone, IsUnlinking}
use Rattle.law_state.proofs.Counts.{bucket-count, list-count}
use Rattle.law_state.proofs.DoneSteps.{removal-done}
use Rattle.law_state.proofs.Links.{table-files, table-links, table-sealed}

-- the folder once a node is out of its list, and once the word of a bucket is 0 too
abbrev pub unlisted : Image → ℕ → Image
unlisted from node = after (operation_steps remove node from) from

abbrev pub unchained : Image → ℕ → Image
unchained from bucket = applied (Word Index (place_of_bucket bucket) (word_bytes 0)) from

-- both leave what is counted
pub out-counts : (from : Image) (node bucket : ℕ) → IsRemovalDone from node (unlisted from node) → SameCounters from (unchained (unlisted from node) bucket)
out-counts from node bucket done =
    bucket-count bucket (unlisted from node) (unchained (unlisted from node) bucket) (outside_write Index (place_of_bucket bucket) (word_bytes 0) (unlisted from node))
    ∙ list-count (writes_of remove node (list_of from)) from (unlisted from node) done.partly.outside

-- a record is alone in the chain of a bucket, and in no other
pub record IsAloneIn (chains : ℕ → List ℕ) (bucket contents : ℕ) : Type 0 where
  pub small : bucket < 65536
  pub alone : chains bucket ≡ contents ∷ []
  pub none : chains_but chains contents bucket ≡ []
  pub others : (other : ℕ) → (other == bucket) ≡ false → chains_but chains contents other ≡ chains other

-- a chain is one where the same is shown
pub chain-same : (old new : StoreView) (bucket : ℕ) (words : List ℕ) → ShowsTheSame old new → IsChain old bucket words → IsChain new bucket words
chain-same old new bucket words same chain = record {
  linked = linked-facts old new bucket (new.table bucket) words (λ w among. (of-bucket w, sym (same.store.chain_next w (λ claim has. refl)))) (subst (λ (first : ℕ). Linked old bucket first words) (same.table bucket) chain.linked);
  once = chain.once;
} where
  of-bucket : (w : ℕ) → is_of_bucket new bucket w ≡ is_of_bucket old bucket w
  of-bucket w = ap (λ (o : Option RecordFields). option_map_or (λ (fields : RecordFields). fields.checks && (bucket_of_hash fields.hash == bucket)) o false) (sym (same.store.entry w (λ claim has. refl)))

-- ---- the word of a bucket

module _ (from : Image) (well : HasSoundHeaders from) (ready : IsWritable from) (chains : ℕ → List ℕ) (bucket contents : ℕ) (alone : IsAloneIn chains bucket contents) (whole : (other : ℕ) → other < 65536 → IsChain (store_of from) other (chains other)) where
  abbrev pub emptied : Image
  emptied = unchained from bucket

  pub outside : SameOutside (one_word Index (place_of_bucket bucket)) from emptied
  outside = outside_write Index (place_of_bucket bucket) (word_bytes 0) from

  written : IsIndexWord (place_of_bucket bucket) 0 from emptied
  written = record { there = word-after_same from Index (place_of_bucket bucket) 0 (lit< tt) (let long : length_of from Index ≡ 262512 = sound-whole from well in let small = alone.small in omega (arith, long, small)); outside = outside }

  store-now : store_of emptied ≡ record (store_of from) { table = put (store_of from).table bucket 0 }
  store-now = (buckets-written from emptied bucket 0 written).1

  pub headers-now : KeepsHeaders from emptied
  headers-now = buckets-unchecked from emptied bucket outside

  pub ready-now : IsWritable emptied
  ready-now = record { bytes = are_bytes-word Index (place_of_bucket bucket) 0 from ready.bytes; has_header = let same = length-after_write from Index Index (place_of_bucket bucket) (word_bytes 0) in let header = ready.has_header in omega (arith, same, header) }

  chain-now : (other : ℕ) → other < 65536 → IsChain (store_of emptied) other (chains_but chains contents other)
  chain-now other small = subst (λ (s : StoreView). IsChain s other (chains_but chains contents other)) (sym store-now) (⊎_elim
      (λ (here : (other == bucket) ≡ true). subst (λ (b : ℕ). IsChain (record (store_of from) { table = put (store_of from).table bucket 0 }) b (chains_but chains contents b)) (sym (eqb-true other bucket here)) (rw alone.none (record { linked = at-itself (store_of from).table bucket 0; once = tt })))
      (λ (there : (other == bucket) ≡ false).
      let chain : IsChain (store_of from) other (chains other) = whole other small in
      rw (alone.others other there) (record { linked = subst (λ (first : ℕ). Linked (store_of from) other first (chains other)) (sym (at-elsewhere (store_of from).table bucket 0 other (apart-sym other bucket there))) chain.linked; once = chain.once }))
      (cases_Bool (other == bucket)))

  pub unlinking : (layout : Layout) → IsUnlinking (record layout { chains = chains }) (chains_but chains contents) from emptied
  unlinking layout = record {
    word = contents;
    bucket = bucket;
    small = alone.small;
    chained = rw alone.alone (among contents);
    only = table-links from emptied bucket 0 contents store-now;
    list = (buckets-written from emptied bucket 0 written).0;
    whole = chain-now;
    headers = headers-now;
  } where
    among : (w : ℕ) → is_among (w ∷ []) w ≡ true
    among w = grind (arith, nat_tests)

-- ---- an item

module _ (state : State) (layout : Layout) (keep : Item → Bool) (chains : ℕ → List ℕ) (unlinked : List ℕ) (from : Image) (k : KeepsPartlyOut state layout keep chains unlinked from) (ready : IsWritable from)
    (item : Item) (was : Loaded) (here : layout.at (layout.place item) ≡ Some was) (prefix suffix : List ℕ) (split : nodes_of layout (filter keep state.uses) ≡ prefix ++ layout.place item ∷ suffix)
    (bucket : ℕ) (alone : IsAloneIn chains bucket was.contents) where
  abbrev between : Image
  between = unlisted from (layout.place item)

  rest : HasListAtRest (prefix ++ layout.place item ∷ suffix) from
  rest = subst (λ (nodes : List ℕ). HasListAtRest nodes from) split k.list

  pub out-of-list : IsRemovalDone from (layout.place item) between
  out-of-list = removal-done from (layout.place item) prefix suffix ready rest

  well-between : HasSoundHeaders between
  well-between = out-of-list.partly.headers.sound k.sound

  pub ready-between : IsWritable between
  ready-between = until_last IsWritable IsWritable (operation_steps remove (layout.place item) from) from (writes-go_on from (writes_of remove (layout.place item) (list_of from)) ready)

  whole-between : (other : ℕ) → other < 65536 → IsChain (store_of between) other (chains other)
  whole-between other small = chain-same (store_of from) (store_of between) other (chains other) out-of-list.partly.shown.store (k.holds.chains other small)

  abbrev out : Image
  out = unchained between bucket

  pub out-of-chain : IsUnlinking (record layout { chains = chains }) (chains_but chains was.contents) between out
  out-of-chain = unlinking between well-between ready-between chains bucket was.contents alone whole-between layout

  pub out-store : store_of out ≡ record (store_of between) { table = put (store_of between).table bucket 0 }
  out-store = store-now between well-between ready-between chains bucket was.contents alone whole-between

  pub out-links : OnlyLinksChange was.contents (store_of between) (store_of out)
  out-links = table-links between out bucket 0 was.contents out-store

  pub out-leaves : LeavesFiles between out
  out-leaves = table-files between out bucket (outside between well-between ready-between chains bucket was.contents alone whole-between) (headers-now between well-between ready-between chains bucket was.contents alone whole-between)

  pub out-sealed : (loaded : Loaded) → AreSealed between loaded → AreSealed out loaded
  out-sealed loaded = table-sealed between out bucket loaded (outside between well-between ready-between chains bucket was.contents alone whole-between)

  -- the item is out
  pub goes-out : IsOneMoreOut layout chains item was from out
  goes-out = record { here = here; between = between; unlisted = out-of-list; unlinking = out-of-chain; leaves = out-leaves; sealed = λ node loaded at. out-sealed loaded }

  -- and the folder can be written
  pub ready-out : IsWritable out
  ready-out = ready-now between well-between ready-between chains bucket was.contents alone whole-between

-- what is taken out of a layout whose chains are its own is removed
pub out-removed : (layout : Layout) (item : Item) (was : Loaded) (from image : Image) → IsOneMoreOut layout layout.chains item was from image → IsRemoved layout item was from image
out-removed layout item was from image out = record {
  removing = record { here = out.here; between = out.between; unlisted = out.unlisted; unlinking = out.unlinking };
  leaves = out.leaves;
  sealed = out.sealed;
}

-- while a node is out of the list alone, all is shown as it was
pub holds-between : (state : State) (layout : Layout) (from between : Image) → KeepsUncounted state layout [] from → {node : ℕ} → IsRemovalDone from node between → HoldsExcept (λ other. false) (store_of between) state layout
holds-between state layout from between k done = others-outside (λ claim. false) (λ other. false) (store_of from) (store_of between) state layout (represented-but (λ other. false) (view_of from) state layout k.represents) done.partly.shown.store.store done.partly.shown.store.table
    (λ claim node owner stays. refl) (λ bucket contents small among claim has. refl)
