-- An access leaves files, counters and checksums in order.
use Rattle.std.proofs.Common.{◌≡◌, ◌≢◌, ℕ, ◌+◌, ◌%◌, ◌^◌, ◌<◌, List, [], ◌∷◌, ◌++◌, length, refl, sym, ◌∙◌, ap, subst, Bool, true, false, arith, Option, Some, None, append_assoc, length-append}
use Rattle.std.specs.Prelude.{◌&&◌, nat_le, nat_lt, is_some, if◌then◌else◌}
use Rattle.std.specs.List.{flat_map, sum_by, count_by}
use Rattle.std.proofs.lemmas.Bool.{and_left, or_from}
use Rattle.std.proofs.lemmas.Bool.Decides.{nat_tests}
use Rattle.spec_image.specs.Bytes.{word_at}
use Rattle.spec_image.specs.Image.{File, Index, Block, External, Image, byte, same_file}
use Rattle.spec_image.specs.Footprint.{Footprint, SameOutside, either}
use Rattle.spec_image.proofs.Words.{same-word_at}
use Rattle.spec_format.specs.Address.{kind_of, rankings, blocks_256, file_selector, place}
use Rattle.spec_format.specs.Claims.{is_in_file}
use Rattle.spec_format.specs.BlockFiles.{is_among, linked_as, HasSoundHeaders}
use Rattle.spec_format.specs.Records.{entry_is_sealed, entry_in}
use Rattle.spec_format.specs.Sealed.{record_range}
use Rattle.spec_format.specs.Headers.{counting}
use Rattle.spec_format.proofs.Counts.{same-count}
use Rattle.spec_format.proofs.SpareHeaders.{SparesHeaders, other_file}
use Rattle.spec_image.proofs.Runs.{some_inj}
use Rattle.spec_folder.specs.Layout.{Represents, rule_of}
use Rattle.spec_folder.specs.Sound as sound
use Rattle.spec_folder.specs.View.{NodeFields, node_fields_at, view_of, stands_as}
use Rattle.spec_folder.specs.ListSteps.{AreOf}
use Rattle.law_folder.proofs.claims.ByteChanges.{stands-linked}
use Rattle.law_folder.proofs.walks.Loads.{load-then}
use Rattle.law_folder.proofs.updates.StillShown.{standing-parts, core-standing}
use Rattle.law_folder.proofs.lists.WriteWords.{weaker}
use Rattle.spec_folder.specs.ListSteps.{KeepsSealed}
use Rattle.law_folder.proofs.updates.Counting.{marks-same, links-same, only-same, long-same, counted-same, few-blocks}
use Rattle.std.proofs.lemmas.List.{length-map}
use Rattle.std.proofs.lemmas.Grind.{common_steps}
use Rattle.std.specs.List.{AllByRecursion}
use Rattle.std.specs.Prelude.{IsSomeAnd, slice_index_or}
use Rattle.blk_model.specs.State.{State, Object, object_at}
use Rattle.spec_folder.specs.ListView.{ListWrite, Next, Prev, Head, Tail, Transaction, Operation, Distinct}
use Rattle.spec_folder.specs.View.{list_of, store_of, node_at, block_bytes}
use Rattle.spec_folder.specs.Loads.{Loaded}
use Rattle.spec_folder.specs.Found.{charge_of}
use Rattle.spec_folder.specs.Layout.{Layout, order}
use Rattle.spec_folder.specs.Sound.{words_of, CountersAgree}
use Rattle.spec_folder.specs.StandsFor.{AllIsOwned, IsOwner}
use Rattle.spec_folder.specs.ListSteps.{touched_by_write, touched_by_writes}
use Rattle.spec_folder.specs.Tidy.{IsTidy, loaded_at, doomed_nodes}
use Rattle.law_folder.proofs.states.Moving.{counts-add, sums-add, moved-same, moved-among, moved-distinct}
use Rattle.law_folder.proofs.lists.ListFootprints.{spares_headers, spares_sizes, spare_record}
use Rattle.law_folder.proofs.updates.Nodes.{good-stands}

record_apart : (w n i : ℕ) → file_selector w ≢ n → (record_range w).bytes (Block n) i ≡ false
record_apart w n i apart = and_left (same_file (Block (file_selector w)) (Block n)) _ (other_file (file_selector w) n (λ e. apart (sym e)))

-- what an access may change
abbrev pub touch_range : List ListWrite → ℕ → Footprint
touch_range writes node = either (touched_by_writes writes) (record_range node)

pub touch_spares : (writes : List ListWrite) (node : ℕ) → SparesHeaders (touch_range writes node)
touch_spares writes node = record { bytes = λ n i small. or_from _ _ ((spares_headers writes).bytes n i small) (spare_record node n i small) }

pub touch_sizes : (writes : List ListWrite) (node : ℕ) (file : File) → (touch_range writes node).sizes file ≡ false
touch_sizes writes node file = or_from _ _ (spares_sizes writes file) refl

-- no counter of the index is touched
word_apart : (at i : ℕ) → i < at → (nat_le at i && nat_lt i (at + 4)) ≡ false
word_apart at i below = grind (arith, nat_tests)

write_apart : (write : ListWrite) (i : ℕ) → i < 288 → (touched_by_write write).bytes Index i ≡ false
unfolding touched_by_write
write_apart (Next w x) i small = refl
write_apart (Prev w x) i small = refl
write_apart (Head x) i small = word_apart 288 i small
write_apart (Tail x) i small = word_apart 308 i (omega arith)
write_apart (Transaction x) i small = word_apart 328 i (omega arith)
write_apart (Operation x) i small = word_apart 332 i (omega arith)

writes_apart : (writes : List ListWrite) (i : ℕ) → i < 288 → (touched_by_writes writes).bytes Index i ≡ false
writes_apart [] i small = refl
writes_apart (write ∷ writes) i small = or_from _ _ (write_apart write i small) (writes_apart writes i small)

pub counter-same : (writes : List ListWrite) (node : ℕ) (from image : Image) → SameOutside (touch_range writes node) from image → (i : ℕ) → i + 3 < 288 → word_at (byte image Index) i ≡ word_at (byte from Index) i
counter-same writes node from image same i small = same-word_at (byte image Index) (byte from Index) i (at i (omega arith)) (at (i + 1) (omega arith)) (at (i + 2) (omega arith)) (at (i + 3) small) where
  at : (k : ℕ) → k < 288 → byte image Index k ≡ byte from Index k
  at k below = same.bytes Index k (or_from _ _ (writes_apart writes k below) refl)

-- Records lie in other files than nodes.

named-kind : (image : Image) (w : ℕ) (node_fields : NodeFields) → (store_of image).node_fields w ≡ Some node_fields → kind_of w ≡ rankings
unfolding store_of node_fields_at
named-kind image w node_fields e = go (stands_as image rankings w) refl e where
  go : (b : Bool) → stands_as image rankings w ≡ b → (if b then Some (record { contents = (node_at image w).contents; dirty = (node_at image w).dirty }) else None) ≡ Some node_fields → kind_of w ≡ rankings
  go true stands h = (standing-parts image rankings w stands).1
  go false stands h = cc

elsewhere : (writes : List ListWrite) (n : ℕ) → AreOf (λ w. file_selector w ≢ n) writes → (i : ℕ) → (touched_by_writes writes).bytes (Block n) i ≡ false
unfolding touched_by_write
elsewhere [] n apart i = refl
elsewhere (Next w x ∷ writes) n apart i = or_from _ _ (record_apart w n i apart.0) (elsewhere writes n apart.1 i)
elsewhere (Prev w x ∷ writes) n apart i = or_from _ _ (record_apart w n i apart.0) (elsewhere writes n apart.1 i)
elsewhere (Head x ∷ writes) n apart i = or_from _ _ refl (elsewhere writes n apart i)
elsewhere (Tail x ∷ writes) n apart i = or_from _ _ refl (elsewhere writes n apart i)
elsewhere (Transaction x ∷ writes) n apart i = or_from _ _ refl (elsewhere writes n apart i)
elsewhere (Operation x ∷ writes) n apart i = or_from _ _ refl (elsewhere writes n apart i)

module _ (from image : Image) (writes : List ListWrite) (node : ℕ) (same : SameOutside (touch_range writes node) from image) (checks : AreOf (λ n. (list_of from).checks n ≡ true) writes) (good : (list_of from).checks node ≡ true) where
  -- a node's file is not a record's
  other-file : (contents w : ℕ) → stands_as from blocks_256 contents ≡ true → (list_of from).checks w ≡ true → file_selector w ≢ file_selector contents
  other-file contents w record-stands good-w e =
      let a = standing-parts from blocks_256 contents record-stands in
      let b = standing-parts from rankings w (good-stands from w good-w) in
      let la : linked_as from (file_selector contents) ≡ Some (kind_of contents) = stands-linked from contents a.0 (λ h. let x = a.1 in omega (arith, h, x)) in
      let lb : linked_as from (file_selector w) ≡ Some (kind_of w) = stands-linked from w b.0 (λ h. let x = b.1 in omega (arith, h, x)) in
      let k : kind_of w ≡ kind_of contents = some_inj (sym lb ∙ ap (linked_as from) e ∙ la) in
      let x = a.1 in let y = b.1 in omega (arith, k, x, y)

  pub record-bytes : (contents : ℕ) → stands_as from blocks_256 contents ≡ true → block_bytes image contents ≡ block_bytes from contents
  record-bytes contents stands = λ j i. same.bytes (Block (file_selector contents)) i
      (or_from _ _ (elsewhere writes (file_selector contents) (weaker (λ n. (list_of from).checks n ≡ true) (λ w. file_selector w ≢ file_selector contents) writes (λ w g. other-file contents w stands g) checks) i)
      (record_apart node (file_selector contents) i (other-file contents node stands good))) j

  module _ (state : State) (layout : Layout) (rep : Represents (view_of from) state layout) (keeps : KeepsSealed from image) where
    pub sealed-still : (w : ℕ) (loaded : Loaded) → layout.at w ≡ Some loaded → sound.AreSealed from loaded → sound.AreSealed image loaded
    sealed-still w loaded here was = load-then (store_of from) (rule_of layout w) w loaded (rep.holds.shows.each w loaded here) (λ node_fields fields facts.
        let stands : stands_as from blocks_256 loaded.contents ≡ true = subst (λ (c : ℕ). stands_as from blocks_256 c ≡ true) (sym facts.facts.contents_is) (core-standing from node_fields.contents fields facts.entry) in
        let kind : kind_of loaded.node ≡ rankings = ap kind_of facts.facts.node_is ∙ named-kind from w node_fields facts.node in
        record {
          node = keeps loaded.node kind was.node;
          entry = ap (λ (f : ℕ → ℕ). entry_is_sealed (entry_in f (place loaded.contents))) (record-bytes loaded.contents stands) ∙ was.entry;
        })

-- The whole: one node moved to the front of the LRU list, no object changed.

module _ (from image : Image) (state after : State) (layout : Layout) (numbers : List ℕ) (objects : after.objects ≡ state.objects) (prefix : List ℕ) (x : ℕ) (suffix : List ℕ)
    (old-order : order state layout ≡ prefix ++ x ∷ suffix) (new-order : order after layout ≡ x ∷ prefix ++ suffix) (F : Footprint) (spares : SparesHeaders F) (sizes : (file : File) → F.sizes file ≡ false) (same : SameOutside F from image) where
  -- all nodes, listed or doomed
  old-all : order state layout ++ doomed_nodes layout numbers ≡ prefix ++ x ∷ (suffix ++ doomed_nodes layout numbers)
  old-all = ap (λ (ns : List ℕ). ns ++ doomed_nodes layout numbers) old-order ∙ append_assoc prefix (x ∷ suffix) (doomed_nodes layout numbers)

  new-all : order after layout ++ doomed_nodes layout numbers ≡ x ∷ prefix ++ (suffix ++ doomed_nodes layout numbers)
  new-all = ap (λ (ns : List ℕ). ns ++ doomed_nodes layout numbers) new-order ∙ ap (λ (ns : List ℕ). x ∷ ns) (append_assoc prefix suffix (doomed_nodes layout numbers))

  among-all : (w : ℕ) → is_among (order after layout ++ doomed_nodes layout numbers) w ≡ is_among (order state layout ++ doomed_nodes layout numbers) w
  among-all w = ap (λ (ns : List ℕ). is_among ns w) new-all ∙ moved-among prefix x (suffix ++ doomed_nodes layout numbers) w ∙ ap (λ (ns : List ℕ). is_among ns w) (sym old-all)

  objects-at : object_at after ≡ object_at state
  objects-at = ap (λ (os : List (Option Object)). λ (n : ℕ). slice_index_or os n None) objects

  pub moved-allocated : AllIsOwned from state layout numbers → AllIsOwned image after layout numbers
  moved-allocated a = record {
    blocks = λ n b linked small. marks-same F from image spares sizes same n b small ∙ a.blocks n b (ap (λ (o : Option ℕ). is_some o) (sym (links-same F from image spares sizes same n)) ∙ linked) small;
    files = λ n small. same.files (External n) (sizes (External n)) ∙ a.files n small;
    exact = λ claim node own. let o : IsOwner state layout (doomed_nodes layout numbers) claim node = a.exact claim node own in
        record { among = among-all node ∙ o.among; loaded = o.loaded; here = o.here; claims = o.claims };
    once = subst Distinct (sym new-all) (moved-distinct prefix x (suffix ++ doomed_nodes layout numbers) (subst Distinct old-all a.once));
    doomed = record {
      each = subst (λ (at : ℕ → Option Object). AllByRecursion (λ number. IsSomeAnd (at number) (λ object. object.live ≡ false)) numbers) (sym objects-at) a.doomed.each;
      once = a.doomed.once;
      all = λ number object here dead. a.doomed.all number object (ap (λ (at : ℕ → Option Object). at number) (sym objects-at) ∙ here) dead;
      records = a.doomed.records;
    };
  }

  uses-long : length after.uses ≡ length state.uses
  uses-long =
      let a = sym (length-map after.uses layout.place) ∙ ap length new-order in
      let b = sym (length-map state.uses layout.place) ∙ ap length old-order in
      let c : length (x ∷ prefix ++ suffix) ≡ length (prefix ++ x ∷ suffix) = (let l = length-append prefix suffix in let m = length-append prefix (x ∷ suffix) in grind (arith, common_steps, l, m)) in
      a ∙ c ∙ sym b

  pub moved-tidy : HasSoundHeaders from → ((i : ℕ) → i + 3 < 288 → word_at (byte image Index) i ≡ word_at (byte from Index) i) → ((w : ℕ) (loaded : Loaded) → layout.at w ≡ Some loaded → sound.AreSealed from loaded → sound.AreSealed image loaded)
      → IsTidy from state layout numbers → IsTidy image after layout numbers
  moved-tidy sound counters seals t = record {
    only_linked = only-same F from image spares sizes same t.only_linked;
    long_enough = long-same F from image spares sizes same t.long_enough;
    counted = λ n linked.
        let was : is_some (linked_as from n) ≡ true = ap (λ (o : Option ℕ). is_some o) (sym (links-same F from image spares sizes same n)) ∙ linked in
        let c : CountersAgree from (flat_map words_of (loaded_at layout (order state layout ++ doomed_nodes layout numbers))) n = t.counted n was in
        let moved = moved-same (λ (ns : List ℕ). count_by (is_in_file n) (flat_map words_of (loaded_at layout ns))) (counts-add (is_in_file n) words_of layout.at) prefix x (suffix ++ doomed_nodes layout numbers) in
        let counts : count_by (is_in_file n) (flat_map words_of (loaded_at layout (order state layout ++ doomed_nodes layout numbers))) ≡ count_by (is_in_file n) (flat_map words_of (loaded_at layout (order after layout ++ doomed_nodes layout numbers)))
        = ap (λ (ns : List ℕ). count_by (is_in_file n) (flat_map words_of (loaded_at layout ns))) old-all ∙ sym moved ∙ ap (λ (ns : List ℕ). count_by (is_in_file n) (flat_map words_of (loaded_at layout ns))) (sym new-all) in
        let still = counted-same F from image spares sizes same n (flat_map words_of (loaded_at layout (order state layout ++ doomed_nodes layout numbers))) (few-blocks from n sound was) c in
        record { num_entries = still.num_entries ∙ counts; empty = still.empty; updating = still.updating };
    counts = same-count (byte image Index) (byte from Index) (counters 4 (omega arith)) (counters 8 (omega arith)) (counters 12 (omega arith)) (counters 48 (omega arith)) (counters 52 (omega arith)) (counters 268 (omega arith))
        ∙ t.counts ∙ ap (λ (n : ℕ). counting n (sum_by charge_of (loaded_at layout (order state layout)))) (sym uses-long)
        ∙ ap (counting (length after.uses)) (ap (λ (ns : List ℕ). sum_by charge_of (loaded_at layout ns)) old-order ∙ sym (moved-same (λ (ns : List ℕ). sum_by charge_of (loaded_at layout ns)) (sums-add charge_of layout.at) prefix x suffix) ∙ ap (λ (ns : List ℕ). sum_by charge_of (loaded_at layout ns)) (sym new-order));
    sealed = λ w loaded here. seals w loaded here (t.sealed w loaded here);
  }
