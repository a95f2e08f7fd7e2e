-- Once an item is accessed, the state with it in front is kept.
use Rattle.std.proofs.Common.{◌≡◌, ℕ, ◌+◌, List, [], ◌∷◌, ◌++◌, length, sym, ◌∙◌, ap, ap₂, subst, true, ◌<◌, arith, append_assoc, length-append}
use Rattle.std.specs.Prelude.{Option}
use Rattle.std.specs.List.{flat_map, filter_map, sum_by}
use Rattle.std.specs.List.Sorted.{IsPermutation}
use Rattle.std.proofs.lemmas.Grind.{flat_map-append}
use Rattle.std.proofs.lemmas.List.Elements.{filter_map-append}
use Rattle.std.proofs.lemmas.List.Sorted.{IsPermutation-append_comm, IsPermutation-append_left, IsPermutation-append_right}
use Rattle.blk_model.specs.Items.{Item}
use Rattle.blk_model.specs.State.{State, IsValidState}
use Rattle.spec_image.specs.Bytes.{word_at}
use Rattle.spec_image.specs.Image.{Image, Index, byte}
use Rattle.spec_format.specs.BlockFiles.{is_among}
use Rattle.spec_format.specs.Headers.{counting}
use Rattle.spec_folder.specs.ListView.{Distinct, IsAtRest, IsList, after_writes}
use Rattle.spec_folder.specs.ListPlans.{touch_writes}
use Rattle.spec_folder.specs.Layout.{Layout, Represents, is_listed, nodes_of, order}
use Rattle.spec_folder.specs.Loads.{Loaded}
use Rattle.spec_folder.specs.Found.{charge_of}
use Rattle.spec_folder.specs.Sound.{words_of}
use Rattle.spec_folder.specs.StandsFor.{IsOwner}
use Rattle.spec_folder.specs.Tidy.{doomed_nodes, loaded_at}
use Rattle.spec_folder.specs.View.{list_of, store_of, view_of}
use Rattle.law_folder.proofs.lists.ListCompletions.{listed}
use Rattle.law_folder.proofs.states.Moving.{moved-among, moved-distinct, moved-same, sums-add}
use Rattle.law_folder.proofs.commands.Opening.{IsAround, around, nodes-append}
use Rattle.law_folder.proofs.states.Tidying.{counter-same, sealed-still, touch_range, touch_sizes, touch_spares}
use Rattle.law_folder.proofs.commands.Touches.{touched-items-end}
use Rattle.law_folder.proofs.lists.WordTurns.{touches-can}
use Rattle.law_state.specs.Arranging.{IsArranged, LeavesFiles}
use Rattle.law_state.specs.Keeping.{AreMarkedBy, KeepsUncounted, all_loaded, all_nodes, words_in_use}
use Rattle.law_state.specs.ListLaws.{IsTouchDone, TouchesKeepTheState, TouchesKeepTheCounters, with_used}
use Rattle.law_state.proofs.Arranging.{rearranged}
use Rattle.law_state.proofs.Counts.{touch-count}
use Rattle.law_state.proofs.Headers.{stand-same}
use Rattle.law_state.proofs.Leaving.{leaves-files}

-- the address words of what lies at some nodes
abbrev pub words_at : (at : ℕ → Option Loaded) → List ℕ → List ℕ
words_at at nodes = flat_map words_of (filter_map at nodes)

pub words-append : (at : ℕ → Option Loaded) (xs ys : List ℕ) → words_at at (xs ++ ys) ≡ words_at at xs ++ words_at at ys
words-append at xs ys = ap (flat_map words_of) (filter_map-append at xs ys) ∙ flat_map-append words_of (filter_map at xs) (filter_map at ys)

-- what comes after may come in front
pub to-front : (xs ys zs : List ℕ) → IsPermutation (xs ++ (ys ++ zs)) (ys ++ (xs ++ zs))
to-front xs ys zs = subst (λ (vs : List ℕ). IsPermutation vs (ys ++ (xs ++ zs))) (append_assoc xs ys zs) (subst (IsPermutation ((xs ++ ys) ++ zs)) (append_assoc ys xs zs) (IsPermutation-append_left zs (xs ++ ys) (ys ++ xs) (IsPermutation-append_comm xs ys)))

-- what lies at a node may come in front
pub node-to-front : (at : ℕ → Option Loaded) (prefix : List ℕ) (x : ℕ) (suffix : List ℕ) → IsPermutation (words_at at (prefix ++ x ∷ suffix)) (words_at at (x ∷ prefix ++ suffix))
node-to-front at prefix x suffix =
    subst (λ (vs : List ℕ). IsPermutation vs (words_at at (x ∷ prefix ++ suffix))) (sym old)
    (subst (IsPermutation (words_at at prefix ++ (words_at at (x ∷ []) ++ words_at at suffix))) (sym new) (to-front (words_at at prefix) (words_at at (x ∷ [])) (words_at at suffix)))
  where
    old : words_at at (prefix ++ x ∷ suffix) ≡ words_at at prefix ++ (words_at at (x ∷ []) ++ words_at at suffix)
    old = words-append at prefix (x ∷ suffix) ∙ ap (λ (vs : List ℕ). words_at at prefix ++ vs) (words-append at (x ∷ []) suffix)

    new : words_at at (x ∷ prefix ++ suffix) ≡ words_at at (x ∷ []) ++ (words_at at prefix ++ words_at at suffix)
    new = words-append at (x ∷ []) (prefix ++ suffix) ∙ ap (λ (vs : List ℕ). words_at at (x ∷ []) ++ vs) (words-append at prefix suffix)

module _ (state : State) (layout : Layout) (unlinked : List ℕ) (from image : Image) (item : Item) (k : KeepsUncounted state layout unlinked from) (there : is_listed state item ≡ true) (done : IsTouchDone from (layout.place item) image) where
  abbrev later : State
  later = with_used state item

  abbrev node : ℕ
  node = layout.place item

  abbrev a : IsAround item state.uses
  a = around item state.uses there (k.valid.once item)

  abbrev prefix : List ℕ
  prefix = nodes_of layout a.before

  abbrev suffix : List ℕ
  suffix = nodes_of layout a.suffix

  old-order : order state layout ≡ prefix ++ node ∷ suffix
  old-order = ap (nodes_of layout) a.is ∙ nodes-append layout a.before (item ∷ a.suffix)

  new-order : order later layout ≡ node ∷ prefix ++ suffix
  new-order = ap (λ (xs : List ℕ). node ∷ xs) (ap (nodes_of layout) a.rest ∙ nodes-append layout a.before a.suffix)

  rest : IsAtRest (list_of from) (prefix ++ node ∷ suffix)
  rest = record { whole = subst (λ (ns : List ℕ). IsList (list_of from) ns) old-order k.represents.list; idle = k.represents.idle }

  at-rest : IsAtRest (list_of image) (node ∷ prefix ++ suffix)
  at-rest = done.moved prefix suffix rest

  ends : Represents (record { list = after_writes (touch_writes node (list_of from)) (list_of from); store = store_of image }) later layout × IsValidState later
  ends = touched-items-end (view_of from) state layout k.represents k.valid item there (store_of image) done.touched.shown.store

  old-all : all_nodes state layout k.numbers ≡ prefix ++ node ∷ (suffix ++ doomed_nodes layout k.numbers)
  old-all = ap (λ (ns : List ℕ). ns ++ doomed_nodes layout k.numbers) old-order ∙ append_assoc prefix (node ∷ suffix) (doomed_nodes layout k.numbers)

  new-all : all_nodes later layout k.numbers ≡ node ∷ prefix ++ (suffix ++ doomed_nodes layout k.numbers)
  new-all = ap (λ (ns : List ℕ). ns ++ doomed_nodes layout k.numbers) new-order ∙ ap (λ (ns : List ℕ). node ∷ ns) (append_assoc prefix suffix (doomed_nodes layout k.numbers))

  among-all : (w : ℕ) → is_among (all_nodes later layout k.numbers) w ≡ is_among (all_nodes state layout k.numbers) w
  among-all w = ap (λ (ns : List ℕ). is_among ns w) new-all ∙ moved-among prefix node (suffix ++ doomed_nodes layout k.numbers) w ∙ ap (λ (ns : List ℕ). is_among ns w) (sym old-all)

  counter : (i : ℕ) → i + 3 < 288 → word_at (byte image Index) i ≡ word_at (byte from Index) i
  counter = counter-same (touch_writes node (list_of from)) node from image done.touched.outside

  pub leaves : LeavesFiles from image
  leaves = leaves-files (touch_range (touch_writes node (list_of from)) node) from image (touch_spares (touch_writes node (list_of from)) node) (touch_sizes (touch_writes node (list_of from)) node) done.touched.outside
      (record { crash = counter 32 (omega arith); id = counter 20 (omega arith) }) done.touched.headers

  pub arranged : IsArranged later layout k.numbers unlinked image
  arranged = record {
    valid = ends.1;
    represents = record {
      holds = ends.0.holds;
      list = subst (λ (ns : List ℕ). IsList (list_of image) ns) (sym new-order) at-rest.whole;
      idle = at-rest.idle;
    };
    owners = record {
      exact = λ claim w own. let o : IsOwner state layout (doomed_nodes layout k.numbers) claim w = k.owners.exact claim w own in record { among = among-all w ∙ o.among; loaded = o.loaded; here = o.here; claims = o.claims };
      once = subst Distinct (sym new-all) (moved-distinct prefix node (suffix ++ doomed_nodes layout k.numbers) (subst Distinct old-all k.owners.once));
      doomed = record { each = k.owners.doomed.each; once = k.owners.doomed.once; all = k.owners.doomed.all; records = k.owners.doomed.records };
    };
    unlinked_words = record { stand = stand-same from image leaves.headers unlinked k.unlinked_words.stand; free = k.unlinked_words.free; single = k.unlinked_words.single };
    sealed = λ w l here. sealed-still from image (touch_writes node (list_of from)) node done.touched.outside (touches-can from node prefix suffix rest).nodes (listed node (list_of from) prefix suffix rest.whole).good state layout k.represents done.sealed w l here (k.sealed w l here);
    marked = subst (λ (id : ℕ). AreMarkedBy id later layout) (sym leaves.session.id) k.session.marked;
  }

  pub same-words : IsPermutation (words_in_use unlinked (all_loaded state layout k.numbers)) (words_in_use unlinked (all_loaded later layout k.numbers))
  same-words = IsPermutation-append_right unlinked (words_at layout.at (all_nodes state layout k.numbers)) (words_at layout.at (all_nodes later layout k.numbers))
      (subst (λ (ns : List ℕ). IsPermutation (words_at layout.at ns) (words_at layout.at (all_nodes later layout k.numbers))) (sym old-all)
      (subst (λ (ns : List ℕ). IsPermutation (words_at layout.at (prefix ++ node ∷ (suffix ++ doomed_nodes layout k.numbers))) (words_at layout.at ns)) (sym new-all) (node-to-front layout.at prefix node (suffix ++ doomed_nodes layout k.numbers))))

  pub touched-kept : KeepsUncounted later layout unlinked image
  touched-kept = rearranged state later layout layout unlinked unlinked k.numbers from image k leaves arranged same-words

  uses-long : length later.uses ≡ length state.uses
  uses-long =
      let new = ap length a.rest in
      let old = ap length a.is in
      let one = length-append a.before a.suffix in
      let two = length-append a.before (item ∷ a.suffix) in
      omega (arith, new, old, one, two)

pub touch-keeps : TouchesKeepTheState
touch-keeps state layout unlinked from image item k there done = touched-kept state layout unlinked from image item k there done

pub touch-counts : TouchesKeepTheCounters
touch-counts state layout unlinked from image item keeps there done = record {
  entries = touched-kept state layout unlinked from image item keeps.entries there done;
  counters = touch-count (touch_writes (layout.place item) (list_of from)) (layout.place item) from image done.touched.outside ∙ keeps.counters
      ∙ ap₂ counting (sym (uses-long _ _ _ _ _ _ keeps.entries there done))
      (ap (λ (ns : List ℕ). sum_by charge_of (loaded_at layout ns)) (old-order _ _ _ _ _ _ keeps.entries there done)
      ∙ sym (moved-same (λ (ns : List ℕ). sum_by charge_of (loaded_at layout ns)) (sums-add charge_of layout.at) _ _ _)
      ∙ ap (λ (ns : List ℕ). sum_by charge_of (loaded_at layout ns)) (sym (new-order _ _ _ _ _ _ keeps.entries there done)));
}
