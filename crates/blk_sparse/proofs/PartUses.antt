-- The access to a listed item, by the node that its record names.
use Rattle.std.proofs.Common.{refl, ◌≡◌, inl, inr, ℕ, ◌+◌, List, ◌∷◌, ◌++◌, ap, sym, ◌∙◌, subst, Bool, true, false, Some, Ok}
use Rattle.std.specs.Prelude.{nat_lt, if◌then◌else◌, ◌==◌}
use Rattle.std.specs.Option.{ForSome}
use Rattle.std.proofs.lemmas.Bool.{eqb-true, eq-eqb}
use Rattle.spec_image.specs.Image.{Image}
use Rattle.spec_image.specs.Told.{Applies, Passes, TellsBytes, Told}
use Rattle.spec_image.proofs.Runs.{passes_weaker, some_inj}
use Rattle.blk_model.specs.Holding.{rest}
use Rattle.blk_model.specs.Items.{Item}
use Rattle.blk_model.specs.State.{State}
use Rattle.spec_format.specs.Address.{rankings, is_address, kind_of}
use Rattle.spec_folder.specs.Layout.{Layout, order, rule_of}
use Rattle.spec_folder.specs.ListImages.{HasListAtRest, steps_of_touch, walked}
use Rattle.spec_folder.specs.ListPlans.{touch_writes}
use Rattle.spec_folder.specs.ListSteps.{IsTouched}
use Rattle.spec_folder.specs.ListView.{IsList}
use Rattle.spec_folder.specs.Loads.{load}
use Rattle.spec_folder.specs.View.{RecordFields, entry_at, list_of, stands_as, store_of, view_of}
use Rattle.spec_format.specs.BlockFiles.{is_among}
use Rattle.law_folder.proofs.chains.ChainWords.{shown-fields}
use Rattle.law_folder.proofs.states.Central.{walk-order}
use Rattle.law_folder.proofs.states.Laid.{is_among-node}
use Rattle.law_folder.proofs.walks.Loads.{load-then}
use Rattle.law_folder.proofs.walks.Shown.{node-is}
use Rattle.blk_disk.specs.declared.tables.BlockFiles.{BlockFiles}
use Rattle.blk_disk.specs.Open.{IsOpen}
use Rattle.blk_disk.specs.Tables.{Agrees, is_node_among, names_among, stands_among}
use Rattle.blk_lru.specs.Lists.{IsListed}
use Rattle.blk_lru.specs.Moments.{IsMidTouch}
use Rattle.blk_lru.proofs.NodeWords.{names_node}
use Rattle.law_state.specs.Changes.{Finds}
use Rattle.law_state.specs.ListLaws.{IsTouchDone, with_used}
use Rattle.law_state.proofs.Free.{standing-at}
use Rattle.law_state.proofs.Touched.{leaves, touch-counts, touch-keeps}
use Rattle.law_state.proofs.Touching.{touches-find}
use Rattle.blk_object.specs.KeptLists.{IsAmidList}
use Rattle.law_state.proofs.Counts.{touch-count}
use Rattle.blk_object.proofs.KeptLists.{listed-amid, touches-done, touches-partly}
use Rattle.blk_sparse.specs.Parts.{FindsBeforeOrAfter, IsListedAt, IsUsed}
use Rattle.law_state.proofs.Keeping.{kept-held}

module _ (state : State) (layout : Layout) (unlinked : List ℕ) (item : Item) (entry : ℕ) (from : Image) (l : IsListedAt state layout unlinked item entry from) where
  abbrev node : ℕ
  node = layout.place item

  loads : load (store_of from) (rule_of layout (layout.place item)) (layout.place item) ≡ Ok l.was
  loads = l.kept.represents.holds.shows.each (layout.place item) l.was l.lies

  -- its record names its node
  pub node-said : (entry_at from entry).rankings_node ≡ layout.place item
  node-said = load-then (store_of from) (rule_of layout (layout.place item)) (layout.place item) l.was loads (λ n e f.
      let here : (store_of from).entry entry ≡ Some e = ap (store_of from).entry (sym l.record_is ∙ f.facts.contents_is) ∙ f.entry in
      ap (λ (x : RecordFields). x.rankings_node) (shown-fields from entry e here) ∙ eqb-true e.rankings_node (layout.place item) f.facts.keyed.back)

  -- which is valid
  pub node-there : (files : BlockFiles) → Agrees files from → is_node_among files (entry_at from entry).rankings_node ≡ true
  node-there files agrees =
      let standing = standing-at from state layout l.kept.represents (layout.place item) l.was l.lies in
      let named = node-is (store_of from) (rule_of layout (layout.place item)) (layout.place item) l.was loads in
      names_node files from agrees (entry_at from entry).rankings_node (subst (λ (n : ℕ). stands_as from rankings n ≡ true) (named ∙ sym node-said) standing.node)

  -- and is listed
  pub node-listed : IsListed (layout.place item) from
  node-listed =
      let w : walked from ≡ order state layout = walk-order (view_of from) state layout l.kept.represents in
      record {
        rest = record { whole = subst (λ (ns : List ℕ). IsList (list_of from) ns) (sym w) l.kept.represents.list; idle = l.kept.represents.idle };
        listed = subst (λ (ns : List ℕ). is_among ns (layout.place item) ≡ true) (sym w) (is_among-node layout state.uses item l.listed);
      }

  pub node-amid : IsAmidList (layout.place item) from
  node-amid = listed-amid state layout unlinked from item l.kept l.listed

  -- at each word of the access
  pub touch-finds : (image : Image) → IsTouched from (layout.place item) (touch_writes (layout.place item) (list_of from)) image → FindsBeforeOrAfter state item image
  touch-finds image touched = either (nat_lt touched.made 2) (touches-find state layout unlinked from image l.kept item l.listed touched) where
    either : (b : Bool) → Finds (if b then rest state else rest (with_used state item)) image → FindsBeforeOrAfter state item image
    either true f = inl f
    either false f = inr f

  -- once it is accessed
  pub touch-used : (image : Image) → IsTouchDone from (layout.place item) image → IsUsed state layout unlinked item from image
  touch-used image done = record {
    kept = touch-keeps state layout unlinked from image item l.kept l.listed done;
    counted = λ counts. (touch-counts state layout unlinked from image item (record { entries = l.kept; counters = counts }) l.listed done).counters;
    counters = touch-count (touch_writes (layout.place item) (list_of from)) (layout.place item) from image done.touched.outside;
    session = (leaves state layout unlinked from image item l.kept l.listed done).session;
  }

-- ---- the calls

module _ (files : BlockFiles) (old mid now : Told) (entry node moment : ℕ) (stays : mid ≡ old) (named : ForSome old.files (λ image. node ≡ (entry_at image entry).rankings_node)) where
  module _ (from : Image) (there : old.files ≡ Some from) (state : State) (layout : Layout) (unlinked : List ℕ) (item : Item) (l : IsListedAt state layout unlinked item entry from) where
    pub its-node : node ≡ layout.place item
    its-node = named from there ∙ node-said state layout unlinked item entry from l

    mid-there : mid.files ≡ Some from
    mid-there = ap (λ (t : Told). t.files) stays ∙ there

    pub mid-listed : ForSome mid.files (IsListed node)
    mid-listed i is = subst (IsListed node) (some_inj (sym mid-there ∙ is)) (subst (λ (n : ℕ). IsListed n from) (sym its-node) (node-listed state layout unlinked item entry from l))

    amid : ForSome mid.files (IsAmidList node)
    amid i is = subst (IsAmidList node) (some_inj (sym mid-there ∙ is)) (subst (λ (n : ℕ). IsAmidList n from) (sym its-node) (node-amid state layout unlinked item entry from l))

    pub used-stops : ForSome mid.files (λ from. (prefix suffix : List ℕ) → HasListAtRest (prefix ++ node ∷ suffix) from → Passes mid now (IsMidTouch files node (touch_writes node (list_of from)) (prefix ++ node ∷ suffix) (node ∷ prefix ++ suffix) from))
        → Passes old now (FindsBeforeOrAfter state item)
    used-stops stops =
        let finds : (image : Image) → IsTouched from node (touch_writes node (list_of from)) image → FindsBeforeOrAfter state item image
        = λ image touched. touch-finds state layout unlinked item entry from l image (subst (λ (n : ℕ). IsTouched from n (touch_writes n (list_of from)) image) its-node touched) in
        subst (λ (t : Told). Passes t now (FindsBeforeOrAfter state item)) stays (passes_weaker (touches-partly files node mid now amid stops from mid-there) finds finds)

    pub used-end : TellsBytes mid → ForSome mid.files (IsOpen files) → ForSome mid.files (λ from. Applies mid now (steps_of_touch node moment from)) → ForSome now.files (IsUsed state layout unlinked item from)
    used-end bytes opened steps image is =
        touch-used state layout unlinked item entry from l image (subst (λ (n : ℕ). IsTouchDone from n image) its-node (touches-done files node moment mid now bytes opened amid steps from mid-there image is))

-- before anything is written
pub now-finds : (state : State) (layout : Layout) (unlinked : List ℕ) (item : Item) (entry : ℕ) (from : Image) → IsListedAt state layout unlinked item entry from → FindsBeforeOrAfter state item from
now-finds state layout unlinked item entry from l = inl (l.kept.sound, kept-held state layout unlinked from l.kept)

-- the address of blocks of nodes that are there is that of a node
pub node-among : (files : BlockFiles) (w : ℕ) → is_address w ≡ true → kind_of w ≡ rankings → stands_among files w ≡ true → is_node_among files w ≡ true
unfolding names_among
node-among files w address kind stands = let same : (kind_of w == rankings) ≡ true = eq-eqb (kind_of w) rankings kind in rw (address, same, stands) refl
