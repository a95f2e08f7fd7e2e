-- An object that a handle names is doomed: its record gets state 2 once its items are out, and it is kept as a doomed one then.
use Rattle.std.proofs.Common.{◌≡◌, ◌≢◌, inr, ⊎_elim, ℕ, ◌%◌, ◌<◌, ◌≤◌, List, [], ◌∷◌, ◌++◌, length, refl, ap, sym, ◌∙◌, subst, arith, lit≤, Bool, true, false, Ok, Option, None, Some}
use Rattle.std.specs.Prelude.{◌||◌, filter, if◌then◌else◌, not}
use Rattle.std.specs.List.{sum_by}
use Rattle.std.specs.Option.{ForSome, option_map_or}
use Rattle.std.proofs.lemmas.Bool.{cases_Bool}
use Rattle.std.proofs.lemmas.List.Elements.{All-cons, All-nil}
use Rattle.spec_image.specs.Footprint.{SameOutside}
use Rattle.spec_image.specs.Image.{AreBytes, Image}
use Rattle.spec_image.specs.Steps.{after}
use Rattle.spec_image.specs.Told.{Applies, Passes, TellsBytes, Told}
use Rattle.spec_image.proofs.Runs.{passes_then, passes_weaker, some_inj, told_whole}
use Rattle.blk_model.proofs.Same.{bytes_eq_self}
use Rattle.blk_model.specs.Effects.{doomed}
use Rattle.blk_model.specs.Holding.{rest}
use Rattle.blk_model.specs.Items.{Item, main, same_item}
use Rattle.blk_model.specs.State.{Object, State}
use Rattle.spec_format.specs.Address.{blocks_256, kind_of, rankings}
use Rattle.spec_format.specs.BlockFiles.{is_among}
use Rattle.spec_format.specs.Claims.{Claim, claims_of, has_claim}
use Rattle.spec_format.specs.Headers.{counting, header_length}
use Rattle.spec_format.specs.Records.{Node, node_is_sealed}
use Rattle.spec_format.specs.Sealed.{AreChanges, IsMidUpdate, RecordChecks, record_range, seal_place, sealed_steps}
use Rattle.blk_disk.specs.declared.tables.BlockFiles.{BlockFiles}
use Rattle.blk_disk.specs.Open.{IsOpen}
use Rattle.spec_folder.specs.Found.{charge_of}
use Rattle.spec_folder.specs.Layout.{Layout, is_in, is_listed, nodes_of}
use Rattle.spec_folder.specs.ListImages.{IsWritable}
use Rattle.spec_folder.specs.Loads.{Loaded, load, unchained_rule}
use Rattle.spec_folder.specs.Removal.{is_of_another, placed_doomed}
use Rattle.spec_folder.specs.Sound.{AreSealed, words_of}
use Rattle.spec_folder.specs.View.{RecordFields, stands_as, store_of}
use Rattle.law_folder.proofs.chains.ChainWords.{record_checks, shown-fields}
use Rattle.law_folder.proofs.claims.ByteChanges.{node-same}
use Rattle.law_folder.proofs.claims.ClaimLists.{contents-claims}
use Rattle.law_folder.proofs.states.Laid.{is_among-node}
use Rattle.law_folder.proofs.updates.StillShown.{core-standing, standing-parts}
use Rattle.law_folder.proofs.updates.Updates.{entry-seal}
use Rattle.law_folder.proofs.walks.Loads.{load-then}
use Rattle.law_state.specs.Changes.{Finds, KeepsWith, SameSession}
use Rattle.law_state.specs.DoomLaws.{CanBeDoomed}
use Rattle.law_state.specs.GroupLaws.{at_without, gone_nodes, owners_without}
use Rattle.law_state.specs.Keeping.{CountsItems, Keeps, KeepsUncounted}
use Rattle.law_state.specs.PartlyOut.{KeepsPartlyOut, chains_but, keeps_but}
use Rattle.law_state.specs.PartlyOutStops.{LeavesOtherKeys}
use Rattle.law_state.specs.WholeRemovals.{is_no_part_of, part_nodes}
use Rattle.law_state.proofs.AtNodes.{updates-change, updates-leave}
use Rattle.law_state.proofs.Doomed.{doomed-less, other-items}
use Rattle.law_state.proofs.DoomedNumbers.{its-main}
use Rattle.law_state.proofs.DoomedPlaces as places
use Rattle.law_state.proofs.DoomSteps.{IsDoomedRecord, doomed-record, with_doomed}
use Rattle.law_state.proofs.Free.{standing-loaded, then-found}
use Rattle.law_state.proofs.Groups as groups
use Rattle.law_state.proofs.HeldPartlyOut.{held-out-objects-doomed}
use Rattle.law_state.proofs.PartlyFreed.{out-changes}
use Rattle.law_state.proofs.PartlyOut.{only-listed}
use Rattle.law_state.proofs.PartlyOutStops.{partly-out-finds}
use Rattle.law_state.proofs.Removals.{filter-alike}
use Rattle.blk_stream.proofs.Joined.{IsTold, told_then}
use Rattle.blk_object.specs.Counters.{AreCountedLess, IsOneItemLess}
use Rattle.blk_object.specs.Dooming.{ForEachOut, IsDoomedOut, IsDoomedUncounted, IsOutWhole, doomed_change, layout_held}
use Rattle.blk_object.specs.Removing.{IsGoingOut, IsTakenOut, MayGoOut}
use Rattle.blk_object.specs.RemovingFound.{LiesAsFound}
use Rattle.blk_object.specs.RemovingObjects.{FindsEither}
use Rattle.blk_object.specs.UnlinkedLoads.{HeldOutObjectsAreCounted}
use Rattle.blk_object.proofs.CounterWords.{less-counted}
use Rattle.blk_object.proofs.GoingNext.{main-loads, main-may-go, main-on, main-out, main-taken, main-taking, then-counters}
use Rattle.blk_object.proofs.Counts.{still-counts}
use Rattle.blk_object.proofs.Sessions.{counted-session, taken-session, then-session}
use Rattle.blk_object.proofs.TakenItems.{counters-left}
use Rattle.blk_object.proofs.TakenParts.{node-clear}

some-none : {A : Type 0} {x : A} → ◌≡◌ {A = Option A} (Some x) None → ⊥
some-none e = cc

-- ---- the record

-- its state may be changed
pub state-changes : (w : ℕ) → kind_of w ≡ blocks_256 → AreChanges (seal_place w) doomed_change
state-changes w kind = let s = entry-seal w kind in record {
  few = omega arith;
  aligned = All-cons (λ (c : ℕ × ℕ). c.0 % 4 ≡ 0) (20, 2) [] refl (All-nil (λ (c : ℕ × ℕ). c.0 % 4 ≡ 0));
  before = All-cons (λ (c : ℕ × ℕ). c.0 < seal_place w) (20, 2) [] (omega (arith, s)) (All-nil (λ (c : ℕ × ℕ). c.0 < seal_place w));
  different = (All-nil (λ (c : ℕ × ℕ). c.0 ≢ 20), tt);
}

module _ (state : State) (layout : Layout) (number : ℕ) (object : Object) (loaded : Loaded) (chains : ℕ → List ℕ) (unlinked : List ℕ) (entry : ℕ) (from : Image) (o : IsOutWhole state layout number object loaded chains unlinked entry from) where
  abbrev node : ℕ
  node = layout.place (main object.key)

  abbrev keep : Item → Bool
  keep = is_of_another object.key

  abbrev gone : List ℕ
  gone = gone_nodes state layout keep

  abbrev words : List ℕ
  words = words_of loaded ++ unlinked

  listed : is_listed state (main object.key) ≡ true
  listed = its-main state layout number object loaded o.keeps.numbers o.keeps.valid o.keeps.owners o.placed o.named

  main-goes : keep (main object.key) ≡ false
  main-goes = ap not (bytes_eq_self object.key)

  leaves : LeavesOtherKeys object.key keep
  leaves = record { out = main-goes; others = λ i e. e }

  its-node : is_among gone node ≡ true
  its-node = groups.goes state layout keep o.keeps.numbers o.keeps.lies o.keeps.owners (main object.key) listed main-goes

  -- no node that isn't out owns the object's record
  apart : (c : Claim) (n : ℕ) → layout.owner c ≡ Some n → is_among gone n ≡ false → has_claim (claims_of entry) c ≡ false
  apart c n own stays = ⊎_elim
      (λ (h : has_claim (claims_of entry) c ≡ true).
      let mine : layout.owner c ≡ Some node = o.keeps.lies.own node loaded c o.placed.at (contents-claims loaded c (subst (λ (w : ℕ). has_claim (claims_of w) c ≡ true) (sym o.entry_is) h)) in
      absurd (let z : true ≡ false = sym its-node ∙ ap (is_among gone) (some_inj (sym mine ∙ own)) ∙ stays in cc))
      (λ (h : has_claim (claims_of entry) c ≡ false). h)
      (cases_Bool (has_claim (claims_of entry) c))

  stands-so : stands_as from blocks_256 entry ≡ true
  stands-so = load-then (store_of from) (unchained_rule 0) node loaded o.loads (λ n e f.
      subst (λ (w : ℕ). stands_as from blocks_256 w ≡ true) (sym f.facts.contents_is ∙ o.entry_is) (core-standing from n.contents e f.entry))

  abbrev kind : kind_of entry ≡ blocks_256
  kind = (standing-parts from blocks_256 entry stands-so).1

  -- while it is changed
  stays-out : (image : Image) → SameOutside (record_range entry) from image → KeepsPartlyOut state layout keep chains words image
  stays-out image same = out-changes (has_claim (claims_of entry)) state layout keep chains words from image o.keeps
      (updates-change from image entry (standing-parts from blocks_256 entry stands-so).0 (inr kind) same) apart

  pub mid-finds : (image : Image) → IsMidUpdate from entry doomed_change image → Finds (rest (doomed number state (Some object))) image
  mid-finds image m = partly-out-finds state layout number object keep chains words image o.placed.here leaves (stays-out image m.outside)

  pub out-checks : AreBytes from → RecordChecks entry from
  out-checks bytes = load-then (store_of from) (unchained_rule 0) node loaded o.loads (λ n e f.
      let here : (store_of from).entry entry ≡ Some e = ap (store_of from).entry (sym o.entry_is ∙ f.facts.contents_is) ∙ f.entry in
      record_checks from entry bytes kind (ap (λ (x : RecordFields). x.checks) (shown-fields from entry e here) ∙ f.checks))

  -- once the record is writable
  module _ (ready : IsWritable from) where
    d : IsDoomedRecord from node loaded
    d = doomed-record from node loaded ready o.loads (o.keeps.lies.single node loaded o.placed.at)

    outside : SameOutside (record_range entry) from (with_doomed from loaded)
    outside = subst (λ (w : ℕ). SameOutside (record_range w) from (with_doomed from loaded)) o.entry_is d.outside

    node-stands : stands_as from rankings loaded.node ≡ true
    node-stands = (standing-loaded from layout node loaded (subst (λ (s : ℕ). load (store_of from) (unchained_rule s) node ≡ Ok loaded) (sym (o.keeps.lies.normal node (is_among-node layout state.uses (main object.key) listed))) o.loads)).node

    pub doomed-there : IsDoomedOut state layout number object loaded chains unlinked from (with_doomed from loaded)
    doomed-there = record {
      held = record {
        placed = o.placed;
        named = o.named;
        keeps = stays-out (with_doomed from loaded) outside;
        loads = d.loads;
        sealed = record {
          node = ap (λ (n : Node). node_is_sealed n) (node-same (has_claim (claims_of loaded.contents)) from (with_doomed from loaded) d.only.agree loaded.node node-stands (node-clear loaded (o.keeps.lies.single node loaded o.placed.at))) ∙ o.sealed.node;
          entry = d.sealed;
        };
      };
      counters = updates-leave from (with_doomed from loaded) entry outside;
      session = d.only.session;
    }

-- a folder that is open can be written
pub open-writable : (files : BlockFiles) (from : Image) → AreBytes from → IsOpen files from → IsWritable from
open-writable files from bytes open_folder = record { bytes = bytes; has_header = subst (λ (n : ℕ). header_length ≤ n) (sym open_folder.whole_index) (lit≤ tt) }

-- of an observable folder
pub doomed-told : (files : BlockFiles) (a b : Told) (entry : ℕ) → TellsBytes a → ForSome a.files (IsOpen files) → ForSome a.files (λ from. Applies a b (sealed_steps from entry doomed_change))
    → ForSome a.files (λ from. ForEachOut entry from (λ kept loaded chains. ForSome b.files (IsDoomedOut kept.state kept.layout kept.number kept.object loaded chains kept.unlinked from)))
doomed-told files a b entry bytes open_folder steps from there state layout number object loaded chains unlinked o =
    told_whole (IsDoomedOut state layout number object loaded chains unlinked from) (steps from there) (λ image is.
    subst (λ (i : Image). IsDoomedOut state layout number object loaded chains unlinked from (after (sealed_steps from entry doomed_change) i)) (some_inj (sym there ∙ is))
    (subst (λ (w : ℕ). IsDoomedOut state layout number object loaded chains unlinked from (after (sealed_steps from w doomed_change) from)) o.entry_is
    (doomed-there state layout number object loaded chains unlinked entry from o (open-writable files from (bytes from there) (open_folder from there)))))

-- ---- an object whose parts are out

pub held-out-counted : HeldOutObjectsAreCounted
unfolding doomed
held-out-counted state layout number object loaded chains unlinked image h c = record {
  entries = held-out-objects-doomed state layout number object loaded chains unlinked image h;
  counters = c ∙ ap (λ (ls : List Loaded). counting (length (filter (is_of_another object.key) state.uses)) (sum_by charge_of ls)) (sym (groups.same-at layout (part_nodes state layout object.key) (nodes_of layout (filter (is_of_another object.key) state.uses))
      (places.others-stay state layout number object loaded chains h.keeps.numbers h.keeps.valid h.keeps.lies h.keeps.owners h.placed h.named)));
}

-- ---- an object without parts

none-stay : (items : List Item) → filter (λ item. false) items ≡ []
none-stay [] = refl
none-stay (i ∷ items) = none-stay items

-- none of its parts is out
no-parts : (state : State) (layout : Layout) (number : ℕ) (object : Object) (loaded : Loaded) → CanBeDoomed state layout number object loaded → part_nodes state layout object.key ≡ []
no-parts state layout number object loaded can = ap (nodes_of layout) (filter-alike (λ item. not (is_no_part_of object.key item)) (λ item. false) state.uses none ∙ none-stay state.uses) where
  or-not : (b : Bool) → not (not b || b) ≡ false
  or-not true = refl
  or-not false = refl

  none : (i : Item) → is_in state.uses i ≡ true → not (is_no_part_of object.key i) ≡ false
  none i there = ap (λ (b : Bool). not (b || same_item (main object.key) i)) (other-items state object.key can.alone i there) ∙ or-not (same_item (main object.key) i)

own-all : (q : Option ℕ) → (if option_map_or (is_among []) q false then None else q) ≡ q
own-all None = refl
own-all (Some n) = refl

-- so its layout is the one without it in its chain
layouts-are : (layout : Layout) (number node : ℕ) (chains : ℕ → List ℕ) (parts : List ℕ) → parts ≡ [] → placed_doomed layout number node (at_without layout parts) chains (owners_without layout parts) ≡ placed_doomed layout number node layout.at chains layout.owner
layouts-are layout number node chains parts none =
    ap (λ (ps : List ℕ). placed_doomed layout number node (at_without layout ps) chains (owners_without layout ps)) none
    ∙ ap (λ (owner : Claim → Option ℕ). placed_doomed layout number node layout.at chains owner) (λ i claim. own-all (layout.owner claim) i)

-- what holds once its main item is out, and then once its record has state 2
module _ (a m b : Told) (state : State) (layout : Layout) (unlinked : List ℕ) (number : ℕ) (object : Object) (loaded : Loaded) (node entry : ℕ) (before : Option ℕ) (from : Image) (there : a.files ≡ Some from) (k : KeepsUncounted state layout unlinked from) (can : CanBeDoomed state layout number object loaded)
    (p : LiesAsFound state layout object.key node entry before) (stops : ForSome a.files (λ i. MayGoOut node entry before i → Passes a m (IsGoingOut node entry before i))) where
  pub held-may-go : MayGoOut node entry before from
  held-may-go = main-may-go a m b state layout unlinked number object node entry before from there k can.lies.here can.lies.live p stops

  pub held-taking : Passes a m (FindsEither state (doomed number state (Some object)))
  held-taking = main-taking a m b state layout unlinked number object node entry before from there k can.lies.here can.lies.live p stops

  pub held-on : IsTold m (IsGoingOut node entry before from)
  held-on = main-on a m b state layout unlinked number object node entry before from there k can.lies.here can.lies.live p stops

  -- so the folder isn't opaque in between
  pub held-told : m.files ≡ None → ⊥
  held-told none = some-none (sym held-on.is ∙ none)

  it : p.was ≡ loaded
  it = some_inj (sym p.lies.here ∙ can.lies.at)

  abbrev chains : ℕ → List ℕ
  chains = chains_but layout.chains loaded.contents

  module _ (taken : ForSome a.files (λ i. MayGoOut node entry before i → ForSome m.files (IsTakenOut node entry before i))) where
    t : IsTakenOut node entry before from held-on.image
    unfolding held-on
    t = main-taken a m b state layout unlinked number object node entry before from there k can.lies.here can.lies.live p stops taken

    out : KeepsPartlyOut state layout (keeps_but (λ item. true) (main object.key)) chains (words_of loaded ++ unlinked) held-on.image
    unfolding held-on
    out = subst (λ (l : Loaded). KeepsPartlyOut state layout (keeps_but (λ item. true) (main object.key)) (chains_but layout.chains l.contents) (words_of l ++ unlinked) held-on.image) it
        (main-out a m b state layout unlinked number object node entry before from there k can.lies.here can.lies.live p stops taken)

    pub held-whole : IsOutWhole state layout number object loaded chains unlinked entry held-on.image
    unfolding held-on
    held-whole =
        let loads = main-loads a m b state layout unlinked number object node entry before from there k can.lies.here can.lies.live p stops taken in
        record {
          placed = can.lies;
          named = can.named;
          keeps = only-listed state layout (keeps_but (λ item. true) (main object.key)) (is_of_another object.key) chains (words_of loaded ++ unlinked) held-on.image out (λ i among. sym (other-items state object.key can.alone i among));
          loads = subst (λ (l : Loaded). load (store_of held-on.image) (unchained_rule 0) (layout.place (main object.key)) ≡ Ok l) it loads.0;
          sealed = subst (AreSealed held-on.image) it loads.1;
          entry_is = ap (λ (l : Loaded). l.contents) (sym it) ∙ p.entry_is;
        }

    pub held-doomed : ForSome m.files (λ i. ForEachOut entry i (λ kept loaded chains. ForSome b.files (IsDoomedOut kept.state kept.layout kept.number kept.object loaded chains kept.unlinked i))) → ForSome b.files (IsDoomedUncounted state layout unlinked number object loaded from)
    held-doomed dooms image is =
        let d : IsDoomedOut state layout number object loaded chains unlinked held-on.image image = dooms held-on.image held-on.is state layout number object loaded chains unlinked held-whole image is in
        record {
          kept = subst (λ (y : Layout). KeepsUncounted (doomed number state (Some object)) y unlinked image) (layouts-are layout number (layout.place (main object.key)) chains (part_nodes state layout object.key) (no-parts state layout number object loaded can))
              (held-out-objects-doomed state layout number object loaded chains unlinked image d.held);
          counters = then-counters from held-on.image image (counters-left node entry before from held-on.image t) d.counters;
          session = then-session from held-on.image image (taken-session node entry before from held-on.image t) d.session;
        }

    pub held-stops : ForSome m.files (λ i. ForEachOut entry i (λ kept loaded chains. Passes m b (Finds (rest (doomed kept.number kept.state (Some kept.object)))))) → Passes a b (FindsEither state (doomed number state (Some object)))
    held-stops passes = passes_then held-taking (passes_weaker (passes held-on.image held-on.is state layout number object loaded chains unlinked held-whole) (λ image found. inr found) (λ image found. inr found))

-- ---- counted no longer

module _ (a m b : Told) (state : State) (layout : Layout) (unlinked : List ℕ) (number : ℕ) (object : Object) (loaded : Loaded) (from : Image) (there : a.files ≡ Some from) (k : KeepsUncounted state layout unlinked from) (can : CanBeDoomed state layout number object loaded)
    (first : Passes a m (FindsEither state (doomed number state (Some object)))) (held : ForSome m.files (IsDoomedUncounted state layout unlinked number object loaded from)) where
  abbrev now : Layout
  now = layout_held layout number object loaded

  doomed-on : IsTold m (FindsEither state (doomed number state (Some object)))
  doomed-on = told_then a m from (FindsEither state (doomed number state (Some object))) there first

  -- so the folder isn't opaque in between
  pub doomed-silent : m.files ≡ None → ⊥
  doomed-silent none = some-none (sym doomed-on.is ∙ none)

  kept : IsDoomedUncounted state layout unlinked number object loaded from doomed-on.image
  kept = held doomed-on.image doomed-on.is

  pub doomed-stops : ForSome m.files (λ i. Passes m b (KeepsWith [] [] i)) → Passes a b (FindsEither state (doomed number state (Some object)))
  doomed-stops keeps = passes_then first (passes_weaker (keeps doomed-on.image doomed-on.is) finds finds) where
    finds : (image : Image) → KeepsWith [] [] doomed-on.image image → FindsEither state (doomed number state (Some object)) image
    finds image still = inr (then-found [] [] doomed-on.image image still (doomed number state (Some object)) now unlinked kept.kept)

  module _ (charge : ℕ) (less : ForSome m.files (λ i. ForSome b.files (AreCountedLess charge i))) where
    pub doomed-session : ForSome b.files (SameSession from)
    doomed-session image is = then-session from doomed-on.image image kept.session (counted-session charge doomed-on.image image (less doomed-on.image doomed-on.is image is))

    pub doomed-counted : CountsItems from state layout → charge ≡ charge_of loaded → ForSome b.files (Keeps (doomed number state (Some object)) now unlinked)
    doomed-counted counts is image told =
        let one = doomed-less state layout unlinked number object loaded from k can in
        let fewer : IsOneItemLess state (doomed number state (Some object)) layout now (charge_of loaded) = record { items = one.items; bytes = one.bytes } in
        less-counted state (doomed number state (Some object)) layout now unlinked charge doomed-on.image image (still-counts from doomed-on.image state layout kept.counters counts)
        (subst (IsOneItemLess state (doomed number state (Some object)) layout now) (sym is) fewer) kept.kept (less doomed-on.image doomed-on.is image told)
