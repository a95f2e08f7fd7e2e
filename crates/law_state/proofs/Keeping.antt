-- The state that a folder keeps: its durable contents are recovered, it is represented, and the folder is consistent where nothing is doomed or dirty.
use Rattle.std.proofs.Common.{◌≡◌, ℕ, List, [], ◌∷◌, ◌++◌, map, refl, ap, sym, ◌∙◌, subst, true, false, Option, Some, None}
use Rattle.std.specs.Prelude.{◌&&◌, ◌==◌, is_some, if◌then◌else◌, IfSome}
use Rattle.std.specs.Option.{option_and_then, IsSomeAnd}
use Rattle.std.specs.List.{flat_map, filter_map, AllByRecursion}
use Rattle.std.proofs.lemmas.List.Sums.{length-filter}
use Rattle.blk_model.specs.Items.{Item, main, part, Row}
use Rattle.blk_model.specs.State.{State, Object, IsValidState, object_at}
use Rattle.blk_model.specs.Holding.{owner, row_of}
use Rattle.blk_model.specs.Stops.{is_live_and_settled}
use Rattle.spec_image.specs.Image.{Image}
use Rattle.spec_format.specs.Claims.{Claim, BlockOf, ExternalOf, claims_of_all, claims_of, has_claim, is_in_file}
use Rattle.spec_format.specs.BlockFiles.{is_among, HasSoundHeaders}
use Rattle.spec_format.proofs.Finished.{formed-of, well_formed-finished}
use Rattle.spec_folder.specs.View.{View, list_of, store_of, view_of}
use Rattle.spec_folder.specs.Loads.{held_rule, listed_rule, Loaded, claims_of_loaded}
use Rattle.spec_folder.specs.Audit.{kept_among, kept_by, dropped_by}
use Rattle.spec_folder.specs.Found.{completed, kept, dropped}
use Rattle.spec_folder.specs.Given.{given_by, GoesWith}
use Rattle.spec_folder.specs.Shown.{IsShown}
use Rattle.spec_folder.specs.Layout.{Layout, is_in, order, IsPlacedAt, Represents}
use Rattle.spec_folder.specs.Sound.{AreOwned, IsInOrder, IsSound, words_of}
use Rattle.spec_folder.specs.StandsFor.{KeepsDoomed, StandsFor, AllIsOwned}
use Rattle.spec_folder.specs.Tidy.{IsTidy}
use Rattle.law_folder.proofs.claims.Allocations.{all-claims, flat_map-append, same-marks}
use Rattle.law_folder.proofs.states.Bare.{idle-list}
use Rattle.law_folder.proofs.states.Central.{none-unlisted, settled-is_test, walk-order}
use Rattle.law_folder.proofs.states.Laid.{IsNodeOf, laid-shown, node-of}
use Rattle.law_folder.proofs.claims.Owner.{IsOwned, owned}
use Rattle.law_folder.proofs.walks.Shown.{dropped-none, kept-given}
use Rattle.law_folder.proofs.states.Standing.{claimed-exactly, found-at_rest, held-at_rest, kept-at}
use Rattle.law_folder.proofs.states.TidyOrder.{tidy-stands}
use Rattle.law_state.specs.Keeping.{AllAreSealed, AreFiles, AreOwners, CountsItems, Keeps, all_loaded, words_in_use}
use Rattle.law_state.specs.KeepingLaws.{AllAreAtRest, HasMagic, KeptStatesAreHeld, KeptStatesAreFound, KeptStatesAreStoodFor, KeptStatesAreSound}

-- the used blocks of the words in use
pub used-claims : (unlinked : List ℕ) (ls : List Loaded) → claims_of_all (words_in_use unlinked ls) ≡ claims_of_all unlinked ++ claims_of_loaded ls
used-claims unlinked ls = flat_map-append claims_of unlinked (flat_map words_of ls) ∙ ap (λ (cs : List Claim). claims_of_all unlinked ++ cs) (all-claims ls)

-- what a folder keeps with nothing unlinked, but for its session
pub record KeepsOffline (state : State) (layout : Layout) (image : Image) : Type 0 where
  pub valid : IsValidState state
  pub sound : HasSoundHeaders image
  pub represents : Represents (view_of image) state layout
  pub numbers : List ℕ
  pub owners : AreOwners state layout numbers
  pub files : AreFiles image (words_in_use [] (all_loaded state layout numbers))
  pub sealed : AllAreSealed image layout
  pub counters : CountsItems image state layout

pub offline : (state : State) (layout : Layout) (image : Image) → Keeps state layout [] image → KeepsOffline state layout image
offline state layout image k = record {
  valid = k.entries.valid;
  sound = k.entries.sound;
  represents = k.entries.represents;
  numbers = k.entries.numbers;
  owners = k.entries.owners;
  files = k.entries.files;
  sealed = k.entries.sealed;
  counters = k.counters;
}

module _ (state : State) (layout : Layout) (image : Image) (k : KeepsOffline state layout image) where
  exactly : (c : Claim) → has_claim (claims_of_all (words_in_use [] (all_loaded state layout k.numbers))) c ≡ is_some (layout.owner c)
  exactly c = ap (λ (cs : List Claim). has_claim cs c) (all-claims (all_loaded state layout k.numbers))
      ∙ claimed-exactly layout k.represents.holds.lies.own k.represents.holds.lies.single state (map layout.place_of_doomed k.numbers) k.owners.exact c

  allocated : AllIsOwned image state layout k.numbers
  allocated = record {
    blocks = λ n b linked below. (k.files.mapped n linked).allocations.marks b below ∙ same-marks n b (words_in_use [] (all_loaded state layout k.numbers)) ∙ exactly (BlockOf n b);
    files = λ n small. k.files.externals n small ∙ exactly (ExternalOf n);
    exact = k.owners.exact;
    once = k.owners.once;
    doomed = k.owners.doomed;
  }

  tidy : IsTidy image state layout k.numbers
  tidy = record {
    only_linked = k.files.only_linked;
    long_enough = k.files.long_enough;
    counted = λ n linked. let m = k.files.mapped n linked in record { num_entries = m.allocations.counted ∙ length-filter (is_in_file n) (words_in_use [] (all_loaded state layout k.numbers)); empty = m.empty; updating = m.updating };
    counts = k.counters;
    sealed = k.sealed;
  }

  pub stands : HasMagic image → StandsFor image state
  stands magic = tidy-stands image state layout k.numbers k.represents k.valid allocated (formed-of image k.sound magic) tidy

-- ---- where each object is live and clean

module _ (state : State) (layout : Layout) (image : Image) (r : Represents (view_of image) state layout) (valid : IsValidState state) (stood : StandsFor image state) (at_rest : AllAreAtRest state) where
  -- each listed item is clean
  main-clean : (key : List ℕ) (l : Loaded) → is_in state.uses (main key) ≡ true → layout.at (layout.place (main key)) ≡ Some l → (l.dirty == 0) ≡ true
  unfolding row_of
  main-clean key l among here = go (owner state (main key)) refl
    where
      settled : (number : ℕ) (o : Object) → object_at state number ≡ Some o → is_live_and_settled (object_at state number) ≡ true
      settled number o is = rw is (subst (λ (x : Option Object). IfSome x (λ object. (object.live && object.settled) ≡ true)) is (at_rest number))

      go : (w : Option ℕ) → owner state (main key) ≡ w → (l.dirty == 0) ≡ true
      go None e =
          let laid : IsPlacedAt state layout (main key) = r.holds.lies.laid (main key) among in
          let none : row_of state (main key) ≡ None = rw e refl in
          absurd (let c : ◌≡◌ {A = Option Row} (Some _) None = sym laid.row ∙ none in cc)
      go (Some number) e =
          let o : IsOwned state (main key) number = owned state (main key) number e in
          (settled-is_test state layout r.holds.lies.laid valid).main_test key l number among here e ∙ settled number o.object o.here

  clean : (item : Item) (l : Loaded) → is_in state.uses item ≡ true → layout.at (layout.place item) ≡ Some l → (l.dirty == 0) ≡ true
  clean (main key) l among here = main-clean key l among here
  clean (part key n) l among here =
      let laid : IsPlacedAt state layout (part key n) = r.holds.lies.laid (part key n) among in
      let same : laid.loaded ≡ l = let a : layout.at (layout.place (part key n)) ≡ Some laid.loaded = laid.here in cc in
      let zero_is : laid.loaded.dirty ≡ 0 = laid.mark in
      ap (λ (x : Loaded). x.dirty == 0) (sym same) ∙ rw zero_is refl

  goes : GoesWith layout state.uses held_rule (λ _. true)
  goes = record {
    clean = λ item l among here good. clean item l among here;
    main_out = λ key l among is bad. absurd (let c : true ≡ false = bad in cc);
    part_in = λ key n l p among is above good. ((r.holds.lies.laid (part key n) among).parent.listed, refl);
    part_out = λ key n l p among is above bad here. bad;
  }

  shown : IsShown (view_of image).store held_rule (order state layout) (given_by (λ _. true) layout)
  shown = laid-shown (view_of image).store state layout r.holds held_rule state.uses (λ _. true) refl (λ i there. there) r.list.distinct goes

  idle : completed (view_of image) ≡ view_of image
  idle = λ i. let v : View = record { list = idle-list (list_of image) r.idle i; store = store_of image } in v

  given-same : ◌≡◌ {A = List Loaded} (filter_map (given_by (λ _. true) layout) (order state layout)) (filter_map layout.at (order state layout))
  given-same = ap (λ (g : ℕ → Option Loaded). filter_map g (order state layout)) (λ i w. same (layout.at w) i) where
    same : (o : Option Loaded) → option_and_then (λ (l : Loaded). if true then Some l else None) o ≡ o
    same None = refl
    same (Some l) = refl

  -- what is kept is what is listed
  kept-listed : kept image ≡ kept_by listed_rule (view_of image)
  unfolding kept
  kept-listed =
      ap (kept_by held_rule) idle
      ∙ ap (kept_among (view_of image).store held_rule) (walk-order (view_of image) state layout r)
      ∙ kept-given (view_of image).store held_rule (order state layout) (given_by (λ _. true) layout) shown
      ∙ given-same ∙ sym (kept-at image state layout r valid)

  not-none : (w : ℕ) → is_among (order state layout) w ≡ true → given_by (λ _. true) layout w ≡ None → ⊥
  not-none w there none =
      let a : IsNodeOf layout state.uses w = node-of layout state.uses w there in
      let laid : IsPlacedAt state layout a.item = r.holds.lies.laid a.item a.among in
      let some : given_by (λ _. true) layout w ≡ Some laid.loaded = ap (given_by (λ _. true) layout) (sym a.is) ∙ rw laid.here refl in
      let c : ◌≡◌ {A = Option Loaded} (Some laid.loaded) None = sym some ∙ none in cc

  none-dropped : dropped image ≡ []
  unfolding dropped
  none-dropped =
      ap (dropped_by held_rule) idle
      ∙ rw (walk-order (view_of image) state layout r)
      (rw (dropped-none (view_of image).store held_rule (order state layout) (given_by (λ _. true) layout) shown not-none, none-unlisted (view_of image) state layout r) refl)

  none-doomed : (doomed : List (ℕ × Loaded)) → AllByRecursion (λ d. IsSomeAnd (object_at state d.0) (λ o. KeepsDoomed (view_of image) o d.1)) doomed → doomed ≡ []
  none-doomed [] each = refl
  none-doomed (d ∷ doomed) each = absurd (go (object_at state d.0) (at_rest d.0) each.0) where
    go : (o : Option Object) → IfSome o (λ object. (object.live && object.settled) ≡ true) → IsSomeAnd o (λ o. KeepsDoomed (view_of image) o d.1) → ⊥
    go None live h = h
    go (Some o) live h = let dead : o.live ≡ false = h.doomed in let z : false ≡ true = rw dead at live in cc

  no-doomed : stood.doomed ≡ []
  no-doomed = none-doomed stood.doomed stood.are_doomed.each

  append-none : (ls : List Loaded) → ls ++ [] ≡ ls
  append-none [] = refl
  append-none (l ∷ ls) = ap (λ (xs : List Loaded). l ∷ xs) (append-none ls)

  sound : IsSound image
  sound = record {
    well_formed = stood.well_formed;
    transaction = r.idle;
    list_end = stood.shows.list_end;
    chain_ends = stood.shows.chain_ends;
    nothing_dropped = none-dropped;
    owned = subst (λ (ls : List Loaded). AreOwned image (claims_of_loaded ls)) (append-none (kept_by listed_rule (view_of image)) ∙ sym kept-listed)
        (subst (λ (ds : List (ℕ × Loaded)). AreOwned image (claims_of_loaded (kept_by listed_rule (view_of image) ++ map (λ (d : ℕ × Loaded). d.1) ds))) no-doomed stood.owned);
    in_order = subst (λ (ls : List Loaded). IsInOrder image ls []) (sym kept-listed)
        (subst (λ (ds : List (ℕ × Loaded)). IsInOrder image (kept_by listed_rule (view_of image)) (map (λ (d : ℕ × Loaded). d.1) ds)) no-doomed stood.in_order);
  }

-- whatever the words of the session are
pub offline-sound : (state : State) (layout : Layout) (image : Image) → KeepsOffline state layout image → HasMagic image → AllAreAtRest state → IsSound image
offline-sound state layout image k magic at_rest = sound state layout image k.represents k.valid (stands state layout image k magic) at_rest

-- ---- the laws

pub kept-held : KeptStatesAreHeld
kept-held state layout unlinked image k = held-at_rest image state layout k.represents k.valid

pub kept-found : KeptStatesAreFound
kept-found state layout unlinked image k magic = found-at_rest image state layout k.represents k.valid (well_formed-finished image (formed-of image k.sound magic))

pub kept-stands : KeptStatesAreStoodFor
kept-stands state layout image k magic = stands state layout image (offline state layout image k) magic

pub kept-sound : KeptStatesAreSound
kept-sound state layout image k magic at_rest = offline-sound state layout image (offline state layout image k) magic at_rest
