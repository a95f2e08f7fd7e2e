-- A stream of a dirty object is written: what lies at its node.
use Rattle.std.proofs.Common.{◌≡◌, ℕ, ◌+◌, ◌<◌, List, ◌++◌, refl, ap, sym, ◌∙◌, subst, Bool, true, false, Ok, Option, Some}
use Rattle.std.specs.Prelude.{◌==◌, IfSome, if◌then◌else◌}
use Rattle.std.specs.List.Sorted.{IsPermutation}
use Rattle.std.proofs.lemmas.Bool.{or_left, or_right}
use Rattle.spec_image.specs.Image.{Image}
use Rattle.spec_image.proofs.Runs.{some_inj}
use Rattle.blk_model.specs.Effects.{streams_with, with_slot, with_stream}
use Rattle.blk_model.specs.Holding as model
use Rattle.blk_model.specs.Items.{Row, is_sparse, main, main_row}
use Rattle.blk_model.specs.State.{IsValidState, Object, State, object_at}
use Rattle.blk_model.proofs.States.{has_main}
use Rattle.spec_format.specs.Address.{place}
use Rattle.spec_format.specs.Claims.{Claim}
use Rattle.spec_folder.specs.Footprint.{IsFreeBut, IsInsideNode, IsReplaced}
use Rattle.spec_folder.specs.Found.{row_of_loaded}
use Rattle.spec_folder.specs.Layout.{Layout, rule_of, order}
use Rattle.spec_folder.specs.Loads.{Loaded, load}
use Rattle.spec_folder.specs.View.{store_of, view_of}
use Rattle.spec_folder.specs.Sound.{AreSealed, words_of}
use Rattle.law_folder.proofs.states.Settling.{main-listed, main-owned}
use Rattle.blk_stream.specs.Loading.{stored_streams_with}
use Rattle.law_state.specs.Changes.{ChangesOnly, Finds}
use Rattle.law_state.specs.Keeping.{KeepsUncounted, all_nodes}
use Rattle.law_state.specs.ObjectLaws.{layout_after}
use Rattle.law_state.proofs.ChangedStates.{main-changed}
use Rattle.law_state.proofs.Dirtying.{set-at}
use Rattle.law_state.proofs.Objects.{changed-doomed-kept, changed-items-kept, doomed-find, unsettled-find}
use Rattle.blk_object.specs.Writing.{node_of_object}
use Rattle.blk_object.proofs.WrittenRoles.{role-written, row-written}
use Rattle.blk_object.proofs.WrittenItems.{KeepsRole, MayBecome}
use Rattle.spec_format.specs.BlockFiles.{is_among}
use Rattle.spec_format.proofs.Among.{is_among-append}
use Rattle.spec_folder.specs.Tidy.{doomed_nodes}
use Rattle.law_folder.proofs.states.Laid.{is_among-node}
use Rattle.blk_object.proofs.FoundLeft.{among-map}

-- ---- the object's row and its dirty flag

pub record IsRowOf (object : Object) (was : Loaded) : Type 0 where
  pub row : row_of_loaded was ≡ main_row object.key object.shape object.streams
  pub mark : (was.dirty == 0) ≡ object.settled

module _ (state : State) (layout : Layout) (unlinked : List ℕ) (from : Image) (k : KeepsUncounted state layout unlinked from) (number : ℕ) (object : Object) (here : object_at state number ≡ Some object) (was : Loaded) (lies : layout.at (node_of_object layout number object) ≡ Some was) where
  abbrev node : ℕ
  node = node_of_object layout number object

  pub object-row : IsRowOf object was
  unfolding model.row_of
  object-row = go object.live refl lies where
    go : (b : Bool) → object.live ≡ b → layout.at (if b then layout.place (main object.key) else layout.place_of_doomed number) ≡ Some was → IsRowOf object was
    go true live at =
        let listed = main-listed state k.valid number object true here live in
        let p = k.represents.holds.lies.laid (main object.key) listed in
        let same : p.loaded ≡ was = some_inj (sym p.here ∙ at) in
        let owned : model.owner_object state (main object.key) ≡ Some object = rw (main-owned state k.valid number object true here live) here in
        let row : model.row_of state (main object.key) ≡ Some (main_row object.key object.shape object.streams) = rw owned refl in
        let said : ◌≡◌ {A = Option Row} (Some (row_of_loaded p.loaded)) (Some (main_row object.key object.shape object.streams)) = sym p.row ∙ row in
        record {
          row = ap row_of_loaded (sym same) ∙ some_inj said;
          mark = ap (λ (l : Loaded). l.dirty == 0) (sym same) ∙ subst (λ (o : Option Object). IfSome o (λ x. (p.loaded.dirty == 0) ≡ x.settled)) owned p.mark;
        }
    go false dead at =
        let d = k.represents.holds.lies.doomed_objects number object here dead in
        let same : d.loaded ≡ was = some_inj (sym d.here ∙ at) in
        record { row = ap row_of_loaded (sym same) ∙ d.row; mark = ap (λ (l : Loaded). l.dirty == 0) (sym same) ∙ d.mark }

  pub node-live : object.live ≡ true → node ≡ layout.place (main object.key)
  node-live live = rw live refl

  pub node-dead : object.live ≡ false → node ≡ layout.place_of_doomed number
  node-dead dead = rw dead refl

  -- the node is among those of the state
  pub node-among : is_among (all_nodes state layout k.numbers) (node_of_object layout number object) ≡ true
  node-among = go object.live refl where
    go : (b : Bool) → object.live ≡ b → is_among (all_nodes state layout k.numbers) (if b then layout.place (main object.key) else layout.place_of_doomed number) ≡ true
    go true live = is_among-append (order state layout) (doomed_nodes layout k.numbers) (layout.place (main object.key)) ∙ or_left (is_among (order state layout) (layout.place (main object.key))) _ (is_among-node layout state.uses (main object.key) (main-listed state k.valid number object true here live))
    go false dead = is_among-append (order state layout) (doomed_nodes layout k.numbers) (layout.place_of_doomed number) ∙ or_right (is_among (order state layout) (layout.place_of_doomed number)) _ (among-map layout.place_of_doomed k.numbers number (k.owners.doomed.all number object here dead))

-- ---- it may be written

module _ (state : State) (layout : Layout) (unlinked : List ℕ) (from : Image) (k : KeepsUncounted state layout unlinked from) (number : ℕ) (object : Object) (here : object_at state number ≡ Some object) (was : Loaded) (lies : layout.at (node_of_object layout number object) ≡ Some was) (i : ℕ) (few : i < 3) (first : is_sparse object.shape ≡ true → i ≡ 0)
    (unsettled : object.settled ≡ false) (new : List ℕ) (valid : IsValidState (with_slot number (Some (record (with_stream object i new) { settled = false })) state)) where
  abbrev node-here : ℕ
  node-here = node_of_object layout number object

  abbrev other : Object
  other = record (with_stream object i new) { settled = false }

  said : IsRowOf object was
  said = object-row state layout unlinked from k number object here was lies

  roles : KeepsRole was was.role (stored_streams_with i new was.streams)
  roles e d change is = role-written e d change was.key object.key object.shape object.streams was.role i new was.streams first said.row is

  -- while it is dirty, the old durable contents are recovered
  finds-same : (touched : Claim → Bool) (us : List ℕ) (old image : Image) → KeepsUncounted state layout us old → ChangesOnly touched old image → IsInsideNode touched (view_of old) (view_of image) layout node-here was → Finds (model.rest state) image
  finds-same touched us old image kept only inside = go object.live refl where
    go : (b : Bool) → object.live ≡ b → Finds (model.rest state) image
    go true live = unsettled-find touched state layout us old image number object (main object.key) was kept only here (has_main object live) unsettled (subst (λ (n : ℕ). layout.at n ≡ Some was) (node-live state layout unlinked from k number object here was lies live) lies)
        (subst (λ (n : ℕ). IsInsideNode touched (view_of old) (view_of image) layout n was) (node-live state layout unlinked from k number object here was lies live) inside) tt
    go false dead = doomed-find touched state layout us old image number object kept only here dead (subst (λ (n : ℕ). IsFreeBut n touched layout) (node-dead state layout unlinked from k number object here was lies dead) inside.apart)

  module _ (touched : Claim → Bool) (us left others : List ℕ) (old image : Image) (kept : KeepsUncounted state layout us old) (only : ChangesOnly touched old image) where
    abbrev now : Loaded
    now = record was { streams = stored_streams_with i new was.streams; others = others }

    module _ (replaced : IsReplaced touched (view_of old) (view_of image) layout node-here was now) (order_same : IsPermutation (us ++ words_of was) (left ++ words_of now)) (sealed : AreSealed image now) where
      row-now : row_of_loaded now ≡ main_row object.key object.shape (streams_with object.streams i new)
      row-now = row-written was.key object.key object.shape object.streams was.streams new was.role i few first said.row

      mark : (was.dirty == 0) ≡ false
      mark = said.mark ∙ unsettled

      -- the state with the object written is kept
      kept-written : KeepsUncounted (with_slot number (Some (record (with_stream object i new) { settled = false })) state) (layout_after layout node-here now) left image
      kept-written = go object.live refl where
        go : (b : Bool) → object.live ≡ b → KeepsUncounted (with_slot number (Some other) state) (layout_after layout node-here now) left image
        go true live =
            let place : node-here ≡ layout.place (main object.key) = node-live state layout unlinked from k number object here was lies live in
            let changed = main-changed state number object other here live live refl refl in
            let there : object_at (with_slot number (Some other) state) number ≡ Some other = set-at state number object other here in
            let owned : model.owner_object (with_slot number (Some other) state) (main object.key) ≡ Some other = rw (main-owned (with_slot number (Some other) state) valid number other true there live) there in
            subst (λ (n : ℕ). KeepsUncounted (with_slot number (Some other) state) (layout_after layout n now) left image) (sym place)
            (changed-items-kept touched state layout us left old image number object other (main object.key) was now kept only
            (record { here = here; key = refl; live = refl; settled = sym unsettled; one = changed.0; valid = valid })
            (main-listed state kept.valid number object true here live) (subst (λ (n : ℕ). layout.at n ≡ Some was) place lies)
            (record {
              key = refl;
              contents = refl;
              dirty = refl;
              row = changed.1 kept.valid ∙ ap Some (sym row-now);
              mark = subst (λ (o : Option Object). IfSome o (λ x. (now.dirty == 0) ≡ x.settled)) (sym owned) mark;
              parent = tt;
              of = λ name e. e;
            })
            (subst (λ (n : ℕ). IsReplaced touched (view_of old) (view_of image) layout n was now) place replaced) order_same sealed)
        go false dead =
            let place : node-here ≡ layout.place_of_doomed number = node-dead state layout unlinked from k number object here was lies dead in
            subst (λ (n : ℕ). KeepsUncounted (with_slot number (Some other) state) (layout_after layout n now) left image) (sym place)
            (changed-doomed-kept touched state layout us left old image number object other was now kept only
            (record { here = here; dead = dead; at = subst (λ (n : ℕ). layout.at n ≡ Some was) place lies }) dead row-now mark
            (subst (λ (n : ℕ). IsFreeBut n touched layout) place replaced.apart) (subst (λ (n : ℕ). load (store_of image) (rule_of layout n) n ≡ Ok now) place replaced.loads) order_same sealed valid)

  pub object-becomes : MayBecome state (with_slot number (Some (record (with_stream object i new) { settled = false })) state) layout (node_of_object layout number object) was was.role (stored_streams_with i new was.streams)
  object-becomes = record {
    lies = lies;
    among = λ us old kept. node-among state layout us old kept number object here was lies;
    finds = λ touched us old image kept only inside name. finds-same touched us old image kept only inside;
    roles = roles;
    keeps = λ touched us left others old image kept only replaced order_same sealed. kept-written touched us left others old image kept only replaced order_same sealed;
  }
