-- An object whose stream was written: what is kept then, and the costs of its items.
use Rattle.std.proofs.Common.{◌≡◌, ℕ, zero, suc, ◌+◌, ◌<◌, List, [], ◌∷◌, ◌++◌, length, refl, ap, sym, ◌∙◌, subst, arith, Bool, true, false, Some}
use Rattle.std.specs.List.{sum_by}
use Rattle.std.proofs.lemmas.Bool.{or_parts}
use Rattle.spec_image.specs.Image.{Image}
use Rattle.spec_image.proofs.Runs.{some_inj}
use Rattle.blk_model.specs.Effects.{stream_after, stream_in, stream_of, streams_with}
use Rattle.blk_model.specs.Holding.{rest}
use Rattle.blk_model.specs.Items.{Streams, is_sparse, main}
use Rattle.blk_model.specs.State.{IsValidState, Object, State, object_at}
use Rattle.spec_format.specs.BlockFiles.{is_among}
use Rattle.spec_format.proofs.Among.{is_among-append}
use Rattle.spec_folder.specs.Entries.{stream}
use Rattle.spec_folder.specs.Found.{charge_of}
use Rattle.spec_folder.specs.Layout.{Layout, order}
use Rattle.spec_folder.specs.ListView.{Distinct}
use Rattle.spec_folder.specs.Loads.{Loaded}
use Rattle.spec_folder.specs.Tidy.{doomed_nodes}
use Rattle.spec_folder.specs.View.{entry_at, fields_of}
use Rattle.law_folder.proofs.states.Laid.{is_among-node}
use Rattle.law_folder.proofs.states.Settling.{main-listed}
use Rattle.blk_disk.specs.declared.tables.BlockFiles.{BlockFiles}
use Rattle.blk_disk.specs.Tables.{Agrees, stands_among}
use Rattle.blk_stream.specs.Stages.{IsWrittenByStage, KeepsSeal, WritesByStage}
use Rattle.blk_stream.specs.Streams.{size_word}
use Rattle.blk_stream.specs.Writing.{size_after}
use Rattle.blk_stream.specs.Written.{StreamIsWritten}
use Rattle.blk_stream.specs.Loading.{stored_streams_with}
use Rattle.blk_stream.proofs.EmptyStreams.{fourth_of, streams_known}
use Rattle.blk_stream.proofs.StreamPlaces.{streams_parts}
use Rattle.law_state.specs.Changes.{Finds}
use Rattle.law_state.specs.CommandEnds.{after_write}
use Rattle.law_state.specs.Keeping.{KeepsUncounted}
use Rattle.law_state.specs.ObjectLaws.{layout_after}
use Rattle.blk_object.specs.Writing.{IsRisen, IsWrittenUncounted, node_of_object, with_written}
use Rattle.blk_object.proofs.WrittenCharges.{charge-written, charged-elsewhere, charged-there}
use Rattle.blk_object.proofs.WrittenObjects as objects
use Rattle.blk_object.proofs.WrittenItems as items
use Rattle.blk_object.proofs.WrittenItems.{MayBecome}
use Rattle.blk_object.proofs.WrittenRoles.{stream-was}
use Rattle.blk_object.proofs.WrittenStages.{IsChangedTo, after-streams, stage-finds, stages-end}

-- a stream that was written is read again
stream-again : (os : Streams) (i : ℕ) (new : List ℕ) → i < 3 → stream_in (streams_with os i new) i ≡ new
stream-again os zero new less = refl
stream-again os (suc zero) new less = refl
stream-again os (suc (suc zero)) new less = refl
stream-again os (suc (suc (suc n))) new less = absurd (omega (arith, less))

prefix-distinct : (xs ys : List ℕ) → Distinct (xs ++ ys) → Distinct xs
prefix-distinct [] ys once = tt
prefix-distinct (x ∷ xs) ys once = ((or_parts (is_among xs x) (is_among ys x) (sym (is_among-append xs ys x) ∙ once.0)).0, prefix-distinct xs ys once.1)

-- a state is kept, with a dirty object, of which a stream may be written
pub record IsKeptUnsettled (state : State) (layout : Layout) (unlinked : List ℕ) (number : ℕ) (object : Object) (was : Loaded) (i offset : ℕ) (cut : Bool) (bytes : List ℕ) (image : Image) : Type 0 where
  pub kept : KeepsUncounted state layout unlinked image
  pub here : object_at state number ≡ Some object
  pub unsettled : object.settled ≡ false
  pub lies : layout.at (node_of_object layout number object) ≡ Some was
  pub first : is_sparse object.shape ≡ true → i ≡ 0
  pub valid : IsValidState (with_written state number object i offset cut bytes)

module _ (state : State) (layout : Layout) (unlinked : List ℕ) (number : ℕ) (object : Object) (was : Loaded) (i offset : ℕ) (cut : Bool) (bytes : List ℕ) (few : i < 3) (from : Image) (t : IsKeptUnsettled state layout unlinked number object was i offset cut bytes from) where
  abbrev node : ℕ
  node = node_of_object layout number object

  -- the stream after the write
  abbrev new : List ℕ
  new = stream_after cut (stream_of object i) offset bytes

  its-stream : stream_of object i ≡ stream i was.streams
  its-stream = stream-was was.key object.key object.shape object.streams was.streams [] was.role i few t.first (objects.object-row state layout unlinked from t.kept number object t.here was t.lies).row

  three : was.streams ≡ stream 0 was.streams ∷ stream 1 was.streams ∷ stream 2 was.streams ∷ []
  three =
      let said = items.says state layout unlinked from t.kept (node_of_object layout number object) was t.lies in
      let fourth = fourth_of from was.contents was.streams said.at in
      let parts = streams_parts from (fields_of (entry_at from was.contents)) was.streams said.streams in
      some_inj (sym said.streams ∙ streams_known from (fields_of (entry_at from was.contents)) (stream 0 was.streams) (stream 1 was.streams) (stream 2 was.streams) fourth.0 fourth.1 (parts 0 (omega arith)) (parts 1 (omega arith)) (parts 2 (omega arith)))

  -- ---- the costs of its items
  module _ (now : Loaded) (key : now.key ≡ was.key) (streams : now.streams ≡ stored_streams_with i new was.streams) where
    after-stream : stream_of (after_write object i offset cut bytes) i ≡ new
    after-stream = stream-again object.streams i new few

    live-risen : object.live ≡ true → IsRisen state (with_written state number object i offset cut bytes) layout (layout_after layout node now) (length (stream_of object i)) (length (stream_of (after_write object i offset cut bytes) i))
    live-risen live =
        let place : node ≡ layout.place (main object.key) = objects.node-live state layout unlinked from t.kept number object t.here was t.lies live in
        let among : is_among (order state layout) node ≡ true = subst (λ (n : ℕ). is_among (order state layout) n ≡ true) (sym place) (is_among-node layout state.uses (main object.key) (main-listed state t.kept.valid number object true t.here live)) in
        let all = charged-there layout.at node was now (order state layout) t.lies among (prefix-distinct (order state layout) (doomed_nodes layout t.kept.numbers) t.kept.owners.once) in
        let one = charge-written was now i new few three key streams in
        let old = ap length its-stream in
        let last = ap length after-stream in
        record { items = refl; bytes = omega (arith, all, one, old, last) }

    doomed-risen : object.live ≡ false → IsRisen state (with_written state number object i offset cut bytes) layout (layout_after layout node now) 0 0
    doomed-risen dead =
        let place : node ≡ layout.place_of_doomed number = objects.node-dead state layout unlinked from t.kept number object t.here was t.lies dead in
        let out : is_among (order state layout) node ≡ false = subst (λ (n : ℕ). is_among (order state layout) n ≡ false) (sym place) (t.kept.represents.holds.lies.doomed_objects number object t.here dead).unlisted in
        record { items = refl; bytes = ap (λ (ls : List Loaded). sum_by charge_of ls + 0) (charged-elsewhere layout.at node now (order state layout) out) }

  -- ---- it is written

  becomes : MayBecome state (with_written state number object i offset cut bytes) layout node was was.role (after-streams was i offset cut bytes)
  becomes = subst (λ (b : List ℕ). MayBecome state (with_written state number object i offset cut bytes) layout node was was.role (stored_streams_with i (stream_after cut b offset bytes) was.streams)) its-stream
      (objects.object-becomes state layout unlinked from t.kept number object t.here was t.lies i few t.first t.unsettled new t.valid)

  module _ (files kept : BlockFiles) (stands_files : stands_among files was.contents ≡ true) (agrees : Agrees files from) where
    abbrev written-size : ℕ
    written-size = size_after cut (size_word from was.contents i) offset (length bytes)

    pub object-stage-finds : (image : Image) → WritesByStage files kept was.contents i (size_after cut (size_word from was.contents i) offset (length bytes)) offset bytes from image → Finds (rest state) image
    object-stage-finds = stage-finds state (with_written state number object i offset cut bytes) layout node was i offset cut bytes few was.role becomes unlinked from t.kept files kept stands_files agrees

    module _ (image : Image) (agrees_end : Agrees kept image) (s : StreamIsWritten files kept was.contents i offset cut bytes from image) (seal : KeepsSeal was.contents from image) (w : IsWrittenByStage files kept was.contents i (size_after cut (size_word from was.contents i) offset (length bytes)) offset bytes from image) where
      changed : IsChangedTo (with_written state number object i offset cut bytes) layout unlinked node was was.role (after-streams was i offset cut bytes) from image
      changed = stages-end state (with_written state number object i offset cut bytes) layout node was i offset cut bytes few was.role becomes unlinked from t.kept files kept stands_files agrees image agrees_end s seal w

      abbrev there : Loaded
      there = record was { streams = after-streams was i offset cut bytes; others = changed.is.others }

      same-new : after-streams was i offset cut bytes ≡ stored_streams_with i new was.streams
      same-new = ap (λ (b : List ℕ). stored_streams_with i (stream_after cut b offset bytes) was.streams) (sym its-stream)

      pub object-stages-end : IsWrittenUncounted state layout unlinked number object was i offset cut bytes from image
      object-stages-end = record {
        now = there;
        after = record { node = refl; contents = refl; dirty = refl; key = refl; role = refl; streams = refl };
        kept = changed.is.kept;
        rise_of_live = live-risen there refl same-new;
        rise_of_doomed = doomed-risen there refl same-new;
        counters = changed.counters;
        session = changed.session;
      }
