-- The calls by which a stream of an object is written.
use Rattle.std.proofs.Common.{◌≡◌, ℕ, ◌<◌, List, [], length, sym, ◌∙◌, subst, Bool, true, Option, Some, None, ◌≤◌, refl}
use Rattle.std.specs.Option.{ForSome}
use Rattle.std.specs.declared.result.Result.{Result}
use Rattle.spec_image.specs.Image.{AreBytes, Image}
use Rattle.spec_image.specs.Told.{Passes, TellsBytes, Told}
use Rattle.spec_image.proofs.Runs.{passes_none, passes_weaker, some_inj}
use Rattle.blk_model.specs.Holding.{rest}
use Rattle.blk_model.specs.State.{Object, State}
use Rattle.spec_format.specs.Headers.{HasWholeIndex}
use Rattle.spec_format.proofs.Finished.{sound-whole}
use Rattle.spec_folder.specs.Layout.{Layout}
use Rattle.spec_folder.specs.Loads.{Loaded}
use Rattle.law_folder.proofs.claims.ByteChanges.{stands-address}
use Rattle.blk_io.specs.declared.fault.Fault.{Fault}
use Rattle.blk_io.specs.Faults.{IfDamaged}
use Rattle.blk_io.proofs.Carried.{if_damaged_weaker}
use Rattle.blk_disk.specs.declared.tables.BlockFiles.{BlockFiles}
use Rattle.blk_disk.specs.Open.{IsOpen}
use Rattle.blk_disk.specs.Tables.{Agrees, stands_among}
use Rattle.blk_stream.specs.Stages.{IsWrittenByStage, KeepsSeal, WritesByStage}
use Rattle.blk_stream.specs.Streams.{address_word, size_word}
use Rattle.blk_stream.specs.Writing.{size_after}
use Rattle.blk_stream.specs.Written.{CanBeWritten, StreamIsWritten}
use Rattle.blk_stream.proofs.StreamPlaces.{may_parts, stored_some, stream_facts}
use Rattle.law_state.specs.Changes.{Finds}
use Rattle.law_state.proofs.Free.{then-found}
use Rattle.blk_object.specs.Writing.{ForEachUnsettled, HasStreamThere, IsToBeWritten, IsWrittenUncounted, node_of_object, ForEachPartUnsettled, IsPartToBeWritten, IsPartWrittenUncounted}
use Rattle.blk_object.proofs.MakingTaken.{told-mid}
use Rattle.blk_object.proofs.WrittenEnds.{IsKeptUnsettled, object-stage-finds, object-stages-end}
use Rattle.blk_object.proofs.WrittenItems.{other-address, says, MayBecome}
use Rattle.blk_object.proofs.WrittenObjects.{node-among}
use Rattle.blk_object.proofs.WrittenWords.{can-be-written}
use Rattle.blk_model.specs.Items.{PartValue, part}
use Rattle.law_state.specs.PartStates.{with_object, with_value}
use Rattle.spec_folder.specs.Entries.{Role}
use Rattle.law_state.specs.Keeping.{KeepsUncounted, all_nodes}
use Rattle.spec_format.specs.BlockFiles.{is_among}
use Rattle.blk_model.specs.Room.{items}
use Rattle.blk_model.specs.Sizes.{most_items}
use Rattle.blk_object.proofs.WrittenStages.{after-streams, stage-finds, stages-end, IsChangedTo}
use Rattle.blk_object.proofs.WrittenParts.{part-becomes, part-among}

kept-so : (state : State) (layout : Layout) (unlinked : List ℕ) (number : ℕ) (object : Object) (was : Loaded) (entry i offset : ℕ) (cut : Bool) (bytes : List ℕ) (from : Image) → IsToBeWritten state layout unlinked number object was entry i offset cut bytes from → IsKeptUnsettled state layout unlinked number object was i offset cut bytes from
kept-so state layout unlinked number object was entry i offset cut bytes from t = record { kept = t.kept; here = t.here; unsettled = t.unsettled; lies = t.lies; first = t.first_if_sparse; valid = t.valid }

-- what the two looks find at one of the nodes of a state
there-at : (state : State) (layout : Layout) (unlinked : List ℕ) (from : Image) (k : KeepsUncounted state layout unlinked from) (node : ℕ) (was : Loaded) (lies : layout.at node ≡ Some was) → is_among (all_nodes state layout k.numbers) node ≡ true
    → (files : BlockFiles) (i : ℕ) → i < 3 → Agrees files from → AreBytes from → items state ≤ most_items → length unlinked ≤ 2 → HasStreamThere was.contents i from
there-at state layout unlinked from k node was lies among files i few agrees small low room =
    let facts = stream_facts files from was.contents i was.streams agrees few (says state layout unlinked from k node was lies).at in
    record {
      checks = (can-be-written state layout unlinked from k node was lies among files i 0 agrees small low room).checks;
      address = λ some. stands-address from (address_word from was.contents i) (other-address state layout unlinked from k node was lies i few (stored_some files (size_word from was.contents i) (address_word from was.contents i) some (may_parts files (size_word from was.contents i) (address_word from was.contents i) facts.keep).1));
      there = facts.there;
    }

-- what they find of an object
pub stream-there : (files : BlockFiles) (entry i offset : ℕ) (cut : Bool) (bytes : List ℕ) (from : Image) → i < 3 → Agrees files from → AreBytes from → ForEachUnsettled entry i offset cut bytes from (λ state layout unlinked number object was. HasStreamThere entry i from)
stream-there files entry i offset cut bytes from few agrees small state layout unlinked number object was t =
    subst (λ (e : ℕ). HasStreamThere e i from) t.record_is (there-at state layout unlinked from t.kept (node_of_object layout number object) was t.lies (node-among state layout unlinked from t.kept number object t.here was t.lies) files i few agrees small t.few t.room)

module _ (a b : Told) (files kept : BlockFiles) (entry i offset : ℕ) (cut : Bool) (bytes : List ℕ) (few : i < 3) (stands : stands_among files entry ≡ true) (tells : TellsBytes a) (open_folder : ForSome a.files (IsOpen files)) where
  can : (from : Image) → a.files ≡ Some from → ForEachUnsettled entry i offset cut bytes from (λ state layout unlinked number object was. CanBeWritten files entry i (size_after cut (size_word from entry i) offset (length bytes)) from)
  can from there state layout unlinked number object was t =
      subst (λ (e : ℕ). CanBeWritten files e i (size_after cut (size_word from e i) offset (length bytes)) from) t.record_is
      (can-be-written state layout unlinked from t.kept (node_of_object layout number object) was t.lies (node-among state layout unlinked from t.kept number object t.here was t.lies) files i (size_after cut (size_word from was.contents i) offset (length bytes)) (open_folder from there).agrees (tells from there) t.few t.room)

  -- at each word the old durable contents are recovered
  pub object-finds : ForSome a.files (λ from. CanBeWritten files entry i (size_after cut (size_word from entry i) offset (length bytes)) from → Passes a b (WritesByStage files kept entry i (size_after cut (size_word from entry i) offset (length bytes)) offset bytes from))
      → ForSome a.files (λ from. ForEachUnsettled entry i offset cut bytes from (λ state layout unlinked number object was. Passes a b (Finds (rest state))))
  object-finds stages from there state layout unlinked number object was t = passes_weaker (stages from there (can from there state layout unlinked number object was t)) finds finds where
    by-record : (e : ℕ) → was.contents ≡ e → stands_among files e ≡ true → (image : Image) → WritesByStage files kept e i (size_after cut (size_word from e i) offset (length bytes)) offset bytes from image → Finds (rest state) image
    by-record e same = subst (λ (x : ℕ). stands_among files x ≡ true → (image : Image) → WritesByStage files kept x i (size_after cut (size_word from x i) offset (length bytes)) offset bytes from image → Finds (rest state) image) same
        (λ st image w. object-stage-finds state layout unlinked number object was i offset cut bytes few from (kept-so state layout unlinked number object was entry i offset cut bytes from t) files kept st (open_folder from there).agrees image w)

    finds : (image : Image) → WritesByStage files kept entry i (size_after cut (size_word from entry i) offset (length bytes)) offset bytes from image → Finds (rest state) image
    finds = by-record entry t.record_is stands

  -- in the end it is kept with the stream written
  pub object-written : ForSome a.files (λ from. CanBeWritten files entry i (size_after cut (size_word from entry i) offset (length bytes)) from → ForSome b.files (IsWrittenByStage files kept entry i (size_after cut (size_word from entry i) offset (length bytes)) offset bytes from))
      → ForSome a.files (λ from. CanBeWritten files entry i (size_after cut (size_word from entry i) offset (length bytes)) from → ForSome b.files (StreamIsWritten files kept entry i offset cut bytes from))
      → ForSome a.files (λ from. CanBeWritten files entry i (size_after cut (size_word from entry i) offset (length bytes)) from → ForSome b.files (KeepsSeal entry from))
      → ForSome b.files (Agrees kept) → ForSome a.files (λ from. ForEachUnsettled entry i offset cut bytes from (λ state layout unlinked number object was. ForSome b.files (IsWrittenUncounted state layout unlinked number object was i offset cut bytes from)))
  object-written staged written sealed agrees from there state layout unlinked number object was t image now =
      by-record entry t.record_is stands (staged from there c image now) (written from there c image now) (sealed from there c image now)
    where
      c : CanBeWritten files entry i (size_after cut (size_word from entry i) offset (length bytes)) from
      c = can from there state layout unlinked number object was t

      by-record : (e : ℕ) → was.contents ≡ e → stands_among files e ≡ true → IsWrittenByStage files kept e i (size_after cut (size_word from e i) offset (length bytes)) offset bytes from image → StreamIsWritten files kept e i offset cut bytes from image → KeepsSeal e from image
          → IsWrittenUncounted state layout unlinked number object was i offset cut bytes from image
      by-record e same = subst (λ (x : ℕ). stands_among files x ≡ true → IsWrittenByStage files kept x i (size_after cut (size_word from x i) offset (length bytes)) offset bytes from image → StreamIsWritten files kept x i offset cut bytes from image → KeepsSeal x from image
          → IsWrittenUncounted state layout unlinked number object was i offset cut bytes from image) same
          (λ st w s seal. object-stages-end state layout unlinked number object was i offset cut bytes few from (kept-so state layout unlinked number object was entry i offset cut bytes from t) files kept st (open_folder from there).agrees image (agrees image now) s seal w)

  -- an observable folder, with such an object, reports no corruption
  pub object-untold : {A : Type 0} (r : Result A Fault) → (ForSome a.files (λ from. CanBeWritten files entry i (size_after cut (size_word from entry i) offset (length bytes)) from) → IfDamaged r (λ _. a.files ≡ None))
      → ForSome a.files (λ from. ForEachUnsettled entry i offset cut bytes from (λ state layout unlinked number object was. IfDamaged r (λ _. a.files ≡ None)))
  object-untold {A} r untold from there state layout unlinked number object was t =
      untold (λ x is. subst (λ (y : Image). CanBeWritten files entry i (size_after cut (size_word y entry i) offset (length bytes)) y) (some_inj (sym there ∙ is)) (can from there state layout unlinked number object was t))

  -- an observable folder, with such an object, reports no short index
  pub index-untold : {A : Type 0} (r : Result A Fault) → ForSome a.files (λ from. ForEachUnsettled entry i offset cut bytes from (λ state layout unlinked number object was. Passes a b (Finds (rest state))))
      → ForSome a.files (λ from. ForEachUnsettled entry i offset cut bytes from (λ state layout unlinked number object was. ForSome b.files (IsWrittenUncounted state layout unlinked number object was i offset cut bytes from)))
      → (ForSome b.files HasWholeIndex → IfDamaged r (λ _. b.files ≡ None)) → ForSome a.files (λ from. ForEachUnsettled entry i offset cut bytes from (λ state layout unlinked number object was. IfDamaged r (λ _. a.files ≡ None)))
  index-untold {A} r stops written untold from there state layout unlinked number object was t =
      let mid = told-mid a b from there (stops from there state layout unlinked number object was t) in
      if_damaged_weaker r (λ _. b.files ≡ None) (λ _. a.files ≡ None) (λ damage none. absurd (some-none (sym mid.1 ∙ none)))
      (untold (λ image now. sound-whole image (written from there state layout unlinked number object was t image now).kept.sound))
    where
      some-none : {x : Image} → ◌≡◌ {A = Option Image} (Some x) None → ⊥
      some-none e = cc

-- nothing is written yet
pub nothing-written : (a b : Told) (entry i offset : ℕ) (cut : Bool) (bytes : List ℕ) → b ≡ a → ForSome a.files (λ from. ForEachUnsettled entry i offset cut bytes from (λ state layout unlinked number object was. Passes a b (Finds (rest state))))
nothing-written a b entry i offset cut bytes same from there state layout unlinked number object was t =
    passes_none (Finds (rest state)) same (λ image is. subst (Finds (rest state)) (some_inj (sym there ∙ is)) (then-found [] [] from from (λ s l u k. k) state layout unlinked t.kept))

-- ---- a part

part-becomes-of : (state : State) (layout : Layout) (unlinked : List ℕ) (number : ℕ) (object : Object) (n : ℕ) (value : PartValue) (was : Loaded) (role : Role) (entry i offset : ℕ) (cut : Bool) (bytes : List ℕ) (from : Image) → IsPartToBeWritten state layout unlinked number object n value was role entry i offset cut bytes from
    → MayBecome state (with_object state number (with_value object n value)) layout (layout.place (part object.key n)) was role (after-streams was i offset cut bytes)
part-becomes-of state layout unlinked number object n value was role entry i offset cut bytes from t =
    part-becomes state layout unlinked from t.kept number object t.here t.live t.unsettled n t.old t.has was t.lies (after-streams was i offset cut bytes) role value t.role_is t.row_is t.valid

-- what the two looks find
pub part-stream-there : (files : BlockFiles) (entry i offset : ℕ) (cut : Bool) (bytes : List ℕ) (from : Image) → i < 3 → Agrees files from → AreBytes from → ForEachPartUnsettled entry i offset cut bytes from (λ state layout unlinked number object n value was role. HasStreamThere entry i from)
part-stream-there files entry i offset cut bytes from few agrees small state layout unlinked number object n value was role t =
    subst (λ (e : ℕ). HasStreamThere e i from) t.record_is (there-at state layout unlinked from t.kept (layout.place (part object.key n)) was t.lies (part-among state layout unlinked from t.kept number object t.here t.live n t.old t.has was t.lies) files i few agrees small t.few t.room)

module _ (a b : Told) (files kept : BlockFiles) (entry i offset : ℕ) (cut : Bool) (bytes : List ℕ) (few : i < 3) (stands : stands_among files entry ≡ true) (tells : TellsBytes a) (open_folder : ForSome a.files (IsOpen files)) where
  can-part : (from : Image) → a.files ≡ Some from → ForEachPartUnsettled entry i offset cut bytes from (λ state layout unlinked number object n value was role. CanBeWritten files entry i (size_after cut (size_word from entry i) offset (length bytes)) from)
  can-part from there state layout unlinked number object n value was role t =
      subst (λ (e : ℕ). CanBeWritten files e i (size_after cut (size_word from e i) offset (length bytes)) from) t.record_is
      (can-be-written state layout unlinked from t.kept (layout.place (part object.key n)) was t.lies (part-among state layout unlinked from t.kept number object t.here t.live n t.old t.has was t.lies) files i (size_after cut (size_word from was.contents i) offset (length bytes)) (open_folder from there).agrees (tells from there) t.few t.room)

  -- at each word the old durable contents are recovered
  pub part-finds : ForSome a.files (λ from. CanBeWritten files entry i (size_after cut (size_word from entry i) offset (length bytes)) from → Passes a b (WritesByStage files kept entry i (size_after cut (size_word from entry i) offset (length bytes)) offset bytes from))
      → ForSome a.files (λ from. ForEachPartUnsettled entry i offset cut bytes from (λ state layout unlinked number object n value was role. Passes a b (Finds (rest state))))
  part-finds stages from there state layout unlinked number object n value was role t = passes_weaker (stages from there (can-part from there state layout unlinked number object n value was role t)) finds finds where
    by-record : (e : ℕ) → was.contents ≡ e → stands_among files e ≡ true → (image : Image) → WritesByStage files kept e i (size_after cut (size_word from e i) offset (length bytes)) offset bytes from image → Finds (rest state) image
    by-record e same = subst (λ (x : ℕ). stands_among files x ≡ true → (image : Image) → WritesByStage files kept x i (size_after cut (size_word from x i) offset (length bytes)) offset bytes from image → Finds (rest state) image) same
        (λ st image w. stage-finds state (with_object state number (with_value object n value)) layout (layout.place (part object.key n)) was i offset cut bytes few role (part-becomes-of state layout unlinked number object n value was role entry i offset cut bytes from t) unlinked from t.kept files kept st (open_folder from there).agrees image w)

    finds : (image : Image) → WritesByStage files kept entry i (size_after cut (size_word from entry i) offset (length bytes)) offset bytes from image → Finds (rest state) image
    finds = by-record entry t.record_is stands

  -- in the end it is kept with the stream written
  pub part-written : ForSome a.files (λ from. CanBeWritten files entry i (size_after cut (size_word from entry i) offset (length bytes)) from → ForSome b.files (IsWrittenByStage files kept entry i (size_after cut (size_word from entry i) offset (length bytes)) offset bytes from))
      → ForSome a.files (λ from. CanBeWritten files entry i (size_after cut (size_word from entry i) offset (length bytes)) from → ForSome b.files (StreamIsWritten files kept entry i offset cut bytes from))
      → ForSome a.files (λ from. CanBeWritten files entry i (size_after cut (size_word from entry i) offset (length bytes)) from → ForSome b.files (KeepsSeal entry from))
      → ForSome b.files (Agrees kept) → ForSome a.files (λ from. ForEachPartUnsettled entry i offset cut bytes from (λ state layout unlinked number object n value was role. ForSome b.files (IsPartWrittenUncounted state layout unlinked number object n value was role i offset cut bytes from)))
  part-written staged written sealed agrees from there state layout unlinked number object n value was role t image now =
      by-record entry t.record_is stands (staged from there c image now) (written from there c image now) (sealed from there c image now)
    where
      c : CanBeWritten files entry i (size_after cut (size_word from entry i) offset (length bytes)) from
      c = can-part from there state layout unlinked number object n value was role t

      by-record : (e : ℕ) → was.contents ≡ e → stands_among files e ≡ true → IsWrittenByStage files kept e i (size_after cut (size_word from e i) offset (length bytes)) offset bytes from image → StreamIsWritten files kept e i offset cut bytes from image → KeepsSeal e from image
          → IsPartWrittenUncounted state layout unlinked number object n value was role i offset cut bytes from image
      by-record e same = subst (λ (x : ℕ). stands_among files x ≡ true → IsWrittenByStage files kept x i (size_after cut (size_word from x i) offset (length bytes)) offset bytes from image → StreamIsWritten files kept x i offset cut bytes from image → KeepsSeal x from image
          → IsPartWrittenUncounted state layout unlinked number object n value was role i offset cut bytes from image) same
          (λ st w s seal.
          let changed : IsChangedTo (with_object state number (with_value object n value)) layout unlinked (layout.place (part object.key n)) was role (after-streams was i offset cut bytes) from image
          = stages-end state (with_object state number (with_value object n value)) layout (layout.place (part object.key n)) was i offset cut bytes few role (part-becomes-of state layout unlinked number object n value was role entry i offset cut bytes from t) unlinked from t.kept files kept st (open_folder from there).agrees image (agrees image now) s seal w in
          record {
            others = changed.is.others;
            now = record was { role = role; streams = after-streams was i offset cut bytes; others = changed.is.others };
            now_is = refl;
            kept = changed.is.kept;
            counters = changed.counters;
            session = changed.session;
          })

  -- an observable folder, with such a part, reports no corruption
  pub part-untold : {A : Type 0} (r : Result A Fault) → (ForSome a.files (λ from. CanBeWritten files entry i (size_after cut (size_word from entry i) offset (length bytes)) from) → IfDamaged r (λ _. a.files ≡ None))
      → ForSome a.files (λ from. ForEachPartUnsettled entry i offset cut bytes from (λ state layout unlinked number object n value was role. IfDamaged r (λ _. a.files ≡ None)))
  part-untold {A} r untold from there state layout unlinked number object n value was role t =
      untold (λ x is. subst (λ (y : Image). CanBeWritten files entry i (size_after cut (size_word y entry i) offset (length bytes)) y) (some_inj (sym there ∙ is)) (can-part from there state layout unlinked number object n value was role t))

  -- an observable folder, with such a part, reports no short index
  pub part-index-untold : {A : Type 0} (r : Result A Fault) → ForSome a.files (λ from. ForEachPartUnsettled entry i offset cut bytes from (λ state layout unlinked number object n value was role. Passes a b (Finds (rest state))))
      → ForSome a.files (λ from. ForEachPartUnsettled entry i offset cut bytes from (λ state layout unlinked number object n value was role. ForSome b.files (IsPartWrittenUncounted state layout unlinked number object n value was role i offset cut bytes from)))
      → (ForSome b.files HasWholeIndex → IfDamaged r (λ _. b.files ≡ None)) → ForSome a.files (λ from. ForEachPartUnsettled entry i offset cut bytes from (λ state layout unlinked number object n value was role. IfDamaged r (λ _. a.files ≡ None)))
  part-index-untold {A} r stops written untold from there state layout unlinked number object n value was role t =
      let mid = told-mid a b from there (stops from there state layout unlinked number object n value was role t) in
      if_damaged_weaker r (λ _. b.files ≡ None) (λ _. a.files ≡ None) (λ damage none. absurd (some-none (sym mid.1 ∙ none)))
      (untold (λ image now. sound-whole image (written from there state layout unlinked number object n value was role t image now).kept.sound))
    where
      some-none : {x : Image} → ◌≡◌ {A = Option Image} (Some x) None → ⊥
      some-none e = cc

-- nothing is written yet
pub no-part-written : (a b : Told) (entry i offset : ℕ) (cut : Bool) (bytes : List ℕ) → b ≡ a → ForSome a.files (λ from. ForEachPartUnsettled entry i offset cut bytes from (λ state layout unlinked number object n value was role. Passes a b (Finds (rest state))))
no-part-written a b entry i offset cut bytes same from there state layout unlinked number object n value was role t =
    passes_none (Finds (rest state)) same (λ image is. subst (Finds (rest state)) (some_inj (sym there ∙ is)) (then-found [] [] from from (λ s l u k. k) state layout unlinked t.kept))
