-- What lies at a node while a stream of it is written, stage by stage: the old durable contents are recovered at each word, and the next state is kept in the
-- end.
use Rattle.std.proofs.Common.{◌≡◌, ◌≢◌, ⊎_elim, inl, inr, ℕ, ◌+◌, ◌<◌, ◌≤◌, List, [], ◌∷◌, ◌++◌, length, refl, ap, ap₂, sym, ◌∙◌, subst, arith, Bool, true, false, Option, Some, None}
use Rattle.std.specs.Prelude.{◌⊎◌, ◌==◌, not, unwrap_or, if◌then◌else◌}
use Rattle.std.specs.List.Sorted.{IsPermutation}
use Rattle.std.specs.List.{AllByRecursion}
use Rattle.std.proofs.lemmas.Bool.{cases_eq, eqb-true, or_left, or_right}
use Rattle.std.proofs.lemmas.List.Sorted.{IsPermutation-refl}
use Rattle.spec_image.specs.Footprint.{SameOutside, either}
use Rattle.spec_image.specs.Image.{File, Image, has_file}
use Rattle.spec_image.proofs.Footprints.{outside_wider, within_left}
use Rattle.blk_model.specs.Effects.{stream_after}
use Rattle.blk_model.specs.Holding.{rest}
use Rattle.blk_model.specs.Items.{Row}
use Rattle.blk_model.specs.State.{State}
use Rattle.spec_format.specs.Address.{blocks_256, byte_size, kind_of}
use Rattle.spec_format.specs.BlockFiles.{stands_in}
use Rattle.spec_format.specs.Claims.{Claim, claims_of, claims_of_all, has_claim}
use Rattle.spec_format.specs.Records.{Entry, entry_checks, entry_is_sealed}
use Rattle.spec_folder.specs.Entries.{Role, stored_stream, stream}
use Rattle.spec_folder.specs.Footprint.{IsClear}
use Rattle.spec_folder.specs.Layout.{Layout}
use Rattle.spec_folder.specs.Loads.{Loaded}
use Rattle.spec_folder.specs.Sound.{words_of}
use Rattle.spec_folder.specs.View.{entry_at, fields_of, store_of}
use Rattle.law_folder.proofs.claims.ByteChanges.{stands-some}
use Rattle.law_folder.proofs.claims.ClaimLists.{claim-append}
use Rattle.law_folder.proofs.claims.Outside.{clear-zero}
use Rattle.blk_disk.specs.declared.tables.BlockFiles.{BlockFiles}
use Rattle.blk_disk.specs.Tables.{Agrees, stands_among}
use Rattle.blk_entry.specs.Keys.{IsInside, data_at}
use Rattle.blk_stream.specs.Changing.{stream_words}
use Rattle.blk_stream.specs.Moving.{HasPlaceLength, data_at_place}
use Rattle.blk_stream.specs.Stages.{FreesOld, FreesPlaceInProgress, IsFilled, IsWrittenByStage, KeepsSeal, NamesAndFrees, NamesPlace, NamesShown, WritesByStage, WritesInPlace}
use Rattle.blk_stream.specs.Streams.{address_word, may_keep, size_word, stream_bytes}
use Rattle.blk_stream.specs.Writing.{have_one_storage, size_after}
use Rattle.blk_stream.specs.Written.{StreamIsWritten}
use Rattle.blk_stream.proofs.StreamLists.{stored_there}
use Rattle.blk_stream.specs.Loading.{stored_streams_with}
use Rattle.blk_stream.proofs.StreamPlaces.{stream_is_bytes}
use Rattle.law_state.specs.Changes.{Finds, SameCounters, SameSession}
use Rattle.law_state.specs.Keeping.{KeepsUncounted}
use Rattle.law_state.specs.ObjectLaws.{layout_after}
use Rattle.law_state.proofs.AtNodes.{record-own}
use Rattle.law_state.proofs.Keeping.{kept-held}
use Rattle.blk_object.specs.Freeing.{AreGoing, Removes}
use Rattle.blk_object.specs.Making.{Takes, long_word}
use Rattle.blk_object.proofs.FreedPlaces.{all-counted, all-gone, going-finds}
use Rattle.blk_object.proofs.GoingNext.{then-counters}
use Rattle.blk_object.proofs.MakingTaken.{session-then}
use Rattle.blk_object.proofs.Sessions.{freed-session}
use Rattle.blk_object.proofs.WrittenChanges.{touched_of, written-counters}
use Rattle.blk_object.proofs.WrittenItems as items
use Rattle.blk_object.proofs.WrittenItems.{MayBecome}
use Rattle.blk_object.proofs.WrittenRecords.{SameRecordBut, address-still, fourth-still}
use Rattle.blk_object.proofs.WrittenStored.{stored-here, stream-here}
use Rattle.blk_object.proofs.WrittenWords.{address-exchanged, four-words, nonzero, others-are}
use Rattle.blk_object.proofs.WritingPlaces.{filled-unlinked, filling-finds, freed-removes}

clash : true ≡ false → ⊥
clash e = cc

nothing-at : (w : ℕ) (entry i : ℕ) (from image : Image) → SameOutside (stream_words entry i) from image → SameOutside (either (stream_words entry i) (data_at_place w)) from image
nothing-at w entry i from image same = outside_wider (stream_words entry i) (either (stream_words entry i) (data_at_place w)) from image (within_left (stream_words entry i) (data_at_place w)) same

-- an entry record with its checksum is one whose checksum matches or is absent
sealed-checks : (e : Entry) → entry_is_sealed e ≡ true → entry_checks e ≡ true
unfolding entry_checks
sealed-checks e sealed = or_right (e.self_hash == 0) (entry_is_sealed e) sealed

-- three streams after a write to one of them
abbrev pub after-streams : Loaded → (i offset : ℕ) → Bool → List ℕ → List (List ℕ)
after-streams was i offset cut bytes = stored_streams_with i (stream_after cut (stream i was.streams) offset bytes) was.streams

-- the next state is kept, with a role and streams at a node, and some words of its record
pub record IsKeptAfter (after : State) (layout : Layout) (left : List ℕ) (node : ℕ) (was : Loaded) (role : Role) (streams : List (List ℕ)) (image : Image) : Type 0 where
  pub others : List ℕ
  pub kept : KeepsUncounted after (layout_after layout node (record was { role = role; streams = streams; others = others })) left image

-- and counters and session are as they were
pub record IsChangedTo (after : State) (layout : Layout) (left : List ℕ) (node : ℕ) (was : Loaded) (role : Role) (streams : List (List ℕ)) (from image : Image) : Type 0 where
  pub is : IsKeptAfter after layout left node was role streams image
  pub counters : SameCounters from image
  pub session : SameSession from image

module _ (state after : State) (layout : Layout) (node : ℕ) (was : Loaded) (i offset : ℕ) (cut : Bool) (bytes : List ℕ) (few : i < 3) (role : Role) (m : MayBecome state after layout node was role (after-streams was i offset cut bytes)) (unlinked : List ℕ) (from : Image) (k : KeepsUncounted state layout unlinked from) where
  -- the stream after the write
  abbrev new : List ℕ
  new = stream_after cut (stream i was.streams) offset bytes

  pub stream-then : stream_bytes from was.contents i ≡ stream i was.streams
  stream-then = sym (stream_is_bytes from was.contents i was.streams few (items.says state layout unlinked from k node was m.lies).at)

  -- ---- its record gets other words of the stream, where a new place is filled
  module _ (files kept : BlockFiles) (stands_files : stands_among files was.contents ≡ true) where
    none-inside : (n : ℕ) → ◌≢◌ {A = ℕ} 0 0 → IsInside files 0 0 n
    none-inside n some = absurd (some refl)

    pub naming-finds : (image : Image) → NamesShown was.contents i from image → Finds (rest state) image
    naming-finds image n = m.finds (touched_of was.contents 0) unlinked from image k
        (items.only state layout unlinked from k node was m.lies files stands_files i few 0 (inl refl) (none-inside (size_word from was.contents i)) image (nothing-at 0 was.contents i from image n.names.same) n.shown (λ file. n.names.same.files file refl))
        (items.inside-node state layout unlinked from k node was m.lies files stands_files i few 0 (inl refl) (none-inside (size_word from was.contents i)) image (nothing-at 0 was.contents i from image n.names.same) n.shown (λ file. n.names.same.files file refl))
        (items.name-same state layout unlinked from k node was m.lies files stands_files i few 0 (inl refl) (none-inside (size_word from was.contents i)) image (nothing-at 0 was.contents i from image n.names.same) n.shown (λ file. n.names.same.files file refl))

    module _ (size w : ℕ) (U : List ℕ) (are : unlinked ≡ nonzero (w ∷ []) ++ U) (free : (c : Claim) → has_claim (claims_of w) c ≡ true → layout.owner c ≡ None) (st : w ≢ 0 → stands_in from w ≡ true)
        (holds : data_at from w 0 size ≡ new) (long : HasPlaceLength w size from) (fits : may_keep kept size w ≡ true) (named : Image) (names : NamesPlace was.contents i size w from named) where
      same : SameOutside (either (stream_words was.contents i) (data_at_place 0)) from named
      same = nothing-at 0 was.contents i from named names.names.same

      shown : entry_checks (entry_at named was.contents) ≡ true
      shown = sealed-checks (entry_at named was.contents) names.sealed

      files-same : (file : File) → has_file named file ≡ has_file from file
      files-same file = names.names.same.files file refl

      -- the new place is as it was
      clear : IsClear (touched_of was.contents 0) w
      clear c e = items.untouched state layout unlinked from k node was m.lies files stands_files i few 0 (inl refl) (none-inside (size_word from was.contents i)) named same shown files-same c
          (λ h. let z : ◌≡◌ {A = Option ℕ} None (Some node) = sym (free c e) ∙ record-own state layout unlinked from k node was m.lies c h in absurd (cc))
          (λ h. clash (clear-zero (λ x. true) c h))

      stored : stored_stream (store_of named) (fields_of (entry_at named was.contents)) i ≡ Some new
      unfolding store_of
      stored = stream-here kept named was.contents i size w new names.words.size_is names.words.word_is fits
          (sym ((items.views state layout unlinked from k node was m.lies files stands_files i few 0 (inl refl) (none-inside (size_word from was.contents i)) named same shown files-same).store.stored size w clear)
          ∙ stored-here kept from size w fits st long ∙ ap Some holds)

      abbrev now : Loaded
      now = record was { role = role; streams = after-streams was i offset cut bytes; others = (entry_at named was.contents).long_key ∷ (entry_at named was.contents).data_addr }

      record-alike : SameRecordBut was.contents i from named
      record-alike = items.record-same state layout unlinked from k node was m.lies files stands_files i few 0 (inl refl) (none-inside (size_word from was.contents i)) named same shown files-same

      kind : kind_of was.contents ≡ blocks_256
      kind = items.kind state layout unlinked from k node was m.lies

      room : 96 ≤ byte_size was.contents
      room = items.long state layout unlinked from k node was m.lies

      long-key : (entry_at named was.contents).long_key ≡ (entry_at from was.contents).long_key
      long-key = (items.change state layout unlinked from k node was m.lies files stands_files i few 0 (inl refl) (none-inside (size_word from was.contents i)) named same shown files-same).long_key

      now-others : (entry_at named was.contents).long_key ∷ (entry_at named was.contents).data_addr ≡ (entry_at from was.contents).long_key ∷ address_word named was.contents 0 ∷ address_word named was.contents 1 ∷ address_word named was.contents 2 ∷ address_word from was.contents 3 ∷ []
      now-others =
          ap₂ (λ (l : ℕ) (ws : List ℕ). l ∷ ws) long-key (four-words named was.contents)
          ∙ ap (λ (e : ℕ). (entry_at from was.contents).long_key ∷ address_word named was.contents 0 ∷ address_word named was.contents 1 ∷ address_word named was.contents 2 ∷ e ∷ []) (fourth-still was.contents i kind few from named room record-alike).1

      exchanged : IsPermutation (unlinked ++ words_of was) ((nonzero (address_word from was.contents i ∷ []) ++ U) ++ words_of now)
      exchanged =
          subst (λ (us : List ℕ). IsPermutation (us ++ words_of was) ((nonzero (address_word from was.contents i ∷ []) ++ U) ++ words_of now)) (sym are)
          (subst (λ (v : ℕ). IsPermutation ((nonzero (v ∷ []) ++ U) ++ words_of was) ((nonzero (address_word from was.contents i ∷ []) ++ U) ++ words_of now)) names.words.word_is
          (subst (λ (ws : List ℕ). IsPermutation ((nonzero (address_word named was.contents i ∷ []) ++ U) ++ nonzero (was.node ∷ was.contents ∷ ws)) ((nonzero (address_word from was.contents i ∷ []) ++ U) ++ words_of now)) (sym (others-are state layout unlinked from k node was m.lies))
          (subst (λ (ws : List ℕ). IsPermutation ((nonzero (address_word named was.contents i ∷ []) ++ U) ++ nonzero (was.node ∷ was.contents ∷ (entry_at from was.contents).long_key ∷ address_word from was.contents 0 ∷ address_word from was.contents 1 ∷ address_word from was.contents 2 ∷ address_word from was.contents 3 ∷ [])) ((nonzero (address_word from was.contents i ∷ []) ++ U) ++ nonzero (was.node ∷ was.contents ∷ ws))) (sym now-others)
          (address-exchanged was.node was.contents (entry_at from was.contents).long_key (address_word from was.contents 3) (λ j. address_word from was.contents j) (λ j. address_word named was.contents j) U i few (λ j less other. address-still was.contents i kind few from named room record-alike j less other)))))

      pub named-kept : IsKeptAfter after layout (nonzero (address_word from was.contents i ∷ []) ++ U) node was role (after-streams was i offset cut bytes) named
      named-kept = record {
        others = (entry_at named was.contents).long_key ∷ (entry_at named was.contents).data_addr;
        kept = m.keeps (touched_of was.contents 0) unlinked (nonzero (address_word from was.contents i ∷ []) ++ U) ((entry_at named was.contents).long_key ∷ (entry_at named was.contents).data_addr) from named k
            (items.only state layout unlinked from k node was m.lies files stands_files i few 0 (inl refl) (none-inside (size_word from was.contents i)) named same shown files-same)
            (items.is-replaced state layout unlinked from k node was m.lies files stands_files i few 0 (inl refl) (none-inside (size_word from was.contents i)) named same shown files-same new stored role m.roles)
            exchanged
            (items.still-sealed state layout unlinked from k node was m.lies files stands_files i few 0 (inl refl) (none-inside (size_word from was.contents i)) named same shown files-same new stored role m.roles names.sealed);
      }

-- ---- all stages

has-first : (w : ℕ) (U : List ℕ) (c : Claim) → has_claim (claims_of w) c ≡ true → has_claim (claims_of_all (nonzero (w ∷ []) ++ U)) c ≡ true
has-first w U c e = go (w == 0) refl where
  go : (b : Bool) → (w == 0) ≡ b → has_claim (claims_of_all ((if not b then w ∷ [] else []) ++ U)) c ≡ true
  go true h = absurd (clash (clear-zero (λ x. true) c (ap (λ (x : ℕ). has_claim (claims_of x) c) (sym (eqb-true w 0 h)) ∙ e)))
  go false h = claim-append (claims_of w) (claims_of_all U) c ∙ or_left (has_claim (claims_of w) c) (has_claim (claims_of_all U) c) e

has-standing : (image : Image) (w : ℕ) (U : List ℕ) → w ≢ 0 → AllByRecursion (λ x. stands_in image x ≡ true) (nonzero (w ∷ []) ++ U) → stands_in image w ≡ true
has-standing image w U some all = go (w == 0) refl all where
  go : (b : Bool) → (w == 0) ≡ b → AllByRecursion (λ x. stands_in image x ≡ true) ((if not b then w ∷ [] else []) ++ U) → stands_in image w ≡ true
  go true h a = absurd (some (eqb-true w 0 h))
  go false h a = a.0

nonzero-some : (w : ℕ) → w ≢ 0 → nonzero (w ∷ []) ≡ w ∷ []
nonzero-some w some = go (w == 0) refl where
  go : (b : Bool) → (w == 0) ≡ b → (if not b then w ∷ [] else []) ≡ w ∷ []
  go true h = absurd (some (eqb-true w 0 h))
  go false h = refl

nonzero-none : (w : ℕ) → w ≡ 0 → nonzero (w ∷ []) ≡ []
nonzero-none w none = ap (λ (x : ℕ). nonzero (x ∷ [])) none

-- the words of a place that was filled
place-words : (place : Option ℕ) (U : List ℕ) (image : Image) → AllByRecursion (λ x. stands_in image x ≡ true) (long_word place ++ U) → long_word place ++ U ≡ nonzero (unwrap_or place 0 ∷ []) ++ U
place-words None U image all = refl
place-words (Some w) U image all = ap (λ (ws : List ℕ). ws ++ U) (sym (nonzero-some w (stands-some image w all.0)))

module _ (state after : State) (layout : Layout) (node : ℕ) (was : Loaded) (i offset : ℕ) (cut : Bool) (bytes : List ℕ) (few : i < 3) (role : Role) (m : MayBecome state after layout node was role (after-streams was i offset cut bytes)) (unlinked : List ℕ) (from : Image) (k : KeepsUncounted state layout unlinked from)
    (files kept : BlockFiles) (stands_files : stands_among files was.contents ≡ true) (agrees : Agrees files from) where
  abbrev old : ℕ
  old = address_word from was.contents i

  abbrev after-size : ℕ
  after-size = size_after cut (size_word from was.contents i) offset (length bytes)

  here-inside : old ≢ 0 → IsInside files old 0 (size_word from was.contents i)
  here-inside some = items.data-inside state layout unlinked from k node was m.lies files i agrees few

  here-finds : (image : Image) → WritesInPlace was.contents i after-size from image → Finds (rest state) image
  here-finds image p = m.finds (touched_of was.contents old) unlinked from image k
      (items.only state layout unlinked from k node was m.lies files stands_files i few old (inr refl) here-inside image p.same p.shown p.files)
      (items.inside-node state layout unlinked from k node was m.lies files stands_files i few old (inr refl) here-inside image p.same p.shown p.files)
      (items.name-same state layout unlinked from k node was m.lies files stands_files i few old (inr refl) here-inside image p.same p.shown p.files)

  -- where a new place is filled, its word is unlinked
  module _ (place : Option ℕ) (filled : Image) (fills : IsFilled files kept place from filled) where
    taken : Takes (long_word place) from filled × SameCounters from filled
    taken = filled-unlinked files kept place from filled k.sound agrees fills

    kept-filled : KeepsUncounted state layout (long_word place ++ unlinked) filled
    kept-filled = taken.0.kept state layout unlinked k

    are : long_word place ++ unlinked ≡ nonzero (unwrap_or place 0 ∷ []) ++ unlinked
    are = place-words place unlinked filled kept-filled.unlinked_words.stand

    -- the old place is the one that it had
    same-old : address_word filled was.contents i ≡ old
    same-old = sym (items.its-address state layout (long_word place ++ unlinked) filled kept-filled node was m.lies i) ∙ items.its-address state layout unlinked from k node was m.lies i

    module _ (size : ℕ) (holds : data_at filled (unwrap_or place 0) 0 size ≡ stream_after cut (stream_bytes from was.contents i) offset bytes) (long : HasPlaceLength (unwrap_or place 0) size filled) (fits : may_keep kept size (unwrap_or place 0) ≡ true)
        (named : Image) (names : NamesPlace was.contents i size (unwrap_or place 0) filled named) where
      named-is : IsKeptAfter after layout (nonzero (old ∷ []) ++ unlinked) node was role (after-streams was i offset cut bytes) named
      named-is = subst (λ (w : ℕ). IsKeptAfter after layout (nonzero (w ∷ []) ++ unlinked) node was role (after-streams was i offset cut bytes) named) same-old
          (named-kept state after layout node was i offset cut bytes few role m (long_word place ++ unlinked) filled kept-filled files kept stands_files size (unwrap_or place 0) unlinked are
          (λ c e. kept-filled.unlinked_words.free c (ap (λ (ws : List ℕ). has_claim (claims_of_all ws) c) are ∙ has-first (unwrap_or place 0) unlinked c e))
          (λ some. has-standing filled (unwrap_or place 0) unlinked some (subst (AllByRecursion (λ x. stands_in filled x ≡ true)) are kept-filled.unlinked_words.stand))
          (holds ∙ ap (λ (b : List ℕ). stream_after cut b offset bytes) (stream-then state after layout node was i offset cut bytes few role m unlinked from k)) long fits named names)

      abbrev named-now : Loaded
      named-now = record was { role = role; streams = after-streams was i offset cut bytes; others = named-is.others }

      named-finds : Finds (rest state) named
      named-finds = naming-finds state after layout node was i offset cut bytes few role m (long_word place ++ unlinked) filled kept-filled files kept stands_files named (record { names = names.names; shown = sealed-checks (entry_at named was.contents) names.sealed })

      -- the durable contents are the same in the state that is kept then
      same-rest : rest after ≡ rest state
      same-rest = sym (kept-held after (layout_after layout node named-now) (nonzero (old ∷ []) ++ unlinked) named named-is.kept) ∙ named-finds.1

      -- while the old place is freed
      freeing-finds : (image : Image) → old ≢ 0 → FreesPlaceInProgress old named image → Finds (rest state) image
      freeing-finds image some frees =
          let going : AreGoing (old ∷ []) named image = record { front = []; left = old ∷ []; split = refl; between = named; removed = refl; next = inr frees } in
          let kept_so : KeepsUncounted after (layout_after layout node named-now) ((old ∷ []) ++ unlinked) named = subst (λ (ws : List ℕ). KeepsUncounted after (layout_after layout node named-now) (ws ++ unlinked) named) (nonzero-some old some) named-is.kept in
          subst (λ (rows : List Row). Finds rows image) same-rest (going-finds (old ∷ []) named image going after (layout_after layout node named-now) unlinked kept_so)

      -- once the record names the new place
      named-session : SameSession from named
      named-session = session-then from filled named taken.0.session
          (items.only state layout (long_word place ++ unlinked) filled kept-filled node was m.lies files stands_files i few 0 (inl refl) (λ some. absurd (some refl)) named (nothing-at 0 was.contents i filled named names.names.same) (sealed-checks (entry_at named was.contents) names.sealed) (λ file. names.names.same.files file refl)).session

      named-counters : SameCounters from named
      named-counters = then-counters from filled named taken.1
          (written-counters filled was.contents i 0 (items.kind state layout (long_word place ++ unlinked) filled kept-filled node was m.lies) few
          (items.stands-before state layout (long_word place ++ unlinked) filled kept-filled node was m.lies files stands_files i few 0 (inl refl) (λ some. absurd (some refl)) named (nothing-at 0 was.contents i filled named names.names.same) (sealed-checks (entry_at named was.contents) names.sealed) (λ file. names.names.same.files file refl))
          (λ some. absurd (some refl)) named (nothing-at 0 was.contents i filled named names.names.same))

      old-stands : old ≢ 0 → stands_in named old ≡ true
      old-stands some = has-standing named old unlinked some named-is.kept.unlinked_words.stand

      freed-written : (image : Image) → FreesOld old named image → IsChangedTo after layout unlinked node was role (after-streams was i offset cut bytes) from image
      freed-written image (inl none) = record {
        is = record {
          others = named-is.others;
          kept = subst (λ (x : Image). KeepsUncounted after (layout_after layout node named-now) unlinked x) (sym none.1)
              (subst (λ (ws : List ℕ). KeepsUncounted after (layout_after layout node named-now) (ws ++ unlinked) named) (nonzero-none old none.0) named-is.kept);
        };
        counters = subst (SameCounters from) (sym none.1) named-counters;
        session = subst (SameSession from) (sym none.1) named-session;
      }
      freed-written image (inr freed) =
          let kept_so : KeepsUncounted after (layout_after layout node named-now) ((old ∷ []) ++ unlinked) named = subst (λ (ws : List ℕ). KeepsUncounted after (layout_after layout node named-now) (ws ++ unlinked) named) (nonzero-some old freed.0) named-is.kept in
          let removes : Removes (old ∷ []) named image = (image, (freed-removes old named image named-is.kept.sound (old-stands freed.0) freed.1, refl)) in
          record {
            is = record { others = named-is.others; kept = all-gone (old ∷ []) named image removes after (layout_after layout node named-now) unlinked kept_so };
            counters = then-counters from named image named-counters (all-counted (old ∷ []) named image removes);
            session = session-then from named image named-session (freed-session (old ∷ []) named image removes);
          }

  -- at each word the old durable contents are recovered
  pub stage-finds : (image : Image) → WritesByStage files kept was.contents i after-size offset bytes from image → Finds (rest state) image
  stage-finds image (inl p) = here-finds image p
  stage-finds image (inr (inl fills)) = filling-finds files kept from image agrees fills state layout unlinked k
  stage-finds image (inr (inr n)) = leaves n.leaves where
    leaves : NamesShown was.contents i n.filled image ⊎ NamesAndFrees was.contents i old after-size (unwrap_or n.place 0) n.filled image → Finds (rest state) image
    leaves (inl names) = naming-finds state after layout node was i offset cut bytes few role m (long_word n.place ++ unlinked) n.filled (kept-filled n.place n.filled n.fills) files kept stands_files image names
    leaves (inr f) = freeing-finds n.place n.filled n.fills after-size (n.written cut refl) n.long n.fits f.named f.names image f.some f.frees

  -- in the end it is kept with the stream written
  module _ (image : Image) (agrees_end : Agrees kept image) (s : StreamIsWritten files kept was.contents i offset cut bytes from image) (seal : KeepsSeal was.contents from image) where
    sealed-end : entry_is_sealed (entry_at image was.contents) ≡ true
    sealed-end = seal (k.sealed node was m.lies).entry

    module _ (p : WritesInPlace was.contents i after-size from image) where
      stored-end : stored_stream (store_of image) (fields_of (entry_at image was.contents)) i ≡ Some (stream_after cut (stream i was.streams) offset bytes)
      unfolding stream_bytes
      stored-end = stream-here kept image was.contents i (size_word image was.contents i) (address_word image was.contents i) (stream_after cut (stream i was.streams) offset bytes) refl refl s.place
          (stored_there kept image (size_word image was.contents i) (address_word image was.contents i) agrees_end s.place s.long
          ∙ ap Some (s.written ∙ ap (λ (b : List ℕ). stream_after cut b offset bytes) (stream-then state after layout node was i offset cut bytes few role m unlinked from k)))

      alike : SameRecordBut was.contents i from image
      alike = items.record-same state layout unlinked from k node was m.lies files stands_files i few old (inr refl) here-inside image p.same p.shown p.files

      its-kind : kind_of was.contents ≡ blocks_256
      its-kind = items.kind state layout unlinked from k node was m.lies

      its-room : 96 ≤ byte_size was.contents
      its-room = items.long state layout unlinked from k node was m.lies

      -- its words stay
      same-address : (j : ℕ) → j < 3 → address_word image was.contents j ≡ address_word from was.contents j
      same-address j less = ⊎_elim
          (λ (e : j ≡ i). subst (λ (x : ℕ). address_word image was.contents x ≡ address_word from was.contents x) (sym e) (s.stays (ap (have_one_storage (size_word from was.contents i)) s.size ∙ p.one)))
          (λ (e : j ≢ i). address-still was.contents i its-kind few from image its-room alike j less e)
          (cases_eq j i)

      same-others : (entry_at image was.contents).long_key ∷ (entry_at image was.contents).data_addr ≡ was.others
      same-others =
          ap₂ (λ (l : ℕ) (ws : List ℕ). l ∷ ws) (items.change state layout unlinked from k node was m.lies files stands_files i few old (inr refl) here-inside image p.same p.shown p.files).long_key (four-words image was.contents)
          ∙ ap₂ (λ (a b : ℕ). (entry_at from was.contents).long_key ∷ a ∷ b ∷ address_word image was.contents 2 ∷ address_word image was.contents 3 ∷ []) (same-address 0 (omega arith)) (same-address 1 (omega arith))
          ∙ ap₂ (λ (c d : ℕ). (entry_at from was.contents).long_key ∷ address_word from was.contents 0 ∷ address_word from was.contents 1 ∷ c ∷ d ∷ []) (same-address 2 (omega arith)) (fourth-still was.contents i its-kind few from image its-room alike).1
          ∙ sym (others-are state layout unlinked from k node was m.lies)

      here-written : IsChangedTo after layout unlinked node was role (after-streams was i offset cut bytes) from image
      here-written = record {
        is = record {
          others = (entry_at image was.contents).long_key ∷ (entry_at image was.contents).data_addr;
          kept = m.keeps (touched_of was.contents old) unlinked unlinked ((entry_at image was.contents).long_key ∷ (entry_at image was.contents).data_addr) from image k
              (items.only state layout unlinked from k node was m.lies files stands_files i few old (inr refl) here-inside image p.same p.shown p.files)
              (items.is-replaced state layout unlinked from k node was m.lies files stands_files i few old (inr refl) here-inside image p.same p.shown p.files (stream_after cut (stream i was.streams) offset bytes) stored-end role m.roles)
              (subst (λ (ws : List ℕ). IsPermutation (unlinked ++ words_of was) (unlinked ++ nonzero (was.node ∷ was.contents ∷ ws))) (sym same-others) (IsPermutation-refl (unlinked ++ words_of was)))
              (items.still-sealed state layout unlinked from k node was m.lies files stands_files i few old (inr refl) here-inside image p.same p.shown p.files (stream_after cut (stream i was.streams) offset bytes) stored-end role m.roles sealed-end);
        };
        counters = written-counters from was.contents i old its-kind few (items.stands-before state layout unlinked from k node was m.lies files stands_files i few old (inr refl) here-inside image p.same p.shown p.files)
            (items.w-there state layout unlinked from k node was m.lies files stands_files i few old (inr refl) here-inside image p.same p.shown p.files) image p.same;
        session = (items.only state layout unlinked from k node was m.lies files stands_files i few old (inr refl) here-inside image p.same p.shown p.files).session;
      }

    pub stages-end : IsWrittenByStage files kept was.contents i after-size offset bytes from image → IsChangedTo after layout unlinked node was role (after-streams was i offset cut bytes) from image
    stages-end (inl p) = here-written p
    stages-end (inr m) = freed-written m.place m.filled m.fills after-size (m.written cut refl) m.long m.fits m.left.named m.left.names image m.left.frees
