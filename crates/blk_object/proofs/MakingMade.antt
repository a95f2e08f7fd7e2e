-- A new object is made, from its stages: places, entry, list and chain, counters.
use Rattle.std.proofs.Common.{◌≡◌, ℕ, ◌+◌, ◌%◌, ◌<◌, List, [], ◌++◌, length, Option, None, Some, refl, sym, ◌∙◌, subst, arith, lit≤, true}
use Rattle.std.specs.Prelude.{◌==◌, ◌^◌}
use Rattle.std.specs.Option.{ForSome}
use Rattle.std.proofs.lemmas.Bool.{eq-eqb}
use Rattle.spec_image.specs.Image.{Image, Index, byte}
use Rattle.spec_image.specs.Told.{Passes, Told}
use Rattle.spec_image.proofs.Runs.{passes_end, passes_none, passes_then, passes_weaker, some_inj}
use Rattle.spec_format.specs.Address.{is_address, kind_of}
use Rattle.spec_format.specs.Headers.{this_id_of}
use Rattle.blk_disk.specs.declared.tables.BlockFiles.{BlockFiles}
use Rattle.blk_disk.specs.Tables.{names_among, stands_among}
use Rattle.blk_model.specs.Effects.{created}
use Rattle.blk_model.specs.State.{State}
use Rattle.spec_folder.specs.Creation.{with_new}
use Rattle.spec_folder.specs.Layout.{Layout}
use Rattle.spec_folder.specs.Loads.{Loaded}
use Rattle.spec_folder.specs.Sound.{words_of}
use Rattle.law_state.specs.Changes.{KeepsWith, SameCounters, StillFinds}
use Rattle.law_state.specs.CounterLaws.{AreCountersWritten, charged}
use Rattle.law_state.specs.Keeping.{Keeps, KeepsUncounted}
use Rattle.law_state.specs.NewEntryLaws.{IsOneMore}
use Rattle.law_state.proofs.Charges.{charges-small}
use Rattle.law_state.proofs.Counters.{counters-count}
use Rattle.law_state.proofs.Free.{then-found}
use Rattle.law_state.proofs.NewEntries.{one-more}
use Rattle.blk_object.specs.declared.making.Made.{Made}
use Rattle.blk_object.specs.declared.counters.Counters.{Counters}
use Rattle.blk_object.specs.declared.making_places.Places.{Places}
use Rattle.blk_object.specs.Making.{CanBeListed, CanHaveNew, FindsUntilListed, FindsWhileMade, HasNewObjects, HasRoomForNew, IsEntryOfKept, IsEntryListed, IsToBeListed, LeavesRoom, Takes, new_loaded, words_of_places}
use Rattle.blk_object.specs.Counters.{AreIndexCounters}
use Rattle.blk_object.proofs.CounterWords.{charge-more}
use Rattle.spec_format.proofs.Counts.{its-bytes64, its-entries, its-nodes}
use Rattle.blk_object.proofs.Counts.{still-counts, written-as}
use Rattle.blk_object.proofs.MakingRoom.{uses-few}
use Rattle.blk_object.proofs.MakingStored.{counters-then}
use Rattle.blk_object.proofs.MakingTaken.{none-before, told-mid}

-- ---- what is among the addresses of a kind

pub among-names : (files : BlockFiles) (kind w : ℕ) → is_address w ≡ true → kind_of w ≡ kind → stands_among files w ≡ true → names_among files kind w ≡ true
unfolding names_among
among-names files kind w address is stands = let k : (kind_of w == kind) ≡ true = eq-eqb (kind_of w) kind is in rw (address, k, stands) refl

-- ---- space

pub room-three : (key : List ℕ) (mark : ℕ) (image : Image) → HasRoomForNew key mark image → LeavesRoom 3 image
room-three key mark image r = record { state = r.state; layout = r.layout; unlinked = []; kept = r.kept.entries; few = r.can.few; room = lit≤ tt }

from-still : (key : List ℕ) (from image : Image) → StillFinds [] from image → FindsWhileMade key from image
from-still key from image f state layout handle k can = f state layout [] k.entries

-- nothing is done
pub nothing-made : (key : List ℕ) (a b : Told) → b ≡ a → ForSome a.files (λ from. Passes a b (FindsWhileMade key from))
nothing-made key a b same from there =
    passes_none (FindsWhileMade key from) same (λ image is. subst (FindsWhileMade key from) (some_inj (sym there ∙ is)) (from-still key from from (then-found [] [] from from (λ state layout unlinked k. k))))

-- ---- the places

module _ (a d : Told) (key : List ℕ) (mark : ℕ) (take : ForSome a.files (λ from. LeavesRoom 3 from → Passes a d (StillFinds [] from))) where
  pub taking-made : ForSome a.files (λ from. HasRoomForNew key mark from → Passes a d (FindsWhileMade key from))
  taking-made from there r = passes_weaker (take from there (room-three key mark from r)) (from-still key from) (from-still key from)

  pub mid-of : (from : Image) → a.files ≡ Some from → HasRoomForNew key mark from → (mid : Image) × (d.files ≡ Some mid)
  mid-of from there r = told-mid a d from there (take from there (room-three key mark from r))

  pub tells-mid : ForSome a.files (HasRoomForNew key mark) → d.files ≡ None → a.files ≡ None
  tells-mid room = none-before a d (λ from there. mid-of from there (room from there))

  -- ---- and the entry

  module _ (places : Places) (taken : ForSome a.files (λ from. LeavesRoom 3 from → ForSome d.files (Takes (words_of_places places) from))) (e : Told) (write : ForSome d.files (λ mid. Passes d e (StillFinds (words_of_places places) mid))) where
    unlinked-then : (from mid : Image) → a.files ≡ Some from → d.files ≡ Some mid → HasRoomForNew key mark from → Takes (words_of_places places) from mid
    unlinked-then from mid there now r = taken from there (room-three key mark from r) mid now

    pub writing-made : ForSome a.files (λ from. HasRoomForNew key mark from → Passes a e (FindsWhileMade key from))
    writing-made from there r =
        let mid = mid-of from there r in
        let finds : (image : Image) → StillFinds (words_of_places places) mid.0 image → FindsWhileMade key from image =
        λ image f state layout handle k can. f state layout [] ((unlinked-then from mid.0 there mid.1 r).kept state layout [] k.entries) in
        passes_then (taking-made from there r) (passes_weaker (write mid.0 mid.1) finds finds)

    pub late-of : (from : Image) → a.files ≡ Some from → HasRoomForNew key mark from → (late : Image) × (e.files ≡ Some late)
    late-of from there r = told-mid a e from there (writing-made from there r)

    pub tells-late : ForSome a.files (HasRoomForNew key mark) → e.files ≡ None → a.files ≡ None
    tells-late room = none-before a e (λ from there. late-of from there (room from there))

    module _ (written : ForSome d.files (λ mid. ForSome e.files (IsEntryOfKept places mark key mid))) where
      -- each state is to have the object listed
      to-be : (from late : Image) → a.files ≡ Some from → e.files ≡ Some late → HasRoomForNew key mark from → (state : State) (layout : Layout) (handle : ℕ) → Keeps state layout [] from → CanHaveNew state handle key
          → IsToBeListed state layout [] handle key (new_loaded places mark key) late
      to-be from late there now r state layout handle k can =
          let mid = mid-of from there r in
          let t = unlinked-then from mid.0 there mid.1 r in
          written mid.0 mid.1 late now state layout [] handle (t.kept state layout [] k.entries) can (t.session.id ∙ r.session)

      listed-by : (from late : Image) → a.files ≡ Some from → e.files ≡ Some late → HasRoomForNew key mark from → CanBeListed places.entry places.node late
      listed-by from late there now r =
          record { state = r.state; layout = r.layout; unlinked = []; handle = r.handle; key = key; loaded = new_loaded places mark key; is = to-be from late there now r r.state r.layout r.handle r.kept r.can; record_is = refl; node_is = refl }

      can-listed : (from : Image) → (there : a.files ≡ Some from) → (r : HasRoomForNew key mark from) → CanBeListed places.entry places.node (late-of from there r).0
      can-listed from there r = let late = late-of from there r in listed-by from late.0 there late.1 r

      pub can-list : ForSome a.files (HasRoomForNew key mark) → (a.files ≡ None → e.files ≡ None) → ForSome e.files (CanBeListed places.entry places.node)
      can-list room silent late now = go a.files refl where
        clash : None ≡ Some late → ⊥
        clash z = cc

        go : (o : Option Image) → a.files ≡ o → CanBeListed places.entry places.node late
        go None none = absurd (clash (sym (silent none) ∙ now))
        go (Some from) there =
            listed-by from late there now (room from there)

      -- ---- and its list and chain

      module _ (h : Told) (list : ForSome e.files (λ late. CanBeListed places.entry places.node late → Passes e h (FindsUntilListed places.entry places.node late))) where
        pub listing-made : ForSome a.files (λ from. HasRoomForNew key mark from → Passes a h (FindsWhileMade key from))
        listing-made from there r =
            let late = late-of from there r in
            let can : CanBeListed places.entry places.node late.0 = can-listed from there r in
            let finds : (image : Image) → FindsUntilListed places.entry places.node late.0 image → FindsWhileMade key from image =
            λ image f state layout handle k can. f state layout [] handle key (new_loaded places mark key) (to-be from late.0 there late.1 r state layout handle k can) refl refl in
            passes_then (writing-made from there r) (passes_weaker (list late.0 late.1 can) finds finds)

        pub named-of : (from : Image) → a.files ≡ Some from → HasRoomForNew key mark from → (named : Image) × (h.files ≡ Some named)
        named-of from there r = told-mid a h from there (listing-made from there r)

        module _ (listed : ForSome e.files (λ late. ForSome h.files (IsEntryListed places.entry places.node late))) where
          -- each state is kept with the object
          kept-named : (from named : Image) → a.files ≡ Some from → h.files ≡ Some named → HasRoomForNew key mark from → (state : State) (layout : Layout) (handle : ℕ) → Keeps state layout [] from → CanHaveNew state handle key
              → KeepsUncounted (created handle key state) (with_new layout key (new_loaded places mark key)) [] named
          kept-named from named there now r state layout handle k can =
              let late = late-of from there r in
              listed late.0 late.1 named now state layout [] handle key (new_loaded places mark key) (to-be from late.0 there late.1 r state layout handle k can) refl refl

          -- ---- and the counters

          module _ (i : Told) (count : ForSome h.files (λ named. Passes h i (KeepsWith [] [] named))) where
            pub counting-made : ForSome a.files (λ from. HasRoomForNew key mark from → Passes a i (FindsWhileMade key from))
            counting-made from there r =
                let first = listing-made from there r in
                let named = named-of from there r in
                let finds : (image : Image) → KeepsWith [] [] named.0 image → FindsWhileMade key from image =
                λ image kw state layout handle k can.
                let kept = kept-named from named.0 there named.1 r state layout handle k can in
                let now = then-found [] [] named.0 image kw (created handle key state) (with_new layout key (new_loaded places mark key)) [] kept in
                let before = then-found [] [] named.0 named.0 (λ s y u q. q) (created handle key state) (with_new layout key (new_loaded places mark key)) [] kept in
                (now.0, now.1 ∙ sym before.1 ∙ (passes_end first named.0 named.1 state layout handle k can).1) in
                passes_then first (passes_weaker (count named.0 named.1) finds finds)

            module _ (writes : ForSome d.files (λ mid. ForSome e.files (SameCounters mid))) (lists : ForSome e.files (λ late. CanBeListed places.entry places.node late → ForSome h.files (SameCounters late))) (counters : Counters) (read : ForSome a.files (AreIndexCounters counters)) (charge : ℕ) (long : charge ≡ length key)
                (counted : ForSome h.files (λ named. ForSome i.files (AreCountersWritten ((counters.entries + 1) % 4294967296) ((counters.bytes + charge) % 2 ^ 64) ((counters.size + 1) % 4294967296) named))) where
              one-counted : (n uses : ℕ) → n ≡ uses → uses < 131072 → (n + 1) % 4294967296 ≡ uses + 1
              one-counted n uses is few = omega (arith, is, few)

              -- until then the index counts as before
              counts-named : (from : Image) → a.files ≡ Some from → (r : HasRoomForNew key mark from) → (named : Image) → h.files ≡ Some named → SameCounters from named
              counts-named from there r named now =
                  let mid = mid-of from there r in
                  let late = late-of from there r in
                  let can : CanBeListed places.entry places.node late.0 = can-listed from there r in
                  counters-then from mid.0 named (unlinked-then from mid.0 there mid.1 r).counters
                  (counters-then mid.0 late.0 named (writes mid.0 mid.1 late.0 late.1) (lists late.0 late.1 can named now))

              pub object-made : (made : Made) → made.entry ≡ places.entry → made.node ≡ places.node → ForSome a.files (λ from. this_id_of (byte from Index) ≡ mark → ForSome i.files (HasNewObjects key made from))
              object-made made entry_is node_is from there session image now state layout handle k can =
                  let r : HasRoomForNew key mark from = record { state = state; layout = layout; handle = handle; kept = k; session = session; can = can } in
                  let late = late-of from there r in
                  let named = named-of from there r in
                  let loaded : Loaded = new_loaded places mark key in
                  let after : State = created handle key state in
                  let laid : Layout = with_new layout key loaded in
                  let q = to-be from late.0 there late.1 r state layout handle k can in
                  let more : IsOneMore state layout key loaded handle = one-more state layout (words_of loaded ++ []) key loaded handle late.0 q.kept q.entry in
                  let made_kept = kept-named from named.0 there named.1 r state layout handle k can in
                  let c = read from there in
                  let f : ℕ → ℕ = byte from Index in
                  let few = can.few in
                  let short = uses-few state layout [] from k.entries in
                  let items : (counters.entries + 1) % 4294967296 ≡ length after.uses = one-counted counters.entries (length state.uses) (c.entries ∙ its-entries f (length state.uses) (charged state layout) k.counters) (omega (arith, few, short)) ∙ sym more.items in
                  let nodes : (counters.size + 1) % 4294967296 ≡ length after.uses = one-counted counters.size (length state.uses) (c.size ∙ its-nodes f (length state.uses) (charged state layout) k.counters) (omega (arith, few, short)) ∙ sym more.items in
                  let sum : (counters.bytes + charge) % 2 ^ 64 ≡ charged after laid =
                  charge-more counters.bytes (charged state layout) (charged after laid) charge (c.bytes ∙ its-bytes64 f (length state.uses) (charged state layout) k.counters)
                  (more.bytes ∙ other-way (length key) (charged state layout) charge long) (charges-small after laid [] named.0 made_kept) in
                  record {
                    loaded = loaded;
                    record_is = sym entry_is;
                    node_is = sym node_is;
                    mark_is = sym session;
                    kept = counters-count after state laid layout [] named.0 image made_kept (still-counts from named.0 state layout (counts-named from there r named.0 named.1) k.counters)
                        (written-as named.0 image ((counters.entries + 1) % 4294967296) ((counters.bytes + charge) % 2 ^ 64) ((counters.size + 1) % 4294967296) (length after.uses) (charged after laid) (length after.uses) items sum nodes (counted named.0 named.1 image now));
                  }
                where
                  other-way : (n sum charge : ℕ) → charge ≡ n → n + 0 + sum ≡ sum + charge
                  other-way n sum charge is = omega (arith, is)
