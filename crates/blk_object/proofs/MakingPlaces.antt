-- The three places of an entry, taken one after another.
use Rattle.std.proofs.Common.{◌≡◌, ◌≢◌, ℕ, suc, ◌+◌, ◌≤◌, List, [], ◌∷◌, ◌++◌, length, Option, None, Some, refl, ◌∙◌, arith, true, false, Bool}
use Rattle.std.specs.Prelude.{nat_le, nat_lt, if◌then◌else◌, ◌-◌, ◌/◌}
use Rattle.std.specs.Option.{ForSome}
use Rattle.std.specs.List.Sorted.{IsPermutation}
use Rattle.std.proofs.lemmas.Bool.{leb-true}
use Rattle.std.proofs.lemmas.List.Sorted.{IsPermutation-append_left, IsPermutation-sym, IsPermutation-to_front}
use Rattle.spec_image.specs.Image.{Image}
use Rattle.spec_image.specs.Told.{Passes, Told}
use Rattle.spec_image.proofs.Runs.{passes_then, passes_weaker}
use Rattle.spec_format.specs.Address.{external, file_selector, kind_of}
use Rattle.spec_format.specs.Claims.{BlockOf, claims_of, claims_of_all, repeats}
use Rattle.spec_format.specs.Storage.{entry_blocks}
use Rattle.blk_io.proofs.Carried.{untold_where}
use Rattle.blk_alloc.proofs.Lists.{claims_blocks, once_parts}
use Rattle.blk_entry.specs.Writing.{LiesApart, ShareNoBlock}
use Rattle.law_folder.proofs.claims.ByteChanges.{stands-some}
use Rattle.blk_stream.proofs.Apart.{blocks_back, none_shared}
use Rattle.blk_stream.proofs.ShownDrops.{claims-behind, claims-first}
use Rattle.blk_model.specs.State.{State}
use Rattle.spec_folder.specs.Layout.{Layout}
use Rattle.law_state.specs.Changes.{StillFinds}
use Rattle.law_state.specs.Keeping.{KeepsUncounted}
use Rattle.law_state.proofs.UnlinkedOrder.{kept-in-any-order}
use Rattle.blk_object.specs.Making.{LeavesRoom, Takes, long_word, words_of_places}
use Rattle.blk_object.specs.declared.making_places.Places.{Places}
use Rattle.blk_object.proofs.MakingStored.{counters-then, stored-then}
use Rattle.blk_object.proofs.MakingTaken.{less-room, none-before, room-for-one, session-then, then-finds, told-before, told-mid}

-- ---- the blocks of a record

-- a record has one to four blocks
pub blocks-few : (n : ℕ) → (1 ≤ entry_blocks n) × (entry_blocks n ≤ 4)
unfolding entry_blocks
blocks-few n = go (nat_lt n 160) (nat_le n 927) (λ e. leb-true n 927 e)
  where
    go : (a b : Bool) → (b ≡ true → n ≤ 927) → (1 ≤ (if a then 1 else if b then (n - 160) / 256 + 2 else 1)) × ((if a then 1 else if b then (n - 160) / 256 + 2 else 1) ≤ 4)
    go true b small = (omega arith, omega arith)
    go false true small = let most = small refl in (omega arith, omega (arith, most))
    go false false small = (omega arith, omega arith)

-- ---- words in another order

last-first : (x y z : ℕ) (rest : List ℕ) → IsPermutation (x ∷ y ∷ z ∷ rest) (y ∷ z ∷ x ∷ rest)
last-first x y z rest = IsPermutation-append_left rest (x ∷ y ∷ z ∷ []) (y ∷ z ∷ x ∷ []) (IsPermutation-sym (y ∷ z ∷ x ∷ []) (x ∷ y ∷ z ∷ []) (IsPermutation-to_front (y ∷ z ∷ []) x))

-- ---- unlinked words share no block

apart-words : (entry node w : ℕ) (rest : List ℕ) → entry ≢ 0 → kind_of entry ≢ external → w ≢ 0 → repeats (claims_of_all (w ∷ node ∷ entry ∷ rest)) ≡ false → kind_of w ≢ external → ShareNoBlock entry w
apart-words entry node w rest some kind also once blocks =
    blocks_back w entry (none_shared w entry (λ b mine its.
    (once_parts (claims_of w) (claims_of_all (node ∷ entry ∷ rest)) once).1 (BlockOf (file_selector w) b)
    (claims_blocks w (file_selector w) b (record { some = also; block_kind = blocks }) ∙ mine)
    (claims-behind node (entry ∷ rest) (BlockOf (file_selector w) b) (claims-first entry rest (BlockOf (file_selector w) b) (claims_blocks entry (file_selector w) b (record { some = some; block_kind = kind }) ∙ its)))))

-- so a long key lies apart from its record, where both are unlinked
pub apart-kept : (state : State) (layout : Layout) (unlinked : List ℕ) (image : Image) (entry node : ℕ) (long_key : Option ℕ) → kind_of entry ≢ external → KeepsUncounted state layout (long_word long_key ++ node ∷ entry ∷ unlinked) image → LiesApart entry long_key
apart-kept state layout unlinked image entry node None kind k = tt
apart-kept state layout unlinked image entry node (Some w) kind k =
    let stand = k.unlinked_words.stand in
    apart-words entry node w unlinked (stands-some image entry stand.1.1.0) kind (stands-some image w stand.0) k.unlinked_words.single

-- ---- two places, and then a third

module _ (a b d : Told) (n one two : ℕ)
    (first : ForSome a.files (λ from. LeavesRoom 1 from → Passes a b (StillFinds [] from))) (first_taken : ForSome a.files (λ from. LeavesRoom 1 from → ForSome b.files (Takes (one ∷ []) from)))
    (second : ForSome b.files (λ mid. LeavesRoom 1 mid → Passes b d (StillFinds [] mid))) where
  after-first : (from : Image) → a.files ≡ Some from → LeavesRoom (suc (suc n)) from → (mid : Image) × (b.files ≡ Some mid)
  after-first from there room = told-mid a b from there (first from there (room-for-one (suc n) from room))

  pub room-after : (a.files ≡ None → b.files ≡ None) → ForSome a.files (LeavesRoom (suc (suc n))) → ForSome b.files (LeavesRoom (suc n))
  room-after silent room mid now =
      let from = told-before a.files b.files mid silent now in
      less-room (suc n) one from.0 mid (room from.0 from.1) (first_taken from.0 from.1 (room-for-one (suc n) from.0 (room from.0 from.1)) mid now)

  pub tells-first : ForSome a.files (LeavesRoom (suc (suc n))) → b.files ≡ None → a.files ≡ None
  tells-first room = none-before a b (λ from there. after-first from there (room from there))

  pub two-find : ForSome a.files (λ from. LeavesRoom (suc (suc n)) from → Passes a d (StillFinds [] from))
  two-find from there room =
      let mid = after-first from there room in
      let taken = first_taken from there (room-for-one (suc n) from room) mid.0 mid.1 in
      let finds : (image : Image) → StillFinds [] mid.0 image → StillFinds [] from image = λ image. then-finds (one ∷ []) from mid.0 image taken.kept in
      passes_then (first from there (room-for-one (suc n) from room)) (passes_weaker (second mid.0 mid.1 (room-for-one n mid.0 (less-room (suc n) one from mid.0 room taken))) finds finds)

  module _ (second_taken : ForSome b.files (λ mid. LeavesRoom 1 mid → ForSome d.files (Takes (two ∷ []) mid))) where
    pub two-taken : ForSome a.files (λ from. LeavesRoom (suc (suc n)) from → ForSome d.files (Takes (two ∷ one ∷ []) from))
    two-taken from there room late now =
        let mid = after-first from there room in
        let taken = first_taken from there (room-for-one (suc n) from room) mid.0 mid.1 in
        let more = second_taken mid.0 mid.1 (room-for-one n mid.0 (less-room (suc n) one from mid.0 room taken)) late now in
        record {
          kept = λ state layout unlinked k. more.kept state layout (one ∷ unlinked) (taken.kept state layout unlinked k);
          session = session-then from mid.0 late taken.session more.session;
          counters = counters-then from mid.0 late taken.counters more.counters;
          stored = stored-then (one ∷ []) from mid.0 late taken.kept taken.stored more.stored;
        }

-- space for one more, once two words are taken
two-less : (one two : ℕ) (from late : Image) → LeavesRoom 3 from → Takes (two ∷ one ∷ []) from late → LeavesRoom 1 late
two-less one two from late r taken = record { state = r.state; layout = r.layout; unlinked = two ∷ one ∷ r.unlinked; kept = taken.kept r.state r.layout r.unlinked r.kept; few = r.few; room = let room = r.room in bound (length r.unlinked) room }
  where
    bound : (u : ℕ) → u + 3 ≤ 7 → suc (suc u) + 1 ≤ 7
    bound u room = omega (arith, room)

module _ (a d e : Told) (places : Places) (two : ForSome a.files (λ from. LeavesRoom 3 from → Passes a d (StillFinds [] from)))
    (two_taken : ForSome a.files (λ from. LeavesRoom 3 from → ForSome d.files (Takes (places.node ∷ places.entry ∷ []) from)))
    (third : ForSome d.files (λ late. LeavesRoom 1 late → Passes d e (StillFinds [] late))) where
  after-two : (from : Image) → a.files ≡ Some from → LeavesRoom 3 from → (late : Image) × (d.files ≡ Some late)
  after-two from there room = told-mid a d from there (two from there room)

  pub room-for-third : (a.files ≡ None → d.files ≡ None) → ForSome a.files (LeavesRoom 3) → ForSome d.files (LeavesRoom 1)
  room-for-third silent room late now =
      let from = told-before a.files d.files late silent now in
      two-less places.entry places.node from.0 late (room from.0 from.1) (two_taken from.0 from.1 (room from.0 from.1) late now)

  pub tells-two : ForSome a.files (LeavesRoom 3) → d.files ≡ None → a.files ≡ None
  tells-two room = none-before a d (λ from there. after-two from there (room from there))

  pub three-find : ForSome a.files (λ from. LeavesRoom 3 from → Passes a e (StillFinds [] from))
  three-find from there room =
      let late = after-two from there room in
      let taken = two_taken from there room late.0 late.1 in
      let finds : (image : Image) → StillFinds [] late.0 image → StillFinds [] from image = λ image. then-finds (places.node ∷ places.entry ∷ []) from late.0 image taken.kept in
      passes_then (two from there room) (passes_weaker (third late.0 late.1 (two-less places.entry places.node from late.0 room taken)) finds finds)

  module _ (third_taken : ForSome d.files (λ late. LeavesRoom 1 late → ForSome e.files (Takes (long_word places.long_key) late))) where
    -- all three, the last one in front
    three : (from last : Image) → a.files ≡ Some from → e.files ≡ Some last → LeavesRoom 3 from → (state : State) (layout : Layout) (unlinked : List ℕ) → KeepsUncounted state layout unlinked from
        → KeepsUncounted state layout (long_word places.long_key ++ places.node ∷ places.entry ∷ unlinked) last
    three from last there now room state layout unlinked k =
        let late = after-two from there room in
        let taken = two_taken from there room late.0 late.1 in
        (third_taken late.0 late.1 (two-less places.entry places.node from late.0 room taken) last now).kept state layout (places.node ∷ places.entry ∷ unlinked) (taken.kept state layout unlinked k)

    pub three-taken : ForSome a.files (λ from. LeavesRoom 3 from → ForSome e.files (Takes (words_of_places places) from))
    three-taken from there room last now =
        let late = after-two from there room in
        let taken = two_taken from there room late.0 late.1 in
        let more = third_taken late.0 late.1 (two-less places.entry places.node from late.0 room taken) last now in
        record {
          kept = λ state layout unlinked k. in-order state layout unlinked places.long_key (three from last there now room state layout unlinked k);
          session = session-then from late.0 last taken.session more.session;
          counters = counters-then from late.0 last taken.counters more.counters;
          stored = stored-then (places.node ∷ places.entry ∷ []) from late.0 last taken.kept taken.stored more.stored;
        }
      where
        in-order : (state : State) (layout : Layout) (unlinked : List ℕ) (o : Option ℕ) → KeepsUncounted state layout (long_word o ++ places.node ∷ places.entry ∷ unlinked) last → KeepsUncounted state layout ((places.node ∷ places.entry ∷ long_word o) ++ unlinked) last
        in-order state layout unlinked None k = k
        in-order state layout unlinked (Some w) k = kept-in-any-order state layout (w ∷ places.node ∷ places.entry ∷ unlinked) (places.node ∷ places.entry ∷ w ∷ unlinked) last k (last-first w places.node places.entry unlinked)

    -- so where they are not apart the folder was opaque
    pub never-shared : kind_of places.entry ≢ external → (a.files ≡ None → e.files ≡ None) → ForSome a.files (LeavesRoom 3) → (LiesApart places.entry places.long_key → ⊥) → a.files ≡ None
    never-shared kind silent room shared = untold_where a.files (λ from there.
        let r = room from there in
        let last = told-mid a e from there (three-find from there r) in
        shared (apart-kept r.state r.layout r.unlinked last.0 places.entry places.node places.long_key kind (three from last.0 there last.1 r r.state r.layout r.unlinked r.kept)))
