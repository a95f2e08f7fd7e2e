-- The places of a new part, taken one after another, and what is stored in two of them.
use Rattle.std.proofs.Common.{◌≡◌, ℕ, ◌+◌, ◌-◌, ◌<◌, ◌≤◌, List, [], ◌∷◌, ◌++◌, length, take, drop, None, Some, refl, ap, sym, ◌∙◌, subst, arith, true, false, append_assoc, length-append}
use Rattle.std.specs.Prelude.{replicate, ◌==◌}
use Rattle.std.specs.Option.{ForSome}
use Rattle.std.proofs.lemmas.List.{length-replicate}
use Rattle.std.proofs.lemmas.Bool.{eq-eqb, or_left, or_right}
use Rattle.spec_image.specs.Image.{Image}
use Rattle.spec_image.specs.Told.{Passes, Told}
use Rattle.spec_image.proofs.Runs.{passes_then, passes_weaker}
use Rattle.blk_model.specs.Bytes.{overwritten}
use Rattle.spec_format.specs.BlockFiles.{is_among}
use Rattle.spec_format.specs.Headers.{HasWholeIndex}
use Rattle.spec_format.specs.Storage.{kind_for}
use Rattle.spec_format.proofs.Among.{is_among-append}
use Rattle.spec_format.proofs.Finished.{sound-whole}
use Rattle.blk_disk.specs.declared.tables.BlockFiles.{BlockFiles}
use Rattle.blk_disk.specs.Open.{IsOpen}
use Rattle.blk_stream.specs.Placing.{CanBePlaced}
use Rattle.blk_stream.specs.Stages.{FillsByStage, IsFilled}
use Rattle.blk_stream.proofs.Placed.{blocks_are}
use Rattle.law_state.specs.Changes.{StillFinds}
use Rattle.law_state.specs.Keeping.{KeepsUncounted}
use Rattle.blk_object.specs.Making.{LeavesRoom, Takes}
use Rattle.blk_object.proofs.MakingRoom.{counted-with-room, free-with-room}
use Rattle.blk_object.proofs.MakingStored.{counters-then, stored-then}
use Rattle.blk_object.proofs.MakingTaken.{none-before, session-then, then-finds, told-before, told-mid}
use Rattle.blk_object.proofs.WritingPlaces.{filled-unlinked, filling-finds}
use Rattle.blk_sparse.specs.NewParts.{AreStoredAt}

-- ---- bytes written over none

take-none : (n : ℕ) → take {A = ℕ} n [] ≡ []
take-none n = grind arith

drop-none : (n : ℕ) → drop {A = ℕ} n [] ≡ []
drop-none n = grind arith

append-none : (xs : List ℕ) → xs ++ [] ≡ xs
append-none [] = refl
append-none (x ∷ xs) = ap (λ (ys : List ℕ). x ∷ ys) (append-none xs)

pub new-bytes : (offset : ℕ) (bytes : List ℕ) → overwritten [] offset bytes ≡ replicate offset 0 ++ bytes
new-bytes offset bytes =
    ap (λ (n : ℕ). take offset [] ++ replicate n 0 ++ bytes ++ drop (offset + length bytes) []) (let z : offset - 0 ≡ offset = omega arith in z)
    ∙ ap (λ (xs : List ℕ). xs ++ replicate offset 0 ++ bytes ++ drop (offset + length bytes) []) (take-none offset)
    ∙ ap (λ (xs : List ℕ). replicate offset 0 ++ bytes ++ xs) (drop-none (offset + length bytes))
    ∙ append-none (replicate offset 0 ++ bytes)

replicate-long : (n : ℕ) → length {A = ℕ} (replicate n 0) ≡ n
replicate-long n = length-replicate n 0

pub new-long : (offset : ℕ) (bytes : List ℕ) → length (overwritten [] offset bytes) ≡ offset + length bytes
new-long offset bytes = ap length (new-bytes offset bytes) ∙ length-append (replicate offset 0) bytes ∙ ap (λ (n : ℕ). n + length bytes) (replicate-long offset)

pub none-before-them : (bytes : List ℕ) → overwritten [] 0 bytes ≡ bytes
none-before-them bytes = new-bytes 0 bytes

-- ---- a stream

module _ (a b : Told) (files kept : BlockFiles) (size : ℕ) (some : 0 < size) (is_open : ForSome a.files (IsOpen files)) where
  pub can-place : (from : Image) → a.files ≡ Some from → LeavesRoom 1 from → CanBePlaced files size from
  can-place from there room = record {
    counted = λ apart. counted-with-room 0 files (kind_for size) from room (is_open from there).agrees (blocks_are size some apart).1.1.1;
    free = λ _. free-with-room 1 from room;
  }

  module _ (stages : ForSome a.files (λ from. CanBePlaced files size from → Passes a b (FillsByStage files kept from))) where
    pub storing-finds : ForSome a.files (λ from. LeavesRoom 1 from → Passes a b (StillFinds [] from))
    storing-finds from there room =
        let finds : (image : Image) → FillsByStage files kept from image → StillFinds [] from image = λ image fills. filling-finds files kept from image (is_open from there).agrees fills in
        passes_weaker (stages from there (can-place from there room)) finds finds

    pub storing-tells : ForSome a.files (LeavesRoom 1) → b.files ≡ None → a.files ≡ None
    storing-tells room = none-before a b (λ from there. told-mid a b from there (storing-finds from there (room from there)))

    module _ (w : ℕ) (staged : ForSome a.files (λ from. CanBePlaced files size from → ForSome b.files (IsFilled files kept (Some w) from))) where
      pub stored-taken : ForSome a.files (λ from. LeavesRoom 1 from → ForSome b.files (Takes (w ∷ []) from))
      stored-taken from there room image now = (filled-unlinked files kept (Some w) from image room.kept.sound (is_open from there).agrees (staged from there (can-place from there room) image now)).0

      pub stored-whole : (a.files ≡ None → b.files ≡ None) → ForSome a.files (LeavesRoom 1) → ForSome b.files HasWholeIndex
      stored-whole silent room image now =
          let from = told-before a.files b.files image silent now in
          let r = room from.0 from.1 in
          sound-whole image ((stored-taken from.0 from.1 r image now).kept r.state r.layout r.unlinked r.kept).sound

-- ---- one after another

-- space for more is space for fewer
pub fewer : (n m : ℕ) (from : Image) → LeavesRoom (n + m) from → LeavesRoom n from
fewer n m from r = record { state = r.state; layout = r.layout; unlinked = r.unlinked; kept = r.kept; few = r.few; room = let room = r.room in bound (length r.unlinked) room }
  where
    bound : (u : ℕ) → u + (n + m) ≤ 7 → u + n ≤ 7
    bound u room = omega (arith, room)

-- once some words are taken there is space for the others
less : (n m : ℕ) (ws : List ℕ) → length ws ≤ n → (from mid : Image) → LeavesRoom (n + m) from → Takes ws from mid → LeavesRoom m mid
less n m ws short from mid r taken = record { state = r.state; layout = r.layout; unlinked = ws ++ r.unlinked; kept = taken.kept r.state r.layout r.unlinked r.kept; few = r.few; room = let room = r.room in bound (length r.unlinked) (length (ws ++ r.unlinked)) (length-append ws r.unlinked) room }
  where
    bound : (u v : ℕ) → v ≡ length ws + u → u + (n + m) ≤ 7 → v + m ≤ 7
    bound u v long room = omega (arith, long, room, short)

module _ (a b : Told) (n m : ℕ) (ws : List ℕ) (short : length ws ≤ n) (first : ForSome a.files (λ from. LeavesRoom n from → Passes a b (StillFinds [] from))) where
  pub tells-first : ForSome a.files (LeavesRoom (n + m)) → b.files ≡ None → a.files ≡ None
  tells-first room = none-before a b (λ from there. told-mid a b from there (first from there (fewer n m from (room from there))))

  module _ (first_taken : ForSome a.files (λ from. LeavesRoom n from → ForSome b.files (Takes ws from))) where
    pub room-left : (a.files ≡ None → b.files ≡ None) → ForSome a.files (LeavesRoom (n + m)) → ForSome b.files (LeavesRoom m)
    room-left silent room mid now =
        let from = told-before a.files b.files mid silent now in
        less n m ws short from.0 mid (room from.0 from.1) (first_taken from.0 from.1 (fewer n m from.0 (room from.0 from.1)) mid now)

    module _ (d : Told) (second : ForSome b.files (λ mid. LeavesRoom m mid → Passes b d (StillFinds [] mid))) where
      pub both-find : ForSome a.files (λ from. LeavesRoom (n + m) from → Passes a d (StillFinds [] from))
      both-find from there room =
          let one = first from there (fewer n m from room) in
          let mid = told-mid a b from there one in
          let taken = first_taken from there (fewer n m from room) mid.0 mid.1 in
          let finds : (image : Image) → StillFinds [] mid.0 image → StillFinds [] from image = λ image. then-finds ws from mid.0 image taken.kept in
          passes_then one (passes_weaker (second mid.0 mid.1 (less n m ws short from mid.0 room taken)) finds finds)

      module _ (vs : List ℕ) (second_taken : ForSome b.files (λ mid. LeavesRoom m mid → ForSome d.files (Takes vs mid))) where
        pub both-taken : ForSome a.files (λ from. LeavesRoom (n + m) from → ForSome d.files (Takes (vs ++ ws) from))
        both-taken from there room late now =
            let mid = told-mid a b from there (first from there (fewer n m from room)) in
            let taken = first_taken from there (fewer n m from room) mid.0 mid.1 in
            let more = second_taken mid.0 mid.1 (less n m ws short from mid.0 room taken) late now in
            record {
              kept = λ state layout unlinked k. subst (λ (xs : List ℕ). KeepsUncounted state layout xs late) (sym (append_assoc vs ws unlinked)) (more.kept state layout (ws ++ unlinked) (taken.kept state layout unlinked k));
              session = session-then from mid.0 late taken.session more.session;
              counters = counters-then from mid.0 late taken.counters more.counters;
              stored = stored-then ws from mid.0 late taken.kept taken.stored more.stored;
            }

        -- what was stored in the first place is stored there still
        pub first-stored : (w : ℕ) (bytes : List ℕ) → is_among ws w ≡ true → ForSome a.files (λ from. LeavesRoom n from → ForSome b.files (AreStoredAt w bytes)) → ForSome a.files (λ from. LeavesRoom (n + m) from → ForSome d.files (AreStoredAt w bytes))
        first-stored w bytes among stored from there room late now =
            let mid = told-mid a b from there (first from there (fewer n m from room)) in
            let taken = first_taken from there (fewer n m from room) mid.0 mid.1 in
            let more = second_taken mid.0 mid.1 (less n m ws short from mid.0 room taken) late now in
            more.stored room.state room.layout (ws ++ room.unlinked) (taken.kept room.state room.layout room.unlinked room.kept) (length bytes) w bytes
            (is_among-append ws room.unlinked w ∙ or_left (is_among ws w) (is_among room.unlinked w) among)
            (stored from there (fewer n m from room) mid.0 mid.1)

        pub second-stored : (w : ℕ) (bytes : List ℕ) → ForSome b.files (λ mid. LeavesRoom m mid → ForSome d.files (AreStoredAt w bytes)) → ForSome a.files (λ from. LeavesRoom (n + m) from → ForSome d.files (AreStoredAt w bytes))
        second-stored w bytes stored from there room late now =
            let mid = told-mid a b from there (first from there (fewer n m from room)) in
            let taken = first_taken from there (fewer n m from room) mid.0 mid.1 in
            stored mid.0 mid.1 (less n m ws short from mid.0 room taken) late now

-- the second of two words is among them
pub among-second : (v w : ℕ) → is_among (v ∷ w ∷ []) w ≡ true
among-second v w = or_right (v == w) (is_among (w ∷ []) w) (or_left (w == w) false (eq-eqb w w refl))
