-- Places that are taken: at each word the old durable contents are recovered, and in the end their words are unlinked.
use Rattle.std.proofs.Common.{◌≡◌, ◌≢◌, inl, inr, ℕ, suc, ◌+◌, ◌<◌, ◌≤◌, List, [], ◌∷◌, ◌++◌, length, Option, None, Some, refl, sym, ◌∙◌, ap, subst, arith, true, false, Result, Ok, Err, IfOk}
use Rattle.std.specs.Prelude.{◌==◌, is_some, unwrap_or, IsTrue}
use Rattle.std.specs.Option.{ForSome, option_map}
use Rattle.std.proofs.lemmas.Bool.{eq-eqb, or_left}
use Rattle.spec_image.specs.Footprint.{SameOutside, whole}
use Rattle.spec_image.specs.Bytes.{content, resized}
use Rattle.spec_image.specs.Image.{Image, Index, bytes_of, has_file, length_of}
use Rattle.spec_image.specs.Steps.{after}
use Rattle.spec_image.specs.Told.{Applies, Passes, PassesTo, Told}
use Rattle.spec_image.proofs.Runs.{passes_end, passes_none, passes_then, passes_weaker, some_inj}
use Rattle.spec_image.proofs.Splices.{length-resized}
use Rattle.spec_format.specs.Address.{external, external_number, file_selector, is_address, is_block_kind, kind_of}
use Rattle.spec_format.specs.BlockFiles.{HasSoundHeaders}
use Rattle.spec_format.specs.Claims.{Claim, ExternalOf, claims_of, claims_of_all, has_claim, same_claim}
use Rattle.spec_format.specs.Growth.{StaysWhole}
use Rattle.spec_format.specs.Headers.{HasWholeIndex, crash_of, this_id_of}
use Rattle.spec_format.specs.Storage.{kind_for}
use Rattle.spec_format.proofs.Finished.{sound-whole}
use Rattle.blk_io.proofs.Carried.{untold_where}
use Rattle.blk_disk.specs.declared.tables.BlockFiles.{BlockFiles}
use Rattle.blk_disk.specs.Open.{IsOpen}
use Rattle.blk_disk.specs.Tables.{Agrees, stands_among}
use Rattle.blk_disk.proofs.Agreeing.{agrees_still}
use Rattle.blk_stream.proofs.Created.{created_agrees}
use Rattle.blk_entry.specs.Keys.{stores}
use Rattle.blk_stream.proofs.Placed.{stored_file}
use Rattle.blk_stream.proofs.KeptFiles.{external_spares, headers_spared}
use Rattle.blk_addr.specs.Kind.{kind_number}
use Rattle.blk_addr.specs.declared.kinds.Kind.{Kind}
use Rattle.blk_addr.specs.declared.kinds.Kind.TheVariants.{External, Rankings, B256, B1K, B4K}
use Rattle.blk_alloc.specs.Allocating.{Allocates, AllocatesIn, AllocatesInProgress, AllocatesOrStops, AreCounted}
use Rattle.blk_alloc.specs.Extending.{HasItsBlocks, KeepsLinks}
use Rattle.blk_external.specs.Changes.{ChangesExternal}
use Rattle.blk_external.specs.Making.{Creates, CreatesInProgress, last_number, making}
use Rattle.blk_external.specs.Numbers.{HasFreeNumber, IsFirstFree, named_file}
use Rattle.law_folder.proofs.claims.ClaimLists.{claim-append, claim-head}
use Rattle.law_state.specs.Changes.{AddsAllocation, AddsExternal, KeepsWith, SameSession, StillFinds}
use Rattle.law_state.proofs.Allocating.{allocated-unlinked}
use Rattle.law_state.proofs.Externals.{making-finds}
use Rattle.law_state.proofs.Free.{then-found, unlinked-change}
use Rattle.law_state.proofs.MakingFiles.{its-claims, made-unlinked}
use Rattle.law_state.proofs.Writes.{external-writes, growth-finds}
use Rattle.blk_object.proofs.KeptAllocating.{allocations-add}
use Rattle.blk_object.proofs.KeptExternalFiles.{creations-add, deletions-find}
use Rattle.blk_object.specs.Making.{LeavesRoom, Takes}
use Rattle.blk_object.proofs.MakingRoom.{counted-with-room, free-with-room}
use Rattle.blk_object.proofs.MakingStored.{allocating-index, changed-stored, counters-then, growth-stored, index-counters, made-outside, made-stored, making-counters}

-- ---- observed files

no-some : {A : Type 0} {x : A} → None ≡ Some x → ⊥
no-some e = cc

-- files that are observed in the end were observed before
pub told-before : (a b : Option Image) (last : Image) → (a ≡ None → b ≡ None) → b ≡ Some last → (first : Image) × (a ≡ Some first)
told-before None b last silent now = absurd (no-some (sym (silent refl) ∙ now))
told-before (Some first) b last silent now = (first, refl)

-- the files after some steps
pub told-mid : {P Q : Image → Type 0} (a b : Told) (from : Image) → a.files ≡ Some from → PassesTo a b P Q → (mid : Image) × (b.files ≡ Some mid)
told-mid {P} {Q} a b from there p = (after p.steps from, p.applies.files ∙ ap (option_map (after p.steps)) there)

-- a folder that is opaque in the middle was opaque at the start, where one that was observable is so in the middle
pub none-before : (a b : Told) → ((from : Image) → a.files ≡ Some from → (mid : Image) × (b.files ≡ Some mid)) → b.files ≡ None → a.files ≡ None
none-before a b mid none = untold_where a.files (λ from there. no-some (sym none ∙ (mid from there).1))

-- a call that stays comes after that
pub then-stays : {P Q : Image → Type 0} (a b c : Told) → c ≡ b → PassesTo a b P Q → PassesTo a c P Q
then-stays {P} {Q} a b c same p = subst (λ (t : Told). PassesTo a t P Q) (sym same) p

-- ---- sessions

-- a session that stays, and stays
pub session-then : (from mid image : Image) → SameSession from mid → SameSession mid image → SameSession from image
session-then from mid image one other = record { crash = other.crash ∙ one.crash; id = other.id ∙ one.id }

-- a session in the same index
index-session : (from image : Image) → image Index ≡ from Index → SameSession from image
index-session from image same = record { crash = ap (λ (o : Option (List ℕ)). crash_of (content (unwrap_or o []))) same; id = ap (λ (o : Option (List ℕ)). this_id_of (content (unwrap_or o []))) same }

-- ---- nothing is done

-- no word is taken
pub nothing-taken : (a b : Told) → b ≡ a → ForSome a.files (λ from. ForSome b.files (Takes [] from))
nothing-taken a b same from there image now =
    let is : image ≡ from = some_inj (sym now ∙ ap (λ (t : Told). t.files) same ∙ there) in
    subst (Takes [] from) (sym is) (record { kept = λ state layout unlinked k. k; session = record { crash = refl; id = refl }; counters = refl; stored = λ state layout unlinked k size w bytes among there. there })

pub nothing-finds : (words : List ℕ) (a b : Told) → b ≡ a → ForSome a.files (λ from. Passes a b (StillFinds words from))
nothing-finds words a b same from there =
    passes_none (StillFinds words from) same (λ image is. subst (StillFinds words from) (some_inj (sym there ∙ is)) (then-found words words from from (λ state layout unlinked k. k)))

-- ---- an allocation

-- a kind that isn't external is one of blocks
pub block-kind : (kind : Kind) → kind_number kind ≢ external → is_block_kind (kind_number kind) ≡ true
block-kind External apart = absurd (apart refl)
block-kind Rankings apart = refl
block-kind B256 apart = refl
block-kind B1K apart = refl
block-kind B4K apart = refl

module _ (a b : Told) (files : BlockFiles) (kind count : ℕ) (block : is_block_kind kind ≡ true) (agreed : ForSome a.files (Agrees files))
    (stops : ForSome a.files (λ from. AreCounted files kind from → PassesTo a b (AllocatesInProgress files kind count from) (AllocatesOrStops files kind count from))) where
  either : (from image : Image) → AllocatesOrStops files kind count from image → StaysWhole from image
  either from image (inl before) = before.stays
  either from image (inr last) = last.stays

  stays : (n : ℕ) (from : Image) → a.files ≡ Some from → LeavesRoom (suc n) from → Passes a b (StaysWhole from)
  stays n from there room = passes_weaker (stops from there (counted-with-room n files kind from room (agreed from there) block)) (λ image m. m.stays) (either from)

  pub allocating-finds : ForSome a.files (λ from. LeavesRoom 1 from → Passes a b (StillFinds [] from))
  allocating-finds from there room =
      let finds : (image : Image) → StaysWhole from image → StillFinds [] from image = λ image whole. growth-finds [] from image whole.grown whole.headers in
      passes_weaker (stays 0 from there room) finds finds

  pub allocated-taken : (new : BlockFiles) (w : ℕ) → kind_of w ≡ kind → is_address w ≡ true → ForSome b.files (Agrees new) → stands_among new w ≡ true → HasItsBlocks new (file_selector w) → KeepsLinks files new (file_selector w)
      → ForSome a.files (λ from. AreCounted files kind from → ForSome b.files (Allocates files from w)) → ForSome a.files (λ from. AreCounted files kind from → ForSome b.files (AllocatesIn files kind from (file_selector w)))
      → ForSome a.files (λ from. LeavesRoom 1 from → ForSome b.files (Takes (w ∷ []) from))
  allocated-taken new w of_kind address agrees stands long links allocates within from there room image now =
      let counted = counted-with-room 0 files kind from room (agreed from there) block in
      let adds : AddsAllocation from w image = allocations-add files new kind w from image room.kept.sound
      (record { block_kind = block; of_kind = of_kind; address = address; agreed = agreed from there; agrees = agrees image now; stands = stands; long = long; links = links; allocates = allocates from there counted image now; within = within from there counted image now; stays = passes_end (stays 0 from there room) image now }) in
      record {
        kept = allocated-unlinked w from image adds;
        session = adds.session;
        counters = index-counters from image (allocating-index files kind (file_selector w) from image (within from there counted image now));
        stored = growth-stored from image adds.grown;
      }

  pub allocating-whole : (a.files ≡ None → b.files ≡ None) → ForSome a.files (LeavesRoom 1) → ForSome b.files HasWholeIndex
  allocating-whole silent room mid now =
      let from = told-before a.files b.files mid silent now in
      let r = room from.0 from.1 in
      sound-whole mid ((passes_end (stays 0 from.0 from.1 r) mid now).headers.sound r.kept.sound)

  pub allocating-tells : ForSome a.files (LeavesRoom 1) → b.files ≡ None → a.files ≡ None
  allocating-tells room = none-before a b (λ from there. told-mid a b from there (stays 0 from there (room from there)))

-- ---- an external file

-- the used blocks of the word of an external file
pub its-own : (w : ℕ) → (w == 0) ≡ false → kind_of w ≡ external → (claim : Claim) → same_claim claim (ExternalOf (external_number w)) ≡ true → has_claim (claims_of_all (w ∷ [])) claim ≡ true
its-own w some kind claim same =
    claim-append (claims_of w) [] claim
    ∙ or_left (has_claim (claims_of w) claim) _ (ap (λ (cs : List Claim). has_claim cs claim) (its-claims w some (eq-eqb (kind_of w) external kind)) ∙ claim-head (ExternalOf (external_number w)) [] claim ∙ or_left (same_claim claim (ExternalOf (external_number w))) _ same)

-- a file that was made gets its length
sized-keeps : (w : ℕ) (from image : Image) → (w == 0) ≡ false → kind_of w ≡ external → SameOutside (whole (named_file w)) from image → has_file image (named_file w) ≡ has_file from (named_file w) → KeepsWith (w ∷ []) (w ∷ []) from image
sized-keeps w from image some kind same there = unlinked-change (λ claim. same_claim claim (ExternalOf (external_number w))) (w ∷ []) from image (its-own w some kind) (external-writes from image (external_number w) same there)

module _ (a b : Told) where
  pub creating-finds : ForSome a.files (λ from. HasFreeNumber from → Passes a b (CreatesInProgress from)) → ForSome a.files (λ from. LeavesRoom 1 from → Passes a b (StillFinds [] from))
  creating-finds stops from there room =
      let finds : (image : Image) → CreatesInProgress from image → StillFinds [] from image = λ image c. making-finds from image c.number (record { small = let n = c.first.number in omega (arith, n.1); absent = c.first.free; same = c.same }) in
      passes_weaker (stops from there (free-with-room 1 from room)) finds finds

  module _ (w : ℕ) (kind : kind_of w ≡ external) (address : is_address w ≡ true) (first : ForSome a.files (λ image. IsFirstFree image (last_number image) (external_number w))) (made : ForSome b.files (λ image. Creates image (external_number w)))
      (steps : Applies a b (making (external_number w))) where
    added : (from mid : Image) → a.files ≡ Some from → b.files ≡ Some mid → LeavesRoom 1 from → AddsExternal from w mid
    added from mid there now room = creations-add w a b address kind (λ image is. subst HasSoundHeaders (some_inj (sym there ∙ is)) room.kept.sound) first made steps from there mid now

    module _ (c : Told) (sizing : ForSome b.files (λ mid. Passes b c (ChangesExternal (whole (named_file w)) (external_number w) mid))) where
      pub sizing-finds : ForSome a.files (λ from. HasFreeNumber from → Passes a b (CreatesInProgress from)) → ForSome a.files (λ from. LeavesRoom 1 from → Passes a c (StillFinds [] from))
      sizing-finds stops from there room =
          let one : Passes a b (StillFinds [] from) = creating-finds stops from there room in
          let mid = told-mid a b from there one in
          let adds = added from mid.0 there mid.1 room in
          let taken : KeepsWith [] (w ∷ []) from mid.0 = made-unlinked w from mid.0 adds in
          let finds : (image : Image) → StillFinds (w ∷ []) mid.0 image → StillFinds [] from image = λ image f state layout unlinked k. f state layout unlinked (taken state layout unlinked k) in
          passes_then one (passes_weaker (deletions-find w b c kind sizing mid.0 mid.1) finds finds)

      pub file-taken : (files : BlockFiles) (size : ℕ) → ForSome b.files (λ mid. ForSome c.files (λ image. image (named_file w) ≡ Some (resized size (bytes_of mid (named_file w))))) → ForSome a.files (λ from. LeavesRoom 1 from → ForSome c.files (Takes (w ∷ []) from))
      file-taken files size sized from there room image now =
          let mid : (m : Image) × (b.files ≡ Some m) = (after (making (external_number w)) from, steps.files ∙ ap (option_map (after (making (external_number w)))) there) in
          let adds = added from mid.0 there mid.1 room in
          let m = passes_end (sizing mid.0 mid.1) image now in
          let there_still : has_file image (named_file w) ≡ has_file mid.0 (named_file w) = ap (λ (o : Option (List ℕ)). is_some o) (sized mid.0 mid.1 image now) ∙ sym adds.there in
          let taken : KeepsWith [] (w ∷ []) from mid.0 = made-unlinked w from mid.0 adds in
          record {
            kept = λ state layout unlinked k. sized-keeps w mid.0 image adds.some kind m.outside there_still state layout unlinked (taken state layout unlinked k);
            session = session-then from mid.0 image adds.session (index-session mid.0 image m.index);
            counters = counters-then from mid.0 image
                (making-counters (external_number w) from mid.0 (made-outside files (external_number w) (kind_of w) a b first kind steps from there mid.0 mid.1))
                (index-counters mid.0 image (λ i. ap (λ (o : Option (List ℕ)). content (unwrap_or o []) i) m.index));
            stored = λ state layout unlinked k size v bytes among is.
                changed-stored (λ claim. same_claim claim (ExternalOf (external_number w))) (w ∷ []) mid.0 image (its-own w adds.some kind) (external-writes mid.0 image (external_number w) m.outside there_still) state layout unlinked (taken state layout unlinked k) size v bytes among
                (made-stored w from mid.0 adds state layout unlinked k size v bytes among is);
          }

-- the length that a file gets
pub sized-long : (w size : ℕ) (b c : Told) → (b.files ≡ None → c.files ≡ None) → ForSome b.files (λ mid. ForSome c.files (λ image. image (named_file w) ≡ Some (resized size (bytes_of mid (named_file w))))) → ForSome c.files (λ image. length_of image (named_file w) ≡ size)
sized-long w size b c silent sized image now =
    let mid = told-before b.files c.files image silent now in
    ap (λ (o : Option (List ℕ)). length (unwrap_or o [])) (sized mid.0 mid.1 image now) ∙ length-resized size (bytes_of mid.0 (named_file w))

-- an open folder is open once a file has another length
sized-open : (w : ℕ) (files : BlockFiles) (mid image : Image) → ChangesExternal (whole (named_file w)) (external_number w) mid image → IsOpen files mid → IsOpen files image
sized-open w files mid image m is_open = record {
  agrees = agrees_still (whole (named_file w)) mid image (headers_spared (whole (named_file w)) (external_spares (external_number w))) m.outside files (λ n. refl) is_open.agrees;
  whole_index = ap (λ (o : Option (List ℕ)). length (unwrap_or o [])) m.index ∙ is_open.whole_index;
}

pub file-open : (w : ℕ) (files : BlockFiles) (a b c : Told) → ForSome a.files (IsOpen files) → Applies a b (making (external_number w)) → ForSome b.files HasWholeIndex → ForSome b.files (λ mid. Passes b c (ChangesExternal (whole (named_file w)) (external_number w) mid)) → (b.files ≡ None → c.files ≡ None)
    → ForSome c.files (IsOpen files)
file-open w files a b c is_open steps complete sizing silent image now =
    let mid = told-before b.files c.files image silent now in
    sized-open w files mid.0 image (passes_end (sizing mid.0 mid.1) image now)
    (record { agrees = created_agrees w files a b steps (λ from there. (is_open from there).agrees) mid.0 mid.1; whole_index = complete mid.0 mid.1 })

-- ---- one after another

-- the old durable contents are recovered after words were taken too
pub then-finds : (before : List ℕ) (from mid image : Image) → KeepsWith [] before from mid → StillFinds [] mid image → StillFinds [] from image
then-finds before from mid image more finds state layout unlinked k = finds state layout (before ++ unlinked) (more state layout unlinked k)

-- a folder that had space for more has less, once a word is taken
pub less-room : (n : ℕ) (w : ℕ) (from mid : Image) → LeavesRoom (suc n) from → Takes (w ∷ []) from mid → LeavesRoom n mid
less-room n w from mid r taken = record { state = r.state; layout = r.layout; unlinked = w ∷ r.unlinked; kept = taken.kept r.state r.layout r.unlinked r.kept; few = r.few; room = let room = r.room in bound (length r.unlinked) room }
  where
    bound : (u : ℕ) → u + suc n ≤ 7 → suc u + n ≤ 7
    bound u room = omega (arith, room)

-- space for more is space for one
pub room-for-one : (n : ℕ) (image : Image) → LeavesRoom (suc n) image → LeavesRoom 1 image
room-for-one n image r = record { state = r.state; layout = r.layout; unlinked = r.unlinked; kept = r.kept; few = r.few; room = let room = r.room in bound (length r.unlinked) room }
  where
    bound : (u : ℕ) → u + suc n ≤ 7 → u + 1 ≤ 7
    bound u room = omega (arith, room)

-- an external file stores data of its size
pub stored-file : {E : Type 0} (r : Result ℕ E) (files : BlockFiles) (size : ℕ) → 0 < size → kind_for size ≡ external → IfOk r (λ w. kind_of w ≡ external) → IfOk r (λ w. IsTrue (is_address w)) → IfOk r (λ w. stores files size w ≡ true)
stored-file {E} (Ok w) files size some kind of address = stored_file w files size some kind of address
stored-file {E} (Err e) files size some kind of address = tt
