-- The places of a stream that is written: what a new one is to the state that was kept, while it is taken and filled, and an old one that is freed.
use Rattle.std.proofs.Common.{◌≡◌, ◌≢◌, inl, inr, ℕ, [], ◌∷◌, Bool, true, false, if◌then◌else◌, None, Some, refl, sym, ◌∙◌, ap, subst, arith}
use Rattle.std.specs.Prelude.{◌==◌, is_some}
use Rattle.std.proofs.lemmas.Bool.{or_left}
use Rattle.std.proofs.lemmas.Bool.Decides.{nat_tests}
use Rattle.spec_image.specs.Footprint.{Footprint, SameOutside, range, whole}
use Rattle.spec_image.specs.Image.{Block, External, Image, Index, byte, has_file}
use Rattle.spec_format.specs.Address.{byte_size, external, external_number, file_selector, is_block_kind, kind_of, place}
use Rattle.spec_format.specs.BlockFiles.{HasSoundHeaders, stands_in, stands_in_blocks}
use Rattle.spec_format.specs.Claims.{Claim, ExternalOf, claims_of, claims_of_all, has_claim, same_claim}
use Rattle.spec_format.specs.Headers.{crash_of, this_id_of}
use Rattle.spec_format.specs.Standing.{stands}
use Rattle.blk_disk.specs.declared.tables.BlockFiles.{BlockFiles}
use Rattle.blk_disk.specs.Tables.{Agrees}
use Rattle.blk_disk.proofs.Ranges.{stands_agree}
use Rattle.blk_alloc.specs.Changes.{map_of}
use Rattle.law_folder.proofs.claims.ClaimLists.{claim-append}
use Rattle.spec_folder.specs.View.{store_of}
use Rattle.blk_stream.specs.Inside.{data_of}
use Rattle.blk_stream.specs.Stages.{TakesBlocks, TakesFile, TakesInProgress, TakesPlace}
use Rattle.blk_stream.proofs.InsideSteps.{data_blocks, data_external}
use Rattle.law_state.specs.Changes.{AddsAllocation, AddsExternal, ChangesOnly, KeepsWith, SameCounters, SameSession, StillFinds}
use Rattle.law_state.specs.Keeping.{KeepsUncounted}
use Rattle.law_state.proofs.Allocating.{allocated-unlinked}
use Rattle.law_state.proofs.Externals.{deleted-removed, deleting-finds, made-added, making-finds}
use Rattle.law_state.proofs.Free.{then-found, unlinked-change}
use Rattle.law_state.proofs.Freed.{freed-removed}
use Rattle.law_state.proofs.MakingFiles.{made-unlinked}
use Rattle.law_state.proofs.Writes.{block-writes, external-writes, growth-finds}
use Rattle.blk_object.proofs.KeptAllocating.{allocations-add}
use Rattle.blk_object.proofs.KeptFreeing.{map-only}
use Rattle.blk_object.specs.Making.{KeepsStored, Takes}
use Rattle.blk_object.specs.WritingPlaces.{FilledPlacesAreUnlinked, FillingFindsTheSame, FreedPlacesAreRemoved}
use Rattle.blk_object.proofs.MakingStored.{allocating-index, changed-stored, counters-then, growth-stored, index-counters, made-stored, making-counters}
use Rattle.blk_object.proofs.MakingTaken.{its-own, session-then}
use Rattle.blk_object.proofs.MakingWritten.{some-address}

-- ---- counters and sessions

-- the same index has the same session
index-session : (from image : Image) → ((i : ℕ) → byte image Index i ≡ byte from Index i) → SameSession from image
index-session from image same = record { crash = ap crash_of all; id = ap this_id_of all }
  where
    all : byte image Index ≡ byte from Index
    all j i = same i j

-- ---- a place is taken

taking-finds : (from image : Image) → TakesInProgress from image → StillFinds [] from image
taking-finds from image (inl whole) = growth-finds [] from image whole.grown whole.headers
taking-finds from image (inr c) = making-finds from image c.number (record { small = let n = c.first.number in omega (arith, n.1); absent = c.first.free; same = c.same })

module _ (files kept : BlockFiles) (w : ℕ) (from taken : Image) (well : HasSoundHeaders from) (agreed : Agrees files from) where
  blocks-added : TakesBlocks files kept w from taken → AddsAllocation from w taken
  blocks-added t = allocations-add files kept (kind_of w) w from taken well (record { block_kind = t.block_kind; of_kind = refl; address = t.address; agreed = agreed; agrees = t.agrees; stands = t.stands; long = t.long; links = t.links; allocates = t.allocates; within = t.within; stays = t.stays })

  file-there : TakesFile w from taken → has_file taken (External (external_number w)) ≡ true
  file-there t = ap is_some t.made.file

  file-stands : TakesFile w from taken → stands_in taken w ≡ true
  unfolding stands
  file-stands t =
      let kind = t.external_kind in
      let address = t.address in
      let e : (kind_of w == external) ≡ true = grind (arith, nat_tests) in
      rw (address, e) (file-there t)

  file-added : TakesFile w from taken → AddsExternal from w taken
  file-added t = made-added from taken w well t.external_kind (record { small = let n = t.first.number in omega (arith, n.1); absent = t.first.free; same = t.same }) (file-there t) (file-stands t)

  taken-unlinked : TakesPlace files kept w from taken → KeepsWith [] (w ∷ []) from taken
  taken-unlinked (inl t) = allocated-unlinked w from taken (blocks-added t)
  taken-unlinked (inr t) = made-unlinked w from taken (file-added t)

  taken-session : TakesPlace files kept w from taken → SameSession from taken
  taken-session (inl t) = (blocks-added t).session
  taken-session (inr t) = (file-added t).session

  taken-counters : TakesPlace files kept w from taken → SameCounters from taken
  taken-counters (inl t) = index-counters from taken (allocating-index files (kind_of w) (file_selector w) from taken t.within)
  taken-counters (inr t) = making-counters (external_number w) from taken t.same

  taken-stored : TakesPlace files kept w from taken → KeepsStored from taken
  taken-stored (inl t) = growth-stored from taken (blocks-added t).grown
  taken-stored (inr t) = made-stored w from taken (file-added t)

-- ---- and filled

-- the blocks of a word are its own
blocks-own : (w : ℕ) (claim : Claim) → has_claim (claims_of w) claim ≡ true → has_claim (claims_of_all (w ∷ [])) claim ≡ true
blocks-own w claim has = claim-append (claims_of w) [] claim ∙ or_left (has_claim (claims_of w) claim) _ has

-- the data of a place isn't in the index
off-index : (w i : ℕ) → (data_of w).bytes Index i ≡ false
unfolding data_of
off-index w i = by_kind (kind_of w == external)
  where
    by_kind : (k : Bool) → (if k then whole (External (external_number w)) else range (Block (file_selector w)) (place w) (byte_size w)).bytes Index i ≡ false
    by_kind true = refl
    by_kind false = refl

data-index : (w : ℕ) (taken image : Image) → SameOutside (data_of w) taken image → (i : ℕ) → byte image Index i ≡ byte taken Index i
data-index w taken image same i = same.bytes Index i (off-index w i)

module _ (files kept : BlockFiles) (w : ℕ) (from taken : Image) where
  block-kind : TakesBlocks files kept w from taken → kind_of w ≢ external
  block-kind t e = let z : is_block_kind external ≡ true = subst (λ (k : ℕ). is_block_kind k ≡ true) e t.block_kind in (let y : false ≡ true = z in cc)

  blocks-stand : TakesBlocks files kept w from taken → stands_in taken w ≡ true
  unfolding stands
  blocks-stand t =
      let no_external = block-kind t in
      let e : (kind_of w == external) ≡ false = grind (arith, nat_tests) in
      let address = t.address in
      let s : stands_in_blocks taken w ≡ true = sym (stands_agree kept taken w t.agrees) ∙ t.stands in
      rw (address, e) s

  module _ (image : Image) (same : SameOutside (data_of w) taken image) where
    -- blocks get their bytes
    blocks-change : TakesBlocks files kept w from taken → ChangesOnly (has_claim (claims_of w)) taken image
    blocks-change t = block-writes taken image w (place w) (byte_size w) (blocks-stand t) (block-kind t) (omega arith) (omega arith) (subst (λ (F : Footprint). SameOutside F taken image) (data_blocks w (block-kind t)) same)

    blocks-filled : TakesBlocks files kept w from taken → KeepsWith (w ∷ []) (w ∷ []) taken image
    blocks-filled t = unlinked-change (has_claim (claims_of w)) (w ∷ []) taken image (blocks-own w) (blocks-change t)

    file-same : (t : TakesFile w from taken) → SameOutside (whole (External (external_number w))) taken image
    file-same t = subst (λ (F : Footprint). SameOutside F taken image) (data_external w t.external_kind) same

    filling-word : TakesPlace files kept w from taken → StillFinds (w ∷ []) taken image
    filling-word (inl t) = then-found (w ∷ []) (w ∷ []) taken image (blocks-filled t)
    filling-word (inr t) = deleting-finds taken image w t.external_kind (file-same t)

    filled-keeps : (kind_of w ≡ external → has_file image (External (external_number w)) ≡ true) → TakesPlace files kept w from taken → KeepsWith (w ∷ []) (w ∷ []) taken image
    filled-keeps there (inl t) = blocks-filled t
    filled-keeps there (inr t) =
        let some : (w == 0) ≡ false = some-address w t.address in
        unlinked-change _ (w ∷ []) taken image (its-own w some t.external_kind) (external-writes taken image (external_number w) (file-same t) (there t.external_kind ∙ sym (ap is_some t.made.file)))

    filled-stored : (kind_of w ≡ external → has_file image (External (external_number w)) ≡ true) → HasSoundHeaders from → Agrees files from → TakesPlace files kept w from taken → KeepsStored from image
    filled-stored there well agreed takes state layout unlinked k size v bytes among is = by takes refl where
      kept_so : KeepsUncounted state layout (w ∷ unlinked) taken
      kept_so = taken-unlinked files kept w from taken well agreed takes state layout unlinked k

      before : (store_of taken).stored size v ≡ Some bytes
      before = taken-stored files kept w from taken well agreed takes state layout unlinked k size v bytes among is

      by : (t : TakesPlace files kept w from taken) → t ≡ takes → (store_of image).stored size v ≡ Some bytes
      by (inl t) e = changed-stored (has_claim (claims_of w)) (w ∷ []) taken image (blocks-own w) (blocks-change t) state layout unlinked kept_so size v bytes among before
      by (inr t) e =
          changed-stored (λ claim. same_claim claim (ExternalOf (external_number w))) (w ∷ []) taken image (its-own w (some-address w t.address) t.external_kind)
          (external-writes taken image (external_number w) (file-same t) (there t.external_kind ∙ sym (ap is_some t.made.file))) state layout unlinked kept_so size v bytes among before

-- at each word of it the old durable contents are recovered
pub filling-finds : FillingFindsTheSame
filling-finds files kept from image agreed (inl takes) = taking-finds from image takes
filling-finds files kept from image agreed (inr fills) = λ state layout unlinked k.
    let f = fills.1 in
    let w : ℕ = fills.0 in
    filling-word files kept w from f.taken image f.same f.takes state layout unlinked (taken-unlinked files kept w from f.taken k.sound agreed f.takes state layout unlinked k)

nothing-taken-here : (from : Image) → Takes [] from from
nothing-taken-here from = record { kept = λ state layout unlinked k. k; session = record { crash = refl; id = refl }; counters = refl; stored = λ state layout unlinked k size w bytes among there. there }

-- and in the end its word is unlinked
pub filled-unlinked : FilledPlacesAreUnlinked
filled-unlinked files kept None from image well agreed is =
    subst (λ (i : Image). Takes [] from i × SameCounters from i) (sym is) (nothing-taken-here from, refl)
filled-unlinked files kept (Some w) from image well agreed filled =
    let f = filled.0 in
    let same = data-index w f.taken image f.same in
    let counted : SameCounters from image = counters-then from f.taken image (taken-counters files kept w from f.taken well agreed f.takes) (index-counters f.taken image same) in (
      record {
        kept = λ state layout unlinked k. filled-keeps files kept w from f.taken image f.same filled.1 f.takes state layout unlinked (taken-unlinked files kept w from f.taken well agreed f.takes state layout unlinked k);
        session = session-then from f.taken image (taken-session files kept w from f.taken well agreed f.takes) (index-session f.taken image same);
        counters = counted;
        stored = filled-stored files kept w from f.taken image f.same filled.1 well agreed f.takes;
      },
      counted,
    )

-- ---- an old place

pub freed-removes : FreedPlacesAreRemoved
freed-removes w from image well there (inl b) = record {
  removed = inl (freed-removed from image w (record {
    block_kind = b.block_kind;
    footprint = map_of (file_selector w);
    of_map = map-only (file_selector w);
    same = b.freed.same;
    allocations = b.freed.allocations;
    empty = b.freed.empty;
    updating = b.freed.updating;
    elsewhere = b.freed.elsewhere;
    stays = b.stays;
  }));
  index = λ i. b.freed.same.bytes Index i refl;
}
freed-removes w from image well there (inr d) = record { removed = inr (deleted-removed from image w well d.external_kind there d.same d.gone); index = λ i. d.same.bytes Index i refl }
