-- A SparseWrite whole: why it is refused, what it evicts, and how its end follows on that.
use Rattle.std.proofs.Common.{◌≡◌, ℕ, ◌<◌, ◌≤◌, ◌^◌, Bool, true, false, List, length, Some, None, refl, sym, ap, subst, ◌∙◌, arith}
use Rattle.std.specs.Prelude.{IsSome}
use Rattle.std.specs.Option.{ForSome}
use Rattle.spec_image.specs.Image.{Image}
use Rattle.spec_image.specs.Told.{Told}
use Rattle.blk_model.specs.Items.{Item}
use Rattle.blk_model.specs.Refusals.{covered, evicted, is_full, refused}
use Rattle.blk_model.specs.Request.{to_sparse_write}
use Rattle.blk_model.specs.Room.{Group, room}
use Rattle.blk_model.specs.State.{State}
use Rattle.blk_model.specs.declared.Refusal.{Refusal}
use Rattle.blk_model.specs.declared.Refusal.TheVariants as refusal
use Rattle.law_state.specs.Commands.{ForKept}
use Rattle.law_state.specs.CommandStates.{with_room}
use Rattle.blk_sparse.specs.declared.storing.Target.{Target}
use Rattle.spec_folder.specs.Layout.{Layout}
use Rattle.blk_cache.specs.declared.cache.Cache.{Cache}
use Rattle.blk_disk.specs.declared.tables.BlockFiles.{BlockFiles}
use Rattle.blk_handles.specs.Bindings.{Bindings, binding_of}
use Rattle.blk_cache.specs.declared.sparse_rise.Rise.{Rise}
use Rattle.blk_cache.specs.declared.sparse_target.AskedTarget.{AskedTarget}
use Rattle.blk_cache.specs.declared.sparse_target.AskedTarget.TheVariants as target
use Rattle.blk_cache.specs.CacheKeeping.{HoldsState}
use Rattle.blk_cache.specs.CommandClauses.{KeepsAny}
use Rattle.blk_cache.specs.Covering.{AreCovered, KeepsCovered}
use Rattle.blk_cache.specs.Listing.{OnlyRoomChanges}
use Rattle.blk_cache.specs.MakingRoom.{ForRoom}
use Rattle.blk_cache.specs.SparseTargets.{AsksToStore, FindsTarget, HasRoomToStore, IsAmong, IsAskedTarget, IsRise, IsTargetNamed, IsToStore, NamesTarget}
use Rattle.blk_cache.specs.SparseAsking.{IsRangeInside, early_sparse_refusal}
use Rattle.blk_cache.specs.SparseWriting.{IsReadyToStore, IsTargetOf}
use Rattle.blk_cache.proofs.Replies.{kept-still}
use Rattle.blk_cache.proofs.SparseAsks.{goes-bound}
use Rattle.blk_cache.proofs.SparseLeft.{after, fits-after, is-after, names-after, raised-after}
use Rattle.blk_cache.proofs.SparseRoom.{groups-are, has-room, not-refused, refused-full}

-- ---- a cache of which only the buffers for names change

pub room-back : (old new : Cache) → OnlyRoomChanges old new → OnlyRoomChanges new old
room-back old new o = record { limits = sym o.limits; items = sym o.items; bytes = sym o.bytes; open_bytes = sym o.open_bytes; handles = sym o.handles; files = sym o.files; mark = sym o.mark; notes = sym o.notes }

pub room-then : (old mid new : Cache) → OnlyRoomChanges old mid → OnlyRoomChanges mid new → OnlyRoomChanges old new
room-then old mid new a b = record { limits = b.limits ∙ a.limits; items = b.items ∙ a.items; bytes = b.bytes ∙ a.bytes; open_bytes = b.open_bytes ∙ a.open_bytes; handles = b.handles ∙ a.handles; files = b.files ∙ a.files; mark = b.mark ∙ a.mark; notes = b.notes ∙ a.notes }

module _ (old new : Cache) (others : OnlyRoomChanges old new) (told : Told) where
  -- what holds of each state that it keeps held before
  pub for-kept : (P : State → Type 0) → ForKept (HoldsState new) told P → ForKept (HoldsState old) told P
  for-kept P holds image there state k = holds image there state (kept-still old new state image others k)

  pub any-kept : ForSome told.files (KeepsAny old) → ForSome told.files (KeepsAny new)
  any-kept any image there = let k = any image there in (k.0, kept-still old new k.0 image others k.1)

  -- and it keeps them by the same layouts
  pub for-layouts : (P : State → Layout → Type 0) → ForSome told.files (λ image. (state : State) (k : HoldsState old state image) → P state k.layout) → ForSome told.files (λ image. (state : State) (k : HoldsState new state image) → P state k.layout)
  unfolding kept-still
  for-layouts P holds image there state k = holds image there state (kept-still new old state image (room-back old new others) k)

-- ---- lack of space

module _ (cache : Cache) (told : Told) (moment handle offset : ℕ) (bytes : List ℕ) (found : Target) (rise : Rise) (asks : AsksToStore cache told moment handle offset bytes found rise) (result : Bool)
    (full : (state : State) (image : Image) (k : HoldsState cache state image) (covers : List Item) → AreCovered state k.layout covers rise.parts → result ≡ is_full (room state covers rise.bytes rise.items)) where
  -- it is refused where there is no space
  pub full-refused : result ≡ true → ForKept (HoldsState cache) told (λ state. refused moment (to_sparse_write handle offset bytes) state ≡ Some refusal.Full)
  full-refused over image there state k =
      let a : IsToStore state k.layout moment handle offset bytes found rise = asks image there state k in
      refused-full state moment handle offset bytes rise.bytes rise.items a.rises.raised k.layout found a.named (sym (full state image k (covered (to_sparse_write handle offset bytes) state) a.rises.parts) ∙ over)

  -- and not where there is
  pub free-passes : result ≡ false → HasRoomToStore cache told moment handle offset bytes found rise
  free-passes free image there state k =
      let a : IsToStore state k.layout moment handle offset bytes found rise = asks image there state k in
      (a, not-refused state moment handle offset bytes rise.bytes rise.items a.rises.raised k.layout found a.named (sym (full state image k (covered (to_sparse_write handle offset bytes) state) a.rises.parts) ∙ free))

-- ---- once there is space

module _ (cache : Cache) (told : Told) (moment handle offset : ℕ) (bytes : List ℕ) (found : Target) (rise : Rise) (has : HasRoomToStore cache told moment handle offset bytes found rise) where
  pub goes-on : ForKept (HoldsState cache) told (λ state. refused moment (to_sparse_write handle offset bytes) state ≡ None)
  goes-on image there state k = (has image there state k).1

  -- what is evicted beside the parts in range is what the SparseWrite evicts
  pub sparse-groups : (P : State → List Group → Type 0) → ForRoom cache rise.parts told rise.bytes rise.items P → ForKept (HoldsState cache) told (λ state. P state (evicted moment (to_sparse_write handle offset bytes) state))
  sparse-groups P holds image there state k =
      let h = has image there state k in
      subst (P state) (sym (groups-are state moment handle offset bytes rise.bytes rise.items h.0.rises.raised))
      (holds image there state k (covered (to_sparse_write handle offset bytes) state) h.0.rises.parts (has-room state moment handle offset bytes rise.bytes rise.items h.0.rises.raised h.1))

  -- where the cache keeps a state, it keeps one with the parts that were measured in range
  pub keeps-covered : ForSome told.files (KeepsAny cache) → ForSome told.files (KeepsCovered cache rise.parts)
  keeps-covered any image there =
      let k = any image there in
      record { state = k.0; kept = k.1; covered = covered (to_sparse_write handle offset bytes) k.0; are = (has image there k.0 k.1).0.rises.parts }

  -- and then it is to be ended
  module _ (mid : Told) (new : Cache) (some : 1 ≤ length bytes) (few : length bytes ≤ 1048576) (light : cache.bytes < 2 ^ 64)
      (made : ForKept (HoldsState cache) told (λ state. ForSome mid.files (HoldsState new (with_room state moment (to_sparse_write handle offset bytes))))) where
    pub sparse-ready : (image from : Image) (state : State) → told.files ≡ Some image → mid.files ≡ Some from → HoldsState cache state image → IsReadyToStore new state moment handle offset bytes found rise.bytes rise.items from
    sparse-ready image from state there here k =
        let h = has image there state k in
        let valid = k.kept.entries.valid in
        let its = h.0.named.its in
        let is : IsTargetOf its.object found = record { of_plain = h.0.named.may.of_plain; of_sparse = h.0.named.may.of_sparse } in
        let raised = h.0.rises.raised in
        let fits = fits-after state valid moment handle offset bytes some few its.number its.object its.names its.live found is h.0.named.signed rise.bytes rise.items raised h.1
        cache.limits.max_bytes cache.limits.max_items k.limits cache.limits.few_bytes cache.limits.few_items (let e = k.bytes_are in omega (arith, e, light)) k.few in
        let after-raised = raised-after state valid moment handle offset bytes some few its.number its.object its.names its.live found is h.0.named.signed rise.bytes rise.items raised in
        record {
          valid = valid;
          passes = h.1;
          kept = made image there state k from here;
          number = its.number;
          object = after state valid moment handle offset bytes some few its.number its.object its.names its.live found is h.0.named.signed rise.bytes rise.items raised;
          names = names-after state valid moment handle offset bytes some few its.number its.object its.names its.live found is h.0.named.signed rise.bytes rise.items raised;
          live = its.live;
          is = is-after state valid moment handle offset bytes some few its.number its.object its.names its.live found is h.0.named.signed rise.bytes rise.items raised;
          signed = h.0.named.signed;
          total_more = after-raised.total_more;
          items_more = after-raised.items_more;
          few = fits.few_after;
          within = fits.within;
        }

-- ---- what is asked, on the same folder

module _ (cache : Cache) (old mid : Told) (stays : mid ≡ old) (moment handle offset : ℕ) (bytes : List ℕ) (given : AskedTarget) where
  -- an object that is found is named
  pub found-named : ForSome old.files (λ image. (state : State) (k : HoldsState cache state image) → IsAskedTarget state k.layout moment handle offset bytes given) → (found : Target) → given ≡ target.Found found → NamesTarget cache mid moment handle offset (length bytes) found
  found-named asked found is image there state k = subst (IsAskedTarget state k.layout moment handle offset bytes) is (asked image (ap (λ (t : Told). t.files) (sym stays) ∙ there) state k)

  -- and a refusal is the model's
  pub asked-refused : ForSome old.files (λ image. (state : State) (k : HoldsState cache state image) → IsAskedTarget state k.layout moment handle offset bytes given) → (why : Refusal) → given ≡ target.Refused why → ForKept (HoldsState cache) old (λ state. refused moment (to_sparse_write handle offset bytes) state ≡ Some why)
  asked-refused asked why is image there state k = subst (IsAskedTarget state k.layout moment handle offset bytes) is (asked image there state k)

module _ (files : BlockFiles) (bindings : Bindings) (handle offset count : ℕ) (given : AskedTarget) (finds : FindsTarget files (early_sparse_refusal bindings handle offset count) offset count given) (found : Target) (is : given ≡ target.Found found) where
  pub found-stands : IsAmong files found × IsRangeInside (early_sparse_refusal bindings handle offset count) offset count
  found-stands = subst (FindsTarget files (early_sparse_refusal bindings handle offset count) offset count) is finds

  -- its name is bound
  pub found-bound : IsSome (binding_of bindings handle)
  found-bound = subst IsSome (sym (goes-bound bindings handle offset count found-stands.1.passes).1) refl

-- ---- what is measured, on the same folder

-- whatever state is kept then, it is asked to store what was measured
pub asks-then : (old new : Cache) → OnlyRoomChanges old new → (told now : Told) → now ≡ told → (moment handle offset : ℕ) (bytes : List ℕ) (found : Target) (rise : Rise) → NamesTarget old told moment handle offset (length bytes) found
    → ForSome told.files (λ image. (state : State) (k : HoldsState old state image) (moment handle : ℕ) (bs : List ℕ) → length bs ≡ length bytes → IsTargetNamed state k.layout moment handle offset (length bytes) found → IsRise state k.layout moment handle offset bs rise)
    → AsksToStore new now moment handle offset bytes found rise
asks-then old new others told now stays moment handle offset bytes found rise names rises =
    subst (λ (t : Told). AsksToStore new t moment handle offset bytes found rise) (sym stays)
    (for-layouts old new others told (λ state layout. IsToStore state layout moment handle offset bytes found rise)
    (λ image there state k. record { named = names image there state k; rises = rises image there state k moment handle bytes refl (names image there state k) }))
