-- A new object of a cache, by what holds at each word while it is made.
use Rattle.std.proofs.Common.{◌≡◌, ℕ, true, List, sym}
use Rattle.std.specs.Prelude.{◌&&◌, ◌==◌}
use Rattle.std.specs.Option.{ForSome}
use Rattle.std.proofs.lemmas.Bool.{and_from, and_parts}
use Rattle.spec_image.specs.Image.{Image}
use Rattle.spec_image.specs.Told.{Passes, Told}
use Rattle.spec_image.proofs.Runs.{passes_weaker}
use Rattle.blk_model.specs.Holding.{rest}
use Rattle.blk_model.specs.State.{State}
use Rattle.spec_format.specs.Address.{blocks_256, is_address, kind_of, rankings}
use Rattle.blk_disk.specs.declared.tables.BlockFiles.{BlockFiles}
use Rattle.blk_disk.specs.Tables.{names_among, stands_among}
use Rattle.blk_alloc.specs.Extending.{KeepsStanding}
use Rattle.blk_handles.specs.Bindings.{Bindings}
use Rattle.law_state.specs.Changes.{Finds}
use Rattle.blk_object.specs.Making.{CanHaveNew, FindsWhileMade, HasRoomForNew}
use Rattle.blk_cache.specs.BoundNames.{AreBoundAmong}
use Rattle.blk_cache.specs.declared.cache.Cache.{Cache}
use Rattle.blk_cache.specs.CacheKeeping.{HoldsState}
use Rattle.blk_cache.specs.Creating.{KeepsWithRoom}

-- what was valid among the block files by its kind is so among those that keep it
still-among : (old new : BlockFiles) → KeepsStanding old new → (kind w : ℕ) → names_among old kind w ≡ true → names_among new kind w ≡ true
unfolding names_among
still-among old new keeps kind w is =
    let outer = and_parts (is_address w) ((kind_of w == kind) && stands_among old w) is in
    let inner = and_parts (kind_of w == kind) (stands_among old w) outer.1 in
    and_from (is_address w) ((kind_of w == kind) && stands_among new w) outer.0 (and_from (kind_of w == kind) (stands_among new w) inner.0 (keeps w inner.1))

-- and so does what names are bound to
pub bound-stays : (old new : BlockFiles) (bindings : Bindings) → KeepsStanding old new → AreBoundAmong old bindings → AreBoundAmong new bindings
bound-stays old new bindings keeps stand name binding is =
    let here = stand name binding is in
    (still-among old new keeps rankings binding.node here.0, still-among old new keeps blocks_256 binding.entry here.1)

module _ (cache : Cache) (old now : Told) (handle : ℕ) (key : List ℕ) where
  has-room : (state : State) (from : Image) → HoldsState cache state from → CanHaveNew state handle key → HasRoomForNew key cache.mark from
  has-room state from k can = record { state = state; layout = k.layout; handle = handle; kept = k.kept; session = sym k.mark; can = can }

  pub new-room : ForSome old.files (KeepsWithRoom cache handle key) → ForSome old.files (HasRoomForNew key cache.mark)
  new-room any from there = let one = any from there in has-room one.state from one.kept one.can

  pub new-stops : ForSome old.files (λ from. HasRoomForNew key cache.mark from → Passes old now (FindsWhileMade key from))
      → ForSome old.files (λ from. (state : State) → HoldsState cache state from → CanHaveNew state handle key → Passes old now (Finds (rest state)))
  new-stops stops from there state k can =
      let finds : (i : Image) → FindsWhileMade key from i → Finds (rest state) i = λ i while. while state k.layout handle k.kept can in
      passes_weaker (stops from there (has-room state from k can)) finds finds
