-- What a cache keeps once an eviction unit is out of its folder.
use Rattle.std.proofs.Common.{◌≡◌, ◌-◌, [], ◌∷◌, ap, ◌∙◌, arith}
use Rattle.spec_image.specs.Image.{Image}
use Rattle.blk_model.specs.Room.{without}
use Rattle.blk_model.specs.State.{State}
use Rattle.spec_folder.specs.Layout.{Layout}
use Rattle.blk_disk.specs.Tables.{Agrees}
use Rattle.blk_cache.specs.declared.cache.Cache.{Cache}
use Rattle.blk_sparse.specs.declared.dropping.Gone.{Gone}
use Rattle.blk_evict.specs.declared.list_places.Unpinned.{Unpinned}
use Rattle.blk_cache.specs.CacheKeeping.{HoldsState}
use Rattle.blk_cache.specs.Evicting.{KeepsInPlaces, OnlyItemsChange}
use Rattle.blk_evict.specs.EvictingGroups.{IsGroupOut}
use Rattle.blk_evict.specs.RoomLaws.{group_for}
use Rattle.blk_evict.specs.ListPlaces.{MayGoAt}
use Rattle.blk_evict.proofs.RoomCounts.{counted-less}
use Rattle.blk_cache.proofs.RoomKept.{evicted-kept}

pub out-kept : (old new : Cache) (state : State) (from image : Image) (k : HoldsState old state from) (found : Unpinned) (at : MayGoAt state k.layout found) (gone : Gone) → IsGroupOut state k.layout (group_for at.item at.front) gone from image
    → new.items ≡ old.items - gone.items → new.bytes ≡ old.bytes - gone.bytes → OnlyItemsChange old new → Agrees new.files image
    → KeepsInPlaces new (without (group_for at.item at.front ∷ []) state) k.layout image
out-kept old new state from image k found at gone o items bytes only agrees =
    let less = counted-less state at.front at.item at.rest k.kept.entries.valid at.goes in
    let fewer_items = less.items_left in
    let fewer_bytes = less.bytes_left in
    let items_were = k.items_are in
    let bytes_were = k.bytes_are in
    let told_items = o.told.items in
    let told_bytes = o.told.bytes in
    let kept = evicted-kept state at.front at.item at.rest o.left old new from image k at.goes (record {
      kept = o.kept;
      stay = o.stay;
      fewer = record {
        items_less = omega (arith, fewer_items, items_were, told_items, items);
        bytes_less = omega (arith, fewer_bytes, bytes_were, told_bytes, bytes);
        limits = only.limits;
        open_bytes = only.open_bytes;
        handles = only.handles;
        mark = only.mark;
      };
      files = agrees;
      session = o.session.id;
    }) in
    record { kept = kept.kept; places = ap (λ (l : Layout). l.place) kept.layout_is ∙ o.places }
