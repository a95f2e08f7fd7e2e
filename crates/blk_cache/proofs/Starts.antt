-- A cache that was just started keeps the state of the recovered contents.
use Rattle.std.proofs.Common.{◌≡◌, ℕ, List, [], length, sum_by, Option, Some, None, refl, sym, ap, subst, ◌∙◌}
use Rattle.spec_image.specs.Image.{Image}
use Rattle.blk_model.specs.Bounds.{bounds_of}
use Rattle.blk_model.specs.Holding.{open_state}
use Rattle.blk_model.specs.Room.{own_charge}
use Rattle.blk_model.specs.State.{Bounds, Object, State, named_by}
use Rattle.spec_folder.specs.Found.{found}
use Rattle.spec_folder.specs.Layout.{Layout}
use Rattle.law_state.specs.Keeping.{KeepsSome}
use Rattle.blk_disk.specs.declared.tables.BlockFiles.{BlockFiles}
use Rattle.blk_disk.specs.Tables.{Agrees}
use Rattle.blk_handles.specs.Bindings.{Binding, Bindings, all_free, binding_of, open_count}
use Rattle.blk_cache.specs.declared.cache.Cache.{Cache}
use Rattle.blk_cache.specs.declared.opening.Opened.{Opened}
use Rattle.blk_cache.specs.BoundNames.{AreAllFree, AreBoundAmong}
use Rattle.blk_cache.specs.CacheKeeping.{IsBoundAs, HoldsState, named_objects}
use Rattle.blk_cache.specs.Opened.{IsOpenedAs}
use Rattle.blk_cache.proofs.Unnamed.{few-unnamed, none-bound, none-named, none-open, opened-names, opened-unnamed}

pub all-free : (bindings : Bindings) → bindings ≡ all_free → AreAllFree bindings
all-free bindings is name = ap (λ (bs : Bindings). binding_of bs name) is ∙ none-bound name

-- what is bound to no name is valid anywhere
pub none-stand : (files : BlockFiles) (bindings : Bindings) → bindings ≡ all_free → AreBoundAmong files bindings
none-stand files bindings is name binding here = absurd (no (sym (all-free bindings is name) ∙ here)) where
  no : ◌≡◌ {A = Option Binding} None (Some binding) → ⊥
  no e = cc

opened-limits : (from : Image) (bounds : Bounds) (state : State) → state ≡ open_state (found from) bounds → state.limits ≡ bounds
unfolding open_state
opened-limits from bounds state is = ap (λ (s : State). s.limits) is

unbound : (state : State) (layout : Layout) (o : Option ℕ) (b : Option Binding) → o ≡ None → b ≡ None → IsBoundAs state layout o b
unbound state layout None None is none = tt
unbound state layout None (Some b) is none = cc
unbound state layout (Some number) b is none = cc

pub started : (cache : Cache) (opened : Opened) (from image : Image) → cache.handles ≡ all_free → cache.items ≡ opened.items → cache.bytes ≡ opened.bytes → cache.open_bytes ≡ 0 → cache.files ≡ opened.files → cache.mark ≡ opened.mark → IsOpenedAs from opened image
    → HoldsState cache (open_state (found from) (bounds_of cache.limits)) image
started cache opened from image free i b o f m left =
    let bounds : Bounds = bounds_of cache.limits in
    let state : State = open_state (found from) bounds in
    let k : KeepsSome state image = left.keeps bounds in
    let none : named_objects state ≡ [] = none-named state (opened-unnamed (found from) bounds) in
    record {
      layout = k.0;
      kept = k.1;
      limits = opened-limits from bounds state refl;
      items_are = i ∙ left.items_are bounds;
      bytes_are = b ∙ left.bytes_are bounds;
      few = few-unnamed state k.0 [] image k.1.entries (opened-unnamed (found from) bounds);
      open_objects = ap open_count free ∙ none-open ∙ sym (ap length none);
      open_bytes = o ∙ sym (ap (λ (l : List Object). sum_by own_charge l) none);
      names = λ name. unbound state k.0 (named_by state name) (binding_of cache.handles name) (opened-names (found from) bounds name) (all-free cache.handles free name);
      files = subst (λ (fs : BlockFiles). Agrees fs image) (sym f) left.files;
      mark = m ∙ left.mark;
    }
