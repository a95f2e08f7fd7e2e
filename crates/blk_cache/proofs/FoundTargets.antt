-- What a search for a key finds, as an object that is to be doomed.
use Rattle.std.proofs.Common.{◌≡◌, ℕ, List, refl, sym, ap, subst, ◌∙◌, true, false, Some}
use Rattle.spec_image.specs.Image.{Image}
use Rattle.blk_model.specs.Items.{main}
use Rattle.blk_model.specs.State.{Object, State, is_named, object_at}
use Rattle.blk_model.proofs.StopRests.{owner_live}
use Rattle.spec_folder.specs.Layout.{Layout}
use Rattle.spec_folder.specs.Searches.{IsOfLive}
use Rattle.spec_folder.specs.View.{RecordFields, entry_at, view_of}
use Rattle.law_folder.proofs.chains.ChainWords.{shown-fields}
use Rattle.law_folder.proofs.chains.Searches.{found-live}
use Rattle.law_folder.proofs.claims.Owner.{IsOwned, its-key, owned}
use Rattle.blk_chain.specs.Finding.{IsFound}
use Rattle.law_state.specs.Keeping.{KeepsUncounted}
use Rattle.blk_object.specs.Owning.{LoadsWith}
use Rattle.blk_object.specs.RemovingFound.{LiesAsFound}
use Rattle.blk_object.proofs.FoundEntries.{found-lies}
use Rattle.blk_object.proofs.OwnedPlaces.{kept-load}
use Rattle.blk_cache.specs.declared.dooming_objects.Target.{Target}
use Rattle.blk_cache.specs.DoomingObjects.{IsTargetAt, LiesAsTarget}
use Rattle.blk_evict.specs.EvictingGroups.{kind_said}
use Rattle.blk_evict.specs.Looking.{charge_at}
use Rattle.blk_evict.proofs.GroupsOut.{kind-there}
use Rattle.blk_evict.proofs.Looks.{chained-there, loaded-charge}

module _ (state : State) (layout : Layout) (unlinked : List ℕ) (image : Image) (k : KeepsUncounted state layout unlinked image) (key : List ℕ) (target : Target) (found : IsFound key false target.found.entry target.found.before image)
    (node_is : target.node ≡ (entry_at image target.found.entry).rankings_node) (kind_is : target.kind ≡ kind_said (entry_at image target.found.entry).flags) (charge_is : target.charge ≡ charge_at image target.found.entry) where
  of-live : IsOfLive state layout key target.found.entry found.has_key.fields.rankings_node
  of-live = found-live (view_of image) state layout k.represents key target.found.entry (chained-there image key target.found.entry target.found.before found) found.has_key

  own : IsOwned state (main key) of-live.number
  own = owned state (main key) of-live.number of-live.live

  -- the object that has the key lies as it was found
  lies-so : LiesAsFound state layout key target.node target.found.entry target.found.before
  lies-so = subst (λ (n : ℕ). LiesAsFound state layout key n target.found.entry target.found.before) (sym (node_is ∙ ap (λ (z : RecordFields). z.rankings_node) (shown-fields image target.found.entry found.has_key.fields found.has_key.here)))
      (found-lies state layout unlinked image key target.found.entry target.found.before k found)

  as-target : (object : Object) (lies : LiesAsFound state layout object.key target.node target.found.entry target.found.before) → object_at state of-live.number ≡ Some object → object.live ≡ true → LiesAsTarget (is_named state of-live.number) state layout of-live.number object target
  as-target object lies here live =
      let w : LoadsWith target.found.entry lies.was image = subst (λ (e : ℕ). LoadsWith e lies.was image) lies.entry_is (kept-load state layout unlinked image (layout.place (main object.key)) lies.was k lies.lies.here) in
      record {
        here = here;
        live = live;
        named = refl;
        lies = lies;
        kind = sym (kind_is ∙ kind-there image target.found.entry lies.was w);
        charge = charge_is ∙ loaded-charge image target.found.entry lies.was w;
      }

  pub found-is-target : IsTargetAt state layout key target
  found-is-target =
      let same : key ≡ own.object.key = its-key own.object (main key) own.has in
      record {
        number = of-live.number;
        is = of-live.live;
        object = own.object;
        of_key = sym same;
        lies = as-target own.object (subst (λ (x : List ℕ). LiesAsFound state layout x target.node target.found.entry target.found.before) same lies-so) own.here (owner_live own.object (main key) own.has);
      }
