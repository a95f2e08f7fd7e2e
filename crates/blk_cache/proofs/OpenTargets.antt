-- A live object that a handle names, as its record and a search for its key give it.
use Rattle.std.proofs.Common.{◌≡◌, ℕ, List, [], sym, ap, true}
use Rattle.spec_image.specs.Image.{Image}
use Rattle.blk_model.specs.Items.{key_of, main, part}
use Rattle.blk_model.specs.State.{Object, State}
use Rattle.spec_folder.specs.Layout.{Layout, is_listed}
use Rattle.law_folder.proofs.states.Settling.{main-listed}
use Rattle.blk_chain.specs.declared.found.Found.{Found}
use Rattle.law_state.specs.Keeping.{Keeps}
use Rattle.blk_object.specs.Owning.{LoadsWith}
use Rattle.blk_object.specs.Removing.{LiesBehind}
use Rattle.blk_evict.specs.declared.item_names.EntryKind.TheVariants as kinds
use Rattle.blk_evict.specs.declared.item_names.Named.{Named}
use Rattle.blk_cache.specs.DoomingObjects.{LiesAsTarget, LiesOpen}
use Rattle.blk_evict.specs.EvictingGroups.{IsNamedAs, kind_of_role}
use Rattle.blk_evict.proofs.GroupsOut.{loads-there, main-is, part-is}

module _ (state : State) (layout : Layout) (image : Image) (k : Keeps state layout [] image) (number : ℕ) (object : Object) (node entry : ℕ) (o : LiesOpen state layout number object node entry) where
  pub open-listed : is_listed state (main object.key) ≡ true
  open-listed = main-listed state k.entries.valid number object true o.lies.here o.lies.live

  -- its record loads
  pub open-loads : LoadsWith entry o.loaded image
  open-loads = loads-there state layout [] image k.entries (main object.key) o.loaded open-listed o.lies.at entry o.entry_is

  -- with its key
  pub open-key : o.loaded.key ≡ object.key
  open-key =
      let never : kind_of_role o.loaded.role ≡ kinds.Part → ⊥ = λ kind.
      let p = part-is state layout [] image k.entries (main object.key) o.loaded open-listed o.lies.at kind in
      let e : main object.key ≡ part p.name.key p.name.part = p.is in cc in
      sym (ap key_of (main-is state layout [] image k.entries (main object.key) o.loaded open-listed o.lies.at never))

  -- so it lies as a target
  pub open-target : (named : Named) (bytes : List ℕ) → IsNamedAs o.loaded named bytes → (at : Found) → o.loaded.contents ≡ at.entry → LiesBehind state layout (main object.key) o.loaded at.before
      → LiesAsTarget true state layout number object (record { found = at; node = node; kind = named.kind; charge = named.owned.charge })
  open-target named bytes n at entry_is behind = record {
    here = o.lies.here;
    live = o.lies.live;
    named = o.named;
    lies = record { was = o.loaded; lies = behind; node_is = o.node_is; entry_is = entry_is };
    kind = sym n.kind;
    charge = n.charge;
  }
