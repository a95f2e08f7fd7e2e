use Rattle.std.proofs.Common.{◌≡◌, ◌≤◌, Some, sym, ap, ◌∙◌, subst}
use Rattle.blk_model.specs.Sizes.{handle_names}
use Rattle.slab.specs.Slab.{Slab, get}
use Rattle.blk_handles.specs.declared.open_object.OpenObject.{OpenObject}
use Rattle.blk_handles.specs.Objects.{IsObjectOf, IsIndexOf}
use Rattle.blk_handles.proofs.Basics.{none-is-some}
use Rattle.blk_handles.proofs.ObjectsLemmas.{distinct, index-written}
use Rattle.blk_handles.proofs.objects.Objects.set.Goals as goal
use Rattle.blk_handles.proofs.objects.Objects.set.Goals.{in-Some, in_default}

-- the object is there, and the one that takes its place has its record
stays : (c : goal.Joined-get_mut) → IsIndexOf c.match-get_mut.self-inside.keys c.match-get_mut.self-inside.slab × handle_names ≤ c.match-get_mut.self-inside.slab.capacity
stays c = elim c.match-get_mut.branch [
  | in-Some w ↦
      let at = subst (λ (s : Slab OpenObject). IsObjectOf s c.args.object.entry c.args.key) (sym c.self.view_is) c.requires in
      rw w.self-inside-is (index-written _ _ c.self.invariant.0 _ _ at, c.self.invariant.1)
  | in_default w ↦
      let here : get c.self.inside.slab c.args.key ≡ Some c.requires.object = ap (λ (s : Slab OpenObject). get s c.args.key) c.self.view_is ∙ c.requires.here in
      absurd (none-is-some _ (sym w.in_default.ensures.value) here)
]

pub invariant_of-self : goal.invariant_of-self
invariant_of-self c = stays c

pub returns-clause-distinct : goal.returns-clause-distinct
returns-clause-distinct c = distinct _ _ (stays c).0
