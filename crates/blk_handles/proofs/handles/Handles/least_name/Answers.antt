use Rattle.std.proofs.Common.{◌≡◌, true, false, sym, ◌∙◌, subst, inl, inr, None, get_or, arith}
use Rattle.std.specs.Prelude.{is_some}
use Rattle.std.proofs.lemmas.Bool.{cases_eq}
use Rattle.blk_handles.specs.Bindings.{AreShared, binding_of}
use Rattle.blk_handles.proofs.SlotLemmas.{position-first, position-none}
use Rattle.blk_handles.proofs.StoredLemmas.{are-shared, stored, least-name}
use Rattle.blk_handles.proofs.handles.Handles.least_name.Goals as goal

pub loop-name-preserved : goal.loop-name-preserved
loop-name-preserved c name below = elim (cases_eq name c.loop-name.name) [
  | inl same ↦
      let free : is_some (get_or c.self.inside.names.items c.loop-name.name None) ≡ false = rw (← c.deref.ensures.value, ← c.key_at.ensures) (sym c.is_some.ensures ∙ c.if-is_some.false) in
      rw (same, ← c.self.view_is) (least-name c.self.inside.objects _ (stored _ _ c.self.invariant) _ ∙ free)
  | inr other ↦ c.loop-name.invariant name (omega arith)
]

-- no name is bound
pub returns : goal.returns
returns c =
    let all = subst AreShared c.self.view_is (are-shared _ _ c.self.invariant) in
    sym (position-none is_some _ None (λ name small. c.loop-name.invariant name (omega (arith, all.names, small, c.loop-name-test.false))))

-- the first that is
pub returns-then-is_some : goal.returns-then-is_some
returns-then-is_some c =
    let all = subst AreShared c.self.view_is (are-shared _ _ c.self.invariant) in
    let key : is_some (get_or c.self.inside.names.items c.loop-name.name None) ≡ true = rw (← c.deref.ensures.value, ← c.key_at.ensures) (sym c.is_some.ensures ∙ c.if-is_some.true) in
    let is : is_some (binding_of c.args.self.now c.loop-name.name) ≡ true = rw (← c.self.view_is) (least-name c.self.inside.objects _ (stored _ _ c.self.invariant) _ ∙ key) in
    sym (position-first is_some _ _ None (omega (arith, all.names, c.loop-name-test.true)) c.loop-name.invariant is)
