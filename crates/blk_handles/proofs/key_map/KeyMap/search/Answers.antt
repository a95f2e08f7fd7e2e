use Rattle.std.proofs.Common.{rules}
use Rattle.std.proofs.lemmas.List.Sorted.{answers_always}
use Rattle.blk_handles.proofs.KeyMapLemmas.{searched}
use Rattle.blk_handles.proofs.key_map.KeyMap.search.Goals as goal

-- the closure gives an item's record, and the slice is the map's items
pub returns : goal.returns
returns c =
    let facts = c.binary_search_by_key.ensures in
    let by_entry = facts.position (λ item. item.entry) (answers_always _ _ _ (λ f a r g called. search rules)) in
    rw (← c.self.view_is, ← c.deref.ensures.value) (searched c.deref.result.now (rw c.deref.ensures.value c.self.invariant.0) c.args.entry _ facts.bound (rw c.word.ensures.word at by_entry))
