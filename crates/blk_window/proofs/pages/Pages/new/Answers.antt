use Rattle.std.proofs.Common.{◌≡◌, ◌+◌, ◌<◌, ℕ, List, [], ◌∷◌, ◌++◌, length, Option, sym, ◌∙◌, ap, subst, arith}
use Rattle.std.specs.List.{All, cons_option}
use Rattle.std.specs.Map.{keys_of}
use Rattle.std.proofs.lemmas.List.{length-append}
use Rattle.lru.specs.LruCache.{LruCache}
use Rattle.blk_window.specs.Held.{Page}
use Rattle.blk_window.specs.Slots.{seen, held_in, AreTags}
use Rattle.blk_window.proofs.Lists.{AreSlots, put_new, slots_more}
use Rattle.blk_window.specs.declared.tag.Tag.{Tag}
use Rattle.blk_window.proofs.Tagging.{agree_more, once_none}
use Rattle.blk_window.proofs.PageSlots.{tag_in}
use Rattle.blk_window.proofs.pages.Pages.new.Goals as goal

pub loop-slot-preserved : goal.loop-slot-preserved
loop-slot-preserved c =
    let inv = c.loop-slot.invariant in
    let is = c.in_ok-put.ensures.entries in
    let page = c.in_ok-page.page in
    let k = c.loop-slot.slot in
    let es = c.loop-slot.slots.entries in
    let tags = c.loop-slot.tags.items in
    let items = c.in_ok-push.ensures.items in
    let entries = ap (λ (l : LruCache _ _). l.entries) is ∙ put_new k c.loop-slot.slots.cap es page inv.2 (omega (arith, inv.0, c.loop-slot-test.true)) in (
      ap (λ (l : LruCache _ _). l.cap) is ∙ inv.0,
      omega (arith, c.loop-slot-test.true),
      subst (AreSlots (k + 1)) (sym entries) (slots_more k es page inv.2),
      ap held_in entries ∙ ap (λ (o : Option Page). cons_option o (held_in es)) c.in_ok-page.ensures ∙ inv.3,
      omega (arith, ap length items, length-append tags (c.tag.result ∷ []), inv.4),
      subst (λ (l : List Tag). AreTags l c.put.new.self.entries) (sym items) (subst (AreTags (tags ++ c.tag.result ∷ [])) (sym entries) (agree_more tag_in tags k c.tag.result es page inv.5 inv.4 (sym c.tag.ensures))),
    )

pub invariant_of-result : goal.invariant_of-result
invariant_of-result c =
    let inv = c.loop-slot.invariant in
    let es = c.loop-slot.slots.entries in
    let all : c.loop-slot.slot ≡ c.loop-slot.slots.cap = omega (arith, inv.0, inv.1, c.loop-slot-test.false) in
    record {
      some = omega (arith, c.requires.some, inv.0);
      few = omega (arith, c.requires.few, inv.0);
      count = inv.2.count ∙ all;
      distinct = inv.2.distinct;
      below = subst (λ (n : ℕ). All (λ number. number < n) (keys_of es)) all inv.2.below;
      each = inv.4 ∙ all;
      tagged = inv.5;
      once = once_none seen es inv.3;
    }
