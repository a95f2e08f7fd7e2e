use Rattle.std.proofs.Common.{◌≡◌, ℕ, ◌<◌, None, Some, vec_len, sym, ◌∙◌, ap, subst}
use Rattle.std.specs.Option.{option_copied_mut}
use Rattle.std.proofs.lemmas.List.{length-set}
use Rattle.blk_window.specs.Slots.{seen, giving_way}
use Rattle.blk_window.specs.declared.page.Page.{Page}
use Rattle.blk_window.specs.declared.pages.Pages.{Pages}
use Rattle.blk_window.proofs.HeldLists.{Gives, gives, slots_set}
use Rattle.blk_window.proofs.PageSlots.{slots_of, tag_in, tag_below}
use Rattle.blk_window.proofs.Overwriting.{fewer_by_clear}
use Rattle.blk_window.proofs.Tagging.{agree_set, once_set}
use Rattle.blk_window.proofs.pages.Pages.make_room.Goals as goal

way : (p : Pages) (k : ℕ) → k ≡ giving_way 0 p.slots.entries → Gives seen p.slots.cap k p.slots.entries
way p k is = gives seen p.slots.cap k p.slots.entries (slots_of p) p.some is

clash : {P : Type 0} {page : Page} → None ≡ Some page → P
clash e = absurd (never e)
  where
    never : {page : Page} → None ≡ Some page → ⊥
    never c = cc

pub index_mut-requires : goal.index_mut-requires
index_mut-requires c = subst (λ (n : ℕ). n < vec_len c.args.self.now.tags) (sym c.from.ensures) (tag_below c.args.self.now c.giving_way-slot.result c.in-Some.page.now (sym c.peek_mut.ensures.value ∙ ap option_copied_mut c.in-Some.is))

pub invariant_of-self : goal.invariant_of-self
invariant_of-self c =
    let old = c.args.self.now in
    let k = c.giving_way-slot.result in
    let there = sym c.peek_mut.ensures.value ∙ ap option_copied_mut c.in-Some.is in
    let a = slots_set seen old.slots.cap k old.slots.entries c.clear.new.self (slots_of old) in
    record {
      some = old.some;
      few = old.few;
      count = a.count;
      distinct = a.distinct;
      below = a.below;
      each = length-set old.tags.items c.from.result c.tag.result ∙ old.each;
      tagged = agree_set tag_in old.tags.items k c.from.result c.tag.result old.slots.entries c.in-Some.page.now c.clear.new.self c.from.ensures old.tagged there (sym c.tag.ensures);
      once = once_set seen k old.slots.entries c.in-Some.page.now c.clear.new.self old.once there (fewer_by_clear (seen c.in-Some.page.now) (seen c.clear.new.self) c.clear.ensures);
    }

pub returns-in-Some-clause-held : goal.returns-in-Some-clause-held
returns-in-Some-clause-held c = (way c.args.self.now c.giving_way-slot.result c.giving_way-slot.ensures).room c.clear.new.self c.clear.ensures

pub returns-in-Some-clause-free : goal.returns-in-Some-clause-free
returns-in-Some-clause-free c = (way c.args.self.now c.giving_way-slot.result c.giving_way-slot.ensures).free c.clear.new.self c.clear.ensures

pub returns-in_default-clause-held : goal.returns-in_default-clause-held
returns-in_default-clause-held c = clash (sym (ap option_copied_mut c.in_default.is) ∙ c.peek_mut.ensures.value ∙ (way c.args.self.now c.giving_way-slot.result c.giving_way-slot.ensures).there)

pub returns-in_default-clause-free : goal.returns-in_default-clause-free
returns-in_default-clause-free c = clash (sym (ap option_copied_mut c.in_default.is) ∙ c.peek_mut.ensures.value ∙ (way c.args.self.now c.giving_way-slot.result c.giving_way-slot.ensures).there)
