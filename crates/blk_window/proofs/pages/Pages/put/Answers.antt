use Rattle.std.proofs.Common.{ℕ, ◌<◌, vec_len, sym, ◌∙◌, ap, subst}
use Rattle.std.specs.Option.{option_copied_mut}
use Rattle.std.proofs.lemmas.List.{length-set}
use Rattle.blk_window.specs.Slots.{seen}
use Rattle.blk_window.proofs.HeldLists.{puts, slots_put}
use Rattle.blk_window.proofs.PageSlots.{slots_of, tag_in, tag_below}
use Rattle.blk_window.proofs.Tagging.{agree_put, once_put}
use Rattle.blk_window.proofs.pages.Pages.put.Goals as goal

pub index_mut-requires : goal.index_mut-requires
index_mut-requires c = subst (λ (n : ℕ). n < vec_len c.args.self.now.tags) (sym c.from.ensures) (tag_below c.args.self.now c.args.slot c.in-Some.place.now (sym c.get_mut.ensures.value ∙ ap option_copied_mut c.in-Some.is))

pub invariant_of-self : goal.invariant_of-self
invariant_of-self c =
    let old = c.args.self.now in
    let there = sym c.get_mut.ensures.value ∙ ap option_copied_mut c.in-Some.is in
    let a = slots_put seen old.slots.cap c.args.slot old.slots.entries c.in-Some.place.now c.swap.new.x (slots_of old) there in
    record {
      some = old.some;
      few = old.few;
      count = a.count;
      distinct = a.distinct;
      below = a.below;
      each = length-set old.tags.items c.from.result c.tag.result ∙ old.each;
      tagged = agree_put tag_in old.tags.items c.args.slot c.from.result c.tag.result old.slots.entries c.in-Some.place.now c.swap.new.x c.from.ensures old.tagged there (sym c.tag.ensures);
      once = once_put seen c.args.slot old.slots.entries c.in-Some.place.now c.swap.new.x old.once there (λ new is. c.requires.new new (sym (ap seen c.swap.ensures.x_after) ∙ is));
    }

pub returns-in-Some-clause-held : goal.returns-in-Some-clause-held
returns-in-Some-clause-held c = λ new is. puts seen c.args.slot c.args.self.now.slots.entries c.swap.new.x new c.requires.free (ap seen c.swap.ensures.x_after ∙ is)
