use Rattle.std.proofs.Common.{◌≡◌, ◌/◌, None, Some, is_some, sym, ◌∙◌, ap}
use Rattle.std.specs.Option.{option_copied_mut}
use Rattle.blk_io.specs.FileNames.{file_of}
use Rattle.blk_window.specs.Slots.{seen}
use Rattle.blk_window.specs.declared.page.Page.{Page}
use Rattle.blk_window.proofs.HeldLists.{shown_at, slots_put, found_is, reads}
use Rattle.blk_window.proofs.PageSlots.{slots_of, tag_in}
use Rattle.blk_window.proofs.Tagging.{agree_kept, once_kept}
use Rattle.blk_window.proofs.pages.Pages.read.Goals as goal

clash : {P : Type 0} {page : Page} → None ≡ Some page → P
clash e = absurd (never e)
  where
    never : {page : Page} → None ≡ Some page → ⊥
    never c = cc

pub returns-in_err-slot-clause-exact : goal.returns-in_err-slot-clause-exact
returns-in_err-slot-clause-exact c =
    ap is_some c.from_residual.ensures ∙ ap is_some (sym c.in_err-slot.was) ∙ found_is seen (file_of c.args.file) (c.args.at / 4096) c.args.self.now.slots.entries c.find.result c.find.ensures

pub returns-in_err-page-clause-exact : goal.returns-in_err-page-clause-exact
returns-in_err-page-clause-exact c =
    let p = c.args.self.now in
    let s = shown_at seen (file_of c.args.file) (c.args.at / 4096) p.slots.cap c.in_ok-slot.slot p.slots.entries (slots_of p) (sym c.in_ok-slot.was ∙ c.find.ensures) in
    clash (sym (ap option_copied_mut c.in_err-page.was) ∙ c.get_mut.ensures.value ∙ s.there)

pub invariant_of-self-2 : goal.invariant_of-self-2
invariant_of-self-2 c =
    let old = c.args.self.now in
    let there = sym c.get_mut.ensures.value ∙ ap option_copied_mut c.in_ok-page.was in
    let a = slots_put seen old.slots.cap c.in_ok-slot.slot old.slots.entries c.in_ok-page.page.now c.in_ok-page.page.now (slots_of old) there in
    record {
      some = old.some;
      few = old.few;
      count = a.count;
      distinct = a.distinct;
      below = a.below;
      each = old.each;
      tagged = agree_kept tag_in old.tags.items c.in_ok-slot.slot old.slots.entries c.in_ok-page.page.now old.tagged there;
      once = once_kept seen c.in_ok-slot.slot old.slots.entries c.in_ok-page.page.now old.once there;
    }

pub returns-clause-exact : goal.returns-clause-exact
returns-clause-exact c = found_is seen (file_of c.args.file) (c.args.at / 4096) c.args.self.now.slots.entries (Some c.in_ok-slot.slot) (sym c.in_ok-slot.was ∙ c.find.ensures)

pub returns-clause-used : goal.returns-clause-used
returns-clause-used c = λ x is.
    let p = c.args.self.now in
    let s = shown_at seen (file_of c.args.file) (c.args.at / 4096) p.slots.cap c.in_ok-slot.slot p.slots.entries (slots_of p) (sym c.in_ok-slot.was ∙ c.find.ensures) in
    (reads seen (file_of c.args.file) (c.args.at / 4096) p.slots.cap c.in_ok-slot.slot p.slots.entries c.in_ok-page.page.now x s (sym c.get_mut.ensures.value ∙ ap option_copied_mut c.in_ok-page.was) is).0

pub returns-clause-copies : goal.returns-clause-copies
returns-clause-copies c = λ x is.
    let p = c.args.self.now in
    let s = shown_at seen (file_of c.args.file) (c.args.at / 4096) p.slots.cap c.in_ok-slot.slot p.slots.entries (slots_of p) (sym c.in_ok-slot.was ∙ c.find.ensures) in
    c.copy.ensures.copies x (reads seen (file_of c.args.file) (c.args.at / 4096) p.slots.cap c.in_ok-slot.slot p.slots.entries c.in_ok-page.page.now x s (sym c.get_mut.ensures.value ∙ ap option_copied_mut c.in_ok-page.was) is).1
