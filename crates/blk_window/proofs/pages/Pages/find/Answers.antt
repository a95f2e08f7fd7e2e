use Rattle.std.proofs.Common.{◌≡◌, ℕ, false, nat_eq, sym, ◌∙◌, ap, subst, arith}
use Rattle.std.specs.Option.{option_map}
use Rattle.blk_io.specs.FileNames.{file_of}
use Rattle.blk_window.specs.Slots.{shows, does_pass}
use Rattle.blk_window.proofs.Lists.{pick, is_number}
use Rattle.blk_window.proofs.PageSlots.{slots_of, tag_shows}
use Rattle.blk_window.proofs.Tagging.{none_found, only_found, below_next}
use Rattle.blk_window.proofs.pages.Pages.find.Goals as goal

pub tag-requires : goal.tag-requires
tag-requires c = omega (arith, c.loop-slot-test.true, c.get-slot-end.ensures.value, c.cap.ensures)

pub loop-slot-init : goal.loop-slot-init
loop-slot-init c = λ k less. absurd (omega (arith, less))

pub returns-then-shows : goal.returns-then-shows
returns-then-shows c =
    let p = c.args.self.now in
    let file = file_of c.args.file in
    let hit = tag_shows p file c.args.number c.loop-slot.slot c.tag.result c.tag.ensures ∙ sym c.shows.ensures ∙ c.if-shows.true in
    only_found p.slots.cap (shows file c.args.number) c.loop-slot.slot p.slots.entries (slots_of p) (λ j passes. p.once file c.args.number j c.loop-slot.slot passes hit) hit

pub loop-slot-preserved : goal.loop-slot-preserved
loop-slot-preserved c =
    let p = c.args.self.now in
    let file = file_of c.args.file in
    let n = c.loop-slot.slot in
    let miss = tag_shows p file c.args.number n c.tag.result c.tag.ensures ∙ sym c.shows.ensures ∙ c.if-shows.false in
    λ k less. pick (nat_eq k n)
    (λ hit. subst (λ (m : ℕ). does_pass (shows file c.args.number) m p.slots.entries ≡ false) (is_number k n hit) miss)
    (λ other. c.loop-slot.invariant k (below_next k n less other))

pub returns : goal.returns
returns c =
    let p = c.args.self.now in
    ap (option_map _) (sym (none_found p.slots.cap (shows (file_of c.args.file) c.args.number) p.slots.entries (slots_of p)
    (λ k less. c.loop-slot.invariant k (omega (arith, less, c.loop-slot.auto.slot-end, c.loop-slot-test.false, c.get-slot-end.ensures.value, c.cap.ensures)))))
