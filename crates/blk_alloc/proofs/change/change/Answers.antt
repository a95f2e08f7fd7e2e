use Rattle.std.proofs.Common.{◌≡◌, ℕ, ◌+◌, ◌*◌, ◌/◌, ◌<◌, ◌≤◌, inl, sym, ◌∙◌, ap, subst, arith, rules}
use Rattle.spec_image.specs.Told.{Told}
use Rattle.spec_image.proofs.Runs.{passes_none, passes_stayed, passes_to, part_whole, some_inj}
use Rattle.blk_alloc.specs.Changes.{IsMapInProgress}
use Rattle.blk_io.proofs.Carried.{silent_part}
use Rattle.blk_alloc.proofs.Changing.{midst_begin}
use Rattle.blk_alloc.proofs.Changed.{change_stops, change_done}
use Rattle.blk_alloc.proofs.change.change.Goals as goal

pub write-requires-clause-header : goal.write-requires-clause-header
write-requires-clause-header g c image there = c.requires.header image (ap (λ (t : Told). t.files) (sym c.in_ok-plan.ensures.reads.stays) ∙ there)

pub returns-in_err-plan-clause-stops : goal.returns-in_err-plan-clause-stops
returns-in_err-plan-clause-stops g c from there =
    passes_to (passes_none (IsMapInProgress c.args.file from) c.in_err-plan.ensures.reads.stays (λ image is. subst (IsMapInProgress c.args.file from) (some_inj (sym there ∙ is)) (midst_begin c.args.file from)))
    (λ image midst. inl midst)

pub returns-in_err-write-clause-stops : goal.returns-in_err-write-clause-stops
returns-in_err-write-clause-stops g c from there =
    passes_stayed c.in_ok-plan.ensures.reads.stays
    (change_stops from c.args.file c.args.start c.args.count c.args.used c.in_ok-plan.plan (c.requires.header from there) (c.requires.inside from there) c.requires.some c.requires.group (c.in_ok-plan.ensures.plan from there) c.in_ok-plan.ensures.fits c.in_ok-plan.ensures.runs_fit
    (ap (λ (t : Told). t.files) c.in_ok-plan.ensures.reads.stays ∙ there) c.in_err-write.ensures.prefix)

pub returns-clause-changed : goal.returns-clause-changed
returns-clause-changed g c from there =
    change_done from c.args.file c.args.start c.args.count c.args.used c.in_ok-plan.plan (c.requires.header from there) (c.requires.inside from there) c.requires.some c.requires.group (c.in_ok-plan.ensures.plan from there) c.in_ok-plan.ensures.fits c.in_ok-plan.ensures.runs_fit
    (ap (λ (t : Told). t.files) c.in_ok-plan.ensures.reads.stays ∙ there) c.in_ok-write.ensures.steps

pub returns-clause-stops : goal.returns-clause-stops
returns-clause-stops g c from there =
    passes_stayed c.in_ok-plan.ensures.reads.stays
    (change_stops from c.args.file c.args.start c.args.count c.args.used c.in_ok-plan.plan (c.requires.header from there) (c.requires.inside from there) c.requires.some c.requires.group (c.in_ok-plan.ensures.plan from there) c.in_ok-plan.ensures.fits c.in_ok-plan.ensures.runs_fit
    (ap (λ (t : Told). t.files) c.in_ok-plan.ensures.reads.stays ∙ there) (part_whole c.in_ok-write.ensures.steps))

at_inside : (at start count : ℕ) → at ≡ 80 + 4 * (start / 32) → 0 < count → start + count ≤ 64896 → at + 4 ≤ 8192
at_inside at start count is some small = omega (arith, is, some, small)

pub write-requires-clause-inside : goal.write-requires-clause-inside
write-requires-clause-inside g c image there =
    let from = ap (λ (t : Told). t.files) (sym c.in_ok-plan.ensures.reads.stays) ∙ there in
    at_inside c.in_ok-plan.plan.at c.args.start c.args.count (c.in_ok-plan.ensures.plan image from).at c.requires.some (c.requires.inside image from)

pub returns-in_err-write-clause-writes : goal.returns-in_err-write-clause-writes
returns-in_err-write-clause-writes g c = record {
  silent = λ none. silent_part c.in_err-write.ensures.prefix (ap (λ (t : Told). t.files) c.in_ok-plan.ensures.reads.stays ∙ none);
  later = omega arith;
  failed = search rules;
}

pub returns-clause-writes : goal.returns-clause-writes
returns-clause-writes g c = record {
  silent = λ none. silent_part c.in_ok-write.ensures.prefix (ap (λ (t : Told). t.files) c.in_ok-plan.ensures.reads.stays ∙ none);
  later = omega arith;
  failed = search rules;
}
