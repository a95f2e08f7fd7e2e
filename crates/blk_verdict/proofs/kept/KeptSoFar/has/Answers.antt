use Rattle.std.proofs.Common.{◌≡◌, ◌∙◌, ◌<◌, ℕ, Option, false, length, map, refl, sym, ap, subst, arith}
use Rattle.std.proofs.lemmas.List.{length-map}
use Rattle.spec_image.specs.Told.{Told}
use Rattle.blk_io.proofs.Carried.{carried, if_damaged_weaker}
use Rattle.spec_folder.specs.Loads as shown
use Rattle.blk_disk.specs.Tables.{Agrees}
use Rattle.blk_lru.proofs.Conditions.{told_before, told_now, told_stays}
use Rattle.blk_verdict.specs.Keyed.{HasItsKey}
use Rattle.blk_verdict.specs.Kept.{IsLoadedFrom, is_sought}
use Rattle.blk_verdict.specs.Readable.{IsReadable}
use Rattle.blk_verdict.specs.declared.loading.Loaded.{Loaded}
use Rattle.blk_verdict.proofs.Searched.{HoldsBehind, StandsAt, all_at, found_in, more_behind, none_in, none_past, nothing_behind, search_begins, search_goes_on}
use Rattle.blk_verdict.proofs.SoughtFacts.{none_by_hash}
use Rattle.blk_verdict.proofs.kept.KeptSoFar.has.Goals as goal

pub loop-place-init : goal.loop-place-init
loop-place-init g c =
    let last = c.last-place.ensures (map (λ (k : Loaded). k.hash) c.args.self.now.kept.items) c.requires.order.indexed.by_hash in
    record {
      stands = search_begins c.args.self.now.kept.items c.args.hash c.last-place.result last;
      looked = λ image there agrees. nothing_behind c.args.self.now.kept.items c.args.hash (λ one. (loaded : shown.Loaded) → IsLoadedFrom image loaded one → is_sought c.args.sought c.args.key.now loaded ≡ false) c.last-place.result last;
      stays = refl;
      later = omega arith;
    }

pub unreachable-requires : goal.unreachable-requires
unreachable-requires g c =
    let here = subst (StandsAt (map (λ (k : Loaded). k.hash) c.args.self.now.kept.items) c.args.hash) c.in-Some.is c.loop-place.invariant.stands in
    let past = none_past c.args.self.now.kept.items c.in-Some.i (sym c.at.ensures ∙ c.in_default-at.is) in
    let inside : c.in-Some.i < length c.args.self.now.kept.items = subst (λ (n : ℕ). c.in-Some.i < n) (length-map c.args.self.now.kept.items (λ (k : Loaded). k.hash)) here.0 in
    omega (arith, past, inside)

pub fits-requires-clause-readable : goal.fits-requires-clause-readable
fits-requires-clause-readable g c = all_at (IsReadable c.args.files.now) c.args.self.now.kept.items c.in-Some.i c.in-Some-at.kept c.requires.order.readable (sym c.at.ensures ∙ c.in-Some-at.is)

pub returns-in_err-fits-clause-untold : goal.returns-in_err-fits-clause-untold
returns-in_err-fits-clause-untold g c agrees keys =
    carried c.fits.result c.from_residual.result c.in_err-fits.field-0.0 _ c.in_err-fits.was c.from_residual.ensures.1
    (if_damaged_weaker c.fits.result _ _ (λ damage none. ap (λ (t : Told). t.files) (sym c.loop-place.invariant.stays) ∙ none)
    (c.fits.ensures.untold (told_stays (Agrees c.args.files.now) c.loop-place.invariant.stays agrees)
    (λ image now. all_at (HasItsKey image) c.args.self.now.kept.items c.in-Some.i c.in-Some-at.kept (keys image (told_before image c.loop-place.invariant.stays now)) (sym c.at.ensures ∙ c.in-Some-at.is))))

pub returns-then-branch-clause-has : goal.returns-then-branch-clause-has
returns-then-branch-clause-has g c image there agrees hash kept are =
    sym (found_in (IsLoadedFrom image) (is_sought c.args.sought c.args.key.now) kept c.args.self.now.kept.items c.in-Some.i c.in-Some-at.kept are (sym c.at.ensures ∙ c.in-Some-at.is)
    (λ loaded known. sym (c.in_ok-fits.ensures.fits image (told_now image c.loop-place.invariant.stays there) agrees loaded known) ∙ c.if-branch.true))

pub loop-place-preserved : goal.loop-place-preserved
loop-place-preserved g c =
    let here = subst (StandsAt (map (λ (k : Loaded). k.hash) c.args.self.now.kept.items) c.args.hash) c.in-Some.is c.loop-place.invariant.stands in
    let last = c.before-place.ensures (map (λ (k : Loaded). k.hash) c.args.self.now.kept.items) c.requires.order.indexed.by_hash here.0 in
    record {
      stands = search_goes_on c.args.self.now.kept.items c.args.hash c.in-Some.i here c.before-place.result last;
      looked = λ image there agrees.
          more_behind c.args.self.now.kept.items c.args.hash c.in-Some.i here (λ one. (loaded : shown.Loaded) → IsLoadedFrom image loaded one → is_sought c.args.sought c.args.key.now loaded ≡ false) c.before-place.result c.in-Some-at.kept last (sym c.at.ensures ∙ c.in-Some-at.is)
          (λ loaded known. sym (c.in_ok-fits.ensures.fits image (told_now image c.loop-place.invariant.stays there) agrees loaded known) ∙ c.if-branch.false)
          (subst (λ (p : Option ℕ). HoldsBehind c.args.self.now.kept.items c.args.hash p (λ one. (loaded : shown.Loaded) → IsLoadedFrom image loaded one → is_sought c.args.sought c.args.key.now loaded ≡ false)) c.in-Some.is (c.loop-place.invariant.looked image there agrees));
      stays = c.in_ok-fits.ensures.reads.stays ∙ c.loop-place.invariant.stays;
      later = omega (arith, c.in_ok-fits.ensures.reads.later, c.loop-place.invariant.later);
    }

pub returns-clause-has : goal.returns-clause-has
returns-clause-has g c image there agrees hash kept are =
    let looked = subst (λ (p : Option ℕ). HoldsBehind c.args.self.now.kept.items c.args.hash p (λ one. (loaded : shown.Loaded) → IsLoadedFrom image loaded one → is_sought c.args.sought c.args.key.now loaded ≡ false)) c.in_default.is (c.loop-place.invariant.looked image there agrees) in
    sym (none_in (IsLoadedFrom image) (is_sought c.args.sought c.args.key.now) kept c.args.self.now.kept.items are
    (λ i one at loaded known. none_by_hash image c.args.sought c.args.key.now c.args.hash loaded one hash known (λ same. looked i one tt at same loaded known)))
