use Rattle.std.proofs.Common.{◌≡◌, false, None, Option, Some, refl, sym, ◌∙◌, ap, subst}
use Rattle.spec_image.specs.Told.{Told}
use Rattle.blk_io.proofs.Carried.{carried, if_damaged_weaker}
use Rattle.blk_chain.specs.declared.found.Found.{Found}
use Rattle.blk_chain.specs.Finding.{IsAnswer, IsFound}
use Rattle.spec_folder.specs.View.{view_of}
use Rattle.law_folder.proofs.chains.Searches.{none-missing}
use Rattle.blk_evict.specs.Looking.{KeepsSomeState}
use Rattle.blk_evict.proofs.Looks.{can-search, found-loads, found-is-live, found-names}
use Rattle.blk_evict.proofs.looking.find_live.Goals as goal

pub returns-in_err-found-clause-untold : goal.returns-in_err-found-clause-untold
returns-in_err-found-clause-untold g c is_open kept =
    carried c.find.result c.from_residual.result c.in_err-found.field-0.0 (λ _. (g.F.Folder.told c.args.folder.now).files ≡ None) c.in_err-found.was c.from_residual.ensures.1
    (c.find.ensures.untold (λ image there. (is_open image there).whole_index) (λ image there. (is_open image there).agrees) (λ image there. let s : KeepsSomeState image = kept image there in can-search s.state s.layout s.unlinked image s.kept c.args.key.now))

pub returns-in_default-clause-live : goal.returns-in_default-clause-live
returns-in_default-clause-live g c image there state layout unlinked k =
    none-missing (view_of image) state layout k.represents k.valid c.args.key.now
    (subst (λ (answer : Option Found). IsAnswer c.args.key.now false answer image) c.in_default.is (c.in_ok-found.ensures.found image there (can-search state layout unlinked image k c.args.key.now)))

pub returns-in_err-said-clause-untold : goal.returns-in_err-said-clause-untold
returns-in_err-said-clause-untold g c is_open kept =
    let old : Told = g.F.Folder.told c.args.folder.now in
    let mid : Told = g.F.Folder.told c.find.new.f in
    let back = λ (image : _) (there : mid.files ≡ Some image). let t : old.files ≡ Some image = ap (λ (t : Told). t.files) (sym c.in_ok-found.ensures.reads.stays) ∙ there in t in
    let found = λ (image : _) (there : old.files ≡ Some image) (s : KeepsSomeState image).
    let f : IsFound c.args.key.now false c.in-Some.found.entry c.in-Some.found.before image = subst (λ (answer : Option Found). IsAnswer c.args.key.now false answer image) c.in-Some.is (c.in_ok-found.ensures.found image there (can-search s.state s.layout s.unlinked image s.kept c.args.key.now)) in f in
    let same : mid.files ≡ old.files = ap (λ (t : Told). t.files) c.in_ok-found.ensures.reads.stays in
    if_damaged_weaker c.from_residual-in_err-said.result (λ _. mid.files ≡ None) (λ _. old.files ≡ None) (λ damage none. sym same ∙ none)
    (carried c.read_said.result c.from_residual-in_err-said.result c.in_err-said.field-0.0 (λ _. mid.files ≡ None) c.in_err-said.was c.from_residual-in_err-said.ensures.1
    (c.read_said.ensures.untold (λ image there. (is_open image (back image there)).agrees)
    (λ image there. let s : KeepsSomeState image = kept image (back image there) in found-loads s.state s.layout s.unlinked image s.kept c.args.key.now c.in-Some.found.entry c.in-Some.found.before (found image (back image there) s))
    (λ image there. let s : KeepsSomeState image = kept image (back image there) in found-names s.state s.layout s.unlinked image s.kept c.args.key.now c.in-Some.found.entry c.in-Some.found.before (found image (back image there) s) c.args.files.now (is_open image (back image there)).agrees)))

pub returns-clause-live : goal.returns-clause-live
returns-clause-live g c image there state layout unlinked k =
    let found : IsFound c.args.key.now false c.in-Some.found.entry c.in-Some.found.before image = subst (λ (answer : Option Found). IsAnswer c.args.key.now false answer image) c.in-Some.is (c.in_ok-found.ensures.found image there (can-search state layout unlinked image k c.args.key.now)) in
    let now : (g.F.Folder.told c.find.new.f).files ≡ Some image = ap (λ (t : Told). t.files) c.in_ok-found.ensures.reads.stays ∙ there in
    found-is-live state layout unlinked image k c.args.key.now c.in-Some.found.entry c.in-Some.found.before found (record { entry = c.in-Some.found.entry; node = c.in_ok-said.said.node; charge = c.in_ok-said.said.charge }) refl (c.in_ok-said.ensures.node image now) (c.in_ok-said.ensures.charge image now)
