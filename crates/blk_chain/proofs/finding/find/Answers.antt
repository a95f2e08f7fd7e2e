use Rattle.std.proofs.Common.{◌≡◌, ◌%◌, ℕ, None, Some, inl, inr, sym, ◌∙◌, ap, subst}
use Rattle.std.specs.Prelude.{IfOk, IfSome}
use Rattle.std.specs.Option.{ForSome}
use Rattle.std.proofs.lemmas.Result.{on_ok_weaker}
use Rattle.spec_image.specs.Image.{HasRange, Index}
use Rattle.spec_image.specs.Told.{Told}
use Rattle.blk_disk.specs.Tables.{Agrees}
use Rattle.blk_io.proofs.Carried.{carried, if_damaged_weaker}
use Rattle.blk_io.specs.Faults.{IfDamaged, IsShort}
use Rattle.blk_io.specs.declared.folder.FileId.TheVariants as names
use Rattle.spec_format.specs.Headers.{place_of_bucket}
use Rattle.blk_entry.proofs.KeyPlaces.{ok_there}
use Rattle.blk_chain.specs.Finding.{CanBeSearched, IsAnswer, IsChainDamage, IsOutcome, IsSearchDamage}
use Rattle.blk_chain.specs.Unlinking.{CanBeUnlinked}
use Rattle.blk_chain.proofs.Searches.{front-is}
use Rattle.blk_chain.proofs.finding.find.Goals as goal

pub search-requires-clause-word : goal.search-requires-clause-word
search-requires-clause-word g c image now =
    let there : (g.F.Folder.told c.args.f.now).files ≡ Some image = ap (λ (t : Told). t.files) (sym c.in_ok-word.ensures.reads.stays) ∙ now in
    sym (front-is image c.args.key.now c.super_fast_hash-hash.result c.in_ok-word.word c.super_fast_hash-hash.ensures (c.in_ok-word.ensures.word image there))

pub returns-clause-outcome : goal.returns-clause-outcome
returns-clause-outcome g c =
    subst (λ (t : Told). IfOk c.search.result (λ answer. ForSome t.files (IsOutcome c.args.files.now c.args.key.now c.args.child answer))) c.in_ok-word.ensures.reads.stays c.search.ensures.outcome

pub returns-clause-found : goal.returns-clause-found
returns-clause-found g c =
    subst (λ (t : Told). IfOk c.search.result (λ answer. ForSome t.files (λ image. CanBeSearched c.args.key.now image → IsAnswer c.args.key.now c.args.child answer image))) c.in_ok-word.ensures.reads.stays c.search.ensures.found

pub returns-clause-linked : goal.returns-clause-linked
returns-clause-linked g c =
    subst (λ (t : Told). IfOk c.search.result (λ answer. IfSome answer (λ found. ForSome t.files (λ image. CanBeSearched c.args.key.now image → CanBeUnlinked found.entry found.before image)))) c.in_ok-word.ensures.reads.stays c.search.ensures.linked

pub returns-clause-checked : goal.returns-clause-checked
returns-clause-checked g c =
    on_ok_weaker c.search.result
    (λ t image there. subst (λ (h : ℕ). HasRange image Index (place_of_bucket (h % 65536)) 4) c.super_fast_hash-hash.ensures (c.in_ok-word.ensures.checked image there)) (ok_there c.search.result)

pub returns-in_err-word-clause-damaged : goal.returns-in_err-word-clause-damaged
returns-in_err-word-clause-damaged g c =
    carried c.bucket.result c.from_residual.result c.in_err-word.field-0.0 (IsSearchDamage c.args.files.now (g.F.Folder.told c.args.f.now) c.args.key.now c.args.child) c.in_err-word.was c.from_residual.ensures.1
    (if_damaged_weaker c.bucket.result _ _
    (λ damage short. inl (subst (λ (h : ℕ). IsShort (g.F.Folder.told c.args.f.now) names.Index (place_of_bucket (h % 65536)) 4 damage) c.super_fast_hash-hash.ensures short))
    c.bucket.ensures.short)

pub returns-in_err-word-clause-untold : goal.returns-in_err-word-clause-untold
returns-in_err-word-clause-untold g c whole agrees can =
    carried c.bucket.result c.from_residual.result c.in_err-word.field-0.0 (λ _. (g.F.Folder.told c.args.f.now).files ≡ None) c.in_err-word.was c.from_residual.ensures.1 (c.bucket.ensures.untold whole)

pub returns-clause-damaged : goal.returns-clause-damaged
returns-clause-damaged g c =
    if_damaged_weaker c.search.result _ _
    (λ damage wrong. inr (subst (λ (t : Told). IsChainDamage c.args.files.now t c.args.key.now c.args.child damage) c.in_ok-word.ensures.reads.stays wrong))
    c.search.ensures.damaged

pub returns-clause-untold : goal.returns-clause-untold
returns-clause-untold g c whole agrees can =
    subst (λ (t : Told). IfDamaged c.search.result (λ _. t.files ≡ None)) c.in_ok-word.ensures.reads.stays
    (c.search.ensures.untold (subst (λ (t : Told). ForSome t.files (Agrees c.args.files.now)) (sym c.in_ok-word.ensures.reads.stays) agrees) (subst (λ (t : Told). ForSome t.files (CanBeSearched c.args.key.now)) (sym c.in_ok-word.ensures.reads.stays) can))
