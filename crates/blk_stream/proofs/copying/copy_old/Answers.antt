use Rattle.std.proofs.Common.{◌≡◌, ◌+◌, ℕ, Option, None, refl, sym, ap, subst, arith}
use Rattle.std.specs.Prelude.{unwrap_or}
use Rattle.std.proofs.lemmas.Result.{on_ok_weaker}
use Rattle.spec_image.specs.Image.{Image}
use Rattle.spec_image.specs.Footprint.{SameOutside}
use Rattle.spec_image.proofs.Runs.{passes_end, passes_weaker}
use Rattle.std.specs.Option.{ForSome}
use Rattle.blk_io.proofs.Carried.{carried, if_damaged_weaker, told_at_end}
use Rattle.blk_entry.specs.Keys.{IsInFile}
use Rattle.blk_stream.specs.Copying.{AreOldBytes, IsCopied, IsCutOld, IsOldThere, ShareNoData, old_spans, span_of}
use Rattle.blk_stream.proofs.Copies.{both_copied, cut_old, first_span, both_spans, second_span, there_kept, there_less}
use Rattle.blk_stream.proofs.PlacesLeft.{told_back}
use Rattle.blk_stream.proofs.Joined.{then_passes, told_then}
use Rattle.blk_stream.proofs.copying.copy_old.Given as given
use Rattle.blk_stream.proofs.copying.copy_old.Goals as goal

pub returns-in_err-copy-clause-stops : goal.returns-in_err-copy-clause-stops
returns-in_err-copy-clause-stops g c from there =
    let first : (image : Image) → SameOutside (span_of c.args.to 0 c.min.result) from image → SameOutside (old_spans c.args.to c.args.old.size c.args.size c.args.offset c.args.count) from image = (λ image same. first_span c.args.to c.args.old.size c.args.size c.args.offset c.args.count c.min.result from image c.min.ensures same) in
    passes_weaker (c.in_err-copy.ensures.stops from there) first first

pub copy-requires-2-clause-to_there : goal.copy-requires-2-clause-to_there
copy-requires-2-clause-to_there g c =
    told_at_end (g.F.Folder.told c.args.folder.now).files (g.F.Folder.told c.copy.new.folder).files (IsInFile c.args.to 0 c.min-2.result) c.in_ok-copy.ensures.writes.silent
    (λ from there mid now. there_less c.args.to c.min-2.result c.args.size mid (omega (arith, c.min-2.ensures))
    (there_kept (span_of c.args.to 0 c.min.result) from mid c.args.to c.args.size (λ g. refl) (passes_end (c.in_ok-copy.ensures.stops from there) mid now) (c.requires.there from there)))

pub returns-clause-stops : goal.returns-clause-stops
returns-clause-stops g c from there =
    let P : Image → Type 0 = SameOutside (old_spans c.args.to c.args.old.size c.args.size c.args.offset c.args.count) from in
    let first : (image : Image) → SameOutside (span_of c.args.to 0 c.min.result) from image → P image = (λ image same. first_span c.args.to c.args.old.size c.args.size c.args.offset c.args.count c.min.result from image c.min.ensures same) in
    then_passes (g.F.Folder.told c.args.folder.now) (g.F.Folder.told c.copy.new.folder) (g.F.Folder.told c.copy-2.new.folder) from P there
    (passes_weaker (c.in_ok-copy.ensures.stops from there) first first)
    (λ mid now before.
    let second : (image : Image) → SameOutside (span_of c.args.to (c.args.offset + c.args.count) c.min-2.result) mid image → P image = (λ image same. both_spans c.args.to c.args.old.size c.args.size c.args.offset c.args.count from mid image before (second_span c.args.to c.args.old.size c.args.size c.args.offset c.args.count c.min-2.result mid image c.min-2.ensures same)) in
    passes_weaker (c.copy-2.ensures.stops mid now) second second)

-- the old bytes are there still
old_there : (g : given.Over) (c : goal.After-copy-2 g) → ForSome (g.F.Folder.told c.args.folder.now).files (IsOldThere c.args.old) → ForSome (g.F.Folder.told c.copy.new.folder).files (IsInFile c.in-Some.from 0 c.min-2.result)
old_there g c there =
    told_at_end (g.F.Folder.told c.args.folder.now).files (g.F.Folder.told c.copy.new.folder).files (IsInFile c.in-Some.from 0 c.min-2.result) c.in_ok-copy.ensures.writes.silent
    (λ from here mid now. there_less c.in-Some.from c.min-2.result c.args.old.size mid (omega (arith, c.min-2.ensures))
    (there_kept (span_of c.args.to 0 c.min.result) from mid c.in-Some.from c.args.old.size (λ g. refl) (passes_end (c.in_ok-copy.ensures.stops from here) mid now) (there from here c.in-Some.from c.in-Some.is)))

pub returns-clause-untold : goal.returns-clause-untold
returns-clause-untold g c there =
    if_damaged_weaker c.copy-2.result _ _ (λ damage none. told_back (g.F.Folder.told c.args.folder.now) (g.F.Folder.told c.copy.new.folder) (λ from. SameOutside (span_of c.args.to 0 c.min.result) from) c.in_ok-copy.ensures.stops none) (c.copy-2.ensures.untold (old_there g c there))

pub returns-in_err-copy-clause-untold : goal.returns-in_err-copy-clause-untold
returns-in_err-copy-clause-untold g c there =
    carried c.copy.result c.from_residual.result c.in_err-copy.field-0.0 (λ _. (g.F.Folder.told c.args.folder.now).files ≡ None) c.in_err-copy.was c.from_residual.ensures.1
    (c.copy.ensures.untold (λ from here. there_less c.in-Some.from c.min.result c.args.old.size from (omega (arith, c.min.ensures)) (there from here c.in-Some.from c.in-Some.is)))

pub returns-in_err-copy-clause-damaged : goal.returns-in_err-copy-clause-damaged
returns-in_err-copy-clause-damaged g c =
    carried c.copy.result c.from_residual.result c.in_err-copy.field-0.0 (IsCutOld (g.F.Folder.told c.copy.new.folder) c.args.old) c.in_err-copy.was c.from_residual.ensures.1
    (if_damaged_weaker c.copy.result _ _ (λ damage cut. cut_old (g.F.Folder.told c.copy.new.folder) c.args.old c.in-Some.from c.min.result damage c.in-Some.is (omega (arith, c.min.ensures)) cut) c.copy.ensures.damaged)

pub returns-clause-damaged : goal.returns-clause-damaged
returns-clause-damaged g c = if_damaged_weaker c.copy-2.result _ _ (λ damage cut. cut_old (g.F.Folder.told c.copy-2.new.folder) c.args.old c.in-Some.from c.min-2.result damage c.in-Some.is (omega (arith, c.min-2.ensures)) cut) c.copy-2.ensures.damaged

pub returns-clause-copied : goal.returns-clause-copied
returns-clause-copied g c =
    on_ok_weaker c.copy-2.result
    (λ done from there apart image now.
    let u : Option ℕ = c.args.old.addr in
    let one : unwrap_or c.args.old.addr 0 ≡ c.in-Some.from = ap (λ (o : Option ℕ). unwrap_or o 0) c.in-Some.is in
    let own : ShareNoData c.in-Some.from c.args.to = subst (λ (w : ℕ). ShareNoData w c.args.to) one apart in
    let mid = told_then (g.F.Folder.told c.args.folder.now) (g.F.Folder.told c.copy.new.folder) from (SameOutside (span_of c.args.to 0 c.min.result) from) there (c.in_ok-copy.ensures.stops from there) in
    subst (λ (w : ℕ). AreOldBytes w c.args.to c.args.old.size c.args.size c.args.offset c.args.count from image) (sym one)
    (both_copied c.args.files.now c.in-Some.from c.args.to c.args.old.size c.args.size c.args.offset c.args.count (c.requires.old.inside c.in-Some.from c.in-Some.is) c.requires.inside c.requires.few own from mid.image image
    (subst (λ (p : ℕ). SameOutside (span_of c.args.to 0 p) from mid.image) c.min.ensures mid.holds)
    (subst (λ (p : ℕ). IsCopied c.in-Some.from c.args.to 0 p from mid.image) c.min.ensures (c.in_ok-copy.ensures.copied from there own mid.image mid.is))
    (subst (λ (q : ℕ). SameOutside (span_of c.args.to (c.args.offset + c.args.count) q) mid.image image) c.min-2.ensures (passes_end (c.copy-2.ensures.stops mid.image mid.is) image now))
    (subst (λ (q : ℕ). IsCopied c.in-Some.from c.args.to (c.args.offset + c.args.count) q mid.image image) c.min-2.ensures (done mid.image mid.is own image now))))
    c.copy-2.ensures.copied
