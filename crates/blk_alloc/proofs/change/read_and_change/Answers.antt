use Rattle.std.proofs.Common.{◌≡◌, ℕ, ◌+◌, ◌*◌, inl, inr, refl, None, sym, ◌∙◌, ap, subst, arith, rules}
use Rattle.std.specs.Prelude.{OnOk}
use Rattle.std.specs.Option.{ForSome}
use Rattle.spec_image.specs.Bytes.{range_at}
use Rattle.spec_image.specs.Image.{Block, byte}
use Rattle.spec_image.specs.Told.{Stays, Told}
use Rattle.spec_image.proofs.Runs.{passes_none, passes_stayed, passes_to, some_inj}
use Rattle.blk_io.specs.declared.folder.FileId.TheVariants as names
use Rattle.blk_io.specs.Faults.{IfDamaged, IsShort}
use Rattle.blk_io.proofs.Carried.{carried, if_damaged_weaker}
use Rattle.blk_alloc.specs.Changes.{CanChangeMarks, IsChanged, IsMapInProgress}
use Rattle.blk_alloc.specs.Owning.{IsCause}
use Rattle.blk_alloc.proofs.Changing.{midst_begin}
use Rattle.blk_alloc.proofs.change.read_and_change.Goals as goal

pub change-requires-clause-header : goal.change-requires-clause-header
change-requires-clause-header g c image there = c.requires.header image (ap (λ (t : Told). t.files) (sym c.in_ok-read_exact.ensures.reads.stays) ∙ there)

pub change-requires-clause-inside : goal.change-requires-clause-inside
change-requires-clause-inside g c image there = c.requires.inside image (ap (λ (t : Told). t.files) (sym c.in_ok-read_exact.ensures.reads.stays) ∙ there)

pub change-requires-clause-word : goal.change-requires-clause-word
change-requires-clause-word g c image there =
    c.word_of-word.ensures ∙ c.in_ok-read_exact.ensures.bytes image (ap (λ (t : Told). t.files) (sym c.in_ok-read_exact.ensures.reads.stays) ∙ there)
    ∙ ap (λ (k : ℕ). range_at (byte image (Block c.args.file)) (80 + 4 * k) 4) c.from.ensures

pub returns-in_err-read_exact-clause-stops : goal.returns-in_err-read_exact-clause-stops
returns-in_err-read_exact-clause-stops g c from there =
    passes_to (passes_none (IsMapInProgress c.args.file from) c.in_err-read_exact.ensures.reads.stays (λ image is. subst (IsMapInProgress c.args.file from) (some_inj (sym there ∙ is)) (midst_begin c.args.file from)))
    (λ image midst. inl midst)

pub returns-in_err-read_exact-clause-cause : goal.returns-in_err-read_exact-clause-cause
returns-in_err-read_exact-clause-cause g c =
    carried c.read_exact.result c.from_residual.result c.in_err-read_exact.field-0.0 _ c.in_err-read_exact.was c.from_residual.ensures.1
    (if_damaged_weaker c.read_exact.result (IsShort (g.F.Folder.told c.args.folder.now) (names.Block c.args.file) (80 + 4 * c.from.result) 4) (IsCause (g.F.Folder.told c.args.folder.now) c.args.file c.args.start c.args.count c.args.used)
    (λ damage short. inl (record { place = 80 + 4 * c.from.result; count = 4; read = inr (ap (λ (k : ℕ). 80 + 4 * k) c.from.ensures, refl); short = short })) c.read_exact.ensures.short)

pub returns-clause-changed : goal.returns-clause-changed
returns-clause-changed g c =
    subst (λ (t : Told). OnOk c.change.result (ForSome t.files (λ from. ForSome (g.F.Folder.told c.change.new.folder).files (IsChanged from c.args.file c.args.start c.args.count c.args.used)))) c.in_ok-read_exact.ensures.reads.stays c.change.ensures.changed

pub returns-clause-stops : goal.returns-clause-stops
returns-clause-stops g c from there = passes_stayed c.in_ok-read_exact.ensures.reads.stays (c.change.ensures.stops from (ap (λ (t : Told). t.files) c.in_ok-read_exact.ensures.reads.stays ∙ there))

pub returns-clause-cause : goal.returns-clause-cause
returns-clause-cause g c = subst (λ (t : Told). IfDamaged c.change.result (IsCause t c.args.file c.args.start c.args.count c.args.used)) c.in_ok-read_exact.ensures.reads.stays c.change.ensures.cause

pub returns-clause-unwritten : goal.returns-clause-unwritten
returns-clause-unwritten g c = subst (λ (t : Told). IfDamaged c.change.result (λ _. Stays t (g.F.Folder.told c.change.new.folder))) c.in_ok-read_exact.ensures.reads.stays c.change.ensures.unwritten

pub returns-clause-untold : goal.returns-clause-untold
returns-clause-untold g c =
    subst (λ (t : Told). IfDamaged c.change.result (λ _. ForSome t.files (λ image. CanChangeMarks image c.args.file c.args.start c.args.count c.args.used) → t.files ≡ None)) c.in_ok-read_exact.ensures.reads.stays c.change.ensures.untold

pub returns-clause-writes : goal.returns-clause-writes
returns-clause-writes g c = record {
  silent = λ none. c.change.ensures.writes.silent (ap (λ (t : Told). t.files) c.in_ok-read_exact.ensures.reads.stays ∙ none);
  later = omega arith;
  failed = search rules;
}
