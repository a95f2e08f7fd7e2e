use Rattle.std.proofs.Common.{◌≡◌, ℕ, List, sym, ◌∙◌, ap, subst}
use Rattle.std.specs.Option.{ForSome}
use Rattle.spec_image.specs.Bytes.{range_at}
use Rattle.spec_image.specs.Image.{Block, byte}
use Rattle.spec_image.specs.Told.{Told}
use Rattle.spec_image.proofs.Runs.{some_inj}
use Rattle.blk_alloc.specs.Mending.{PassesNeeded}
use Rattle.blk_alloc.specs.Rebuilding.{AreHeaderBytes, RemakesInProgress}
use Rattle.blk_alloc.proofs.Mended.{remakes_begin}
use Rattle.blk_alloc.proofs.Needed.{needed_none}
use Rattle.blk_alloc.proofs.rebuilding.remake.Goals as goal

pub returns-in_err-read_exact-clause-stops : goal.returns-in_err-read_exact-clause-stops
returns-in_err-read_exact-clause-stops g c from there groups =
    let P = RemakesInProgress c.args.claims.now c.args.file from in
    needed_none P c.in_err-read_exact.ensures.reads.stays (λ image is. subst P (some_inj (sym there ∙ is)) (remakes_begin c.args.claims.now c.args.file from))

pub returns-in_err-read_exact-2-clause-stops : goal.returns-in_err-read_exact-2-clause-stops
returns-in_err-read_exact-2-clause-stops g c from there groups =
    let P = RemakesInProgress c.args.claims.now c.args.file from in
    needed_none P (c.in_err-read_exact-2.ensures.reads.stays ∙ c.in_ok-read_exact.ensures.reads.stays) (λ image is. subst P (some_inj (sym there ∙ is)) (remakes_begin c.args.claims.now c.args.file from))

-- the header that was read by two calls
header_read : (n : ℕ) (map fields : List ℕ) {a b : Told} → b ≡ a → ForSome a.files (λ image. map ≡ range_at (byte image (Block n)) 80 8112) → ForSome b.files (λ image. fields ≡ range_at (byte image (Block n)) 0 80) → ForSome a.files (λ image. AreHeaderBytes image n map fields)
header_read n map fields same first second image there = record { map_read = first image there; fields_read = second image (ap (λ (t : Told). t.files) same ∙ there) }

pub returns-in_err-mend_file-clause-stops : goal.returns-in_err-mend_file-clause-stops
returns-in_err-mend_file-clause-stops g c from there groups =
    let same : g.F.Folder.told c.read_exact-2.new.folder ≡ g.F.Folder.told c.args.folder.now = c.in_ok-read_exact-2.ensures.reads.stays ∙ c.in_ok-read_exact.ensures.reads.stays in
    subst (λ (t : Told). PassesNeeded t (g.F.Folder.told c.mend_file.new.folder) (RemakesInProgress c.args.claims.now c.args.file from)) same
    (c.in_err-mend_file.ensures.stops from (ap (λ (t : Told). t.files) same ∙ there) groups (header_read c.args.file c.read_exact.new.out c.read_exact-2.new.out c.in_ok-read_exact.ensures.reads.stays c.in_ok-read_exact.ensures.bytes c.in_ok-read_exact-2.ensures.bytes from there))

pub returns-in_err-mend_file-clause-clean : goal.returns-in_err-mend_file-clause-clean
returns-in_err-mend_file-clause-clean g c from there groups rebuilt =
    let same : g.F.Folder.told c.read_exact-2.new.folder ≡ g.F.Folder.told c.args.folder.now = c.in_ok-read_exact-2.ensures.reads.stays ∙ c.in_ok-read_exact.ensures.reads.stays in
    c.in_err-mend_file.ensures.clean from (ap (λ (t : Told). t.files) same ∙ there) groups (header_read c.args.file c.read_exact.new.out c.read_exact-2.new.out c.in_ok-read_exact.ensures.reads.stays c.in_ok-read_exact.ensures.bytes c.in_ok-read_exact-2.ensures.bytes from there) rebuilt ∙ same

pub returns-clause-stops : goal.returns-clause-stops
returns-clause-stops g c from there groups =
    let same : g.F.Folder.told c.read_exact-2.new.folder ≡ g.F.Folder.told c.args.folder.now = c.in_ok-read_exact-2.ensures.reads.stays ∙ c.in_ok-read_exact.ensures.reads.stays in
    subst (λ (t : Told). PassesNeeded t (g.F.Folder.told c.mend_file.new.folder) (RemakesInProgress c.args.claims.now c.args.file from)) same
    (c.in_ok-mend_file.ensures.stops from (ap (λ (t : Told). t.files) same ∙ there) groups (header_read c.args.file c.read_exact.new.out c.read_exact-2.new.out c.in_ok-read_exact.ensures.reads.stays c.in_ok-read_exact.ensures.bytes c.in_ok-read_exact-2.ensures.bytes from there))

pub returns-clause-clean : goal.returns-clause-clean
returns-clause-clean g c from there groups rebuilt =
    let same : g.F.Folder.told c.read_exact-2.new.folder ≡ g.F.Folder.told c.args.folder.now = c.in_ok-read_exact-2.ensures.reads.stays ∙ c.in_ok-read_exact.ensures.reads.stays in
    c.in_ok-mend_file.ensures.clean from (ap (λ (t : Told). t.files) same ∙ there) groups (header_read c.args.file c.read_exact.new.out c.read_exact-2.new.out c.in_ok-read_exact.ensures.reads.stays c.in_ok-read_exact.ensures.bytes c.in_ok-read_exact-2.ensures.bytes from there) rebuilt ∙ same

pub returns-clause-done : goal.returns-clause-done
returns-clause-done g c from there groups =
    let same : g.F.Folder.told c.read_exact-2.new.folder ≡ g.F.Folder.told c.args.folder.now = c.in_ok-read_exact-2.ensures.reads.stays ∙ c.in_ok-read_exact.ensures.reads.stays in
    c.in_ok-mend_file.ensures.done from (ap (λ (t : Told). t.files) same ∙ there) groups (header_read c.args.file c.read_exact.new.out c.read_exact-2.new.out c.in_ok-read_exact.ensures.reads.stays c.in_ok-read_exact.ensures.bytes c.in_ok-read_exact-2.ensures.bytes from there)
