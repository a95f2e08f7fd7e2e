use Rattle.std.proofs.Common.{◌≡◌, ℕ, ◌+◌, ◌*◌, ◌≤◌, ⊎_elim, ap, sym, subst, ◌∙◌, arith}
use Rattle.spec_image.specs.Bytes.{range_at}
use Rattle.spec_image.specs.Image.{Block, byte, length_of}
use Rattle.spec_image.specs.Told.{Told}
use Rattle.blk_io.specs.declared.folder.FileId.TheVariants as names
use Rattle.blk_io.specs.declared.fault.Damage.{Damage}
use Rattle.blk_io.specs.Faults.{IsShort}
use Rattle.blk_io.proofs.Carried.{if_damaged_weaker}
use Rattle.blk_audit.specs.Faults.{IsRecordsDamage}
use Rattle.blk_audit.proofs.Carrying.{converted}
use Rattle.blk_audit.proofs.record_files.Records.read_piece.Goals as goal

pub returns-in_err-read_exact-clause-damaged : goal.returns-in_err-read_exact-clause-damaged
returns-in_err-read_exact-clause-damaged g c =
    let now = g.F.Folder.told c.read_exact.new.folder in
    let short_of : Damage → Type 0 = IsShort (g.F.Folder.told c.args.folder.now) (names.Block c.args.file) (8192 + c.from.result * 256) 32768 in
    converted c.read_exact.result c.from_residual.result c.in_err-read_exact.field-0.0 (IsRecordsDamage now) c.in_err-read_exact.was c.from_residual.ensures.1
    (if_damaged_weaker c.read_exact.result short_of (IsRecordsDamage now)
    (λ damage short. record { file = c.args.file; first = c.from.result; short = subst (λ (t : Told). IsShort t (names.Block c.args.file) (8192 + c.from.result * 256) 32768 damage) (sym c.read_exact.ensures.reads.stays) short })
    c.read_exact.ensures.short)

pub returns-clause-records : goal.returns-clause-records
returns-clause-records g c image there are =
    let at : 8192 + c.from.result * 256 ≡ 8192 + c.args.first * 256 = ap (λ (n : ℕ). 8192 + n * 256) c.from.ensures in
    c.in_ok-add_piece.ensures image (g.met.F.Folder.are_bytes c.args.folder.now image there)
    (⊎_elim (λ (inside : 8192 + c.from.result * 256 + 32768 ≤ length_of image (Block c.args.file)). let h : 8192 + c.args.first * 256 + 32768 ≤ length_of image (Block c.args.file) = omega (arith, inside, c.from.ensures) in h) (λ (none : ◌≡◌ {A = ℕ} 32768 0). absurd (omega (arith, none))) (c.in_ok-read_exact.ensures.inside image there))
    (c.in_ok-read_exact.ensures.bytes image there ∙ ap (λ (p : ℕ). range_at (byte image (Block c.args.file)) p 32768) at) are
