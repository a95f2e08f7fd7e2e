use Rattle.std.proofs.Common.{◌++◌, ◌∷◌, [], ℕ, List, subst, ◌∙◌, ap}
use Rattle.spec_image.specs.Bytes.{content, zeros}
use Rattle.spec_image.specs.Image.{Block}
use Rattle.spec_image.specs.Checks.{first_of}
use Rattle.spec_image.specs.Told.{Told, GivesBytes}
use Rattle.spec_format.specs.BlockFiles.{file_checks}
use Rattle.blk_addr.specs.Kind.{kind_number}
use Rattle.blk_disk.specs.Tables.{all_files}
use Rattle.blk_disk.specs.Loading.{AnswersFileHeader, files_left}
use Rattle.blk_disk.proofs.Windows.{judged, length_given}
use Rattle.blk_disk.proofs.tables.BlockFiles.read_head.Goals as goal

pub returns-clause-read : goal.returns-clause-read
unfolding zeros
returns-clause-read g c image there =
    let new = c.read_at.new.out in
    let given = c.in_ok-given.given in
    let n : ℕ = c.args.n in
    let kind : ℕ = kind_number c.args.kind in
    let files = c.args.self.now in
    let gives : GivesBytes image (Block n) 0 (zeros 80) new given = c.in_ok-given.ensures.bytes image there in
    let there_then = ap (λ (t : Told). t.files) c.in_ok-given.ensures.stays ∙ there in
    let size : ℕ = c.unwrap_or-size.result in
    let is = c.unwrap_or-size.ensures ∙ length_given (image (Block n)) c.in_ok-length.field-0 (c.in_ok-length.ensures.length image there_then) in
    let judges = subst (λ (l : List ℕ). AnswersFileHeader (first_of (file_checks kind (all_files files ++ n ∷ []) (files_left files kind) n (content l) size)) (content l) size given c.judge.result) c.in-Some.ensures.same c.judge.ensures.judged in
    judged files image kind n given new size c.judge.result gives is judges
