use Rattle.std.proofs.Common.{refl, ◌≡◌, ◌<◌, ℕ, None, Some, Err, slice_index_or, sym, ◌∙◌, ap, subst, true}
use Rattle.spec_image.specs.Told.{Told}
use Rattle.spec_format.specs.Address.{is_address}
use Rattle.blk_io.proofs.Carried.{if_damaged_weaker, untold_where}
use Rattle.blk_entry.specs.Keys.{IsInFile}
use Rattle.blk_entry.proofs.KeyPlaces.{damaged_any}
use Rattle.blk_stream.specs.Streams.{address_word, size_word}
use Rattle.blk_object.specs.FailedChecks.{FailsShort}
use Rattle.blk_object.proofs.DamageChecks.{handed, head-checked, moved}
use Rattle.blk_object.proofs.WriteChecks.{unplaced-checked}
use Rattle.blk_object.proofs.StreamsThere.{address_is, more_than_none, no_address, none_address, size_in_head, word_in_head}
use Rattle.blk_object.proofs.writing.check_stream.Goals as goal

pub returns-in_default-clause-untold : goal.returns-in_default-clause-untold
returns-in_default-clause-untold g c agrees has =
    damaged_any {A = Unit {0}} (Err c.unplaced.result) ((g.F.Folder.told c.args.folder.now).files ≡ None)
    (untold_where (g.F.Folder.told c.args.folder.now).files
    (λ image there.
    let head = c.in_ok-head.ensures.head image there in
    let size = size_in_head image c.args.entry c.args.stream c.from.result c.in_ok-head.head head c.from.ensures in
    let word = word_in_head image c.args.entry c.args.stream c.from-2.result c.in_ok-head.head head c.from-2.ensures in
    let more : 0 < size_word image c.args.entry c.args.stream = more_than_none (slice_index_or c.in_ok-head.head.sizes c.from.result 0) (size_word image c.args.entry c.args.stream) c.if-size-eq0.false size in
    no_address (slice_index_or c.in_ok-head.head.addrs c.from-2.result 0) c.from_word.result c.from_word.ensures c.in_default.is
    (subst (λ (v : ℕ). is_address v ≡ true) (sym word) ((has image there).address more))))

pub returns-clause-untold : goal.returns-clause-untold
returns-clause-untold g c agrees has =
    if_damaged_weaker c.check_length.result (λ _. (g.F.Folder.told c.read_head.new.folder).files ≡ None) (λ _. (g.F.Folder.told c.args.folder.now).files ≡ None) (λ damage none. ap (λ (t : Told). t.files) (sym c.in_ok-head.ensures.reads.stays) ∙ none)
    (c.check_length.ensures.untold
    (λ image now.
    let there : (g.F.Folder.told c.args.folder.now).files ≡ Some image = ap (λ (t : Told). t.files) (sym c.in_ok-head.ensures.reads.stays) ∙ now in
    let head = c.in_ok-head.ensures.head image there in
    let size = size_in_head image c.args.entry c.args.stream c.from.result c.in_ok-head.head head c.from.ensures in
    let word = word_in_head image c.args.entry c.args.stream c.from-2.result c.in_ok-head.head head c.from-2.ensures in
    let addr : c.in-Some.addr ≡ address_word image c.args.entry c.args.stream = address_is (slice_index_or c.in_ok-head.head.addrs c.from-2.result 0) c.in-Some.addr c.from_word.result c.from_word.ensures c.in-Some.is ∙ word in
    subst (λ (v : ℕ). IsInFile v 0 (slice_index_or c.in_ok-head.head.sizes c.from.result 0) image) (sym addr)
    (subst (λ (n : ℕ). IsInFile (address_word image c.args.entry c.args.stream) 0 n image) (sym size) (has image there).there)))

pub returns-in_err-head-clause-damaged : goal.returns-in_err-head-clause-damaged
returns-in_err-head-clause-damaged g c =
    handed c.read_head.result c.from_residual.result c.in_err-head.field-0.0 _ c.args.files.now (g.F.Folder.told c.read_head.new.folder)
    (λ damage head. moved c.args.files.now (g.F.Folder.told c.args.folder.now) (g.F.Folder.told c.read_head.new.folder) damage c.read_head.ensures.reads.stays (head-checked c.args.files.now (g.F.Folder.told c.args.folder.now) c.args.entry damage c.requires.kind c.requires.stands head)) c.in_err-head.was c.from_residual.ensures.1 c.read_head.ensures.damaged

pub returns-in_default-clause-damaged : goal.returns-in_default-clause-damaged
returns-in_default-clause-damaged g c =
    let size : ℕ = slice_index_or c.in_ok-head.head.sizes c.from.result 0 in
    let word : ℕ = slice_index_or c.in_ok-head.head.addrs c.from-2.result 0 in
    unplaced-checked c.args.files.now (g.F.Folder.told c.read_head.new.folder) c.args.entry c.args.stream size word c.unplaced.result c.requires.kind c.requires.stands (more_than_none size size c.if-size-eq0.false refl)
    (none_address word c.from_word.result c.from_word.ensures c.in_default.is) c.unplaced.ensures

pub returns-clause-damaged : goal.returns-clause-damaged
returns-clause-damaged g c = if_damaged_weaker c.check_length.result _ _ (λ damage few. FailsShort few) c.check_length.ensures.damaged
