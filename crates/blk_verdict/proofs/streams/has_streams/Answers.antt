use Rattle.std.proofs.Common.{◌≡◌, Some, sym, ◌∙◌, ap}
use Rattle.std.specs.Prelude.{is_some}
use Rattle.std.specs.Option.{ForSome}
use Rattle.spec_image.specs.Told.{Told}
use Rattle.spec_folder.specs.Entries.{stored_streams}
use Rattle.spec_folder.specs.View.{store_of}
use Rattle.blk_disk.specs.Tables.{Agrees}
use Rattle.blk_entry.proofs.KeyPlaces.{ok_weaker}
use Rattle.blk_audit.specs.Records.{fields_said}
use Rattle.blk_verdict.proofs.StreamFacts.{by_third, no_first, no_fourth_addr, no_fourth_size, no_second}
use Rattle.blk_verdict.proofs.streams.has_streams.Goals.{then-words-ne0-via-then-words-ne0, then-words-ne0-via-else-words-ne0+then-words-ne0-2}
use Rattle.blk_verdict.proofs.streams.has_streams.Goals as goal

pub returns-then-words-ne0-clause-streams : goal.returns-then-words-ne0-clause-streams
returns-then-words-ne0-clause-streams g c image there agrees = elim c.then-words-ne0.branch [
  | then-words-ne0-via-then-words-ne0 w ↦ sym (no_fourth_size image (fields_said c.args.words.now) w.if-words-ne0.true)
  | then-words-ne0-via-else-words-ne0+then-words-ne0-2 w ↦ sym (no_fourth_addr image (fields_said c.args.words.now) w.if-words-ne0-2.true)
]

pub returns-then-not-branch-clause-streams : goal.returns-then-not-branch-clause-streams
returns-then-not-branch-clause-streams g c image there agrees = sym (no_first image (fields_said c.args.words.now) (sym (c.in_ok-has_stream.ensures.stream image there agrees) ∙ c.if-not-branch.true))

pub returns-then-not-branch-2-clause-streams : goal.returns-then-not-branch-2-clause-streams
returns-then-not-branch-2-clause-streams g c image there agrees =
    let now : (g.F.Folder.told c.has_stream.new.folder).files ≡ Some image = ap (λ (t : Told). t.files) c.in_ok-has_stream.ensures.reads.stays ∙ there in
    sym (no_second image (fields_said c.args.words.now) (sym (c.in_ok-has_stream-2.ensures.stream image now agrees) ∙ c.if-not-branch-2.true))

pub returns-clause-streams : goal.returns-clause-streams
returns-clause-streams g c =
    ok_weaker c.has_stream-3.result _ (λ has. ForSome (g.F.Folder.told c.args.folder.now).files (λ image. Agrees c.args.files.now image → has ≡ is_some (stored_streams (store_of image) (fields_said c.args.words.now))))
    (λ has is image there agrees.
    let now : (g.F.Folder.told c.has_stream.new.folder).files ≡ Some image = ap (λ (t : Told). t.files) c.in_ok-has_stream.ensures.reads.stays ∙ there in
    let last : (g.F.Folder.told c.has_stream-2.new.folder).files ≡ Some image = ap (λ (t : Told). t.files) c.in_ok-has_stream-2.ensures.reads.stays ∙ now in
    is image last agrees
    ∙ sym (by_third image (fields_said c.args.words.now) c.if-words-ne0.false c.if-words-ne0-2.false (sym (c.in_ok-has_stream.ensures.stream image there agrees) ∙ c.if-not-branch.false) (sym (c.in_ok-has_stream-2.ensures.stream image now agrees) ∙ c.if-not-branch-2.false)))
    c.has_stream-3.ensures.stream
