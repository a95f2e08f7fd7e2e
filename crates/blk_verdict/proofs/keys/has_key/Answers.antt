use Rattle.std.proofs.Common.{◌≡◌, ℕ, ◌∙◌}
use Rattle.std.specs.Prelude.{is_some}
use Rattle.std.specs.Option.{ForSome}
use Rattle.spec_folder.specs.Entries.{stored_key}
use Rattle.spec_folder.specs.View.{store_of}
use Rattle.blk_disk.specs.Tables.{Agrees}
use Rattle.blk_entry.proofs.KeyPlaces.{ok_weaker}
use Rattle.blk_audit.specs.Records.{fields_said}
use Rattle.blk_verdict.proofs.KeyFacts.{long_there, short_there}
use Rattle.blk_verdict.proofs.keys.has_key.Goals as goal

pub returns-then-words-le-LONGEST_SHORT_KEY-clause-key : goal.returns-then-words-le-LONGEST_SHORT_KEY-clause-key
returns-then-words-le-LONGEST_SHORT_KEY-clause-key g c image there entry agrees = short_there image entry c.args.words.now c.if-words-le-LONGEST_SHORT_KEY.true

pub returns-clause-key : goal.returns-clause-key
returns-clause-key g c =
    ok_weaker c.is_stored.result _ (λ has. ForSome (g.F.Folder.told c.args.folder.now).files (λ image. (entry : ℕ) → Agrees c.args.files.now image → has ≡ is_some (stored_key (store_of image) entry (fields_said c.args.words.now))))
    (λ has is image there entry agrees. is image there agrees ∙ long_there image entry c.args.words.now c.if-words-le-LONGEST_SHORT_KEY.false) c.is_stored.ensures.stored
