use Rattle.std.proofs.Common.{◌≡◌, ℕ, true, false, not, sym, ap, ◌∙◌, subst}
use Rattle.spec_folder.specs.View.{RecordFields, entry_at, fields_of}
use Rattle.blk_disk.specs.Tables.{is_record_among}
use Rattle.blk_audit.specs.ReadLists.{is_named_by}
use Rattle.blk_audit.proofs.Truths.{none_by, test_by, value_by}
use Rattle.blk_verdict.proofs.ListedFacts.{entry_shown, listed_is, listed_nowhere}
use Rattle.blk_verdict.proofs.listing.is_unlisted.Goals as goal

pub returns-in_default-clause-unlisted : goal.returns-in_default-clause-unlisted
returns-in_default-clause-unlisted g c image there agrees are =
    sym (listed_nowhere c.args.files.now image c.args.word agrees (none_by (is_record_among c.args.files.now c.args.word) c.args.word (sym c.in_default.is ∙ c.entry.ensures.entry)))

pub returns-then-not-is_named-clause-unlisted : goal.returns-then-not-is_named-clause-unlisted
returns-then-not-is_named-clause-unlisted g c image there agrees are =
    let named : c.in-Some.entry ≡ c.args.word = value_by (is_record_among c.args.files.now c.args.word) c.args.word c.in-Some.entry (sym c.in-Some.is ∙ c.entry.ensures.entry) in
    let among : is_record_among c.args.files.now c.args.word ≡ true = test_by (is_record_among c.args.files.now c.args.word) c.args.word c.in-Some.entry (sym c.in-Some.is ∙ c.entry.ensures.entry) in
    let fields : RecordFields = fields_of (entry_at image c.args.word) in
    let free : is_named_by image fields.rankings_node c.args.word ≡ false =
    subst (λ (w : ℕ). is_named_by image fields.rankings_node w ≡ false) named (c.is_named.ensures image are c.if-not-is_named.true fields.rankings_node) in
    sym (listed_is image c.args.word fields (entry_shown c.args.files.now image c.args.word agrees among) ∙ ap not free)

pub returns-clause-unlisted : goal.returns-clause-unlisted
returns-clause-unlisted g c image there agrees are =
    let named : c.in-Some.entry ≡ c.args.word = value_by (is_record_among c.args.files.now c.args.word) c.args.word c.in-Some.entry (sym c.in-Some.is ∙ c.entry.ensures.entry) in
    let among : is_record_among c.args.files.now c.args.word ≡ true = test_by (is_record_among c.args.files.now c.args.word) c.args.word c.in-Some.entry (sym c.in-Some.is ∙ c.entry.ensures.entry) in
    let fields : RecordFields = fields_of (entry_at image c.args.word) in
    let said = c.in_ok-said.ensures.said image there are in
    let node : c.in_ok-said.said.words.node ≡ fields.rankings_node = ap (λ (f : RecordFields). f.rankings_node) said.words.fields ∙ ap (λ (w : ℕ). (entry_at image w).rankings_node) named in
    ap not (c.is_listed-listed.ensures image are ∙ ap (is_named_by image c.in_ok-said.said.words.node) named ∙ ap (λ (n : ℕ). is_named_by image n c.args.word) node)
    ∙ sym (listed_is image c.args.word fields (entry_shown c.args.files.now image c.args.word agrees among))
