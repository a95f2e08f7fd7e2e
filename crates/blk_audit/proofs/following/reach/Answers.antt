use Rattle.std.proofs.Common.{◌≡◌, ℕ, ◌%◌, ◌++◌, ◌∷◌, [], Bool, true, false, ◌&&◌, map, refl, sym, ap, subst, ◌∙◌}
use Rattle.std.specs.Prelude.{◌==◌}
use Rattle.std.proofs.lemmas.Bool.{ne_eqb, eq-eqb}
use Rattle.spec_format.specs.Address.{blocks_256}
use Rattle.spec_folder.specs.Chains.{file_and_block, is_of_bucket}
use Rattle.spec_folder.specs.View.{stands_as, store_of}
use Rattle.blk_disk.specs.Tables.{is_record_among}
use Rattle.blk_audit.specs.Chaining.{is_block_met, words_reached}
use Rattle.blk_audit.specs.Records.{IsSaidBy}
use Rattle.blk_audit.proofs.Carrying.{converted}
use Rattle.blk_audit.proofs.Chained.{reach_stops, reach_on, not_reached, not_new, reached_new}
use Rattle.blk_audit.proofs.Ends.{stand_more}
use Rattle.blk_audit.proofs.ReadChains.{met_there, none_named}
use Rattle.blk_audit.proofs.Shown.{names_stand, next_is, of_bucket_by, of_none, of_is}
use Rattle.blk_audit.proofs.Truths.{none_by, test_by, value_by, true_not, false_not}
use Rattle.blk_audit.proofs.following.reach.Goals as goal

pub returns-in_default-clause-step : goal.returns-in_default-clause-step
returns-in_default-clause-step g c image there agrees =
    let absent : stands_as image blocks_256 c.args.word ≡ false =
    sym (names_stand c.args.files.now image c.args.word agrees) ∙ none_by (is_record_among c.args.files.now c.args.word) c.args.word (sym c.in_default.is ∙ c.entry.ensures.entry) in
    reach_stops (store_of image) c.args.bucket c.args.reached.now.words.items c.args.word
    (not_reached (store_of image) c.args.bucket (map file_and_block c.args.reached.now.words.items) c.args.word (of_none image c.args.bucket c.args.word absent))

pub returns-then-has-clause-step : goal.returns-then-has-clause-step
returns-then-has-clause-step g c image there agrees =
    let named : c.in-Some.addr ≡ c.args.word = value_by (is_record_among c.args.files.now c.args.word) c.args.word c.in-Some.addr (sym c.in-Some.is ∙ c.entry.ensures.entry) in
    let met : is_block_met c.args.reached.now.words.items c.args.word ≡ true = sym (ap (is_block_met c.args.reached.now.words.items) named) ∙ sym c.has.ensures ∙ c.if-has.true in
    reach_stops (store_of image) c.args.bucket c.args.reached.now.words.items c.args.word
    (not_new (store_of image) c.args.bucket (map file_and_block c.args.reached.now.words.items) c.args.word met)

pub returns-in_err-said-clause-untold : goal.returns-in_err-said-clause-untold
returns-in_err-said-clause-untold g c agrees =
    converted c.record_of.result c.from_residual.result c.in_err-said.field-0.0 _ c.in_err-said.was c.from_residual.ensures.1 (c.record_of.ensures.untold agrees)

pub returns-then-not-said-clause-step : goal.returns-then-not-said-clause-step
returns-then-not-said-clause-step g c image there agrees =
    let named : c.in-Some.addr ≡ c.args.word = value_by (is_record_among c.args.files.now c.args.word) c.args.word c.in-Some.addr (sym c.in-Some.is ∙ c.entry.ensures.entry) in
    let stand : stands_as image blocks_256 c.args.word ≡ true =
    sym (names_stand c.args.files.now image c.args.word agrees) ∙ test_by (is_record_among c.args.files.now c.args.word) c.args.word c.in-Some.addr (sym c.in-Some.is ∙ c.entry.ensures.entry) in
    let is : IsSaidBy image c.args.word c.in_ok-said.said = subst (λ (w : ℕ). IsSaidBy image w c.in_ok-said.said) named (c.in_ok-said.ensures.said image there (c.requires.records image there)) in
    let bad : c.in_ok-said.said.words.checks ≡ false = true_not c.in_ok-said.said.words.checks (sym c.if-not-said.true) in
    reach_stops (store_of image) c.args.bucket c.args.reached.now.words.items c.args.word
    (not_reached (store_of image) c.args.bucket (map file_and_block c.args.reached.now.words.items) c.args.word
    (of_is image c.args.bucket c.args.word c.in_ok-said.said stand is ∙ ap (λ (t : Bool). t && (c.in_ok-said.said.words.hash % 65536 == c.args.bucket)) bad))

pub returns-then-said-bucket-clause-step : goal.returns-then-said-bucket-clause-step
returns-then-said-bucket-clause-step g c image there agrees =
    let named : c.in-Some.addr ≡ c.args.word = value_by (is_record_among c.args.files.now c.args.word) c.args.word c.in-Some.addr (sym c.in-Some.is ∙ c.entry.ensures.entry) in
    let stand : stands_as image blocks_256 c.args.word ≡ true =
    sym (names_stand c.args.files.now image c.args.word agrees) ∙ test_by (is_record_among c.args.files.now c.args.word) c.args.word c.in-Some.addr (sym c.in-Some.is ∙ c.entry.ensures.entry) in
    let is : IsSaidBy image c.args.word c.in_ok-said.said = subst (λ (w : ℕ). IsSaidBy image w c.in_ok-said.said) named (c.in_ok-said.ensures.said image there (c.requires.records image there)) in
    let other : (c.in_ok-said.said.words.hash % 65536 == c.args.bucket) ≡ false = ne_eqb (c.in_ok-said.said.words.hash % 65536) c.args.bucket c.if-said-bucket.true in
    reach_stops (store_of image) c.args.bucket c.args.reached.now.words.items c.args.word
    (not_reached (store_of image) c.args.bucket (map file_and_block c.args.reached.now.words.items) c.args.word
    (of_is image c.args.bucket c.args.word c.in_ok-said.said stand is ∙ of_bucket_by c.in_ok-said.said.words.checks (c.in_ok-said.said.words.hash % 65536 == c.args.bucket) other))

pub returns-clause-step : goal.returns-clause-step
returns-clause-step g c image there agrees =
    let named : c.in-Some.addr ≡ c.args.word = value_by (is_record_among c.args.files.now c.args.word) c.args.word c.in-Some.addr (sym c.in-Some.is ∙ c.entry.ensures.entry) in
    let stand : stands_as image blocks_256 c.args.word ≡ true =
    sym (names_stand c.args.files.now image c.args.word agrees) ∙ test_by (is_record_among c.args.files.now c.args.word) c.args.word c.in-Some.addr (sym c.in-Some.is ∙ c.entry.ensures.entry) in
    let is : IsSaidBy image c.args.word c.in_ok-said.said = subst (λ (w : ℕ). IsSaidBy image w c.in_ok-said.said) named (c.in_ok-said.ensures.said image there (c.requires.records image there)) in
    let fresh : is_block_met c.args.reached.now.words.items c.args.word ≡ false = sym (ap (is_block_met c.args.reached.now.words.items) named) ∙ sym c.has.ensures ∙ c.if-has.false in
    let good : c.in_ok-said.said.words.checks ≡ true = false_not c.in_ok-said.said.words.checks (sym c.if-not-said.false) in
    let of : is_of_bucket (store_of image) c.args.bucket c.args.word ≡ true =
    of_is image c.args.bucket c.args.word c.in_ok-said.said stand is
    ∙ ap (λ (t : Bool). t && (c.in_ok-said.said.words.hash % 65536 == c.args.bucket)) good
    ∙ eq-eqb (c.in_ok-said.said.words.hash % 65536) c.args.bucket c.if-said-bucket.false in
    let items : c.add.new.self.words.items ≡ c.args.reached.now.words.items ++ c.args.word ∷ [] = c.in_ok-add.ensures.added ∙ ap (λ (w : ℕ). c.args.reached.now.words.items ++ w ∷ []) named in
    reach_on (store_of image) c.args.bucket c.args.reached.now.words.items c.add.new.self.words.items c.args.word c.in_ok-said.said.words.next
    (reached_new (store_of image) c.args.bucket (map file_and_block c.args.reached.now.words.items) c.args.word fresh of)
    (next_is image c.args.word c.in_ok-said.said stand is)
    items

pub returns-in_default-clause-checked : goal.returns-in_default-clause-checked
returns-in_default-clause-checked g c image there =
    none_named c.args.files.now image c.args.word (none_by (is_record_among c.args.files.now c.args.word) c.args.word (sym c.in_default.is ∙ c.entry.ensures.entry))

pub returns-then-has-clause-checked : goal.returns-then-has-clause-checked
returns-then-has-clause-checked g c image there =
    let named : c.in-Some.addr ≡ c.args.word = value_by (is_record_among c.args.files.now c.args.word) c.args.word c.in-Some.addr (sym c.in-Some.is ∙ c.entry.ensures.entry) in
    let met : is_block_met c.args.reached.now.words.items c.args.word ≡ true = sym (ap (is_block_met c.args.reached.now.words.items) named) ∙ sym c.has.ensures ∙ c.if-has.true in
    met_there c.args.files.now image c.args.reached.now.words.items c.args.word (c.requires.there image there) met

pub returns-then-not-said-clause-checked : goal.returns-then-not-said-clause-checked
returns-then-not-said-clause-checked g c image there is =
    let named : c.in-Some.addr ≡ c.args.word = value_by (is_record_among c.args.files.now c.args.word) c.args.word c.in-Some.addr (sym c.in-Some.is ∙ c.entry.ensures.entry) in
    let said : IsSaidBy image c.args.word c.in_ok-said.said = subst (λ (w : ℕ). IsSaidBy image w c.in_ok-said.said) named (c.in_ok-said.ensures.said image there (c.requires.records image there)) in
    said.there

pub returns-then-said-bucket-clause-checked : goal.returns-then-said-bucket-clause-checked
returns-then-said-bucket-clause-checked g c image there is =
    let named : c.in-Some.addr ≡ c.args.word = value_by (is_record_among c.args.files.now c.args.word) c.args.word c.in-Some.addr (sym c.in-Some.is ∙ c.entry.ensures.entry) in
    let said : IsSaidBy image c.args.word c.in_ok-said.said = subst (λ (w : ℕ). IsSaidBy image w c.in_ok-said.said) named (c.in_ok-said.ensures.said image there (c.requires.records image there)) in
    said.there

pub returns-clause-checked : goal.returns-clause-checked
returns-clause-checked g c image there is =
    let named : c.in-Some.addr ≡ c.args.word = value_by (is_record_among c.args.files.now c.args.word) c.args.word c.in-Some.addr (sym c.in-Some.is ∙ c.entry.ensures.entry) in
    let said : IsSaidBy image c.args.word c.in_ok-said.said = subst (λ (w : ℕ). IsSaidBy image w c.in_ok-said.said) named (c.in_ok-said.ensures.said image there (c.requires.records image there)) in
    said.there

pub returns-clause-taken : goal.returns-clause-taken
returns-clause-taken g c image there =
    let named : c.in-Some.addr ≡ c.args.word = value_by (is_record_among c.args.files.now c.args.word) c.args.word c.in-Some.addr (sym c.in-Some.is ∙ c.entry.ensures.entry) in
    let said : IsSaidBy image c.args.word c.in_ok-said.said = subst (λ (w : ℕ). IsSaidBy image w c.in_ok-said.said) named (c.in_ok-said.ensures.said image there (c.requires.records image there)) in
    let items : c.add.new.self.words.items ≡ c.args.reached.now.words.items ++ c.args.word ∷ [] = c.in_ok-add.ensures.added ∙ ap (λ (w : ℕ). c.args.reached.now.words.items ++ w ∷ []) named in
    (items, (said.words.next, record { named = test_by (is_record_among c.args.files.now c.args.word) c.args.word c.in-Some.addr (sym c.in-Some.is ∙ c.entry.ensures.entry); there = said.there }))

pub returns-clause-stand : goal.returns-clause-stand
returns-clause-stand g c =
    stand_more c.args.files.now (words_reached c.args.reached.now) (words_reached c.add.new.self) c.in-Some.addr c.args.word c.in_ok-add.ensures.added c.requires.stand
    (value_by (is_record_among c.args.files.now c.args.word) c.args.word c.in-Some.addr (sym c.in-Some.is ∙ c.entry.ensures.entry))
    (test_by (is_record_among c.args.files.now c.args.word) c.args.word c.in-Some.addr (sym c.in-Some.is ∙ c.entry.ensures.entry))

pub returns-in_default-clause-ends : goal.returns-in_default-clause-ends
returns-in_default-clause-ends g c = record { ends = refl; closed = refl }

pub returns-then-has-clause-ends : goal.returns-then-has-clause-ends
returns-then-has-clause-ends g c = record { ends = refl; closed = refl }

pub returns-then-not-said-clause-ends : goal.returns-then-not-said-clause-ends
returns-then-not-said-clause-ends g c = record { ends = refl; closed = refl }

pub returns-then-said-bucket-clause-ends : goal.returns-then-said-bucket-clause-ends
returns-then-said-bucket-clause-ends g c = record { ends = refl; closed = refl }
