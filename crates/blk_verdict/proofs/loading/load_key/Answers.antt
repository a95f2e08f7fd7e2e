use Rattle.std.proofs.Common.{◌≡◌, ℕ, true, false, List, Result, refl, sym, ◌∙◌, ap, subst}
use Rattle.std.specs.Prelude.{◌==◌, is_some}
use Rattle.std.specs.Option.{ForSome}
use Rattle.std.proofs.lemmas.Bool.{eq-eqb}
use Rattle.spec_format.specs.BlockFiles.{is_among}
use Rattle.spec_format.specs.Hash.{hash}
use Rattle.spec_folder.specs.Chains.{bucket_of_hash, chain}
use Rattle.spec_folder.specs.Entries.{stored_key}
use Rattle.spec_folder.specs.Loads as shown
use Rattle.spec_folder.specs.Reasons as reasons
use Rattle.spec_folder.specs.View.{store_of}
use Rattle.blk_disk.specs.Tables.{Agrees}
use Rattle.blk_entry.proofs.KeyPlaces.{ok_weaker}
use Rattle.spec_image.specs.Told.{Told}
use Rattle.blk_io.proofs.Carried.{if_damaged_weaker}
use Rattle.blk_lru.proofs.Conditions.{told_now, told_stays}
use Rattle.blk_audit.specs.Records.{IsRightWhereSaid, fields_said}
use Rattle.blk_verdict.specs.Loading as loading
use Rattle.blk_verdict.specs.PartNames.{IsNameInPrefix}
use Rattle.blk_verdict.specs.Verdicts.{IsVerdict}
use Rattle.blk_verdict.specs.declared.reason.Reason.TheVariants as reason
use Rattle.blk_verdict.proofs.Joined.{data_with_key, has_value}
use Rattle.blk_verdict.proofs.KeyFacts.{key_length}
use Rattle.blk_verdict.proofs.VerdictFacts.{differs, dropped}
use Rattle.blk_verdict.proofs.loading.load_key.Goals as goal

pub returns-then-said-sum-clause-verdict : goal.returns-then-said-sum-clause-verdict
returns-then-said-sum-clause-verdict g c image there dirty agrees stored sums reached =
    let key = has_value (List ℕ) (stored_key (store_of image) c.args.entry (fields_said c.args.said.now.words)) stored in
    let other : (c.args.said.now.words.hash == hash key.value) ≡ false = differs c.args.said.now.words.hash (hash key.value) (λ e. c.if-said-sum.true (e ∙ sym (c.in_ok-sum.ensures.sum image there sums key.value key.is))) in
    dropped _ reason.Hash (data_with_key (store_of image) c.args.node c.args.entry dirty (fields_said c.args.said.now.words) key.value false _ key.is other refl)

pub returns-then-not-reached-clause-verdict : goal.returns-then-not-reached-clause-verdict
returns-then-not-reached-clause-verdict g c image there dirty agrees stored sums reached =
    let key = has_value (List ℕ) (stored_key (store_of image) c.args.entry (fields_said c.args.said.now.words)) stored in
    let same : (c.args.said.now.words.hash == hash key.value) ≡ true = eq-eqb _ _ (c.if-said-sum.false ∙ c.in_ok-sum.ensures.sum image there sums key.value key.is) in
    dropped _ reason.Chain (data_with_key (store_of image) c.args.node c.args.entry dirty (fields_said c.args.said.now.words) key.value true false key.is same (sym reached ∙ c.if-not-reached.true))

pub returns-clause-verdict : goal.returns-clause-verdict
returns-clause-verdict g c =
    ok_weaker c.load_streams.result _
    (λ verdict. ForSome (g.F.Folder.told c.args.folder.now).files (λ image. (dirty : ℕ) → Agrees c.args.files.now image → is_some (stored_key (store_of image) c.args.entry (fields_said c.args.said.now.words)) ≡ true → IsRightWhereSaid image c.args.entry c.args.said.now
    → c.args.reached ≡ is_among (chain (store_of image) (bucket_of_hash c.args.said.now.words.hash)).reached c.args.entry → IsVerdict (loading.load_data (store_of image) c.args.node c.args.entry dirty (fields_said c.args.said.now.words)) verdict))
    (λ verdict is image there dirty agrees stored sums reached.
    let key = has_value (List ℕ) (stored_key (store_of image) c.args.entry (fields_said c.args.said.now.words)) stored in
    let right : c.args.said.now.words.hash ≡ hash key.value = c.if-said-sum.false ∙ c.in_ok-sum.ensures.sum image there sums key.value key.is in
    subst (λ (r : Result shown.Loaded reasons.Reason). IsVerdict r verdict) (sym (data_with_key (store_of image) c.args.node c.args.entry dirty (fields_said c.args.said.now.words) key.value true true key.is (eq-eqb _ _ right) (sym reached ∙ c.if-not-reached.false)))
    (is image (told_now image c.in_ok-sum.ensures.reads.stays there) dirty key.value agrees (sym (key_length image c.args.entry (fields_said c.args.said.now.words) key.value key.is)) right (λ part. sym (c.in_ok-sum.ensures.key image there part key.value key.is))))
    c.load_streams.ensures.verdict

pub returns-clause-named : goal.returns-clause-named
returns-clause-named g c =
    ok_weaker c.load_streams.result _
    (λ verdict. ForSome (g.F.Folder.told c.args.folder.now).files (λ image. Agrees c.args.files.now image → IsNameInPrefix image verdict c.key_sum.new.name))
    (λ verdict is image there agrees. is image (told_now image c.in_ok-sum.ensures.reads.stays there) agrees (c.in_ok-sum.ensures.key image there))
    c.load_streams.ensures.named

pub returns-clause-untold : goal.returns-clause-untold
returns-clause-untold g c agrees stored =
    if_damaged_weaker c.load_streams.result _ _ (λ damage none. ap (λ (t : Told). t.files) (sym c.in_ok-sum.ensures.reads.stays) ∙ none)
    (c.load_streams.ensures.untold (told_stays (Agrees c.args.files.now) c.in_ok-sum.ensures.reads.stays agrees))
