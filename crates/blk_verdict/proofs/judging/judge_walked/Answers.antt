use Rattle.std.proofs.Common.{◌∙◌, ◌∷◌, [], List, Result, sym, ap, subst, arith}
use Rattle.std.specs.Option.{ForSome}
use Rattle.std.proofs.lemmas.List.{length-take-le}
use Rattle.std.proofs.lemmas.Result.{IfOk-weaker}
use Rattle.spec_image.specs.Image.{Image}
use Rattle.spec_image.specs.Told.{Told}
use Rattle.blk_audit.specs.ReadLists.{AreListsOf, IsSaidAt}
use Rattle.blk_audit.proofs.Carrying.{weaker}
use Rattle.spec_folder.specs.Audit as audit
use Rattle.spec_folder.specs.Reasons as reasons
use Rattle.spec_folder.specs.Loads as shown
use Rattle.spec_folder.specs.Loads.{held_rule}
use Rattle.spec_folder.specs.View.{store_of}
use Rattle.blk_disk.specs.Tables.{Agrees}
use Rattle.blk_entry.proofs.KeyPlaces.{may_have_parts}
use Rattle.blk_lru.proofs.Conditions.{told_now, told_stays}
use Rattle.blk_verdict.specs.Keyed.{HasItsKey}
use Rattle.blk_verdict.specs.Kept.{AreShown, HaveKeys, IsSameAnswer}
use Rattle.blk_verdict.specs.PartNames.{IsNameInPrefix}
use Rattle.blk_verdict.specs.Readable.{IsReadableIf}
use Rattle.blk_verdict.specs.Verdicts.{IsVerdict}
use Rattle.blk_verdict.specs.declared.loading.Verdict.{Verdict}
use Rattle.blk_verdict.proofs.JudgedFacts.{all_of, has_key, judged, keys_with}
use Rattle.blk_verdict.proofs.judging.judge_walked.Goals as goal

pub returns-in-Loaded-clause-keys : goal.returns-in-Loaded-clause-keys
returns-in-Loaded-clause-keys g c =
    IfOk-weaker c.admit.result _
    (λ reason. ForSome (g.F.Folder.told c.args.folder.now).files (λ image. Agrees c.args.files.now image → AreListsOf image c.args.lists.now → IsSaidAt image c.args.node.now → HaveKeys image c.args.kept.now.kept.items → HaveKeys image c.admit.new.self.kept.items))
    (λ reason kept image there agrees are fields keys.
    let loaded = subst (IsVerdict (shown.load (store_of image) held_rule c.args.node.now.addr)) c.in-Loaded.is (c.in_ok-loaded.ensures.verdict image there agrees are fields) in
    let one = judged image [] c.args.node.now.addr c.in-Loaded.loaded loaded in
    subst (HaveKeys image) (sym kept) (keys_with image c.args.kept.now.kept.items c.in-Loaded.loaded reason (has_key image one.loaded c.in-Loaded.loaded one.known) keys))
    c.admit.ensures.kept

pub returns-in-Loaded-clause-untold : goal.returns-in-Loaded-clause-untold
returns-in-Loaded-clause-untold g c agrees walked keys =
    weaker c.admit.result _ _ (λ damage none. ap (λ (t : Told). t.files) (sym c.in_ok-loaded.ensures.reads.stays) ∙ none)
    (c.admit.ensures.untold (told_stays (Agrees c.args.files.now) c.in_ok-loaded.ensures.reads.stays agrees)
    (told_stays (λ (image : Image). HaveKeys image (c.in-Loaded.loaded ∷ c.args.kept.now.kept.items)) c.in_ok-loaded.ensures.reads.stays
    (λ image there.
    let at = walked image there in
    let loaded = subst (IsVerdict (shown.load (store_of image) held_rule c.args.node.now.addr)) c.in-Loaded.is (c.in_ok-loaded.ensures.verdict image there (agrees image there) at.0 at.1) in
    let one = judged image [] c.args.node.now.addr c.in-Loaded.loaded loaded in
    all_of (HasItsKey image) c.in-Loaded.loaded c.args.kept.now.kept.items (has_key image one.loaded c.in-Loaded.loaded one.known) (keys image there))))

pub slice_bounds-key-end : goal.slice_bounds-key-end
slice_bounds-key-end g c =
    let readable = subst (IsReadableIf c.args.files.now) c.in-Loaded.is c.in_ok-loaded.ensures.readable in
    let few = (may_have_parts c.in-Loaded.loaded.entry c.in-Loaded.loaded.key_len readable.placed.has).1 in
    omega (arith, few, c.load_walked.auto.name, c.requires.room)

pub slice_bounds-key-end-in-Loaded : goal.slice_bounds-key-end-in-Loaded
slice_bounds-key-end-in-Loaded g c =
    let readable = subst (IsReadableIf c.args.files.now) c.in-Loaded.is c.in_ok-loaded.ensures.readable in
    let few = (may_have_parts c.in-Loaded.loaded.entry c.in-Loaded.loaded.key_len readable.placed.has).1 in
    sym (length-take-le c.in-Loaded.loaded.key_len c.load_walked.new.name (omega (arith, few, c.load_walked.auto.name, c.requires.room)))

pub returns-in-Loaded-clause-answer : goal.returns-in-Loaded-clause-answer
returns-in-Loaded-clause-answer g c =
    IfOk-weaker c.admit.result _
    (λ reason. ForSome (g.F.Folder.told c.args.folder.now).files (λ image. Agrees c.args.files.now image → AreListsOf image c.args.lists.now → IsSaidAt image c.args.node.now → (so_far : List shown.Loaded) → AreShown image so_far c.args.kept.now.kept.items → IsSameAnswer (audit.verdict (store_of image) held_rule so_far c.args.node.now.addr) reason))
    (λ reason is image there agrees are fields so_far shows.
    let loaded = subst (IsVerdict (shown.load (store_of image) held_rule c.args.node.now.addr)) c.in-Loaded.is (c.in_ok-loaded.ensures.verdict image there agrees are fields) in
    let named = subst (λ (v : Verdict). IsNameInPrefix image v c.load_walked.new.name) c.in-Loaded.is (c.in_ok-loaded.ensures.named image there agrees) in
    let one = judged image so_far c.args.node.now.addr c.in-Loaded.loaded loaded in
    subst (λ (r : Result shown.Loaded reasons.Reason). IsSameAnswer r reason) (sym one.is) (is image (told_now image c.in_ok-loaded.ensures.reads.stays there) agrees so_far one.loaded shows one.known named))
    c.admit.ensures.answer

pub returns-in-Loaded-clause-shown : goal.returns-in-Loaded-clause-shown
returns-in-Loaded-clause-shown g c =
    IfOk-weaker c.admit.result _
    (λ reason. ForSome (g.F.Folder.told c.args.folder.now).files (λ image. Agrees c.args.files.now image → AreListsOf image c.args.lists.now → IsSaidAt image c.args.node.now → (so_far : List shown.Loaded) → AreShown image so_far c.args.kept.now.kept.items
    → AreShown image (audit.with_verdict so_far (audit.verdict (store_of image) held_rule so_far c.args.node.now.addr)) c.admit.new.self.kept.items))
    (λ reason is image there agrees are fields so_far shows.
    let loaded = subst (IsVerdict (shown.load (store_of image) held_rule c.args.node.now.addr)) c.in-Loaded.is (c.in_ok-loaded.ensures.verdict image there agrees are fields) in
    let named = subst (λ (v : Verdict). IsNameInPrefix image v c.load_walked.new.name) c.in-Loaded.is (c.in_ok-loaded.ensures.named image there agrees) in
    let one = judged image so_far c.args.node.now.addr c.in-Loaded.loaded loaded in
    subst (λ (r : Result shown.Loaded reasons.Reason). AreShown image (audit.with_verdict so_far r) c.admit.new.self.kept.items) (sym one.is) (is image (told_now image c.in_ok-loaded.ensures.reads.stays there) agrees so_far one.loaded shows one.known named))
    c.admit.ensures.shown
