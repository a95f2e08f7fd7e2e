use Rattle.std.proofs.Common.{◌≡◌, ℕ, length, None, Some, inl, inr, sym, ◌∙◌, ap, subst}
use Rattle.std.specs.Option.{ForSome}
use Rattle.spec_image.specs.Told.{Told}
use Rattle.blk_io.specs.Faults.{IfDamaged}
use Rattle.blk_io.proofs.Carried.{carried, if_damaged_weaker, untold_where}
use Rattle.spec_folder.specs.Chains.{bucket_of_hash}
use Rattle.blk_entry.specs.Keys.{CanBeRead, IsRecordHead, IsPlaceDamage}
use Rattle.blk_chain.specs.Finding.{IsDanglingLink, IsChainDamage, IsSought}
use Rattle.blk_chain.specs.Unlinking.{next_record}
use Rattle.blk_entry.proofs.KeyPlaces.{clash, damaged_any}
use Rattle.blk_chain.proofs.Heads.{can-be-read, followed, names-parts, shown-names}
use Rattle.blk_chain.proofs.finding.look_at.Goals as goal

pub read_head-requires-clause-kind : goal.read_head-requires-clause-kind
read_head-requires-clause-kind g c = (names-parts c.args.files.now c.in_ok-entry.entry c.in_ok-entry.ensures.stands).1.0

pub read_head-requires-clause-stands : goal.read_head-requires-clause-stands
read_head-requires-clause-stands g c = (names-parts c.args.files.now c.in_ok-entry.entry c.in_ok-entry.ensures.stands).1.1

pub is_sought-requires-clause-kind : goal.is_sought-requires-clause-kind
is_sought-requires-clause-kind g c = (names-parts c.args.files.now c.in_ok-entry.entry c.in_ok-entry.ensures.stands).1.0

pub is_sought-requires-clause-stands : goal.is_sought-requires-clause-stands
is_sought-requires-clause-stands g c = (names-parts c.args.files.now c.in_ok-entry.entry c.in_ok-entry.ensures.stands).1.1

pub returns-in_err-entry-clause-damaged : goal.returns-in_err-entry-clause-damaged
returns-in_err-entry-clause-damaged g c =
    carried c.record_of.result c.from_residual.result c.in_err-entry.field-0.0 (IsChainDamage c.args.files.now (g.F.Folder.told c.args.folder.now) c.args.key.now c.args.sought.now.child) c.in_err-entry.was c.from_residual.ensures.1
    (if_damaged_weaker c.record_of.result _ _ (λ damage dangling. inl (subst (λ (h : ℕ). IsDanglingLink c.args.files.now (bucket_of_hash h) damage) c.requires.hash dangling)) c.record_of.ensures.damaged)

pub returns-in_err-head-clause-damaged : goal.returns-in_err-head-clause-damaged
returns-in_err-head-clause-damaged g c =
    carried c.read_head.result c.from_residual-in_err-head.result c.in_err-head.field-0.0 (IsChainDamage c.args.files.now (g.F.Folder.told c.args.folder.now) c.args.key.now c.args.sought.now.child) c.in_err-head.was c.from_residual-in_err-head.ensures.1
    (if_damaged_weaker c.read_head.result _ _ (λ damage wrong. inr (inl (record { entry = c.in_ok-entry.entry; stands = c.in_ok-entry.ensures.stands; wrong = inl wrong }))) c.read_head.ensures.damaged)

pub returns-in_err-is_sought-clause-damaged : goal.returns-in_err-is_sought-clause-damaged
returns-in_err-is_sought-clause-damaged g c =
    carried c.is_sought.result c.from_residual-in_err-is_sought.result c.in_err-is_sought.field-0.0 (IsChainDamage c.args.files.now (g.F.Folder.told c.args.folder.now) c.args.key.now c.args.sought.now.child) c.in_err-is_sought.was c.from_residual-in_err-is_sought.ensures.1
    (if_damaged_weaker c.is_sought.result _ _
    (λ damage wrong. inr (inl (record {
      entry = c.in_ok-entry.entry;
      stands = c.in_ok-entry.ensures.stands;
      wrong = inr (record {
        long_key = c.in_ok-head.head.long_key;
        wrong = subst (λ (t : Told). IsPlaceDamage c.args.files.now t c.in_ok-entry.entry (length c.args.key.now) c.in_ok-head.head.long_key damage) c.in_ok-head.ensures.reads.stays wrong;
      });
    })))
    c.is_sought.ensures.damaged)

pub returns-in_err-entry-clause-untold : goal.returns-in_err-entry-clause-untold
returns-in_err-entry-clause-untold g c agrees keyed_there =
    damaged_any c.from_residual.result ((g.F.Folder.told c.args.folder.now).files ≡ None)
    (untold_where (g.F.Folder.told c.args.folder.now).files
    (λ image there. let keyed = keyed_there image there in
    clash (c.in_err-entry.ensures.right (shown-names c.args.files.now image c.args.link.now.word keyed.fields (agrees image there) keyed.here))))

pub returns-in_err-head-clause-untold : goal.returns-in_err-head-clause-untold
returns-in_err-head-clause-untold g c agrees keyed =
    carried c.read_head.result c.from_residual-in_err-head.result c.in_err-head.field-0.0 (λ _. (g.F.Folder.told c.args.folder.now).files ≡ None) c.in_err-head.was c.from_residual-in_err-head.ensures.1
    (c.read_head.ensures.untold agrees (λ image there. (can-be-read c.args.files.now image c.in_ok-entry.entry c.args.link.now.word c.in_ok-entry.ensures.entry (g.met.F.Folder.are_bytes c.args.folder.now image there) (agrees image there) (keyed image there)).checks))

pub returns-in_err-is_sought-clause-untold : goal.returns-in_err-is_sought-clause-untold
returns-in_err-is_sought-clause-untold g c agrees keyed =
    subst (λ (t : Told). IfDamaged c.from_residual-in_err-is_sought.result (λ _. t.files ≡ None)) c.in_ok-head.ensures.reads.stays
    (carried c.is_sought.result c.from_residual-in_err-is_sought.result c.in_err-is_sought.field-0.0 (λ _. (g.F.Folder.told c.read_head.new.folder).files ≡ None) c.in_err-is_sought.was c.from_residual-in_err-is_sought.ensures.1
    (c.is_sought.ensures.untold (subst (λ (t : Told). ForSome t.files (CanBeRead c.args.files.now c.in_ok-entry.entry)) (sym c.in_ok-head.ensures.reads.stays) (λ image there. can-be-read c.args.files.now image c.in_ok-entry.entry c.args.link.now.word c.in_ok-entry.ensures.entry (g.met.F.Folder.are_bytes c.args.folder.now image there) (agrees image there) (keyed image there)))))

pub is_sought-requires-clause-head : goal.is_sought-requires-clause-head
is_sought-requires-clause-head g c = subst (λ (t : Told). ForSome t.files (λ image. IsRecordHead image c.in_ok-entry.entry c.in_ok-head.head)) (sym c.in_ok-head.ensures.reads.stays) c.in_ok-head.ensures.head

pub returns-then-branch-clause-step : goal.returns-then-branch-clause-step
returns-then-branch-clause-step g c image there =
    let now : (g.F.Folder.told c.read_head.new.folder).files ≡ Some image = ap (λ (t : Told). t.files) c.in_ok-head.ensures.reads.stays ∙ there in
    (followed c.args.files.now image c.in_ok-entry.entry c.args.link.now.word c.in_ok-entry.ensures.entry c.in_ok-entry.ensures.stands (c.in_ok-head.ensures.checked image there), subst (λ (w : ℕ). IsSought c.args.key.now c.args.sought.now.child w image) c.in_ok-entry.ensures.entry ((c.in_ok-is_sought.ensures.sought image now).0 c.if-branch.true))

pub returns-clause-step : goal.returns-clause-step
returns-clause-step g c image there =
    let now : (g.F.Folder.told c.read_head.new.folder).files ≡ Some image = ap (λ (t : Told). t.files) c.in_ok-head.ensures.reads.stays ∙ there in
    let words = c.in_ok-head.ensures.head image there in
    let is = c.in_ok-entry.ensures.entry in (
      followed c.args.files.now image c.in_ok-entry.entry c.args.link.now.word c.in_ok-entry.ensures.entry c.in_ok-entry.ensures.stands (c.in_ok-head.ensures.checked image there),
      (
        subst (λ (w : ℕ). c.in_ok-head.head.next ≡ next_record image w) is words.next,
        λ sought. absurd (clash (sym c.if-branch.false ∙ (c.in_ok-is_sought.ensures.sought image now).1 (subst (λ (w : ℕ). IsSought c.args.key.now c.args.sought.now.child w image) (sym is) sought))),
      ),
    )
