use Rattle.std.proofs.Common.{◌≡◌, ℕ, List, Option, Some, refl, sym, ◌∙◌, ap, subst}
use Rattle.spec_image.specs.Told.{Told}
use Rattle.blk_io.proofs.Carried.{carried, if_damaged_weaker}
use Rattle.spec_folder.specs.Entries.{role_of, stored_streams}
use Rattle.spec_folder.specs.View.{store_of}
use Rattle.blk_disk.specs.Tables.{Agrees}
use Rattle.blk_lru.proofs.Conditions.{told_stays}
use Rattle.blk_verdict.specs.Loading as loading
use Rattle.blk_audit.specs.Records.{fields_said}
use Rattle.blk_verdict.specs.PartNames.{IsNameInPrefix}
use Rattle.blk_verdict.specs.Roles.{IsRoleIf}
use Rattle.blk_verdict.specs.Verdicts.{IsVerdict, loaded_with}
use Rattle.blk_verdict.specs.declared.loading.Loaded.{Loaded}
use Rattle.blk_verdict.specs.declared.loading.Verdict.TheVariants as verdict
use Rattle.blk_verdict.specs.declared.reason.Reason.TheVariants as reason
use Rattle.blk_verdict.specs.declared.roles.Role.{Role}
use Rattle.blk_verdict.proofs.Joined.{has_value, streams_none}
use Rattle.blk_verdict.proofs.KeyOf.{stored_by_words}
use Rattle.blk_verdict.proofs.RoleFacts.{part_flags}
use Rattle.blk_verdict.proofs.VerdictFacts.{dropped, lengths, no_role, with_a_role}
use Rattle.blk_verdict.proofs.loading.load_streams.Goals as goal

pub returns-then-not-branch-clause-verdict : goal.returns-then-not-branch-clause-verdict
returns-then-not-branch-clause-verdict g c image there dirty stored agrees len sum same =
    dropped _ reason.Streams (streams_none (store_of image) c.args.node c.args.entry dirty (fields_said c.args.words.now) stored (sym (c.in_ok-has_streams.ensures.streams image there agrees) ∙ c.if-not-branch.true))

pub returns-in_err-role-clause-untold : goal.returns-in_err-role-clause-untold
returns-in_err-role-clause-untold g c agrees =
    carried c.read_role.result c.from_residual-in_err-role.result c.in_err-role.field-0.0 _ c.in_err-role.was c.from_residual-in_err-role.ensures.1
    (if_damaged_weaker c.read_role.result _ _ (λ damage none. ap (λ (t : Told). t.files) (sym c.in_ok-has_streams.ensures.reads.stays) ∙ none)
    (c.read_role.ensures.untold (told_stays (Agrees c.args.files.now) c.in_ok-has_streams.ensures.reads.stays agrees)))

pub returns-in-Some-clause-verdict : goal.returns-in-Some-clause-verdict
returns-in-Some-clause-verdict g c image there dirty stored agrees len sum same =
    let now : (g.F.Folder.told c.has_streams.new.folder).files ≡ Some image = ap (λ (t : Told). t.files) c.in_ok-has_streams.ensures.reads.stays ∙ there in
    let streams = has_value (List (List ℕ)) (stored_streams (store_of image) (fields_said c.args.words.now)) (sym (c.in_ok-has_streams.ensures.streams image there agrees) ∙ c.if-not-branch.false) in
    let is : IsRoleIf stored (role_of (fields_said c.args.words.now) stored streams.value) (Some c.in-Some.role) = subst (λ (o : Option Role). IsRoleIf stored (role_of (fields_said c.args.words.now) stored streams.value) o) c.in-Some.is (c.in_ok-role.ensures.role image now stored streams.value same streams.is) in
    subst (λ (l : Loaded). IsVerdict (loading.load_streams (store_of image) c.args.node c.args.entry dirty (fields_said c.args.words.now) stored) (verdict.Loaded l)) (sym c.loaded_as.ensures)
    (with_a_role (store_of image) c.args.node c.args.entry dirty c.args.words.now stored streams.value streams.is c.in-Some.role (lengths image (fields_said c.args.words.now) streams.value streams.is) sum len is)

pub returns-in-None-clause-verdict : goal.returns-in-None-clause-verdict
returns-in-None-clause-verdict g c image there dirty stored agrees len sum same =
    let now : (g.F.Folder.told c.has_streams.new.folder).files ≡ Some image = ap (λ (t : Told). t.files) c.in_ok-has_streams.ensures.reads.stays ∙ there in
    let streams = has_value (List (List ℕ)) (stored_streams (store_of image) (fields_said c.args.words.now)) (sym (c.in_ok-has_streams.ensures.streams image there agrees) ∙ c.if-not-branch.false) in
    no_role (store_of image) c.args.node c.args.entry dirty c.args.words.now stored streams.value streams.is
    (subst (λ (o : Option Role). IsRoleIf stored (role_of (fields_said c.args.words.now) stored streams.value) o) c.in-None.is (c.in_ok-role.ensures.role image now stored streams.value same streams.is))

pub returns-in-Some-clause-named : goal.returns-in-Some-clause-named
returns-in-Some-clause-named g c image there agrees front =
    let now : (g.F.Folder.told c.has_streams.new.folder).files ≡ Some image = ap (λ (t : Told). t.files) c.in_ok-has_streams.ensures.reads.stays ∙ there in
    let streams = has_value (List (List ℕ)) (stored_streams (store_of image) (fields_said c.args.words.now)) (sym (c.in_ok-has_streams.ensures.streams image there agrees) ∙ c.if-not-branch.false) in
    subst (λ (l : Loaded). IsNameInPrefix image (verdict.Loaded l) c.args.name.now) (sym c.loaded_as.ensures)
    (λ part key of.
    let stored = stored_by_words image (loaded_with c.args.node c.args.entry c.in-Some.role c.args.words.now) c.args.words.now key refl refl of in
    let is : IsRoleIf key (role_of (fields_said c.args.words.now) key streams.value) (Some c.in-Some.role) =
    subst (λ (o : Option Role). IsRoleIf key (role_of (fields_said c.args.words.now) key streams.value) o) c.in-Some.is (c.in_ok-role.ensures.role image now key streams.value (λ flags. sym (front flags key stored)) streams.is) in
    front (part_flags (fields_said c.args.words.now) key streams.value c.in-Some.role is part) key stored)
