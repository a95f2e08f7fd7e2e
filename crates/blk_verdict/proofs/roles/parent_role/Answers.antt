use Rattle.std.proofs.Common.{Option, Some, None, sym, ◌∙◌, subst, arith, Bool, true, false, if◌then◌else◌, ℕ, ◌≡◌}
use Rattle.std.specs.Prelude.{◌==◌, slice_index}
use Rattle.std.proofs.lemmas.Bool.Decides.{nat_tests}
use Rattle.spec_folder.specs.Entries as entries
use Rattle.spec_folder.specs.Entries.{stream}
use Rattle.blk_audit.specs.Records.{fields_said}
use Rattle.blk_entry.specs.Keys.{stores}
use Rattle.blk_verdict.specs.Readable.{HasIndexIf}
use Rattle.blk_verdict.specs.Roles.{IsRoleIf}
use Rattle.blk_verdict.specs.declared.roles.Role.TheVariants as role
use Rattle.blk_verdict.specs.declared.roles.Role.{Role}
use Rattle.blk_verdict.proofs.RoleFacts.{none_role, parent_full, parent_read, parent_short}
use Rattle.blk_verdict.proofs.StreamFacts.{are_stored, stored_length}
use Rattle.blk_verdict.proofs.roles.parent_role.Goals.{then-words-ne0-via-then-words-ne0, then-words-ne0-via-else-words-ne0+then-words-ne-PARENT_INDEX}
use Rattle.blk_verdict.proofs.roles.parent_role.Goals as goal

pub returns-then-words-ne0-clause-role : goal.returns-then-words-ne0-clause-role
returns-then-words-ne0-clause-role g c image there key streams is =
    let are = are_stored image (fields_said c.args.words.now) streams is in
    let one = stored_length image _ _ (stream 1 streams) are.second in
    let two = stored_length image _ _ (stream 2 streams) are.third in
    elim c.then-words-ne0.branch [
      | then-words-ne0-via-then-words-ne0 w ↦ none_role key _ (parent_full (fields_said c.args.words.now) streams (let wrong = w.if-words-ne0.true in grind (arith, nat_tests, one, wrong)))
      | then-words-ne0-via-else-words-ne0+then-words-ne-PARENT_INDEX w ↦ none_role key _ (parent_short (fields_said c.args.words.now) streams (let wrong = w.if-words-ne-PARENT_INDEX.true in grind (arith, nat_tests, two, wrong)))
    ]

pub returns-in-Some-clause-role : goal.returns-in-Some-clause-role
returns-in-Some-clause-role g c image there key streams is =
    let are = are_stored image (fields_said c.args.words.now) streams is in
    subst (λ (r : Option Role). IsRoleIf key (entries.parent_role (fields_said c.args.words.now) streams) r) (sym c.parent_with.ensures)
    (parent_read key (fields_said c.args.words.now) streams c.read_front.new.out (Some c.in-Some.head)
    (stored_length image _ _ (stream 1 streams) are.second ∙ c.if-words-ne0.false) (stored_length image _ _ (stream 2 streams) are.third ∙ c.if-words-ne-PARENT_INDEX.false)
    (c.in_ok-read_front.ensures.front image there (stream 2 streams) are.third) c.in-Some.ensures.fields)

pub returns-in-None-clause-role : goal.returns-in-None-clause-role
returns-in-None-clause-role g c image there key streams is =
    let are = are_stored image (fields_said c.args.words.now) streams is in
    parent_read key (fields_said c.args.words.now) streams c.read_front.new.out None
    (stored_length image _ _ (stream 1 streams) are.second ∙ c.if-words-ne0.false) (stored_length image _ _ (stream 2 streams) are.third ∙ c.if-words-ne-PARENT_INDEX.false)
    (c.in_ok-read_front.ensures.front image there (stream 2 streams) are.third) c.in-None.ensures.fields

pub returns-in-Some-clause-index : goal.returns-in-Some-clause-index
returns-in-Some-clause-index g c = subst (HasIndexIf c.args.files.now c.args.words.now.sizes c.args.words.now.addrs) (sym c.parent_with.ensures) (by_length (c.in-Some.head.key_len == c.args.words.now.key_len))
  where
    stored : stores c.args.files.now 8256 (slice_index c.args.words.now.addrs 2) ≡ true
    stored = subst (λ (n : ℕ). stores c.args.files.now n (slice_index c.args.words.now.addrs 2) ≡ true) c.if-words-ne-PARENT_INDEX.false c.requires.stored

    by_length : (t : Bool) → HasIndexIf c.args.files.now c.args.words.now.sizes c.args.words.now.addrs (if t then Some (role.Parent c.in-Some.head) else None)
    by_length true = (c.if-words-ne-PARENT_INDEX.false, stored)
    by_length false = tt
