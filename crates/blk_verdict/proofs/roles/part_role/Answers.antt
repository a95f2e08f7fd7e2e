use Rattle.std.proofs.Common.{◌≤◌, ℕ, Option, Some, None, ◌&&◌, if◌then◌else◌, length, sym, ◌∙◌, ap, subst, arith}
use Rattle.std.specs.Prelude.{◌==◌}
use Rattle.std.specs.Int.{cast_unsigned, w64}
use Rattle.std.proofs.lemmas.Bool.Decides.{nat_tests}
use Rattle.spec_folder.specs.Entries as entries
use Rattle.spec_folder.specs.Entries.{stream}
use Rattle.blk_ranges.specs.PartMaps.{index_of, map_signature}
use Rattle.blk_audit.specs.Records.{fields_said}
use Rattle.blk_verdict.specs.Roles.{IsRoleIf}
use Rattle.blk_verdict.specs.declared.roles.Role.{Role}
use Rattle.blk_verdict.specs.declared.roles.Role.TheVariants as role
use Rattle.blk_verdict.proofs.RoleFacts.{none_role, part_full, part_long, part_read, part_short, part_unnamed}
use Rattle.blk_verdict.proofs.StreamFacts.{are_stored, stored_length}
use Rattle.blk_verdict.proofs.roles.part_role.Goals.{then-words-ne0-via-then-words-ne0, then-words-ne0-via-else-words-ne0+then-words-gt-PART_SIZE, then-words-ne0-via-else-words-ne0+else-words-gt-PART_SIZE+then-words-ne-PART_INDEX}
use Rattle.blk_verdict.proofs.roles.part_role.Goals as goal

pub returns-then-words-ne0-clause-role : goal.returns-then-words-ne0-clause-role
returns-then-words-ne0-clause-role g c image there streams is =
    let are = are_stored image (fields_said c.args.words.now) streams is in
    let zero = stored_length image _ _ (stream 0 streams) are.first in
    let one = stored_length image _ _ (stream 1 streams) are.second in
    let two = stored_length image _ _ (stream 2 streams) are.third in
    elim c.then-words-ne0.branch [
      | then-words-ne0-via-then-words-ne0 w ↦ none_role c.args.key.now _ (part_full c.args.key.now streams (let wrong = w.if-words-ne0.true in grind (arith, nat_tests, zero, wrong)))
      | then-words-ne0-via-else-words-ne0+then-words-gt-PART_SIZE w ↦ none_role c.args.key.now _ (part_long c.args.key.now streams (let wrong = w.if-words-gt-PART_SIZE.true in grind (arith, nat_tests, one, wrong)))
      | then-words-ne0-via-else-words-ne0+else-words-gt-PART_SIZE+then-words-ne-PART_INDEX w ↦ none_role c.args.key.now _ (part_short c.args.key.now streams (let wrong = w.if-words-ne-PART_INDEX.true in grind (arith, nat_tests, two, wrong)))
    ]

pub returns-in_default-clause-role : goal.returns-in_default-clause-role
returns-in_default-clause-role g c image there streams is = none_role c.args.key.now _ (part_unnamed c.args.key.now streams (sym (c.in_default.ensures.name)))

pub returns-in-Some-read-clause-role : goal.returns-in-Some-read-clause-role
returns-in-Some-read-clause-role g c image there streams is =
    let are = are_stored image (fields_said c.args.words.now) streams is in
    let one = stored_length image _ _ (stream 1 streams) are.second in
    let few : length (stream 1 streams) ≤ 1048576 = subst (λ (n : ℕ). n ≤ 1048576) (sym one) c.if-words-gt-PART_SIZE.false in
    subst (λ (r : Option Role). IsRoleIf c.args.key.now (entries.part_role c.args.key.now streams) r)
    (sym (c.part_with.ensures
    ∙ ap (λ (n : ℕ). if (map_signature c.in-Some-read.map == cast_unsigned w64 c.in-Some.name.signature) && (c.in-Some-read.map.key_len == c.in-Some.name.key_len) && entries.is_covered (index_of c.in-Some-read.map) n then Some (role.Part c.in-Some.name) else None) (sym one)))
    (part_read c.args.key.now streams c.read_front.new.out c.in-Some.name (Some c.in-Some-read.map) (stored_length image _ _ (stream 0 streams) are.first ∙ c.if-words-ne0.false) few
    (stored_length image _ _ (stream 2 streams) are.third ∙ c.if-words-ne-PART_INDEX.false) (sym c.in-Some.ensures.name) c.in-Some.ensures.printed (c.in_ok-read_front.ensures.front image there (stream 2 streams) are.third) c.in-Some-read.ensures.index)

pub returns-in-None-clause-role : goal.returns-in-None-clause-role
returns-in-None-clause-role g c image there streams is =
    let are = are_stored image (fields_said c.args.words.now) streams is in
    let one = stored_length image _ _ (stream 1 streams) are.second in
    let few : length (stream 1 streams) ≤ 1048576 = subst (λ (n : ℕ). n ≤ 1048576) (sym one) c.if-words-gt-PART_SIZE.false in
    part_read c.args.key.now streams c.read_front.new.out c.in-Some.name None (stored_length image _ _ (stream 0 streams) are.first ∙ c.if-words-ne0.false) few
    (stored_length image _ _ (stream 2 streams) are.third ∙ c.if-words-ne-PART_INDEX.false) (sym c.in-Some.ensures.name) c.in-Some.ensures.printed (c.in_ok-read_front.ensures.front image there (stream 2 streams) are.third) c.in-None.ensures.index
