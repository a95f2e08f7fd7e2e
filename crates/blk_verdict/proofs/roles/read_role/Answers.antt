use Rattle.std.proofs.Common.{◌≡◌, ℕ, List, Option, Some, sym, subst}
use Rattle.std.specs.Option.{ForSome}
use Rattle.spec_format.specs.Records.{child}
use Rattle.spec_folder.specs.Entries as entries
use Rattle.spec_folder.specs.Entries.{stored_streams}
use Rattle.spec_folder.specs.View.{store_of}
use Rattle.blk_entry.proofs.KeyPlaces.{ok_weaker}
use Rattle.blk_audit.specs.Records.{fields_said}
use Rattle.blk_verdict.specs.Roles.{IsRoleIf}
use Rattle.blk_verdict.specs.declared.roles.Role.TheVariants as role
use Rattle.blk_verdict.proofs.RoleFacts.{role_parent, role_part, role_plain}
use Rattle.blk_verdict.proofs.roles.read_role.Goals as goal

pub returns-then-words-eq-PARENT-clause-role : goal.returns-then-words-eq-PARENT-clause-role
returns-then-words-eq-PARENT-clause-role g c =
    ok_weaker c.parent_role.result _
    (λ said. ForSome (g.F.Folder.told c.args.folder.now).files (λ image. (stored : List ℕ) (streams : List (List ℕ)) → (c.args.words.now.flags ≡ child → stored ≡ c.args.key.now) → stored_streams (store_of image) (fields_said c.args.words.now) ≡ Some streams
    → IsRoleIf stored (entries.role_of (fields_said c.args.words.now) stored streams) said))
    (λ said h image there stored streams same is. subst (λ (r : Option entries.Role). IsRoleIf stored r said) (sym (role_parent (fields_said c.args.words.now) stored streams c.if-words-eq-PARENT.true)) (h image there stored streams is)) c.parent_role.ensures.role

pub returns-then-words-eq-CHILD-clause-role : goal.returns-then-words-eq-CHILD-clause-role
returns-then-words-eq-CHILD-clause-role g c =
    ok_weaker c.part_role.result _
    (λ said. ForSome (g.F.Folder.told c.args.folder.now).files (λ image. (stored : List ℕ) (streams : List (List ℕ)) → (c.args.words.now.flags ≡ child → stored ≡ c.args.key.now) → stored_streams (store_of image) (fields_said c.args.words.now) ≡ Some streams
    → IsRoleIf stored (entries.role_of (fields_said c.args.words.now) stored streams) said))
    (λ said h image there stored streams same is.
    subst (λ (k : List ℕ). IsRoleIf k (entries.role_of (fields_said c.args.words.now) k streams) said) (sym (same c.if-words-eq-CHILD.true))
    (subst (λ (r : Option entries.Role). IsRoleIf c.args.key.now r said) (sym (role_part (fields_said c.args.words.now) c.args.key.now streams c.if-words-eq-CHILD.true)) (h image there streams is))) c.part_role.ensures.role

pub returns-else-words-eq-CHILD-clause-role : goal.returns-else-words-eq-CHILD-clause-role
returns-else-words-eq-CHILD-clause-role g c image there stored streams same is =
    subst (λ (r : Option entries.Role). IsRoleIf stored r (Some role.Plain)) (sym (role_plain (fields_said c.args.words.now) stored streams c.if-words-eq-PARENT.false c.if-words-eq-CHILD.false)) tt
