use Rattle.std.proofs.Common.{◌≡◌, ◌∙◌, List, sym, ap}
use Rattle.std.specs.List.{list_any}
use Rattle.std.specs.Option.{ForSome}
use Rattle.std.proofs.lemmas.Result.{IfOk-weaker}
use Rattle.blk_entry.proofs.KeyPlaces.{may_have_parts}
use Rattle.spec_folder.specs.Audit as audit
use Rattle.spec_folder.specs.Loads as shown
use Rattle.blk_disk.specs.Tables.{Agrees}
use Rattle.blk_verdict.specs.Kept.{AreShown, IsLoadedFrom, is_part_said, is_sought}
use Rattle.blk_verdict.specs.PartNames.{IsNameOf}
use Rattle.blk_verdict.specs.declared.fitting.Sought.{Sought}
use Rattle.blk_verdict.proofs.Searched.{none_in}
use Rattle.blk_verdict.proofs.SoughtFacts.{alike_is, alike_number, none_alike, shares_by}
use Rattle.blk_verdict.proofs.kept.KeptSoFar.shares_key.Goals as goal

pub returns-then-not-may_have-clause-shares : goal.returns-then-not-may_have-clause-shares
returns-then-not-may_have-clause-shares g c image there agrees kept given are known named =
    let sought = alike_is given.key given.role c.args.loaded.now.role c.alike-sought.result known.is.role c.alike-sought.ensures in
    sym (shares_by kept given ∙ ap (λ (s : Sought). list_any (is_sought s given.key) kept) (sym sought)
    ∙ none_in (IsLoadedFrom image) (is_sought c.alike-sought.result given.key) kept c.args.self.now.kept.items are
    (λ i one at loaded is. none_alike image c.alike-sought.result given loaded c.args.loaded.now one known is (c.may_have.ensures c.if-not-may_have.true i one at)))

pub has_key_of-requires-clause-short : goal.has_key_of-requires-clause-short
has_key_of-requires-clause-short g c = (may_have_parts c.args.loaded.now.entry c.args.loaded.now.key_len c.requires.readable.placed.has).1

pub has_key_of-requires-clause-part : goal.has_key_of-requires-clause-part
has_key_of-requires-clause-part g c = alike_number (is_part_said c.args.loaded.now.role) c.alike-sought.result c.alike-sought.ensures

pub returns-clause-shares : goal.returns-clause-shares
returns-clause-shares g c =
    IfOk-weaker c.has_key_of.result _
    (λ shares. ForSome (g.F.Folder.told c.args.folder.now).files (λ image. Agrees c.args.files.now image → (kept : List shown.Loaded) (given : shown.Loaded) → AreShown image kept c.args.self.now.kept.items → IsLoadedFrom image given c.args.loaded.now → IsNameOf image c.args.loaded.now c.args.key.now → shares ≡ audit.shares_key kept given))
    (λ has is image there agrees kept given are known named.
    let sought = alike_is given.key given.role c.args.loaded.now.role c.alike-sought.result known.is.role c.alike-sought.ensures in
    is image there agrees kept given are known named ∙ ap (λ (s : Sought). list_any (is_sought s given.key) kept) sought ∙ sym (shares_by kept given))
    c.has_key_of.ensures.has
