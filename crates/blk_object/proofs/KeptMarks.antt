-- Dirty flags are set, and records are linked in front of their chains.
use Rattle.std.proofs.Common.{◌≡◌, ◌⊎◌, inl, inr, ℕ, ◌≤◌, ap, sym, subst, lit≤, refl, Bool, true, false}
use Rattle.std.specs.Prelude.{◌||◌}
use Rattle.spec_image.specs.Image.{Image, Index, length_of}
use Rattle.spec_image.proofs.Commits.{commits_passes}
use Rattle.spec_image.proofs.Runs.{passes_weaker}
use Rattle.spec_format.specs.Headers.{header_length}
use Rattle.spec_format.specs.Records.{Node, node_checks}
use Rattle.spec_format.proofs.Finished.{sound-whole}
use Rattle.spec_folder.specs.ListImages.{IsWritable}
use Rattle.spec_folder.specs.Layout.{rule_of}
use Rattle.spec_folder.specs.View.{checks_at, list_of, store_of}
use Rattle.law_folder.proofs.walks.Shown.{node-is}
use Rattle.law_folder.proofs.updates.NodeRecords.{record_checks}
use Rattle.blk_entry.specs.Marks.{SetsDirtyInProgress, mark_steps}
use Rattle.blk_chain.specs.Linking.{IsLinkedInFront}
use Rattle.law_state.specs.NewEntryLaws.{HasRecordInFront}
use Rattle.law_state.specs.RecordLaws.{IsMarked, IsMarking}
use Rattle.law_state.proofs.Free.{standing-at}
use Rattle.law_state.proofs.MarkSteps.{marks-done}
use Rattle.blk_object.specs.KeptMarks.{NodesOfStatesCheck, LinksAreInFront, LinksComeInFront, MarksAreBeingSet, MarksAreSet, NodesCheckAsRecords}
use Rattle.blk_object.proofs.KeptLists.{told-after}

-- ---- dirty flags

or-true : (b : Bool) → (b || true) ≡ true
or-true true = refl
or-true false = refl

pub nodes-check : NodesOfStatesCheck
unfolding list_of checks_at node_checks
nodes-check state layout unlinked image node loaded k here =
    let named : loaded.node ≡ node = node-is (store_of image) (rule_of layout node) node loaded (k.represents.holds.shows.each node loaded here) in
    subst (λ (n : ℕ). checks_at image n ≡ true) named (rw ((standing-at image state layout k.represents node loaded here).node, (k.sealed node loaded here).node) (or-true _))

pub check-as-records : NodesCheckAsRecords
check-as-records image node bytes kind good = record_checks image node bytes kind good

is-marking : (node mark : ℕ) (from image : Image) → SetsDirtyInProgress from node mark image → IsMarking from node mark image
is-marking node mark from image m = record { outside = m.update.outside; inside = m.inside; only = m.only; contents = ap (λ (n : Node). n.contents) m.others; dirty = m.dirty }

pub being-set : MarksAreBeingSet
being-set node mark old new checks passes from there = passes_weaker (passes from there (checks from there)) (is-marking node mark from) (is-marking node mark from)

pub marks-set : MarksAreSet
marks-set node mark old new bytes well good small steps from there image is =
    let long : length_of from Index ≡ 262512 = sound-whole from (well from there) in
    let ready : IsWritable from = record { bytes = bytes from there; has_header = subst (λ (n : ℕ). header_length ≤ n) (sym long) (lit≤ tt) } in
    subst (IsMarked from node mark) (told-after old new (mark_steps from node mark) from image (steps from there) there is) (marks-done from node mark ready (good from there) small)

-- ---- links

pub in-front : LinksAreInFront
in-front entry from image l = record { list = l.list; store = l.store; headers = l.headers; outside = l.outside }

pub come-in-front : LinksComeInFront
come-in-front entry old new commits from there = commits_passes 1 old new (λ i. i ≡ from) (IsLinkedInFront from entry) (λ i. (i ≡ from) ⊎ HasRecordInFront from entry i) (λ i e. inl e) (λ i l. inr (in-front entry from i l)) (commits from there)
