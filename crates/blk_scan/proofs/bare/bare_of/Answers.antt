use Rattle.std.proofs.Common.{◌≡◌, ℕ, true, List, map, ap, ◌∙◌}
use Rattle.std.specs.Prelude.{All}
use Rattle.std.specs.BTreeSet.{contains}
use Rattle.std.specs.Ordering.{nat_cmp}
use Rattle.spec_format.specs.BlockFiles.{is_among}
use Rattle.blk_disk.specs.Tables.{is_record_among}
use Rattle.blk_audit.specs.Walking.{nodes_walked}
use Rattle.blk_verdict.specs.declared.loading.Loaded.{Loaded}
use Rattle.blk_scan.proofs.BareFacts.{bare_are, bare_exact, entries_stand}
use Rattle.blk_scan.proofs.bare.bare_of.Goals as goal

pub returns-clause-bare : goal.returns-clause-bare
returns-clause-bare g c image there agrees are shown =
    let nodes : c.deref.result.now ≡ map (λ (s : Loaded). s.node) c.args.records.now = c.deref.ensures.value ∙ c.in_ok-nodes.ensures in
    let entries : c.deref-2.result.now ≡ map (λ (s : Loaded). s.entry) c.args.records.now = c.deref-2.ensures.value ∙ c.in_ok-entries.ensures in
    let stand : All (λ w. is_record_among c.args.files.now w ≡ true) c.deref-2.result.now = entries_stand c.args.files.now image c.args.records.now c.deref-2.result.now agrees shown entries in
    bare_are image (g.met.F.Folder.are_bytes c.args.folder.now image there) c.args.records.now shown (contains nat_cmp c.in_ok-kept.kept)
    (λ w. c.in_ok-kept.ensures w ∙ ap (λ (ns : List ℕ). is_among ns w) nodes)
    c.in_ok-bare.bare.items c.add_records.new.bare.items (nodes_walked c.args.lists.now.walked) c.deref-2.result.now are.walked entries
    (c.in_ok-bare.ensures.bare image are) (c.in_ok-add_records.ensures.added image there are stand)

pub returns-clause-exact : goal.returns-clause-exact
returns-clause-exact g c image there agrees are shown =
    let nodes : c.deref.result.now ≡ map (λ (s : Loaded). s.node) c.args.records.now = c.deref.ensures.value ∙ c.in_ok-nodes.ensures in
    let entries : c.deref-2.result.now ≡ map (λ (s : Loaded). s.entry) c.args.records.now = c.deref-2.ensures.value ∙ c.in_ok-entries.ensures in
    let stand : All (λ w. is_record_among c.args.files.now w ≡ true) c.deref-2.result.now = entries_stand c.args.files.now image c.args.records.now c.deref-2.result.now agrees shown entries in
    bare_exact image (g.met.F.Folder.are_bytes c.args.folder.now image there) c.args.records.now shown (contains nat_cmp c.in_ok-kept.kept)
    (λ w. c.in_ok-kept.ensures w ∙ ap (λ (ns : List ℕ). is_among ns w) nodes)
    c.in_ok-bare.bare.items c.add_records.new.bare.items (nodes_walked c.args.lists.now.walked) c.deref-2.result.now are.walked entries
    (c.in_ok-bare.ensures.bare image are) (c.in_ok-add_records.ensures.added image there are stand)

pub returns-clause-stand : goal.returns-clause-stand
returns-clause-stand g c = c.in_ok-add_records.ensures.stand (c.in_ok-bare.ensures.stand c.args.files.now c.requires.nodes)
