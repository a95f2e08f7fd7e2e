use Rattle.std.proofs.Common.{rules, ◌≡◌, ◌∙◌, ℕ, refl, sym, ap, subst}
use Rattle.std.specs.Prelude.{◌==◌}
use Rattle.blk_disk.specs.Open.{IsOpen}
use Rattle.blk_disk.specs.Tables.{Agrees}
use Rattle.blk_lru.specs.Completing.{FindsNeighbours, FindsHead}
use Rattle.blk_lru.proofs.Conditions.{told_now, untold_on}
use Rattle.blk_lru.specs.Nodes.{list_among}
use Rattle.blk_lru.proofs.Flights.{headless_there, insert_there, move_there, nothing_there, removal_there}
use Rattle.blk_lru.proofs.Counting.{insert_found, move_found, not_head, not_known, not_links, removal_found}
use Rattle.blk_lru.proofs.completing.counting.Goals as goal

pub returns-in_default-2-clause-found : goal.returns-in_default-2-clause-found
returns-in_default-2-clause-found g c image there =
    not_head (list_among c.args.files.now image) (ap (λ (o : ℕ). o == 2) (c.requires.operation image there ∙ c.in-1.is)) (subst (FindsHead (list_among c.args.files.now image)) c.in_default-2.is (c.in_ok-head-in-1.ensures.found image there))

pub returns-in-Counts-clause-found : goal.returns-in-Counts-clause-found
returns-in-Counts-clause-found g c image there =
    insert_found c.args.files.now (list_among c.args.files.now image) c.args.links.now c.requires.stands (c.requires.links image there) (c.requires.operation image there ∙ c.in-1.is) c.in-Counts.head
    (subst (FindsHead (list_among c.args.files.now image)) c.in-Counts.is (c.in_ok-head-in-1.ensures.found image there))

pub returns-in_default-3-clause-found : goal.returns-in_default-3-clause-found
returns-in_default-3-clause-found g c image there =
    not_links (list_among c.args.files.now image) (ap (λ (o : ℕ). o == 1) (c.requires.operation image there ∙ c.in-2.is)) (subst (FindsNeighbours (list_among c.args.files.now image) (list_among c.args.files.now image).transaction) c.in_default-3.is (c.in_ok-neighbours-in-2.ensures.found image there))

pub returns-in-Counts-2-clause-found : goal.returns-in-Counts-2-clause-found
returns-in-Counts-2-clause-found g c image there =
    removal_found c.args.files.now (list_among c.args.files.now image) c.args.links.now c.requires.stands (c.requires.links image there) (c.requires.operation image there ∙ c.in-2.is) c.in-Counts-2.neighbours
    (subst (FindsNeighbours (list_among c.args.files.now image) (list_among c.args.files.now image).transaction) c.in-Counts-2.is (c.in_ok-neighbours-in-2.ensures.found image there))

pub returns-in_default-4-clause-found : goal.returns-in_default-4-clause-found
returns-in_default-4-clause-found g c image there =
    not_head (list_among c.args.files.now image) (ap (λ (o : ℕ). o == 2) (c.requires.operation image there ∙ c.in-3.is)) (subst (FindsHead (list_among c.args.files.now image)) c.in_default-4.is (c.in_ok-head-in-3.ensures.found image there))

pub returns-in_default-5-clause-found : goal.returns-in_default-5-clause-found
returns-in_default-5-clause-found g c image there =
    not_links (list_among c.args.files.now image) (ap (λ (o : ℕ). o == 1) (c.requires.operation image there ∙ c.in-3.is))
    (subst (FindsNeighbours (list_among c.args.files.now image) (list_among c.args.files.now image).transaction) c.in_default-5.is (c.in_ok-neighbours-in-3.ensures.found image (told_now image c.in_ok-head-in-3.ensures.reads.stays there)))

pub returns-in-Counts-4-clause-found : goal.returns-in-Counts-4-clause-found
returns-in-Counts-4-clause-found g c image there =
    move_found c.args.files.now (list_among c.args.files.now image) c.args.links.now c.requires.stands (c.requires.links image there) (c.requires.operation image there ∙ c.in-3.is) c.in-Counts-3.head c.in-Counts-4.neighbours
    (subst (FindsHead (list_among c.args.files.now image)) c.in-Counts-3.is (c.in_ok-head-in-3.ensures.found image there))
    (subst (FindsNeighbours (list_among c.args.files.now image) (list_among c.args.files.now image).transaction) c.in-Counts-4.is (c.in_ok-neighbours-in-3.ensures.found image (told_now image c.in_ok-head-in-3.ensures.reads.stays there)))

pub returns-in_default-clause-found : goal.returns-in_default-clause-found
returns-in_default-clause-found g c image there =
    let is : c.args.code ≡ (list_among c.args.files.now image).operation = sym (c.requires.operation image there) in
    not_known (list_among c.args.files.now image) (λ e. let one : c.args.code ≡ 1 = is ∙ e in search rules) (λ e. let two : c.args.code ≡ 2 = is ∙ e in search rules) (λ e. let three : c.args.code ≡ 3 = is ∙ e in search rules)

pub returns-in_default-2-clause-checked : goal.returns-in_default-2-clause-checked
returns-in_default-2-clause-checked g c image there =
    insert_there c.args.files.now image (c.requires.operation image there ∙ c.in-1.is) (c.in_ok-head-in-1.ensures.checked image there)

pub returns-in-Counts-clause-checked : goal.returns-in-Counts-clause-checked
returns-in-Counts-clause-checked g c image there =
    insert_there c.args.files.now image (c.requires.operation image there ∙ c.in-1.is) (c.in_ok-head-in-1.ensures.checked image there)

pub returns-in_default-3-clause-checked : goal.returns-in_default-3-clause-checked
returns-in_default-3-clause-checked g c image there =
    removal_there c.args.files.now image (c.requires.operation image there ∙ c.in-2.is) (c.in_ok-neighbours-in-2.ensures.checked image there)

pub returns-in-Counts-2-clause-checked : goal.returns-in-Counts-2-clause-checked
returns-in-Counts-2-clause-checked g c image there =
    removal_there c.args.files.now image (c.requires.operation image there ∙ c.in-2.is) (c.in_ok-neighbours-in-2.ensures.checked image there)

pub returns-in_default-4-clause-checked : goal.returns-in_default-4-clause-checked
returns-in_default-4-clause-checked g c image there =
    headless_there c.args.files.now image (c.requires.operation image there ∙ c.in-3.is) (subst (FindsHead (list_among c.args.files.now image)) c.in_default-4.is (c.in_ok-head-in-3.ensures.found image there)) (c.in_ok-head-in-3.ensures.checked image there)

pub returns-in_default-5-clause-checked : goal.returns-in_default-5-clause-checked
returns-in_default-5-clause-checked g c image there =
    move_there c.args.files.now image (c.in_ok-head-in-3.ensures.checked image there) (c.in_ok-neighbours-in-3.ensures.checked image (told_now image c.in_ok-head-in-3.ensures.reads.stays there))

pub returns-in-Counts-4-clause-checked : goal.returns-in-Counts-4-clause-checked
returns-in-Counts-4-clause-checked g c image there =
    move_there c.args.files.now image (c.in_ok-head-in-3.ensures.checked image there) (c.in_ok-neighbours-in-3.ensures.checked image (told_now image c.in_ok-head-in-3.ensures.reads.stays there))

pub returns-in_default-clause-checked : goal.returns-in_default-clause-checked
returns-in_default-clause-checked g c image there =
    let is : c.args.code ≡ (list_among c.args.files.now image).operation = sym (c.requires.operation image there) in
    nothing_there c.args.files.now image (λ e. let one : c.args.code ≡ 1 = is ∙ e in search rules) (λ e. let two : c.args.code ≡ 2 = is ∙ e in search rules) (λ e. let three : c.args.code ≡ 3 = is ∙ e in search rules)

pub returns-in_err-neighbours-in-2-clause-untold : goal.returns-in_err-neighbours-in-2-clause-untold
returns-in_err-neighbours-in-2-clause-untold g c =
    untold_on c.usable_links.result c.from_residual-in_err-neighbours-in-2.result c.in_err-neighbours-in-2.field-0.0 {a = g.F.Folder.told c.args.folder.now} (IsOpen c.args.files.now) (Agrees c.args.files.now) (λ image is. is.agrees) refl c.usable_links.ensures.untold c.in_err-neighbours-in-2.was c.from_residual-in_err-neighbours-in-2.ensures.1

pub returns-in_err-neighbours-in-3-clause-untold : goal.returns-in_err-neighbours-in-3-clause-untold
returns-in_err-neighbours-in-3-clause-untold g c =
    untold_on c.usable_links-in-3.result c.from_residual-in_err-neighbours-in-3.result c.in_err-neighbours-in-3.field-0.0 {a = g.F.Folder.told c.args.folder.now} (IsOpen c.args.files.now) (Agrees c.args.files.now) (λ image is. is.agrees) c.in_ok-head-in-3.ensures.reads.stays c.usable_links-in-3.ensures.untold c.in_err-neighbours-in-3.was c.from_residual-in_err-neighbours-in-3.ensures.1
