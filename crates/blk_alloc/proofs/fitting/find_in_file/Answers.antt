use Rattle.std.proofs.Common.{◌≡◌, ℕ, None, sym, ◌∙◌, ap, subst, arith}
use Rattle.std.specs.Option.{ForSome}
use Rattle.spec_image.specs.Told.{Told}
use Rattle.spec_format.specs.Maps.{groups_of, EmptyAgrees}
use Rattle.blk_io.specs.declared.folder.FileId.TheVariants as names
use Rattle.blk_io.specs.Faults.{IfDamaged}
use Rattle.blk_io.proofs.Carried.{carried}
use Rattle.blk_io.proofs.Shorts.{untold_if}
use Rattle.blk_disk.specs.Tables.{Agrees, blocks_of}
use Rattle.blk_disk.proofs.WholeHeaders.{all_head}
use Rattle.blk_alloc.specs.Fitting.{IsByHint, IsGroupSought}
use Rattle.blk_alloc.proofs.Members.{member_all}
use Rattle.blk_alloc.proofs.fitting.find_in_file.Goals as goal

pub returns-in_err-counters-clause-untold : goal.returns-in_err-counters-clause-untold
returns-in_err-counters-clause-untold g c both =
    carried c.read.result c.from_residual.result c.in_err-counters.field-0.0 _ c.in_err-counters.was c.from_residual.ensures.1
    (untold_if c.read.result (g.F.Folder.told c.args.folder.now) (names.Block c.args.file) 0 80 c.read.ensures.short
    (λ image there. let long = (all_head c.args.files.now image c.args.file (both image there).0 (member_all c.args.files.now c.args.kind c.args.file c.requires.block_kind c.requires.linked)).header in omega (arith, long)))

pub returns-in_err-found-clause-untold : goal.returns-in_err-found-clause-untold
returns-in_err-found-clause-untold g c both =
    carried c.find_by_hint.result c.from_residual-in_err-found.result c.in_err-found.field-0.0 _ c.in_err-found.was c.from_residual-in_err-found.ensures.1
    (subst (λ (t : Told). ForSome t.files (λ image. Agrees c.args.files.now image × EmptyAgrees image c.args.file) → IfDamaged c.find_by_hint.result (λ _. t.files ≡ None)) c.in_ok-counters.ensures.reads.stays c.find_by_hint.ensures.untold both)

pub returns-clause-fit : goal.returns-clause-fit
returns-clause-fit g c image there =
    let now = ap (λ (t : Told). t.files) c.in_ok-counters.ensures.reads.stays ∙ there in
    let are = c.in_ok-counters.ensures.counters image there in
    let sought = c.in-Some.ensures.sought in
    let i_is = c.in_ok-found.ensures.file.1 in
    let is : IsGroupSought image c.args.file c.args.count c.in-Some.i = record {
      small = sought.0;
      enough = sought.1;
      counted = let same = are.empty c.in-Some.i sought.0 in let some = sought.2 in omega (arith, same, some);
      least = λ j less enough. sym (are.empty j (let small = sought.0 in omega (arith, small, less))) ∙ sought.3 j less enough;
    } in
    (subst (IsGroupSought image c.args.file c.args.count) (sym i_is) is, subst (λ (i : ℕ). IsByHint image c.args.file (groups_of (blocks_of c.args.files.now c.args.file)) c.args.count i c.in_ok-found.found.place.start) (sym i_is) (c.in_ok-found.ensures.found image now))
