use Rattle.std.proofs.Common.{◌≡◌, ◌≢◌, ◌∙◌, ◌+◌, true, false, ap, length, take, sym, subst, arith, ℕ, None}
use Rattle.std.proofs.lemmas.Bool.{eq-eqb, eqb-true}
use Rattle.spec_image.specs.Told.{Told}
use Rattle.blk_io.specs.Faults.{IfDamaged}
use Rattle.blk_io.proofs.Carried.{carried}
use Rattle.blk_model.specs.Sparse.{sparse_bytes}
use Rattle.blk_sparse.specs.Reading.{part_bytes}
use Rattle.blk_sparse.proofs.PartsOut.{stays-there}
use Rattle.blk_sparse.proofs.PresentParts.{bytes-all, bytes-both, bytes-less, sparse-empty}
use Rattle.blk_sparse.proofs.ReadParts.{prefix-only}
use Rattle.blk_sparse.proofs.present.bytes_covered.Goals.{then-len-cut-via-then-len-cut, then-len-cut-via-else-len-cut+then-is_empty-2}
use Rattle.blk_sparse.proofs.present.bytes_covered.Goals as goal

pub returns-then-is_empty-clause-bytes : goal.returns-then-is_empty-clause-bytes
returns-then-is_empty-clause-bytes g c from there state layout unlinked number object node entry p of_key =
    sym (ap (sparse_bytes object c.args.offset) (eqb-true (length c.args.out.now) 0 (sym c.is_empty.ensures ∙ c.if-is_empty.true)) ∙ sparse-empty object c.args.offset)

pub returns-in_err-len-clause-untold : goal.returns-in_err-len-clause-untold
returns-in_err-len-clause-untold g c from there state layout unlinked number object node entry p of_key =
    carried c.bytes_of_part.result c.from_residual.result c.in_err-len.field-0.0 (λ _. (g.F.Folder.told c.args.folder.now).files ≡ None) c.in_err-len.was c.from_residual.ensures.1
    (c.bytes_of_part.ensures.untold from there state layout unlinked number object node entry p of_key)

pub returns-then-len-cut-clause-bytes : goal.returns-then-len-cut-clause-bytes
returns-then-len-cut-clause-bytes g c from there state layout unlinked number object node entry p of_key =
    let least = c.min-cut.ensures in
    let place = c.child_of-first.ensures.place in
    let few = c.requires.few in
    let front = c.split_at_mut-front.ensures.front_len in
    let back = c.split_at_mut-front.ensures.back_len in
    let long = c.in_ok-len.ensures.long in
    let within = c.in_ok-len.ensures.within in
    elim c.then-len-cut.branch [
      | then-len-cut-via-then-len-cut w ↦
          let less = w.if-len-cut.true in
          ap (take c.in_ok-len.len) w.out-is ∙ prefix-only c.in_ok-len.len c.bytes_of_part.new.out _ (omega (arith, within, long))
          ∙ bytes-less object c.args.offset (length c.args.out.now) c.child_of-first.result.0 c.child_of-first.result.1 c.min-cut.result c.in_ok-len.len c.bytes_of_part.new.out (subst (λ (n : ℕ). take c.in_ok-len.len c.bytes_of_part.new.out ≡ part_bytes object c.child_of-first.result.0 c.child_of-first.result.1 n) front (c.in_ok-len.ensures.bytes from there state layout unlinked number object node entry p of_key)) c.child_of-first.ensures.part place (omega (arith, least, place)) (omega (arith, within, long)) less (omega (arith, least)) few (λ other. omega (arith, least, place, other))
      | then-len-cut-via-else-len-cut+then-is_empty-2 w ↦
          let none = eqb-true _ 0 (sym w.is_empty-else-len-cut.ensures ∙ w.if-is_empty-2.true) in
          ap (take c.in_ok-len.len) w.out-is ∙ prefix-only c.in_ok-len.len c.bytes_of_part.new.out _ (omega (arith, within, long))
          ∙ bytes-all object c.args.offset (length c.args.out.now) c.child_of-first.result.0 c.child_of-first.result.1 c.min-cut.result c.in_ok-len.len c.bytes_of_part.new.out (subst (λ (n : ℕ). take c.in_ok-len.len c.bytes_of_part.new.out ≡ part_bytes object c.child_of-first.result.0 c.child_of-first.result.1 n) front (c.in_ok-len.ensures.bytes from there state layout unlinked number object node entry p of_key)) c.child_of-first.ensures.part place (omega (arith, least, place)) (omega (arith, within, long)) (omega (arith, least, back, none))
    ]

pub bytes_of_part-requires-2-clause-is_open : goal.bytes_of_part-requires-2-clause-is_open
bytes_of_part-requires-2-clause-is_open g c image is =
    c.requires.is_open image (ap (λ (t : Told). t.files) (sym c.in_ok-len.ensures.reads.stays) ∙ is)

pub returns-in_err-more-clause-untold : goal.returns-in_err-more-clause-untold
returns-in_err-more-clause-untold g c from there state layout unlinked number object node entry p of_key =
    let at = stays-there (g.F.Folder.told c.args.folder.now) (g.F.Folder.told c.bytes_of_part.new.folder) from there c.in_ok-len.ensures.reads.stays in
    subst (λ (t : Told). IfDamaged c.from_residual-in_err-more.result (λ _. t.files ≡ None)) c.in_ok-len.ensures.reads.stays
    (carried c.bytes_of_part-2.result c.from_residual-in_err-more.result c.in_err-more.field-0.0 (λ _. (g.F.Folder.told c.bytes_of_part.new.folder).files ≡ None) c.in_err-more.was c.from_residual-in_err-more.ensures.1
    (c.bytes_of_part-2.ensures.untold from at state layout unlinked number object node entry p of_key))

pub returns-clause-bytes : goal.returns-clause-bytes
returns-clause-bytes g c from there state layout unlinked number object node entry p of_key =
    let at = stays-there (g.F.Folder.told c.args.folder.now) (g.F.Folder.told c.bytes_of_part.new.folder) from there c.in_ok-len.ensures.reads.stays in
    let least = c.min-cut.ensures in
    let place = c.child_of-first.ensures.place in
    let few = c.requires.few in
    let front = c.split_at_mut-front.ensures.front_len in
    let back = c.split_at_mut-front.ensures.back_len in
    let long = c.in_ok-len.ensures.long in
    let within = c.in_ok-len.ensures.within in
    let enough = c.if-len-cut.false in
    let some : length c.split_at_mut-front.result.1.now ≢ 0 = (λ none. let z : true ≡ false = sym (eq-eqb (length c.split_at_mut-front.result.1.now) 0 none) ∙ sym c.is_empty-else-len-cut.ensures ∙ c.if-is_empty-2.false in cc) in
    bytes-both object c.args.offset (length c.args.out.now) c.child_of-first.result.0 c.child_of-first.result.1 c.min-cut.result c.in_ok-len.len c.bytes_of_part.new.out (subst (λ (n : ℕ). take c.in_ok-len.len c.bytes_of_part.new.out ≡ part_bytes object c.child_of-first.result.0 c.child_of-first.result.1 n) front (c.in_ok-len.ensures.bytes from there state layout unlinked number object node entry p of_key)) c.child_of-first.ensures.part place (omega (arith, least, place)) (omega (arith, within, long)) c.in_ok-more.more (length c.split_at_mut-front.result.1.now) c.bytes_of_part-2.new.out (c.in_ok-more.ensures.bytes from at state layout unlinked number object node entry p of_key) (omega (arith, enough, within, front)) (omega (arith, long, front)) (omega (arith, least, place, back, some)) (omega (arith, back, few)) (omega (arith, least, back))
