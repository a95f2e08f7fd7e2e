use Rattle.std.proofs.Common.{sym, subst, arith}
use Rattle.std.specs.Int.{cast_unsigned, w64}
use Rattle.std.proofs.lemmas.Int.{of_z-to_z}
use Rattle.std.proofs.lemmas.Result.{on_ok_weaker}
use Rattle.blk_sparse.specs.Dropping.{HasSignature}
use Rattle.blk_sparse.proofs.NoPartsLeft.{unwalked}
use Rattle.blk_sparse.proofs.PartsOut.{if_ok_weaker}
use Rattle.blk_sparse.proofs.dropping.drop_indexed_with.Goals as goal

pub returns-then-not-indexed-clause-out : goal.returns-then-not-indexed-clause-out
returns-then-not-indexed-clause-out g c from there state layout keep chains unlinked number object left has =
    (unwalked _ (λ p x q. goal.E-step g p x tt q) (g.F.Folder.told c.args.folder.now) c.args.each.now state layout keep chains unlinked c.args.key.now number object from there left c.args.indexed has c.if-not-indexed.true).out

pub returns-then-not-indexed-clause-gone : goal.returns-then-not-indexed-clause-gone
returns-then-not-indexed-clause-gone g c from there state layout keep chains unlinked number object left has =
    (unwalked _ (λ p x q. goal.E-step g p x tt q) (g.F.Folder.told c.args.folder.now) c.args.each.now state layout keep chains unlinked c.args.key.now number object from there left c.args.indexed has c.if-not-indexed.true).gone_is

pub returns-then-not-indexed-clause-each : goal.returns-then-not-indexed-clause-each
returns-then-not-indexed-clause-each g c from there state layout keep chains unlinked number object left has =
    (unwalked _ (λ p x q. goal.E-step g p x tt q) (g.F.Folder.told c.args.folder.now) c.args.each.now state layout keep chains unlinked c.args.key.now number object from there left c.args.indexed has c.if-not-indexed.true).called

pub returns-then-not-indexed-clause-stops : goal.returns-then-not-indexed-clause-stops
returns-then-not-indexed-clause-stops g c from there state layout keep chains unlinked number object left has =
    (unwalked _ (λ p x q. goal.E-step g p x tt q) (g.F.Folder.told c.args.folder.now) c.args.each.now state layout keep chains unlinked c.args.key.now number object from there left c.args.indexed has c.if-not-indexed.true).passes

pub returns-clause-out : goal.returns-clause-out
returns-clause-out g c = on_ok_weaker c.drop_parts_with.result
    (λ ends from there state layout keep chains unlinked number object left has.
    let same : HasSignature layout c.args.key.now _ = subst (HasSignature layout c.args.key.now) (sym (of_z-to_z w64 (cast_unsigned w64 c.args.indexed.signature) (let small = c.requires.signature in omega (arith, small)))) has.parent in
    ends from there state layout keep chains unlinked number object left same)
    c.drop_parts_with.ensures.out

pub returns-clause-session : goal.returns-clause-session
returns-clause-session g c = on_ok_weaker c.drop_parts_with.result
    (λ ends from there state layout keep chains unlinked number object left has.
    let same : HasSignature layout c.args.key.now _ = subst (HasSignature layout c.args.key.now) (sym (of_z-to_z w64 (cast_unsigned w64 c.args.indexed.signature) (let small = c.requires.signature in omega (arith, small)))) has.parent in
    ends from there state layout keep chains unlinked number object left same)
    c.drop_parts_with.ensures.session

pub returns-clause-keeps : goal.returns-clause-keeps
returns-clause-keeps g c = on_ok_weaker c.drop_parts_with.result
    (λ ends from there state layout keep chains unlinked number object left has.
    let same : HasSignature layout c.args.key.now _ = subst (HasSignature layout c.args.key.now) (sym (of_z-to_z w64 (cast_unsigned w64 c.args.indexed.signature) (let small = c.requires.signature in omega (arith, small)))) has.parent in
    ends from there state layout keep chains unlinked number object left same)
    c.drop_parts_with.ensures.keeps

pub returns-clause-each : goal.returns-clause-each
returns-clause-each g c = on_ok_weaker c.drop_parts_with.result
    (λ ends from there state layout keep chains unlinked number object left has.
    let same : HasSignature layout c.args.key.now _ = subst (HasSignature layout c.args.key.now) (sym (of_z-to_z w64 (cast_unsigned w64 c.args.indexed.signature) (let small = c.requires.signature in omega (arith, small)))) has.parent in
    ends from there state layout keep chains unlinked number object left same)
    c.drop_parts_with.ensures.each

pub returns-clause-gone : goal.returns-clause-gone
returns-clause-gone g c = if_ok_weaker c.drop_parts_with.result _ _
    (λ gone ends from there state layout keep chains unlinked number object left has.
    let same : HasSignature layout c.args.key.now _ = subst (HasSignature layout c.args.key.now) (sym (of_z-to_z w64 (cast_unsigned w64 c.args.indexed.signature) (let small = c.requires.signature in omega (arith, small)))) has.parent in
    ends from there state layout keep chains unlinked number object left same)
    c.drop_parts_with.ensures.gone

pub returns-clause-front : goal.returns-clause-front
returns-clause-front g c from there state layout keep chains unlinked number object left has =
    let same : HasSignature layout c.args.key.now _ = subst (HasSignature layout c.args.key.now) (sym (of_z-to_z w64 (cast_unsigned w64 c.args.indexed.signature) (let small = c.requires.signature in omega (arith, small)))) has.parent in
    c.drop_parts_with.ensures.front from there state layout keep chains unlinked number object left same

pub returns-clause-stops : goal.returns-clause-stops
returns-clause-stops g c from there state layout keep chains unlinked number object left has =
    let same : HasSignature layout c.args.key.now _ = subst (HasSignature layout c.args.key.now) (sym (of_z-to_z w64 (cast_unsigned w64 c.args.indexed.signature) (let small = c.requires.signature in omega (arith, small)))) has.parent in
    c.drop_parts_with.ensures.stops from there state layout keep chains unlinked number object left same

pub returns-clause-untold : goal.returns-clause-untold
returns-clause-untold g c from there state layout keep chains unlinked number object left has =
    let same : HasSignature layout c.args.key.now _ = subst (HasSignature layout c.args.key.now) (sym (of_z-to_z w64 (cast_unsigned w64 c.args.indexed.signature) (let small = c.requires.signature in omega (arith, small)))) has.parent in
    c.drop_parts_with.ensures.untold from there state layout keep chains unlinked number object left same
