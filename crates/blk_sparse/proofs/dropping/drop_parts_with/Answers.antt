use Rattle.std.proofs.Common.{rules, of_calls, Option, ◌≡◌, [], ◌∷◌, ◌++◌, ◌∙◌, refl, sym, subst, arith, None}
use Rattle.std.specs.Int.{cast_unsigned, w64}
use Rattle.std.proofs.lemmas.Fn.{FoldsTo-push}
use Rattle.std.proofs.lemmas.Int.{of_z-to_z}
use Rattle.spec_image.proofs.Runs.{passes_then}
use Rattle.blk_io.proofs.Carried.{carried, if_damaged_weaker}
use Rattle.blk_sparse.specs.Dropping.{HasSignature, IsDropOfNext, IsNextOut}
use Rattle.blk_sparse.specs.declared.dropping.Dropped.{Dropped}
use Rattle.blk_sparse.proofs.PartsNext.{of-some}
use Rattle.blk_sparse.proofs.PartsOut.{left-finds, none-some}
use Rattle.blk_sparse.proofs.PartsDropped.{called-prefix, dropping-begins, dropping-next, ends-none, ends-over}
use Rattle.blk_sparse.proofs.dropping.drop_parts_with.Goals as goal

pub loop-init : goal.loop-init
loop-init g c = record {
  dropping = λ from there. dropping-begins _ (λ p x q. goal.E-step g p x tt q) (g.F.Folder.told c.args.folder.now) c.args.key.now _ c.args.each.now from there (λ state layout keep chains unlinked number object left. left-finds state layout keep chains unlinked c.args.key.now number object from left);
  calls = ([], refl);
  stands = tt;
  few = omega arith;
  light = omega arith;
  buffer = c.requires.buffer;
  callable = c.requires.callable;
  is_open = c.requires.is_open;
  silent = λ none. none;
  later = omega arith;
}

pub returns-in_err-dropped-clause-calls : goal.returns-in_err-dropped-clause-calls
returns-in_err-dropped-clause-calls g c = c.loop.invariant.calls

pub returns-in_default-clause-calls : goal.returns-in_default-clause-calls
returns-in_default-clause-calls g c = c.loop.invariant.calls

pub returns-clause-calls : goal.returns-clause-calls
returns-clause-calls g c = c.loop.invariant.calls

pub returns-in_err-dropped-clause-front : goal.returns-in_err-dropped-clause-front
returns-in_err-dropped-clause-front g c from there state layout keep chains unlinked number object left sig =
    let same : HasSignature layout c.args.key.now _ = subst (HasSignature layout c.args.key.now) (sym (of_z-to_z w64 (cast_unsigned w64 c.args.signature) (let small = c.requires.signature in omega (arith, small)))) sig in
    let d = c.loop.invariant.dropping from there state layout keep chains unlinked number object left same in
    called-prefix _ _ _ _ _ _ _ _ _ _ _ _ _ _ _ _ _ d

pub returns-in_err-dropped-clause-stops : goal.returns-in_err-dropped-clause-stops
returns-in_err-dropped-clause-stops g c from there state layout keep chains unlinked number object left sig =
    let same : HasSignature layout c.args.key.now _ = subst (HasSignature layout c.args.key.now) (sym (of_z-to_z w64 (cast_unsigned w64 c.args.signature) (let small = c.requires.signature in omega (arith, small)))) sig in
    let d = c.loop.invariant.dropping from there state layout keep chains unlinked number object left same in
    passes_then d.passes (c.in_err-dropped.ensures.stops d.image d.told state layout d.keeps d.chains unlinked number object d.left same d.walked.is)

pub returns-in_err-dropped-clause-untold : goal.returns-in_err-dropped-clause-untold
returns-in_err-dropped-clause-untold g c from there state layout keep chains unlinked number object left sig =
    let same : HasSignature layout c.args.key.now _ = subst (HasSignature layout c.args.key.now) (sym (of_z-to_z w64 (cast_unsigned w64 c.args.signature) (let small = c.requires.signature in omega (arith, small)))) sig in
    let d = c.loop.invariant.dropping from there state layout keep chains unlinked number object left same in
    carried c.drop_next.result c.from_residual.result c.in_err-dropped.field-0.0 (λ _. (g.F.Folder.told c.args.folder.now).files ≡ None) c.in_err-dropped.was c.from_residual.ensures.1
    (if_damaged_weaker c.drop_next.result _ _ (λ damage none. absurd (none-some (sym none ∙ d.told))) (c.drop_next.ensures.untold d.image d.told state layout d.keeps d.chains unlinked number object d.left same d.walked.is))

pub returns-in_default-clause-out : goal.returns-in_default-clause-out
returns-in_default-clause-out g c from there state layout keep chains unlinked number object left sig =
    let same : HasSignature layout c.args.key.now _ = subst (HasSignature layout c.args.key.now) (sym (of_z-to_z w64 (cast_unsigned w64 c.args.signature) (let small = c.requires.signature in omega (arith, small)))) sig in
    let d = c.loop.invariant.dropping from there state layout keep chains unlinked number object left same in
    let none : c.in_ok-dropped.field-0 ≡ None = search rules in
    (ends-none _ _ _ _ _ _ _ _ _ _ _ _ _ _ _ _ _ d (g.F.Folder.told c.drop_next.new.folder) c.in_ok-dropped.field-0 none (c.in_ok-dropped.ensures.stops d.image d.told state layout d.keeps d.chains unlinked number object d.left same d.walked.is) (c.in_ok-dropped.ensures.next d.image d.told state layout d.keeps d.chains unlinked number object d.left same d.walked.is)).out

pub returns-in_default-clause-gone : goal.returns-in_default-clause-gone
returns-in_default-clause-gone g c from there state layout keep chains unlinked number object left sig =
    let same : HasSignature layout c.args.key.now _ = subst (HasSignature layout c.args.key.now) (sym (of_z-to_z w64 (cast_unsigned w64 c.args.signature) (let small = c.requires.signature in omega (arith, small)))) sig in
    let d = c.loop.invariant.dropping from there state layout keep chains unlinked number object left same in
    let none : c.in_ok-dropped.field-0 ≡ None = search rules in
    (ends-none _ _ _ _ _ _ _ _ _ _ _ _ _ _ _ _ _ d (g.F.Folder.told c.drop_next.new.folder) c.in_ok-dropped.field-0 none (c.in_ok-dropped.ensures.stops d.image d.told state layout d.keeps d.chains unlinked number object d.left same d.walked.is) (c.in_ok-dropped.ensures.next d.image d.told state layout d.keeps d.chains unlinked number object d.left same d.walked.is)).gone_is

pub returns-in_default-clause-session : goal.returns-in_default-clause-session
returns-in_default-clause-session g c from there state layout keep chains unlinked number object left sig =
    let same : HasSignature layout c.args.key.now _ = subst (HasSignature layout c.args.key.now) (sym (of_z-to_z w64 (cast_unsigned w64 c.args.signature) (let small = c.requires.signature in omega (arith, small)))) sig in
    let d = c.loop.invariant.dropping from there state layout keep chains unlinked number object left same in
    let none : c.in_ok-dropped.field-0 ≡ None = search rules in
    (ends-none _ _ _ _ _ _ _ _ _ _ _ _ _ _ _ _ _ d (g.F.Folder.told c.drop_next.new.folder) c.in_ok-dropped.field-0 none (c.in_ok-dropped.ensures.stops d.image d.told state layout d.keeps d.chains unlinked number object d.left same d.walked.is) (c.in_ok-dropped.ensures.next d.image d.told state layout d.keeps d.chains unlinked number object d.left same d.walked.is)).session

pub returns-in_default-clause-keeps : goal.returns-in_default-clause-keeps
returns-in_default-clause-keeps g c from there state layout keep chains unlinked number object left sig =
    let same : HasSignature layout c.args.key.now _ = subst (HasSignature layout c.args.key.now) (sym (of_z-to_z w64 (cast_unsigned w64 c.args.signature) (let small = c.requires.signature in omega (arith, small)))) sig in
    let d = c.loop.invariant.dropping from there state layout keep chains unlinked number object left same in
    let none : c.in_ok-dropped.field-0 ≡ None = search rules in
    (ends-none _ _ _ _ _ _ _ _ _ _ _ _ _ _ _ _ _ d (g.F.Folder.told c.drop_next.new.folder) c.in_ok-dropped.field-0 none (c.in_ok-dropped.ensures.stops d.image d.told state layout d.keeps d.chains unlinked number object d.left same d.walked.is) (c.in_ok-dropped.ensures.next d.image d.told state layout d.keeps d.chains unlinked number object d.left same d.walked.is)).keeps

pub returns-in_default-clause-each : goal.returns-in_default-clause-each
returns-in_default-clause-each g c from there state layout keep chains unlinked number object left sig =
    let same : HasSignature layout c.args.key.now _ = subst (HasSignature layout c.args.key.now) (sym (of_z-to_z w64 (cast_unsigned w64 c.args.signature) (let small = c.requires.signature in omega (arith, small)))) sig in
    let d = c.loop.invariant.dropping from there state layout keep chains unlinked number object left same in
    let none : c.in_ok-dropped.field-0 ≡ None = search rules in
    (ends-none _ _ _ _ _ _ _ _ _ _ _ _ _ _ _ _ _ d (g.F.Folder.told c.drop_next.new.folder) c.in_ok-dropped.field-0 none (c.in_ok-dropped.ensures.stops d.image d.told state layout d.keeps d.chains unlinked number object d.left same d.walked.is) (c.in_ok-dropped.ensures.next d.image d.told state layout d.keeps d.chains unlinked number object d.left same d.walked.is)).called

pub returns-in_default-clause-stops : goal.returns-in_default-clause-stops
returns-in_default-clause-stops g c from there state layout keep chains unlinked number object left sig =
    let same : HasSignature layout c.args.key.now _ = subst (HasSignature layout c.args.key.now) (sym (of_z-to_z w64 (cast_unsigned w64 c.args.signature) (let small = c.requires.signature in omega (arith, small)))) sig in
    let d = c.loop.invariant.dropping from there state layout keep chains unlinked number object left same in
    let none : c.in_ok-dropped.field-0 ≡ None = search rules in
    (ends-none _ _ _ _ _ _ _ _ _ _ _ _ _ _ _ _ _ d (g.F.Folder.told c.drop_next.new.folder) c.in_ok-dropped.field-0 none (c.in_ok-dropped.ensures.stops d.image d.told state layout d.keeps d.chains unlinked number object d.left same d.walked.is) (c.in_ok-dropped.ensures.next d.image d.told state layout d.keeps d.chains unlinked number object d.left same d.walked.is)).passes

pub returns-in_default-clause-front : goal.returns-in_default-clause-front
returns-in_default-clause-front g c from there state layout keep chains unlinked number object left sig =
    let same : HasSignature layout c.args.key.now _ = subst (HasSignature layout c.args.key.now) (sym (of_z-to_z w64 (cast_unsigned w64 c.args.signature) (let small = c.requires.signature in omega (arith, small)))) sig in
    let d = c.loop.invariant.dropping from there state layout keep chains unlinked number object left same in
    called-prefix _ _ _ _ _ _ _ _ _ _ _ _ _ _ _ _ _ d

pub returns-clause-out : goal.returns-clause-out
returns-clause-out g c from there state layout keep chains unlinked number object left sig =
    let same : HasSignature layout c.args.key.now _ = subst (HasSignature layout c.args.key.now) (sym (of_z-to_z w64 (cast_unsigned w64 c.args.signature) (let small = c.requires.signature in omega (arith, small)))) sig in
    let d = c.loop.invariant.dropping from there state layout keep chains unlinked number object left same in
    (ends-over _ _ _ _ _ _ _ _ _ _ _ _ _ _ _ _ _ d (search rules)).out

pub returns-clause-gone : goal.returns-clause-gone
returns-clause-gone g c from there state layout keep chains unlinked number object left sig =
    let same : HasSignature layout c.args.key.now _ = subst (HasSignature layout c.args.key.now) (sym (of_z-to_z w64 (cast_unsigned w64 c.args.signature) (let small = c.requires.signature in omega (arith, small)))) sig in
    let d = c.loop.invariant.dropping from there state layout keep chains unlinked number object left same in
    (ends-over _ _ _ _ _ _ _ _ _ _ _ _ _ _ _ _ _ d (search rules)).gone_is

pub returns-clause-session : goal.returns-clause-session
returns-clause-session g c from there state layout keep chains unlinked number object left sig =
    let same : HasSignature layout c.args.key.now _ = subst (HasSignature layout c.args.key.now) (sym (of_z-to_z w64 (cast_unsigned w64 c.args.signature) (let small = c.requires.signature in omega (arith, small)))) sig in
    let d = c.loop.invariant.dropping from there state layout keep chains unlinked number object left same in
    (ends-over _ _ _ _ _ _ _ _ _ _ _ _ _ _ _ _ _ d (search rules)).session

pub returns-clause-keeps : goal.returns-clause-keeps
returns-clause-keeps g c from there state layout keep chains unlinked number object left sig =
    let same : HasSignature layout c.args.key.now _ = subst (HasSignature layout c.args.key.now) (sym (of_z-to_z w64 (cast_unsigned w64 c.args.signature) (let small = c.requires.signature in omega (arith, small)))) sig in
    let d = c.loop.invariant.dropping from there state layout keep chains unlinked number object left same in
    (ends-over _ _ _ _ _ _ _ _ _ _ _ _ _ _ _ _ _ d (search rules)).keeps

pub returns-clause-each : goal.returns-clause-each
returns-clause-each g c from there state layout keep chains unlinked number object left sig =
    let same : HasSignature layout c.args.key.now _ = subst (HasSignature layout c.args.key.now) (sym (of_z-to_z w64 (cast_unsigned w64 c.args.signature) (let small = c.requires.signature in omega (arith, small)))) sig in
    let d = c.loop.invariant.dropping from there state layout keep chains unlinked number object left same in
    (ends-over _ _ _ _ _ _ _ _ _ _ _ _ _ _ _ _ _ d (search rules)).called

pub returns-clause-stops : goal.returns-clause-stops
returns-clause-stops g c from there state layout keep chains unlinked number object left sig =
    let same : HasSignature layout c.args.key.now _ = subst (HasSignature layout c.args.key.now) (sym (of_z-to_z w64 (cast_unsigned w64 c.args.signature) (let small = c.requires.signature in omega (arith, small)))) sig in
    let d = c.loop.invariant.dropping from there state layout keep chains unlinked number object left same in
    (ends-over _ _ _ _ _ _ _ _ _ _ _ _ _ _ _ _ _ d (search rules)).passes

pub returns-clause-front : goal.returns-clause-front
returns-clause-front g c from there state layout keep chains unlinked number object left sig =
    let same : HasSignature layout c.args.key.now _ = subst (HasSignature layout c.args.key.now) (sym (of_z-to_z w64 (cast_unsigned w64 c.args.signature) (let small = c.requires.signature in omega (arith, small)))) sig in
    let d = c.loop.invariant.dropping from there state layout keep chains unlinked number object left same in
    called-prefix _ _ _ _ _ _ _ _ _ _ _ _ _ _ _ _ _ d

pub loop-preserved : goal.loop-preserved
loop-preserved g c = record {
  dropping = λ from there state layout keep chains unlinked number object left sig.
      let d = c.loop.invariant.dropping from there state layout keep chains unlinked number object left sig in
      dropping-next _ _ _ _ _ _ _ _ _ _ _ _ _ _ _ _ _ d (g.F.Folder.told c.drop_next.new.folder) _ c.in-Some.dropped _ _ sig refl refl c.each.ensures
      (c.in_ok-dropped.ensures.stops d.image d.told state layout d.keeps d.chains unlinked number object d.left sig d.walked.is)
      (c.in_ok-dropped.ensures.session d.image d.told state layout d.keeps d.chains unlinked number object d.left sig d.walked.is)
      (c.in_ok-dropped.ensures.keeps d.image d.told state layout d.keeps d.chains unlinked number object d.left sig d.walked.is)
      (λ image is. subst (λ (o : Option Dropped). IsDropOfNext c.args.key.now d.walked.is.items (IsNextOut state layout d.keeps unlinked c.args.key.now number object d.walked.is.front d.walked.is.items) o d.image image) c.in-Some.is
      (c.in_ok-dropped.ensures.next d.image d.told state layout d.keeps d.chains unlinked number object d.left sig d.walked.is image is));
  calls = let before = c.loop.invariant.calls in (before.0 ++ c.in-Some.dropped.number ∷ [], FoldsTo-push (λ p x q. goal.E-step g p x tt q) c.args.each.now before.0 c.loop.each c.in-Some.dropped.number c.each.new.self before.1 c.each.ensures);
  stands = of-some c.in_ok-dropped.field-0 c.in-Some.dropped _ c.in-Some.is c.in_ok-dropped.ensures.stands;
  few = let few = c.loop.invariant.few in omega (arith, few);
  light = let light = c.loop.invariant.light in let small = of-some c.in_ok-dropped.field-0 c.in-Some.dropped _ c.in-Some.is c.in_ok-dropped.ensures.small in omega (arith, light, small);
  buffer = let one = c.drop_next.auto.buffer in let two = c.loop.invariant.buffer in omega (arith, one, two);
  callable = search (rules, of_calls);
  is_open = c.in_ok-dropped.ensures.is_open;
  silent = λ none. c.in_ok-dropped.ensures.writes.silent (c.loop.invariant.silent none);
  later = let one = c.loop.invariant.later in let two = c.in_ok-dropped.ensures.writes.later in omega (arith, one, two);
}
