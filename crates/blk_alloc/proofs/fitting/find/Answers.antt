use Rattle.std.proofs.Common.{◌≡◌, ℕ, ◌+◌, ◌∷◌, ◌++◌, take, drop, length, true, None, sym, ◌∙◌, ap, subst, arith}
use Rattle.std.specs.List.{All}
use Rattle.std.specs.Option.{ForSome}
use Rattle.std.proofs.lemmas.List.{take_all}
use Rattle.std.proofs.lemmas.List.Elements.{All-more}
use Rattle.spec_image.specs.Told.{Told}
use Rattle.spec_format.specs.BlockFiles.{is_among, max_entries_in}
use Rattle.spec_format.specs.Maps.{groups_of, EmptyAgrees}
use Rattle.blk_addr.specs.Kind.{kind_number}
use Rattle.blk_io.specs.Faults.{IfDamaged}
use Rattle.blk_io.proofs.Carried.{carried}
use Rattle.blk_disk.specs.Tables.{Agrees, files_of}
use Rattle.blk_alloc.specs.Fitting.{HasNoRoom, IsByHint, IsGroupSought}
use Rattle.blk_alloc.proofs.Members.{at_place, member_all, member_at, split_at}
use Rattle.blk_alloc.proofs.Searches.{of_some}
use Rattle.blk_alloc.proofs.fitting.find.Goals as goal

pub find_in_file-requires-clause-linked : goal.find_in_file-requires-clause-linked
find_in_file-requires-clause-linked g c = member_at (files_of c.args.files.now (kind_number c.args.kind)) c.loop-k.k c.in-Some.file (sym c.file_at.ensures ∙ c.in-Some.is)

pub returns-in_err-found-clause-untold : goal.returns-in_err-found-clause-untold
returns-in_err-found-clause-untold g c counted =
    let there : is_among (files_of c.args.files.now (kind_number c.args.kind)) c.in-Some.file ≡ true = member_at (files_of c.args.files.now (kind_number c.args.kind)) c.loop-k.k c.in-Some.file (sym c.file_at.ensures ∙ c.in-Some.is) in
    carried c.find_in_file.result c.from_residual.result c.in_err-found.field-0.0 _ c.in_err-found.was c.from_residual.ensures.1
    (subst (λ (t : Told). ForSome t.files (λ image. Agrees c.args.files.now image × EmptyAgrees image c.in-Some.file) → IfDamaged c.find_in_file.result (λ _. t.files ≡ None)) c.loop-k.invariant.stays c.find_in_file.ensures.untold
    (λ image told. (c.requires.agrees image told, ((counted image told).each c.in-Some.file there).empty)))

pub returns-in-Some-2-clause-sought : goal.returns-in-Some-2-clause-sought
returns-in-Some-2-clause-sought g c image told =
    let both = of_some c.in_ok-found.field-0 c.in-Some-2.found _ c.in-Some-2.is c.in_ok-found.ensures.fit in
    let place = of_some c.in_ok-found.field-0 c.in-Some-2.found _ c.in-Some-2.is c.in_ok-found.ensures.place in
    subst (λ (n : ℕ). IsGroupSought image n c.args.count c.in-Some-2.found.i) (sym place.1) (both image (ap (λ (t : Told). t.files) c.loop-k.invariant.stays ∙ told)).0

pub returns-in-Some-2-clause-fit : goal.returns-in-Some-2-clause-fit
returns-in-Some-2-clause-fit g c image told =
    let files = files_of c.args.files.now (kind_number c.args.kind) in
    let at = sym c.file_at.ensures ∙ c.in-Some.is in
    let all = member_all c.args.files.now c.args.kind c.in-Some.file c.requires.block_kind (member_at files c.loop-k.k c.in-Some.file at) in
    let both = of_some c.in_ok-found.field-0 c.in-Some-2.found _ c.in-Some-2.is c.in_ok-found.ensures.fit in
    let fits = both image (ap (λ (t : Told). t.files) c.loop-k.invariant.stays ∙ told) in
    let place = of_some c.in_ok-found.field-0 c.in-Some-2.found _ c.in-Some-2.is c.in_ok-found.ensures.place in
    let file = sym place.1 in
    record {
      before = take c.loop-k.k files;
      behind = drop (c.loop-k.k + 1) files;
      split = split_at files c.loop-k.k c.in-Some.file at ∙ ap (λ (n : ℕ). take c.loop-k.k files ++ n ∷ drop (c.loop-k.k + 1) files) file;
      full = c.loop-k.invariant.full image told;
      i = c.in-Some-2.found.i;
      sought = subst (λ (n : ℕ). IsGroupSought image n c.args.count c.in-Some-2.found.i) file fits.0;
      blocks = subst (λ (n : ℕ). IsByHint image n (groups_of (max_entries_in image n)) c.args.count c.in-Some-2.found.i c.in-Some-2.found.place.start) file
          (subst (λ (m : ℕ). IsByHint image c.in-Some.file (groups_of m) c.args.count c.in-Some-2.found.i c.in-Some-2.found.place.start) ((c.requires.agrees image told).blocks c.in-Some.file all) fits.1);
      counted = place.0.counted;
    }

pub loop-k-preserved : goal.loop-k-preserved
loop-k-preserved g c = record {
  full = λ image told.
      let files = files_of c.args.files.now (kind_number c.args.kind) in
      let place = at_place files c.loop-k.k c.in-Some.file (sym c.file_at.ensures ∙ c.in-Some.is) in
      let none : HasNoRoom image c.args.count c.in-Some.file = c.in_ok-found.ensures.full c.in_default-2.is image (ap (λ (t : Told). t.files) c.loop-k.invariant.stays ∙ told) in
      All-more (HasNoRoom image c.args.count) files c.loop-k.k 0 place.0 (c.loop-k.invariant.full image told) (subst (HasNoRoom image c.args.count) (sym (place.1 0)) none);
  none = c.in_ok-found.ensures.none c.in_default-2.is ∙ c.loop-k.invariant.none;
  stays = c.in_ok-found.ensures.reads.stays ∙ c.loop-k.invariant.stays;
  later = let one = c.loop-k.invariant.later in let other = c.in_ok-found.ensures.reads.later in omega (arith, one, other);
}

pub returns-clause-full : goal.returns-clause-full
returns-clause-full g c e image told =
    let files = files_of c.args.files.now (kind_number c.args.kind) in
    let ends : c.count-k-end.result ≡ length files = c.count-k-end.ensures in
    subst (All (HasNoRoom image c.args.count)) (take_all c.loop-k.k files (omega (arith, ends, c.loop-k-test.false))) (c.loop-k.invariant.full image told)
