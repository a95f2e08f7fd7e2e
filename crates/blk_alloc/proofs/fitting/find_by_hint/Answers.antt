use Rattle.std.proofs.Common.{◌≡◌, ℕ, ◌+◌, ◌*◌, ◌/◌, ◌<◌, ◌≤◌, List, inl, inr, refl, None, ◌∙◌, ap, subst, arith}
use Rattle.std.specs.Option.{ForSome}
use Rattle.spec_image.specs.Bytes.{word_at, word_bytes}
use Rattle.spec_image.specs.Image.{Block, byte}
use Rattle.spec_image.specs.Told.{Told}
use Rattle.spec_format.specs.Maps.{longest_run}
use Rattle.spec_format.proofs.LinkedHeads.{count_whole}
use Rattle.blk_addr.specs.Bits.{has_bit}
use Rattle.blk_addr.specs.Kind.{kind_number}
use Rattle.blk_io.specs.declared.folder.FileId.TheVariants as names
use Rattle.blk_io.specs.Faults.{IfDamaged, IsShort}
use Rattle.blk_io.proofs.Carried.{carried, if_damaged_weaker, untold_where}
use Rattle.blk_disk.specs.Tables.{Agrees, blocks_of}
use Rattle.blk_disk.proofs.KeptOnce.{counts}
use Rattle.blk_disk.proofs.WholeHeaders.{all_head}
use Rattle.blk_alloc.specs.Fitting.{IsMapWord, IsFittingDamage}
use Rattle.blk_alloc.proofs.Members.{member_all}
use Rattle.blk_alloc.proofs.Pieces.{place_group}
use Rattle.blk_alloc.proofs.Searches.{by_hint, counted_somewhere, of_some}
use Rattle.blk_alloc.proofs.fitting.find_by_hint.Goals as goal

pub returns-in_err-hint-clause-cause : goal.returns-in_err-hint-clause-cause
returns-in_err-hint-clause-cause g c =
    carried c.read_word.result c.from_residual.result c.in_err-hint.field-0.0 _ c.in_err-hint.was c.from_residual.ensures.1
    (if_damaged_weaker c.read_word.result (IsShort (g.F.Folder.told c.args.folder.now) (names.Block c.args.blocks.file) (40 + 4 * c.from.result) 4) (IsFittingDamage c.args.files.now (kind_number c.args.kind) (g.F.Folder.told c.args.folder.now))
    (λ damage short. record {
      file = c.args.blocks.file;
      linked = c.requires.linked;
      why = inl (record { place = 40 + 4 * c.from.result; count = 4; read = inr (inl (c.args.i, c.requires.small, ap (λ (k : ℕ). 40 + 4 * k) c.from.ensures, refl)); short = short });
    }) c.read_word.ensures.short)

pub returns-in_err-hint-clause-untold : goal.returns-in_err-hint-clause-untold
returns-in_err-hint-clause-untold g c both =
    carried c.read_word.result c.from_residual.result c.in_err-hint.field-0.0 _ c.in_err-hint.was c.from_residual.ensures.1
    (c.read_word.ensures.untold
    (λ image there. let long = (all_head c.args.files.now image c.args.blocks.file (both image there).0 (member_all c.args.files.now c.args.kind c.args.blocks.file c.requires.block_kind c.requires.linked)).header in let is = c.from.ensures in omega (arith, long, is, c.requires.small)))

pub first_met-requires : goal.first_met-requires
first_met-requires g c = record { linked = member_all c.args.files.now c.args.kind c.args.blocks.file c.requires.block_kind c.requires.linked }

pub returns-in_err-group-clause-untold : goal.returns-in_err-group-clause-untold
returns-in_err-group-clause-untold g c both =
    carried c.first_met.result c.from_residual-in_err-group.result c.in_err-group.field-0.0 _ c.in_err-group.was c.from_residual-in_err-group.ensures.1
    (subst (λ (t : Told). ForSome t.files (Agrees c.args.files.now) → IfDamaged c.first_met.result (λ _. t.files ≡ None)) c.in_ok-hint.ensures.reads.stays c.first_met.ensures.untold (λ image there. (both image there).0))

pub returns-in_default-clause-untold : goal.returns-in_default-clause-untold
returns-in_default-clause-untold g c both =
    let n = c.args.blocks.file in
    let all = member_all c.args.files.now c.args.kind n c.requires.block_kind c.requires.linked in
    untold_where (g.F.Folder.told c.args.folder.now).files
    (λ image there.
    let agrees = (both image there).0 in
    let blocks = agrees.blocks n all in
    let counted = c.requires.counted image there in
    counted_somewhere image n c.args.i (both image there).1 c.requires.small (omega (arith, counted, c.requires.counts))
    (λ h small. c.in_ok-group.ensures.none c.in_default.is image (ap (λ (t : Told). t.files) c.in_ok-hint.ensures.reads.stays ∙ there) h (omega (arith, small, blocks))))

pub least_of_group-requires-clause-room : goal.least_of_group-requires-clause-room
least_of_group-requires-clause-room g c =
    let run = of_some c.in_ok-group.field-0 c.in-Some.group _ c.in-Some.is c.in_ok-group.ensures.run in
    let bytes : longest_run (has_bit c.to_le_bytes-bytes.result) c.in-Some.group.place ≡ longest_run (has_bit (word_bytes c.in-Some.group.word)) c.in-Some.group.place = ap (λ (l : List ℕ). longest_run (has_bit l) c.in-Some.group.place) c.to_le_bytes-bytes.ensures in
    omega (arith, run, bytes, c.requires.enough)

in_range : (number place b groups blocks : ℕ) → 8 * number + place < groups → groups ≡ blocks / 4 → blocks ≤ 64896 → place < 8 → b / 4 ≡ place → 32 * number + b < 64896
in_range number place b groups blocks there are most low at = omega (arith, there, are, most, low, at)

pub overflow_mul-start : goal.overflow_mul-start
overflow_mul-start g c =
    let all = member_all c.args.files.now c.args.kind c.args.blocks.file c.requires.block_kind c.requires.linked in
    let most = (count_whole _ (counts c.args.files.now c.args.blocks.file all)).1 in
    let there = (of_some c.in_ok-group.field-0 c.in-Some.group _ c.in-Some.is c.in_ok-group.ensures.place).1 in
    omega (arith, most, there)

pub overflow_add-start : goal.overflow_add-start
overflow_add-start g c =
    let all = member_all c.args.files.now c.args.kind c.args.blocks.file c.requires.block_kind c.requires.linked in
    let most = (count_whole _ (counts c.args.files.now c.args.blocks.file all)).1 in
    let place = of_some c.in_ok-group.field-0 c.in-Some.group _ c.in-Some.is c.in_ok-group.ensures.place in
    let low = in_range c.in-Some.group.number c.in-Some.group.place c.least_of_group.result _ (blocks_of c.args.files.now c.args.blocks.file) place.1 refl most place.0 c.least_of_group.ensures.group in
    omega (arith, low)

pub returns-clause-found : goal.returns-clause-found
returns-clause-found g c image there =
    let now = ap (λ (t : Told). t.files) c.in_ok-hint.ensures.reads.stays ∙ there in
    let place = of_some c.in_ok-group.field-0 c.in-Some.group _ c.in-Some.is c.in_ok-group.ensures.place in
    let hint = c.in_ok-hint.ensures.word image there ∙ ap (λ (k : ℕ). word_at (byte image (Block c.args.blocks.file)) (40 + 4 * k)) c.from.ensures in
    by_hint image c.args.blocks.file (blocks_of c.args.files.now c.args.blocks.file / 4) c.args.blocks.count c.args.i c.in_ok-hint.hint c.in-Some.group.number c.in-Some.group.place c.in-Some.group.word c.least_of_group.result c.to_le_bytes-bytes.result
    ((of_some c.in_ok-group.field-0 c.in-Some.group _ c.in-Some.is c.in_ok-group.ensures.met) image now) hint place.1 place.0 c.least_of_group.ensures.group ((of_some c.in_ok-group.field-0 c.in-Some.group _ c.in-Some.is c.in_ok-group.ensures.word) image now) c.to_le_bytes-bytes.ensures c.requires.some c.least_of_group.ensures.least

pub returns-clause-word : goal.returns-clause-word
returns-clause-word g c image there =
    let now = ap (λ (t : Told). t.files) c.in_ok-hint.ensures.reads.stays ∙ there in
    let place = of_some c.in_ok-group.field-0 c.in-Some.group _ c.in-Some.is c.in_ok-group.ensures.place in
    let at = c.least_of_group.ensures.group in
    let number : c.in-Some.group.number ≡ (32 * c.in-Some.group.number + c.least_of_group.result) / 32 = omega (arith, at, place.0) in
    subst (λ (k : ℕ). IsMapWord image c.args.blocks.file k c.in-Some.group.word) number ((of_some c.in_ok-group.field-0 c.in-Some.group _ c.in-Some.is c.in_ok-group.ensures.word) image now)

pub returns-clause-place : goal.returns-clause-place
returns-clause-place g c =
    let n = c.args.blocks.file in
    let all = member_all c.args.files.now c.args.kind n c.requires.block_kind c.requires.linked in
    let most = (count_whole _ (counts c.args.files.now n all)).1 in
    let place = of_some c.in_ok-group.field-0 c.in-Some.group _ c.in-Some.is c.in_ok-group.ensures.place in
    let at = c.least_of_group.ensures.group in
    let group = place_group (has_bit c.to_le_bytes-bytes.result) c.args.blocks.count c.least_of_group.result c.least_of_group.ensures.least.place in
    record {
      linked = c.requires.linked;
      number = c.requires.number;
      small = in_range c.in-Some.group.number c.in-Some.group.place c.least_of_group.result _ (blocks_of c.args.files.now n) place.1 refl most place.0 at;
      below = let there = place.1 in omega (arith, there, at);
      group = omega (arith, group);
      counted = refl;
    }
