use Rattle.std.proofs.Common.{◌≡◌, ◌≤◌, ◌+◌, ◌*◌, length, take, get_or, ◌∙◌, ap, subst, arith}
use Rattle.std.proofs.lemmas.Result.{on_ok_weaker}
use Rattle.spec_image.specs.Told.{Applies, AppliesPrefix}
use Rattle.std.proofs.lemmas.List.{length-map}
use Rattle.spec_image.specs.Bytes.{word_bytes}
use Rattle.spec_image.specs.Image.{length_of}
use Rattle.blk_io.specs.FileNames.{file_of}
use Rattle.blk_io.proofs.Adjoining.{words-together, together-inside}
use Rattle.blk_io.proofs.words.write_together.Goals as goal

pub write_at-requires : goal.write_at-requires
write_at-requires g c image told =
    let inside : (get_or c.args.words.now 0 (0, 0)).0 + 4 * length c.args.words.now ≤ length_of image (file_of c.args.file) = together-inside c.args.words.now _ c.requires.some c.requires.side_by_side (λ k within. c.requires.inside image told k (0, 0) within) in
    let count : length (take (length c.args.words.now) c.bytes_of_all-bytes.result) ≡ length c.args.words.now = ap length c.bytes_of_all-bytes.ensures ∙ length-map c.args.words.now (λ w. word_bytes w.1) in
    omega (arith, inside, count, c.as_flattened.ensures.len)

pub returns-clause-steps : goal.returns-clause-steps
returns-clause-steps g c =
    on_ok_weaker c.write_at.result (λ grows. subst (Applies _ _) (words-together (file_of c.args.file) c.args.words.now _ _ c.requires.some c.requires.side_by_side (c.requires.aligned 0 (0, 0) c.requires.some) c.bytes_of_all-bytes.ensures c.as_flattened.ensures.value) grows) c.write_at.ensures.steps

pub returns-clause-prefix : goal.returns-clause-prefix
returns-clause-prefix g c =
    subst (AppliesPrefix _ _) (words-together (file_of c.args.file) c.args.words.now _ _ c.requires.some c.requires.side_by_side (c.requires.aligned 0 (0, 0) c.requires.some) c.bytes_of_all-bytes.ensures c.as_flattened.ensures.value) c.write_at.ensures.prefix
