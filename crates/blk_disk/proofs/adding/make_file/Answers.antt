use Rattle.std.proofs.Common.{◌≡◌, ℕ, List, [], ◌∷◌, refl, lit<, subst, arith}
use Rattle.std.proofs.lemmas.Result.{on_ok_weaker}
use Rattle.spec_image.specs.Image.{Block, length_of}
use Rattle.spec_image.specs.Steps.{word_steps}
use Rattle.spec_image.specs.Told.{Applies, AppliesPrefix}
use Rattle.spec_image.proofs.Images.{length-after_set_len}
use Rattle.spec_image.proofs.Runs.{grows_then, part_then, told_whole}
use Rattle.blk_addr.specs.Kind.{kind_number}
use Rattle.spec_format.specs.Address.{block_size}
use Rattle.blk_disk.specs.Growth.{header_words}
use Rattle.blk_disk.proofs.adding.make_file.Goals as goal

-- the four fields are the words of a header
head_is : (kind n from size : ℕ) → from ≡ n → size ≡ block_size kind → ◌≡◌ {A = List (ℕ × ℕ)} ((0, 3238316739) ∷ (4, 131072) ∷ (8, from) ∷ (12, size) ∷ []) (header_words kind n)
head_is kind n from size same same_size = λ i. (0, 3238316739) ∷ (4, 131072) ∷ (8, same i) ∷ (12, same_size i) ∷ []

pub write_run-requires : goal.write_run-requires
write_run-requires g c = (
  lit< tt,
  (
    refl,
    λ image there.
        let whole = told_whole (λ i. length_of i (Block c.args.n) ≡ 8192) c.in_ok-set_len-2.ensures.done (λ from start. length-after_set_len from (Block c.args.n) 8192) image there in
        omega (arith, whole),
  ),
)

pub returns-clause-steps : goal.returns-clause-steps
returns-clause-steps g c =
    let same = head_is (kind_number c.args.kind) c.args.n c.from.result c.block_size.result c.from.ensures c.block_size.ensures.size in
    on_ok_weaker c.write_run.result
    (λ grows. grows_then (grows_then c.in_ok-set_len.ensures.done c.in_ok-set_len-2.ensures.done) (subst (λ (ws : List (ℕ × ℕ)). Applies (g.F.Folder.told c.set_len-2.new.self) (g.F.Folder.told c.write_run.new.folder) (word_steps (Block c.args.n) ws)) same grows))
    c.write_run.ensures.steps

pub returns-clause-prefix : goal.returns-clause-prefix
returns-clause-prefix g c =
    let same = head_is (kind_number c.args.kind) c.args.n c.from.result c.block_size.result c.from.ensures c.block_size.ensures.size in
    part_then (grows_then c.in_ok-set_len.ensures.done c.in_ok-set_len-2.ensures.done)
    (subst (λ (ws : List (ℕ × ℕ)). AppliesPrefix (g.F.Folder.told c.set_len-2.new.self) (g.F.Folder.told c.write_run.new.folder) (word_steps (Block c.args.n) ws)) same c.write_run.ensures.prefix)
