use Rattle.std.proofs.Common.{◌∙◌, ap, ℕ, ◌==◌, ◌++◌, [], ◌∷◌}
use Rattle.spec_image.specs.Image.{Block}
use Rattle.spec_image.specs.Checks.{first_of, check_found}
use Rattle.spec_format.specs.BlockFiles.{file_checks, is_link, is_block_count}
use Rattle.blk_addr.specs.Kind.{kind_number}
use Rattle.blk_disk.specs.Tables.{all_files}
use Rattle.blk_disk.specs.Loading.{files_left}
use Rattle.blk_disk.proofs.tables.BlockFiles.header_damage.Goals as goal

pub returns : goal.returns
unfolding file_checks
returns c =
    let n : ℕ = c.args.n in
    let numbers = c.numbers_word-numbers.ensures in
    let link = c.is_link.ensures ∙ ap (λ (next : ℕ). is_link (all_files c.args.self.now ++ n ∷ []) (files_left c.args.self.now (kind_number c.args.kind)) next) c.next_file.ensures in
    let count = c.is_block_count.ensures ∙ ap is_block_count c.max_entries-blocks.ensures in
    let magic = c.check_is.ensures ∙ (λ i. check_found (Block n) 0 (c.magic.ensures i) (c.magic.ensures i == 0xC104CAC3)) in
    let version = c.check_is-2.ensures ∙ (λ i. check_found (Block n) 4 (c.version.ensures i) (c.version.ensures i == 0x20000)) in
    let this_file = c.check-2.ensures ∙ (λ i. check_found (Block n) 8 (numbers i) (c.this_file.ensures i == c.from.ensures i)) in
    let next_file = c.check-3.ensures ∙ (λ i. check_found (Block n) 8 (numbers i) (link i)) in
    let entry_size = c.check_is-3.ensures ∙ (λ i. check_found (Block n) 12 (c.entry_size.ensures i) (c.entry_size.ensures i == c.block_size.ensures.size i)) in
    let max_entries = c.check-4.ensures ∙ (λ i. check_found (Block n) 20 (c.max_entries-blocks.ensures i) (count i)) in
    c.first_failed.ensures ∙ (λ i. first_of (c.check.ensures i ∷ magic i ∷ version i ∷ this_file i ∷ next_file i ∷ entry_size i ∷ max_entries i ∷ []))
