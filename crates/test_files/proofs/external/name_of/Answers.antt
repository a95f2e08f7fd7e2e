use Rattle.std.proofs.Common.{◌≡◌, ℕ, sym, ◌∙◌, ap}
use Rattle.spec_image.specs.Image.{External}
use Rattle.blk_addr.specs.declared.file_id.FileId.TheVariants as names
use Rattle.spec_format.specs.Address.{external_number}
use Rattle.blk_external.proofs.Words.{file_of_external}
use Rattle.test_files.proofs.external.name_of.Goals as goal

pub unreachable-requires : goal.unreachable-requires
unreachable-requires c = c.in_default.not-External (external_number c.args.addr) (c.file.ensures ∙ file_of_external c.args.addr c.requires)

same_number : (m n : ℕ) → names.External m ≡ names.External n → m ≡ n
same_number m n e = cc

pub returns : goal.returns
returns c = ap External (same_number c.in-External.number (external_number c.args.addr) (sym c.in-External.is ∙ c.file.ensures ∙ file_of_external c.args.addr c.requires))
