use Rattle.std.proofs.Common.{◌≡◌, ℕ, Some, None, length, sym, ◌∙◌, ap, ap₂}
use Rattle.std.specs.Prelude.{◌==◌}
use Rattle.std.specs.Option.{option_map}
use Rattle.blk_addr.specs.FileId.{file_of_word}
use Rattle.blk_disk.specs.Names.{folder_name}
use Rattle.blk_io.specs.declared.folder.FileId.{FileId}
use Rattle.blk_io.specs.FileNames.{file_of}
use Rattle.blk_verdict.proofs.Stored.{length_is, length_none}
use Rattle.blk_verdict.proofs.storage.has_length.Goals as goal

pub returns-in-Some-clause-length : goal.returns-in-Some-clause-length
returns-in-Some-clause-length g c image there =
    let read : Some c.in-Some.length ≡ option_map length (image (file_of (folder_name (file_of_word c.args.addr)))) = sym c.in-Some.is ∙ c.in_ok-length.ensures.length image there ∙ ap (λ (file : FileId). option_map length (image (file_of file))) c.file_of.ensures in
    ap₂ (λ (a b : ℕ). a == b) (sym (length_is image c.args.addr c.in-Some.length c.requires.kind read)) c.from.ensures

pub returns-in-None-clause-length : goal.returns-in-None-clause-length
returns-in-None-clause-length g c image there =
    let read : None ≡ option_map length (image (file_of (folder_name (file_of_word c.args.addr)))) = sym c.in-None.is ∙ c.in_ok-length.ensures.length image there ∙ ap (λ (file : FileId). option_map length (image (file_of file))) c.file_of.ensures in
    sym (length_none image c.args.addr c.args.size c.requires.kind c.requires.some read)
