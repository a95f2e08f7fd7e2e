use Rattle.std.proofs.Common.{refl, ap, sym, ◌∙◌, ◌≡◌, Some, length}
use Rattle.std.specs.Option.{option_map}
use Rattle.blk_io.proofs.FileLists.{place_is}
use Rattle.blk_io.proofs.mem_files.length_in.Goals as goal

pub returns-in-Some : goal.returns-in-Some
returns-in-Some c =
    let is = place_is _ _ _ _ _ refl c.in-Some.ensures.found c.index-files-i.is in
    let size : c.len.result ≡ length c.index-files-i.result.bytes.items = c.len.ensures ∙ c.index-files-i.result.bytes.ok.0 in
    ap Some size ∙ ap (option_map length) (sym is.1)

pub returns-in-None : goal.returns-in-None
returns-in-None c = sym (ap (option_map length) c.in-None.ensures.none)
