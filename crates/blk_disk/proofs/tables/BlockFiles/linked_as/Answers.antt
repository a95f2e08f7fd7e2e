use Rattle.std.proofs.Common.{◌≡◌, ℕ, Bool, true, false, if◌then◌else◌, Some, None, refl, ◌∙◌, ap, rules}
use Rattle.std.specs.Option.{option_map}
use Rattle.std.specs.List.{find}
use Rattle.std.proofs.lemmas.Iterator.{YieldsList-from_slice}
use Rattle.std.proofs.lemmas.Iterator.Search.{find_from_yields_List}
use Rattle.blk_addr.specs.declared.kinds.Kind.TheVariants.{Rankings, B256, B1K, B4K}
use Rattle.blk_addr.specs.Kind.{kind_number}
use Rattle.spec_format.specs.BlockFiles.{is_among, kind_among}
use Rattle.blk_disk.specs.Tables.{files_of}
use Rattle.blk_disk.specs.declared.tables.BlockFiles.{BlockFiles}
use Rattle.blk_disk.proofs.Among.{kinds}
use Rattle.blk_disk.proofs.tables.BlockFiles.linked_as.Goals as goal

-- the first of four kinds that passes
first_of : (a b c d : Bool) → option_map kind_number (if a then Some Rankings else if b then Some B256 else if c then Some B1K else if d then Some B4K else None) ≡ (if a then Some 1 else if b then Some 2 else if c then Some 3 else if d then Some 4 else None)
first_of true b c d = refl
first_of false true c d = refl
first_of false false true d = refl
first_of false false false true = refl
first_of false false false false = refl

as_defined : (files : BlockFiles) (n : ℕ) → option_map kind_number (find (λ k. is_among (files_of files (kind_number k)) n) kinds) ≡ kind_among (files_of files) n
unfolding kind_among
as_defined files n = first_of (is_among (files_of files 1) n) (is_among (files_of files 2) n) (is_among (files_of files 3) n) (is_among (files_of files 4) n)

pub returns-clause-kind : goal.returns-clause-kind
returns-clause-kind c =
    let found : option_map (λ y. y.now) c.find-found.result ≡ find (λ k. is_among (files_of c.args.self.now (kind_number k)) c.args.file) kinds =
    find_from_yields_List (λ k. is_among (files_of c.args.self.now (kind_number k)) c.args.file) _ _ c.find-found.result c.find-found.ensures.ran (YieldsList-from_slice kinds c.iter.ensures.rest) (λ x b q k. search rules) in
    ap (option_map kind_number) (c.copied.ensures ∙ found) ∙ as_defined c.args.self.now c.args.file
