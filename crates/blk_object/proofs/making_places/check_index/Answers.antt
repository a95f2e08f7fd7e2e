use Rattle.std.proofs.Common.{◌≡◌, ℕ, List, [], length, Option, None, Some, refl, sym, subst, ◌∙◌, ◌%◌, ap}
use Rattle.std.specs.Prelude.{◌^◌, unwrap_or}
use Rattle.std.specs.Option.{option_map}
use Rattle.spec_image.specs.Image.{Image, Index, length_of}
use Rattle.spec_image.specs.Told.{Told}
use Rattle.blk_object.specs.FailedChecks.{HasOtherLength}
use Rattle.blk_io.specs.declared.folder.FileId.TheVariants as names
use Rattle.blk_io.proofs.Carried.{untold_where}
use Rattle.blk_object.proofs.making_places.check_index.Goals as goal

long-or-none : (o : Option (List ℕ)) → unwrap_or (option_map length o) 0 ≡ length (unwrap_or o [])
long-or-none None = refl
long-or-none (Some bytes) = refl

pub returns-then-length-ne-INDEX_LEN-clause-untold : goal.returns-then-length-ne-INDEX_LEN-clause-untold
returns-then-length-ne-INDEX_LEN-clause-untold g c whole =
    untold_where (g.F.Folder.told c.args.folder.now).files
    (λ image there. c.if-length-ne-INDEX_LEN.true (c.unwrap_or-length.ensures ∙ ap (λ (o : Option ℕ). unwrap_or o 0) (c.in_ok-length.ensures.length image there) ∙ long-or-none (image Index) ∙ whole image there))

pub returns-then-length-ne-INDEX_LEN-clause-damaged : goal.returns-then-length-ne-INDEX_LEN-clause-damaged
returns-then-length-ne-INDEX_LEN-clause-damaged g c =
    subst (λ (t : Told). HasOtherLength t (record { file = names.Index; at = 262512; found = c.unwrap_or-length.result % 2 ^ 32 })) (sym c.in_ok-length.ensures.stays) (record {
      of_file = refl;
      at_end = refl;
      unlike = λ image there whole. c.if-length-ne-INDEX_LEN.true (length-is image there ∙ whole);
      found = λ image there. ap (λ (n : ℕ). n % 2 ^ 32) (length-is image there);
    })
  where
    length-is : (image : Image) → (g.F.Folder.told c.args.folder.now).files ≡ Some image → c.unwrap_or-length.result ≡ length_of image Index
    length-is image there = c.unwrap_or-length.ensures ∙ ap (λ (o : Option ℕ). unwrap_or o 0) (c.in_ok-length.ensures.length image there) ∙ long-or-none (image Index)
