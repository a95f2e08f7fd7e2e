-- The precondition of a link can be met.
use Rattle.std.specs.Prelude.{◌≡◌, ℕ, [], ◌∷◌}
use Rattle.spec_image.specs.Image.{Image}
use Rattle.spec_format.specs.NewFolder.{new_index}
use Rattle.spec_image.specs.Image.{Index}
use Rattle.std.specs.declared.option.Option.TheVariants.{Some}
use Rattle.blk_chain.specs.Linking.{CanBeLinked, chained_with}

-- there is a folder, with the index of one just made, that has a record which can be linked as the first of its chain
pub record FirstCanBeLinked : Type 0 where
  pub image : Image
  pub entry : ℕ
  pub moment : ℕ
  pub made : image Index ≡ Some (new_index moment)
  pub chained : chained_with image entry ≡ []
  pub linkable : CanBeLinked entry image

-- there is a folder with a chain of one record that has another record which can be linked at the head of it
pub record NextCanBeLinked : Type 0 where
  pub image : Image
  pub entry : ℕ
  pub first : ℕ
  pub chained : chained_with image entry ≡ first ∷ []
  pub linkable : CanBeLinked entry image
