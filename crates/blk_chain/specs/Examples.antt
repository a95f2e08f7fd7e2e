-- The preconditions of the calls on hash chains can be met.
use Rattle.std.specs.Prelude.{ℕ, List, false}
use Rattle.std.specs.declared.option.Option.TheVariants.{None}
use Rattle.spec_image.specs.Image.{Image}
use Rattle.blk_chain.specs.Finding.{CanBeSearched, IsFound}
use Rattle.blk_chain.specs.Unlinking.{CanBeUnlinked}

-- there is a folder with a chain that can be searched, and with a record that is found in it and can be unlinked
pub record SomeChainIsSearched : Type 0 where
  pub image : Image
  pub key : List ℕ
  pub entry : ℕ
  pub searched : CanBeSearched key image
  pub found : IsFound key false entry None image
  pub unlinked : CanBeUnlinked entry None image
