-- Records of one first block have one name.
use Rattle.std.proofs.Common.{◌≡◌, ℕ, Bool, List, Some, sym, ◌∙◌, ap}
use Rattle.std.specs.Prelude.{◌==◌}
use Rattle.spec_image.specs.Image.{Image}
use Rattle.spec_image.proofs.Runs.{some_inj}
use Rattle.spec_folder.specs.Chains.{file_and_block}
use Rattle.spec_folder.specs.Entries.{stored_key}
use Rattle.spec_folder.specs.View.{RecordFields, store_of}
use Rattle.spec_folder.specs.Searches.{HasKey}
use Rattle.law_folder.proofs.chains.ChainWords.{same-fields, same-key}

module _ (image : Image) (u w : ℕ) (one other : RecordFields) (first : (store_of image).entry u ≡ Some one) (second : (store_of image).entry w ≡ Some other) (same : file_and_block u ≡ file_and_block w) where
  pub same-name : (key : List ℕ) (is_child : Bool) → HasKey (store_of image) key is_child u → HasKey (store_of image) key is_child w
  same-name key is_child named =
      let fields : one ≡ named.fields = some_inj (sym first ∙ named.here) in
      let all : other ≡ named.fields = sym (same-fields image u w one other first second same) ∙ fields in
      record {
        fields = other;
        here = second;
        hashed = ap (λ (c : RecordFields). c.hash) all ∙ named.hashed;
        key = sym (same-key image u w one other first second same) ∙ ap (λ (c : RecordFields). stored_key (store_of image) u c) fields ∙ named.key;
        flag = ap (λ (c : RecordFields). c.flags == 2) all ∙ named.flag;
      }
