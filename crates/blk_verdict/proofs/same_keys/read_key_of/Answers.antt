use Rattle.std.proofs.Common.{◌≡◌, List, ℕ, Option, Some, sym, ap, subst}
use Rattle.std.specs.Prelude.{is_some}
use Rattle.std.proofs.lemmas.Result.{on_ok_weaker}
use Rattle.spec_image.specs.Image.{Image}
use Rattle.spec_folder.specs.Entries.{stored_key}
use Rattle.spec_folder.specs.View.{store_of}
use Rattle.blk_verdict.specs.Keyed.{IsKeyOf, words_kept}
use Rattle.blk_audit.specs.Records.{fields_said}
use Rattle.blk_verdict.specs.declared.loading.Loaded.{Loaded}
use Rattle.blk_audit.specs.declared.record_words.RecordWords.{RecordWords}
use Rattle.blk_verdict.proofs.KeyOf.{stored_same}
use Rattle.blk_verdict.proofs.same_keys.read_key_of.Goals as goal

stored_by : (image : Image) (loaded : Loaded) (words : RecordWords) (key : List ℕ) → words ≡ words_kept loaded → IsKeyOf image loaded key → stored_key (store_of image) loaded.entry (fields_said words) ≡ Some key
stored_by image loaded words key same is = subst (λ (w : RecordWords). stored_key (store_of image) loaded.entry (fields_said w) ≡ Some key) (sym same) (stored_same image loaded key is)

pub returns-clause-key : goal.returns-clause-key
returns-clause-key g c =
    on_ok_weaker c.read_key.result (λ is image there key of. is image there key (stored_by image c.args.loaded.now c.words_of-words.result key c.words_of-words.ensures of)) c.read_key.ensures.key

pub returns-clause-untold : goal.returns-clause-untold
returns-clause-untold g c agrees has =
    c.read_key.ensures.untold agrees
    (λ image there. let known = has image there in ap (λ (o : Option (List ℕ)). is_some o) (stored_by image c.args.loaded.now c.words_of-words.result known.key c.words_of-words.ensures known.is))
