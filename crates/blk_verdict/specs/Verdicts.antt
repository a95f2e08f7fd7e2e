-- The verdict on a node by itself, as it is kept in memory.
use Rattle.std.specs.Prelude.{◌≡◌, ℕ, ◌<◌, ◌∷◌, length, slice_index}
use Rattle.std.specs.declared.result.Result.{Result}
use Rattle.std.specs.declared.result.Result.TheVariants.{Ok, Err}
use Rattle.spec_format.specs.Hash.{hash}
use Rattle.spec_folder.specs.Entries.{stream}
use Rattle.spec_folder.specs.Loads as shown
use Rattle.spec_folder.specs.Reasons as reasons
use Rattle.blk_verdict.specs.Reasons.{reason_of}
use Rattle.blk_verdict.specs.Roles.{IsRole}
use Rattle.blk_verdict.specs.declared.loading.Loaded.{Loaded}
use Rattle.blk_verdict.specs.declared.loading.Verdict.{Verdict}
use Rattle.blk_verdict.specs.declared.loading.Verdict.TheVariants as verdict
use Rattle.blk_audit.specs.declared.record_words.RecordWords.{RecordWords}
use Rattle.blk_verdict.specs.declared.roles.Role.{Role}

-- what is kept in memory of an entry with this node, this record and these words
abbrev pub loaded_with : ℕ → ℕ → Role → RecordWords → Loaded
loaded_with node entry role words = record {
  node = node;
  entry = entry;
  role = role;
  hash = words.hash;
  key_len = words.key_len;
  long_key = words.long_key;
  sizes = words.sizes;
  addrs = words.addrs;
}

-- what is kept in memory of an entry agrees with what its node loads, with the lengths of key and streams in place of their bytes
pub record IsLoaded (loaded : shown.Loaded) (said : Loaded) : Type 0 where
  pub node : said.node ≡ loaded.node
  pub entry : said.entry ≡ loaded.contents
  pub role : IsRole loaded.key loaded.role said.role
  pub hash : said.hash ≡ hash loaded.key
  pub key_len : said.key_len ≡ length loaded.key
  pub sizes : (i : ℕ) → i < 3 → slice_index said.sizes i ≡ length (stream i loaded.streams)
  pub others : said.long_key ∷ said.addrs ≡ loaded.others

-- a verdict in memory is that of the model on the node: the same reason to drop it, or what its node loads
abbrev pub IsVerdict : Result shown.Loaded reasons.Reason → Verdict → Type 0
IsVerdict (Ok loaded) (verdict.Loaded said) = IsLoaded loaded said
IsVerdict (Ok loaded) (verdict.Dropped reason) = ⊥
IsVerdict (Err reason) (verdict.Loaded said) = ⊥
IsVerdict (Err reason) (verdict.Dropped given) = reason_of given ≡ reason
