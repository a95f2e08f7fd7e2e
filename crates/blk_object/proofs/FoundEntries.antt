-- What a search finds in a kept state.
use Rattle.std.proofs.Common.{◌≡◌, ℕ, List, [], ◌∷◌, ◌++◌, ap, sym, ◌∙◌, subst, lit<, true, None, Option, Some, append_assoc}
use Rattle.std.specs.Str.{bytes_eq}
use Rattle.std.proofs.lemmas.Bool.{and_parts, eqb-true}
use Rattle.std.proofs.lemmas.Nat.{mod_below}
use Rattle.spec_image.specs.Image.{Image}
use Rattle.spec_image.proofs.Runs.{some_inj}
use Rattle.blk_model.specs.Items.{main}
use Rattle.blk_model.proofs.Same.{same_bytes}
use Rattle.spec_format.specs.BlockFiles.{is_among}
use Rattle.spec_format.specs.Hash.{hash}
use Rattle.spec_folder.specs.Chains.{bucket_of_hash}
use Rattle.spec_folder.specs.Entries.{is_key_length, stored_key}
use Rattle.spec_folder.specs.Layout.{is_listed, rule_of}
use Rattle.spec_folder.specs.Searches.{IsOfLive, bucket_of_key, chained_for}
use Rattle.spec_folder.specs.View.{RecordFields, store_of, view_of}
use Rattle.law_folder.specs.SearchLaws.{IsSearchable}
use Rattle.law_folder.proofs.chains.Searches.{chains-are, found-live, searchable}
use Rattle.law_folder.proofs.claims.Owner.{IsOwned, owned}
use Rattle.law_folder.proofs.states.Settling.{main-listed}
use Rattle.law_folder.proofs.walks.Loads.{load-then}
use Rattle.blk_chain.specs.Unlinking.{StandsBehind}
use Rattle.blk_entry.specs.Keys.{HasReadableKey, key_at}
use Rattle.blk_object.specs.RemovingFound.{FoundEntriesLieBehind, KeptStatesCanBeSearched}
use Rattle.blk_object.proofs.ChainsOut.{among-front}

pub readable : (image : Image) (w : ℕ) (fields : RecordFields) (key : List ℕ) → (store_of image).entry w ≡ Some fields → is_key_length w fields ≡ true → stored_key (store_of image) w fields ≡ Some key → HasReadableKey w image
unfolding key_at store_of
readable image w fields key here long is = record { key = key; is = rw (here, long) is }

pub can-be-searched : KeptStatesCanBeSearched
can-be-searched state layout unlinked image key k =
    let s : IsSearchable (view_of image) key = searchable (view_of image) state layout k.represents key in
    record {
      whole = s.whole;
      few = s.few;
      keys = λ w among. let h = s.keys w among in readable image w h.fields h.key h.here h.long h.is;
    }

-- a record that is in a chain is among its records
pub standing-among : (words : List ℕ) (w : ℕ) (before : Option ℕ) (prefix suffix : List ℕ) → StandsBehind words w before prefix suffix → is_among words w ≡ true
standing-among words w None prefix suffix stands = ap (λ (xs : List ℕ). is_among xs w) stands.1 ∙ among-front [] w suffix
standing-among words w (Some v) prefix suffix stands = ap (λ (xs : List ℕ). is_among xs w) (stands ∙ sym (append_assoc prefix (v ∷ []) (w ∷ suffix))) ∙ among-front (prefix ++ v ∷ []) w suffix

pub found-lies : FoundEntriesLieBehind
found-lies state layout unlinked image key entry before k found = record {
  was = live.loaded;
  lies = record {
    listed = listed;
    here = ap layout.at (sym live.place) ∙ live.at;
    prefix = found.prefix;
    suffix = found.suffix;
    stands = subst (λ (b : ℕ). StandsBehind (layout.chains b) live.loaded.contents before found.prefix found.suffix) (sym same_bucket)
        (subst (λ (w : ℕ). StandsBehind (layout.chains (bucket_of_key key)) w before found.prefix found.suffix) (sym live.contents) (subst (λ (ws : List ℕ). StandsBehind ws entry before found.prefix found.suffix) chain_is found.stands));
  };
  node_is = sym live.place;
  entry_is = live.contents;
} where
  live : IsOfLive state layout key entry found.has_key.fields.rankings_node
  live = found-live (view_of image) state layout k.represents key entry (standing-among (chained_for (store_of image) key) entry before found.prefix found.suffix found.stands) found.has_key

  chain_is : chained_for (store_of image) key ≡ layout.chains (bucket_of_key key)
  chain_is = chains-are (view_of image) state layout k.represents (bucket_of_key key) (mod_below (hash key) 65536 (lit< tt))

  own : IsOwned state (main key) live.number
  own = owned state (main key) live.number live.live

  listed : is_listed state (main key) ≡ true
  listed =
      let parts = and_parts own.object.live (bytes_eq key own.object.key) own.has in
      subst (λ (x : List ℕ). is_listed state (main x) ≡ true) (sym (same_bytes key own.object.key parts.1)) (main-listed state k.valid live.number own.object true own.here parts.0)

  same_bucket : bucket_of_key live.loaded.key ≡ bucket_of_key key
  same_bucket = load-then (store_of image) (rule_of layout found.has_key.fields.rankings_node) found.has_key.fields.rankings_node live.loaded (k.represents.holds.shows.each found.has_key.fields.rankings_node live.loaded live.at) (λ n e f.
      let here : (store_of image).entry entry ≡ Some e = ap (store_of image).entry (sym live.contents ∙ f.facts.contents_is) ∙ f.entry in
      let same : e ≡ found.has_key.fields = some_inj (sym here ∙ found.has_key.here) in
      ap bucket_of_hash (sym (eqb-true e.hash (hash live.loaded.key) f.facts.keyed.hashed) ∙ ap (λ (x : RecordFields). x.hash) same ∙ found.has_key.hashed))
