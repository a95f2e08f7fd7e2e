-- Where a folder can be written, a record that comes after another can be unlinked: the link of the one before it is written. So the laws on items that
-- are removed speak of such records too.
use Rattle.std.proofs.Common.{◌≡◌, ◌≢◌, ⊎_elim, ℕ, ◌<◌, List, [], ◌∷◌, refl, ap, sym, ◌∙◌, subst, lit<, Option, Some, true, false}
use Rattle.std.specs.Prelude.{◌==◌, ◌&&◌}
use Rattle.std.specs.Option.{option_map_or}
use Rattle.std.proofs.lemmas.Bool.{cases_Bool, eq-eqb, eqb-true, or_left}
use Rattle.spec_image.specs.Footprint.{SameOutside}
use Rattle.spec_image.specs.Image.{Image}
use Rattle.spec_format.specs.BlockFiles.{is_among}
use Rattle.spec_format.specs.Records.{entry_is_sealed}
use Rattle.spec_format.specs.Sealed.{record_range}
use Rattle.spec_folder.specs.Chains.{IsChain, Linked, bucket_of_hash, file_and_block, is_of_bucket}
use Rattle.spec_folder.specs.Layout.{Layout}
use Rattle.spec_folder.specs.ListImages.{IsWritable}
use Rattle.spec_folder.specs.ShownChanges.{OnlyChainNextChanges}
use Rattle.spec_folder.specs.View.{RecordFields, entry_at, store_of}
use Rattle.law_folder.proofs.states.Replacing.{linked-facts}
use Rattle.law_state.specs.Arranging.{LeavesFiles}
use Rattle.law_state.specs.PartlyOut.{chains_but}
use Rattle.law_state.specs.RemovalLaws.{IsUnlinking}
use Rattle.law_state.proofs.Links.{next-links}
use Rattle.law_state.proofs.RecordSteps.{next-leaves, next-outside, next-sealed, next-shown, rewritten}

-- a record comes after another one in the chain of a bucket, which has no more, and in no other chain; and what is in others is not the one before it
pub record IsBehind (chains : ℕ → List ℕ) (bucket previous contents : ℕ) : Type 0 where
  pub small : bucket < 65536
  pub both : chains bucket ≡ previous ∷ contents ∷ []
  pub left : chains_but chains contents bucket ≡ previous ∷ []
  pub others : (other : ℕ) → (other == bucket) ≡ false → chains_but chains contents other ≡ chains other
  pub apart : (other w : ℕ) → (other == bucket) ≡ false → is_among (chains other) w ≡ true → file_and_block w ≢ file_and_block previous

-- the folder once the record before it is the last one
abbrev pub shortened : Image → ℕ → Image
shortened from previous = rewritten from previous ((4, 0) ∷ [])

-- the record after another is out of its chain, and the one before it has its checksum
pub record IsOutBehind (chains : ℕ → List ℕ) (previous contents : ℕ) (from : Image) : Type 0 where
  pub unlinking : (layout : Layout) → IsUnlinking (record layout { chains = chains }) (chains_but chains contents) from (shortened from previous)
  pub leaves : LeavesFiles from (shortened from previous)
  pub outside : SameOutside (record_range previous) from (shortened from previous)
  pub sealed : entry_is_sealed (entry_at (shortened from previous) previous) ≡ true

module _ (from : Image) (ready : IsWritable from) (chains : ℕ → List ℕ) (bucket previous contents : ℕ) (behind : IsBehind chains bucket previous contents) (whole : (other : ℕ) → other < 65536 → IsChain (store_of from) other (chains other))
    (fields : RecordFields) (here : (store_of from).entry previous ≡ Some fields) (good : fields.checks ≡ true) where
  abbrev now : Image
  now = shortened from previous

  shown : OnlyChainNextChanges previous from now × ((store_of now).chain_next previous ≡ 0)
  shown = next-shown from previous fields ready here good 0 (lit< tt)

  of-bucket : (other w : ℕ) → is_of_bucket (store_of now) other w ≡ is_of_bucket (store_of from) other w
  of-bucket other w = ap (λ (o : Option RecordFields). option_map_or (λ (f : RecordFields). f.checks && (bucket_of_hash f.hash == other)) o false) (sym (shown.0.entry w))

  old : IsChain (store_of from) bucket (previous ∷ contents ∷ [])
  old = subst (IsChain (store_of from) bucket) behind.both (whole bucket behind.small)

  here-now : IsChain (store_of now) bucket (previous ∷ [])
  here-now = record { linked = (sym (shown.0.rest.table bucket) ∙ old.linked.0, of-bucket bucket previous ∙ old.linked.1, shown.1); once = (refl, tt) }

  elsewhere-now : (other : ℕ) → other < 65536 → (other == bucket) ≡ false → IsChain (store_of now) other (chains other)
  elsewhere-now other small there = let chain : IsChain (store_of from) other (chains other) = whole other small in record {
    linked = subst (λ (first : ℕ). Linked (store_of now) other first (chains other)) (shown.0.rest.table other)
        (linked-facts (store_of from) (store_of now) other ((store_of from).table other) (chains other) (λ w among. (of-bucket other w, sym (shown.0.chain_next w (behind.apart other w there among)))) chain.linked);
    once = chain.once;
  }

  chain-now : (other : ℕ) → other < 65536 → IsChain (store_of now) other (chains_but chains contents other)
  chain-now other small = ⊎_elim
      (λ (e : (other == bucket) ≡ true). subst (λ (b : ℕ). IsChain (store_of now) b (chains_but chains contents b)) (sym (eqb-true other bucket e)) (subst (IsChain (store_of now) bucket) (sym behind.left) here-now))
      (λ (e : (other == bucket) ≡ false). subst (IsChain (store_of now) other) (sym (behind.others other e)) (elsewhere-now other small e))
      (cases_Bool (other == bucket))

  pub out-behind : IsOutBehind chains previous contents from
  out-behind = record {
    unlinking = λ layout. record {
      word = previous;
      bucket = bucket;
      small = behind.small;
      chained = ap (λ (words : List ℕ). is_among words previous) behind.both ∙ or_left (previous == previous) _ (eq-eqb previous previous refl);
      only = next-links from now previous shown.0;
      list = shown.0.rest.list;
      whole = chain-now;
      headers = (next-leaves from previous fields ready here good 0 (lit< tt)).well_formed;
    };
    leaves = next-leaves from previous fields ready here good 0 (lit< tt);
    outside = next-outside from previous fields ready here good 0 (lit< tt);
    sealed = next-sealed from previous fields ready here good 0 (lit< tt);
  }
