-- What linking and unlinking do to the map of the chains.
use Rattle.std.proofs.Common.{◌≡◌, ◌≢◌, ⊎_elim, ℕ, Bool, true, false, List, [], ◌∷◌, ◌++◌, map, Option, Some, None, refl, sym, ◌∙◌, ap, subst}
use Rattle.std.specs.Prelude.{◌==◌, ◌↔◌}
use Rattle.std.proofs.lemmas.Bool.{cases_Bool, cases_eq, or_cases, or_left, or_right, eq-eqb, eqb-true}
use Rattle.spec_image.specs.Image.{Image}
use Rattle.spec_image.proofs.Runs.{some_inj}
use Rattle.spec_format.specs.BlockFiles.{is_among}
use Rattle.spec_format.specs.Hash.{hash as hash_of}
use Rattle.spec_folder.specs.Entries.{stored_key}
use Rattle.spec_folder.specs.ListView.{Distinct, put}
use Rattle.spec_folder.specs.View.{StoreView, RecordFields, store_of, entry_at}
use Rattle.spec_folder.specs.Chains.{Chain, bucket_of_hash, chain, file_and_block, IsChain, bucket_at}
use Rattle.law_folder.proofs.chains.Chains.{chain-is}
use Rattle.spec_folder.specs.Searches.{HasKey, bucket_of_key, chained_for}
use Rattle.blk_chain.specs.Linking.{chained_with, CanBeLinked, IsLinkedInFront}
use Rattle.blk_chain.specs.Unlinking.{CanBeUnlinked, IsUnlinked, KeyIsApart, StandsBehind, without_record}
use Rattle.blk_chain.specs.Mapping.{GainsOne, IsRecordOf, LosesOne}
use Rattle.blk_chain.proofs.Apart.{among-blocks, still-there}
use Rattle.blk_chain.proofs.Firsts.{named-table}
use Rattle.law_folder.proofs.states.Bare.{no-record}
use Rattle.law_folder.proofs.chains.ChainWords.{shown-fields}

-- a whole chain is its records
pub chain-words : (image : Image) (b : ℕ) (words : List ℕ) → IsChain (store_of image) b words → (chain (store_of image) b).reached ≡ words
chain-words image b words is = ap (λ (c : Chain). c.reached) (chain-is (store_of image) b words (no-record image) is)

-- the bucket of a record with a name is that of the key
pub named-bucket : (image : Image) (key : List ℕ) (is_child : Bool) (w : ℕ) → HasKey (store_of image) key is_child w → bucket_at image w ≡ bucket_of_key key
named-bucket image key is_child w named = ap bucket_of_hash (ap (λ (c : RecordFields). c.hash) (shown-fields image w named.fields named.here) ∙ named.hashed)

-- one record has one name
pub one-name : (store : StoreView) (w : ℕ) (key other : List ℕ) (is_child flag : Bool) → HasKey store key is_child w → HasKey store other flag w → HasKey store other flag w × ((key ≡ other) × (is_child ≡ flag))
one-name store w key other is_child flag one two =
    let fields : one.fields ≡ two.fields = some_inj (sym one.here ∙ two.here) in
    (two, (some_inj (sym one.key ∙ ap (λ (c : RecordFields). stored_key store w c) fields ∙ two.key), sym one.flag ∙ ap (λ (c : RecordFields). c.flags == 2) fields ∙ two.flag))

-- a word that isn't the first one is after it
not-first : (v w : ℕ) (words : List ℕ) → w ≢ v → is_among (v ∷ words) w ≡ true → is_among words w ≡ true
not-first v w words apart among = ⊎_elim (λ (e : (v == w) ≡ true). absurd (apart (sym (eqb-true v w e)))) (λ (e : is_among words w ≡ true). e) (or_cases (v == w) (is_among words w) among)

-- and one that isn't the one after the middle is among the others
not-behind : (prefix : List ℕ) (p c w : ℕ) (rest : List ℕ) → w ≢ c → is_among (prefix ++ p ∷ c ∷ rest) w ≡ true → is_among (prefix ++ p ∷ rest) w ≡ true
not-behind [] p c w rest apart among =
    ⊎_elim (λ (e : (p == w) ≡ true). or_left (p == w) (is_among rest w) e) (λ (e : is_among (c ∷ rest) w ≡ true). or_right (p == w) (is_among rest w) (not-first c w rest apart e)) (or_cases (p == w) (is_among (c ∷ rest) w) among)
not-behind (y ∷ prefix) p c w rest apart among =
    ⊎_elim (λ (e : (y == w) ≡ true). or_left (y == w) (is_among (prefix ++ p ∷ rest) w) e)
    (λ (e : is_among (prefix ++ p ∷ c ∷ rest) w ≡ true). or_right (y == w) (is_among (prefix ++ p ∷ rest) w) (not-behind prefix p c w rest apart e)) (or_cases (y == w) (is_among (prefix ++ p ∷ c ∷ rest) w) among)

clash : (b : Bool) → b ≡ true → b ≡ false → ⊥
clash true t f = cc
clash false t f = cc

-- the first word of different ones is none of the others, and neither is one in the midst of them
first-once : (w : ℕ) (words : List ℕ) → Distinct (map file_and_block (w ∷ words)) → is_among words w ≡ true → ⊥
first-once w words once among = clash (is_among (map file_and_block words) (file_and_block w)) (among-blocks words w among) once.0

behind-once : (prefix : List ℕ) (p c : ℕ) (rest : List ℕ) → Distinct (map file_and_block (prefix ++ p ∷ c ∷ rest)) → is_among (prefix ++ p ∷ rest) c ≡ true → ⊥
behind-once [] p c rest once among =
    ⊎_elim (λ (e : (p == c) ≡ true). first-once p (c ∷ rest) once (or_left (c == p) (is_among rest p) (eq-eqb c p (sym (eqb-true p c e))))) (λ (e : is_among rest c ≡ true). first-once c rest once.1 e) (or_cases (p == c) (is_among rest c) among)
behind-once (y ∷ prefix) p c rest once among =
    ⊎_elim
    (λ (e : (y == c) ≡ true). first-once y (prefix ++ p ∷ c ∷ rest) once (subst (λ (x : ℕ). is_among (prefix ++ p ∷ c ∷ rest) x ≡ true) (sym (eqb-true y c e)) (there prefix)))
    (λ (e : is_among (prefix ++ p ∷ rest) c ≡ true). behind-once prefix p c rest once.1 e) (or_cases (y == c) (is_among (prefix ++ p ∷ rest) c) among)
  where
    there : (prefix : List ℕ) → is_among (prefix ++ p ∷ c ∷ rest) c ≡ true
    there [] = or_right (p == c) (is_among (c ∷ rest) c) (or_left (c == c) (is_among rest c) (eq-eqb c c refl))
    there (z ∷ more) = or_right (z == c) (is_among (more ++ p ∷ c ∷ rest) c) (there more)

module _ (from image : Image) (entry : ℕ) (can : CanBeLinked entry from) (is : IsLinkedInFront from entry image) where
  -- the names are as they were
  named-then : (key : List ℕ) (is_child : Bool) (w : ℕ) → HasKey (store_of image) key is_child w → HasKey (store_of from) key is_child w
  named-then key is_child w named = (named-table (store_of from) (put (store_of from).table (bucket_at from entry) entry) key is_child w).1 (subst (λ (s : StoreView). HasKey s key is_child w) is.store named)

  named-now : (key : List ℕ) (is_child : Bool) (w : ℕ) → HasKey (store_of from) key is_child w → HasKey (store_of image) key is_child w
  named-now key is_child w named = subst (λ (s : StoreView). HasKey s key is_child w) (sym is.store) ((named-table (store_of from) (put (store_of from).table (bucket_at from entry) entry) key is_child w).0 named)

  -- the chains of the bucket and of the others
  here : (key : List ℕ) → bucket_at from entry ≡ bucket_of_key key → chained_for (store_of image) key ≡ entry ∷ chained_for (store_of from) key
  here key same =
      subst (λ (b : ℕ). (chain (store_of image) b).reached ≡ entry ∷ (chain (store_of from) b).reached) same
      (chain-words image (bucket_at from entry) (entry ∷ chained_with from entry) is.chain_now)

  there : (key : List ℕ) → (bucket_at from entry == bucket_of_key key) ≡ false → chained_for (store_of image) key ≡ chained_for (store_of from) key
  there key apart = ap (λ (c : Chain). c.reached) (is.others (bucket_of_key key) apart)

  among-then : (key : List ℕ) (w : ℕ) → w ≢ entry → is_among (chained_for (store_of image) key) w ≡ true → is_among (chained_for (store_of from) key) w ≡ true
  among-then key w apart among = ⊎_elim
      (λ (e : (bucket_at from entry == bucket_of_key key) ≡ true).
      not-first entry w (chained_for (store_of from) key) apart (subst (λ (words : List ℕ). is_among words w ≡ true) (here key (eqb-true (bucket_at from entry) (bucket_of_key key) e)) among))
      (λ (e : (bucket_at from entry == bucket_of_key key) ≡ false). subst (λ (words : List ℕ). is_among words w ≡ true) (there key e) among)
      (cases_Bool (bucket_at from entry == bucket_of_key key))

  among-now : (key : List ℕ) (w : ℕ) → is_among (chained_for (store_of from) key) w ≡ true → is_among (chained_for (store_of image) key) w ≡ true
  among-now key w among = ⊎_elim
      (λ (e : (bucket_at from entry == bucket_of_key key) ≡ true).
      subst (λ (words : List ℕ). is_among words w ≡ true) (sym (here key (eqb-true (bucket_at from entry) (bucket_of_key key) e))) (or_right (entry == w) (is_among (chained_for (store_of from) key) w) among))
      (λ (e : (bucket_at from entry == bucket_of_key key) ≡ false). subst (λ (words : List ℕ). is_among words w ≡ true) (sym (there key e)) among)
      (cases_Bool (bucket_at from entry == bucket_of_key key))

  -- no other record has the name of the new one
  fresh : (key : List ℕ) (is_child : Bool) (w : ℕ) → HasKey (store_of from) key is_child entry → IsRecordOf from key is_child w → ⊥
  fresh key is_child w named of =
      let own = one-name (store_of from) entry key can.key is_child (can.fields.flags == 2) named can.has_key in
      let bucket : bucket_of_key key ≡ bucket_at from entry = sym (named-bucket from key is_child entry named) in
      can.fresh w (subst (λ (b : ℕ). is_among (chain (store_of from) b).reached w ≡ true) bucket of.0)
      (subst (λ (flag : Bool). HasKey (store_of from) can.key flag w) own.1.1 (subst (λ (k : List ℕ). HasKey (store_of from) k is_child w) own.1.0 of.1))

  then-of : (key : List ℕ) (is_child : Bool) (w : ℕ) → w ≢ entry → IsRecordOf image key is_child w → IsRecordOf from key is_child w
  then-of key is_child w apart of = (among-then key w apart of.0, named-then key is_child w of.1)

  pub gains-one : GainsOne from entry image
  gains-one = record {
    added = λ key is_child named. (
      subst (λ (words : List ℕ). is_among words entry ≡ true) (sym (here key (named-bucket from key is_child entry named))) (or_left (entry == entry) (is_among (chained_for (store_of from) key) entry) (eq-eqb entry entry refl)),
      named-now key is_child entry named,
    );
    others = λ key is_child w apart. (then-of key is_child w apart, λ of. (among-now key w of.0, named-now key is_child w of.1));
    map = λ are key is_child v w one two. ⊎_elim
        (λ (e : v ≡ entry). ⊎_elim (λ (f : w ≡ entry). e ∙ sym f)
        (λ (f : w ≢ entry). absurd (fresh key is_child w (subst (λ (x : ℕ). HasKey (store_of from) key is_child x) e (named-then key is_child v one.1)) (then-of key is_child w f two))) (cases_eq w entry))
        (λ (e : v ≢ entry). ⊎_elim
        (λ (f : w ≡ entry). absurd (fresh key is_child v (subst (λ (x : ℕ). HasKey (store_of from) key is_child x) f (named-then key is_child w two.1)) (then-of key is_child v e one)))
        (λ (f : w ≢ entry). are key is_child v w (then-of key is_child v e one) (then-of key is_child w f two)) (cases_eq w entry))
        (cases_eq v entry);
  }

module _ (from image : Image) (entry : ℕ) (before : Option ℕ) (can : CanBeUnlinked entry before from) (is : IsUnlinked from entry before image) where
  left-here : (key : List ℕ) → bucket_at from entry ≡ bucket_of_key key → chained_for (store_of image) key ≡ without_record before can.prefix can.suffix
  left-here key same =
      subst (λ (b : ℕ). (chain (store_of image) b).reached ≡ without_record before can.prefix can.suffix) same
      (chain-words image (bucket_at from entry) (without_record before can.prefix can.suffix) (is.chain_now can.prefix can.suffix can.stands))

  left-there : (key : List ℕ) → (bucket_at from entry == bucket_of_key key) ≡ false → chained_for (store_of image) key ≡ chained_for (store_of from) key
  left-there key apart = ap (λ (c : Chain). c.reached) (is.others (bucket_of_key key) apart)

  -- the words of the chain but for this one
  less : (o : Option ℕ) (prefix suffix words : List ℕ) (w : ℕ) → w ≢ entry → StandsBehind words entry o prefix suffix → is_among (without_record o prefix suffix) w ≡ true ↔ is_among words w ≡ true
  less None prefix suffix words w apart stands =
      (λ among. subst (λ (l : List ℕ). is_among l w ≡ true) (sym stands.1) (or_right (entry == w) (is_among suffix w) among), λ among. not-first entry w suffix apart (subst (λ (l : List ℕ). is_among l w ≡ true) stands.1 among))
  less (Some p) prefix suffix words w apart stands =
      (λ among. subst (λ (l : List ℕ). is_among l w ≡ true) (sym stands) (still-there prefix p entry suffix w among), λ among. not-behind prefix p entry w suffix apart (subst (λ (l : List ℕ). is_among l w ≡ true) stands among))

  -- which isn't among them
  not-left : (o : Option ℕ) (prefix suffix words : List ℕ) → StandsBehind words entry o prefix suffix → Distinct (map file_and_block words) → is_among (without_record o prefix suffix) entry ≡ true → ⊥
  not-left None prefix suffix words stands once among = first-once entry suffix (subst (λ (l : List ℕ). Distinct (map file_and_block l)) stands.1 once) among
  not-left (Some p) prefix suffix words stands once among = behind-once prefix p entry suffix (subst (λ (l : List ℕ). Distinct (map file_and_block l)) stands once) among

  among-left : (key : List ℕ) (w : ℕ) → w ≢ entry → is_among (chained_for (store_of image) key) w ≡ true ↔ is_among (chained_for (store_of from) key) w ≡ true
  among-left key w apart = ⊎_elim
      (λ (e : (bucket_at from entry == bucket_of_key key) ≡ true).
      let same : bucket_at from entry ≡ bucket_of_key key = eqb-true (bucket_at from entry) (bucket_of_key key) e in
      let both = less before can.prefix can.suffix (chained_with from entry) w apart can.stands in
      let then-words : chained_with from entry ≡ chained_for (store_of from) key = ap (λ (b : ℕ). (chain (store_of from) b).reached) same in (
        λ among. subst (λ (l : List ℕ). is_among l w ≡ true) then-words (both.0 (subst (λ (l : List ℕ). is_among l w ≡ true) (left-here key same) among)),
        λ among. subst (λ (l : List ℕ). is_among l w ≡ true) (sym (left-here key same)) (both.1 (subst (λ (l : List ℕ). is_among l w ≡ true) (sym then-words) among)),
      ))
      (λ (e : (bucket_at from entry == bucket_of_key key) ≡ false).
      (λ among. subst (λ (l : List ℕ). is_among l w ≡ true) (left-there key e) among, λ among. subst (λ (l : List ℕ). is_among l w ≡ true) (sym (left-there key e)) among))
      (cases_Bool (bucket_at from entry == bucket_of_key key))

  gone : (key : List ℕ) (is_child : Bool) → IsRecordOf image key is_child entry → ⊥
  gone key is_child of =
      let here-then : (store_of from).entry entry ≡ Some of.1.fields = sym (is.keeps.records entry) ∙ of.1.here in
      let hash : (entry_at from entry).hash ≡ hash_of key = ap (λ (c : RecordFields). c.hash) (shown-fields from entry of.1.fields here-then) ∙ of.1.hashed in
      let same : bucket_at from entry ≡ bucket_of_key key = ap bucket_of_hash hash in
      not-left before can.prefix can.suffix (chained_with from entry) can.stands can.whole.once (subst (λ (l : List ℕ). is_among l entry ≡ true) (left-here key same) of.0)

  then-left : (key : List ℕ) (is_child : Bool) (w : ℕ) → KeyIsApart before (store_of from) w → IsRecordOf image key is_child w → IsRecordOf from key is_child w
  then-left key is_child w lies of =
      let apart : w ≢ entry = (λ e. gone key is_child (subst (λ (x : ℕ). IsRecordOf image key is_child x) e of)) in
      ((among-left key w apart).0 of.0, (is.keeps.names w key is_child lies).1 of.1)

  pub loses-one : LosesOne from entry before image
  loses-one = record {
    taken = gone;
    others = λ key is_child w apart lies. (then-left key is_child w lies, λ of. ((among-left key w apart).1 of.0, (is.keeps.names w key is_child lies).0 of.1));
    map = λ lies are key is_child v w one two. are key is_child v w (then-left key is_child v (lies key is_child v one) one) (then-left key is_child w (lies key is_child w two) two);
  }
