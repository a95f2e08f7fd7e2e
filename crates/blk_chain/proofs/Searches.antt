-- What a search of a chain has passed, and what is left of it.
use Rattle.std.proofs.Common.{◌≡◌, ◌≢◌, ⊎_elim, ℕ, suc, ◌+◌, ◌-◌, ◌%◌, Bool, true, false, List, [], ◌∷◌, ◌++◌, length, Option, Some, None, refl, sym, ◌∙◌, ap, subst, arith}
use Rattle.std.specs.Prelude.{◌==◌}
use Rattle.std.proofs.lemmas.Bool.{or_cases, eqb-true}
use Rattle.std.proofs.lemmas.List.{append-nil, append_assoc}
use Rattle.spec_image.specs.Image.{Image, Index, byte}
use Rattle.spec_format.specs.Address.{kind_of}
use Rattle.spec_format.specs.BlockFiles.{is_among}
use Rattle.spec_format.specs.Hash.{hash as hash_of}
use Rattle.spec_format.specs.Headers.{bucket_of}
use Rattle.spec_folder.specs.View.{RecordFields, entry_at, store_of}
use Rattle.spec_folder.specs.Chains.{bucket_of_hash, chain, is_of_bucket, IsChain, Linked, bucket_at}
use Rattle.spec_format.proofs.Among.{is_among_more}
use Rattle.blk_disk.specs.Tables.{is_record_among}
use Rattle.spec_folder.specs.Searches.{HasKey, bucket_of_key, chained_for, NoneHasKey}
use Rattle.blk_chain.specs.Unlinking.{CanBeUnlinked, StandsBehind, next_record}
use Rattle.blk_chain.specs.Finding.{last_passed, up_to, CanBeSearched, EndsWith, HasPassed, IsAnswer, IsFollowed, IsFound, IsKeyed, IsOnTheWay, IsOutcome, IsSought, Walks}
use Rattle.blk_chain.proofs.Apart.{middle-there}
use Rattle.law_folder.proofs.chains.ChainWords.{shown-fields, shown-chain_next, shown-kind, shown-of}
use Rattle.blk_chain.proofs.Heads.{named-some, named-sought, sought-named}
use Rattle.blk_chain.specs.declared.found.Found.{Found}
use Rattle.blk_disk.specs.declared.tables.BlockFiles.{BlockFiles}

-- the head of the chain of a key
pub front-is : (image : Image) (key : List ℕ) (hash word : ℕ) → hash ≡ hash_of key → word ≡ bucket_of (byte image Index) (hash % 65536) → word ≡ (store_of image).table (bucket_of_key key)
unfolding store_of
front-is image key hash word same read = read ∙ ap (λ (h : ℕ). bucket_of (byte image Index) (h % 65536)) same

-- the word 0 names no record
zero-nothing : (image : Image) (b : ℕ) → is_of_bucket (store_of image) b 0 ≡ true → ⊥
unfolding kind_of
zero-nothing image b of =
    let shown = shown-of (store_of image) b 0 of in
    let kind : kind_of 0 ≡ 2 = shown-kind image 0 shown.fields shown.here in cc

-- what is linked from a word that isn't 0
record IsNext (image : Image) (b word : ℕ) (rest : List ℕ) : Type 0 where
  suffix : List ℕ
  is : rest ≡ word ∷ suffix
  good : is_of_bucket (store_of image) b word ≡ true
  linked : Linked (store_of image) b ((store_of image).chain_next word) suffix

next-of : (image : Image) (b word : ℕ) (rest : List ℕ) → word ≢ 0 → Linked (store_of image) b word rest → IsNext image b word rest
next-of image b word [] some linked = absurd (some linked)
next-of image b word (w ∷ suffix) some linked = record {
  suffix = suffix;
  is = ap (λ (x : ℕ). x ∷ suffix) (sym linked.0);
  good = subst (λ (x : ℕ). is_of_bucket (store_of image) b x ≡ true) (sym linked.0) linked.1;
  linked = subst (λ (x : ℕ). Linked (store_of image) b ((store_of image).chain_next x) suffix) (sym linked.0) linked.2;
}

-- nothing is linked from the word 0
none-next : (image : Image) (b word : ℕ) (rest : List ℕ) → word ≡ 0 → Linked (store_of image) b word rest → rest ≡ []
none-next image b word [] zero linked = refl
none-next image b word (w ∷ suffix) zero linked =
    absurd (zero-nothing image b (subst (λ (x : ℕ). is_of_bucket (store_of image) b x ≡ true) (sym linked.0 ∙ zero) linked.1))

-- the words up to one before are those that end with it
ends : (passed : List ℕ) (before : Option ℕ) (rest reached : List ℕ) (w : ℕ) → EndsWith passed before → reached ≡ passed ++ w ∷ rest
    → (prefix : List ℕ) × (StandsBehind reached w before prefix rest × (up_to prefix before ≡ passed))
ends passed None rest reached w last all = ([], ((refl, all ∙ ap (λ (l : List ℕ). l ++ w ∷ rest) last), sym last))
ends passed (Some before) rest reached w last all =
    (last.0, (all ∙ ap (λ (l : List ℕ). l ++ w ∷ rest) last.1 ∙ append_assoc last.0 (before ∷ []) (w ∷ rest), sym last.1))

module _ (image : Image) (key : List ℕ) (is_child : Bool) where
  b : ℕ
  b = bucket_of_key key

  -- at the head of the chain nothing is passed
  pub way-begun : (word : ℕ) → CanBeSearched key image → word ≡ (store_of image).table (bucket_of_key key) → IsOnTheWay key is_child word None 131073 image
  way-begun word can prefix = record {
    passed = [];
    rest = chained_for (store_of image) key;
    all = refl;
    last = refl;
    others = λ w among named. absurd (never among);
    linked = subst (λ (x : ℕ). Linked (store_of image) (bucket_of_key key) x (chained_for (store_of image) key)) (sym prefix) can.whole.linked;
    few = omega (arith, can.few);
  } where
    never : false ≡ true → ⊥
    never e = cc

  module _ (word : ℕ) (before : Option ℕ) (left : ℕ) (way : IsOnTheWay key is_child word before left image) where
    -- no way is longer than what is left
    pub way-left : left ≡ 0 → ⊥
    way-left none = let few = way.few in omega (arith, none, few)

    -- at the word 0 all is passed
    pub way-ended : word ≡ 0 → NoneHasKey (store_of image) (chained_for (store_of image) key) key is_child
    way-ended zero =
        let nothing : way.rest ≡ [] = none-next image (bucket_of_key key) word way.rest zero way.linked in
        subst (λ (words : List ℕ). NoneHasKey (store_of image) words key is_child) (sym (way.all ∙ ap (λ (l : List ℕ). way.passed ++ l) nothing ∙ append-nil way.passed)) way.others

    module _ (some : word ≢ 0) where
      next : IsNext image (bucket_of_key key) word way.rest
      next = next-of image (bucket_of_key key) word way.rest some way.linked

      all-here : chained_for (store_of image) key ≡ way.passed ++ word ∷ next.suffix
      all-here = way.all ∙ ap (λ (l : List ℕ). way.passed ++ l) next.is

      -- another word names a record that has a key and a checksum that matches or is absent
      pub way-keyed : CanBeSearched key image → IsKeyed word image
      way-keyed can =
          let shown = shown-of (store_of image) (bucket_of_key key) word next.good in
          record {
            fields = shown.fields;
            here = shown.here;
            good = shown.good;
            key = can.keys word (subst (λ (words : List ℕ). is_among words word ≡ true) (sym all-here) (middle-there way.passed word next.suffix));
          }

      -- the record is passed where it has another name
      pub way-on : (link : ℕ) (fewer : ℕ) → link ≡ (store_of image).chain_next word → (HasKey (store_of image) key is_child word → ⊥) → fewer + 1 ≡ left → IsOnTheWay key is_child link (Some word) fewer image
      way-on link fewer follows other less = record {
        passed = way.passed ++ word ∷ [];
        rest = next.suffix;
        all = all-here ∙ sym (append_assoc way.passed (word ∷ []) next.suffix);
        last = (way.passed, refl);
        others = λ w among named. ⊎_elim
            (λ (e : is_among way.passed w ≡ true). way.others w e named)
            (λ (e : (word == w) ≡ true). other (subst (λ (x : ℕ). HasKey (store_of image) key is_child x) (sym (eqb-true word w e)) named))
            (or_cases (is_among way.passed w) (word == w) (sym (is_among_more way.passed word w) ∙ among));
        linked = subst (λ (x : ℕ). Linked (store_of image) (bucket_of_key key) x next.suffix) (sym follows) next.linked;
        few = let few = way.few in let size : length way.rest ≡ suc (length next.suffix) = ap length next.is in omega (arith, few, size, less);
      }

      -- the record is found where it has the name
      pub way-found : HasKey (store_of image) key is_child word → IsFound key is_child word before image
      way-found named =
          let place = ends way.passed before next.suffix (chained_for (store_of image) key) word way.last all-here in
          record {
            has_key = named;
            prefix = place.0;
            suffix = next.suffix;
            stands = place.1.0;
            first = subst (λ (words : List ℕ). NoneHasKey (store_of image) words key is_child) (sym place.1.1) way.others;
          }

  -- what is found can be unlinked
  pub found-linked : (entry : ℕ) (before : Option ℕ) → CanBeSearched key image → IsFound key is_child entry before image → CanBeUnlinked entry before image
  found-linked entry before can found =
      let fields : RecordFields = found.has_key.fields in
      let hash : (entry_at image entry).hash ≡ hash_of key = ap (λ (c : RecordFields). c.hash) (shown-fields image entry found.has_key.fields found.has_key.here) ∙ found.has_key.hashed in
      let bucket : bucket_at image entry ≡ bucket_of_key key = ap bucket_of_hash hash in
      record {
        whole = subst (λ (n : ℕ). IsChain (store_of image) n (chain (store_of image) n).reached) (sym bucket) can.whole;
        prefix = found.prefix;
        suffix = found.suffix;
        stands = subst (λ (n : ℕ). StandsBehind (chain (store_of image) n).reached entry before found.prefix found.suffix) (sym bucket) found.stands;
      }

-- A walk from record to record.

-- a walk goes on at the next of a record that is not the one
pub walks-on : (files : BlockFiles) (key : List ℕ) (is_child : Bool) (image : Image) (start : ℕ) (passed : List ℕ) (word : ℕ) → Walks files key is_child image start passed word → IsFollowed files word image → (IsSought key is_child word image → ⊥)
    → Walks files key is_child image start (passed ++ word ∷ []) (next_record image word)
walks-on files key is_child image start [] word walk followed other = (walk, (followed, (other, refl)))
walks-on files key is_child image start (w ∷ passed) word walk followed other = (walk.0, (walk.1.0, (walk.1.1.0, walks-on files key is_child image (next_record image w) passed word walk.1.1.1 followed other)))

pub last-on : (before : Option ℕ) (passed : List ℕ) (word : ℕ) → last_passed before (passed ++ word ∷ []) ≡ Some word
last-on before [] word = refl
last-on before (w ∷ passed) word = last-on (Some w) passed word

length-on : (passed : List ℕ) (word : ℕ) → length (passed ++ word ∷ []) ≡ length passed + 1
length-on [] word = refl
length-on (w ∷ passed) word = let h = length-on passed word in omega (arith, h)

-- one more record is passed
pub passed-on : (files : BlockFiles) (key : List ℕ) (is_child : Bool) (word : ℕ) (before : Option ℕ) (count more : ℕ) (image : Image) → HasPassed files key is_child word before count image → IsFollowed files word image → (IsSought key is_child word image → ⊥) → more ≡ count + 1
    → HasPassed files key is_child (next_record image word) (Some word) more image
passed-on files key is_child word before count more image has followed other one = record {
  passed = has.passed ++ word ∷ [];
  many = length-on has.passed word ∙ ap (λ (n : ℕ). n + 1) has.many ∙ sym one;
  last = last-on None has.passed word;
  walk = walks-on files key is_child image ((store_of image).table (bucket_of_key key)) has.passed word has.walk followed other;
}

module _ (files : BlockFiles) (image : Image) (key : List ℕ) (is_child : Bool) (can : CanBeSearched key image) where
  -- a walk through a chain that can be searched is on the way
  way-walked : (passed : List ℕ) (start : ℕ) (before : Option ℕ) (left on : ℕ) → IsOnTheWay key is_child start before left image → Walks files key is_child image start passed on → IsOnTheWay key is_child on (last_passed before passed) (left - length passed) image
  way-walked [] start before left on way walk =
      let same : left ≡ left - 0 = omega arith in
      subst (λ (n : ℕ). IsOnTheWay key is_child on before n image) same (subst (λ (w : ℕ). IsOnTheWay key is_child w before left image) walk way)
  way-walked (w ∷ passed) start before left on way walk =
      let some : start ≢ 0 = (λ z. named-some files (subst (λ (x : ℕ). is_record_among files x ≡ true) (sym walk.0 ∙ z) walk.1.0.stands)) in
      let keyed : IsKeyed start image = way-keyed image key is_child start before left way some can in
      let other : HasKey (store_of image) key is_child start → ⊥ = (λ named. walk.1.1.0 (subst (λ (x : ℕ). IsSought key is_child x image) walk.0 (named-sought image start keyed key is_child named))) in
      let few = way.few in
      let one : left - 1 + 1 ≡ left = omega (arith, few) in
      let next : IsOnTheWay key is_child (next_record image start) (Some start) (left - 1) image = way-on image key is_child start before left way some (next_record image start) (left - 1) (sym (shown-chain_next image start keyed.fields keyed.here)) other one in
      let there : IsOnTheWay key is_child (next_record image w) (Some w) (left - 1) image = subst (λ (x : ℕ). IsOnTheWay key is_child (next_record image x) (Some x) (left - 1) image) walk.0 next in
      let less : left - 1 - length passed ≡ left - length (w ∷ passed) = omega arith in
      subst (λ (n : ℕ). IsOnTheWay key is_child on (last_passed (Some w) passed) n image) less (way-walked passed (next_record image w) (Some w) (left - 1) on there walk.1.1.1)

  pub way-passed : (word : ℕ) (before : Option ℕ) (count : ℕ) → HasPassed files key is_child word before count image → IsOnTheWay key is_child word before (131073 - count) image
  way-passed word before count has =
      subst (λ (o : Option ℕ). IsOnTheWay key is_child word o (131073 - count) image) has.last
      (subst (λ (n : ℕ). IsOnTheWay key is_child word (last_passed None has.passed) (131073 - n) image) has.many
      (way-walked has.passed ((store_of image).table (bucket_of_key key)) None 131073 word (way-begun image key is_child ((store_of image).table (bucket_of_key key)) can refl) has.walk))

  -- so what it gives is the answer
  pub outcome-answer : (answer : Option Found) → IsOutcome files key is_child answer image → IsAnswer key is_child answer image
  outcome-answer None out = way-ended image key is_child 0 out.before (131073 - out.count) (way-passed 0 out.before out.count out.passed) refl
  outcome-answer (Some found) out =
      let way = way-passed found.entry found.before out.count out.passed in
      let some : found.entry ≢ 0 = (λ z. named-some files (subst (λ (x : ℕ). is_record_among files x ≡ true) z out.followed.stands)) in
      let keyed : IsKeyed found.entry image = way-keyed image key is_child found.entry found.before (131073 - out.count) way some can in
      way-found image key is_child found.entry found.before (131073 - out.count) way some (sought-named image found.entry keyed key is_child out.sought)
