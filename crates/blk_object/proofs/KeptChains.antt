-- A record that is unlinked is out of its chain.
use Rattle.std.proofs.Common.{◌≡◌, ◌≢◌, ◌⊎◌, inl, inr, ⊎_elim, arith, ℕ, ◌+◌, ◌<◌, List, [], ◌∷◌, ◌++◌, refl, ap, sym, ◌∙◌, subst, lit<, append_assoc, true, false, None, Option, Some}
use Rattle.std.specs.Prelude.{◌&&◌, ◌==◌, filter, not}
use Rattle.std.specs.Option.{option_map_or}
use Rattle.std.proofs.lemmas.Bool.{and_parts, cases_Bool, eq-eqb, eqb-true, or_left, or_right, or_parts}
use Rattle.std.proofs.lemmas.Nat.{mod_below}
use Rattle.spec_image.specs.Footprint.{SameOutside}
use Rattle.spec_image.specs.Image.{AreBytes, Block, Image}
use Rattle.spec_image.specs.Steps.{TrailStep}
use Rattle.spec_image.specs.Told.{Commits, CommitsAt, Passes, Told}
use Rattle.spec_image.proofs.Commits.{commits_passes}
use Rattle.spec_image.proofs.Runs.{some_inj}
use Rattle.spec_image.proofs.Words.{same-range}
use Rattle.blk_model.specs.State.{State}
use Rattle.spec_format.specs.Address.{blocks_256, file_selector, kind_of, place, rankings}
use Rattle.spec_format.specs.BlockFiles.{is_among, stands_in}
use Rattle.spec_format.specs.Sealed.{RecordChecks, record_range, record_size, size_by_kind}
use Rattle.spec_format.specs.Records.{entry_size}
use Rattle.spec_format.proofs.Finished.{headers-kept}
use Rattle.spec_folder.specs.Chains.{IsChain, Linked, bucket_at, bucket_of_hash, chain, file_and_block, is_of_bucket}
use Rattle.spec_folder.specs.Footprint.{OnlyLinksChange}
use Rattle.spec_folder.specs.Layout.{Layout}
use Rattle.spec_folder.specs.ListView.{Distinct}
use Rattle.spec_folder.specs.Loads.{Loaded}
use Rattle.spec_folder.specs.View.{RecordFields, StoreView, block_bytes, entry_at, key_place_at, store_of}
use Rattle.law_folder.proofs.chains.ChainEnds.{chain-back}
use Rattle.law_folder.proofs.chains.Chains.{chain-is}
use Rattle.law_folder.proofs.chains.ChainWords.{record_checks, shown-fields}
use Rattle.law_folder.proofs.updates.StillShown.{core-standing, named-still, standing-parts}
use Rattle.law_folder.proofs.chains.ShortChains.{distinct-map}
use Rattle.law_folder.proofs.lists.Lists.{has_not}
use Rattle.law_folder.proofs.states.Bare.{no-record}
use Rattle.law_folder.proofs.claims.Covers.{out-range}
use Rattle.law_folder.proofs.claims.Inside.{record-changes}
use Rattle.blk_chain.specs.Unlinking.{BeforeChecks, CanBeUnlinked, IsStillLinked, IsUnlinked, StandsBehind, next_record, without_record, words_to_unlink}
use Rattle.blk_chain.proofs.Pairs.{chain-words}
use Rattle.law_state.specs.Arranging.{LeavesFiles}
use Rattle.law_state.specs.Keeping.{KeepsUncounted}
use Rattle.law_state.specs.RemovalLaws.{IsRemovalDone, IsUnlinking, chains_without}
use Rattle.law_state.proofs.GoingOut.{chain-same}
use Rattle.law_state.proofs.AtNodes.{updates-change}
use Rattle.law_state.proofs.Links.{table-files, table-links}
use Rattle.blk_object.specs.KeptChains.{KeptRecordsCanBeUnlinked, UnlinkedRecordsAreOut, UnlinkedRecordsLeaveFiles, UnlinkingsChangeLinks}

-- ---- lists without a word

lacks-one : (xs : List ℕ) (w : ℕ) → is_among xs w ≡ false → filter (λ x. not (x == w)) xs ≡ xs
lacks-one [] w none = refl
lacks-one (x ∷ xs) w none = let parts = or_parts (x == w) (is_among xs w) none in let h = parts.0 in rw h (ap (λ (ys : List ℕ). x ∷ ys) (lacks-one xs w parts.1))

without-one : (xs : List ℕ) (w : ℕ) (ys : List ℕ) → is_among (xs ++ ys) w ≡ false → filter (λ x. not (x == w)) (xs ++ w ∷ ys) ≡ xs ++ ys
without-one [] w ys none = let h : (w == w) ≡ true = eq-eqb w w refl in rw h (lacks-one ys w none)
without-one (x ∷ xs) w ys none = let parts = or_parts (x == w) (is_among (xs ++ ys) w) none in let h = parts.0 in rw h (ap (λ (zs : List ℕ). x ∷ zs) (without-one xs w ys parts.1))

-- the one after which it is
in_front : Option ℕ → ℕ → ℕ
in_front None w = w
in_front (Some v) w = v

among-front : (xs : List ℕ) (v : ℕ) (ys : List ℕ) → is_among (xs ++ v ∷ ys) v ≡ true
among-front [] v ys = or_left (v == v) (is_among ys v) (eq-eqb v v refl)
among-front (x ∷ xs) v ys = or_right (x == v) (is_among (xs ++ v ∷ ys) v) (among-front xs v ys)

front-among : (words : List ℕ) (w : ℕ) (before : Option ℕ) (prefix suffix : List ℕ) → StandsBehind words w before prefix suffix → is_among words (in_front before w) ≡ true
unfolding in_front
front-among words w None prefix suffix stands = ap (λ (xs : List ℕ). is_among xs w) stands.1 ∙ among-front [] w suffix
front-among words w (Some v) prefix suffix stands = ap (λ (xs : List ℕ). is_among xs v) stands ∙ among-front prefix v (w ∷ suffix)

taken-out : (words : List ℕ) (w : ℕ) (before : Option ℕ) (prefix suffix : List ℕ) → Distinct words → StandsBehind words w before prefix suffix → filter (λ x. not (x == w)) words ≡ without_record before prefix suffix
taken-out words w None prefix suffix once stands = ap (filter (λ x. not (x == w))) stands.1 ∙ without-one [] w suffix (subst Distinct stands.1 once).0
taken-out words w (Some v) prefix suffix once stands =
    let split : words ≡ (prefix ++ v ∷ []) ++ w ∷ suffix = stands ∙ sym (append_assoc prefix (v ∷ []) (w ∷ suffix)) in
    ap (filter (λ x. not (x == w))) split ∙ without-one (prefix ++ v ∷ []) w suffix (has_not (prefix ++ v ∷ []) w suffix (subst Distinct split once)) ∙ append_assoc prefix (v ∷ []) suffix

-- ---- a record of a chain is of its bucket

of-bucket : (v : StoreView) (b x : ℕ) (cs : List ℕ) (c : ℕ) → Linked v b x cs → is_among cs c ≡ true → is_of_bucket v b c ≡ true
of-bucket v b x [] c linked among = absurd (let z : false ≡ true = among in cc)
of-bucket v b x (d ∷ cs) c linked among = ⊎_elim
    (λ (h : (d == c) ≡ true). subst (λ (y : ℕ). is_of_bucket v b y ≡ true) (eqb-true d c h) linked.1)
    (λ (h : (d == c) ≡ false). of-bucket v b (v.chain_next d) cs c linked.2 (rw h at among))
    (cases_Bool (d == c))

record IsInBucket (image : Image) (b w : ℕ) : Type 0 where
  fields : RecordFields
  here : (store_of image).entry w ≡ Some fields
  good : fields.checks ≡ true
  bucket : bucket_at image w ≡ b

in-bucket : (image : Image) (b w : ℕ) → is_of_bucket (store_of image) b w ≡ true → IsInBucket image b w
in-bucket image b w e = go ((store_of image).entry w) refl e where
  go : (o : Option RecordFields) → (store_of image).entry w ≡ o → option_map_or (λ (f : RecordFields). f.checks && (bucket_of_hash f.hash == b)) o false ≡ true → IsInBucket image b w
  go None is e = absurd (let z : false ≡ true = e in cc)
  go (Some f) is e = let parts = and_parts f.checks (bucket_of_hash f.hash == b) e in
      record { fields = f; here = is; good = parts.0; bucket = ap (λ (x : RecordFields). bucket_of_hash x.hash) (shown-fields image w f is) ∙ eqb-true (bucket_of_hash f.hash) b parts.1 }

-- ---- a record of a kept chain

module _ (state : State) (layout : Layout) (unlinked : List ℕ) (from between : Image) (node : ℕ) (was : Loaded) (before : Option ℕ) (prefix suffix : List ℕ) (k : KeepsUncounted state layout unlinked from) (done : IsRemovalDone from node between)
    (stands : StandsBehind (layout.chains (bucket_at between was.contents)) was.contents before prefix suffix) where
  below : bucket_at between was.contents < 65536
  below = mod_below (entry_at between was.contents).hash 65536 (lit< tt)

  chains-are : (other : ℕ) → other < 65536 → IsChain (store_of between) other (layout.chains other)
  chains-are other small = chain-same (store_of from) (store_of between) other (layout.chains other) done.partly.shown.store (k.represents.holds.shows.chains other small)

  first-chained : is_among (layout.chains (bucket_at between was.contents)) (in_front before was.contents) ≡ true
  first-chained = front-among (layout.chains (bucket_at between was.contents)) was.contents before prefix suffix stands

  first-in : IsInBucket between (bucket_at between was.contents) (in_front before was.contents)
  first-in = in-bucket between (bucket_at between was.contents) (in_front before was.contents)
      (of-bucket (store_of between) (bucket_at between was.contents) ((store_of between).table (bucket_at between was.contents)) (layout.chains (bucket_at between was.contents)) (in_front before was.contents) (chains-are (bucket_at between was.contents) below).linked first-chained)

-- ---- unlinked

module _ (state : State) (layout : Layout) (unlinked : List ℕ) (from between image : Image) (node : ℕ) (was : Loaded) (before : Option ℕ) (prefix suffix : List ℕ) (k : KeepsUncounted state layout unlinked from) (done : IsRemovalDone from node between)
    (stands : StandsBehind (layout.chains (bucket_at between was.contents)) was.contents before prefix suffix) (u : IsUnlinked between was.contents before image) where
  abbrev w : ℕ
  w = was.contents

  abbrev b : ℕ
  b = bucket_at between w

  small : b < 65536
  small = below state layout unlinked from between node was before prefix suffix k done stands

  whole : (other : ℕ) → other < 65536 → IsChain (store_of between) other (layout.chains other)
  whole = chains-are state layout unlinked from between node was before prefix suffix k done stands

  here-now : IsChain (store_of image) b (without_record before prefix suffix)
  here-now = u.chain_now prefix suffix (subst (λ (words : List ℕ). StandsBehind words w before prefix suffix) (sym (chain-words between b (layout.chains b) (whole b small))) stands)

  left-is : chains_without layout w b ≡ without_record before prefix suffix
  left-is = taken-out (layout.chains b) w before prefix suffix (distinct-map file_and_block (layout.chains b) (whole b small).once) stands

  lacks : (other : ℕ) → other < 65536 → (b == other) ≡ false → is_among (layout.chains other) w ≡ false
  lacks other below apart = ⊎_elim
      (λ (h : is_among (layout.chains other) w ≡ true). absurd (let i = in-bucket between other w (of-bucket (store_of between) other ((store_of between).table other) (layout.chains other) w (whole other below).linked h) in let z : true ≡ false = sym (eq-eqb b other i.bucket) ∙ apart in cc))
      (λ (h : is_among (layout.chains other) w ≡ false). h)
      (cases_Bool (is_among (layout.chains other) w))

  elsewhere-now : (other : ℕ) → other < 65536 → (b == other) ≡ false → IsChain (store_of image) other (chains_without layout w other)
  elsewhere-now other below apart = subst (IsChain (store_of image) other) (sym (lacks-one (layout.chains other) w (lacks other below apart)))
      (chain-back (store_of image) other (layout.chains other) (u.others other apart ∙ chain-is (store_of between) other (layout.chains other) (no-record between) (whole other below)))

  whole-now : (other : ℕ) → other < 65536 → IsChain (store_of image) other (chains_without layout w other)
  whole-now other below = ⊎_elim
      (λ (h : (b == other) ≡ true). subst (λ (c : ℕ). IsChain (store_of image) c (chains_without layout w c)) (eqb-true b other h) (subst (IsChain (store_of image) b) (sym left-is) here-now))
      (λ (h : (b == other) ≡ false). elsewhere-now other below h)
      (cases_Bool (b == other))

-- ---- what no change of a record's own bytes touches

no-node : (w : ℕ) → kind_of w ≡ blocks_256 → rankings ≢ kind_of w
no-node w kind e = let z : ◌≡◌ {A = ℕ} 1 2 = e ∙ kind in cc

length-of : (w : ℕ) → kind_of w ≡ blocks_256 → record_size w ≡ 96
unfolding size_by_kind
length-of w kind = rw kind refl

key-kept : (from image : Image) (w n : ℕ) → kind_of w ≡ blocks_256 → SameOutside (record_range w) from image → (store_of from).key_place w n ≡ (store_of image).key_place w n
unfolding store_of key_place_at
key-kept from image w n kind outside = same-range n (place w + entry_size) (block_bytes from w) (block_bytes image w) (λ k low high.
    sym (outside.bytes (Block (file_selector w)) k (out-range (Block (file_selector w)) (Block (file_selector w)) (place w) (record_size w) k (λ file above below. omega (arith, low, below, length-of w kind)))))

nodes-kept : (from image : Image) (w : ℕ) → stands_in from w ≡ true → kind_of w ≡ blocks_256 → SameOutside (record_range w) from image → (u : ℕ) → (store_of from).node_fields u ≡ (store_of image).node_fields u
unfolding store_of
nodes-kept from image w standing kind outside u = named-still from image w standing (inr kind) outside (no-node w kind) u

-- where all records are as they were but for their links, and only bytes of this one have changed, links alone have
outside-links : (from image : Image) (w : ℕ) (fields : RecordFields) → (store_of from).entry w ≡ Some fields → SameOutside (record_range w) from image → ((u : ℕ) → (store_of image).entry u ≡ (store_of from).entry u) → OnlyLinksChange w (store_of from) (store_of image)
outside-links from image w fields here outside records =
    let st = standing-parts from blocks_256 w (core-standing from w fields here) in
    let shown = (record-changes from image w st.0 (inr st.1) outside).shown in
    record {
      beside = record {
        node_fields = nodes-kept from image w st.0 st.1 outside;
        key_place = λ u c where_is is long short. ⊎_elim
            (λ clear. shown.store.key_place u c clear is long short)
            (λ (e : u ≡ w). subst (λ (v : ℕ). (store_of from).key_place v c.key_len ≡ (store_of image).key_place v c.key_len) (sym e) (key-kept from image w c.key_len st.1 outside))
            where_is;
        stored = λ size u clear. shown.store.stored size u clear;
      };
      entry = λ u. sym (records u);
    }

only-links : (from image : Image) (w : ℕ) (before : Option ℕ) → ((v : ℕ) → before ≡ Some v → IsInBucket from (bucket_at from w) v) → IsUnlinked from w before image → OnlyLinksChange (in_front before w) (store_of from) (store_of image)
unfolding in_front
only-links from image w None known u = table-links from image (bucket_at from w) (next_record from w) w u.links
only-links from image w (Some v) known u = let i = known v refl in outside-links from image v i.fields i.here u.keeps.outside u.keeps.records

pub records-out : UnlinkedRecordsAreOut
unfolding in_front
records-out state layout unlinked from between image node was before prefix suffix k done stands u = record {
  word = in_front before was.contents;
  bucket = bucket_at between was.contents;
  small = small state layout unlinked from between image node was before prefix suffix k done stands u;
  chained = front-among (layout.chains (bucket_at between was.contents)) was.contents before prefix suffix stands;
  only = only-links between image was.contents before known u;
  list = u.keeps.list;
  whole = whole-now state layout unlinked from between image node was before prefix suffix k done stands u;
  headers = u.keeps.headers;
} where
  known : (v : ℕ) → before ≡ Some v → IsInBucket between (bucket_at between was.contents) v
  known v is = subst (λ (o : Option ℕ). IsInBucket between (bucket_at between was.contents) (in_front o was.contents)) is (first-in state layout unlinked from between node was before prefix suffix k done stands)

-- ---- the files

record-leaves : (from image : Image) (w : ℕ) (fields : RecordFields) → (store_of from).entry w ≡ Some fields → SameOutside (record_range w) from image → LeavesFiles from image
record-leaves from image w fields here outside =
    let st = standing-parts from blocks_256 w (core-standing from w fields here) in
    let only = updates-change from image w st.0 (inr st.1) outside in
    record { headers = only.headers; session = only.session; well_formed = only.well_formed }

leaves-by : (from image : Image) (w : ℕ) (before : Option ℕ) → IsInBucket from (bucket_at from w) (in_front before w) → IsUnlinked from w before image → LeavesFiles from image
unfolding in_front
leaves-by from image w None i u = table-files from image (bucket_at from w) u.keeps.outside u.keeps.headers
leaves-by from image w (Some v) i u = record-leaves from image v i.fields i.here u.keeps.outside

pub records-leave : UnlinkedRecordsLeaveFiles
records-leave state layout unlinked from between image node was before prefix suffix k done stands u = leaves-by between image was.contents before (first-in state layout unlinked from between node was before prefix suffix k done stands) u

-- ---- what the call asks

module _ (state : State) (layout : Layout) (unlinked : List ℕ) (from between : Image) (node : ℕ) (was : Loaded) (before : Option ℕ) (prefix suffix : List ℕ) (k : KeepsUncounted state layout unlinked from) (done : IsRemovalDone from node between)
    (stands : StandsBehind (layout.chains (bucket_at between was.contents)) was.contents before prefix suffix) where
  abbrev its_bucket : ℕ
  its_bucket = bucket_at between was.contents

  its-chain : IsChain (store_of between) its_bucket (layout.chains its_bucket)
  its-chain = chains-are state layout unlinked from between node was before prefix suffix k done stands its_bucket (below state layout unlinked from between node was before prefix suffix k done stands)

  words-are : layout.chains its_bucket ≡ (chain (store_of between) its_bucket).reached
  words-are = sym (chain-words between its_bucket (layout.chains its_bucket) its-chain)

  can-be : CanBeUnlinked was.contents before between
  can-be = record {
    whole = subst (IsChain (store_of between) its_bucket) words-are its-chain;
    prefix = prefix;
    suffix = suffix;
    stands = subst (λ (words : List ℕ). StandsBehind words was.contents before prefix suffix) words-are stands;
  }

  checks-of : AreBytes between → (v : ℕ) → is_among (layout.chains its_bucket) v ≡ true → RecordChecks v between
  checks-of bytes v among =
      let i = in-bucket between its_bucket v (of-bucket (store_of between) its_bucket ((store_of between).table its_bucket) (layout.chains its_bucket) v its-chain.linked among) in
      let kind : kind_of v ≡ blocks_256 = (standing-parts between blocks_256 v (core-standing between v i.fields i.here)).1 in
      record_checks between v bytes kind (ap (λ (f : RecordFields). f.checks) (shown-fields between v i.fields i.here) ∙ i.good)

before-checks : (words : List ℕ) (w : ℕ) (before : Option ℕ) (prefix suffix : List ℕ) (image : Image) → StandsBehind words w before prefix suffix → ((v : ℕ) → is_among words v ≡ true → RecordChecks v image) → BeforeChecks before image
before-checks words w None prefix suffix image stands each = tt
before-checks words w (Some v) prefix suffix image stands each = each v (ap (λ (xs : List ℕ). is_among xs v) stands ∙ among-front prefix v (w ∷ suffix))

pub can-be-unlinked : KeptRecordsCanBeUnlinked
can-be-unlinked state layout unlinked from between node was before prefix suffix k done bytes stands = (
  can-be state layout unlinked from between node was before prefix suffix k done stands,
  before-checks (layout.chains (bucket_at between was.contents)) was.contents before prefix suffix between stands (checks-of state layout unlinked from between node was before prefix suffix k done stands bytes),
)

-- ---- at each word

-- a change of one word has only its start before that word
from-first : (P Q : Image → Type 0) (from : Image) (steps : List TrailStep) → CommitsAt 1 P Q from steps → CommitsAt 1 (λ i. i ≡ from) Q from steps
from-first P Q from [] all = refl
from-first P Q from (x ∷ steps) all = (refl, all.1)

each-word : (between : Image) (w : ℕ) (before : Option ℕ) (old new : Told) (R : Image → Type 0) → old.files ≡ Some between → R between → ((v : ℕ) → before ≡ Some v → (image : Image) → IsStillLinked between w (Some v) image → R image)
    → ((image : Image) → IsUnlinked between w before image → R image) → Commits (words_to_unlink before) old new (IsStillLinked between w before) (IsUnlinked between w before) → Passes old new R
each-word between w None old new R there here still out c = commits_passes 1 old new (λ i. i ≡ between) (IsUnlinked between w None) R (λ i e. subst R (sym e) here) out (record {
  steps = c.steps;
  applies = c.applies;
  quiet = c.quiet;
  commits = λ image is. subst (λ (i : Image). CommitsAt 1 (λ x. x ≡ between) (IsUnlinked between w None) i c.steps) (some_inj (sym there ∙ is)) (from-first (IsStillLinked between w None) (IsUnlinked between w None) between c.steps (c.commits between there));
})
each-word between w (Some v) old new R there here still out c = commits_passes 2 old new (IsStillLinked between w (Some v)) (IsUnlinked between w (Some v)) R (still v refl) out c

module _ (state : State) (layout : Layout) (unlinked : List ℕ) (from between : Image) (node : ℕ) (was : Loaded) (before : Option ℕ) (prefix suffix : List ℕ) (k : KeepsUncounted state layout unlinked from) (done : IsRemovalDone from node between)
    (stands : StandsBehind (layout.chains (bucket_at between was.contents)) was.contents before prefix suffix) where
  -- nothing has changed yet
  nothing-yet : IsUnlinking layout layout.chains between between
  nothing-yet = record {
    word = in_front before was.contents;
    bucket = bucket_at between was.contents;
    small = below state layout unlinked from between node was before prefix suffix k done stands;
    chained = first-chained state layout unlinked from between node was before prefix suffix k done stands;
    only = record { beside = record { node_fields = λ u. refl; key_place = λ u c a b d e. refl; stored = λ s u c. refl }; entry = λ u. refl };
    list = refl;
    whole = chains-are state layout unlinked from between node was before prefix suffix k done stands;
    headers = headers-kept between;
  }

  -- the record is unlinked where the record before is being changed
  still-chained : (image : Image) → OnlyLinksChange (in_front before was.contents) (store_of between) (store_of image) → IsStillLinked between was.contents before image → IsUnlinking layout layout.chains between image
  still-chained image only s = record {
    word = in_front before was.contents;
    bucket = bucket_at between was.contents;
    small = below state layout unlinked from between node was before prefix suffix k done stands;
    chained = first-chained state layout unlinked from between node was before prefix suffix k done stands;
    only = only;
    list = s.keeps.list;
    whole = λ other small. chain-back (store_of image) other (layout.chains other) (s.chains other ∙ chain-is (store_of between) other (layout.chains other) (no-record between) (chains-are state layout unlinked from between node was before prefix suffix k done stands other small));
    headers = s.keeps.headers;
  }

pub links-change : UnlinkingsChangeLinks
unfolding in_front
links-change state layout unlinked from node was before prefix suffix old new k done stands commits between there =
    each-word between was.contents before old new (λ image. IsUnlinking layout layout.chains between image ⊎ IsUnlinking layout (chains_without layout was.contents) between image) there
    (inl (nothing-yet state layout unlinked from between node was before prefix suffix k (done between there) (stands between there)))
    (by before (stands between there))
    (λ image u. inr (records-out state layout unlinked from between image node was before prefix suffix k (done between there) (stands between there) u))
    (commits between there (can-be state layout unlinked from between node was before prefix suffix k (done between there) (stands between there)))
  where
    by : (o : Option ℕ) → StandsBehind (layout.chains (bucket_at between was.contents)) was.contents o prefix suffix → (v : ℕ) → o ≡ Some v → (image : Image) → IsStillLinked between was.contents (Some v) image → IsUnlinking layout layout.chains between image ⊎ IsUnlinking layout (chains_without layout was.contents) between image
    by None behind v is image s = absurd (let z : ◌≡◌ {A = Option ℕ} None (Some v) = is in cc)
    by (Some p) behind v is image s =
        let same : p ≡ v = some_inj is in
        let now : IsStillLinked between was.contents (Some p) image = subst (λ (x : ℕ). IsStillLinked between was.contents (Some x) image) (sym same) s in
        let i = first-in state layout unlinked from between node was (Some p) prefix suffix k (done between there) behind in
        inl (still-chained state layout unlinked from between node was (Some p) prefix suffix k (done between there) behind image (outside-links between image p i.fields i.here now.keeps.outside now.keeps.records) now)
