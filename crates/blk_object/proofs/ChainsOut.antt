-- A record of some chains is unlinked, and is out of its chain: of any chains that a folder has, as those of which some items are out.
use Rattle.std.proofs.Common.{◌≡◌, ◌≢◌, inr, ⊎_elim, arith, ℕ, ◌+◌, ◌<◌, List, [], ◌∷◌, ◌++◌, refl, ap, sym, ◌∙◌, subst, lit<, append_assoc, true, false, None, Option, Some}
use Rattle.std.specs.Prelude.{◌&&◌, ◌==◌, filter, not}
use Rattle.std.specs.Option.{option_map_or}
use Rattle.std.proofs.lemmas.Bool.{and_parts, cases_Bool, eq-eqb, eqb-true, or_left, or_right, or_parts}
use Rattle.std.proofs.lemmas.Nat.{mod_below}
use Rattle.spec_image.specs.Footprint.{SameOutside}
use Rattle.spec_image.specs.Image.{AreBytes, Block, Image}
use Rattle.spec_image.proofs.Words.{same-range}
use Rattle.spec_format.specs.Address.{blocks_256, file_selector, kind_of, place, rankings}
use Rattle.spec_format.specs.BlockFiles.{is_among, stands_in}
use Rattle.spec_format.specs.Sealed.{RecordChecks, record_range, record_size, size_by_kind}
use Rattle.spec_format.specs.Records.{entry_size}
use Rattle.spec_format.proofs.Finished.{headers-kept}
use Rattle.spec_folder.specs.Chains.{IsChain, Linked, bucket_at, bucket_of_hash, chain, file_and_block, is_of_bucket}
use Rattle.spec_folder.specs.Footprint.{OnlyLinksChange}
use Rattle.spec_folder.specs.Layout.{Layout}
use Rattle.spec_folder.specs.ListView.{Distinct}
use Rattle.spec_folder.specs.View.{RecordFields, StoreView, block_bytes, entry_at, key_place_at, store_of}
use Rattle.law_folder.proofs.chains.ChainEnds.{chain-back}
use Rattle.law_folder.proofs.chains.Chains.{chain-is}
use Rattle.law_folder.proofs.chains.ChainWords.{record_checks, shown-fields}
use Rattle.law_folder.proofs.updates.StillShown.{core-standing, named-still, standing-parts}
use Rattle.law_folder.proofs.chains.ShortChains.{distinct-map}
use Rattle.law_folder.proofs.lists.Lists.{has_not}
use Rattle.law_folder.proofs.states.Bare.{no-record}
use Rattle.law_folder.proofs.claims.Covers.{out-range}
use Rattle.law_folder.proofs.claims.Inside.{record-changes}
use Rattle.blk_chain.specs.Unlinking.{BeforeChecks, CanBeUnlinked, IsStillLinked, IsUnlinked, StandsBehind, next_record, without_record}
use Rattle.blk_chain.proofs.Pairs.{chain-words}
use Rattle.law_state.specs.Arranging.{LeavesFiles}
use Rattle.law_state.specs.PartlyOut.{chains_but}
use Rattle.law_state.specs.RemovalLaws.{IsUnlinking}
use Rattle.law_state.proofs.AtNodes.{updates-change}
use Rattle.law_state.proofs.Links.{table-files, table-links}
use Rattle.blk_object.specs.Removing.{IsYetLinked}

-- ---- lists without a word

lacks-one : (xs : List ℕ) (w : ℕ) → is_among xs w ≡ false → filter (λ x. not (x == w)) xs ≡ xs
lacks-one [] w none = refl
lacks-one (x ∷ xs) w none = let parts = or_parts (x == w) (is_among xs w) none in let h = parts.0 in rw h (ap (λ (ys : List ℕ). x ∷ ys) (lacks-one xs w parts.1))

without-one : (xs : List ℕ) (w : ℕ) (ys : List ℕ) → is_among (xs ++ ys) w ≡ false → filter (λ x. not (x == w)) (xs ++ w ∷ ys) ≡ xs ++ ys
without-one [] w ys none = let h : (w == w) ≡ true = eq-eqb w w refl in rw h (lacks-one ys w none)
without-one (x ∷ xs) w ys none = let parts = or_parts (x == w) (is_among (xs ++ ys) w) none in let h = parts.0 in rw h (ap (λ (zs : List ℕ). x ∷ zs) (without-one xs w ys parts.1))

-- the one after which it is
pub in_front : Option ℕ → ℕ → ℕ
in_front None w = w
in_front (Some v) w = v

pub among-front : (xs : List ℕ) (v : ℕ) (ys : List ℕ) → is_among (xs ++ v ∷ ys) v ≡ true
among-front [] v ys = or_left (v == v) (is_among ys v) (eq-eqb v v refl)
among-front (x ∷ xs) v ys = or_right (x == v) (is_among (xs ++ v ∷ ys) v) (among-front xs v ys)

front-among : (words : List ℕ) (w : ℕ) (before : Option ℕ) (prefix suffix : List ℕ) → StandsBehind words w before prefix suffix → is_among words (in_front before w) ≡ true
unfolding in_front
front-among words w None prefix suffix stands = ap (λ (xs : List ℕ). is_among xs w) stands.1 ∙ among-front [] w suffix
front-among words w (Some v) prefix suffix stands = ap (λ (xs : List ℕ). is_among xs v) stands ∙ among-front prefix v (w ∷ suffix)

taken-out : (words : List ℕ) (w : ℕ) (before : Option ℕ) (prefix suffix : List ℕ) → Distinct words → StandsBehind words w before prefix suffix → filter (λ x. not (x == w)) words ≡ without_record before prefix suffix
taken-out words w None prefix suffix once stands = ap (filter (λ x. not (x == w))) stands.1 ∙ without-one [] w suffix (subst Distinct stands.1 once).0
taken-out words w (Some v) prefix suffix once stands =
    let split : words ≡ (prefix ++ v ∷ []) ++ w ∷ suffix = stands ∙ sym (append_assoc prefix (v ∷ []) (w ∷ suffix)) in
    ap (filter (λ x. not (x == w))) split ∙ without-one (prefix ++ v ∷ []) w suffix (has_not (prefix ++ v ∷ []) w suffix (subst Distinct split once)) ∙ append_assoc prefix (v ∷ []) suffix

-- ---- a record of a chain is of its bucket

of-bucket : (v : StoreView) (b x : ℕ) (cs : List ℕ) (c : ℕ) → Linked v b x cs → is_among cs c ≡ true → is_of_bucket v b c ≡ true
of-bucket v b x [] c linked among = absurd (let z : false ≡ true = among in cc)
of-bucket v b x (d ∷ cs) c linked among = ⊎_elim
    (λ (h : (d == c) ≡ true). subst (λ (y : ℕ). is_of_bucket v b y ≡ true) (eqb-true d c h) linked.1)
    (λ (h : (d == c) ≡ false). of-bucket v b (v.chain_next d) cs c linked.2 (rw h at among))
    (cases_Bool (d == c))

pub record IsInBucket (image : Image) (b w : ℕ) : Type 0 where
  pub fields : RecordFields
  pub here : (store_of image).entry w ≡ Some fields
  pub good : fields.checks ≡ true
  pub bucket : bucket_at image w ≡ b

in-bucket : (image : Image) (b w : ℕ) → is_of_bucket (store_of image) b w ≡ true → IsInBucket image b w
in-bucket image b w e = go ((store_of image).entry w) refl e where
  go : (o : Option RecordFields) → (store_of image).entry w ≡ o → option_map_or (λ (f : RecordFields). f.checks && (bucket_of_hash f.hash == b)) o false ≡ true → IsInBucket image b w
  go None is e = absurd (let z : false ≡ true = e in cc)
  go (Some f) is e = let parts = and_parts f.checks (bucket_of_hash f.hash == b) e in
      record { fields = f; here = is; good = parts.0; bucket = ap (λ (x : RecordFields). bucket_of_hash x.hash) (shown-fields image w f is) ∙ eqb-true (bucket_of_hash f.hash) b parts.1 }

-- ---- what no change of a record's own bytes touches

no-node : (w : ℕ) → kind_of w ≡ blocks_256 → rankings ≢ kind_of w
no-node w kind e = let z : ◌≡◌ {A = ℕ} 1 2 = e ∙ kind in cc

length-of : (w : ℕ) → kind_of w ≡ blocks_256 → record_size w ≡ 96
unfolding size_by_kind
length-of w kind = rw kind refl

key-kept : (from image : Image) (w n : ℕ) → kind_of w ≡ blocks_256 → SameOutside (record_range w) from image → (store_of from).key_place w n ≡ (store_of image).key_place w n
unfolding store_of key_place_at
key-kept from image w n kind outside = same-range n (place w + entry_size) (block_bytes from w) (block_bytes image w) (λ k low high.
    sym (outside.bytes (Block (file_selector w)) k (out-range (Block (file_selector w)) (Block (file_selector w)) (place w) (record_size w) k (λ file above below. omega (arith, low, below, length-of w kind)))))

nodes-kept : (from image : Image) (w : ℕ) → stands_in from w ≡ true → kind_of w ≡ blocks_256 → SameOutside (record_range w) from image → (u : ℕ) → (store_of from).node_fields u ≡ (store_of image).node_fields u
unfolding store_of
nodes-kept from image w standing kind outside u = named-still from image w standing (inr kind) outside (no-node w kind) u

-- where all records are as they were but for their links, and only bytes of this one have changed, links alone have
outside-links : (from image : Image) (w : ℕ) (fields : RecordFields) → (store_of from).entry w ≡ Some fields → SameOutside (record_range w) from image → ((u : ℕ) → (store_of image).entry u ≡ (store_of from).entry u) → OnlyLinksChange w (store_of from) (store_of image)
outside-links from image w fields here outside records =
    let st = standing-parts from blocks_256 w (core-standing from w fields here) in
    let shown = (record-changes from image w st.0 (inr st.1) outside).shown in
    record {
      beside = record {
        node_fields = nodes-kept from image w st.0 st.1 outside;
        key_place = λ u c where_is is long short. ⊎_elim
            (λ clear. shown.store.key_place u c clear is long short)
            (λ (e : u ≡ w). subst (λ (v : ℕ). (store_of from).key_place v c.key_len ≡ (store_of image).key_place v c.key_len) (sym e) (key-kept from image w c.key_len st.1 outside))
            where_is;
        stored = λ size u clear. shown.store.stored size u clear;
      };
      entry = λ u. sym (records u);
    }

only-links : (from image : Image) (w : ℕ) (before : Option ℕ) → IsInBucket from (bucket_at from w) (in_front before w) → IsUnlinked from w before image → OnlyLinksChange (in_front before w) (store_of from) (store_of image)
unfolding in_front
only-links from image w None i u = table-links from image (bucket_at from w) (next_record from w) w u.links
only-links from image w (Some v) i u = outside-links from image v i.fields i.here u.keeps.outside u.keeps.records

record-leaves : (from image : Image) (w : ℕ) (fields : RecordFields) → (store_of from).entry w ≡ Some fields → SameOutside (record_range w) from image → LeavesFiles from image
record-leaves from image w fields here outside =
    let st = standing-parts from blocks_256 w (core-standing from w fields here) in
    let only = updates-change from image w st.0 (inr st.1) outside in
    record { headers = only.headers; session = only.session; well_formed = only.well_formed }

leaves-by : (from image : Image) (w : ℕ) (before : Option ℕ) → IsInBucket from (bucket_at from w) (in_front before w) → IsUnlinked from w before image → LeavesFiles from image
unfolding in_front
leaves-by from image w None i u = table-files from image (bucket_at from w) u.keeps.outside u.keeps.headers
leaves-by from image w (Some v) i u = record-leaves from image v i.fields i.here u.keeps.outside

before-checks : (words : List ℕ) (w : ℕ) (before : Option ℕ) (prefix suffix : List ℕ) (image : Image) → StandsBehind words w before prefix suffix → ((v : ℕ) → is_among words v ≡ true → RecordChecks v image) → BeforeChecks before image
before-checks words w None prefix suffix image stands each = tt
before-checks words w (Some v) prefix suffix image stands each = each v (ap (λ (xs : List ℕ). is_among xs v) stands ∙ among-front prefix v (w ∷ suffix))

-- ---- a record of a whole chain

module _ (layout : Layout) (chains : ℕ → List ℕ) (between : Image) (whole : (other : ℕ) → other < 65536 → IsChain (store_of between) other (chains other)) (w : ℕ) (before : Option ℕ) (prefix suffix : List ℕ) (stands : StandsBehind (chains (bucket_at between w)) w before prefix suffix) where
  abbrev b : ℕ
  b = bucket_at between w

  small : b < 65536
  small = mod_below (entry_at between w).hash 65536 (lit< tt)

  first-chained : is_among (chains b) (in_front before w) ≡ true
  first-chained = front-among (chains b) w before prefix suffix stands

  first-in : IsInBucket between b (in_front before w)
  first-in = in-bucket between b (in_front before w) (of-bucket (store_of between) b ((store_of between).table b) (chains b) (in_front before w) (whole b small).linked first-chained)

  words-are : chains b ≡ (chain (store_of between) b).reached
  words-are = sym (chain-words between b (chains b) (whole b small))

  checks-of : AreBytes between → (v : ℕ) → is_among (chains b) v ≡ true → RecordChecks v between
  checks-of bytes v among =
      let i = in-bucket between b v (of-bucket (store_of between) b ((store_of between).table b) (chains b) v (whole b small).linked among) in
      let kind : kind_of v ≡ blocks_256 = (standing-parts between blocks_256 v (core-standing between v i.fields i.here)).1 in
      record_checks between v bytes kind (ap (λ (f : RecordFields). f.checks) (shown-fields between v i.fields i.here) ∙ i.good)

  -- it can be unlinked, and the checksum of the record before matches or is absent
  pub can-go : AreBytes between → CanBeUnlinked w before between × BeforeChecks before between
  can-go bytes = (
    record {
      whole = subst (IsChain (store_of between) b) words-are (whole b small);
      prefix = prefix;
      suffix = suffix;
      stands = subst (λ (words : List ℕ). StandsBehind words w before prefix suffix) words-are stands;
    },
    before-checks (chains b) w before prefix suffix between stands (checks-of bytes),
  )

  still-whole : (image : Image) → ((bucket : ℕ) → chain (store_of image) bucket ≡ chain (store_of between) bucket) → (other : ℕ) → other < 65536 → IsChain (store_of image) other (chains other)
  still-whole image same other below = chain-back (store_of image) other (chains other) (same other ∙ chain-is (store_of between) other (chains other) (no-record between) (whole other below))

  -- nothing has changed yet
  nothing-yet : IsUnlinking (record layout { chains = chains }) chains between between
  nothing-yet = record {
    word = in_front before w;
    bucket = b;
    small = small;
    chained = first-chained;
    only = record { beside = record { node_fields = λ u. refl; key_place = λ u c a b d e. refl; stored = λ s u c. refl }; entry = λ u. refl };
    list = refl;
    whole = whole;
    headers = headers-kept between;
  }

  -- the record is unlinked where the record before is being changed
  still-chained : (image : Image) → OnlyLinksChange (in_front before w) (store_of between) (store_of image) → IsStillLinked between w before image → IsUnlinking (record layout { chains = chains }) chains between image
  still-chained image only s = record {
    word = in_front before w;
    bucket = b;
    small = small;
    chained = first-chained;
    only = only;
    list = s.keeps.list;
    whole = still-whole image s.chains;
    headers = s.keeps.headers;
  }

  lacks : (other : ℕ) → other < 65536 → (b == other) ≡ false → is_among (chains other) w ≡ false
  lacks other below apart = ⊎_elim
      (λ (h : is_among (chains other) w ≡ true). absurd (let i = in-bucket between other w (of-bucket (store_of between) other ((store_of between).table other) (chains other) w (whole other below).linked h) in let z : true ≡ false = sym (eq-eqb b other i.bucket) ∙ apart in cc))
      (λ (h : is_among (chains other) w ≡ false). h)
      (cases_Bool (is_among (chains other) w))

  left-is : chains_but chains w b ≡ without_record before prefix suffix
  left-is = taken-out (chains b) w before prefix suffix (distinct-map file_and_block (chains b) (whole b small).once) stands

  module _ (image : Image) (u : IsUnlinked between w before image) where
    here-now : IsChain (store_of image) b (without_record before prefix suffix)
    here-now = u.chain_now prefix suffix (subst (λ (words : List ℕ). StandsBehind words w before prefix suffix) words-are stands)

    elsewhere-now : (other : ℕ) → other < 65536 → (b == other) ≡ false → IsChain (store_of image) other (chains_but chains w other)
    elsewhere-now other below apart = subst (IsChain (store_of image) other) (sym (lacks-one (chains other) w (lacks other below apart)))
        (chain-back (store_of image) other (chains other) (u.others other apart ∙ chain-is (store_of between) other (chains other) (no-record between) (whole other below)))

    whole-now : (other : ℕ) → other < 65536 → IsChain (store_of image) other (chains_but chains w other)
    whole-now other below = ⊎_elim
        (λ (h : (b == other) ≡ true). subst (λ (c : ℕ). IsChain (store_of image) c (chains_but chains w c)) (eqb-true b other h) (subst (IsChain (store_of image) b) (sym left-is) here-now))
        (λ (h : (b == other) ≡ false). elsewhere-now other below h)
        (cases_Bool (b == other))

    -- the record is out of its chain
    pub goes-out : IsUnlinking (record layout { chains = chains }) (chains_but chains w) between image
    goes-out = record {
      word = in_front before w;
      bucket = b;
      small = small;
      chained = first-chained;
      only = only-links between image w before first-in u;
      list = u.keeps.list;
      whole = whole-now;
      headers = u.keeps.headers;
    }

    -- the files are as before
    pub leaves-files : LeavesFiles between image
    leaves-files = leaves-by between image w before first-in u

-- while it is in its chain yet, links alone have changed
pub yet-in : (layout : Layout) (chains : ℕ → List ℕ) (between : Image) (whole : (other : ℕ) → other < 65536 → IsChain (store_of between) other (chains other)) (w : ℕ) (before : Option ℕ) (prefix suffix : List ℕ) → StandsBehind (chains (bucket_at between w)) w before prefix suffix
    → (image : Image) → IsYetLinked between w before image → IsUnlinking (record layout { chains = chains }) chains between image
unfolding in_front
yet-in layout chains between whole w None prefix suffix stands image e = subst (λ (i : Image). IsUnlinking (record layout { chains = chains }) chains between i) (sym e) (nothing-yet layout chains between whole w None prefix suffix stands)
yet-in layout chains between whole w (Some v) prefix suffix stands image s =
    let i = first-in layout chains between whole w (Some v) prefix suffix stands in
    still-chained layout chains between whole w (Some v) prefix suffix stands image (outside-links between image v i.fields i.here s.keeps.outside s.keeps.records) s
