-- The chains, repaired at each of their words.
use Rattle.std.proofs.Common.{inl, inr, ◌≡◌, ◌≢◌, ⊎_elim, ℕ, zero, suc, ◌+◌, ◌^◌, ◌<◌, ◌≤◌, Bool, true, false, List, [], ◌∷◌, ◌++◌, length, Option, Some, None, Ok, refl, sym, ap, ◌∙◌, subst, arith}
use Rattle.std.specs.Prelude.{if◌then◌else◌, ◌==◌, ◌&&◌, map, is_some, slice_index}
use Rattle.std.specs.List.{filter, filter_map, cons_option}
use Rattle.std.proofs.lemmas.Bool.{cases_Bool, and_parts, eqb-true, eq-eqb, or_left, or_right}
use Rattle.std.proofs.lemmas.Bool.Decides.{eqb_tells}
use Rattle.std.proofs.Math.Dec.{eqb}
use Rattle.spec_image.specs.Image.{Index, Image}
use Rattle.spec_image.specs.Steps.{TrailStep, word_step, after}
use Rattle.spec_image.specs.Told.{Along}
use Rattle.spec_image.proofs.Cuts.{after-append}
use Rattle.spec_image.proofs.Runs.{until-append, until_weaker2, until_last}
use Rattle.spec_format.specs.Hash.{hash}
use Rattle.spec_format.specs.Headers.{place_of_bucket}
use Rattle.spec_format.specs.BlockFiles.{is_among, IsWellFormed}
use Rattle.spec_format.specs.Claims.{claims_of, has_claim}
use Rattle.spec_format.specs.Sealed.{sealed_steps}
use Rattle.spec_folder.specs.ListView.{ListView, Distinct, put, first_or}
use Rattle.spec_folder.specs.Completion.{completed_list}
use Rattle.spec_folder.specs.Walk.{walk}
use Rattle.spec_folder.specs.View.{StoreView, RecordFields, list_of, store_of}
use Rattle.spec_folder.specs.Chains.{Chain, chain, bucket_of_hash, file_and_block, is_of_bucket, Linked, IsChain}
use Rattle.spec_folder.specs.Loads.{held_rule, Loaded, load}
use Rattle.spec_folder.specs.Audit.{kept_among}
use Rattle.spec_folder.specs.Shown.{IsShown}
use Rattle.spec_folder.specs.Found.{kept, found, row_of_loaded}
use Rattle.spec_folder.specs.Footprint.{IsClear}
use Rattle.spec_folder.specs.ListImages.{IsWritable, walked}
use Rattle.spec_folder.specs.ShownChanges.{OnlyChainNextChanges}
use Rattle.law_folder.proofs.states.Central.{walk-idle}
use Rattle.law_folder.proofs.lists.Walked.{walk-once}
use Rattle.law_recovery.proofs.ListRepair.{append-one}
use Rattle.law_folder.proofs.chains.ChainLinks.{others-stay}
use Rattle.spec_format.proofs.Finished.{well_formed-finished}
use Rattle.law_folder.proofs.lists.ListWrites.{put-here, put-else}
use Rattle.law_folder.proofs.claims.Outside.{AreClear}
use Rattle.law_folder.proofs.walks.Shown.{kept-given, is_among-filter}
use Rattle.spec_folder.specs.Audit.{kept_as, is_kept, kept_nodes}
use Rattle.law_recovery.specs.ListRepair.{HoldsTheSame}
use Rattle.law_recovery.proofs.Paths.{Path, IsPath, skip}
use Rattle.law_recovery.specs.ChainRepair.{is_kept_record, kept_records, bucket_steps, next_steps, next_words_steps, chain_steps, chains_steps, chain_repair_steps, KeepsAllWalked, ChainsAreRepaired, HasChainsUpTo, ChainsBegin, BucketsAreMended, WholeChainsNeedNoSteps, ChainRepairsEnd, KeptRecordsStay, WholeChainsStay}
use Rattle.law_recovery.proofs.KeptRecords.{IsGivenAt, given-at}
use Rattle.law_recovery.specs.RecordSeals.{KeepsRecordsSealed}
use Rattle.law_recovery.proofs.RecordSeals.{keeps-none, keeps-more, word-keeps}
use Rattle.law_recovery.proofs.Same.{chain-same, of_bucket-same}
use Rattle.spec_folder.specs.ShownChanges.{ShowsTheSame}
use Rattle.law_recovery.proofs.Frames.{OnlyLinks, apart-clear, own-clear, load-chained, IsRecordOf, record-of, load-linked}
use Rattle.law_folder.proofs.walks.Kept.{kept-shown}
use Rattle.law_recovery.proofs.Paths.{on-path, chain-path, chain-stays, skip-path, skip-few, skip-has, skip-once, suffix-once, suffix-few, suffix-has, path-linked, suffix-apart, skip-apart, path-suffix, path-whole, end-suffix}
use Rattle.law_recovery.proofs.RecordWords.{record-sealed_next, BucketWritten, bucket-written, shown-small, IsMidNext, next-along, next-done, links-only, others-chain_next, buckets-same, elsewhere-chain_next}
use Rattle.law_folder.proofs.chains.ChainWords.{IsShownOf, shown-of}

clash : true ≡ false → ⊥
clash e = cc

-- what changes at most while the chain of a bucket is made
pub record Elsewhere (i j : Image) (bucket : ℕ) : Type 0 where
  pub seals : KeepsRecordsSealed i j
  pub table : (b : ℕ) → (bucket == b) ≡ false → (store_of j).table b ≡ (store_of i).table b
  pub buckets : (b x : ℕ) → is_of_bucket (store_of j) b x ≡ is_of_bucket (store_of i) b x
  pub chain_next : (b x : ℕ) → (bucket == b) ≡ false → is_of_bucket (store_of i) b x ≡ true → (store_of j).chain_next x ≡ (store_of i).chain_next x

elsewhere-none : (i : Image) (b : ℕ) → Elsewhere i i b
elsewhere-none i b = record { seals = keeps-none i; table = λ b e. refl; buckets = λ b x. refl; chain_next = λ b x e o. refl }

elsewhere-more : (i j k : Image) (b : ℕ) → Elsewhere i j b → Elsewhere j k b → Elsewhere i k b
elsewhere-more i j k b p q = record {
  seals = keeps-more i j k p.seals q.seals;
  table = λ c e. q.table c e ∙ p.table c e;
  buckets = λ c x. q.buckets c x ∙ p.buckets c x;
  chain_next = λ c x e o. q.chain_next c x e (p.buckets c x ∙ o) ∙ p.chain_next c x e o;
}

elsewhere-chain : (i j : Image) (bucket b : ℕ) → Elsewhere i j bucket → (bucket == b) ≡ false → chain (store_of j) b ≡ chain (store_of i) b
elsewhere-chain i j bucket b e apart = chain-stays (store_of i) (store_of j) b (e.table b apart) (e.buckets b) (λ x o. e.chain_next b x apart o)

elsewhere-whole : (i j : Image) (bucket b : ℕ) (ws : List ℕ) → Elsewhere i j bucket → (bucket == b) ≡ false → IsChain (store_of i) b ws → IsChain (store_of j) b ws
elsewhere-whole i j bucket b ws e apart is = record { linked = subst (λ (w : ℕ). Linked (store_of j) b w ws) (sym (e.table b apart)) (go ((store_of i).table b) ws is.linked); once = is.once } where
  go : (w : ℕ) (xs : List ℕ) → Linked (store_of i) b w xs → Linked (store_of j) b w xs
  go w [] l = l
  go w (x ∷ xs) l = (l.0, e.buckets b x ∙ l.1, subst (λ (y : ℕ). Linked (store_of j) b y xs) (sym (e.chain_next b x apart l.1)) (go ((store_of i).chain_next x) xs l.2))

-- the first word of a path, or 0, is a word
first-small : (i : Image) (b : ℕ) (xs : List ℕ) → Path (store_of i) b (first_or 0 xs) xs → first_or 0 xs < 2 ^ 32
first-small i b [] path = omega arith
first-small i b (x ∷ xs) path = let s = shown-of (store_of i) b x path.1 in shown-small i x s.fields s.here

-- a path doesn't depend on the table
path-table : (v : StoreView) (t : ℕ → ℕ) (b w : ℕ) (xs : List ℕ) → Path v b w xs → Path (record v { table = t }) b w xs
path-table v t b w [] path = tt
path-table v t b w (x ∷ xs) path = (path.0, path.1, path-table v t b (v.chain_next x) xs path.2)

-- what is left where the records that are left are these
record Starts (test : ℕ → Bool) (xs : List ℕ) (c : ℕ) (cs : List ℕ) : Type 0 where
  rest : List ℕ
  is : skip test xs ≡ c ∷ rest
  good : test c ≡ true
  left : filter test rest ≡ cs

skip-starts : (test : ℕ → Bool) (xs : List ℕ) (c : ℕ) (cs : List ℕ) → filter test xs ≡ c ∷ cs → Starts test xs c cs
skip-starts test [] c cs e = cc
skip-starts test (x ∷ xs) c cs e =
    ⊎_elim
    (λ (good : test x ≡ true).
    let is : x ∷ filter test xs ≡ c ∷ cs = rw good at e in
    let same : x ≡ c = cc in
    let more : filter test xs ≡ cs = cc in
    record { rest = xs; is = rw good (ap (λ (y : ℕ). y ∷ xs) same); good = subst (λ (y : ℕ). test y ≡ true) same good; left = more })
    (λ (bad : test x ≡ false). let s = skip-starts test xs c cs (rw bad at e) in record { rest = s.rest; is = rw bad s.is; good = s.good; left = s.left })
    (cases_Bool (test x))

skip-none : (test : ℕ → Bool) (xs : List ℕ) → filter test xs ≡ [] → skip test xs ≡ []
skip-none test [] e = refl
skip-none test (x ∷ xs) e = ⊎_elim (λ (good : test x ≡ true). let is : x ∷ filter test xs ≡ [] = rw good at e in cc) (λ (bad : test x ≡ false). rw bad (skip-none test xs (rw bad at e))) (cases_Bool (test x))

module _ (from : Image) (well_from : IsWellFormed from) (all : KeepsAllWalked from) where
  abbrev pub given : ℕ → Option Loaded
  given = kept_as (store_of from) held_rule (walked from)

  once : Distinct (walked from)
  once = walk-once (list_of from)

  pub shown : IsShown (store_of from) held_rule (walked from) given
  shown = subst (λ (ns : List ℕ). IsShown (store_of from) held_rule ns given) all.all_kept (kept-shown (store_of from) held_rule (walked from) once)

  some-is : (o : Option Loaded) → is_some o ≡ true → (k : Loaded) × (o ≡ Some k)
  some-is None e = cc
  some-is (Some k) e = (k, refl)

  pub given-some : (node : ℕ) → is_among (walked from) node ≡ true → (k : Loaded) × (given node ≡ Some k)
  given-some node among =
      let there : is_among (kept_nodes (store_of from) held_rule (walked from)) node ≡ true = ap (λ (ns : List ℕ). is_among ns node) all.all_kept ∙ among in
      let both : (is_kept (store_of from) held_rule (walked from) node && is_among (walked from) node) ≡ true = sym (is_among-filter (is_kept (store_of from) held_rule (walked from)) (walked from) node) ∙ there in
      some-is (given node) (and_parts _ _ both).0

  pub kept-from : kept from ≡ filter_map given (walked from)
  unfolding kept kept_among
  kept-from = ap (kept_among (store_of from) held_rule) (walk-idle (list_of from) all.idle)

  -- the list is as it was, and each kept node loads as it did
  record IsSteady (i : Image) : Type 0 where
    well_formed : IsWellFormed i
    writable : IsWritable i
    list : list_of i ≡ list_of from
    loads : (node : ℕ) (k : Loaded) → is_among (walked from) node ≡ true → given node ≡ Some k → load (store_of i) held_rule node ≡ Ok k

  steady-shown : (i : Image) → IsSteady i → IsShown (store_of i) held_rule (walked from) given
  steady-shown i s = record {
    once = shown.once;
    loads = s.loads;
    single = shown.single;
    apart = shown.apart;
    parents = shown.parents;
    out = λ node k among none ok. absurd (let g = given-some node among in let c : ◌≡◌ {A = Option Loaded} None (Some g.0) = sym none ∙ g.1 in no c);
  } where
    no : {k : Loaded} → ◌≡◌ {A = Option Loaded} None (Some k) → ⊥
    no e = cc

  steady-holds : (i : Image) → IsSteady i → HoldsTheSame from i
  unfolding found kept
  steady-holds i s =
      let keeps : kept i ≡ kept from =
      ap (λ (l : ListView). kept_among (store_of i) held_rule (walk (completed_list l))) s.list ∙ ap (kept_among (store_of i) held_rule) (walk-idle (list_of from) all.idle)
      ∙ kept-given (store_of i) held_rule (walked from) given (steady-shown i s) ∙ sym kept-from in
      record {
        well_formed = s.well_formed;
        writable = s.writable;
        kept_same = keeps;
        found_same = rw (well_formed-finished i s.well_formed, well_formed-finished from well_from) (ap (map row_of_loaded) keeps);
      }

  -- ---- kept records

  abbrev test : ℕ → Bool
  test = is_kept_record (kept from)

  abbrev bucket-of : Loaded → ℕ
  bucket-of k = bucket_of_hash (hash k.key)

  pub record IsKeptRecord (c : ℕ) : Type 0 where
    pub node : ℕ
    pub k : Loaded
    pub among : is_among (walked from) node ≡ true
    pub is : given node ≡ Some k
    pub contents : k.contents ≡ c

  -- kept records of a bucket are among these
  abbrev Has : ℕ → List ℕ → Type 0
  Has b words = (node : ℕ) (k : Loaded) → is_among (walked from) node ≡ true → given node ≡ Some k → bucket-of k ≡ b → is_among words k.contents ≡ true

  in-kept : (xs : List ℕ) (node : ℕ) (k : Loaded) → is_among xs node ≡ true → given node ≡ Some k → is_kept_record (filter_map given xs) k.contents ≡ true
  in-kept [] node k among is = cc
  in-kept (x ∷ xs) node k among is =
      ⊎_elim
      (λ (e : (eqb x node ≡ true) × (x ≡ node)). rw (ap given e.1 ∙ is) (or_left (k.contents == k.contents) (is_kept_record (filter_map given xs) k.contents) (eq-eqb k.contents k.contents refl)))
      (λ (e : (eqb x node ≡ false) × _). more (given x) (in-kept xs node k (rw e.0 at among) is))
      (eqb_tells x node) where
        more : (o : Option Loaded) → is_kept_record (filter_map given xs) k.contents ≡ true → is_kept_record (cons_option o (filter_map given xs)) k.contents ≡ true
        more None h = h
        more (Some l) h = or_right (l.contents == k.contents) (is_kept_record (filter_map given xs) k.contents) h

  pub test-of : (node : ℕ) (k : Loaded) → is_among (walked from) node ≡ true → given node ≡ Some k → test k.contents ≡ true
  test-of node k among is = ap (λ (ks : List Loaded). is_kept_record ks k.contents) kept-from ∙ in-kept (walked from) node k among is

  pub of-test : (c : ℕ) → test c ≡ true → IsKeptRecord c
  of-test c e =
      let r : IsGivenAt given (walked from) c = given-at given (walked from) (walked from) c (λ x h. h) (ap (λ (ks : List Loaded). is_kept_record ks c) (sym kept-from) ∙ e) in
      record { node = r.node; k = r.k; among = r.among; is = r.is; contents = r.contents }

  -- ---- one link

  some-one : {k l : Loaded} → ◌≡◌ {A = Option Loaded} (Some k) (Some l) → k ≡ l
  some-one e = cc

  fields-one : {c d : RecordFields} → ◌≡◌ {A = Option RecordFields} (Some c) (Some d) → c ≡ d
  fields-one e = cc

  -- after a change of the link of a kept record, after which the kept records of its bucket are on a path, all load as before
  link-steady : (i j : Image) (b nc : ℕ) (kc : Loaded) (words : List ℕ) → IsSteady i → is_among (walked from) nc ≡ true → given nc ≡ Some kc → is_of_bucket (store_of i) b kc.contents ≡ true → OnlyChainNextChanges kc.contents i j → IsWellFormed j → IsWritable j
      → IsPath (store_of j) b words → Has b words → IsSteady j
  link-steady i j b nc kc words s among_c is_c of only well ready path has = record { well_formed = well; writable = ready; list = only.rest.list ∙ s.list; loads = loads } where
    rc : IsRecordOf (store_of i) kc
    rc = record-of (store_of i) nc kc (s.loads nc kc among_c is_c)

    bucket-c : bucket_of_hash rc.fields.hash ≡ b
    bucket-c = let shown-c = shown-of (store_of i) b kc.contents of in ap (λ (c : RecordFields). bucket_of_hash c.hash) (fields-one (sym rc.here ∙ shown-c.here)) ∙ shown-c.in_bucket

    chained : (node : ℕ) (k : Loaded) → load (store_of i) held_rule node ≡ Ok k → is_among (walked from) node ≡ true → given node ≡ Some k → is_among (chain (store_of j) (bucket-of k)).reached k.contents ≡ true
    chained node k ok among is =
        ⊎_elim
        (λ (e : (eqb b (bucket-of k) ≡ true) × (b ≡ bucket-of k)). subst (λ (x : ℕ). is_among (chain (store_of j) x).reached k.contents ≡ true) e.1 (on-path (store_of j) b words path k.contents (has node k among is (sym e.1))))
        (λ (e : (eqb b (bucket-of k) ≡ false) × _).
        let apart : (bucket_of_hash rc.fields.hash == bucket-of k) ≡ false = ap (λ (x : ℕ). x == bucket-of k) bucket-c ∙ e.0 in
        let same : chain (store_of j) (bucket-of k) ≡ chain (store_of i) (bucket-of k) =
        chain-stays (store_of i) (store_of j) (bucket-of k) (sym (only.rest.table (bucket-of k))) (buckets-same i j kc.contents rc.fields rc.here only (bucket-of k)) (λ x o. elsewhere-chain_next i j kc.contents rc.fields rc.here only (bucket-of k) x apart o) in
        ap (λ (c : Chain). is_among c.reached k.contents) same ∙ load-chained (store_of i) node k ok)
        (eqb_tells b (bucket-of k))

    loads : (node : ℕ) (k : Loaded) → is_among (walked from) node ≡ true → given node ≡ Some k → load (store_of j) held_rule node ≡ Ok k
    loads node k among is =
        let ok = s.loads node k among is in
        let in_chain = chained node k ok among is in
        ⊎_elim
        (λ (e : (eqb nc node ≡ true) × (nc ≡ node)).
        let same : k ≡ kc = some-one (sym is ∙ ap given (sym e.1) ∙ is_c) in
        let single = shown.single node k among is in
        let own : (n : ℕ) → IsClear (has_claim (claims_of kc.contents)) _ = λ n. subst (λ (l : Loaded). IsClear (has_claim (claims_of l.contents)) (slice_index k.others n)) same (own-clear k single n) in
        load-linked (store_of i) (store_of j) kc.contents (links-only i j kc.contents rc.fields rc.here only) held_rule node k ok (inr (ap (λ (l : Loaded). l.contents) same)) own in_chain)
        (λ (e : (eqb nc node ≡ false) × _).
        let clear : AreClear (has_claim (claims_of kc.contents)) k = apart-clear kc k (shown.apart nc node kc k among_c among e.0 is_c is) in
        load-linked (store_of i) (store_of j) kc.contents (links-only i j kc.contents rc.fields rc.here only) held_rule node k ok (inl clear.contents) clear.others in_chain)
        (eqb_tells nc node)

  -- ---- a bucket from one of its kept records on

  -- a kept record of a bucket lies on a path with all kept records of the bucket, these before it and those after
  record IsLinking (i : Image) (b : ℕ) (prefix : List ℕ) (c : ℕ) (suffix : List ℕ) : Type 0 where
    steady : IsSteady i
    path : IsPath (store_of i) b (prefix ++ c ∷ suffix)
    has : Has b (prefix ++ c ∷ suffix)
    kept_c : IsKeptRecord c

  -- the record gets the next of the kept records as its next
  record IsRelinked (i : Image) (b : ℕ) (prefix : List ℕ) (c : ℕ) (suffix : List ℕ) (x : ℕ) (j : Image) : Type 0 where
    linking : IsLinking j b prefix c (skip test suffix)
    chain_next : (store_of j).chain_next c ≡ x
    elsewhere : Elsewhere i j b

  has-suffix : (b : ℕ) (prefix : List ℕ) (c : ℕ) (suffix : List ℕ) → Has b (prefix ++ c ∷ suffix) → Has b (prefix ++ c ∷ skip test suffix)
  has-suffix b prefix c suffix has node k among is of = suffix-has test prefix c suffix k.contents (test-of node k among is) (has node k among is of)

  -- the path with the record linked, where its next is this
  path-to : (v u : StoreView) (b : ℕ) (prefix : List ℕ) (c : ℕ) (suffix new : List ℕ) → ((x : ℕ) → is_of_bucket u b x ≡ is_of_bucket v b x) → ((x : ℕ) → (file_and_block x == file_and_block c) ≡ false → u.chain_next x ≡ v.chain_next x) → u.table b ≡ v.table b
      → IsPath v b (prefix ++ c ∷ suffix) → Path v b (u.chain_next c) new → is_among (map file_and_block new) (file_and_block c) ≡ false → Distinct (map file_and_block (prefix ++ c ∷ new)) → length (prefix ++ c ∷ new) ≤ 2 ^ 24 → IsPath u b (prefix ++ c ∷ new)
  path-to v u b prefix c suffix new buckets chain_next table path leads lacks once_new few = record {
    linked = subst (λ (w : ℕ). Path u b w (prefix ++ c ∷ new)) (sym table) (path-linked v u b c buckets chain_next prefix (v.table b) suffix new path.once lacks leads path.linked);
    once = once_new;
    few = few;
  }

  module _ (i : Image) (b : ℕ) (prefix : List ℕ) (c : ℕ) (suffix : List ℕ) (l : IsLinking i b prefix c suffix) where
    abbrev x : ℕ
    x = first_or 0 (skip test suffix)

    was : (is_of_bucket (store_of i) b c ≡ true) × Path (store_of i) b ((store_of i).chain_next c) suffix
    was = path-suffix (store_of i) b ((store_of i).table b) prefix c suffix l.path.linked

    leads : Path (store_of i) b x (skip test suffix)
    leads = skip-path test (store_of i) b ((store_of i).chain_next c) suffix was.1

    few-new : length (prefix ++ c ∷ skip test suffix) ≤ 2 ^ 24
    few-new = let a = suffix-few test prefix c suffix in let f = l.path.few in omega (arith, a, f)

    -- where it has it already
    already : (store_of i).chain_next c ≡ x → IsRelinked i b prefix c suffix x i
    already e = record {
      linking = record {
        steady = l.steady;
        path = path-to (store_of i) (store_of i) b prefix c suffix (skip test suffix) (λ y. refl) (λ y a. refl) refl l.path (subst (λ (w : ℕ). Path (store_of i) b w (skip test suffix)) (sym e) leads) (skip-apart test prefix c suffix l.path.once) (suffix-once test prefix c suffix l.path.once) few-new;
        has = has-suffix b prefix c suffix l.has;
        kept_c = l.kept_c;
      };
      chain_next = e;
      elsewhere = elsewhere-none i b;
    }

    fields-c : IsShownOf (store_of i) b c
    fields-c = shown-of (store_of i) b c was.0

    -- at each word of its update
    path-old : (j : Image) → OnlyChainNextChanges c i j → (store_of j).chain_next c ≡ (store_of i).chain_next c → IsPath (store_of j) b (prefix ++ c ∷ suffix)
    path-old j only e =
        path-to (store_of i) (store_of j) b prefix c suffix suffix (buckets-same i j c fields-c.fields fields-c.here only b) (others-chain_next i j c fields-c.fields fields-c.here only) (sym (only.rest.table b)) l.path
        (subst (λ (w : ℕ). Path (store_of i) b w suffix) (sym e) was.1) (suffix-apart prefix c suffix l.path.once) l.path.once l.path.few

    path-new : (j : Image) → OnlyChainNextChanges c i j → (store_of j).chain_next c ≡ x → IsPath (store_of j) b (prefix ++ c ∷ skip test suffix)
    path-new j only e =
        path-to (store_of i) (store_of j) b prefix c suffix (skip test suffix) (buckets-same i j c fields-c.fields fields-c.here only b) (others-chain_next i j c fields-c.fields fields-c.here only) (sym (only.rest.table b)) l.path
        (subst (λ (w : ℕ). Path (store_of i) b w (skip test suffix)) (sym e) leads) (skip-apart test prefix c suffix l.path.once) (suffix-once test prefix c suffix l.path.once) few-new

    steady-by : (j : Image) (words : List ℕ) → IsMidNext i c x j → IsPath (store_of j) b words → Has b words → IsSteady j
    steady-by j words m path has =
        link-steady i j b l.kept_c.node l.kept_c.k words l.steady l.kept_c.among l.kept_c.is (subst (λ (w : ℕ). is_of_bucket (store_of i) b w ≡ true) (sym l.kept_c.contents) was.0)
        (subst (λ (w : ℕ). OnlyChainNextChanges w i j) (sym l.kept_c.contents) m.only) m.well_formed m.writable path has

    steady-at : (j : Image) → IsMidNext i c x j → IsSteady j
    steady-at j m =
        ⊎_elim
        (λ (e : (store_of j).chain_next c ≡ (store_of i).chain_next c). steady-by j (prefix ++ c ∷ suffix) m (path-old j m.only e) l.has)
        (λ (e : (store_of j).chain_next c ≡ x). steady-by j (prefix ++ c ∷ skip test suffix) m (path-new j m.only e) (has-suffix b prefix c suffix l.has))
        m.chain_next

    updated-to : Along (HoldsTheSame from) i (sealed_steps i c ((4, x) ∷ [])) × IsRelinked i b prefix c suffix x (after (sealed_steps i c ((4, x) ∷ [])) i)
    updated-to =
        let steps : List TrailStep = sealed_steps i c ((4, x) ∷ []) in
        let j : Image = after steps i in
        let small = first-small i b (skip test suffix) leads in
        let each : Along (IsMidNext i c x) i steps = next-along i c x fields-c.fields fields-c.here fields-c.good small l.steady.well_formed l.steady.writable in
        let last : IsMidNext i c x j = until_last (IsMidNext i c x) (IsMidNext i c x) steps i each in
        let done : (store_of j).chain_next c ≡ x = next-done i c x fields-c.fields fields-c.here fields-c.good small l.steady.well_formed l.steady.writable in
        let holds : (k : Image) → IsMidNext i c x k → HoldsTheSame from k = λ k m. steady-holds k (steady-at k m) in (
          until_weaker2 (IsMidNext i c x) (HoldsTheSame from) (IsMidNext i c x) (HoldsTheSame from) steps i holds holds each,
          record {
            linking = record { steady = steady-at j last; path = path-new j last.only done; has = has-suffix b prefix c suffix l.has; kept_c = l.kept_c };
            chain_next = done;
            elsewhere = record {
              seals = record-sealed_next i c x fields-c.fields fields-c.here fields-c.good l.steady.writable;
              table = λ o e. sym (last.only.rest.table o);
              buckets = buckets-same i j c fields-c.fields fields-c.here last.only;
              chain_next = λ o y e of. elsewhere-chain_next i j c fields-c.fields fields-c.here last.only o y (ap (λ (h : ℕ). h == o) fields-c.in_bucket ∙ e) of;
            };
          },
        )

    relinked : Along (HoldsTheSame from) i (next_steps c x i) × IsRelinked i b prefix c suffix x (after (next_steps c x i) i)
    relinked =
        ⊎_elim
        (λ (e : ((store_of i).chain_next c == x) ≡ true). rw e (steady-holds i l.steady, already (eqb-true ((store_of i).chain_next c) x e)))
        (λ (e : ((store_of i).chain_next c == x) ≡ false). rw e updated-to)
        (cases_Bool ((store_of i).chain_next c == x))

  -- a bucket is made the chain of its kept records
  record IsMade (i : Image) (b : ℕ) (words : List ℕ) (j : Image) : Type 0 where
    steady : IsSteady j
    chain_is : IsChain (store_of j) b words
    elsewhere : Elsewhere i j b

  links : (cs : List ℕ) (i : Image) (b : ℕ) (prefix : List ℕ) (c : ℕ) (suffix : List ℕ) → IsLinking i b prefix c suffix → filter test suffix ≡ cs
      → Along (HoldsTheSame from) i (next_words_steps (c ∷ cs) i) × IsMade i b (prefix ++ c ∷ cs) (after (next_words_steps (c ∷ cs) i) i)
  links [] i b prefix c suffix l left =
      let none : skip test suffix ≡ [] = skip-none test suffix left in
      let zero_is : first_or 0 (skip test suffix) ≡ 0 = ap (first_or 0) none in
      let one : Along (HoldsTheSame from) i (next_steps c 0 i) × IsRelinked i b prefix c suffix 0 (after (next_steps c 0 i) i) =
      subst (λ (y : ℕ). Along (HoldsTheSame from) i (next_steps c y i) × IsRelinked i b prefix c suffix y (after (next_steps c y i) i)) zero_is (relinked i b prefix c suffix l) in
      let j : Image = after (next_steps c 0 i) i in
      let path : IsPath (store_of j) b (prefix ++ c ∷ []) = subst (λ (ws : List ℕ). IsPath (store_of j) b (prefix ++ c ∷ ws)) none one.1.linking.path in
      let made : IsMade i b (prefix ++ c ∷ []) j = record {
        steady = one.1.linking.steady;
        chain_is = record { linked = path-whole (store_of j) b ((store_of j).table b) (prefix ++ c ∷ []) path.linked (end-suffix (store_of j) ((store_of j).table b) prefix c ∙ one.1.chain_next); once = path.once };
        elsewhere = one.1.elsewhere;
      } in
      (until-append (HoldsTheSame from) (HoldsTheSame from) (next_steps c 0 i) [] i one.0 (steady-holds j made.steady), subst (IsMade i b (prefix ++ c ∷ [])) (sym (after-append (next_steps c 0 i) [] i)) made)
  links (d ∷ cs) i b prefix c suffix l left =
      let s : Starts test suffix d cs = skip-starts test suffix d cs left in
      let next_is : first_or 0 (skip test suffix) ≡ d = ap (first_or 0) s.is in
      let one : Along (HoldsTheSame from) i (next_steps c d i) × IsRelinked i b prefix c suffix d (after (next_steps c d i) i) =
      subst (λ (y : ℕ). Along (HoldsTheSame from) i (next_steps c y i) × IsRelinked i b prefix c suffix y (after (next_steps c y i) i)) next_is (relinked i b prefix c suffix l) in
      let j : Image = after (next_steps c d i) i in
      let line : prefix ++ c ∷ skip test suffix ≡ (prefix ++ c ∷ []) ++ d ∷ s.rest = ap (λ (ws : List ℕ). prefix ++ c ∷ ws) s.is ∙ sym (append-one prefix c (d ∷ s.rest)) in
      let on : IsLinking j b (prefix ++ c ∷ []) d s.rest = record {
        steady = one.1.linking.steady;
        path = subst (IsPath (store_of j) b) line one.1.linking.path;
        has = λ node k among is of. ap (λ (ws : List ℕ). is_among ws k.contents) (sym line) ∙ one.1.linking.has node k among is of;
        kept_c = of-test d s.good;
      } in
      let more = links cs j b (prefix ++ c ∷ []) d s.rest on s.left in
      let end : Image = after (next_words_steps (d ∷ cs) j) j in
      let made : IsMade i b (prefix ++ c ∷ d ∷ cs) end = record {
        steady = more.1.steady;
        chain_is = subst (IsChain (store_of end) b) (append-one prefix c (d ∷ cs)) more.1.chain_is;
        elsewhere = elsewhere-more i j end b one.1.elsewhere more.1.elsewhere;
      } in
      (until-append (HoldsTheSame from) (HoldsTheSame from) (next_steps c d i) (next_words_steps (d ∷ cs) j) i one.0 more.0, subst (IsMade i b (prefix ++ c ∷ d ∷ cs)) (sym (after-append (next_steps c d i) (next_words_steps (d ∷ cs) j) i)) made)

  -- ---- the word of the bucket

  -- nothing but the table changes
  table-only : (v : StoreView) (t : ℕ → ℕ) → OnlyLinks v (record v { table = t }) 0
  table-only v t = record { node_fields = λ x. refl; entry = λ x. refl; key_place = λ x e c h f n. refl; stored = λ n x c. refl }

  clear-of-zero : (x : ℕ) → IsClear (has_claim (claims_of 0)) x
  unfolding claims_of has_claim
  clear-of-zero x c h = refl

  bucket-steady : (i j : Image) (b x : ℕ) (words : List ℕ) → IsSteady i → BucketWritten i b x j → IsPath (store_of j) b words → Has b words → IsSteady j
  bucket-steady i j b x words s w path has = record {
    well_formed = w.well_formed;
    writable = w.writable;
    list = w.list ∙ s.list;
    loads = λ node k among is.
        let ok = s.loads node k among is in
        subst (λ (v : StoreView). load v held_rule node ≡ Ok k) (sym w.store)
        (load-linked (store_of i) (record (store_of i) { table = put (store_of i).table b x }) 0 (table-only (store_of i) (put (store_of i).table b x)) held_rule node k ok (inl (clear-of-zero k.contents)) (λ n. clear-of-zero (slice_index k.others n)) (chained node k ok among is));
  } where
    chained : (node : ℕ) (k : Loaded) → load (store_of i) held_rule node ≡ Ok k → is_among (walked from) node ≡ true → given node ≡ Some k → is_among (chain (record (store_of i) { table = put (store_of i).table b x }) (bucket-of k)).reached k.contents ≡ true
    chained node k ok among is =
        ⊎_elim
        (λ (e : (eqb b (bucket-of k) ≡ true) × (b ≡ bucket-of k)).
        subst (λ (v : StoreView). is_among (chain v (bucket-of k)).reached k.contents ≡ true) w.store
        (subst (λ (y : ℕ). is_among (chain (store_of j) y).reached k.contents ≡ true) e.1 (on-path (store_of j) b words path k.contents (has node k among is (sym e.1)))))
        (λ (e : (eqb b (bucket-of k) ≡ false) × _). ap (λ (c : Chain). is_among c.reached k.contents) (others-stay (store_of i) b (bucket-of k) x e.0) ∙ load-chained (store_of i) node k ok)
        (eqb_tells b (bucket-of k))

  -- the word of the bucket names the first of its kept records
  record IsLed (i : Image) (b x : ℕ) (words : List ℕ) (j : Image) : Type 0 where
    steady : IsSteady j
    path : IsPath (store_of j) b words
    table : (store_of j).table b ≡ x
    elsewhere : Elsewhere i j b

  module _ (i : Image) (b : ℕ) (below : b < 65536) (s : IsSteady i) where
    abbrev reached : List ℕ
    reached = (chain (store_of i) b).reached

    abbrev first : ℕ
    first = first_or 0 (skip test reached)

    was-path : IsPath (store_of i) b reached
    was-path = chain-path (store_of i) b

    has-all : Has b reached
    has-all node k among is of = subst (λ (y : ℕ). is_among (chain (store_of i) y).reached k.contents ≡ true) of (load-chained (store_of i) node k (s.loads node k among is))

    has-left : Has b (skip test reached)
    has-left node k among is of = skip-has test reached k.contents (test-of node k among is) (has-all node k among is of)

    first-leads : Path (store_of i) b first (skip test reached)
    first-leads = skip-path test (store_of i) b ((store_of i).table b) reached was-path.linked

    few-left : length (skip test reached) ≤ 2 ^ 24
    few-left = let a = skip-few test reached in let f = was-path.few in omega (arith, a, f)

    first-already : (store_of i).table b ≡ first → IsLed i b first (skip test reached) i
    first-already e = record {
      steady = s;
      path = record { linked = subst (λ (w : ℕ). Path (store_of i) b w (skip test reached)) (sym e) first-leads; once = skip-once test reached was-path.once; few = few-left };
      table = e;
      elsewhere = elsewhere-none i b;
    }

    first-new : (j : Image) → BucketWritten i b first j → KeepsRecordsSealed i j → IsLed i b first (skip test reached) j
    first-new j w seals =
        let here : (store_of j).table b ≡ first = ap (λ (v : StoreView). v.table b) w.store ∙ put-here (store_of i).table b first in
        let path : IsPath (store_of j) b (skip test reached) = record {
          linked = subst (λ (y : ℕ). Path (store_of j) b y (skip test reached)) (sym here)
              (subst (λ (v : StoreView). Path v b first (skip test reached)) (sym w.store) (path-table (store_of i) (put (store_of i).table b first) b first (skip test reached) first-leads));
          once = skip-once test reached was-path.once;
          few = few-left;
        } in
        record {
          steady = bucket-steady i j b first (skip test reached) s w path has-left;
          path = path;
          table = here;
          elsewhere = record {
            seals = seals;
            table = λ o e. ap (λ (v : StoreView). v.table o) w.store ∙ put-else (store_of i).table b first o e;
            buckets = λ o y. ap (λ (v : StoreView). is_of_bucket v o y) w.store;
            chain_next = λ o y e of. ap (λ (v : StoreView). v.chain_next y) w.store;
          };
        }

    led : Along (HoldsTheSame from) i (bucket_steps b first i) × IsLed i b first (skip test reached) (after (bucket_steps b first i) i)
    unfolding word_step
    led =
        ⊎_elim
        (λ (e : ((store_of i).table b == first) ≡ true). rw e (steady-holds i s, first-already (eqb-true ((store_of i).table b) first e)))
        (λ (e : ((store_of i).table b == first) ≡ false).
        let j : Image = after (word_step Index (place_of_bucket b) first) i in
        let w : BucketWritten i b first j = bucket-written i b first s.well_formed s.writable below (first-small i b (skip test reached) first-leads) in
        let end : IsLed i b first (skip test reached) j = first-new j w (word-keeps i (place_of_bucket b) first) in
        rw e ((steady-holds i s, steady-holds j end.steady), end))
        (cases_Bool ((store_of i).table b == first))

    -- the whole bucket
    made-by : (cs : List ℕ) → filter test reached ≡ cs → Along (HoldsTheSame from) i (chain_steps b cs i) × IsMade i b cs (after (chain_steps b cs i) i)
    made-by cs is = go cs is led where
      go : (cs : List ℕ) → filter test reached ≡ cs → Along (HoldsTheSame from) i (bucket_steps b first i) × IsLed i b first (skip test reached) (after (bucket_steps b first i) i)
          → Along (HoldsTheSame from) i (chain_steps b cs i) × IsMade i b cs (after (chain_steps b cs i) i)
      go [] is f =
          let none : skip test reached ≡ [] = skip-none test reached is in
          let zero_is : first ≡ 0 = ap (first_or 0) none in
          let g : Along (HoldsTheSame from) i (bucket_steps b 0 i) × IsLed i b 0 [] (after (bucket_steps b 0 i) i) =
          subst (λ (ws : List ℕ). Along (HoldsTheSame from) i (bucket_steps b (first_or 0 ws) i) × IsLed i b (first_or 0 ws) ws (after (bucket_steps b (first_or 0 ws) i) i)) none f in
          let j : Image = after (bucket_steps b 0 i) i in
          let made : IsMade i b [] j = record { steady = g.1.steady; chain_is = record { linked = g.1.table; once = tt }; elsewhere = g.1.elsewhere } in
          (until-append (HoldsTheSame from) (HoldsTheSame from) (bucket_steps b 0 i) [] i g.0 (steady-holds j made.steady), subst (IsMade i b []) (sym (after-append (bucket_steps b 0 i) [] i)) made)
      go (c ∷ cs) is f =
          let st : Starts test reached c cs = skip-starts test reached c cs is in
          let g : Along (HoldsTheSame from) i (bucket_steps b c i) × IsLed i b c (c ∷ st.rest) (after (bucket_steps b c i) i) =
          subst (λ (ws : List ℕ). Along (HoldsTheSame from) i (bucket_steps b (first_or 0 ws) i) × IsLed i b (first_or 0 ws) ws (after (bucket_steps b (first_or 0 ws) i) i)) st.is f in
          let j : Image = after (bucket_steps b c i) i in
          let on : IsLinking j b [] c st.rest = record {
            steady = g.1.steady;
            path = g.1.path;
            has = λ node k among is of. ap (λ (ws : List ℕ). is_among ws k.contents) (sym st.is) ∙ has-left node k among is of;
            kept_c = of-test c st.good;
          } in
          let more = links cs j b [] c st.rest on st.left in
          let end : Image = after (next_words_steps (c ∷ cs) j) j in
          let made : IsMade i b (c ∷ cs) end = record { steady = more.1.steady; chain_is = more.1.chain_is; elsewhere = elsewhere-more i j end b g.1.elsewhere more.1.elsewhere } in
          (until-append (HoldsTheSame from) (HoldsTheSame from) (bucket_steps b c i) (next_words_steps (c ∷ cs) j) i g.0 more.0, subst (IsMade i b (c ∷ cs)) (sym (after-append (bucket_steps b c i) (next_words_steps (c ∷ cs) j) i)) made)

  -- ---- all buckets

  steady-of : (i : Image) (b : ℕ) → HasChainsUpTo from b i → IsSteady i
  steady-of i b m = record { well_formed = m.holds.well_formed; writable = m.holds.writable; list = m.list; loads = m.loads }

  apart-lt : (o b : ℕ) → o < b → (b == o) ≡ false
  apart-lt o b below = ⊎_elim (λ (e : (eqb b o ≡ true) × (b ≡ o)). absurd (let same = e.1 in omega (arith, same, below))) (λ (e : (eqb b o ≡ false) × _). e.0) (eqb_tells b o)

  apart-gt : (o b : ℕ) → b < o → (b == o) ≡ false
  apart-gt o b above = ⊎_elim (λ (e : (eqb b o ≡ true) × (b ≡ o)). absurd (let same = e.1 in omega (arith, same, above))) (λ (e : (eqb b o ≡ false) × _). e.0) (eqb_tells b o)

  one-bucket : (i : Image) (b : ℕ) → b < 65536 → HasChainsUpTo from b i → Along (HoldsTheSame from) i (chain_steps b (kept_records from b) i) × HasChainsUpTo from (b + 1) (after (chain_steps b (kept_records from b) i) i)
  unfolding kept_records
  one-bucket i b below m =
      let words : List ℕ = kept_records from b in
      let same : filter test (chain (store_of i) b).reached ≡ words = ap (λ (c : Chain). filter test c.reached) (m.as_before b (omega arith)) in
      let one = made-by i b below (steady-of i b m) words same in
      let j : Image = after (chain_steps b words i) i in (
        one.0,
        record {
          holds = steady-holds j one.1.steady;
          list = one.1.steady.list;
          seals = keeps-more from i j m.seals one.1.elsewhere.seals;
          loads = one.1.steady.loads;
          mended = λ o under. ⊎_elim
              (λ (e : (eqb b o ≡ true) × (b ≡ o)). subst (λ (y : ℕ). IsChain (store_of j) y (kept_records from y)) e.1 one.1.chain_is)
              (λ (e : (eqb b o ≡ false) × (b ≢ o)). elsewhere-whole i j b o (kept_records from o) one.1.elsewhere e.0 (m.mended o (let ne = e.1 in under-then o b under ne)))
              (eqb_tells b o);
          as_before = λ o over. elsewhere-chain i j b o one.1.elsewhere (apart-gt o b (omega (arith, over))) ∙ m.as_before o (omega (arith, over));
        },
      ) where
        under-then : (o b : ℕ) → o < b + 1 → b ≢ o → o < b
        under-then o b under ne = omega (arith, under, ne)

  buckets : (count b : ℕ) (i : Image) → b + count ≤ 65536 → HasChainsUpTo from b i → Along (HoldsTheSame from) i (chains_steps (kept_records from) b count i) × HasChainsUpTo from (b + count) (after (chains_steps (kept_records from) b count i) i)
  buckets zero b i few m = (steady-holds i (steady-of i b m), subst (λ (n : ℕ). HasChainsUpTo from n i) (omega arith) m)
  buckets (suc count) b i few m =
      let one = one-bucket i b (omega (arith, few)) m in
      let j : Image = after (chain_steps b (kept_records from b) i) i in
      let more = buckets count (b + 1) j (omega (arith, few)) one.1 in (
        until-append (HoldsTheSame from) (HoldsTheSame from) (chain_steps b (kept_records from b) i) (chains_steps (kept_records from) (b + 1) count j) i one.0 more.0,
        subst (HasChainsUpTo from (b + suc count)) (sym (after-append (chain_steps b (kept_records from b) i) (chains_steps (kept_records from) (b + 1) count j) i)) (subst (λ (n : ℕ). HasChainsUpTo from n (after (chains_steps (kept_records from) (b + 1) count j) j)) (omega arith) more.1),
      )

pub chains-begin : ChainsBegin
chains-begin image well ready all = record {
  holds = record { well_formed = well; writable = ready; kept_same = refl; found_same = refl };
  list = refl;
  seals = keeps-none image;
  loads = (shown image well all).loads;
  mended = λ o below. absurd (let e = below in omega (arith, e));
  as_before = λ o over. refl;
}

pub buckets-mended : BucketsAreMended
buckets-mended from image bucket well all below m = one-bucket from well all image bucket below m

pub chains-end : ChainRepairsEnd
chains-end from image m = record { list = m.list; seals = m.seals; chains = m.mended }

pub chains-repaired : ChainsAreRepaired
unfolding chain_repair_steps
chains-repaired image well ready all =
    let whole = buckets image well all 65536 0 image (omega arith) (chains-begin image well ready all) in
    (whole.0, chains-end image (after (chain_repair_steps image) image) (subst (λ (n : ℕ). HasChainsUpTo image n (after (chain_repair_steps image) image)) (omega arith) whole.1))

-- ---- what is right already

unless-right : (word other : ℕ) (steps : List TrailStep) → word ≡ other → (if word == other then [] else steps) ≡ []
unless-right word other steps same = rw (eq-eqb word other same) refl

links-right : (image : Image) (bucket : ℕ) (words : List ℕ) (word : ℕ) → Linked (store_of image) bucket word words → (word ≡ first_or 0 words) × (next_words_steps words image ≡ [])
links-right image bucket [] word linked = (linked, refl)
links-right image bucket (w ∷ words) word linked =
    let rest = links-right image bucket words ((store_of image).chain_next w) linked.2 in
    let none : next_steps w (first_or 0 words) image ≡ [] = unless-right ((store_of image).chain_next w) (first_or 0 words) (sealed_steps image w ((4, first_or 0 words) ∷ [])) rest.0 in
    (linked.0, rw none rest.1)

pub none-to_link : WholeChainsNeedNoSteps
none-to_link image bucket words is =
    let right = links-right image bucket words ((store_of image).table bucket) is.linked in
    let none : bucket_steps bucket (first_or 0 words) image ≡ [] = unless-right ((store_of image).table bucket) (first_or 0 words) (word_step Index (place_of_bucket bucket) (first_or 0 words)) right.0 in
    rw none right.1

-- ---- where nothing that the store view shows changes

pub records-stay : KeptRecordsStay
unfolding kept_records
records-stay from image holds same bucket =
    ap (λ (ks : List Loaded). filter (is_kept_record ks) (chain (store_of image) bucket).reached) holds.kept_same ∙ ap (λ (c : Chain). filter (is_kept_record (kept from)) c.reached) (chain-same (store_of from) (store_of image) same bucket)

linked-stay : (v u : StoreView) → ShowsTheSame v u → (bucket word : ℕ) (words : List ℕ) → Linked v bucket word words → Linked u bucket word words
linked-stay v u same bucket word [] linked = linked
linked-stay v u same bucket word (w ∷ words) linked = (
  linked.0,
  of_bucket-same v u (λ x. same.store.entry x (λ c h. refl)) (λ x. same.store.chain_next x (λ c h. refl)) bucket w ∙ linked.1,
  subst (λ (x : ℕ). Linked u bucket x words) (same.store.chain_next w (λ c h. refl)) (linked-stay v u same bucket (v.chain_next w) words linked.2),
)

pub chains-stay : WholeChainsStay
chains-stay from image same bucket words is = record {
  linked = subst (λ (x : ℕ). Linked (store_of image) bucket x words) (same.table bucket) (linked-stay (store_of from) (store_of image) same bucket ((store_of from).table bucket) words is.linked);
  once = is.once;
}
