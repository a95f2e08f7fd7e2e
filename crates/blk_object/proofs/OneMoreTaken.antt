-- One item more is taken out, while others of its object may be out already: what holds as its record is unlinked, and in the end, where what is left keeps its
-- checksums.
use Rattle.std.proofs.Common.{◌≡◌, ℕ, List, ◌∷◌, ◌++◌, refl, ap, sym, ◌∙◌, subst, arith, Bool, true, false, Option, Some, None, Ok, inl, inr, ⊎_elim, append_assoc}
use Rattle.std.specs.Prelude.{◌&&◌, ◌||◌, ◌==◌, filter, if◌then◌else◌, not}
use Rattle.std.specs.Option.{option_map_or}
use Rattle.std.specs.List.{AllByRecursion, cons_option, filter_map, flat_map}
use Rattle.std.specs.List.Sorted.{IsPermutation}
use Rattle.std.proofs.lemmas.Bool.{and_parts, cases_Bool, eq-eqb, eqb-true}
use Rattle.std.proofs.lemmas.Grind.{flat_map-append}
use Rattle.std.proofs.lemmas.List.Sorted.{IsPermutation-append_right, IsPermutation-trans}
use Rattle.spec_image.proofs.Footprints.{outside_wider, within_left}
use Rattle.spec_image.proofs.Runs.{some_inj}
use Rattle.spec_image.specs.Footprint.{SameOutside}
use Rattle.spec_image.specs.Image.{Image}
use Rattle.blk_model.proofs.Same.{one_item, same_item_self}
use Rattle.blk_model.specs.Items.{Item, same_item}
use Rattle.blk_model.specs.State.{State}
use Rattle.spec_format.specs.Address.{blocks_256, rankings}
use Rattle.spec_format.specs.BlockFiles.{is_among, stands_in}
use Rattle.spec_format.specs.Claims.{Claim, claims_of, claims_of_all, has_claim, repeats}
use Rattle.spec_format.specs.Hash.{hash}
use Rattle.spec_format.specs.Records.{entry_in, entry_is_sealed}
use Rattle.spec_format.specs.Sealed.{record_range}
use Rattle.spec_format.specs.Address.{place}
use Rattle.spec_folder.specs.Chains.{bucket_of_hash}
use Rattle.spec_folder.specs.Completion.{remove}
use Rattle.spec_folder.specs.Footprint.{IsOnlyRecord}
use Rattle.spec_folder.specs.Layout.{HoldsExcept, Layout, is_in, is_listed, nodes_of, rule_of}
use Rattle.spec_folder.specs.ListPlans.{writes_of}
use Rattle.spec_folder.specs.ListSteps.{touched_by_writes}
use Rattle.spec_folder.specs.ListView.{IsAtRest, ListView, ListWrite}
use Rattle.spec_folder.specs.Loads.{Loaded, all_claims, load}
use Rattle.spec_folder.specs.Sound.{AreSealed, words_of}
use Rattle.spec_folder.specs.Tidy.{doomed_nodes, loaded_at}
use Rattle.spec_folder.specs.View.{list_of, store_of}
use Rattle.law_folder.proofs.claims.Allocations.{words-claims, words-stand, join}
use Rattle.law_folder.proofs.claims.ByteChanges.{stands-some}
use Rattle.law_folder.proofs.claims.ClaimLists.{claim-append, contents-claims, repeats-append, some-claim}
use Rattle.law_folder.proofs.commands.Opening.{IsAround, around}
use Rattle.law_folder.proofs.commands.Removing.{in-filter}
use Rattle.law_folder.proofs.lists.ListCompletions.{listed}
use Rattle.law_folder.proofs.lists.WordTurns.{removals-can}
use Rattle.law_folder.proofs.states.Laid.{IsNodeOf, node-of}
use Rattle.law_folder.proofs.states.OthersHold.{chained-only, more-left_out, others-outside, others-unlinked, records-outside, records-unlinked}
use Rattle.law_folder.proofs.states.Tidying.{counter-same, record-bytes, touch_range, touch_sizes, touch_spares}
use Rattle.law_folder.proofs.updates.StillShown.{standing-parts}
use Rattle.law_state.specs.Arranging.{LeavesFiles}
use Rattle.law_state.specs.GroupLaws.{gone_nodes, owners_without}
use Rattle.law_state.specs.Keeping.{words_in_use}
use Rattle.law_state.specs.PartlyOut.{KeepsPartlyOut, chains_but, keeps_but, left_nodes}
use Rattle.law_state.specs.PartlyOutStops.{LeavesOtherKeys}
use Rattle.law_state.specs.RemovalLaws.{IsRemovalDone, IsUnlinking}
use Rattle.law_state.specs.Changes.{Finds}
use Rattle.law_state.proofs.OneMoreOut.{files-alike}
use Rattle.law_state.proofs.WordStops.{out-doomed}
use Rattle.blk_model.specs.Effects.{doomed}
use Rattle.blk_model.specs.Holding.{rest}
use Rattle.blk_model.specs.State.{Object, object_at}
use Rattle.law_state.proofs.NextOut as next
use Rattle.law_state.proofs.Free.{AreStanding, session-same, standing-loaded}
use Rattle.law_state.proofs.Groups as groups
use Rattle.law_state.proofs.Headers.{files-same, stand-same}
use Rattle.law_state.proofs.Leaving.{leaves-files, leaves-then}
use Rattle.law_state.proofs.Removals.{from-filtered, in-filtered}
use Rattle.law_state.proofs.Touched.{node-to-front, to-front, words_at}

module _ (state : State) (layout : Layout) (keep : Item → Bool) (chains : ℕ → List ℕ) (unlinked : List ℕ) (item : Item) (was : Loaded) (from between image : Image) (k : KeepsPartlyOut state layout keep chains unlinked from) (there : is_listed state item ≡ true) (stays : keep item ≡ true)
    (here : layout.at (layout.place item) ≡ Some was) (unlisted : IsRemovalDone from (layout.place item) between) (unlinking : IsUnlinking (record layout { chains = chains }) (chains_but chains was.contents) between image) where
  abbrev node : ℕ
  node = layout.place item

  abbrev less : Item → Bool
  less = keeps_but keep item

  abbrev gone : List ℕ
  gone = gone_nodes state layout keep

  abbrev more : List ℕ
  more = gone_nodes state layout less

  abbrev a : IsAround item state.uses
  a = around item state.uses there (k.valid.once item)

  abbrev prefix : List ℕ
  prefix = nodes_of layout (filter keep a.before)

  abbrev suffix : List ℕ
  suffix = nodes_of layout (filter keep a.suffix)

  abbrev dead : List ℕ
  dead = doomed_nodes layout k.numbers

  old-nodes : nodes_of layout (filter keep state.uses) ≡ prefix ++ node ∷ suffix
  old-nodes = next.old-nodes state layout keep item k.valid there stays

  new-nodes : nodes_of layout (filter less state.uses) ≡ prefix ++ suffix
  new-nodes = next.new-nodes state layout keep item k.valid there stays

  old-rest : IsAtRest (list_of from) (prefix ++ node ∷ suffix)
  old-rest = subst (IsAtRest (list_of from)) old-nodes k.list

  new-rest : IsAtRest (list_of image) (nodes_of layout (filter less state.uses))
  new-rest = subst (λ (ls : ListView). IsAtRest ls (nodes_of layout (filter less state.uses))) (sym unlinking.list) (subst (IsAtRest (list_of between)) (sym new-nodes) (unlisted.removed prefix suffix old-rest))

  -- which nodes are out now
  here-stays : is_among gone node ≡ false
  here-stays = groups.stay-apart state layout keep k.numbers k.lies k.owners node (groups.stays-in state layout keep k.numbers k.lies k.owners item there stays)

  goes-too : is_among more node ≡ true
  goes-too = groups.goes state layout less k.numbers k.lies k.owners item there (ap (λ (b : Bool). keep item && not b) (same_item_self item) ∙ and-false (keep item)) where
    and-false : (b : Bool) → (b && false) ≡ false
    and-false true = refl
    and-false false = refl

  larger : (n : ℕ) → is_among gone n ≡ true → is_among more n ≡ true
  larger n out =
      let i : IsNodeOf layout (filter (λ j. not (keep j)) state.uses) n = node-of layout (filter (λ j. not (keep j)) state.uses) n out in
      let both = and_parts (not (keep i.item)) (is_in state.uses i.item) (sym (in-filter (λ j. not (keep j)) state.uses i.item) ∙ i.among) in
      subst (λ (x : ℕ). is_among more x ≡ true) i.is (groups.goes state layout less k.numbers k.lies k.owners i.item both.1 (not-kept (keep i.item) (same_item item i.item) both.0))
    where
      not-kept : (b c : Bool) → not b ≡ true → (b && not c) ≡ false
      not-kept true c e = absurd (let z : false ≡ true = e in cc)
      not-kept false c e = refl

  smaller : (n : ℕ) → is_among more n ≡ false → (is_among gone n ≡ false) × ((node == n) ≡ false)
  smaller n kept = (
    ⊎_elim (λ (e : is_among gone n ≡ true). absurd (let z : true ≡ false = sym (larger n e) ∙ kept in cc)) (λ (e : is_among gone n ≡ false). e) (cases_Bool (is_among gone n)),
    ⊎_elim (λ (e : (node == n) ≡ true). absurd (let z : true ≡ false = sym goes-too ∙ ap (is_among more) (eqb-true node n e) ∙ kept in cc)) (λ (e : (node == n) ≡ false). e) (cases_Bool (node == n)),
  )

  -- a node that is out now was out, or is the item's
  which : (n : ℕ) → is_among more n ≡ true → (is_among gone n ≡ false) → node ≡ n
  which n out kept =
      let i : IsNodeOf layout (filter (λ j. not (less j)) state.uses) n = node-of layout (filter (λ j. not (less j)) state.uses) n out in
      let both = and_parts (not (less i.item)) (is_in state.uses i.item) (sym (in-filter (λ j. not (less j)) state.uses i.item) ∙ i.among) in
      ⊎_elim
      (λ (e : same_item item i.item ≡ true). ap layout.place (one_item item i.item e) ∙ i.is)
      (λ (e : same_item item i.item ≡ false).
      let not-kept : keep i.item ≡ false = neither (keep i.item) (same_item item i.item) both.0 e in
      absurd (let z : true ≡ false = sym (subst (λ (x : ℕ). is_among gone x ≡ true) i.is (groups.goes state layout keep k.numbers k.lies k.owners i.item both.1 not-kept)) ∙ kept in cc))
      (cases_Bool (same_item item i.item))
    where
      neither : (b c : Bool) → not (b && not c) ≡ true → c ≡ false → b ≡ false
      neither true true e f = absurd (let z : true ≡ false = f in cc)
      neither true false e f = absurd (let z : false ≡ true = e in cc)
      neither false c e f = refl

  -- what is left
  abbrev chained_layout : Layout
  chained_layout = record layout { chains = chains }

  loads-left : (n : ℕ) (l : Loaded) → layout.at n ≡ Some l → is_among gone n ≡ false → load (store_of from) (rule_of layout n) n ≡ Ok l
  loads-left n l is kept = k.holds.each n l is kept

  other-record : (n : ℕ) (l : Loaded) → layout.at n ≡ Some l → (node == n) ≡ false → (l.contents == was.contents) ≡ false
  other-record n l is apart = ⊎_elim
      (λ (e : (l.contents == was.contents) ≡ true).
      let stands = standing-parts from blocks_256 was.contents (standing-loaded from layout node was (loads-left node was here here-stays)).record_ in
      let c = some-claim was.contents (stands-some from was.contents stands.0) in
      let mine : layout.owner c.0 ≡ Some node = k.lies.own node was c.0 here (contents-claims was c.0 c.1) in
      let its : layout.owner c.0 ≡ Some n = k.lies.own n l c.0 is (contents-claims l c.0 (ap (λ (x : ℕ). has_claim (claims_of x) c.0) (eqb-true l.contents was.contents e) ∙ c.1)) in
      absurd (let z : true ≡ false = sym (eq-eqb node n (some_inj (sym mine ∙ its))) ∙ apart in cc))
      (λ (e : (l.contents == was.contents) ≡ false). e)
      (cases_Bool (l.contents == was.contents))

  between-holds : HoldsExcept (is_among more) (store_of between) state chained_layout
  between-holds = others-outside (λ claim. false) (is_among more) (store_of from) (store_of between) state chained_layout (more-left_out (is_among gone) (is_among more) (store_of from) state chained_layout k.holds larger)
      unlisted.partly.shown.store.store unlisted.partly.shown.store.table (λ c n own e. refl) (λ b c small among claim has. refl)

  only-record : IsOnlyRecord unlinking.word chained_layout
  only-record = chained-only state layout k.lies unlinking.bucket unlinking.word unlinking.small (k.chained unlinking.bucket unlinking.word unlinking.small unlinking.chained)

  holds-now : HoldsExcept (is_among more) (store_of image) state (record layout { chains = chains_but chains was.contents })
  holds-now = others-unlinked (is_among more) (store_of between) (store_of image) state chained_layout between-holds unlinking.word unlinking.only only-record (chains_but chains was.contents)
      (record { whole = unlinking.whole; chained = λ n l ordered is kept. let p = smaller n kept in in-filtered was.contents (chains (bucket_of_hash (hash l.key))) l.contents (other-record n l is p.1) (k.holds.chained n l ordered is p.0) })

  -- and each node that was left loads as it did, that of the item too
  pub still-loads : (n : ℕ) (l : Loaded) → layout.at n ≡ Some l → is_among gone n ≡ false → load (store_of image) (rule_of layout n) n ≡ Ok l
  still-loads n l is kept =
      let loads : load (store_of between) (rule_of layout n) n ≡ Ok l = records-outside (λ claim. false) (store_of from) (store_of between) (layout.state n) n l (loads-left n l is kept) unlisted.partly.shown.store.store (λ claim has. refl) in
      records-unlinked (store_of between) (store_of image) (layout.state n) n unlinking.word l loads (k.lies.single n l is) unlinking.only (⊎_elim
      (λ (e : (l.contents == unlinking.word) ≡ true). inl (eqb-true l.contents unlinking.word e))
      (λ (e : (l.contents == unlinking.word) ≡ false). inr (λ c has. ⊎_elim
      (λ (h : has_claim (claims_of unlinking.word) c ≡ true). let p : l.contents ≡ unlinking.word = only-record c n l h (k.lies.own n l c is has) is in absurd (let z : true ≡ false = sym (eq-eqb l.contents unlinking.word p) ∙ e in cc))
      (λ (h : has_claim (claims_of unlinking.word) c ≡ false). h)
      (cases_Bool (has_claim (claims_of unlinking.word) c))))
      (cases_Bool (l.contents == unlinking.word)))

  -- so the durable contents with its object doomed are recovered
  pub out-finds : (number : ℕ) (object : Object) → object_at state number ≡ Some object → LeavesOtherKeys object.key less → Finds (rest (doomed number state (Some object))) image
  out-finds number object at others = out-doomed state (record layout { chains = chains_but chains was.contents }) number object less image k.valid at (record {
    sound = unlinking.headers.sound (unlisted.partly.headers.sound k.sound);
    except = is_among more;
    holds = holds-now;
    out = others.out;
    others = others.others;
    there = λ i among kept. groups.stay-apart state layout less k.numbers k.lies k.owners (layout.place i) (groups.stays-in state layout less k.numbers k.lies k.owners i among kept);
    list = new-rest;
  })

  -- what the removal from the list touches
  abbrev writes : List ListWrite
  writes = writes_of remove node (list_of from)

  outside : SameOutside (touch_range writes node) from between
  outside = outside_wider (touched_by_writes writes) (touch_range writes node) from between (within_left (touched_by_writes writes) (record_range node)) unlisted.partly.outside

  -- checksums stay
  pub between-sealed : (l : Loaded) → AreStanding from l → AreSealed from l → AreSealed between l
  between-sealed l stands s = record {
    node = unlisted.sealed l.node (standing-parts from rankings l.node stands.node).1 s.node;
    entry = ap (λ (g : ℕ → ℕ). entry_is_sealed (entry_in g (place l.contents))) (record-bytes from between writes node outside (removals-can from node prefix suffix old-rest).nodes (listed node (list_of from) prefix suffix old-rest.whole).good l.contents stands.record_) ∙ s.entry;
  }

  -- in the end
  module _ (leaves_files : LeavesFiles between image) (seals : (n : ℕ) (l : Loaded) → layout.at n ≡ Some l → is_among gone n ≡ false → AreSealed between l → AreSealed image l) where
    -- files
    pub leaves : LeavesFiles from image
    leaves = leaves-then from between image (leaves-files (touch_range writes node) from between (touch_spares writes node) (touch_sizes writes node) outside
        (record { crash = counter-same writes node from between outside 32 (omega arith); id = counter-same writes node from between outside 20 (omega arith) }) unlisted.partly.headers) leaves_files

    same-words : IsPermutation (words_in_use unlinked (loaded_at layout (left_nodes state layout keep k.numbers))) (words_in_use (words_of was ++ unlinked) (loaded_at layout (left_nodes state layout less k.numbers)))
    same-words =
        let rest = words_at layout.at (prefix ++ (suffix ++ dead)) in
        let old : left_nodes state layout keep k.numbers ≡ prefix ++ node ∷ (suffix ++ dead) = ap (λ (ns : List ℕ). ns ++ dead) old-nodes ∙ append_assoc prefix (node ∷ suffix) dead in
        let new : left_nodes state layout less k.numbers ≡ prefix ++ (suffix ++ dead) = ap (λ (ns : List ℕ). ns ++ dead) new-nodes ∙ append_assoc prefix suffix dead in
        let first : words_at layout.at (node ∷ prefix ++ (suffix ++ dead)) ≡ words_of was ++ rest = ap (λ (q : Option Loaded). flat_map words_of (cons_option q (filter_map layout.at (prefix ++ (suffix ++ dead))))) here in
        subst (λ (ns : List ℕ). IsPermutation (unlinked ++ words_at layout.at ns) ((words_of was ++ unlinked) ++ words_at layout.at (left_nodes state layout less k.numbers))) (sym old)
        (subst (λ (ns : List ℕ). IsPermutation (unlinked ++ words_at layout.at (prefix ++ node ∷ (suffix ++ dead))) ((words_of was ++ unlinked) ++ words_at layout.at ns)) (sym new)
        (IsPermutation-trans (unlinked ++ words_at layout.at (prefix ++ node ∷ (suffix ++ dead))) (unlinked ++ (words_of was ++ rest)) ((words_of was ++ unlinked) ++ rest)
        (IsPermutation-append_right unlinked (words_at layout.at (prefix ++ node ∷ (suffix ++ dead))) (words_of was ++ rest) (subst (IsPermutation (words_at layout.at (prefix ++ node ∷ (suffix ++ dead)))) first (node-to-front layout.at prefix node (suffix ++ dead))))
        (subst (IsPermutation (unlinked ++ (words_of was ++ rest))) (sym (append_assoc (words_of was) unlinked rest)) (to-front unlinked (words_of was) rest))))

    -- unlinked words
    stood : AllByRecursion (λ w. stands_in from w ≡ true) (words_of was ++ unlinked)
    stood = join (λ w. stands_in from w ≡ true) (words_of was) unlinked (words-stand from was (rule_of layout node, node, loads-left node was here here-stays)) k.stand

    was-free : (claim : Claim) (q : Option ℕ) → layout.owner claim ≡ q → (if option_map_or (is_among gone) q false then None else q) ≡ None → owners_without layout more claim ≡ None
    was-free claim None e f = rw e refl
    was-free claim (Some n) e f = ⊎_elim
        (λ (h : is_among gone n ≡ true). let out = larger n h in rw (e, out) refl)
        (λ (h : is_among gone n ≡ false). let z : ◌≡◌ {A = Option ℕ} (Some n) None = rw h at f in absurd (cc))
        (cases_Bool (is_among gone n))

    parts-of : (claim : Claim) → has_claim (claims_of_all (words_of was ++ unlinked)) claim ≡ (has_claim (all_claims was) claim || has_claim (claims_of_all unlinked) claim)
    parts-of claim = ap (λ (cs : List Claim). has_claim cs claim) (flat_map-append claims_of (words_of was) unlinked ∙ ap (λ (cs : List Claim). cs ++ claims_of_all unlinked) (words-claims was)) ∙ claim-append (all_claims was) (claims_of_all unlinked) claim

    free : (claim : Claim) → has_claim (claims_of_all (words_of was ++ unlinked)) claim ≡ true → owners_without layout more claim ≡ None
    free claim has = ⊎_elim
        (λ (e : has_claim (all_claims was) claim ≡ true). let mine = k.lies.own node was claim here e in rw (mine, goes-too) refl)
        (λ (e : has_claim (all_claims was) claim ≡ false). was-free claim (layout.owner claim) refl (k.free claim (let both : (has_claim (all_claims was) claim || has_claim (claims_of_all unlinked) claim) ≡ true = sym (parts-of claim) ∙ has in rw e at both)))
        (cases_Bool (has_claim (all_claims was) claim))

    single : repeats (claims_of_all (words_of was ++ unlinked)) ≡ false
    single = ap repeats (flat_map-append claims_of (words_of was) unlinked ∙ ap (λ (cs : List Claim). cs ++ claims_of_all unlinked) (words-claims was))
        ∙ repeats-append (all_claims was) (claims_of_all unlinked) (k.lies.single node was here) k.single
        (λ c its other.
        let none : owners_without layout gone c ≡ None = k.free c other in
        let mine = k.lies.own node was c here its in
        let kept = here-stays in
        let z : ◌≡◌ {A = Option ℕ} (Some node) None = rw (mine, kept) at none in cc)

    -- checksums stay, those of the node and of the record of another item
    pub still-sealed : (n : ℕ) (l : Loaded) → layout.at n ≡ Some l → is_among gone n ≡ false → AreSealed image l
    still-sealed n l is kept =
        seals n l is kept (between-sealed l (standing-loaded from layout n l (loads-left n l is kept)) (k.sealed n l is kept))

    pub one-more-out : KeepsPartlyOut state layout less (chains_but chains was.contents) (words_of was ++ unlinked) image
    one-more-out = record {
      valid = k.valid;
      sound = leaves.well_formed.sound k.sound;
      lies = k.lies;
      list = new-rest;
      holds = holds-now;
      chained = λ bucket contents small among. k.chained bucket contents small (from-filtered was.contents (chains bucket) contents among).1;
      out = λ bucket contents small among n other gone_now is.
          let p = from-filtered was.contents (chains bucket) contents among in
          ⊎_elim
          (λ (e : is_among gone n ≡ true). k.out bucket contents small p.1 n other e is)
          (λ (e : is_among gone n ≡ false).
          let same : was ≡ other = some_inj (sym here ∙ ap layout.at (which n gone_now e) ∙ is) in
          ap (λ (x : Loaded). contents == x.contents) (sym same) ∙ p.0)
          (cases_Bool (is_among gone n));
      numbers = k.numbers;
      owners = k.owners;
      files = files-alike image _ _ same-words (files-same from image leaves.headers _ k.sound k.files);
      stand = stand-same from image leaves.headers (words_of was ++ unlinked) stood;
      free = free;
      single = single;
      sealed = λ n l is kept. still-sealed n l is (smaller n kept).0;
      session = session-same from image state layout leaves.session k.session;
    }
