-- A consistent folder whose index has the version that is made now needs no repair.
use Rattle.std.proofs.Common.{inl, inr, ◌≡◌, ◌≢◌, ◌⊎◌, ◌^◌, length, ⊎_elim, ℕ, zero, suc, ◌+◌, ◌<◌, ◌≤◌, Bool, true, false, not, List, [], ◌∷◌, ◌++◌, Option, Some, None, Ok, Err, refl, ap, sym, ◌∙◌, subst, arith}
use Rattle.std.specs.Prelude.{◌==◌, ◌&&◌, map, is_some}
use Rattle.std.specs.Option.{option_map_or}
use Rattle.std.specs.List.{AllByRecursion, filter, filter_map, flat_map, cons_option, range_with_len, sum_by}
use Rattle.std.specs.declared.result.Result.{Result}
use Rattle.std.proofs.lemmas.Bool.{cases_Bool, and_parts, eq-eqb, eqb-true, or_left, or_right}
use Rattle.std.proofs.lemmas.Bool.Decides.{eqb_tells}
use Rattle.std.proofs.Math.Dec.{eqb}
use Rattle.spec_image.specs.Image.{Image, Index, byte}
use Rattle.spec_format.specs.Headers.{index_version, version_of}
use Rattle.spec_format.proofs.Counts.{counted-now}
use Rattle.spec_format.specs.BlockFiles.{is_among}
use Rattle.spec_folder.specs.ListView.{ListView, IsList, Distinct, Segment, last_or}
use Rattle.spec_folder.specs.Completion.{completed_list}
use Rattle.spec_folder.specs.Walk.{walk}
use Rattle.spec_folder.specs.View.{StoreView, NodeFields, list_of, store_of, view_of}
use Rattle.spec_folder.specs.Chains.{chain, chain_from, is_of_bucket, is_reached, file_and_block, IsChain}
use Rattle.spec_folder.specs.Loads.{Rule, held_rule, Loaded}
use Rattle.spec_folder.specs.Reasons.{Reason}
use Rattle.spec_folder.specs.Audit.{kept_of, judged, verdict, verdicts, verdict_on, with_verdict, tried, dropped_of, dropped_among, is_kept, kept_nodes, is_unlisted, unlisted_in, unlisted}
use Rattle.spec_folder.specs.Found.{charge_of, kept, dropped, completed}
use Rattle.spec_folder.specs.Sound.{EndsWhole, IsSound, CountersAgree, AreSealed, words_of}
use Rattle.spec_folder.specs.ListImages.{walked, completion_steps, HasListAtRest}
use Rattle.spec_image.specs.Steps.{TrailStep, after}
use Rattle.law_folder.proofs.states.Central.{walk-idle}
use Rattle.law_folder.proofs.chains.ChainWords.{IsShownOf, shown-of}
use Rattle.law_folder.proofs.walks.Kept.{tried-among, kept-nodes}
use Rattle.law_folder.proofs.walks.Loads.{load-then}
use Rattle.law_folder.proofs.lists.Walked.{walk-once}
use Rattle.law_recovery.specs.ChainRepair.{is_kept_record, kept_records, chain_steps, chains_steps, chain_repair_steps, KeepsAllWalked}
use Rattle.law_recovery.specs.ListRepair.{all_but, dropped_nodes, end_steps, removal_steps, list_repair_steps}
use Rattle.law_recovery.specs.LinkRepair.{MendedLinksNeedNoSteps}
use Rattle.law_recovery.proofs.Mended.{append-none}
use Rattle.law_recovery.proofs.Paths.{Path, IsPath}
use Rattle.law_recovery.specs.MendedLinks.{HasMendedLinks}
use Rattle.law_recovery.specs.Mended.{IsMended, SoundFoldersAreMended}
use Rattle.law_recovery.proofs.EndRepair.{IsWalked, walked-is}
use Rattle.law_recovery.proofs.ListRepair.{zero_bad, filter-without, none-to_end}
use Rattle.law_recovery.proofs.Paths.{chain-path, end_of, path-whole}
use Rattle.law_recovery.proofs.ChainRepair.{shown, given-some, test-of, none-to_link}

-- ---- lists

filter-id : (p : ℕ → Bool) (xs : List ℕ) → ((x : ℕ) → is_among xs x ≡ true → p x ≡ true) → filter p xs ≡ xs
filter-id p [] all = refl
filter-id p (x ∷ xs) all = rw (all x (or_left (x == x) (is_among xs x) (eq-eqb x x refl))) (ap (λ (ys : List ℕ). x ∷ ys) (filter-id p xs (λ y h. all y (or_right (x == y) (is_among xs y) h))))

empty-parts : {A : Type 0} (xs ys : List A) → xs ++ ys ≡ [] → (xs ≡ []) × (ys ≡ [])
empty-parts [] ys e = (refl, e)
empty-parts (x ∷ xs) ys e = cc

flat-empty : {A : Type 0} (f : ℕ → List A) (start count : ℕ) → flat_map f (range_with_len start count) ≡ [] → (b : ℕ) → start ≤ b → b < start + count → f b ≡ []
flat-empty f start zero e b low high = absurd (omega (arith, low, high))
flat-empty {A} f start (suc count) e b low high =
    let parts : (f start ≡ []) × (flat_map f (range_with_len (start + 1) count) ≡ []) = empty-parts {A = A} (f start) (flat_map f (range_with_len (start + 1) count)) e in
    ⊎_elim
    (λ (h : (eqb start b ≡ true) × (start ≡ b)). subst (λ (n : ℕ). f n ≡ []) h.1 parts.0)
    (λ (h : (eqb start b ≡ false) × (start ≢ b)). flat-empty {A = A} f (start + 1) count parts.1 b (let ne = h.1 in omega (arith, low, ne)) (omega (arith, high)))
    (eqb_tells start b)

filter-empty : (p : ℕ → Bool) (xs : List ℕ) → filter p xs ≡ [] → (x : ℕ) → is_among xs x ≡ true → p x ≡ false
filter-empty p [] e x among = cc
filter-empty p (y ∷ xs) e x among =
    ⊎_elim
    (λ (h : p y ≡ true). let bad : y ∷ filter p xs ≡ [] = rw h at e in absurd (cc))
    (λ (h : p y ≡ false). ⊎_elim
    (λ (t : (eqb y x ≡ true) × (y ≡ x)). ap p (sym t.1) ∙ h)
    (λ (t : (eqb y x ≡ false) × _). filter-empty p xs (rw h at e) x (rw t.0 at among))
    (eqb_tells y x))
    (cases_Bool (p y))

map-empty : {A : Type 0} (f : ℕ → A) (xs : List ℕ) → map f xs ≡ [] → xs ≡ []
map-empty f [] e = refl
map-empty f (x ∷ xs) e = cc

-- ---- verdicts

-- each node that is tried has a verdict
verdict-some : (store : StoreView) (rule : Rule) (so_far : List Loaded) (ts : List ℕ) (node : ℕ) → is_among ts node ≡ true → is_some (verdict_on (verdicts store rule so_far ts) node) ≡ true
unfolding verdicts
verdict-some store rule so_far [] node among = cc
verdict-some store rule so_far (t ∷ ts) node among =
    ⊎_elim
    (λ (h : (t == node) ≡ true). rw h refl)
    (λ (h : (t == node) ≡ false). rw h (verdict-some store rule (with_verdict so_far (verdict store rule so_far t)) ts node (rw h at among)))
    (cases_Bool (t == node))

none-dropped : (given : ℕ → Option (Result Loaded Reason)) (nodes : List ℕ) → filter_map (λ node. dropped_of node (given node)) nodes ≡ [] → (node : ℕ) → is_among nodes node ≡ true → dropped_of node (given node) ≡ None
none-dropped given [] e node among = cc
none-dropped given (x ∷ xs) e node among = go (dropped_of x (given x)) refl e (λ h there. none-dropped given xs h node there) where
  go : (o : Option (ℕ × Reason)) → dropped_of x (given x) ≡ o → cons_option o (filter_map (λ node. dropped_of node (given node)) xs) ≡ [] → (filter_map (λ node. dropped_of node (given node)) xs ≡ [] → is_among xs node ≡ true → dropped_of node (given node) ≡ None) → dropped_of node (given node) ≡ None
  go (Some d) is h more = absurd (cc)
  go None is h more = ⊎_elim
      (λ (t : (eqb x node ≡ true) × (x ≡ node)). subst (λ (n : ℕ). dropped_of n (given n) ≡ None) t.1 is)
      (λ (t : (eqb x node ≡ false) × _). more h (rw t.0 at among))
      (eqb_tells x node)

-- where none is dropped, all are kept
all-kept_of : (store : StoreView) (rule : Rule) (nodes : List ℕ) → Distinct nodes → dropped_among store rule nodes ≡ [] → kept_nodes store rule nodes ≡ nodes
unfolding dropped_among
all-kept_of store rule nodes once none = filter-id (is_kept store rule nodes) nodes (λ node among. each node (verdict_on (judged store rule nodes) node) (verdict-some store rule [] (tried store nodes) node (tried-among store nodes once node ∙ among)) (none-dropped (verdict_on (judged store rule nodes)) nodes none node among)) where
  each : (node : ℕ) (o : Option (Result Loaded Reason)) → is_some o ≡ true → dropped_of node o ≡ None → is_some (kept_of o) ≡ true
  each node None some is = cc
  each node (Some (Ok k)) some is = refl
  each node (Some (Err reason)) some is = absurd (cc)

-- ---- lists and chains that end

end-is : (store : StoreView) (b most : ℕ) (met : List ℕ) (w : ℕ) → end_of store w (chain_from store b most met w).reached ≡ (chain_from store b most met w).end
unfolding chain_from
end-is store b zero met w = refl
end-is store b (suc most) met w =
    ⊎_elim
    (λ (h : is_reached store b met w ≡ true). rw h (end-is store b most (file_and_block w ∷ met) (store.chain_next w)))
    (λ (h : is_reached store b met w ≡ false). rw h refl)
    (cases_Bool (is_reached store b met w))

-- a walk that ends as it has to is a whole list, where the tail is its last node
whole-of : (list : ListView) → list.checks 0 ≡ false → EndsWhole list → list.tail ≡ last_or 0 (walk list) → IsList list (walk list)
unfolding walk
whole-of list bad ends tail = go (walk list) (walked-is list.checks list.next list.prev 131072 [] list.head list.head) ends tail where
  go : (nodes : List ℕ) → IsWalked list.checks list.next list.prev 131072 [] list.head list.head nodes
      → ((nodes ≡ []) × (list.head ≡ 0) × (list.tail ≡ 0)) ⊎ ((0 < length nodes) × (list.next (last_or 0 nodes) ≡ last_or 0 nodes)) → list.tail ≡ last_or 0 nodes → IsList list nodes
  go [] is (inl e) tail = record { head_is = e.1; tail_is = e.2; linked = tt; distinct = tt; few = is.few; no_zero = bad }
  go [] is (inr e) tail = absurd (let l = e.0 in omega (arith, l))
  go (node ∷ nodes) is (inl e) tail = absurd (let bad : node ∷ nodes ≡ [] = e.0 in cc)
  go (node ∷ nodes) is (inr e) tail = record {
    head_is = sym is.first;
    tail_is = tail;
    linked = subst (λ (b : ℕ). Segment list.checks list.next list.prev b (node ∷ nodes) (last_or node nodes)) (sym is.first) (subst (λ (f : ℕ). Segment list.checks list.next list.prev list.head (node ∷ nodes) f) e.1 is.linked);
    distinct = is.distinct;
    few = is.few;
    no_zero = bad;
  }

-- ---- the folder

module _ (image : Image) (sound : IsSound image) where
  abbrev store : StoreView
  store = store_of image

  walk-now : walk (completed_list (list_of image)) ≡ walked image
  walk-now = walk-idle (list_of image) sound.transaction

  parts : (dropped_among store held_rule (walk (completed_list (list_of image))) ≡ []) × (unlisted (completed (view_of image)) ≡ [])
  unfolding dropped
  parts = empty-parts {A = ℕ × Reason} (dropped_among store held_rule (walk (completed_list (list_of image)))) (unlisted (completed (view_of image))) sound.nothing_dropped

  all-kept : kept_nodes store held_rule (walked image) ≡ walked image
  all-kept = all-kept_of store held_rule (walked image) (walk-once (list_of image)) (subst (λ (ns : List ℕ). dropped_among store held_rule ns ≡ []) walk-now parts.0)

  keeps-all : KeepsAllWalked image
  keeps-all = record { idle = sound.transaction; all_kept = all-kept }

  nodes-kept : map (λ (k : Loaded). k.node) (kept image) ≡ walked image
  unfolding kept
  nodes-kept = kept-nodes store held_rule (walk (completed_list (list_of image))) (walk-once (completed_list (list_of image))) ∙ ap (kept_nodes store held_rule) walk-now ∙ all-kept

  rests : HasListAtRest (walked image) image
  rests = record { whole = whole-of (list_of image) (zero_bad image) sound.list_end (sound.in_order.index.tail ∙ ap (last_or 0) nodes-kept); idle = sound.transaction }

  -- each record of a chain is kept
  record-kept : (b c : ℕ) → b < 65536 → is_among (chain store b).reached c ≡ true → is_kept_record (kept image) c ≡ true
  unfolding is_unlisted unlisted
  record-kept b c below among = go (shown-of store b c (on-bucket (chain store b).reached (store.table b) (chain-path store b).linked among)) where
    on-bucket : (xs : List ℕ) (w : ℕ) → Path store b w xs → is_among xs c ≡ true → is_of_bucket store b c ≡ true
    on-bucket [] w path h = cc
    on-bucket (x ∷ xs) w path h =
        ⊎_elim
        (λ (t : (eqb x c ≡ true) × (x ≡ c)). subst (λ (y : ℕ). is_of_bucket store b y ≡ true) t.1 path.1)
        (λ (t : (eqb x c ≡ false) × _). on-bucket xs (store.chain_next x) path.2 (rw t.0 at h))
        (eqb_tells x c)

    listed : is_unlisted (completed (view_of image)) c ≡ false
    listed = filter-empty (is_unlisted (completed (view_of image))) (chain store b).reached (map-empty {A = ℕ × Reason} _ (filter (is_unlisted (completed (view_of image))) (chain store b).reached) (flat-empty {A = ℕ × Reason} (unlisted_in (completed (view_of image))) 0 65536 parts.1 b (omega arith) (omega (arith, below)))) c among

    not_false : (t : Bool) → not t ≡ false → t ≡ true
    not_false true e = refl
    not_false false e = cc

    go : IsShownOf store b c → is_kept_record (kept image) c ≡ true
    go s =
        let test : (is_among (walk (completed_list (list_of image))) s.fields.rankings_node && option_map_or (λ (nf : NodeFields). nf.contents == c) (store.node_fields s.fields.rankings_node) false) ≡ true = not_false _ (rw s.here at listed) in
        let two = and_parts _ _ test in
        let node : ℕ = s.fields.rankings_node in
        let walks : is_among (walked image) node ≡ true = ap (λ (ns : List ℕ). is_among ns node) (sym walk-now) ∙ two.0 in
        let g = given-some image sound.well_formed keeps-all node walks in
        let ok = (shown image sound.well_formed keeps-all).loads node g.0 walks g.1 in
        subst (λ (w : ℕ). is_kept_record (kept image) w ≡ true) (load-then store held_rule node g.0 ok (λ n e f.
        f.facts.contents_is ∙ eqb-true n.contents c (ap (λ (o : Option NodeFields). option_map_or (λ (nf : NodeFields). nf.contents == c) o false) (sym f.node) ∙ two.1)))
        (test-of image sound.well_formed keeps-all node g.0 walks g.1)

  chains : (b : ℕ) → b < 65536 → IsChain store b (kept_records image b)
  unfolding kept_records
  chains b below =
      let path : IsPath store b (chain store b).reached = chain-path store b in
      let ends : end_of store (store.table b) (chain store b).reached ≡ 0 = end-is store b (2 ^ 24) [] (store.table b) ∙ sound.chain_ends b below in
      subst (IsChain store b) (sym (filter-id (is_kept_record (kept image)) (chain store b).reached (λ c among. record-kept b c below among)))
      (record { linked = path-whole store b (store.table b) (chain store b).reached path.linked ends; once = path.once })

  links-mended : HasMendedLinks image
  links-mended = record { well_formed = sound.well_formed; rests = rests; all_kept = all-kept; chains = chains }

  folder-mended : version_of (byte image Index) ≡ index_version → IsMended image
  folder-mended version = record {
    links = links-mended;
    files = record { maps = sound.owned.maps; counted = λ n linked. subst (λ (ks : List Loaded). CountersAgree image (flat_map words_of ks) n) (append-none (kept image)) (sound.in_order.counted n linked); long_enough = sound.in_order.long_enough };
    only = record { only_linked = sound.in_order.only_linked; only_claimed = sound.owned.only_claimed };
    sealed = subst (AllByRecursion (AreSealed image)) (append-none (kept image)) sound.in_order.sealed;
    counters = counted-now (byte image Index) (length (kept image)) (sum_by charge_of (kept image)) sound.in_order.index.counts version;
  }

pub sound-mended : SoundFoldersAreMended
sound-mended image sound version = folder-mended image sound version

-- ---- what is repaired needs no step

chains-none : (image : Image) (records : ℕ → List ℕ) → ((b : ℕ) → b < 65536 → chain_steps b (records b) image ≡ []) → (count b : ℕ) → b + count ≤ 65536 → chains_steps records b count image ≡ []
chains-none image records none zero b few = refl
chains-none image records none (suc count) b few = rw (none b (omega (arith, few))) (chains-none image records none count (b + 1) (omega (arith, few)))

not-filter : (p : ℕ → Bool) (xs : List ℕ) → filter p xs ≡ xs → Distinct xs → filter (λ x. not (p x)) xs ≡ []
not-filter p xs all once = filter-without p xs once ∙ ap (all_but xs) all ∙ without-self xs where
  without-self : (ys : List ℕ) → all_but ys ys ≡ []
  without-self [] = refl
  without-self (y ∷ ys) = rw (eq-eqb y y refl) (without-self ys)

-- three kinds of steps one after the other, where none of them is needed
three-none : (image : Image) (first : List TrailStep) (second third : Image → List TrailStep) → first ≡ [] → second image ≡ [] → third image ≡ [] → first ++ (second (after first image) ++ third (after (second (after first image)) (after first image))) ≡ []
three-none image first second third a b c =
    subst (λ (s : List TrailStep). s ++ (second (after s image) ++ third (after (second (after s image)) (after s image))) ≡ []) (sym a)
    (subst (λ (s : List TrailStep). s ++ third (after s image) ≡ []) (sym b) c)

two-none : (image : Image) (first : List TrailStep) (second : Image → List TrailStep) → first ≡ [] → second image ≡ [] → first ++ second (after first image) ≡ []
two-none image first second a b = subst (λ (s : List TrailStep). s ++ second (after s image) ≡ []) (sym a) b

list-none : (image : Image) → HasMendedLinks image → list_repair_steps image ≡ []
list-none image mended =
    let ends = none-to_end image (walked image) mended.rests in
    let drops : dropped_nodes image ≡ [] = not-filter (is_kept (store_of image) held_rule (walked image)) (walked image) mended.all_kept mended.rests.whole.distinct in
    three-none image (completion_steps image) end_steps (λ e. removal_steps (dropped_nodes e) e) ends.0 ends.1 (ap (λ (ns : List ℕ). removal_steps ns image) drops)

chain-none : (image : Image) → HasMendedLinks image → chain_repair_steps image ≡ []
unfolding chain_repair_steps
chain-none image mended = chains-none image (kept_records image) (λ b below. none-to_link image b (kept_records image b) (mended.chains b below)) 65536 0 (omega arith)

pub mended-none : MendedLinksNeedNoSteps
mended-none image mended = two-none image (list_repair_steps image) chain_repair_steps (list-none image mended) (chain-none image mended)
