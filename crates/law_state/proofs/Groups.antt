-- Several items are removed from the LRU list and unlinked from the chains.
use Rattle.std.proofs.Common.{◌≡◌, ℕ, ◌<◌, List, [], ◌∷◌, ◌++◌, refl, ap, sym, ◌∙◌, subst, Bool, true, false, Option, Some, None, ⊎_elim, append_assoc}
use Rattle.std.specs.Prelude.{◌||◌, ◌&&◌, ◌==◌, not, filter, IfSome, if◌then◌else◌}
use Rattle.std.specs.Option.{option_map_or}
use Rattle.std.specs.List.{AllByRecursion, cons_option, filter_map, flat_map}
use Rattle.std.specs.List.Sorted.{IsPermutation}
use Rattle.std.proofs.lemmas.Bool.{and_parts, cases_Bool, eq-eqb, or_left, or_right}
use Rattle.std.proofs.lemmas.Grind.{flat_map-append}
use Rattle.std.proofs.lemmas.List.Sorted.{All-permutation, IsPermutation-append_left, IsPermutation-append_right, IsPermutation-refl, IsPermutation-trans}
use Rattle.spec_image.proofs.Runs.{some_inj}
use Rattle.spec_image.specs.Image.{Image, Index, byte}
use Rattle.blk_model.proofs.Same.{same_item_self}
use Rattle.blk_model.specs.Items.{Item, main, same_item}
use Rattle.blk_model.specs.State.{State, Object, object_at}
use Rattle.blk_model.specs.Totals.{is_doomed_slot}
use Rattle.spec_format.specs.BlockFiles.{is_among, stands_in}
use Rattle.spec_format.specs.Claims.{Claim, claims_of, claims_of_all, has_claim, repeats}
use Rattle.spec_format.specs.Headers.{table_length, this_id_of}
use Rattle.spec_format.proofs.Among.{is_among-append}
use Rattle.spec_folder.specs.Layout.{HoldsExcept, IsLayoutOf, IsListedRecord, Layout, Represents, is_in, is_listed, nodes_of, order}
use Rattle.spec_folder.specs.ListView.{Distinct}
use Rattle.spec_folder.specs.Loads.{Loaded, all_claims}
use Rattle.spec_folder.specs.Removal.{HasLess, without_items}
use Rattle.spec_folder.specs.Sound.{words_of}
use Rattle.spec_folder.specs.StandsFor.{IsOwner}
use Rattle.spec_folder.specs.Tidy.{doomed_nodes}
use Rattle.spec_folder.specs.View.{StoreView, store_of, view_of}
use Rattle.law_folder.proofs.claims.Allocations.{all-from, repeats-head, words-claims}
use Rattle.law_folder.proofs.states.Changing.{same-place}
use Rattle.law_folder.proofs.claims.ClaimLists.{claim-append, no-claim}
use Rattle.law_folder.proofs.states.Laid.{IsNodeOf, is_among-node, node-of}
use Rattle.law_folder.proofs.lists.Lists.{apart_left}
use Rattle.law_folder.proofs.commands.Removing.{in-filter}
use Rattle.law_folder.proofs.states.Settling.{main-listed}
use Rattle.law_folder.proofs.walks.Shown.{Distinct-filter}
use Rattle.std.proofs.lemmas.List.Elements.{filter-append}
use Rattle.law_folder.proofs.commands.Unlinking.{less-represented}
use Rattle.law_state.specs.Arranging.{IsArranged}
use Rattle.law_state.specs.GroupLaws.{AreOut, GoneItemsAreUnlinked, IsLess, at_without, gone_nodes, layout_less, owners_without}
use Rattle.law_state.specs.Keeping.{AreMarkedBy, AreOwners, KeepsUncounted, all_loaded, words_in_use}
use Rattle.law_state.proofs.Arranging.{arranged-once, arranged-stand, rearranged}
use Rattle.law_state.proofs.Claimed.{once-alike}
use Rattle.law_state.proofs.Headers.{stand-same}
use Rattle.law_state.proofs.NodeChanges.{all-to, first-of, is_dead, numbers-same}
use Rattle.law_state.proofs.Touched.{to-front, words-append, words_at}

-- ---- words of items that stay and of items that are removed

module _ (layout : Layout) (keep : Item → Bool) where
  abbrev w_of : List Item → List ℕ
  w_of items = words_at layout.at (nodes_of layout items)

  one-more : (i : Item) (items : List Item) → w_of (i ∷ items) ≡ words_at layout.at (layout.place i ∷ []) ++ w_of items
  one-more i items = words-append layout.at (layout.place i ∷ []) (nodes_of layout items)

  pub parted : (items : List Item) → IsPermutation (w_of items) (w_of (filter (λ i. not (keep i)) items) ++ w_of (filter keep items))
  parted [] = IsPermutation-refl []
  parted (i ∷ items) =
      let w = words_at layout.at (layout.place i ∷ []) in
      let gone = w_of (filter (λ j. not (keep j)) items) in
      let stay = w_of (filter keep items) in
      let first : IsPermutation (w_of (i ∷ items)) (w ++ (gone ++ stay)) = subst (λ (xs : List ℕ). IsPermutation xs (w ++ (gone ++ stay))) (sym (one-more i items)) (IsPermutation-append_right w (w_of items) (gone ++ stay) (parted items)) in
      ⊎_elim
      (λ (e : keep i ≡ true).
      let a : w_of (filter (λ j. not (keep j)) (i ∷ items)) ≡ gone = rw e refl in
      let b : w_of (filter keep (i ∷ items)) ≡ w ++ stay = ap w_of (let f : filter keep (i ∷ items) ≡ i ∷ filter keep items = rw e refl in f) ∙ one-more i (filter keep items) in
      subst (IsPermutation (w_of (i ∷ items))) (λ k. sym a k ++ sym b k) (IsPermutation-trans (w_of (i ∷ items)) (w ++ (gone ++ stay)) (gone ++ (w ++ stay)) first (to-front w gone stay)))
      (λ (e : keep i ≡ false).
      let a : w_of (filter (λ j. not (keep j)) (i ∷ items)) ≡ w ++ gone = ap w_of (let f : filter (λ j. not (keep j)) (i ∷ items) ≡ i ∷ filter (λ j. not (keep j)) items = rw e refl in f) ∙ one-more i (filter (λ j. not (keep j)) items) in
      let b : w_of (filter keep (i ∷ items)) ≡ stay = rw e refl in
      subst (IsPermutation (w_of (i ∷ items))) (λ k. sym a k ++ sym b k) (subst (IsPermutation (w_of (i ∷ items))) (sym (append_assoc w gone stay)) first))
      (cases_Bool (keep i))

-- whose a used block of what lies at nodes is
pub claimed-by : (layout : Layout) → ((n : ℕ) (l : Loaded) (c : Claim) → layout.at n ≡ Some l → has_claim (all_claims l) c ≡ true → layout.owner c ≡ Some n) → (ns : List ℕ) (c : Claim) → has_claim (claims_of_all (words_at layout.at ns)) c ≡ true → (n : ℕ) × ((is_among ns n ≡ true) × (layout.owner c ≡ Some n))
claimed-by layout own [] c e = absurd (let z : false ≡ true = sym (no-claim c) ∙ e in cc)
claimed-by layout own (n ∷ ns) c e = go (layout.at n) refl (λ h. claimed-by layout own ns c h) e where
  later : (m : ℕ) × ((is_among ns m ≡ true) × (layout.owner c ≡ Some m)) → (m : ℕ) × ((is_among (n ∷ ns) m ≡ true) × (layout.owner c ≡ Some m))
  later r = (r.0, (or_right (n == r.0) (is_among ns r.0) r.1.0, r.1.1))

  go : (o : Option Loaded) → layout.at n ≡ o → (has_claim (claims_of_all (words_at layout.at ns)) c ≡ true → (m : ℕ) × ((is_among ns m ≡ true) × (layout.owner c ≡ Some m)))
      → has_claim (claims_of_all (flat_map words_of (cons_option o (filter_map layout.at ns)))) c ≡ true → (m : ℕ) × ((is_among (n ∷ ns) m ≡ true) × (layout.owner c ≡ Some m))
  go None is more h = later (more h)
  go (Some l) is more h =
      let both : (has_claim (all_claims l) c || has_claim (claims_of_all (words_at layout.at ns)) c) ≡ true =
      sym (ap (λ (cs : List Claim). has_claim cs c) (flat_map-append claims_of (words_of l) (words_at layout.at ns) ∙ ap (λ (cs : List Claim). cs ++ claims_of_all (words_at layout.at ns)) (words-claims l)) ∙ claim-append (all_claims l) (claims_of_all (words_at layout.at ns)) c) ∙ h in
      ⊎_elim
      (λ (t : has_claim (all_claims l) c ≡ true). (n, (or_left (n == n) (is_among ns n) (eq-eqb n n refl), own n l c is t)))
      (λ (t : has_claim (all_claims l) c ≡ false). later (more (rw t at both)))
      (cases_Bool (has_claim (all_claims l) c))

-- what lies at nodes that stay
pub same-at : (layout : Layout) (gone ns : List ℕ) → ((n : ℕ) → is_among ns n ≡ true → is_among gone n ≡ false) → filter_map (at_without layout gone) ns ≡ filter_map layout.at ns
same-at layout gone [] apart = refl
same-at layout gone (n ∷ ns) apart =
    let here : at_without layout gone n ≡ layout.at n = (let e = apart n (or_left (n == n) (is_among ns n) (eq-eqb n n refl)) in rw e refl) in
    (λ i. cons_option (here i) (filter_map (at_without layout gone) ns)) ∙ ap (λ (ls : List Loaded). cons_option (layout.at n) ls) (same-at layout gone ns (λ m h. apart m (or_right (n == m) (is_among ns m) h)))

-- an item of a filtered list
record IsItemAt (state : State) (layout : Layout) (p : Item → Bool) (n : ℕ) : Type 0 where
  pub item : Item
  pub passes : p item ≡ true
  pub listed : is_listed state item ≡ true
  pub is : layout.place item ≡ n

module _ (state : State) (layout : Layout) (keep : Item → Bool) (numbers : List ℕ) (lies : IsLayoutOf state layout) (owners : AreOwners state layout numbers) where
  abbrev pub gone : List ℕ
  gone = gone_nodes state layout keep

  abbrev pub stay : List ℕ
  stay = nodes_of layout (filter keep state.uses)

  abbrev pub doomed_ones : List ℕ
  doomed_ones = doomed_nodes layout numbers

  both : {a b : Bool} → a ≡ true → b ≡ true → (a && b) ≡ true
  both p q = rw (p, q) refl

  item-at : (p : Item → Bool) (n : ℕ) → is_among (nodes_of layout (filter p state.uses)) n ≡ true → IsItemAt state layout p n
  item-at p n there =
      let a : IsNodeOf layout (filter p state.uses) n = node-of layout (filter p state.uses) n there in
      let all : (p a.item && is_in state.uses a.item) ≡ true = sym (in-filter p state.uses a.item) ∙ a.among in
      let parts = and_parts (p a.item) (is_in state.uses a.item) all in
      record { item = a.item; passes = parts.0; listed = parts.1; is = a.is }

  pub in-order : (p : Item → Bool) (n : ℕ) → is_among (nodes_of layout (filter p state.uses)) n ≡ true → is_among (order state layout) n ≡ true
  in-order p n there = let i = item-at p n there in subst (λ (x : ℕ). is_among (order state layout) x ≡ true) i.is (is_among-node layout state.uses i.item i.listed)

  pub goes : (i : Item) → is_listed state i ≡ true → keep i ≡ false → is_among gone (layout.place i) ≡ true
  goes i there e = is_among-node layout (filter (λ item. not (keep item)) state.uses) i (in-filter (λ item. not (keep item)) state.uses i ∙ both (ap not e) there)

  pub stays-in : (i : Item) → is_listed state i ≡ true → keep i ≡ true → is_among stay (layout.place i) ≡ true
  stays-in i there e = is_among-node layout (filter keep state.uses) i (in-filter keep state.uses i ∙ both e there)

  -- the items that stay are none of those that are removed
  pub stay-apart : (n : ℕ) → is_among stay n ≡ true → is_among gone n ≡ false
  stay-apart n there = ⊎_elim
      (λ (e : is_among gone n ≡ true).
      let i = item-at keep n there in
      let j = item-at (λ item. not (keep item)) n e in
      let same : i.item ≡ j.item = same-place state layout lies i.item j.item i.listed j.listed (i.is ∙ sym j.is) in
      absurd (let z : false ≡ true = ap not (sym i.passes ∙ ap keep same) ∙ j.passes in cc))
      (λ (e : is_among gone n ≡ false). e)
      (cases_Bool (is_among gone n))

  pub doomed-apart : (n : ℕ) → is_among doomed_ones n ≡ true → is_among gone n ≡ false
  doomed-apart n there = ⊎_elim
      (λ (e : is_among gone n ≡ true). absurd (let z : true ≡ false = sym (in-order (λ item. not (keep item)) n e) ∙ apart_left (order state layout) doomed_ones n owners.once there in cc))
      (λ (e : is_among gone n ≡ false). e)
      (cases_Bool (is_among gone n))

  pub left-apart : (n : ℕ) → is_among (stay ++ doomed_ones) n ≡ true → is_among gone n ≡ false
  left-apart n there = ⊎_elim
      (λ (e : is_among stay n ≡ true). stay-apart n e)
      (λ (e : is_among stay n ≡ false). doomed-apart n (let h : (is_among stay n || is_among doomed_ones n) ≡ true = sym (is_among-append stay doomed_ones n) ∙ there in rw e at h))
      (cases_Bool (is_among stay n))

  pub not-gone : (n : ℕ) (l : Loaded) → at_without layout gone n ≡ Some l → (is_among gone n ≡ false) × (layout.at n ≡ Some l)
  not-gone n l is = ⊎_elim
      (λ (e : is_among gone n ≡ true). let z : ◌≡◌ {A = Option Loaded} None (Some l) = rw e at is in absurd (cc))
      (λ (e : is_among gone n ≡ false). (e, (let s : layout.at n ≡ Some l = rw e at is in s)))
      (cases_Bool (is_among gone n))

  pub still-there : (n : ℕ) (l : Loaded) → is_among gone n ≡ false → layout.at n ≡ Some l → at_without layout gone n ≡ Some l
  still-there n l e is = rw e is

  pub still-owned : (c : Claim) (n : ℕ) → layout.owner c ≡ Some n → is_among gone n ≡ false → owners_without layout gone c ≡ Some n
  still-owned c n is e = rw (is, e) refl

  pub was-owned : (c : Claim) (n : ℕ) → owners_without layout gone c ≡ Some n → (is_among gone n ≡ false) × (layout.owner c ≡ Some n)
  was-owned c n is = go (layout.owner c) refl is where
    go : (q : Option ℕ) → layout.owner c ≡ q → (if option_map_or (is_among gone) q false then None else q) ≡ Some n → (is_among gone n ≡ false) × (layout.owner c ≡ Some n)
    go None q e = let z : ◌≡◌ {A = Option ℕ} None (Some n) = e in absurd (cc)
    go (Some m) q e = ⊎_elim
        (λ (h : is_among gone m ≡ true). let z : ◌≡◌ {A = Option ℕ} None (Some n) = rw h at e in absurd (cc))
        (λ (h : is_among gone m ≡ false). let z : ◌≡◌ {A = Option ℕ} (Some m) (Some n) = rw h at e in (ap (is_among gone) (sym (some_inj z)) ∙ h, q ∙ z))
        (cases_Bool (is_among gone m))

  pub in-stay : (n : ℕ) → is_among (order state layout) n ≡ true → is_among gone n ≡ false → is_among stay n ≡ true
  in-stay n there kept =
      let a : IsNodeOf layout state.uses n = node-of layout state.uses n there in
      ⊎_elim
      (λ (e : keep a.item ≡ true). subst (λ (x : ℕ). is_among stay x ≡ true) a.is (stays-in a.item a.among e))
      (λ (e : keep a.item ≡ false). absurd (let z : true ≡ false = sym (subst (λ (x : ℕ). is_among gone x ≡ true) a.is (goes a.item a.among e)) ∙ kept in cc))
      (cases_Bool (keep a.item))

  -- the words
  pub words-left : words_at (at_without layout gone) (stay ++ doomed_ones) ≡ words_at layout.at stay ++ words_at layout.at doomed_ones
  words-left = ap (flat_map words_of) (same-at layout gone (stay ++ doomed_ones) left-apart) ∙ words-append layout.at stay doomed_ones

  -- the nodes that are left are those of the old ones that aren't removed
  pub filtered : (items : List Item) → ((i : Item) → is_in items i ≡ true → is_listed state i ≡ true) → filter (λ n. not (is_among gone n)) (nodes_of layout items) ≡ nodes_of layout (filter keep items)
  filtered [] sub = refl
  filtered (i ∷ items) sub =
      let there = sub i (or_left (same_item i i) (is_in items i) (same_item_self i)) in
      let rest = filtered items (λ j h. sub j (or_right (same_item j i) (is_in items j) h)) in
      ⊎_elim
      (λ (e : keep i ≡ true). let a : is_among gone (layout.place i) ≡ false = stay-apart (layout.place i) (stays-in i there e) in rw (e, a) (ap (λ (ns : List ℕ). layout.place i ∷ ns) rest))
      (λ (e : keep i ≡ false). let a : is_among gone (layout.place i) ≡ true = goes i there e in rw (e, a) rest)
      (cases_Bool (keep i))

  pub all-stay : (ns : List ℕ) → ((n : ℕ) → is_among ns n ≡ true → is_among gone n ≡ false) → filter (λ n. not (is_among gone n)) ns ≡ ns
  all-stay [] apart = refl
  all-stay (n ∷ ns) apart = let e = apart n (or_left (n == n) (is_among ns n) (eq-eqb n n refl)) in rw e (ap (λ (ms : List ℕ). n ∷ ms) (all-stay ns (λ m h. apart m (or_right (n == m) (is_among ns m) h))))

  pub stay-once : Distinct (stay ++ doomed_ones)
  stay-once = subst Distinct (filter-append (λ n. not (is_among gone n)) (order state layout) doomed_ones ∙ (λ i. filtered state.uses (λ j h. h) i ++ all-stay doomed_ones doomed-apart i)) (Distinct-filter (λ n. not (is_among gone n)) (order state layout ++ doomed_ones) owners.once)

  pub among-left : (n : ℕ) → is_among gone n ≡ false → is_among (order state layout ++ doomed_ones) n ≡ true → is_among (stay ++ doomed_ones) n ≡ true
  among-left n kept there = ⊎_elim
      (λ (e : is_among (order state layout) n ≡ true). is_among-append stay doomed_ones n ∙ or_left (is_among stay n) (is_among doomed_ones n) (in-stay n e kept))
      (λ (e : is_among (order state layout) n ≡ false).
      let h : (is_among (order state layout) n || is_among doomed_ones n) ≡ true = sym (is_among-append (order state layout) doomed_ones n) ∙ there in
      is_among-append stay doomed_ones n ∙ or_right (is_among stay n) (is_among doomed_ones n) (rw e at h))
      (cases_Bool (is_among (order state layout) n))

  module _ (objects : List (Option Object)) (chains : ℕ → List ℕ) (store : StoreView) (holds : HoldsExcept (is_among gone) store state (record layout { chains = chains }))
      (chained : (bucket contents : ℕ) → bucket < table_length → is_among (chains bucket) contents ≡ true → is_among (layout.chains bucket) contents ≡ true)
      (out : (bucket contents : ℕ) → bucket < table_length → is_among (chains bucket) contents ≡ true → (node : ℕ) (loaded : Loaded) → is_among gone node ≡ true → layout.at node ≡ Some loaded → (contents == loaded.contents) ≡ false) where
    pub less-has : HasLess state objects keep layout (at_without layout gone) chains (owners_without layout gone)
    less-has = record {
      stays = λ i l stays there is. still-there (layout.place i) l (stay-apart (layout.place i) (stays-in i there stays)) is;
      others = λ n l out is. still-there n l (⊎_elim (λ (e : is_among gone n ≡ true). absurd (let z : true ≡ false = sym (in-order (λ item. not (keep item)) n e) ∙ out in cc)) (λ (e : is_among gone n ≡ false). e) (cases_Bool (is_among gone n))) is;
      was = λ n l is. (not-gone n l is).1;
      chain_stays = λ n l there is among. let p = not-gone n l is in holds.chained n l (in-order keep n there) p.1 p.0;
      chain_was = λ bucket contents small among.
          let q : IsListedRecord state layout contents = lies.unchained bucket contents small (chained bucket contents small among) in
          let kept : is_among gone q.node ≡ false = ⊎_elim
          (λ (e : is_among gone q.node ≡ true). absurd (let z : true ≡ false = sym (eq-eqb contents q.loaded.contents (sym q.record_is)) ∙ out bucket contents small among q.node q.loaded e q.here in cc))
          (λ (e : is_among gone q.node ≡ false). e)
          (cases_Bool (is_among gone q.node)) in
          record { node = q.node; loaded = q.loaded; listed = in-stay q.node q.listed kept; here = still-there q.node q.loaded kept q.here; record_is = q.record_is };
      own = λ n l c is has mine. still-owned c n mine (not-gone n l is).0;
    }

  module _ (objects : List (Option Object)) (chains : ℕ → List ℕ) (w : IsLess state objects keep) (id : ℕ) (old_marks : AreMarkedBy id state layout) where
    pub marked-less : AreMarkedBy id (without_items state objects keep) (layout_less layout gone chains)
    marked-less n z is live unsettled =
        let old = w.unsettled n z is live unsettled in
        let stays : is_listed (without_items state objects keep) (main z.key) ≡ true = main-listed (without_items state objects keep) w.valid n z true is live in
        let all : (keep (main z.key) && is_in state.uses (main z.key)) ≡ true = sym (in-filter keep state.uses (main z.key)) ∙ stays in
        let parts = and_parts (keep (main z.key)) (is_in state.uses (main z.key)) all in
        let apart : is_among gone (layout.place (main z.key)) ≡ false = stay-apart (layout.place (main z.key)) (stays-in (main z.key) parts.1 parts.0) in
        let here : at_without layout gone (layout.place (main z.key)) ≡ layout.at (layout.place (main z.key)) = rw apart refl in
        subst (λ (x : Option Loaded). IfSome x (λ loaded. loaded.dirty ≡ id)) (sym here)
        (subst (λ (key : List ℕ). IfSome (layout.at (layout.place (main key))) (λ loaded. loaded.dirty ≡ id)) old.2 (old_marks n old.0 old.1 old.3 old.4))

module _ (state : State) (layout : Layout) (unlinked : List ℕ) (keep : Item → Bool) (from : Image) (k : KeepsUncounted state layout unlinked from) where
  abbrev gone_ones : List ℕ
  gone_ones = gone_nodes state layout keep

  abbrev stay_ones : List ℕ
  stay_ones = nodes_of layout (filter keep state.uses)

  abbrev dead_ones : List ℕ
  dead_ones = doomed_nodes layout k.numbers

  pub all-words : IsPermutation (words_in_use unlinked (all_loaded state layout k.numbers)) ((words_at layout.at gone_ones ++ unlinked) ++ (words_at layout.at stay_ones ++ words_at layout.at dead_ones))
  all-words =
      subst (λ (ws : List ℕ). IsPermutation (unlinked ++ ws) ((words_at layout.at gone_ones ++ unlinked) ++ (words_at layout.at stay_ones ++ words_at layout.at dead_ones))) (sym (words-append layout.at (order state layout) dead_ones))
      (IsPermutation-trans (unlinked ++ (words_at layout.at (order state layout) ++ words_at layout.at dead_ones)) (unlinked ++ ((words_at layout.at gone_ones ++ words_at layout.at stay_ones) ++ words_at layout.at dead_ones)) ((words_at layout.at gone_ones ++ unlinked) ++ (words_at layout.at stay_ones ++ words_at layout.at dead_ones))
      (IsPermutation-append_right unlinked (words_at layout.at (order state layout) ++ words_at layout.at dead_ones) ((words_at layout.at gone_ones ++ words_at layout.at stay_ones) ++ words_at layout.at dead_ones)
      (IsPermutation-append_left (words_at layout.at dead_ones) (words_at layout.at (order state layout)) (words_at layout.at gone_ones ++ words_at layout.at stay_ones) (parted layout keep state.uses)))
      (subst (λ (ws : List ℕ). IsPermutation (unlinked ++ ws) ((words_at layout.at gone_ones ++ unlinked) ++ (words_at layout.at stay_ones ++ words_at layout.at dead_ones))) (sym (append_assoc (words_at layout.at gone_ones) (words_at layout.at stay_ones) (words_at layout.at dead_ones)))
      (subst (IsPermutation (unlinked ++ (words_at layout.at gone_ones ++ (words_at layout.at stay_ones ++ words_at layout.at dead_ones)))) (sym (append_assoc (words_at layout.at gone_ones) unlinked (words_at layout.at stay_ones ++ words_at layout.at dead_ones))) (to-front unlinked (words_at layout.at gone_ones) (words_at layout.at stay_ones ++ words_at layout.at dead_ones)))))

  pub before : IsArranged state layout k.numbers unlinked from
  before = record { valid = k.valid; represents = k.represents; owners = k.owners; unlinked_words = k.unlinked_words; sealed = k.sealed; marked = k.session.marked }

  pub free : (c : Claim) → has_claim (claims_of_all (words_at layout.at gone_ones ++ unlinked)) c ≡ true → owners_without layout gone_ones c ≡ None
  free c e = ⊎_elim
      (λ (h : has_claim (claims_of_all (words_at layout.at gone_ones)) c ≡ true). let q = claimed-by layout k.represents.holds.lies.own gone_ones c h in let there = q.1.0 in let mine = q.1.1 in rw (mine, there) refl)
      (λ (h : has_claim (claims_of_all (words_at layout.at gone_ones)) c ≡ false).
      let all : (has_claim (claims_of_all (words_at layout.at gone_ones)) c || has_claim (claims_of_all unlinked) c) ≡ true = sym (ap (λ (cs : List Claim). has_claim cs c) (flat_map-append claims_of (words_at layout.at gone_ones) unlinked) ∙ claim-append (claims_of_all (words_at layout.at gone_ones)) (claims_of_all unlinked) c) ∙ e in
      let none : layout.owner c ≡ None = k.unlinked_words.free c (rw h at all) in
      rw none refl)
      (cases_Bool (has_claim (claims_of_all (words_at layout.at gone_ones)) c))

  -- the words of what is removed and the unlinked ones are valid, and no two of their blocks and external numbers are one
  pub gone-stand : AllByRecursion (λ v. stands_in from v ≡ true) (words_at layout.at gone_ones ++ unlinked)
  gone-stand = first-of (λ v. stands_in from v ≡ true) (words_at layout.at gone_ones ++ unlinked) (words_at layout.at stay_ones ++ words_at layout.at dead_ones)
      (all-to (λ v. stands_in from v ≡ true) _ (All-permutation (λ v. stands_in from v ≡ true) _ _ all-words (all-from (λ v. stands_in from v ≡ true) _ (arranged-stand state layout k.numbers unlinked from before))))

  pub gone-single : repeats (claims_of_all (words_at layout.at gone_ones ++ unlinked)) ≡ false
  gone-single = repeats-head (claims_of_all (words_at layout.at gone_ones ++ unlinked)) (claims_of_all (words_at layout.at stay_ones ++ words_at layout.at dead_ones))
      (ap repeats (sym (flat_map-append claims_of (words_at layout.at gone_ones ++ unlinked) (words_at layout.at stay_ones ++ words_at layout.at dead_ones))) ∙ once-alike _ _ all-words (arranged-once state layout k.numbers unlinked from before))

  module _ (objects : List (Option Object)) (chains : ℕ → List ℕ) (image : Image) (w : IsLess state objects keep) (o : AreOut state layout keep chains from image) where
    abbrev after : State
    after = without_items state objects keep

    abbrev now : Layout
    now = layout_less layout gone_ones chains

    has-less : HasLess state objects keep layout (at_without layout gone_ones) chains (owners_without layout gone_ones)
    has-less = less-has state layout keep k.numbers k.represents.holds.lies k.owners objects chains (store_of image) o.holds o.chained o.out

    represents-now : Represents (view_of image) after now
    represents-now = less-represented (is_among gone_ones) (view_of image) state objects keep layout (at_without layout gone_ones) chains (owners_without layout gone_ones) k.represents.holds.lies w.lists has-less o.holds (λ n l is. ((not-gone state layout keep k.numbers k.represents.holds.lies k.owners) n l is).0) o.list

    same-words : IsPermutation (words_in_use unlinked (all_loaded state layout k.numbers)) (words_in_use (words_at layout.at gone_ones ++ unlinked) (all_loaded after now k.numbers))
    same-words = subst (λ (ws : List ℕ). IsPermutation (words_in_use unlinked (all_loaded state layout k.numbers)) ((words_at layout.at gone_ones ++ unlinked) ++ ws)) (sym (words-left state layout keep k.numbers k.represents.holds.lies k.owners)) all-words

    marked : AreMarkedBy (this_id_of (byte from Index)) after now
    marked = marked-less state layout keep k.numbers k.represents.holds.lies k.owners objects chains w (this_id_of (byte from Index)) k.session.marked

    arranged : IsArranged after now k.numbers (words_at layout.at gone_ones ++ unlinked) image
    arranged = record {
      valid = w.valid;
      represents = represents-now;
      owners = record {
        exact = λ c n is. let p = (was-owned state layout keep k.numbers k.represents.holds.lies k.owners) c n is in let q : IsOwner state layout dead_ones c n = k.owners.exact c n p.1 in
            record { among = (among-left state layout keep k.numbers k.represents.holds.lies k.owners) n p.0 q.among; loaded = q.loaded; here = (still-there state layout keep k.numbers k.represents.holds.lies k.owners) n q.loaded p.0 q.here; claims = q.claims };
        once = (stay-once state layout keep k.numbers k.represents.holds.lies k.owners);
        doomed = numbers-same state after layout now k.numbers (λ n. same-slots (object_at after n) (object_at state n) (w.dead n)) (λ n there. refl) k.owners.doomed;
      };
      unlinked_words = record {
        stand = stand-same from image o.leaves.headers (words_at layout.at gone_ones ++ unlinked) gone-stand;
        free = free;
        single = gone-single;
      };
      sealed = λ n l is. let p = (not-gone state layout keep k.numbers k.represents.holds.lies k.owners) n l is in o.sealed n l p.1 p.0 (k.sealed n l p.1);
      marked = subst (λ (id : ℕ). AreMarkedBy id after now) (sym o.leaves.session.id) marked;
    } where
      is-dead : (q : Option Object) → is_dead q ≡ is_doomed_slot q
      is-dead None = refl
      is-dead (Some q) = refl

      same-slots : (q p : Option Object) → is_doomed_slot q ≡ is_doomed_slot p → is_dead q ≡ is_dead p
      same-slots q p e = is-dead q ∙ e ∙ sym (is-dead p)

    pub items-gone : KeepsUncounted after now (words_at layout.at gone_ones ++ unlinked) image
    items-gone = rearranged state after layout now unlinked (words_at layout.at gone_ones ++ unlinked) k.numbers from image k o.leaves arranged same-words

pub gone-items : GoneItemsAreUnlinked
gone-items state layout unlinked objects keep chains from image k w o = items-gone state layout unlinked keep from k objects chains image w o
