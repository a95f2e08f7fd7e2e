-- An image represents a state (`StandsFor`) where its view does (`Represents`), its maps are exact, and its files are in order.
use Rattle.std.proofs.Common.{◌≡◌, ℕ, ◌<◌, arith, List, [], ◌∷◌, ◌++◌, length, map, refl, ap, sym, ◌∙◌, subst, Bool, true, false, Option, Some, None, Ok, ⊎_elim, ◌⊎◌, inl, inr}
use Rattle.std.specs.Prelude.{◌||◌, ◌==◌, is_some, if◌then◌else◌}
use Rattle.std.specs.Option.{option_and_then, option_map, IsSomeAnd}
use Rattle.std.specs.List.{flat_map, filter_map, cons_option, AllByRecursion}
use Rattle.std.proofs.lemmas.Bool.{cases_Bool, eq-eqb, or_left, or_right}
use Rattle.std.proofs.lemmas.Bool.Decides.{eqb_tells}
use Rattle.std.proofs.Math.Dec.{eqb}
use Rattle.std.proofs.lemmas.List.Elements.{filter_map-append}
use Rattle.spec_folder.specs.ListView.{ListView, IsList, Distinct, Segment, last_or}
use Rattle.spec_folder.specs.Walk.{walk}
use Rattle.blk_model.specs.Items.{Item, item_of}
use Rattle.blk_model.specs.State.{State, Object, IsValidState, object_at}
use Rattle.spec_image.specs.Image.{Image, Index, byte}
use Rattle.spec_format.specs.Headers.{index_version, version_of}
use Rattle.spec_format.specs.BlockFiles.{is_among, IsWellFormed}
use Rattle.spec_format.specs.Claims.{Claim, BlockOf, ExternalOf, has_claim, claims_of, repeats}
use Rattle.spec_folder.specs.View.{View, RecordFields, view_of}
use Rattle.spec_folder.specs.Chains.{Chain}
use Rattle.spec_folder.specs.Loads.{Rule, listed_rule, Loaded, load, all_claims, claims_of_loaded}
use Rattle.spec_folder.specs.Audit.{kept_by, kept_among}
use Rattle.spec_folder.specs.Found.{row_of_loaded, kept, found}
use Rattle.spec_folder.specs.Layout.{Layout, is_listed, order, rule_of, HasDirtyMark, IsPlacedAt, IsListedRecord, IsDoomedAt, IsLayoutOf, Represents}
use Rattle.spec_folder.specs.Given.{given_by}
use Rattle.spec_folder.specs.StandsFor.{KeepsDoomed, AreDoomed, ShowsState, StandsFor, doomed_of, IsOwner, AllIsOwned}
use Rattle.spec_folder.specs.Sound.{EndsWhole, AreOwned, IsInOrder}
use Rattle.law_folder.specs.StateLaws.{FoundIsAtRest, HeldIsAtRest}
use Rattle.law_folder.proofs.claims.ClaimLists.{claim-append, no-claim, repeats-append, contents-claims, some-claim}
use Rattle.law_folder.proofs.walks.Loads.{load-then}
use Rattle.law_folder.proofs.states.Laid.{IsNodeOf, node-of, item-of}
use Rattle.law_folder.proofs.walks.Shown.{kept-given, node-is}
use Rattle.law_folder.proofs.chains.Chains.{chain-is}
use Rattle.law_folder.proofs.states.Central.{all-shown, walk-order, none-dropped, rows-kept, chain-end, found-rest}

-- the used blocks of nodes of a layout
abbrev pub claims_at : Layout → List ℕ → List Claim
claims_at y ws = flat_map all_claims (filter_map y.at ws)

-- ---- the used blocks of distinct nodes

module _ (y : Layout) (own : (w : ℕ) (l : Loaded) (c : Claim) → y.at w ≡ Some l → has_claim (all_claims l) c ≡ true → y.owner c ≡ Some w) (single : (w : ℕ) (l : Loaded) → y.at w ≡ Some l → repeats (all_claims l) ≡ false) where
  claimed : (ws : List ℕ) (c : Claim) → has_claim (claims_at y ws) c ≡ true → (x : ℕ) × (is_among ws x ≡ true) × (y.owner c ≡ Some x)
  claimed [] c h = absurd (let z : true ≡ false = sym h ∙ no-claim c in cc)
  claimed (w ∷ ws) c h = go (y.at w) refl (claimed ws c) h where
    go : (o : Option Loaded) → y.at w ≡ o → (has_claim (claims_at y ws) c ≡ true → (x : ℕ) × (is_among ws x ≡ true) × (y.owner c ≡ Some x))
        → has_claim (flat_map all_claims (cons_option o (filter_map y.at ws))) c ≡ true → (x : ℕ) × (is_among (w ∷ ws) x ≡ true) × (y.owner c ≡ Some x)
    go None is rest g = let p = rest g in (p.0, or_right (w == p.0) (is_among ws p.0) p.1, p.2)
    go (Some l) is rest g = ⊎_elim
        (λ (e : has_claim (all_claims l) c ≡ true). (w, or_left (w == w) (is_among ws w) (eq-eqb w w refl), own w l c is e))
        (λ (e : has_claim (all_claims l) c ≡ false).
        let a : (has_claim (all_claims l) c || has_claim (claims_at y ws) c) ≡ true = sym (claim-append (all_claims l) (claims_at y ws) c) ∙ g in
        let p = rest (rw e at a) in (p.0, or_right (w == p.0) (is_among ws p.0) p.1, p.2))
        (cases_Bool (has_claim (all_claims l) c))

  pub no-repeats : (ws : List ℕ) → Distinct ws → repeats (claims_at y ws) ≡ false
  unfolding repeats
  no-repeats [] d = refl
  no-repeats (w ∷ ws) d = go (y.at w) refl (no-repeats ws d.1) where
    go : (o : Option Loaded) → y.at w ≡ o → repeats (claims_at y ws) ≡ false → repeats (flat_map all_claims (cons_option o (filter_map y.at ws))) ≡ false
    go None is rest = rest
    go (Some l) is rest = repeats-append (all_claims l) (claims_at y ws) (single w l is) rest (λ c a b.
        let p = claimed ws c b in
        let q : y.owner c ≡ Some w = own w l c is a in
        let r : y.owner c ≡ Some p.0 = p.2 in
        let s : w ≡ p.0 = cc in
        let t : is_among ws w ≡ true = ap (is_among ws) s ∙ p.1 in
        let z : true ≡ false = sym t ∙ d.0 in cc)

  pub claims-in : (ws : List ℕ) (x : ℕ) (l : Loaded) (c : Claim) → is_among ws x ≡ true → y.at x ≡ Some l → has_claim (all_claims l) c ≡ true → has_claim (claims_at y ws) c ≡ true
  claims-in [] x l c there is h = absurd (let z : false ≡ true = there in cc)
  claims-in (w ∷ ws) x l c there is h = ⊎_elim
      (λ (e : (eqb w x ≡ true) × (w ≡ x)).
      let at : y.at w ≡ Some l = ap y.at e.1 ∙ is in
      ap (λ (o : Option Loaded). has_claim (flat_map all_claims (cons_option o (filter_map y.at ws))) c) at ∙ claim-append (all_claims l) (claims_at y ws) c ∙ or_left (has_claim (all_claims l) c) (has_claim (claims_at y ws) c) h)
      (λ (e : (eqb w x ≡ false) × _). go (y.at w) (claims-in ws x l c (rw e.0 at there) is h))
      (eqb_tells w x) where
        go : (o : Option Loaded) → has_claim (claims_at y ws) c ≡ true → has_claim (flat_map all_claims (cons_option o (filter_map y.at ws))) c ≡ true
        go None g = g
        go (Some k) g = claim-append (all_claims k) (claims_at y ws) c ∙ or_right (has_claim (all_claims k) c) (has_claim (claims_at y ws) c) g

  -- what is used by the nodes of a state is what has an owner
  pub claimed-exactly : (m : State) (nodes : List ℕ) → ((c : Claim) (w : ℕ) → y.owner c ≡ Some w → IsOwner m y nodes c w) → (c : Claim) → has_claim (claims_at y (order m y ++ nodes)) c ≡ is_some (y.owner c)
  claimed-exactly m nodes exact c = ⊎_elim
      (λ (e : has_claim (claims_at y (order m y ++ nodes)) c ≡ true). let p = claimed (order m y ++ nodes) c e in e ∙ rw p.2 refl)
      (λ (e : has_claim (claims_at y (order m y ++ nodes)) c ≡ false). e ∙ go (y.owner c) refl e)
      (cases_Bool (has_claim (claims_at y (order m y ++ nodes)) c)) where
        go : (o : Option ℕ) → y.owner c ≡ o → has_claim (claims_at y (order m y ++ nodes)) c ≡ false → false ≡ is_some (y.owner c)
        go None is e = rw is refl
        go (Some w) is e = let q : IsOwner m y nodes c w = exact c w is in
            let t : has_claim (claims_at y (order m y ++ nodes)) c ≡ true = claims-in (order m y ++ nodes) w q.loaded c q.among q.here q.claims in
            absurd (let z : true ≡ false = sym t ∙ e in cc)

-- ---- the doomed objects of some numbers

pub doomed-records : (y : Layout) (numbers : List ℕ) → map (λ (d : ℕ × Loaded). d.1) (doomed_of y numbers) ≡ filter_map y.at (map y.place_of_doomed numbers)
doomed-records y [] = refl
doomed-records y (n ∷ numbers) = go (y.at (y.place_of_doomed n)) (doomed_of y numbers) (filter_map y.at (map y.place_of_doomed numbers)) (doomed-records y numbers) where
  go : (o : Option Loaded) (ds : List (ℕ × Loaded)) (ls : List Loaded) → map (λ (d : ℕ × Loaded). d.1) ds ≡ ls → map (λ (d : ℕ × Loaded). d.1) (cons_option (option_map (λ (l : Loaded). (n, l)) o) ds) ≡ cons_option o ls
  go None ds ls e = e
  go (Some l) ds ls e = ap (λ (xs : List Loaded). l ∷ xs) e

-- ---- the end of the list

last-next : (checks : ℕ → Bool) (next prev : ℕ → ℕ) (before suffix x : ℕ) (xs : List ℕ) → Segment checks next prev before (x ∷ xs) suffix → next (last_or x xs) ≡ suffix
last-next checks next prev before suffix x [] s = s.0.next_is
last-next checks next prev before suffix x (z ∷ xs) s = last-next checks next prev x suffix z xs s.1

ends-whole : (l : ListView) (nodes : List ℕ) → walk l ≡ nodes → IsList l nodes → EndsWhole l
ends-whole l [] e list = inl (e, list.head_is, list.tail_is)
ends-whole l (x ∷ xs) e list = inr (
  subst (λ (ws : List ℕ). 0 < length ws) (sym e) (omega arith),
  subst (λ (ws : List ℕ). l.next (last_or 0 ws) ≡ last_or 0 ws) (sym e) (last-next l.checks l.next l.prev x (last_or x xs) x xs list.linked),
)

-- ---- the whole

-- what is listed is what lies at the nodes of the items
module _ (image : Image) (m : State) (y : Layout) (r : Represents (view_of image) m y) (valid : IsValidState m) where
  pub kept-at : kept_by listed_rule (view_of image) ≡ filter_map y.at (order m y)
  kept-at = ap (kept_among (view_of image).store listed_rule) (walk-order (view_of image) m y r)
      ∙ kept-given (view_of image).store listed_rule (order m y) (given_by (λ _. true) y) (all-shown (view_of image).store m y r.holds valid r.list.distinct)
      ∙ ap (λ (g : ℕ → Option Loaded). filter_map g (order m y)) (λ i w. same (y.at w) i) where
        same : (o : Option Loaded) → option_and_then (λ (l : Loaded). if true then Some l else None) o ≡ o
        same None = refl
        same (Some l) = refl

module _ (image : Image) (m : State) (y : Layout) (r : Represents (view_of image) m y) (valid : IsValidState m) (numbers : List ℕ) (a : AllIsOwned image m y numbers) where
  v : View
  v = view_of image

  lies : IsLayoutOf m y
  lies = r.holds.lies

  all-kept-at : kept_by listed_rule (view_of image) ++ filter_map y.at (map y.place_of_doomed numbers) ≡ filter_map y.at (order m y ++ (map y.place_of_doomed numbers))
  all-kept-at = ap (λ (ls : List Loaded). ls ++ filter_map y.at (map y.place_of_doomed numbers)) (kept-at image m y r valid) ∙ sym (filter_map-append y.at (order m y) (map y.place_of_doomed numbers))

  -- what is used is what has an owner
  exactly : (c : Claim) → has_claim (claims_at y (order m y ++ (map y.place_of_doomed numbers))) c ≡ is_some (y.owner c)
  exactly = claimed-exactly y lies.own lies.single m (map y.place_of_doomed numbers) a.exact

  -- dirty flags
  mark-of : (i : Item) (l : Loaded) → is_listed m i ≡ true → y.at (y.place i) ≡ Some l → HasDirtyMark m (item_of (row_of_loaded l)) l
  mark-of i l there here =
      let q : IsPlacedAt m y i = lies.laid i there in
      let same : q.loaded ≡ l = let s : y.at (y.place i) ≡ Some q.loaded = q.here in let t : y.at (y.place i) ≡ Some l = here in cc in
      subst (λ (j : Item). HasDirtyMark m j l) (sym (item-of m y lies.laid i l there here)) (subst (HasDirtyMark m i) same q.mark)

  marks-of : (ws : List ℕ) → ((w : ℕ) → is_among ws w ≡ true → is_among (order m y) w ≡ true) → AllByRecursion (λ k. HasDirtyMark m (item_of (row_of_loaded k)) k) (filter_map y.at ws)
  marks-of [] sub = tt
  marks-of (w ∷ ws) sub = go (y.at w) refl (marks-of ws (λ x h. sub x (or_right (w == x) (is_among ws x) h))) where
    go : (o : Option Loaded) → y.at w ≡ o → AllByRecursion (λ k. HasDirtyMark m (item_of (row_of_loaded k)) k) (filter_map y.at ws) → AllByRecursion (λ k. HasDirtyMark m (item_of (row_of_loaded k)) k) (cons_option o (filter_map y.at ws))
    go None is rest = rest
    go (Some l) is rest =
        let n : IsNodeOf y m.uses w = node-of y m.uses w (sub w (or_left (w == w) (is_among ws w) (eq-eqb w w refl))) in
        (mark-of n.item l n.among (ap y.at n.is ∙ is), rest)

  -- a doomed object
  keeps-doomed : (number : ℕ) (o : Object) → o.live ≡ false → (d : IsDoomedAt m y number o) → is_among numbers number ≡ true → KeepsDoomed (view_of image) o d.loaded
  keeps-doomed number o dead d among =
      let loads : load (view_of image).store (rule_of y (y.place_of_doomed number)) (y.place_of_doomed number) ≡ Ok d.loaded = r.holds.shows.each (y.place_of_doomed number) d.loaded d.here in
      let node : d.loaded.node ≡ y.place_of_doomed number = node-is (view_of image).store (rule_of y (y.place_of_doomed number)) (y.place_of_doomed number) d.loaded loads in
      let rule_is : rule_of y (y.place_of_doomed number) ≡ record { state = 2; clean = false; chained = false } = ap (λ (z : ℕ). let q : Rule = record { state = z; clean = false; chained = false } in q) (a.doomed.records number among) in
      record {
        doomed = dead;
        loads = ap (load (view_of image).store (record { state = 2; clean = false; chained = false })) node ∙ ap (λ (q : Rule). load (view_of image).store q (y.place_of_doomed number)) (sym rule_is) ∙ loads;
        row = d.row;
        mark = d.mark;
        unlisted = ap (λ (ws : List ℕ). is_among ws d.loaded.node) (walk-order (view_of image) m y r) ∙ ap (is_among (order m y)) node ∙ d.unlisted;
        unchained = λ b below. ap (λ (c : Chain). is_among c.reached d.loaded.contents) (chain-is (view_of image).store b (y.chains b) r.holds.shows.no_record (r.holds.shows.chains b below)) ∙ not_chained b below (cases_Bool (is_among (y.chains b) d.loaded.contents));
      } where
        some : d.loaded.contents ≡ 0 → ⊥
        some zero_is = load-then (view_of image).store (rule_of y (y.place_of_doomed number)) (y.place_of_doomed number) d.loaded (r.holds.shows.each (y.place_of_doomed number) d.loaded d.here) (λ n e f.
            let p : (view_of image).store.entry 0 ≡ Some e = ap (view_of image).store.entry (sym zero_is ∙ f.facts.contents_is) ∙ f.entry in
            let q : (view_of image).store.entry 0 ≡ None = r.holds.shows.no_record in
            let z : ◌≡◌ {A = Option RecordFields} (Some e) None = sym p ∙ q in cc)

        not_chained : (b : ℕ) → b < 65536 → (is_among (y.chains b) d.loaded.contents ≡ true) ⊎ (is_among (y.chains b) d.loaded.contents ≡ false) → is_among (y.chains b) d.loaded.contents ≡ false
        not_chained b below (inr e) = e
        not_chained b below (inl e) =
            let q : IsListedRecord m y d.loaded.contents = lies.unchained b d.loaded.contents below e in
            let c = some-claim d.loaded.contents some in
            let one : y.owner c.0 ≡ Some (y.place_of_doomed number) = lies.own (y.place_of_doomed number) d.loaded c.0 d.here (contents-claims d.loaded c.0 c.1) in
            let two : y.owner c.0 ≡ Some q.node = lies.own q.node q.loaded c.0 q.here (contents-claims q.loaded c.0 (ap (λ (x : ℕ). has_claim (claims_of x) c.0) q.record_is ∙ c.1)) in
            let same : q.node ≡ y.place_of_doomed number = cc in
            absurd (let z : true ≡ false = sym q.listed ∙ ap (is_among (order m y)) same ∙ d.unlisted in cc)

  -- all doomed objects
  doomed-each : (ns : List ℕ) → AllByRecursion (λ n. IsSomeAnd (object_at m n) (λ o. o.live ≡ false)) ns → ((n : ℕ) → is_among ns n ≡ true → is_among numbers n ≡ true)
      → AllByRecursion (λ d. IsSomeAnd (object_at m d.0) (λ o. KeepsDoomed (view_of image) o d.1)) (doomed_of y ns) × (map (λ (d : ℕ × Loaded). d.0) (doomed_of y ns) ≡ ns)
  doomed-each [] each sub = (tt, refl)
  doomed-each (n ∷ ns) each sub = go (object_at m n) refl each.0 (doomed-each ns each.1 (λ k h. sub k (or_right (n == k) (is_among ns k) h))) where
    go : (o : Option Object) → object_at m n ≡ o → IsSomeAnd o (λ o. o.live ≡ false)
        → AllByRecursion (λ d. IsSomeAnd (object_at m d.0) (λ o. KeepsDoomed (view_of image) o d.1)) (doomed_of y ns) × (map (λ (d : ℕ × Loaded). d.0) (doomed_of y ns) ≡ ns)
        → AllByRecursion (λ d. IsSomeAnd (object_at m d.0) (λ o. KeepsDoomed (view_of image) o d.1)) (doomed_of y (n ∷ ns)) × (map (λ (d : ℕ × Loaded). d.0) (doomed_of y (n ∷ ns)) ≡ n ∷ ns)
    go None e dead rest = absurd dead
    go (Some o) e dead rest =
        let d : IsDoomedAt m y n o = lies.doomed_objects n o e dead in
        let kept : KeepsDoomed (view_of image) o d.loaded = keeps-doomed n o dead d (sub n (or_left (n == n) (is_among ns n) (eq-eqb n n refl))) in
        let here : IsSomeAnd (object_at m n) (λ o. KeepsDoomed (view_of image) o d.loaded) = subst (λ (z : Option Object). IsSomeAnd z (λ o. KeepsDoomed (view_of image) o d.loaded)) (sym e) kept in
        subst (λ (z : Option Loaded). AllByRecursion (λ x. IsSomeAnd (object_at m x.0) (λ o. KeepsDoomed (view_of image) o x.1)) (cons_option (option_map (λ (l : Loaded). (n, l)) z) (doomed_of y ns)) × (map (λ (x : ℕ × Loaded). x.0) (cons_option (option_map (λ (l : Loaded). (n, l)) z) (doomed_of y ns)) ≡ n ∷ ns)) (sym d.here)
        ((here, rest.0), ap (λ (xs : List ℕ). n ∷ xs) rest.1)

  pub are-doomed : AreDoomed (view_of image) m (doomed_of y numbers)
  are-doomed =
      let p = doomed-each numbers a.doomed.each (λ n h. h) in
      record {
        each = p.0;
        once = subst Distinct (sym p.1) a.doomed.once;
        all = λ number o is dead. subst (λ (ns : List ℕ). is_among ns number ≡ true) (sym p.1) (a.doomed.all number o is dead);
      }

  -- what is listed and what is doomed
  all-loaded : kept_by listed_rule (view_of image) ++ map (λ (d : ℕ × Loaded). d.1) (doomed_of y numbers) ≡ filter_map y.at (order m y ++ map y.place_of_doomed numbers)
  all-loaded = ap (λ (ls : List Loaded). kept_by listed_rule (view_of image) ++ ls) (doomed-records y numbers) ∙ all-kept-at

  are-owned : AreOwned image (claims_of_loaded (kept_by listed_rule (view_of image) ++ map (λ (d : ℕ × Loaded). d.1) (doomed_of y numbers)))
  are-owned = subst (λ (ls : List Loaded). AreOwned image (claims_of_loaded ls)) (sym all-loaded) (record {
    one_owner = no-repeats y lies.own lies.single (order m y ++ map y.place_of_doomed numbers) a.once;
    maps = λ n b linked below. a.blocks n b linked below ∙ sym (exactly (BlockOf n b));
    only_claimed = λ n below. a.files n below ∙ sym (exactly (ExternalOf n));
  })

  pub shows-state : ShowsState (view_of image) m
  shows-state = record {
    valid = valid;
    transaction = r.idle;
    list_end = ends-whole (view_of image).list (order m y) (walk-order (view_of image) m y r) r.list;
    chain_ends = chain-end (view_of image).store m y r.holds valid;
    nothing_dropped = none-dropped (view_of image) m y r valid;
    rows = rows-kept (view_of image) m y r valid;
    marks = rw (kept-at image m y r valid) (marks-of (order m y) (λ w h. h));
  }

  pub stands-for : IsWellFormed image → version_of (byte image Index) ≡ index_version → IsInOrder image (kept_by listed_rule (view_of image)) (map (λ (d : ℕ × Loaded). d.1) (doomed_of y numbers)) → StandsFor image m
  stands-for well version in_order = record { well_formed = well; version = version; shows = shows-state; doomed = doomed_of y numbers; are_doomed = are-doomed; owned = are-owned; in_order = in_order }

pub held-at_rest : HeldIsAtRest
unfolding kept
held-at_rest image m y r valid = found-rest (view_of image) m y r valid

-- an initialized folder that represents a state holds the durable contents
pub found-at_rest : FoundIsAtRest
unfolding found kept
found-at_rest image m y r valid finished = rw finished (found-rest (view_of image) m y r valid)
