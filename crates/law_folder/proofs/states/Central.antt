-- A view that represents a state drops nothing and lists the state's rows, and recovery keeps the durable contents.
use Rattle.std.proofs.Common.{◌≡◌, ℕ, zero, suc, ◌+◌, ◌<◌, ◌≤◌, List, [], ◌∷◌, map, refl, ap, sym, ◌∙◌, Bool, true, false, arith, Option, Some, None}
use Rattle.std.specs.Prelude.{◌==◌}
use Rattle.std.specs.Option.{option_map}
use Rattle.std.specs.List.{filter, flat_map, range_with_len}
use Rattle.std.proofs.lemmas.Bool.{eqb-true, eq-eqb, or_left, or_right}
use Rattle.spec_folder.specs.ListView.{ListView, Distinct}
use Rattle.spec_folder.specs.Walk.{walk}
use Rattle.spec_folder.specs.Completion.{completed_list, counts}
use Rattle.law_folder.proofs.lists.Walks.{walk_list}
use Rattle.blk_model.specs.Items.{Item, main, part, Row}
use Rattle.blk_model.specs.State.{State, IsValidState, object_at}
use Rattle.blk_model.specs.Stops.{is_live_and_settled}
use Rattle.spec_format.specs.BlockFiles.{is_among}
use Rattle.spec_folder.specs.View.{View, StoreView}
use Rattle.spec_folder.specs.Chains.{Chain, chain}
use Rattle.spec_folder.specs.Loads.{held_rule, listed_rule, Loaded}
use Rattle.spec_folder.specs.Audit.{kept_by, dropped_by, kept_among, dropped_among, is_unlisted, unlisted_in, unlisted}
use Rattle.spec_folder.specs.Found.{row_of_loaded}
use Rattle.spec_folder.specs.Shown.{IsShown}
use Rattle.spec_folder.specs.Layout.{Layout, is_listed, order, rule_of, IsPlacedAt, IsListedRecord, Holds, Represents, is_in}
use Rattle.spec_folder.specs.Given.{given_by, GoesWith, IsTest}
use Rattle.law_folder.proofs.walks.Loads.{load-then}
use Rattle.law_folder.proofs.chains.Chains.{chain-is}
use Rattle.law_folder.proofs.walks.Shown.{kept-given, dropped-none}
use Rattle.law_folder.proofs.states.Laid.{IsNodeOf, node-of, laid-shown, found-picked, rows-given}
use Rattle.law_folder.proofs.claims.Owner.{IsOwned, owned, same_owner, live, rest-picked}
use Rattle.blk_model.specs.Holding as model

module _ (m : State) (y : Layout) (lay : (i : Item) → is_listed m i ≡ true → IsPlacedAt m y i) (valid : IsValidState m) where
  -- the dirty flags are the test on clean objects, on items where no part is without its main item
  pub settled-on : (items : List Item) → ((i : Item) → is_in items i ≡ true → is_listed m i ≡ true)
      → IsTest m y items (λ number. is_live_and_settled (object_at m number))
  unfolding model.row_of
  settled-on items sub = record {
    owners = λ key n there. owners key n (sub (part key n) there) (model.owner m (part key n)) refl;
    main_test = λ key l number among here own. let there : is_listed m (main key) ≡ true = sub (main key) among in
        let laid : IsPlacedAt m y (main key) = lay (main key) there in
        let same : laid.loaded ≡ l = let a : y.at (y.place (main key)) ≡ Some laid.loaded = laid.here in cc in
        let o : IsOwned m (main key) number = owned m (main key) number own in
        let found : model.owner_object m (main key) ≡ Some o.object = rw own o.here in
        let mark : (laid.loaded.dirty == 0) ≡ o.object.settled = rw found at laid.mark in
        ap (λ (x : Loaded). x.dirty == 0) (sym same) ∙ mark ∙ rw (o.here, live o.object (main key) o.has) refl;
  } where
    owners : (key : List ℕ) (n : ℕ) → is_in m.uses (part key n) ≡ true → (w : Option ℕ) → model.owner m (part key n) ≡ w → model.owner m (part key n) ≡ model.owner m (main key)
    owners key n there (Some number) e = e ∙ sym (same_owner m valid key n number e)
    owners key n there None e =
        let laid : IsPlacedAt m y (part key n) = lay (part key n) there in
        let none : model.row_of m (part key n) ≡ None = rw e refl in
        absurd (let c : ◌≡◌ {A = Option Row} (Some (row_of_loaded laid.loaded)) None = sym laid.row ∙ none in cc)

  pub settled-is_test : IsTest m y m.uses (λ number. is_live_and_settled (object_at m number))
  settled-is_test = settled-on m.uses (λ i there. there)

  pub all-closed : (key : List ℕ) (n : ℕ) → is_in m.uses (part key n) ≡ true → is_in m.uses (main key) ≡ true
  all-closed key n there = (lay (part key n) there).parent.listed

module _ (v : StoreView) (m : State) (y : Layout) (r : Holds v m y) (valid : IsValidState m) where
  -- each item passes where dirty nodes are kept too
  all-goes : GoesWith y m.uses listed_rule (λ _. true)
  all-goes = record {
    clean = λ i l among is good. refl;
    main_out = λ key l among is bad. absurd (let c : true ≡ false = bad in cc);
    part_in = λ key n l p among is above good. ((r.lies.laid (part key n) among).parent.listed, refl);
    part_out = λ key n l p among is above bad here. bad;
  }

  pub all-shown : Distinct (order m y) → IsShown v listed_rule (order m y) (given_by (λ _. true) y)
  all-shown once = laid-shown v m y r listed_rule m.uses (λ _. true) refl (λ i there. there) once all-goes

  all-given : (i : Item) → is_in m.uses i ≡ true → option_map row_of_loaded (given_by (λ _. true) y (y.place i)) ≡ model.row_of m i
  all-given i there = let laid : IsPlacedAt m y i = r.lies.laid i there in rw laid.here (sym laid.row)

  pub all-rows : Distinct (order m y) → map row_of_loaded (kept_among v listed_rule (order m y)) ≡ model.rows m
  unfolding model.rows
  all-rows once = ap (map row_of_loaded) (kept-given v listed_rule (order m y) (given_by (λ _. true) y) (all-shown once)) ∙ rows-given y (given_by (λ _. true) y) (model.row_of m) m.uses all-given

  pub all-kept : Distinct (order m y) → dropped_among v listed_rule (order m y) ≡ []
  all-kept once = dropped-none v listed_rule (order m y) (given_by (λ _. true) y) (all-shown once) (λ w there none.
      let a : IsNodeOf y m.uses w = node-of y m.uses w there in
      let laid : IsPlacedAt m y a.item = r.lies.laid a.item a.among in
      let some : given_by (λ _. true) y w ≡ Some laid.loaded = ap (given_by (λ _. true) y) (sym a.is) ∙ rw laid.here refl in
      let c : ◌≡◌ {A = Option Loaded} (Some laid.loaded) None = sym some ∙ none in cc)

  pub rest-found : Distinct (order m y) → map row_of_loaded (kept_among v held_rule (order m y)) ≡ model.rest m
  rest-found once = found-picked m y r.lies.laid m.uses (λ i there. there) (λ number. is_live_and_settled (object_at m number)) (settled-is_test m y r.lies.laid valid) v r once (all-closed m y r.lies.laid valid) ∙ sym (rest-picked m)

  pub chain-end : (b : ℕ) → b < 65536 → (chain v b).end ≡ 0
  chain-end b below = ap (λ (c : Chain). c.end) (chain-is v b (y.chains b) r.shows.no_record (r.shows.chains b below))

-- ---- no record is unlisted

pub flat_map-none : {X : Type 0} (f : ℕ → List X) (s n : ℕ) → ((b : ℕ) → s ≤ b → b < s + n → f b ≡ []) → flat_map f (range_with_len s n) ≡ []
flat_map-none f s zero none = refl
flat_map-none f s (suc n) none = rw (none s (omega arith) (omega arith)) (flat_map-none f (s + 1) n (λ b low high. none b (omega arith) (omega arith)))

pub filter-none : (p : ℕ → Bool) (xs : List ℕ) → ((x : ℕ) → is_among xs x ≡ true → p x ≡ false) → filter p xs ≡ []
filter-none p [] none = refl
filter-none p (x ∷ xs) none = rw (none x (or_left (x == x) (is_among xs x) (eq-eqb x x refl))) (filter-none p xs (λ z h. none z (or_right (x == z) (is_among xs z) h)))

pub walk-idle : (l : ListView) → l.transaction ≡ 0 → walk (completed_list l) ≡ walk l
unfolding walk completed_list counts
walk-idle l e = rw e refl

module _ (v : View) (m : State) (y : Layout) (r : Represents v m y) where
  pub walk-order : walk v.list ≡ order m y
  walk-order = walk_list v.list (order m y) r.list

  is-listed : (b c : ℕ) → b < 65536 → is_among (y.chains b) c ≡ true → is_unlisted v c ≡ false
  unfolding is_unlisted
  is-listed b c below there =
      let q : IsListedRecord m y c = r.holds.lies.unchained b c below there in
      load-then v.store (rule_of y q.node) q.node q.loaded (r.holds.shows.each q.node q.loaded q.here) (λ n e f.
      let contents : n.contents ≡ c = sym f.facts.contents_is ∙ q.record_is in
      let entry : v.store.entry c ≡ Some e = ap v.store.entry (sym contents) ∙ f.entry in
      let back : e.rankings_node ≡ q.node = eqb-true e.rankings_node q.node f.facts.keyed.back in
      let walked : is_among (walk v.list) q.node ≡ true = ap (λ (ws : List ℕ). is_among ws q.node) walk-order ∙ q.listed in
      rw (entry, back, walked, f.node, eq-eqb n.contents c contents) refl)

  pub none-unlisted : unlisted v ≡ []
  unfolding unlisted
  none-unlisted = flat_map-none (unlisted_in v) 0 65536 (λ b low high.
      let c : chain v.store b ≡ record { reached = y.chains b; end = 0 } = chain-is v.store b (y.chains b) r.holds.shows.no_record (r.holds.shows.chains b high) in
      rw c (rw (filter-none (is_unlisted v) (y.chains b) (λ x there. is-listed b x high there)) refl))

  pub none-dropped : IsValidState m → dropped_by listed_rule v ≡ []
  none-dropped valid = rw walk-order (rw (all-kept v.store m y r.holds valid r.list.distinct) none-unlisted)

  pub rows-kept : IsValidState m → map row_of_loaded (kept_by listed_rule v) ≡ model.rows m
  rows-kept valid = rw walk-order (all-rows v.store m y r.holds valid r.list.distinct)

  -- with no operation in flight, the redo leaves the walk
  pub idle-walk : walk (completed_list v.list) ≡ order m y
  idle-walk = walk-idle v.list r.idle ∙ walk-order

  pub found-rest : IsValidState m → map row_of_loaded (kept_among v.store held_rule (walk (completed_list v.list))) ≡ model.rest m
  found-rest valid = rw idle-walk (rest-found v.store m y r.holds valid r.list.distinct)
