-- What a part that is found, and none, are to the state.
use Rattle.std.proofs.Common.{◌≡◌, ℕ, ◌<◌, lit<, List, [], ◌∷◌, ◌++◌, length, refl, ap, sym, ◌∙◌, subst, Bool, true, false, Option, None, Some, ⊎_elim}
use Rattle.std.specs.Prelude.{◌||◌, filter, not}
use Rattle.std.specs.Str.{bytes_eq}
use Rattle.std.proofs.lemmas.Bool.{and_from, and_parts, cases_Bool}
use Rattle.blk_model.specs.Items.{Item, key_of, main, part, same_item}
use Rattle.blk_model.specs.State.{State}
use Rattle.blk_model.proofs.Same.{bytes_eq_self, one_item, same_bytes, same_item_self}
use Rattle.spec_folder.specs.Layout.{Layout, is_in, is_listed, nodes_of}
use Rattle.spec_folder.specs.Removal.{is_of_another}
use Rattle.spec_folder.specs.Chains.{Chain}
use Rattle.spec_folder.specs.Searches.{bucket_of_key, chained_for}
use Rattle.spec_folder.specs.View.{store_of}
use Rattle.spec_format.specs.Hash.{hash}
use Rattle.spec_format.specs.Headers.{counting}
use Rattle.std.proofs.lemmas.Nat.{mod_below}
use Rattle.law_folder.proofs.chains.Chains.{chain-is}
use Rattle.law_folder.proofs.commands.Opening.{in-append}
use Rattle.law_folder.proofs.commands.Removing.{in-filter}
use Rattle.blk_chain.specs.Unlinking.{StandsBehind}
use Rattle.law_state.specs.CountsOfParts.{charges_at}
use Rattle.law_state.specs.PartlyOutStops.{LeavesOtherKeys}
use Rattle.law_state.proofs.PartlyOut.{only-listed}
use Rattle.law_state.proofs.Removals.{filter-alike}
use Rattle.blk_object.specs.ListedParts.{AreSearched, FirstPartsLieNext, FoundPartsLieNext, HaveNoPart, NoPartsLeftAreAllOut, is_part_of}

-- ---- none is left

none-in : (key : List ℕ) (items : List Item) (item : Item) → HaveNoPart key items → is_in items item ≡ true → is_part_of key item ≡ false
none-in key [] item none there = absurd (let z : false ≡ true = there in cc)
none-in key (i ∷ items) item none there = ⊎_elim
    (λ (e : same_item item i ≡ true). subst (λ (x : Item). is_part_of key x ≡ false) (sym (one_item item i e)) none.0)
    (λ (e : same_item item i ≡ false). none-in key items item none.1 (rw e at there))
    (cases_Bool (same_item item i))

not-false : (b : Bool) → not b ≡ false → b ≡ true
not-false true e = refl
not-false false e = absurd (let z : true ≡ false = e in cc)

module _ (state : State) (key : List ℕ) (keep : Item → Bool) (leaves : LeavesOtherKeys key keep) (none : HaveNoPart key (filter keep state.uses)) where
  own-out : (item : Item) → is_listed state item ≡ true → bytes_eq key (key_of item) ≡ true → keep item ≡ false
  own-out (main other) listed its = subst (λ (k : List ℕ). keep (main k) ≡ false) (same_bytes key other its) leaves.out
  own-out (part other n) listed its = ⊎_elim
      (λ (e : keep (part other n) ≡ true).
      let there : is_in (filter keep state.uses) (part other n) ≡ true = in-filter keep state.uses (part other n) ∙ and_from (keep (part other n)) (is_in state.uses (part other n)) e listed in
      let no : bytes_eq other key ≡ false = none-in key (filter keep state.uses) (part other n) none there in
      let yes : bytes_eq other key ≡ true = ap (λ (k : List ℕ). bytes_eq other k) (same_bytes key other its) ∙ bytes_eq_self other in
      absurd (let z : true ≡ false = sym yes ∙ no in cc))
      (λ (e : keep (part other n) ≡ false). e)
      (cases_Bool (keep (part other n)))

  keeps-others : (item : Item) → is_listed state item ≡ true → keep item ≡ is_of_another key item
  keeps-others item listed = ⊎_elim
      (λ (e : is_of_another key item ≡ true). leaves.others item e ∙ sym e)
      (λ (e : is_of_another key item ≡ false). own-out item listed (not-false (bytes_eq key (key_of item)) e) ∙ sym e)
      (cases_Bool (is_of_another key item))

  same-left : filter keep state.uses ≡ filter (is_of_another key) state.uses
  same-left = filter-alike keep (is_of_another key) state.uses keeps-others

pub none-left : NoPartsLeftAreAllOut
none-left state layout keep chains unlinked key image k c leaves none =
    let same = same-left state key keep leaves none in (
      only-listed state layout keep (is_of_another key) chains unlinked image k (keeps-others state key keep leaves none),
      c ∙ ap (λ (items : List Item). counting (length items) (charges_at layout (nodes_of layout items))) same,
    )

-- ---- one is found

searched-in : (layout : Layout) (from : Option ℕ) (all items : List Item) (item : Item) → AreSearched layout from all items → is_in items item ≡ true → is_in all item ≡ true
searched-in layout None all items item are there = ap (λ (xs : List Item). is_in xs item) are ∙ there
searched-in layout (Some node) all items item are there =
    ap (λ (xs : List Item). is_in xs item) are.2 ∙ in-append are.0 (are.1 ∷ items) item ∙ last (is_in are.0 item) (same_item item are.1) (is_in items item) there where
      last : (a b c : Bool) → c ≡ true → (a || (b || c)) ≡ true
      last true b c e = refl
      last false true c e = refl
      last false false c e = e

amid-in : (passed behind : List Item) (item : Item) → is_in (passed ++ item ∷ behind) item ≡ true
amid-in passed behind item = in-append passed (item ∷ behind) item ∙ (rw (same_item_self item) (or-true (is_in passed item))) where
  or-true : (b : Bool) → (b || true) ≡ true
  or-true true = refl
  or-true false = refl

pub first-next : FirstPartsLieNext
first-next state layout keep chains unlinked key from items found before prefix suffix image k are first stands =
    let item = part key found.number in
    let there : is_in items item ≡ true = ap (λ (xs : List Item). is_in xs item) first.split ∙ amid-in first.passed first.behind item in
    let both = and_parts (keep item) (is_in state.uses item) (sym (in-filter keep state.uses item) ∙ searched-in layout from (filter keep state.uses) items item are there) in
    record {
      was = first.was;
      lies = record {
        stays = both.0;
        lies = record {
          listed = both.1;
          here = first.here;
          prefix = prefix;
          suffix = suffix;
          stands = subst (λ (w : ℕ). StandsBehind (chains (bucket_of_key first.was.key)) w before prefix suffix) (sym first.entry_is) stands;
        };
      };
      node_is = first.node_is;
      entry_is = first.entry_is;
    }

pub found-next : FoundPartsLieNext
found-next state layout keep chains unlinked key from items found name before image k are first same f =
    let below : bucket_of_key name < 65536 = mod_below (hash name) 65536 (lit< tt) in
    let chain_same : chained_for (store_of image) name ≡ chains (bucket_of_key name) = ap (λ (c : Chain). c.reached) (chain-is (store_of image) (bucket_of_key name) (chains (bucket_of_key name)) k.holds.no_record (k.holds.chains (bucket_of_key name) below)) in
    first-next state layout keep chains unlinked key from items found before f.prefix f.suffix image k are first
    (subst (λ (x : List ℕ). StandsBehind (chains (bucket_of_key x)) found.entry before f.prefix f.suffix) (sym same) (subst (λ (ws : List ℕ). StandsBehind ws found.entry before f.prefix f.suffix) chain_same f.stands))
