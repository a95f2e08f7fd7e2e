-- The LRU list, repaired at each of its words.
use Rattle.std.proofs.Common.{◌≡◌, ℕ, List, [], ◌∷◌, ◌++◌, take, refl, ap, ap₂, sym, ◌∙◌, subst, ⊎_elim, Bool, true, false, arith}
use Rattle.std.specs.Prelude.{if◌then◌else◌, not, ◌&&◌, ◌==◌, map, nat_lt}
use Rattle.std.specs.List.{filter}
use Rattle.std.proofs.lemmas.Bool.{cases_Bool, eq-eqb, eqb-true, or_parts, or_left, or_right, or_cases}
use Rattle.std.proofs.lemmas.Bool.Decides.{eqb_tells}
use Rattle.std.proofs.Math.Dec.{eqb}
use Rattle.spec_image.specs.Image.{Image}
use Rattle.spec_image.specs.Steps.{TrailStep, after}
use Rattle.spec_image.specs.Told.{Along}
use Rattle.spec_image.proofs.Cuts.{after-append}
use Rattle.spec_image.proofs.Runs.{until-append, until_weaker2, until_last, until_both}
use Rattle.spec_format.specs.Address.{is_address, is_initialized}
use Rattle.spec_format.specs.Standing.{stands}
use Rattle.spec_format.specs.BlockFiles.{is_among, IsWellFormed}
use Rattle.spec_format.proofs.Finished.{formed-kept}
use Rattle.spec_folder.specs.ListView.{ListView, ListWrite, Next, Head, Tail, Distinct, Segment, IsList, after_writes, last_or}
use Rattle.spec_folder.specs.Completion.{remove, completed_list}
use Rattle.spec_folder.specs.ListPlans.{writes_of, completion_writes, completed_but_operation}
use Rattle.spec_folder.specs.Walk.{walk}
use Rattle.spec_folder.specs.View.{StoreView, checks_at, list_of, store_of}
use Rattle.spec_folder.specs.Loads.{held_rule, Loaded}
use Rattle.spec_folder.specs.Audit.{kept_among}
use Rattle.spec_folder.specs.Found.{kept}
use Rattle.spec_folder.specs.ListView.{IsAtRest}
use Rattle.spec_folder.specs.ListSteps.{IsPartly, steps_of_writes}
use Rattle.spec_folder.specs.ListImages.{IsWritable, CanBeMade, IsCompleted, walked, completed_walk, HasListAtRest, operation_steps, completion_steps}
use Rattle.spec_folder.specs.ShownChanges.{ShowsTheSame}
use Rattle.law_folder.proofs.chains.ChainSizes.{unchanged}
use Rattle.law_folder.proofs.states.Central.{walk-idle}
use Rattle.law_folder.proofs.lists.Adding.{shows-both}
use Rattle.law_folder.proofs.lists.AtRest.{removals-turn}
use Rattle.law_folder.proofs.updates.IndexWords.{same-shown}
use Rattle.law_folder.proofs.lists.Lists.{is_among-append, eqb-sym}
use Rattle.law_folder.proofs.lists.Walks.{walk_list}
use Rattle.law_folder.proofs.walks.Shown.{is_among-filter}
use Rattle.law_folder.proofs.lists.WordStops.{completions-done, completions-can}
use Rattle.law_folder.proofs.lists.WordTurns.{removals-can, removals-rest}
use Rattle.law_folder.proofs.lists.ListWrites.{completion_keeps}
use Rattle.law_folder.proofs.lists.ListCompletions.{at_moment, walk_outcome, last_good}
use Rattle.law_folder.proofs.lists.WriteSteps.{checked-small, writes_show, writes-go_on, WritesShow}
use Rattle.spec_folder.specs.ListPlans.{unless}
use Rattle.law_recovery.specs.EndRepair.{end_writes_of, end_writes}
use Rattle.spec_folder.specs.Audit.{is_kept, kept_nodes}
use Rattle.law_recovery.specs.ListRepair.{end_steps, removal_steps, dropped_nodes, completed_image, ended_image, list_repair_steps, HoldsTheSame, IsListMended, ListsAreRepaired, CompletedListsAreEnded, ListsAtRestNeedNoEnd, all_but, is_first, DroppedNodesAreTheOthers, HasLeft, HasRemoved, RemovalsBegin, KeptNodesArePassed, OtherNodesAreRemoved, ListRepairsEnd}
use Rattle.law_recovery.proofs.EndRepair.{IsWalked, walked-is, ends-mended}
use Rattle.law_folder.proofs.walks.Kept.{kept-without, kept-alone, kept-nodes}
use Rattle.law_recovery.specs.RecordSeals.{KeepsRecordsSealed}
use Rattle.law_recovery.proofs.RecordSeals.{keeps-none, keeps-more, writes-keep}
use Rattle.law_recovery.proofs.Same.{holds-from, shown-same}

-- ---- lists of numbers

filter-both : (p q : ℕ → Bool) (xs : List ℕ) → filter (λ x. p x && q x) xs ≡ filter q (filter p xs)
filter-both p q [] = refl
filter-both p q (x ∷ xs) =
    ⊎_elim
    (λ (a : p x ≡ true). rw a (⊎_elim (λ (b : q x ≡ true). rw b (ap (λ (ys : List ℕ). x ∷ ys) (filter-both p q xs))) (λ (b : q x ≡ false). rw b (filter-both p q xs)) (cases_Bool (q x))))
    (λ (a : p x ≡ false). rw a (filter-both p q xs))
    (cases_Bool (p x))

without-one : (prefix : List ℕ) (node : ℕ) (suffix : List ℕ) → Distinct (prefix ++ node ∷ suffix) → filter (λ x. not (x == node)) (prefix ++ node ∷ suffix) ≡ prefix ++ suffix
without-one [] node suffix once = rw (eq-eqb node node refl) (unchanged node suffix once.0)
without-one (x ∷ prefix) node suffix once =
    let here = or_parts (is_among prefix x) (is_among (node ∷ suffix) x) (sym (is_among-append prefix (node ∷ suffix) x) ∙ once.0) in
    let apart : (x == node) ≡ false = eqb-sym node x (or_parts (node == x) (is_among suffix x) here.1).0 in
    rw apart (ap (λ (ys : List ℕ). x ∷ ys) (without-one prefix node suffix once.1))

pub append-one : (prefix : List ℕ) (node : ℕ) (suffix : List ℕ) → (prefix ++ node ∷ []) ++ suffix ≡ prefix ++ node ∷ suffix
append-one [] node suffix = refl
append-one (x ∷ prefix) node suffix = ap (λ (ys : List ℕ). x ∷ ys) (append-one prefix node suffix)

filter-true : (xs : List ℕ) → filter (λ x. true) xs ≡ xs
filter-true [] = refl
filter-true (x ∷ xs) = ap (λ (ys : List ℕ). x ∷ ys) (filter-true xs)

-- side by side with the numbers that pass a test

filter-else : (p : ℕ → Bool) (x : ℕ) (xs : List ℕ) → p x ≡ false → filter p (x ∷ xs) ≡ filter p xs
filter-else p x xs e = rw e refl

-- a number that isn't the first of those that pass doesn't pass
not-kept : (p : ℕ → Bool) (x : ℕ) (xs others : List ℕ) → others ≡ filter p (x ∷ xs) → is_first x others ≡ false → p x ≡ false
not-kept p x xs others are other =
    ⊎_elim
    (λ (e : p x ≡ true). let first : is_first x (filter p (x ∷ xs)) ≡ true = rw e (eq-eqb x x refl) in let c : true ≡ false = sym first ∙ ap (is_first x) (sym are) ∙ other in cc)
    (λ (e : p x ≡ false). e)
    (cases_Bool (p x))

lacks-filter : (p : ℕ → Bool) (xs : List ℕ) (x : ℕ) → is_among xs x ≡ false → is_first x (filter p xs) ≡ false
lacks-filter p [] x lacks = refl
lacks-filter p (y ∷ xs) x lacks =
    let parts = or_parts (y == x) (is_among xs x) lacks in
    ⊎_elim (λ (e : p y ≡ true). rw e (eqb-sym y x parts.0)) (λ (e : p y ≡ false). rw e (lacks-filter p xs x parts.1)) (cases_Bool (p y))

without-other : (x : ℕ) (xs others : List ℕ) → is_first x others ≡ false → all_but (x ∷ xs) others ≡ x ∷ all_but xs others
without-other x xs [] other = refl
without-other x xs (o ∷ others) other = rw other refl

pub filter-without : (p : ℕ → Bool) (xs : List ℕ) → Distinct xs → filter (λ x. not (p x)) xs ≡ all_but xs (filter p xs)
filter-without p [] once = refl
filter-without p (x ∷ xs) once =
    ⊎_elim
    (λ (e : p x ≡ true). rw (e, eq-eqb x x refl) (filter-without p xs once.1))
    (λ (e : p x ≡ false). rw e (ap (λ (ys : List ℕ). x ∷ ys) (filter-without p xs once.1) ∙ sym (without-other x xs (filter p xs) (lacks-filter p xs x once.0))))
    (cases_Bool (p x))

-- the first of those that pass does, where it occurs once
is-kept : (p : ℕ → Bool) (x : ℕ) (xs others : List ℕ) → is_among xs x ≡ false → x ∷ others ≡ filter p (x ∷ xs) → p x ≡ true
is-kept p x xs others once are =
    ⊎_elim
    (λ (e : p x ≡ true). e)
    (λ (e : p x ≡ false).
    let first : is_first x (filter p xs) ≡ true = ap (is_first x) (sym (filter-else p x xs e) ∙ sym are) ∙ eq-eqb x x refl in
    let c : true ≡ false = sym first ∙ lacks-filter p xs x once in cc)
    (cases_Bool (p x))

behind-first : (p : ℕ → Bool) (x : ℕ) (xs others : List ℕ) → p x ≡ true → x ∷ others ≡ filter p (x ∷ xs) → others ≡ filter p xs
behind-first p x xs others good are = let both : x ∷ others ≡ x ∷ filter p xs = are ∙ (rw good refl) in cc

lone : (x w : ℕ) → is_among (x ∷ []) w ≡ true → x ≡ w
lone x w e = ⊎_elim (λ (h : (x == w) ≡ true). eqb-true x w h) (λ (h : false ≡ true). absurd (cc)) (or_cases (x == w) false e)

in-before : (xs : List ℕ) (w : ℕ) → is_among (xs ++ []) w ≡ true → is_among xs w ≡ true
in-before xs w e = ⊎_elim (λ (h : is_among xs w ≡ true). h) (λ (h : false ≡ true). absurd (cc)) (or_cases (is_among xs w) false (sym (is_among-append xs [] w) ∙ e))

filter-same : (p q : ℕ → Bool) (xs : List ℕ) → ((x : ℕ) → q x ≡ true → p x ≡ true) → ((x : ℕ) → p x ≡ true → is_among xs x ≡ true → q x ≡ true) → filter p xs ≡ filter q xs
filter-same p q [] more less = refl
filter-same p q (x ∷ xs) more less =
    let rest : filter p xs ≡ filter q xs = filter-same p q xs more (λ y h among. less y h (or_right (x == y) (is_among xs y) among)) in
    ⊎_elim
    (λ (e : p x ≡ true). rw (e, less x e (or_left (x == x) (is_among xs x) (eq-eqb x x refl))) (ap (λ (ys : List ℕ). x ∷ ys) rest))
    (λ (e : p x ≡ false). ⊎_elim (λ (f : q x ≡ true). let c : true ≡ false = sym (more x f) ∙ e in cc) (λ (f : q x ≡ false). rw (e, f) rest) (cases_Bool (q x)))
    (cases_Bool (p x))

Distinct-behind : (xs ys : List ℕ) → Distinct (xs ++ ys) → Distinct ys
Distinct-behind [] ys once = once
Distinct-behind (x ∷ xs) ys once = Distinct-behind xs ys once.1

-- ---- writes at each of their words

-- a prefix of writes is made, and more can be written
pub made-along : (image : Image) (writes : List ListWrite) → IsWritable image → CanBeMade image writes → Along (λ i. IsPartly image writes i × IsWritable i) image (steps_of_writes writes image)
made-along image writes ready can =
    until_both (IsPartly image writes) IsWritable (IsPartly image writes) IsWritable (steps_of_writes writes image) image (writes_show writes image ready can).along (writes-go_on image writes ready)

-- writes after which the redo leaves nodes that keep the same, after each prefix of them
pub writes-hold : (from image : Image) (writes : List ListWrite) → IsWellFormed from → IsWellFormed image → IsWritable image → ShowsTheSame (store_of from) (store_of image) → CanBeMade image writes
    → ((count : ℕ) → kept_among (store_of from) held_rule (walk (completed_list (after_writes (take count writes) (list_of image)))) ≡ kept from) → Along (HoldsTheSame from) image (steps_of_writes writes image)
writes-hold from image writes well_from well ready same can keeps =
    let P : Image → Type 0 = λ i. IsPartly image writes i × IsWritable i in
    let Q : Image → Type 0 = HoldsTheSame from in
    let each : (i : Image) → P i → Q i = λ i part.
    holds-from from i well_from (formed-kept image i part.0.headers well) part.1 (shows-both (store_of from) (store_of image) (store_of i) same part.0.shown.store)
    (ap (λ (l : ListView). kept_among (store_of from) held_rule (walk (completed_list l))) part.0.shown.list ∙ keeps part.0.made) in
    until_weaker2 P Q P Q (steps_of_writes writes image) image each each (made-along image writes ready can)

-- ---- removals

module _ (from : Image) (well_from : IsWellFormed from) (rests : HasListAtRest (walked from) from) where
  store : StoreView
  store = store_of from

  abbrev keep : ℕ → Bool
  keep node = is_kept (store_of from) held_rule (walked from) node

  kept-walked : kept from ≡ kept_among (store_of from) held_rule (walked from)
  unfolding kept
  kept-walked = ap (kept_among (store_of from) held_rule) (walk-idle (list_of from) rests.idle)

  -- nodes of the list that are chosen so that no kept one is left out
  record IsChoice (nodes : List ℕ) : Type 0 where
    test : ℕ → Bool
    keeps : (node : ℕ) → keep node ≡ true → test node ≡ true
    are : nodes ≡ filter test (walked from)

  choice-keeps : (nodes : List ℕ) → IsChoice nodes → kept_among (store_of from) held_rule nodes ≡ kept from
  choice-keeps nodes choice = ap (kept_among (store_of from) held_rule) choice.are ∙ kept-without (store_of from) held_rule (walked from) rests.whole.distinct choice.test choice.keeps ∙ sym kept-walked

  choice-less : (prefix : List ℕ) (node : ℕ) (suffix : List ℕ) → Distinct (prefix ++ node ∷ suffix) → keep node ≡ false → IsChoice (prefix ++ node ∷ suffix) → IsChoice (prefix ++ suffix)
  choice-less prefix node suffix once drops choice = record {
    test = λ w. choice.test w && not (w == node);
    keeps = λ w kept_is.
        let apart : (w == node) ≡ false = ⊎_elim (λ (e : (eqb w node ≡ true) × (w ≡ node)). let no : keep w ≡ false = ap keep e.1 ∙ drops in cc) (λ (e : (eqb w node ≡ false) × _). e.0) (eqb_tells w node) in
        rw (choice.keeps w kept_is, apart) refl;
    are = sym (without-one prefix node suffix once) ∙ ap (filter (λ w. not (w == node))) choice.are ∙ sym (filter-both choice.test (λ w. not (w == node)) (walked from));
  }

  choice-of : (nodes : List ℕ) (image : Image) → HasLeft from nodes image → IsChoice nodes
  choice-of nodes image left = record { test = left.stays; keeps = left.kept_stay; are = left.are }

  left-holds : (nodes : List ℕ) (image : Image) → HasLeft from nodes image → HoldsTheSame from image
  left-holds nodes image left =
      holds-from from image well_from left.well_formed left.writable left.store
      (ap (kept_among (store_of from) held_rule) (walk-idle (list_of image) left.rests.idle ∙ walk_list (list_of image) nodes left.rests.whole) ∙ choice-keeps nodes (choice-of nodes image left))

  one-removal : (prefix : List ℕ) (node : ℕ) (suffix : List ℕ) (image : Image) → keep node ≡ false → HasLeft from (prefix ++ node ∷ suffix) image
      → Along (HoldsTheSame from) image (operation_steps remove node image) × HasLeft from (prefix ++ suffix) (after (operation_steps remove node image) image)
  one-removal prefix node suffix image drops left =
      let can = removals-can image node prefix suffix left.rests in
      let less = choice-less prefix node suffix left.rests.whole.distinct drops (choice-of _ image left) in
      let along = writes-hold from image (writes_of remove node (list_of image)) well_from left.well_formed left.writable left.store can (λ count.
      ap (kept_among (store_of from) held_rule) (removals-turn node (list_of image) prefix suffix left.rests count) ∙ either (nat_lt count 2) (prefix ++ node ∷ suffix) (prefix ++ suffix) (choice-keeps _ (choice-of _ image left)) (choice-keeps _ less)) in
      let shows : WritesShow image (writes_of remove node (list_of image)) = writes_show (writes_of remove node (list_of image)) image left.writable can in
      let last = until_last (HoldsTheSame from) (HoldsTheSame from) (operation_steps remove node image) image along in (
        along,
        record {
          well_formed = last.well_formed;
          writable = last.writable;
          store = shows-both (store_of from) (store_of image) _ left.store shows.ends.store;
          seals = keeps-more from image _ left.seals (writes-keep (writes_of remove node (list_of image)) image left.writable can);
          rests = removals-rest image node prefix suffix left.writable left.rests;
          stays = less.test;
          kept_stay = less.keeps;
          are = less.are;
        },
      ) where
        either : (b : Bool) (old new : List ℕ) → kept_among (store_of from) held_rule old ≡ kept from → kept_among (store_of from) held_rule new ≡ kept from → kept_among (store_of from) held_rule (if b then old else new) ≡ kept from
        either true old new p q = p
        either false old new p q = q

  removals : (suffix prefix : List ℕ) (image : Image) → HasLeft from (prefix ++ suffix) image
      → Along (HoldsTheSame from) image (removal_steps (filter (λ node. not (keep node)) suffix) image)
      × HasLeft from (prefix ++ filter keep suffix) (after (removal_steps (filter (λ node. not (keep node)) suffix) image) image)
  removals [] prefix image left = (left-holds (prefix ++ []) image left, left)
  removals (node ∷ suffix) prefix image left =
      ⊎_elim
      (λ (e : keep node ≡ true).
      let moved : HasLeft from ((prefix ++ node ∷ []) ++ suffix) image = subst (λ (ns : List ℕ). HasLeft from ns image) (sym (append-one prefix node suffix)) left in
      let rest = removals suffix (prefix ++ node ∷ []) image moved in
      rw e (rest.0, subst (λ (ns : List ℕ). HasLeft from ns (after (removal_steps (filter (λ node. not (keep node)) suffix) image) image)) (append-one prefix node (filter keep suffix)) rest.1))
      (λ (e : keep node ≡ false).
      let one = one-removal prefix node suffix image e left in
      let between : Image = after (operation_steps remove node image) image in
      let rest = removals suffix prefix between one.1 in
      rw e (
        until-append (HoldsTheSame from) (HoldsTheSame from) (operation_steps remove node image) (removal_steps (filter (λ node. not (keep node)) suffix) between) image one.0 rest.0,
        subst (HasLeft from (prefix ++ filter keep suffix)) (sym (after-append (operation_steps remove node image) (removal_steps (filter (λ node. not (keep node)) suffix) between) image)) rest.1,
      ))
      (cases_Bool (keep node))

-- ---- the end

pub zero_bad : (image : Image) → (list_of image).checks 0 ≡ false
unfolding list_of checks_at stands is_address is_initialized
zero_bad image = refl

-- what repairs the end can be written
pub end-can : (image : Image) → CanBeMade image (end_writes (list_of image))
unfolding end_writes walk
end-can image = by_nodes (walk (list_of image)) (walked-is (list_of image).checks (list_of image).next (list_of image).prev 131072 [] (list_of image).head (list_of image).head) where
  Checks : ℕ → Type 0
  Checks node = (list_of image).checks node ≡ true

  no : (a b : Bool) → CanBeMade image (unless a (Head 0) ++ unless b (Tail 0))
  no true true = record { nodes = tt; words = tt }
  no true false = record { nodes = tt; words = (omega arith, tt) }
  no false true = record { nodes = tt; words = (omega arith, tt) }
  no false false = record { nodes = tt; words = (omega arith, (omega arith, tt)) }

  some : (last : ℕ) → Checks last → (a b : Bool) → CanBeMade image (unless a (Next last last) ++ unless b (Tail last))
  some last good true true = record { nodes = tt; words = tt }
  some last good true false = record { nodes = tt; words = (checked-small image last good, tt) }
  some last good false true = record { nodes = (good, tt); words = (checked-small image last good, tt) }
  some last good false false = record { nodes = (good, tt); words = (checked-small image last good, (checked-small image last good, tt)) }

  by_nodes : (nodes : List ℕ) → IsWalked (list_of image).checks (list_of image).next (list_of image).prev 131072 [] (list_of image).head (list_of image).head nodes → CanBeMade image (end_writes_of (list_of image) nodes)
  by_nodes [] is = no _ _
  by_nodes (node ∷ nodes) is = some (last_or node nodes) (last_good (list_of image).checks (list_of image).next (list_of image).prev (list_of image).head node nodes _ is.linked) _ _

-- ---- the whole

pub holds-trans : (a b c : Image) → HoldsTheSame a b → HoldsTheSame b c → HoldsTheSame a c
holds-trans a b c p q = record { well_formed = q.well_formed; writable = q.writable; kept_same = q.kept_same ∙ p.kept_same; found_same = q.found_same ∙ p.found_same }

-- the redo
completion-holds : (image : Image) → IsWellFormed image → IsWritable image → Along (HoldsTheSame image) image (completion_steps image)
unfolding kept
completion-holds image well ready =
    let list : ListView = list_of image in
    writes-hold image image (completion_writes list) well well ready (same-shown (store_of image)) (completions-can image) (λ count.
    ap (kept_among (store_of image) held_rule)
    (walk_outcome (after_writes (take count (completion_writes list)) list) ∙ ap walk (at_moment (λ u. completed_but_operation u ≡ completed_but_operation list) (completion_writes list) list count (completion_keeps list)) ∙ sym (walk_outcome list)))

-- the end of a list at which no operation is in flight
record HasEnd (from image : Image) : Type 0 where
  along : Along (HoldsTheSame from) from (end_steps from)
  rests : HasListAtRest (walked from) image
  same : ShowsTheSame (store_of from) (store_of image)
  seals : KeepsRecordsSealed from image

ends-hold : (image : Image) → IsWellFormed image → IsWritable image → (list_of image).transaction ≡ 0 → HasEnd image (after (end_steps image) image)
unfolding kept
ends-hold image well ready idle =
    let list : ListView = list_of image in
    let mended = ends-mended list idle (zero_bad image) in
    let shows : WritesShow image (end_writes list) = writes_show (end_writes list) image ready (end-can image) in
    record {
      along = writes-hold image image (end_writes list) well well ready (same-shown (store_of image)) (end-can image) (λ count. ap (kept_among (store_of image) held_rule) (mended.0 count ∙ sym (walk-idle list idle)));
      rests = subst (λ (l : ListView). IsAtRest l (walk list)) (sym shows.ends.list) mended.1;
      same = shows.ends.store;
      seals = writes-keep (end_writes list) image ready (end-can image);
    }

-- ---- the three, one after the other

module _ (image : Image) (well : IsWellFormed image) (ready : IsWritable image) where
  abbrev c : Image
  c = completed_image image

  abbrev e : Image
  e = ended_image image

  along-completion : Along (HoldsTheSame image) image (completion_steps image)
  along-completion = completion-holds image well ready

  holds-completed : HoldsTheSame image c
  holds-completed = until_last (HoldsTheSame image) (HoldsTheSame image) (completion_steps image) image along-completion

  done : IsCompleted image c
  done = completions-done image ready

  end : HasEnd c e
  end = ends-hold c holds-completed.well_formed holds-completed.writable done.idle

  along-end : Along (HoldsTheSame image) c (end_steps c)
  along-end = until_weaker2 (HoldsTheSame c) (HoldsTheSame image) (HoldsTheSame c) (HoldsTheSame image) (end_steps c) c (λ i. holds-trans image c i holds-completed) (λ i. holds-trans image c i holds-completed) end.along

  holds-ended : HoldsTheSame image e
  holds-ended = until_last (HoldsTheSame image) (HoldsTheSame image) (end_steps c) c along-end

  walks : walked e ≡ walked c
  walks = walk_list (list_of e) (walked c) end.rests.whole

  rests : HasListAtRest (walked e) e
  rests = subst (λ (ns : List ℕ). HasListAtRest ns e) (sym walks) end.rests

  store-ended : ShowsTheSame (store_of image) (store_of e)
  store-ended = shows-both (store_of image) (store_of c) (store_of e) done.store end.same

  seals-ended : KeepsRecordsSealed image e
  seals-ended = keeps-more image c e (writes-keep (completion_writes (list_of image)) image ready (completions-can image)) end.seals

  walked-ended : walked e ≡ completed_walk image
  walked-ended = walks ∙ done.walk

  abbrev kept-ended : List ℕ
  kept-ended = kept_nodes (store_of e) held_rule (walked e)

  -- the kept nodes of the list are those of the folder
  nodes-are : map (λ (k : Loaded). k.node) (kept image) ≡ kept-ended
  unfolding kept
  nodes-are =
      ap (map (λ (k : Loaded). k.node)) (sym holds-ended.kept_same ∙ ap (kept_among (store_of e) held_rule) (walk-idle (list_of e) rests.idle)) ∙ kept-nodes (store_of e) held_rule (walked e) rests.whole.distinct

  nothing-left_out : HasLeft e (walked e) e
  nothing-left_out = record {
    well_formed = holds-ended.well_formed;
    writable = holds-ended.writable;
    store = same-shown (store_of e);
    seals = keeps-none e;
    rests = rests;
    stays = λ x. true;
    kept_stay = λ node k. refl;
    are = sym (filter-true (walked e));
  }

  -- a list that has the kept nodes left is repaired
  list-mended : (last : Image) → HasLeft e kept-ended last → IsListMended image last
  list-mended last left =
      let walks_last : walked last ≡ kept-ended = walk_list (list_of last) kept-ended left.rests.whole in
      let again : kept_nodes (store_of last) held_rule kept-ended ≡ kept-ended =
      sym (kept-nodes (store_of last) held_rule kept-ended left.rests.whole.distinct)
      ∙ ap (map (λ (k : Loaded). k.node)) (sym (shown-same (store_of e) (store_of last) held_rule kept-ended left.store) ∙ kept-alone (store_of e) held_rule (walked e) rests.whole.distinct)
      ∙ kept-nodes (store_of e) held_rule (walked e) rests.whole.distinct in
      record {
        rests = subst (λ (ns : List ℕ). HasListAtRest ns last) (sym nodes-are) left.rests;
        store = shows-both (store_of image) (store_of e) (store_of last) store-ended left.store;
        seals = keeps-more image e last seals-ended left.seals;
        all_kept = subst (λ (ns : List ℕ). kept_nodes (store_of last) held_rule ns ≡ ns) (sym walks_last) again;
      }

  list-repaired : Along (HoldsTheSame image) image (list_repair_steps image) × IsListMended image (after (list_repair_steps image) image)
  list-repaired =
      let out = removals e holds-ended.well_formed rests (walked e) [] e nothing-left_out in
      let removing : List TrailStep = removal_steps (dropped_nodes e) e in
      let along : Along (HoldsTheSame image) e removing = until_weaker2 (HoldsTheSame e) (HoldsTheSame image) (HoldsTheSame e) (HoldsTheSame image) removing e (λ i. holds-trans image e i holds-ended) (λ i. holds-trans image e i holds-ended) out.0 in
      let at : after (list_repair_steps image) image ≡ after removing e = after-append (completion_steps image) (end_steps c ++ removing) image ∙ after-append (end_steps c) removing c in (
        until-append (HoldsTheSame image) (HoldsTheSame image) (completion_steps image) _ image along-completion (until-append (HoldsTheSame image) (HoldsTheSame image) (end_steps c) _ c along-end along),
        subst (IsListMended image) (sym at) (list-mended (after removing e) out.1),
      )

  -- ---- the same, side by side

  removals-begin-here : HasRemoved image [] (completed_walk image) (map (λ k. k.node) (kept image)) e
  removals-begin-here = record {
    left = subst (λ (ns : List ℕ). HasLeft e ns e) walked-ended nothing-left_out;
    holds = holds-ended;
    were_kept = λ node among. cc;
    to_keep = nodes-are ∙ ap (filter (is_kept (store_of e) held_rule (walked e))) walked-ended;
  }

  other-removed : (before : List ℕ) (node : ℕ) (nodes others : List ℕ) (now : Image) → HasRemoved image before (node ∷ nodes) others now → is_first node others ≡ false
      → Along (HoldsTheSame image) now (operation_steps remove node now) × HasRemoved image before nodes others (after (operation_steps remove node now) now)
  other-removed before node nodes others now has other =
      let drops : is_kept (store_of e) held_rule (walked e) node ≡ false = not-kept (is_kept (store_of e) held_rule (walked e)) node nodes others has.to_keep other in
      let one = one-removal e holds-ended.well_formed rests before node nodes now drops has.left in
      let holds : (i : Image) → HoldsTheSame e i → HoldsTheSame image i = λ i. holds-trans image e i holds-ended in
      let along = until_weaker2 (HoldsTheSame e) (HoldsTheSame image) (HoldsTheSame e) (HoldsTheSame image) (operation_steps remove node now) now holds holds one.0 in (
        along,
        record { left = one.1; holds = until_last (HoldsTheSame image) (HoldsTheSame image) (operation_steps remove node now) now along; were_kept = has.were_kept; to_keep = has.to_keep ∙ filter-else (is_kept (store_of e) held_rule (walked e)) node nodes drops },
      )

  kept-passed : (before : List ℕ) (node : ℕ) (nodes others : List ℕ) (now : Image) → HasRemoved image before (node ∷ nodes) (node ∷ others) now → HasRemoved image (before ++ node ∷ []) nodes others now
  kept-passed before node nodes others now has =
      let keep : ℕ → Bool = is_kept (store_of e) held_rule (walked e) in
      let once : is_among nodes node ≡ false = (Distinct-behind before (node ∷ nodes) has.left.rests.whole.distinct).0 in
      let good : keep node ≡ true = is-kept keep node nodes others once has.to_keep in
      record {
        left = subst (λ (ns : List ℕ). HasLeft e ns now) (sym (append-one before node nodes)) has.left;
        holds = has.holds;
        were_kept = λ w among. ⊎_elim
            (λ (h : is_among before w ≡ true). has.were_kept w h)
            (λ (h : is_among (node ∷ []) w ≡ true). subst (λ (x : ℕ). keep x ≡ true) (lone node w h) good)
            (or_cases (is_among before w) (is_among (node ∷ []) w) (sym (is_among-append before (node ∷ []) w) ∙ among));
        to_keep = behind-first keep node nodes others good has.to_keep;
      }

  kept-left : (before : List ℕ) (now : Image) → HasRemoved image before [] [] now → before ++ [] ≡ kept-ended
  kept-left before now has =
      has.left.are
      ∙ filter-same has.left.stays (is_kept (store_of e) held_rule (walked e)) (walked e) has.left.kept_stay
      (λ w stays among. has.were_kept w (in-before before w (ap (λ (ns : List ℕ). is_among ns w) has.left.are ∙ is_among-filter has.left.stays (walked e) w ∙ ap₂ (λ (a b : Bool). a && b) stays among)))

  dropped-others : dropped_nodes e ≡ all_but (completed_walk image) (map (λ k. k.node) (kept image))
  dropped-others =
      ap (filter (λ node. not (is_kept (store_of e) held_rule (walked e) node))) walked-ended
      ∙ filter-without (is_kept (store_of e) held_rule (walked e)) (completed_walk image) (subst Distinct walked-ended rests.whole.distinct)
      ∙ sym (ap (all_but (completed_walk image)) (nodes-are ∙ ap (filter (is_kept (store_of e) held_rule (walked e))) walked-ended))

pub lists-repaired : ListsAreRepaired
lists-repaired = list-repaired

pub lists-ended : CompletedListsAreEnded
lists-ended image well ready = record { holds = holds-ended image well ready; rests = subst (λ (ns : List ℕ). HasListAtRest ns (ended_image image)) (walked-ended image well ready) (rests image well ready); store = store-ended image well ready; seals = seals-ended image well ready }

pub removals-begin : RemovalsBegin
removals-begin = removals-begin-here

pub kept-passed_by : KeptNodesArePassed
kept-passed_by from image before node nodes others well ready has = kept-passed from well ready before node nodes others image has

pub others-removed : OtherNodesAreRemoved
others-removed from image before node nodes others well ready has other = other-removed from well ready before node nodes others image has other

pub removals-end : ListRepairsEnd
removals-end from image before well ready has = list-mended from well ready image (subst (λ (ns : List ℕ). HasLeft (ended_image from) ns image) (kept-left from well ready before image has) has.left)

pub dropped-are : DroppedNodesAreTheOthers
dropped-are = dropped-others

-- ---- what is right already

segment-last : (checks : ℕ → Bool) (next prev : ℕ → ℕ) (before node : ℕ) (nodes : List ℕ) (following : ℕ) → Segment checks next prev before (node ∷ nodes) following → next (last_or node nodes) ≡ following
segment-last checks next prev before node [] following s = s.0.next_is
segment-last checks next prev before node (other ∷ nodes) following s = segment-last checks next prev node other nodes following s.1

ends-right : (list : ListView) (nodes : List ℕ) → IsList list nodes → end_writes_of list nodes ≡ []
ends-right list [] whole = rw (eq-eqb list.head 0 whole.head_is, eq-eqb list.tail 0 whole.tail_is) refl
ends-right list (node ∷ nodes) whole =
    let last : ℕ = last_or node nodes in
    let next_is : list.next last ≡ last = segment-last list.checks list.next list.prev node node nodes last whole.linked in
    rw (eq-eqb (list.next last) last next_is, eq-eqb list.tail last whole.tail_is) refl

none-pending : (list : ListView) → list.transaction ≡ 0 → completion_writes list ≡ []
unfolding completion_writes
none-pending list idle = rw (eq-eqb list.transaction 0 idle) refl

pub none-to_end : ListsAtRestNeedNoEnd
unfolding end_writes
none-to_end image nodes rest = (
  ap (λ (writes : List ListWrite). steps_of_writes writes image) (none-pending (list_of image) rest.idle),
  ap (λ (writes : List ListWrite). steps_of_writes writes image) (ap (end_writes_of (list_of image)) (walk_list (list_of image) nodes rest.whole) ∙ ends-right (list_of image) nodes rest.whole),
)
