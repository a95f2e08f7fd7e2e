-- What does not change what is kept of a walk.
use Rattle.std.proofs.Common.{◌≡◌, ℕ, List, [], ◌∷◌, ◌++◌, refl, ap, ap₂, sym, ◌∙◌, ⊎_elim, Bool, true, false, Option, Some, None, Result}
use Rattle.std.specs.Prelude.{if◌then◌else◌, not, ◌&&◌, ◌||◌, ◌==◌, is_some, nat_le, IfSome}
use Rattle.std.specs.Option.{option_map_or, ok_or}
use Rattle.std.specs.List.{filter, filter_map, AllByRecursion}
use Rattle.std.proofs.lemmas.Bool.{cases_Bool}
use Rattle.spec_format.specs.Records.{child}
use Rattle.spec_folder.specs.View.{StoreView, NodeFields, RecordFields}
use Rattle.spec_folder.specs.Entries.{is_key_length}
use Rattle.spec_folder.specs.Reasons.{Reason, ◌>>=◌, demand}
use Rattle.spec_folder.specs.Reasons as reason
use Rattle.spec_folder.specs.Loads.{Rule, Loaded, load, load_record, load_key}
use Rattle.spec_folder.specs.Audit.{is_child, verdict, with_verdict, verdicts, tried, verdict_on, judged, kept_of, kept_among}
use Rattle.spec_folder.specs.Candidates.{SameData, checked_fields, SameRecord, SameNamed}

demand_same : {B : Type 0} (b : Bool) (reason : Reason) (x y : Result B Reason) → (b ≡ true → x ≡ y) → (demand b reason >>= λ _. x) ≡ (demand b reason >>= λ _. y)
demand_same true reason x y same = same refl
demand_same false reason x y same = refl

load_key-same : (v u : StoreView) (rule : Rule) (w contents dirty : ℕ) (e : RecordFields) → SameData v u contents e → load_key v rule w contents dirty e ≡ load_key u rule w contents dirty e
unfolding load_key
load_key-same v u rule w contents dirty e same =
    demand_same (e.state == rule.state) reason.State _ _ (λ _.
    demand_same (e.rankings_node == w) reason.Back _ _ (λ _.
    demand_same (nat_le e.flags 2) reason.Flags _ _ (λ _.
    demand_same (not rule.clean || (dirty == 0)) reason.Dirty _ _ (λ _.
    demand_same (is_key_length contents e) reason.KeyLength _ _ (λ long.
    rw (same.key long, same.chained) refl)))))

load_record-same : (v u : StoreView) (rule : Rule) (w contents dirty : ℕ) (e : RecordFields) → SameData v u contents e → load_record v rule w contents dirty e ≡ load_record u rule w contents dirty e
unfolding load_record
load_record-same v u rule w contents dirty e same = rw (load_key-same v u rule w contents dirty e same, same.streams) refl

-- what comes after a record
checked_load : StoreView → Rule → ℕ → ℕ → ℕ → Option RecordFields → Result Loaded Reason
checked_load v rule w c d o = ok_or o reason.Contents >>= λ e. demand e.checks reason.Seal >>= λ _. load_record v rule w c d e

module _ (v u : StoreView) (rule : Rule) (w c d : ℕ) where
  both_check : (e f : RecordFields) (b k : Bool) → (if b then Some e else None) ≡ (if k then Some f else None) → (b ≡ true → SameData v u c e)
      → (demand b reason.Seal >>= λ _. load_record v rule w c d e) ≡ (demand k reason.Seal >>= λ _. load_record u rule w c d f)
  both_check e f true true same data_same = let cores : e ≡ f = cc in load_record-same v u rule w c d e (data_same refl) ∙ ap (load_record u rule w c d) cores
  both_check e f true false same data_same = cc
  both_check e f false true same data_same = cc
  both_check e f false false same data_same = refl

  checked_load-same : (o p : Option RecordFields) → is_some o ≡ is_some p → checked_fields o ≡ checked_fields p → ((e : RecordFields) → o ≡ Some e → e.checks ≡ true → SameData v u c e)
      → checked_load v rule w c d o ≡ checked_load u rule w c d p
  unfolding checked_load
  checked_load-same None None there checked data_same = refl
  checked_load-same None (Some f) there checked data_same = cc
  checked_load-same (Some e) None there checked data_same = cc
  checked_load-same (Some e) (Some f) there checked data_same = both_check e f e.checks f.checks checked (data_same e refl)

-- what a node loads is the same
loaded_from : StoreView → Rule → ℕ → Option NodeFields → Result Loaded Reason
loaded_from v rule w o = ok_or o reason.Contents >>= λ n. checked_load v rule w n.contents n.dirty (v.entry n.contents)

loaded_from-load : (v : StoreView) (rule : Rule) (w : ℕ) → loaded_from v rule w (v.node_fields w) ≡ load v rule w
unfolding loaded_from checked_load load
loaded_from-load v rule w = refl

loaded_from-same : (v u : StoreView) (rule : Rule) (w : ℕ) (o : Option NodeFields) → IfSome o (λ n. SameRecord v u n.contents) → loaded_from v rule w o ≡ loaded_from u rule w o
unfolding loaded_from
loaded_from-same v u rule w None record_same = refl
loaded_from-same v u rule w (Some n) record_same = checked_load-same v u rule w n.contents n.dirty (v.entry n.contents) (u.entry n.contents) record_same.there record_same.checked record_same.data_same

load-same : (v u : StoreView) (rule : Rule) (w : ℕ) → SameNamed v u w → load v rule w ≡ load u rule w
load-same v u rule w same = sym (loaded_from-load v rule w) ∙ loaded_from-same v u rule w (v.node_fields w) same.record_same ∙ ap (loaded_from u rule w) same.node_fields ∙ loaded_from-load u rule w

-- whether a node names a part is the same
child_of : Option RecordFields → Bool
child_of o = option_map_or (λ e. e.checks && (e.flags == child)) o false

child_of-checked : (o : Option RecordFields) → child_of o ≡ option_map_or (λ e. e.flags == child) (checked_fields o) false
unfolding child_of
child_of-checked None = refl
child_of-checked (Some e) = under e.checks where
  under : (b : Bool) → (b && (e.flags == child)) ≡ option_map_or (λ f. f.flags == child) (if b then Some e else None) false
  under true = refl
  under false = refl

child_by : StoreView → Option NodeFields → Bool
child_by v o = option_map_or (λ n. child_of (v.entry n.contents)) o false

child_by-same : (v u : StoreView) (o : Option NodeFields) → IfSome o (λ n. SameRecord v u n.contents) → child_by v o ≡ child_by u o
unfolding child_by
child_by-same v u None record_same = refl
child_by-same v u (Some n) record_same =
    child_of-checked (v.entry n.contents) ∙ ap (λ (o : Option RecordFields). option_map_or (λ e. e.flags == child) o false) record_same.checked ∙ sym (child_of-checked (u.entry n.contents))

is_child-same : (v u : StoreView) (w : ℕ) → SameNamed v u w → is_child v w ≡ is_child u w
unfolding child_by child_of
is_child-same v u w same = child_by-same v u (v.node_fields w) same.record_same ∙ ap (child_by u) same.node_fields

-- a choice by two tests that agree
filter-same : (p q : ℕ → Bool) (words : List ℕ) → AllByRecursion (λ w. p w ≡ q w) words → filter p words ≡ filter q words
filter-same p q [] h = refl
filter-same p q (w ∷ words) h = rw (h.0, filter-same p q words h.1) refl

-- facts on each element
pub All-to : (P Q : ℕ → Type 0) → ((w : ℕ) → P w → Q w) → (words : List ℕ) → AllByRecursion P words → AllByRecursion Q words
All-to P Q f [] h = tt
All-to P Q f (w ∷ words) h = (f w h.0, All-to P Q f words h.1)

pub All-filter : (P : ℕ → Type 0) (p : ℕ → Bool) (words : List ℕ) → AllByRecursion P words → AllByRecursion P (filter p words)
All-filter P p [] h = tt
All-filter P p (w ∷ words) h = ⊎_elim (λ (e : p w ≡ true). rw e (h.0, All-filter P p words h.1)) (λ (e : p w ≡ false). rw e (All-filter P p words h.1)) (cases_Bool (p w))

pub All-both : (P : ℕ → Type 0) (xs ys : List ℕ) → AllByRecursion P xs → AllByRecursion P ys → AllByRecursion P (xs ++ ys)
All-both P [] ys a b = b
All-both P (x ∷ xs) ys a b = (a.0, All-both P xs ys a.1 b)

verdicts-same : (v u : StoreView) (rule : Rule) (kept : List Loaded) (words : List ℕ) → AllByRecursion (λ w. load v rule w ≡ load u rule w) words → verdicts v rule kept words ≡ verdicts u rule kept words
unfolding verdicts
verdicts-same v u rule kept [] h = refl
verdicts-same v u rule kept (w ∷ words) h = rw h.0 (ap (λ (gs : List (ℕ × Result Loaded Reason)). (w, verdict u rule kept w) ∷ gs) (verdicts-same v u rule (with_verdict kept (verdict u rule kept w)) words h.1))

tried-same : (v u : StoreView) (words : List ℕ) → AllByRecursion (SameNamed v u) words → tried v words ≡ tried u words
tried-same v u words h =
    ap₂ (λ (xs ys : List ℕ). xs ++ ys)
    (filter-same (λ w. not (is_child v w)) (λ w. not (is_child u w)) words (All-to (SameNamed v u) (λ w. not (is_child v w) ≡ not (is_child u w)) (λ w s. ap not (is_child-same v u w s)) words h))
    (filter-same (is_child v) (is_child u) words (All-to (SameNamed v u) (λ w. is_child v w ≡ is_child u w) (is_child-same v u) words h))

-- where two store views agree on what the nodes of a walk name, they keep the same
pub kept_among-same : (v u : StoreView) (rule : Rule) (words : List ℕ) → AllByRecursion (SameNamed v u) words → kept_among v rule words ≡ kept_among u rule words
unfolding kept_among
kept_among-same v u rule words h =
    let loads : AllByRecursion (λ w. load v rule w ≡ load u rule w) (tried v words) =
    All-both (λ w. load v rule w ≡ load u rule w) _ _ (All-filter _ (λ w. not (is_child v w)) words (All-to (SameNamed v u) (λ w. load v rule w ≡ load u rule w) (load-same v u rule) words h)) (All-filter _ (is_child v) words (All-to (SameNamed v u) (λ w. load v rule w ≡ load u rule w) (load-same v u rule) words h)) in
    let same : judged v rule words ≡ judged u rule words = verdicts-same v u rule [] (tried v words) loads ∙ ap (verdicts u rule []) (tried-same v u words h) in
    ap (λ (given : List (ℕ × Result Loaded Reason)). filter_map (λ w. kept_of (verdict_on given w)) words) same
