-- The allocations of a kind are at most five for each item and doomed object, and one for each unlinked word.
use Rattle.std.proofs.Common.{◌≡◌, ◌≢◌, ◌⊎◌, inl, inr, ℕ, zero, suc, ◌+◌, ◌*◌, ◌<◌, ◌≤◌, List, [], ◌∷◌, length, refl, ap, sym, ◌∙◌, subst, arith, ⊎_elim, Bool, true, false, cond, Option, None, Some, length-append, get_or, set, get_or-set_other}
use Rattle.std.specs.Prelude.{◌&&◌, ◌==◌, not, filter, is_some, IsSomeAnd}
use Rattle.std.specs.List.{AllByRecursion, cons_option, filter_map, flat_map, sum_by}
use Rattle.std.proofs.lemmas.Bool.{and_parts, cases_Bool, eq-eqb, eqb-true, or_left, or_parts, or_right}
use Rattle.std.proofs.lemmas.List.Elements.{filter_map-append}
use Rattle.std.proofs.lemmas.Bool.Decides.{nat_tests}
use Rattle.std.proofs.lemmas.List.{length-map}
use Rattle.std.proofs.lemmas.List.Sums.{length-filter, sum_by-append, sum_by-cons, sum_by-set}
use Rattle.spec_image.specs.Bytes as image_bytes
use Rattle.spec_image.specs.Image.{Image, Block, byte}
use Rattle.blk_model.specs.Room.{items}
use Rattle.blk_model.specs.State.{State, Object, object_at}
use Rattle.blk_model.specs.Totals.{is_doomed_slot}
use Rattle.blk_model.proofs.Each.{some_within}
use Rattle.spec_format.specs.Address.{blocks_256, external, file_selector, kind_of, rankings}
use Rattle.spec_format.specs.BlockFiles.{first_block_damage, is_among, linked, linked_as, stands_in}
use Rattle.spec_format.specs.Claims.{is_in_file}
use Rattle.spec_format.specs.Headers.{allocations_of}
use Rattle.spec_format.specs.Records.{entry_in}
use Rattle.spec_image.proofs.Runs.{some_inj}
use Rattle.spec_folder.specs.Entries.{stored_streams}
use Rattle.spec_folder.specs.Layout.{Layout, order, rule_of}
use Rattle.spec_folder.specs.ListView.{Distinct}
use Rattle.spec_folder.specs.Loads.{Loaded}
use Rattle.spec_folder.specs.Sound.{words_of}
use Rattle.spec_folder.specs.Tidy.{doomed_nodes}
use Rattle.spec_folder.specs.View.{RecordFields, address_of, data_size_of, entry_at, fields_of, store_of}
use Rattle.law_folder.proofs.claims.ByteChanges.{stands-linked}
use Rattle.law_folder.proofs.chains.ChainWords.{shown-fields}
use Rattle.law_folder.proofs.states.Charges.{listed-totals}
use Rattle.law_folder.proofs.walks.Loads.{load-then}
use Rattle.law_folder.proofs.states.Standing.{kept-at}
use Rattle.law_folder.proofs.updates.StillShown.{standing-parts}
use Rattle.law_state.specs.BoundLaws.{HaveFewAllocations, KeptAllocationsAreFew, KeptAllocationsLeaveRoom}
use Rattle.law_state.specs.Keeping.{KeepsUncounted, all_loaded, all_nodes, words_in_use}
use Rattle.law_state.proofs.Allocating.{used-stand}
use Rattle.law_state.proofs.Arranging.{as-sum}
use Rattle.law_state.proofs.Free.{AreStanding, standing-at}
use Rattle.law_state.proofs.Headers.{undamaged}
use Rattle.law_state.proofs.LinkedOnce.{IsOnce, once-1, once-2, once-3, once-4}

abbrev one_if : Bool → ℕ
one_if t = cond t 1 0

-- ---- words of files

in-one : (n v : ℕ) → is_in_file n v ≡ true → n ≡ file_selector v
unfolding is_in_file
in-one n v e = sym (eqb-true (file_selector v) n (and_parts (not (kind_of v == external)) (file_selector v == n) e).1)

block-word : (n v : ℕ) → is_in_file n v ≡ true → kind_of v ≢ external
unfolding is_in_file
block-word n v e is = let k : (kind_of v == external) ≡ true = eq-eqb (kind_of v) external is in let z : not (kind_of v == external) ≡ true = (and_parts (not (kind_of v == external)) (file_selector v == n) e).0 in let c : false ≡ true = ap not (sym k) ∙ z in cc

none-in : (files : List ℕ) (v : ℕ) → ((m : ℕ) → is_among files m ≡ true → is_in_file m v ≡ false) → sum_by (λ k. one_if (is_in_file k v)) files ≡ 0
none-in [] v never = refl
none-in (m ∷ files) v never =
    let e = never m (or_left (m == m) (is_among files m) (eq-eqb m m refl)) in
    let head : ◌≡◌ {A = ℕ} (one_if (is_in_file m v)) 0 = rw e refl in
    let rest = none-in files v (λ k among. never k (or_right (m == k) (is_among files k) among)) in
    let sum = sum_by-cons (λ k. one_if (is_in_file k v)) m files in omega (arith, sum, head, rest)

-- a word is in one file of a kind at most, and in none where it is of another kind
at-most_one : (files : List ℕ) (v : ℕ) → Distinct files → sum_by (λ n. one_if (is_in_file n v)) files ≤ 1
at-most_one [] v d = omega arith
at-most_one (n ∷ files) v d = ⊎_elim
    (λ (e : is_in_file n v ≡ true).
    let zero_is = none-in files v (λ m among. ⊎_elim (λ (h : is_in_file m v ≡ true). let same : m ≡ n = in-one m v h ∙ sym (in-one n v e) in absurd (let z : true ≡ false = sym among ∙ ap (is_among files) same ∙ d.0 in cc)) (λ (h : is_in_file m v ≡ false). h) (cases_Bool (is_in_file m v))) in
    let head : ◌≡◌ {A = ℕ} (one_if (is_in_file n v)) 1 = rw e refl in
    let sum = sum_by-cons (λ k. one_if (is_in_file k v)) n files in omega (arith, sum, zero_is, head))
    (λ (e : is_in_file n v ≡ false). let rest = at-most_one files v d.1 in let head : ◌≡◌ {A = ℕ} (one_if (is_in_file n v)) 0 = rw e refl in let sum = sum_by-cons (λ k. one_if (is_in_file k v)) n files in omega (arith, sum, rest, head))
    (cases_Bool (is_in_file n v))

sum-added : (f g h : ℕ → ℕ) (files : List ℕ) → ((n : ℕ) → f n ≡ g n + h n) → sum_by f files ≡ sum_by g files + sum_by h files
sum-added f g h [] each = refl
sum-added f g h (n ∷ files) each = let a = sum_by-cons f n files in let b = sum_by-cons g n files in let c = sum_by-cons h n files in let e = each n in let rest = sum-added f g h files each in omega (arith, a, b, c, e, rest)

sum-zero : (files : List ℕ) → sum_by (λ n. length (filter (is_in_file n) [])) files ≡ 0
sum-zero [] = refl
sum-zero (n ∷ files) = let a = sum_by-cons (λ n. length (filter (is_in_file n) [])) n files in let rest = sum-zero files in omega (arith, a, rest)

module _ (image : Image) (kind : ℕ) (once : IsOnce image kind) where
  its-kind : (v : ℕ) → stands_in image v ≡ true → (kind_of v == kind) ≡ false → (m : ℕ) → is_among (linked image kind) m ≡ true → is_in_file m v ≡ false
  its-kind v st apart m among = ⊎_elim
      (λ (h : is_in_file m v ≡ true).
      let linked_is : linked_as image m ≡ Some (kind_of v) = ap (linked_as image) (in-one m v h) ∙ stands-linked image v st (block-word m v h) in
      let same : kind_of v ≡ kind = some_inj (sym linked_is ∙ once.1 m among) in
      absurd (let z : true ≡ false = sym (eq-eqb (kind_of v) kind same) ∙ apart in cc))
      (λ (h : is_in_file m v ≡ false). h)
      (cases_Bool (is_in_file m v))

  in-files : (v : ℕ) → stands_in image v ≡ true → sum_by (λ n. one_if (is_in_file n v)) (linked image kind) ≤ one_if (kind_of v == kind)
  in-files v st = ⊎_elim
      (λ (e : (kind_of v == kind) ≡ true). let one : ◌≡◌ {A = ℕ} (one_if (kind_of v == kind)) 1 = rw e refl in let few = at-most_one (linked image kind) v once.0 in omega (arith, few, one))
      (λ (e : (kind_of v == kind) ≡ false). let none = none-in (linked image kind) v (its-kind v st e) in omega (arith, none))
      (cases_Bool (kind_of v == kind))

  -- so the files of a kind have no more words than there are of the kind
  few-in_files : (words : List ℕ) → AllByRecursion (λ w. stands_in image w ≡ true) words → sum_by (λ n. length (filter (is_in_file n) words)) (linked image kind) ≤ sum_by (λ w. one_if (kind_of w == kind)) words
  few-in_files [] all = let e = sum-zero (linked image kind) in omega (arith, e)
  few-in_files (v ∷ words) all =
      let e = sum-added (λ n. length (filter (is_in_file n) (v ∷ words))) (λ n. one_if (is_in_file n v)) (λ n. length (filter (is_in_file n) words)) (linked image kind) (λ n. counted n) in
      let one = in-files v all.0 in
      let rest = few-in_files words all.1 in
      let sum = sum_by-cons (λ w. one_if (kind_of w == kind)) v words in
      omega (arith, e, one, rest, sum)
    where
      counted : (n : ℕ) → length (filter (is_in_file n) (v ∷ words)) ≡ one_if (is_in_file n v) + length (filter (is_in_file n) words)
      counted n = ⊎_elim
          (λ (t : is_in_file n v ≡ true). let a : length (filter (is_in_file n) (v ∷ words)) ≡ suc (length (filter (is_in_file n) words)) = rw t refl in let b : ◌≡◌ {A = ℕ} (one_if (is_in_file n v)) 1 = rw t refl in omega (arith, a, b))
          (λ (t : is_in_file n v ≡ false). let a : length (filter (is_in_file n) (v ∷ words)) ≡ length (filter (is_in_file n) words) = rw t refl in let b : ◌≡◌ {A = ℕ} (one_if (is_in_file n v)) 0 = rw t refl in omega (arith, a, b))
          (cases_Bool (is_in_file n v))

-- ---- words of a kind

of_kind : ℕ → ℕ → ℕ
of_kind kind w = one_if (kind_of w == kind)

-- a word that isn't 0 counts where it is of the kind
counts : ℕ → ℕ → ℕ
counts kind w = one_if (not (w == 0) && (kind_of w == kind))

nonzero-sum : (kind : ℕ) (xs : List ℕ) → sum_by (of_kind kind) (filter (λ w. not (w == 0)) xs) ≡ sum_by (counts kind) xs
unfolding of_kind counts
nonzero-sum kind [] = refl
nonzero-sum kind (x ∷ xs) =
    let rest = nonzero-sum kind xs in
    let sum = sum_by-cons (counts kind) x xs in
    ⊎_elim
    (λ (e : (x == 0) ≡ true).
    let a : filter (λ w. not (w == 0)) (x ∷ xs) ≡ filter (λ w. not (w == 0)) xs = rw e refl in
    let head : ◌≡◌ {A = ℕ} (one_if (not (x == 0) && (kind_of x == kind))) 0 = rw e refl in
    let less = ap (sum_by (of_kind kind)) a in
    omega (arith, less, rest, sum, head))
    (λ (e : (x == 0) ≡ false).
    let a : filter (λ w. not (w == 0)) (x ∷ xs) ≡ x ∷ filter (λ w. not (w == 0)) xs = rw e refl in
    let head : ◌≡◌ {A = ℕ} (one_if (not (x == 0) && (kind_of x == kind))) (one_if (kind_of x == kind)) = rw e refl in
    let more = ap (sum_by (of_kind kind)) a in
    let one = sum_by-cons (of_kind kind) x (filter (λ w. not (w == 0)) xs) in
    omega (arith, more, one, rest, sum, head))
    (cases_Bool (x == 0))

one-most : (b : Bool) → one_if b ≤ 1
one-most true = omega arith
one-most false = omega arith

counts-one : (kind w : ℕ) → counts kind w ≤ 1
unfolding counts
counts-one kind w = one-most (not (w == 0) && (kind_of w == kind))

counts-other : (kind w : ℕ) → kind_of w ≢ kind → counts kind w ≡ 0
unfolding counts
counts-other kind w apart = go (not (w == 0)) (kind_of w == kind) (λ e. apart (eqb-true (kind_of w) kind e)) where
  go : (a b : Bool) → (b ≡ true → ⊥) → one_if (a && b) ≡ 0
  go true true h = absurd (h refl)
  go true false h = refl
  go false b h = refl

counts-zero : (kind w : ℕ) → (w == 0) ≡ true → counts kind w ≡ 0
unfolding counts
counts-zero kind w e = rw e refl

-- the words of what lies at a node, one after another
seven-words : (kind a b c d e f g : ℕ) → (kind_of a ≢ kind) ⊎ (kind_of b ≢ kind) → (g == 0) ≡ true → sum_by (counts kind) (a ∷ b ∷ c ∷ d ∷ e ∷ f ∷ g ∷ []) ≤ 5
seven-words kind a b c d e f g apart none =
    let s1 = sum_by-cons (counts kind) a (b ∷ c ∷ d ∷ e ∷ f ∷ g ∷ []) in
    let s2 = sum_by-cons (counts kind) b (c ∷ d ∷ e ∷ f ∷ g ∷ []) in
    let s3 = sum_by-cons (counts kind) c (d ∷ e ∷ f ∷ g ∷ []) in
    let s4 = sum_by-cons (counts kind) d (e ∷ f ∷ g ∷ []) in
    let s5 = sum_by-cons (counts kind) e (f ∷ g ∷ []) in
    let s6 = sum_by-cons (counts kind) f (g ∷ []) in
    let s7 = sum_by-cons (counts kind) g [] in
    let z = counts-zero kind g none in
    let ma = counts-one kind a in let mb = counts-one kind b in let mc = counts-one kind c in let md = counts-one kind d in let me = counts-one kind e in let mf = counts-one kind f in
    ⊎_elim
    (λ (x : kind_of a ≢ kind). let y = counts-other kind a x in omega (arith, s1, s2, s3, s4, s5, s6, s7, z, mb, mc, md, me, mf, y))
    (λ (x : kind_of b ≢ kind). let y = counts-other kind b x in omega (arith, s1, s2, s3, s4, s5, s6, s7, z, ma, mc, md, me, mf, y))
    apart

seven : (kind a b c : ℕ) (image : Image) (w : ℕ) → (kind_of a ≢ kind) ⊎ (kind_of b ≢ kind) → (address_of (fields_of (entry_at image w)) 3 == 0) ≡ true → sum_by (counts kind) (a ∷ b ∷ c ∷ (fields_of (entry_at image w)).data_addr) ≤ 5
unfolding image_bytes.words_at entry_in
seven kind a b c image w apart none = seven-words kind a b c (address_of (fields_of (entry_at image w)) 0) (address_of (fields_of (entry_at image w)) 1) (address_of (fields_of (entry_at image w)) 2) (address_of (fields_of (entry_at image w)) 3) apart none

-- the fourth address of what has streams is 0
fourth-none : (image : Image) (e : RecordFields) (streams : List (List ℕ)) → stored_streams (store_of image) e ≡ Some streams → (address_of e 3 == 0) ≡ true
unfolding stored_streams
fourth-none image e streams is = ⊎_elim
    (λ (h : ((data_size_of e 3 == 0) && (address_of e 3 == 0)) ≡ true). (and_parts (data_size_of e 3 == 0) (address_of e 3 == 0) h).1)
    (λ (h : ((data_size_of e 3 == 0) && (address_of e 3 == 0)) ≡ false). absurd (let c : ◌≡◌ {A = Option (List (List ℕ))} None (Some streams) = rw h at is in cc))
    (cases_Bool ((data_size_of e 3 == 0) && (address_of e 3 == 0)))

module _ (state : State) (layout : Layout) (unlinked : List ℕ) (image : Image) (k : KeepsUncounted state layout unlinked image) (kind : ℕ) where
  few-at : (node : ℕ) (l : Loaded) → layout.at node ≡ Some l → sum_by (of_kind kind) (words_of l) ≤ 5
  few-at node l here =
      let stand : AreStanding image l = standing-at image state layout k.represents node l here in
      let a = standing-parts image rankings l.node stand.node in
      let b = standing-parts image blocks_256 l.contents stand.record_ in
      load-then (store_of image) (rule_of layout node) node l (k.represents.holds.shows.each node l here) (λ n e f.
      let shown : fields_of (entry_at image n.contents) ≡ e = shown-fields image n.contents e f.entry in
      let others : l.others ≡ e.long_key ∷ (fields_of (entry_at image n.contents)).data_addr = f.facts.others_are ∙ ap (λ (x : RecordFields). e.long_key ∷ x.data_addr) (sym shown) in
      let none : (address_of (fields_of (entry_at image n.contents)) 3 == 0) ≡ true = ap (λ (x : RecordFields). address_of x 3 == 0) shown ∙ fourth-none image e l.streams f.facts.streams in
      let few : sum_by (counts kind) (l.node ∷ l.contents ∷ l.others) ≤ 5 = subst (λ (xs : List ℕ). sum_by (counts kind) (l.node ∷ l.contents ∷ xs) ≤ 5) (sym others) (seven kind l.node l.contents e.long_key image n.contents (apart (kind_of l.node) (kind_of l.contents) a.1 b.1) none) in
      let same = nonzero-sum kind (l.node ∷ l.contents ∷ l.others) in
      omega (arith, few, same))
    where
      apart : (p q : ℕ) → p ≡ rankings → q ≡ blocks_256 → (p ≢ kind) ⊎ (q ≢ kind)
      apart p q one two = ⊎_elim (λ (e : (kind == 1) ≡ true). inr (λ h. let z : ◌≡◌ {A = ℕ} 2 1 = sym two ∙ h ∙ eqb-true kind 1 e in cc)) (λ (e : (kind == 1) ≡ false). inl (λ h. let z : true ≡ false = sym (eq-eqb kind 1 (sym h ∙ one)) ∙ e in cc)) (cases_Bool (kind == 1))

  few-all : (nodes : List ℕ) → sum_by (of_kind kind) (flat_map words_of (filter_map layout.at nodes)) ≤ 5 * length (filter_map layout.at nodes)
  few-all [] = omega arith
  few-all (node ∷ nodes) = go (layout.at node) refl (few-all nodes) where
    go : (o : Option Loaded) → layout.at node ≡ o → sum_by (of_kind kind) (flat_map words_of (filter_map layout.at nodes)) ≤ 5 * length (filter_map layout.at nodes) → sum_by (of_kind kind) (flat_map words_of (cons_option o (filter_map layout.at nodes))) ≤ 5 * length (cons_option o (filter_map layout.at nodes))
    go None is rest = rest
    go (Some l) is rest = let one = few-at node l is in let both = sum_by-append (of_kind kind) (words_of l) (flat_map words_of (filter_map layout.at nodes)) in let long : length (l ∷ filter_map layout.at nodes) ≡ suc (length (filter_map layout.at nodes)) = refl in omega (arith, one, both, rest, long)

unlinked-few : (kind : ℕ) (ws : List ℕ) → sum_by (of_kind kind) ws ≤ length ws
unfolding of_kind
unlinked-few kind [] = omega arith
unlinked-few kind (w ∷ ws) = let sum = sum_by-cons (of_kind kind) w ws in let one = one-most (kind_of w == kind) in let rest = unlinked-few kind ws in omega (arith, sum, one, rest)

-- ---- doomed objects are no more than the doomed slots

is-slot : Option Object → ℕ
is-slot slot = one_if (is_doomed_slot slot)

doomed-few : (slots : List (Option Object)) (ns : List ℕ) → Distinct ns → AllByRecursion (λ n. is_doomed_slot (get_or slots n None) ≡ true) ns → length ns ≤ sum_by is-slot slots
unfolding is-slot
doomed-few slots [] once dead = omega arith
doomed-few slots (n ∷ ns) once dead =
    let within : n < length slots = inside (get_or slots n None) refl dead.0 in
    let taken = sum_by-set is-slot slots n None None within in
    let one : ◌≡◌ {A = ℕ} (one_if (is_doomed_slot (get_or slots n None))) 1 = ap one_if dead.0 in
    let rest = doomed-few (set slots n None) ns once.1 (still ns once.0 dead.1) in
    omega (arith, taken, one, rest)
  where
    inside : (o : Option Object) → get_or slots n None ≡ o → is_doomed_slot (get_or slots n None) ≡ true → n < length slots
    inside None is e = absurd (let z : false ≡ true = ap is_doomed_slot (sym is) ∙ e in cc)
    inside (Some o) is e = some_within slots n o is

    still : (ms : List ℕ) → is_among ms n ≡ false → AllByRecursion (λ m. is_doomed_slot (get_or slots m None) ≡ true) ms → AllByRecursion (λ m. is_doomed_slot (get_or (set slots n None) m None) ≡ true) ms
    still [] apart all = tt
    still (m ∷ ms) apart all =
        let parts = or_parts (m == n) (is_among ms n) apart in
        let differs : m ≢ n = λ e. (let z : true ≡ false = sym (eq-eqb m n e) ∙ parts.0 in cc) in
        (ap is_doomed_slot (elsewhere m differs) ∙ all.0, still ms parts.1 all.1)
      where
        elsewhere : (m : ℕ) → m ≢ n → get_or (set slots n None) m None ≡ get_or slots m None
        elsewhere m apart = rw get_or-set_other

-- ---- the whole

at-most : (at : ℕ → Option Loaded) (ns : List ℕ) → length (filter_map at ns) ≤ length ns
at-most at [] = omega arith
at-most at (n ∷ ns) = go (at n) (at-most at ns) where
  go : (o : Option Loaded) → length (filter_map at ns) ≤ length ns → length (cons_option o (filter_map at ns)) ≤ length (n ∷ ns)
  go None rest = omega (arith, rest)
  go (Some l) rest = omega (arith, rest)

module _ (state : State) (layout : Layout) (unlinked : List ℕ) (image : Image) (k : KeepsUncounted state layout unlinked image) where
  dead-slots : (ns : List ℕ) → AllByRecursion (λ number. IsSomeAnd (object_at state number) (λ object. object.live ≡ false)) ns → AllByRecursion (λ n. is_doomed_slot (get_or state.objects n None) ≡ true) ns
  dead-slots [] all = tt
  dead-slots (n ∷ ns) all = (go (object_at state n) all.0, dead-slots ns all.1) where
    go : (o : Option Object) → IsSomeAnd o (λ object. object.live ≡ false) → is_doomed_slot o ≡ true
    go None e = absurd e
    go (Some o) e = ap not e

  loaded-few : length (all_loaded state layout k.numbers) ≤ items state
  unfolding is-slot
  loaded-few =
      let split = ap length (filter_map-append layout.at (order state layout) (doomed_nodes layout k.numbers)) in
      let both = length-append (filter_map layout.at (order state layout)) (filter_map layout.at (doomed_nodes layout k.numbers)) in
      let total = (listed-totals image state layout k.represents k.valid).count in
      let listed = ap length (kept-at image state layout k.represents k.valid) in
      let some = at-most layout.at (doomed_nodes layout k.numbers) in
      let named = length-map k.numbers layout.place_of_doomed in
      let doomed = doomed-few state.objects k.numbers k.owners.doomed.once (dead-slots k.numbers k.owners.doomed.each) in
      let counted = sym (length-filter is_doomed_slot state.objects) ∙ as-sum is_doomed_slot state.objects in
      omega (arith, split, both, total, listed, some, named, doomed, counted)

  -- the words of a kind that are in use, also of external files
  pub words-few : (kind : ℕ) → sum_by (λ w. one_if (kind_of w == kind)) (words_in_use unlinked (all_loaded state layout k.numbers)) ≤ 5 * items state + length unlinked
  unfolding of_kind
  words-few kind =
      let both = sum_by-append (of_kind kind) unlinked (flat_map words_of (all_loaded state layout k.numbers)) in
      let one = unlinked-few kind unlinked in
      let other = few-all state layout unlinked image k kind (all_nodes state layout k.numbers) in
      let items_few = loaded-few in
      bound both one other items_few
    where
      bound : {c d e f i : ℕ} → c ≡ d + e → d ≤ length unlinked → e ≤ 5 * f → f ≤ i → c ≤ 5 * i + length unlinked
      bound both one other few = omega (arith, both, one, other, few)

  module _ (kind : ℕ) (once : IsOnce image kind) where
    allocations-same : (files : List ℕ) → ((n : ℕ) → is_among files n ≡ true → is_among (linked image kind) n ≡ true) → sum_by (λ n. allocations_of (byte image (Block n))) files ≡ sum_by (λ n. length (filter (is_in_file n) (words_in_use unlinked (all_loaded state layout k.numbers)))) files
    allocations-same [] sub = refl
    allocations-same (n ∷ files) sub =
        let a = sum_by-cons (λ n. allocations_of (byte image (Block n))) n files in
        let b = sum_by-cons (λ n. length (filter (is_in_file n) (words_in_use unlinked (all_loaded state layout k.numbers)))) n files in
        let there : is_some (linked_as image n) ≡ true = ap (λ (o : Option ℕ). is_some o) (once.1 n (sub n (or_left (n == n) (is_among files n) (eq-eqb n n refl)))) in
        let e = (k.files.mapped n there).allocations.counted in
        let rest = allocations-same files (λ m among. sub m (or_right (n == m) (is_among files m) among)) in
        omega (arith, a, b, e, rest)

    pub few-allocations : HaveFewAllocations image kind (5 * items state + length unlinked)
    unfolding of_kind
    few-allocations = record {
      each = λ n among. let m = k.files.mapped n (ap (λ (o : Option ℕ). is_some o) (once.1 n among)) in record { words = filter (is_in_file n) (words_in_use unlinked (all_loaded state layout k.numbers)); are = m.allocations; empty = m.empty };
      few =
          let same = allocations-same (linked image kind) (λ n among. among) in
          let in_files = few-in_files image kind once (words_in_use unlinked (all_loaded state layout k.numbers)) (used-stand state layout unlinked image k) in
          let both = sum_by-append (of_kind kind) unlinked (flat_map words_of (all_loaded state layout k.numbers)) in
          let one = unlinked-few kind unlinked in
          let other = few-all state layout unlinked image k kind (all_nodes state layout k.numbers) in
          let items_few = loaded-few in
          bound same in_files both one other items_few;
    } where
      bound : {a b c d e f i : ℕ} → a ≡ b → b ≤ c → c ≡ d + e → d ≤ length unlinked → e ≤ 5 * f → f ≤ i → a ≤ 5 * i + length unlinked
      bound same files both one other few = omega (arith, same, files, both, one, other, few)

pub allocations-few : KeptAllocationsAreFew
allocations-few state layout unlinked image kind k block_kind = by-kind kind (grind (arith, nat_tests)) (grind (arith, nat_tests)) where
  none : first_block_damage image ≡ None
  none = undamaged image k.sound

  by-kind : (q : ℕ) → 1 ≤ q → q ≤ 4 → HaveFewAllocations image q (5 * items state + length unlinked)
  by-kind zero low high = absurd (omega arith)
  by-kind (suc zero) low high = few-allocations state layout unlinked image k 1 (once-1 image none)
  by-kind (suc (suc zero)) low high = few-allocations state layout unlinked image k 2 (once-2 image none)
  by-kind (suc (suc (suc zero))) low high = few-allocations state layout unlinked image k 3 (once-3 image none)
  by-kind (suc (suc (suc (suc zero)))) low high = few-allocations state layout unlinked image k 4 (once-4 image none)
  by-kind (suc (suc (suc (suc (suc q))))) low high = absurd (omega arith)

pub leave-room : KeptAllocationsLeaveRoom
leave-room state layout unlinked image kind more k block_kind within few = let h = allocations-few state layout unlinked image kind k block_kind in record { each = h.each; few = bound _ (items state) (length unlinked) h.few within few } where
  bound : (a i n : ℕ) → a ≤ 5 * i + n → i + more ≤ 131072 → n ≤ 5 * more + 2 → a ≤ 655362
  bound a i n all within few = omega (arith, all, within, few)
