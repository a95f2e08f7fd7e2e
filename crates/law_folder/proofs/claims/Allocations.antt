-- The address words of what is kept are the allocations of their files.
use Rattle.std.proofs.Common.{◌≡◌, ℕ, zero, suc, ◌+◌, List, [], ◌∷◌, ◌++◌, map, take, refl, ap, sym, ◌∙◌, subst, arith, ⊎_elim, Bool, true, false, Option, Some, None, Result, Ok, Err}
use Rattle.std.specs.Prelude.{if◌then◌else◌, ◌&&◌, ◌||◌, ◌==◌, not, nat_le, is_some, All}
use Rattle.std.specs.Option.{option_and_then, option_map}
use Rattle.std.specs.List.{AllByRecursion, filter, filter_map, flat_map, cons_option, count_by, range_with_len}
use Rattle.std.proofs.lemmas.Bool.{cases_Bool, eqb-true, eq-eqb, and_parts, or_right, or_parts, or_from}
use Rattle.std.proofs.lemmas.List.Sums.{length-filter}
use Rattle.std.proofs.lemmas.List.{append_assoc, append-nil}
use Rattle.spec_image.specs.Bytes.{words_at}
use Rattle.spec_image.specs.Image.{Block, Image, byte}
use Rattle.spec_format.specs.Address.{kind_of, block_count, file_selector, first_block, external_number, external, rankings, blocks_256}
use Rattle.spec_format.specs.Storage.{is_storage}
use Rattle.spec_format.specs.Records.{entry_in}
use Rattle.spec_format.specs.BlockFiles.{linked_as, stands_in}
use Rattle.spec_format.specs.Claims.{Claim, BlockOf, ExternalOf, same_claim, claims_of, claims_of_all, has_claim, is_in_file, repeats}
use Rattle.spec_format.specs.Headers.{allocations_of}
use Rattle.spec_format.specs.Maps.{AreAllocations}
use Rattle.spec_folder.specs.View.{StoreView, NodeFields, RecordFields, stands_as, entry_at, fields_of, node_fields_at, fields_at, stored_at, store_of, view_of, data_size_of, address_of}
use Rattle.spec_folder.specs.Entries.{stored_key, stored_stream, stored_streams}
use Rattle.spec_folder.specs.Reasons.{Reason}
use Rattle.spec_folder.specs.Loads.{Rule, held_rule, listed_rule, unchained_rule, Loaded, load, all_claims, record_claims, claims_of_loaded}
use Rattle.spec_folder.specs.Audit.{verdict, with_verdict, verdicts, verdict_on, kept_of, kept_among, kept_by, admit}
use Rattle.spec_folder.specs.Found.{kept}
use Rattle.spec_folder.specs.Sound.{words_of, AreOwned}
use Rattle.spec_folder.specs.StandsFor.{KeepsDoomed}
use Rattle.blk_model.specs.State.{State, Object, object_at}
use Rattle.std.specs.Option.{IsSomeAnd}
use Rattle.law_folder.specs.AllocationLaws.{SoundFilesAreAllocated, StoodForFilesAreAllocated}
use Rattle.law_folder.proofs.states.Laid.{repeats-tail}
use Rattle.law_folder.proofs.states.Marking.{repeats-apart}
use Rattle.law_folder.proofs.claims.ClaimLists.{claim-append, claim-head, no-claim, repeats-append}
use Rattle.law_folder.proofs.walks.Loads.{bind_then, load-then}
use Rattle.law_folder.proofs.walks.FrameLaw.{admit-then}
use Rattle.law_folder.proofs.walks.Shown.{filter-all}

-- ---- what is kept was loaded

-- a node loads this by some rule
abbrev pub IsLoadedBy : StoreView → Loaded → Type 0
IsLoadedBy v l = (rule : Rule) × (w : ℕ) × (load v rule w ≡ Ok l)

verdict-loads : (v : StoreView) (rule : Rule) (kept : List Loaded) (ts : List ℕ) (w : ℕ) (l : Loaded) → verdict_on (verdicts v rule kept ts) w ≡ Some (Ok l) → IsLoadedBy v l
unfolding verdicts
verdict-loads v rule kept [] w l e = cc
verdict-loads v rule kept (t ∷ ts) w l e = ⊎_elim
    (λ (x : (t == w) ≡ true).
    let some : ◌≡◌ {A = Option (Result Loaded Reason)} (Some (verdict v rule kept t)) (Some (Ok l)) = rw x at e in
    let ok : verdict v rule kept t ≡ Ok l = cc in
    bind_then (load v rule t) (admit kept) l ok (λ m loaded ok. admit-then kept m l ok (λ same _. (rule, t, loaded ∙ ap Ok same))))
    (λ (x : (t == w) ≡ false). verdict-loads v rule (with_verdict kept (verdict v rule kept t)) ts w l (rw x at e))
    (cases_Bool (t == w))

kept-some : (o : Option (Result Loaded Reason)) (l : Loaded) → kept_of o ≡ Some l → o ≡ Some (Ok l)
kept-some None l e = cc
kept-some (Some (Ok k)) l e = cc
kept-some (Some (Err why)) l e = cc

pub each-some : (P : Loaded → Type 0) (f : ℕ → Option Loaded) → ((w : ℕ) (l : Loaded) → f w ≡ Some l → P l) → (ws : List ℕ) → AllByRecursion P (filter_map f ws)
each-some P f all [] = tt
each-some P f all (w ∷ ws) = go (f w) refl (each-some P f all ws) where
  go : (o : Option Loaded) → f w ≡ o → AllByRecursion P (filter_map f ws) → AllByRecursion P (cons_option o (filter_map f ws))
  go None e rest = rest
  go (Some l) e rest = (all w l e, rest)

pub kept-loads : (v : StoreView) (rule : Rule) (ws : List ℕ) → AllByRecursion (IsLoadedBy v) (kept_among v rule ws)
unfolding kept_among
kept-loads v rule ws = each-some (IsLoadedBy v) _ (λ w l e. verdict-loads v rule [] _ w l (kept-some _ l e)) ws

-- ---- the words of what was loaded are valid

-- a word is valid where it isn't 0
abbrev StandsIf : Image → ℕ → Type 0
StandsIf image x = (x == 0) ≡ false → stands_in image x ≡ true

nonzero : (image : Image) (xs : List ℕ) → AllByRecursion (StandsIf image) xs → AllByRecursion (λ x. stands_in image x ≡ true) (filter (λ w. not (w == 0)) xs)
nonzero image [] all = tt
nonzero image (x ∷ xs) all = ⊎_elim
    (λ (e : (x == 0) ≡ true). rw e (nonzero image xs all.1))
    (λ (e : (x == 0) ≡ false). rw e (all.0 e, nonzero image xs all.1))
    (cases_Bool (x == 0))

node-stands : (image : Image) (w : ℕ) (n : NodeFields) → node_fields_at image w ≡ Some n → stands_in image w ≡ true
unfolding node_fields_at
node-stands image w n e = ⊎_elim
    (λ (s : stands_as image rankings w ≡ true). (and_parts (stands_in image w) (kind_of w == rankings) s).0)
    (λ (s : stands_as image rankings w ≡ false). let none : ◌≡◌ {A = Option NodeFields} None (Some n) = rw s at e in absurd (cc))
    (cases_Bool (stands_as image rankings w))

core-stands : (image : Image) (c : ℕ) (e : RecordFields) → fields_at image c ≡ Some e → (stands_in image c ≡ true) × (fields_of (entry_at image c) ≡ e)
unfolding fields_at
core-stands image c e is = ⊎_elim
    (λ (s : stands_as image blocks_256 c ≡ true). let some : ◌≡◌ {A = Option RecordFields} (Some (fields_of (entry_at image c))) (Some e) = rw s at is in ((and_parts (stands_in image c) (kind_of c == blocks_256) s).0, cc))
    (λ (s : stands_as image blocks_256 c ≡ false). let none : ◌≡◌ {A = Option RecordFields} None (Some e) = rw s at is in absurd (cc))
    (cases_Bool (stands_as image blocks_256 c))

pub storage-of_none : (size x : ℕ) → (size == 0) ≡ true → is_storage size x ≡ true → (x == 0) ≡ true
unfolding is_storage
storage-of_none size x none is = rw none at is

stored-stands : (image : Image) (size x : ℕ) (bytes : List ℕ) → stored_at image size x ≡ Some bytes → StandsIf image x
unfolding stored_at
stored-stands image size x bytes e some = go (is_storage size x) (size == 0) (stands_in image x) _ refl refl refl e where
  go : (a b c : Bool) (last : Option (List ℕ)) → is_storage size x ≡ a → (size == 0) ≡ b → stands_in image x ≡ c
      → (if not a then None else if b then Some [] else if not c then None else last) ≡ Some bytes → stands_in image x ≡ true
  go false b c last is none stands h = cc
  go true true c last is none stands h = let z : (x == 0) ≡ true = storage-of_none size x none is in absurd (let q : true ≡ false = sym z ∙ some in cc)
  go true false false last is none stands h = cc
  go true false true last is none stands h = stands

long_key-stands : (image : Image) (c : ℕ) (e : RecordFields) (key : List ℕ) → stored_key (store_of image) c e ≡ Some key → StandsIf image e.long_key
unfolding stored_key store_of
long_key-stands image c e key is some = go (nat_le e.key_len 927) is where
  lone : (o : Option (List ℕ)) → stored_at image (e.key_len + 1) e.long_key ≡ o → option_map (take e.key_len) o ≡ Some key → stands_in image e.long_key ≡ true
  lone None at h = cc
  lone (Some bytes) at h = stored-stands image (e.key_len + 1) e.long_key bytes at some

  go : (b : Bool) → (if b then (if e.long_key == 0 then Some ((store_of image).key_place c e.key_len) else None) else option_map (take e.key_len) (stored_at image (e.key_len + 1) e.long_key)) ≡ Some key → stands_in image e.long_key ≡ true
  go true h = let none : ◌≡◌ {A = Option (List ℕ)} None (Some key) = rw some at h in absurd (cc)
  go false h = lone (stored_at image (e.key_len + 1) e.long_key) refl h

stream-stands : (image : Image) (e : RecordFields) (i : ℕ) (bytes : List ℕ) → stored_stream (store_of image) e i ≡ Some bytes → StandsIf image (address_of e i)
unfolding stored_stream store_of
stream-stands image e i bytes is = go (nat_le (data_size_of e i) 2147483647) is where
  go : (b : Bool) → (if b then stored_at image (data_size_of e i) (address_of e i) else None) ≡ Some bytes → StandsIf image (address_of e i)
  go true h = stored-stands image (data_size_of e i) (address_of e i) bytes h
  go false h = cc

-- what the streams say
record StreamsStand (image : Image) (e : RecordFields) : Type 0 where
  first : StandsIf image (address_of e 0)
  second : StandsIf image (address_of e 1)
  third : StandsIf image (address_of e 2)
  fourth : StandsIf image (address_of e 3)

streams-stand : (image : Image) (e : RecordFields) (streams : List (List ℕ)) → stored_streams (store_of image) e ≡ Some streams → StreamsStand image e
unfolding stored_streams
streams-stand image e streams is = go ((data_size_of e 3 == 0) && (address_of e 3 == 0)) (stored_stream (store_of image) e 0) (stored_stream (store_of image) e 1) (stored_stream (store_of image) e 2) refl refl refl refl is where
  go : (b : Bool) (s0 s1 s2 : Option (List ℕ)) → ((data_size_of e 3 == 0) && (address_of e 3 == 0)) ≡ b → stored_stream (store_of image) e 0 ≡ s0 → stored_stream (store_of image) e 1 ≡ s1 → stored_stream (store_of image) e 2 ≡ s2
      → (if not b then None else option_and_then (λ first. option_and_then (λ second. option_map (λ third. first ∷ second ∷ third ∷ []) s2) s1) s0) ≡ Some streams → StreamsStand image e
  go false s0 s1 s2 b0 e0 e1 e2 h = cc
  go true None s1 s2 b0 e0 e1 e2 h = cc
  go true (Some a) None s2 b0 e0 e1 e2 h = cc
  go true (Some a) (Some b) None b0 e0 e1 e2 h = cc
  go true (Some a) (Some b) (Some c) b0 e0 e1 e2 h = record {
    first = stream-stands image e 0 a e0;
    second = stream-stands image e 1 b e1;
    third = stream-stands image e 2 c e2;
    fourth = λ some. let z : (address_of e 3 == 0) ≡ true = (and_parts (data_size_of e 3 == 0) (address_of e 3 == 0) b0).1 in absurd (let q : true ≡ false = sym z ∙ some in cc);
  }

addresses-stand : (image : Image) (c : ℕ) → StreamsStand image (fields_of (entry_at image c)) → AllByRecursion (StandsIf image) (fields_of (entry_at image c)).data_addr
unfolding words_at entry_in
addresses-stand image c s = (s.first, (s.second, (s.third, (s.fourth, tt))))

pub words-stand : (image : Image) (l : Loaded) → IsLoadedBy (store_of image) l → AllByRecursion (λ x. stands_in image x ≡ true) (words_of l)
unfolding store_of
words-stand image l by = load-then (store_of image) by.0 by.1 l by.2 (λ n e f.
    let fields = core-stands image n.contents e f.entry in
    let node : stands_in image l.node ≡ true = subst (λ (x : ℕ). stands_in image x ≡ true) (sym f.facts.node_is) (node-stands image by.1 n f.node) in
    let contents : stands_in image l.contents ≡ true = subst (λ (x : ℕ). stands_in image x ≡ true) (sym f.facts.contents_is) fields.0 in
    let long : StandsIf image e.long_key = long_key-stands image n.contents e l.key f.facts.keyed.key in
    let streams : StreamsStand image e = streams-stand image e l.streams f.facts.streams in
    let addresses : AllByRecursion (StandsIf image) e.data_addr = subst (λ (x : RecordFields). AllByRecursion (StandsIf image) x.data_addr) fields.1 (addresses-stand image n.contents (subst (StreamsStand image) (sym fields.1) streams)) in
    nonzero image (l.node ∷ l.contents ∷ l.others) ((λ _. node), ((λ _. contents), subst (AllByRecursion (StandsIf image)) (sym f.facts.others_are) (long, addresses))))

-- ---- the used blocks of these words

pub flat_map-append : {X : Type 0} (f : ℕ → List X) (xs ys : List ℕ) → flat_map f (xs ++ ys) ≡ flat_map f xs ++ flat_map f ys
flat_map-append f [] ys = refl
flat_map-append f (x ∷ xs) ys = ap (λ (zs : List _). f x ++ zs) (flat_map-append f xs ys) ∙ sym (append_assoc (f x) (flat_map f xs) (flat_map f ys))

zero-claims : (x : ℕ) → (x == 0) ≡ true → claims_of x ≡ []
unfolding claims_of
zero-claims x e = rw e refl

nonzero-claims : (xs : List ℕ) → claims_of_all (filter (λ w. not (w == 0)) xs) ≡ claims_of_all xs
nonzero-claims [] = refl
nonzero-claims (x ∷ xs) = ⊎_elim
    (λ (e : (x == 0) ≡ true). rw (e, zero-claims x e) (nonzero-claims xs))
    (λ (e : (x == 0) ≡ false). rw e (ap (λ (cs : List Claim). claims_of x ++ cs) (nonzero-claims xs)))
    (cases_Bool (x == 0))

pub words-claims : (l : Loaded) → claims_of_all (words_of l) ≡ all_claims l
unfolding all_claims record_claims
words-claims l = nonzero-claims (l.node ∷ l.contents ∷ l.others)

pub all-claims : (ls : List Loaded) → claims_of_all (flat_map words_of ls) ≡ claims_of_loaded ls
all-claims [] = refl
all-claims (l ∷ ls) = flat_map-append claims_of (words_of l) (flat_map words_of ls) ∙ ap (λ (cs : List Claim). cs ++ claims_of_all (flat_map words_of ls)) (words-claims l) ∙ ap (λ (cs : List Claim). all_claims l ++ cs) (all-claims ls)

pub repeats-head : (xs ys : List Claim) → repeats (xs ++ ys) ≡ false → repeats xs ≡ false
unfolding repeats
repeats-head [] ys e = refl
repeats-head (x ∷ xs) ys e =
    let p = or_parts (has_claim (xs ++ ys) x) (repeats (xs ++ ys)) e in
    or_from (has_claim xs x) (repeats xs) (or_parts (has_claim xs x) (has_claim ys x) (sym (claim-append xs ys x) ∙ p.0)).0 (repeats-head xs ys p.1)

-- fewer words use less
pub fewer-claims : (p : ℕ → Bool) (xs : List ℕ) (c : Claim) → has_claim (claims_of_all (filter p xs)) c ≡ true → has_claim (claims_of_all xs) c ≡ true
fewer-claims p [] c h = h
fewer-claims p (x ∷ xs) c h = ⊎_elim
    (λ (e : p x ≡ true).
    let here : has_claim (claims_of x ++ claims_of_all (filter p xs)) c ≡ true = rw e at h in
    let parts : (has_claim (claims_of x) c || has_claim (claims_of_all (filter p xs)) c) ≡ true = sym (claim-append (claims_of x) (claims_of_all (filter p xs)) c) ∙ here in
    claim-append (claims_of x) (claims_of_all xs) c ∙ more (has_claim (claims_of x) c) (has_claim (claims_of_all (filter p xs)) c) (has_claim (claims_of_all xs) c) (fewer-claims p xs c) parts)
    (λ (e : p x ≡ false). claim-append (claims_of x) (claims_of_all xs) c ∙ or_right (has_claim (claims_of x) c) (has_claim (claims_of_all xs) c) (fewer-claims p xs c (rw e at h)))
    (cases_Bool (p x)) where
      more : (a b d : Bool) → (b ≡ true → d ≡ true) → (a || b) ≡ true → (a || d) ≡ true
      more true b d f e = refl
      more false b d f e = f e

pub fewer-repeats : (p : ℕ → Bool) (xs : List ℕ) → repeats (claims_of_all xs) ≡ false → repeats (claims_of_all (filter p xs)) ≡ false
fewer-repeats p [] e = e
fewer-repeats p (x ∷ xs) e = ⊎_elim
    (λ (is : p x ≡ true). rw is (repeats-append (claims_of x) (claims_of_all (filter p xs)) (repeats-head (claims_of x) (claims_of_all xs) e) (fewer-repeats p xs (repeats-tail (claims_of x) (claims_of_all xs) e))
    (λ c a b. let none : has_claim (claims_of_all xs) c ≡ false = repeats-apart (claims_of x) (claims_of_all xs) c e a in let some : has_claim (claims_of_all xs) c ≡ true = fewer-claims p xs c b in let z : true ≡ false = sym some ∙ none in cc)))
    (λ (is : p x ≡ false). rw is (fewer-repeats p xs (repeats-tail (claims_of x) (claims_of_all xs) e)))
    (cases_Bool (p x))

-- a word of another file uses no block of this one
range-none : (f n b first count : ℕ) → (f == n) ≡ false → has_claim (map (λ x. BlockOf f x) (range_with_len first count)) (BlockOf n b) ≡ false
range-none f n b first zero apart = no-claim (BlockOf n b)
range-none f n b first (suc count) apart = claim-head (BlockOf f first) (map (λ x. BlockOf f x) (range_with_len (first + 1) count)) (BlockOf n b) ∙ or_from (same_claim (BlockOf n b) (BlockOf f first)) _ (other (b == first)) (range-none f n b (first + 1) count apart) where
  other : (t : Bool) → ((n == f) && t) ≡ false
  other t = rw (swap n f apart) refl where
    swap : (n f : ℕ) → (f == n) ≡ false → (n == f) ≡ false
    swap n f e = ⊎_elim (λ (x : (n == f) ≡ true). let y : (f == n) ≡ true = eq-eqb f n (sym (eqb-true n f x)) in absurd (let z : true ≡ false = sym y ∙ e in cc)) (λ (x : (n == f) ≡ false). x) (cases_Bool (n == f))

pub other-file : (n b x : ℕ) → is_in_file n x ≡ false → has_claim (claims_of x) (BlockOf n b) ≡ false
unfolding is_in_file claims_of
other-file n b x out = go (x == 0) (kind_of x == external) refl where
  go : (a k : Bool) → (kind_of x == external) ≡ k → has_claim (if a then [] else if k then ExternalOf (external_number x) ∷ [] else map (λ b. BlockOf (file_selector x) b) (range_with_len (first_block x) (block_count x))) (BlockOf n b) ≡ false
  go true k e = no-claim (BlockOf n b)
  go false true e = claim-head (ExternalOf (external_number x)) [] (BlockOf n b) ∙ or_from (same_claim (BlockOf n b) (ExternalOf (external_number x))) (has_claim [] (BlockOf n b)) refl (no-claim (BlockOf n b))
  go false false e = range-none (file_selector x) n b (first_block x) (block_count x) (let h : (not (kind_of x == external) && (file_selector x == n)) ≡ false = out in rw e at h)

pub same-marks : (n b : ℕ) (xs : List ℕ) → has_claim (claims_of_all (filter (is_in_file n) xs)) (BlockOf n b) ≡ has_claim (claims_of_all xs) (BlockOf n b)
same-marks n b [] = refl
same-marks n b (x ∷ xs) = ⊎_elim
    (λ (e : is_in_file n x ≡ true). rw e (claim-append (claims_of x) (claims_of_all (filter (is_in_file n) xs)) (BlockOf n b) ∙ ap (λ (t : Bool). has_claim (claims_of x) (BlockOf n b) || t) (same-marks n b xs) ∙ sym (claim-append (claims_of x) (claims_of_all xs) (BlockOf n b))))
    (λ (e : is_in_file n x ≡ false). rw e (same-marks n b xs ∙ ap (λ (t : Bool). t || has_claim (claims_of_all xs) (BlockOf n b)) (sym (other-file n b x e)) ∙ sym (claim-append (claims_of x) (claims_of_all xs) (BlockOf n b))))
    (cases_Bool (is_in_file n x))

-- ---- the whole

pub all-from : {X : Type 0} (P : X → Type 0) (xs : List X) → AllByRecursion P xs → All P xs
all-from P [] h i d less = absurd (omega arith)
all-from P (x ∷ xs) h zero d less = h.0
all-from P (x ∷ xs) h (suc i) d less = all-from P xs h.1 i d (omega arith)

pub still : (P : ℕ → Type 0) (p : ℕ → Bool) (xs : List ℕ) → AllByRecursion P xs → AllByRecursion P (filter p xs)
still P p [] h = tt
still P p (x ∷ xs) h = ⊎_elim (λ (e : p x ≡ true). rw e (h.0, still P p xs h.1)) (λ (e : p x ≡ false). rw e (still P p xs h.1)) (cases_Bool (p x))

pub join : (P : ℕ → Type 0) (xs ys : List ℕ) → AllByRecursion P xs → AllByRecursion P ys → AllByRecursion P (xs ++ ys)
join P [] ys a b = b
join P (x ∷ xs) ys a b = (a.0, join P xs ys a.1 b)

pub all-stand : (image : Image) (ls : List Loaded) → AllByRecursion (IsLoadedBy (store_of image)) ls → AllByRecursion (λ x. stands_in image x ≡ true) (flat_map words_of ls)
all-stand image [] h = tt
all-stand image (l ∷ ls) h = join (λ x. stands_in image x ≡ true) (words_of l) (flat_map words_of ls) (words-stand image l h.0) (all-stand image ls h.1)

pub allocated : (image : Image) (ls : List Loaded) (n : ℕ) → AllByRecursion (IsLoadedBy (store_of image)) ls → AreOwned image (claims_of_loaded ls) → is_some (linked_as image n) ≡ true
    → allocations_of (byte image (Block n)) ≡ count_by (is_in_file n) (flat_map words_of ls) → AreAllocations image n (filter (is_in_file n) (flat_map words_of ls))
allocated image ls n loaded owned linked counted = record {
  stand = all-from (λ x. stands_in image x ≡ true) (filter (is_in_file n) (flat_map words_of ls)) (still (λ x. stands_in image x ≡ true) (is_in_file n) (flat_map words_of ls) (all-stand image ls loaded));
  here = all-from (λ x. is_in_file n x ≡ true) (filter (is_in_file n) (flat_map words_of ls)) (filter-all (is_in_file n) (flat_map words_of ls));
  apart = fewer-repeats (is_in_file n) (flat_map words_of ls) (ap repeats (all-claims ls) ∙ owned.one_owner);
  marks = λ b below. owned.maps n b linked below ∙ ap (λ (cs : List Claim). has_claim cs (BlockOf n b)) (sym (all-claims ls)) ∙ sym (same-marks n b (flat_map words_of ls));
  counted = counted ∙ sym (length-filter (is_in_file n) (flat_map words_of ls));
}

pub sound-allocated : SoundFilesAreAllocated
unfolding kept
sound-allocated image sound n linked =
    allocated image (kept image) n (kept-loads (store_of image) held_rule _) sound.owned linked
    ((sound.in_order.counted n linked).num_entries ∙ ap (λ (ls : List Loaded). count_by (is_in_file n) (flat_map words_of ls)) (append-nil (kept image)))

doomed-loads : (image : Image) (state : State) (numbered : List (ℕ × Loaded)) → AllByRecursion (λ d. IsSomeAnd (object_at state d.0) (λ o. KeepsDoomed (view_of image) o d.1)) numbered → AllByRecursion (IsLoadedBy (store_of image)) (map (λ (d : ℕ × Loaded). d.1) numbered)
doomed-loads image state [] each = tt
doomed-loads image state (d ∷ numbered) each = (go (object_at state d.0) each.0, doomed-loads image state numbered each.1) where
  go : (o : Option Object) → IsSomeAnd o (λ o. KeepsDoomed (view_of image) o d.1) → IsLoadedBy (store_of image) d.1
  go None h = absurd h
  go (Some o) h = (unchained_rule 2, d.1.node, h.loads)

pub both-loads : (v : StoreView) (xs ys : List Loaded) → AllByRecursion (IsLoadedBy v) xs → AllByRecursion (IsLoadedBy v) ys → AllByRecursion (IsLoadedBy v) (xs ++ ys)
both-loads v [] ys a b = b
both-loads v (x ∷ xs) ys a b = (a.0, both-loads v xs ys a.1 b)

pub stood-allocated : StoodForFilesAreAllocated
stood-allocated image state s n linked =
    allocated image (kept_by listed_rule (view_of image) ++ map (λ (d : ℕ × Loaded). d.1) s.doomed) n
    (both-loads (store_of image) (kept_by listed_rule (view_of image)) (map (λ (d : ℕ × Loaded). d.1) s.doomed) (kept-loads (store_of image) listed_rule _) (doomed-loads image state s.doomed s.are_doomed.each))
    s.owned linked (s.in_order.counted n linked).num_entries
