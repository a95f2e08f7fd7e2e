-- Files that grow, and files that are deleted.
use Rattle.std.proofs.Common.{◌≡◌, ◌≢◌, ℕ, zero, suc, ◌+◌, ◌-◌, ◌*◌, ◌<◌, ◌≤◌, List, [], ◌∷◌, ◌++◌, map, length, refl, ap, sym, ◌∙◌, subst, arith, ⊎_elim, Bool, true, false, Option, Some, None}
use Rattle.std.specs.Prelude.{if◌then◌else◌, not, ◌&&◌, ◌||◌, ◌==◌, nat_le, unwrap_or}
use Rattle.std.specs.Option.{option_map_or}
use Rattle.std.specs.List.{AllByRecursion, range_with_len}
use Rattle.std.proofs.lemmas.Bool.{cases_Bool, eqb-true, eq-eqb, and_parts, le-leb, leb-true, or_left, or_right, or_parts, not-false}
use Rattle.std.proofs.lemmas.Bool.Decides.{eqb_tells}
use Rattle.std.proofs.Math.Dec.{eqb}
use Rattle.std.specs.Cmp.Derive.{both_true}
use Rattle.spec_image.specs.Image.{Index, Block, External, Image, byte, length_of}
use Rattle.spec_image.specs.Checks.{Damage, first_of}
use Rattle.spec_image.specs.Steps.{Delete, applied}
use Rattle.spec_image.specs.Footprint.{Footprint, SameOutside}
use Rattle.spec_image.proofs.Footprints.{same_file_outside}
use Rattle.spec_format.specs.Address.{kind_of, file_selector, first_block, block_count, external_number, external, block_place}
use Rattle.spec_format.specs.Standing.{is_linked_as}
use Rattle.spec_format.specs.Claims.{Claim, BlockOf, ExternalOf, claims_of, claims_of_all, has_claim}
use Rattle.spec_image.specs.Bytes.{content}
use Rattle.spec_format.specs.Headers.{next_file_of, max_entries_of, field_checks, list_checks}
use Rattle.spec_format.specs.BlockFiles.{file_checks, checks_along, checks_of_kind, block_checks, linked_up_to, KeepsHeaders, is_among, linked, files_along, kind_among, linked_as, next_file_in, max_entries_in, stands_in}
use Rattle.spec_folder.specs.View.{view_of}
use Rattle.spec_folder.specs.Layout.{rule_of}
use Rattle.spec_folder.specs.Sound.{words_of}
use Rattle.spec_folder.specs.Footprint.{is_there, is_absent, AgreeBut}
use Rattle.spec_format.specs.Growth.{HaveGrown}
use Rattle.law_folder.proofs.claims.Allocations.{words-stand, words-claims}
use Rattle.law_folder.proofs.claims.ByteChanges.{same-links, agreeing-views, last-there, stands-blocks, stands-linked, stands-some, linked-some}
use Rattle.law_folder.proofs.claims.BlockBytes.{not_same}
use Rattle.law_folder.proofs.claims.ClaimLists.{claim-append, claim-head, no-claim, some-blocks}
use Rattle.law_folder.proofs.claims.Outside.{represents-outside}
use Rattle.law_folder.specs.ByteLaws.{IsOfHeaders, ChangedHeadersHaveGrown, GrowthIsOfAbsentBlocks, GrowthKeepsStates, UnlinkedFilesMayGo}
use Rattle.law_folder.proofs.claims.Growing.{claimed-block}
pub use Rattle.law_folder.proofs.claims.ByteChanges.{places-rise}

-- ---- growth

module _ (old new : Image) (grown : HaveGrown old new) where
  grown-there : (n kind b : ℕ) → is_absent old (BlockOf n b) ≡ false → is_there new n kind b ≡ is_there old n kind b
  unfolding is_absent is_there
  grown-there n kind b clear = go (linked_as old n) refl clear where
    go : (o : Option ℕ) → linked_as old n ≡ o → not (option_map_or (λ k. is_linked_as (linked_as old n) k && nat_le (b + 1) (max_entries_in old n) && nat_le (block_place k (b + 1)) (length_of old (Block n))) o false) ≡ false
        → (is_linked_as (linked_as new n) kind && nat_le (b + 1) (max_entries_in new n) && nat_le (block_place kind (b + 1)) (length_of new (Block n))) ≡ (is_linked_as (linked_as old n) kind && nat_le (b + 1) (max_entries_in old n) && nat_le (block_place kind (b + 1)) (length_of old (Block n)))
    go None at is = cc
    go (Some type) at is =
        let here : (is_linked_as (linked_as old n) type && nat_le (b + 1) (max_entries_in old n) && nat_le (block_place type (b + 1)) (length_of old (Block n))) ≡ true = not-false _ is in
        let p = and_parts (is_linked_as (linked_as old n) type && nat_le (b + 1) (max_entries_in old n)) _ here in
        let q = and_parts (is_linked_as (linked_as old n) type) (nat_le (b + 1) (max_entries_in old n)) p.0 in
        let rise : max_entries_in old n ≤ max_entries_in new n = grown.more n type at in
        let longer : length_of old (Block n) ≤ length_of new (Block n) = grown.longer n type at in
        let most : b + 1 ≤ max_entries_in old n = leb-true (b + 1) (max_entries_in old n) q.1 in
        let ends : block_place type (b + 1) ≤ length_of old (Block n) = leb-true (block_place type (b + 1)) (length_of old (Block n)) p.1 in
        let m1 : nat_le (b + 1) (max_entries_in new n) ≡ true = le-leb (b + 1) (max_entries_in new n) (omega (arith, most, rise)) in
        let l1 : nat_le (block_place type (b + 1)) (length_of new (Block n)) ≡ true = le-leb (block_place type (b + 1)) (length_of new (Block n)) (omega (arith, ends, longer)) in
        rw (at, grown.linked n type at) (⊎_elim
        (λ (e : (type == kind) ≡ true). let same : type ≡ kind = eqb-true type kind e in
        let l2 : nat_le (block_place kind (b + 1)) (length_of new (Block n)) ≡ true = subst (λ (k : ℕ). nat_le (block_place k (b + 1)) (length_of new (Block n)) ≡ true) same l1 in
        let l0 : nat_le (block_place kind (b + 1)) (length_of old (Block n)) ≡ true = subst (λ (k : ℕ). nat_le (block_place k (b + 1)) (length_of old (Block n)) ≡ true) same p.1 in
        rw (e, q.1, m1, l2, l0) refl)
        (λ (e : (type == kind) ≡ false). rw e refl)
        (cases_Bool (type == kind)))

  grown-agree : AgreeBut (is_absent old) old new
  unfolding is_there block_place
  grown-agree = record {
    index = grown.index;
    there = grown-there;
    bytes = λ n kind b i clear there low high.
        let parts = and_parts (is_linked_as (linked_as old n) kind && nat_le (b + 1) (max_entries_in old n)) _ there in
        let ends : block_place kind (b + 1) ≤ length_of old (Block n) = leb-true (block_place kind (b + 1)) (length_of old (Block n)) parts.1 in
        grown.bytes n kind i (linked-some (linked_as old n) kind (and_parts (is_linked_as (linked_as old n) kind) _ parts.0).0) (omega arith) (omega arith);
    externals = λ n _. grown.externals n;
  }

pub growth-absent : GrowthIsOfAbsentBlocks
growth-absent old new grown = grown-agree old new grown

-- ---- the blocks of a valid word are there

there-below : (image : Image) (n kind b last : ℕ) → b ≤ last → is_there image n kind last ≡ true → is_there image n kind b ≡ true
unfolding is_there
there-below image n kind b last below is =
    let p = and_parts (is_linked_as (linked_as image n) kind && nat_le (last + 1) (max_entries_in image n)) _ is in
    let q = and_parts (is_linked_as (linked_as image n) kind) (nat_le (last + 1) (max_entries_in image n)) p.0 in
    let most : last + 1 ≤ max_entries_in image n = leb-true _ _ q.1 in
    let ends : block_place kind (last + 1) ≤ length_of image (Block n) = leb-true _ _ p.1 in
    let rises : block_place kind (b + 1) ≤ block_place kind (last + 1) = places-rise kind (b + 1) (last + 1) (omega (arith, below)) in
    both_true (both_true q.0 (le-leb (b + 1) (max_entries_in image n) (omega (arith, most, below)))) (le-leb (block_place kind (b + 1)) (length_of image (Block n)) (omega (arith, ends, rises)))

module _ (image : Image) (w n b : ℕ) (st : stands_in image w ≡ true) where
  below : (file_selector w ≡ n) × (b < first_block w + block_count w) → kind_of w ≢ external → is_absent image (BlockOf n b) ≡ false
  unfolding is_absent
  below at apart =
      let last : is_there image (file_selector w) (kind_of w) (first_block w + block_count w - 1) ≡ true = sym (last-there image w) ∙ stands-blocks image w st apart in
      let some = some-blocks w in
      let less = at.1 in
      let here : is_there image (file_selector w) (kind_of w) b ≡ true = there-below image (file_selector w) (kind_of w) b (first_block w + block_count w - 1) (omega (arith, some, less)) last in
      let there : is_there image n (kind_of w) b ≡ true = subst (λ (m : ℕ). is_there image m (kind_of w) b ≡ true) at.0 here in
      let linked_w : linked_as image n ≡ Some (kind_of w) = subst (λ (m : ℕ). linked_as image m ≡ Some (kind_of w)) at.0 (stands-linked image w st apart) in
      rw linked_w (ap not there)

  block-there : has_claim (claims_of w) (BlockOf n b) ≡ true → is_absent image (BlockOf n b) ≡ false
  unfolding claims_of
  block-there e = go (w == 0) (kind_of w == external) refl refl e where
    go : (z k : Bool) → (w == 0) ≡ z → (kind_of w == external) ≡ k → has_claim (if z then [] else if k then ExternalOf (external_number w) ∷ [] else map (λ b. BlockOf (file_selector w) b) (range_with_len (first_block w) (block_count w))) (BlockOf n b) ≡ true → is_absent image (BlockOf n b) ≡ false
    go true k zero_is kind h = absurd (stands-some image w st (eqb-true w 0 zero_is))
    go false true zero_is kind h = absurd (let none : has_claim (ExternalOf (external_number w) ∷ []) (BlockOf n b) ≡ false = claim-head (ExternalOf (external_number w)) [] (BlockOf n b) ∙ no-claim (BlockOf n b) in let z : true ≡ false = sym h ∙ none in cc)
    go false false zero_is kind h = below (claimed-block (file_selector w) (first_block w) (block_count w) n b h) (not_same (kind_of w) external kind)

word-there : (image : Image) (w : ℕ) (claim : Claim) → stands_in image w ≡ true → has_claim (claims_of w) claim ≡ true → is_absent image claim ≡ false
unfolding is_absent
word-there image w (ExternalOf n) st e = refl
word-there image w (BlockOf n b) st e = block-there image w n b st e

pub words-there : (image : Image) (ws : List ℕ) (claim : Claim) → AllByRecursion (λ w. stands_in image w ≡ true) ws → has_claim (claims_of_all ws) claim ≡ true → is_absent image claim ≡ false
words-there image [] claim all e = absurd (let z : false ≡ true = sym (no-claim claim) ∙ e in cc)
words-there image (w ∷ ws) claim all e = go (has_claim (claims_of w) claim) refl (words-there image ws claim all.1) (sym (claim-append (claims_of w) (claims_of_all ws) claim) ∙ e) where
  go : (c : Bool) → has_claim (claims_of w) claim ≡ c → (has_claim (claims_of_all ws) claim ≡ true → is_absent image claim ≡ false) → (c || has_claim (claims_of_all ws) claim) ≡ true → is_absent image claim ≡ false
  go true here later h = word-there image w claim all.0 here
  go false here later h = later h

pub growth-keeps : GrowthKeepsStates
growth-keeps old new state layout doomed grown represents exact =
    represents-outside (is_absent old) (view_of old) (view_of new) state layout
    (agreeing-views (is_absent old) old new (growth-absent old new grown))
    (λ claim node owner.
    let o = exact claim node owner in
    let loads = represents.holds.shows.each node o.loaded o.here in
    words-there old (words_of o.loaded) claim (words-stand old o.loaded (rule_of layout node, node, loads)) (ap (λ (cs : List Claim). has_claim cs claim) (words-claims o.loaded) ∙ o.claims))
    represents

-- ---- a file that isn't linked

files-same : (next after : ℕ → ℕ) (left k : ℕ) → ((m : ℕ) → is_among (files_along next left k) m ≡ true → after m ≡ next m) → files_along after left k ≡ files_along next left k
unfolding files_along
files-same next after zero k same = refl
files-same next after (suc left) k same =
    let here : after k ≡ next k = same k (or_left (k == k) _ (eq-eqb k k refl)) in
    ⊎_elim
    (λ (e : (next k == 0) ≡ true). rw (here, e) refl)
    (λ (e : (next k == 0) ≡ false). rw (here, e) (ap (λ (xs : List ℕ). k ∷ xs) (files-same next after left (next k) (λ m h. same m (or_right (k == m) (is_among (if next k == 0 then [] else files_along next left (next k)) m) (rw e h))))))
    (cases_Bool (next k == 0))

-- a file of none of the lists
none-among : (lists : ℕ → List ℕ) (m : ℕ) → kind_among lists m ≡ None → (is_among (lists 1) m ≡ false) × (is_among (lists 2) m ≡ false) × (is_among (lists 3) m ≡ false) × (is_among (lists 4) m ≡ false)
unfolding kind_among
none-among lists m e = go (is_among (lists 1) m) (is_among (lists 2) m) (is_among (lists 3) m) (is_among (lists 4) m) refl refl refl refl e where
  go : (a b c d : Bool) → is_among (lists 1) m ≡ a → is_among (lists 2) m ≡ b → is_among (lists 3) m ≡ c → is_among (lists 4) m ≡ d
      → ◌≡◌ {A = Option ℕ} (if a then Some 1 else if b then Some 2 else if c then Some 3 else if d then Some 4 else None) None → (is_among (lists 1) m ≡ false) × (is_among (lists 2) m ≡ false) × (is_among (lists 3) m ≡ false) × (is_among (lists 4) m ≡ false)
  go true b c d p q r s e = cc
  go false true c d p q r s e = cc
  go false false true d p q r s e = cc
  go false false false true p q r s e = cc
  go false false false false p q r s e = (p, q, r, s)

types-same : (one other : ℕ → List ℕ) (n : ℕ) → one 1 ≡ other 1 → one 2 ≡ other 2 → one 3 ≡ other 3 → one 4 ≡ other 4 → kind_among one n ≡ kind_among other n
unfolding kind_among
types-same one other n a b c d = rw (a, b, c, d) refl

module _ (image : Image) (m : ℕ) (free : linked_as image m ≡ None) where
  abbrev gone : Image
  gone = applied (Delete (Block m)) image

  pub none-linked : (is_among (linked image 1) m ≡ false) × (is_among (linked image 2) m ≡ false) × (is_among (linked image 3) m ≡ false) × (is_among (linked image 4) m ≡ false)
  none-linked = none-among (linked image) m free

  pub other-file : (n : ℕ) → (n == m) ≡ false → gone (Block n) ≡ image (Block n)
  other-file n apart = ⊎_elim (λ (e : (m == n) ≡ true). absurd (let is : (n == m) ≡ true = eq-eqb n m (sym (eqb-true m n e)) in clash (sym is ∙ apart))) (λ (e : (m == n) ≡ false). rw e refl) (cases_Bool (m == n)) where
    clash : true ≡ false → ⊥
    clash e = cc

  next-same : (n : ℕ) → (n == m) ≡ false → next_file_in gone n ≡ next_file_in image n
  unfolding next_file_in
  next-same n apart = ap (λ (o : Option (List ℕ)). next_file_of (content (unwrap_or o []))) (other-file n apart)

  apart-from : (xs : List ℕ) (n : ℕ) → is_among xs m ≡ false → is_among xs n ≡ true → (n == m) ≡ false
  apart-from xs n lacks has = ⊎_elim (λ (e : (eqb n m ≡ true) × (n ≡ m)). absurd (clash (sym has ∙ ap (is_among xs) e.1 ∙ lacks))) (λ (e : (eqb n m ≡ false) × _). e.0) (eqb_tells n m) where
    clash : true ≡ false → ⊥
    clash e = cc

  pub list-same : (kind : ℕ) → is_among (linked image kind) m ≡ false → linked gone kind ≡ linked image kind
  unfolding linked
  list-same kind lacks = files-same (next_file_in image) (next_file_in gone) 59 (kind - 1) (λ n has. next-same n (apart-from (files_along (next_file_in image) 59 (kind - 1)) n lacks has))

  linked-same : (n : ℕ) → linked_as gone n ≡ linked_as image n
  linked-same n = types-same (linked gone) (linked image) n (list-same 1 none-linked.0) (list-same 2 none-linked.1) (list-same 3 none-linked.2) (list-same 4 none-linked.3)

  there-same : (n kind b : ℕ) → is_there gone n kind b ≡ is_there image n kind b
  unfolding is_there max_entries_in
  there-same n kind b =
      ⊎_elim
      (λ (e : (eqb n m ≡ true) × (n ≡ m)).
      let none : linked_as image n ≡ None = subst (λ (x : ℕ). linked_as image x ≡ None) (sym e.1) free in
      rw (linked-same n, none) refl)
      (λ (e : (eqb n m ≡ false) × _).
      ap (λ (o : Option ℕ). is_linked_as o kind && nat_le (b + 1) (max_entries_of (byte gone (Block n))) && nat_le (block_place kind (b + 1)) (length_of gone (Block n))) (linked-same n)
      ∙ ap (λ (o : Option (List ℕ)). is_linked_as (linked_as image n) kind && nat_le (b + 1) (max_entries_of (content (unwrap_or o []))) && nat_le (block_place kind (b + 1)) (length (unwrap_or o []))) (other-file n e.0))
      (eqb_tells n m)

  gone-agree : AgreeBut (λ claim. false) image gone
  unfolding is_there
  gone-agree = record {
    index = λ i shown. refl;
    there = λ n kind b clear. there-same n kind b;
    bytes = λ n kind b i clear there low high.
        let linked_n : linked_as image n ≡ Some kind = linked-some (linked_as image n) kind (and_parts (is_linked_as (linked_as image n) kind) (nat_le (b + 1) (max_entries_in image n)) (and_parts (is_linked_as (linked_as image n) kind && nat_le (b + 1) (max_entries_in image n)) _ there).0).0 in
        ap (λ (o : Option (List ℕ)). content (unwrap_or o []) i) (other-file n (linked-apart n kind linked_n));
    externals = λ n clear. refl;
  } where
    linked-apart : (n kind : ℕ) → linked_as image n ≡ Some kind → (n == m) ≡ false
    linked-apart n kind at = ⊎_elim (λ (e : (eqb n m ≡ true) × (n ≡ m)). absurd (no (sym (subst (λ (x : ℕ). linked_as image x ≡ None) (sym e.1) free) ∙ at))) (λ (e : (eqb n m ≡ false) × _). e.0) (eqb_tells n m) where
      no : {kind : ℕ} → ◌≡◌ {A = Option ℕ} None (Some kind) → ⊥
      no e = cc

  -- the checks read the linked files alone
  checks-same : (kind left k : ℕ) (met : List ℕ) → is_among (files_along (next_file_in image) left k) m ≡ false → checks_along gone kind met left k ≡ checks_along image kind met left k
  unfolding checks_along files_along
  checks-same kind zero k met lacks = ap (λ (o : Option (List ℕ)). file_checks kind (met ++ k ∷ []) 0 k (content (unwrap_or o [])) (length (unwrap_or o []))) (other-file k (or_parts (k == m) false lacks).0)
  checks-same kind (suc left) k met lacks =
      let parts = or_parts (k == m) (is_among (if next_file_in image k == 0 then [] else files_along (next_file_in image) left (next_file_in image k)) m) lacks in
      let next : next_file_in gone k ≡ next_file_in image k = next-same k parts.0 in
      let here : file_checks kind (met ++ k ∷ []) (suc left) k (byte gone (Block k)) (length_of gone (Block k)) ≡ file_checks kind (met ++ k ∷ []) (suc left) k (byte image (Block k)) (length_of image (Block k)) =
      ap (λ (o : Option (List ℕ)). file_checks kind (met ++ k ∷ []) (suc left) k (content (unwrap_or o [])) (length (unwrap_or o []))) (other-file k parts.0) in
      ⊎_elim
      (λ (e : (next_file_in image k == 0) ≡ true). rw (here, next, e) refl)
      (λ (e : (next_file_in image k == 0) ≡ false).
      let rest = checks-same kind left (next_file_in image k) (met ++ k ∷ []) (rw e at parts.1) in
      rw (here, next, e, rest) refl)
      (cases_Bool (next_file_in image k == 0))

  up-same : linked_up_to gone 0 ≡ linked_up_to image 0 × linked_up_to gone 1 ≡ linked_up_to image 1 × linked_up_to gone 2 ≡ linked_up_to image 2 × linked_up_to gone 3 ≡ linked_up_to image 3
  unfolding linked_up_to
  up-same =
      let one = list-same 1 none-linked.0 in
      let two = list-same 2 none-linked.1 in
      let three = list-same 3 none-linked.2 in
      (refl, rw one refl, rw (one, two) refl, rw (one, two, three) refl)

  type-checks : (kind : ℕ) → linked_up_to gone (kind - 1) ≡ linked_up_to image (kind - 1) → is_among (linked image kind) m ≡ false → checks_of_kind gone kind ≡ checks_of_kind image kind
  unfolding checks_of_kind linked
  type-checks kind met lacks = ap (λ (xs : List ℕ). checks_along gone kind xs 59 (kind - 1)) met ∙ checks-same kind 59 (kind - 1) (linked_up_to image (kind - 1)) lacks

  pub blocks-same : block_checks gone ≡ block_checks image
  blocks-same = rw (type-checks 1 up-same.0 none-linked.0, type-checks 2 up-same.1 none-linked.1, type-checks 3 up-same.2 none-linked.2, type-checks 4 up-same.3 none-linked.3) refl

  gone-headers : KeepsHeaders image gone
  gone-headers = record {
    sound = λ sound. ap (λ (cs : List (Option Damage)). first_of (field_checks (byte image Index) (length_of image Index) ++ list_checks (byte image Index) ++ cs)) blocks-same ∙ sound;
    magic = refl;
  }

pub unlinked-go : UnlinkedFilesMayGo
unlinked-go image m free = record { shown = agreeing-views (λ claim. false) image (gone image m free) (gone-agree image m free); linked = linked-same image m free; headers = gone-headers image m free }

-- ---- headers

module _ (footprint : Footprint) (old new : Image) (of : IsOfHeaders footprint) (same : SameOutside footprint old new) (longer : (n : ℕ) → length_of old (Block n) ≤ length_of new (Block n)) where
  next-still : (n : ℕ) → next_file_in new n ≡ next_file_in old n
  unfolding next_file_in
  next-still n = λ k. same.bytes (Block n) 10 (of.extents n 10 refl) k + 256 * same.bytes (Block n) 11 (of.extents n 11 refl) k

  count-still : (n : ℕ) → max_entries_in new n ≡ max_entries_in old n
  unfolding max_entries_in
  count-still n = λ k. same.bytes (Block n) 20 (of.extents n 20 refl) k + 256 * same.bytes (Block n) 21 (of.extents n 21 refl) k + 65536 * same.bytes (Block n) 22 (of.extents n 22 refl) k + 16777216 * same.bytes (Block n) 23 (of.extents n 23 refl) k

  headers-grown : HaveGrown old new
  headers-grown = record {
    index = λ i shown. same.bytes Index i (of.index i shown);
    externals = λ n. same_file_outside footprint old new (External n) same (of.externals n) (of.external_sizes n);
    linked = λ n kind at. same-links old new next-still n ∙ at;
    bytes = λ n kind i at suffix below. same.bytes (Block n) i (of.suffix n i suffix);
    longer = λ n kind at. longer n;
    more = λ n kind at. let e = count-still n in omega (arith, e);
  }

pub headers-change : ChangedHeadersHaveGrown
headers-change footprint old new of same longer = headers-grown footprint old new of same longer
