-- Checks of block files that go on holding.
use Rattle.std.proofs.Common.{◌≡◌, ℕ, zero, suc, ◌-◌, ◌≤◌, ◌%◌, ◌^◌, Bool, true, false, not, ◌&&◌, ◌||◌, if◌then◌else◌, List, [], ◌∷◌, ◌++◌, None, Some, refl, sym, ◌∙◌, ap, subst, arith}
use Rattle.std.specs.Prelude.{◌==◌, nat_le, nat_lt}
use Rattle.std.specs.declared.option.Option.{Option}
use Rattle.std.proofs.lemmas.Bool.Decides.{nat_tests}
use Rattle.std.proofs.Math.Bool.{or-true}
use Rattle.spec_image.specs.Bytes.{word_at}
use Rattle.spec_image.specs.Image.{Block, Image, byte, length_of}
use Rattle.spec_image.specs.Checks as checks
use Rattle.spec_image.specs.Checks.{first_of, check_found}
use Rattle.spec_format.specs.Address.{block_size}
use Rattle.spec_format.specs.Headers.{block_magic, block_version, magic_of, version_of, this_file_of, next_file_of, entry_size_of, max_entries_of}
use Rattle.spec_format.specs.BlockFiles.{next_file_in, max_entries_in, files_along, linked, linked_up_to, is_among, is_link, is_block_count, file_checks, checks_along, checks_of_kind, first_block_damage}
use Rattle.spec_format.proofs.Among.{is_among_more}
use Rattle.spec_image.proofs.FirstChecks.{append_none, all_none, passed}

-- a last file has no next one
pub last_link : (met : List ℕ) (next : ℕ) → is_link met 0 next ≡ true → (next == 0) ≡ true
unfolding is_link
last_link met next holds = grind (arith, nat_tests)

-- where no check of two lists fails, none of either does
pub none_parts : (xs ys : List (Option checks.Damage)) → first_of (xs ++ ys) ≡ None → (first_of xs ≡ None) × (first_of ys ≡ None)
none_parts [] ys e = (refl, e)
none_parts (None ∷ xs) ys e = none_parts xs ys e
none_parts (Some x ∷ xs) ys e = absurd (clash e)
  where
    clash : Some x ≡ None → ⊥
    clash c = cc

pub none_both : (xs ys : List (Option checks.Damage)) → first_of xs ≡ None → first_of ys ≡ None → first_of (xs ++ ys) ≡ None
none_both xs ys one other = append_none xs ys one ∙ other

-- the checks of a header, all of which hold
pub record Passed (kind : ℕ) (met : List ℕ) (left n : ℕ) (f : ℕ → ℕ) (size : ℕ) : Type 0 where
  pub whole : nat_le 8192 size ≡ true
  pub magic : (magic_of f == block_magic) ≡ true
  pub is_version : (version_of f == block_version) ≡ true
  pub this_file : (this_file_of f == n) ≡ true
  pub link : is_link met left (next_file_of f) ≡ true
  pub entry_size : (entry_size_of f == block_size kind) ≡ true
  pub count : is_block_count (max_entries_of f) ≡ true

pub checks_hold : (kind : ℕ) (met : List ℕ) (left n : ℕ) (f : ℕ → ℕ) (size : ℕ) → first_of (file_checks kind met left n f size) ≡ None → Passed kind met left n f size
unfolding file_checks
checks_hold kind met left n f size none =
    let each = all_none (file_checks kind met left n f size) none in
    record {
      whole = passed (Block n) 8192 (size % 2 ^ 32) (nat_le 8192 size) (each 0);
      magic = passed (Block n) 0 (word_at f 0) (magic_of f == block_magic) (each 1);
      is_version = passed (Block n) 4 (word_at f 4) (version_of f == block_version) (each 2);
      this_file = passed (Block n) 8 (word_at f 8) (this_file_of f == n) (each 3);
      link = passed (Block n) 8 (word_at f 8) (is_link met left (next_file_of f)) (each 4);
      entry_size = passed (Block n) 12 (word_at f 12) (entry_size_of f == block_size kind) (each 5);
      count = passed (Block n) 20 (word_at f 20) (is_block_count (max_entries_of f)) (each 6);
    }

pub checks_none : (kind : ℕ) (met : List ℕ) (left n : ℕ) (f : ℕ → ℕ) (size : ℕ) → Passed kind met left n f size → first_of (file_checks kind met left n f size) ≡ None
unfolding file_checks
checks_none kind met left n f size p =
    λ i. first_of
    (check_found (Block n) 8192 (size % 2 ^ 32) (p.whole i)
    ∷ check_found (Block n) 0 (word_at f 0) (p.magic i)
    ∷ check_found (Block n) 4 (word_at f 4) (p.is_version i)
    ∷ check_found (Block n) 8 (word_at f 8) (p.this_file i)
    ∷ check_found (Block n) 8 (word_at f 8) (p.link i)
    ∷ check_found (Block n) 12 (word_at f 12) (p.entry_size i)
    ∷ check_found (Block n) 20 (word_at f 20) (p.count i)
    ∷ [])

-- a header keeps what its checks ask, but for its link
pub record KeepsHead (a b : Image) (m : ℕ) : Type 0 where
  pub longer : length_of a (Block m) ≤ length_of b (Block m)
  pub magic : magic_of (byte b (Block m)) ≡ magic_of (byte a (Block m))
  pub is_version : version_of (byte b (Block m)) ≡ version_of (byte a (Block m))
  pub this_file : this_file_of (byte b (Block m)) ≡ this_file_of (byte a (Block m))
  pub entry_size : entry_size_of (byte b (Block m)) ≡ entry_size_of (byte a (Block m))
  pub count : is_block_count (max_entries_in a m) ≡ true → is_block_count (max_entries_in b m) ≡ true

pub kept_file : (a b : Image) (m kind : ℕ) (met met2 : List ℕ) (left left2 : ℕ) → KeepsHead a b m → is_link met2 left2 (next_file_in b m) ≡ true
    → first_of (file_checks kind met left m (byte a (Block m)) (length_of a (Block m))) ≡ None → first_of (file_checks kind met2 left2 m (byte b (Block m)) (length_of b (Block m))) ≡ None
unfolding next_file_in max_entries_in
kept_file a b m kind met met2 left left2 keeps link none =
    let old = checks_hold kind met left m (byte a (Block m)) (length_of a (Block m)) none in
    checks_none kind met2 left2 m (byte b (Block m)) (length_of b (Block m))
    (record {
      whole = longer_whole (length_of a (Block m)) (length_of b (Block m)) keeps.longer old.whole;
      magic = ap (λ (w : ℕ). w == block_magic) keeps.magic ∙ old.magic;
      is_version = ap (λ (w : ℕ). w == block_version) keeps.is_version ∙ old.is_version;
      this_file = ap (λ (w : ℕ). w == m) keeps.this_file ∙ old.this_file;
      link = link;
      entry_size = ap (λ (w : ℕ). w == block_size kind) keeps.entry_size ∙ old.entry_size;
      count = keeps.count old.count;
    })
  where
    longer_whole : (x y : ℕ) → x ≤ y → nat_le 8192 x ≡ true → nat_le 8192 y ≡ true
    longer_whole x y less whole = grind (arith, nat_tests)

-- links that are allowed
pub link_zero : (met : List ℕ) (left next : ℕ) → (next == 0) ≡ true → is_link met left next ≡ true
unfolding is_link
link_zero met left next e = rw e refl

link_kept : (met met2 : List ℕ) (left next : ℕ) → is_among met2 next ≡ is_among met next → is_link met left next ≡ true → is_link met2 left next ≡ true
unfolding is_link
link_kept met met2 left next same holds = ap (λ (t : Bool). (next == 0) || (nat_le 4 next && nat_le next 255 && not t && nat_lt 0 left)) same ∙ holds

-- a file along the links
pub first_along : (next : ℕ → ℕ) (left k : ℕ) → is_among (files_along next left k) k ≡ true
unfolding files_along
first_along next zero k = let e : (k == k) ≡ true = grind (arith, nat_tests) in rw e refl
first_along next (suc left) k = let e : (k == k) ≡ true = grind (arith, nat_tests) in rw e refl

pub later_along : (next : ℕ → ℕ) (left k m : ℕ) → (next k == 0) ≡ false → is_among (files_along next left (next k)) m ≡ true → is_among (files_along next (suc left) k) m ≡ true
unfolding files_along
later_along next left k m some inside = rw (some, inside) (or-true (k == m))

-- the link of a file whose checks hold
pub link_of : (image : Image) (kind : ℕ) (met : List ℕ) (left k : ℕ) → first_of (file_checks kind met left k (byte image (Block k)) (length_of image (Block k))) ≡ None → is_link met left (next_file_in image k) ≡ true
unfolding next_file_in
link_of image kind met left k none = let old = checks_hold kind met left k (byte image (Block k)) (length_of image (Block k)) none in old.link

module _ (a b : Image) (Old : ℕ → Bool) (heads : (m : ℕ) → Old m ≡ true → KeepsHead a b m) (kind : ℕ) where
  abbrev pub Same : List ℕ → List ℕ → Type 0
  Same met met2 = (m : ℕ) → Old m ≡ true → is_among met2 m ≡ is_among met m

  pub same_more : (met met2 : List ℕ) (k : ℕ) → Same met met2 → Same (met ++ k ∷ []) (met2 ++ k ∷ [])
  same_more met met2 k same m old = is_among_more met2 k m ∙ ap (λ (t : Bool). t || (k == m)) (same m old) ∙ sym (is_among_more met k m)

  abbrev pub Inside : ℕ → ℕ → Type 0
  Inside left k = (m : ℕ) → is_among (files_along (next_file_in a) left k) m ≡ true → Old m ≡ true

  -- the checks of one file and its link
  pub one_kept : (left k : ℕ) (met met2 : List ℕ) → Same met met2 → Old k ≡ true → next_file_in b k ≡ next_file_in a k → ((next_file_in a k == 0) ≡ false → Old (next_file_in a k) ≡ true)
      → first_of (file_checks kind (met ++ k ∷ []) left k (byte a (Block k)) (length_of a (Block k))) ≡ None → first_of (file_checks kind (met2 ++ k ∷ []) left k (byte b (Block k)) (length_of b (Block k))) ≡ None
  one_kept left k met met2 same here next following none =
      kept_file a b k kind (met ++ k ∷ []) (met2 ++ k ∷ []) left left (heads k here)
      (subst (λ (next : ℕ). is_link (met2 ++ k ∷ []) left next ≡ true) (sym next) (by_test (next_file_in a k == 0) refl)) none
    where
      by_test : (t : Bool) → (next_file_in a k == 0) ≡ t → is_link (met2 ++ k ∷ []) left (next_file_in a k) ≡ true
      by_test true e = link_zero (met2 ++ k ∷ []) left (next_file_in a k) e
      by_test false e = link_kept (met ++ k ∷ []) (met2 ++ k ∷ []) left (next_file_in a k) (same_more met met2 k same (next_file_in a k) (following e)) (link_of a kind (met ++ k ∷ []) left k none)

  -- one file and those after it, where its link is as it was
  pub step_kept : (left k : ℕ) (met met2 : List ℕ) → Same met met2 → Inside (suc left) k → next_file_in b k ≡ next_file_in a k
      → (Inside left (next_file_in a k) → (next_file_in a k == 0) ≡ false → first_of (checks_along a kind (met ++ k ∷ []) left (next_file_in a k)) ≡ None → first_of (checks_along b kind (met2 ++ k ∷ []) left (next_file_in a k)) ≡ None)
      → first_of (checks_along a kind met (suc left) k) ≡ None → first_of (checks_along b kind met2 (suc left) k) ≡ None
  unfolding checks_along
  step_kept left k met met2 same inside next more none =
      let here : Old k ≡ true = inside k (first_along (next_file_in a) (suc left) k) in
      let parts = none_parts (file_checks kind (met ++ k ∷ []) (suc left) k (byte a (Block k)) (length_of a (Block k))) (if next_file_in a k == 0 then [] else checks_along a kind (met ++ k ∷ []) left (next_file_in a k)) none in
      let own = one_kept (suc left) k met met2 same here next (λ some. inside (next_file_in a k) (later_along (next_file_in a) left k (next_file_in a k) some (first_along (next_file_in a) left (next_file_in a k)))) parts.0 in
      none_both (file_checks kind (met2 ++ k ∷ []) (suc left) k (byte b (Block k)) (length_of b (Block k))) _ own
      (subst (λ (next : ℕ). first_of (if next == 0 then [] else checks_along b kind (met2 ++ k ∷ []) left next) ≡ None) (sym next) (by_test (next_file_in a k == 0) refl parts.1))
    where
      by_test : (t : Bool) → (next_file_in a k == 0) ≡ t → first_of (if t then [] else checks_along a kind (met ++ k ∷ []) left (next_file_in a k)) ≡ None
          → first_of (if t then [] else checks_along b kind (met2 ++ k ∷ []) left (next_file_in a k)) ≡ None
      by_test true e rest = refl
      by_test false e rest = more (λ m among. inside m (later_along (next_file_in a) left k m e among)) e rest

  module _ (nexts : (m : ℕ) → Old m ≡ true → next_file_in b m ≡ next_file_in a m) where
    -- the checks along the links, where other files are met and none of these is among them
    pub along_kept : (left k : ℕ) (met met2 : List ℕ) → Same met met2 → Inside left k → first_of (checks_along a kind met left k) ≡ None → first_of (checks_along b kind met2 left k) ≡ None
    unfolding checks_along
    along_kept zero k met met2 same inside none =
        let here : Old k ≡ true = inside k (first_along (next_file_in a) 0 k) in
        one_kept 0 k met met2 same here (nexts k here)
        (λ some. absurd (differ (next_file_in a k == 0) (last_link (met ++ k ∷ []) (next_file_in a k) (link_of a kind (met ++ k ∷ []) 0 k none)) some)) none
      where
        differ : (t : Bool) → t ≡ true → t ≡ false → ⊥
        differ t e d = cc
    along_kept (suc left) k met met2 same inside none =
        step_kept left k met met2 same inside (nexts k (inside k (first_along (next_file_in a) (suc left) k)))
        (λ behind some. along_kept left (next_file_in a k) (met ++ k ∷ []) (met2 ++ k ∷ []) (same_more met met2 k same) behind) none

    links_behind : (left k : ℕ) → Inside (suc left) k → (Inside left (next_file_in a k) → files_along (next_file_in b) left (next_file_in a k) ≡ files_along (next_file_in a) left (next_file_in a k))
        → (if next_file_in a k == 0 then [] else files_along (next_file_in b) left (next_file_in a k)) ≡ (if next_file_in a k == 0 then [] else files_along (next_file_in a) left (next_file_in a k))
    links_behind left k inside more = by_test (next_file_in a k == 0) refl
      where
        by_test : (t : Bool) → (next_file_in a k == 0) ≡ t → (if t then [] else files_along (next_file_in b) left (next_file_in a k)) ≡ (if t then [] else files_along (next_file_in a) left (next_file_in a k))
        by_test true e = refl
        by_test false e = more (λ m among. inside m (later_along (next_file_in a) left k m e among))

    -- the links themselves
    pub links_kept : (left k : ℕ) → Inside left k → files_along (next_file_in b) left k ≡ files_along (next_file_in a) left k
    unfolding files_along
    links_kept zero k inside = refl
    links_kept (suc left) k inside =
        let next = nexts k (inside k (first_along (next_file_in a) (suc left) k)) in
        ap (λ (m : ℕ). k ∷ (if m == 0 then [] else files_along (next_file_in b) left m)) next
        ∙ ap (λ (l : List ℕ). k ∷ l) (links_behind left k inside (links_kept left (next_file_in a k)))

-- what a list of checks of all four kinds says of each
pub each_kind : (image : Image) → first_block_damage image ≡ None → (first_of (checks_of_kind image 1) ≡ None) × (first_of (checks_of_kind image 2) ≡ None) × (first_of (checks_of_kind image 3) ≡ None) × (first_of (checks_of_kind image 4) ≡ None)
each_kind image none =
    let one = none_parts (checks_of_kind image 1) _ none in
    let two = none_parts (checks_of_kind image 2) _ one.1 in
    let three = none_parts (checks_of_kind image 3) _ two.1 in
    let four = none_parts (checks_of_kind image 4) [] three.1 in
    (one.0, two.0, three.0, four.0)

pub all_kinds : (image : Image) → first_of (checks_of_kind image 1) ≡ None → first_of (checks_of_kind image 2) ≡ None → first_of (checks_of_kind image 3) ≡ None → first_of (checks_of_kind image 4) ≡ None → first_block_damage image ≡ None
all_kinds image one two three four =
    none_both (checks_of_kind image 1) _ one (none_both (checks_of_kind image 2) _ two (none_both (checks_of_kind image 3) _ three (none_both (checks_of_kind image 4) [] four refl)))

met_still : (a b : Image) → next_file_in b ≡ next_file_in a → (k : ℕ) → linked_up_to b k ≡ linked_up_to a k
unfolding linked_up_to linked
met_still a b same zero = refl
met_still a b same (suc k) = λ i. met_still a b same k i ++ files_along (same i) 59 (suc k - 1)

kind_still : (a b : Image) → next_file_in b ≡ next_file_in a → ((m : ℕ) → KeepsHead a b m) → (kind : ℕ) → first_of (checks_of_kind a kind) ≡ None → first_of (checks_of_kind b kind) ≡ None
unfolding checks_of_kind
kind_still a b same keeps kind held =
    along_kept a b (λ m. true) (λ m old. keeps m) kind (λ m old. ap (λ (next : ℕ → ℕ). next m) same) 59 (kind - 1) (linked_up_to a (kind - 1)) (linked_up_to b (kind - 1))
    (λ m old. ap (λ (l : List ℕ). is_among l m) (met_still a b same (kind - 1))) (λ m among. refl) held

-- no check fails where all links are as before and each header keeps what its checks ask
pub undamaged_still : (a b : Image) → next_file_in b ≡ next_file_in a → ((m : ℕ) → KeepsHead a b m) → first_block_damage a ≡ None → first_block_damage b ≡ None
undamaged_still a b same keeps none =
    let each = each_kind a none in
    all_kinds b (kind_still a b same keeps 1 each.0) (kind_still a b same keeps 2 each.1) (kind_still a b same keeps 3 each.2) (kind_still a b same keeps 4 each.3)
