-- The files of a kind are loaded, one after another.
use Rattle.std.proofs.Common.{◌≡◌, ◌≢◌, ℕ, zero, suc, ◌+◌, ◌-◌, ◌<◌, ◌≤◌, Bool, true, false, ◌||◌, if◌then◌else◌, List, [], ◌∷◌, ◌++◌, length, None, Some, refl, sym, ◌∙◌, ap, ap₂, subst, arith, append_assoc, ⊎_elim}
use Rattle.std.specs.Prelude.{◌==◌, Err}
use Rattle.std.specs.declared.option.Option.{Option}
use Rattle.std.proofs.lemmas.Bool.Decides.{nat_tests}
use Rattle.std.proofs.lemmas.Bool.{cases_eq, cases_lt}
use Rattle.std.proofs.lemmas.List.{length-append, append-nil}
use Rattle.spec_image.specs.Image.{Block, Image, byte, length_of}
use Rattle.spec_image.specs.Checks as checks
use Rattle.spec_image.specs.Checks.{first_of}
use Rattle.spec_image.specs.Told.{Told}
use Rattle.spec_format.specs.Address.{is_block_kind}
use Rattle.spec_format.specs.BlockFiles.{next_file_in, max_entries_in, files_along, linked, linked_up_to, is_among, is_link, file_checks, checks_along, checks_of_kind, block_checks, first_block_damage}
use Rattle.blk_addr.specs.declared.kinds.Kind.{Kind}
use Rattle.blk_addr.specs.declared.kinds.Kind.TheVariants.{External, Rankings, B256, B1K, B4K}
use Rattle.blk_addr.specs.Kind.{kind_number}
use Rattle.blk_disk.specs.declared.heads.Head.{Head}
use Rattle.blk_disk.specs.declared.tables.BlockFiles.{BlockFiles}
use Rattle.blk_disk.specs.Tables.{files_of, all_files, blocks_of, length_in, Agrees, Joins, HoldsNone}
use Rattle.std.specs.Option.{ForSome}
use Rattle.blk_io.specs.declared.fault.Fault.{Fault}
use Rattle.blk_io.specs.declared.fault.Fault.TheVariants.{Device, Damaged}
use Rattle.blk_io.specs.Faults.{IfDamaged, damage_of}
use Rattle.blk_disk.specs.Loading.{Follows, IsFileNumber, IsHeaderDamage, IsLoadDamage, AnswersNextHead, IsFileHead, files_left, next_checks, checks_after, checks_from, links_from, next_of}
use Rattle.spec_format.proofs.Among.{is_among_more}
use Rattle.spec_format.proofs.Keeping.{last_link}
use Rattle.spec_image.proofs.FirstChecks.{append_some, append_none}
use Rattle.spec_format.proofs.LinkedHeads.{link_passed}

less_one : (n : ℕ) → suc n - 1 ≡ n
less_one n = omega arith

-- the checks of a file, and then of those along its links
along_more : (image : Image) (kind : ℕ) (met : List ℕ) (left n : ℕ) → is_link (met ++ n ∷ []) left (next_file_in image n) ≡ true
    → checks_along image kind met left n ≡ file_checks kind (met ++ n ∷ []) left n (byte image (Block n)) (length_of image (Block n)) ++ (if next_file_in image n == 0 then [] else checks_along image kind (met ++ n ∷ []) (left - 1) (next_file_in image n))
unfolding checks_along
along_more image kind met zero n holds =
    sym (ap (λ (t : Bool). file_checks kind (met ++ n ∷ []) 0 n (byte image (Block n)) (length_of image (Block n)) ++ (if t then [] else checks_along image kind (met ++ n ∷ []) (0 - 1) (next_file_in image n))) (last_link (met ++ n ∷ []) (next_file_in image n) holds)
    ∙ append-nil (file_checks kind (met ++ n ∷ []) 0 n (byte image (Block n)) (length_of image (Block n))))
along_more image kind met (suc left) n holds = rw (less_one left) refl

files_more : (next : ℕ → ℕ) (met : List ℕ) (left n : ℕ) → is_link met left (next n) ≡ true → files_along next left n ≡ n ∷ (if next n == 0 then [] else files_along next (left - 1) (next n))
unfolding files_along
files_more next met zero n holds = sym (ap (λ (t : Bool). n ∷ (if t then [] else files_along next (0 - 1) (next n))) (last_link met (next n) holds))
files_more next met (suc left) n holds = rw (less_one left) refl

along_damaged : (image : Image) (kind : ℕ) (met : List ℕ) (left n : ℕ) (d : checks.Damage) → first_of (file_checks kind (met ++ n ∷ []) left n (byte image (Block n)) (length_of image (Block n))) ≡ Some d → first_of (checks_along image kind met left n) ≡ Some d
unfolding checks_along
along_damaged image kind met zero n d some = some
along_damaged image kind met (suc left) n d some = append_some (file_checks kind (met ++ n ∷ []) (suc left) n (byte image (Block n)) (length_of image (Block n))) _ d some

-- a failed check of the next file is the first
pub damaged : (files : BlockFiles) (image : Image) (kind n : ℕ) (d : checks.Damage) → Follows files image kind (Some n) → first_of (next_checks files image kind n) ≡ Some d → first_block_damage image ≡ Some d
damaged files image kind n d follows some =
    follows.undamaged ∙ append_some (checks_along image kind (all_files files) (files_left files kind) n) (checks_after image kind) d (along_damaged image kind (all_files files) (files_left files kind) n d some)

-- one more file of a kind, where the kinds after it have none
one_more : (k : Kind) (files new : BlockFiles) (n blocks size : ℕ) → kind_number k ≢ 0 → Joins files new (kind_number k) n blocks size → ((other : ℕ) → kind_number k < other → files_of files other ≡ []) → all_files new ≡ all_files files ++ n ∷ []
unfolding all_files
one_more External files new n blocks size block_kind joins none = absurd (block_kind refl)
one_more Rankings files new n blocks size block_kind joins none =
    rw (joins.last, joins.others 2 (omega arith), joins.others 3 (omega arith), joins.others 4 (omega arith), none 2 (omega arith), none 3 (omega arith), none 4 (omega arith)) (simp append-nil)
one_more B256 files new n blocks size block_kind joins none =
    rw (joins.last, joins.others 1 (omega arith), joins.others 3 (omega arith), joins.others 4 (omega arith), none 3 (omega arith), none 4 (omega arith)) (simp (append-nil, append_assoc))
one_more B1K files new n blocks size block_kind joins none =
    rw (joins.last, joins.others 1 (omega arith), joins.others 2 (omega arith), joins.others 4 (omega arith), none 4 (omega arith)) (simp (append-nil, append_assoc))
one_more B4K files new n blocks size block_kind joins none =
    rw (joins.last, joins.others 1 (omega arith), joins.others 2 (omega arith), joins.others 3 (omega arith)) (simp append_assoc)

-- the file that joined, and those before it, in the tables
module _ (files new : BlockFiles) (image : Image) (n : ℕ) (of : BlockFiles → ℕ → ℕ) (should : ℕ → ℕ)
    (all : all_files new ≡ all_files files ++ n ∷ []) (there : of new n ≡ should n) (elsewhere : (other : ℕ) → other ≢ n → of new other ≡ of files other) (old : (m : ℕ) → is_among (all_files files) m ≡ true → of files m ≡ should m) where
  or_same : (m : ℕ) → (is_among (all_files files) m || (n == m)) ≡ true → m ≢ n → is_among (all_files files) m ≡ true
  or_same m holds differs = let apart : (n == m) ≡ false = grind (arith, nat_tests) in let h : (is_among (all_files files) m || false) ≡ true = rw apart at holds in grind arith

  pub table_more : (m : ℕ) → is_among (all_files new) m ≡ true → of new m ≡ should m
  table_more m holds = ⊎_elim same apart (cases_eq m n)
    where
      same : m ≡ n → of new m ≡ should m
      same e = ap (of new) e ∙ there ∙ ap should (sym e)

      apart : (m ≡ n → ⊥) → of new m ≡ should m
      apart differs = elsewhere m differs ∙ old m (or_same m (sym (is_among_more (all_files files) n m) ∙ ap (λ (l : List ℕ). is_among l m) (sym all) ∙ holds) differs)

-- what is left after a file, by whether it has a next one
module _ (new : BlockFiles) (image : Image) (kind : ℕ) (left next : ℕ) (is_left : files_left new kind ≡ left) where
  links_next : (t : Bool) → (if t then [] else files_along (next_file_in image) left next) ≡ links_from new image kind (if t then None else Some next)
  links_next true = refl
  links_next false = ap (λ (l : ℕ). files_along (next_file_in image) l next) (sym is_left)

  checks_next : (t : Bool) → (if t then [] else checks_along image kind (all_files new) left next) ++ checks_after image kind ≡ checks_from new image kind (if t then None else Some next)
  checks_next true = refl
  checks_next false = ap (λ (l : ℕ). checks_along image kind (all_files new) l next ++ checks_after image kind) (sym is_left)

-- the next file of a kind is loaded, where its checks hold
module _ (k : Kind) (files new : BlockFiles) (image : Image) (n : ℕ) (head : Head) (block_kind : kind_number k ≢ 0) (joins : Joins files new (kind_number k) n head.blocks head.size) (follows : Follows files image (kind_number k) (Some n))
    (none : first_of (next_checks files image (kind_number k) n) ≡ None) (is : IsFileHead (byte image (Block n)) (length_of image (Block n)) head) where
  abbrev left : ℕ
  left = files_left files (kind_number k)

  abbrev after_it : ℕ
  after_it = next_file_in image n

  all : all_files new ≡ all_files files ++ n ∷ []
  all = one_more k files new n head.blocks head.size block_kind joins follows.after

  link : is_link (all_files files ++ n ∷ []) left after_it ≡ true
  unfolding next_file_in
  link = link_passed (kind_number k) (all_files files ++ n ∷ []) left n (byte image (Block n)) (length_of image (Block n)) none

  one_less : files_left new (kind_number k) ≡ left - 1
  one_less = let e : length (files_of new (kind_number k)) ≡ length (files_of files (kind_number k)) + 1 = ap length joins.last ∙ length-append (files_of files (kind_number k)) (n ∷ []) in omega (arith, e)

  next_is : head.next ≡ next_of after_it
  unfolding next_file_in
  next_is = is.next

  met_next : linked_up_to image (kind_number k - 1) ++ files_of new (kind_number k) ≡ all_files new
  met_next =
      ap (λ (l : List ℕ). linked_up_to image (kind_number k - 1) ++ l) joins.last ∙ sym (append_assoc (linked_up_to image (kind_number k - 1)) (files_of files (kind_number k)) (n ∷ []))
      ∙ ap (λ (l : List ℕ). l ++ n ∷ []) follows.met ∙ sym all

  here_next : 0 < kind_number k → linked image (kind_number k) ≡ files_of new (kind_number k) ++ links_from new image (kind_number k) (next_of after_it)
  here_next some =
      follows.here some ∙ ap (λ (l : List ℕ). files_of files (kind_number k) ++ l) (files_more (next_file_in image) (all_files files ++ n ∷ []) left n link)
      ∙ sym (append_assoc (files_of files (kind_number k)) (n ∷ []) (if after_it == 0 then [] else files_along (next_file_in image) (left - 1) after_it))
      ∙ ap₂ (λ (a b : List ℕ). a ++ b) (sym joins.last) (links_next new image (kind_number k) (left - 1) after_it one_less (after_it == 0))

  abbrev own : List (Option checks.Damage)
  own = next_checks files image (kind_number k) n

  abbrev rest : List ℕ → List (Option checks.Damage)
  rest met = if after_it == 0 then [] else checks_along image (kind_number k) met (left - 1) after_it

  undamaged_next : first_of (block_checks image) ≡ first_of (checks_from new image (kind_number k) (next_of after_it))
  undamaged_next =
      follows.undamaged ∙ ap (λ (l : List (Option checks.Damage)). first_of (l ++ checks_after image (kind_number k))) (along_more image (kind_number k) (all_files files) left n link)
      ∙ ap first_of (append_assoc own (rest (all_files files ++ n ∷ [])) (checks_after image (kind_number k)))
      ∙ append_none own (rest (all_files files ++ n ∷ []) ++ checks_after image (kind_number k)) none
      ∙ ap (λ (met : List ℕ). first_of (rest met ++ checks_after image (kind_number k))) (sym all)
      ∙ ap first_of (checks_next new image (kind_number k) (left - 1) after_it one_less (after_it == 0))

  pub follows_next : Follows new image (kind_number k) head.next
  unfolding max_entries_in
  follows_next =
      subst (Follows new image (kind_number k)) (sym next_is)
      (record {
        met = met_next;
        before = λ other some below. joins.others other (λ e. absurd (omega (arith, e))) ∙ follows.before other some below;
        after = λ other above. joins.others other (λ e. absurd (omega (arith, e))) ∙ follows.after other above;
        here = here_next;
        undamaged = undamaged_next;
        blocks = table_more files new image n blocks_of (max_entries_in image) all (joins.blocks_there ∙ is.blocks) joins.other_blocks follows.blocks;
        lengths = table_more files new image n length_in (λ m. length_of image (Block m)) all (joins.size_there ∙ is.size) joins.other_lengths follows.lengths;
      })

-- a call that failed to read the next file
pub damaged_if : (A : Type 0) (e : Fault) (told : Option Image) (files : BlockFiles) (kind n : ℕ) → ForSome told (λ image. Follows files image kind (Some n)) → ForSome told (λ image. AnswersNextHead files image kind n (Err e))
    → IfDamaged {A = A} (Err e) (λ damage. ForSome told (λ image. first_block_damage image ≡ Some (damage_of damage)))
damaged_if A Device told files kind n follows reads = tt
damaged_if A (Damaged d) told files kind n follows reads = λ image there. damaged files image kind n (damage_of d) (follows image there) (reads image there)

blocks_kind : (k : Kind) → kind_number k ≢ 0 → is_block_kind (kind_number k) ≡ true
blocks_kind External block_kind = absurd (block_kind refl)
blocks_kind Rankings block_kind = refl
blocks_kind B256 block_kind = refl
blocks_kind B1K block_kind = refl
blocks_kind B4K block_kind = refl

-- a call failed to load the next file, of an observable or an opaque folder
pub caused_if : (A B : Type 0) (e : Fault) (a b : Told) (files : BlockFiles) (k : Kind) (n : ℕ) → kind_number k ≢ 0 → IsFileNumber (kind_number k) n → b ≡ a → IfDamaged {A = A} (Err e) (IsHeaderDamage b files (kind_number k) n) → IfDamaged {A = B} (Err e) (IsLoadDamage a)
caused_if A B Device a b files k n block_kind number stays cause = tt
caused_if A B (Damaged d) a b files k n block_kind number stays cause = record {
  files = files;
  kind = kind_number k;
  n = n;
  block_kind = blocks_kind k block_kind;
  number = number;
  cause = subst (λ (t : Told). IsHeaderDamage t files (kind_number k) n d) stays cause;
}

-- nothing is loaded yet
pub follows_none : (files : BlockFiles) (image : Image) → HoldsNone files → Follows files image 0 None
unfolding linked_up_to
follows_none files image none = record {
  met = none.each 0 ∙ sym none.all;
  before = λ other some below. absurd (omega arith);
  after = λ other above. none.each other;
  here = λ some. absurd (omega arith);
  undamaged = refl;
  blocks = λ n among. absurd (nothing n (ap (λ (l : List ℕ). is_among l n) (sym none.all) ∙ among));
  lengths = λ n among. absurd (nothing n (ap (λ (l : List ℕ). is_among l n) (sym none.all) ∙ among));
}
  where
    nothing : (n : ℕ) → is_among [] n ≡ true → ⊥
    nothing n e = cc

-- the files up to a kind, once it is done
met_up_to : (files : BlockFiles) (image : Image) (k : ℕ) → Follows files image k None → linked_up_to image k ≡ all_files files
unfolding linked_up_to files_of
met_up_to files image zero follows = follows.met
met_up_to files image (suc k) follows =
    ap (λ (l : List ℕ). linked_up_to image k ++ l) (follows.here (omega arith) ∙ append-nil (files_of files (suc k))) ∙ ap (λ (j : ℕ). linked_up_to image j ++ files_of files (suc k)) (sym (less_one k)) ∙ follows.met

-- the next kind begins with its first file
module _ (files : BlockFiles) (image : Image) (k : ℕ) (more : checks_after image k ≡ checks_of_kind image (suc k) ++ checks_after image (suc k)) (follows : Follows files image k None) where
  empty : files_of files (suc k) ≡ []
  empty = follows.after (suc k) (omega arith)

  whole_left : files_left files (suc k) ≡ 59
  whole_left = ap (λ (l : List ℕ). 59 - length l) empty

  begin_here : linked image (suc k) ≡ files_of files (suc k) ++ files_along (next_file_in image) (files_left files (suc k)) k
  unfolding linked
  begin_here = rw (whole_left, empty, less_one k) refl

  begin_checks : checks_of_kind image (suc k) ≡ checks_along image (suc k) (all_files files) (files_left files (suc k)) k
  unfolding checks_of_kind
  begin_checks = rw (whole_left, less_one k, met_up_to files image k follows) refl

  pub follows_first : Follows files image (suc k) (Some k)
  follows_first = record {
    met = rw (less_one k, empty) (append-nil (linked_up_to image k) ∙ met_up_to files image k follows);
    before = λ other some below. ⊎_elim (λ less. follows.before other some less) (λ same. at_k other same below some) (cases_lt other k);
    after = λ other above. follows.after other (omega arith);
    here = λ some. begin_here;
    undamaged = follows.undamaged ∙ ap first_of (more ∙ ap (λ (l : List (Option checks.Damage)). l ++ checks_after image (suc k)) begin_checks);
    blocks = follows.blocks;
    lengths = follows.lengths;
  }
    where
      at_k : (other : ℕ) → k ≤ other → other < suc k → 0 < other → files_of files other ≡ linked image other
      at_k other above below some =
          let e : other ≡ k = omega arith in
          ap (files_of files) e ∙ sym (follows.here (omega arith) ∙ append-nil (files_of files k)) ∙ ap (linked image) (sym e)

-- the first file of a kind
pub follows_kind : (k : Kind) (files : BlockFiles) (image : Image) → kind_number k ≢ 0 → Follows files image (kind_number k - 1) None → Follows files image (kind_number k) (Some (kind_number k - 1))
follows_kind External files image block_kind follows = absurd (block_kind refl)
follows_kind Rankings files image block_kind follows = follows_first files image 0 refl follows
follows_kind B256 files image block_kind follows = follows_first files image 1 refl follows
follows_kind B1K files image block_kind follows = follows_first files image 2 refl follows
follows_kind B4K files image block_kind follows = follows_first files image 3 refl follows

some_kind : (kind : ℕ) → is_block_kind kind ≡ true → 0 < kind
some_kind kind holds = grind (arith, nat_tests)

most_kind : (kind : ℕ) → is_block_kind kind ≡ true → kind ≤ 4
most_kind kind holds = grind (arith, nat_tests)

-- all kinds are done
pub follows_all : (files : BlockFiles) (image : Image) → Follows files image 4 None → Agrees files image × (first_block_damage image ≡ None)
follows_all files image follows = (record { links = links; blocks = follows.blocks; lengths = follows.lengths; undamaged = follows.undamaged }, follows.undamaged)
  where
    last : (kind : ℕ) → kind ≤ 4 → 4 ≤ kind → files_of files kind ≡ linked image kind
    last kind most above =
        let e : kind ≡ 4 = omega arith in
        ap (files_of files) e ∙ sym (follows.here (omega arith) ∙ append-nil (files_of files 4)) ∙ ap (linked image) (sym e)

    links : (kind : ℕ) → is_block_kind kind ≡ true → files_of files kind ≡ linked image kind
    links kind holds = ⊎_elim (λ less. follows.before kind (some_kind kind holds) less) (λ above. last kind (most_kind kind holds) above) (cases_lt kind 4)
