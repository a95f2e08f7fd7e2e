-- A file that is added: what holds at each word, and in the end.
use Rattle.std.proofs.Common.{◌≡◌, ◌≢◌, ℕ, zero, suc, ◌+◌, ◌-◌, ◌*◌, ◌%◌, ◌/◌, ◌<◌, ◌≤◌, Bool, true, false, ◌&&◌, ◌||◌, nat_le, nat_lt, if◌then◌else◌, List, [], ◌∷◌, ◌++◌, length, get_or, Option, None, Some, unwrap_or, refl, sym, ◌∙◌, ap, ap₂, subst, arith, lit<, ◌⊎◌, inl, inr, ⊎_elim}
use Rattle.std.specs.Prelude.{◌==◌}
use Rattle.std.specs.Option.{ForSome}
use Rattle.std.proofs.lemmas.Bool.{cases_eq}
use Rattle.std.proofs.lemmas.Bool.Decides.{nat_tests}
use Rattle.std.proofs.lemmas.List.Folds.{list_any_at}
use Rattle.spec_image.specs.Bytes.{content}
use Rattle.spec_image.specs.Checks.{first_of}
use Rattle.spec_image.specs.Footprint.{SameOutside, range, whole}
use Rattle.spec_image.specs.Image.{Index, Block, External as external_file, Image, byte, bytes_of, length_of, same_file}
use Rattle.spec_image.specs.Steps.{Word, applied, after}
use Rattle.spec_image.specs.Told.{Told, Applies, AppliesPrefix, Passes, Along, Until, IsQuiet}
use Rattle.spec_image.proofs.Cuts.{after-append}
use Rattle.spec_image.proofs.Footprints.{same_file_outside, outside-trans, outside_wider, outside_write, within_left, within_right}
use Rattle.spec_image.proofs.Images.{bytes_of-written, other-word, with_file-same}
use Rattle.spec_image.proofs.Runs.{passes_part, quiet-append, some_inj, told_whole, until-append, until_last, until_weaker2}
use Rattle.spec_image.proofs.Splices.{content-spliced_inside}
use Rattle.spec_image.proofs.Words.{same-word_at}
use Rattle.spec_format.specs.Address.{is_block_kind}
use Rattle.spec_format.specs.BlockFiles.{next_file_in, max_entries_in, files_along, linked, linked_as, linked_up_to, is_among, is_block_count, checks_along, checks_of_kind, first_block_damage, kind_among, KeepsHeaders}
use Rattle.blk_addr.specs.declared.kinds.Kind.{Kind}
use Rattle.blk_addr.specs.declared.kinds.Kind.TheVariants.{External, Rankings, B256, B1K, B4K}
use Rattle.blk_addr.specs.Kind.{kind_number}
use Rattle.blk_disk.specs.declared.tables.BlockFiles.{BlockFiles}
use Rattle.blk_disk.specs.Tables.{Agrees, Joins, all_files, blocks_of, files_of, length_in}
use Rattle.spec_format.specs.Growth.{HaveGrown, StaysWholeOutside}
use Rattle.blk_disk.specs.Growth.{IsLeastFileNumber, add_steps, addition_of, free_number, last_file, link_steps, file_steps}
use Rattle.blk_disk.proofs.Additions.{IsNew, header_new, header_size_is, made_is, making_outside, making_quiet, new_header, new_passes, next_is}
use Rattle.spec_format.proofs.SpareHeaders.{other_file}
use Rattle.blk_disk.proofs.Among.{all_files_among}
use Rattle.spec_format.proofs.Among.{is_among-append, is_among_more}
use Rattle.blk_disk.proofs.Chains.{block_kind, fails, linked_once, met_in, or_cases, kind_none}
use Rattle.blk_disk.proofs.Enlarging.{kept_headers}
use Rattle.spec_format.proofs.Keeping.{KeepsHead, all_kinds, along_kept, links_kept}
use Rattle.blk_disk.proofs.Linking.{checks_added, ends, links_added, some_along}

differ : (b : Bool) → b ≡ true → b ≡ false → ⊥
differ b e d = cc

-- the members of all lists are those of the four
pub among_kinds : (files : BlockFiles) (m : ℕ) → is_among (all_files files) m ≡ (is_among (files_of files 1) m || is_among (files_of files 2) m || is_among (files_of files 3) m || is_among (files_of files 4) m)
unfolding files_of
among_kinds files m = all_files_among files m

-- a member of a list of a kind is one of all
member : (files : BlockFiles) (j m : ℕ) → j < 4 → is_among (files_of files (suc j)) m ≡ true → is_among (all_files files) m ≡ true
member files j m small among = among_kinds files m ∙ or_kind j small (λ kind. is_among (files_of files kind) m) among
  where
    or_kind : (j : ℕ) → j < 4 → (f : ℕ → Bool) → f (suc j) ≡ true → (f 1 || f 2 || f 3 || f 4) ≡ true
    or_kind j below f e = by_kind j below e
      where
        by_tests : (a b c d : Bool) → (a ≡ true) ⊎ ((b ≡ true) ⊎ ((c ≡ true) ⊎ (d ≡ true))) → (a || b || c || d) ≡ true
        by_tests true true true true h = refl
        by_tests true true true false h = refl
        by_tests true true false true h = refl
        by_tests true true false false h = refl
        by_tests true false true true h = refl
        by_tests true false true false h = refl
        by_tests true false false true h = refl
        by_tests true false false false h = refl
        by_tests false true true true h = refl
        by_tests false true true false h = refl
        by_tests false true false true h = refl
        by_tests false true false false h = refl
        by_tests false false true true h = refl
        by_tests false false true false h = refl
        by_tests false false false true h = refl
        by_tests false false false false h = grind arith

        by_kind : (j : ℕ) → j < 4 → f (suc j) ≡ true → (f 1 || f 2 || f 3 || f 4) ≡ true
        by_kind zero small e = by_tests (f 1) (f 2) (f 3) (f 4) (inl e)
        by_kind (suc zero) small e = by_tests (f 1) (f 2) (f 3) (f 4) (inr (inl e))
        by_kind (suc (suc zero)) small e = by_tests (f 1) (f 2) (f 3) (f 4) (inr (inr (inl e)))
        by_kind (suc (suc (suc zero))) small e = by_tests (f 1) (f 2) (f 3) (f 4) (inr (inr (inr e)))
        by_kind (suc (suc (suc (suc j)))) small e = absurd (omega arith)

-- a header whose bytes are as before, but for the link
keeps_from : (a b : Image) (m : ℕ) → length_of b (Block m) ≡ length_of a (Block m) → ((i : ℕ) → (i < 10) ⊎ (12 ≤ i) → byte b (Block m) i ≡ byte a (Block m) i) → KeepsHead a b m
unfolding max_entries_in
keeps_from a b m size bytes =
    let low : (i : ℕ) → i < 10 → byte b (Block m) i ≡ byte a (Block m) i = λ i below. bytes i (inl below) in
    let high : (i : ℕ) → 12 ≤ i → byte b (Block m) i ≡ byte a (Block m) i = λ i above. bytes i (inr above) in
    record {
      longer = omega (arith, size);
      magic = same-word_at (byte b (Block m)) (byte a (Block m)) 0 (low 0 (omega arith)) (low 1 (omega arith)) (low 2 (omega arith)) (low 3 (omega arith));
      is_version = same-word_at (byte b (Block m)) (byte a (Block m)) 4 (low 4 (omega arith)) (low 5 (omega arith)) (low 6 (omega arith)) (low 7 (omega arith));
      this_file = λ j. low 8 (omega arith) j + 256 * low 9 (omega arith) j;
      entry_size = same-word_at (byte b (Block m)) (byte a (Block m)) 12 (high 12 (omega arith)) (high 13 (omega arith)) (high 14 (omega arith)) (high 15 (omega arith));
      count = λ holds. ap is_block_count (same-word_at (byte b (Block m)) (byte a (Block m)) 20 (high 20 (omega arith)) (high 21 (omega arith)) (high 22 (omega arith)) (high 23 (omega arith))) ∙ holds;
    }

-- the kind of a file, where its membership in each list is as before
same_kind_of : (f g : ℕ → List ℕ) (m : ℕ) → is_among (f 1) m ≡ is_among (g 1) m → is_among (f 2) m ≡ is_among (g 2) m → is_among (f 3) m ≡ is_among (g 3) m → is_among (f 4) m ≡ is_among (g 4) m → kind_among f m ≡ kind_among g m
unfolding kind_among
same_kind_of f g m e1 e2 e3 e4 = λ i. if e1 i then Some 1 else if e2 i then Some 2 else if e3 i then Some 3 else if e4 i then Some 4 else None

less_one : (n : ℕ) → suc n - 1 ≡ n
less_one n = omega arith

-- a kind with fewer than 60 files, where what is kept agrees
module _ (files : BlockFiles) (image : Image) (p : ℕ) (small : p < 4) (agrees : Agrees files image) (room : length (files_of files (suc p)) < 60) (least : IsLeastFileNumber files (free_number files)) where
  abbrev n : ℕ
  n = free_number files

  abbrev last : ℕ
  last = last_file files (suc p)

  -- each file of a kind is linked, and none of them is the new one
  abbrev In : ℕ → ℕ → Bool
  In j m = is_among (linked image (suc j)) m

  old_in : (j m : ℕ) → j < 4 → In j m ≡ true → is_among (all_files files) m ≡ true
  old_in j m below among = member files j m below (ap (λ (l : List ℕ). is_among l m) (agrees.links (suc j) (block_kind j below)) ∙ among)

  not_new : (j m : ℕ) → j < 4 → In j m ≡ true → m ≢ n
  not_new j m below among same = differ (is_among (all_files files) n) (ap (is_among (all_files files)) (sym same) ∙ old_in j m below among) least.free

  files_are : files_of files (suc p) ≡ files_along (next_file_in image) 59 p
  unfolding linked
  files_are = agrees.links (suc p) (block_kind p small) ∙ ap (files_along (next_file_in image) 59) (less_one p)

  last_is : get_or (files_along (next_file_in image) 59 p) (length (files_along (next_file_in image) 59 p) - 1) p ≡ last
  unfolding last_file
  last_is = ap (λ (l : List ℕ). get_or l (length l - 1) p) (sym files_are) ∙ ap (λ (d : ℕ). get_or (files_of files (suc p)) (length (files_of files (suc p)) - 1) d) (sym (less_one p))

  short : length (files_along (next_file_in image) 59 p) ≤ 59
  short = let e = ap (λ (l : List ℕ). length l) files_are in omega (arith, e, room)

  last_ends : (next_file_in image last == 0) ≡ true
  last_ends = ap (λ (m : ℕ). next_file_in image m == 0) (sym last_is) ∙ ends (next_file_in image) 59 p p short

  last_in : In p last ≡ true
  unfolding linked
  last_in =
      let xs : List ℕ = files_along (next_file_in image) 59 p in
      let itself : (last == last) ≡ true = grind (arith, nat_tests) in
      let some = some_along (next_file_in image) 59 p in
      ap (λ (i : ℕ). is_among (files_along (next_file_in image) 59 i) last) (less_one p)
      ∙ list_any_at (λ m. m == last) xs (length xs - 1) p (omega (arith, some)) (ap (λ (x : ℕ). x == last) last_is ∙ itself)

  pub last_room : 8192 ≤ length_of image (Block last)
  last_room = let met = met_in image agrees.undamaged p small last last_in in met.whole

  pub last_apart : last ≢ n
  last_apart = not_new p last small last_in

  below_256 : n < 256
  below_256 = least.most_number

  -- an image in which each header but that of the new file is kept
  module _ (b : Image) (heads : (m : ℕ) → m ≢ n → KeepsHead image b m) where
    abbrev Nexts : ℕ → Type 0
    Nexts j = (m : ℕ) → In j m ≡ true → next_file_in b m ≡ next_file_in image m

    chain_same : (j : ℕ) → j < 4 → Nexts j → linked b (suc j) ≡ linked image (suc j)
    unfolding linked
    chain_same j below nexts = links_kept image b (In j) (λ m among. heads m (not_new j m below among)) (suc j) nexts 59 (suc j - 1) (λ m among. among)

    type_same : (j : ℕ) → j < 4 → Nexts j → ((m : ℕ) → In j m ≡ true → is_among (linked_up_to b (suc j - 1)) m ≡ is_among (linked_up_to image (suc j - 1)) m) → first_of (checks_of_kind b (suc j)) ≡ None
    unfolding linked checks_of_kind
    type_same j below nexts same =
        along_kept image b (In j) (λ m among. heads m (not_new j m below among)) (suc j) nexts 59 (suc j - 1) (linked_up_to image (suc j - 1)) (linked_up_to b (suc j - 1)) same (λ m among. among)
        (kind_none image agrees.undamaged (suc j) (block_kind j below))

  -- a linked file isn't the new one
  linked_old : (m kind : ℕ) → linked_as image m ≡ Some kind → m ≢ n
  unfolding kind_among
  linked_old m kind at = by_tests (In 0 m) (In 1 m) (In 2 m) (In 3 m) refl refl refl refl at
    where
      by_tests : (t u v w : Bool) → In 0 m ≡ t → In 1 m ≡ u → In 2 m ≡ v → In 3 m ≡ w → (if t then Some 1 else if u then Some 2 else if v then Some 3 else if w then Some 4 else None) ≡ Some kind → m ≢ n
      by_tests true u v w e1 e2 e3 e4 at = not_new 0 m (omega arith) e1
      by_tests false true v w e1 e2 e3 e4 at = not_new 1 m (omega arith) e2
      by_tests false false true w e1 e2 e3 e4 at = not_new 2 m (omega arith) e3
      by_tests false false false true e1 e2 e3 e4 at = not_new 3 m (omega arith) e4
      by_tests false false false false e1 e2 e3 e4 at = absurd (none_some at)
        where
          none_some : None ≡ Some kind → ⊥
          none_some e = cc

  -- an image in which each file but the new one is linked as before, and has its blocks
  grown_others : (b : Image) → ((i : ℕ) → byte b Index i ≡ byte image Index i) → ((m : ℕ) → b (external_file m) ≡ image (external_file m)) → ((j m : ℕ) → j < 4 → m ≢ n → is_among (linked b (suc j)) m ≡ is_among (linked image (suc j)) m) → ((m : ℕ) → m ≢ n → max_entries_in b m ≡ max_entries_in image m) → ((m : ℕ) → m ≢ n → length_of b (Block m) ≡ length_of image (Block m))
      → ((m : ℕ) → m ≢ n → (i : ℕ) → 12 ≤ i → byte b (Block m) i ≡ byte image (Block m) i) → HaveGrown image b
  grown_others b index externals among blocks lengths bytes = record {
    index = λ i shown. index i;
    externals = externals;
    linked = λ m kind at. kind_same_of m (linked_old m kind at) ∙ at;
    bytes = λ m kind i at past below. bytes m (linked_old m kind at) i (omega (arith, past));
    longer = λ m kind at. let same = lengths m (linked_old m kind at) in omega (arith, same);
    more = λ m kind at. let same = blocks m (linked_old m kind at) in omega (arith, same);
  }
    where
      kind_same_of : (m : ℕ) → m ≢ n → linked_as b m ≡ linked_as image m
      kind_same_of m differs = by_lists m (among 0 m (omega arith) differs) (among 1 m (omega arith) differs) (among 2 m (omega arith) differs) (among 3 m (omega arith) differs)
        where
          by_lists : (m : ℕ) → is_among (linked b 1) m ≡ is_among (linked image 1) m → is_among (linked b 2) m ≡ is_among (linked image 2) m → is_among (linked b 3) m ≡ is_among (linked image 3) m → is_among (linked b 4) m ≡ is_among (linked image 4) m → linked_as b m ≡ linked_as image m
          by_lists m e1 e2 e3 e4 = same_kind_of (linked b) (linked image) m e1 e2 e3 e4

  -- an image while the new file is made
  module _ (b : Image) (same : SameOutside (whole (Block n)) image b) where
    making_bytes : (m : ℕ) → m ≢ n → (i : ℕ) → byte b (Block m) i ≡ byte image (Block m) i
    making_bytes m differs i = same.bytes (Block m) i (other_file n m differs)

    making_heads : (m : ℕ) → m ≢ n → KeepsHead image b m
    making_heads m differs = keeps_from image b m (same.lengths (Block m) (other_file n m differs)) (λ i side. making_bytes m differs i)

    making_nexts : (j : ℕ) → j < 4 → Nexts b making_heads j
    unfolding next_file_in
    making_nexts j below m among = let differs = not_new j m below among in λ k. making_bytes m differs 10 k + 256 * making_bytes m differs 11 k

    making_up : (i : ℕ) → i ≤ 4 → linked_up_to b i ≡ linked_up_to image i
    unfolding linked_up_to
    making_up zero upto = refl
    making_up (suc i) upto = ap₂ (λ (xs ys : List ℕ). xs ++ ys) (making_up i (omega arith)) (chain_same b making_heads i (omega arith) (making_nexts i (omega arith)))

    making_kind : (j : ℕ) → j < 4 → first_of (checks_of_kind b (suc j)) ≡ None
    making_kind j below = type_same b making_heads j below (making_nexts j below) (λ m among. ap (λ (l : List ℕ). is_among l m) (making_up (suc j - 1) (omega arith)))

    making_undamaged : first_block_damage b ≡ None
    making_undamaged = all_kinds b (making_kind 0 (omega arith)) (making_kind 1 (omega arith)) (making_kind 2 (omega arith)) (making_kind 3 (omega arith))

    making_blocks_same : (m : ℕ) → m ≢ n → max_entries_in b m ≡ max_entries_in image m
    unfolding max_entries_in
    making_blocks_same m differs = same-word_at (byte b (Block m)) (byte image (Block m)) 20 (making_bytes m differs 20) (making_bytes m differs 21) (making_bytes m differs 22) (making_bytes m differs 23)

    pub making_grown : HaveGrown image b
    making_grown =
        grown_others b (λ i. same.bytes Index i refl) (λ m. same_file_outside (whole (Block n)) image b (external_file m) same (λ i. refl) refl) (λ j m below differs. ap (λ (l : List ℕ). is_among l m) (chain_same b making_heads j below (making_nexts j below))) making_blocks_same
        (λ m differs. same.lengths (Block m) (other_file n m differs)) (λ m differs i past. making_bytes m differs i)

    pub making_headers : KeepsHeaders image b
    making_headers = kept_headers image b (λ i. same.bytes Index i refl) (same.lengths Index refl) (λ none. making_undamaged)

  abbrev made : Image
  made = after (file_steps (suc p) n) image

  pub made_same : SameOutside (whole (Block n)) image made
  made_same = until_last (SameOutside (whole (Block n)) image) (SameOutside (whole (Block n)) image) (file_steps (suc p) n) image (making_outside (suc p) n image)

  made_file : made (Block n) ≡ Some (new_header (suc p) n)
  made_file = ap (λ (i : Image). i (Block n)) (made_is (suc p) n image) ∙ with_file-same image (Block n) (Some (new_header (suc p) n))

  pub made_room : 8192 ≤ length_of made (Block last)
  made_room = let same = made_same in let e = same.lengths (Block last) (other_file n last last_apart) in omega (arith, e, last_room)

  abbrev number : List ℕ
  number = n % 256 ∷ n / 256 % 256 ∷ []

  -- the image once the link is written
  abbrev done : Image
  done = applied (Word (Block last) 10 number) made

  pub done_outside : SameOutside (addition_of files (suc p)) image done
  done_outside =
      outside-trans (addition_of files (suc p)) image made done
      (outside_wider (whole (Block n)) (addition_of files (suc p)) image made (within_left (whole (Block n)) (range (Block last) 10 2)) made_same)
      (outside_wider (range (Block last) 10 2) (addition_of files (suc p)) made done (within_right (whole (Block n)) (range (Block last) 10 2)) (outside_write (Block last) 10 number made))

  done_bytes : (m : ℕ) → m ≢ n → (i : ℕ) → (i < 10) ⊎ (12 ≤ i) → byte done (Block m) i ≡ byte image (Block m) i
  done_bytes m differs i side = let same = done_outside in same.bytes (Block m) i (spared (same_file (Block last) (Block m)))
    where
      spared : (t : Bool) → (same_file (Block n) (Block m) || (t && (nat_le 10 i && nat_lt i 12))) ≡ false
      spared true = let e : same_file (Block n) (Block m) ≡ false = other_file n m differs in let f : (nat_le 10 i && nat_lt i 12) ≡ false = grind (arith, nat_tests) in rw (e, f) refl
      spared false = let e : same_file (Block n) (Block m) ≡ false = other_file n m differs in rw e refl

  done_others : (m : ℕ) → m ≢ n → m ≢ last → (i : ℕ) → byte done (Block m) i ≡ byte image (Block m) i
  done_others m differs apart i =
      let e : same_file (Block n) (Block m) ≡ false = other_file n m differs in
      let f : same_file (Block last) (Block m) ≡ false = other_file last m apart in
      let same = done_outside in
      same.bytes (Block m) i (rw (e, f) refl)

  done_length : (m : ℕ) → m ≢ n → length_of done (Block m) ≡ length_of image (Block m)
  done_length m differs = let e : same_file (Block n) (Block m) ≡ false = other_file n m differs in let same = done_outside in same.lengths (Block m) (rw e refl)

  done_heads : (m : ℕ) → m ≢ n → KeepsHead image done m
  done_heads m differs = keeps_from image done m (done_length m differs) (done_bytes m differs)

  done_blocks : (m : ℕ) → m ≢ n → max_entries_in done m ≡ max_entries_in image m
  unfolding max_entries_in
  done_blocks m differs =
      let high : (i : ℕ) → 12 ≤ i → byte done (Block m) i ≡ byte image (Block m) i = λ i above. done_bytes m differs i (inr above) in
      same-word_at (byte done (Block m)) (byte image (Block m)) 20 (high 20 (omega arith)) (high 21 (omega arith)) (high 22 (omega arith)) (high 23 (omega arith))

  -- the last file names the new one
  done_names : next_file_in done last ≡ n
  unfolding next_file_in
  done_names =
      let written = bytes_of-written made (Block last) 10 number in
      let low : byte done (Block last) 10 ≡ n % 256 = ap (λ (l : List ℕ). content l 10) written ∙ content-spliced_inside 10 number (bytes_of made (Block last)) 0 10 refl (omega arith) (omega (arith, made_room)) in
      let high : byte done (Block last) 11 ≡ n / 256 % 256 = ap (λ (l : List ℕ). content l 11) written ∙ content-spliced_inside 10 number (bytes_of made (Block last)) 1 11 refl (omega arith) (omega (arith, made_room)) in
      omega (arith, low, high, below_256)

  new_file : done (Block n) ≡ Some (new_header (suc p) n)
  new_file = other-word made (Block last) (Block n) 10 number (other_file last n (λ e. last_apart (sym e))) ∙ made_file

  new_fields : IsNew (suc p) n (byte done (Block n))
  new_fields = subst (λ (o : Option (List ℕ)). IsNew (suc p) n (content (unwrap_or o []))) (sym new_file) (header_new (suc p) n below_256)

  new_length : length_of done (Block n) ≡ 8192
  new_length = ap (λ (o : Option (List ℕ)). length (unwrap_or o [])) new_file ∙ header_size_is (suc p) n below_256

  new_blocks : max_entries_in done n ≡ 0
  unfolding max_entries_in
  new_blocks = new_fields.blocks

  new_next : next_file_in done n ≡ 0
  unfolding next_file_in
  new_next = next_is (suc p) n (byte done (Block n)) below_256 new_fields

  next_kept : (m : ℕ) → m ≢ n → m ≢ last → next_file_in done m ≡ next_file_in image m
  unfolding next_file_in
  next_kept m differs apart = λ k. done_others m differs apart 10 k + 256 * done_others m differs apart 11 k

  -- the files of another kind
  other_nexts : (j : ℕ) → j < 4 → j ≢ p → (m : ℕ) → In j m ≡ true → next_file_in done m ≡ next_file_in image m
  other_nexts j below differs m among = next_kept m (not_new j m below among) (λ e. linked_once image agrees.undamaged j p last differs below small (subst (λ (x : ℕ). In j x ≡ true) e among) last_in)

  other_chain : (j : ℕ) → j < 4 → j ≢ p → linked done (suc j) ≡ linked image (suc j)
  other_chain j below differs = chain_same done done_heads j below (other_nexts j below differs)

  -- the files of its kind
  own_inside : (m : ℕ) → is_among (files_along (next_file_in image) 59 p) m ≡ true → In p m ≡ true
  unfolding linked
  own_inside m among = ap (λ (i : ℕ). is_among (files_along (next_file_in image) 59 i) m) (less_one p) ∙ among

  own_heads : (m : ℕ) → In p m ≡ true → KeepsHead image done m
  own_heads m among = done_heads m (not_new p m small among)

  own_nexts : (m : ℕ) → In p m ≡ true → m ≢ last → next_file_in done m ≡ next_file_in image m
  own_nexts m among apart = next_kept m (not_new p m small among) apart

  own_chain : linked done (suc p) ≡ linked image (suc p) ++ n ∷ []
  unfolding linked
  own_chain =
      ap (files_along (next_file_in done) 59) (less_one p)
      ∙ links_added image done (In p) own_heads (suc p) last n p own_nexts last_ends done_names least.least_number below_256 (λ m among. not_new p m small among) new_next (new_passes (suc p) n (byte done (Block n)) (length_of done (Block n)) below_256 new_length new_fields) 59 p own_inside last_is short
      ∙ ap (λ (i : ℕ). files_along (next_file_in image) 59 i ++ n ∷ []) (sym (less_one p))

  -- the files that were met
  up_old : (i m : ℕ) → i ≤ 4 → is_among (linked_up_to image i) m ≡ true → is_among (all_files files) m ≡ true
  unfolding linked_up_to
  up_old zero m upto among = absurd (differ false among refl)
  up_old (suc i) m upto among =
      ⊎_elim (λ before. up_old i m (omega arith) before) (λ here. old_in i m (omega arith) here)
      (or_cases (is_among (linked_up_to image i) m) (In i m) (sym (is_among-append (linked_up_to image i) (linked image (suc i)) m) ∙ among))

  up_below : (i : ℕ) → i ≤ p → linked_up_to done i ≡ linked_up_to image i
  unfolding linked_up_to
  up_below zero upto = refl
  up_below (suc i) upto = ap₂ (λ (xs ys : List ℕ). xs ++ ys) (up_below i (omega arith)) (other_chain i (omega (arith, small)) (λ e. omega (arith, e)))

  own_fresh : is_among (linked_up_to done p) n ≡ false
  own_fresh = ap (λ (l : List ℕ). is_among l n) (up_below p (omega arith)) ∙ fails (is_among (linked_up_to image p) n) (λ among. differ (is_among (all_files files) n) (up_old p n (omega (arith, small)) among) least.free)

  among_kind : (i m : ℕ) → i < 4 → m ≢ n → is_among (linked done (suc i)) m ≡ is_among (linked image (suc i)) m
  among_kind i m below differs =
      ⊎_elim
      (λ same. subst (λ (j : ℕ). is_among (linked done (suc j)) m ≡ is_among (linked image (suc j)) m) (sym same)
      (let apart : (n == m) ≡ false = grind (arith, nat_tests) in
      ap (λ (l : List ℕ). is_among l m) own_chain ∙ is_among_more (linked image (suc p)) n m ∙ ap (λ (t : Bool). is_among (linked image (suc p)) m || t) apart ∙ or_false (is_among (linked image (suc p)) m)))
      (λ other. ap (λ (l : List ℕ). is_among l m) (other_chain i below other)) (cases_eq i p)
    where
      or_false : (t : Bool) → (t || false) ≡ t
      or_false true = refl
      or_false false = refl

  among_up : (i m : ℕ) → i ≤ 4 → m ≢ n → is_among (linked_up_to done i) m ≡ is_among (linked_up_to image i) m
  unfolding linked_up_to
  among_up zero m upto differs = refl
  among_up (suc i) m upto differs =
      is_among-append (linked_up_to done i) (linked done (suc i)) m ∙ ap₂ (λ (x y : Bool). x || y) (among_up i m (omega arith) differs) (among_kind i m (omega arith) differs)
      ∙ sym (is_among-append (linked_up_to image i) (linked image (suc i)) m)

  own_kind : first_of (checks_of_kind done (suc p)) ≡ None
  unfolding checks_of_kind
  own_kind =
      subst (λ (i : ℕ). first_of (checks_along done (suc p) (linked_up_to done i) 59 i) ≡ None) (sym (less_one p))
      (checks_added image done (In p) own_heads (suc p) last n p own_nexts last_ends done_names least.least_number below_256 (λ m among. not_new p m small among) new_next (new_passes (suc p) n (byte done (Block n)) (length_of done (Block n)) below_256 new_length new_fields) 59 p
      (linked_up_to image p) (linked_up_to done p) (λ m among. ap (λ (l : List ℕ). is_among l m) (up_below p (omega arith))) own_inside own_fresh last_is short
      (subst (λ (i : ℕ). first_of (checks_along image (suc p) (linked_up_to image i) 59 i) ≡ None) (less_one p) (kind_none image agrees.undamaged (suc p) (block_kind p small))))

  done_kind : (j : ℕ) → j < 4 → first_of (checks_of_kind done (suc j)) ≡ None
  done_kind j below =
      ⊎_elim (λ same. subst (λ (i : ℕ). first_of (checks_of_kind done (suc i)) ≡ None) (sym same) own_kind)
      (λ differs. type_same done done_heads j below (other_nexts j below differs) (λ m among. among_up (suc j - 1) m (omega arith) (not_new j m below among))) (cases_eq j p)

  done_undamaged : first_block_damage done ≡ None
  done_undamaged = all_kinds done (done_kind 0 (omega arith)) (done_kind 1 (omega arith)) (done_kind 2 (omega arith)) (done_kind 3 (omega arith))

  pub done_grown : HaveGrown image done
  done_grown = grown_others done (λ i. done_outside.bytes Index i refl) (λ m. same_file_outside (addition_of files (suc p)) image done (external_file m) done_outside (λ i. refl) refl) (λ j m below differs. among_kind j m below differs) done_blocks done_length (λ m differs i past. done_bytes m differs i (inr past))

  pub done_headers : KeepsHeaders image done
  done_headers = let same = done_outside in kept_headers image done (λ i. same.bytes Index i refl) (same.lengths Index refl) (λ none. done_undamaged)

  -- what is kept once the new file is loaded
  module _ (new : BlockFiles) (joins : Joins files new (suc p) n 0 8192) where
    joined_kind : (j m : ℕ) → m ≢ n → is_among (files_of new (suc j)) m ≡ is_among (files_of files (suc j)) m
    joined_kind j m differs =
        ⊎_elim
        (λ same. subst (λ (i : ℕ). is_among (files_of new (suc i)) m ≡ is_among (files_of files (suc i)) m) (sym same)
        (let apart : (n == m) ≡ false = grind (arith, nat_tests) in
        ap (λ (l : List ℕ). is_among l m) joins.last ∙ is_among_more (files_of files (suc p)) n m ∙ ap (λ (t : Bool). is_among (files_of files (suc p)) m || t) apart ∙ or_false (is_among (files_of files (suc p)) m)))
        (λ other. ap (λ (l : List ℕ). is_among l m) (joins.others (suc j) (λ e. other (omega (arith, e))))) (cases_eq j p)
      where
        or_false : (t : Bool) → (t || false) ≡ t
        or_false true = refl
        or_false false = refl

    joined : (m : ℕ) → m ≢ n → is_among (all_files new) m ≡ true → is_among (all_files files) m ≡ true
    joined m differs among =
        among_kinds files m ∙ sym (λ i. joined_kind 0 m differs i || joined_kind 1 m differs i || joined_kind 2 m differs i || joined_kind 3 m differs i) ∙ sym (among_kinds new m) ∙ among

    joined_links : (kind : ℕ) → is_block_kind kind ≡ true → files_of new kind ≡ linked done kind
    joined_links zero holds = absurd (differ false holds refl)
    joined_links (suc j) holds =
        ⊎_elim
        (λ same. subst (λ (i : ℕ). files_of new (suc i) ≡ linked done (suc i)) (sym same) (joins.last ∙ ap (λ (l : List ℕ). l ++ n ∷ []) (agrees.links (suc p) (block_kind p small)) ∙ sym own_chain))
        (λ other. joins.others (suc j) (λ e. other (omega (arith, e))) ∙ agrees.links (suc j) holds ∙ sym (other_chain j (below_four j holds) other)) (cases_eq j p)
      where
        below_four : (j : ℕ) → is_block_kind (suc j) ≡ true → j < 4
        below_four j held = grind (arith, nat_tests)

    agrees_done : Agrees new done
    agrees_done = record {
      links = joined_links;
      blocks =
          λ m among. ⊎_elim (λ same. ap (blocks_of new) same ∙ joins.blocks_there ∙ sym new_blocks ∙ ap (max_entries_in done) (sym same))
          (λ differs. joins.other_blocks m differs ∙ agrees.blocks m (joined m differs among) ∙ sym (done_blocks m differs)) (cases_eq m n);
      lengths =
          λ m among. ⊎_elim (λ same. ap (length_in new) same ∙ joins.size_there ∙ sym new_length ∙ ap (λ (k : ℕ). length_of done (Block k)) (sym same))
          (λ differs. joins.other_lengths m differs ∙ agrees.lengths m (joined m differs among) ∙ sym (done_length m differs)) (cases_eq m n);
      undamaged = done_undamaged;
    }

    pub agrees_joined : Agrees new (after (add_steps files (suc p)) image)
    agrees_joined = subst (Agrees new) (sym (after-append (file_steps (suc p) n) (link_steps last n) image)) agrees_done

-- an image while a file is added
pub record IsAdding (files : BlockFiles) (kind : ℕ) (from image : Image) : Type 0 where
  pub outside : SameOutside (addition_of files kind) from image
  pub grown : HaveGrown from image
  pub headers : KeepsHeaders from image

module _ (files : BlockFiles) (image : Image) (p : ℕ) (small : p < 4) (agrees : Agrees files image) (room : length (files_of files (suc p)) < 60) (least : IsLeastFileNumber files (free_number files)) where
  making_adds : (b : Image) → SameOutside (whole (Block (free_number files))) image b → IsAdding files (suc p) image b
  making_adds b same = record {
    outside = outside_wider (whole (Block (free_number files))) (addition_of files (suc p)) image b (within_left (whole (Block (free_number files))) (range (Block (last_file files (suc p))) 10 2)) same;
    grown = making_grown files image p small agrees room least b same;
    headers = making_headers files image p small agrees room least b same;
  }

  along_kind : Along (IsAdding files (suc p) image) image (add_steps files (suc p))
  along_kind =
      until-append (IsAdding files (suc p) image) (IsAdding files (suc p) image) (file_steps (suc p) (free_number files)) (link_steps (last_file files (suc p)) (free_number files)) image
      (until_weaker2 (SameOutside (whole (Block (free_number files))) image) (IsAdding files (suc p) image) (SameOutside (whole (Block (free_number files))) image) (IsAdding files (suc p) image) (file_steps (suc p) (free_number files)) image making_adds making_adds (making_outside (suc p) (free_number files) image)) (
        making_adds (after (file_steps (suc p) (free_number files)) image) (made_same files image p small agrees room least),
        record { outside = done_outside files image p small agrees room least; grown = done_grown files image p small agrees room least; headers = done_headers files image p small agrees room least },
      )

pub least_is : (files : BlockFiles) (n : ℕ) → n ≡ free_number files → IsLeastFileNumber files n → IsLeastFileNumber files (free_number files)
least_is files n same least = subst (IsLeastFileNumber files) same least

-- each kind of blocks
pub by_kind : (P : ℕ → Type 0) → ((p : ℕ) → p < 4 → P (suc p)) → (k : Kind) → kind_number k ≢ 0 → P (kind_number k)
by_kind P each External block_kind = absurd (block_kind refl)
by_kind P each Rankings block_kind = each 0 (lit< tt)
by_kind P each B256 block_kind = each 1 (lit< tt)
by_kind P each B1K block_kind = each 2 (lit< tt)
by_kind P each B4K block_kind = each 3 (lit< tt)

-- a call that made the file, and then linked it
module _ (files : BlockFiles) (k : Kind) (block_kind : kind_number k ≢ 0) (a : Told) (agrees : ForSome a.files (Agrees files)) (room : length (files_of files (kind_number k)) < 60) (least : IsLeastFileNumber files (free_number files)) where
  abbrev kind : ℕ
  kind = kind_number k

  add_along : (image : Image) → Agrees files image → Along (IsAdding files kind image) image (add_steps files kind)
  add_along image agree =
      by_kind (λ (j : ℕ). length (files_of files j) < 60 → Along (IsAdding files j image) image (add_steps files j)) (λ p small few. along_kind files image p small agree few least) k block_kind room

  add_quiet : IsQuiet (add_steps files kind)
  add_quiet = quiet-append (file_steps kind (free_number files)) (link_steps (last_file files kind) (free_number files)) (making_quiet kind (free_number files)) tt

  pub add_room : {b : Told} → Applies a b (file_steps kind (free_number files)) → ForSome b.files (λ image. 10 + 2 ≤ length_of image (Block (last_file files kind)))
  add_room grows =
      told_whole (λ image. 10 + 2 ≤ length_of image (Block (last_file files kind))) grows
      (λ image there. by_kind (λ (j : ℕ). length (files_of files j) < 60 → 10 + 2 ≤ length_of (after (file_steps j (free_number files)) image) (Block (last_file files j)))
      (λ p small few. let long = made_room files image p small (agrees image there) few least in omega (arith, long)) k block_kind room)

  passing : {d : Told} (P : Image → Type 0) (from : Image) → ((image : Image) → IsAdding files kind from image → P image) → a.files ≡ Some from → AppliesPrefix a d (add_steps files kind) → Passes a d P
  passing P from holds there part =
      passes_part P P part add_quiet (λ image p. p)
      (λ image here. subst (λ (i : Image). Until P P i (add_steps files kind)) (some_inj (sym there ∙ here))
      (until_weaker2 (IsAdding files kind from) P (IsAdding files kind from) P (add_steps files kind) from holds holds (add_along from (agrees from there))))

  pub add_stops : {d : Told} → AppliesPrefix a d (add_steps files kind) → ForSome a.files (λ from. Passes a d (StaysWholeOutside (addition_of files kind) from))
  add_stops part from there = passing (StaysWholeOutside (addition_of files kind) from) from (λ image adding. record { outside = adding.outside; stays = record { grown = adding.grown; headers = adding.headers } }) there part

  pub add_agrees : {d : Told} (new : BlockFiles) → Applies a d (add_steps files kind) → Joins files new kind (free_number files) 0 8192 → ForSome d.files (Agrees new)
  add_agrees new grows joins =
      told_whole (Agrees new) grows
      (λ image there. by_kind (λ (j : ℕ). length (files_of files j) < 60 → Joins files new j (free_number files) 0 8192 → Agrees new (after (add_steps files j) image))
      (λ p small few joined. agrees_joined files image p small (agrees image there) few least new joined) k block_kind room joins)
