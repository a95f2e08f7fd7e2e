-- Space for blocks: files that are counted never lack it, and what is given in a file that was made ready.
use Rattle.std.proofs.Common.{◌≡◌, ◌≢◌, ◌⊎◌, inl, inr, ℕ, ◌+◌, ◌*◌, ◌%◌, ◌<◌, ◌≤◌, List, [], ◌∷◌, length, Bool, true, false, ◌&&◌, ◌||◌, if◌then◌else◌, Option, None, Some, Result, Ok, Err, refl, sym, ◌∙◌, ap, subst, arith, ⊎_elim, get_or}
use Rattle.std.specs.Prelude.{◌==◌, IfOk}
use Rattle.std.specs.List.{All, sum_by}
use Rattle.std.specs.Option.{ForSome, option_map}
use Rattle.std.proofs.lemmas.Bool.Decides.{nat_tests}
use Rattle.std.proofs.lemmas.List.Folds.{list_any_at}
use Rattle.std.proofs.lemmas.List.Sums.{sum_by-cons}
use Rattle.spec_image.specs.Image.{Image, Block, byte}
use Rattle.spec_image.specs.Steps.{after}
use Rattle.spec_image.specs.Told.{Told, PassesTo}
use Rattle.spec_image.specs.Footprint.{Footprint, SameOutside, IsWithin, either, one_word, size_of}
use Rattle.spec_image.proofs.Footprints.{outside-trans, outside_wider, within_left, within_right, within_both}
use Rattle.spec_format.specs.Address.{external, file_selector, block_count, block_word, is_address, kind_of, rankings}
use Rattle.spec_format.specs.Headers.{allocations_of}
use Rattle.spec_format.specs.BlockFiles.{is_among, max_entries_in}
use Rattle.spec_format.specs.Maps.{is_block_marked, are_free, AreAllocations}
use Rattle.spec_format.proofs.Words.{AreFields, is_address-block_word, file_selector-block_word, kind_of-block_word, block_count-block_word}
use Rattle.blk_addr.specs.declared.kinds.Kind.{Kind}
use Rattle.blk_addr.specs.Kind.{kind_number}
use Rattle.blk_io.specs.declared.fault.Fault.{Fault}
use Rattle.blk_io.specs.declared.fault.Fault.TheVariants.{Device, Damaged}
use Rattle.blk_io.specs.Faults.{IfDamaged}
use Rattle.blk_disk.specs.declared.tables.BlockFiles.{BlockFiles}
use Rattle.blk_disk.specs.Tables.{Agrees, all_files, files_of}
use Rattle.blk_disk.specs.Growth.{addition_of, free_number, growth_of}
use Rattle.blk_alloc.specs.declared.blocks.Blocks.{Blocks}
use Rattle.blk_alloc.specs.Fitting.{HasNoRoom, IsFit, IsPlace}
use Rattle.blk_alloc.specs.Owning.{is_of}
use Rattle.blk_alloc.specs.Places.{is_place}
use Rattle.blk_alloc.specs.Extending.{HasCounters, HasMostBlocks, HasNoHints, IsFirstGrowing, KeepsAll}
use Rattle.blk_alloc.specs.Marking.{CanBeMarked, MarksUsed, hints_and_updating, hints_of_file, taking_of}
use Rattle.blk_alloc.specs.Allocating.{AreCounted, HaveNoRoom, Allocates, Extends, ExtendsAnd, updating_word}
use Rattle.spec_format.proofs.LinkedHeads.{count_whole}
use Rattle.blk_alloc.specs.Changes.{map_of, CanChangeMarks}
use Rattle.blk_alloc.proofs.Pieces.{place_free}
use Rattle.blk_alloc.proofs.Changing.{at_updating, within-trans}
use Rattle.blk_alloc.proofs.Fullness.{full_counts, many_full}
use Rattle.blk_alloc.proofs.Searches.{none_at_front}
use Rattle.blk_alloc.proofs.Taken.{map_taken, quiet_of}
use Rattle.blk_alloc.proofs.Members.{kind_blocky, kind_small, member_all, member_head}

or_true : (a b : Bool) → (a || b) ≡ true → (a ≡ true) ⊎ (b ≡ true)
or_true true b e = inl refl
or_true false b e = inr e

clash : false ≡ true → ⊥
clash e = cc

-- one of a list is no more than all of it together
pub sum_member : (f : ℕ → ℕ) (n : ℕ) (files : List ℕ) → is_among files n ≡ true → f n ≤ sum_by f files
sum_member f n [] among = absurd (clash among)
sum_member f n (k ∷ files) among =
    let sum = sum_by-cons f k files in
    ⊎_elim
    (λ here. let e : k ≡ n = grind (arith, nat_tests) in let same : f k ≡ f n = ap f e in omega (arith, sum, same))
    (λ there. let rest = sum_member f n files there in omega (arith, sum, rest))
    (or_true (k == n) (is_among files n) among)

-- a file of a counted kind has counters that agree with its map
pub has_counters : (files : BlockFiles) (image : Image) (kind n : ℕ) → AreCounted files kind image → is_among (files_of files kind) n ≡ true → HasCounters image n
has_counters files image kind n counted among =
    let has = counted.each n among in
    let one : allocations_of (byte image (Block n)) ≤ sum_by (λ m. allocations_of (byte image (Block m))) (files_of files kind) = sum_member (λ m. allocations_of (byte image (Block m))) n (files_of files kind) among in
    let most = counted.most in
    record { words = has.words; are = has.are; empty = has.empty; room = omega (arith, one, most) }

at_member : (xs : List ℕ) (k d : ℕ) → k < length xs → is_among xs (get_or xs k d) ≡ true
at_member xs k d small = list_any_at (λ m. m == get_or xs k d) xs k d small (same (get_or xs k d))
  where
    same : (x : ℕ) → (x == x) ≡ true
    same x = grind (arith, nat_tests)

-- 60 full files of a kind would hold more allocations than there are
pub never_full : (files : BlockFiles) (image : Image) (k : Kind) (count : ℕ) → kind_number k ≢ external → 0 < count → count ≤ 4 → Agrees files image → AreCounted files (kind_number k) image
    → HaveNoRoom files (kind_number k) count image → All (HasMostBlocks files) (files_of files (kind_number k)) → 60 ≤ length (files_of files (kind_number k)) → ⊥
never_full files image k count block_kind some few agrees counted none full sixty =
    let list : List ℕ = files_of files (kind_number k) in
    let f : ℕ → ℕ = λ n. allocations_of (byte image (Block n)) in
    let each : All (λ n. 16224 ≤ f n) list = (λ i d small. holds (get_or list i d) (at_member list i d small) (none i d small) (full i d small)) in
    let many : length list * 16224 ≤ sum_by f list = many_full f 16224 list each in
    let most : sum_by f list ≤ 655362 = counted.most in
    omega (arith, many, most, sixty)
  where
    holds : (n : ℕ) → is_among (files_of files (kind_number k)) n ≡ true → HasNoRoom image count n → HasMostBlocks files n → 16224 ≤ allocations_of (byte image (Block n))
    holds n among refuses big =
        let has = counted.each n among in
        let head = member_head files image k n block_kind agrees among in
        let whole = count_whole _ head.count in
        let is = agrees.blocks n (member_all files k n block_kind among) in
        let groups = full_counts image n count has.words few whole.0 whole.1 has.are (λ g there. none_at_front image n count g few some has.empty refuses there) in
        omega (arith, groups, is, big)

-- more is touched
extends_then : (one other : ℕ → Footprint) (F : Footprint) (files : BlockFiles) (kind n : ℕ) (from mid image : Image) → IsWithin (one n) (other n) → IsWithin F (either (growth_of n) (other n))
    → ExtendsAnd one files kind from n mid → SameOutside F mid image → ExtendsAnd other files kind from n image
extends_then one other F files kind n from mid image within last extends same =
    let A = addition_of files kind in
    let G1 = either (growth_of n) (one n) in
    let G2 = either (growth_of n) (other n) in
    let wider : IsWithin G1 G2 = within_both (growth_of n) (one n) G2 (within_left (growth_of n) (other n)) (within-trans (one n) (other n) G2 within (within_right (growth_of n) (other n))) in
    ⊎_elim
    (λ (grows : IsFirstGrowing files (files_of files kind) n × SameOutside G1 from mid).
    inl (grows.0, outside-trans G2 from mid image (outside_wider G1 G2 from mid wider grows.1) (outside_wider F G2 mid image last same)))
    (λ (adds : All (HasMostBlocks files) (files_of files kind) × (n ≡ free_number files) × SameOutside (either A G1) from mid).
    inr (
      adds.0,
      adds.1,
      outside-trans (either A G2) from mid image
          (outside_wider (either A G1) (either A G2) from mid (within_both A G1 (either A G2) (within_left A G2) (within-trans G1 G2 (either A G2) wider (within_right A G2))) adds.2)
          (outside_wider F (either A G2) mid image (within-trans F G2 (either A G2) last (within_right A G2)) same),
    ))
    extends

updating_within : (n : ℕ) → IsWithin (updating_word n) (taking_of n)
updating_within n = within-trans (updating_word n) (map_of n) (taking_of n) (at_updating n) (map_taken n)

within-refl : (F : Footprint) → IsWithin F F
within-refl F = record { bytes = λ file i e. e; sizes = λ file e. e }

-- space that is made by a growth
pub room_grown : (files : BlockFiles) (kind n : ℕ) (from image : Image) → IsFirstGrowing files (files_of files kind) n → SameOutside (growth_of n) from image → ExtendsAnd updating_word files kind from n image
room_grown files kind n from image first same = inl (first, outside_wider (growth_of n) (either (growth_of n) (updating_word n)) from image (within_left (growth_of n) (updating_word n)) same)

-- space that is made in a new file
pub room_added : (files : BlockFiles) (kind n : ℕ) (from image : Image) → n ≡ free_number files → All (HasMostBlocks files) (files_of files kind) → SameOutside (either (addition_of files kind) (growth_of (free_number files))) from image → ExtendsAnd updating_word files kind from n image
room_added files kind n from image is full same =
    let A = addition_of files kind in
    let G = growth_of n in
    let wide = either A (either G (updating_word n)) in
    inr (
      full,
      is,
      outside_wider (either A G) wide from image
          (within_both A G wide (within_left A (either G (updating_word n))) (within-trans G (either G (updating_word n)) wide (within_left G (updating_word n)) (within_right A (either G (updating_word n)))))
          (subst (λ (m : ℕ). SameOutside (either A (growth_of m)) from image) (sym is) same),
    )

-- before its blocks are marked no more than hints and updating differ besides
pub room_begun : (files : BlockFiles) (kind n : ℕ) (from mid image : Image) → ExtendsAnd updating_word files kind from n mid → SameOutside (quiet_of n) mid image → ExtendsAnd hints_and_updating files kind from n image
room_begun files kind n from mid image room same =
    let words = either (one_word (Block n) 36) (one_word (Block n) 20) in
    let G = either (growth_of n) (hints_and_updating n) in
    extends_then updating_word hints_and_updating (quiet_of n) files kind n from mid image (within_right (hints_of_file n) (updating_word n))
    (within_both (size_of (Block n)) (hints_and_updating n) G (within-trans (size_of (Block n)) (growth_of n) G (within_left (size_of (Block n)) words) (within_left (growth_of n) (hints_and_updating n))) (within_right (growth_of n) (hints_and_updating n)))
    room same

-- then its length, hints, map and counters
pub room_marked : (files : BlockFiles) (kind n : ℕ) (from mid image : Image) → ExtendsAnd updating_word files kind from n mid → SameOutside (taking_of n) mid image → ExtendsAnd taking_of files kind from n image
room_marked files kind n from mid image room same = extends_then updating_word taking_of (taking_of n) files kind n from mid image (updating_within n) (within_right (growth_of n) (taking_of n)) room same

-- the file of the word of a place
pub word_file : (files : BlockFiles) (k : Kind) (count : ℕ) (place : Blocks) → 0 < count → IsPlace files (kind_number k) count place → file_selector (block_word (kind_number k) place.file place.start place.count) ≡ place.file
word_file files k count place some is =
    let small = is.small in
    let group = is.group in
    let counted = is.counted in
    file_selector-block_word (kind_number k) place.file place.start place.count (record { kind = kind_small k; file = is.number; start = omega (arith, small); some = omega (arith, some, counted); most = omega (arith, group, counted) })

-- so many blocks, by their own number
pub place_counted : (files : BlockFiles) (kind count : ℕ) (place : Blocks) → place.count ≡ count → IsPlace files kind place.count place → IsPlace files kind count place
place_counted files kind count place counted is = subst (λ (k : ℕ). IsPlace files kind k place) counted is

-- the kind and the number of blocks of an address of a place
pub word_kind : (files : BlockFiles) (k : Kind) (count : ℕ) (place : Blocks) → 0 < count → IsPlace files (kind_number k) count place → (kind_of (block_word (kind_number k) place.file place.start place.count) ≡ kind_number k) × (block_count (block_word (kind_number k) place.file place.start place.count) ≡ count)
word_kind files k count place some is =
    let small = is.small in
    let group = is.group in
    let counted = is.counted in
    let fields : AreFields (kind_number k) place.file place.start place.count = record { kind = kind_small k; file = is.number; start = omega (arith, small); some = omega (arith, some, counted); most = omega (arith, group, counted) } in
    (kind_of-block_word (kind_number k) place.file place.start place.count fields, block_count-block_word (kind_number k) place.file place.start place.count fields ∙ counted)

-- the word of a place is an address
pub word_address : (files : BlockFiles) (k : Kind) (count : ℕ) (place : Blocks) → kind_number k ≢ external → 0 < count → (kind_number k ≡ rankings → count ≡ 1) → IsPlace files (kind_number k) count place → is_address (block_word (kind_number k) place.file place.start place.count) ≡ true
word_address files k count place block_kind some node is =
    let small = is.small in
    let group = is.group in
    let counted = is.counted in
    let fields : AreFields (kind_number k) place.file place.start place.count = record { kind = kind_small k; file = is.number; start = omega (arith, small); some = omega (arith, some, counted); most = omega (arith, group, counted) } in
    is_address-block_word (kind_number k) place.file place.start place.count fields (kind_blocky k block_kind) (omega (arith, group, counted)) (λ e. counted ∙ node e)

-- blocks that are taken where space was made are given
pub given_made : (old new : BlockFiles) (from mid image : Image) (place : Blocks) (w : ℕ) → file_selector w ≡ place.file → KeepsAll old new → Extends old from place mid → MarksUsed new mid w image → (is_among (all_files old) (file_selector w) ≡ false → HasNoHints image (file_selector w)) → Allocates old from w image
given_made old new from mid image place w file all made taken hints = record {
  free = λ among b of. sym (made.marks (file_selector w) b among) ∙ taken.free b of;
  marks = λ n b among small. taken.marks n b small ∙ ap (λ (t : Bool). if is_of w n b then true else t) (made.marks n b among);
  allocations = λ among words are. taken.allocations words ((made.keeps (file_selector w) among).allocations words are);
  fresh = λ none. taken.allocations [] (subst (λ (n : ℕ). AreAllocations mid n []) (sym file) (made.fresh (ap (is_among (all_files old)) (sym file) ∙ none)));
  hints = hints;
  elsewhere = λ n among differs. record {
    allocations = λ words are. taken.elsewhere n (all n among) differs words ((made.keeps n among).allocations words are);
    empty = λ was. taken.empty_elsewhere n differs ((made.keeps n among).empty was);
  };
  empty = taken.empty;
  updating = taken.updating;
}

-- blocks that are taken of a file that was there are given
pub given_fit : (files : BlockFiles) (from image : Image) (w : ℕ) → is_among (all_files files) (file_selector w) ≡ true → MarksUsed files from w image → Allocates files from w image
given_fit files from image w among taken = record {
  free = λ there b of. taken.free b of;
  marks = λ n b there small. taken.marks n b small;
  allocations = λ there words are. taken.allocations words are;
  fresh = λ none. absurd (clash (sym none ∙ among));
  hints = λ none. absurd (clash (sym none ∙ among));
  elsewhere = λ n there differs. record { allocations = λ words are. taken.elsewhere n there differs words are; empty = λ was. taken.empty_elsewhere n differs was };
  empty = taken.empty;
  updating = taken.updating;
}

-- what two facts say of a value they say together
pub if_ok_both : {A E : Type 0} (r : Result A E) (P Q R : A → Type 0) → ((a : A) → P a → Q a → R a) → IfOk r P → IfOk r Q → IfOk r R
if_ok_both {A} {E} (Ok a) P Q R both one other = both a one other
if_ok_both {A} {E} (Err e) P Q R both one other = tt

none_some : {image : Image} → None ≡ Some image → ⊥
none_some {image} e = cc

-- a folder that is opaque after a call was opaque before it
pub untold_before : {a b : Told} (P : Image → Image → Type 0) → ForSome a.files (λ from. PassesTo a b (P from) (P from)) → b.files ≡ None → a.files ≡ None
untold_before {a} {b} P stops none = by_files a.files refl
  where
    by_files : (o : Option Image) → a.files ≡ o → a.files ≡ None
    by_files None is = is
    by_files (Some from) is = absurd (none_some (sym none ∙ (stops from is).applies.files ∙ ap (option_map (after (stops from is).steps)) is))

-- what holds whatever the failed check is
pub if_damaged_any : {A : Type 0} (r : Result A Fault) (X : Type 0) → X → IfDamaged r (λ _. X)
if_damaged_any {A} (Ok a) X holds = tt
if_damaged_any {A} (Err Device) X holds = tt
if_damaged_any {A} (Err (Damaged damage)) X holds = holds

-- files that were observed before some steps are observed after them
pub told_later : {a b : Told} {P Q : Image → Type 0} {from : Image} → PassesTo a b P Q → a.files ≡ Some from → (mid : Image) × (b.files ≡ Some mid)
told_later {a} {b} {P} {Q} {from} passes there = (after passes.steps from, passes.applies.files ∙ ap (option_map (after passes.steps)) there)

first_of_two : (a b : Bool) → (a && b) ≡ true → a ≡ true
first_of_two true b e = refl
first_of_two false b e = e

second_of_two : (a b : Bool) → (a && b) ≡ true → b ≡ true
second_of_two true b e = e
second_of_two false b e = absurd (clash e)

-- blocks that are found where others could be taken may be taken
pub takeable_there : (image : Image) (room place : Blocks) (count : ℕ) → place.file ≡ room.file → place.count ≡ count → place.start < max_entries_in image room.file → place.start % 4 + count ≤ 4 → is_place (is_block_marked image room.file) count place.start ≡ true → CanBeMarked image room → CanBeMarked image place
takeable_there image room place count file counted below group is can =
    let ready = can.ready in
    let whole = ready.whole in
    record {
      ready = subst (λ (n : ℕ). CanChangeMarks image n place.start place.count true) (sym file)
          (record { header = ready.header; whole = ready.whole; most = ready.most; below = in_group place.start place.count count (max_entries_in image room.file) below whole group counted; empty = ready.empty; more = ready.more; less = ready.less });
      free = subst (λ (n : ℕ). are_free (is_block_marked image n) place.start place.count ≡ true) (sym file) (subst (λ (m : ℕ). are_free (is_block_marked image room.file) place.start m ≡ true) (sym counted) (place_free (is_block_marked image room.file) count place.start is));
    }
  where
    in_group : (start n count max : ℕ) → start < max → max % 4 ≡ 0 → start % 4 + count ≤ 4 → n ≡ count → start + n ≤ max
    in_group start n count max below whole group at = omega (arith, below, whole, group, at)

-- what is found by counters and hints may be taken
pub fit_takeable : (files : BlockFiles) (image : Image) (k : Kind) (count : ℕ) (place : Blocks) → kind_number k ≢ external → Agrees files image → AreCounted files (kind_number k) image
    → IsPlace files (kind_number k) count place → IsFit image (files_of files (kind_number k)) count place → CanBeMarked image place
fit_takeable files image k count place block_kind agrees counted is fit =
    let has = has_counters files image (kind_number k) place.file counted is.linked in
    let head = member_head files image k place.file block_kind agrees is.linked in
    let whole = count_whole _ head.count in
    let there = fit.blocks.there in
    let below : place.start < max_entries_in image place.file = omega (arith, there) in
    let group = is.group in
    let room = has.room in
    let at = is.counted in
    record {
      ready = record {
        header = head.header;
        whole = whole.0;
        most = whole.1;
        below = in_group place.start place.count count (max_entries_in image place.file) below whole.0 group at;
        empty = has.empty;
        more = λ e. room;
        less = λ e. absurd (clash (sym e));
      };
      free = subst (λ (m : ℕ). are_free (is_block_marked image place.file) place.start m ≡ true) (sym at) (place_free (is_block_marked image place.file) count place.start fit.blocks.least.place);
    }
  where
    in_group : (start n count max : ℕ) → start < max → max % 4 ≡ 0 → start % 4 + count ≤ 4 → n ≡ count → start + n ≤ max
    in_group start n count max below whole group at = omega (arith, below, whole, group, at)
