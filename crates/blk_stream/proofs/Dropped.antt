-- The streams of a record are dropped one after the other.
use Rattle.std.proofs.Common.{◌≡◌, ◌≢◌, ◌⊎◌, inl, inr, ⊎_elim, ℕ, zero, suc, ◌+◌, ◌<◌, ◌≤◌, Bool, true, false, ◌||◌, if◌then◌else◌, List, [], ◌∷◌, length, Option, None, Some, refl, sym, ◌∙◌, ap, subst, arith}
use Rattle.std.specs.Prelude.{◌==◌}
use Rattle.std.specs.Option.{ForSome}
use Rattle.std.proofs.lemmas.Bool.{cases_Bool, cases_eq, cases_lt, eqb-true}
use Rattle.std.proofs.lemmas.Bool.Decides.{nat_tests}
use Rattle.spec_image.specs.Image.{Block, External, Image, has_file, word}
use Rattle.spec_image.specs.Footprint.{SameOutside, IsWithin, either, nothing}
use Rattle.spec_image.specs.Told.{Told, Passes}
use Rattle.spec_image.proofs.Footprints.{outside-refl, outside-trans, outside_wider, same_word_outside, within_left, within_right, within-refl}
use Rattle.spec_image.proofs.Runs.{passes_none, passes_then, passes_weaker, some_inj}
use Rattle.spec_format.specs.Address.{kind_of, external, external_number, file_selector, place}
use Rattle.spec_format.specs.BlockFiles.{is_among}
use Rattle.spec_format.specs.Claims.{is_in_file}
use Rattle.spec_format.specs.Maps.{AreAllocations, is_block_marked}
use Rattle.spec_format.specs.Sealed.{RecordChecks, record_at}
use Rattle.spec_format.proofs.LinkedHeads.{count_whole}
use Rattle.spec_format.proofs.SpareHeaders.{past_header}
use Rattle.spec_format.proofs.Finished.{headers-kept, headers-next}
use Rattle.spec_folder.specs.Entries.{stream}
use Rattle.blk_disk.specs.declared.tables.BlockFiles.{BlockFiles}
use Rattle.blk_disk.specs.Tables.{Agrees}
use Rattle.blk_disk.proofs.Ranges.{stands_linked}
use Rattle.blk_io.proofs.Carried.{told_at_end}
use Rattle.blk_alloc.specs.Owning.{others}
use Rattle.blk_disk.proofs.WholeHeaders.{all_head}
use Rattle.blk_stream.specs.Streams.{address_place, address_word, may_keep, size_place, size_word}
use Rattle.blk_stream.specs.Changing.{stream_words}
use Rattle.blk_stream.specs.Freeing.{MayBeFreed, leaving_of, is_block_of, left_by}
use Rattle.blk_stream.specs.Dropping.{AreDropped, DropsInProgress, DropsStream, DropsStreamInProgress, HaveOwnPlaces, IsEmptyStream, KeepsStream, StreamCanBeDropped, StreamsCanBeDropped, dropping_of, is_block_of_first, left_by_first}
use Rattle.blk_stream.proofs.PlacesLeft.{leaving_off, told_back}
use Rattle.blk_stream.proofs.Naming.{words_off_other}
use Rattle.blk_stream.proofs.PlacesFreed.{left_elsewhere, left_here}
use Rattle.blk_stream.proofs.StreamPlaces.{IsStream, address_at, keeps_stands, size_at, stream_facts}

-- Lists of allocations.

kept_first : (x w : ℕ) (words : List ℕ) → (x == w) ≡ false → others w (x ∷ words) ≡ x ∷ others w words
kept_first x w words e = rw e refl

left_first : (x w : ℕ) (words : List ℕ) → (x == w) ≡ true → others w (x ∷ words) ≡ others w words
left_first x w words e = rw e refl

among_others : (w v : ℕ) (words : List ℕ) → v ≢ w → is_among words v ≡ true → is_among (others w words) v ≡ true
among_others w v [] differs e = e
among_others w v (x ∷ words) differs e = by_tests (λ h. among_others w v words differs h) (x == v) (x == w) refl refl e
  where
    first : (is_among words v ≡ true → is_among (others w words) v ≡ true) → (s : Bool) → (x == v) ≡ s → (s || is_among words v) ≡ true → ((x == v) || is_among (others w words) v) ≡ true
    first rest true is_v h = rw is_v refl
    first rest false is_v h = rw is_v (rest h)

    by_tests : (is_among words v ≡ true → is_among (others w words) v ≡ true) → (s t : Bool) → (x == v) ≡ s → (x == w) ≡ t → (s || is_among words v) ≡ true → is_among (others w (x ∷ words)) v ≡ true
    by_tests rest s false is_v t h = subst (λ (l : List ℕ). is_among l v ≡ true) (sym (kept_first x w words t)) (first rest s is_v h)
    by_tests rest true true is_v t h = absurd (differs (sym (eqb-true x v is_v) ∙ eqb-true x w t))
    by_tests rest false true is_v t h = subst (λ (l : List ℕ). is_among l v ≡ true) (sym (left_first x w words t)) (rest h)

among_left : (w v n : ℕ) (words : List ℕ) → v ≢ w → is_among words v ≡ true → is_among (left_by w n words) v ≡ true
among_left w v n words differs e =
    ⊎_elim
    (λ (t : is_in_file n w ≡ true). subst (λ (l : List ℕ). is_among l v ≡ true) (sym (left_here w n words t)) (among_others w v words differs e))
    (λ (t : is_in_file n w ≡ false). subst (λ (l : List ℕ). is_among l v ≡ true) (sym (left_elsewhere w n words t)) e)
    (cases_Bool (is_in_file n w))

of_nothing : (n : ℕ) → is_in_file n 0 ≡ false
unfolding is_in_file kind_of
of_nothing n = refl

not_nothing : (n w : ℕ) → is_in_file n w ≡ true → w ≢ 0
not_nothing n w e none = clashes (sym (ap (is_in_file n) none ∙ of_nothing n) ∙ e)
  where
    clashes : false ≡ true → ⊥
    clashes h = cc

in_own_file : (w : ℕ) → kind_of w ≢ external → is_in_file (file_selector w) w ≡ true
unfolding is_in_file
in_own_file w blocky = let t : (kind_of w == external) ≡ false = grind (arith, nat_tests) in let e : (file_selector w == file_selector w) ≡ true = grind (arith, nat_tests) in rw (t, e) refl

-- Marks.
marks_join : (a b m : Bool) → (if a then false else (if b then false else m)) ≡ (if (if a then true else b) then false else m)
marks_join true b m = refl
marks_join false b m = refl

-- Words that stay.

module _ (entry k w : ℕ) (from image : Image) (small : k < 3) (same : SameOutside (either (stream_words entry k) (leaving_of w)) from image) where
  pub stream_kept : (i : ℕ) → i < 3 → k ≢ i → KeepsStream entry i from image
  stream_kept i low differs = record {
    size = size_at image entry i low ∙ word_same (size_place i) (inl refl) ∙ sym (size_at from entry i low);
    word = address_at image entry i low ∙ word_same (address_place i) (inr refl) ∙ sym (address_at from entry i low);
  }
    where
      word_same : (at : ℕ) → (at ≡ size_place i) ⊎ (at ≡ address_place i) → word image (Block (file_selector entry)) (place entry + at) ≡ word from (Block (file_selector entry)) (place entry + at)
      word_same at is = same_word_outside (either (stream_words entry k) (leaving_of w)) from image (Block (file_selector entry)) (place entry + at) same
          (λ q first last. let a = words_off_other entry k i at small low differs is q first last in let b = leaving_off w (file_selector entry) q (let p = past_header entry in omega (arith, first, p)) in rw (a, b) refl)

-- One more.

both_same : (entry : ℕ) (from : Image) (k : ℕ) (mid image : Image) → SameOutside (dropping_of k entry from) from mid → SameOutside (either (stream_words entry k) (leaving_of (address_word from entry k))) mid image → SameOutside (dropping_of (suc k) entry from) from image
unfolding dropping_of
both_same entry from k mid image first second =
    let D = dropping_of k entry from in
    let E = either (stream_words entry k) (leaving_of (address_word from entry k)) in
    outside-trans (either D E) from mid image (outside_wider D (either D E) from mid (within_left D E) first) (outside_wider E (either D E) mid image (within_right D E) second)

module _ (entry : ℕ) (from : Image) where
  pub none_yet : RecordChecks entry from → AreDropped 0 entry from from
  unfolding dropping_of is_block_of_first left_by_first
  none_yet good = record {
    same = outside-refl nothing from;
    checks = good;
    headers = headers-kept from;
    none = λ i less. absurd (omega (arith, less));
    later = λ i more low. record { size = refl; word = refl };
    marks = λ n b small. refl;
    allocations = λ own n words are among. are;
    blocks = λ n. refl;
    empty = λ n few was. was;
    gone = λ i less. absurd (omega (arith, less));
  }

  left_among : HaveOwnPlaces entry from → (m j n : ℕ) (words : List ℕ) → m ≤ j → j < 3 → address_word from entry j ≢ 0 → is_among words (address_word from entry j) ≡ true → is_among (left_by_first m entry from n words) (address_word from entry j) ≡ true
  unfolding left_by_first
  left_among own zero j n words more low some e = e
  left_among own (suc m) j n words more low some e =
      among_left (address_word from entry m) (address_word from entry j) n (left_by_first m entry from n words)
      (λ same. some (same ∙ own m j (omega (arith, more, low)) low (omega (arith, more)) (sym same)))
      (left_among own m j n words (omega (arith, more)) low some e)

  module _ (k : ℕ) (mid : Image) (small : k < 3) (was : AreDropped k entry from mid) where
    word_here : address_word mid entry k ≡ address_word from entry k
    word_here = (was.later k (omega arith) small).word

    pub next_dropped : (image : Image) → DropsStream entry k mid image → AreDropped (suc k) entry from image
    unfolding dropping_of is_block_of_first left_by_first
    next_dropped image drops = record {
      same = both_same entry from k mid image was.same same_here;
      checks = drops.checks;
      headers = headers-next from mid image was.headers drops.headers;
      none = none_now;
      later = λ i more low. let kept = stream_kept entry k _ mid image small drops.same i low (omega (arith, more)) in let before = was.later i (omega (arith, more)) low in record { size = kept.size ∙ before.size; word = kept.word ∙ before.word };
      marks = λ n b low. drops.marks n b low ∙ ap (λ (w : ℕ). if is_block_of w n b then false else is_block_marked mid n b) word_here ∙ ap (λ (t : Bool). if is_block_of (address_word from entry k) n b then false else t) (was.marks n b low)
          ∙ marks_join (is_block_of (address_word from entry k) n b) (is_block_of_first k entry from n b) (is_block_marked from n b);
      allocations = λ own n list are among.
          subst (λ (w : ℕ). AreAllocations image n (left_by w n (left_by_first k entry from n list))) word_here
          (drops.allocations n (left_by_first k entry from n list) (was.allocations own n list are (λ i less. among i (omega (arith, less))))
          (λ here. let there : is_in_file n (address_word from entry k) ≡ true = ap (is_in_file n) (sym word_here) ∙ here in
          subst (λ (w : ℕ). is_among (left_by_first k entry from n list) w ≡ true) (sym word_here)
          (left_among own k k n list (omega arith) small (not_nothing n (address_word from entry k) there) (among k (omega arith) there))));
      blocks = λ n. drops.blocks n ∙ was.blocks n;
      empty = λ n few agreed. drops.empty n (let e = was.blocks n in omega (arith, e, few)) (was.empty n few agreed);
      gone = gone_now;
    }
      where
        same_here : SameOutside (either (stream_words entry k) (leaving_of (address_word from entry k))) mid image
        same_here = subst (λ (w : ℕ). SameOutside (either (stream_words entry k) (leaving_of w)) mid image) word_here drops.same

        none_now : (i : ℕ) → i < suc k → IsEmptyStream entry i image
        none_now i less = ⊎_elim
            (λ (e : i ≡ k). subst (λ (j : ℕ). IsEmptyStream entry j image) (sym e) drops.none)
            (λ (differs : i ≢ k). let before = was.none i (omega (arith, less, differs)) in
            let kept = stream_kept entry k _ mid image small drops.same i (omega (arith, less, small)) (λ e. differs (sym e)) in
            record { size_is = kept.size ∙ before.size_is; word_is = kept.word ∙ before.word_is })
            (cases_eq i k)

        gone_now : (i : ℕ) → i < suc k → kind_of (address_word from entry i) ≡ external → address_word from entry i ≢ 0 → has_file image (External (external_number (address_word from entry i))) ≡ false
        gone_now i less kind some = ⊎_elim
            (λ (e : i ≡ k).
            let is : address_word mid entry k ≡ address_word from entry i = word_here ∙ ap (λ (j : ℕ). address_word from entry j) (sym e) in
            subst (λ (w : ℕ). has_file image (External (external_number w)) ≡ false) is (drops.gone (ap kind_of is ∙ kind) (λ none. some (sym is ∙ none))))
            (λ (differs : i ≢ k). drops.absent _ (was.gone i (omega (arith, less, differs)) kind some))
            (cases_eq i k)

    -- at each word of it
    within_next : (m : ℕ) → IsWithin (dropping_of m entry from) (dropping_of (suc m) entry from)
    unfolding dropping_of
    within_next m = within_left (dropping_of m entry from) (either (stream_words entry m) (leaving_of (address_word from entry m)))

    within_up : (m n : ℕ) → m ≤ n → IsWithin (dropping_of m entry from) (dropping_of n entry from)
    within_up m zero more = subst (λ (j : ℕ). IsWithin (dropping_of j entry from) (dropping_of zero entry from)) (let e : zero ≡ m = omega (arith, more) in e) (within-refl (dropping_of zero entry from))
    within_up m (suc n) more = step (λ less. within_up m n less)
      where
        step : (m ≤ n → IsWithin (dropping_of m entry from) (dropping_of n entry from)) → IsWithin (dropping_of m entry from) (dropping_of (suc n) entry from)
        step rest = ⊎_elim
            (λ (e : m ≡ suc n). subst (λ (j : ℕ). IsWithin (dropping_of m entry from) (dropping_of j entry from)) e (within-refl (dropping_of m entry from)))
            (λ (differs : m ≢ suc n). let one = rest (omega (arith, more, differs)) in let other = within_next n in record { bytes = λ f i e. other.bytes f i (one.bytes f i e); sizes = λ f e. other.sizes f (one.sizes f e) })
            (cases_eq m (suc n))

    pub next_in_progress : (image : Image) → DropsStreamInProgress entry k mid image → DropsInProgress entry from image
    next_in_progress image drops = record {
      same = outside_wider (dropping_of (suc k) entry from) (dropping_of 3 entry from) from image (within_up (suc k) 3 (omega (arith, small))) same_now;
      checks = drops.checks;
      headers = headers-next from mid image was.headers drops.headers;
      order = order_now;
    }
      where
        same_here : SameOutside (either (stream_words entry k) (leaving_of (address_word from entry k))) mid image
        same_here = subst (λ (w : ℕ). SameOutside (either (stream_words entry k) (leaving_of w)) mid image) word_here drops.same

        same_now : SameOutside (dropping_of (suc k) entry from) from image
        same_now = both_same entry from k mid image was.same same_here

        order_now : (i : ℕ) → i < 3 → SameOutside (either (dropping_of i entry from) (stream_words entry i)) from image ⊎ IsEmptyStream entry i image
        order_now i low = ⊎_elim
            (λ (less : i < k). let before = was.none i less in
            let kept = stream_kept entry k _ mid image small drops.same i low (omega (arith, less)) in
            inr (record { size_is = kept.size ∙ before.size_is; word_is = kept.word ∙ before.word_is }))
            (λ (more : k ≤ i). ⊎_elim
            (λ (e : i ≡ k). subst (λ (j : ℕ). SameOutside (either (dropping_of j entry from) (stream_words entry j)) from image ⊎ IsEmptyStream entry j image) (sym e)
            (⊎_elim
            (λ (same : SameOutside (stream_words entry k) mid image). inl (outside-trans (either (dropping_of k entry from) (stream_words entry k)) from mid image
            (outside_wider (dropping_of k entry from) (either (dropping_of k entry from) (stream_words entry k)) from mid (within_left (dropping_of k entry from) (stream_words entry k)) was.same)
            (outside_wider (stream_words entry k) (either (dropping_of k entry from) (stream_words entry k)) mid image (within_right (dropping_of k entry from) (stream_words entry k)) same)))
            (λ (none : IsEmptyStream entry k image). inr none)
            drops.order))
            (λ (differs : i ≢ k). inl (outside_wider (dropping_of i entry from) (either (dropping_of i entry from) (stream_words entry i)) from image (within_left (dropping_of i entry from) (stream_words entry i))
            (outside_wider (dropping_of (suc k) entry from) (dropping_of i entry from) from image (within_up (suc k) i (omega (arith, more, differs))) same_now)))
            (cases_eq i k))
            (cases_lt i k)

  pub not_begun : RecordChecks entry from → DropsInProgress entry from from
  not_begun good = record { same = outside-refl (dropping_of 3 entry from) from; checks = good; headers = headers-kept from; order = λ i low. inl (outside-refl (either (dropping_of i entry from) (stream_words entry i)) from) }

-- What a stream needs that is dropped after others.

module _ (files : BlockFiles) (entry k : ℕ) (from mid : Image) (small : k < 3) (agrees : Agrees files from) (can : StreamsCanBeDropped entry from) (was : AreDropped k entry from mid) where
  pub still_can : StreamCanBeDropped files entry k mid
  still_can = record {
    keeps = (λ j. may_keep files (kept.size j) (kept.word j)) ∙ known.keep;
    freed = subst (λ (w : ℕ). MayBeFreed w mid) (sym kept.word) may;
  }
    where
      kept : KeepsStream entry k from mid
      kept = was.later k (omega arith) small

      known : IsStream files from (size_word from entry k) (address_word from entry k) (stream k can.has.streams)
      known = stream_facts files from entry k can.has.streams agrees small can.has.is

      may : MayBeFreed (address_word from entry k) mid
      may blocky =
          let w : ℕ = address_word from entry k in
          let owned = can.owned k small blocky in
          let stands = keeps_stands files (size_word from entry k) w w known.keep refl blocky in
          let head = all_head files from (file_selector w) agrees (stands_linked files w stands) in
          let here = in_own_file w blocky in
          record {
            allocated = record {
              words = left_by_first k entry from (file_selector w) owned.words;
              are = was.allocations can.apart (file_selector w) owned.words owned.are (λ i less. owned.among i (omega (arith, less, small)));
              there = left_among entry from can.apart k k (file_selector w) owned.words (omega arith) small (not_nothing (file_selector w) w here) (owned.among k small here);
            };
            empty = was.empty (file_selector w) (count_whole _ head.count).1 owned.empty;
          }

-- The loop over the streams.

-- some streams are dropped, and the bytes are those of the record
pub record HasDropped (a b : Told) (files : BlockFiles) (entry count : ℕ) (bytes : List ℕ) : Type 0 where
  pub dropped : ForSome a.files (λ from. ForSome b.files (AreDropped count entry from))
  pub passes : ForSome a.files (λ from. Passes a b (DropsInProgress entry from))
  pub read : ForSome b.files (λ image. bytes ≡ record_at image entry)
  pub checks : ForSome b.files (RecordChecks entry)
  pub agrees : ForSome b.files (Agrees files)
  pub back : b.files ≡ None → a.files ≡ None
  pub silent : a.files ≡ None → b.files ≡ None
  pub long : ◌≡◌ {A = ℕ} (length bytes) 96

pub begun : (t : Told) (files : BlockFiles) (entry : ℕ) (bytes : List ℕ) → ForSome t.files (Agrees files) → ForSome t.files (λ image. bytes ≡ record_at image entry) → ForSome t.files (RecordChecks entry) → ◌≡◌ {A = ℕ} (length bytes) 96 → HasDropped t t files entry 0 bytes
begun t files entry bytes agrees read good long = record {
  dropped = λ from there image now. subst (AreDropped 0 entry from) (some_inj (sym there ∙ now)) (none_yet entry from (good from there));
  passes = λ from there. passes_none (DropsInProgress entry from) refl (λ image now. subst (DropsInProgress entry from) (some_inj (sym there ∙ now)) (not_begun entry from (good from there)));
  read = read;
  checks = good;
  agrees = agrees;
  back = λ none. none;
  silent = λ none. none;
  long = long;
}

-- the image where the first streams of a record are dropped
record IsMiddle (m : Told) (entry k : ℕ) (from : Image) : Type 0 where
  image : Image
  is : m.files ≡ Some image
  dropped : AreDropped k entry from image

module _ (a m b : Told) (files : BlockFiles) (entry k : ℕ) (bytes next : List ℕ) (small : k < 3) (has : HasDropped a m files entry k bytes) where
  mid_of : (from : Image) → a.files ≡ Some from → IsMiddle m entry k from
  mid_of from there = by_files m.files refl
    where
      by_files : (o : Option Image) → m.files ≡ o → IsMiddle m entry k from
      by_files None e = absurd (let z : None ≡ Some from = sym (has.back e) ∙ there in cc)
      by_files (Some mid) e = record { image = mid; is = e; dropped = has.dropped from there mid e }

  pub next_passes : ForSome m.files (λ mid. Passes m b (DropsStreamInProgress entry k mid)) → ForSome a.files (λ from. Passes a b (DropsInProgress entry from))
  next_passes passes from there =
      let mid = mid_of from there in
      passes_then (has.passes from there) (passes_weaker (passes mid.image mid.is) (λ image h. next_in_progress entry from k mid.image small mid.dropped image h) (λ image h. next_in_progress entry from k mid.image small mid.dropped image h))

  pub next_has : ForSome m.files (λ mid. Passes m b (DropsStreamInProgress entry k mid)) → ForSome m.files (λ mid. ForSome b.files (DropsStream entry k mid)) → ForSome b.files (λ image. next ≡ record_at image entry) → ForSome b.files (Agrees files) → (m.files ≡ None → b.files ≡ None) → ◌≡◌ {A = ℕ} (length next) 96 → HasDropped a b files entry (k + 1) next
  next_has passes drops read agrees silent long = record {
    dropped = λ from there image now. let mid = mid_of from there in subst (λ (n : ℕ). AreDropped n entry from image) (let h : suc k ≡ k + 1 = omega arith in h) (next_dropped entry from k mid.image small mid.dropped image (drops mid.image mid.is image now));
    passes = next_passes passes;
    read = read;
    checks = told_at_end m.files b.files (RecordChecks entry) silent (λ mid there image now. (drops mid there image now).checks);
    agrees = agrees;
    back = λ none. has.back (told_back m b (λ mid. DropsStreamInProgress entry k mid) passes none);
    silent = λ none. silent (has.silent none);
    long = long;
  }

  pub can_next : ForSome a.files (Agrees files) → ForSome a.files (StreamsCanBeDropped entry) → ForSome m.files (StreamCanBeDropped files entry k)
  can_next agrees can = told_at_end a.files m.files (StreamCanBeDropped files entry k) has.silent (λ from there mid now. still_can files entry k from mid small (agrees from there) (can from there) (has.dropped from there mid now))
