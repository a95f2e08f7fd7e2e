-- The fields of a record in the midst of an update under a checksum 0: each has its old or its new word.
use Rattle.std.proofs.Common.{◌≡◌, ◌≢◌, ◌⊎◌, inl, inr, ℕ, zero, suc, ◌+◌, ◌^◌, ◌%◌, ◌<◌, ◌≤◌, List, [], ◌∷◌, length, take, get_or, get_or-take, All, refl, sym, ◌∙◌, ap, arith, ⊎_elim}
use Rattle.std.proofs.lemmas.Bool.{cases_lt}
use Rattle.std.proofs.lemmas.List.{length-take}
use Rattle.std.proofs.lemmas.List.Elements.{All-nil, All-cons, All-head, All-tail, All-take}
use Rattle.spec_image.specs.Bytes.{content, word_at, range_at}
use Rattle.spec_image.specs.Image.{Block, Image, byte, word}
use Rattle.spec_image.specs.Steps.{with_word, with_words}
use Rattle.spec_image.proofs.Words.{same-word_at, content-range, length-with_word, length-with_words, word-beside, word-there}
use Rattle.spec_format.specs.Address.{file_selector, kind_of, place}
use Rattle.spec_format.specs.Hash.{hash}
use Rattle.spec_format.specs.Records.{seal_of}
use Rattle.spec_format.specs.Sealed.{AreChanges, AreDifferent, record_at, record_size, seal_place, sealed, IsMidUpdate, IsUpdated}
use Rattle.spec_format.proofs.RecordBytes.{take-before_word}
use Rattle.spec_format.proofs.Seals.{hash-fits}
use Rattle.spec_format.proofs.SealedRecords.{length-record, seal_aligned}

-- a word of a range
word-range : (n i q : ℕ) (f : ℕ → ℕ) → q + 4 ≤ n → word_at (content (range_at f i n)) q ≡ word_at f (i + q)
word-range n i q f inside =
    let a : content (range_at f i n) q ≡ f (i + q) = content-range n i f q (i + q) (omega arith) refl in
    let b : content (range_at f i n) (q + 1) ≡ f (i + q + 1) = content-range n i f (q + 1) (i + q + 1) (omega arith) (omega arith) in
    let c : content (range_at f i n) (q + 2) ≡ f (i + q + 2) = content-range n i f (q + 2) (i + q + 2) (omega arith) (omega arith) in
    let d : content (range_at f i n) (q + 3) ≡ f (i + q + 3) = content-range n i f (q + 3) (i + q + 3) (omega arith) (omega arith) in
    omega (arith, a, b, c, d)

-- a word of a record is the word of the file
pub record_word : (image : Image) (w q : ℕ) → q + 4 ≤ record_size w → word_at (content (record_at image w)) q ≡ word image (Block (file_selector w)) (place w + q)
unfolding record_at
record_word image w q inside = word-range (record_size w) (place w) q (byte image (Block (file_selector w))) inside

-- a word of a prefix of some bytes
word-take : (s q : ℕ) (bytes : List ℕ) → q + 4 ≤ s → word_at (content (take s bytes)) q ≡ word_at (content bytes) q
word-take s q bytes inside =
    same-word_at (content (take s bytes)) (content bytes) q (get_or-take s bytes q 0 (omega arith)) (get_or-take s bytes (q + 1) 0 (omega arith)) (get_or-take s bytes (q + 2) 0 (omega arith)) (get_or-take s bytes (q + 3) 0 (omega arith))

-- a field of which none of the words is
word-kept : (ws : List (ℕ × ℕ)) (q : ℕ) (bytes : List ℕ) → q % 4 ≡ 0 → All (λ c. c.0 % 4 ≡ 0) ws → All (λ c. c.0 ≢ q) ws → word_at (content (with_words ws bytes)) q ≡ word_at (content bytes) q
word-kept [] q bytes aligned all_aligned others = refl
word-kept (c ∷ ws) q bytes aligned all_aligned others =
    let here : c.0 % 4 ≡ 0 = All-head (λ c. c.0 % 4 ≡ 0) c ws all_aligned in
    let apart : c.0 ≢ q = All-head (λ c. c.0 ≢ q) c ws others in
    word-kept ws q (with_word c.0 c.1 bytes) aligned (All-tail (λ c. c.0 % 4 ≡ 0) c ws all_aligned) (All-tail (λ c. c.0 ≢ q) c ws others)
    ∙ word-beside q c.0 c.1 bytes (⊎_elim (λ (x : q < c.0). inl (omega (arith, here))) (λ (x : c.0 ≤ q). inr (omega (arith, here, apart))) (cases_lt q c.0))

-- a field of which one of the words is
word-set : (ws : List (ℕ × ℕ)) (i : ℕ) (d : ℕ × ℕ) (bytes : List ℕ) → i < length ws → AreDifferent ws → All (λ c. c.0 % 4 ≡ 0) ws → All (λ c. c.0 + 4 ≤ length bytes) ws → All (λ c. c.1 < 2 ^ 32) ws
    → word_at (content (with_words ws bytes)) (get_or ws i d).0 ≡ (get_or ws i d).1
word-set [] i d bytes within different aligned inside small = absurd (omega arith)
word-set (c ∷ ws) zero d bytes within different aligned inside small =
    word-kept ws c.0 (with_word c.0 c.1 bytes) (All-head (λ c. c.0 % 4 ≡ 0) c ws aligned) (All-tail (λ c. c.0 % 4 ≡ 0) c ws aligned) different.0
    ∙ word-there c.0 c.1 bytes (All-head (λ c. c.1 < 2 ^ 32) c ws small) (All-head (λ c. c.0 + 4 ≤ length bytes) c ws inside)
word-set (c ∷ ws) (suc i) d bytes within different aligned inside small =
    word-set ws i d (with_word c.0 c.1 bytes) (omega arith) different.1 (All-tail (λ c. c.0 % 4 ≡ 0) c ws aligned)
    (λ k e less. omega (arith, length-with_word c.0 c.1 bytes, All-tail (λ c. c.0 + 4 ≤ length bytes) c ws inside k e less))
    (All-tail (λ c. c.1 < 2 ^ 32) c ws small)

-- the first of some different words are different
different-take : (n : ℕ) (ws : List (ℕ × ℕ)) → AreDifferent ws → AreDifferent (take n ws)
different-take zero [] different = tt
different-take zero (c ∷ ws) different = tt
different-take (suc n) [] different = tt
different-take (suc n) (c ∷ ws) different = (All-take (λ other. other.0 ≢ c.0) n ws different.0, different-take n ws different.1)

-- a word after the first of some different words is of another place
behind : (n i : ℕ) (d : ℕ × ℕ) (ws : List (ℕ × ℕ)) → n ≤ i → i < length ws → AreDifferent ws → All (λ c. c.0 ≢ (get_or ws i d).0) (take n ws)
behind zero i d ws low within different = All-nil (λ c. c.0 ≢ (get_or ws i d).0)
behind (suc n) i d [] low within different = absurd (omega arith)
behind (suc n) zero d (c ∷ ws) low within different = absurd (omega arith)
behind (suc n) (suc i) d (c ∷ ws) low within different =
    All-cons (λ o. o.0 ≢ (get_or ws i d).0) c (take n ws) (λ same. different.0 i d (omega arith) (sym same)) (behind n i d ws (omega arith) (omega arith) different.1)

module _ (from image : Image) (w : ℕ) (changes : List (ℕ × ℕ)) (are : AreChanges (seal_place w) changes) (moment : IsMidUpdate from w changes image) where
  -- the changes that are made
  made : List (ℕ × ℕ)
  made = take moment.made changes

  aligned_made : All (λ c. c.0 % 4 ≡ 0) made
  unfolding made
  aligned_made = All-take (λ c. c.0 % 4 ≡ 0) moment.made changes are.aligned

  field_word : (q : ℕ) → q % 4 ≡ 0 → q < seal_place w → word_at (content (record_at image w)) q ≡ word_at (content (with_words made (record_at from w))) q
  unfolding made
  field_word q aligned before =
      let inside : q + 4 ≤ seal_place w = omega (arith, aligned, before, seal_aligned (kind_of w)) in
      sym (word-take (seal_place w) q (record_at image w) inside) ∙ ap (λ (l : List ℕ). word_at (content l) q) moment.fields ∙ word-take (seal_place w) q (with_words (take moment.made changes) (record_at from w)) inside

  -- a field that isn't changed
  pub field_stays : (q : ℕ) → q % 4 ≡ 0 → q < seal_place w → All (λ c. c.0 ≢ q) changes → word_at (content (record_at image w)) q ≡ word_at (content (record_at from w)) q
  unfolding made
  field_stays q aligned before others = field_word q aligned before ∙ word-kept made q (record_at from w) aligned aligned_made (All-take (λ c. c.0 ≢ q) moment.made changes others)

  -- a change that isn't made yet
  pub field_is_old : (i : ℕ) (d : ℕ × ℕ) → moment.made ≤ i → i < length changes → word_at (content (record_at image w)) (get_or changes i d).0 ≡ word_at (content (record_at from w)) (get_or changes i d).0
  unfolding made
  field_is_old i d later within =
      let aligned = are.aligned i d within in
      field_word (get_or changes i d).0 aligned (are.before i d within) ∙ word-kept made (get_or changes i d).0 (record_at from w) aligned aligned_made (behind moment.made i d changes later within are.different)

  -- a change that is made
  pub field_is_new : (i : ℕ) (d : ℕ × ℕ) → i < moment.made → All (λ c. c.1 < 2 ^ 32) changes → word_at (content (record_at image w)) (get_or changes i d).0 ≡ (get_or changes i d).1
  unfolding made
  field_is_new i d earlier small =
      let within : i < length changes = omega (arith, moment.within) in
      let same : get_or made i d ≡ get_or changes i d = get_or-take moment.made changes i d earlier in
      let inside : All (λ c. c.0 + 4 ≤ length (record_at from w)) made = All-take (λ c. c.0 + 4 ≤ length (record_at from w)) moment.made changes (λ k e less. omega (arith, length-record w from, are.before k e less)) in
      field_word (get_or changes i d).0 (are.aligned i d within) (are.before i d within)
      ∙ ap (λ (c : ℕ × ℕ). word_at (content (with_words made (record_at from w))) c.0) (sym same)
      ∙ word-set made i d (record_at from w) (omega (arith, length-take moment.made changes, within)) (different-take moment.made changes are.different) aligned_made inside (All-take (λ c. c.1 < 2 ^ 32) moment.made changes small)
      ∙ ap (λ (c : ℕ × ℕ). c.1) same

-- one change: in the midst of the update the field has its old or its new word, and every other field is as before
pub one_change : (from image : Image) (w p v : ℕ) → AreChanges (seal_place w) ((p, v) ∷ []) → v < 2 ^ 32 → IsMidUpdate from w ((p, v) ∷ []) image
    → (word_at (content (record_at image w)) p ≡ word_at (content (record_at from w)) p) ⊎ (word_at (content (record_at image w)) p ≡ v)
one_change from image w p v are small moment =
    ⊎_elim
    (λ (earlier : 0 < moment.made). inr (field_is_new from image w ((p, v) ∷ []) are moment 0 (p, v) earlier (All-cons (λ c. c.1 < 2 ^ 32) (p, v) [] small (All-nil (λ c. c.1 < 2 ^ 32)))))
    (λ (none : moment.made ≤ 0). inl (field_is_old from image w ((p, v) ∷ []) are moment 0 (p, v) none (omega arith)))
    (cases_lt 0 moment.made)

pub one_change_others : (from image : Image) (w p v q : ℕ) → AreChanges (seal_place w) ((p, v) ∷ []) → IsMidUpdate from w ((p, v) ∷ []) image → q % 4 ≡ 0 → q < seal_place w → p ≢ q
    → word_at (content (record_at image w)) q ≡ word_at (content (record_at from w)) q
one_change_others from image w p v q are moment aligned before apart = field_stays from image w ((p, v) ∷ []) are moment q aligned before (All-cons (λ c. c.0 ≢ q) (p, v) [] apart (All-nil (λ c. c.0 ≢ q)))

-- the checksum that `sealed` gives a record is the hash of the bytes before it
sealed_seal : (s : ℕ) (bytes : List ℕ) → s + 4 ≤ length bytes → word_at (content (sealed s bytes)) s ≡ seal_of s (sealed s bytes)
sealed_seal s bytes enough = word-there s (seal_of s bytes) bytes (hash-fits (take s bytes)) enough ∙ ap hash (sym (take-before_word s (seal_of s bytes) bytes))

module _ (from image : Image) (w : ℕ) (changes : List (ℕ × ℕ)) (are : AreChanges (seal_place w) changes) (done : IsUpdated from w changes image) where
  -- after an update the checksum is the hash
  pub updated_seal : word_at (content (record_at image w)) (seal_place w) ≡ seal_of (seal_place w) (record_at image w)
  updated_seal =
      let all : List ℕ = with_words changes (record_at from w) in
      ap (λ (l : List ℕ). word_at (content l) (seal_place w)) done
      ∙ sealed_seal (seal_place w) all (omega (arith, length-with_words changes (record_at from w), length-record w from))
      ∙ ap (λ (l : List ℕ). seal_of (seal_place w) l) (sym done)

  updated_word : (q : ℕ) → q % 4 ≡ 0 → q < seal_place w → word_at (content (record_at image w)) q ≡ word_at (content (with_words changes (record_at from w))) q
  updated_word q aligned before =
      let all : List ℕ = with_words changes (record_at from w) in
      ap (λ (l : List ℕ). word_at (content l) q) done
      ∙ word-beside q (seal_place w) (seal_of (seal_place w) all) all (inl (omega (arith, aligned, before, seal_aligned (kind_of w))))

  -- a field that isn't changed
  pub updated_stays : (q : ℕ) → q % 4 ≡ 0 → q < seal_place w → All (λ c. c.0 ≢ q) changes → word_at (content (record_at image w)) q ≡ word_at (content (record_at from w)) q
  updated_stays q aligned before others = updated_word q aligned before ∙ word-kept changes q (record_at from w) aligned are.aligned others

  -- one that is
  pub updated_is_new : (i : ℕ) (d : ℕ × ℕ) → i < length changes → All (λ c. c.1 < 2 ^ 32) changes → word_at (content (record_at image w)) (get_or changes i d).0 ≡ (get_or changes i d).1
  updated_is_new i d within small =
      let inside : All (λ c. c.0 + 4 ≤ length (record_at from w)) changes = λ k e less. omega (arith, length-record w from, are.before k e less) in
      updated_word (get_or changes i d).0 (are.aligned i d within) (are.before i d within) ∙ word-set changes i d (record_at from w) within are.different are.aligned inside small
