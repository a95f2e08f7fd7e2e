-- What is read of chains is there.
use Rattle.std.proofs.Common.{inl, inr, ⊎_elim, ◌≡◌, ℕ, ◌+◌, ◌*◌, ◌<◌, ◌≤◌, Bool, true, false, ◌||◌, List, [], ◌∷◌, ◌++◌, length, Some, refl, sym, ap, subst, ◌∙◌, arith}
use Rattle.std.specs.Prelude.{◌==◌, ◌⊎◌, ◌&&◌}
use Rattle.std.proofs.lemmas.Bool.{and_parts, eqb-true, eq-eqb}
use Rattle.spec_image.specs.Image.{Block, HasRange, Image, Index, byte}
use Rattle.spec_format.specs.Address.{blocks_256, file_selector, is_address, kind_of, place}
use Rattle.spec_format.specs.BlockFiles.{is_among}
use Rattle.spec_format.specs.Headers.{bucket_of}
use Rattle.spec_format.proofs.Among.{is_among_more}
use Rattle.spec_folder.specs.Chains.{file_and_block, most_records}
use Rattle.spec_folder.specs.View.{entry_at}
use Rattle.blk_disk.specs.declared.tables.BlockFiles.{BlockFiles}
use Rattle.blk_disk.specs.Tables.{is_record_among, names_among, stands_among}
use Rattle.blk_audit.specs.Chaining.{AreReachedThere, HasEntry, HasFirst, HasRecords, IsLookedAt, IsReachedThere, IsStepTaken, is_block_met}
use Rattle.blk_audit.proofs.FirstBlocks.{block_by, file_by}
use Rattle.blk_audit.proofs.PiecesOfRecords.{record_place}
use Rattle.blk_audit.proofs.Truths.{or_first, or_second}

clash : {A : Type 0} → false ≡ true → A
clash e = absurd cc

record_kind : (files : BlockFiles) (w : ℕ) → is_record_among files w ≡ true → kind_of w ≡ blocks_256
unfolding names_among
record_kind files w is = eqb-true (kind_of w) blocks_256 (and_parts (kind_of w == blocks_256) (stands_among files w) (and_parts (is_address w) ((kind_of w == blocks_256) && stands_among files w) is).1).0

length_last : (xs : List ℕ) (x : ℕ) → length (xs ++ x ∷ []) ≡ length xs + 1
length_last [] x = refl
length_last (y ∷ xs) x = let rest = length_last xs x in omega (arith, rest)

module _ (files : BlockFiles) (image : Image) where
  -- records with one first block lie in one place
  one_place : (w v : ℕ) → kind_of w ≡ blocks_256 → kind_of v ≡ blocks_256 → file_and_block w ≡ file_and_block v → HasRange image (Block (file_selector w)) (place w) 96 → HasRange image (Block (file_selector v)) (place v) 96
  one_place w v kind other same there =
      let at : place w ≡ place v = record_place w kind ∙ ap (λ (b : ℕ). 8192 + b * 256) (sym (block_by w v same)) ∙ sym (record_place v other) in
      subst (λ (f : ℕ). HasRange image (Block f) (place v) 96) (sym (file_by w v same)) (subst (λ (p : ℕ). HasRange image (Block (file_selector w)) p 96) at there)

  -- a word whose first block was met is that of a record that is there
  pub met_there : (words : List ℕ) (v : ℕ) → AreReachedThere files image words → is_block_met words v ≡ true → HasEntry files image v
  met_there [] v each met is = clash met
  met_there (w ∷ words) v each met is =
      by (file_and_block w == file_and_block v) refl (each w (or_first (w == w) (is_among words w) (eq-eqb w w refl))) (λ rest. met_there words v (λ u h. each u (or_second (w == u) (is_among words u) h)) rest is) met
    where
      by : (t : Bool) → (file_and_block w == file_and_block v) ≡ t → IsReachedThere files image w → (is_block_met words v ≡ true → HasRange image (Block (file_selector v)) (place v) 96) → (t || is_block_met words v) ≡ true → HasRange image (Block (file_selector v)) (place v) 96
      by true e here rest h = one_place w v (record_kind files w here.named) (record_kind files v is) (eqb-true (file_and_block w) (file_and_block v) e) here.there
      by false e here rest h = rest h

  pub none_named : (w : ℕ) → is_record_among files w ≡ false → HasEntry files image w
  none_named w none is = clash (sym none ∙ is)

  -- a chain under way: the reached records are there, and their next words were looked at, or are the word that comes
  pub record IsOnWay (before words : List ℕ) (start word i : ℕ) : Type 0 where
    pub each : AreReachedThere files image words
    pub next : (w : ℕ) → is_among words w ≡ true → length words < most_records → HasEntry files image (entry_at image w).next ⊎ ((entry_at image w).next ≡ word)
    pub first : length words < most_records → HasEntry files image start ⊎ (start ≡ word)
    pub many : i ≤ length words
    pub more : length before ≤ length words

  pub way_begins : (words : List ℕ) (start : ℕ) → HasRecords files image words → IsOnWay words words start start 0
  way_begins words start has = record { each = has.each; next = λ w h few. inl (has.next w h few); first = λ few. inr refl; many = omega arith; more = omega arith }

  -- what was the word that comes is looked at
  settled : (word w : ℕ) → HasEntry files image word → HasEntry files image w ⊎ (w ≡ word) → HasEntry files image w
  settled word w here cases = ⊎_elim (λ (done : HasEntry files image w). done) (λ (e : w ≡ word). subst (HasEntry files image) (sym e) here) cases

  pub way_goes_on : (before old new : List ℕ) (start word next i : ℕ) → IsOnWay before old start word i → HasEntry files image word → IsStepTaken files image old word new (Some next) → IsOnWay before new start next (i + 1)
  way_goes_on before old new start word next i on here taken =
      let size : length new ≡ length old + 1 = ap (λ (xs : List ℕ). length xs) taken.0 ∙ length_last old word in
      let many = on.many in
      let more = on.more in
      record {
        each = λ w h. each_of w (is_among old w) refl (sym (among w) ∙ h);
        next = λ w h few. next_of w (is_among old w) refl (sym (among w) ∙ h) (omega (arith, few, size));
        first = λ few. inl (settled word start here (on.first (omega (arith, few, size))));
        many = omega (arith, many, size);
        more = omega (arith, more, size);
      }
    where
      among : (w : ℕ) → is_among new w ≡ (is_among old w || (word == w))
      among w = ap (λ (xs : List ℕ). is_among xs w) taken.0 ∙ is_among_more old word w

      each_of : (w : ℕ) (t : Bool) → is_among old w ≡ t → (t || (word == w)) ≡ true → IsReachedThere files image w
      each_of w true e h = on.each w e
      each_of w false e h = subst (IsReachedThere files image) (eqb-true word w h) taken.1.1

      next_of : (w : ℕ) (t : Bool) → is_among old w ≡ t → (t || (word == w)) ≡ true → length old < most_records → HasEntry files image (entry_at image w).next ⊎ ((entry_at image w).next ≡ next)
      next_of w true e h few = inl (settled word (entry_at image w).next here (on.next w e few))
      next_of w false e h few = inr (ap (λ (v : ℕ). (entry_at image v).next) (sym (eqb-true word w h)) ∙ sym taken.1.0)

  module _ (before old new : List ℕ) (start word i : ℕ) (on : IsOnWay before old start word i) (same : new ≡ old) (here : HasEntry files image word) where
    pub way_ends : HasRecords files image new
    way_ends = subst (HasRecords files image) (sym same) (record { each = on.each; next = λ w h few. settled word (entry_at image w).next here (on.next w h few) })

    pub start_looked : IsLookedAt files image new start
    start_looked = subst (λ (words : List ℕ). IsLookedAt files image words start) (sym same) (λ few. settled word start here (on.first few))

    pub no_fewer : length before ≤ length new
    no_fewer = subst (λ (words : List ℕ). length before ≤ length words) (sym same) on.more

  module _ (before words : List ℕ) (start word i : ℕ) (on : IsOnWay before words start word i) (full : 16777216 ≤ i) where
    too_many : {A : Type 0} → length words < most_records → A
    too_many few = let many = on.many in absurd (omega (arith, few, many, full))

    pub way_full : HasRecords files image words
    way_full = record { each = on.each; next = λ w h few. too_many few }

    pub start_full : IsLookedAt files image words start
    start_full few = too_many few

  -- one bucket more
  pub first_more : (old new : List ℕ) (n start : ℕ) → HasFirst files image old n → HasRecords files image new → IsLookedAt files image new start → start ≡ bucket_of (byte image Index) n → length old ≤ length new → HasFirst files image new (n + 1)
  first_more old new n start has records looked is fewer = record { records = records; first = λ b below. by b (b == n) refl below }
    where
      apart : (b : ℕ) → (b == n) ≡ false → b < n + 1 → b < n
      apart b e below = let ne : b ≡ n → ⊥ = λ same. clash (sym e ∙ eq-eqb b n same) in omega (arith, below, ne)

      by : (b : ℕ) (t : Bool) → (b == n) ≡ t → b < n + 1 → IsLookedAt files image new (bucket_of (byte image Index) b)
      by b true e below = subst (λ (m : ℕ). IsLookedAt files image new (bucket_of (byte image Index) m)) (sym (eqb-true b n e)) (subst (IsLookedAt files image new) is looked)
      by b false e below = λ few. has.first b (apart b e below) (omega (arith, few, fewer))

  pub none_first : (words : List ℕ) → words ≡ [] → HasFirst files image words 0
  none_first words none = subst (λ (xs : List ℕ). HasFirst files image xs 0) (sym none) (record {
    records = record { each = λ w h. clash h; next = λ w h. clash h };
    first = λ b below. absurd (omega (arith, below));
  })
