-- Where the records of each bucket end.
use Rattle.std.proofs.Common.{◌≡◌, ℕ, zero, suc, ◌+◌, ◌-◌, ◌<◌, ◌≤◌, Bool, true, false, ◌||◌, List, [], ◌∷◌, ◌++◌, length, take, drop, get_or, refl, sym, ap, ap₂, subst, ◌∙◌, arith, append_assoc}
use Rattle.std.specs.Prelude.{◌==◌, slice_index, slice_index_or}
use Rattle.std.proofs.Math.Seq.{drop-append_seam, get_or-append_seam, take-append_seam}
use Rattle.std.proofs.lemmas.Bool.{eqb-true, eq-eqb}
use Rattle.std.proofs.lemmas.List.{append-nil, get_or_append_left, length-append}
use Rattle.std.proofs.lemmas.List.Elements.{All-append}
use Rattle.std.proofs.lemmas.List.Folds.{list_any_at}
use Rattle.spec_format.specs.BlockFiles.{is_among}
use Rattle.spec_format.specs.Headers.{table_length}
use Rattle.spec_folder.specs.Chains.{chain}
use Rattle.spec_folder.specs.View.{StoreView}
use Rattle.blk_disk.specs.declared.tables.BlockFiles.{BlockFiles}
use Rattle.blk_disk.specs.Tables.{is_record_among}
use Rattle.blk_audit.specs.BucketEnds.{begin_of, records_of}
use Rattle.blk_audit.specs.Chaining.{AreBucketsOf, AreCut, AreFirstReached, AreReached, HasBuckets, KeepsEnds, RecordsStand, closed_by, ends_by, reached_by}
use Rattle.blk_audit.specs.declared.reaching.Reached.{Reached}

clash : {A : Type 0} → false ≡ true → A
clash e = absurd cc

-- One more at the end of a list.

pub length_more : {A : Type 0} (xs : List A) (x : A) → length (xs ++ x ∷ []) ≡ length xs + 1
length_more [] x = refl
length_more (y ∷ xs) x = let rest = length_more xs x in omega (arith, rest)

last_at : {A : Type 0} (xs : List A) (x d : A) (b : ℕ) → b ≡ length xs → get_or (xs ++ x ∷ []) b d ≡ x
last_at {A} xs x d b e = ap (λ (i : ℕ). get_or (xs ++ x ∷ []) i d) e ∙ get_or-append_seam xs x [] d

-- a number below the next one
below_next : (P : ℕ → Type 0) (b n : ℕ) → b < suc n → (b < n → P b) → (b ≡ n → P b) → P b
below_next P b n lt before here = by (b == n) refl
  where
    by : (t : Bool) → (b == n) ≡ t → P b
    by true e = here (eqb-true b n e)
    by false e = let ne : b ≡ n → ⊥ = λ same. clash (sym e ∙ eq-eqb b n same) in before (omega (arith, lt, ne))

-- all of a list, by what is among it
pub all_of : (P : ℕ → Type 0) (xs : List ℕ) → ((w : ℕ) → is_among xs w ≡ true → P w) → (i d : ℕ) → i < length xs → P (get_or xs i d)
all_of P xs each i d lt = each (get_or xs i d) (list_any_at (λ m. m == get_or xs i d) xs i d lt (eq-eqb (get_or xs i d) (get_or xs i d) refl))

-- The ends of the chains of a store view.

module _ (store : StoreView) where
  many_ends : (n : ℕ) → length (ends_by store n) ≡ n
  unfolding ends_by
  many_ends zero = refl
  many_ends (suc n) = let rest = many_ends n in let more = length_more (ends_by store n) (length (reached_by store (suc n))) in omega (arith, rest, more)

  many_closed : (n : ℕ) → length (closed_by store n) ≡ n
  unfolding closed_by
  many_closed zero = refl
  many_closed (suc n) = let rest = many_closed n in let more = length_more (closed_by store n) ((chain store n).end == 0) in omega (arith, rest, more)

  end_is : (n b : ℕ) → b < n → slice_index (ends_by store n) b ≡ length (reached_by store (suc b))
  unfolding ends_by
  end_is zero b lt = absurd (omega (arith, lt))
  end_is (suc n) b lt =
      below_next (λ b. slice_index (ends_by store (suc n)) b ≡ length (reached_by store (suc b))) b n lt
      (λ before. get_or_append_left (ends_by store n) (length (reached_by store (suc n)) ∷ []) 0 b (let many = many_ends n in omega (arith, before, many)) ∙ end_is n b before)
      (λ same. last_at (ends_by store n) (length (reached_by store (suc n))) 0 b (same ∙ sym (many_ends n)) ∙ ap (λ (m : ℕ). length (reached_by store (suc m))) (sym same))

  closed_is : (n b : ℕ) → b < n → slice_index_or (closed_by store n) b false ≡ ((chain store b).end == 0)
  unfolding closed_by
  closed_is zero b lt = absurd (omega (arith, lt))
  closed_is (suc n) b lt =
      below_next (λ b. slice_index_or (closed_by store (suc n)) b false ≡ ((chain store b).end == 0)) b n lt
      (λ before. get_or_append_left (closed_by store n) (((chain store n).end == 0) ∷ []) false b (let many = many_closed n in omega (arith, before, many)) ∙ closed_is n b before)
      (λ same. last_at (closed_by store n) ((chain store n).end == 0) false b (same ∙ sym (many_closed n)) ∙ ap (λ (m : ℕ). (chain store m).end == 0) (sym same))

  begin_is : (n b : ℕ) → b < n → begin_of (ends_by store n) b ≡ length (reached_by store b)
  unfolding reached_by
  begin_is n zero lt = refl
  begin_is n (suc b) lt = end_is n b (omega (arith, lt))

  -- the records of one chain, with those before and after
  record IsCutAt (n b : ℕ) : Type 0 where
    pub behind : List ℕ
    pub is : reached_by store n ≡ reached_by store b ++ ((chain store b).reached ++ behind)

  cut_at : (n b : ℕ) → b < n → IsCutAt n b
  unfolding reached_by
  cut_at zero b lt = absurd (omega (arith, lt))
  cut_at (suc n) b lt =
      below_next (IsCutAt (suc n)) b n lt
      (λ before.
      let cut = cut_at n b before in
      record {
        behind = cut.behind ++ (chain store n).reached;
        is = ap (λ (xs : List ℕ). xs ++ (chain store n).reached) cut.is
            ∙ append_assoc (reached_by store b) ((chain store b).reached ++ cut.behind) (chain store n).reached
            ∙ ap (λ (xs : List ℕ). reached_by store b ++ xs) (append_assoc (chain store b).reached cut.behind (chain store n).reached);
      })
      (λ same. subst (IsCutAt (suc n)) (sym same) (record {
        behind = [];
        is = ap (λ (xs : List ℕ). reached_by store n ++ xs) (sym (append-nil (chain store n).reached));
      }))

  size_is : (b : ℕ) → length (reached_by store (suc b)) ≡ length (reached_by store b) + length (chain store b).reached
  unfolding reached_by
  size_is b = length-append (reached_by store b) (chain store b).reached

  cut_records : (n b : ℕ) → b < n → records_of (reached_by store n) (ends_by store n) b ≡ (chain store b).reached
  cut_records n b lt =
      let cut = cut_at n b lt in
      let before : List ℕ = reached_by store b in
      let own : List ℕ = (chain store b).reached in
      let size : slice_index (ends_by store n) b - begin_of (ends_by store n) b ≡ length own =
      ap₂ (λ (e s : ℕ). e - s) (end_is n b lt) (begin_is n b lt) ∙ (let more = size_is b in omega (arith, more)) in
      ap₂ (λ (k s : ℕ). take k (drop s (reached_by store n))) size (begin_is n b lt)
      ∙ ap (λ (xs : List ℕ). take (length own) (drop (length before) xs)) cut.is
      ∙ ap (take (length own)) (drop-append_seam before (own ++ cut.behind))
      ∙ take-append_seam own cut.behind

-- the buckets of all chains
pub are_buckets : (store : StoreView) (reached : Reached) → AreFirstReached store table_length reached → AreBucketsOf store reached
are_buckets store reached are = record {
  chains = λ bucket lt. ap₂ (λ (words ends : List ℕ). records_of words ends bucket) are.words are.ends ∙ cut_records store table_length bucket lt;
  closed = λ bucket lt. ap (λ (closed : List Bool). slice_index_or closed bucket false) are.closed ∙ closed_is store table_length bucket lt;
}

-- one chain more was followed
pub first_next : (store : StoreView) (n : ℕ) (old mid new : Reached) (closed : Bool) → AreFirstReached store n old
    → mid.words.items ≡ old.words.items ++ (chain store n).reached → KeepsEnds old mid → closed ≡ ((chain store n).end == 0)
    → new.words.items ≡ mid.words.items → new.ends.items ≡ mid.ends.items ++ length mid.words.items ∷ [] → new.closed.items ≡ mid.closed.items ++ closed ∷ []
    → AreFirstReached store (suc n) new
unfolding reached_by ends_by closed_by
first_next store n old mid new closed are more keeps told words ends closes =
    let all : mid.words.items ≡ reached_by store (suc n) = more ∙ ap (λ (xs : List ℕ). xs ++ (chain store n).reached) are.words in
    record {
      words = words ∙ all;
      ends = ends ∙ ap₂ (λ (xs ys : List ℕ). xs ++ length ys ∷ []) (keeps.ends ∙ are.ends) all;
      closed = closes ∙ ap₂ (λ (xs : List Bool) (t : Bool). xs ++ t ∷ []) (keeps.closed ∙ are.closed) told;
    }

pub none_reached : (store : StoreView) (reached : Reached) → reached.words.items ≡ [] → reached.ends.items ≡ [] → reached.closed.items ≡ [] → AreFirstReached store 0 reached
unfolding reached_by ends_by closed_by
none_reached store reached words ends closed = record { words = words; ends = ends; closed = closed }

-- On any folder.

pub keeps_on : (old mid new : Reached) → KeepsEnds old mid → KeepsEnds mid new → KeepsEnds old new
keeps_on old mid new first next = record { ends = next.ends ∙ first.ends; closed = next.closed ∙ first.closed }

pub has_buckets : (reached : Reached) → AreReached reached → length reached.ends.items ≡ table_length → HasBuckets reached
has_buckets reached are many = record {
  ends = record {
    many = many;
    rising = λ bucket lt. are.cut.rising bucket (omega (arith, lt, many));
    inside = λ bucket lt. are.cut.inside bucket (omega (arith, lt, many));
  };
  closed = are.cut.told ∙ many;
}

pub cut_none : (words ends : List ℕ) (closed : List Bool) → ends ≡ [] → closed ≡ [] → AreCut words ends closed
cut_none words ends closed e c =
    let none : length ends ≡ 0 = ap (λ (xs : List ℕ). length xs) e in
    record {
      rising = λ b lt. absurd (omega (arith, lt, none));
      inside = λ b lt. absurd (omega (arith, lt, none));
      told = ap (λ (xs : List Bool). length xs) c ∙ sym none;
    }

-- one record more
pub cut_more : (old new ends : List ℕ) (closed : List Bool) (w : ℕ) → new ≡ old ++ w ∷ [] → AreCut old ends closed → AreCut new ends closed
cut_more old new ends closed w is cut =
    let size : length new ≡ length old + 1 = ap (λ (xs : List ℕ). length xs) is ∙ length_more old w in
    record {
      rising = cut.rising;
      inside = λ b lt. let here = cut.inside b lt in omega (arith, here, size);
      told = cut.told;
    }

-- one bucket more, which ends after all records
pub cut_next : (words old new : List ℕ) (closed closes : List Bool) (t : Bool) → new ≡ old ++ length words ∷ [] → closes ≡ closed ++ t ∷ [] → AreCut words old closed → AreCut words new closes
cut_next words old new closed closes t is told cut =
    subst (λ (ends : List ℕ). AreCut words ends closes) (sym is) (subst (AreCut words (old ++ length words ∷ [])) (sym told) (record {
      rising = λ b lt. below_next (λ b. begin_of (old ++ length words ∷ []) b ≤ slice_index (old ++ length words ∷ []) b) b (length old) (omega (arith, lt, size))
          (λ before. let here = cut.rising b before in let at = kept b before in let start = begins b (omega (arith, before)) in omega (arith, here, at, start))
          (λ same. let at = last_at old (length words) 0 b same in let start = begins b (omega (arith, same)) in let most = begin_inside b (omega (arith, same)) in omega (arith, at, start, most));
      inside = λ b lt. below_next (λ b. slice_index (old ++ length words ∷ []) b ≤ length words) b (length old) (omega (arith, lt, size))
          (λ before. let here = cut.inside b before in let at = kept b before in omega (arith, here, at))
          (λ same. let at = last_at old (length words) 0 b same in omega (arith, at));
      told = length_more closed t ∙ (let each = cut.told in omega (arith, each, size));
    }))
  where
    size : length (old ++ length words ∷ []) ≡ length old + 1
    size = length_more old (length words)

    kept : (b : ℕ) → b < length old → slice_index (old ++ length words ∷ []) b ≡ slice_index old b
    kept b before = get_or_append_left old (length words ∷ []) 0 b before

    begins : (b : ℕ) → b ≤ length old → begin_of (old ++ length words ∷ []) b ≡ begin_of old b
    begins zero inside = refl
    begins (suc b) inside = kept b (omega (arith, inside))

    begin_inside : (b : ℕ) → b ≤ length old → begin_of old b ≤ length words
    begin_inside zero inside = omega arith
    begin_inside (suc b) inside = cut.inside b (omega (arith, inside))

pub stand_none : (files : BlockFiles) (words : List ℕ) → words ≡ [] → RecordsStand files words
stand_none files words none i d lt = let size : length words ≡ 0 = ap (λ (xs : List ℕ). length xs) none in absurd (omega (arith, lt, size))

-- one record more is valid
pub stand_more : (files : BlockFiles) (old new : List ℕ) (w v : ℕ) → new ≡ old ++ w ∷ [] → RecordsStand files old → w ≡ v → is_record_among files v ≡ true → RecordsStand files new
stand_more files old new w v is all same here =
    subst (RecordsStand files) (sym is)
    (All-append (λ u. is_record_among files u ≡ true) old (w ∷ []) all
    (all_of (λ u. is_record_among files u ≡ true) (w ∷ []) (λ u among. one u (w == u) refl among)))
  where
    one : (u : ℕ) (t : Bool) → (w == u) ≡ t → is_among (w ∷ []) u ≡ true → is_record_among files u ≡ true
    one u true e among = subst (λ (x : ℕ). is_record_among files x ≡ true) (sym same ∙ eqb-true w u e) here
    one u false e among = clash (sym (ap (λ (t : Bool). t || false) e) ∙ among)
