-- The kept records of the buckets, packed one after another, one bucket more.
use Rattle.std.proofs.Common.{◌≡◌, ◌≢◌, ◌<◌, ◌≤◌, ◌+◌, ◌-◌, ℕ, zero, suc, Bool, true, false, ◌&&◌, List, [], ◌∷◌, ◌++◌, map, take, drop, length, min, refl, sym, ap, ap₂, subst, ◌∙◌, ⊎_elim, arith}
use Rattle.std.specs.Prelude.{All, slice_index, slice_index_or, ◌==◌, ◌||◌}
use Rattle.std.specs.List.{filter, list_all}
use Rattle.std.proofs.lemmas.Bool.{and_parts, cases_Bool, eq-eqb, eqb-true}
use Rattle.std.proofs.lemmas.Bool.Decides.{eqb_tells}
use Rattle.std.proofs.Math.Dec.{eqb}
use Rattle.std.proofs.lemmas.List.{drop-append-le, drop-take, drop_at, get_or_append_left, get_or_push, length-append, length-drop, length-take, length_push, take-append-drop, take-append-le, take-take, take_all}
use Rattle.std.proofs.lemmas.List.Elements.{All-filter, All-take, filter-append, filter_agree}
use Rattle.spec_image.specs.Image.{Image}
use Rattle.spec_format.specs.BlockFiles.{is_among}
use Rattle.spec_folder.specs.Chains.{Chain, IsChain, chain}
use Rattle.spec_folder.specs.Found.{kept}
use Rattle.spec_folder.specs.Loads as shown
use Rattle.spec_folder.specs.View.{store_of}
use Rattle.law_folder.proofs.chains.ChainEnds.{chain-back}
use Rattle.law_folder.proofs.chains.Chains.{chain-is}
use Rattle.law_folder.proofs.states.Bare.{no-record}
use Rattle.blk_audit.specs.BucketEnds.{AreEnds, begin_of, records_of}
use Rattle.blk_audit.specs.Chaining.{AreBucketsOf}
use Rattle.blk_audit.specs.declared.reaching.Reached.{Reached}
use Rattle.law_recovery.specs.ChainRepair.{is_kept_record, kept_records}
use Rattle.blk_verdict.specs.Kept.{AreShown}
use Rattle.blk_verdict.specs.declared.loading.Loaded.{Loaded}
use Rattle.blk_scan.specs.Packing.{ArePacked}
use Rattle.blk_scan.specs.Scans.{AreChainsWhole, AreKeptChains, AreChainsToMend}
use Rattle.blk_scan.specs.declared.chains.KeptChains.{KeptChains}

-- Lists.

-- a prefix of a list is a shorter prefix and what lies between
split_take : (b e : ℕ) (xs : List ℕ) → b ≤ e → take e xs ≡ take b xs ++ take (e - b) (drop b xs)
split_take b e xs less =
    let m : ℕ = e - b in
    let whole : b + m ≡ e = omega (arith, less) in
    sym (take-append-drop b (take e xs))
    ∙ ap₂ (λ (us vs : List ℕ). us ++ vs) (take-take b e xs less) (ap (λ (n : ℕ). drop b (take n xs)) (sym whole) ∙ drop-take b m xs)

-- a filter keeps no more than there are
at_most : (keep : ℕ → Bool) (xs : List ℕ) → length (filter keep xs) ≤ length xs
at_most keep [] = omega arith
at_most keep (x ∷ xs) =
    let few : length (filter keep xs) ≤ length xs = at_most keep xs in
    ⊎_elim (λ (k : keep x ≡ true). rw k (omega (arith, few))) (λ (k : keep x ≡ false). rw k (omega (arith, few))) (cases_Bool (keep x))

pub few_more : (keep : ℕ → Bool) (old own new : List ℕ) → new ≡ old ++ filter keep own → length new ≤ length old + length own
few_more keep old own new is =
    let long : length new ≡ length old + length (filter keep own) = ap length is ∙ length-append old (filter keep own) in
    let few : length (filter keep own) ≤ length own = at_most keep own in
    omega (arith, long, few)

-- a filter that leaves nothing out keeps all
full : (keep : ℕ → Bool) (xs : List ℕ) → length (filter keep xs) ≡ length xs → filter keep xs ≡ xs
full keep [] e = refl
full keep (x ∷ xs) e = ⊎_elim
    (λ (k : keep x ≡ true). let here : length (x ∷ filter keep xs) ≡ length (x ∷ xs) = rw k at e in rw k (ap (λ (ys : List ℕ). x ∷ ys) (full keep xs (omega (arith, here)))))
    (λ (k : keep x ≡ false). let here : length (filter keep xs) ≡ length (x ∷ xs) = rw k at e in let few : length (filter keep xs) ≤ length xs = at_most keep xs in absurd (omega (arith, here, few)))
    (cases_Bool (keep x))

-- the beginnings of buckets stay while ends are added
begins : (ends more : List ℕ) (b : ℕ) → b ≤ length ends → begin_of (ends ++ more) b ≡ begin_of ends b
begins ends more zero less = refl
begins ends more (suc b) less = get_or_append_left ends more 0 b (omega (arith, less))

-- the records of a bucket stay while others come after all
bucket_stays : (records others ends more : List ℕ) (b : ℕ) → b < length ends → begin_of ends b ≤ slice_index ends b → slice_index ends b ≤ length records
    → records_of (records ++ others) (ends ++ more) b ≡ records_of records ends b
bucket_stays records others ends more b below rising inside =
    let first : ℕ = begin_of ends b in
    let last : ℕ = slice_index ends b in
    let here : slice_index (ends ++ more) b ≡ last = get_or_append_left ends more 0 b below in
    let begun : begin_of (ends ++ more) b ≡ first = begins ends more b (omega (arith, below)) in
    let behind : drop first (records ++ others) ≡ drop first records ++ others = drop-append-le first records others (omega (arith, rising, inside)) in
    let left : length (drop first records) ≡ length records - first = length-drop first records in
    ap₂ (λ (l f : ℕ). take (l - f) (drop f (records ++ others))) here begun
    ∙ ap (take (last - first)) behind ∙ take-append-le (last - first) (drop first records) others (omega (arith, rising, inside, left))

next_number : (n : ℕ) → suc n ≡ n + 1
next_number n = omega arith

pub begin_next : (ends : List ℕ) (n : ℕ) → slice_index ends n ≡ begin_of ends (n + 1)
begin_next ends n = ap (begin_of ends) (next_number n)

-- as many records as lie before a bucket, and its own, are few where its end is small
pub few_packed : (keep : ℕ → Bool) (records ends : List ℕ) (closed : List Bool) (n first : ℕ) (chains : KeptChains) → ArePacked keep records ends closed n chains → first ≡ begin_of ends n → begin_of ends n ≤ slice_index ends n → slice_index ends n < 4294967296
    → length chains.records.items + length (take (slice_index ends n - first) (drop first records)) < 4294967296
few_packed keep records ends closed n first chains packed begun rising small =
    let b : ℕ = begin_of ends n in
    let e : ℕ = slice_index ends n in
    let kept_few : length chains.records.items ≤ length (take b records) = subst (λ (rs : List ℕ). length rs ≤ length (take b records)) (sym packed.all) (at_most keep (take b records)) in
    let front : length (take b records) ≡ min b (length records) = length-take b records in
    let own : length (take (e - first) (drop first records)) ≡ min (e - first) (length (drop first records)) = length-take (e - first) (drop first records) in
    omega (arith, kept_few, front, own, begun, rising, small)

-- the records of a bucket, by where it was found to begin
pub own_of : (records ends : List ℕ) (n first : ℕ) → first ≡ begin_of ends n → take (slice_index ends n - first) (drop first records) ≡ records_of records ends n
own_of records ends n first begun = ap (λ (f : ℕ). take (slice_index ends n - f) (drop f records)) begun

module _ (keep : ℕ → Bool) (records ends : List ℕ) (closed : List Bool) where
  pub none_packed : (chains : KeptChains) → chains.records.items ≡ [] → chains.ends.items ≡ [] → chains.whole.items ≡ [] → ArePacked keep records ends closed 0 chains
  none_packed chains no_records no_ends no_whole = record {
    many = ap length no_ends;
    told = ap length no_whole;
    all = no_records;
    last = sym (ap length no_records);
    rising = λ b below. absurd (omega (arith, below));
    inside = λ b below. absurd (omega (arith, below));
    are = λ b below. absurd (omega (arith, below));
    were_closed = λ b below. absurd (omega (arith, below));
    all_kept = λ b below. absurd (omega (arith, below));
    were_whole = λ b below. absurd (omega (arith, below));
  }

  -- the chains with one bucket more
  pub record IsNext (n : ℕ) (old new : KeptChains) : Type 0 where
    is_closed : Bool
    was_closed : is_closed ≡ slice_index_or closed n false
    next_records : new.records.items ≡ old.records.items ++ filter keep (records_of records ends n)
    next_end : new.ends.items ≡ old.ends.items ++ length new.records.items ∷ []
    next_whole : new.whole.items ≡ old.whole.items ++ (is_closed && (length new.records.items == length old.records.items + length (records_of records ends n))) ∷ []

  -- the chains with one bucket more, written out
  pub next_is : (n : ℕ) (old new : KeptChains) (own : List ℕ) (is_closed : Bool) → own ≡ records_of records ends n → is_closed ≡ slice_index_or closed n false
      → new.records.items ≡ old.records.items ++ filter keep own → new.ends.items ≡ old.ends.items ++ length new.records.items ∷ []
      → new.whole.items ≡ old.whole.items ++ (is_closed && (length new.records.items == length old.records.items + length own)) ∷ [] → IsNext n old new
  next_is n old new own is_closed own_is was more_records more_ends more_whole = record {
    is_closed = is_closed;
    was_closed = was;
    next_records = more_records ∙ ap (λ (xs : List ℕ). old.records.items ++ filter keep xs) own_is;
    next_end = more_ends;
    next_whole = more_whole ∙ ap (λ (xs : List ℕ). old.whole.items ++ (is_closed && (length new.records.items == length old.records.items + length xs)) ∷ []) own_is;
  }

  module _ (n : ℕ) (old new : KeptChains) (are_ends : AreEnds records ends) (below_all : n < 65536) (packed : ArePacked keep records ends closed n old) (next : IsNext n old new) where
    abbrev chunk : List ℕ
    chunk = records_of records ends n

    longer : length new.records.items ≡ length old.records.items + length (filter keep chunk)
    longer = ap length next.next_records ∙ length-append old.records.items (filter keep chunk)

    -- what is so of the buckets before, and of this one, is so of all
    by_bucket : (P : ℕ → Type 0) → ((b : ℕ) → b < n → P b) → P n → (b : ℕ) → b < suc n → P b
    by_bucket P before here b below = ⊎_elim (λ (e : (eqb b n ≡ true) × (b ≡ n)). subst P (sym e.1) here) (λ (e : (eqb b n ≡ false) × (b ≢ n)). let apart = e.1 in before b (omega (arith, below, apart))) (eqb_tells b n)

    end_stays : (b : ℕ) → b < n → slice_index new.ends.items b ≡ slice_index old.ends.items b
    end_stays b below = ap (λ (es : List ℕ). slice_index es b) next.next_end ∙ get_or_append_left old.ends.items (length new.records.items ∷ []) 0 b (let m = packed.many in omega (arith, below, m))

    begin_stays : (b : ℕ) → b ≤ n → begin_of new.ends.items b ≡ begin_of old.ends.items b
    begin_stays b below = ap (λ (es : List ℕ). begin_of es b) next.next_end ∙ begins old.ends.items (length new.records.items ∷ []) b (let m = packed.many in omega (arith, below, m))

    last_end : slice_index new.ends.items n ≡ length new.records.items
    last_end = ap (λ (es : List ℕ). slice_index es n) next.next_end ∙ get_or_push old.ends.items (length new.records.items) 0 n packed.many

    stay_whole : (b : ℕ) → b < n → slice_index_or new.whole.items b false ≡ slice_index_or old.whole.items b false
    stay_whole b below = ap (λ (ws : List Bool). slice_index_or ws b false) next.next_whole ∙ get_or_append_left old.whole.items _ false b (let t = packed.told in omega (arith, below, t))

    last_whole : slice_index_or new.whole.items n false ≡ (next.is_closed && (length new.records.items == length old.records.items + length chunk))
    last_whole = ap (λ (ws : List Bool). slice_index_or ws n false) next.next_whole ∙ get_or_push old.whole.items (next.is_closed && (length new.records.items == length old.records.items + length chunk)) false n packed.told

    this_bucket : records_of new.records.items new.ends.items n ≡ filter keep chunk
    this_bucket =
        let begun : begin_of new.ends.items n ≡ length old.records.items = begin_stays n (omega arith) ∙ packed.last in
        let size : length new.records.items - length old.records.items ≡ length (filter keep chunk) = let l = longer in omega (arith, l) in
        ap₂ (λ (l f : ℕ). take (l - f) (drop f new.records.items)) last_end begun
        ∙ ap (λ (rs : List ℕ). take (length new.records.items - length old.records.items) (drop (length old.records.items) rs)) next.next_records
        ∙ ap (take (length new.records.items - length old.records.items)) (drop_at old.records.items (filter keep chunk) (length old.records.items) refl)
        ∙ ap (λ (k : ℕ). take k (filter keep chunk)) size ∙ take_all (length (filter keep chunk)) (filter keep chunk) (omega arith)

    pub packed_more : ArePacked keep records ends closed (suc n) new
    packed_more = record {
      many = ap length next.next_end ∙ length_push old.ends.items (length new.records.items) ∙ (let m = packed.many in omega (arith, m));
      told = ap length next.next_whole ∙ length_push old.whole.items _ ∙ (let t = packed.told in omega (arith, t));
      all = next.next_records ∙ ap (λ (rs : List ℕ). rs ++ filter keep chunk) packed.all ∙ sym (filter-append keep (take (begin_of ends n) records) chunk)
          ∙ ap (filter keep) (sym (split_take (begin_of ends n) (slice_index ends n) records (are_ends.rising n below_all)));
      last = last_end;
      rising = by_bucket (λ b. begin_of new.ends.items b ≤ slice_index new.ends.items b)
          (λ b below. subst (λ (f : ℕ). f ≤ slice_index new.ends.items b) (sym (begin_stays b (omega (arith, below)))) (subst (λ (l : ℕ). begin_of old.ends.items b ≤ l) (sym (end_stays b below)) (packed.rising b below)))
          (subst (λ (f : ℕ). f ≤ slice_index new.ends.items n) (sym (begin_stays n (omega arith) ∙ packed.last)) (subst (λ (l : ℕ). length old.records.items ≤ l) (sym last_end) (let l = longer in omega (arith, l))));
      inside = by_bucket (λ b. slice_index new.ends.items b ≤ length new.records.items)
          (λ b below. subst (λ (l : ℕ). l ≤ length new.records.items) (sym (end_stays b below)) (let i = packed.inside b below in let l = longer in omega (arith, i, l)))
          (subst (λ (l : ℕ). l ≤ length new.records.items) (sym last_end) (omega arith));
      are = by_bucket (λ b. records_of new.records.items new.ends.items b ≡ filter keep (records_of records ends b))
          (λ b below. ap₂ (λ (rs es : List ℕ). records_of rs es b) next.next_records next.next_end
          ∙ bucket_stays old.records.items (filter keep chunk) old.ends.items (length new.records.items ∷ []) b (let m = packed.many in omega (arith, below, m)) (packed.rising b below) (packed.inside b below)
          ∙ packed.are b below)
          this_bucket;
      were_closed = by_bucket (λ b. slice_index_or new.whole.items b false ≡ true → slice_index_or closed b false ≡ true)
          (λ b below is. packed.were_closed b below (sym (stay_whole b below) ∙ is))
          (λ is. sym next.was_closed ∙ (and_parts next.is_closed (length new.records.items == length old.records.items + length chunk) (sym last_whole ∙ is)).0);
      all_kept = by_bucket (λ b. slice_index_or new.whole.items b false ≡ true → filter keep (records_of records ends b) ≡ records_of records ends b)
          (λ b below is. packed.all_kept b below (sym (stay_whole b below) ∙ is))
          (λ is.
          let same : length new.records.items ≡ length old.records.items + length chunk = eqb-true (length new.records.items) (length old.records.items + length chunk) (and_parts next.is_closed (length new.records.items == length old.records.items + length chunk) (sym last_whole ∙ is)).1 in
          let l = longer in full keep chunk (omega (arith, same, l)));
      were_whole = by_bucket (λ b. slice_index_or closed b false ≡ true → filter keep (records_of records ends b) ≡ records_of records ends b → slice_index_or new.whole.items b false ≡ true)
          (λ b below was all. stay_whole b below ∙ packed.were_whole b below was all)
          (λ was all. last_whole ∙ ap₂ (λ (a b : Bool). a && b) (next.was_closed ∙ was) (eq-eqb (length new.records.items) (length old.records.items + length chunk) (longer ∙ ap (λ (xs : List ℕ). length old.records.items + length xs) all)));
    }

    pub packed_next : ArePacked keep records ends closed (n + 1) new
    packed_next = subst (λ (m : ℕ). ArePacked keep records ends closed m new) (next_number n) packed_more

-- What the chains of all buckets together say.

-- the records of what is kept are those that are kept in memory
pub same_entries : (image : Image) (ks : List shown.Loaded) (said : List Loaded) (w : ℕ) → AreShown image ks said → is_among (map (λ (s : Loaded). s.entry) said) w ≡ is_kept_record ks w
same_entries image [] [] w are = refl
same_entries image [] (s ∷ said) w are = absurd are
same_entries image (k ∷ ks) [] w are = absurd are
same_entries image (k ∷ ks) (s ∷ said) w are = ap₂ (λ (a b : Bool). a || b) (ap (λ (e : ℕ). e == w) are.0.is.entry) (same_entries image ks said w are.1)

-- a place where the list has false
record IsOpenAt (ws : List Bool) : Type 0 where
  place : ℕ
  inside : place < length ws
  is : slice_index_or ws place false ≡ false

-- there is one where not all are true
open_at : (ws : List Bool) → list_all (λ whole. whole) ws ≡ false → IsOpenAt ws
open_at [] all = absurd (let c : true ≡ false = all in cc)
open_at (true ∷ ws) all = let more = open_at ws all in record { place = suc more.place; inside = (let i = more.inside in omega (arith, i)); is = more.is }
open_at (false ∷ ws) all = record { place = 0; inside = omega arith; is = refl }

module _ (image : Image) (reached : Reached) (chains : KeptChains) (keep : ℕ → Bool) (are_ends : AreEnds reached.words.items reached.ends.items)
    (of : AreBucketsOf (store_of image) reached) (same : (w : ℕ) → keep w ≡ is_kept_record (kept image) w)
    (packed : ArePacked keep reached.words.items reached.ends.items reached.closed.items 65536 chains) where
  kept_of_bucket : (b : ℕ) → b < 65536 → filter keep (records_of reached.words.items reached.ends.items b) ≡ kept_records image b
  unfolding kept_records
  kept_of_bucket b below = ap (filter keep) (of.chains b below) ∙ filter_agree keep (is_kept_record (kept image)) same (chain (store_of image) b).reached

  whole_chain : (b : ℕ) → b < 65536 → slice_index_or chains.whole.items b false ≡ true → IsChain (store_of image) b (kept_records image b)
  whole_chain b below is =
      let c : Chain = chain (store_of image) b in
      let ended : c.end ≡ 0 = eqb-true c.end 0 (sym (of.closed b below) ∙ packed.were_closed b below is) in
      let all : kept_records image b ≡ c.reached = sym (kept_of_bucket b below) ∙ packed.all_kept b below is ∙ of.chains b below in
      chain-back (store_of image) b (kept_records image b) (ap₂ (λ (rs : List ℕ) (e : ℕ). record { reached = rs; end = e }) (sym all) ended)

  pub chains_kept : AreKeptChains image chains.records.items chains.ends.items chains.whole.items
  chains_kept = record {
    are_ends = record { many = packed.many; rising = packed.rising; inside = packed.inside };
    told = packed.told;
    are_kept = λ b below. packed.are b below ∙ kept_of_bucket b below;
    are_whole = λ b below is. subst (IsChain (store_of image) b) (sym (packed.are b below ∙ kept_of_bucket b below)) (whole_chain b below is);
  }

  pub chains_whole : list_all (λ whole. whole) chains.whole.items ≡ true → AreChainsWhole image
  chains_whole all b below = whole_chain b below (each chains.whole.items b (let t = packed.told in omega (arith, t, below)) all)
    where
      each : (ws : List Bool) (i : ℕ) → i < length ws → list_all (λ whole. whole) ws ≡ true → slice_index_or ws i false ≡ true
      each [] i inside all = absurd (omega (arith, inside))
      each (w ∷ ws) zero inside all = (and_parts w (list_all (λ whole. whole) ws) all).0
      each (w ∷ ws) (suc i) inside all = each ws i (omega (arith, inside)) (and_parts w (list_all (λ whole. whole) ws) all).1

  -- a bucket that is the chain of its kept records is reported whole
  told_whole : (b : ℕ) → b < 65536 → IsChain (store_of image) b (kept_records image b) → slice_index_or chains.whole.items b false ≡ true
  told_whole b below is =
      let e : chain (store_of image) b ≡ record { reached = kept_records image b; end = 0 } = chain-is (store_of image) b (kept_records image b) (no-record image) is in
      packed.were_whole b below (of.closed b below ∙ eq-eqb (chain (store_of image) b).end 0 (ap (λ (c : Chain). c.end) e))
      (kept_of_bucket b below ∙ sym (ap (λ (c : Chain). c.reached) e) ∙ sym (of.chains b below))

  pub chains_exact : list_all (λ whole. whole) chains.whole.items ≡ false → AreChainsToMend image chains.whole.items
  chains_exact one =
      let open_one = open_at chains.whole.items one in
      let below : open_one.place < 65536 = let t = packed.told in let i = open_one.inside in omega (arith, t, i) in
      record {
        one = open_one.place;
        is_one = record { below = below; isnt = λ is. let c : true ≡ false = sym (told_whole open_one.place below is) ∙ open_one.is in cc };
        are_whole = told_whole;
      }

-- packed records are some of the others
pub packed_among : (P : ℕ → Type 0) (keep : ℕ → Bool) (records ends : List ℕ) (closed : List Bool) (n : ℕ) (chains : KeptChains) → ArePacked keep records ends closed n chains → All P records → All P chains.records.items
packed_among P keep records ends closed n chains packed all = subst (All P) (sym packed.all) (All-filter keep P (take (begin_of ends n) records) (All-take P (begin_of ends n) records all))

-- the lists that are handed out are packed so
pub packed_of : (keep : ℕ → Bool) (reached : Reached) (records ends : List ℕ) (closed : List Bool) (chains : KeptChains) → records ≡ reached.words.items → ends ≡ reached.ends.items → closed ≡ reached.closed.items
    → ArePacked keep records ends closed 65536 chains → ArePacked keep reached.words.items reached.ends.items reached.closed.items 65536 chains
packed_of keep reached records ends closed chains records_are ends_are closed_are packed =
    subst (λ (rs : List ℕ). ArePacked keep rs reached.ends.items reached.closed.items 65536 chains) records_are
    (subst (λ (es : List ℕ). ArePacked keep records es reached.closed.items 65536 chains) ends_are
    (subst (λ (cs : List Bool). ArePacked keep records ends cs 65536 chains) closed_are packed))

-- a set of addresses has those of the kept records
pub kept_by_set : (image : Image) (said : List Loaded) (entries : List ℕ) (keep : ℕ → Bool) → AreShown image (kept image) said → entries ≡ map (λ (s : Loaded). s.entry) said → ((w : ℕ) → keep w ≡ is_among entries w)
    → (w : ℕ) → keep w ≡ is_kept_record (kept image) w
kept_by_set image said entries keep are entries_are keeps w = keeps w ∙ ap (λ (ws : List ℕ). is_among ws w) entries_are ∙ same_entries image (kept image) said w are
