-- The chains of all buckets.
use Rattle.std.proofs.Common.{◌≡◌, ◌≢◌, ℕ, zero, suc, ◌+◌, ◌%◌, ◌<◌, Bool, true, false, ◌||◌, ◌&&◌, List, [], ◌∷◌, ◌++◌, map, Option, Some, refl, sym, ap, ◌∙◌, arith, if◌then◌else◌}
use Rattle.std.specs.Prelude.{◌==◌, nat_lt}
use Rattle.std.specs.Option.{option_map_or}
use Rattle.std.specs.List.{filter, flat_map, range_with_len}
use Rattle.std.proofs.lemmas.Bool.{eqb-true, eq-eqb, and_parts}
use Rattle.std.proofs.lemmas.Bool.Decides.{nat_tests}
use Rattle.std.proofs.lemmas.Grind.{flat_map-append}
use Rattle.std.proofs.lemmas.List.{append-nil, map-append}
use Rattle.std.proofs.lemmas.List.Elements.{filter-append}
use Rattle.spec_format.specs.Headers.{table_length}
use Rattle.spec_format.specs.BlockFiles.{is_among}
use Rattle.spec_format.proofs.Among.{is_among-append}
use Rattle.spec_folder.specs.Audit.{is_unlisted, unlisted, unlisted_in}
use Rattle.spec_folder.specs.Chains.{bucket_of_hash, chain, is_of_bucket, most_records}
use Rattle.spec_folder.specs.Reasons.{Reason}
use Rattle.spec_folder.specs.Reasons as reason
use Rattle.spec_folder.specs.View.{RecordFields, StoreView, View}
use Rattle.blk_audit.specs.Chaining.{reached_by}
use Rattle.blk_audit.specs.ChainLaws.{ReachedAreTheChains, ReachedAreChained, UnlistedAreReached}
use Rattle.blk_audit.proofs.Chained.{chain_all}

clash : {A : Type 0} → false ≡ true → A
clash e = absurd cc

-- Lists over the buckets.

range_more : (a n : ℕ) → range_with_len a (suc n) ≡ range_with_len a n ++ (a + n) ∷ []
range_more a zero = let e : a ≡ a + 0 = omega arith in ap (λ (k : ℕ). k ∷ []) e
range_more a (suc n) =
    let e : a + 1 + n ≡ a + suc n = omega arith in
    let rest : range_with_len (a + 1) (suc n) ≡ range_with_len (a + 1) n ++ (a + 1 + n) ∷ [] = range_more (a + 1) n in
    ap (λ (t : List ℕ). a ∷ t) rest ∙ ap (λ (k : ℕ). range_with_len a (suc n) ++ k ∷ []) e

flat_more : {A : Type 0} (f : ℕ → List A) (n : ℕ) → flat_map f (range_with_len 0 (suc n)) ≡ flat_map f (range_with_len 0 n) ++ f n
flat_more {A} f n =
    let e : 0 + n ≡ n = omega arith in
    ap (flat_map f) (range_more 0 n ∙ ap (λ (k : ℕ). range_with_len 0 n ++ k ∷ []) e) ∙ flat_map-append f (range_with_len 0 n) (n ∷ []) ∙ ap (λ (t : List A). flat_map f (range_with_len 0 n) ++ t) (append-nil (f n))

by_buckets : (store : StoreView) (n : ℕ) → reached_by store n ≡ flat_map (λ bucket. (chain store bucket).reached) (range_with_len 0 n)
unfolding reached_by
by_buckets store zero = refl
by_buckets store (suc n) = ap (λ (t : List ℕ). t ++ (chain store n).reached) (by_buckets store n) ∙ sym (flat_more (λ bucket. (chain store bucket).reached) n)

pub reached-chains : ReachedAreTheChains
reached-chains store = by_buckets store table_length

-- The unlisted records.

unlisted_by : (view : View) (n : ℕ) → flat_map (unlisted_in view) (range_with_len 0 n) ≡ map (λ contents. (contents, reason.Unlisted)) (filter (is_unlisted view) (reached_by view.store n))
unfolding reached_by
unlisted_by view zero = refl
unlisted_by view (suc n) =
    flat_more (unlisted_in view) n
    ∙ ap (λ (t : List (ℕ × Reason)). t ++ unlisted_in view n) (unlisted_by view n)
    ∙ sym (map-append (λ contents. (contents, reason.Unlisted)) (filter (is_unlisted view) (reached_by view.store n)) (filter (is_unlisted view) (chain view.store n).reached))
    ∙ ap (map (λ contents. (contents, reason.Unlisted))) (sym (filter-append (is_unlisted view) (reached_by view.store n) (chain view.store n).reached))

pub unlisted-reached : UnlistedAreReached
unfolding unlisted
unlisted-reached view = unlisted_by view table_length

-- One chain for each record.

of_fields : (store : StoreView) (bucket w : ℕ) (fields : RecordFields) → store.entry w ≡ Some fields → is_of_bucket store bucket w ≡ (fields.checks && (bucket_of_hash fields.hash == bucket))
of_fields store bucket w fields here = ap (λ (o : Option RecordFields). option_map_or (λ f. f.checks && (bucket_of_hash f.hash == bucket)) o false) here

bucket_is : (store : StoreView) (bucket w : ℕ) (fields : RecordFields) → store.entry w ≡ Some fields → is_of_bucket store bucket w ≡ true → bucket_of_hash fields.hash ≡ bucket
bucket_is store bucket w fields here of =
    eqb-true (bucket_of_hash fields.hash) bucket (and_parts fields.checks (bucket_of_hash fields.hash == bucket) (sym (of_fields store bucket w fields here) ∙ of)).1

below : (h m : ℕ) → h ≡ m → nat_lt h m ≡ false
below h m e = grind (arith, nat_tests)

above : (h m : ℕ) → h ≡ m → nat_lt h (suc m) ≡ true
above h m e = grind (arith, nat_tests)

beside : (h m : ℕ) → h ≢ m → nat_lt h m ≡ nat_lt h (suc m)
beside h m ne = grind (arith, nat_tests)

-- a record is in one of the first n chains where it is in that of its bucket, if that is among them
among_first : (store : StoreView) (n w b : ℕ) → ((m : ℕ) → is_of_bucket store m w ≡ true → b ≡ m) → is_among (reached_by store n) w ≡ (if nat_lt b n then is_among (chain store b).reached w else false)
unfolding reached_by
among_first store zero w b only = by (nat_lt b 0) refl
  where
    never : (t : Bool) → nat_lt b 0 ≡ t → t ≡ false
    never t e = sym e ∙ (let h : nat_lt b 0 ≡ false = grind (arith, nat_tests) in h)

    by : (t : Bool) → nat_lt b 0 ≡ t → false ≡ (if t then is_among (chain store b).reached w else false)
    by true e = clash (sym (never true e))
    by false e = refl
among_first store (suc n) w b only =
    is_among-append (reached_by store n) (chain store n).reached w
    ∙ ap (λ (t : Bool). t || is_among (chain store n).reached w) (among_first store n w b only)
    ∙ by (b == n) refl
  where
    or_none : (a t : Bool) → t ≡ false → (a || t) ≡ a
    or_none true t e = refl
    or_none false t e = e

    absent : (t : Bool) → is_among (chain store n).reached w ≡ t → b ≢ n → t ≡ false
    absent true e ne = absurd (ne (only n (chain_all store n most_records [] (store.table n) w e)))
    absent false e ne = refl

    differs : (b == n) ≡ false → b ≢ n
    differs e same = clash (sym e ∙ eq-eqb b n same)

    by : (t : Bool) → (b == n) ≡ t
        → ((if nat_lt b n then is_among (chain store b).reached w else false) || is_among (chain store n).reached w) ≡ (if nat_lt b (suc n) then is_among (chain store b).reached w else false)
    by true e =
        let same = eqb-true b n e in
        ap (λ (t : Bool). (if t then is_among (chain store b).reached w else false) || is_among (chain store n).reached w) (below b n same)
        ∙ ap (λ (m : ℕ). is_among (chain store m).reached w) (sym same)
        ∙ sym (ap (λ (t : Bool). if t then is_among (chain store b).reached w else false) (above b n same))
    by false e =
        or_none (if nat_lt b n then is_among (chain store b).reached w else false) (is_among (chain store n).reached w) (absent (is_among (chain store n).reached w) refl (differs e))
        ∙ ap (λ (t : Bool). if t then is_among (chain store b).reached w else false) (beside b n (differs e))

small : (h : ℕ) → nat_lt (h % 65536) 65536 ≡ true
small h = let lt : h % 65536 < 65536 = omega arith in grind (arith, nat_tests)

pub reached-chained : ReachedAreChained
reached-chained store w fields here =
    sym (among_first store table_length w (bucket_of_hash fields.hash) (λ m of. bucket_is store m w fields here of)
    ∙ ap (λ (t : Bool). if t then is_among (chain store (bucket_of_hash fields.hash)).reached w else false) (small fields.hash))
