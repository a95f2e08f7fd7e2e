-- States that stay valid while sparse data is read and written.
use Rattle.std.proofs.Common.{◌≡◌, ℕ, zero, suc, ◌+◌, ◌-◌, ◌*◌, ◌/◌, ◌<◌, ◌≤◌, Bool, true, false, not, ◌&&◌, ◌||◌, cond, List, [], ◌∷◌, Some, Option, is_some, IsTrue, T, refl, ap, sym, ◌∙◌, subst, arith, length, length-take, map, ◌⊎◌, inl, inr}
use Rattle.std.specs.List.{list_any, All, AllByRecursion}
use Rattle.std.specs.Option.{unwrap_or}
use Rattle.std.specs.Str.{bytes_eq}
use Rattle.std.specs.Bool.{◌==◌, passes}
use Rattle.std.specs.Ordering.{nat_cmp, eq_by_cmp}
use Rattle.std.specs.Cmp.{nat_cmp_total, unsigned_tied}
use Rattle.std.specs.declared.cmp.Ordering.TheVariants.{Less, Equal, Greater}
use Rattle.std.specs.FinMap.{find, put, is_sorted}
use Rattle.std.specs.FinMap.Entries.{find-put, is_sorted-put, by_order}
use Rattle.std.proofs.lemmas.Bool.{and_parts, and_from, or_cases, eqb-true, not-false}
use Rattle.std.proofs.lemmas.List.Elements.{All-cons, All-head, All-tail}
use Rattle.blk_model.specs.Bytes.{numbers_from}
use Rattle.blk_model.specs.Items.{Item, main, part, same_item, key_of, times, Shape, plain, sparse, is_sparse, signature_of, PartValue, IsPartValue, IsBytes, HasOneStream}
use Rattle.blk_model.specs.State.{Object, State, IsValidState, IsObject, object_at, is_named, has_item, slot_has_item, owners, part_at}
use Rattle.blk_model.specs.Sparse.{empty_part, part_after, piece_for, parts_after, covered_parts}
use Rattle.blk_model.specs.Sizes.{largest_offset, part_count, part_size, signatures}
use Rattle.blk_model.specs.Effects.{existing_parts, made_sparse, object_of, sparse_after, sparse_used, sparse_written, used_all, used_sparse, with_slot}
use Rattle.blk_model.specs.Refusals.{has_one_stream, is_doomed, is_plain, names_none}
use Rattle.blk_model.proofs.ByteLists.{prefix_are, rest_are}
use Rattle.blk_model.proofs.Same.{one_item, same_bytes}
use Rattle.blk_model.proofs.Times.{times-used_all}
use Rattle.blk_model.proofs.Each.{any_has}
use Rattle.blk_model.proofs.States.{named_object, if_some_is, state_used_all, one_owner, has_main}
use Rattle.blk_model.proofs.Doomed.{contrary}
use Rattle.blk_model.proofs.Owners.{only_owner}
use Rattle.blk_model.proofs.Written.{state_replaced}
use Rattle.blk_model.proofs.PartValues.{part_after_is, empty_part_is}

-- items of a list that each have one owner
owned_each : (objects : List (Option Object)) (items : List Item) → AllByRecursion (λ i. owners i objects ≡ 1) items → (item : Item) → list_any (same_item item) items ≡ true → owners item objects ≡ 1
owned_each objects [] all item is = absurd (contrary refl is)
owned_each objects (i ∷ items) all item is =
    let cases : (same_item item i ≡ true) ⊎ (list_any (same_item item) items ≡ true) = or_cases _ _ is in
    elim cases [ inl here ↦ subst (λ k. owners k objects ≡ 1) (sym (one_item item i here)) all.0 | inr later ↦ owned_each objects items all.1 item later ]

-- the parts that an object has, among numbers, have one owner
owned_parts : (state : State) (valid : IsValidState state) (number : ℕ) (object : Object) → object_at state number ≡ Some object → object.live ≡ true → (ns : List ℕ) → AllByRecursion (λ i. owners i state.objects ≡ 1) (map (part object.key) (existing_parts object ns))
owned_parts state valid number object here live [] = tt
owned_parts state valid number object here live (n ∷ ns) =
    let rest = owned_parts state valid number object here live ns in
    elim (is_some (part_at object n)) as (λ b. is_some (part_at object n) ≡ b → AllByRecursion (λ i. owners i state.objects ≡ 1) (map (part object.key) (cond b (n ∷ existing_parts object ns) (existing_parts object ns)))) [
      | true ↦ λ there. (one_owner state valid (part object.key n) number (ap (slot_has_item (part object.key n)) here ∙ and_from _ _ (has_main object live) there), rest)
      | false ↦ λ missing. rest
    ] refl

pub state_sparse_used : (state : State) (valid : IsValidState state) (handle offset count : ℕ) → names_none state handle ≡ false → is_doomed state handle ≡ false → IsValidState (sparse_used handle offset count state)
unfolding sparse_used
state_sparse_used state valid handle offset count bound is_live =
    let named = named_object state valid handle bound in
    let live : named.object.live ≡ true = not-false _ (ap (λ o. not o.live) (sym named.object_is) ∙ is_live) in
    let ns = covered_parts offset count in
    subst (λ o. IsValidState (used_sparse o (existing_parts o (covered_parts offset count)) state)) (sym named.object_is)
    (state_used_all state valid (main named.object.key ∷ map (part named.object.key) (existing_parts named.object (covered_parts offset count)))
    (owned_each state.objects (main named.object.key ∷ map (part named.object.key) (existing_parts named.object (covered_parts offset count))) (one_owner state valid (main named.object.key) named.number (ap (slot_has_item (main named.object.key)) named.here ∙ has_main named.object live), owned_parts state valid named.number named.object named.here live (covered_parts offset count))))

-- a part of each number is below the number of parts, and has a value that it may have
abbrev pub IsPart : ℕ × PartValue → Type 0
IsPart p = (p.0 < part_count) × IsPartValue p.1

pub All_put : (n : ℕ) (value : PartValue) (parts : List (ℕ × PartValue)) → n < part_count → IsPartValue value → All IsPart parts → All IsPart (put nat_cmp n value parts)
All_put n value [] small is all = All-cons IsPart (n, value) [] (small, is) all
All_put n value (p ∷ parts) small is all =
    let first = All-head IsPart p parts all in let later = All-tail IsPart p parts all in
    elim (nat_cmp n p.0) as (λ r. All IsPart (by_order r ((n, value) ∷ p ∷ parts) ((p.0, value) ∷ parts) (p ∷ put nat_cmp n value parts))) [
      | Less ↦ All-cons IsPart (n, value) (p ∷ parts) (small, is) all
      | Equal ↦ All-cons IsPart (p.0, value) parts (first.0, is) later
      | Greater ↦ All-cons IsPart p (put nat_cmp n value parts) first (All_put n value parts small is later)
    ]

pub T_true : (b : Bool) → T b → b ≡ true
T_true true h = refl
T_true false h = absurd h

found_is : (n : ℕ) (parts : List (ℕ × PartValue)) → All IsPart parts → IsPartValue (unwrap_or (find nat_cmp n parts) empty_part)
found_is n [] all = empty_part_is
found_is n (p ∷ parts) all =
    elim (eq_by_cmp nat_cmp n p.0) as (λ b. IsPartValue (unwrap_or (cond b (Some p.1) (find nat_cmp n parts)) empty_part)) [
      | true ↦ (All-head IsPart p parts all).1
      | false ↦ found_is n parts (All-tail IsPart p parts all)
    ]

-- the number of a part that may be in range, of a range from an offset on
abbrev IsCovered : ℕ → ℕ → Type 0
IsCovered offset n = (n < part_count) × (offset < (n + 1) * part_size)

short_piece : (n offset : ℕ) (bytes : List ℕ) → offset < (n + 1) * part_size → (offset - n * part_size) + length (piece_for n offset bytes) ≤ part_size
short_piece n offset bytes reached = simp (length-take) (omega arith)

-- the parts after a write
parts_after_are : (ns : List ℕ) (offset : ℕ) (bytes : List ℕ) (parts : List (ℕ × PartValue)) → IsBytes bytes → AllByRecursion (IsCovered offset) ns → IsTrue (is_sorted nat_cmp parts) → All IsPart parts →
    IsTrue (is_sorted nat_cmp (parts_after ns offset bytes parts)) × All IsPart (parts_after ns offset bytes parts)
unfolding parts_after
parts_after_are [] offset bytes parts is_bytes small rising all = (rising, all)
parts_after_are (n ∷ ns) offset bytes parts is_bytes small rising all =
    parts_after_are ns offset bytes _ is_bytes small.1 (T_true _ (is_sorted-put nat_cmp nat_cmp_total n _ parts (passes _ rising)))
    (All_put n _ parts small.0.0 (part_after_is _ (offset - n * part_size) (piece_for n offset bytes) (prefix_are (part_size - (offset - n * part_size)) _ (rest_are (n * part_size - offset) bytes is_bytes)) (found_is n parts all) (short_piece n offset bytes small.0.1)) all)

is_some_put : (same : Bool) (o : Option PartValue) (v : PartValue) → is_some (cond same (Some v) o) ≡ (same || is_some o)
is_some_put true o v = refl
is_some_put false o v = refl

or_turn : (a b c : Bool) → (a || (b || c)) ≡ ((b || a) || c)
or_turn true true c = refl
or_turn true false c = refl
or_turn false b c = ap (λ x. x || c) (sym (or_false b))
  where
    or_false : (b : Bool) → (b || false) ≡ b
    or_false true = refl
    or_false false = refl

-- a part is there after a write where it was there before, or is in range
part_after_at : (ns : List ℕ) (offset : ℕ) (bytes : List ℕ) (parts : List (ℕ × PartValue)) (n : ℕ) → is_some (find nat_cmp n (parts_after ns offset bytes parts)) ≡ (list_any (λ m. n == m) ns || is_some (find nat_cmp n parts))
unfolding parts_after
part_after_at [] offset bytes parts n = refl
part_after_at (m ∷ ns) offset bytes parts n =
    let value = part_after (unwrap_or (find nat_cmp m parts) empty_part) (offset - m * part_size) (piece_for m offset bytes) in
    part_after_at ns offset bytes (put nat_cmp m value parts) n
    ∙ ap (λ o. list_any (λ k. n == k) ns || is_some o) (find-put nat_cmp nat_cmp_total n m value parts)
    ∙ ap (λ b. list_any (λ k. n == k) ns || b) (is_some_put (eq_by_cmp nat_cmp n m) (find nat_cmp n parts) value ∙ ap (λ b. b || is_some (find nat_cmp n parts)) (unsigned_tied n m))
    ∙ or_turn (list_any (λ k. n == k) ns) (n == m) (is_some (find nat_cmp n parts))

-- an item among parts of a key
among_parts : (k key : List ℕ) (n : ℕ) (ns : List ℕ) → list_any (same_item (part k n)) (map (part key) ns) ≡ (bytes_eq k key && list_any (λ m. n == m) ns)
among_parts k key n [] = elim (bytes_eq k key) as (λ b. false ≡ (b && false)) [ true ↦ refl | false ↦ refl ]
among_parts k key n (m ∷ ns) = ap (λ b. (bytes_eq k key && n == m) || b) (among_parts k key n ns) ∙ both (bytes_eq k key) (n == m) (list_any (λ j. n == j) ns)
  where
    both : (a b c : Bool) → ((a && b) || (a && c)) ≡ (a && (b || c))
    both true b c = refl
    both false b c = refl

no_main_among : (k key : List ℕ) (ns : List ℕ) → list_any (same_item (main k)) (map (part key) ns) ≡ false
no_main_among k key [] = refl
no_main_among k key (n ∷ ns) = no_main_among k key ns

key_among : (item : Item) (key : List ℕ) (ns : List ℕ) → list_any (same_item item) (map (part key) ns) ≡ true → key_of item ≡ key
key_among (main k) key ns is = absurd (contrary (no_main_among k key ns) is)
key_among (part k n) key ns is = same_bytes k key (and_parts (bytes_eq k key) _ (sym (among_parts k key n ns) ∙ is)).0

-- an object that gets parts, and is accessed with them
state_used_new : (state : State) (valid : IsValidState state) (number : ℕ) (object : Object) → object_at state number ≡ Some object → is_named state number ≡ true → object.live ≡ true → (new : Object) → IsObject new → (ns : List ℕ) →
    ((item : Item) → has_item new item ≡ (has_item object item || list_any (same_item item) (map (part object.key) ns))) → IsValidState (used_sparse object ns (with_slot number (Some new) state))
state_used_new state valid number object here held live new is_object ns has_new =
    let more = main object.key ∷ map (part object.key) ns in
    state_replaced state valid number object here held new is_object (used_all more state.uses)
    (λ item. ap (λ n. n + cond (has_item object item) 1 0) (times-used_all item more state.uses)
    ∙ moved (same_item item (main object.key)) (list_any (same_item item) (map (part object.key) ns)) (has_item object item) (times item state.uses)
    (λ same. subst (λ i. has_item object i ≡ true) (sym (one_item item (main object.key) same)) (has_main object live))
    (λ some. valid.listed item ∙ only_owner state valid number object here live item (key_is item some))
    ∙ ap (λ b. times item state.uses + cond b 1 0) (sym (has_new item)))
    (λ item. subst (λ n. n ≤ 1) (sym (times-used_all item more state.uses)) (small (list_any (same_item item) more) _ (valid.once item)))
  where
    small : (b : Bool) (n : ℕ) → n ≤ 1 → cond b 1 n ≤ 1
    small true n le = omega arith
    small false n le = le

    moved : (same among has : Bool) (t : ℕ) → (same ≡ true → has ≡ true) → ((same || among) ≡ true → t ≡ cond has 1 0) → cond (same || among) 1 t + cond has 1 0 ≡ t + cond (has || among) 1 0
    moved true among true t h e = let is : t ≡ 1 = e refl in omega arith
    moved true among false t h e = absurd (contrary refl (h refl))
    moved false true true t h e = let is : t ≡ 1 = e refl in omega arith
    moved false true false t h e = let is : t ≡ 0 = e refl in omega arith
    moved false false true t h e = refl
    moved false false false t h e = refl

    key_is : (item : Item) → list_any (same_item item) (main object.key ∷ map (part object.key) ns) ≡ true → key_of item ≡ object.key
    key_is item some =
        let cases : (same_item item (main object.key) ≡ true) ⊎ (list_any (same_item item) (map (part object.key) ns) ≡ true) = or_cases _ _ some in
        elim cases [ inl same ↦ ap key_of (one_item item (main object.key) same) | inr among ↦ key_among item object.key ns among ]

numbers_are : (offset first count : ℕ) → offset < (first + 1) * part_size → first + count ≤ part_count → AllByRecursion (IsCovered offset) (numbers_from first count)
unfolding numbers_from
numbers_are offset first zero reached below = tt
numbers_are offset first (suc count) reached below = ((omega arith, reached), numbers_are offset (first + 1) count (omega arith) (omega arith))

covered_are : (offset : ℕ) (byte : ℕ) (bytes : List ℕ) → offset + length (byte ∷ bytes) ≤ largest_offset → AllByRecursion (IsCovered offset) (covered_parts offset (length (byte ∷ bytes)))
unfolding covered_parts numbers_from
covered_are offset byte bytes inside = numbers_are offset (offset / part_size) ((offset + length bytes) / part_size + 1 - offset / part_size) (omega arith) (omega arith)

made_sparse_is : (moment : ℕ) (shape : Shape) → is_sparse (made_sparse moment shape) ≡ true
made_sparse_is moment plain = refl
made_sparse_is moment (sparse signature) = refl

signature_is : (moment : ℕ) (shape : Shape) → signature_of shape < signatures → signature_of (made_sparse moment shape) < signatures
signature_is moment plain small = omega arith
signature_is moment (sparse signature) small = small

no_bytes : (bytes : List ℕ) → (length bytes == 0) ≡ true → bytes ≡ []
no_bytes [] e = refl
no_bytes (byte ∷ bytes) e = let is : length (byte ∷ bytes) ≡ 0 = eqb-true _ 0 e in absurd (omega arith)

one_stream : (object : Object) → IsObject object → (not (is_sparse object.shape) && not (has_one_stream object)) ≡ false → HasOneStream object.streams
one_stream object valid allowed =
    elim (is_sparse object.shape) as (λ b. is_sparse object.shape ≡ b → (not b && not (has_one_stream object)) ≡ false → HasOneStream object.streams) [
      | true ↦ λ is e. valid.sparse_has_one_stream is
      | false ↦ λ is e. let one = not-false (has_one_stream object) e in
          let both = and_parts (length object.streams.1 == 0) (length object.streams.2 == 0) one in record { second = no_bytes object.streams.1 both.0; third = no_bytes object.streams.2 both.1 }
    ] refl allowed

sparse_after_is : (moment : ℕ) (object : Object) (offset byte : ℕ) (bytes : List ℕ) → IsBytes (byte ∷ bytes) → IsObject object → object.live ≡ true → (not (is_sparse object.shape) && not (has_one_stream object)) ≡ false → offset + length (byte ∷ bytes) ≤ largest_offset → IsObject (sparse_after moment object offset (byte ∷ bytes))
unfolding sparse_after
sparse_after_is moment object offset byte bytes is_bytes valid live allowed inside =
    let parts = parts_after_are (covered_parts offset (length (byte ∷ bytes))) offset (byte ∷ bytes) object.parts is_bytes (covered_are offset byte bytes inside) valid.rising valid.parts in
    record {
      key = valid.key;
      streams = valid.streams;
      signature = signature_is moment object.shape valid.signature;
      plain_has_no_parts = λ e. absurd (contrary e (made_sparse_is moment object.shape));
      doomed_has_no_parts = λ e. absurd (contrary e live);
      sparse_has_one_stream = λ e. one_stream object valid allowed;
      rising = parts.0;
      parts = parts.1;
    }

new_has : (live same covered has : Bool) → live ≡ true → (live && same && (covered || has)) ≡ ((live && same && has) || (same && covered))
new_has true true true true e = refl
new_has true true true false e = refl
new_has true true false true e = refl
new_has true true false false e = refl
new_has true false covered has e = refl
new_has false same covered has e = cc

or_false : (b : Bool) → b ≡ (b || false)
or_false true = refl
or_false false = refl

sparse_after_has : (moment : ℕ) (object : Object) (offset byte : ℕ) (bytes : List ℕ) → object.live ≡ true → (item : Item) →
    has_item (sparse_after moment object offset (byte ∷ bytes)) item ≡ (has_item object item || list_any (same_item item) (map (part object.key) (covered_parts offset (length (byte ∷ bytes)))))
unfolding sparse_after
sparse_after_has moment object offset byte bytes live (main k) = or_false (has_item object (main k)) ∙ ap (λ b. has_item object (main k) || b) (sym (no_main_among k object.key (covered_parts offset (length (byte ∷ bytes)))))
sparse_after_has moment object offset byte bytes live (part k n) =
    let ns = covered_parts offset (length (byte ∷ bytes)) in
    ap (λ b. object.live && bytes_eq k object.key && b) (part_after_at ns offset (byte ∷ bytes) object.parts n)
    ∙ new_has object.live (bytes_eq k object.key) (list_any (λ m. n == m) ns) (is_some (part_at object n)) live
    ∙ ap (λ b. has_item object (part k n) || b) (sym (among_parts k object.key n ns))

-- a sparse write through a handle of a live object
state_sparse_written_to : (state : State) (valid : IsValidState state) (moment number : ℕ) (object : Object) → object_at state number ≡ Some object → is_named state number ≡ true → object.live ≡ true → (offset : ℕ) (bytes : List ℕ) → IsBytes bytes →
    (not (is_sparse object.shape) && not (has_one_stream object)) ≡ false → offset + length bytes ≤ largest_offset →
    IsValidState (used_sparse object (covered_parts offset (length bytes)) (with_slot number (Some (sparse_after moment object offset bytes)) state))
unfolding sparse_after covered_parts
state_sparse_written_to state valid moment number object here held live offset [] is_bytes allowed inside =
    state_used_new state valid number object here held live object (if_some_is (object_at state number) IsObject object here (valid.objects number)) [] (λ item. or_false (has_item object item))
state_sparse_written_to state valid moment number object here held live offset (byte ∷ bytes) is_bytes allowed inside =
    state_used_new state valid number object here held live (sparse_after moment object offset (byte ∷ bytes))
    (sparse_after_is moment object offset byte bytes is_bytes (if_some_is (object_at state number) IsObject object here (valid.objects number)) live allowed inside)
    (covered_parts offset (length (byte ∷ bytes))) (sparse_after_has moment object offset byte bytes live)

pub state_sparse_written : (state : State) (valid : IsValidState state) (moment handle offset : ℕ) (bytes : List ℕ) → IsBytes bytes → names_none state handle ≡ false → is_doomed state handle ≡ false → (is_plain state handle && not (has_one_stream (object_of state handle))) ≡ false → offset + length bytes ≤ largest_offset →
    IsValidState (sparse_written moment handle offset bytes state)
unfolding sparse_written
state_sparse_written state valid moment handle offset bytes is_bytes bound is_live allowed inside =
    let named = named_object state valid handle bound in
    let live : named.object.live ≡ true = not-false _ (ap (λ o. not o.live) (sym named.object_is) ∙ is_live) in
    let held = any_has state.names handle named.number named.by_name in
    subst (λ n. IsValidState (used_sparse (object_of state handle) (covered_parts offset (length bytes)) (with_slot n (Some (sparse_after moment (object_of state handle) offset bytes)) state))) (sym named.number_is)
    (subst (λ o. IsValidState (used_sparse o (covered_parts offset (length bytes)) (with_slot named.number (Some (sparse_after moment o offset bytes)) state))) (sym named.object_is)
    (state_sparse_written_to state valid moment named.number named.object named.here held live offset bytes is_bytes (ap (λ o. not (is_sparse o.shape) && not (has_one_stream o)) (sym named.object_is) ∙ allowed) inside))
