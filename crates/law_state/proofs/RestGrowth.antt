-- What a command adds is the same on the state without the first eviction units.
use Rattle.std.proofs.Common.{◌≡◌, ℕ, suc, ◌+◌, ◌-◌, ◌*◌, Bool, true, false, not, cond, List, [], ◌∷◌, ◌++◌, Some, None, Option, refl, ap, sym, ◌∙◌, arith, get_or, set, length}
use Rattle.std.specs.List.{filter, sum_by, AllByRecursion}
use Rattle.std.specs.Option.{unwrap_or}
use Rattle.std.specs.Bool.{passes, ◌==◌}
use Rattle.std.specs.Ordering.{nat_cmp}
use Rattle.std.specs.Cmp.{nat_cmp_total, unsigned_tied}
use Rattle.std.specs.FinMap.{find, put, is_sorted, nat_cmp-IsAntisymmetric}
use Rattle.std.specs.FinMap.Entries.{find-where_key, find-put, is_sorted-where_key, is_sorted-put, same_entries}
use Rattle.std.proofs.Math.Dec.{T}
use Rattle.std.proofs.lemmas.Bool.{eqb-true}
use Rattle.std.proofs.lemmas.List.Filters.{sum_by-filter_both}
use Rattle.std.proofs.lemmas.List.Sums.{sum_by-set, sum_by-append, sum_by-cons}
use Rattle.blk_model.specs.Items.{part, PartValue, Shape, plain, sparse, signature_of}
use Rattle.blk_model.specs.Charge.{part_charge}
use Rattle.blk_model.specs.State.{Object, IsObject}
use Rattle.blk_model.specs.Sparse.{part_after, parts_after, piece_for, empty_part}
use Rattle.blk_model.specs.Room.{Group, is_out, of_slot}
use Rattle.blk_model.specs.Sizes.{part_size}
use Rattle.blk_model.specs.Effects.{made_sparse}
use Rattle.blk_model.proofs.Evicted.{kept_parts}
use Rattle.law_state.proofs.NotAtRest.{within-slots}

abbrev Parts : Type 0
Parts = List (ℕ × PartValue)

-- ---- parts that are written, and parts that are evicted

where_part : (ℕ → Bool) → Parts → Parts
where_part p parts = filter (λ (e : ℕ × PartValue). p e.0) parts

find-where : (p : ℕ → Bool) (q : ℕ) (parts : Parts) → find nat_cmp q (where_part p parts) ≡ cond (p q) (find nat_cmp q parts) None
unfolding where_part
find-where p q parts = find-where_key nat_cmp p q (λ m e. ap p (sym (nat_cmp-IsAntisymmetric q m e))) parts

sorted-where : (p : ℕ → Bool) (parts : Parts) → T (is_sorted nat_cmp parts) → T (is_sorted nat_cmp (where_part p parts))
unfolding where_part
sorted-where p parts sorted = is_sorted-where_key nat_cmp p parts sorted

find-in-put : (q n : ℕ) (v : PartValue) (parts : Parts) → find nat_cmp q (put nat_cmp n v parts) ≡ cond (q == n) (Some v) (find nat_cmp q parts)
find-in-put q n v parts = find-put nat_cmp nat_cmp_total q n v parts ∙ ap (λ b. cond b (Some v) (find nat_cmp q parts)) (unsigned_tied q n)

-- a part that passes is put among those that pass
put-where : (p : ℕ → Bool) (n : ℕ) (v : PartValue) (parts : Parts) → T (is_sorted nat_cmp parts) → p n ≡ true → where_part p (put nat_cmp n v parts) ≡ put nat_cmp n v (where_part p parts)
put-where p n v parts sorted passes =
    same_entries nat_cmp nat_cmp_total (λ x y e. nat_cmp-IsAntisymmetric x y e) _ _ (sorted-where p (put nat_cmp n v parts) (is_sorted-put nat_cmp nat_cmp_total n v parts sorted)) (is_sorted-put nat_cmp nat_cmp_total n v (where_part p parts) (sorted-where p parts sorted))
    (λ q. find-where p q (put nat_cmp n v parts) ∙ ap (λ o. cond (p q) o None) (find-in-put q n v parts) ∙ swap q (q == n) refl (find nat_cmp q parts)
    ∙ ap (cond (q == n) (Some v)) (sym (find-where p q parts)) ∙ sym (find-in-put q n v (where_part p parts)))
  where
    swap : (q : ℕ) (b : Bool) → (q == n) ≡ b → (o : Option PartValue) → cond (p q) (cond (q == n) (Some v) o) None ≡ cond (q == n) (Some v) (cond (p q) o None)
    swap q true e o = rw (e, ap p (eqb-true q n e) ∙ passes) refl
    swap q false e o = rw e refl

-- one that doesn't is not among them
put-beside : (p : ℕ → Bool) (n : ℕ) (v : PartValue) (parts : Parts) → T (is_sorted nat_cmp parts) → p n ≡ false → where_part p (put nat_cmp n v parts) ≡ where_part p parts
put-beside p n v parts sorted fails =
    same_entries nat_cmp nat_cmp_total (λ x y e. nat_cmp-IsAntisymmetric x y e) _ _ (sorted-where p (put nat_cmp n v parts) (is_sorted-put nat_cmp nat_cmp_total n v parts sorted)) (sorted-where p parts sorted)
    (λ q. find-where p q (put nat_cmp n v parts) ∙ ap (λ o. cond (p q) o None) (find-in-put q n v parts) ∙ drop-it q (q == n) refl (find nat_cmp q parts) ∙ sym (find-where p q parts))
  where
    drop-it : (q : ℕ) (b : Bool) → (q == n) ≡ b → (o : Option PartValue) → cond (p q) (cond (q == n) (Some v) o) None ≡ cond (p q) o None
    drop-it q true e o = rw (e, ap p (eqb-true q n e) ∙ fails) refl
    drop-it q false e o = rw e refl

written-where : (p : ℕ → Bool) (ns : List ℕ) (offset : ℕ) (bytes : List ℕ) (parts : Parts) → T (is_sorted nat_cmp parts) → AllByRecursion (λ (n : ℕ). p n ≡ true) ns → where_part p (parts_after ns offset bytes parts) ≡ parts_after ns offset bytes (where_part p parts)
unfolding parts_after
written-where p [] offset bytes parts sorted all = refl
written-where p (n ∷ ns) offset bytes parts sorted all =
    let value : Option PartValue → PartValue = λ o. part_after (unwrap_or o empty_part) (offset - n * part_size) (piece_for n offset bytes) in
    let same : find nat_cmp n (where_part p parts) ≡ find nat_cmp n parts = find-where p n parts ∙ ap (λ b. cond b (find nat_cmp n parts) None) all.0 in
    written-where p ns offset bytes (put nat_cmp n (value (find nat_cmp n parts)) parts) (is_sorted-put nat_cmp nat_cmp_total n (value (find nat_cmp n parts)) parts sorted) all.1
    ∙ ap (parts_after ns offset bytes) (put-where p n (value (find nat_cmp n parts)) parts sorted all.0)
    ∙ ap (λ o. parts_after ns offset bytes (put nat_cmp n (value o) (where_part p parts))) (sym same)

written-beside : (p : ℕ → Bool) (ns : List ℕ) (offset : ℕ) (bytes : List ℕ) (parts : Parts) → T (is_sorted nat_cmp parts) → AllByRecursion (λ (n : ℕ). p n ≡ false) ns → where_part p (parts_after ns offset bytes parts) ≡ where_part p parts
unfolding parts_after
written-beside p [] offset bytes parts sorted all = refl
written-beside p (n ∷ ns) offset bytes parts sorted all =
    let value : PartValue = part_after (unwrap_or (find nat_cmp n parts) empty_part) (offset - n * part_size) (piece_for n offset bytes) in
    written-beside p ns offset bytes (put nat_cmp n value parts) (is_sorted-put nat_cmp nat_cmp_total n value parts sorted) all.1
    ∙ put-beside p n value parts sorted all.0

-- so what a sum over the parts grows by is the same once those that aren't written are evicted
sums-grow : (f : ℕ × PartValue → ℕ) (p : ℕ → Bool) (ns : List ℕ) (offset : ℕ) (bytes : List ℕ) (parts : Parts) → T (is_sorted nat_cmp parts) → AllByRecursion (λ (n : ℕ). p n ≡ true) ns
    → sum_by f (parts_after ns offset bytes (where_part p parts)) + sum_by f parts ≡ sum_by f (parts_after ns offset bytes parts) + sum_by f (where_part p parts)
unfolding where_part
sums-grow f p ns offset bytes parts sorted all =
    let after = parts_after ns offset bytes parts in
    let a = sum_by-filter_both (λ (e : ℕ × PartValue). p e.0) (λ (e : ℕ × PartValue). not (p e.0)) (λ e. refl) f after in
    let b = sum_by-filter_both (λ (e : ℕ × PartValue). p e.0) (λ (e : ℕ × PartValue). not (p e.0)) (λ e. refl) f parts in
    let c = ap (sum_by f) (written-where p ns offset bytes parts sorted all) in
    let d = ap (sum_by f) (written-beside (λ n. not (p n)) ns offset bytes parts sorted (all-not ns all)) in
    omega (arith, a, b, c, d)
  where
    all-not : (ns : List ℕ) → AllByRecursion (λ (n : ℕ). p n ≡ true) ns → AllByRecursion (λ (n : ℕ). not (p n) ≡ false) ns
    all-not [] all = tt
    all-not (n ∷ ns) all = (ap not all.0, all-not ns all.1)

ones : (parts : Parts) → sum_by (λ (e : ℕ × PartValue). 1) parts ≡ length parts
ones [] = refl
ones (e ∷ parts) = sum_by-cons (λ (x : ℕ × PartValue). 1) e parts ∙ ap (λ n. 1 + n) (ones parts) ∙ (let s : 1 + length parts ≡ suc (length parts) = omega arith in s)

-- ---- an object in place of another

abbrev pub kept : List Group → Object → Object
kept groups object = record object { parts = kept_parts groups object }

-- a number of objects grows by as much where one is written
abbrev pub GrowsAlike : (Object → ℕ) → (Object → Object) → List Group → Object → Type 0
GrowsAlike f change groups object = f (change (kept groups object)) + f object ≡ f (change object) + f (kept groups object)

pub set-grows : (f : Object → ℕ) (slots : List (Option Object)) (n : ℕ) (old new : Object) → get_or slots n None ≡ Some old → sum_by (of_slot f) (set slots n (Some new)) - sum_by (of_slot f) slots ≡ f new - f old
set-grows f slots n old new here =
    let e = sum_by-set (of_slot f) slots n (Some new) None (within-slots slots n old here) in
    let was : of_slot f (get_or slots n None) ≡ f old = ap (of_slot f) here in
    omega (arith, e, was)

pub push-grows : (f : Object → ℕ) (slots : List (Option Object)) (new : Object) → sum_by (of_slot f) (slots ++ Some new ∷ []) - sum_by (of_slot f) slots ≡ sum_by (of_slot f) (Some new ∷ [])
push-grows f slots new = let e = sum_by-append (of_slot f) slots (Some new ∷ []) in omega (arith, e)

-- a sparse write
module _ (groups : List Group) (object : Object) (is : IsObject object) (moment offset : ℕ) (ns : List ℕ) (all : AllByRecursion (λ (n : ℕ). not (is_out groups (part object.key n)) ≡ true) ns) where
  keep : ℕ → Bool
  keep n = not (is_out groups (part object.key n))

  pub count-grows : (bytes : List ℕ) → length (parts_after ns offset bytes (kept_parts groups object)) + length object.parts ≡ length (parts_after ns offset bytes object.parts) + length (kept_parts groups object)
  unfolding where_part
  count-grows bytes =
      let g = sums-grow (λ (e : ℕ × PartValue). 1) (λ n. not (is_out groups (part object.key n))) ns offset bytes object.parts (passes _ is.rising) all in
      let a = ones (parts_after ns offset bytes (kept_parts groups object)) in
      let b = ones object.parts in
      let c = ones (parts_after ns offset bytes object.parts) in
      let d = ones (kept_parts groups object) in
      omega (arith, g, a, b, c, d)

  pub charge-grows : (bytes : List ℕ) (shape : Shape) → object.shape ≡ shape
      → sum_by (λ (p : ℕ × PartValue). part_charge object.key (signature_of (made_sparse moment shape)) p.0 p.1) (parts_after ns offset bytes (kept_parts groups object)) + sum_by (λ (p : ℕ × PartValue). part_charge object.key (signature_of shape) p.0 p.1) object.parts
      ≡ sum_by (λ (p : ℕ × PartValue). part_charge object.key (signature_of (made_sparse moment shape)) p.0 p.1) (parts_after ns offset bytes object.parts) + sum_by (λ (p : ℕ × PartValue). part_charge object.key (signature_of shape) p.0 p.1) (kept_parts groups object)
  unfolding where_part
  charge-grows bytes plain e =
      let none : object.parts ≡ [] = is.plain_has_no_parts (rw e refl) in
      let same : kept_parts groups object ≡ object.parts = ap (filter (λ (p : ℕ × PartValue). not (is_out groups (part object.key p.0)))) none ∙ sym none in
      rw same refl
  charge-grows bytes (sparse signature) e = sums-grow (λ (p : ℕ × PartValue). part_charge object.key signature p.0 p.1) (λ n. not (is_out groups (part object.key n))) ns offset bytes object.parts (passes _ is.rising) all
