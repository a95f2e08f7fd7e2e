-- The files that are linked as a kind are different, and are linked as no kind before it.
use Rattle.std.proofs.Common.{◌≡◌, ◌≢◌, ◌⊎◌, inl, inr, ℕ, zero, suc, ◌-◌, ◌<◌, ◌≤◌, List, [], ◌∷◌, ◌++◌, refl, ap, sym, ◌∙◌, subst, arith, ⊎_elim, Bool, true, false, None, Some}
use Rattle.std.specs.Prelude.{◌&&◌, ◌==◌, not, nat_le, nat_lt, if◌then◌else◌}
use Rattle.std.proofs.lemmas.Bool.{and_parts, cases_Bool, eq-eqb, eqb-true, or_left, or_right}
use Rattle.std.proofs.lemmas.Bool.Decides.{nat_tests}
use Rattle.spec_image.specs.Checks.{first_of}
use Rattle.spec_image.specs.Image.{Image, Block, byte, length_of}
use Rattle.spec_format.specs.BlockFiles.{checks_along, checks_of_kind, file_checks, files_along, first_block_damage, is_among, is_link, kind_among, linked, linked_as, linked_up_to, next_file_in}
use Rattle.spec_format.proofs.Among.{is_among_more, is_among-append}
use Rattle.spec_format.proofs.Keeping.{each_kind, none_parts}
use Rattle.spec_format.proofs.LinkedHeads.{link_passed}
use Rattle.spec_folder.specs.ListView.{Distinct}

-- what a link that isn't 0 says: its file wasn't met, and is none of the first four
record IsNextLink (met : List ℕ) (next : ℕ) : Type 0 where
  pub fresh : is_among met next ≡ false
  pub large : 4 ≤ next

next-link : (met : List ℕ) (left next : ℕ) → is_link met left next ≡ true → (next == 0) ≡ false → IsNextLink met next
unfolding is_link
next-link met left next link some = record { fresh = turn (is_among met next) (parts (nat_le 4 next && nat_le next 255) (not (is_among met next)) (nat_lt 0 left) all).1; large = low (nat_le 4 next) (nat_le next 255) (parts (nat_le 4 next && nat_le next 255) (not (is_among met next)) (nat_lt 0 left) all).0 } where
  all : (nat_le 4 next && nat_le next 255 && not (is_among met next) && nat_lt 0 left) ≡ true
  all = rw some at link

  parts : (a b c : Bool) → (a && b && c) ≡ true → (a ≡ true) × (b ≡ true)
  parts a b c e = and_parts a b (and_parts (a && b) c e).0

  turn : (t : Bool) → not t ≡ true → t ≡ false
  turn true e = absurd (let z : false ≡ true = e in cc)
  turn false e = refl

  low : (a b : Bool) → (a && b) ≡ true → 4 ≤ next
  low a b e = grind (arith, nat_tests)

module _ (image : Image) (kind : ℕ) where
  abbrev along : ℕ → ℕ → List ℕ
  along left k = files_along (next_file_in image) left k

  -- the link of a file, and the checks after it
  link : (met : List ℕ) (left k : ℕ) → first_of (checks_along image kind met (suc left) k) ≡ None → (next_file_in image k == 0) ≡ false → IsNextLink (met ++ k ∷ []) (next_file_in image k) × (first_of (checks_along image kind (met ++ k ∷ []) left (next_file_in image k)) ≡ None)
  unfolding checks_along next_file_in
  link met left k none some =
      let parts = none_parts (file_checks kind (met ++ k ∷ []) (suc left) k (byte image (Block k)) (length_of image (Block k))) (if next_file_in image k == 0 then [] else checks_along image kind (met ++ k ∷ []) left (next_file_in image k)) none in
      (next-link (met ++ k ∷ []) (suc left) (next_file_in image k) (link_passed kind (met ++ k ∷ []) (suc left) k (byte image (Block k)) (length_of image (Block k)) parts.0) some, (let p = parts.1 in rw some at p))

  -- each file along the links is the first one or none of the first four
  pub first-or_large : (left k : ℕ) (met : List ℕ) (m : ℕ) → first_of (checks_along image kind met left k) ≡ None → is_among (files_along (next_file_in image) left k) m ≡ true → (k ≡ m) ⊎ (4 ≤ m)
  unfolding files_along
  first-or_large zero k met m none among = ⊎_elim (λ (e : (k == m) ≡ true). inl (eqb-true k m e)) (λ (e : (k == m) ≡ false). absurd (let z : false ≡ true = rw e at among in cc)) (cases_Bool (k == m))
  first-or_large (suc left) k met m none among = ⊎_elim
      (λ (e : (k == m) ≡ true). inl (eqb-true k m e))
      (λ (e : (k == m) ≡ false). inr (⊎_elim
      (λ (z : (next_file_in image k == 0) ≡ true). absurd (let c : false ≡ true = rw (e, z) at among in cc))
      (λ (z : (next_file_in image k == 0) ≡ false).
      let there : is_among (files_along (next_file_in image) left (next_file_in image k)) m ≡ true = rw (e, z) at among in
      let l = link met left k none z in
      ⊎_elim (λ (is : next_file_in image k ≡ m). subst (λ (x : ℕ). 4 ≤ x) is l.0.large) (λ (is : 4 ≤ m). is) (first-or_large left (next_file_in image k) (met ++ k ∷ []) m l.1 there))
      (cases_Bool (next_file_in image k == 0))))
      (cases_Bool (k == m))

  -- and wasn't met, where the first wasn't
  pub fresh-along : (left k : ℕ) (met : List ℕ) (m : ℕ) → is_among met k ≡ false → first_of (checks_along image kind met left k) ≡ None → is_among met m ≡ true → is_among (files_along (next_file_in image) left k) m ≡ false
  unfolding files_along
  fresh-along zero k met m fresh none there = ⊎_elim (λ (e : (k == m) ≡ true). absurd (let z : true ≡ false = sym there ∙ ap (is_among met) (sym (eqb-true k m e)) ∙ fresh in cc)) (λ (e : (k == m) ≡ false). rw e refl) (cases_Bool (k == m))
  fresh-along (suc left) k met m fresh none there = ⊎_elim
      (λ (e : (k == m) ≡ true). absurd (let z : true ≡ false = sym there ∙ ap (is_among met) (sym (eqb-true k m e)) ∙ fresh in cc))
      (λ (e : (k == m) ≡ false). ⊎_elim
      (λ (z : (next_file_in image k == 0) ≡ true). rw (e, z) refl)
      (λ (z : (next_file_in image k == 0) ≡ false). let l = link met left k none z in rw (e, z) (fresh-along left (next_file_in image k) (met ++ k ∷ []) m l.0.fresh l.1 (is_among_more met k m ∙ or_left (is_among met m) (k == m) there)))
      (cases_Bool (next_file_in image k == 0)))
      (cases_Bool (k == m))

  pub distinct-along : (left k : ℕ) (met : List ℕ) → first_of (checks_along image kind met left k) ≡ None → Distinct (files_along (next_file_in image) left k)
  unfolding files_along
  distinct-along zero k met none = (refl, tt)
  distinct-along (suc left) k met none = ⊎_elim
      (λ (z : (next_file_in image k == 0) ≡ true). rw z (refl, tt))
      (λ (z : (next_file_in image k == 0) ≡ false).
      let l = link met left k none z in
      rw z (fresh-along left (next_file_in image k) (met ++ k ∷ []) k l.0.fresh l.1 (is_among_more met k k ∙ or_right (is_among met k) (k == k) (eq-eqb k k refl)), distinct-along left (next_file_in image k) (met ++ k ∷ []) l.1))
      (cases_Bool (next_file_in image k == 0))

-- ---- by kind

-- the files of a kind are different, and each is linked as the kind
abbrev pub IsOnce : Image → ℕ → Type 0
IsOnce image kind = Distinct (linked image kind) × ((n : ℕ) → is_among (linked image kind) n ≡ true → linked_as image n ≡ Some kind)

module _ (image : Image) (undamaged : first_block_damage image ≡ None) where
  -- where the checks of a kind hold, a file of it is the first of the kind or none of the first four, and each is there once
  kind-first : (kind m : ℕ) → first_of (checks_of_kind image kind) ≡ None → is_among (linked image kind) m ≡ true → (kind - 1 ≡ m) ⊎ (4 ≤ m)
  unfolding linked checks_of_kind
  kind-first kind m none among = first-or_large image kind 59 (kind - 1) (linked_up_to image (kind - 1)) m none among

  kind-once : (kind : ℕ) → first_of (checks_of_kind image kind) ≡ None → Distinct (linked image kind)
  unfolding linked checks_of_kind
  kind-once kind none = distinct-along image kind 59 (kind - 1) (linked_up_to image (kind - 1)) none

  kind-fresh : (kind m : ℕ) → is_among (linked_up_to image (kind - 1)) (kind - 1) ≡ false → first_of (checks_of_kind image kind) ≡ None → is_among (linked_up_to image (kind - 1)) m ≡ true → is_among (linked image kind) m ≡ false
  unfolding linked checks_of_kind
  kind-fresh kind m fresh none met = fresh-along image kind 59 (kind - 1) (linked_up_to image (kind - 1)) m fresh none met

  none-of : (kind m : ℕ) → first_of (checks_of_kind image kind) ≡ None → kind - 1 ≢ m → m < 4 → is_among (linked image kind) m ≡ false
  none-of kind m none apart small = ⊎_elim
      (λ (e : is_among (linked image kind) m ≡ true). ⊎_elim (λ (is : kind - 1 ≡ m). absurd (apart is)) (λ (large : 4 ≤ m). absurd (omega (arith, large, small))) (kind-first kind m none e))
      (λ (e : is_among (linked image kind) m ≡ false). e)
      (cases_Bool (is_among (linked image kind) m))

  both-none : (xs ys : List ℕ) (m : ℕ) → is_among xs m ≡ false → is_among ys m ≡ false → is_among (xs ++ ys) m ≡ false
  both-none xs ys m a b = is_among-append xs ys m ∙ rw (a, b) refl

  both-left : (xs ys : List ℕ) (m : ℕ) → is_among xs m ≡ true → is_among (xs ++ ys) m ≡ true
  both-left xs ys m a = is_among-append xs ys m ∙ or_left (is_among xs m) (is_among ys m) a

  both-right : (xs ys : List ℕ) (m : ℕ) → is_among ys m ≡ true → is_among (xs ++ ys) m ≡ true
  both-right xs ys m a = is_among-append xs ys m ∙ or_right (is_among xs m) (is_among ys m) a

  none-true : (b : Bool) → (b ≡ true → ⊥) → b ≡ false
  none-true true h = absurd (h refl)
  none-true false h = refl

  pub once-1 : IsOnce image 1
  unfolding kind_among
  once-1 = (kind-once 1 (each_kind image undamaged).0, λ n among. rw among refl)

  pub once-2 : IsOnce image 2
  unfolding kind_among linked_up_to
  once-2 =
      let each = each_kind image undamaged in
      let start : is_among (linked image 1) 1 ≡ false = none-of 1 1 each.0 (λ e. let z : ◌≡◌ {A = ℕ} 0 1 = e in cc) (omega arith) in (
        kind-once 2 each.1,
        λ n among.
            let one : is_among (linked image 1) n ≡ false = none-true (is_among (linked image 1) n) (λ h. let z : true ≡ false = sym among ∙ kind-fresh 2 n start each.1 h in cc) in
            rw (one, among) refl,
      )

  pub once-3 : IsOnce image 3
  unfolding kind_among linked_up_to
  once-3 =
      let each = each_kind image undamaged in
      let start : is_among (linked image 1 ++ linked image 2) 2 ≡ false = both-none (linked image 1) (linked image 2) 2 (none-of 1 2 each.0 (λ e. let z : ◌≡◌ {A = ℕ} 0 2 = e in cc) (omega arith)) (none-of 2 2 each.1 (λ e. let z : ◌≡◌ {A = ℕ} 1 2 = e in cc) (omega arith)) in (
        kind-once 3 each.2,
        λ n among.
            let none : is_among (linked image 1 ++ linked image 2) n ≡ true → ⊥ = λ h. (let z : true ≡ false = sym among ∙ kind-fresh 3 n start each.2 h in cc) in
            let one : is_among (linked image 1) n ≡ false = none-true (is_among (linked image 1) n) (λ h. none (both-left (linked image 1) (linked image 2) n h)) in
            let two : is_among (linked image 2) n ≡ false = none-true (is_among (linked image 2) n) (λ h. none (both-right (linked image 1) (linked image 2) n h)) in
            rw (one, two, among) refl,
      )

  pub once-4 : IsOnce image 4
  unfolding kind_among linked_up_to
  once-4 =
      let each = each_kind image undamaged in
      let start : is_among ((linked image 1 ++ linked image 2) ++ linked image 3) 3 ≡ false = both-none (linked image 1 ++ linked image 2) (linked image 3) 3
      (both-none (linked image 1) (linked image 2) 3 (none-of 1 3 each.0 (λ e. let z : ◌≡◌ {A = ℕ} 0 3 = e in cc) (omega arith)) (none-of 2 3 each.1 (λ e. let z : ◌≡◌ {A = ℕ} 1 3 = e in cc) (omega arith))) (none-of 3 3 each.2 (λ e. let z : ◌≡◌ {A = ℕ} 2 3 = e in cc) (omega arith)) in (
        kind-once 4 each.3,
        λ n among.
            let none : is_among ((linked image 1 ++ linked image 2) ++ linked image 3) n ≡ true → ⊥ = λ h. (let z : true ≡ false = sym among ∙ kind-fresh 4 n start each.3 h in cc) in
            let one : is_among (linked image 1) n ≡ false = none-true (is_among (linked image 1) n) (λ h. none (both-left (linked image 1 ++ linked image 2) (linked image 3) n (both-left (linked image 1) (linked image 2) n h))) in
            let two : is_among (linked image 2) n ≡ false = none-true (is_among (linked image 2) n) (λ h. none (both-left (linked image 1 ++ linked image 2) (linked image 3) n (both-right (linked image 1) (linked image 2) n h))) in
            let three : is_among (linked image 3) n ≡ false = none-true (is_among (linked image 3) n) (λ h. none (both-right (linked image 1 ++ linked image 2) (linked image 3) n h)) in
            rw (one, two, three, among) refl,
      )
