-- A new file at the end of the links of a kind.
use Rattle.std.proofs.Common.{◌≡◌, ◌≢◌, ℕ, zero, suc, ◌-◌, ◌<◌, ◌≤◌, Bool, true, false, nat_le, nat_lt, if◌then◌else◌, List, [], ◌∷◌, ◌++◌, length, get_or, None, refl, sym, ◌∙◌, ap, subst, arith}
use Rattle.std.specs.Prelude.{◌==◌}
use Rattle.std.proofs.lemmas.Bool.Decides.{nat_tests}
use Rattle.spec_image.specs.Image.{Block, Image, byte, length_of}
use Rattle.spec_image.specs.Checks.{first_of}
use Rattle.spec_format.specs.BlockFiles.{next_file_in, files_along, is_among, is_link, file_checks, checks_along}
use Rattle.spec_format.proofs.Among.{is_among_more}
use Rattle.spec_format.proofs.Keeping.{KeepsHead, Inside, Same, none_parts, none_both, kept_file, step_kept, same_more, first_along, later_along}

differ : (b : Bool) → b ≡ true → b ≡ false → ⊥
differ b e d = cc

-- there is a file along the links
pub some_along : (next : ℕ → ℕ) (left k : ℕ) → 0 < length (files_along next left k)
unfolding files_along
some_along next zero k = omega arith
some_along next (suc left) k = omega arith

last_behind : (k d : ℕ) (xs : List ℕ) → 0 < length xs → get_or (k ∷ xs) (length (k ∷ xs) - 1) d ≡ get_or xs (length xs - 1) d
last_behind k d [] some = absurd (omega arith)
last_behind k d (x ∷ xs) some =
    let e : suc (suc (length xs)) - 1 ≡ suc (suc (length xs) - 1) = omega arith in ap (λ (i : ℕ). get_or (k ∷ x ∷ xs) i d) e

-- the last file has no next one, where more could follow
pub ends : (next : ℕ → ℕ) (left k d : ℕ) → length (files_along next left k) ≤ left → (next (get_or (files_along next left k) (length (files_along next left k) - 1) d) == 0) ≡ true
unfolding files_along
ends next zero k d short = absurd (omega arith)
ends next (suc left) k d short = by_test (next k == 0) refl short (λ fewer. ends next left (next k) d fewer)
  where
    by_test : (t : Bool) → (next k == 0) ≡ t → length (k ∷ (if t then [] else files_along next left (next k))) ≤ suc left
        → (length (files_along next left (next k)) ≤ left → (next (get_or (files_along next left (next k)) (length (files_along next left (next k)) - 1) d) == 0) ≡ true)
        → (next (get_or (k ∷ (if t then [] else files_along next left (next k))) (length (k ∷ (if t then [] else files_along next left (next k))) - 1) d) == 0) ≡ true
    by_test true e fits more = e
    by_test false e fits more = ap (λ (m : ℕ). next m == 0) (last_behind k d (files_along next left (next k)) (some_along next left (next k))) ∙ more (omega arith)

link_new : (met : List ℕ) (left n : ℕ) → 4 ≤ n → n < 256 → is_among met n ≡ false → is_link met (suc left) n ≡ true
unfolding is_link
link_new met left n from below fresh =
    let some : (n == 0) ≡ false = grind (arith, nat_tests) in
    let low : nat_le 4 n ≡ true = grind (arith, nat_tests) in
    let high : nat_le n 255 ≡ true = grind (arith, nat_tests) in
    let more : nat_lt 0 (suc left) ≡ true = grind (arith, nat_tests) in
    rw (some, low, high, fresh, more) refl

module _ (a b : Image) (Old : ℕ → Bool) (heads : (m : ℕ) → Old m ≡ true → KeepsHead a b m) (kind last n d : ℕ)
    (nexts : (m : ℕ) → Old m ≡ true → m ≢ last → next_file_in b m ≡ next_file_in a m) (end : (next_file_in a last == 0) ≡ true) (names : next_file_in b last ≡ n)
    (from_first : 4 ≤ n) (below : n < 256) (apart : (m : ℕ) → Old m ≡ true → m ≢ n) (next_new : next_file_in b n ≡ 0)
    (own : (met : List ℕ) (left : ℕ) → first_of (file_checks kind met left n (byte b (Block n)) (length_of b (Block n))) ≡ None) where
  abbrev old_files : ℕ → ℕ → List ℕ
  old_files left k = files_along (next_file_in a) left k

  abbrev LastIs : ℕ → ℕ → Type 0
  LastIs left k = get_or (old_files left k) (length (old_files left k) - 1) d ≡ last

  abbrev IsInside : ℕ → ℕ → Type 0
  IsInside left k = Inside a b Old heads kind left k

  new_some : (n == 0) ≡ false
  new_some = grind (arith, nat_tests)

  new_links : (left : ℕ) → files_along (next_file_in b) left n ≡ n ∷ []
  unfolding files_along
  new_links zero = refl
  new_links (suc left) = ap (λ (m : ℕ). n ∷ (if m == 0 then [] else files_along (next_file_in b) left m)) next_new

  new_checks : (left : ℕ) (met : List ℕ) → first_of (checks_along b kind met left n) ≡ None
  unfolding checks_along
  new_checks zero met = own (met ++ n ∷ []) 0
  new_checks (suc left) met =
      none_both (file_checks kind (met ++ n ∷ []) (suc left) n (byte b (Block n)) (length_of b (Block n))) (if next_file_in b n == 0 then [] else checks_along b kind (met ++ n ∷ []) left (next_file_in b n)) (own (met ++ n ∷ []) (suc left))
      (subst (λ (m : ℕ). first_of (if m == 0 then [] else checks_along b kind (met ++ n ∷ []) left m) ≡ None) (sym next_new) refl)

  -- a file with a next one isn't the last
  not_last : (k : ℕ) → (next_file_in a k == 0) ≡ false → k ≢ last
  not_last k some same = differ (next_file_in a last == 0) end (ap (λ (m : ℕ). next_file_in a m == 0) (sym same) ∙ some)

  links_step : (left k : ℕ) → IsInside (suc left) k → LastIs (suc left) k → length (old_files (suc left) k) ≤ suc left
      → (IsInside left (next_file_in a k) → LastIs left (next_file_in a k) → length (old_files left (next_file_in a k)) ≤ left → files_along (next_file_in b) left (next_file_in a k) ≡ old_files left (next_file_in a k) ++ n ∷ [])
      → files_along (next_file_in b) (suc left) k ≡ old_files (suc left) k ++ n ∷ []
  unfolding files_along
  links_step left k inside is short more = by_test (next_file_in a k == 0) refl is short
    where
      by_test : (t : Bool) → (next_file_in a k == 0) ≡ t → get_or (k ∷ (if t then [] else old_files left (next_file_in a k))) (length (k ∷ (if t then [] else old_files left (next_file_in a k))) - 1) d ≡ last
          → length (k ∷ (if t then [] else old_files left (next_file_in a k))) ≤ suc left
          → k ∷ (if next_file_in b k == 0 then [] else files_along (next_file_in b) left (next_file_in b k)) ≡ (k ∷ (if t then [] else old_files left (next_file_in a k))) ++ n ∷ []
      by_test true e at fits =
          ap (λ (m : ℕ). k ∷ (if m == 0 then [] else files_along (next_file_in b) left m)) (ap (next_file_in b) at ∙ names)
          ∙ ap (λ (t : Bool). k ∷ (if t then [] else files_along (next_file_in b) left n)) new_some ∙ ap (λ (l : List ℕ). k ∷ l) (new_links left)
      by_test false e at fits =
          ap (λ (m : ℕ). k ∷ (if m == 0 then [] else files_along (next_file_in b) left m)) (nexts k (inside k (first_along (next_file_in a) (suc left) k)) (not_last k e))
          ∙ ap (λ (t : Bool). k ∷ (if t then [] else files_along (next_file_in b) left (next_file_in a k))) e
          ∙ ap (λ (l : List ℕ). k ∷ l)
          (more (λ m among. inside m (later_along (next_file_in a) left k m e among)) (sym (last_behind k d (old_files left (next_file_in a k)) (some_along (next_file_in a) left (next_file_in a k))) ∙ at) (omega arith))

  -- the links, with the new file at their end
  pub links_added : (left k : ℕ) → IsInside left k → LastIs left k → length (old_files left k) ≤ left → files_along (next_file_in b) left k ≡ old_files left k ++ n ∷ []
  unfolding files_along
  links_added zero k inside is short = absurd (omega arith)
  links_added (suc left) k inside is short = links_step left k inside is short (links_added left (next_file_in a k))

  checks_step : (left k : ℕ) (met met2 : List ℕ) → Same a b Old heads kind met met2 → IsInside (suc left) k → is_among met2 n ≡ false → LastIs (suc left) k → length (old_files (suc left) k) ≤ suc left
      → (IsInside left (next_file_in a k) → is_among (met2 ++ k ∷ []) n ≡ false → LastIs left (next_file_in a k) → length (old_files left (next_file_in a k)) ≤ left → first_of (checks_along a kind (met ++ k ∷ []) left (next_file_in a k)) ≡ None → first_of (checks_along b kind (met2 ++ k ∷ []) left (next_file_in a k)) ≡ None)
      → first_of (checks_along a kind met (suc left) k) ≡ None → first_of (checks_along b kind met2 (suc left) k) ≡ None
  unfolding checks_along files_along
  checks_step left k met met2 same inside fresh is short more none = by_test (next_file_in a k == 0) refl is short
    where
      there : Old k ≡ true
      there = inside k (first_along (next_file_in a) (suc left) k)

      other : (k == n) ≡ false
      other = let differs = apart k there in grind (arith, nat_tests)

      fresh_more : is_among (met2 ++ k ∷ []) n ≡ false
      fresh_more = is_among_more met2 k n ∙ rw (fresh, other) refl

      by_test : (t : Bool) → (next_file_in a k == 0) ≡ t → get_or (k ∷ (if t then [] else old_files left (next_file_in a k))) (length (k ∷ (if t then [] else old_files left (next_file_in a k))) - 1) d ≡ last
          → length (k ∷ (if t then [] else old_files left (next_file_in a k))) ≤ suc left → first_of (checks_along b kind met2 (suc left) k) ≡ None
      by_test true e at fits =
          let next : next_file_in b k ≡ n = ap (next_file_in b) at ∙ names in
          let parts = none_parts (file_checks kind (met ++ k ∷ []) (suc left) k (byte a (Block k)) (length_of a (Block k))) (if next_file_in a k == 0 then [] else checks_along a kind (met ++ k ∷ []) left (next_file_in a k)) none in
          none_both (file_checks kind (met2 ++ k ∷ []) (suc left) k (byte b (Block k)) (length_of b (Block k))) (if next_file_in b k == 0 then [] else checks_along b kind (met2 ++ k ∷ []) left (next_file_in b k))
          (kept_file a b k kind (met ++ k ∷ []) (met2 ++ k ∷ []) (suc left) (suc left) (heads k there)
          (subst (λ (m : ℕ). is_link (met2 ++ k ∷ []) (suc left) m ≡ true) (sym next) (link_new (met2 ++ k ∷ []) left n from_first below fresh_more)) parts.0)
          (subst (λ (m : ℕ). first_of (if m == 0 then [] else checks_along b kind (met2 ++ k ∷ []) left m) ≡ None) (sym next)
          (ap (λ (t : Bool). first_of (if t then [] else checks_along b kind (met2 ++ k ∷ []) left n)) new_some ∙ new_checks left (met2 ++ k ∷ [])))
      by_test false e at fits =
          step_kept a b Old heads kind left k met met2 same inside (nexts k there (not_last k e))
          (λ behind some rest. more behind fresh_more (sym (last_behind k d (old_files left (next_file_in a k)) (some_along (next_file_in a) left (next_file_in a k))) ∙ at) (omega arith) rest) none

  -- the checks of its files, the new one among them
  pub checks_added : (left k : ℕ) (met met2 : List ℕ) → Same a b Old heads kind met met2 → IsInside left k → is_among met2 n ≡ false → LastIs left k → length (old_files left k) ≤ left
      → first_of (checks_along a kind met left k) ≡ None → first_of (checks_along b kind met2 left k) ≡ None
  unfolding files_along
  checks_added zero k met met2 same inside fresh is short none = absurd (omega arith)
  checks_added (suc left) k met met2 same inside fresh is short none =
      checks_step left k met met2 same inside fresh is short
      (λ behind fresh2 is2 short2 rest. checks_added left (next_file_in a k) (met ++ k ∷ []) (met2 ++ k ∷ []) (same_more a b Old heads kind met met2 k same) behind fresh2 is2 short2 rest) none
