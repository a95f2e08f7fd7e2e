-- No two of the used blocks of a new entry are one.
use Rattle.std.proofs.Common.{◌≡◌, ◌≢◌, ◌⊎◌, ⊎_elim, ℕ, zero, suc, ◌+◌, ◌/◌, ◌<◌, ◌≤◌, true, false, List, [], ◌∷◌, ◌++◌, map, Option, None, Some, unwrap_or, length, refl, sym, ◌∙◌, ap, arith, append-nil}
use Rattle.std.specs.Prelude.{◌==◌}
use Rattle.std.specs.List.{range_with_len}
use Rattle.std.proofs.lemmas.Bool.{and_parts, cases_Bool, eqb-true, or_cases, or_from}
use Rattle.std.proofs.lemmas.Bool.Decides.{nat_tests}
use Rattle.spec_format.specs.Address.{is_address, is_initialized, kind_of, block_count, external, external_number, file_selector, first_block, rankings}
use Rattle.spec_format.specs.Claims.{Claim, BlockOf, ExternalOf, claims_of, has_claim, repeats, same_claim}
use Rattle.spec_folder.specs.Loads.{all_claims, record_claims}
use Rattle.law_folder.proofs.claims.ClaimLists.{claim-append, claim-head, no-claim, repeats-append}
use Rattle.blk_disk.specs.declared.tables.BlockFiles.{BlockFiles}
use Rattle.blk_entry.specs.declared.writing.NewEntry.{NewEntry}
use Rattle.blk_entry.specs.Covering.{NewClaimsAreSingle}
use Rattle.blk_entry.specs.Keys.{IsInside}
use Rattle.blk_entry.specs.Writing.{AreWords, FitsKey, IsLongPlace, LiesApart, address_of_key, before_key, loaded_new}
use Rattle.blk_entry.proofs.NewImages.{long_storage, same_kind}
use Rattle.blk_entry.proofs.NewPlaces.{key_is_inside}
use Rattle.blk_entry.proofs.Windows.{not_external}

-- a used block is one of so many blocks of a file
abbrev IsAmong : ℕ → ℕ → ℕ → Claim → Type 0
IsAmong f first n (BlockOf m b) = (m ≡ f) × ((first ≤ b) × (b < first + n))
IsAmong f first n (ExternalOf m) = ⊥

no : {A : Type 0} → false ≡ true → A
no e = absurd (clash e)
  where
    clash : false ≡ true → ⊥
    clash c = cc

among : (f first n : ℕ) (c : Claim) → has_claim (map (λ b. BlockOf f b) (range_with_len first n)) c ≡ true → IsAmong f first n c
among f first zero c e = no (sym (no-claim c) ∙ e)
among f first (suc n) c e =
    ⊎_elim (here c) (λ (rest : has_claim (map (λ b. BlockOf f b) (range_with_len (first + 1) n)) c ≡ true). wider c (among f (first + 1) n c rest))
    (or_cases (same_claim c (BlockOf f first)) (has_claim (map (λ b. BlockOf f b) (range_with_len (first + 1) n)) c) (sym (claim-head (BlockOf f first) (map (λ b. BlockOf f b) (range_with_len (first + 1) n)) c) ∙ e))
  where
    here : (c : Claim) → same_claim c (BlockOf f first) ≡ true → IsAmong f first (suc n) c
    here (BlockOf m b) e = let p = and_parts (m == f) (b == first) e in let s : b ≡ first = eqb-true b first p.1 in (eqb-true m f p.0, (omega (arith, s), omega (arith, s)))
    here (ExternalOf m) e = no e

    wider : (c : Claim) → IsAmong f (first + 1) n c → IsAmong f first (suc n) c
    wider (BlockOf m b) is = let low = is.1 in let high = is.1.1 in (is.0, (omega (arith, low), omega (arith, high)))
    wider (ExternalOf m) is = is

once : (f first n : ℕ) → repeats (map (λ b. BlockOf f b) (range_with_len first n)) ≡ false
unfolding repeats
once f first zero = refl
once f first (suc n) =
    or_from (has_claim (map (λ b. BlockOf f b) (range_with_len (first + 1) n)) (BlockOf f first)) (repeats (map (λ b. BlockOf f b) (range_with_len (first + 1) n)))
    (⊎_elim (λ (e : has_claim (map (λ b. BlockOf f b) (range_with_len (first + 1) n)) (BlockOf f first) ≡ true). let is = among f (first + 1) n (BlockOf f first) e in let low = is.1 in absurd (omega (arith, low)))
    (λ (e : has_claim (map (λ b. BlockOf f b) (range_with_len (first + 1) n)) (BlockOf f first) ≡ false). e)
    (cases_Bool (has_claim (map (λ b. BlockOf f b) (range_with_len (first + 1) n)) (BlockOf f first))))
    (once f (first + 1) n)

repeats_none : repeats [] ≡ false
unfolding repeats
repeats_none = refl

one_once : (c : Claim) → repeats (c ∷ []) ≡ false
unfolding repeats has_claim
one_once c = refl

address_some : (w : ℕ) → is_address w ≡ true → (w == 0) ≡ false
unfolding is_address is_initialized
address_some w address =
    let q : w / 2147483648 ≡ 1 = eqb-true _ _ (and_parts _ _ address).0 in
    let apart : w ≢ 0 = (λ z. omega (arith, q, z)) in
    grind (arith, nat_tests)

claims_are : (w : ℕ) → is_address w ≡ true → kind_of w ≢ external → claims_of w ≡ map (λ b. BlockOf (file_selector w) b) (range_with_len (first_block w) (block_count w))
unfolding claims_of
claims_are w address block_kind = let k : (kind_of w == external) ≡ false = grind (arith, nat_tests) in rw (address_some w address, k) refl

external_claims : (w : ℕ) → is_address w ≡ true → kind_of w ≡ external → claims_of w ≡ ExternalOf (external_number w) ∷ []
unfolding claims_of
external_claims w address is = rw (address_some w address, is) refl

no_claims : claims_of 0 ≡ []
unfolding claims_of
no_claims = refl

block_claim : (w : ℕ) (c : Claim) → is_address w ≡ true → kind_of w ≢ external → has_claim (claims_of w) c ≡ true → IsAmong (file_selector w) (first_block w) (block_count w) c
block_claim w c address block_kind e = among (file_selector w) (first_block w) (block_count w) c (ap (λ (l : List Claim). has_claim l c) (sym (claims_are w address block_kind)) ∙ e)

block_once : (w : ℕ) → is_address w ≡ true → kind_of w ≢ external → repeats (claims_of w) ≡ false
block_once w address block_kind = ap repeats (claims_are w address block_kind) ∙ once (file_selector w) (first_block w) (block_count w)

-- blocks of two addresses
apart_blocks : (f first n g start m : ℕ) (c : Claim) → IsAmong f first n c → IsAmong g start m c → (f ≡ g → (first + n ≤ start) ⊎ (start + m ≤ first)) → ⊥
apart_blocks f first n g start m (BlockOf k b) one other apart =
    let low = one.1.0 in let high = one.1.1 in let low2 = other.1.0 in let high2 = other.1.1 in
    ⊎_elim (λ (e : first + n ≤ start). omega (arith, e, high, low2)) (λ (e : start + m ≤ first). omega (arith, e, low, high2)) (apart (sym one.0 ∙ other.0))
apart_blocks f first n g start m (ExternalOf k) one other apart = one

-- a block is no external file
apart_external : (f first n k : ℕ) (c : Claim) → IsAmong f first n c → has_claim (ExternalOf k ∷ []) c ≡ true → ⊥
unfolding has_claim
apart_external f first n k (BlockOf m b) one e = no e
apart_external f first n k (ExternalOf m) one e = one

module _ (files : BlockFiles) (new : NewEntry) (key : List ℕ) (fits : FitsKey files new key) (lies : LiesApart new.entry new.long_key) (are : AreWords new) where
  node_blocky : kind_of new.node ≢ external
  node_blocky e = let z : ◌≡◌ {A = ℕ} 1 0 = sym fits.node_kind ∙ e in cc

  entry_blocky : kind_of new.entry ≢ external
  entry_blocky = not_external new.entry fits.entry_kind

  -- what is known of the used blocks of the long key
  pub long_known : (repeats (claims_of (unwrap_or new.long_key 0)) ≡ false) × (((c : Claim) → has_claim (claims_of new.entry) c ≡ true → has_claim (claims_of (unwrap_or new.long_key 0)) c ≡ true → ⊥) × ((c : Claim) → has_claim (claims_of new.node) c ≡ true → has_claim (claims_of (unwrap_or new.long_key 0)) c ≡ true → ⊥))
  long_known = by_place new.long_key fits.long lies (key_is_inside files new key fits)
    where
      by_place : (o : Option ℕ) → IsLongPlace files (length key) o → LiesApart new.entry o → IsInside files (address_of_key new.entry o) (before_key o) (length key + 1)
          → (repeats (claims_of (unwrap_or o 0)) ≡ false) × (((c : Claim) → has_claim (claims_of new.entry) c ≡ true → has_claim (claims_of (unwrap_or o 0)) c ≡ true → ⊥) × ((c : Claim) → has_claim (claims_of new.node) c ≡ true → has_claim (claims_of (unwrap_or o 0)) c ≡ true → ⊥))
      by_place None is apart inside = (ap repeats no_claims ∙ none_once, (λ c a b. never c b, λ c a b. never c b))
        where
          none_once : repeats [] ≡ false
          none_once = repeats_none

          never : (c : Claim) → has_claim (claims_of 0) c ≡ true → ⊥
          never c e = no (sym (no-claim c) ∙ ap (λ (l : List Claim). has_claim l c) (sym no_claims) ∙ e)
      by_place (Some w) is apart inside =
          ⊎_elim
          (λ (e : (kind_of w == external) ≡ true).
          let x : kind_of w ≡ external = eqb-true (kind_of w) external e in
          let claims = external_claims w address x in (
            ap repeats claims ∙ one_once (ExternalOf (external_number w)),
            (
              λ c a b. apart_external (file_selector new.entry) (first_block new.entry) (block_count new.entry) (external_number w) c (block_claim new.entry c are.entry entry_blocky a) (ap (λ (l : List Claim). has_claim l c) (sym claims) ∙ b),
              λ c a b. apart_external (file_selector new.node) (first_block new.node) (block_count new.node) (external_number w) c (block_claim new.node c are.node node_blocky a) (ap (λ (l : List Claim). has_claim l c) (sym claims) ∙ b),
            ),
          ))
          (λ (e : (kind_of w == external) ≡ false).
          let block_kind : kind_of w ≢ external = (λ same. let z : (kind_of w == external) ≡ true = grind (arith, nat_tests) in let y : true ≡ false = sym z ∙ e in cc) in (
            block_once w address block_kind,
            (
              λ c a b. apart_blocks (file_selector new.entry) (first_block new.entry) (block_count new.entry) (file_selector w) (first_block w) (block_count w) c (block_claim new.entry c are.entry entry_blocky a) (block_claim w c address block_kind b) (apart block_kind),
              λ c a b. apart_blocks (file_selector new.node) (first_block new.node) (block_count new.node) (file_selector w) (first_block w) (block_count w) c (block_claim new.node c are.node node_blocky a) (block_claim w c address block_kind b)
                  (λ same. absurd (storage.1 (sym (same_kind files new.node w fits.node_stands (inside.stands block_kind) same) ∙ fits.node_kind))),
            ),
          ))
          (cases_Bool (kind_of w == external))
        where
          storage : (is_address w ≡ true) × (kind_of w ≢ rankings)
          storage = long_storage files new key 0 fits w is.1

          address : is_address w ≡ true
          address = storage.0

  node_entry : (c : Claim) → has_claim (claims_of new.node) c ≡ true → has_claim (claims_of new.entry) c ≡ true → ⊥
  node_entry c a b =
      apart_blocks (file_selector new.node) (first_block new.node) (block_count new.node) (file_selector new.entry) (first_block new.entry) (block_count new.entry) c (block_claim new.node c are.node node_blocky a) (block_claim new.entry c are.entry entry_blocky b)
      (λ same. absurd (let z : ◌≡◌ {A = ℕ} 1 2 = sym fits.node_kind ∙ same_kind files new.node new.entry fits.node_stands fits.entry_stands same ∙ fits.entry_kind in cc))

  all_are : all_claims (loaded_new new key) ≡ claims_of new.node ++ (claims_of new.entry ++ claims_of (unwrap_or new.long_key 0))
  unfolding all_claims record_claims claims_of
  all_are = ap (λ (l : List Claim). claims_of new.node ++ (claims_of new.entry ++ l)) (append-nil (claims_of (unwrap_or new.long_key 0)))

  single : repeats (all_claims (loaded_new new key)) ≡ false
  single =
      let l : List Claim = claims_of (unwrap_or new.long_key 0) in
      ap repeats all_are
      ∙ repeats-append (claims_of new.node) (claims_of new.entry ++ l) (block_once new.node are.node node_blocky)
      (repeats-append (claims_of new.entry) l (block_once new.entry are.entry entry_blocky) long_known.0 long_known.1.0)
      (λ c a b. ⊎_elim (node_entry c a) (long_known.1.1 c a) (or_cases (has_claim (claims_of new.entry) c) (has_claim l c) (sym (claim-append (claims_of new.entry) l c) ∙ b)))

pub new-claims-single : NewClaimsAreSingle
new-claims-single files new key fits lies are = single files new key fits lies are
