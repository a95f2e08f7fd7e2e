-- A layout that is given by a list of what lies at its nodes: what lies at a node, and whose a used block is, is looked up there.
use Rattle.std.proofs.Common.{◌≡◌, ℕ, List, [], ◌∷◌, refl, ap, sym, ◌∙◌, subst, Bool, true, false, Option, Some, None}
use Rattle.std.specs.Prelude.{if◌then◌else◌, ◌==◌, ◌||◌, is_some}
use Rattle.std.specs.List.{AllByRecursion}
use Rattle.std.proofs.lemmas.Bool.{eqb-true}
use Rattle.blk_model.specs.Items.{Item, same_item}
use Rattle.blk_model.proofs.Same.{one_item}
use Rattle.spec_format.specs.BlockFiles.{is_among}
use Rattle.spec_format.specs.Claims.{Claim, has_claim, repeats}
use Rattle.spec_folder.specs.Layout.{is_in}
use Rattle.spec_folder.specs.Loads.{Loaded, all_claims, claims_of_loaded}
use Rattle.law_folder.proofs.claims.ClaimLists.{no-claim}
use Rattle.law_folder.proofs.states.Laid.{repeats-tail}
use Rattle.law_folder.proofs.states.Marking.{repeats-apart}
use Rattle.law_folder.proofs.walks.Shown.{has_claim-append}

-- what lies at a node
abbrev pub at_in : List Loaded → ℕ → Option Loaded
at_in [] w = None
at_in (l ∷ ls) w = if w == l.node then Some l else at_in ls w

-- the node that a used block belongs to
abbrev pub owner_in : List Loaded → Claim → Option ℕ
owner_in [] claim = None
owner_in (l ∷ ls) claim = if has_claim (all_claims l) claim then Some l.node else owner_in ls claim

-- what holds of each in the list holds of what lies at a node
pub looked : (P : ℕ → Loaded → Type 0) (ls : List Loaded) → AllByRecursion (λ l. P l.node l) ls → (w : ℕ) (l : Loaded) → at_in ls w ≡ Some l → P w l
looked P [] all w l is = absurd (cc)
looked P (k ∷ ks) all w l is = go (w == k.node) refl is (looked P ks all.1 w l) where
  go : (t : Bool) → (w == k.node) ≡ t → (if t then Some k else at_in ks w) ≡ Some l → (at_in ks w ≡ Some l → P w l) → P w l
  go true e is later = let s : k ≡ l = cc in subst (λ (x : ℕ). P x l) (sym (eqb-true w k.node e)) (subst (P k.node) s all.0)
  go false e is later = later is

-- what uses a block, among those of the list
pub record IsClaimant (Q : ℕ → Loaded → Type 0) (claim : Claim) (w : ℕ) : Type 0 where
  pub loaded : Loaded
  pub holds : Q w loaded
  pub claims : has_claim (all_claims loaded) claim ≡ true

-- an owner uses the block, and what holds of each in the list holds of it
pub claimant : (Q : ℕ → Loaded → Type 0) (ls : List Loaded) → AllByRecursion (λ l. Q l.node l) ls → (claim : Claim) (w : ℕ) → owner_in ls claim ≡ Some w → IsClaimant Q claim w
claimant Q [] all claim w is = absurd (cc)
claimant Q (k ∷ ks) all claim w is = go (has_claim (all_claims k) claim) refl is (claimant Q ks all.1 claim w) where
  go : (t : Bool) → has_claim (all_claims k) claim ≡ t → (if t then Some k.node else owner_in ks claim) ≡ Some w → (owner_in ks claim ≡ Some w → IsClaimant Q claim w) → IsClaimant Q claim w
  go true e is later = let s : k.node ≡ w = cc in record { loaded = k; holds = subst (λ (x : ℕ). Q x k) s all.0; claims = e }
  go false e is later = later is

-- what lies at a node has its used blocks among those of the list
claims-in : (ls : List Loaded) (w : ℕ) (l : Loaded) (claim : Claim) → at_in ls w ≡ Some l → has_claim (all_claims l) claim ≡ true → has_claim (claims_of_loaded ls) claim ≡ true
claims-in [] w l claim is has = absurd (cc)
claims-in (k ∷ ks) w l claim is has = has_claim-append (all_claims k) (claims_of_loaded ks) claim ∙ go (w == k.node) is (claims-in ks w l claim) where
  or-true : (b : Bool) → (b || true) ≡ true
  or-true true = refl
  or-true false = refl

  go : (t : Bool) → (if t then Some k else at_in ks w) ≡ Some l → (at_in ks w ≡ Some l → has_claim (all_claims l) claim ≡ true → has_claim (claims_of_loaded ks) claim ≡ true) → (has_claim (all_claims k) claim || has_claim (claims_of_loaded ks) claim) ≡ true
  go true is later = let s : k ≡ l = cc in let mine : has_claim (all_claims k) claim ≡ true = subst (λ (x : Loaded). has_claim (all_claims x) claim ≡ true) (sym s) has in rw mine refl
  go false is later = rw (later is has) (or-true (has_claim (all_claims k) claim))

-- where no used block is there twice, what uses it is the owner
pub own-in : (ls : List Loaded) → repeats (claims_of_loaded ls) ≡ false → (w : ℕ) (l : Loaded) (claim : Claim) → at_in ls w ≡ Some l → has_claim (all_claims l) claim ≡ true → owner_in ls claim ≡ Some w
own-in [] once w l claim is has = absurd (cc)
own-in (k ∷ ks) once w l claim is has = go (w == k.node) refl is (own-in ks (repeats-tail (all_claims k) (claims_of_loaded ks) once) w l claim) where
  other's : at_in ks w ≡ Some l → (t : Bool) → has_claim (all_claims k) claim ≡ t → t ≡ false
  other's is true mine = let none : has_claim (claims_of_loaded ks) claim ≡ false = repeats-apart (all_claims k) (claims_of_loaded ks) claim once mine in let c : true ≡ false = sym (claims-in ks w l claim is has) ∙ none in absurd (cc)
  other's is false mine = refl

  go : (t : Bool) → (w == k.node) ≡ t → (if t then Some k else at_in ks w) ≡ Some l → (at_in ks w ≡ Some l → has_claim (all_claims l) claim ≡ true → owner_in ks claim ≡ Some w) → (if has_claim (all_claims k) claim then Some k.node else owner_in ks claim) ≡ Some w
  go true e is later = let s : k ≡ l = cc in let mine : has_claim (all_claims k) claim ≡ true = subst (λ (x : Loaded). has_claim (all_claims x) claim ≡ true) (sym s) has in rw mine (ap (λ (x : ℕ). Some x) (sym (eqb-true w k.node e)))
  go false e is later = let none : has_claim (all_claims k) claim ≡ false = other's is (has_claim (all_claims k) claim) refl in rw none (later is has)

-- a used block has an owner exactly where it is among those of the list
pub is-owned : (ls : List Loaded) (claim : Claim) → is_some (owner_in ls claim) ≡ has_claim (claims_of_loaded ls) claim
is-owned [] claim = sym (no-claim claim)
is-owned (k ∷ ks) claim = go (has_claim (all_claims k) claim) (is-owned ks claim) ∙ sym (has_claim-append (all_claims k) (claims_of_loaded ks) claim) where
  go : (t : Bool) → is_some (owner_in ks claim) ≡ has_claim (claims_of_loaded ks) claim → is_some (if t then Some k.node else owner_in ks claim) ≡ (t || has_claim (claims_of_loaded ks) claim)
  go true later = refl
  go false later = later

-- what holds of each item in a list holds of one that is in it
pub each-item : (P : Item → Type 0) (items : List Item) → AllByRecursion P items → (item : Item) → is_in items item ≡ true → P item
each-item P [] all item h = absurd (let z : false ≡ true = h in cc)
each-item P (x ∷ xs) all item h = go (same_item item x) refl h (each-item P xs all.1 item) where
  go : (t : Bool) → same_item item x ≡ t → (t || is_in xs item) ≡ true → (is_in xs item ≡ true → P item) → P item
  go true e h later = subst P (sym (one_item item x e)) all.0
  go false e h later = later h

-- what holds of each word in a list holds of one that is among them
pub each-word : (P : ℕ → Type 0) (words : List ℕ) → AllByRecursion P words → (w : ℕ) → is_among words w ≡ true → P w
each-word P [] all w h = absurd (let z : false ≡ true = h in cc)
each-word P (x ∷ xs) all w h = go (x == w) refl h (each-word P xs all.1 w) where
  go : (t : Bool) → (x == w) ≡ t → (t || is_among xs w) ≡ true → (is_among xs w ≡ true → P w) → P w
  go true e h later = subst P (eqb-true x w e) all.0
  go false e h later = later h
