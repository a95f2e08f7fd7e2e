use Rattle.std.proofs.Common.{◌≡◌, ◌∙◌, ◌++◌, ◌∷◌, [], List, ℕ, Bool, true, false, if◌then◌else◌, sym, ap, map, subst}
use Rattle.std.proofs.lemmas.List.{append-nil, map-append}
use Rattle.std.proofs.lemmas.List.Concat.{flat_map-append}
use Rattle.spec_format.specs.Claims.{claims_of_all, repeats}
use Rattle.blk_addr.specs.Claims.{IsClaimsOf}
use Rattle.blk_addr.specs.declared.claim_set.Claims.{Claims}
use Rattle.blk_addr.proofs.ClaimGroupLemmas.{free-behind}
use Rattle.blk_verdict.specs.ByHash.{IsByHash}
use Rattle.blk_verdict.specs.Kept.{addresses_of, addresses_of_all}
use Rattle.blk_verdict.specs.declared.loading.Loaded.{Loaded}
use Rattle.blk_verdict.proofs.kept.KeptSoFar.keep.Goals as goal

-- the addresses of one more kept record were added
joined : (new : Claims) (kept : List Loaded) (one : Loaded) (addrs : List ℕ) (added : Bool) → added ≡ true → addrs ≡ addresses_of one → IsClaimsOf new (addresses_of_all kept ++ (if added then addrs else [])) → IsClaimsOf new (addresses_of_all (kept ++ one ∷ []))
joined new kept one addrs added joins are is =
    subst (IsClaimsOf new)
    (ap (λ (b : Bool). addresses_of_all kept ++ (if b then addrs else [])) joins
    ∙ ap (λ (l : List ℕ). addresses_of_all kept ++ l) (are ∙ sym (append-nil (addresses_of one)))
    ∙ sym (flat_map-append addresses_of kept (one ∷ [])))
    is

pub returns-clause-indexed : goal.returns-clause-indexed
returns-clause-indexed c indexed once =
    let addrs : c.as_slice.result.now ≡ addresses_of c.args.loaded = c.as_slice.ensures ∙ c.of-owned.ensures in
    let free = free-behind c.args.self.now.claims (addresses_of_all c.args.self.now.kept.items) c.as_slice.result.now indexed.claims
    (subst (λ (l : List ℕ). repeats (claims_of_all (addresses_of_all c.args.self.now.kept.items ++ l)) ≡ false) (sym addrs) once) in
    record {
      claims = subst (λ (items : List Loaded). IsClaimsOf c.add_all.new.self (addresses_of_all items)) (sym c.in_ok-push.ensures.items)
          (joined c.add_all.new.self c.args.self.now.kept.items c.args.loaded c.as_slice.result.now c.in_ok-add_all.field-0 (c.in_ok-add_all.ensures.told ∙ free) addrs
          (c.in_ok-add_all.ensures.listed (addresses_of_all c.args.self.now.kept.items) indexed.claims));
      by_hash = subst (IsByHash c.add.new.self) (sym (ap (map (λ (said : Loaded). said.hash)) c.in_ok-push.ensures.items ∙ map-append (λ (said : Loaded). said.hash) c.args.self.now.kept.items (c.args.loaded ∷ [])))
          (c.in_ok-add.ensures (map (λ (said : Loaded). said.hash) c.args.self.now.kept.items) indexed.by_hash);
    }
