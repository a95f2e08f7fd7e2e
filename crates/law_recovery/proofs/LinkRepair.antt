-- All links repaired, at each of their words.
use Rattle.std.proofs.Common.{◌≡◌, ℕ, Bool, true, false, List, [], ◌∷◌, refl, sym, ap, ◌∙◌, subst, ⊎_elim}
use Rattle.std.specs.Prelude.{map}
use Rattle.std.specs.List.{filter}
use Rattle.std.proofs.lemmas.Bool.{cases_Bool}
use Rattle.spec_image.specs.Image.{Image}
use Rattle.spec_image.specs.Steps.{after}
use Rattle.std.proofs.Common.{take, drop, refl}
use Rattle.std.proofs.lemmas.List.{take-append-drop}
use Rattle.spec_image.specs.Steps.{TrailStep}
use Rattle.spec_image.specs.Told.{Along}
use Rattle.spec_image.proofs.Runs.{along_prefix}
use Rattle.spec_image.proofs.Cuts.{after-append}
use Rattle.spec_image.proofs.Runs.{until-append, until_weaker2, until_last}
use Rattle.spec_format.specs.BlockFiles.{IsWellFormed}
use Rattle.spec_folder.specs.ListView.{ListView}
use Rattle.spec_folder.specs.Walk.{walk}
use Rattle.spec_folder.specs.View.{list_of, store_of}
use Rattle.spec_folder.specs.Chains.{Chain, chain, IsChain}
use Rattle.spec_folder.specs.Loads.{held_rule, Loaded}
use Rattle.spec_folder.specs.Audit.{kept_among}
use Rattle.spec_folder.specs.Found.{kept}
use Rattle.spec_folder.specs.ListView.{IsAtRest}
use Rattle.spec_folder.specs.ListImages.{IsWritable, walked, HasListAtRest}
use Rattle.law_folder.proofs.states.Central.{walk-idle}
use Rattle.law_folder.proofs.states.Bare.{no-record}
use Rattle.law_folder.proofs.chains.Chains.{chain-is}
use Rattle.law_folder.proofs.lists.Walks.{walk_list}
use Rattle.spec_folder.specs.Audit.{kept_nodes}
use Rattle.law_recovery.specs.ListRepair.{list_repair_steps, HoldsTheSame, IsListMended}
use Rattle.law_recovery.specs.ChainRepair.{is_kept_record, kept_records, chain_repair_steps, AreChainsMended}
use Rattle.law_recovery.specs.RecordSeals.{KeepsRecordsSealed}
use Rattle.law_recovery.proofs.RecordSeals.{keeps-more}
use Rattle.law_recovery.specs.MendedLinks.{HasMendedLinks}
use Rattle.law_recovery.specs.LinkRepair.{link_repair_steps, stopped_repair, LinkRepairsMayBeStopped, LinksAreRepaired, MendedChainsAreMendedLinks}
use Rattle.law_recovery.proofs.ChainRepair.{chains-repaired}
use Rattle.law_folder.proofs.walks.Kept.{kept-nodes}
use Rattle.law_recovery.proofs.ListRepair.{holds-trans, lists-repaired}

filter-again : (test : ℕ → Bool) (xs : List ℕ) → filter test (filter test xs) ≡ filter test xs
filter-again test [] = refl
filter-again test (x ∷ xs) = ⊎_elim (λ (e : test x ≡ true). rw e (rw e (ap (λ (ys : List ℕ). x ∷ ys) (filter-again test xs)))) (λ (e : test x ≡ false). rw e (filter-again test xs)) (cases_Bool (test x))

-- a whole chain of the kept records is that of the kept records
pub records-still : (from image : Image) (bucket : ℕ) → kept image ≡ kept from → IsChain (store_of image) bucket (kept_records from bucket) → kept_records image bucket ≡ kept_records from bucket
unfolding kept_records
records-still from image bucket keeps is =
    let reached : (chain (store_of image) bucket).reached ≡ filter (is_kept_record (kept from)) (chain (store_of from) bucket).reached = ap (λ (c : Chain). c.reached) (chain-is (store_of image) bucket (kept_records from bucket) (no-record image) is) in
    ap (λ (ks : List Loaded). filter (is_kept_record ks) (chain (store_of image) bucket).reached) keeps ∙ ap (filter (is_kept_record (kept from))) reached ∙ filter-again (is_kept_record (kept from)) (chain (store_of from) bucket).reached

rests-list : (l k : ListView) → k ≡ l → IsAtRest l (walk l) → IsAtRest k (walk k)
rests-list l k e rest = subst (λ (v : ListView). IsAtRest v (walk v)) (sym e) rest

-- where the list is idle, what is kept is what is kept of its nodes
pub rest-kept : (image : Image) (nodes : List ℕ) → HasListAtRest nodes image → kept image ≡ kept_among (store_of image) held_rule (walked image)
unfolding kept
rest-kept image nodes rest = ap (kept_among (store_of image) held_rule) (walk-idle (list_of image) rest.idle)

-- where the links are repaired, the kept nodes are the walked ones
pub kept-walked : (image : Image) → HasMendedLinks image → map (λ (k : Loaded). k.node) (kept image) ≡ walked image
kept-walked image mended = ap (map (λ (k : Loaded). k.node)) (rest-kept image (walked image) mended.rests) ∙ kept-nodes (store_of image) held_rule (walked image) mended.rests.whole.distinct ∙ mended.all_kept

module _ (image mid last : Image) (list_mended : IsListMended image mid) (holds_last : HoldsTheSame mid last) (chained : AreChainsMended mid last) where
  walks-mid : walked mid ≡ map (λ (k : Loaded). k.node) (kept image)
  walks-mid = walk_list (list_of mid) (map (λ (k : Loaded). k.node) (kept image)) list_mended.rests.whole

  rest-mid : HasListAtRest (walked mid) mid
  rest-mid = subst (λ (ns : List ℕ). HasListAtRest ns mid) (sym walks-mid) list_mended.rests

  rest-last : HasListAtRest (walked last) last
  rest-last = rests-list (list_of mid) (list_of last) chained.list rest-mid

  all-last : kept_nodes (store_of last) held_rule (walked last) ≡ walked last
  all-last =
      sym (kept-nodes (store_of last) held_rule (walked last) rest-last.whole.distinct) ∙ ap (map (λ (k : Loaded). k.node)) (sym (rest-kept last (walked last) rest-last) ∙ holds_last.kept_same ∙ rest-kept mid (walked mid) rest-mid)
      ∙ kept-nodes (store_of mid) held_rule (walked mid) rest-mid.whole.distinct ∙ list_mended.all_kept ∙ sym (ap walk chained.list)

  links-mended : HasMendedLinks last
  links-mended = record {
    well_formed = holds_last.well_formed;
    rests = rest-last;
    all_kept = all-last;
    chains = λ bucket below. subst (IsChain (store_of last) bucket) (sym (records-still mid last bucket holds_last.kept_same (chained.chains bucket below))) (chained.chains bucket below);
  }

pub chains-links : MendedChainsAreMendedLinks
chains-links image between last holds list_mended holds_last chained = links-mended image between last list_mended holds_last chained

pub links-repaired : LinksAreRepaired
links-repaired image well ready =
    let H : Image → Type 0 = HoldsTheSame image in
    let first = lists-repaired image well ready in
    let mid : Image = after (list_repair_steps image) image in
    let holds : HoldsTheSame image mid = until_last H H (list_repair_steps image) image first.0 in
    let second = chains-repaired mid holds.well_formed holds.writable (record { idle = first.1.rests.idle; all_kept = first.1.all_kept }) in
    let last : Image = after (chain_repair_steps mid) mid in
    let M : Image → Type 0 = HoldsTheSame mid in
    let holds_last : HoldsTheSame mid last = until_last M M (chain_repair_steps mid) mid second.0 in
    let along = until_weaker2 M H M H (chain_repair_steps mid) mid (λ i. holds-trans image mid i holds) (λ i. holds-trans image mid i holds) second.0 in (
      until-append H H (list_repair_steps image) (chain_repair_steps mid) image first.0 along,
      subst HasMendedLinks (sym (after-append (list_repair_steps image) (chain_repair_steps mid) image)) (links-mended image mid last first.1 holds_last second.1),
      subst (KeepsRecordsSealed image) (sym (after-append (list_repair_steps image) (chain_repair_steps mid) image)) (keeps-more image mid last first.1.seals second.1.seals),
    )

-- after a prefix of the steps the same is held
prefix-holds : (image : Image) (count : ℕ) → IsWellFormed image → IsWritable image → HoldsTheSame image (after (take count (link_repair_steps image)) image)
prefix-holds image count well ready =
    let steps : List TrailStep = link_repair_steps image in
    along_prefix (HoldsTheSame image) (take count steps) (drop count steps) image (subst (Along (HoldsTheSame image) image) (sym (take-append-drop count steps)) (links-repaired image well ready).0)

pub repairs-stopped : LinkRepairsMayBeStopped
repairs-stopped image [] well ready = record { well_formed = well; writable = ready; kept_same = refl; found_same = refl }
repairs-stopped image (count ∷ counts) well ready =
    let between : Image = after (take count (link_repair_steps image)) image in
    let once : HoldsTheSame image between = prefix-holds image count well ready in
    holds-trans image between (stopped_repair counts between) once (repairs-stopped between counts once.well_formed once.writable)
