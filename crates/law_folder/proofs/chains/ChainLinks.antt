-- A record linked in front of a chain, and the chains of other buckets.
use Rattle.std.proofs.Common.{◌≡◌, ℕ, zero, suc, ◌^◌, false, List, [], ◌∷◌, ◌++◌, map, refl, ap, sym, ◌∙◌, subst}
use Rattle.std.specs.Prelude.{◌==◌, if◌then◌else◌}
use Rattle.std.proofs.lemmas.Bool.{or_parts}
use Rattle.spec_format.specs.BlockFiles.{is_among}
use Rattle.spec_folder.specs.ListView.{put, Distinct}
use Rattle.spec_folder.specs.View.{StoreView}
use Rattle.spec_folder.specs.Chains.{Chain, chain_from, is_reached, file_and_block, Linked}
use Rattle.law_folder.specs.ListLaws.{RecordsAreLinkedInFront, OtherChainsStay, FirstRecordsLeaveChains, LaterRecordsLeaveChains}
use Rattle.law_folder.proofs.states.Changing.{at-itself, at-elsewhere}
use Rattle.law_folder.proofs.commands.Creating.{linked-table}
use Rattle.law_folder.proofs.commands.Unlinking.{unlink-first, unlink-behind}

pub linked-front : RecordsAreLinkedInFront
linked-front v b c words is good follows fresh = record {
  linked = (at-itself v.table b c, good, linked-table v (put v.table b c) b (v.chain_next c) words (subst (λ (w : ℕ). Linked v b w words) (sym follows) is.linked));
  once = (fresh, is.once);
}

-- the table is not read along a chain
chain_from-table : (v : StoreView) (t : ℕ → ℕ) (b most : ℕ) (met : List ℕ) (w : ℕ) → chain_from (record v { table = t }) b most met w ≡ chain_from v b most met w
unfolding chain_from
chain_from-table v t b zero met w = refl
chain_from-table v t b (suc most) met w =
    ap (λ (more : Chain). let longer : Chain = record more { reached = w ∷ more.reached } in if is_reached v b met w then longer else record { reached = []; end = w })
    (chain_from-table v t b most (file_and_block w ∷ met) (v.chain_next w))

pub others-stay : OtherChainsStay
others-stay v b other word apart =
    chain_from-table v (put v.table b word) other (2 ^ 24) [] (put v.table b word other) ∙ ap (chain_from v other (2 ^ 24) []) (at-elsewhere v.table b word other apart)

-- ---- records are unlinked

pub first-leaves : FirstRecordsLeaveChains
first-leaves old new b c words same table is = record {
  linked = subst (λ (w : ℕ). Linked new b w words) (sym table) (unlink-first old new b (old.table b) c words same is.linked);
  once = is.once.1;
}

-- no first block occurs twice in less of a list
less-among : (block : ℕ) (prefix : List ℕ) (p c : ℕ) (rest : List ℕ) → is_among (map file_and_block (prefix ++ p ∷ c ∷ rest)) block ≡ false → is_among (map file_and_block (prefix ++ p ∷ rest)) block ≡ false
less-among block [] p c rest h =
    let one = or_parts (file_and_block p == block) (is_among (map file_and_block (c ∷ rest)) block) h in
    let two = or_parts (file_and_block c == block) (is_among (map file_and_block rest) block) one.1 in
    rw (one.0, two.1) refl
less-among block (y ∷ prefix) p c rest h =
    let one = or_parts (file_and_block y == block) (is_among (map file_and_block (prefix ++ p ∷ c ∷ rest)) block) h in
    rw (one.0, less-among block prefix p c rest one.1) refl

once-less : (prefix : List ℕ) (p c : ℕ) (rest : List ℕ) → Distinct (map file_and_block (prefix ++ p ∷ c ∷ rest)) → Distinct (map file_and_block (prefix ++ p ∷ rest))
once-less [] p c rest d = ((or_parts (file_and_block c == file_and_block p) (is_among (map file_and_block rest) (file_and_block p)) d.0).1, d.1.1)
once-less (y ∷ prefix) p c rest d = (less-among (file_and_block y) prefix p c rest d.0, once-less prefix p c rest d.1)

pub later-leaves : LaterRecordsLeaveChains
later-leaves old new b p c prefix suffix bucket before rest link table is = record {
  linked = subst (λ (w : ℕ). Linked new b w (prefix ++ p ∷ suffix)) (sym table) (unlink-behind old new b (old.table b) p c prefix suffix bucket before rest link is.linked);
  once = once-less prefix p c suffix is.once;
}
