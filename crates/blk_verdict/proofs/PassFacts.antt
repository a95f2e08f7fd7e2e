-- What is tried and kept, one node more.
use Rattle.std.proofs.Common.{◌≡◌, ℕ, Bool, true, false, List, [], ◌∷◌, ◌++◌, ◌+◌, take, Some, Result, suc, refl, sym, ap, subst, ◌∙◌, ⊎_elim, arith}
use Rattle.std.specs.Prelude.{slice_get}
use Rattle.std.specs.List.{AllZip}
use Rattle.std.proofs.lemmas.List.{append-nil, append_assoc}
use Rattle.std.proofs.lemmas.Bool.Decides.{eqb_tells}
use Rattle.std.proofs.Math.Dec.{eqb}
use Rattle.spec_image.specs.Image.{Image}
use Rattle.spec_format.specs.BlockFiles.{is_among}
use Rattle.spec_folder.specs.ListImages.{completed_walk}
use Rattle.spec_folder.specs.Completion.{completed_list}
use Rattle.law_folder.proofs.lists.Walked.{walk-once}
use Rattle.law_folder.proofs.walks.Kept.{tried-among}
use Rattle.spec_folder.specs.Audit.{is_child, judged, verdict, verdict_on, verdicts, with_verdict}
use Rattle.spec_folder.specs.Audit as audit
use Rattle.spec_folder.specs.Loads as shown
use Rattle.spec_folder.specs.Loads.{Rule, held_rule}
use Rattle.spec_folder.specs.Reasons as reasons
use Rattle.spec_folder.specs.View.{StoreView, list_of, store_of}
use Rattle.blk_verdict.specs.Kept.{AreShown, HaveKeys, IsSameAnswer}
use Rattle.blk_verdict.specs.Passes.{AreTried, IsAnswered, IsTried, is_of_pass, kept_after, of_pass}
use Rattle.blk_verdict.specs.declared.loading.Loaded.{Loaded}
use Rattle.blk_verdict.specs.declared.passes.Tried.{Tried}
use Rattle.blk_verdict.proofs.ListedFacts.{one_fails, one_more, one_passes}

-- one more at both ends
pub both_more : {A B : Type 0} (R : A → B → Type 0) (xs : List A) (ys : List B) (x : A) (y : B) → AllZip R xs ys → R x y → AllZip R (xs ++ x ∷ []) (ys ++ y ∷ [])
both_more R [] [] x y all one = (one, tt)
both_more R [] (other ∷ ys) x y all one = absurd all
both_more R (other ∷ xs) [] x y all one = absurd all
both_more R (first ∷ xs) (other ∷ ys) x y all one = (all.0, both_more R xs ys x y all.1 one)

module _ (store : StoreView) (rule : Rule) where
  pub kept_more : (kept : List shown.Loaded) (nodes : List ℕ) (node : ℕ) → kept_after store rule kept (nodes ++ node ∷ []) ≡ with_verdict (kept_after store rule kept nodes) (verdict store rule (kept_after store rule kept nodes) node)
  unfolding kept_after
  kept_more kept [] node = refl
  kept_more kept (first ∷ nodes) node = kept_more (with_verdict kept (verdict store rule kept first)) nodes node

  pub verdicts_more : (kept : List shown.Loaded) (nodes : List ℕ) (node : ℕ) → verdicts store rule kept (nodes ++ node ∷ []) ≡ verdicts store rule kept nodes ++ (node, verdict store rule (kept_after store rule kept nodes) node) ∷ []
  unfolding kept_after verdicts
  verdicts_more kept [] node = refl
  verdicts_more kept (first ∷ nodes) node =
      ap (λ (rest : List (ℕ × Result shown.Loaded reasons.Reason)). (first, verdict store rule kept first) ∷ rest) (verdicts_more (with_verdict kept (verdict store rule kept first)) nodes node)

module _ (image : Image) (walked before : List ℕ) (kept : List Loaded) (tried : List Tried) where
  -- one node more
  pub tried_more : (w : ℕ) (more : List Loaded) (one : Tried) → AreTried image walked before kept tried → slice_get walked one.place ≡ Some w
      → IsSameAnswer (verdict (store_of image) held_rule (kept_after (store_of image) held_rule [] before) w) one.reason
      → AreShown image (with_verdict (kept_after (store_of image) held_rule [] before) (verdict (store_of image) held_rule (kept_after (store_of image) held_rule [] before) w)) more
      → AreTried image walked (before ++ w ∷ []) more (tried ++ one ∷ [])
  tried_more w more one are at answer shown_more = record {
    answers = subst (λ (v : List (ℕ × Result shown.Loaded reasons.Reason)). AllZip (IsTried walked) v (tried ++ one ∷ [])) (sym (verdicts_more (store_of image) held_rule [] before w))
        (both_more (IsTried walked) (verdicts (store_of image) held_rule [] before) tried (w, verdict (store_of image) held_rule (kept_after (store_of image) held_rule [] before) w) one are.answers
        (record { node = at; answer = answer }));
    shown = subst (λ (k : List shown.Loaded). AreShown image k more) (sym (kept_more (store_of image) held_rule [] before w)) shown_more;
  }

-- a node that is one of the pass
pub passes : (store : StoreView) (children : Bool) (before : List ℕ) (w : ℕ) → is_of_pass children (is_child store w) ≡ true → before ++ of_pass store children (w ∷ []) ≡ before ++ w ∷ []
passes store children before w e = ap (λ (more : List ℕ). before ++ more) (one_passes (λ node. is_of_pass children (is_child store node)) w e)

-- a node that is none
pub stays_out : (store : StoreView) (children : Bool) (before : List ℕ) (w : ℕ) → is_of_pass children (is_child store w) ≡ false → before ++ of_pass store children (w ∷ []) ≡ before
stays_out store children before w e = ap (λ (more : List ℕ). before ++ more) (one_fails (λ node. is_of_pass children (is_child store node)) w e) ∙ append-nil before

-- the nodes of a pass, one of the walked nodes more
pub next_of_pass : (store : StoreView) (children : Bool) (before nodes : List ℕ) (i w : ℕ) → slice_get nodes i ≡ Some w
    → (before ++ of_pass store children (take i nodes)) ++ of_pass store children (w ∷ []) ≡ before ++ of_pass store children (take (i + 1) nodes)
next_of_pass store children before nodes i w at =
    append_assoc before (of_pass store children (take i nodes)) (of_pass store children (w ∷ []))
    ∙ ap (λ (more : List ℕ). before ++ more) (sym (one_more (λ node. is_of_pass children (is_child store node)) nodes i w at))

-- Before any node is tried.

pub none_tried : (image : Image) (walked : List ℕ) (kept : List Loaded) (tried : List Tried) → kept ≡ [] → tried ≡ [] → AreTried image walked [] kept tried
unfolding kept_after verdicts
none_tried image walked kept tried no_kept no_tried = record {
  answers = subst (λ (ts : List Tried). AllZip (IsTried walked) [] ts) (sym no_tried) tt;
  shown = subst (λ (k : List Loaded). AreShown image [] k) (sym no_kept) tt;
}

pub no_keys : (image : Image) (kept : List Loaded) → kept ≡ [] → HaveKeys image kept
no_keys image kept none = subst (HaveKeys image) (sym none) all_none
  where
    all_none : HaveKeys image []
    all_none k d less = absurd (omega (arith, less))

-- The answer on each node.

pub answered : (store : StoreView) (rule : Rule) (walked : List ℕ) (kept : List shown.Loaded) (nodes : List ℕ) (tried : List Tried) (node : ℕ) → AllZip (IsTried walked) (verdicts store rule kept nodes) tried → is_among nodes node ≡ true
    → IsAnswered walked tried node (verdict_on (verdicts store rule kept nodes) node)
unfolding verdicts
answered store rule walked kept [] tried node all among = absurd (let c : false ≡ true = among in cc)
answered store rule walked kept (first ∷ nodes) [] node all among = absurd all
answered store rule walked kept (first ∷ nodes) (one ∷ tried) node all among = ⊎_elim
    (λ (x : (eqb first node ≡ true) × (first ≡ node)). record {
      turn = 0;
      one = one;
      at = refl;
      here = subst (λ (n : ℕ). slice_get walked one.place ≡ Some n) x.1 all.0.node;
      verdict_is = verdict store rule kept first;
      is = rw x.0 refl;
      answer = all.0.answer;
    })
    (λ (x : (eqb first node ≡ false) × _).
    let more = answered store rule walked (with_verdict kept (verdict store rule kept first)) nodes tried node all.1 (rw x.0 at among) in
    record { turn = suc more.turn; one = more.one; at = more.at; here = more.here; verdict_is = more.verdict_is; is = rw x.0 more.is; answer = more.answer })
    (eqb_tells first node)

pub walked_answered : (image : Image) (kept : List Loaded) (tried : List Tried) (node : ℕ) → AreTried image (completed_walk image) (audit.tried (store_of image) (completed_walk image)) kept tried → is_among (completed_walk image) node ≡ true
    → IsAnswered (completed_walk image) tried node (verdict_on (judged (store_of image) held_rule (completed_walk image)) node)
walked_answered image kept tried node are among =
    answered (store_of image) held_rule (completed_walk image) [] (audit.tried (store_of image) (completed_walk image)) tried node are.answers
    (tried-among (store_of image) (completed_walk image) (walk-once (completed_list (list_of image))) node ∙ among)
