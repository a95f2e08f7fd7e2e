-- The durable contents before and after an object is made clean or dirty are picked by it.
use Rattle.std.proofs.Common.{◌≡◌, ◌≢◌, ℕ, ◌<◌, List, length, refl, ap, ◌∙◌, Bool, true, false, cond, set, get_or-set_same, get_or-set_other, Option, Some, None, ⊎_elim}
use Rattle.std.specs.Prelude.{not, ◌&&◌, ◌||◌}
use Rattle.std.specs.Option.{option_and_then}
use Rattle.std.specs.List.{filter_map}
use Rattle.std.proofs.lemmas.Bool.Decides.{eqb_tells}
use Rattle.std.proofs.Math.Dec.{eqb}
use Rattle.blk_model.specs.Items.{Item, Row}
use Rattle.blk_model.specs.State.{State, Object, IsValidState, object_at}
use Rattle.blk_model.specs.Stops.{pick, picked, picked_by, is_live_and_settled, is_live, is_safe, is_turned, differ}
use Rattle.blk_model.proofs.Each.{some_within}
use Rattle.spec_folder.specs.Given.{picked_with}
use Rattle.law_folder.proofs.claims.Owner.{rest-picked}
use Rattle.law_folder.proofs.states.Settling.{owner-same, rows-same}
use Rattle.blk_model.specs.Holding as model

-- the tests of an object that stays as it is
stays : (l s w : Bool) → (l && s) ≡ (((l && s) && ((l && s) || not l)) || (w && (l && l && differ (l && s) (l && s))))
stays true true true = refl
stays true true false = refl
stays true false true = refl
stays true false false = refl
stays false s true = refl
stays false s false = refl

-- the tests of an object that is live and in transition from s to b, where true is clean
before-turn : (s b : Bool) → s ≡ ((s && (b || false)) || ((s && not b) && differ s b))
before-turn true true = refl
before-turn true false = refl
before-turn false true = refl
before-turn false false = refl

after-turn : (s b : Bool) → b ≡ ((s && (b || false)) || ((not s && b) && differ s b))
after-turn true true = refl
after-turn true false = refl
after-turn false true = refl
after-turn false false = refl

module _ (m : State) (valid : IsValidState m) (number : ℕ) (o : Object) (b : Bool) (names : List (Option ℕ)) (here : object_at m number ≡ Some o) (live : o.live ≡ true) where
  at-number : object_at (record m { objects = set m.objects number (Some (record o { settled = b })); names = names }) number ≡ Some (record o { settled = b })
  at-number = let within : number < length m.objects = some_within m.objects number o here in rw get_or-set_same

  at-other : (k : ℕ) → k ≢ number → object_at (record m { objects = set m.objects number (Some (record o { settled = b })); names = names }) k ≡ object_at m k
  at-other k apart = rw get_or-set_other

  -- the tests on each number
  test-before : (k : ℕ) → is_live_and_settled (object_at m k)
      ≡ (is_safe m (record m { objects = set m.objects number (Some (record o { settled = b })); names = names }) k || ((o.settled && not b) && is_turned m (record m { objects = set m.objects number (Some (record o { settled = b })); names = names }) k))
  unfolding is_safe is_turned
  test-before k = ⊎_elim
      (λ (e : (eqb k number ≡ true) × (k ≡ number)). rw (e.1, at-number, here, live) (before-turn o.settled b))
      (λ (e : (eqb k number ≡ false) × (k ≢ number)). rw (at-other k e.1) (go (object_at m k)))
      (eqb_tells k number) where
        go : (x : Option Object) → is_live_and_settled x ≡ ((is_live_and_settled x && (is_live_and_settled x || not (is_live x))) || ((o.settled && not b) && (is_live x && is_live x && differ (is_live_and_settled x) (is_live_and_settled x))))
        go None = stays false false (o.settled && not b)
        go (Some p) = stays p.live p.settled (o.settled && not b)

  test-after : (k : ℕ) → is_live_and_settled (object_at (record m { objects = set m.objects number (Some (record o { settled = b })); names = names }) k)
      ≡ (is_safe m (record m { objects = set m.objects number (Some (record o { settled = b })); names = names }) k || ((not o.settled && b) && is_turned m (record m { objects = set m.objects number (Some (record o { settled = b })); names = names }) k))
  unfolding is_safe is_turned
  test-after k = ⊎_elim
      (λ (e : (eqb k number ≡ true) × (k ≡ number)). rw (e.1, at-number, here, live) (after-turn o.settled b))
      (λ (e : (eqb k number ≡ false) × (k ≢ number)). rw (at-other k e.1) (go (object_at m k)))
      (eqb_tells k number) where
        go : (x : Option Object) → is_live_and_settled x ≡ ((is_live_and_settled x && (is_live_and_settled x || not (is_live x))) || ((not o.settled && b) && (is_live x && is_live x && differ (is_live_and_settled x) (is_live_and_settled x))))
        go None = stays false false (not o.settled && b)
        go (Some p) = stays p.live p.settled (not o.settled && b)

  pub rest-before : model.rest m ≡ pick m (record m { objects = set m.objects number (Some (record o { settled = b })); names = names }) (o.settled && not b) m.uses
  unfolding pick picked picked_by
  rest-before = rest-picked m ∙ ap (λ (t : ℕ → Bool). filter_map (picked_with m t) m.uses) (λ i k. test-before k i)

  pub rest-after : model.rest (record m { objects = set m.objects number (Some (record o { settled = b })); names = names }) ≡ pick m (record m { objects = set m.objects number (Some (record o { settled = b })); names = names }) (not o.settled && b) m.uses
  unfolding pick picked picked_by model.row_of
  rest-after = rest-picked (record m { objects = set m.objects number (Some (record o { settled = b })); names = names })
      ∙ ap (λ (f : Item → Option Row). filter_map f m.uses) (λ i x. same x i)
      ∙ ap (λ (t : ℕ → Bool). filter_map (picked_with m t) m.uses) (λ i k. test-after k i) where
        same : (x : Item) → picked_with (record m { objects = set m.objects number (Some (record o { settled = b })); names = names }) (λ k. is_live_and_settled (object_at (record m { objects = set m.objects number (Some (record o { settled = b })); names = names }) k)) x
            ≡ picked_with m (λ k. is_live_and_settled (object_at (record m { objects = set m.objects number (Some (record o { settled = b })); names = names }) k)) x
        same x = ap (λ (w : Option ℕ). option_and_then (λ (k : ℕ). cond (is_live_and_settled (object_at (record m { objects = set m.objects number (Some (record o { settled = b })); names = names }) k)) (model.row_of (record m { objects = set m.objects number (Some (record o { settled = b })); names = names }) x) None) w) (owner-same m valid number o b here live x)
            ∙ ap (λ (r : Option Row). option_and_then (λ (k : ℕ). cond (is_live_and_settled (object_at (record m { objects = set m.objects number (Some (record o { settled = b })); names = names }) k)) r None) (model.owner m x)) (rows-same m valid number o b here live x)
