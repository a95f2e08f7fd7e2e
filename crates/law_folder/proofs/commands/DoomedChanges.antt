-- The laws on doomed objects, and on handles.
use Rattle.std.proofs.Common.{◌≡◌, ℕ, refl, ap, sym, ◌∙◌, subst, Option, Some, None, Ok}
use Rattle.std.specs.Prelude.{◌==◌}
use Rattle.blk_model.specs.State.{State, Object}
use Rattle.spec_format.specs.Claims.{claims_of, has_claim, repeats}
use Rattle.spec_folder.specs.Loads.{Loaded, all_claims, record_claims}
use Rattle.spec_folder.specs.Found.{row_of_loaded}
use Rattle.spec_folder.specs.Layout.{Layout, IsDoomedAt, IsLayoutOf, IsDoomedChange}
use Rattle.law_folder.specs.CommandLaws.{IsPlacedAsDoomed, ChangedDoomedObjectsArePlaced, ChangedDoomedObjectsAreRepresented, DoomedChangesAreAtRest, GoneDoomedObjectsAreRepresented, DoomedDirtyWordsSettle, WrittenDoomedDirtyWordsSettle, HandlesAreNotShown, dirtied, marked}
use Rattle.law_folder.proofs.commands.Opening.{lies-reordered}
use Rattle.law_folder.proofs.states.Settling.{shows-dirty}
use Rattle.law_folder.proofs.states.Marking.{node-alone, loads-marked}
use Rattle.law_folder.proofs.commands.DoomedObjects.{IsDoomedSlot, lies-aside, represents-aside, aside-rest}

-- one loaded of two that are the same
some-is : (k l : Loaded) → ◌≡◌ {A = Option Loaded} (Some k) (Some l) → k ≡ l
some-is k l e = cc

pub changed-doomed-lies : ChangedDoomedObjectsArePlaced
changed-doomed-lies m y r number o p l k owner at ch = lies-aside m y r number o at.here at.dead (Some p) (Some k) owner ch.dead
    (λ x is. let s : p ≡ x = cc in subst (IsDoomedSlot (Some k)) s (record { loaded = k; here = refl; row = ch.row; mark = ch.mark }))
    (λ x c is h. let s : k ≡ x = some-is k x is in ch.own c (ap (λ (z : Loaded). has_claim (all_claims z) c) s ∙ h))
    ch.others
    (λ x is. ap (λ (z : Loaded). repeats (all_claims z)) (sym (some-is k x is)) ∙ ch.single)

pub changed-doomed : ChangedDoomedObjectsAreRepresented
changed-doomed touched v u m y r number o p l k owner at same free loads ch = represents-aside touched v u m y r number o at.here at.dead same free (Some p) (Some k) owner
    (λ x is. loads ∙ ap (λ (z : Loaded). Ok z) (some-is k x is))
    (changed-doomed-lies m y r.holds.lies number o p l k owner at ch)

pub doomed-rest : DoomedChangesAreAtRest
doomed-rest touched v u m y r valid number o here gone same free = aside-rest touched v u m y r number o here gone same free valid

pub gone-doomed : GoneDoomedObjectsAreRepresented
gone-doomed touched v u m y r number o l owner at same free others = represents-aside touched v u m y r number o at.here at.dead same free None None owner
    (λ x is. cc)
    (lies-aside m y r.holds.lies number o at.here at.dead None None owner tt (λ x is. cc) (λ x c is h. cc) others (λ x is. cc))

-- another dirty flag is such a change
module _ (m : State) (y : Layout) (r : IsLayoutOf m y) (number : ℕ) (o : Object) (l : Loaded) (at : IsPlacedAsDoomed m y number o l) (d : ℕ) where
  q : IsDoomedAt m y number o
  q = r.doomed_objects number o at.here at.dead

  same : q.loaded ≡ l
  same = some-is q.loaded l (sym q.here ∙ at.at)

  dirty-change : IsDoomedChange y (y.place_of_doomed number) (record o { settled = d == 0 }) (record l { dirty = d }) y.owner
  unfolding all_claims record_claims
  dirty-change = record {
    dead = at.dead;
    row = ap row_of_loaded (sym same) ∙ q.row;
    mark = refl;
    own = λ c h. r.own (y.place_of_doomed number) l c at.at h;
    others = λ c w e apart. e;
    single = r.single (y.place_of_doomed number) l at.at;
  }

  pub dirty-lies : IsLayoutOf (marked m number o (d == 0)) (dirtied y (y.place_of_doomed number) l d)
  dirty-lies = changed-doomed-lies m y r number o (record o { settled = d == 0 }) l (record l { dirty = d }) y.owner at dirty-change

pub doomed-settles : DoomedDirtyWordsSettle
doomed-settles v m y r number o l at n d node_fields = record {
  holds = record {
    shows = shows-dirty v.store y r.holds.shows (y.place_of_doomed number) d l n y.owner at.at node_fields;
    lies = dirty-lies m y r.holds.lies number o l at d;
  };
  list = r.list;
  idle = r.idle;
}

pub written-doomed-settles : WrittenDoomedDirtyWordsSettle
written-doomed-settles v u m y r number o l at d same node_fields =
    changed-doomed (has_claim (claims_of (y.place_of_doomed number))) v u m y r number o (record o { settled = d == 0 }) l (record l { dirty = d }) y.owner at same
    (node-alone v u m y r (y.place_of_doomed number) l at.at d same node_fields)
    (loads-marked v u m y r (y.place_of_doomed number) l at.at d same node_fields)
    (dirty-change m y r.holds.lies number o l at d)

-- which handles there are is not shown
pub handles-not_shown : HandlesAreNotShown
handles-not_shown v m y r names = record { holds = record { shows = r.holds.shows; lies = lies-reordered m y m.uses names (λ i. refl) r.holds.lies }; list = r.list; idle = r.idle }
