-- The laws of what is kept of a walk.
use Rattle.std.specs.Prelude.{◌≡◌, ◌≢◌, ℕ, List, [], Bool, true, false}
use Rattle.std.specs.List.{AllByRecursion, filter, filter_map}
use Rattle.std.specs.Result.{is_err}
use Rattle.std.specs.declared.option.Option.{Option}
use Rattle.std.specs.declared.option.Option.TheVariants.{None}
use Rattle.std.specs.declared.result.Result.{Result}
use Rattle.std.specs.declared.result.Result.TheVariants.{Ok}
use Rattle.spec_image.specs.Image.{Image}
use Rattle.spec_format.specs.Hash.{hash}
use Rattle.spec_format.specs.BlockFiles.{is_among, IsWellFormed}
use Rattle.spec_folder.specs.ListView.{Distinct}
use Rattle.spec_folder.specs.View.{View, StoreView, RecordFields, view_of}
use Rattle.spec_folder.specs.Chains.{chain, bucket_of_hash}
use Rattle.spec_folder.specs.Reasons.{Reason}
use Rattle.spec_folder.specs.Loads.{Rule, held_rule, Loaded, load_key}
use Rattle.spec_folder.specs.Audit.{judged, kept_as, kept_nodes, kept_among, dropped_among, kept_by}
use Rattle.spec_folder.specs.Found.{completed, found, held}
use Rattle.spec_folder.specs.Shown.{IsShown}
use Rattle.spec_folder.specs.Candidates.{candidates, SameNamed}

-- the records that are given to a walk, as `IsShown` has them, are those that are kept of it, in its order
abbrev pub KeptAreTheGiven : Type 0
KeptAreTheGiven = (store : StoreView) (rule : Rule) (nodes : List ℕ) (given : ℕ → Option Loaded) → IsShown store rule nodes given → kept_among store rule nodes ≡ filter_map given nodes

-- where a record is given to each node of a walk, none is dropped
abbrev pub NoneOfTheGivenIsDropped : Type 0
NoneOfTheGivenIsDropped = (store : StoreView) (rule : Rule) (nodes : List ℕ) (given : ℕ → Option Loaded) → IsShown store rule nodes given → ((node : ℕ) → is_among nodes node ≡ true → given node ≢ None) → dropped_among store rule nodes ≡ []

-- the kept records of a walk load, share no block, no external number and no name, and have their parents: so a walk of the kept nodes alone keeps them
-- (`IsShown`)
abbrev pub KeptAreShown : Type 0
KeptAreShown = (store : StoreView) (rule : Rule) (nodes : List ℕ) → Distinct nodes → IsShown store rule (kept_nodes store rule nodes) (kept_as store rule nodes)

-- a walk of the kept nodes alone keeps the same
abbrev pub KeptAloneAreKept : Type 0
KeptAloneAreKept = (store : StoreView) (rule : Rule) (nodes : List ℕ) → Distinct nodes → kept_among store rule (kept_nodes store rule nodes) ≡ kept_among store rule nodes

-- a node that is left out of a walk is dropped by its verdict
abbrev pub IsDroppedIfLeftOut : (ℕ → Bool) → ℕ × Result Loaded Reason → Type 0
IsDroppedIfLeftOut keep judgement = keep judgement.0 ≡ false → is_err judgement.1 ≡ true

-- a dropped node uses nothing: a walk without some or all of its dropped nodes keeps the same
abbrev pub LeavingOutKeepsTheSame : Type 0
LeavingOutKeepsTheSame = (store : StoreView) (rule : Rule) (keep : ℕ → Bool) (nodes : List ℕ) → AllByRecursion (IsDroppedIfLeftOut keep) (judged store rule nodes) → kept_among store rule (filter keep nodes) ≡ kept_among store rule nodes

-- two records with the same key, for which none of the reasons up to the chain holds, are in the chain of one bucket
abbrev pub SameKeyIsOneChain : Type 0
SameKeyIsOneChain = (store : StoreView) (node other contents others dirty dirt : ℕ) (one two : RecordFields) (key : List ℕ) → load_key store held_rule node contents dirty one ≡ Ok key → load_key store held_rule other others dirt two ≡ Ok key
    → (bucket_of_hash one.hash ≡ bucket_of_hash two.hash) × (is_among (chain store (bucket_of_hash (hash key))).reached contents ≡ true) × (is_among (chain store (bucket_of_hash (hash key))).reached others ≡ true)

-- no node but a candidate is kept
abbrev pub OnlyCandidatesAreKept : Type 0
OnlyCandidatesAreKept = (view : View) → kept_by held_rule view ≡ kept_among view.store held_rule (candidates view)

-- two images with the same candidates, which agree on what these name, hold the same rows
abbrev pub SameCandidatesAreHeldAlike : Type 0
SameCandidatesAreHeldAlike = (old new : Image) → candidates (completed (view_of old)) ≡ candidates (completed (view_of new))
    → AllByRecursion (SameNamed (completed (view_of old)).store (completed (view_of new)).store) (candidates (completed (view_of old))) → held old ≡ held new

-- two well-formed images with the same candidates, which agree on what these name, have the same recovered contents
abbrev pub SameCandidatesHoldTheSame : Type 0
SameCandidatesHoldTheSame = (old new : Image) → IsWellFormed old → IsWellFormed new → candidates (completed (view_of old)) ≡ candidates (completed (view_of new))
    → AllByRecursion (SameNamed (completed (view_of old)).store (completed (view_of new)).store) (candidates (completed (view_of old))) → found old ≡ found new
