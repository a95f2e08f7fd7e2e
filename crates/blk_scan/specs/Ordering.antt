-- The verdicts on the walked nodes, back in the order of the walk.
use Rattle.std.specs.Prelude.{ℕ, ◌≡◌, List, map}
use Rattle.spec_image.specs.Image.{Image}
use Rattle.blk_addr.specs.Claims.{IsClaimsOf}
use Rattle.spec_folder.specs.Audit as audit
use Rattle.spec_folder.specs.Audit.{dropped_among, tried}
use Rattle.spec_folder.specs.Found.{completed, kept}
use Rattle.spec_folder.specs.ListImages.{completed_walk}
use Rattle.spec_folder.specs.Loads.{held_rule}
use Rattle.spec_folder.specs.Reasons as reason
use Rattle.spec_folder.specs.View.{store_of, view_of}
use Rattle.blk_audit.specs.ReadLists.{AreListsOf}
use Rattle.blk_audit.specs.declared.scanning.Lists.{Lists}
use Rattle.blk_verdict.specs.Kept.{AreShown, addresses_of_all, claims_kept, records_kept}
use Rattle.blk_verdict.specs.Passes.{AreTried}
use Rattle.blk_verdict.specs.declared.passes.Judged.{Judged}
use Rattle.blk_scan.specs.Scans.{dropped_by_told}
use Rattle.blk_scan.specs.declared.ordering.Ordered.{Ordered}

-- `judged` has the verdicts on the walked nodes of the image, in the order in which they were tried
abbrev pub AreJudged : Image → Judged → Type 0
AreJudged image judged = AreTried image (completed_walk image) (tried (store_of image) (completed_walk image)) (records_kept judged.kept) judged.tried.items

-- `ordered` has the walked nodes of an image, the kept entries and the dropped nodes, each in the order of the walk
pub record IsOrderOf (image : Image) (ordered : Ordered) : Type 0 where
  pub walked : ordered.walked.items ≡ completed_walk image
  pub records : AreShown image (kept image) ordered.records.items
  pub dropped : map dropped_by_told ordered.dropped.items ≡ dropped_among (store_of image) held_rule (completed_walk image)

-- the parts from which a scan is made are those of the image: its lists, the verdicts in both orders, what the kept entries own, and the unlisted records
pub record IsToldBy (image : Image) (lists : Lists) (judged : Judged) (ordered : Ordered) (unlisted : List ℕ) : Type 0 where
  pub lists_are : AreListsOf image lists
  pub judged_are : AreJudged image judged
  pub order_is : IsOrderOf image ordered
  pub claims_are : IsClaimsOf (claims_kept judged.kept) (addresses_of_all (records_kept judged.kept))
  pub unlisted_are : map (λ contents. (contents, reason.Unlisted)) unlisted ≡ audit.unlisted (completed (view_of image))
