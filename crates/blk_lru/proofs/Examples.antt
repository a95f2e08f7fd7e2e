-- The conditions of the calls can be met: at a folder of two listed nodes, and a third that isn't listed.
use Rattle.std.proofs.Common.{◌≡◌, ℕ, List, [], ◌∷◌, sym, ap, subst}
use Rattle.spec_image.specs.Image.{Image}
use Rattle.spec_folder.specs.ListView.{CanBeInserted}
use Rattle.spec_folder.specs.View.{list_of}
use Rattle.spec_folder.specs.ListImages.{HasListAtRest, walked}
use Rattle.spec_format.specs.BlockFiles.{is_among}
use Rattle.law_folder.proofs.examples.ExampleWords.{another, first, last, pair_folder, pair-at_rest, pair-can_be_more}
use Rattle.law_folder.proofs.lists.Walks.{walk_list}
use Rattle.law_folder.proofs.lists.WordTurns.{touches-can}
use Rattle.blk_lru.specs.Lists.{CanBeTouched, HasGoodLinks, IsListAtRest, IsListed}
use Rattle.blk_lru.proofs.Listed.{linked}

abbrev pub folder : Image
folder = pair_folder []

pub pair-walk : walked folder ≡ first ∷ last ∷ []
pair-walk = walk_list (list_of folder) (first ∷ last ∷ []) pair-at_rest.whole

pub some-at_rest : IsListAtRest folder
some-at_rest = subst (λ (nodes : List ℕ). HasListAtRest nodes folder) (sym pair-walk) pair-at_rest

pub some-listed : IsListed last folder
some-listed = record { rest = some-at_rest; listed = ap (λ (nodes : List ℕ). is_among nodes last) pair-walk }

pub some-can_be_inserted : CanBeInserted (list_of folder) (walked folder) another
some-can_be_inserted = subst (λ (nodes : List ℕ). CanBeInserted (list_of folder) nodes another) (sym pair-walk) pair-can_be_more

-- and what Ok says of them holds
pub some-linked : HasGoodLinks (list_of folder) last
some-linked = let l = linked (list_of folder) (first ∷ []) last [] pair-at_rest.whole in record { good = l.good; next_good = l.next_good; prev_good = l.prev_good }

pub some-can_be_touched : CanBeTouched folder last
some-can_be_touched = record { writes = touches-can folder last (first ∷ []) [] pair-at_rest; good = some-linked.good; linked = λ apart. some-linked }
