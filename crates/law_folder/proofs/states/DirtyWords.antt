-- The dirty flag of a main item makes its object clean or dirty.
use Rattle.std.proofs.Common.{refl}
use Rattle.std.specs.Prelude.{◌==◌}
use Rattle.blk_model.specs.Items.{main}
use Rattle.law_folder.specs.CommandLaws.{DirtyWordsSettle, WrittenDirtyWordsSettle, RestBeforeTurning, RestAfterTurning}
use Rattle.law_folder.proofs.states.Settling.{shows-dirty, settle-lies}
use Rattle.law_folder.proofs.states.Marking.{marked}
use Rattle.law_folder.proofs.states.Closing.{rest-before, rest-after}

pub dirty-settles : DirtyWordsSettle
dirty-settles v m y r valid number o l lies n d node_fields = record {
  holds = record {
    shows = shows-dirty v.store y r.holds.shows (y.place (main o.key)) d l n y.owner lies.at node_fields;
    lies = settle-lies m valid number o (d == 0) lies.here lies.live y r.holds.lies l lies.at d refl;
  };
  list = r.list;
  idle = r.idle;
}

pub written-settles : WrittenDirtyWordsSettle
written-settles v u m y r valid number o l lies d same node_fields links = marked v u m y r valid number o (d == 0) lies.here lies.live l d lies.at refl same node_fields links

pub before-turning : RestBeforeTurning
before-turning m valid number o b names here live = rest-before m valid number o b names here live

pub after-turning : RestAfterTurning
after-turning m valid number o b names here live = rest-after m valid number o b names here live
