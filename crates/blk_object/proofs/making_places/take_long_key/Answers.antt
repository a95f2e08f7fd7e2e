use Rattle.std.proofs.Common.{[], refl}
use Rattle.blk_object.proofs.MakingTaken.{nothing-finds, nothing-taken}
use Rattle.blk_object.proofs.making_places.take_long_key.Goals as goal

pub returns-then-key_len-le-LONGEST_SHORT_KEY-clause-stops : goal.returns-then-key_len-le-LONGEST_SHORT_KEY-clause-stops
returns-then-key_len-le-LONGEST_SHORT_KEY-clause-stops g c from there room = nothing-finds [] (g.F.Folder.told c.args.folder.now) (g.F.Folder.told c.args.folder.now) refl from there

pub returns-then-key_len-le-LONGEST_SHORT_KEY-clause-taken : goal.returns-then-key_len-le-LONGEST_SHORT_KEY-clause-taken
returns-then-key_len-le-LONGEST_SHORT_KEY-clause-taken g c from there room = nothing-taken (g.F.Folder.told c.args.folder.now) (g.F.Folder.told c.args.folder.now) refl from there
