use Rattle.std.proofs.lemmas.Result.{on_ok_weaker}
use Rattle.spec_image.proofs.Quiet.{any_end, any_weaker}
use Rattle.blk_cache.proofs.Ends.{crash-cleared, ends-sound, holds-still}
use Rattle.blk_cache.proofs.cache.Cache.finish.Goals as goal

pub returns-clause-ended : goal.returns-clause-ended
returns-clause-ended g c =
    on_ok_weaker c.set_word.result
    (λ made from there state k image here.
    let ends = ends-sound c.args.self state from image k c.requires.free (any_end (c.set_word.ensures.outside from there) image here) (g.met.F.Folder.are_bytes c.set_word.new.f image here) in
    record {
      sound = ends.0;
      version = ends.1;
      closed = crash-cleared (λ i is. let open_now = c.requires.is_open i is in open_now.whole_index) made image here;
    }) c.set_word.ensures.steps

pub returns-clause-stops : goal.returns-clause-stops
returns-clause-stops g c from there state k =
    any_weaker (c.set_word.ensures.outside from there) (λ i outside. holds-still c.args.self state from i k c.requires.free outside) (λ i outside. holds-still c.args.self state from i k c.requires.free outside)
