use Rattle.std.proofs.Common.{rules, ◌≡◌, [], ◌∷◌, None, sym, subst}
use Rattle.std.proofs.lemmas.Result.{on_ok_weaker}
use Rattle.spec_image.specs.Told.{Told}
use Rattle.spec_image.proofs.Runs.{passes_stayed}
use Rattle.blk_io.specs.Faults.{IfDamaged}
use Rattle.blk_lru.proofs.Conditions.{told_now}
use Rattle.blk_lru.proofs.Results.{if_ok_weaker}
use Rattle.blk_model.specs.Room.{without}
use Rattle.blk_evict.specs.declared.item_names.EntryKind.TheVariants as kinds
use Rattle.blk_evict.specs.RoomLaws.{group_for}
use Rattle.blk_evict.proofs.GroupsOut.{goes-as, goes-with, loads-last, stayed-stops}
use Rattle.blk_evict.proofs.evicting_groups.evict_group.Goals as goal

pub returns-in_err-named-clause-stops : goal.returns-in_err-named-clause-stops
returns-in_err-named-clause-stops g c from there state layout k last =
    stayed-stops (g.F.Folder.told c.args.folder.now) (g.F.Folder.told c.read_name.new.folder) state (without (group_for last.item last.front ∷ []) state) layout from there c.in_err-named.ensures.reads.stays k

pub returns-in_err-named-clause-is_open : goal.returns-in_err-named-clause-is_open
returns-in_err-named-clause-is_open g c image there = c.requires.is_open image (told_now image (sym c.in_err-named.ensures.reads.stays) there)

pub evict_plain-requires-clause-is_open : goal.evict_plain-requires-clause-is_open
evict_plain-requires-clause-is_open g c image there = c.requires.is_open image (told_now image (sym c.in_ok-named.ensures.reads.stays) there)

pub returns-in-Plain-clause-out : goal.returns-in-Plain-clause-out
returns-in-Plain-clause-out g c = if_ok_weaker c.evict_plain.result (λ gone out from there state layout k last. out from (told_now from c.in_ok-named.ensures.reads.stays there) (c.in_ok-named.ensures.owned from there) state layout (goes-as state layout from c.args.found.now k last c.in_ok-named.named c.read_name.new.buffer (c.in_ok-named.ensures.named from there last.loaded (loads-last state layout from c.args.found.now k last)) kinds.Plain c.in-Plain.is)) c.evict_plain.ensures.out

pub returns-in-Plain-clause-prints : goal.returns-in-Plain-clause-prints
returns-in-Plain-clause-prints g c = on_ok_weaker c.evict_plain.result (λ prints from there state layout k last. prints from (told_now from c.in_ok-named.ensures.reads.stays there) state layout (goes-as state layout from c.args.found.now k last c.in_ok-named.named c.read_name.new.buffer (c.in_ok-named.ensures.named from there last.loaded (loads-last state layout from c.args.found.now k last)) kinds.Plain c.in-Plain.is)) c.evict_plain.ensures.prints

pub returns-in-Plain-clause-stops : goal.returns-in-Plain-clause-stops
returns-in-Plain-clause-stops g c from there state layout k last = passes_stayed c.in_ok-named.ensures.reads.stays (c.evict_plain.ensures.stops from (told_now from c.in_ok-named.ensures.reads.stays there) (c.in_ok-named.ensures.owned from there) state layout (goes-as state layout from c.args.found.now k last c.in_ok-named.named c.read_name.new.buffer (c.in_ok-named.ensures.named from there last.loaded (loads-last state layout from c.args.found.now k last)) kinds.Plain c.in-Plain.is))

pub returns-in-Plain-clause-front : goal.returns-in-Plain-clause-front
returns-in-Plain-clause-front g c from there state layout k last = c.evict_plain.ensures.front from (told_now from c.in_ok-named.ensures.reads.stays there) state layout (goes-as state layout from c.args.found.now k last c.in_ok-named.named c.read_name.new.buffer (c.in_ok-named.ensures.named from there last.loaded (loads-last state layout from c.args.found.now k last)) kinds.Plain c.in-Plain.is)

pub returns-in-Plain-clause-untold : goal.returns-in-Plain-clause-untold
returns-in-Plain-clause-untold g c from there state layout k last = subst (λ (t : Told). IfDamaged c.evict_plain.result (λ _. t.files ≡ None)) c.in_ok-named.ensures.reads.stays (c.evict_plain.ensures.untold from (told_now from c.in_ok-named.ensures.reads.stays there) (c.in_ok-named.ensures.owned from there) state layout (goes-as state layout from c.args.found.now k last c.in_ok-named.named c.read_name.new.buffer (c.in_ok-named.ensures.named from there last.loaded (loads-last state layout from c.args.found.now k last)) kinds.Plain c.in-Plain.is))

pub evict_part-requires-clause-is_open : goal.evict_part-requires-clause-is_open
evict_part-requires-clause-is_open g c image there = c.requires.is_open image (told_now image (sym c.in_ok-named.ensures.reads.stays) there)

pub returns-in-Part-clause-out : goal.returns-in-Part-clause-out
returns-in-Part-clause-out g c = if_ok_weaker c.evict_part.result (λ gone out from there state layout k last. out from (told_now from c.in_ok-named.ensures.reads.stays there) (c.in_ok-named.ensures.owned from there) state layout (goes-as state layout from c.args.found.now k last c.in_ok-named.named c.read_name.new.buffer (c.in_ok-named.ensures.named from there last.loaded (loads-last state layout from c.args.found.now k last)) kinds.Part c.in-Part.is)) c.evict_part.ensures.out

pub returns-in-Part-clause-prints : goal.returns-in-Part-clause-prints
returns-in-Part-clause-prints g c = on_ok_weaker c.evict_part.result (λ prints from there state layout k last. prints from (told_now from c.in_ok-named.ensures.reads.stays there) state layout (goes-as state layout from c.args.found.now k last c.in_ok-named.named c.read_name.new.buffer (c.in_ok-named.ensures.named from there last.loaded (loads-last state layout from c.args.found.now k last)) kinds.Part c.in-Part.is)) c.evict_part.ensures.prints

pub returns-in-Part-clause-stops : goal.returns-in-Part-clause-stops
returns-in-Part-clause-stops g c from there state layout k last = passes_stayed c.in_ok-named.ensures.reads.stays (c.evict_part.ensures.stops from (told_now from c.in_ok-named.ensures.reads.stays there) (c.in_ok-named.ensures.owned from there) state layout (goes-as state layout from c.args.found.now k last c.in_ok-named.named c.read_name.new.buffer (c.in_ok-named.ensures.named from there last.loaded (loads-last state layout from c.args.found.now k last)) kinds.Part c.in-Part.is))

pub returns-in-Part-clause-front : goal.returns-in-Part-clause-front
returns-in-Part-clause-front g c from there state layout k last = c.evict_part.ensures.front from (told_now from c.in_ok-named.ensures.reads.stays there) state layout (goes-as state layout from c.args.found.now k last c.in_ok-named.named c.read_name.new.buffer (c.in_ok-named.ensures.named from there last.loaded (loads-last state layout from c.args.found.now k last)) kinds.Part c.in-Part.is)

pub returns-in-Part-clause-untold : goal.returns-in-Part-clause-untold
returns-in-Part-clause-untold g c from there state layout k last = subst (λ (t : Told). IfDamaged c.evict_part.result (λ _. t.files ≡ None)) c.in_ok-named.ensures.reads.stays (c.evict_part.ensures.untold from (told_now from c.in_ok-named.ensures.reads.stays there) (c.in_ok-named.ensures.owned from there) state layout (goes-as state layout from c.args.found.now k last c.in_ok-named.named c.read_name.new.buffer (c.in_ok-named.ensures.named from there last.loaded (loads-last state layout from c.args.found.now k last)) kinds.Part c.in-Part.is))

pub evict_parent-requires-clause-is_open : goal.evict_parent-requires-clause-is_open
evict_parent-requires-clause-is_open g c image there = c.requires.is_open image (told_now image (sym c.in_ok-named.ensures.reads.stays) there)

pub returns-in-Parent-clause-out : goal.returns-in-Parent-clause-out
returns-in-Parent-clause-out g c = if_ok_weaker c.evict_parent.result (λ gone out from there state layout k last. out from (told_now from c.in_ok-named.ensures.reads.stays there) (c.in_ok-named.ensures.owned from there) state layout (goes-with state layout from c.args.found.now k last c.in_ok-named.named c.read_name.new.buffer (c.in_ok-named.ensures.named from there last.loaded (loads-last state layout from c.args.found.now k last)) kinds.Parent c.in-Parent.is c.split_at_mut-key.result.0.now (search rules))) c.evict_parent.ensures.out

pub returns-in-Parent-clause-prints : goal.returns-in-Parent-clause-prints
returns-in-Parent-clause-prints g c = on_ok_weaker c.evict_parent.result (λ prints from there state layout k last. prints from (told_now from c.in_ok-named.ensures.reads.stays there) (c.in_ok-named.ensures.owned from there) state layout (goes-with state layout from c.args.found.now k last c.in_ok-named.named c.read_name.new.buffer (c.in_ok-named.ensures.named from there last.loaded (loads-last state layout from c.args.found.now k last)) kinds.Parent c.in-Parent.is c.split_at_mut-key.result.0.now (search rules))) c.evict_parent.ensures.prints

pub returns-in-Parent-clause-stops : goal.returns-in-Parent-clause-stops
returns-in-Parent-clause-stops g c from there state layout k last = passes_stayed c.in_ok-named.ensures.reads.stays (c.evict_parent.ensures.stops from (told_now from c.in_ok-named.ensures.reads.stays there) (c.in_ok-named.ensures.owned from there) state layout (goes-with state layout from c.args.found.now k last c.in_ok-named.named c.read_name.new.buffer (c.in_ok-named.ensures.named from there last.loaded (loads-last state layout from c.args.found.now k last)) kinds.Parent c.in-Parent.is c.split_at_mut-key.result.0.now (search rules)))

pub returns-in-Parent-clause-front : goal.returns-in-Parent-clause-front
returns-in-Parent-clause-front g c from there state layout k last = c.evict_parent.ensures.front from (told_now from c.in_ok-named.ensures.reads.stays there) (c.in_ok-named.ensures.owned from there) state layout (goes-with state layout from c.args.found.now k last c.in_ok-named.named c.read_name.new.buffer (c.in_ok-named.ensures.named from there last.loaded (loads-last state layout from c.args.found.now k last)) kinds.Parent c.in-Parent.is c.split_at_mut-key.result.0.now (search rules))

pub returns-in-Parent-clause-untold : goal.returns-in-Parent-clause-untold
returns-in-Parent-clause-untold g c from there state layout k last = subst (λ (t : Told). IfDamaged c.evict_parent.result (λ _. t.files ≡ None)) c.in_ok-named.ensures.reads.stays (c.evict_parent.ensures.untold from (told_now from c.in_ok-named.ensures.reads.stays there) (c.in_ok-named.ensures.owned from there) state layout (goes-with state layout from c.args.found.now k last c.in_ok-named.named c.read_name.new.buffer (c.in_ok-named.ensures.named from there last.loaded (loads-last state layout from c.args.found.now k last)) kinds.Parent c.in-Parent.is c.split_at_mut-key.result.0.now (search rules)))
