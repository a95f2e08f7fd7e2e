use Rattle.std.proofs.Common.{◌+◌, ℕ, length, take, sym, ◌∙◌, ap, subst}
use Rattle.std.proofs.lemmas.Result.{on_ok_weaker}
use Rattle.spec_format.specs.Address.{is_address, kind_of}
use Rattle.spec_image.specs.Image.{byte}
use Rattle.blk_entry.specs.Keys.{IsInside, data_at, data_file, data_start}
use Rattle.blk_entry.proofs.KeyPlaces.{take-range}
use Rattle.blk_io.proofs.Carried.{if_damaged_weaker}
use Rattle.blk_verdict.proofs.KeyFacts.{front_inside, in_blocks, no_word, stores_address}
use Rattle.blk_verdict.proofs.Stored.{chosen_is}
use Rattle.blk_verdict.proofs.StreamFacts.{stored_bytes}
use Rattle.blk_verdict.proofs.roles.read_front.Given as given
use Rattle.blk_verdict.proofs.roles.read_front.Goals as goal

pub unreachable-requires : goal.unreachable-requires
unreachable-requires g c = no_word c.args.word (stores_address c.args.files.now c.args.size c.args.word c.requires.some c.requires.stored) (sym c.from_word.ensures ∙ c.in_default.is)

inside : (g : given.Over) (c : goal.After-read_data-arg-2-1 g) → IsInside c.args.files.now c.in-Some.addr 0 (length c.args.out.now)
inside g c =
    let read = (chosen_is (is_address c.args.word) c.args.word c.in-Some.addr (sym c.in-Some.is ∙ c.from_word.ensures)).0 in
    subst (λ (w : ℕ). IsInside c.args.files.now w 0 (length c.args.out.now)) (sym read) (front_inside c.args.files.now c.args.size c.args.word (length c.args.out.now) c.requires.some c.requires.blocks c.requires.stored c.requires.inside)

pub read_data-requires : goal.read_data-requires
read_data-requires g c = record { inside = inside g c }

pub returns-clause-front : goal.returns-clause-front
returns-clause-front g c =
    let read = (chosen_is (is_address c.args.word) c.args.word c.in-Some.addr (sym c.in-Some.is ∙ c.from_word.ensures)).0 in
    on_ok_weaker c.read_data.result
    (λ h image there bytes is.
    h image there ∙ ap (λ (w : ℕ). data_at image w 0 (length c.args.out.now)) read
    ∙ sym (ap (take (length c.args.out.now)) (stored_bytes image c.args.size c.args.word bytes c.requires.some is) ∙ take-range (length c.args.out.now) c.args.size (data_start c.args.word + 0) (byte image (data_file c.args.word)) c.requires.inside))
    c.read_data.ensures.bytes

pub returns-clause-short : goal.returns-clause-short
returns-clause-short g c =
    let read = (chosen_is (is_address c.args.word) c.args.word c.in-Some.addr (sym c.in-Some.is ∙ c.from_word.ensures)).0 in
    let within = subst (λ (w : ℕ). IsInside c.args.files.now w 0 (length c.args.out.now)) (sym read) (front_inside c.args.files.now c.args.size c.args.word (length c.args.out.now) c.requires.some c.requires.blocks c.requires.stored c.requires.inside) in
    if_damaged_weaker c.read_data.result _ _ (λ damage cut. record { word = c.in-Some.addr; at = 0; count = length c.args.out.now; inside = within; cut = cut }) c.read_data.ensures.short

pub returns-clause-untold : goal.returns-clause-untold
returns-clause-untold g c agrees =
    let read = (chosen_is (is_address c.args.word) c.args.word c.in-Some.addr (sym c.in-Some.is ∙ c.from_word.ensures)).0 in
    c.read_data.ensures.untold agrees (λ image there outside. absurd (in_blocks c.args.files.now c.args.size c.args.word c.requires.some c.requires.blocks c.requires.stored (ap kind_of (sym read) ∙ outside)))
