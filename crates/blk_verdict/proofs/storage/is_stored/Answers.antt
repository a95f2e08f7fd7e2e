use Rattle.std.proofs.Common.{◌≡◌, ◌≢◌, ◌<◌, ℕ, true, sym, ◌∙◌, ap, subst, arith}
use Rattle.std.specs.Prelude.{◌==◌, is_some}
use Rattle.std.specs.Option.{ForSome}
use Rattle.std.proofs.lemmas.Bool.{eqb-true}
use Rattle.spec_format.specs.Address.{external, external_number, kind_of}
use Rattle.spec_image.specs.Image.{External, length_of}
use Rattle.spec_folder.specs.View.{stored_at}
use Rattle.blk_disk.specs.Tables.{Agrees}
use Rattle.blk_entry.specs.Keys as keys
use Rattle.blk_entry.proofs.KeyPlaces.{of_other, ok_weaker}
use Rattle.blk_verdict.proofs.Stored.{chosen_is, not_chosen, stored_false, stored_length, stored_none, stored_true, stores_none}
use Rattle.blk_verdict.proofs.storage.is_stored.Goals as goal

pub returns-then-size-eq0-clause-stored : goal.returns-then-size-eq0-clause-stored
returns-then-size-eq0-clause-stored g c image there agrees = sym (ap (λ (n : ℕ). is_some (stored_at image n c.args.word)) c.if-size-eq0.true ∙ stored_none image c.args.word)

pub returns-then-size-eq0-clause-stores : goal.returns-then-size-eq0-clause-stores
returns-then-size-eq0-clause-stores g c is = subst (λ (n : ℕ). keys.stores c.args.files.now n c.args.word ≡ true) (sym c.if-size-eq0.true) (stores_none c.args.files.now c.args.word is)

pub returns-in_default-clause-stored : goal.returns-in_default-clause-stored
returns-in_default-clause-stored g c image there agrees =
    let some : 0 < c.args.size = omega (arith, c.if-size-eq0.false) in
    sym (stored_false c.args.files.now image c.args.size c.args.word some agrees (not_chosen (keys.stores c.args.files.now c.args.size c.args.word) c.args.word (sym c.in_default.is ∙ c.storage.ensures)))

pub returns-then-is_external-clause-stored : goal.returns-then-is_external-clause-stored
returns-then-is_external-clause-stored g c =
    let some : 0 < c.args.size = omega (arith, c.if-size-eq0.false) in
    let s = chosen_is (keys.stores c.args.files.now c.args.size c.args.word) c.args.word c.in-Some.addr (sym c.in-Some.is ∙ c.storage.ensures) in
    let kind : kind_of c.args.word ≡ external = ap kind_of (sym s.0) ∙ eqb-true (kind_of c.in-Some.addr) external (sym c.is_external.ensures ∙ c.if-is_external.true) in
    ok_weaker c.has_length.result _ (λ there. ForSome (g.F.Folder.told c.args.folder.now).files (λ image. Agrees c.args.files.now image → there ≡ is_some (stored_at image c.args.size c.args.word)))
    (λ there is image now agrees. is image now ∙ ap (λ (w : ℕ). length_of image (External (external_number w)) == c.args.size) s.0 ∙ sym (stored_length c.args.files.now image c.args.size c.args.word some kind s.1)) c.has_length.ensures.length

pub returns-else-is_external-clause-stored : goal.returns-else-is_external-clause-stored
returns-else-is_external-clause-stored g c image there agrees =
    let some : 0 < c.args.size = omega (arith, c.if-size-eq0.false) in
    let s = chosen_is (keys.stores c.args.files.now c.args.size c.args.word) c.args.word c.in-Some.addr (sym c.in-Some.is ∙ c.storage.ensures) in
    let kind : kind_of c.args.word ≢ external = λ e. of_other (kind_of c.in-Some.addr) external (sym c.is_external.ensures ∙ c.if-is_external.false) (ap kind_of s.0 ∙ e) in
    sym (stored_true c.args.files.now image c.args.size c.args.word some agrees kind s.1)
