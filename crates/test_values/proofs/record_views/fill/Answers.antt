use Rattle.std.proofs.Common.{◌≡◌, ℕ, ◌+◌, ◌≤◌, List, length, drop, ap, ◌∙◌, arith, length-take, length-drop}
use Rattle.spec_image.specs.Bytes.{content, spliced, word_at}
use Rattle.test_values.proofs.record_views.fill.Goals as goal

pub returns-clause-set : goal.returns-clause-set
returns-clause-set g c =
    let at : ℕ = c.args.at in
    let old : List ℕ = g.R.Record.window_of c.args.view.now in
    let is : g.R.Record.window_of (g.R.RecordMut.with_bytes c.args.view.now at c.copy_from_slice.new.self) ≡ spliced at c.args.bytes.now old =
    g.met.R.RecordMut.window_with c.args.view.now at c.copy_from_slice.new.self ∙ ap (λ (b : List ℕ). spliced at b old) c.copy_from_slice.ensures.after in
    let inside : at + 4 ≤ length old = omega (arith, c.field_mut.ensures.four, ap (length {A = ℕ}) c.field_mut.ensures.value, length-take 4 (drop at old), length-drop at old) in
    ap (λ (w : List ℕ). word_at (content w) at) is ∙ c.lent_fields_are_set.ensures.set at c.args.bytes.now old inside c.requires.four

pub returns-clause-others : goal.returns-clause-others
returns-clause-others g c other field apart =
    let at : ℕ = c.args.at in
    let old : List ℕ = g.R.Record.window_of c.args.view.now in
    let is : g.R.Record.window_of (g.R.RecordMut.with_bytes c.args.view.now at c.copy_from_slice.new.self) ≡ spliced at c.args.bytes.now old =
    g.met.R.RecordMut.window_with c.args.view.now at c.copy_from_slice.new.self ∙ ap (λ (b : List ℕ). spliced at b old) c.copy_from_slice.ensures.after in
    ap (λ (w : List ℕ). word_at (content w) other) is ∙ c.lent_fields_are_set.ensures.others g.R.Record.size at c.args.bytes.now old c.requires.field c.requires.four other field apart
