use Rattle.std.proofs.Common.{◌≡◌, ◌++◌, List, ℕ, OnOk, ◌∙◌, subst}
use Rattle.std.specs.Option.{option_map}
use Rattle.blk_io.specs.Streams.{Appends}
use Rattle.blk_run.proofs.Printed.{rest_of_digits, index_line, block_line, external_line}
use Rattle.blk_run.proofs.printing.print_damage.Goals as goal

pub returns-in-Index-clause-steps : goal.returns-in-Index-clause-steps
returns-in-Index-clause-steps g c =
    subst (λ (t : List ℕ). OnOk c.print_all.result (g.K.Sink.written c.print_all.new.out ≡ option_map (λ (w : List ℕ). w ++ t) (g.K.Sink.written c.args.out.now)))
    (index_line c.args.damage _ _ c.in-Index.is (c.as_bytes-at.ensures.value ∙ c.format.ensures.text) c.digits_of-found.ensures.digits)
    c.print_all.ensures.steps

pub returns-in-Index-clause-prefix : goal.returns-in-Index-clause-prefix
returns-in-Index-clause-prefix g c =
    subst (Appends _ _)
    (index_line c.args.damage _ _ c.in-Index.is (c.as_bytes-at.ensures.value ∙ c.format.ensures.text) c.digits_of-found.ensures.digits)
    c.print_all.ensures.prefix

pub returns-in-Block-clause-steps : goal.returns-in-Block-clause-steps
returns-in-Block-clause-steps g c =
    subst (λ (t : List ℕ). OnOk c.print_all-in-Block.result (g.K.Sink.written c.print_all-in-Block.new.out ≡ option_map (λ (w : List ℕ). w ++ t) (g.K.Sink.written c.args.out.now)))
    (block_line c.args.damage _ _ _ _ c.in-Block.is (c.as_bytes-n.ensures.value ∙ c.format-in-Block.ensures.text) (c.as_bytes-at.ensures.value ∙ c.format.ensures.text) c.digits_of-found.ensures.digits)
    c.print_all-in-Block.ensures.steps

pub returns-in-Block-clause-prefix : goal.returns-in-Block-clause-prefix
returns-in-Block-clause-prefix g c =
    subst (Appends _ _)
    (block_line c.args.damage _ _ _ _ c.in-Block.is (c.as_bytes-n.ensures.value ∙ c.format-in-Block.ensures.text) (c.as_bytes-at.ensures.value ∙ c.format.ensures.text) c.digits_of-found.ensures.digits)
    c.print_all-in-Block.ensures.prefix

pub returns-in-External-clause-steps : goal.returns-in-External-clause-steps
returns-in-External-clause-steps g c =
    subst (λ (t : List ℕ). OnOk c.print_all-in-External.result (g.K.Sink.written c.print_all-in-External.new.out ≡ option_map (λ (w : List ℕ). w ++ t) (g.K.Sink.written c.args.out.now)))
    (external_line c.args.damage _ _ _ _ c.in-External.is (rest_of_digits c.left_out.result c.digits_of-digits.result c.in-External.n c.digits_of-digits.ensures.eight c.digits_of-digits.ensures.digits c.left_out.ensures.six) (c.as_bytes-at.ensures.value ∙ c.format.ensures.text) c.digits_of-found.ensures.digits)
    c.print_all-in-External.ensures.steps

pub returns-in-External-clause-prefix : goal.returns-in-External-clause-prefix
returns-in-External-clause-prefix g c =
    subst (Appends _ _)
    (external_line c.args.damage _ _ _ _ c.in-External.is (rest_of_digits c.left_out.result c.digits_of-digits.result c.in-External.n c.digits_of-digits.ensures.eight c.digits_of-digits.ensures.digits c.left_out.ensures.six) (c.as_bytes-at.ensures.value ∙ c.format.ensures.text) c.digits_of-found.ensures.digits)
    c.print_all-in-External.ensures.prefix
