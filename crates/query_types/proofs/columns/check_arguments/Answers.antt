-- The names that may not be keys are those of the fold's state variables.
use Rattle.std.{proofs.Common.{◌≡◌, false, true, refl, sym, ap, ◌∙◌}, specs.List.list_any}
use Rattle.query_lang.specs.Checks.{is_among}
use Rattle.query_types.proofs.columns.check_arguments.Goals as goal

pub returns-then-has_common : goal.returns-then-has_common
returns-then-has_common c =
    let clash : list_any (λ state. is_among state c.args.keys.now) c.args.f.now.states ≡ true =
    ap (list_any (λ state. is_among state c.args.keys.now)) (sym c.as_slice.ensures) ∙ sym c.has_common.ensures ∙ c.if-has_common.true in
    rw (c.refused.ensures, c.in_ok-slots.ensures, clash) refl

pub returns : goal.returns
returns c =
    let clash : list_any (λ state. is_among state c.args.keys.now) c.args.f.now.states ≡ false =
    ap (list_any (λ state. is_among state c.args.keys.now)) (sym c.as_slice.ensures) ∙ sym c.has_common.ensures ∙ c.if-has_common.false in
    rw (c.in_ok-slots.ensures, clash) refl
