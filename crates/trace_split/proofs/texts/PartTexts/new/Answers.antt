-- With a header waiting at each part, the texts hold no packet.
use Rattle.std.proofs.Common.{◌≡◌, ◌+◌, ◌∷◌, ◌∙◌, [], ap, arith, length, length-append, map, refl, subst, sym}
use Rattle.marple_base.specs.Field.{field_name}
use Rattle.part_texts.specs.Texts.{part_by_hash}
use Rattle.queue_sim.specs.TraceText.{line}
use Rattle.trace_split.proofs.{AddFacts.holds_none, ListFacts.{AllHave, all_none, all_push}}
use Rattle.trace_split.proofs.texts.PartTexts.new.Goals as goal

pub loop-part-init : goal.loop-part-init
loop-part-init c =
    let names = c.as_slice-names.result.now in
    let none = c.new-waiting.ensures.items in
    record { size = ap length none; all = subst (AllHave names) (sym none) (all_none names) }

pub loop-part-preserved : goal.loop-part-preserved
loop-part-preserved c =
    let names = c.as_slice-names.result.now in
    let before = c.loop-part.waiting.items in
    let first = c.in_ok-new.field-0 in
    let pushed = c.in_ok-push.ensures.items in
    record {
      size = ap length pushed ∙ length-append before (first ∷ []) ∙ ap (λ n. n + 1) c.loop-part.invariant.size;
      all = subst (AllHave names) (sym pushed) (all_push names before first c.loop-part.invariant.all c.in_ok-new.ensures);
    }

pub returns-clause-of : goal.returns-clause-of
returns-clause-of c = record {
  columns = c.in_ok-columns.ensures.value;
  by = c.in_ok-by.ensures.value;
  salt = refl;
  parts = refl;
  setting = record {
    parts = c.requires;
    buffers = omega (arith, c.loop-part.invariant.size);
    some = c.in_ok-columns.ensures.some;
    few = c.in_ok-columns.ensures.few;
    few_keys = c.in_ok-by.ensures.few;
  };
}

pub returns-clause-none : goal.returns-clause-none
returns-clause-none c taken =
    let columns = c.in_ok-columns.columns.items in
    let names = c.as_slice-names.result.now in
    let splitting = c.args.splitting.now in
    let is : names ≡ line (map field_name columns) =
    c.as_slice-names.ensures ∙ c.in_ok-header.ensures ∙ ap (λ fields. line (map field_name fields)) c.as_slice.ensures.value in
    holds_none taken c.loop-part.waiting.items columns (part_by_hash c.in_ok-by.by.items splitting.salt splitting.parts) names is
    c.loop-part.invariant.all
