-- Each item leaves the numbers within their types.
use Rattle.std.proofs.{Common.{◌≡◌, ℕ, ◌+◌, ◌<◌, List, length, get_or, drop, rules, sym, ap, ◌∙◌}, lemmas.List.drop_more}
use Rattle.query_lang.specs.{declared.{query.Item.Item, typing.{Earlier.Earlier, Given.Given}}, Checks.and_then, Limits.IsNumbered}
use Rattle.query_lang.specs.Typing.{item_checked, items_checked}
use Rattle.query_types.specs.Numbers.{item_number}
use Rattle.query_types.proofs.{CheckLemmas.more, CountSteps.greatest_more, FitLaws.item_fits}
use Rattle.query_types.proofs.items.check_items.Goals as goal

item_turn : (given : Given) (earlier : Earlier) (xs : List Item) (i : ℕ) {x : Item} → i < length xs → x ≡ get_or xs i x
    → items_checked given earlier (drop i xs)
    ≡ and_then (item_checked given earlier x) (λ after. items_checked given after (drop (i + 1) xs))
item_turn given earlier xs i {x} h is =
    ap (items_checked given earlier) (drop_more xs i x h)
    ∙ sym (ap (λ y. and_then (item_checked given earlier y) (λ after. items_checked given after (drop (i + 1) xs))) is)

pub loop-item-preserved : goal.loop-item-preserved
loop-item-preserved c =
    let numbered : IsNumbered 65536 c.item-item.result = search rules in
    record {
      checked = more _ _ (item_turn c.args.given.now c.loop-item.earlier c.args.items.now c.loop-item.item-index c.loop-item-test.true
          c.item-item.is) c.in_ok-check_item.ensures.given c.loop-item.invariant.checked;
      numbers = greatest_more item_number c.args.items.now c.loop-item.item-index c.loop-item-test.true c.item-item.is
          c.in_ok-check_item.ensures.numbers c.loop-item.invariant.numbers;
      fits = item_fits c.args.given.now c.loop-item.earlier c.check_item.new.earlier c.item-item.result numbered c.loop-item.invariant.fits
          c.in_ok-check_item.ensures.given;
    }
