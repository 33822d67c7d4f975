-- The place is the first with the text, so it is the text's number.
use Rattle.std.proofs.{Common.{◌≡◌, [], inl, inr, get_or, length, arith, sym, ap, ◌∙◌}, lemmas.{Bool.cases_eq, List.length-map}}
use Rattle.std.{proofs.lemmas.List.Sums.position_or_len_is, specs.Str.bytes_eq}
use Rattle.query_lang.{specs.Names.texts_of, proofs.NameFacts.{printed_at, text_at}}
use Rattle.query_lang.proofs.names.place_of.Goals as goal
use Rattle.query_lang.proofs.names.place_of.Goals.{After-as_slice}

-- the text at a place
here : (c : After-as_slice) → get_or (texts_of c.args.texts.now) c.loop-at.at [] ≡ c.as_slice.result.now
here c = text_at c.args.texts.now c.loop-at.at c.index-texts-at.result c.index-texts-at.is c.loop-at-test.true
    ∙ sym c.as_slice.ensures.value

pub is_same-requires-clause-known : goal.is_same-requires-clause-known
is_same-requires-clause-known c = rw (← here (goal.at.is_same-requires-clause-known c).After-as_slice) (printed_at (texts_of c.args.texts.now) c.args.prints.now c.loop-at.at c.requires.prints
    (omega (arith, c.loop-at-test.true, length-map c.args.texts.now (λ text. text.items))))

pub returns-then-is_same : goal.returns-then-is_same
returns-then-is_same c = sym (position_or_len_is (bytes_eq c.args.text.now) (texts_of c.args.texts.now) c.loop-at.at []
    (omega (arith, c.loop-at-test.true, length-map c.args.texts.now (λ text. text.items))) c.loop-at.invariant
    (λ low. ap (bytes_eq c.args.text.now) (here (goal.at.returns-then-is_same c).After-as_slice)
    ∙ (sym c.is_same.ensures ∙ c.if-is_same.true)))

pub loop-at-preserved : goal.loop-at-preserved
loop-at-preserved c k low = elim (cases_eq k c.loop-at.at) [
  | inl e ↦ rw (e, here (goal.at.loop-at-preserved c).After-as_slice) (sym c.is_same.ensures ∙ c.if-is_same.false)
  | inr apart ↦ c.loop-at.invariant k (omega (arith, low, apart))
]

pub returns : goal.returns
returns c =
    let all : c.loop-at.at ≡ length c.args.texts.now = omega (arith, c.loop-at-test.false, c.loop-at.auto.at-end) in
    let many = length-map c.args.texts.now (λ text. text.items) in
    sym (position_or_len_is (bytes_eq c.args.text.now) (texts_of c.args.texts.now) (length c.args.texts.now) [] (omega (arith, many))
    (λ k low. c.loop-at.invariant k (omega (arith, all, low))) (λ low. absurd (omega (arith, low, many))))
