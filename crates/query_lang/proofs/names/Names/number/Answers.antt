-- A new text goes last, with its word.
use Rattle.std.proofs.Common.{◌≡◌, ◌≤◌, ◌++◌, ◌∷◌, [], ℕ, length, slice_get, subst, sym, ap, ◌∙◌, arith, Vec, Global}
use Rattle.std.proofs.lemmas.List.{length-map, map-append}
use Rattle.query_lang.specs.Names.{AreNumbered, number_in, texts_of, with_name}
use Rattle.query_lang.proofs.NameFacts.{has_number, number_most, numbered_more, with_known, with_new}
use Rattle.query_lang.proofs.names.Names.number.Goals as goal
use Rattle.query_lang.proofs.names.Names.number.Goals.{After-place_of-at, After-push_reserved, Then-at-len}

-- the place is the number
place : (c : After-place_of-at) → c.place_of-at.result ≡ number_in c.args.self.now c.args.text.now
place c = c.place_of-at.ensures ∙ (ap (λ vectors. number_in (texts_of vectors) c.args.text.now) c.as_slice.ensures.value
    ∙ ap (λ names. number_in names c.args.text.now) c.self.view_is)

-- a known name has a number below that of all names
known : (c : Then-at-len) → with_name c.args.self.now c.args.text.now ≡ c.args.self.now
known c = with_known c.args.self.now c.args.text.now (omega (
  arith,
  c.if-at-len.true,
  c.len.ensures,
  place (goal.at.returns-then-at-len-clause-names c).After-place_of-at,
  length-map c.self.inside.texts.items (λ text. text.items),
  ap length c.self.view_is,
))

pub returns-then-at-len-clause-names : goal.returns-then-at-len-clause-names
returns-then-at-len-clause-names c = sym (known c)

pub returns-then-at-len-clause-text : goal.returns-then-at-len-clause-text
returns-then-at-len-clause-text c =
    rw (place (goal.at.returns-then-at-len-clause-names c).After-place_of-at) (rw (known c) at (has_number c.args.self.now c.args.text.now))

-- a new name has the next number
next : (c : After-push_reserved) → length c.args.self.now ≤ number_in c.args.self.now c.args.text.now
next c = omega (
  arith,
  c.if-at-len.false,
  c.len.ensures,
  place (goal.at.overflow_cast-result-2 c).After-place_of-at,
  length-map c.self.inside.texts.items (λ text. text.items),
  ap length c.self.view_is,
)

-- the texts with the new one
texts : (c : After-push_reserved) → texts_of c.push.new.self.items ≡ c.args.self.now ++ c.args.text.now ∷ []
texts c =
    let all = c.self.inside.texts.items in
    rw (← c.self.view_is, ← c.in_ok-owned.ensures.items)
    (ap texts_of c.in_ok-push.ensures.items ∙ map-append (λ (text : Vec ℕ Global). text.items) all (c.in_ok-owned.owned ∷ []))

pub overflow_cast-result-2 : goal.overflow_cast-result-2
overflow_cast-result-2 c = omega (
  arith,
  c.requires,
  place (goal.at.overflow_cast-result-2 c).After-place_of-at,
  number_most c.args.self.now c.args.text.now,
)

pub invariant_of-self-2 : goal.invariant_of-self-2
invariant_of-self-2 c =
    rw (texts c, c.push_reserved.ensures.items, c.in_ok-reserve.ensures.items, c.print_of-print.ensures)
    (numbered_more c.args.self.now c.self.inside.prints.items c.args.text.now
    (subst (λ names. AreNumbered names c.self.inside.prints.items) c.self.view_is c.self.invariant) (next c))

pub returns-clause-names : goal.returns-clause-names
returns-clause-names c = texts c ∙ sym (with_new c.args.self.now c.args.text.now (next c))

pub returns-clause-text : goal.returns-clause-text
returns-clause-text c =
    rw (place (goal.at.overflow_cast-result-2 c).After-place_of-at)
    (ap (λ names. slice_get names (number_in c.args.self.now c.args.text.now)) (returns-clause-names c)
    ∙ has_number c.args.self.now c.args.text.now)
