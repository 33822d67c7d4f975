-- The query of an accepted text has a plan's text.
use Rattle.marple_laws.proofs.{Differ.NamesDiffer, Lexical.{AreGood, cut_good, typed_good}, NameSizes.{cut_total, total, typed_total}}
use Rattle.marple_laws.proofs.{Prints.{as_many, numbers_new, only_groups, starts}, Queries.checked_differ, TextSize.text_size}
use Rattle.marple_laws.proofs.Words
use Words.{AcceptedHavePlanTexts, IsQueryOf, List, None, Ok, Option, Query, Some, TypedQuery, [], accepted, accepted_starts, accepted_valid}
use Words.{and_then, ap, arith, checked, codes, number_in, parsed_text, parts, refl, staged, subst, sym, typed_names, unless_fault, ℕ, ◌≡◌}
use Words.{◌≤◌}
use Rattle.marple_laws.proofs.Texts.{named_well, names_differ}
use Rattle.query_lang.specs.declared.fault.QueryFault.{QueryFault}
use Rattle.query_laws.proofs.{QueryLaws.query_sound, Steps.{found_first, same_ok}}
use Rattle.stage_plan.specs.Depths.{stage_fault}

-- the names of a text's query
names_good : {text : List ℕ} {query : Query} → IsQueryOf text query → AreGood query.names
names_good h = cut_good _ 0 _ _ (record { once = λ i j t a b. cc; lexical = λ i t a. cc }) h.cut

names_short : {text : List ℕ} {query : Query} → IsQueryOf text query → total (typed_names query.names) ≤ 65690
names_short {text} {query} h = omega (arith, cut_total, typed_total)

-- no stream of an accepted query needs too many stages
fault_none : (o : Option QueryFault) (p q : TypedQuery) → unless_fault o p ≡ Ok q → (o ≡ None) × (p ≡ q)
fault_none None p q e = (refl, same_ok p q e)
fault_none (Some fault) p q e = absurd cc

pub staged_none : (text : List ℕ) (q : TypedQuery) → accepted text ≡ Ok q → stage_fault q ≡ None
unfolding accepted
staged_none text q e =
    let first = found_first (parsed_text text) (λ (z : Query). and_then (checked z) staged) q e in
    let second = found_first (checked first.0) staged q first.2 in
    let none = fault_none _ second.0 q second.2 in
    subst (λ (z : TypedQuery). stage_fault z ≡ None) none.1 none.0

pub plan_texts : AcceptedHavePlanTexts
plan_texts text q e none =
    let p = parts text q e in
    let valid = accepted_valid text q e in
    let same : q.names ≡ typed_names p.0.names = ap (λ (t : TypedQuery). t.names) (query_sound p.0 q p.2).is in
    let good : AreGood q.names = subst AreGood (sym same) (typed_good (names_good p.1)) in
    let few : total q.names ≤ 65690 = subst (λ names. total names ≤ 65690) (sym same) (names_short p.1) in
    let packets : ℕ = number_in (typed_names p.0.names) (codes "pktstream") in
    let differ : NamesDiffer packets q = checked_differ p.0 q p.2 in
    let is : packets ≡ number_in q.names (codes "pktstream") = ap (λ names. number_in names (codes "pktstream")) (sym same) in
    let groups = only_groups q q.prints valid.prints none in
    let well = named_well q is valid good differ in
    let names = names_differ q packets valid good differ in
    let start = starts q.folds (accepted_starts text q e) in
    record {
      groups = well;
      names_differ = names;
      initial = start;
      printed = omega (arith, as_many);
      prints_differ = numbers_new q.prints [] [] (λ i h. absurd h) groups differ.prints;
      short = text_size q valid (staged_none text q e) start differ.columns well few names groups differ.prints;
    }
