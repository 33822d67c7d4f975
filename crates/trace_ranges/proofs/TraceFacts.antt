-- Ranges next to one another have the packets of the range that they are together.
use Rattle.std.proofs.Common.{◌≡◌, ◌⊎◌, ℕ, ◌+◌, ◌-◌, ◌≤◌, List, [], ◌∷◌, ◌++◌, length, Option, None, Some, Result, Ok, Err, refl, sym, ap}
use Rattle.std.proofs.Common.{◌∙◌, subst, inl, inr, append-nil, length-append, arith}
use Rattle.marple_base.specs.declared.field.{FieldSet.FieldSet, Packet.Packet}
use Rattle.csv.specs.declared.parser.State.TheVariants as st
use Rattle.trace_reader.specs.{Reading.records, Traces.{Contents, Layout, layout_of, rest_of}, declared.fault.TraceFault.TraceFault}
use Rattle.trace_pieces.{proofs.ContentFacts.{after, after_none, piece_refused, piece_sent}, specs.Machine.{EndsBetween, IsHead}}
use Rattle.trace_pieces.specs.Wholes.{all_contents, all_packets, contents_by, contents_of, first_fault}
use Rattle.trace_ranges.specs.{Laws.{AreBounds, NoneIsFaulty, RangesAreTheTrace, packets_of_ranges}, Ranges.{begins, kept, range_text}}
use Rattle.trace_ranges.specs.declared.spot.Spot.TheVariants as spot
use Rattle.trace_ranges.proofs.{EndFacts.{ends_or_none, first_reader}, HeaderFacts.{HasHeader, HasNoRecords, header_of}}
use Rattle.trace_ranges.proofs.{RangeFacts.{begins_apart, ranges_have_all, ranges_join}, WindowFacts.begun}

-- ---- a header, and nothing after it

no_packets : (packets more : List Packet) → more ≡ packets ++ more → packets ≡ []
no_packets [] more e = refl
no_packets (p ∷ ps) more e = absurd (omega (arith, ap length e, length-append (p ∷ ps) more))

module _ (head : List ℕ) (reads : FieldSet) (is : IsHead head) where
  header_faultless : (more : List ℕ) → first_fault (head ++ more) reads ≡ None → first_fault (head ++ []) reads ≡ None
  header_faultless more none = by (first_fault (head ++ []) reads) refl
    where
      by : (o : Option TraceFault) → first_fault (head ++ []) reads ≡ o → o ≡ None
      by None e = refl
      by (Some found) e =
          absurd (cc (none, e, ap (λ (x : Contents). x.fault) (piece_refused head [] more reads found is refl e)))

  header_empty : (more : List ℕ) → first_fault (head ++ more) reads ≡ None
      → all_contents (head ++ []) reads ≡ record { packets = []; fault = None }
  header_empty more none =
      let own = header_faultless more none in
      let same = ap (λ (x : Contents). x.packets) (piece_sent head [] more reads is refl own) in
      let empty = no_packets (all_packets (head ++ []) reads) (all_packets (head ++ more) reads) same in
      ap (λ ps. record { packets = ps; fault = first_fault (head ++ []) reads }) empty
      ∙ ap (λ (f : Option TraceFault). record { packets = []; fault = f }) own

-- these contents, and none after them
none_after : (c : Contents) → c.fault ≡ None → c ≡ after c.packets (record { packets = []; fault = None })
none_after c none =
    ap (λ (f : Option TraceFault). record { packets = c.packets; fault = f }) none
    ∙ ap (λ (ps : List Packet). record { packets = ps; fault = None }) (sym (append-nil c.packets))

-- ---- two ranges

abbrev Joined : List ℕ → FieldSet → Type 0
Joined text reads = (from middle to : ℕ) → from ≤ middle → middle ≤ to → first_fault (range_text from middle text) reads ≡ None
    → all_contents (range_text from to text) reads
    ≡ after (all_packets (range_text from middle text) reads) (all_contents (range_text middle to text) reads)

empty_by : (o : Result Layout TraceFault) (rows : List (List (List ℕ))) → rows ≡ [] → (contents_by o rows).packets ≡ []
unfolding contents_of
empty_by (Err found) rows e = refl
empty_by (Ok layout) rows e = ap (λ rs. (contents_of layout 1 rs).packets) e

empty_text : (text : List ℕ) (reads : FieldSet) → rest_of (records text) ≡ [] → all_packets text reads ≡ []
unfolding all_contents
empty_text text reads none = empty_by (layout_of (records text) reads) (rest_of (records text)) none

joined_whole : (text : List ℕ) (reads : FieldSet) → HasNoRecords spot.Start [] text → Joined text reads
joined_whole text reads h from middle to a b none =
    ap (λ t. all_contents t reads) (h.all from to)
    ∙ (sym (after_none (all_contents text reads))
    ∙ (ap (λ ps. after ps (all_contents text reads)) (sym (empty_text text reads h.none))
    ∙ (ap (λ t. after (all_packets t reads) (all_contents text reads)) (sym (h.all from middle))
    ∙ ap (λ t. after (all_packets (range_text from middle text) reads) (all_contents t reads)) (sym (h.all middle to)))))

two_pieces : (head first second : List ℕ) (reads : FieldSet) → IsHead head → EndsBetween first ⊎ (second ≡ [])
    → first_fault (head ++ first) reads ≡ None
    → all_contents (head ++ (first ++ second)) reads
    ≡ after (all_packets (head ++ first) reads) (all_contents (head ++ second) reads)
two_pieces head first second reads is ends none = elim ends [
  | inl between ↦ piece_sent head first second reads is between none
  | inr empty ↦
      ap (λ xs. all_contents (head ++ (first ++ xs)) reads) empty
      ∙ (ap (λ xs. all_contents (head ++ xs) reads) (append-nil first)
      ∙ (none_after (all_contents (head ++ first) reads) none
      ∙ (ap (after (all_packets (head ++ first) reads)) (sym (header_empty head reads is first none))
      ∙ ap (λ xs. after (all_packets (head ++ first) reads) (all_contents (head ++ xs) reads)) (sym empty))))
]

joined_header : (text : List ℕ) (reads : FieldSet) → HasHeader spot.Start [] text → Joined text reads
joined_header text reads h from middle to a b none =
    let f = from - length h.header in
    let m = middle - length h.header in
    let t = to - length h.header in
    let first = kept (begun h.next (begins f m) f m) h.rest in
    let second = kept (begun h.next (begins m t) m t) h.rest in
    let low : f ≤ m = omega (arith, a) in
    let high : m ≤ t = omega (arith, b) in
    let ends = ends_or_none h.rest h.next st.StartRecord (begins f m) (begins m t) f m t low (begins_apart f m t low)
    (first_reader (begins f m) h.next h.between) in
    let own : range_text from middle text ≡ h.header ++ first = h.range from middle in
    ap (λ xs. all_contents xs reads) (h.range from to ∙ ap (λ xs. h.header ++ xs) (ranges_join h.next f m t h.rest low high))
    ∙ (two_pieces h.header first second reads h.head ends (subst (λ xs. first_fault xs reads ≡ None) own none)
    ∙ (ap (λ xs. after (all_packets xs reads) (all_contents (h.header ++ second) reads)) (sym own)
    ∙ ap (λ xs. after (all_packets (range_text from middle text) reads) (all_contents xs reads)) (sym (h.range middle to))))

joined : (text : List ℕ) (reads : FieldSet) → Joined text reads
joined text reads = elim (header_of text [] spot.Start refl) [
  | inl none ↦ joined_whole text reads none
  | inr header ↦ joined_header text reads header
]

-- ---- all of them

range_is_all : (text : List ℕ) (to : ℕ) → length text ≤ to → range_text 0 to text ≡ text
range_is_all text to less = elim (header_of text [] spot.Start refl) [
  | inl none ↦ none.all 0 to
  | inr h ↦
      let zero_left : 0 - length h.header ≡ 0 = omega arith in
      let few : length h.rest ≤ to - length h.header = omega (arith, less, ap length h.is, length-append h.header h.rest) in
      h.range 0 to
      ∙ (ap (λ n. h.header ++ kept (begun h.next (begins n (to - length h.header)) n (to - length h.header)) h.rest) zero_left
      ∙ (ap (λ xs. h.header ++ xs) (ranges_have_all h.next (to - length h.header) h.rest few) ∙ sym h.is))
]

abbrev last_of : ℕ → List ℕ → ℕ
last_of to [] = to
last_of to (next ∷ more) = last_of next more

last_bound : (text : List ℕ) (from : ℕ) (more : List ℕ) → AreBounds text from more → (from ≤ last_of from more) × (length text ≤ last_of from more)
last_bound text from [] bounds = (omega arith, bounds)
last_bound text from (to ∷ more) bounds =
    let later = last_bound text to more bounds.1 in (omega (arith, bounds.0, later.0), later.1)

all_joined : (text : List ℕ) (reads : FieldSet) (from to : ℕ) (more : List ℕ) → AreBounds text from (to ∷ more)
    → NoneIsFaulty text reads from (to ∷ more)
    → all_contents (range_text from (last_of to more) text) reads
    ≡ record { packets = packets_of_ranges text reads from (to ∷ more); fault = None }
all_joined text reads from to [] bounds none =
    ap (λ (f : Option TraceFault). record { packets = all_packets (range_text from to text) reads; fault = f }) none.0
    ∙ ap (λ (ps : List Packet). record { packets = ps; fault = None }) (sym (append-nil (all_packets (range_text from to text) reads)))
all_joined text reads from to (next ∷ more) bounds none =
    let last = last_of next more in
    let high : to ≤ last = (last_bound text to (next ∷ more) bounds.1).0 in
    joined text reads from to last bounds.0 high none.0
    ∙ ap (after (all_packets (range_text from to text) reads)) (all_joined text reads to next more bounds.1 none.1)

pub ranges_are_the_trace_lem : RangesAreTheTrace
ranges_are_the_trace_lem text reads to more bounds none =
    ap (λ t. all_contents t reads) (sym (range_is_all text (last_of to more) (last_bound text to more bounds.1).1))
    ∙ all_joined text reads 0 to more bounds none
