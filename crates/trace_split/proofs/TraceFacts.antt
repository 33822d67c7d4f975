-- Traces, one after the other.
use Rattle.std.proofs.Common.{◌≡◌, ℕ, ◌+◌, ◌<◌, ◌≤◌, List, [], ◌∷◌, ◌++◌, length, get_or, take, drop, map, Option, None, Some, refl, sym}
use Rattle.std.{proofs.Common.{ap, ◌∙◌, add-one, append-nil, arith}, specs.Option.option_or}
use Rattle.std.proofs.Math.ListN as lists
use Rattle.std.proofs.{Math.Seq.take-suc, lemmas.{Grind.flat_map-append, List.{get_or-map, length-map, take-append-drop, take_all}}}
use Rattle.marple_base.specs.{Inputs.Input, declared.{field.{FieldSet.FieldSet, Packet.Packet}, inputs.Which.{Which, TheVariants.Trace}}}
use Rattle.trace_reader.specs.declared.fault.TraceFault.{TraceFault}
use Rattle.trace_pieces.specs.Wholes.{all_packets, first_fault}
use Rattle.trace_split.specs.Traces.{AreLeft, fault_of_all, packets_of_all}

-- ---- the bytes of the traces

module _ {T : Type 0} (input : T → Which → Input) (traces : List T) (all : List (List ℕ)) (are : AreLeft input traces all) where
  abbrev left : T → Option (List ℕ)
  left trace = (input trace Trace).left

  pub as_many : length all ≡ length traces
  as_many = sym (length-map all Some) ∙ ap length (sym are) ∙ length-map traces left

  pub one_left : (i : ℕ) (trace : T) → i < length traces → left (get_or traces i trace) ≡ Some (get_or all i [])
  one_left i trace within =
      let in_all : i < length all = omega (arith, as_many, within) in
      sym (lists.get_or-map left traces i trace) ∙ ap (λ (xs : List (Option (List ℕ))). get_or xs i (left trace)) are
      ∙ get_or-map Some all i [] (left trace) in_all

  -- the first so many are all
  pub all_taken : (i : ℕ) → length traces ≤ i → take i all ≡ all
  all_taken i past = take_all i all (omega (arith, as_many, past))

-- ---- the first so many of them

take_next : (all : List (List ℕ)) (i : ℕ) → i < length all → take (i + 1) all ≡ take i all ++ (get_or all i [] ∷ [])
take_next all i within = rw add-one (take-suc all i [] within)

all_at : (all : List (List ℕ)) (i : ℕ) → i < length all → all ≡ (take i all ++ (get_or all i [] ∷ [])) ++ drop (i + 1) all
all_at all i within =
    sym (take-append-drop (i + 1) all) ∙ ap (λ (xs : List (List ℕ)). xs ++ drop (i + 1) all) (take_next all i within)

module _ (reads : FieldSet) where
  or_assoc : (a b c : Option TraceFault) → option_or a (option_or b c) ≡ option_or (option_or a b) c
  or_assoc None b c = refl
  or_assoc (Some x) b c = refl

  fault_append : (a b : List (List ℕ)) → fault_of_all (a ++ b) reads ≡ option_or (fault_of_all a reads) (fault_of_all b reads)
  fault_append [] b = refl
  fault_append (x ∷ a) b =
      ap (option_or (first_fault x reads)) (fault_append a b)
      ∙ or_assoc (first_fault x reads) (fault_of_all a reads) (fault_of_all b reads)

  or_none : (o : Option TraceFault) → option_or o None ≡ o
  or_none None = refl
  or_none (Some x) = refl

  -- one trace more
  fault_next : (all : List (List ℕ)) (i : ℕ) → fault_of_all (take i all) reads ≡ None
      → fault_of_all (take i all ++ (get_or all i [] ∷ [])) reads ≡ first_fault (get_or all i []) reads
  fault_next all i none =
      fault_append (take i all) (get_or all i [] ∷ [])
      ∙ ap (λ (o : Option TraceFault). option_or o (option_or (first_fault (get_or all i []) reads) None)) none
      ∙ or_none (first_fault (get_or all i []) reads)

  pub none_more : (all : List (List ℕ)) (i : ℕ) → i < length all → fault_of_all (take i all) reads ≡ None
      → first_fault (get_or all i []) reads ≡ None
      → fault_of_all (take (i + 1) all) reads ≡ None
  none_more all i within none one =
      ap (λ (xs : List (List ℕ)). fault_of_all xs reads) (take_next all i within) ∙ fault_next all i none ∙ one

  pub fault_at : (all : List (List ℕ)) (i : ℕ) (found : TraceFault) → i < length all → fault_of_all (take i all) reads ≡ None
      → first_fault (get_or all i []) reads ≡ Some found
      → fault_of_all all reads ≡ Some found
  fault_at all i found within none one =
      ap (λ (xs : List (List ℕ)). fault_of_all xs reads) (all_at all i within)
      ∙ fault_append (take i all ++ (get_or all i [] ∷ [])) (drop (i + 1) all)
      ∙ ap (λ (o : Option TraceFault). option_or o (fault_of_all (drop (i + 1) all) reads)) (fault_next all i none ∙ one)

  packets_next : (all : List (List ℕ)) (i : ℕ)
      → packets_of_all (take i all ++ (get_or all i [] ∷ [])) reads
      ≡ packets_of_all (take i all) reads ++ all_packets (get_or all i []) reads
  packets_next all i =
      flat_map-append (λ trace. all_packets trace reads) (take i all) (get_or all i [] ∷ [])
      ∙ ap (λ (ps : List Packet). packets_of_all (take i all) reads ++ ps) (append-nil (all_packets (get_or all i []) reads))

  pub packets_more : (all : List (List ℕ)) (i : ℕ) → i < length all
      → packets_of_all (take (i + 1) all) reads ≡ packets_of_all (take i all) reads ++ all_packets (get_or all i []) reads
  packets_more all i within =
      ap (λ (xs : List (List ℕ)). packets_of_all xs reads) (take_next all i within) ∙ packets_next all i

  -- the packets go on
  pub packets_on : (all : List (List ℕ)) (i : ℕ)
      → packets_of_all all reads ≡ packets_of_all (take i all) reads ++ packets_of_all (drop i all) reads
  packets_on all i =
      ap (λ (xs : List (List ℕ)). packets_of_all xs reads) (sym (take-append-drop i all))
      ∙ flat_map-append (λ trace. all_packets trace reads) (take i all) (drop i all)
