-- Traces of which a range is given.
use Rattle.std.proofs.Common.{◌≡◌, ℕ, All, List, [], ◌∷◌, Option, None, Some, get_or, map, refl, sym, ap, subst, ◌∙◌}
use Rattle.std.proofs.lemmas.List.Elements.{All-map}
use Rattle.marple_base.specs.{Inputs.{Input, IsClosed}, declared.inputs.Which.{Which, TheVariants.Trace}}
use Rattle.trace_ranges.specs.{Ranges.{range_input, ranged, window_for, windowed, within}, declared.ranged.{Range.Range, Ranged.Ranged}}
use Rattle.trace_ranges.specs.declared.window.Window.{Window}
use Rattle.trace_split.specs.Traces.{AreLeft, NoneFell, OneRose, faults_of}

module _ {T : Type 0} (input : T → Which → Input) where
  -- what such inputs give
  abbrev pub given_input : Ranged T → Which → Input
  given_input trace = ranged trace.window (input trace.inputs)

  same_faults : (window : Option Window) (one : Which → Input) → (ranged window one Trace).faults ≡ (one Trace).faults
  same_faults None one = refl
  same_faults (Some window) one = refl

  same_closed : (window : Option Window) (one : Which → Input) → IsClosed (one Trace) → IsClosed (ranged window one Trace)
  same_closed None one closed = closed
  same_closed (Some window) one closed = closed

  -- the counts of faults are those of the inputs
  pub inner_faults : (traces : List (Ranged T)) → faults_of given_input traces ≡ faults_of (within input) traces
  inner_faults [] = refl
  inner_faults (trace ∷ traces) =
      ap (λ n. n ∷ faults_of given_input traces) (same_faults trace.window (input trace.inputs))
      ∙ ap (λ ns. (within input trace Trace).faults ∷ ns) (inner_faults traces)

  begun_faults : (range : Option Range) (traces : List (Ranged T))
      → faults_of (within input) (map (windowed range) traces) ≡ faults_of (within input) traces
  begun_faults range [] = refl
  begun_faults range (trace ∷ traces) = ap (λ ns. (within input trace Trace).faults ∷ ns) (begun_faults range traces)

  begun_left : (range : Option Range) (traces : List (Ranged T))
      → map (λ trace. (given_input trace Trace).left) (map (windowed range) traces)
      ≡ map (λ trace. (range_input input range trace Trace).left) traces
  begun_left range [] = refl
  begun_left range (trace ∷ traces) = ap (λ ns. (range_input input range trace Trace).left ∷ ns) (begun_left range traces)

  all_closed : (range : Option Range) (traces : List (Ranged T)) → All (λ trace. IsClosed (input trace.inputs Trace)) traces
      → All (λ trace. IsClosed (given_input trace Trace)) (map (windowed range) traces)
  all_closed range traces closed =
      All-map (λ trace. IsClosed (given_input trace Trace)) (windowed range) traces
      (λ k d less. same_closed (window_for range) (input (get_or traces k d).inputs) (closed k d less))

  -- traces that have begun with a range
  module _ (range : Option Range) (traces begun : List (Ranged T)) (is : begun ≡ map (windowed range) traces) where
    pub closed_of : All (λ trace. IsClosed (input trace.inputs Trace)) traces → All (λ trace. IsClosed (given_input trace Trace)) begun
    closed_of closed = subst (All (λ trace. IsClosed (given_input trace Trace))) (sym is) (all_closed range traces closed)

    pub left_of : (all : List (List ℕ)) → AreLeft (range_input input range) traces all → AreLeft given_input begun all
    left_of all are = ap (map (λ trace. (given_input trace Trace).left)) is ∙ (begun_left range traces ∙ are)

    pub faults_before : faults_of given_input begun ≡ faults_of (within input) traces
    faults_before = inner_faults begun ∙ (ap (faults_of (within input)) is ∙ begun_faults range traces)

    pub one_rose : (new : List (Ranged T)) → OneRose (faults_of given_input begun) (faults_of given_input new)
        → OneRose (faults_of (within input) traces) (faults_of (within input) new)
    one_rose new rose =
        subst (OneRose (faults_of (within input) traces)) (inner_faults new)
        (subst (λ ns. OneRose ns (faults_of given_input new)) faults_before rose)

    pub none_fell : (new : List (Ranged T)) → NoneFell (faults_of given_input begun) (faults_of given_input new)
        → NoneFell (faults_of (within input) traces) (faults_of (within input) new)
    none_fell new fell =
        subst (NoneFell (faults_of (within input) traces)) (inner_faults new)
        (subst (λ ns. NoneFell ns (faults_of given_input new)) faults_before fell)
