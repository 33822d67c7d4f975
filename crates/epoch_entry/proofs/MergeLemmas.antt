-- The state that an entry is merged into.
use Rattle.std.proofs.Common.{◌≡◌, ◌≢◌, ℕ, ◌<◌, ◌≤◌, Bool, true, false, not, List, min, length, slice_index, take, refl, sym, ap, ◌∙◌}
use Rattle.std.{proofs.{Common.arith, lemmas.List.{take_all, ext_get_or}}, specs.Prelude.fold}
use Rattle.query_lang.specs.{declared.fold.TypedFold.TypedFold, Words.AreWords, Folds.{folded, fold_states}}
use Rattle.epoch_model.specs.Keys.{ArgRow}
use Rattle.coeff_algebra.specs.{Elements.{Elements, ElementLaws}, Maps.{map_apply, table_of}}
use Rattle.fold_code.specs.Meaning.{code_step}
use Rattle.fold_class.specs.{declared.program.FoldProgram.FoldProgram, Depth.is_history, Step.{places, dimension, linear_places, words_at}}
use Rattle.fold_class.specs.{Program.IsProgramOf, Translations.translated}
use Rattle.fold_class.proofs.{PlaceLemmas.{map_at, place_at, places_less}, LawLemmas.forgets}
use Rattle.epoch_entry.specs.{Entries.{linear_rank, logged_rows, PartsStand, WritesInto}, Shape.IsShaped, Absorbing.IsCarried}
use Rattle.epoch_entry.specs.Identity.{unit_at}
use Rattle.epoch_entry.proofs.{FoldLemmas.{length-folded, code_folds}, EntryLemmas.{dimension_is, logged_count}}
use Rattle.epoch_entry.proofs.{MapFacts.place_word, MoverLemmas.{moved_add, mover_moves}}

module _ {C : Type 0} (k : Elements C) (from_words : List ℕ → C) (size : ℕ) (p : FoldProgram) (count : ℕ) (log history map' : List ℕ)
    (rows : List ArgRow) (st : PartsStand k from_words size p count log history map' rows)
    (f : TypedFold) (h : IsProgramOf f p) (state : List ℕ) (same_size : length state ≡ length p.layout.initial) (words : AreWords state)
    (n : ℕ) (least : n ≡ min count p.depth) (replayed : List ℕ) (runs : replayed ≡ fold (code_step p.code) state
    (logged_rows p.code.args n log)) where
  long : length state ≡ fold_states f
  long = same_size ∙ ap length h.layout.initial ∙ h.valid.starts

  number : count ≡ min p.depth (length rows)
  number = logged_count _ _ _ _ _ (st.stands f h).logged

  all_logged : n ≡ count
  all_logged = omega (arith, least, number)

  -- the log was run
  front : replayed ≡ fold (code_step p.code) state (take p.depth rows)
  front =
      runs
      ∙ ap (λ m. fold (code_step p.code) state (logged_rows p.code.args m log)) all_logged
      ∙ ap (λ m. fold (code_step p.code) state (logged_rows m count log)) (h.code.args ∙ sym h.layout.args)
      ∙ ap (fold (code_step p.code) state) (st.stands f h).logged

  -- an epoch that is logged whole
  pub short_merged : n < p.depth → replayed ≡ fold (code_step p.code) state rows
  short_merged less = front ∙ ap (fold (code_step p.code) state) (take_all p.depth rows (omega (arith, number, all_logged, less)))

  module _ (full : n ≡ p.depth) (merged : List ℕ) (size_kept : length merged ≡ length state)
      (carried : IsCarried k from_words size p history map' replayed merged) where
    enough : p.depth ≤ length rows
    enough = omega (arith, number, all_logged, full)

    start : replayed ≡ folded f state (take p.depth rows)
    start = front ∙ code_folds f p.code h.code state (take p.depth rows) long

    abbrev lin : ℕ → Bool
    lin v = not (is_history f v)

    remembers : (v : ℕ) → v < fold_states f → is_history f v ≡ true → slice_index merged v ≡ slice_index (folded f state rows) v
    remembers v lt e =
        let j = length (places (is_history f) v) in
        let less = places_less _ v _ lt e in
        let here = place_at _ v _ lt e in
        let inside : j < length p.layout.history = omega (arith, less, ap length h.layout.history) in
        ap (slice_index merged) (sym (ap (λ l. slice_index l j) h.layout.history ∙ here))
        ∙ carried.remembered j inside
        ∙ ap (λ l. slice_index l j) ((st.stands f h).history ∙ forgets f _ _ _ _ h.valid h.depth h.valid.starts
        long enough)
        ∙ map_at _ _ j less
        ∙ ap (slice_index (folded f state rows)) here

    carries : (v : ℕ) → v < fold_states f → lin v ≡ true → slice_index merged v ≡ slice_index (folded f state rows) v
    carries v lt e =
        let i = length (places lin v) in
        let less = places_less _ v _ lt e in
        let here = place_at _ v _ lt e in
        let inside : i < linear_rank p = omega (arith, less, ap length h.layout.linear) in
        let T = table_of from_words size (linear_rank p) map' in
        ap (slice_index merged) (sym (ap (λ l. slice_index l i) h.layout.linear ∙ here))
        ∙ carried.linear i inside
        ∙ ap (λ m. k.to_word (map_apply k m T (λ j. k.embed (slice_index (words_at replayed p.layout.linear) j)) i)) (dimension_is f p h)
        ∙ ap (λ l. k.to_word (map_apply k (dimension f) T (λ j. k.embed (slice_index (words_at replayed l) j)) i)) h.layout.linear
        ∙ ap (λ s. k.to_word (map_apply k (dimension f) T (λ j. k.embed (slice_index (words_at s (linear_places f)) j)) i)) start
        ∙ (st.stands f h).carries state long words i (omega (arith, inside, dimension_is f p h))
        ∙ map_at _ _ i less
        ∙ ap (slice_index (folded f state rows)) here

    each : (v : ℕ) → v < fold_states f → (b : Bool) → is_history f v ≡ b → slice_index merged v ≡ slice_index (folded f state rows) v
    each v lt true e = remembers v lt e
    each v lt false e = carries v lt (ap not e)

    pub full_merged : merged ≡ fold (code_step p.code) state rows
    full_merged =
        ext_get_or 0 merged (folded f state rows) (size_kept ∙ sym (length-folded f state rows))
        (λ v lt. each v (omega (arith, lt, size_kept, long)) (is_history f v) refl)
        ∙ sym (code_folds f p.code h.code state rows long)

abbrev Written : {C : Type 0} → Elements C → (List ℕ → C) → ℕ → List ℕ → List ℕ → List ℕ → List ℕ → Type 0
Written k from_words size map' state written places =
    (i : ℕ) → i < length places → slice_index written (slice_index places i)
    ≡ k.to_word (map_apply k (length places) (table_of from_words size (length places) map')
    (λ j. k.embed (slice_index (words_at state places) j)) i)

-- a state with the linear variables written first, and then the history
pub carried_of : {C : Type 0} (k : Elements C) (from_words : List ℕ → C) (size : ℕ) (p : FoldProgram)
    (history map' state first last x y places others : List ℕ) → IsShaped p → places ≡ p.layout.linear → others ≡ p.layout.history →
    x ≡ words_at state places →
    ((i : ℕ) → i < length places → slice_index y i ≡ k.to_word (map_apply k (length places) (table_of from_words size (length places) map')
    (λ j. k.embed (slice_index x j)) i)) →
    ((i : ℕ) → i < length places → slice_index first (slice_index places i) ≡ slice_index y i) →
    ((v : ℕ) → ((i : ℕ) → i < length others → slice_index others i ≢ v) → slice_index last v ≡ slice_index first v) →
    ((i : ℕ) → i < length others → slice_index last (slice_index others i) ≡ slice_index history i)
    → IsCarried k from_words size p history map' state last
carried_of k from_words size p history map' state first last x y places others shape ep eo gathered applied written kept remembered =
    record {
      linear = λ i h. kept (slice_index p.layout.linear i) (λ j lt. apart j i lt h) ∙ of_linear i h;
      remembered = rw eo at remembered;
    }
  where
    of_linear : Written k from_words size map' state first p.layout.linear
    of_linear =
        rw (← ep) (λ i h. written i h ∙ applied i h ∙ ap (λ ws. k.to_word
        (map_apply k (length places) (table_of from_words size (length places) map')
        (λ j. k.embed (slice_index ws j)) i)) gathered)

    apart : (j i : ℕ) → j < length others → i < length p.layout.linear → slice_index others j ≢ slice_index p.layout.linear i
    apart = rw eo shape.apart

-- a state whose linear variables moved by the last column of a map that is the identity beside it
pub added_carries : {C : Type 0} {is_element : C → Type 0} {k : Elements C} → ElementLaws is_element k → (from_words : List ℕ → C)
    (size : ℕ) (p : FoldProgram) (history map' state added : List ℕ) → WritesInto k from_words size p → length p.layout.history ≡ 0
    → AreWords state → ((i j : ℕ) → i < linear_rank p → j < linear_rank p
    → table_of from_words size (linear_rank p) map' i j ≡ unit_at k i j) →
    ((i : ℕ) → i < linear_rank p → slice_index added (slice_index p.layout.linear i)
    ≡ k.to_word (k.add (k.embed (slice_index state (slice_index p.layout.linear i)))
    (table_of from_words size (linear_rank p) map' i (linear_rank p))))
    → IsCarried k from_words size p history map' state added
added_carries {k = k} laws from_words size p history map' state added writes alone words unit moved =
    let n = linear_rank p in
    let T = table_of from_words size n map' in
    let column : ℕ → ℕ = λ i. k.to_word (T i n) in record {
      linear = λ i lt.
          moved i lt
          ∙ moved_add laws p.algebra writes.algebra writes.zero_word p.algebra writes.algebra _ _
          ∙ ap (λ x. translated p.algebra x (column i)) (laws.to_word-embed _ ∙ sym (map_at _ _ i lt))
          ∙ sym (mover_moves laws p.algebra writes.algebra writes.zero_word n column T (record { unit = unit; constants = λ j less. refl })
          _ (place_word state p.layout.linear words) i lt);
      remembered = λ i lt. absurd (omega (arith, lt, alone));
    }
