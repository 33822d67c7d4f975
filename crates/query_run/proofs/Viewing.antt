-- A run with views: how far it is, and how it breaks off.
use Rattle.std.proofs.Common.{◌≡◌, ℕ, zero, suc, ◌+◌, ◌<◌, ◌≤◌, ◌%◌, List, [], ◌++◌, length, Option, None, Some, refl, sym, ap, ◌∙◌, subst}
use Rattle.std.proofs.{Common.{arith, append-nil}, KnownBytes.Appends-trans, Math.Nat.mod-eq_of_lt, lemmas.List.length-map}
use Rattle.std.specs.Io.KnownBytes.{Appends}
use Rattle.marple_base.specs.declared.field.Packet.{Packet}
use Rattle.stage_plan.specs.Packets.{AreWhole}
use Rattle.trace_drive.specs.{Answers.{BreaksOff, answer_for}, Drives.{geometry_for, words_of}, Replays.{IsUnderWay, replay_pipeline}}
use Rattle.trace_drive.specs.declared.{answer.RunError.RunError, replay.Replay.Replay, schedule.Schedule.Schedule}
use Rattle.trace_drive.proofs.Breaking.{none_some, part_breaks, reader_breaks}
use Rattle.trace_reader.specs.{Faults.IfRefused, declared.fault.{TraceAnswer.TraceAnswer, TraceFault.TraceFault}}
use Rattle.query_run.specs.Views.{IsAsFarAs, view_text, views_text, views_up_to}
use Rattle.query_run.proofs.ViewTexts.{all_views, begins, next_view, no_views, parted, whole_text}

-- as many words as packets
pub as_long : (all : List Packet) → length (words_of all) ≡ length all
as_long all = length-map all (λ packet. packet.words)

-- the pipeline is as far as the packets that were taken
pub as_far : {ways : ℕ} (schedule : Schedule) (all : List Packet) (count : ℕ) (replay : Replay ways) → 0 < ways → 0 < schedule.buckets
    → AreWhole (words_of all) → IsUnderWay schedule all count replay
    → IsAsFarAs (geometry_for ways schedule) (words_of all) count (replay_pipeline replay)
as_far schedule all count replay some_ways some_buckets whole way = record {
  room = (some_buckets, some_ways);
  whole = whole;
  within = let inside : count ≤ length all = way.within in omega (arith, as_long all);
  follows = way.follows;
}

-- 0 is a multiple of each number
pub first_multiple : (every : ℕ) → 0 < every → 0 % every ≡ 0
first_multiple every some = mod-eq_of_lt some

-- views of these packets
module _ (text : List (List ℕ) → List ℕ) (every : ℕ) (all : List Packet) where
  -- none before the first packet, where views are asked for or not
  pub none_yet : views_up_to text every (words_of all) 0 ≡ []
  unfolding views_up_to
  none_yet = refl

  -- none at all, where none are asked for
  pub none_asked : (number : ℕ) → every ≡ 0 → views_up_to text every (words_of all) number ≡ []
  none_asked number is = ap (λ n. views_up_to text n (words_of all) number) is ∙ no_views text (words_of all) number

  -- one more view was written
  pub one_written : (old mid new : Option (List ℕ)) (number : ℕ) → number % every ≡ 0 → 0 < every
      → Appends old mid (views_up_to text every (words_of all) number) → Appends mid new (view_text text (words_of all) (number + every))
      → Appends old new (views_up_to text every (words_of all) (number + every))
  one_written old mid new number multiple some before view =
      subst (Appends old new) (sym (next_view text every (words_of all) number multiple some))
      (Appends-trans old mid new (views_up_to text every (words_of all) number) (view_text text (words_of all) (number + every)) before
      view)

  -- all views were written, where fewer packets were left than a view needs
  pub all_shown : (number : ℕ) → number % every ≡ 0 → number ≤ length all → length all < number + every
      → views_up_to text every (words_of all) (length all) ≡ views_up_to text every (words_of all) number
  all_shown number multiple within few =
      subst (λ n. views_up_to text every (words_of all) n ≡ views_up_to text every (words_of all) number) (as_long all)
      (all_views text every (words_of all) number multiple (omega (arith, as_long all)) (omega (arith, as_long all)))

  -- the views of all packets, and then their tables
  pub text_is : views_text text every (words_of all) ≡ views_up_to text every (words_of all) (length all) ++ text (words_of all)
  text_is = whole_text text every (words_of all) ∙ ap (λ n. views_up_to text every (words_of all) n ++ text (words_of all)) (as_long all)

  pub all_written : (old mid new : Option (List ℕ)) → Appends old mid (views_up_to text every (words_of all) (length all))
      → Appends mid new (text (words_of all)) → Appends old new (views_text text every (words_of all))
  all_written old mid new views tables =
      subst (Appends old new) (sym text_is) (Appends-trans old mid new (views_up_to text every (words_of all) (length all))
      (text (words_of all)) views tables)

  module _ {O : Type 0} (taken : O → Option (List ℕ)) (faults : O → ℕ) (fault : Option TraceFault) (old mid : O) where
    -- the reader broke off after some views
    pub reader_broke : (number : ℕ) → fault ≡ None → number ≤ length all
        → Appends (taken old) (taken mid) (views_up_to text every (words_of all) number)
        → (answer : TraceAnswer) → IfRefused answer (λ found. fault ≡ Some found)
        → BreaksOff taken faults (views_text text every (words_of all)) fault old mid (answer_for answer)
    reader_broke number sound within before answer refused =
        let front = begins text every (words_of all) number (omega (arith, as_long all)) in
        reader_breaks taken faults (views_text text every (words_of all)) fault old mid (views_up_to text every (words_of all) number)
        front.0 front.1 (λ found is. absurd (none_some found fault sound is)) before answer refused

    -- the next view broke off
    pub view_broke : (new : O) (number : ℕ) → fault ≡ None → number % every ≡ 0 → 0 < every → number + every ≤ length all
        → Appends (taken old) (taken mid) (views_up_to text every (words_of all) number)
        → faults old ≤ faults mid → (answer : RunError) → BreaksOff taken faults (view_text text (words_of all) (number + every)) None mid
        new answer → BreaksOff taken faults (views_text text every (words_of all)) fault old new answer
    view_broke new number sound multiple some within before later answer broke =
        let front = parted text every (words_of all) number multiple some (omega (arith, as_long all)) in
        part_breaks taken faults (views_text text every (words_of all)) fault old mid new (views_up_to text every (words_of all) number)
        (view_text text (words_of all) (number + every)) front.0 front.1 sound before later answer broke

    -- the reader broke off after all views, of which there are some only where the packets are sound
    pub rest_broke : (every ≡ 0 → mid ≡ old) → (0 < every → fault ≡ None)
        → Appends (taken old) (taken mid) (views_up_to text every (words_of all) (length all))
        → (answer : TraceAnswer) → IfRefused answer (λ found. fault ≡ Some found)
        → BreaksOff taken faults (views_text text every (words_of all)) fault old mid (answer_for answer)
    rest_broke untouched sound views answer refused =
        reader_breaks taken faults (views_text text every (words_of all)) fault old mid (views_up_to text every (words_of all) (length all))
        (text (words_of all)) text_is (λ found is. by_number every refl found is) views answer refused
      where
        by_number : (n : ℕ) → every ≡ n → (found : TraceFault) → fault ≡ Some found
            → (views_up_to text every (words_of all) (length all) ≡ []) × (mid ≡ old)
        by_number zero is found e = (none_asked (length all) is, untouched is)
        by_number (suc n) is found e = absurd (none_some found fault (sound (omega arith)) e)

    -- the report of all packets broke off
    pub end_broke : (new : O) → fault ≡ None → Appends (taken old) (taken mid) (views_up_to text every (words_of all) (length all))
        → faults old ≤ faults mid → (answer : RunError) → BreaksOff taken faults (text (words_of all)) None mid new answer
        → BreaksOff taken faults (views_text text every (words_of all)) fault old new answer
    end_broke new sound views later answer broke =
        let views_are = views_up_to text every (words_of all) (length all) in
        part_breaks taken faults (views_text text every (words_of all)) fault old mid new views_are (text (words_of all)) []
        (text_is ∙ ap (λ xs. views_are ++ xs) (sym (append-nil (text (words_of all))))) sound views later answer broke
