-- How a run breaks off, at whatever step.
use Rattle.std.proofs.Common.{◌≡◌, ℕ, ◌≤◌, List, [], ◌++◌, Option, None, Some, length, refl, sym, subst, arith, inl, inr, length-append}
use Rattle.std.{proofs.{Common.{Result, Ok, Err, IfErr, OnOk}, Math.Seq.take-append_seam, KnownBytes.Appends-nil}, specs.Result.IsErrAnd}
use Rattle.std.specs.Io.KnownBytes.{Appends}
use Rattle.marple_base.specs.{Faults.Rose, Sink.TakesFront, declared.write_error.WriteError.WriteError}
use Rattle.marple_base.specs.declared.write_error.WriteError.TheVariants as writes
use Rattle.trace_reader.specs.{Faults.IfRefused, declared.fault.TraceAnswer.TraceAnswer}
use Rattle.trace_reader.specs.declared.fault.TraceAnswer.TheVariants as answers
use Rattle.trace_reader.specs.declared.fault.TraceFault.{TraceFault}
use Rattle.trace_drive.specs.{Answers.{BreaksOff, answer_for, answer_of, text_unless}, declared.answer.RunError.RunError}
use Rattle.trace_drive.{specs.declared.answer.RunError.TheVariants.{Refused, Memory, Failed}, proofs.Pieces.TakesFront-more}

-- a fact about the answer in a result
pub err_is : {A E : Type 0} (P : E → Type 0) (result : Result A E) (answer : E) → IsErrAnd result (λ found. found ≡ answer) → P answer
    → IfErr result P
err_is P (Ok done) answer is known = tt
err_is P (Err found) answer is known = subst P (sym is) known

-- what follows from what is known of a result
pub then_ok : {A E : Type 0} (result : Result A E) (P Q : Type 0) → (P → Q) → OnOk result P → OnOk result Q
then_ok (Ok done) P Q so known = so known
then_ok (Err found) P Q so known = tt

pub then_err : {A E : Type 0} (result : Result A E) (P Q : E → Type 0) → ((answer : E) → P answer → Q answer) → IfErr result P
    → IfErr result Q
then_err (Ok done) P Q so known = tt
then_err (Err found) P Q so known = so found known

pub nothing_taken : (bytes : Option (List ℕ)) (text : List ℕ) → TakesFront bytes bytes text
nothing_taken bytes text = record { count = 0; within = omega arith; taken = Appends-nil bytes }

-- all of the first part was taken
pub part_taken : (old new : Option (List ℕ)) (done rest : List ℕ) → Appends old new done → TakesFront old new (done ++ rest)
part_taken old new done rest whole = record {
  count = length done;
  within = omega (arith, length-append done rest);
  taken = subst (Appends old new) (sym (take-append_seam done rest)) whole;
}

pub rose_since : (old mid new : ℕ) → old ≤ mid → Rose mid new → Rose old new
rose_since old mid new later (inl less) = inl (omega arith)
rose_since old mid new later (inr last) = inr last

pub none_some : {X : Type 0} (x : X) (o : Option X) → o ≡ None → o ≡ Some x → ⊥
none_some x o a b = cc

module _ {O : Type 0} (taken : O → Option (List ℕ)) (faults : O → ℕ) (text : List ℕ) (fault : Option TraceFault) where
  -- out of memory, with nothing written
  pub out_of_memory : (out : O) → BreaksOff taken faults text fault out out Memory
  out_of_memory out = nothing_taken (taken out) (text_unless fault text)

  -- out of memory after some of a sound trace's text was written; of a trace that may have a fault nothing was written
  pub memory_after : (old new : O) (done rest : List ℕ) → text ≡ done ++ rest → ((found : TraceFault) → fault ≡ Some found → done ≡ [])
      → Appends (taken old) (taken new) done
      → BreaksOff taken faults text fault old new Memory
  memory_after old new done rest is none whole = by_fault fault refl
    where
      by_fault : (f : Option TraceFault) → fault ≡ f → TakesFront (taken old) (taken new) (text_unless f text)
      by_fault None e = subst (TakesFront (taken old) (taken new)) (sym is) (part_taken (taken old) (taken new) done rest whole)
      by_fault (Some found) e = part_taken (taken old) (taken new) [] [] (subst (Appends (taken old) (taken new)) (none found e) whole)

  -- the reader broke off; of a trace that may have a fault nothing was written
  pub reader_breaks : (old new : O) (done rest : List ℕ) → text ≡ done ++ rest
      → ((found : TraceFault) → fault ≡ Some found → (done ≡ []) × (new ≡ old)) → Appends (taken old) (taken new) done
      → (answer : TraceAnswer) → IfRefused answer (λ found. fault ≡ Some found)
      → BreaksOff taken faults text fault old new (answer_for answer)
  reader_breaks old new done rest is none whole (answers.Refused found) e = (e, (none found e).1)
  reader_breaks old new done rest is none whole answers.Memory e = memory_after old new done rest is (λ found f. (none found f).0) whole

  -- a write failed after what was written
  pub write_breaks : (old mid new : O) (done piece rest : List ℕ) → text ≡ done ++ (piece ++ rest) → fault ≡ None
      → Appends (taken old) (taken mid) done → faults old ≤ faults mid
      → Rose (faults mid) (faults new) → TakesFront (taken mid) (taken new) piece → BreaksOff taken faults text fault old new Failed
  write_breaks old mid new done piece rest is sound whole later rose front = (
    sound,
    rose_since (faults old) (faults mid) (faults new) later rose,
    subst (TakesFront (taken old) (taken new)) (sym is)
        (TakesFront-more (taken old) (taken mid) (taken new) done piece rest whole front),
  )

  -- a part of the text broke off after what was written
  pub part_breaks : (old mid new : O) (done piece rest : List ℕ) → text ≡ done ++ (piece ++ rest) → fault ≡ None
      → Appends (taken old) (taken mid) done → faults old ≤ faults mid
      → (answer : RunError) → BreaksOff taken faults piece None mid new answer → BreaksOff taken faults text fault old new answer
  part_breaks old mid new done piece rest is sound whole later (Refused found) broke = absurd (none_some found None refl broke.0)
  part_breaks old mid new done piece rest is sound whole later Memory broke =
      subst (λ f. TakesFront (taken old) (taken new) (text_unless f text)) (sym sound)
      (subst (TakesFront (taken old) (taken new)) (sym is) (TakesFront-more (taken old) (taken mid) (taken new) done piece rest whole
      broke))
  part_breaks old mid new done piece rest is sound whole later Failed broke =
      write_breaks old mid new done piece rest is sound whole later broke.1 broke.2

  -- a sound trace's text wasn't written whole
  pub unwritten : (old new : O) → fault ≡ None → (answer : WriteError) → (answer ≡ writes.Failed → Rose (faults old) (faults new))
      → TakesFront (taken old) (taken new) text
      → BreaksOff taken faults text fault old new (answer_of answer)
  unwritten old new sound writes.Failed rose front = (sound, rose refl, front)
  unwritten old new sound writes.Memory rose front = subst (λ f. TakesFront (taken old) (taken new) (text_unless f text)) (sym sound) front
