-- A trace whose packets are kept as they are read.
use Rattle.std.proofs.{Common.{◌≡◌, List, [], ◌∷◌, ◌++◌, sym, ap, ◌∙◌, subst, append_assoc}, lemmas.List.Elements.{All-head, All-tail}}
use Rattle.std.specs.List.{All}
use Rattle.marple_base.specs.declared.field.{FieldSet.FieldSet, Packet.Packet}
use Rattle.trace_drive.specs.Kept.{Kept, kept_of}

-- These packets are those that were kept and those that are left, of which nothing is lost when they are kept too.
pub record IsKeptSoFar (reads : FieldSet) (all : List Packet) (kept : Kept) (left : List Packet) : Type 0 where
  pub parts : all ≡ kept.packets ++ left
  pub fields : kept.fields ≡ reads
  pub read : All (λ packet. kept_of reads packet ≡ packet) left

-- one packet more was kept
pub keeps_one : (reads : FieldSet) (all left rest : List Packet) (old new : Kept) (packet : Packet) → IsKeptSoFar reads all old left
    → left ≡ packet ∷ rest
    → new ≡ record { fields = old.fields; packets = old.packets ++ kept_of old.fields packet ∷ [] } → IsKeptSoFar reads all new rest
keeps_one reads all left rest old new packet so_far next pushed =
    let read = subst (All (λ p. kept_of reads p ≡ p)) next so_far.read in
    let same = ap (λ fields. kept_of fields packet) so_far.fields ∙ All-head (λ p. kept_of reads p ≡ p) packet rest read in
    let packets = ap (λ k. k.packets) pushed ∙ ap (λ p. old.packets ++ p ∷ []) same in
    record {
      parts = so_far.parts ∙ (ap (λ ps. old.packets ++ ps) next ∙ (sym (append_assoc old.packets (packet ∷ []) rest)
          ∙ ap (λ ps. ps ++ rest) (sym packets)));
      fields = ap (λ k. k.fields) pushed ∙ so_far.fields;
      read = All-tail (λ p. kept_of reads p ≡ p) packet rest read;
    }
