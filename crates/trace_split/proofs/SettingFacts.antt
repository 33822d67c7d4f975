-- The columns and the parts stay while packets are added.
use Rattle.std.{proofs.Common.{◌≡◌, ℕ, ◌<◌, List, ◌++◌, refl, sym, ap, subst, ◌∙◌, append_assoc}, specs.Io.KnownBytes.Appends}
use Rattle.marple_base.specs.{declared.field.{Field.Field, FieldSet.FieldSet, Packet.Packet}, Sink.TakesFront}
use Rattle.part_texts.specs.Texts.{fields_in, part_by_hash, part_text, written_fields}
use Rattle.trace_reader.specs.Traces.{packets}
use Rattle.trace_pieces.specs.Wholes.{all_packets}
use Rattle.trace_split.specs.{Hashes.by_hash, Holding.{TakeFronts, TakeTexts, Taken}}
use Rattle.trace_split.specs.PartTexts.{HoldsPackets, IsOf, SameSetting, is_setting, partition_of, parts_of, texts_of}
use Rattle.trace_split.specs.declared.{splitting.Splitting.Splitting, texts.PartTexts.PartTexts}
use Rattle.trace_split.proofs.{HoldFacts.{fronts_go_on, fronts_held, texts_by}, RunFacts.run_begins}

pub same_refl : (texts : PartTexts) → SameSetting texts texts
same_refl texts = record { columns = refl; by = refl; salt = refl; parts = refl; buffers = refl }

pub same_trans : (old mid new : PartTexts) → SameSetting old mid → SameSetting mid new → SameSetting old new
same_trans old mid new first next = record {
  columns = next.columns ∙ first.columns;
  by = next.by ∙ first.by;
  salt = next.salt ∙ first.salt;
  parts = next.parts ∙ first.parts;
  buffers = next.buffers ∙ first.buffers;
}

pub setting_same : (old new : PartTexts) → SameSetting old new → is_setting old → is_setting new
setting_same old new same setting = record {
  parts = rw same.parts setting.parts;
  buffers = same.buffers ∙ setting.buffers ∙ sym same.parts;
  some = rw same.columns setting.some;
  few = rw same.columns setting.few;
  few_keys = rw same.by setting.few_keys;
}

-- the texts of parts, by what they depend on
abbrev pub texts_with : List Field → List Field → ℕ → ℕ → List Packet → ℕ → List ℕ
texts_with columns by salt parts sent n = texts_by columns (part_by_hash by salt parts) sent n

pub texts_same : (old new : PartTexts) (sent : List Packet) (n : ℕ) → SameSetting old new → texts_of new sent n ≡ texts_of old sent n
texts_same old new sent n same =
    let columns : new.columns.items ≡ old.columns.items = rw same.columns refl in
    let by : new.by.items ≡ old.by.items = rw same.by refl in
    ap (λ c. texts_with c new.by.items new.salt new.parts sent n) columns
    ∙ ap (λ b. texts_with old.columns.items b new.salt new.parts sent n) by
    ∙ ap (λ s. texts_with old.columns.items old.by.items s new.parts sent n) same.salt
    ∙ ap (λ p. texts_with old.columns.items old.by.items old.salt p sent n) same.parts

pub fronts_same : (old new : PartTexts) (first now : Taken) (sent : List Packet) → SameSetting old new
    → TakeFronts (parts_of new) first now (texts_of new sent) → TakeFronts (parts_of old) first now (texts_of old sent)
fronts_same old new first now sent same fronts n within =
    let below : n < new.parts = rw same.parts within in
    subst (TakesFront (first n) (now n)) (texts_same old new sent n same) (fronts n below)

-- what the sinks have taken is a front of each text, also where the text goes on
pub fronts_of : (old new : PartTexts) (first now : Taken) (sent more : List Packet) → SameSetting old new → is_setting new
    → HoldsPackets first now new sent → TakeFronts (parts_of old) first now (texts_of old (sent ++ more))
fronts_of old new first now sent more same setting holds =
    fronts_same old new first now (sent ++ more) same
    (fronts_go_on first now new.columns.items (partition_of new) new.parts sent more
    (fronts_held first now new.waiting.items (texts_of new sent) new.parts setting.buffers holds))

-- fronts of the texts of some packets, where there are more
pub fronts_grow : (old new : PartTexts) (first now : Taken) (sent more : List Packet) → SameSetting old new
    → TakeFronts (parts_of new) first now (texts_of new sent) → TakeFronts (parts_of old) first now (texts_of old (sent ++ more))
fronts_grow old new first now sent more same fronts =
    fronts_same old new first now (sent ++ more) same (fronts_go_on first now new.columns.items (partition_of new) new.parts sent more
    fronts)

-- the packets of one run begin all packets
pub fronts_of_run : (texts : PartTexts) (first now : Taken) (before : List Packet) (text : List ℕ) (reads : FieldSet)
    → TakeFronts (parts_of texts) first now (texts_of texts (before ++ packets text reads))
    → TakeFronts (parts_of texts) first now (texts_of texts (before ++ all_packets text reads))
fronts_of_run texts first now before text reads fronts =
    let begins = run_begins text reads in
    let whole : (before ++ packets text reads) ++ begins.0 ≡ before ++ all_packets text reads =
    append_assoc before (packets text reads) begins.0 ∙ ap (λ ps. before ++ ps) (sym begins.1) in
    subst (λ ps. TakeFronts (parts_of texts) first now (texts_of texts ps)) whole
    (fronts_grow texts texts first now (before ++ packets text reads) begins.0 (same_refl texts) fronts)

-- ---- the texts of a splitting

pub texts_are : (reads : FieldSet) (splitting : Splitting) (texts : PartTexts) (sent : List Packet) (n : ℕ) → IsOf reads splitting texts
    → texts_of texts sent n ≡ part_text reads (by_hash splitting) n sent
texts_are reads splitting texts sent n of =
    ap (λ c. texts_with c texts.by.items texts.salt texts.parts sent n) of.columns
    ∙ ap (λ b. texts_with (written_fields reads) b texts.salt texts.parts sent n) of.by
    ∙ ap (λ s. texts_with (written_fields reads) (fields_in splitting.by) s texts.parts sent n) of.salt
    ∙ ap (λ p. texts_with (written_fields reads) (fields_in splitting.by) splitting.salt p sent n) of.parts

module _ (reads : FieldSet) (splitting : Splitting) (start new : PartTexts) (of : IsOf reads splitting start) (same : SameSetting start new)
    (first now : Taken) (sent : List Packet) where
  is_text : (n : ℕ) → texts_of new sent n ≡ part_text reads (by_hash splitting) n sent
  is_text n = texts_same start new sent n same ∙ texts_are reads splitting start sent n of

  is_part : (n : ℕ) → n < splitting.parts → n < new.parts
  is_part n within = rw (same.parts, of.parts) within

  pub texts_taken : TakeTexts (parts_of new) first now (texts_of new sent)
      → TakeTexts splitting.parts first now (λ n. part_text reads (by_hash splitting) n sent)
  texts_taken taken n within = subst (Appends (first n) (now n)) (is_text n) (taken n (is_part n within))

  pub fronts_taken : TakeFronts (parts_of new) first now (texts_of new sent)
      → TakeFronts splitting.parts first now (λ n. part_text reads (by_hash splitting) n sent)
  fronts_taken taken n within = subst (TakesFront (first n) (now n)) (is_text n) (taken n (is_part n within))
