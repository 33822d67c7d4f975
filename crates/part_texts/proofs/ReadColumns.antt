-- The places of the fields that are read, among all fields.
use Rattle.std.proofs.Common.{◌≡◌, ℕ, suc, ◌+◌, Bool, true, false, cond, not, List, [], ◌∷◌, ◌++◌, length, map, refl, sym, ap, ◌∙◌, inl}
use Rattle.std.proofs.{Common.{inr, eq-eqb, arith}, lemmas.{Bool.{and_parts, Decides.eqb_tells}, Slice.Eq.bytes_eq-Decides}}
use Rattle.std.specs.{Prelude.{◌==◌, if◌then◌else◌, codes, filter}, List.list_all, Str.bytes_eq}
use Rattle.csv.specs.Records.{field_at}
use Rattle.marple_base.specs.{Field.{all_fields, field_name, number_of}, declared.field.Field.{Field, TheVariants.{Switch, Qid, Uid}}}
use Rattle.marple_base.specs.declared.field.Field.TheVariants.{SrcIp, DstIp, SrcPort, DstPort, Proto, PktLen, PayloadLen, TcpSeq, Tin, Tout}
use Rattle.marple_base.{specs.declared.field.Field.TheVariants.QSize, proofs.Fields.same_field}
use Rattle.trace_reader.specs.{Numbers.without_blanks, Traces.{columns_named, field_text_at}}

-- whether two fields are one, by their numbers
abbrev is_same : Field → Field → Bool
is_same f g = number_of f == number_of g

-- the field of a name
abbrev named : List ℕ → ℕ
named name =
    if bytes_eq name (codes "switch") then 0 else if bytes_eq name (codes "qid") then 1 else if bytes_eq name (codes "uid") then 2
    else if bytes_eq name (codes "srcip") then 3 else if bytes_eq name (codes "dstip") then 4 else if bytes_eq name (codes "srcport") then 5
    else if bytes_eq name (codes "dstport") then 6 else if bytes_eq name (codes "proto") then 7 else if bytes_eq name (codes "pkt_len") then
    8
    else if bytes_eq name (codes "payload_len") then 9 else if bytes_eq name (codes "tcpseq") then 10 else if bytes_eq name (codes "tin")
    then 11
    else if bytes_eq name (codes "tout") then 12 else 13

numbered : (f : Field) → named (field_name f) ≡ number_of f
numbered Switch = refl
numbered Qid = refl
numbered Uid = refl
numbered SrcIp = refl
numbered DstIp = refl
numbered SrcPort = refl
numbered DstPort = refl
numbered Proto = refl
numbered PktLen = refl
numbered PayloadLen = refl
numbered TcpSeq = refl
numbered Tin = refl
numbered Tout = refl
numbered QSize = refl

bare : (f : Field) → without_blanks (field_name f) ≡ field_name f
bare Switch = refl
bare Qid = refl
bare Uid = refl
bare SrcIp = refl
bare DstIp = refl
bare SrcPort = refl
bare DstPort = refl
bare Proto = refl
bare PktLen = refl
bare PayloadLen = refl
bare TcpSeq = refl
bare Tin = refl
bare Tout = refl
bare QSize = refl

names_equal : (f : Field) → bytes_eq (field_name f) (field_name f) ≡ true
names_equal f = (bytes_eq-Decides (field_name f) (field_name f)).1 refl

false_unless : (b : Bool) → (b ≡ true → ⊥) → b ≡ false
false_unless true never = absurd (never refl)
false_unless false never = refl

-- a name is the field's where the numbers are the same
names_apart : (f g : Field) → (number_of f ≡ number_of g → ⊥) → bytes_eq (field_name g) (field_name f) ≡ false
names_apart f g differs =
    false_unless (bytes_eq (field_name g) (field_name f))
    (λ e. differs (sym (numbered f) ∙ ap named (sym ((bytes_eq-Decides (field_name g) (field_name f)).0 e)) ∙ numbered g))

name_test : (f g : Field) → bytes_eq (without_blanks (field_name g)) (field_name f) ≡ is_same f g
name_test f g = ap (λ name. bytes_eq name (field_name f)) (bare g) ∙ elim (eqb_tells (number_of f) (number_of g)) [
  | inl same ↦ ap (λ h. bytes_eq (field_name h) (field_name f)) (sym (same_field f g same.1)) ∙ names_equal f ∙ sym same.0
  | inr differs ↦ names_apart f g differs.1 ∙ sym differs.0
]

-- the places of a field among fields, counted from `at`
abbrev pub places : Field → ℕ → List Field → List ℕ
places f at [] = []
places f at (g ∷ gs) = if is_same f g then at ∷ places f (at + 1) gs else places f (at + 1) gs

pub named_places : (f : Field) (at : ℕ) (gs : List Field) → columns_named (field_name f) at (map field_name gs) ≡ places f at gs
named_places f at [] = refl
named_places f at (g ∷ gs) = rw (name_test f g, named_places f (at + 1) gs) refl

-- none of these fields is this one
abbrev are_others : Field → List Field → Bool
are_others f gs = list_all (λ g. not (is_same f g)) gs

not_false : (b : Bool) → not b ≡ true → b ≡ false
not_false true e = absurd (cc e)
not_false false e = refl

none_of : (has : Field → Bool) (f : Field) (at : ℕ) (gs : List Field) → are_others f gs ≡ true → places f at (filter has gs) ≡ []
none_of has f at [] others = refl
none_of has f at (g ∷ gs) others =
    let both = and_parts (not (is_same f g)) (are_others f gs) others in
    by (has g) (none_of has f at gs both.1) (rw (not_false (is_same f g) both.0) (none_of has f (at + 1) gs both.1))
  where
    by : (b : Bool) → places f at (filter has gs) ≡ [] → places f at (g ∷ filter has gs) ≡ []
        → places f at (cond b (g ∷ filter has gs) (filter has gs)) ≡ []
    by true without with = with
    by false without with = without

pub place_after : (has : Field → Bool) (f : Field) (at : ℕ) (pre post : List Field) → are_others f pre ≡ true → are_others f post ≡ true
    → has f ≡ true
    → places f at (filter has (pre ++ f ∷ post)) ≡ (at + length (filter has pre)) ∷ []
place_after has f at [] post before later read =
    let here : at ≡ at + 0 = omega arith in
    rw (read, eq-eqb (number_of f) (number_of f) refl, none_of has f (at + 1) post later) (ap (λ k. k ∷ []) here)
place_after has f at (g ∷ pre) post before later read =
    let both = and_parts (not (is_same f g)) (are_others f pre) before in
    by (has g) (place_after has f at pre post both.1 later read)
    (rw (not_false (is_same f g) both.0) (place_after has f (at + 1) pre post both.1 later read))
  where
    by : (b : Bool) → places f at (filter has (pre ++ f ∷ post)) ≡ (at + length (filter has pre)) ∷ []
        → places f at (g ∷ filter has (pre ++ f ∷ post)) ≡ (at + 1 + length (filter has pre)) ∷ []
        → places f at (cond b (g ∷ filter has (pre ++ f ∷ post)) (filter has (pre ++ f ∷ post)))
        ≡ (at + length (cond b (g ∷ filter has pre) (filter has pre))) ∷ []
    by true without with = let next : at + 1 + length (filter has pre) ≡ at + suc (length (filter has pre)) = omega arith in with
        ∙ ap (λ k. k ∷ []) next
    by false without with = without

pub text_after : (has : Field → Bool) (T : Field → List ℕ) (f : Field) (pre post : List Field) → has f ≡ true
    → field_text_at (map T (filter has (pre ++ f ∷ post))) (length (filter has pre)) ≡ T f
unfolding field_at
text_after has T f [] post read = rw read refl
text_after has T f (g ∷ pre) post read = by (has g) (text_after has T f pre post read)
  where
    by : (b : Bool) → field_text_at (map T (filter has (pre ++ f ∷ post))) (length (filter has pre)) ≡ T f
        → field_text_at (map T (cond b (g ∷ filter has (pre ++ f ∷ post)) (filter has (pre ++ f ∷ post))))
        (length (cond b (g ∷ filter has pre) (filter has pre))) ≡ T f
    by true rest = rest
    by false rest = rest

-- the fields before a field, and those after it
abbrev pub before : Field → List Field
before Switch = []
before Qid = Switch ∷ []
before Uid = Switch ∷ Qid ∷ []
before SrcIp = Switch ∷ Qid ∷ Uid ∷ []
before DstIp = Switch ∷ Qid ∷ Uid ∷ SrcIp ∷ []
before SrcPort = Switch ∷ Qid ∷ Uid ∷ SrcIp ∷ DstIp ∷ []
before DstPort = Switch ∷ Qid ∷ Uid ∷ SrcIp ∷ DstIp ∷ SrcPort ∷ []
before Proto = Switch ∷ Qid ∷ Uid ∷ SrcIp ∷ DstIp ∷ SrcPort ∷ DstPort ∷ []
before PktLen = Switch ∷ Qid ∷ Uid ∷ SrcIp ∷ DstIp ∷ SrcPort ∷ DstPort ∷ Proto ∷ []
before PayloadLen = Switch ∷ Qid ∷ Uid ∷ SrcIp ∷ DstIp ∷ SrcPort ∷ DstPort ∷ Proto ∷ PktLen ∷ []
before TcpSeq = Switch ∷ Qid ∷ Uid ∷ SrcIp ∷ DstIp ∷ SrcPort ∷ DstPort ∷ Proto ∷ PktLen ∷ PayloadLen ∷ []
before Tin = Switch ∷ Qid ∷ Uid ∷ SrcIp ∷ DstIp ∷ SrcPort ∷ DstPort ∷ Proto ∷ PktLen ∷ PayloadLen ∷ TcpSeq ∷ []
before Tout = Switch ∷ Qid ∷ Uid ∷ SrcIp ∷ DstIp ∷ SrcPort ∷ DstPort ∷ Proto ∷ PktLen ∷ PayloadLen ∷ TcpSeq ∷ Tin ∷ []
before QSize = Switch ∷ Qid ∷ Uid ∷ SrcIp ∷ DstIp ∷ SrcPort ∷ DstPort ∷ Proto ∷ PktLen ∷ PayloadLen ∷ TcpSeq ∷ Tin ∷ Tout ∷ []

abbrev pub later : Field → List Field
later Switch = Qid ∷ Uid ∷ SrcIp ∷ DstIp ∷ SrcPort ∷ DstPort ∷ Proto ∷ PktLen ∷ PayloadLen ∷ TcpSeq ∷ Tin ∷ Tout ∷ QSize ∷ []
later Qid = Uid ∷ SrcIp ∷ DstIp ∷ SrcPort ∷ DstPort ∷ Proto ∷ PktLen ∷ PayloadLen ∷ TcpSeq ∷ Tin ∷ Tout ∷ QSize ∷ []
later Uid = SrcIp ∷ DstIp ∷ SrcPort ∷ DstPort ∷ Proto ∷ PktLen ∷ PayloadLen ∷ TcpSeq ∷ Tin ∷ Tout ∷ QSize ∷ []
later SrcIp = DstIp ∷ SrcPort ∷ DstPort ∷ Proto ∷ PktLen ∷ PayloadLen ∷ TcpSeq ∷ Tin ∷ Tout ∷ QSize ∷ []
later DstIp = SrcPort ∷ DstPort ∷ Proto ∷ PktLen ∷ PayloadLen ∷ TcpSeq ∷ Tin ∷ Tout ∷ QSize ∷ []
later SrcPort = DstPort ∷ Proto ∷ PktLen ∷ PayloadLen ∷ TcpSeq ∷ Tin ∷ Tout ∷ QSize ∷ []
later DstPort = Proto ∷ PktLen ∷ PayloadLen ∷ TcpSeq ∷ Tin ∷ Tout ∷ QSize ∷ []
later Proto = PktLen ∷ PayloadLen ∷ TcpSeq ∷ Tin ∷ Tout ∷ QSize ∷ []
later PktLen = PayloadLen ∷ TcpSeq ∷ Tin ∷ Tout ∷ QSize ∷ []
later PayloadLen = TcpSeq ∷ Tin ∷ Tout ∷ QSize ∷ []
later TcpSeq = Tin ∷ Tout ∷ QSize ∷ []
later Tin = Tout ∷ QSize ∷ []
later Tout = QSize ∷ []
later QSize = []

pub parted : (f : Field) → all_fields ≡ before f ++ f ∷ later f
parted Switch = refl
parted Qid = refl
parted Uid = refl
parted SrcIp = refl
parted DstIp = refl
parted SrcPort = refl
parted DstPort = refl
parted Proto = refl
parted PktLen = refl
parted PayloadLen = refl
parted TcpSeq = refl
parted Tin = refl
parted Tout = refl
parted QSize = refl

pub others_before : (f : Field) → are_others f (before f) ≡ true
others_before Switch = refl
others_before Qid = refl
others_before Uid = refl
others_before SrcIp = refl
others_before DstIp = refl
others_before SrcPort = refl
others_before DstPort = refl
others_before Proto = refl
others_before PktLen = refl
others_before PayloadLen = refl
others_before TcpSeq = refl
others_before Tin = refl
others_before Tout = refl
others_before QSize = refl

pub others_later : (f : Field) → are_others f (later f) ≡ true
others_later Switch = refl
others_later Qid = refl
others_later Uid = refl
others_later SrcIp = refl
others_later DstIp = refl
others_later SrcPort = refl
others_later DstPort = refl
others_later Proto = refl
others_later PktLen = refl
others_later PayloadLen = refl
others_later TcpSeq = refl
others_later Tin = refl
others_later Tout = refl
others_later QSize = refl
