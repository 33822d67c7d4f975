-- The texts of parts, packet by packet.
use Rattle.std.proofs.Common.{◌≡◌, ℕ, Bool, true, false, cond, List, [], ◌∷◌, ◌++◌, map, refl, sym, ap, ◌∙◌, append_assoc, append-nil}
use Rattle.std.specs.Prelude.{◌==◌, flat_map}
use Rattle.marple_base.specs.{Field.field_name, declared.field.{Field.Field, Packet.Packet}}
use Rattle.queue_sim.specs.TraceText.{fields_line, line}
use Rattle.part_texts.specs.Texts.{lines_of, packets_of_part}

-- the packets of a part, of more packets
pub packets_append : (partition : List ℕ → ℕ) (n : ℕ) (sent more : List Packet)
    → packets_of_part partition n (sent ++ more) ≡ packets_of_part partition n sent ++ packets_of_part partition n more
packets_append partition n [] more = refl
packets_append partition n (packet ∷ sent) more = by (partition packet.words == n) (packets_append partition n sent more)
  where
    by : (b : Bool) → packets_of_part partition n (sent ++ more) ≡ packets_of_part partition n sent ++ packets_of_part partition n more
        → cond b (packet ∷ packets_of_part partition n (sent ++ more)) (packets_of_part partition n (sent ++ more))
        ≡ cond b (packet ∷ packets_of_part partition n sent) (packets_of_part partition n sent) ++ packets_of_part partition n more
    by true rest = ap (λ (ps : List Packet). packet ∷ ps) rest
    by false rest = rest

-- the lines of packets
abbrev pub body_of : List Field → List Packet → List ℕ
body_of fields packets = flat_map (λ packet. fields_line fields packet.words) packets

pub body_append : (fields : List Field) (sent more : List Packet) → body_of fields (sent ++ more) ≡ body_of fields sent
    ++ body_of fields more
body_append fields [] more = refl
body_append fields (packet ∷ sent) more =
    ap (λ rest. fields_line fields packet.words ++ rest) (body_append fields sent more)
    ∙ sym (append_assoc (fields_line fields packet.words) (body_of fields sent) (body_of fields more))

-- the text of a part of more packets: that of fewer goes on
pub text_append : (fields : List Field) (partition : List ℕ → ℕ) (n : ℕ) (sent more : List Packet)
    → lines_of fields (packets_of_part partition n (sent ++ more)) ≡ lines_of fields (packets_of_part partition n sent)
    ++ body_of fields (packets_of_part partition n more)
text_append fields partition n sent more =
    ap (lines_of fields) (packets_append partition n sent more)
    ∙ ap (λ rest. line (map field_name fields) ++ rest) (body_append fields (packets_of_part partition n sent)
    (packets_of_part partition n more))
    ∙ sym (append_assoc (line (map field_name fields)) (body_of fields (packets_of_part partition n sent))
    (body_of fields (packets_of_part partition n more)))

-- what one packet adds to a part: its line where the part is its own
pub one_here : (fields : List Field) (partition : List ℕ → ℕ) (n : ℕ) (packet : Packet) → (partition packet.words == n) ≡ true
    → body_of fields (packets_of_part partition n (packet ∷ [])) ≡ fields_line fields packet.words
one_here fields partition n packet own = rw own (append-nil (fields_line fields packet.words))

pub one_there : (fields : List Field) (partition : List ℕ → ℕ) (n : ℕ) (packet : Packet) → (partition packet.words == n) ≡ false
    → body_of fields (packets_of_part partition n (packet ∷ [])) ≡ []
one_there fields partition n packet other = rw other refl
