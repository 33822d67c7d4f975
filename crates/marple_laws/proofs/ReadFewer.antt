-- A trace that is read with all fields and has no fault is read with fewer fields, and has 0 in the others.
use Rattle.marple_laws.proofs.Words
use Words.{◌≡◌, ℕ, ◌+◌, Bool, true, false, cond, List, [], ◌∷◌, length, Option, Some, None, Result, Ok, Err, refl, sym, ap, subst, ◌∙◌, zip}
use Words.{all_fields, field_name, has_field, Field, Switch, FieldSet, Packet, MAX_TRACE, zeroed, as_read, all_as_read}
use Rattle.std.specs.Prelude.{nat_lt}
use Rattle.trace_reader.specs.{Reading.records, Traces.{Contents, Layout, column_of_field, columns_named, columns_of_fields, contents}}
use Rattle.trace_reader.specs.Traces.{contents_from, contents_with, each, layout_of, layout_with, only_column, opening, packet_of}
use Rattle.trace_reader.specs.Traces.{packet_with, rest_of, with_first, with_packet, word_at, words_in_columns}
use Rattle.trace_reader.specs.declared.fault.TraceFault.{TraceFault}
use Rattle.trace_reader.specs.declared.fault.TraceFault.TheVariants as fault

-- the set of all fields
abbrev pub whole : FieldSet
whole = record { bits = 16383 }

pub every : (f : Field) → has_field whole f ≡ true
every Switch = refl
every _ = refl

-- the columns of fewer fields
abbrev masked : FieldSet → List Field → List (Option ℕ) → List (Option ℕ)
masked reads (f ∷ fields) (column ∷ columns) = cond (has_field reads f) column None ∷ masked reads fields columns
masked reads _ _ = []

column_masked : (reads : FieldSet) (header : List (List ℕ)) (f : Field) (column : Option ℕ) → column_of_field whole header f ≡ Ok column
    → column_of_field reads header f ≡ Ok (cond (has_field reads f) column None)
column_masked reads header f column e = go (has_field reads f)
  where
    found : Result (Option ℕ) TraceFault
    found = only_column f (columns_named (field_name f) 0 header)

    is : found ≡ Ok column
    is = ap (λ b. cond b found (Ok None)) (sym (every f)) ∙ e

    go : (b : Bool) → cond b found (Ok None) ≡ Ok (cond b column None)
    go true = is
    go false = refl

columns_masked : (reads : FieldSet) (header : List (List ℕ)) (fields : List Field) (columns : List (Option ℕ))
    → each (column_of_field whole header) fields ≡ Ok columns → each (column_of_field reads header) fields ≡ Ok
    (masked reads fields columns)
unfolding each
columns_masked reads header [] columns e = refl
columns_masked reads header (f ∷ fields) columns e = go (columns_masked reads header fields) _ refl _ refl e
  where
    go : ((cs : List (Option ℕ)) → each (column_of_field whole header) fields ≡ Ok cs
        → each (column_of_field reads header) fields ≡ Ok (masked reads fields cs))
        → (a : Result (Option ℕ) TraceFault) → column_of_field whole header f ≡ a → (b : Result (List (Option ℕ)) TraceFault)
        → each (column_of_field whole header) fields ≡ b → with_first a b ≡ Ok columns
        → with_first (column_of_field reads header f) (each (column_of_field reads header) fields) ≡ Ok (masked reads (f ∷ fields) columns)
    go rest (Err x) ea b eb h = cc
    go rest (Ok c) ea (Err x) eb h = cc
    go rest (Ok c) ea (Ok cs) eb h =
        let same : c ∷ cs ≡ columns = cc in
        subst (λ l. with_first (column_of_field reads header f) (each (column_of_field reads header) fields) ≡ Ok
        (masked reads (f ∷ fields) l)) same
        (rw (column_masked reads header f c ea, rest cs eb) refl)

-- the words of a record
abbrev word_of_pair : List (List ℕ) → Field × Option ℕ → Result ℕ Field
word_of_pair fields p = word_at fields p.0 p.1

word_masked : (reads : FieldSet) (texts : List (List ℕ)) (f : Field) (column : Option ℕ) (word : ℕ) → word_at texts f column ≡ Ok word
    → word_at texts f (cond (has_field reads f) column None) ≡ Ok (cond (has_field reads f) word 0)
word_masked reads texts f column word e = go _
  where
    go : (b : Bool) → word_at texts f (cond b column None) ≡ Ok (cond b word 0)
    go true = e
    go false = refl

abbrev found_words : List ℕ → Result (List ℕ) Field
found_words words = Ok words

same_words : {a b : List ℕ} → found_words a ≡ found_words b → a ≡ b
same_words e = cc

words_masked : (reads : FieldSet) (texts : List (List ℕ)) (fields : List Field) (columns : List (Option ℕ)) (words : List ℕ)
    → each (word_of_pair texts) (zip fields columns) ≡ Ok words
    → each (word_of_pair texts) (zip fields (masked reads fields columns)) ≡ Ok (zeroed reads fields words)
unfolding each
words_masked reads texts [] columns words e = refl
words_masked reads texts (f ∷ fields) [] words e =
    let none : [] ≡ words = same_words e in
    let empty : found_words [] ≡ found_words (zeroed reads (f ∷ fields) []) = refl in
    subst (λ (l : List ℕ). found_words [] ≡ found_words (zeroed reads (f ∷ fields) l)) none empty
words_masked reads texts (f ∷ fields) (column ∷ columns) words e = go (words_masked reads texts fields columns) _ refl _ refl e
  where
    go : ((ws : List ℕ) → each (word_of_pair texts) (zip fields columns) ≡ Ok ws
        → each (word_of_pair texts) (zip fields (masked reads fields columns)) ≡ Ok (zeroed reads fields ws)) → (a : Result ℕ Field)
        → word_at texts f column ≡ a → (b : Result (List ℕ) Field) → each (word_of_pair texts) (zip fields columns) ≡ b
        → with_first a b ≡ Ok words → with_first (word_at texts f (cond (has_field reads f) column None))
        (each (word_of_pair texts) (zip fields (masked reads fields columns))) ≡ Ok (zeroed reads (f ∷ fields) words)
    go rest (Err x) ea b eb h = cc
    go rest (Ok w) ea (Err x) eb h = cc
    go rest (Ok w) ea (Ok ws) eb h =
        let same : w ∷ ws ≡ words = cc in
        subst (λ l. with_first (word_at texts f (cond (has_field reads f) column None))
        (each (word_of_pair texts) (zip fields (masked reads fields columns)))
        ≡ Ok (zeroed reads (f ∷ fields) l)) same
        (rw (word_masked reads texts f column w ea, rest ws eb) refl)

module _ (reads : FieldSet) (width : ℕ) (columns : List (Option ℕ)) where
  abbrev full : Layout
  full = record { width = width; columns = columns }

  abbrev fewer : Layout
  fewer = record { width = width; columns = masked reads all_fields columns }

  packet_masked : (n : ℕ) (texts : List (List ℕ)) (p : Packet) → packet_of full n texts ≡ Ok p
      → packet_of fewer n texts ≡ Ok (as_read reads p)
  unfolding packet_of
  packet_masked n texts p e = go _ _ _ refl e
    where
      go : (a b : Bool) (w : Result (List ℕ) Field) → words_in_columns columns texts ≡ w
          → cond a (Err fault.TooManyPackets) (cond b (Err (fault.FieldCount n)) (packet_with n w)) ≡ Ok p
          → cond a (Err fault.TooManyPackets) (cond b (Err (fault.FieldCount n))
          (packet_with n (words_in_columns (masked reads all_fields columns) texts))) ≡ Ok (as_read reads p)
      go true b w ew h = cc
      go false true w ew h = cc
      go false false (Err f) ew h = cc
      go false false (Ok ws) ew h =
          let same : record { words = ws } ≡ p = cc in
          subst (λ x. packet_with n (words_in_columns (masked reads all_fields columns) texts) ≡ Ok (as_read reads x)) same
          (ap (packet_with n) (words_masked reads texts all_fields columns ws ew))

  contents_masked : (n : ℕ) (rest : List (List (List ℕ))) (sent : List Packet)
      → contents_from full n rest ≡ record { packets = sent; fault = None }
      → contents_from fewer n rest ≡ record { packets = all_as_read reads sent; fault = None }
  unfolding contents_from
  contents_masked n [] sent e = ap (λ l. record { packets = all_as_read reads l; fault = None }) (ap (λ (c : Contents). c.packets) e)
  contents_masked n (texts ∷ rest) sent e = go (contents_masked (n + 1) rest) _ refl _ refl e
    where
      go : ((later : List Packet) → contents_from full (n + 1) rest ≡ record { packets = later; fault = None }
          → contents_from fewer (n + 1) rest ≡ record { packets = all_as_read reads later; fault = None }) → (a : Result Packet TraceFault)
          → packet_of full n texts ≡ a → (b : Contents) → contents_from full (n + 1) rest ≡ b
          → with_packet a b ≡ record { packets = sent; fault = None } → with_packet (packet_of fewer n texts)
          (contents_from fewer (n + 1) rest) ≡ record { packets = all_as_read reads sent; fault = None }
      go after (Err x) ea b eb h = let none : Some x ≡ None = ap (λ (c : Contents). c.fault) h in cc
      go after (Ok p) ea b eb h =
          let none : b.fault ≡ None = ap (λ (c : Contents). c.fault) h in
          let later : contents_from full (n + 1) rest ≡ record { packets = b.packets; fault = None } =
          eb ∙ ap (λ f. record { packets = b.packets; fault = f }) none in
          let same : p ∷ b.packets ≡ sent = ap (λ (c : Contents). c.packets) h in
          subst (λ l. with_packet (packet_of fewer n texts) (contents_from fewer (n + 1) rest) ≡ record
          { packets = all_as_read reads l; fault = None }) same
          (rw (packet_masked n texts p ea, after b.packets later) refl)

-- packets without a fault after them
abbrev good : List Packet → Contents
good packets = record { packets = packets; fault = None }

pub read_fewer : (text : List ℕ) (reads : FieldSet) (sent : List Packet) → contents text whole ≡ record { packets = sent; fault = None }
    → contents text reads ≡ record { packets = all_as_read reads sent; fault = None }
unfolding contents opening
read_fewer text reads sent e = go (nat_lt MAX_TRACE (length text)) (records text) e
  where
    inner : (header : List (List ℕ)) (rest : List (List (List ℕ))) (r : Result (List (Option ℕ)) TraceFault)
        → columns_of_fields whole header ≡ r → contents_with (layout_with (length header) r) rest ≡ good sent
        → contents_with (layout_with (length header) (columns_of_fields reads header)) rest ≡ good (all_as_read reads sent)
    inner header rest (Err x) er h = let none : Some x ≡ None = ap (λ (c : Contents). c.fault) h in cc
    inner header rest (Ok columns) er h = rw (columns_masked _ _ _ _ er) (contents_masked _ (length header) _ 1 rest sent h)

    go : (b : Bool) (rs : List (List (List ℕ))) → contents_with (cond b (Err fault.TraceTooLong) (layout_of rs whole)) (rest_of rs) ≡ good
        sent → contents_with (cond b (Err fault.TraceTooLong) (layout_of rs reads)) (rest_of rs) ≡ good (all_as_read reads sent)
    go true rs h = let none : Some fault.TraceTooLong ≡ None = ap (λ (c : Contents). c.fault) h in cc
    go false [] h = let none : Some fault.NoHeader ≡ None = ap (λ (c : Contents). c.fault) h in cc
    go false (header ∷ rest) h = inner _ _ (columns_of_fields whole header) refl h
