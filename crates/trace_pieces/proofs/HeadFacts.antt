-- Where the first record of a text ends.
use Rattle.std.proofs.Common.{◌≡◌, ◌↔◌, ℕ, suc, zero, ◌+◌, ◌<◌, ◌≤◌, Bool, true, false, cond, List, [], ◌∷◌, ◌++◌, length, get_or, take}
use Rattle.std.proofs.{Common.{drop, refl, sym, ap, subst, ◌∙◌, inl, inr, append_assoc, arith}, lemmas.Bool.Decides.eqb_tells}
use Rattle.std.{proofs.lemmas.List.take_more, specs.Prelude.{◌||◌, ◌&&◌, ◌==◌}}
use Rattle.csv.specs.{Machine.{after_end, ends_at_end, field_after, fields_after, is_end}, Reading.{is_bom, strip_bom}}
use Rattle.csv.specs.declared.parser.Action.{Action}
use Rattle.csv.specs.declared.parser.Action.TheVariants as act
use Rattle.csv.specs.declared.parser.State.{State}
use Rattle.csv.specs.declared.parser.State.TheVariants as st
use Rattle.csv.specs.declared.parser.Terminator.TheVariants as term
use Rattle.csv.specs.Reading.{default_config}
use Rattle.trace_reader.proofs.{MarkFacts.first_plain, ReadingFacts.settles}
use Rattle.trace_reader.proofs.RowFacts.{cr_same, does, ending, from_between, going, rows_are, rows_from}
use Rattle.trace_pieces.{specs.Machine.{IsHead, mark_len, rows}, proofs.RowFacts.{IsPlain, IsTidy, leads, tidy_start, tidy_step}}

-- ---- which bytes end a record

begins : (c : ℕ) → is_end (does st.StartRecord c).1 ≡ false
begins c = by ((c == 13) || (c == 10)) (c == 34) (c == 44) (after_end term.CRLF c)
  where
    by : (t q d : Bool) (e : State)
        → is_end (cond {A = State × Action} t (st.StartRecord, act.Skip)
        (cond q (st.InQuoted, act.Skip) (cond d (st.StartField, act.EndField) (cond t (e, act.EndRecord) (st.InField, act.Copy))))).1
        ≡ false
    by true q d e = refl
    by false true d e = refl
    by false false true e = refl
    by false false false e = refl

-- no byte between two records
pub none_between : (s : State) (c : ℕ) → ends_at_end s ≡ false → is_end (does s c).1 ≡ false
none_between st.StartRecord c e = begins c
none_between st.AfterCr c e = ap (λ x. is_end x.1) (cr_same c) ∙ begins c
none_between st.StartField c e = absurd (cc e)
none_between st.InField c e = absurd (cc e)
none_between st.InQuoted c e = absurd (cc e)
none_between st.AfterQuote c e = absurd (cc e)
none_between st.InEscape c e = absurd (cc e)
none_between st.InComment c e = absurd (cc e)

-- no byte that leads into a record
pub none_inside : (s : State) (c : ℕ) → ends_at_end (does s c).0 ≡ true → is_end (does s c).1 ≡ false
none_inside s c inside = by (is_end (does s c).1) refl
  where
    by : (b : Bool) → is_end (does s c).1 ≡ b → b ≡ false
    by true e = absurd (cc (inside, settles default_config s c e))
    by false e = refl

-- but each that leads out of one
pub some_end : (s : State) (c : ℕ) → IsPlain s → ends_at_end s ≡ true → ends_at_end (does s c).0 ≡ false → is_end (does s c).1 ≡ true
some_end s c plain inside between = by (is_end (does s c).1) refl
  where
    by : (b : Bool) → is_end (does s c).1 ≡ b → b ≡ true
    by true e = refl
    by false e = absurd (cc (inside, ((leads s c plain).1 e between).1))

keeps_187 : (s : State) → is_end (does s 187).1 ≡ false
keeps_187 st.StartRecord = refl
keeps_187 st.StartField = refl
keeps_187 st.InField = refl
keeps_187 st.InQuoted = refl
keeps_187 st.AfterQuote = refl
keeps_187 st.InEscape = refl
keeps_187 st.InComment = refl
keeps_187 st.AfterCr = refl

keeps_239 : (s : State) → is_end (does s 239).1 ≡ false
keeps_239 st.StartRecord = refl
keeps_239 st.StartField = refl
keeps_239 st.InField = refl
keeps_239 st.InQuoted = refl
keeps_239 st.AfterQuote = refl
keeps_239 st.InEscape = refl
keeps_239 st.InComment = refl
keeps_239 st.AfterCr = refl

-- a byte that ends a record isn't of a byte order mark
ends_not : (s : State) (c k : ℕ) → is_end (does s k).1 ≡ false → is_end (does s c).1 ≡ true → (c == k) ≡ false
ends_not s c k keeps end =
    elim (eqb_tells c k) [
      | inl same ↦ let there : is_end (does s k).1 ≡ true = subst (λ n. is_end (does s n).1 ≡ true) same.1 end in absurd (cc (there, keeps))
      | inr differs ↦ differs.0
    ]

-- ---- the byte order mark

second_plain : (a b : ℕ) (rest : List ℕ) → (b == 187) ≡ false → strip_bom (a ∷ b ∷ rest) ≡ a ∷ b ∷ rest
unfolding strip_bom
second_plain a b [] e = refl
second_plain a b (c ∷ rest) e = rw e (by (a == 239) (c == 191))
  where
    by : (t u : Bool) → cond (t && false && u) rest (a ∷ b ∷ c ∷ rest) ≡ a ∷ b ∷ c ∷ rest
    by true u = refl
    by false u = refl

unmarked : (a b c : ℕ) (r more : List ℕ) (n : ℕ) → is_bom a b c ≡ false → n < length (a ∷ b ∷ c ∷ r)
    → (get_or (a ∷ b ∷ c ∷ r) n 0 == 187) ≡ false → (get_or (a ∷ b ∷ c ∷ r) n 0 == 239) ≡ false
    → strip_bom (take (suc n) (a ∷ b ∷ c ∷ r) ++ more) ≡ take (suc n) (a ∷ b ∷ c ∷ r) ++ more
unfolding strip_bom
unmarked a b c r more zero none within e187 e239 = first_plain a more e239
unmarked a b c r more (suc zero) none within e187 e239 = second_plain a b more e187
unmarked a b c r more (suc (suc n)) none within e187 e239 = rw none refl

strip_head : (text more : List ℕ) (n : ℕ) → 3 ≤ length text → n < length (drop (mark_len text) text)
    → (get_or (drop (mark_len text) text) n 0 == 187) ≡ false → (get_or (drop (mark_len text) text) n 0 == 239) ≡ false
    → strip_bom (take (mark_len text + n + 1) text ++ more) ≡ take (n + 1) (drop (mark_len text) text) ++ more
unfolding strip_bom
strip_head [] more n long = absurd (omega arith)
strip_head (a ∷ []) more n long = absurd (omega arith)
strip_head (a ∷ b ∷ []) more n long = absurd (omega arith)
strip_head (a ∷ b ∷ c ∷ r) more n long = by (is_bom a b c) refl
  where
    by : (t : Bool) → is_bom a b c ≡ t → n < length (drop (cond t 3 0) (a ∷ b ∷ c ∷ r))
        → (get_or (drop (cond t 3 0) (a ∷ b ∷ c ∷ r)) n 0 == 187) ≡ false → (get_or (drop (cond t 3 0) (a ∷ b ∷ c ∷ r)) n 0 == 239) ≡ false
        → strip_bom (take (cond t 3 0 + n + 1) (a ∷ b ∷ c ∷ r) ++ more) ≡ take (n + 1) (drop (cond t 3 0) (a ∷ b ∷ c ∷ r)) ++ more
    by true e within e187 e239 =
        let places : 3 + n + 1 ≡ suc (suc (suc (n + 1))) = omega arith in
        ap (λ k. strip_bom (take k (a ∷ b ∷ c ∷ r) ++ more)) places ∙ rw e refl
    by false e within e187 e239 =
        let one : 0 + n + 1 ≡ suc n = omega arith in
        let two : suc n ≡ n + 1 = omega arith in
        ap (λ k. strip_bom (take k (a ∷ b ∷ c ∷ r) ++ more)) one ∙ unmarked a b c r more n e within e187 e239
        ∙ ap (λ k. take k (a ∷ b ∷ c ∷ r) ++ more) two

pub marked : (text : List ℕ) → 3 ≤ length text → cond (is_bom (get_or text 0 0) (get_or text 1 0) (get_or text 2 0)) 3 0 ≡ mark_len text
marked [] long = absurd (omega arith)
marked (a ∷ []) long = absurd (omega arith)
marked (a ∷ b ∷ []) long = absurd (omega arith)
marked (a ∷ b ∷ c ∷ r) long = refl

-- ---- the first record

-- no record has ended in the text, and the reader is in this state after it
pub record Inside (text : List ℕ) (s : State) : Type 0 where
  pub fields : List (List ℕ)
  pub field : List ℕ
  pub tidy : IsTidy s fields field
  pub same : (more : List ℕ) → rows_from st.StartRecord [] [] (text ++ more) ≡ rows_from s fields field more

pub inside_start : Inside [] st.StartRecord
inside_start = record { fields = []; field = []; tidy = tidy_start; same = λ more. refl }

pub inside_more : (text : List ℕ) (s : State) (c : ℕ) → Inside text s → is_end (does s c).1 ≡ false → Inside (text ++ c ∷ []) (does s c).0
inside_more text s c h goes = record {
  fields = fields_after (does s c).1 h.fields h.field;
  field = field_after (does s c).1 c h.field;
  tidy = tidy_step s h.fields h.field c h.tidy goes;
  same = λ more.
      ap (rows_from st.StartRecord [] []) (append_assoc text (c ∷ []) more) ∙ h.same (c ∷ more) ∙ going s h.fields h.field c more goes;
}

-- the record ends with the next byte
pub head_here : (text rest : List ℕ) (n : ℕ) (s : State) → 3 ≤ length text → rest ≡ drop (mark_len text) text → n < length rest
    → Inside (take n rest) s
    → ends_at_end s ≡ true → ends_at_end (does s (get_or rest n 0)).0 ≡ false → IsHead (take (mark_len text + n + 1) text)
head_here text rest n s long is within h inside between =
    let c = get_or rest n 0 in
    let end = some_end s c h.tidy.plain inside between in
    let header = fields_after (does s c).1 h.fields h.field in
    let e187 : (get_or (drop (mark_len text) text) n 0 == 187) ≡ false =
    subst (λ (r : List ℕ). (get_or r n 0 == 187) ≡ false) is (ends_not s c 187 (keeps_187 s) end) in
    let e239 : (get_or (drop (mark_len text) text) n 0 == 239) ≡ false =
    subst (λ (r : List ℕ). (get_or r n 0 == 239) ≡ false) is (ends_not s c 239 (keeps_239 s) end) in
    record {
      header = header;
      all = λ more.
          let strip : strip_bom (take (mark_len text + n + 1) text ++ more) ≡ take (n + 1) rest ++ more =
          strip_head text more n long (subst (λ (r : List ℕ). n < length r) is within) e187 e239
          ∙ ap (λ (r : List ℕ). take (n + 1) r ++ more) (sym is) in
          ap rows strip ∙ rows_are (take (n + 1) rest ++ more)
          ∙ ap (λ (t : List ℕ). rows_from st.StartRecord [] [] (t ++ more)) (take_more rest n 0 within)
          ∙ ap (rows_from st.StartRecord [] []) (append_assoc (take n rest) (c ∷ []) more)
          ∙ h.same (c ∷ more) ∙ ending s h.fields h.field c more end
          ∙ ap (λ later. header ∷ later) (from_between (does s c).0 more between ∙ sym (rows_are more));
    }

-- what a test says that found no place between two records
pub in_record : (found inside : Bool) → (found ≡ true) ↔ (inside ≡ false) → found ≡ false → inside ≡ true
in_record found true tells e = refl
in_record found false tells e = absurd (cc (tells.1 refl, e))
