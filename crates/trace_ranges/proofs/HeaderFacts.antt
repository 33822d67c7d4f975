-- Where the header of a trace ends.
use Rattle.std.proofs.Common.{◌≡◌, ◌⊎◌, ℕ, ◌-◌, ◌==◌, ◌&&◌, Bool, true, false, cond, not, List, [], ◌∷◌, ◌++◌, length, refl, sym, ap, ◌∙◌}
use Rattle.std.proofs.{Common.{subst, inl, inr, append_assoc, append-nil, arith}, lemmas.Bool.Decides.eqb_tells}
use Rattle.csv.specs.{Machine.{ends_at_end, fields_after, is_end}, Reading.strip_bom, declared.parser.State.State}
use Rattle.csv.specs.declared.parser.State.TheVariants as st
use Rattle.trace_reader.{proofs.{MarkFacts.first_plain, RowFacts.{does, ending, from_between, rows_are, rows_from}}, specs.Reading.records}
use Rattle.trace_reader.specs.Traces.{rest_of}
use Rattle.trace_pieces.proofs.HeadFacts.{Inside, inside_more, inside_start, none_between, none_inside, some_end}
use Rattle.trace_pieces.specs.{Machine.{IsHead, rows, state_of}, declared.scan.Place.Place}
use Rattle.trace_pieces.specs.declared.scan.Place.TheVariants as place
use Rattle.trace_ranges.specs.{Ranges.{begins, kept}, Spots.{in_header, is_between, is_cut, place_after, spot_after}}
use Rattle.trace_ranges.specs.declared.spot.Spot.{Spot}
use Rattle.trace_ranges.specs.declared.spot.Spot.TheVariants as spot
use Rattle.trace_ranges.{specs.declared.window.Window.Window, proofs.{PlaceFacts.state_after, WindowFacts.{begun, kept_cons, kept_none}}}

-- A text that begins so is, without a byte order mark, this one, and goes on.
abbrev Strips : List ℕ → List ℕ → Type 0
Strips text plain = (more : List ℕ) → strip_bom (text ++ more) ≡ plain ++ more

-- no record has ended in the text, and the reader is in this state after it
pub record InHeader (text : List ℕ) (s : State) : Type 0 where
  pub plain : List ℕ
  pub strips : Strips text plain
  pub inside : Inside plain s

goes_on : (text plain : List ℕ) (s : State) (c : ℕ) → Strips text (plain ++ c ∷ []) → Inside plain s → is_end (does s c).1 ≡ false
    → InHeader text (does s c).0
goes_on text plain s c strips h goes = record { plain = plain ++ c ∷ []; strips = strips; inside = inside_more plain s c h goes }

ends_here : (text plain : List ℕ) (s : State) (c : ℕ) → Strips text (plain ++ c ∷ []) → Inside plain s → ends_at_end s ≡ true
    → ends_at_end (does s c).0 ≡ false → IsHead text
ends_here text plain s c strips h inside between =
    let end = some_end s c h.tidy.plain inside between in
    let header = fields_after (does s c).1 h.fields h.field in record {
      header = header;
      all = λ more.
          ap rows (strips more) ∙ (rows_are ((plain ++ c ∷ []) ++ more)
          ∙ (ap (rows_from st.StartRecord [] []) (append_assoc plain (c ∷ []) more)
          ∙ (h.same (c ∷ more) ∙ (ending s h.fields h.field c more end
          ∙ ap (λ later. header ∷ later) (from_between (does s c).0 more between ∙ sym (rows_are more))))));
    }

-- ---- spots

-- what is known of a text after which a reader is at a spot before the end of the header
abbrev pub IsAt : Spot → List ℕ → Type 0
IsAt spot.Start text = text ≡ []
IsAt spot.MarkBegun text = text ≡ 239 ∷ []
IsAt spot.MarkGoesOn text = text ≡ 239 ∷ 187 ∷ []
IsAt (spot.Header at) text = InHeader text (state_of at)
IsAt (spot.Records at) text = ⊥

-- the header has ended with the text, or it goes on
abbrev Steps : Spot → List ℕ → Type 0
Steps at text = ((next : Place) × (at ≡ spot.Records next) × (is_between next ≡ true) × IsHead text)
    ⊎ ((is_cut at ≡ false) × IsAt at text)

not_true : (b : Bool) → not b ≡ true → b ≡ false
not_true false e = refl
not_true true e = absurd (cc e)

not_false : (b : Bool) → not b ≡ false → b ≡ true
not_false true e = refl
not_false false e = absurd (cc e)

in_header_steps : (at : Place) (text plain : List ℕ) (c : ℕ) → Strips text (plain ++ c ∷ []) → Inside plain (state_of at)
    → Steps (in_header at c) text
in_header_steps at text plain c strips h = by (is_between (place_after at c)) (is_between at) refl refl
  where
    goes : is_end (does (state_of at) c).1 ≡ false → IsAt (spot.Header (place_after at c)) text
    goes none = subst (InHeader text) (sym (state_after at c)) (goes_on text plain (state_of at) c strips h none)

    by : (b inside : Bool) → is_between (place_after at c) ≡ b → is_between at ≡ inside
        → Steps (cond (b && not inside) (spot.Records (place_after at c)) (spot.Header (place_after at c))) text
    by true false e f =
        let between : ends_at_end (does (state_of at) c).0 ≡ false =
        ap ends_at_end (sym (state_after at c)) ∙ not_true (ends_at_end (state_of (place_after at c))) e in
        inl (place_after at c, refl, e, ends_here text plain (state_of at) c strips h (not_false (ends_at_end (state_of at)) f) between)
    by true true e f = inr (refl, goes (none_between (state_of at) c (not_true (ends_at_end (state_of at)) f)))
    by false inside e f =
        let within : ends_at_end (does (state_of at) c).0 ≡ true =
        ap ends_at_end (sym (state_after at c)) ∙ not_false (ends_at_end (state_of (place_after at c))) e in
        inr (refl, goes (none_inside (state_of at) c within))

second_plain : (b : ℕ) → (b == 187) ≡ false → Strips (239 ∷ b ∷ []) (239 ∷ b ∷ [])
unfolding strip_bom
second_plain b e [] = refl
second_plain b e (c ∷ rest) = rw e (by (c == 191))
  where
    by : (t : Bool) → cond (true && false && t) rest (239 ∷ b ∷ c ∷ rest) ≡ 239 ∷ b ∷ c ∷ rest
    by true = refl
    by false = refl

third_plain : (c : ℕ) → (c == 191) ≡ false → Strips (239 ∷ 187 ∷ c ∷ []) (239 ∷ 187 ∷ c ∷ [])
unfolding strip_bom
third_plain c e more = rw e refl

mark_strips : Strips (239 ∷ 187 ∷ 191 ∷ []) []
unfolding strip_bom
mark_strips more = refl

begun_mark : Inside (239 ∷ []) st.InField
begun_mark = inside_more [] st.StartRecord 239 inside_start refl

half_mark : Inside (239 ∷ 187 ∷ []) st.InField
half_mark = inside_more (239 ∷ []) st.InField 187 begun_mark refl

is_number : (c n : ℕ) → (c == n) ≡ true → c ≡ n
is_number c n e = elim (eqb_tells c n) [
  | inl same ↦ same.1
  | inr differs ↦ absurd (cc (differs.0, e))
]

steps : (at : Spot) (text : List ℕ) (c : ℕ) → IsAt at text → Steps (spot_after at c) (text ++ c ∷ [])
steps spot.Start text c is = subst (λ t. Steps (spot_after spot.Start c) (t ++ c ∷ [])) (sym is) (by (c == 239) refl)
  where
    by : (b : Bool) → (c == 239) ≡ b → Steps (cond b spot.MarkBegun (in_header place.Between c)) (c ∷ [])
    by true e = inr (refl, ap (λ n. n ∷ []) (is_number c 239 e))
    by false e = in_header_steps place.Between (c ∷ []) [] c (λ more. first_plain c more e) inside_start
steps spot.MarkBegun text c is = subst (λ t. Steps (spot_after spot.MarkBegun c) (t ++ c ∷ [])) (sym is) (by (c == 187) refl)
  where
    by : (b : Bool) → (c == 187) ≡ b → Steps (cond b spot.MarkGoesOn (in_header place.InField c)) (239 ∷ c ∷ [])
    by true e = inr (refl, ap (λ n. 239 ∷ n ∷ []) (is_number c 187 e))
    by false e = in_header_steps place.InField (239 ∷ c ∷ []) (239 ∷ []) c (second_plain c e) begun_mark
steps spot.MarkGoesOn text c is = subst (λ t. Steps (spot_after spot.MarkGoesOn c) (t ++ c ∷ [])) (sym is) (by (c == 191) refl)
  where
    by : (b : Bool) → (c == 191) ≡ b → Steps (cond b (spot.Header place.Between) (in_header place.InField c)) (239 ∷ 187 ∷ c ∷ [])
    by true e = inr (
      refl,
      subst (λ n. InHeader (239 ∷ 187 ∷ n ∷ []) st.StartRecord) (sym (is_number c 191 e))
          (record { plain = []; strips = mark_strips; inside = inside_start }),
    )
    by false e = in_header_steps place.InField (239 ∷ 187 ∷ c ∷ []) (239 ∷ 187 ∷ []) c (third_plain c e) half_mark
steps (spot.Header at) text c is =
    in_header_steps at (text ++ c ∷ []) is.plain c
    (λ more. ap strip_bom (append_assoc text (c ∷ []) more) ∙ (is.strips (c ∷ more) ∙ sym (append_assoc is.plain (c ∷ []) more)))
    is.inside
steps (spot.Records at) text c is = absurd is

-- ---- a text without the end of a header

one_row : (s : State) (f : List (List ℕ)) (p : List ℕ) → rest_of (rows_from s f p []) ≡ []
unfolding rows_from
one_row s f p = by (ends_at_end s)
  where
    by : (b : Bool) → rest_of (cond b ((f ++ (p ∷ [])) ∷ []) []) ≡ []
    by true = refl
    by false = refl

header_only : (text plain : List ℕ) (s : State) → strip_bom text ≡ plain → Inside plain s → rest_of (records text) ≡ []
header_only text plain s strips h =
    ap (λ t. rest_of (rows t)) strips
    ∙ (ap rest_of (rows_are plain)
    ∙ (ap (λ t. rest_of (rows_from st.StartRecord [] [] t)) (sym (append-nil plain))
    ∙ (ap rest_of (h.same []) ∙ one_row s h.fields h.field)))

short_strips : (strip_bom [] ≡ []) × (strip_bom (239 ∷ []) ≡ 239 ∷ []) × (strip_bom (239 ∷ 187 ∷ []) ≡ 239 ∷ 187 ∷ [])
unfolding strip_bom
short_strips = (refl, refl, refl)

no_records : (at : Spot) (text : List ℕ) → IsAt at text → rest_of (records text) ≡ []
no_records spot.Start text is = ap (λ t. rest_of (records t)) is ∙ header_only [] [] st.StartRecord short_strips.0 inside_start
no_records spot.MarkBegun text is =
    ap (λ t. rest_of (records t)) is ∙ header_only (239 ∷ []) (239 ∷ []) st.InField short_strips.1 begun_mark
no_records spot.MarkGoesOn text is =
    ap (λ t. rest_of (records t)) is ∙ header_only (239 ∷ 187 ∷ []) (239 ∷ 187 ∷ []) st.InField short_strips.2 half_mark
no_records (spot.Header at) text is =
    header_only text is.plain (state_of at)
    (ap strip_bom (sym (append-nil text)) ∙ (is.strips [] ∙ append-nil is.plain)) is.inside
no_records (spot.Records at) text is = absurd is

-- ---- what ranges keep of a text whose header ends, and of another

abbrev here : Spot → ℕ → ℕ → Window
here at from to = record { spot = at; keeps = true; from = from; to = to }

-- the header doesn't end, so the text has no records, and each range keeps all of it
pub record HasNoRecords (at : Spot) (before text : List ℕ) : Type 0 where
  pub none : rest_of (records (before ++ text)) ≡ []
  pub all : (from to : ℕ) → kept (here at from to) text ≡ text

-- the header ends, and of the bytes after it a range keeps those of its records
pub record HasHeader (at : Spot) (before text : List ℕ) : Type 0 where
  pub header : List ℕ
  pub rest : List ℕ
  pub next : Place
  pub is : text ≡ header ++ rest
  pub head : IsHead (before ++ header)
  pub between : is_between next ≡ true
  pub range : (from to : ℕ) → kept (here at from to) text
      ≡ header ++ kept (begun next (begins (from - length header) (to - length header)) (from - length header) (to - length header)) rest

-- a byte of the header
first_kept : (at : Spot) (from to c : ℕ) (text : List ℕ) → is_cut (spot_after at c) ≡ false
    → kept (here at from to) (c ∷ text) ≡ c ∷ kept (here (spot_after at c) (from - 1) (to - 1)) text
first_kept at from to c text e =
    kept_cons (here at from to) c text
    ∙ ap (λ b. c ∷ kept (record {
      spot = spot_after at c;
      keeps = cond b (begins (from - 1) (to - 1)) true;
      from = from - 1;
      to = to - 1;
    }) text) e

-- the last byte of the header
last_kept : (at : Spot) (next : Place) (from to c : ℕ) (text : List ℕ) → spot_after at c ≡ spot.Records next → is_between next ≡ true
    → kept (here at from to) (c ∷ text) ≡ c ∷ kept (begun next (begins (from - 1) (to - 1)) (from - 1) (to - 1)) text
last_kept at next from to c text is e =
    kept_cons (here at from to) c text
    ∙ (ap (λ s. c ∷ kept (record {
      spot = s;
      keeps = cond (is_cut s) (begins (from - 1) (to - 1)) true;
      from = from - 1;
      to = to - 1;
    }) text) is
    ∙ ap (λ b. c ∷ kept (begun next (cond b (begins (from - 1) (to - 1)) true) (from - 1) (to - 1)) text) e)

header_more : (at : Spot) (before : List ℕ) (c : ℕ) (text : List ℕ) → is_cut (spot_after at c) ≡ false
    → HasHeader (spot_after at c) (before ++ c ∷ []) text → HasHeader at before (c ∷ text)
header_more at before c text e h = record {
  header = c ∷ h.header;
  rest = h.rest;
  next = h.next;
  is = ap (λ t. c ∷ t) h.is;
  head = subst IsHead (append_assoc before (c ∷ []) h.header) h.head;
  between = h.between;
  range = λ from to.
      let f : from - 1 - length h.header ≡ from - length (c ∷ h.header) = omega arith in
      let t : to - 1 - length h.header ≡ to - length (c ∷ h.header) = omega arith in
      first_kept at from to c text e
      ∙ (ap (λ xs. c ∷ xs) (h.range (from - 1) (to - 1))
      ∙ (ap (λ n. c ∷ h.header ++ kept (begun h.next (begins n (to - 1 - length h.header)) n (to - 1 - length h.header)) h.rest) f
      ∙ ap (λ n. c ∷ h.header ++ kept (begun h.next (begins (from - length (c ∷ h.header)) n) (from - length (c ∷ h.header)) n) h.rest)
      t));
}

pub header_of : (text before : List ℕ) (at : Spot) → IsAt at before → HasNoRecords at before text ⊎ HasHeader at before text
header_of [] before at is = inl (record {
  none = ap (λ t. rest_of (records t)) (append-nil before) ∙ no_records at before is;
  all = λ from to. kept_none (here at from to);
})
header_of (c ∷ text) before at is = elim (steps at before c is) [
  | inl ends ↦ inr (record {
    header = c ∷ [];
    rest = text;
    next = ends.0;
    is = refl;
    head = ends.3;
    between = ends.2;
    range = λ from to. last_kept at ends.0 from to c text ends.1 ends.2;
  })
  | inr on ↦ elim (header_of text (before ++ c ∷ []) (spot_after at c) on.1) [
    | inl none ↦ inl (record {
      none = ap (λ t. rest_of (records t)) (sym (append_assoc before (c ∷ []) text)) ∙ none.none;
      all = λ from to. first_kept at from to c text on.0 ∙ ap (λ xs. c ∷ xs) (none.all (from - 1) (to - 1));
    })
    | inr later ↦ inr (header_more at before c text on.0 later)
  ]
]
