-- What the sinks of parts have taken, as packets are added.
use Rattle.std.proofs.Common.{◌≡◌, ◌≢◌, ℕ, ◌+◌, ◌<◌, ◌≤◌, List, [], ◌∷◌, ◌++◌, length, get_or, set, slice_get, Option, Some, refl, sym, ap}
use Rattle.std.proofs.{Common.{subst, ◌∙◌, inl, inr, append-nil, arith}, lemmas.Bool.{cases_lt, Decides.eqb_tells}}
use Rattle.std.{proofs.lemmas.Option.slice_get-get_or, specs.Io.KnownBytes.Appends}
use Rattle.marple_base.specs.{Sink.TakesFront, declared.field.{Field.Field, Packet.Packet}, Pieces.TakesAllBut}
use Rattle.marple_base.proofs.Pieces.{front_is_taken, front_taken, goes_on, more_waits, none_taken, none_waits, rest_taken, then}
use Rattle.trace_split.{specs.Holding.{Holds, TakeFronts, TakeTexts, Taken}, proofs.ListFacts.{set_here, set_there}}
use Rattle.queue_sim.specs.TraceText.{fields_line}
use Rattle.part_texts.{specs.Texts.{lines_of, packets_of_part}, proofs.TextFacts.{body_of, one_here, one_there, text_append}}

-- the text of each part
abbrev pub texts_by : List Field → (List ℕ → ℕ) → List Packet → ℕ → List ℕ
texts_by fields partition sent n = lines_of fields (packets_of_part partition n sent)

-- one packet more: its line waits in the buffer of its part, or some of what waits there was taken
pub holds_add : (first old new : Taken) (waiting : List (List ℕ)) (later : List ℕ) (fields : List Field) (partition : List ℕ → ℕ)
    (sent : List Packet) (packet : Packet)
    (part : ℕ) (before : List ℕ) → part ≡ partition packet.words → slice_get waiting part ≡ Some before
    → TakesAllBut (old part) (new part) later (before ++ fields_line fields packet.words)
    → ((n : ℕ) → n ≢ part → new n ≡ old n)
    → Holds first old waiting (texts_by fields partition sent)
    → Holds first new (set waiting part later) (texts_by fields partition (sent ++ packet ∷ []))
holds_add first old new waiting later fields partition sent packet part before own here took others holds = record {
  each = λ n bytes at.
      let pushed = text_append fields partition n sent (packet ∷ []) in
      elim (eqb_tells (partition packet.words) n) [
        | inl same ↦
            let is : part ≡ n = own ∙ same.1 in
            let kept : slice_get (set waiting part later) part ≡ Some bytes =
            subst (λ k. slice_get (set waiting part later) k ≡ Some bytes) (sym is) at in
            let there : later ≡ bytes = set_here waiting part later bytes kept in
            let line = fields_line fields packet.words in
            let held = holds.each part before here in
            let grown : TakesAllBut (first part) (new part) later (texts_by fields partition sent part ++ line) =
            then (first part) (old part) (new part) (before ++ line) later (texts_by fields partition sent part ++ line)
            (more_waits (first part) (old part) before (texts_by fields partition sent part) line held) took in
            let now : TakesAllBut (first n) (new n) later (texts_by fields partition sent n ++ line) =
            subst (λ k. TakesAllBut (first k) (new k) later (texts_by fields partition sent k ++ line)) is grown in
            let whole : texts_by fields partition sent n ++ line ≡ texts_by fields partition (sent ++ packet ∷ []) n =
            ap (λ more. texts_by fields partition sent n ++ more) (sym (one_here fields partition n packet same.0)) ∙ sym pushed in
            subst (TakesAllBut (first n) (new n) bytes) whole (subst (λ w. TakesAllBut (first n) (new n) w
            (texts_by fields partition sent n ++ line)) there now)
        | inr differs ↦
            let not : part ≡ n → ⊥ = λ e. differs.1 (sym own ∙ e) in
            let kept : slice_get waiting n ≡ Some bytes = sym (set_there waiting part n later not) ∙ at in
            let held = holds.each n bytes kept in
            let same_taken : new n ≡ old n = others n (λ e. not (sym e)) in
            let whole : texts_by fields partition sent n ≡ texts_by fields partition (sent ++ packet ∷ []) n =
            sym (append-nil (texts_by fields partition sent n))
            ∙ ap (λ more. texts_by fields partition sent n ++ more) (sym (one_there fields partition n packet differs.0)) ∙ sym pushed in
            subst (TakesAllBut (first n) (new n) bytes) whole
            (subst (λ (t : Option (List ℕ)). TakesAllBut (first n) t bytes (texts_by fields partition sent n)) (sym same_taken) held)
      ];
}

-- the buffer of each part
buffer_at : (waiting : List (List ℕ)) (parts n : ℕ) → length waiting ≡ parts → n < parts → slice_get waiting n ≡ Some (get_or waiting n [])
buffer_at waiting parts n size within = slice_get-get_or waiting n [] (omega arith)

-- what was taken is a front of each text
pub fronts_held : (first now : Taken) (waiting : List (List ℕ)) (texts : ℕ → List ℕ) (parts : ℕ) → length waiting ≡ parts
    → Holds first now waiting texts → TakeFronts parts first now texts
fronts_held first now waiting texts parts size holds n within =
    let bytes = get_or waiting n [] in
    front_taken (first n) (now n) (now n) bytes (texts n) (holds.each n bytes (buffer_at waiting parts n size within))
    (none_taken (now n) bytes)

-- also after some of what waits of one part was taken
pub fronts_more : (first old new : Taken) (waiting : List (List ℕ)) (texts : ℕ → List ℕ) (parts part : ℕ) (before : List ℕ)
    → length waiting ≡ parts
    → slice_get waiting part ≡ Some before → TakesFront (old part) (new part) before → ((n : ℕ) → n ≢ part → new n ≡ old n)
    → Holds first old waiting texts → TakeFronts parts first new texts
fronts_more first old new waiting texts parts part before size here front others holds n within = elim (eqb_tells part n) [
  | inl same ↦
      subst (λ k. TakesFront (first k) (new k) (texts k)) same.1
      (front_taken (first part) (old part) (new part) before (texts part) (holds.each part before here) front)
  | inr differs ↦
      subst (λ (t : Option (List ℕ)). TakesFront (first n) t (texts n)) (sym (others n (λ e. differs.1 (sym e))))
      (fronts_held first old waiting texts parts size holds n within)
]

-- fronts of texts that go on
pub fronts_go_on : (first now : Taken) (fields : List Field) (partition : List ℕ → ℕ) (parts : ℕ) (sent more : List Packet)
    → TakeFronts parts first now (texts_by fields partition sent) → TakeFronts parts first now (texts_by fields partition (sent ++ more))
fronts_go_on first now fields partition parts sent more fronts n within =
    subst (TakesFront (first n) (now n)) (sym (text_append fields partition n sent more))
    (goes_on (first n) (now n) (texts_by fields partition sent n) (body_of fields (packets_of_part partition n more)) (fronts n within))

-- ---- the end

-- the texts of the first parts are written, and what waits of the others still waits
pub record Ended (old now : Taken) (waiting : List (List ℕ)) (part : ℕ) : Type 0 where
  pub done : (n : ℕ) → n < part → Appends (old n) (now n) (get_or waiting n [])
  pub left : (n : ℕ) → part ≤ n → now n ≡ old n

pub ended_none : (now : Taken) (waiting : List (List ℕ)) → Ended now now waiting 0
ended_none now waiting = record { done = λ n within. absurd (omega (arith, within)); left = λ n _. refl }

pub ended_more : (old now new : Taken) (waiting : List (List ℕ)) (part : ℕ) → Ended old now waiting part
    → Appends (now part) (new part) (get_or waiting part []) → ((n : ℕ) → n ≢ part → new n ≡ now n) → Ended old new waiting (part + 1)
ended_more old now new waiting part ended took others = record {
  done = λ n within. elim (eqb_tells part n) [
    | inl same ↦
        subst (λ k. Appends (old k) (new k) (get_or waiting k [])) same.1
        (subst (λ (t : Option (List ℕ)). Appends t (new part) (get_or waiting part [])) (ended.left part (omega arith)) took)
    | inr differs ↦
        subst (λ (t : Option (List ℕ)). Appends (old n) t (get_or waiting n [])) (sym (others n (λ e. differs.1 (sym e))))
        (ended.done n (let not : part ≢ n = differs.1 in omega (arith, within, not)))
  ];
  left = λ n above. others n (λ e. absurd (omega (arith, above, e))) ∙ ended.left n (omega (arith, above));
}

pub ended_all : (first old now : Taken) (waiting : List (List ℕ)) (texts : ℕ → List ℕ) (parts part : ℕ) → length waiting ≡ parts
    → parts ≤ part
    → Holds first old waiting texts → Ended old now waiting part → TakeTexts parts first now texts
ended_all first old now waiting texts parts part size all holds ended n within =
    let bytes = get_or waiting n [] in
    rest_taken (first n) (old n) (now n) bytes (texts n) (holds.each n bytes (buffer_at waiting parts n size within))
    (ended.done n (omega (arith, within)))

-- the write of a part failed
pub ended_front : (first old now new : Taken) (waiting : List (List ℕ)) (texts : ℕ → List ℕ) (parts part : ℕ) → length waiting ≡ parts
    → part < parts
    → Holds first old waiting texts → Ended old now waiting part → TakesFront (now part) (new part) (get_or waiting part [])
    → ((n : ℕ) → n ≢ part → new n ≡ now n) → TakeFronts parts first new texts
ended_front first old now new waiting texts parts part size within_part holds ended front others n within = elim (eqb_tells part n) [
  | inl same ↦
      let at = get_or waiting part [] in
      let own : TakesFront (old part) (new part) at = subst (λ (t : Option (List ℕ)). TakesFront t (new part) at)
      (ended.left part (omega arith)) front in
      subst (λ k. TakesFront (first k) (new k) (texts k)) same.1
      (front_taken (first part) (old part) (new part) at (texts part) (holds.each part at (buffer_at waiting parts part size within_part))
      own)
  | inr differs ↦
      let at = get_or waiting n [] in
      let held = holds.each n at (buffer_at waiting parts n size within) in
      let same_now : new n ≡ now n = others n (λ e. differs.1 (sym e)) in
      subst (λ (t : Option (List ℕ)). TakesFront (first n) t (texts n)) (sym same_now)
      (elim (cases_lt n part) [
        | inl before ↦ front_is_taken (first n) (now n) [] (texts n) (none_waits (first n) (now n) (texts n)
            (rest_taken (first n) (old n) (now n) at (texts n) held (ended.done n before)))
        | inr later ↦
            subst (λ (t : Option (List ℕ)). TakesFront (first n) t (texts n)) (sym (ended.left n later))
            (front_taken (first n) (old n) (old n) at (texts n) held (none_taken (old n) at))
      ])
]
