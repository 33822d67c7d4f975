-- The packets of a piece, one by one.
use Rattle.std.proofs.Common.{◌≡◌, ℕ, ◌+◌, List, [], ◌∷◌, ◌++◌, length, refl, sym, ap, subst, ◌∙◌, append_assoc, append-nil, length-append}
use Rattle.std.proofs.Common.{arith}
use Rattle.marple_base.specs.declared.field.{FieldSet.FieldSet, Packet.Packet}
use Rattle.trace_reader.specs.{Traces.{packets, trace_fault}, Upcoming.{Gives, Upcoming, upcoming_of}}
use Rattle.trace_split.specs.{Holding.{TakeFronts, Taken}, PartTexts.{HoldsPackets, SameSetting, is_setting, parts_of, texts_of}}
use Rattle.trace_split.{specs.declared.texts.PartTexts.PartTexts, proofs.SettingFacts.{fronts_grow, fronts_of}}

-- the packets that a trace has given so far, and P of them
pub record SoFar (text : List ℕ) (reads : FieldSet) (trace : Upcoming) (count : ℕ) (P : List Packet → Type 0) : Type 0 where
  pub given : List Packet
  pub all : packets text reads ≡ given ++ trace.packets
  pub fault : trace.fault ≡ trace_fault text reads
  pub size : length given ≡ count
  pub holds : P given

pub so_far_none : (text : List ℕ) (reads : FieldSet) (trace : Upcoming) (P : List Packet → Type 0) → trace ≡ upcoming_of text reads → P []
    → SoFar text reads trace 0 P
so_far_none text reads trace P is holds = record {
  given = [];
  all = sym (ap (λ (t : Upcoming). t.packets) is);
  fault = ap (λ (t : Upcoming). t.fault) is;
  size = refl;
  holds = holds;
}

-- one packet more
pub so_far_more : (text : List ℕ) (reads : FieldSet) (old new : Upcoming) (count : ℕ) (packet : Packet) (P Q : List Packet → Type 0)
    → SoFar text reads old count P
    → Gives old packet new → ((given : List Packet) → P given → Q (given ++ packet ∷ [])) → SoFar text reads new (count + 1) Q
so_far_more text reads old new count packet P Q h gives more = record {
  given = h.given ++ packet ∷ [];
  all = h.all ∙ ap (λ (ps : List Packet). h.given ++ ps) gives.packets ∙ sym (append_assoc h.given (packet ∷ []) new.packets);
  fault = gives.fault ∙ h.fault;
  size = omega (arith, h.size, length-append h.given (packet ∷ []));
  holds = more h.given h.holds;
}

-- all packets were given
pub so_far_all : (text : List ℕ) (reads : FieldSet) (trace : Upcoming) (count : ℕ) (P : List Packet → Type 0)
    (h : SoFar text reads trace count P) → trace.packets ≡ []
    → packets text reads ≡ h.given
so_far_all text reads trace count P h none = h.all ∙ ap (λ (ps : List Packet). h.given ++ ps) none ∙ append-nil h.given

-- ---- in their parts

-- these packets were added to those before
abbrev pub Adds : Taken → PartTexts → Taken → PartTexts → List Packet → Type 0
Adds old start now new given = (first : Taken) (before : List Packet) → HoldsPackets first old start before
    → HoldsPackets first now new (before ++ given)

module _ (text : List ℕ) (reads : FieldSet) (trace : Upcoming) (count : ℕ) (start new : PartTexts) (old now : Taken)
    (h : SoFar text reads trace count (Adds old start now new)) (same : SameSetting start new) (first : Taken) (before : List Packet) where
  go_on : (before ++ h.given) ++ trace.packets ≡ before ++ packets text reads
  go_on = append_assoc before h.given trace.packets ∙ ap (λ ps. before ++ ps) (sym h.all)

  -- what was taken is a front of the texts of all packets
  pub so_far_fronts : is_setting new → HoldsPackets first old start before
      → TakeFronts (parts_of start) first now (texts_of start (before ++ packets text reads))
  so_far_fronts setting holds =
      subst (λ ps. TakeFronts (parts_of start) first now (texts_of start ps)) go_on
      (fronts_of start new first now (before ++ h.given) trace.packets same setting (h.holds first before holds))

  -- also after a packet that wasn't added
  pub so_far_broke : (then : Taken) → TakeFronts (parts_of new) first then (texts_of new (before ++ h.given))
      → TakeFronts (parts_of start) first then (texts_of start (before ++ packets text reads))
  so_far_broke then fronts =
      subst (λ ps. TakeFronts (parts_of start) first then (texts_of start ps)) go_on
      (fronts_grow start new first then (before ++ h.given) trace.packets same fronts)
