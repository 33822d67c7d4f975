-- In a query whose groupbys all combine each groupby has an additive fold or the switch among its keys.
use Rattle.std.proofs.Common.{◌≡◌, ℕ, zero, suc, ◌<◌, Bool, true, false, not, ◌&&◌, ◌||◌, cond, List, [], ◌∷◌, ◌++◌, length, slice_index}
use Rattle.std.proofs.Common.{Option, Some, None, refl, sym, ap, subst, ◌∙◌, ◌⊎◌, inl, inr, arith}
use Rattle.std.{proofs.lemmas.List.Elements.{All-head, All-tail}, specs.Prelude.{slice_get, if◌then◌else◌}}
use Rattle.std.specs.List.{All, list_any, cons_option}
use Rattle.epoch_model.proofs.KeyLists.{by_test}
use Rattle.query_lang.specs.declared.{fault.{FaultKind.TheVariants.NotAdditive, QueryFault.QueryFault}, fold.TypedFold.TypedFold}
use Rattle.query_lang.specs.declared.typed.{TypedOp.{TypedOp, TheVariants.{Filter, Map, Zip, Group}}, TypedQuery.TypedQuery}
use Rattle.query_lang.specs.{declared.typed.TypedStream.TypedStream, Streams.{Taking, taking_of, takings}}
use Rattle.query_lang.specs.TypedQueries.{IsValidOp, AreValidStreams}
use Rattle.fold_code.specs.Additive.{is_additive}
use Rattle.net_wide.specs.Combining.{is_switch, names_switch, makes_switch, adds, combines, may_stand, first_apart}
use Rattle.net_wide.specs.NetLaws.{IsSwitchSlot, SwitchKeysAreSwitches}

-- one of the keys is the packet's switch
pub record HasSwitchKey (q : TypedQuery) (t : Taking) : Type 0 where
  pub at : ℕ
  pub within : at < length t.keys
  pub slot : IsSwitchSlot q t.input (slice_index t.keys at)

abbrev pub Combines : TypedQuery → Taking → TypedFold → Type 0
Combines q t f = (is_additive f ≡ true) ⊎ HasSwitchKey q t

-- a place where the test holds
record Found (test : ℕ → Bool) (xs : List ℕ) : Type 0 where
  at : ℕ
  within : at < length xs
  holds : test (slice_index xs at) ≡ true

found : (test : ℕ → Bool) (xs : List ℕ) → list_any test xs ≡ true → Found test xs
found test [] e = cc
found test (x ∷ xs) e = by_test (test x)
    (λ h. record { at = 0; within = omega arith; holds = h })
    (λ h. let more = found test xs (ap (λ b. b || list_any test xs) (sym h) ∙ e) in record
    { at = suc more.at; within = (let w = more.within in omega arith); holds = more.holds })

both_true : (a b : Bool) → (a && b) ≡ true → (a ≡ true) × (b ≡ true)
both_true true b e = (refl, e)
both_true false b e = cc

is_false : (b : Bool) → not b ≡ true → b ≡ false
is_false true e = cc
is_false false e = refl

module _ (q : TypedQuery) where
  this_combines : (input n : ℕ) (keys args columns : List ℕ) (f : TypedFold) → combines q n columns ≡ true → length columns ≡ length keys
      → SwitchKeysAreSwitches q columns (Group input keys n args) → slice_get q.folds n ≡ Some f
      → Combines q (record { input = input; keys = keys; fold_number = n; args = args }) f
  this_combines input n keys args columns f e wide tells is = by_test (is_additive f)
      (λ h. inl h)
      (λ h. let named : (names_switch q.names columns && not (makes_switch q.names q.streams)) ≡ true =
      ap (λ b. b || (names_switch q.names columns && not (makes_switch q.names q.streams))) (sym (ap adds is ∙ h)) ∙ e in
      let both = both_true (names_switch q.names columns) (not (makes_switch q.names q.streams)) named in
      let key = found (is_switch q.names) columns both.0 in
      let within : key.at < length keys = subst (λ n. key.at < n) wide key.within in
      inr (record {
        at = key.at;
        within = within;
        slot = tells key.at within key.holds (is_false (makes_switch q.names q.streams) both.1);
      }))

  abbrev AllCombine : List TypedStream → Type 0
  AllCombine streams = (i : ℕ) (t : Taking) (f : TypedFold) → slice_get (takings streams) i ≡ Some t
      → slice_get q.folds t.fold_number ≡ Some f → Combines q t f

  pub all_combine : (before streams : List TypedStream) → first_apart q streams ≡ None
      → AreValidStreams (length q.names) q.folds before streams
      → All (λ one. SwitchKeysAreSwitches q one.columns one.op) streams → AllCombine streams
  all_combine before [] e valid tells = none
    where
      none : AllCombine []
      none i t f at is = cc
  all_combine before (one ∷ streams) e valid tells =
      go one.op e valid.0.operator (All-head (λ s. SwitchKeysAreSwitches q s.columns s.op) one streams tells)
      (λ none. all_combine (before ++ one ∷ []) streams none valid.1 (All-tail (λ s. SwitchKeysAreSwitches q s.columns s.op) one streams
      tells))
    where
      fault : Option QueryFault
      fault = Some (record { kind = NotAdditive; span = one.name.span })

      go : (op : TypedOp) → (if may_stand q one.columns op then first_apart q streams else Some
          (record { kind = NotAdditive; span = one.name.span })) ≡ None
          → IsValidOp q.folds before (length one.columns) op → SwitchKeysAreSwitches q one.columns op
          → (first_apart q streams ≡ None → AllCombine streams)
          → (i : ℕ) (t : Taking) (f : TypedFold) → slice_get (cons_option (taking_of op) (takings streams)) i ≡ Some t
          → slice_get q.folds t.fold_number ≡ Some f → Combines q t f
      go (Filter _ _) e v k rest i t f at is = rest e i t f at is
      go (Map _ _) e v k rest i t f at is = rest e i t f at is
      go (Zip _ _ _) e v k rest i t f at is = rest e i t f at is
      go (Group input keys n args) e v k rest zero t f at is = by_test (combines q n one.columns)
          (λ h. let same : record { input = input; keys = keys; fold_number = n; args = args } ≡ t = cc in
          subst (λ t. slice_get q.folds t.fold_number ≡ Some f → Combines q t f) same
          (λ is. this_combines input n keys args one.columns f h v.2 k is) is)
          (λ h. let wrong : fault ≡ None = ap (λ b. cond b (first_apart q streams) fault) (sym h) ∙ e in cc)
      go (Group input keys n args) e v k rest (suc i) t f at is = by_test (combines q n one.columns)
          (λ h. rest (ap (λ b. cond b (first_apart q streams) fault) (sym h) ∙ e) i t f at is)
          (λ h. let wrong : fault ≡ None = ap (λ b. cond b (first_apart q streams) fault) (sym h) ∙ e in cc)
