-- Reading one token at a time reads what a stack of expected things reads.
use Rattle.std.proofs.Common.{◌≡◌, ℕ, ◌+◌, ◌^◌, ◌<◌, Bool, true, false, ◌&&◌, List, [], ◌∷◌, ◌++◌, Some, None, refl, sym, ap, ◌∙◌, subst}
use Rattle.std.proofs.{Common.{arith, inl, inr}, lemmas.{Bool.Decides.nat_tests, List.reverse-append}}
use Rattle.std.specs.Prelude.{nat_lt, reverse, ◌⊎◌}
use Rattle.query_lang.specs.Blocks as blocks
use Rattle.query_lang.specs.{Terms.Term, declared.fault.TheConstants.MAX_NESTING}
use Rattle.plan_file.specs.declared.lexemes.Lexeme.{Lexeme}
use Rattle.plan_file.specs.declared.lexemes.Lexeme.TheVariants as word
use Rattle.plan_file.specs.declared.wants.Want.{Want, TheVariants.{Word, Condition, Divisor, Shift, Target, Open, Block}}
use Rattle.plan_file.specs.Bodies.{written, written_block, IsBody}
use Rattle.plan_file.specs.Wants.{past_word, after_condition, after_number, after_target, after_open, past, Steps, Sticks}
use Rattle.plan_file.proofs.WantedTerms.{head_same, tail_same, where_some, where_none, and_both, Reads, AllRead, all_join, all_split}
use Rattle.plan_file.proofs.WantedTerms.{one_read, only_one, nothing_read, wanted_go, first_of, rest_of, first_rest, word_goes, word_sticks}
use Rattle.plan_file.proofs.WantedTerms.{word_back, condition_goes, condition_sticks, condition_back}
use Rattle.plan_file.proofs.WantedBlocks.{block_goes, block_sticks, block_back}

module _ (states args : ℕ) where
  -- a number for which a test holds
  number_goes : (test : ℕ → Bool) (w : Lexeme) (n : ℕ) (front : List Lexeme) (wants : List Want) → after_number test w ≡ Some wants → w
      ∷ front ≡ word.Number n ∷ [] → AllRead states args (reverse wants) front
  number_goes test w n front wants h e =
      let here : after_number test (word.Number n) ≡ Some wants = sym (ap (after_number test) (head_same w (word.Number n) front [] e))
      ∙ h in
      wanted_go states args [] wants front (where_some (nat_lt n (2 ^ 64) && test n) [] wants here).1
      (tail_same w (word.Number n) front [] e)

  number_sticks : (test : ℕ → Bool) (w : Lexeme) (n : ℕ) (front : List Lexeme) → after_number test w ≡ None → w ∷ front ≡ word.Number n ∷ []
      → n < 2 ^ 64 → test n ≡ true → ⊥
  number_sticks test w n front h e small holds =
      let here : after_number test (word.Number n) ≡ None = sym (ap (after_number test) (head_same w (word.Number n) front [] e)) ∙ h in
      let out : (nat_lt n (2 ^ 64) && test n) ≡ false = where_none (nat_lt n (2 ^ 64) && test n) [] here in
      let first : nat_lt n (2 ^ 64) ≡ true = grind (arith, nat_tests) in
      both (nat_lt n (2 ^ 64)) (test n) first holds out
    where
      both : (a b : Bool) → a ≡ true → b ≡ true → (a && b) ≡ false → ⊥
      both true true p q r = cc
      both true false p q r = cc
      both false b p q r = cc

  number_from : (test : ℕ → Bool) (w : Lexeme) (wants : List Want) (front : List Lexeme) → after_number test w ≡ Some wants
      → AllRead states args (reverse wants) front → (n : ℕ) × (w ∷ front ≡ word.Number n ∷ []) × (n < 2 ^ 64) × (test n ≡ true)
  number_from test (word.Number n) wants front h p =
      let t = where_some (nat_lt n (2 ^ 64) && test n) [] wants h in
      let b = and_both (nat_lt n (2 ^ 64)) (test n) t.0 in
      let small : n < 2 ^ 64 = (let e : nat_lt n (2 ^ 64) ≡ true = b.0 in grind (arith, nat_tests)) in
      (n, ap (λ l. word.Number n ∷ l) (nothing_read states args wants front t.1 p), small, b.1)
  number_from test _ wants front h p = cc

  target_goes : (w : Lexeme) (v : ℕ) (front : List Lexeme) (wants : List Want) → after_target states w ≡ Some wants → w
      ∷ front ≡ word.State v ∷ [] → AllRead states args (reverse wants) front
  target_goes w v front wants h e =
      let here : after_target states (word.State v) ≡ Some wants = sym (ap (after_target states) (head_same w (word.State v) front [] e))
      ∙ h in
      wanted_go states args [] wants front (where_some (nat_lt v states) [] wants here).1 (tail_same w (word.State v) front [] e)

  target_sticks : (w : Lexeme) (v : ℕ) (front : List Lexeme) → after_target states w ≡ None → w ∷ front ≡ word.State v ∷ [] → v < states → ⊥
  target_sticks w v front h e lt =
      let here : after_target states (word.State v) ≡ None = sym (ap (after_target states) (head_same w (word.State v) front [] e)) ∙ h in
      let out : nat_lt v states ≡ false = where_none (nat_lt v states) [] here in
      grind (arith, nat_tests)

  target_back : (w : Lexeme) (wants : List Want) (front : List Lexeme) → after_target states w ≡ Some wants
      → AllRead states args (reverse wants) front → Reads states args Target (w ∷ front)
  target_back (word.State v) wants front h p =
      let t = where_some (nat_lt v states) [] wants h in
      let small : v < states = (let e : nat_lt v states ≡ true = t.0 in grind (arith, nat_tests)) in
      (v, ap (λ l. word.State v ∷ l) (nothing_read states args wants front t.1 p), small)
  target_back _ wants front h p = cc

  open_back : (w : Lexeme) (wants : List Want) (front : List Lexeme) → after_open w ≡ Some wants → AllRead states args (reverse wants) front
      → Reads states args Open (w ∷ front)
  open_back word.Open wants front h p = let same : wants ≡ [] = cc in ap (λ l. word.Open ∷ l) (nothing_read states args wants front same p)
  open_back _ wants front h p = cc

  -- one token of what is expected: what is then expected reads the tokens after it
  term_first : (e : Term) (w : Lexeme) (front : List Lexeme) → w ∷ front ≡ written states e → (w ≡ first_of states args e)
      × (front ≡ rest_of states args e)
  term_first e w front eq =
      let both : w ∷ front ≡ first_of states args e ∷ rest_of states args e = eq ∙ first_rest states args e in (
        head_same w (first_of states args e) front (rest_of states args e) both,
        tail_same w (first_of states args e) front (rest_of states args e) both,
      )

  goes : (want : Want) (w : Lexeme) (front : List Lexeme) (wants : List Want) → past states (states + args) want w ≡ Some wants
      → Reads states args want (w ∷ front) → AllRead states args (reverse wants) front
  goes Word w front wants h (e, eq, v, k) =
      let t = term_first e w front eq in
      subst (AllRead states args (reverse wants)) (sym t.1) (word_goes states args e wants
      (sym (ap (past_word states (states + args)) t.0) ∙ h) v k)
  goes Condition w front wants h (e, eq, v, k) =
      let t = term_first e w front eq in
      subst (AllRead states args (reverse wants)) (sym t.1) (condition_goes states args e wants (sym (ap after_condition t.0) ∙ h) v k)
  goes Divisor w front wants h (n, eq, s, p) = number_goes (λ m. nat_lt 0 m) w n front wants h eq
  goes Shift w front wants h (n, eq, s, p) = number_goes (λ m. nat_lt m 64) w n front wants h eq
  goes Target w front wants h (v, eq, lt) = target_goes w v front wants h eq
  goes Open w front wants h eq =
      let here : after_open word.Open ≡ Some wants = sym (ap after_open (head_same w word.Open front [] eq)) ∙ h in
      let same : wants ≡ [] = cc in
      wanted_go states args [] wants front same (tail_same w word.Open front [] eq)
  goes (Block room) w front wants h (b, eq, v, o) = block_goes states args room b w front wants h eq v o

  back : (want : Want) (w : Lexeme) (front : List Lexeme) (wants : List Want) → past states (states + args) want w ≡ Some wants
      → AllRead states args (reverse wants) front → Reads states args want (w ∷ front)
  back Word w front wants h p = word_back states args w wants front h p
  back Condition w front wants h p = condition_back states args w wants front h p
  back Divisor w front wants h p =
      let q = number_from (λ m. nat_lt 0 m) w wants front h p in
      let e : nat_lt 0 q.0 ≡ true = q.3 in
      (q.0, q.1, q.2, grind (arith, nat_tests))
  back Shift w front wants h p =
      let q = number_from (λ m. nat_lt m 64) w wants front h p in
      let e : nat_lt q.0 64 ≡ true = q.3 in
      (q.0, q.1, q.2, grind (arith, nat_tests))
  back Target w front wants h p = target_back w wants front h p
  back Open w front wants h p = open_back w wants front h p
  back (Block room) w front wants h p = block_back states args room w wants front h p

  stuck : (want : Want) (w : Lexeme) (front : List Lexeme) → past states (states + args) want w ≡ None → Reads states args want (w ∷ front)
      → ⊥
  stuck Word w front h (e, eq, v, k) = let t = term_first e w front eq in word_sticks states args e
      (sym (ap (past_word states (states + args)) t.0) ∙ h) v k
  stuck Condition w front h (e, eq, v, k) = let t = term_first e w front eq in condition_sticks states args e
      (sym (ap after_condition t.0) ∙ h) k
  stuck Divisor w front h (n, eq, s, p) = number_sticks (λ m. nat_lt 0 m) w n front h eq s (let lt : 0 < n = p in grind (arith, nat_tests))
  stuck Shift w front h (n, eq, s, p) = number_sticks (λ m. nat_lt m 64) w n front h eq s (let lt : n < 64 = p in grind (arith, nat_tests))
  stuck Target w front h (v, eq, lt) = target_sticks w v front h eq lt
  stuck Open w front h eq =
      let here : after_open word.Open ≡ None = sym (ap after_open (head_same w word.Open front [] eq)) ∙ h in
      cc
  stuck (Block room) w front h (b, eq, v, o) = block_sticks states args room b w front h eq o

  -- what is expected has a first token
  some_token : (want : Want) → Reads states args want [] → ⊥
  some_token Word (e, eq, v, k) = let both : [] ≡ first_of states args e ∷ rest_of states args e = eq ∙ first_rest states args e in cc
  some_token Condition (e, eq, v, k) = let both : [] ≡ first_of states args e ∷ rest_of states args e = eq ∙ first_rest states args e in cc
  some_token Divisor (n, eq, s, p) = cc
  some_token Shift (n, eq, s, p) = cc
  some_token Target (v, eq, lt) = cc
  some_token Open eq = cc
  some_token (Block room) (b, eq, v, o) = never (written_block states b) eq
    where
      never : (l : List Lexeme) → [] ≡ l ++ word.Close ∷ [] → ⊥
      never [] e = cc
      never (x ∷ l) e = cc

  -- the same over a stack, whose nearest entry is the last
  abbrev pub StackReads : List Want → List Lexeme → Type 0
  StackReads stack ls = AllRead states args (reverse stack) ls

  top_is : (stack front : List Want) (want : Want) → stack ≡ front ++ want ∷ [] → reverse stack ≡ want ∷ reverse front
  top_is stack front want e = ap reverse e ∙ reverse-append front (want ∷ [])

  top_reads : (front : List Want) (want : Want) (w : Lexeme) (ls : List Lexeme) → AllRead states args (want ∷ reverse front) (w ∷ ls)
      → (f : List Lexeme) × (b : List Lexeme) × (ls ≡ f ++ b) × Reads states args want (w ∷ f) × AllRead states args (reverse front) b
  top_reads front want w ls ([], b, e, r, more) = absurd (some_token want r)
  top_reads front want w ls (x ∷ f, b, e, r, more) =
      let same : w ≡ x = head_same w x ls (f ++ b) e in
      (f, b, tail_same w x ls (f ++ b) e, subst (λ y. Reads states args want (y ∷ f)) (sym same) r, more)

  pub step_goes : (old new : List Want) (w : Lexeme) (ls : List Lexeme) → Steps states (states + args) w old new → StackReads old (w ∷ ls)
      → StackReads new ls
  step_goes old new w ls s p =
      let t = top_reads s.front s.want w ls (subst (λ st. AllRead states args st (w ∷ ls)) (top_is old s.front s.want s.old_is) p) in
      let inner : AllRead states args (reverse s.wants) t.0 = goes s.want w t.0 s.wants s.after_is t.3 in
      let joined : AllRead states args (reverse s.wants ++ reverse s.front) (t.0 ++ t.1) =
      all_join states args (reverse s.wants) (reverse s.front) t.0 t.1 inner t.4 in
      let stack : reverse new ≡ reverse s.wants ++ reverse s.front = ap reverse s.new_is ∙ reverse-append s.front s.wants in
      subst (λ st. AllRead states args st ls) (sym stack) (subst (AllRead states args (reverse s.wants ++ reverse s.front)) (sym t.2)
      joined)

  pub step_back : (old new : List Want) (w : Lexeme) (ls : List Lexeme) → Steps states (states + args) w old new → StackReads new ls
      → StackReads old (w ∷ ls)
  step_back old new w ls s p =
      let stack : reverse new ≡ reverse s.wants ++ reverse s.front = ap reverse s.new_is ∙ reverse-append s.front s.wants in
      let t = all_split states args (reverse s.wants) (reverse s.front) ls (subst (λ st. AllRead states args st ls) stack p) in
      let one : Reads states args s.want (w ∷ t.0) = back s.want w t.0 s.wants s.after_is t.3 in
      subst (λ st. AllRead states args st (w ∷ ls)) (sym (top_is old s.front s.want s.old_is)) (w ∷ t.0, t.1, ap (λ l. w ∷ l) t.2, one, t.4)

  -- a stack is empty, or has a last entry
  last_entry : (stack : List Want) → (stack ≡ []) ⊎ ((front : List Want) × (want : Want) × (stack ≡ front ++ want ∷ []))
  last_entry [] = inl refl
  last_entry (x ∷ []) = inr ([], x, refl)
  last_entry (x ∷ y ∷ rest) = elim (last_entry (y ∷ rest)) [
    | inl none ↦ inr ([], x, cc)
    | inr found ↦ inr (x ∷ found.0, found.1, ap (λ l. x ∷ l) found.2)
  ]

  pub step_sticks : (old : List Want) (w : Lexeme) (ls : List Lexeme) → Sticks states (states + args) w old → StackReads old (w ∷ ls) → ⊥
  step_sticks old w ls s p = elim (last_entry old) [
    | inl none ↦ (let q : AllRead states args (reverse []) (w ∷ ls) = subst (λ st. AllRead states args (reverse st) (w ∷ ls)) none p in cc)
    | inr found ↦
        (let t = top_reads found.0 found.1 w ls (subst (λ st. AllRead states args st (w ∷ ls)) (top_is old found.0 found.1 found.2) p) in
        stuck found.1 w t.0 (s.none found.0 found.1 found.2) t.3)
  ]

  -- nothing is left of the stack exactly where nothing is read
  pub ends_read : (stack : List Want) → stack ≡ [] → StackReads stack []
  ends_read stack e = subst (λ st. AllRead states args (reverse st) []) (sym e) refl

  pub ends_empty : (stack : List Want) → StackReads stack [] → stack ≡ []
  ends_empty stack p = elim (last_entry stack) [
    | inl none ↦ none
    | inr found ↦ absurd (none_reads found.1 (reverse found.0) (subst (λ st. AllRead states args st [])
        (top_is stack found.0 found.1 found.2) p))
  ]
    where
      none_reads : (want : Want) (rest : List Want) → AllRead states args (want ∷ rest) [] → ⊥
      none_reads want rest ([], b, e, r, more) = some_token want r
      none_reads want rest (x ∷ f, b, e, r, more) = cc

  snoc_same : (a b : List Lexeme) (x : Lexeme) → a ++ x ∷ [] ≡ b ++ x ∷ [] → a ≡ b
  snoc_same [] [] x e = refl
  snoc_same [] (y ∷ []) x e = cc
  snoc_same [] (y ∷ z ∷ b) x e = cc
  snoc_same (y ∷ []) [] x e = cc
  snoc_same (y ∷ z ∷ a) [] x e = cc
  snoc_same (y ∷ a) (z ∷ b) x e =
      let rest : a ≡ b = snoc_same a b x (tail_same y z (a ++ x ∷ []) (b ++ x ∷ []) e) in
      let first : y ≡ z = head_same y z (a ++ x ∷ []) (b ++ x ∷ []) e in
      cc

  -- a body is a block without its closing brace
  pub body_read : (words : List Lexeme) (body : blocks.Block) → IsBody states args words body
      → StackReads (Block MAX_NESTING ∷ []) (words ++ word.Close ∷ [])
  body_read words body b = one_read states args (Block MAX_NESTING) (words ++ word.Close ∷ [])
      (body, ap (λ l. l ++ word.Close ∷ []) b.statements, b.typed, b.nesting)

  pub read_body : (words : List Lexeme) → StackReads (Block MAX_NESTING ∷ []) (words ++ word.Close ∷ []) → (body : blocks.Block)
      × IsBody states args words body
  read_body words p =
      let q = only_one states args (Block MAX_NESTING) (words ++ word.Close ∷ []) p in
      (q.0, record { statements = snoc_same words (written_block states q.0) word.Close q.1; typed = q.2; nesting = q.3 })
