-- Reading the first token of a block reads what the block is.
use Rattle.std.proofs.Common.{◌≡◌, ℕ, zero, suc, ◌≤◌, List, [], ◌∷◌, ◌++◌, Some, None, refl, sym, ap, ◌∙◌, arith, append_assoc}
use Rattle.std.specs.Prelude.{reverse}
use Rattle.query_lang.specs.Blocks as blocks
use Rattle.query_lang.specs.{Terms.Term, Folds.IsValidBlock}
use Rattle.plan_file.specs.declared.lexemes.Lexeme.{Lexeme}
use Rattle.plan_file.specs.declared.lexemes.Lexeme.TheVariants as word
use Rattle.plan_file.specs.declared.wants.Want.{Want, TheVariants.{Word, Condition, Target, Open, Block}}
use Rattle.plan_file.{specs.{Bodies.{written, written_block, open_braces}, Wants.{after_if, after_block}}, proofs.WantedTerms.head_same}
use Rattle.plan_file.proofs.WantedTerms.{tail_same, ReadsBlock, AllRead, one_read, only_one, nothing_read, wanted_go, wanted_back}

module _ (states args : ℕ) where
  -- a block
  choice_tail : (c a b n t : List Lexeme) → (c ++ (word.Open ∷ (a ++ (word.Close ∷ word.Open ∷ (b ++ (word.Close ∷ n)))))) ++ t ≡ c
      ++ (word.Open ∷ (a ++ (word.Close ∷ word.Open ∷ (b ++ (word.Close ∷ (n ++ t))))))
  choice_tail c a b n t = simp append_assoc

  closed : (a t : List Lexeme) → a ++ (word.Close ∷ t) ≡ (a ++ word.Close ∷ []) ++ t
  closed a t = sym (append_assoc a (word.Close ∷ []) t)

  room_more : (room : ℕ) (c : Term) (a b n : blocks.Block) → open_braces (blocks.Fork c a b n) ≤ room → (r : ℕ) × (room ≡ suc r)
      × (open_braces a ≤ r) × (open_braces b ≤ r) × (open_braces n ≤ suc r)
  room_more zero c a b n o = absurd (omega (arith, o))
  room_more (suc r) c a b n o = (r, refl, omega (arith, o), omega (arith, o), omega (arith, o))

  pub block_goes : (room : ℕ) (block : blocks.Block) (w : Lexeme) (front : List Lexeme) (wants : List Want)
      → after_block room w ≡ Some wants
      → w ∷ front ≡ written_block states block ++ word.Close ∷ [] → IsValidBlock states args block → open_braces block ≤ room
      → AllRead states args (reverse wants) front
  block_goes room blocks.End w front wants h e v o =
      let first : w ≡ word.Close = head_same w word.Close front [] e in
      let none : front ≡ [] = tail_same w word.Close front [] e in
      let here : after_block room word.Close ≡ Some wants = sym (ap (after_block room) first) ∙ h in
      let same : wants ≡ [] = cc in
      wanted_go states args [] wants front same none
  block_goes room (blocks.Set v e next) w front wants h eq valid o =
      let rest : List Lexeme = word.State v ∷ ((written states e ++ written_block states next) ++ word.Close ∷ []) in
      let first : w ≡ word.Set = head_same w word.Set front rest eq in
      let tail : front ≡ rest = tail_same w word.Set front rest eq in
      let here : after_block room word.Set ≡ Some wants = sym (ap (after_block room) first) ∙ h in
      let same : wants ≡ Block room ∷ Word ∷ Target ∷ [] = cc in
      let last : List Lexeme = written_block states next ++ word.Close ∷ [] in
      wanted_go states args (Block room ∷ Word ∷ Target ∷ []) wants front same (
        word.State v ∷ [],
        written states e ++ last,
        tail ∙ ap (λ l. word.State v ∷ l) (append_assoc (written states e) (written_block states next) (word.Close ∷ [])),
        (v, refl, valid.0),
        (written states e, last, refl, (e, refl, valid.1, valid.2), one_read states args (Block room) last (next, refl, valid.3, o)),
      )
  block_goes room (blocks.Fork c a b next) w front wants h eq valid o =
      let wc : List Lexeme = written states c in
      let wa : List Lexeme = written_block states a in
      let wb : List Lexeme = written_block states b in
      let wn : List Lexeme = written_block states next in
      let rest : List Lexeme = (wc ++ (word.Open ∷ (wa ++ (word.Close ∷ word.Open ∷ (wb ++ (word.Close ∷ wn)))))) ++ word.Close ∷ [] in
      let first : w ≡ word.If = head_same w word.If front rest eq in
      let tail : front ≡ rest = tail_same w word.If front rest eq in
      let here : after_block room word.If ≡ Some wants = sym (ap (after_block room) first) ∙ h in
      let m = room_more room c a b next o in
      let r : ℕ = m.0 in
      let more : after_if (suc r) ≡ Some wants = sym (ap after_if m.1) ∙ here in
      let same : wants ≡ Block (suc r) ∷ Block r ∷ Open ∷ Block r ∷ Open ∷ Condition ∷ [] = cc in
      let last : List Lexeme = wn ++ word.Close ∷ [] in
      let second : List Lexeme = wb ++ (word.Close ∷ last) in
      let both : List Lexeme = wa ++ (word.Close ∷ word.Open ∷ second) in
      wanted_go states args (Block (suc r) ∷ Block r ∷ Open ∷ Block r ∷ Open ∷ Condition ∷ []) wants front same (
        wc,
        word.Open ∷ both,
        tail ∙ choice_tail wc wa wb wn (word.Close ∷ []),
        (c, refl, valid.0, valid.1),
        (
          word.Open ∷ [],
          both,
          refl,
          refl,
          (
            wa ++ word.Close ∷ [],
            word.Open ∷ second,
            closed wa (word.Open ∷ second),
            (a, refl, valid.2, m.2),
            (
              word.Open ∷ [],
              second,
              refl,
              refl,
              (
                wb ++ word.Close ∷ [],
                last,
                closed wb last,
                (b, refl, valid.3, m.3),
                one_read states args (Block (suc r)) last (next, refl, valid.4, m.4),
              ),
            ),
          ),
        ),
      )

  pub block_sticks : (room : ℕ) (block : blocks.Block) (w : Lexeme) (front : List Lexeme) → after_block room w ≡ None
      → w ∷ front ≡ written_block states block ++ word.Close ∷ [] → open_braces block ≤ room → ⊥
  block_sticks room blocks.End w front h e o =
      let here : after_block room word.Close ≡ None = sym (ap (after_block room) (head_same w word.Close front [] e)) ∙ h in
      cc
  block_sticks room (blocks.Set v e next) w front h eq o =
      let first : w ≡ word.Set = head_same w word.Set front _ eq in
      let here : after_block room word.Set ≡ None = sym (ap (after_block room) first) ∙ h in
      cc
  block_sticks room (blocks.Fork c a b next) w front h eq o =
      let first : w ≡ word.If = head_same w word.If front _ eq in
      let here : after_block room word.If ≡ None = sym (ap (after_block room) first) ∙ h in
      let m = room_more room c a b next o in
      let more : after_if (suc m.0) ≡ None = sym (ap after_if m.1) ∙ here in
      cc

  set_back : (room : ℕ) (front : List Lexeme) → AllRead states args (Target ∷ Word ∷ Block room ∷ []) front
      → ReadsBlock states args room (word.Set ∷ front)
  set_back room front (f, b, e, (v, ef, lt), (g, d, eb, (x, eg, vx, kx), last)) =
      let n = only_one states args (Block room) d last in
      let close : List Lexeme = word.Close ∷ [] in
      let words : front ≡ word.State v ∷ ((written states x ++ written_block states n.0) ++ close) =
      e ∙ ap (λ l. l ++ b) ef ∙ ap (λ l. word.State v ∷ l) (eb ∙ ap (λ l. l ++ d) eg ∙ ap (λ l. written states x ++ l) n.1
      ∙ sym (append_assoc (written states x) (written_block states n.0) close))
      in
      (blocks.Set v x n.0, ap (λ l. word.Set ∷ l) words, (lt, vx, kx, n.2), n.3)

  choice_back : (r : ℕ) (front : List Lexeme) → AllRead states args (Condition ∷ Open ∷ Block r ∷ Open ∷ Block r ∷ Block (suc r) ∷ []) front
      → ReadsBlock states args (suc r) (word.If ∷ front)
  choice_back r front (
    f,
    t1,
    e1,
    (c, ec, vc, kc),
    (
      o1,
      t2,
      e2,
      eo,
      (
        g,
        t3,
        e3,
        (a, ea, va, oa),
        (o2, t4, e4, ep, (k, t5, e5, (b, eb, vb, ob), last)),
      ),
    ),
  ) =
      let n = only_one states args (Block (suc r)) t5 last in
      let close : List Lexeme = word.Close ∷ [] in
      let wc : List Lexeme = written states c in
      let wa : List Lexeme = written_block states a in
      let wb : List Lexeme = written_block states b in
      let wn : List Lexeme = written_block states n.0 in
      let p4 : t4 ≡ wb ++ (word.Close ∷ (wn ++ close)) = e5 ∙ ap (λ l. l ++ t5) eb ∙ append_assoc wb close t5
      ∙ ap (λ l. wb ++ (word.Close ∷ l)) n.1 in
      let p3 : t3 ≡ word.Open ∷ t4 = e4 ∙ ap (λ l. l ++ t4) ep in
      let p2 : t2 ≡ wa ++ (word.Close ∷ t3) = e3 ∙ ap (λ l. l ++ t3) ea ∙ append_assoc wa close t3 in
      let p1 : t1 ≡ word.Open ∷ t2 = e2 ∙ ap (λ l. l ++ t2) eo in
      let words : front ≡ wc ++ (word.Open ∷ (wa ++ (word.Close ∷ word.Open ∷ (wb ++ (word.Close ∷ (wn ++ close)))))) =
      e1 ∙ ap (λ l. l ++ t1) ec ∙ ap (λ l. wc ++ l) (p1 ∙ ap (λ l. word.Open ∷ l)
      (p2 ∙ ap (λ l. wa ++ (word.Close ∷ l)) (p3 ∙ ap (λ l. word.Open ∷ l) p4)))
      in
      let room : open_braces (blocks.Fork c a b n.0) ≤ suc r = (let on : open_braces n.0 ≤ suc r = n.3 in omega arith) in
      (blocks.Fork c a b n.0, ap (λ l. word.If ∷ l) (words ∙ sym (choice_tail wc wa wb wn close)), (vc, kc, va, vb, n.2), room)

  if_back : (room : ℕ) (wants : List Want) (front : List Lexeme) → after_if room ≡ Some wants → AllRead states args (reverse wants) front
      → ReadsBlock states args room (word.If ∷ front)
  if_back zero wants front h p = cc
  if_back (suc r) wants front h p =
      let same : wants ≡ Block (suc r) ∷ Block r ∷ Open ∷ Block r ∷ Open ∷ Condition ∷ [] = cc in
      choice_back r front (wanted_back states args (Block (suc r) ∷ Block r ∷ Open ∷ Block r ∷ Open ∷ Condition ∷ []) wants front same p)

  pub block_back : (room : ℕ) (w : Lexeme) (wants : List Want) (front : List Lexeme) → after_block room w ≡ Some wants
      → AllRead states args (reverse wants) front → ReadsBlock states args room (w ∷ front)
  block_back room word.Close wants front h p =
      let same : wants ≡ [] = cc in
      (blocks.End, ap (λ l. word.Close ∷ l) (nothing_read states args wants front same p), tt, omega arith)
  block_back room word.Set wants front h p =
      let same : wants ≡ Block room ∷ Word ∷ Target ∷ [] = cc in
      set_back room front (wanted_back states args (Block room ∷ Word ∷ Target ∷ []) wants front same p)
  block_back room word.If wants front h p = if_back room wants front h p
  block_back room _ wants front h p = cc
