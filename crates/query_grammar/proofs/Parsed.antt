-- What parsing gives is what the grammar says.
use Rattle.std.proofs.Common.{◌≡◌, ℕ, ◌≤◌, Bool, true, false, cond, eqb, ltb, List, [], ◌∷◌, ◌++◌, Some, None, refl, sym, ap, subst, ◌∙◌}
use Rattle.std.proofs.{Common.append_assoc, lemmas.{List.{append-nil, append_cancel_right}, Bool.ltb-false}}
use Rattle.query_lang.specs.declared.{token.{TokenKind.TokenKind, Token.Token}, fault.TheConstants.{MAX_NESTING, MAX_NODES, MAX_STATEMENTS}}
use Rattle.query_grammar.specs.{declared.stop.{Counts.Counts, Stop.Stop}, Kinds.{kind, kind_number}, Reading.{all_read, parsed}}
use Rattle.query_grammar.specs.declared.stop.Stop.TheVariants.{Unexpected, Nodes, Statements, Nesting}
use Rattle.query_grammar.specs.Language.{Role, Plain, Node, Statement, Leaf, tokens_of}
use Rattle.query_grammar.specs.Parser.{no_counts, Limited, charge, Outcome, Done, Stopped}
use Rattle.query_grammar.specs.Fault.{IsShallow, BeginsQuery, IsGrammatical, StandsAt, HasEnd, Says}
use Rattle.query_grammar.proofs.{Parses.{IsLimit, StopsFirst, stops_limit, pays}, Lines.{EndFree, free_front}, GrammarLines.items_free}
use Rattle.query_grammar.proofs.{Nests.{shallow_is, StopLevel, LevelMeets}, Splits.{Place, inside, at_end, beyond, place, head_is, tail_is}}
use Rattle.query_grammar.proofs.Runs.{IsMet, IsHalted, Value, depth, run, met, leveled, stop_facts, stop_shallow, Run, whole, halts, run_of}
use Rattle.query_grammar.proofs.Runs.{pays_is}
use Rattle.query_lang.specs.declared.token.TokenKind.TheVariants as kinds

-- ---- outcomes that differ

pub done_or_stopped : (q : Value) (c : Counts) (rest : List Token) (k : Stop) (ts : List Token)
    → ◌≡◌ {A = Outcome Value} (Done q c rest) (Stopped k ts) → ⊥
done_or_stopped q c rest k ts e = absurd cc

same_cause : (k k' : Stop) (ts us : List Token) → ◌≡◌ {A = Outcome Value} (Stopped k ts) (Stopped k' us) → k ≡ k'
same_cause k k' ts us e = cc

pub same_place : (k k' : Stop) (ts us : List Token) → ◌≡◌ {A = Outcome Value} (Stopped k ts) (Stopped k' us) → ts ≡ us
same_place k k' ts us e = cc

done_rest : (q p : Value) (c d : Counts) (ts us : List Token) → ◌≡◌ {A = Outcome Value} (Done q c ts) (Done p d us) → ts ≡ us
done_rest q p c d ts us e = cc

-- ---- no query goes on

-- a parser that stops at t as unexpected, whatever follows, meets no query
no_query : (front : List Token) (t : Token) → ((more : List Token) → run (front ++ t ∷ more) ≡ Stopped Unexpected (t ∷ more))
    → BeginsQuery (front ++ t ∷ []) → ⊥
no_query front t h b = go (run_of b.2.0 b.2.1 b.1 b.2.3)
  where
    s : run (tokens_of b.2.1) ≡ Stopped Unexpected (t ∷ b.0)
    s = ap run (b.2.2 ∙ append_assoc front (t ∷ []) b.0) ∙ h b.0

    go : Run b.2.1 b.1 → ⊥
    go (whole d pay n e) = done_or_stopped _ _ _ _ _ (sym e ∙ s)
    go (halts k u l x d e n i f sh r) = subst IsLimit (same_cause _ _ _ _ (sym r ∙ s)) (stops_limit Limited k d l i)

-- nor does one that reads all before t as a query
pub no_more : (front : List Token) (t : Token) (p : Value) (c : Counts)
    → ((more : List Token) → run (front ++ t ∷ more) ≡ Done p c (t ∷ more)) → BeginsQuery (front ++ t ∷ []) → ⊥
no_more front t p c h b = go (run_of b.2.0 b.2.1 b.1 b.2.3)
  where
    s : run (tokens_of b.2.1) ≡ Done p c (t ∷ b.0)
    s = ap run (b.2.2 ∙ append_assoc front (t ∷ []) b.0) ∙ h b.0

    go : Run b.2.1 b.1 → ⊥
    go (whole d pay n e) = let x : [] ≡ t ∷ b.0 = done_rest _ _ _ _ _ _ (sym e ∙ s) in absurd cc
    go (halts k u l x d e n i f sh r) = done_or_stopped _ _ _ _ _ (sym s ∙ r)

-- ---- what parsing says

-- a count that can't be raised has reached its limit
reached : (count limit : ℕ) (more : Counts) → cond (ltb count limit) (Some more) None ≡ None → limit ≤ count
reached count limit more e = go (ltb count limit) refl e
  where
    go : (b : Bool) → ltb count limit ≡ b → cond b (Some more) None ≡ None → limit ≤ count
    go true h k = absurd cc
    go false h k = ltb-false count limit h

-- the limit at a leaf
over_nodes : (c : Counts) (l : Leaf) → l.role ≡ Node → charge Limited l.role c ≡ None → MAX_NODES ≤ c.nodes
over_nodes c l r e = reached c.nodes MAX_NODES _ (ap (λ (x : Role). charge Limited x c) (sym r) ∙ e)

over_statements : (c : Counts) (l : Leaf) → l.role ≡ Statement → charge Limited l.role c ≡ None → MAX_STATEMENTS ≤ c.statements
over_statements c l r e = reached c.statements MAX_STATEMENTS _ (ap (λ (x : Role). charge Limited x c) (sym r) ∙ e)

module _ (ts : List Token) where
  shallow_front : (k : Stop) (t : Token) (more : List Token) → StopLevel MAX_NESTING ts k (t ∷ more) → (front : List Token) → ts ≡ front
      ++ t ∷ more → IsShallow front
  shallow_front k t more n front e = shallow_is front (stop_shallow front (t ∷ more) k (rw (← e) n))

  -- the leaf at which a parser stops because of a limit
  grammatical : (k : Stop) (t : Token) (more : List Token) → StopLevel MAX_NESTING ts k (t ∷ more) → (h : IsHalted ts k (t ∷ more))
      → (g : StopsFirst Limited k h.counts h.more (t ∷ more)) → IsGrammatical (tokens_of h.front) t g.0 h.counts
  grammatical k t more n h g = record {
    leaves = h.front;
    tokens = refl;
    begins = (
      g.1,
      depth 0,
      h.value,
      rw (← (ap (λ (x : List Leaf). h.front ++ x) g.3 ∙ sym (append_assoc h.front (g.0 ∷ []) g.1))) h.begins,
    );
    within = sym (pays_is Limited no_counts h.front) ∙ h.pays;
    shallow = shallow_front k t more n (tokens_of h.front) h.split;
    token = sym (head_is t g.0.token more g.2 g.4);
  }

  at_leaf : (k : Stop) (t : Token) (more : List Token) → StopLevel MAX_NESTING ts k (t ∷ more) → (h : IsHalted ts k (t ∷ more))
      → (g : StopsFirst Limited k h.counts h.more (t ∷ more))
      → (IsGrammatical (tokens_of h.front) t g.0 h.counts → StandsAt k (tokens_of h.front) t) → Says ts (Stopped k (t ∷ more))
  at_leaf k t more n h g at = (tokens_of h.front, h.split, at (grammatical k t more n h g))

  stands : (k : Stop) (t : Token) (more : List Token) → StopLevel MAX_NESTING ts k (t ∷ more)
      → IsHalted ts k (t ∷ more) → Says ts (Stopped k (t ∷ more))
  stands Unexpected t more n h = (
    tokens_of h.front,
    h.split,
    (
      h.counts,
      record {
        leaves = h.front;
        tokens = refl;
        begins = (h.more, depth 0, h.value, h.begins);
        within =
            sym (pays_is Limited no_counts h.front) ∙ h.pays;
        shallow = shallow_front Unexpected t more n (tokens_of h.front) h.split;
      },
      no_query (tokens_of h.front) t (λ x. h.again (t ∷ x) (x, refl)),
    ),
  )
  stands Nodes t more n h = at_leaf Nodes t more n h h.cause
      (λ g. (h.counts, h.cause.0, g, h.cause.5.0, over_nodes h.counts h.cause.0 h.cause.5.0 h.cause.5.1))
  stands Statements t more n h = at_leaf Statements t more n h h.cause
      (λ g. (h.counts, h.cause.0, g, h.cause.5.0, over_statements h.counts h.cause.0 h.cause.5.0 h.cause.5.1))
  stands Nesting t more n h =
      let f = stop_facts (tokens_of h.front) t more Nesting (rw (← h.split) n) in
      at_leaf Nesting t more n h h.cause (λ g. (h.counts, h.cause.0, g, h.cause.5, f.0, f.1))

-- ---- the end

has_no_end : (w : List Leaf) (front : List Token) (t : Token) → tokens_of w ≡ front ++ t ∷ [] → t.kind ≡ kinds.End → EndFree w → ⊥
has_no_end [] [] t e k f = absurd cc
has_no_end [] (u ∷ front) t e k f = absurd cc
has_no_end (l ∷ w) [] t e k f =
    let h : l.token ≡ t = head_is l.token t (tokens_of w) [] e in
    let g : eqb (kind l.token) 3 ≡ true = ap (λ (x : Token). eqb (kind x) 3) h ∙ ap (λ (x : TokenKind). eqb (kind_number x) 3) k in
    let x : true ≡ false = sym g ∙ f.0 in absurd cc
has_no_end (l ∷ w) (u ∷ front) t e k f = has_no_end w front t (tail_is l.token u (tokens_of w) (front ++ t ∷ []) e) k f.1

none_right : (y more : List Leaf) → [] ≡ y ++ more → more ≡ []
none_right [] more e = sym e
none_right (l ∷ y) more e = absurd cc

-- a parser doesn't stop after the end
never_at : (ts : List Token) (k : Stop) → HasEnd ts → run ts ≡ Stopped k [] → (h : IsHalted ts k []) → ⊥
never_at ts k end e h = go (place h.front h.more h.begins.0 (record { role = Plain; token = h.begins.4.0 }) []
    (h.begins.2 ∙ ap (λ (w : List Leaf). h.begins.0 ++ w) h.begins.4.1))
  where
    all : tokens_of h.front ≡ ts
    all = sym (h.split ∙ append-nil (tokens_of h.front))

    free : EndFree h.begins.0
    free = items_free (depth 0) h.begins.0 h.value.0 h.begins.3

    ends : EndFree h.front → ⊥
    ends f = has_no_end h.front end.0 end.1 (all ∙ end.2) end.3 f

    on : Run (h.front ++ h.more) h.value → run (tokens_of (h.front ++ h.more)) ≡ Stopped k [] → ⊥
    on (whole d pay n r) s = done_or_stopped _ _ _ _ _ (sym r ∙ s)
    on (halts k' u l x d a n i f sh r) s = let z : l.token ∷ tokens_of x ≡ [] =
        same_place _ _ _ _ (sym r ∙ s) in absurd cc

    go : Place h.front h.more h.begins.0 (record { role = Plain; token = h.begins.4.0 }) [] → ⊥
    go (inside y a b) = on (run_of (depth 0) (h.front ++ h.more) h.value h.begins)
        (ap (λ (w : List Leaf). run (tokens_of (h.front ++ w))) (none_right y h.more b)
        ∙ ap (λ (w : List Leaf). run (tokens_of w)) (append-nil h.front) ∙ ap run all ∙ e)
    go (at_end a b) = ends (rw a free)
    go (beyond z y a b) = ends (free_front h.front (z ∷ y) (rw (← a) free))

-- ---- forwards

says : (ts : List Token) → HasEnd ts → (o : Outcome Value) → run ts ≡ o → LevelMeets 0 0 MAX_NESTING ts o
    → IsMet ts o → Says ts (all_read o)
says ts end (Done q c []) e n f =
    let all : tokens_of f.front ≡ ts = sym (f.split ∙ append-nil (tokens_of f.front)) in
    record {
      depth = depth 0;
      leaves = f.front;
      tokens = all;
      means = f.means;
      counts = c;
      within = sym (pays_is Limited no_counts f.front) ∙ f.pays;
      shallow = shallow_is ts (rw (n.split ∙ append-nil n.front) n.shallow);
    }
says ts end (Done q c (t ∷ more)) e n f = (
  tokens_of f.front,
  f.split,
  (
    c,
    record {
      leaves = f.front;
      tokens = refl;
      begins = ([], depth 0, q, rw (append-nil f.front) f.means);
      within = sym (pays_is Limited no_counts f.front) ∙ f.pays;
      shallow = shallow_is (tokens_of f.front) (rw (← (append_cancel_right n.front (tokens_of f.front) (t ∷ more) (sym n.split ∙ f.split)))
          n.shallow);
    },
    no_more (tokens_of f.front) t q c (λ x. f.again (t ∷ x) (x, refl)),
  ),
)
says ts end (Stopped k []) e n h = absurd (never_at ts k end e h)
says ts end (Stopped k (t ∷ more)) e n h = stands ts k t more n h

pub parsed_says : (ts : List Token) → HasEnd ts → Says ts (parsed ts)
parsed_says ts end = says ts end (run ts) refl (leveled ts) (met ts)
