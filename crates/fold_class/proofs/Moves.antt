-- What a translation does to two states with the same history.
use Rattle.std.proofs.Common.{◌≡◌, ℕ, ◌<◌, Bool, true, false, ◌&&◌, ◌||◌, ◌==◌, if◌then◌else◌, List, ◌++◌, length, set, slice_index, refl}
use Rattle.std.proofs.{Common.{sym, ap, ◌∙◌, subst, arith, length-set}, lemmas.{Bool.Decides.nat_tests, List.get_or_append_left}}
use Rattle.query_lang.specs.{declared.fold.Op.Op, Words.{holds, op_value}, Terms.{Term, Literal, Read, Negation, Operation}}
use Rattle.query_lang.specs.{Blocks.{Block, End, Set, Fork}, Folds.{term_value, after, IsValidBlock}}
use Rattle.fold_class.specs.{declared.class.Algebra.Algebra, Translations.{moves_left, moves_right, is_move, keeps_moves, is_moving}}
use Rattle.fold_class.proofs.TableLemmas.{and_three, and_true_left, and_true_right, set_index}
use Rattle.fold_code.{proofs.BlockLemmas.{length-after, known_value, idle}, specs.Checks.names_known}

and_false : (b : Bool) → (b && false) ≡ false
and_false true = refl
and_false false = refl

module _ (algebra : Algebra) (states : ℕ) (known : ℕ → Bool) where
  -- a relation between two words of a variable, which each move keeps
  module _ (R : ℕ → ℕ → ℕ → Type 0)
      (left : (v : ℕ) (op : Op) (x y w : ℕ) → moves_left algebra op ≡ true → R v x y → R v (op_value op x w) (op_value op y w))
      (right : (v : ℕ) (op : Op) (x y w : ℕ) → moves_right algebra op ≡ true → R v x y → R v (op_value op w x) (op_value op w y)) where
    -- two states have the same known variables, and their other variables are related
    pub record Related (xs ys : List ℕ) : Type 0 where
      pub same : (s : ℕ) → s < states → known s ≡ true → slice_index xs s ≡ slice_index ys s
      pub related : (s : ℕ) → s < states → known s ≡ false → R s (slice_index xs s) (slice_index ys s)

    known_same : (args xs ys : List ℕ) (e : Term) → length xs ≡ states → length ys ≡ states → Related xs ys
        → names_known states known e ≡ true → term_value e (xs ++ args) ≡ term_value e (ys ++ args)
    known_same args xs ys e hx hy r h = known_value _ _ args _ _ e hx hy r.same h

    move_keeps : (args xs ys : List ℕ) (v : ℕ) (e : Term) → length xs ≡ states → length ys ≡ states → v < states → known v ≡ false
        → Related xs ys → is_move algebra states known v e ≡ true → R v (term_value e (xs ++ args)) (term_value e (ys ++ args))
    move_keeps args xs ys v (Literal n) hx hy lt k r h = cc
    move_keeps args xs ys v (Negation e) hx hy lt k r h = cc
    move_keeps args xs ys v (Read s) hx hy lt k r h =
        let same : v ≡ s = grind (arith, nat_tests) in
        let ex : slice_index xs v ≡ slice_index (xs ++ args) s = sym (get_or_append_left xs args 0 v (omega arith))
        ∙ ap (slice_index (xs ++ args)) same in
        let ey : slice_index ys v ≡ slice_index (ys ++ args) s = sym (get_or_append_left ys args 0 v (omega arith))
        ∙ ap (slice_index (ys ++ args)) same in
        subst (R v (slice_index (xs ++ args) s)) ey (subst (λ z. R v z (slice_index ys v)) ex (r.related v lt k))
    move_keeps args xs ys v (Operation op a b) hx hy lt k r h =
        pick (moves_left algebra op && (is_move algebra states known v a && names_known states known b)) refl
        (λ m. move_keeps args xs ys v a hx hy lt k r m) (λ m. move_keeps args xs ys v b hx hy lt k r m)
      where
        pick : (l : Bool) → (moves_left algebra op && (is_move algebra states known v a && names_known states known b)) ≡ l →
            (is_move algebra states known v a ≡ true → R v (term_value a (xs ++ args)) (term_value a (ys ++ args)))
            → (is_move algebra states known v b ≡ true → R v (term_value b (xs ++ args)) (term_value b (ys ++ args))) →
            R v (op_value op (term_value a (xs ++ args)) (term_value b (xs ++ args)))
            (op_value op (term_value a (ys ++ args)) (term_value b (ys ++ args)))
        pick true t ra rb =
            let more = and_true_right (moves_left algebra op) (is_move algebra states known v a && names_known states known b) t in
            subst (λ z. R v (op_value op (term_value a (xs ++ args)) (term_value b (xs ++ args)))
            (op_value op (term_value a (ys ++ args)) z))
            (known_same args xs ys b hx hy r (and_true_right (is_move algebra states known v a) (names_known states known b) more))
            (left v op (term_value a (xs ++ args)) (term_value a (ys ++ args)) (term_value b (xs ++ args))
            (and_true_left (moves_left algebra op) (is_move algebra states known v a && names_known states known b) t)
            (ra (and_true_left (is_move algebra states known v a) (names_known states known b) more)))
        pick false t ra rb =
            let other : (moves_right algebra op && (names_known states known a && is_move algebra states known v b)) ≡ true =
            second (moves_left algebra op && (is_move algebra states known v a && names_known states known b)) t h in
            let more = and_true_right (moves_right algebra op) (names_known states known a && is_move algebra states known v b) other in
            subst (λ z. R v (op_value op (term_value a (xs ++ args)) (term_value b (xs ++ args)))
            (op_value op z (term_value b (ys ++ args))))
            (known_same args xs ys a hx hy r (and_true_left (names_known states known a) (is_move algebra states known v b) more))
            (right v op (term_value b (xs ++ args)) (term_value b (ys ++ args)) (term_value a (xs ++ args))
            (and_true_left (moves_right algebra op) (names_known states known a && is_move algebra states known v b) other)
            (rb (and_true_right (names_known states known a) (is_move algebra states known v b) more)))
          where
            second : (l : Bool) {m : Bool} → l ≡ false → (l || m) ≡ true → m ≡ true
            second true e p = cc
            second false e p = p

    pub block_keeps : (nargs : ℕ) (b : Block) (free : Bool) (args xs ys : List ℕ) → IsValidBlock states nargs b → length xs ≡ states
        → length ys ≡ states → is_moving algebra states known free b ≡ true → Related xs ys → Related (after b args xs) (after b args ys)
    block_keeps nargs End free args xs ys valid hx hy h r = r
    block_keeps nargs (Set v e rest) free args xs ys valid hx hy h r =
        let x = term_value e (xs ++ args) in
        let y = term_value e (ys ++ args) in
        let given = if known v then names_known states known e else is_move algebra states known v e in
        let front = and_true_right free given (and_true_left (free && given) (is_moving algebra states known free rest) h) in
        block_keeps nargs rest free args (set xs v x) (set ys v y) valid.3 (length-set xs v x ∙ hx) (length-set ys v y ∙ hy)
        (and_true_right (free && given) (is_moving algebra states known free rest) h) (record {
          same = λ s lt k. set_index _ _ x s (omega (arith, valid.0)) ∙ same_at front s lt k (s == v) refl
              ∙ sym (set_index ys v y s (omega (arith, valid.0)));
          related = λ s lt k. subst (λ z. R s z (slice_index (set ys v y) s)) (sym (set_index xs v x s (omega (arith, valid.0))))
              (subst (R s (if s == v then x else slice_index xs s)) (sym (set_index ys v y s (omega (arith, valid.0))))
              (related_at front s lt k (s == v) refl));
        })
      where
        same_at : (if known v then names_known states known e else is_move algebra states known v e) ≡ true → (s : ℕ) → s < states
            → known s ≡ true → (b : Bool) → (s == v) ≡ b → (if s == v then term_value e (xs ++ args) else slice_index xs s)
            ≡ (if s == v then term_value e (ys ++ args) else slice_index ys s)
        same_at g s lt k true t =
            let e1 : s ≡ v = grind (arith, nat_tests) in
            let kv = rw e1 at k in
            let g' = rw kv at g in
            cc (known_same args xs ys e hx hy r g')
        same_at g s lt k false t = simp (t, r.same)

        related_at : (if known v then names_known states known e else is_move algebra states known v e) ≡ true → (s : ℕ) → s < states
            → known s ≡ false → (b : Bool) → (s == v) ≡ b → R s (if s == v then term_value e (xs ++ args) else slice_index xs s)
            (if s == v then term_value e (ys ++ args) else slice_index ys s)
        related_at g s lt k true t =
            let e1 : s ≡ v = grind (arith, nat_tests) in
            let e2 = sym e1 in
            let kv = rw e1 at k in
            let g' = rw kv at g in
            let lv = valid.0 in
            rw t (subst (λ z. R z (term_value e (xs ++ args)) (term_value e (ys ++ args))) e2 (move_keeps args xs ys v e hx hy lv kv r g'))
        related_at g s lt k false t = rw t (r.related s lt k)
    block_keeps nargs (Fork c a b rest) free args xs ys valid hx hy h r =
        let inner = free && names_known states known c in
        let parts = and_three _ _ _ h in
        let hc = holds (term_value c (xs ++ args)) in
        let kc = holds (term_value c (ys ++ args)) in
        block_keeps nargs rest free args (if hc then after a args xs else after b args xs) (if kc then after a args ys else after b args ys)
        valid.4 (size xs hx hc) (size ys hy kc) parts.1.1
        (branches (names_known states known c) refl parts.0 parts.1.0 (block_keeps nargs a inner args xs ys valid.2 hx hy parts.0 r)
        (block_keeps nargs b inner args xs ys valid.3 hx hy parts.1.0 r))
      where
        size : (zs : List ℕ) → length zs ≡ states → (k : Bool) → length (if k then after a args zs else after b args zs) ≡ states
        size zs hz true = simp (length-after, hz)
        size zs hz false = simp (length-after, hz)

        either : (k l : Bool) → k ≡ l → Related (after a args xs) (after a args ys) → Related (after b args xs) (after b args ys)
            → Related (if k then after a args xs else after b args xs) (if l then after a args ys else after b args ys)
        either true true e p q = p
        either true false e p q = cc
        either false true e p q = cc
        either false false e p q = q

        stays : (zs : List ℕ) (k : Bool) → is_moving algebra states known false a ≡ true → is_moving algebra states known false b ≡ true
            → (if k then after a args zs else after b args zs) ≡ zs
        stays zs true p q = idle states known (keeps_moves algebra states known) a args zs p
        stays zs false p q = idle states known (keeps_moves algebra states known) b args zs q

        branches : (t : Bool) → names_known states known c ≡ t → is_moving algebra states known (free && names_known states known c) a
            ≡ true → is_moving algebra states known (free && names_known states known c) b ≡ true →
            Related (after a args xs) (after a args ys) → Related (after b args xs) (after b args ys) →
            Related (if holds (term_value c (xs ++ args)) then after a args xs else after b args xs)
            (if holds (term_value c (ys ++ args)) then after a args ys else after b args ys)
        branches true t ha hb ra rb = either (holds (term_value c (xs ++ args))) (holds (term_value c (ys ++ args)))
            (ap holds (known_same args xs ys c hx hy r t)) ra rb
        branches false t ha hb ra rb =
            let off : (free && names_known states known c) ≡ false = ap (λ z. free && z) t ∙ and_false _ in
            let pa = subst (λ z. is_moving algebra states known z a ≡ true) off ha in
            let pb = subst (λ z. is_moving algebra states known z b ≡ true) off hb in
            subst (λ z. Related z (if holds (term_value c (ys ++ args)) then after a args ys else after b args ys)) (sym (stays _ _ pa pb))
            (subst (Related xs) (sym (stays _ _ pa pb)) r)
