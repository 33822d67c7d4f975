-- A text has so few names that a byte fits between any two of them.
use Rattle.std.proofs.Common.{◌≡◌, ℕ, suc, ◌+◌, ◌*◌, ◌≤◌, Bool, true, false, cond, List, [], ◌∷◌, length, take, drop, refl, ap, ◌∙◌}
use Rattle.std.{proofs.{Common.arith, lemmas.List.length-drop}, specs.List.prefix_len}
use Rattle.query_lang.specs.{declared.{fault.TheConstants.MAX_QUERY, token.Token.Token}, Lexis.is_word_byte}
use Rattle.query_lang.proofs.NameFacts.{with_bounds}
use Rattle.query_grammar.proofs.CutTexts.{IsCut, ends, skips, named, other, word_begins}

begins_once : (bytes : List ℕ) → word_begins bytes ≤ 1
begins_once [] = omega arith
begins_once (b ∷ bytes) = go (is_word_byte b)
  where
    go : (w : Bool) → cond w 1 0 ≤ 1
    go true = omega arith
    go false = omega arith

-- no word begins right after a word
past_word : (bytes : List ℕ) → word_begins (drop (prefix_len is_word_byte bytes) bytes) ≡ 0
past_word [] = refl
past_word (b ∷ bytes) = go (is_word_byte b) refl (past_word bytes)
  where
    go : (w : Bool) → is_word_byte b ≡ w → word_begins (drop (prefix_len is_word_byte bytes) bytes) ≡ 0
        → word_begins (drop (cond w (1 + prefix_len is_word_byte bytes) 0) (b ∷ bytes)) ≡ 0
    go true e h = let same : 1 + prefix_len is_word_byte bytes ≡ suc (prefix_len is_word_byte bytes) =
        omega arith in ap (λ n. word_begins (drop n (b ∷ bytes))) same ∙ h
    go false e h = ap (λ w. cond w 1 0) e

-- these bytes add few names to the known ones
cut_few : {known names : List (List ℕ)} {bytes : List ℕ} {tokens : List Token} → IsCut known bytes tokens names
    → 2 * length names ≤ 2 * length known + length bytes + word_begins bytes
cut_few (ends at) = omega arith
cut_few {bytes = bytes} (skips n some within c) = omega (arith, cut_few c, length-drop n bytes, begins_once (drop n bytes))
cut_few {known} {bytes = bytes} (named n at some within begins same c) =
    let ends : word_begins (drop n bytes) ≡ 0 = ap (λ k. word_begins (drop k bytes)) same ∙ past_word bytes in
    omega (arith, cut_few c, ends, begins, length-drop n bytes, (with_bounds known (take n bytes)).1)
cut_few {bytes = bytes} (other kind n at some within is c) = omega (arith, cut_few c, length-drop n bytes, begins_once (drop n bytes))

-- a text of 65,536 bytes has at most 32,768 names
pub few_names : {text : List ℕ} {tokens : List Token} {names : List (List ℕ)} → length text ≤ MAX_QUERY → IsCut [] text tokens names
    → length names ≤ 32768
few_names {text} short c = omega (arith, cut_few c, short, begins_once text)
