-- The packets of a trace are of words.
use Rattle.std.proofs.Common.{◌≡◌, ℕ, ◌+◌, ◌-◌, ◌*◌, ◌^◌, ◌<◌, Bool, true, false, ◌&&◌, nat_le, nat_lt, if◌then◌else◌, List, [], ◌∷◌}
use Rattle.std.proofs.{Common.{length, Option, Some, None, Result, Ok, Err, IfOk, refl, subst, arith}, lemmas.Bool.Decides.nat_tests}
use Rattle.std.{proofs.lemmas.List.Elements.{All-nil, All-cons, All-map}, specs.Prelude.{IfSome, codes, option_and_then, option_map}}
use Rattle.std.specs.{Char.is_ascii_digit, List.{All, list_all, slice_split, zip}, Option.ok_or, Str.{bytes_eq, Parse.digits_value}}
use Rattle.marple_base.specs.{Field.all_fields, declared.field.Field.Field}
use Rattle.marple_base.specs.declared.field.Field.TheVariants as field
use Rattle.marple_base.specs.declared.field.{Packet.Packet, FieldSet.FieldSet}
use Rattle.query_lang.specs.Words.{AreWords, IsWord}
use Rattle.trace_drive.{proofs.EachPacket.{HoldsOfRead, each_packet}, specs.ReadPackets.ReadPacketsAreOfWords}
use Rattle.trace_reader.specs.Numbers.{decimal_word, first_some, further_word, infinity_word, is_dot, number_below, octet_word, quad_of}
use Rattle.trace_reader.specs.{Numbers.{without_blanks, word_of_text}, Traces.{each, packets, field_text_at, with_first, word_at}}

-- numbers

if_there : (b : Bool) (value limit : ℕ) → (b ≡ true → value < limit) → IfSome (if b then Some value else None) (λ n. n < limit)
if_there true value limit h = h refl
if_there false value limit h = tt

last_of : (a b : Bool) → (a && b) ≡ true → b ≡ true
last_of true b e = e
last_of false b e = absurd cc

below_limit : (most limit : ℕ) (text : List ℕ) → IfSome (number_below most limit text) (λ n. n < limit)
below_limit most limit text =
    if_there (nat_lt 0 (length text) && nat_le (length text) most && list_all is_ascii_digit text && nat_lt (digits_value 10 text) limit)
    (digits_value 10 text) limit
    (λ e. let below : nat_lt (digits_value 10 text) limit ≡ true = grind (arith, last_of, e) in grind (arith, nat_tests))

then_some : (o : Option ℕ) (f : ℕ → Option ℕ) (P Q : ℕ → Type 0) → IfSome o P → ((n : ℕ) → P n → IfSome (f n) Q)
    → IfSome (option_and_then f o) Q
then_some None f P Q h next = tt
then_some (Some n) f P Q h next = next n h

map_some : (o : Option ℕ) (f : ℕ → ℕ) (P Q : ℕ → Type 0) → IfSome o P → ((n : ℕ) → P n → Q (f n)) → IfSome (option_map f o) Q
map_some None f P Q h next = tt
map_some (Some n) f P Q h next = next n h

first_there : (a b : Option ℕ) → IfSome a IsWord → IfSome b IsWord → IfSome (first_some a b) IsWord
first_there (Some n) b ha hb = ha
first_there None b ha hb = hb

abbrev IsOctet : ℕ → Type 0
IsOctet n = n < 256

quad_small : (texts : List (List ℕ)) → IfSome (quad_of texts) IsWord
quad_small [] = tt
quad_small (a ∷ []) = tt
quad_small (a ∷ b ∷ []) = tt
quad_small (a ∷ b ∷ c ∷ []) = tt
quad_small (a ∷ b ∷ c ∷ d ∷ []) =
    then_some (octet_word a) (λ w. option_and_then (λ x. option_and_then
    (λ y. option_map (λ z. ((w * 256 + x) * 256 + y) * 256 + z) (octet_word d)) (octet_word c)) (octet_word b)) IsOctet IsWord
    (below_limit 3 256 a)
    (λ w hw. then_some (octet_word b) (λ x. option_and_then (λ y. option_map (λ z. ((w * 256 + x) * 256 + y) * 256 + z) (octet_word d))
    (octet_word c)) IsOctet IsWord (below_limit 3 256 b)
    (λ x hx. then_some (octet_word c) (λ y. option_map (λ z. ((w * 256 + x) * 256 + y) * 256 + z) (octet_word d)) IsOctet IsWord
    (below_limit 3 256 c)
    (λ y hy. map_some (octet_word d) (λ z. ((w * 256 + x) * 256 + y) * 256 + z) IsOctet IsWord (below_limit 3 256 d)
    (λ z hz. omega arith))))
quad_small (a ∷ b ∷ c ∷ d ∷ e ∷ rest) = tt

infinity_small : (text : List ℕ) → IfSome (infinity_word text) IsWord
infinity_small text = if_there (bytes_eq text (codes "inf")) (2 ^ 64 - 1) (2 ^ 64) (λ e. omega arith)

further_small : (of : Field) (text : List ℕ) → IfSome (further_word of text) IsWord
further_small field.SrcIp text = quad_small (slice_split is_dot text)
further_small field.DstIp text = quad_small (slice_split is_dot text)
further_small field.Tout text = infinity_small text
further_small _ text = tt

field_small : (of : Field) (text : List ℕ) → IfSome (word_of_text of text) IsWord
field_small of text = first_there (decimal_word text) (further_word of text) (below_limit 20 (2 ^ 64) text) (further_small of text)

-- packets

or_field : (o : Option ℕ) (of : Field) → IfSome o IsWord → IfOk (ok_or o of) IsWord
or_field None of h = tt
or_field (Some n) of h = h

at_column : (fields : List (List ℕ)) (of : Field) (column : Option ℕ) → IfOk (word_at fields of column) IsWord
at_column fields of None = omega arith
at_column fields of (Some column) = or_field (word_of_text of (without_blanks (field_text_at fields column))) of
    (field_small of (without_blanks (field_text_at fields column)))

first_ok : {A E : Type 0} (P : A → Type 0) (a : Result A E) (b : Result (List A) E) → IfOk a P → IfOk b (All P)
    → IfOk (with_first a b) (All P)
first_ok P (Err e) b ha hb = tt
first_ok P (Ok x) (Err e) ha hb = tt
first_ok P (Ok x) (Ok xs) ha hb = All-cons P x xs ha hb

each_ok : {X A E : Type 0} (P : A → Type 0) (f : X → Result A E) (xs : List X) → ((x : X) → IfOk (f x) P) → IfOk (each f xs) (All P)
unfolding each
each_ok P f [] h = All-nil P
each_ok P f (x ∷ xs) h = first_ok P (f x) (each f xs) (h x) (each_ok P f xs h)

is_of_words : (reads : FieldSet) → HoldsOfRead reads (λ packet. AreWords packet.words)
is_of_words reads header fields columns packet c w =
    subst (λ words. IfOk words AreWords) w (each_ok IsWord (λ p. word_at fields p.0 p.1) (zip all_fields columns)
    (λ p. at_column fields p.0 p.1))

pub read_words : ReadPacketsAreOfWords
read_words text reads =
    All-map AreWords (λ (packet : Packet). packet.words) (packets text reads)
    (each_packet (λ packet. AreWords packet.words) text reads (is_of_words reads))
