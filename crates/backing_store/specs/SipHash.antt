-- SipHash of words: one round for each and three at the end, with keys of 0.
use Rattle.std.specs.{Prelude.{ℕ, ◌+◌, ◌%◌, ◌^◌, List, bit_xor, fold}, Int.{w64, rotate_left}}
use Rattle.backing_store.specs.declared.sip.Sip.{Sip}

abbrev pub wrapping_add : ℕ → ℕ → ℕ
wrapping_add x y = (x + y) % 2 ^ 64

abbrev pub start : Sip
start = record { v0 = 0x736f_6d65_7073_6575; v1 = 0x646f_7261_6e64_6f6d; v2 = 0x6c79_6765_6e65_7261; v3 = 0x7465_6462_7974_6573 }

-- the state after one round
unfoldable pub round : Sip → Sip
round s =
    let a0 = wrapping_add s.v0 s.v1 in
    let a2 = wrapping_add s.v2 s.v3 in
    let a1 = bit_xor (rotate_left w64 s.v1 13) a0 in
    let a3 = bit_xor (rotate_left w64 s.v3 16) a2 in
    let b2 = wrapping_add a2 a1 in
    let b0 = wrapping_add (rotate_left w64 a0 32) a3 in
    record { v0 = b0; v1 = bit_xor (rotate_left w64 a1 17) b2; v2 = rotate_left w64 b2 32; v3 = bit_xor (rotate_left w64 a3 21) b0 }

-- the state after one word more
unfoldable pub with_word : Sip → ℕ → Sip
with_word s word =
    let t = round (record s { v3 = bit_xor s.v3 word }) in
    record t { v0 = bit_xor t.v0 word }

-- the hash of the words that led to a state
abbrev pub finish : Sip → ℕ
finish s =
    let t = round (round (round (record s { v2 = bit_xor s.v2 255 }))) in
    bit_xor (bit_xor (bit_xor t.v0 t.v1) t.v2) t.v3

abbrev pub sip_hash : List ℕ → ℕ
sip_hash words = finish (fold with_word start words)
