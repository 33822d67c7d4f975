-- What holds of the tuples of each stream of a query.
use Rattle.std.specs.{Prelude.{◌≡◌, ℕ, ◌≤◌, List, length, map, Some, All, Contains}, List.Sorted.IsStrictlyIncreasing}
use Rattle.marple_base.specs.declared.field.TheConstants.{FIELDS}
use Rattle.query_lang.specs.{declared.{query.Query.Query, typed.TypedQuery.TypedQuery}, Streams.{Tuple, stream}}
use Rattle.query_laws.specs.{QueryRules.IsTyped, Columns.{columns_of, IsZip, value_under}}

-- the numbers of the packets that these are tuples of
abbrev pub packet_numbers : List Tuple → List ℕ
packet_numbers tuples = map (λ t. t.packet) tuples

-- A stream has at most one tuple for each packet, and its tuples are in the order of the packets.
abbrev pub PacketsAscend : Type 0
PacketsAscend = (q : TypedQuery) (number : ℕ) (packets : List (List ℕ))
    → IsStrictlyIncreasing (packet_numbers (stream q number packets))

-- Each tuple of a stream is that of a packet of the trace, which are numbered from 1.
abbrev pub PacketsAreOfTheTrace : Type 0
PacketsAreOfTheTrace = (q : TypedQuery) (number : ℕ) (packets : List (List ℕ))
    → All (λ n. (1 ≤ n) × (n ≤ length packets)) (packet_numbers (stream q number packets))

-- ---- queries that are typed, over packets with all fields

-- this holds of each typed query and all packets with all fields
abbrev pub OfTypedQueries : (TypedQuery → List (List ℕ) → Type 0) → Type 0
OfTypedQueries Q = (query : Query) (q : TypedQuery) (packets : List (List ℕ))
    → IsTyped query q → All (λ words. length words ≡ FIELDS) packets → Q q packets

-- Each row of a stream has a word for each of its columns.
abbrev pub RowsFillTheirColumns : Type 0
RowsFillTheirColumns = OfTypedQueries (λ q packets. (number : ℕ)
    → All (λ t. length t.row ≡ length (columns_of q number)) (stream q number packets))

-- where both streams have a tuple for a packet, a name that is a column of both has one value
abbrev pub ColumnsAgree : TypedQuery → List (List ℕ) → ℕ → ℕ → Type 0
ColumnsAgree q packets left right = (t u : Tuple) (name a b : ℕ)
    → Contains (stream q left packets) t → Contains (stream q right packets) u → t.packet ≡ u.packet
    → value_under name (columns_of q left) t.row ≡ Some a → value_under name (columns_of q right) u.row ≡ Some b → a ≡ b

-- Two columns of one name, of which a `zip` keeps one, have the same values.
abbrev pub ZippedColumnsAgree : Type 0
ZippedColumnsAgree = OfTypedQueries (λ q packets. (number left right : ℕ)
    → IsZip q number left right → ColumnsAgree q packets left right)

-- where both streams have a tuple for a packet, the second's has each value of the first's under the same name
abbrev pub ColumnsAreKept : TypedQuery → List (List ℕ) → ℕ → ℕ → Type 0
ColumnsAreKept q packets before after = (t u : Tuple) (name v : ℕ)
    → Contains (stream q before packets) t → Contains (stream q after packets) u → t.packet ≡ u.packet
    → value_under name (columns_of q before) t.row ≡ Some v → value_under name (columns_of q after) u.row ≡ Some v

-- A `zip` has each column of its first stream, with its values.
abbrev pub ZipsKeepTheFirst : Type 0
ZipsKeepTheFirst = OfTypedQueries (λ q packets. (number left right : ℕ)
    → IsZip q number left right → ColumnsAreKept q packets left number)

-- And it has each column of its second stream, with its values.
abbrev pub ZipsKeepTheSecond : Type 0
ZipsKeepTheSecond = OfTypedQueries (λ q packets. (number left right : ℕ)
    → IsZip q number left right → ColumnsAreKept q packets right number)
