-- The words of generated packets are small, so that the text of a million packets keeps the limit of a trace.
use Rattle.marple_laws.proofs.Words
use Words.{◌≡◌, ◌⊎◌, inl, inr, ℕ, zero, suc, ◌+◌, ◌-◌, ◌*◌, ◌%◌, ◌^◌, ◌<◌, ◌≤◌, Bool, true, false, cond, List, [], ◌∷◌, ◌++◌, length}
use Words.{filter, Option, Some, None, refl, ap, ◌∙◌, arith, length-append, ◌==◌, codes, decimal, flat_map, unwrap_or, length-decimal-le}
use Words.{flat_map-append, by_test, Tout, Packet, FIELDS, MAX_TRACE, drop, ArePackets, ArePacketWords, continued, header, packet_texts}
use Words.{trace_text, word_text}
use Rattle.std.specs.Prelude.{nat_lt}
use Rattle.queue_sim.specs.Generator.{Arrival, arrival_by, arrivals, drawn_after, last_time, leaves, generated_packet, packets_from}
use Rattle.queue_sim.specs.{Generator.{simulated, still_there, switch_of, touts_at, with_some}, TraceText.line}
use Rattle.queue_sim.proofs.Bounds.{drawn_small, number_small, time_small, tout_small}

-- ---- lines

short : (w : ℕ) → w < 10 ^ 10 → length (decimal w) ≤ 10
short w small = length-decimal-le 10 w (omega arith) small (omega arith)

abbrev AreShort : List (List ℕ) → Type 0
AreShort [] = Unit {0}
AreShort (part ∷ parts) = (length part ≤ 10) × AreShort parts

continued_short : (parts : List (List ℕ)) → AreShort parts → length (continued parts) ≤ 11 * length parts
continued_short [] s = omega arith
continued_short (part ∷ parts) s = omega (arith, continued_short parts s.1, s.0, length-append part (continued parts))

line_short : (parts : List (List ℕ)) → AreShort parts → length (line parts) ≤ 11 * length parts + 11
line_short [] s = omega arith
line_short (part ∷ parts) s =
    omega (arith, continued_short parts s.1, s.0, length-append part (continued parts), length-append (part ++ continued parts) (10 ∷ []))

-- ---- packets

-- a packet whose numbers are small
record IsSmall (a : Arrival) : Type 0 where
  time : a.time < 10 ^ 10
  flow : a.flow < 64
  payload : a.payload ≤ 1460
  seq : a.seq < 10 ^ 10
  qsize : a.qsize < 10 ^ 10
  tout : (unwrap_or a.tout (2 ^ 64 - 1) < 10 ^ 10) ⊎ (unwrap_or a.tout (2 ^ 64 - 1) ≡ 2 ^ 64 - 1)

tout_short : (w : ℕ) → (w < 10 ^ 10) ⊎ (w ≡ 2 ^ 64 - 1) → length (word_text Tout w) ≤ 10
tout_short w h = go _ refl h
  where
    go : (b : Bool) → (w == 2 ^ 64 - 1) ≡ b → (w < 10 ^ 10) ⊎ (w ≡ 2 ^ 64 - 1) → length (cond b (codes "inf") (decimal w)) ≤ 10
    go true t some = omega arith
    go false t (inl small) = short w small
    go false t (inr e) = let no : ⊥ = grind arith in absurd no

tout_word : {w : ℕ} → (w < 10 ^ 10) ⊎ (w ≡ 2 ^ 64 - 1) → w < 2 ^ 64
tout_word (inl small) = omega arith
tout_word (inr e) = omega arith

module _ (n : ℕ) (a : Arrival) (few : n ≤ 1000000) (small : IsSmall a) where
  packet_line : length (line (packet_texts (generated_packet n a))) ≤ 165
  packet_line = line_short (packet_texts (generated_packet n a)) (
    short (1 + switch_of a.flow) (omega arith),
    (short 0 (omega arith), addresses),
  )
    where
      departure : AreShort (drop 12 (packet_texts (generated_packet n a)))
      departure = (tout_short (unwrap_or a.tout (2 ^ 64 - 1)) small.tout, (short _ small.qsize, tt))

      lengths : AreShort (drop 8 (packet_texts (generated_packet n a)))
      lengths = (short (a.payload + 40) (omega arith), (short _ (omega arith), (short _ small.seq, (short _ small.time, departure))))

      ports : AreShort (drop 5 (packet_texts (generated_packet n a)))
      ports = (short (1024 + a.flow) (omega arith), (short _ (omega arith), (short 6 (omega arith), lengths)))

      addresses : AreShort (drop 2 (packet_texts (generated_packet n a)))
      addresses = (short n (omega arith), (short (167772160 + a.flow) (omega arith), (short (167837696 + a.flow % 8) (omega arith), ports)))

  packet_words : ArePacketWords (generated_packet n a).words
  packet_words = (omega arith, (omega arith, (omega arith, (omega arith, (omega arith, (omega arith, (omega arith, others)))))))
    where
      others : ArePacketWords (drop 7 (generated_packet n a).words)
      others = (omega arith, (omega arith, (omega arith, (omega arith, (omega arith, (tout_word small.tout, (omega arith, tt)))))))

-- ---- all packets

filter_few : {A : Type 0} (p : A → Bool) (xs : List A) → length (filter p xs) ≤ length xs
filter_few p [] = omega arith
filter_few p (x ∷ xs) = by_test (p x) (λ t. rw t (omega (arith, filter_few p xs))) (λ t. rw t (omega (arith, filter_few p xs)))

touts_few : (switch : ℕ) (list : List Arrival) → length (touts_at switch list) ≤ length list
touts_few switch [] = omega arith
touts_few switch (a ∷ list) = go (touts_few switch list) _ _
  where
    go : length (touts_at switch list) ≤ length list → (b : Bool) (o : Option ℕ)
        → length (cond b (with_some o (touts_at switch list)) (touts_at switch list)) ≤ suc (length list)
    go few true None = omega arith
    go few true (Some t) = omega arith
    go few false o = omega arith

module _ (start capacity : ℕ) where
  arrivals_many : (n : ℕ) → length (arrivals start capacity n) ≡ n
  unfolding arrivals
  arrivals_many zero = refl
  arrivals_many (suc n) = ap suc (arrivals_many n)

  -- when the next packet comes, and when those leave that its switch accepted before
  abbrev next_time : ℕ → ℕ
  next_time n = last_time (arrivals start capacity n) + (drawn_after start (4 * n)).gap

  abbrev next_touts : ℕ → List ℕ
  next_touts n = touts_at (switch_of (drawn_after start (4 * n)).flow) (arrivals start capacity n)

  next_small : (n : ℕ) → n < 1000000 → IsSmall (arrival_by (drawn_after start (4 * n)) capacity (arrivals start capacity n))
  next_small n few = record {
    time = omega (arith, time_small start capacity n, drawn.0);
    flow = drawn.1;
    payload = drawn.2;
    seq = omega (arith, number_small start capacity n (drawn_after start (4 * n)).flow, drawn.3);
    qsize = omega (arith, waiting);
    tout = go (nat_lt (still_there (next_time n) (next_touts n)) capacity);
  }
    where
      drawn : ((drawn_after start (4 * n)).gap ≤ 49) × ((drawn_after start (4 * n)).flow < 64)
          × ((drawn_after start (4 * n)).payload ≤ 1460) × ((drawn_after start (4 * n)).skipped ≤ 1)
      drawn = drawn_small start (4 * n)

      waiting : still_there (next_time n) (next_touts n) ≤ n
      waiting = omega (
        arith,
        filter_few (nat_lt (next_time n)) (next_touts n),
        touts_few (switch_of (drawn_after start (4 * n)).flow) (arrivals start capacity n),
        arrivals_many n,
      )

      leaving : leaves (next_time n) (drawn_after start (4 * n)).payload (next_touts n) < 10 ^ 10
      leaving = omega (
        arith,
        time_small start capacity n,
        drawn.0,
        drawn.2,
        tout_small start capacity n (switch_of (drawn_after start (4 * n)).flow),
      )

      go : (b : Bool) → (unwrap_or (cond b (Some (leaves (next_time n) (drawn_after start (4 * n)).payload (next_touts n))) None)
          (2 ^ 64 - 1) < 10 ^ 10) ⊎ (unwrap_or (cond b (Some (leaves (next_time n) (drawn_after start (4 * n)).payload (next_touts n)))
          None) (2 ^ 64 - 1) ≡ 2 ^ 64 - 1)
      go true = inl leaving
      go false = inr refl

  are_push : (packets : List Packet) (p : Packet) → ArePackets packets → length p.words ≡ FIELDS → ArePacketWords p.words
      → ArePackets (packets ++ p ∷ [])
  are_push [] p are size words = (size, words, tt)
  are_push (first ∷ packets) p are size words = (are.0, are.1, are_push packets p are.2 size words)

  -- the first n packets: their words, their number, and the length of their lines
  record AreSmall (n : ℕ) : Type 0 where
    are : ArePackets (packets_from (arrivals start capacity n))
    many : length (packets_from (arrivals start capacity n)) ≡ n
    lines : length (flat_map (λ packet. line (packet_texts packet)) (packets_from (arrivals start capacity n))) ≤ 165 * n

  all_small : (n : ℕ) → n ≤ 1000000 → AreSmall n
  unfolding arrivals
  all_small zero few = record { are = tt; many = refl; lines = omega arith }
  all_small (suc n) few =
      let before = all_small n (omega arith) in
      let earlier = arrivals start capacity n in
      let next = arrival_by (drawn_after start (4 * n)) capacity earlier in
      let number : length (next ∷ earlier) ≤ 1000000 = omega (arith, arrivals_many n) in
      let small = next_small n (omega arith) in
      let p : Packet = generated_packet (length (next ∷ earlier)) next in
      let text : Packet → List ℕ = λ packet. line (packet_texts packet) in
      record {
        are = are_push (packets_from earlier) p before.are refl (packet_words (length (next ∷ earlier)) next number small);
        many = length-append (packets_from earlier) (p ∷ []) ∙ last (length (packets_from earlier)) before.many;
        lines =
            let joined = ap length (flat_map-append text (packets_from earlier) (p ∷ [])) in
            omega (arith, joined, length-append {A = ℕ}, before.lines, packet_line (length (next ∷ earlier)) next number small);
      }
    where
      last : (m : ℕ) → m ≡ n → m + 1 ≡ suc n
      last m e = omega (arith, e)

  header_long : length (line header) ≡ 91
  header_long = refl

  pub made_packets : (n : ℕ) → n ≤ 1000000 → ArePackets (simulated n start capacity)
  made_packets n few = (all_small n few).are

  pub made_many : (n : ℕ) → n ≤ 1000000 → length (simulated n start capacity) ≡ n
  made_many n few = (all_small n few).many

  pub text_fits : (n : ℕ) → n ≤ 1000000 → length (trace_text (simulated n start capacity)) ≤ MAX_TRACE
  text_fits n few =
      let text : Packet → List ℕ = λ packet. line (packet_texts packet) in
      omega (arith, (all_small n few).lines, header_long, length-append (line header) (flat_map text (simulated n start capacity)))
