-- That there are merges with a renewal among them, and what they tell.
use Rattle.std.proofs.Common.{◌≡◌, ℕ, ◌<◌, ◌≤◌, ◌^◌, IsTrue, [], ◌∷◌, ◌++◌, List, Some, None, length, map, refl, arith, ap, ◌∙◌, pos}
use Rattle.std.proofs.Common.{length-append}
use Rattle.std.proofs.lemmas.Bool.{lt-ltb}
use Rattle.std.specs.List.{AllByRecursion}
use Rattle.ua_wire.specs.Counted.{counted, text}
use Rattle.ua_wire.specs.Number.{number_octets}
use Rattle.ua_builtin.specs.Number.{number_at}
use Rattle.ua_frame.specs.After.{AllFrom}
use Rattle.ua_frame.specs.Whole.{whole_of}
use Rattle.ua_builtin.specs.DateTime.{date_time}
use Rattle.ua_builtin.specs.Status.{status_code}
use Rattle.ua_builtin.specs.declared.date_time.DateTime.{DateTime}
use Rattle.ua_frame.specs.Frames.{frame_size}
use Rattle.ua_frame.specs.Messages.{ack, hello}
use Rattle.ua_frame.specs.Kinds.{has_flag}
use Rattle.ua_frame.specs.declared.frame.Frame.{Frame}
use Rattle.ua_frame.specs.declared.kind.Kind.TheVariants.{Opn}
use Rattle.ua_opening.specs.Message.{message}
use Rattle.ua_opening.specs.Plain.{open_request_of}
use Rattle.ua_opening.specs.SecureChannel.{open_request, open_response}
use Rattle.ua_opening.specs.declared.secure_channel.OpenRequest.{OpenRequest}
use Rattle.ua_opening.proofs.PlainFits.{renew_fits}
use Rattle.ua_opening.proofs.Lengths.{open_request_length}
use Rattle.ua_chunk.specs.Abort.{abort_body}
use Rattle.ua_chunk.specs.Layout.{chunk_in, frame_of}
use Rattle.ua_chunk.specs.Merge.{IsMessageWithin}
use Rattle.ua_chunk.specs.Merge.Interleaves.{none, left, right}
use Rattle.ua_chunk.specs.declared.chunk.Chunk.{Chunk}
use Rattle.ua_channel.specs.ClientSends.{hello_to, renewal_frame, token_lifetime}
use Rattle.ua_channel.specs.ClientTable.{client_rules}
use Rattle.ua_channel.specs.Content.{Opening, content, opening_of}
use Rattle.ua_channel.specs.Content.Content.{Opens}
use Rattle.ua_channel.specs.Received.{messages, numbers, openings, used_tokens}
use Rattle.ua_channel.specs.ServerRules.{server_rules}
use Rattle.ua_channel.specs.ServerTold.{request_of}
use Rattle.ua_channel.specs.ClientTokens.{answer_in, opened_ids, open_responses, tokens_of}
use Rattle.ua_channel.specs.ServerSends.{opened_frame}
use Rattle.ua_opening.specs.Plain.{open_response_of}
use Rattle.ua_opening.specs.declared.open.OpenAnswer.TheVariants.{Open}
use Rattle.ua_channel_laws.specs.ClientReads.{ClientReads, IsAnswered}
use Rattle.ua_channel_laws.specs.ClientConversation.{IsGoodResponse}
use Rattle.ua_channel_laws.specs.Conversation.{IsFramed, IsGoodRequest}
use Rattle.ua_channel_laws.specs.ExampleMerges.{abort_here, merge_asks, merge_down, merge_heard}
use Rattle.ua_channel_laws.specs.ExampleMerges.{chunks_before_renewal, chunks_behind_renewal, client_opened, frames_around, limits_of_merge}
use Rattle.ua_channel_laws.specs.ExampleMerges.{merge_messages, merge_told, merge_up, opening_down, opening_heard, opening_told, opening_up, server_opened}
use Rattle.ua_channel_laws.specs.Merges.{AreMerged, CarriesEither, IsChunkHere, MayComeNext, ServerMerge, told_merged_back, told_of_merge, with_merged}
use Rattle.ua_channel_laws.specs.Merges.{ClientMerge, MayComeDown, NumbersGoOn, with_merged_back}
use Rattle.ua_channel.specs.Asks.{asked_before, asked_in, calls, end_of, is_in, renewals}
use Rattle.ua_frame.specs.Frames.{frame_octets, frames_octets}
use Rattle.ua_channel_laws.specs.ServerReads.{ServerReads}
use Rattle.ua_channel_laws.proofs.Connected.{connected_first}
use Rattle.ua_channel_laws.proofs.ServerReadsMessages.{request_read}
use Rattle.ua_channel_laws.proofs.ClientReadsMessages.{answer, answer_is, opened_size}
use Rattle.ua_channel.proofs.Askings.{all-weaken}
use Rattle.ua_channel.proofs.AskedLater.{frames_octets-append}
use Rattle.ua_channel.specs.Asks.Asking.{Call, Renewal}
use Rattle.ua_channel_laws.proofs.Written.{chunk_flag, none_is, opening_carried}
use Rattle.ua_channel_laws.proofs.CutChunks.{all_under}
use Rattle.ua_channel.proofs.Carried.{content_opn}
use Rattle.ua_channel.proofs.ChunkFrames.{header_sizes}
use Rattle.ua_channel.proofs.OpeningFrames.{none_header, opening_size}

-- ---- the opening

hello_fits : IsTrue (hello.encodable (hello_to limits_of_merge None))
unfolding hello text counted
hello_fits = refl

ack_fits : IsTrue (ack.encodable client_opened.ack)
unfolding ack
ack_fits = refl

-- a response under these numbers that brings this token can be written
opens : (number id token : ℕ) (answered : DateTime) → number ≤ 4294966272 → id < 2 ^ 32 → token < 2 ^ 32 → IsTrue (date_time.encodable answered)
    → IsAnswered 7 number id 0 token 3600000 answered
opens number id token answered n i t fits =
    record {
      channel_small = omega arith;
      number_small = n;
      id_small = i;
      handle_small = omega arith;
      token_small = t;
      lifetime_small = omega arith;
      moment_fits = fits;
    }

module _ (moment : DateTime) (fits : IsTrue (date_time.encodable moment)) where
  pub server_reads : ServerReads limits_of_merge 7 (opening_up moment) opening_told server_opened
  server_reads = (connected_first limits_of_merge limits_of_merge None 7 3600000 moment moment hello_fits (omega arith) ack_fits fits
      (opens 1 1 1 moment (omega arith) (omega arith) (omega arith) fits)).server_reads

  pub client_reads : ClientReads limits_of_merge [] (opening_down moment) opening_heard client_opened
  client_reads = (connected_first limits_of_merge limits_of_merge None 7 3600000 moment moment hello_fits (omega arith) ack_fits fits
      (opens 1 1 1 moment (omega arith) (omega arith) (omega arith) fits)).client_reads

  pub server_next : MayComeNext (server_rules limits_of_merge 7) (opening_up moment) 2
  server_next = record { frames = server_reads.frames; run = server_reads.run; follows = server_reads.follows }

  pub client_next : MayComeNext (client_rules limits_of_merge []) (opening_down moment) 2
  client_next = record { frames = client_reads.frames; run = client_reads.run; follows = client_reads.follows }

-- ---- the chunks

abbrev merge_chunks : List Chunk
merge_chunks = chunks_before_renewal ++ chunks_behind_renewal

-- under the RequestIds 2, 3, 4, 6, 3, 2, 4, 6 and 2
are_merged : AreMerged limits_of_merge merge_messages merge_chunks
unfolding abort_body text counted status_code whole_of number_at number_octets
are_merged = record {
  own_ids = (refl, (refl, (refl, (refl, tt))));
  within =
      all_under (IsMessageWithin 4 3) merge_messages (
        record { ending = refl; readable = λ e. absurd cc; octets_fit = refl; chunks_fit = refl },
        (
          record { ending = refl; readable = λ e. absurd cc; octets_fit = refl; chunks_fit = refl },
          (
            record { ending = refl; readable = λ e. refl; octets_fit = refl; chunks_fit = refl },
            (record { ending = refl; readable = λ e. absurd cc; octets_fit = refl; chunks_fit = refl }, tt),
          ),
        ),
      );
  merged = (
    _,
    (_, (_, (_, refl, left (left none)), left (right (left (right none)))), left (right (right (left (right (right none)))))),
    left (right (right (right (right (left (right (right (left none)))))))),
  );
  few_open = (
    omega arith,
    (omega arith, (omega arith, (omega arith, (omega arith, (omega arith, (omega arith, (omega arith, (omega arith, tt)))))))),
  );
}

abort_length : length abort_here ≡ 8
unfolding abort_body text counted status_code number_octets
abort_length = refl

-- a frame as its header tells, that a receiver with the least sizes takes
record IsTaken (f : Frame) : Type 0 where
  framed : IsFramed f
  fits : frame_size f ≤ 8192

chunk_taken : (c : Chunk) → length c.body ≤ 8 → IsTaken (frame_of c)
chunk_taken c few =
    let size = header_sizes c.channel c.token c.sequence c.request c.body in
    record { framed = record { sized = omega (arith, size, few); flag = chunk_flag c; least = omega (arith, size) }; fits = omega (arith, size, few) }

chunks_taken : (cs : List Chunk) (fs : List Frame) → AllByRecursion (λ (c : Chunk). length c.body ≤ 8) cs → AllByRecursion IsTaken fs
    → AllByRecursion IsTaken (map frame_of cs ++ fs)
chunks_taken [] fs few taken = taken
chunks_taken (c ∷ cs) fs few taken = (chunk_taken c few.0, chunks_taken cs fs few.1 taken)

-- ---- the frames

-- what is known of all frames with this OPN among them
record Around (g : Frame) : Type 0 where
  framed : AllByRecursion IsFramed (frames_around g)
  fits : AllByRecursion (λ (f : Frame). frame_size f ≤ 8192) (frames_around g)
  numbered : NumbersGoOn 2 (numbers (frames_around g)) 12
  merged : AreMerged limits_of_merge merge_messages (messages (frames_around g))

module _ (g : Frame) (o : Opening) (carried : content g ≡ Opens o) (numbered : o.numbers ≡ Some (7, 5)) (kind : g.kind ≡ Opn) (flag : g.flag ≡ 70)
    (least : 32 ≤ frame_size g) (most : frame_size g ≤ 8192) where
  opening_taken : IsTaken g
  opening_taken = record {
    framed = record { sized = omega (arith, most); flag = rw kind (ap (has_flag Opn) flag); least = rw kind least };
    fits = most;
  }

  all_taken : AllByRecursion IsTaken (frames_around g)
  all_taken = chunks_taken chunks_before_renewal (g ∷ map frame_of chunks_behind_renewal)
      (omega arith, (omega arith, (omega arith, (omega arith, (omega arith, tt)))))
      (opening_taken, chunks_taken chunks_behind_renewal [] (omega arith, (omega (arith, abort_length), (omega arith, (omega arith, tt)))) tt)

  messages_are : messages (frames_around g) ≡ merge_chunks
  unfolding messages content chunk_in number_at number_octets
  messages_are = rw carried refl

  numbers_are : numbers (frames_around g) ≡ 2 ∷ (3 ∷ (4 ∷ (5 ∷ (6 ∷ (7 ∷ (8 ∷ (9 ∷ (10 ∷ (11 ∷ [])))))))))
  unfolding numbers content chunk_in number_at number_octets
  numbers_are = rw (carried, numbered) refl

  around : Around g
  around = record {
    framed = all-weaken IsTaken IsFramed (frames_around g) (λ f t. t.framed) all_taken;
    fits = all-weaken IsTaken (λ (f : Frame). frame_size f ≤ 8192) (frames_around g) (λ f t. t.fits) all_taken;
    numbered = rw numbers_are (refl, (refl, (refl, (refl, (refl, (refl, (refl, (refl, (refl, (refl, tt))))))))), refl, omega arith);
    merged = rw messages_are are_merged;
  }

-- ---- at a server

module _ (asked : DateTime) (fits : IsTrue (date_time.encodable asked)) where
  abbrev request : OpenRequest
  request = open_request_of (pos 1) asked 0 token_lifetime

  abbrev requested : Opening
  requested = record { security = Some (none_header 7); numbers = Some (7, 5); body = (message 446 open_request).canonical request }

  opening_is : opening_of (renewal_frame 7 7 5 asked).body ≡ requested
  opening_is = opening_carried 7 7 5 ((message 446 open_request).canonical request) (omega arith) (omega arith) (omega arith)

  carried : content (renewal_frame 7 7 5 asked) ≡ Opens requested
  carried = content_opn (renewal_frame 7 7 5 asked) refl ∙ ap Opens opening_is

  request_is : request_of requested ≡ Some request
  unfolding request_of
  request_is = request_read request (renew_fits asked 0 token_lifetime fits (omega arith) (omega arith))

  size : frame_size (renewal_frame 7 7 5 asked) ≡ 132
  size = omega (arith, opening_size 7 7 5 ((message 446 open_request).canonical request), open_request_length (pos 1) asked 0 token_lifetime)

  renews : IsGoodRequest 7 1 requested
  renews = record {
    header = none_header 7;
    security_is = refl;
    policy = none_is;
    request = request;
    request_is = request_is;
    type_is = refl;
    mode_is = refl;
    on = refl;
    left = refl;
  }

  pub told : told_of_merge merge_messages 1 (merge_up asked) ≡ merge_told
  unfolding content chunk_in openings abort_body text counted status_code whole_of number_at number_octets
  told = rw (opening_is, request_is) refl

  carries_up : AllFrom (λ us f. CarriesEither (IsGoodRequest 7 (with_merged server_opened us 2).issued) (IsChunkHere 7 (with_merged server_opened us 2))
      (content f))
      [] (merge_up asked)
  unfolding content chunk_in openings used_tokens number_at number_octets
  carries_up = (
    (refl, record { not_before = omega arith; issued = omega arith }),
    (
      (refl, record { not_before = omega arith; issued = omega arith }),
      (
        (refl, record { not_before = omega arith; issued = omega arith }),
        (
          (refl, record { not_before = omega arith; issued = omega arith }),
          (
            (refl, record { not_before = omega arith; issued = omega arith }),
            (
              rw opening_is renews,
              (
                (refl, record { not_before = omega arith; issued = omega arith }),
                (
                  (refl, record { not_before = omega arith; issued = omega arith }),
                  (
                    (refl, record { not_before = omega arith; issued = omega arith }),
                    ((refl, record { not_before = omega arith; issued = omega arith }), tt),
                  ),
                ),
              ),
            ),
          ),
        ),
      ),
    ),
  )

  pub server_merges : ServerMerge limits_of_merge 7 server_opened merge_messages (merge_up asked) 12
  server_merges =
      let frames = around (renewal_frame 7 7 5 asked) requested carried refl refl refl (omega (arith, size)) (omega (arith, size)) in
      record {
        is_open = omega arith;
        framed = frames.framed;
        fits = frames.fits;
        carries = carries_up;
        numbered = frames.numbered;
        merged = frames.merged;
      }

-- ---- at a client

-- the client asked everything where more than 60 bytes came
asked_all : (n : ℕ) → 60 < n → asked_before n merge_asks ≡ Call 2 ∷ (Call 3 ∷ (Call 4 ∷ (Renewal 5 ∷ (Call 6 ∷ []))))
unfolding asked_before
asked_all n far = rw (lt-ltb 0 n (omega (arith, far)), lt-ltb 60 n far) refl

-- what may come after these frames where the client asked everything
abbrev MayComeBehind : List Frame → Frame → Type 0
MayComeBehind us f =
    MayComeDown (with_merged_back client_opened (Call 2 ∷ (Call 3 ∷ (Call 4 ∷ (Renewal 5 ∷ (Call 6 ∷ []))))) us 2)
    (calls (Call 2 ∷ (Call 3 ∷ (Call 4 ∷ (Renewal 5 ∷ (Call 6 ∷ [])))))) (content f)

-- and where it asks in their middle
abbrev MayComeHere : List Frame → Frame → Type 0
MayComeHere us f = MayComeDown (with_merged_back client_opened (asked_before (end_of us f) merge_asks) us 2) (calls (asked_before (end_of us f) merge_asks))
    (content f)

asked_behind : (us fs : List Frame) → 60 < length (frames_octets us) → AllFrom MayComeBehind us fs → AllFrom MayComeHere us fs
asked_behind us [] far may = tt
asked_behind us (f ∷ fs) far may =
    let longer : 60 < end_of us f = omega (arith, far, ap length (frames_octets-append us (f ∷ [])), length-append (frames_octets us) (frames_octets (f ∷ [])))
    in
    (rw (asked_all (end_of us f) longer) may.0, asked_behind (us ++ f ∷ []) fs longer may.1)

chunks_long : 60 < length (frames_octets (map frame_of chunks_before_renewal))
unfolding frames_octets frame_octets number_octets
chunks_long = omega arith

module _ (answered : DateTime) (fits : IsTrue (date_time.encodable answered)) where
  writable : IsAnswered 7 7 5 0 2 3600000 answered
  writable = opens 7 5 2 answered (omega arith) (omega arith) (omega arith) fits

  abbrev answers : Opening
  answers = answer 7 7 5 0 2 3600000 answered writable

  opening_back : opening_of (opened_frame 7 7 5 0 2 3600000 answered).body ≡ answers
  opening_back = opening_carried 7 7 5 ((message 449 open_response).canonical (open_response_of answered 0 7 2 3600000)) (omega arith) (omega arith)
      (omega arith)

  carried_back : content (opened_frame 7 7 5 0 2 3600000 answered) ≡ Opens answers
  carried_back = content_opn (opened_frame 7 7 5 0 2 3600000 answered) refl ∙ ap Opens opening_back

  brings : answer_in answers ≡ Some (Open (open_response_of answered 0 7 2 3600000))
  brings = answer_is 7 7 5 0 2 3600000 answered writable

  size_back : frame_size (opened_frame 7 7 5 0 2 3600000 answered) ≡ 135
  size_back = opened_size 7 7 5 0 2 3600000 answered writable

  -- the one renewal that is unanswered here is 5
  answers_renewal : IsGoodResponse (Some 7) (1 ∷ []) (λ (id : ℕ). is_in id (5 ∷ [])) answers
  answers_renewal = record {
    header = none_header 7;
    security_is = refl;
    policy = none_is;
    response = open_response_of answered 0 7 2 3600000;
    answer_is = brings;
    good = refl;
    on = refl;
    fresh = refl;
    numbered = (7, 5);
    numbers_are = refl;
    awaited = refl;
  }

  pub heard : told_merged_back merge_messages (merge_down answered) ≡ merge_heard
  unfolding abort_body text counted status_code whole_of number_at number_octets chunk_in content
  heard = rw (opening_back, brings) refl

  -- behind the five chunks
  carries_behind : AllFrom MayComeBehind (map frame_of chunks_before_renewal) (opened_frame 7 7 5 0 2 3600000 answered ∷ map frame_of chunks_behind_renewal)
  unfolding content chunk_in openings used_tokens number_at number_octets calls renewals open_responses tokens_of opened_ids messages
  carries_behind = (
    rw opening_back answers_renewal,
    (
      rw (opening_back, brings) (record { on = refl; held = refl; awaited = refl }),
      (
        rw (opening_back, brings) (record { on = refl; held = refl; awaited = refl }),
        (
          rw (opening_back, brings) (record { on = refl; held = refl; awaited = refl }),
          (rw (opening_back, brings) (record { on = refl; held = refl; awaited = refl }), tt),
        ),
      ),
    ),
  )

  carries_down : AllFrom MayComeHere [] (merge_down answered)
  unfolding content chunk_in openings used_tokens number_at number_octets asked_before calls frames_octets frame_octets tokens_of open_responses
  carries_down = (
    record { on = refl; held = refl; awaited = refl },
    (
      record { on = refl; held = refl; awaited = refl },
      (
        record { on = refl; held = refl; awaited = refl },
        (
          record { on = refl; held = refl; awaited = refl },
          (
            record { on = refl; held = refl; awaited = refl },
            asked_behind (map frame_of chunks_before_renewal) (opened_frame 7 7 5 0 2 3600000 answered ∷ map frame_of chunks_behind_renewal) chunks_long
                carries_behind,
          ),
        ),
      ),
    ),
  )

  pub client_merges : ClientMerge limits_of_merge client_opened [] merge_asks merge_messages (merge_down answered) 12
  unfolding asked_in frames_octets frame_octets number_octets
  client_merges =
      let frames = around (opened_frame 7 7 5 0 2 3600000 answered) answers carried_back refl refl refl (omega (arith, size_back)) (omega (arith, size_back)) in
      record {
        counted = refl;
        placed = (omega arith, (omega arith, (omega arith, (omega arith, (omega arith, tt)))));
        framed = frames.framed;
        fits = frames.fits;
        carries = carries_down;
        numbered = frames.numbered;
        merged = frames.merged;
      }
