-- That a server takes what a client writes, one message after the other.
use Rattle.std.proofs.Common.{◌≡◌, ℕ, ℤ, pos, ◌+◌, ◌<◌, ◌≤◌, ◌^◌, Bool, true, false, IsTrue, eqb, leb, List, [], ◌∷◌}
use Rattle.std.proofs.Common.{◌++◌, Option, Some, None, length, map, refl, sym, ◌∙◌, ap, subst, arith, length-append}
use Rattle.std.specs.Prelude.{if◌then◌else◌}
use Rattle.std.proofs.lemmas.List.{map-append}
use Rattle.std.proofs.lemmas.Bool.{and_from, eq-eqb, le-leb, le-ltb, lt-ltb, ne_eqb}
use Rattle.ua_builtin.specs.DateTime.{date_time}
use Rattle.ua_builtin.specs.NodeId.{node_id}
use Rattle.ua_builtin.specs.Reasons.{first_reason}
use Rattle.ua_builtin.specs.declared.date_time.DateTime.{DateTime}
use Rattle.ua_frame.specs.declared.frame.Frame.{Frame}
use Rattle.ua_frame.specs.declared.hello.Hello.{Hello}
use Rattle.ua_frame.specs.declared.limits.Limits.{Limits}
use Rattle.ua_frame.specs.Agreement.{url_length}
use Rattle.ua_frame.specs.Frames.{LetsIn, frame_octets, frame_size}
use Rattle.ua_frame.specs.declared.kind.Kind.TheVariants.{Opn}
use Rattle.ua_frame.specs.Hello.{hello_gate}
use Rattle.ua_frame.specs.Messages.{hello}
use Rattle.ua_frame.specs.After.{AllFrom, each_from}
use Rattle.ua_frame.proofs.MessagesLawful.{sound_hello}
use Rattle.ua_frame.proofs.Streams.{events-push, run_nil}
use Rattle.ua_frame.proofs.Wholes.{whole_encodes}
use Rattle.ua_opening.specs.Message.{body_of, message, standard}
use Rattle.ua_opening.proofs.BodyLaws.{body_reads_back}
use Rattle.ua_opening.proofs.Lengths.{open_request_length, close_request_length}
use Rattle.ua_opening.proofs.MessageRead.{body_of-found}
use Rattle.ua_opening.proofs.MessagesLawful.{lawful_message}
use Rattle.ua_opening.specs.Plain.{close_request_of, open_request_of}
use Rattle.ua_opening.specs.SecureChannel.{close_request, open_request}
use Rattle.ua_opening.specs.declared.secure_channel.OpenRequest.{OpenRequest}
use Rattle.ua_opening.proofs.PlainFits.{issue_fits, renew_fits}
use Rattle.ua_opening.proofs.SecureChannelLawful.{lawful_open_request}
use Rattle.ua_chunk.specs.declared.chunk.Chunk.{Chunk}
use Rattle.ua_chunk.specs.declared.flag.Flag.TheVariants.{F}
use Rattle.ua_chunk.specs.declared.lane.Lane.{Lane}
use Rattle.ua_chunk.specs.Cutting.{chunks_octets, chunks_of, numbered, number_after, pieces, chunk_of, flag_before}
use Rattle.ua_chunk.specs.Layout.{chunk_in, frame_of}
use Rattle.ua_chunk.specs.Merge.{Sent, outcomes}
use Rattle.ua_chunk.specs.Sequence.{next_number}
use Rattle.ua_chunk.proofs.Carried.{chunk_found}
use Rattle.ua_chunk.proofs.CutLaws.{follows_next, cut_delivered}
use Rattle.ua_chunk.proofs.Fresh.{some_pieces}
use Rattle.ua_chunk.proofs.Pieces.{next_small}
use Rattle.ua_chunk.proofs.ReaderLaws.{frame_of_chunk}
use Rattle.ua_channel.specs.Content.{Content, content, opening_of}
use Rattle.ua_channel.specs.Content.Content.{Greets, Opens, Closes}
use Rattle.ua_channel.specs.ClientSends.{first_open, hello_frame, hello_to, open_frame, renewal_frame, close_frame, token_lifetime}
use Rattle.ua_channel.specs.Agreement.{agreement_of}
use Rattle.ua_channel.specs.Received.{Received, after, nothing_received, received, numbers, openings, tokens_in, used_tokens}
use Rattle.ua_channel_laws.specs.ServerReads.{AtServer, IsBodyFor, IsLaneTo, IsTakenAt, ServerCloses, ServerReads, with_message, with_token}
use Rattle.ua_channel.specs.ServerRefusals.{is_taken, last_used, server_reasons, type_wanted}
use Rattle.ua_channel.specs.ServerRules.{server_gate_behind, opening_gate, receive_size, running_gate, server_gate, server_rules}
use Rattle.ua_channel.specs.ServerTold.{Told, Told as event, issued, server_tells, told_under}
use Rattle.ua_channel.proofs.Askings.{all-weaken}
use Rattle.ua_channel.proofs.Carried.{content_clo, content_hel, content_opn}
use Rattle.ua_channel.proofs.OneFrameMore.{received-nil, received-push}
use Rattle.ua_channel.proofs.ClientFrames.{hello_length}
use Rattle.ua_channel.proofs.Openings.{HasHeaders, opens}
use Rattle.ua_channel.proofs.Phases.{greeted_by}
use Rattle.ua_channel_laws.proofs.ReadOn.{no_events, run_last, run_one}
use Rattle.ua_channel_laws.proofs.CutChunks.{Alone, AreSentIn, IsSentIn, cut_alone, cut_goes, frames_fit, frames_framed}
use Rattle.ua_channel_laws.proofs.CutChunks.{frames_messages, frames_numbers, frames_openings, frames_tokens, last_token, sent_in}
use Rattle.ua_channel_laws.proofs.MergedChunks.{comes}
use Rattle.ua_channel_laws.proofs.MergedFrames.{latest_or-append, none_used, tokens-more}
use Rattle.ua_channel_laws.proofs.ServerMerges.{reads_merged}
use Rattle.ua_channel_laws.proofs.ServerRuns.{reads_at}
use Rattle.ua_channel_laws.specs.Conversation.{IsGoodRequest}
use Rattle.ua_channel_laws.specs.Merges.{CarriesEither, IsChunkHere, NumbersGoOn, ServerMerge}
use Rattle.ua_channel_laws.specs.Merges.{ended_by, latest_or, told_by_merged, told_of_merge, with_merged}
use Rattle.ua_channel.proofs.ChunkFrames.{header_sizes}
use Rattle.ua_channel_laws.proofs.Written.{IsOf, chunks_are, none_is, opening_carried, lets_opn, chunk_carried}
use Rattle.ua_channel.proofs.OpeningFrames.{none_header, opening_body, opening_size}
use Rattle.ua_channel.specs.inside.ServerParts.{IsAskedIn, OpensSo, asked_reasons}
use Rattle.ua_channel.specs.declared.server_opening.Asked.{Asked}
use Rattle.ua_channel.specs.declared.server_opening.Opened.{Opened}

-- ---- a message

module _ (limits : Limits) (channel : ℕ) (octets : List ℕ) (told : List Told) (at : AtServer) (lane : Lane) (body : List ℕ) (id : ℕ) (on : channel < 2 ^ 32)
    (few : id < 2 ^ 32)
    (r : ServerReads limits channel octets told at) (to : IsLaneTo limits channel at lane) (w : IsBodyFor limits lane.room body) where
  abbrev size : ℕ
  size = receive_size limits (Some at.hello)

  abbrev chunks : List Chunk
  chunks = chunks_of lane body at.next id

  alone : Alone limits id (chunks_of lane body at.next id)
  alone = cut_alone limits lane body at.next id to.some w

  all_sent : AreSentIn size lane id chunks
  all_sent =
      all-weaken (IsOf lane id) (IsSentIn size lane id) chunks
      (sent_in size lane id (omega (arith, to.on, on)) (omega (arith, to.taken.issued, r.few_issued)) few to.fits)
      (chunks_are lane body at.next id r.next_small to.some w.some)

  carries_from : (us : List Frame) (cs : List Chunk) → AreSentIn size lane id cs → latest_or at.used (used_tokens us) ≤ lane.token
      → AllFrom (λ vs f. CarriesEither (IsGoodRequest channel (with_merged at vs at.next).issued) (IsChunkHere channel (with_merged at vs at.next)) (content f))
      us (map frame_of cs)
  carries_from us [] s le = tt
  carries_from us (c ∷ cs) s le = (
    rw (chunk_carried c s.0.numbers) (
      s.0.channel_is
          ∙ to.on,
      record { not_before = omega (arith, le, s.0.token_is); issued = omega (arith, s.0.token_is, to.taken.issued) },
    ),
    carries_from (us ++ frame_of c ∷ []) cs s.1
        (omega (
          arith,
          ap (latest_or at.used) (tokens-more us (frame_of c) ∙ ap (λ (k : Content). used_tokens us ++ tokens_in k) (chunk_carried c s.0.numbers)),
          latest_or-append at.used (used_tokens us) (c.token ∷ []),
          s.0.token_is,
        )),
  )

  told_from : (ms : List Sent) (us : List Frame) (cs : List Chunk) → AreSentIn size lane id cs
      → each_from (λ vs f. told_by_merged ms (at.issued + length (openings vs)) (content f)) us (map frame_of cs) ≡ map (told_under lane.token) (outcomes ms cs)
  told_from ms us [] s = refl
  told_from ms us (c ∷ cs) s =
      let later : List Told = each_from (λ vs f. told_by_merged ms (at.issued + length (openings vs)) (content f)) (us ++ frame_of c ∷ []) (map frame_of cs) in
      ap (λ (k : Content). told_by_merged ms (at.issued + length (openings us)) k ++ later) (chunk_carried c s.0.numbers)
      ∙ (ap (λ (t : ℕ). map (told_under t) (ended_by ms c) ++ later) s.0.token_is
      ∙ (rw (told_from ms (us ++ frame_of c ∷ []) cs s.1) (sym (map-append (told_under lane.token) (ended_by ms c) (outcomes ms cs)))))

  goes : NumbersGoOn at.next (numbers (map frame_of chunks)) (number_after at.next (pieces lane.room body))
  goes =
      let ps = some_pieces lane.room body w.some in
      rw (frames_numbers size lane id chunks all_sent, ps.are) (cut_goes lane at.next id ps.first ps.others r.next_small)

  merge : ServerMerge limits channel at (alone.message ∷ []) (map frame_of chunks) (number_after at.next (pieces lane.room body))
  merge = record {
    is_open = omega (arith, to.taken.not_before, to.taken.issued, r.some_used);
    framed = frames_framed size lane id chunks r.sized all_sent;
    fits = frames_fit size lane id chunks all_sent;
    carries = carries_from [] chunks all_sent (rw (none_used at.used) to.taken.not_before);
    numbered = goes;
    merged = rw (frames_messages size lane id chunks all_sent) alone.merged;
  }

  used : latest_or at.used (used_tokens (map frame_of chunks)) ≡ lane.token
  used =
      let ps = some_pieces lane.room body w.some in
      ap (latest_or at.used) (frames_tokens size lane id chunks all_sent)
      ∙ (rw ps.are (last_token lane.token at.used (chunk_of lane (flag_before ps.others) at.next id ps.first)
      (numbered lane (next_number at.next) id ps.others)))

  issues : at.issued + length (openings (map frame_of chunks)) ≡ at.issued
  issues = omega (arith, ap length (frames_openings size lane id chunks all_sent))

  tells : told_of_merge (alone.message ∷ []) at.issued (map frame_of chunks) ≡ event.Asked id lane.token body ∷ []
  tells =
      told_from (alone.message ∷ []) [] chunks all_sent
      ∙ ap (map (told_under lane.token)) (sym (comes limits (alone.message ∷ []) chunks alone.merged).all ∙ cut_delivered lane body at.next id to.some w.some)

  -- the chunks of a message are taken, and tell it
  pub reads_message : ServerReads limits channel (octets ++ chunks_octets (chunks_of lane body at.next id)) (told ++ event.Asked id lane.token body ∷ [])
      (with_message at lane body)
  reads_message =
      subst (λ (n : ℕ). ServerReads limits channel (octets ++ chunks_octets chunks) (told ++ event.Asked id lane.token body ∷ [])
      (record at { issued = n; used = lane.token; next = number_after at.next (pieces lane.room body) })) issues
      (subst
      (λ (u : ℕ).
      ServerReads limits channel (octets ++ chunks_octets chunks) (told ++ event.Asked id lane.token body ∷ [])
      (record at { issued = at.issued + length (openings (map frame_of chunks)); used = u; next = number_after at.next (pieces lane.room body) }))
      used
      (rw (← tells) (reads_merged limits channel octets told at at.next (alone.message ∷ []) (map frame_of chunks)
      (number_after at.next (pieces lane.room body)) r
      (record { frames = r.frames; run = r.run; follows = r.follows }) merge)))

-- ---- one frame

-- an OPN is let in where a HEL was said
opn_by : (first : Bool) (size : ℕ) (f : Frame) → f.kind ≡ Opn → f.flag ≡ 70 → frame_size f ≤ size → 32 ≤ frame_size f
    → LetsIn (if first then opening_gate size else running_gate size) f
opn_by true size f kind flag fits least = lets_opn (opening_gate size) f refl kind flag fits least
opn_by false size f kind flag fits least = lets_opn (running_gate size) f refl kind flag fits least

-- ---- HEL

module _ (limits : Limits) (channel : ℕ) (client : Limits) (url : Option (List ℕ)) (fits : IsTrue (hello.encodable (hello_to client url)))
    (short : url_length url ≤ 4095) where
  abbrev said : Hello
  said = hello_to client url

  abbrev hel : Frame
  hel = hello_frame (hello_to client url)

  hello_carried : content hel ≡ Greets (Some said)
  hello_carried = content_hel (hello_frame (hello_to client url)) refl
      ∙ ap Greets (whole_encodes hello sound_hello (hello.canonical (hello_to client url)) (hello_to client url)
      (sound_hello.canonical_encodes (hello_to client url) fits))

  hello_size : frame_size hel ≡ 32 + url_length url
  hello_size = omega (arith, hello_length client url)

  hello_good : (b : Received) → first_reason (server_reasons limits channel b (Greets (Some said))) ≡ None
  hello_good b = rw (
    le-ltb 4095 (url_length url) short,
    le-ltb client.receive_buffer_size 8192 client.receives,
    le-ltb client.send_buffer_size 8192 client.sends,
  ) refl

  hello_received : received (hel ∷ []) ≡ record nothing_received { hello = Some said }
  hello_received = received-push [] hel ∙ (rw received-nil (ap (after nothing_received) hello_carried))

  hello_gate_is : (server_rules limits channel).gate [] ≡ hello_gate
  hello_gate_is = ap (server_gate limits) received-nil

  pub reads_hello : ServerReads limits channel (frame_octets (hello_frame (hello_to client url)))
      (event.Agreed (agreement_of limits (hello_to client url)) ∷ []) (record { hello = hello_to client url; issued = 0; used = 1; next = 1 })
  reads_hello =
      reads_at (hello_frame (hello_to client url) ∷ [])
      (run_one (server_rules limits channel) [] [] (hello_frame (hello_to client url))
      (run_nil (server_rules limits channel) (rw received-nil)) (record {
        goes_on = rw received-nil;
        sized = omega (arith, hello_size, short);
        let_in = rw hello_gate_is (record { kind = refl; flag = refl; largest = omega (arith, hello_size, short); least = omega (arith, hello_size) });
        accepted = rw hello_carried (hello_good (received []));
      }) (rw hello_received))
      (events-push (server_rules limits channel) [] (hello_frame (hello_to client url))
      ∙ (rw (no_events (server_rules limits channel)) (ap (server_tells limits (received [])) hello_carried)))
      (rw hello_received) (rw hello_received) (omega arith)
      (rw hello_received)

-- ---- OPN

id_fits : IsTrue (node_id.encodable (standard 446))
unfolding node_id
id_fits = refl

pub request_read : (r : OpenRequest) → IsTrue (open_request.encodable r) → body_of (message 446 open_request) ((message 446 open_request).canonical r) ≡ Some r
request_read r fits =
    (body_of-found (message 446 open_request) (lawful_message 446 lawful_open_request) ((message 446 open_request).canonical r) r).1
    (body_reads_back (message 446 open_request) (lawful_message 446 lawful_open_request) r
    (and_from (node_id.encodable (standard 446)) (open_request.encodable r) id_fits fits)).0

type_later : (count : ℕ) → 0 < count → type_wanted count ≡ 1
type_later count some = rw (ne_eqb count 0 (λ e. omega (arith, e, some)))

module _ (limits : Limits) (channel : ℕ) (octets : List ℕ) (told : List Told) (at : AtServer) (on id : ℕ) (kind : ℤ) (moment : DateTime)
    (r : ServerReads limits channel octets told at)
    (on_small : on < 2 ^ 32) (few : id < 2 ^ 32) (fits : IsTrue (open_request.encodable (open_request_of kind moment 0 token_lifetime))) where
  abbrev request : OpenRequest
  request = open_request_of kind moment 0 token_lifetime

  abbrev behind_headers : List ℕ
  behind_headers = (message 446 open_request).canonical (open_request_of kind moment 0 token_lifetime)

  abbrev opn : Frame
  opn = open_frame on at.next id (open_request_of kind moment 0 token_lifetime)

  abbrev asks : Asked
  asks = record { kind = kind; mode = pos 1; handle = 0; lifetime = 3600000 }

  found : IsAskedIn behind_headers asks
  found = record {
    request = open_request_of kind moment 0 token_lifetime;
    reads = request_read (open_request_of kind moment 0 token_lifetime) fits;
    asks = record { kind = refl; mode = refl; handle = refl; lifetime = refl };
  }

  headers : HasHeaders opn.body on at.next id behind_headers
  headers = record {
    header = none_header on;
    on_is = refl;
    policy = none_is;
    opening_is = opening_carried on at.next id ((message 446 open_request).canonical (open_request_of kind moment 0 token_lifetime)) on_small
        (omega (arith, r.next_small)) few;
  }

  abbrev opened : Opened
  opened = record { sequence = at.next; request = id; handle = 0; lifetime = 3600000 }

  opn_size : frame_size opn ≡ 132
  opn_size = omega (
    arith,
    opening_size on at.next id ((message 446 open_request).canonical (open_request_of kind moment 0 token_lifetime)),
    open_request_length kind moment 0 token_lifetime,
  )

  module _ (left : at.issued < 4294967295) (so : OpensSo channel at.issued opn.body opened) where
    opn_good : first_reason (server_reasons limits channel (received r.frames) (Opens (opening_of opn.body))) ≡ None
    opn_good = so.remain limits (received r.frames) r.issued_is
        ∙ rw (r.follows, ne_eqb (issued (received r.frames)) 4294967295 (λ e. omega (arith, e, r.issued_is, left))) refl

    opn_now : received (r.frames ++ opn ∷ []) ≡ after (received r.frames) (Opens (opening_of opn.body))
    opn_now = received-push r.frames opn ∙ ap (after (received r.frames)) (content_opn opn refl)

    opn_in : LetsIn ((server_rules limits channel).gate r.frames) opn
    opn_in = rw (ap (λ (o : Option Hello). server_gate_behind limits o (issued (received r.frames))) r.hello_is)
        (opn_by (eqb (issued (received r.frames)) 0) (receive_size limits (Some at.hello)) opn refl refl (omega (arith, opn_size, r.large))
        (omega (arith, opn_size)))

    reads_opn : ServerReads limits channel (octets ++ frame_octets opn) (told ++ event.Opened id 0 (at.issued + 1) 3600000 ∷ []) (with_token at)
    reads_opn =
        reads_at (r.frames ++ opn ∷ [])
        (run_one (server_rules limits channel) octets r.frames opn r.run (record {
          goes_on = r.run.ends.0;
          sized = omega (arith, opn_size);
          let_in = opn_in;
          accepted = rw (content_opn opn refl) opn_good;
        }) (rw opn_now r.run.ends.0))
        (events-push (server_rules limits channel) r.frames opn
        ∙ (rw (
          r.told_is,
          ap (server_tells limits (received r.frames)) (content_opn opn refl)
              ∙ so.tells limits (received r.frames) r.issued_is,
        )))
        (rw (opn_now, r.hello_is, length-append (received r.frames).openings (opening_of opn.body ∷ []), r.issued_is, r.used_is) refl)
        (rw opn_now (rw so.numbers_are (follows_next at.next)))
        (next_small at.next r.next_small) (rw opn_now r.none_open)

-- the first OPN, on no channel yet
pub reads_first : (limits : Limits) (channel : ℕ) (octets : List ℕ) (told : List Told) (at : AtServer) (moment : DateTime)
    → ServerReads limits channel octets told at → at.issued ≡ 0 → at.next ≡ 1 → IsTrue (date_time.encodable moment)
    → ServerReads limits channel (octets ++ frame_octets (first_open moment)) (told ++ event.Opened 1 0 1 3600000 ∷ []) (with_token at)
unfolding found headers
reads_first limits channel octets told at moment r none one fits =
    let enc = issue_fits moment 0 3600000 fits (omega arith) (omega arith) in
    let so : OpensSo channel at.issued (opn limits channel octets told at 0 1 (pos 0) moment r (omega arith) (omega arith) enc).body
    (opened limits channel octets told at 0 1 (pos 0) moment r (omega arith) (omega arith) enc) =
    rw none (opens channel 0 0 at.next 1 (opening_body 0 at.next 1 ((message 446 open_request).canonical (open_request_of (pos 0) moment 0 token_lifetime)))
    ((message 446 open_request).canonical (open_request_of (pos 0) moment 0 token_lifetime))
    (headers limits channel octets told at 0 1 (pos 0) moment r (omega arith) (omega arith) enc)
    (asks limits channel octets told at 0 1 (pos 0) moment r (omega arith) (omega arith) enc)
    (found limits channel octets told at 0 1 (pos 0) moment r (omega arith) (omega arith) enc) refl) in
    subst (λ (n : ℕ). ServerReads limits channel (octets ++ frame_octets (open_frame 0 n 1 (open_request_of (pos 0) moment 0 token_lifetime)))
    (told ++ event.Opened 1 0 1 3600000 ∷ []) (with_token at)) one
    (subst (λ (n : ℕ). ServerReads limits channel (octets ++ frame_octets (open_frame 0 at.next 1 (open_request_of (pos 0) moment 0 token_lifetime)))
    (told ++ event.Opened 1 0 (n + 1) 3600000 ∷ []) (with_token at)) none
    (reads_opn limits channel octets told at 0 1 (pos 0) moment r (omega arith) (omega arith) enc (omega (arith, none)) so))

-- an OPN that renews the token
pub reads_renewal : (limits : Limits) (channel : ℕ) (octets : List ℕ) (told : List Told) (at : AtServer) (id : ℕ) (moment : DateTime)
    → ServerReads limits channel octets told at → 0 < at.issued → at.issued < 4294967295 → channel < 2 ^ 32 → id < 2 ^ 32 → IsTrue (date_time.encodable moment)
    → ServerReads limits channel (octets ++ frame_octets (renewal_frame channel at.next id moment)) (told ++ event.Opened id 0 (at.issued + 1) 3600000 ∷ [])
    (with_token at)
unfolding found headers
reads_renewal limits channel octets told at id moment r some left on few fits =
    let enc = renew_fits moment 0 3600000 fits (omega arith) (omega arith) in
    let good : first_reason (asked_reasons (record { kind = pos 1; mode = pos 1; handle = 0; lifetime = 3600000 }) channel channel at.issued) ≡ None =
    rw (type_later at.issued some, eq-eqb channel channel refl, lt-ltb 0 at.issued some) refl in
    let so : OpensSo channel at.issued (opn limits channel octets told at channel id (pos 1) moment r on few enc).body
    (opened limits channel octets told at channel id (pos 1) moment r on few enc) =
    opens channel at.issued channel at.next id
    (opening_body channel at.next id ((message 446 open_request).canonical (open_request_of (pos 1) moment 0 token_lifetime)))
    ((message 446 open_request).canonical (open_request_of (pos 1) moment 0 token_lifetime))
    (headers limits channel octets told at channel id (pos 1) moment r on few enc) (asks limits channel octets told at channel id (pos 1) moment r on few enc)
    (found limits channel octets told at channel id (pos 1) moment r on few enc) good in
    reads_opn limits channel octets told at channel id (pos 1) moment r on few enc left so

-- ---- CLO

module _ (limits : Limits) (channel : ℕ) (octets : List ℕ) (told : List Told) (at : AtServer) (token id : ℕ) (moment : DateTime)
    (r : ServerReads limits channel octets told at) (taken : IsTakenAt at token)
    (on : channel < 2 ^ 32) (few : id < 2 ^ 32) where
  abbrev closing : Chunk
  closing =
      record {
        channel = channel;
        token = token;
        flag = F;
        sequence = at.next;
        request = id;
        body = (message 452 close_request).canonical (close_request_of moment 0);
      }

  closing_is : chunk_in (close_frame channel token at.next id moment) ≡ Some closing
  closing_is =
      let k = frame_of_chunk
      (record {
        channel = channel;
        token = token;
        flag = F;
        sequence = at.next;
        request = id;
        body = (message 452 close_request).canonical (close_request_of moment 0);
      }) on (omega (arith, taken.issued, r.few_issued))
      (omega (arith, r.next_small)) few in
      chunk_found (close_frame channel token at.next id moment)
      (record {
        channel = channel;
        token = token;
        flag = F;
        sequence = at.next;
        request = id;
        body = (message 452 close_request).canonical (close_request_of moment 0);
      })
      (record {
        flag = refl;
        security = k.security;
        sequence = k.sequence;
        octets = k.octets;
        security_encoded = k.security_encoded;
        sequence_encoded = k.sequence_encoded;
      })

  clo_carried : content (close_frame channel token at.next id moment) ≡ Closes closing
  clo_carried = content_clo (close_frame channel token at.next id moment) closing refl closing_is

  clo_size : frame_size (close_frame channel token at.next id moment) ≡ 57
  clo_size = omega (
    arith,
    header_sizes channel token at.next id ((message 452 close_request).canonical (close_request_of moment 0)),
    close_request_length moment 0,
  )

  is_taken_here : is_taken (received r.frames) token ≡ true
  is_taken_here = and_from (leb (last_used (received r.frames)) token) (leb token (issued (received r.frames)))
      (le-leb (last_used (received r.frames)) token (omega (arith, r.used_is, taken.not_before)))
      (le-leb token (issued (received r.frames)) (omega (arith, r.issued_is, taken.issued)))

  clo_good : first_reason (server_reasons limits channel (received r.frames) (Closes closing)) ≡ None
  clo_good = rw (eq-eqb channel channel refl, is_taken_here, r.follows) refl

  clo_now : received (r.frames ++ close_frame channel token at.next id moment ∷ []) ≡ after (received r.frames) (Closes closing)
  clo_now = received-push r.frames (close_frame channel token at.next id moment) ∙ ap (after (received r.frames)) clo_carried

  clo_in : LetsIn ((server_rules limits channel).gate r.frames) (close_frame channel token at.next id moment)
  clo_in = rw (ap (λ (o : Option Hello). server_gate_behind limits o (issued (received r.frames))) r.hello_is
      ∙ greeted_by (receive_size limits (Some at.hello)) (issued (received r.frames))
      (omega (arith, r.issued_is, taken.issued, taken.not_before, r.some_used)))
      (record { kind = refl; flag = refl; largest = omega (arith, clo_size, r.large); least = omega (arith, clo_size) })

  -- the CLO is taken, and is the last frame
  pub reads_close : ServerCloses limits channel (octets ++ frame_octets (close_frame channel token at.next id moment)) (told ++ event.Closed ∷ [])
  reads_close = record {
    frames = r.frames ++ close_frame channel token at.next id moment ∷ [];
    run =
        run_last (server_rules limits channel) octets r.frames (close_frame channel token at.next id moment) r.run (record {
          goes_on = r.run.ends.0;
          sized = omega (arith, clo_size);
          let_in = clo_in;
          accepted = rw clo_carried clo_good;
        }) (rw clo_now);
    told_is = events-push (server_rules limits channel) r.frames (close_frame channel token at.next id moment)
        ∙ (rw (r.told_is, clo_carried));
  }
