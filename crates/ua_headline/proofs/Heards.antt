-- That a client is told something at the last octet of what a server answers, and of which calls it is told.
use Rattle.std.proofs.Common.{◌≡◌, ℕ, ◌<◌, ◌^◌, false, IsTrue, List, [], ◌∷◌, ◌++◌, Option, Some, None}
use Rattle.std.proofs.Common.{length, refl, sym, subst, arith, append-nil, append_assoc, length-append}
use Rattle.std.specs.List.{AllByRecursion}
use Rattle.ua_wire.specs.Counted.{counted, text}
use Rattle.ua_wire.specs.Number.{number_octets}
use Rattle.ua_wire.proofs.NumbersRead.{length-number_octets}
use Rattle.ua_builtin.specs.Status.{of_code, status_code}
use Rattle.ua_builtin.specs.declared.date_time.DateTime.{DateTime}
use Rattle.ua_builtin.specs.declared.status_code.StatusCode.{StatusCode}
use Rattle.ua_frame.specs.Agreement.{ack_to}
use Rattle.ua_frame.specs.Frames.{IsSized, frame_octets}
use Rattle.ua_frame.specs.Messages.{ack, ack_frame}
use Rattle.ua_frame.specs.Run.{Rules}
use Rattle.ua_frame.specs.declared.frame.Frame.{Frame}
use Rattle.ua_frame.specs.declared.limits.Limits.{Limits}
use Rattle.ua_opening.specs.Message.{message}
use Rattle.ua_opening.specs.Plain.{open_response_of}
use Rattle.ua_opening.specs.SecureChannel.{open_response}
use Rattle.ua_opening.proofs.Lengths.{open_response_length}
use Rattle.ua_chunk.specs.Abort.{abort_body}
use Rattle.ua_chunk.specs.Cutting.{abort_chunk, chunks_octets, chunks_of, cut_refusal, numbered}
use Rattle.ua_chunk.specs.Layout.{frame_of}
use Rattle.ua_chunk.specs.Sequence.{next_number}
use Rattle.ua_chunk.specs.declared.chunk.Chunk.{Chunk}
use Rattle.ua_chunk.specs.declared.fault.CutFault.{CutFault}
use Rattle.ua_chunk.specs.declared.flag.Flag.TheVariants.{F}
use Rattle.ua_chunk.specs.declared.lane.Lane.{Lane}
use Rattle.ua_chunk.proofs.Fresh.{some_pieces}
use Rattle.ua_channel.specs.Asks.{Placed, is_in}
use Rattle.ua_channel.specs.ClientSends.{hello_to}
use Rattle.ua_channel.specs.ClientTable.{client_rules}
use Rattle.ua_channel.specs.ClientTold.{ClientTold, ClientTold as heard, Why, client_tells, told_item}
use Rattle.ua_channel.specs.Content.{Content, content}
use Rattle.ua_channel.specs.Content.Content.{Sends}
use Rattle.ua_channel.specs.Received.{received}
use Rattle.ua_channel.specs.ServerSends.{opened_frame, replied, replied_by}
use Rattle.ua_channel.proofs.ChunkFrames.{chunk_size}
use Rattle.ua_channel.proofs.OpeningFrames.{opening_size}
use Rattle.ua_channel_laws.specs.Answers.Answer.{ReplyTo, TokenFor}
use Rattle.ua_channel_laws.specs.Answers.{Answer, AreAnswersTo, answers_octets}
use Rattle.ua_channel_laws.specs.ClientReads.{AtClient, ClientReads, IsAnswered, IsLaneBack, told_reply, with_answer, with_reply}
use Rattle.ua_channel_laws.proofs.ClientReadsMessages.{reads_ack, reads_opened, reads_renewed, reads_replied}
use Rattle.ua_channel_laws.proofs.Written.{IsNumbered, IsOf, chunks_are}
use Rattle.ua_headline.proofs.Tells.{TellsLast, chunks_tell, frame_tells, given_some, numbered_last}
use Rattle.ua_channel_laws.proofs.Sized.{all_last, sized_chunks}
use Rattle.ua_channel_laws.proofs.Groups.{lane_replied, lane_answered}

abort_length : (code : StatusCode) → length (abort_body.canonical (code, None)) ≡ 8
unfolding abort_body status_code text counted
abort_length code = omega (
  arith,
  length-append (number_octets 4 code.code) (number_octets 4 0xFFFF_FFFF),
  length-number_octets 4 code.code,
  length-number_octets 4 0xFFFF_FFFF,
)

module _ (limits : Limits) (asks : List Placed) where
  abbrev R : Rules ClientTold Why
  R = client_rules limits asks

  whole_tells : (before : List Frame) (f : Frame) (k : Chunk) → content f ≡ Sends k → k.flag ≡ F → 0 < length (client_tells (received before) (content f))
  whole_tells before f k e flag = subst (λ (t : Content). 0 < length (client_tells (received before) t)) (sym e)
      (given_some told_item k.flag (received before).messages k flag)

  module _ (octets : List ℕ) (told : List ClientTold) (c : AtClient) (r : ClientReads limits asks octets told c) where
    -- ---- a reply

    module _ (lane : Lane) (id : ℕ) (back : IsLaneBack limits c lane) (waits : IsTrue (is_in id c.pending)) (few : id < 2 ^ 32) (body : List ℕ)
        (some : 0 < length body) where
      numbered_of : (k : Chunk) → IsOf lane id k → IsNumbered k
      numbered_of k is = record {
        channel = omega (arith, is.channel, back.on_small);
        token = omega (arith, is.token, back.token_small);
        sequence = omega (arith, is.sequence);
        request = omega (arith, is.request, few);
      }

      cut_tells : TellsLast R (octets ++ chunks_octets (chunks_of lane body c.next id))
      cut_tells =
          let ps = some_pieces lane.room body some in
          let l = numbered_last lane c.next id ps.first ps.others in
          let are : AllByRecursion (IsOf lane id) (numbered lane c.next id (ps.first ∷ ps.others)) =
          subst (λ (t : List (List ℕ)). AllByRecursion (IsOf lane id) (numbered lane c.next id t)) ps.are
          (chunks_are lane body c.next id r.next_small back.some some) in
          subst (λ (t : List (List ℕ)). TellsLast R (octets ++ chunks_octets (numbered lane c.next id t))) (sym ps.are)
          (chunks_tell R whole_tells octets r.frames r.run (numbered lane c.next id (ps.first ∷ ps.others)) l
          (numbered_of l.last (all_last (IsOf lane id) l.front l.last (subst (AllByRecursion (IsOf lane id)) l.parts are)))
          (sized_chunks lane id c.ack.send_buffer_size (numbered lane c.next id (ps.first ∷ ps.others)) back.fits r.sized are))

      abbrev aborts : Chunk
      aborts = abort_chunk lane c.next id (of_code 0x80B9_0000)

      tells_by : (o : Option CutFault) → cut_refusal lane body ≡ o → TellsLast R (octets ++ (replied_by o lane body c.next id).0)
      tells_by None e = cut_tells
      tells_by (Some fault) e =
          let q =
          subst (λ (o : Option CutFault). ClientReads limits asks (octets ++ (replied_by o lane body c.next id).0) (told ++ told_reply o id body ∷ [])
          (with_reply c lane.token id (replied_by o lane body c.next id).1)) e
          (reads_replied limits asks octets told c lane id r back waits few body some) in
          frame_tells R octets r.frames q.frames told (told_reply (Some fault) id body) (frame_of aborts)
          (omega (arith, chunk_size aborts, abort_length (of_code 0x80B9_0000))) r.run r.told_is q.run q.told_is

      pub reply_tells : TellsLast R (octets ++ (replied lane body c.next id).0)
      reply_tells = tells_by (cut_refusal lane body) refl

    -- ---- the answer to a renewal

    pub token_tells : (id handle token lifetime : ℕ) (moment : DateTime) → IsAnswered c.channel c.next id handle token lifetime moment → c.renewals ≡ id ∷ []
        → is_in token c.tokens ≡ false
        → TellsLast R (octets ++ frame_octets (opened_frame c.channel c.next id handle token lifetime moment))
    token_tells id handle token lifetime moment is one fresh =
        let q = reads_renewed limits asks octets told c id handle token lifetime moment r is one fresh in
        frame_tells R octets r.frames q.frames told (heard.Renewed token) (opened_frame c.channel c.next id handle token lifetime moment) sized r.run r.told_is
        q.run q.told_is
      where
        sized : IsSized (opened_frame c.channel c.next id handle token lifetime moment)
        sized = omega (
          arith,
          opening_size c.channel c.next id ((message 449 open_response).canonical (open_response_of moment handle c.channel token lifetime)),
          open_response_length moment handle c.channel token lifetime,
        )

  -- ---- all answers

  joined : (octets : List ℕ) (lane : Lane) (n : ℕ) (answers : List Answer) → TellsLast R octets
      → (0 < length answers → TellsLast R (octets ++ answers_octets lane n answers)) → TellsLast R (octets ++ answers_octets lane n answers)
  joined octets lane n [] one later = subst (TellsLast R) (sym (append-nil octets)) one
  joined octets lane n (a ∷ answers) one later = later (omega arith)

  pub answers_tell : (lane : Lane) (octets : List ℕ) (told : List ClientTold) (c : AtClient) (answers : List Answer) → ClientReads limits asks octets told c
      → IsLaneBack limits c lane → AreAnswersTo lane c answers → 0 < length answers
      → TellsLast (client_rules limits asks) (octets ++ answers_octets lane c.next answers)
  answers_tell lane octets told c [] r back may some = absurd (omega (arith, some))
  answers_tell lane octets told c (ReplyTo id body ∷ answers) r back may some =
      let out : List ℕ × ℕ = replied lane body c.next id in
      let now : AtClient = with_reply c lane.token id out.1 in
      let read = reads_replied limits asks octets told c lane id r back may.0.0 may.0.1 body may.0.2 in
      let one = reply_tells octets told c r lane id back may.0.0 may.0.1 body may.0.2 in
      subst (TellsLast R) (append_assoc octets out.0 (answers_octets lane now.next answers))
      (joined (octets ++ out.0) lane now.next answers one
      (answers_tell lane (octets ++ out.0) (told ++ told_reply (cut_refusal lane body) id body ∷ []) now answers read
      (lane_replied limits c lane id out.1 back) may.1))
  answers_tell lane octets told c (TokenFor id handle token lifetime moment ∷ answers) r back may some =
      let opn : List ℕ = frame_octets (opened_frame lane.channel c.next id handle token lifetime moment) in
      let now : AtClient = with_answer c token (next_number c.next) in
      let is : IsAnswered c.channel c.next id handle token lifetime moment =
      record {
        channel_small = omega (arith, back.on, back.on_small);
        number_small = r.next_small;
        id_small = may.0.2.id_small;
        handle_small = may.0.2.handle_small;
        token_small = may.0.2.token_small;
        lifetime_small = may.0.2.lifetime_small;
        moment_fits = may.0.2.moment_fits;
      } in
      let read =
      subst (λ (k : ℕ). ClientReads limits asks (octets ++ frame_octets (opened_frame k c.next id handle token lifetime moment))
      (told ++ heard.Renewed token ∷ []) now) (sym back.on)
      (reads_renewed limits asks octets told c id handle token lifetime moment r is may.0.0 may.0.1) in
      let one =
      subst (λ (k : ℕ). TellsLast R (octets ++ frame_octets (opened_frame k c.next id handle token lifetime moment))) (sym back.on)
      (token_tells octets told c r id handle token lifetime moment is may.0.0 may.0.1) in
      subst (TellsLast R) (append_assoc octets opn (answers_octets lane now.next answers))
      (joined (octets ++ opn) lane now.next answers one
      (answers_tell lane (octets ++ opn) (told ++ heard.Renewed token ∷ []) now answers read (lane_answered limits c lane token (next_number c.next) back)
      may.1))

-- ---- the opening

pub opened_tells : (limits server : Limits) (url : Option (List ℕ)) (channel lifetime : ℕ) (moment : DateTime)
    → IsTrue (ack.encodable (ack_to (hello_to limits url) server)) → IsAnswered channel 1 1 0 1 lifetime moment
    → TellsLast (client_rules limits [])
    (frame_octets (ack_frame (ack_to (hello_to limits url) server)) ++ frame_octets (opened_frame channel 1 1 0 1 lifetime moment))
opened_tells limits server url channel lifetime moment fits opens =
    let a = ack_to (hello_to limits url) server in
    let agrees = reads_ack limits server url fits in
    let q = reads_opened limits (frame_octets (ack_frame a)) (heard.Agreed a ∷ []) a channel 1 0 1 lifetime moment agrees opens in
    frame_tells (client_rules limits []) (frame_octets (ack_frame a)) agrees.frames q.frames (heard.Agreed a ∷ []) (heard.Opened channel 1)
    (opened_frame channel 1 1 0 1 lifetime moment) sized agrees.run agrees.told_is q.run q.told_is
  where
    sized : IsSized (opened_frame channel 1 1 0 1 lifetime moment)
    sized = omega (
      arith,
      opening_size channel 1 1 ((message 449 open_response).canonical (open_response_of moment 0 channel 1 lifetime)),
      open_response_length moment 0 channel 1 lifetime,
    )
