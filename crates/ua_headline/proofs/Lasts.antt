-- That a server is told something at the last octet of what a client sends, so that it is not told of a request before all its octets came.
use Rattle.std.proofs.Common.{◌≡◌, ℕ, pos, ◌+◌, ◌<◌, ◌≤◌, ◌^◌, IsTrue, List, [], ◌∷◌, ◌++◌, Option}
use Rattle.std.proofs.Common.{Some, length, refl, sym, subst, arith, append-nil, append_assoc}
use Rattle.std.specs.List.{AllByRecursion}
use Rattle.ua_builtin.specs.DateTime.{date_time}
use Rattle.ua_builtin.specs.declared.date_time.DateTime.{DateTime}
use Rattle.ua_frame.specs.Agreement.{url_length}
use Rattle.ua_frame.specs.Frames.{IsSized, frame_octets}
use Rattle.ua_frame.specs.Messages.{hello}
use Rattle.ua_frame.specs.Run.{Rules}
use Rattle.ua_frame.specs.declared.frame.Frame.{Frame}
use Rattle.ua_frame.specs.declared.limits.Limits.{Limits}
use Rattle.ua_opening.specs.Message.{message}
use Rattle.ua_opening.specs.Plain.{open_request_of}
use Rattle.ua_opening.specs.SecureChannel.{open_request}
use Rattle.ua_opening.proofs.Lengths.{open_request_length}
use Rattle.ua_chunk.specs.Cutting.{chunks_octets, chunks_of, numbered}
use Rattle.ua_chunk.specs.declared.chunk.Chunk.{Chunk}
use Rattle.ua_chunk.specs.declared.flag.Flag.TheVariants.{F}
use Rattle.ua_chunk.specs.declared.lane.Lane.{Lane}
use Rattle.ua_chunk.proofs.Fresh.{some_pieces}
use Rattle.ua_channel.specs.Agreement.{agreement_of}
use Rattle.ua_channel.specs.ClientSends.{first_open, hello_frame, hello_to, renewal_frame, token_lifetime}
use Rattle.ua_channel.specs.Content.{Content, content}
use Rattle.ua_channel.specs.Content.Content.{Sends}
use Rattle.ua_channel.specs.Received.{latest, received}
use Rattle.ua_channel.specs.ServerRules.{receive_size, server_rules}
use Rattle.ua_channel.specs.ServerTold.{Told, Agreed, Asked, Opened, server_tells, told_under}
use Rattle.ua_channel.proofs.OpeningFrames.{opening_size}
use Rattle.ua_channel_laws.specs.ClientReads.{AtClient, lane_from, with_call, with_renewal}
use Rattle.ua_channel_laws.specs.InStep.{AreInStep}
use Rattle.ua_channel_laws.specs.Outgoing.Outgoing.{CallWith, RenewalAt}
use Rattle.ua_channel_laws.specs.Outgoing.{Outgoing, issued_behind, outgoing_octets}
use Rattle.ua_channel_laws.specs.ServerReads.{AtServer, IsBodyFor, IsLaneTo, ServerReads, greeted_at, with_message, with_token}
use Rattle.ua_channel_laws.proofs.Groups.{AreSendable, no_fewer}
use Rattle.ua_channel_laws.proofs.InStep.{body_for, in_step_call, in_step_renewal, lane_to}
use Rattle.ua_channel_laws.proofs.ServerReadsMessages.{reads_first, reads_hello, reads_message, reads_renewal}
use Rattle.ua_channel_laws.proofs.Written.{IsNumbered, IsOf, chunks_are}
use Rattle.ua_headline.proofs.Tells.{TellsLast, chunks_tell, frame_tells, given_some, numbered_last}
use Rattle.ua_channel_laws.proofs.Sized.{all_last, sized_chunks}

-- ---- a call

module _ (limits : Limits) (channel : ℕ) (octets : List ℕ) (told : List Told) (at : AtServer) (r : ServerReads limits channel octets told at)
    (on : channel < 2 ^ 32) (id : ℕ) (few : id < 2 ^ 32) where
  abbrev R : Rules Told ℕ
  R = server_rules limits channel

  whole_tells : (before : List Frame) (f : Frame) (c : Chunk) → content f ≡ Sends c → c.flag ≡ F
      → 0 < length (server_tells limits (received before) (content f))
  whole_tells before f c e flag = subst (λ (k : Content). 0 < length (server_tells limits (received before) k)) (sym e)
      (given_some (told_under c.token) c.flag (received before).messages c flag)

  module _ (lane : Lane) (to : IsLaneTo limits channel at lane) where
    numbered_of : (c : Chunk) → IsOf lane id c → IsNumbered c
    numbered_of c is = record {
      channel = omega (arith, is.channel, to.on, on);
      token = omega (arith, is.token, to.taken.issued, r.few_issued);
      sequence = omega (arith, is.sequence);
      request = omega (arith, is.request, few);
    }

    call_tells : (body : List ℕ) → IsBodyFor limits lane.room body → TellsLast R (octets ++ chunks_octets (chunks_of lane body at.next id))
    call_tells body w =
        let ps = some_pieces lane.room body w.some in
        let l = numbered_last lane at.next id ps.first ps.others in
        let are : AllByRecursion (IsOf lane id) (numbered lane at.next id (ps.first ∷ ps.others)) =
        subst (λ (t : List (List ℕ)). AllByRecursion (IsOf lane id) (numbered lane at.next id t)) ps.are
        (chunks_are lane body at.next id r.next_small to.some w.some) in
        subst (λ (t : List (List ℕ)). TellsLast R (octets ++ chunks_octets (numbered lane at.next id t))) (sym ps.are)
        (chunks_tell R whole_tells octets r.frames r.run (numbered lane at.next id (ps.first ∷ ps.others)) l
        (numbered_of l.last (all_last (IsOf lane id) l.front l.last (subst (AllByRecursion (IsOf lane id)) l.parts are)))
        (sized_chunks lane id (receive_size limits (Some at.hello)) (numbered lane at.next id (ps.first ∷ ps.others)) to.fits r.sized are))

  -- ---- a renewal

  renewal_tells : (moment : DateTime) → 0 < at.issued → at.issued < 4294967295 → IsTrue (date_time.encodable moment)
      → TellsLast R (octets ++ frame_octets (renewal_frame channel at.next id moment))
  renewal_tells moment some left fits =
      let q = reads_renewal limits channel octets told at id moment r some left on few fits in
      frame_tells R octets r.frames q.frames told (Opened id 0 (at.issued + 1) 3600000) (renewal_frame channel at.next id moment) sized r.run r.told_is q.run
      q.told_is
    where
      sized : IsSized (renewal_frame channel at.next id moment)
      sized = omega (
        arith,
        opening_size channel at.next id ((message 446 open_request).canonical (open_request_of (pos 1) moment 0 token_lifetime)),
        open_request_length (pos 1) moment 0 token_lifetime,
      )

-- ---- all that is sent in a turn

module _ (server client : Limits) (url : Option (List ℕ)) (channel : ℕ) (on : channel < 2 ^ 32) where
  abbrev S : Rules Told ℕ
  S = server_rules server channel

  pub turn_tells : (octets : List ℕ) (told : List Told) (s : AtServer) (c : AtClient) (id : ℕ) (os : List Outgoing) → ServerReads server channel octets told s
      → AreInStep server client url channel s c → latest c.tokens ≡ Some c.newest
      → AreSendable c.ack id os → issued_behind s.issued os < 2 ^ 32 → TellsLast (server_rules server channel) octets
      → TellsLast (server_rules server channel) (octets ++ outgoing_octets (Some (lane_from c)) s.next id os)
  turn_tells octets told s c id [] r t newest can few last = subst (TellsLast S) (sym (append-nil octets)) last
  turn_tells octets told s c id (CallWith body ∷ os) r t newest can few last =
      let lane : Lane = lane_from c in
      let chunks : List ℕ = chunks_octets (chunks_of lane body s.next id) in
      let to = lane_to server client url channel s c t in
      let w = body_for server client url channel s c t body can.1.0 can.1.1 in
      subst (TellsLast S) (append_assoc octets chunks (outgoing_octets (Some lane) (with_message s lane body).next (id + 1) os))
      (turn_tells (octets ++ chunks) (told ++ Asked id lane.token body ∷ []) (with_message s lane body) (with_call c id) (id + 1) os
      (reads_message server channel octets told s lane body id on (omega (arith, can.0)) r to w) (in_step_call server client url channel s c t body id newest)
      newest can.2 few
      (call_tells server channel octets told s r on id (omega (arith, can.0)) lane to body w))
  turn_tells octets told s c id (RenewalAt moment ∷ os) r t newest can few last =
      let more : s.issued + 1 ≤ issued_behind (s.issued + 1) os = no_fewer (s.issued + 1) os in
      let some : 0 < s.issued = omega (arith, r.some_used, t.taken.not_before, t.taken.issued) in
      let left : s.issued < 4294967295 = omega (arith, few, more) in
      let opn : List ℕ = frame_octets (renewal_frame c.channel s.next id moment) in
      let read =
      subst (λ (k : ℕ). ServerReads server channel (octets ++ frame_octets (renewal_frame k s.next id moment)) (told ++ Opened id 0 (s.issued + 1) 3600000 ∷ [])
      (with_token s)) (sym t.channel_is)
      (reads_renewal server channel octets told s id moment r some left on (omega (arith, can.0)) can.1) in
      let tells =
      subst (λ (k : ℕ). TellsLast S (octets ++ frame_octets (renewal_frame k s.next id moment))) (sym t.channel_is)
      (renewal_tells server channel octets told s r on id (omega (arith, can.0)) moment some left can.1) in
      subst (TellsLast S) (append_assoc octets opn (outgoing_octets (Some (lane_from c)) (with_token s).next (id + 1) os))
      (turn_tells (octets ++ opn) (told ++ Opened id 0 (s.issued + 1) 3600000 ∷ []) (with_token s) (with_renewal c id) (id + 1) os read
      (in_step_renewal server client url channel s c t id) newest can.2 few tells)

-- ---- the opening

pub opening_tells : (limits : Limits) (channel : ℕ) (client : Limits) (url : Option (List ℕ)) (moment : DateTime)
    → IsTrue (hello.encodable (hello_to client url)) → url_length url ≤ 4095 → IsTrue (date_time.encodable moment)
    → TellsLast (server_rules limits channel) (frame_octets (hello_frame (hello_to client url)) ++ frame_octets (first_open moment))
opening_tells limits channel client url moment fits short dated =
    let greeted = reads_hello limits channel client url fits short in
    let opened = reads_first limits channel (frame_octets (hello_frame (hello_to client url))) (Agreed (agreement_of limits (hello_to client url)) ∷ [])
    (greeted_at (hello_to client url)) moment greeted refl refl dated in
    frame_tells (server_rules limits channel) (frame_octets (hello_frame (hello_to client url))) greeted.frames opened.frames
    (Agreed (agreement_of limits (hello_to client url)) ∷ []) (Opened 1 0 1 3600000) (first_open moment) sized greeted.run greeted.told_is opened.run
    opened.told_is
  where
    sized : IsSized (first_open moment)
    sized = omega (
      arith,
      opening_size 0 1 1 ((message 446 open_request).canonical (open_request_of (pos 0) moment 0 token_lifetime)),
      open_request_length (pos 0) moment 0 token_lifetime,
    )
