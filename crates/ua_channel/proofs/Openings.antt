-- What a server makes of an OPN.
use Rattle.std.proofs.Common.{◌≡◌, ℕ, ◌+◌, Bool, true, false, not, ◌&&◌, eqb, ltb, pos, int_eq, List}
use Rattle.std.proofs.Common.{[], ◌∷◌, ◌++◌, Option, Some, None, Err, refl, sym, ◌∙◌, ap, subst}
use Rattle.ua_wire.proofs.Readers.{some_is}
use Rattle.ua_builtin.specs.Reasons.{first_reason}
use Rattle.ua_builtin.proofs.FirstReasons.{first_among, first_behind}
use Rattle.ua_frame.specs.declared.frame.Frame.{Frame}
use Rattle.ua_frame.specs.declared.limits.Limits.{Limits}
use Rattle.ua_opening.specs.Message.{message, body_of}
use Rattle.ua_opening.specs.SecureChannel.{open_request}
use Rattle.ua_opening.specs.declared.secure_channel.OpenRequest.{OpenRequest}
use Rattle.ua_chunk.specs.declared.open_chunk.OpenChunk.{OpenChunk}
use Rattle.ua_chunk.specs.declared.fault.OpenFault.{OpenFault}
use Rattle.ua_chunk.specs.declared.fault.OpenFault.TheVariants.{Unreadable, Policy, OutOfMemory}
use Rattle.ua_chunk.specs.Layout.{sequence_header}
use Rattle.ua_chunk.specs.Opening.{SecurityHeader, channel_of_header, policy_of, policy_header, is_none_policy, opening_behind}
use Rattle.ua_chunk.specs.Opening.{opening_with, opening_in, sequence_fault, headers_fault, open_refusal}
use Rattle.ua_chunk.specs.Sequence.{may_follow}
use Rattle.ua_channel.specs.declared.end_fault.EndFault.{EndFault}
use Rattle.ua_channel.specs.declared.end_fault.EndFault.TheVariants as end_fault
use Rattle.ua_channel.specs.declared.server_opening.Asked.{Asked}
use Rattle.ua_channel.specs.Content.{Opening, opening_numbered, opening_secured, opening_of}
use Rattle.ua_channel.specs.Content.Content.{Opens}
use Rattle.ua_channel.specs.Received.{Received}
use Rattle.ua_channel.specs.inside.EndFaults.{of_open_fault}
use Rattle.ua_channel.specs.inside.ServerParts.{IsAskedIn, ReadsAsked, asked_reasons, OpensSo, JudgesOpening}
use Rattle.ua_channel.specs.ServerRefusals.{type_wanted, server_reasons}
use Rattle.ua_channel.specs.ServerTold.{Told as told, request_of, issued, server_tells}

-- ---- headers that are refused

-- the code of a fault of the headers
unfoldable pub open_code : OpenFault → ℕ
open_code Unreadable = 0x8007_0000
open_code Policy = 0x8055_0000
open_code OutOfMemory = 0

-- by any reasons that begin so
module _ {X : Type 0} (name : ℕ → X) (why : Opening → Option X) (unread : (body : List ℕ) → why (opening_secured body None) ≡ Some (name 0x8007_0000))
    (other : (header : SecurityHeader) (octets : List ℕ) (found : Option ((ℕ × ℕ) × List ℕ)) → is_none_policy (policy_of header) ≡ false
    → why (opening_numbered header octets found) ≡ Some (name 0x8055_0000))
    (unnumbered : (header : SecurityHeader) (octets : List ℕ) → is_none_policy (policy_of header) ≡ true
    → why (opening_numbered header octets None) ≡ Some (name 0x8007_0000)) where
  refused_header : (header : SecurityHeader) (octets : List ℕ) (found : Option ((ℕ × ℕ) × List ℕ)) (b : Bool) (fault : OpenFault)
      → is_none_policy (policy_of header) ≡ b → sequence_fault b found ≡ Some fault → why (opening_numbered header octets found) ≡ Some (name (open_code fault))
  unfolding open_code
  refused_header header octets found false fault e h = other header octets found e ∙ ap (λ (x : OpenFault). Some (name (open_code x))) (some_is Policy fault h)
  refused_header header octets None true fault e h = unnumbered header octets e ∙ ap (λ (x : OpenFault). Some (name (open_code x))) (some_is Unreadable fault h)
  refused_header header octets (Some found) true fault e h = absurd cc

  refused_found : (body : List ℕ) (found : Option (SecurityHeader × List ℕ)) (fault : OpenFault) → headers_fault found ≡ Some fault
      → why (opening_secured body found) ≡ Some (name (open_code fault))
  unfolding open_code
  refused_found body None fault h = unread body ∙ ap (λ (x : OpenFault). Some (name (open_code x))) (some_is Unreadable fault h)
  refused_found body (Some found) fault h = refused_header found.0 found.1 (sequence_header.decode found.1) (is_none_policy (policy_of found.0)) fault refl h

  -- headers that are refused
  pub refuses_headers : (body : List ℕ) (fault : OpenFault) → open_refusal body ≡ Some fault → why (opening_of body) ≡ Some (name (open_code fault))
  unfolding opening_of
  refuses_headers body fault h = refused_found body (policy_header.decode body) fault h

module _ (limits : Limits) (channel : ℕ) (before : Received) where
  abbrev why_not : Opening → Option ℕ
  why_not o = first_reason (server_reasons limits channel before (Opens o))

  unread_here : (body : List ℕ) → why_not (opening_secured body None) ≡ Some 0x8007_0000
  unread_here body = refl

  refused_policy : (header : SecurityHeader) (octets : List ℕ) (found : Option ((ℕ × ℕ) × List ℕ)) → is_none_policy (policy_of header) ≡ false
      → why_not (opening_numbered header octets found) ≡ Some 0x8055_0000
  refused_policy header octets None other = rw other refl
  refused_policy header octets (Some found) other = rw other refl

  refused_numbers : (header : SecurityHeader) (octets : List ℕ) → is_none_policy (policy_of header) ≡ true
      → why_not (opening_numbered header octets None) ≡ Some 0x8007_0000
  unfolding request_of
  refused_numbers header octets none = rw none refl

  headers_refused : (body : List ℕ) (fault : OpenFault) → open_refusal body ≡ Some fault
      → first_reason (server_reasons limits channel before (Opens (opening_of body))) ≡ Some (open_code fault)
  headers_refused body fault h = refuses_headers (λ (n : ℕ). n) why_not unread_here refused_policy refused_numbers body fault h

judges_fault : (channel count : ℕ) (body : List ℕ) (fault : OpenFault) → open_refusal body ≡ Some fault
    → JudgesOpening channel count body (Err (of_open_fault fault))
unfolding open_code
judges_fault channel count body Unreadable h = λ limits before same. headers_refused limits channel before body Unreadable h
judges_fault channel count body Policy h = λ limits before same. headers_refused limits channel before body Policy h
judges_fault channel count body OutOfMemory h = tt

-- what a fault of the headers comes to
pub judges_headers : (channel count : ℕ) (body : List ℕ) (fault : OpenFault) (e : EndFault) → open_refusal body ≡ Some fault → e ≡ of_open_fault fault
    → JudgesOpening channel count body (Err e)
judges_headers channel count body fault e h is = subst (λ (x : EndFault). JudgesOpening channel count body (Err x)) (sym is)
    (judges_fault channel count body fault h)

-- ---- headers that read

-- the body of an OPN has headers under the policy None, and behind them these octets
pub record HasHeaders (body : List ℕ) (on sequence request : ℕ) (behind : List ℕ) : Type 0 where
  pub header : SecurityHeader
  pub on_is : channel_of_header header ≡ on
  pub policy : is_none_policy (policy_of header) ≡ true
  pub opening_is : opening_of body ≡ record { security = Some header; numbers = Some (sequence, request); body = behind }

abbrev found_chunk : SecurityHeader → (ℕ × ℕ) × List ℕ → OpenChunk
found_chunk header found = record { channel = channel_of_header header; sequence = found.0.0; request = found.0.1; body = found.1 }

abbrev opening_with_chunk : SecurityHeader → OpenChunk → Opening
opening_with_chunk header c = record { security = Some header; numbers = Some (c.sequence, c.request); body = c.body }

headers_behind : (header : SecurityHeader) (octets : List ℕ) (found : Option ((ℕ × ℕ) × List ℕ)) (b : Bool) (c : OpenChunk)
    → is_none_policy (policy_of header) ≡ b → opening_behind b (channel_of_header header) found ≡ Some c
    → (b ≡ true) × (channel_of_header header ≡ c.channel)
    × (opening_numbered header octets found ≡ record { security = Some header; numbers = Some (c.sequence, c.request); body = c.body })
headers_behind header octets found false c e h = absurd cc
headers_behind header octets None true c e h = absurd cc
headers_behind header octets (Some found) true c e h =
    let is : found_chunk header found ≡ c = some_is (found_chunk header found) c h in
    (refl, ap (λ (x : OpenChunk). x.channel) is, ap (opening_with_chunk header) is)

headers_with : (body : List ℕ) (found : Option (SecurityHeader × List ℕ)) (c : OpenChunk) → policy_header.decode body ≡ found → opening_with found ≡ Some c
    → HasHeaders body c.channel c.sequence c.request c.body
unfolding opening_of
headers_with body None c e h = absurd cc
headers_with body (Some found) c e h =
    let b = headers_behind found.0 found.1 (sequence_header.decode found.1) (is_none_policy (policy_of found.0)) c refl h in
    record { header = found.0; on_is = b.1; policy = b.0; opening_is = ap (opening_secured body) e ∙ b.2 }

-- the headers that were read
pub has_headers : (f : Frame) (c : OpenChunk) → opening_in f ≡ Some c → HasHeaders f.body c.channel c.sequence c.request c.body
unfolding opening_in
has_headers f c h = headers_with f.body (policy_header.decode f.body) c refl h

-- ---- what is behind them

-- why a request is refused whose OPN names this channel, where so many tokens were issued
abbrev request_rows : OpenRequest → ℕ → ℕ → ℕ → List (ℕ × Bool)
request_rows r on channel count =
    (0x8053_0000, not (int_eq r.request_type (pos (type_wanted count)))) ∷ (0x8054_0000, not (int_eq r.security_mode (pos 1)))
    ∷ (0x807F_0000, ltb 0 count && not (eqb on channel)) ∷ []

module _ (channel count on sequence request : ℕ) (body behind : List ℕ) (h : HasHeaders body on sequence request behind) where
  -- a body that is no request
  pub refuses_body : (limits : Limits) (before : Received) → body_of (message 446 open_request) behind ≡ None
      → first_reason (server_reasons limits channel before (Opens (opening_of body))) ≡ Some 0x8007_0000
  unfolding request_of
  refuses_body limits before none = rw (h.opening_is, h.policy, none) refl

  -- what a fault of the body comes to
  pub judges_body : (e : EndFault) → ReadsAsked behind (Err e) → JudgesOpening channel count body (Err e)
  judges_body (end_fault.Refused code) r = λ limits before same. refuses_body limits before r.1 ∙ ap (λ (n : ℕ). Some n) (sym r.0)
  judges_body (end_fault.Peer code) r = r
  judges_body end_fault.OutOfMemory r = tt
  judges_body end_fault.Closed r = r

  asked : (limits : Limits) (before : Received) (r : OpenRequest) → issued before ≡ count → body_of (message 446 open_request) behind ≡ Some r
      → first_reason (server_reasons limits channel before (Opens (opening_of body)))
      ≡ first_reason
      (request_rows r on channel count ++ ((0x8088_0000, not (may_follow before.last sequence)) ∷ (0x8081_0000, eqb (issued before) 4294967295) ∷ []))
  unfolding request_of
  asked limits before r is some = rw (h.opening_is, h.policy, some, h.on_is, is) refl

  module _ (asks : Asked) (found : IsAskedIn behind asks) where
    reasons_as : asked_reasons asks on channel count ≡ request_rows found.request on channel count
    reasons_as = rw (found.asks.kind, found.asks.mode) refl

    -- a request that is refused
    pub refuses_asked : (limits : Limits) (before : Received) (code : ℕ) → issued before ≡ count → first_reason (asked_reasons asks on channel count)
        ≡ Some code → first_reason (server_reasons limits channel before (Opens (opening_of body))) ≡ Some code
    refuses_asked limits before code is e =
        asked limits before found.request is found.reads
        ∙ first_among (request_rows found.request on channel count)
        ((0x8088_0000, not (may_follow before.last sequence)) ∷ (0x8081_0000, eqb (issued before) 4294967295) ∷ []) code (ap first_reason (sym reasons_as)
        ∙ e)

    -- a request that is not
    pub remains : (limits : Limits) (before : Received) → issued before ≡ count → first_reason (asked_reasons asks on channel count) ≡ None
        → first_reason (server_reasons limits channel before (Opens (opening_of body)))
        ≡ first_reason ((0x8088_0000, not (may_follow before.last sequence)) ∷ (0x8081_0000, eqb (issued before) 4294967295) ∷ [])
    remains limits before is e =
        asked limits before found.request is found.reads
        ∙ first_behind (request_rows found.request on channel count)
        ((0x8088_0000, not (may_follow before.last sequence)) ∷ (0x8081_0000, eqb (issued before) 4294967295) ∷ []) (ap first_reason (sym reasons_as) ∙ e)

    tells_it : (limits : Limits) (before : Received) → issued before ≡ count → server_tells limits before (Opens (opening_of body))
        ≡ told.Opened request asks.handle (count + 1) asks.lifetime ∷ []
    unfolding request_of
    tells_it limits before is = rw (h.opening_is, found.reads, is, found.asks.handle, found.asks.lifetime) refl

    pub opens : first_reason (asked_reasons asks on channel count) ≡ None
        → OpensSo channel count body (record { sequence = sequence; request = request; handle = asks.handle; lifetime = asks.lifetime })
    opens e = record {
      numbers_are = ap (λ (o : Opening). o.numbers) h.opening_is;
      tells = tells_it;
      remain = λ limits before is. remains limits before is e;
    }
