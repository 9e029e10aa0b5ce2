-- How OPN frames carry chunks under the security policy None (OPC 10000-6, 6.7.2): the eight bytes
-- of the frame's header are followed by the SecureChannelId, the URI of the policy, a certificate
-- and a thumbprint, the SequenceNumber and the RequestId, and the body of the chunk.
use Rattle.std.specs.Prelude.{◌≡◌, ◌≤◌, ℕ, length, drop, Bool, true, false, List, ◌++◌, Option, Some, None, codes}
use Rattle.std.specs.Str.{bytes_eq}
use Rattle.ua_wire.specs.Counted.{counted}
use Rattle.ua_wire.specs.Format.{Flat}
use Rattle.ua_wire.specs.Join.{number, both}
use Rattle.ua_frame.specs.declared.frame.Frame.{Frame}
use Rattle.ua_chunk.specs.declared.open_chunk.OpenChunk.{OpenChunk}
use Rattle.ua_chunk.specs.declared.fault.OpenFault.{OpenFault}
use Rattle.ua_chunk.specs.declared.fault.OpenFault.TheVariants.{Unreadable, Policy}
use Rattle.ua_chunk.specs.Layout.{sequence_header}

-- the SecureChannelId; the URI of the policy, the sender's certificate and the receiver's
-- thumbprint, each bytes or null (OPC 10000-6, 6.7.2.3: asymmetric algorithm security header)
abbrev pub SecurityHeader : Type 0
SecurityHeader = ℕ × (Option (List ℕ) × (Option (List ℕ) × Option (List ℕ)))

-- the SecureChannelId
abbrev pub channel_of_header : SecurityHeader → ℕ
channel_of_header header = header.0

-- the URI of the policy
abbrev pub policy_of : SecurityHeader → Option (List ℕ)
policy_of header = header.1.0

-- these one after the other: a UInt32, and three ByteStrings
abbrev pub policy_header : Flat SecurityHeader
policy_header = both (number 4) (both counted (both counted counted))

-- the URI of the security policy None
abbrev pub none_policy : List ℕ
none_policy = codes "http://opcfoundation.org/UA/SecurityPolicy#None"

-- the policy is None
abbrev pub is_none_policy : Option (List ℕ) → Bool
is_none_policy None = false
is_none_policy (Some policy) = bytes_eq policy none_policy

-- the frame carries this chunk: a security header with the policy None, whatever the certificate
-- and the thumbprint, the sequence header, and the body after them
pub record IsOpenChunkOf (f : Frame) (c : OpenChunk) : Type 0 where
  pub certificate : Option (List ℕ)
  pub thumbprint : Option (List ℕ)
  pub security : List ℕ
  pub sequence : List ℕ
  pub octets : f.body ≡ security ++ (sequence ++ c.body)
  pub security_encoded : policy_header.encodes (c.channel, (Some none_policy, (certificate, thumbprint))) security
  pub sequence_encoded : sequence_header.encodes (c.sequence, c.request) sequence

-- the chunk of this channel after a security header, by whether its policy is None and by what
-- follows it
abbrev pub opening_behind : Bool → ℕ → Option ((ℕ × ℕ) × List ℕ) → Option OpenChunk
opening_behind false channel found = None
opening_behind true channel None = None
opening_behind true channel (Some found) = Some (record { channel = channel; sequence = found.0.0; request = found.0.1; body = found.1 })

-- the chunk after a security header, if bytes begin with one
abbrev pub opening_with : Option (SecurityHeader × List ℕ) → Option OpenChunk
opening_with None = None
opening_with (Some found) = opening_behind (is_none_policy (policy_of found.0)) (channel_of_header found.0) (sequence_header.decode found.1)

-- the chunk that an OPN frame carries: none where its policy is another one, or where its headers
-- cannot be decoded
unfoldable pub opening_in : Frame → Option OpenChunk
opening_in f = opening_with (policy_header.decode f.body)

-- what is wrong after a security header, by whether its policy is None and by what follows it
abbrev pub sequence_fault : Bool → Option ((ℕ × ℕ) × List ℕ) → Option OpenFault
sequence_fault false found = Some Policy
sequence_fault true None = Some Unreadable
sequence_fault true (Some found) = None

-- what is wrong with the headers: the security header cannot be decoded, else what is wrong after
-- it
abbrev pub headers_fault : Option (SecurityHeader × List ℕ) → Option OpenFault
headers_fault None = Some Unreadable
headers_fault (Some found) = sequence_fault (is_none_policy (policy_of found.0)) (sequence_header.decode found.1)

-- why an OPN frame with this body is rejected: its security header cannot be decoded, else it names
-- another policy, else its sequence header cannot be decoded
abbrev pub open_refusal : List ℕ → Option OpenFault
open_refusal octets = headers_fault (policy_header.decode octets)

-- the bytes begin with headers of the policy None, count of them, which contain these numbers
pub record HeadersAt (octets : List ℕ) (channel sequence request count : ℕ) : Type 0 where
  pub certificate : Option (List ℕ)
  pub thumbprint : Option (List ℕ)
  pub security : List ℕ
  pub numbers : List ℕ
  pub within : count ≤ length octets
  pub parts : octets ≡ security ++ (numbers ++ drop count octets)
  pub security_encoded : policy_header.encodes (channel, (Some none_policy, (certificate, thumbprint))) security
  pub sequence_encoded : sequence_header.encodes (sequence, request) numbers
  pub good : open_refusal octets ≡ None
