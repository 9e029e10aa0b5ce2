-- The chunk that a frame carries, as a function of the frame.
use Rattle.std.proofs.Common.{◌≡◌, ℕ, Bool, true, false, Option, Some, None, is_some, List, ◌++◌, refl, ◌∙◌, ap}
use Rattle.std.proofs.lemmas.Slice.Eq.{bytes_eq-Decides}
use Rattle.std.specs.Option.{is_none}
use Rattle.ua_frame.specs.declared.frame.Frame.{Frame}
use Rattle.ua_chunk.specs.declared.chunk.Chunk.{Chunk}
use Rattle.ua_chunk.specs.declared.flag.Flag.{Flag}
use Rattle.ua_chunk.specs.declared.flag.Flag.TheVariants.{F, C, A}
use Rattle.ua_chunk.specs.declared.fault.OpenFault.{OpenFault}
use Rattle.ua_chunk.specs.declared.open_chunk.OpenChunk.{OpenChunk}
use Rattle.ua_chunk.specs.Flag.{flag_octet, flag_in}
use Rattle.ua_chunk.specs.Layout.{IsChunkOf, token_header, sequence_header, chunk_behind, chunk_with, chunk_in}
use Rattle.ua_chunk.specs.Opening.{IsOpenChunkOf, SecurityHeader, policy_header, none_policy, is_none_policy}
use Rattle.ua_chunk.specs.Opening.{opening_behind, opening_with, opening_in, sequence_fault, headers_fault, open_refusal}
use Rattle.ua_chunk.proofs.HeadersLawful.{sound_token_header, sound_sequence_header, sound_policy_header}

-- ---- flags

flag_in_octet : (f : Flag) → flag_in (flag_octet f) ≡ Some f
flag_in_octet F = refl
flag_in_octet C = refl
flag_in_octet A = refl

-- ---- MSG and CLO

pub chunk_found : (f : Frame) (c : Chunk) → IsChunkOf f c → chunk_in f ≡ Some c
unfolding chunk_in
chunk_found f c h =
    ap (λ o. chunk_with o (token_header.decode f.body)) (ap flag_in h.flag ∙ flag_in_octet c.flag)
    ∙ ap (chunk_with (Some c.flag)) (ap token_header.decode h.octets
    ∙ sound_token_header.exact.complete (c.channel, c.token) h.security (h.sequence ++ c.body) h.security_encoded)
    ∙ ap (chunk_behind (Some c.flag) (c.channel, c.token)) (sound_sequence_header.exact.complete (c.sequence, c.request) h.sequence c.body h.sequence_encoded)

-- ---- OPN

pub opening_found : (f : Frame) (c : OpenChunk) → IsOpenChunkOf f c → opening_in f ≡ Some c
unfolding opening_in
opening_found f c h =
    ap opening_with (ap policy_header.decode h.octets
    ∙ sound_policy_header.exact.complete (c.channel, (Some none_policy, (h.certificate, h.thumbprint))) h.security
    (h.sequence ++ c.body) h.security_encoded)
    ∙ ap (λ b. opening_behind b c.channel (sequence_header.decode (h.sequence ++ c.body))) ((bytes_eq-Decides none_policy none_policy).1 refl)
    ∙ ap (opening_behind true c.channel) (sound_sequence_header.exact.complete (c.sequence, c.request) h.sequence c.body h.sequence_encoded)

refused_behind : (b : Bool) (channel : ℕ) (found : Option ((ℕ × ℕ) × List ℕ)) → is_some (opening_behind b channel found) ≡ is_none (sequence_fault b found)
refused_behind false channel found = refl
refused_behind true channel None = refl
refused_behind true channel (Some found) = refl

refused_with : (found : Option (SecurityHeader × List ℕ)) → is_some (opening_with found) ≡ is_none (headers_fault found)
refused_with None = refl
refused_with (Some found) = refused_behind (is_none_policy found.0.1.0) found.0.0 (sequence_header.decode found.1)

pub opening_refused : (f : Frame) → is_some (opening_in f) ≡ is_none (open_refusal f.body)
unfolding opening_in
opening_refused f = refused_with (policy_header.decode f.body)

none_of : {A : Type 0} (o : Option A) → is_some o ≡ false → o ≡ None
none_of None e = refl
none_of (Some a) e = absurd cc

pub opening_none : (f : Frame) (fault : OpenFault) → open_refusal f.body ≡ Some fault → opening_in f ≡ None
opening_none f fault e = none_of (opening_in f) (opening_refused f ∙ ap is_none e)
