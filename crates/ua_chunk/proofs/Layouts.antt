-- How frames carry chunks.
use Rattle.std.proofs.Common.{◌≡◌, ℕ, ◌-◌, ◌≤◌, Bool, true, Option, Some, None, List, ◌++◌, refl}
use Rattle.std.proofs.Common.{sym, ◌∙◌, ap, subst, arith, length, drop, length-append, append_assoc}
use Rattle.std.proofs.lemmas.List.{drop_at, drop-drop}
use Rattle.std.proofs.lemmas.Slice.Eq.{bytes_eq-Decides}
use Rattle.ua_wire.specs.Exact.{Begins}
use Rattle.ua_wire.specs.Number.{number_at}
use Rattle.ua_frame.specs.declared.frame.Frame.{Frame}
use Rattle.ua_chunk.specs.declared.flag.Flag.{Flag}
use Rattle.ua_chunk.specs.Flag.{flag_octet}
use Rattle.ua_chunk.specs.Layout.{token_header, sequence_header, IsChunkOf}
use Rattle.ua_chunk.specs.Opening.{policy_header, none_policy, is_none_policy, sequence_fault, headers_fault, HeadersAt}
use Rattle.ua_chunk.proofs.HeadersLawful.{sound_token_header, sound_sequence_header, sound_policy_header}

-- two numbers, one behind the other
two_numbers : (b rest left : List ℕ) (n m : ℕ) → number_at 4 b ≡ Some (n, rest) → number_at 4 rest ≡ Some (m, left)
    → token_header.decode b ≡ Some ((n, m), left)
two_numbers b rest left n m e f = rw (e, f) refl

pub sixteen : (b r1 r2 r3 r4 : List ℕ) → r1 ≡ drop 4 b → r2 ≡ drop 4 r1 → r3 ≡ drop 4 r2 → r4 ≡ drop 4 r3 → drop 16 b ≡ r4
sixteen b r1 r2 r3 r4 e1 e2 e3 e4 =
    sym (e4 ∙ ap (drop 4) (e3 ∙ ap (drop 4) (e2 ∙ ap (drop 4) e1 ∙ drop-drop 4 4 b) ∙ drop-drop 4 8 b) ∙ drop-drop 4 12 b)

pub chunk_is : (f : Frame) (flag : Flag) (r1 r2 r3 r4 body : List ℕ) (channel token sequence request : ℕ) → f.flag ≡ flag_octet flag
    → number_at 4 f.body ≡ Some (channel, r1) → number_at 4 r1 ≡ Some (token, r2) → number_at 4 r2 ≡ Some (sequence, r3) → number_at 4 r3 ≡ Some (request, r4)
    → body ≡ r4
    → IsChunkOf f (record { channel = channel; token = token; flag = flag; sequence = sequence; request = request; body = body })
chunk_is f flag r1 r2 r3 r4 body channel token sequence request same e1 e2 e3 e4 left =
    let security : Begins token_header.encodes f.body (channel, token) r2 = sound_token_header.exact.sound f.body (channel, token) r2
    (two_numbers f.body r1 r2 channel token e1 e2) in
    let numbers : Begins sequence_header.encodes r2 (sequence, request) r4 = sound_sequence_header.exact.sound r2 (sequence, request) r4
    (two_numbers r2 r3 r4 sequence request e3 e4) in
    record {
      flag = same;
      security = security.front;
      sequence = numbers.front;
      octets = security.parts ∙ ap (λ (t : List ℕ). security.front ++ t) (numbers.parts ∙ ap (λ (t : List ℕ). numbers.front ++ t) (sym left));
      security_encoded = security.encoded;
      sequence_encoded = numbers.encoded;
    }

-- ---- OPN

pub none_is : (policy : Option (List ℕ)) → true ≡ is_none_policy policy → policy ≡ Some none_policy
none_is None e = absurd cc
none_is (Some p) e = ap (λ (t : List ℕ). Some t) ((bytes_eq-Decides p none_policy).0 (sym e))

left_behind : (front middle rest octets : List ℕ) → octets ≡ front ++ (middle ++ rest) → drop (length octets - length rest) octets ≡ rest
left_behind front middle rest octets e =
    let all : octets ≡ (front ++ middle) ++ rest = e ∙ sym (append_assoc front middle rest) in
    let count : length (front ++ middle) ≡ length octets - length rest = omega (arith, ap length all, length-append (front ++ middle) rest) in
    ap (drop (length octets - length rest)) all ∙ drop_at (front ++ middle) rest (length octets - length rest) count

pub shorter : (octets rest left : List ℕ) (channel sequence request : ℕ) (policy certificate thumbprint : Option (List ℕ))
    → policy_header.decode octets ≡ Some ((channel, (policy, (certificate, thumbprint))), rest)
    → sequence_header.decode rest ≡ Some ((sequence, request), left) → length left ≤ length octets
shorter octets rest left channel sequence request policy certificate thumbprint e f =
    let security = sound_policy_header.exact.sound octets (channel, (policy, (certificate, thumbprint))) rest e in
    let numbers = sound_sequence_header.exact.sound rest (sequence, request) left f in
    omega (arith, ap length security.parts, length-append security.front rest, ap length numbers.parts, length-append numbers.front left)

pub headers_at : (octets rest left : List ℕ) (channel sequence request : ℕ) (policy certificate thumbprint : Option (List ℕ))
    → policy_header.decode octets ≡ Some ((channel, (policy, (certificate, thumbprint))), rest)
    → true ≡ is_none_policy policy → sequence_header.decode rest ≡ Some ((sequence, request), left)
    → HeadersAt octets channel sequence request (length octets - length left)
headers_at octets rest left channel sequence request policy certificate thumbprint e none f =
    let security : Begins policy_header.encodes octets (channel, (policy, (certificate, thumbprint))) rest =
    sound_policy_header.exact.sound octets (channel, (policy, (certificate, thumbprint))) rest e in
    let numbers : Begins sequence_header.encodes rest (sequence, request) left = sound_sequence_header.exact.sound rest (sequence, request) left f in
    let all : octets ≡ security.front ++ (numbers.front ++ left) = security.parts ∙ ap (λ (t : List ℕ). security.front ++ t) numbers.parts in
    record {
      certificate = certificate;
      thumbprint = thumbprint;
      security = security.front;
      numbers = numbers.front;
      within = omega arith;
      parts = all ∙ ap (λ (t : List ℕ). security.front ++ (numbers.front ++ t)) (sym (left_behind security.front numbers.front left octets all));
      security_encoded = subst (λ (p : Option (List ℕ)). policy_header.encodes (channel, (p, (certificate, thumbprint))) security.front)
          (none_is policy none) security.encoded;
      sequence_encoded = numbers.encoded;
      good = ap headers_fault e ∙ ap (λ (b : Bool). sequence_fault b (sequence_header.decode rest)) (sym none) ∙ ap (sequence_fault true) f;
    }
