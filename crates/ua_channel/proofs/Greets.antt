-- What a server makes of a HEL.
use Rattle.std.proofs.Common.{◌≡◌, ℕ, ◌≤◌, min, Bool, true, false, ◌||◌, ltb, List, [], ◌∷◌, Option, Some, None, Ok, Err, refl, ◌∙◌, ap, arith}
use Rattle.std.proofs.lemmas.Bool.{ltb-false}
use Rattle.ua_builtin.specs.Reasons.{first_reason}
use Rattle.ua_builtin.specs.Status.{of_code}
use Rattle.ua_builtin.specs.declared.status_code.StatusCode.{StatusCode}
use Rattle.ua_frame.specs.declared.ack.Ack.{Ack}
use Rattle.ua_frame.specs.declared.hello.Hello.{Hello}
use Rattle.ua_frame.specs.declared.limits.Limits.{Limits}
use Rattle.ua_frame.specs.Agreement.{hello_reasons, is_url_long, unless_refused, ack_to, agreed}
use Rattle.ua_frame.specs.Hello.{hello_in}
use Rattle.ua_frame.specs.Limits.{tighter}
use Rattle.ua_channel.specs.Agreement.{Agreement}
use Rattle.ua_channel.specs.Content.Content.{Greets}
use Rattle.ua_channel.specs.Received.{Received}
use Rattle.ua_channel.specs.inside.ServerParts.{AgreesTo}
use Rattle.ua_channel.specs.ServerRefusals.{server_reasons}

-- ---- what is agreed to

refused_by : (o : Option ℕ) (a : Ack) (code : StatusCode) → unless_refused o a ≡ Err code → o ≡ Some code.code
refused_by None a code e = absurd cc
refused_by (Some n) a code e =
    let same : of_code n ≡ code = cc in
    ap (λ (c : StatusCode). Some c.code) same

agreed_by : (o : Option ℕ) (a b : Ack) → unless_refused o a ≡ Ok b → (o ≡ None) × (b ≡ a)
agreed_by None a b e = (refl, cc)
agreed_by (Some n) a b e = absurd cc

-- ---- the reasons

-- a body that is no Hello
pub refuses_unreadable : (limits : Limits) (channel : ℕ) (before : Received) (body : List ℕ) → hello_in body ≡ None
    → first_reason (server_reasons limits channel before (Greets (hello_in body))) ≡ Some 0x8007_0000
refuses_unreadable limits channel before body none = ap (λ (o : Option Hello). first_reason (server_reasons limits channel before (Greets o))) none

reasons_of : (limits : Limits) (channel : ℕ) (before : Received) (body : List ℕ) (h : Hello) → hello_in body ≡ Some h
    → first_reason (server_reasons limits channel before (Greets (hello_in body))) ≡ first_reason (hello_reasons h)
reasons_of limits channel before body h some = ap (λ (o : Option Hello). first_reason (server_reasons limits channel before (Greets o))) some

-- a Hello that is refused
pub refuses_hello : (limits : Limits) (channel : ℕ) (before : Received) (body : List ℕ) (h : Hello) (code : StatusCode) → hello_in body ≡ Some h
    → agreed h limits ≡ Err code → first_reason (server_reasons limits channel before (Greets (hello_in body))) ≡ Some code.code
refuses_hello limits channel before body h code some refused = reasons_of limits channel before body h some
    ∙ refused_by (first_reason (hello_reasons h)) (ack_to h limits) code refused

small_by : (url receives sends : Bool) → first_reason {A = ℕ} ((0x8083_0000, url) ∷ (0x8081_0000, receives || sends) ∷ []) ≡ None → sends ≡ false
small_by true receives sends e = absurd cc
small_by false true sends e = absurd cc
small_by false false true e = absurd cc
small_by false false false e = refl

agreed_size : (limits : Limits) (h : Hello) → first_reason (hello_reasons h) ≡ None → 8192 ≤ min limits.receive_buffer_size h.send_buffer_size
agreed_size limits h good =
    let large : 8192 ≤ h.send_buffer_size =
    ltb-false h.send_buffer_size 8192 (small_by (is_url_long h) (ltb h.receive_buffer_size 8192) (ltb h.send_buffer_size 8192) good) in
    omega (arith, limits.receives, large)

abbrev agreed_with : Limits → Hello → Ack → Agreement
agreed_with limits h ack = record { ack = ack; octets = tighter h.max_message_size limits.max_response_size; chunks = h.max_chunk_count }

-- a Hello that is agreed to
pub agrees : (limits : Limits) (body : List ℕ) (h : Hello) (ack : Ack) → hello_in body ≡ Some h → agreed h limits ≡ Ok ack → (octets : ℕ)
    → octets ≡ tighter h.max_message_size limits.max_response_size → AgreesTo limits body (record { ack = ack; octets = octets; chunks = h.max_chunk_count })
agrees limits body h ack some ok octets octets_is =
    let by = agreed_by (first_reason (hello_reasons h)) (ack_to h limits) ack ok in
    record {
      hello = h;
      reads = some;
      agreement_is = ap (λ (n : ℕ). record { ack = ack; octets = n; chunks = h.max_chunk_count }) octets_is ∙ ap (agreed_with limits h) by.1;
      large = agreed_size limits h by.0;
      accepted = λ channel before. reasons_of limits channel before body h some ∙ by.0;
    }
