-- What a client makes of an OPN.
use Rattle.std.proofs.Common.{◌≡◌, ℕ, Bool, true, false, leb, List, [], ◌∷◌, Option, Some, None, Ok, Err, refl, sym, ◌∙◌, ap, subst}
use Rattle.ua_builtin.specs.Reasons.{first_reason}
use Rattle.ua_frame.specs.declared.limits.Limits.{Limits}
use Rattle.ua_chunk.specs.declared.fault.OpenFault.{OpenFault}
use Rattle.ua_chunk.specs.declared.fault.OpenFault.TheVariants.{Unreadable, Policy, OutOfMemory}
use Rattle.ua_chunk.specs.Opening.{SecurityHeader, policy_of, is_none_policy, open_refusal}
use Rattle.ua_opening.specs.Open.{answer_read}
use Rattle.ua_opening.specs.declared.open.OpenAnswer.{OpenAnswer}
use Rattle.ua_opening.specs.declared.open.OpenAnswer.TheVariants.{Open, Fault}
use Rattle.ua_opening.specs.declared.secure_channel.OpenResponse.{OpenResponse}
use Rattle.ua_channel.specs.Asks.{Asking}
use Rattle.ua_channel.specs.inside.ClientParts.{IsStopFor, Judged, JudgesAnswer, IsAnsweredBy, body_reasons, answer_reasons}
use Rattle.ua_channel.specs.inside.EndFaults.{of_open_fault}
use Rattle.ua_channel.specs.ClientTable.{client_reasons}
use Rattle.ua_channel.specs.ClientTokens.{answer_in}
use Rattle.ua_channel.specs.ClientTold.{Why, ours}
use Rattle.ua_channel.specs.Content.{Opening, opening_numbered, opening_secured, opening_of}
use Rattle.ua_channel.specs.Content.Content.{Opens}
use Rattle.ua_channel.specs.Received.{Received}
use Rattle.ua_channel.specs.declared.client.answer.Answer.{Answer}
use Rattle.ua_channel.specs.declared.end_fault.EndFault.{EndFault}
use Rattle.ua_channel.specs.declared.end_fault.EndFault.TheVariants as stop
use Rattle.ua_channel.proofs.ClientAsking.{first_unset}
use Rattle.ua_channel.proofs.Openings.{HasHeaders, open_code, refuses_headers}

-- ---- headers that are refused

module _ (limits : Limits) (before : Received) (asked : List Asking) where
  abbrev why_not : Opening → Option Why
  why_not o = first_reason (client_reasons limits before asked (Opens o))

  unread_here : (body : List ℕ) → why_not (opening_secured body None) ≡ Some (ours 0x8007_0000)
  unread_here body = refl

  refused_policy : (header : SecurityHeader) (octets : List ℕ) (found : Option ((ℕ × ℕ) × List ℕ)) → is_none_policy (policy_of header) ≡ false
      → why_not (opening_numbered header octets found) ≡ Some (ours 0x8055_0000)
  refused_policy header octets None other = rw other refl
  refused_policy header octets (Some found) other = rw other refl

  refused_numbers : (header : SecurityHeader) (octets : List ℕ) → is_none_policy (policy_of header) ≡ true
      → why_not (opening_numbered header octets None) ≡ Some (ours 0x8007_0000)
  unfolding answer_in
  refused_numbers header octets none = rw none refl

  headers_refused : (body : List ℕ) (fault : OpenFault) → open_refusal body ≡ Some fault
      → first_reason (client_reasons limits before asked (Opens (opening_of body))) ≡ Some (ours (open_code fault))
  headers_refused body fault h = refuses_headers ours why_not unread_here refused_policy refused_numbers body fault h

judges_fault : (body : List ℕ) (fault : OpenFault) → open_refusal body ≡ Some fault → JudgesAnswer (opening_of body) (Err (of_open_fault fault))
unfolding open_code
judges_fault body Unreadable h = λ limits before asked. headers_refused limits before asked body Unreadable h
judges_fault body Policy h = λ limits before asked. headers_refused limits before asked body Policy h
judges_fault body OutOfMemory h = λ limits before asked. tt

-- what a fault of the headers comes to
pub judges_headers : (body : List ℕ) (fault : OpenFault) (e : EndFault) → open_refusal body ≡ Some fault → e ≡ of_open_fault fault
    → JudgesAnswer (opening_of body) (Err e)
judges_headers body fault e h is = subst (λ (x : EndFault). JudgesAnswer (opening_of body) (Err x)) (sym is) (judges_fault body fault h)

-- ---- what is behind them

module _ (on sequence request : ℕ) (body behind : List ℕ) (h : HasHeaders body on sequence request behind) where
  answer_is_read : answer_in (opening_of body) ≡ answer_read behind
  unfolding answer_in
  answer_is_read = rw h.opening_is refl

  bad_response : (limits : Limits) (before : Received) (asked : List Asking) (r : OpenResponse) (why : Why) (b : Bool) → answer_read behind ≡ Some (Open r)
      → leb 0x8000_0000 r.response_header.service_result.code ≡ b
      → first_reason ((ours r.response_header.service_result.code, b) ∷ []) ≡ Some why
      → first_reason (client_reasons limits before asked (Opens (opening_of body))) ≡ Some why
  unfolding answer_in
  bad_response limits before asked r why true is bad first = rw (h.opening_is, h.policy, is, bad) first
  bad_response limits before asked r why false is bad first = absurd cc

  refused_by : (limits : Limits) (before : Received) (asked : List Asking) (answer : Option OpenAnswer) (why : Why) → answer_read behind ≡ answer
      → first_reason (body_reasons answer) ≡ Some why
      → first_reason (client_reasons limits before asked (Opens (opening_of body))) ≡ Some why
  unfolding answer_in
  refused_by limits before asked None why is first = rw (h.opening_is, h.policy, is) first
  refused_by limits before asked (Some (Fault f)) why is first = rw (h.opening_is, h.policy, is) first
  refused_by limits before asked (Some (Open r)) why is first = bad_response limits before asked r why (leb 0x8000_0000 r.response_header.service_result.code)
      is refl first

  -- what a fault of the body comes to
  pub judges_body : (e : EndFault) → IsStopFor (body_reasons (answer_read behind)) e → JudgesAnswer (opening_of body) (Err e)
  judges_body (stop.Refused code) r = λ limits before asked. refused_by limits before asked (answer_read behind) (ours code.code) refl r
  judges_body (stop.Peer code) r = λ limits before asked. refused_by limits before asked (answer_read behind) (record { code = code.code; peer = true }) refl r
  judges_body stop.OutOfMemory r = λ limits before asked. tt
  judges_body stop.Closed r = λ limits before asked. r

  good_bit : (r : OpenResponse) → first_reason (body_reasons (Some (Open r))) ≡ None → leb 0x8000_0000 r.response_header.service_result.code ≡ false
  good_bit r e = first_unset (ours r.response_header.service_result.code) (leb 0x8000_0000 r.response_header.service_result.code) [] e

  remains : (limits : Limits) (before : Received) (asked : List Asking) (r : OpenResponse) (a : Answer) → answer_read behind ≡ Some (Open r)
      → leb 0x8000_0000 r.response_header.service_result.code ≡ false
      → a.sequence ≡ sequence → a.request ≡ request → r.channel_id ≡ a.channel → r.token_id ≡ a.token
      → first_reason (client_reasons limits before asked (Opens (opening_of body))) ≡ first_reason (answer_reasons before asked a)
  unfolding answer_in
  remains limits before asked r a is good s q ch tk = rw (h.opening_is, h.policy, is, good, ch, tk, s, q) refl

  -- a good answer
  pub judges_good : (a : Answer) → a.sequence ≡ sequence → a.request ≡ request → Judged (body_reasons (answer_read behind)) (IsAnsweredBy (answer_read behind))
      (Ok (record { channel = a.channel; token = a.token })) → JudgesAnswer (opening_of body) (Ok a)
  judges_good a s q found =
      let by = found.1 in
      record {
        response = by.response;
        answer_is = answer_is_read ∙ by.answer_is;
        numbers_are = ap (λ (o : Opening). o.numbers) h.opening_is ∙ (ap (λ (n : ℕ). Some (n, request)) (sym s) ∙ ap (λ (n : ℕ). Some (a.sequence, n)) (sym q));
        channel_is = by.issues.0;
        token_is = by.issues.1;
        remain = λ limits before asked. remains limits before asked by.response a by.answer_is
            (good_bit by.response (ap (λ (o : Option OpenAnswer). first_reason (body_reasons o)) (sym by.answer_is) ∙ found.0)) s q by.issues.0 by.issues.1;
      }
