-- What a client makes of an ACK and of an ERR.
use Rattle.std.proofs.Common.{◌≡◌, ℕ, List, [], Bool, Option, Some, None, Result, Ok, Err, sym, ◌∙◌, ap}
use Rattle.ua_builtin.specs.Reasons.{first_reason}
use Rattle.ua_frame.specs.declared.ack.Ack.{Ack}
use Rattle.ua_frame.specs.declared.frame.Frame.{Frame}
use Rattle.ua_frame.specs.declared.kind.Kind.TheVariants as kind
use Rattle.ua_frame.specs.declared.limits.Limits.{Limits}
use Rattle.ua_frame.specs.Messages.{ack, error}
use Rattle.ua_frame.specs.Whole.{whole_of}
use Rattle.ua_channel.specs.Asks.{Asking}
use Rattle.ua_channel.specs.inside.ClientParts.{IsStopFor, Judged, error_reasons, ack_reasons, IsAgreed}
use Rattle.ua_channel.specs.ClientTable.{client_reasons}
use Rattle.ua_channel.specs.ClientTold.{Why}
use Rattle.ua_channel.specs.Content.{Content, content}
use Rattle.ua_channel.specs.Content.Content.{Acks, Fails}
use Rattle.ua_channel.specs.Received.{Received, nothing_received}
use Rattle.ua_channel.specs.declared.client.agreed.Agreed.{Agreed}
use Rattle.ua_channel.specs.declared.end_fault.EndFault.{EndFault}
use Rattle.ua_channel.specs.declared.end_fault.EndFault.TheVariants.{Refused, Peer, OutOfMemory, Closed}
use Rattle.ua_channel.proofs.Carried.{content_ack, content_err}

-- ---- other reasons with the same first one

pub stops_same : (rs ss : List (Why × Bool)) (fault : EndFault) → first_reason ss ≡ first_reason rs → IsStopFor rs fault → IsStopFor ss fault
stops_same rs ss (Refused code) same h = same ∙ h
stops_same rs ss (Peer code) same h = same ∙ h
stops_same rs ss OutOfMemory same h = tt
stops_same rs ss Closed same h = h

pub judged_same : {A : Type 0} (rs ss : List (Why × Bool)) (P Q : A → Type 0) (r : Result A EndFault) → first_reason ss ≡ first_reason rs
    → ((a : A) → first_reason rs ≡ None → P a → Q a) → Judged rs P r → Judged ss Q r
judged_same rs ss P Q (Ok a) same more h = (same ∙ h.0, more a h.0 h.1)
judged_same rs ss P Q (Err stop) same more h = stops_same rs ss stop same h

-- ---- ACK and ERR

pub judged_ack : (limits : Limits) (f : Frame) (body : List ℕ) (r : Result Agreed EndFault) → f.kind ≡ kind.Ack → body ≡ f.body
    → Judged (ack_reasons limits (whole_of ack body)) (IsAgreed (whole_of ack body)) r
    → Judged (client_reasons limits nothing_received [] (content f)) (λ (a : Agreed). content f ≡ Acks (Some a.ack)) r
judged_ack limits f body r is body_is h =
    let carried : content f ≡ Acks (whole_of ack body) = content_ack f is ∙ ap (λ (t : List ℕ). Acks (whole_of ack t)) (sym body_is) in
    judged_same (ack_reasons limits (whole_of ack body)) (client_reasons limits nothing_received [] (content f)) (IsAgreed (whole_of ack body))
    (λ (a : Agreed). content f ≡ Acks (Some a.ack)) r
    (ap (λ (c : Content). first_reason (client_reasons limits nothing_received [] c)) carried)
    (λ a none agreed. carried ∙ ap (λ (o : Option Ack). Acks o) agreed) h

pub stopped_err : (limits : Limits) (before : Received) (asked : List Asking) (f : Frame) (body : List ℕ) (fault : EndFault) → f.kind ≡ kind.Err → body ≡ f.body
    → IsStopFor (error_reasons (whole_of error body)) fault
    → IsStopFor (client_reasons limits before asked (content f)) fault
stopped_err limits before asked f body fault is body_is h =
    let carried : content f ≡ Fails (whole_of error body) = content_err f is ∙ ap (λ (t : List ℕ). Fails (whole_of error t)) (sym body_is) in
    stops_same (error_reasons (whole_of error body)) (client_reasons limits before asked (content f)) fault
    (ap (λ (c : Content). first_reason (client_reasons limits before asked c)) carried) h
