-- What a client is told first: an ACK, and behind it that the channel is open.
use Rattle.std.specs.Prelude.{◌≡◌, ◌⊎◌, ℕ, Bool, true, false, is_none, IsTrue, List, [], ◌∷◌, ◌++◌, Option, Some, None, map}
use Rattle.std.proofs.Common.{refl, sym, ◌∙◌, ap, subst, inl, inr}
use Rattle.ua_builtin.specs.Reasons.{first_reason}
use Rattle.ua_frame.specs.After.{AllFrom, AllAfter, each_from, each_after}
use Rattle.ua_frame.specs.Kinds.{lets_in}
use Rattle.ua_frame.specs.Messages.{ack as ack_format, error as error_format}
use Rattle.ua_frame.specs.Run.{Fits, events}
use Rattle.ua_frame.specs.Whole.{whole_of}
use Rattle.ua_frame.specs.declared.ack.Ack.{Ack}
use Rattle.ua_frame.specs.declared.error.ErrorFrame.{ErrorFrame}
use Rattle.ua_frame.specs.declared.frame.Frame.{Frame}
use Rattle.ua_frame.specs.declared.kind.Kind.{Kind}
use Rattle.ua_frame.specs.declared.kind.Kind.TheVariants.{Hel, Msg, Opn, Clo}
use Rattle.ua_frame.specs.declared.kind.Kind.TheVariants as kind
use Rattle.ua_frame.specs.declared.limits.Limits.{Limits}
use Rattle.ua_opening.specs.declared.open.OpenAnswer.{OpenAnswer}
use Rattle.ua_opening.specs.declared.open.OpenAnswer.TheVariants.{Open, Fault}
use Rattle.ua_opening.specs.declared.secure_channel.OpenResponse.{OpenResponse}
use Rattle.ua_channel.specs.Asks.{Asking, Placed, asked_before, end_of}
use Rattle.ua_channel.specs.ClientTable.{ack_gate, answer_gate, client_gate, client_reasons, client_rules, is_bad_answer}
use Rattle.ua_channel.specs.ClientTokens.{answer_in, response_listed, open_responses}
use Rattle.ua_channel.specs.ClientTold.{ClientTold, client_tells, told_response}
use Rattle.ua_channel.specs.Content.{Content, Opening, content, content_by, opening_of}
use Rattle.ua_channel.specs.Content.Content.{Acks, Fails, Opens}
use Rattle.ua_channel.specs.Received.{Received, after, nothing_received, received}
use Rattle.ua_channel.proofs.OneFrameMore.{received-nil, received-push}
use Rattle.ua_client.specs.Opening.{is_agreed, is_opened}
use Rattle.ua_client.proofs.Renewals.{none-holds}

-- ---- the order

-- nothing is told, or first that the channel is open
abbrev pub IsOpening : List ClientTold → Type 0
IsOpening [] = Unit {0}
IsOpening (t ∷ ts) = is_opened t ≡ true

-- nothing is told, or first an ACK, and behind it nothing, or first that the channel is open
abbrev pub IsGreeting : List ClientTold → Type 0
IsGreeting [] = Unit {0}
IsGreeting (t ∷ ts) = (is_agreed t ≡ true) × IsOpening ts

-- ---- the kinds that are let in

greets-by : (k : Kind) → IsTrue (lets_in ack_gate k) → (k ≡ kind.Ack) ⊎ (k ≡ kind.Err)
greets-by Hel h = absurd cc
greets-by kind.Ack h = inl refl
greets-by kind.Err h = inr refl
greets-by Msg h = absurd cc
greets-by Opn h = absurd cc
greets-by Clo h = absurd cc

opens-by : (size : ℕ) (k : Kind) → IsTrue (lets_in (answer_gate size) k) → (k ≡ Opn) ⊎ (k ≡ kind.Err)
opens-by size Hel h = absurd cc
opens-by size kind.Ack h = absurd cc
opens-by size kind.Err h = inr refl
opens-by size Msg h = absurd cc
opens-by size Opn h = inl refl
opens-by size Clo h = absurd cc

-- ---- what is accepted

abbrev Accepts : Limits → Received → List Asking → Content → Type 0
Accepts limits before asked c = first_reason (client_reasons limits before asked c) ≡ None

error-refused : (limits : Limits) (before : Received) (asked : List Asking) (error : Option ErrorFrame) → Accepts limits before asked (Fails error) → ⊥
error-refused limits before asked error e =
    let all = none-holds (client_reasons limits before asked (Fails error)) e in
    let no : ◌≡◌ {A = Bool} true false = all.1.1.1.1.1.1.1.1.1.1.1.1.1.0 in
    absurd cc

ack-read : (limits : Limits) (before : Received) (asked : List Asking) (ack : Option Ack) → Accepts limits before asked (Acks ack) → (a : Ack) × (ack ≡ Some a)
ack-read limits before asked None e =
    let all = none-holds (client_reasons limits before asked (Acks None)) e in
    let no : ◌≡◌ {A = Bool} true false = all.0 in
    absurd cc
ack-read limits before asked (Some a) e = (a, refl)

response-in : (answer : Option OpenAnswer) → is_none answer ≡ false → is_bad_answer answer ≡ false → (r : OpenResponse) × (answer ≡ Some (Open r))
response-in None h k = absurd cc
response-in (Some (Open r)) h k = (r, refl)
response-in (Some (Fault f)) h k = absurd cc

response-read : (limits : Limits) (before : Received) (asked : List Asking) (o : Opening) → Accepts limits before asked (Opens o)
    → (r : OpenResponse) × (answer_in o ≡ Some (Open r))
response-read limits before asked o e =
    let all = none-holds (client_reasons limits before asked (Opens o)) e in
    response-in (answer_in o) all.1.1.1.0 all.1.1.1.1.0

-- ---- one frame

kind-of : (f : Frame) (k : Kind) → f.kind ≡ k → content f ≡ content_by k f
unfolding content
kind-of f k is = ap (λ (j : Kind). content_by j f) is

first-frame : (limits : Limits) (before : Received) (asked : List Asking) (f : Frame) → before ≡ nothing_received → IsTrue (lets_in (client_gate before) f.kind)
    → Accepts limits before asked (content f)
    → (a : Ack) × (content f ≡ Acks (Some a))
unfolding open_responses
first-frame limits before asked f none place e = by (greets-by f.kind (subst (λ (b : Received). IsTrue (lets_in (client_gate b) f.kind)) none place))
  where
    by : (f.kind ≡ kind.Ack) ⊎ (f.kind ≡ kind.Err) → (a : Ack) × (content f ≡ Acks (Some a))
    by (inl is) =
        let carries = kind-of f kind.Ack is in
        let a = ack-read limits before asked (whole_of ack_format f.body) (subst (Accepts limits before asked) carries e) in
        (a.0, carries ∙ ap Acks a.1)
    by (inr is) = absurd (error-refused limits before asked (whole_of error_format f.body) (subst (Accepts limits before asked) (kind-of f kind.Err is) e))

second-frame : (limits : Limits) (before : Received) (asked : List Asking) (f : Frame) (a : Ack) → before ≡ record nothing_received { ack = Some a }
    → IsTrue (lets_in (client_gate before) f.kind) → Accepts limits before asked (content f)
    → (o : Opening) × (r : OpenResponse) × (content f ≡ Opens o) × (answer_in o ≡ Some (Open r))
unfolding open_responses
second-frame limits before asked f a greeted place e =
    by (opens-by a.send_buffer_size f.kind (subst (λ (b : Received). IsTrue (lets_in (client_gate b) f.kind)) greeted place))
  where
    by : (f.kind ≡ Opn) ⊎ (f.kind ≡ kind.Err) → (o : Opening) × (r : OpenResponse) × (content f ≡ Opens o) × (answer_in o ≡ Some (Open r))
    by (inl is) =
        let carries = kind-of f Opn is in
        let r = response-read limits before asked (opening_of f.body) (subst (Accepts limits before asked) carries e) in
        (opening_of f.body, r.0, carries, r.1)
    by (inr is) = absurd (error-refused limits before asked (whole_of error_format f.body) (subst (Accepts limits before asked) (kind-of f kind.Err is) e))

-- ---- all frames

opening-told : (before : Received) (a : Ack) (c : Content) (o : Opening) (r : OpenResponse) (more : List ClientTold)
    → before ≡ record nothing_received { ack = Some a } → c ≡ Opens o → answer_in o ≡ Some (Open r)
    → IsOpening (client_tells before c ++ more)
unfolding open_responses
opening-told before a c o r more greeted carries answer =
    subst (λ (b : Received). IsOpening (client_tells b c ++ more)) (sym greeted)
    (subst (λ (d : Content). IsOpening (client_tells (record nothing_received { ack = Some a }) d ++ more)) (sym carries)
    (subst (λ (x : Option OpenAnswer). IsOpening (map (told_response []) (response_listed x) ++ more)) (sym answer) refl))

opening-from : (limits : Limits) (asks : List Placed) (start fs : List Frame) (a : Ack) → received start ≡ record nothing_received { ack = Some a }
    → AllFrom (Fits (client_rules limits asks)) start fs
    → IsOpening (each_from (client_rules limits asks).tells start fs)
opening-from limits asks start [] a greeted fits = tt
opening-from limits asks start (f ∷ fs) a greeted fits =
    let found = second-frame limits (received start) (asked_before (end_of start f) asks) f a greeted fits.0.let_in.kind fits.0.accepted in
    opening-told (received start) a (content f) found.0 found.1 (each_from (client_rules limits asks).tells (start ++ f ∷ []) fs) greeted found.2 found.3

greeting-from : (limits : Limits) (asks : List Placed) (frames : List Frame) → AllFrom (Fits (client_rules limits asks)) [] frames
    → IsGreeting (each_from (client_rules limits asks).tells [] frames)
greeting-from limits asks [] fits = tt
greeting-from limits asks (f ∷ fs) fits =
    let found = first-frame limits (received []) (asked_before (end_of [] f) asks) f received-nil fits.0.let_in.kind fits.0.accepted in
    let later : received (f ∷ []) ≡ record nothing_received { ack = Some found.0 } = received-push [] f
    ∙ (ap (λ (b : Received). after b (content f)) received-nil ∙ ap (after nothing_received) found.1) in
    subst (λ (c : Content). IsGreeting (client_tells (received []) c ++ each_from (client_rules limits asks).tells (f ∷ []) fs)) (sym found.1)
    (refl, opening-from limits asks (f ∷ []) fs found.0 later fits.1)

-- what frames tell that a client takes
pub greeting : (limits : Limits) (asks : List Placed) (frames : List Frame) → AllAfter (Fits (client_rules limits asks)) frames
    → IsGreeting (events (client_rules limits asks) frames)
unfolding AllAfter each_after
greeting limits asks frames fits = greeting-from limits asks frames fits
